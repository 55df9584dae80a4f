-- What is printed of items is read back as the forest that they come to.
use Prim.Native.Nat.{ℕ, zero, suc, ◌+◌, ◌<◌}
use native.Mathlib.Omega.{arith}
use mathlib.Core.Path.{◌≡◌, refl, sym, ap, ◌∙◌, subst}
use mathlib.Core.Bool.{Bool, true, false, cond}
use mathlib.Core.Option.{some}
use mathlib.Core.List.{List, [], ◌∷◌, ◌++◌, append_assoc, append-nil}
use Rattle.lent.specs.Fold.{iterate}
use Rattle.lent.specs.Write.{Text, byte, lit, ◌▹◌, each, flat}
use Rattle.ink.specs.Ink.{indent}
use Rattle.ink.specs.Ink as Ink
use Rattle.items.specs.Items.{Word, word_text, Items, empty, leaf, group, ◌▸◌, choose, loop, with_words, head, close, render}
use Rattle.forest.specs.Forest.{Forest, end, node, ◌⊕◌, blank, left, right, mark_of, onto, is_comment, Stack, bottom, above, State, between, heading, skipping, grown, step, feed, finish, parse}
use Rattle.forest.specs.Plain.{word_bytes, head_bytes, group_bytes, plain}
use Rattle.forest.proofs.Quiet.{calm, Good, good_empty, good_leaf, good_group, good_both, good_choose, good_loop, Quiet, over, gap, sign, head_quiet}

pub ⊕-end : (f : Forest) → f ⊕ end ≡ f
⊕-end end = refl
⊕-end (node h a b) = ap (node h a) (⊕-end b)

pub ⊕-assoc : (f g k : Forest) → (f ⊕ g) ⊕ k ≡ f ⊕ (g ⊕ k)
⊕-assoc end g k = refl
⊕-assoc (node h a b) g k = ap (node h a) (⊕-assoc b g k)

pub feed_append : (st : State) (s t : List ℕ) → feed st (s ++ t) ≡ feed (feed st s) t
unfolding feed
feed_append st [] t = refl
feed_append st (b ∷ s) t = feed_append (step st (mark_of b) b) s t

-- blanks alone
data White : List ℕ → Type 0 where
  no_more : White []
  one_more : {b : ℕ} {s : List ℕ} → mark_of b ≡ blank → White s → White (b ∷ s)

white_append : {s t : List ℕ} → White s → White t → White (s ++ t)
white_append no_more v = v
white_append (one_more e w) v = one_more e (white_append w v)

-- the blanks at the front of a line
abbrev indented : ℕ → List ℕ
indented l = flat (each l indent)

white_line : (l : ℕ) → White (indented l)
unfolding flat mark_of iterate
white_line l = go l
  where
    go : (n : ℕ) → White (iterate (λ s i. s ++ flat (indent i)) [] n)
    go zero = no_more
    go (suc n) = white_append (go n) (one_more refl (one_more refl (one_more refl no_more)))

white_between : (s : Stack) (f : Forest) {w : List ℕ} → White w → feed (between s f) w ≡ between s f
unfolding feed step
white_between s f no_more = refl
white_between s f (one_more e w) = rw e (white_between s f w)

white_skipping : (s : Stack) (f : Forest) (n : ℕ) {w : List ℕ} → White w → feed (skipping s f n) w ≡ skipping s f n
unfolding feed step
white_skipping s f n no_more = refl
white_skipping s f n (one_more e w) = rw e (white_skipping s f n w)

white_starting : (s : Stack) (f : Forest) (a : List ℕ) {w : List ℕ} → White w → feed (heading s f true a) w ≡ heading s f true a
unfolding feed step
white_starting s f a no_more = refl
white_starting s f a (one_more e w) = rw e (white_starting s f a w)

-- the end of a line, and the next line's blanks
line_between : (s : Stack) (f : Forest) (l : ℕ) → feed (between s f) (flat (Ink.line l)) ≡ between s f
unfolding feed step flat Ink.line mark_of
line_between s f l = white_between s f (white_line l)

line_skipping : (s : Stack) (f : Forest) (n l : ℕ) → feed (skipping s f n) (flat (Ink.line l)) ≡ skipping s f n
unfolding feed step flat Ink.line mark_of
line_skipping s f n l = white_skipping s f n (white_line l)

line_heading : (s : Stack) (f : Forest) (a : List ℕ) (l : ℕ) → feed (heading s f false a) (flat (Ink.line l)) ≡ heading s f true (32 ∷ a)
unfolding feed step flat Ink.line mark_of
line_heading s f a l = white_starting s f (32 ∷ a) (white_line l)

-- a head
quiet_heading : (s : Stack) (f : Forest) (a : List ℕ) {h : List ℕ} → Quiet h → feed (heading s f false a) h ≡ heading s f false (onto h a)
unfolding feed step
quiet_heading s f a over = refl
quiet_heading s f a (gap {b = b} e q) = rw e (quiet_heading s f (b ∷ a) q)
quiet_heading s f a (sign {b = b} e q) = rw e (quiet_heading s f (b ∷ a) q)

quiet_skipping : (s : Stack) (f : Forest) (n : ℕ) {h : List ℕ} → Quiet h → feed (skipping s f n) h ≡ skipping s f n
unfolding feed step
quiet_skipping s f n over = refl
quiet_skipping s f n (gap e q) = rw e (quiet_skipping s f n q)
quiet_skipping s f n (sign e q) = rw e (quiet_skipping s f n q)

onto_onto : (s a b : List ℕ) → onto (onto s a) b ≡ onto a (s ++ b)
onto_onto [] a b = refl
onto_onto (c ∷ s) a b = onto_onto s (c ∷ a) b

-- read back to front and turned, a head is itself
turned : (h : List ℕ) → onto (onto h []) [] ≡ h
turned h = onto_onto h [] [] ∙ append-nil h

turned_line : (h : List ℕ) → onto (32 ∷ onto h []) [] ≡ h ++ (32 ∷ [])
turned_line h = onto_onto h [] (32 ∷ [])

words_flat : (t : Text) (ws : List Word) → flat (with_words t ws) ≡ flat t ++ word_bytes ws
unfolding flat word_bytes
words_flat t [] = sym (append-nil (flat t))
words_flat t (w ∷ ws) = words_flat (t ▹ word_text w) ws ∙ append_assoc (flat t) (flat (word_text w)) (word_bytes ws)

head_flat : (name : List ℕ) (ws : List Word) → flat (head name ws) ≡ 40 ∷ head_bytes name ws
unfolding flat
head_flat name ws = words_flat (byte 40 ▹ lit name) ws

-- a state in which an item may start: the stack, and what the group has so far
data Ready : Stack → Forest → State → Type 0 where
  there : {s : Stack} {f : Forest} → Ready s f (between s f)
  fresh : {s : Stack} {f : Forest} {starts : Bool} {a h : List ℕ} → onto a [] ≡ h → is_comment h ≡ false → Ready (above h f s) end (heading s f starts a)

-- in a comment, so deep
data Muted : Stack → Forest → ℕ → State → Type 0 where
  deep : {s : Stack} {f : Forest} {n : ℕ} → Muted s f n (skipping s f n)
  named : {s : Stack} {f : Forest} {starts : Bool} {a h : List ℕ} → onto a [] ≡ h → is_comment h ≡ true → Muted s (grown f h) zero (heading s f starts a)

opens : {s : Stack} {f : Forest} {st : State} → Ready s f st → step st left 40 ≡ heading s f false []
unfolding step
opens there = refl
opens (fresh e c) = rw (e, c)

closes : {s : Stack} {f g : Forest} {h : List ℕ} {st : State} → Ready (above h f s) g st → step st right 41 ≡ between s (f ⊕ node h g end)
unfolding step
closes there = refl
closes (fresh e c) = rw e

deeper : {s : Stack} {f : Forest} {n : ℕ} {st : State} → Muted s f n st → step st left 40 ≡ skipping s f (suc n)
unfolding step
deeper deep = refl
deeper (named e c) = rw (e, c)

back : {s : Stack} {f : Forest} {n : ℕ} {st : State} → Muted s f (suc n) st → step st right 41 ≡ skipping s f n
unfolding step
back deep = refl

out : {s : Stack} {f : Forest} {st : State} → Muted s f zero st → step st right 41 ≡ between s f
unfolding step
out deep = refl
out (named e c) = rw e

-- "(", a head, the rest
after_head : (st : State) (name : List ℕ) (ws : List Word) (t : List ℕ) → feed st (flat (head name ws) ++ t) ≡ feed (feed (step st left 40) (head_bytes name ws)) t
unfolding feed mark_of
after_head st name ws t = rw (head_flat name ws) (feed_append (step st left 40) (head_bytes name ws) t)

-- ")" and the rest of its line
after_close : (st : State) (l : ℕ) → feed st (flat (close l)) ≡ feed (step st right 41) (flat (Ink.line l))
unfolding feed flat close mark_of
after_close st l = refl

-- what follows a group's head: the line, what is inside, the end
inside_of : (st : State) (l : ℕ) (t : Text) → feed st (flat (Ink.line (l + 1) ▹ t ▹ close l)) ≡ feed (step (feed (feed st (flat (Ink.line (l + 1)))) (flat t)) right 41) (flat (Ink.line l))
unfolding flat
inside_of st l t =
    feed_append st (flat (Ink.line (l + 1)) ++ flat t) (flat (close l))
    ∙ rw (feed_append st (flat (Ink.line (l + 1))) (flat t)) (after_close _ l)

group_flat : (l : ℕ) (name : List ℕ) (ws : List Word) (t : Items) → flat (render l (group name ws t)) ≡ flat (head name ws) ++ flat (Ink.line (l + 1) ▹ render (l + 1) t ▹ close l)
unfolding render flat
group_flat l name ws t = simp append_assoc

-- what each turn of a loop does, and so all of them
feed_turns : (P : ℕ → State → Type 0) (h : ℕ → List ℕ) (n : ℕ) (st : State) → ((i : ℕ) (st : State) → i < n → P i st → P (suc i) (feed st (h i))) → P 0 st → P n (feed st (iterate (λ s i. s ++ h i) [] n))
unfolding feed iterate
feed_turns P h zero st turn p = p
feed_turns P h (suc n) st turn p =
    subst (P (suc n)) (sym (feed_append st (iterate (λ s i. s ++ h i) [] n) (h n)))
    (turn n _ (omega arith) (feed_turns P h n st (λ i st b. turn i st (omega arith)) p))

muted_leaf : {s : Stack} {f : Forest} {k : ℕ} {st : State} (l : ℕ) (name : List ℕ) (ws : List Word) → calm name ws ≡ true → Muted s f k st → feed st (flat (render l (leaf name ws))) ≡ skipping s f k
unfolding render flat step
muted_leaf {s} {f} {k} {st} l name ws q m =
    after_head st name ws (flat (close l))
    ∙ rw (deeper m, quiet_skipping s f (suc k) (head_quiet name ws q), after_close) (line_skipping s f k l)

muted_group : {s : Stack} {f : Forest} {k : ℕ} {st : State} (l : ℕ) (name : List ℕ) (ws : List Word) (t : Items) → calm name ws ≡ true → Muted s f k st
    → Muted s f (suc k) (feed (skipping s f (suc k)) (flat (render (l + 1) t)))
    → feed st (flat (render l (group name ws t))) ≡ skipping s f k
muted_group {s} {f} {k} {st} l name ws t q m inside =
    rw (group_flat l name ws t, after_head st name ws, deeper m, quiet_skipping s f (suc k) (head_quiet name ws q), inside_of, line_skipping s f (suc k) (l + 1), back inside) (line_skipping s f k l)

mutes : (l : ℕ) (t : Items) → Good t → {s : Stack} {f : Forest} {k : ℕ} {st : State} → Muted s f k st → Muted s f k (feed st (flat (render l t)))
unfolding render flat feed
mutes l empty good_empty m = m
mutes l (leaf name ws) (good_leaf q) m = rw (muted_leaf l name ws q m) deep
mutes l (group name ws t) (good_group q g) m = rw (muted_group l name ws t q m (mutes (l + 1) t g deep)) deep
mutes l (a ▸ b) (good_both g h) {st = st} m = rw (feed_append st) (mutes l b h (mutes l a g m))
mutes l (choose true a b) (good_choose g h) m = mutes l a (g refl) m
mutes l (choose false a b) (good_choose g h) m = mutes l b (h refl) m
mutes l (loop n p) (good_loop g) {s} {f} {k} {st} m = feed_turns (λ i st. Muted s f k st) (λ i. flat (render l (p i))) n st (λ i st b m. mutes l (p i) (g i b) m) m

ready_leaf : {s : Stack} {f : Forest} {st : State} (l : ℕ) (name : List ℕ) (ws : List Word) → calm name ws ≡ true → Ready s f st → feed st (flat (render l (leaf name ws))) ≡ between s (f ⊕ plain (leaf name ws))
unfolding render flat step plain
ready_leaf {s} {f} {st} l name ws q r =
    after_head st name ws (flat (close l))
    ∙ rw (opens r, quiet_heading s f [] (head_quiet name ws q), after_close, turned) (line_between s _ l)

ready_group : {s : Stack} {f : Forest} {st : State} (l : ℕ) (name : List ℕ) (ws : List Word) (t : Items) → calm name ws ≡ true → Good t → Ready s f st
    → ((u : Stack) (g : Forest) (st : State) → Ready u g st → Ready u (g ⊕ plain t) (feed st (flat (render (l + 1) t))))
    → Ready s (f ⊕ plain (group name ws t)) (feed st (flat (render l (group name ws t))))
unfolding plain
ready_group {s} {f} {st} l name ws t q g r inside =
    rw (group_flat l name ws t, after_head st name ws, opens r, quiet_heading s f [] (head_quiet name ws q), inside_of, line_heading s f (onto (head_bytes name ws) []) (l + 1))
    (go (is_comment (group_bytes name ws)) refl)
  where
    h : List ℕ
    h = group_bytes name ws

    a : List ℕ
    a = 32 ∷ onto (head_bytes name ws) []

    go : (b : Bool) → is_comment h ≡ b → Ready s (f ⊕ node h (cond b end (plain t)) end) (feed (step (feed (heading s f true a) (flat (render (l + 1) t))) right 41) (flat (Ink.line l)))
    go true e =
        rw (out (mutes (l + 1) t g (named {s = s} {f = f} {starts = true} {a = a} {h = h} (turned_line (head_bytes name ws)) e)), line_between s (grown f h) l)
        there
    go false e =
        rw (closes (inside (above h f s) end _ (fresh {starts = true} {a = a} (turned_line (head_bytes name ws)) e)), line_between s (f ⊕ node h (plain t) end) l)
        there

reads : (l : ℕ) (t : Items) → Good t → {s : Stack} {f : Forest} {st : State} → Ready s f st → Ready s (f ⊕ plain t) (feed st (flat (render l t)))
unfolding render flat feed plain iterate
reads l empty good_empty {s} {f} {st} r = rw (⊕-end f) r
reads l (leaf name ws) (good_leaf q) r = rw (ready_leaf l name ws q r) there
reads l (group name ws t) (good_group q g) r = ready_group l name ws t q g r (λ u f st r. reads (l + 1) t g r)
reads l (a ▸ b) (good_both g h) {s} {f} {st} r = rw (feed_append st, ← ⊕-assoc f (plain a) (plain b)) (reads l b h (reads l a g r))
reads l (choose true a b) (good_choose g h) r = reads l a (g refl) r
reads l (choose false a b) (good_choose g h) r = reads l b (h refl) r
reads l (loop n p) (good_loop g) {s} {f} {st} r =
    feed_turns (λ i st. Ready s (f ⊕ iterate (λ s i. s ⊕ plain (p i)) end i) st) (λ i. flat (render l (p i))) n st
    (λ i st b r. rw (← ⊕-assoc) (reads l (p i) (g i b) r)) (rw (⊕-end f) r)

ended : {f : Forest} {st : State} → Ready bottom f st → finish st ≡ some f
ended there = refl

-- THE ROUND TRIP of trees: the text of items, read, is the forest that they come to
pub parsed : (t : Items) → Good t → parse (flat (render 0 t)) ≡ some (plain t)
unfolding parse
parsed t g = ended (reads 0 t g there)
