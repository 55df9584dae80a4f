-- What items tell when their text is read, by a law for each form of items and for each form of head.
use Prim.Native.Nat.{ℕ, zero, suc, ◌≤◌, ◌<◌}
use native.Mathlib.Omega.{arith}
use mathlib.Core.Path.{◌≡◌, refl, sym, ap, ◌∙◌}
use mathlib.Core.Bool.{Bool, true, false, cond, ◌&&◌, ◌||◌, not, true≢false, and-eq-true_iff}
use mathlib.Core.List.{List, [], ◌∷◌, ◌++◌, append_assoc, append-nil}
use lib.Dec.{eqb}
use borrow.Author.Tests.{eqb-true, ne_eqb}
use Rattle.lent.proofs.Bools.{not_true}
use Rattle.lent.specs.Fold.{iterate}
use Rattle.lent.specs.Write.{flat, codes}
use Rattle.ink.specs.Ink.{digits, octal, number, code as char_text, between, alphanumeric}
use Rattle.faults.specs.Header.{upper}
use Rattle.items.specs.Items.{Word, raw, code, oct, dec, real, word_text, Items, empty, leaf, group, ◌▸◌, choose, loop}
use Rattle.forest.specs.Forest.{Forest, end, node, ◌⊕◌, past, in_name, name_at, after_name, name_of, rest_of, same, is_comment}
use Rattle.forest.specs.Plain.{word_bytes, head_bytes, group_bytes, plain}
use Rattle.forest.proofs.Quiet.{is_quiet, quiet, quiet_words, calm, alphanumeric_high, Good, good_empty, good_leaf, good_group, good_both, good_choose, good_loop}
use Rattle.reading.specs.Values.{took, code_in, word_in, real_in}
use Rattle.reading.specs.Heads.{Statement, kern, ligature, Place, within, enters, all_blank, closed, leads, states, leads_on, small, entry_in, has_list, entry_of}
use Rattle.reading.specs.Read.{Reading, reading, tells, entered, enter, leaves, leave, walk}
use Rattle.reading.proofs.Digits.{Stops, ends, at_blank, code_back, number_back, octal_number_back, word_back}
use Rattle.reading.proofs.Reals.{Bounded, real_back}

-- a name as the listing has it: it is read to its end, as it is, and is no comment's
unfoldable pub in_full : List ℕ → Bool
in_full [] = true
in_full (b ∷ s) = in_name b && (eqb (upper b) b && in_full s)

unfoldable pub is_name : List ℕ → Bool
is_name [] = false
is_name (b ∷ s) = not (same (b ∷ s) (codes "COMMENT")) && (not (eqb b 32) && in_full (b ∷ s))

name_whole : (n : List ℕ) {s : List ℕ} → in_full n ≡ true → Stops s → name_at (n ++ s) ≡ n
unfolding in_full name_at in_name alphanumeric between
name_whole [] e ends = refl
name_whole [] e at_blank = refl
name_whole (b ∷ n) e h =
    let p = (and-eq-true_iff (in_name b) (eqb (upper b) b && in_full n)).0 e in
    let q = (and-eq-true_iff (eqb (upper b) b) (in_full n)).0 p.1 in
    rw (p.0, name_at, eqb-true (upper b) b q.0) (ap (◌∷◌ b) (name_whole n q.1 h))

name_after : (n : List ℕ) {s : List ℕ} → in_full n ≡ true → Stops s → after_name (n ++ s) ≡ s
unfolding in_full after_name in_name alphanumeric between
name_after [] e ends = refl
name_after [] e at_blank = refl
name_after (b ∷ n) e h =
    let p = (and-eq-true_iff (in_name b) (eqb (upper b) b && in_full n)).0 e in
    let q = (and-eq-true_iff (eqb (upper b) b) (in_full n)).0 p.1 in
    rw (p.0, after_name) (name_after n q.1 h)

-- a head is its name and its values
pub known : (p : Place) (n s : List ℕ) → is_name n ≡ true → Stops s → entry_of p (n ++ s) ≡ entry_in p n s
unfolding is_name entry_of name_of rest_of past
known p [] s e h = absurd (true≢false (sym e))
known p (b ∷ n) s e h =
    let x = (and-eq-true_iff (not (same (b ∷ n) (codes "COMMENT"))) (not (eqb b 32) && in_full (b ∷ n))).0 e in
    let y = (and-eq-true_iff (not (eqb b 32)) (in_full (b ∷ n))).0 x.1 in
    rw (not_true (eqb b 32) y.0, past, name_whole (b ∷ n) y.1 h, name_after (b ∷ n) y.1 h, not_true (same (b ∷ n) (codes "COMMENT")) x.0) (ap (λ (t : Bool). cond t (enters (within p) [] true) (entry_in p (b ∷ n) s)) (and_false (has_list p)))
  where
    and_false : (a : Bool) → (a && false) ≡ false
    and_false true = refl
    and_false false = refl

-- a name has no parenthesis and no line end
name_quiet : (n : List ℕ) → in_full n ≡ true → quiet n ≡ true
unfolding in_full quiet is_quiet in_name
name_quiet [] e = refl
name_quiet (b ∷ n) e =
    let p = (and-eq-true_iff (in_name b) (eqb (upper b) b && in_full n)).0 e in
    let q = (and-eq-true_iff (eqb (upper b) b) (in_full n)).0 p.1 in
    let h = high b (alphanumeric b) refl (eqb b 47) refl (eqb b 62) refl p.0 in
    rw (ne_eqb b 40 (omega arith), ne_eqb b 41 (omega arith), ne_eqb b 10 (omega arith), ne_eqb b 13 (omega arith)) (name_quiet n q.1)
  where
    high : (b : ℕ) (x : Bool) → alphanumeric b ≡ x → (y : Bool) → eqb b 47 ≡ y → (z : Bool) → eqb b 62 ≡ z → (x || y || z) ≡ true → 42 ≤ b
    high b true p y q z r e = alphanumeric_high b p
    high b false p true q z r e = omega (arith, eqb-true b 47 q)
    high b false p false q true r e = omega (arith, eqb-true b 62 r)
    high b false p false q false r e = absurd (true≢false (sym e))

pub name_calm : (n : List ℕ) (ws : List Word) → is_name n ≡ true → quiet_words ws ≡ true → calm n ws ≡ true
unfolding is_name calm
name_calm [] ws e w = absurd (true≢false (sym e))
name_calm (b ∷ n) ws e w =
    let x = (and-eq-true_iff (not (same (b ∷ n) (codes "COMMENT"))) (not (eqb b 32) && in_full (b ∷ n))).0 e in
    let y = (and-eq-true_iff (not (eqb b 32)) (in_full (b ∷ n))).0 x.1 in
    rw (name_quiet (b ∷ n) y.1, w)

-- a name is no comment's
not_comment : (n s : List ℕ) → is_name n ≡ true → Stops s → is_comment (n ++ s) ≡ false
unfolding is_name is_comment name_of past
not_comment [] s e h = absurd (true≢false (sym e))
not_comment (b ∷ n) s e h =
    let x = (and-eq-true_iff (not (same (b ∷ n) (codes "COMMENT"))) (not (eqb b 32) && in_full (b ∷ n))).0 e in
    let y = (and-eq-true_iff (not (eqb b 32)) (in_full (b ∷ n))).0 x.1 in
    rw (not_true (eqb b 32) y.0, past, name_whole (b ∷ n) y.1 h) (not_true (same (b ∷ n) (codes "COMMENT")) x.0)

-- the words of a head: each begins with a blank
word_stops : (w : Word) (s : List ℕ) → Stops (flat (word_text w) ++ s)
unfolding word_text flat octal number char_text
word_stops (raw t) s = at_blank
word_stops (code letters c) s = go (letters && alphanumeric c)
  where
    go : (b : Bool) → Stops (cond b (32 ∷ 67 ∷ 32 ∷ c ∷ []) (32 ∷ 79 ∷ 32 ∷ digits 8 11 c) ++ s)
    go true = at_blank
    go false = at_blank
word_stops (oct n) s = at_blank
word_stops (dec n) s = at_blank
word_stops (real w) s = at_blank

pub words_stop : (ws : List Word) → Stops (word_bytes ws)
unfolding word_bytes
words_stop [] = ends
words_stop (w ∷ ws) = word_stops w (word_bytes ws)

pub words_stop_line : (ws : List Word) → Stops (word_bytes ws ++ (32 ∷ []))
unfolding word_bytes
words_stop_line [] = at_blank
words_stop_line (w ∷ ws) = go (word_stops w (word_bytes ws))
  where
    go : {s : List ℕ} → Stops s → Stops (s ++ (32 ∷ []))
    go ends = at_blank
    go at_blank = at_blank

-- each form of word, read
pub real_words : (bound w : ℕ) → w < 4294967296 → bound ≤ 2147483648 → Bounded bound w → real_in bound (word_bytes (real w ∷ [])) ≡ took w true (word_bytes [])
unfolding word_bytes
real_words bound w b c f = rw (append-nil (flat (word_text (real w)))) (real_back bound w b c f)

pub code_words : (letters : Bool) (c : ℕ) (ws : List Word) → c < 256 → code_in 0 255 (word_bytes (code letters c ∷ ws)) ≡ took c true (word_bytes ws)
unfolding word_bytes
code_words letters c ws h = code_back letters c (word_bytes ws) h (words_stop ws)

pub code_line : (letters : Bool) (c : ℕ) → c < 256 → code_in 0 255 (word_bytes (code letters c ∷ []) ++ (32 ∷ [])) ≡ took c true (32 ∷ [])
unfolding word_bytes
code_line letters c h = rw (append-nil (flat (word_text (code letters c)))) (code_back letters c (32 ∷ []) h at_blank)

pub number_words_lem : (low high n : ℕ) (ws : List Word) → low ≤ n → n ≤ high → high < 4294967296 → code_in low high (word_bytes (dec n ∷ ws)) ≡ took n true (word_bytes ws)
unfolding word_bytes
number_words_lem low high n ws a b h = number_back low high n (word_bytes ws) a b h (words_stop ws)

pub octal_words : (low high n : ℕ) (ws : List Word) → low ≤ n → n ≤ high → high < 4294967296 → code_in low high (word_bytes (oct n ∷ ws)) ≡ took n true (word_bytes ws)
unfolding word_bytes
octal_words low high n ws a b h = octal_number_back low high n (word_bytes ws) a b h (words_stop ws)

pub word_words : (n : ℕ) (ws : List Word) → n < 4294967296 → word_in (word_bytes (oct n ∷ ws)) ≡ took n true (word_bytes ws)
unfolding word_bytes
word_words n ws h = word_back n (word_bytes ws) h (words_stop ws)

pub none_left : (p : Place) (ss : List Statement) (fits : Bool) → closed p ss fits (word_bytes []) ≡ enters p ss fits
unfolding closed all_blank word_bytes
none_left p ss fits = refl

line_left : (p : Place) (ss : List Statement) (fits : Bool) → closed p ss fits (32 ∷ []) ≡ enters p ss fits
unfolding closed all_blank
line_left p ss fits = refl

module _ {A : Type 0} (tell : A → Statement → A) where
  pub tells_append : (a : A) (ss us : List Statement) → tells tell a (ss ++ us) ≡ tells tell (tells tell a ss) us
  unfolding tells
  tells_append a [] us = refl
  tells_append a (s ∷ ss) us = tells_append (tell a s) ss us

  pub walk_on : (r : Reading A) (f g : Forest) → walk tell r (f ⊕ g) ≡ walk tell (walk tell r f) g
  unfolding walk
  walk_on r end g = refl
  walk_on r (node h i n) g = walk_on (leave tell (walk tell (enter tell r h) i)) n g

  and_true : (b : Bool) → (b && true) ≡ b
  and_true true = refl
  and_true false = refl

  -- the text of items can be read, and from place p on it tells ss and leads to place q
  pub record Tells (p : Place) (t : Items) (ss : List Statement) (q : Place) : Type 0 where
    pub good : Good t
    pub is : (a : A) (ok : Bool) → walk tell (reading p a ok) (plain t) ≡ reading q (tells tell a ss) ok

  pub tells_as : {p q : Place} {t : Items} {ss us : List Statement} → ss ≡ us → Tells p t ss q → Tells p t us q
  tells_as e x = rw (← e) x

  pub tells_none : {p : Place} → Tells p empty [] p
  unfolding walk plain tells
  tells_none = record { good = good_empty; is = λ a ok. refl }

  pub tells_then : {p q r : Place} {t u : Items} {ss us : List Statement} → Tells p t ss q → Tells q u us r → Tells p (t ▸ u) (ss ++ us) r
  unfolding plain
  tells_then {p} {q} {r} {t} {u} {ss} {us} x y = record {
    good = good_both x.good y.good;
    is = λ a ok. walk_on (reading p a ok) (plain t) (plain u) ∙ rw (x.is a ok, y.is (tells tell a ss) ok, tells_append a ss us);
  }

  pub tells_choose : {p q : Place} {b : Bool} {t u : Items} {ss us : List Statement} → (b ≡ true → Tells p t ss q) → (b ≡ false → Tells p u us q) → Tells p (choose b t u) (cond b ss us) q
  unfolding plain
  tells_choose {p} {q} {b} {t} {u} {ss} {us} x y = record { good = good_choose (λ e. (x e).good) (λ e. (y e).good); is = go b x y }
    where
      go : (b : Bool) → (b ≡ true → Tells p t ss q) → (b ≡ false → Tells p u us q) → (a : A) (ok : Bool) → walk tell (reading p a ok) (plain (choose b t u)) ≡ reading q (tells tell a (cond b ss us)) ok
      go true x y a ok = (x refl).is a ok
      go false x y a ok = (y refl).is a ok

  -- what is told does not depend on the test
  pub tells_either : {p q : Place} {b : Bool} {t u : Items} {ss : List Statement} → (b ≡ true → Tells p t ss q) → (b ≡ false → Tells p u ss q) → Tells p (choose b t u) ss q
  unfolding plain
  tells_either {p} {q} {b} {t} {u} {ss} x y = record { good = good_choose (λ e. (x e).good) (λ e. (y e).good); is = go b x y }
    where
      go : (b : Bool) → (b ≡ true → Tells p t ss q) → (b ≡ false → Tells p u ss q) → (a : A) (ok : Bool) → walk tell (reading p a ok) (plain (choose b t u)) ≡ reading q (tells tell a ss) ok
      go true x y a ok = (x refl).is a ok
      go false x y a ok = (y refl).is a ok

  pub tells_loop : {p : Place} {n : ℕ} {f : ℕ → Items} {g : ℕ → List Statement} → ((i : ℕ) → i < n → Tells p (f i) (g i) p) → Tells p (loop n f) (iterate (λ ss i. ss ++ g i) [] n) p
  unfolding plain walk iterate tells
  tells_loop {p} {n} {f} {g} x = record { good = good_loop (λ i h. (x i h).good); is = go n x }
    where
      go : (n : ℕ) → ((i : ℕ) → i < n → Tells p (f i) (g i) p) → (a : A) (ok : Bool) → walk tell (reading p a ok) (iterate (λ s i. s ⊕ plain (f i)) end n) ≡ reading p (tells tell a (iterate (λ ss i. ss ++ g i) [] n)) ok
      go zero x a ok = refl
      go (suc n) x a ok =
          walk_on (reading p a ok) (iterate (λ s i. s ⊕ plain (f i)) end n) (plain (f n))
          ∙ rw (go n (λ i h. x i (omega arith)) a ok, (x n (omega arith)).is (tells tell a (iterate (λ ss i. ss ++ g i) [] n)) ok)
          (ap (λ b. reading p b ok) (sym (tells_append a (iterate (λ ss i. ss ++ g i) [] n) (g n))))

  pub tells_leaf : {p q : Place} {n : List ℕ} {ws : List Word} {ss : List Statement} → calm n ws ≡ true → entry_of p (head_bytes n ws) ≡ enters (within q) ss true → Tells p (leaf n ws) ss q
  unfolding walk plain enter entered leave leaves
  tells_leaf c e = record { good = good_leaf c; is = λ a ok. rw (e, and_true ok) }

  -- es is what the head of the group states, and us what its end does
  pub tells_group : {p q r v : Place} {n : List ℕ} {ws : List Word} {t : Items} {ss : List Statement} (es us : List Statement) → calm n ws ≡ true → entry_of p (group_bytes n ws) ≡ enters q es true → is_comment (group_bytes n ws) ≡ false
      → Tells q t ss r → ((a : A) (ok : Bool) → leaves tell r a ok ≡ reading v (tells tell a us) ok) → Tells p (group n ws t) (es ++ ss ++ us) v
  unfolding walk plain enter entered leave tells
  tells_group {ss = ss} es us c e k x y = record {
    good = good_group c x.good;
    is = λ a ok. rw (k, e, and_true ok, x.is (tells tell a es) ok, y (tells tell (tells tell a es) ss) ok, tells_append a (es ++ ss) us, tells_append a es ss);
  }

  -- a comment tells nothing, whatever it holds
  pub tells_remark : {p : Place} {n : List ℕ} {ws : List Word} → has_list p ≡ true → calm n ws ≡ true → is_comment (head_bytes n ws) ≡ true → Tells p (leaf n ws) [] p
  unfolding entry_of is_comment
  tells_remark {p} {n} {ws} h c k = tells_leaf c (rw (h, k))

  pub tells_remarks : {p : Place} {n : List ℕ} {ws : List Word} {t : Items} → has_list p ≡ true → calm n ws ≡ true → is_comment (group_bytes n ws) ≡ true → Good t → Tells p (group n ws t) [] p
  unfolding walk plain enter entered leave leaves tells entry_of is_comment
  tells_remarks {p} {n} {ws} h c k g = record { good = good_group c g; is = λ a ok. rw (k, h, and_true ok) }

  -- heads with one value: a real, a code, a number
  module _ {p : Place} {n : List ℕ} (e : is_name n ≡ true) where
    pub tells_real_at : (say : ℕ → Statement) (bound w : ℕ) → entry_in p n (word_bytes (real w ∷ [])) ≡ states p say true (real_in bound (word_bytes (real w ∷ [])))
        → w < 4294967296 → bound ≤ 2147483648 → Bounded bound w → Tells p (leaf n (real w ∷ [])) (say w ∷ []) p
    unfolding states quiet_words
    tells_real_at say bound w i b c f =
        tells_leaf (name_calm n (real w ∷ []) e refl)
        (known p n (word_bytes (real w ∷ [])) e (words_stop (real w ∷ [])) ∙ i ∙ rw (real_words bound w b c f) (none_left (within p) (say w ∷ []) true))

    pub tells_real : (say : ℕ → Statement) (bound w : ℕ) → ((s : List ℕ) → entry_in p n s ≡ states p say true (real_in bound s))
        → w < 4294967296 → bound ≤ 2147483648 → Bounded bound w → Tells p (leaf n (real w ∷ [])) (say w ∷ []) p
    tells_real say bound w i = tells_real_at say bound w (i (word_bytes (real w ∷ [])))

    pub tells_code : (say : ℕ → Statement) (letters : Bool) (c : ℕ) → ((s : List ℕ) → entry_in p n s ≡ states p say true (code_in 0 255 s))
        → c < 256 → Tells p (leaf n (code letters c ∷ [])) (say c ∷ []) p
    unfolding states quiet_words
    tells_code say letters c i h =
        tells_leaf (name_calm n (code letters c ∷ []) e refl)
        (known p n (word_bytes (code letters c ∷ [])) e (words_stop (code letters c ∷ [])) ∙ i (word_bytes (code letters c ∷ [])) ∙ rw (code_words letters c [] h) (none_left (within p) (say c ∷ []) true))

    pub tells_number : (say : ℕ → Statement) (low high k : ℕ) → ((s : List ℕ) → entry_in p n s ≡ states p say true (code_in low high s))
        → low ≤ k → k ≤ high → high < 4294967296 → Tells p (leaf n (dec k ∷ [])) (say k ∷ []) p
    unfolding states quiet_words
    tells_number say low high k i a b h =
        tells_leaf (name_calm n (dec k ∷ []) e refl)
        (known p n (word_bytes (dec k ∷ [])) e (words_stop (dec k ∷ [])) ∙ i (word_bytes (dec k ∷ [])) ∙ rw (number_words_lem low high k [] a b h) (none_left (within p) (say k ∷ []) true))

    -- a piece of a recipe, which leads on
    pub tells_piece : (q : ℕ → Place) (letters : Bool) (c : ℕ) → ((s : List ℕ) → entry_in p n s ≡ leads_on (λ x. within (q x)) (code_in 0 255 s))
        → c < 256 → Tells p (leaf n (code letters c ∷ [])) [] (q c)
    unfolding leads_on quiet_words
    tells_piece q letters c i h =
        tells_leaf (name_calm n (code letters c ∷ []) e refl)
        (known p n (word_bytes (code letters c ∷ [])) e (words_stop (code letters c ∷ [])) ∙ i (word_bytes (code letters c ∷ [])) ∙ rw (code_words letters c [] h) (none_left (within (q c)) [] true))

    -- none
    pub tells_bare : (ss : List Statement) → ((s : List ℕ) → entry_in p n s ≡ closed (within p) ss true s) → Tells p (leaf n []) ss p
    unfolding quiet_words
    tells_bare ss i = tells_leaf (name_calm n [] e refl) (known p n (word_bytes []) e (words_stop []) ∙ i (word_bytes []) ∙ none_left (within p) ss true)

    -- two values: a code and a real, two codes, a number and a real, a number and a word
    pub tells_kern : (letters : Bool) (y w : ℕ) → ((s : List ℕ) → entry_in p n s ≡ leads (code_in 0 255 s) (λ y fits more. states p (kern y) fits (real_in small more)))
        → y < 256 → w < 4294967296 → Bounded small w → Tells p (leaf n (code letters y ∷ real w ∷ [])) (kern y w ∷ []) p
    unfolding leads states quiet_words small
    tells_kern letters y w i h b f =
        tells_leaf (name_calm n (code letters y ∷ real w ∷ []) e refl)
        (known p n (word_bytes (code letters y ∷ real w ∷ [])) e (words_stop (code letters y ∷ real w ∷ [])) ∙ i (word_bytes (code letters y ∷ real w ∷ []))
        ∙ rw (code_words letters y (real w ∷ []) h, real_words small w b (omega arith) f) (none_left (within p) (kern y w ∷ []) true))

    pub tells_ligature : (letters : Bool) (op y z : ℕ) → ((s : List ℕ) → entry_in p n s ≡ leads (code_in 0 255 s) (λ y fits more. states p (ligature op y) fits (code_in 0 255 more)))
        → y < 256 → z < 256 → Tells p (leaf n (code letters y ∷ code letters z ∷ [])) (ligature op y z ∷ []) p
    unfolding leads states quiet_words
    tells_ligature letters op y z i h k =
        tells_leaf (name_calm n (code letters y ∷ code letters z ∷ []) e refl)
        (known p n (word_bytes (code letters y ∷ code letters z ∷ [])) e (words_stop (code letters y ∷ code letters z ∷ [])) ∙ i (word_bytes (code letters y ∷ code letters z ∷ []))
        ∙ rw (code_words letters y (code letters z ∷ []) h, code_words letters z [] k) (none_left (within p) (ligature op y z ∷ []) true))

    pub tells_numbered : (say : ℕ → ℕ → Statement) (bound : ℕ → ℕ) (low high k w : ℕ) → ((s : List ℕ) → entry_in p n s ≡ leads (code_in low high s) (λ k fits more. states p (say k) fits (real_in (bound k) more)))
        → low ≤ k → k ≤ high → high < 4294967296 → w < 4294967296 → bound k ≤ 2147483648 → Bounded (bound k) w → Tells p (leaf n (dec k ∷ real w ∷ [])) (say k w ∷ []) p
    unfolding leads states quiet_words
    tells_numbered say bound low high k w i a b h v c f =
        tells_leaf (name_calm n (dec k ∷ real w ∷ []) e refl)
        (known p n (word_bytes (dec k ∷ real w ∷ [])) e (words_stop (dec k ∷ real w ∷ [])) ∙ i (word_bytes (dec k ∷ real w ∷ []))
        ∙ rw (number_words_lem low high k (real w ∷ []) a b h, real_words (bound k) w v c f) (none_left (within p) (say k w ∷ []) true))

    pub tells_word : (say : ℕ → Statement) (w : ℕ) → ((s : List ℕ) → entry_in p n s ≡ states p say true (word_in s)) → w < 4294967296 → Tells p (leaf n (oct w ∷ [])) (say w ∷ []) p
    unfolding states quiet_words
    tells_word say w i h =
        tells_leaf (name_calm n (oct w ∷ []) e refl)
        (known p n (word_bytes (oct w ∷ [])) e (words_stop (oct w ∷ [])) ∙ i (word_bytes (oct w ∷ [])) ∙ rw (word_words w [] h) (none_left (within p) (say w ∷ []) true))

    pub tells_octal : (say : ℕ → Statement) (low high k : ℕ) → ((s : List ℕ) → entry_in p n s ≡ states p say true (code_in low high s))
        → low ≤ k → k ≤ high → high < 4294967296 → Tells p (leaf n (oct k ∷ [])) (say k ∷ []) p
    unfolding states quiet_words
    tells_octal say low high k i a b h =
        tells_leaf (name_calm n (oct k ∷ []) e refl)
        (known p n (word_bytes (oct k ∷ [])) e (words_stop (oct k ∷ [])) ∙ i (word_bytes (oct k ∷ [])) ∙ rw (octal_words low high k [] a b h) (none_left (within p) (say k ∷ []) true))

    pub tells_numbered_word : (say : ℕ → ℕ → Statement) (low high k w : ℕ) → ((s : List ℕ) → entry_in p n s ≡ leads (code_in low high s) (λ k fits more. states p (say k) fits (word_in more)))
        → low ≤ k → k ≤ high → high < 4294967296 → w < 4294967296 → Tells p (leaf n (dec k ∷ oct w ∷ [])) (say k w ∷ []) p
    unfolding leads states quiet_words
    tells_numbered_word say low high k w i a b h v =
        tells_leaf (name_calm n (dec k ∷ oct w ∷ []) e refl)
        (known p n (word_bytes (dec k ∷ oct w ∷ [])) e (words_stop (dec k ∷ oct w ∷ [])) ∙ i (word_bytes (dec k ∷ oct w ∷ []))
        ∙ rw (number_words_lem low high k (oct w ∷ []) a b h, word_words w [] v) (none_left (within p) (say k w ∷ []) true))

    -- a bare group, and one with a code
    pub tells_list : {q r v : Place} {t : Items} {ss : List Statement} (es us : List Statement) → ((s : List ℕ) → entry_in p n s ≡ closed q es true s)
        → Tells q t ss r → ((a : A) (ok : Bool) → leaves tell r a ok ≡ reading v (tells tell a us) ok) → Tells p (group n [] t) (es ++ ss ++ us) v
    unfolding quiet_words word_bytes
    tells_list {q} es us i x y =
        let z : group_bytes n [] ≡ n ++ (32 ∷ []) = append_assoc n [] (32 ∷ []) in
        tells_group es us (name_calm n [] e refl) (rw z (known p n (32 ∷ []) e at_blank ∙ i (32 ∷ []) ∙ line_left q es true)) (rw z (not_comment n (32 ∷ []) e at_blank)) x y

    pub tells_coded : {r v : Place} {t : Items} {ss : List Statement} (us : List Statement) (q : ℕ → Place) (letters : Bool) (c : ℕ) → ((s : List ℕ) → entry_in p n s ≡ leads_on q (code_in 0 255 s))
        → c < 256 → Tells (q c) t ss r → ((a : A) (ok : Bool) → leaves tell r a ok ≡ reading v (tells tell a us) ok) → Tells p (group n (code letters c ∷ []) t) (ss ++ us) v
    unfolding quiet_words leads_on
    tells_coded us q letters c i h x y =
        let z : group_bytes n (code letters c ∷ []) ≡ n ++ (word_bytes (code letters c ∷ []) ++ (32 ∷ [])) = append_assoc n (word_bytes (code letters c ∷ [])) (32 ∷ []) in
        let l = words_stop_line (code letters c ∷ []) in
        tells_group [] us (name_calm n (code letters c ∷ []) e refl)
        (rw z (known p n _ e l ∙ i _ ∙ rw (code_line letters c h) (line_left (q c) [] true))) (rw z (not_comment n _ e l)) x y
