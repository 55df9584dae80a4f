-- The marks of 003 §65 to §70 name the steps that programs meet: an accessible step is met, a program starts at one, and from one to the next.
use Prim.Native.Nat.{ℕ, zero, suc, ◌+◌, ◌-◌, ◌≤◌, ◌<◌}
use native.Mathlib.Nat.{not-suc-le-zero}
use native.Mathlib.Decide.{ℕ_discrete, dec_lt}
use native.Mathlib.Omega.{arith}
use mathlib.Core.Path.{◌≡◌, refl, sym, ap, ◌∙◌, subst}
use mathlib.Core.Bool.{Bool, true, false, cond, ◌&&◌, and-eq-true_iff}
use mathlib.Core.Logic.{◌⊎◌, inl, inr, ⊎_elim}
use mathlib.Core.List.{List}
use lib.Dec.{leb, ltb, eqb}
use lib.ListN.{length, get_or, set, replicate, length-set, length-replicate, get_or-replicate, get_or-eq_default}
use lib.Seq.{get_or-set_same, get_or-set_other, set_out}
use borrow.Author.Tests.{lt-ltb, le-ltb, eq-eqb, ne_eqb, eqb-true, ltb-true, leb-true}
use Rattle.program.proofs.Starts.{program_at, left_program}
use Rattle.lent.specs.Fold.{iterate}
use Rattle.tfm.specs.Sizes.{chars}
use Rattle.tfm.specs.Characters.{byte_of, info_of, in_range}
use Rattle.tfm.specs.declared.Layout.{Layout}
use Rattle.program.specs.Steps.{has_boundary, boundary_start, redirects, redirected, next_of, program_of}
use Rattle.program.specs.Marks.{store_if, mark_first, mark_last, mark_label, mark_info, mark_step, marks_from, marks_of}
use Rattle.clean.specs.Met.{Met, start, onward, NoneOver}

both : (a b : Bool) → a && b ≡ true → (a ≡ true) × (b ≡ true)
both a b e = (and-eq-true_iff a b).0 e

-- a mark of 2 after a store: it was stored, or it was there
stored : (m : List ℕ) (i v j : ℕ) → get_or (set m i v) j 0 ≡ 2 → ((j ≡ i) × (v ≡ 2)) ⊎ (get_or m j 0 ≡ 2)
stored m i v j e = elim (ℕ_discrete j i) [
  | yes q ↦ elim (dec_lt i (length m)) [
    | yes h ↦ inl (q, sym (get_or-set_same m i v 0 h) ∙ ap (λ (k : ℕ). get_or (set m i v) k 0) (sym q) ∙ e)
    | no h ↦ inr (ap (λ (x : List ℕ). get_or x j 0) (sym (set_out m i v (omega arith))) ∙ e)
  ]
  | no q ↦ inr (sym (get_or-set_other m i j v 0 q) ∙ e)
]

module _ (b : Bool) (m : List ℕ) (i v : ℕ) where
  if_stored : (j : ℕ) → get_or (store_if b m i v) j 0 ≡ 2 → ((b ≡ true) × (j ≡ i) × (v ≡ 2)) ⊎ (get_or m j 0 ≡ 2)
  unfolding store_if
  if_stored j = go b refl
    where
      go : (t : Bool) → b ≡ t → get_or (cond t (set m i v) m) j 0 ≡ 2 → ((b ≡ true) × (j ≡ i) × (v ≡ 2)) ⊎ (get_or m j 0 ≡ 2)
      go true q e = ⊎_elim (λ (p : (j ≡ i) × (v ≡ 2)). inl (q, p.0, p.1)) (λ (p : get_or m j 0 ≡ 2). inr p) (stored m i v j e)
      go false q e = inr e

  pub if_length : length (store_if b m i v) ≡ length m
  unfolding store_if
  if_length = go b
    where
      go : (t : Bool) → length (cond t (set m i v) m) ≡ length m
      go true = length-set m i v
      go false = refl

  -- a 2 stays where another is stored, or elsewhere
  if_kept : (j : ℕ) → get_or m j 0 ≡ 2 → (b ≡ true → (j ≡ i) → v ≡ 2) → get_or (store_if b m i v) j 0 ≡ 2
  unfolding store_if
  if_kept j e h = go b refl
    where
      go : (t : Bool) → b ≡ t → get_or (cond t (set m i v) m) j 0 ≡ 2
      go true q = elim (ℕ_discrete j i) [
        | yes p ↦ elim (dec_lt i (length m)) [
          | yes k ↦ ap (λ (x : ℕ). get_or (set m i v) x 0) p ∙ get_or-set_same m i v 0 k ∙ h q p
          | no k ↦ ap (λ (x : List ℕ). get_or x j 0) (set_out m i v (omega arith)) ∙ e
        ]
        | no p ↦ get_or-set_other m i j v 0 p ∙ e
      ]
      go false q = e

  pub if_set : b ≡ true → i < length m → get_or (store_if b m i v) i 0 ≡ v
  unfolding store_if
  if_set q h = rw q (get_or-set_same m i v 0 h)

-- turns that keep a property keep it
pub turns : (P : List ℕ → Type 0) (g : List ℕ → ℕ → List ℕ) (n : ℕ) → ((x : List ℕ) (i : ℕ) → i < n → P x → P (g x i)) → (a : List ℕ) → P a → P (iterate g a n)
unfolding iterate
turns P g zero h a p = p
turns P g (suc n) h a p = h _ n (omega arith) (turns P g n (λ x i q. h x i (omega arith)) a p)

module _ (infos s : List ℕ) (l : Layout) (most : l.ec ≤ 255) where
  -- an accessible step is met
  abbrev Sound : List ℕ → Type 0
  Sound m = (i : ℕ) → get_or m i 0 ≡ 2 → Met infos s l i

  store_one : (b : Bool) (m : List ℕ) (i : ℕ) → Sound m → Sound (store_if b m i 1)
  store_one b m i p j e = ⊎_elim (λ (q : (b ≡ true) × (j ≡ i) × (1 ≡ 2)). absurd (omega (arith, q.2))) (λ (q : get_or m j 0 ≡ 2). p j q) (if_stored b m i 1 j e)

  store_two : (b : Bool) (m : List ℕ) (i : ℕ) → Sound m → (b ≡ true → Met infos s l i) → Sound (store_if b m i 2)
  store_two b m i p h j e =
      ⊎_elim (λ (q : (b ≡ true) × (j ≡ i) × (2 ≡ 2)). subst (Met infos s l) (sym q.1) (h q.0)) (λ (q : get_or m j 0 ≡ 2). p j q) (if_stored b m i 2 j e)

  code_start : (k : ℕ) → k < chars l → (info_of infos k).tag ≡ 1 → redirected s l (info_of infos k).remainder < l.nl
      → program_of infos s l (l.bc + k) ≡ redirected s l (info_of infos k).remainder
  code_start k h t q =
      let e : l.bc + k - l.bc ≡ k = omega arith in
      program_at infos s l (l.bc + k) (omega arith) (omega arith) (omega arith) (rw e t) (redirected s l (info_of infos k).remainder) (rw e) q

  first_sound : (m : List ℕ) → Sound m → Sound (mark_first s m)
  unfolding mark_first
  first_sound m p = store_one _ m 0 p

  last_sound : (m : List ℕ) → Sound m → Sound (mark_last s l m)
  unfolding mark_last
  last_sound m p =
      store_one _ _ _ (store_two _ m _ p (λ q.
      let z = both (has_boundary s l) (ltb (boundary_start s l) l.nl) q in
      let h = ltb-true (boundary_start s l) l.nl z.1 in
      let e = left_program infos s l z.0 h in
      subst (Met infos s l) e (start 256 (omega arith) (omega arith))))

  info_sound : (m : List ℕ) (k : ℕ) → k < chars l → Sound m → Sound (mark_info infos s l m k)
  unfolding mark_info mark_label
  info_sound m k h p = go (eqb (info_of infos k).tag 1) refl
    where
      go : (b : Bool) → eqb (info_of infos k).tag 1 ≡ b → Sound (cond b (mark_label s l m (info_of infos k).remainder) m)
      go true q = store_two _ _ _ (store_one _ m _ p) (λ z.
          let n = ltb-true (redirected s l (info_of infos k).remainder) l.nl z in
          let e = code_start k h (eqb-true _ 1 q) n in
          subst (Met infos s l) e (start (l.bc + k) (omega arith) (omega arith)))
      go false q = p

  step_sound : (m : List ℕ) (i : ℕ) → Sound m → Sound (mark_step s l m i)
  unfolding mark_step
  step_sound m i p = store_two _ m _ p (λ q.
      let z = both (eqb (get_or m i 0) 2 && ltb (byte_of s i 0) 128) (ltb (next_of s i) l.nl) q in
      let y = both (eqb (get_or m i 0) 2) (ltb (byte_of s i 0) 128) z.0 in
      onward (p i (eqb-true (get_or m i 0) 2 y.0)) (ltb-true (byte_of s i 0) 128 y.1) (ltb-true (next_of s i) l.nl z.1))

  none_marked : (i : ℕ) → get_or {A = ℕ} (replicate 32768 0) i 0 ≡ 2 → ⊥
  none_marked i e = elim (dec_lt i 32768) [
    | yes h ↦ omega (arith, get_or-replicate {A = ℕ} 32768 i 0 0 h)
    | no h ↦ let n = length-replicate {A = ℕ} 32768 0 in omega (arith, get_or-eq_default {A = ℕ} (replicate 32768 0) 0 {n = i} (omega arith))
  ]

  pub sound : Sound (marks_of infos s l)
  unfolding marks_of marks_from
  sound =
      turns Sound (mark_step s l) l.nl (λ x i h. step_sound x i) _
      (turns Sound (mark_info infos s l) (chars l) (λ x k h. info_sound x k h) _ (last_sound _ (first_sound _ (λ i e. absurd (none_marked i e)))))

-- a turn that makes a property, which later turns keep; L is what every turn keeps
turned : (L P : List ℕ → Type 0) (g : List ℕ → ℕ → List ℕ) (a : List ℕ) (n k : ℕ) → L a → ((x : List ℕ) (i : ℕ) → L x → L (g x i)) → k < n
    → ((x : List ℕ) → L x → P (g x k)) → ((x : List ℕ) (i : ℕ) → P x → P (g x i)) → P (iterate g a n)
unfolding iterate
turned L P g a zero k la lg h make keep = absurd (not-suc-le-zero h)
turned L P g a (suc n) k la lg h make keep = elim (ℕ_discrete k n) [
  | yes e ↦ subst (λ (j : ℕ). P (g (iterate g a n) j)) e (make _ (turns L g n (λ x i _ p. lg x i p) a la))
  | no e ↦ keep _ n (turned L P g a n k la lg (omega arith) make keep)
]

module _ (infos s : List ℕ) (l : Layout) where
  -- a mark of 2 stays
  label_keeps : (m : List ℕ) (r p : ℕ) → get_or m p 0 ≡ 2 → get_or (mark_label s l m r) p 0 ≡ 2
  unfolding mark_label
  label_keeps m r p e =
      if_kept _ _ _ 2 p
      (if_kept _ m r 1 p e (λ b q.
      let z = both (redirects s l r && ltb (redirected s l r) l.nl) (eqb (get_or m r 0) 0) b in
      let o = eqb-true (get_or m r 0) 0 z.1 in
      omega (arith, ap (λ (x : ℕ). get_or m x 0) q)))
      (λ b q. refl)

  info_keeps : (m : List ℕ) (k p : ℕ) → get_or m p 0 ≡ 2 → get_or (mark_info infos s l m k) p 0 ≡ 2
  unfolding mark_info
  info_keeps m k p e = go (eqb (info_of infos k).tag 1)
    where
      go : (b : Bool) → get_or (cond b (mark_label s l m (info_of infos k).remainder) m) p 0 ≡ 2
      go true = label_keeps m (info_of infos k).remainder p e
      go false = e

  step_keeps : (m : List ℕ) (i p : ℕ) → get_or m p 0 ≡ 2 → get_or (mark_step s l m i) p 0 ≡ 2
  unfolding mark_step
  step_keeps m i p e = if_kept _ m _ 2 p e (λ b q. refl)

  -- the table keeps its length
  label_length : (m : List ℕ) (r : ℕ) → length (mark_label s l m r) ≡ length m
  unfolding mark_label
  label_length m r = if_length _ _ _ 2 ∙ if_length _ m r 1

  info_length : (m : List ℕ) (k : ℕ) → length (mark_info infos s l m k) ≡ length m
  unfolding mark_info
  info_length m k = go (eqb (info_of infos k).tag 1)
    where
      go : (b : Bool) → length (cond b (mark_label s l m (info_of infos k).remainder) m) ≡ length m
      go true = label_length m (info_of infos k).remainder
      go false = refl

  step_length : (m : List ℕ) (i : ℕ) → length (mark_step s l m i) ≡ length m
  unfolding mark_step
  step_length m i = if_length _ m _ 2

  last_length : (m : List ℕ) → length (mark_last s l m) ≡ length m
  unfolding mark_last
  last_length m = if_length _ _ _ 1 ∙ if_length _ m _ 2

  pub first_length : (m : List ℕ) → length (mark_first s m) ≡ length m
  unfolding mark_first
  first_length m = if_length _ m 0 1

  abbrev Long : List ℕ → Type 0
  Long m = length m ≡ 32768

  -- the marks before the characters, after them, and after the steps
  abbrev opened : List ℕ
  opened = mark_last s l (mark_first s (replicate 32768 0))

  abbrev labelled : List ℕ
  labelled = iterate (mark_info infos s l) opened (chars l)

  opened_long : Long opened
  opened_long = last_length _ ∙ first_length _ ∙ length-replicate {A = ℕ} 32768 0

  labelled_long : Long labelled
  labelled_long = turns Long (mark_info infos s l) (chars l) (λ x k h e. info_length x k ∙ e) opened opened_long

  module _ (few : l.nl ≤ 32767) where
    label_sets : (m : List ℕ) (r : ℕ) → Long m → redirected s l r < l.nl → get_or (mark_label s l m r) (redirected s l r) 0 ≡ 2
    unfolding mark_label
    label_sets m r e q =
        let n : length (store_if (redirects s l r && ltb (redirected s l r) l.nl && eqb (get_or m r 0) 0) m r 1) ≡ 32768 = if_length _ m r 1 ∙ e in
        if_set _ _ _ 2 (lt-ltb (redirected s l r) l.nl q) (omega arith)

    info_sets : (m : List ℕ) (k : ℕ) → Long m → (info_of infos k).tag ≡ 1 → redirected s l (info_of infos k).remainder < l.nl
        → get_or (mark_info infos s l m k) (redirected s l (info_of infos k).remainder) 0 ≡ 2
    unfolding mark_info
    info_sets m k e t q = rw (eq-eqb (info_of infos k).tag 1 t) (label_sets m (info_of infos k).remainder e q)

    left_sets : (m : List ℕ) → Long m → has_boundary s l ≡ true → boundary_start s l < l.nl → (boundary_start s l ≡ l.nl - 1 → ⊥) → get_or (mark_last s l m) (boundary_start s l) 0 ≡ 2
    unfolding mark_last
    left_sets m e b h n =
        if_kept _ _ _ 1 (boundary_start s l)
        (if_set _ m _ 2 (rw (b, lt-ltb (boundary_start s l) l.nl h)) (omega arith))
        (λ _ q. absurd (n q))

    -- a step marks a later one
    still : (n i : ℕ) → i ≤ n → get_or (mark_step s l (iterate (mark_step s l) labelled n) n) i 0 ≡ 2 → get_or (iterate (mark_step s l) labelled n) i 0 ≡ 2
    unfolding mark_step next_of
    still n i h e =
        ⊎_elim (λ (q : (_ ≡ true) × (i ≡ n + 1 + byte_of s n 0) × (2 ≡ 2)). absurd (omega (arith, q.1))) (λ q. q) (if_stored _ (iterate (mark_step s l) labelled n) (n + 1 + byte_of s n 0) 2 i e)

    here : (i : ℕ) → get_or (iterate (mark_step s l) labelled i) i 0 ≡ 2 → byte_of s i 0 < 128 → next_of s i < l.nl
        → get_or (mark_step s l (iterate (mark_step s l) labelled i) i) (next_of s i) 0 ≡ 2
    unfolding mark_step
    here i e b q =
        let d : length (iterate (mark_step s l) labelled i) ≡ 32768 = turns Long (mark_step s l) i (λ x k _ p. step_length x k ∙ p) labelled labelled_long in
        if_set _ (iterate (mark_step s l) labelled i) _ 2 (rw (eq-eqb _ 2 e, lt-ltb (byte_of s i 0) 128 b, lt-ltb (next_of s i) l.nl q)) (omega arith)

    -- §67: a label's step
    code_marked : (k : ℕ) → k < chars l → (info_of infos k).tag ≡ 1 → redirected s l (info_of infos k).remainder < l.nl
        → get_or labelled (redirected s l (info_of infos k).remainder) 0 ≡ 2
    code_marked k h t q =
        turned Long (λ m. get_or m (redirected s l (info_of infos k).remainder) 0 ≡ 2) (mark_info infos s l) opened (chars l) k opened_long (λ x i e. info_length x i ∙ e) h
        (λ x e. info_sets x k e t q) (λ x i e. info_keeps x i _ e)

    -- §69: the left boundary's, which is not the last step
    left_marked : has_boundary s l ≡ true → boundary_start s l < l.nl → (boundary_start s l ≡ l.nl - 1 → ⊥) → get_or labelled (boundary_start s l) 0 ≡ 2
    left_marked b h n =
        turns (λ m. get_or m (boundary_start s l) 0 ≡ 2) (mark_info infos s l) (chars l) (λ x k _ e. info_keeps x k _ e) opened (sets (mark_first s (replicate 32768 0)) (first_length _ ∙ length-replicate {A = ℕ} 32768 0))
      where
        sets : (m : List ℕ) → Long m → get_or (mark_last s l m) (boundary_start s l) 0 ≡ 2
        sets m e = left_sets m e b h n

    -- §70: the steps
    marked_on : (n i : ℕ) → i < n → get_or (iterate (mark_step s l) labelled n) i 0 ≡ 2 → byte_of s i 0 < 128 → next_of s i < l.nl
        → get_or (iterate (mark_step s l) labelled n) (next_of s i) 0 ≡ 2
    unfolding iterate
    marked_on zero i h e b q = absurd (not-suc-le-zero h)
    marked_on (suc n) i h e b q = elim (ℕ_discrete i n) [
      | yes z ↦ subst (λ (k : ℕ). get_or (mark_step s l (iterate (mark_step s l) labelled k) k) (next_of s i) 0 ≡ 2) z
          (here i (subst (λ (k : ℕ). get_or (iterate (mark_step s l) labelled k) i 0 ≡ 2) (sym z) (still n i (omega arith) e)) b q)
      | no z ↦ step_keeps _ n (next_of s i) (marked_on n i (omega arith) (still n i (omega arith) e) b q)
    ]

-- how a program starts: the left boundary's, or a character's
data Started (infos s : List ℕ) (l : Layout) (x : ℕ) : ℕ → Type 0 where
  by_left : x ≡ 256 → has_boundary s l ≡ true → boundary_start s l < l.nl → Started infos s l x (boundary_start s l)
  by_code : (k : ℕ) → x ≡ l.bc + k → k < chars l → (info_of infos k).tag ≡ 1 → redirected s l (info_of infos k).remainder < l.nl
      → Started infos s l x (redirected s l (info_of infos k).remainder)

-- a start below nl is it
below_is : (r n : ℕ) → cond (ltb r n) r n < n → r < n
below_is r n h = elim (dec_lt r n) [ yes k ↦ k | no k ↦ absurd (omega (arith, rw (le-ltb r n (omega arith)) at h)) ]

module _ (infos s : List ℕ) (l : Layout) (x : ℕ) where
  abbrev taken : ℕ
  taken = redirected s l (info_of infos (x - l.bc)).remainder

  left_started : (b : Bool) → has_boundary s l ≡ b → x ≡ 256 → cond b (cond (ltb (boundary_start s l) l.nl) (boundary_start s l) l.nl) l.nl < l.nl
      → Started infos s l x (cond b (cond (ltb (boundary_start s l) l.nl) (boundary_start s l) l.nl) l.nl)
  left_started true q e k = let h = below_is (boundary_start s l) l.nl k in rw (lt-ltb (boundary_start s l) l.nl h) (by_left e q h)
  left_started false q e k = absurd (omega arith)

  code_started : (b c : Bool) → leb l.bc x && leb x l.ec ≡ b → eqb (info_of infos (x - l.bc)).tag 1 ≡ c
      → cond (b && c) (cond (ltb taken l.nl) taken l.nl) l.nl < l.nl → Started infos s l x (cond (b && c) (cond (ltb taken l.nl) taken l.nl) l.nl)
  code_started true true q t k =
      let h = below_is taken l.nl k in
      let z = both (leb l.bc x) (leb x l.ec) q in
      let a = leb-true l.bc x z.0 in
      let c = leb-true x l.ec z.1 in
      rw (lt-ltb taken l.nl h) (by_code (x - l.bc) (omega arith) (omega arith) (eqb-true _ 1 t) h)
  code_started true false q t k = absurd (omega arith)
  code_started false c q t k = absurd (omega arith)

  started : program_of infos s l x < l.nl → Started infos s l x (program_of infos s l x)
  unfolding program_of in_range
  started h = elim (ℕ_discrete x 256) [
    | yes e ↦ rw (eq-eqb x 256 e) (left_started (has_boundary s l) refl e (rw (eq-eqb x 256 e) at h))
    | no e ↦ rw (ne_eqb x 256 e) (code_started _ _ refl refl (rw (ne_eqb x 256 e) at h))
  ]

-- the marks of a file whose programs meet no step over 128
module _ (infos s : List ℕ) (l : Layout) (few : l.nl ≤ 32767) (none : NoneOver infos s l) where
  -- the left boundary's word is over 128
  not_last : has_boundary s l ≡ true → boundary_start s l ≡ l.nl - 1 → byte_of s (boundary_start s l) 0 ≤ 128 → ⊥
  unfolding has_boundary
  not_last b y z = omega (arith, eqb-true (byte_of s (l.nl - 1) 0) 255 b, ap (λ (k : ℕ). byte_of s k 0) y)

  stays : (p : ℕ) → get_or (labelled infos s l) p 0 ≡ 2 → get_or (marks_of infos s l) p 0 ≡ 2
  unfolding marks_of marks_from
  stays p e = turns (λ m. get_or m p 0 ≡ 2) (mark_step s l) l.nl (λ x i _ q. step_keeps infos s l x i p q) _ e

  -- a program starts at an accessible step
  pub starts_marked : (x : ℕ) → x ≤ 256 → program_of infos s l x < l.nl → get_or (marks_of infos s l) (program_of infos s l x) 0 ≡ 2
  starts_marked x n h = go (started infos s l x h) (none _ (start x n h))
    where
      go : {p : ℕ} → Started infos s l x p → byte_of s p 0 ≤ 128 → get_or (marks_of infos s l) p 0 ≡ 2
      go (by_left e b q) z = stays _ (left_marked infos s l few b q (λ y. not_last b y z))
      go (by_code k e q t r) z = stays _ (code_marked infos s l few k q t r)

  -- and leads on to accessible ones
  pub goes_marked : (i : ℕ) → i < l.nl → get_or (marks_of infos s l) i 0 ≡ 2 → byte_of s i 0 < 128 → next_of s i < l.nl → get_or (marks_of infos s l) (next_of s i) 0 ≡ 2
  unfolding marks_of marks_from
  goes_marked i h e b q = marked_on infos s l few l.nl i h e b q
