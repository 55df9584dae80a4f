-- The decimal that is printed for a word is read as that word.
use Prim.Native.Nat.{ℕ, zero, suc, ◌+◌, ◌-◌, ◌*◌, ◌/◌, ◌^◌, ◌<◌, ◌≤◌}
use native.Mathlib.Nat.{pow-succ', div-lt_iff_lt-mul}
use native.Mathlib.Decide.{dec_lt}
use native.Mathlib.Omega.{arith}
use mathlib.Core.Path.{◌≡◌, refl, sym, ap, ◌∙◌}
use mathlib.Core.Bool.{Bool, true, false, ◌&&◌, true≢false}
use mathlib.Core.List.{List, [], ◌∷◌}
use mathlib.Core.Option.{Option, some, none}
use mathlib.Core.Logic.{◌⊎◌, inl, inr, ⊎_elim}
use lib.Dec.{leb, ltb, eqb}
use lib.IntN.{ℤ, pos, negsuc, neg_ℤ, nat_abs}
use mir.Syntax.{w32}
use mir.Val.{to_z}
use mir.ValLaws.{to_z_pos}
use borrow.Author.Tests.{le-leb, lt-ltb, le-ltb, ne_eqb, eqb-true, leb-true}
use Rattle.lent.specs.Write.{flat}
use Rattle.lent.proofs.Bools.{either}
use Rattle.ink.specs.Ink.{between}
use Rattle.faults.specs.Header.{upper}
use Rattle.decimal.specs.Text.{text_of}
use Rattle.decimal.specs.Value.{Value, is_digit, after_point, before_point, opposite, value_of, rounded, with_sign}
use Rattle.decimal.proofs.Demand.{shown}
use Rattle.items.specs.Items.{real, word_text}
use Rattle.forest.specs.Forest.{past}
use Rattle.reading.specs.Values.{took, digit_of, digits_in, signed, parts, places_in, point_in, signs_in, real_at, real_in, bounded}

none_some : (v : Value) → none ≡ some v → ⊥
none_some v e = let z : ◌≡◌ {A = ℕ} 0 1 = ap (λ (x : Option Value). is x) e in omega arith
  where
    is : Option Value → ℕ
    is none = 0
    is (some v) = 1

-- a digit, by the test of `decimal`
record Digit (c : ℕ) (x : Option Value) (v : Value) : Type 0 where
  is : is_digit c ≡ true
  then : x ≡ some v

digit_of_lem : (c : ℕ) (x : Option Value) (v : Value) → (elim (is_digit c) [ true ↦ x | false ↦ none ]) ≡ some v → Digit c x v
digit_of_lem c x v e = ⊎_elim (λ (q : is_digit c ≡ true). record { is = q; then = rw q at e }) (λ (q : is_digit c ≡ false). absurd (none_some v (rw q at e))) (either (is_digit c))

low : (c : ℕ) → is_digit c ≡ true → (48 ≤ c) × (c ≤ 57)
low c e = go (leb 48 c) refl (leb c 57) refl e
  where
    go : (a : Bool) → leb 48 c ≡ a → (b : Bool) → leb c 57 ≡ b → (a && b) ≡ true → (48 ≤ c) × (c ≤ 57)
    go true p true q e = (leb-true 48 c p, leb-true c 57 q)
    go true p false q e = absurd (true≢false (sym e))
    go false p b q e = absurd (true≢false (sym e))

digit_value : (c : ℕ) → is_digit c ≡ true → digit_of c ≡ c - 48
unfolding digit_of between
digit_value c e = rw e

pub digit_test : (c : ℕ) → is_digit c ≡ true → ltb (digit_of c) 10 ≡ true
digit_test c e = let h = low c e in rw (digit_value c e) (lt-ltb (c - 48) 10 (omega arith))

-- after the point
after_step : (n k c : ℕ) (t : List ℕ) (v : Value) → after_point n k (c ∷ t) ≡ some v → Digit c (after_point (10 * n + (c - 48)) (suc k) t) v
unfolding after_point
after_step n k c t v e = digit_of_lem c _ v e

after_end : (n k : ℕ) (v : Value) → after_point n k [] ≡ some v → (v.digits ≡ pos n) × (v.places ≡ k)
unfolding after_point
after_end n k v e = (cc, cc)

places_grow : (n k : ℕ) (t : List ℕ) (v : Value) → after_point n k t ≡ some v → k ≤ v.places
places_grow n k [] v e = omega (arith, (after_end n k v e).1)
places_grow n k (c ∷ t) v e = omega (arith, places_grow (10 * n + (c - 48)) (suc k) t v (after_step n k c t v e).then)

pub below_cut : (k : ℕ) → k < 7 → 10 ^ k < 10000000
below_cut zero h = omega arith
below_cut (suc zero) h = omega arith
below_cut (suc (suc zero)) h = omega arith
below_cut (suc (suc (suc zero))) h = omega arith
below_cut (suc (suc (suc (suc zero)))) h = omega arith
below_cut (suc (suc (suc (suc (suc zero))))) h = omega arith
below_cut (suc (suc (suc (suc (suc (suc zero)))))) h = omega arith
below_cut (suc (suc (suc (suc (suc (suc (suc k))))))) h = omega arith

-- m / p in parts of 1/1,048,576
abbrev pub round : ℕ → ℕ → ℕ
round m p = (2 * (m * 1048576) + p) / (2 * p)

pos_one : (a b : ℕ) → pos a ≡ pos b → a ≡ b
pos_one a b e = ap nat_abs e

after_read : (bound : ℕ) (minus : Bool) (n part unit k all m : ℕ) (t : List ℕ) (v : Value) → after_point all k t ≡ some v → v.digits ≡ pos m → v.places ≤ 7
    → all ≡ n * unit + part → unit ≡ 10 ^ k → places_in bound minus n part unit t ≡ signed bound minus (round m (10 ^ v.places)) []
unfolding places_in parts
after_read bound minus n part unit k all m [] v e d b q u =
    let a = after_end all k v e in
    let z : n * unit + part ≡ m = sym q ∙ pos_one all m (sym a.0 ∙ d) in
    rw (z, u, a.1)
after_read bound minus n part unit k all m (c ∷ t) v e d b q u =
    let s = after_step all k c t v e in
    let l : unit < 10000000 = omega (arith, below_cut k (omega (arith, places_grow (10 * all + (c - 48)) (suc k) t v s.then))) in
    rw (digit_test c s.is, lt-ltb unit 10000000 l, places_in, digit_value c s.is)
    (after_read bound minus n (10 * part + (c - 48)) (10 * unit) (suc k) (10 * all + (c - 48)) m t v s.then d b (omega arith) (omega (arith, pow-succ' 10 k)))

-- before the point
record Before (n c : ℕ) (t : List ℕ) (v : Value) : Type 0 where
  is : is_digit c ≡ true
  then : before_point (10 * n + (c - 48)) t ≡ some v

before_step : (n c : ℕ) (t : List ℕ) (v : Value) → before_point n (c ∷ t) ≡ some v → ((eqb c 46 ≡ true) × (after_point n 0 t ≡ some v)) ⊎ Before n c t v
unfolding before_point
before_step n c t v e =
    ⊎_elim (λ (q : eqb c 46 ≡ true). inl (q, rw (q, before_point) at e))
    (λ (q : eqb c 46 ≡ false). let d = digit_of_lem c (before_point (10 * n + (c - 48)) t) v (rw (q, before_point) at e) in inr (record { is = d.is; then = d.then }))
    (either (eqb c 46))

before_end : (n : ℕ) (v : Value) → before_point n [] ≡ some v → ⊥
unfolding before_point
before_end n v e = none_some v e

at_point : (bound : ℕ) (minus : Bool) (n : ℕ) (t : List ℕ) → point_in bound minus (digits_in 10 n (46 ∷ t)) ≡ places_in bound minus n 0 1 t
unfolding digits_in digit_of between upper point_in
at_point bound minus n t = refl

pub before_read : (bound : ℕ) (minus : Bool) (n m : ℕ) (t : List ℕ) (v : Value) → before_point n t ≡ some v → v.digits ≡ pos m → v.places ≤ 7
    → point_in bound minus (digits_in 10 n t) ≡ signed bound minus (round m (10 ^ v.places)) []
unfolding digits_in
before_read bound minus n m [] v e d b = absurd (before_end n v e)
before_read bound minus n m (c ∷ t) v e d b =
    ⊎_elim
    (λ (q : (eqb c 46 ≡ true) × (after_point n 0 t ≡ some v)).
    rw (eqb-true c 46 q.0) (at_point bound minus n t ∙ after_read bound minus n 0 1 0 n m t v q.1 d b (omega arith) refl))
    (λ (q : Before n c t v).
    rw (digit_test c q.is, digits_in, digit_value c q.is) (before_read bound minus (10 * n + (c - 48)) m t v q.then d b))
    (before_step n c t v e)

-- no sign is left
unsigned : (c : ℕ) → ((c ≡ 46) ⊎ (is_digit c ≡ true)) → (eqb c 45 ≡ false) × (eqb c 32 ≡ false) × (eqb c 43 ≡ false)
unsigned c (inl e) = (ne_eqb c 45 (omega arith), ne_eqb c 32 (omega arith), ne_eqb c 43 (omega arith))
unsigned c (inr e) = let h = low c e in (ne_eqb c 45 (omega arith), ne_eqb c 32 (omega arith), ne_eqb c 43 (omega arith))

pub signs_none : (bound : ℕ) (minus : Bool) (t : List ℕ) (v : Value) → before_point 0 t ≡ some v → signs_in bound minus t ≡ point_in bound minus (digits_in 10 0 t)
unfolding signs_in
signs_none bound minus [] v e = absurd (before_end 0 v e)
signs_none bound minus (c ∷ t) v e =
    let h = unsigned c (⊎_elim (λ (q : (eqb c 46 ≡ true) × (after_point 0 0 t ≡ some v)). inl (eqb-true c 46 q.0)) (λ (q : Before 0 c t v). inr q.is) (before_step 0 c t v e)) in
    rw (h.0, h.1, h.2, signs_in)

-- a text with a sign: what stands after it
record Opposite (x : Option Value) (v : Value) : Type 0 where
  value : Value
  before : x ≡ some value
  digits : v.digits ≡ neg_ℤ value.digits
  places : v.places ≡ value.places

opposite_of : (x : Option Value) (v : Value) → opposite x ≡ some v → Opposite x v
opposite_of none v e = absurd (none_some v e)
opposite_of (some u) v e = record { value = u; before = refl; digits = cc; places = cc }

value_step : (c : ℕ) (t : List ℕ) (v : Value) → value_of (c ∷ t) ≡ some v → ((eqb c 45 ≡ true) × Opposite (before_point 0 t) v) ⊎ ((eqb c 45 ≡ false) × (before_point 0 (c ∷ t) ≡ some v))
unfolding value_of
value_step c t v e =
    ⊎_elim (λ (q : eqb c 45 ≡ true). inl (q, opposite_of (before_point 0 t) v (rw (q, value_of) at e)))
    (λ (q : eqb c 45 ≡ false). inr (q, rw (q, value_of) at e))
    (either (eqb c 45))

-- a number with no sign is not negative
record Positive (v : Value) : Type 0 where
  size : ℕ
  is : v.digits ≡ pos size

after_pos : (n k : ℕ) (t : List ℕ) (v : Value) → after_point n k t ≡ some v → Positive v
after_pos n k [] v e = record { size = n; is = (after_end n k v e).0 }
after_pos n k (c ∷ t) v e = after_pos (10 * n + (c - 48)) (suc k) t v (after_step n k c t v e).then

before_pos : (n : ℕ) (t : List ℕ) (v : Value) → before_point n t ≡ some v → Positive v
before_pos n [] v e = absurd (before_end n v e)
before_pos n (c ∷ t) v e =
    ⊎_elim (λ (q : (eqb c 46 ≡ true) × (after_point n 0 t ≡ some v)). after_pos n 0 t v q.1)
    (λ (q : Before n c t v). before_pos (10 * n + (c - 48)) t v q.then)
    (before_step n c t v e)

ten_pos : (k : ℕ) → 0 < 10 ^ k
ten_pos zero = omega arith
ten_pos (suc k) = omega (arith, pow-succ' 10 k, ten_pos k)

round_none : (p : ℕ) → 0 < p → round 0 p ≡ 0
round_none p h = omega (arith, (div-lt_iff_lt-mul {k = 2 * p} {x = 2 * (0 * 1048576) + p} {y = 1} (omega arith)).1 (omega arith))

-- a word that the bound lets be: 2^24, its first byte is 0 or 255; 2^31, any
abbrev pub Bounded : ℕ → ℕ → Type 0
Bounded bound w = (w < bound) ⊎ (4294967296 ≤ w + bound)

upper_half : (w : ℕ) → 2147483648 ≤ w → to_z w32 w ≡ negsuc (4294967296 - suc w)
upper_half w h = rw (le-ltb w 2147483648 h)

pos_neg : (a b : ℕ) → pos a ≡ negsuc b → ⊥
pos_neg a b e = let z : ◌≡◌ {A = ℕ} 0 1 = ap (λ (x : ℤ). sign x) e in omega arith
  where
    sign : ℤ → ℕ
    sign (pos n) = 0
    sign (negsuc n) = 1

of_pos : (n w : ℕ) → pos n ≡ to_z w32 w → (n ≡ w) × (w < 2147483648)
of_pos n w e =
    elim (dec_lt w 2147483648) [
      | yes l ↦ (pos_one n w (e ∙ to_z_pos w32 w l), l)
      | no l ↦ absurd (pos_neg n (4294967296 - suc w) (e ∙ upper_half w (omega arith)))
    ]

record Negative (n w : ℕ) : Type 0 where
  sum : w + n ≡ 4294967296
  high : 2147483648 ≤ w

of_neg : (n w : ℕ) → w < 4294967296 → negsuc n ≡ to_z w32 w → Negative (suc n) w
of_neg n w b e =
    elim (dec_lt w 2147483648) [
      | yes l ↦ absurd (pos_neg w n (sym (e ∙ to_z_pos w32 w l)))
      | no l ↦ (let q = e ∙ upper_half w (omega arith) in let r : suc n ≡ suc (4294967296 - suc w) = ap nat_abs q in record { sum = omega arith; high = omega arith })
    ]

module _ (bound w : ℕ) (b : w < 4294967296) (c : bound ≤ 2147483648) (f : Bounded bound w) where
  plus_is : (n : ℕ) → (n ≡ w) × (w < 2147483648) → signed bound false n [] ≡ took w true []
  unfolding signed bounded
  plus_is n q =
      let l : n < bound = ⊎_elim (λ (x : w < bound). omega arith) (λ (x : 4294967296 ≤ w + bound). absurd (omega arith)) f in
      rw (lt-ltb n bound l, q.0)

  minus_none : 0 ≡ w → signed bound true 0 [] ≡ took w true []
  unfolding signed bounded
  minus_none e = rw (le-leb 0 bound (omega arith), e)

  minus_some : (n : ℕ) → 0 < n → Negative n w → signed bound true n [] ≡ took w true []
  unfolding signed bounded
  minus_some n s q =
      let l : n ≤ bound = ⊎_elim (λ (x : w < bound). absurd (omega (arith, q.sum, q.high))) (λ (x : 4294967296 ≤ w + bound). omega (arith, q.sum)) f in
      let z : 4294967296 - n ≡ w = omega (arith, q.sum) in
      rw (le-leb n bound l, ne_eqb n 0 (omega arith), z)

  -- what is read after a sign
  minus_is : (m p : ℕ) → 0 < p → with_sign (neg_ℤ (pos m)) (round (nat_abs (neg_ℤ (pos m))) p) ≡ to_z w32 w → signed bound true (round m p) [] ≡ took w true []
  minus_is zero p h e = rw (round_none p h) (minus_none (sym (round_none p h) ∙ (of_pos (round 0 p) w e).0))
  minus_is (suc m) p h e = go (round (suc m) p) e
    where
      go : (n : ℕ) → neg_ℤ (pos n) ≡ to_z w32 w → signed bound true n [] ≡ took w true []
      go zero e = minus_none (of_pos 0 w e).0
      go (suc n) e = minus_some (suc n) (omega arith) (of_neg n w b e)

  -- a text of at most seven places that rounds to the word is read as the word
  read_value : (t : List ℕ) (v : Value) → value_of t ≡ some v → v.places ≤ 7 → rounded v ≡ to_z w32 w → signs_in bound false t ≡ took w true []
  unfolding value_of signs_in
  read_value [] v e k r = absurd (none_some v e)
  read_value (x ∷ t) v e k r =
      ⊎_elim
      (λ (q : (eqb x 45 ≡ true) × Opposite (before_point 0 t) v).
      let u = q.1.value in
      let m = before_pos 0 t u q.1.before in
      let d : v.digits ≡ neg_ℤ (pos m.size) = q.1.digits ∙ ap neg_ℤ m.is in
      rw (q.0, signs_in)
      (signs_none bound true t u q.1.before
      ∙ before_read bound true 0 m.size t u q.1.before m.is (omega (arith, q.1.places))
      ∙ minus_is m.size (10 ^ u.places) (ten_pos u.places) (rw (d, q.1.places) at r)))
      (λ (q : (eqb x 45 ≡ false) × (before_point 0 (x ∷ t) ≡ some v)).
      let m = before_pos 0 (x ∷ t) v q.1 in
      signs_none bound false (x ∷ t) v q.1
      ∙ before_read bound false 0 m.size (x ∷ t) v q.1 m.is k
      ∙ plus_is (round m.size (10 ^ v.places)) (of_pos (round m.size (10 ^ v.places)) w (rw m.is at r)))
      (value_step x t v e)

  -- THE ROUND TRIP of a length: the decimal that is printed for a word is read as the word
  pub real_back : real_in bound (flat (word_text (real w))) ≡ took w true []
  unfolding real_in real_at word_text flat past upper signs_in
  real_back = let s = shown w b in read_value (text_of w) s.value s.reads s.meets.few s.meets.back
