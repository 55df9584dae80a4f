-- Demand 3 of the text that is printed, for every word
use Prim.Native.Nat.{ℕ, zero, suc, ◌+◌, ◌-◌, ◌*◌, ◌/◌, ◌%◌, ◌^◌, ◌≤◌, ◌<◌}
use mathlib.Core.Path.{◌≡◌, refl, ap, ◌∙◌, subst}
use mathlib.Core.Bool.{Bool, true, false}
use mathlib.Core.List.{List, [], ◌∷◌, ◌++◌, append_assoc}
use mathlib.Core.Option.{some, none}
use native.Mathlib.Decide.{dec_lt, ℕ_discrete}
use native.Mathlib.Omega.{arith}
use native.Mathlib.Nat.{pow-succ'}
use borrow.Author.Tests.{le-leb, lt-ltb, le-ltb, eq-eqb, ne_eqb}
use lib.Dec.{ltb}
use lib.IntN.{pos, neg_ℤ}
use mir.Syntax.{w32}
use mir.Val.{to_z, of_z}
use mir.ValLaws.{to_z_pos, of_z-to_z}
use Rattle.ink.specs.Ink.{digits}
use Rattle.decimal.specs.Text.{negative, whole, rest, places, text_of}
use Rattle.decimal.specs.Value.{Value, after_point, before_point, opposite, value_of, Demand3, Shown}
use Rattle.decimal.proofs.Loop.{Outcome, printed}
use Rattle.decimal.proofs.Signs.{of_pos, of_neg}

-- a digit before the point
digit : (n d : ℕ) (t : List ℕ) → d < 10 → before_point n ((48 + d) ∷ t) ≡ before_point (10 * n + d) t
unfolding before_point
digit n d t h =
    rw (ne_eqb (48 + d) 46 (omega arith), le-leb 48 (48 + d) (omega arith), le-leb (48 + d) 57 (omega arith), before_point)
    (ap (λ x. before_point (10 * n + x) t) (omega arith))

-- k digits are enough for a number below 10^k
whole_read : (k a : ℕ) (t : List ℕ) → a < 10 ^ k → before_point 0 (digits 10 k a ++ t) ≡ before_point a t
unfolding digits
whole_read zero a t h = ap (λ x. before_point x t) (omega arith)
whole_read (suc k) a t h =
    elim (ℕ_discrete (a / 10) 0) [
      | yes e ↦ rw (eq-eqb _ _ e) (digit 0 (a % 10) t (omega arith) ∙ ap (λ x. before_point x t) (omega arith))
      | no e ↦
          rw (ne_eqb _ _ e, append_assoc)
          (whole_read k (a / 10) ((48 + a % 10) ∷ t) (omega (arith, pow-succ' 10 k))
          ∙ digit (a / 10) (a % 10) t (omega arith)
          ∙ ap (λ x. before_point x t) (omega arith))
    ]

-- the sign, and the size n in its two parts
record Parts (w n : ℕ) (s : Bool) : Type 0 where
  sign : negative w ≡ s
  small : rest w < 1048576
  few : whole w < 10 ^ 4
  size : whole w * 1048576 + rest w ≡ n

parts_pos : (w : ℕ) → w < 2147483648 → Parts w w false
unfolding whole rest
parts_pos w h =
    let s : negative w ≡ false = le-ltb 2047 (w / 1048576) (omega arith) in
    record { sign = s; small = rw s (omega arith); few = rw s (omega arith); size = rw s (omega arith) }

parts_neg : (w : ℕ) → 2147483648 ≤ w → w < 4294967296 → Parts w (4294967296 - w) true
unfolding whole rest
parts_neg w h b =
    elim (dec_lt 0 (w % 1048576)) [
      | yes l ↦
          let f : ltb 0 (w % 1048576) ≡ true = lt-ltb 0 (w % 1048576) l in
          record { sign = s; small = rw (s, f) (omega arith); few = rw (s, f) (omega arith); size = rw (s, f) (omega arith) }
      | no l ↦
          let f : ltb 0 (w % 1048576) ≡ false = le-ltb 0 (w % 1048576) (omega arith) in
          record { sign = s; small = rw (s, f) (omega arith); few = rw (s, f) (omega arith); size = rw (s, f) (omega arith) }
    ]
  where
    s : negative w ≡ true
    s = lt-ltb 2047 (w / 1048576) (omega arith)

pub whole_lt : (w : ℕ) → w < 2 ^ 32 → whole w < 10000
whole_lt w b = elim (dec_lt w 2147483648) [ yes h ↦ (parts_pos w h).few | no h ↦ (parts_neg w (omega arith) b).few ]

pub rest_lt : (w : ℕ) → w < 2 ^ 32 → rest w < 1048576
rest_lt w b = elim (dec_lt w 2147483648) [ yes h ↦ (parts_pos w h).small | no h ↦ (parts_neg w (omega arith) b).small ]

-- a text that is read with no sign is read so where a sign may stand too
unsigned : (t : List ℕ) (v : Value) → before_point 0 t ≡ some v → value_of t ≡ some v
unfolding value_of before_point
unsigned [] v e = e
unsigned (c ∷ t) v e =
    elim (ℕ_discrete c 45)
    [ yes q ↦ let e' : none ≡ some v = rw q at e in cc | no q ↦ rw (ne_eqb c 45 q, value_of) e ]

point : (a : ℕ) (t : List ℕ) → before_point a (46 ∷ t) ≡ after_point a 0 t
unfolding before_point
point a t = refl

-- what is read of the text without its sign
module _ (w n : ℕ) (s : Bool) (P : Parts w n s) where
  outcome : Outcome n 0 (whole w) (places 7 (10 * rest w + 5) 10)
  outcome = subst (λ x. Outcome x 0 (whole w) (places 7 (10 * rest w + 5) 10)) P.size (printed (whole w) (rest w) P.small)

  size_read : before_point 0 (digits 10 4 (whole w) ++ (46 ∷ places 7 (10 * rest w + 5) 10)) ≡ some (record { digits = pos outcome.0; places = outcome.1 })
  size_read = whole_read 4 (whole w) _ P.few ∙ point (whole w) _ ∙ outcome.2

shown_pos : (w : ℕ) → w < 2147483648 → Shown w (text_of w)
unfolding text_of
shown_pos w h =
    record {
      value = v;
      reads = rw P.sign (unsigned _ v (size_read w w false P));
      meets = D;
      word = ap (of_z w32) D.back ∙ of_z-to_z w32 w (record { fits = omega arith });
    }
  where
    P : Parts w w false
    P = parts_pos w h

    O : Outcome w 0 (whole w) (places 7 (10 * rest w + 5) 10)
    O = outcome w w false P

    v : Value
    v = record { digits = pos O.0; places = O.1 }

    D : Demand3 (to_z w32 w) v
    D = rw (to_z_pos w32 w h) (of_pos w O.1 O.0 O.3)

shown_neg : (w : ℕ) → 2147483648 ≤ w → w < 4294967296 → Shown w (text_of w)
unfolding text_of value_of
shown_neg w h b =
    record {
      value = v;
      reads = rw P.sign (ap opposite (size_read w (4294967296 - w) true P));
      meets = D;
      word = ap (of_z w32) D.back ∙ of_z-to_z w32 w (record { fits = omega arith });
    }
  where
    P : Parts w (4294967296 - w) true
    P = parts_neg w h b

    O : Outcome (4294967296 - w) 0 (whole w) (places 7 (10 * rest w + 5) 10)
    O = outcome w (4294967296 - w) true P

    v : Value
    v = record { digits = neg_ℤ (pos O.0); places = O.1 }

    z : to_z w32 w ≡ neg_ℤ (pos (4294967296 - w))
    z = rw (le-ltb w 2147483648 h) (ap (λ x. neg_ℤ (pos x)) one_more)
      where
        one_more : suc (4294967296 - suc w) ≡ 4294967296 - w
        one_more = omega arith

    D : Demand3 (to_z w32 w) v
    D = rw z (of_neg (4294967296 - w) O.1 O.0 O.3)

-- every word
pub shown : (w : ℕ) → w < 2 ^ 32 → Shown w (text_of w)
shown w b = elim (dec_lt w 2147483648) [ yes h ↦ shown_pos w h | no h ↦ shown_neg w (omega arith) b ]
