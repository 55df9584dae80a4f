-- What a decimal text says, and demand 3: how near it is to the stored word that it is printed for
use Rattle.std.specs.Prelude.{ℕ, suc, ◌+◌, ◌-◌, ◌*◌, ◌/◌, ◌^◌, ◌≤◌, ◌<◌, ◌≡◌, Bool, true, false, ◌&&◌, List, [], ◌∷◌, leb, eqb, ℤ, pos, negsuc, neg_ℤ, nat_abs, ◌-ℤ◌, ◌*ℤ◌}
use Rattle.std.proofs.Math.Option.{Option, some, none}
use Rattle.std.specs.Int.{w32}
use Rattle.std.proofs.Common.{to_z, of_z}

-- the number digits / 10 ^ places
pub record Value : Type 0 where
  pub digits : ℤ
  pub places : ℕ

-- a text is read as one reads a decimal: "-" or nothing, digits, ".", digits; on either side of the point there may be none. Anything else is `none`.
abbrev pub is_digit : ℕ → Bool
is_digit c = leb 48 c && leb c 57

unfoldable pub after_point : ℕ → ℕ → List ℕ → Option Value
after_point n k [] = some (record { digits = pos n; places = k })
after_point n k (c ∷ t) = elim (is_digit c) [ true ↦ after_point (10 * n + (c - 48)) (suc k) t | false ↦ none ]

unfoldable pub before_point : ℕ → List ℕ → Option Value
before_point n [] = none
before_point n (c ∷ t) =
    elim (eqb c 46) [
      | true ↦ after_point n 0 t
      | false ↦ elim (is_digit c) [ true ↦ before_point (10 * n + (c - 48)) t | false ↦ none ]
    ]

abbrev pub opposite : Option Value → Option Value
opposite none = none
opposite (some v) = some (record { digits = neg_ℤ v.digits; places = v.places })

unfoldable pub value_of : List ℕ → Option Value
value_of [] = none
value_of (c ∷ t) = elim (eqb c 45) [ true ↦ opposite (before_point 0 t) | false ↦ before_point 0 (c ∷ t) ]

-- how far the decimal v is from z parts of 1/1048576, counted in parts of 1/(1048576 * 10 ^ places): half a part is 10 ^ places / 2 of these
abbrev pub off_by : ℤ → Value → ℕ
off_by z v = nat_abs (v.digits *ℤ pos 1048576 -ℤ z *ℤ pos (10 ^ v.places))

-- the decimal, rounded to a whole number of parts: its size plus half a part, cut off, with its sign
abbrev pub with_sign : ℤ → ℕ → ℤ
with_sign (pos _) n = pos n
with_sign (negsuc _) n = neg_ℤ (pos n)

abbrev pub rounded : Value → ℤ
rounded v = with_sign v.digits ((2 * (nat_abs v.digits * 1048576) + 10 ^ v.places) / (2 * 10 ^ v.places))

-- demand 3, of a number of z parts and the decimal v that is printed for it
pub record Demand3 (z : ℤ) (v : Value) : Type 0 where
  -- it has a place at least
  pub least : 1 ≤ v.places
  -- it has at most seven places
  pub few : v.places ≤ 7
  -- it differs from the number by less than half a part
  pub near : 2 * off_by z v < 10 ^ v.places
  -- no decimal with fewer places, one being the least, comes that near
  pub shortest : (u : Value) → 1 ≤ u.places → u.places < v.places → 2 * off_by z u < 10 ^ u.places → ⊥
  -- every other with as many places is farther off
  pub nearest : (u : Value) → u.places ≡ v.places → (u.digits ≡ v.digits → ⊥) → off_by z v < off_by z u
  -- rounding the decimal to the nearest part gives the number back
  pub back : rounded v ≡ z

-- and of a stored word: the text is a decimal, which has this of the word as a signed number, and rounds to the word
pub record Shown (w : ℕ) (t : List ℕ) : Type 0 where
  pub value : Value
  pub reads : value_of t ≡ some value
  pub meets : Demand3 (to_z w32 w) value
  pub word : of_z w32 (rounded value) ≡ w
