-- A real is read as the nearest 1/1,048,576: its digits are cut after seven places, and what is left is rounded, with no tie.
use Prim.Native.Nat.{ℕ, zero, suc, ◌+◌, ◌*◌, ◌^◌, ◌<◌, ◌≤◌}
use native.Mathlib.Nat.{pow-succ'}
use native.Mathlib.Omega.{arith}
use mathlib.Core.Path.{◌≡◌, ◌∙◌}
use mathlib.Core.Bool.{Bool, true, ◌&&◌, and-eq-true_iff}
use mathlib.Core.List.{List, [], ◌∷◌, ◌++◌}
use mathlib.Core.Option.{some}
use lib.Dec.{ltb}
use lib.IntN.{pos}
use lib.ListN.{length}
use borrow.Author.Tests.{lt-ltb, le-ltb}
use Rattle.decimal.specs.Value.{Value, before_point}
use Rattle.reading.specs.Values.{digit_of, signed, places_in, signs_in}
use Rattle.reading.proofs.Reals.{round, below_cut, before_read, signs_none}

-- m / 10 ^ k is nearer than half a part to what it is rounded to
pub nearest : (m k : ℕ) → k ≤ 7 → (2 * (round m (10 ^ k) * 10 ^ k) < 2 * (m * 1048576) + 10 ^ k) × (2 * (m * 1048576) < 2 * (round m (10 ^ k) * 10 ^ k) + 10 ^ k)
nearest m zero h = (omega arith, omega arith)
nearest m (suc zero) h = (omega arith, omega arith)
nearest m (suc (suc zero)) h = (omega arith, omega arith)
nearest m (suc (suc (suc zero))) h = (omega arith, omega arith)
nearest m (suc (suc (suc (suc zero)))) h = (omega arith, omega arith)
nearest m (suc (suc (suc (suc (suc zero))))) h = (omega arith, omega arith)
nearest m (suc (suc (suc (suc (suc (suc zero)))))) h = (omega arith, omega arith)
nearest m (suc (suc (suc (suc (suc (suc (suc zero))))))) h = (omega arith, omega arith)
nearest m (suc (suc (suc (suc (suc (suc (suc (suc k)))))))) h = absurd (omega arith)

-- a decimal of at most seven places is read as what it is rounded to
pub decimal_read : (bound : ℕ) (minus : Bool) (m : ℕ) (t : List ℕ) (v : Value) → before_point 0 t ≡ some v → v.digits ≡ pos m → v.places ≤ 7
    → signs_in bound minus t ≡ signed bound minus (round m (10 ^ v.places)) []
decimal_read bound minus m t v e d h = signs_none bound minus t v e ∙ before_read bound minus 0 m t v e d h

-- digits
unfoldable pub all_digits : List ℕ → Bool
all_digits [] = true
all_digits (c ∷ s) = ltb (digit_of c) 10 && all_digits s

-- after the seventh place a digit is passed
module _ (bound : ℕ) (minus : Bool) (n : ℕ) where
  eighth : (part unit d : ℕ) (s : List ℕ) → ltb (digit_of d) 10 ≡ true → 10000000 ≤ unit → places_in bound minus n part unit (d ∷ s) ≡ places_in bound minus n part unit s
  unfolding places_in
  eighth part unit d s e h = rw (e, le-ltb unit 10000000 h, places_in)

  cut_from : (k part : ℕ) (t : List ℕ) (d : ℕ) (s : List ℕ) → all_digits t ≡ true → length t + k ≡ 7 → ltb (digit_of d) 10 ≡ true
      → places_in bound minus n part (10 ^ k) (t ++ (d ∷ s)) ≡ places_in bound minus n part (10 ^ k) (t ++ s)
  unfolding all_digits places_in
  cut_from k part [] d s e h q = let z : k ≡ 7 = omega arith in eighth part (10 ^ k) d s q (rw z (omega arith))
  cut_from k part (c ∷ t) d s e h q =
      let a = (and-eq-true_iff (ltb (digit_of c) 10) (all_digits t)).0 e in
      let w = pow-succ' 10 k in
      let u : 10 * 10 ^ k ≡ 10 ^ suc k = omega arith in
      let l : 10 ^ k < 10000000 = below_cut k (omega arith) in
      rw (a.0, lt-ltb (10 ^ k) 10000000 l, places_in, u) (cut_from (suc k) (10 * part + digit_of c) t d s a.1 (omega arith) q)

  pub cut_off : (t : List ℕ) (d : ℕ) (s : List ℕ) → all_digits t ≡ true → length t ≡ 7 → ltb (digit_of d) 10 ≡ true
      → places_in bound minus n 0 1 (t ++ (d ∷ s)) ≡ places_in bound minus n 0 1 (t ++ s)
  cut_off t d s e h q = cut_from 0 0 t d s e (omega arith) q
