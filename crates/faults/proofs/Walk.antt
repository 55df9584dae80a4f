-- The turns of the walk along links.
use Prim.Native.Nat.{ℕ, zero, suc, ◌-◌, ◌≤◌, ◌<◌}
use native.Mathlib.Nat.{not-suc-le-zero}
use native.Mathlib.Numerals.{sub-one}
use native.Mathlib.Omega.{arith}
use mathlib.Core.Path.{◌≡◌, refl}
use mathlib.Core.Bool.{Bool, true, false, ◌||◌, and-eq-true_iff}
use lib.Dec.{eqb}
use borrow.Author.Tests.{ltb-true, ne_eqb}
use Rattle.faults.specs.Cycle.{goes, reaches}

or_false : (b : Bool) → b ≡ b || false
or_false true = refl
or_false false = refl

module _ (links : ℕ → Bool) (larger : ℕ → ℕ) (top : ℕ) where
  pub stops : (n r : ℕ) → 0 < n → goes links top r ≡ false → eqb r top ≡ reaches links larger top n r
  unfolding reaches
  stops zero r some h = absurd (not-suc-le-zero some)
  stops (suc n) r some h = rw h (or_false (eqb r top))

  pub goes_on : (n r : ℕ) → 0 < n → goes links top r ≡ true → reaches links larger top n r ≡ reaches links larger top (n - 1) (larger r)
  unfolding reaches
  goes_on zero r some h = absurd (not-suc-le-zero some)
  goes_on (suc n) r some h =
      let under : r < top = ltb-true r top ((and-eq-true_iff _ _).0 h).0 in
      rw (ne_eqb r top (λ e. omega arith), h, sub-one)

  pub ends : (n r : ℕ) → n ≤ 0 → eqb r top ≡ reaches links larger top n r
  unfolding reaches
  ends zero r h = refl
  ends (suc n) r h = absurd (not-suc-le-zero h)
