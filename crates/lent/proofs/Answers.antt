-- Acceptance and refusal.
use Prim.Native.Nat.{ℕ, zero, suc}
use mathlib.Core.Path.{◌≡◌, refl}
use Rattle.lent.specs.Answer.{on_accept}

pub accepted : {A : Type 0} (n : ℕ) (x y : A) → n ≡ 0 → x ≡ on_accept n x y
unfolding on_accept
accepted n x y e = rw e

pub refused : {A : Type 0} (n : ℕ) (x y : A) → (n ≡ 0 → ⊥) → y ≡ on_accept n x y
unfolding on_accept
refused zero x y h = absurd (h refl)
refused (suc n) x y h = refl
