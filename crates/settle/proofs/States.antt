-- What the code knows of a state's number once it has told some states apart.
use Rattle.std.proofs.Common.{◌≡◌, refl, ℕ, ◌<◌, arith}
use Rattle.settle.specs.declared.State.{State}
use Rattle.settle.specs.declared.State.TheVariants.{Settled, Left, Right, Both, Held}
use Rattle.settle.specs.Room.{IsState}

pub not_settled : (s : State) {n : ℕ} → IsState s n → (s ≡ Settled → ⊥) → n ≡ 0 → ⊥
not_settled Settled h f e = f refl
not_settled Left h f e = omega arith
not_settled Right h f e = omega arith
not_settled Both h f e = omega arith
not_settled Held h f e = omega arith

pub not_held : (s : State) {n : ℕ} → IsState s n → (s ≡ Held → ⊥) → n < 4
not_held Settled h f = omega arith
not_held Left h f = omega arith
not_held Right h f = omega arith
not_held Both h f = omega arith
not_held Held h f = absurd (f refl)

pub is_both : (s : State) {n : ℕ} → IsState s n → 0 < n → n < 4 → (s ≡ Left → ⊥) → (s ≡ Right → ⊥) → n ≡ 3
is_both Settled h p q f g = omega arith
is_both Left h p q f g = absurd (f refl)
is_both Right h p q f g = absurd (g refl)
is_both Both h p q f g = h
is_both Held h p q f g = omega arith
