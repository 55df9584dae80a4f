-- What loops make.
use Rattle.std.specs.Prelude.{ℕ, zero, suc, List, [], ◌∷◌, ◌++◌}

-- a loop: n turns, from 0, of a state
unfoldable pub iterate {ℓ} : {A : Type ℓ} → (A → ℕ → A) → A → ℕ → A
iterate g a zero = a
iterate g a (suc n) = g (iterate g a n) n

-- g 0, g 1, .. of which there are n
unfoldable pub tabulate : (ℕ → ℕ) → ℕ → List ℕ
tabulate g zero = []
tabulate g (suc n) = tabulate g n ++ (g n ∷ [])
