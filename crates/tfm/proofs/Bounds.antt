-- Every count is at most 65,536.
use Prim.Native.Nat.{ℕ, zero, suc, ◌≤◌}
use mathlib.Core.List.{List, [], ◌∷◌}
use lib.ListN.{get_or}

-- each number of a list is at most b
abbrev pub AtMost : ℕ → List ℕ → Type 0
AtMost b [] = 0 ≤ b
AtMost b (x ∷ xs) = (x ≤ b) × AtMost b xs

pub at_most : (b : ℕ) (xs : List ℕ) (i : ℕ) → AtMost b xs → get_or xs i 0 ≤ b
at_most b [] i h = h
at_most b (x ∷ xs) zero h = h.0
at_most b (x ∷ xs) (suc i) h = at_most b xs i h.1
