-- The turns of the loop are those of `each`.
use Rattle.std.proofs.Common.{◌≡◌, ◌≤◌, ℕ}
use Rattle.lent.specs.Write.{byte, each}
use Rattle.lent.specs.Pens.{Written}
use Rattle.mend.proofs.copy.put_part.Given as goal

abbrev pub invariant-loop-i : goal.invariant-loop-i
invariant-loop-i g l =
    ((made : ℕ → ℕ) → ((i b : ℕ) → goal.F-post g l.mended i b → b ≡ made i) → Written l.initial.pen (each l.i (λ i. byte (made i))) l.pen)
    × (l.i ≤ l.i-end)
