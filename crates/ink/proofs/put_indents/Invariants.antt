-- The turns of the loop are those of `each`.
use Rattle.lent.specs.Write.{each}
use Rattle.lent.specs.Pens.{Written}
use Rattle.ink.specs.Ink.{indent}
use Rattle.std.proofs.Common.{◌≤◌}
use Rattle.ink.proofs.put_indents.Given as goal

abbrev pub invariant-loop : goal.invariant-loop
invariant-loop l = Written l.initial.pen (each l.counter indent) l.pen × (l.counter ≤ l.level)
