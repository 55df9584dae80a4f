-- The turns of the loop are those of `loop`.
use Rattle.std.proofs.Common.{◌≤◌}
use Rattle.items.specs.Items.{loop, Printed}
use Rattle.header.specs.Parameters.{parameter_at}
use Rattle.header.proofs.parameters.put_each_parameter.Given as goal

abbrev pub invariant-loop-i : goal.invariant-loop-i
invariant-loop-i l = Printed l.initial.pen 1 (loop l.i (parameter_at l.kind l.font.params.now)) l.pen × (l.i ≤ l.font.layout.np)
