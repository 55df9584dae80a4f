-- The turns of the loop are those of `each`.
use Rattle.gather.proofs.Enters.{still, no_turn, one_turn}
use Rattle.gather.proofs.Tops.{some_cell, no_cell}
use Rattle.gather.proofs.put_row.Goals.{in-Some, in_default}
use Rattle.gather.proofs.put_row.Goals as goal

pub loop-right-init : goal.loop-right-init
loop-right-init c = no_turn

pub loop-right-preserved : goal.loop-right-preserved
loop-right-preserved c =
    let table = c.args.table.now in
    elim c.match-step.branch [
      | in-Some w ↦ rw w.entries-is (one_turn (rw (some_cell c.args.left c.loop-right.right _ table w.in-Some.is, ← w.from.ensures) w.put.ensures) c.loop-right.invariant)
      | in_default w ↦ rw w.entries-is (one_turn (rw (no_cell c.args.left c.loop-right.right table w.in_default.is) still) c.loop-right.invariant)
    ]
