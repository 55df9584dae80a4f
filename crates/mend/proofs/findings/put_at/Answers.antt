-- The turns of the loop are those of `each`: a finding is written where it is there.
use Rattle.std.proofs.Common.{rules, sym, ◌∙◌}
use Rattle.lent.proofs.Pens.{still, arm_then, arm_else, no_turn, one_turn, all_turns}
use Rattle.mend.specs.Findings.{found, found_at}
use Rattle.mend.proofs.findings.put_at.Goals as goal
use Rattle.mend.proofs.findings.put_at.Goals.{then-holds, else-holds}

pub loop-second-init : goal.loop-second-init
loop-second-init c = (no_turn, search rules)

pub loop-second-preserved : goal.loop-second-preserved
unfolding found
loop-second-preserved c = (
  elim c.if-holds.branch [
    | then-holds w ↦ rw w.pen-is (one_turn (arm_then (sym c.holds.ensures ∙ w.if-holds.true) w.put_record.ensures) c.loop-second.invariant.0)
    | else-holds w ↦ rw w.pen-is (one_turn (arm_else (sym c.holds.ensures ∙ w.if-holds.false) still) c.loop-second.invariant.0)
  ],
  search rules,
)

pub returns : goal.returns
unfolding found_at
returns c = rw (← c.seconds-second-end.ensures) (all_turns c.loop-second.invariant.0 c.loop-second.invariant.1 c.loop-second-test.false)
