-- The turns of the loop are those of `each`.
use Rattle.std.proofs.Common.{rules}
use Rattle.lent.proofs.Pens.{no_turn, one_turn, all_turns}
use Rattle.mend.specs.Findings.{found_on}
use Rattle.mend.proofs.findings.put_on.Goals as goal

pub loop-i-init : goal.loop-i-init
loop-i-init c = (no_turn, search rules)

pub loop-i-preserved : goal.loop-i-preserved
loop-i-preserved c = (one_turn (rw (← c.lowest-low.ensures) c.put_at.ensures) c.loop-i.invariant.0, search rules)

pub returns : goal.returns
unfolding found_on
returns c = search (all_turns, rules)
