-- The turns of the loop are those of `each`.
use Rattle.std.proofs.Common.{rules}
use Rattle.lent.proofs.Pens.{no_turn, one_turn, all_turns}
use Rattle.mend.specs.Findings.{found_tags}
use Rattle.mend.proofs.findings.put_findings.Goals as goal

pub loop-i-init : goal.loop-i-init
loop-i-init c = (no_turn, search rules)

pub loop-i-preserved : goal.loop-i-preserved
loop-i-preserved c = let made = c.new-looked.ensures in (one_turn (rw (made.file, made.infos, made.steps, made.marks, made.layout) at c.put_on.ensures) c.loop-i.invariant.0, search rules)

pub returns : goal.returns
unfolding found_tags
returns c = search (all_turns, rules)
