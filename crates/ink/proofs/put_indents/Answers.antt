-- The turns of the loop are those of `each`.
use Rattle.std.proofs.Common.{rules}
use Rattle.lent.proofs.Pens.{no_turn, one_turn, all_turns}
use Rattle.ink.proofs.put_indents.Goals as goal

pub loop-init : goal.loop-init
loop-init c = (no_turn, search rules)

pub loop-preserved : goal.loop-preserved
loop-preserved c = (search one_turn, search rules)

pub returns : goal.returns
returns c = search (all_turns, rules)
