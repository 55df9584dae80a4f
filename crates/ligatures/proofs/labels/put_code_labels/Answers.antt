-- The turns of the loop are those of `loop`.
use Rattle.std.proofs.Common.{arith}
use Rattle.items.proofs.Laws.{no_round, one_round, all_rounds}
use Rattle.ligatures.proofs.labels.put_code_labels.Goals as goal

pub loop-c-init : goal.loop-c-init
loop-c-init c = no_round

pub loop-c-preserved : goal.loop-c-preserved
loop-c-preserved c = search one_round

pub returns-2 : goal.returns-2
returns-2 c = all_rounds (one_round c.put_label.ensures c.loop-c.invariant) (omega arith) (omega arith)
