-- The turns of the loop are those of `loop`.
use Rattle.std.proofs.Common.{rules}
use Rattle.items.proofs.Laws.{no_round, one_round, all_rounds}
use Rattle.header.proofs.put_header_words.Goals as goal

pub loop-i-init : goal.loop-i-init
loop-i-init c = (no_round, search rules)

pub loop-i-preserved : goal.loop-i-preserved
loop-i-preserved c = (search one_round, search rules)

pub returns : goal.returns
returns c = search (all_rounds, rules)
