-- The turns of the loop are those of `loop`.
use Rattle.std.proofs.Common.{arith}
use Rattle.items.proofs.Laws.{no_round, one_round, all_rounds}
use Rattle.listing.proofs.characters.Setting.put_characters.Goals as goal

pub loop-char-init : goal.loop-char-init
loop-char-init c = no_round

pub loop-char-preserved : goal.loop-char-preserved
loop-char-preserved c = search one_round

pub returns-2 : goal.returns-2
returns-2 c = all_rounds (one_round c.put_character.ensures c.loop-char.invariant) (omega arith) (omega arith)
