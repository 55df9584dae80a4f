-- One byte more.
use Rattle.words.proofs.Sentences.{nothing, byte_more}
use Rattle.words.proofs.put_sentence.Goals as goal

pub loop-b-init : goal.loop-b-init
loop-b-init c = nothing _ _

pub loop-b-preserved : goal.loop-b-preserved
loop-b-preserved c = byte_more _ _ _ c.put_spelled.ensures c.loop-b.invariant c.loop-b-test.true
