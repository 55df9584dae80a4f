-- One word more.
use Rattle.items.proofs.Heads.{word_more}
use Rattle.items.proofs.put_head.Goals as goal

pub loop-word-preserved : goal.loop-word-preserved
loop-word-preserved c = word_more _ _ _ c.put.ensures c.loop-word.invariant c.loop-word-test.true
