-- The call.
use Rattle.header.specs.Header.{check_item}
use Rattle.header.proofs.put_check_sum.Goals as goal

pub returns : goal.returns
unfolding check_item
returns c = rw (← c.word_of-word.ensures) c.put_leaf.ensures
