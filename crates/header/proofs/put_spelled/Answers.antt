-- The calls, one after the other.
use Rattle.lent.proofs.Pens.{seq}
use Rattle.items.specs.Items.{word_text}
use Rattle.header.proofs.put_spelled.Goals as goal

pub returns : goal.returns
unfolding word_text
returns c = search seq
