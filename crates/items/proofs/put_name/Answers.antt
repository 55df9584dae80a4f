-- The calls, one after the other.
use Rattle.lent.proofs.Pens.{seq}
use Rattle.items.specs.Items.{close, word_text}
use Rattle.items.proofs.put_name.Goals as goal

pub returns : goal.returns
unfolding close word_text
returns c = search seq
