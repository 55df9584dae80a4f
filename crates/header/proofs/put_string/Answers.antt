-- The calls, one after the other.
use Rattle.lent.proofs.Pens.{seq}
use Rattle.items.proofs.Laws.{a_leaf}
use Rattle.header.proofs.put_string.Goals as goal

pub returns : goal.returns
returns c = a_leaf (search seq)
