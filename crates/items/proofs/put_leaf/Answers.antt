-- The head and its end.
use Rattle.lent.proofs.Pens.{seq}
use Rattle.items.proofs.Laws.{a_leaf}
use Rattle.items.proofs.put_leaf.Goals as goal

pub returns : goal.returns
returns c = a_leaf (search seq)
