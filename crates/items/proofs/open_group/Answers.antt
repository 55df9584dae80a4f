-- The calls, one after the other.
use Rattle.lent.proofs.Pens.{seq}
use Rattle.items.proofs.open_group.Goals as goal

pub returns : goal.returns
returns c = search seq
