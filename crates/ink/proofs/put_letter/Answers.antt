-- The calls, one after the other.
use Rattle.lent.proofs.Pens.{seq}
use Rattle.ink.proofs.put_letter.Goals as goal

pub returns : goal.returns
returns c = search seq
