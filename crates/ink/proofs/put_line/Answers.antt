-- The calls, one after the other.
use Rattle.lent.proofs.Pens.{seq}
use Rattle.ink.specs.Ink.{line}
use Rattle.ink.proofs.put_line.Goals as goal

pub returns : goal.returns
unfolding line
returns c = search seq
