-- The calls, one after the other.
use Rattle.lent.proofs.Pens.{seq}
use Rattle.ink.specs.Ink.{octal}
use Rattle.ink.proofs.put_octal.Goals as goal

pub returns : goal.returns
unfolding octal
returns c = search seq
