-- No loop has no finding.
use Rattle.lent.proofs.Pens.{still}
use Rattle.judge.proofs.put_loop.Goals as goal

pub returns-in_default : goal.returns-in_default
returns-in_default c = rw c.in_default.is still
