-- `put` goes by the test of `put1`.
use Rattle.std.proofs.Common.{refl}
use borrow.Author.Tests.{lt-ltb, le-ltb}
use Rattle.lent.specs.Write.{put1, run}
use Rattle.lent.proofs.Pen.put.Goals as goal

pub returns-then-self : goal.returns-then-self
unfolding put1 run
returns-then-self c = record { same = refl; wrote = record { is = simp (lt-ltb _ _ c.if-self.true) } }

pub returns-else-self : goal.returns-else-self
unfolding put1 run
returns-else-self c = record { same = refl; wrote = record { is = simp (le-ltb _ _ c.if-self.false) } }
