-- By the state of the entry.
use Rattle.settle.proofs.Whole.{visited}
use Rattle.settle.proofs.visit.Goals as goal

pub returns-in-Left : goal.returns-in-Left
returns-in-Left c = visited c.requires c.settle.ensures
