-- Each arm of the branch prints its arm of `choose`.
use Rattle.items.proofs.Laws.{choices}
use Rattle.ligatures.specs.Ligatures.{piece}
use Rattle.ligatures.proofs.put_piece.Goals as goal

pub returns-in-0 : goal.returns-in-0
unfolding piece
returns-in-0 c = rw (← c.at.ensures) (search choices depth 9)

pub returns-in-1 : goal.returns-in-1
unfolding piece
returns-in-1 c = rw (← c.at.ensures) (search choices depth 9)

pub returns-in_default : goal.returns-in_default
unfolding piece
returns-in_default c = rw (← c.at.ensures) (search choices depth 9)
