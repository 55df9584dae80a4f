-- The calls, one after the other.
use Rattle.items.proofs.Laws.{after}
use Rattle.ligatures.specs.Ligatures.{accessible_item}
use Rattle.ligatures.proofs.put_accessible.Goals as goal

pub returns : goal.returns
unfolding accessible_item
returns c = rw (← c.byte_of-skip.ensures) (search after)
