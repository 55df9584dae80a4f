-- Each arm of the branch prints its arm of `choose`.
use Rattle.items.proofs.Laws.{after, choices}
use Rattle.header.specs.Header.{rest_items}
use Rattle.header.proofs.put_rest.Goals as goal

pub returns-then-font-ge18 : goal.returns-then-font-ge18
unfolding rest_items
returns-then-font-ge18 c = rw (← c.byte_of.ensures, ← c.saturating_sub.ensures) (search (choices, after) depth 9)

pub returns-else-font-ge18 : goal.returns-else-font-ge18
unfolding rest_items
returns-else-font-ge18 c = search choices depth 9
