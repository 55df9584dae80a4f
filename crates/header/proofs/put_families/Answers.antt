-- Each arm of the branch prints its arm of `choose`.
use Rattle.items.proofs.Laws.{after, choices}
use Rattle.header.specs.Header.{family_items, family_item}
use Rattle.header.proofs.put_families.Goals as goal

pub returns-then-font-ge17 : goal.returns-then-font-ge17
unfolding family_items family_item
returns-then-font-ge17 c = search (choices, after) depth 9

pub returns-else-font-ge17 : goal.returns-else-font-ge17
unfolding family_items family_item
returns-else-font-ge17 c = search choices depth 9
