-- Each arm of the branch prints its arm of `choose`.
use Rattle.items.proofs.Laws.{after, choices}
use Rattle.header.specs.Header.{string_items, scheme_item}
use Rattle.header.proofs.put_strings.Goals as goal

pub returns-then-font-ge12 : goal.returns-then-font-ge12
unfolding string_items scheme_item
returns-then-font-ge12 c = search (choices, after) depth 9

pub returns-else-font-ge12 : goal.returns-else-font-ge12
unfolding string_items scheme_item
returns-else-font-ge12 c = search choices depth 9
