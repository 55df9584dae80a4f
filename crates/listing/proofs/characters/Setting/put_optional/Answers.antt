-- By the test.
use Rattle.items.proofs.Laws.{choices}
use Rattle.listing.specs.Characters.{optional_item}
use Rattle.listing.proofs.characters.Setting.put_optional.Goals as goal

pub returns-then-piece-ne0 : goal.returns-then-piece-ne0
unfolding optional_item
returns-then-piece-ne0 c = search choices depth 9

pub returns-else-piece-ne0 : goal.returns-else-piece-ne0
unfolding optional_item
returns-else-piece-ne0 c = search choices depth 9
