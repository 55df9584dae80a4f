-- By the tag.
use Rattle.items.proofs.Laws.{choices}
use Rattle.listing.specs.Characters.{tag_item}
use Rattle.listing.proofs.characters.Setting.put_tag.Goals as goal

pub returns-in-1 : goal.returns-in-1
unfolding tag_item
returns-in-1 c = search choices depth 9

pub returns-in-2 : goal.returns-in-2
unfolding tag_item
returns-in-2 c = search choices depth 9

pub returns-in-3 : goal.returns-in-3
unfolding tag_item
returns-in-3 c = search choices depth 9

pub returns-in_default : goal.returns-in_default
unfolding tag_item
returns-in_default c = search choices depth 9
