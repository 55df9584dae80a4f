-- The group round the lengths and the tag.
use Rattle.items.proofs.Laws.{a_group, after}
use Rattle.listing.specs.Characters.{present_item}
use Rattle.listing.proofs.characters.Setting.put_present.Goals as goal

pub returns : goal.returns
unfolding present_item
returns c = a_group c.put_close.ensures (after c.put_tag.ensures c.put_lengths.ensures) c.open_group.ensures
