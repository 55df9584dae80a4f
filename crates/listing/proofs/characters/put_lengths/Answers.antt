-- The calls, one after the other.
use Rattle.items.proofs.Laws.{after}
use Rattle.listing.specs.Characters.{length_items}
use Rattle.listing.proofs.characters.put_lengths.Goals as goal

pub returns : goal.returns
unfolding length_items
returns c = search after
