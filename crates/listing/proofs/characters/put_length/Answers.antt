-- By the test.
use Rattle.items.proofs.Laws.{choices}
use Rattle.listing.specs.Characters.{length_item}
use Rattle.listing.proofs.characters.put_length.Goals as goal

pub returns-then-i-t : goal.returns-then-i-t
unfolding length_item
returns-then-i-t c = rw (← c.word_of-word.ensures) (search choices depth 9)

pub returns-else-i-t : goal.returns-else-i-t
unfolding length_item
returns-else-i-t c = search choices depth 9
