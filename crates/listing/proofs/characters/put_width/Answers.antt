-- By the test.
use Rattle.items.proofs.Laws.{choices}
use Rattle.listing.specs.Characters.{width_item}
use Rattle.listing.proofs.characters.put_width.Goals as goal

pub returns-then-i-widths : goal.returns-then-i-widths
unfolding width_item
returns-then-i-widths c = rw (← c.word_of-word.ensures) (search choices depth 9)

pub returns-else-i-widths : goal.returns-else-i-widths
unfolding width_item
returns-else-i-widths c = rw (← c.word_of-word.ensures) (search choices depth 9)
