-- Each arm of the branch prints its arm of `choose`.
use Rattle.items.proofs.Laws.{choices}
use Rattle.header.specs.Header.{design_item}
use Rattle.header.proofs.put_design_size.Goals as goal

pub returns-then-bad_design_size : goal.returns-then-bad_design_size
unfolding design_item
returns-then-bad_design_size c = rw (← c.bad_design_size.ensures) (search choices depth 9)

pub returns-else-bad_design_size : goal.returns-else-bad_design_size
unfolding design_item
returns-else-bad_design_size c = rw (← c.bad_design_size.ensures, ← c.word_of-word.ensures) (search choices depth 9)
