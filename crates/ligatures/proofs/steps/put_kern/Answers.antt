-- Each arm of the branch prints its arm of `choose`.
use Rattle.items.proofs.Laws.{choices}
use Rattle.ligatures.specs.Ligatures.{kern_item}
use Rattle.ligatures.proofs.steps.put_kern.Goals as goal

pub returns-then-r-kerns : goal.returns-then-r-kerns
unfolding kern_item
returns-then-r-kerns c = rw (← c.word_of-word.ensures) (search choices depth 9)

pub returns-else-r-kerns : goal.returns-else-r-kerns
unfolding kern_item
returns-else-r-kerns c = search choices depth 9
