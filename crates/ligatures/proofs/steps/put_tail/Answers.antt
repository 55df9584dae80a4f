-- Each arm of the branch prints its arm of `choose`.
use Rattle.items.proofs.Laws.{choices}
use Rattle.ligatures.specs.Ligatures.{tail_item}
use Rattle.ligatures.proofs.steps.put_tail.Goals as goal

pub returns-then-skip-eq0 : goal.returns-then-skip-eq0
unfolding tail_item
returns-then-skip-eq0 c = search choices depth 9

pub returns-then-skip-ge128 : goal.returns-then-skip-ge128
unfolding tail_item
returns-then-skip-ge128 c = search choices depth 9

pub returns-else-skip-ge128 : goal.returns-else-skip-ge128
unfolding tail_item
returns-else-skip-ge128 c = rw (← c.skipped.ensures) (search choices depth 9)
