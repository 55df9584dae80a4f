-- Each arm of the branch prints its arm of `choose`.
use Rattle.items.proofs.Laws.{choices}
use Rattle.ligatures.proofs.put_unused_step.Goals as goal

pub returns-then-at-ne-PASSED : goal.returns-then-at-ne-PASSED
returns-then-at-ne-PASSED c = rw (← c.at.ensures) (search choices depth 9)

pub returns-else-at-ne-PASSED : goal.returns-else-at-ne-PASSED
returns-else-at-ne-PASSED c = rw (← c.at.ensures) (search choices depth 9)
