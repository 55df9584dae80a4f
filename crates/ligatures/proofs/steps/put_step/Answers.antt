-- Each arm of the branch prints its arm of `choose`.
use Rattle.items.proofs.Laws.{choices}
use Rattle.ligatures.specs.Ligatures.{step_item}
use Rattle.ligatures.proofs.steps.put_step.Goals as goal

pub returns-then-skip-gt128 : goal.returns-then-skip-gt128
unfolding step_item
returns-then-skip-gt128 c = rw (← c.byte_of-skip.ensures) (search choices depth 9)

pub returns-then-op-ge128 : goal.returns-then-op-ge128
unfolding step_item
returns-then-op-ge128 c = rw (← c.byte_of-skip.ensures, ← c.byte_of-y.ensures, ← c.byte_of-op.ensures, ← c.address.ensures, ← c.saturating_sub-r.ensures) (search choices depth 9)

pub returns-else-op-ge128 : goal.returns-else-op-ge128
unfolding step_item
returns-else-op-ge128 c = rw (← c.byte_of-skip.ensures, ← c.byte_of-y.ensures, ← c.byte_of-op.ensures, ← c.byte_of-z.ensures) (search choices depth 9)
