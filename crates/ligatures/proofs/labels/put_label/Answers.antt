-- Each arm of the branch prints its arm of `choose`.
use Rattle.items.proofs.Laws.{choices}
use Rattle.ligatures.specs.Labels.{label_item}
use Rattle.ligatures.proofs.labels.put_label.Goals as goal

pub returns-then-at-i : goal.returns-then-at-i
unfolding label_item
returns-then-at-i c = rw (← c.at.ensures) (search choices depth 9)

pub returns-else-at-i : goal.returns-else-at-i
unfolding label_item
returns-else-at-i c = rw (← c.at.ensures) (search choices depth 9)
