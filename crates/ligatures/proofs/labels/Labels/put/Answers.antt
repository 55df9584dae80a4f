-- The boundary's label and those of the codes, and none where the step carries none.
use Rattle.std.proofs.Common.{sym, ◌∙◌}
use Rattle.items.proofs.Laws.{after}
use Rattle.ligatures.specs.Labels.{label_items}
use Rattle.ligatures.proofs.Labelled.{no_labels}
use Rattle.ligatures.proofs.labels.Labels.put.Goals as goal

pub returns-then-at : goal.returns-then-at
unfolding label_items
returns-then-at c = search after

pub returns-else-at : goal.returns-else-at
returns-else-at c = no_labels _ _ _ _ c.args.self.now.agree (sym c.at.ensures ∙ c.if-at.false)
