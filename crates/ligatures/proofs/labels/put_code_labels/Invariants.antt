-- The labels of the codes before this one are printed.
use Rattle.items.specs.Items.{loop, Printed}
use Rattle.ligatures.specs.Labels.{label_item}
use Rattle.ligatures.proofs.labels.put_code_labels.Given as goal

abbrev pub invariant-loop-c : goal.invariant-loop-c
invariant-loop-c l = Printed l.initial.pen 1 (loop l.c (label_item l.letters l.starts l.i)) l.pen
