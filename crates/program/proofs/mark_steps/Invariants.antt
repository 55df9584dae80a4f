-- The turns of the loop are those of `iterate`.
use mathlib.Core.Path.{◌≡◌}
use Rattle.lent.specs.Fold.{iterate}
use Rattle.program.specs.Marks.{mark_step}
use Rattle.program.proofs.mark_steps.Given as goal

abbrev pub invariant-loop-i : goal.invariant-loop-i
invariant-loop-i l = l.marks ≡ iterate (mark_step l.font.steps.now l.font.layout) l.initial.marks l.i
