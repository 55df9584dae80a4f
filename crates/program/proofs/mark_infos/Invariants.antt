-- The turns of the loop are those of `iterate`.
use mathlib.Core.Path.{◌≡◌}
use Rattle.lent.specs.Fold.{iterate}
use Rattle.program.specs.Marks.{mark_info}
use Rattle.program.proofs.mark_infos.Given as goal

abbrev pub invariant-loop-k : goal.invariant-loop-k
invariant-loop-k l = l.marks ≡ iterate (mark_info l.font.infos.now l.font.steps.now l.font.layout) l.initial.marks l.k
