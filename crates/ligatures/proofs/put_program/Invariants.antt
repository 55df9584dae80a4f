-- Each turn prints one step of what is left, unless the text no longer fits.
use Rattle.std.proofs.Common.{◌-◌}
use Rattle.items.proofs.Jumps.{Rest}
use Rattle.ligatures.specs.Ligatures.{step_item, following}
use Rattle.ligatures.proofs.put_program.Given as goal

abbrev pub invariant-loop-i : goal.invariant-loop-i
invariant-loop-i l =
    Rest (step_item l.letters l.font.steps.now l.font.kerns.now) (following l.font.steps.now l.font.layout.nl) l.font.layout.nl 2 l.fn.i l.initial.pen l.pen l.i

abbrev pub decreases-loop-i : goal.decreases-loop-i
decreases-loop-i l = l.font.layout.nl - l.i
