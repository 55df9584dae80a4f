-- The steps before this one are printed.
use Rattle.std.proofs.Common.{◌-◌, ◌≤◌, max}
use Rattle.items.specs.Items.{Printed}
use Rattle.ligatures.specs.Programs.{unused_steps_of}
use Rattle.ligatures.proofs.put_unused_steps.Given as goal

abbrev pub invariant-loop-step : goal.invariant-loop-step
invariant-loop-step l =
    Printed l.initial.pen 2 (unused_steps_of l.program l.i (l.step - l.i)) l.pen × (l.step ≤ max l.i l.end)
