-- Each turn prints one piece of what is left.
use Rattle.std.proofs.Common.{◌≤◌, ◌-◌}
use Rattle.items.proofs.Jumps.{Rest}
use Rattle.ligatures.specs.Ligatures.{piece_end}
use Rattle.ligatures.specs.Programs.{piece_at_of}
use Rattle.ligatures.proofs.put_pieces.Given as goal

abbrev pub invariant-loop-i : goal.invariant-loop-i
invariant-loop-i l =
    Rest (piece_at_of l.program l.labels.starts.now) (piece_end l.program.marks.now l.nl) l.nl 1 0 l.initial.pen l.pen l.i × (l.i ≤ l.nl)

abbrev pub decreases-loop-i : goal.decreases-loop-i
decreases-loop-i l = l.nl - l.i
