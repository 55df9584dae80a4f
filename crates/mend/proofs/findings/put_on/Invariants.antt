-- The turns of the loop are those of `each`.
use Rattle.std.proofs.Common.{◌≤◌}
use Rattle.lent.specs.Write.{each}
use Rattle.lent.specs.Pens.{Written}
use Rattle.mend.specs.Findings.{found_from}
use Rattle.mend.proofs.findings.put_on.Given as goal

abbrev pub invariant-loop-i : goal.invariant-loop-i
invariant-loop-i l =
    Written l.initial.pen
    (each l.i (found_from l.looked.file.now l.looked.font.infos.now l.looked.font.steps.now l.looked.marks.now l.looked.font.layout l.tag))
    l.pen
    × (l.i ≤ l.i-end)
