-- The turns of the loop are those of `each`.
use Rattle.std.proofs.Common.{◌≤◌}
use Rattle.lent.specs.Write.{each}
use Rattle.lent.specs.Pens.{Written}
use Rattle.mend.specs.Findings.{found_after}
use Rattle.mend.proofs.findings.put_findings.Given as goal

abbrev pub invariant-loop-i : goal.invariant-loop-i
invariant-loop-i l =
    Written l.initial.pen
    (each l.i (found_after l.file l.fn.font.infos.now l.fn.font.steps.now l.marks l.fn.font.layout l.from))
    l.pen
    × (l.i ≤ l.n)
