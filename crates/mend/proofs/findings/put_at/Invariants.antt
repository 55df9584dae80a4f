-- The turns of the loop are those of `each`.
use Rattle.std.proofs.Common.{◌≤◌}
use Rattle.lent.specs.Write.{each}
use Rattle.lent.specs.Pens.{Written}
use Rattle.tfm.specs.Subfiles.{table_of}
use Rattle.mend.specs.Holds.{table_number}
use Rattle.mend.specs.Findings.{found}
use Rattle.mend.proofs.findings.put_at.Given as goal

abbrev pub invariant-loop-second : goal.invariant-loop-second
invariant-loop-second l =
    Written l.initial.pen
    (each l.second
    (found l.looked.file.now l.looked.font.infos.now l.looked.font.steps.now l.looked.marks.now l.looked.font.layout
    (table_of l.looked.file.now l.looked.font.layout (table_number l.tag l.first))
    l.tag
    l.first))
    l.pen
    × (l.second ≤ l.second-end)
