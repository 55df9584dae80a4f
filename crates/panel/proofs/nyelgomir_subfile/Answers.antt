-- A number over 9 is answered as 10 is.
use Rattle.std.proofs.Common.{◌∙◌}
use Rattle.panel.proofs.Asked.{asked}
use Rattle.panel.proofs.nyelgomir_subfile.Goals as goal

pub returns-clause-value : goal.returns-clause-value
returns-clause-value c =
    let alike = asked c.args.file.now c.args.k in
    c.put_place.ensures.value ∙ rw c.subfile_asked.ensures alike.0

pub returns-clause-part_after : goal.returns-clause-part_after
returns-clause-part_after c =
    let alike = asked c.args.file.now c.args.k in
    rw (← alike.1, ← alike.2, ← c.subfile_asked.ensures) c.put_place.ensures.part_after
