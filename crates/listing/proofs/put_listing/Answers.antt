-- The items of the bytes that are the copy.
use Rattle.program.proofs.Marked.{marked}
use Rattle.listing.proofs.put_listing.Goals as goal

pub returns : goal.returns
returns c =
    let font = c.tables_of-font.ensures in
    let marks = rw font.layout at (marked _ _ _ c.mark_all.ensures) in
    rw (← font.infos, ← font.steps, ← c.part-bytes.ensures.holds, ← marks) c.put_copy.ensures
