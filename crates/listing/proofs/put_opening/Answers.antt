-- The calls, one after the other.
use Rattle.items.proofs.Laws.{after}
use Rattle.listing.proofs.put_opening.Goals as goal

pub returns : goal.returns
returns c =
    rw (← c.letters_in-letters.ensures)
    (after c.put_ligtable.ensures (after c.put_boundary.ensures (after c.put_fontdimen.ensures c.put_header.ensures)))
