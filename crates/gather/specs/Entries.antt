-- What a function ensures that puts entries into the room.
use Rattle.std.specs.Prelude.{◌≡◌}
use Rattle.lent.specs.Write.{Pen, pen, Text, Wrote}
use Rattle.gather.specs.declared.entries.Entries.{Entries}

abbrev pub place_of : Entries → Pen
place_of p = pen p.room.now p.to

-- from p, with t written, comes q, which writes into the same room
pub record Entered (p : Entries) (t : Text) (q : Entries) : Type 0 where
  pub same : q.room.ghost_name ≡ p.room.ghost_name
  pub wrote : Wrote (place_of p) t (place_of q)
