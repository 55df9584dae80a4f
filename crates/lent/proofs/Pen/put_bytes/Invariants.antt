-- To write what is left of the bytes from here is to write them from the start.
use Rattle.std.proofs.Common.{◌≡◌, drop}
use Rattle.lent.specs.Write.{puts}
use Rattle.lent.specs.Pens.{place_of}
use Rattle.lent.proofs.Pen.put_bytes.Given as goal

abbrev pub invariant-loop-b : goal.invariant-loop-b
invariant-loop-b l =
    (puts (place_of l.self) (drop l.b-index l.bytes) ≡ puts (place_of l.initial.self) l.bytes) × (l.self.out.ghost_name ≡ l.initial.self.out.ghost_name)
