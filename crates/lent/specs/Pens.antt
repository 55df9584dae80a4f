-- What a function ensures that writes with a pen.
use Rattle.std.specs.Prelude.{◌≡◌}
use Rattle.lent.specs.Write.{Pen as Place, pen, Text, Wrote}
use Rattle.lent.specs.declared.Pen.{Pen}

abbrev pub place_of : Pen → Place
place_of p = pen p.out.now p.to

-- from p, with t written, comes q, which writes into the same buffer
pub record Written (p : Pen) (t : Text) (q : Pen) : Type 0 where
  pub same : q.out.ghost_name ≡ p.out.ghost_name
  pub wrote : Wrote (place_of p) t (place_of q)
