-- The sign, the whole part, the point and the places, one after the other.
use Rattle.std.proofs.Common.{arith}
use Rattle.lent.proofs.Pens.{bytes_after, bytes_after_one}
use Rattle.decimal.specs.Text.{text_of}
use Rattle.decimal.proofs.Demand.{rest_lt}
use Rattle.decimal.proofs.put_decimal.Goals as goal

pub put_places-requires : goal.put_places-requires
put_places-requires c = rw c.rest.ensures (rest_lt _ (omega arith))

pub returns : goal.returns
unfolding text_of
returns c =
    rw (← c.whole.ensures, ← c.rest.ensures)
    (bytes_after (bytes_after_one c.put_places.ensures c.put.ensures) (bytes_after c.put_at_most.ensures c.put_sign.ensures))
