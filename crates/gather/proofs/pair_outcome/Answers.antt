-- What the room says of the pair once it is settled; then it is wiped.
use Rattle.std.proofs.Common.{arith, rules}
use Rattle.gather.proofs.Tops.{mapped, pair_told}
use Rattle.gather.proofs.pair_outcome.Goals as goal

pub returns-clause-pair_as : goal.returns-clause-pair_as
returns-clause-pair_as c =
    rw (mapped c.outcome-outcome.result c.map.result c.map.ensures.cases (λ x y p. search rules))
    (pair_told c.in_ok-n.ensures.settled c.settle_room.auto.room (omega arith, omega arith) c.outcome-outcome.result c.outcome-outcome.ensures (search rules))
