-- `lookup` and `settle` call each other: the count of pairs not yet being settled falls.
use Prim.Native.Nat.{◌+◌, ◌*◌}
use Rattle.settle.specs.Room.{live}
use Rattle.settle.proofs.+lookup_settle.Given as goal

abbrev pub decreases-lookup : goal.decreases-lookup
decreases-lookup l = 2 * live l.room.now + 1

abbrev pub decreases-settle : goal.decreases-settle
decreases-settle l = 2 * live l.room.now
