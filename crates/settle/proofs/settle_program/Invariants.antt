-- Every entry below k has its outcome, and no pair is being settled.
use Rattle.settle.specs.Room.{Done}
use Rattle.settle.proofs.settle_program.Given as goal

abbrev pub invariant-loop-k : goal.invariant-loop-k
invariant-loop-k l = Done l.initial.room l.room l.k
