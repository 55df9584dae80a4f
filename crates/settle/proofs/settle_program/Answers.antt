-- Every entry below k has its outcome, and no pair is being settled.
use Rattle.settle.proofs.Whole.{done_start}
use Rattle.settle.proofs.settle_program.Goals as goal

pub loop-k-init : goal.loop-k-init
loop-k-init c = done_start c.args.room.now c.requires
