-- The table keeps what came first; a step over 128 is for no right code.
use Rattle.std.proofs.Common.{arith}
use Rattle.gather.proofs.Walks.{held_first, noted_over, noted_at}
use Rattle.gather.proofs.note.Goals as goal

pub returns-then-byte_of-gt128 : goal.returns-then-byte_of-gt128
returns-then-byte_of-gt128 c = noted_over _ _ _ _ c.byte_of.ensures (omega arith)

pub returns : goal.returns
returns c =
    let first = held_first c.args.table.now c.byte_of-right.result c.packed-step.result in
    noted_at _ _ _ _ _ c.byte_of.ensures (omega arith) (cc first)
