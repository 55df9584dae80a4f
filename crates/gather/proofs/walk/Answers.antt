-- What the table has and what the program says from step i on are the whole.
use native.Mathlib.Omega.{arith}
use Rattle.gather.proofs.Walks.{on_more, on_end, next_later}
use Rattle.gather.proofs.walk.Goals as goal

pub loop-i-smaller : goal.loop-i-smaller
loop-i-smaller c =
    let a = c.args in
    let i = c.loop-i.i in
    omega (arith, c.next-i.ensures, next_later a.steps.now a.nl i c.loop-i-test.true)

pub loop-i-preserved : goal.loop-i-preserved
loop-i-preserved c =
    let turn = c.loop-i-test in
    on_more c.loop-i.invariant turn.true c.next-i.ensures c.note.ensures

pub returns : goal.returns
returns c = on_end c.loop-i.invariant c.loop-i-test.false
