-- To write what is left of the bytes from here is to write them from the start.
use Rattle.lent.specs.Write.{run}
use Rattle.lent.specs.Pens.{place_of}
use Rattle.lent.proofs.Left.{drop_next, drop_done}
use Rattle.lent.proofs.Pen.put_bytes.Goals as goal

pub loop-b-preserved : goal.loop-b-preserved
unfolding run
loop-b-preserved c =
    let l = c.loop-b in
    (cc (drop_next (place_of l.self) c.args.bytes.now l.b-index c.loop-b-test.true), cc)

pub returns : goal.returns
unfolding run
returns c =
    let l = c.loop-b in
    record { same = l.invariant.1; wrote = record { is = drop_done _ _ _ _ l.invariant.0 c.loop-b-test.false } }
