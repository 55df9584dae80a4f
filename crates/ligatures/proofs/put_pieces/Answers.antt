-- Each turn prints one piece of what is left.
use Rattle.std.proofs.Common.{arith, rules}
use Rattle.items.proofs.Jumps.{rest_all, rest_more, rest_none}
use Rattle.ligatures.proofs.Ways.{end_is}
use Rattle.ligatures.proofs.put_pieces.Goals as goal

pub loop-i-init : goal.loop-i-init
loop-i-init c = (rest_all _ _ _ _ _ _, search rules)

pub loop-i-smaller : goal.loop-i-smaller
loop-i-smaller c =
    omega (arith, end_is _ _ _ c.loop-i-test.true c.piece_end-end.ensures, c.loop-i-test.true)

pub loop-i-preserved : goal.loop-i-preserved
loop-i-preserved c =
    let w = end_is _ _ _ c.loop-i-test.true c.piece_end-end.ensures in (
      rest_more _ _ _ _ _ _ c.loop-i.invariant.0 c.loop-i-test.true c.piece_end-end.ensures (omega (arith, w)) (rw c.piece_end-end.ensures at c.put_piece.ensures),
      w.most,
    )

pub returns : goal.returns
returns c = rest_none _ _ _ _ _ _ c.loop-i.invariant.0 c.loop-i-test.false
