-- Each turn prints one step of what is left, unless the text no longer fits.
use Rattle.std.proofs.Common.{◌≡◌, ◌+◌, length, arith, rules, tests}
use Rattle.items.proofs.Jumps.{rest_all, rest_more, rest_none, rest_stuck}
use Rattle.ligatures.proofs.Ways.{forwards}
use Rattle.ligatures.proofs.put_program.Goals as goal

pub loop-i-init : goal.loop-i-init
loop-i-init c = rest_all _ _ _ _ _ _

pub returns-then-has_overflowed : goal.returns-then-has_overflowed
returns-then-has_overflowed c =
    let full : c.loop-i.pen.to ≡ length c.loop-i.pen.out.now + 1 = search (rules, tests) in
    rest_stuck _ _ _ _ _ _ c.loop-i.invariant full

pub loop-i-smaller : goal.loop-i-smaller
loop-i-smaller c =
    omega (arith, forwards _ _ _ c.loop-i-test.true c.following-i.ensures, c.loop-i-test.true)

pub loop-i-preserved : goal.loop-i-preserved
loop-i-preserved c =
    rest_more _ _ _ _ _ _ c.loop-i.invariant c.loop-i-test.true c.following-i.ensures (forwards _ _ _ c.loop-i-test.true c.following-i.ensures) c.put_step.ensures

pub returns : goal.returns
returns c = rest_none _ _ _ _ _ _ c.loop-i.invariant c.loop-i-test.false
