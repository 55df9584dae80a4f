-- One link more leaves one fewer.
use Rattle.std.proofs.Common.{rules, ◌≡◌, sym, ◌∙◌, ◌+◌, ◌-◌, arith}
use Rattle.faults.proofs.Walk.{goes_on}
use Rattle.faults.proofs.characters.reaches.Goals as goal

pub loop-preserved : goal.loop-preserved
loop-preserved c =
    let e : 256 - (c.loop.counter + 1) ≡ 256 - c.loop.counter - 1 = omega arith in
    rw (e, c.larger-r.ensures) (sym (goes_on _ _ _ (256 - c.loop.counter) c.loop.r (omega arith) (search rules)) ∙ c.loop.invariant)
