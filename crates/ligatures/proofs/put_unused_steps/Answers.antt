-- One step more.
use Rattle.std.proofs.Common.{◌≡◌, ◌-◌, arith}
use Rattle.items.proofs.Laws.{no_round}
use Rattle.ligatures.proofs.Ways.{unused_more}
use Rattle.ligatures.proofs.put_unused_steps.Goals as goal

pub loop-step-init : goal.loop-step-init
loop-step-init c =
    let e : c.args.i - c.args.i ≡ 0 = omega arith in
    (rw e no_round, omega arith)

pub loop-step-preserved : goal.loop-step-preserved
loop-step-preserved c =
    (unused_more _ _ _ _ _ _ (omega arith) c.put_unused_step.ensures c.loop-step.invariant.0, omega arith)

pub returns : goal.returns
returns c =
    let e : c.loop-step.step - c.args.i ≡ c.args.end - c.args.i = omega arith in
    rw e at c.loop-step.invariant.0
