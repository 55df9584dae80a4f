-- The loop of 003 §42: what is still to be written, after what has been, is what was to be written at first.
use Rattle.std.proofs.Common.{sym, ◌∙◌, arith}
use Rattle.lent.specs.Write.{run}
use Rattle.decimal.proofs.Filled.{last_turn, next_turn, no_turn}
use Rattle.decimal.proofs.put_places.Goals as goal

pub returns-then-f-delta : goal.returns-then-f-delta
unfolding run
returns-then-f-delta c =
    let l = c.loop-turn in
    let before = last_turn _ _ _ _ _ _ c.nudge-g.ensures c.put.ensures.wrote.is (omega arith) (omega arith) (omega arith) in
    record { same = c.put.ensures.same ∙ l.invariant.3; wrote = record { is = sym before ∙ l.invariant.2 } }

pub loop-turn-preserved : goal.loop-turn-preserved
unfolding run
loop-turn-preserved c =
    let l = c.loop-turn in (
      omega arith,
      omega arith,
      sym (next_turn _ _ _ _ _ _ c.nudge-g.ensures c.put.ensures.wrote.is (omega arith) (omega arith) (omega arith)) ∙ l.invariant.2,
      c.put.ensures.same ∙ l.invariant.3,
    )

pub returns : goal.returns
unfolding run
returns c =
    let l = c.loop-turn in
    record { same = l.invariant.3; wrote = record { is = sym (no_turn _ _ _ _ (omega arith)) ∙ l.invariant.2 } }
