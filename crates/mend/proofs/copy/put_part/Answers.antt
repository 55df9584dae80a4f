-- The turns of the loop are those of `each`.
use Rattle.std.proofs.Common.{rules}
use Rattle.lent.proofs.Pens.{no_turn, one_turn, all_turns}
use Rattle.mend.proofs.copy.put_part.Goals as goal

pub loop-i-init : goal.loop-i-init
loop-i-init g c = (λ made same. no_turn, search rules)

pub loop-i-preserved : goal.loop-i-preserved
loop-i-preserved g c = (
  λ made same. one_turn (rw (← same _ _ c.mended.ensures) c.put.ensures) (c.loop-i.invariant.0 made same),
  search rules,
)

pub returns : goal.returns
returns g c made same = rw (← c.count-i-end.ensures.value) (all_turns (c.loop-i.invariant.0 made same) c.loop-i.invariant.1 c.loop-i-test.false)
