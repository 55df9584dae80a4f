-- The turns of the loop are those of `each`.
use Rattle.std.proofs.Common.{rules, ◌∙◌}
use Rattle.gather.proofs.Enters.{no_turn, one_turn, all_turns, from_start}
use Rattle.gather.specs.Pairs.{pairs_text}
use Rattle.gather.proofs.put_pairs.Goals as goal

pub loop-left-init : goal.loop-left-init
loop-left-init c = no_turn

pub loop-left-preserved : goal.loop-left-preserved
loop-left-preserved c = one_turn c.put_left.ensures c.loop-left.invariant

pub returns : goal.returns
unfolding pairs_text
returns c =
    let l = c.loop-left in
    let tied = l.invariant.same ∙ c.new-entries.ensures.same in
    from_start c.new-entries.ensures.start (all_turns l.invariant l.auto.left-end c.loop-left-test.false) (search rules) c.end.ensures
