-- The starts of the codes before this one are there.
use Rattle.std.proofs.Common.{◌≡◌, refl, ◌∙◌, append-nil, arith}
use lib.ListN.{length-set}
use Rattle.lent.proofs.Lists.{tabulate_none, tabulate_more}
use Rattle.ligatures.specs.Labels.{starts_of}
use Rattle.ligatures.proofs.labels.starts_of.Goals as goal

pub loop-code-init : goal.loop-code-init
loop-code-init c = (refl, tabulate_none _ _)

pub loop-code-preserved : goal.loop-code-preserved
loop-code-preserved c =
    let l = c.loop-code in
    (simp length-set l.invariant.0, rw c.program_start.ensures (tabulate_more _ _ _ l.code l.invariant.1 (omega arith)))

pub returns : goal.returns
unfolding starts_of
returns c =
    let l = c.loop-code in
    let e : l.code ≡ 257 = omega arith in
    l.invariant.1 ∙ rw (e, append-nil)
