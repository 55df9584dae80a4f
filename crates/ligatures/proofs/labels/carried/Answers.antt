-- The flags at the starts of the codes before this one are set, and no others.
use Rattle.std.proofs.Common.{◌≡◌, refl, arith}
use Rattle.lent.specs.Fold.{iterate}
use Rattle.lent.proofs.Lists.{iterate_more}
use Rattle.ligatures.specs.Labels.{labelled}
use Rattle.ligatures.proofs.Labelled.{flag_more}
use Rattle.ligatures.proofs.labels.carried.Goals as goal

pub loop-c-init : goal.loop-c-init
unfolding iterate
loop-c-init c = (λ k lt. absurd (omega arith), refl)

pub loop-c-preserved : goal.loop-c-preserved
loop-c-preserved c = (
  rw (c.store.ensures, c.at.ensures) (flag_more _ _ _ c.loop-c.invariant.0),
  rw (c.store.ensures, c.at.ensures, iterate_more, ← c.loop-c.invariant.1) refl,
)

pub returns : goal.returns
unfolding labelled
returns c =
    let l = c.loop-c in
    let e : l.c ≡ 257 = omega arith in
    record { each = λ k lt. l.invariant.0 k (omega arith); only = rw e at l.invariant.1 }
