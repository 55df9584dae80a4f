-- What the settled room says of a pair.
use Rattle.std.proofs.Common.{arith}
use Rattle.settle.proofs.States.{not_settled}
use Rattle.settle.proofs.Whole.{settled_sorted, told_none, told_code, told_loops}
use Rattle.settle.proofs.outcome.Goals as goal

pub returns-in_default : goal.returns-in_default
returns-in_default c = λ P p s. told_none p s (omega arith) (omega arith) (c.in_default.ensures.found (settled_sorted p s))

pub returns-in-Settled : goal.returns-in-Settled
returns-in-Settled c =
    let i = c.in-Some.ensures in
    λ P p s. rw c.code_of.ensures (told_code p s (omega arith) (omega arith) i.within (i.found (settled_sorted p s)) c.in-Settled.ensures)

pub returns-in_default-state_of : goal.returns-in_default-state_of
returns-in_default-state_of c =
    let i = c.in-Some.ensures in
    λ P p s. told_loops p s (omega arith) (omega arith) i.within (i.found (settled_sorted p s)) (not_settled c.state_of.result c.state_of.ensures c.in_default-state_of.not-Settled)
