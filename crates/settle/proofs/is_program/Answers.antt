-- Each entry, and each with its next.
use Rattle.std.proofs.Common.{◌<◌, ◌≤◌, rules, tests, ltb, arith}
use Rattle.std.proofs.lemmas.List.Sorted.{answers_always}
use Rattle.std.proofs.lemmas.Iterator.{cases_from_all, YieldsList-from_slice}
use Rattle.settle.specs.Settle.{key_of, st_of}
use Rattle.settle.proofs.States.{not_held}
use Rattle.settle.proofs.Found.{program_if}
use Rattle.settle.proofs.is_program.Goals as goal

pub returns-then-all : goal.returns-then-all
returns-then-all c =
    let steps = cases_from_all _ _ _ (λ e. st_of e < 4) (λ e. 4 ≤ st_of e) c.all.ensures.ran (YieldsList-from_slice c.args.room.now cc) (λ x q k. search (rules, tests, not_held)) (λ x q k. search (rules, tests)) in
    let all = rw c.if-all.true at steps in
    program_if c.args.room.now _ (λ i l. all i 0 (omega arith) l) (c.is_sorted_by.ensures.cases (λ e f. ltb (key_of e) (key_of f)) (answers_always _ _ _ (λ f a r g called. search (rules, tests))))
