-- By what was found of loops, and by whether the findings fit.
use Rattle.std.proofs.Common.{rules, tests, ◌≡◌, ◌+◌, length}
use Rattle.std.proofs.lemmas.Result.{err_from_is_err_and}
use Rattle.program.proofs.Marked.{marked}
use Rattle.judge.proofs.Cases.{few_case, long_case, done_case}
use Rattle.judge.proofs.judge_accepted.Goals as goal

pub returns-in_err-smallest : goal.returns-in_err-smallest
returns-in_err-smallest c =
    let a = c.args in
    let p = err_from_is_err_and c.from_residual.result c.from_residual.ensures.1 in
    rw (p.1, p.2, c.smallest_in.ensures.pairs_after)
    (λ e. few_case a.file.now a.layout _ _ c.tables_of-font.ensures (marked _ _ _ c.mark_all.ensures) a.copy.now a.findings.now a.pairs.now e _ c.mend_into.ensures c.in_err-smallest.ensures.smallest_as)

pub returns-then-has_overflowed : goal.returns-then-has_overflowed
returns-then-has_overflowed c =
    let a = c.args in
    let q = c.report-mends.new.pen in
    let past : q.to ≡ length q.out.now + 1 = search (rules, tests) in
    rw c.smallest_in.ensures.pairs_after
    (λ e. long_case a.file.now a.layout _ _ c.tables_of-font.ensures (marked _ _ _ c.mark_all.ensures) a.copy.now a.findings.now a.pairs.now e _ c.mend_into.ensures c.in_ok-smallest.smallest c.in_ok-smallest.ensures.smallest_as _ q c.report-mends.result c.new-pen.ensures.start c.report-mends.ensures (search rules) past)

pub returns : goal.returns
returns c =
    let a = c.args in
    let q = c.report-mends.new.pen in
    let past : q.to ≡ length q.out.now + 1 → ⊥ = search (rules, tests) in
    rw (c.smallest_in.ensures.pairs_after, c.verdict_on.ensures, c.end.ensures)
    (λ e. done_case a.file.now a.layout _ _ c.tables_of-font.ensures (marked _ _ _ c.mark_all.ensures) a.copy.now a.findings.now a.pairs.now e _ c.mend_into.ensures c.in_ok-smallest.smallest c.in_ok-smallest.ensures.smallest_as _ q c.report-mends.result c.new-pen.ensures.start c.report-mends.ensures (search rules) past)
