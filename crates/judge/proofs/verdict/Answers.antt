-- By the number of the answer, and whether it is refused then.
use Rattle.std.proofs.Common.{sym, ◌∙◌}
use Rattle.std.proofs.lemmas.Result.{err_from_is_err_and}
use Rattle.judge.proofs.Numbers.{refused_case, short_case, go_on, wiped, as_it_is}
use Rattle.judge.proofs.verdict.Goals as goal

pub returns-in_err-check : goal.returns-in_err-check
returns-in_err-check c =
    let p = err_from_is_err_and c.from_residual.result c.from_residual.ensures.1 in
    rw (p.1, p.2, ← c.read_layout-layout.ensures) (refused_case _ _ _ _ _ _ c.in_err-check.ensures)

pub returns-then-copy-layout : goal.returns-then-copy-layout
returns-then-copy-layout c =
    rw (← c.read_layout-layout.ensures) (short_case _ _ _ _ _ (sym c.in_ok-check.ensures) c.if-copy-layout.true)

pub returns-then-is_err : goal.returns-then-is_err
returns-then-is_err c =
    let j = c.judge_accepted-judged in
    rw (← c.read_layout-layout.ensures)
    (wiped _ _ _ _ _ j.result j.new.copy j.new.findings (sym c.is_err.ensures.value ∙ c.if-is_err.true) (c.fill.ensures.after (λ y e. e)) (c.fill-then-is_err.ensures.after (λ y e. e))
    (j.ensures (go_on _ _ _ (sym c.in_ok-check.ensures) c.if-copy-layout.false)))

pub returns-else-is_err : goal.returns-else-is_err
returns-else-is_err c =
    let j = c.judge_accepted-judged in
    rw (← c.read_layout-layout.ensures)
    (as_it_is _ _ _ _ _ j.result (sym c.is_err.ensures.value ∙ c.if-is_err.false)
    (j.ensures (go_on _ _ _ (sym c.in_ok-check.ensures) c.if-copy-layout.false)))
