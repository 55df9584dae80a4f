-- By the number of the answer, and whether it is refused then.
use Rattle.std.proofs.Common.{sym, ◌∙◌}
use Rattle.std.proofs.lemmas.Result.{err_from_is_err_and}
use Rattle.judge.proofs.Numbers.{unasked_case, range_case, short_pair_case, pair_goes_on, pair_wiped, pair_as_it_is}
use Rattle.judge.proofs.pair.Goals as goal

pub returns-in_err-check : goal.returns-in_err-check
returns-in_err-check c =
    let p = err_from_is_err_and c.from_residual.result c.from_residual.ensures.1 in
    rw (p.1, p.2, ← c.read_layout-layout.ensures) (unasked_case _ _ _ _ _ _ _ c.in_err-check.ensures)

pub returns-then-left-right : goal.returns-then-left-right
returns-then-left-right c =
    rw (← c.read_layout-layout.ensures) (range_case _ _ _ _ _ _ (sym c.in_ok-check.ensures) c.if-left-right.true)

pub returns-then-copy-layout : goal.returns-then-copy-layout
returns-then-copy-layout c =
    rw (← c.read_layout-layout.ensures) (short_pair_case _ _ _ _ _ _ (sym c.in_ok-check.ensures) c.if-left-right.false c.if-copy-layout.true)

pub returns-then-is_err : goal.returns-then-is_err
returns-then-is_err c =
    let o = c.pair_accepted-outcome in
    rw (← c.read_layout-layout.ensures)
    (pair_wiped _ _ _ _ _ _ o.result o.new.copy (sym c.is_err.ensures.value ∙ c.if-is_err.true) (c.fill.ensures.after (λ y e. e))
    (o.ensures (pair_goes_on _ _ _ _ _ (sym c.in_ok-check.ensures) c.if-left-right.false c.if-copy-layout.false)))

pub returns-else-is_err : goal.returns-else-is_err
returns-else-is_err c =
    let o = c.pair_accepted-outcome in
    rw (← c.read_layout-layout.ensures)
    (pair_as_it_is _ _ _ _ _ _ o.result (sym c.is_err.ensures.value ∙ c.if-is_err.false)
    (o.ensures (pair_goes_on _ _ _ _ _ (sym c.in_ok-check.ensures) c.if-left-right.false c.if-copy-layout.false)))
