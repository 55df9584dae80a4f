-- By the outcome.
use Rattle.program.proofs.Marked.{marked}
use Rattle.judge.proofs.Cases.{pair_case}
use Rattle.judge.proofs.pair_accepted.Goals as goal

pub returns : goal.returns
returns c =
    λ e. rw c.outcome_in.ensures.pairs_after
    (pair_case c.args.file.now c.args.layout _ _ c.tables_of-font.ensures (marked _ _ _ c.mark_all.ensures) c.args.left c.args.right c.args.copy.now c.args.pairs.now e _ c.mend_into.ensures _ c.outcome_in.ensures.pair_as)
