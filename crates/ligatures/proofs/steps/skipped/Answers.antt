-- What is counted is those of the steps after this one that are accessible.
use Rattle.std.proofs.Common.{◌+◌, eqb, ◌∙◌, rules, tests, arith}
use lib.ListN.{get_or}
use Rattle.std.proofs.lemmas.Iterator.{YieldsList-from_range}
use Rattle.std.proofs.lemmas.Iterator.Consumers.{count_from_yields_List, YieldsList-from_filter}
use Rattle.ligatures.proofs.Ways.{skips}
use Rattle.ligatures.proofs.steps.skipped.Goals as goal

pub returns : goal.returns
returns c =
    let m = c.args.marks.now in
    count_from_yields_List c.filter.result _ c.count.ensures.ran
    (YieldsList-from_filter _ (λ j. eqb (get_or m (c.args.i + 1 + j) 0) 2) (YieldsList-from_range 0 c.args.n c.args.n (search rules) (omega arith)) c.filter.ensures.closure (λ x r q k. search (rules, tests)))
    ∙ skips m c.args.i c.args.n
