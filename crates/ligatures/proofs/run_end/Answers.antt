-- What the search finds is where the run ends.
use Rattle.std.proofs.Common.{◌≡◌, ◌∙◌, rules, tests}
use lib.ListN.{get_or}
use Rattle.std.proofs.lemmas.Iterator.{first_from_Range}
use Rattle.ligatures.proofs.Ways.{run_found}
use Rattle.ligatures.proofs.run_end.Goals as goal

pub returns : goal.returns
returns c =
    let m = c.args.marks.now in
    let found = first_from_Range _ _ _ c.find.result (λ k. get_or m k 0 ≡ 2) (λ k. get_or m k 0 ≡ 2 → ⊥) c.find.ensures.ran (λ x q. search (rules, tests)) (λ x q. search (rules, tests)) in
    c.unwrap_or.ensures ∙ rw c.max.ensures (run_found m c.args.nl c.args.i c.find.result found)
