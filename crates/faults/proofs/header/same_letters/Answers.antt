-- All of the letters, by the turns of `iterate`.
use Rattle.std.proofs.Common.{rules, tests, ◌≡◌, ◌∙◌, ℕ, ◌+◌, Bool, true, List, eqb, get_or}
use Rattle.std.specs.List.{range_with_len, list_all}
use Rattle.std.proofs.Math.Bool.{and_assoc, and-true}
use Rattle.std.proofs.lemmas.Iterator.{YieldsList-from_range}
use Rattle.std.proofs.lemmas.Iterator.Search.{all_from_yields_List}
use Rattle.lent.specs.Fold.{iterate}
use Rattle.faults.specs.Header.{same_letter, string_byte, upper}
use Rattle.faults.proofs.header.same_letters.Goals as goal

abbrev same : List ℕ → List ℕ → ℕ → Bool
same h text i = eqb (upper (string_byte h 0 (i + 1))) (get_or text i 0)

letters : (h text : List ℕ) → list_all (same h text) (range_with_len 0 11) ≡ iterate (same_letter h text) true 11
unfolding iterate same_letter
letters h text = simp (and_assoc, and-true)

pub returns : goal.returns
returns c =
    let h = c.args.font.now.header.now in
    let text = c.args.text.now in
    all_from_yields_List (same h text) _ _ c.all.result c.all.ensures.ran (YieldsList-from_range 0 11 11 (search rules) (search rules)) (λ x b q k. search (rules, tests)) ∙ letters h text
