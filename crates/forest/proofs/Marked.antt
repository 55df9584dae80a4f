-- How lines end: a line end is one blank, and what is blank at the front of a line, or a line of nothing else, is passed.
use Prim.Native.Nat.{ℕ}
use mathlib.Core.Path.{◌≡◌, refl}
use mathlib.Core.Option.{some, none}
use mathlib.Core.List.{List, [], ◌∷◌, ◌++◌}
use Rattle.lent.specs.Write.{codes}
use Rattle.ink.specs.Ink.{between, alphanumeric}
use Rattle.faults.specs.Header.{upper}
use Rattle.forest.specs.Forest.{Forest, end, node, past, in_name, name_at, after_name, name_of, rest_of, same, is_comment, mark_of, step, feed, parse}

abbrev lines : List ℕ → List ℕ
lines ends = codes "(FAMILY A" ++ (ends ++ codes "B )")

abbrev family : Forest
family = node (codes "FAMILY A B ") end end

pub marked :
    (parse (lines (10 ∷ [])) ≡ some family)
    × (parse (lines (13 ∷ [])) ≡ some family)
    × (parse (lines (13 ∷ 10 ∷ [])) ≡ some family)
    × (parse (lines (10 ∷ 32 ∷ 32 ∷ 10 ∷ 10 ∷ 32 ∷ [])) ≡ some family)
    -- a comment is passed whatever it holds, however deep
    × (parse (codes "(COMMENT a (b (c)) d)") ≡ some (node (codes "COMMENT a ") end end))
    -- but its parentheses must match, and nothing may stand between lists
    × (parse (codes "(COMMENT a (b)") ≡ none)
    × (parse (codes "(FAMILY A) B") ≡ none)
unfolding parse feed step mark_of past in_name name_at after_name name_of rest_of same is_comment between alphanumeric upper
marked = (refl, refl, refl, refl, refl, refl, refl)
