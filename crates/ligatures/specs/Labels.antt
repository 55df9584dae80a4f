-- Where programs start, and the labels of a step: 003 §63 to §69, §72.
use Rattle.std.specs.Prelude.{ℕ, ◌≡◌, ◌<◌, Bool, true, false, List, [], ◌∷◌, eqb, get_or, set, replicate}
use Rattle.lent.specs.Fold.{iterate, tabulate}
use Rattle.lent.specs.Write.{codes}
use Rattle.tfm.specs.declared.Layout.{Layout}
use Rattle.program.specs.Steps.{program_of}
use Rattle.items.specs.Items.{raw, code, Items, empty, leaf, ◌▸◌, choose, loop}

-- the start of each code's program, that of the left boundary last; nl where there is none
unfoldable pub starts_of : List ℕ → List ℕ → Layout → List ℕ
starts_of infos s l = tabulate (program_of infos s l) 257

-- Below, starts is that table. A step carries a label if a program starts there: its flag is set, and no other is.
abbrev pub carry : List ℕ → List Bool → ℕ → List Bool
carry starts flags c = set flags (get_or starts c 0) true

unfoldable pub labelled : List ℕ → List Bool
labelled starts = iterate (carry starts) (replicate 32768 false) 257

-- The flags of the steps at which programs start are set, and no other is.
pub record Carries (starts : List ℕ) (flags : List Bool) : Type 0 where
  pub each : (c : ℕ) → c < 257 → get_or flags (get_or starts c 0) true ≡ true
  pub only : flags ≡ labelled starts

-- §72: the labels of step i, the boundary's first and the others in ascending order of code
unfoldable pub label_item : Bool → List ℕ → ℕ → ℕ → Items
label_item letters starts i c =
    choose (eqb (get_or starts c 0) i) (leaf (codes "LABEL") (code letters c ∷ [])) empty

unfoldable pub boundary_label : List ℕ → ℕ → Items
boundary_label starts i =
    choose (eqb (get_or starts 256 0) i) (leaf (codes "LABEL") (raw (codes "BOUNDARYCHAR") ∷ [])) empty

unfoldable pub label_items : Bool → List ℕ → ℕ → Items
label_items letters starts i = boundary_label starts i ▸ loop 256 (label_item letters starts i)
