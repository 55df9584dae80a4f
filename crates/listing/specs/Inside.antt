-- For the contracts of the functions that `listing` is made of.
use Rattle.std.specs.Prelude.{ℕ, ◌*◌, List, take}
use Rattle.tfm.specs.Subfiles.{table_of}
use Rattle.tfm.specs.declared.Layout.{Layout}
use Rattle.program.specs.Marks.{marks_of}
use Rattle.judge.specs.Judge.{Verdict}
use Rattle.items.specs.Items.{Items}
use Rattle.listing.specs.Listing.{items_of}

-- the items of the 4·lf bytes with which a copy begins
abbrev pub items_in : List ℕ → Layout → List ℕ → Verdict → Items
items_in f l copy = items_of (take (4 * l.lf) copy) l (marks_of (table_of f l 1) (table_of f l 6) l)
