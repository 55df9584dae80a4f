-- The listing with its codes as letters where they are letters or digits, or all of them in octal. (TFtoPL chooses by the coding scheme: `letters_in`.)
use Rattle.std.specs.Prelude.{ℕ, Bool, true, false, List, []}
use Rattle.lent.specs.Write.{codes, flat}
use Rattle.tfm.specs.Subfiles.{table_of}
use Rattle.tfm.specs.declared.Layout.{Layout}
use Rattle.mend.specs.Copy.{mended}
use Rattle.judge.specs.Judge.{Verdict, no_verdict, clean, mended_so, looping}
use Rattle.items.specs.Items.{Items, empty, leaf, ◌▸◌, render}
use Rattle.header.specs.Header.{kind_of, header_items}
use Rattle.header.specs.Parameters.{fontdimen}
use Rattle.ligatures.specs.Labels.{starts_of}
use Rattle.ligatures.specs.Ligatures.{boundary_item, ligtable}
use Rattle.listing.specs.Characters.{character_items}
use Rattle.listing.specs.Listing.{closing_comment}
use Rattle.clean.specs.Met.{marks_in}

module _ (letters : Bool) (c : List ℕ) (l : Layout) (m : List ℕ) where
  unfoldable pub opening_in : Items
  opening_in =
      header_items (table_of c l 0) l
      ▸ fontdimen (kind_of (table_of c l 0) l) (table_of c l 9) l.np
      ▸ boundary_item letters (table_of c l 6)
      ▸ ligtable letters (table_of c l 6) (table_of c l 7) m (starts_of (table_of c l 1) (table_of c l 6) l) l.nl

  unfoldable pub closing_in : Verdict → Items
  closing_in no_verdict = empty
  closing_in clean = character_items letters c l (starts_of (table_of c l 1) (table_of c l 6) l) ▸ closing_comment false
  closing_in mended_so = character_items letters c l (starts_of (table_of c l 1) (table_of c l 6) l) ▸ closing_comment true
  closing_in looping = leaf (codes "INFINITE LIGATURE LOOP MUST BE BROKEN!") []

  abbrev pub items_in : Verdict → Items
  items_in verdict = opening_in ▸ closing_in verdict

-- the text of a file on which the verdict is passed
unfoldable pub text_in : Bool → List ℕ → Layout → Verdict → List ℕ
text_in letters f l verdict = flat (render 0 (items_in letters (mended f l) l (marks_in f l) verdict))
