-- The characters as items: 003 §78 to §86.
use Rattle.std.specs.Prelude.{ℕ, ◌-◌, ◌/◌, Bool, cond, ◌&&◌, not, List, [], ◌∷◌, ltb, eqb, length, get_or}
use Rattle.lent.specs.Write.{codes}
use Rattle.tfm.specs.Characters.{byte_of, info_of, exists_in}
use Rattle.tfm.specs.Lengths.{word_of}
use Rattle.tfm.specs.Subfiles.{table_of}
use Rattle.tfm.specs.declared.Layout.{Layout}
use Rattle.tfm.specs.declared.CharInfo.{CharInfo}
use Rattle.items.specs.Items.{code, real, Items, empty, leaf, group, ◌▸◌, choose, loop}
use Rattle.ligatures.specs.Ligatures.{program_comment}

-- §79: a width index that is outside leaves the property bare
unfoldable pub width_item : List ℕ → ℕ → Items
width_item widths i =
    choose (ltb i (length widths / 4)) (leaf (codes "CHARWD") (real (word_of widths i) ∷ [])) (leaf (codes "CHARWD") [])

-- §80 to §82: another length is left out where its index is 0 or outside
unfoldable pub length_item : List ℕ → List ℕ → ℕ → Items
length_item name t i =
    choose (not (eqb i 0) && ltb i (length t / 4)) (leaf name (real (word_of t i) ∷ [])) empty

unfoldable pub length_items : List ℕ → List ℕ → List ℕ → List ℕ → CharInfo → Items
length_items widths heights depths italics info =
    width_item widths info.width
    ▸ length_item (codes "CHARHT") heights info.height
    ▸ length_item (codes "CHARDP") depths info.depth
    ▸ length_item (codes "CHARIC") italics info.italic

-- §86: a piece of a recipe; the character itself stands for one that does not exist
abbrev pub shown : List ℕ → Layout → ℕ → ℕ → ℕ
shown infos l char piece = cond (exists_in infos l piece) piece char

module _ (letters : Bool) (infos : List ℕ) (l : Layout) (char : ℕ) where
  unfoldable pub piece_item : List ℕ → ℕ → Items
  piece_item name piece = leaf name (code letters (shown infos l char piece) ∷ [])

  -- top, middle and bottom are left out where they are 0, the repeater never
  unfoldable pub optional_item : List ℕ → ℕ → Items
  optional_item name piece = choose (eqb piece 0) empty (piece_item name piece)

  unfoldable pub recipe_items : List ℕ → ℕ → Items
  recipe_items recipes r =
      optional_item (codes "TOP") (byte_of recipes r 0)
      ▸ optional_item (codes "MID") (byte_of recipes r 1)
      ▸ optional_item (codes "BOT") (byte_of recipes r 2)
      ▸ piece_item (codes "REP") (byte_of recipes r 3)

  -- §85
  unfoldable pub varchar : List ℕ → ℕ → Items
  varchar recipes r = group (codes "VARCHAR") [] (recipe_items recipes r)

-- §78, §83, §84: by the tag, nothing, the program as a comment, the link or the recipe
unfoldable pub tag_item : Bool → List ℕ → List ℕ → List ℕ → List ℕ → Layout → List ℕ → ℕ → CharInfo → Items
tag_item letters infos s kerns recipes l starts char info =
    choose (eqb info.tag 1) (program_comment letters s kerns l.nl (get_or starts char 0))
    (choose (eqb info.tag 2) (leaf (codes "NEXTLARGER") (code letters info.remainder ∷ []))
    (choose (eqb info.tag 3) (varchar letters infos l char recipes info.remainder)
    empty))

-- of the tables of a copy, its sizes l and the starts of its programs
module _ (letters : Bool) (infos widths heights depths italics s kerns recipes : List ℕ) (l : Layout) (starts : List ℕ) (char : ℕ) where
  unfoldable pub present_item : CharInfo → Items
  present_item info =
      group (codes "CHARACTER") (code letters char ∷ [])
      (length_items widths heights depths italics info ▸ tag_item letters infos s kerns recipes l starts char info)

  unfoldable pub character_item : Items
  character_item = choose (exists_in infos l char) (present_item (info_of infos (char - l.bc))) empty

-- §78: the characters of a copy c in ascending order of code
unfoldable pub character_items : Bool → List ℕ → Layout → List ℕ → Items
character_items letters c l starts =
    loop 256 (character_item letters (table_of c l 1) (table_of c l 2) (table_of c l 3) (table_of c l 4) (table_of c l 5) (table_of c l 6) (table_of c l 7) (table_of c l 8) l starts)
