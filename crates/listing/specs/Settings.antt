-- The characters as they are printed from a setting, and the parts of a listing from a font.
use Rattle.std.specs.Prelude.{ℕ, true, false, List, [], get_or}
use Rattle.tfm.specs.declared.Font.{Font}
use Rattle.tfm.specs.declared.CharInfo.{CharInfo}
use Rattle.header.specs.Header.{letters_in, header_items}
use Rattle.header.specs.Parameters.{fontdimen}
use Rattle.header.specs.declared.Kind.{Kind}
use Rattle.items.specs.Items.{Items, empty, leaf, ◌▸◌, loop}
use Rattle.ligatures.specs.Ligatures.{boundary_item, ligtable, program_comment}
use Rattle.listing.specs.Characters.{length_items, shown, piece_item, optional_item, recipe_items, varchar, tag_item, present_item, character_item}
use Rattle.lent.specs.Write.{codes}
use Rattle.judge.specs.Judge.{Verdict, no_verdict, clean, mended_so, looping}
use Rattle.listing.specs.Listing.{closing_comment}
use Rattle.listing.specs.declared.characters.Setting.{Setting}

abbrev pub lengths_of : Font → CharInfo → Items
lengths_of font = length_items font.widths.now font.heights.now font.depths.now font.italics.now

abbrev pub shown_of : Font → ℕ → ℕ → ℕ
shown_of font = shown font.infos.now font.layout

abbrev pub piece_of : Setting → ℕ → List ℕ → ℕ → Items
piece_of s = piece_item s.letters s.font.now.infos.now s.font.now.layout

abbrev pub optional_of : Setting → ℕ → List ℕ → ℕ → Items
optional_of s = optional_item s.letters s.font.now.infos.now s.font.now.layout

abbrev pub recipe_of : Setting → ℕ → ℕ → Items
recipe_of s char = recipe_items s.letters s.font.now.infos.now s.font.now.layout char s.font.now.recipes.now

abbrev pub varchar_of : Setting → ℕ → ℕ → Items
varchar_of s char = varchar s.letters s.font.now.infos.now s.font.now.layout char s.font.now.recipes.now

abbrev pub comment_of : Setting → ℕ → Items
comment_of s char = program_comment s.letters s.font.now.steps.now s.font.now.kerns.now s.font.now.layout.nl (get_or s.starts.now char 0)

abbrev pub tag_of : Setting → ℕ → CharInfo → Items
tag_of s = tag_item s.letters s.font.now.infos.now s.font.now.steps.now s.font.now.kerns.now s.font.now.recipes.now s.font.now.layout s.starts.now

abbrev pub present_of : Setting → ℕ → CharInfo → Items
present_of s =
    present_item s.letters s.font.now.infos.now s.font.now.widths.now s.font.now.heights.now s.font.now.depths.now s.font.now.italics.now s.font.now.steps.now s.font.now.kerns.now s.font.now.recipes.now s.font.now.layout s.starts.now

abbrev pub character_of : Setting → ℕ → Items
character_of s =
    character_item s.letters s.font.now.infos.now s.font.now.widths.now s.font.now.heights.now s.font.now.depths.now s.font.now.italics.now s.font.now.steps.now s.font.now.kerns.now s.font.now.recipes.now s.font.now.layout s.starts.now

abbrev pub characters_of : Setting → Items
characters_of s = loop 256 (character_of s)

-- what stands before the characters
abbrev pub opening_of : Font → List ℕ → Kind → List ℕ → Items
opening_of font m kind starts =
    header_items font.header.now font.layout
    ▸ fontdimen kind font.params.now font.layout.np
    ▸ boundary_item (letters_in kind) font.steps.now
    ▸ ligtable (letters_in kind) font.steps.now font.kerns.now m starts font.layout.nl

-- and what stands after the ligature table
unfoldable pub closing_of : Setting → Verdict → Items
closing_of s no_verdict = empty
closing_of s clean = characters_of s ▸ closing_comment false
closing_of s mended_so = characters_of s ▸ closing_comment true
closing_of s looping = leaf (codes "INFINITE LIGATURE LOOP MUST BE BROKEN!") []
