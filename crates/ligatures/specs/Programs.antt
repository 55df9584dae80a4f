-- The items of a program, by the struct that it is printed from: the definitions of `Ligatures` at its fields, and at those of a font.
use Rattle.std.specs.Prelude.{ℕ, Bool, List, []}
use Rattle.lent.specs.Write.{codes}
use Rattle.tfm.specs.declared.Font.{Font}
use Rattle.items.specs.Items.{Items, group, loop}
use Rattle.ligatures.specs.declared.Program.{Program}
use Rattle.ligatures.specs.Labels.{starts_of}
use Rattle.ligatures.specs.Ligatures.{unused_at, unused_step, unused, accessible_item, piece, piece_at, pieces, ligtable, program_from, program_comment}

-- the starts of a font's programs
abbrev pub starts_in : Font → List ℕ
starts_in font = starts_of font.infos.now font.steps.now font.layout

module _ (p : Program) where
  -- what is printed of step i, where it is unused
  abbrev pub unused_at_of : ℕ → Items
  unused_at_of = unused_at p.letters p.font.now.steps.now p.font.now.kerns.now p.marks.now

  -- the n steps from i on, which are unused: inside their group, and the group
  abbrev pub unused_steps_of : ℕ → ℕ → Items
  unused_steps_of i n = loop n (unused_step p.letters p.font.now.steps.now p.font.now.kerns.now p.marks.now i)

  abbrev pub unused_of : ℕ → ℕ → Items
  unused_of = unused p.letters p.font.now.steps.now p.font.now.kerns.now p.marks.now

-- starts are the starts of the programs
module _ (p : Program) (starts : List ℕ) where
  -- an accessible step, and what stands at a step, up to another
  abbrev pub accessible_of : ℕ → Items
  accessible_of = accessible_item p.letters p.font.now.steps.now p.font.now.kerns.now p.marks.now starts

  abbrev pub piece_of : ℕ → ℕ → Items
  piece_of = piece p.letters p.font.now.steps.now p.font.now.kerns.now p.marks.now starts

  -- the piece that starts at a step, and all from the first on
  abbrev pub piece_at_of : ℕ → Items
  piece_at_of = piece_at p.letters p.font.now.steps.now p.font.now.kerns.now p.marks.now starts p.font.now.layout.nl

  abbrev pub pieces_of : Items
  pieces_of = pieces p.letters p.font.now.steps.now p.font.now.kerns.now p.marks.now starts p.font.now.layout.nl

  -- the table, and the table where there is one
  abbrev pub table_of : Items
  table_of = group (codes "LIGTABLE") [] pieces_of

  abbrev pub ligtable_of : Items
  ligtable_of = ligtable p.letters p.font.now.steps.now p.font.now.kerns.now p.marks.now starts p.font.now.layout.nl

-- the program of a font from step i on, and as a comment
module _ (letters : Bool) (font : Font) where
  abbrev pub program_in : ℕ → Items
  program_in = program_from letters font.steps.now font.kerns.now font.layout.nl

  abbrev pub comment_in : ℕ → Items
  comment_in = program_comment letters font.steps.now font.kerns.now font.layout.nl
