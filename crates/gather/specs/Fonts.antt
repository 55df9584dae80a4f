-- The program of a font, and its pairs as entries: what is said of its char_info, lig_kern and sizes, said of the font.
use Rattle.std.specs.Prelude.{ℕ}
use Rattle.lent.specs.Write.{Text}
use Rattle.tfm.specs.declared.Font.{Font}
use Rattle.settle.specs.Settle.{Step}
use Rattle.gather.specs.Steps.{program_steps}
use Rattle.gather.specs.Pairs.{row, pairs_text}

abbrev pub steps_of : Font → ℕ → ℕ → Step
steps_of font = program_steps font.infos.now font.steps.now font.layout

abbrev pub row_of : Font → ℕ → Text
row_of font = row font.infos.now font.steps.now font.layout

abbrev pub text_of : Font → Text
text_of font = pairs_text font.infos.now font.steps.now font.layout
