-- The font that a text states, or 19 or 20.
use Rattle.std.specs.Prelude.{ℕ, max, false, List, length}
use Rattle.reading.specs.Read.{Response, accepts, refuses, read}
use Rattle.font.specs.Font.{Font}
use Rattle.font.specs.Told.{Draft, blank, programmed, told}
use Rattle.font.specs.Checked.{checked_all}

-- A program has a word for each of its steps.
unfoldable pub worded : Font → Font
worded F =
    programmed F F.program.tag F.program.remainder F.program.steps (max F.program.least (length F.program.steps))

-- §110: the flag of a seven-bit safe font is that of what was read, whatever the text says of it
unfoldable pub flagged : Font → Font
flagged F = record { header = F.header; parameters = F.parameters; characters = F.characters; program = F.program; unsafe = (checked_all F).over }

abbrev pub font_of : Response Draft → Response Font
font_of (accepts D) = accepts (flagged (worded D.font))
font_of (refuses n) = refuses n

unfoldable pub read_font : List ℕ → Response Font
read_font text = font_of (read told (record { font = blank; armed = false }) text)
