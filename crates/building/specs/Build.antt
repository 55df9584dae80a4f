-- The file that is built of a text, or the refusal: 19 and 20 of reading, and then 21.
use Rattle.std.specs.Prelude.{ℕ, cond, List}
use Rattle.reading.specs.Read.{Response, accepts, refuses}
use Rattle.font.specs.Font.{Font}
use Rattle.font.specs.Read.{read_font}
use Rattle.building.specs.Repaired.{repaired}
use Rattle.building.specs.Written.{too_much, written}

unfoldable pub file_for : Font → Response (List ℕ)
file_for F = cond (too_much F) (refuses 21) (accepts (written F))

unfoldable pub file_of : Response Font → Response (List ℕ)
file_of (accepts F) = file_for (repaired F)
file_of (refuses n) = refuses n

unfoldable pub build : List ℕ → Response (List ℕ)
build text = file_of (read_font text)
