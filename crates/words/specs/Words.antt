-- Words for what is found: the sentence of each finding, of each answer's number, and of each verdict. A mark in a sentence stands for what changes:
--   # the first number       % the second number
--   @ the first code         & the second code, each with a blank before it
--   $ the string that the first number names
--   ^ the table that the first number names      ~ the one that the second names
--   ! the piece that the second number names, and what was done
use Rattle.std.specs.Prelude.{ℕ, min, cond, List, [], ◌∷◌, eqb, get_or}
use Rattle.lent.specs.Write.{Text, none, byte, lit, ◌▹◌, codes}
use Rattle.ink.specs.Ink.{number, octal}

-- the findings from 0 on, and last what is said of any other tag
abbrev pub findings : List (List ℕ)
findings =
    codes "There is no finding."
    ∷ codes "There is junk after the end of the file."
    ∷ codes "The length byte of the $ was too large; it was set to 1."
    ∷ codes "Byte % of the $ was a parenthesis; it was made a slash."
    ∷ codes "Byte % of the $ was not printable; it was made a question mark."
    ∷ codes "The design size is negative or below 1; it is listed as 10 points."
    ∷ codes "The number of parameters is unusual for this kind of font: #."
    ∷ codes "Parameter # was too big; it was set to 0."
    ∷ codes "Entry 0 of the ^ table is not zero."
    ∷ codes "Entry % of the ^ table was too big; it was set to 0."
    ∷ codes "The program of the left boundary starts past the last step; it is ignored."
    ∷ codes "The program of character@ starts past the last step; it was taken away."
    ∷ codes "Step # skipped past the last step; it was made the last of its program."
    ∷ codes "Step # leads past the last step."
    ∷ codes "Step # was for a missing character; the first code of the font was put in its place, or 0 where that is 256."
    ∷ codes "Step # made a missing character; the first code of the font was put in its place, or 0 where that is 256."
    ∷ codes "Step # has a kern past the last kern; it is listed as R 0.0."
    ∷ codes "Step # had an unknown ligature code; it was made a plain ligature."
    ∷ codes "The pair of@ and& is rewritten without end."
    ∷ codes "Recipe # has a missing !"
    ∷ codes "The ~ index of character@ is past its table; it counts as 0."
    ∷ codes "The next larger character of@ is missing; the link was taken away."
    ∷ codes "The next larger characters of@ come round to it again; its link was taken away."
    ∷ codes "The recipe of character@ is past the last recipe; it was taken away."
    ∷ codes "There is no such finding."
    ∷ []

-- the same of the numbers of the answers
abbrev pub numbers : List (List ℕ)
numbers =
    codes "Accepted."
    ∷ codes "The file has no bytes."
    ∷ codes "The first byte of the file is over 127."
    ∷ codes "The file has only one byte."
    ∷ codes "The file says that its length is 0."
    ∷ codes "The file has fewer bytes than it says."
    ∷ codes "The file says that it has fewer than six words."
    ∷ codes "A size has a first byte over 127."
    ∷ codes "The header has fewer than two words."
    ∷ codes "The range of character codes is impossible."
    ∷ codes "The widths, heights, depths or italic corrections are empty."
    ∷ codes "There are more than 256 recipes."
    ∷ codes "The sizes do not add up to the length of the file."
    ∷ codes "The copy buffer is shorter than the file."
    ∷ codes "The pair room is too small for the pairs of the program."
    ∷ codes "The findings need more bytes than are lent."
    ∷ codes "The listing needs more bytes than are lent."
    ∷ codes "An argument is out of range."
    ∷ codes "The character does not exist."
    ∷ codes "There is no such answer."
    ∷ []

-- and of the verdicts
abbrev pub verdicts : List (List ℕ)
verdicts =
    codes "There is no verdict."
    ∷ codes "CLEAN: nothing needs mending."
    ∷ codes "MENDED: the file has faults; its copy is mended."
    ∷ codes "LOOPING: a pair of characters is rewritten without end."
    ∷ codes "There is no such verdict."
    ∷ []

unfoldable pub string_name : ℕ → Text
string_name string = cond (eqb string 0) (lit (codes "coding scheme")) (lit (codes "font family"))

unfoldable pub table_name : ℕ → Text
table_name table =
    cond (eqb table 0) (lit (codes "width"))
    (cond (eqb table 1) (lit (codes "height"))
    (cond (eqb table 2) (lit (codes "depth"))
    (cond (eqb table 3) (lit (codes "italic"))
    (lit (codes "kern")))))

unfoldable pub piece_words : ℕ → Text
piece_words piece =
    cond (eqb piece 0) (lit (codes "top piece; it was left out."))
    (cond (eqb piece 1) (lit (codes "middle piece; it was left out."))
    (cond (eqb piece 2) (lit (codes "bottom piece; it was left out."))
    (lit (codes "repeater; the character itself is listed."))))

-- 256 stands left of a word's first character
unfoldable pub code_name : ℕ → Text
code_name code = cond (eqb code 256) (lit (codes " the left boundary")) (octal code)

-- what a byte of a sentence stands for, in the order of the marks above
unfoldable pub spelled : ℕ → ℕ → ℕ → Text
spelled first second b =
    cond (eqb b 35) (number first)
    (cond (eqb b 37) (number second)
    (cond (eqb b 64) (code_name first)
    (cond (eqb b 38) (code_name second)
    (cond (eqb b 36) (string_name first)
    (cond (eqb b 94) (table_name first)
    (cond (eqb b 126) (table_name second)
    (cond (eqb b 33) (piece_words second)
    (byte b))))))))

unfoldable pub filled : ℕ → ℕ → List ℕ → Text
filled first second [] = none
filled first second (b ∷ sentence) = spelled first second b ▹ filled first second sentence

unfoldable pub finding_words : ℕ → ℕ → ℕ → Text
finding_words tag first second = filled first second (get_or findings (min tag 24) [])

unfoldable pub number_words : ℕ → Text
number_words n = filled 0 0 (get_or numbers (min n 19) [])

unfoldable pub verdict_words : ℕ → Text
verdict_words verdict = filled 0 0 (get_or verdicts (min verdict 4) [])
