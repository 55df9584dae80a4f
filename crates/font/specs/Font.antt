-- What a property list says of a font: what PLtoTF holds when the text is read (§70 to §106), before it checks and writes.
-- A word is a 32-bit number, 0 to 4,294,967,295, high byte first in the file; a negative length is its two's complement.
use Rattle.std.specs.Prelude.{ℕ, Bool, List}

pub record FontHeader : Type 0 where
  -- §85, §88: CHECKSUM's word, and whether there was one; DESIGNSIZE's word (10.0 where there was none)
  pub check_sum : ℕ
  pub checked : Bool
  pub design_size : ℕ
  -- §85, §87: the letters of CODINGSCHEME and FAMILY ("UNSPECIFIED" where there was none), FACE (0)
  pub scheme : List ℕ
  pub family : List ℕ
  pub face : ℕ
  -- §91: the words of HEADER from 18 on, without a gap: one that was skipped is 0
  pub further : List ℕ

pub record Characters : Type 0 where
  -- §103, §104: whether CHARACTER c was there, and its words, 0 where not given
  pub present : ℕ → Bool
  pub width : ℕ → ℕ
  pub height : ℕ → ℕ
  pub depth : ℕ → ℕ
  pub italic : ℕ → ℕ
  -- §71 to §75: the words that go into each table, in the order of the text: every width, of the others those that are not 0. (A CHARACTER without CHARWD gives the width 0.)
  pub widths : List ℕ
  pub heights : List ℕ
  pub depths : List ℕ
  pub italics : List ℕ

-- A step of the ligature program (§94 to §102). skip: 0 where nothing follows it, 128 for STOP, n for SKIP n (at most 127).
-- op is 128 for KRN, and then value is the kern's word; else it is the ligature's code (LIG 0, LIG/ 1, /LIG 2, /LIG/ 3, LIG/> 5, /LIG> 6, /LIG/> 7, /LIG/>> 11) and value the code inserted.
pub record Instruction : Type 0 where
  pub skip : ℕ
  pub right : ℕ
  pub op : ℕ
  pub value : ℕ

-- the ligature program, and the tags that lead to it, to larger characters and to recipes
pub record Program : Type 0 where
  -- §85: BOUNDARYCHAR, 256 where there was none
  pub boundary : ℕ
  -- §97, §104, §105: the tag of code c, and its remainder: 0 none; 1 LABEL, the number of the step that it stands before; 2 NEXTLARGER, that code; 3 VARCHAR, the number of its recipe.
  -- The last one stands. Code 256 is the left boundary, LABEL BOUNDARYCHAR.
  pub tag : ℕ → ℕ
  pub remainder : ℕ → ℕ
  -- §105, §106: the recipes in the order of the text, each as the word of its four bytes TOP, MID, BOT, REP (0 where not given)
  pub recipes : List ℕ
  -- §94: the steps in the order of the text
  pub steps : List Instruction
  -- §97, §99: the program has at least so many words: its steps, one where each LABEL stands, and one where each SKIP leads
  pub least : ℕ

pub record Font : Type 0 where
  pub header : FontHeader
  -- §93: the words of the parameters from 1 on, without a gap: one that was skipped is 0
  pub parameters : List ℕ
  pub characters : Characters
  pub program : Program
  -- §110: whether some code below 128 leads to one from 128 on, which is computed when the text is read
  pub unsafe : Bool
