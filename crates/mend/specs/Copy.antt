-- The mended copy: the file's first 4·lf bytes with each mend in its place. A mend is done where its finding is there.
use Rattle.std.specs.Prelude.{ℕ, ◌+◌, ◌-◌, ◌*◌, ◌/◌, ◌%◌, Bool, cond, ◌&&◌, ◌||◌, not, List, leb, ltb, eqb, get_or, take}
use Rattle.lent.specs.Answer.{first}
use Rattle.lent.specs.Write.{Text, byte, lit, ◌▹◌, each, flat}
use Rattle.tfm.specs.Subfiles.{count_of, table_of}
use Rattle.tfm.specs.Characters.{untagged}
use Rattle.tfm.specs.Lengths.{too_big}
use Rattle.tfm.specs.declared.Layout.{Layout}
use Rattle.program.specs.Marks.{marks_of}
use Rattle.faults.specs.Header.{string_too_long, parenthesis, nonstandard, string_byte, bad_parameter}
use Rattle.faults.specs.Steps.{bad_start, skips_too_far, step_for_missing, ligature_to_missing, odd_code}
use Rattle.faults.specs.Characters.{piece_missing, link_missing, ends_cycle, bad_recipe}

-- byte n of a string: 2 sets the length to 1, 3 makes "/", 4 makes "?"
unfoldable pub mended_string : List ℕ → Layout → ℕ → ℕ → ℕ
mended_string h l string n =
    first (eqb n 0 && string_too_long h l string) 1
    (first (parenthesis h l string n) 47
    (first (nonstandard h l string n) 63
    (string_byte h string n)))

-- byte i of the header
unfoldable pub mended_header : List ℕ → Layout → ℕ → ℕ
mended_header h l i =
    cond (leb 8 i && ltb i 48) (mended_string h l 0 (i - 8))
    (cond (leb 48 i && ltb i 68) (mended_string h l 1 (i - 48))
    (get_or h i 0))

-- byte i of char_info: 11, 21, 22 and 23 set the tag to 0
unfoldable pub loses_tag : List ℕ → List ℕ → Layout → ℕ → Bool
loses_tag infos s l code =
    bad_start infos s l code || link_missing infos l code || ends_cycle infos l code || bad_recipe infos l code

unfoldable pub mended_info : List ℕ → List ℕ → Layout → ℕ → ℕ
mended_info infos s l i =
    cond (eqb (i % 4) 2)
    (first (loses_tag infos s l (l.bc + i / 4)) (untagged (get_or infos i 0)) (get_or infos i 0))
    (get_or infos i 0)

-- byte i of width, height, depth, italic and kern: 9 sets the word to 0
unfoldable pub mended_length : List ℕ → ℕ → ℕ
mended_length t i = first (too_big t (i / 4)) 0 (get_or t i 0)

-- byte i of lig_kern: 12 makes the first byte 128; 14 and 15 make a code bc, and 0 where bc is 256; 17 makes a code 0
unfoldable pub mended_step : List ℕ → List ℕ → List ℕ → Layout → ℕ → ℕ
mended_step infos s m l i =
    cond (eqb (i % 4) 0) (first (skips_too_far s m l (i / 4)) 128 (get_or s i 0))
    (cond (eqb (i % 4) 1) (first (step_for_missing infos s m l (i / 4)) (l.bc % 256) (get_or s i 0))
    (cond (eqb (i % 4) 2) (first (odd_code s m (i / 4)) 0 (get_or s i 0))
    (first (ligature_to_missing infos s m l (i / 4)) (l.bc % 256) (get_or s i 0))))

-- byte i of exten: 19 sets top, middle and bottom to 0
unfoldable pub mended_piece : List ℕ → List ℕ → Layout → ℕ → ℕ
mended_piece infos recipes l i =
    first (not (eqb (i % 4) 3) && piece_missing infos recipes l (i / 4) (i % 4)) 0 (get_or recipes i 0)

-- byte i of param: 7 sets the word to 0
unfoldable pub mended_parameter : List ℕ → ℕ → ℕ
mended_parameter params i = first (bad_parameter params (i / 4 + 1)) 0 (get_or params i 0)

module _ (infos s m : List ℕ) (l : Layout) where
  -- byte i of subfile k, whose bytes are d
  unfoldable pub mended_in : ℕ → List ℕ → ℕ → ℕ
  mended_in k d i =
      cond (eqb k 0) (mended_header d l i)
      (cond (eqb k 1) (mended_info d s l i)
      (cond (eqb k 6) (mended_step infos d m l i)
      (cond (eqb k 8) (mended_piece infos d l i)
      (cond (eqb k 9) (mended_parameter d i)
      (mended_length d i)))))

  abbrev pub mended_byte : ℕ → List ℕ → ℕ → Text
  mended_byte k d i = byte (mended_in k d i)

module _ (f infos s m : List ℕ) (l : Layout) where
  unfoldable pub mended_part : ℕ → Text
  mended_part k = each (4 * count_of l k) (mended_byte infos s m l k (table_of f l k))

  -- the six words of the sizes, and the ten subfiles
  unfoldable pub mended_text : Text
  mended_text = lit (take 24 f) ▹ each 10 mended_part

-- of a file
abbrev pub copy_text : List ℕ → Layout → Text
copy_text f l = mended_text f (table_of f l 1) (table_of f l 6) (marks_of (table_of f l 1) (table_of f l 6) l) l

unfoldable pub mended : List ℕ → Layout → List ℕ
mended f l = flat (copy_text f l)
