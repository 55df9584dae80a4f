-- The findings of a file, as house records in ascending order of tag, first, second number.
use Rattle.std.specs.Prelude.{ℕ, ◌+◌, ◌/◌, ◌%◌, Bool, List, ltb, length}
use Rattle.lent.specs.Write.{Text, none, byte, ◌▹◌, when, each, flat}
use Rattle.tfm.specs.Subfiles.{table_of}
use Rattle.tfm.specs.declared.Layout.{Layout}
use Rattle.program.specs.Marks.{marks_of}
use Rattle.mend.specs.Holds.{table_number, holds_of, lowest, firsts, seconds}

-- a 16-bit number, high byte first
unfoldable pub half : ℕ → Text
half n = byte (n / 256 % 256) ▹ byte (n % 256)

-- a house record: one tag byte, a two-byte length (4), two 16-bit numbers
unfoldable pub record_of : ℕ → ℕ → ℕ → Text
record_of t a b = byte (t % 256) ▹ half 4 ▹ half a ▹ half b

module _ (f infos s m : List ℕ) (l : Layout) where
  -- finding t with the numbers a and b, where it is there; d is the table that the tag looks at
  unfoldable pub found : List ℕ → ℕ → ℕ → ℕ → Text
  found d t a b = when (holds_of f infos s m d l t a b) (record_of t a b) none

  -- those of tag t with the first number a
  unfoldable pub found_at : ℕ → ℕ → Text
  found_at t a = each (seconds l t a) (found (table_of f l (table_number t a)) t a)

  abbrev pub found_from : ℕ → ℕ → Text
  found_from t i = found_at t (lowest l t + i)

  -- those of tag t
  unfoldable pub found_on : ℕ → Text
  found_on t = each (firsts l t) (found_from t)

  abbrev pub found_after : ℕ → ℕ → Text
  found_after from i = found_on (from + i)

  -- those of n tags
  unfoldable pub found_tags : ℕ → ℕ → Text
  found_tags from n = each n (found_after from)

-- of a file: the findings of n tags
abbrev pub findings : List ℕ → Layout → ℕ → ℕ → Text
findings f l = found_tags f (table_of f l 1) (table_of f l 6) (marks_of (table_of f l 1) (table_of f l 6) l) l

-- those but the remarks 1 and 6, the loop apart, and whether there is any: then a file that isn't looping is mended, and not clean
abbrev pub mends : List ℕ → Layout → Text
mends f l = findings f l 2 4 ▹ findings f l 7 11 ▹ findings f l 19 5

unfoldable pub any_mend : List ℕ → Layout → Bool
any_mend f l = ltb 0 (length (flat (mends f l)))
