-- The steps that the programs of a file meet: their first ones, and from each the next.
use Rattle.std.specs.Prelude.{ℕ, ◌≤◌, ◌<◌, List}
use Rattle.tfm.specs.Characters.{byte_of}
use Rattle.tfm.specs.Subfiles.{table_of}
use Rattle.tfm.specs.declared.Layout.{Layout}
use Rattle.program.specs.Steps.{next_of, program_of}
use Rattle.program.specs.Marks.{marks_of}

-- infos and s are the tables char_info and lig_kern; code 256 is the left boundary
pub data Met (infos s : List ℕ) (l : Layout) : ℕ → Type 0 where
  start : (x : ℕ) → x ≤ 256 → program_of infos s l x < l.nl → Met infos s l (program_of infos s l x)
  onward : {i : ℕ} → Met infos s l i → byte_of s i 0 < 128 → next_of s i < l.nl → Met infos s l (next_of s i)

-- they meet no step over 128
abbrev pub NoneOver : List ℕ → List ℕ → Layout → Type 0
NoneOver infos s l = (i : ℕ) → Met infos s l i → byte_of s i 0 ≤ 128

-- the marks of a file's steps
abbrev pub marks_in : List ℕ → Layout → List ℕ
marks_in f l = marks_of (table_of f l 1) (table_of f l 6) l
