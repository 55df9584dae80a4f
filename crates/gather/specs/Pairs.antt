-- The pairs of a file's program as entries of the pair room, and how they come there. A pair's code is 0 where it has no step, else one more than the entry's state and code.
use Rattle.std.specs.Prelude.{Option, Some, None, map, ℕ, zero, suc, ◌+◌, ◌*◌, ◌<◌, ◌≤◌, ◌≡◌, cond, ◌||◌, List, eqb, ltb, leb, length, get_or, take}
use Rattle.lent.specs.Write.{Text, none, byte, each}
use Rattle.tfm.specs.Characters.{byte_of}
use Rattle.tfm.specs.declared.Layout.{Layout}
use Rattle.program.specs.Steps.{program_of}
use Rattle.settle.specs.Settle.{Step, key_of, left_of, right_of, st_of, step_of, Program, Settled}
use Rattle.gather.specs.declared.Pair.{Pair}
use Rattle.gather.specs.Steps.{hit, step_from}
use Rattle.gather.specs.Answers.{count}

-- a step's state and code, as an entry has them
unfoldable pub packed_of : ℕ → ℕ → ℕ → ℕ
packed_of op y z =
    cond (leb 128 op || eqb op 5 || eqb op 11) y
    (cond (eqb op 1 || eqb op 7) (256 + z)
    (cond (eqb op 2) (512 + z)
    (cond (eqb op 3) (768 + z) z)))

abbrev pub packed_at : List ℕ → ℕ → ℕ
packed_at s i = packed_of (byte_of s i 2) (byte_of s i 1) (byte_of s i 3)

-- the code of step i
unfoldable pub code_at : List ℕ → ℕ → ℕ → ℕ
code_at s nl i = cond (ltb i nl) (suc (packed_at s i)) 0

-- that of step i if it is for y
unfoldable pub code_hit : List ℕ → ℕ → ℕ → ℕ
code_hit s i y = cond (hit s i y) (suc (packed_at s i)) 0

-- the code for y of the program at step i
abbrev pub code_from : List ℕ → ℕ → ℕ → ℕ → ℕ → ℕ
code_from s nl f i y = code_at s nl (step_from s nl f i y)

-- the code of the pair of x and y
unfoldable pub code_of : List ℕ → List ℕ → Layout → ℕ → ℕ → ℕ
code_of infos s l x y = code_from s l.nl l.nl (program_of infos s l x) y

-- the code of what the table of right codes holds, and the codes of such a table
abbrev pub held_code : Option ℕ → ℕ
held_code None = 0
held_code (Some v) = suc v

abbrev pub codes : List (Option ℕ) → List ℕ
codes t = map held_code t

-- what came first stays
unfoldable pub keep : ℕ → ℕ → ℕ
keep zero v = v
keep (suc t) v = suc t

-- step i is noted in the table t, a code for each right code
pub record Noted (s : List ℕ) (i : ℕ) (t u : List ℕ) : Type 0 where
  pub long : length u ≡ length t
  pub cell : (y : ℕ) → y < length t → get_or u y 0 ≡ keep (get_or t y 0) (code_hit s i y)

-- the program at step i is noted in the table t
pub record Walked (s : List ℕ) (nl i : ℕ) (t u : List ℕ) : Type 0 where
  pub long : length u ≡ length t
  pub cell : (y : ℕ) → y < length t → get_or u y 0 ≡ keep (get_or t y 0) (code_from s nl nl i y)

-- the entry of a key, if its code says one
unfoldable pub cell : ℕ → ℕ → Text
cell key zero = none
cell key (suc v) = byte (key * 2048 + v)

-- the entry of the pair of x and y, by the table t of the codes of x
abbrev pub row_in : ℕ → List ℕ → ℕ → Text
row_in x t y = cell (x * 256 + y) (get_or t y 0)

-- the entries of the left code x
abbrev pub row : List ℕ → List ℕ → Layout → ℕ → Text
row infos s l x = each 256 (λ y. cell (x * 256 + y) (code_of infos s l x y))

-- all entries: left codes in order, and for each the right codes
unfoldable pub pairs_text : List ℕ → List ℕ → Layout → Text
pairs_text infos s l = each 257 (row infos s l)

-- What settling the pairs of the program S in the room a leaves, P being the program as entries: the outcome of each pair in the first n entries of b
pub record Outcomes (S : ℕ → ℕ → Step) (P a : List ℕ) (n : ℕ) (b : List ℕ) : Type 0 where
  pub fits : n ≤ length a
  pub enough : count S ≤ length a
  pub program : Program P
  pub keys : (i : ℕ) → i < length P → key_of (get_or P i 0) < 65792
  pub steps : (x y : ℕ) → y < 256 → step_of P x y ≡ S x y
  pub settled : Settled P (take n b)

-- r is the first index with the state 5, a pair that loops, or the length
pub record FirstLoop (b : List ℕ) (r : ℕ) : Type 0 where
  pub here : r < length b → st_of (get_or b r 0) ≡ 5
  pub before : (i : ℕ) → i < r → st_of (get_or b i 0) ≡ 5 → ⊥

-- and the pair of that entry, if there is one
abbrev pub FirstPair : List ℕ → Option Pair → Type 0
FirstPair b None = FirstLoop b (length b)
FirstPair b (Some pair) =
    (i : ℕ) × (i < length b) × FirstLoop b i × (pair.left ≡ left_of (get_or b i 0)) × (pair.right ≡ right_of (get_or b i 0))
