-- 02 R-1, the promise: what the file read back keeps of a clean file. f is the file and l its sizes; g is the file that is built from its listing, and k the sizes of that.
use Rattle.std.specs.Prelude.{ℕ, ◌+◌, ◌-◌, ◌≤◌, ◌<◌, ◌≡◌, true, false, cond, ◌⊎◌, List, [], ◌∷◌, leb, ltb, get_or}
use Rattle.tfm.specs.Sizes.{layout_of, number_of}
use Rattle.tfm.specs.Subfiles.{table_of}
use Rattle.tfm.specs.Characters.{byte_of, exists_in}
use Rattle.tfm.specs.Lengths.{word_of}
use Rattle.tfm.specs.declared.Layout.{Layout}
use Rattle.program.specs.Steps.{address_of, boundary_char}
use Rattle.faults.specs.Header.{string_byte}
use Rattle.faults.specs.Characters.{index_of, size_of}
use Rattle.settle.specs.Settle.{Settles}
use Rattle.gather.specs.Steps.{step_for}
use Rattle.mend.specs.Findings.{any_mend}
use Rattle.judge.specs.Judge.{program_in, mended_program, no_loop, LoopIs}
use Rattle.header.specs.Header.{spelled}
use Rattle.reading.specs.Read.{accepts, refuses}
use Rattle.building.specs.Written.{letters_byte}
use Rattle.building.specs.Build.{build}
use Rattle.forest.specs.Forest.{past}
use Rattle.stated.specs.Listed.{info_for, listed_width, listed_height, listed_depth, listed_italic, start_for}

-- a left code of the promise: one that exists, or the left boundary
abbrev pub LeftCode : List ℕ → Layout → ℕ → Type 0
LeftCode f l x = (exists_in (table_of f l 1) l x ≡ true) ⊎ (x ≡ 256)

-- the length of a code that the listing states, in table t: 0 width, 1 height, 2 depth, 3 italic
unfoldable pub listed_at : List ℕ → Layout → ℕ → ℕ → ℕ
listed_at f l t c = get_or (listed_width (table_of f l) l c ∷ listed_height (table_of f l) l c ∷ listed_depth (table_of f l) l c ∷ listed_italic (table_of f l) l c ∷ []) t 0

-- and the length that a file has for it
unfoldable pub length_at : List ℕ → Layout → ℕ → ℕ → ℕ
length_at g k t c = word_of (table_of g k (t + 2)) (index_of (info_for (table_of g k) k c) t)

pub record Kept (f : List ℕ) (l : Layout) (g : List ℕ) (k : Layout) : Type 0 where
  -- the file read back is accepted
  pub accepted : number_of g k 0 ≡ 0
  -- the same existing characters
  pub exists : (c : ℕ) → exists_in (table_of g k 1) k c ≡ exists_in (table_of f l 1) l c
  -- for each the lengths that the listing states, by indices that are in their tables
  pub indices : (t c : ℕ) → t < 4 → exists_in (table_of f l 1) l c ≡ true → index_of (info_for (table_of g k) k c) t < size_of k t
  pub lengths : (t c : ℕ) → t < 4 → exists_in (table_of f l 1) l c ≡ true → length_at g k t c ≡ listed_at f l t c
  -- the same links and recipes
  pub tags : (c : ℕ) → exists_in (table_of f l 1) l c ≡ true → (info_for (table_of g k) k c).tag ≡ (info_for (table_of f l) l c).tag
  pub links : (c : ℕ) → exists_in (table_of f l 1) l c ≡ true → (info_for (table_of f l) l c).tag ≡ 2 → (info_for (table_of g k) k c).remainder ≡ (info_for (table_of f l) l c).remainder
  pub numbers : (c : ℕ) → exists_in (table_of f l 1) l c ≡ true → (info_for (table_of f l) l c).tag ≡ 3 → (info_for (table_of g k) k c).remainder < k.ne
  pub recipes : (c j : ℕ) → exists_in (table_of f l 1) l c ≡ true → (info_for (table_of f l) l c).tag ≡ 3 → j < 4
      → byte_of (table_of g k 8) (info_for (table_of g k) k c).remainder j ≡ byte_of (table_of f l 8) (info_for (table_of f l) l c).remainder j
  -- the same parameters
  pub count : k.np ≡ l.np
  pub parameters : (i : ℕ) → i < l.np → word_of (table_of g k 9) i ≡ word_of (table_of f l 9) i
  -- the same step for every pair whose left code exists or is the left boundary, and so the same outcome
  pub steps : (x y : ℕ) → LeftCode f l x → program_in g k x y ≡ program_in f l x y
  pub settles : (x y w : ℕ) → LeftCode f l x → Settles (program_in f l) x y w → Settles (program_in g k) x y w
  pub settled : (x y w : ℕ) → LeftCode f l x → Settles (program_in g k) x y w → Settles (program_in f l) x y w

-- what the program of a left code says of a right code: nothing, a ligature's code and the code that it inserts, or a kern's word
pub data Said : Type 0 where
  nothing : Said
  ligature : ℕ → ℕ → Said
  kern : ℕ → Said

unfoldable pub said_at : List ℕ → List ℕ → ℕ → ℕ → Said
said_at s kerns nl j =
    cond (ltb j nl)
    (cond (leb 128 (byte_of s j 2)) (kern (word_of kerns (address_of s j - 32768))) (ligature (byte_of s j 2) (byte_of s j 3)))
    nothing

unfoldable pub said_for : List ℕ → Layout → ℕ → ℕ → Said
said_for f l x y = said_at (table_of f l 6) (table_of f l 7) l.nl (step_for (table_of f l 6) l.nl (start_for (table_of f l) l x) y)

-- what it keeps besides, though 02 does not say so: the very step of each of these pairs, the right boundary character, check sum and design size, and what the listing states of the rest of the header
pub record KeptToo (f : List ℕ) (l : Layout) (g : List ℕ) (k : Layout) : Type 0 where
  pub said : (x y : ℕ) → LeftCode f l x → said_for g k x y ≡ said_for f l x y
  pub boundary : boundary_char (table_of g k 6) ≡ boundary_char (table_of f l 6)
  pub check_sum : word_of (table_of g k 0) 0 ≡ word_of (table_of f l 0) 0
  pub design_size : word_of (table_of g k 0) 1 ≡ word_of (table_of f l 0) 1
  pub scheme : 12 ≤ l.lh → (n : ℕ) → n < 40 → string_byte (table_of g k 0) 0 n ≡ letters_byte (past (spelled (table_of f l 0) 0)) n
  pub family : 17 ≤ l.lh → (n : ℕ) → n < 20 → string_byte (table_of g k 0) 1 n ≡ letters_byte (past (spelled (table_of f l 0) 1)) n
  pub face : 18 ≤ l.lh → byte_of (table_of g k 0) 17 3 ≡ byte_of (table_of f l 0) 17 3
  pub further : (i : ℕ) → 18 ≤ i → i < l.lh → word_of (table_of g k 0) i ≡ word_of (table_of f l 0) i

-- All of it, in the terms of the verdict and of the pair outcome, which look at the mended program: g is made of bytes, is accepted and clean, and each pair has the outcome that it had.
pub record Promised (f : List ℕ) (l : Layout) (g : List ℕ) : Type 0 where
  pub bytes : (n : ℕ) → get_or g n 0 < 256
  pub kept : Kept f l g (layout_of g)
  pub kept_too : KeptToo f l g (layout_of g)
  pub unmended : any_mend g (layout_of g) ≡ false
  pub loopless : LoopIs (mended_program g (layout_of g)) no_loop
  pub outcome : (x y w : ℕ) → LeftCode f l x → Settles (mended_program f l) x y w → Settles (mended_program g (layout_of g)) x y w
  pub outcomes : (x y w : ℕ) → LeftCode f l x → Settles (mended_program g (layout_of g)) x y w → Settles (mended_program f l) x y w

-- THE PROMISE of a text: 21 refuses what is read of it, or the file that is built of it is as promised.
pub data Returned (f : List ℕ) (l : Layout) (text : List ℕ) : Type 0 where
  too_large : build text ≡ refuses 21 → Returned f l text
  returned : (g : List ℕ) → build text ≡ accepts g → Promised f l g → Returned f l text

-- A code that lies between two that exist. A missing code that lies elsewhere has no place in the file read back, and its label is lost: steps that only its program meets are not listed the second time.
pub record Between (f : List ℕ) (l : Layout) (c : ℕ) : Type 0 where
  pub lower : ℕ
  pub upper : ℕ
  pub lower_exists : exists_in (table_of f l 1) l lower ≡ true
  pub upper_exists : exists_in (table_of f l 1) l upper ≡ true
  pub from_lower : lower ≤ c
  pub to_upper : c ≤ upper
