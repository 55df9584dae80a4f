-- What no mend changes: which codes exist, and what an index reads in a table of lengths. r is what follows the copy in a lent buffer.
use Prim.Native.Nat.{ℕ, ◌+◌, ◌-◌, ◌*◌, ◌/◌, ◌%◌, ◌≤◌, ◌<◌}
use native.Mathlib.Omega.{arith}
use mathlib.Core.Path.{◌≡◌, refl, ◌∙◌}
use mathlib.Core.Bool.{Bool, true, false, cond}
use mathlib.Core.List.{List, ◌++◌}
use borrow.Author.Tests.{ne_eqb}
use Rattle.lent.specs.Answer.{first}
use Rattle.lent.proofs.Lists.{length_tabulate}
use Rattle.tfm.specs.Sizes.{number_of}
use Rattle.tfm.specs.Subfiles.{table_of}
use Rattle.tfm.specs.Characters.{byte_of, exists_in}
use Rattle.tfm.specs.Lengths.{word_of, too_big, index_in, entry_of}
use Rattle.tfm.specs.declared.Layout.{Layout}
use Rattle.tfm.proofs.Accepted.{whole}
use Rattle.mend.specs.Copy.{mended_info, mended_length, mended_in, mended}
use Rattle.mend.proofs.Back.{made, copy_table, copy_at}

-- a byte that a mend makes 0, or leaves, stays 0
pub first_zero : (b : Bool) → first b 0 0 ≡ 0
unfolding first
first_zero true = refl
first_zero false = refl

-- a word of t' is that of t, or cleared: it is no longer too big, and counts as before
module _ (t t' : List ℕ) (i : ℕ) (c : (j : ℕ) → j < 4 → byte_of t' i j ≡ first (too_big t i) 0 (byte_of t i j)) where
  pub not_big : too_big t' i ≡ false
  unfolding too_big first
  not_big = go (too_big t i) refl
    where
      go : (b : Bool) → too_big t i ≡ b → too_big t' i ≡ false
      go true q = let z : byte_of t' i 0 ≡ 0 = c 0 (omega arith) ∙ rw q in rw z
      go false q = let z : byte_of t' i 0 ≡ byte_of t i 0 = c 0 (omega arith) ∙ rw q in rw z q

  same_word : word_of t' i ≡ cond (too_big t i) 0 (word_of t i)
  unfolding word_of first
  same_word = rw (c 0 (omega arith), c 1 (omega arith), c 2 (omega arith), c 3 (omega arith)) (go (too_big t i))
    where
      at : Bool → ℕ → ℕ
      at b j = first b 0 (byte_of t i j)

      go : (b : Bool) → at b 0 * 16777216 + at b 1 * 65536 + at b 2 * 256 + at b 3 ≡ cond b 0 (word_of t i)
      go true = refl
      go false = refl

-- the mend of width, height, depth, italic and kern
pub length_mend : (f : List ℕ) (l : Layout) (k : ℕ) → 2 ≤ k → k ≤ 7 → (k ≡ 6 → ⊥) → (i : ℕ) → made f l k i ≡ mended_length (table_of f l k) i
unfolding mended_in
length_mend f l k low high other i =
    rw (ne_eqb k 0 (omega arith), ne_eqb k 1 (omega arith), ne_eqb k 6 other, ne_eqb k 8 (omega arith), ne_eqb k 9 (omega arith))

module _ (f : List ℕ) (l : Layout) (later : ℕ) (e : number_of f l later ≡ 0) (r : List ℕ) where
  -- char_info is mended in byte 2 of a word only
  pub info_byte_lem : (k j : ℕ) → j < 4 → (j ≡ 2 → ⊥) → byte_of (table_of (mended f l ++ r) l 1) k j ≡ byte_of (table_of f l 1) k j
  unfolding byte_of mended_in mended_info
  info_byte_lem k j h n =
      let m : (4 * k + j) % 4 ≡ j = omega arith in
      copy_at f l later e r 1 (4 * k + j) (omega arith) (λ z. rw (m, ne_eqb j 2 n) z) ∙ rw (m, ne_eqb j 2 n)

  -- so the same codes exist
  pub copy_exists : (code : ℕ) → exists_in (table_of (mended f l ++ r) l 1) l code ≡ exists_in (table_of f l 1) l code
  unfolding exists_in
  copy_exists code = rw (info_byte_lem (code - l.bc) 0 (omega arith) (omega arith))

  -- width, height, depth, italic and kern
  module _ (k : ℕ) (low : 2 ≤ k) (high : k ≤ 7) (other : k ≡ 6 → ⊥) where
    pub cleared : (i j : ℕ) → j < 4 → byte_of (table_of (mended f l ++ r) l k) i j ≡ first (too_big (table_of f l k) i) 0 (byte_of (table_of f l k) i j)
    unfolding byte_of mended_length
    cleared i j h =
        let w : (4 * i + j) / 4 ≡ i = omega arith in
        let m = length_mend f l k low high other (4 * i + j) in
        copy_at f l later e r k (4 * i + j) (omega arith) (λ z. m ∙ rw (z, first_zero)) ∙ m ∙ rw w

    same_index : (i : ℕ) → index_in (table_of (mended f l ++ r) l k) i ≡ index_in (table_of f l k) i
    unfolding index_in
    same_index i = rw (copy_table f l later e r k (omega arith), length_tabulate, whole f l later k e (omega arith))

    -- what an index reads, too big words counting as 0, is the same
    pub copy_entry : (i : ℕ) → entry_of (table_of (mended f l ++ r) l k) i ≡ entry_of (table_of f l k) i
    unfolding entry_of
    copy_entry i =
        let c = cleared (index_in (table_of f l k) i) in
        rw (same_index i, not_big (table_of f l k) _ _ c) (same_word (table_of f l k) _ _ c)
