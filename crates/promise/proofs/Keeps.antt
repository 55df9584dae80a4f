-- The characters, links, recipes and parameters of the file read back.
use Prim.Native.Nat.{ℕ, zero, suc, ◌≤◌, ◌<◌}
use native.Mathlib.Omega.{arith}
use mathlib.Core.Path.{◌≡◌, refl, ap, ◌∙◌}
use mathlib.Core.Bool.{true}
use mathlib.Core.List.{List}
use lib.ListN.{get_or}
use borrow.Author.Tests.{ne_eqb}
use Rattle.lent.proofs.Lists.{length_tabulate, get_or_tabulate}
use Rattle.tfm.specs.Subfiles.{table_of}
use Rattle.tfm.specs.Characters.{byte_of, exists_in}
use Rattle.tfm.specs.Lengths.{word_of}
use Rattle.tfm.specs.declared.Layout.{Layout}
use Rattle.faults.specs.Characters.{index_of, size_of}
use Rattle.font.specs.Font.{Font}
use Rattle.building.specs.Pick.{rank}
use Rattle.font.specs.Checked.{word_byte}
use Rattle.building.specs.Written.{first_code, last_code, new_remainder, sizes_for, written}
use Rattle.building.proofs.Accepts.{Fits}
use Rattle.building.proofs.Chars.{from_first, to_last, exists_back, width_word, width_within, height_back, height_within, depth_back, depth_within, italic_back, italic_within, tag_back, remainder_back, recipe_byte, parameter_back}
use Rattle.font.specs.Read.{flagged}
use Rattle.stated.specs.Listed.{listed_here, info_for, has_recipe, listed_plain, listed_of}
use Rattle.promise.specs.Promise.{listed_at, length_at}
use Rattle.stated.proofs.Live.{Clear}
use Rattle.promise.proofs.Listing.{whole}
use Rattle.promise.proofs.Tags.{table_small, word_byte_is, tag_listed, link_listed, number_listed, number_below, recipe_word_lem}

module _ (f : List ℕ) (l : Layout) (c : Clear f l) (t : Fits (listed_of f l)) where
  abbrev F : Font
  F = listed_of f l

  abbrev k : Layout
  k = sizes_for (listed_of f l)

  abbrev g : List ℕ
  g = written (listed_of f l)

  -- the same existing characters
  pub same_exists : (x : ℕ) → exists_in (table_of g k 1) k x ≡ exists_in (table_of f l 1) l x
  unfolding listed_of flagged listed_plain listed_here
  same_exists x = exists_back F (whole f l c) x

  -- a character that exists
  module _ (x : ℕ) (e : exists_in (table_of f l 1) l x ≡ true) where
    here : F.characters.present x ≡ true
    unfolding listed_of flagged listed_plain listed_here
    here = e

    low : first_code F ≤ x
    low = from_first F (whole f l c) x here

    high : x ≤ last_code F
    high = to_last F (whole f l c) x here

    bc_is : k.bc ≡ first_code F
    unfolding sizes_for
    bc_is = refl

    -- its lengths
    pub same_lengths : (n : ℕ) → n < 4 → length_at g k n x ≡ listed_at f l n x
    unfolding length_at listed_at index_of listed_of flagged listed_plain sizes_for
    same_lengths zero h = width_word F (whole f l c) x here
    same_lengths (suc zero) h = height_back F (whole f l c) t x low high
    same_lengths (suc (suc zero)) h = depth_back F (whole f l c) t x low high
    same_lengths (suc (suc (suc zero))) h = italic_back F (whole f l c) t x low high
    same_lengths (suc (suc (suc (suc n)))) h = absurd (omega arith)

    pub indices_in : (n : ℕ) → n < 4 → index_of (info_for (table_of g k) k x) n < size_of k n
    unfolding index_of size_of sizes_for
    indices_in zero h = width_within F (whole f l c) x here
    indices_in (suc zero) h = height_within F (whole f l c) t x low high
    indices_in (suc (suc zero)) h = depth_within F (whole f l c) t x low high
    indices_in (suc (suc (suc zero))) h = italic_within F (whole f l c) t x low high
    indices_in (suc (suc (suc (suc n)))) h = absurd (omega arith)

    pub same_tag : (info_for (table_of g k) k x).tag ≡ (info_for (table_of f l) l x).tag
    unfolding sizes_for
    same_tag = tag_back F (whole f l c) t x low high ∙ tag_listed f l c x e

    remainder_new : (F.program.tag x ≡ 1 → ⊥) → (info_for (table_of g k) k x).remainder ≡ F.program.remainder x
    unfolding sizes_for new_remainder
    remainder_new n = remainder_back F (whole f l c) t x low high ∙ rw (ne_eqb (F.program.tag x) 1 n)

    pub same_link : (info_for (table_of f l) l x).tag ≡ 2 → (info_for (table_of g k) k x).remainder ≡ (info_for (table_of f l) l x).remainder
    same_link q = remainder_new (λ z. omega (arith, tag_listed f l c x e)) ∙ link_listed f l c x e q

    -- a recipe
    module _ (q : (info_for (table_of f l) l x).tag ≡ 3) where
      pub number_is : (info_for (table_of g k) k x).remainder ≡ rank (has_recipe (table_of f l) l) x
      number_is = remainder_new (λ z. omega (arith, tag_listed f l c x e)) ∙ number_listed f l c x e q

      pub recipe_in : (info_for (table_of g k) k x).remainder < k.ne
      unfolding sizes_for
      recipe_in = omega (arith, number_is, number_below f l c x e q)

      pub same_recipe : ((n : ℕ) → get_or f n 0 < 256) → (j : ℕ) → j < 4
          → byte_of (table_of g k 8) (info_for (table_of g k) k x).remainder j ≡ byte_of (table_of f l 8) (info_for (table_of f l) l x).remainder j
      same_recipe bytes j h =
          rw number_is
          (recipe_byte F (rank (has_recipe (table_of f l) l) x) j (number_below f l c x e q) h
          ∙ ap (λ (w : ℕ). word_byte w j) (recipe_word_lem f l c x e q)
          ∙ word_byte_is (table_of f l 8) (info_for (table_of f l) l x).remainder j (λ n. table_small f l 8 (info_for (table_of f l) l x).remainder n bytes) h)

  -- the parameters
  pub same_count : k.np ≡ l.np
  unfolding sizes_for listed_of flagged listed_plain
  same_count = length_tabulate (word_of (table_of f l 9)) l.np

  pub same_parameters : (i : ℕ) → i < l.np → word_of (table_of g k 9) i ≡ word_of (table_of f l 9) i
  unfolding listed_of flagged listed_plain
  same_parameters i h =
      parameter_back F i (omega (arith, length_tabulate (word_of (table_of f l 9)) l.np)) ∙ get_or_tabulate (word_of (table_of f l 9)) l.np i h
