-- What the font that a listing states says of a character: its tag, and the link or the recipe that it has.
use Prim.Native.Nat.{ℕ, zero, suc, ◌+◌, ◌*◌, ◌≤◌, ◌<◌}
use native.Mathlib.Decide.{ℕ_discrete, dec_lt, dec_le}
use native.Mathlib.Omega.{arith}
use mathlib.Core.Path.{◌≡◌, refl, sym, ◌∙◌}
use mathlib.Core.Bool.{true, ◌&&◌, and-eq-true_iff, true≢false}
use mathlib.Core.List.{List, [], ◌∷◌}
use lib.Dec.{leb}
use lib.ListN.{length, get_or, take, drop, length-take, get_or-eq_default}
use lib.Seq.{get_or-take, get_or-drop}
use borrow.Author.Tests.{eqb-true, le-leb, lt-leb, eq-eqb, ne_eqb, leb-true}
use Rattle.program.proofs.Starts.{program_at, no_program}
use Rattle.tfm.specs.Subfiles.{count_of, start_of, table_of}
use Rattle.tfm.specs.Characters.{byte_of, in_range, exists_in}
use Rattle.tfm.specs.Lengths.{word_of}
use Rattle.tfm.specs.declared.Layout.{Layout}
use Rattle.program.specs.Steps.{redirected}
use Rattle.faults.specs.Steps.{bad_start, bad_label}
use Rattle.font.specs.Font.{Font}
use Rattle.building.specs.Pick.{rank}
use Rattle.font.specs.Checked.{word_byte}
use Rattle.building.proofs.Picks.{rank_below, length_picked, at_place}
use Rattle.building.proofs.Laid.{byte_of_word}
use Rattle.font.specs.Read.{flagged}
use Rattle.stated.specs.Listed.{listed_here, info_for, start_for, has_recipe, listed_tag, listed_remainder, listed_plain, listed_of}
use Rattle.stated.proofs.Live.{Clear, not_live}
use Rattle.promise.proofs.Listing.{start_live}

-- the bytes of a table are the file's
pub table_small : (f : List ℕ) (l : Layout) (k i j : ℕ) → ((n : ℕ) → get_or f n 0 < 256) → byte_of (table_of f l k) i j < 256
unfolding byte_of table_of
table_small f l k i j h = elim (dec_lt (4 * i + j) (4 * count_of l k)) [
  | yes q ↦ omega (arith, get_or-take (4 * count_of l k) (drop (4 * start_of l k) f) (4 * i + j) 0 q, get_or-drop (4 * start_of l k) f (4 * i + j) 0, h (4 * start_of l k + (4 * i + j)))
  | no q ↦ let n = length-take (4 * count_of l k) (drop (4 * start_of l k) f) in
      omega (arith, get_or-eq_default {A = ℕ} (take (4 * count_of l k) (drop (4 * start_of l k) f)) 0 {n = 4 * i + j} (omega arith))
]

pub word_byte_is : (t : List ℕ) (i j : ℕ) → ((n : ℕ) → byte_of t i n < 256) → j < 4 → word_byte (word_of t i) j ≡ byte_of t i j
unfolding word_of
word_byte_is t i j h q = byte_of_word (byte_of t i 0) (byte_of t i 1) (byte_of t i 2) (byte_of t i 3) j (h 0) (h 1) (h 2) (h 3) q ∙ go j q
  where
    go : (n : ℕ) → n < 4 → get_or (byte_of t i 0 ∷ byte_of t i 1 ∷ byte_of t i 2 ∷ byte_of t i 3 ∷ []) n 0 ≡ byte_of t i n
    go zero z = refl
    go (suc zero) z = refl
    go (suc (suc zero)) z = refl
    go (suc (suc (suc zero))) z = refl
    go (suc (suc (suc (suc n)))) z = absurd (omega arith)

module _ (f : List ℕ) (l : Layout) (c : Clear f l) where
  abbrev F : Font
  F = listed_of f l

  -- the recipes
  pub recipe_of : (x : ℕ) → has_recipe (table_of f l) l x ≡ true → (exists_in (table_of f l 1) l x ≡ true) × ((info_for (table_of f l) l x).tag ≡ 3)
  unfolding has_recipe listed_here
  recipe_of x e = let b = (and-eq-true_iff (exists_in (table_of f l 1) l x) _).0 e in (b.0, eqb-true _ 3 b.1)

  pub recipes_length : length F.program.recipes ≡ rank (has_recipe (table_of f l) l) 256
  unfolding listed_of flagged listed_plain
  recipes_length = length_picked (has_recipe (table_of f l) l) _ 256

  pub present_is : (x : ℕ) → F.characters.present x ≡ exists_in (table_of f l 1) l x
  unfolding listed_of flagged listed_plain listed_here
  present_is x = refl

  -- of a character that exists
  module _ (x : ℕ) (e : exists_in (table_of f l 1) l x ≡ true) where
    -- its tag: a label where it had a program, else the link or the recipe
    pub in_range_lem : (l.bc ≤ x) × (x ≤ l.ec)
    unfolding exists_in in_range
    in_range_lem =
        let a = ((and-eq-true_iff (leb l.bc x && leb x l.ec) _).0 e).0 in
        let b = (and-eq-true_iff (leb l.bc x) _).0 a in
        (leb-true l.bc x b.0, leb-true x l.ec b.1)

    not_left : x ≡ 256 → ⊥
    not_left q = omega (arith, in_range_lem.1, c.most)

    no_label : ((info_for (table_of f l) l x).tag ≡ 1 → ⊥) → start_for (table_of f l) l x ≡ l.nl
    unfolding start_for
    no_label n = no_program (table_of f l 1) (table_of f l 6) l x not_left n

    label_below : (info_for (table_of f l) l x).tag ≡ 1 → redirected (table_of f l 6) l (info_for (table_of f l) l x).remainder < l.nl
    unfolding bad_start bad_label in_range
    label_below q = elim (dec_lt (redirected (table_of f l 6) l (info_for (table_of f l) l x).remainder) l.nl) [
      | yes h ↦ h
      | no h ↦ absurd (true≢false (sym (rw (le-leb l.bc x in_range_lem.0, le-leb x l.ec in_range_lem.1, eq-eqb (info_for (table_of f l) l x).tag 1 q, le-leb l.nl (redirected (table_of f l 6) l (info_for (table_of f l) l x).remainder) (omega arith))) ∙ c.starts x))
    ]

    label : (info_for (table_of f l) l x).tag ≡ 1 → start_for (table_of f l) l x < l.nl
    unfolding start_for
    label q =
        let h = label_below q in
        let a = program_at (table_of f l 1) (table_of f l 6) l x not_left in_range_lem.0 in_range_lem.1 q _ refl h in
        omega arith

    listed_here_lem : listed_here (table_of f l) l x ≡ true
    unfolding listed_here
    listed_here_lem = e

    pub tag_listed : F.program.tag x ≡ (info_for (table_of f l) l x).tag
    unfolding listed_of flagged listed_plain listed_tag
    tag_listed = elim (ℕ_discrete (info_for (table_of f l) l x).tag 1) [
      | yes q ↦ rw (start_live f l c x (omega (arith, in_range_lem.1, c.most)) (label q)) (sym q)
      | no q ↦ rw (not_live f l c (start_for (table_of f l) l x) (omega (arith, no_label q)), listed_here_lem) (elim (dec_le 2 (info_for (table_of f l) l x).tag) [
        | yes h ↦ rw (le-leb 2 (info_for (table_of f l) l x).tag h)
        | no h ↦ rw (lt-leb 2 (info_for (table_of f l) l x).tag (omega arith)) (omega arith)
      ])
    ]

    -- a link
    pub link_listed : (info_for (table_of f l) l x).tag ≡ 2 → F.program.remainder x ≡ (info_for (table_of f l) l x).remainder
    unfolding listed_of flagged listed_plain listed_remainder has_recipe
    link_listed q =
        rw (not_live f l c (start_for (table_of f l) l x) (omega (arith, no_label (omega arith))), listed_here_lem, ne_eqb (info_for (table_of f l) l x).tag 3 (omega arith), eq-eqb (info_for (table_of f l) l x).tag 2 q)

    -- a recipe
    module _ (q : (info_for (table_of f l) l x).tag ≡ 3) where
      pub has : has_recipe (table_of f l) l x ≡ true
      unfolding has_recipe
      has = rw (listed_here_lem, eq-eqb (info_for (table_of f l) l x).tag 3 q)

      pub number_listed : F.program.remainder x ≡ rank (has_recipe (table_of f l) l) x
      unfolding listed_of flagged listed_plain listed_remainder
      number_listed =
          rw (not_live f l c (start_for (table_of f l) l x) (omega (arith, no_label (omega arith))), has)

      pub number_below : rank (has_recipe (table_of f l) l) x < length F.program.recipes
      number_below = omega (arith, recipes_length, rank_below (has_recipe (table_of f l) l) x 256 has (omega (arith, in_range_lem.1, c.most)))

      pub recipe_word_lem : get_or F.program.recipes (rank (has_recipe (table_of f l) l) x) 0 ≡ word_of (table_of f l 8) (info_for (table_of f l) l x).remainder
      unfolding listed_of flagged listed_plain
      recipe_word_lem = at_place (has_recipe (table_of f l) l) _ 0 256 x has (omega (arith, in_range_lem.1, c.most))
