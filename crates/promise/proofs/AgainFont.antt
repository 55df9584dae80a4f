-- A font as a listing states it is listed again as it is: what the listing of the file built of it states is the font itself.
use Prim.Native.Nat.{ℕ, ◌+◌, ◌-◌, ◌*◌, ◌/◌, ◌≤◌, ◌<◌}
use native.Mathlib.Decide.{ℕ_discrete, dec_le, dec_lt}
use native.Mathlib.Omega.{arith}
use mathlib.Core.Path.{◌≡◌, refl, sym, ap, ◌∙◌}
use mathlib.Core.Bool.{Bool, true, false, cond, ◌&&◌, not, and-eq-true_iff, true≢false}
use mathlib.Core.Logic.{◌⊎◌}
use mathlib.Core.List.{List}
use lib.Dec.{leb, eqb}
use lib.ListN.{length, get_or}
use borrow.Author.Tests.{lt-ltb, le-leb, lt-leb, eq-eqb, ne_eqb, eqb-true}
use Rattle.lent.specs.Fold.{tabulate}
use Rattle.lent.proofs.Lists.{length_tabulate, get_or_tabulate}
use Rattle.tfm.specs.Subfiles.{count_of, table_of}
use Rattle.tfm.specs.Characters.{byte_of}
use Rattle.tfm.specs.Lengths.{word_of}
use Rattle.tfm.specs.declared.Layout.{Layout}
use Rattle.header.specs.Header.{spelled}
use Rattle.font.specs.Font.{Instruction, Font}
use Rattle.building.specs.Pick.{rank, picked}
use Rattle.font.specs.Checked.{no_step, step_at}
use Rattle.building.specs.Written.{first_code, last_code, in_file, front, new_remainder, sizes_for, part_for, written, byte_in}
use Rattle.building.proofs.Picks.{rank_below, length_picked, at_place, picked_alike, rank_alike}
use Rattle.building.proofs.Laid.{length_table_lem, part_back}
use Rattle.building.proofs.Accepts.{Fits}
use Rattle.building.proofs.Chars.{Whole, from_first, to_last, exists_back, width_word, width_within, height_back, height_within, height_zero, depth_back, depth_within, depth_zero, italic_back, italic_within, italic_zero, tag_back, remainder_back, recipe_back, parameter_back, further_back, face_back, check_back, design_back}
use Rattle.building.proofs.Runs.{Runs, skip_back, right_back, op_back, value_back, kern_op}
use Rattle.building.proofs.Kerns.{kern_word, boundary_back}
use Rattle.clean.specs.Met.{marks_in}
use Rattle.forest.specs.Forest.{past}
use Rattle.font.specs.Read.{flagged}
use Rattle.font.proofs.Same.{same_characters, same_program, same_font}
use Rattle.stated.specs.Stated.{width_stated}
use Rattle.stated.specs.Listed.{listed_length, live, listed_step, listed_here, info_for, listed_width, listed_height, listed_depth, listed_italic, start_for, has_recipe, listed_tag, listed_remainder, listed_plain, listed_of}
use Rattle.promise.proofs.AgainLists.{same_list, skipped_all}
use Rattle.promise.proofs.AgainMarks.{Reached, steps_fit, Accessible, accessible, label_most, live_in, place_of, count_of_lem}

-- a character with a recipe
unfoldable pub recipe_at : Font → ℕ → Bool
recipe_at F c = F.characters.present c && eqb (F.program.tag c) 3

-- a length that is not 0
unfoldable pub counted_at : Font → (ℕ → ℕ) → ℕ → Bool
counted_at F g c = F.characters.present c && not (eqb (g c) 0)

-- a font before its flag is set
abbrev pub unflagged : Font → Font
unflagged F = record { header = F.header; parameters = F.parameters; characters = F.characters; program = F.program; unsafe = false }

-- what holds of every font that a listing states, besides that it is whole and runs
pub record Plain (F : Font) : Type 0 where
  pub given : F.header.checked ≡ true
  pub spelt_scheme : past (spelled (table_of (written F) (sizes_for F) 0) 0) ≡ F.header.scheme
  pub spelt_family : past (spelled (table_of (written F) (sizes_for F) 0) 1) ≡ F.header.family
  pub boundary_most : F.program.boundary ≤ 256
  -- a code without a character has no lengths
  pub no_width : (c : ℕ) → F.characters.present c ≡ false → F.characters.width c ≡ 0
  pub no_height : (c : ℕ) → F.characters.present c ≡ false → F.characters.height c ≡ 0
  pub no_depth : (c : ℕ) → F.characters.present c ≡ false → F.characters.depth c ≡ 0
  pub no_italic : (c : ℕ) → F.characters.present c ≡ false → F.characters.italic c ≡ 0
  -- nor a link or a recipe; without a tag the remainder is 0
  pub has_tag : (c : ℕ) → 2 ≤ F.program.tag c → F.characters.present c ≡ true
  pub no_tag : (c : ℕ) → F.program.tag c ≡ 0 → F.program.remainder c ≡ 0
  -- the tables are in the order of the codes
  pub widths_are : F.characters.widths ≡ picked F.characters.present F.characters.width 256
  pub heights_are : F.characters.heights ≡ picked (counted_at F F.characters.height) F.characters.height 256
  pub depths_are : F.characters.depths ≡ picked (counted_at F F.characters.depth) F.characters.depth 256
  pub italics_are : F.characters.italics ≡ picked (counted_at F F.characters.italic) F.characters.italic 256
  pub numbers : (c : ℕ) → F.program.tag c ≡ 3 → F.program.remainder c ≡ rank (recipe_at F) c
  pub recipes_are : F.program.recipes ≡ picked (recipe_at F) (λ c. get_or F.program.recipes (F.program.remainder c) 0) 256
  -- the steps: each is reached, from a code in bc..ec or from the left boundary
  pub ops : (j : ℕ) → j < length F.program.steps → (step_at F j).op ≤ 128
  pub labels : (c : ℕ) → F.program.tag c ≡ 1 → (in_file F c ≡ true) ⊎ (c ≡ 256)
  pub reached : (j : ℕ) → j < length F.program.steps → Reached F j
  pub least_is : F.program.least ≡ length F.program.steps
  -- the flag is that of the font
  pub flag_is : flagged (unflagged F) ≡ F

-- steps are the same if each field is
same_instruction : (x y : Instruction) → x.skip ≡ y.skip → x.right ≡ y.right → x.op ≡ y.op → x.value ≡ y.value → x ≡ y
same_instruction x y a b c d = λ z. record { skip = a z; right = b z; op = c z; value = d z }

-- a length by its index: entry 0 is 0
length_listed : (t : List ℕ) (i w n : ℕ) → word_of t 0 ≡ 0 → word_of t i ≡ w → i < n → length t ≡ 4 * n → listed_length t i ≡ w
unfolding listed_length
length_listed t i w n z e h q = elim (ℕ_discrete i 0) [
  | yes d ↦ rw (eq-eqb i 0 d) (sym z ∙ ap (word_of t) (sym d) ∙ e)
  | no d ↦ rw (ne_eqb i 0 d, lt-ltb i (length t / 4) (omega arith)) e
]

module _ (F : Font) (w : Whole F) (r : Runs F) (t : Fits F) (p : Plain F) where
  abbrev T : ℕ → List ℕ
  T = table_of (written F) (sizes_for F)

  abbrev k : Layout
  k = sizes_for F

  abbrev G : Font
  G = listed_of (written F) (sizes_for F)

  -- the header
  lh_is : k.lh ≡ 18 + length F.header.further
  unfolding sizes_for
  lh_is = refl

  np_is : k.np ≡ length F.parameters
  unfolding sizes_for
  np_is = refl

  check_sum_again : G.header.check_sum ≡ F.header.check_sum
  unfolding listed_of flagged listed_plain
  check_sum_again = check_back F p.given

  checked_again : G.header.checked ≡ F.header.checked
  unfolding listed_of flagged listed_plain
  checked_again = sym p.given

  design_size_again : G.header.design_size ≡ F.header.design_size
  unfolding listed_of flagged listed_plain
  design_size_again = design_back F

  scheme_again : G.header.scheme ≡ F.header.scheme
  unfolding listed_of flagged listed_plain
  scheme_again = rw (le-leb 12 k.lh (omega (arith, lh_is))) p.spelt_scheme

  family_again : G.header.family ≡ F.header.family
  unfolding listed_of flagged listed_plain
  family_again = rw (le-leb 17 k.lh (omega (arith, lh_is))) p.spelt_family

  face_again : G.header.face ≡ F.header.face
  unfolding listed_of flagged listed_plain
  face_again = rw (le-leb 18 k.lh (omega (arith, lh_is))) (face_back F)

  further_again : G.header.further ≡ F.header.further
  unfolding listed_of flagged listed_plain
  further_again =
      let n = length_tabulate (λ i. word_of (T 0) (i + 18)) (k.lh - 18) in
      same_list 0 (tabulate (λ i. word_of (T 0) (i + 18)) (k.lh - 18)) F.header.further (omega (arith, lh_is)) (λ i h.
      let e : i + 18 ≡ 18 + i = omega arith in
      get_or_tabulate (λ j. word_of (T 0) (j + 18)) (k.lh - 18) i (omega arith) ∙ ap (word_of (T 0)) e ∙ further_back F i (omega (arith, lh_is)))

  parameters_again : G.parameters ≡ F.parameters
  unfolding listed_of flagged listed_plain
  parameters_again =
      let n = length_tabulate (word_of (T 9)) k.np in
      same_list 0 (tabulate (word_of (T 9)) k.np) F.parameters (omega (arith, np_is)) (λ i h.
      get_or_tabulate (word_of (T 9)) k.np i (omega arith) ∙ parameter_back F i (omega (arith, np_is)))

  boundary_again : G.program.boundary ≡ F.program.boundary
  unfolding listed_of flagged listed_plain
  boundary_again = boundary_back F r p.boundary_most

  -- the characters
  here_again : (c : ℕ) → listed_here T k c ≡ F.characters.present c
  unfolding listed_here
  here_again c = exists_back F w c

  table_length : (n : ℕ) → n ≤ 9 → length (T n) ≡ 4 * count_of k n
  unfolding part_for
  table_length n h = ap length (part_back F n h) ∙ length_table_lem (byte_in F n) (count_of k n)

  module _ (c : ℕ) (a : first_code F ≤ c) (b : c ≤ last_code F) where
    tag_of : (info_for T k c).tag ≡ F.program.tag c
    unfolding sizes_for
    tag_of = tag_back F w t c a b

    remainder_of : (info_for T k c).remainder ≡ new_remainder F c
    unfolding sizes_for
    remainder_of = remainder_back F w t c a b

    height_of : listed_length (T 3) (info_for T k c).height ≡ F.characters.height c
    unfolding sizes_for count_of
    height_of = length_listed (T 3) _ (F.characters.height c) (sizes_for F).nh (height_zero F) (height_back F w t c a b) (height_within F w t c a b) (table_length 3 (omega arith))

    depth_of : listed_length (T 4) (info_for T k c).depth ≡ F.characters.depth c
    unfolding sizes_for count_of
    depth_of = length_listed (T 4) _ (F.characters.depth c) (sizes_for F).nd (depth_zero F) (depth_back F w t c a b) (depth_within F w t c a b) (table_length 4 (omega arith))

    italic_of : listed_length (T 5) (info_for T k c).italic ≡ F.characters.italic c
    unfolding sizes_for count_of
    italic_of = length_listed (T 5) _ (F.characters.italic c) (sizes_for F).ni (italic_zero F) (italic_back F w t c a b) (italic_within F w t c a b) (table_length 5 (omega arith))

  width_of : (c : ℕ) → F.characters.present c ≡ true → width_stated (T 2) (info_for T k c).width ≡ F.characters.width c
  unfolding sizes_for count_of width_stated
  width_of c q =
      let n = table_length 2 (omega arith) in
      rw (lt-ltb (info_for T k c).width (length (T 2) / 4) (omega (arith, width_within F w c q))) (width_word F w c q)

  -- by whether a code has a character
  by_here : (c v u : ℕ) → (F.characters.present c ≡ true → v ≡ u) → (F.characters.present c ≡ false → u ≡ 0) → cond (listed_here T k c) v 0 ≡ u
  by_here c v u yes-so no-so = ap (λ (b : Bool). cond b v 0) (here_again c) ∙ go (F.characters.present c) refl
    where
      go : (b : Bool) → F.characters.present c ≡ b → cond b v 0 ≡ u
      go true q = yes-so q
      go false q = sym (no-so q)

  width_again : (c : ℕ) → listed_width T k c ≡ F.characters.width c
  unfolding listed_width
  width_again c = by_here c _ (F.characters.width c) (width_of c) (p.no_width c)

  height_again : (c : ℕ) → listed_height T k c ≡ F.characters.height c
  unfolding listed_height
  height_again c = by_here c _ (F.characters.height c) (λ q. height_of c (from_first F w c q) (to_last F w c q)) (p.no_height c)

  depth_again : (c : ℕ) → listed_depth T k c ≡ F.characters.depth c
  unfolding listed_depth
  depth_again c = by_here c _ (F.characters.depth c) (λ q. depth_of c (from_first F w c q) (to_last F w c q)) (p.no_depth c)

  italic_again : (c : ℕ) → listed_italic T k c ≡ F.characters.italic c
  unfolding listed_italic
  italic_again c = by_here c _ (F.characters.italic c) (λ q. italic_of c (from_first F w c q) (to_last F w c q)) (p.no_italic c)

  widths_again : G.characters.widths ≡ F.characters.widths
  unfolding listed_of flagged listed_plain
  widths_again = picked_alike (listed_here T k) F.characters.present (listed_width T k) F.characters.width 256 here_again (λ c q. width_again c) ∙ sym p.widths_are

  counted_again : (g h : ℕ → ℕ) → ((c : ℕ) → g c ≡ h c) → (c : ℕ) → (listed_here T k c && not (eqb (g c) 0)) ≡ counted_at F h c
  unfolding counted_at
  counted_again g h e c = rw (here_again c, e c)

  heights_again : G.characters.heights ≡ F.characters.heights
  unfolding listed_of flagged listed_plain
  heights_again =
      picked_alike _ (counted_at F F.characters.height) (listed_height T k) F.characters.height 256 (counted_again (listed_height T k) F.characters.height height_again) (λ c q. height_again c) ∙ sym p.heights_are

  depths_again : G.characters.depths ≡ F.characters.depths
  unfolding listed_of flagged listed_plain
  depths_again =
      picked_alike _ (counted_at F F.characters.depth) (listed_depth T k) F.characters.depth 256 (counted_again (listed_depth T k) F.characters.depth depth_again) (λ c q. depth_again c) ∙ sym p.depths_are

  italics_again : G.characters.italics ≡ F.characters.italics
  unfolding listed_of flagged listed_plain
  italics_again =
      picked_alike _ (counted_at F F.characters.italic) (listed_italic T k) F.characters.italic 256 (counted_again (listed_italic T k) F.characters.italic italic_again) (λ c q. italic_again c) ∙ sym p.italics_are

  -- a code with a character
  module _ (c : ℕ) (q : F.characters.present c ≡ true) where
    tag_there : (info_for T k c).tag ≡ F.program.tag c
    tag_there = tag_of c (from_first F w c q) (to_last F w c q)

    remainder_there : (F.program.tag c ≡ 1 → ⊥) → (info_for T k c).remainder ≡ F.program.remainder c
    unfolding new_remainder
    remainder_there n = remainder_of c (from_first F w c q) (to_last F w c q) ∙ rw (ne_eqb (F.program.tag c) 1 n)

  -- the recipes
  recipe_test : (c : ℕ) → has_recipe T k c ≡ recipe_at F c
  unfolding has_recipe recipe_at
  recipe_test c = rw (here_again c) (go (F.characters.present c) refl)
    where
      go : (b : Bool) → F.characters.present c ≡ b → b && eqb (info_for T k c).tag 3 ≡ b && eqb (F.program.tag c) 3
      go true q = rw (tag_there c q)
      go false q = refl

  recipe_so : (c : ℕ) → recipe_at F c ≡ true → (F.characters.present c ≡ true) × (F.program.tag c ≡ 3)
  unfolding recipe_at
  recipe_so c q = let z = (and-eq-true_iff (F.characters.present c) (eqb (F.program.tag c) 3)).0 q in (z.0, eqb-true (F.program.tag c) 3 z.1)

  recipe_below : (c : ℕ) → recipe_at F c ≡ true → F.program.remainder c < length F.program.recipes
  recipe_below c q =
      let z = recipe_so c q in
      let n : length F.program.recipes ≡ rank (recipe_at F) 256 = ap length p.recipes_are ∙ length_picked (recipe_at F) _ 256 in
      omega (arith, p.numbers c z.1, rank_below (recipe_at F) c 256 q (w.small c z.0))

  recipe_word_lem : (c : ℕ) → recipe_at F c ≡ true → word_of (T 8) (info_for T k c).remainder ≡ get_or F.program.recipes (F.program.remainder c) 0
  recipe_word_lem c q =
      let z = recipe_so c q in
      ap (word_of (T 8)) (remainder_there c z.0 (λ e. omega (arith, z.1))) ∙ recipe_back F (F.program.remainder c) (recipe_below c q)

  recipes_again : G.program.recipes ≡ F.program.recipes
  unfolding listed_of flagged listed_plain
  recipes_again = picked_alike (has_recipe T k) (recipe_at F) _ _ 256 recipe_test recipe_word_lem ∙ sym p.recipes_are

  -- a code without a label
  module _ (c : ℕ) (n : F.program.tag c ≡ 1 → ⊥) where
    untagged : F.characters.present c ≡ false → F.program.tag c ≡ 0
    untagged q = elim (dec_le 2 (F.program.tag c)) [
      | yes h ↦ absurd (true≢false (sym (p.has_tag c h) ∙ q))
      | no h ↦ elim (ℕ_discrete (F.program.tag c) 1) [ yes e ↦ absurd (n e) | no e ↦ omega arith ]
    ]

    other_tag : cond (listed_here T k c && leb 2 (info_for T k c).tag) (info_for T k c).tag 0 ≡ F.program.tag c
    other_tag = ap (λ (b : Bool). cond (b && leb 2 (info_for T k c).tag) (info_for T k c).tag 0) (here_again c) ∙ go (F.characters.present c) refl
      where
        go : (b : Bool) → F.characters.present c ≡ b → cond (b && leb 2 (info_for T k c).tag) (info_for T k c).tag 0 ≡ F.program.tag c
        go true q = rw (tag_there c q) (elim (dec_le 2 (F.program.tag c)) [
          | yes h ↦ rw (le-leb 2 (F.program.tag c) h)
          | no h ↦ rw (lt-leb 2 (F.program.tag c) (omega arith)) (elim (ℕ_discrete (F.program.tag c) 1) [ yes e ↦ absurd (n e) | no e ↦ omega arith ])
        ])
        go false q = sym (untagged q)

    other_remainder : cond (has_recipe T k c) (rank (has_recipe T k) c) (cond (listed_here T k c && eqb (info_for T k c).tag 2) (info_for T k c).remainder 0) ≡ F.program.remainder c
    unfolding recipe_at
    other_remainder = rw (recipe_test c, here_again c, rank_alike (has_recipe T k) (recipe_at F) c recipe_test) (go (F.characters.present c) refl)
      where
        go : (b : Bool) → F.characters.present c ≡ b → cond (b && eqb (F.program.tag c) 3) (rank (recipe_at F) c) (cond (b && eqb (info_for T k c).tag 2) (info_for T k c).remainder 0) ≡ F.program.remainder c
        go true q = rw (tag_there c q, remainder_there c q n) (elim (ℕ_discrete (F.program.tag c) 3) [
          | yes e ↦ rw (eq-eqb (F.program.tag c) 3 e) (sym (p.numbers c e))
          | no e ↦ rw (ne_eqb (F.program.tag c) 3 e) (elim (ℕ_discrete (F.program.tag c) 2) [
            | yes d ↦ rw (eq-eqb (F.program.tag c) 2 d)
            | no d ↦ rw (ne_eqb (F.program.tag c) 2 d) (sym (p.no_tag c (omega (arith, w.tags c))))
          ])
        ])
        go false q = sym (p.no_tag c (untagged q))

  abbrev m : List ℕ
  m = marks_in (written F) (sizes_for F)

  -- the steps that are accessible
  acc : Accessible F w r t
  acc = accessible F w r t p.labels p.reached

  label_start : (c : ℕ) → F.program.tag c ≡ 1 → start_for T k c ≡ front F + F.program.remainder c
  unfolding start_for
  label_start c e = acc.starts c e

  remainder_below : (c : ℕ) → F.program.tag c ≡ 1 → F.program.remainder c < length F.program.steps
  remainder_below c e = r.labels c (label_most F w r t p.labels c e) e

  label_live : (c : ℕ) → F.program.tag c ≡ 1 → live k m (start_for T k c) ≡ true
  label_live c e = rw (label_start c e) (live_in F w r t acc (front F + F.program.remainder c) (omega arith) (omega (arith, remainder_below c e)))

  no_label : (c : ℕ) → (F.program.tag c ≡ 1 → ⊥) → live k m (start_for T k c) ≡ false
  unfolding start_for
  no_label c n = acc.silent c n

  tag_again : (c : ℕ) → listed_tag T k m c ≡ F.program.tag c
  unfolding listed_tag
  tag_again c = elim (ℕ_discrete (F.program.tag c) 1) [
    | yes e ↦ rw (label_live c e) (sym e)
    | no e ↦ rw (no_label c e) (other_tag c e)
  ]

  remainder_again : (c : ℕ) → listed_remainder T k m c ≡ F.program.remainder c
  unfolding listed_remainder
  remainder_again c = elim (ℕ_discrete (F.program.tag c) 1) [
    | yes e ↦ rw (label_live c e, label_start c e) (place_of F w r t acc (F.program.remainder c) (omega (arith, remainder_below c e)))
    | no e ↦ rw (no_label c e) (other_remainder c e)
  ]

  -- the steps
  module _ (j : ℕ) (h : j < length F.program.steps) where
    skip_again : (listed_step (T 6) (T 7) m (front F + j)).skip ≡ (step_at F j).skip
    unfolding listed_step
    skip_again = rw (skip_back F r j h) (elim (dec_lt (step_at F j).skip 128) [
      | yes b ↦ let z = r.leads j h b in
          rw (lt-leb 128 (step_at F j).skip b)
          (skipped_all m (front F + j) (step_at F j).skip (λ i q. acc.inside (front F + j + 1 + i) (omega arith) (omega arith)))
      | no b ↦ rw (le-leb 128 (step_at F j).skip (omega arith)) (omega (arith, r.skips j h))
    ])

    op_again : (listed_step (T 6) (T 7) m (front F + j)).op ≡ (step_at F j).op
    unfolding listed_step
    op_again = elim (dec_lt (step_at F j).op 128) [
      | yes o ↦ rw (op_back F r j h o, lt-leb 128 (step_at F j).op o)
      | no o ↦ let b = kern_op F r j h (omega arith) in
          rw (le-leb 128 (byte_of (T 6) (front F + j) 2) (omega arith)) (omega (arith, p.ops j h))
    ]

    value_again : (listed_step (T 6) (T 7) m (front F + j)).value ≡ (step_at F j).value
    unfolding listed_step
    value_again = elim (dec_lt (step_at F j).op 128) [
      | yes o ↦ rw (op_back F r j h o, lt-leb 128 (step_at F j).op o) (value_back F r j h o)
      | no o ↦ let b = kern_op F r j h (omega arith) in
          rw (le-leb 128 (byte_of (T 6) (front F + j) 2) (omega arith)) (kern_word F r j h (omega arith))
    ]

    right_again : (listed_step (T 6) (T 7) m (front F + j)).right ≡ (step_at F j).right
    unfolding listed_step
    right_again = right_back F r j h

    step_again : listed_step (T 6) (T 7) m (front F + j) ≡ step_at F j
    step_again = same_instruction (listed_step (T 6) (T 7) m (front F + j)) (step_at F j) skip_again right_again op_again value_again

    at_again : get_or (picked (live k m) (listed_step (T 6) (T 7) m) k.nl) j no_step ≡ get_or F.program.steps j no_step
    unfolding step_at
    at_again =
        ap (λ (i : ℕ). get_or (picked (live k m) (listed_step (T 6) (T 7) m) k.nl) i no_step) (sym (place_of F w r t acc j (omega arith)))
        ∙ at_place (live k m) (listed_step (T 6) (T 7) m) no_step k.nl (front F + j) (live_in F w r t acc (front F + j) (omega arith) (omega arith)) (omega (arith, steps_fit F w r t))
        ∙ step_again

  steps_again : G.program.steps ≡ F.program.steps
  unfolding listed_of flagged listed_plain
  steps_again =
      let n : length (picked (live k m) (listed_step (T 6) (T 7) m) k.nl) ≡ length F.program.steps = length_picked (live k m) _ k.nl ∙ count_of_lem F w r t acc in
      same_list no_step (picked (live k m) (listed_step (T 6) (T 7) m) k.nl) F.program.steps n (λ j h. at_again j (omega arith))

  least_again : rank (live k m) k.nl ≡ F.program.least
  least_again = count_of_lem F w r t acc ∙ sym p.least_is

  header_again : G.header ≡ F.header
  header_again = λ z. record {
    check_sum = check_sum_again z;
    checked = checked_again z;
    design_size = design_size_again z;
    scheme = scheme_again z;
    family = family_again z;
    face = face_again z;
    further = further_again z;
  }

  -- THE SAME FONT
  plain_again : listed_plain T k m ≡ unflagged F
  unfolding listed_of flagged listed_plain
  plain_again =
      same_font (listed_plain T k m) (unflagged F) header_again parameters_again
      (same_characters _ F.characters here_again width_again height_again depth_again italic_again widths_again heights_again depths_again italics_again)
      (same_program _ F.program boundary_again tag_again remainder_again recipes_again steps_again least_again)
      refl

  pub listed_again : listed_of (written F) (sizes_for F) ≡ F
  unfolding listed_of
  listed_again = ap flagged plain_again ∙ p.flag_is
