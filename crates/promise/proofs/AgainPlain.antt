-- The font that the listing of a clean file states is plain, if its labels stand between its first and its last character.
use Prim.Native.Nat.{ℕ, ◌+◌, ◌≤◌, ◌<◌}
use native.Mathlib.Decide.{dec_lt}
use native.Mathlib.Omega.{arith}
use mathlib.Core.Path.{◌≡◌, refl, sym, ap, ◌∙◌, subst}
use mathlib.Core.Bool.{Bool, true, false, cond, ◌&&◌, and-eq-true_iff}
use mathlib.Core.Logic.{◌⊎◌, inl, inr}
use mathlib.Core.List.{List}
use lib.Dec.{leb, eqb}
use lib.ListN.{length, get_or}
use borrow.Author.Tests.{eqb-true}
use Rattle.building.proofs.Picks.{picked_alike, rank_alike}
use Rattle.program.proofs.Starts.{program_outside}
use Rattle.tfm.specs.Subfiles.{table_of}
use Rattle.tfm.specs.Characters.{byte_of, exists_in}
use Rattle.tfm.specs.Lengths.{word_of}
use Rattle.tfm.specs.declared.Layout.{Layout}
use Rattle.program.specs.Steps.{next_of, program_of}
use Rattle.mend.specs.Findings.{any_mend}
use Rattle.font.specs.Font.{Font}
use Rattle.building.specs.Pick.{rank, picked}
use Rattle.font.specs.Checked.{step_at}
use Rattle.building.specs.Written.{in_file}
use Rattle.building.proofs.Accepts.{Fits}
use Rattle.clean.specs.Met.{Met, start, onward, marks_in}
use Rattle.font.specs.Read.{flagged}
use Rattle.stated.specs.Listed.{live, label_listed, listed_here, info_for, listed_width, listed_height, listed_depth, listed_italic, start_for, has_recipe, listed_tag, listed_remainder, listed_plain, listed_of}
use Rattle.clean.proofs.Marks.{sound, starts_marked}
use Rattle.stated.proofs.Live.{skipped_most, Clear, live_marked, is_live, next_live, next_place, not_live}
use Rattle.promise.proofs.Listing.{At, at, unrank, steps_length, skip_on, tag_is, remainder_is, tag_label, op_is, kern_is}
use Rattle.promise.proofs.Tags.{tag_listed, number_listed, recipe_word_lem, present_is}
use Rattle.promise.proofs.More.{boundary_most}
use Rattle.promise.proofs.AgainMarks.{Reached, label, after}
use Rattle.promise.proofs.AgainHeader.{scheme_again, family_again}
use Rattle.promise.proofs.AgainFont.{recipe_at, counted_at, Plain}

module _ (f : List ℕ) (l : Layout) (c : Clear f l) (t : Fits (listed_of f l)) where
  abbrev F : Font
  F = listed_of f l

  abbrev T : ℕ → List ℕ
  T = table_of f l

  abbrev p : ℕ → Bool
  p = live l (marks_in f l)

  -- a code without a character has no lengths, no link and no recipe
  no_width : (x : ℕ) → F.characters.present x ≡ false → F.characters.width x ≡ 0
  unfolding listed_of flagged listed_plain listed_width
  no_width x q = rw q

  no_height : (x : ℕ) → F.characters.present x ≡ false → F.characters.height x ≡ 0
  unfolding listed_of flagged listed_plain listed_height
  no_height x q = rw q

  no_depth : (x : ℕ) → F.characters.present x ≡ false → F.characters.depth x ≡ 0
  unfolding listed_of flagged listed_plain listed_depth
  no_depth x q = rw q

  no_italic : (x : ℕ) → F.characters.present x ≡ false → F.characters.italic x ≡ 0
  unfolding listed_of flagged listed_plain listed_italic
  no_italic x q = rw q

  has_tag : (x : ℕ) → 2 ≤ F.program.tag x → F.characters.present x ≡ true
  unfolding listed_of flagged listed_plain listed_tag
  has_tag x h = go (label_listed T l (marks_in f l) x) (listed_here T l x) (leb 2 (info_for T l x).tag) h
    where
      go : (a b d : Bool) → 2 ≤ cond a 1 (cond (b && d) (info_for T l x).tag 0) → b ≡ true
      go true b d q = absurd (omega arith)
      go false true d q = refl
      go false false d q = absurd (omega arith)

  start_code : (x : ℕ) → start_for T l x < l.nl → x ≤ 256
  unfolding start_for
  start_code x q = elim (dec_lt 256 x) [
    | yes h ↦ absurd (omega (arith, program_outside (T 1) (T 6) l x (omega arith) (λ a b. omega (arith, c.most))))
    | no h ↦ omega arith
  ]

  no_tag : (x : ℕ) → F.program.tag x ≡ 0 → F.program.remainder x ≡ 0
  unfolding listed_of flagged listed_plain listed_remainder has_recipe
  no_tag x e = elim (dec_lt (start_for T l x) l.nl) [
    | yes h ↦ absurd (omega (arith, tag_is f l c x (start_code x h) h))
    | no h ↦ rw (not_live f l c (start_for T l x) (omega arith)) (go (listed_here T l x) refl)
  ]
    where
      go : (b : Bool) → F.characters.present x ≡ b → cond (b && eqb (info_for T l x).tag 3) (rank (has_recipe T l) x) (cond (b && eqb (info_for T l x).tag 2) (info_for T l x).remainder 0) ≡ 0
      go true q = let d : (info_for T l x).tag ≡ 0 = sym (tag_listed f l c x (sym (present_is f l c x) ∙ q)) ∙ e in rw d
      go false q = refl

  -- the recipes
  recipe_same : (x : ℕ) → has_recipe T l x ≡ recipe_at F x
  unfolding has_recipe recipe_at listed_of flagged listed_plain
  recipe_same x = go (listed_here T l x) refl
    where
      go : (b : Bool) → F.characters.present x ≡ b → b && eqb (info_for T l x).tag 3 ≡ b && eqb (F.program.tag x) 3
      go true q = rw (tag_listed f l c x (sym (present_is f l c x) ∙ q))
      go false q = refl

  recipe_number : (x : ℕ) → F.program.tag x ≡ 3 → F.program.remainder x ≡ rank (has_recipe T l) x
  recipe_number x e =
      let h : exists_in (table_of f l 1) l x ≡ true = sym (present_is f l c x) ∙ has_tag x (omega arith) in
      number_listed f l c x h (sym (tag_listed f l c x h) ∙ e)

  recipe_is : (x : ℕ) → recipe_at F x ≡ true → word_of (T 8) (info_for T l x).remainder ≡ get_or F.program.recipes (F.program.remainder x) 0
  unfolding recipe_at
  recipe_is x q =
      let z = (and-eq-true_iff (F.characters.present x) (eqb (F.program.tag x) 3)).0 q in
      let e = eqb-true (F.program.tag x) 3 z.1 in
      let h : exists_in (table_of f l 1) l x ≡ true = sym (present_is f l c x) ∙ z.0 in
      sym (recipe_word_lem f l c x h (sym (tag_listed f l c x h) ∙ e)) ∙ ap (λ (i : ℕ). get_or F.program.recipes i 0) (sym (recipe_number x e))

  recipes_are : F.program.recipes ≡ picked (has_recipe T l) (λ x. word_of (T 8) (info_for T l x).remainder) 256
  unfolding listed_of flagged listed_plain
  recipes_are = refl

  recipes_so : F.program.recipes ≡ picked (recipe_at F) (λ x. get_or F.program.recipes (F.program.remainder x) 0) 256
  recipes_so = recipes_are ∙ picked_alike (has_recipe T l) (recipe_at F) _ _ 256 recipe_same recipe_is

  -- the steps
  op_most : (j : ℕ) → j < length F.program.steps → (step_at F j).op ≤ 128
  op_most j h = go (unrank p l.nl j (omega (arith, steps_length f l c)))
    where
      go : {q : ℕ} → At p l.nl q → (step_at F q).op ≤ 128
      go (at i n v) = elim (dec_lt (byte_of (T 6) i 2) 128) [
        | yes o ↦ omega (arith, op_is f l c i v o)
        | no o ↦ omega (arith, kern_is f l c i v (omega arith))
      ]

  met_live : {i : ℕ} → Met (T 1) (T 6) l i → p i ≡ true
  met_live (start x n h) = is_live f l c _ h (starts_marked (T 1) (T 6) l c.few c.none x n h)
  met_live (onward {i} d b h) = next_live f l c i (met_live d) b

  start_is : (x : ℕ) → start_for T l x ≡ program_of (T 1) (T 6) l x
  unfolding start_for
  start_is x = refl

  -- what the file's programs meet, the font's labels reach
  met_reached : {i : ℕ} → Met (T 1) (T 6) l i → Reached F (rank p i)
  met_reached (start x n h) =
      let q : start_for T l x < l.nl = rw (start_is x) h in
      let e : F.program.remainder x ≡ rank p (program_of (T 1) (T 6) l x) = remainder_is f l c x n q ∙ ap (rank p) (start_is x) in
      subst (Reached F) e (label x n (tag_is f l c x n q))
  met_reached (onward {i} d b h) =
      let v = met_live d in
      let z = skip_on f l c i v b in
      let e : rank p i + 1 + (step_at F (rank p i)).skip ≡ rank p (next_of (T 6) i) = omega (arith, next_place f l c i v b) in
      subst (Reached F) e (after (met_reached d) (omega (arith, skipped_most l (marks_in f l) i (byte_of (T 6) i 0))))

  reached : (j : ℕ) → j < length F.program.steps → Reached F j
  reached j h = go (unrank p l.nl j (omega (arith, steps_length f l c)))
    where
      go : {q : ℕ} → At p l.nl q → Reached F q
      go (at i n v) = met_reached (sound (T 1) (T 6) l c.most i (live_marked f l c i v))

  module _ (clean : any_mend f l ≡ false) (bytes : (n : ℕ) → get_or f n 0 < 256) (within : (x : ℕ) → x < 256 → F.program.tag x ≡ 1 → in_file F x ≡ true) where
    labels : (x : ℕ) → F.program.tag x ≡ 1 → (in_file F x ≡ true) ⊎ (x ≡ 256)
    labels x e = elim (dec_lt x 256) [
      | yes h ↦ inl (within x h e)
      | no h ↦ inr (omega (arith, start_code x (tag_label f l c x e)))
    ]

    pub plain : Plain F
    unfolding listed_of flagged listed_plain counted_at
    plain = record {
      given = refl;
      spelt_scheme = scheme_again f l clean;
      spelt_family = family_again f l clean;
      boundary_most = boundary_most f l c t bytes;
      no_width = no_width;
      no_height = no_height;
      no_depth = no_depth;
      no_italic = no_italic;
      has_tag = has_tag;
      no_tag = no_tag;
      widths_are = refl;
      heights_are = refl;
      depths_are = refl;
      italics_are = refl;
      numbers = λ x e. recipe_number x e ∙ rank_alike (has_recipe T l) (recipe_at F) x recipe_same;
      recipes_are = recipes_so;
      ops = op_most;
      labels = labels;
      reached = reached;
      least_is = sym (steps_length f l c);
      flag_is = refl;
    }
