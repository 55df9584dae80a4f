-- What a listing states makes the font that `listed` says.
use Prim.Native.Nat.{ℕ, zero, suc, ◌+◌, ◌-◌, ◌≤◌, ◌<◌, max}
use native.Mathlib.Nat.{mod-lt}
use native.Mathlib.Decide.{dec_le}
use native.Mathlib.Omega.{arith}
use mathlib.Core.Path.{◌≡◌, refl, sym, ap, ◌∙◌}
use mathlib.Core.Bool.{Bool, true, false, cond, ◌&&◌, not, true≢false, and-false, and-eq-true_iff}
use mathlib.Core.List.{List, [], ◌∷◌, ◌++◌}
use lib.Dec.{leb, ltb, eqb}
use lib.ListN.{length, get_or}
use borrow.Author.Tests.{lt-ltb, le-ltb, lt-leb, le-leb, eq-eqb, ne_eqb, eqb-true, leb-true, ltb-true}
use Rattle.lent.specs.Fold.{iterate, tabulate}
use Rattle.lent.proofs.Lists.{get_or_tabulate}
use Rattle.tfm.specs.Characters.{byte_of, info_of, in_range, exists_in}
use Rattle.tfm.specs.Lengths.{word_of}
use Rattle.tfm.specs.Subfiles.{table_of}
use Rattle.tfm.specs.declared.Layout.{Layout}
use Rattle.program.specs.Steps.{boundary_char, redirected, below, program_of}
use Rattle.faults.specs.Header.{bad_design_size}
use Rattle.header.specs.Header.{spelled}
use Rattle.ligatures.specs.Labels.{starts_of}
use Rattle.ligatures.specs.Ligatures.{skipped}
use Rattle.font.specs.Font.{Font}
use Rattle.font.specs.Read.{worded, flagged}
use Rattle.font.proofs.Same.{same_characters, same_program, same_font}
use Rattle.building.specs.Pick.{rank, picked}
use Rattle.building.proofs.Picks.{rank_below, length_picked, picked_alike}
use Rattle.forest.specs.Forest.{past}
use Rattle.stated.specs.Listed.{listed_length, live, listed_step, listed_here, info_for, listed_width, listed_height, listed_depth, listed_italic, start_for, has_recipe, label_listed, listed_tag, listed_remainder, listed_plain, listed}
use Rattle.reading.specs.Read.{tells}
use Rattle.stated.specs.Stated.{width_stated, design_stated, header_stated, parameters_stated, boundary_stated, program_stated, characters_stated, stated}
use Rattle.font.specs.Told.{Draft, blank, headed, measured, edged, programmed, widened, heightened, deepened, slanted, tagged, at, told, unspecified}
use Rattle.stated.proofs.ToldLoops.{and_then, at_loop, grow_loop}
use Rattle.stated.proofs.ToldHeader.{draft, header_told, parameters_told, boundary_told}
use Rattle.stated.proofs.ToldSteps.{Plain, steps_to, tags_to, places_to, words_to, armed_to, program_told, words_most, labels_all}
use Rattle.stated.proofs.ToldCharacters.{is_listed, joins, word_stated, picture, characters_told}

-- a copy c of the sizes l, and the marks m of its steps, of which nothing is listed otherwise than it is stored
pub record Tidy (c : List ℕ) (l : Layout) (m : List ℕ) : Type 0 where
  pub few : l.ec ≤ 255
  pub first_short : leb 12 l.lh ≡ true → length (spelled (table_of c l 0) 0) ≤ 39
  pub second_short : leb 17 l.lh ≡ true → length (spelled (table_of c l 0) 1) ≤ 19
  pub design : bad_design_size (table_of c l 0) ≡ false
  pub plain : (i : ℕ) → i < l.nl → get_or m i 0 ≡ 2 → Plain (table_of c l 6) (table_of c l 7) m (starts_of (table_of c l 1) (table_of c l 6) l) i
  pub skips : (i : ℕ) → i < l.nl → get_or m i 0 ≡ 2 → byte_of (table_of c l 6) i 0 < 128
      → rank (live l m) i + 1 + skipped m i (byte_of (table_of c l 6) i 0) < rank (live l m) l.nl
  pub whole : (x : ℕ) → has_recipe (table_of c l) l x ≡ true → word_stated (table_of c l 1) (table_of c l 8) l x (info_for (table_of c l) l x).remainder ≡ word_of (table_of c l 8) (info_for (table_of c l) l x).remainder

module _ (c : List ℕ) (l : Layout) (m : List ℕ) (y : Tidy c l m) where
  -- a code that exists is below 256
  low_codes : (x : ℕ) → exists_in (table_of c l 1) l x ≡ true → x < 256
  unfolding exists_in in_range
  low_codes x e = go (leb l.bc x) (leb x l.ec) refl e
    where
      go : (a b : Bool) → leb x l.ec ≡ b → (a && b && not (eqb (byte_of (table_of c l 1) (x - l.bc) 0) 0)) ≡ true → x < 256
      go true true q e = omega (arith, leb-true x l.ec q, y.few)
      go true false q e = absurd (true≢false (sym e))
      go false b q e = absurd (true≢false (sym e))

  -- so a test for that is none
  drop_low : (x : ℕ) (b : Bool) → (ltb x 256 && (exists_in (table_of c l 1) l x && b)) ≡ (exists_in (table_of c l 1) l x && b)
  drop_low x b = go (exists_in (table_of c l 1) l x) refl
    where
      go : (e : Bool) → exists_in (table_of c l 1) l x ≡ e → (ltb x 256 && (e && b)) ≡ (e && b)
      go true q = rw (lt-ltb x 256 (low_codes x q))
      go false q = and-false (ltb x 256)

  drop_low₀ : (x : ℕ) → (ltb x 256 && exists_in (table_of c l 1) l x) ≡ exists_in (table_of c l 1) l x
  drop_low₀ x = go (exists_in (table_of c l 1) l x) refl
    where
      go : (e : Bool) → exists_in (table_of c l 1) l x ≡ e → (ltb x 256 && e) ≡ e
      go true q = rw (lt-ltb x 256 (low_codes x q))
      go false q = and-false (ltb x 256)

  present_is : (x : ℕ) → iterate (λ h c'. cond (exists_in (table_of c l 1) l c') (at h c' true) h) (λ c. false) 256 x ≡ listed_here (table_of c l) l x
  unfolding listed_here
  present_is x = at_loop (exists_in (table_of c l 1) l) (λ c. true) (λ c. false) 256 x ∙ rw (drop_low₀ x) (go (exists_in (table_of c l 1) l x))
    where
      go : (b : Bool) → cond b true false ≡ b
      go true = refl
      go false = refl

  -- the widths
  width_is : (x : ℕ) → iterate (λ h c'. cond (exists_in (table_of c l 1) l c') (at h c' (width_stated (table_of c l 2) (info_for (table_of c l) l c').width)) h) (λ c. 0) 256 x ≡ listed_width (table_of c l) l x
  unfolding listed_width listed_here
  width_is x = at_loop (exists_in (table_of c l 1) l) (λ c'. width_stated (table_of c l 2) (info_for (table_of c l) l c').width) (λ c. 0) 256 x ∙ rw (drop_low₀ x)

  widths_are : iterate (λ ws c'. cond (exists_in (table_of c l 1) l c') (ws ++ (width_stated (table_of c l 2) (info_for (table_of c l) l c').width ∷ [])) ws) [] 256 ≡ picked (listed_here (table_of c l) l) (listed_width (table_of c l) l) 256
  unfolding listed_width listed_here
  widths_are =
      grow_loop (exists_in (table_of c l 1) l) (exists_in (table_of c l 1) l) (λ c'. width_stated (table_of c l 2) (info_for (table_of c l) l c').width) 256 (λ i h. refl)
      ∙ picked_alike (exists_in (table_of c l 1) l) (exists_in (table_of c l 1) l) _ _ 256 (λ i. refl) (λ i q. rw q)

  -- the other lengths, of a table t by an index
  module _ (t : List ℕ) (index : ℕ → ℕ) where
    length_at : ℕ → ℕ
    length_at x = cond (exists_in (table_of c l 1) l x) (listed_length t (index x)) 0

    length_is : (x : ℕ) → iterate (λ h c'. cond (exists_in (table_of c l 1) l c' && is_listed t (index c')) (at h c' (word_of t (index c'))) h) (λ c. 0) 256 x ≡ length_at x
    unfolding length_at listed_length
    length_is x =
        at_loop (λ c'. exists_in (table_of c l 1) l c' && is_listed t (index c')) (λ c'. word_of t (index c')) (λ c. 0) 256 x
        ∙ rw (drop_low x (is_listed t (index x))) (go (exists_in (table_of c l 1) l x) (is_listed t (index x)))
      where
        go : (e b : Bool) → cond (e && b) (word_of t (index x)) 0 ≡ cond e (cond b (word_of t (index x)) 0) 0
        go true b = refl
        go false b = refl

    lengths_are : iterate (λ ws c'. cond (exists_in (table_of c l 1) l c' && joins t (index c')) (ws ++ (word_of t (index c') ∷ [])) ws) [] 256
        ≡ picked (λ x. exists_in (table_of c l 1) l x && not (eqb (length_at x) 0)) length_at 256
    unfolding length_at listed_length
    lengths_are =
        grow_loop (λ x. exists_in (table_of c l 1) l x && joins t (index x)) (λ x. exists_in (table_of c l 1) l x && not (eqb (length_at x) 0)) (λ x. word_of t (index x)) 256
        (λ x h. test (exists_in (table_of c l 1) l x) (is_listed t (index x)) (word_of t (index x)))
        ∙ picked_alike _ _ _ _ 256 (λ i. refl) (λ x q. value (exists_in (table_of c l 1) l x) (is_listed t (index x)) (word_of t (index x)) q)
      where
        test : (e b : Bool) (w : ℕ) → (e && (b && not (eqb w 0))) ≡ (e && not (eqb (cond e (cond b w 0) 0) 0))
        test true true w = refl
        test true false w = refl
        test false b w = refl

        value : (e b : Bool) (w : ℕ) → (e && not (eqb (cond e (cond b w 0) 0) 0)) ≡ true → w ≡ cond e (cond b w 0) 0
        value true true w q = refl
        value true false w q = absurd (true≢false (sym q))
        value false b w q = absurd (true≢false (sym q))

  abbrev steps : List ℕ
  steps = table_of c l 6

  abbrev starts : List ℕ
  starts = starts_of (table_of c l 1) steps l

  -- the steps, and how many there are before one
  steps_are : (n : ℕ) → n ≤ l.nl → steps_to steps (table_of c l 7) m starts n ≡ picked (live l m) (listed_step steps (table_of c l 7) m) n
  unfolding steps_to live
  steps_are n h = grow_loop (λ i. eqb (get_or m i 0) 2) (λ i. ltb i l.nl && eqb (get_or m i 0) 2) (listed_step steps (table_of c l 7) m) n (λ i b. rw (lt-ltb i l.nl (omega arith)))

  length_steps : (n : ℕ) → n ≤ l.nl → length (steps_to steps (table_of c l 7) m starts n) ≡ rank (live l m) n
  length_steps n h = ap length (steps_are n h) ∙ length_picked (live l m) (listed_step steps (table_of c l 7) m) n

  -- where programs start
  start_at : (x : ℕ) → x ≤ 256 → get_or starts x 0 ≡ start_for (table_of c l) l x
  unfolding starts_of start_for
  start_at x h = get_or_tabulate (program_of (table_of c l 1) steps l) 257 x (omega arith)

  no_start : (x : ℕ) → 256 < x → start_for (table_of c l) l x ≡ l.nl
  unfolding start_for program_of in_range
  no_start x h = rw (ne_eqb x 256 (omega arith), lt-leb x l.ec (omega (arith, y.few)), and-false (leb l.bc x))

  start_is : (v : ℕ → ℕ) (x : ℕ) → cond (leb x 256 && (ltb (get_or starts x 0) l.nl && eqb (get_or m (get_or starts x 0) 0) 2)) (v (get_or starts x 0)) 0
      ≡ cond (label_listed (table_of c l) l m x) (v (start_for (table_of c l) l x)) 0
  unfolding live start_for
  start_is v x =
      elim (dec_le x 256) [
        | yes h ↦ rw (le-leb x 256 h, start_at x h)
        | no h ↦ (let z = no_start x (omega arith) in rw (lt-leb x 256 (omega arith), z, le-ltb l.nl l.nl (omega arith)))
      ]

  label_starts : (x : ℕ) → label_listed (table_of c l) l m x ≡ true → start_for (table_of c l) l x < l.nl
  unfolding live
  label_starts x q = ltb-true (start_for (table_of c l) l x) l.nl ((and-eq-true_iff (ltb (start_for (table_of c l) l x) l.nl) _).0 q).0

  -- a code with a program has the tag 1
  tag_one : (x : ℕ) → x < 256 → label_listed (table_of c l) l m x ≡ true → (info_for (table_of c l) l x).tag ≡ 1
  unfolding start_for program_of
  tag_one x h q = go (in_range l x) (eqb (info_for (table_of c l) l x).tag 1) refl (rw (ne_eqb x 256 (omega arith)) at (label_starts x q))
    where
      go : (a b : Bool) → eqb (info_for (table_of c l) l x).tag 1 ≡ b → cond (a && b) (below l (redirected steps l (info_for (table_of c l) l x).remainder)) l.nl < l.nl → (info_for (table_of c l) l x).tag ≡ 1
      go true true e q = eqb-true (info_for (table_of c l) l x).tag 1 e
      go true false e q = absurd (omega arith)
      go false b e q = absurd (omega arith)

  start_tag : (x : ℕ) → label_listed (table_of c l) l m x ≡ true → (exists_in (table_of c l 1) l x && leb 2 (info_for (table_of c l) l x).tag) ≡ false
  start_tag x q = go (exists_in (table_of c l 1) l x) refl
    where
      go : (e : Bool) → exists_in (table_of c l 1) l x ≡ e → (e && leb 2 (info_for (table_of c l) l x).tag) ≡ false
      go true e = let z = tag_one x (low_codes x e) q in lt-leb 2 (info_for (table_of c l) l x).tag (omega arith)
      go false e = refl

  tag_is : (x : ℕ) → iterate (λ h c'. cond (exists_in (table_of c l 1) l c' && leb 2 (info_for (table_of c l) l c').tag) (at h c' (info_for (table_of c l) l c').tag) h) (tags_to steps (table_of c l 7) m starts (λ c. 0) l.nl) 256 x ≡ listed_tag (table_of c l) l m x
  unfolding listed_tag listed_here tags_to
  tag_is x =
      at_loop (λ c'. exists_in (table_of c l 1) l c' && leb 2 (info_for (table_of c l) l c').tag) (λ c'. (info_for (table_of c l) l c').tag) _ 256 x
      ∙ rw (drop_low x (leb 2 (info_for (table_of c l) l x).tag), labels_all steps (table_of c l 7) m starts (λ i. 1) (λ c. 0) l.nl x, start_is (λ i. 1) x) (go (label_listed (table_of c l) l m x) refl)
    where
      go : (a : Bool) → label_listed (table_of c l) l m x ≡ a → cond (exists_in (table_of c l 1) l x && leb 2 (info_for (table_of c l) l x).tag) (info_for (table_of c l) l x).tag (cond a 1 0) ≡ cond a 1 (cond (exists_in (table_of c l 1) l x && leb 2 (info_for (table_of c l) l x).tag) (info_for (table_of c l) l x).tag 0)
      go true q = rw (start_tag x q)
      go false q = refl

  tag_low : (x : ℕ) → (info_for (table_of c l) l x).tag < 4
  unfolding info_of
  tag_low x = mod-lt (byte_of (table_of c l 1) (x - l.bc) 2) (omega arith)

  -- the recipes, and how many there are before one
  abbrev recipe_word : ℕ → ℕ
  recipe_word x = word_stated (table_of c l 1) (table_of c l 8) l x (info_for (table_of c l) l x).remainder

  abbrev recipes_to : ℕ → List ℕ
  recipes_to n = iterate (λ ws c'. cond (exists_in (table_of c l 1) l c' && eqb (info_for (table_of c l) l c').tag 3) (ws ++ (recipe_word c' ∷ [])) ws) [] n

  recipes_picked : (n : ℕ) → recipes_to n ≡ picked (has_recipe (table_of c l) l) recipe_word n
  unfolding has_recipe listed_here
  recipes_picked n = grow_loop (λ x. exists_in (table_of c l 1) l x && eqb (info_for (table_of c l) l x).tag 3) (λ x. exists_in (table_of c l 1) l x && eqb (info_for (table_of c l) l x).tag 3) recipe_word n (λ i h. refl)

  recipes_are : recipes_to 256 ≡ picked (has_recipe (table_of c l) l) (λ x. word_of (table_of c l 8) (info_for (table_of c l) l x).remainder) 256
  recipes_are = recipes_picked 256 ∙ picked_alike (has_recipe (table_of c l) l) (has_recipe (table_of c l) l) recipe_word (λ x. word_of (table_of c l 8) (info_for (table_of c l) l x).remainder) 256 (λ i. refl) y.whole

  remainder_is : (x : ℕ)
      → iterate (λ h c'. cond (exists_in (table_of c l 1) l c' && leb 2 (info_for (table_of c l) l c').tag) (at h c' (cond (eqb (info_for (table_of c l) l c').tag 3) (length (recipes_to c')) (info_for (table_of c l) l c').remainder)) h)
      (places_to steps (table_of c l 7) m starts (λ c. 0) l.nl) 256 x
      ≡ listed_remainder (table_of c l) l m x
  unfolding listed_remainder has_recipe listed_here places_to
  remainder_is x =
      at_loop (λ c'. exists_in (table_of c l 1) l c' && leb 2 (info_for (table_of c l) l c').tag) (λ c'. cond (eqb (info_for (table_of c l) l c').tag 3) (length (recipes_to c')) (info_for (table_of c l) l c').remainder) _ 256 x
      ∙ rw (drop_low x (leb 2 (info_for (table_of c l) l x).tag), labels_all steps (table_of c l 7) m starts (λ i. length (steps_to steps (table_of c l 7) m starts i)) (λ c. 0) l.nl x, start_is (λ i. length (steps_to steps (table_of c l 7) m starts i)) x)
      (go (label_listed (table_of c l) l m x) refl)
    where
      counts : length (recipes_to x) ≡ rank (has_recipe (table_of c l) l) x
      counts = ap length (recipes_picked x) ∙ length_picked (has_recipe (table_of c l) l) recipe_word x

      by_tag : (e : Bool) (t r k : ℕ) → t < 4 → cond (e && leb 2 t) (cond (eqb t 3) k r) 0 ≡ cond (e && eqb t 3) k (cond (e && eqb t 2) r 0)
      by_tag false t r k h = refl
      by_tag true zero r k h = refl
      by_tag true (suc zero) r k h = refl
      by_tag true (suc (suc zero)) r k h = refl
      by_tag true (suc (suc (suc zero))) r k h = refl
      by_tag true (suc (suc (suc (suc t)))) r k h = absurd (omega arith)

      go : (a : Bool) → label_listed (table_of c l) l m x ≡ a
          → cond (exists_in (table_of c l 1) l x && leb 2 (info_for (table_of c l) l x).tag) (cond (eqb (info_for (table_of c l) l x).tag 3) (length (recipes_to x)) (info_for (table_of c l) l x).remainder) (cond a (length (steps_to steps (table_of c l 7) m starts (start_for (table_of c l) l x))) 0)
          ≡ cond a (rank (live l m) (start_for (table_of c l) l x))
          (cond (exists_in (table_of c l 1) l x && eqb (info_for (table_of c l) l x).tag 3) (rank (has_recipe (table_of c l) l) x) (cond (exists_in (table_of c l 1) l x && eqb (info_for (table_of c l) l x).tag 2) (info_for (table_of c l) l x).remainder 0))
      go true q = rw (start_tag x q) (length_steps (start_for (table_of c l) l x) (omega (arith, label_starts x q)))
      go false q = rw counts (by_tag (exists_in (table_of c l 1) l x) (info_for (table_of c l) l x).tag (info_for (table_of c l) l x).remainder (rank (has_recipe (table_of c l) l) x) (tag_low x))

  -- the font that is told
  abbrev opened : Font
  opened =
      edged (measured (headed blank (word_of (table_of c l 0) 0) true (design_stated (table_of c l 0))
      (cond (leb 12 l.lh) (past (spelled (table_of c l 0) 0)) unspecified) (cond (leb 17 l.lh) (past (spelled (table_of c l 0) 1)) unspecified)
      (cond (leb 18 l.lh) (byte_of (table_of c l 0) 17 3) 0) (tabulate (λ i. word_of (table_of c l 0) (i + 18)) (l.lh - 18)))
      (tabulate (word_of (table_of c l 9)) l.np))
      (cond (eqb (byte_of steps 0 0) 255) (byte_of steps 0 1) 256)

  abbrev stepped : Font
  stepped = programmed opened (tags_to steps (table_of c l 7) m starts (λ c. 0) l.nl) (places_to steps (table_of c l 7) m starts (λ c. 0) l.nl) (steps_to steps (table_of c l 7) m starts l.nl) (words_to steps (table_of c l 7) m starts 0 l.nl)

  abbrev finished : Font
  finished = picture (table_of c l 1) (table_of c l 2) (table_of c l 3) (table_of c l 4) (table_of c l 5) (table_of c l 8) l stepped 256

  armed : Bool
  armed = cond (eqb l.nl 0) false (armed_to steps (table_of c l 7) m starts false l.nl)

  all_told : tells told (draft blank false) (stated c l m) ≡ draft finished armed
  unfolding stated characters_stated headed measured edged programmed blank armed
  all_told =
      and_then told (draft blank false) _ (characters_stated c l)
      (and_then told (draft blank false) _ (program_stated steps (table_of c l 7) m starts l.nl)
      (and_then told (draft blank false) _ (boundary_stated steps)
      (and_then told (draft blank false) (header_stated (table_of c l 0) l) (parameters_stated (table_of c l 9) l.np)
      (header_told (table_of c l 0) l y.first_short y.second_short)
      (parameters_told _ false (table_of c l 9) l.np refl))
      (boundary_told _ false steps))
      (program_told steps (table_of c l 7) m starts opened false l.nl refl y.plain))
      (characters_told (table_of c l 1) (table_of c l 2) (table_of c l 3) (table_of c l 4) (table_of c l 5) (table_of c l 8) l stepped armed 256 tag_low)

  live_here : (i : ℕ) → i < l.nl → get_or m i 0 ≡ 2 → live l m i ≡ true
  unfolding live
  live_here i h q = rw (lt-ltb i l.nl h, eq-eqb (get_or m i 0) 2 q)

  -- labels and skips ask for no more words than there are steps
  words_fit : max (words_to steps (table_of c l 7) m starts 0 l.nl) (length (steps_to steps (table_of c l 7) m starts l.nl)) ≡ rank (live l m) l.nl
  words_fit =
      let h = words_most steps (table_of c l 7) m starts (rank (live l m) l.nl) l.nl
      (λ i h q. omega (arith, length_steps i (omega arith), rank_below (live l m) i l.nl (live_here i h q) h))
      (λ i h q b. omega (arith, length_steps i (omega arith), y.skips i h q b)) in
      omega (arith, length_steps l.nl (omega arith))

  finished_is : worded finished ≡ listed_plain (table_of c l) l m
  unfolding worded listed_plain boundary_char headed measured edged programmed widened heightened deepened slanted tagged blank design_stated listed_height listed_depth listed_italic listed_here length_at
  finished_is =
      same_font (worded finished) (listed_plain (table_of c l) l m) (rw y.design) refl
      (same_characters _ _ present_is width_is
      (length_is (table_of c l 3) (λ x. (info_for (table_of c l) l x).height)) (length_is (table_of c l 4) (λ x. (info_for (table_of c l) l x).depth)) (length_is (table_of c l 5) (λ x. (info_for (table_of c l) l x).italic))
      widths_are (lengths_are (table_of c l 3) (λ x. (info_for (table_of c l) l x).height)) (lengths_are (table_of c l 4) (λ x. (info_for (table_of c l) l x).depth)) (lengths_are (table_of c l 5) (λ x. (info_for (table_of c l) l x).italic)))
      (same_program _ _ refl tag_is remainder_is recipes_are (steps_are l.nl (omega arith)) words_fit)
      refl

  -- what a listing states makes the font that is listed
  pub listed_told : flagged (worded (tells told (draft blank false) (stated c l m)).font) ≡ listed c l m
  listed_told = ap (λ (D : Draft). flagged (worded D.font)) all_told ∙ ap flagged finished_is
