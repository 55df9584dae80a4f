-- The numbers of a listed font fit, so that the file read back is made of bytes.
use Prim.Native.Nat.{ℕ, ◌+◌, ◌-◌, ◌/◌, ◌<◌}
use native.Mathlib.Decide.{dec_lt}
use native.Mathlib.Omega.{arith}
use mathlib.Core.Path.{◌≡◌, refl, sym, subst}
use mathlib.Core.Bool.{Bool, true, false, cond, ◌&&◌, not, and-eq-true_iff}
use mathlib.Core.List.{List}
use lib.Dec.{leb, ltb, eqb}
use lib.ListN.{length, get_or, get_or-eq_default}
use Rattle.lent.specs.Fold.{tabulate}
use Rattle.lent.proofs.Lists.{length_tabulate, get_or_tabulate}
use Rattle.tfm.specs.Sizes.{number_of}
use Rattle.tfm.specs.Subfiles.{table_of}
use Rattle.tfm.specs.Characters.{byte_of, info_of}
use Rattle.tfm.specs.Lengths.{word_of}
use Rattle.tfm.specs.declared.Layout.{Layout}
use Rattle.program.specs.Steps.{address_of}
use Rattle.mend.specs.Findings.{any_mend}
use Rattle.font.specs.Font.{Font, Instruction}
use Rattle.building.specs.Pick.{rank, picked}
use Rattle.font.specs.Checked.{no_step, step_at}
use Rattle.building.specs.Written.{written, too_much}
use Rattle.building.proofs.Places.{In, at_index, From, from, out_picked}
use Rattle.building.proofs.Accepts.{Fits, fits}
use Rattle.building.proofs.Bytes.{Bytes, Word, Narrow, rank_most, written_bytes}
use Rattle.clean.specs.Met.{NoneOver, marks_in}
use Rattle.font.specs.Read.{flagged}
use Rattle.stated.specs.Stated.{width_stated}
use Rattle.stated.specs.Listed.{label_listed, listed_length, live, listed_step, listed_here, info_for, listed_width, listed_height, listed_depth, listed_italic, counted, start_for, has_recipe, listed_tag, listed_remainder, listed_plain, listed_of}
use Rattle.stated.proofs.Live.{Clear, clear}
use Rattle.promise.proofs.Listing.{At, at, unrank, here_small, steps_length, step_at_lem, whole, runs}
use Rattle.promise.proofs.Tags.{table_small}
use Rattle.promise.proofs.More.{boundary_most}
use Rattle.clean.proofs.Absent.{no_2, no_3, no_4}
use Rattle.promise.proofs.AnewWords.{scheme_fine, scheme_small, family_fine, family_small}

module _ (f : List ℕ) (l : Layout) (bytes : Bytes f) where
  abbrev F : Font
  F = listed_of f l

  -- words of tables have 32 bits
  word_of_lem : (k i : ℕ) → Word (word_of (table_of f l k) i)
  unfolding word_of
  word_of_lem k i = omega (arith, table_small f l k i 0 bytes, table_small f l k i 1 bytes, table_small f l k i 2 bytes, table_small f l k i 3 bytes)

  tabulated : (g : ℕ → ℕ) (n i : ℕ) → ((j : ℕ) → Word (g j)) → Word (get_or (tabulate g n) i 0)
  tabulated g n i h = elim (dec_lt i n) [
    | yes p ↦ omega (arith, get_or_tabulate g n i p, h i)
    | no p ↦ let m = length_tabulate g n in omega (arith, get_or-eq_default {A = ℕ} (tabulate g n) 0 {n = i} (omega arith))
  ]

  cond_word : (b : Bool) (w : ℕ) → Word w → Word (cond b w 0)
  cond_word true w h = h
  cond_word false w h = omega arith

  in_word : (p : ℕ → Bool) (g : ℕ → ℕ) → ((x : ℕ) → Word (g x)) → (u : ℕ) → In u (picked p g 256) → Word u
  in_word p g h u i = go (out_picked p g 256 u i)
    where
      go : {v : ℕ} → From p g 256 v → Word v
      go (from x n q) = h x

  width_word : (x : ℕ) → Word (listed_width (table_of f l) l x)
  unfolding listed_width width_stated
  width_word x =
      cond_word (listed_here (table_of f l) l x) _
      (cond_word (ltb (info_for (table_of f l) l x).width (length (table_of f l 2) / 4)) _ (word_of_lem 2 (info_for (table_of f l) l x).width))

  length_word : (k : ℕ) (b : Bool) (i : ℕ) → Word (cond b (listed_length (table_of f l k) i) 0)
  unfolding listed_length
  length_word k b i = cond_word b _ (cond_word (not (eqb i 0) && ltb i (length (table_of f l k) / 4)) _ (word_of_lem k i))

  height_word : (x : ℕ) → Word (listed_height (table_of f l) l x)
  unfolding listed_height
  height_word x = length_word 3 (listed_here (table_of f l) l x) (info_for (table_of f l) l x).height

  depth_word : (x : ℕ) → Word (listed_depth (table_of f l) l x)
  unfolding listed_depth
  depth_word x = length_word 4 (listed_here (table_of f l) l x) (info_for (table_of f l) l x).depth

  italic_word : (x : ℕ) → Word (listed_italic (table_of f l) l x)
  unfolding listed_italic
  italic_word x = length_word 5 (listed_here (table_of f l) l x) (info_for (table_of f l) l x).italic

  recipe_word_lem : (n : ℕ) → Word (get_or F.program.recipes n 0)
  unfolding listed_of flagged listed_plain
  recipe_word_lem n = elim (dec_lt n (length F.program.recipes)) [
    | yes p ↦ in_word (has_recipe (table_of f l) l) (λ code. word_of (table_of f l 8) (info_for (table_of f l) l code).remainder) (λ x. word_of_lem 8 (info_for (table_of f l) l x).remainder) _ (at_index F.program.recipes n 0 p)
    | no p ↦ omega (arith, get_or-eq_default {A = ℕ} F.program.recipes 0 {n = n} (omega arith))
  ]

  face_byte : F.header.face < 256
  unfolding listed_of flagged listed_plain
  face_byte = go (leb 18 l.lh)
    where
      go : (b : Bool) → cond b (byte_of (table_of f l 0) 17 3) 0 < 256
      go true = table_small f l 0 17 3 bytes
      go false = omega arith

  -- the words of the header, the parameters and the lengths
  words : Word F.header.check_sum × Word F.header.design_size × ((n : ℕ) → Word (get_or F.header.further n 0)) × ((n : ℕ) → Word (get_or F.parameters n 0))
      × ((u : ℕ) → In u F.characters.widths → Word u) × ((u : ℕ) → In u F.characters.heights → Word u) × ((u : ℕ) → In u F.characters.depths → Word u) × ((u : ℕ) → In u F.characters.italics → Word u)
  unfolding listed_of flagged listed_plain
  words = (
    word_of_lem 0 0,
    word_of_lem 0 1,
    (λ n. tabulated _ (l.lh - 18) n (λ j. word_of_lem 0 (j + 18))),
    (λ n. tabulated _ l.np n (λ j. word_of_lem 9 j)),
    in_word (listed_here (table_of f l) l) (listed_width (table_of f l) l) width_word,
    in_word (counted (table_of f l) l (listed_height (table_of f l) l)) (listed_height (table_of f l) l) height_word,
    in_word (counted (table_of f l) l (listed_depth (table_of f l) l)) (listed_depth (table_of f l) l) depth_word,
    in_word (counted (table_of f l) l (listed_italic (table_of f l) l)) (listed_italic (table_of f l) l) italic_word,
  )

  module _ (c : Clear f l) where
    recipe_small : (x : ℕ) → has_recipe (table_of f l) l x ≡ true → x < 256
    unfolding has_recipe
    recipe_small x e = here_small f l c x ((and-eq-true_iff (listed_here (table_of f l) l x) _).0 e).0

    -- a remainder that is no label
    remainder_byte : (x : ℕ) → (F.program.tag x ≡ 1 → ⊥) → F.program.remainder x < 256
    unfolding listed_of flagged listed_plain listed_tag listed_remainder info_of
    remainder_byte x n = go (label_listed (table_of f l) l (marks_in f l) x) n (has_recipe (table_of f l) l x) refl (listed_here (table_of f l) l x && eqb (info_for (table_of f l) l x).tag 2)
      where
        go : (a : Bool) → (cond a 1 (cond (listed_here (table_of f l) l x && leb 2 (info_for (table_of f l) l x).tag) (info_for (table_of f l) l x).tag 0) ≡ 1 → ⊥)
            → (b : Bool) → has_recipe (table_of f l) l x ≡ b → (d : Bool)
            → cond a (rank (live l (marks_in f l)) (start_for (table_of f l) l x)) (cond b (rank (has_recipe (table_of f l) l) x) (cond d (info_for (table_of f l) l x).remainder 0)) < 256
        go true q b e d = absurd (q refl)
        go false q true e d = omega (arith, rank_most (has_recipe (table_of f l) l) x, recipe_small x e)
        go false q false e true = table_small f l 1 (x - l.bc) 3 bytes
        go false q false e false = omega arith

    -- the steps
    step_of_lem : (Q : Instruction → Type 0) → Q no_step → ((i : ℕ) → Q (listed_step (table_of f l 6) (table_of f l 7) (marks_in f l) i)) → (n : ℕ) → Q (get_or F.program.steps n no_step)
    unfolding step_at
    step_of_lem Q z h n = elim (dec_lt n (length F.program.steps)) [
      | yes p ↦ go (unrank (live l (marks_in f l)) l.nl n (omega (arith, steps_length f l c)))
      | no p ↦ subst Q (sym (get_or-eq_default {A = Instruction} F.program.steps no_step {n = n} (omega arith))) z
    ]
      where
        go : {r : ℕ} → At (live l (marks_in f l)) l.nl r → Q (get_or F.program.steps r no_step)
        go (at i q v) = subst Q (sym (step_at_lem f l c i v)) (h i)

    right_byte : (i : ℕ) → (listed_step (table_of f l 6) (table_of f l 7) (marks_in f l) i).right < 256
    unfolding listed_step
    right_byte i = table_small f l 6 i 1 bytes

    value_word : (i : ℕ) → Word (listed_step (table_of f l 6) (table_of f l 7) (marks_in f l) i).value
    unfolding listed_step
    value_word i = go (leb 128 (byte_of (table_of f l 6) i 2))
      where
        go : (b : Bool) → Word (cond b (word_of (table_of f l 7) (address_of (table_of f l 6) i - 32768)) (byte_of (table_of f l 6) i 3))
        go true = word_of_lem 7 (address_of (table_of f l 6) i - 32768)
        go false = omega (arith, table_small f l 6 i 3 bytes)

    value_byte : (i : ℕ) → (listed_step (table_of f l 6) (table_of f l 7) (marks_in f l) i).op < 128 → (listed_step (table_of f l 6) (table_of f l 7) (marks_in f l) i).value < 256
    unfolding listed_step
    value_byte i = go (leb 128 (byte_of (table_of f l 6) i 2))
      where
        go : (b : Bool) → cond b 128 (byte_of (table_of f l 6) i 2) < 128 → cond b (word_of (table_of f l 7) (address_of (table_of f l 6) i - 32768)) (byte_of (table_of f l 6) i 3) < 256
        go true h = absurd (omega arith)
        go false h = table_small f l 6 i 3 bytes

    module _ (t : Fits (listed_of f l)) (clean : any_mend f l ≡ false) where
      narrow : Narrow F
      narrow = record {
        check_sum = words.0;
        design_size = words.1;
        scheme = scheme_small f l (no_2 f l clean) (no_3 f l clean) (no_4 f l clean);
        schemes = omega (arith, (scheme_fine f l (no_2 f l clean) (no_3 f l clean) (no_4 f l clean)).1);
        family = family_small f l (no_2 f l clean) (no_3 f l clean) (no_4 f l clean);
        families = omega (arith, (family_fine f l (no_2 f l clean) (no_3 f l clean) (no_4 f l clean)).1);
        face = face_byte;
        further = words.2;
        parameters = words.3;
        boundary = boundary_most f l c t bytes;
        widths = words.4;
        heights = words.5;
        depths = words.6;
        italics = words.7;
        remainder = remainder_byte;
        recipes = recipe_word_lem;
        rights = step_of_lem (λ s. s.right < 256) (omega arith) right_byte;
        inserts = step_of_lem (λ s. s.op < 128 → s.value < 256) (λ h. omega arith) value_byte;
        kerned = step_of_lem (λ s. Word s.value) (omega arith) value_word;
      }

-- THE FILE READ BACK IS MADE OF BYTES
pub bytes_back : (f : List ℕ) (l : Layout) (later : ℕ) → number_of f l later ≡ 0 → any_mend f l ≡ false → NoneOver (table_of f l 1) (table_of f l 6) l
    → Bytes f → too_much (listed_of f l) ≡ false → Bytes (written (listed_of f l))
bytes_back f l later e clean over bytes much =
    let c = clear f l later e clean over in
    let t = fits (listed_of f l) much in
    written_bytes (listed_of f l) t (whole f l c) (runs f l c) (narrow f l bytes c t clean)
