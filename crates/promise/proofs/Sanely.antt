-- In the font that the listing of a clean file states PLtoTF finds nothing to repair.
use Prim.Native.Nat.{ℕ, ◌<◌}
use native.Mathlib.Decide.{ℕ_discrete, dec_lt}
use native.Mathlib.Omega.{arith}
use mathlib.Core.Path.{◌≡◌, refl, sym, ap, ◌∙◌, subst}
use mathlib.Core.Bool.{Bool, true, false, cond, ◌&&◌, ◌||◌, not, true≢false, or-true, and-false}
use mathlib.Core.List.{List}
use lib.Dec.{leb, eqb}
use lib.ListN.{length, get_or}
use borrow.Author.Tests.{le-leb, eq-eqb, ne_eqb, eqb-true, leb-false}
use Rattle.stated.proofs.FontBack.{recipe_number}
use Rattle.lent.proofs.Bools.{not_false}
use Rattle.tfm.specs.Subfiles.{table_of}
use Rattle.tfm.specs.Characters.{byte_of, exists_in}
use Rattle.tfm.specs.Lengths.{word_of}
use Rattle.tfm.specs.declared.Layout.{Layout}
use Rattle.program.specs.Steps.{boundary_char}
use Rattle.faults.specs.Cycle.{reaches}
use Rattle.faults.specs.Steps.{step_for_missing, is_step, looked}
use Rattle.faults.specs.Characters.{piece_missing, link_missing, links, larger, ends_cycle}
use Rattle.mend.specs.Findings.{any_mend}
use Rattle.font.specs.Font.{Font, Instruction}
use Rattle.font.specs.Checked.{word_byte, step_at}
use Rattle.font.specs.Read.{flagged}
use Rattle.building.specs.Pick.{rank}
use Rattle.building.specs.Repaired.{stays, step_stays, recipe_stays, closes_cycle, repaired}
use Rattle.building.specs.Sane.{Sane}
use Rattle.building.proofs.Repairs.{nothing_repaired}
use Rattle.clean.specs.Met.{marks_in}
use Rattle.clean.proofs.Absent.{no_14, no_19, no_21, no_22}
use Rattle.stated.specs.Listed.{live, listed_here, info_for, label_listed, has_recipe, listed_tag, listed_plain, listed_of}
use Rattle.stated.proofs.Live.{Clear, live_below, live_marked, live_small, inserted}
use Rattle.promise.proofs.Listing.{At, at, unrank, steps_length, right_is, value_is, kern_is, runs}
use Rattle.promise.proofs.Tags.{table_small, word_byte_is, in_range_lem, tag_listed, link_listed, number_listed, number_below, recipe_word_lem, present_is, recipe_of, recipes_length}
use Rattle.promise.proofs.AnewCodes.{reaches_same}

module _ (f : List ℕ) (l : Layout) (c : Clear f l) (clean : any_mend f l ≡ false) (bytes : (n : ℕ) → get_or f n 0 < 256) where
  abbrev F : Font
  F = listed_of f l

  abbrev p : ℕ → Bool
  p = live l (marks_in f l)

  boundary_is : F.program.boundary ≡ boundary_char (table_of f l 6)
  unfolding listed_of flagged listed_plain
  boundary_is = refl

  -- only a character has a link or a recipe
  tag_here : (x : ℕ) → 1 < F.program.tag x → exists_in (table_of f l 1) l x ≡ true
  unfolding listed_of flagged listed_plain listed_tag listed_here
  tag_here x h = go (label_listed (table_of f l) l (marks_in f l) x) (exists_in (table_of f l 1) l x) (leb 2 (info_for (table_of f l) l x).tag) h
    where
      go : (a b d : Bool) → 1 < cond a 1 (cond (b && d) (info_for (table_of f l) l x).tag 0) → b ≡ true
      go true b d q = absurd (omega arith)
      go false true d q = refl
      go false false d q = absurd (omega arith)

  link_there : (x : ℕ) → exists_in (table_of f l 1) l x ≡ true → (info_for (table_of f l) l x).tag ≡ 2 → exists_in (table_of f l 1) l (info_for (table_of f l) l x).remainder ≡ true
  unfolding link_missing
  link_there x e q =
      let h = in_range_lem f l c x e in
      not_false _ (sym (rw (e, eq-eqb (info_for (table_of f l) l x).tag 2 q)) ∙ no_21 f l clean x h.0 h.1)

  -- the steps are the file's
  step_of_lem : (Q : Instruction → Type 0) → ((j : ℕ) → p j ≡ true → Q (step_at F (rank p j))) → (k : ℕ) → k < length F.program.steps → Q (step_at F k)
  step_of_lem Q h k b = go (unrank p l.nl k (omega (arith, steps_length f l c)))
    where
      go : {r : ℕ} → At p l.nl r → Q (step_at F r)
      go (at j a v) = h j v

  right_stays : (j : ℕ) → p j ≡ true → stays F (step_at F (rank p j)).right ≡ true
  unfolding stays step_for_missing is_step looked
  right_stays j v =
      let old : not (exists_in (table_of f l 1) l (byte_of (table_of f l 6) j 1)) && not (eqb (byte_of (table_of f l 6) j 1) (boundary_char (table_of f l 6))) ≡ false
      = sym (rw (live_marked f l c j v, le-leb (byte_of (table_of f l 6) j 0) 128 (live_small f l c j v))) ∙ no_14 f l clean j (live_below f l c j v) in
      rw (right_is f l c j v, present_is f l c, boundary_is) (go (exists_in (table_of f l 1) l (byte_of (table_of f l 6) j 1)) (eqb (byte_of (table_of f l 6) j 1) (boundary_char (table_of f l 6))) old)
    where
      go : (a b : Bool) → not a && not b ≡ false → (a || b) ≡ true
      go true b q = refl
      go false true q = refl
      go false false q = absurd (true≢false q)

  insert_there : (j : ℕ) → p j ≡ true → (step_at F (rank p j)).op < 128 → F.characters.present (step_at F (rank p j)).value ≡ true
  insert_there j v o = elim (dec_lt (byte_of (table_of f l 6) j 2) 128) [
    | yes h ↦ ap F.characters.present (value_is f l c j v h) ∙ present_is f l c _ ∙ inserted f l c j v h
    | no h ↦ absurd (omega (arith, kern_is f l c j v (omega arith)))
  ]

  step_stays_lem : (j : ℕ) → p j ≡ true → step_stays F (step_at F (rank p j)) ≡ true
  unfolding step_stays stays
  step_stays_lem j v = rw (right_stays j v) (go (leb 128 (step_at F (rank p j)).op) refl)
    where
      go : (b : Bool) → leb 128 (step_at F (rank p j)).op ≡ b
          → (b || (F.characters.present (step_at F (rank p j)).value || eqb (step_at F (rank p j)).value F.program.boundary)) ≡ true
      go true q = refl
      go false q = rw (insert_there j v (leb-false 128 (step_at F (rank p j)).op q))

  -- the pieces of a recipe
  piece_there : (r n : ℕ) → r < l.ne → n < 4 → (not (eqb (byte_of (table_of f l 8) r n) 0) || eqb n 3) && not (exists_in (table_of f l 1) l (byte_of (table_of f l 8) r n)) ≡ false
  unfolding piece_missing
  piece_there r n h q = no_19 f l clean r n h q

  word_stays : (r : ℕ) → r < l.ne → recipe_stays F (word_of (table_of f l 8) r) ≡ true
  unfolding recipe_stays
  word_stays r h =
      rw (byte_is 0 (omega arith), byte_is 1 (omega arith), byte_is 2 (omega arith), byte_is 3 (omega arith), piece 0 (piece_there r 0 h (omega arith)), piece 1 (piece_there r 1 h (omega arith)), piece 2 (piece_there r 2 h (omega arith)))
      (repeater (piece_there r 3 h (omega arith)))
    where
      byte_is : (n : ℕ) → n < 4 → word_byte (word_of (table_of f l 8) r) n ≡ byte_of (table_of f l 8) r n
      byte_is n q = word_byte_is (table_of f l 8) r n (λ m. table_small f l 8 r m bytes) q

      go : (a b : Bool) → (not a || false) && not b ≡ false → (a || b) ≡ true
      go true b q = refl
      go false true q = refl
      go false false q = absurd (true≢false q)

      piece : (n : ℕ) → (not (eqb (byte_of (table_of f l 8) r n) 0) || false) && not (exists_in (table_of f l 1) l (byte_of (table_of f l 8) r n)) ≡ false
          → (eqb (byte_of (table_of f l 8) r n) 0 || F.characters.present (byte_of (table_of f l 8) r n)) ≡ true
      piece n q = rw (present_is f l c (byte_of (table_of f l 8) r n)) (go (eqb (byte_of (table_of f l 8) r n) 0) (exists_in (table_of f l 1) l (byte_of (table_of f l 8) r n)) q)

      repeater : (not (eqb (byte_of (table_of f l 8) r 3) 0) || true) && not (exists_in (table_of f l 1) l (byte_of (table_of f l 8) r 3)) ≡ false → F.characters.present (byte_of (table_of f l 8) r 3) ≡ true
      repeater q = present_is f l c _ ∙ not_false _ (sym (rw (or-true (not (eqb (byte_of (table_of f l 8) r 3) 0)))) ∙ q)

  recipe_stays_lem : (r : ℕ) → r < length F.program.recipes → recipe_stays F (get_or F.program.recipes r 0) ≡ true
  recipe_stays_lem r h = go (unrank (has_recipe (table_of f l) l) 256 r (omega (arith, recipes_length f l c)))
    where
      go : {i : ℕ} → At (has_recipe (table_of f l) l) 256 i → recipe_stays F (get_or F.program.recipes i 0) ≡ true
      go (at x b v) = let q = recipe_of f l c x v in
          subst (λ (w : ℕ). recipe_stays F w ≡ true) (sym (recipe_word_lem f l c x q.0 q.1)) (word_stays (info_for (table_of f l) l x).remainder (recipe_number f l clean x v))

  -- no cycle of links
  same_links : (x : ℕ) → eqb (F.program.tag x) 2 ≡ links (table_of f l 1) l x
  unfolding links
  same_links x = go (exists_in (table_of f l 1) l x) refl (ℕ_discrete (info_for (table_of f l) l x).tag 2)
    where
      go : (b : Bool) → exists_in (table_of f l 1) l x ≡ b → Dec ((info_for (table_of f l) l x).tag ≡ 2)
          → eqb (F.program.tag x) 2 ≡ (exists_in (table_of f l 1) l x && eqb (info_for (table_of f l) l x).tag 2 && exists_in (table_of f l 1) l (info_for (table_of f l) l x).remainder)
      go true e (yes q) = rw (tag_listed f l c x e, eq-eqb (info_for (table_of f l) l x).tag 2 q, e, link_there x e q)
      go true e (no q) = rw (tag_listed f l c x e, ne_eqb (info_for (table_of f l) l x).tag 2 q, and-false (exists_in (table_of f l 1) l x))
      go false e d = rw e (ne_eqb (F.program.tag x) 2 (λ q. true≢false (sym (tag_here x (omega arith)) ∙ e)))

  same_larger : (x : ℕ) → links (table_of f l 1) l x ≡ true → F.program.remainder x ≡ larger (table_of f l 1) l x
  unfolding larger
  same_larger x e =
      let t = eqb-true (F.program.tag x) 2 (same_links x ∙ e) in
      let h = tag_here x (omega arith) in
      link_listed f l c x h (sym (tag_listed f l c x h) ∙ t)

  no_cycle : (x : ℕ) → closes_cycle F x ≡ false
  unfolding closes_cycle ends_cycle
  no_cycle x = rw (same_links x) (go (links (table_of f l 1) l x) refl)
    where
      go : (b : Bool) → links (table_of f l 1) l x ≡ b → b && reaches (λ g. eqb (F.program.tag g) 2) F.program.remainder x 256 (F.program.remainder x) ≡ false
      go true e =
          let h = in_range_lem f l c x (tag_here x (omega (arith, eqb-true (F.program.tag x) 2 (same_links x ∙ e)))) in
          rw (same_larger x e) (reaches_same (links (table_of f l 1) l) (λ g. eqb (F.program.tag g) 2) (larger (table_of f l 1) l) F.program.remainder same_links same_larger x 256 (larger (table_of f l 1) l x)
          ∙ sym (rw e) ∙ no_22 f l clean x h.0 h.1)
      go false e = refl

  sane : Sane F
  sane = record {
    labels = (runs f l c).labels;
    leads = (runs f l c).leads;
    steps = step_of_lem (λ i. step_stays F i ≡ true) step_stays_lem;
    inserts = step_of_lem (λ i. i.op < 128 → F.characters.present i.value ≡ true) insert_there;
    recipes = recipe_stays_lem;
    numbers = λ x h q. let e = tag_here x (omega arith) in let t = sym (tag_listed f l c x e) ∙ q in omega (arith, number_listed f l c x e t, number_below f l c x e t);
    links = λ x h q. let e = tag_here x (omega arith) in let t = sym (tag_listed f l c x e) ∙ q in ap F.characters.present (link_listed f l c x e t) ∙ present_is f l c _ ∙ link_there x e t;
    acyclic = λ x h. no_cycle x;
  }

  pub unrepaired : repaired (listed_of f l) ≡ listed_of f l
  unrepaired = nothing_repaired F sane
