-- The marks of a file that is built: accessible are the steps of the font, those that its labels reach, and no other words.
use Prim.Native.Nat.{ℕ, ◌+◌, ◌-◌, ◌≤◌, ◌<◌}
use native.Mathlib.Decide.{ℕ_discrete, dec_le, dec_lt}
use native.Mathlib.Omega.{arith}
use mathlib.Core.Path.{◌≡◌, sym, ap, ◌∙◌, subst}
use mathlib.Core.Bool.{true, false, ◌&&◌, and-eq-true_iff, and-false}
use mathlib.Core.Logic.{◌⊎◌, ⊎_elim}
use mathlib.Core.List.{List}
use lib.Dec.{leb, ltb, eqb}
use lib.ListN.{length, get_or, length-replicate}
use borrow.Author.Tests.{lt-ltb, le-ltb, eq-eqb, ne_eqb, eqb-true, leb-true}
use Rattle.program.proofs.Starts.{program_outside, no_left}
use Rattle.tfm.specs.Subfiles.{table_of}
use Rattle.tfm.specs.Sizes.{chars}
use Rattle.tfm.specs.Characters.{byte_of, info_of}
use Rattle.tfm.specs.declared.Layout.{Layout}
use Rattle.program.specs.Steps.{has_boundary, boundary_start, next_of, program_of}
use Rattle.program.specs.Marks.{store_if, mark_last, mark_info, mark_step, marks_from, marks_of}
use Rattle.font.specs.Font.{Font}
use Rattle.building.specs.Pick.{rank}
use Rattle.building.specs.Values.{greater}
use Rattle.font.specs.Checked.{has_left, program_words, step_at}
use Rattle.building.specs.Written.{first_code, last_code, in_file, starts, edge, moved, front, front_byte, sizes_for, written}
use Rattle.building.proofs.Places.{at_index, out_distinct, From, from, out_picked, moved_most}
use Rattle.building.proofs.Accepts.{Fits, last_byte}
use Rattle.building.proofs.Chars.{Whole, tag_back}
use Rattle.building.proofs.Runs.{Runs, words_are, nl_is, front_word, skip_back, program_back, no_program_back, left_back, last_small}
use Rattle.building.proofs.Kerns.{no_words}
use Rattle.clean.specs.Met.{Met, start, onward, NoneOver, marks_in}
use Rattle.stated.specs.Listed.{live}
use Rattle.clean.proofs.Marks.{if_length, if_set, turns, first_length, sound, starts_marked, goes_marked}
use Rattle.promise.proofs.AgainLists.{rank_run, rank_after}

-- a step that a label reaches
pub data Reached (F : Font) : ℕ → Type 0 where
  label : (c : ℕ) → c ≤ 256 → F.program.tag c ≡ 1 → Reached F (F.program.remainder c)
  after : {j : ℕ} → Reached F j → (step_at F j).skip < 128 → Reached F (j + 1 + (step_at F j).skip)

module _ (F : Font) (r : Runs F) where
  -- without a step there is no label, and no word at the front for one
  no_starts : length F.program.steps ≡ 0 → length (starts F) ≡ 0
  unfolding starts
  no_starts e = elim (dec_lt 0 (length (starts F))) [
    | yes h ↦ absurd (go (out_picked (λ c. in_file F c && eqb (F.program.tag c) 1) F.program.remainder 256 _ (out_distinct greater _ _ (at_index (starts F) 0 0 h))))
    | no h ↦ omega arith
  ]
    where
      go : {q : ℕ} → From (λ c. in_file F c && eqb (F.program.tag c) 1) F.program.remainder 256 q → ⊥
      go (from x n z) = omega (arith, r.labels x (omega arith) (eqb-true (F.program.tag x) 1 ((and-eq-true_iff (in_file F x) _).0 z).1))

  pub front_edge : length F.program.steps ≡ 0 → front F ≡ edge F
  unfolding front moved
  front_edge e = omega (arith, no_starts e, moved_most (edge F) (starts F) 0)

  pub no_front : length F.program.steps ≡ 0 → 256 ≤ F.program.boundary → front F ≡ 0
  unfolding edge
  no_front e h = front_edge e ∙ rw (le-ltb F.program.boundary 256 h)

  left_none : length F.program.steps ≡ 0 → 256 ≤ F.program.boundary → has_boundary (table_of (written F) (sizes_for F) 6) (sizes_for F) ≡ false
  unfolding has_boundary has_left
  left_none e h =
      let t : F.program.tag 256 ≡ 1 → ⊥ = λ q. omega (arith, r.labels 256 (omega arith) q) in
      let n : program_words F ≡ 0 = words_are F r ∙ rw (e, ne_eqb (F.program.tag 256) 1 t) in
      let z : (sizes_for F).nl ≡ 0 = nl_is F r ∙ omega (arith, no_front e h) in
      let y : (sizes_for F).nl - 1 ≡ 0 = omega arith in
      let b : byte_of (table_of (written F) (sizes_for F) 6) 0 0 ≡ 0 = no_words F r (omega (arith, no_front e h)) in
      ap (λ (i : ℕ). eqb (byte_of (table_of (written F) (sizes_for F) 6) i 0) 255) y ∙ ne_eqb (byte_of (table_of (written F) (sizes_for F) 6) 0 0) 255 (omega arith)

module _ (F : Font) (w : Whole F) (r : Runs F) (t : Fits F) where
  abbrev infos : List ℕ
  infos = table_of (written F) (sizes_for F) 1

  abbrev s : List ℕ
  s = table_of (written F) (sizes_for F) 6

  abbrev k : Layout
  k = sizes_for F

  abbrev m : List ℕ
  m = marks_in (written F) (sizes_for F)

  outside : (x : ℕ) → (x ≡ 256 → ⊥) → (first_code F ≤ x → x ≤ last_code F → ⊥) → program_of infos s k x ≡ k.nl
  unfolding sizes_for
  outside x n h = program_outside infos s (sizes_for F) x n h

  -- a program that starts at a code is a label's
  pub code_start : (x : ℕ) → (x ≡ 256 → ⊥) → program_of infos s k x < k.nl → (F.program.tag x ≡ 1) × (program_of infos s k x ≡ front F + F.program.remainder x)
  code_start x e h = elim (dec_le (first_code F) x) [
    | yes a ↦ elim (dec_le x (last_code F)) [
      | yes b ↦ inner a b
      | no b ↦ absurd (omega (arith, outside x e (λ y z. b z)))
    ]
    | no a ↦ absurd (omega (arith, outside x e (λ y z. a y)))
  ]
    where
      inner : first_code F ≤ x → x ≤ last_code F → (F.program.tag x ≡ 1) × (program_of infos s k x ≡ front F + F.program.remainder x)
      inner a b =
          let y : x < 256 = omega (arith, last_byte F) in
          elim (ℕ_discrete (F.program.tag x) 1) [
            | yes z ↦ (z, program_back F r x y a b z w t)
            | no z ↦ absurd (omega (arith, no_program_back F r w t x y a b z))
          ]

  pub few : k.nl ≤ 32767
  unfolding sizes_for
  few = omega (arith, t.words)

  most : k.ec ≤ 255
  unfolding sizes_for
  most = last_byte F

  pub steps_fit : front F + length F.program.steps ≤ k.nl
  steps_fit = omega (arith, nl_is F r, words_are F r)

  reached_below : {j : ℕ} → Reached F j → j < length F.program.steps
  reached_below (label c n e) = r.labels c n e
  reached_below (after {j} h b) = r.leads j (reached_below h) b

  past_live : (i : ℕ) → k.nl ≤ i → live k m i ≡ false
  unfolding live
  past_live i h = rw (le-ltb i k.nl h)

  unmarked : (i : ℕ) → (get_or m i 0 ≡ 2 → ⊥) → live k m i ≡ false
  unfolding live
  unmarked i h = rw (ne_eqb (get_or m i 0) 2 h, and-false)

  -- the labels stand at codes between the first and the last character, or at the left boundary
  abbrev pub Labels : Type 0
  Labels = (c : ℕ) → F.program.tag c ≡ 1 → (in_file F c ≡ true) ⊎ (c ≡ 256)

  -- what is accessible in the file: the steps, to which the labels lead
  pub record Accessible : Type 0 where
    pub starts : (c : ℕ) → F.program.tag c ≡ 1 → program_of infos s k c ≡ front F + F.program.remainder c
    pub silent : (c : ℕ) → (F.program.tag c ≡ 1 → ⊥) → live k m (program_of infos s k c) ≡ false
    pub inside : (i : ℕ) → front F ≤ i → i < front F + length F.program.steps → get_or m i 0 ≡ 2
    pub outside : (i : ℕ) → (front F ≤ i → i < front F + length F.program.steps → ⊥) → live k m i ≡ false

  -- a label stands at a code, or at the left boundary
  pub label_most : Labels → (c : ℕ) → F.program.tag c ≡ 1 → c ≤ 256
  unfolding in_file
  label_most labels c e = ⊎_elim
      (λ (i : in_file F c ≡ true). omega (arith, last_byte F, leb-true c (last_code F) ((and-eq-true_iff (leb (first_code F) c) (leb c (last_code F))).0 i).1))
      (λ (i : c ≡ 256). omega arith)
      (labels c e)

  -- a font that has no boundary character without a step
  module _ (idle : length F.program.steps ≡ 0 → 256 ≤ F.program.boundary) where
    -- the left boundary has no program without its label
    no_left_program : (F.program.tag 256 ≡ 1 → ⊥) → program_of infos s k 256 ≡ k.nl
    no_left_program n = elim (ℕ_discrete (length F.program.steps) 0) [
      | yes e ↦ no_left infos s k (left_none F r e (idle e))
      | no e ↦ no_left infos s k (last_small F r n e)
    ]

    left_start : program_of infos s k 256 < k.nl → (F.program.tag 256 ≡ 1) × (program_of infos s k 256 ≡ front F + F.program.remainder 256)
    left_start q = elim (ℕ_discrete (F.program.tag 256) 1) [
      | yes z ↦ (z, left_back F r z)
      | no z ↦ absurd (omega (arith, no_left_program z))
    ]

    -- a program that starts is a label's
    pub start_of : (x : ℕ) → program_of infos s k x < k.nl → (F.program.tag x ≡ 1) × (program_of infos s k x ≡ front F + F.program.remainder x)
    start_of x h = elim (ℕ_discrete x 256) [
      | yes e ↦ subst (λ (y : ℕ). program_of infos s k y < k.nl → (F.program.tag y ≡ 1) × (program_of infos s k y ≡ front F + F.program.remainder y)) (sym e) left_start h
      | no e ↦ code_start x e h
    ]

    -- what its programs meet are the font's steps
    pub met_in : {i : ℕ} → Met infos s k i → (front F ≤ i) × (i < front F + length F.program.steps)
    unfolding next_of
    met_in (start x n h) =
        let e = start_of x h in
        let q = r.labels x n e.0 in
        omega (arith, e.1)
    met_in (onward {i} d b h) =
        let z = met_in d in
        let q : front F + (i - front F) ≡ i = omega arith in
        let n : i - front F < length F.program.steps = omega arith in
        let y = rw q at (skip_back F r (i - front F) n) in
        omega (arith, r.leads (i - front F) n (omega arith))

    pub none_over : NoneOver infos s k
    none_over i d =
        let z = met_in d in
        let q : front F + (i - front F) ≡ i = omega arith in
        let n : i - front F < length F.program.steps = omega arith in
        let y = rw q at (skip_back F r (i - front F) n) in
        omega (arith, r.skips (i - front F) n)

    module _ (labels : Labels) where
      -- the program of a label starts at its step
      pub start_at : (c : ℕ) → F.program.tag c ≡ 1 → program_of infos s k c ≡ front F + F.program.remainder c
      unfolding in_file
      start_at c e = ⊎_elim
          (λ (i : in_file F c ≡ true).
          let z = (and-eq-true_iff (leb (first_code F) c) (leb c (last_code F))).0 i in
          let a = leb-true (first_code F) c z.0 in
          let b = leb-true c (last_code F) z.1 in
          program_back F r c (omega (arith, last_byte F)) a b e w t)
          (λ (i : c ≡ 256).
          subst (λ (y : ℕ). F.program.tag y ≡ 1 → program_of infos s k y ≡ front F + F.program.remainder y) (sym i) (left_back F r) e)
          (labels c e)

      -- so what a label reaches is accessible
      pub marked : {j : ℕ} → Reached F j → get_or m (front F + j) 0 ≡ 2
      unfolding next_of
      marked (label c n e) =
          let q = start_at c e in
          let b = r.labels c n e in
          rw q at (starts_marked infos s k few none_over c n (omega (arith, steps_fit)))
      marked (after {j} h b) =
          let n = reached_below h in
          let y = skip_back F r j n in
          let z = r.leads j n b in
          let q : front F + j + 1 + byte_of s (front F + j) 0 ≡ front F + (j + 1 + (step_at F j).skip) = omega arith in
          rw q at (goes_marked infos s k few none_over (front F + j) (omega (arith, steps_fit)) (marked h) (omega arith) (omega (arith, steps_fit)))

      module _ (reached : (j : ℕ) → j < length F.program.steps → Reached F j) where
        marked_in : (i : ℕ) → front F ≤ i → i < front F + length F.program.steps → get_or m i 0 ≡ 2
        marked_in i a b = let q : front F + (i - front F) ≡ i = omega arith in rw q at (marked (reached (i - front F) (omega arith)))

        live_out : (i : ℕ) → (front F ≤ i → i < front F + length F.program.steps → ⊥) → live k m i ≡ false
        unfolding live
        live_out i h = rw (ne_eqb (get_or m i 0) 2 (λ e. let z = met_in (sound infos s k most i e) in h z.0 z.1), and-false)

        busy : Accessible
        busy = record {
          starts = start_at;
          silent = λ c n. silent c n (dec_lt (program_of infos s k c) k.nl);
          inside = marked_in;
          outside = live_out;
        }
          where
            silent : (c : ℕ) → (F.program.tag c ≡ 1 → ⊥) → Dec (program_of infos s k c < k.nl) → live k m (program_of infos s k c) ≡ false
            silent c n (yes h) = absurd (n (start_of c h).0)
            silent c n (no h) = past_live (program_of infos s k c) (omega arith)

  -- without a step, and with a boundary character, there is one word, which is the last too: it is passed through
  module _ (e : length F.program.steps ≡ 0) (b : F.program.boundary < 256) (label_most : (c : ℕ) → F.program.tag c ≡ 1 → c ≤ 256) where
    front_one : front F ≡ 1
    unfolding edge
    front_one = front_edge F r e ∙ rw (lt-ltb F.program.boundary 256 b)

    unlabelled : (c : ℕ) → c ≤ 256 → F.program.tag c ≡ 1 → ⊥
    unlabelled c n q = omega (arith, r.labels c n q)

    nl_one : k.nl ≡ 1
    unfolding has_left
    nl_one =
        let n : program_words F ≡ 0 = words_are F r ∙ rw (e, ne_eqb (F.program.tag 256) 1 (unlabelled 256 (omega arith))) in
        omega (arith, nl_is F r, front_one)

    last_one : k.nl - 1 ≡ 0
    last_one = omega (arith, nl_one)

    left_there : has_boundary s k ≡ true
    unfolding has_boundary front_byte
    left_there =
        let q : byte_of s 0 0 ≡ 255 = front_word F r 0 0 (omega (arith, front_one)) (omega arith) ∙ rw (lt-ltb F.program.boundary 256 b) in
        ap (λ (i : ℕ). eqb (byte_of s i 0) 255) last_one ∙ eq-eqb (byte_of s 0 0) 255 q

    last_mark : (n : List ℕ) → length n ≡ 32768 → get_or (mark_last s k n) 0 0 ≡ 1
    unfolding mark_last
    last_mark n q =
        let h : length (store_if (has_boundary s k && ltb (boundary_start s k) k.nl) n (boundary_start s k) 2) ≡ 32768 = if_length _ n _ 2 ∙ q in
        ap (λ (i : ℕ). get_or (mark_last s k n) i 0) (sym last_one) ∙ if_set (has_boundary s k) _ (k.nl - 1) 1 left_there (omega (arith, last_one))

    info_tag : (i : ℕ) → i < chars k → (info_of infos i).tag ≡ 1 → ⊥
    unfolding sizes_for
    info_tag i h q =
        let z : first_code F + i - first_code F ≡ i = omega arith in
        let y : (info_of infos i).tag ≡ F.program.tag (first_code F + i) = sym (ap (λ (x : ℕ). (info_of infos x).tag) z) ∙ tag_back F w t (first_code F + i) (omega arith) (omega arith) in
        unlabelled (first_code F + i) (omega (arith, last_byte F)) (sym y ∙ q)

    info_mark : (n : List ℕ) (i : ℕ) → i < chars k → get_or n 0 0 ≡ 1 → get_or (mark_info infos s k n i) 0 0 ≡ 1
    unfolding mark_info
    info_mark n i h q = rw (ne_eqb (info_of infos i).tag 1 (info_tag i h)) q

    step_mark : (n : List ℕ) (i : ℕ) → i < k.nl → get_or n 0 0 ≡ 1 → get_or (mark_step s k n i) 0 0 ≡ 1
    unfolding mark_step store_if
    step_mark n i h q = let z : i ≡ 0 = omega (arith, nl_one) in rw (z, ne_eqb (get_or n 0 0) 2 (omega arith)) q

    one_mark : get_or m 0 0 ≡ 1
    unfolding marks_of marks_from
    one_mark =
        turns (λ n. get_or n 0 0 ≡ 1) (mark_step s k) k.nl step_mark _
        (turns (λ n. get_or n 0 0 ≡ 1) (mark_info infos s k) (chars k) info_mark _ (last_mark _ (first_length infos s k _ ∙ length-replicate {A = ℕ} 32768 0)))

    none_live : (i : ℕ) → live k m i ≡ false
    none_live i = elim (dec_lt i k.nl) [ yes h ↦ here h | no h ↦ past_live i (omega arith) ]
      where
        here : i < k.nl → live k m i ≡ false
        here h = let z : i ≡ 0 = omega (arith, nl_one) in unmarked i (omega (arith, one_mark, ap (λ (x : ℕ). get_or m x 0) z))

    idle : Accessible
    idle = record {
      starts = λ c q. absurd (unlabelled c (label_most c q) q);
      silent = λ c n. none_live (program_of infos s k c);
      inside = λ i a h. absurd (omega arith);
      outside = λ i h. none_live i;
    }

  -- so the steps that labels reach are the accessible ones
  pub accessible : Labels → ((j : ℕ) → j < length F.program.steps → Reached F j) → Accessible
  accessible labels reached = elim (ℕ_discrete (length F.program.steps) 0) [
    | yes e ↦ elim (dec_lt F.program.boundary 256) [
      | yes b ↦ idle e b (label_most labels)
      | no b ↦ busy (λ _. omega arith) labels reached
    ]
    | no e ↦ busy (λ q. absurd (e q)) labels reached
  ]

  module _ (a : Accessible) where
    pub live_in : (i : ℕ) → front F ≤ i → i < front F + length F.program.steps → live k m i ≡ true
    unfolding live
    live_in i h q = rw (lt-ltb i k.nl (omega (arith, steps_fit)), eq-eqb (get_or m i 0) 2 (a.inside i h q))

    -- the places of the steps
    pub place_of : (j : ℕ) → j ≤ length F.program.steps → rank (live k m) (front F + j) ≡ j
    place_of j h = rank_run (live k m) (front F) (length F.program.steps) live_in a.outside j h

    pub count_of_lem : rank (live k m) k.nl ≡ length F.program.steps
    count_of_lem =
        let q : front F + length F.program.steps + (k.nl - (front F + length F.program.steps)) ≡ k.nl = omega (arith, steps_fit) in
        rw q at (rank_after (live k m) (front F) (length F.program.steps) live_in a.outside (k.nl - (front F + length F.program.steps)))
