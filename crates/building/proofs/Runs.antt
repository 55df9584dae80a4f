-- The ligature program read back: its steps stand after the words at the front, and each label leads to its step.
use Prim.Native.Nat.{ℕ, ◌+◌, ◌-◌, ◌*◌, ◌/◌, ◌%◌, ◌≤◌, ◌<◌}
use native.Mathlib.Decide.{ℕ_discrete, dec_lt}
use native.Mathlib.Omega.{arith}
use mathlib.Core.Path.{◌≡◌, refl, sym, ap, ◌∙◌}
use mathlib.Core.Bool.{◌&&◌, and-eq-true_iff, Bool, true, false, cond, and-false}
use mathlib.Core.Logic.{◌⊎◌, inl, inr}
use lib.Dec.{ltb, eqb}
use lib.ListN.{length, get_or}
use borrow.Author.Tests.{eqb-true, lt-ltb, le-ltb, le-leb, eq-eqb, ne_eqb}
use Rattle.program.proofs.Starts.{redirect_over, redirect_none, program_at, no_program, left_program, no_left, left_past}
use Rattle.tfm.specs.Subfiles.{count_of, table_of}
use Rattle.tfm.specs.Characters.{byte_of}
use Rattle.program.specs.Steps.{address_of, has_boundary, boundary_start, redirected, program_of}
use Rattle.font.specs.Font.{Font}
use Rattle.building.specs.Values.{place, greater}
use Rattle.font.specs.Checked.{has_left, program_words, step_at}
use Rattle.building.specs.Written.{first_code, last_code, in_file, starts, moved, front, front_address, front_byte, step_byte, end_address, end_byte, program_byte, new_remainder, byte_in, sizes_for, written, kerns, edge}
use Rattle.building.proofs.Places.{In, reads_back, in_picked, in_distinct, at_index, out_distinct, From, from, out_picked, moved_most}
use Rattle.building.proofs.Laid.{byte_back}
use Rattle.building.proofs.Accepts.{Fits}
use Rattle.building.proofs.Chars.{Whole, tag_back, remainder_back}

-- a font's program runs: a step's skip byte is at most 128, and it leads on to a step, as does each label
pub record Runs (F : Font) : Type 0 where
  pub skips : (k : ℕ) → k < length F.program.steps → (step_at F k).skip ≤ 128
  pub leads : (k : ℕ) → k < length F.program.steps → (step_at F k).skip < 128 → k + 1 + (step_at F k).skip < length F.program.steps
  pub labels : (c : ℕ) → c ≤ 256 → F.program.tag c ≡ 1 → F.program.remainder c < length F.program.steps
  pub enough : F.program.least ≤ length F.program.steps

-- then PLtoTF adds no words but the left boundary's
module _ (F : Font) (r : Runs F) where
  pub words_are : program_words F ≡ length F.program.steps + has_left F
  unfolding program_words has_left step_at
  words_are = elim (ℕ_discrete (length F.program.steps) 0) [
    | yes e ↦ rw (eq-eqb (length F.program.steps) 0 e) (elim (ℕ_discrete (F.program.tag 256) 1) [
      | yes t ↦ absurd (omega (arith, r.labels 256 (omega arith) t))
      | no t ↦ rw (ne_eqb (F.program.tag 256) 1 t) (omega arith)
    ])
    | no e ↦ rw (ne_eqb (length F.program.steps) 0 e) (omega (arith, r.enough))
  ]

  -- a start of a program is a step
  pub start_in : (i : ℕ) → i < moved F → get_or (starts F) i 0 < length F.program.steps
  unfolding moved starts
  start_in i h =
      let m = moved_most (edge F) (starts F) 0 in
      go (out_picked (λ x. in_file F x && eqb (F.program.tag x) 1) F.program.remainder 256 _ (out_distinct greater _ _ (at_index (starts F) i 0 (omega arith))))
    where
      go : {q : ℕ} → From (λ x. in_file F x && eqb (F.program.tag x) 1) F.program.remainder 256 q → q < length F.program.steps
      go (from x m e) = r.labels x (omega arith) (eqb-true (F.program.tag x) 1 ((and-eq-true_iff (in_file F x) _).0 e).1)

  -- the words of lig_kern
  pub front_word : (i j : ℕ) → i < front F → j < 4 → byte_of (table_of (written F) (sizes_for F) 6) i j ≡ front_byte F i j
  unfolding byte_in program_byte count_of sizes_for
  front_word i j h p = byte_back F 6 i j (omega arith) (omega arith) p ∙ rw (lt-ltb i (front F) h)

  step_word : (k j : ℕ) → k < length F.program.steps → j < 4 → byte_of (table_of (written F) (sizes_for F) 6) (front F + k) j ≡ step_byte F k j
  unfolding byte_in program_byte count_of sizes_for
  step_word k j h p =
      let n = words_are in
      let e : front F + k - front F ≡ k = omega arith in
      byte_back F 6 (front F + k) j (omega arith) (omega arith) p ∙ rw (le-ltb (front F + k) (front F) (omega arith), e, lt-ltb k (length F.program.steps) h)

  pub end_word : (k j : ℕ) → length F.program.steps ≤ k → k < program_words F → j < 4 → byte_of (table_of (written F) (sizes_for F) 6) (front F + k) j ≡ end_byte F k j
  unfolding byte_in program_byte count_of sizes_for
  end_word k j h q p =
      let e : front F + k - front F ≡ k = omega arith in
      byte_back F 6 (front F + k) j (omega arith) (omega arith) p ∙ rw (le-ltb (front F + k) (front F) (omega arith), e, le-ltb k (length F.program.steps) h)

  -- the bytes of step k
  pub skip_back : (k : ℕ) → k < length F.program.steps → byte_of (table_of (written F) (sizes_for F) 6) (front F + k) 0 ≡ (step_at F k).skip
  unfolding step_byte
  skip_back k h = step_word k 0 h (omega arith) ∙ elim (ℕ_discrete (step_at F k).skip 0) [
    | yes e ↦ let n = words_are in
        let q = r.leads k h (omega arith) in
        rw (ne_eqb (k + 1) (program_words F) (omega arith))
    | no e ↦ rw (ne_eqb (step_at F k).skip 0 e, and-false)
  ]

  pub right_back : (k : ℕ) → k < length F.program.steps → byte_of (table_of (written F) (sizes_for F) 6) (front F + k) 1 ≡ (step_at F k).right
  unfolding step_byte
  right_back k h = step_word k 1 h (omega arith)

  -- a ligature's code and the code that it inserts
  pub op_back : (k : ℕ) → k < length F.program.steps → (step_at F k).op < 128 → byte_of (table_of (written F) (sizes_for F) 6) (front F + k) 2 ≡ (step_at F k).op
  unfolding step_byte
  op_back k h o = step_word k 2 h (omega arith) ∙ rw (lt-ltb (step_at F k).op 128 o)

  pub value_back : (k : ℕ) → k < length F.program.steps → (step_at F k).op < 128 → byte_of (table_of (written F) (sizes_for F) 6) (front F + k) 3 ≡ (step_at F k).value
  unfolding step_byte
  value_back k h o = step_word k 3 h (omega arith) ∙ rw (lt-ltb (step_at F k).op 128 o)

  -- a kern's entry
  pub kern_op : (k : ℕ) → k < length F.program.steps → 128 ≤ (step_at F k).op → byte_of (table_of (written F) (sizes_for F) 6) (front F + k) 2 ≡ 128 + place (kerns F) (step_at F k).value / 256
  unfolding step_byte
  kern_op k h o = step_word k 2 h (omega arith) ∙ rw (le-ltb (step_at F k).op 128 o)

  pub kern_rest : (k : ℕ) → k < length F.program.steps → 128 ≤ (step_at F k).op → byte_of (table_of (written F) (sizes_for F) 6) (front F + k) 3 ≡ place (kerns F) (step_at F k).value % 256
  unfolding step_byte
  kern_rest k h o = step_word k 3 h (omega arith) ∙ rw (le-ltb (step_at F k).op 128 o)

  pub kern_entry : (k : ℕ) → k < length F.program.steps → 128 ≤ (step_at F k).op → address_of (table_of (written F) (sizes_for F) 6) (front F + k) - 32768 ≡ place (kerns F) (step_at F k).value
  unfolding address_of
  kern_entry k h o = rw (kern_op k h o, kern_rest k h o) (omega arith)

  -- the words of the program
  words_fit : length F.program.steps ≤ program_words F
  words_fit = let n = words_are in omega arith

  pub nl_is : (sizes_for F).nl ≡ front F + program_words F
  unfolding sizes_for
  nl_is = refl

  -- a label leads to its step
  module _ (c : ℕ) (h : c < 256) (a : first_code F ≤ c) (b : c ≤ last_code F) (t : F.program.tag c ≡ 1) where
    pub label_in : In (F.program.remainder c) (starts F)
    unfolding starts in_file
    label_in =
        in_distinct greater (in_picked _ F.program.remainder 256 c
        (rw (le-leb (first_code F) c a, le-leb c (last_code F) b, eq-eqb (F.program.tag c) 1 t)) h)

    -- by a word at the front
    module _ (m : place (starts F) (F.program.remainder c) < moved F) where
      front_has : place (starts F) (F.program.remainder c) < front F
      unfolding front
      front_has = omega arith

      front_over : 128 < byte_of (table_of (written F) (sizes_for F) 6) (place (starts F) (F.program.remainder c)) 0
      unfolding front_byte
      front_over = rw (front_word (place (starts F) (F.program.remainder c)) 0 front_has (omega arith)) (go (ltb F.program.boundary 256))
        where
          go : (t : Bool) → 128 < cond t 255 254
          go true = omega arith
          go false = omega arith

      front_leads : address_of (table_of (written F) (sizes_for F) 6) (place (starts F) (F.program.remainder c)) ≡ front F + F.program.remainder c
      unfolding address_of front_byte front_address
      front_leads =
          let e = reads_back label_in 0 in
          rw (front_word (place (starts F) (F.program.remainder c)) 2 front_has (omega arith), front_word (place (starts F) (F.program.remainder c)) 3 front_has (omega arith), lt-ltb (place (starts F) (F.program.remainder c)) (moved F) m, e) (omega arith)

      by_front : redirected (table_of (written F) (sizes_for F) 6) (sizes_for F) (new_remainder F c) ≡ front F + F.program.remainder c
      unfolding new_remainder
      by_front =
          rw (eq-eqb (F.program.tag c) 1 t, lt-ltb (place (starts F) (F.program.remainder c)) (moved F) m)
          (redirect_over (table_of (written F) (sizes_for F) 6) (sizes_for F) (place (starts F) (F.program.remainder c)) (omega (arith, nl_is, front_has)) front_over ∙ front_leads)

    -- or as it stands
    by_itself : moved F ≤ place (starts F) (F.program.remainder c) → redirected (table_of (written F) (sizes_for F) 6) (sizes_for F) (new_remainder F c) ≡ front F + F.program.remainder c
    unfolding new_remainder
    by_itself m =
        let k = r.labels c (omega arith) t in
        let e : F.program.remainder c + front F ≡ front F + F.program.remainder c = omega arith in
        let q = skip_back (F.program.remainder c) k in
        rw (eq-eqb (F.program.tag c) 1 t, le-ltb (place (starts F) (F.program.remainder c)) (moved F) m, e)
        (redirect_none (table_of (written F) (sizes_for F) 6) (sizes_for F) (front F + F.program.remainder c) (omega (arith, q, r.skips (F.program.remainder c) k)))

    pub label_leads : redirected (table_of (written F) (sizes_for F) 6) (sizes_for F) (new_remainder F c) ≡ front F + F.program.remainder c
    label_leads = elim (dec_lt (place (starts F) (F.program.remainder c)) (moved F)) [
      | yes m ↦ by_front m
      | no m ↦ by_itself (omega arith)
    ]

    -- so the program of a character starts at its step
    pub program_back : Whole F → Fits F → program_of (table_of (written F) (sizes_for F) 1) (table_of (written F) (sizes_for F) 6) (sizes_for F) c ≡ front F + F.program.remainder c
    unfolding sizes_for
    program_back w f =
        let k = r.labels c (omega arith) t in
        let n = words_fit in
        program_at (table_of (written F) (sizes_for F) 1) (table_of (written F) (sizes_for F) 6) (sizes_for F) c (omega arith) a b
        (tag_back F w f c a b ∙ t) (front F + F.program.remainder c)
        (ap (redirected (table_of (written F) (sizes_for F) 6) (sizes_for F)) (remainder_back F w f c a b) ∙ label_leads) (omega arith)

  -- a character without a label has no program
  pub no_program_back : Whole F → Fits F → (c : ℕ) → c < 256 → first_code F ≤ c → c ≤ last_code F → (F.program.tag c ≡ 1 → ⊥)
      → program_of (table_of (written F) (sizes_for F) 1) (table_of (written F) (sizes_for F) 6) (sizes_for F) c ≡ (sizes_for F).nl
  unfolding sizes_for
  no_program_back w f c h a b t =
      no_program (table_of (written F) (sizes_for F) 1) (table_of (written F) (sizes_for F) 6) (sizes_for F) c (omega arith)
      (λ e. t (sym (tag_back F w f c a b) ∙ e))

  -- the last word, where the left boundary has a label
  module _ (t : F.program.tag 256 ≡ 1) where
    one_more : program_words F ≡ length F.program.steps + 1
    unfolding has_left
    one_more = words_are ∙ rw (eq-eqb (F.program.tag 256) 1 t)

    last_is : (sizes_for F).nl - 1 ≡ front F + length F.program.steps
    last_is = let n = one_more in let e = nl_is in omega arith

    left_has : has_boundary (table_of (written F) (sizes_for F) 6) (sizes_for F) ≡ true
    unfolding has_boundary end_byte
    left_has =
        let n = one_more in
        ap (λ (i : ℕ). eqb (byte_of (table_of (written F) (sizes_for F) 6) i 0) 255) last_is
        ∙ ap (λ (b : ℕ). eqb b 255) (end_word (length F.program.steps) 0 (omega arith) (omega arith) (omega arith))

    left_leads : boundary_start (table_of (written F) (sizes_for F) 6) (sizes_for F) ≡ front F + F.program.remainder 256
    unfolding boundary_start address_of end_byte end_address
    left_leads =
        let n = one_more in
        ap (λ (i : ℕ). byte_of (table_of (written F) (sizes_for F) 6) i 2 * 256 + byte_of (table_of (written F) (sizes_for F) 6) i 3) last_is
        ∙ rw (
          end_word (length F.program.steps) 2 (omega arith) (omega arith) (omega arith),
          end_word (length F.program.steps) 3 (omega arith) (omega arith) (omega arith),
          eq-eqb (length F.program.steps + 1) (program_words F) (omega arith),
          eq-eqb (F.program.tag 256) 1 t,
        ) (omega arith)

    -- it leads to the label's step
    pub left_back : program_of (table_of (written F) (sizes_for F) 1) (table_of (written F) (sizes_for F) 6) (sizes_for F) 256 ≡ front F + F.program.remainder 256
    left_back =
        let k = r.labels 256 (omega arith) t in
        let n = one_more in
        left_program (table_of (written F) (sizes_for F) 1) (table_of (written F) (sizes_for F) 6) (sizes_for F) left_has (omega (arith, nl_is, left_leads)) ∙ left_leads

  pub front_is_over : (i : ℕ) → i < front F → 128 < byte_of (table_of (written F) (sizes_for F) 6) i 0
  unfolding front_byte
  front_is_over i h = rw (front_word i 0 h (omega arith)) (go (ltb F.program.boundary 256))
    where
      go : (t : Bool) → 128 < cond t 255 254
      go true = omega arith
      go false = omega arith

  module _ (t : F.program.tag 256 ≡ 1 → ⊥) where
    nothing : program_words F ≡ length F.program.steps
    unfolding has_left
    nothing = words_are ∙ rw (ne_eqb (F.program.tag 256) 1 t) (omega arith)

    -- the last word is a step
    pub last_small : (length F.program.steps ≡ 0 → ⊥) → has_boundary (table_of (written F) (sizes_for F) 6) (sizes_for F) ≡ false
    unfolding has_boundary
    last_small e =
        let n = nothing in
        let k : (sizes_for F).nl - 1 ≡ front F + (length F.program.steps - 1) = omega (arith, nl_is) in
        let q = skip_back (length F.program.steps - 1) (omega arith) in
        let z = r.skips (length F.program.steps - 1) (omega arith) in
        ap (λ (i : ℕ). eqb (byte_of (table_of (written F) (sizes_for F) 6) i 0) 255) k ∙ ne_eqb (byte_of (table_of (written F) (sizes_for F) 6) (front F + (length F.program.steps - 1)) 0) 255 (omega arith)

  -- Where it has none, the last word gives no start; but a boundary character without any step stands in a word that is the last too, and then the start is that word, which does nothing.
  no_steps_left : length F.program.steps ≡ 0 → (F.program.tag 256 ≡ 1 → ⊥)
      → (program_of (table_of (written F) (sizes_for F) 1) (table_of (written F) (sizes_for F) 6) (sizes_for F) 256 ≡ (sizes_for F).nl)
      ⊎ (128 < byte_of (table_of (written F) (sizes_for F) 6) (program_of (table_of (written F) (sizes_for F) 1) (table_of (written F) (sizes_for F) 6) (sizes_for F) 256) 0)
  no_steps_left e t = go (has_boundary (table_of (written F) (sizes_for F) 6) (sizes_for F)) refl (dec_lt (boundary_start (table_of (written F) (sizes_for F) 6) (sizes_for F)) (sizes_for F).nl)
    where
      none : program_words F ≡ 0
      none = nothing t ∙ e

      go : (b : Bool) → has_boundary (table_of (written F) (sizes_for F) 6) (sizes_for F) ≡ b → Dec (boundary_start (table_of (written F) (sizes_for F) 6) (sizes_for F) < (sizes_for F).nl)
          → (program_of (table_of (written F) (sizes_for F) 1) (table_of (written F) (sizes_for F) 6) (sizes_for F) 256 ≡ (sizes_for F).nl)
          ⊎ (128 < byte_of (table_of (written F) (sizes_for F) 6) (program_of (table_of (written F) (sizes_for F) 1) (table_of (written F) (sizes_for F) 6) (sizes_for F) 256) 0)
      go false q d = inl (no_left (table_of (written F) (sizes_for F) 1) (table_of (written F) (sizes_for F) 6) (sizes_for F) q)
      go true q (yes d) =
          let p = left_program (table_of (written F) (sizes_for F) 1) (table_of (written F) (sizes_for F) 6) (sizes_for F) q d in
          inr (rw p (front_is_over (boundary_start (table_of (written F) (sizes_for F) 6) (sizes_for F)) (omega (arith, nl_is, none))))
      go true q (no d) = inl (left_past (table_of (written F) (sizes_for F) 1) (table_of (written F) (sizes_for F) 6) (sizes_for F) q (omega arith))

  pub no_left_back : (F.program.tag 256 ≡ 1 → ⊥)
      → (program_of (table_of (written F) (sizes_for F) 1) (table_of (written F) (sizes_for F) 6) (sizes_for F) 256 ≡ (sizes_for F).nl)
      ⊎ (128 < byte_of (table_of (written F) (sizes_for F) 6) (program_of (table_of (written F) (sizes_for F) 1) (table_of (written F) (sizes_for F) 6) (sizes_for F) 256) 0)
  no_left_back t = elim (ℕ_discrete (length F.program.steps) 0) [
    | yes e ↦ no_steps_left e t
    | no e ↦ inl (no_left (table_of (written F) (sizes_for F) 1) (table_of (written F) (sizes_for F) 6) (sizes_for F) (last_small t e))
  ]
