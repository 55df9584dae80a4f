-- The file read back has none of the findings 10 to 17: its ligature program needs no mend. m' are any marks.
use Prim.Native.Nat.{ℕ, ◌+◌, ◌-◌, ◌*◌, ◌/◌, ◌%◌, ◌≤◌, ◌<◌}
use native.Mathlib.Decide.{ℕ_discrete, dec_le, dec_lt}
use native.Mathlib.Omega.{arith}
use mathlib.Core.Path.{◌≡◌, refl, sym, ap, ◌∙◌, subst}
use mathlib.Core.Bool.{Bool, true, false, cond, ◌&&◌, ◌||◌, not, and-false, and_assoc}
use mathlib.Core.Logic.{◌⊎◌, inl, inr, ⊎_elim}
use mathlib.Core.List.{List}
use lib.Dec.{ltb, eqb}
use lib.ListN.{length, get_or}
use borrow.Author.Tests.{lt-ltb, le-ltb, le-leb, lt-leb, eq-eqb, ne_eqb}
use Rattle.tfm.specs.Subfiles.{table_of}
use Rattle.tfm.specs.Characters.{byte_of, info_of, in_range, exists_in}
use Rattle.tfm.specs.declared.Layout.{Layout}
use Rattle.program.specs.Steps.{address_of, boundary_char, has_boundary, boundary_start, redirected, next_of}
use Rattle.faults.specs.Steps.{bad_boundary, bad_label, bad_start, skips_too_far, looked, bad_address, is_step, is_ligature, step_for_missing, ligature_to_missing, bad_kern, odd_code}
use Rattle.font.specs.Font.{Font}
use Rattle.building.specs.Pick.{rank}
use Rattle.font.specs.Checked.{program_words}
use Rattle.building.specs.Written.{kerns, first_code, last_code, moved, front, front_address, front_byte, end_address, end_byte, sizes_for, written}
use Rattle.building.proofs.Accepts.{Fits, last_byte}
use Rattle.building.proofs.Chars.{tag_back, remainder_back}
use Rattle.building.proofs.Runs.{words_are, nl_is, front_word, end_word, front_is_over, op_back, value_back, kern_op, kern_entry, label_leads, start_in}
use Rattle.building.proofs.Kerns.{kern_in_lem, boundary_back, no_words}
use Rattle.clean.specs.Met.{marks_in}
use Rattle.font.specs.Read.{flagged}
use Rattle.stated.specs.Listed.{live, listed_plain, listed_of}
use Rattle.stated.proofs.Live.{Clear, live_below, live_marked, live_small, inserted}
use Rattle.promise.proofs.Listing.{At, at, unrank, steps_length, place_below, skip_small, right_same, op_is, value_is, kern_is, whole, runs, follows}
use Rattle.promise.proofs.Keeps.{same_exists}
use Rattle.promise.proofs.More.{boundary_most}

-- a test that fails makes the others fail
last_fails : (a b : Bool) → b ≡ false → a && b ≡ false
last_fails a b e = rw e (and-false a)

module _ (f : List ℕ) (l : Layout) (c : Clear f l) (t : Fits (listed_of f l)) where
  abbrev F : Font
  F = listed_of f l

  abbrev g : List ℕ
  g = written (listed_of f l)

  abbrev k : Layout
  k = sizes_for (listed_of f l)

  abbrev s : List ℕ
  s = table_of f l 6

  abbrev s' : List ℕ
  s' = table_of (written (listed_of f l)) (sizes_for (listed_of f l)) 6

  abbrev p : ℕ → Bool
  p = live l (marks_in f l)

  abbrev to : ℕ → ℕ
  to i = front (listed_of f l) + rank p i

  -- a word of lig_kern is at the front, or a step of the file, or after the steps
  data Word : ℕ → Type 0 where
    at_front : (i : ℕ) → i < front F → Word i
    a_step : (j : ℕ) → p j ≡ true → Word (to j)
    at_end : (q : ℕ) → length F.program.steps ≤ q → q < program_words F → Word (front F + q)

  word : (i : ℕ) → i < k.nl → Word i
  word i h = elim (dec_lt i (front F)) [
    | yes a ↦ at_front i a
    | no a ↦ elim (dec_lt (i - front F) (length F.program.steps)) [
      | yes b ↦ let e : front F + (i - front F) ≡ i = omega arith in
          subst Word e (steps (i - front F) (unrank p l.nl (i - front F) (omega (arith, steps_length f l c))))
      | no b ↦ let e : front F + (i - front F) ≡ i = omega arith in
          subst Word e (at_end (i - front F) (omega arith) (omega (arith, nl_is F (runs f l c))))
    ]
  ]
    where
      steps : (r : ℕ) → At p l.nl r → Word (front F + r)
      steps r a = go a
        where
          go : {q : ℕ} → At p l.nl q → Word (front F + q)
          go (at j h v) = a_step j v

  -- only the file's steps are at most 128
  over_front : (i : ℕ) → i < front F → 128 < byte_of s' i 0
  over_front i h = front_is_over F (runs f l c) i h

  over_end : (q : ℕ) → length F.program.steps ≤ q → q < program_words F → 128 < byte_of s' (front F + q) 0
  unfolding end_byte
  over_end q h n = rw (end_word F (runs f l c) q 0 h n (omega arith)) (omega arith)

  module _ (m' : List ℕ) where
    no_step_over : (i : ℕ) → 128 < byte_of s' i 0 → is_step s' m' i ≡ false
    unfolding is_step
    no_step_over i h = rw (lt-leb (byte_of s' i 0) 128 h, and-false)

    -- 12: a step leads on to a step
    skip_over : (i : ℕ) → 128 < byte_of s' i 0 → skips_too_far s' m' k i ≡ false
    unfolding skips_too_far
    skip_over i h = rw (le-ltb (byte_of s' i 0) 128 (omega arith), and-false)

    skip_step : (j : ℕ) → p j ≡ true → skips_too_far s' m' k (to j) ≡ false
    unfolding skips_too_far
    skip_step j v = elim (dec_lt (byte_of s j 0) 128) [
      | yes b ↦ let w = (follows f l c).lives j v b in
          let z : next_of s' (to j) < k.nl = rw ((follows f l c).leads j v b) ((follows f l c).there (next_of s j) w) in
          rw (lt-leb k.nl (next_of s' (to j)) z, and-false)
      | no b ↦ let e = (follows f l c).ends j v (omega arith) in
          rw (le-ltb (byte_of s' (to j) 0) 128 e, and-false)
    ]

    pub anew_12 : (i : ℕ) → i < k.nl → skips_too_far s' m' k i ≡ false
    anew_12 i h = go (word i h)
      where
        go : {n : ℕ} → Word n → skips_too_far s' m' k n ≡ false
        go (at_front n a) = skip_over n (over_front n a)
        go (a_step j v) = skip_step j v
        go (at_end q a b) = skip_over _ (over_end q a b)

    -- a step that is looked at in the file is so here
    is_step_lem : (j : ℕ) → p j ≡ true → is_step s (marks_in f l) j ≡ true
    unfolding is_step looked
    is_step_lem j v = rw (live_marked f l c j v, le-leb (byte_of s j 0) 128 (live_small f l c j v))

    -- 14: its right code exists, or is the boundary character
    module _ (bytes : (n : ℕ) → get_or f n 0 < 256) (old : (i : ℕ) → i < l.nl → step_for_missing (table_of f l 1) s (marks_in f l) l i ≡ false) where
      right_there : (j : ℕ) → p j ≡ true → not (exists_in (table_of f l 1) l (byte_of s j 1)) && not (eqb (byte_of s j 1) (boundary_char s)) ≡ false
      unfolding step_for_missing
      right_there j v = sym (rw (is_step_lem j v)) ∙ old j (live_below f l c j v)

      same_boundary : boundary_char s' ≡ boundary_char s
      unfolding listed_of flagged listed_plain
      same_boundary = boundary_back F (runs f l c) (boundary_most f l c t bytes)

      right_step : (j : ℕ) → p j ≡ true → step_for_missing (table_of g k 1) s' m' k (to j) ≡ false
      unfolding step_for_missing
      right_step j v =
          rw (right_same f l c j v, same_exists f l c t (byte_of s j 1), same_boundary)
          (and_assoc (is_step s' m' (to j)) (not (exists_in (table_of f l 1) l (byte_of s j 1))) (not (eqb (byte_of s j 1) (boundary_char s)))
          ∙ last_fails (is_step s' m' (to j)) _ (right_there j v))

      missing_over : (i : ℕ) → 128 < byte_of s' i 0 → step_for_missing (table_of g k 1) s' m' k i ≡ false
      unfolding step_for_missing
      missing_over i h = rw (no_step_over i h)

      pub anew_14 : (i : ℕ) → i < k.nl → step_for_missing (table_of g k 1) s' m' k i ≡ false
      anew_14 i h = go (word i h)
        where
          go : {n : ℕ} → Word n → step_for_missing (table_of g k 1) s' m' k n ≡ false
          go (at_front n a) = missing_over n (over_front n a)
          go (a_step j v) = right_step j v
          go (at_end q a b) = missing_over _ (over_end q a b)

    -- 15: a ligature inserts a character that exists
    op_small : (j : ℕ) → p j ≡ true → byte_of s' (to j) 2 < 128 → byte_of s j 2 < 128
    op_small j v h = elim (dec_lt (byte_of s j 2) 128) [
      | yes o ↦ o
      | no o ↦ let e = kern_is f l c j v (omega arith) in
          absurd (omega (arith, kern_op F (runs f l c) (rank p j) (place_below f l c j v) (omega arith)))
    ]

    op_same : (j : ℕ) → p j ≡ true → byte_of s j 2 < 128 → byte_of s' (to j) 2 ≡ byte_of s j 2
    op_same j v o = let e = op_is f l c j v o in op_back F (runs f l c) (rank p j) (place_below f l c j v) (omega arith) ∙ e

    value_same : (j : ℕ) → p j ≡ true → byte_of s j 2 < 128 → byte_of s' (to j) 3 ≡ byte_of s j 3
    value_same j v o = let e = op_is f l c j v o in value_back F (runs f l c) (rank p j) (place_below f l c j v) (omega arith) ∙ value_is f l c j v o

    insert_step : (j : ℕ) → p j ≡ true → ligature_to_missing (table_of g k 1) s' m' k (to j) ≡ false
    unfolding ligature_to_missing is_ligature
    insert_step j v = elim (dec_lt (byte_of s' (to j) 2) 128) [
      | yes h ↦ let o = op_small j v h in
          rw (value_same j v o, same_exists f l c t (byte_of s j 3), inserted f l c j v o, and-false)
      | no h ↦ rw (le-ltb (byte_of s' (to j) 2) 128 (omega arith), and-false)
    ]

    insert_over : (i : ℕ) → 128 < byte_of s' i 0 → ligature_to_missing (table_of g k 1) s' m' k i ≡ false
    unfolding ligature_to_missing is_ligature
    insert_over i h = rw (no_step_over i h)

    pub anew_15 : (i : ℕ) → i < k.nl → ligature_to_missing (table_of g k 1) s' m' k i ≡ false
    anew_15 i h = go (word i h)
      where
        go : {n : ℕ} → Word n → ligature_to_missing (table_of g k 1) s' m' k n ≡ false
        go (at_front n a) = insert_over n (over_front n a)
        go (a_step j v) = insert_step j v
        go (at_end q a b) = insert_over _ (over_end q a b)

    nk_is : k.nk ≡ length (kerns F)
    unfolding sizes_for
    nk_is = refl

    -- 16: a kern's entry is in the table
    kern_step : (j : ℕ) → p j ≡ true → bad_kern s' m' k (to j) ≡ false
    unfolding bad_kern
    kern_step j v = elim (dec_lt (byte_of s j 2) 128) [
      | yes o ↦ let e = op_same j v o in rw (lt-leb 128 (byte_of s' (to j) 2) (omega arith), and-false)
      | no o ↦ let e = kern_is f l c j v (omega arith) in
          let h = place_below f l c j v in
          let n = kern_in_lem F (rank p j) h (omega arith) in
          rw (lt-leb k.nk (address_of s' (to j) - 32768) (omega (arith, nk_is, kern_entry F (runs f l c) (rank p j) h (omega arith))), and-false)
    ]

    kern_over : (i : ℕ) → 128 < byte_of s' i 0 → bad_kern s' m' k i ≡ false
    unfolding bad_kern
    kern_over i h = rw (no_step_over i h)

    pub anew_16 : (i : ℕ) → i < k.nl → bad_kern s' m' k i ≡ false
    anew_16 i h = go (word i h)
      where
        go : {n : ℕ} → Word n → bad_kern s' m' k n ≡ false
        go (at_front n a) = kern_over n (over_front n a)
        go (a_step j v) = kern_step j v
        go (at_end q a b) = kern_over _ (over_end q a b)

    -- 17: a ligature's code is the file's
    module _ (old : (i : ℕ) → i < l.nl → odd_code s (marks_in f l) i ≡ false) where
      code_even : (j : ℕ) → p j ≡ true → byte_of s j 2 < 128 → eqb (byte_of s j 2) 4 || ltb 7 (byte_of s j 2) && not (eqb (byte_of s j 2) 11) ≡ false
      unfolding odd_code is_ligature
      code_even j v o = sym (rw (is_step_lem j v, lt-ltb (byte_of s j 2) 128 o)) ∙ old j (live_below f l c j v)

      code_step : (j : ℕ) → p j ≡ true → odd_code s' m' (to j) ≡ false
      unfolding odd_code is_ligature
      code_step j v = elim (dec_lt (byte_of s' (to j) 2) 128) [
        | yes h ↦ let o = op_small j v h in rw (op_same j v o, code_even j v o, and-false)
        | no h ↦ rw (le-ltb (byte_of s' (to j) 2) 128 (omega arith), and-false)
      ]

      code_over : (i : ℕ) → 128 < byte_of s' i 0 → odd_code s' m' i ≡ false
      unfolding odd_code is_ligature
      code_over i h = rw (no_step_over i h)

      pub anew_17 : (i : ℕ) → i < k.nl → odd_code s' m' i ≡ false
      anew_17 i h = go (word i h)
        where
          go : {n : ℕ} → Word n → odd_code s' m' n ≡ false
          go (at_front n a) = code_over n (over_front n a)
          go (a_step j v) = code_step j v
          go (at_end q a b) = code_over _ (over_end q a b)

  -- 13: a word over 128 has an address below nl
  front_address_lem : (i : ℕ) → i < front F → address_of s' i < k.nl
  unfolding address_of front_byte front_address
  front_address_lem i h =
      rw (front_word F (runs f l c) i 2 h (omega arith), front_word F (runs f l c) i 3 h (omega arith)) (go (dec_lt i (moved F)))
    where
      go : Dec (i < moved F) → front_address F i / 256 * 256 + front_address F i % 256 < k.nl
      go (yes n) =
          let w = words_are F (runs f l c) in
          rw (lt-ltb i (moved F) n) (omega (arith, nl_is F (runs f l c), start_in F (runs f l c) i n))
      go (no n) = rw (le-ltb i (moved F) (omega arith)) (omega (arith, nl_is F (runs f l c)))

  end_address_lem : (q : ℕ) → length F.program.steps ≤ q → q < program_words F → address_of s' (front F + q) < k.nl
  unfolding address_of end_byte end_address
  end_address_lem q h n =
      rw (end_word F (runs f l c) q 2 h n (omega arith), end_word F (runs f l c) q 3 h n (omega arith)) (go (eqb (q + 1) (program_words F)) (ℕ_discrete (F.program.tag 256) 1))
    where
      go : (b : Bool) → Dec (F.program.tag 256 ≡ 1) → cond (b && eqb (F.program.tag 256) 1) (F.program.remainder 256 + front F) 0 / 256 * 256 + cond (b && eqb (F.program.tag 256) 1) (F.program.remainder 256 + front F) 0 % 256 < k.nl
      go true (yes e) =
          let w = words_are F (runs f l c) in
          rw (eq-eqb (F.program.tag 256) 1 e) (omega (arith, nl_is F (runs f l c), (runs f l c).labels 256 (omega arith) e))
      go true (no e) = rw (ne_eqb (F.program.tag 256) 1 e) (omega (arith, nl_is F (runs f l c)))
      go false d = omega (arith, nl_is F (runs f l c))

  near : (m' : List ℕ) (n : ℕ) → address_of s' n < k.nl → bad_address s' m' k n ≡ false
  unfolding bad_address
  near m' n a = rw (lt-leb k.nl (address_of s' n) a, and-false)

  small : (m' : List ℕ) (j : ℕ) → p j ≡ true → bad_address s' m' k (to j) ≡ false
  unfolding bad_address
  small m' j v = rw (le-ltb 128 (byte_of s' (to j) 0) (skip_small f l c j v), and-false)

  pub anew_13 : (m' : List ℕ) (i : ℕ) → i < k.nl → bad_address s' m' k i ≡ false
  anew_13 m' i h = go (word i h)
    where
      go : {n : ℕ} → Word n → bad_address s' m' k n ≡ false
      go (at_front n a) = near m' n (front_address_lem n a)
      go (a_step j v) = small m' j v
      go (at_end q a b) = near m' _ (end_address_lem q a b)

  -- 10: so has the last word, if it is 255
  near_boundary : address_of s' (k.nl - 1) < k.nl → bad_boundary s' k ≡ false
  unfolding bad_boundary boundary_start
  near_boundary a = rw (lt-leb k.nl (address_of s' (k.nl - 1)) a, and-false)

  no_boundary : (byte_of s' (k.nl - 1) 0 ≡ 255 → ⊥) → bad_boundary s' k ≡ false
  unfolding bad_boundary has_boundary
  no_boundary n = rw (ne_eqb (byte_of s' (k.nl - 1) 0) 255 n)

  empty : k.nl ≡ 0 → byte_of s' (k.nl - 1) 0 ≡ 255 → ⊥
  empty e q =
      let z : k.nl - 1 ≡ 0 = omega arith in
      let n = no_words F (runs f l c) (sym (nl_is F (runs f l c)) ∙ e) in
      omega (arith, ap (λ (i : ℕ). byte_of s' i 0) z)

  pub anew_10 : bad_boundary s' k ≡ false
  anew_10 = elim (ℕ_discrete k.nl 0) [
    | yes e ↦ no_boundary (empty e)
    | no e ↦ go (word (k.nl - 1) (omega arith)) refl
  ]
    where
      go : {n : ℕ} → Word n → n ≡ k.nl - 1 → bad_boundary s' k ≡ false
      go (at_front n a) e = near_boundary (subst (λ (i : ℕ). address_of s' i < k.nl) e (front_address_lem n a))
      go (a_step j v) e = no_boundary (λ q. omega (arith, skip_small f l c j v, ap (λ (i : ℕ). byte_of s' i 0) e))
      go (at_end q a b) e = near_boundary (subst (λ (i : ℕ). address_of s' i < k.nl) e (end_address_lem q a b))

  -- a code's label
  bc_is : k.bc ≡ first_code F
  unfolding sizes_for
  bc_is = refl

  ec_is : k.ec ≡ last_code F
  unfolding sizes_for
  ec_is = refl

  module _ (x : ℕ) where
    outside : (x < first_code F) ⊎ (last_code F < x) → bad_start (table_of g k 1) s' k x ≡ false
    unfolding bad_start in_range
    outside h = ⊎_elim
        (λ (a : x < first_code F). rw (lt-leb k.bc x (omega (arith, bc_is))))
        (λ (a : last_code F < x). rw (lt-leb x k.ec (omega (arith, ec_is)), and-false))
        h

    module _ (a : first_code F ≤ x) (b : x ≤ last_code F) where
      tag_new : (info_of (table_of g k 1) (x - k.bc)).tag ≡ F.program.tag x
      unfolding sizes_for
      tag_new = tag_back F (whole f l c) t x a b

      leads : F.program.tag x ≡ 1 → redirected s' k (info_of (table_of g k 1) (x - k.bc)).remainder < k.nl
      unfolding sizes_for
      leads e =
          let w = words_are F (runs f l c) in
          let n = (runs f l c).labels x (omega (arith, last_byte F)) e in
          let q = ap (redirected s' k) (remainder_back F (whole f l c) t x a b) ∙ label_leads F (runs f l c) x (omega (arith, last_byte F)) a b e in
          omega arith

      unled : (F.program.tag x ≡ 1 → ⊥) → bad_start (table_of g k 1) s' k x ≡ false
      unfolding bad_start bad_label
      unled e = rw (ne_eqb (info_of (table_of g k 1) (x - k.bc)).tag 1 (λ q. e (sym tag_new ∙ q)), and-false)

      led : F.program.tag x ≡ 1 → bad_start (table_of g k 1) s' k x ≡ false
      unfolding bad_start bad_label
      led e = rw (lt-leb k.nl (redirected s' k (info_of (table_of g k 1) (x - k.bc)).remainder) (leads e), and-false, and-false)

  -- 11: a label leads to a step
  pub anew_11 : (x : ℕ) → bad_start (table_of g k 1) s' k x ≡ false
  anew_11 x = elim (dec_le (first_code F) x) [
    | yes a ↦ elim (dec_le x (last_code F)) [
      | yes b ↦ elim (ℕ_discrete (F.program.tag x) 1) [
        | yes e ↦ led x a b e
        | no e ↦ unled x a b e
      ]
      | no b ↦ outside x (inr (omega arith))
    ]
    | no a ↦ outside x (inl (omega arith))
  ]
