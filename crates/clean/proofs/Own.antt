-- A clean file is its own copy.
use Prim.Native.Nat.{ℕ, zero, suc, ◌+◌, ◌-◌, ◌*◌, ◌/◌, ◌%◌, ◌≤◌, ◌<◌}
use native.Mathlib.Decide.{dec_le, dec_lt}
use native.Mathlib.Omega.{arith}
use mathlib.Core.Path.{◌≡◌, refl, sym, ap, ◌∙◌}
use mathlib.Core.Bool.{Bool, true, false, cond, ◌&&◌, and-false}
use mathlib.Core.List.{List, [], ◌++◌, append-nil}
use lib.Dec.{leb, ltb, eqb}
use lib.ListN.{length, get_or}
use lib.Seq.{ext_get_or}
use borrow.Author.Tests.{lt-ltb, le-ltb, le-leb, lt-leb}
use Rattle.lent.specs.Answer.{first}
use Rattle.lent.proofs.Lists.{length_tabulate}
use Rattle.tfm.specs.Sizes.{number_of}
use Rattle.tfm.specs.Subfiles.{count_of, table_of}
use Rattle.tfm.specs.declared.Layout.{Layout}
use Rattle.tfm.proofs.Accepted.{whole}
use Rattle.faults.specs.Header.{string_byte, string_start}
use Rattle.mend.specs.Findings.{any_mend}
use Rattle.mend.specs.Copy.{mended_string, mended_header, loses_tag, mended_info, mended_length, mended_step, mended_piece, mended_parameter, mended_in, mended}
use Rattle.mend.proofs.Back.{made, copy_table, copy_byte}
use Rattle.judge.specs.Judge.{program_in, mended_program}
use Rattle.clean.specs.Met.{marks_in}
use Rattle.clean.proofs.Absent.{no_2, no_3, no_4, no_7, no_9, no_11, no_12, no_14, no_15, no_17, no_19, no_21, no_22, no_23}

module _ (f : List ℕ) (l : Layout) (clean : any_mend f l ≡ false) where
  -- byte i of each subfile is not mended
  string_own : (a n : ℕ) → a < 2 → n < 40 → mended_string (table_of f l 0) l a n ≡ string_byte (table_of f l 0) a n
  unfolding mended_string first
  string_own a n h q = rw (no_2 f l clean a h, no_3 f l clean a n h q, no_4 f l clean a n h q, and-false)

  header_own : (i : ℕ) → mended_header (table_of f l 0) l i ≡ get_or (table_of f l 0) i 0
  unfolding mended_header string_byte string_start
  header_own i = go (dec_le 8 i) (dec_lt i 48)
    where
      next : 48 ≤ i → Dec (i < 68) → cond (leb 48 i && ltb i 68) (mended_string (table_of f l 0) l 1 (i - 48)) (get_or (table_of f l 0) i 0) ≡ get_or (table_of f l 0) i 0
      next a (yes b) = let e : 48 + (i - 48) ≡ i = omega arith in
          rw (le-leb 48 i a, lt-ltb i 68 b, string_own 1 (i - 48) (omega arith) (omega arith), e)
      next a (no b) = rw (le-ltb i 68 (omega arith), and-false)

      go : Dec (8 ≤ i) → Dec (i < 48) → mended_header (table_of f l 0) l i ≡ get_or (table_of f l 0) i 0
      go (yes a) (yes b) = let e : 8 + (i - 8) ≡ i = omega arith in
          rw (le-leb 8 i a, lt-ltb i 48 b, string_own 0 (i - 8) (omega arith) (omega arith), e)
      go (yes a) (no b) = rw (le-ltb i 48 (omega arith), and-false) (next (omega arith) (dec_lt i 68))
      go (no a) b = rw (lt-leb 8 i (omega arith), lt-leb 48 i (omega arith))

  info_own : (i : ℕ) → i < 4 * count_of l 1 → mended_info (table_of f l 1) (table_of f l 6) l i ≡ get_or (table_of f l 1) i 0
  unfolding mended_info loses_tag first count_of
  info_own i h = go (eqb (i % 4) 2)
    where
      x : ℕ
      x = l.bc + i / 4

      go : (b : Bool) → cond b (first (loses_tag (table_of f l 1) (table_of f l 6) l (l.bc + i / 4)) (get_or (table_of f l 1) i 0 - get_or (table_of f l 1) i 0 % 4) (get_or (table_of f l 1) i 0)) (get_or (table_of f l 1) i 0) ≡ get_or (table_of f l 1) i 0
      go true = rw (no_11 f l clean (l.bc + i / 4), no_21 f l clean (l.bc + i / 4) (omega arith) (omega arith), no_22 f l clean (l.bc + i / 4) (omega arith) (omega arith), no_23 f l clean (l.bc + i / 4) (omega arith) (omega arith))
      go false = refl

  length_own : (k i : ℕ) → 2 ≤ k → k ≤ 7 → (k ≡ 6 → ⊥) → i < 4 * count_of l k → mended_length (table_of f l k) i ≡ get_or (table_of f l k) i 0
  unfolding mended_length first
  length_own k i low high other h = rw (no_9 f l clean k (i / 4) low high other (omega arith))

  step_own : (i : ℕ) → i < 4 * count_of l 6 → mended_step (table_of f l 1) (table_of f l 6) (marks_in f l) l i ≡ get_or (table_of f l 6) i 0
  unfolding mended_step first count_of
  step_own i h =
      rw (no_12 f l clean (i / 4) (omega arith), no_14 f l clean (i / 4) (omega arith), no_15 f l clean (i / 4) (omega arith), no_17 f l clean (i / 4) (omega arith))
      (go (eqb (i % 4) 0) (eqb (i % 4) 1) (eqb (i % 4) 2) (get_or (table_of f l 6) i 0))
    where
      go : (a b c : Bool) (v : ℕ) → cond a v (cond b v (cond c v v)) ≡ v
      go true b c v = refl
      go false true c v = refl
      go false false true v = refl
      go false false false v = refl

  piece_own : (i : ℕ) → i < 4 * count_of l 8 → mended_piece (table_of f l 1) (table_of f l 8) l i ≡ get_or (table_of f l 8) i 0
  unfolding mended_piece first count_of
  piece_own i h = rw (no_19 f l clean (i / 4) (i % 4) (omega arith) (omega arith), and-false)

  parameter_own : (i : ℕ) → i < 4 * count_of l 9 → mended_parameter (table_of f l 9) i ≡ get_or (table_of f l 9) i 0
  unfolding mended_parameter first count_of
  parameter_own i h = rw (no_7 f l clean (i / 4) (omega arith))

  made_own : (k i : ℕ) → k ≤ 9 → i < 4 * count_of l k → made f l k i ≡ get_or (table_of f l k) i 0
  unfolding mended_in
  made_own zero i p h = header_own i
  made_own (suc zero) i p h = info_own i h
  made_own (suc (suc zero)) i p h = length_own 2 i (omega arith) (omega arith) (omega arith) h
  made_own (suc (suc (suc zero))) i p h = length_own 3 i (omega arith) (omega arith) (omega arith) h
  made_own (suc (suc (suc (suc zero)))) i p h = length_own 4 i (omega arith) (omega arith) (omega arith) h
  made_own (suc (suc (suc (suc (suc zero))))) i p h = length_own 5 i (omega arith) (omega arith) (omega arith) h
  made_own (suc (suc (suc (suc (suc (suc zero)))))) i p h = step_own i h
  made_own (suc (suc (suc (suc (suc (suc (suc zero))))))) i p h = length_own 7 i (omega arith) (omega arith) (omega arith) h
  made_own (suc (suc (suc (suc (suc (suc (suc (suc zero)))))))) i p h = piece_own i h
  made_own (suc (suc (suc (suc (suc (suc (suc (suc (suc zero))))))))) i p h = parameter_own i h
  made_own (suc (suc (suc (suc (suc (suc (suc (suc (suc (suc k)))))))))) i p h = absurd (omega arith)

  module _ (later : ℕ) (e : number_of f l later ≡ 0) where
    -- each subfile of the copy is the file's
    pub own_table : (k : ℕ) → k ≤ 9 → table_of (mended f l) l k ≡ table_of f l k
    own_table k h = ap (λ (c : List ℕ). table_of c l k) (sym (append-nil (mended f l))) ∙ same
      where
        n : length (table_of (mended f l ++ []) l k) ≡ 4 * count_of l k
        n = ap length (copy_table f l later e [] k h) ∙ length_tabulate (made f l k) (4 * count_of l k)

        same : table_of (mended f l ++ []) l k ≡ table_of f l k
        same = ext_get_or 0 _ _ (n ∙ sym (whole f l later k e h)) (λ i q. copy_byte f l later e [] k i h (omega (arith, n)) ∙ made_own k i h (omega (arith, n)))

    -- so the mended program is the file's own
    pub own_program : mended_program f l ≡ program_in f l
    unfolding mended_program program_in
    own_program = rw (own_table 1 (omega arith), own_table 6 (omega arith))
