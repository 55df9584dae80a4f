-- The file as it is laid out: its sizes and its subfiles read back, and it is accepted.
use Prim.Native.Nat.{ℕ, zero, suc, ◌+◌, ◌-◌, ◌*◌, ◌/◌, ◌%◌, ◌≤◌, ◌<◌}
use native.Mathlib.Omega.{arith}
use mathlib.Core.Path.{◌≡◌, refl, sym, ap, ◌∙◌}
use mathlib.Core.Bool.{true}
use mathlib.Core.List.{List, [], ◌∷◌, ◌++◌, append_assoc, append-nil}
use lib.Dec.{ltb}
use lib.ListN.{length, get_or, length-append, get_or-append}
use lib.Seq.{take_at, drop_at}
use borrow.Author.Tests.{ltb-true}
use Rattle.lent.specs.Fold.{iterate, tabulate}
use Rattle.lent.proofs.Lists.{length_tabulate, get_or_tabulate, joined_front}
use Rattle.tfm.specs.Sizes.{size_at, layout_of, size_list}
use Rattle.tfm.specs.Subfiles.{count_of, start_of, table_of}
use Rattle.tfm.specs.Characters.{byte_of}
use Rattle.tfm.specs.Lengths.{word_of}
use Rattle.tfm.proofs.Accepted.{ends}
use Rattle.font.specs.Font.{Font}
use Rattle.font.specs.Checked.{word_byte}
use Rattle.building.specs.Written.{table, byte_in, sizes_for, size_byte, part_for, written}

module _ (g : ℕ → ℕ → ℕ) (n : ℕ) where
  pub length_table_lem : length (table g n) ≡ 4 * n
  unfolding table
  length_table_lem = length_tabulate _ (4 * n)

  -- byte j of word i
  pub table_byte : (i j : ℕ) → i < n → j < 4 → byte_of (table g n) i j ≡ g i j
  unfolding table byte_of
  table_byte i j h k =
      let d : (4 * i + j) / 4 ≡ i = omega arith in
      let m : (4 * i + j) % 4 ≡ j = omega arith in
      get_or_tabulate (λ a. g (a / 4) (a % 4)) (4 * n) (4 * i + j) (omega arith) ∙ rw (d, m)

-- a word's bytes are its own
pub word_back : (w : ℕ) → word_byte w 0 * 16777216 + word_byte w 1 * 65536 + word_byte w 2 * 256 + word_byte w 3 ≡ w
unfolding word_byte
word_back w = omega arith

-- and a word made of bytes has these
pub byte_of_word : (a b c d j : ℕ) → a < 256 → b < 256 → c < 256 → d < 256 → j < 4
    → word_byte (a * 16777216 + b * 65536 + c * 256 + d) j ≡ get_or (a ∷ b ∷ c ∷ d ∷ []) j 0
unfolding word_byte
byte_of_word a b c d zero p q r s h = omega arith
byte_of_word a b c d (suc zero) p q r s h = omega arith
byte_of_word a b c d (suc (suc zero)) p q r s h = omega arith
byte_of_word a b c d (suc (suc (suc zero))) p q r s h = omega arith
byte_of_word a b c d (suc (suc (suc (suc j)))) p q r s h = absurd (omega arith)

pub table_word : (w : ℕ → ℕ) (n i : ℕ) → i < n → word_of (table (λ a j. word_byte (w a) j) n) i ≡ w i
unfolding word_of
table_word w n i h =
    rw (table_byte (λ a j. word_byte (w a) j) n i 0 h (omega arith), table_byte (λ a j. word_byte (w a) j) n i 1 h (omega arith), table_byte (λ a j. word_byte (w a) j) n i 2 h (omega arith), table_byte (λ a j. word_byte (w a) j) n i 3 h (omega arith))
    (word_back (w i))

module _ (F : Font) where
  -- the file as far as subfile k
  unfoldable up_to : ℕ → List ℕ
  up_to k = tabulate (size_byte (sizes_for F)) 24 ++ iterate (λ s i. s ++ part_for F i) [] k

  all : written F ≡ up_to 10
  unfolding written up_to
  all = refl

  length_part : (k : ℕ) → length (part_for F k) ≡ 4 * count_of (sizes_for F) k
  unfolding part_for
  length_part k = length_table_lem (byte_in F k) (count_of (sizes_for F) k)

  length_up_to : (k : ℕ) → length (up_to k) ≡ 4 * start_of (sizes_for F) k
  unfolding up_to start_of iterate
  length_up_to zero = rw append-nil (length_tabulate _ 24)
  length_up_to (suc k) =
      let p : length (part_for F k) ≡ 4 * count_of (sizes_for F) k = length_part k in
      ap length (sym (append_assoc (tabulate (size_byte (sizes_for F)) 24) _ (part_for F k))) ∙ length-append (up_to k) (part_for F k) ∙ omega (arith, length_up_to k)

  -- subfile k is what was made for it
  pub part_back : (k : ℕ) → k ≤ 9 → table_of (written F) (sizes_for F) k ≡ part_for F k
  unfolding table_of up_to iterate part_for
  part_back k h =
      let (rest, q) = joined_front (part_for F) (suc k) (9 - k) in
      let ten : suc k + (9 - k) ≡ 10 = omega arith in
      let split : written F ≡ up_to k ++ (part_for F k ++ rest) = rw (all, rw ten at q) (simp append_assoc) in
      rw (split, drop_at (up_to k) _ (4 * start_of (sizes_for F) k) (length_up_to k))
      (take_at _ rest (4 * count_of (sizes_for F) k) (length_table_lem (byte_in F k) (count_of (sizes_for F) k)))

  pub byte_back : (k i j : ℕ) → k ≤ 9 → i < count_of (sizes_for F) k → j < 4 → byte_of (table_of (written F) (sizes_for F) k) i j ≡ byte_in F k i j
  unfolding part_for
  byte_back k i j h p q = rw (part_back k h) (table_byte (byte_in F k) (count_of (sizes_for F) k) i j p q)

  pub size_byte_lem : (i : ℕ) → i < 24 → get_or (written F) i 0 ≡ size_byte (sizes_for F) i
  unfolding up_to
  size_byte_lem i h =
      let n = length_tabulate (size_byte (sizes_for F)) 24 in
      rw all (get_or-append (tabulate (size_byte (sizes_for F)) 24) _ 0 i (omega arith)) ∙ get_or_tabulate (size_byte (sizes_for F)) 24 i h

  -- the sizes
  size_back : (k : ℕ) → ltb k 12 ≡ true → size_at (written F) k ≡ get_or (size_list (sizes_for F)) k 0
  unfolding size_at size_byte
  size_back k h =
      let l : k < 12 = ltb-true k 12 h in
      let d : 2 * k / 2 ≡ k = omega arith in
      let m : 2 * k % 2 ≡ 0 = omega arith in
      let d' : (2 * k + 1) / 2 ≡ k = omega arith in
      let m' : (2 * k + 1) % 2 ≡ 1 = omega arith in
      let a : get_or (written F) (2 * k) 0 ≡ size_byte (sizes_for F) (2 * k) = size_byte_lem (2 * k) (omega arith) in
      let b : get_or (written F) (2 * k + 1) 0 ≡ size_byte (sizes_for F) (2 * k + 1) = size_byte_lem (2 * k + 1) (omega arith) in
      rw (a, b, d, m, d', m') (omega arith)

  pub layout_back : layout_of (written F) ≡ sizes_for F
  unfolding layout_of size_list
  layout_back = simp size_back

  pub written_length : length (written F) ≡ 4 * (sizes_for F).lf
  unfolding sizes_for
  written_length = ap length all ∙ length_up_to 10 ∙ rw (ends (sizes_for F))
