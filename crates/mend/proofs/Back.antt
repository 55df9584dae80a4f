-- The mended copy read back: it has the file's sizes, and each subfile is what the mends made. r is what follows the copy in a lent buffer.
use Prim.Native.Nat.{ℕ, zero, suc, ◌+◌, ◌-◌, ◌*◌, ◌≤◌, ◌<◌}
use native.Mathlib.Decide.{dec_lt}
use native.Mathlib.Omega.{arith}
use mathlib.Core.Path.{◌≡◌, refl, sym, ap, ◌∙◌}
use mathlib.Core.Bool.{true}
use mathlib.Core.List.{List, [], ◌∷◌, ◌++◌, append_assoc, append-nil}
use lib.Dec.{ltb}
use lib.ListN.{length, get_or, take, length-append, get_or-eq_default}
use lib.Seq.{length-take-le, take_at, drop_at, get_or-take}
use borrow.Author.Tests.{ltb-true}
use Rattle.lent.specs.Fold.{iterate, tabulate}
use Rattle.lent.specs.Write.{byte, each, flat}
use Rattle.lent.proofs.Lists.{length_tabulate, get_or_tabulate, joined_front}
use Rattle.tfm.specs.Sizes.{size_at, layout_of, number_of}
use Rattle.tfm.specs.Subfiles.{count_of, start_of, table_of}
use Rattle.tfm.specs.declared.Layout.{Layout}
use Rattle.tfm.proofs.Accepted.{accepted, ends, whole}
use Rattle.program.specs.Marks.{marks_of}
use Rattle.mend.specs.Copy.{mended_in, mended_part, mended_text, mended}

-- bytes written one after another
flat_bytes : (g : ℕ → ℕ) (n : ℕ) → flat (each n (λ i. byte (g i))) ≡ tabulate g n
unfolding flat iterate tabulate
flat_bytes g zero = refl
flat_bytes g (suc n) = ap (λ (s : List ℕ). s ++ (g n ∷ [])) (flat_bytes g n)

-- turns that do the same make the same
pub same_turns : (g h : List ℕ → ℕ → List ℕ) (a : List ℕ) (n : ℕ) → ((x : List ℕ) (i : ℕ) → i < n → g x i ≡ h x i) → iterate g a n ≡ iterate h a n
unfolding iterate
same_turns g h a zero p = refl
same_turns g h a (suc n) p = ap (λ (x : List ℕ). g x n) (same_turns g h a n (λ x i q. p x i (omega arith))) ∙ p _ n (omega arith)

-- and so do bytes
same_bytes : (g h : ℕ → ℕ) (n : ℕ) → ((i : ℕ) → i < n → g i ≡ h i) → tabulate g n ≡ tabulate h n
unfolding tabulate
same_bytes g h zero p = refl
same_bytes g h (suc n) p = rw (same_bytes g h n (λ i q. p i (omega arith)), p n (omega arith))

-- byte i of subfile k of the copy
abbrev pub made : List ℕ → Layout → ℕ → ℕ → ℕ
made f l k = mended_in (table_of f l 1) (table_of f l 6) (marks_of (table_of f l 1) (table_of f l 6) l) l k (table_of f l k)

-- subfile k of the copy, as it is written
unfoldable part : List ℕ → Layout → ℕ → List ℕ
part f l k = flat (mended_part f (table_of f l 1) (table_of f l 6) (marks_of (table_of f l 1) (table_of f l 6) l) l k)

part_made : (f : List ℕ) (l : Layout) (k : ℕ) → part f l k ≡ tabulate (made f l k) (4 * count_of l k)
unfolding part mended_part
part_made f l k = flat_bytes (made f l k) (4 * count_of l k)

-- the copy as far as subfile k, and so the copy
unfoldable up_to : List ℕ → Layout → ℕ → List ℕ
up_to f l k = take 24 f ++ iterate (λ s i. s ++ part f l i) [] k

all : (f : List ℕ) (l : Layout) → mended f l ≡ up_to f l 10
unfolding mended mended_text flat part up_to
all f l = refl

-- two files with the same sizes and the same mended bytes have the same copy
pub same_copy : (f g : List ℕ) (l : Layout) → take 24 f ≡ take 24 g
    → ((k i : ℕ) → k ≤ 9 → i < 4 * count_of l k → made f l k i ≡ made g l k i) → mended f l ≡ mended g l
unfolding up_to
same_copy f g l e p = all f l ∙ rw e (ap (λ (s : List ℕ). take 24 g ++ s) parts) ∙ sym (all g l)
  where
    same_part : (k : ℕ) → k ≤ 9 → part f l k ≡ part g l k
    same_part k h = part_made f l k ∙ same_bytes (made f l k) (made g l k) (4 * count_of l k) (λ i. p k i h) ∙ sym (part_made g l k)

    parts : iterate (λ s i. s ++ part f l i) [] 10 ≡ iterate (λ s i. s ++ part g l i) [] 10
    parts = same_turns _ _ [] 10 (λ x k h. ap (λ (s : List ℕ). x ++ s) (same_part k (omega arith)))

module _ (f : List ℕ) (l : Layout) (later : ℕ) (e : number_of f l later ≡ 0) where
  -- an accepted file has the six words of the sizes
  six_words : 24 ≤ length f
  six_words = let a = accepted f l later e in omega arith

  -- subfile k of the copy begins where that of the file does
  length_up_to : (k : ℕ) → length (up_to f l k) ≡ 4 * start_of l k
  unfolding up_to start_of iterate
  length_up_to zero = rw append-nil (length-take-le 24 f six_words)
  length_up_to (suc k) =
      let p : length (part f l k) ≡ 4 * count_of l k = ap length (part_made f l k) ∙ length_tabulate (made f l k) (4 * count_of l k) in
      ap length (sym (append_assoc (take 24 f) _ (part f l k))) ∙ length-append (up_to f l k) (part f l k) ∙ omega (arith, length_up_to k)

  -- the copy has the words that the sizes ask for
  pub copy_length : length (mended f l) ≡ 4 * l.lf
  copy_length = let a = accepted f l later e in ap length (all f l) ∙ length_up_to 10 ∙ rw (ends l, a.sum)

  module _ (r : List ℕ) where
    -- subfile k of the copy is what the mends made
    pub copy_table : (k : ℕ) → k ≤ 9 → table_of (mended f l ++ r) l k ≡ tabulate (made f l k) (4 * count_of l k)
    unfolding table_of up_to iterate
    copy_table k h =
        let (rest, q) = joined_front (part f l) (suc k) (9 - k) in
        let ten : suc k + (9 - k) ≡ 10 = omega arith in
        let split : mended f l ++ r ≡ up_to f l k ++ (part f l k ++ (rest ++ r)) = rw (all f l, rw ten at q) (simp append_assoc) in
        rw (split, drop_at (up_to f l k) _ (4 * start_of l k) (length_up_to k), part_made)
        (take_at _ (rest ++ r) (4 * count_of l k) (length_tabulate (made f l k) (4 * count_of l k)))

    -- byte i of it
    pub copy_byte : (k i : ℕ) → k ≤ 9 → i < 4 * count_of l k → get_or (table_of (mended f l ++ r) l k) i 0 ≡ made f l k i
    copy_byte k i h p = rw (copy_table k h) (get_or_tabulate (made f l k) (4 * count_of l k) i p)

    -- past its end both files read as 0
    copy_zero : (k i : ℕ) → k ≤ 9 → 4 * count_of l k ≤ i → get_or (table_of (mended f l ++ r) l k) i 0 ≡ 0
    copy_zero k i h p =
        let n = length_tabulate (made f l k) (4 * count_of l k) in
        rw (copy_table k h) (get_or-eq_default (tabulate (made f l k) (4 * count_of l k)) 0 (omega arith))

    file_zero : (k i : ℕ) → k ≤ 9 → 4 * count_of l k ≤ i → get_or (table_of f l k) i 0 ≡ 0
    file_zero k i h p = let n = whole f l later k e h in get_or-eq_default (table_of f l k) 0 (omega arith)

    pub copy_past : (k i : ℕ) → k ≤ 9 → 4 * count_of l k ≤ i → get_or (table_of (mended f l ++ r) l k) i 0 ≡ get_or (table_of f l k) i 0
    copy_past k i h p = copy_zero k i h p ∙ sym (file_zero k i h p)

    -- so a mend that leaves 0 as it is made every byte, past the end too
    pub copy_at : (k i : ℕ) → k ≤ 9 → (get_or (table_of f l k) i 0 ≡ 0 → made f l k i ≡ 0) → get_or (table_of (mended f l ++ r) l k) i 0 ≡ made f l k i
    copy_at k i h z = elim (dec_lt i (4 * count_of l k)) [
      | yes p ↦ copy_byte k i h p
      | no p ↦ copy_zero k i h (omega arith) ∙ sym (z (file_zero k i h (omega arith)))
    ]

    -- the six words of the sizes are the file's
    pub copy_sizes : take 24 (mended f l ++ r) ≡ take 24 f
    unfolding up_to
    copy_sizes = rw (all f l, append_assoc) (take_at (take 24 f) _ 24 (length-take-le 24 f six_words))

    same_byte : (i : ℕ) → i < 24 → get_or (mended f l ++ r) i 0 ≡ get_or f i 0
    same_byte i h = sym (get_or-take 24 (mended f l ++ r) i 0 h) ∙ rw copy_sizes (get_or-take 24 f i 0 h)

    same_size : (k : ℕ) → ltb k 12 ≡ true → size_at (mended f l ++ r) k ≡ size_at f k
    unfolding size_at
    same_size k h = rw (same_byte (2 * k) (omega (arith, ltb-true)), same_byte (2 * k + 1) (omega (arith, ltb-true)))

    -- and so are the sizes
    pub copy_layout : layout_of (mended f l ++ r) ≡ layout_of f
    unfolding layout_of
    copy_layout = simp same_size
