-- The file read back has none of the findings 2 to 5 and 7 to 9: its header, parameters and lengths need no mend.
use Prim.Native.Nat.{ℕ, zero, suc, ◌+◌, ◌-◌, ◌*◌, ◌/◌, ◌%◌, ◌≤◌, ◌<◌}
use native.Mathlib.Nat.{not-suc-le-zero}
use native.Mathlib.Decide.{ℕ_discrete, dec_le, dec_lt}
use native.Mathlib.Omega.{arith}
use mathlib.Core.Path.{◌≡◌, refl, sym, ap, ◌∙◌, subst}
use mathlib.Core.Bool.{Bool, true, false, cond, ◌&&◌, ◌||◌, not, and-eq-true_iff, true≢false, and-false}
use mathlib.Core.Logic.{◌⊎◌, inl, inr, ⊎_elim}
use mathlib.Core.List.{List, [], ◌∷◌}
use lib.Dec.{leb, ltb, eqb}
use lib.ListN.{length, get_or, take, drop, length-take, get_or-eq_default}
use borrow.Author.Tests.{lt-ltb, le-ltb, le-leb, lt-leb, eq-eqb, ne_eqb, leb-true, leb-false, ltb-false, eqb-false, not-true}
use Rattle.stated.proofs.FontBack.{letters_length}
use Rattle.lent.proofs.Bools.{neither}
use Rattle.lent.proofs.Lists.{length_tabulate, get_or_tabulate}
use Rattle.tfm.specs.Subfiles.{count_of, start_of, table_of}
use Rattle.tfm.specs.Characters.{byte_of}
use Rattle.tfm.specs.Lengths.{word_of, too_big}
use Rattle.tfm.specs.declared.Layout.{Layout}
use Rattle.faults.specs.Header.{string_start, string_room, is_read, string_byte, string_too_long, string_length, in_string, parenthesis, nonstandard, bad_design_size, upper, bad_parameter}
use Rattle.header.specs.Header.{letters_from, spelled}
use Rattle.font.specs.Font.{Font}
use Rattle.building.specs.Written.{letters_byte, header_byte, sizes_for, written, ordered, kerns}
use Rattle.building.specs.Pick.{rank, picked}
use Rattle.building.specs.Values.{signed_less}
use Rattle.font.specs.Checked.{no_step, word_byte, step_at}
use Rattle.building.proofs.Places.{In, at_index, out_distinct, From, from, out_picked}
use Rattle.building.proofs.Chars.{header_byte_lem, parameter_byte, width_byte, height_byte, depth_byte, italic_byte, kern_byte}
use Rattle.building.proofs.Kerns.{Kern, kern, out_kerns}
use Rattle.clean.specs.Met.{marks_in}
use Rattle.forest.specs.Forest.{past}
use Rattle.font.specs.Told.{unspecified}
use Rattle.font.specs.Read.{flagged}
use Rattle.stated.specs.Stated.{width_stated}
use Rattle.stated.specs.Listed.{listed_length, live, listed_here, info_for, counted, listed_width, listed_height, listed_depth, listed_italic, listed_plain, listed_of}
use Rattle.stated.proofs.Live.{Clear}
use Rattle.promise.proofs.Listing.{At, at, unrank, steps_length, op_is, kern_word_is}
use Rattle.promise.proofs.Tags.{table_small, word_byte_is}

-- a letter that 3 and 4 leave, and letters that are all so
unfoldable pub fine : ℕ → Bool
fine b = leb 32 b && leb b 126 && not (eqb b 40) && not (eqb b 41)

unfoldable pub all_fine : List ℕ → Bool
all_fine [] = true
all_fine (b ∷ bs) = fine b && all_fine bs

fine_at : (s : List ℕ) (i : ℕ) → all_fine s ≡ true → i < length s → fine (get_or s i 0) ≡ true
unfolding all_fine
fine_at [] i e h = absurd (not-suc-le-zero h)
fine_at (b ∷ bs) zero e h = ((and-eq-true_iff (fine b) (all_fine bs)).0 e).0
fine_at (b ∷ bs) (suc i) e h = fine_at bs i ((and-eq-true_iff (fine b) (all_fine bs)).0 e).1 (omega arith)

-- what a fine letter is
pub record Letter (b : ℕ) : Type 0 where
  pub low : 32 ≤ b
  pub high : b ≤ 126
  pub left : b ≡ 40 → ⊥
  pub right : b ≡ 41 → ⊥

letter : (b : ℕ) → fine b ≡ true → Letter b
unfolding fine
letter b e =
    let x = (and-eq-true_iff (leb 32 b && leb b 126 && not (eqb b 40)) (not (eqb b 41))).0 e in
    let y = (and-eq-true_iff (leb 32 b && leb b 126) (not (eqb b 40))).0 x.0 in
    let z = (and-eq-true_iff (leb 32 b) (leb b 126)).0 y.0 in
    record {
      low = leb-true 32 b z.0;
      high = leb-true b 126 z.1;
      left = eqb-false b 40 (not-true _ y.1);
      right = eqb-false b 41 (not-true _ x.1);
    }

fine_small : (s : List ℕ) (i : ℕ) → all_fine s ≡ true → get_or s i 0 < 256
fine_small s i e = elim (dec_lt i (length s)) [
  | yes h ↦ omega (arith, (letter (get_or s i 0) (fine_at s i e h)).high)
  | no h ↦ omega (arith, get_or-eq_default {A = ℕ} s 0 {n = i} (omega arith))
]

is_fine : (b : ℕ) → Letter b → fine b ≡ true
unfolding fine
is_fine b h = rw (le-leb 32 b h.low, le-leb b 126 h.high, ne_eqb b 40 h.left, ne_eqb b 41 h.right)

upper_letter : (b : ℕ) → Letter b → Letter (upper b)
unfolding upper
upper_letter b h = elim (dec_le 97 b) [
  | yes p ↦ elim (dec_le b 122) [
    | yes q ↦ rw (le-leb 97 b p, le-leb b 122 q) (record { low = omega arith; high = omega arith; left = λ e. omega arith; right = λ e. omega arith })
    | no q ↦ rw (lt-leb b 122 (omega arith), and-false) h
  ]
  | no p ↦ rw (lt-leb 97 b (omega arith)) h
]

-- blanks in front go
blanks_fine : (s : List ℕ) → all_fine s ≡ true → all_fine (past s) ≡ true
unfolding all_fine past
blanks_fine [] e = refl
blanks_fine (b ∷ bs) e = go (eqb b 32) (blanks_fine bs ((and-eq-true_iff (fine b) (all_fine bs)).0 e).1)
  where
    go : (t : Bool) → all_fine (past bs) ≡ true → all_fine (elim t [ true ↦ past bs | false ↦ b ∷ bs ]) ≡ true
    go true h = h
    go false h = e

blanks_shorter : (s : List ℕ) → length (past s) ≤ length s
unfolding past
blanks_shorter [] = omega arith
blanks_shorter (b ∷ bs) = go (eqb b 32) (blanks_shorter bs)
  where
    go : (t : Bool) → length (past bs) ≤ length bs → length {A = ℕ} (elim t [ true ↦ past bs | false ↦ b ∷ bs ]) ≤ suc (length bs)
    go true h = omega arith
    go false h = omega arith

letters_fine : (h : List ℕ) (string i n : ℕ) → ((j : ℕ) → i ≤ j → j < i + n → Letter (string_byte h string (j + 1))) → all_fine (letters_from h string i n) ≡ true
unfolding letters_from all_fine
letters_fine h string i zero p = refl
letters_fine h string i (suc n) p =
    rw (is_fine _ (upper_letter _ (p i (omega arith) (omega arith)))) (letters_fine h string (i + 1) n (λ j a b. p j (omega arith) (omega arith)))

-- the letters of a file without 2, 3 and 4
module _ (h : List ℕ) (l : Layout) (a : ℕ) (read : is_read l a ≡ true) (long : string_too_long h l a ≡ false)
    (round : (n : ℕ) → n < 40 → parenthesis h l a n ≡ false) (plain : (n : ℕ) → n < 40 → nonstandard h l a n ≡ false) (room : string_room a ≤ 40) where
  old_length : string_byte h a 0 < string_room a
  unfolding string_too_long
  old_length = leb-false (string_room a) (string_byte h a 0) (sym (rw read) ∙ long)

  old_in : (n : ℕ) → 1 ≤ n → n ≤ string_byte h a 0 → in_string h l a n ≡ true
  unfolding in_string string_length
  old_in n p q = rw (read, long, le-leb 1 n p, le-leb n (string_byte h a 0) q)

  old_letter : (n : ℕ) → 1 ≤ n → n ≤ string_byte h a 0 → Letter (string_byte h a n)
  unfolding parenthesis nonstandard
  old_letter n p q =
      let i = old_in n p q in
      let r : eqb (string_byte h a n) 40 || eqb (string_byte h a n) 41 ≡ false = sym (rw i) ∙ round n (omega (arith, old_length)) in
      let s : ltb (string_byte h a n) 32 || ltb 126 (string_byte h a n) ≡ false = sym (rw i) ∙ plain n (omega (arith, old_length)) in
      record {
        low = ltb-false (string_byte h a n) 32 (neither (ltb (string_byte h a n) 32) (ltb 126 (string_byte h a n)) s).0;
        high = ltb-false 126 (string_byte h a n) (neither (ltb (string_byte h a n) 32) (ltb 126 (string_byte h a n)) s).1;
        left = eqb-false _ 40 (neither (eqb (string_byte h a n) 40) (eqb (string_byte h a n) 41) r).0;
        right = eqb-false _ 41 (neither (eqb (string_byte h a n) 40) (eqb (string_byte h a n) 41) r).1;
      }

  spelled_fine : all_fine (past (spelled h a)) ≡ true
  unfolding spelled
  spelled_fine = blanks_fine _ (letters_fine h a 0 (string_byte h a 0) (λ j p q. old_letter (j + 1) (omega arith) (omega arith)))

  spelled_short : length (past (spelled h a)) < string_room a
  unfolding spelled
  spelled_short = omega (arith, blanks_shorter (spelled h a), letters_length h a 0 (string_byte h a 0), old_length)

-- a string that holds such letters has none of 2, 3 and 4
module _ (h : List ℕ) (l : Layout) (a : ℕ) (letters : List ℕ) (bytes : (n : ℕ) → n < string_room a → string_byte h a n ≡ letters_byte letters n)
    (short : length letters < string_room a) (good : all_fine letters ≡ true) where
  new_first : string_byte h a 0 ≡ length letters
  unfolding letters_byte
  new_first = bytes 0 (omega arith)

  new_long : string_too_long h l a ≡ false
  unfolding string_too_long
  new_long = rw (lt-leb (string_room a) (string_byte h a 0) (omega (arith, new_first)), and-false)

  new_letter : (n : ℕ) → 1 ≤ n → n ≤ length letters → Letter (string_byte h a n)
  unfolding letters_byte
  new_letter n p q =
      let e : string_byte h a n ≡ get_or letters (n - 1) 0 = bytes n (omega arith) ∙ rw (ne_eqb n 0 (omega arith)) in
      rw e (letter _ (fine_at letters (n - 1) good (omega arith)))

  new_out : (n : ℕ) → (1 ≤ n → n ≤ length letters → ⊥) → in_string h l a n ≡ false
  unfolding in_string string_length
  new_out n p = rw (new_long, new_first) (elim (dec_le 1 n) [
    | yes q ↦ rw (lt-leb n (length letters) (omega (arith, p q)), and-false)
    | no q ↦ rw (lt-leb 1 n (omega arith), and-false)
  ])

  new_round : (n : ℕ) → parenthesis h l a n ≡ false
  unfolding parenthesis
  new_round n = elim (dec_le 1 n) [
    | yes p ↦ elim (dec_le n (length letters)) [
      | yes q ↦ let b = new_letter n p q in rw (ne_eqb (string_byte h a n) 40 b.left, ne_eqb (string_byte h a n) 41 b.right, and-false)
      | no q ↦ rw (new_out n (λ _ z. q z))
    ]
    | no p ↦ rw (new_out n (λ z _. p z))
  ]

  new_plain : (n : ℕ) → nonstandard h l a n ≡ false
  unfolding nonstandard
  new_plain n = elim (dec_le 1 n) [
    | yes p ↦ elim (dec_le n (length letters)) [
      | yes q ↦ let b = new_letter n p q in rw (le-ltb (string_byte h a n) 32 b.low, le-ltb 126 (string_byte h a n) b.high, and-false)
      | no q ↦ rw (new_out n (λ _ z. q z))
    ]
    | no p ↦ rw (new_out n (λ z _. p z))
  ]

module _ (f : List ℕ) (l : Layout) where
  abbrev F : Font
  F = listed_of f l

  abbrev g : List ℕ
  g = written (listed_of f l)

  abbrev k : Layout
  k = sizes_for (listed_of f l)

  -- the strings are where they were written
  pub scheme_byte : (n : ℕ) → n < string_room 0 → string_byte (table_of g k 0) 0 n ≡ letters_byte F.header.scheme n
  unfolding string_byte string_start string_room byte_of header_byte
  scheme_byte n h =
      let e : 4 * (2 + n / 4) + n % 4 ≡ 8 + n = omega arith in
      let d : 4 * (2 + n / 4 - 2) + n % 4 ≡ n = omega arith in
      ap (λ (i : ℕ). get_or (table_of g k 0) i 0) (sym e) ∙ header_byte_lem F (2 + n / 4) (n % 4) (omega arith) (omega arith)
      ∙ rw (ne_eqb (2 + n / 4) 0 (omega arith), ne_eqb (2 + n / 4) 1 (omega arith), lt-ltb (2 + n / 4) 12 (omega arith), d)

  pub family_byte : (n : ℕ) → n < string_room 1 → string_byte (table_of g k 0) 1 n ≡ letters_byte F.header.family n
  unfolding string_byte string_start string_room byte_of header_byte
  family_byte n h =
      let e : 4 * (12 + n / 4) + n % 4 ≡ 48 + n = omega arith in
      let d : 4 * (12 + n / 4 - 12) + n % 4 ≡ n = omega arith in
      ap (λ (i : ℕ). get_or (table_of g k 0) i 0) (sym e) ∙ header_byte_lem F (12 + n / 4) (n % 4) (omega arith) (omega arith)
      ∙ rw (ne_eqb (12 + n / 4) 0 (omega arith), ne_eqb (12 + n / 4) 1 (omega arith), le-ltb (12 + n / 4) 12 (omega arith), lt-ltb (12 + n / 4) 17 (omega arith), d)

  module _ (long : (a : ℕ) → a < 2 → string_too_long (table_of f l 0) l a ≡ false) (round : (a n : ℕ) → a < 2 → n < 40 → parenthesis (table_of f l 0) l a n ≡ false)
      (plain : (a n : ℕ) → a < 2 → n < 40 → nonstandard (table_of f l 0) l a n ≡ false) where
    -- the letters are fine, or none are given
    pub scheme_fine : (all_fine F.header.scheme ≡ true) × (length F.header.scheme < 40)
    unfolding listed_of flagged listed_plain is_read string_room all_fine fine
    scheme_fine = go (leb 12 l.lh) refl
      where
        go : (b : Bool) → leb 12 l.lh ≡ b → (all_fine (cond b (past (spelled (table_of f l 0) 0)) unspecified) ≡ true) × (length (cond b (past (spelled (table_of f l 0) 0)) unspecified) < 40)
        go true e = (
          spelled_fine (table_of f l 0) l 0 e (long 0 (omega arith)) (λ n. round 0 n (omega arith)) (λ n. plain 0 n (omega arith)) (omega arith),
          spelled_short (table_of f l 0) l 0 e (long 0 (omega arith)) (λ n. round 0 n (omega arith)) (λ n. plain 0 n (omega arith)) (omega arith),
        )
        go false e = (refl, omega arith)

    pub family_fine : (all_fine F.header.family ≡ true) × (length F.header.family < 20)
    unfolding listed_of flagged listed_plain is_read string_room all_fine fine
    family_fine = go (leb 17 l.lh) refl
      where
        go : (b : Bool) → leb 17 l.lh ≡ b → (all_fine (cond b (past (spelled (table_of f l 0) 1)) unspecified) ≡ true) × (length (cond b (past (spelled (table_of f l 0) 1)) unspecified) < 20)
        go true e = (
          spelled_fine (table_of f l 0) l 1 e (long 1 (omega arith)) (λ n. round 1 n (omega arith)) (λ n. plain 1 n (omega arith)) (omega arith),
          spelled_short (table_of f l 0) l 1 e (long 1 (omega arith)) (λ n. round 1 n (omega arith)) (λ n. plain 1 n (omega arith)) (omega arith),
        )
        go false e = (refl, omega arith)

    pub scheme_small : (n : ℕ) → get_or F.header.scheme n 0 < 256
    scheme_small n = fine_small F.header.scheme n scheme_fine.0

    pub family_small : (n : ℕ) → get_or F.header.family n 0 < 256
    family_small n = fine_small F.header.family n family_fine.0

    pub anew_2 : (a : ℕ) → a < 2 → string_too_long (table_of g k 0) k a ≡ false
    unfolding string_room
    anew_2 zero h = new_long (table_of g k 0) k 0 F.header.scheme scheme_byte scheme_fine.1 scheme_fine.0
    anew_2 (suc zero) h = new_long (table_of g k 0) k 1 F.header.family family_byte family_fine.1 family_fine.0
    anew_2 (suc (suc a)) h = absurd (omega arith)

    pub anew_3 : (a n : ℕ) → a < 2 → parenthesis (table_of g k 0) k a n ≡ false
    unfolding string_room
    anew_3 zero n h = new_round (table_of g k 0) k 0 F.header.scheme scheme_byte scheme_fine.1 scheme_fine.0 n
    anew_3 (suc zero) n h = new_round (table_of g k 0) k 1 F.header.family family_byte family_fine.1 family_fine.0 n
    anew_3 (suc (suc a)) n h = absurd (omega arith)

    pub anew_4 : (a n : ℕ) → a < 2 → nonstandard (table_of g k 0) k a n ≡ false
    unfolding string_room
    anew_4 zero n h = new_plain (table_of g k 0) k 0 F.header.scheme scheme_byte scheme_fine.1 scheme_fine.0 n
    anew_4 (suc zero) n h = new_plain (table_of g k 0) k 1 F.header.family family_byte family_fine.1 family_fine.0 n
    anew_4 (suc (suc a)) n h = absurd (omega arith)

  module _ (bytes : (n : ℕ) → get_or f n 0 < 256) where
    -- 5: the design size is the file's
    design_byte : (j : ℕ) → j < 4 → byte_of (table_of g k 0) 1 j ≡ byte_of (table_of f l 0) 1 j
    unfolding header_byte listed_of flagged listed_plain
    design_byte j h = header_byte_lem F 1 j (omega arith) h ∙ word_byte_is (table_of f l 0) 1 j (λ n. table_small f l 0 1 n bytes) h

    pub anew_5 : bad_design_size (table_of f l 0) ≡ false → bad_design_size (table_of g k 0) ≡ false
    unfolding bad_design_size
    anew_5 old = rw (design_byte 0 (omega arith), design_byte 1 (omega arith)) old

    -- 7: so are the parameters
    count_is : length F.parameters ≡ l.np
    unfolding listed_of flagged listed_plain
    count_is = length_tabulate (word_of (table_of f l 9)) l.np

    parameter_first : (i : ℕ) → i < l.np → byte_of (table_of g k 9) i 0 ≡ byte_of (table_of f l 9) i 0
    unfolding listed_of flagged listed_plain
    parameter_first i h =
        parameter_byte F i 0 (omega (arith, count_is)) (omega arith)
        ∙ ap (λ (w : ℕ). word_byte w 0) (get_or_tabulate (word_of (table_of f l 9)) l.np i h)
        ∙ word_byte_is (table_of f l 9) i 0 (λ n. table_small f l 9 i n bytes) (omega arith)

    pub anew_7 : (i : ℕ) → i < l.np → bad_parameter (table_of f l 9) (i + 1) ≡ false → bad_parameter (table_of g k 9) (i + 1) ≡ false
    unfolding bad_parameter too_big
    anew_7 i h old = let e : i + 1 - 1 ≡ i = omega arith in rw (e, parameter_first i h) (rw e at old)

-- 9: a word's first byte is 0 or 255
abbrev Small : ℕ → Type 0
Small w = (word_byte w 0 ≡ 0) ⊎ (word_byte w 0 ≡ 255)

small_zero : Small 0
unfolding word_byte
small_zero = inl refl

not_big : (t : List ℕ) (i w : ℕ) → byte_of t i 0 ≡ word_byte w 0 → Small w → too_big t i ≡ false
unfolding too_big
not_big t i w e h = ⊎_elim
    (λ (q : word_byte w 0 ≡ 0). rw (eq-eqb (byte_of t i 0) 0 (e ∙ q)))
    (λ (q : word_byte w 0 ≡ 255). rw (eq-eqb (byte_of t i 0) 255 (e ∙ q), and-false))
    h

first_of : (b : ℕ) → not (eqb b 0) && not (eqb b 255) ≡ false → (b ≡ 0) ⊎ (b ≡ 255)
first_of b e = elim (ℕ_discrete b 0) [
  | yes q ↦ inl q
  | no q ↦ elim (ℕ_discrete b 255) [
    | yes r ↦ inr r
    | no r ↦ absurd (true≢false (sym (rw (ne_eqb b 0 q, ne_eqb b 255 r)) ∙ e))
  ]
]

-- a table of such words
entry_small : (ws : List ℕ) → ((u : ℕ) → In u ws → Small u) → (b : ℕ) → b < suc (length (ordered ws)) → Small (get_or (0 ∷ ordered ws) b 0)
entry_small ws h zero p = small_zero
entry_small ws h (suc b) p = h _ (out_distinct signed_less ws _ (at_index (ordered ws) b 0 (omega arith)))

module _ (f : List ℕ) (l : Layout) (c : Clear f l) (bytes : (n : ℕ) → get_or f n 0 < 256)
    (old : (t b : ℕ) → 2 ≤ t → t ≤ 7 → (t ≡ 6 → ⊥) → b < count_of l t → too_big (table_of f l t) b ≡ false) where
  abbrev F₀ : Font
  F₀ = listed_of f l

  abbrev g₀ : List ℕ
  g₀ = written (listed_of f l)

  abbrev k₀ : Layout
  k₀ = sizes_for (listed_of f l)

  past_first : (t i : ℕ) → count_of l t ≤ i → byte_of (table_of f l t) i 0 ≡ 0
  unfolding byte_of table_of
  past_first t i h =
      let n = length-take (4 * count_of l t) (drop (4 * start_of l t) f) in
      get_or-eq_default {A = ℕ} (take (4 * count_of l t) (drop (4 * start_of l t) f)) 0 {n = 4 * i + 0} (omega arith)

  -- every word of the file's tables
  old_small : (t i : ℕ) → 2 ≤ t → t ≤ 7 → (t ≡ 6 → ⊥) → Small (word_of (table_of f l t) i)
  unfolding too_big
  old_small t i low high other =
      let e = word_byte_is (table_of f l t) i 0 (λ n. table_small f l t i n bytes) (omega arith) in
      elim (dec_lt i (count_of l t)) [
        | yes h ↦ ⊎_elim (λ (q : byte_of (table_of f l t) i 0 ≡ 0). inl (e ∙ q)) (λ (q : byte_of (table_of f l t) i 0 ≡ 255). inr (e ∙ q)) (first_of _ (old t i low high other h))
        | no h ↦ inl (e ∙ past_first t i (omega arith))
      ]

  cond_small : (b : Bool) (w : ℕ) → Small w → Small (cond b w 0)
  cond_small true w h = h
  cond_small false w h = small_zero

  -- the widths, heights, depths, italics and kerns that are listed
  from_small : (p : ℕ → Bool) (h : ℕ → ℕ) → ((x : ℕ) → Small (h x)) → (u : ℕ) → In u (picked p h 256) → Small u
  from_small p h e u i = go (out_picked p h 256 u i)
    where
      go : {v : ℕ} → From p h 256 v → Small v
      go (from x n q) = e x

  length_small : (t : ℕ) → 2 ≤ t → t ≤ 5 → (b : Bool) (i : ℕ) → Small (cond b (listed_length (table_of f l t) i) 0)
  unfolding listed_length
  length_small t low high b i = cond_small b _ (cond_small (not (eqb i 0) && ltb i (length (table_of f l t) / 4)) _ (old_small t i low (omega arith) (omega arith)))

  word_small : (j : ℕ) → live l (marks_in f l) j ≡ true → 128 ≤ (get_or F₀.program.steps (rank (live l (marks_in f l)) j) no_step).op
      → Small (get_or F₀.program.steps (rank (live l (marks_in f l)) j) no_step).value
  unfolding step_at
  word_small j v q = elim (dec_lt (byte_of (table_of f l 6) j 2) 128) [
    | yes o ↦ absurd (omega (arith, op_is f l c j v o))
    | no o ↦ subst Small (sym (kern_word_is f l c j v (omega arith))) (old_small 7 _ (omega arith) (omega arith) (omega arith))
  ]

  kern_small : {u : ℕ} → Kern F₀.program.steps u → Small u
  kern_small (kern n h o) = go (unrank (live l (marks_in f l)) l.nl n (omega (arith, steps_length f l c))) o
    where
      go : {r : ℕ} → At (live l (marks_in f l)) l.nl r → 128 ≤ (get_or F₀.program.steps r no_step).op → Small (get_or F₀.program.steps r no_step).value
      go (at j a v) q = word_small j v q

  width_small : (x : ℕ) → Small (listed_width (table_of f l) l x)
  unfolding listed_width width_stated
  width_small x =
      cond_small (listed_here (table_of f l) l x) _
      (cond_small (ltb (info_for (table_of f l) l x).width (length (table_of f l 2) / 4)) _ (old_small 2 (info_for (table_of f l) l x).width (omega arith) (omega arith) (omega arith)))

  height_small : (x : ℕ) → Small (listed_height (table_of f l) l x)
  unfolding listed_height
  height_small x = length_small 3 (omega arith) (omega arith) (listed_here (table_of f l) l x) (info_for (table_of f l) l x).height

  depth_small : (x : ℕ) → Small (listed_depth (table_of f l) l x)
  unfolding listed_depth
  depth_small x = length_small 4 (omega arith) (omega arith) (listed_here (table_of f l) l x) (info_for (table_of f l) l x).depth

  italic_small : (x : ℕ) → Small (listed_italic (table_of f l) l x)
  unfolding listed_italic
  italic_small x = length_small 5 (omega arith) (omega arith) (listed_here (table_of f l) l x) (info_for (table_of f l) l x).italic

  pub anew_9_width : (b : ℕ) → b < k₀.nw → too_big (table_of g₀ k₀ 2) b ≡ false
  unfolding sizes_for listed_of flagged listed_plain
  anew_9_width b h =
      not_big (table_of g₀ k₀ 2) b _ (width_byte F₀ b 0 h (omega arith))
      (entry_small F₀.characters.widths (from_small (listed_here (table_of f l) l) (listed_width (table_of f l) l) width_small) b h)

  pub anew_9_height : (b : ℕ) → b < k₀.nh → too_big (table_of g₀ k₀ 3) b ≡ false
  unfolding sizes_for listed_of flagged listed_plain
  anew_9_height b h =
      not_big (table_of g₀ k₀ 3) b _ (height_byte F₀ b 0 h (omega arith))
      (entry_small F₀.characters.heights (from_small (counted (table_of f l) l (listed_height (table_of f l) l)) (listed_height (table_of f l) l) height_small) b h)

  pub anew_9_depth : (b : ℕ) → b < k₀.nd → too_big (table_of g₀ k₀ 4) b ≡ false
  unfolding sizes_for listed_of flagged listed_plain
  anew_9_depth b h =
      not_big (table_of g₀ k₀ 4) b _ (depth_byte F₀ b 0 h (omega arith))
      (entry_small F₀.characters.depths (from_small (counted (table_of f l) l (listed_depth (table_of f l) l)) (listed_depth (table_of f l) l) depth_small) b h)

  pub anew_9_italic : (b : ℕ) → b < k₀.ni → too_big (table_of g₀ k₀ 5) b ≡ false
  unfolding sizes_for listed_of flagged listed_plain
  anew_9_italic b h =
      not_big (table_of g₀ k₀ 5) b _ (italic_byte F₀ b 0 h (omega arith))
      (entry_small F₀.characters.italics (from_small (counted (table_of f l) l (listed_italic (table_of f l) l)) (listed_italic (table_of f l) l) italic_small) b h)

  pub anew_9_kern : (b : ℕ) → b < k₀.nk → too_big (table_of g₀ k₀ 7) b ≡ false
  unfolding sizes_for
  anew_9_kern b h =
      not_big (table_of g₀ k₀ 7) b _ (kern_byte F₀ b 0 h (omega arith))
      (kern_small (out_kerns F₀ _ (at_index (kerns F₀) b 0 h)))
