-- The mended copy of an accepted file of bytes is sound.
use Prim.Native.Nat.{ℕ, zero, suc, ◌+◌, ◌-◌, ◌*◌, ◌/◌, ◌%◌, ◌≤◌, ◌<◌}
use native.Mathlib.Nat.{mod-lt}
use native.Mathlib.Decide.{dec_lt, ℕ_discrete}
use native.Mathlib.Omega.{arith}
use mathlib.Core.Path.{◌≡◌, refl, sym, ◌∙◌}
use mathlib.Core.Bool.{Bool, true, false, cond, ◌&&◌, ◌||◌, not, true≢false}
use mathlib.Core.List.{List, [], ◌∷◌, ◌++◌, append-nil}
use mathlib.Core.Logic.{◌⊎◌, inl, inr, ⊎_elim}
use lib.Dec.{leb, ltb, eqb}
use lib.ListN.{length, get_or, take, drop, set, replicate, length-take, get_or-eq_default}
use lib.Seq.{get_or-take, get_or-drop, get_or-set_same, get_or-set_other, set_out}
use borrow.Author.Tests.{le-leb, lt-ltb, le-ltb, lt-leb, ne_eqb, eq-eqb, eqb-true, eqb-false, ltb-false, ltb-true, leb-true, leb-false}
use Rattle.lent.specs.Answer.{first}
use Rattle.lent.specs.Fold.{iterate}
use Rattle.tfm.specs.Sizes.{over, any_over, chars, layout_number, number_of}
use Rattle.tfm.specs.Subfiles.{count_of, start_of, table_of}
use Rattle.tfm.specs.Characters.{byte_of, info_of, untagged}
use Rattle.tfm.specs.Lengths.{word_of, too_big}
use Rattle.tfm.specs.declared.Layout.{Layout}
use Rattle.tfm.proofs.Accepted.{fails, passed}
use Rattle.program.specs.Steps.{redirects, redirected, next_of}
use Rattle.program.specs.Marks.{store_if, mark_first, mark_last, mark_label, mark_info, mark_step, marks_from, marks_of}
use Rattle.faults.specs.Header.{string_start, string_room, is_read, string_byte, string_too_long, string_length, in_string, parenthesis, nonstandard, bad_parameter, upper}
use Rattle.mend.specs.Copy.{mended_string, mended_header, loses_tag, mended_info, mended_length, mended_step, mended_piece, mended_parameter, mended_in, mended}
use Rattle.mend.proofs.Back.{copy_byte, copy_past}
use Rattle.mend.proofs.Kept.{not_big, cleared}
use Rattle.mend.proofs.Strings.{header_again}
use Rattle.header.specs.Header.{letters_from, spelled}
use Rattle.reading.specs.Heads.{any, small, bound_of}
use Rattle.reading.proofs.Reals.{Bounded}
use Rattle.stated.proofs.Header.{Spelt, no_letter, letter, any_word}
use Rattle.stated.proofs.Whole.{Sound}

-- the first and the last of eleven tests
ends_false : (a b c d e f g h i j k : Bool) → (a || b || c || d || e || f || g || h || i || j || k) ≡ false → (a ≡ false) × (k ≡ false)
ends_false true b c d e f g h i j k z = absurd (true≢false z)
ends_false false true c d e f g h i j k z = absurd (true≢false z)
ends_false false false true d e f g h i j k z = absurd (true≢false z)
ends_false false false false true e f g h i j k z = absurd (true≢false z)
ends_false false false false false true f g h i j k z = absurd (true≢false z)
ends_false false false false false false true g h i j k z = absurd (true≢false z)
ends_false false false false false false false true h i j k z = absurd (true≢false z)
ends_false false false false false false false false true i j k z = absurd (true≢false z)
ends_false false false false false false false false false true j k z = absurd (true≢false z)
ends_false false false false false false false false false false true k z = absurd (true≢false z)
ends_false false false false false false false false false false false true z = absurd (true≢false z)
ends_false false false false false false false false false false false false z = (refl, refl)

-- bytes
first_low : (b : Bool) (v x : ℕ) → v < 256 → x < 256 → first b v x < 256
unfolding first
first_low true v x h k = h
first_low false v x h k = k

cond_low : (b : Bool) (x y : ℕ) → x < 256 → y < 256 → cond b x y < 256
cond_low true x y h k = h
cond_low false x y h k = k

take_low : (s : List ℕ) (n i : ℕ) → ((j : ℕ) → get_or s j 0 < 256) → get_or (take n s) i 0 < 256
take_low s n i low =
    elim (dec_lt i n) [
      | yes h ↦ rw (get_or-take n s i 0 h) (low i)
      | no h ↦ (let z : get_or (take n s) i 0 ≡ 0 = get_or-eq_default (take n s) 0 (rw (length-take n s) (omega arith)) in omega arith)
    ]

-- every mend makes a byte
module _ (infos s m : List ℕ) (l : Layout) (d : List ℕ) (low : (j : ℕ) → get_or d j 0 < 256) where
  string_low : (string n : ℕ) → mended_string d l string n < 256
  unfolding mended_string string_byte
  string_low string n =
      first_low (eqb n 0 && string_too_long d l string) 1 _ (omega arith)
      (first_low (parenthesis d l string n) 47 _ (omega arith) (first_low (nonstandard d l string n) 63 _ (omega arith) (low (string_start string + n))))

  header_low : (i : ℕ) → mended_header d l i < 256
  unfolding mended_header
  header_low i = cond_low (leb 8 i && ltb i 48) _ _ (string_low 0 (i - 8)) (cond_low (leb 48 i && ltb i 68) _ _ (string_low 1 (i - 48)) (low i))

  info_low : (i : ℕ) → mended_info d s l i < 256
  unfolding mended_info
  info_low i =
      cond_low (eqb (i % 4) 2) _ _ (first_low (loses_tag d s l (l.bc + i / 4)) (untagged (get_or d i 0)) _ (omega (arith, low i)) (low i)) (low i)

  step_low : (i : ℕ) → mended_step infos d m l i < 256
  unfolding mended_step
  step_low i =
      let bc : l.bc % 256 < 256 = mod-lt l.bc (omega arith) in
      cond_low (eqb (i % 4) 0) _ _ (first_low _ 128 _ (omega arith) (low i))
      (cond_low (eqb (i % 4) 1) _ _ (first_low _ (l.bc % 256) _ bc (low i))
      (cond_low (eqb (i % 4) 2) _ _ (first_low _ 0 _ (omega arith) (low i)) (first_low _ (l.bc % 256) _ bc (low i))))

  mended_low : (k i : ℕ) → mended_in infos s m l k d i < 256
  unfolding mended_in mended_piece mended_parameter mended_length
  mended_low k i =
      cond_low (eqb k 0) _ _ (header_low i)
      (cond_low (eqb k 1) _ _ (info_low i)
      (cond_low (eqb k 6) _ _ (step_low i)
      (cond_low (eqb k 8) _ _ (first_low _ 0 _ (omega arith) (low i))
      (cond_low (eqb k 9) _ _ (first_low _ 0 _ (omega arith) (low i)) (first_low _ 0 _ (omega arith) (low i))))))

-- the marks are 0, 1 and 2
abbrev Marks : List ℕ → Type 0
Marks m = (i : ℕ) → get_or m i 0 ≤ 2

set_marks : (m : List ℕ) (k v : ℕ) → v ≤ 2 → Marks m → Marks (set m k v)
set_marks m k v h low i =
    elim (ℕ_discrete i k) [
      | no n ↦ rw (get_or-set_other m k i v 0 n) (low i)
      | yes q ↦ elim (dec_lt k (length m)) [
        | yes b ↦ (let z : get_or (set m k v) i 0 ≡ v = rw q (get_or-set_same m k v 0 b) in omega arith)
        | no b ↦ rw (set_out m k v (omega arith)) (low i)
      ]
    ]

store_marks : (test : Bool) (m : List ℕ) (k v : ℕ) → v ≤ 2 → Marks m → Marks (store_if test m k v)
unfolding store_if
store_marks true m k v h low = set_marks m k v h low
store_marks false m k v h low = low

iterate_marks : (g : List ℕ → ℕ → List ℕ) (m : List ℕ) (n : ℕ) → ((x : List ℕ) (i : ℕ) → Marks x → Marks (g x i)) → Marks m → Marks (iterate g m n)
unfolding iterate
iterate_marks g m zero h low = low
iterate_marks g m (suc n) h low = h _ n (iterate_marks g m n h low)

none_marked : (n : ℕ) → Marks (replicate n 0)
none_marked zero i = omega arith
none_marked (suc n) zero = omega arith
none_marked (suc n) (suc i) = none_marked n i

pub all_marks : (infos s : List ℕ) (l : Layout) → Marks (marks_of infos s l)
unfolding marks_of marks_from mark_step mark_info mark_last mark_first mark_label
all_marks infos s l =
    iterate_marks _ _ l.nl (λ m i low. store_marks _ m (next_of s i) 2 (omega arith) low)
    (iterate_marks _ _ (chars l) (λ m i low. label (eqb (info_of infos i).tag 1) m (info_of infos i).remainder low)
    (store_marks _ _ _ 1 (omega arith) (store_marks _ _ _ 2 (omega arith) (store_marks _ _ 0 1 (omega arith) (none_marked 32768)))))
  where
    label : (b : Bool) (m : List ℕ) (r : ℕ) → Marks m → Marks (cond b (store_if (ltb (redirected s l r) l.nl) (store_if (redirects s l r && ltb (redirected s l r) l.nl && eqb (get_or m r 0) 0) m r 1) (redirected s l r) 2) m)
    label true m r low = store_marks _ _ _ 2 (omega arith) (store_marks _ m r 1 (omega arith) low)
    label false m r low = low

-- a letter that can be printed is listed in upper case
listed_letter : (b : ℕ) {s : List ℕ} → 32 ≤ b → b ≤ 126 → (b ≡ 40 → ⊥) → (b ≡ 41 → ⊥) → Spelt s → Spelt (upper b ∷ s)
unfolding upper
listed_letter b {s} x y z w r = go (leb 97 b) refl (leb b 122) refl
  where
    small_not : (c : ℕ) → c < 97 → cond (leb 97 c && leb c 122) (c - 32) c ≡ c
    small_not c h = rw (lt-leb 97 c h)

    go : (p : Bool) → leb 97 b ≡ p → (q : Bool) → leb b 122 ≡ q → Spelt (cond (p && q) (b - 32) b ∷ s)
    go true e true d =
        let lo = leb-true 97 b e in let hi = leb-true b 122 d in
        letter {b = b - 32} (omega arith) (omega arith) (omega arith) (omega arith) (small_not (b - 32) (omega arith)) r
    go true e false d = letter x y z w (rw (e, d)) r
    go false e q d = letter x y z w (rw e) r

-- a string of a header that has nothing left to mend
module _ (h : List ℕ) (l : Layout) (string : ℕ) (read : is_read l string ≡ true)
    (at : (n : ℕ) → n < string_room string → string_byte h string n ≡ mended_string h l string n) (room : 20 ≤ string_room string) where
  short : leb (string_room string) (string_byte h string 0) ≡ false
  unfolding mended_string string_too_long first
  short = go (leb (string_room string) (string_byte h string 0)) refl
    where
      go : (b : Bool) → leb (string_room string) (string_byte h string 0) ≡ b → b ≡ false
      go true e =
          let z : string_byte h string 0 ≡ 1 = at 0 (omega arith) ∙ rw (read, e) in
          absurd (omega (arith, leb-true (string_room string) (string_byte h string 0) e))
      go false e = refl

  all_in : (n : ℕ) → 1 ≤ n → n ≤ string_byte h string 0 → in_string h l string n ≡ true
  unfolding in_string string_length string_too_long
  all_in n a b = rw (read, short, le-leb 1 n a, le-leb n (string_byte h string 0) b)

  -- the letters are none that a mend would change
  fixed : (n : ℕ) → 1 ≤ n → n ≤ string_byte h string 0
      → (eqb (string_byte h string n) 40 ≡ false) × (eqb (string_byte h string n) 41 ≡ false) × (ltb (string_byte h string n) 32 ≡ false) × (ltb 126 (string_byte h string n) ≡ false)
  unfolding mended_string parenthesis nonstandard first
  fixed n a b =
      let hi = leb-false (string_room string) (string_byte h string 0) short in
      go (string_byte h string n) refl (eqb (string_byte h string n) 40) refl (eqb (string_byte h string n) 41) refl (ltb (string_byte h string n) 32) refl (ltb 126 (string_byte h string n)) refl
      (at n (omega arith) ∙ rw (ne_eqb n 0 (omega arith), all_in n a b))
    where
      go : (c : ℕ) → string_byte h string n ≡ c → (p : Bool) → eqb c 40 ≡ p → (q : Bool) → eqb c 41 ≡ q → (u : Bool) → ltb c 32 ≡ u → (v : Bool) → ltb 126 c ≡ v
          → c ≡ first (p || q) 47 (first (u || v) 63 c) → (p ≡ false) × (q ≡ false) × (u ≡ false) × (v ≡ false)
      go c i true e q d u x v y z = absurd (omega (arith, eqb-true c 40 e))
      go c i false e true d u x v y z = absurd (omega (arith, eqb-true c 41 d))
      go c i false e false d true x v y z = absurd (omega (arith, ltb-true c 32 x))
      go c i false e false d false x true y z = absurd (omega (arith, ltb-true 126 c y))
      go c i false e false d false x false y z = (refl, refl, refl, refl)

  spelt_from : (i k : ℕ) → i + k ≤ string_byte h string 0 → Spelt (letters_from h string i k)
  unfolding letters_from
  spelt_from i zero b = no_letter
  spelt_from i (suc k) b =
      let x = fixed (i + 1) (omega arith) (omega arith) in
      listed_letter (string_byte h string (i + 1)) (ltb-false _ _ x.2) (ltb-false _ _ x.3) (eqb-false _ _ x.0) (eqb-false _ _ x.1) (spelt_from (i + 1) k (omega arith))

  pub spelt : Spelt (spelled h string)
  unfolding spelled
  spelt = spelt_from 0 (string_byte h string 0) (omega arith)

either_byte : (t : List ℕ) (i : ℕ) → too_big t i ≡ false → (byte_of t i 0 ≡ 0) ⊎ (byte_of t i 0 ≡ 255)
unfolding too_big
either_byte t i e = go (eqb (byte_of t i 0) 0) refl (eqb (byte_of t i 0) 255) refl e
  where
    go : (p : Bool) → eqb (byte_of t i 0) 0 ≡ p → (q : Bool) → eqb (byte_of t i 0) 255 ≡ q → (not p && not q) ≡ false → (byte_of t i 0 ≡ 0) ⊎ (byte_of t i 0 ≡ 255)
    go true x q y z = inl (eqb-true (byte_of t i 0) 0 x)
    go false x true y z = inr (eqb-true (byte_of t i 0) 255 y)
    go false x false y z = absurd (true≢false z)

module _ (f : List ℕ) (l : Layout) (later : ℕ) (e : number_of f l later ≡ 0) where
  -- lh and np are below 32,768
  none_over : any_over l ≡ false
  unfolding number_of layout_number
  none_over =
      let e2 = passed _ _ _ e in
      let e3 = passed _ _ _ e2 in
      let e4 = passed _ _ _ e3 in
      let e5 = passed _ _ _ e4 in
      let e6 = passed _ _ _ e5 in
      fails _ _ _ (passed _ _ _ e6)

  in_two : (n : ℕ) → over n ≡ false → n ≤ 32767
  in_two n h = omega (arith, ltb-false 127 (n / 256) h)

  both : (over l.lh ≡ false) × (over l.np ≡ false)
  both = ends_false (over l.lh) (over l.bc) (over l.ec) (over l.nw) (over l.nh) (over l.nd) (over l.ni) (over l.nl) (over l.nk) (over l.ne) (over l.np) none_over

  module _ (low : (i : ℕ) → get_or f i 0 < 256) where
    table_low : (k i : ℕ) → get_or (table_of f l k) i 0 < 256
    unfolding table_of
    table_low k i = take_low (drop (4 * start_of l k) f) (4 * count_of l k) i (λ j. rw (get_or-drop (4 * start_of l k) f j 0) (low (4 * start_of l k + j)))

    abbrev t : ℕ → List ℕ
    t k = table_of (mended f l ++ []) l k

    copy_low : (k i : ℕ) → k ≤ 9 → get_or (t k) i 0 < 256
    copy_low k i h =
        elim (dec_lt i (4 * count_of l k)) [
          | yes p ↦ rw (copy_byte f l later e [] k i h p) (mended_low _ _ _ l (table_of f l k) (table_low k) k i)
          | no p ↦ rw (copy_past f l later e [] k i h (omega arith)) (table_low k i)
        ]

    byte_low : (k i j : ℕ) → k ≤ 9 → byte_of (t k) i j < 256
    unfolding byte_of
    byte_low k i j h = copy_low k (4 * i + j) h

    word_low : (k i : ℕ) → k ≤ 9 → word_of (t k) i < 4294967296
    unfolding word_of
    word_low k i h = omega (arith, byte_low k i 0 h, byte_low k i 1 h, byte_low k i 2 h, byte_low k i 3 h)

    bounded : (k i : ℕ) → k ≤ 9 → (byte_of (t k) i 0 ≡ 0) ⊎ (byte_of (t k) i 0 ≡ 255) → Bounded small (word_of (t k) i)
    unfolding word_of small
    bounded k i h (inl z) = inl (omega (arith, byte_low k i 1 h, byte_low k i 2 h, byte_low k i 3 h))
    bounded k i h (inr z) = inr (omega arith)

    length_bounded : (k i : ℕ) → 2 ≤ k → k ≤ 7 → (k ≡ 6 → ⊥) → Bounded small (word_of (t k) i)
    length_bounded k i a b o = bounded k i (omega arith) (either_byte (t k) i (not_big (table_of f l k) (t k) i (cleared f l later e [] k a b o i)))

    -- a parameter but the first
    parameter_byte : (i : ℕ) → 1 ≤ i → i < l.np → (byte_of (t 9) i 0 ≡ 0) ⊎ (byte_of (t 9) i 0 ≡ 255)
    unfolding byte_of mended_in mended_parameter bad_parameter count_of first
    parameter_byte i a b =
        let w : (4 * i + 0) / 4 + 1 ≡ i + 1 = omega arith in
        let v : i + 1 - 1 ≡ i = omega arith in
        go (too_big (table_of f l 9) i) refl (copy_byte f l later e [] 9 (4 * i + 0) (omega arith) (omega arith) ∙ rw (w, le-leb 2 (i + 1) (omega arith), v))
      where
        go : (x : Bool) → too_big (table_of f l 9) i ≡ x → get_or (t 9) (4 * i + 0) 0 ≡ first x 0 (get_or (table_of f l 9) (4 * i + 0) 0) → (get_or (t 9) (4 * i + 0) 0 ≡ 0) ⊎ (get_or (t 9) (4 * i + 0) 0 ≡ 255)
        go true q z = inl z
        go false q z = ⊎_elim (λ (y : get_or (table_of f l 9) (4 * i + 0) 0 ≡ 0). inl (z ∙ y)) (λ (y : get_or (table_of f l 9) (4 * i + 0) 0 ≡ 255). inr (z ∙ y)) (either_byte (table_of f l 9) i q)

    parameter_bounded : (i : ℕ) → i < l.np → Bounded (bound_of (i + 1)) (word_of (t 9) i)
    unfolding bound_of any
    parameter_bounded i h =
        elim (ℕ_discrete i 0) [
          | yes z ↦ (let q : i + 1 ≡ 1 = omega arith in rw (eq-eqb (i + 1) 1 q) (any_word (word_of (t 9) i) (word_low 9 i (omega arith))))
          | no z ↦ rw (ne_eqb (i + 1) 1 (omega arith)) (bounded 9 i (omega arith) (parameter_byte i (omega arith) h))
        ]

    -- the header has nothing left to mend
    header_bytes : (i : ℕ) → i < 4 * l.lh → get_or (t 0) i 0 ≡ mended_header (table_of f l 0) l i
    unfolding mended_in count_of
    header_bytes i h = copy_byte f l later e [] 0 i (omega arith) h

    header_fixed : (i : ℕ) → i < 4 * l.lh → get_or (t 0) i 0 ≡ mended_header (t 0) l i
    header_fixed i h = header_bytes i h ∙ sym (header_again (table_of f l 0) (t 0) l header_bytes i h)

    scheme_at : 12 ≤ l.lh → (n : ℕ) → n < string_room 0 → string_byte (t 0) 0 n ≡ mended_string (t 0) l 0 n
    unfolding string_byte string_start string_room mended_header
    scheme_at h n b =
        let z : 8 + n - 8 ≡ n = omega arith in
        header_fixed (8 + n) (omega arith) ∙ rw (le-leb 8 (8 + n) (omega arith), lt-ltb (8 + n) 48 (omega arith), z)

    family_at : 17 ≤ l.lh → (n : ℕ) → n < string_room 1 → string_byte (t 0) 1 n ≡ mended_string (t 0) l 1 n
    unfolding string_byte string_start string_room mended_header
    family_at h n b =
        let z : 48 + n - 48 ≡ n = omega arith in
        header_fixed (48 + n) (omega arith) ∙ rw (le-leb 8 (48 + n) (omega arith), le-ltb (48 + n) 48 (omega arith), le-leb 48 (48 + n) (omega arith), lt-ltb (48 + n) 68 (omega arith), z)

    scheme_spelt : leb 12 l.lh ≡ true → Spelt (spelled (t 0) 0)
    unfolding is_read string_room
    scheme_spelt h = spelt (t 0) l 0 h (scheme_at (leb-true 12 l.lh h)) (omega arith)

    family_spelt : leb 17 l.lh ≡ true → Spelt (spelled (t 0) 1)
    unfolding is_read string_room
    family_spelt h = spelt (t 0) l 1 h (family_at (leb-true 17 l.lh h)) (omega arith)

    pub copy_sound : Sound (mended f l) l (marks_of (table_of f l 1) (table_of f l 6) l)
    copy_sound = rw (← append-nil (mended f l)) (record {
      header_short = in_two l.lh both.0;
      parameters_few = in_two l.np both.1;
      bytes = byte_low;
      words = word_low;
      lengths = length_bounded;
      parameters = parameter_bounded;
      scheme = scheme_spelt;
      family = family_spelt;
      marks = all_marks (table_of f l 1) (table_of f l 6) l;
    })
