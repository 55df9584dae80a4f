-- The strings of the file read back are spelled again as they were.
use Prim.Native.Nat.{ℕ, zero, suc, ◌+◌, ◌-◌, ◌<◌}
use native.Mathlib.Decide.{dec_le}
use native.Mathlib.Omega.{arith}
use mathlib.Core.Path.{◌≡◌, refl, ap, ◌∙◌}
use mathlib.Core.Bool.{Bool, true, false, cond, ◌&&◌, and-eq-true_iff, and-false}
use mathlib.Core.List.{List, [], ◌∷◌}
use lib.Dec.{leb, eqb}
use lib.ListN.{length, get_or}
use borrow.Author.Tests.{le-leb, lt-leb, eq-eqb, ne_eqb, eqb-true}
use Rattle.stated.proofs.FontBack.{letters_length}
use Rattle.tfm.specs.Subfiles.{table_of}
use Rattle.tfm.specs.declared.Layout.{Layout}
use Rattle.faults.specs.Header.{string_room, string_byte, upper}
use Rattle.mend.specs.Findings.{any_mend}
use Rattle.header.specs.Header.{letters_from, spelled}
use Rattle.font.specs.Font.{Font}
use Rattle.building.specs.Written.{letters_byte, sizes_for, written}
use Rattle.forest.specs.Forest.{past}
use Rattle.font.specs.Told.{unspecified}
use Rattle.font.specs.Read.{flagged}
use Rattle.stated.specs.Listed.{listed_plain, listed_of}
use Rattle.clean.proofs.Absent.{no_2, no_3, no_4}
use Rattle.promise.proofs.AnewWords.{scheme_byte, family_byte, scheme_fine, family_fine}
use Rattle.promise.proofs.AgainLists.{same_list}

-- letters in upper case
raised : List ℕ → Bool
raised [] = true
raised (b ∷ bs) = eqb (upper b) b && raised bs

raised_at : (s : List ℕ) (j : ℕ) → raised s ≡ true → upper (get_or s j 0) ≡ get_or s j 0
unfolding raised upper
raised_at [] j e = refl
raised_at (b ∷ bs) zero e = eqb-true (upper b) b ((and-eq-true_iff (eqb (upper b) b) (raised bs)).0 e).0
raised_at (b ∷ bs) (suc j) e = raised_at bs j ((and-eq-true_iff (eqb (upper b) b) (raised bs)).0 e).1

-- upper case of upper case is the same
upper_twice : (b : ℕ) → upper (upper b) ≡ upper b
unfolding upper
upper_twice b = elim (dec_le 97 b) [
  | yes p ↦ elim (dec_le b 122) [
    | yes q ↦ rw (le-leb 97 b p, le-leb b 122 q) (rw (lt-leb 97 (b - 32) (omega arith)))
    | no q ↦ rw (lt-leb b 122 (omega arith), and-false) (rw (lt-leb b 122 (omega arith), and-false))
  ]
  | no p ↦ rw (lt-leb 97 b (omega arith)) (rw (lt-leb 97 b (omega arith)))
]

letters_raised : (h : List ℕ) (string i n : ℕ) → raised (letters_from h string i n) ≡ true
unfolding raised letters_from
letters_raised h string i zero = refl
letters_raised h string i (suc n) = rw (eq-eqb _ _ (upper_twice (string_byte h string (i + 1)))) (letters_raised h string (i + 1) n)

blanks_raised : (s : List ℕ) → raised s ≡ true → raised (past s) ≡ true
unfolding raised past
blanks_raised [] e = refl
blanks_raised (b ∷ bs) e = go (eqb b 32) (blanks_raised bs ((and-eq-true_iff (eqb (upper b) b) (raised bs)).0 e).1)
  where
    go : (t : Bool) → raised (past bs) ≡ true → raised (elim t [ true ↦ past bs | false ↦ b ∷ bs ]) ≡ true
    go true h = h
    go false h = e

-- blanks go once
blanks_twice : (s : List ℕ) → past (past s) ≡ past s
unfolding past
blanks_twice [] = refl
blanks_twice (b ∷ bs) = go (eqb b 32) refl (blanks_twice bs)
  where
    go : (t : Bool) → eqb b 32 ≡ t → past (past bs) ≡ past bs → past (elim t [ true ↦ past bs | false ↦ b ∷ bs ]) ≡ elim t [ true ↦ past bs | false ↦ b ∷ bs ]
    go true q h = h
    go false q h = rw (q, past)

letter_at : (h : List ℕ) (string i n j : ℕ) → j < n → get_or (letters_from h string i n) j 0 ≡ upper (string_byte h string (i + j + 1))
unfolding letters_from
letter_at h string i zero j q = absurd (omega arith)
letter_at h string i (suc n) zero q = let e : i + 0 ≡ i = omega arith in rw e
letter_at h string i (suc n) (suc j) q = let e : i + suc j ≡ i + 1 + j = omega arith in rw e (letter_at h string (i + 1) n j (omega arith))

-- a string that holds such letters is spelled by them
module _ (h : List ℕ) (a : ℕ) (letters : List ℕ) (bytes : (n : ℕ) → n < string_room a → string_byte h a n ≡ letters_byte letters n)
    (short : length letters < string_room a) (high : raised letters ≡ true) (bare : past letters ≡ letters) where
  first_byte : string_byte h a 0 ≡ length letters
  unfolding letters_byte
  first_byte = bytes 0 (omega arith)

  letter_byte : (j : ℕ) → j < length letters → string_byte h a (0 + j + 1) ≡ get_or letters j 0
  unfolding letters_byte
  letter_byte j q =
      let e : 0 + j + 1 - 1 ≡ j = omega arith in
      bytes (0 + j + 1) (omega arith) ∙ rw (ne_eqb (0 + j + 1) 0 (omega arith), e)

  spelled_is : spelled h a ≡ letters
  unfolding spelled
  spelled_is =
      let n : length (letters_from h a 0 (length letters)) ≡ length letters = letters_length h a 0 (length letters) in
      rw first_byte
      (same_list 0 (letters_from h a 0 (length letters)) letters n (λ j q.
      letter_at h a 0 (length letters) j (omega arith) ∙ ap upper (letter_byte j (omega arith)) ∙ raised_at letters j high))

  spelled_again : past (spelled h a) ≡ letters
  spelled_again = ap past spelled_is ∙ bare

module _ (f : List ℕ) (l : Layout) (clean : any_mend f l ≡ false) where
  abbrev F : Font
  F = listed_of f l

  abbrev h : List ℕ
  h = table_of f l 0

  -- the letters that a listing states
  scheme_letters : (raised F.header.scheme ≡ true) × (past F.header.scheme ≡ F.header.scheme)
  unfolding listed_of flagged listed_plain spelled raised past upper
  scheme_letters = go (leb 12 l.lh)
    where
      go : (b : Bool) → (raised (cond b (past (spelled h 0)) unspecified) ≡ true) × (past (cond b (past (spelled h 0)) unspecified) ≡ cond b (past (spelled h 0)) unspecified)
      go true = (blanks_raised (spelled h 0) (letters_raised h 0 0 (string_byte h 0 0)), blanks_twice (spelled h 0))
      go false = (refl, refl)

  family_letters : (raised F.header.family ≡ true) × (past F.header.family ≡ F.header.family)
  unfolding listed_of flagged listed_plain spelled raised past upper
  family_letters = go (leb 17 l.lh)
    where
      go : (b : Bool) → (raised (cond b (past (spelled h 1)) unspecified) ≡ true) × (past (cond b (past (spelled h 1)) unspecified) ≡ cond b (past (spelled h 1)) unspecified)
      go true = (blanks_raised (spelled h 1) (letters_raised h 1 0 (string_byte h 1 0)), blanks_twice (spelled h 1))
      go false = (refl, refl)

  pub scheme_again : past (spelled (table_of (written F) (sizes_for F) 0) 0) ≡ F.header.scheme
  unfolding string_room
  scheme_again =
      spelled_again (table_of (written F) (sizes_for F) 0) 0 F.header.scheme (scheme_byte f l) (scheme_fine f l (no_2 f l clean) (no_3 f l clean) (no_4 f l clean)).1 scheme_letters.0 scheme_letters.1

  pub family_again : past (spelled (table_of (written F) (sizes_for F) 0) 1) ≡ F.header.family
  unfolding string_room
  family_again =
      spelled_again (table_of (written F) (sizes_for F) 0) 1 F.header.family (family_byte f l) (family_fine f l (no_2 f l clean) (no_3 f l clean) (no_4 f l clean)).1 family_letters.0 family_letters.1
