-- The strings of the copy have nothing left to mend. h is the file's header and h' the copy's.
use Prim.Native.Nat.{ℕ, ◌+◌, ◌-◌, ◌*◌, ◌<◌}
use native.Mathlib.Omega.{arith}
use mathlib.Core.Path.{◌≡◌, refl, sym, ◌∙◌}
use mathlib.Core.Bool.{Bool, true, false, cond, ◌&&◌, ◌||◌, true≢false, and-false, and-eq-true_iff}
use mathlib.Core.List.{List}
use lib.Dec.{leb, ltb, eqb}
use lib.ListN.{get_or}
use borrow.Author.Tests.{leb-true, lt-leb, ne_eqb}
use Rattle.lent.specs.Answer.{first}
use Rattle.tfm.specs.declared.Layout.{Layout}
use Rattle.faults.specs.Header.{string_start, string_room, is_read, string_byte, string_too_long, string_length, in_string, parenthesis, nonstandard}
use Rattle.mend.specs.Copy.{mended_string, mended_header}
use Rattle.mend.proofs.Twice.{place_again}

-- a choice by `first` is a choice by `cond`
first_cond : (b : Bool) (n m : ℕ) → first b n m ≡ cond b n m
unfolding first
first_cond true n m = refl
first_cond false n m = refl

-- what 3 and 4 look for: a character with both mended is neither
abbrev paren : ℕ → Bool
paren b = eqb b 40 || eqb b 41

abbrev outside : ℕ → Bool
outside b = ltb b 32 || ltb 126 b

record Standard (b : ℕ) : Type 0 where
  plain : paren b ≡ false
  inside : outside b ≡ false

standard : (b : ℕ) → Standard (first (paren b) 47 (first (outside b) 63 b))
unfolding first
standard b = go (paren b) (outside b) refl refl
  where
    go : (p q : Bool) → paren b ≡ p → outside b ≡ q → Standard (first p 47 (first q 63 b))
    go true q x y = record { plain = refl; inside = refl }
    go false true x y = record { plain = refl; inside = refl }
    go false false x y = record { plain = x; inside = y }

-- the length byte is no character
not_start : (h : List ℕ) (l : Layout) (string n : ℕ) → in_string h l string n ≡ true → n ≡ 0 → ⊥
unfolding in_string
not_start h l string n q z = true≢false (sym q ∙ rw (z, and-false))

-- the length of h' is mended, where it is read
module _ (h h' : List ℕ) (l : Layout) (string : ℕ) (start : is_read l string ≡ true → string_byte h' string 0 ≡ mended_string h l string 0) where
  start_mended : is_read l string ≡ true → string_byte h' string 0 ≡ string_length h l string
  unfolding mended_string parenthesis nonstandard in_string string_length first
  start_mended q = start q ∙ rw q (first_cond (string_too_long h l string) 1 (string_byte h string 0))

  -- a mended length is below the room: 1, or as it was
  in_room : is_read l string ≡ true → leb (string_room string) (string_length h l string) ≡ false
  unfolding string_too_long string_length string_room
  in_room q = rw q (go (eqb string 0))
    where
      small : (n b : ℕ) → 1 < n → leb n (cond (leb n b) 1 b) ≡ false
      small n b m = cases (leb n b) refl
        where
          cases : (t : Bool) → leb n b ≡ t → leb n (cond t 1 b) ≡ false
          cases true x = lt-leb n 1 m
          cases false x = x

      go : (b : Bool) → leb (cond b 40 20) (cond (leb (cond b 40 20) (string_byte h string 0)) 1 (string_byte h string 0)) ≡ false
      go true = small 40 (string_byte h string 0) (omega arith)
      go false = small 20 (string_byte h string 0) (omega arith)

  -- so 2 is no longer there
  short : string_too_long h' l string ≡ false
  unfolding string_too_long
  short = go (is_read l string) refl
    where
      go : (b : Bool) → is_read l string ≡ b → b && leb (string_room string) (string_byte h' string 0) ≡ false
      go true q = rw (start_mended q) (in_room q)
      go false q = refl

  -- and the same bytes are characters
  same_length : is_read l string ≡ true → string_length h' l string ≡ string_length h l string
  unfolding string_length
  same_length q = rw short (start_mended q)

  same_string : (n : ℕ) → in_string h' l string n ≡ in_string h l string n
  unfolding in_string
  same_string n = go (is_read l string) refl
    where
      go : (b : Bool) → is_read l string ≡ b → b && leb 1 n && leb n (string_length h' l string) ≡ b && leb 1 n && leb n (string_length h l string)
      go true q = rw (same_length q)
      go false q = refl

  -- byte n of h' is mended: where it is a character, 3 and 4 are no longer there
  module _ (n : ℕ) (at : string_byte h' string n ≡ mended_string h l string n) where
    good : in_string h l string n ≡ true → Standard (string_byte h' string n)
    unfolding mended_string parenthesis nonstandard first
    good q = rw (at, ne_eqb n 0 (not_start h l string n q), q) (standard (string_byte h string n))

    no_parenthesis : parenthesis h' l string n ≡ false
    unfolding parenthesis
    no_parenthesis = rw (same_string n) (go (in_string h l string n) refl)
      where
        go : (b : Bool) → in_string h l string n ≡ b → b && paren (string_byte h' string n) ≡ false
        go true q = (good q).plain
        go false q = refl

    all_standard : nonstandard h' l string n ≡ false
    unfolding nonstandard
    all_standard = rw (same_string n) (go (in_string h l string n) refl)
      where
        go : (b : Bool) → in_string h l string n ≡ b → b && outside (string_byte h' string n) ≡ false
        go true q = (good q).inside
        go false q = refl

    -- so what is made of it is it
    string_again : mended_string h' l string n ≡ mended_string h l string n
    unfolding mended_string first
    string_again = rw (short, and-false, no_parenthesis, all_standard) at

-- each byte of h' is mended
module _ (h h' : List ℕ) (l : Layout) (bytes : (i : ℕ) → i < 4 * l.lh → get_or h' i 0 ≡ mended_header h l i) where
  -- the two lengths lie in the header, where they are read
  scheme_start : is_read l 0 ≡ true → string_byte h' 0 0 ≡ mended_string h l 0 0
  unfolding is_read string_byte string_start mended_header
  scheme_start q = let p = leb-true 12 l.lh q in bytes 8 (omega arith)

  family_start : is_read l 1 ≡ true → string_byte h' 1 0 ≡ mended_string h l 1 0
  unfolding is_read string_byte string_start mended_header
  family_start q = let p = leb-true 17 l.lh q in bytes 48 (omega arith)

  -- what is made of a byte of h' is it
  pub header_again : (i : ℕ) → i < 4 * l.lh → mended_header h' l i ≡ mended_header h l i
  unfolding mended_header string_byte string_start
  header_again i p =
      place_again (leb 8 i && ltb i 48) _ _ _ _ _ (bytes i p) scheme (λ q. place_again (leb 48 i && ltb i 68) _ _ _ _ _ q family (λ e. e))
    where
      scheme : leb 8 i && ltb i 48 ≡ true → get_or h' i 0 ≡ mended_string h l 0 (i - 8) → mended_string h' l 0 (i - 8) ≡ mended_string h l 0 (i - 8)
      scheme t at =
          let low = leb-true 8 i ((and-eq-true_iff (leb 8 i) _).0 t).0 in
          let n : 8 + (i - 8) ≡ i = omega arith in
          string_again h h' l 0 scheme_start (i - 8) (rw n at)

      family : leb 48 i && ltb i 68 ≡ true → get_or h' i 0 ≡ mended_string h l 1 (i - 48) → mended_string h' l 1 (i - 48) ≡ mended_string h l 1 (i - 48)
      family t at =
          let low = leb-true 48 i ((and-eq-true_iff (leb 48 i) _).0 t).0 in
          let n : 48 + (i - 48) ≡ i = omega arith in
          string_again h h' l 1 family_start (i - 48) (rw n at)
