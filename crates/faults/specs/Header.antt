-- Findings 2 to 8: the header, the parameters and the first entries. h is the table header.
use Rattle.std.specs.Prelude.{ℕ, ◌+◌, ◌-◌, Bool, true, cond, ◌&&◌, ◌||◌, not, List, leb, ltb, eqb, get_or}
use Rattle.lent.specs.Fold.{iterate}
use Rattle.lent.specs.Write.{codes}
use Rattle.tfm.specs.Characters.{byte_of}
use Rattle.tfm.specs.Lengths.{word_of, too_big}
use Rattle.tfm.specs.declared.Layout.{Layout}

-- string 0 is the coding scheme, 40 bytes from byte 8 of the header; string 1 the family, 20 bytes from byte 48
unfoldable pub string_start : ℕ → ℕ
string_start string = cond (eqb string 0) 8 48

unfoldable pub string_room : ℕ → ℕ
string_room string = cond (eqb string 0) 40 20

-- strings are read if lh is at least 12, and 17
unfoldable pub is_read : Layout → ℕ → Bool
is_read l string = leb (cond (eqb string 0) 12 17) l.lh

-- byte n of a string; the length byte is n = 0
unfoldable pub string_byte : List ℕ → ℕ → ℕ → ℕ
string_byte h string n = get_or h (string_start string + n) 0

-- 2: a string has a first byte of 40, or 20, or more
unfoldable pub string_too_long : List ℕ → Layout → ℕ → Bool
string_too_long h l string = is_read l string && leb (string_room string) (string_byte h string 0)

-- its length with that mended, and whether byte n is one of its characters
unfoldable pub string_length : List ℕ → Layout → ℕ → ℕ
string_length h l string = cond (string_too_long h l string) 1 (string_byte h string 0)

unfoldable pub in_string : List ℕ → Layout → ℕ → ℕ → Bool
in_string h l string n = is_read l string && leb 1 n && leb n (string_length h l string)

-- 3: a parenthesis at byte n
unfoldable pub parenthesis : List ℕ → Layout → ℕ → ℕ → Bool
parenthesis h l string n = in_string h l string n && (eqb (string_byte h string n) 40 || eqb (string_byte h string n) 41)

-- 4: byte n outside 32..126
unfoldable pub nonstandard : List ℕ → Layout → ℕ → ℕ → Bool
nonstandard h l string n = in_string h l string n && (ltb (string_byte h string n) 32 || ltb 126 (string_byte h string n))

-- 5: design size negative or under 1
unfoldable pub bad_design_size : List ℕ → Bool
bad_design_size h = ltb 127 (byte_of h 1 0) || eqb (byte_of h 1 0) 0 && ltb (byte_of h 1 1) 16

-- schemes are compared in upper case
unfoldable pub upper : ℕ → ℕ
upper b = cond (leb 97 b && leb b 122) (b - 32) b

unfoldable pub same_letter : List ℕ → List ℕ → Bool → ℕ → Bool
same_letter h text same i = same && eqb (upper (string_byte h 0 (i + 1))) (get_or text i 0)

-- the scheme starts with these 11 letters
unfoldable pub scheme_starts : List ℕ → Layout → List ℕ → Bool
scheme_starts h l text = is_read l 0 && leb 11 (string_length h l 0) && iterate (same_letter h text) true 11

-- 003 §53: the kind of font
unfoldable pub math_symbols : List ℕ → Layout → Bool
math_symbols h l = scheme_starts h l (codes "TEX MATH SY")

unfoldable pub math_extension : List ℕ → Layout → Bool
math_extension h l = scheme_starts h l (codes "TEX MATH EX")

-- 6: parameter count other than 22 (scheme starts TEX MATH SY) or 13 (TEX MATH EX)
unfoldable pub unusual_count : List ℕ → Layout → Bool
unusual_count h l = math_symbols h l && not (eqb l.np 22) || math_extension h l && not (eqb l.np 13)

-- 7: parameter i, not the first, with a first byte other than 0 or 255
unfoldable pub bad_parameter : List ℕ → ℕ → Bool
bad_parameter params i = leb 2 i && too_big params (i - 1)

-- 8: entry 0 of a table is not zero
unfoldable pub not_zero : List ℕ → Bool
not_zero t = not (eqb (word_of t 0) 0)
