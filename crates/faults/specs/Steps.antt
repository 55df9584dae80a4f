-- Findings 10 to 17: the ligature program. infos and s are the tables char_info and lig_kern, m the marks of the steps.
use Rattle.std.specs.Prelude.{ℕ, ◌-◌, Bool, ◌&&◌, ◌||◌, not, List, leb, ltb, eqb, get_or}
use Rattle.tfm.specs.Characters.{byte_of, info_of, in_range, exists_in}
use Rattle.tfm.specs.declared.Layout.{Layout}
use Rattle.program.specs.Steps.{address_of, boundary_char, has_boundary, boundary_start, redirected, next_of}

-- 10: boundary start not below nl
unfoldable pub bad_boundary : List ℕ → Layout → Bool
bad_boundary s l = has_boundary s l && leb l.nl (boundary_start s l)

-- 11: the start of word k of char_info is not below nl, before or after redirection; of a code, where it lies in bc..ec
unfoldable pub bad_label : List ℕ → List ℕ → Layout → ℕ → Bool
bad_label infos s l k = eqb (info_of infos k).tag 1 && leb l.nl (redirected s l (info_of infos k).remainder)

unfoldable pub bad_start : List ℕ → List ℕ → Layout → ℕ → Bool
bad_start infos s l code = in_range l code && bad_label infos s l (code - l.bc)

-- 12: reachable step i skips to nl or beyond
unfoldable pub skips_too_far : List ℕ → List ℕ → Layout → ℕ → Bool
skips_too_far s m l i = eqb (get_or m i 0) 2 && ltb (byte_of s i 0) 128 && leb l.nl (next_of s i)

-- 13 to 17 look at all steps but those marked passed through
unfoldable pub looked : List ℕ → ℕ → Bool
looked m i = not (eqb (get_or m i 0) 1)

-- 13: a step with a first byte over 128 whose address is not below nl
unfoldable pub bad_address : List ℕ → List ℕ → Layout → ℕ → Bool
bad_address s m l i = looked m i && ltb 128 (byte_of s i 0) && leb l.nl (address_of s i)

-- 14 to 17 look only at those whose first byte is at most 128: kerns, and ligatures
unfoldable pub is_step : List ℕ → List ℕ → ℕ → Bool
is_step s m i = looked m i && leb (byte_of s i 0) 128

unfoldable pub is_ligature : List ℕ → List ℕ → ℕ → Bool
is_ligature s m i = is_step s m i && ltb (byte_of s i 2) 128

-- 14: a step for a missing character that isn't the boundary
unfoldable pub step_for_missing : List ℕ → List ℕ → List ℕ → Layout → ℕ → Bool
step_for_missing infos s m l i =
    is_step s m i && not (exists_in infos l (byte_of s i 1)) && not (eqb (byte_of s i 1) (boundary_char s))

-- 15: a ligature to a missing character
unfoldable pub ligature_to_missing : List ℕ → List ℕ → List ℕ → Layout → ℕ → Bool
ligature_to_missing infos s m l i = is_ligature s m i && not (exists_in infos l (byte_of s i 3))

-- 16: kern index not below nk
unfoldable pub bad_kern : List ℕ → List ℕ → Layout → ℕ → Bool
bad_kern s m l i = is_step s m i && leb 128 (byte_of s i 2) && leb l.nk (address_of s i - 32768)

-- 17: ligature code other than 0 to 3, 5, 6, 7, 11
unfoldable pub odd_code : List ℕ → List ℕ → ℕ → Bool
odd_code s m i = is_ligature s m i && (eqb (byte_of s i 2) 4 || ltb 7 (byte_of s i 2) && not (eqb (byte_of s i 2) 11))
