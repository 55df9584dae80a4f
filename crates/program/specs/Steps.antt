-- The ligature program: what a step says, and where programs start. infos and s are the tables char_info and lig_kern; a step that is not there reads as zeros.
use Rattle.std.specs.Prelude.{ℕ, ◌+◌, ◌-◌, ◌*◌, Bool, cond, ◌&&◌, List, ltb, eqb}
use Rattle.tfm.specs.Characters.{byte_of, info_of, in_range}
use Rattle.tfm.specs.declared.Layout.{Layout}

-- 256·byte 2 + byte 3 of step i
unfoldable pub address_of : List ℕ → ℕ → ℕ
address_of s i = byte_of s i 2 * 256 + byte_of s i 3

-- 003 §69: the right boundary character is that of a first step with a first byte of 255; 256 is none
unfoldable pub boundary_char : List ℕ → ℕ
boundary_char s = cond (eqb (byte_of s 0 0) 255) (byte_of s 0 1) 256

-- 003 §69: a last step with a first byte of 255 gives the left boundary a start, its address
unfoldable pub has_boundary : List ℕ → Layout → Bool
has_boundary s l = eqb (byte_of s (l.nl - 1) 0) 255

unfoldable pub boundary_start : List ℕ → Layout → ℕ
boundary_start s l = address_of s (l.nl - 1)

-- 003 §67: where a program starts that a character starts at r: a first step over 128 redirects, once
unfoldable pub redirects : List ℕ → Layout → ℕ → Bool
redirects s l r = ltb r l.nl && ltb 128 (byte_of s r 0)

unfoldable pub redirected : List ℕ → Layout → ℕ → ℕ
redirected s l r = cond (redirects s l r) (address_of s r) r

-- the step after step i, by its skip byte
unfoldable pub next_of : List ℕ → ℕ → ℕ
next_of s i = i + 1 + byte_of s i 0

-- Where the program of a code starts, or nl: it has none. Each code in bc..ec with tag 1 has one, missing or not, unless finding 11 takes it;
-- the left boundary, code 256, has one where there is a boundary start, unless finding 10 takes it; no other code has.
abbrev pub below : Layout → ℕ → ℕ
below l start = cond (ltb start l.nl) start l.nl

unfoldable pub program_of : List ℕ → List ℕ → Layout → ℕ → ℕ
program_of infos s l code =
    cond (eqb code 256) (cond (has_boundary s l) (below l (boundary_start s l)) l.nl)
    (cond (in_range l code && eqb (info_of infos (code - l.bc)).tag 1) (below l (redirected s l (info_of infos (code - l.bc)).remainder)) l.nl)
