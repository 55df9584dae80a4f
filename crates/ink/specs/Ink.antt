-- How the listing prints line ends, numbers and character codes (003 §34 to §38).
use Rattle.std.specs.Prelude.{ℕ, zero, suc, ◌+◌, ◌/◌, ◌%◌, Bool, true, false, ◌&&◌, ◌||◌, List, [], ◌∷◌, ◌++◌, leb, eqb}
use Rattle.lent.specs.Write.{Text, byte, lit, ◌▹◌, when, each, codes}

-- three spaces, at each of the levels
abbrev pub indent : ℕ → Text
indent i = lit (codes "   ")

-- §34: the end of a line, and the next begun at a level
unfoldable pub line : ℕ → Text
line level = byte 10 ▹ each level indent

-- the digits of n in a base, of which k are enough: those of n / base, unless that is 0, and then the last
unfoldable pub digits : ℕ → ℕ → ℕ → List ℕ
digits base zero n = []
digits base (suc k) n =
    elim (eqb (n / base) 0) [ true ↦ [] | false ↦ digits base k (n / base) ] ++ ((48 + n % base) ∷ [])

-- a number in decimal
unfoldable pub number : ℕ → Text
number n = lit (digits 10 11 n)

-- §36: a word in octal
unfoldable pub octal : ℕ → Text
octal word = lit (codes " O ") ▹ lit (digits 8 11 word)

unfoldable pub between : ℕ → ℕ → ℕ → Bool
between low high c = leb low c && leb c high

-- a digit or a letter
unfoldable pub alphanumeric : ℕ → Bool
alphanumeric c = between 48 57 c || between 65 90 c || between 97 122 c

-- §38: a character's code: C and itself where letters are asked for and it is a letter or a digit, and otherwise octal
unfoldable pub code : Bool → ℕ → Text
code letters c = when (letters && alphanumeric c) (lit (codes " C ") ▹ byte c) (octal c)
