-- A head as it stands in the text, line ends and all: what a slice of the text says. (For the code, which keeps of a head only where it starts.)
use Rattle.std.specs.Prelude.{ℕ, Bool, true, false, cond, ◌||◌, List, [], ◌∷◌, eqb}
use Rattle.forest.specs.Forest.{ends_line}

-- PLtoTF §27, §28: a line end is a blank, and the blanks after it and further line ends are passed
unfoldable pub normal : Bool → List ℕ → List ℕ
normal starts [] = []
normal starts (b ∷ s) =
    elim (ends_line b) [
      | true ↦ cond starts (normal true s) (32 ∷ normal true s)
      | false ↦ elim (eqb b 32) [
        | true ↦ cond starts (normal true s) (32 ∷ normal false s)
        | false ↦ b ∷ normal false s
      ]
    ]

-- whether a line starts after it
unfoldable pub line_starts : Bool → List ℕ → Bool
line_starts starts [] = starts
line_starts starts (b ∷ s) =
    elim (ends_line b) [ true ↦ line_starts true s | false ↦ elim (eqb b 32) [ true ↦ line_starts starts s | false ↦ line_starts false s ] ]

-- blanks and line ends are passed
unfoldable pub past_raw : List ℕ → List ℕ
past_raw [] = []
past_raw (b ∷ s) = elim (eqb b 32 || ends_line b) [ true ↦ past_raw s | false ↦ b ∷ s ]
