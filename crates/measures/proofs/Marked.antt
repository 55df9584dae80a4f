-- The marked examples of the scope: one table, and one theorem about the definitions.
use Prim.Native.Nat.{ℕ}
use Prim.Native.String.{String}
use mathlib.Core.Path.{◌≡◌, refl}
use mathlib.Core.List.{List, [], ◌∷◌}
use Rattle.lent.specs.Write.{codes}
use Rattle.ink.specs.Ink.{digits}
use Rattle.decimal.specs.Text.{whole, rest, nudged, places, text_of}
use Rattle.tfm.specs.Characters.{byte_of, info_of, in_range}
use Rattle.program.specs.Steps.{address_of, has_boundary, boundary_start, redirects, redirected, next_of, program_of}
use Rattle.settle.specs.Settle.{Step, Settles, none, done, on_both, Loops}
use Rattle.settle.specs.Needs.{needs_itself, needs_left, needs_right}
use Rattle.gather.specs.Steps.{hit, next, step_from, act_of, act_at, program_steps}

-- the program of a file with the character A alone, tag 1 and remainder 0, and the one step (128, B, op, z)
unfoldable pub sole : ℕ → ℕ → ℕ → ℕ → Step
sole op z =
    program_steps (1 ∷ 0 ∷ 1 ∷ 0 ∷ []) (128 ∷ 66 ∷ op ∷ z ∷ [])
    (record { lf = 14; lh = 2; bc = 65; ec = 65; nw = 1; nh = 1; nd = 1; ni = 1; nl = 1; nk = 0; ne = 0; np = 0 })

-- a word and its decimal; A B with a sole step, of a code and a ligature character: what it leaves, or that it loops
pub data Example : Type 0 where
  decimal : ℕ → String → Example
  leaves : ℕ → ℕ → ℕ → Example
  loops : ℕ → ℕ → Example

abbrev pub Holds : Example → Type 0
Holds (decimal word text) = text_of word ≡ codes text
Holds (leaves op z w) = Settles (sole op z) 65 66 w
Holds (loops op z) = Loops (sole op z) 65 66

infixr 50 ◌&◌
pub data All : List Example → Type 0 where
  end : All []
  ◌&◌ : {e : Example} {es : List Example} → Holds e → All es → All (e ∷ es)

abbrev pub table : List Example
table =
    decimal 0x0000_0000 "0.0"
    ∷ decimal 0x0000_0001 "0.000001"
    ∷ decimal 0xFFFF_FFFF "-0.000001"
    ∷ decimal 0x0008_0000 "0.5"
    ∷ decimal 0xFFF8_0000 "-0.5"
    ∷ decimal 0x0010_0001 "1.000001"
    ∷ decimal 0x0001_9999 "0.099999"
    ∷ decimal 0x0001_999A "0.1"
    ∷ decimal 0x0000_2000 "0.0078125"
    ∷ decimal 0x7FFF_FFFF "2047.999999"
    ∷ decimal 0x8000_0000 "-2048.0"
    ∷ leaves 0 67 67
    ∷ loops 2 66
    ∷ loops 1 65
    ∷ leaves 5 65 66
    ∷ leaves 3 67 66
    ∷ []

pub marked : All table
unfolding whole rest digits nudged places text_of sole byte_of info_of in_range address_of has_boundary boundary_start redirects redirected next_of program_of hit next step_from act_of act_at program_steps
marked =
    refl & refl & refl & refl & refl & refl & refl & refl & refl & refl & refl
    & done refl & needs_itself (needs_right refl) & needs_itself (needs_left refl) & done refl & on_both refl (none refl) (none refl) & end
