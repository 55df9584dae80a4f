-- The text that TFtoPL 3.2 prints after "R " for a fix_word: 003 §40 to §43, step by step, as ASCII codes
use Rattle.std.specs.Prelude.{ℕ, zero, suc, ◌+◌, ◌-◌, ◌*◌, ◌/◌, ◌%◌, ◌≤◌, ◌<◌, ◌≡◌, Bool, true, false, cond, List, [], ◌∷◌, ◌++◌, leb, ltb}
use Rattle.ink.specs.Ink.{digits}

-- 003 §40, §43: a, the whole part, and f, the rest in parts of 1/1048576 ('4000000); above 2047 ('3777) the word is negative and is reduced to positive
abbrev pub negative : ℕ → Bool
negative w = ltb 2047 (w / 1048576)

unfoldable pub whole : ℕ → ℕ
whole w = cond (negative w) (cond (ltb 0 (w % 1048576)) (4096 - w / 1048576 - 1) (4096 - w / 1048576)) (w / 1048576)

unfoldable pub rest : ℕ → ℕ
rest w = cond (negative w) (cond (ltb 0 (w % 1048576)) (1048576 - w % 1048576) 0) (w % 1048576)

-- 003 §42: `if delta > '4000000 then f := f + '2000000 - (delta div 2)`
unfoldable pub nudged : ℕ → ℕ → ℕ
nudged f delta = cond (ltb 1048576 delta) (f + 524288 - delta / 2) f

-- 003 §42: `repeat .. out(f div '4000000:1); f := 10 * (f mod '4000000); delta := delta * 10; until f <= delta`, at most k turns.
-- (What `out` prints is one digit each time: `shown` of proofs/Demand.antt reads the text back.)
unfoldable pub places : ℕ → ℕ → ℕ → List ℕ
places zero f delta = []
places (suc k) f delta =
    (48 + nudged f delta / 1048576)
    ∷ elim (leb (10 * (nudged f delta % 1048576)) (delta * 10))
    [ true ↦ [] | false ↦ places k (10 * (nudged f delta % 1048576)) (delta * 10) ]

-- "-" for a negative word; 003 §41, the digits of the whole part, at least one; "."; the places.
-- (The whole part is at most 2048, so four digits are enough. `prints` of proofs/Printed.antt: the four and the seven turns are never what ends a loop.)
unfoldable pub text_of : ℕ → List ℕ
text_of w = cond (negative w) (45 ∷ []) [] ++ digits 10 4 (whole w) ++ (46 ∷ places 7 (10 * rest w + 5) 10)

-- The same with no bound on the turns. `Digs a t`: the loop of 003 §41 ends, and t is printed.
pub data Digs : ℕ → List ℕ → Type 0 where
  one : {a : ℕ} → a / 10 ≡ 0 → Digs a ((48 + a % 10) ∷ [])
  next : {a : ℕ} {t : List ℕ} → (a / 10 ≡ 0 → ⊥) → Digs (a / 10) t → Digs a (t ++ ((48 + a % 10) ∷ []))

-- `Turns f delta t`: the loop of 003 §42 ends, having printed t
pub data Turns : ℕ → ℕ → List ℕ → Type 0 where
  last : {f delta : ℕ} → 10 * (nudged f delta % 1048576) ≤ delta * 10 → Turns f delta ((48 + nudged f delta / 1048576) ∷ [])
  more : {f delta : ℕ} {t : List ℕ} → delta * 10 < 10 * (nudged f delta % 1048576)
      → Turns (10 * (nudged f delta % 1048576)) (delta * 10) t
      → Turns f delta ((48 + nudged f delta / 1048576) ∷ t)

-- 003 prints t after "R " for the word w
pub record Prints (w : ℕ) (t : List ℕ) : Type 0 where
  pub whole_text : List ℕ
  pub rest_text : List ℕ
  pub §41 : Digs (whole w) whole_text
  pub §42 : Turns (10 * rest w + 5) 10 rest_text
  pub all : t ≡ cond (negative w) (45 ∷ []) [] ++ whole_text ++ (46 ∷ rest_text)
