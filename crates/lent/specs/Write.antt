-- Text written into a lent buffer. A `Pen` is the buffer and the place of the next byte; a place past the buffer's length says that the text did not fit.
-- A `Text` is what is written: `run` writes it, and `flat` is its bytes.
use Rattle.std.specs.Prelude.{ℕ, ◌+◌, ◌≤◌, ◌<◌, ◌≡◌, Bool, cond, List, [], ◌∷◌, ◌++◌, ltb, length, drop, set}
use Prim.Native.Char.{code}
use Prim.Native.String.{String, [] as ends, ◌∷◌ as starts}
use Rattle.lent.specs.Fold.{iterate}

pub data Pen : Type 0 where
  pen : List ℕ → ℕ → Pen

-- one byte: stored if there is room, and otherwise the place is past the end for good
unfoldable pub put1 : Pen → ℕ → Pen
put1 (pen buffer place) b =
    cond (ltb place (length buffer)) (pen (set buffer place b) (place + 1)) (pen buffer (length buffer + 1))

unfoldable pub puts : Pen → List ℕ → Pen
puts p [] = p
puts p (b ∷ bs) = puts (put1 p b) bs

-- nothing, a byte, bytes, one text and then another, one of two by a test, f 0 to f (n - 1) in turn
infixl 60 ◌▹◌
pub data Text : Type 0 where
  none : Text
  byte : ℕ → Text
  lit : List ℕ → Text
  ◌▹◌ : Text → Text → Text
  when : Bool → Text → Text → Text
  each : ℕ → (ℕ → Text) → Text

unfoldable pub run : Pen → Text → Pen
run p none = p
run p (byte b) = put1 p b
run p (lit bs) = puts p bs
run p (t ▹ u) = run (run p t) u
run p (when b t u) = cond b (run p t) (run p u)
run p (each n f) = iterate (λ q i. run q (f i)) p n

unfoldable pub flat : Text → List ℕ
flat none = []
flat (byte b) = b ∷ []
flat (lit bs) = bs
flat (t ▹ u) = flat t ++ flat u
flat (when b t u) = cond b (flat t) (flat u)
flat (each n f) = iterate (λ s i. s ++ flat (f i)) [] n

-- what a function that writes ensures: from p, with t written, comes q
pub record Wrote (p : Pen) (t : Text) (q : Pen) : Type 0 where
  pub is : q ≡ run p t

-- what comes of a text t that is written from the start of the buffer l, where m and the place r are left: it fits, and then it stands in front and
-- the rest is kept; or it does not, and then the place is one past the end
pub data Ended (t : Text) (l m : List ℕ) (r : ℕ) : Type 0 where
  fitted : length (flat t) ≤ length l → r ≡ length (flat t) → m ≡ flat t ++ drop (length (flat t)) l → Ended t l m r
  overflowed : length l < length (flat t) → r ≡ length l + 1 → length m ≡ length l → Ended t l m r

-- a quoted text's bytes
abbrev pub codes : String → List ℕ
codes ends = []
codes (starts c s) = code c ∷ codes s
