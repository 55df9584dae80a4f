-- A property list as a tree, and its text as 003 lays it out: three spaces a level.
use Rattle.std.specs.Prelude.{ℕ, zero, suc, ◌+◌, ◌≡◌, Bool, List, [], ◌∷◌, ltb}
use Rattle.lent.specs.Write.{Pen as Place, Text, none, byte, lit, ◌▹◌, when, each, codes, Wrote}
use Rattle.lent.specs.Pens.{place_of}
use Rattle.lent.specs.declared.Pen.{Pen}
use Rattle.ink.specs.Ink as ink
use Rattle.decimal.specs.Text.{text_of}

-- what may stand after a name
pub data Word : Type 0 where
  raw : List ℕ → Word
  code : Bool → ℕ → Word
  oct : ℕ → Word
  dec : ℕ → Word
  real : ℕ → Word

-- with the blank before it: bytes as they are, a character's code (§38), a number in octal (§36), in decimal, and the decimal of a stored word (§40)
unfoldable pub word_text : Word → Text
word_text (raw s) = byte 32 ▹ lit s
word_text (code letters c) = ink.code letters c
word_text (oct n) = ink.octal n
word_text (dec n) = lit (codes " D ") ▹ ink.number n
word_text (real w) = lit (codes " R ") ▹ lit (text_of w)

-- nothing, a name with its words, the same with items inside, items one after the other, one of two by a test, f 0 to f (n - 1) in turn
infixl 60 ◌▸◌
pub data Items : Type 0 where
  empty : Items
  leaf : List ℕ → List Word → Items
  group : List ℕ → List Word → Items → Items
  ◌▸◌ : Items → Items → Items
  choose : Bool → Items → Items → Items
  loop : ℕ → (ℕ → Items) → Items

-- the parts from i on, each where `next` leads from the one before, up to n; k are enough
unfoldable pub jumps : (ℕ → Items) → (ℕ → ℕ) → ℕ → ℕ → ℕ → Items
jumps part next n zero i = empty
jumps part next n (suc k) i = choose (ltb i n) (part i ▸ jumps part next n k (next i)) empty

abbrev pub with_words : Text → List Word → Text
with_words t [] = t
with_words t (w ∷ ws) = with_words (t ▹ word_text w) ws

-- §34: "(", the name and the words; ")" and the end of the line
abbrev pub head : List ℕ → List Word → Text
head name ws = with_words (byte 40 ▹ lit name) ws

unfoldable pub close : ℕ → Text
close level = byte 41 ▹ ink.line level

unfoldable pub render : ℕ → Items → Text
render level empty = none
render level (leaf name ws) = head name ws ▹ close level
render level (group name ws inside) = head name ws ▹ ink.line (level + 1) ▹ render (level + 1) inside ▹ close level
render level (a ▸ b) = render level a ▹ render level b
render level (choose test a b) = when test (render level a) (render level b)
render level (loop n f) = each n (λ i. render level (f i))

-- what a function that prints items ensures: from p, with the items written at a level, comes q
pub record Listed (p : Place) (level : ℕ) (items : Items) (q : Place) : Type 0 where
  pub wrote : Wrote p (render level items) q

-- the same of a pen
pub record Printed (p : Pen) (level : ℕ) (items : Items) (q : Pen) : Type 0 where
  pub same : q.out.ghost_name ≡ p.out.ghost_name
  pub listed : Listed (place_of p) level items (place_of q)
