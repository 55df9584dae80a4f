-- How a property list is read: a text's bytes give a forest of heads (PLtoTF §27 to §33, §49).
use Rattle.std.specs.Prelude.{ℕ, zero, suc, Bool, true, false, cond, ◌||◌, List, [], ◌∷◌, eqb}
use Rattle.std.proofs.Math.Option.{Option, some, none}
use Rattle.lent.specs.Write.{codes}
use Rattle.ink.specs.Ink.{alphanumeric}
use Rattle.faults.specs.Header.{upper}

-- each node has its head, what stands inside, and what comes after
pub data Forest : Type 0 where
  end : Forest
  node : List ℕ → Forest → Forest → Forest

infixl 60 ◌⊕◌
abbrev pub ◌⊕◌ : Forest → Forest → Forest
end ⊕ g = g
node h a b ⊕ g = node h a (b ⊕ g)

pub data Mark : Type 0 where
  blank line left right other : Mark

-- a line ends with LF, with CR, or with CR LF, which has an empty line between them
abbrev pub ends_line : ℕ → Bool
ends_line b = eqb b 10 || eqb b 13

unfoldable pub mark_of : ℕ → Mark
mark_of b = cond (eqb b 40) left (cond (eqb b 41) right (cond (eqb b 32) blank (cond (ends_line b) line other)))

-- the bytes of s in front of t, the last first
abbrev pub onto : List ℕ → List ℕ → List ℕ
onto [] t = t
onto (b ∷ s) t = onto s (b ∷ t)

-- §28: blanks are passed
unfoldable pub past : List ℕ → List ℕ
past [] = []
past (b ∷ s) = elim (eqb b 32) [ true ↦ past s | false ↦ b ∷ s ]

-- §49: a name is made of letters, digits, "/" and ">"; it is read in upper case
unfoldable pub in_name : ℕ → Bool
in_name b = alphanumeric b || eqb b 47 || eqb b 62

unfoldable pub name_at : List ℕ → List ℕ
name_at [] = []
name_at (b ∷ s) = elim (in_name b) [ true ↦ upper b ∷ name_at s | false ↦ [] ]

unfoldable pub after_name : List ℕ → List ℕ
after_name [] = []
after_name (b ∷ s) = elim (in_name b) [ true ↦ after_name s | false ↦ b ∷ s ]

-- of a head: its name, and what follows the name
unfoldable pub name_of : List ℕ → List ℕ
name_of h = name_at (past h)

unfoldable pub rest_of : List ℕ → List ℕ
rest_of h = after_name (past h)

-- two texts are the same
unfoldable pub same : List ℕ → List ℕ → Bool
same [] [] = true
same [] (c ∷ t) = false
same (b ∷ s) [] = false
same (b ∷ s) (c ∷ t) = elim (eqb b c) [ true ↦ same s t | false ↦ false ]

unfoldable pub is_comment : List ℕ → Bool
is_comment h = same (name_of h) (codes "COMMENT")

-- the groups that are open: each one's head, and what stood before it
pub data Stack : Type 0 where
  bottom : Stack
  above : List ℕ → Forest → Stack → Stack

pub data State : Type 0 where
  -- an item may start, or the group end
  between : Stack → Forest → State
  -- in a head: whether a line starts, and the bytes so far, the last first
  heading : Stack → Forest → Bool → List ℕ → State
  -- in a comment, so many groups deep in it
  skipping : Stack → Forest → ℕ → State
  bad : State

abbrev pub grown : Forest → List ℕ → Forest
grown f h = f ⊕ node h end end

-- §27, §28: the end of a line is a blank, and blanks at the front of a line are passed, to its end if it has nothing else. §33: what a comment holds is passed
unfoldable pub step : State → Mark → ℕ → State
step (between s f) blank b = between s f
step (between s f) line b = between s f
step (between s f) left b = heading s f false []
step (between bottom f) right b = bad
step (between (above h g s) f) right b = between s (g ⊕ node h f end)
step (between s f) other b = bad
step (heading s f starts a) blank b = heading s f starts (cond starts a (b ∷ a))
step (heading s f starts a) line b = heading s f true (cond starts a (32 ∷ a))
step (heading s f starts a) other b = heading s f false (b ∷ a)
step (heading s f starts a) left b =
    cond (is_comment (onto a [])) (skipping s (grown f (onto a [])) 1) (heading (above (onto a []) f s) end false [])
step (heading s f starts a) right b = between s (grown f (onto a []))
step (skipping s f n) left b = skipping s f (suc n)
step (skipping s f zero) right b = between s f
step (skipping s f (suc n)) right b = skipping s f n
step (skipping s f n) blank b = skipping s f n
step (skipping s f n) line b = skipping s f n
step (skipping s f n) other b = skipping s f n
step bad k b = bad

unfoldable pub feed : State → List ℕ → State
feed st [] = st
feed st (b ∷ s) = feed (step st (mark_of b) b) s

abbrev pub finish : State → Option Forest
finish (between bottom f) = some f
finish (between (above h g s) f) = none
finish (heading s f starts a) = none
finish (skipping s f n) = none
finish bad = none

-- a text's forest, if its parentheses are those of a property list
unfoldable pub parse : List ℕ → Option Forest
parse text = finish (feed (between bottom end) text)
