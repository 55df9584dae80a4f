-- What a pair of codes settles to under a ligature program.
use Rattle.std.specs.Prelude.{◌≡◌, Option, Some, None, List, [], ◌∷◌, Bool, true, false, ◌⊎◌, ℕ, zero, suc, ◌+◌, ◌*◌, ◌/◌, ◌%◌, ◌<◌, ◌≤◌, eqb, length, get_or, take, drop}

-- what a program does at a pair: no step; done with a code; go on with the code on the left, on the right, or with both codes in turn
pub data Step : Type 0 where
  stop : Step
  give : ℕ → Step
  left : ℕ → Step
  right : ℕ → Step
  both : ℕ → Step

-- under the program S, the pair of x and y settles to w
pub data Settles (S : ℕ → ℕ → Step) : ℕ → ℕ → ℕ → Type 0 where
  none : {x y : ℕ} → S x y ≡ stop → Settles S x y y
  done : {x y z : ℕ} → S x y ≡ give z → Settles S x y z
  on_left : {x y z w : ℕ} → S x y ≡ left z → Settles S z y w → Settles S x y w
  on_right : {x y z w : ℕ} → S x y ≡ right z → Settles S x z w → Settles S x y w
  on_both : {x y z v w : ℕ} → S x y ≡ both z → Settles S x z v → Settles S v y w → Settles S x y w

-- the pair never settles
abbrev pub Loops : (ℕ → ℕ → Step) → ℕ → ℕ → Type 0
Loops S x y = (w : ℕ) → Settles S x y w → ⊥

-- An entry of the room packs the left code, the right code (8 bits), a state (3 bits) and a code (8 bits).
abbrev pub key_of : ℕ → ℕ
key_of e = e / 2048

abbrev pub left_of : ℕ → ℕ
left_of e = e / 2048 / 256

abbrev pub right_of : ℕ → ℕ
right_of e = e / 2048 % 256

abbrev pub st_of : ℕ → ℕ
st_of e = e / 256 % 8

abbrev pub val_of : ℕ → ℕ
val_of e = e % 256

-- the step of a state and a code: 0 done, 1 left, 2 right, 3 both
unfoldable pub classed : ℕ → ℕ → Step
classed zero z = give z
classed (suc zero) z = left z
classed (suc (suc zero)) z = right z
classed (suc (suc (suc zero))) z = both z
classed (suc (suc (suc (suc s)))) z = stop

abbrev pub pick : Bool → Step → Step → Step
pick true a b = a
pick false a b = b

-- the first entry with the key says the step
unfoldable pub step_in : List ℕ → ℕ → Step
step_in [] k = stop
step_in (e ∷ es) k = pick (eqb (key_of e) k) (classed (st_of e) (val_of e)) (step_in es k)

-- the program that a list of entries says
unfoldable pub step_of : List ℕ → ℕ → ℕ → Step
step_of es x y = step_in es (x * 256 + y)

-- a program as the room holds it first: the keys ascend, and each entry has a step
pub record Program (a : List ℕ) : Type 0 where
  pub sorted : (i j : ℕ) → i < j → j < length a → key_of (get_or a i 0) < key_of (get_or a j 0)
  pub steps : (i : ℕ) → i < length a → st_of (get_or a i 0) < 4

-- the entry e in the place of the program's entry p: what its pair settles to, or that it never does
abbrev pub Outcome : (ℕ → ℕ → Step) → ℕ → ℕ → Type 0
Outcome S p e =
    ((w : ℕ) × (w < 256) × Settles S (left_of p) (right_of p) w × (e ≡ key_of p * 2048 + w))
    ⊎ (Loops S (left_of p) (right_of p) × (e ≡ key_of p * 2048 + 1280))

-- the room b has the outcome of each pair of the program P
pub record Settled (P b : List ℕ) : Type 0 where
  pub long : length b ≡ length P
  pub entry : (i : ℕ) → i < length P → Outcome (step_of P) (get_or P i 0) (get_or b i 0)

-- r says whether T
pub record Judged (T : Type 0) (r : Bool) : Type 0 where
  pub holds : r ≡ true → T
  pub fails : r ≡ false → T → ⊥

-- the number of an outcome: the code that a pair settles to, or 257 if it never does
abbrev pub outcome_number : Option ℕ → ℕ
outcome_number (Some w) = w
outcome_number None = 257

-- r is what the pair (x, y) settles to, or 257 if it never does
pub record Told (S : ℕ → ℕ → Step) (x y r : ℕ) : Type 0 where
  pub settles : (r ≡ 257 → ⊥) → Settles S x y r
  pub loops : r ≡ 257 → Loops S x y

-- the room b after settle_all on a: the outcomes if a is a program, else a
pub record Ended (a : List ℕ) (r : Bool) (b : List ℕ) : Type 0 where
  pub judged : Judged (Program a) r
  pub settled : r ≡ true → Settled a b
  pub same : r ≡ false → b ≡ a

-- the first n entries of b are those of a settled, if those of a are a program; the others are a's
pub record EndedFirst (a : List ℕ) (n : ℕ) (r : Bool) (b : List ℕ) : Type 0 where
  pub judged : Judged ((n ≤ length a) × Program (take n a)) r
  pub settled : r ≡ true → Settled (take n a) (take n b)
  pub rest : drop n b ≡ drop n a
  pub same : r ≡ false → b ≡ a
