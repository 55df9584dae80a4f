-- The room while its pairs are being settled.
-- An entry's state: 0 settled, to its code; 1, 2, 3 not yet (as the program has it); 4 being settled; 5 never settles.
use Rattle.std.specs.Prelude.{◌≡◌, List, [], ◌∷◌, ℕ, zero, suc, ◌+◌, ◌%◌, ◌<◌, ◌≤◌, length, get_or, set}
use Rattle.settle.specs.Settle.{Step, Settles, Loops, key_of, left_of, right_of, st_of, val_of, step_of, Told}
use Rattle.settle.specs.Needs.{Needs}
use Rattle.settle.specs.declared.State.{State}
use Rattle.settle.specs.declared.State.TheVariants.{Settled as AtRest, Left, Right as OnRight, Both, Held}

-- the number of a state, as the code names it
abbrev pub IsState : State → ℕ → Type 0
IsState AtRest s = s ≡ 0
IsState Left s = s ≡ 1
IsState OnRight s = s ≡ 2
IsState Both s = s ≡ 3
IsState Held s = 4 ≤ s

-- the keys ascend
abbrev pub Sorted : List ℕ → Type 0
Sorted a = (i j : ℕ) → i < j → j < length a → key_of (get_or a i 0) < key_of (get_or a j 0)

-- 1 at a state of a pair not yet being settled
unfoldable pub unit : ℕ → ℕ
unit zero = 0
unit (suc zero) = 1
unit (suc (suc zero)) = 1
unit (suc (suc (suc zero))) = 1
unit (suc (suc (suc (suc s)))) = 0

-- the count of pairs not yet being settled
unfoldable pub live : List ℕ → ℕ
live [] = 0
live (e ∷ es) = unit (st_of e) + live es

-- the entry e is right for the program S, which had p in its place
pub record Entry (S : ℕ → ℕ → Step) (p e : ℕ) : Type 0 where
  pub key : key_of e ≡ key_of p
  pub fresh : 0 < st_of e → st_of e < 4 → e ≡ p
  pub settled : st_of e ≡ 0 → Settles S (left_of e) (right_of e) (val_of e)
  pub loops : st_of e ≡ 5 → Loops S (left_of e) (right_of e)
  pub bare : st_of e ≡ 5 → val_of e ≡ 0
  pub small : st_of e < 6

-- every entry of the room a is right for the program that the room P was
pub record Right (P a : List ℕ) : Type 0 where
  pub long : length P ≡ length a
  pub entry : (i : ℕ) → i < length a → Entry (step_of P) (get_or P i 0) (get_or a i 0)

-- and every pair that is being settled needs the pair (x, y)
pub record Ok (P a : List ℕ) (x y : ℕ) : Type 0 where
  pub all : Right P a
  pub needs : (i : ℕ) → i < length a → st_of (get_or a i 0) ≡ 4 → Needs (step_of P) (left_of (get_or a i 0)) (right_of (get_or a i 0)) x y

-- the room b is right, and r is the outcome of the pair (x, y)
pub record Answer (P b : List ℕ) (x y r : ℕ) : Type 0 where
  pub all : Right P b
  pub told : Told (step_of P) x y r

-- the entry k is of no pair that is yet to be settled
abbrev pub Past : List ℕ → ℕ → Type 0
Past a k = 0 < st_of (get_or a k 0) → st_of (get_or a k 0) < 4 → ⊥

-- what has no outcome in b, settled yet or not, is as it is in a
abbrev pub Old : List ℕ → List ℕ → Type 0
Old a b = (i : ℕ) → 0 < st_of (get_or b i 0) → st_of (get_or b i 0) < 5 → get_or b i 0 ≡ get_or a i 0

-- what asking for a pair does
pub record Looked (a : List ℕ) (x y : ℕ) (b : List ℕ) (r : ℕ) : Type 0 where
  pub long : length b ≡ length a
  pub old : Old a b
  pub sorted : Sorted b
  pub small : (r ≡ 257 → ⊥) → r < 256
  pub answer : (P : List ℕ) → Ok P a x y → Answer P b x y r

-- the entry e with the outcome w
pub record Marked (e w r : ℕ) : Type 0 where
  pub key : key_of r ≡ key_of e
  pub gone : w ≡ 257 → (st_of r ≡ 5) × (val_of r ≡ 0)
  pub kept : (w ≡ 257 → ⊥) → (st_of r ≡ 0) × (val_of r ≡ w % 256)

-- r is the index of the key, or no index is
pub record Found (a : List ℕ) (key r : ℕ) : Type 0 where
  pub here : r < length a → key_of (get_or a r 0) ≡ key
  pub nowhere : length a ≤ r → (i : ℕ) → i < length a → key_of (get_or a i 0) ≡ key → ⊥

-- the entry k is of a pair that is not yet being settled
pub record Fresh (a : List ℕ) (k : ℕ) : Type 0 where
  pub sorted : Sorted a
  pub here : k < length a
  pub low : 0 < st_of (get_or a k 0)
  pub high : st_of (get_or a k 0) < 4

-- the room b is a with the outcome w at k
pub record Stored (a : List ℕ) (k w : ℕ) (b : List ℕ) : Type 0 where
  pub entry : ℕ
  pub marked : Marked (get_or a k 0) w entry
  pub stored : b ≡ set a k entry

-- what settling the pair of the entry k does
pub record Turned (a : List ℕ) (k : ℕ) (b : List ℕ) (r : ℕ) : Type 0 where
  pub looked : Looked a (left_of (get_or a k 0)) (right_of (get_or a k 0)) b r
  pub past : Past b k

-- what visiting the entry k does: no pair is being settled before or after it
abbrev pub Quiet : List ℕ → Type 0
Quiet a = (i : ℕ) → i < length a → st_of (get_or a i 0) ≡ 4 → ⊥

pub record Visited (a : List ℕ) (k : ℕ) (b : List ℕ) : Type 0 where
  pub long : length b ≡ length a
  pub sorted : Sorted b
  pub old : Old a b
  pub past : Past b k
  pub quiet : Quiet b
  pub right : (P : List ℕ) → Right P a → Right P b

-- where an entry may be visited
pub record Visitable (a : List ℕ) (k : ℕ) : Type 0 where
  pub sorted : Sorted a
  pub here : k < length a
  pub quiet : Quiet a

-- the room a once the entries of P below k have been visited
pub record Done (P a : List ℕ) (k : ℕ) : Type 0 where
  pub within : k ≤ length a
  pub sorted : Sorted a
  pub quiet : Quiet a
  pub right : Right P a
  pub past : (i : ℕ) → i < k → Past a i

-- the entry i has a step, and its key is below the next one's
pub record Good (a : List ℕ) (i : ℕ) : Type 0 where
  pub step : st_of (get_or a i 0) < 4
  pub next : i + 1 < length a → key_of (get_or a i 0) < key_of (get_or a (i + 1) 0)
