-- What the public functions answer, for a program S and a room of n entries.
use Rattle.std.specs.Prelude.{◌≡◌, Option, Some, None, Result, Ok, Err, ℕ, zero, suc, ◌+◌, ◌*◌, ◌/◌, ◌%◌, ◌<◌, ◌≤◌, List, length, replicate}
use Rattle.settle.specs.Settle.{Step, stop, give, left, right, both, Settles, Loops}
use Rattle.tfm.specs.declared.refusal.Refusal.{Refusal}
use Rattle.tfm.specs.declared.refusal.Refusal.TheVariants.{FewPairs, OutOfRange}
use Rattle.gather.specs.declared.Pair.{Pair}

-- how many pairs have a step: the entries that the room needs
unfoldable pub has : Step → ℕ
has stop = 0
has (give z) = 1
has (left z) = 1
has (right z) = 1
has (both z) = 1

unfoldable pub count_to : (ℕ → ℕ → Step) → ℕ → ℕ
count_to S zero = 0
count_to S (suc k) = count_to S k + has (S (k / 256) (k % 256))

abbrev pub count : (ℕ → ℕ → Step) → ℕ
count S = count_to S 65792

-- every pair settles whose key, 256 * left + right, is below k
abbrev pub SettleBelow : (ℕ → ℕ → Step) → ℕ → Type 0
SettleBelow S k = (x y : ℕ) → y < 256 → x * 256 + y < k → (w : ℕ) × Settles S x y w

-- finding 18: the smallest looping pair, left then right code
pub record SmallestLoop (S : ℕ → ℕ → Step) (x y : ℕ) : Type 0 where
  pub left_code : x < 257
  pub right_code : y < 256
  pub loops : Loops S x y
  pub smallest : SettleBelow S (x * 256 + y)

-- number 14, the smallest pair that loops, or that none does
abbrev pub SmallestAs : (ℕ → ℕ → Step) → ℕ → Result (Option Pair) Refusal → Type 0
SmallestAs S n (Err refusal) = (refusal ≡ FewPairs) × (n < count S)
SmallestAs S n (Ok (Some pair)) = (count S ≤ n) × SmallestLoop S pair.left pair.right
SmallestAs S n (Ok None) = (count S ≤ n) × ((x y : ℕ) → y < 256 → (w : ℕ) × Settles S x y w)

-- the outcome of the pair of x and y: number 17, number 14, the code that it leaves, or that it loops
abbrev pub InRange : ℕ → ℕ → Type 0
InRange x y = (x < 257) × (y < 256)

abbrev pub PairRefused : (ℕ → ℕ → Step) → ℕ → ℕ → ℕ → Refusal → Type 0
PairRefused S n x y OutOfRange = InRange x y → ⊥
PairRefused S n x y FewPairs = InRange x y × (n < count S)
PairRefused S n x y _ = ⊥

abbrev pub PairAs : (ℕ → ℕ → Step) → ℕ → ℕ → ℕ → Result (Option ℕ) Refusal → Type 0
PairAs S n x y (Err refusal) = PairRefused S n x y refusal
PairAs S n x y (Ok (Some w)) = InRange x y × (count S ≤ n) × Settles S x y w
PairAs S n x y (Ok None) = InRange x y × (count S ≤ n) × Loops S x y

-- the room a afterwards: as it was where a code is out of range, else zeros
abbrev pub room_refused : List ℕ → Refusal → List ℕ
room_refused a OutOfRange = a
room_refused a _ = replicate (length a) 0

abbrev pub room_after : List ℕ → Result (Option ℕ) Refusal → List ℕ
room_after a (Err refusal) = room_refused a refusal
room_after a (Ok w) = replicate (length a) 0
