-- The answers as C reads them: a number that is returned, and numbers or floats in a lent array, all zero on refusal.
use Rattle.std.specs.Prelude.{ℕ, ◌≡◌, List, [], ◌∷◌, Float}
use Rattle.tfm.specs.Sizes.{layout_of}
use Rattle.tfm.specs.declared.EyeLengths.{EyeLengths}
use Rattle.judge.specs.Judge.{Verdict, no_verdict, clean, mended_so, looping, Answer, answer, Outcome, no_outcome, code, never, PairSays, says, Judged, Paired}
use Rattle.listing.specs.Listing.{Says, says as list_says, ListedAs}

abbrev pub floats_of : EyeLengths → List Float
floats_of e = e.width ∷ e.height ∷ e.depth ∷ e.italic ∷ []

abbrev pub verdict_number : Verdict → ℕ
verdict_number no_verdict = 0
verdict_number clean = 1
verdict_number mended_so = 2
verdict_number looping = 3

-- a verdict: its number, and the length of the findings
abbrev pub number_in : Answer → ℕ
number_in (answer n _ _) = n

abbrev pub numbers_in : Answer → List ℕ
numbers_in (answer n verdict findings) = verdict_number verdict ∷ findings ∷ []

-- a listing: the verdict's number, and the lengths of the findings and of the text
abbrev pub list_number : Says → ℕ
list_number (list_says n _ _ _) = n

abbrev pub list_numbers : Says → List ℕ
list_numbers (list_says n verdict findings text) = verdict_number verdict ∷ findings ∷ text ∷ []

-- a pair: 1 and the code left of the cursor, or 2 where its rewriting never ends
abbrev pub outcome_numbers : Outcome → List ℕ
outcome_numbers no_outcome = 0 ∷ 0 ∷ []
outcome_numbers (code w) = 1 ∷ w ∷ []
outcome_numbers never = 2 ∷ 0 ∷ []

abbrev pub pair_number : PairSays → ℕ
pair_number (says n _) = n

abbrev pub pair_numbers : PairSays → List ℕ
pair_numbers (says n outcome) = outcome_numbers outcome

-- C is told what the operation says of the file f on the lent buffers: r is returned, and a stands in the array
pub record VerdictTold (f c g p : List ℕ) (r : ℕ) (a c' g' p' : List ℕ) : Type 0 where
  pub said : Answer
  pub judged : Judged f (layout_of f) c g p said c' g' p'
  pub number : r ≡ number_in said
  pub numbers : a ≡ numbers_in said

pub record ListingTold (f c g p o : List ℕ) (r : ℕ) (a c' g' p' o' : List ℕ) : Type 0 where
  pub said : Says
  pub listed : ListedAs f (layout_of f) c g p o said c' g' p' o'
  pub number : r ≡ list_number said
  pub numbers : a ≡ list_numbers said

pub record PairTold (f : List ℕ) (x y : ℕ) (c p : List ℕ) (r : ℕ) (a c' p' : List ℕ) : Type 0 where
  pub said : PairSays
  pub paired : Paired f (layout_of f) x y c p said c' p'
  pub number : r ≡ pair_number said
  pub numbers : a ≡ pair_numbers said
