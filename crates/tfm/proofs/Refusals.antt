-- What the tests of a file say where more tests follow: `number_of f l 0` is what `check` finds, and `number_of f l later` what an operation answers.
use Rattle.std.proofs.Common.{◌≡◌, refl, sym, ◌∙◌, ap, ℕ, zero, suc, ◌-◌, ◌<◌, lit<, Bool, true, false, List, [], ◌∷◌, get_or, arith}
use Rattle.lent.specs.Answer.{first, on_accept}
use Rattle.tfm.specs.Refusal.{number}
use Rattle.tfm.specs.Sizes.{layout_number, number_of}
use Rattle.tfm.specs.declared.Layout.{Layout}
use Rattle.tfm.specs.declared.refusal.Refusal.{Refusal}
use Rattle.tfm.specs.declared.refusal.Refusal.TheVariants.{NoBytes, FirstByteOver127, OneByte, LengthZero, FewerBytesThanSaid, FewerThanSixWords, SizeOver127, ShortHeader, ImpossibleRange, EmptyTable, TooManyRecipes, SizesDisagree, ShortCopy, FewPairs, FindingsDoNotFit, ListingDoesNotFit, OutOfRange, NoCharacter}

-- a chain of tests that ends with `later`, by the chain that ends with 0
step : (b : Bool) (n m m' later : ℕ) → m ≡ on_accept m' later m' → first b (suc n) m ≡ on_accept (first b (suc n) m') later (first b (suc n) m')
unfolding first on_accept
step true n m m' later e = refl
step false n m m' later e = e

layout_later : (l : Layout) (later : ℕ) → layout_number l later ≡ on_accept (layout_number l 0) later (layout_number l 0)
unfolding layout_number on_accept
layout_later l later =
    step _ _ _ _ later (step _ _ _ _ later (step _ _ _ _ later (step _ _ _ _ later (step _ _ _ _ later (step _ _ _ _ later refl)))))

pub number_later : (f : List ℕ) (l : Layout) (later : ℕ) → number_of f l later ≡ on_accept (number_of f l 0) later (number_of f l 0)
unfolding number_of
number_later f l later =
    step _ _ _ _ later (step _ _ _ _ later (step _ _ _ _ later (step _ _ _ _ later (step _ _ _ _ later (step _ _ _ _ later (layout_later l later))))))

-- what is refused is refused whatever follows
pub refused_later : (f : List ℕ) (l : Layout) (n later : ℕ) → number_of f l 0 ≡ suc n → number_of f l later ≡ suc n
unfolding on_accept
refused_later f l n later e = rw e at (number_later f l later)

-- and what is accepted is what the later tests give
pub accepted_later : (f : List ℕ) (l : Layout) (later : ℕ) → number_of f l 0 ≡ 0 → number_of f l later ≡ later
unfolding on_accept
accepted_later f l later e = rw e at (number_later f l later)

-- the refusal with a number
of_number : ℕ → Refusal
of_number n =
    get_or (NoBytes ∷ FirstByteOver127 ∷ OneByte ∷ LengthZero ∷ FewerBytesThanSaid ∷ FewerThanSixWords ∷ SizeOver127 ∷ ShortHeader ∷ ImpossibleRange ∷ EmptyTable ∷ TooManyRecipes ∷ SizesDisagree ∷ ShortCopy ∷ FewPairs ∷ FindingsDoNotFit ∷ ListingDoesNotFit ∷ OutOfRange ∷ NoCharacter ∷ []) (n - 1) NoCharacter

of_number-number : (r : Refusal) → of_number (number r) ≡ r
unfolding of_number
of_number-number NoBytes = refl
of_number-number FirstByteOver127 = refl
of_number-number OneByte = refl
of_number-number LengthZero = refl
of_number-number FewerBytesThanSaid = refl
of_number-number FewerThanSixWords = refl
of_number-number SizeOver127 = refl
of_number-number ShortHeader = refl
of_number-number ImpossibleRange = refl
of_number-number EmptyTable = refl
of_number-number TooManyRecipes = refl
of_number-number SizesDisagree = refl
of_number-number ShortCopy = refl
of_number-number FewPairs = refl
of_number-number FindingsDoNotFit = refl
of_number-number ListingDoesNotFit = refl
of_number-number OutOfRange = refl
of_number-number NoCharacter = refl

-- two refusals of one number are one
pub number_once : (r s : Refusal) → number r ≡ number s → r ≡ s
number_once r s e = sym (of_number-number r) ∙ ap of_number e ∙ of_number-number s

-- no refusal has the number of acceptance
pub number_positive : (r : Refusal) → 0 < number r
number_positive NoBytes = lit< tt
number_positive FirstByteOver127 = lit< tt
number_positive OneByte = lit< tt
number_positive LengthZero = lit< tt
number_positive FewerBytesThanSaid = lit< tt
number_positive FewerThanSixWords = lit< tt
number_positive SizeOver127 = lit< tt
number_positive ShortHeader = lit< tt
number_positive ImpossibleRange = lit< tt
number_positive EmptyTable = lit< tt
number_positive TooManyRecipes = lit< tt
number_positive SizesDisagree = lit< tt
number_positive ShortCopy = lit< tt
number_positive FewPairs = lit< tt
number_positive FindingsDoNotFit = lit< tt
number_positive ListingDoesNotFit = lit< tt
number_positive OutOfRange = lit< tt
number_positive NoCharacter = lit< tt

-- a refusal that `check` finds is what the operation answers, whatever follows
pub refusal_later : (f : List ℕ) (l : Layout) (later : ℕ) (r : Refusal) → number r ≡ number_of f l 0 → number r ≡ number_of f l later
refusal_later f l later r e = go (number r) e (number_positive r)
  where
    go : (n : ℕ) → n ≡ number_of f l 0 → 0 < n → n ≡ number_of f l later
    go zero e h = absurd (omega arith)
    go (suc n) e h = sym (refused_later f l n later (sym e))
