-- The refusals: the number of each, and the number of what an operation answers.
use Rattle.std.specs.Prelude.{ℕ, Result, Ok, Err}
use Rattle.tfm.specs.declared.refusal.Refusal.{Refusal}
use Rattle.tfm.specs.declared.refusal.Refusal.TheVariants.{NoBytes, FirstByteOver127, OneByte, LengthZero, FewerBytesThanSaid, FewerThanSixWords, SizeOver127, ShortHeader, ImpossibleRange, EmptyTable, TooManyRecipes, SizesDisagree, ShortCopy, FewPairs, FindingsDoNotFit, ListingDoesNotFit, OutOfRange, NoCharacter}

abbrev pub number : Refusal → ℕ
number NoBytes = 1
number FirstByteOver127 = 2
number OneByte = 3
number LengthZero = 4
number FewerBytesThanSaid = 5
number FewerThanSixWords = 6
number SizeOver127 = 7
number ShortHeader = 8
number ImpossibleRange = 9
number EmptyTable = 10
number TooManyRecipes = 11
number SizesDisagree = 12
number ShortCopy = 13
number FewPairs = 14
number FindingsDoNotFit = 15
number ListingDoesNotFit = 16
number OutOfRange = 17
number NoCharacter = 18

-- 0 is acceptance
abbrev pub refused : {A : Type 0} → Result A Refusal → ℕ
refused (Ok answer) = 0
refused (Err refusal) = number refusal
