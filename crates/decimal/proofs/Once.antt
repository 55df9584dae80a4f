-- Determinacy of `decimal`: two answers that meet its contract for one word are the same.
use Prim.Native.Nat.{ℕ}
use mathlib.Core.Path.{◌≡◌}
use Rattle.lent.proofs.Once.{once as one_answer}
use Rattle.decimal.specs.Text.{text_of}
use Rattle.decimal.specs.Room.{filled}
use Rattle.decimal.specs.declared.room.Decimal.{Decimal}

pub once : (w : ℕ) (r s : Decimal) → r ≡ filled (text_of w) → s ≡ filled (text_of w) → r ≡ s
once w r s = one_answer
