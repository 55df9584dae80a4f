-- The digits of a number, written one after the other.
use Rattle.std.proofs.Common.{ℕ, zero, suc, ◌+◌, ◌-◌, ◌/◌, ◌%◌, ◌≡◌, refl}
use native.Mathlib.Numerals.{sub-one}
use borrow.Author.Tests.{eq-eqb, ne_eqb}
use Rattle.lent.specs.Write.{byte, lit}
use Rattle.lent.specs.Pens.{Written}
use Rattle.lent.specs.declared.Pen.{Pen}
use Rattle.lent.proofs.Pens.{no_byte, one_byte}
use Rattle.ink.specs.Ink.{digits}

-- no place is left
pub no_digit : (base k n : ℕ) {p : Pen} → k ≡ 0 → Written p (lit (digits base k n)) p
unfolding digits
no_digit base k n e = rw e no_byte

-- the only digit
pub only_digit : (base k n : ℕ) {p s : Pen} → (k ≡ 0 → ⊥) → n / base ≡ 0 → Written p (byte (48 + n % base)) s → Written p (lit (digits base k n)) s
unfolding digits
only_digit base zero n h e w = absurd (h refl)
only_digit base (suc k) n h e w = rw (eq-eqb (n / base) 0 e) (one_byte w no_byte)

-- the last digit after those before it
pub last_digit : (base k n : ℕ) {p q s : Pen} → (k ≡ 0 → ⊥) → (n / base ≡ 0 → ⊥) → Written q (byte (48 + n % base)) s
    → Written p (lit (digits base (k - 1) (n / base))) q → Written p (lit (digits base k n)) s
unfolding digits
last_digit base zero n h e w v = absurd (h refl)
last_digit base (suc k) n h e w v = rw (ne_eqb (n / base) 0 e) (one_byte w (rw sub-one at v))
