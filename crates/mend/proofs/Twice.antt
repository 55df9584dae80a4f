-- A byte mended twice is mended once. x is the file's byte and x' the copy's; b is the test on the file and b' that on the copy.
use Prim.Native.Nat.{ℕ}
use native.Mathlib.Omega.{arith}
use mathlib.Core.Path.{◌≡◌, refl}
use mathlib.Core.Bool.{Bool, true, false, cond}
use Rattle.lent.specs.Answer.{first}
use Rattle.tfm.specs.Characters.{untagged}

-- a mend that was done makes the same again, and one that was not done is not done now
pub mend_again : (b b' : Bool) (v x x' : ℕ) → x' ≡ first b v x → (b ≡ false → x' ≡ x → b' ≡ false) → first b' v x' ≡ first b v x
unfolding first
mend_again true true v x x' e h = refl
mend_again true false v x x' e h = e
mend_again false b' v x x' e h = rw (h refl e) e

-- a byte without a tag loses none
pub untag_again : (b b' : Bool) (x x' : ℕ) → x' ≡ first b (untagged x) x → (b ≡ false → b' ≡ false)
    → first b' (untagged x') x' ≡ first b (untagged x) x
unfolding first
untag_again true true x x' e h = rw e (omega arith)
untag_again true false x x' e h = e
untag_again false b' x x' e h = rw (h refl) e

-- where the place of the byte chooses the mend, by the test t: a or y on the file, a' or y' on the copy
pub place_again : (t : Bool) (a a' y y' x' : ℕ) → x' ≡ cond t a y → (t ≡ true → x' ≡ a → a' ≡ a) → (x' ≡ y → y' ≡ y) → cond t a' y' ≡ cond t a y
place_again true a a' y y' x' e h k = h refl e
place_again false a a' y y' x' e h k = k e
