-- What acceptance says of the sizes, and that the subfiles of an accepted file are whole.
use Prim.Native.Nat.{ℕ, zero, suc, ◌+◌, ◌-◌, ◌*◌, ◌≤◌}
use native.Mathlib.Nat.{add-zero, add-suc, le_refl}
use native.Mathlib.Omega.{arith}
use mathlib.Core.Path.{◌≡◌, refl}
use mathlib.Core.Bool.{Bool, true, false, not, true≢false}
use mathlib.Core.List.{List}
use lib.ListN.{length, length-take, length-drop}
use borrow.Author.Tests.{ltb-false, eqb-true}
use Rattle.lent.specs.Answer.{first}
use Rattle.lent.specs.Fold.{iterate}
use Rattle.tfm.specs.Sizes.{words, layout_number, number_of}
use Rattle.tfm.specs.Subfiles.{count_of, start_of, table_of}
use Rattle.tfm.specs.declared.Layout.{Layout}

-- a chain of tests that gives 0: the first test fails, and the rest gives 0
pub fails : (b : Bool) (n m : ℕ) → first b (suc n) m ≡ 0 → b ≡ false
unfolding first
fails true n m e = absurd (omega arith)
fails false n m e = refl

pub passed : (b : Bool) (n m : ℕ) → first b (suc n) m ≡ 0 → m ≡ 0
unfolding first
passed true n m e = absurd (omega arith)
passed false n m e = e

not_false : (b : Bool) → not b ≡ false → b ≡ true
not_false true e = refl
not_false false e = absurd (true≢false e)

pub record Accepted (f : List ℕ) (l : Layout) (later : ℕ) : Type 0 where
  pub long : 4 * l.lf ≤ length f
  pub sum : l.lf ≡ words l
  pub rest : later ≡ 0

pub accepted : (f : List ℕ) (l : Layout) (later : ℕ) → number_of f l later ≡ 0 → Accepted f l later
unfolding number_of layout_number
accepted f l later e1 =
    let e2 = passed _ _ _ e1 in
    let e3 = passed _ _ _ e2 in
    let e4 = passed _ _ _ e3 in
    let e5 = passed _ _ _ e4 in
    let e6 = passed _ _ _ e5 in
    let e7 = passed _ _ _ e6 in
    let e8 = passed _ _ _ e7 in
    let e9 = passed _ _ _ e8 in
    let e10 = passed _ _ _ e9 in
    let e11 = passed _ _ _ e10 in
    let e12 = passed _ _ _ e11 in
    record { long = ltb-false _ _ (fails _ _ _ e5); sum = eqb-true _ _ (not_false _ (fails _ _ _ e12)); rest = passed _ _ _ e12 }

-- the subfiles follow one another, and the last ends with the words that the sizes ask for
pub ends : (l : Layout) → start_of l 10 ≡ words l
unfolding start_of count_of iterate
ends l = refl

climbs : (l : Layout) (k d : ℕ) → start_of l k ≤ start_of l (k + d)
unfolding start_of iterate
climbs l k zero = rw add-zero (le_refl (start_of l k))
climbs l k (suc d) = rw add-suc (omega (arith, climbs l k d))

-- a subfile of an accepted file has all its words
pub whole : (f : List ℕ) (l : Layout) (later k : ℕ) → number_of f l later ≡ 0 → k ≤ 9 → length (table_of f l k) ≡ 4 * count_of l k
unfolding table_of start_of iterate
whole f l later k e h =
    let a = accepted f l later e in
    let c : start_of l (suc k) ≤ start_of l (suc k + (9 - k)) = climbs l (suc k) (9 - k) in
    let ten : suc k + (9 - k) ≡ 10 = omega arith in
    let i = rw (ten, ends l) at c in
    rw (length-take, length-drop) (omega arith)
