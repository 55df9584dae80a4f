-- The laws by which a function that writes is put together of those that it calls.
use Prim.Native.Nat.{ℕ, ◌+◌, ◌≤◌}
use native.Mathlib.Nat.{le_antisymm}
use native.Mathlib.Numerals.{add-one}
use mathlib.Core.Path.{◌≡◌, refl, ap, ◌∙◌}
use mathlib.Core.Bool.{Bool, true, false}
use Rattle.lent.specs.Fold.{iterate}
use Rattle.lent.specs.Write.{Pen, Text, none, ◌▹◌, when, each, run, Wrote}

-- one call after another
pub seq : {p q s : Pen} {t u : Text} → Wrote q u s → Wrote p t q → Wrote p (t ▹ u) s
unfolding run
seq {p} {q} {s} {t} {u} e h = record { is = e.is ∙ ap (λ (x : Pen). run x u) h.is }

pub still : {p : Pen} → Wrote p none p
unfolding run
still = record { is = refl }

-- an arm of a branch: the test's truth, and what the arm wrote
pub arm_then : {p s : Pen} {b : Bool} {t u : Text} → b ≡ true → Wrote p t s → Wrote p (when b t u) s
unfolding run
arm_then {p} {s} {b} {t} {u} h e = record { is = rw h e.is }

pub arm_else : {p s : Pen} {b : Bool} {t u : Text} → b ≡ false → Wrote p u s → Wrote p (when b t u) s
unfolding run
arm_else {p} {s} {b} {t} {u} h e = record { is = rw h e.is }

-- the turns of a loop
pub no_turn : {p : Pen} {f : ℕ → Text} → Wrote p (each 0 f) p
unfolding run iterate
no_turn = record { is = refl }

pub one_turn : {p q s : Pen} {i : ℕ} {f : ℕ → Text} → Wrote q (f i) s → Wrote p (each i f) q → Wrote p (each (i + 1) f) s
unfolding run iterate
one_turn {p} {q} {s} {i} {f} e h = record { is = rw add-one (e.is ∙ ap (λ (x : Pen). run x (f i)) h.is) }

pub all_turns : {p q : Pen} {i n : ℕ} {f : ℕ → Text} → Wrote p (each i f) q → i ≤ n → n ≤ i → Wrote p (each n f) q
all_turns {p} {q} {i} {n} {f} h a b = rw (← le_antisymm a b) h
