-- The laws of `Entered`, as `lent` has them of a pen.
use Rattle.std.proofs.Common.{◌≡◌, refl, ◌∙◌, ℕ, ◌+◌, ◌≤◌, List}
use Rattle.lent.specs.Write.{pen, Text, none, each, Wrote}
use Rattle.lent.proofs.Writes as writes
use Rattle.gather.specs.Entries.{place_of, Entered}
use Rattle.gather.specs.declared.entries.Entries.{Entries}

pub still : {p : Entries} → Entered p none p
still = record { same = refl; wrote = writes.still }

pub no_turn : {p : Entries} {f : ℕ → Text} → Entered p (each 0 f) p
no_turn = record { same = refl; wrote = writes.no_turn }

pub one_turn : {p q s : Entries} {i : ℕ} {f : ℕ → Text} → Entered q (f i) s → Entered p (each i f) q → Entered p (each (i + 1) f) s
one_turn e h = record { same = e.same ∙ h.same; wrote = writes.one_turn e.wrote h.wrote }

pub all_turns : {p q : Entries} {i n : ℕ} {f : ℕ → Text} → Entered p (each i f) q → i ≤ n → n ≤ i → Entered p (each n f) q
all_turns h a b = record { same = h.same; wrote = writes.all_turns h.wrote a b }

-- from the start of a room
pub from_start : {p q : Entries} {t : Text} {a m : List ℕ} {n : ℕ} → place_of p ≡ pen a 0 → Entered p t q → m ≡ q.room.now → n ≡ q.to → Wrote (pen a 0) t (pen m n)
from_start start e h k = rw (← start, h, k) e.wrote
