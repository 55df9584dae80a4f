-- The laws by which a function that writes with a pen is put together of those that it calls.
use Rattle.std.proofs.Common.{◌≡◌, refl, sym, ap, ◌∙◌, ℕ, [], ◌∷◌, ◌++◌, ◌+◌, ◌≤◌, Bool, true, false, List, length}
use Rattle.lent.specs.Write.{pen, Text, none, byte, lit, ◌▹◌, when, each, put1, puts, run}
use Rattle.lent.specs.Pens.{Written, place_of}
use Rattle.lent.specs.declared.Pen.{Pen}
use Rattle.lent.proofs.Writes as writes
use Rattle.lent.proofs.Ends as ends

-- one call after another
pub seq : {p q s : Pen} {t u : Text} → Written q u s → Written p t q → Written p (t ▹ u) s
seq e h = record { same = e.same ∙ h.same; wrote = writes.seq e.wrote h.wrote }

pub still : {p : Pen} → Written p none p
still = record { same = refl; wrote = writes.still }

-- bytes, and one more after them
pub no_byte : {p : Pen} → Written p (lit []) p
unfolding run puts
no_byte = record { same = refl; wrote = record { is = refl } }

pub one_byte : {p q s : Pen} {l : List ℕ} {b : ℕ} → Written q (byte b) s → Written p (lit l) q → Written p (lit (l ++ b ∷ [])) s
unfolding run puts
one_byte {p} {q} {s} {l} {b} e h =
    record {
      same = e.same ∙ h.same;
      wrote = record { is = e.wrote.is ∙ ap (λ x. put1 x b) h.wrote.is ∙ sym (ends.puts_append (place_of p) l (b ∷ [])) };
    }

-- bytes after bytes, and bytes after one
pub bytes_after : {p q s : Pen} {l m : List ℕ} → Written q (lit m) s → Written p (lit l) q → Written p (lit (l ++ m)) s
unfolding run
bytes_after {p} {q} {s} {l} {m} e h =
    record {
      same = e.same ∙ h.same;
      wrote = record { is = e.wrote.is ∙ ap (λ x. puts x m) h.wrote.is ∙ sym (ends.puts_append (place_of p) l m) };
    }

pub bytes_after_one : {p q s : Pen} {b : ℕ} {m : List ℕ} → Written q (lit m) s → Written p (byte b) q → Written p (lit (b ∷ m)) s
unfolding run puts
bytes_after_one {p} {q} {s} {b} {m} e h =
    record { same = e.same ∙ h.same; wrote = record { is = e.wrote.is ∙ ap (λ x. puts x m) h.wrote.is } }

-- an arm of a branch: the test's truth, and what the arm wrote
pub arm_then : {p s : Pen} {b : Bool} {t u : Text} → b ≡ true → Written p t s → Written p (when b t u) s
arm_then h e = record { same = e.same; wrote = writes.arm_then h e.wrote }

pub arm_else : {p s : Pen} {b : Bool} {t u : Text} → b ≡ false → Written p u s → Written p (when b t u) s
arm_else h e = record { same = e.same; wrote = writes.arm_else h e.wrote }

-- the turns of a loop
pub no_turn : {p : Pen} {f : ℕ → Text} → Written p (each 0 f) p
no_turn = record { same = refl; wrote = writes.no_turn }

pub one_turn : {p q s : Pen} {i : ℕ} {f : ℕ → Text} → Written q (f i) s → Written p (each i f) q → Written p (each (i + 1) f) s
one_turn e h = record { same = e.same ∙ h.same; wrote = writes.one_turn e.wrote h.wrote }

pub all_turns : {p q : Pen} {i n : ℕ} {f : ℕ → Text} → Written p (each i f) q → i ≤ n → n ≤ i → Written p (each n f) q
all_turns h a b = record { same = h.same; wrote = writes.all_turns h.wrote a b }

-- writing keeps the buffer's length
pub keeps : {p q : Pen} {t : Text} → Written p t q → length q.out.now ≡ length p.out.now
keeps e = ends.keeps e.wrote

-- what a pen's place says of its buffer, and of where it stands
pub out_is : (p : Pen) {l : List ℕ} {n : ℕ} → place_of p ≡ pen l n → p.out.now ≡ l
out_is p e = ap ends.held e

pub to_is : (p : Pen) {l : List ℕ} {n : ℕ} → place_of p ≡ pen l n → p.to ≡ n
to_is p e = ap ends.place e
