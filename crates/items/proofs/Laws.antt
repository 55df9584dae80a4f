-- The laws by which a function that prints items is put together of those that it calls.
use Prim.Native.Nat.{ℕ, ◌+◌, ◌≤◌}
use mathlib.Core.Path.{◌≡◌, refl, sym, ◌∙◌}
use mathlib.Core.Bool.{Bool, true, false}
use mathlib.Core.List.{List}
use lib.Dec.{eqb}
use lib.ListN.{length}
use borrow.Author.Tests.{eq-eqb, ne_eqb, lt-ltb, le-ltb, le-leb, lt-leb}
use Rattle.lent.specs.Write.{◌▹◌, Wrote}
use Rattle.lent.specs.Pens.{Written, place_of}
use Rattle.lent.specs.declared.Pen.{Pen}
use Rattle.lent.proofs.Writes as writes
use Rattle.lent.proofs.Ends as Ends
use Rattle.ink.specs.Ink.{line}
use Rattle.items.specs.Items.{Word, Items, empty, leaf, group, ◌▸◌, choose, loop, head, close, render, Printed}

printed : {p q : Pen} {v : ℕ} {t : Items} → q.out.ghost_name ≡ p.out.ghost_name → Wrote (place_of p) (render v t) (place_of q) → Printed p v t q
printed e h = record { same = e; listed = record { wrote = h } }

-- one call after another
pub after : {p q s : Pen} {v : ℕ} {t u : Items} → Printed q v u s → Printed p v t q → Printed p v (t ▸ u) s
unfolding render
after e h = record { same = e.same ∙ h.same; listed = record { wrote = writes.seq e.listed.wrote h.listed.wrote } }

pub no_item : {p : Pen} {v : ℕ} → Printed p v empty p
unfolding render
no_item = printed refl writes.still

pub a_leaf : {p q : Pen} {v : ℕ} {name : List ℕ} {ws : List Word} → Written p (head name ws ▹ close v) q → Printed p v (leaf name ws) q
unfolding render
a_leaf e = printed e.same e.wrote

-- the head and the line after it, the items inside, and the end
pub a_group : {p q r s : Pen} {v : ℕ} {name : List ℕ} {ws : List Word} {t : Items} → Written r (close v) s → Printed q (v + 1) t r
    → Written p (head name ws ▹ line (v + 1)) q → Printed p v (group name ws t) s
unfolding render
a_group e h o = printed (e.same ∙ h.same ∙ o.same) (writes.seq e.wrote (writes.seq h.listed.wrote o.wrote))

pub item_then : {p s : Pen} {v : ℕ} {b : Bool} {t u : Items} → b ≡ true → Printed p v t s → Printed p v (choose b t u) s
unfolding render
item_then h e = printed e.same (writes.arm_then h e.listed.wrote)

pub item_else : {p s : Pen} {v : ℕ} {b : Bool} {t u : Items} → b ≡ false → Printed p v u s → Printed p v (choose b t u) s
unfolding render
item_else h e = printed e.same (writes.arm_else h e.listed.wrote)

-- the turns of a loop
pub no_round : {p : Pen} {v : ℕ} {f : ℕ → Items} → Printed p v (loop 0 f) p
unfolding render
no_round = printed refl writes.no_turn

pub one_round : {p q s : Pen} {v i : ℕ} {f : ℕ → Items} → Printed q v (f i) s → Printed p v (loop i f) q → Printed p v (loop (i + 1) f) s
unfolding render
one_round e h = printed (e.same ∙ h.same) (writes.one_turn e.listed.wrote h.listed.wrote)

pub all_rounds : {p q : Pen} {v i n : ℕ} {f : ℕ → Items} → Printed p v (loop i f) q → i ≤ n → n ≤ i → Printed p v (loop n f) q
unfolding render
all_rounds h a b = printed h.same (writes.all_turns h.listed.wrote a b)

-- what did not fit stays so, whatever else is printed
pub stuck : {p : Pen} {v : ℕ} {t : Items} → p.to ≡ length p.out.now + 1 → Printed p v t p
stuck e = printed refl (Ends.stuck e)

-- a test that a function answered, and one that another number met
pub test_true : {b r : Bool} → r ≡ b → r ≡ true → b ≡ true
test_true e h = sym e ∙ h

pub test_false : {b r : Bool} → r ≡ b → r ≡ false → b ≡ false
test_false e h = sym e ∙ h

pub apart : (i k m : ℕ) → i ≡ k → eqb k m ≡ false → eqb i m ≡ false
apart i k m e h = rw e h

-- a branch whose arms print items: `search choices depth 9`
pub ruleset choices = (item_then, item_else, no_item, test_true, test_false, eq-eqb, ne_eqb, lt-ltb, le-ltb, le-leb, lt-leb, apart)
