-- What is left to write of some bytes, from i on.
use Prim.Native.Nat.{ℕ, ◌+◌, ◌≤◌, ◌<◌}
use native.Mathlib.Numerals.{add-one}
use mathlib.Core.Path.{◌≡◌}
use mathlib.Core.List.{List}
use lib.ListN.{length, get_or, drop, drop_of_length-le}
use lib.Seq.{drop-cons}
use Rattle.lent.specs.Write.{Pen, put1, puts}

pub drop_next : (p : Pen) (s : List ℕ) (i : ℕ) → i < length s → puts p (drop i s) ≡ puts (put1 p (get_or s i 0)) (drop (i + 1) s)
unfolding puts
drop_next p s i h = rw (add-one, drop-cons s i 0)

pub drop_done : (p q : Pen) (s : List ℕ) (i : ℕ) → puts p (drop i s) ≡ q → length s ≤ i → p ≡ q
unfolding puts
drop_done p q s i e h = rw (drop_of_length-le s h) at e
