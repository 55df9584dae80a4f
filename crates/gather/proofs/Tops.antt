-- From the rows to the room, its outcomes, the smallest loop and one pair.
use Prim.Native.Nat.{ℕ, zero, suc, ◌+◌, ◌*◌, ◌<◌, ◌≤◌}
use native.Mathlib.Nat.{le_refl}
use native.Mathlib.Omega.{arith}
use native.Mathlib.Decide.{dec_lt}
use mathlib.Core.Path.{◌≡◌, refl, sym, ap, ◌∙◌}
use mathlib.Core.Bool.{Bool, true, false}
use mathlib.Core.List.{List}
use Rattle.std.proofs.Common.{Option, Some, None, Ok, IfSome}
use Rattle.std.specs.Option.{MatchOption, IsSomeAnd}
use lib.ListN.{length, get_or, take, replicate, get_or-map}
use lib.Seq.{take_at, length-take-le}
use borrow.Author.Tests.{le-ltb}
use Rattle.lent.specs.Fold.{iterate}
use Rattle.lent.specs.Write.{Pen, pen, Text, none, byte, each, run, flat, Wrote, Ended, fitted, overflowed}
use Rattle.lent.proofs.Ends.{ended, keeps}
use Rattle.tfm.specs.declared.Layout.{Layout}
use Rattle.program.specs.Steps.{program_of}
use Rattle.settle.specs.Settle.{Step, Settles, step_of, key_of, left_of, right_of, Program, Settled, EndedFirst, Told, outcome_number}
use Rattle.gather.specs.Steps.{step_from, program_steps}
use Rattle.gather.specs.Answers.{count, SmallestLoop, SmallestAs, InRange, PairAs}
use Rattle.gather.specs.Entries.{place_of, Entered}
use Rattle.gather.specs.declared.entries.Entries.{Entries}
use Rattle.gather.specs.declared.Pair.{Pair}
use Rattle.gather.specs.Pairs.{code_at, code_of, held_code, codes, Walked, cell, row_in, row, pairs_text, Outcomes, FirstLoop, FirstPair}
use Rattle.gather.proofs.Lists.{same_turns}
use Rattle.gather.proofs.Walks.{walked_none}
use Rattle.gather.proofs.Bridge.{pairs_listed, pairs_step, pairs_count}
use Rattle.gather.proofs.Ends.{Agree, agree_in, agrees, agrees_loops, same_key, settles_unless, loops_at, in_order}

-- a row: the table has the codes of its left code
pub row_cells : (infos s : List ℕ) (l : Layout) (x : ℕ) {start : ℕ} (u : List (Option ℕ)) {p q : Entries} → start ≡ program_of infos s l x
    → Walked s l.nl start (codes (replicate 256 None)) (codes u) → Entered p (each 256 (row_in x (codes u))) q → Entered p (row infos s l x) q
unfolding code_of
row_cells infos s l x u e w r =
    record { same = r.same; wrote = same_turns r.wrote (λ y h. ap (cell (x * 256 + y)) (walked_none {n = 256} u w y h ∙ rw e)) }

-- the turn of a right code with a step, and of one without
pub some_cell : (x y v : ℕ) (t : List (Option ℕ)) → get_or t y None ≡ Some v → row_in x (codes t) y ≡ byte ((x * 256 + y) * 2048 + v)
unfolding cell
some_cell x y v t e = rw (get_or-map held_code t y None, e)

pub no_cell : (x y : ℕ) (t : List (Option ℕ)) → get_or t y None ≡ None → row_in x (codes t) y ≡ none
unfolding cell
no_cell x y t e = rw (get_or-map held_code t y None, e)

-- a left code with no program has no entries
no_step_lem : (s : List ℕ) (nl f i y : ℕ) → nl ≤ i → step_from s nl f i y ≡ nl
unfolding step_from
no_step_lem s nl zero i y h = refl
no_step_lem s nl (suc f) i y h = rw (le-ltb i nl h)

no_code : (infos s : List ℕ) (l : Layout) (x y : ℕ) → l.nl ≤ program_of infos s l x → code_of infos s l x y ≡ 0
unfolding code_of code_at
no_code infos s l x y h =
    rw (no_step_lem s l.nl l.nl (program_of infos s l x) y h, le-ltb l.nl l.nl (le_refl l.nl))

no_cells : (p : Pen) (n : ℕ) (f : ℕ → Text) → ((i : ℕ) → f i ≡ none) → iterate (λ q i. run q (f i)) p n ≡ p
unfolding iterate run
no_cells p zero f h = refl
no_cells p (suc n) f h = rw (h n) (no_cells p n f h)

pub row_none : {p : Entries} (infos s : List ℕ) (l : Layout) (x : ℕ) → l.nl ≤ program_of infos s l x → Entered p (row infos s l x) p
unfolding run cell
row_none {p} infos s l x h =
    record { same = refl; wrote = record { is = sym (no_cells (place_of p) 256 _ (λ (y : ℕ). ap (cell (x * 256 + y)) (no_code infos s l x y h))) } }

-- the room once it is settled
pub outcomes : (infos s : List ℕ) (l : Layout) → ((k : ℕ) → get_or s k 0 < 256) → {a m b : List ℕ} {n : ℕ} {r : Bool}
    → Wrote (pen a 0) (pairs_text infos s l) (pen m n) → n ≤ length m → EndedFirst m n r b → Outcomes (program_steps infos s l) (flat (pairs_text infos s l)) a n b
outcomes infos s l bytes {a} {m} {b} {n} {r} w h e =
    record {
      fits = omega (arith, keeps w);
      enough = (go (ended w)).0;
      program = (pairs_listed infos s l bytes).all;
      keys = (pairs_listed infos s l bytes).below;
      steps = pairs_step infos s l bytes;
      settled = (go (ended w)).1;
    }
  where
    on : (t : Bool) → r ≡ t → take n m ≡ flat (pairs_text infos s l) → Settled (flat (pairs_text infos s l)) (take n b)
    on true q f = rw f at (e.settled q)
    on false q f = absurd (e.judged.fails q (h, rw f (pairs_listed infos s l bytes).all))

    go : Ended (pairs_text infos s l) a m n → (count (program_steps infos s l) ≤ length a) × Settled (flat (pairs_text infos s l)) (take n b)
    go (fitted f p q) =
        (omega (arith, pairs_count infos s l bytes), on r refl (rw (q, p) (take_at (flat (pairs_text infos s l)) _ _ refl)))
    go (overflowed f p q) = absurd (omega arith)

-- and where its entries do not fit
pub over_few : (infos s : List ℕ) (l : Layout) → ((k : ℕ) → get_or s k 0 < 256) → {a m : List ℕ} {n : ℕ}
    → Wrote (pen a 0) (pairs_text infos s l) (pen m n) → length m < n → length a < count (program_steps infos s l)
over_few infos s l bytes {a} {m} {n} w h = go (ended w)
  where
    go : Ended (pairs_text infos s l) a m n → length a < count (program_steps infos s l)
    go (fitted f p q) = absurd (omega (arith, keeps w))
    go (overflowed f p q) = omega (arith, pairs_count infos s l bytes)

-- what the settled room says
module _ {S : ℕ → ℕ → Step} {P a b : List ℕ} {n : ℕ} (o : Outcomes S P a n b) (same : length b ≡ length a) where
  long : length P ≡ n
  long = sym o.settled.long ∙ length-take-le n b (omega (arith, o.fits))

  agree : Agree (step_of P) S
  agree = agree_in P o.steps

  -- the smallest pair that loops
  module _ {i : ℕ} (f : FirstLoop (take n b) i) where
    settles_below : (x y : ℕ) → y < 256 → ((j : ℕ) → j < length P → key_of (get_or P j 0) ≡ x * 256 + y → j < i) → (w : ℕ) × Settles S x y w
    settles_below x y h g =
        let w = settles_unless o.settled x y h (λ j k e. f.before j (g j k e)) in
        (w.0, agrees agree h w.1)

    none_loops : n ≤ i → (count S ≤ length a) × ((x y : ℕ) → y < 256 → (w : ℕ) × Settles S x y w)
    none_loops k = (o.enough, λ x y h. settles_below x y h (λ j g e. omega (arith, long)))

    one_loops : i < n → {x y : ℕ} → x ≡ left_of (get_or (take n b) i 0) → y ≡ right_of (get_or (take n b) i 0) → (count S ≤ length a) × SmallestLoop S x y
    one_loops k {x} {y} p q =
        let g : i < length P = omega (arith, long) in
        let c : x * 256 + y ≡ key_of (get_or P i 0) = omega (arith, same_key o.settled i g) in
        let r : y < 256 = omega arith in (
          o.enough,
          record {
            left_code = omega (arith, o.keys i g);
            right_code = r;
            loops = agrees_loops agree r (loops_at o.settled x y i r g (sym c) (f.here (omega (arith, o.settled.long))));
            smallest = λ u v h m. settles_below u v h (λ j e t. elim (dec_lt j i) [ yes d ↦ d | no d ↦ absurd (omega (arith, in_order o.program j i e (omega arith))) ]);
          },
        )

  pub smallest_told : (r : Option Pair) → FirstPair (take n b) r → SmallestAs S (length a) (Ok r)
  smallest_told None f = none_loops f (omega (arith, length-take-le n b (omega (arith, o.fits))))
  smallest_told (Some pair) f = one_loops f.2 (omega (arith, length-take-le n b (omega (arith, o.fits)))) f.3 f.4

  -- one pair
  pub pair_told : {x y : ℕ} → InRange x y → (r : Option ℕ) → ((Q : List ℕ) → Program Q → Settled Q (take n b) → Told (step_of Q) x y (outcome_number r)) → IfSome r (λ w. w < 256) → PairAs S (length a) x y (Ok r)
  pair_told range None t few = (range, o.enough, agrees_loops agree range.1 ((t P o.program o.settled).loops refl))
  pair_told range (Some w) t few = (range, o.enough, agrees agree range.1 ((t P o.program o.settled).settles (λ e. omega arith)))

-- a code as a wider number
pub mapped : (o r : Option ℕ) {P : ℕ → ℕ → Type 0} → MatchOption o (r ≡ None) (λ x. IsSomeAnd r (P x)) → ((x y : ℕ) → P x y → y ≡ x) → r ≡ o
mapped None r h f = h
mapped (Some x) None h f = absurd h
mapped (Some x) (Some y) h f = ap Some (f x y h)
