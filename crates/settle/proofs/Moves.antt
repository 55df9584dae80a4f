-- What each step of `lookup` and `settle` does to the room.
use mathlib.Core.Path.{◌≡◌, refl, sym, ap, ◌∙◌, subst}
use mathlib.Core.List.{List}
use Prim.Native.Nat.{ℕ, ◌+◌, ◌*◌, ◌/◌, ◌%◌, ◌<◌, ◌≤◌}
use native.Mathlib.Omega.{arith}
use native.Mathlib.Decide.{ℕ_discrete}
use lib.ListN.{length, get_or, set, length-set}
use lib.Seq.{get_or-set_same, get_or-set_other}
use Rattle.settle.specs.Settle.{Settles, none, on_left, on_right, on_both, Loops, key_of, left_of, right_of, st_of, val_of, classed, step_of, Told}
use Rattle.settle.specs.Needs.{Needs, needs_trans, needs_left, needs_right, needs_first, needs_second, needs_itself, needs_loops}
use Rattle.settle.specs.Room.{Sorted, unit, live, Entry, Right, Ok, Answer, Looked, Marked, Found, Fresh, Stored, Old, Turned}
use Rattle.settle.proofs.Room.{live_set, live_old, unit_live, step_at_lem, step_none}

-- the pair of the entry k, and its code
abbrev pub X : List ℕ → ℕ → ℕ
X a k = left_of (get_or a k 0)

abbrev pub Y : List ℕ → ℕ → ℕ
Y a k = right_of (get_or a k 0)

abbrev pub Z : List ℕ → ℕ → ℕ
Z a k = val_of (get_or a k 0)

-- what holds of the pair of an entry holds of the pair that has its key
pub at_key : (T : ℕ → ℕ → Type 0) (e x y : ℕ) → key_of e ≡ x * 256 + y → y < 256 → T (left_of e) (right_of e) → T x y
at_key T e x y q h t =
    subst (λ (l : ℕ). T l y) (omega arith)
    (subst (λ (r : ℕ). T (left_of e) r) (omega arith) t)

-- the keys of the program ascend as those of the room do
sorted_program : {P a : List ℕ} → Right P a → Sorted a → Sorted P
sorted_program {P} {a} r s i j l h =
    omega (arith, s i j l (omega (arith, r.long)), (r.entry i (omega (arith, r.long))).key, (r.entry j (omega (arith, r.long))).key)

-- the program's step at the pair of its entry i
pub step_here : (P : List ℕ) → Sorted P → (i : ℕ) → i < length P → step_of P (X P i) (Y P i) ≡ classed (st_of (get_or P i 0)) (Z P i)
unfolding step_of
step_here P s i h =
    let q : X P i * 256 + Y P i ≡ key_of (get_or P i 0) = omega arith in
    rw q (step_at_lem P s i h)

-- and at the pair of an entry that is not yet being settled
step_of_lem : {P a : List ℕ} → Right P a → Sorted a → (i : ℕ) → i < length a → 0 < st_of (get_or a i 0) → st_of (get_or a i 0) < 4 → step_of P (X a i) (Y a i) ≡ classed (st_of (get_or a i 0)) (Z a i)
step_of_lem {P} {a} r s i h lo hi =
    rw ((r.entry i h).fresh lo hi) (step_here P (sorted_program r s) i (omega (arith, r.long)))

-- asking adds nothing to what is yet to be settled
pub looked_few : {a b : List ℕ} {x y r : ℕ} → Looked a x y b r → live b ≤ live a
looked_few {a} {b} l = live_old a b l.long l.old

module _ (a : List ℕ) (x y : ℕ) (sorted : Sorted a) (y_small : y < 256) where
  -- the room stays as it is
  stay : (r : ℕ) → ((r ≡ 257 → ⊥) → r < 256) → ((P : List ℕ) → Ok P a x y → (r ≡ 257 → ⊥) → Settles (step_of P) x y r) → ((P : List ℕ) → Ok P a x y → r ≡ 257 → Loops (step_of P) x y) → Looked a x y a r
  stay r few f g = record { long = refl; old = λ i p q. refl; sorted = sorted; small = few; answer = λ P ok. record { all = ok.all; told = record { settles = f P ok; loops = g P ok } } }

  module _ {key : ℕ} (is : key ≡ x * 256 + y) where
    pub looked_none : Found a key (length a) → Looked a x y a y
    unfolding step_of
    looked_none found = stay y (λ _. y_small)
        (λ P ok _. none (step_none P (x * 256 + y) (λ j h e. found.nowhere (omega arith) j (omega (arith, ok.all.long)) ((ok.all.entry j (omega (arith, ok.all.long))).key ∙ (e ∙ sym is)))))
        (λ P ok e. absurd (omega (arith, y_small)))

    module _ {i : ℕ} (h : i < length a) (found : Found a key i) where
      here : key_of (get_or a i 0) ≡ x * 256 + y
      here = found.here h ∙ is

      pub looked_held : 4 ≤ st_of (get_or a i 0) → Looked a x y a 257
      looked_held s = stay 257 (λ f. absurd (f refl)) (λ P ok f. absurd (f refl)) (λ P ok _. loop P ok)
        where
          loop : (P : List ℕ) → Ok P a x y → Loops (step_of P) x y
          loop P ok = elim (ℕ_discrete (st_of (get_or a i 0)) 4) [
            | yes e ↦ needs_itself (at_key (λ p q. Needs (step_of P) p q x y) (get_or a i 0) x y here y_small (ok.needs i h e))
            | no f ↦ at_key (λ p q. Loops (step_of P) p q) (get_or a i 0) x y here y_small ((ok.all.entry i h).loops (omega (arith, (ok.all.entry i h).small)))
          ]

-- what holds of the new element, and of each old one elsewhere, holds at each index after a store
at_set : (T : ℕ → ℕ → Type 0) (a : List ℕ) (k v : ℕ) → k < length a → T k v → ((i : ℕ) → (i ≡ k → ⊥) → T i (get_or a i 0)) → (i : ℕ) → T i (get_or (set a k v) i 0)
at_set T a k v h t f i = elim (ℕ_discrete i k) [
  | yes e ↦ subst (λ (j : ℕ). T j (get_or (set a k v) j 0)) (sym e) (subst (λ (u : ℕ). T k u) (sym (get_or-set_same a k v 0 h)) t)
  | no n ↦ subst (λ (u : ℕ). T i u) (sym (get_or-set_other a k i v 0 n)) (f i n)
]

old_trans : (a b c : List ℕ) → Old a b → Old b c → Old a c
old_trans a b c o o' i p q =
    let e : get_or c i 0 ≡ get_or b i 0 = o' i p q in
    e ∙ o i (omega arith) (omega arith)

sorted_set : (a : List ℕ) (k v : ℕ) → k < length a → key_of v ≡ key_of (get_or a k 0) → Sorted a → Sorted (set a k v)
sorted_set a k v h e s i j l m =
    let same : (i : ℕ) → key_of (get_or (set a k v) i 0) ≡ key_of (get_or a i 0) = at_set (λ i u. key_of u ≡ key_of (get_or a i 0)) a k v h e (λ i n. refl) in
    omega (arith, same i, same j, s i j l (rw length-set at m))

right_set : {P : List ℕ} (m : List ℕ) (k v : ℕ) → k < length m → Right P m → Entry (step_of P) (get_or P k 0) v → Right P (set m k v)
right_set {P} m k v h r e = record {
  long = r.long ∙ sym (length-set m k v);
  entry = λ i l. at_set (λ i u. i < length m → Entry (step_of P) (get_or P i 0) u) m k v h (λ _. e) (λ i n. r.entry i) i (rw length-set at l);
}

-- an entry that is marked as being settled, and the room with its entry k so marked
abbrev pub pend : ℕ → ℕ
pend e = key_of e * 2048 + 1024

abbrev pub begun : List ℕ → ℕ → List ℕ
begun a k = set a k (pend (get_or a k 0))

-- the room m in which the entry k's pair asks for (g, h), which then has the outcome w
record Asks (P a : List ℕ) (k : ℕ) (m : List ℕ) (g h w : ℕ) : Type 0 where
  all : Right P m
  needs : Needs (step_of P) (X a k) (Y a k) g h
  back : (w ≡ 257 → ⊥) → Settles (step_of P) g h w → Settles (step_of P) (X a k) (Y a k) w

-- the entry k of the room a is not yet being settled
module _ (a : List ℕ) (k : ℕ) (fresh : Fresh a k) where
  pub begun_few : live (begun a k) < live a
  unfolding unit
  begun_few =
      let four : st_of (pend (get_or a k 0)) ≡ 4 = omega arith in
      omega (arith, live_set a k (pend (get_or a k 0)) fresh.here, unit_live (st_of (get_or a k 0)) fresh.low fresh.high, ap unit four)

  pub begun_sorted : Sorted (begun a k)
  begun_sorted = sorted_set a k (pend (get_or a k 0)) fresh.here (omega arith) fresh.sorted

  pub length_begun : length (begun a k) ≡ length a
  length_begun = length-set a k (pend (get_or a k 0))

  begun_right : {P : List ℕ} → Right P a → Right P (begun a k)
  begun_right r = right_set a k (pend (get_or a k 0)) fresh.here r (record {
    key = omega (arith, (r.entry k fresh.here).key);
    fresh = λ p q. absurd (omega arith);
    settled = λ p. absurd (omega arith);
    loops = λ p. absurd (omega arith);
    bare = λ p. absurd (omega arith);
    small = omega arith;
  })

  -- the program's step at the pair
  step_k : {P : List ℕ} {s : ℕ} → Right P a → st_of (get_or a k 0) ≡ s → step_of P (X a k) (Y a k) ≡ classed s (Z a k)
  step_k r e = step_of_lem r fresh.sorted k fresh.here fresh.low fresh.high ∙ ap (λ (t : ℕ). classed t (Z a k)) e

  -- what is being settled needs what the entry k's pair asks for
  ok_at : {P m : List ℕ} {g h : ℕ} → Old (begun a k) m → Ok P a (X a k) (Y a k) → Right P m → Needs (step_of P) (X a k) (Y a k) g h → Ok P m g h
  ok_at {P} {m} {g} {h} old ok r n = record {
    all = r;
    needs = λ i l e.
        let la : i < length a = omega (arith, r.long, ok.all.long) in
        let q : key_of (get_or m i 0) ≡ key_of (get_or a i 0) = (r.entry i l).key ∙ sym (ok.all.entry i la).key in
        subst (λ (t : ℕ). Needs (step_of P) (t / 256) (t % 256) g h) (sym q)
        (elim (ℕ_discrete i k) [
          | yes f ↦ subst (λ (j : ℕ). Needs (step_of P) (X a j) (Y a j) g h) (sym f) n
          | no f ↦ needs_trans (ok.needs i la (ap st_of (sym (old i (omega arith) (omega arith) ∙ get_or-set_other a k i (pend (get_or a k 0)) 0 f)) ∙ e)) n
        ]);
  }

  -- the last asking of the entry k's pair, in the room m, left b, and the outcome w is stored
  module _ (m b d : List ℕ) (g h w : ℕ) (long : length m ≡ length a) (old : Old (begun a k) m)
      (l : Looked m g h b w) (st : Stored b k w d) (asks : (P : List ℕ) → Ok P a (X a k) (Y a k) → Asks P a k m g h w) where
    r : ℕ
    r = st.entry

    mark : Marked (get_or b k 0) w r
    unfolding r
    mark = st.marked

    lb : k < length b
    lb = omega (arith, l.long, fresh.here)

    answers : (P : List ℕ) → Ok P a (X a k) (Y a k) → Answer P b g h w
    answers P ok = l.answer P (ok_at old ok (asks P ok).all (asks P ok).needs)

    -- an outcome is neither yet to come nor being found
    mark_past : 0 < st_of r → st_of r < 5 → ⊥
    mark_past p q = elim (ℕ_discrete w 257) [ yes e ↦ omega (arith, (mark.gone e).0) | no n ↦ omega (arith, (mark.kept n).0) ]

    told_k : (P : List ℕ) → Ok P a (X a k) (Y a k) → Told (step_of P) (X a k) (Y a k) w
    told_k P ok = record {
      settles = λ n. (asks P ok).back n ((answers P ok).told.settles n);
      loops = λ e. needs_loops (asks P ok).needs ((answers P ok).told.loops e);
    }

    entry_k : (P : List ℕ) → Ok P a (X a k) (Y a k) → Entry (step_of P) (get_or P k 0) r
    entry_k P ok =
        let p : key_of r ≡ key_of (get_or P k 0) = mark.key ∙ ((answers P ok).all.entry k lb).key in
        let q : key_of (get_or a k 0) ≡ key_of r = (ok.all.entry k fresh.here).key ∙ sym p in
        let o : Told (step_of P) (left_of r) (right_of r) w = subst (λ (t : ℕ). Told (step_of P) (t / 256) (t % 256) w) q (told_k P ok) in
        elim (ℕ_discrete w 257) [
          | yes e ↦ record {
            key = p;
            fresh = λ p₁ p₂. absurd (omega (arith, mark.gone e));
            settled = λ p₁. absurd (omega (arith, mark.gone e));
            loops = λ _. o.loops e;
            bare = λ _. (mark.gone e).1;
            small = omega (arith, mark.gone e);
          }
          | no n ↦ record {
            key = p;
            fresh = λ p₁ p₂. absurd (omega (arith, mark.kept n));
            settled = λ _. subst (λ (u : ℕ). Settles (step_of P) (left_of r) (right_of r) u) (omega (arith, mark.kept n, l.small n)) (o.settles n);
            loops = λ p₁. absurd (omega (arith, mark.kept n));
            bare = λ p₁. absurd (omega (arith, mark.kept n));
            small = omega (arith, mark.kept n);
          }
        ]

    finish : Turned a k d w
    unfolding r
    finish = subst (λ (t : List ℕ). Turned a k t w) (sym st.stored) (record {
      looked = record {
        long = length-set b k r ∙ (l.long ∙ long);
        old = at_set (λ i u. 0 < st_of u → st_of u < 5 → u ≡ get_or a i 0) b k r lb (λ p q. absurd (mark_past p q)) (λ i n p q. old_trans (begun a k) m b old l.old i p q ∙ get_or-set_other a k i (pend (get_or a k 0)) 0 n);
        sorted = sorted_set b k r lb mark.key l.sorted;
        small = l.small;
        answer = λ P ok. record { all = right_set b k r lb (answers P ok).all (entry_k P ok); told = told_k P ok };
      };
      past = subst (λ (e : ℕ). 0 < st_of e → st_of e < 4 → ⊥) (sym (get_or-set_same b k r 0 lb)) (λ p q. mark_past p (omega arith));
    })

  -- the pair asks for one pair only
  alone : {b d : List ℕ} {w g h : ℕ} → Stored b k w d → Looked (begun a k) g h b w → ((P : List ℕ) → Right P a → Needs (step_of P) (X a k) (Y a k) g h) → ((P : List ℕ) → Right P a → (w ≡ 257 → ⊥) → Settles (step_of P) g h w → Settles (step_of P) (X a k) (Y a k) w) → Turned a k d w
  alone {b} {d} {w} {g} {h} st l n f =
      finish (begun a k) b d g h w length_begun (λ i p q. refl) l st (λ P ok. record { all = begun_right ok.all; needs = n P ok.all; back = f P ok.all })

  -- m is the room when the first pair is asked for, and x, y, z are the parts of the entry k, as the code has them
  pub settle_left : {m b d : List ℕ} {y z w : ℕ} → m ≡ begun a k → z ≡ Z a k → y ≡ Y a k → st_of (get_or a k 0) ≡ 1 → Looked m z y b w → Stored b k w d → Turned a k d w
  unfolding classed
  settle_left p q t e l st = alone st (rw (p, q, t) at l) (λ P o. needs_left (step_k o e)) (λ P o _. on_left (step_k o e))

  pub settle_right : {m b d : List ℕ} {x z w : ℕ} → m ≡ begun a k → x ≡ X a k → z ≡ Z a k → st_of (get_or a k 0) ≡ 2 → Looked m x z b w → Stored b k w d → Turned a k d w
  unfolding classed
  settle_right p q t e l st = alone st (rw (p, q, t) at l) (λ P o. needs_right (step_k o e)) (λ P o _. on_right (step_k o e))

  -- the first of two pairs never settles
  pub settle_first : {m b d : List ℕ} {x z : ℕ} → m ≡ begun a k → x ≡ X a k → z ≡ Z a k → st_of (get_or a k 0) ≡ 3 → Looked m x z b 257 → Stored b k 257 d → Turned a k d 257
  unfolding classed
  settle_first p q t e l st = alone st (rw (p, q, t) at l) (λ P o. needs_first (step_k o e)) (λ P o n. absurd (n refl))

  -- the first settles to v
  pub settle_second : {m b c d : List ℕ} {v x y z w : ℕ} → m ≡ begun a k → x ≡ X a k → y ≡ Y a k → z ≡ Z a k → st_of (get_or a k 0) ≡ 3 → v < 256 → Looked m x z c v → Looked c v y b w → Stored b k w d → Turned a k d w
  unfolding classed
  settle_second {b = b} {c} {d} {v} {w = w} p q t u e few l n st =
      let one : Looked (begun a k) (X a k) (Z a k) c v = rw (p, q, u) at l in
      finish c b d v (Y a k) w (one.long ∙ length_begun) one.old (rw t at n) st (λ P ok.
      let s = step_k ok.all e in
      let o : Answer P c (X a k) (Z a k) v = one.answer P (ok_at (λ i _ _. refl) ok (begun_right ok.all) (needs_first s)) in
      let first : Settles (step_of P) (X a k) (Z a k) v = o.told.settles (λ f. omega arith) in
      record { all = o.all; needs = needs_second s first; back = λ _. on_both s first })
