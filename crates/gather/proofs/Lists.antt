-- The entries of keys in order are a program, which says at each key what its code says; and rows of entries are entries in order.
use Prim.Native.Nat.{ℕ, zero, suc, ◌+◌, ◌*◌, ◌/◌, ◌%◌, ◌<◌, ◌≤◌}
use native.Mathlib.Omega.{arith}
use native.Mathlib.Nat.{add-zero, add-suc}
use native.Mathlib.Decide.{dec_lt, ℕ_discrete}
use mathlib.Core.Path.{◌≡◌, refl, sym, ap, ◌∙◌, subst}
use mathlib.Core.List.{List, [], ◌∷◌, ◌++◌, append-nil, append_assoc}
use lib.ListN.{length, get_or, length-append, get_or-append}
use lib.Seq.{get_or_at}
use borrow.Author.Tests.{eq-eqb, ne_eqb}
use Rattle.lent.specs.Fold.{iterate}
use Rattle.lent.specs.Write.{Pen, Text, each, run, flat, Wrote}
use Rattle.settle.specs.Settle.{Step, stop, classed, step_in, key_of, st_of, val_of, Program}
use Rattle.gather.specs.Pairs.{cell}

-- the step that a code says
unfoldable pub step_as : ℕ → Step
step_as zero = stop
step_as (suc v) = classed (v / 256 % 8) (v % 256)

-- the entries of the keys below n, whose codes f says
abbrev pub entries : (ℕ → ℕ) → ℕ → List ℕ
entries f n = flat (each n (λ k. cell k (f k)))

-- turns that are the same, as they are written and as what was written
run_same : (f g : ℕ → Text) (n : ℕ) (p : Pen) → ((i : ℕ) → i < n → f i ≡ g i) → run p (each n f) ≡ run p (each n g)
unfolding run iterate
run_same f g zero p e = refl
run_same f g (suc n) p e =
    ap (λ (q : Pen). run q (f n)) (run_same f g n p (λ i l. e i (omega arith))) ∙ ap (λ (t : Text). run (run p (each n g)) t) (e n (omega arith))

pub same_turns : {p q : Pen} {n : ℕ} {f g : ℕ → Text} → Wrote p (each n f) q → ((i : ℕ) → i < n → f i ≡ g i) → Wrote p (each n g) q
same_turns {p} {n = n} {f} {g} w e = record { is = w.is ∙ run_same f g n p e }

pub each_same : (f g : ℕ → Text) (n : ℕ) → ((i : ℕ) → i < n → flat (f i) ≡ flat (g i)) → flat (each n f) ≡ flat (each n g)
unfolding flat iterate
each_same f g zero e = refl
each_same f g (suc n) e = rw (each_same f g n (λ i l. e i (omega arith)), e n (omega arith))

-- more turns, and turns in rows
each_add : (g : ℕ → Text) (m n : ℕ) → flat (each (m + n) g) ≡ flat (each m g) ++ flat (each n (λ j. g (m + j)))
unfolding flat iterate
each_add g m zero = rw (add-zero, append-nil)
each_add g m (suc n) = rw (add-suc, iterate) (rw (each_add g m n, append_assoc))

pub each_rows : (g : ℕ → Text) (m n : ℕ) → flat (each m (λ x. each n (λ y. g (x * n + y)))) ≡ flat (each (m * n) g)
unfolding flat iterate
each_rows g zero n = let e : zero * n ≡ 0 = omega arith in rw e
each_rows g (suc m) n =
    let e : suc m * n ≡ m * n + n = omega arith in
    rw (e, each_rows g m n) (sym (each_add g (m * n) n))

-- the step at a key in two lists
step_past : (es t : List ℕ) (k : ℕ) → ((i : ℕ) → i < length es → key_of (get_or es i 0) ≡ k → ⊥) → step_in (es ++ t) k ≡ step_in t k
unfolding step_in
step_past [] t k f = refl
step_past (e ∷ es) t k f = rw (ne_eqb (key_of e) k (f 0 (omega arith))) (step_past es t k (λ i h. f (suc i) (omega arith)))

step_front : (es t : List ℕ) (k : ℕ) → step_in t k ≡ stop → step_in (es ++ t) k ≡ step_in es k
unfolding step_in
step_front [] t k h = h
step_front (e ∷ es) t k h = rw (step_front es t k h)

pub step_nowhere : (es : List ℕ) (k : ℕ) → ((i : ℕ) → i < length es → key_of (get_or es i 0) ≡ k → ⊥) → step_in es k ≡ stop
unfolding step_in
step_nowhere es k f = rw append-nil at (step_past es [] k f)

step_one : (e k : ℕ) → key_of e ≡ k → step_in (e ∷ []) k ≡ classed (st_of e) (val_of e)
unfolding step_in
step_one e k h = rw (eq-eqb (key_of e) k h)

step_other : (e k : ℕ) → (key_of e ≡ k → ⊥) → step_in (e ∷ []) k ≡ stop
unfolding step_in
step_other e k h = rw (ne_eqb (key_of e) k h)

-- what holds of each entry and of one more
at_snoc : (T : ℕ → ℕ → Type 0) (es : List ℕ) (e : ℕ) → ((i : ℕ) → i < length es → T i (get_or es i 0)) → T (length es) e → (i : ℕ) → i < length (es ++ (e ∷ [])) → T i (get_or (es ++ (e ∷ [])) i 0)
at_snoc T es e f t i h = elim (dec_lt i (length es)) [
  | yes l ↦ subst (λ (u : ℕ). T i u) (sym (get_or-append es (e ∷ []) 0 i l)) (f i l)
  | no l ↦
      let q : i ≡ length es = omega (arith, length-append es (e ∷ [])) in
      subst (λ (j : ℕ). T j (get_or (es ++ (e ∷ [])) j 0)) (sym q) (subst (λ (u : ℕ). T (length es) u) (sym (get_or_at es e [] 0 (length es) refl)) t)
]

pub record Listed (f : ℕ → ℕ) (n : ℕ) (es : List ℕ) : Type 0 where
  pub below : (i : ℕ) → i < length es → key_of (get_or es i 0) < n
  pub all : Program es
  pub here : (k : ℕ) → k < n → step_in es k ≡ step_as (f k)

listed_more : (f : ℕ → ℕ) (n : ℕ) (es : List ℕ) (v : ℕ) → f n ≡ v → v ≤ 1024 → Listed f n es → Listed f (suc n) (es ++ flat (cell n v))
unfolding flat cell step_as
listed_more f n es zero e h l = rw append-nil (record {
  below = λ i p. omega (arith, l.below i p);
  all = l.all;
  here = λ k p. elim (ℕ_discrete k n) [
    | yes q ↦ rw (q, e) (step_nowhere es n (λ i h r. omega (arith, l.below i h)))
    | no q ↦ l.here k (omega arith)
  ];
})
listed_more f n es (suc v) e h l =
    let E = n * 2048 + v in
    record {
      below = at_snoc (λ i u. key_of u < suc n) es E (λ i p. omega (arith, l.below i p)) (omega arith);
      all = record {
        sorted = λ i j p q. at_snoc (λ j u. (i : ℕ) → i < j → key_of (get_or (es ++ (E ∷ [])) i 0) < key_of u) es E
            (λ j q i p. rw (get_or-append es (E ∷ []) 0 i (omega arith)) (l.all.sorted i j p q))
            (λ i p. rw (get_or-append es (E ∷ []) 0 i p) (omega (arith, l.below i p)))
            j q i p;
        steps = at_snoc (λ i u. st_of u < 4) es E l.all.steps (omega arith);
      };
      here = λ k p. elim (ℕ_discrete k n) [
        | yes q ↦
            let a : st_of E ≡ v / 256 % 8 = omega arith in
            let b : val_of E ≡ v % 256 = omega arith in
            rw (q, e) (step_past es (E ∷ []) n (λ i h r. omega (arith, l.below i h)) ∙ step_one E n (omega arith) ∙ rw (a, b))
        | no q ↦ step_front es (E ∷ []) k (step_other E k (λ r. omega arith)) ∙ l.here k (omega arith)
      ];
    }

pub listed : (f : ℕ → ℕ) → ((k : ℕ) → f k ≤ 1024) → (n : ℕ) → Listed f n (entries f n)
unfolding flat iterate step_in
listed f b zero = record { below = λ i h. absurd (omega arith); all = record { sorted = λ i j p q. absurd (omega arith); steps = λ i h. absurd (omega arith) }; here = λ k h. absurd (omega arith) }
listed f b (suc n) = listed_more f n (entries f n) (f n) refl (b n) (listed f b n)
