-- A head is what its slice of the text says, and is read from the slice: blanks, line ends and digits.
use Prim.Native.Nat.{ℕ, ◌+◌, ◌*◌, ◌≤◌}
use mathlib.Core.Path.{◌≡◌, refl, sym, ap}
use mathlib.Core.Bool.{Bool, true, false, cond, ◌||◌, true≢false}
use mathlib.Core.List.{List, [], ◌∷◌}
use mathlib.Core.Logic.{⊎_elim}
use lib.Dec.{ltb, eqb}
use borrow.Author.Tests.{eqb-true, le-ltb}
use Rattle.lent.proofs.Bools.{either}
use Rattle.ink.specs.Ink.{between as inside}
use Rattle.faults.specs.Header.{upper}
use Rattle.forest.specs.Forest.{line, other, ends_line, mark_of, onto, past}
use Rattle.reading.specs.Values.{Cut, cut, digit_of, digits_in}
use Rattle.reading.specs.Heads.{Statement}
use Rattle.reading.specs.Read.{Reading}
use Rattle.reading.specs.Walk.{heading, go, goes}
use Rattle.reading.specs.Raw.{normal, line_starts, past_raw}

-- a byte of a head: no parenthesis
pub data Inner : List ℕ → Type 0 where
  done : Inner []
  space : {s : List ℕ} → Inner s → Inner (32 ∷ s)
  newline : {b : ℕ} {s : List ℕ} → mark_of b ≡ line → ends_line b ≡ true → Inner s → Inner (b ∷ s)
  sign : {b : ℕ} {s : List ℕ} → mark_of b ≡ other → ends_line b ≡ false → eqb b 32 ≡ false → Inner s → Inner (b ∷ s)

-- the bytes of a head are gathered as they say
pub gathered : {A : Type 0} (tell : A → Statement → A) (r : Reading A) (d : ℕ) (starts : Bool) (a : List ℕ) {s : List ℕ} → Inner s
    → goes tell (heading r d starts a) s ≡ heading r d (line_starts starts s) (onto (normal starts s) a)
unfolding goes go normal line_starts mark_of
gathered tell r d starts a done = refl
gathered tell r d true a (space i) = gathered tell r d true a i
gathered tell r d false a (space i) = gathered tell r d false (32 ∷ a) i
gathered tell r d true a (newline e n i) = rw (e, n, normal, line_starts) (gathered tell r d true a i)
gathered tell r d false a (newline e n i) = rw (e, n, normal, line_starts) (gathered tell r d true (32 ∷ a) i)
gathered tell r d starts a (sign {b = b} {s = s} e n m i) = rw (e, n, m, normal, line_starts) (gathered tell r d false (b ∷ a) i)

-- the front of what is normal: a line end, another byte
normal_line : (starts : Bool) (b : ℕ) (s : List ℕ) → ends_line b ≡ true → normal starts (b ∷ s) ≡ cond starts (normal true s) (32 ∷ normal true s)
unfolding normal
normal_line starts b s e = rw (e, normal)

normal_other : (starts : Bool) (b : ℕ) (s : List ℕ) → ends_line b ≡ false → eqb b 32 ≡ false → normal starts (b ∷ s) ≡ b ∷ normal false s
unfolding normal
normal_other starts b s e d = rw (e, d, normal)

past_line : (b : ℕ) (s : List ℕ) → ends_line b ≡ true → past_raw (b ∷ s) ≡ past_raw s
unfolding past_raw
past_line b s e = go (eqb b 32)
  where
    go : (x : Bool) → elim (x || ends_line b) [ true ↦ past_raw s | false ↦ b ∷ s ] ≡ past_raw s
    go true = refl
    go false = rw e

-- to pass the blanks of a head is to pass the blanks and line ends of its slice
pub past_raw_lem : (starts : Bool) (s : List ℕ) → past (normal starts s) ≡ normal false (past_raw s)
unfolding past_raw past normal
past_raw_lem starts [] = refl
past_raw_lem starts (b ∷ s) =
    ⊎_elim
    (λ (e : ends_line b ≡ true). rw (normal_line starts b s e, past_line b s e) (blanks starts (normal true s) (past_raw_lem true s) (past_raw_lem true s)))
    (λ (e : ends_line b ≡ false).
    ⊎_elim (λ (d : eqb b 32 ≡ true). rw (eqb-true b 32 d) (blanks starts (normal false s) (past_raw_lem true s) (past_raw_lem false s)))
    (λ (d : eqb b 32 ≡ false). rw (normal_other starts b s e d, d, e, past, past_raw, normal_other false b s e d))
    (either (eqb b 32)))
    (either (ends_line b))
  where
    blanks : (t : Bool) (u : List ℕ) → past (normal true s) ≡ normal false (past_raw s) → past u ≡ normal false (past_raw s) → past (cond t (normal true s) (32 ∷ u)) ≡ normal false (past_raw s)
    blanks true u h k = h
    blanks false u h k = k

abbrev pub lifted : Cut → Cut
lifted (cut n s) = cut n (normal false s)

-- no line end and no blank is a digit
no_digit : (base c : ℕ) → base ≤ 16 → (eqb c 32 || ends_line c) ≡ true → ltb (digit_of c) base ≡ false
unfolding digit_of inside upper
no_digit base c h e = go (eqb c 32) refl (eqb c 10) refl (eqb c 13) refl e
  where
    at : (d : ℕ) → c ≡ d → digit_of d ≡ 16 → ltb (digit_of c) base ≡ false
    at d q r = rw (q, r) (le-ltb 16 base h)

    go : (x : Bool) → eqb c 32 ≡ x → (y : Bool) → eqb c 10 ≡ y → (z : Bool) → eqb c 13 ≡ z → (x || (y || z)) ≡ true → ltb (digit_of c) base ≡ false
    go true p y q z r t = at 32 (eqb-true c 32 p) refl
    go false p true q z r t = at 10 (eqb-true c 10 q) refl
    go false p false q true r t = at 13 (eqb-true c 13 r) refl
    go false p false q false r t = absurd (true≢false (sym t))

stop_here : (base n c : ℕ) (s : List ℕ) → ltb (digit_of c) base ≡ false → digits_in base n (c ∷ s) ≡ cut n (c ∷ s)
unfolding digits_in
stop_here base n c s e = rw (e, digits_in)

or_true : (a b : Bool) → b ≡ true → (a || b) ≡ true
or_true true b e = refl
or_true false b e = e

-- digits are read from the slice
pub digits_raw : (base n : ℕ) (s : List ℕ) → base ≤ 16 → digits_in base n (normal false s) ≡ lifted (digits_in base n s)
unfolding digits_in normal
digits_raw base n [] h = refl
digits_raw base n (c ∷ s) h =
    ⊎_elim
    (λ (e : ends_line c ≡ true).
    rw (normal_line false c s e, stop_here base n 32 (normal true s) (no_digit base 32 h refl), stop_here base n c s (no_digit base c h (or_true (eqb c 32) (ends_line c) e)))
    (ap (cut n) (sym (normal_line false c s e))))
    (λ (e : ends_line c ≡ false).
    ⊎_elim
    (λ (d : eqb c 32 ≡ true). rw (eqb-true c 32 d, stop_here base n 32 s (no_digit base 32 h refl)) (stop_here base n 32 (normal false s) (no_digit base 32 h refl)))
    (λ (d : eqb c 32 ≡ false). rw (normal_other false c s e d)
    (⊎_elim
    (λ (t : ltb (digit_of c) base ≡ true). rw (t, digits_in) (digits_raw base (base * n + digit_of c) s h))
    (λ (t : ltb (digit_of c) base ≡ false). rw (t, digits_in) (ap (cut n) (sym (normal_other false c s e d))))
    (either (ltb (digit_of c) base))))
    (either (eqb c 32)))
    (either (ends_line c))
