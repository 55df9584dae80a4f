-- One walk over a program fills the table as asking for each right code by itself would.
use Prim.Native.Nat.{ℕ, zero, suc, ◌+◌, ◌<◌, ◌≤◌}
use native.Mathlib.Omega.{arith}
use native.Mathlib.Decide.{dec_lt, ℕ_discrete}
use mathlib.Core.Path.{◌≡◌, refl, sym, ap, ◌∙◌}
use mathlib.Core.Bool.{Bool, true, false, cond}
use mathlib.Core.List.{List, ◌∷◌}
use Rattle.std.proofs.Common.{Option, Some, None}
use Rattle.std.specs.Option.{option_or}
use Rattle.std.proofs.lemmas.List.{map-set}
use lib.ListN.{length, get_or, set, replicate, length-set, length-replicate, get_or-replicate, get_or-map}
use lib.Seq.{get_or-set_same, get_or-set_other}
use borrow.Author.Tests.{lt-ltb, le-ltb, le-leb, lt-leb, eq-eqb, ne_eqb}
use Rattle.tfm.specs.Characters.{byte_of}
use Rattle.program.specs.Steps.{next_of}
use Rattle.gather.specs.Steps.{hit, next, step_from}
use Rattle.gather.specs.Pairs.{packed_at, code_at, code_hit, code_from, held_code, codes, keep, Noted, Walked}

keep_none : (t : ℕ) → keep t 0 ≡ t
unfolding keep
keep_none zero = refl
keep_none (suc t) = refl

keep_keep : (t v w : ℕ) → keep (keep t v) w ≡ keep t (keep v w)
unfolding keep
keep_keep zero v w = refl
keep_keep (suc t) v w = refl

-- the next step is a later one
pub next_later : (s : List ℕ) (nl i : ℕ) → i < nl → i < next s nl i
unfolding next next_of
next_later s nl i h = elim (dec_lt (byte_of s i 0) 128) [
  | yes l ↦ rw (lt-ltb (byte_of s i 0) 128 l) (omega arith)
  | no l ↦ rw (le-ltb (byte_of s i 0) 128 (omega arith)) h
]

-- past the last step there is none
pub past : (s : List ℕ) (nl f i y : ℕ) → nl ≤ i → step_from s nl f i y ≡ nl
unfolding step_from
past s nl zero i y h = refl
past s nl (suc f) i y h = rw (le-ltb i nl h)

pub at_step : (s : List ℕ) (nl f i y : ℕ) → i < nl → step_from s nl (suc f) i y ≡ cond (hit s i y) i (step_from s nl f (next s nl i) y)
unfolding step_from
at_step s nl f i y h = rw (lt-ltb i nl h)

-- the bound on the steps does not matter where it reaches the end
pub same_steps : (s : List ℕ) (nl f g i y : ℕ) → nl ≤ i + f → nl ≤ i + g → step_from s nl f i y ≡ step_from s nl g i y
same_steps s nl zero g i y h k = past s nl zero i y (omega arith) ∙ sym (past s nl g i y (omega arith))
same_steps s nl (suc f) zero i y h k = past s nl (suc f) i y (omega arith) ∙ sym (past s nl zero i y (omega arith))
same_steps s nl (suc f) (suc g) i y h k = elim (dec_lt i nl) [
  | yes l ↦
      at_step s nl f i y l
      ∙ ap (cond (hit s i y) i) (same_steps s nl f g (next s nl i) y (omega (arith, next_later s nl i l)) (omega (arith, next_later s nl i l)))
      ∙ sym (at_step s nl g i y l)
  | no l ↦ past s nl (suc f) i y (omega arith) ∙ sym (past s nl (suc g) i y (omega arith))
]

code_past : (s : List ℕ) (nl f i y : ℕ) → nl ≤ i → code_from s nl f i y ≡ 0
unfolding code_at
code_past s nl f i y h = rw (past s nl f i y h, le-ltb nl nl (omega arith))

-- the code from step i: step i's own, or else that from the next
code_step : (s : List ℕ) (nl i y : ℕ) → i < nl → code_from s nl nl i y ≡ keep (code_hit s i y) (code_from s nl nl (next s nl i) y)
unfolding code_hit code_at keep
code_step s nl i y h = ap (code_at s nl) (same_steps s nl nl (suc nl) i y (omega arith) (omega arith) ∙ at_step s nl nl i y h) ∙ on (hit s i y)
  where
    on : (b : Bool) → code_at s nl (cond b i (step_from s nl nl (next s nl i) y)) ≡ keep (cond b (suc (packed_at s i)) 0) (code_from s nl nl (next s nl i) y)
    on true = rw (lt-ltb i nl h)
    on false = refl

-- the table u while the program at start is noted in the table t: what u has, then what the program at i says, is the whole
pub record On (s : List ℕ) (nl start : ℕ) (t u : List ℕ) (i : ℕ) : Type 0 where
  pub long : length u ≡ length t
  pub cell : (y : ℕ) → y < length t → keep (get_or u y 0) (code_from s nl nl i y) ≡ keep (get_or t y 0) (code_from s nl nl start y)

pub on_more : {s : List ℕ} {nl start i j : ℕ} {t u v : List ℕ} → On s nl start t u i → i < nl → j ≡ next s nl i → Noted s i u v → On s nl start t v j
on_more {s} {nl} {start} {i} {j} {t} {u} {v} o h e n = record {
  long = n.long ∙ o.long;
  cell = λ y l. rw (n.cell y (omega (arith, o.long)), e, keep_keep, ← code_step s nl i y h) (o.cell y l);
}

pub on_end : {s : List ℕ} {nl start i : ℕ} {t u : List ℕ} → On s nl start t u i → nl ≤ i → Walked s nl start t u
on_end {s} {nl} {start} {i} {t} {u} o h = record {
  long = o.long;
  cell = λ y l. sym (keep_none (get_or u y 0)) ∙ rw (code_past s nl nl i y h) at (o.cell y l);
}

-- noting a step
pub noted_over : (s : List ℕ) (i : ℕ) (t : List ℕ) (b : ℕ) → b ≡ byte_of s i 0 → 128 < b → Noted s i t t
unfolding code_hit hit
noted_over s i t b e h = record {
  long = refl;
  cell = λ y l. rw (lt-leb (byte_of s i 0) 128 (omega arith)) (sym (keep_none (get_or t y 0)));
}

pub noted_at : (s : List ℕ) (i : ℕ) (t u : List ℕ) (b : ℕ) → b ≡ byte_of s i 0 → b ≤ 128
    → u ≡ set t (byte_of s i 1) (keep (get_or t (byte_of s i 1) 0) (suc (packed_at s i))) → Noted s i t u
unfolding code_hit hit
noted_at s i t u b e h q = record {
  long = ap length q ∙ simp length-set;
  cell = λ y l. rw (q, le-leb (byte_of s i 0) 128 (omega arith)) (elim (ℕ_discrete y (byte_of s i 1)) [
    | yes r ↦ rw (r, eq-eqb (byte_of s i 1) (byte_of s i 1) refl) (get_or-set_same t (byte_of s i 1) (keep (get_or t (byte_of s i 1) 0) (suc (packed_at s i))) 0 (omega arith))
    | no r ↦ rw (ne_eqb (byte_of s i 1) y (λ w. r (sym w)), keep_none) (get_or-set_other t (byte_of s i 1) y (keep (get_or t (byte_of s i 1) 0) (suc (packed_at s i))) 0 r)
  ]);
}

-- in a table of zeros
walked_zeros : {s : List ℕ} {nl i n : ℕ} {u : List ℕ} → Walked s nl i (replicate n 0) u → (y : ℕ) → y < n → get_or u y 0 ≡ code_from s nl nl i y
unfolding keep
walked_zeros {n = n} w y h = w.cell y (omega (arith, length-replicate {A = ℕ} n 0)) ∙ rw (get_or-replicate {A = ℕ} n y 0 0 h)

-- the table of what the steps say, as codes
codes_none : (n : ℕ) → codes (replicate n None) ≡ replicate n 0
codes_none zero = refl
codes_none (suc n) = ap (λ (t : List ℕ). 0 ∷ t) (codes_none n)

held_or : (o : Option ℕ) (v : ℕ) → held_code (option_or o (Some v)) ≡ keep (held_code o) (suc v)
unfolding keep
held_or None v = refl
held_or (Some w) v = refl

pub held_first : (t : List (Option ℕ)) (y v : ℕ) → codes (set t y (option_or (get_or t y None) (Some v))) ≡ set (codes t) y (keep (get_or (codes t) y 0) (suc v))
held_first t y v =
    map-set held_code t y (option_or (get_or t y None) (Some v)) ∙ rw (get_or-map held_code t y None) (ap (set (codes t) y) (held_or (get_or t y None) v))

-- in a table of nothing
pub walked_none : {s : List ℕ} {nl i n : ℕ} (u : List (Option ℕ)) → Walked s nl i (codes (replicate n None)) (codes u) → (y : ℕ) → y < n → get_or (codes u) y 0 ≡ code_from s nl nl i y
walked_none {n = n} u w = walked_zeros {n = n} (rw (codes_none n) at w)
