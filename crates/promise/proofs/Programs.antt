-- The same step for every pair whose left code lies in bc..ec of the file read back, as do those that exist, or is the left boundary.
use Prim.Native.Nat.{ℕ, suc, ◌+◌, ◌≤◌, ◌<◌}
use native.Mathlib.Decide.{ℕ_discrete, dec_le, dec_lt}
use native.Mathlib.Omega.{arith}
use mathlib.Core.Path.{◌≡◌, refl, sym, ap, ◌∙◌, subst}
use mathlib.Core.Bool.{Bool, true, false, ◌&&◌, and-eq-true_iff}
use mathlib.Core.Logic.{◌⊎◌, inl, inr, ⊎_elim}
use mathlib.Core.List.{List}
use lib.Dec.{ltb, leb}
use borrow.Author.Tests.{le-ltb, lt-ltb, lt-leb, eqb-true}
use Rattle.program.proofs.Starts.{program_outside}
use Rattle.tfm.specs.Subfiles.{table_of}
use Rattle.tfm.specs.Characters.{byte_of, exists_in}
use Rattle.tfm.specs.declared.Layout.{Layout}
use Rattle.program.specs.Steps.{program_of}
use Rattle.settle.specs.Settle.{Step, stop, Settles, none as no_more, pick}
use Rattle.gather.specs.Steps.{hit, next, step_from, step_for, act_at, program_steps}
use Rattle.font.specs.Font.{Font}
use Rattle.building.specs.Pick.{rank}
use Rattle.building.specs.Written.{first_code, last_code, front, sizes_for, written}
use Rattle.building.proofs.Accepts.{Fits, last_byte}
use Rattle.building.proofs.Chars.{from_first, to_last}
use Rattle.building.proofs.Runs.{program_back, no_program_back, left_back, no_left_back}
use Rattle.clean.specs.Met.{marks_in}
use Rattle.font.specs.Read.{flagged}
use Rattle.stated.specs.Listed.{live, listed_here, start_for, listed_plain, listed_of}
use Rattle.gather.proofs.Walks.{past, at_step, same_steps}
use Rattle.promise.proofs.Follow.{Found, none, some, both_find, same_act}
use Rattle.stated.proofs.Live.{Clear, live_below, inserted}
use Rattle.promise.proofs.Listing.{start_live, tag_is, remainder_is, tag_label, runs, whole, follows}
use Rattle.promise.proofs.Alike.{Brings, brings_act, Alike, settle_alike}

-- a walk from a step over 128 finds nothing
over_none : (s : List ℕ) (nl i y : ℕ) → 128 < byte_of s i 0 → step_from s nl nl i y ≡ nl
unfolding hit next
over_none s nl i y b = elim (dec_lt i nl) [
  | yes h ↦
      same_steps s nl nl (suc nl) i y (omega arith) (omega arith)
      ∙ at_step s nl nl i y h
      ∙ rw (lt-leb (byte_of s i 0) 128 b, le-ltb (byte_of s i 0) 128 (omega arith)) (past s nl nl nl y (omega arith))
  | no h ↦ past s nl nl i y (omega arith)
]

-- no step does nothing
no_act : (s : List ℕ) (nl j : ℕ) → j ≡ nl → act_at s nl j ≡ stop
unfolding act_at
no_act s nl j e = rw (le-ltb j nl (omega arith))

module _ (f : List ℕ) (l : Layout) (c : Clear f l) (t : Fits (listed_of f l)) where
  abbrev F : Font
  F = listed_of f l

  abbrev new : ℕ → List ℕ
  new = table_of (written F) (sizes_for F)

  abbrev p : ℕ → Bool
  p = live l (marks_in f l)

  -- a left code: one in bc..ec, or the left boundary
  abbrev pub Left : ℕ → Type 0
  Left x = ((first_code F ≤ x) × (x ≤ last_code F)) ⊎ (x ≡ 256)

  pub left_most : (x : ℕ) → Left x → x ≤ 256
  left_most x h = ⊎_elim (λ (e : (first_code F ≤ x) × (x ≤ last_code F)). omega (arith, last_byte F, e.1)) (λ (e : x ≡ 256). omega arith) h

  here_present : (x : ℕ) → listed_here (table_of f l) l x ≡ true → F.characters.present x ≡ true
  unfolding listed_of flagged listed_plain
  here_present x e = e

  -- such are those that exist
  pub here_left : (x : ℕ) → listed_here (table_of f l) l x ≡ true → Left x
  here_left x e = inl (from_first F (whole f l c) x (here_present x e), to_last F (whole f l c) x (here_present x e))

  -- its program starts at the place of its step
  pub start_new : (x : ℕ) → Left x → start_for (table_of f l) l x < l.nl → program_of (new 1) (new 6) (sizes_for F) x ≡ front F + rank p (start_for (table_of f l) l x)
  start_new x h k = ⊎_elim
      (λ (e : (first_code F ≤ x) × (x ≤ last_code F)).
      program_back F (runs f l c) x (omega (arith, last_byte F, e.1)) e.0 e.1 (tag_is f l c x (left_most x h) k) (whole f l c) t
      ∙ ap (λ (r : ℕ). front F + r) (remainder_is f l c x (left_most x h) k))
      (λ (e : x ≡ 256).
      let q = subst (λ (z : ℕ). start_for (table_of f l) l z < l.nl) e k in
      subst (λ (z : ℕ). program_of (new 1) (new 6) (sizes_for F) z ≡ front F + rank p (start_for (table_of f l) l z)) (sym e)
      (left_back F (runs f l c) (tag_is f l c 256 (omega arith) q) ∙ ap (λ (r : ℕ). front F + r) (remainder_is f l c 256 (omega arith) q)))
      h

  -- or there is none
  pub none_new : (x y : ℕ) → Left x → l.nl ≤ start_for (table_of f l) l x → step_for (new 6) (sizes_for F).nl (program_of (new 1) (new 6) (sizes_for F) x) y ≡ (sizes_for F).nl
  none_new x y h k = ⊎_elim
      (λ (e : (first_code F ≤ x) × (x ≤ last_code F)).
      let q = no_program_back F (runs f l c) (whole f l c) t x (omega (arith, last_byte F, e.1)) e.0 e.1 (λ z. omega (arith, tag_label f l c x z)) in
      past (new 6) _ _ _ y (omega arith))
      (λ (e : x ≡ 256).
      subst (λ (z : ℕ). step_for (new 6) (sizes_for F).nl (program_of (new 1) (new 6) (sizes_for F) z) y ≡ (sizes_for F).nl) (sym e)
      (⊎_elim
      (λ (q : program_of (new 1) (new 6) (sizes_for F) 256 ≡ (sizes_for F).nl). past (new 6) _ _ _ y (omega arith))
      (λ (q : 128 < byte_of (new 6) (program_of (new 1) (new 6) (sizes_for F) 256) 0). over_none (new 6) _ _ y q)
      (no_left_back F (runs f l c) (λ z. omega (arith, tag_label f l c 256 z, ap (start_for (table_of f l) l) e)))))
      h

  same_at : (x y : ℕ) → Left x
      → act_at (new 6) (sizes_for F).nl (step_for (new 6) (sizes_for F).nl (program_of (new 1) (new 6) (sizes_for F) x) y)
      ≡ act_at (table_of f l 6) l.nl (step_for (table_of f l 6) l.nl (start_for (table_of f l) l x) y)
  same_at x y h = elim (dec_lt (start_for (table_of f l) l x) l.nl) [
    | yes k ↦ rw (start_new x h k) (same_act (follows f l c) y (start_for (table_of f l) l x) (start_live f l c x (left_most x h) k))
    | no k ↦
        no_act (new 6) _ _ (none_new x y h (omega arith))
        ∙ sym (no_act (table_of f l 6) l.nl _ (past (table_of f l 6) l.nl l.nl (start_for (table_of f l) l x) y (omega arith)))
  ]

  -- THE SAME STEP
  pub same_step : (x y : ℕ) → Left x → program_steps (new 1) (new 6) (sizes_for F) x y ≡ program_steps (table_of f l 1) (table_of f l 6) l x y
  unfolding program_steps start_for
  same_step x y h = ap (λ (a : Step). pick (ltb x 257 && ltb y 256) a stop) (same_at x y h)

  -- what a step of the file brings exists
  found_brings : (y : ℕ) {j j' : ℕ} → Found (follows f l c) y j j' → Brings (λ z. listed_here (table_of f l) l z ≡ true) y (act_at (table_of f l 6) l.nl j)
  unfolding act_at hit listed_here
  found_brings y none = rw (le-ltb l.nl l.nl (omega arith)) tt
  found_brings y (some j v h) =
      rw (lt-ltb j l.nl (live_below f l c j v))
      (brings_act (λ z. exists_in (table_of f l 1) l z ≡ true) (byte_of (table_of f l 6) j 2) (byte_of (table_of f l 6) j 1) y (byte_of (table_of f l 6) j 3)
      (eqb-true _ y ((and-eq-true_iff (leb (byte_of (table_of f l 6) j 0) 128) _).0 h).1)
      (λ o. inserted f l c j v o))

  brings_at : (x y : ℕ) → Left x → Brings (λ z. listed_here (table_of f l) l z ≡ true) y (act_at (table_of f l 6) l.nl (step_for (table_of f l 6) l.nl (start_for (table_of f l) l x) y))
  brings_at x y h = elim (dec_lt (start_for (table_of f l) l x) l.nl) [
    | yes k ↦ found_brings y (both_find (follows f l c) y (start_for (table_of f l) l x) (start_live f l c x (left_most x h) k))
    | no k ↦ rw (no_act (table_of f l 6) l.nl _ (past (table_of f l 6) l.nl l.nl (start_for (table_of f l) l x) y (omega arith))) tt
  ]

  brings_step : (x y : ℕ) → Left x → Brings (λ z. listed_here (table_of f l) l z ≡ true) y (program_steps (table_of f l 1) (table_of f l 6) l x y)
  unfolding program_steps start_for
  brings_step x y h = go (ltb x 257 && ltb y 256) _ (brings_at x y h)
    where
      go : (b : Bool) (a : Step) → Brings (λ z. listed_here (table_of f l) l z ≡ true) y a → Brings (λ z. listed_here (table_of f l) l z ≡ true) y (pick b a stop)
      go true a q = q
      go false a q = tt

  pub alike : Alike (λ z. listed_here (table_of f l) l z ≡ true) Left (program_steps (table_of f l 1) (table_of f l 6) l) (program_steps (new 1) (new 6) (sizes_for F))
  alike = record { among = here_left; same = λ x y h. sym (same_step x y h); brings = brings_step }

  outside : (x : ℕ) → (Left x → ⊥) → program_of (new 1) (new 6) (sizes_for F) x ≡ (sizes_for F).nl
  unfolding sizes_for
  outside x n = program_outside (new 1) (new 6) (sizes_for F) x (λ e. n (inr e)) (λ a b. n (inl (a, b)))

  -- no other code has a program there
  none_outside : (x y : ℕ) → (Left x → ⊥) → program_steps (new 1) (new 6) (sizes_for F) x y ≡ stop
  unfolding program_steps
  none_outside x y n =
      let q : program_of (new 1) (new 6) (sizes_for F) x ≡ (sizes_for F).nl = outside x n in
      let a = no_act (new 6) (sizes_for F).nl _ (past (new 6) (sizes_for F).nl (sizes_for F).nl (program_of (new 1) (new 6) (sizes_for F) x) y (omega arith)) in
      rw a (go (ltb x 257 && ltb y 256))
    where
      go : (b : Bool) → pick b stop stop ≡ stop
      go true = refl
      go false = refl

  -- so if every pair of the file settles, every pair of the file read back does
  pub all_settle : ((x y : ℕ) → y < 256 → (w : ℕ) × Settles (program_steps (table_of f l 1) (table_of f l 6) l) x y w)
      → (x y : ℕ) → y < 256 → (w : ℕ) × Settles (program_steps (new 1) (new 6) (sizes_for F)) x y w
  all_settle old x y h = go (dec_le (first_code F) x) (dec_le x (last_code F)) (ℕ_discrete x 256)
    where
      by : Left x → (w : ℕ) × Settles (program_steps (new 1) (new 6) (sizes_for F)) x y w
      by a = let o = old x y h in (o.0, settle_alike alike a o.1)

      go : Dec (first_code F ≤ x) → Dec (x ≤ last_code F) → Dec (x ≡ 256) → (w : ℕ) × Settles (program_steps (new 1) (new 6) (sizes_for F)) x y w
      go (yes a) (yes b) d = by (inl (a, b))
      go (yes a) (no b) (yes d) = by (inr d)
      go (yes a) (no b) (no d) = (y, no_more (none_outside x y (λ z. ⊎_elim (λ (e : (first_code F ≤ x) × (x ≤ last_code F)). b e.1) (λ (e : x ≡ 256). d e) z)))
      go (no a) b (yes d) = by (inr d)
      go (no a) b (no d) = (y, no_more (none_outside x y (λ z. ⊎_elim (λ (e : (first_code F ≤ x) × (x ≤ last_code F)). a e.0) (λ (e : x ≡ 256). d e) z)))
