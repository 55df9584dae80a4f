-- The accessible steps of a clean file: none is over 128, each leads on to another, and the skip that is listed counts those that it passes.
use Prim.Native.Nat.{ℕ, zero, suc, ◌+◌, ◌≤◌, ◌<◌}
use native.Mathlib.Decide.{dec_lt}
use native.Mathlib.Omega.{arith}
use mathlib.Core.Path.{◌≡◌, refl, sym, ap, ◌∙◌}
use mathlib.Core.Bool.{Bool, true, false, cond, and-eq-true_iff, true≢false}
use mathlib.Core.List.{List}
use lib.Dec.{ltb, eqb}
use lib.ListN.{get_or}
use borrow.Author.Tests.{lt-ltb, le-ltb, le-leb, eq-eqb, eqb-true, ltb-true}
use Rattle.lent.specs.Fold.{iterate}
use Rattle.tfm.specs.Sizes.{number_of}
use Rattle.tfm.specs.Subfiles.{table_of}
use Rattle.tfm.specs.Characters.{byte_of, exists_in}
use Rattle.tfm.specs.declared.Layout.{Layout}
use Rattle.program.specs.Steps.{next_of}
use Rattle.faults.specs.Steps.{bad_start, skips_too_far, ligature_to_missing, is_ligature, is_step, looked}
use Rattle.ligatures.specs.Ligatures.{skipped}
use Rattle.building.specs.Pick.{rank}
use Rattle.building.proofs.Picks.{rank_next}
use Rattle.clean.specs.Met.{NoneOver, marks_in}
use Rattle.stated.specs.Listed.{live}
use Rattle.mend.specs.Findings.{any_mend}
use Rattle.clean.proofs.Absent.{no_11, no_12, no_15}
use Rattle.clean.proofs.Marks.{sound, goes_marked}
use Rattle.clean.proofs.Small.{few_steps, last_code_lem}

-- §75: a skip counts the accessible steps that it passes
module _ (l : Layout) (m : List ℕ) (i : ℕ) where
  skipped_rank : (n : ℕ) → i + 1 + n ≤ l.nl → rank (live l m) (i + 1 + n) ≡ rank (live l m) (i + 1) + skipped m i n
  unfolding skipped iterate live rank
  skipped_rank zero h = let e : i + 1 + 0 ≡ i + 1 = omega arith in rw e (omega arith)
  skipped_rank (suc n) h =
      let e : i + 1 + suc n ≡ suc (i + 1 + n) = omega arith in
      rw (e, lt-ltb (i + 1 + n) l.nl (omega arith)) (go (eqb (get_or m (i + 1 + n) 0) 2) (skipped_rank n (omega arith)))
    where
      go : (b : Bool) → rank (live l m) (i + 1 + n) ≡ rank (live l m) (i + 1) + skipped m i n
          → cond b (suc (rank (live l m) (i + 1 + n))) (rank (live l m) (i + 1 + n)) ≡ rank (live l m) (i + 1) + cond b (skipped m i n + 1) (skipped m i n)
      go true q = omega arith
      go false q = q

  pub skipped_most : (n : ℕ) → skipped m i n ≤ n
  unfolding skipped iterate
  skipped_most zero = omega arith
  skipped_most (suc n) = go (eqb (get_or m (i + 1 + n) 0) 2) (skipped_most n)
    where
      go : (b : Bool) → skipped m i n ≤ n → cond b (skipped m i n + 1) (skipped m i n) ≤ suc n
      go true q = omega arith
      go false q = omega arith

-- What is known of the file: its programs meet no step over 128, and 11, 12 and 15 are not found. The sizes are those of an accepted file.
pub record Clear (f : List ℕ) (l : Layout) : Type 0 where
  pub few : l.nl ≤ 32767
  pub most : l.ec ≤ 255
  pub none : NoneOver (table_of f l 1) (table_of f l 6) l
  pub starts : (x : ℕ) → bad_start (table_of f l 1) (table_of f l 6) l x ≡ false
  pub within : (i : ℕ) → i < l.nl → skips_too_far (table_of f l 6) (marks_in f l) l i ≡ false
  pub inserts : (i : ℕ) → i < l.nl → ligature_to_missing (table_of f l 1) (table_of f l 6) (marks_in f l) l i ≡ false

module _ (f : List ℕ) (l : Layout) (c : Clear f l) where
  abbrev s : List ℕ
  s = table_of f l 6

  abbrev m : List ℕ
  m = marks_in f l

  abbrev p : ℕ → Bool
  p = live l (marks_in f l)

  pub live_below : (i : ℕ) → p i ≡ true → i < l.nl
  unfolding live
  live_below i v = ltb-true i l.nl ((and-eq-true_iff (ltb i l.nl) _).0 v).0

  pub live_marked : (i : ℕ) → p i ≡ true → get_or m i 0 ≡ 2
  unfolding live
  live_marked i v = eqb-true (get_or m i 0) 2 ((and-eq-true_iff (ltb i l.nl) _).0 v).1

  pub is_live : (i : ℕ) → i < l.nl → get_or m i 0 ≡ 2 → p i ≡ true
  unfolding live
  is_live i h e = rw (lt-ltb i l.nl h, eq-eqb (get_or m i 0) 2 e)

  pub not_live : (i : ℕ) → l.nl ≤ i → p i ≡ false
  unfolding live
  not_live i h = rw (le-ltb i l.nl h)

  -- an accessible step is at most 128
  pub live_small : (i : ℕ) → p i ≡ true → byte_of s i 0 ≤ 128
  live_small i v = c.none i (sound (table_of f l 1) s l c.most i (live_marked i v))

  -- and leads on to an accessible one
  pub next_below : (i : ℕ) → p i ≡ true → byte_of s i 0 < 128 → next_of s i < l.nl
  unfolding skips_too_far
  next_below i v b = elim (dec_lt (next_of s i) l.nl) [
    | yes h ↦ h
    | no h ↦ absurd (true≢false (sym (rw (eq-eqb (get_or m i 0) 2 (live_marked i v), lt-ltb (byte_of s i 0) 128 b, le-leb l.nl (next_of s i) (omega arith)))
        ∙ c.within i (live_below i v)))
  ]

  pub next_live : (i : ℕ) → p i ≡ true → byte_of s i 0 < 128 → p (next_of s i) ≡ true
  next_live i v b =
      let h = next_below i v b in
      is_live (next_of s i) h (goes_marked (table_of f l 1) s l c.few c.none i (live_below i v) (live_marked i v) b h)

  -- a ligature inserts a character
  pub inserted : (i : ℕ) → p i ≡ true → byte_of s i 2 < 128 → exists_in (table_of f l 1) l (byte_of s i 3) ≡ true
  unfolding ligature_to_missing is_ligature is_step looked
  inserted i v o = go (exists_in (table_of f l 1) l (byte_of s i 3)) refl
    where
      go : (b : Bool) → exists_in (table_of f l 1) l (byte_of s i 3) ≡ b → exists_in (table_of f l 1) l (byte_of s i 3) ≡ true
      go true q = q
      go false q = absurd (true≢false (sym (rw (live_marked i v, le-leb (byte_of s i 0) 128 (live_small i v), lt-ltb (byte_of s i 2) 128 o, q)) ∙ c.inserts i (live_below i v)))

  -- so the skip that is listed leads to its place
  pub next_place : (i : ℕ) → p i ≡ true → byte_of s i 0 < 128 → rank p (next_of s i) ≡ rank p i + 1 + skipped m i (byte_of s i 0)
  unfolding next_of
  next_place i v b =
      let h = next_below i v b in
      let e : i + 1 ≡ suc i = omega arith in
      let q : rank p (i + 1) ≡ suc (rank p i) = ap (rank p) e ∙ rank_next p i v in
      skipped_rank l m i (byte_of s i 0) (omega arith) ∙ omega arith

-- a file that is accepted and clean, and whose programs meet no step over 128
pub clear : (f : List ℕ) (l : Layout) (later : ℕ) → number_of f l later ≡ 0 → any_mend f l ≡ false → NoneOver (table_of f l 1) (table_of f l 6) l → Clear f l
clear f l later e clean none =
    record {
      few = few_steps f l later e;
      most = last_code_lem f l later e;
      none = none;
      starts = no_11 f l clean;
      within = no_12 f l clean;
      inserts = no_15 f l clean;
    }
