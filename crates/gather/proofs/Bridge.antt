-- The entries of a file's pairs say the file's program, and are as many as it has pairs.
use Prim.Native.Nat.{ℕ, zero, suc, ◌+◌, ◌*◌, ◌/◌, ◌%◌, ◌<◌, ◌≤◌}
use native.Mathlib.Omega.{arith}
use native.Mathlib.Decide.{dec_lt}
use mathlib.Core.Path.{◌≡◌, refl, sym, ap, ◌∙◌}
use mathlib.Core.Bool.{Bool, true, false, cond, ◌||◌}
use mathlib.Core.List.{List}
use lib.Dec.{eqb, leb}
use lib.ListN.{length, get_or, length-append}
use borrow.Author.Tests.{lt-ltb, le-ltb}
use Rattle.lent.specs.Fold.{iterate}
use Rattle.lent.specs.Write.{Text, each, flat}
use Rattle.tfm.specs.Characters.{byte_of}
use Rattle.tfm.specs.declared.Layout.{Layout}
use Rattle.program.specs.Steps.{program_of}
use Rattle.settle.specs.Settle.{Step, stop, give, left, right, both, classed, pick, step_of}
use Rattle.gather.specs.Steps.{act_of, act_at, program_steps, step_for}
use Rattle.gather.specs.Answers.{has, count_to, count}
use Rattle.gather.specs.Pairs.{packed_of, code_at, code_of, cell, row, pairs_text}
use Rattle.gather.proofs.Lists.{step_as, entries, each_same, each_rows, Listed, listed, step_nowhere}

-- what a step packs to is what it does
packed_class : (v k w : ℕ) (S : Step) → v ≡ 256 * k + w → w < 256 → k < 4 → classed k w ≡ S → classed (v / 256 % 8) (v % 256) ≡ S
packed_class v k w S e h l c =
    let a : v / 256 % 8 ≡ k = omega arith in
    let b : v % 256 ≡ w = omega arith in
    rw (a, b) c

module _ (op y z : ℕ) (hy : y < 256) (hz : z < 256) where
  packed_act : step_as (suc (packed_of op y z)) ≡ act_of op y z
  unfolding step_as packed_of act_of classed
  packed_act = on (leb 128 op || eqb op 5 || eqb op 11) (eqb op 1 || eqb op 7) (eqb op 2) (eqb op 3)
    where
      on : (a b c d : Bool) → step_as (suc (cond a y (cond b (256 + z) (cond c (512 + z) (cond d (768 + z) z)))))
          ≡ pick a (give y) (pick b (left z) (pick c (right z) (pick d (both z) (give z))))
      on true b c d = packed_class y 0 y (give y) (omega arith) hy (omega arith) refl
      on false true c d = packed_class (256 + z) 1 z (left z) (omega arith) hz (omega arith) refl
      on false false true d = packed_class (512 + z) 2 z (right z) (omega arith) hz (omega arith) refl
      on false false false true = packed_class (768 + z) 3 z (both z) (omega arith) hz (omega arith) refl
      on false false false false = packed_class z 0 z (give z) (omega arith) hz (omega arith) refl

  pub packed_small : packed_of op y z < 1024
  unfolding packed_of
  packed_small = on (leb 128 op || eqb op 5 || eqb op 11) (eqb op 1 || eqb op 7) (eqb op 2) (eqb op 3)
    where
      on : (a b c d : Bool) → cond a y (cond b (256 + z) (cond c (512 + z) (cond d (768 + z) z))) < 1024
      on true b c d = omega arith
      on false true c d = omega arith
      on false false true d = omega arith
      on false false false true = omega arith
      on false false false false = omega arith

-- the code at a key, and its entry
abbrev code_key : List ℕ → List ℕ → Layout → ℕ → ℕ
code_key infos s l k = code_of infos s l (k / 256) (k % 256)

abbrev entry : List ℕ → List ℕ → Layout → ℕ → Text
entry infos s l k = cell k (code_key infos s l k)

-- the rows of entries are the entries of all keys in order
pairs_entries : (infos s : List ℕ) (l : Layout) → flat (pairs_text infos s l) ≡ entries (code_key infos s l) 65792
unfolding pairs_text
pairs_entries infos s l =
    each_same (row infos s l) (λ x. each 256 (λ y. entry infos s l (x * 256 + y))) 257 (λ x h. each_same _ _ 256 (at x))
    ∙ each_rows (entry infos s l) 257 256
  where
    at : (x y : ℕ) → y < 256 → flat (cell (x * 256 + y) (code_of infos s l x y)) ≡ flat (entry infos s l (x * 256 + y))
    at x y h =
        let d : (x * 256 + y) / 256 ≡ x = omega arith in
        let m : (x * 256 + y) % 256 ≡ y = omega arith in
        rw (d, m)

-- the code of a step is what it does
module _ (s : List ℕ) (bytes : (k : ℕ) → get_or s k 0 < 256) where
  byte_small : (i j : ℕ) → byte_of s i j < 256
  unfolding byte_of
  byte_small i j = bytes (4 * i + j)

  pub code_small : (nl i : ℕ) → code_at s nl i ≤ 1024
  unfolding code_at
  code_small nl i = elim (dec_lt i nl) [
    | yes h ↦ rw (lt-ltb i nl h) (omega (arith, packed_small (byte_of s i 2) (byte_of s i 1) (byte_of s i 3) (byte_small i 1) (byte_small i 3)))
    | no h ↦ rw (le-ltb i nl (omega arith)) (omega arith)
  ]

  code_act : (nl i : ℕ) → step_as (code_at s nl i) ≡ act_at s nl i
  unfolding code_at act_at step_as
  code_act nl i = elim (dec_lt i nl) [
    | yes h ↦ rw (lt-ltb i nl h) (packed_act (byte_of s i 2) (byte_of s i 1) (byte_of s i 3) (byte_small i 1) (byte_small i 3))
    | no h ↦ rw (le-ltb i nl (omega arith))
  ]

-- and so for the code at a key
module _ (infos s : List ℕ) (l : Layout) (bytes : (k : ℕ) → get_or s k 0 < 256) where
  key_small : (k : ℕ) → code_key infos s l k ≤ 1024
  unfolding code_of
  key_small k = code_small s bytes l.nl (step_for s l.nl (program_of infos s l (k / 256)) (k % 256))

  key_step : (k : ℕ) → k < 65792 → step_as (code_key infos s l k) ≡ program_steps infos s l (k / 256) (k % 256)
  unfolding code_of program_steps
  key_step k h =
      rw (lt-ltb (k / 256) 257 (omega arith), lt-ltb (k % 256) 256 (omega arith))
      (code_act s bytes l.nl (step_for s l.nl (program_of infos s l (k / 256)) (k % 256)))

  pub pairs_listed : Listed (code_key infos s l) 65792 (flat (pairs_text infos s l))
  pairs_listed = rw (pairs_entries infos s l) (listed (code_key infos s l) key_small 65792)

  -- the room's program is the file's
  pub pairs_step : (x y : ℕ) → y < 256 → step_of (flat (pairs_text infos s l)) x y ≡ program_steps infos s l x y
  unfolding step_of program_steps
  pairs_step x y h = elim (dec_lt x 257) [
    | yes g ↦
        let k : ℕ = x * 256 + y in
        let a : k / 256 ≡ x = omega arith in
        let b : k % 256 ≡ y = omega arith in
        pairs_listed.here k (omega arith) ∙ key_step k (omega arith) ∙ rw (a, b)
    | no g ↦ step_nowhere (flat (pairs_text infos s l)) (x * 256 + y) (λ i q e. omega (arith, pairs_listed.below i q)) ∙ sym (outside (omega arith))
  ]
    where
      outside : 257 ≤ x → program_steps infos s l x y ≡ stop
      outside g = rw (le-ltb x 257 g)

  -- and has as many pairs
  has_step : (k : ℕ) → k < 65792 → length (flat (cell k (code_key infos s l k))) ≡ has (program_steps infos s l (k / 256) (k % 256))
  unfolding flat cell step_as has classed
  has_step k h = on (code_key infos s l k) (key_small k) ∙ ap has (key_step k h)
    where
      class : (t v : ℕ) → t < 4 → has (classed t v) ≡ 1
      class zero v g = refl
      class (suc zero) v g = refl
      class (suc (suc zero)) v g = refl
      class (suc (suc (suc zero))) v g = refl
      class (suc (suc (suc (suc t)))) v g = absurd (omega arith)

      on : (c : ℕ) → c ≤ 1024 → length (flat (cell k c)) ≡ has (step_as c)
      on zero g = refl
      on (suc v) g = sym (class (v / 256 % 8) (v % 256) (omega arith))

  count_upto : (n : ℕ) → n ≤ 65792 → length (entries (code_key infos s l) n) ≡ count_to (program_steps infos s l) n
  unfolding flat iterate count_to
  count_upto zero h = refl
  count_upto (suc n) h =
      length-append (entries (code_key infos s l) n) (flat (cell n (code_key infos s l n)))
      ∙ omega (arith, count_upto n (omega arith), has_step n (omega arith))

  pub pairs_count : length (flat (pairs_text infos s l)) ≡ count (program_steps infos s l)
  pairs_count = ap length (pairs_entries infos s l) ∙ count_upto 65792 (omega arith)
