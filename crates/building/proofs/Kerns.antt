-- The kerns read back, and the right boundary character.
use Prim.Native.Nat.{ℕ, zero, suc, ◌+◌, ◌-◌, ◌≤◌, ◌<◌, max}
use native.Mathlib.Nat.{not-suc-le-zero}
use native.Mathlib.Decide.{dec_lt}
use native.Mathlib.Omega.{arith}
use mathlib.Core.Path.{◌≡◌, refl, ◌∙◌, subst}
use mathlib.Core.Logic.{◌⊎◌, inl, inr, ⊎_elim}
use mathlib.Core.Bool.{Bool, true, false, cond}
use mathlib.Core.List.{List, [], ◌∷◌, ◌++◌}
use lib.Dec.{leb, ltb, eqb}
use lib.ListN.{length, get_or, get_or-eq_default}
use borrow.Author.Tests.{lt-ltb, le-ltb, le-leb, ne_eqb, eqb-true, leb-true}
use Rattle.tfm.specs.Subfiles.{count_of, table_of}
use Rattle.tfm.specs.Characters.{byte_of}
use Rattle.tfm.specs.Lengths.{word_of}
use Rattle.program.specs.Steps.{address_of, boundary_char}
use Rattle.font.specs.Font.{Font, Instruction}
use Rattle.building.specs.Values.{place, kern_joined, kerns_from}
use Rattle.font.specs.Checked.{no_step, program_words, step_at}
use Rattle.building.specs.Written.{kerns, edge, moved, front, front_byte, byte_in, sizes_for, part_for, written}
use Rattle.building.proofs.Places.{In, head, tail, in_place, reads_back, in_front, in_last, append_out, only_one}
use Rattle.building.proofs.Laid.{part_back, length_table_lem}
use Rattle.building.proofs.Chars.{kern_back}
use Rattle.building.proofs.Runs.{Runs, front_word, skip_back, kern_entry}

-- a word with a place is there
place_in : (vs : List ℕ) (w : ℕ) → place vs w < length vs → In w vs
unfolding place
place_in [] w h = absurd (not-suc-le-zero h)
place_in (v ∷ vs) w h = go (eqb v w) refl (place_in vs w) h
  where
    go : (b : Bool) → eqb v w ≡ b → (place vs w < length vs → In w vs) → cond b 0 (suc (place vs w)) < suc (length vs) → In w (v ∷ vs)
    go true e ih k = head (eqb-true v w e)
    go false e ih k = tail (ih (omega arith))

in_joined : (ks : List ℕ) (w : ℕ) → In w (kern_joined ks w)
unfolding kern_joined
in_joined ks w = elim (dec_lt (place ks w) (length ks)) [
  | yes h ↦ rw (lt-ltb (place ks w) (length ks) h) (place_in ks w h)
  | no h ↦ rw (le-ltb (place ks w) (length ks) (omega arith)) (in_last w ks)
]

in_joined_old : (ks : List ℕ) (w u : ℕ) → In u ks → In u (kern_joined ks w)
unfolding kern_joined
in_joined_old ks w u i = go (ltb (place ks w) (length ks))
  where
    go : (b : Bool) → In u (cond b ks (ks ++ (w ∷ [])))
    go true = i
    go false = in_front ks (w ∷ []) i

kerns_old : (is : List Instruction) (ks : List ℕ) (u : ℕ) → In u ks → In u (kerns_from ks is)
unfolding kerns_from
kerns_old [] ks u i = i
kerns_old (x ∷ is) ks u i = kerns_old is _ u (go (leb 128 x.op))
  where
    go : (b : Bool) → In u (cond b (kern_joined ks x.value) ks)
    go true = in_joined_old ks x.value u i
    go false = i

-- each kern's word is in the table
in_kerns : (is : List Instruction) (ks : List ℕ) (k : ℕ) → k < length is → 128 ≤ (get_or is k no_step).op → In (get_or is k no_step).value (kerns_from ks is)
unfolding kerns_from
in_kerns [] ks k h o = absurd (not-suc-le-zero h)
in_kerns (x ∷ is) ks zero h o = rw (le-leb 128 x.op o) (kerns_old is _ x.value (in_joined ks x.value))
in_kerns (x ∷ is) ks (suc k) h o = in_kerns is _ k (omega arith) o

module _ (F : Font) (r : Runs F) where
  -- the kern of step k is its word
  pub kern_word : (k : ℕ) → k < length F.program.steps → 128 ≤ (step_at F k).op
      → word_of (table_of (written F) (sizes_for F) 7) (address_of (table_of (written F) (sizes_for F) 6) (front F + k) - 32768) ≡ (step_at F k).value
  unfolding step_at
  kern_word k h o =
      let i = in_kerns F.program.steps [] k h o in
      rw (kern_entry F r k h o) (kern_back F (place (kerns F) (step_at F k).value) (in_place i) ∙ reads_back i 0)

  -- no word at all
  pub no_words : front F + program_words F ≡ 0 → byte_of (table_of (written F) (sizes_for F) 6) 0 0 ≡ 0
  unfolding byte_of part_for count_of sizes_for
  no_words e =
      let n = length_table_lem (byte_in F 6) (front F + program_words F) in
      rw (part_back F 6 (omega arith)) (get_or-eq_default (part_for F 6) 0 (omega arith))

  -- the right boundary character: the first word says it
  says : F.program.boundary < 256 → boundary_char (table_of (written F) (sizes_for F) 6) ≡ F.program.boundary
  unfolding boundary_char front edge front_byte
  says h =
      let f : 0 < max (moved F) (cond (ltb F.program.boundary 256) 1 0) = rw (lt-ltb F.program.boundary 256 h) (omega arith) in
      rw (front_word F r 0 0 f (omega arith), front_word F r 0 1 f (omega arith), lt-ltb F.program.boundary 256 h)

  front_other : 256 ≤ F.program.boundary → 0 < front F → byte_of (table_of (written F) (sizes_for F) 6) 0 0 ≡ 254
  unfolding front_byte
  front_other h f = front_word F r 0 0 f (omega arith) ∙ rw (le-ltb F.program.boundary 256 h)

  pub no_steps : front F ≡ 0 → length F.program.steps ≡ 0 → front F + program_words F ≡ 0
  unfolding program_words
  no_steps n z = rw (z, n)

  first_small : front F ≡ 0 → byte_of (table_of (written F) (sizes_for F) 6) 0 0 ≤ 128
  first_small n = elim (dec_lt 0 (length F.program.steps)) [
    | yes z ↦ let e : front F + 0 ≡ 0 = omega arith in
        let q = skip_back F r 0 z in
        omega (arith, rw e at q, r.skips 0 z)
    | no z ↦ omega (arith, no_words (none z))
  ]
    where
      none : (0 < length F.program.steps → ⊥) → front F + program_words F ≡ 0
      none z = no_steps n (omega arith)

  says_none : 256 ≤ F.program.boundary → byte_of (table_of (written F) (sizes_for F) 6) 0 0 ≡ 255 → ⊥
  says_none h e = elim (dec_lt 0 (front F)) [
    | yes f ↦ omega (arith, front_other h f)
    | no f ↦ omega (arith, first_small (omega arith))
  ]

  silent : 256 ≤ F.program.boundary → boundary_char (table_of (written F) (sizes_for F) 6) ≡ 256
  unfolding boundary_char
  silent h = rw (ne_eqb (byte_of (table_of (written F) (sizes_for F) 6) 0 0) 255 (says_none h))

  pub boundary_back : F.program.boundary ≤ 256 → boundary_char (table_of (written F) (sizes_for F) 6) ≡ F.program.boundary
  boundary_back m = elim (dec_lt F.program.boundary 256) [
    | yes h ↦ says h
    | no h ↦ silent (omega arith) ∙ omega arith
  ]

-- each word of the table is a kern's
pub data Kern (is : List Instruction) : ℕ → Type 0 where
  kern : (k : ℕ) → k < length is → 128 ≤ (get_or is k no_step).op → Kern is (get_or is k no_step).value

joined_out : (ks : List ℕ) (w u : ℕ) → In u (kern_joined ks w) → In u ks ⊎ (w ≡ u)
unfolding kern_joined
joined_out ks w u = go (ltb (place ks w) (length ks))
  where
    go : (b : Bool) → In u (cond b ks (ks ++ (w ∷ []))) → In u ks ⊎ (w ≡ u)
    go true i = inl i
    go false i = ⊎_elim (λ j. inl j) (λ (j : In u (w ∷ [])). inr (only_one j)) (append_out ks (w ∷ []) i)

kerns_out : (is : List Instruction) (ks : List ℕ) (u : ℕ) → In u (kerns_from ks is) → In u ks ⊎ Kern is u
unfolding kerns_from
kerns_out [] ks u i = inl i
kerns_out (x ∷ is) ks u i = ⊎_elim (λ (j : In u (cond (leb 128 x.op) (kern_joined ks x.value) ks)). go (leb 128 x.op) refl j) (λ (j : Kern is u). inr (later j)) (kerns_out is _ u i)
  where
    later : {v : ℕ} → Kern is v → Kern (x ∷ is) v
    later (kern k h o) = kern (suc k) (omega arith) o

    go : (b : Bool) → leb 128 x.op ≡ b → In u (cond b (kern_joined ks x.value) ks) → In u ks ⊎ Kern (x ∷ is) u
    go true e j = ⊎_elim (λ k. inl k) (λ (k : x.value ≡ u). inr (subst (Kern (x ∷ is)) k (kern 0 (omega arith) (leb-true 128 x.op e)))) (joined_out ks x.value u j)
    go false e j = inl j

pub out_kerns : (F : Font) (u : ℕ) → In u (kerns F) → Kern F.program.steps u
out_kerns F u i = ⊎_elim (λ (j : In u []). absurd (not-suc-le-zero (in_place j))) (λ j. j) (kerns_out F.program.steps [] u i)

pub kern_in_lem : (F : Font) (k : ℕ) → k < length F.program.steps → 128 ≤ (step_at F k).op → place (kerns F) (step_at F k).value < length (kerns F)
unfolding step_at
kern_in_lem F k h o = in_place (in_kerns F.program.steps [] k h o)
