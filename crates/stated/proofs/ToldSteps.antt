-- What the ligature program of a listing makes of a font.
use Prim.Native.Nat.{ℕ, zero, suc, ◌+◌, ◌-◌, ◌/◌, ◌≤◌, ◌<◌, max}
use native.Mathlib.Decide.{ℕ_discrete, dec_lt}
use native.Mathlib.Omega.{arith}
use mathlib.Core.Path.{◌≡◌, refl, sym, ap, ◌∙◌}
use mathlib.Core.Bool.{and-false, Bool, true, false, cond, ◌&&◌}
use mathlib.Core.List.{List, [], ◌∷◌, ◌++◌}
use lib.Dec.{leb, ltb, eqb}
use lib.ListN.{length, get_or, length-append}
use borrow.Author.Tests.{lt-ltb, le-ltb, lt-leb, le-leb, eq-eqb, ne_eqb, eqb-true, leb-true, leb-false}
use Rattle.lent.specs.Fold.{iterate}
use Rattle.tfm.specs.Characters.{byte_of}
use Rattle.tfm.specs.Lengths.{word_of}
use Rattle.program.specs.Steps.{address_of}
use Rattle.ligatures.specs.Ligatures.{skipped}
use Rattle.font.specs.Font.{Font, Instruction}
use Rattle.stated.specs.Listed.{listed_step}
use Rattle.reading.specs.Heads.{Statement, begins, label, kern, ligature, stop, skip}
use Rattle.reading.specs.Read.{tells}
use Rattle.reading.proofs.Tells.{tells_append}
use Rattle.stated.specs.Stated.{in_turn, label_stated, labels_stated, kern_stated, code_stated, step_stated, tail_stated, program_stated}
use Rattle.font.specs.Told.{Draft, programmed, at, labelled, skips, stepped, ended, told}
use Rattle.stated.proofs.ToldLoops.{in_turn_lem, next, at_loop}
use Rattle.stated.proofs.ToldHeader.{draft}

skips_last : (is : List Instruction) (i : Instruction) (n : ℕ) → skips (is ++ (i ∷ [])) n ≡ is ++ (record { skip = n; right = i.right; op = i.op; value = i.value } ∷ [])
unfolding skips
skips_last [] i n = refl
skips_last (j ∷ []) i n = refl
skips_last (j ∷ k ∷ is) i n = ap (◌∷◌ j) (skips_last (k ∷ is) i n)

module _ (s kerns m starts : List ℕ) where
  -- the codes whose programs start at step i
  abbrev starts_at : ℕ → ℕ → Bool
  starts_at i c = eqb (get_or starts c 0) i

  pub labels_on : ℕ → (ℕ → ℕ) → ℕ → ℕ → ℕ
  labels_on i g v = iterate (λ h c. cond (starts_at i c) (at h c v) h) (cond (starts_at i 256) (at g 256 v) g) 256

  unarmed : ℕ → Bool → Bool
  unarmed i a = iterate (λ b c. cond (starts_at i c) false b) (cond (starts_at i 256) false a) 256

  -- the words that a label at each of these codes asks for
  pub words_on : ℕ → ℕ → ℕ → ℕ
  words_on i n v = iterate (λ k c. cond (starts_at i c) (max k v) k) (cond (starts_at i 256) (max n v) n) 256

  label_told : (F : Font) (a : Bool) (i c : ℕ) → tells told (draft F a) (label_stated starts i c)
      ≡ draft (programmed F (cond (starts_at i c) (at F.program.tag c 1) F.program.tag) (cond (starts_at i c) (at F.program.remainder c (length F.program.steps)) F.program.remainder) F.program.steps
      (cond (starts_at i c) (max F.program.least (length F.program.steps + 1)) F.program.least)) (cond (starts_at i c) false a)
  unfolding tells told labelled programmed label_stated
  label_told F a i c = go (starts_at i c)
    where
      go : (t : Bool) → tells told (draft F a) (cond t (label c ∷ []) [])
          ≡ draft (programmed F (cond t (at F.program.tag c 1) F.program.tag) (cond t (at F.program.remainder c (length F.program.steps)) F.program.remainder) F.program.steps
          (cond t (max F.program.least (length F.program.steps + 1)) F.program.least)) (cond t false a)
      go true = refl
      go false = refl

  labels_told : (F : Font) (a : Bool) (i : ℕ) → tells told (draft F a) (labels_stated starts i)
      ≡ draft (programmed F (labels_on i F.program.tag 1) (labels_on i F.program.remainder (length F.program.steps)) F.program.steps (words_on i F.program.least (length F.program.steps + 1))) (unarmed i a)
  unfolding labels_stated labels_on words_on unarmed iterate programmed
  labels_told F a i =
      tells_append told (draft F a) (label_stated starts i 256) (in_turn 256 (label_stated starts i))
      ∙ ap (λ D. tells told D (in_turn 256 (label_stated starts i))) (label_told F a i 256)
      ∙ in_turn_lem told state (label_stated starts i) 256 (λ c h. label_told (state c).font (state c).armed i c)
    where
      state : ℕ → Draft
      state n =
          draft (programmed F
          (iterate (λ h c. cond (starts_at i c) (at h c 1) h) (cond (starts_at i 256) (at F.program.tag 256 1) F.program.tag) n)
          (iterate (λ h c. cond (starts_at i c) (at h c (length F.program.steps)) h) (cond (starts_at i 256) (at F.program.remainder 256 (length F.program.steps)) F.program.remainder) n)
          F.program.steps
          (iterate (λ k c. cond (starts_at i c) (max k (length F.program.steps + 1)) k) (cond (starts_at i 256) (max F.program.least (length F.program.steps + 1)) F.program.least) n))
          (iterate (λ b c. cond (starts_at i c) false b) (cond (starts_at i 256) false a) n)

  -- a step before what follows it
  abbrev bare : ℕ → Instruction
  bare i = record { skip = 0; right = byte_of s i 1; op = cond (leb 128 (byte_of s i 2)) 128 (byte_of s i 2); value = cond (leb 128 (byte_of s i 2)) (word_of kerns (address_of s i - 32768)) (byte_of s i 3) }

  -- what is known of an accessible step: it is none over 128, its kern is in the table, and its ligature's code is one of 003's
  pub record Plain (i : ℕ) : Type 0 where
    pub low : byte_of s i 0 ≤ 128
    pub kern_in_lem : leb 128 (byte_of s i 2) ≡ true → address_of s i - 32768 < length kerns / 4
    pub code_known : leb 128 (byte_of s i 2) ≡ false → code_stated (byte_of s i 2) ≡ byte_of s i 2

  step_told : (F : Font) (a : Bool) (i : ℕ) → Plain i → tells told (draft F a) (step_stated s kerns i) ≡ stepped F (bare i)
  unfolding tells told step_stated kern_stated
  step_told F a i p = rw (le-ltb 128 (byte_of s i 0) p.low) (go (leb 128 (byte_of s i 2)) refl)
    where
      go : (b : Bool) → leb 128 (byte_of s i 2) ≡ b
          → tells told (draft F a) (cond b (kern (byte_of s i 1) (kern_stated kerns (address_of s i - 32768)) ∷ []) (ligature (code_stated (byte_of s i 2)) (byte_of s i 1) (byte_of s i 3) ∷ []))
          ≡ stepped F (record { skip = 0; right = byte_of s i 1; op = cond b 128 (byte_of s i 2); value = cond b (word_of kerns (address_of s i - 32768)) (byte_of s i 3) })
      go true e = rw (lt-ltb (address_of s i - 32768) (length kerns / 4) (p.kern_in_lem e))
      go false e = rw (p.code_known e)

  -- and those that its skip asks for, which is the last of k steps
  unfoldable pub words_after : ℕ → ℕ → ℕ → ℕ
  words_after i n k = cond (eqb (byte_of s i 0) 0) n (cond (leb 128 (byte_of s i 0)) n (max n (k + skipped m i (byte_of s i 0) + 1)))

  tail_told : (F : Font) (i : ℕ) → tells told (stepped F (bare i)) (tail_stated m i (byte_of s i 0))
      ≡ draft (programmed F F.program.tag F.program.remainder (F.program.steps ++ (listed_step s kerns m i ∷ []))
      (words_after i F.program.least (length (F.program.steps ++ (bare i ∷ []))))) (eqb (byte_of s i 0) 0)
  unfolding tells told stepped ended programmed tail_stated listed_step skipped iterate words_after
  tail_told F i = go (eqb (byte_of s i 0) 0) refl (leb 128 (byte_of s i 0)) refl
    where
      listed : ℕ → Instruction
      listed n = record { skip = n; right = byte_of s i 1; op = cond (leb 128 (byte_of s i 2)) 128 (byte_of s i 2); value = cond (leb 128 (byte_of s i 2)) (word_of kerns (address_of s i - 32768)) (byte_of s i 3) }

      n : ℕ
      n = F.program.least

      k : ℕ
      k = length (F.program.steps ++ (bare i ∷ []))

      go : (z : Bool) → eqb (byte_of s i 0) 0 ≡ z → (b : Bool) → leb 128 (byte_of s i 0) ≡ b
          → tells told (stepped F (bare i)) (cond z [] (cond b (stop ∷ []) (skip (skipped m i (byte_of s i 0)) ∷ [])))
          ≡ draft (programmed F F.program.tag F.program.remainder (F.program.steps ++ (listed (cond b 128 (skipped m i (byte_of s i 0))) ∷ [])) (cond z n (cond b n (max n (k + skipped m i (byte_of s i 0) + 1))))) z
      go true e true d = absurd (omega (arith, eqb-true (byte_of s i 0) 0 e, leb-true 128 (byte_of s i 0) d))
      go true e false d = rw (eqb-true (byte_of s i 0) 0 e)
      go false e true d = rw (skips_last F.program.steps (bare i) 128)
      go false e false d = rw (skips_last F.program.steps (bare i) (skipped m i (byte_of s i 0)))

  -- an accessible step, whole
  abbrev spoken : ℕ → List Statement
  spoken i = labels_stated starts i ++ step_stated s kerns i ++ tail_stated m i (byte_of s i 0)

  -- n words are asked for before it, and there are k steps
  unfoldable pub words_with : ℕ → ℕ → List Instruction → ℕ
  words_with i n is = words_after i (words_on i n (length is + 1)) (length (is ++ (bare i ∷ [])))

  spoken_told : (F : Font) (a : Bool) (i : ℕ) → Plain i → tells told (draft F a) (spoken i)
      ≡ draft (programmed F (labels_on i F.program.tag 1) (labels_on i F.program.remainder (length F.program.steps)) (F.program.steps ++ (listed_step s kerns m i ∷ []))
      (words_with i F.program.least F.program.steps)) (eqb (byte_of s i 0) 0)
  unfolding programmed words_with
  spoken_told F a i p =
      let G = programmed F (labels_on i F.program.tag 1) (labels_on i F.program.remainder (length F.program.steps)) F.program.steps (words_on i F.program.least (length F.program.steps + 1)) in
      tells_append told (draft F a) (labels_stated starts i ++ step_stated s kerns i) (tail_stated m i (byte_of s i 0))
      ∙ ap (λ D. tells told D (tail_stated m i (byte_of s i 0)))
      (tells_append told (draft F a) (labels_stated starts i) (step_stated s kerns i) ∙ ap (λ D. tells told D (step_stated s kerns i)) (labels_told F a i) ∙ step_told G (unarmed i a) i p)
      ∙ tail_told G i

  -- the whole program, from a font without one
  unfoldable pub steps_to : ℕ → List Instruction
  steps_to n = iterate (λ is i. cond (eqb (get_or m i 0) 2) (is ++ (listed_step s kerns m i ∷ [])) is) [] n

  unfoldable pub tags_to : (ℕ → ℕ) → ℕ → ℕ → ℕ
  tags_to g n = iterate (λ h i. cond (eqb (get_or m i 0) 2) (labels_on i h 1) h) g n

  unfoldable pub places_to : (ℕ → ℕ) → ℕ → ℕ → ℕ
  places_to g n = iterate (λ h i. cond (eqb (get_or m i 0) 2) (labels_on i h (length (steps_to i))) h) g n

  unfoldable pub words_to : ℕ → ℕ → ℕ
  words_to k n = iterate (λ k i. cond (eqb (get_or m i 0) 2) (words_with i k (steps_to i)) k) k n

  pub armed_to : Bool → ℕ → Bool
  armed_to a n = iterate (λ b i. cond (eqb (get_or m i 0) 2) (eqb (byte_of s i 0) 0) b) a n

  turns_told : (F : Font) (a : Bool) (nl : ℕ) → F.program.steps ≡ [] → ((i : ℕ) → i < nl → get_or m i 0 ≡ 2 → Plain i)
      → tells told (draft F a) (in_turn nl (λ i. cond (eqb (get_or m i 0) 2) (spoken i) []))
      ≡ draft (programmed F (tags_to F.program.tag nl) (places_to F.program.remainder nl) (steps_to nl) (words_to F.program.least nl)) (armed_to a nl)
  unfolding programmed tags_to places_to steps_to words_to armed_to iterate tells
  turns_told F a nl e p =
      ap (λ is. tells told (draft (programmed F F.program.tag F.program.remainder is F.program.least) a) (in_turn nl (λ i. cond (eqb (get_or m i 0) 2) (spoken i) []))) e
      ∙ in_turn_lem told state (λ i. cond (eqb (get_or m i 0) 2) (spoken i) []) nl (λ i h. go i (eqb (get_or m i 0) 2) (λ q. p i h (eqb-true (get_or m i 0) 2 q)))
    where
      state : ℕ → Draft
      state n = draft (programmed F (tags_to F.program.tag n) (places_to F.program.remainder n) (steps_to n) (words_to F.program.least n)) (armed_to a n)

      go : (i : ℕ) (b : Bool) → (b ≡ true → Plain i) → tells told (state i) (cond b (spoken i) [])
          ≡ draft (programmed F (cond b (labels_on i (tags_to F.program.tag i) 1) (tags_to F.program.tag i)) (cond b (labels_on i (places_to F.program.remainder i) (length (steps_to i))) (places_to F.program.remainder i))
          (cond b (steps_to i ++ (listed_step s kerns m i ∷ [])) (steps_to i)) (cond b (words_with i (words_to F.program.least i) (steps_to i)) (words_to F.program.least i)))
          (cond b (eqb (byte_of s i 0) 0) (armed_to a i))
      go i true q = spoken_told (state i).font (state i).armed i (q refl)
      go i false q = refl

  pub program_told : (F : Font) (a : Bool) (nl : ℕ) → F.program.steps ≡ [] → ((i : ℕ) → i < nl → get_or m i 0 ≡ 2 → Plain i)
      → tells told (draft F a) (program_stated s kerns m starts nl)
      ≡ draft (programmed F (tags_to F.program.tag nl) (places_to F.program.remainder nl) (steps_to nl) (words_to F.program.least nl)) (cond (eqb nl 0) a (armed_to false nl))
  unfolding program_stated programmed tags_to places_to steps_to words_to iterate tells told
  program_told F a nl e p = go (eqb nl 0) refl
    where
      go : (b : Bool) → eqb nl 0 ≡ b → tells told (draft F a) (cond b [] (begins ∷ in_turn nl (λ i. cond (eqb (get_or m i 0) 2) (spoken i) [])))
          ≡ draft (programmed F (tags_to F.program.tag nl) (places_to F.program.remainder nl) (steps_to nl) (words_to F.program.least nl)) (cond b a (armed_to false nl))
      go true q = rw (eqb-true nl 0 q) (ap (λ is. draft (programmed F F.program.tag F.program.remainder is F.program.least) a) e)
      go false q = turns_told F false nl e p

  -- no more words are asked for than there will be steps, if each label stands before one and each skip leads to one
  module _ (total : ℕ) where
    on_words : (i n v : ℕ) → n ≤ total → v ≤ total → words_on i n v ≤ total
    unfolding words_on iterate
    on_words i n v h q = turns 256 (first (starts_at i 256))
      where
        first : (b : Bool) → cond b (max n v) n ≤ total
        first true = omega arith
        first false = h

        one : (b : Bool) (k : ℕ) → k ≤ total → cond b (max k v) k ≤ total
        one true k p = omega arith
        one false k p = p

        turns : (t : ℕ) → cond (starts_at i 256) (max n v) n ≤ total → iterate (λ k c. cond (starts_at i c) (max k v) k) (cond (starts_at i 256) (max n v) n) t ≤ total
        turns zero p = p
        turns (suc t) p = one (starts_at i t) _ (turns t p)

    after_words : (i n k : ℕ) → n ≤ total → (byte_of s i 0 < 128 → k + skipped m i (byte_of s i 0) + 1 ≤ total) → words_after i n k ≤ total
    unfolding words_after
    after_words i n k h q = go (eqb (byte_of s i 0) 0) (leb 128 (byte_of s i 0)) refl
      where
        go : (z b : Bool) → leb 128 (byte_of s i 0) ≡ b → cond z n (cond b n (max n (k + skipped m i (byte_of s i 0) + 1))) ≤ total
        go true b e = h
        go false true e = h
        go false false e = omega (arith, q (leb-false 128 (byte_of s i 0) e))

    pub words_most : (n : ℕ) → ((i : ℕ) → i < n → get_or m i 0 ≡ 2 → length (steps_to i) + 1 ≤ total)
        → ((i : ℕ) → i < n → get_or m i 0 ≡ 2 → byte_of s i 0 < 128 → length (steps_to i) + 1 + skipped m i (byte_of s i 0) + 1 ≤ total) → words_to 0 n ≤ total
    unfolding words_to words_with iterate
    words_most zero p q = omega arith
    words_most (suc n) p q = go (eqb (get_or m n 0) 2) refl (words_most n (λ i h. p i (omega arith)) (λ i h. q i (omega arith)))
      where
        go : (b : Bool) → eqb (get_or m n 0) 2 ≡ b → words_to 0 n ≤ total → cond b (words_with n (words_to 0 n) (steps_to n)) (words_to 0 n) ≤ total
        go true e h =
            let k = eqb-true (get_or m n 0) 2 e in
            let t = length-append (steps_to n) (bare n ∷ []) in
            after_words n (words_on n (words_to 0 n) (length (steps_to n) + 1)) (length (steps_to n ++ (bare n ∷ [])))
            (on_words n (words_to 0 n) (length (steps_to n) + 1) h (p n (omega arith) k))
            (λ z. omega (arith, q n (omega arith) k z))
        go false e h = h

  -- what the labels of step i store of a code
  labels_at : (i : ℕ) (g : ℕ → ℕ) (v x : ℕ) → labels_on i g v x ≡ cond (leb x 256 && starts_at i x) v (g x)
  unfolding labels_on at
  labels_at i g v x =
      at_loop (starts_at i) (λ c. v) (cond (starts_at i 256) (at g 256 v) g) 256 x
      ∙ elim (dec_lt x 256) [
        | yes h ↦ rw (lt-ltb x 256 h, le-leb x 256 (omega arith)) (ap (cond (starts_at i x) v) (other x (starts_at i 256) (omega arith)))
        | no h ↦ elim (ℕ_discrete x 256) [
          | yes q ↦ rw q (same_code (starts_at i 256))
          | no q ↦ rw (le-ltb x 256 (omega arith), lt-leb x 256 (omega arith)) (other x (starts_at i 256) q)
        ]
      ]
    where
      other : (x : ℕ) (b : Bool) → (x ≡ 256 → ⊥) → cond b (at g 256 v) g x ≡ g x
      other x true q = rw (ne_eqb x 256 q)
      other x false q = refl

      same_code : (b : Bool) → cond b (at g 256 v) g 256 ≡ cond b v (g 256)
      same_code true = refl
      same_code false = refl

  -- and those of all steps before n
  pub labels_all : (v : ℕ → ℕ) (g : ℕ → ℕ) (n x : ℕ) → iterate (λ h i. cond (eqb (get_or m i 0) 2) (labels_on i h (v i)) h) g n x
      ≡ cond (leb x 256 && (ltb (get_or starts x 0) n && eqb (get_or m (get_or starts x 0) 0) 2)) (v (get_or starts x 0)) (g x)
  unfolding iterate
  labels_all v g zero x = rw (le-ltb (get_or starts x 0) 0 (omega arith), and-false (leb x 256))
  labels_all v g (suc n) x = go (eqb (get_or m n 0) 2) refl (labels_all v g n x)
    where
      st : ℕ
      st = get_or starts x 0

      h : ℕ → ℕ
      h = iterate (λ h i. cond (eqb (get_or m i 0) 2) (labels_on i h (v i)) h) g n

      here : (b : Bool) (y : ℕ) → st ≡ n → h x ≡ g x → cond b (v n) (h x) ≡ cond b (v st) (g x)
      here true y q i = ap v (sym q)
      here false y q i = i

      go : (b : Bool) → eqb (get_or m n 0) 2 ≡ b → h x ≡ cond (leb x 256 && (ltb st n && eqb (get_or m st 0) 2)) (v st) (g x)
          → cond b (labels_on n h (v n)) h x ≡ cond (leb x 256 && (ltb st (suc n) && eqb (get_or m st 0) 2)) (v st) (g x)
      go true e i =
          elim (ℕ_discrete st n) [
            | yes q ↦ (let z : h x ≡ g x = i ∙ rw (le-ltb st n (omega arith), and-false (leb x 256)) in
                labels_at n h (v n) x ∙ rw (eq-eqb st n q, lt-ltb st (suc n) (omega arith), ap (λ (y : ℕ). eqb (get_or m y 0) 2) q ∙ e) (here (leb x 256 && true) n q z))
            | no q ↦ labels_at n h (v n) x ∙ rw (ne_eqb st n q, and-false (leb x 256), ← next st n q) i
          ]
      go false e i =
          elim (ℕ_discrete st n) [
            | yes q ↦ i ∙ rw (ap (λ (y : ℕ). eqb (get_or m y 0) 2) q ∙ e, and-false (ltb st n), and-false (ltb st (suc n)))
            | no q ↦ i ∙ rw (next st n q)
          ]
