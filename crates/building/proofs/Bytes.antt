-- The file is made of bytes.
use Prim.Native.Nat.{ℕ, zero, suc, ◌+◌, ◌-◌, ◌*◌, ◌/◌, ◌%◌, ◌≤◌, ◌<◌, max}
use native.Mathlib.Nat.{mod-lt}
use native.Mathlib.Decide.{ℕ_discrete, dec_lt}
use native.Mathlib.Omega.{arith}
use mathlib.Core.Path.{◌≡◌, refl, ap}
use mathlib.Core.Bool.{Bool, true, false, cond, ◌&&◌, and-false}
use mathlib.Core.Logic.{⊎_elim}
use mathlib.Core.List.{List, [], ◌∷◌, ◌++◌}
use lib.Dec.{ltb, eqb}
use lib.ListN.{length, get_or, get_or-eq_default, get_or-append}
use lib.Seq.{get_or-append-add}
use borrow.Author.Tests.{lt-ltb, le-ltb, eq-eqb, ne_eqb, ltb-true}
use Rattle.lent.specs.Fold.{iterate, tabulate}
use Rattle.lent.proofs.Lists.{length_tabulate, get_or_tabulate}
use Rattle.tfm.specs.Sizes.{size_list}
use Rattle.tfm.specs.Subfiles.{count_of}
use Rattle.tfm.proofs.Bounds.{at_most}
use Rattle.font.specs.Font.{Font}
use Rattle.building.specs.Pick.{picked, rank, bound}
use Rattle.building.specs.Values.{place, signed_less, greater}
use Rattle.font.specs.Checked.{no_step, word_byte, program_words, step_at}
use Rattle.building.specs.Written.{table, first_code, last_code, in_file, ordered, kerns, width_index, length_index, starts, edge, moved_from, moved, front, front_address, front_byte, step_byte, end_address, end_byte, program_byte, new_remainder, info_byte, letters_byte, summand, summed, computed_sum, header_byte, byte_in, sizes_for, size_byte, part_for, written}
use Rattle.building.proofs.Picks.{length_picked, bound_le, least_bound}
use Rattle.building.proofs.Places.{In, Falls, in_place, in_distinct, at_index, out_distinct, distinct_falls, length_distinct, moved_most, moved_or_near}
use Rattle.building.proofs.Accepts.{Fits, codes_order, last_byte}
use Rattle.building.proofs.Chars.{Whole, index_in_lem}
use Rattle.building.proofs.Runs.{Runs, words_are, label_in, start_in}
use Rattle.building.proofs.Kerns.{Kern, kern, out_kerns, kern_in_lem}

-- a list of bytes
abbrev pub Bytes : List ℕ → Type 0
Bytes s = (i : ℕ) → get_or s i 0 < 256

bytes_tabulate : (g : ℕ → ℕ) (n : ℕ) → ((i : ℕ) → i < n → g i < 256) → Bytes (tabulate g n)
bytes_tabulate g n h i = elim (dec_lt i n) [
  | yes p ↦ omega (arith, get_or_tabulate g n i p, h i p)
  | no p ↦ let m = length_tabulate g n in omega (arith, get_or-eq_default (tabulate g n) 0 {n = i} (omega arith))
]

bytes_append : (s t : List ℕ) → Bytes s → Bytes t → Bytes (s ++ t)
bytes_append s t a b i = elim (dec_lt i (length s)) [
  | yes p ↦ omega (arith, get_or-append s t 0 i p, a i)
  | no p ↦ let e : length s + (i - length s) ≡ i = omega arith in
      omega (arith, ap (λ (n : ℕ). get_or (s ++ t) n 0) e, get_or-append-add s t (i - length s) 0, b (i - length s))
]

bytes_parts : (g : ℕ → List ℕ) (n : ℕ) → ((k : ℕ) → k < n → Bytes (g k)) → Bytes (iterate (λ s k. s ++ g k) [] n)
unfolding iterate
bytes_parts g zero h i = omega arith
bytes_parts g (suc n) h i = bytes_append (iterate (λ s k. s ++ g k) [] n) (g n) (bytes_parts g n (λ k p. h k (omega arith))) (h n (omega arith)) i

bytes_table : (g : ℕ → ℕ → ℕ) (n : ℕ) → ((i j : ℕ) → i < n → j < 4 → g i j < 256) → Bytes (table g n)
unfolding table
bytes_table g n h = bytes_tabulate (λ i. g (i / 4) (i % 4)) (4 * n) (λ i p. h (i / 4) (i % 4) (omega arith) (omega arith))

-- a word of 32 bits has four
abbrev pub Word : ℕ → Type 0
Word w = w < 4294967296

word_bytes : (w j : ℕ) → Word w → word_byte w j < 256
unfolding word_byte
word_bytes w j h = go (eqb j 0) (eqb j 1) (eqb j 2)
  where
    go : (a b c : Bool) → cond a (w / 16777216) (cond b (w / 65536 % 256) (cond c (w / 256 % 256) (w % 256))) < 256
    go true b c = omega arith
    go false true c = omega arith
    go false false true = omega arith
    go false false false = omega arith

-- the numbers of a font fit: words, letters, codes
pub record Narrow (F : Font) : Type 0 where
  pub check_sum : Word F.header.check_sum
  pub design_size : Word F.header.design_size
  pub scheme : (n : ℕ) → get_or F.header.scheme n 0 < 256
  pub schemes : length F.header.scheme < 256
  pub family : (n : ℕ) → get_or F.header.family n 0 < 256
  pub families : length F.header.family < 256
  pub face : F.header.face < 256
  pub further : (n : ℕ) → Word (get_or F.header.further n 0)
  pub parameters : (n : ℕ) → Word (get_or F.parameters n 0)
  pub boundary : F.program.boundary ≤ 256
  pub widths : (u : ℕ) → In u F.characters.widths → Word u
  pub heights : (u : ℕ) → In u F.characters.heights → Word u
  pub depths : (u : ℕ) → In u F.characters.depths → Word u
  pub italics : (u : ℕ) → In u F.characters.italics → Word u
  pub remainder : (c : ℕ) → (F.program.tag c ≡ 1 → ⊥) → F.program.remainder c < 256
  pub recipes : (n : ℕ) → Word (get_or F.program.recipes n 0)
  pub rights : (n : ℕ) → (get_or F.program.steps n no_step).right < 256
  pub inserts : (n : ℕ) → (get_or F.program.steps n no_step).op < 128 → (get_or F.program.steps n no_step).value < 256
  pub kerned : (n : ℕ) → Word (get_or F.program.steps n no_step).value

-- no more pass than there are
pub rank_most : (p : ℕ → Bool) (n : ℕ) → rank p n ≤ n
unfolding rank
rank_most p zero = omega arith
rank_most p (suc n) = go (p n) (rank_most p n)
  where
    go : (b : Bool) → rank p n ≤ n → cond b (suc (rank p n)) (rank p n) ≤ suc n
    go true h = omega arith
    go false h = omega arith

-- the check sum that is computed
summed_byte : (F : Font) (m a n : ℕ) → 0 < m → m ≤ 255 → a ≤ 255 → iterate (λ v c. cond (F.characters.present c) ((2 * v + summand F c) % m) v) a n ≤ 255
unfolding iterate
summed_byte F m a zero p q h = h
summed_byte F m a (suc n) p q h = go (F.characters.present n) (summed_byte F m a n p q h)
  where
    go : (b : Bool) → iterate (λ v c. cond (F.characters.present c) ((2 * v + summand F c) % m) v) a n ≤ 255
        → cond b ((2 * iterate (λ v c. cond (F.characters.present c) ((2 * v + summand F c) % m) v) a n + summand F n) % m) (iterate (λ v c. cond (F.characters.present c) ((2 * v + summand F c) % m) v) a n) ≤ 255
    go true z = omega (arith, mod-lt (2 * iterate (λ v c. cond (F.characters.present c) ((2 * v + summand F c) % m) v) a n + summand F n) {m = m} p)
    go false z = z

module _ (F : Font) (t : Fits F) (w : Whole F) (r : Runs F) (n : Narrow F) where
  first_small : first_code F ≤ 255
  unfolding first_code
  first_small = elim (ℕ_discrete (bound F.characters.present 256) 0) [
    | yes e ↦ rw (eq-eqb (bound F.characters.present 256) 0 e) (omega arith)
    | no e ↦ rw (ne_eqb (bound F.characters.present 256) 0 e) (omega (arith, least_bound F.characters.present 256 e, bound_le F.characters.present 256))
  ]

  computed_word : Word (computed_sum F)
  unfolding computed_sum summed
  computed_word =
      let f : first_code F ≤ 256 = omega (arith, codes_order F, last_byte F) in
      let a = summed_byte F 255 (first_code F) 256 (omega arith) (omega arith) first_small in
      let b = summed_byte F 253 (last_code F) 256 (omega arith) (omega arith) (last_byte F) in
      let d = summed_byte F 251 (first_code F) 256 (omega arith) (omega arith) first_small in
      let e = summed_byte F 247 (last_code F) 256 (omega arith) (omega arith) (last_byte F) in
      omega arith

  letters_byte_lem : (s : List ℕ) (i : ℕ) → ((m : ℕ) → get_or s m 0 < 256) → length s < 256 → letters_byte s i < 256
  unfolding letters_byte
  letters_byte_lem s i a b = go (eqb i 0)
    where
      go : (x : Bool) → cond x (length s) (get_or s (i - 1) 0) < 256
      go true = b
      go false = a (i - 1)

  header_small : (i j : ℕ) → header_byte F i j < 256
  unfolding header_byte
  header_small i j = go (eqb i 0) (eqb i 1) (ltb i 12) (ltb i 17) (eqb i 17)
    where
      check : (x : Bool) → Word (cond x F.header.check_sum (computed_sum F))
      check true = n.check_sum
      check false = computed_word

      last : (x y z : Bool) → cond x (cond y 0 128) (cond z F.header.face 0) < 256
      last true true z = omega arith
      last true false z = omega arith
      last false y true = n.face
      last false y false = omega arith

      go : (a b c d e : Bool) → cond a (word_byte (cond F.header.checked F.header.check_sum (computed_sum F)) j)
          (cond b (word_byte F.header.design_size j)
          (cond c (letters_byte F.header.scheme (4 * (i - 2) + j))
          (cond d (letters_byte F.header.family (4 * (i - 12) + j))
          (cond e (cond (eqb j 0) (cond F.unsafe 0 128) (cond (eqb j 3) F.header.face 0))
          (word_byte (get_or F.header.further (i - 18) 0) j))))) < 256
      go true b c d e = word_bytes _ j (check F.header.checked)
      go false true c d e = word_bytes _ j n.design_size
      go false false true d e = letters_byte_lem F.header.scheme _ n.scheme n.schemes
      go false false false true e = letters_byte_lem F.header.family _ n.family n.families
      go false false false false true = last (eqb j 0) F.unsafe (eqb j 3)
      go false false false false false = word_bytes _ j (n.further (i - 18))

  -- char_info
  width_small : (c : ℕ) → width_index F c < 256
  unfolding width_index
  width_small c = go (F.characters.present c) refl
    where
      go : (b : Bool) → F.characters.present c ≡ b → cond b (suc (place (ordered F.characters.widths) (F.characters.width c))) 0 < 256
      go true e = omega (arith, in_place (in_distinct signed_less (w.widths c e)), t.widths)
      go false e = omega arith

  starts_most : length (starts F) ≤ 256
  unfolding starts
  starts_most =
      let a = length_distinct greater (picked (λ c. in_file F c && eqb (F.program.tag c) 1) F.program.remainder 256) in
      let b = length_picked (λ c. in_file F c && eqb (F.program.tag c) 1) F.program.remainder 256 in
      omega (arith, rank_most (λ c. in_file F c && eqb (F.program.tag c) 1) 256)

  starts_fall : Falls (starts F)
  unfolding starts
  starts_fall = distinct_falls _

  label_small : (c : ℕ) → first_code F ≤ c → c ≤ last_code F → F.program.tag c ≡ 1
      → cond (ltb (place (starts F) (F.program.remainder c)) (moved F)) (place (starts F) (F.program.remainder c)) (F.program.remainder c + front F) < 256
  unfolding moved front
  label_small c a b e = elim (dec_lt (place (starts F) (F.program.remainder c)) (moved F)) [
    | yes q ↦ let m = moved_most (edge F) (starts F) 0 in rw (lt-ltb (place (starts F) (F.program.remainder c)) (moved F) q) (omega (arith, starts_most))
    | no q ↦ rw (le-ltb (place (starts F) (F.program.remainder c)) (moved F) (omega arith))
        (⊎_elim (λ (z : 0 + place (starts F) (F.program.remainder c) < moved_from (edge F) (starts F) 0). absurd (q (omega arith)))
        (λ (z : F.program.remainder c + max (moved_from (edge F) (starts F) 0) (edge F) < 256). z)
        (moved_or_near (edge F) 0 (F.program.remainder c) starts_fall (label_in F r c (omega (arith, last_byte F)) a b e)))
  ]

  remainder_small : (c : ℕ) → first_code F ≤ c → c ≤ last_code F → new_remainder F c < 256
  unfolding new_remainder
  remainder_small c a b = elim (ℕ_discrete (F.program.tag c) 1) [
    | yes e ↦ rw (eq-eqb (F.program.tag c) 1 e) (label_small c a b e)
    | no e ↦ rw (ne_eqb (F.program.tag c) 1 e) (n.remainder c e)
  ]

  info_small : (c j : ℕ) → first_code F ≤ c → c ≤ last_code F → info_byte F c j < 256
  unfolding info_byte
  info_small c j a b = go (eqb j 0) (eqb j 1) (eqb j 2)
    where
      go : (x y z : Bool) → cond x (width_index F c) (cond y (16 * length_index F.characters.heights (F.characters.height c) + length_index F.characters.depths (F.characters.depth c))
          (cond z (4 * length_index F.characters.italics (F.characters.italic c) + F.program.tag c) (new_remainder F c))) < 256
      go true y z = width_small c
      go false true z = omega (arith, index_in_lem F.characters.heights (F.characters.height c) (w.heights c), index_in_lem F.characters.depths (F.characters.depth c) (w.depths c), t.heights, t.depths)
      go false false true = omega (arith, index_in_lem F.characters.italics (F.characters.italic c) (w.italics c), t.italics, w.tags c)
      go false false false = remainder_small c a b

  -- the dimension tables, and the kerns
  entry_word : (ws : List ℕ) → ((u : ℕ) → In u ws → Word u) → (i : ℕ) → i < suc (length (ordered ws)) → Word (get_or (0 ∷ ordered ws) i 0)
  entry_word ws h zero p = omega arith
  entry_word ws h (suc i) p = h _ (out_distinct signed_less ws _ (at_index (ordered ws) i 0 (omega arith)))

  kern_words : {u : ℕ} → Kern F.program.steps u → Word u
  kern_words (kern k h o) = n.kerned k

  -- lig_kern
  nl_most : front F + program_words F ≤ 32767
  unfolding sizes_for
  nl_most = omega (arith, t.words)

  nk_most : length (kerns F) ≤ 32767
  unfolding sizes_for
  nk_most = omega (arith, t.words)

  front_near : (i : ℕ) → front_address F i < 65536
  unfolding front_address
  front_near i = elim (dec_lt i (moved F)) [
    | yes h ↦ rw (lt-ltb i (moved F) h) (omega (arith, start_in F r i h, nl_most, words_are F r))
    | no h ↦ rw (le-ltb i (moved F) (omega arith)) (omega arith)
  ]

  end_near : (k : ℕ) → end_address F k < 65536
  unfolding end_address
  end_near k = elim (ℕ_discrete (F.program.tag 256) 1) [
    | yes e ↦ rw (eq-eqb (F.program.tag 256) 1 e) (go (eqb (k + 1) (program_words F)) (r.labels 256 (omega arith) e))
    | no e ↦ rw (ne_eqb (F.program.tag 256) 1 e, and-false) (omega arith)
  ]
    where
      go : (b : Bool) → F.program.remainder 256 < length F.program.steps → cond (b && true) (F.program.remainder 256 + front F) 0 < 65536
      go true h = omega (arith, nl_most, words_are F r)
      go false h = omega arith

  skips : (k : ℕ) → k < length F.program.steps → (get_or F.program.steps k no_step).skip ≤ 128
  unfolding step_at
  skips k h = r.skips k h

  place_in_kerns : (k : ℕ) → k < length F.program.steps → 128 ≤ (get_or F.program.steps k no_step).op → place (kerns F) (get_or F.program.steps k no_step).value < length (kerns F)
  unfolding step_at
  place_in_kerns k h o = kern_in_lem F k h o

  front_small : (i j : ℕ) → front_byte F i j < 256
  unfolding front_byte front_address
  front_small i j = go (eqb j 0) (eqb j 1) (eqb j 2)
    where
      code : (b : Bool) → ltb F.program.boundary 256 ≡ b → cond b F.program.boundary 0 < 256
      code true e = ltb-true F.program.boundary 256 e
      code false e = omega arith

      flag : (b : Bool) → cond b 255 254 < 256
      flag true = omega arith
      flag false = omega arith

      go : (x y z : Bool) → cond x (cond (ltb F.program.boundary 256) 255 254) (cond y (cond (ltb F.program.boundary 256) F.program.boundary 0) (cond z (front_address F i / 256) (front_address F i % 256))) < 256
      go true y z = flag (ltb F.program.boundary 256)
      go false true z = code (ltb F.program.boundary 256) refl
      go false false true = omega (arith, front_near i)
      go false false false = omega arith

  step_small : (k j : ℕ) → k < length F.program.steps → step_byte F k j < 256
  unfolding step_byte step_at
  step_small k j h = go (eqb j 0) (eqb j 1) (eqb j 2) (dec_lt (get_or F.program.steps k no_step).op 128)
    where
      skip : (b : Bool) → cond b 128 (get_or F.program.steps k no_step).skip < 256
      skip true = omega arith
      skip false = omega (arith, skips k h)

      go : (x y z : Bool) → Dec ((get_or F.program.steps k no_step).op < 128)
          → cond x (cond (eqb (k + 1) (program_words F) && eqb (get_or F.program.steps k no_step).skip 0) 128 (get_or F.program.steps k no_step).skip)
          (cond y (get_or F.program.steps k no_step).right
          (cond z (cond (ltb (get_or F.program.steps k no_step).op 128) (get_or F.program.steps k no_step).op (128 + place (kerns F) (get_or F.program.steps k no_step).value / 256))
          (cond (ltb (get_or F.program.steps k no_step).op 128) (get_or F.program.steps k no_step).value (place (kerns F) (get_or F.program.steps k no_step).value % 256)))) < 256
      go true y z d = skip (eqb (k + 1) (program_words F) && eqb (get_or F.program.steps k no_step).skip 0)
      go false true z d = n.rights k
      go false false true (yes o) = rw (lt-ltb (get_or F.program.steps k no_step).op 128 o) (omega arith)
      go false false true (no o) = rw (le-ltb (get_or F.program.steps k no_step).op 128 (omega arith)) (omega (arith, place_in_kerns k h (omega arith), nk_most))
      go false false false (yes o) = rw (lt-ltb (get_or F.program.steps k no_step).op 128 o) (n.inserts k o)
      go false false false (no o) = rw (le-ltb (get_or F.program.steps k no_step).op 128 (omega arith)) (omega arith)

  end_small : (k j : ℕ) → end_byte F k j < 256
  unfolding end_byte
  end_small k j = go (eqb j 0) (eqb j 1) (eqb j 2)
    where
      go : (x y z : Bool) → cond x 255 (cond y 0 (cond z (end_address F k / 256) (end_address F k % 256))) < 256
      go true y z = omega arith
      go false true z = omega arith
      go false false true = omega (arith, end_near k)
      go false false false = omega arith

  program_small : (i j : ℕ) → program_byte F i j < 256
  unfolding program_byte
  program_small i j = elim (dec_lt i (front F)) [
    | yes a ↦ rw (lt-ltb i (front F) a) (front_small i j)
    | no a ↦ rw (le-ltb i (front F) (omega arith)) (elim (dec_lt (i - front F) (length F.program.steps)) [
      | yes b ↦ rw (lt-ltb (i - front F) (length F.program.steps) b) (step_small (i - front F) j b)
      | no b ↦ rw (le-ltb (i - front F) (length F.program.steps) (omega arith)) (end_small (i - front F) j)
    ])
  ]

  -- subfile by subfile
  part_bytes : (k : ℕ) → k < 10 → Bytes (part_for F k)
  unfolding part_for byte_in count_of sizes_for
  part_bytes zero h = bytes_table _ _ (λ i j p q. header_small i j)
  part_bytes (suc zero) h = bytes_table _ _ (λ i j p q. info_small (first_code F + i) j (omega arith) (omega arith))
  part_bytes (suc (suc zero)) h = bytes_table _ _ (λ i j p q. word_bytes _ j (entry_word F.characters.widths n.widths i p))
  part_bytes (suc (suc (suc zero))) h = bytes_table _ _ (λ i j p q. word_bytes _ j (entry_word F.characters.heights n.heights i p))
  part_bytes (suc (suc (suc (suc zero)))) h = bytes_table _ _ (λ i j p q. word_bytes _ j (entry_word F.characters.depths n.depths i p))
  part_bytes (suc (suc (suc (suc (suc zero))))) h = bytes_table _ _ (λ i j p q. word_bytes _ j (entry_word F.characters.italics n.italics i p))
  part_bytes (suc (suc (suc (suc (suc (suc zero)))))) h = bytes_table _ _ (λ i j p q. program_small i j)
  part_bytes (suc (suc (suc (suc (suc (suc (suc zero))))))) h = bytes_table _ _ (λ i j p q. word_bytes _ j (kern_words (out_kerns F _ (at_index (kerns F) i 0 p))))
  part_bytes (suc (suc (suc (suc (suc (suc (suc (suc zero)))))))) h = bytes_table _ _ (λ i j p q. word_bytes _ j (n.recipes i))
  part_bytes (suc (suc (suc (suc (suc (suc (suc (suc (suc zero))))))))) h = bytes_table _ _ (λ i j p q. word_bytes _ j (n.parameters i))
  part_bytes (suc (suc (suc (suc (suc (suc (suc (suc (suc (suc k)))))))))) h = absurd (omega arith)

  size_small : (i : ℕ) → get_or (size_list (sizes_for F)) i 0 ≤ 32767
  unfolding size_list sizes_for
  size_small i =
      let s = t.words in
      let e = last_byte F in
      let o = codes_order F in
      at_most 32767 (size_list (sizes_for F)) i (s, (omega arith, (omega arith, (omega arith, (omega arith, (omega arith, (omega arith, (omega arith, (omega arith, (omega arith, (omega arith, (omega arith, omega arith))))))))))))

  sizes_bytes : Bytes (tabulate (size_byte (sizes_for F)) 24)
  unfolding size_byte
  sizes_bytes = bytes_tabulate _ 24 (λ i h. go (eqb (i % 2) 0) (get_or (size_list (sizes_for F)) (i / 2) 0) (size_small (i / 2)))
    where
      go : (b : Bool) (v : ℕ) → v ≤ 32767 → cond b (v / 256) (v % 256) < 256
      go true v h = omega arith
      go false v h = omega arith

  -- THE FILE IS MADE OF BYTES
  pub written_bytes : Bytes (written F)
  unfolding written
  written_bytes = bytes_append (tabulate (size_byte (sizes_for F)) 24) (iterate (λ s k. s ++ part_for F k) [] 10) sizes_bytes (bytes_parts (part_for F) 10 part_bytes)
