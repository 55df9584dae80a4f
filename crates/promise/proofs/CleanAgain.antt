-- The file read back is clean: none of its findings is a mend.
use Prim.Native.Nat.{ℕ, zero, suc, ◌+◌, ◌<◌}
use native.Mathlib.Omega.{arith}
use mathlib.Core.Path.{◌≡◌, refl, ◌∙◌}
use mathlib.Core.Bool.{Bool, false}
use mathlib.Core.List.{List, [], ◌++◌}
use lib.ListN.{length, get_or, length-append}
use borrow.Author.Tests.{le-ltb}
use Rattle.stated.proofs.FontBack.{recipe_number}
use Rattle.lent.specs.Answer.{first}
use Rattle.lent.specs.Fold.{iterate}
use Rattle.lent.specs.Write.{Text, none, ◌▹◌, when, each, flat}
use Rattle.tfm.specs.Sizes.{number_of}
use Rattle.tfm.specs.Subfiles.{count_of, table_of}
use Rattle.tfm.specs.Lengths.{too_big}
use Rattle.tfm.specs.declared.Layout.{Layout}
use Rattle.faults.specs.Header.{not_zero}
use Rattle.mend.specs.Holds.{length_table, table_number, holds_of, lowest, firsts, seconds}
use Rattle.mend.specs.Findings.{found, found_at, found_on, found_tags, findings, mends, any_mend}
use Rattle.font.specs.Font.{Font}
use Rattle.building.specs.Written.{sizes_for, written, too_much}
use Rattle.building.proofs.Accepts.{Fits, fits}
use Rattle.building.proofs.Chars.{width_zero, height_zero, depth_zero, italic_zero}
use Rattle.clean.specs.Met.{NoneOver, marks_in}
use Rattle.stated.specs.Listed.{listed_of}
use Rattle.stated.proofs.Live.{Clear, clear}
use Rattle.promise.proofs.Keeps.{same_count}
use Rattle.clean.proofs.Absent.{no_2, no_3, no_4, no_5, no_7, no_9, no_14, no_17, no_19, no_21, no_22}
use Rattle.promise.proofs.Anew.{anew_10, anew_11, anew_12, anew_13, anew_14, anew_15, anew_16, anew_17}
use Rattle.promise.proofs.AnewCodes.{anew_19, anew_20, anew_21, anew_22, anew_23}
use Rattle.promise.proofs.AnewWords.{anew_2, anew_3, anew_4, anew_5, anew_7, anew_9_width, anew_9_height, anew_9_depth, anew_9_italic, anew_9_kern}

-- parts of no bytes make a text of none
none_then : (t u : Text) → length (flat t) ≡ 0 → length (flat u) ≡ 0 → length (flat (t ▹ u)) ≡ 0
unfolding flat
none_then t u a b = length-append (flat t) (flat u) ∙ omega arith

none_each : (n : ℕ) (h : ℕ → Text) → ((i : ℕ) → i < n → length (flat (h i)) ≡ 0) → length (flat (each n h)) ≡ 0
unfolding flat iterate
none_each zero h p = refl
none_each (suc n) h p =
    length-append (iterate (λ s i. s ++ flat (h i)) [] n) (flat (h n)) ∙ omega (arith, none_each n h (λ i q. p i (omega arith)), p n (omega arith))

none_when : (b : Bool) (t : Text) → b ≡ false → length (flat (when b t none)) ≡ 0
unfolding flat
none_when b t e = rw e

-- a tag none of whose findings is there
module _ (g : List ℕ) (k : Layout) where
  abbrev Holds : ℕ → ℕ → ℕ → Bool
  Holds t a b = holds_of g (table_of g k 1) (table_of g k 6) (marks_in g k) (table_of g k (table_number t a)) k t a b

  abbrev Silent : ℕ → Type 0
  Silent t = length (flat (found_on g (table_of g k 1) (table_of g k 6) (marks_in g k) k t)) ≡ 0

  silent : (t : ℕ) → ((i j : ℕ) → i < firsts k t → j < seconds k t (lowest k t + i) → Holds t (lowest k t + i) j ≡ false) → Silent t
  unfolding found_on found_at found
  silent t p = none_each (firsts k t) _ (λ i a. none_each (seconds k t (lowest k t + i)) _ (λ j b. none_when _ _ (p i j a b)))

  -- no mend at all
  no_mend : Silent 2 → Silent 3 → Silent 4 → Silent 5 → Silent 7 → Silent 8 → Silent 9 → Silent 10 → Silent 11 → Silent 12 → Silent 13 → Silent 14 → Silent 15 → Silent 16
      → Silent 17 → Silent 19 → Silent 20 → Silent 21 → Silent 22 → Silent 23 → any_mend g k ≡ false
  unfolding any_mend found_tags
  no_mend t2 t3 t4 t5 t7 t8 t9 t10 t11 t12 t13 t14 t15 t16 t17 t19 t20 t21 t22 t23 =
      let e = none_then (findings g k 2 4 ▹ findings g k 7 11) (findings g k 19 5) (none_then (findings g k 2 4) (findings g k 7 11) (none_each 4 _ low) (none_each 11 _ middle)) (none_each 5 _ high) in
      le-ltb 0 (length (flat (mends g k))) (omega arith)
    where
      low : (i : ℕ) → i < 4 → Silent (2 + i)
      low zero h = t2
      low (suc zero) h = t3
      low (suc (suc zero)) h = t4
      low (suc (suc (suc zero))) h = t5
      low (suc (suc (suc (suc i)))) h = absurd (omega arith)

      middle : (i : ℕ) → i < 11 → Silent (7 + i)
      middle zero h = t7
      middle (suc zero) h = t8
      middle (suc (suc zero)) h = t9
      middle (suc (suc (suc zero))) h = t10
      middle (suc (suc (suc (suc zero)))) h = t11
      middle (suc (suc (suc (suc (suc zero))))) h = t12
      middle (suc (suc (suc (suc (suc (suc zero)))))) h = t13
      middle (suc (suc (suc (suc (suc (suc (suc zero))))))) h = t14
      middle (suc (suc (suc (suc (suc (suc (suc (suc zero)))))))) h = t15
      middle (suc (suc (suc (suc (suc (suc (suc (suc (suc zero))))))))) h = t16
      middle (suc (suc (suc (suc (suc (suc (suc (suc (suc (suc zero)))))))))) h = t17
      middle (suc (suc (suc (suc (suc (suc (suc (suc (suc (suc (suc i))))))))))) h = absurd (omega arith)

      high : (i : ℕ) → i < 5 → Silent (19 + i)
      high zero h = t19
      high (suc zero) h = t20
      high (suc (suc zero)) h = t21
      high (suc (suc (suc zero))) h = t22
      high (suc (suc (suc (suc zero)))) h = t23
      high (suc (suc (suc (suc (suc i))))) h = absurd (omega arith)

module _ (f : List ℕ) (l : Layout) (later : ℕ) (e : number_of f l later ≡ 0) (clean : any_mend f l ≡ false) (over : NoneOver (table_of f l 1) (table_of f l 6) l)
    (bytes : (n : ℕ) → get_or f n 0 < 256) (much : too_much (listed_of f l) ≡ false) where
  abbrev F : Font
  F = listed_of f l

  abbrev g : List ℕ
  g = written (listed_of f l)

  abbrev k : Layout
  k = sizes_for (listed_of f l)

  c : Clear f l
  c = clear f l later e clean over

  t : Fits (listed_of f l)
  t = fits (listed_of f l) much

  zero_plus : (i : ℕ) → 0 + i ≡ i
  zero_plus i = omega arith

  s2 : Silent g k 2
  unfolding holds_of lowest firsts seconds table_number first
  s2 = silent g k 2 (λ i j a b. rw (zero_plus i) (anew_2 f l (no_2 f l clean) (no_3 f l clean) (no_4 f l clean) i a))

  s3 : Silent g k 3
  unfolding holds_of lowest firsts seconds table_number first
  s3 = silent g k 3 (λ i j a b. rw (zero_plus i) (anew_3 f l (no_2 f l clean) (no_3 f l clean) (no_4 f l clean) i j a))

  s4 : Silent g k 4
  unfolding holds_of lowest firsts seconds table_number first
  s4 = silent g k 4 (λ i j a b. rw (zero_plus i) (anew_4 f l (no_2 f l clean) (no_3 f l clean) (no_4 f l clean) i j a))

  s5 : Silent g k 5
  unfolding holds_of lowest firsts seconds table_number first
  s5 = silent g k 5 (λ i j a b. anew_5 f l bytes (no_5 f l clean))

  s7 : Silent g k 7
  unfolding holds_of lowest firsts seconds table_number first
  s7 = silent g k 7 (λ i j a b. let q : 2 + i ≡ i + 1 + 1 = omega arith in rw q (anew_7 f l bytes (i + 1) (omega (arith, same_count f l c t)) (no_7 f l clean (i + 1) (omega (arith, same_count f l c t)))))

  zeros : (i : ℕ) → i < 4 → not_zero (table_of g k (length_table i)) ≡ false
  unfolding not_zero length_table
  zeros zero h = rw (width_zero F)
  zeros (suc zero) h = rw (height_zero F)
  zeros (suc (suc zero)) h = rw (depth_zero F)
  zeros (suc (suc (suc zero))) h = rw (italic_zero F)
  zeros (suc (suc (suc (suc i)))) h = absurd (omega arith)

  bigs : (i j : ℕ) → i < 5 → j < count_of k (length_table i) → too_big (table_of g k (length_table i)) j ≡ false
  unfolding length_table count_of
  bigs zero j h q = anew_9_width f l c bytes (no_9 f l clean) j q
  bigs (suc zero) j h q = anew_9_height f l c bytes (no_9 f l clean) j q
  bigs (suc (suc zero)) j h q = anew_9_depth f l c bytes (no_9 f l clean) j q
  bigs (suc (suc (suc zero))) j h q = anew_9_italic f l c bytes (no_9 f l clean) j q
  bigs (suc (suc (suc (suc zero)))) j h q = anew_9_kern f l c bytes (no_9 f l clean) j q
  bigs (suc (suc (suc (suc (suc i))))) j h q = absurd (omega arith)

  s8 : Silent g k 8
  unfolding holds_of lowest firsts seconds table_number first
  s8 = silent g k 8 (λ i j a b. rw (zero_plus i) (zeros i a))

  s9 : Silent g k 9
  unfolding holds_of lowest firsts seconds table_number first
  s9 = silent g k 9 (λ i j a b. rw (zero_plus i) (bigs i j a (rw (zero_plus i) at b)))

  s10 : Silent g k 10
  unfolding holds_of lowest firsts seconds
  s10 = silent g k 10 (λ i j a b. anew_10 f l c t)

  s11 : Silent g k 11
  unfolding holds_of lowest firsts seconds
  s11 = silent g k 11 (λ i j a b. anew_11 f l c t (k.bc + i))

  s12 : Silent g k 12
  unfolding holds_of lowest firsts seconds
  s12 = silent g k 12 (λ i j a b. rw (zero_plus i) (anew_12 f l c t (marks_in g k) i a))

  s13 : Silent g k 13
  unfolding holds_of lowest firsts seconds
  s13 = silent g k 13 (λ i j a b. rw (zero_plus i) (anew_13 f l c t (marks_in g k) i a))

  s14 : Silent g k 14
  unfolding holds_of lowest firsts seconds
  s14 = silent g k 14 (λ i j a b. rw (zero_plus i) (anew_14 f l c t (marks_in g k) bytes (no_14 f l clean) i a))

  s15 : Silent g k 15
  unfolding holds_of lowest firsts seconds
  s15 = silent g k 15 (λ i j a b. rw (zero_plus i) (anew_15 f l c t (marks_in g k) i a))

  s16 : Silent g k 16
  unfolding holds_of lowest firsts seconds
  s16 = silent g k 16 (λ i j a b. rw (zero_plus i) (anew_16 f l c t (marks_in g k) i a))

  s17 : Silent g k 17
  unfolding holds_of lowest firsts seconds
  s17 = silent g k 17 (λ i j a b. rw (zero_plus i) (anew_17 f l c t (marks_in g k) (no_17 f l clean) i a))

  s19 : Silent g k 19
  unfolding holds_of lowest firsts seconds table_number first
  s19 = silent g k 19 (λ i j a b. rw (zero_plus i) (anew_19 f l c t bytes (no_19 f l clean) (recipe_number f l clean) i j a b))

  s20 : Silent g k 20
  unfolding holds_of lowest firsts seconds
  s20 = silent g k 20 (λ i j a b. anew_20 f l c t (k.bc + i) j b)

  s21 : Silent g k 21
  unfolding holds_of lowest firsts seconds
  s21 = silent g k 21 (λ i j a b. anew_21 f l c t (no_21 f l clean) (k.bc + i))

  s22 : Silent g k 22
  unfolding holds_of lowest firsts seconds
  s22 = silent g k 22 (λ i j a b. anew_22 f l c t (no_22 f l clean) (k.bc + i))

  s23 : Silent g k 23
  unfolding holds_of lowest firsts seconds
  s23 = silent g k 23 (λ i j a b. anew_23 f l c t (k.bc + i))

  -- THE FILE READ BACK IS CLEAN, as far as 18 does not speak
  pub clean_again : any_mend g k ≡ false
  clean_again = no_mend g k s2 s3 s4 s5 s7 s8 s9 s10 s11 s12 s13 s14 s15 s16 s17 s19 s20 s21 s22 s23
