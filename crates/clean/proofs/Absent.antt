-- A file without mends has no finding but the remarks.
use Prim.Native.Nat.{ℕ, zero, suc, ◌+◌, ◌-◌, ◌≤◌, ◌<◌}
use native.Mathlib.Nat.{not-suc-le-zero}
use native.Mathlib.Decide.{ℕ_discrete, dec_le, dec_lt}
use native.Mathlib.Omega.{arith}
use mathlib.Core.Path.{◌≡◌, refl, sym, ap, ◌∙◌}
use mathlib.Core.Bool.{Bool, true, false, cond, and-false}
use mathlib.Core.List.{List, [], ◌++◌}
use lib.Dec.{ltb}
use lib.ListN.{length, length-append}
use borrow.Author.Tests.{ltb-false, lt-leb, lt-ltb}
use Rattle.lent.specs.Answer.{first}
use Rattle.lent.specs.Fold.{iterate}
use Rattle.lent.specs.Write.{Text, none, ◌▹◌, when, each, flat}
use Rattle.tfm.specs.Sizes.{chars}
use Rattle.tfm.specs.Subfiles.{count_of, table_of}
use Rattle.tfm.specs.Characters.{in_range}
use Rattle.tfm.specs.Lengths.{too_big}
use Rattle.tfm.specs.declared.Layout.{Layout}
use Rattle.faults.specs.Header.{string_too_long, parenthesis, nonstandard, bad_design_size, bad_parameter}
use Rattle.faults.specs.Steps.{bad_start, skips_too_far, step_for_missing, ligature_to_missing, bad_kern, odd_code}
use Rattle.faults.specs.Characters.{piece_missing, link_missing, ends_cycle, bad_recipe}
use Rattle.mend.specs.Holds.{length_table, table_number, holds_of, lowest, firsts, seconds}
use Rattle.mend.specs.Findings.{half, record_of, found, found_at, found_on, found_tags, findings, mends, any_mend}
use Rattle.clean.specs.Met.{marks_in}

-- a text of no bytes has parts of none
then_none : (t u : Text) → length (flat (t ▹ u)) ≡ 0 → (length (flat t) ≡ 0) × (length (flat u) ≡ 0)
unfolding flat
then_none t u e = let n = length-append (flat t) (flat u) in (omega arith, omega arith)

each_none : (n : ℕ) (g : ℕ → Text) → length (flat (each n g)) ≡ 0 → (i : ℕ) → i < n → length (flat (g i)) ≡ 0
unfolding flat iterate
each_none zero g e i h = absurd (not-suc-le-zero h)
each_none (suc n) g e i h =
    let m = length-append (iterate (λ s i. s ++ flat (g i)) [] n) (flat (g n)) in
    elim (dec_lt i n) [
      | yes k ↦ each_none n g (omega arith) i k
      | no k ↦ let q : i ≡ n = omega arith in rw q (omega arith)
    ]

record_some : (t a b : ℕ) → length (flat (record_of t a b)) ≡ 0 → ⊥
unfolding record_of half flat
record_some t a b e = omega arith

when_none : (x : Bool) (t a b : ℕ) → length (flat (when x (record_of t a b) none)) ≡ 0 → x ≡ false
unfolding flat
when_none true t a b e = absurd (record_some t a b e)
when_none false t a b e = refl

module _ (f : List ℕ) (l : Layout) (clean : any_mend f l ≡ false) where
  abbrev infos : List ℕ
  infos = table_of f l 1

  abbrev s : List ℕ
  s = table_of f l 6

  abbrev m : List ℕ
  m = marks_in f l

  empty : length (flat (mends f l)) ≡ 0
  unfolding any_mend
  empty = let h = ltb-false 0 (length (flat (mends f l))) clean in omega arith

  in_tags : (from n k : ℕ) → length (flat (findings f l from n)) ≡ 0 → k < n → (i j : ℕ) → i < firsts l (from + k) → j < seconds l (from + k) (lowest l (from + k) + i)
      → holds_of f infos s m (table_of f l (table_number (from + k) (lowest l (from + k) + i))) l (from + k) (lowest l (from + k) + i) j ≡ false
  unfolding found_tags found_on found_at found
  in_tags from n k e h i j p q =
      let a = each_none n _ e k h in
      let b = each_none (firsts l (from + k)) _ a i p in
      when_none _ _ _ _ (each_none (seconds l (from + k) (lowest l (from + k) + i)) _ b j q)

  parts : (length (flat (findings f l 2 4)) ≡ 0) × (length (flat (findings f l 7 11)) ≡ 0) × (length (flat (findings f l 19 5)) ≡ 0)
  parts =
      let a = then_none (findings f l 2 4 ▹ findings f l 7 11) (findings f l 19 5) empty in
      let b = then_none (findings f l 2 4) (findings f l 7 11) a.0 in
      (b.0, b.1, a.1)

  -- 12, 14, 15 and 17: the steps
  pub no_12 : (i : ℕ) → i < l.nl → skips_too_far s m l i ≡ false
  unfolding holds_of lowest firsts seconds
  no_12 i h = let e : 0 + i ≡ i = omega arith in rw e at (in_tags 7 11 5 parts.1 (omega arith) i 0 h (omega arith))

  pub no_14 : (i : ℕ) → i < l.nl → step_for_missing infos s m l i ≡ false
  unfolding holds_of lowest firsts seconds
  no_14 i h = let e : 0 + i ≡ i = omega arith in rw e at (in_tags 7 11 7 parts.1 (omega arith) i 0 h (omega arith))

  pub no_15 : (i : ℕ) → i < l.nl → ligature_to_missing infos s m l i ≡ false
  unfolding holds_of lowest firsts seconds
  no_15 i h = let e : 0 + i ≡ i = omega arith in rw e at (in_tags 7 11 8 parts.1 (omega arith) i 0 h (omega arith))

  pub no_17 : (i : ℕ) → i < l.nl → odd_code s m i ≡ false
  unfolding holds_of lowest firsts seconds
  no_17 i h = let e : 0 + i ≡ i = omega arith in rw e at (in_tags 7 11 10 parts.1 (omega arith) i 0 h (omega arith))

  -- 11, 21, 22 and 23: the codes in bc..ec, and so all codes
  on_codes : (g : ℕ → Bool) → ((k : ℕ) → k < chars l → g (l.bc + k) ≡ false) → (x : ℕ) → l.bc ≤ x → x ≤ l.ec → g x ≡ false
  on_codes g h x a b = let e : l.bc + (x - l.bc) ≡ x = omega arith in ap g (sym e) ∙ h (x - l.bc) (omega arith)

  tag_11 : (k : ℕ) → k < chars l → bad_start infos s l (l.bc + k) ≡ false
  unfolding holds_of lowest firsts seconds
  tag_11 k h = in_tags 7 11 4 parts.1 (omega arith) k 0 h (omega arith)

  pub no_11 : (x : ℕ) → bad_start infos s l x ≡ false
  unfolding bad_start in_range
  no_11 x = elim (dec_le l.bc x) [
    | yes a ↦ elim (dec_le x l.ec) [
      | yes b ↦ on_codes (bad_start infos s l) tag_11 x a b
      | no b ↦ rw (lt-leb x l.ec (omega arith), and-false)
    ]
    | no a ↦ rw (lt-leb l.bc x (omega arith))
  ]

  -- 2, 3 and 4: the strings
  pub no_2 : (a : ℕ) → a < 2 → string_too_long (table_of f l 0) l a ≡ false
  unfolding holds_of lowest firsts seconds table_number first
  no_2 a h = let e : 0 + a ≡ a = omega arith in rw e at (in_tags 2 4 0 parts.0 (omega arith) a 0 h (omega arith))

  pub no_3 : (a n : ℕ) → a < 2 → n < 40 → parenthesis (table_of f l 0) l a n ≡ false
  unfolding holds_of lowest firsts seconds table_number first
  no_3 a n h q = let e : 0 + a ≡ a = omega arith in rw e at (in_tags 2 4 1 parts.0 (omega arith) a n h q)

  pub no_4 : (a n : ℕ) → a < 2 → n < 40 → nonstandard (table_of f l 0) l a n ≡ false
  unfolding holds_of lowest firsts seconds table_number first
  no_4 a n h q = let e : 0 + a ≡ a = omega arith in rw e at (in_tags 2 4 2 parts.0 (omega arith) a n h q)

  pub no_5 : bad_design_size (table_of f l 0) ≡ false
  unfolding holds_of lowest firsts seconds table_number first
  no_5 = in_tags 2 4 3 parts.0 (omega arith) 0 0 (omega arith) (omega arith)

  -- 7: the parameters; the first is not looked at
  pub no_7 : (i : ℕ) → i < l.np → bad_parameter (table_of f l 9) (i + 1) ≡ false
  unfolding holds_of lowest firsts seconds table_number first bad_parameter
  no_7 zero h = refl
  no_7 (suc i) h = let e : 2 + i ≡ suc i + 1 = omega arith in rw e at (in_tags 7 11 0 parts.1 (omega arith) i 0 (omega arith) (omega arith))

  -- 9: the tables
  no_9_of : (a b : ℕ) → a < 5 → b < count_of l (length_table a) → too_big (table_of f l (length_table a)) b ≡ false
  unfolding holds_of lowest firsts seconds table_number first
  no_9_of a b h q = let e : 0 + a ≡ a = omega arith in rw e at (in_tags 7 11 2 parts.1 (omega arith) a b h (rw e q))

  pub no_9 : (t b : ℕ) → 2 ≤ t → t ≤ 7 → (t ≡ 6 → ⊥) → b < count_of l t → too_big (table_of f l t) b ≡ false
  unfolding length_table
  no_9 t b low high other h = elim (ℕ_discrete t 7) [
    | yes e ↦ rw e (no_9_of 4 b (omega arith) (rw e at h))
    | no e ↦ let d : cond (ltb (t - 2) 4) (t - 2 + 2) 7 ≡ t = rw (lt-ltb (t - 2) 4 (omega arith)) (omega arith) in
        rw d at (no_9_of (t - 2) b (omega arith) (rw d h))
  ]

  -- 16: the kerns
  pub no_16 : (i : ℕ) → i < l.nl → bad_kern s m l i ≡ false
  unfolding holds_of lowest firsts seconds
  no_16 i h = let e : 0 + i ≡ i = omega arith in rw e at (in_tags 7 11 9 parts.1 (omega arith) i 0 h (omega arith))

  -- 19: the recipes
  pub no_19 : (r n : ℕ) → r < l.ne → n < 4 → piece_missing infos (table_of f l 8) l r n ≡ false
  unfolding holds_of lowest firsts seconds table_number first
  no_19 r n h q = let e : 0 + r ≡ r = omega arith in rw e at (in_tags 19 5 0 parts.2 (omega arith) r n h q)

  -- 21 to 23
  tag_21 : (k : ℕ) → k < chars l → link_missing infos l (l.bc + k) ≡ false
  unfolding holds_of lowest firsts seconds
  tag_21 k h = in_tags 19 5 2 parts.2 (omega arith) k 0 h (omega arith)

  tag_22 : (k : ℕ) → k < chars l → ends_cycle infos l (l.bc + k) ≡ false
  unfolding holds_of lowest firsts seconds
  tag_22 k h = in_tags 19 5 3 parts.2 (omega arith) k 0 h (omega arith)

  tag_23 : (k : ℕ) → k < chars l → bad_recipe infos l (l.bc + k) ≡ false
  unfolding holds_of lowest firsts seconds
  tag_23 k h = in_tags 19 5 4 parts.2 (omega arith) k 0 h (omega arith)

  -- for a code in bc..ec
  module _ (x : ℕ) (a : l.bc ≤ x) (b : x ≤ l.ec) where
    pub no_21 : link_missing infos l x ≡ false
    no_21 = on_codes (link_missing infos l) tag_21 x a b

    pub no_22 : ends_cycle infos l x ≡ false
    no_22 = on_codes (ends_cycle infos l) tag_22 x a b

    pub no_23 : bad_recipe infos l x ≡ false
    no_23 = on_codes (bad_recipe infos l) tag_23 x a b
