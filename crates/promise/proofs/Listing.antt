-- The font that a listing states is whole and its program runs, and the program that is built of it follows the file's.
use Prim.Native.Nat.{ℕ, zero, suc, ◌+◌, ◌-◌, ◌≤◌, ◌<◌}
use native.Mathlib.Nat.{not-suc-le-zero}
use native.Mathlib.Decide.{dec_lt}
use native.Mathlib.Omega.{arith}
use mathlib.Core.Path.{◌≡◌, refl, sym, ap, ◌∙◌, subst}
use mathlib.Core.Bool.{Bool, true, false, cond, ◌&&◌, and-eq-true_iff}
use mathlib.Core.List.{List}
use lib.Dec.{leb}
use lib.ListN.{length, get_or}
use borrow.Author.Tests.{le-leb, lt-leb, ne_eqb, leb-true}
use Rattle.tfm.specs.Subfiles.{table_of}
use Rattle.tfm.specs.Characters.{byte_of, info_of, in_range, exists_in}
use Rattle.tfm.specs.Lengths.{word_of}
use Rattle.tfm.specs.declared.Layout.{Layout}
use Rattle.program.specs.Steps.{address_of, next_of, program_of}
use Rattle.ligatures.specs.Ligatures.{skipped}
use Rattle.settle.specs.Settle.{give}
use Rattle.gather.specs.Steps.{hit, act_of}
use Rattle.font.specs.Font.{Instruction, Font}
use Rattle.building.specs.Pick.{rank, picked}
use Rattle.font.specs.Checked.{no_step, step_at}
use Rattle.font.specs.Read.{flagged}
use Rattle.building.specs.Written.{front, sizes_for, written}
use Rattle.building.proofs.Picks.{rank_below, length_picked, at_place}
use Rattle.building.proofs.Places.{In, in_picked}
use Rattle.building.proofs.Chars.{Whole}
use Rattle.building.proofs.Runs.{Runs, words_are, skip_back, right_back, op_back, value_back, kern_op}
use Rattle.clean.specs.Met.{marks_in}
use Rattle.stated.specs.Listed.{live, listed_step, listed_here, info_for, listed_width, listed_height, listed_depth, listed_italic, counted, start_for, listed_tag, listed_remainder, listed_plain, listed_of}
use Rattle.clean.proofs.Marks.{starts_marked}
use Rattle.stated.proofs.Live.{skipped_most, Clear, live_below, is_live, live_small, next_live, next_place}
use Rattle.promise.proofs.Follow.{doing, Follows}

-- each place below the count is that of one that passes
pub data At (p : ℕ → Bool) (n : ℕ) : ℕ → Type 0 where
  at : (i : ℕ) → i < n → p i ≡ true → At p n (rank p i)

pub unrank : (p : ℕ → Bool) (n k : ℕ) → k < rank p n → At p n k
unfolding rank
unrank p zero k h = absurd (not-suc-le-zero h)
unrank p (suc n) k h = go (p n) refl h (unrank p n k)
  where
    later : {j : ℕ} → At p n j → At p (suc n) j
    later (at i q e) = at i (omega arith) e

    go : (b : Bool) → p n ≡ b → k < cond b (suc (rank p n)) (rank p n) → (k < rank p n → At p n k) → At p (suc n) k
    go true e q ih = elim (dec_lt k (rank p n)) [
      | yes z ↦ later (ih z)
      | no z ↦ let y : rank p n ≡ k = omega arith in subst (At p (suc n)) y (at n (omega arith) e)
    ]
    go false e q ih = later (ih q)

module _ (f : List ℕ) (l : Layout) (c : Clear f l) where
  abbrev s : List ℕ
  s = table_of f l 6

  abbrev m : List ℕ
  m = marks_in f l

  abbrev p : ℕ → Bool
  p = live l (marks_in f l)

  abbrev F : Font
  F = listed_of f l

  steps_are : F.program.steps ≡ picked p (listed_step s (table_of f l 7) m) l.nl
  unfolding listed_of flagged listed_plain
  steps_are = refl

  pub steps_length : length F.program.steps ≡ rank p l.nl
  steps_length = ap length steps_are ∙ length_picked p _ l.nl

  least_is : F.program.least ≡ rank p l.nl
  unfolding listed_of flagged listed_plain
  least_is = refl

  pub step_at_lem : (i : ℕ) → p i ≡ true → step_at F (rank p i) ≡ listed_step s (table_of f l 7) m i
  unfolding step_at
  step_at_lem i v = ap (λ (x : List Instruction). get_or x (rank p i) no_step) steps_are ∙ at_place p _ no_step l.nl i v (live_below f l c i v)

  pub place_below : (i : ℕ) → p i ≡ true → rank p i < length F.program.steps
  place_below i v = omega (arith, rank_below p i l.nl v (live_below f l c i v), steps_length)

  pub skip_stop : (i : ℕ) → p i ≡ true → 128 ≤ byte_of s i 0 → (step_at F (rank p i)).skip ≡ 128
  unfolding listed_step
  skip_stop i v b = ap (λ (x : Instruction). x.skip) (step_at_lem i v) ∙ rw (le-leb 128 (byte_of s i 0) b)

  pub skip_on : (i : ℕ) → p i ≡ true → byte_of s i 0 < 128 → (step_at F (rank p i)).skip ≡ skipped m i (byte_of s i 0)
  unfolding listed_step
  skip_on i v b = ap (λ (x : Instruction). x.skip) (step_at_lem i v) ∙ rw (lt-leb 128 (byte_of s i 0) b)

  pub right_is : (i : ℕ) → p i ≡ true → (step_at F (rank p i)).right ≡ byte_of s i 1
  unfolding listed_step
  right_is i v = ap (λ (x : Instruction). x.right) (step_at_lem i v)

  -- a label at a start
  pub start_live : (x : ℕ) → x ≤ 256 → start_for (table_of f l) l x < l.nl → p (start_for (table_of f l) l x) ≡ true
  unfolding start_for
  start_live x n h = is_live f l c (program_of (table_of f l 1) s l x) h (starts_marked (table_of f l 1) s l c.few c.none x n h)

  pub tag_is : (x : ℕ) → x ≤ 256 → start_for (table_of f l) l x < l.nl → F.program.tag x ≡ 1
  unfolding listed_of flagged listed_plain listed_tag
  tag_is x n h = rw (start_live x n h)

  pub remainder_is : (x : ℕ) → x ≤ 256 → start_for (table_of f l) l x < l.nl → F.program.remainder x ≡ rank p (start_for (table_of f l) l x)
  unfolding listed_of flagged listed_plain listed_remainder
  remainder_is x n h = rw (start_live x n h)

  -- and no other
  pub tag_label : (x : ℕ) → F.program.tag x ≡ 1 → start_for (table_of f l) l x < l.nl
  unfolding listed_of flagged listed_plain listed_tag
  tag_label x e = go (p (start_for (table_of f l) l x)) refl (listed_here (table_of f l) l x) (leb 2 (info_for (table_of f l) l x).tag) refl e
    where
      go : (t : Bool) → p (start_for (table_of f l) l x) ≡ t → (a b : Bool) → leb 2 (info_for (table_of f l) l x).tag ≡ b
          → cond t 1 (cond (a && b) (info_for (table_of f l) l x).tag 0) ≡ 1 → start_for (table_of f l) l x < l.nl
      go true v a b q z = live_below f l c (start_for (table_of f l) l x) v
      go false v true true q z = absurd (omega (arith, leb-true 2 (info_for (table_of f l) l x).tag q))
      go false v true false q z = absurd (omega arith)
      go false v false b q z = absurd (omega arith)

  -- THE PROGRAM of the listed font runs
  pub runs : Runs F
  runs = record {
    skips = λ k h. skips (unrank p l.nl k (omega (arith, steps_length)));
    leads = λ k h. leads (unrank p l.nl k (omega (arith, steps_length)));
    labels = λ x n e. labels x n (tag_label x e);
    enough = omega (arith, steps_length, least_is);
  }
    where
      skips : {k : ℕ} → At p l.nl k → (step_at F k).skip ≤ 128
      skips (at i h v) = elim (dec_lt (byte_of s i 0) 128) [
        | yes b ↦ omega (arith, skip_on i v b, skipped_most l m i (byte_of s i 0))
        | no b ↦ omega (arith, skip_stop i v (omega arith))
      ]

      leads : {k : ℕ} → At p l.nl k → (step_at F k).skip < 128 → k + 1 + (step_at F k).skip < length F.program.steps
      leads (at i h v) q = elim (dec_lt (byte_of s i 0) 128) [
        | yes b ↦ omega (arith, skip_on i v b, next_place f l c i v b, place_below (next_of s i) (next_live f l c i v b))
        | no b ↦ absurd (omega (arith, skip_stop i v (omega arith)))
      ]

      labels : (x : ℕ) → x ≤ 256 → start_for (table_of f l) l x < l.nl → F.program.remainder x < length F.program.steps
      labels x n h = omega (arith, remainder_is x n h, place_below (start_for (table_of f l) l x) (start_live x n h))

  -- its characters are whole
  pub here_small : (x : ℕ) → listed_here (table_of f l) l x ≡ true → x < 256
  unfolding listed_here exists_in in_range
  here_small x e =
      let a = ((and-eq-true_iff (leb l.bc x && leb x l.ec) _).0 e).0 in
      let b = leb-true x l.ec ((and-eq-true_iff (leb l.bc x) _).0 a).1 in
      omega (arith, c.most)

  -- a length that is not 0 is a character's, and counts
  counts : (g h : ℕ → ℕ) → ((x : ℕ) → g x ≡ cond (listed_here (table_of f l) l x) (h x) 0) → (x : ℕ) → (g x ≡ 0 → ⊥) → In (g x) (picked (counted (table_of f l) l g) g 256)
  counts g h e x n = go (listed_here (table_of f l) l x) refl
    where
      go : (b : Bool) → listed_here (table_of f l) l x ≡ b → In (g x) (picked (counted (table_of f l) l g) g 256)
      go true q = in_picked (counted (table_of f l) l g) g 256 x (rw (q, ne_eqb (g x) 0 n)) (here_small x q)
      go false q = absurd (n (e x ∙ rw q))

  tag_four : (x : ℕ) → F.program.tag x < 4
  unfolding listed_of flagged listed_plain listed_tag info_of
  tag_four x = go (p (start_for (table_of f l) l x)) (listed_here (table_of f l) l x && leb 2 (info_for (table_of f l) l x).tag)
    where
      go : (a b : Bool) → cond a 1 (cond b (info_for (table_of f l) l x).tag 0) < 4
      go true b = omega arith
      go false true = omega arith
      go false false = omega arith

  pub whole : Whole F
  unfolding listed_of flagged listed_plain listed_height listed_depth listed_italic
  whole = record {
    small = here_small;
    widths = λ x e. in_picked (listed_here (table_of f l) l) (listed_width (table_of f l) l) 256 x e (here_small x e);
    heights = λ x n. counts (listed_height (table_of f l) l) _ (λ y. refl) x n;
    depths = λ x n. counts (listed_depth (table_of f l) l) _ (λ y. refl) x n;
    italics = λ x n. counts (listed_italic (table_of f l) l) _ (λ y. refl) x n;
    tags = tag_four;
  }

  -- THE HEART: the program that is built follows the file's, step by step
  abbrev s' : List ℕ
  s' = table_of (written F) (sizes_for F) 6

  abbrev to : ℕ → ℕ
  to i = front F + rank p i

  pub skip_small : (i : ℕ) → p i ≡ true → byte_of s' (to i) 0 ≤ 128
  skip_small i v = omega (arith, skip_back F runs (rank p i) (place_below i v), runs.skips (rank p i) (place_below i v))

  pub right_same : (i : ℕ) → p i ≡ true → byte_of s' (to i) 1 ≡ byte_of s i 1
  right_same i v = right_back F runs (rank p i) (place_below i v) ∙ right_is i v

  same_hit : (i y : ℕ) → p i ≡ true → hit s' (to i) y ≡ hit s i y
  unfolding hit
  same_hit i y v = rw (le-leb (byte_of s' (to i) 0) 128 (skip_small i v), le-leb (byte_of s i 0) 128 (live_small f l c i v), right_same i v)

  pub op_is : (i : ℕ) → p i ≡ true → byte_of s i 2 < 128 → (step_at F (rank p i)).op ≡ byte_of s i 2
  unfolding listed_step
  op_is i v o = ap (λ (x : Instruction). x.op) (step_at_lem i v) ∙ rw (lt-leb 128 (byte_of s i 2) o)

  pub value_is : (i : ℕ) → p i ≡ true → byte_of s i 2 < 128 → (step_at F (rank p i)).value ≡ byte_of s i 3
  unfolding listed_step
  value_is i v o = ap (λ (x : Instruction). x.value) (step_at_lem i v) ∙ rw (lt-leb 128 (byte_of s i 2) o)

  pub kern_is : (i : ℕ) → p i ≡ true → 128 ≤ byte_of s i 2 → (step_at F (rank p i)).op ≡ 128
  unfolding listed_step
  kern_is i v o = ap (λ (x : Instruction). x.op) (step_at_lem i v) ∙ rw (le-leb 128 (byte_of s i 2) o)

  pub kern_word_is : (i : ℕ) → p i ≡ true → 128 ≤ byte_of s i 2 → (step_at F (rank p i)).value ≡ word_of (table_of f l 7) (address_of s i - 32768)
  unfolding listed_step
  kern_word_is i v o = ap (λ (x : Instruction). x.value) (step_at_lem i v) ∙ rw (le-leb 128 (byte_of s i 2) o)

  -- a kern is done with y, whatever its entry
  pub kern_act : (op y z : ℕ) → 128 ≤ op → act_of op y z ≡ give y
  unfolding act_of
  kern_act op y z o = rw (le-leb 128 op o)

  same_doing : (i : ℕ) → p i ≡ true → doing s' (to i) ≡ doing s i
  same_doing i v = elim (dec_lt (byte_of s i 2) 128) [
    | yes o ↦ let h = place_below i v in
        let e = op_is i v o in
        rw (right_same i v, op_back F runs (rank p i) h (omega arith), value_back F runs (rank p i) h (omega arith), e, value_is i v o)
    | no o ↦ let e = kern_is i v (omega arith) in
        kern_act (byte_of s' (to i) 2) (byte_of s' (to i) 1) (byte_of s' (to i) 3) (omega (arith, kern_op F runs (rank p i) (place_below i v) (omega arith)))
        ∙ ap give (right_same i v)
        ∙ sym (kern_act (byte_of s i 2) (byte_of s i 1) (byte_of s i 3) (omega arith))
  ]

  pub follows : Follows s s' l.nl (sizes_for F).nl p to
  unfolding sizes_for next_of
  follows = record {
    below = live_below f l c;
    there = λ i v. omega (arith, place_below i v, words_are F runs);
    hits = same_hit;
    acts = same_doing;
    ends = λ i v b. omega (arith, skip_back F runs (rank p i) (place_below i v), skip_stop i v b);
    goes = λ i v b. omega (arith, skip_back F runs (rank p i) (place_below i v), skip_on i v b, skipped_most l m i (byte_of s i 0));
    lives = next_live f l c;
    leads = λ i v b. omega (arith, skip_back F runs (rank p i) (place_below i v), skip_on i v b, next_place f l c i v b);
  }
