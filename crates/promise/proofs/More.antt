-- What is kept besides: kerns, the right boundary character, check sum and design size.
use Prim.Native.Nat.{ℕ, ◌+◌, ◌-◌, ◌≤◌, ◌<◌}
use native.Mathlib.Decide.{dec_lt}
use native.Mathlib.Omega.{arith}
use mathlib.Core.Path.{◌≡◌, refl, ap, ◌∙◌, sym}
use mathlib.Core.Bool.{Bool, true, false, cond}
use mathlib.Core.List.{List}
use lib.Dec.{eqb}
use lib.ListN.{get_or}
use borrow.Author.Tests.{lt-leb, le-leb, lt-ltb, le-ltb}
use Rattle.lent.proofs.Lists.{length_tabulate, get_or_tabulate}
use Rattle.tfm.specs.Sizes.{layout_of, number_of}
use Rattle.tfm.specs.Subfiles.{table_of}
use Rattle.tfm.specs.Characters.{byte_of}
use Rattle.tfm.specs.Lengths.{word_of}
use Rattle.tfm.specs.declared.Layout.{Layout}
use Rattle.program.specs.Steps.{boundary_char, program_of}
use Rattle.faults.specs.Header.{string_room}
use Rattle.gather.specs.Steps.{step_for}
use Rattle.mend.specs.Findings.{any_mend}
use Rattle.header.specs.Header.{spelled}
use Rattle.font.specs.Font.{Font}
use Rattle.building.specs.Pick.{rank}
use Rattle.building.specs.Written.{letters_byte, front, sizes_for, written, too_much}
use Rattle.building.proofs.Laid.{layout_back}
use Rattle.building.proofs.Accepts.{Fits, fits}
use Rattle.building.proofs.Chars.{check_back, design_back, further_back, face_back}
use Rattle.building.proofs.Runs.{op_back, value_back, kern_op}
use Rattle.building.proofs.Kerns.{kern_word, boundary_back}
use Rattle.promise.proofs.AnewWords.{scheme_byte, family_byte}
use Rattle.clean.specs.Met.{NoneOver, marks_in}
use Rattle.forest.specs.Forest.{past}
use Rattle.font.specs.Read.{flagged}
use Rattle.stated.specs.Listed.{live, listed_here, start_for, listed_plain, listed_of}
use Rattle.promise.specs.Promise.{LeftCode, kern, said_at, said_for, KeptToo}
use Rattle.gather.proofs.Walks.{past as past_all}
use Rattle.promise.proofs.Follow.{Found, none, some, both_find}
use Rattle.stated.proofs.Live.{Clear, live_below, clear}
use Rattle.promise.proofs.Listing.{place_below, start_live, runs, op_is, value_is, kern_is, kern_word_is, follows}
use Rattle.promise.proofs.Tags.{table_small}
use Rattle.promise.proofs.Programs.{Left, left_most, start_new, none_new}
use Rattle.promise.proofs.Promise.{left_code}

module _ (f : List ℕ) (l : Layout) (c : Clear f l) (t : Fits (listed_of f l)) where
  abbrev F : Font
  F = listed_of f l

  abbrev g : List ℕ
  g = written (listed_of f l)

  abbrev k : Layout
  k = sizes_for (listed_of f l)

  -- a step that is found says the same
  found_said : (y : ℕ) {j j' : ℕ} → Found (follows f l c) y j j' → said_at (table_of g k 6) (table_of g k 7) k.nl j' ≡ said_at (table_of f l 6) (table_of f l 7) l.nl j
  unfolding said_at
  found_said y none = rw (le-ltb k.nl k.nl (omega arith), le-ltb l.nl l.nl (omega arith))
  found_said y (some j v h) =
      let n = place_below f l c j v in
      rw (lt-ltb (front F + rank (live l (marks_in f l)) j) k.nl ((follows f l c).there j v), lt-ltb j l.nl (live_below f l c j v))
      (elim (dec_lt (byte_of (table_of f l 6) j 2) 128) [
        | yes o ↦ let e = op_is f l c j v o in
            rw (op_back F (runs f l c) (rank (live l (marks_in f l)) j) n (omega arith), value_back F (runs f l c) (rank (live l (marks_in f l)) j) n (omega arith), e, value_is f l c j v o, lt-leb 128 (byte_of (table_of f l 6) j 2) o)
        | no o ↦ let e = kern_is f l c j v (omega arith) in
            let b = kern_op F (runs f l c) (rank (live l (marks_in f l)) j) n (omega arith) in
            rw (le-leb 128 (byte_of (table_of g k 6) (front F + rank (live l (marks_in f l)) j) 2) (omega arith), le-leb 128 (byte_of (table_of f l 6) j 2) (omega arith))
            (ap kern (kern_word F (runs f l c) (rank (live l (marks_in f l)) j) n (omega arith) ∙ kern_word_is f l c j v (omega arith)))
      ])

  start_is : (x : ℕ) → LeftCode f l x → start_for (table_of f l) l x < l.nl → start_for (table_of g k) k x ≡ front F + rank (live l (marks_in f l)) (start_for (table_of f l) l x)
  unfolding start_for listed_here
  start_is x h q = start_new f l c t x (left_code c t x h) q

  says_nothing : (x y : ℕ) → Left f l c t x → l.nl ≤ start_for (table_of f l) l x → said_for g k x y ≡ said_for f l x y
  unfolding said_for said_at start_for
  says_nothing x y h q =
      rw (none_new f l c t x y h q, past_all (table_of f l 6) l.nl l.nl (program_of (table_of f l 1) (table_of f l 6) l x) y q, le-ltb k.nl k.nl (omega arith), le-ltb l.nl l.nl (omega arith))

  same_said : (x y : ℕ) → LeftCode f l x → said_for g k x y ≡ said_for f l x y
  unfolding said_for listed_here
  same_said x y h = elim (dec_lt (start_for (table_of f l) l x) l.nl) [
    | yes q ↦ ap (λ (z : ℕ). said_at (table_of g k 6) (table_of g k 7) k.nl (step_for (table_of g k 6) k.nl z y)) (start_is x h q)
        ∙ found_said y (both_find (follows f l c) y (start_for (table_of f l) l x) (start_live f l c x (left_most f l c t x (left_code c t x h)) q))
    | no q ↦ says_nothing x y (left_code c t x h) (omega arith)
  ]

  -- the right boundary character is a code, or none
  pub boundary_most : ((n : ℕ) → get_or f n 0 < 256) → F.program.boundary ≤ 256
  unfolding listed_of flagged listed_plain boundary_char
  boundary_most bytes = go (eqb (byte_of (table_of f l 6) 0 0) 255)
    where
      go : (b : Bool) → cond b (byte_of (table_of f l 6) 0 1) 256 ≤ 256
      go true = omega (arith, table_small f l 6 0 1 bytes)
      go false = omega arith

  -- the header
  scheme_kept : 12 ≤ l.lh → F.header.scheme ≡ past (spelled (table_of f l 0) 0)
  unfolding listed_of flagged listed_plain
  scheme_kept h = rw (le-leb 12 l.lh h)

  family_kept : 17 ≤ l.lh → F.header.family ≡ past (spelled (table_of f l 0) 1)
  unfolding listed_of flagged listed_plain
  family_kept h = rw (le-leb 17 l.lh h)

  face_kept : 18 ≤ l.lh → F.header.face ≡ byte_of (table_of f l 0) 17 3
  unfolding listed_of flagged listed_plain
  face_kept h = rw (le-leb 18 l.lh h)

  further_kept : (i : ℕ) → 18 ≤ i → i < l.lh → word_of (table_of g k 0) i ≡ word_of (table_of f l 0) i
  unfolding listed_of flagged listed_plain
  further_kept i a b =
      let e : 18 + (i - 18) ≡ i = omega arith in
      let d : i - 18 + 18 ≡ i = omega arith in
      ap (word_of (table_of g k 0)) (sym e)
      ∙ further_back F (i - 18) (omega (arith, length_tabulate (λ j. word_of (table_of f l 0) (j + 18)) (l.lh - 18)))
      ∙ get_or_tabulate (λ j. word_of (table_of f l 0) (j + 18)) (l.lh - 18) (i - 18) (omega arith)
      ∙ ap (word_of (table_of f l 0)) d

  more_by : ((n : ℕ) → get_or f n 0 < 256) → KeptToo f l g k
  unfolding listed_of flagged listed_plain string_room
  more_by bytes = record {
    said = same_said;
    boundary = boundary_back F (runs f l c) (boundary_most bytes);
    check_sum = check_back F refl;
    design_size = design_back F;
    scheme = λ h n p. scheme_byte f l n p ∙ ap (λ (s : List ℕ). letters_byte s n) (scheme_kept h);
    family = λ h n p. family_byte f l n p ∙ ap (λ (s : List ℕ). letters_byte s n) (family_kept h);
    face = λ h. face_back F ∙ face_kept h;
    further = further_kept;
  }

-- by the file's own sizes
pub kept_too_lem : (f : List ℕ) (l : Layout) (later : ℕ) → number_of f l later ≡ 0 → any_mend f l ≡ false → NoneOver (table_of f l 1) (table_of f l 6) l
    → ((n : ℕ) → get_or f n 0 < 256) → too_much (listed_of f l) ≡ false → KeptToo f l (written (listed_of f l)) (layout_of (written (listed_of f l)))
kept_too_lem f l later e clean over bytes much = rw (layout_back (listed_of f l)) (more_by f l (clear f l later e clean over) (fits (listed_of f l) much) bytes)
