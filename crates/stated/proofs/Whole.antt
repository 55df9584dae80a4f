-- THE READ-BACK, of a copy that is sound: its listing is read, and tells what it states.
use Prim.Native.Nat.{ℕ, ◌+◌, ◌≤◌, ◌<◌}
use native.Mathlib.Omega.{arith}
use mathlib.Core.Path.{◌≡◌, refl}
use mathlib.Core.Bool.{Bool, true, false}
use mathlib.Core.List.{List, [], ◌++◌, append-nil}
use lib.Dec.{leb}
use lib.ListN.{get_or}
use Rattle.lent.specs.Write.{flat}
use Rattle.ink.specs.Ink.{between, alphanumeric}
use Rattle.faults.specs.Header.{upper}
use Rattle.tfm.specs.Characters.{byte_of}
use Rattle.tfm.specs.Lengths.{word_of}
use Rattle.tfm.specs.Subfiles.{table_of}
use Rattle.tfm.specs.declared.Layout.{Layout}
use Rattle.judge.specs.Judge.{Verdict, no_verdict, clean, mended_so, looping}
use Rattle.items.specs.Items.{Items, ◌▸◌, render}
use Rattle.header.specs.Header.{spelled}
use Rattle.ligatures.specs.Labels.{starts_of}
use Rattle.listing.specs.Characters.{character_items}
use Rattle.listing.specs.Listing.{closing_comment}
use Rattle.forest.specs.Forest.{in_name, name_at, name_of, past, same, is_comment}
use Rattle.forest.specs.Plain.{word_bytes}
use Rattle.forest.proofs.Quiet.{is_quiet, quiet, quiet_words, calm, Good, good_empty, good_leaf, good_both}
use Rattle.forest.proofs.Parsed.{parsed}
use Rattle.reading.specs.Heads.{Statement, top, small, bound_of, has_list}
use Rattle.reading.specs.Read.{accepts, tells, concluded, read_forest, read}
use Rattle.reading.proofs.Reals.{Bounded}
use Rattle.reading.proofs.Tells.{Tells, tells_as, tells_none, tells_then, tells_either, tells_loop, tells_remark}
use Rattle.stated.specs.Formats.{opening_in, closing_in, items_in}
use Rattle.stated.specs.Stated.{in_turn, header_stated, parameters_stated, boundary_stated, program_stated, characters_stated, stated}
use Rattle.stated.proofs.Header.{Spelt, whole_header}
use Rattle.stated.proofs.Parameters.{all_parameters}
use Rattle.stated.proofs.Program.{one_boundary, whole_program}
use Rattle.stated.proofs.Characters.{Fits, one_character}

-- a copy c of the sizes l, and the marks m of its steps: what the listing prints can be read
pub record Sound (c : List ℕ) (l : Layout) (m : List ℕ) : Type 0 where
  pub header_short : l.lh ≤ 32767
  pub parameters_few : l.np ≤ 32767
  pub bytes : (k i j : ℕ) → k ≤ 9 → byte_of (table_of c l k) i j < 256
  pub words : (k i : ℕ) → k ≤ 9 → word_of (table_of c l k) i < 4294967296
  pub lengths : (k i : ℕ) → 2 ≤ k → k ≤ 7 → (k ≡ 6 → ⊥) → Bounded small (word_of (table_of c l k) i)
  pub parameters : (i : ℕ) → i < l.np → Bounded (bound_of (i + 1)) (word_of (table_of c l 9) i)
  pub scheme : leb 12 l.lh ≡ true → Spelt (spelled (table_of c l 0) 0)
  pub family : leb 17 l.lh ≡ true → Spelt (spelled (table_of c l 0) 1)
  pub marks : (i : ℕ) → get_or m i 0 ≤ 2

module _ {A : Type 0} (tell : A → Statement → A) (c : List ℕ) (l : Layout) (m : List ℕ) (s : Sound c l m) where
  fits : (k : ℕ) → 2 ≤ k → k ≤ 7 → (k ≡ 6 → ⊥) → Fits (table_of c l k)
  fits k a b o i h = (s.words k i (omega arith), s.lengths k i a b o)

  opening : (letters : Bool) → Tells tell top (opening_in letters c l m)
      (header_stated (table_of c l 0) l ++ parameters_stated (table_of c l 9) l.np ++ boundary_stated (table_of c l 6) ++ program_stated (table_of c l 6) (table_of c l 7) m (starts_of (table_of c l 1) (table_of c l 6) l) l.nl) top
  unfolding opening_in
  opening letters =
      tells_then tell (tells_then tell (tells_then tell
      (whole_header tell (table_of c l 0) l s.header_short (λ i j. s.bytes 0 i j (omega arith)) (λ i. s.words 0 i (omega arith)) s.scheme s.family)
      (all_parameters tell _ (table_of c l 9) l.np s.parameters_few (λ i. s.words 9 i (omega arith)) s.parameters))
      (one_boundary tell letters (table_of c l 6) (s.bytes 6 0 1 (omega arith))))
      (whole_program tell letters (table_of c l 6) (table_of c l 7) (λ i j. s.bytes 6 i j (omega arith)) (fits 7 (omega arith) (omega arith) (omega arith)) m _ s.marks l.nl)

  characters : (letters : Bool) (starts : List ℕ) → Tells tell top (character_items letters c l starts) (characters_stated c l) top
  unfolding character_items characters_stated in_turn
  characters letters starts =
      tells_loop tell (λ i h. one_character tell letters (table_of c l 1) (table_of c l 2) (table_of c l 3) (table_of c l 4) (table_of c l 5) (table_of c l 6) (table_of c l 7) (table_of c l 8) l starts
      (λ i j. s.bytes 1 i j (omega arith)) (λ i j. s.bytes 8 i j (omega arith)) (λ i j. s.bytes 6 i j (omega arith))
      (fits 2 (omega arith) (omega arith) (omega arith)) (fits 3 (omega arith) (omega arith) (omega arith)) (fits 4 (omega arith) (omega arith) (omega arith)) (fits 5 (omega arith) (omega arith) (omega arith)) (fits 7 (omega arith) (omega arith) (omega arith))
      i h)

  -- the closing comment
  closing : (mended : Bool) → Tells tell top (closing_comment mended) [] top
  unfolding closing_comment has_list is_comment name_of name_at past in_name alphanumeric between upper same calm quiet quiet_words is_quiet word_bytes
  closing mended = tells_either tell (λ e. tells_remark tell refl refl refl) (λ e. tells_none tell)

  -- the whole, of a file that is clean, and of one that was mended
  rest : (letters : Bool) (starts : List ℕ) (mended : Bool) → Tells tell top (character_items letters c l starts ▸ closing_comment mended) (characters_stated c l) top
  rest letters starts mended = tells_as tell (append-nil (characters_stated c l)) (tells_then tell (characters letters starts) (closing mended))

  pub clean_tells : (letters : Bool) → Tells tell top (items_in letters c l m clean) (stated c l m) top
  unfolding closing_in stated
  clean_tells letters = tells_then tell (opening letters) (rest letters _ false)

  pub mended_tells : (letters : Bool) → Tells tell top (items_in letters c l m mended_so) (stated c l m) top
  unfolding closing_in stated
  mended_tells letters = tells_then tell (opening letters) (rest letters _ true)

  -- of every verdict, the text can be read as a tree
  pub good_items : (letters : Bool) (verdict : Verdict) → Good (items_in letters c l m verdict)
  unfolding closing_in calm quiet quiet_words is_quiet
  good_items letters no_verdict = good_both (opening letters).good good_empty
  good_items letters clean = good_both (opening letters).good (good_both (characters letters _).good (closing false).good)
  good_items letters mended_so = good_both (opening letters).good (good_both (characters letters _).good (closing true).good)
  good_items letters looping = good_both (opening letters).good (good_leaf refl)

-- a text that tells is read
pub told : {A : Type 0} (tell : A → Statement → A) (a : A) (t : Items) (ss : List Statement) → Tells tell top t ss top → read tell a (flat (render 0 t)) ≡ accepts (tells tell a ss)
unfolding read read_forest concluded
told tell a t ss x = rw (parsed t x.good, x.is a true)
