-- The listing of a file: the property list of its mended copy, and what `listing` answers with lent buffers.
use Rattle.std.specs.Prelude.{ℕ, ◌<◌, ◌≤◌, ◌≡◌, Bool, true, false, cond, List, [], ◌++◌, ltb, length, drop, Result, Ok, Err}
use Rattle.lent.specs.Write.{codes, flat}
use Rattle.tfm.specs.Subfiles.{table_of}
use Rattle.tfm.specs.declared.Layout.{Layout}
use Rattle.program.specs.Marks.{marks_of}
use Rattle.mend.specs.Copy.{mended}
use Rattle.judge.specs.Judge.{Verdict, no_verdict, clean, mended_so, looping, verdict_in, answer, Judged, zeros}
use Rattle.items.specs.Items.{Items, empty, leaf, ◌▸◌, choose, render}
use Rattle.header.specs.Header.{kind_of, letters_in, header_items}
use Rattle.header.specs.Parameters.{fontdimen}
use Rattle.header.specs.declared.Kind.{Kind}
use Rattle.ligatures.specs.Labels.{starts_of}
use Rattle.ligatures.specs.Ligatures.{boundary_item, ligtable}
use Rattle.listing.specs.Characters.{character_items}
use Rattle.tfm.specs.Refusal.{number}
use Rattle.tfm.specs.declared.refusal.Refusal.{Refusal}
use Rattle.listing.specs.declared.answer.Listing.{Listing}

-- Of a copy c, its sizes l, its kind of font and the starts of its programs: §99, what stands before the characters; m are the marks of the file's steps
unfoldable pub opening_items : List ℕ → Layout → List ℕ → Kind → List ℕ → Items
opening_items c l m kind starts =
    header_items (table_of c l 0) l
    ▸ fontdimen kind (table_of c l 9) l.np
    ▸ boundary_item (letters_in kind) (table_of c l 6)
    ▸ ligtable (letters_in kind) (table_of c l 6) (table_of c l 7) m starts l.nl

-- §99: the closing comment, if the file was mended
unfoldable pub closing_comment : Bool → Items
closing_comment mended =
    choose mended (leaf (codes "COMMENT THE TFM FILE WAS BAD, SO THE DATA HAS BEEN CHANGED!") []) empty

abbrev pub characters_then : List ℕ → Layout → Kind → List ℕ → Bool → Items
characters_then c l kind starts mended = character_items (letters_in kind) c l starts ▸ closing_comment mended

-- a looping file ends with its ligature table (§90); otherwise the characters follow
unfoldable pub closing_items : List ℕ → Layout → Kind → List ℕ → Verdict → Items
closing_items c l kind starts no_verdict = empty
closing_items c l kind starts clean = characters_then c l kind starts false
closing_items c l kind starts mended_so = characters_then c l kind starts true
closing_items c l kind starts looping = leaf (codes "INFINITE LIGATURE LOOP MUST BE BROKEN!") []

abbrev pub items_for : List ℕ → Layout → List ℕ → Kind → List ℕ → Verdict → Items
items_for c l m kind starts verdict = opening_items c l m kind starts ▸ closing_items c l kind starts verdict

unfoldable pub items_of : List ℕ → Layout → List ℕ → Verdict → Items
items_of c l m = items_for c l m (kind_of (table_of c l 0) l) (starts_of (table_of c l 1) (table_of c l 6) l)

-- the property list of a file on which the verdict is passed, and its text
abbrev pub property_list : List ℕ → Layout → Verdict → Items
property_list f l = items_of (mended f l) l (marks_of (table_of f l 1) (table_of f l 6) l)

unfoldable pub listing_text : List ℕ → Layout → Verdict → List ℕ
listing_text f l verdict = flat (render 0 (property_list f l verdict))

-- 01's number, verdict, length of the findings and length of the listing
pub data Says : Type 0 where
  says : ℕ → Verdict → ℕ → ℕ → Says

abbrev pub says_of : Result Listing Refusal → Says
says_of (Ok listing) = says 0 (verdict_in listing.verdict) listing.findings listing.text
says_of (Err refusal) = says (number refusal) no_verdict 0 0

-- The listing of the file f of the sizes l, with the buffers c for the copy, g for the findings, p for the pairs and o for the listing lent, and what they hold after.
pub data ListedAs (f : List ℕ) (l : Layout) (c g p o : List ℕ) : Says → List ℕ → List ℕ → List ℕ → List ℕ → Type 0 where
  -- the numbers of the verdict: 1 to 13 leave every buffer as found, 14 and 15 leave all zeros
  refused : {n : ℕ} {c' g' p' : List ℕ}
      → (n ≡ 0 → ⊥)
      → Judged f l c g p (answer n no_verdict 0) c' g' p'
      → ListedAs f l c g p o (says n no_verdict 0 0) c' g' p' (cond (ltb n 14) o (zeros o))
  -- 16: the listing needs more bytes than are lent
  too_long : {verdict : Verdict} {n : ℕ} {c' g' p' : List ℕ}
      → Judged f l c g p (answer 0 verdict n) c' g' p'
      → length o < length (listing_text f l verdict)
      → ListedAs f l c g p o (says 16 no_verdict 0 0) (zeros c) (zeros g) (zeros p) (zeros o)
  -- the listing begins with its text, and bytes after it keep their values
  listed : {verdict : Verdict} {n : ℕ} {c' g' p' : List ℕ}
      → Judged f l c g p (answer 0 verdict n) c' g' p'
      → length (listing_text f l verdict) ≤ length o
      → ListedAs f l c g p o
      (says 0 verdict n (length (listing_text f l verdict)))
      c' g' p'
      (listing_text f l verdict ++ drop (length (listing_text f l verdict)) o)
