-- THE READ-BACK of listings.
use Prim.Native.Nat.{ℕ, ◌<◌}
use mathlib.Core.Path.{◌≡◌, refl}
use mathlib.Core.Bool.{Bool}
use mathlib.Core.List.{List}
use mathlib.Core.Option.{some}
use lib.ListN.{get_or}
use Rattle.tfm.specs.Sizes.{number_of}
use Rattle.tfm.specs.Subfiles.{table_of}
use Rattle.tfm.specs.declared.Layout.{Layout}
use Rattle.mend.specs.Copy.{mended}
use Rattle.judge.specs.Judge.{Verdict, no_verdict, clean, mended_so, looping}
use Rattle.header.specs.Header.{kind_of, letters_in}
use Rattle.listing.specs.Listing.{opening_items, closing_items, items_of, listing_text}
use Rattle.forest.specs.Forest.{parse}
use Rattle.forest.specs.Plain.{plain}
use Rattle.forest.proofs.Parsed.{parsed}
use Rattle.reading.specs.Heads.{Statement}
use Rattle.reading.specs.Read.{accepts, tells, read}
use Rattle.clean.specs.Met.{marks_in}
use Rattle.stated.specs.Formats.{opening_in, closing_in, items_in, text_in}
use Rattle.stated.specs.Stated.{stated_of}
use Rattle.stated.proofs.Whole.{good_items, clean_tells, mended_tells, told}
use Rattle.stated.proofs.Copied.{copy_sound}

-- the listing as it stands is that of its own format
pub own_format : (f : List ℕ) (l : Layout) (verdict : Verdict) → text_in (letters_in (kind_of (table_of (mended f l) l 0) l)) f l verdict ≡ listing_text f l verdict
unfolding text_in opening_in closing_in listing_text items_of opening_items closing_items
own_format f l no_verdict = refl
own_format f l clean = refl
own_format f l mended_so = refl
own_format f l looping = refl

module _ (f : List ℕ) (l : Layout) (later : ℕ) (accepted : number_of f l later ≡ 0) (bytes : (i : ℕ) → get_or f i 0 < 256) (letters : Bool) where
  -- no head of a listing has a parenthesis or a line end, whatever the verdict, and so it is read as the forest of its items
  pub listing_parsed : (verdict : Verdict) → parse (text_in letters f l verdict) ≡ some (plain (items_in letters (mended f l) l (marks_in f l) verdict))
  unfolding text_in
  listing_parsed verdict =
      parsed (items_in letters (mended f l) l (marks_in f l) verdict)
      (good_items {A = ℕ} (λ a s. a) (mended f l) l (marks_in f l) (copy_sound f l later accepted bytes) letters verdict)

  module _ {A : Type 0} (tell : A → Statement → A) (a : A) where
    -- the listing of a file that does not loop is accepted, and tells what it states
    pub read_back : read tell a (text_in letters f l clean) ≡ accepts (tells tell a (stated_of f l))
    unfolding text_in
    read_back = told tell a _ (stated_of f l) (clean_tells tell (mended f l) l (marks_in f l) (copy_sound f l later accepted bytes) letters)

    pub read_back_mended : read tell a (text_in letters f l mended_so) ≡ accepts (tells tell a (stated_of f l))
    unfolding text_in
    read_back_mended = told tell a _ (stated_of f l) (mended_tells tell (mended f l) l (marks_in f l) (copy_sound f l later accepted bytes) letters)
