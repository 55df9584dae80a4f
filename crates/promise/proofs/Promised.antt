-- THE PROMISE, for a file that is judged clean.
use Prim.Native.Nat.{ℕ, ◌<◌}
use mathlib.Core.Path.{◌≡◌, refl, sym, ap, ◌∙◌, subst}
use mathlib.Core.Bool.{Bool, true, false}
use mathlib.Core.List.{List}
use lib.ListN.{get_or}
use Rattle.tfm.specs.Sizes.{layout_of, number_of}
use Rattle.tfm.specs.Subfiles.{table_of}
use Rattle.tfm.specs.declared.Layout.{Layout}
use Rattle.settle.specs.Settle.{Step, Settles}
use Rattle.mend.specs.Findings.{any_mend}
use Rattle.judge.specs.Judge.{clean, Answer, program_in, mended_program, no_loop, LoopIs, Judged}
use Rattle.listing.specs.Listing.{listing_text}
use Rattle.building.specs.Written.{sizes_for, written, too_much}
use Rattle.building.proofs.Laid.{layout_back}
use Rattle.building.proofs.Accepts.{Fits, fits, sound_accepted, written_sound}
use Rattle.clean.specs.Met.{NoneOver}
use Rattle.stated.specs.Formats.{text_in}
use Rattle.stated.specs.Listed.{listed_of}
use Rattle.stated.proofs.Back.{own_format}
use Rattle.building.specs.Build.{file_for, file_of, build}
use Rattle.clean.specs.Clean.{verdict_in, Clean}
use Rattle.clean.proofs.Verdicts.{judged_clean}
use Rattle.stated.proofs.FontBack.{font_back}
use Rattle.promise.specs.Promise.{LeftCode, Kept, Promised, Returned, too_large, returned}
use Rattle.promise.proofs.Sanely.{unrepaired}
use Rattle.clean.proofs.Own.{own_program}
use Rattle.stated.proofs.Live.{clear}
use Rattle.promise.proofs.Programs.{all_settle}
use Rattle.promise.proofs.Promise.{kept}
use Rattle.promise.proofs.More.{kept_too_lem}
use Rattle.promise.proofs.CleanAgain.{clean_again}
use Rattle.promise.proofs.Numbers.{bytes_back}

-- what is built of the listing of a clean file
pub build_is : (f : List ℕ) (l : Layout) (later : ℕ) → number_of f l later ≡ 0 → any_mend f l ≡ false → NoneOver (table_of f l 1) (table_of f l 6) l
    → ((n : ℕ) → get_or f n 0 < 256) → (letters : Bool) → build (text_in letters f l clean) ≡ file_for (listed_of f l)
unfolding build file_of
build_is f l later e unmended over bytes letters =
    ap file_of (font_back f l later e unmended over bytes letters)
    ∙ ap file_for (unrepaired f l (clear f l later e unmended over) unmended bytes)

module _ (f : List ℕ) (l : Layout) (later : ℕ) (e : number_of f l later ≡ 0) (unmended : any_mend f l ≡ false) (settled : (x y : ℕ) → y < 256 → (w : ℕ) × Settles (mended_program f l) x y w)
    (over : NoneOver (table_of f l 1) (table_of f l 6) l) (bytes : (n : ℕ) → get_or f n 0 < 256) (much : too_much (listed_of f l) ≡ false) where
  abbrev g : List ℕ
  g = written (listed_of f l)

  abbrev k : Layout
  k = sizes_for (listed_of f l)

  t : Fits (listed_of f l)
  t = fits (listed_of f l) much

  clean_new : any_mend g k ≡ false
  clean_new = clean_again f l later e unmended over bytes much

  -- the mended program of either file is its own
  own_old : mended_program f l ≡ program_in f l
  own_old = own_program f l unmended later e

  own_new : mended_program g k ≡ program_in g k
  own_new = own_program g k clean_new 0 (sound_accepted g k (written_sound (listed_of f l) t))

  loopless_new : (x y : ℕ) → y < 256 → (w : ℕ) × Settles (mended_program g k) x y w
  unfolding program_in
  loopless_new x y h =
      subst (λ (S : ℕ → ℕ → Step). (w : ℕ) × Settles S x y w) (sym own_new)
      (all_settle f l (clear f l later e unmended over) t (λ a b q. subst (λ (S : ℕ → ℕ → Step). (w : ℕ) × Settles S a b w) own_old (settled a b q)) x y h)

  -- by the sizes that were written
  abbrev Held : Layout → Type 0
  Held n = (any_mend g n ≡ false) × LoopIs (mended_program g n) no_loop
      × ((x y w : ℕ) → LeftCode f l x → Settles (mended_program f l) x y w → Settles (mended_program g n) x y w)
      × ((x y w : ℕ) → LeftCode f l x → Settles (mended_program g n) x y w → Settles (mended_program f l) x y w)

  held : Kept f l g k → Held k
  held h = (
    clean_new,
    loopless_new,
    (λ x y w a d. subst (λ (S : ℕ → ℕ → Step). Settles S x y w) (sym own_new) (h.settles x y w a (subst (λ (S : ℕ → ℕ → Step). Settles S x y w) own_old d))),
    (λ x y w a d. subst (λ (S : ℕ → ℕ → Step). Settles S x y w) (sym own_old) (h.settled x y w a (subst (λ (S : ℕ → ℕ → Step). Settles S x y w) own_new d))),
  )

  pub promised_own : Promised f l (written (listed_of f l))
  promised_own =
      let n = layout_back (listed_of f l) in
      let a = kept f l later e unmended over bytes much in
      let b : Held (layout_of g) = subst Held (sym n) (held (subst (λ (z : Layout). Kept f l g z) n a)) in
      record {
        bytes = bytes_back f l later e unmended over bytes much;
        kept = a;
        kept_too = kept_too_lem f l later e unmended over bytes much;
        unmended = b.0;
        loopless = b.1;
        outcome = b.2;
        outcomes = b.3;
      }

-- f is judged clean, with whatever buffers were lent, and its programs meet no step over 128: then its listing keeps the promise, its codes in either format
pub promised : {f : List ℕ} {l : Layout} {c g p c' g' p' : List ℕ} {a : Answer} → Judged f l c g p a c' g' p' → verdict_in a ≡ clean
    → ((n : ℕ) → get_or f n 0 < 256) → NoneOver (table_of f l 1) (table_of f l 6) l → (letters : Bool) → Returned f l (text_in letters f l clean)
unfolding file_for
promised {f} {l} j q bytes over letters = go (judged_clean j q) (too_much (listed_of f l)) refl
  where
    go : Clean f l → (b : Bool) → too_much (listed_of f l) ≡ b → Returned f l (text_in letters f l clean)
    go h true much = too_large (build_is f l h.later h.number h.unmended over bytes letters ∙ rw much)
    go h false much =
        returned (written (listed_of f l)) (build_is f l h.later h.number h.unmended over bytes letters ∙ rw much)
        (promised_own f l h.later h.number h.unmended h.settled over bytes much)

-- and so does the listing as it stands
pub listing_promised : {f : List ℕ} {l : Layout} {c g p c' g' p' : List ℕ} {a : Answer} → Judged f l c g p a c' g' p' → verdict_in a ≡ clean
    → ((n : ℕ) → get_or f n 0 < 256) → NoneOver (table_of f l 1) (table_of f l 6) l → Returned f l (listing_text f l clean)
listing_promised {f} {l} j q bytes over = subst (Returned f l) (own_format f l clean) (promised j q bytes over _)
