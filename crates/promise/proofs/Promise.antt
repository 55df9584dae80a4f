-- THE PROMISE of 02 R-1, and what is kept besides.
use Prim.Native.Nat.{ℕ, ◌<◌}
use mathlib.Core.Path.{◌≡◌}
use mathlib.Core.Bool.{true, false}
use mathlib.Core.Logic.{inr, ⊎_elim}
use mathlib.Core.List.{List}
use lib.ListN.{get_or}
use Rattle.tfm.specs.Sizes.{layout_of, number_of}
use Rattle.tfm.specs.Subfiles.{table_of}
use Rattle.tfm.specs.Characters.{exists_in}
use Rattle.tfm.specs.declared.Layout.{Layout}
use Rattle.mend.specs.Findings.{any_mend}
use Rattle.judge.specs.Judge.{program_in}
use Rattle.building.specs.Written.{sizes_for, written, too_much}
use Rattle.building.proofs.Laid.{layout_back}
use Rattle.building.proofs.Accepts.{Fits, fits, sound_accepted, written_sound}
use Rattle.clean.specs.Met.{NoneOver}
use Rattle.stated.specs.Listed.{listed_here, listed_of}
use Rattle.promise.specs.Promise.{LeftCode, Kept}
use Rattle.stated.proofs.Live.{Clear, clear}
use Rattle.promise.proofs.Alike.{alike_back, settle_alike}
use Rattle.promise.proofs.Programs.{Left, here_left, same_step, alike}
use Rattle.promise.proofs.Keeps.{same_exists, same_lengths, indices_in, same_tag, same_link, recipe_in, same_recipe, same_count, same_parameters}

-- a left code of the promise is one of the file read back
pub left_code : {f : List ℕ} {l : Layout} (c : Clear f l) (t : Fits (listed_of f l)) (x : ℕ) → LeftCode f l x → Left f l c t x
unfolding listed_here
left_code {f} {l} c t x h = ⊎_elim (λ (e : exists_in (table_of f l 1) l x ≡ true). here_left f l c t x e) (λ (e : x ≡ 256). inr e) h

-- a file that is accepted and clean, and whose programs meet no step over 128
module _ (f : List ℕ) (l : Layout) (later : ℕ) (e : number_of f l later ≡ 0) (unmended : any_mend f l ≡ false) (none : NoneOver (table_of f l 1) (table_of f l 6) l) where
  abbrev known : Clear f l
  known = clear f l later e unmended none

  module _ (bytes : (n : ℕ) → get_or f n 0 < 256) (much : too_much (listed_of f l) ≡ false) where
    -- by the sizes that were written
    kept_by : Kept f l (written (listed_of f l)) (sizes_for (listed_of f l))
    unfolding program_in listed_here
    kept_by =
        let t = fits (listed_of f l) much in
        record {
          accepted = sound_accepted _ _ (written_sound (listed_of f l) t);
          exists = same_exists f l known t;
          indices = λ n c h x. indices_in f l known t c x n h;
          lengths = λ n c h x. same_lengths f l known t c x n h;
          tags = λ c x. same_tag f l known t c x;
          links = λ c x q. same_link f l known t c x q;
          numbers = λ c x q. recipe_in f l known t c x q;
          recipes = λ c j x q h. same_recipe f l known t c x q bytes j h;
          count = same_count f l known t;
          parameters = same_parameters f l known t;
          steps = λ x y h. same_step f l known t x y (left_code known t x h);
          settles = λ x y w h d. settle_alike (alike f l known t) (left_code known t x h) d;
          settled = λ x y w h d. settle_alike (alike_back (alike f l known t)) (left_code known t x h) d;
        }

    -- THE PROMISE, by the file's own sizes
    pub kept : Kept f l (written (listed_of f l)) (layout_of (written (listed_of f l)))
    kept = rw (layout_back (listed_of f l)) kept_by
