-- The parts of a listing from the tables of a copy.
use Rattle.std.proofs.Common.{ℕ, ◌≡◌, refl, List}
use Rattle.lent.specs.declared.Pen.{Pen}
use Rattle.tfm.specs.Subfiles.{FontOf}
use Rattle.tfm.specs.declared.Layout.{Layout}
use Rattle.header.specs.Header.{kind_of, letters_in}
use Rattle.header.specs.declared.Kind.{Kind}
use Rattle.items.specs.Items.{Printed}
use Rattle.items.proofs.Laws.{after}
use Rattle.judge.specs.Judge.{Verdict, no_verdict, clean, mended_so, looping}
use Rattle.ligatures.specs.Labels.{starts_of}
use Rattle.listing.specs.Characters.{character_items}
use Rattle.listing.specs.Listing.{opening_items, closing_items, items_of}
use Rattle.listing.specs.Settings.{opening_of, characters_of, closing_of}
use Rattle.listing.specs.declared.characters.Setting.{Setting}

module _ (copy m : List ℕ) (l : Layout) (s : Setting) (kind : Kind) (starts : List ℕ) (font : FontOf copy l s.font.now) where
  opening : opening_of s.font.now m kind starts ≡ opening_items copy l m kind starts
  unfolding opening_items
  opening = rw (font.header, font.steps, font.kerns, font.params, font.layout) refl

  characters : s.letters ≡ letters_in kind → s.starts.now ≡ starts → characters_of s ≡ character_items (letters_in kind) copy l starts
  unfolding character_items
  characters a b = rw (a, b, font.infos, font.widths, font.heights, font.depths, font.italics, font.steps, font.kerns, font.recipes, font.layout) refl

  closing : (v : Verdict) → s.letters ≡ letters_in kind → s.starts.now ≡ starts → closing_of s v ≡ closing_items copy l kind starts v
  unfolding closing_of closing_items
  closing no_verdict a b = refl
  closing clean a b = rw (characters a b) refl
  closing mended_so a b = rw (characters a b) refl
  closing looping a b = refl

  -- one after the other, of the copy's own kind of font and starts
  pub whole : (v : Verdict) {p q r : Pen} → s.letters ≡ letters_in kind → s.starts.now ≡ starts
      → kind ≡ kind_of s.font.now.header.now s.font.now.layout
      → starts ≡ starts_of s.font.now.infos.now s.font.now.steps.now s.font.now.layout
      → Printed q 0 (closing_of s v) r → Printed p 0 (opening_of s.font.now m kind starts) q → Printed p 0 (items_of copy l m v) r
  unfolding items_of
  whole v a b k t e h =
      let kind_is = rw (font.header, font.layout) at k in
      let starts_are = rw (font.infos, font.steps, font.layout) at t in
      rw (← kind_is, ← starts_are) (after (rw (closing v a b) at e) (rw opening at h))
