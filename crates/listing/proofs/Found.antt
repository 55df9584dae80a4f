-- What a font's answer for a code says of the font.
use Rattle.std.proofs.Common.{ℕ, ◌-◌, ◌≡◌, refl, sym, ap, true≢false, Bool, true, false, List}
use Rattle.tfm.specs.Characters.{info_of, exists_in, look_up, present}
use Rattle.tfm.specs.declared.Layout.{Layout}
use Rattle.tfm.specs.declared.CharInfo.{CharInfo}
use Rattle.tfm.specs.declared.Lookup.{Lookup}
use Rattle.tfm.specs.declared.Lookup.TheVariants.{Present, Missing}

-- the info of an answer, or another
abbrev info_in : CharInfo → Lookup → CharInfo
info_in other (Present info) = info
info_in other Missing = other

abbrev is_present : Lookup → Bool
is_present (Present info) = true
is_present Missing = false

pub there : (infos : List ℕ) (l : Layout) (code : ℕ) (info : CharInfo) → look_up infos l code ≡ Present info
    → (exists_in infos l code ≡ true) × (info ≡ info_of infos (code - l.bc))
unfolding look_up
there infos l code info e = go (exists_in infos l code) e
  where
    go : (b : Bool) → present b (info_of infos (code - l.bc)) ≡ Present info → (b ≡ true) × (info ≡ info_of infos (code - l.bc))
    go true e = (refl, ap (info_in info) (sym e))
    go false e = absurd (true≢false (ap is_present (sym e)))

pub not_there : (infos : List ℕ) (l : Layout) (code : ℕ) → look_up infos l code ≡ Missing → exists_in infos l code ≡ false
unfolding look_up
not_there infos l code e = go (exists_in infos l code) e
  where
    go : (b : Bool) → present b (info_of infos (code - l.bc)) ≡ Missing → b ≡ false
    go true e = absurd (true≢false (ap is_present e))
    go false e = refl
