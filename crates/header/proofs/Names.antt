-- A parameter is a leaf under its name, or under its number where it has none.
use Rattle.std.proofs.Common.{◌≡◌, refl, ℕ, Bool, true, false, cond, List, [], ◌∷◌, Option, Some, None, eqb, leb}
use Rattle.lent.specs.Write.{codes}
use Rattle.lent.specs.declared.Pen.{Pen}
use Rattle.items.specs.Items.{Items, dec, real, leaf, choose, Printed}
use Rattle.items.proofs.Laws.{item_then, item_else}
use Rattle.header.specs.declared.Kind.{Kind}
use Rattle.header.specs.declared.Kind.TheVariants.{Vanilla, MathSymbols, MathExtension}
use Rattle.header.specs.Parameters.{common_item, numbered_item, fraction_item, script_item, delimiter_item, symbols_item, extension_item, further_item, parameter_item, common_name, fraction_name, script_name, delimiter_name, symbols_name, extension_name, further_name, name_of}

module _ (i w : ℕ) (p q : Pen) where
  abbrev under : List ℕ → Type 0
  under name = Printed p 1 (leaf name (real w ∷ [])) q

  abbrev named : Option (List ℕ) → Type 0
  named (Some name) = under name
  named None = Printed p 1 (leaf (codes "PARAMETER") (dec i ∷ real w ∷ [])) q

  abbrev prints : Items → Type 0
  prints t = Printed p 1 t q

  -- under one of two names
  by_name : {m n : List ℕ} {t : Items} (b : Bool) → (under n → prints t) → under (cond b m n) → prints (choose b (leaf m (real w ∷ [])) t)
  by_name true f h = item_then refl h
  by_name false f h = item_else refl (f h)

  by_option : (m n : Option (List ℕ)) {t u : Items} (b : Bool) → (named m → prints t) → (named n → prints u) → named (cond b m n) → prints (choose b t u)
  by_option m n true f g h = item_then refl (f h)
  by_option m n false f g h = item_else refl (g h)

  a_common : under (common_name i) → prints (common_item i w)
  unfolding common_item
  a_common =
      by_name (eqb i 1) (by_name (eqb i 2) (by_name (eqb i 3) (by_name (eqb i 4) (by_name (eqb i 5) (by_name (eqb i 6) (λ h. h))))))

  a_number : named None → prints (numbered_item i w)
  unfolding numbered_item
  a_number h = h

  a_fraction : under (fraction_name i) → prints (fraction_item i w)
  unfolding fraction_item
  a_fraction = by_name (eqb i 8) (by_name (eqb i 9) (by_name (eqb i 10) (by_name (eqb i 11) (λ h. h))))

  a_script : under (script_name i) → prints (script_item i w)
  unfolding script_item
  a_script =
      by_name (eqb i 13) (by_name (eqb i 14) (by_name (eqb i 15) (by_name (eqb i 16) (by_name (eqb i 17) (by_name (eqb i 18) (λ h. h))))))

  a_delimiter : named (delimiter_name i) → prints (delimiter_item i w)
  unfolding delimiter_item
  a_delimiter = by_option _ _ (eqb i 20) (λ h. h) (by_option _ _ (eqb i 21) (λ h. h) (by_option _ _ (eqb i 22) (λ h. h) a_number))

  a_symbol : named (symbols_name i) → prints (symbols_item i w)
  unfolding symbols_item
  a_symbol = by_option _ _ (leb i 12) a_fraction (by_option _ _ (leb i 19) a_script a_delimiter)

  an_extension : named (extension_name i) → prints (extension_item i w)
  unfolding extension_item
  an_extension =
      by_option _ _ (eqb i 8) (λ h. h)
      (by_option _ _ (eqb i 9) (λ h. h) (by_option _ _ (eqb i 10) (λ h. h) (by_option _ _ (eqb i 11) (λ h. h) (by_option _ _ (eqb i 12) (λ h. h) (by_option _ _ (eqb i 13) (λ h. h) a_number)))))

  a_further : (kind : Kind) → named (further_name kind i) → prints (further_item kind i w)
  unfolding further_name further_item
  a_further Vanilla = a_number
  a_further MathSymbols = a_symbol
  a_further MathExtension = an_extension

  a_parameter : (kind : Kind) → named (name_of kind i) → prints (parameter_item kind i w)
  unfolding name_of parameter_item
  a_parameter kind = by_option _ _ (leb i 7) a_common (a_further kind)

  pub with_name : (kind : Kind) {name : List ℕ} → Some name ≡ name_of kind i → under name → prints (parameter_item kind i w)
  with_name kind e h = a_parameter kind (rw (← e) h)

  pub with_number : (kind : Kind) → None ≡ name_of kind i → named None → prints (parameter_item kind i w)
  with_number kind e h = a_parameter kind (rw (← e) h)
