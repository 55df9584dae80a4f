-- A text in a `Decimal`.
use Rattle.std.specs.Prelude.{ℕ, ◌-◌, List, ◌++◌, length, replicate}
use Rattle.decimal.specs.declared.room.Decimal.{Decimal}

-- the text t, then zeros
abbrev pub filled : List ℕ → Decimal
filled t = record { bytes = t ++ replicate (13 - length t) 0; len = length t }
