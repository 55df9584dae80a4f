-- The number of an answer: 0 is acceptance, any other a refusal.
use Rattle.std.specs.Prelude.{ℕ, zero, suc, Bool, true, false}

-- n where the test holds, else what the later tests give
unfoldable pub first : Bool → ℕ → ℕ → ℕ
first true n later = n
first false n later = later

-- the one on acceptance, and the other on refusal
unfoldable pub on_accept {ℓ} : {A : Type ℓ} → ℕ → A → A → A
on_accept zero x y = x
on_accept (suc n) x y = y
