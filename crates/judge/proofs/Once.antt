-- Determinacy: a file and the lent buffers leave one answer, and one content of each buffer.
use Prim.Native.Nat.{ℕ}
use native.Mathlib.Omega.{arith}
use mathlib.Core.Path.{◌≡◌, refl, sym, ap, ◌∙◌}
use mathlib.Core.List.{List}
use Rattle.tfm.specs.declared.Layout.{Layout}
use Rattle.settle.specs.Settle.{Step}
use Rattle.settle.specs.Needs.{det}
use Rattle.gather.specs.Answers.{count, SmallestAs}
use Rattle.std.proofs.Common.{Result, Ok, Err, Option, Some, None}
use Rattle.tfm.specs.declared.refusal.Refusal.{Refusal}
use Rattle.gather.specs.declared.Pair.{Pair}
use Rattle.gather.proofs.Once.{one_smallest}
use Rattle.judge.specs.Judge.{Answer, PairSays, mended_program, Loop, no_loop, loop_at, LoopIs, Judged, refused, too_few, too_long, judged, Paired, unasked, no_room, leaves, loops}
use Rattle.judge.specs.Inside.{loop_of}

-- the loop as the search for the smallest answers it
abbrev found_of : Loop → Option Pair
found_of no_loop = None
found_of (loop_at x y) = Some (record { left = x; right = y })

abbrev loop_in : Result (Option Pair) Refusal → Loop
loop_in (Ok s) = loop_of s
loop_in (Err r) = no_loop

back : (a : Loop) → loop_of (found_of a) ≡ a
back no_loop = refl
back (loop_at x y) = refl

as_found : (S : ℕ → ℕ → Step) (a : Loop) → LoopIs S a → SmallestAs S (count S) (Ok (found_of a))
as_found S no_loop h = (omega arith, h)
as_found S (loop_at x y) h = (omega arith, h)

one_loop : (S : ℕ → ℕ → Step) (a b : Loop) → LoopIs S a → LoopIs S b → a ≡ b
one_loop S a b h k =
    sym (back a) ∙ ap loop_in (one_smallest S (count S) (Ok (found_of a)) (Ok (found_of b)) (as_found S a h) (as_found S b k)) ∙ back b

module _ {f : List ℕ} {l : Layout} {c g p : List ℕ} where
  pub once_judged : {a b : Answer} {c' c'' g' g'' p' p'' : List ℕ}
      → Judged f l c g p a c' g' p' → Judged f l c g p b c'' g'' p'' → (a ≡ b) × (c' ≡ c'') × (g' ≡ g'') × (p' ≡ p'')
  once_judged (refused n) (refused m) = (refl, refl, refl, refl)
  once_judged (refused n) (too_few e h) = absurd (n e)
  once_judged (refused n) (too_long b e h k s) = absurd (n e)
  once_judged (refused n) (judged b e h k s) = absurd (n e)
  once_judged (too_few d i) (refused n) = absurd (n d)
  once_judged (too_few d i) (too_few e h) = (refl, refl, refl, refl)
  once_judged (too_few d i) (too_long b e h k s) = absurd (omega (arith, i, h))
  once_judged (too_few d i) (judged b e h k s) = absurd (omega (arith, i, h))
  once_judged (too_long a d i j r) (refused n) = absurd (n d)
  once_judged (too_long a d i j r) (too_few e h) = absurd (omega (arith, i, h))
  once_judged (too_long a d i j r) (too_long b e h k s) = (refl, refl, refl, refl)
  once_judged (too_long a d i j r) (judged b e h k s) =
      let t = rw (one_loop (mended_program f l) a b j k) at r in absurd (omega (arith, t, s))
  once_judged (judged a d i j r) (refused n) = absurd (n d)
  once_judged (judged a d i j r) (too_few e h) = absurd (omega (arith, i, h))
  once_judged (judged a d i j r) (too_long b e h k s) =
      let t = rw (one_loop (mended_program f l) a b j k) at r in absurd (omega (arith, t, s))
  once_judged (judged a d i j r) (judged b e h k s) = rw (one_loop (mended_program f l) a b j k) (refl, refl, refl, refl)

module _ {f : List ℕ} {l : Layout} {x y : ℕ} {c p : List ℕ} where
  pub once_paired : {a b : PairSays} {c' c'' p' p'' : List ℕ}
      → Paired f l x y c p a c' p' → Paired f l x y c p b c'' p'' → (a ≡ b) × (c' ≡ c'') × (p' ≡ p'')
  once_paired (unasked n) (unasked m) = (refl, refl, refl)
  once_paired (unasked n) (no_room e h) = absurd (n e)
  once_paired (unasked n) (leaves v e h k) = absurd (n e)
  once_paired (unasked n) (loops e h k) = absurd (n e)
  once_paired (no_room d i) (unasked n) = absurd (n d)
  once_paired (no_room d i) (no_room e h) = (refl, refl, refl)
  once_paired (no_room d i) (leaves v e h k) = absurd (omega (arith, i, h))
  once_paired (no_room d i) (loops e h k) = absurd (omega (arith, i, h))
  once_paired (leaves w d i j) (unasked n) = absurd (n d)
  once_paired (leaves w d i j) (no_room e h) = absurd (omega (arith, i, h))
  once_paired (leaves w d i j) (leaves v e h k) = rw (det j k) (refl, refl, refl)
  once_paired (leaves w d i j) (loops e h k) = absurd (k w j)
  once_paired (loops d i j) (unasked n) = absurd (n d)
  once_paired (loops d i j) (no_room e h) = absurd (omega (arith, i, h))
  once_paired (loops d i j) (leaves v e h k) = absurd (j v k)
  once_paired (loops d i j) (loops e h k) = (refl, refl, refl)
