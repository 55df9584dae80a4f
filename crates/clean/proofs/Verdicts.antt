-- A file whose verdict is clean is accepted, unmended and without loops.
use Prim.Native.Nat.{ℕ}
use mathlib.Core.Path.{◌≡◌, refl, sym, ap, ◌∙◌}
use mathlib.Core.Bool.{Bool, true, false, cond, true≢false}
use mathlib.Core.List.{List}
use Rattle.tfm.specs.declared.Layout.{Layout}
use Rattle.mend.specs.Findings.{any_mend}
use Rattle.judge.specs.Judge.{Verdict, no_verdict, clean, mended_so, looping, Answer, too_short, judge_number, mended_program, Loop, no_loop, loop_at, LoopIs, verdict_of, Judged, refused, too_few, too_long, judged}
use Rattle.clean.specs.Clean.{verdict_in, Clean}

-- a verdict of clean: no mend, and no loop
abbrev is_clean : Verdict → Bool
is_clean no_verdict = false
is_clean clean = true
is_clean mended_so = false
is_clean looping = false

unclean : {A : Type 0} (v : Verdict) → is_clean v ≡ false → v ≡ clean → A
unclean v e q = absurd (true≢false (sym (ap is_clean q) ∙ e))

no_mends : (b : Bool) → cond b mended_so clean ≡ clean → b ≡ false
no_mends true e = unclean mended_so refl e
no_mends false e = refl

by_loop : (f : List ℕ) (l : Layout) (c : List ℕ) (loop : Loop) → judge_number f l c ≡ 0 → LoopIs (mended_program f l) loop → verdict_of (any_mend f l) loop ≡ clean → Clean f l
unfolding judge_number
by_loop f l c no_loop e h q = record { later = too_short l c; number = e; unmended = no_mends (any_mend f l) q; settled = h }
by_loop f l c (loop_at x y) e h q = unclean looping refl q

pub judged_clean : {f : List ℕ} {l : Layout} {c g p : List ℕ} {a : Answer} {c' g' p' : List ℕ} → Judged f l c g p a c' g' p' → verdict_in a ≡ clean → Clean f l
judged_clean (refused n) q = unclean no_verdict refl q
judged_clean (too_few e n) q = unclean no_verdict refl q
judged_clean (too_long loop e n h m) q = unclean no_verdict refl q
judged_clean {f} {l} {c} (judged loop e n h m) q = by_loop f l c loop e h q
