-- An array of n equal numbers has n of them, which a lemma says: a search would count them out.
use Rattle.std.proofs.Common.{ℕ, sym}
use Rattle.std.proofs.lemmas.List.{length-replicate}
use Rattle.answers.proofs.answer.Goals as goal

pub slice_bounds-whole-end : goal.slice_bounds-whole-end
slice_bounds-whole-end g c = sym (length-replicate {0} {A = ℕ} 131080 170)

pub slice_bounds-whole-end-2 : goal.slice_bounds-whole-end-2
slice_bounds-whole-end-2 g c = sym (length-replicate {0} {A = ℕ} 262144 170)

pub slice_bounds-whole-end-3 : goal.slice_bounds-whole-end-3
slice_bounds-whole-end-3 g c = sym (length-replicate {0} {A = ℕ} 65800 170)

pub slice_bounds-whole-end-4 : goal.slice_bounds-whole-end-4
slice_bounds-whole-end-4 g c = sym (length-replicate {0} {A = ℕ} 600000 170)
