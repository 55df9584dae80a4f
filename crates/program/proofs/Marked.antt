-- The marks that are made where no step is marked yet.
use Rattle.std.proofs.Common.{ℕ, ◌≡◌, List, replicate}
use Rattle.tfm.specs.declared.Layout.{Layout}
use Rattle.program.specs.Marks.{marks_from, marks_of}

pub marked : (infos s : List ℕ) (l : Layout) {m : List ℕ} → m ≡ marks_from infos s l (replicate 32768 0) → m ≡ marks_of infos s l
unfolding marks_of
marked infos s l e = e
