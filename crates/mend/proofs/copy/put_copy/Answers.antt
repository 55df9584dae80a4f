-- The sizes, and then the subfiles.
use Rattle.std.proofs.Common.{rules, ℕ}
use Rattle.lent.proofs.Pens.{seq, no_turn, one_turn}
use Rattle.tfm.specs.Subfiles.{table_of}
use Rattle.mend.specs.Copy.{mended_in, mended_part, mended_text}
use Rattle.mend.proofs.copy.put_copy.Goals as goal

pub returns : goal.returns
unfolding mended_text mended_part mended_in
returns c =
    let f = c.args.file.now in
    let l = c.args.font.now.layout in
    let made = λ (k : ℕ). mended_in c.args.font.now.infos.now c.args.font.now.steps.now c.args.marks.now l k (table_of f l k) in
    let header = c.put_part.ensures (made 0) (λ i b says. search rules) in
    let infos = c.put_part-2.ensures (made 1) (λ i b says. search rules) in
    let widths = c.put_part-3.ensures (made 2) (λ i b says. search rules) in
    let heights = c.put_part-4.ensures (made 3) (λ i b says. search rules) in
    let depths = c.put_part-5.ensures (made 4) (λ i b says. search rules) in
    let italics = c.put_part-6.ensures (made 5) (λ i b says. search rules) in
    let steps = c.put_part-7.ensures (made 6) (λ i b says. search rules) in
    let kerns = c.put_part-8.ensures (made 7) (λ i b says. search rules) in
    let recipes = c.put_part-9.ensures (made 8) (λ i b says. search rules) in
    let params = c.put_part-10.ensures (made 9) (λ i b says. search rules) in
    seq
    (one_turn params (one_turn recipes (one_turn kerns (one_turn steps (one_turn italics
    (one_turn depths (one_turn heights (one_turn widths (one_turn infos (one_turn header no_turn))))))))))
    (rw (← c.part.ensures.holds) c.put_bytes.ensures)
