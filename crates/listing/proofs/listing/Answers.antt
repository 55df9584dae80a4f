-- By the verdict, and by whether the text fits.
use Rattle.std.proofs.Common.{rules, tests, ◌≡◌, ◌+◌, length}
use Rattle.listing.proofs.Cases.{refused_case, long_case, fits_case}
use Rattle.listing.proofs.listing.Goals as goal

pub returns-in-Err : goal.returns-in-Err
returns-in-Err c = rw c.refuse.ensures (refused_case _ _ _ _ _ _ c.in-Err.refusal c.in-Err.ensures)

pub returns-then-has_overflowed : goal.returns-then-has_overflowed
returns-then-has_overflowed c =
    let q = c.put_listing.new.pen in
    let past : q.to ≡ length q.out.now + 1 = search (rules, tests) in
    let printed = rw c.read_layout.ensures at c.put_listing.ensures in
    let wiped = c.fill-then-has_overflowed-2.ensures.after (λ y e. e) in
    long_case _ _ _ _ _ _ c.in-Ok.ensures _ q c.new-pen.ensures.start printed (c.fill.ensures.after (λ y e. e)) (c.fill-then-has_overflowed.ensures.after (λ y e. e)) (search (wiped, rules)) (search rules) (search rules) past

pub returns : goal.returns
returns c =
    let q = c.put_listing.new.pen in
    let past : q.to ≡ length q.out.now + 1 → ⊥ = search (rules, tests) in
    let printed = rw c.read_layout.ensures at c.put_listing.ensures in
    rw c.end-text.ensures (fits_case _ _ _ _ _ _ c.in-Ok.ensures _ q c.new-pen.ensures.start printed (search rules) past)
