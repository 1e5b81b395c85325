use Rattle.std.proofs.Common.{◌≡◌, Some, rules, sym, ◌∙◌}
use Rattle.std.specs.Prelude.{slice_get}
use Rattle.ac_hull.proofs.Comparing.{first_among, none_some, weaker_of}
use Rattle.ac_hull.proofs.difference.Difference.is_weaker.Goals as goal
use Rattle.ac_hull.proofs.difference.Difference.is_weaker.Goals.{then-is_some, else-is_some}

pub returns-then-is_below : goal.returns-then-is_below
returns-then-is_below c =
    let f : slice_get c.args.points.now 0 ≡ Some c.in-Some.base.now = cc c.in-Some.ensures.value in
    let k : c.args.other.now.modulus ≡ c.args.self.now.modulus = search rules in
    weaker_of c.args.points.now c.args.other.now c.args.self.now c.in-Some.base.now c.is_parallel.result (first_among c.args.points.now c.in-Some.base.now f) k
    (λ n. elim c.if-is_some.branch [
      | then-is_some w ↦ absurd (none_some c.args.self.now.modulus w.if-is_some.ensures n)
      | else-is_some w ↦ rw w.as_slice.ensures at (w.is_below_at-is_below.ensures.0 (sym w.is_below-is ∙ c.if-is_below.true))
    ])
    (rw c.as_slice-then-is_below.ensures at c.is_parallel.ensures)
