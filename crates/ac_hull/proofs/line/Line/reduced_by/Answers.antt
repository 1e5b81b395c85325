use Rattle.std.proofs.Common.{rules, ◌≡◌, ℤ, List}
use Rattle.ac_base.proofs.Bits.{again_128}
use Rattle.ac_hull.specs.FractionFreeElimination.{column_of, pivot_of, entry}
use Rattle.ac_hull.proofs.Reductions.{reduced_made}
use Rattle.ac_hull.proofs.line.Line.reduced_by.Goals as goal

pub returns : goal.returns
returns c =
    let p : c.coefficient-pivot.result ≡ pivot_of c.args.other.now = search (rules, again_128) in
    let n : c.coefficient-number.result ≡ entry (column_of c.args.other.now) c.args.self.now.coords = search (rules, again_128) in
    reduced_made c.args.other.now c.args.self.now _ _ _ _ _ _ c.in_ok-coords.coords c.in_ok-weights.weights (search (rules, again_128)) (search (rules, again_128)) c.as_slice-4.ensures c.as_slice-5.ensures c.as_slice-6.ensures c.as_slice-7.ensures c.in_ok-coords.ensures c.in_ok-weights.ensures
