use Rattle.std.proofs.Common.{◌≡◌, [], length}
use Rattle.ac_hull.proofs.Vanishing.{hull_vanish}
use Rattle.ac_hull.proofs.hull.Hull.equalities.Goals as goal

pub returns-clause-points : goal.returns-clause-points
returns-clause-points c q l =
    let n : ¬ (c.self.inside.members ≡ []) = λ e. c.requires (cc) in
    let k : length q ≡ c.self.inside.columns = cc in
    let m : c.args.self.now.members ≡ c.self.inside.members = cc in
    rw (c.as_slice.ensures, m) (hull_vanish c.self.inside.columns c.self.inside.members c.self.inside.lines c.self.inside.equalities q c.self.invariant n k)
