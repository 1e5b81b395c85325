use Rattle.std.proofs.Common.{◌≡◌, [], rules}
use Rattle.ac_hull.proofs.Hulls.{begun_some, begun_hull}
use Rattle.ac_hull.proofs.hull.Hull.begin.Goals as goal

pub equalities-requires-clause-some : goal.equalities-requires-clause-some
equalities-requires-clause-some c =
    let e : c.self.inside.members ≡ [] = cc in
    rw c.as_slice.ensures (begun_some c.self.inside.columns c.self.inside.members c.self.inside.lines c.self.inside.equalities c.self.invariant e)

pub invariant_of-self-2 : goal.invariant_of-self-2
invariant_of-self-2 c =
    let e : c.self.inside.members ≡ [] = cc in
    begun_hull c.self.inside.columns c.self.inside.members c.push.new.self c.self.inside.lines c.self.inside.equalities c.in_ok-made.made c.args.point.now c.self.invariant e (search rules) (search rules) (search rules)
