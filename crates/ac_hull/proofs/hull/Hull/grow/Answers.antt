use Rattle.std.proofs.Common.{rules}
use Rattle.ac_hull.proofs.Hulls.{growth_extension, grown_hull}
use Rattle.ac_hull.specs.HullInternals.Keeping.{IsGrowth}
use Rattle.ac_hull.proofs.hull.Hull.grow.Goals as goal

pub extended-requires : goal.extended-requires
extended-requires c =
    let g : IsGrowth c.self.inside.columns c.self.inside.members c.args.point.now c.args.line = search rules in
    rw c.as_slice.ensures (growth_extension c.self.inside.columns c.self.inside.members c.self.inside.lines c.self.inside.equalities c.args.point.now c.args.line c.self.invariant g)

pub invariant_of-self-2 : goal.invariant_of-self-2
invariant_of-self-2 c =
    let g : IsGrowth c.self.inside.columns c.self.inside.members c.args.point.now c.args.line = search rules in
    grown_hull c.self.inside.columns c.self.inside.members c.push.new.self c.self.inside.lines c.extended.new.lines c.self.inside.equalities c.in_ok-made.made c.args.point.now c.args.line c.self.invariant g (search rules) (search rules) (search rules)
