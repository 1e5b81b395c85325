use Rattle.std.proofs.Common.{◌≡◌, [], length, rules, sym, ap, ◌∙◌}
use Rattle.ac_hull.specs.Hulls.{equalities_of}
use Rattle.ac_hull.proofs.Vanishing.{hull_over, hull_vanish, hull_equalities, contains_made}
use Rattle.ac_hull.proofs.hull.Hull.contains.Goals as goal

pub vanish-requires : goal.vanish-requires
vanish-requires c =
    let l : length c.args.point.now ≡ c.self.inside.columns = c.requires ∙ sym (ap (λ v. v.columns) c.self.view_is) in
    rw c.as_slice.ensures (hull_over c.self.inside.columns (length c.args.point.now) c.self.inside.members c.self.inside.lines c.self.inside.equalities c.self.invariant l)

pub returns : goal.returns
returns c =
    let l : length c.args.point.now ≡ c.self.inside.columns = c.requires ∙ sym (ap (λ v. v.columns) c.self.view_is) in
    let n : ¬ (c.self.inside.members ≡ []) = search rules in
    let m : c.args.self.now.members ≡ c.self.inside.members = sym (ap (λ v. v.members) c.self.view_is) in
    let k : c.args.self.now.columns ≡ c.self.inside.columns = sym (ap (λ v. v.columns) c.self.view_is) in
    let e : c.self.inside.equalities ≡ equalities_of c.self.inside.columns c.self.inside.members = hull_equalities c.self.inside.columns c.self.inside.members c.self.inside.lines c.self.inside.equalities c.self.invariant in
    rw (m, k, ← e)
    (contains_made c.vanish.result c.self.inside.equalities c.args.point.now c.self.inside.members (rw c.as_slice.ensures at c.vanish.ensures)
    (hull_vanish c.self.inside.columns c.self.inside.members c.self.inside.lines c.self.inside.equalities c.args.point.now c.self.invariant n l))
