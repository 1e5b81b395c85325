use Rattle.std.proofs.Common.{◌≡◌, refl}
use Rattle.ac_sets.specs.SetIntersections.{common_pieces}
use Rattle.ac_sets.specs.declared.unions.Union.{Union}
use Rattle.ac_sets.proofs.Commons.{common-points, common-union, common-all_fixed}
use Rattle.ac_sets.proofs.unions.intersect.Goals as goal

pub returns-clause-points : goal.returns-clause-points
returns-clause-points c =
    let u : Union = record { visible = c.args.a.now.visible; pieces = c.in_ok-pieces.pieces } in
    let e = rw (c.as_slice.ensures, c.as_slice-2.ensures) at c.in_ok-pieces.ensures in
    common-points c.args.a.now c.args.b.now u c.requires.visible c.requires.first c.requires.second refl e

pub returns-clause-made : goal.returns-clause-made
returns-clause-made c =
    let u : Union = record { visible = c.args.a.now.visible; pieces = c.in_ok-pieces.pieces } in
    let e = rw (c.as_slice.ensures, c.as_slice-2.ensures) at c.in_ok-pieces.ensures in
    common-union c.args.a.now c.args.b.now u c.requires.visible c.requires.first c.requires.second refl e

pub returns-clause-fixed : goal.returns-clause-fixed
returns-clause-fixed c =
    let u : Union = record { visible = c.args.a.now.visible; pieces = c.in_ok-pieces.pieces } in
    let e = rw (c.as_slice.ensures, c.as_slice-2.ensures) at c.in_ok-pieces.ensures in
    common-all_fixed c.args.a.now c.args.b.now u c.requires.visible c.requires.first c.requires.second refl e
