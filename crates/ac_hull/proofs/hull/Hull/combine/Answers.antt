use Rattle.std.proofs.Common.{◌≡◌, length, Some, rules, refl}
use Rattle.std.specs.Prelude.{slice_get}
use Rattle.ac_hull.specs.FractionFreeElimination.{IsZero}
use Rattle.ac_hull.specs.EliminationRange.{CanCombine, CanRead}
use Rattle.ac_hull.proofs.Hulls.{hull_content, hull_row}
use Rattle.ac_forms.proofs.Stops.{wide_inside}
use Rattle.ac_hull.proofs.Founds.{hull_long, hull_found, hull_can_combine, hull_combine_read}
use Rattle.ac_hull.proofs.hull.Hull.combine.Goals as goal

pub line_of-requires : goal.line_of-requires
line_of-requires c =
    let f : slice_get c.self.inside.members 0 ≡ Some c.in-Some.first.now = cc c.in-Some.ensures.value in
    let l : length c.args.point.now ≡ c.self.inside.columns = cc in
    rw (c.as_slice.ensures, c.as_slice-2.ensures)
    (hull_content c.self.inside.columns c.self.inside.members c.self.inside.lines c.self.inside.equalities c.in-Some.first.now c.args.point.now c.self.invariant f l)

pub returns-then-not-is_zero : goal.returns-then-not-is_zero
returns-then-not-is_zero c =
    let f : slice_get c.self.inside.members 0 ≡ Some c.in-Some.first.now = cc c.in-Some.ensures.value in
    let l : length c.args.point.now ≡ c.self.inside.columns = cc in
    let made = rw (c.as_slice.ensures, c.as_slice-2.ensures) at c.in_ok-line.ensures in
    let n : ¬ (IsZero c.in_ok-line.line.coords) = search rules in
    let e : c.args.self.now.members ≡ c.self.inside.members = cc in
    rw e (
      hull_can_combine c.self.inside.columns c.self.inside.members c.self.inside.lines c.self.inside.equalities c.in-Some.first.now c.args.point.now c.in_ok-line.line (length c.self.inside.lines) c.self.invariant f l made.1 refl made.0 (λ z. absurd (n z)),
      λ h. n (rw made.1 ((hull_row c.self.inside.columns c.self.inside.members c.self.inside.lines c.self.inside.equalities c.in-Some.first.now c.args.point.now c.self.invariant f l).0 h)),
    )

pub read-requires : goal.read-requires
read-requires c =
    let f : slice_get c.self.inside.members 0 ≡ Some c.in-Some.first.now = cc c.in-Some.ensures.value in
    let l : length c.args.point.now ≡ c.self.inside.columns = cc in
    let made = rw (c.as_slice.ensures, c.as_slice-2.ensures) at c.in_ok-line.ensures in
    hull_long c.self.inside.columns c.self.inside.members c.self.inside.lines c.self.inside.equalities c.in-Some.first.now c.args.point.now c.in_ok-line.line c.len.result c.self.invariant f l made.1 c.len.ensures

pub returns-in-Ok : goal.returns-in-Ok
returns-in-Ok c =
    let f : slice_get c.self.inside.members 0 ≡ Some c.in-Some.first.now = cc c.in-Some.ensures.value in
    let l : length c.args.point.now ≡ c.self.inside.columns = cc in
    let made = rw (c.as_slice.ensures, c.as_slice-2.ensures) at c.in_ok-line.ensures in
    let z : IsZero c.in_ok-line.line.coords = search rules in
    let e : c.args.self.now.members ≡ c.self.inside.members = cc in
    rw e (
      hull_can_combine c.self.inside.columns c.self.inside.members c.self.inside.lines c.self.inside.equalities c.in-Some.first.now c.args.point.now c.in_ok-line.line c.len.result c.self.invariant f l made.1 c.len.ensures made.0 (λ _. c.in-Ok.ensures.0),
      hull_found c.self.inside.columns c.self.inside.members c.self.inside.lines c.self.inside.equalities c.in-Some.first.now c.args.point.now c.in_ok-line.line c.len.result c.in-Ok.combination c.self.invariant f l made.1 c.len.ensures z c.in-Ok.ensures.1,
    )

pub returns : goal.returns
returns c =
    let f : slice_get c.self.inside.members 0 ≡ Some c.in-Some.first.now = cc c.in-Some.ensures.value in
    let l : length c.args.point.now ≡ c.self.inside.columns = cc in
    let made = rw (c.as_slice.ensures, c.as_slice-2.ensures) at c.in_ok-line.ensures in
    let z : IsZero c.in_ok-line.line.coords = search rules in
    let e : c.args.self.now.members ≡ c.self.inside.members = cc in
    let go : CanCombine c.args.self.now.members c.args.point.now → CanRead c.len.result c.in_ok-line.line =
    rw e (hull_combine_read c.self.inside.columns c.self.inside.members c.self.inside.lines c.self.inside.equalities c.in-Some.first.now c.args.point.now c.in_ok-line.line c.len.result c.self.invariant f l made.1 c.len.ensures z) in
    wide_inside c.in-Err.stop _ _ c.in-Err.ensures go
