use Rattle.std.proofs.Common.{◌≡◌, [], length, Some, rules, sym, ap, ◌∙◌, refl, true, false}
use Rattle.std.specs.Prelude.{slice_get}
use Rattle.ac_widen.specs.Combinations.{InHull}
use Rattle.ac_hull.specs.EliminationRange.{CanAdd, CanGrow}
use Rattle.ac_hull.specs.FractionFreeElimination.{next_line, minus, IsZero}
use Rattle.ac_hull.proofs.Hulls.{hull_content, hull_row, hull_can_grow, none_in}
use Rattle.ac_forms.proofs.Stops.{wide_inside}
use Rattle.ac_hull.proofs.Counts.{grown_law}
use Rattle.ac_hull.proofs.hull.Hull.add_point.Goals as goal

pub line_of-requires : goal.line_of-requires
line_of-requires c =
    let f : slice_get c.self.inside.members 0 ≡ Some c.in-Some.first.now = cc c.in-Some.ensures.value in
    let l : length c.args.point.now ≡ c.self.inside.columns = cc in
    rw (c.as_slice.ensures, c.as_slice-2.ensures)
    (hull_content c.self.inside.columns c.self.inside.members c.self.inside.lines c.self.inside.equalities c.in-Some.first.now c.args.point.now c.self.invariant f l)

pub returns-then-is_zero-clause-exact : goal.returns-then-is_zero-clause-exact
returns-then-is_zero-clause-exact c =
    let f : slice_get c.self.inside.members 0 ≡ Some c.in-Some.first.now = cc c.in-Some.ensures.value in
    let l : length c.args.point.now ≡ c.self.inside.columns = cc in
    let is : c.in_ok-line.line ≡ next_line c.self.inside.lines (minus c.args.point.now c.in-Some.first.now) = rw (c.as_slice.ensures, c.as_slice-2.ensures) at c.in_ok-line.ensures.1 in
    let z : IsZero (next_line c.self.inside.lines (minus c.args.point.now c.in-Some.first.now)).coords = rw is at (c.if-is_zero.ensures.0 refl) in
    let e : c.args.self.now.members ≡ c.self.inside.members = cc in
    let h : InHull c.args.self.now.members c.args.point.now = rw e ((hull_row c.self.inside.columns c.self.inside.members c.self.inside.lines c.self.inside.equalities c.in-Some.first.now c.args.point.now c.self.invariant f l).1 z) in
    (h, refl)

pub returns-in-Ok-clause-exact : goal.returns-in-Ok-clause-exact
returns-in-Ok-clause-exact c =
    let f : slice_get c.self.inside.members 0 ≡ Some c.in-Some.first.now = cc c.in-Some.ensures.value in
    let l : length c.args.point.now ≡ c.self.inside.columns = cc in
    let is : c.in_ok-line.line ≡ next_line c.self.inside.lines (minus c.args.point.now c.in-Some.first.now) = rw (c.as_slice.ensures, c.as_slice-2.ensures) at c.in_ok-line.ensures.1 in
    let z : ¬ (IsZero c.in_ok-line.line.coords) = λ y. absurd (false_true (c.if-is_zero.ensures.1 y)) in
    let e : c.args.self.now.members ≡ c.self.inside.members = cc in
    (λ h. z (rw is ((hull_row c.self.inside.columns c.self.inside.members c.self.inside.lines c.self.inside.equalities c.in-Some.first.now c.args.point.now c.self.invariant f l).0 (rw (← e) h))), c.in-Ok.ensures.made.1)
  where
    false_true : false ≡ true → ⊥
    false_true e = cc

pub returns-in-Err-clause-wide : goal.returns-in-Err-clause-wide
returns-in-Err-clause-wide c =
    let f : slice_get c.self.inside.members 0 ≡ Some c.in-Some.first.now = cc c.in-Some.ensures.value in
    let is : c.in_ok-line.line ≡ next_line c.self.inside.lines (minus c.args.point.now c.in-Some.first.now) = rw (c.as_slice.ensures, c.as_slice-2.ensures) at c.in_ok-line.ensures.1 in
    let z : ¬ (IsZero c.in_ok-line.line.coords) = λ y. absurd (false_true (c.if-is_zero.ensures.1 y)) in
    let e : c.args.self.now.members ≡ c.self.inside.members = cc in
    let k : c.args.self.now.columns ≡ c.self.inside.columns = cc in
    let go : CanAdd c.args.self.now.columns c.args.self.now.members c.args.point.now → CanGrow c.args.self.now.columns c.args.self.now.members c.in_ok-line.line =
    rw (e, k) (hull_can_grow c.self.inside.columns c.self.inside.members c.self.inside.lines c.self.inside.equalities c.in-Some.first.now c.args.point.now c.in_ok-line.line c.self.invariant f is z) in
    wide_inside c.in-Err.stop _ _ c.in-Err.ensures.made go
  where
    false_true : false ≡ true → ⊥
    false_true e = cc

pub returns-in-Ok-clause-falls : goal.returns-in-Ok-clause-falls
returns-in-Ok-clause-falls c =
    let l : length c.args.point.now ≡ c.self.inside.columns = c.requires ∙ sym (ap (λ v. v.columns) c.self.view_is) in
    λ _. grown_law c.self.inside.columns c.self.inside.members c.self.inside.lines c.self.inside.equalities c.args.point.now c.args.self.now c.grow.new.self c.self.invariant (sym c.self.view_is) l (returns-in-Ok-clause-exact c)

pub returns-in_default-clause-falls : goal.returns-in_default-clause-falls
returns-in_default-clause-falls c =
    let l : length c.args.point.now ≡ c.self.inside.columns = c.requires ∙ sym (ap (λ v. v.columns) c.self.view_is) in
    let e : c.args.self.now.members ≡ [] = search rules in
    λ _. grown_law c.self.inside.columns c.self.inside.members c.self.inside.lines c.self.inside.equalities c.args.point.now c.args.self.now c.begin.new.self c.self.invariant (sym c.self.view_is) l
    ((λ h. none_in c.args.point.now (rw e at h)), c.in_ok-begin.ensures.made.1)
