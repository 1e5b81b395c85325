use Rattle.std.proofs.Common.{◌≡◌, []}
use Rattle.ac_forms.specs.Rows.{Meets}
use Rattle.ac_walk_state.specs.RecurrencePairs.{WideningPointOf}
use Rattle.ac_walk_state.proofs.Testing.{breaks_row, breaks_inside}
use Rattle.ac_walk_state.proofs.widening_point.WideningPoint.breaks.Goals as goal

pub returns-then-not-met : goal.returns-then-not-met
returns-then-not-met c =
    let i = c.self.inside in
    let k : WideningPointOf = record { left = i.left; right = i.right; hull = i.hull; members = i.members; places = i.places; kept = i.kept; rows = i.rows } in
    let h = rw c.as_slice.ensures at c.in-Ok.ensures in
    let f = c.if-not-met.true in
    rw (← c.self.view_is) (breaks_row k c.args.point.now h.0 (λ m. let t = h.1.1 m in absurd cc))

pub returns-in-Ok-is_inside : goal.returns-in-Ok-is_inside
returns-in-Ok-is_inside c =
    let i = c.self.inside in
    let k : WideningPointOf = record { left = i.left; right = i.right; hull = i.hull; members = i.members; places = i.places; kept = i.kept; rows = i.rows } in
    let h = rw c.as_slice.ensures at c.in-Ok.ensures in
    let m : Meets i.rows c.args.point.now = h.1.0 c.if-not-met.false in
    let f = c.if-is_empty.false in
    let n : ¬ (i.hull.members ≡ []) = λ e. let t = c.is_empty.ensures.1 e in absurd cc in
    rw (← c.self.view_is) (breaks_inside k c.args.point.now c.in-Ok-is_inside.inside h.0 m n c.in-Ok-is_inside.ensures)
