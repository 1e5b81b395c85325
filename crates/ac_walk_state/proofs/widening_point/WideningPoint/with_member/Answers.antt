use Rattle.std.proofs.Common.{◌≡◌, length, sym, ap, ◌∙◌}
use Rattle.ac_walk_state.specs.RecurrencePairs.{WideningPointOf}
use Rattle.ac_walk_state.proofs.Members.{IsAdded, among_with, widths_with, kept_with, is_with}
use Rattle.ac_walk_state.proofs.Standing.{key_with}
use Rattle.ac_walk_state.proofs.widening_point.WideningPoint.with_member.Goals as goal

pub claimed_rows-requires-clause-among : goal.claimed_rows-requires-clause-among
claimed_rows-requires-clause-among c =
    let h : IsAdded c.self.inside.hull c.args.point.now c.in-Ok.grew c.add.new.self = record { is = c.in-Ok.ensures.exact } in
    rw c.as_slice.ensures
    (among_with c.self.inside.hull c.add.new.self c.args.point.now c.in-Ok.grew c.self.inside.members c.in-Ok-with_point.members h c.in-Ok-with_point.ensures c.self.invariant.among)

pub claimed_rows-requires-clause-widths : goal.claimed_rows-requires-clause-widths
claimed_rows-requires-clause-widths c =
    let h : IsAdded c.self.inside.hull c.args.point.now c.in-Ok.grew c.add.new.self = record { is = c.in-Ok.ensures.exact } in
    let l : length c.args.point.now ≡ c.self.inside.hull.columns = c.requires.width ∙ sym (ap (λ v. v.hull.columns) c.self.view_is) in
    rw c.as_slice.ensures
    (widths_with c.self.inside.hull c.add.new.self c.args.point.now c.in-Ok.grew c.self.inside.members c.in-Ok-with_point.members h c.in-Ok-with_point.ensures l c.self.invariant.widths)

pub invariant_of-result : goal.invariant_of-result
invariant_of-result c =
    let h : IsAdded c.self.inside.hull c.args.point.now c.in-Ok.grew c.add.new.self = record { is = c.in-Ok.ensures.exact } in
    let l : length c.args.point.now ≡ c.self.inside.hull.columns = c.requires.width ∙ sym (ap (λ v. v.hull.columns) c.self.view_is) in
    let n = c.in-Ok-with_numbers.ensures in
    kept_with c.self.inside.hull c.add.new.self c.args.point.now c.in-Ok.grew c.self.inside.members c.in-Ok-with_point.members c.self.inside.places c.in-Ok-with_numbers.numbers.0 c.self.inside.kept c.in-Ok-with_numbers.numbers.1
    c.args.place c.self.inside.rows c.in-Ok-claimed_rows.rows c.self.invariant h l c.in-Ok-with_point.ensures n.0 n.1 c.in-Ok-claimed_rows.ensures.over

pub returns-in-Ok-claimed_rows-clause-right : goal.returns-in-Ok-claimed_rows-clause-right
returns-in-Ok-claimed_rows-clause-right c =
    let h : IsAdded c.self.inside.hull c.args.point.now c.in-Ok.grew c.add.new.self = record { is = c.in-Ok.ensures.exact } in
    let n = c.in-Ok-with_numbers.ensures in
    let i = c.self.inside in
    let old : WideningPointOf = record { left = i.left; right = i.right; hull = i.hull; members = i.members; places = i.places; kept = i.kept; rows = i.rows } in
    let new : WideningPointOf = record { left = i.left; right = i.right; hull = c.add.new.self; members = c.in-Ok-with_point.members; places = c.in-Ok-with_numbers.numbers.0; kept = c.in-Ok-with_numbers.numbers.1; rows = c.in-Ok-claimed_rows.rows } in
    let w = is_with old c.args.point.now c.args.place c.in-Ok.grew c.add.new.self c.in-Ok-with_point.members c.in-Ok-with_numbers.numbers.0 c.in-Ok-with_numbers.numbers.1 c.in-Ok-claimed_rows.rows h c.in-Ok-with_point.ensures n.0 n.1 in
    let e = rw c.as_slice.ensures at c.in-Ok-claimed_rows.ensures.enough in
    rw (← c.self.view_is) (λ es is st. key_with c.args.template.now es old new c.args.point.now c.args.place is st w c.in-Ok-claimed_rows.ensures.hull e.1)
