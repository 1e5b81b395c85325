use Rattle.ac_hull.specs.Templates.{template_rows}
use Rattle.ac_widen.specs.Walks.{narrowed_by}
use Rattle.ac_walk_state.specs.RowRedundancy.{AreEnoughOn}
use Rattle.ac_walk_state.proofs.Among.{left_over}
use Rattle.ac_walk_state.proofs.Hulls.{enough_without, kept_widths}
use Rattle.ac_walk_state.proofs.member.claimed_rows.Goals as goal

pub returns-clause-over : goal.returns-clause-over
returns-clause-over c =
    let h = c.args.hull.now in
    let t = c.args.template.now in
    let e = rw (c.columns.ensures, c.as_slice-thresholds.ensures, c.as_slice-moduli.ensures) at c.in-Ok.ensures.enough in
    let on : AreEnoughOn c.equalities-equalities.result.now c.in-Ok.rows c.in_ok-without_following.field-0 = rw c.as_slice.ensures at c.in_ok-without_following.ensures in
    left_over h.columns t.thresholds t.moduli c.args.members.now c.in_ok-without_following.field-0 c.requires.moduli (λ r a. (e h.members c.requires.among).0 r (on.among r a))

pub returns-clause-enough : goal.returns-clause-enough
returns-clause-enough c =
    let h = c.args.hull.now in
    let t = c.args.template.now in
    let a = rw (c.columns.ensures, c.as_slice-thresholds.ensures, c.as_slice-moduli.ensures) at c.in-Ok.ensures.rows in
    let e = rw (c.columns.ensures, c.as_slice-thresholds.ensures, c.as_slice-moduli.ensures) at c.in-Ok.ensures.enough in
    let on : AreEnoughOn c.equalities-equalities.result.now c.in-Ok.rows c.in_ok-without_following.field-0 = rw c.as_slice.ensures at c.in_ok-without_following.ensures in (
      a.0,
      enough_without h.columns h.members c.equalities-equalities.result.now (narrowed_by (template_rows h.columns t.thresholds t.moduli) c.args.members.now) c.in-Ok.rows c.in_ok-without_following.field-0
          (kept_widths h.columns h.members c.args.members.now c.requires.among c.requires.widths) c.equalities-equalities.ensures.points (e h.members c.requires.among) on,
    )
