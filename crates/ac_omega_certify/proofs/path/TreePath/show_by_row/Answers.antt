use Rattle.std.proofs.Common.{◌≡◌, Some, slice_get}
use Rattle.ac_forms.specs.declared.row.Row.TheVariants.{Ge}
use Rattle.ac_omega_certify.proofs.RaisedPlaces.{at-within}
use Rattle.ac_omega_certify.proofs.ShownSizes.{row-is, kept-moderate, one-fits}
use Rattle.ac_omega_certify.proofs.StandingLists.{stand-at}
use Rattle.ac_omega_certify.proofs.path.TreePath.show_by_row.Goals as goal

pub show_implied_by_one-requires-clause-fits : goal.show_implied_by_one-requires-clause-fits
show_implied_by_one-requires-clause-fits c =
    let z = c.args.bounded.now.column in
    let rows = c.args.bounded.now.rows.now in
    let l = at-within rows c.args.i _ c.requires.implied.2.stands.at in
    let at : slice_get rows c.args.i ≡ Some (Ge c.in-Ge.by) = row-is rows c.args.i c.index-bounded-i.result _ l c.index-bounded-i.is c.in-Ge.is in
    one-fits z c.args.i c.args.low.now c.in-Ge.by c.in_ok-form.form rows c.requires.around c.requires.low at (kept-moderate z c.args.low.now c.args.high.now c.in_ok-form.form c.requires.within_2_to_120 c.requires.low c.requires.high c.in_ok-form.ensures)

pub returns-clause-leads : goal.returns-clause-leads
returns-clause-leads c = λ start path names h o s.
    let rows = c.args.bounded.now.rows.now in
    let l = at-within rows c.args.i _ c.requires.implied.2.stands.at in
    let at : slice_get rows c.args.i ≡ Some (Ge c.in-Ge.by) = row-is rows c.args.i c.index-bounded-i.result _ l c.index-bounded-i.is c.in-Ge.is in
    c.in_ok-place.ensures.leads start path names h o (stand-at names path rows c.args.bounded.now.places.now c.args.i (Ge c.in-Ge.by) s at)
