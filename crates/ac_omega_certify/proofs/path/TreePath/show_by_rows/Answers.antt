use Rattle.std.proofs.Common.{◌≡◌, Some, slice_get}
use Rattle.ac_forms.specs.declared.row.Row.TheVariants.{Ge}
use Rattle.ac_omega_certify.proofs.RaisedPlaces.{at-within}
use Rattle.ac_omega_certify.proofs.ShownSizes.{row-is, kept-moderate, two-blend, two-fit}
use Rattle.ac_omega_certify.proofs.StandingLists.{stand-at}
use Rattle.ac_omega_certify.proofs.path.TreePath.show_by_rows.Goals as goal

pub show_implied_by_two-requires-clause-blends : goal.show_implied_by_two-requires-clause-blends
show_implied_by_two-requires-clause-blends c =
    let rows = c.args.bounded.now.rows.now in
    let l = at-within rows c.args.i _ c.requires.implied.2.stands.at in
    let k = at-within rows c.args.j _ c.requires.implied.2.rest.stands.at in
    let at : slice_get rows c.args.i ≡ Some (Ge c.in-Ge-Ge.first) = row-is rows c.args.i c.index-bounded-i.result _ l c.index-bounded-i.is c.in-Ge-Ge.is-0 in
    let too : slice_get rows c.args.j ≡ Some (Ge c.in-Ge-Ge.second) = row-is rows c.args.j c.index-bounded-j.result _ k c.index-bounded-j.is c.in-Ge-Ge.is-1 in
    two-blend c.args.bounded.now.column c.args.i c.args.j c.args.low.now c.in-Ge-Ge.first c.in-Ge-Ge.second rows c.requires.around c.requires.low at too

pub show_implied_by_two-requires-clause-fits : goal.show_implied_by_two-requires-clause-fits
show_implied_by_two-requires-clause-fits c =
    let z = c.args.bounded.now.column in
    let rows = c.args.bounded.now.rows.now in
    let l = at-within rows c.args.i _ c.requires.implied.2.stands.at in
    let k = at-within rows c.args.j _ c.requires.implied.2.rest.stands.at in
    let at : slice_get rows c.args.i ≡ Some (Ge c.in-Ge-Ge.first) = row-is rows c.args.i c.index-bounded-i.result _ l c.index-bounded-i.is c.in-Ge-Ge.is-0 in
    let too : slice_get rows c.args.j ≡ Some (Ge c.in-Ge-Ge.second) = row-is rows c.args.j c.index-bounded-j.result _ k c.index-bounded-j.is c.in-Ge-Ge.is-1 in
    two-fit z c.args.i c.args.j c.args.low.now c.in-Ge-Ge.first c.in-Ge-Ge.second c.in_ok-form.form rows c.requires.around c.requires.low at too (kept-moderate z c.args.low.now c.args.high.now c.in_ok-form.form c.requires.within_2_to_120 c.requires.low c.requires.high c.in_ok-form.ensures)

pub returns-clause-leads : goal.returns-clause-leads
returns-clause-leads c = λ start path names h o s.
    let rows = c.args.bounded.now.rows.now in
    let places = c.args.bounded.now.places.now in
    let l = at-within rows c.args.i _ c.requires.implied.2.stands.at in
    let k = at-within rows c.args.j _ c.requires.implied.2.rest.stands.at in
    let at : slice_get rows c.args.i ≡ Some (Ge c.in-Ge-Ge.first) = row-is rows c.args.i c.index-bounded-i.result _ l c.index-bounded-i.is c.in-Ge-Ge.is-0 in
    let too : slice_get rows c.args.j ≡ Some (Ge c.in-Ge-Ge.second) = row-is rows c.args.j c.index-bounded-j.result _ k c.index-bounded-j.is c.in-Ge-Ge.is-1 in
    c.in_ok-place.ensures.leads start path names h o (stand-at names path rows places c.args.i (Ge c.in-Ge-Ge.first) s at) (stand-at names path rows places c.args.j (Ge c.in-Ge-Ge.second) s too)
