use Rattle.ac_forms.specs.declared.conj.Conj.{Conj}
use Rattle.ac_forms.specs.declared.normal.NormalRow.TheVariants.{Absurd}
use Rattle.ac_omega_certify.specs.Descents.{Carries}
use Rattle.ac_omega_certify.specs.RowRemainders.{CarriesLefts, IsLeftAt, HaveClashAt, HaveNoClash, HasLeft, AreLeftAt}
use Rattle.ac_omega_certify.proofs.NormalForms.{left_places, AreLeftOf, normal_left, absurd_settles, clash_settles, rows_settle}
use Rattle.ac_omega_certify.proofs.path.TreePath.show_normal_form.Goals as goal

pub returns-in-Some : goal.returns-in-Some
returns-in-Some c =
    let s = c.args.standing.now in
    let at : IsLeftAt c.in-Some.place Absurd c.in_ok-lefts.lefts.items = rw (← c.as_slice-3.ensures.value) c.in-Some.ensures.some in
    let carries : (start : Conj) → Carries c.args.self.now start c.args.names.now s.rows.items s.places.items → CarriesLefts c.show_all_left.new.self start c.args.names.now s.rows.items s.places.items c.in_ok-lefts.lefts.items = rw (← c.as_slice.ensures.value, ← c.as_slice-2.ensures.value) c.in_ok-lefts.ensures.carries in
    record { long = tt; settles = λ start k. absurd_settles c.show_all_left.new.self start c.args.names.now s.rows.items s.places.items c.in_ok-lefts.lefts.items c.in-Some.place at (carries start k) }

pub returns-in-Some-clash_places : goal.returns-in-Some-clash_places
returns-in-Some-clash_places c =
    let s = c.args.standing.now in
    let ls = c.in_ok-lefts.lefts.items in
    let at : HaveClashAt c.in-Some-clash_places.first c.in-Some-clash_places.second ls = rw (← c.as_slice-4.ensures.value) c.in-Some-clash_places.ensures.some in
    let e : AreLeftOf ls s.rows.items = rw (← c.as_slice.ensures.value) c.in_ok-lefts.ensures.rows in
    let carries : (start : Conj) → Carries c.args.self.now start c.args.names.now s.rows.items s.places.items → CarriesLefts c.show_all_left.new.self start c.args.names.now s.rows.items s.places.items ls = rw (← c.as_slice.ensures.value, ← c.as_slice-2.ensures.value) c.in_ok-lefts.ensures.carries in
    record { long = tt; settles = λ start k. clash_settles c.show_all_left.new.self c.show_clash.new.self start c.args.names.now s.rows.items s.places.items ls c.in-Some-clash_places.first c.in-Some-clash_places.second c.in_ok-place.place c.requires.up_to_2_to_122 e at c.in_ok-place.ensures.shows (carries start k) }

pub places_of-requires : goal.places_of-requires
places_of-requires c =
    let s = c.args.standing.now in
    let ls = c.in_ok-lefts.lefts.items in
    let e : AreLeftOf ls s.rows.items = rw (← c.as_slice.ensures.value) c.in_ok-lefts.ensures.rows in
    let a : ¬ HasLeft Absurd ls = rw (← c.as_slice-3.ensures.value) c.in_default.ensures.none in
    let n : HaveNoClash ls = rw (← c.as_slice-4.ensures.value) c.in_default-clash_places.ensures.none in
    rw c.as_slice-5.ensures.value (normal_left s.rows.items c.args.normal.now ls c.requires.normal e a n)

pub returns : goal.returns
returns c =
    let s = c.args.standing.now in
    let ls = c.in_ok-lefts.lefts.items in
    let at : AreLeftAt c.in_ok-places.places.items c.args.normal.now ls = rw (← c.as_slice-5.ensures.value) c.in_ok-places.ensures in
    let carries : (start : Conj) → Carries c.args.self.now start c.args.names.now s.rows.items s.places.items → CarriesLefts c.show_all_left.new.self start c.args.names.now s.rows.items s.places.items ls = rw (← c.as_slice.ensures.value, ← c.as_slice-2.ensures.value) c.in_ok-lefts.ensures.carries in
    record { long = left_places c.in_ok-places.places.items c.args.normal.now ls at; settles = λ start k. rows_settle c.show_all_left.new.self start c.args.names.now s.rows.items s.places.items ls c.args.normal.now c.in_ok-places.places.items at (carries start k) }
