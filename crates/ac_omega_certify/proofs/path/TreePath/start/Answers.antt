use Rattle.std.proofs.Common.{◌≡◌, pos, [], ◌∷◌, arith, refl, sym, ◌∙◌}
use Rattle.std.proofs.lemmas.Int.{ints}
use Rattle.ac_forms.specs.declared.row.Row.TheVariants.{Ge}
use Rattle.ac_cert.specs.declared.types.Step.TheVariants.{Floor}
use Rattle.ac_cert.specs.Rules.{zero_form}
use Rattle.ac_omega_certify.specs.TreePathRows.{StandsAt}
use Rattle.ac_omega_certify.proofs.Starts.{low_form, high_form, with_floor, floor_reaches, low-stands, high-stands, one-blends, one_starts}
use Rattle.ac_omega_certify.proofs.path.TreePath.start.Goals as goal

pub returns : goal.returns
returns c = λ start ec er.
    let low : StandsAt (start.columns ∷ []) (with_floor start) c.args.rows (Ge low_form) = rw (← er) (low-stands start) in
    let high : StandsAt (start.columns ∷ []) (with_floor start) c.in-Some-Some-Some.high (Ge high_form) = high-stands start c.in-Some-Some-Some.high (omega (arith, er, c.in-Some-Some-Some.ensures')) in
    let steps : c.push.new.self ≡ Floor (pos 2) zero_form ∷ [] = c.in_ok-push.ensures.ok ∙ rw (c.in_ok-zero.ensures, c.new-steps.ensures) refl in
    let first = floor_reaches (record { steps = c.push.new.self; columns = c.in-Some-Some-Some.columns; rows = c.in-Some-Some-Some.one; one = c.in-Some-Some-Some.one }) start steps (omega (arith, ec, c.in-Some-Some-Some.ensures)) (omega (arith, er, c.in-Some-Some-Some.ensures'')) in
    one_starts c.add_two.new.self start c.in_ok-_place._place (c.in_ok-_place.ensures.base.one ∙ sym c.in_ok-_place.ensures.place)
    (c.in_ok-_place.ensures.leads start (with_floor start) (start.columns ∷ []) (Ge low_form) (Ge high_form) first low high (omega (arith, ints)) (omega (arith, ints)) one-blends)
