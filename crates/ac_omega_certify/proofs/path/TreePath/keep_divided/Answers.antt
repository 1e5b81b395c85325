use Rattle.std.proofs.Common.{◌≡◌, to_z, of_z, rules}
use Rattle.std.specs.Int.{w128}
use Rattle.ac_base.proofs.Bits.{again_128}
use Rattle.ac_forms.specs.Affine.{coef}
use Rattle.ac_forms.specs.declared.row.Row.TheVariants.{Div}
use Rattle.ac_omega_steps.specs.Bounds.{without}
use Rattle.ac_omega_steps.specs.Choices.{size_of}
use Rattle.ac_omega_certify.proofs.Equated.{leads-kept}
use Rattle.ac_omega_certify.proofs.path.TreePath.keep_divided.Goals as goal

pub returns-clause-leads : goal.returns-clause-leads
returns-clause-leads c = λ start path h n a k.
    let s : to_z w128 (of_z w128 c.size-size.result) ≡ c.size-size.result = search (rules, again_128) in
    let l = rw c.in_ok-rest.ensures at (c.in_ok-place.ensures.leads start path h n a) in
    rw (c.in_ok-keep.ensures.rows, c.in_ok-keep.ensures.places, s, c.size-size.ensures, c.in_ok-rest.ensures)
    (leads-kept c.show_divided.new.self start path c.args.names.now c.args.kept.now.rows.items c.args.kept.now.places.items (Div (size_of (coef c.args.equality.now.column c.args.equality.now.form.now)) (without c.args.equality.now.column c.args.equality.now.form.now)) c.in_ok-place.place k l)
