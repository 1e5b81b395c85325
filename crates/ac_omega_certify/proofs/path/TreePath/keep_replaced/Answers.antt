use Rattle.ac_omega_steps.specs.Choices.{replaced_row}
use Rattle.ac_omega_certify.proofs.Equated.{leads-kept}
use Rattle.ac_omega_certify.proofs.path.TreePath.keep_replaced.Goals as goal

pub returns-clause-leads : goal.returns-clause-leads
returns-clause-leads c = λ start path names h a b k.
    rw (c.in_ok-keep.ensures.rows, c.in_ok-keep.ensures.places, c.in_ok-replaced_row.ensures)
    (leads-kept c.show_replaced.new.self start path names c.args.kept.now.rows.items c.args.kept.now.places.items (replaced_row c.args.equality.now.column c.args.equality.now.form.now c.args.row.now) c.in_ok-sum.sum k (c.in_ok-sum.ensures.leads start path names h a b))
