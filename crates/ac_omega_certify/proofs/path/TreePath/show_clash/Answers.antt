use Rattle.ac_forms.specs.declared.row.Row.TheVariants.{Eq}
use Rattle.ac_omega_certify.proofs.Contradictions.{clash_shows}
use Rattle.ac_omega_certify.proofs.path.TreePath.show_clash.Goals as goal

pub returns-clause-shows : goal.returns-clause-shows
returns-clause-shows c = λ start path names f g h a b q v.
    clash_shows c.add_two.new.self start path names c.in_ok-place.place f g q (c.in_ok-place.ensures.leads start path names (Eq f) (Eq g) h a b tt tt v)
