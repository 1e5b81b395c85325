use Rattle.std.proofs.Common.{◌≡◌, ℤ, List, ◌+ℤ◌, ap, ◌∙◌}
use Rattle.ac_forms.specs.Affine.{Affine, value_at}
use Rattle.ac_forms.specs.RowColumns.{trimmed}
use Rattle.ac_forms.proofs.Trims.{dot-trim}
use Rattle.ac_forms.proofs.form.Form.trimmed.Goals as goal

value-trimmed : (f : Affine) (p : List ℤ) → value_at (trimmed f) p ≡ value_at f p
value-trimmed f p = ap (λ z. z +ℤ f.konst) (dot-trim f.coefs p)

pub returns-clause-value : goal.returns-clause-value
returns-clause-value c = λ p. ap (λ (g : Affine). value_at g p) c.without_last_zeros.ensures ∙ value-trimmed c.args.self p
