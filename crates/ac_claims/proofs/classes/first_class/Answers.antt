use Rattle.std.proofs.Common.{◌≡◌, subst}
use Rattle.std.specs.Prelude.{IfOk}
use Rattle.ac_forms.specs.declared.row.Row.{Row}
use Rattle.ac_cert.specs.Rules.{with_row}
use Rattle.ac_claims_paths.specs.PathSteps.{at_rows}
use Rattle.ac_claims.proofs.StackSteps.{row_result, row_all}
use Rattle.ac_claims.proofs.classes.first_class.Goals as goal

pub returns-clause-value : goal.returns-clause-value
returns-clause-value c =
    row_result c.args.path _ c.put_further.new.due _ c.longer.result (subst (λ (r : Row). IfOk c.longer.result (λ p. p ≡ at_rows c.args.path (with_row c.args.path.conj r))) c.in_ok-row.ensures.value c.longer.ensures) c.in_ok-put_further.ensures.value c.in_ok-put_further.ensures.entries

pub returns-clause-entries : goal.returns-clause-entries
returns-clause-entries c = row_all c.args.path c.in_ok-row.row c.put_further.new.due c.longer.result c.longer.ensures c.in_ok-put_further.ensures.entries
