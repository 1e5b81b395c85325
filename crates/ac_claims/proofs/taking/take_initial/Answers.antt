use Rattle.std.proofs.Common.{List, Option, subst}
use Rattle.ac_cert.specs.declared.types.Rule.TheVariants as rule
use Rattle.ac_forms.specs.declared.row.Row.{Row}
use Rattle.ac_claims_paths.specs.PathRows.{made_and_stand}
use Rattle.ac_claims.specs.StackEntries.{Settles, dues}
use Rattle.ac_claims.specs.Machine.{onto_if}
use Rattle.ac_claims.proofs.taking.take_initial.Goals as goal

pub returns : goal.returns
returns c = λ due a.
    subst (λ (o : Option (List Row)). Settles (onto_if (made_and_stand c.args.path.conj.rows o) c.args.line.now.number rule.Initial (dues c.args.path.conj.rows due)) due c.ends_where.result) c.in_ok-rows.ensures.value
    (c.ends_where.ensures due a)
