use Rattle.std.proofs.Common.{List, ◌∙◌, ap, subst, Bool}
use Rattle.ac_forms.specs.declared.row.Row.{Row}
use Rattle.ac_claims_paths.specs.PathRows.{made_and_stand}
use Rattle.ac_claims.specs.StackEntries.{Settles, dues}
use Rattle.ac_claims.specs.Machine.{onto_if}
use Rattle.ac_claims.proofs.KillSteps.{rows_moduli}
use Rattle.ac_claims.proofs.taking.ends_where.Goals as goal

pub made_and_stand-requires-clause-rows : goal.made_and_stand-requires-clause-rows
made_and_stand-requires-clause-rows c = rows_moduli c.args.path.conj c.as_slice.result.now c.requires.path c.as_slice.ensures

pub returns : goal.returns
returns c = λ due a.
    subst (λ (b : Bool). Settles (onto_if b c.args.line.now.number c.args.rule (dues c.args.path.conj.rows due)) due c.ends_if.result)
    (c.in_ok-holds.ensures ∙ ap (λ (z : List Row). made_and_stand z c.args.rows.now) c.as_slice.ensures)
    (c.ends_if.ensures due a)
