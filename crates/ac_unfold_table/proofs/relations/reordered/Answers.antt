use Rattle.std.proofs.Common.{◌∙◌, subst}
use Rattle.ac_forms.specs.Renaming.{CanRenameAll}
use Rattle.ac_forms.specs.FormStops.{IfWide}
use Rattle.ac_forms.specs.declared.stop.FormStop.{FormStop}
use Rattle.ac_unfold_table.proofs.Projecting.{first_none, first_some}
use Rattle.ac_unfold_table.proofs.relations.reordered.Goals as goal

pub returns-in-Ok-clause-value : goal.returns-in-Ok-clause-value
returns-in-Ok-clause-value c = first_some c.args.own.now c.args.conj.now c.as_slice-2.result.now c.as_slice.result.now c.in-Ok.rows (c.as_slice-2.ensures.value ∙ c.in_ok-places.ensures) c.as_slice.ensures c.in-Ok.ensures.exact

pub returns-in-Err-Wide-clause-value : goal.returns-in-Err-Wide-clause-value
returns-in-Err-Wide-clause-value c = first_none c.args.own.now c.args.conj.now c.as_slice-2.result.now c.as_slice.result.now (c.as_slice-2.ensures.value ∙ c.in_ok-places.ensures) c.as_slice.ensures (subst (λ (s : FormStop). IfWide s (¬ (CanRenameAll c.as_slice-2.result.now c.as_slice.result.now))) c.in-Err-Wide.field-0-is c.in-Err-Wide.ensures.exact)
