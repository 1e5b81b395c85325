use Rattle.std.proofs.Common.{◌≡◌, None, sym}
use Rattle.ac_forms.specs.Renaming.{rows_renaming}
use Rattle.ac_claims_paths.proofs.Moduli.{rows_none}
use Rattle.ac_unfold.proofs.Stopped.{hands_because}
use Rattle.ac_unfold.proofs.remaining.over_columns.Goals as goal

pub returns-in-Err-Wide-clause-causes : goal.returns-in-Err-Wide-clause-causes
returns-in-Err-Wide-clause-causes c =
    hands_because c.args.node.now.question.conj (Unit {0}) (rows_renaming c.args.columns.now c.args.rows.now ≡ None) c.too_wide.result
    (λ _. sym (rows_none c.args.columns.now c.args.rows.now (rw c.in-Err-Wide.field-0-is at c.in-Err-Wide.ensures.exact))) c.too_wide.ensures
