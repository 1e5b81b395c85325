use Rattle.std.proofs.Common.{◌≡◌, List, Some, None, sym, true, false, ap, ◌∙◌}
use Rattle.std.proofs.lemmas.Result.{IfErr-weaker, IfOk-weaker}
use Rattle.std.specs.Prelude.{is_some}
use Rattle.ac_forms.specs.Renaming.{rows_renaming}
use Rattle.ac_forms.specs.declared.row.Row.{Row}
use Rattle.ac_unfold.specs.UnfoldQuestions.{kill_on}
use Rattle.ac_unfold.specs.PlanResults.{judge_of}
use Rattle.ac_unfold.specs.UnfoldStops.{HandsBack}
use Rattle.ac_unfold.proofs.Stopped.{hands_because, kill_rows_on}
use Rattle.ac_unfold.proofs.remaining.kill_rows.Goals as goal

pub returns-clause-there : goal.returns-clause-there
returns-clause-there c =
    let n = (judge_of c.args.search.now).params in
    let q = c.args.node.now.question in
    let kill = c.args.kill.now in
    IfOk-weaker c.over_columns.result (λ (made : List Row). Some made ≡ rows_renaming c.as_slice-2.result.now c.as_slice.result.now) (λ (made : List Row). kill_on n q kill ≡ Some made)
    (λ made e. kill_rows_on n c.params.result q kill c.in-Some.assumed c.in_ok-columns.columns c.as_slice-2.result.now c.as_slice.result.now (Some made) c.in-Some.is c.in_ok-columns.ensures c.params.ensures c.as_slice-2.ensures c.as_slice.ensures (sym e))
    c.over_columns.ensures.rows

pub returns-clause-causes : goal.returns-clause-causes
returns-clause-causes c =
    let n = (judge_of c.args.search.now).params in
    let q = c.args.node.now.question in
    let kill = c.args.kill.now in
    IfErr-weaker c.over_columns.result (HandsBack q.conj (rows_renaming c.as_slice-2.result.now c.as_slice.result.now ≡ None)) (HandsBack q.conj (kill_on n q kill ≡ None))
    (λ stop h. hands_because q.conj (rows_renaming c.as_slice-2.result.now c.as_slice.result.now ≡ None) (kill_on n q kill ≡ None) stop
    (λ e. kill_rows_on n c.params.result q kill c.in-Some.assumed c.in_ok-columns.columns c.as_slice-2.result.now c.as_slice.result.now None c.in-Some.is c.in_ok-columns.ensures c.params.ensures c.as_slice-2.ensures c.as_slice.ensures e) h)
    c.over_columns.ensures.causes

pub unreachable-requires : goal.unreachable-requires
unreachable-requires c = let z : false ≡ true = sym (ap is_some c.in_default.is) ∙ c.requires in absurd cc
