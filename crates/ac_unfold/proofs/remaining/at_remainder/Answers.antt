use Rattle.std.proofs.Common.{◌≡◌, ◌-◌, ℕ, List, Some, None, length, ap, sym, ◌∙◌, true, false}
use Rattle.std.specs.Prelude.{is_some}
use Rattle.ac_forms.specs.Renaming.{rows_renaming}
use Rattle.ac_forms.specs.declared.row.Row.{Row}
use Rattle.ac_claims_paths.specs.PathSteps.{at_rows, extended}
use Rattle.ac_claims_paths.specs.CopyKills.{case_columns}
use Rattle.ac_widen_programs.specs.PairPathSteps.{at_rest}
use Rattle.ac_unfold.specs.PlanResults.{judge_of}
use Rattle.ac_unfold.specs.UnfoldStops.{HandsBack}
use Rattle.ac_unfold.proofs.Coming.{rest_is}
use Rattle.ac_unfold.proofs.Stopped.{hands_because, if_err, rest_none}
use Rattle.ac_unfold.proofs.remaining.at_remainder.Goals as goal

pub returns-clause-question : goal.returns-clause-question
returns-clause-question c =
    let q = c.args.node.now.question in
    let rest = c.args.rest.now in
    let a = c.in-Some.assumed in
    let own = c.in_ok-columns.columns in
    let more = c.saturating_sub-further.result in
    let many : more ≡ rest.columns - length own = c.saturating_sub-further.ensures ∙ ap (λ (k : ℕ). rest.columns - k) c.len.ensures in
    let renamed : Some c.in_ok-rows.rows ≡ rows_renaming c.push_range.new.list rest.rows =
    c.in_ok-rows.ensures.rows ∙ ap (λ ks. rows_renaming ks c.as_slice.result.now) c.as_slice-2.ensures ∙ ap (rows_renaming c.push_range.new.list) c.as_slice.ensures in
    rest_is (judge_of c.args.search.now).params q rest a c.in_ok-beside.field-0.question own c.push_range.new.list more c.in_ok-rows.rows c.in-Some.is (c.in_ok-columns.ensures ∙ ap (λ (k : ℕ). case_columns k a) c.params.ensures) many c.in_ok-push_range.ensures
    renamed (c.in_ok-beside.ensures.question ∙ ap (λ (xs : List Row). at_rows q (extended q.conj more xs)) c.as_slice-3.ensures)

pub returns-in_err-rows-clause-causes : goal.returns-in_err-rows-clause-causes
returns-in_err-rows-clause-causes c =
    let n = (judge_of c.args.search.now).params in
    let q = c.args.node.now.question in
    let rest = c.args.rest.now in
    let a = c.in-Some.assumed in
    let own = c.in_ok-columns.columns in
    let more = c.saturating_sub-further.result in
    let stop = c.in_err-rows.field-0.0 in
    let many : more ≡ rest.columns - length own = c.saturating_sub-further.ensures ∙ ap (λ (k : ℕ). rest.columns - k) c.len.ensures in
    let same : rows_renaming c.as_slice-2.result.now c.as_slice.result.now ≡ rows_renaming c.push_range.new.list rest.rows =
    ap (λ ks. rows_renaming ks c.as_slice.result.now) c.as_slice-2.ensures ∙ ap (rows_renaming c.push_range.new.list) c.as_slice.ensures in
    if_err (HandsBack q.conj (at_rest n q rest ≡ None)) c.from_residual-in_err-rows.result stop c.from_residual-in_err-rows.ensures.1
    (hands_because q.conj (rows_renaming c.as_slice-2.result.now c.as_slice.result.now ≡ None) (at_rest n q rest ≡ None) stop
    (λ e. rest_none n q rest a own c.push_range.new.list more c.in-Some.is (c.in_ok-columns.ensures ∙ ap (λ (k : ℕ). case_columns k a) c.params.ensures) many c.in_ok-push_range.ensures (sym same ∙ e)) c.in_err-rows.ensures.causes)

pub unreachable-requires : goal.unreachable-requires
unreachable-requires c = let z : false ≡ true = sym (ap is_some c.in_default.is) ∙ c.requires in absurd cc
