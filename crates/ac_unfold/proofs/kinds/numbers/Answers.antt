use Rattle.std.proofs.Common.{◌∷◌, [], Some, refl, sym, ◌∙◌}
use Rattle.ac_unfold.specs.PlanResults.{judge_of}
use Rattle.ac_unfold.specs.UnfoldStops.{HandsTargets}
use Rattle.ac_unfold.proofs.Matching.{forms_same, number_ends}
use Rattle.ac_unfold.proofs.Stopped.{hands_targets, if_err, number_targets}
use Rattle.ac_unfold.proofs.Unmatched.{number_kind}
use Rattle.ac_unfold.proofs.kinds.numbers.Goals as goal

pub returns-clause-next : goal.returns-clause-next
returns-clause-next c =
    let q = c.args.node.now.question in
    number_ends c.args.search.now q c.args.form.now c.args.other.now c.in_ok-rows_or.field-0 c.requires.left c.requires.right
    (sym c.in_ok-rows_or.ensures.rows ∙ c.in_ok-rows.ensures.value ∙ forms_same q c.params.result (judge_of c.args.search.now).params (c.args.form.now ∷ []) (c.args.other.now ∷ []) (c.args.form.now ∷ []) (c.args.other.now ∷ []) c.params.ensures refl refl)

pub returns-clause-kind : goal.returns-clause-kind
returns-clause-kind c =
    let q = c.args.node.now.question in
    number_kind c.args.search.now q c.args.form.now c.args.other.now c.in_ok-rows_or.field-0 c.requires.left c.requires.right
    (sym c.in_ok-rows_or.ensures.rows ∙ c.in_ok-rows.ensures.value ∙ forms_same q c.params.result (judge_of c.args.search.now).params (c.args.form.now ∷ []) (c.args.other.now ∷ []) (c.args.form.now ∷ []) (c.args.other.now ∷ []) c.params.ensures refl refl)

pub returns-in_err-rows_or-clause-causes : goal.returns-in_err-rows_or-clause-causes
returns-in_err-rows_or-clause-causes c =
    let s = c.args.search.now in
    let q = c.args.node.now.question in
    let stop = c.in_err-rows_or.field-0.0 in
    if_err (HandsTargets s q) c.from_residual-in_err-rows_or.result stop c.from_residual-in_err-rows_or.ensures.1
    (hands_targets s q c.in_ok-rows.rows stop
    (number_targets s q c.args.form.now c.args.other.now c.in_ok-rows.rows c.requires.left c.requires.right
    (c.in_ok-rows.ensures.value ∙ forms_same q c.params.result (judge_of s).params (c.args.form.now ∷ []) (c.args.other.now ∷ []) (c.args.form.now ∷ []) (c.args.other.now ∷ []) c.params.ensures refl refl)) c.in_err-rows_or.ensures.causes)

pub returns-clause-targets : goal.returns-clause-targets
returns-clause-targets c =
    let q = c.args.node.now.question in
    number_targets c.args.search.now q c.args.form.now c.args.other.now (Some c.in_ok-rows_or.field-0) c.requires.left c.requires.right
    (sym c.in_ok-rows_or.ensures.rows ∙ c.in_ok-rows.ensures.value ∙ forms_same q c.params.result (judge_of c.args.search.now).params (c.args.form.now ∷ []) (c.args.other.now ∷ []) (c.args.form.now ∷ []) (c.args.other.now ∷ []) c.params.ensures refl refl)
