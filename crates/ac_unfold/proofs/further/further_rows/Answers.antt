use Rattle.std.proofs.Common.{◌+◌, refl, sym, take, drop}
use Rattle.std.proofs.lemmas.List.{take-append-drop}
use Rattle.ac_unfold.specs.PlanResults.{judge_of}
use Rattle.ac_unfold.specs.BrokenPathResults.{IsNone}
use Rattle.ac_unfold.proofs.Adding.{adds_none}
use Rattle.ac_unfold.proofs.Failing.{breaking_all, breaking_more}
use Rattle.ac_unfold.proofs.Results.{next_item}
use Rattle.ac_unfold.proofs.further.further_rows.Goals as goal

pub loop-row-init : goal.loop-row-init
loop-row-init c = adds_none _ _ _ _ refl

pub loop-row-preserved : goal.loop-row-preserved
loop-row-preserved c =
    let rows = c.args.rows.now in
    let i = c.loop-row.row-index in
    breaking_more IsNone (judge_of c.args.search.now).params c.args.node.now.pair_path c.args.node.now.pair_path c.args.node.now.question.conj c.args.node.now.question.conj (take i rows) (take (i + 1) rows) c.row-item.result _ _ _ refl refl
    (next_item rows i c.row-item.result c.loop-row-test.true c.row-item.is) c.loop-row.invariant c.in_ok-further_row.ensures

pub returns : goal.returns
returns c =
    let rows = c.args.rows.now in
    let i = c.loop-row.row-index in
    breaking_all IsNone (judge_of c.args.search.now).params c.args.node.now.pair_path c.args.node.now.question.conj (take i rows) rows (drop i rows) _ _ (sym (take-append-drop i rows)) c.loop-row.invariant
