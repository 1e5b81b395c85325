use Rattle.std.proofs.Common.{◌+◌, refl, sym, take, drop}
use Rattle.std.proofs.lemmas.List.{take-append-drop}
use Rattle.ac_unfold.specs.PlanResults.{judge_of}
use Rattle.ac_unfold.specs.BrokenPathResults.{IsNone}
use Rattle.ac_unfold.proofs.Adding.{adds_none, beside_all, beside_more}
use Rattle.ac_unfold.proofs.Results.{next_item}
use Rattle.ac_unfold.proofs.further.further_parts.Goals as goal

pub loop-part-init : goal.loop-part-init
loop-part-init c = adds_none _ _ _ _ refl

pub loop-part-preserved : goal.loop-part-preserved
loop-part-preserved c =
    let ps = c.args.outside.now in
    let i = c.loop-part.part-index in
    beside_more IsNone (judge_of c.args.search.now).params c.args.node.now.pair_path c.args.node.now.question.conj (take i ps) (take (i + 1) ps) c.part-item.result _ _ _ (next_item ps i c.part-item.result c.loop-part-test.true c.part-item.is) c.loop-part.invariant c.in_ok-further_part.ensures

pub returns-then-branch : goal.returns-then-branch
returns-then-branch c =
    let ps = c.args.outside.now in
    let i = c.loop-part.part-index in
    let n = (judge_of c.args.search.now).params in
    beside_all IsNone n c.args.node.now.pair_path c.args.node.now.question.conj (take (i + 1) ps) ps (drop (i + 1) ps) _ _ (sym (take-append-drop (i + 1) ps))
    (beside_more IsNone n c.args.node.now.pair_path c.args.node.now.question.conj (take i ps) (take (i + 1) ps) c.part-item.result _ _ _ (next_item ps i c.part-item.result c.loop-part-test.true c.part-item.is) c.loop-part.invariant c.in_ok-further_part.ensures)

pub returns : goal.returns
returns c =
    let ps = c.args.outside.now in
    let i = c.loop-part.part-index in
    beside_all IsNone (judge_of c.args.search.now).params c.args.node.now.pair_path c.args.node.now.question.conj (take i ps) ps (drop i ps) _ _ (sym (take-append-drop i ps)) c.loop-part.invariant
