use Rattle.std.proofs.Common.{sym, ap, subst}
use Rattle.std.proofs.lemmas.Result.{IfOk-weaker}
use Rattle.ac_claims.specs.Soundness as judge
use Rattle.ac_syntax.specs.ExecutedCalls.{HaveArities}
use Rattle.ac_syntax.specs.declared.tree.Pair.{Pair}
use Rattle.ac_top.specs.ArrangementReports.{IsApart}
use Rattle.ac_top.specs.ProgramAnswers.{AreLowered}
use Rattle.ac_top.proofs.ArrangedPairs.{asked_paired, found_in, one_has_arities, one_lowered, one_paired}
use Rattle.ac_top.proofs.arrangements.try_arrangement.Goals as goal

pub is_refuted-requires : goal.is_refuted-requires
is_refuted-requires c =
    let asked = c.args.asked.now in
    subst judge.ArePaired (sym c.in_ok-pair.ensures) (one_paired asked.symbols.now asked.pair.now c.args.output c.args.number (asked_paired asked c.requires.asked) c.requires.output)

pub returns-then-refuted : goal.returns-then-refuted
returns-then-refuted c =
    let output = c.args.output in
    subst (λ (p : Pair). IsApart p output) c.in_ok-pair.ensures (c.in_ok-refuted.ensures output (ap (λ (p : Pair). p.outputs) c.in_ok-pair.ensures) c.if-refuted.true)

pub find-requires-clause-paired : goal.find-requires-clause-paired
find-requires-clause-paired c =
    let asked = c.args.asked.now in
    subst judge.ArePaired (sym c.in_ok-pair.ensures) (one_paired asked.symbols.now asked.pair.now c.args.output c.args.number (asked_paired asked c.requires.asked) c.requires.output)

pub find-requires-clause-arities : goal.find-requires-clause-arities
find-requires-clause-arities c =
    let asked = c.args.asked.now in
    subst (λ (p : Pair). HaveArities p.left.body × HaveArities p.right.body) (sym c.in_ok-pair.ensures) (one_has_arities asked.symbols.now asked.pair.now c.args.output c.args.number c.requires.asked.arities)

pub find-requires-clause-lowered : goal.find-requires-clause-lowered
find-requires-clause-lowered c =
    let asked = c.args.asked.now in
    subst AreLowered (sym c.in_ok-pair.ensures) (one_lowered asked.symbols.now asked.pair.now c.args.output c.args.number (asked_paired asked c.requires.asked) c.requires.asked.lowered)

pub find-requires-clause-output : goal.find-requires-clause-output
find-requires-clause-output c = ap (λ (p : Pair). p.outputs) c.in_ok-pair.ensures

pub returns : goal.returns
returns c =
    let asked = c.args.asked.now in
    IfOk-weaker c.find.result _ _ (λ found h. found_in asked.symbols.now asked.pair.now c.args.output c.args.number c.in_ok-pair.pair found c.in_ok-pair.ensures h) c.find.ensures
