use Rattle.std.proofs.Common.{sym, subst}
use Rattle.std.proofs.lemmas.Result.{IfOk-weaker}
use Rattle.ac_top.specs.ProgramAnswers.{ChainReports, pair_not_lowered, pair_lowered}
use Rattle.ac_top.specs.RunStages.{written, IsLoweringOf}
use Rattle.ac_top.proofs.Arities.{read_arities}
use Rattle.ac_top.proofs.aprove.report_chains.Goals as goal

pub returns-in-Refused : goal.returns-in-Refused
returns-in-Refused c =
    let left = c.args.left.now in
    let right = c.args.right.now in
    let why = subst (IsLoweringOf left.name.now right.name.now left.bytes.now right.bytes.now c.args.pair.now) c.in-Refused.is c.in_ok-line.ensures in
    subst (ChainReports left.name.now right.name.now left.bytes.now right.bytes.now c.args.symbols.now) (sym c.refused.ensures) (pair_not_lowered c.args.pair.now c.in-Refused.line.items c.requires.are c.requires.fault why)

pub returns : goal.returns
returns c =
    let left = c.args.left.now in
    let right = c.args.right.now in
    let made = subst (IsLoweringOf left.name.now right.name.now left.bytes.now right.bytes.now c.args.pair.now) c.in-Models.is c.in_ok-line.ensures in
    IfOk-weaker c.report_regrouped.result _ _ (λ r found. pair_lowered c.args.pair.now (written r) c.requires.are c.requires.fault made.0 found) c.report_regrouped.ensures

pub report_regrouped-requires-clause-arities : goal.report_regrouped-requires-clause-arities
report_regrouped-requires-clause-arities c = read_arities c.args.left.now.bytes.now c.args.right.now.bytes.now c.args.pair.now c.requires.are

pub report_regrouped-requires-clause-lowered : goal.report_regrouped-requires-clause-lowered
report_regrouped-requires-clause-lowered c =
    let left = c.args.left.now in
    let right = c.args.right.now in
    let made = subst (IsLoweringOf left.name.now right.name.now left.bytes.now right.bytes.now c.args.pair.now) c.in-Models.is c.in_ok-line.ensures in
    made.0
