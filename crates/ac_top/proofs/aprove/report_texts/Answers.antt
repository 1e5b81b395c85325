use Rattle.std.proofs.Common.{sym, subst}
use Rattle.ac_top.specs.ProgramAnswers.{ChainReports, texts_unpaired}
use Rattle.ac_top.specs.RunStages.{IsPairingOf}
use Rattle.ac_top.proofs.aprove.report_texts.Goals as goal

pub report_pair-requires : goal.report_pair-requires
report_pair-requires c =
    let left = c.args.left.now in
    let right = c.args.right.now in
    let are = subst (IsPairingOf left.name.now right.name.now left.bytes.now right.bytes.now) c.in-Together.is c.in_ok-pair.ensures in
    record { are = are.0; pair = are.1 }

pub returns-in-Refused : goal.returns-in-Refused
returns-in-Refused c =
    let left = c.args.left.now in
    let right = c.args.right.now in
    let why = subst (IsPairingOf left.name.now right.name.now left.bytes.now right.bytes.now) c.in-Refused.is c.in_ok-pair.ensures in
    subst (ChainReports left.name.now right.name.now left.bytes.now right.bytes.now c.args.symbols.now) (sym c.refused.ensures) (texts_unpaired c.in-Refused.text.items why)
