use Rattle.std.proofs.Common.{sym, subst}
use Rattle.ac_top.specs.ProgramAnswers.{SourceReports, refused, unpaired}
use Rattle.ac_top.specs.RunStages.{IsPairingOf}
use Rattle.ac_top.proofs.Reading.{no_reads}
use Rattle.ac_top.proofs.report.report_sources.Goals as goal

pub report_lowered-requires : goal.report_lowered-requires
report_lowered-requires g c =
    let left = c.args.left.now in
    let right = c.args.right.now in
    let are = subst (IsPairingOf left.name.now right.name.now left.bytes.now right.bytes.now) c.in-Together.is c.in_ok-pair.ensures in
    record { are = are.0; pair = are.1; within = c.requires.within }

pub returns-in-Refused-clause-report : goal.returns-in-Refused-clause-report
returns-in-Refused-clause-report g c =
    let left = c.args.left.now in
    let right = c.args.right.now in
    let why = subst (IsPairingOf left.name.now right.name.now left.bytes.now right.bytes.now) c.in-Refused.is c.in_ok-pair.ensures in
    subst (SourceReports left.name.now right.name.now left.bytes.now right.bytes.now _ _)
    (sym c.refused.ensures) (refused c.in-Refused.text.items (no_reads (g.F.Files.transcript c.args.files.now)) (unpaired c.in-Refused.text.items why))
