use Rattle.std.proofs.Common.{◌≡◌, take}
use Rattle.ac_report.specs.FlowTexts.{pieces_of}
use Rattle.ac_report.proofs.flows.pieces_of.Given as goal

abbrev pub invariant-loop-case : goal.invariant-loop-case
invariant-loop-case l = l.made ≡ pieces_of l.source (take l.case-index l.cases)
