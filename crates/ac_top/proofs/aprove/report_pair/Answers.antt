use Rattle.std.proofs.Common.{sym, subst, ◌∙◌}
use Rattle.ac_top.specs.ProgramAnswers.{ChainReports, chain_fault}
use Rattle.ac_top.proofs.ArrangedPairs.{fault_is}
use Rattle.ac_top.proofs.aprove.report_pair.Goals as goal

pub report_chains-requires-clause-fault : goal.report_chains-requires-clause-fault
report_chains-requires-clause-fault c = c.in-Ok.ensures.0

pub report_chains-requires-clause-chains : goal.report_chains-requires-clause-chains
report_chains-requires-clause-chains c = c.as_slice.ensures ∙ c.in-Ok.ensures.1

pub returns-in_ok-fault_line-in-Err : goal.returns-in_ok-fault_line-in-Err
returns-in_ok-fault_line-in-Err c =
    let left = c.args.left.now in
    let right = c.args.right.now in
    let text = c.in_ok-fault_line-in-Err.field-0.items in
    let said = c.in_ok-fault_line-in-Err.ensures in
    let is = fault_is c.args.symbols.now c.args.pair.now left.name.now right.name.now left.bytes.now right.bytes.now c.in-Err.fault text c.in-Err.ensures said in
    subst (ChainReports left.name.now right.name.now left.bytes.now right.bytes.now c.args.symbols.now) (sym c.refused.ensures) (chain_fault c.args.pair.now c.in-Err.fault text c.requires.are is said)
