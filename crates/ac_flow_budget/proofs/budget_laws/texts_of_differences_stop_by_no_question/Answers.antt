use Rattle.std.proofs.Common.{subst, sym}
use Rattle.ac_syntax.specs.Dimensions.{HasDimensions}
use Rattle.ac_flow_budget.proofs.CellsUsed.{has_dimensions}
use Rattle.ac_parse.proofs.Composing.{ready}
use Rattle.ac_flow_budget.proofs.Answered.{program-flow, program-context}
use Rattle.ac_flow_budget.proofs.budget_laws.texts_of_differences_stop_by_no_question.Goals as goal

pub returns-clause-flow : goal.returns-clause-flow
returns-clause-flow c = λ e s.
    let p = c.args.program.now in
    let r = ready c.args.bytes.now p c.requires.text in
    let dims = subst HasDimensions (sym c.requires.text.is) (has_dimensions c.requires.text.file c.requires.text.rules) in
    program-flow p p.context c.args.budget e r r.context dims c.requires.differences c.requires.budget s

pub returns-clause-context : goal.returns-clause-context
returns-clause-context c = λ e s.
    let p = c.args.program.now in
    let r = ready c.args.bytes.now p c.requires.text in
    program-context p p.context c.args.budget e r r.context c.requires.differences c.requires.budget s
