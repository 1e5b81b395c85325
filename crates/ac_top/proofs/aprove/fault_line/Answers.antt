use Rattle.std.proofs.Common.{Some, sym, ap, ◌∙◌}
use Rattle.std.proofs.lemmas.Result.{IfOk-weaker}
use Rattle.ac_top.specs.ArrangementLines as lines
use Rattle.ac_top.specs.ConsoleLines.{refusal_line}
use Rattle.ac_top.specs.InstanceReports.{of_side}
use Rattle.ac_top.proofs.aprove.fault_line.Goals as goal

pub returns-in-Arity : goal.returns-in-Arity
returns-in-Arity c =
    let left = c.args.left.now in
    let right = c.args.right.now in
    let said = refusal_line (of_side c.in-Arity.side left.name.now right.name.now) (of_side c.in-Arity.side left.bytes.now right.bytes.now) in
    IfOk-weaker c.side_line.result _ _
    (λ l e. ap (lines.fault_line left.name.now right.name.now left.bytes.now right.bytes.now) c.in-Arity.is ∙ ap Some (sym (e ∙ ap said c.about.ensures))) c.side_line.ensures

pub returns-in-Long : goal.returns-in-Long
returns-in-Long c =
    let left = c.args.left.now in
    let right = c.args.right.now in
    let said = refusal_line (of_side c.in-Long.side left.name.now right.name.now) (of_side c.in-Long.side left.bytes.now right.bytes.now) in
    IfOk-weaker c.side_line-in-Long.result _ _
    (λ l e. ap (lines.fault_line left.name.now right.name.now left.bytes.now right.bytes.now) c.in-Long.is ∙ ap Some (sym (e ∙ ap said c.about-in-Long.ensures))) c.side_line-in-Long.ensures
