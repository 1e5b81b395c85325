-- No question stops the flow of a program of differences, or its context.
use Rattle.std.proofs.Common.{ℕ, ◌≤◌, length, refl}
use Rattle.ac_syntax.specs.Dimensions.{HasDimensions}
use Rattle.ac_syntax.specs.ReadyPrograms.{ReadyProgram, FitParts}
use Rattle.ac_syntax.specs.declared.tree.Cond.{Cond}
use Rattle.ac_syntax.specs.declared.tree.Program.{Program}
use Rattle.ac_poly.specs.Model.{model_of}
use Rattle.ac_poly.proofs.Dimensions.{cells_have_dimensions}
use Rattle.ac_flow.specs.Contexts.{ContextStops}
use Rattle.ac_flow.specs.Readers.{IsLowered, StopsAmong, readers}
use Rattle.ac_flow.specs.declared.types.ContextStop.{ContextStop}
use Rattle.ac_flow.specs.declared.types.FlowStop.{FlowStop}
use Rattle.ac_flow_budget.specs.Models.{StopsByNoQuestion, IsAnswered}
use Rattle.ac_flow_budget.specs.DifferencePrograms.{IsOfDifferences}
use Rattle.ac_flow_budget.proofs.Bodies.{program-differs}
use Rattle.ac_flow_budget.proofs.Stopping.{flow-answered, context-answered}

lowered : (p : Program) (context : Cond) → ReadyProgram p → FitParts (length p.params) 0 context.parts → IsLowered (model_of p context)
lowered p context r f = record { program = p; context = context; ready = r; fit = f; is = refl }

pub program-flow : (p : Program) (context : Cond) (budget : ℕ) (e : FlowStop) → ReadyProgram p → FitParts (length p.params) 0 context.parts → HasDimensions p → IsOfDifferences p context → 24334 ≤ budget → StopsAmong budget (model_of p context) (readers (model_of p context)) e → StopsByNoQuestion e
program-flow p context budget e r f dims d enough s = flow-answered budget (model_of p context) e (lowered p context r f) (cells_have_dimensions p context dims) (program-differs p context d) enough s

pub program-context : (p : Program) (context : Cond) (budget : ℕ) (e : ContextStop) → ReadyProgram p → FitParts (length p.params) 0 context.parts → IsOfDifferences p context → 24334 ≤ budget → ContextStops budget (model_of p context) e → IsAnswered e
program-context p context budget e r f d enough s = context-answered budget (model_of p context) e (lowered p context r f) (program-differs p context d) enough s
