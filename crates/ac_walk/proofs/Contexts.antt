-- What the models of a pair are, and what an empty context says.
use Rattle.std.proofs.Common.{◌≡◌, ℕ, ℤ, List, sym, subst}
use Rattle.ac_syntax.specs.Outputs.{IsValuation}
use Rattle.ac_syntax.specs.ReadyPrograms.{FitParts}
use Rattle.ac_syntax.specs.declared.tree.Pair.{Pair}
use Rattle.ac_poly.specs.Model.{model_of}
use Rattle.ac_poly.specs.declared.types.Model.{Model}
use Rattle.ac_poly.proofs.Whole.{has_context}
use Rattle.ac_flow.specs.Contexts.{ContextStops}
use Rattle.ac_flow.specs.Readers.{IsLowered}
use Rattle.ac_flow.specs.declared.types.ContextStop.TheVariants.{EmptyContext}
use Rattle.ac_claims.specs.Soundness.{ArePaired, AreModels}
use Rattle.ac_walk.specs.UnknownCauses.{left_model}

pub left_lowered : (pair : Pair) (m : Model) → ArePaired pair → m ≡ model_of pair.left pair.context → IsLowered m
left_lowered pair m t e = record { program = pair.left; context = pair.context; ready = t.left; fit = t.context; is = e }

pub right_lowered : (pair : Pair) (m : Model) → ArePaired pair → m ≡ model_of pair.right pair.context → IsLowered m
right_lowered pair m t e = record { program = pair.right; context = pair.context; ready = t.right; fit = subst (λ n. FitParts n 0 pair.context.parts) (sym t.params) t.context; is = e }

pub are_models : (pair : Pair) (left right : Model) → left ≡ model_of pair.left pair.context → right ≡ model_of pair.right pair.context → AreModels pair left right
are_models pair left right a b = record { left_is = a; right_is = b }

-- an empty context has no valuation
pub no_valuation : (budget : ℕ) (pair : Pair) → ArePaired pair → ContextStops budget (left_model pair) EmptyContext → (params : List ℤ) → ¬ (IsValuation pair params)
no_valuation budget pair t stops params v = stops.1 params v.each ((has_context pair.left pair.context t.context params v.each).1 v.context)
