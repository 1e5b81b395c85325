-- The laws on pairs of positions at points: where both stand, to which pairs they step, and when they are a mismatch.
use Rattle.std.specs.Prelude.{◌≡◌, ◌++◌, List, length, ℤ, true, false, Some, is_some}
use Rattle.ac_forms.specs.Rows.{Meets}
use Rattle.ac_syntax.specs.declared.tree.Order.{Order}
use Rattle.ac_syntax.specs.declared.tree.Pair.{Pair}
use Rattle.ac_syntax.specs.declared.tree.Position.{Position}
use Rattle.ac_poly.specs.declared.types.Model.{Model}
use Rattle.ac_claims.specs.Soundness.{ArePaired, AreModels}
use Rattle.ac_claims_paths.specs.ModelPositions.{CallAt, call_at, cell_read}
use Rattle.ac_flow.specs.Flows.{CasesAreSources}
use Rattle.ac_flow.specs.declared.types.Flow.{Flow}
use Rattle.ac_graph.specs.PairMoves.{pairing_of}
use Rattle.ac_widen_programs.specs.PairSetting.{IsMismatchPair, IsStepPair, order_at}
use Rattle.ac_widen_programs.specs.PairPoints.{AreSeen}
use Rattle.ac_widen_programs.specs.PairMismatches.{NotCalls, NotNumbers, NotOneInput}
use Rattle.ac_widen_programs.specs.FlowTargets.{LeadsTo}
use Rattle.ac_widen_programs.specs.ArgumentPairs.{IsMet}
use Rattle.ac_widen_programs.specs.PositionInstances.{IsHere}

-- positions that stand at coordinates by the models, at a valuation that meets the context, stand there
abbrev pub PositionsStand : Type 0
PositionsStand =
    (pair : Pair) (left right : Model) → ArePaired pair → AreModels pair left right → (params : List ℤ) → length params ≡ left.params → Meets left.context params
    → (P : Position) (at : List ℤ) (Q : Position) (bt : List ℤ) → IsHere left params P at → IsHere right params Q bt → AreSeen pair params P at Q bt

-- a pair with a read or an output on the left steps where the flow of the left program leads
abbrev pub LeftReadsStep : Type 0
LeftReadsStep =
    (pair : Pair) (left right : Model) (f : Flow) → ArePaired pair → AreModels pair left right → CasesAreSources left f
    → (params : List ℤ) (P : Position) (at : List ℤ) (Q : Position) (bt : List ℤ) → AreSeen pair params P at Q bt → is_some (cell_read left P) ≡ true
    → (to : Position) (to_at : List ℤ) → LeadsTo left f params P at to to_at → (order : Order) → IsStepPair pair order (P, Q) (params ++ (at ++ bt)) (to, Q) (params ++ (to_at ++ bt))

-- one with a read or an output on the right alone, where that of the right program leads
abbrev pub RightReadsStep : Type 0
RightReadsStep =
    (pair : Pair) (left right : Model) (f : Flow) → ArePaired pair → AreModels pair left right → CasesAreSources right f
    → (params : List ℤ) (P : Position) (at : List ℤ) (Q : Position) (bt : List ℤ) → AreSeen pair params P at Q bt → is_some (cell_read left P) ≡ false → is_some (cell_read right Q) ≡ true
    → (to : Position) (to_at : List ℤ) → LeadsTo right f params Q bt to to_at → (order : Order) → IsStepPair pair order (P, Q) (params ++ (at ++ bt)) (P, to) (params ++ (at ++ to_at))

-- two calls of one symbol step to the arguments that meet in the order at the calls, at the same point
abbrev pub CallsStep : Type 0
CallsStep =
    (pair : Pair) (left right : Model) → AreModels pair left right → (params : List ℤ) (P : Position) (at : List ℤ) (Q : Position) (bt : List ℤ) → AreSeen pair params P at Q bt
    → (P' Q' : Position) → AreSeen pair params P' at Q' bt → (c d : CallAt) → call_at left P ≡ Some c → call_at right Q ≡ Some d → c.symbol ≡ d.symbol
    → (order : Order) → IsMet (pairing_of pair).swaps (order_at pair (P, Q) order) c d P' Q' → IsStepPair pair order (P, Q) (params ++ (at ++ bt)) (P', Q') (params ++ (at ++ bt))

-- two positions without a read or an output that are no calls of one symbol, no numbers of equal value and not one cell of an input are a
-- mismatch
abbrev pub EndsMismatch : Type 0
EndsMismatch =
    (pair : Pair) (left right : Model) → AreModels pair left right → (params : List ℤ) (P : Position) (at : List ℤ) (Q : Position) (bt : List ℤ) → AreSeen pair params P at Q bt
    → is_some (cell_read left P) ≡ false → is_some (cell_read right Q) ≡ false → NotCalls left right P Q → NotNumbers left right P Q (params ++ at) (params ++ bt)
    → NotOneInput pair.left.arrays left right P Q (params ++ at) (params ++ bt) → IsMismatchPair pair (P, Q) (params ++ (at ++ bt))
