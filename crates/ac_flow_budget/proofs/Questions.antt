-- The questions of a model of differences are small.
use Rattle.std.proofs.Common.{ℕ, ◌^◌, lit≤, Option, None, arith, refl}
use Rattle.ac_forms.specs.declared.conj.Conj.{Conj}
use Rattle.ac_poly.specs.Model.{CellsHaveDimensions}
use Rattle.ac_poly.specs.declared.types.Model.{Model}
use Rattle.ac_claims_paths.specs.declared.path.Seat.{Seat}
use Rattle.ac_flow.specs.FlowCases.{Reads, case_conj}
use Rattle.ac_flow.specs.Readers.{IsLowered}
use Rattle.ac_flow_budget.specs.Models.{HasDifferences}
use Rattle.ac_flow_budget.specs.FlowQuestions.{IsCase, Initial, OfWriting, IsQuestion, OfContext, OfCopy, OfCut, IsSmallQuestion}
use Rattle.ac_flow_budget.proofs.Made.{IsPlaced, Nowhere, AtRoot}
use Rattle.ac_flow_budget.proofs.Rows.{AreNarrow, narrow-more}
use Rattle.ac_flow_budget.proofs.Cutting.{cut-narrow}
use Rattle.ac_flow_budget.proofs.Stopping.{Setting, setting, made-for, copy-is, kills-narrow, base-narrow, context-narrow}

-- what is assumed in a case, and its rows
case-placed : (m : Model) (r : Reads) (source : Option Seat) (own : Conj) → IsCase m r source own → IsPlaced m r.count source
case-placed m r _ _ Initial = Nowhere
case-placed m r _ _ (OfWriting w stmt own i is formed) = AtRoot w.stmt stmt is

case-narrow : (budget : ℕ) (m : Model) (r : Reads) (source : Option Seat) (own : Conj) → Setting m r → IsCase m r source own → AreNarrow 22 (2 ^ 34) own.rows
case-narrow budget m r _ _ t Initial = record { over = tt; differences = tt }
case-narrow budget m r _ _ t (OfWriting w stmt own i is formed) =
    let k = copy-is m r None w own t.differences t.read Nowhere (made-for budget m r None w t Nowhere i) formed in
    narrow-more own.columns 22 (2 ^ 34) (2 ^ 34) own.rows k.few (omega arith) k.narrow

pub question-narrow : (budget : ℕ) (m : Model) (q : Conj) → IsLowered m → CellsHaveDimensions m → HasDifferences (2 ^ 33) m → IsQuestion budget m q → AreNarrow 22 (2 ^ 48) q.rows
question-narrow budget m _ l dims d OfContext = context-narrow m _ l d refl
question-narrow budget m _ l dims d (OfCopy r source own w q i c k e) =
    let t = setting m r l dims d i in
    let p = case-placed m r source own c in
    let n = copy-is m r source w q d t.read p (made-for budget m r source w t p k) e in
    narrow-more q.columns 22 (2 ^ 34) (2 ^ 48) q.rows n.few (lit≤ tt) n.narrow
question-narrow budget m _ l dims d (OfCut r source own piece kills q i c k f s) =
    let t = setting m r l dims d i in
    let p = case-placed m r source own c in
    cut-narrow kills (case_conj m own.columns own.rows piece) q (base-narrow budget m r own.columns own.rows piece t (case-narrow budget m r source own t c) k) (kills-narrow budget m r source kills t p f) s

pub small-question : (budget : ℕ) (m : Model) (q : Conj) → IsLowered m → CellsHaveDimensions m → HasDifferences (2 ^ 33) m → IsQuestion budget m q → IsSmallQuestion q
small-question budget m q l dims d a = let n = question-narrow budget m q l dims d a in record { over = n.over; differences = n.differences }
