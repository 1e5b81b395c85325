-- What the flow of a lowered program says of its executions.
use Rattle.std.proofs.Common.{◌≡◌, inl, inr, ℤ, List, [], ◌∷◌, None, refl, sym, subst}
use Rattle.ac_forms.specs.Rows.{Meets}
use Rattle.ac_syntax.specs.Algebra.{Cell}
use Rattle.ac_syntax.specs.Trace.{Entry}
use Rattle.ac_syntax.specs.declared.tree.Position.{Position}
use Rattle.ac_poly.specs.Model.{PiecesAreApart}
use Rattle.ac_poly.proofs.PiecesApart.{pieces_are_apart}
use Rattle.ac_poly.specs.declared.types.Model.{Model}
use Rattle.ac_claims_paths.specs.Executions.{Execution, Describes, execution}
use Rattle.ac_forms.specs.ListMembers.{IsAmong}
use Rattle.ac_claims_paths.proofs.Described.{models_describe}
use Rattle.ac_flow.specs.FlowCases.{Reads, CanRead}
use Rattle.ac_flow.specs.Flows.{CaseIsTheSource, HasCase, HasOneCase, CasesAreSources}
use Rattle.ac_flow.specs.Readers.{readers, IsFlowOf, AreFlows, IsOver}
use Rattle.ac_flow.specs.Sources.{IsReading}
use Rattle.ac_flow.specs.Writings.{writings}
use Rattle.ac_flow.specs.declared.types.Case.{Case}
use Rattle.ac_flow.specs.declared.types.Flow.{Flow}
use Rattle.ac_flow.specs.declared.types.ReadFlow.{ReadFlow}
use Rattle.ac_flow.proofs.Exact.{ReadHere, cases_exact, has_case}
use Rattle.ac_flow.proofs.Linking.{IsReader, OfNode, OfOutput, is_reader, at_reader}
use Rattle.ac_flow.proofs.OneCase.{one_case}
use Rattle.ac_flow.proofs.Overs.{can_read, can_read_elements}

-- the reader of a flow
flow_of : (m : Model) (rs : List Reads) (fs : List ReadFlow) → AreFlows m rs fs → (f : ReadFlow) → IsAmong f fs → (r : Reads) × IsAmong r rs × IsFlowOf m r f
flow_of m [] [] h f k = absurd k
flow_of m [] (g ∷ fs) h f k = absurd h
flow_of m (r ∷ rs) [] h f k = absurd h
flow_of m (r ∷ rs) (g ∷ fs) h f (inl e) = (r, inl refl, subst (IsFlowOf m r) (sym e) h.0)
flow_of m (r ∷ rs) (g ∷ fs) h f (inr k) = let z = flow_of m rs fs h.1 f k in (z.0, inr z.1, z.2)

pub reader_can : (m : Model) → IsOver m → (r : Reads) → IsReader m r → CanRead m r
reader_can m h r (OfNode s k stmt array subs is e) = can_read m _ s stmt h is refl refl
reader_can m h r (OfOutput o extents is) = can_read_elements m _ o extents h is refl refl

at_reading : (m : Model) (params : List ℤ) (x : Execution) → Describes m params x → PiecesAreApart m → Meets m.context params → IsOver m → (f : Flow) → AreFlows m (readers m) f.reads → (read : ReadFlow) (at : List ℤ) (cell : Cell) (before : List Entry) → IsAmong read f.reads → IsReading x read.position at cell before
    → ((case : Case) → IsAmong case read.cases → CaseIsTheSource m params x read.position at cell before case) × HasCase m params at read.cases × HasOneCase m params at read.cases
at_reading m params x d apart c over f h read at cell before k r =
    let z = flow_of m (readers m) f.reads h read k in
    let q = z.0 in
    let is = is_reader m q z.1 in
    let p : read.position ≡ q.position = z.2.0 in
    let here : ReadHere m params x q at cell before = at_reader m params x d c q is at cell before (subst (λ (y : Position). IsReading x y at cell before) p r) in
    let can = reader_can m over q is in (
      (λ case i. subst (λ (y : Position). CaseIsTheSource m params x y at cell before case) (sym p) (cases_exact m params x q at cell before here can (writings m q.position q.array None) read.cases z.2.1 case i)),
      has_case m params x q at cell before here can read.cases z.2.1,
      (λ case other u v first second ys zs i j su sv iu iv ly lz l n.
          let exact : (e : Case) → IsAmong e read.cases → CaseIsTheSource m params x q.position at cell before e = cases_exact m params x q at cell before here can (writings m q.position q.array None) read.cases z.2.1 in
          let a = ((exact case i).assigned u first ys su iu ly).0 l in
          let b = ((exact other j).assigned v second zs sv iv lz).0 n in
          one_case m params x d apart q.position at ys zs cell before u v first second case other iu iv ly lz a.0 b.0 a.1 b.1),
    )

pub flow_sources : (m : Model) (f : Flow) → IsOver m → AreFlows m (readers m) f.reads → CasesAreSources m f
flow_sources m f over h p context params ready fit is long c read at cell before k r =
    at_reading m params (execution p m params) (subst (λ (n : Model). Describes n params (execution p n params)) (sym is) (models_describe p context params ready fit long)) (subst PiecesAreApart (sym is) (pieces_are_apart p context)) c over f h read at cell before k r
