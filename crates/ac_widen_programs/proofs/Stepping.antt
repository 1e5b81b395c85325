-- Pairs that step.
use Rattle.std.proofs.Common.{◌≡◌, inl, inr, ℕ, ◌++◌, ℤ, List, map, length, Bool, true, false, cond, Option, Some, None, refl, sym, ap, ◌∙◌, subst}
use Rattle.std.specs.Prelude.{is_some, slice_get, option_map, option_and_then}
use Rattle.std.proofs.lemmas.Option.{slice_get-map}
use Rattle.ac_forms.specs.Rows.{Meets}
use Rattle.ac_syntax.specs.ReadyPrograms.{FitParts}
use Rattle.ac_syntax.specs.declared.tree.Order.{Order}
use Rattle.ac_syntax.specs.declared.tree.Order.TheVariants.{Keep}
use Rattle.ac_syntax.specs.declared.tree.Pair.{Pair}
use Rattle.ac_syntax.specs.declared.tree.Position.{Position}
use Rattle.ac_syntax.specs.declared.tree.Position.TheVariants.{Output, Node, InitialOutput, InitialNode}
use Rattle.ac_syntax.specs.declared.tree.Symbol.{Symbol}
use Rattle.ac_poly.specs.Model.{model_of}
use Rattle.ac_poly.specs.declared.types.Model.{Model}
use Rattle.ac_poly.specs.declared.types.NodeModel.{NodeModel}
use Rattle.ac_poly.specs.declared.types.NodeModel.TheVariants as node
use Rattle.ac_poly.proofs.Whole.{has_context}
use Rattle.ac_base.proofs.Options.{bind-some, map-some}
use Rattle.ac_claims.specs.Soundness.{ArePaired, AreModels}
use Rattle.ac_claims_paths.specs.Executions.{Execution, execution}
use Rattle.ac_claims_paths.specs.PathSteps.{Pairing}
use Rattle.ac_claims_paths.specs.Pairs.{Placed, IsReader, ArgumentsMeet, CallPlace, ArgumentPlace}
use Rattle.ac_claims_paths.specs.ModelPositions.{CallAt, cell_read, call_at, call_of, read_of, node_at}
use Rattle.ac_claims_paths.specs.declared.places.CellForms.{CellForms}
use Rattle.ac_flow.specs.Flows.{CasesAreSources}
use Rattle.ac_flow.specs.declared.types.Flow.{Flow}
use Rattle.ac_graph.specs.PairMoves.{pairing_of}
use Rattle.ac_graph.specs.GraphMeaning.{IsCompared}
use Rattle.ac_graph.proofs.Standing.{reader_there}
use Rattle.ac_widen_programs.specs.PairSetting.{IsPlaced, IsStepPair, may_swap, order_at}
use Rattle.ac_widen_programs.proofs.PositionModels.{reads_there, call_there}
use Rattle.ac_widen_programs.specs.PairPoints.{AreSeen}
use Rattle.ac_widen_programs.specs.FlowTargets.{LeadsTo}
use Rattle.ac_widen_programs.specs.ArgumentPairs.{IsMet}
use Rattle.ac_widen_programs.specs.PairSteps.{CallsStep, LeftReadsStep, RightReadsStep}
use Rattle.ac_widen_programs.proofs.Sourcing.{goes_where_led}

pub some_there : {A : Type 0} (o : Option A) → is_some o ≡ true → (x : A) × (o ≡ Some x)
some_there None e = absurd cc
some_there (Some x) e = (x, refl)

pub none_there : {A : Type 0} (o : Option A) → is_some o ≡ false → o ≡ None
none_there None e = refl
none_there (Some x) e = absurd cc

-- where a read or an output stands, there is no call
read_no_call : (s : ℕ) (n : NodeModel) (forms : CellForms) → read_of n ≡ Some forms → call_of s n ≡ None
read_no_call s (node.Number f) forms e = absurd cc
read_no_call s (node.Read array subs) forms e = refl
read_no_call s (node.Call symbol args) forms e = absurd cc

no_call : (m : Model) (P : Position) (forms : CellForms) → cell_read m P ≡ Some forms → call_at m P ≡ None
no_call m (Output o) forms e = refl
no_call m (Node s k) forms e =
    let b = bind-some (node_at m s k) read_of forms e in
    ap (λ (o : Option NodeModel). option_and_then (call_of s) o) b.1 ∙ read_no_call s b.0 forms b.2
no_call m (InitialOutput o) forms e = refl
no_call m (InitialNode s k) forms e = refl

no_swap : (g : Pairing) (o : Option CallAt) → may_swap g o None ≡ false
no_swap g None = refl
no_swap g (Some c) = refl

-- at a valuation of the context its rows hold
context_meets : (pair : Pair) → ArePaired pair → (params : List ℤ) → IsCompared pair params → Meets (model_of pair.left pair.context).context params
context_meets pair paired params c = (has_context pair.left pair.context paired.context params c.valuation.each).1 c.valuation.context

-- both positions at a point, as they are placed
pub from_seen : (pair : Pair) (params : List ℤ) (P : Position) (at : List ℤ) (Q : Position) (bt : List ℤ) (s : AreSeen pair params P at Q bt) → IsPlaced pair (P, Q) (params ++ (at ++ bt)) params s.a s.b
from_seen pair params P at Q bt s = record { left_is = s.left_is; right_is = s.right_is; point_is = λ i. params ++ (sym s.left_at_is i ++ sym s.right_at_is i) }

pub left_steps : (pair : Pair) (left right : Model) (f : Flow) → ArePaired pair → AreModels pair left right → CasesAreSources left f → (params : List ℤ) (P : Position) (at : List ℤ) (Q : Position) (bt : List ℤ) → AreSeen pair params P at Q bt
    → is_some (cell_read left P) ≡ true → (params' : List ℤ) (to : Position) (to_at : List ℤ) (Q' : Position) (bt' : List ℤ) → params ≡ params' → Q ≡ Q' → bt ≡ bt' → LeadsTo left f params P at to to_at
    → (order : Order) → IsStepPair pair order (P, Q) (params ++ (at ++ bt)) (to, Q') (params' ++ (to_at ++ bt'))
left_steps pair left right f paired models sources params P at Q bt s reads params' to to_at Q' bt' pe qe be leads order =
    let m = model_of pair.left pair.context in
    let x = execution pair.left m params in
    let cell = some_there (cell_read m P) (subst (λ (y : Model). is_some (cell_read y P) ≡ true) models.left_is reads) in
    let r : IsReader x s.a = reads_there m params x s.compared.left s.a P s.left_is cell in
    let met = context_meets pair paired params s.compared in
    let g = goes_where_led pair.left pair.context f paired.left paired.context (subst (λ (y : Model). CasesAreSources y f) models.left_is sources) params s.compared.valuation.each met s.a r P at to to_at s.left_is s.left_at_is
    (subst (λ (y : Model). LeadsTo y f params P at to to_at) models.left_is leads) in
    record {
      params = params;
      compared = s.compared;
      a = s.a;
      b = s.b;
      a' = g.b;
      b' = s.b;
      from = from_seen pair params P at Q bt s;
      to = record { left_is = g.to_is; right_is = s.right_is ∙ qe; point_is = λ i. sym pe i ++ (sym g.to_at_is i ++ (sym be ∙ sym s.right_at_is) i) };
      steps = inl (ap (λ (o : Option CallAt). cond (may_swap (pairing_of pair) o (call_at (model_of pair.right pair.context) Q)) order Keep) (no_call m P cell.0 cell.1), g.resolves, record { position_is = refl; at_is = refl; spot_is = refl });
    }

pub right_steps : (pair : Pair) (left right : Model) (f : Flow) → ArePaired pair → AreModels pair left right → CasesAreSources right f → (params : List ℤ) (P : Position) (at : List ℤ) (Q : Position) (bt : List ℤ) → AreSeen pair params P at Q bt
    → is_some (cell_read left P) ≡ false → is_some (cell_read right Q) ≡ true → (params' : List ℤ) (P' : Position) (at' : List ℤ) (to : Position) (to_at : List ℤ) → params ≡ params' → P ≡ P' → at ≡ at' → LeadsTo right f params Q bt to to_at
    → (order : Order) → IsStepPair pair order (P, Q) (params ++ (at ++ bt)) (P', to) (params' ++ (at' ++ to_at))
right_steps pair left right f paired models sources params P at Q bt s plain reads params' P' at' to to_at pe ae be leads order =
    let l = model_of pair.left pair.context in
    let m = model_of pair.right pair.context in
    let x = execution pair.right m params in
    let none = none_there (cell_read l P) (subst (λ (y : Model). is_some (cell_read y P) ≡ false) models.left_is plain) in
    let cell = some_there (cell_read m Q) (subst (λ (y : Model). is_some (cell_read y Q) ≡ true) models.right_is reads) in
    let r : IsReader x s.b = reads_there m params x s.compared.right s.b Q s.right_is cell in
    let fit = subst (λ (n : ℕ). FitParts n 0 pair.context.parts) (sym paired.params) paired.context in
    let long : length params ≡ length pair.right.params = s.compared.valuation.each ∙ sym paired.params in
    let met = (has_context pair.right pair.context fit params long).1 s.compared.valuation.context in
    let g = goes_where_led pair.right pair.context f paired.right fit (subst (λ (y : Model). CasesAreSources y f) models.right_is sources) params long met s.b r Q bt to to_at s.right_is s.right_at_is
    (subst (λ (y : Model). LeadsTo y f params Q bt to to_at) models.right_is leads) in
    let no_reader : ¬ (IsReader (execution pair.left l params) s.a) = λ z. let t = reader_there l params (execution pair.left l params) s.compared.left s.a.position s.a.at s.a.spot s.a.here z.0 z.1 z.2 in
    let u : None ≡ Some t.0 = sym none ∙ ap (cell_read l) (sym s.left_is) ∙ t.1 in absurd cc in
    record {
      params = params;
      compared = s.compared;
      a = s.a;
      b = s.b;
      a' = s.a;
      b' = g.b;
      from = from_seen pair params P at Q bt s;
      to = record { left_is = s.left_is ∙ ae; right_is = g.to_is; point_is = λ i. sym pe i ++ ((sym be ∙ sym s.left_at_is) i ++ sym g.to_at_is i) };
      steps = inr (inl (
        ap (λ (o : Option CallAt). cond (may_swap (pairing_of pair) (call_at l P) o) order Keep) (no_call m Q cell.0 cell.1) ∙ ap (λ (b : Bool). cond b order Keep) (no_swap (pairing_of pair) (call_at l P)),
        no_reader,
        g.resolves,
        record { position_is = refl; at_is = refl; spot_is = refl },
      ));
    }

-- the argument of a call with a number
argument_there : (x : Execution) (a : Placed x) (c : CallPlace x a) (call : CallAt) → record { symbol = c.symbol; args = map (Node c.stmt) c.arguments } ≡ call → (k : ℕ) (q : Position) → slice_get call.args k ≡ Some q → (b : Placed x) → b.position ≡ q → b.at ≡ a.at
    → ArgumentPlace x a c k b
argument_there x a c call e k q is b at_q at_a =
    let o : option_map (Node c.stmt) (slice_get c.arguments k) ≡ Some q = sym (slice_get-map (Node c.stmt) c.arguments k) ∙ ap (λ (y : CallAt). slice_get y.args k) e ∙ is in
    let r = map-some (slice_get c.arguments k) (Node c.stmt) q o in
    record { root = r.0; root_is = r.1; position_is = at_q ∙ r.2; at_is = at_a }

pub call_steps : (pair : Pair) (left right : Model) → AreModels pair left right → (params : List ℤ) (P : Position) (at : List ℤ) (Q : Position) (bt : List ℤ) → AreSeen pair params P at Q bt
    → (params' : List ℤ) (P' : Position) (at' : List ℤ) (Q' : Position) (bt' : List ℤ) → AreSeen pair params' P' at' Q' bt' → params ≡ params' → at ≡ at' → bt ≡ bt'
    → (c d : CallAt) → call_at left P ≡ Some c → call_at right Q ≡ Some d → c.symbol ≡ d.symbol → (o : Order) → IsMet (pairing_of pair).swaps o c d P' Q'
    → (order : Order) → order_at pair (P, Q) order ≡ o → IsStepPair pair order (P, Q) (params ++ (at ++ bt)) (P', Q') (params' ++ (at' ++ bt'))
call_steps pair left right models params P at Q bt s params' P' at' Q' bt' t pe ae be c d ce de one o met order oe =
    let l = model_of pair.left pair.context in
    let m = model_of pair.right pair.context in
    let x = execution pair.left l params in
    let y = execution pair.right m params in
    let u = subst (λ (z : List ℤ). AreSeen pair z P' at' Q' bt') (sym pe) t in
    let a = call_there l params x s.compared.left s.a P c s.left_is (subst (λ (z : Model). call_at z P ≡ Some c) models.left_is ce) in
    let b = call_there m params y s.compared.right s.b Q d s.right_is (subst (λ (z : Model). call_at z Q ≡ Some d) models.right_is de) in
    let f : a.0.symbol ≡ c.symbol = ap (λ (z : CallAt). z.symbol) a.1 in
    let g : b.0.symbol ≡ d.symbol = ap (λ (z : CallAt). z.symbol) b.1 in
    let meet = subst (λ (z : Order). ArgumentsMeet (pairing_of pair).swaps z a.0.symbol met.left_number met.right_number) (sym oe) (subst (λ (z : Symbol). ArgumentsMeet (pairing_of pair).swaps o z met.left_number met.right_number) (sym f) met.meet) in
    record {
      params = params;
      compared = s.compared;
      a = s.a;
      b = s.b;
      a' = u.a;
      b' = u.b;
      from = from_seen pair params P at Q bt s;
      to = record { left_is = u.left_is; right_is = u.right_is; point_is = λ i. sym pe i ++ (sym u.left_at_is i ++ sym u.right_at_is i) };
      steps = inr (inr (record {
        left = a.0;
        right = b.0;
        one = f ∙ one ∙ sym g;
        left_number = met.left_number;
        right_number = met.right_number;
        meet = meet;
        left_argument = argument_there x s.a a.0 c a.1 met.left_number P' met.left_argument u.a u.left_is (u.left_at_is ∙ sym ae ∙ sym s.left_at_is);
        right_argument = argument_there y s.b b.0 d b.1 met.right_number Q' met.right_argument u.b u.right_is (u.right_at_is ∙ sym be ∙ sym s.right_at_is);
      }));
    }

-- ---- the laws

pub left_reads_step : LeftReadsStep
left_reads_step pair left right f paired models sources params P at Q bt s reads to to_at leads order =
    left_steps pair left right f paired models sources params P at Q bt s reads params to to_at Q bt refl refl refl leads order

pub right_reads_step : RightReadsStep
right_reads_step pair left right f paired models sources params P at Q bt s plain reads to to_at leads order =
    right_steps pair left right f paired models sources params P at Q bt s plain reads params P at to to_at refl refl refl leads order

pub calls_step : CallsStep
calls_step pair left right models params P at Q bt s P' Q' t c d ce de one order met =
    call_steps pair left right models params P at Q bt s params P' at Q' bt t refl refl refl c d ce de one (order_at pair (P, Q) order) met order refl
