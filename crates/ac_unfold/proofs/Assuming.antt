-- What a branch of a read or an output assumes is a case of its flow.
use Rattle.std.proofs.Common.{◌≡◌, ℕ, ◌+◌, List, length, Option, Some, None, refl, sym, ap, ◌∙◌}
use Rattle.std.specs.Prelude.{option_and_then, option_map, slice_get}
use Rattle.ac_forms.specs.Affine.{Affine}
use Rattle.ac_syntax.specs.declared.tree.Position.{Position}
use Rattle.ac_syntax.specs.declared.tree.Position.TheVariants.{Node}
use Rattle.ac_poly.specs.declared.types.Model.{Model}
use Rattle.ac_claims_paths.specs.InstanceCoordinates.{width}
use Rattle.ac_claims_paths.specs.PathSteps.{Pairing, model_of, root}
use Rattle.ac_claims_paths.specs.CopyKills.{source_from}
use Rattle.ac_forms.specs.ListMembers.{IsAmong}
use Rattle.ac_claims_paths.specs.declared.path.Assumed.{Assumed}
use Rattle.ac_claims_paths.specs.declared.path.Path.{Path}
use Rattle.ac_claims_paths.specs.declared.path.Seat.{Seat}
use Rattle.ac_claims_paths.specs.declared.path.Side.{Side}
use Rattle.ac_claims_paths.specs.declared.path.Side.TheVariants.{Left, Right}
use Rattle.ac_claims.proofs.Plans.{position_is}
use Rattle.ac_flow.specs.FlowCases.{Reads}
use Rattle.ac_flow.specs.Readers.{readers, AreFlows}
use Rattle.ac_flow.specs.declared.types.Case.{Case}
use Rattle.ac_flow.specs.declared.types.ReadFlow.{ReadFlow}
use Rattle.ac_flow.proofs.Linking.{IsReader, OfNode, OfOutput, is_reader}
use Rattle.ac_flow.proofs.InPieces.{flows_of_readers}
use Rattle.ac_unfold.specs.CaseBranches.{count_at, AssumesCase, AssumesSource}
use Rattle.ac_widen_programs.specs.PairPathSteps.{flow_on}
use Rattle.ac_unfold.specs.KillCuts.{IsAssumed}
use Rattle.ac_unfold.specs.PlanResults.{judge_of, IsCaseAt}
use Rattle.ac_unfold.specs.ReadySetting.{IsSettled}
use Rattle.ac_unfold.specs.declared.ends.Search.{Search}

reader_count : (m : Model) (r : Reads) → IsReader m r → count_at m r.position ≡ Some r.count
reader_count m r (OfNode s k stmt array subs is e) = ap (option_map width) is
reader_count m r (OfOutput o extents is) = ap (option_map (λ (e : List Affine). length e)) is

-- the same seat
seat_is : (first : ℕ) (p q : Position) (w v : ℕ) → p ≡ q → w ≡ v → ◌≡◌ {A = Seat} (record { position = p; first = first; width = w }) (record { position = q; first = first; width = v })
seat_is first p q w v e f = cc

source_is : (m : Model) (first : ℕ) (o : Option ℕ) (p : Option Seat) → AssumesSource m o p → source_from first p ≡ option_and_then (λ u. option_map (root first u) (slice_get m.stmts u)) o
source_is m first None None h = refl
source_is m first None (Some seat) h = absurd h
source_is m first (Some u) None h = absurd h
source_is m first (Some u) (Some seat) h =
    ap (λ (s : Seat). Some s) (seat_is first seat.position (Node u 0) seat.width (width h.stmt) h.position h.wide) ∙ sym (ap (option_map (root first u)) h.is)

case_in : (g : Pairing) (side : Side) (m : Model) (flows : List ReadFlow) (flow : ReadFlow) (case : Case) (q : Path) (a : Assumed) → model_of g side ≡ m → AreFlows m (readers m) flows → IsAmong flow flows → IsAmong case flow.cases → q.last ≡ Some a
    → AssumesCase g.params m side flow case a → IsCaseAt g q case
case_in g side m flows flow case q a e are i among is h =
    let f = (flows_of_readers m flows are).reader flow i in
    let r = f.0 in
    let at : a.reader.position ≡ r.position = position_is a.reader.position flow.position h.position ∙ f.2.0 in
    let many : Some a.reader.width ≡ Some r.count = sym h.count ∙ ap (count_at m) f.2.0 ∙ reader_count m r (is_reader m r f.1) in
    let wide : a.reader.width ≡ r.count = cc in
    record {
      assumed = a;
      is = is;
      model = m;
      reader = r;
      flow = flow;
      flow_is = f.2;
      among = among;
      stands_for = record {
        model = ap (model_of g) h.on ∙ e;
        params = h.parameters;
        reader = seat_is m.params a.reader.position r.position a.reader.width r.count at wide;
        source = ap (λ (n : ℕ). source_from (m.params + n) a.source) wide ∙ source_is m (m.params + r.count) case.source a.source h.source;
      };
    }

pub case_there : (search : Search) (side : Side) (flow : ReadFlow) (case : Case) (q : Path) → IsSettled search.program_flows.now → IsAmong flow (flow_on search.program_flows.now.left_flow.now search.program_flows.now.right_flow.now side).reads → IsAssumed search side flow case q → IsCaseAt (judge_of search) q case
case_there search Left flow case q s i a = case_in (judge_of search) Left (judge_of search).left search.program_flows.now.left_flow.now.reads flow case q a.assumed refl s.left_flow i a.among a.is a.assumes
case_there search Right flow case q s i a = case_in (judge_of search) Right (judge_of search).right search.program_flows.now.right_flow.now.reads flow case q a.assumed refl s.right_flow i a.among a.is a.assumes
