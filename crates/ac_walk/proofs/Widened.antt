-- The recurrence pairs that an output reaches in its pair's graph are those of its widening.
use Rattle.std.proofs.Common.{◌≡◌, ◌↔◌, ◌<◌, ◌+◌, ℕ, List, [], ◌∷◌, ◌++◌, inl, inr, length, take, get_or, sym, subst, ◌∙◌}
use Rattle.ac_forms.specs.ListMembers.{IsAmong}
use Rattle.ac_syntax.specs.declared.tree.Position.{Position}
use Rattle.ac_syntax.specs.declared.tree.Site.{Site}
use Rattle.ac_graph.proofs.Stepping.{edges_sourced, left_flow, right_flow}
use Rattle.ac_walk_state.specs.SearchSetting.{Widening, IsWideningOf}
use Rattle.ac_walk_state.specs.GraphWidenings.{AreRecurrentFrom, widening_of}
use Rattle.ac_walk_state.specs.UnmatchedOutputs.{AreSitesOf, pair_at}
use Rattle.ac_walk_state.proofs.LastItems.{among_back, among_front, among_more, next_item}
use Rattle.ac_walk_state.proofs.Widening.{any_is, graphs_widen, widenings_are_one}
use Rattle.ac_walk.specs.OutputSearch.{AreTaken}
use Rattle.ac_unfold_plans.specs.ArgumentOrders.{AreAll}
use Rattle.ac_walk.specs.OutputDecisions.{AreReachedSites}
use Rattle.ac_walk.specs.VerdictCollection.{IsBasis}
use Rattle.ac_walk.specs.declared.outputs.Basis.{Basis}

-- the widening of an output, by those of the graph's recurrence pairs that moves reach from it
module _ (b : Basis) (array : ℕ) (pairs : List (Position × Position)) (h : IsBasis b) (among : IsAmong array b.pair.now.outputs) (from : AreRecurrentFrom b.pair.now b.graph.now array pairs) where
  abbrev own : Widening
  own = widening_of pairs b.template.now.thresholds b.template.now.moduli

  own_is : IsWideningOf b.pair.now array own
  own_is = graphs_widen b.pair.now array b.program_flows.now.left_flow.now b.program_flows.now.right_flow.now b.graph.now pairs b.template.now.thresholds b.template.now.moduli among h.flows h.graph from h.numbers

  -- there is one
  pub widening : (w : Widening) × IsWideningOf b.pair.now array w
  widening = (own, own_is)

  -- it takes these pairs and no others
  pub takes_all : (w : Widening) → IsWideningOf b.pair.now array w → AreAll pairs w.recurrent
  takes_all w is positions e = (any_is positions pairs).0 (sym ((widenings_are_one b.pair.now array w own is own_is).recurrent positions) ∙ e)

  pub takes_each : (w : Widening) → IsWideningOf b.pair.now array w → AreTaken pairs w
  takes_each w is positions i = (widenings_are_one b.pair.now array w own is own_is).recurrent positions ∙ (any_is positions pairs).1 i

-- the sites that moves along the graph's edges reach from an output are those of the output
pub sites_of : (b : Basis) (array : ℕ) (sites : List Site) → IsBasis b → AreReachedSites b.pair.now b.graph.now array sites → AreSitesOf b.pair.now array sites
sites_of b array sites h r =
    let pair = b.pair.now in
    let left = b.program_flows.now.left_flow.now in
    let right = b.program_flows.now.right_flow.now in
    record {
      left_edges = b.graph.now.left_edges;
      right_edges = b.graph.now.right_edges;
      left_sources = edges_sourced pair.left pair.context left b.graph.now.left_edges (left_flow pair left right h.flows) h.graph.left_are;
      right_sources = edges_sourced pair.right pair.context right b.graph.now.right_edges (right_flow pair left right h.flows) h.graph.right_are;
      sites_are = λ site. ((λ i. let s = (r.among.sites_are site).0 i in ((r.reached (pair_at site)).0 s.0, s.1)), (λ k. (r.among.sites_are site).1 ((r.reached (pair_at site)).1 k.0, k.1)));
      once = r.among.once;
    }

-- further ones leave all
pub all_further : (pairs more : List (Position × Position)) (w : Widening) → AreAll pairs w.recurrent → AreAll (pairs ++ more) w.recurrent
all_further pairs more w h positions e = among_front pairs more positions (h positions e)

-- ---- pairs in lists

-- those of the pairs that are among others
abbrev pub AreCommon : List (Position × Position) → List (Position × Position) → List (Position × Position) → Type 0
AreCommon pairs others made = (p : Position × Position) → IsAmong p made ↔ (IsAmong p pairs × IsAmong p others)

-- with the next one, if it is among the others
pub common_more : (pairs others made new : List (Position × Position)) (i : ℕ) (x : Position × Position) → i < length pairs → x ≡ get_or pairs i x → IsAmong x others → new ≡ made ++ x ∷ [] → AreCommon (take i pairs) others made → AreCommon (take (i + 1) pairs) others new
common_more pairs others made new i x l e among grown h p = (
  (λ k. elim (among_more p x made (subst (IsAmong p) grown k)) [
    | inl j ↦ (let r = (h p).0 j in (subst (IsAmong p) (sym (next_item pairs i x l e)) (among_front (take i pairs) (x ∷ []) p r.0), r.1))
    | inr same ↦ (subst (IsAmong p) (sym (next_item pairs i x l e)) (among_back (take i pairs) (x ∷ []) p (inl same)), subst (λ (y : Position × Position). IsAmong y others) (sym same) among)
  ]),
  (λ k. subst (IsAmong p) (sym grown) (elim (among_more p x (take i pairs) (subst (IsAmong p) (next_item pairs i x l e) k.0)) [ inl j ↦ among_front made (x ∷ []) p ((h p).1 (j, k.1)) | inr same ↦ among_back made (x ∷ []) p (inl same) ])),
)

-- without it, if it is not
pub common_less : (pairs others made : List (Position × Position)) (i : ℕ) (x : Position × Position) → i < length pairs → x ≡ get_or pairs i x → ¬ (IsAmong x others) → AreCommon (take i pairs) others made → AreCommon (take (i + 1) pairs) others made
common_less pairs others made i x l e apart h p = (
  (λ k. let r = (h p).0 k in (subst (IsAmong p) (sym (next_item pairs i x l e)) (among_front (take i pairs) (x ∷ []) p r.0), r.1)),
  (λ k. elim (among_more p x (take i pairs) (subst (IsAmong p) (next_item pairs i x l e) k.0)) [ inl j ↦ (h p).1 (j, k.1) | inr same ↦ absurd (apart (subst (λ (y : Position × Position). IsAmong y others) same k.1)) ]),
)

pub none_common : (others : List (Position × Position)) → AreCommon [] others []
none_common others p = ((λ k. absurd k), (λ k. absurd k.0))
