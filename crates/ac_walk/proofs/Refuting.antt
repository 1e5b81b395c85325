-- Orders that a search refutes, and what it then says of the output.
use Rattle.std.proofs.Common.{◌≡◌, ◌⊎◌, inl, inr, ℕ, ℤ, List, [], ◌∷◌, ◌++◌, Bool, Option, Some, None, subst, sym, append_assoc}
use Rattle.ac_syntax.specs.declared.tree.Order.{Order}
use Rattle.ac_syntax.specs.declared.tree.Pair.{Pair}
use Rattle.ac_syntax.specs.declared.tree.Position.{Position}
use Rattle.ac_syntax.specs.declared.tree.Site.{Site}
use Rattle.ac_forms.specs.ListMembers.{IsAmong}
use Rattle.ac_forms.specs.declared.row.Row.{Row}
use Rattle.ac_claims.specs.declared.types.Claim.{Claim}
use Rattle.ac_hull.proofs.Comparing.{each_from}
use Rattle.ac_hull.specs.Templates.{template_rows}
use Rattle.ac_widen_programs.specs.PairSetting.{point_width, setting}
use Rattle.ac_widen_programs.specs.PairPoints.{choices_of}
use Rattle.ac_widen_programs.specs.DerivationEntries.{entries_of}
use Rattle.ac_match.specs.SiteOrders.{OrdersOf, IsNext}
use Rattle.ac_match.specs.declared.orders.Next.{Next}
use Rattle.ac_match.specs.declared.orders.Next.TheVariants.{Order as Chosen, Done, Spent}
use Rattle.ac_match.specs.declared.orders.Refuted.{Refuted}
use Rattle.ac_graph.specs.PairMoves.{AreSites, pairing_of}
use Rattle.ac_walk_state.specs.PartialOrders.{AreOnce}
use Rattle.ac_walk_state.specs.UnmatchedOutputs.{AreRefutedInTurn, AreRefutedUpTo, AreSitesOf, IsRefutedAfter}
use Rattle.ac_report.specs.declared.types.Cause.{Cause}
use Rattle.ac_report.specs.declared.types.Cause.TheVariants.{Unmatched, OverflowQuestion, OverflowHull, SpentQuestion, SpentPieces, SpentPaths, SpentOrders}
use Rattle.ac_walk_state.specs.RecurrencePairs.{claim_of, positions}
use Rattle.ac_walk_state.specs.RecurrencePairInvariant.{IsWideningPoint, IsWideningPointIn}
use Rattle.ac_walk_state.proofs.Standing.{key_in}
use Rattle.ac_walk_state.specs.Elements.{IsElementClaim}
use Rattle.ac_walk_state.specs.OrderKnowledge.{IsWide, claims_of, pairs_of}
use Rattle.ac_walk_state.specs.declared.known.Known.{Known}
use Rattle.ac_walk_state.proofs.LastItems.{among_map, append_nil, each_in}
use Rattle.ac_walk_state.proofs.Orders.{refutes_part}
use Rattle.ac_walk.specs.FoundMembers.{rows_at}
use Rattle.ac_walk.specs.OutputSearch.{AreTaken, IsFound, IsSearch, ShowMismatch}
use Rattle.ac_walk.specs.SearchStops.{AreTooLargeUnder, StopsSearch, StopsUnfoldingUnder}
use Rattle.ac_walk.specs.StartPaths.{IsStartOf}
use Rattle.ac_walk.specs.declared.search_types.Search.{Search}
use Rattle.ac_walk.proofs.Lists.{get_among}
use Rattle.ac_walk.proofs.Members.{are_known, start_is}
use Rattle.ac_walk.proofs.Programs.{lawful}
use Rattle.ac_walk.proofs.Unfolded.{is_unfolding, unfolding_at}
use Rattle.ac_walk_state.specs.SearchSetting.{Widening, IsWideningOf, searched}
use Rattle.ac_unfold_plans.specs.ArgumentOrders.{order_of}
use Rattle.ac_widen.specs.OrderRefutations.{IsPartOf}
use Rattle.ac_widen.specs.declared.derivation.Derivation.{Derivation}
use Rattle.ac_widen.specs.declared.derivation.Entry.{Entry}
use Rattle.ac_unfold.specs.declared.types.UnfoldStop.{UnfoldStop}
use Rattle.ac_unfold.specs.declared.types.UnfoldStop.TheVariants as unfolded
use Rattle.ac_walk.specs.UnknownCauses.{EndsSearch}
use Rattle.ac_walk.specs.OutputDecisions.{AreShown, AreSitesAmong, GoesNoFurther, IsDecision, IsDifference, IsKept, IsOutputSearch, IsShown}
use Rattle.ac_walk.specs.OutputStops.{IsOrderOfSites, UnfoldingStops}
use Rattle.ac_walk.specs.Verdicts.{AreTooLargePoints, IsCause}
use Rattle.ac_walk.specs.declared.deciding.Decision.{Decision}
use Rattle.ac_walk.specs.declared.deciding.Decision.TheVariants.{Stands, Different, Unknown}

-- ---- sites

pub once_among : (pair : Pair) (pairs : List (Position × Position)) (all made : List Site) → AreSites (pairing_of pair) pairs all → AreOnce all made → AreSitesAmong pair pairs made
once_among pair pairs all made are once = record { sites_are = λ site. ((λ i. (are site).0 ((once.0 site).0 i)), (λ k. (once.0 site).1 ((are site).1 k))); once = once.1 }

-- ---- refuted orders

-- in the setting of the search a partial order is refuted by entries that show a mismatch, behind earlier ones
one_refuted : (s : Search) (w : Widening) → IsSearch s → IsWideningOf s.pair.now s.array w → AreTaken s.stops.now w → (sites : List Site) (earlier : List Refuted) (r : Refuted) → IsShown s sites earlier r → IsRefutedAfter (searched s.pair.now s.array w) sites earlier r
one_refuted s w h is taken sites earlier r shown =
    let rows = λ (positions : Position × Position). template_rows (point_width s.pair.now positions) w.thresholds w.moduli in
    let found = shown.shown w is taken in
    let part = shown.part (s.array ∷ []) w.recurrent rows in
    record {
      order = shown.order;
      whole = shown.whole;
      apart = shown.apart;
      part = part;
      refuted = refutes_part (searched s.pair.now s.array w) (order_of shown.order) r.why.entries r.partial (lawful s w h is) found.0 found.1 part;
    }

all_refuted : (s : Search) (w : Widening) → IsSearch s → IsWideningOf s.pair.now s.array w → AreTaken s.stops.now w → (sites : List Site) (earlier list : List Refuted) → AreShown s sites earlier list → AreRefutedInTurn (searched s.pair.now s.array w) sites earlier list
all_refuted s w h is taken sites earlier [] shown = tt
all_refuted s w h is taken sites earlier (r ∷ list) shown = (one_refuted s w h is taken sites earlier r shown.0, all_refuted s w h is taken sites (earlier ++ r ∷ []) list shown.1)

-- a mismatch under an order that comes next, and the part of the order that its entries need
pub is_shown : (s : Search) (o : OrdersOf) (order : List (Site × Order)) (why : Derivation) (partial : List (Site × Order)) (es : List Entry) → es ≡ why.entries → IsNext o (Chosen order) → ShowMismatch s order why.entries
    → ((outputs : List ℕ) (recurrent : Position × Position → Bool) (template : Position × Position → List Row) → IsPartOf (setting s.pair.now outputs recurrent template) (order_of order) (entries_of es) (choices_of partial)) → IsShown s o.sites o.refuted (record { partial = partial; why = why })
is_shown s o order why partial es e next shown part = record {
  order = order;
  whole = next.0;
  apart = next.1;
  shown = shown;
  part = λ outputs recurrent template. subst (λ (xs : List Entry). IsPartOf (setting s.pair.now outputs recurrent template) (order_of order) (entries_of xs) (choices_of partial)) e (part outputs recurrent template);
}

-- one more
shown_behind : (s : Search) (sites : List Site) (earlier list : List Refuted) (r : Refuted) → AreShown s sites earlier list → IsShown s sites (earlier ++ list) r → AreShown s sites earlier (list ++ r ∷ [])
shown_behind s sites earlier [] r h k = (subst (λ (before : List Refuted). IsShown s sites before r) (append_nil earlier) k, tt)
shown_behind s sites earlier (q ∷ list) r h k = (h.0, shown_behind s sites (earlier ++ q ∷ []) list r h.1 (subst (λ (before : List Refuted). IsShown s sites before r) (sym (append_assoc earlier (q ∷ []) list)) k))

pub more_shown : (s : Search) (sites : List Site) (list : List Refuted) (r : Refuted) → AreShown s sites [] list → IsShown s sites list r → AreShown s sites [] (list ++ r ∷ [])
more_shown s sites list r h k = shown_behind s sites [] list r h k

-- ---- decisions

-- what is kept of a search, of another one on the same output
pub kept_same : (s t : Search) (number : ℕ) (d : Decision) → s.pair.now ≡ t.pair.now → s.array ≡ t.array → s.first ≡ t.first → IsKept s number d → IsKept t number d
kept_same s t number (Stands part) pair array first h = (h.0, subst (λ (n : ℕ). IsFound t.pair.now h.0 t.array n part) first (subst (λ (o : ℕ). IsFound t.pair.now h.0 o s.first part) array (subst (λ (p : Pair). IsFound p h.0 s.array s.first part) pair h.1)))
kept_same s t number (Different found) pair array first h = subst (λ (p : Pair). IsDifference p number found) pair h
kept_same s t number (Unknown why) pair array first h = tt

-- the partial orders are refuted in turn until that comes
are_refuted : (s : Search) (number : ℕ) (o : OrdersOf) (next : Next) → IsOutputSearch s number → AreSitesOf s.pair.now s.array o.sites → AreShown s o.sites [] o.refuted → IsNext o next → GoesNoFurther s → AreRefutedUpTo s.pair.now s.array o.refuted next
are_refuted s number o next h sites shown comes near = record {
  sites = o.sites;
  sites_are = sites;
  widening = h.widening;
  refuted = λ w is. all_refuted s w h.search is (near w is) o.sites [] o.refuted shown;
  comes = comes;
}

-- no order is left
pub unmatched_decides : (s : Search) (number : ℕ) (o : OrdersOf) → IsOutputSearch s number → AreSitesOf s.pair.now s.array o.sites → AreShown s o.sites [] o.refuted → IsNext o Done → IsDecision s number (Unknown (Unmatched o.refuted))
unmatched_decides s number o h sites shown done = record { kept = tt; ends = λ near. tt; cause = λ near. are_refuted s number o Done h sites shown done near }

-- too many are refuted
pub spent_decides : (s : Search) (number : ℕ) (o : OrdersOf) → IsOutputSearch s number → AreSitesOf s.pair.now s.array o.sites → AreShown s o.sites [] o.refuted → IsNext o Spent → IsDecision s number (Unknown (SpentOrders o.refuted))
spent_decides s number o h sites shown spent = record { kept = tt; ends = λ near. tt; cause = λ near. are_refuted s number o Spent h sites shown spent near }

-- ---- early ends

-- the search under an order ends early
are_too_large : (s : Search) (number : ℕ) (order : List (Site × Order)) (points : List (List ℤ)) → IsOutputSearch s number → GoesNoFurther s → AreTooLargeUnder s order points → AreTooLargePoints s.pair.now s.array points
are_too_large s number order points h near under =
    let w = h.widening.0 in
    let is = h.widening.1 in
    let at = under w is (near w is) in
    record {
      widening = w;
      is_widening = is;
      order = order_of order;
      left_flow = s.program_flows.now.left_flow.now;
      right_flow = s.program_flows.now.right_flow.now;
      flows = h.search.flows;
      positions = at.0;
      recurs = near w is at.0 at.1;
      large = at.2;
      found = at.3;
    }

early_cause : (s : Search) (number : ℕ) (order : List (Site × Order)) (why : Cause) → IsOutputSearch s number → GoesNoFurther s → StopsSearch s order why → IsCause s.pair.now s.array why
early_cause s number order (Unmatched refuted) is near h = absurd h
early_cause s number order (OverflowQuestion question) is near h = tt
early_cause s number order (OverflowHull points) is near h = are_too_large s number order points is near h
early_cause s number order (SpentQuestion question cost) is near h = tt
early_cause s number order (SpentPieces position kept) is near h = tt
early_cause s number order (SpentPaths paths) is near h = tt
early_cause s number order (SpentOrders refuted) is near h = absurd h

-- an unfolding of what is known stops so in the setting of the search
unfolding_stops : (s : Search) (number : ℕ) (order : List (Site × Order)) (stop : UnfoldStop) → IsOutputSearch s number → GoesNoFurther s → IsOrderOfSites s.pair.now s.array (order_of order) → StopsUnfoldingUnder s order stop → UnfoldingStops s.program_flows.now.budget s.pair.now s.array stop
unfolding_stops s number order stop h near of under =
    let w = h.widening.0 in
    let is = h.widening.1 in
    let known = under.known in
    record {
      widening = w;
      is_widening = is;
      order = order_of order;
      of_sites = of;
      left_flow = s.program_flows.now.left_flow.now;
      right_flow = s.program_flows.now.right_flow.now;
      flows = h.search.flows;
      widening_points = known.widening_points.items;
      known = are_known s order h.search w is (near w is) known under.is_known;
      found = under.is_known.found w is (near w is);
      start = under.claim;
      starts = start_is s order h.search w is (near w is) known under.from under.claim under.start;
      stops = under.stops (unfolding_at s order under.claim w) (is_unfolding s order h.search under.claim w.recurrent (rows_at s.pair.now w));
    }

early_ends : (s : Search) (number : ℕ) (order : List (Site × Order)) (why : Cause) → IsOutputSearch s number → GoesNoFurther s → IsOrderOfSites s.pair.now s.array (order_of order) → StopsSearch s order why → EndsSearch s.program_flows.now.budget s.pair.now s.array why
early_ends s number order (Unmatched refuted) is near of h = absurd h
early_ends s number order (OverflowQuestion question) is near of h = unfolding_stops s number order (unfolded.Overflow question) is near of h
early_ends s number order (OverflowHull members) is near of h = tt
early_ends s number order (SpentQuestion question cost) is near of h = unfolding_stops s number order (unfolded.Spent question cost) is near of h
early_ends s number order (SpentPieces position kept) is near of h = absurd h
early_ends s number order (SpentPaths paths) is near of h = unfolding_stops s number order (unfolded.Paths paths) is near of h
early_ends s number order (SpentOrders refuted) is near of h = absurd h

pub early_decides : (s : Search) (number : ℕ) (order : List (Site × Order)) (why : Cause) → IsOutputSearch s number → IsOrderOfSites s.pair.now s.array (order_of order) → StopsSearch s order why → IsDecision s number (Unknown why)
early_decides s number order why is of h = record { kept = tt; ends = λ near. early_ends s number order why is near of h; cause = λ near. early_cause s number order why is near h }
