-- Stops of hulls and of unfoldings.
use Rattle.std.proofs.Common.{◌≡◌, ◌↔◌, ◌<◌, ℕ, ℤ, List, Option, Some, None, length, ap, subst, sym, ◌∙◌}
use Rattle.std.specs.Prelude.{slice_get, IfSome}
use Rattle.ac_forms.specs.ListMembers.{IsAmong}
use Rattle.ac_syntax.specs.declared.tree.Order.{Order}
use Rattle.ac_syntax.specs.declared.tree.Position.{Position}
use Rattle.ac_syntax.specs.declared.tree.Site.{Site}
use Rattle.ac_claims.specs.declared.types.Claim.{Claim}
use Rattle.ac_hull.specs.declared.stop.HullStop.{HullStop}
use Rattle.ac_hull.specs.declared.stop.HullStop.TheVariants as hull
use Rattle.ac_widen.specs.declared.derivation.Entry.{Entry}
use Rattle.ac_walk_state.specs.RecurrencePairs.{WideningPointOf, claim_of}
use Rattle.ac_report.specs.declared.types.Cause.{Cause}
use Rattle.ac_report.specs.declared.types.Cause.TheVariants as cause
use Rattle.ac_unfold.specs.UnfoldCauses.{StopsUnfolding}
use Rattle.ac_unfold.specs.declared.types.UnfoldStop.{UnfoldStop}
use Rattle.ac_unfold.specs.declared.types.UnfoldStop.TheVariants as found
use Rattle.ac_walk_state.specs.OrderKnowledge.{claims_of}
use Rattle.ac_walk_state.specs.RecurrencePairStops.{CanTake}
use Rattle.ac_walk_state.specs.GrowthStops.{StopsGrowth}
use Rattle.ac_walk_state.specs.declared.known.Known.{Known}
use Rattle.ac_walk_state.specs.Elements.{IsElementClaim}
use Rattle.ac_walk.specs.Ranks.{AreClaimsAt, AreRanks}
use Rattle.ac_walk.specs.OutputSearch.{IsKnownUnder, IsSearch}
use Rattle.ac_walk.specs.SearchStops.{EndsEarly, EndsEarlyBy, EndsEarlyFirst, StopsSearch, StopsStart, StopsUnfoldingUnder, of_hull, of_unfolding}
use Rattle.ac_walk.specs.StartPaths.{AreBrokenFrom, IsStartOf, start_among}
use Rattle.ac_walk.specs.declared.stops.Stop.{Stop}
use Rattle.ac_walk.specs.declared.stops.Stop.TheVariants.{Early, Memory}
use Rattle.ac_walk.specs.declared.search_types.Search.{Search}
use Rattle.ac_walk.proofs.Asked.{stops_of_same_claims}
use Rattle.ac_walk.proofs.Members.{found_beside}
use Rattle.ac_walk.proofs.Planned.{from_known, to_known}
use Rattle.ac_walk.proofs.Programs.{numbers_are}
use Rattle.ac_walk.proofs.Unfolded.{are_paths, is_start, unfolding_at, widened}

-- ---- hulls

pub hull_ends : (s : Search) (order : List (Site × Order)) (known : Known) (from : Option ℕ) (paths : List (List Entry)) (stop : HullStop) → IsSearch s → IsKnownUnder s order known → AreBrokenFrom s order known from paths
    → StopsGrowth s.template.now known from paths stop → EndsEarly s order (of_hull stop)
hull_ends s order known from paths (hull.Overflow points) is k b h = λ w v taken.
    let at = h (unfolding_at s order b.claim w) (are_paths s order is known from paths k b _ _) (widened s order is known b.claim w k v taken) (k.derived w v taken) in
    let ns = numbers_are s w is v in
    let members = at.2.members in
    let point = at.2.point in (
      at.0,
      (k.pairs at.0).0 at.1,
      record {
        members = members;
        point = point;
        points_are = at.2.points_are;
        owed = at.2.owed;
        large = λ can. at.2.large (subst (λ (ts : List ℤ). CanTake ts s.template.now.moduli members point) ns.0 (subst (λ (ms : List ℤ). CanTake w.thresholds ms members point) ns.1 can));
      },
      found_beside s order is w v taken known from paths k b at.0 members point at.3,
    )
hull_ends s order known from paths (hull.Memory want) is k b h = tt

-- ---- unfoldings

-- an unfolding of what is known ends the search under the order as it stops
under_ends : (s : Search) (order : List (Site × Order)) (stop : UnfoldStop) → StopsUnfoldingUnder s order stop → EndsEarly s order (of_unfolding stop)
under_ends s order (found.Overflow question) h = h
under_ends s order (found.Spent question cost) h = h
under_ends s order (found.Paths paths) h = h
under_ends s order (found.Memory want) h = tt

-- so does the one that looks for broken paths
pub unfolding_ends : (s : Search) (order : List (Site × Order)) (known : Known) (from : Option ℕ) (output : Claim) (claims listed given : List Claim) (start : Claim) (stop : UnfoldStop) → IsKnownUnder s order known → IfSome from (λ at. at < length known.widening_points.items)
    → IsElementClaim s.pair.now s.array output → claims ≡ claims_of known → listed ≡ claims → given ≡ claims → start ≡ start_among output listed from → StopsUnfolding s.program_flows.now start given order stop → EndsEarly s order (of_unfolding stop)
unfolding_ends s order known from output claims listed given start stop k within h cs ls gs st stops =
    let first : start ≡ start_among output (claims_of known) from = st ∙ ap (λ (xs : List Claim). start_among output xs from) (ls ∙ cs) in
    under_ends s order stop (record {
      known = known;
      is_known = k;
      from = from;
      claim = start;
      start = subst (IsStartOf s known from) (sym first) (is_start s known from output within h);
      stops = subst (λ (xs : List Claim). StopsUnfolding s.program_flows.now start xs order stop) (gs ∙ cs) stops;
    })

-- ---- plans

-- the plans of a start end as its unfolding stops
pub start_ends : (s : Search) (order : List (Site × Order)) (claims : List Claim) (start : Claim) (stop : UnfoldStop) → StopsUnfolding s.program_flows.now start claims order stop → EndsEarlyBy s order claims start (of_unfolding stop)
start_ends s order claims start (found.Overflow question) h = h
start_ends s order claims start (found.Spent question cost) h = h
start_ends s order claims start (found.Paths paths) h = h
start_ends s order claims start (found.Memory want) h = tt

-- those of the output are the first ones
pub first_ends : (s : Search) (order : List (Site × Order)) (claims : List Claim) (output : Claim) (stop : Stop) → IsElementClaim s.pair.now s.array output → EndsEarlyBy s order claims output stop → EndsEarlyFirst s order claims stop
first_ends s order claims output (Early why) is h = (output, is, h)
first_ends s order claims output (Memory want) is h = tt

-- plans against the claims of the widening points, in the order of their numbers
module _ (s : Search) (order : List (Site × Order)) (known : Known) (numbers : List ℕ) (claims : List Claim) (k : IsKnownUnder s order known) (ranks : AreRanks known.widening_points.items numbers) (at : AreClaimsAt known.widening_points.items numbers claims) where
  stops_under : (from : Option ℕ) (start : Claim) (stop : UnfoldStop) → IsStartOf s known from start → StopsUnfolding s.program_flows.now start claims order stop → StopsUnfoldingUnder s order stop
  stops_under from start stop is h = record {
    known = known;
    is_known = k;
    from = from;
    claim = start;
    start = is;
    stops = λ u of.
        stops_of_same_claims u s.program_flows.now.left_flow.now s.program_flows.now.right_flow.now claims (claims_of known) (to_known s order known numbers claims ranks at) (from_known s order known numbers claims ranks at) s.program_flows.now.budget stop (h u of);
  }

  search_stops : (from : Option ℕ) (start : Claim) (why : Cause) → IsStartOf s known from start → StopsStart s order claims start why → StopsSearch s order why
  search_stops from start (cause.Unmatched refuted) is h = absurd h
  search_stops from start (cause.OverflowQuestion question) is h = stops_under from start (found.Overflow question) is h
  search_stops from start (cause.OverflowHull points) is h = absurd h
  search_stops from start (cause.SpentQuestion question cost) is h = stops_under from start (found.Spent question cost) is h
  search_stops from start (cause.SpentPieces position kept) is h = absurd h
  search_stops from start (cause.SpentPaths paths) is h = stops_under from start (found.Paths paths) is h
  search_stops from start (cause.SpentOrders refuted) is h = absurd h

  pub output_ends : (stop : Stop) → EndsEarlyFirst s order claims stop → EndsEarly s order stop
  output_ends (Early why) h = search_stops None h.0 why h.1 h.2
  output_ends (Memory want) h = tt

  pub key_ends : (number : ℕ) (widening_point : WideningPointOf) (start : Claim) (stop : Stop) → slice_get known.widening_points.items number ≡ Some widening_point → start ≡ claim_of widening_point → EndsEarlyBy s order claims start stop → EndsEarly s order stop
  key_ends number widening_point start (Early why) e is h = search_stops (Some number) start why (widening_point, e, is) h
  key_ends number widening_point start (Memory want) e is h = tt
