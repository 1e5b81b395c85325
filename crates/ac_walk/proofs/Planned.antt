-- Plans of the output and of claims, start by start.
use Rattle.std.proofs.Common.{◌≡◌, inl, inr, ◌<◌, ℕ, suc, ◌+◌, List, [], ◌∷◌, ◌++◌, length, map, Some, None, get_or, sym, ap, subst, ◌∙◌, arith}
use Rattle.std.specs.Prelude.{slice_get}
use Rattle.std.specs.List.{AllByRecursion}
use Rattle.ac_forms.specs.ListMembers.{IsAmong}
use Rattle.ac_forms.specs.Rows.{AreRowsOver}
use Rattle.ac_syntax.specs.declared.tree.Order.{Order}
use Rattle.ac_syntax.specs.declared.tree.Site.{Site}
use Rattle.ac_claims.specs.declared.types.Claim.{Claim}
use Rattle.ac_widen.specs.declared.derivation.Entry.{Entry}
use Rattle.ac_widen.proofs.Combining.{each_among}
use Rattle.ac_widen_programs.specs.PairPaths.{Unfolding}
use Rattle.ac_widen_programs.specs.PairSetting.{point_width}
use Rattle.ac_unfold_plans.specs.PlanStops.{claim_positions}
use Rattle.ac_unfold.specs.Unfoldings.{IsUnfoldingOf}
use Rattle.ac_walk_state.specs.RecurrencePairs.{WideningPointOf, claim_of, positions}
use Rattle.ac_walk_state.specs.OrderKnowledge.{IsWide, claims_of}
use Rattle.ac_walk_state.specs.declared.known.Known.{Known}
use Rattle.ac_walk_state.specs.Elements.{IsElementClaim}
use Rattle.ac_walk_state.specs.declared.types.Part.{Part}
use Rattle.ac_walk.specs.PartConstruction.{AddsNext, IsBegun, IsBrokenBy}
use Rattle.ac_walk.specs.Ranks.{AreClaimsAt, AreRanks}
use Rattle.ac_walk.specs.OutputSearch.{IsKnownUnder}
use Rattle.ac_walk.specs.StartPaths.{AreBrokenFrom, IsPathFound}
use Rattle.ac_walk.specs.declared.search_types.Search.{Search}
use Rattle.ac_walk.proofs.Asked.{found_there}
use Rattle.ac_walk.proofs.SameClaims.{broken_there}
use Rattle.ac_walk.proofs.Lists.{among_map, get_among, get_front, get_some}
use Rattle.ac_walk.proofs.Ranked.{claim_of_key, claim_there, key_has_claim}

-- ---- broken paths

module _ (s : Search) (order : List (Site × Order)) (known : Known) (numbers : List ℕ) (claims : List Claim) (ranks : AreRanks known.widening_points.items numbers) (at : AreClaimsAt known.widening_points.items numbers claims) where
  among_claims : (widening_points : List WideningPointOf) (widening_point : WideningPointOf) → IsAmong widening_point widening_points → IsAmong (claim_of widening_point) (map claim_of widening_points)
  among_claims [] widening_point h = absurd h
  among_claims (k ∷ widening_points) widening_point (inl e) = inl (ap claim_of e)
  among_claims (k ∷ widening_points) widening_point (inr h) = inr (among_claims widening_points widening_point h)

  pub to_known : (c : Claim) → IsAmong c claims → IsAmong c (claims_of known)
  to_known c i =
      let of = claim_of_key known.widening_points.items numbers claims c at i in
      subst (λ (x : Claim). IsAmong x (claims_of known)) (sym of.1.2) (among_claims known.widening_points.items of.1.0 (get_among known.widening_points.items of.0 of.1.0 of.1.1))

  pub from_known : (c : Claim) → IsAmong c (claims_of known) → IsAmong c claims
  from_known c i =
      let of = among_map claim_of known.widening_points.items c i in
      subst (λ (x : Claim). IsAmong x claims) (sym of.2) (key_has_claim known.widening_points.items numbers claims of.0 ranks at of.1)

  one_path : (start : Claim) (path : List Entry) → IsBrokenBy s order claims start path → (u : Unfolding) → IsUnfoldingOf s.program_flows.now start order u → AllByRecursion (IsPathFound s.program_flows.now u (claims_of known)) (path ∷ [])
  one_path start path b u of = (
    record {
      broken = broken_there u claims (claims_of known) to_known from_known path (b u of).broken;
      found = found_there u s.program_flows.now.left_flow.now s.program_flows.now.right_flow.now claims (claims_of known) to_known from_known path (b u of).found;
    },
    tt,
  )

  pub broken_output : (output : Claim) (path : List Entry) → IsElementClaim s.pair.now s.array output → IsBrokenBy s order claims output path → AreBrokenFrom s order known None (path ∷ [])
  broken_output output path is b = record { claim = output; start = is; broken = one_path output path b }

  pub broken_key : (number : ℕ) (widening_point : WideningPointOf) (start : Claim) (path : List Entry) → slice_get known.widening_points.items number ≡ Some widening_point → start ≡ claim_of widening_point → IsBrokenBy s order claims start path → AreBrokenFrom s order known (Some number) (path ∷ [])
  broken_key number widening_point start path e is b = record { claim = start; start = (widening_point, e, is); broken = one_path start path b }

-- ---- the next claim

pub next_begun : (s : Search) (order : List (Site × Order)) (claims tabled : List Claim) (at : ℕ) (part longer : Part) (start : Claim) → slice_get claims at ≡ Some start → IsBegun s order claims tabled at part → AddsNext s order (claims ++ tabled) start part longer
    → IsBegun s order claims tabled (at + 1) longer
next_begun s order claims tabled at part longer start e b adds =
    let place : length part.claims.items ≡ suc at = (let n = b.counted in omega (arith, n)) in
    let next : slice_get (b.output ∷ (claims ++ tabled)) (length part.claims.items) ≡ Some start = ap (λ (n : ℕ). slice_get (b.output ∷ (claims ++ tabled)) n) place ∙ get_front claims tabled at start e in
    let grown = adds b.output next b.partly in
    record { output = b.output; is_output = b.is_output; partly = grown.0; counted = (let n = b.counted in let m = grown.1 in omega (arith, n, m)) }

-- the rows of the claim of a widening point are over the columns there
pub rows_over : (s : Search) (order : List (Site × Order)) (known : Known) (number : ℕ) (widening_point : WideningPointOf) (start : Claim) → IsKnownUnder s order known → slice_get known.widening_points.items number ≡ Some widening_point → start ≡ claim_of widening_point → AreRowsOver widening_point.hull.columns start.rows
    → AreRowsOver (point_width s.pair.now (claim_positions start)) start.rows
rows_over s order known number widening_point start k e is over =
    let wide : widening_point.hull.columns ≡ point_width s.pair.now (positions widening_point) = each_among (IsWide s.pair.now) widening_point known.widening_points.items k.right.widths (get_among known.widening_points.items number widening_point e) in
    let there : positions widening_point ≡ claim_positions start = sym (ap claim_positions is) in
    subst (λ (n : ℕ). AreRowsOver n start.rows) (wide ∙ ap (point_width s.pair.now) there) over

-- the claim with the number is that of the widening point with its number
pub claim_is : (known : Known) (numbers : List ℕ) (claims : List Claim) (at number : ℕ) (widening_point : WideningPointOf) (start : Claim) → AreClaimsAt known.widening_points.items numbers claims → slice_get numbers at ≡ Some number → slice_get known.widening_points.items number ≡ Some widening_point → start ≡ claim_of widening_point → slice_get claims at ≡ Some start
claim_is known numbers claims at number widening_point start h n k is =
    let of = claim_there known.widening_points.items numbers claims at number h n in
    let same : of.2.0 ≡ widening_point = (let a = of.2.1 in let b = k in cc) in
    of.1 ∙ ap Some (of.2.2 ∙ ap claim_of same ∙ sym is)

-- the widening point with a number, of a slice of the widening points
pub key_there : (widening_points given : List WideningPointOf) (number : ℕ) (widening_point : WideningPointOf) → given ≡ widening_points → number < length widening_points → widening_point ≡ get_or given number widening_point → slice_get widening_points number ≡ Some widening_point
key_there widening_points given number widening_point same within is = get_some widening_points number widening_point within ∙ ap Some (sym (is ∙ ap (λ (ks : List WideningPointOf). get_or ks number widening_point) same))
