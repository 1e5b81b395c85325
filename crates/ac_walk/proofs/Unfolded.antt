-- Unfoldings in the settings of a search.
use Rattle.std.proofs.Common.{◌≡◌, inl, ◌<◌, List, [], ◌∷◌, Bool, false, ℕ, zero, suc, Option, Some, None, length, map, refl, sym, ap, subst, ◌∙◌, arith}
use Rattle.std.specs.Prelude.{slice_get, unwrap_or, IfSome}
use Rattle.std.specs.List.{AllByRecursion}
use Rattle.ac_forms.specs.declared.row.Row.{Row}
use Rattle.ac_syntax.specs.declared.tree.Order.{Order}
use Rattle.ac_syntax.specs.declared.tree.Position.{Position}
use Rattle.ac_syntax.specs.declared.tree.Site.{Site}
use Rattle.ac_claims.specs.declared.types.Claim.{Claim}
use Rattle.ac_hull.proofs.Comparing.{each_from}
use Rattle.ac_widen_programs.specs.PairSetting.{IsOutputPair, PairAt}
use Rattle.ac_walk_state.specs.SearchSetting.{Widening, IsWideningOf}
use Rattle.ac_widen_programs.specs.BrokenPaths.{IsBroken}
use Rattle.ac_widen_programs.specs.PairPaths.{Unfolding, setting_of}
use Rattle.ac_unfold_plans.specs.ArgumentOrders.{order_of}
use Rattle.ac_unfold.specs.Unfoldings.{IsUnfoldingOf}
use Rattle.ac_widen.specs.declared.derivation.Entry.{Entry}
use Rattle.ac_unfold_plans.specs.PlanStops.{claim_positions}
use Rattle.ac_walk_state.specs.RecurrencePairs.{WideningPointOf, claim_of}
use Rattle.ac_walk_state.specs.OrderKnowledge.{IsWidenedAt, claims_of, pairs_of}
use Rattle.ac_walk_state.specs.Growth.{ArePathsOf, IsStart}
use Rattle.ac_walk_state.specs.declared.known.Known.{Known}
use Rattle.ac_walk_state.specs.Elements.{IsElementClaim}
use Rattle.ac_walk.specs.FoundMembers.{rows_at}
use Rattle.ac_walk.specs.OutputSearch.{AreTaken, IsKnownUnder, IsSearch}
use Rattle.ac_walk.specs.StartPaths.{AreBrokenFrom, IsPathFound, IsStartOf, start_among}
use Rattle.ac_walk.specs.declared.search_types.Search.{Search}
use Rattle.ac_walk.proofs.Lists.{all_map}
use Rattle.ac_walk.proofs.Programs.{lawful, pairing_is, template_is}

-- the unfolding of a claim under the order, which widens so
abbrev pub unfolding_by : Search → List (Site × Order) → Claim → (Position × Position → Bool) → (Position × Position → List Row) → Unfolding
unfolding_by s order claim recurrent template = record { pair = s.pair.now; order = order_of order; claim = claim; outputs = s.array ∷ []; recurrent = recurrent; template = template }

abbrev pub unfolding_at : Search → List (Site × Order) → Claim → Widening → Unfolding
unfolding_at s order claim w = unfolding_by s order claim w.recurrent (rows_at s.pair.now w)

-- and one that widens nowhere
abbrev pub plain_unfolding : Search → List (Site × Order) → Claim → Unfolding
plain_unfolding s order claim = unfolding_by s order claim (λ widening_point. false) (λ widening_point. [])

module _ (s : Search) (order : List (Site × Order)) (is : IsSearch s) where
  pub is_unfolding : (claim : Claim) (recurrent : Position × Position → Bool) (template : Position × Position → List Row) → IsUnfoldingOf s.program_flows.now claim order (unfolding_by s order claim recurrent template)
  is_unfolding claim recurrent template = record { programs = pairing_is s is; flows = is.flows; claim = refl; orders = λ widening_point. refl }

  begins : (known : Known) (from : Option ℕ) (claim : Claim) (recurrent : Position × Position → Bool) (template : Position × Position → List Row) → IsStartOf s known from claim → IsStart (unfolding_by s order claim recurrent template) known from
  begins known (Some at) claim recurrent template h = h
  begins known None claim recurrent template h = λ widening_point p of.
      let same : claim_positions claim ≡ widening_point = λ i. (sym of.left_is i, sym of.right_is i) in
      let there : PairAt s.pair.now (claim_positions claim) p = subst (λ k. PairAt s.pair.now k p) (sym same) of.there in
      subst (λ k. IsOutputPair s.pair.now (s.array ∷ []) k p) same ((h.exact (s.array ∷ []) (inl refl) p there).0 of.meets)

  pub are_paths : (known : Known) (from : Option ℕ) (paths : List (List Entry)) → IsKnownUnder s order known → (b : AreBrokenFrom s order known from paths) → (recurrent : Position × Position → Bool) (template : Position × Position → List Row)
      → ArePathsOf (unfolding_by s order b.claim recurrent template) s.template.now known from paths
  are_paths known from paths k b recurrent template = (
    record { arities = is.arities; is_known = k.right; start = begins known from b.claim recurrent template b.start },
    all_map (IsPathFound s.program_flows.now (unfolding_by s order b.claim recurrent template) (claims_of known)) (IsBroken (unfolding_by s order b.claim recurrent template) (claims_of known)) paths (λ path h. h.broken)
        (b.broken (unfolding_by s order b.claim recurrent template) (is_unfolding b.claim recurrent template)),
  )

  -- where the widening points are recurrence pairs, the setting of the search widens there
  pub widened : (known : Known) (claim : Claim) (w : Widening) → IsKnownUnder s order known → IsWideningOf s.pair.now s.array w → AreTaken s.stops.now w → IsWidenedAt (setting_of (unfolding_at s order claim w)) s.template.now known
  widened known claim w k v taken = record {
    lawful = lawful s w is v;
    templates = each_from _ (pairs_of known) (λ widening_point i. template_is s w is v widening_point);
    recur = each_from _ (pairs_of known) (λ widening_point i. taken widening_point ((k.pairs widening_point).0 i));
  }

-- ---- what an unfolding finds

pub is_start : (s : Search) (known : Known) (from : Option ℕ) (output : Claim) → IfSome from (λ at. at < length known.widening_points.items) → IsElementClaim s.pair.now s.array output → IsStartOf s known from (start_among output (claims_of known) from)
is_start s known (Some at) output l h = by known.widening_points.items at l
  where
    by : (widening_points : List WideningPointOf) (n : ℕ) → n < length widening_points → (widening_point : WideningPointOf) × (slice_get widening_points n ≡ Some widening_point) × (unwrap_or (slice_get (map claim_of widening_points) n) output ≡ claim_of widening_point)
    by [] n l = absurd (omega (arith, l))
    by (k ∷ ks) zero l = (k, refl, refl)
    by (k ∷ ks) (suc n) l = by ks n (omega (arith, l))
is_start s known None output l h = h

pub broken_from : (s : Search) (order : List (Site × Order)) (known : Known) (from : Option ℕ) (output : Claim) (claims listed given : List Claim) (start : Claim) (paths : List (List Entry)) → IsSearch s → IfSome from (λ at. at < length known.widening_points.items) → IsElementClaim s.pair.now s.array output
    → claims ≡ claims_of known → listed ≡ claims → given ≡ claims → start ≡ start_among output listed from → ((u : Unfolding) → IsUnfoldingOf s.program_flows.now start order u → AllByRecursion (IsPathFound s.program_flows.now u given) paths) → AreBrokenFrom s order known from paths
broken_from s order known from output claims listed given start paths is within h cs ls gs st broken =
    let first : start ≡ start_among output (claims_of known) from = st ∙ ap (λ (xs : List Claim). start_among output xs from) (ls ∙ cs) in
    record {
      claim = start;
      start = subst (IsStartOf s known from) (sym first) (is_start s known from output within h);
      broken = λ u of. subst (λ (xs : List Claim). AllByRecursion (IsPathFound s.program_flows.now u xs) paths) (gs ∙ cs) (broken u of);
    }
