-- The members that a search finds.
use Rattle.std.proofs.Common.{◌≡◌, ◌⊎◌, inl, inr, ℕ, ℤ, List, [], ◌∷◌, Option, Some, None, refl, sym, subst}
use Rattle.ac_forms.specs.ListMembers.{IsAmong}
use Rattle.ac_syntax.specs.declared.tree.Order.{Order}
use Rattle.ac_syntax.specs.declared.tree.Position.{Position}
use Rattle.ac_syntax.specs.declared.tree.Site.{Site}
use Rattle.ac_claims.specs.declared.types.Claim.{Claim}
use Rattle.ac_hull.proofs.Comparing.{each_from}
use Rattle.ac_widen.specs.DerivationPaths.{AreAt}
use Rattle.ac_widen.specs.Derivations.{StandsAt}
use Rattle.ac_widen.specs.declared.derivation.Entry.{Entry}
use Rattle.ac_widen_programs.specs.DerivationEntries.{entries_of}
use Rattle.ac_unfold_plans.specs.ArgumentOrders.{order_of}
use Rattle.ac_walk_state.specs.SearchSetting.{Widening, IsWideningOf, searched}
use Rattle.ac_walk_state.specs.RecurrencePairs.{WideningPointOf, IsMemberOf, claim_of, positions}
use Rattle.ac_walk_state.specs.RecurrencePairInvariant.{IsWideningPoint, IsWideningPointIn}
use Rattle.ac_walk_state.specs.PathEnds.{entry_positions}
use Rattle.ac_walk_state.specs.OrderKnowledge.{IsKnown, IsWide, claims_of}
use Rattle.ac_walk_state.specs.Growth.{IsEndAt, IsMemberAt, MembersEnd}
use Rattle.ac_walk_state.specs.GrowthStops.{Come}
use Rattle.ac_walk_state.specs.declared.known.Known.{Known}
use Rattle.ac_walk_state.specs.declared.template.Template.{Template}
use Rattle.ac_syntax.specs.declared.tree.Pair.{Pair}
use Rattle.ac_walk_state.proofs.LastItems.{all_in, among_map, each_in}
use Rattle.ac_walk_state.proofs.Standing.{key_in}
use Rattle.ac_walk.specs.FoundMembers.{AreFound, AreFoundBeside, AreKnown, IsFoundMember, IsStartAmong, end, rows_at}
use Rattle.ac_walk.specs.OutputSearch.{AreTaken, IsKnownUnder, IsSearch}
use Rattle.ac_walk.specs.StartPaths.{AreBrokenFrom, IsPathFound, IsStartOf}
use Rattle.ac_walk.specs.declared.search_types.Search.{Search}
use Rattle.ac_walk.proofs.Lists.{get_among}
use Rattle.ac_walk.proofs.Programs.{template_is}
use Rattle.ac_walk.proofs.Unfolded.{is_unfolding, unfolding_at}

-- without entries there are none
none_at : (es : List Entry) (k : Position × Position) (ns : List ℕ) (ps : List (List ℤ)) (p : List ℤ) → es ≡ [] → AreAt (entries_of es) k ns ps → ¬ (IsAmong p ps)
none_at es k [] [] p e a i = absurd i
none_at es k [] (q ∷ ps) p e a i = absurd a
none_at es k (n ∷ ns) [] p e a i = absurd i
none_at es k (n ∷ ns) (q ∷ ps) p e a i = by (subst (λ (xs : List Entry). StandsAt (entries_of xs) n k q) e a.0)
  where
    by : StandsAt (entries_of []) n k q → ⊥
    by h = let g = h.1 in absurd cc

pub none_known : (pair : Pair) (t : Template) (known : Known) (k : WideningPointOf) (p : List ℤ) → known.entries ≡ [] → IsKnown pair t known → IsAmong k known.widening_points.items → ¬ (IsMemberOf k p)
none_known pair t known k p none is among member =
    let right = each_in (IsWideningPoint t (entries_of known.entries)) known.widening_points.items k is.widening_points among in
    elim member [ inl m ↦ none_at known.entries (positions k) k.places k.members p none right.1.found_stand m | inr m ↦ none_at known.entries (positions k) k.kept k.hull.members p none right.1.members_stand m ]

-- in a setting of the search
module _ (s : Search) (order : List (Site × Order)) (is : IsSearch s) (w : Widening) (v : IsWideningOf s.pair.now s.array w) (taken : AreTaken s.stops.now w) where
  pub are_known : (known : Known) → IsKnownUnder s order known → AreKnown s.pair.now s.array w (order_of order) known.widening_points.items
  are_known known k = record {
    entries = known.entries;
    derived = k.derived w v taken;
    right = each_from (IsWideningPointIn (searched s.pair.now s.array w) (entries_of known.entries)) known.widening_points.items
        (λ widening_point among.
        key_in (searched s.pair.now s.array w) s.template.now (entries_of known.entries) widening_point (each_in (IsWideningPoint s.template.now (entries_of known.entries)) known.widening_points.items widening_point k.right.widening_points among)
        (each_in (IsWide s.pair.now) known.widening_points.items widening_point k.right.widths among) (template_is s w is v (positions widening_point)));
    recur = λ pair. ((λ i. taken pair ((k.pairs pair).0 i)), λ e. (k.pairs pair).1 (is.stops w v pair e));
    distinct = k.right.distinct;
  }

  -- a start of what is known
  pub start_is : (known : Known) (from : Option ℕ) (claim : Claim) → IsStartOf s known from claim → IsStartAmong s.pair.now s.array known.widening_points.items claim
  start_is known (Some at) claim h = inr (subst (λ (c : Claim). IsAmong c (claims_of known)) (sym h.2) (among_map claim_of known.widening_points.items h.0 (get_among known.widening_points.items at h.0 h.1)))
  start_is known None claim h = inl h

  abbrev Found : Position × Position → List ℤ → Type 0
  Found pair p = IsFoundMember s.pair.now s.array w (order_of order) s.program_flows.now.left_flow.now s.program_flows.now.right_flow.now pair p

  -- the paths of a start, and what is known before them
  module _ (known : Known) (from : Option ℕ) (paths : List (List Entry)) (k : IsKnownUnder s order known) (b : AreBrokenFrom s order known from paths) where
    found_at : (pair : Position × Position) (p : List ℤ) → IsMemberAt known.widening_points.items pair p ⊎ IsEndAt paths pair p → Found pair p
    found_at pair p (inl m) = subst (λ (j : Position × Position). Found j p) m.2 (k.found w v taken m.0 p m.1 m.3)
    found_at pair p (inr e) =
        let u = unfolding_at s order b.claim w in
        let path = all_in (IsPathFound s.program_flows.now u (claims_of known)) paths e.0 (b.broken u (is_unfolding s order is b.claim w.recurrent (rows_at s.pair.now w))) e.1 in
        let there : Found (entry_positions e.2) e.2.point = end known.widening_points.items b.claim e.0 e.2 (are_known known k) (k.found w v taken) (start_is known from b.claim b.start) path.found e.3 in
        subst (λ (j : Position × Position). Found j p) e.4 (subst (Found (entry_positions e.2)) e.5 there)

    pub found_after : (next : Known) → MembersEnd known.widening_points.items paths next.widening_points.items
        → AreFound s.pair.now s.array w (order_of order) s.program_flows.now.left_flow.now s.program_flows.now.right_flow.now next.widening_points.items
    found_after next ends x p among m = found_at (positions x) p (ends (positions x) p (x, among, refl, m))

    pub found_beside : (pair : Position × Position) (members : List (List ℤ)) (point : List ℤ) → Come known paths pair members point
        → AreFoundBeside s.pair.now s.array w (order_of order) s.program_flows.now.left_flow.now s.program_flows.now.right_flow.now pair members point
    found_beside pair members point come = record { each = λ p i. found_at pair p (come.members_come p i); last = elim come.point_comes [ inl e ↦ inl (found_at pair point (inr e)) | inr n ↦ inr n ] }
