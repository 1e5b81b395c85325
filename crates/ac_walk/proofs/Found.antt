-- The part of an output that stands.
use Rattle.std.proofs.Common.{◌≡◌, ◌⊎◌, inl, inr, ◌<◌, ◌&&◌, ℕ, zero, suc, ◌+◌, List, [], ◌∷◌, ◌++◌, append_assoc, length, length-append, take, drop, Bool, true, false, Some, nat_le, refl, sym, ap, subst, ◌∙◌, arith}
use Rattle.std.specs.Prelude.{slice_get}
use Rattle.std.specs.List.{AllByRecursion}
use Rattle.std.proofs.lemmas.Bool.{le-leb}
use Rattle.std.proofs.Math.Seq.{take-length}
use Rattle.ac_forms.specs.ListMembers.{IsAmong}
use Rattle.ac_forms.specs.declared.row.Row.{Row}
use Rattle.ac_syntax.specs.declared.tree.Order.{Order}
use Rattle.ac_syntax.specs.declared.tree.Position.{Position}
use Rattle.ac_syntax.specs.declared.tree.Position.TheVariants.{Output}
use Rattle.ac_syntax.specs.declared.tree.Site.{Site}
use Rattle.ac_claims.specs.declared.types.Claim.{Claim}
use Rattle.ac_claims.specs.declared.types.ClaimTree.{ClaimTree}
use Rattle.ac_claims_plans.specs.PlanAcceptance.{AcceptsPlan}
use Rattle.ac_graph.specs.PairMoves.{IsRoot}
use Rattle.ac_walk_state.specs.Hits.{HitsWithin, TreesHitWithin}
use Rattle.ac_walk_state.proofs.First.{first_claims_accept}
use Rattle.ac_walk_state.proofs.Cut.{stops_are_cut}
use Rattle.ac_hull.specs.Templates.{template_rows}
use Rattle.ac_widen.specs.Claims.{IsClaimRow}
use Rattle.ac_widen.specs.Combinations.{Each}
use Rattle.ac_widen.proofs.Combining.{each_among}
use Rattle.ac_widen.proofs.Walking.{kept_rows}
use Rattle.ac_widen_programs.specs.PairSetting.{point_width}
use Rattle.ac_walk_state.specs.SearchSetting.{Widening, IsWideningOf}
use Rattle.ac_unfold_plans.specs.PlanStops.{claim_positions, programs_of}
use Rattle.ac_widen_programs.specs.DerivationEntries.{entries_of}
use Rattle.ac_unfold_plans.specs.ArgumentOrders.{order_of}
use Rattle.ac_claims_plans.specs.DuePlans.{StartsAccepted}
use Rattle.ac_walk_state.specs.RecurrencePairs.{WideningPointOf, claim_of, positions}
use Rattle.ac_walk_state.specs.RecurrencePairInvariant.{IsWideningPoint, bare, kept_of, template_at}
use Rattle.ac_walk_state.specs.OrderKnowledge.{IsWide, pairs_of}
use Rattle.ac_walk_state.specs.declared.known.Known.{Known}
use Rattle.ac_walk_state.specs.Elements.{IsElementClaim}
use Rattle.ac_walk_state.specs.ProofParts.{in_part}
use Rattle.ac_walk_state.specs.ClaimPlans.{ArePlanned, IsTreeAccepted}
use Rattle.ac_walk_state.specs.PartStops.{TreeStops}
use Rattle.ac_walk_state.specs.declared.types.Part.{Part}
use Rattle.ac_walk.specs.PartConstruction.{HaveClaims, IsBegun, IsPartly, IsPlanned, IsPlannedTo}
use Rattle.ac_walk.proofs.ApartClaims.{AreApart}
use Rattle.ac_walk.specs.Ranks.{AreClaimsAt, AreRanks}
use Rattle.ac_walk.specs.FoundMembers.{rows_at}
use Rattle.ac_walk.specs.OutputSearch.{IsFound, IsKnownUnder, IsSearch}
use Rattle.ac_walk.specs.declared.planning.Planning.{Planning}
use Rattle.ac_walk.specs.declared.planning.Planning.TheVariants as planning
use Rattle.ac_walk.specs.declared.search_types.Search.{Search}
use Rattle.ac_walk.proofs.Lists.{all_both, among_both, among_map, among_take, get_among, get_front, get_map, take_rest}
use Rattle.ac_walk.proofs.Programs.{recurring, template_is}
use Rattle.ac_walk.proofs.Ranked.{claim_of_key, counted, key_has_claim}

-- ---- claims of widening points

-- a claim stands at each of the pairs up to which the search goes
pub have_claims : (s : Search) (order : List (Site × Order)) (known : Known) (numbers : List ℕ) (claims : List Claim) → IsKnownUnder s order known → AreRanks known.widening_points.items numbers → AreClaimsAt known.widening_points.items numbers claims → HaveClaims s.stops.now claims
have_claims s order known numbers claims k r a widening_point i =
    let of = among_map positions known.widening_points.items widening_point ((k.pairs widening_point).1 i) in
    (claim_of of.0, key_has_claim known.widening_points.items numbers claims of.0 r a of.1, sym of.2)

-- the rows of a claim are claim rows
key_rows : (s : Search) (order : List (Site × Order)) (known : Known) (w : Widening) (widening_point : WideningPointOf) → IsSearch s → IsKnownUnder s order known → IsWideningOf s.pair.now s.array w → IsAmong widening_point known.widening_points.items
    → Each (IsClaimRow (rows_at s.pair.now w (positions widening_point))) (claim_of widening_point).rows
key_rows s order known w widening_point is k v i =
    let right : IsWideningPoint s.template.now (entries_of known.entries) widening_point = each_among (IsWideningPoint s.template.now (entries_of known.entries)) widening_point known.widening_points.items k.right.widening_points i in
    let wide : widening_point.hull.columns ≡ point_width s.pair.now (positions widening_point) = each_among (IsWide s.pair.now) widening_point known.widening_points.items k.right.widths i in
    let same : template_at s.template.now widening_point ≡ rows_at s.pair.now w (positions widening_point) =
    ap (λ (n : ℕ). template_rows n s.template.now.thresholds s.template.now.moduli) wide ∙ sym (template_is s w is v (positions widening_point)) in
    let rows = kept_rows (bare widening_point.hull.columns (template_at s.template.now widening_point)) (entries_of known.entries) (positions widening_point) (kept_of (template_at s.template.now widening_point) widening_point) right.1 in
    subst (λ (t : List Row). Each (IsClaimRow t) (claim_of widening_point).rows) same rows

one_key : (known : Known) (i j : ℕ) (widening_point other : WideningPointOf) → slice_get known.widening_points.items i ≡ Some widening_point → slice_get known.widening_points.items j ≡ Some other → i ≡ j → widening_point ≡ other
one_key known i j widening_point other a b e = let c : slice_get known.widening_points.items j ≡ Some widening_point = subst (λ (n : ℕ). slice_get known.widening_points.items n ≡ Some widening_point) e a in cc

-- ---- the output

-- an output is no recurrence pair
no_output : (s : Search) (w : Widening) (c : Claim) → IsSearch s → IsWideningOf s.pair.now s.array w → c.left ≡ Output s.array → c.right ≡ Output s.array → ¬ (w.recurrent (claim_positions c) ≡ true)
no_output s w c is v l r e = by ((recurring s w is v).recur (claim_positions c) e).root
  where
    by : IsRoot c.left ⊎ IsRoot c.right → ⊥
    by (inl a) = subst IsRoot l a
    by (inr b) = subst IsRoot r b

head_taken : {A : Type 0} (x : A) (xs : List A) (n : ℕ) → 0 < n → slice_get (take n (x ∷ xs)) 0 ≡ Some x
head_taken x xs zero l = absurd (omega (arith, l))
head_taken x xs (suc n) l = refl

-- ---- plans that end at the first claims

parts_true : (a b : Bool) → a && b ≡ true → (a ≡ true) × (b ≡ true)
parts_true true b h = (refl, h)
parts_true false b h = absurd cc

both_true : (a b : Bool) → a ≡ true → b ≡ true → a && b ≡ true
both_true a b h k = (λ i. h i && b) ∙ k

in_fewer : (first all few c : ℕ) → in_part first all c ≡ true → c < first + few → in_part first few c ≡ true
in_fewer first all few c h l = both_true (nat_le first c) (nat_le (suc c) (first + few)) (parts_true (nat_le first c) (nat_le (suc c) (first + all)) h).0 (le-leb (suc c) (first + few) (omega (arith, l)))

-- of all claims those of the part are the first ones
parts_of_all : (s : Search) (order : List (Site × Order)) (all : List Claim) (part : Part) → IsPartly s order all part → (rest : List Claim) × (part.claims.items ++ rest ≡ all)
parts_of_all s order all part partly =
    let n = length part.claims.items in
    (drop n all, ap (λ cs. cs ++ drop n all) partly.claims ∙ take_rest all n)

-- the plans of the part, by its own claims
record IsOwn (s : Search) (order : List (Site × Order)) (part : Part) : Type 0 where
  planned : (before : List Claim) → length before ≡ s.first → ArePlanned (programs_of s.pair.now) (before ++ part.claims.items) s.first part.claims.items part.trees.items
  stops : (before : List Claim) → length before ≡ s.first → (w : Widening) → IsWideningOf s.pair.now s.array w
      → AllByRecursion (TreeStops s.pair.now (order_of order) w.recurrent (in_part s.first (length part.claims.items)) (before ++ part.claims.items)) part.trees.items

-- where all claims are there
own_whole : (s : Search) (order : List (Site × Order)) (all : List Claim) (part : Part) → IsPartly s order all part → length part.claims.items ≡ length all → IsOwn s order part
own_whole s order all part partly long =
    let same : all ≡ part.claims.items = sym (partly.claims ∙ ap (λ (n : ℕ). take n all) long ∙ take-length all) in
    record {
      planned = λ before len. subst (λ cs. ArePlanned (programs_of s.pair.now) (before ++ cs) s.first part.claims.items part.trees.items) same (partly.planned before len);
      stops = λ before len w v. subst (λ cs. AllByRecursion (TreeStops s.pair.now (order_of order) w.recurrent (in_part s.first (length cs)) (before ++ cs)) part.trees.items) same (partly.stops before len w v);
    }

-- where no plan ends at another one
own_cut : (s : Search) (order : List (Site × Order)) (all : List Claim) (part : Part) → IsPartly s order all part → TreesHitWithin (s.first + length part.claims.items) part.trees.items → IsOwn s order part
own_cut s order all part partly hits =
    let own = part.claims.items in
    let rest = (parts_of_all s order all part partly).0 in
    let whole = (parts_of_all s order all part partly).1 in
    record {
      planned = λ before len.
          let p = partly.planned before len in
          let again : (before ++ own) ++ rest ≡ before ++ all = append_assoc before own rest ∙ ap (λ cs. before ++ cs) whole in
          let count : s.first + length own ≡ length (before ++ own) = ap (λ (n : ℕ). n + length own) (sym len) ∙ sym (length-append before own) in
          record {
            made = p.made;
            due = p.due;
            accepted = all_both (IsTreeAccepted (programs_of s.pair.now) (before ++ all)) (λ (t : ClaimTree). HitsWithin (s.first + length own) t.tree.next) (IsTreeAccepted (programs_of s.pair.now) (before ++ own)) part.trees.items
                (λ t accepted within. accepted_by_first (before ++ own) rest (before ++ all) again t (subst (λ (n : ℕ). HitsWithin n t.tree.next) count within) accepted) p.accepted hits;
          };
      stops = λ before len w v.
          let again : (before ++ own) ++ rest ≡ before ++ all = append_assoc before own rest ∙ ap (λ cs. before ++ cs) whole in
          all_both (TreeStops s.pair.now (order_of order) w.recurrent (in_part s.first (length all)) (before ++ all)) (λ (t : ClaimTree). HitsWithin (s.first + length own) t.tree.next)
          (TreeStops s.pair.now (order_of order) w.recurrent (in_part s.first (length own)) (before ++ own)) part.trees.items
          (λ t stops within c e h widening_point gone. stops_are_cut s.pair.now (order_of order) w.recurrent (in_part s.first (length all)) (in_part s.first (length own)) (s.first + length own) (λ n b l. in_fewer s.first (length all) (length own) n b l) t.tree h within
          (stops c (there (before ++ own) rest (before ++ all) again t.claim c e) h widening_point gone)) (partly.stops before len w v) hits;
    }
  where
    there : (first further all : List Claim) → first ++ further ≡ all → (n : ℕ) (c : Claim) → slice_get first n ≡ Some c → slice_get all n ≡ Some c
    there first further all is n c e = subst (λ cs. slice_get cs n ≡ Some c) is (get_front first further n c e)

    accepted_by_first : (first further all : List Claim) → first ++ further ≡ all → (t : ClaimTree) → HitsWithin (length first) t.tree.next → IsTreeAccepted (programs_of s.pair.now) all t → IsTreeAccepted (programs_of s.pair.now) first t
    accepted_by_first first further all is t within accepted c e =
        let of : StartsAccepted (programs_of s.pair.now) all c t = accepted c (there first further all is t.claim c e) in
        record {
          path = of.path;
          starts = of.starts;
          accepted = first_claims_accept (programs_of s.pair.now) first further t.tree of.path within (subst (λ cs. AcceptsPlan (programs_of s.pair.now) cs t.tree of.path) (sym is) of.accepted);
        }

-- ---- the part

-- the claims of the widening points, and behind them tabled ones, none of which is of a pair up to which the search goes
module _ (s : Search) (order : List (Site × Order)) (known : Known) (numbers : List ℕ) (claims tabled : List Claim) (is : IsSearch s) (k : IsKnownUnder s order known) (at : AreClaimsAt known.widening_points.items numbers claims) (apart : AreApart s tabled) where
  among_own : (count : ℕ) (part : Part) (b : IsBegun s order claims tabled count part) (c : Claim) → IsAmong c part.claims.items → (c ≡ b.output) ⊎ (IsAmong c claims ⊎ IsAmong c tabled)
  among_own count part b c i = by (among_take (b.output ∷ (claims ++ tabled)) (length part.claims.items) c (subst (IsAmong c) b.partly.claims i))
    where
      by : (c ≡ b.output) ⊎ IsAmong c (claims ++ tabled) → (c ≡ b.output) ⊎ (IsAmong c claims ⊎ IsAmong c tabled)
      by (inl e) = inl e
      by (inr m) = inr (among_both claims tabled c m)

  not_output : (w : Widening) (output : Claim) → IsElementClaim s.pair.now s.array output → IsWideningOf s.pair.now s.array w → ¬ (w.recurrent (claim_positions output) ≡ true)
  not_output w output e v = no_output s w output is v e.left_is e.right_is

  not_tabled : (w : Widening) (c : Claim) → IsWideningOf s.pair.now s.array w → IsAmong c tabled → ¬ (w.recurrent (claim_positions c) ≡ true)
  not_tabled w c v i recurs = apart c i (claim_positions c) (is.stops w v (claim_positions c) recurs) refl

  alone : (count : ℕ) (part : Part) (b : IsBegun s order claims tabled count part) (w : Widening) → IsWideningOf s.pair.now s.array w → (c d : Claim) → IsAmong c part.claims.items → IsAmong d part.claims.items → w.recurrent (claim_positions c) ≡ true → claim_positions c ≡ claim_positions d → c ≡ d
  alone count part b w v c d i j recurs same = by (among_own count part b c i) (among_own count part b d j)
    where
      other_recurs : w.recurrent (claim_positions d) ≡ true
      other_recurs = subst (λ (widening_point : Position × Position). w.recurrent widening_point ≡ true) same recurs

      by : (c ≡ b.output) ⊎ (IsAmong c claims ⊎ IsAmong c tabled) → (d ≡ b.output) ⊎ (IsAmong d claims ⊎ IsAmong d tabled) → c ≡ d
      by (inl e) f = absurd (not_output w b.output b.is_output v (subst (λ (x : Claim). w.recurrent (claim_positions x) ≡ true) e recurs))
      by (inr (inr m)) f = absurd (not_tabled w c v m recurs)
      by (inr (inl m)) (inl f) = absurd (not_output w b.output b.is_output v (subst (λ (x : Claim). w.recurrent (claim_positions x) ≡ true) f other_recurs))
      by (inr (inl m)) (inr (inr n)) = absurd (not_tabled w d v n other_recurs)
      by (inr (inl m)) (inr (inl n)) =
          let of = claim_of_key known.widening_points.items numbers claims c at m in
          let other = claim_of_key known.widening_points.items numbers claims d at n in
          let one : positions of.1.0 ≡ positions other.1.0 = sym (ap claim_positions of.1.2) ∙ same ∙ ap claim_positions other.1.2 in
          let place = get_map positions known.widening_points.items of.0 of.1.0 of.1.1 in
          let other_place : slice_get (pairs_of known) other.0 ≡ Some (positions of.1.0) = get_map positions known.widening_points.items other.0 other.1.0 other.1.1 ∙ ap Some (sym one) in
          of.1.2 ∙ ap claim_of (one_key known of.0 other.0 of.1.0 other.1.0 of.1.1 other.1.1 (k.right.distinct of.0 other.0 (positions of.1.0) place other_place)) ∙ sym other.1.2

  rows : (count : ℕ) (part : Part) (b : IsBegun s order claims tabled count part) (w : Widening) → IsWideningOf s.pair.now s.array w → (c : Claim) → IsAmong c part.claims.items → w.recurrent (claim_positions c) ≡ true → Each (IsClaimRow (rows_at s.pair.now w (claim_positions c))) c.rows
  rows count part b w v c i recurs = by (among_own count part b c i)
    where
      by : (c ≡ b.output) ⊎ (IsAmong c claims ⊎ IsAmong c tabled) → Each (IsClaimRow (rows_at s.pair.now w (claim_positions c))) c.rows
      by (inl e) = absurd (not_output w b.output b.is_output v (subst (λ (x : Claim). w.recurrent (claim_positions x) ≡ true) e recurs))
      by (inr (inr m)) = absurd (not_tabled w c v m recurs)
      by (inr (inl m)) =
          let of = claim_of_key known.widening_points.items numbers claims c at m in
          subst (λ (x : Claim). Each (IsClaimRow (rows_at s.pair.now w (claim_positions x))) x.rows) (sym of.1.2) (key_rows s order known w of.1.0 is k v (get_among known.widening_points.items of.0 of.1.0 of.1.1))

  found_by : (count : ℕ) (part : Part) → IsBegun s order claims tabled count part → IsOwn s order part → IsFound s.pair.now (order_of order) s.array s.first part
  found_by count part b own = record {
    is_part = λ before len. record {
      among = is.output;
      claim = b.output;
      first = subst (λ cs. slice_get cs 0 ≡ Some b.output) (sym b.partly.claims) (head_taken b.output (claims ++ tabled) (length part.claims.items) (let n = b.counted in omega (arith, n)));
      output = b.is_output.output;
      planned = subst (λ (n : ℕ). ArePlanned (programs_of s.pair.now) (before ++ part.claims.items) n part.claims.items part.trees.items) (sym len) (own.planned before len);
    };
    stops = λ before len w v. record {
      trees = own.stops before len w v;
      alone = alone count part b w v;
      rows = rows count part b w v;
    };
  }

  pub found_cut : (count : ℕ) (part : Part) → IsBegun s order claims tabled count part → TreesHitWithin (s.first + length part.claims.items) part.trees.items → IsFound s.pair.now (order_of order) s.array s.first part
  found_cut count part b hits = found_by count part b (own_cut s order (b.output ∷ (claims ++ tabled)) part b.partly hits)

  pub found_whole : (count : ℕ) (part : Part) → IsBegun s order claims tabled count part → count ≡ length (claims ++ tabled) → IsFound s.pair.now (order_of order) s.array s.first part
  found_whole count part b long =
      let whole : length part.claims.items ≡ length (b.output ∷ (claims ++ tabled)) = (let n = b.counted in omega (arith, n, long)) in
      found_by count part b (own_whole s order (b.output ∷ (claims ++ tabled)) part b.partly whole)

-- where nothing is tabled
pub nothing_apart : (s : Search) → AreApart s []
nothing_apart s c i widening_point j = absurd i

-- what comes of the plans of all of them
pub found_all : (s : Search) (order : List (Site × Order)) (known : Known) (numbers : List ℕ) (claims : List Claim) (count : ℕ) (made : Planning) → IsSearch s → IsKnownUnder s order known → AreClaimsAt known.widening_points.items numbers claims → count ≡ length numbers
    → IsPlannedTo s order known claims [] count made → IsPlanned s order known made
found_all s order known numbers claims count (planning.Part part) is k at e h =
    let long : length numbers ≡ length claims = counted known.widening_points.items numbers claims at in
    let none : length (claims ++ []) ≡ length claims + 0 = length-append claims [] in
    found_whole s order known numbers claims [] is k at (nothing_apart s) count part h (omega (arith, e, long, none))
found_all s order known numbers claims count (planning.Broken from path) is k at e h = h
