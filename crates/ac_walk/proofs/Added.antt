-- A start with its plans, added to a part.
use Rattle.std.proofs.Common.{◌≡◌, ◌<◌, ◌≤◌, ◌&&◌, ℕ, zero, suc, ◌+◌, ℤ, pos, List, [], ◌∷◌, ◌++◌, length, length-append, map, take, Bool, true, Some, nat_le, refl, sym, ap, subst, ◌∙◌, arith}
use Rattle.std.specs.Prelude.{slice_get, Vec, Result, Ok, Err, IfOk}
use Rattle.std.specs.declared.alloc.Global.{Global}
use Rattle.std.specs.List.{AllByRecursion}
use Rattle.std.proofs.lemmas.Bool.{le-leb}
use Rattle.ac_forms.specs.Rows.{AreRowsOver}
use Rattle.ac_syntax.specs.ReadyPrograms.{FitParts}
use Rattle.ac_syntax.specs.declared.tree.Order.{Order}
use Rattle.ac_syntax.specs.declared.tree.Site.{Site}
use Rattle.ac_poly.specs.Model.{model_of}
use Rattle.ac_poly.specs.declared.types.Model.{Model}
use Rattle.ac_claims_paths.specs.ModelCalls.{pairing}
use Rattle.ac_claims_paths.specs.WellFormedPaths.{HasModuli}
use Rattle.ac_claims_paths.specs.PathSteps.{Pairing}
use Rattle.ac_claims_paths.proofs.Described.{models_describe}
use Rattle.ac_claims.specs.CheckKnowledge.{IsClaimMade}
use Rattle.ac_claims.specs.declared.types.Claim.{Claim}
use Rattle.ac_claims.specs.declared.types.ClaimTree.{ClaimTree}
use Rattle.ac_flow.specs.Readers.{AreFlows, readers}
use Rattle.ac_claims_plans.specs.DuePlans.{AreNumbered, StartsAccepted, pieces_of}
use Rattle.ac_widen_programs.specs.PairSetting.{point_width}
use Rattle.ac_walk_state.specs.SearchSetting.{Widening, IsWideningOf}
use Rattle.ac_unfold_plans.specs.PlanStops.{claim_positions, programs_of}
use Rattle.ac_unfold_plans.specs.ArgumentOrders.{order_of}
use Rattle.ac_unfold.specs.UnfoldPaths.{ArePlansOf}
use Rattle.ac_unfold.specs.StartResults.{HasDomains, IfPlans}
use Rattle.ac_unfold.specs.declared.types.Planned.{Planned}
use Rattle.ac_unfold.specs.declared.types.Planned.TheVariants.{Plans}
use Rattle.ac_unfold.specs.ReadySetting.{IsSettled}
use Rattle.ac_unfold.specs.SearchPlanStops.{IsStoppedAt}
use Rattle.ac_unfold_plans.specs.PairStops.{Stopped, StopsFrom}
use Rattle.ac_walk_state.specs.Elements.{IsElementClaim}
use Rattle.ac_walk_state.specs.ProofParts.{in_part}
use Rattle.ac_walk_state.specs.ClaimPlans.{ArePlanned, IsClaimPlanned, pairs_at}
use Rattle.ac_walk_state.specs.PartStops.{TreeStops}
use Rattle.ac_walk_state.specs.declared.types.Part.{Part}
use Rattle.ac_walk_state.proofs.Grown.{planned_more, stopping_more}
use Rattle.ac_walk_state.proofs.Outputs.{claims_made}
use Rattle.ac_walk.specs.PartConstruction.{AddsNext, HaveClaims, IsAdded, IsFirstAdded, IsPartly}
use Rattle.ac_walk.specs.OutputSearch.{IsSearch}
use Rattle.ac_walk.specs.declared.planning.Added.{Added}
use Rattle.ac_walk.specs.declared.planning.Added.TheVariants as added
use Rattle.ac_walk.specs.declared.stops.Stop.{Stop}
use Rattle.ac_walk.specs.declared.search_types.Search.{Search}
use Rattle.ac_walk.proofs.Lists.{get_behind, get_front, get_within, take_more}
use Rattle.ac_walk.proofs.Programs.{programs_are}

-- ---- the programs are those of plans

zeros : (n : ℕ) → (ps : List ℤ) × (length ps ≡ n)
zeros zero = ([], refl)
zeros (suc n) = let rest = zeros n in (pos 0 ∷ rest.0, let e = rest.1 in omega (arith, e))

left_moduli : (s : Search) → IsSearch s → HasModuli (model_of s.pair.now.left s.pair.now.context)
left_moduli s h =
    let params = zeros (length s.pair.now.left.params) in
    let d = models_describe s.pair.now.left s.pair.now.context params.0 h.programs.paired.left h.programs.paired.context params.1 in
    record { pieces = d.pieces_moduli; levels = d.levels_moduli }

right_moduli : (s : Search) → IsSearch s → HasModuli (model_of s.pair.now.right s.pair.now.context)
right_moduli s h =
    let params = zeros (length s.pair.now.right.params) in
    let fits : FitParts (length s.pair.now.right.params) 0 s.pair.now.context.parts = subst (λ n. FitParts n 0 s.pair.now.context.parts) (sym h.programs.paired.params) h.programs.paired.context in
    let d = models_describe s.pair.now.right s.pair.now.context params.0 h.programs.paired.right fits params.1 in
    record { pieces = d.pieces_moduli; levels = d.levels_moduli }

pub settled : (s : Search) → IsSearch s → IsSettled s.program_flows.now
settled s h = record {
  left = subst HasModuli (sym h.programs.left) (left_moduli s h);
  right = subst HasModuli (sym h.programs.right) (right_moduli s h);
  left_flow = subst (λ (m : Model). AreFlows m (readers m) s.program_flows.now.left_flow.now.reads) (sym h.programs.left) h.flows.left_are;
  right_flow = subst (λ (m : Model). AreFlows m (readers m) s.program_flows.now.right_flow.now.reads) (sym h.programs.right) h.flows.right_are;
}

-- ---- what comes of the plans of a start

-- what the plans of a start are, made for a search with claims, and tabled ones behind them
pub record ArePlansFor (s : Search) (order : List (Site × Order)) (claims tabled : List Claim) (start : Claim) (number base : ℕ) (trees : List ClaimTree) : Type 0 where
  pub claim : ArePlansOf number trees
  pub pieces : map pieces_of trees ≡ pairs_at (pairing s.program_flows.now.programs) start
  pub accepted : (cs : List Claim) → AreNumbered base claims cs → AreNumbered (base + length claims) tabled cs → AllByRecursion (StartsAccepted (pairing s.program_flows.now.programs) cs start) trees
  pub stops : (g : Stopped) → IsStoppedAt s.program_flows.now order base claims tabled g → AllByRecursion (λ (t : ClaimTree). StopsFrom g (claim_positions start) t.tree) trees

true_both : (a b : Bool) → a ≡ true → b ≡ true → a && b ≡ true
true_both a b h k = (λ i. h i && b) ∙ k

pub in_of : (first count i : ℕ) → first ≤ i → i < first + count → in_part first count i ≡ true
in_of first count i a b = true_both (nat_le first i) (nat_le (suc i) (first + count)) (le-leb first i a) (le-leb (suc i) (first + count) (omega (arith, b)))

pub length_snoc : (xs : List Claim) (x : Claim) → length (xs ++ x ∷ []) ≡ length xs + 1
length_snoc [] x = refl
length_snoc (y ∷ xs) x = let e = length_snoc xs x in omega (arith, e)

-- the claims of a search behind that of the output
module _ (s : Search) (order : List (Site × Order)) (claims tabled : List Claim) (is : IsSearch s) (have : HaveClaims s.stops.now claims) where
  numbered : (output : Claim) (before : List Claim) (base : ℕ) → length before ≡ s.first → base ≡ s.first + 1 → AreNumbered base claims (before ++ output ∷ (claims ++ tabled))
  numbered output before base len b i c e =
      let place : base + i ≡ length before + suc i = omega (arith, len, b) in
      ap (λ (n : ℕ). slice_get (before ++ output ∷ (claims ++ tabled)) n) place ∙ get_behind before (output ∷ (claims ++ tabled)) (suc i) ∙ get_front claims tabled i c e

  behind : (output : Claim) (before : List Claim) (base : ℕ) → length before ≡ s.first → base ≡ s.first + 1 → AreNumbered (base + length claims) tabled (before ++ output ∷ (claims ++ tabled))
  behind output before base len b i c e =
      let place : base + length claims + i ≡ length before + suc (length claims + i) = omega (arith, len, b) in
      ap (λ (n : ℕ). slice_get (before ++ output ∷ (claims ++ tabled)) n) place ∙ get_behind before (output ∷ (claims ++ tabled)) (suc (length claims + i)) ∙ get_behind claims tabled i ∙ e

  -- the recurrence pairs are among those up to which the plans go, and their claims are all of these
  stopped : (output : Claim) (base : ℕ) (w : Widening) → base ≡ s.first + 1 → IsWideningOf s.pair.now s.array w
      → IsStoppedAt s.program_flows.now order base claims tabled (record { pair = s.pair.now; order = order_of order; recurrent = w.recurrent; part = in_part s.first (length (output ∷ (claims ++ tabled))) })
  stopped output base w b v =
      let count : length (output ∷ (claims ++ tabled)) ≡ length claims + length tabled + 1 = (let n = length-append claims tabled in omega (arith, n)) in
      record {
        programs = programs_are s is;
        orders = λ widening_point. refl;
        claimed = λ widening_point e. have widening_point (is.stops w v widening_point e);
        part = λ i c e. let l = get_within claims i c e in in_of s.first (length (output ∷ (claims ++ tabled))) (base + i) (omega (arith, b)) (omega (arith, b, l, count));
        tabled_part = λ i c e. let l = get_within tabled i c e in in_of s.first (length (output ∷ (claims ++ tabled))) (base + length claims + i) (omega (arith, b)) (omega (arith, b, l, count));
      }

  module _ (start : Claim) (made : IsClaimMade (programs_of s.pair.now) start) where
    there : (output : Claim) (before : List Claim) (k number : ℕ) → length before ≡ s.first → number ≡ s.first + k → slice_get (output ∷ (claims ++ tabled)) k ≡ Some start → slice_get (before ++ output ∷ (claims ++ tabled)) number ≡ Some start
    there output before k number len n e =
        let place : number ≡ length before + k = omega (arith, len, n) in
        ap (λ (m : ℕ). slice_get (before ++ output ∷ (claims ++ tabled)) m) place ∙ get_behind before (output ∷ (claims ++ tabled)) k ∙ e

    pub planned : (output : Claim) (before : List Claim) (k number base : ℕ) (trees : List ClaimTree) → length before ≡ s.first → number ≡ s.first + k → base ≡ s.first + 1 → slice_get (output ∷ (claims ++ tabled)) k ≡ Some start → ArePlansFor s order claims tabled start number base trees
        → IsClaimPlanned (programs_of s.pair.now) (before ++ output ∷ (claims ++ tabled)) (s.first + k) start trees
    planned output before k number base trees len n b e p =
        let all = before ++ output ∷ (claims ++ tabled) in
        let same : pairing s.program_flows.now.programs ≡ programs_of s.pair.now = sym (programs_are s is) in
        record {
          there = there output before k (s.first + k) len refl e;
          made = made;
          numbered = subst (λ (m : ℕ). ArePlansOf m trees) n p.claim;
          pieces = subst (λ (g : Pairing). map pieces_of trees ≡ pairs_at g start) same p.pieces;
          accepted = subst (λ (g : Pairing). AllByRecursion (StartsAccepted g all start) trees) same (p.accepted all (numbered output before base len b) (behind output before base len b));
        }

    -- with the plans of the next claim, the plans of one claim more are there
    pub one_added : (own : List Claim) (plans : List ClaimTree) (output : Claim) (before : List Claim) (number base : ℕ) (trees : List ClaimTree) → length before ≡ s.first → number ≡ s.first + length own → base ≡ s.first + 1 → slice_get (output ∷ (claims ++ tabled)) (length own) ≡ Some start
        → ArePlansFor s order claims tabled start number base trees → ArePlanned (programs_of s.pair.now) (before ++ output ∷ (claims ++ tabled)) s.first own plans → ArePlanned (programs_of s.pair.now) (before ++ output ∷ (claims ++ tabled)) s.first (own ++ start ∷ []) (plans ++ trees)
    one_added own plans output before number base trees len n b e p before_planned = planned_more (programs_of s.pair.now) (before ++ output ∷ (claims ++ tabled)) s.first own plans start trees before_planned (planned output before (length own) number base trees len n b e p)

    pub stays : (plans : List ClaimTree) (output : Claim) (before : List Claim) (k number base : ℕ) (trees : List ClaimTree) (w : Widening) → length before ≡ s.first → number ≡ s.first + k → base ≡ s.first + 1 → slice_get (output ∷ (claims ++ tabled)) k ≡ Some start → IsWideningOf s.pair.now s.array w
        → ArePlansFor s order claims tabled start number base trees
        → AllByRecursion (TreeStops s.pair.now (order_of order) w.recurrent (in_part s.first (length (output ∷ (claims ++ tabled)))) (before ++ output ∷ (claims ++ tabled))) plans
        → AllByRecursion (TreeStops s.pair.now (order_of order) w.recurrent (in_part s.first (length (output ∷ (claims ++ tabled)))) (before ++ output ∷ (claims ++ tabled))) (plans ++ trees)
    stays plans output before k number base trees w len n b e v p h =
        let all = output ∷ (claims ++ tabled) in
        stopping_more s.pair.now (order_of order) w.recurrent (in_part s.first (length all)) (before ++ all) number start plans trees h (there output before k number len n e) p.claim
        (p.stops (record { pair = s.pair.now; order = order_of order; recurrent = w.recurrent; part = in_part s.first (length all) }) (stopped output base w b v))

    pub adds : (part longer : Part) (trees : List ClaimTree) (number base : ℕ) → number ≡ s.first + length part.claims.items → base ≡ s.first + 1 → ArePlansFor s order claims tabled start number base trees
        → longer.claims.items ≡ part.claims.items ++ start ∷ [] → longer.trees.items ≡ part.trees.items ++ trees → AddsNext s order (claims ++ tabled) start part longer
    adds part longer trees number base n b p grown plans output next partly =
        let all = output ∷ (claims ++ tabled) in
        let k = length part.claims.items in
        let more : length longer.claims.items ≡ k + 1 = ap length grown ∙ length_snoc part.claims.items start in
        let claims_are : longer.claims.items ≡ take (length longer.claims.items) all = grown ∙ ap (λ cs. cs ++ start ∷ []) partly.claims ∙ sym (take_more all k start next) ∙ ap (λ (m : ℕ). take m all) (sym more) in (
          record {
            claims = claims_are;
            planned = λ before len.
                subst (λ (xs : List Claim). ArePlanned (programs_of s.pair.now) (before ++ all) s.first xs longer.trees.items) (sym grown)
                (subst (ArePlanned (programs_of s.pair.now) (before ++ all) s.first (part.claims.items ++ start ∷ [])) (sym plans) (one_added part.claims.items part.trees.items output before number base trees len n b next p (partly.planned before len)));
            stops = λ before len w v.
                subst (AllByRecursion (TreeStops s.pair.now (order_of order) w.recurrent (in_part s.first (length all)) (before ++ all))) (sym plans) (stays part.trees.items output before k number base trees w len n b next v p (partly.stops before len w v));
          },
          more,
        )

-- a start of which plans are made is made
pub made_of : (s : Search) (start : Claim) (made : Planned) (trees : Vec ClaimTree Global) → made ≡ Plans trees → IsSearch s → IfPlans (λ ts. HasDomains (pairing s.program_flows.now.programs) start) made → AreRowsOver (point_width s.pair.now (claim_positions start)) start.rows → IsClaimMade (programs_of s.pair.now) start
made_of s start made trees e is domains over =
    let there = subst (λ (g : Pairing). HasDomains g start) (sym (programs_are s is)) (subst (IfPlans (λ ts. HasDomains (pairing s.program_flows.now.programs) start)) e domains) in
    claims_made s.pair.now start there.left there.right there.left_is there.right_is over

-- what is promised of the plans of a start
pub plans_for : (s : Search) (order : List (Site × Order)) (claims tabled : List Claim) (start : Claim) (number base : ℕ) (made : Planned) (trees : Vec ClaimTree Global) → made ≡ Plans trees → IsSearch s → IfPlans (ArePlansOf number) made
    → IfPlans (λ ts. map pieces_of ts ≡ pairs_at (pairing s.program_flows.now.programs) start) made
    → (IsSettled s.program_flows.now → IfPlans (λ ts. (cs : List Claim) → AreNumbered base claims cs → AreNumbered (base + length claims) tabled cs → AllByRecursion (StartsAccepted (pairing s.program_flows.now.programs) cs start) ts) made)
    → IfPlans (λ ts. (g : Stopped) → IsStoppedAt s.program_flows.now order base claims tabled g → AllByRecursion (λ (t : ClaimTree). StopsFrom g (claim_positions start) t.tree) ts) made → ArePlansFor s order claims tabled start number base trees.items
plans_for s order claims tabled start number base made trees e is claim pieces accepted stops = record {
  claim = subst (IfPlans (ArePlansOf number)) e claim;
  pieces = subst (IfPlans (λ ts. map pieces_of ts ≡ pairs_at (pairing s.program_flows.now.programs) start)) e pieces;
  accepted = subst (IfPlans (λ ts. (cs : List Claim) → AreNumbered base claims cs → AreNumbered (base + length claims) tabled cs → AllByRecursion (StartsAccepted (pairing s.program_flows.now.programs) cs start) ts)) e (accepted (settled s is));
  stops = subst (IfPlans (λ ts. (g : Stopped) → IsStoppedAt s.program_flows.now order base claims tabled g → AllByRecursion (λ (t : ClaimTree). StopsFrom g (claim_positions start) t.tree) ts)) e stops;
}

-- ---- the output, as the first one

none_partly : (s : Search) (order : List (Site × Order)) (all : List Claim) (none : Part) → none.claims.items ≡ [] → none.trees.items ≡ [] → IsPartly s order all none
none_partly s order all none cs ts = record {
  claims = cs ∙ sym (ap (λ (xs : List Claim). take (length xs) all) cs ∙ take_none all);
  planned = λ before len. subst (λ xs. ArePlanned (programs_of s.pair.now) (before ++ all) s.first xs none.trees.items) (sym cs) (subst (ArePlanned (programs_of s.pair.now) (before ++ all) s.first []) (sym ts) (record { made = tt; due = refl; accepted = tt }));
  stops = λ before len w v. subst (AllByRecursion (TreeStops s.pair.now (order_of order) w.recurrent (in_part s.first (length all)) (before ++ all))) (sym ts) tt;
}
  where
    take_none : (xs : List Claim) → take 0 xs ≡ []
    take_none [] = refl
    take_none (x ∷ xs) = refl

pub first_added : (s : Search) (order : List (Site × Order)) (claims tabled : List Claim) (none : Part) (output : Claim) (result : Result Added Stop) → IsElementClaim s.pair.now s.array output → none.claims.items ≡ [] → none.trees.items ≡ []
    → IfOk result (IsAdded s order claims tabled output none) → IfOk result (IsFirstAdded s order claims tabled)
first_added s order claims tabled none output (Err stop) is cs ts h = tt
first_added s order claims tabled none output (Ok (added.Broken path)) is cs ts h = (output, is, h)
first_added s order claims tabled none output (Ok (added.Part part)) is cs ts h =
    let start : slice_get (output ∷ (claims ++ tabled)) (length none.claims.items) ≡ Some output = ap (λ (xs : List Claim). slice_get (output ∷ (claims ++ tabled)) (length xs)) cs in
    let grown = h output start (none_partly s order (output ∷ (claims ++ tabled)) none cs ts) in
    let count : length none.claims.items ≡ 0 = ap length cs in
    let one = grown.1 in
    record { output = output; is_output = is; partly = grown.0; counted = omega (arith, one, count) }
