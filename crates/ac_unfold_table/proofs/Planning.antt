-- What comes of a claim that is unfolded against a table.
use Rattle.std.proofs.Common.{◌≡◌, inl, ℕ, ◌+◌, List, [], ◌∷◌, length, map, refl, sym, subst, Option, Some}
use Rattle.std.specs.Prelude.{Result, Ok, Err, IfErr, IfOk, IfSome}
use Rattle.std.specs.List.{AllByRecursion}
use Rattle.ac_syntax.specs.declared.tree.Order.{Order}
use Rattle.ac_syntax.specs.declared.tree.Site.{Site}
use Rattle.ac_claims_paths.specs.ModelCalls.{pairing}
use Rattle.ac_claims.specs.ProofFaults.{domain}
use Rattle.ac_claims.specs.RemainingPlans.{count_by}
use Rattle.ac_claims.specs.declared.types.Claim.{Claim}
use Rattle.ac_claims.specs.declared.types.ClaimTree.{ClaimTree}
use Rattle.ac_unfold_plans.specs.PlanStops.{claim_positions}
use Rattle.ac_claims_plans.specs.DuePlans.{pairs_of, pieces_of, AreNumbered, StartsAccepted}
use Rattle.ac_unfold_plans.specs.PairStops.{Stopped, StopsFrom}
use Rattle.ac_unfold.specs.UnfoldPaths.{ArePlansOf}
use Rattle.ac_unfold.specs.StartResults.{HasDomains, IfBroken, IfPlans}
use Rattle.ac_unfold.specs.UnfoldCauses.{StopsUnfolding}
use Rattle.ac_unfold.specs.Unfoldings.{IsUnfoldingOf}
use Rattle.ac_widen_programs.specs.BrokenPaths.{IsBroken}
use Rattle.ac_widen_programs.specs.PairPaths.{Unfolding}
use Rattle.ac_widen.specs.declared.derivation.Entry.{Entry}
use Rattle.ac_unfold.specs.ReadySetting.{IsSettled}
use Rattle.ac_unfold.specs.SearchPlanStops.{IsStoppedAt}
use Rattle.ac_unfold.specs.declared.types.Planned.{Planned}
use Rattle.ac_unfold.specs.declared.types.Planned.TheVariants.{Plans, Broken}
use Rattle.ac_unfold.specs.declared.types.ProgramFlows.{ProgramFlows}
use Rattle.ac_unfold.specs.declared.types.UnfoldStop.{UnfoldStop}
use Rattle.ac_unfold_table.specs.Tables.{TableOf, with_tabled}
use Rattle.ac_unfold_table.specs.TableCoverage.{Fails, IsCovered}
use Rattle.ac_unfold.specs.RecoverableStops.{IsStop}
use Rattle.ac_unfold_plans.specs.TabledUse.{HaveClaimModuli, UsesTabledFromStart}
use Rattle.ac_unfold_table.specs.StartPlans.{AreTreesOf, UseTabled}
use Rattle.ac_unfold_table.proofs.Lists.{among_right}

-- the plans of a start, by what is known of each of their parts
pub trees_made : (s : ProgramFlows) (base : ℕ) (claims tabled : List Claim) (order : List (Site × Order)) (number : ℕ) (start : Claim) (r : Result Planned UnfoldStop)
    → IfOk r (IfPlans (λ trees. HasDomains (pairing s.programs) start))
    → IfOk r (IfPlans (λ trees. ArePlansOf number trees))
    → IfOk r (IfPlans (λ trees. map pieces_of trees ≡ pairs_of (count_by (domain s.programs.left.now start.left)) (count_by (domain s.programs.right.now start.right))))
    → (IsSettled s → IfOk r (IfPlans (λ trees. (cs : List Claim) → AreNumbered base claims cs → AreNumbered (base + length claims) tabled cs → AllByRecursion (StartsAccepted (pairing s.programs) cs start) trees)))
    → IfOk r (IfPlans (λ trees. (g : Stopped) → IsStoppedAt s order base claims tabled g → AllByRecursion (λ (t : ClaimTree). StopsFrom g (claim_positions start) t.tree) trees))
    → IfOk r (IfPlans (AreTreesOf s base claims tabled order number start))
trees_made s base claims tabled order number start (Ok (Plans trees)) d n p a g = record { claim = n; domains = d; pieces = p; accepted = a; stops = g }
trees_made s base claims tabled order number start (Ok (Broken path)) d n p a g = tt
trees_made s base claims tabled order number start (Err stop) d n p a g = tt

-- the same, where the claims are those of a table
pub trees_at : (s : ProgramFlows) (base b : ℕ) (claims xs tabled ys : List Claim) (order os : List (Site × Order)) (number : ℕ) (start : Claim) (r : Result Planned UnfoldStop)
    → b ≡ base → xs ≡ claims → ys ≡ tabled → os ≡ order → IfOk r (IfPlans (AreTreesOf s b xs ys os number start)) → IfOk r (IfPlans (AreTreesOf s base claims tabled order number start))
trees_at s base b claims xs tabled ys order os number start r e f g h made =
    subst (λ (o : List (Site × Order)). IfOk r (IfPlans (AreTreesOf s base claims tabled o number start))) h
    (subst (λ (zs : List Claim). IfOk r (IfPlans (AreTreesOf s base claims zs os number start))) g
    (subst (λ (zs : List Claim). IfOk r (IfPlans (AreTreesOf s base zs ys os number start))) f
    (subst (λ (k : ℕ). IfOk r (IfPlans (AreTreesOf s k xs ys os number start))) e made)))

-- they use what is tabled
pub use_tabled_made : (s : ProgramFlows) (tabled ys : List Claim) (start : Claim) (r : Result Planned UnfoldStop) → ys ≡ tabled → (IsSettled s → HaveClaimModuli ys → IfOk r (IfPlans (AllByRecursion (UsesTabledFromStart (pairing s.programs) ys start)))) → IfOk r (IfPlans (UseTabled s tabled start))
use_tabled_made s tabled ys start r e h = subst (λ (xs : List Claim). IfOk r (IfPlans (UseTabled s xs start))) e (by r h)
  where
    by : (x : Result Planned UnfoldStop) → (IsSettled s → HaveClaimModuli ys → IfOk x (IfPlans (AllByRecursion (UsesTabledFromStart (pairing s.programs) ys start)))) → IfOk x (IfPlans (UseTabled s ys start))
    by (Ok (Plans trees)) k = λ settled moduli. k settled moduli
    by (Ok (Broken path)) k = tt
    by (Err stop) k = tt

-- what is known of plans holds where they are handed on
pub plans_free : (P : List ClaimTree → Type 0) (r : Result Planned UnfoldStop) (o : Option Planned) (x : Planned) → IfOk r (IfPlans P) → IfSome o (λ made. r ≡ Ok made) → o ≡ Some x → IfPlans P x
plans_free P r o x h f e =
    let is : r ≡ Ok x = subst (λ y. IfSome y (λ made. r ≡ Ok made)) e f in
    subst (λ y. IfOk y (IfPlans P)) is h

-- the same of a broken path
pub broken_free : (P : List Entry → Type 0) (r : Result Planned UnfoldStop) (o : Option Planned) (x : Planned) → IfOk r (IfBroken P) → IfSome o (λ made. r ≡ Ok made) → o ≡ Some x → IfBroken P x
broken_free P r o x h f e =
    let is : r ≡ Ok x = subst (λ y. IfSome y (λ made. r ≡ Ok made)) e f in
    subst (λ y. IfOk y (IfBroken P)) is h

-- where a path of a relation is broken, or it has a stop, it fails
pub broken_fails : (s : ProgramFlows) (order : List (Site × Order)) (claims : List Claim) (r d : Claim) (path : List Entry) → d ≡ r → ((u : Unfolding) → IsUnfoldingOf s d order u → IsBroken u claims path) → Fails s order claims r
broken_fails s order claims r d path e h = subst (Fails s order claims) e (Fails.broken path h)

pub stop_fails : (s : ProgramFlows) (order : List (Site × Order)) (claims : List Claim) (r d : Claim) (planned : Result Planned UnfoldStop) → d ≡ r → IfErr planned (StopsUnfolding s d claims order) → (stop : UnfoldStop) × IsStop stop × (planned ≡ Err stop) → Fails s order claims r
stop_fails s order claims r d planned e h x = subst (Fails s order claims) e (Fails.stops x.0 x.1 (subst (λ y. IfErr y (StopsUnfolding s d claims order)) x.2 h))

-- what was tabled last covers itself
pub tabled_one : (t u : TableOf) (d c : Claim) (ts : List ClaimTree) → u ≡ with_tabled t d ts → d ≡ c → IsCovered u.tabled c
tabled_one t u d c ts e same =
    let here : IsCovered (with_tabled t d ts).tabled d = (d, among_right d t.tabled (d ∷ []) (inl refl), record { pair = refl; meets = λ x h. h }) in
    subst (IsCovered u.tabled) same (subst (λ (v : TableOf). IsCovered v.tabled d) (sym e) here)
