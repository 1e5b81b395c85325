-- Where there are too many paths to ends: what is found at one place, as at another, and from a start on.
use Rattle.std.proofs.Common.{◌≡◌, ℕ, true, List, [], ◌∷◌, Some, sym, ◌∙◌, subst}
use Rattle.std.specs.List.{AllByRecursion}
use Rattle.ac_forms.specs.Rows.{IsWellMade}
use Rattle.ac_forms.specs.declared.conj.Conj.{Conj}
use Rattle.ac_syntax.specs.declared.tree.Order.{Order}
use Rattle.ac_syntax.specs.declared.tree.Site.{Site}
use Rattle.ac_claims_paths.specs.declared.path.Path.{Path}
use Rattle.ac_claims_paths.specs.declared.path.Seat.{Seat}
use Rattle.ac_widen.specs.declared.derivation.Entry.{Entry}
use Rattle.ac_claims.specs.RemainingPlans.{start_at}
use Rattle.ac_claims.specs.declared.types.Claim.{Claim}
use Rattle.ac_widen_programs.specs.BrokenPaths.{HasNoClaim}
use Rattle.ac_widen_programs.specs.PairPaths.{Unfolding, seats_of}
use Rattle.ac_unfold.specs.UnfoldCauses.{IsStopOf, StopsUnfolding}
use Rattle.ac_unfold.specs.KillCuts.{IsClaimBehind}
use Rattle.ac_unfold.specs.UnfoldEnds.{IsWalked}
use Rattle.ac_unfold.specs.EndResults.{nothing_found, FullBy, FullUnder}
use Rattle.ac_unfold.specs.PlanResults.{judge_of}
use Rattle.ac_unfold.specs.UnfoldPaths.{BrokenPathsOf}
use Rattle.ac_unfold.specs.BrokenPathResults.{AddsBroken, IsAt, IsFrom, IsLeaf, IsNone, IsOf, IsPast, IsPathAt, IsSound}
use Rattle.ac_unfold.specs.UnfoldStops.{HandsBack, StopsUnder}
use Rattle.ac_unfold.specs.UnfoldTasks.{IsThere}
use Rattle.ac_unfold.specs.Unfoldings.{IsUnfoldingOf}
use Rattle.ac_unfold.specs.declared.ends.Search.{Search}
use Rattle.ac_unfold.specs.declared.node.Node.{Node}
use Rattle.ac_unfold.specs.declared.types.ProgramFlows.{ProgramFlows}
use Rattle.ac_unfold.specs.declared.types.UnfoldStop.{UnfoldStop}
use Rattle.ac_unfold.specs.declared.types.UnfoldStop.TheVariants.{Overflow, Spent, Paths, Memory}
use Rattle.ac_unfold.proofs.Coming.{begun_there, claim_walked, is_of, is_past, leaf_walked}
use Rattle.ac_unfold.proofs.Stops.{all_more}

-- ---- stops

-- at one place, where it was at another
pub full_from : (search : Search) (At Next : Unfolding → Type 0) (before : BrokenPathsOf) (stop : UnfoldStop) → ((u : Unfolding) → IsOf search u → At u → Next u) → FullUnder search Next before stop → FullUnder search At before stop
full_from search At Next before (Overflow q) f h = tt
full_from search At Next before (Spent q cost) f h = tt
full_from search At Next before (Paths found) f h = λ u of at sound. h u of (f u of at) sound
full_from search At Next before (Memory want) f h = tt

-- behind what was found before
pub full_after : (search : Search) (At : Unfolding → Type 0) (before now : BrokenPathsOf) (stop : UnfoldStop) → AddsBroken search At before now → FullUnder search At now stop → FullUnder search At before stop
unfolding AddsBroken
full_after search At before now (Overflow q) h k = tt
full_after search At before now (Spent q cost) h k = tt
full_after search At before now (Paths found) h k = λ u of at sound. k u of at (h.1 u of at sound)
full_after search At before now (Memory want) h k = tt

-- by one path more of a kind that leads to ends
pub full_by : (search : Search) (At : Unfolding → Type 0) (Kind : List Entry → Type 0) (before : BrokenPathsOf) (stop : UnfoldStop) → ((u : Unfolding) → IsOf search u → At u → (es : List Entry) → Kind es → IsWalked u search.claims.now es) → FullBy Kind before.ended stop → FullUnder search At before stop
full_by search At Kind before (Overflow q) f h = tt
full_by search At Kind before (Spent q cost) f h = tt
full_by search At Kind before (Paths found) f h = λ u of at sound. record {
  walked = subst (AllByRecursion (IsWalked u search.claims.now)) (sym h.is) (all_more (IsWalked u search.claims.now) before.ended h.last sound.walked (f u of at h.last h.kind));
  differ = h.differ;
  count = h.count;
}
full_by search At Kind before (Memory want) f h = tt

-- where no end is reached
pub full_none : (search : Search) (At : Unfolding → Type 0) (before : BrokenPathsOf) (stop : UnfoldStop) → FullBy IsNone before.ended stop → FullUnder search At before stop
full_none search At before stop h = full_by search At IsNone before stop (λ u of at es none. absurd none) h

-- where a question is handed back
pub full_hands : (search : Search) (At : Unfolding → Type 0) (before : BrokenPathsOf) (c : Conj) (Why : Type 0) (stop : UnfoldStop) → HandsBack c Why stop → FullUnder search At before stop
full_hands search At before c Why (Overflow q) h = tt
full_hands search At before c Why (Spent q cost) h = tt
full_hands search At before c Why (Paths found) h = absurd h
full_hands search At before c Why (Memory want) h = tt

-- ---- ends

-- where no step is left
pub full_leaf : (search : Search) (pair_path : List (Seat × Seat)) (q : Path) (before : BrokenPathsOf) → IsLeaf (judge_of search) q → (stop : UnfoldStop) → FullBy (IsPathAt (judge_of search).params pair_path q.conj) before.ended stop → FullUnder search (IsPast search pair_path q) before stop
full_leaf search pair_path q before leaf stop h = full_by search (IsPast search pair_path q) (IsPathAt (judge_of search).params pair_path q.conj) before stop (λ u of at es x. leaf_walked search pair_path q u es leaf of at x) h

-- at the claim of the pair
pub full_claim : (search : Search) (pair_path : List (Seat × Seat)) (q : Path) (number : ℕ) (before : BrokenPathsOf) → IsClaimBehind search q number → (stop : UnfoldStop) → FullBy (IsPathAt (judge_of search).params pair_path q.conj) before.ended stop → FullUnder search (IsAt search pair_path q) before stop
full_claim search pair_path q number before there stop h = full_by search (IsAt search pair_path q) (IsPathAt (judge_of search).params pair_path q.conj) before stop (λ u of at es x. claim_walked search pair_path q number u es there of at x) h

-- ---- pairs

-- where no claim stands
pub full_past : (search : Search) (pair_path : List (Seat × Seat)) (q : Path) (before : BrokenPathsOf) → (q.gone ≡ true → HasNoClaim search.claims.now (seats_of q)) → (stop : UnfoldStop) → FullUnder search (IsPast search pair_path q) before stop → FullUnder search (IsAt search pair_path q) before stop
full_past search pair_path q before none stop h = full_from search (IsAt search pair_path q) (IsPast search pair_path q) before stop (λ u of at. is_past search pair_path q u none at) h

-- where no step is left, and no claim stands
pub full_end : (search : Search) (pair_path : List (Seat × Seat)) (q : Path) (before : BrokenPathsOf) → (q.gone ≡ true → HasNoClaim search.claims.now (seats_of q)) → IsLeaf (judge_of search) q → (stop : UnfoldStop) → FullBy (IsPathAt (judge_of search).params pair_path q.conj) before.ended stop
    → FullUnder search (IsAt search pair_path q) before stop
full_end search pair_path q before none leaf stop h = full_past search pair_path q before none stop (full_leaf search pair_path q before leaf stop h)

-- where a claim starts
pub full_begun : (search : Search) (start : Claim) (left right : ℕ) (path : Path) (node next : Node) (before : BrokenPathsOf) → start_at (judge_of search) start left right ≡ Some path → IsWellMade path.conj → node.question ≡ path → node.pair_path ≡ seats_of path ∷ [] → next.question ≡ node.question
    → next.pair_path ≡ node.pair_path → (stop : UnfoldStop) → FullUnder search (IsThere search next.pair_path next.question) before stop → FullUnder search (IsFrom start) before stop
full_begun search start left right path node next before e made q t q' t' stop h =
    full_from search (IsFrom start) (IsThere search next.pair_path next.question) before stop (λ u of from. begun_there search start left right path next u e made (q' ∙ q) (t' ∙ t) of from) h

-- ---- calls and reads

-- ---- cases

-- ---- starts

-- where nothing was found, an unfolding of the search that is at this place stops so
stops_there : (search : Search) (At : Unfolding → Type 0) (u : Unfolding) (stop : UnfoldStop) → IsOf search u → At u → StopsUnder search At stop → FullUnder search At nothing_found stop
    → IsStopOf u search.program_flows.now.left_flow.now search.program_flows.now.right_flow.now search.claims.now search.budget stop
stops_there search At u (Overflow q) of at h k = h u of at
stops_there search At u (Spent q cost) of at h k = h u of at
stops_there search At u (Paths found) of at h k =
    let sound : IsSound search u nothing_found = record { broken = tt; asked = tt; walked = tt } in
    k u of at sound
stops_there search At u (Memory want) of at h k = tt

-- so each unfolding of the setting does from the start on
pub stops_unfolding : (search : Search) (program_flows : ProgramFlows) (start : Claim) (claims : List Claim) (order : List (Site × Order)) (stop : UnfoldStop) → search.program_flows.now ≡ program_flows → search.claims.now ≡ claims → search.order.now ≡ order → search.budget ≡ program_flows.budget
    → StopsUnder search (IsFrom start) stop → FullUnder search (IsFrom start) nothing_found stop → StopsUnfolding program_flows start claims order stop
stops_unfolding search program_flows start claims order stop s c o b h k = by
  where
    by : (u : Unfolding) → IsUnfoldingOf program_flows start order u → IsStopOf u program_flows.left_flow.now program_flows.right_flow.now claims program_flows.budget stop
    by u is =
        let there = stops_there search (IsFrom start) u stop (is_of search program_flows start order s o u is) is.claim h k in
        subst (λ (n : ℕ). IsStopOf u program_flows.left_flow.now program_flows.right_flow.now claims n stop) b
        (subst (λ (xs : List Claim). IsStopOf u program_flows.left_flow.now program_flows.right_flow.now xs search.budget stop) c
        (subst (λ (x : ProgramFlows). IsStopOf u x.left_flow.now x.right_flow.now search.claims.now search.budget stop) s there))
