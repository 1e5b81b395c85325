-- Where an unfolding stops: what stops it at one place, as what stops it at the place from which it came.
use Rattle.std.proofs.lemmas.List.{take-append-drop}
use Rattle.std.proofs.Common.{◌≡◌, inl, inr, ℕ, ◌+◌, List, [], ◌∷◌, ◌++◌, length, map, take, drop, Option, Some, None, refl, sym, ap, ◌∙◌, subst}
use Rattle.std.specs.Prelude.{Result, Ok, Err, IfErr, IsErrAnd, option_and_then, slice_get}
use Rattle.std.specs.List.{AllByRecursion}
use Rattle.std.specs.declared.alloc.AllocError.{AllocError}
use Rattle.ac_forms.specs.ListMembers.{IsAmong}
use Rattle.ac_forms.specs.NormalRows.{NormalFits}
use Rattle.ac_forms.specs.Rows.{IsRowOver, IsWellMade}
use Rattle.ac_forms.specs.declared.conj.Conj.{Conj}
use Rattle.ac_forms.specs.declared.row.Row.{Row}
use Rattle.ac_syntax.specs.declared.tree.Order.{Order}
use Rattle.ac_syntax.specs.declared.tree.Order.TheVariants.{Keep}
use Rattle.ac_syntax.specs.declared.tree.Site.{Site}
use Rattle.ac_claims_paths.specs.BranchPaths.{onto}
use Rattle.ac_claims_paths.specs.PathSteps.{Pairing, at_rows, branches, seat_of}
use Rattle.ac_claims_paths.specs.declared.path.Branch.{Branch}
use Rattle.ac_claims_paths.specs.declared.path.Path.{Path}
use Rattle.ac_claims_paths.specs.declared.path.Seat.{Seat}
use Rattle.ac_claims_paths.specs.declared.path.Side.{Side}
use Rattle.ac_claims.specs.RemainingPlans.{start_at}
use Rattle.ac_claims.specs.declared.types.Claim.{Claim}
use Rattle.ac_claims.specs.declared.types.Kill.{Kill}
use Rattle.ac_flow.specs.declared.types.Case.{Case}
use Rattle.ac_flow.specs.declared.types.ReadFlow.{ReadFlow}
use Rattle.ac_flow.specs.declared.types.Remainder.{Remainder}
use Rattle.ac_claims_plans.specs.BranchSides.{inside_of, outside_of, side_of, CanBranch}
use Rattle.ac_claims_plans.specs.declared.branching.Part.{Part}
use Rattle.ac_claims_plans.specs.declared.branching.Parts.{Parts}
use Rattle.ac_graph.specs.PairMoves.{pairing_of}
use Rattle.ac_widen_programs.specs.PairSetting.{order_at}
use Rattle.ac_widen_programs.specs.PairPaths.{Unfolding, params_of, positions_of, seats_of}
use Rattle.ac_widen_programs.specs.PairPathSteps.{at_rest, flow_on, onward, order_of}
use Rattle.ac_widen_programs.proofs.Calling.{orders_are_taken}
use Rattle.ac_unfold.specs.UnfoldQuestions.{kill_on, row_at, AreNotFormed, AreTargets, AreTwoCalls, GoesOn, IsCut, IsFollowed, IsNew, LacksNext}
use Rattle.ac_unfold.specs.UnfoldCauses.{StopsUnfolding}
use Rattle.ac_unfold.specs.PlanResults.{judge_of}
use Rattle.ac_unfold.specs.BrokenPathResults.{IsFrom, IsKindThere, IsOf}
use Rattle.ac_unfold.specs.UnfoldStops.{AreNewSides, Follows, FollowsCase, FollowsCut, FollowsOn, HandsBack, IsKillsRow, StopsAsking, StopsStanding, StopsUnder}
use Rattle.ac_unfold.specs.declared.ends.Search.{Search}
use Rattle.ac_unfold.specs.declared.kinds.Next.TheVariants as next
use Rattle.ac_unfold.specs.declared.node.Node.{Node}
use Rattle.ac_unfold.specs.declared.types.ProgramFlows.{ProgramFlows}
use Rattle.ac_unfold.specs.declared.types.UnfoldStop.{UnfoldStop}
use Rattle.ac_unfold.specs.declared.types.UnfoldStop.TheVariants.{Overflow, Spent, Paths, Memory}
use Rattle.ac_unfold.proofs.Coming.{begun_there, params_are}
use Rattle.ac_unfold.proofs.Results.{in_get}
use Rattle.ac_unfold.proofs.Stopped.{followed_asking, followed_standing, if_err, stops_from}

-- ---- results

-- a result that stops at one place stops at each place that leads there
pub err_from : {A : Type 0} (r : Result A UnfoldStop) (search : Search) (At There : Unfolding → Type 0) → ((u : Unfolding) → IsOf search u → At u → There u) → IfErr r (StopsUnder search There) → IfErr r (StopsUnder search At)
err_from (Ok x) search At There f h = tt
err_from (Err stop) search At There f h = stops_from search At There stop f h

-- the question itself is asked
pub asking_stops : {A : Type 0} (r : Result A UnfoldStop) (search : Search) (pair_path : List (Seat × Seat)) (q : Path) → IfErr r (StopsAsking search.budget q.conj) → IfErr r (StopsUnder search (Follows search pair_path q))
asking_stops (Ok x) search pair_path q h = tt
asking_stops (Err stop) search pair_path q h = followed_asking search pair_path q stop h

-- rows have to stand at it
pub match_stops : {A : Type 0} (r : Result A UnfoldStop) (search : Search) (pair_path : List (Seat × Seat)) (q : Path) (rows : List Row) → AreTargets (judge_of search) search.claims.now q (Some rows) → IfErr r (StopsStanding search.budget q.conj rows) → IfErr r (StopsUnder search (Follows search pair_path q))
match_stops (Ok x) search pair_path q rows targets h = tt
match_stops (Err stop) search pair_path q rows targets h = followed_standing search pair_path q rows stop targets h

-- ---- a question that is handed back

-- what comes next at the question is not formed
abbrev Lacks : Search → Path → Unfolding → Type 0
Lacks search q u = LacksNext u search.program_flows.now.left_flow.now search.program_flows.now.right_flow.now search.claims.now q

-- where that is so, the question may be handed back
pub handed : (search : Search) (At : Unfolding → Type 0) (q : Path) (Why : Type 0) (stop : UnfoldStop) → ((u : Unfolding) → IsOf search u → At u → Why → Lacks search q u) → HandsBack q.conj Why stop → StopsUnder search At stop
handed search At q Why (Overflow c) f h = λ u of at. inr (record { path = q; is = h.0; lacks = f u of at h.1 })
handed search At q Why (Spent c cost) f h = absurd h
handed search At q Why (Paths found) f h = tt
handed search At q Why (Memory want) f h = tt

-- ---- where no claim stands

-- a path goes on from a question
pub on_from : (search : Search) (pair_path : List (Seat × Seat)) (q : Path) (u : Unfolding) → GoesOn search.claims.now q → Follows search pair_path q u → FollowsOn search pair_path q u
on_from search pair_path q u on follows = record { follows = follows; goes_on = on }

pub past_handed : (search : Search) (pair_path : List (Seat × Seat)) (q : Path) (stop : UnfoldStop) → GoesOn search.claims.now q → StopsUnder search (FollowsOn search pair_path q) stop → StopsUnder search (Follows search pair_path q) stop
past_handed search pair_path q stop on h = stops_from search (Follows search pair_path q) (FollowsOn search pair_path q) stop (λ u of at. on_from search pair_path q u on at) h

-- ---- the branches so far

-- these are the first ones of all, the last of them at the end
all_found : (xs found : List Branch) (b : Branch) (n : ℕ) → xs ++ b ∷ [] ≡ take n found → (xs ++ b ∷ []) ++ drop n found ≡ found
all_found xs found b n e = ap (λ (ys : List Branch). ys ++ drop n found) e ∙ take-append-drop n found

get_middle : (q : Path) (xs rest : List Branch) (b : Branch) → slice_get (map (onto q) ((xs ++ b ∷ []) ++ rest)) (length xs) ≡ Some (onto q b)
get_middle q [] rest b = refl
get_middle q (x ∷ xs) rest b = get_middle q xs rest b

-- ---- calls

-- a path goes on to a branch of two calls
pub call_follows : (search : Search) (pair_path : List (Seat × Seat)) (q : Path) (order : Order) (bs : List Path) (b : Path) (u : Unfolding) → IsOf search u → IsKindThere search q (next.Calls order) → branches (judge_of search) order q ≡ Some bs → IsAmong b bs → FollowsOn search pair_path q u → Follows search (onward pair_path b) b u
unfolding IsKindThere
call_follows search pair_path q order bs b u of kind is i at =
    let k = kind u of in
    let there : branches (pairing_of u.pair) order q ≡ Some bs = ap (λ (g : Pairing). branches g order q) of.programs ∙ is in
    let key = positions_of (seats_of q) in
    let same : order_of u q ≡ order = ap (order_at u.pair key) k.1 ∙ orders_are_taken u q order bs k.0 there in
    let taken : branches (pairing_of u.pair) (order_of u q) q ≡ Some bs = ap (λ (o : Order). branches (pairing_of u.pair) o q) same ∙ there in
    IsFollowed.call pair_path q b bs at.follows at.goes_on k.0 taken i

-- two calls have no branches in their order
calls_lack : (search : Search) (pair_path : List (Seat × Seat)) (q : Path) (order : Order) (u : Unfolding) → IsOf search u → IsKindThere search q (next.Calls order) → AreTwoCalls (judge_of search) q → branches (judge_of search) order q ≡ None → FollowsOn search pair_path q u → Lacks search q u
unfolding IsKindThere
calls_lack search pair_path q order u of kind calls none at =
    let k = kind u of in
    let key = positions_of (seats_of q) in
    let two : AreTwoCalls (pairing_of u.pair) q = subst (λ (g : Pairing). AreTwoCalls g q) (sym of.programs) calls in
    let there : branches (pairing_of u.pair) (u.order key) q ≡ None = ap (λ (g : Pairing). branches g (u.order key) q) of.programs ∙ ap (λ (o : Order). branches (judge_of search) o q) k.1 ∙ none in
    LacksNext.call pair_path q at.follows at.goes_on k.0 two there

pub calls_stop : (search : Search) (pair_path : List (Seat × Seat)) (q : Path) (order : Order) (stop : UnfoldStop) → IsKindThere search q (next.Calls order) → AreTwoCalls (judge_of search) q → branches (judge_of search) order q ≡ None → HandsBack q.conj (Unit {0}) stop → StopsUnder search (FollowsOn search pair_path q) stop
calls_stop search pair_path q order stop kind calls none h = handed search (FollowsOn search pair_path q) q (Unit {0}) stop (λ u of at _. calls_lack search pair_path q order u of kind calls none at) h

-- ---- reads

-- a path goes on to the branch of a case with its number
pub case_follows : (search : Search) (pair_path : List (Seat × Seat)) (q : Path) (side : Side) (read : ReadFlow) (case : Case) (number : ℕ) (xs found : List Branch) (b : Branch) (n : ℕ) (u : Unfolding) → IsOf search u → IsKindThere search q (next.Read side)
    → IsAmong read (flow_on search.program_flows.now.left_flow.now search.program_flows.now.right_flow.now side).reads → read.position ≡ (seat_of q side).position → slice_get read.cases number ≡ Some case → number ≡ length xs → xs ++ b ∷ [] ≡ take n found
    → Some (map (onto q) found) ≡ branches (judge_of search) Keep q → FollowsOn search pair_path q u → FollowsCase search case (onward pair_path (onto q b)) (onto q b) u
unfolding IsKindThere
case_follows search pair_path q side read case number xs found b n u of kind among position get count first is at =
    let bs = map (onto q) found in
    let there : slice_get bs (length xs) ≡ Some (onto q b) = subst (λ (ys : List Branch). slice_get (map (onto q) ys) (length xs) ≡ Some (onto q b)) (all_found xs found b n first) (get_middle q xs (drop n found) b) in
    record {
      before = pair_path;
      question = q;
      on = at;
      side = side;
      branch = record {
        reads = kind u of;
        read = read;
        among = among;
        position_is = position;
        branches_of = bs;
        are = ap (λ (g : Pairing). branches g Keep q) of.programs ∙ sym is;
        number = number;
        branch_is = ap (slice_get bs) count ∙ there;
        case_is = get;
      };
      pair_path_is = refl;
    }

-- the branches of a read or an output are not formed
read_lacks : (search : Search) (pair_path : List (Seat × Seat)) (q : Path) (side : Side) (u : Unfolding) → IsOf search u → IsKindThere search q (next.Read side) → branches (judge_of search) Keep q ≡ None → FollowsOn search pair_path q u → Lacks search q u
unfolding IsKindThere
read_lacks search pair_path q side u of kind none at = LacksNext.read pair_path q side at.follows at.goes_on (kind u of) (ap (λ (g : Pairing). branches g Keep q) of.programs ∙ none)

pub read_stops : (search : Search) (pair_path : List (Seat × Seat)) (q : Path) (side : Side) (stop : UnfoldStop) → IsKindThere search q (next.Read side) → branches (judge_of search) Keep q ≡ None → HandsBack q.conj (Unit {0}) stop → StopsUnder search (FollowsOn search pair_path q) stop
read_stops search pair_path q side stop kind none h = handed search (FollowsOn search pair_path q) q (Unit {0}) stop (λ u of at _. read_lacks search pair_path q side u of kind none at) h

-- ---- what is left of a case

-- a path goes on at what is left of a case
pub rest_follows : (search : Search) (case : Case) (pair_path : List (Seat × Seat)) (b d : Path) (rest : Remainder) (u : Unfolding) → IsOf search u → IsAmong rest case.pieces → at_rest (judge_of search).params b rest.conj ≡ Some d → FollowsCase search case pair_path b u → Follows search pair_path d u
rest_follows search case pair_path b d rest u of i e at =
    let left : at_rest (params_of u) b rest.conj ≡ Some d = ap (λ (k : ℕ). at_rest k b rest.conj) (params_are search u of) ∙ e in
    subst (λ (t : List (Seat × Seat)). Follows search t d u) (sym at.pair_path_is) (IsFollowed.read at.side at.before at.question b d case rest at.on.follows at.on.goes_on at.branch i left)

-- the rows of what is left are not formed
rest_lacks : (search : Search) (case : Case) (pair_path : List (Seat × Seat)) (b : Path) (rest : Remainder) (u : Unfolding) → IsOf search u → IsAmong rest case.pieces → FollowsCase search case pair_path b u → at_rest (judge_of search).params b rest.conj ≡ None → Lacks search b u
rest_lacks search case pair_path b rest u of i at none =
    let left : at_rest (params_of u) b rest.conj ≡ None = ap (λ (k : ℕ). at_rest k b rest.conj) (params_are search u of) ∙ none in
    LacksNext.rest at.side at.before at.question b case rest at.on.follows at.on.goes_on at.branch i left

pub rest_stops : (search : Search) (case : Case) (pair_path : List (Seat × Seat)) (b : Path) (rest : Remainder) (stop : UnfoldStop) → IsAmong rest case.pieces → HandsBack b.conj (at_rest (judge_of search).params b rest.conj ≡ None) stop → StopsUnder search (FollowsCase search case pair_path b) stop
rest_stops search case pair_path b rest stop i h = handed search (FollowsCase search case pair_path b) b (at_rest (judge_of search).params b rest.conj ≡ None) stop (λ u of at none. rest_lacks search case pair_path b rest u of i at none) h

-- ---- a case cut by its kills

-- at the branch of the case nothing is cut yet
pub whole_cut : (search : Search) (case : Case) (pair_path : List (Seat × Seat)) (b : Path) (u : Unfolding) → FollowsCase search case pair_path b u → FollowsCut search case 0 0 pair_path b u
whole_cut search case pair_path b u at = record { branch = b; in_case = at; cut = IsCut.whole }

-- a path goes on at a case so cut
pub cut_follows : (search : Search) (case : Case) (number row : ℕ) (pair_path : List (Seat × Seat)) (q : Path) (u : Unfolding) → IsOf search u → FollowsCut search case number row pair_path q u → Follows search pair_path q u
cut_follows search case number row pair_path q u of at =
    let in_case = at.in_case in
    let cut : IsCut (params_of u) case at.branch number row q = subst (λ (k : ℕ). IsCut k case at.branch number row q) (sym (params_are search u of)) at.cut in
    subst (λ (t : List (Seat × Seat)). Follows search t q u) (sym in_case.pair_path_is) (IsFollowed.cut in_case.side in_case.before in_case.question at.branch q case number row in_case.on.follows in_case.on.goes_on in_case.branch cut)

pub survivor_stops : {A : Type 0} (r : Result A UnfoldStop) (search : Search) (case : Case) (number row : ℕ) (pair_path : List (Seat × Seat)) (q : Path) → IfErr r (StopsUnder search (Follows search pair_path q)) → IfErr r (StopsUnder search (FollowsCut search case number row pair_path q))
survivor_stops r search case number row pair_path q h = err_from r search (FollowsCut search case number row pair_path q) (Follows search pair_path q) (λ u of at. cut_follows search case number row pair_path q u of at) h

-- a row of a kill is not formed there
kill_lacks : (search : Search) (case : Case) (number row : ℕ) (pair_path : List (Seat × Seat)) (q : Path) (kill : Conj × Kill) (u : Unfolding) → IsOf search u → slice_get case.kills number ≡ Some kill → AreNotFormed q.conj.columns (kill_on (judge_of search).params q kill.0) → FollowsCut search case number row pair_path q u → Lacks search q u
kill_lacks search case number row pair_path q kill u of i lack at =
    let n = sym (params_are search u of) in
    let in_case = at.in_case in
    let cut : IsCut (params_of u) case at.branch number row q = subst (λ (k : ℕ). IsCut k case at.branch number row q) n at.cut in
    let there : AreNotFormed q.conj.columns (kill_on (params_of u) q kill.0) = subst (λ (k : ℕ). AreNotFormed q.conj.columns (kill_on k q kill.0)) n lack in
    LacksNext.kill in_case.side in_case.before in_case.question at.branch q case number row kill in_case.on.follows in_case.on.goes_on in_case.branch cut i there

-- none of its rows is there
pub kill_stops : (search : Search) (case : Case) (number row : ℕ) (pair_path : List (Seat × Seat)) (q : Path) (kill : Conj × Kill) (stop : UnfoldStop) → slice_get case.kills number ≡ Some kill → HandsBack q.conj (kill_on (judge_of search).params q kill.0 ≡ None) stop
    → StopsUnder search (FollowsCut search case number row pair_path q) stop
kill_stops search case number row pair_path q kill stop i h =
    handed search (FollowsCut search case number row pair_path q) q (kill_on (judge_of search).params q kill.0 ≡ None) stop
    (λ u of at none. kill_lacks search case number row pair_path q kill u of i (subst (AreNotFormed q.conj.columns) (sym none) tt) at) h

-- one of them has no sides
pub row_stops : (search : Search) (case : Case) (number at : ℕ) (pair_path : List (Seat × Seat)) (q : Path) (row : Row) (stop : UnfoldStop) → IsKillsRow search case number at q row → (IsRowOver q.conj.columns row → NormalFits row → ¬ CanBranch row) → HandsBack q.conj (Unit {0}) stop
    → StopsUnder search (FollowsCut search case number at pair_path q) stop
row_stops search case number at pair_path q row stop is unbranched h =
    let lack : AreNotFormed q.conj.columns (kill_on (judge_of search).params q is.are.kill.0) = subst (AreNotFormed q.conj.columns) (sym is.are.are) (row, in_get is.rows at row is.is, unbranched) in
    handed search (FollowsCut search case number at pair_path q) q (Unit {0}) stop (λ u of place _. kill_lacks search case number at pair_path q is.are.kill u of is.are.is lack place) h

-- ---- the rows of a kill

-- a row of a kill, by both numbers
its_row : (search : Search) (case : Case) (number at : ℕ) (q : Path) (row : Row) → IsKillsRow search case number at q row → row_at (judge_of search).params case number at q ≡ Some row
its_row search case number at q row h =
    let n = (judge_of search).params in
    ap (λ (o : Option (Conj × Kill)). option_and_then (λ (rows : List Row). slice_get rows at) (option_and_then (λ (k : Conj × Kill). kill_on n q k.0) o)) h.are.is
    ∙ ap (option_and_then (λ (rows : List Row). slice_get rows at)) h.are.are ∙ h.is

-- behind a row
pub row_behind : (search : Search) (case : Case) (number row : ℕ) (pair_path : List (Seat × Seat)) (q : Path) (u : Unfolding) → FollowsCut search case number row pair_path q u → FollowsCut search case number (row + 1) pair_path q u
row_behind search case number row pair_path q u at = record { branch = at.branch; in_case = at.in_case; cut = IsCut.next_row number row q at.cut }

-- behind a kill
pub kill_behind : (search : Search) (case : Case) (number row next : ℕ) (pair_path : List (Seat × Seat)) (q : Path) (u : Unfolding) → next ≡ number + 1 → FollowsCut search case number row pair_path q u → FollowsCut search case next 0 pair_path q u
kill_behind search case number row next pair_path q u e at =
    subst (λ (n : ℕ). FollowsCut search case n 0 pair_path q u) (sym e) (record { branch = at.branch; in_case = at.in_case; cut = IsCut.next_kill number row q at.cut })

-- where such a row holds
pub inside_cut : (search : Search) (case : Case) (number at : ℕ) (pair_path t : List (Seat × Seat)) (q v : Path) (row : Row) (parts : Parts) (u : Unfolding) → IsKillsRow search case number at q row → AreNewSides q.conj row parts → IsNew q.conj (inside_of row) → v ≡ at_rows q (side_of q.conj parts.inside) → t ≡ pair_path
    → FollowsCut search case number at pair_path q u → FollowsCut search case number (at + 1) t v u
inside_cut search case number at pair_path t q v row parts u h sides new e f place =
    let inside : parts.inside ≡ inside_of row = ap (λ (x : Parts). x.inside) sides.are.1 in
    let there : v ≡ at_rows q (side_of q.conj (inside_of row)) = e ∙ ap (λ (p : Part). at_rows q (side_of q.conj p)) inside in
    record {
      branch = place.branch;
      in_case = subst (λ (x : List (Seat × Seat)). FollowsCase search case x place.branch u) (sym f) place.in_case;
      cut = subst (IsCut (judge_of search).params case place.branch number (at + 1)) (sym there) (IsCut.inside number at q row place.cut (its_row search case number at q row h) new);
    }

-- on a side where it does not hold
pub outside_cut : (search : Search) (case : Case) (number at next : ℕ) (pair_path t : List (Seat × Seat)) (q v : Path) (row : Row) (parts : Parts) (part : Part) (u : Unfolding) → next ≡ number + 1 → IsKillsRow search case number at q row → AreNewSides q.conj row parts → IsAmong part parts.outside
    → v ≡ at_rows q (side_of q.conj part) → t ≡ pair_path → FollowsCut search case number at pair_path q u → FollowsCut search case next 0 t v u
outside_cut search case number at next pair_path t q v row parts part u n h sides i e f place =
    let there : IsAmong part (outside_of q.conj.columns row) = subst (IsAmong part) (ap (λ (x : Parts). x.outside) sides.are.1) i in
    let cut = IsCut.outside number at q row part place.cut (its_row search case number at q row h) there (one_of (IsNew q.conj) parts.outside part i sides.new) in
    subst (λ (k : ℕ). FollowsCut search case k 0 t v u) (sym n) (record { branch = place.branch; in_case = subst (λ (x : List (Seat × Seat)). FollowsCase search case x place.branch u) (sym f) place.in_case; cut = subst (IsCut (judge_of search).params case place.branch (number + 1) 0) (sym e) cut })
  where
    one_of : (P : Part → Type 0) (ps : List Part) (p : Part) → IsAmong p ps → AllByRecursion P ps → P p
    one_of P [] p k all = absurd k
    one_of P (x ∷ ps) p (inl same) all = subst P (sym same) all.0
    one_of P (x ∷ ps) p (inr k) all = one_of P ps p k all.1

-- ---- starts

pub begun_stops : {A : Type 0} (r : Result A UnfoldStop) (search : Search) (start : Claim) (left right : ℕ) (path : Path) (node opened : Node) → start_at (judge_of search) start left right ≡ Some path → IsWellMade path.conj → node.question ≡ path → node.pair_path ≡ seats_of path ∷ []
    → opened.question ≡ node.question → opened.pair_path ≡ node.pair_path → IfErr r (StopsUnder search (Follows search opened.pair_path opened.question)) → IfErr r (StopsUnder search (IsFrom start))
begun_stops r search start left right path node opened e made q t q' t' h =
    err_from r search (IsFrom start) (Follows search opened.pair_path opened.question) (λ u of from. (begun_there search start left right path opened u e made (q' ∙ q) (t' ∙ t) of from).1) h

-- there was no memory
pub memory_stops : {A : Type 0} (r : Result A UnfoldStop) (want : AllocError) (program_flows : ProgramFlows) (start : Claim) (claims : List Claim) (order : List (Site × Order)) → IsErrAnd r (λ e. e ≡ Memory want) → IfErr r (StopsUnfolding program_flows start claims order)
memory_stops r want program_flows start claims order e = if_err (StopsUnfolding program_flows start claims order) r (Memory want) e (λ u is. tt)
