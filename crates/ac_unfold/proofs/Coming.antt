-- How an unfolding comes to the questions of a search, and what is broken there.
use Rattle.std.proofs.Common.{◌≡◌, ◌⊎◌, inl, inr, ℕ, zero, suc, ◌+◌, ◌-◌, ◌≤◌, Bool, true, false, ℤ, List, [], ◌∷◌, ◌++◌, length, map, Some, None, refl, sym, ap, ◌∙◌, subst, arith}
use Rattle.std.specs.Prelude.{Result, Ok, Err, OnOk, slice_get, option_and_then, option_map}
use Rattle.std.specs.List.{AllByRecursion, range_with_len}
use Rattle.ac_forms.specs.Renaming.{picked, row_renaming, rows_renaming}
use Rattle.ac_forms.specs.Rows.{Holds, Meets, AreRowsOver, IsWellMade}
use Rattle.ac_forms.specs.declared.conj.Conj.{Conj}
use Rattle.ac_forms.specs.declared.row.Row.{Row}
use Rattle.ac_forms.proofs.Distinct.{row_renaming-points}
use Rattle.ac_omega_steps.specs.IntegerPoints.{IsPoint}
use Rattle.ac_syntax.specs.declared.tree.Order.{Order}
use Rattle.ac_syntax.specs.declared.tree.Order.TheVariants.{Keep}
use Rattle.ac_base.proofs.Options.{bind-some, map-some, some-is}
use Rattle.ac_claims_paths.specs.BranchPaths.{onto}
use Rattle.ac_claims_paths.specs.PathColumns.{base, columns_of}
use Rattle.ac_claims_paths.specs.PathSteps.{Pairing, at_rows, branches, extended, seat_of}
use Rattle.ac_claims_paths.specs.ModelCalls.{pairing}
use Rattle.ac_claims_paths.specs.CopyKills.{case_columns}
use Rattle.ac_forms.specs.ListMembers.{IsAmong}
use Rattle.ac_claims_paths.specs.declared.path.Assumed.{Assumed}
use Rattle.ac_claims_paths.specs.declared.path.Branch.{Branch}
use Rattle.ac_claims_paths.specs.declared.path.Path.{Path}
use Rattle.ac_claims_paths.specs.declared.path.Seat.{Seat}
use Rattle.ac_claims_paths.specs.declared.path.Side.{Side}
use Rattle.ac_widen.specs.declared.derivation.Entry.{Entry}
use Rattle.ac_claims.specs.Domains.{of_width, piece_by}
use Rattle.ac_claims.specs.ProofFaults.{domain, left_seat, piece_rows, right_seat, start, start_columns}
use Rattle.ac_claims.specs.RemainingPlans.{start_at, start_beside, start_of}
use Rattle.ac_claims.specs.declared.domains.Piece.{Piece}
use Rattle.ac_claims.specs.declared.types.Claim.{Claim}
use Rattle.ac_claims.specs.declared.types.PlanNext.{PlanNext}
use Rattle.ac_claims.proofs.Plans.{position_is}
use Rattle.ac_flow.specs.declared.types.Case.{Case}
use Rattle.ac_flow.specs.declared.types.ReadFlow.{ReadFlow}
use Rattle.ac_flow.specs.declared.types.Remainder.{Remainder}
use Rattle.ac_graph.specs.PairMoves.{pairing_of}
use Rattle.ac_graph.specs.GraphMeaning.{HaveFlows}
use Rattle.ac_unfold_plans.specs.ArgumentOrders.{order_of as listed}
use Rattle.ac_syntax.specs.declared.tree.Site.{Site}
use Rattle.ac_widen_programs.specs.PairSetting.{order_at}
use Rattle.ac_widen_programs.specs.PairPathEnds.{entries_at}
use Rattle.ac_widen_programs.specs.PairPaths.{Unfolding, ComesTo, params_of, positions_of, seats_of}
use Rattle.ac_widen_programs.specs.PairPathSteps.{at_rest, columns_left, flow_on, further, order_of, with_rest, IsReached}
use Rattle.ac_widen_programs.proofs.Calling.{orders_are_taken}
use Rattle.ac_widen_programs.proofs.Reaching.{pair_paths_lead}
use Rattle.ac_widen_programs.specs.BrokenPaths.{EndsBroken, HasNoClaim, IsBroken}
use Rattle.ac_unfold.specs.Unfoldings.{IsUnfoldingOf}
use Rattle.ac_unfold.specs.KillCuts.{IsClaimBehind}
use Rattle.ac_unfold.specs.UnfoldEnds.{EndsAtClaimed, EndsWithoutStep, IsWalked}
use Rattle.ac_unfold.specs.EndResults.{nothing_found}
use Rattle.ac_unfold.specs.PlanResults.{judge_of}
use Rattle.ac_unfold.specs.UnfoldPaths.{BrokenPathsOf}
use Rattle.ac_unfold.specs.StartResults.{IsBrokenFrom}
use Rattle.ac_unfold.specs.BrokenPathResults.{Adds, AddsBroken, IsAt, IsFoundIn, IsFrom, IsInCase, IsKindThere, IsLeaf, IsOf, IsPast, IsPathAt, IsPathBreaking, Reached}
use Rattle.ac_unfold.specs.FoundPaths.{IsFoundAt}
use Rattle.ac_unfold.specs.UnfoldQuestions.{AreTargets, IsAskedAt, IsFollowed}
use Rattle.ac_unfold.specs.UnfoldStops.{Follows}
use Rattle.ac_unfold.specs.UnfoldTasks.{IsThere}
use Rattle.ac_unfold.specs.declared.ends.Search.{Search}
use Rattle.ac_unfold.specs.declared.kinds.Next.TheVariants as next
use Rattle.ac_unfold.specs.declared.node.Node.{Node}
use Rattle.ac_unfold.specs.declared.types.ProgramFlows.{ProgramFlows}
use Rattle.ac_unfold.proofs.Adding.{adds_all, adds_all_ends, adds_kept}
use Rattle.ac_unfold.proofs.Stopped.{around_asked}

-- ---- what is added, one after the other

-- nothing, of either
pub broken_same : (search : Search) (At : Unfolding → Type 0) (before after : BrokenPathsOf) → after.paths ≡ before.paths → after.ended ≡ before.ended → AddsBroken search At before after
unfolding AddsBroken
broken_same search At before after e f =
    (omega (arith, ap length e), λ u of at h. record { broken = subst (AllByRecursion (IsBroken u search.claims.now)) (sym e) h.broken; asked = subst (AllByRecursion (IsFoundIn search u)) (sym e) h.asked; walked = subst (AllByRecursion (IsWalked u search.claims.now)) (sym f) h.walked })

pub broken_none : (search : Search) (At : Unfolding → Type 0) (before after : BrokenPathsOf) → after ≡ before → AddsBroken search At before after
broken_none search At before after e = broken_same search At before after (ap (λ (f : BrokenPathsOf). f.paths) e) (ap (λ (f : BrokenPathsOf). f.ended) e)

pub broken_then : (search : Search) (At : Unfolding → Type 0) (a b c : BrokenPathsOf) → AddsBroken search At a b → AddsBroken search At b c → AddsBroken search At a c
unfolding AddsBroken
broken_then search At a b c h k = (omega (arith, h.0, k.0), λ u of at all. k.1 u of at (h.1 u of at all))

-- at one place, where it was at another
pub broken_from : (search : Search) (At Next : Unfolding → Type 0) (before after : BrokenPathsOf) → ((u : Unfolding) → IsOf search u → At u → Next u) → AddsBroken search Next before after → AddsBroken search At before after
unfolding AddsBroken
broken_from search At Next before after f h = (h.0, λ u of at. h.1 u of (f u of at))

-- by paths of one kind, and ends of another
pub broken_by : (search : Search) (At : Unfolding → Type 0) (Kind Ends : List Entry → Type 0) (before after : BrokenPathsOf) → ((u : Unfolding) → IsOf search u → At u → (es : List Entry) → Kind es → IsBroken u search.claims.now es)
    → ((u : Unfolding) → IsOf search u → At u → (es : List Entry) → Kind es → IsFoundIn search u es) → ((u : Unfolding) → IsOf search u → At u → (es : List Entry) → Ends es → IsWalked u search.claims.now es) → Adds Kind Ends before after → AddsBroken search At before after
unfolding AddsBroken
broken_by search At Kind Ends before after f k g h = (
  adds_kept Kind Ends before after h,
  λ u of at all. record { broken = adds_all Kind Ends (IsBroken u search.claims.now) before after (f u of at) h all.broken; asked = adds_all Kind Ends (IsFoundIn search u) before after (k u of at) h all.asked; walked = adds_all_ends Kind Ends (IsWalked u search.claims.now) before after (g u of at) h all.walked },
)

-- no path is lost
pub broken_kept : (search : Search) (At : Unfolding → Type 0) (before after : BrokenPathsOf) → AddsBroken search At before after → length before.paths ≤ length after.paths
unfolding AddsBroken
broken_kept search At before after h = h.0

-- ---- lists of pairs

all_last : (claims : List Claim) (xs : List (Seat × Seat)) (s : Seat × Seat) → AllByRecursion (HasNoClaim claims) xs → HasNoClaim claims s → AllByRecursion (HasNoClaim claims) (xs ++ s ∷ [])
all_last claims [] s h k = (k, tt)
all_last claims (x ∷ xs) s h k = (h.0, all_last claims xs s h.1 k)

-- ---- where no claim stands

pub is_past : (search : Search) (pair_path : List (Seat × Seat)) (q : Path) (u : Unfolding) → (q.gone ≡ true → HasNoClaim search.claims.now (seats_of q)) → IsAt search pair_path q u → IsPast search pair_path q u
is_past search pair_path q u none at = by q.gone refl
  where
    by : (b : Bool) → q.gone ≡ b → IsPast search pair_path q u
    by false e = record { reached = at.reached; first = seats_of q; rest = []; is = at.begins e; free = tt }
    by true e =
        let b = at.behind e in
        record { reached = at.reached; first = b.first; rest = b.between ++ seats_of q ∷ []; is = b.is; free = all_last search.claims.now b.between (seats_of q) b.free (none e) }

-- it comes past the pair of a question that it follows
abbrev pub IsPastThere : Search → List (Seat × Seat) → Path → Unfolding → Type 0
IsPastThere search pair_path q = λ u. IsPast search pair_path q u × Follows search pair_path q u

pub broken_past : (search : Search) (pair_path : List (Seat × Seat)) (q : Path) (before after : BrokenPathsOf) → (q.gone ≡ true → HasNoClaim search.claims.now (seats_of q)) → AddsBroken search (IsPastThere search pair_path q) before after → AddsBroken search (IsThere search pair_path q) before after
broken_past search pair_path q before after none h = broken_from search (IsThere search pair_path q) (IsPastThere search pair_path q) before after (λ u of at. (is_past search pair_path q u none at.0, at.1)) h

-- ---- a point of a question

pub params_are : (search : Search) (u : Unfolding) → IsOf search u → params_of u ≡ (judge_of search).params
params_are search u of = ap (λ (g : Pairing). g.params) of.programs

-- the path of a pair path at a point, with its end
path_broken : (search : Search) (u : Unfolding) (pair_path : List (Seat × Seat)) (q : Path) (p : List ℤ) (first : Seat × Seat) (rest : List (Seat × Seat)) (es : List Entry) → IsOf search u → Reached search u pair_path q → q.conj.columns ≤ length p → Meets q.conj.rows p → pair_path ≡ first ∷ rest
    → es ≡ entries_at (judge_of search).params p pair_path → EndsBroken u search.claims.now rest q p → IsBroken u search.claims.now es
path_broken search u pair_path q p first rest es of reached long meets is are ends =
    let comes = pair_paths_lead u search.program_flows.now.left_flow.now search.program_flows.now.right_flow.now pair_path q of.flows reached p long meets in
    record {
      first = first;
      rest = rest;
      question = q;
      point = p;
      comes = subst (λ (t : List (Seat × Seat)). ComesTo u t q p) is comes;
      are = are ∙ ap (λ (n : ℕ). entries_at n p pair_path) (sym (params_are search u of)) ∙ ap (entries_at (params_of u) p) is;
      ends = ends;
    }

-- the path of a pair path at a point of what is asked at its end
path_found : (search : Search) (u : Unfolding) (pair_path : List (Seat × Seat)) (q : Path) (c : Conj) (p : List ℤ) (es : List Entry) → IsOf search u → Follows search pair_path q u → IsAskedAt (judge_of search) search.claims.now q c → IsPoint c p → es ≡ entries_at (judge_of search).params p pair_path
    → IsFoundIn search u es
path_found search u pair_path q c p es of follows asked there are = record {
  pairs = pair_path;
  path = q;
  followed = follows;
  question = c;
  asked = subst (λ (g : Pairing). IsAskedAt g search.claims.now q c) (sym of.programs) asked;
  point = p;
  there = there;
  are = are ∙ ap (λ (n : ℕ). entries_at n p pair_path) (sym (params_are search u of));
}

-- at a point of the question
found_here : (search : Search) (u : Unfolding) (pair_path : List (Seat × Seat)) (q : Path) (es : List Entry) → IsOf search u → Follows search pair_path q u → IsPathAt (judge_of search).params pair_path q.conj es → IsFoundIn search u es
found_here search u pair_path q es of follows x = path_found search u pair_path q q.conj x.point es of follows (IsAskedAt.here refl) x.there x.are

-- where a row that has to stand does not
found_breaking : (search : Search) (u : Unfolding) (pair_path : List (Seat × Seat)) (q : Path) (rows : List Row) (es : List Entry) → IsOf search u → Follows search pair_path q u → AreTargets (judge_of search) search.claims.now q (Some rows)
    → IsPathBreaking (judge_of search).params pair_path q.conj rows es → IsFoundIn search u es
found_breaking search u pair_path q rows es of follows targets x = path_found search u pair_path q x.asked x.point es of follows (around_asked (judge_of search) search.claims.now q rows x.asked targets x.asked_is) x.there x.are

-- the same of a path to an end
path_walked : (search : Search) (u : Unfolding) (pair_path : List (Seat × Seat)) (q : Path) (p : List ℤ) (first : Seat × Seat) (rest : List (Seat × Seat)) (es : List Entry) → IsOf search u → Reached search u pair_path q → q.conj.columns ≤ length p → Meets q.conj.rows p → pair_path ≡ first ∷ rest
    → es ≡ entries_at (judge_of search).params p pair_path → EndsAtClaimed search.claims.now rest q ⊎ EndsWithoutStep u search.claims.now rest q → IsWalked u search.claims.now es
path_walked search u pair_path q p first rest es of reached long meets is are ends =
    let comes = pair_paths_lead u search.program_flows.now.left_flow.now search.program_flows.now.right_flow.now pair_path q of.flows reached p long meets in
    record {
      first = first;
      rest = rest;
      question = q;
      point = p;
      comes = subst (λ (t : List (Seat × Seat)). ComesTo u t q p) is comes;
      are = are ∙ ap (λ (n : ℕ). entries_at n p pair_path) (sym (params_are search u of)) ∙ ap (entries_at (params_of u) p) is;
      ends = ends;
    }

-- at a pair without a step
pub leaf_walked : (search : Search) (pair_path : List (Seat × Seat)) (q : Path) (u : Unfolding) (es : List Entry) → IsLeaf (judge_of search) q → IsOf search u → IsPast search pair_path q u → IsPathAt (judge_of search).params pair_path q.conj es → IsWalked u search.claims.now es
leaf_walked search pair_path q u es leaf of at x =
    let l = x.there.long in
    let k : IsLeaf (pairing_of u.pair) q = subst (λ (g : Pairing). IsLeaf g q) (sym of.programs) leaf in
    path_walked search u pair_path q x.point at.first at.rest es of at.reached (omega (arith, l)) x.there.meets at.is x.are (inr (record { free = at.free; readers = record { left = k.left; right = k.right }; calls = k.calls }))

-- ---- mismatches

pub mismatch_broken : (search : Search) (pair_path : List (Seat × Seat)) (q : Path) (before after : BrokenPathsOf) → IsKindThere search q next.Mismatch → IsLeaf (judge_of search) q
    → Adds (IsPathAt (judge_of search).params pair_path q.conj) (IsPathAt (judge_of search).params pair_path q.conj) before after → AddsBroken search (IsPastThere search pair_path q) before after
unfolding IsKindThere
mismatch_broken search pair_path q before after kind leaf h =
    broken_by search (IsPastThere search pair_path q) (IsPathAt (judge_of search).params pair_path q.conj) (IsPathAt (judge_of search).params pair_path q.conj) before after
    (λ u of at es x. let l = x.there.long in path_broken search u pair_path q x.point at.0.first at.0.rest es of at.0.reached (omega (arith, l)) x.there.meets at.0.is x.are (inl (record { free = at.0.free; nothing = kind u of x.point })))
    (λ u of at es x. found_here search u pair_path q es of at.1 x) (λ u of at es x. leaf_walked search pair_path q u es leaf of at.0 x) h

pub match_broken : (search : Search) (pair_path : List (Seat × Seat)) (q : Path) (rows : List Row) (end : PlanNext) (before after : BrokenPathsOf) → IsKindThere search q (next.Match rows end) → IsLeaf (judge_of search) q → AreTargets (judge_of search) search.claims.now q (Some rows)
    → Adds (IsPathBreaking (judge_of search).params pair_path q.conj rows) (IsPathAt (judge_of search).params pair_path q.conj) before after → AddsBroken search (IsPastThere search pair_path q) before after
unfolding IsKindThere
match_broken search pair_path q rows end before after kind leaf targets h =
    broken_by search (IsPastThere search pair_path q) (IsPathBreaking (judge_of search).params pair_path q.conj rows) (IsPathAt (judge_of search).params pair_path q.conj) before after
    (λ u of at es x. path_broken search u pair_path q x.point at.0.first at.0.rest es of at.0.reached x.long x.meets at.0.is x.are (inl (record { free = at.0.free; nothing = kind u of x.point x.row x.among x.fails })))
    (λ u of at es x. found_breaking search u pair_path q rows es of at.1 targets x) (λ u of at es x. leaf_walked search pair_path q u es leaf of at.0 x) h

-- ---- claims

renamed_in : (ks : List ℕ) (rows made : List Row) → rows_renaming ks rows ≡ Some made → (r : Row) → IsAmong r made → (row : Row) × IsAmong row rows × (row_renaming ks row ≡ Some r)
renamed_in ks [] made e r i = let j : [] ≡ made = cc in absurd (subst (IsAmong r) (sym j) i)
renamed_in ks (x ∷ rows) made e r i =
    let b = bind-some (row_renaming ks x) (λ s. option_map (λ ss. s ∷ ss) (rows_renaming ks rows)) made e in
    let c = map-some (rows_renaming ks rows) (λ ss. b.0 ∷ ss) made b.2 in
    by b.0 b.1 c.0 (renamed_in ks rows c.0 c.1 r) (subst (IsAmong r) c.2 i)
  where
    by : (s : Row) → row_renaming ks x ≡ Some s → (ss : List Row) → (IsAmong r ss → (row : Row) × IsAmong row rows × (row_renaming ks row ≡ Some r)) → IsAmong r (s ∷ ss) → (row : Row) × IsAmong row (x ∷ rows) × (row_renaming ks row ≡ Some r)
    by s is ss next (inl j) = (x, inl refl, is ∙ ap Some (sym j))
    by s is ss next (inr j) = let z = next j in (z.0, inr z.1, z.2)

in_get : (xs : List Claim) (i : ℕ) (x : Claim) → slice_get xs i ≡ Some x → IsAmong x xs
in_get [] i x e = absurd cc
in_get (y ∷ xs) zero x e = inl cc
in_get (y ∷ xs) (suc i) x e = inr (in_get xs i x e)

-- a path to the pair of a claim ends there
pub claim_walked : (search : Search) (pair_path : List (Seat × Seat)) (q : Path) (number : ℕ) (u : Unfolding) (es : List Entry) → IsClaimBehind search q number → IsOf search u → IsAt search pair_path q u → IsPathAt (judge_of search).params pair_path q.conj es → IsWalked u search.claims.now es
claim_walked search pair_path q number u es there of at x =
    let b = at.behind there.gone in
    let l = x.there.long in
    path_walked search u pair_path q x.point b.first (b.between ++ seats_of q ∷ []) es of at.reached (omega (arith, l)) x.there.meets b.is x.are
    (inl (record {
      between = b.between;
      rest_is = refl;
      free = b.free;
      claim = there.at.claim;
      among = in_get search.claims.now number there.at.claim there.at.is;
      left_is = position_is q.left.position there.at.claim.left there.at.left_is;
      right_is = position_is q.right.position there.at.claim.right there.at.right_is;
    }))

pub claim_broken : (search : Search) (pair_path : List (Seat × Seat)) (q : Path) (number : ℕ) (claim : Claim) (rows : List Row) (before after : BrokenPathsOf) → IsClaimBehind search q number → slice_get search.claims.now number ≡ Some claim
    → Some rows ≡ rows_renaming (base (judge_of search).params ++ (columns_of q.left ++ columns_of q.right)) claim.rows
    → AreTargets (judge_of search) search.claims.now q (Some rows) → Adds (IsPathBreaking (judge_of search).params pair_path q.conj rows) (IsPathAt (judge_of search).params pair_path q.conj) before after → AddsBroken search (IsThere search pair_path q) before after
claim_broken search pair_path q number claim rows before after there get made targets h =
    broken_by search (IsThere search pair_path q) (IsPathBreaking (judge_of search).params pair_path q.conj rows) (IsPathAt (judge_of search).params pair_path q.conj) before after (λ u of at es x. by u of at.0 es x (renamed_in ks claim.rows rows (sym made) x.row x.among))
    (λ u of at es x. found_breaking search u pair_path q rows es of at.1 targets x) (λ u of at es x. claim_walked search pair_path q number u es there of at.0 x) h
  where
    ks : List ℕ
    ks = base (judge_of search).params ++ (columns_of q.left ++ columns_of q.right)

    same : there.at.claim ≡ claim
    same = some-is there.at.claim claim (sym there.at.is ∙ get)

    by : (u : Unfolding) → IsOf search u → IsAt search pair_path q u → (es : List Entry) → (x : IsPathBreaking (judge_of search).params pair_path q.conj rows es) → (row : Row) × IsAmong row claim.rows × (row_renaming ks row ≡ Some x.row) → IsBroken u search.claims.now es
    by u of at es x r =
        let b = at.behind there.gone in
        let n = params_are search u of in
        let fails : ¬ (Holds r.0 (picked ks x.point)) = λ h. x.fails.fails ((row_renaming-points ks r.0 x.row x.point r.2).1 h) in
        path_broken search u pair_path q x.point b.first (b.between ++ seats_of q ∷ []) es of at.reached x.long x.meets b.is x.are
        (inr (record {
          between = b.between;
          rest_is = refl;
          free = b.free;
          claim = claim;
          among = in_get search.claims.now number claim get;
          left_is = position_is q.left.position there.at.claim.left there.at.left_is ∙ ap (λ (c : Claim). c.left) same;
          right_is = position_is q.right.position there.at.claim.right there.at.right_is ∙ ap (λ (c : Claim). c.right) same;
          row = r.0;
          row_among = r.1;
          fails = subst (λ (k : ℕ). ¬ (Holds r.0 (picked (base k ++ (columns_of q.left ++ columns_of q.right)) x.point))) (sym n) fails;
        }))

-- ---- starts

-- where a claim starts, the unfolding of the claim begins
pub is_begun : (search : Search) (start : Claim) (left right : ℕ) (path : Path) (node : Node) (u : Unfolding) → start_at (judge_of search) start left right ≡ Some path → IsWellMade path.conj → node.question ≡ path → node.pair_path ≡ seats_of path ∷ [] → IsOf search u → IsFrom start u
    → IsAt search node.pair_path node.question u
is_begun search start left right path node u e made q t of from =
    let g = judge_of search in
    let a = bind-some (piece_by left (domain g.left start.left)) (λ (l : Piece). start_beside g start l (piece_by right (domain g.right start.right))) path e in
    let b = bind-some (piece_by right (domain g.right start.right)) (start_of g start a.0) path a.2 in
    let m = map-some (piece_rows g start (of_width a.0.width) (of_width b.0.width) a.0.rows b.0.rows) (λ (rows : List Row). record {
      conj = record { columns = start_columns g (of_width a.0.width) (of_width b.0.width); rows = start.rows ++ (g.left.context ++ rows) };
      left = left_seat g start (of_width a.0.width);
      right = right_seat g start (of_width a.0.width) (of_width b.0.width);
      gone = false;
      last = None;
    }) path b.2 in
    let gone : path.gone ≡ false = ap (λ (x : Path). x.gone) m.2 in
    let rows : path.conj.rows ≡ start.rows ++ (g.left.context ++ m.0) = ap (λ (x : Path). x.conj.rows) m.2 in
    let over : AreRowsOver path.conj.columns start.rows = front path.conj.columns start.rows (g.left.context ++ m.0) (subst (AreRowsOver path.conj.columns) rows made) in
    let begins : start_at (pairing_of u.pair) u.claim left right ≡ Some path = ap (λ (c : Claim). start_at (pairing_of u.pair) c left right) from ∙ ap (λ (x : Pairing). start_at x start left right) of.programs ∙ e in
    let reached : Reached search u (seats_of path ∷ []) path = IsReached.start left right path begins (subst (λ (c : Claim). AreRowsOver path.conj.columns c.rows) (sym from) over) in
    let at : IsAt search (seats_of path ∷ []) path u = record { reached = reached; begins = λ _. refl; behind = λ g. absurd (not_both path.gone gone g) } in
    subst (λ (x : List (Seat × Seat)). IsAt search x node.question u) (sym t) (subst (λ (x : Path). IsAt search (seats_of path ∷ []) x u) (sym q) at)
  where
    front : (n : ℕ) (xs ys : List Row) → AreRowsOver n (xs ++ ys) → AreRowsOver n xs
    front n [] ys h = tt
    front n (x ∷ xs) ys h = (h.0, front n xs ys h.1)

    not_both : (b : Bool) → b ≡ false → ¬ (b ≡ true)
    not_both b e f = let z : false ≡ true = sym e ∙ f in absurd cc

pub start_follows : (search : Search) (start : Claim) (left right : ℕ) (path : Path) (u : Unfolding) → start_at (judge_of search) start left right ≡ Some path → IsOf search u → IsFrom start u → Follows search (seats_of path ∷ []) path u
start_follows search start left right path u e of from =
    let begins : start_at (pairing_of u.pair) u.claim left right ≡ Some path = ap (λ (c : Claim). start_at (pairing_of u.pair) c left right) from ∙ ap (λ (x : Pairing). start_at x start left right) of.programs ∙ e in
    IsFollowed.start left right path begins

pub begun_there : (search : Search) (start : Claim) (left right : ℕ) (path : Path) (node : Node) (u : Unfolding) → start_at (judge_of search) start left right ≡ Some path → IsWellMade path.conj → node.question ≡ path → node.pair_path ≡ seats_of path ∷ [] → IsOf search u → IsFrom start u
    → IsThere search node.pair_path node.question u
begun_there search start left right path node u e made q t of from =
    let follows = start_follows search start left right path u e of from in (
      is_begun search start left right path node u e made q t of from,
      subst (λ (x : List (Seat × Seat)). Follows search x node.question u) (sym t) (subst (λ (x : Path). Follows search (seats_of path ∷ []) x u) (sym q) follows),
    )

pub begun_broken : (search : Search) (start : Claim) (left right : ℕ) (path : Path) (node next : Node) (before after : BrokenPathsOf) → start_at (judge_of search) start left right ≡ Some path → IsWellMade path.conj → node.question ≡ path → node.pair_path ≡ seats_of path ∷ []
    → next.question ≡ node.question → next.pair_path ≡ node.pair_path → AddsBroken search (IsThere search next.pair_path next.question) before after → AddsBroken search (IsFrom start) before after
begun_broken search start left right path node next before after e made q t q' t' h =
    broken_from search (IsFrom start) (IsThere search next.pair_path next.question) before after (λ u of from. begun_there search start left right path next u e made (q' ∙ q) (t' ∙ t) of from) h

-- ---- calls

-- behind a branch of two calls
pub behind_call : (search : Search) (pair_path : List (Seat × Seat)) (q : Path) (order : Order) (bs : List Path) (b : Path) (u : Unfolding) → IsOf search u → IsKindThere search q (next.Calls order) → branches (judge_of search) order q ≡ Some bs → IsAmong b bs → b.gone ≡ true → IsPast search pair_path q u
    → IsAt search (pair_path ++ seats_of b ∷ []) b u
unfolding IsKindThere
behind_call search pair_path q order bs b u of kind is i gone at =
    let k = kind u of in
    let there : branches (pairing_of u.pair) order q ≡ Some bs = ap (λ (g : Pairing). branches g order q) of.programs ∙ is in
    let key = positions_of (seats_of q) in
    let same : order_of u q ≡ order = ap (order_at u.pair key) k.1 ∙ orders_are_taken u q order bs k.0 there in
    let taken : branches (pairing_of u.pair) (order_of u q) q ≡ Some bs = ap (λ (o : Order). branches (pairing_of u.pair) o q) same ∙ there in
    record {
      reached = IsReached.call pair_path q b bs at.reached k.0 taken i;
      begins = λ e. let z : false ≡ true = sym e ∙ gone in absurd cc;
      behind = λ _. record { first = at.first; between = at.rest; is = ap (λ (xs : List (Seat × Seat)). xs ++ seats_of b ∷ []) at.is; free = at.free };
    }

-- paths are added behind the first branches of some, of which these are the branches of two calls
unfoldable pub AddsCalls : Search → Node → Order → List Branch → BrokenPathsOf → BrokenPathsOf → Type 0
AddsCalls search node order found before after = (rest : List Branch) → Some (map (onto node.question) (found ++ rest)) ≡ branches (judge_of search) order node.question → AddsBroken search (IsPast search node.pair_path node.question) before after

pub in_middle : (q : Path) (xs rest : List Branch) (b : Branch) → IsAmong (onto q b) (map (onto q) (xs ++ b ∷ rest))
in_middle q [] rest b = inl refl
in_middle q (x ∷ xs) rest b = inr (in_middle q xs rest b)

-- ---- reads

-- the same of a read or an output, and so many of its branches
unfoldable pub AddsReads : Search → Node → ℕ → List Branch → BrokenPathsOf → BrokenPathsOf → Type 0
AddsReads search node number found before after = (number ≡ length found) × ((rest : List Branch) → Some (map (onto node.question) (found ++ rest)) ≡ branches (judge_of search) Keep node.question → AddsBroken search (IsPast search node.pair_path node.question) before after)

get_middle : (q : Path) (xs rest : List Branch) (b : Branch) → slice_get (map (onto q) (xs ++ b ∷ rest)) (length xs) ≡ Some (onto q b)
get_middle q [] rest b = refl
get_middle q (x ∷ xs) rest b = get_middle q xs rest b

pub length_last : (xs : List Branch) (b : Branch) → length (xs ++ b ∷ []) ≡ length xs + 1
length_last [] b = refl
length_last (x ∷ xs) b = ap suc (length_last xs b) ∙ omega arith

-- the branch of a case with its number
pub in_case : (search : Search) (node : Node) (side : Side) (read : ReadFlow) (case : Case) (number : ℕ) (found rest : List Branch) (b : Branch) (u : Unfolding) → IsOf search u → IsKindThere search node.question (next.Read side)
    → IsAmong read (flow_on search.program_flows.now.left_flow.now search.program_flows.now.right_flow.now side).reads → read.position ≡ (seat_of node.question side).position → slice_get read.cases number ≡ Some case → number ≡ length found
    → Some (map (onto node.question) (found ++ b ∷ rest)) ≡ branches (judge_of search) Keep node.question → IsPast search node.pair_path node.question u → IsInCase search case (node.pair_path ++ (b.left, b.right) ∷ []) (onto node.question b) u
unfolding IsKindThere
in_case search node side read case number found rest b u of kind among position get count is at =
    let q = node.question in
    let bs = map (onto q) (found ++ b ∷ rest) in
    record {
      before = node.pair_path;
      question = q;
      past = at;
      side = side;
      branch = record {
        reads = kind u of;
        read = read;
        among = among;
        position_is = position;
        branches_of = bs;
        are = ap (λ (g : Pairing). branches g Keep q) of.programs ∙ sym is;
        number = number;
        branch_is = ap (slice_get bs) count ∙ get_middle q found rest b;
        case_is = get;
      };
      pair_path_is = refl;
      gone = refl;
    }

-- ---- what is left of a case

rest_keeps : (n : ℕ) (b : Path) (rest : Conj) (d : Path) → at_rest n b rest ≡ Some d → (d.gone ≡ b.gone) × (seats_of d ≡ seats_of b)
rest_keeps n b rest d e =
    let a = bind-some b.last (with_rest n b rest) d e in
    let m = map-some _ _ d a.2 in
    (ap (λ (x : Path). x.gone) m.2, ap seats_of m.2)

pub at_piece : (search : Search) (case : Case) (pair_path : List (Seat × Seat)) (b d : Path) (rest : Remainder) (u : Unfolding) → IsOf search u → IsAmong rest case.pieces → at_rest (judge_of search).params b rest.conj ≡ Some d → IsInCase search case pair_path b u → IsAt search pair_path d u
at_piece search case pair_path b d rest u of i e at =
    let n = params_are search u of in
    let e' : at_rest (params_of u) b rest.conj ≡ Some d = ap (λ (k : ℕ). at_rest k b rest.conj) n ∙ e in
    let k = rest_keeps (judge_of search).params b rest.conj d e in
    let reached : Reached search u (at.before ++ seats_of b ∷ []) d = IsReached.read at.before at.side at.question b d case rest at.past.reached at.branch i e' in
    record {
      reached = subst (λ (t : List (Seat × Seat)). Reached search u t d) (sym at.pair_path_is) reached;
      begins = λ f. let z : false ≡ true = sym f ∙ k.0 ∙ at.gone in absurd cc;
      behind = λ _. record {
        first = at.past.first;
        between = at.past.rest;
        is = at.pair_path_is ∙ ap (λ (xs : List (Seat × Seat)). xs ++ seats_of b ∷ []) at.past.is ∙ ap (λ (s : Seat × Seat). at.past.first ∷ (at.past.rest ++ s ∷ [])) (sym k.1);
        free = at.past.free;
      };
    }

-- ---- results

pub on_ok : {T E : Type 0} (res : Result T E) (P Q : Type 0) → (P → Q) → OnOk res P → OnOk res Q
on_ok (Ok x) P Q f h = f h
on_ok (Err e) P Q f h = tt

-- ---- the question at what is left of a case

pub rest_is : (n : ℕ) (q : Path) (rest : Conj) (a : Assumed) (made : Path) (own columns : List ℕ) (more : ℕ) (rows : List Row) → q.last ≡ Some a → own ≡ case_columns n a → more ≡ rest.columns - length own → columns ≡ own ++ range_with_len q.conj.columns more
    → Some rows ≡ rows_renaming columns rest.rows → made ≡ at_rows q (extended q.conj more rows) → at_rest n q rest ≡ Some made
rest_is n q rest a made own columns more rows last o m c r e =
    let many : more ≡ further n a rest = m ∙ ap (λ (ks : List ℕ). rest.columns - length ks) o in
    let all : columns ≡ columns_left n a q.conj.columns rest = c ∙ ap (λ (ks : List ℕ). ks ++ range_with_len q.conj.columns more) o ∙ ap (λ (k : ℕ). case_columns n a ++ range_with_len q.conj.columns k) many in
    let renamed : rows_renaming (columns_left n a q.conj.columns rest) rest.rows ≡ Some rows = ap (λ (ks : List ℕ). rows_renaming ks rest.rows) (sym all) ∙ sym r in
    ap (option_and_then (with_rest n q rest)) last ∙ ap (option_map (λ (xs : List Row). at_rows q (extended q.conj (further n a rest) xs))) renamed ∙ ap (λ (k : ℕ). Some (at_rows q (extended q.conj k rows))) (sym many) ∙ ap Some (sym e)

-- ---- all paths of a start

pub is_of : (search : Search) (program_flows : ProgramFlows) (start : Claim) (order : List (Site × Order)) → search.program_flows.now ≡ program_flows → search.order.now ≡ order → (u : Unfolding) → IsUnfoldingOf program_flows start order u → IsOf search u
is_of search program_flows start order s o u is = record {
  programs = is.programs ∙ ap (λ (x : ProgramFlows). pairing x.programs) (sym s);
  flows = subst (λ (x : ProgramFlows). HaveFlows u.pair x.left_flow.now x.right_flow.now) (sym s) is.flows;
  orders = λ key. is.orders key ∙ ap (λ (x : List (Site × Order)). listed x key) (sym o);
}

pub paths_broken : (search : Search) (program_flows : ProgramFlows) (start : Claim) (claims : List Claim) (order : List (Site × Order)) (found : BrokenPathsOf) → AddsBroken search (IsFrom start) nothing_found found → search.program_flows.now ≡ program_flows → search.claims.now ≡ claims
    → search.order.now ≡ order → (u : Unfolding) → IsUnfoldingOf program_flows start order u → AllByRecursion (IsBroken u claims) found.paths
unfolding AddsBroken
paths_broken search program_flows start claims order found h s c o u is =
    let sound = h.1 u (is_of search program_flows start order s o u is) is.claim (record { broken = tt; asked = tt; walked = tt }) in
    subst (λ (x : List Claim). AllByRecursion (IsBroken u x) found.paths) c sound.broken

pub paths_found : (search : Search) (program_flows : ProgramFlows) (start : Claim) (claims : List Claim) (order : List (Site × Order)) (found : BrokenPathsOf) → AddsBroken search (IsFrom start) nothing_found found → search.program_flows.now ≡ program_flows → search.claims.now ≡ claims
    → search.order.now ≡ order → (u : Unfolding) → IsUnfoldingOf program_flows start order u → AllByRecursion (IsFoundAt u program_flows.left_flow.now program_flows.right_flow.now claims) found.paths
unfolding AddsBroken
paths_found search program_flows start claims order found h s c o u is =
    let sound = h.1 u (is_of search program_flows start order s o u is) is.claim (record { broken = tt; asked = tt; walked = tt }) in
    subst (λ (x : List Claim). AllByRecursion (IsFoundAt u program_flows.left_flow.now program_flows.right_flow.now x) found.paths) c
    (subst (λ (x : ProgramFlows). AllByRecursion (IsFoundAt u x.left_flow.now x.right_flow.now search.claims.now) found.paths) s sound.asked)

-- ---- plans

-- the first path of a start is broken
pub first_broken : (search : Search) (start : Claim) (found : BrokenPathsOf) (path : List Entry) → AddsBroken search (IsFrom start) nothing_found found → slice_get found.paths 0 ≡ Some path → IsBrokenFrom search start path
unfolding AddsBroken
first_broken search start found path h e u of from =
    let sound = h.1 u of from (record { broken = tt; asked = tt; walked = tt }) in
    (first (IsBroken u search.claims.now) found.paths e sound.broken, first (IsFoundIn search u) found.paths e sound.asked)
  where
    first : (P : List Entry → Type 0) (xs : List (List Entry)) → slice_get xs 0 ≡ Some path → AllByRecursion P xs → P path
    first P [] is all = absurd cc
    first P (x ∷ xs) is all = subst P (some-is x path is) all.0

pub path_is_broken : (search : Search) (program_flows : ProgramFlows) (start : Claim) (claims : List Claim) (order : List (Site × Order)) (path : List Entry) → IsBrokenFrom search start path → search.program_flows.now ≡ program_flows → search.claims.now ≡ claims → search.order.now ≡ order
    → (u : Unfolding) → IsUnfoldingOf program_flows start order u → IsBroken u claims path
path_is_broken search program_flows start claims order path h s c o u is = subst (λ (x : List Claim). IsBroken u x path) c (h u (is_of search program_flows start order s o u is) is.claim).0

pub path_is_found : (search : Search) (program_flows : ProgramFlows) (start : Claim) (claims : List Claim) (order : List (Site × Order)) (path : List Entry) → IsBrokenFrom search start path → search.program_flows.now ≡ program_flows → search.claims.now ≡ claims → search.order.now ≡ order
    → (u : Unfolding) → IsUnfoldingOf program_flows start order u → IsFoundAt u program_flows.left_flow.now program_flows.right_flow.now claims path
path_is_found search program_flows start claims order path h s c o u is =
    subst (λ (x : List Claim). IsFoundAt u program_flows.left_flow.now program_flows.right_flow.now x path) c
    (subst (λ (x : ProgramFlows). IsFoundAt u x.left_flow.now x.right_flow.now search.claims.now path) s (h u (is_of search program_flows start order s o u is) is.claim).1)
