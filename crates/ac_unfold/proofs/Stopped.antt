-- What a stop tells of an unfolding: at one question, at rows that have to stand, and where rows are not formed.
use Rattle.std.proofs.Common.{◌≡◌, ◌⊎◌, inl, inr, ℕ, ◌-◌, Bool, true, false, cond, ◌&&◌, List, [], ◌∷◌, ◌++◌, length, Option, Some, None, Result, Ok, Err, refl, sym, ap, ◌∙◌, subst, arith}
use Rattle.std.proofs.lemmas.Bool.Decides.{nat_tests}
use Rattle.std.proofs.lemmas.List.{length-map}
use Rattle.std.specs.Prelude.{nat_eq, option_and_then, option_map, slice_get, IsTrue, ◌↔◌}
use Rattle.std.specs.List.{range_with_len}
use Rattle.std.specs.Result.{IfErr, IsErrAnd}
use Rattle.ac_forms.specs.Affine.{Affine}
use Rattle.ac_forms.specs.ListMembers.{IsAmong}
use Rattle.ac_forms.specs.NormalForm.{is_absurd}
use Rattle.ac_forms.specs.NormalRows.{normal_row, NormalFits}
use Rattle.ac_forms.specs.Renaming.{rows_renaming}
use Rattle.ac_forms.specs.Rows.{IsRowOver}
use Rattle.ac_forms.specs.declared.conj.Conj.{Conj}
use Rattle.ac_forms.specs.declared.row.Row.{Row}
use Rattle.ac_syntax.specs.declared.tree.Position.TheVariants.{Node}
use Rattle.ac_poly.specs.Model.{is_input}
use Rattle.ac_base.proofs.Options.{some-is}
use Rattle.ac_claims_paths.specs.ModelCalls.{called}
use Rattle.ac_claims_paths.specs.PathColumns.{base, columns_of, equal_forms}
use Rattle.ac_claims_paths.specs.PathSteps.{Pairing, at_rows, extended, same_symbol}
use Rattle.ac_claims_paths.specs.CopyKills.{case_columns}
use Rattle.ac_claims_paths.specs.ModelPositions.{call_at, initial_cell, number_at}
use Rattle.ac_claims_paths.specs.declared.path.Assumed.{Assumed}
use Rattle.ac_claims_paths.specs.declared.path.Path.{Path}
use Rattle.ac_claims_paths.specs.declared.path.Seat.{Seat}
use Rattle.ac_claims_paths.specs.declared.places.CallNode.{CallNode}
use Rattle.ac_claims_paths.specs.declared.places.CellForms.{CellForms}
use Rattle.ac_claims.specs.ProofEnds.{equal_cells}
use Rattle.ac_claims.specs.declared.types.Claim.{Claim}
use Rattle.ac_claims.proofs.Plans.{position_is}
use Rattle.ac_flow.specs.declared.types.Flow.{Flow}
use Rattle.ac_claims_plans.specs.BranchSides.{outside_of, side_of, CanBranch}
use Rattle.ac_claims_plans.specs.declared.branching.Part.{Part}
use Rattle.ac_graph.specs.PairMoves.{pairing_of}
use Rattle.ac_widen_programs.specs.PairPaths.{Unfolding}
use Rattle.ac_widen_programs.specs.PairPathSteps.{at_rest, columns_left, further, with_rest}
use Rattle.ac_unfold.specs.UnfoldQuestions.{kill_on, AreNotFormed, AreTargets, AreTwoCalls, IsAsked, IsAskedAt, IsFollowed, IsOnSide, LacksNext}
use Rattle.ac_unfold.specs.KillCuts.{IsClaimBehind}
use Rattle.ac_unfold.specs.PlanResults.{judge_of}
use Rattle.ac_unfold.specs.BrokenPathResults.{IsOf}
use Rattle.ac_unfold.specs.UnfoldStops.{Follows, HandsBack, HandsTargets, IsAround, StopsAmong, StopsAsking, StopsOutside, StopsStanding, StopsUnder}
use Rattle.ac_unfold.specs.RequiredRows.{CanStand, IsRefused}
use Rattle.ac_unfold.specs.declared.decide.Wanted.{Wanted}
use Rattle.ac_unfold.specs.declared.decide.Wanted.TheVariants.{Absurd, Wide}
use Rattle.ac_unfold.specs.declared.ends.Search.{Search}
use Rattle.ac_unfold.specs.declared.types.UnfoldStop.{UnfoldStop}
use Rattle.ac_unfold.specs.declared.types.UnfoldStop.TheVariants.{Overflow, Spent, Paths, Memory}
use Rattle.ac_unfold.proofs.Results.{in_get}

-- what the exit of a `?` returns
pub if_err : {A E : Type 0} (P : E → Type 0) (r : Result A E) (e : E) → IsErrAnd r (λ x. x ≡ e) → P e → IfErr r P
if_err P (Ok x) e is h = tt
if_err P (Err x) e is h = subst P (sym is) h

-- ---- rows that do not stand

-- a row that is refused cannot stand
pub cannot_stand : (n : ℕ) (r : Row) (kind : Wanted) → (kind ≡ Absurd) ⊎ (kind ≡ Wide) → IsRefused n r kind → ¬ CanStand n r
cannot_stand n r kind (inl e) h can =
    let x : is_absurd (normal_row r) ≡ true = subst (IsRefused n r) e h in
    let y : is_absurd (normal_row r) ≡ false = can.met in
    absurd cc
cannot_stand n r kind (inr e) h can = let x : IsRowOver n r → ¬ NormalFits r = subst (IsRefused n r) e h in x can.over can.fits

-- a row that is not over the columns
pub not_over : (n : ℕ) (r : Row) (b : Bool) → IsTrue b ↔ IsRowOver n r → b ≡ false → IsRowOver n r → ¬ NormalFits r
not_over n r b h e over fits = let t : b ≡ true = h.1 over in absurd cc

-- a row without a normal form over the columns is not formed
pub row_refused : (n : ℕ) (row : Row) → (IsRowOver n row → ¬ NormalFits row) → AreNotFormed n (Some (row ∷ []))
row_refused n row h = (row, inl refl, λ over fits _. h over fits)

-- nor is one without sides
pub row_unbranched : (n : ℕ) (row : Row) → ¬ CanBranch row → AreNotFormed n (Some (row ∷ []))
row_unbranched n row h = (row, inl refl, λ _ _. h)

-- ---- questions

-- one of these questions is one of those
among_more : (budget : ℕ) (Is More : Conj → Type 0) (stop : UnfoldStop) → ((q : Conj) → Is q → More q) → StopsAmong budget Is stop → StopsAmong budget More stop
among_more budget Is More (Overflow q) f h = (f q h.0, h.1)
among_more budget Is More (Spent q cost) f h = (f q h.0, h.1)
among_more budget Is More (Paths found) f h = tt
among_more budget Is More (Memory want) f h = tt

-- the question of a side is asked
pub on_side_of : (budget : ℕ) (q b : Path) (parts : List Part) (part : Part) (stop : UnfoldStop) → IsAmong part parts → b ≡ at_rows q (side_of q.conj part) → StopsAsking budget b.conj stop → StopsOutside budget q.conj parts stop
on_side_of budget q b parts part stop i e h =
    among_more budget (λ (x : Conj). x ≡ b.conj) (IsOnSide q.conj parts) stop (λ x is. record { part = part; among = i; is = is ∙ ap (λ (p : Path). p.conj) e }) h

-- ---- rows that have to stand

-- the question itself is asked
pub standing_here : (budget : ℕ) (c : Conj) (rows : List Row) (stop : UnfoldStop) → StopsAsking budget c stop → StopsStanding budget c rows stop
standing_here budget c rows (Overflow q) h = inl (inl h.0, h.1)
standing_here budget c rows (Spent q cost) h = (inl h.0, h.1)
standing_here budget c rows (Paths found) h = tt
standing_here budget c rows (Memory want) h = tt

beside_row : (c : Conj) (row : Row) (q : Conj) → IsOnSide c (outside_of c.columns row) q → IsAround c (row ∷ []) q
beside_row c row q side = inr (record { row = row; among = inl refl; side = side })

standing_beside : (budget : ℕ) (c : Conj) (row : Row) (stop : UnfoldStop) → StopsOutside budget c (outside_of c.columns row) stop → StopsStanding budget c (row ∷ []) stop
standing_beside budget c row (Overflow q) h = inl (beside_row c row q h.0, h.1)
standing_beside budget c row (Spent q cost) h = (beside_row c row q h.0, h.1)
standing_beside budget c row (Paths found) h = tt
standing_beside budget c row (Memory want) h = tt

-- or one beside it, where the row does not hold
pub standing_side : (budget : ℕ) (c : Conj) (row : Row) (parts : List Part) (stop : UnfoldStop) → parts ≡ outside_of c.columns row → StopsOutside budget c parts stop → StopsStanding budget c (row ∷ []) stop
standing_side budget c row parts stop e h = standing_beside budget c row stop (subst (λ (ps : List Part). StopsOutside budget c ps stop) e h)

-- or a row is not formed
pub standing_lacks : (budget : ℕ) (c : Conj) (rows : List Row) (stop : UnfoldStop) → HandsBack c (Unit {0}) stop → AreNotFormed c.columns (Some rows) → StopsStanding budget c rows stop
standing_lacks budget c rows (Overflow q) h l = inr (h.0, l)
standing_lacks budget c rows (Spent q cost) h l = absurd h
standing_lacks budget c rows (Paths found) h l = tt
standing_lacks budget c rows (Memory want) h l = tt

one_among : (rows : List Row) (row r : Row) → IsAmong row rows → IsAmong r (row ∷ []) → IsAmong r rows
one_among rows row r i (inl e) = subst (λ (x : Row). IsAmong x rows) (sym e) i
one_among rows row r i (inr h) = absurd h

around_more : (c : Conj) (rows : List Row) (row : Row) (q : Conj) → IsAmong row rows → IsAround c (row ∷ []) q → IsAround c rows q
around_more c rows row q i (inl e) = inl e
around_more c rows row q i (inr b) = inr (record { row = b.row; among = one_among rows row b.row i b.among; side = b.side })

lacks_more : (n : ℕ) (rows : List Row) (row : Row) → IsAmong row rows → AreNotFormed n (Some (row ∷ [])) → AreNotFormed n (Some rows)
lacks_more n rows row i l = (l.0, one_among rows row l.0 i l.1, l.2)

standing_more : (budget : ℕ) (c : Conj) (rows : List Row) (row : Row) (stop : UnfoldStop) → IsAmong row rows → StopsStanding budget c (row ∷ []) stop → StopsStanding budget c rows stop
standing_more budget c rows row (Overflow q) i (inl h) = inl (around_more c rows row q i h.0, h.1)
standing_more budget c rows row (Overflow q) i (inr h) = inr (h.0, lacks_more c.columns rows row i h.1)
standing_more budget c rows row (Spent q cost) i h = (around_more c rows row q i h.0, h.1)
standing_more budget c rows row (Paths found) i h = tt
standing_more budget c rows row (Memory want) i h = tt

-- one of the rows has to stand
pub standing_among : (budget : ℕ) (c d : Conj) (rows : List Row) (row : Row) (stop : UnfoldStop) → d ≡ c → IsAmong row rows → StopsStanding budget d (row ∷ []) stop → StopsStanding budget c rows stop
standing_among budget c d rows row stop e i h = standing_more budget c rows row stop i (subst (λ (x : Conj). StopsStanding budget x (row ∷ []) stop) e h)

-- ---- rows that are not formed

-- the question is handed back for another reason
pub hands_because : (c : Conj) (Why Because : Type 0) (stop : UnfoldStop) → (Why → Because) → HandsBack c Why stop → HandsBack c Because stop
hands_because c Why Because (Overflow q) f h = (h.0, f h.1)
hands_because c Why Because (Spent q cost) f h = h
hands_because c Why Because (Paths found) f h = h
hands_because c Why Because (Memory want) f h = tt

-- rows that have to stand are not there
pub hands_targets : (search : Search) (q : Path) (o : Option (List Row)) (stop : UnfoldStop) → AreTargets (judge_of search) search.claims.now q o → HandsBack q.conj (o ≡ None) stop → HandsTargets search q stop
hands_targets search q o stop t h =
    hands_because q.conj (o ≡ None) (AreTargets (judge_of search) search.claims.now q None) stop (λ e. subst (λ (x : Option (List Row)). AreTargets (judge_of search) search.claims.now q x) e t) h

-- what is left of a case is not there
pub rest_none : (n : ℕ) (q : Path) (rest : Conj) (a : Assumed) (own columns : List ℕ) (more : ℕ) → q.last ≡ Some a → own ≡ case_columns n a → more ≡ rest.columns - length own → columns ≡ own ++ range_with_len q.conj.columns more
    → rows_renaming columns rest.rows ≡ None → at_rest n q rest ≡ None
rest_none n q rest a own columns more last o m c e =
    let many : more ≡ further n a rest = m ∙ ap (λ (ks : List ℕ). rest.columns - length ks) o in
    let all : columns ≡ columns_left n a q.conj.columns rest = c ∙ ap (λ (ks : List ℕ). ks ++ range_with_len q.conj.columns more) o ∙ ap (λ (k : ℕ). case_columns n a ++ range_with_len q.conj.columns k) many in
    let renamed : rows_renaming (columns_left n a q.conj.columns rest) rest.rows ≡ None = ap (λ (ks : List ℕ). rows_renaming ks rest.rows) (sym all) ∙ e in
    ap (option_and_then (with_rest n q rest)) last ∙ ap (option_map (λ (xs : List Row). at_rows q (extended q.conj (further n a rest) xs))) renamed

-- the rows of a kill, where they are there and where they are not
pub kill_rows_on : (params n : ℕ) (q : Path) (kill : Conj) (a : Assumed) (own columns : List ℕ) (rows : List Row) (o : Option (List Row)) → q.last ≡ Some a → own ≡ case_columns n a → n ≡ params → columns ≡ own → rows ≡ kill.rows → rows_renaming columns rows ≡ o
    → kill_on params q kill ≡ o
kill_rows_on params n q kill a own columns rows o last is same cs rs e =
    let ks : case_columns params a ≡ columns = ap (λ (k : ℕ). case_columns k a) (sym same) ∙ sym is ∙ sym cs in
    ap (option_and_then (λ (x : Assumed). rows_renaming (case_columns params x) kill.rows)) last ∙ ap (λ (ls : List ℕ). rows_renaming ls kill.rows) ks ∙ ap (rows_renaming columns) (sym rs) ∙ e

-- ---- what stands at a pair

-- the rows of the claim
pub claim_targets : (search : Search) (q : Path) (number : ℕ) (claim : Claim) (o : Option (List Row)) → IsClaimBehind search q number → slice_get search.claims.now number ≡ Some claim
    → o ≡ rows_renaming (base (judge_of search).params ++ (columns_of q.left ++ columns_of q.right)) claim.rows → AreTargets (judge_of search) search.claims.now q o
claim_targets search q number claim o there get e =
    let same : there.at.claim ≡ claim = some-is there.at.claim claim (sym there.at.is ∙ get) in
    subst (λ (x : Option (List Row)). AreTargets (judge_of search) search.claims.now q x) (sym e)
    (AreTargets.claim claim there.gone (in_get search.claims.now number claim get) (position_is q.left.position there.at.claim.left there.at.left_is ∙ ap (λ (c : Claim). c.left) same)
    (position_is q.right.position there.at.claim.right there.at.right_is ∙ ap (λ (c : Claim). c.right) same))

-- the equality of two numbers
pub number_targets : (search : Search) (q : Path) (form other : Affine) (o : Option (List Row)) → number_at (judge_of search).left q.left.position ≡ Some form → number_at (judge_of search).right q.right.position ≡ Some other
    → o ≡ equal_forms (base (judge_of search).params ++ columns_of q.left) (form ∷ []) (base (judge_of search).params ++ columns_of q.right) (other ∷ []) → AreTargets (judge_of search) search.claims.now q o
number_targets search q form other o l r e = subst (λ (x : Option (List Row)). AreTargets (judge_of search) search.claims.now q x) (sym e) (AreTargets.numbers form other l r)

cells_asked : (g : Pairing) (q : Path) (c d : CellForms) → c.array ≡ d.array → is_input (slice_get g.left.kinds c.array) ≡ true → equal_cells g q (Some c) (Some d) ≡ equal_forms (base g.params ++ columns_of q.left) c.subs (base g.params ++ columns_of q.right) d.subs
cells_asked g q c d e i = by (nat_eq c.array d.array) (is_input (slice_get g.left.kinds c.array)) (same_array c.array d.array e) i
  where
    same_array : (a b : ℕ) → a ≡ b → nat_eq a b ≡ true
    same_array a b e = grind (arith, nat_tests)

    by : (a b : Bool) → a ≡ true → b ≡ true
        → cond (a && b) (equal_forms (base g.params ++ columns_of q.left) c.subs (base g.params ++ columns_of q.right) d.subs) None ≡ equal_forms (base g.params ++ columns_of q.left) c.subs (base g.params ++ columns_of q.right) d.subs
    by true true e f = refl
    by true false e f = absurd cc
    by false b e f = absurd cc

-- the equality of each subscript of two cells of one input
pub cell_targets : (search : Search) (q : Path) (c d : CellForms) (o : Option (List Row)) → initial_cell (judge_of search).left q.left.position ≡ Some c → initial_cell (judge_of search).right q.right.position ≡ Some d → c.array ≡ d.array
    → is_input (slice_get (judge_of search).left.kinds c.array) ≡ true → o ≡ equal_forms (base (judge_of search).params ++ columns_of q.left) c.subs (base (judge_of search).params ++ columns_of q.right) d.subs → AreTargets (judge_of search) search.claims.now q o
cell_targets search q c d o l r same input e =
    subst (λ (x : Option (List Row)). AreTargets (judge_of search) search.claims.now q x) (cells_asked (judge_of search) q c d same input ∙ sym e) (AreTargets.cells c d l r same input)

-- two calls
pub two_calls : (g : Pairing) (q : Path) (a b : CallNode) → call_at g.left q.left.position ≡ Some (called a) → call_at g.right q.right.position ≡ Some (called b) → same_symbol a.symbol.now b.symbol.now ≡ true → length a.args.now ≡ length b.args.now → AreTwoCalls g q
two_calls g q a b l r same many = record {
  left = called a;
  left_is = l;
  right = called b;
  right_is = r;
  symbols = same;
  counts = length-map a.args.now (Node a.stmt) ∙ many ∙ sym (length-map b.args.now (Node b.stmt));
}

-- ---- where an unfolding stops

-- beside a question, where a row that has to stand does not
pub around_asked : (g : Pairing) (claims : List Claim) (q : Path) (rows : List Row) (c : Conj) → AreTargets g claims q (Some rows) → IsAround q.conj rows c → IsAskedAt g claims q c
around_asked g claims q rows c t (inl e) = IsAskedAt.here e
around_asked g claims q rows c t (inr b) = IsAskedAt.beside rows t b

asked_here : (u : Unfolding) (left right : Flow) (claims : List Claim) (pairs : List (Seat × Seat)) (q : Path) (c : Conj) → IsFollowed u left right claims pairs q → c ≡ q.conj → IsAsked u left right claims c
asked_here u left right claims pairs q c follows e = record { pairs = pairs; path = q; followed = follows; at = IsAskedAt.here e }

asked_around : (u : Unfolding) (left right : Flow) (claims : List Claim) (pairs : List (Seat × Seat)) (q : Path) (rows : List Row) (c : Conj) → IsFollowed u left right claims pairs q → AreTargets (pairing_of u.pair) claims q (Some rows) → IsAround q.conj rows c → IsAsked u left right claims c
asked_around u left right claims pairs q rows c follows t around = record { pairs = pairs; path = q; followed = follows; at = around_asked (pairing_of u.pair) claims q rows c t around }

-- the rows by the programs of an unfolding
pub targets_by : (search : Search) (u : Unfolding) (q : Path) (o : Option (List Row)) → IsOf search u → AreTargets (judge_of search) search.claims.now q o → AreTargets (pairing_of u.pair) search.claims.now q o
targets_by search u q o of t = subst (λ (g : Pairing). AreTargets g search.claims.now q o) (sym of.programs) t

-- it asks a question to which it follows a path
pub followed_asking : (search : Search) (pairs : List (Seat × Seat)) (q : Path) (stop : UnfoldStop) → StopsAsking search.budget q.conj stop → StopsUnder search (Follows search pairs q) stop
followed_asking search pairs q (Overflow c) h = λ u of at. inl (asked_here u search.program_flows.now.left_flow.now search.program_flows.now.right_flow.now search.claims.now pairs q c at h.0, h.1)
followed_asking search pairs q (Spent c cost) h = λ u of at. (asked_here u search.program_flows.now.left_flow.now search.program_flows.now.right_flow.now search.claims.now pairs q c at h.0, h.1)
followed_asking search pairs q (Paths found) h = tt
followed_asking search pairs q (Memory want) h = tt

-- rows have to stand there
pub followed_standing : (search : Search) (pairs : List (Seat × Seat)) (q : Path) (rows : List Row) (stop : UnfoldStop) → AreTargets (judge_of search) search.claims.now q (Some rows) → StopsStanding search.budget q.conj rows stop → StopsUnder search (Follows search pairs q) stop
followed_standing search pairs q rows (Overflow c) t (inl h) =
    λ u of at. inl (asked_around u search.program_flows.now.left_flow.now search.program_flows.now.right_flow.now search.claims.now pairs q rows c at (targets_by search u q (Some rows) of t) h.0, h.1)
followed_standing search pairs q rows (Overflow c) t (inr h) =
    λ u of at. inr (record { path = q; is = h.0; lacks = LacksNext.target pairs q (Some rows) at (targets_by search u q (Some rows) of t) h.1 })
followed_standing search pairs q rows (Spent c cost) t h =
    λ u of at. (asked_around u search.program_flows.now.left_flow.now search.program_flows.now.right_flow.now search.claims.now pairs q rows c at (targets_by search u q (Some rows) of t) h.0, h.1)
followed_standing search pairs q rows (Paths found) t h = tt
followed_standing search pairs q rows (Memory want) t h = tt

-- rows that have to stand there are not formed
pub followed_hands : (search : Search) (pairs : List (Seat × Seat)) (q : Path) (stop : UnfoldStop) → HandsTargets search q stop → StopsUnder search (Follows search pairs q) stop
followed_hands search pairs q (Overflow c) h = λ u of at. inr (record { path = q; is = h.0; lacks = LacksNext.target pairs q None at (targets_by search u q None of h.1) tt })
followed_hands search pairs q (Spent c cost) h = absurd h
followed_hands search pairs q (Paths found) h = tt
followed_hands search pairs q (Memory want) h = tt

-- at one place, where it was at another
pub stops_from : (search : Search) (At Next : Unfolding → Type 0) (stop : UnfoldStop) → ((u : Unfolding) → IsOf search u → At u → Next u) → StopsUnder search Next stop → StopsUnder search At stop
stops_from search At Next (Overflow c) f h = λ u of at. h u of (f u of at)
stops_from search At Next (Spent c cost) f h = λ u of at. h u of (f u of at)
stops_from search At Next (Paths found) f h = tt
stops_from search At Next (Memory want) f h = tt
