-- A case outside its kills: at its branch, with further rows, behind one kill more, and where all of them are passed.
use Rattle.std.proofs.Common.{◌≡◌, inl, inr, ℕ, zero, suc, ◌+◌, ◌≤◌, false, true, ℤ, List, [], ◌∷◌, ◌++◌, length, map, take, drop, Option, Some, None, refl, sym, ap, ◌∙◌, subst, arith}
use Rattle.std.proofs.lemmas.List.{take_all}
use Rattle.std.specs.Prelude.{IfOk, IfSome, Ok, Result, slice_get}
use Rattle.ac_forms.specs.ListMembers.{IsAmong}
use Rattle.ac_forms.specs.Renaming.{picked, rows_renaming}
use Rattle.ac_forms.specs.Rows.{Holds, Meets, AreRowsOver, IsRowOver}
use Rattle.ac_forms.specs.declared.conj.Conj.{Conj}
use Rattle.ac_forms.specs.declared.row.Row.{Row}
use Rattle.ac_forms.proofs.Distinct.{rows_renaming-points}
use Rattle.ac_syntax.specs.declared.tree.Position.TheVariants.{Output}
use Rattle.ac_base.proofs.Options.{some-is}
use Rattle.ac_claims_paths.specs.WellFormedPaths.{AllFormed, IsFormed}
use Rattle.ac_claims_paths.specs.PathSteps.{at_rows, extended}
use Rattle.ac_claims_paths.specs.CopyKills.{case_columns}
use Rattle.ac_claims_paths.specs.declared.path.Assumed.{Assumed}
use Rattle.ac_claims_paths.specs.declared.path.Path.{Path}
use Rattle.ac_claims_paths.specs.declared.path.Seat.{Seat}
use Rattle.ac_claims_paths.proofs.Moving.{meets-both, meets-parts}
use Rattle.ac_claims.specs.declared.types.Kill.{Kill}
use Rattle.ac_claims.specs.declared.types.Plan.{Plan}
use Rattle.ac_flow.specs.declared.types.Case.{Case}
use Rattle.ac_flow.specs.SourceSteps.{InNoKill}
use Rattle.ac_claims_plans.specs.BranchSides.{outside_of, AreSides}
use Rattle.ac_claims_plans.specs.declared.branching.Part.{Part}
use Rattle.ac_claims_plans.specs.declared.branching.Parts.{Parts}
use Rattle.ac_widen_programs.specs.PairPaths.{Unfolding, seats_of}
use Rattle.ac_widen_programs.specs.PairPathSteps.{AreOutside, IsOutside, IsReached}
use Rattle.ac_widen_programs.proofs.Picks.{front_and_rest, holds_front, meets_front}
use Rattle.ac_widen_programs.proofs.Reaching.{pair_paths_lead}
use Rattle.ac_widen_programs.proofs.Surviving.{survivors_are_left}
use Rattle.ac_claims_plans.specs.QuestionPlans.{question_on}
use Rattle.ac_claims_plans.proofs.Sides.{sides_formed}
use Rattle.ac_unfold.specs.PlanResults.{judge_of}
use Rattle.ac_unfold.specs.PlanGaps.{HasNone}
use Rattle.ac_unfold.specs.KillTraversal.{AreApart, AreKillRows, GoesWithin, IsGrown, IsKillRow, IsOutsideKills, Misses, SidesMiss}
use Rattle.ac_unfold.specs.UnfoldPaths.{BrokenPathsOf}
use Rattle.ac_unfold.specs.UnfoldStops.{HasSide, NeverHolds}
use Rattle.ac_unfold.specs.BrokenPathResults.{Adds, AddsBroken, IsAt, IsInCase, IsNone, IsOf, IsPathAt, Reached}
use Rattle.ac_unfold.specs.declared.decide.Answer.{Answer}
use Rattle.ac_unfold.specs.declared.decide.Answer.TheVariants as answer
use Rattle.ac_unfold.specs.declared.ends.Search.{Search}
use Rattle.ac_unfold.specs.declared.node.Node.{Node}
use Rattle.ac_unfold.specs.declared.types.UnfoldStop.{UnfoldStop}
use Rattle.ac_unfold.proofs.Coming.{broken_by, broken_from, params_are}
use Rattle.ac_unfold.proofs.Failing.{outside_fails}
use Rattle.ac_unfold.proofs.Growing.{grown_itself, grown_more, grown_on}
use Rattle.ac_unfold.proofs.Results.{at_some}

-- ---- further rows and columns

-- its points are points of the first path
grown_meets : (q v : Path) → IsGrown q v → (p : List ℤ) → v.conj.columns ≤ length p → Meets v.conj.rows p → (q.conj.columns ≤ length p) × Meets q.conj.rows p
grown_meets q v h p long meets =
    let columns : v.conj.columns ≡ q.conj.columns + h.more = ap (λ (x : Path). x.conj.columns) h.is in
    (omega (arith, columns, long), (meets-parts q.conj.rows h.rows p (subst (λ (x : Path). Meets x.conj.rows p) h.is meets)).0)

pub grown_last : (q v : Path) → IsGrown q v → v.last ≡ q.last
grown_last q v h = ap (λ (x : Path). x.last) h.is

-- ---- nodes

pub within_part : (node next : Node) (part : Part) → next.question ≡ question_on node.question part → next.pair_path ≡ node.pair_path → GoesWithin node next
within_part node next part e f = record { question = subst (IsGrown node.question) (sym e) (grown_on node.question part); pair_path = f }

pub within_same : (node next : Node) → next.question ≡ node.question → next.pair_path ≡ node.pair_path → GoesWithin node next
within_same node next e f = record { question = subst (IsGrown node.question) (sym e) (grown_itself node.question); pair_path = f }

-- ---- at a place outside the first kills

-- at the branch of the case none is passed yet
pub outside_start : (search : Search) (case : Case) (pair_path : List (Seat × Seat)) (q : Path) (u : Unfolding) → IsInCase search case pair_path q u → IsOutsideKills search case 0 pair_path q u
outside_start search case pair_path q u h = record { branch = q; in_case = h; grown = grown_itself q; outside = λ p long meets a last. tt }

pub outside_within : (search : Search) (case : Case) (number : ℕ) (node next : Node) (u : Unfolding) → GoesWithin node next → IsOutsideKills search case number node.pair_path node.question u → IsOutsideKills search case number next.pair_path next.question u
outside_within search case number node next u w h = record {
  branch = h.branch;
  in_case = subst (λ (t : List (Seat × Seat)). IsInCase search case t h.branch u) (sym w.pair_path) h.in_case;
  grown = grown_more h.branch node.question next.question h.grown w.question;
  outside = λ p long meets a last.
      let m = grown_meets node.question next.question w.question p long meets in
      h.outside p m.0 m.1 a (sym (grown_last node.question next.question w.question) ∙ last);
}

in_no_more : (ks : List (Conj × Kill)) (n : ℕ) (p : List ℤ) → InNoKill (take n ks) p → ((k : Conj × Kill) → slice_get ks n ≡ Some k → ¬ (Meets k.0.rows p)) → InNoKill (take (suc n) ks) p
in_no_more [] n p h none = tt
in_no_more (k ∷ ks) zero p h none = (none k refl, tt)
in_no_more (k ∷ ks) (suc n) p h none = (h.0, in_no_more ks n p h.1 none)

-- of fewer kills too
in_no_fewer : (ks : List (Conj × Kill)) (n m : ℕ) (p : List ℤ) → m ≤ n → InNoKill (take n ks) p → InNoKill (take m ks) p
in_no_fewer [] n zero p l h = tt
in_no_fewer [] n (suc m) p l h = tt
in_no_fewer (k ∷ ks) n zero p l h = tt
in_no_fewer (k ∷ ks) zero (suc m) p l h = absurd (omega (arith, l))
in_no_fewer (k ∷ ks) (suc n) (suc m) p l h = (h.0, in_no_fewer ks n m p (omega (arith, l)) h.1)

pub outside_next : (search : Search) (case : Case) (number next : ℕ) (pair_path : List (Seat × Seat)) (q : Path) (u : Unfolding) → next ≤ number + 1 → Misses search case number q → IsOutsideKills search case number pair_path q u → IsOutsideKills search case next pair_path q u
unfolding Misses
outside_next search case number next pair_path q u l none h = record {
  branch = h.branch;
  in_case = h.in_case;
  grown = h.grown;
  outside = λ p long meets a last.
      let more = in_no_more case.kills number (picked (case_columns (judge_of search).params a) p) (h.outside p long meets a last) (λ k is. none k is a last p long meets) in
      in_no_fewer case.kills (suc number) next (picked (case_columns (judge_of search).params a) p) (omega (arith, l)) more;
}

-- where all are passed
all_outside : (search : Search) (case : Case) (pair_path : List (Seat × Seat)) (q : Path) (u : Unfolding) → IsOf search u → (h : IsOutsideKills search case (length case.kills) pair_path q u) → AreOutside u case h.branch (extended h.branch.conj h.grown.more h.grown.rows)
all_outside search case pair_path q u of h p long meets a last =
    let n = params_are search u of in
    let all : take (length case.kills) case.kills ≡ case.kills = take_all (length case.kills) case.kills (omega arith) in
    let out = subst (λ (x : Path). x.conj.columns ≤ length p → Meets x.conj.rows p → (b : Assumed) → x.last ≡ Some b → InNoKill (take (length case.kills) case.kills) (picked (case_columns (judge_of search).params b) p)) h.grown.is (h.outside p) in
    subst (λ (k : ℕ). InNoKill case.kills (picked (case_columns k a) p)) (sym n) (subst (λ (ks : List (Conj × Kill)). InNoKill ks (picked (case_columns (judge_of search).params a) p)) all (out long meets a last))

pub outside_all : (search : Search) (case : Case) (pair_path : List (Seat × Seat)) (q : Path) (u : Unfolding) → IsOf search u → IsOutsideKills search case (length case.kills) pair_path q u → IsAt search pair_path q u
outside_all search case pair_path q u of h =
    let at = h.in_case in
    let b = h.branch in
    let seats : seats_of q ≡ seats_of b = ap seats_of h.grown.is in
    let gone : q.gone ≡ true = ap (λ (x : Path). x.gone) h.grown.is ∙ at.gone in
    let there : Reached search u (at.before ++ seats_of b ∷ []) (at_rows b (extended b.conj h.grown.more h.grown.rows)) = IsReached.survive at.before at.side at.question b case h.grown.more h.grown.rows at.past.reached at.branch (all_outside search case pair_path q u of h) in
    record {
      reached = subst (λ (t : List (Seat × Seat)). Reached search u t q) (sym at.pair_path_is) (subst (λ (x : Path). Reached search u (at.before ++ seats_of b ∷ []) x) (sym h.grown.is) there);
      begins = λ f. let z : false ≡ true = sym f ∙ gone in absurd cc;
      behind = λ _. record {
        first = at.past.first;
        between = at.past.rest;
        is = at.pair_path_is ∙ ap (λ (xs : List (Seat × Seat)). xs ++ seats_of b ∷ []) at.past.is ∙ ap (λ (s : Seat × Seat). at.past.first ∷ (at.past.rest ++ s ∷ [])) (sym seats);
        free = at.past.free;
      };
    }

-- something is left of the case, where there is such a point
pub outside_left : (search : Search) (case : Case) (pair_path : List (Seat × Seat)) (q : Path) (u : Unfolding) → IsOf search u → IsOutsideKills search case (length case.kills) pair_path q u → (p : List ℤ) → q.conj.columns ≤ length p → Meets q.conj.rows p → ¬ (case.pieces ≡ [])
outside_left search case pair_path q u of h p long meets =
    let at = h.in_case in
    let b = h.branch in
    let left = search.program_flows.now.left_flow.now in
    let right = search.program_flows.now.right_flow.now in
    let m = grown_meets b q h.grown p long meets in
    let out : IsOutside u case b p = all_outside search case pair_path q u of h p (subst (λ (x : Path). x.conj.columns ≤ length p) h.grown.is long) (subst (λ (x : Path). Meets x.conj.rows p) h.grown.is meets) in
    survivors_are_left u at.before left right at.side at.question b case of.flows (pair_paths_lead u left right at.before at.question of.flows at.past.reached) at.branch p m.0 m.1 out

-- ---- what is added there

-- fewer kills are passed too
pub fewer_outside : (search : Search) (case : Case) (number next : ℕ) (pair_path : List (Seat × Seat)) (q : Path) (u : Unfolding) → next ≤ number → IsOutsideKills search case number pair_path q u → IsOutsideKills search case next pair_path q u
fewer_outside search case number next pair_path q u l h =
    record { branch = h.branch; in_case = h.in_case; grown = h.grown; outside = λ p long meets a last. in_no_fewer case.kills number next (picked (case_columns (judge_of search).params a) p) l (h.outside p long meets a last) }

pub nothing_left : (search : Search) (case : Case) (pair_path : List (Seat × Seat)) (q : Path) (before after : BrokenPathsOf) → case.pieces ≡ [] → Adds (IsPathAt (judge_of search).params pair_path q.conj) IsNone before after
    → AddsBroken search (IsOutsideKills search case (length case.kills) pair_path q) before after
nothing_left search case pair_path q before after none h =
    broken_by search (IsOutsideKills search case (length case.kills) pair_path q) (IsPathAt (judge_of search).params pair_path q.conj) IsNone before after
    (λ u of at es x. let l = x.there.long in absurd (outside_left search case pair_path q u of at x.point (omega (arith, l)) x.there.meets none))
    (λ u of at es x. let l = x.there.long in absurd (outside_left search case pair_path q u of at x.point (omega (arith, l)) x.there.meets none)) (λ u of at es x. absurd x) h

-- all kills are passed behind the last one
pub last_broken : (search : Search) (case : Case) (number : ℕ) (pair_path : List (Seat × Seat)) (q : Path) (before after : BrokenPathsOf) → length case.kills ≤ number → AddsBroken search (IsOutsideKills search case (length case.kills) pair_path q) before after
    → AddsBroken search (IsOutsideKills search case number pair_path q) before after
last_broken search case number pair_path q before after l h =
    broken_from search (IsOutsideKills search case number pair_path q) (IsOutsideKills search case (length case.kills) pair_path q) before after (λ u of at. fewer_outside search case number (length case.kills) pair_path q u l at) h

-- ---- the rows of a kill

pub kill_rows : (search : Search) (case : Case) (number : ℕ) (q : Path) (whole : Conj × Kill) (rows : List Row) → slice_get case.kills number ≡ Some whole → ((a : Assumed) → q.last ≡ Some a → Some rows ≡ rows_renaming (case_columns (judge_of search).params a) whole.0.rows)
    → AreKillRows search case number q rows
unfolding AreKillRows
kill_rows search case number q whole rows is moved kill get a last = subst (λ (k : Conj × Kill). Some rows ≡ rows_renaming (case_columns (judge_of search).params a) k.0.rows) (some-is whole kill (sym is ∙ get)) (moved a last)

pub rows_within : (search : Search) (case : Case) (number : ℕ) (q v : Path) (rows : List Row) → IsGrown q v → AreKillRows search case number q rows → AreKillRows search case number v rows
unfolding AreKillRows
rows_within search case number q v rows g h kill get a last = h kill get a (sym (grown_last q v g) ∙ last)

-- a question apart from its rows misses the kill
pub apart_misses : (search : Search) (case : Case) (number : ℕ) (q : Path) (rows : List Row) → AreKillRows search case number q rows → AreApart q.conj rows → Misses search case number q
unfolding AreKillRows AreApart Misses
apart_misses search case number q rows h apart kill get a last p long meets k =
    apart p long meets ((rows_renaming-points (case_columns (judge_of search).params a) kill.0.rows rows p (sym (h kill get a last))).1 k)

holds_among : (rows : List Row) (row : Row) (p : List ℤ) → IsAmong row rows → Meets rows p → Holds row p
holds_among [] row p i m = absurd i
holds_among (r ∷ rows) row p (inl e) m = subst (λ (x : Row). Holds x p) (sym e) m.0
holds_among (r ∷ rows) row p (inr i) m = holds_among rows row p i m.1

-- a question where one of its rows fails misses it too
pub fails_misses : (search : Search) (case : Case) (number : ℕ) (q : Path) (row : Row) → IsKillRow search case number q row → ((p : List ℤ) → q.conj.columns ≤ length p → Meets q.conj.rows p → ¬ (Holds row p)) → Misses search case number q
unfolding AreApart
fails_misses search case number q row h fails = apart_misses search case number q h.rows h.are (λ p long meets k. fails p long meets (holds_among h.rows row p h.among k))

-- ---- parts of a negation

-- a path of these columns, with no rows and no coordinates
abbrev bare : ℕ → Path
bare n =
    let seat : Seat = record { position = Output 0; first = 0; width = 0 } in
    record { conj = record { columns = n; rows = [] }; left = seat; right = seat; gone = false; last = None }

bare_formed : (n : ℕ) → IsFormed 0 (bare n)
bare_formed n = record { made = tt; base_in = omega arith; left_in = omega arith; right_in = omega arith; last_in = tt }

part_over : (n : ℕ) (ps : List Part) (part : Part) → AllFormed 0 (map (question_on (bare n)) ps) → IsAmong part ps → AreRowsOver (n + part.question_columns) part.rows
part_over n [] part h i = absurd i
part_over n (p ∷ ps) part h (inl e) = subst (λ (x : Part). AreRowsOver (n + x.question_columns) x.rows) (sym e) h.0.made
part_over n (p ∷ ps) part h (inr i) = part_over n ps part h.1 i

-- the row fails at each point of a part, which may have further numbers
pub part_fails : (n : ℕ) (row : Row) (part : Part) (p : List ℤ) → IsRowOver n row → IsAmong part (outside_of n row) → n + part.question_columns ≤ length p → Meets part.rows p → ¬ (Holds row p)
part_fails n row part p over i long meets h =
    let k = n + part.question_columns in
    let rows = part_over n (outside_of n row) part (sides_formed 0 (bare n) row (bare_formed n) over).1 i in
    let f = front_and_rest k p long in
    let front : Meets part.rows (take k p) = meets_front part.rows k (take k p) (drop k p) (let e = f.1 in omega (arith, e)) rows (subst (Meets part.rows) (sym f.0) meets) in
    let wide = over.0 in
    (outside_fails n row part (take k p) over i f.1 front).fails (holds_front row (take k p) (drop k p) (let e = f.1 in omega (arith, e, wide)) (subst (Holds row) (sym f.0) h))

pub parts_miss : (search : Search) (case : Case) (number : ℕ) (q : Path) (row : Row) (parts : Parts) (sides : List Part) → IsRowOver q.conj.columns row → AreSides q.conj.columns row (Some parts) → sides ≡ parts.outside → IsKillRow search case number q row → SidesMiss search case number q sides
unfolding SidesMiss
parts_miss search case number q row parts sides over are e h part i =
    let n = q.conj.columns in
    let v = question_on q part in
    let there : IsAmong part (outside_of n row) = subst (IsAmong part) (e ∙ ap (λ (x : Parts). x.outside) are.1) i in
    let own : IsKillRow search case number v row = record { rows = h.rows; are = rows_within search case number q v h.rows (grown_on q part) h.are; among = h.among } in
    fails_misses search case number v row own (λ p long meets. part_fails n row part p over there long (meets-parts q.conj.rows part.rows p meets).1)

-- a row does not hold where the question is on a side already where it does not
pub side_never : (c : Conj) (row : Row) (parts : Parts) (sides : List Part) → IsRowOver c.columns row → AreSides c.columns row (Some parts) → sides ≡ parts.outside → HasSide c sides → NeverHolds c row
side_never c row parts sides over are e h p long meets =
    let there : IsAmong h.part (outside_of c.columns row) = subst (IsAmong h.part) (e ∙ ap (λ (x : Parts). x.outside) are.1) h.among in
    let z = h.columns in
    part_fails c.columns row h.part p over there (omega (arith, z, long)) (h.holds p meets)

-- ---- rows that no point meets

pub none_apart : (c : Conj) (rows : List Row) (both : Conj) → both ≡ extended c 0 rows → HasNone both (answer.Empty None) → AreApart c rows
unfolding AreApart
none_apart c rows both e h p long meets k =
    let none : HasNone (extended c 0 rows) (answer.Empty None) = subst (λ (x : Conj). HasNone x (answer.Empty None)) e h in
    let f = front_and_rest (c.columns + 0) p (omega (arith, long)) in
    let l = f.1 in
    none.1 (take (c.columns + 0) p) (record { long = l; meets = meets_front (c.rows ++ rows) (c.columns + 0) (take (c.columns + 0) p) (drop (c.columns + 0) p) (omega (arith, l)) none.0 (subst (Meets (c.rows ++ rows)) (sym f.0) (meets-both c.rows rows p meets k)) })

pub apart_by : (c : Conj) (rows : List Row) (both : Conj) (res : Result Answer UnfoldStop) (free : Option Answer) (seen : Answer) (o : Option Plan) → both ≡ extended c 0 rows → IfOk res (HasNone both) → IfSome free (λ x. res ≡ Ok x) → free ≡ Some seen → seen ≡ answer.Empty o → AreApart c rows
apart_by c rows both res free seen o e h f is empty =
    let r : res ≡ Ok seen = at_some free seen (λ x. res ≡ Ok x) is f in
    let there : HasNone both seen = subst (λ (x : Result Answer UnfoldStop). IfOk x (HasNone both)) r h in
    none_apart c rows both e (subst (HasNone both) empty there)
