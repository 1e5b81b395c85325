-- The tasks of a case outside its kills.
use Rattle.std.proofs.Common.{◌≡◌, inl, inr, ℕ, zero, suc, ◌+◌, ◌≤◌, true, false, List, [], ◌∷◌, ◌++◌, length, take, Option, Some, None, Bor, refl, sym, ap, ◌∙◌, subst, arith, append_assoc, append-nil}
use Rattle.std.proofs.lemmas.List.{take_all}
use Rattle.std.specs.Prelude.{IfSome, is_some, option_and_then, slice_get}
use Rattle.std.specs.List.{AllByRecursion}
use Rattle.ac_base.proofs.Options.{some-is}
use Rattle.ac_forms.specs.ListMembers.{IsAmong}
use Rattle.ac_forms.specs.declared.conj.Conj.{Conj}
use Rattle.ac_forms.specs.declared.row.Row.{Row}
use Rattle.ac_claims_paths.specs.WellFormedPaths.{IsFormed}
use Rattle.ac_forms.specs.Renaming.{rows_renaming}
use Rattle.ac_claims_paths.specs.CopyKills.{case_columns, case_width}
use Rattle.ac_claims_paths.specs.declared.path.Assumed.{Assumed}
use Rattle.ac_claims_paths.specs.declared.path.Path.{Path}
use Rattle.ac_claims_paths.specs.declared.path.Seat.{Seat}
use Rattle.ac_claims.specs.declared.types.Kill.{Kill}
use Rattle.ac_claims.specs.declared.types.Plan.{Plan}
use Rattle.ac_claims.specs.declared.types.PlanNext.TheVariants.{Killed}
use Rattle.ac_flow.specs.declared.types.Case.{Case}
use Rattle.ac_flow.specs.KillAcceptance.{on_path}
use Rattle.ac_claims_plans.specs.BranchSides.{inside_of, outside_of, on_side, side_of, CanBranch}
use Rattle.ac_claims_plans.specs.QuestionPaths.{IsPlanFor}
use Rattle.ac_claims_plans.specs.QuestionPlans.{question_on}
use Rattle.ac_claims_plans.specs.declared.branching.Part.{Part}
use Rattle.ac_claims_plans.specs.declared.branching.Parts.{Parts}
use Rattle.ac_claims_plans.specs.declared.embedding.Embedding.{Embedding}
use Rattle.ac_claims_plans.proofs.Serving.{branches_give_plans}
use Rattle.ac_claims_plans.proofs.Sides.{sides_formed}
use Rattle.ac_unfold_plans.specs.PlanEnds.{IsEnd}
use Rattle.ac_unfold_plans.specs.KillEnds.{IsKillAt, kill_on}
use Rattle.ac_unfold_plans.proofs.Killing.{kills_plans}
use Rattle.ac_unfold.specs.KillCuts.{AreMadeOn, IsKilled, IsKillThere}
use Rattle.ac_unfold.specs.KillTraversal.{IsKillRow, IsOutsideKills, Misses, SidesMiss}
use Rattle.ac_unfold.specs.PlanResults.{judge_of, AreStanding, IsCaseAt, IsMade, IsMadeIn, IsPlanIn, IsRefuted, IsStanding}
use Rattle.ac_unfold.specs.RequiredRows.{CanStand}
use Rattle.ac_unfold.specs.UnfoldQuestions.{IsNew}
use Rattle.ac_unfold.specs.UnfoldStops.{AreNewSides, FollowsCut, IsKillsRow, NeverHolds}
use Rattle.ac_unfold.specs.UnfoldTasks.{passed_row, AreBeside, ClosesBranch, Needs, IsBeside, IsBranch, IsCutAt, IsEndAt, IsNodeOn, IsSplit, LeadsTo, MakeAll, Makes, MakesOne, MovesOn, Unfolds}
use Rattle.ac_unfold.specs.declared.ends.Search.{Search}
use Rattle.ac_unfold.specs.declared.node.Node.{Node}
use Rattle.ac_unfold.specs.declared.tasks.CutAt.{CutAt}
use Rattle.ac_unfold.specs.declared.tasks.Task.{Task}
use Rattle.ac_unfold.specs.declared.tasks.Task.TheVariants as task
use Rattle.ac_unfold.proofs.Growing.{grown_part}
use Rattle.ac_unfold.proofs.Keeping.{case_beside}
use Rattle.ac_unfold.proofs.Matching.{rows_along}
use Rattle.ac_unfold.proofs.Missing.{none_behind}
use Rattle.ac_unfold.proofs.Passing.{fails_misses, fewer_outside, outside_all, outside_next, outside_within, parts_miss, rows_within, within_part, within_same}
use Rattle.ac_unfold.proofs.Places.{cut_follows, inside_cut, kill_behind, outside_cut, row_behind}
use Rattle.ac_unfold.proofs.Results.{at_some, made_more, made_none, refuted_in}
use Rattle.ac_unfold.proofs.Sides.{all_standing_side, one_more_stands, standing_inside}
use Rattle.ac_unfold.proofs.Stops.{anywhere_stops, branches_in, there_stops}
use Rattle.ac_unfold.proofs.TaskRuns.{all_join, make_alone}

-- ---- tasks that end, and tasks that go on as one

-- a task behind which there is none
pub closed_unfolds : (search : Search) (t : Task) (more : List Task) (before after : List Plan) → more ≡ [] → (search.making ≡ true → Makes search t before after) → (search.making ≡ false → Needs search t) → Unfolds search t more before after
closed_unfolds search t more before after e made holds = subst (λ (ts : List Task). Unfolds search t ts before after) (sym e) (record {
  lead = tt;
  makes = λ making last run. subst (Makes search t before) (sym run) (made making);
  holds = λ finding all. holds finding;
})

-- a task behind which there is one
pub alone_moves : (search : Search) (t u : Task) (more : List Task) → more ≡ u ∷ [] → LeadsTo search t u → ((before after : List Plan) → Makes search u before after → Makes search t before after) → (search.making ≡ false → Needs search u → Needs search t) → MovesOn search t more
alone_moves search t u more e leads made holds plans = subst (λ (ts : List Task). Unfolds search t ts plans plans) (sym e) (record {
  lead = (leads, tt);
  makes = λ making last run. made plans last (make_alone search u plans last run);
  holds = λ finding all. holds finding all.0;
})

-- ---- a question that is opened

pub opened_kills : (search : Search) (node next : Node) (case : Bor Case) (number : ℕ) (more : List Task) → more ≡ task.Kills next case number ∷ [] → is_some node.question.last ≡ true → next.question ≡ node.question → next.embedding ≡ node.embedding → next.pair_path ≡ node.pair_path → MovesOn search (task.Outside node case number) more
opened_kills search node next case number more e assumes q s p =
    alone_moves search (task.Outside node case number) (task.Kills next case number) more e
    (record {
      at = λ u of at. outside_within search case.now number node next u (within_same node next q p) at;
      on = λ u of at. subst (λ (x : List (Seat × Seat)). FollowsCut search case.now number 0 x next.question u) (sym p) (subst (λ (x : Path). FollowsCut search case.now number 0 node.pair_path x u) (sym q) at);
      fits = ap (λ (x : Path). is_some x.last) q ∙ assumes;
    })
    (λ before after one. subst (λ (z : Embedding). MakesOne (IsMadeIn search case.now z node.question) before after) s (subst (λ (x : Path). MakesOne (IsMadeIn search case.now next.embedding x) before after) q one))
    (λ finding all. tt)

-- ---- the kills

pub kill_passed : (search : Search) (node : Node) (case : Bor Case) (number next : ℕ) (more : List Task) → more ≡ task.Kills node case next ∷ [] → is_some node.question.last ≡ true → next ≡ number + 1 → Misses search case.now number node.question → MovesOn search (task.Kills node case number) more
kill_passed search node case number next more e assumes n miss =
    alone_moves search (task.Kills node case number) (task.Kills node case next) more e
    (record { at = λ u of at. outside_next search case.now number next node.pair_path node.question u (omega (arith, n)) miss at; on = λ u of at. kill_behind search case.now number 0 next node.pair_path node.question u n at; fits = assumes })
    (λ before after one. one) (λ finding all. tt)

pub kill_cut : (search : Search) (at : CutAt) (more : List Task) → more ≡ task.Cut at ∷ [] → at.standing ≡ 0 → IsCutAt search at → MovesOn search (task.Kills at.node at.case at.number) more
kill_cut search cut more e first fits =
    alone_moves search (task.Kills cut.node cut.case cut.number) (task.Cut cut) more e
    (record { at = λ u of at. at; on = λ u of at. subst (λ (k : ℕ). FollowsCut search cut.case.now cut.number k cut.node.pair_path cut.node.question u) (sym first) at; fits = fits }) (λ before after one. one) (λ finding all. tt)

-- what is in none of them
pub survivor_visited : (search : Search) (node : Node) (case : Bor Case) (number : ℕ) (more : List Task) → more ≡ task.Visit node ∷ [] → length case.now.kills ≤ number → MovesOn search (task.Kills node case number) more
survivor_visited search node case number more e l =
    alone_moves search (task.Kills node case number) (task.Visit node) more e
    (record {
      at = λ u of at. outside_all search case.now node.pair_path node.question u of (fewer_outside search case.now number (length case.now.kills) node.pair_path node.question u l at);
      on = λ u of at. cut_follows search case.now number 0 node.pair_path node.question u of at;
      fits = tt;
    })
    (λ before after one. record { plan = one.plan; kind = record { plan = λ assumed. one.kind.plan; stops = one.kind.stops }; is = one.is })
    (λ finding all. tt)

-- ---- the rows of a kill

get_next : {A : Type 0} (xs : List A) (i : ℕ) (x : A) → slice_get xs i ≡ Some x → take (i + 1) xs ≡ take i xs ++ x ∷ []
get_next [] i x e = absurd cc
get_next (y ∷ xs) zero x e = ap (λ z. z ∷ []) (some-is y x e)
get_next (y ∷ xs) (suc i) x e =
    let f : suc i + 1 ≡ suc (i + 1) = omega arith in
    ap (λ n. take n (y ∷ xs)) f ∙ ap (λ zs. y ∷ zs) (get_next xs i x e)

get_among : {A : Type 0} (xs : List A) (i : ℕ) (x : A) → slice_get xs i ≡ Some x → IsAmong x xs
get_among [] i x e = absurd cc
get_among (y ∷ xs) zero x e = inl (sym (some-is y x e))
get_among (y ∷ xs) (suc i) x e = inr (get_among xs i x e)

-- the question assumes a case
pub cut_assumes : (search : Search) (cut : CutAt) → IsCutAt search cut → is_some cut.node.question.last ≡ true
cut_assumes search cut h = by cut.node.question.last h.there.are
  where
    by : (o : Option Assumed) → option_and_then (λ (a : Assumed). rows_renaming (case_columns (judge_of search).params a) h.there.kill.0.rows) o ≡ Some cut.rows → is_some o ≡ true
    by None e = absurd cc
    by (Some a) e = refl

-- the next row is one of the kill's
pub row_its : (search : Search) (cut : CutAt) (row : Row) → IsCutAt search cut → slice_get cut.rows cut.standing ≡ Some row → IsKillsRow search cut.case.now cut.number cut.standing cut.node.question row
row_its search cut row h get = record { rows = cut.rows; are = h.there; is = get }

-- the next row stands
pub row_passed : (search : Search) (cut : CutAt) (row : Row) (more : List Task) → more ≡ task.Cut (passed_row cut) ∷ [] → IsCutAt search cut → slice_get cut.rows cut.standing ≡ Some row → IsStanding cut.node.question.conj row → (plans : List Plan) → Unfolds search (task.Cut cut) more plans plans
row_passed search cut row more e h get stands =
    alone_moves search (task.Cut cut) (task.Cut (passed_row cut)) more e
    (record {
      at = λ u of at. at;
      on = λ u of at. row_behind search cut.case.now cut.number cut.standing cut.node.pair_path cut.node.question u at;
      fits = record {
        numbered = h.numbered;
        there = h.there;
        kill_there = h.kill_there;
        stand = subst (AreStanding cut.node.question.conj) (sym (get_next cut.rows cut.standing row get)) (one_more_stands cut.node.question.conj (take cut.standing cut.rows) row h.stand stands);
      };
    })
    (λ before after one. one) (λ finding all. tt)

-- no point of the question meets the next row
pub row_left : (search : Search) (cut : CutAt) (row : Row) (more : List Task) → more ≡ task.Kills cut.node cut.case (cut.number + 1) ∷ [] → IsCutAt search cut → slice_get cut.rows cut.standing ≡ Some row → NeverHolds cut.node.question.conj row → (plans : List Plan) → Unfolds search (task.Cut cut) more plans plans
row_left search cut row more e h get never =
    let case = cut.case.now in
    let n = cut.number in
    let q = cut.node.question in
    let own : IsKillRow search case n q row = record { rows = cut.rows; are = h.numbered; among = get_among cut.rows cut.standing row get } in
    let miss = fails_misses search case n q row own never in
    alone_moves search (task.Cut cut) (task.Kills cut.node cut.case (n + 1)) more e
    (record { at = λ u of at. outside_next search case n (n + 1) cut.node.pair_path q u (omega arith) miss at; on = λ u of at. kill_behind search case n cut.standing (n + 1) cut.node.pair_path q u refl at; fits = cut_assumes search cut h })
    (λ before after one. one) (λ finding all. tt)

-- all rows stand
kill_plan : (search : Search) (case : Case) (node : Node) (kill : Kill) (rows : List Row) (t : Plan) → IsKilled search node kill t → IsKillThere search node.question case kill rows → AreStanding node.question.conj rows → IsCaseAt (judge_of search) node.question case → IsPlanIn search node.embedding node.question t
unfolding IsPlanIn
kill_plan search case node kill rows t killed there stand assumed cs given formed =
    let g = judge_of search in
    let q = node.question in
    let a = assumed.assumed in
    let at : IsKillAt g q a there.whole rows = record {
      model = assumed.model;
      reads = assumed.reader;
      case = case;
      is = record { flow = assumed.flow; is = assumed.flow_is; case_among = assumed.among; among = there.among };
      last = assumed.is;
      assumed = assumed.stands_for;
      rows = sym (there.moved a assumed.is);
    } in
    let end_is : IsEnd (Killed (kill_on g node.embedding a there.whole.1)) t = subst (λ (x : Kill). IsEnd (Killed (on_path (case_width g.params a) node.embedding.next_column x)) t) (sym there.is) (killed.ends a assumed.is) in
    kills_plans g cs node.embedding q a there.whole rows t at (rows_along g.params node.embedding q rows formed.made stand) end_is

pub rows_end : (search : Search) (cut : CutAt) (more : List Task) (before after : List Plan) → more ≡ [] → IsCutAt search cut → slice_get cut.rows cut.standing ≡ None → IsEndAt search cut before after → Unfolds search (task.Cut cut) more before after
rows_end search cut more before after e h none one =
    let all : take cut.standing cut.rows ≡ cut.rows = take_all cut.standing cut.rows (none_behind cut.rows cut.standing none) in
    let stand = subst (AreStanding cut.node.question.conj) all h.stand in
    closed_unfolds search (task.Cut cut) more before after e
    (λ making. record {
      plan = one.plan;
      kind = record {
        plan = kill_plan search cut.case.now cut.node cut.kill.now cut.rows one.plan one.kind h.kill_there stand;
        stops = anywhere_stops search cut.node.question one.plan.next one.kind.stops;
      };
      is = one.is;
    })
    (λ finding. tt)

-- ---- a branch on the next row

branch_plan : (search : Search) (case : Case) (s z : Embedding) (q v : Path) (row : Row) (inside : Plan) (outside : List Plan) (t : Plan) → v ≡ question_on q (inside_of row) → z ≡ on_side s (inside_of row) → CanStand q.conj.columns row → CanBranch row
    → AreMadeOn search case s q (outside_of q.conj.columns row) outside → IsMadeIn search case z v inside → IsBranch s row inside outside t → IsCaseAt (judge_of search) q case → IsPlanIn search s q t
unfolding IsPlanIn
branch_plan search case s z q v row inside outside t e f can branch beside made h assumed cs given formed =
    let g = judge_of search in
    let sides = sides_formed g.params q row formed can.over in
    let there : IsCaseAt g v case = subst (λ (x : Path). IsCaseAt g x case) (sym e) (case_beside g q (question_on q (inside_of row)).conj case assumed) in
    let plan : IsPlanFor g cs z v inside = made.plan there cs given (subst (λ (x : Path). IsFormed g.params x) (sym e) sides.0) in
    let plan' : IsPlanFor g cs (on_side s (inside_of row)) (question_on q (inside_of row)) inside = subst (λ (y : Embedding). IsPlanFor g cs y (question_on q (inside_of row)) inside) f (subst (λ (x : Path). IsPlanFor g cs z x inside) e plan) in
    branches_give_plans g cs s q row inside outside t formed.made can.over branch (h.serves s.rows) plan' (beside.sides cs given assumed sides.1)

branch_made : (search : Search) (case : Case) (s z : Embedding) (q v : Path) (row : Row) (inside : Plan) (outside : List Plan) (t : Plan) → v ≡ question_on q (inside_of row) → z ≡ on_side s (inside_of row) → CanStand q.conj.columns row → CanBranch row
    → AreMadeOn search case s q (outside_of q.conj.columns row) outside → IsMadeIn search case z v inside → IsBranch s row inside outside t → IsMadeIn search case s q t
branch_made search case s z q v row inside outside t e f can branch beside made h = record {
  plan = branch_plan search case s z q v row inside outside t e f can branch beside made h;
  stops = branches_in search q (inside ∷ outside) t.next h.branches (there_stops search q v inside.next (grown_part q v (inside_of row) e) made.stops, beside.stop);
}

-- the sides beside it
record BesideTask (node : Node) (case : Case) (number : ℕ) (part : Part) (t : Task) : Type 0 where
  side : Node
  own : Bor Case
  from : ℕ
  is : IsNodeOn node part side
  same : own.now ≡ case
  from_is : from ≡ number
  task_is : t ≡ task.Outside side own from

beside_task : (node : Node) (case : Case) (number : ℕ) (part : Part) (t : Task) → IsBeside node case number part t → BesideTask node case number part t
beside_task node case number part (task.Outside side own from) h = record { side = side; own = own; from = from; is = h.0; same = h.1; from_is = h.2; task_is = refl }
beside_task node case number part (task.Visit n) h = absurd h
beside_task node case number part (task.Rest n) h = absurd h
beside_task node case number part (task.Case n own) h = absurd h
beside_task node case number part (task.Kills n own k) h = absurd h
beside_task node case number part (task.Cut at) h = absurd h
beside_task node case number part (task.Step order around) h = absurd h
beside_task node case number part (task.Branch embedding row around) h = absurd h

pub beside_none : (node : Node) (case : Case) (number : ℕ) → AreBeside node case number [] []
beside_none node case number = tt

pub beside_more : (node side : Node) (case : Bor Case) (number : ℕ) (ps more : List Part) (ts : List Task) (p : Part) → AreBeside node case.now number ps ts → more ≡ ps ++ p ∷ [] → IsNodeOn node p side → AreBeside node case.now number more (ts ++ task.Outside side case number ∷ [])
beside_more node side case number ps more ts p h m k = subst (λ (xs : List Part). AreBeside node case.now number xs (ts ++ task.Outside side case number ∷ [])) (sym m) (by ps ts h)
  where
    by : (xs : List Part) (us : List Task) → AreBeside node case.now number xs us → AreBeside node case.now number (xs ++ p ∷ []) (us ++ task.Outside side case number ∷ [])
    by [] [] j = ((k, refl, refl), tt)
    by [] (u ∷ us) j = absurd j
    by (x ∷ xs) [] j = absurd j
    by (x ∷ xs) (u ∷ us) j = (j.0, by xs us j.1)

besides_lead : (search : Search) (cut : CutAt) (row : Row) (parts : Parts) (next : ℕ) (ps : List Part) (ts : List Task) → is_some cut.node.question.last ≡ true → next ≡ cut.number + 1 → SidesMiss search cut.case.now cut.number cut.node.question parts.outside
    → IsKillsRow search cut.case.now cut.number cut.standing cut.node.question row → AreNewSides cut.node.question.conj row parts → ((p : Part) → IsAmong p ps → IsAmong p parts.outside) → AreBeside cut.node cut.case.now next ps ts
    → AllByRecursion (LeadsTo search (task.Cut cut)) ts
unfolding SidesMiss
besides_lead search cut row parts next [] [] assumes e miss its sides among h = tt
besides_lead search cut row parts next [] (t ∷ ts) assumes e miss its sides among h = absurd h
besides_lead search cut row parts next (p ∷ ps) [] assumes e miss its sides among h = absurd h
besides_lead search cut row parts next (p ∷ ps) (t ∷ ts) assumes e miss its sides among h =
    let k = beside_task cut.node cut.case.now next p t h.0 in
    let case = cut.case.now in
    let n = cut.number in
    let i = among p (inl refl) in
    let own : Misses search case n k.side.question = subst (Misses search case n) (sym k.is.question) (miss p i) in
    let one : LeadsTo search (task.Cut cut) (task.Outside k.side k.own k.from) = record {
      at = λ u of at.
          let within = outside_within search case n cut.node k.side u (within_part cut.node k.side p k.is.question k.is.pair_path) at in
          let behind = outside_next search case n next k.side.pair_path k.side.question u (omega (arith, e)) own within in
          subst (λ (x : Case). IsOutsideKills search x k.from k.side.pair_path k.side.question u) (sym k.same) (subst (λ (m : ℕ). IsOutsideKills search case m k.side.pair_path k.side.question u) (sym k.from_is) behind);
      on = λ u of at.
          let there = outside_cut search case n cut.standing next cut.node.pair_path k.side.pair_path cut.node.question k.side.question row parts p u e its sides i k.is.question k.is.pair_path at in
          subst (λ (x : Case). FollowsCut search x k.from 0 k.side.pair_path k.side.question u) (sym k.same) (subst (λ (m : ℕ). FollowsCut search case m 0 k.side.pair_path k.side.question u) (sym k.from_is) there);
      fits = ap (λ (x : Path). is_some x.last) k.is.question ∙ assumes;
    } in
    (subst (LeadsTo search (task.Cut cut)) (sym k.task_is) one, besides_lead search cut row parts next ps ts assumes e miss its sides (λ x j. among x (inr j)) h.1)

besides_make : (search : Search) (node : Node) (case : Case) (next : ℕ) (qs ps : List Part) (plans last : List Plan) (ts rest : List Task) → AreBeside node case next ps ts → AreMadeOn search case node.embedding node.question qs plans → MakeAll search (ts ++ rest) plans last
    → (all : List Plan) × AreMadeOn search case node.embedding node.question (qs ++ ps) all × MakeAll search rest all last
besides_make search node case next qs [] plans last [] rest h made run = (plans, subst (λ (xs : List Part). AreMadeOn search case node.embedding node.question xs plans) (sym (append-nil qs)) made, run)
besides_make search node case next qs [] plans last (t ∷ ts) rest h made run = absurd h
besides_make search node case next qs (p ∷ ps) plans last [] rest h made run = absurd h
besides_make search node case next qs (p ∷ ps) plans last (t ∷ ts) rest h made run =
    let k = beside_task node case next p t h.0 in
    let first : MakesOne (IsMadeIn search k.own.now k.side.embedding k.side.question) plans run.0 = subst (λ (x : Task). Makes search x plans run.0) k.task_is run.1 in
    let one : MakesOne (IsMadeIn search case k.side.embedding k.side.question) plans run.0 = subst (λ (x : Case). MakesOne (IsMadeIn search x k.side.embedding k.side.question) plans run.0) k.same first in
    let behind : MakeAll search (ts ++ rest) (plans ++ one.plan ∷ []) last = subst (λ (us : List Plan). MakeAll search (ts ++ rest) us last) one.is run.2 in
    let more = made_more search case node.embedding node.question qs plans p k.side one.plan made k.is.question k.is.embedding one.kind in
    let r = besides_make search node case next (qs ++ p ∷ []) ps (plans ++ one.plan ∷ []) last ts rest h.1 more behind in
    (r.0, subst (λ (xs : List Part). AreMadeOn search case node.embedding node.question xs r.0) (append_assoc qs (p ∷ []) ps) r.1, r.2)

-- inside, the row stands too
inside_fits : (search : Search) (cut : CutAt) (row : Row) (parts : Parts) (inside : Node) → IsCutAt search cut → slice_get cut.rows cut.standing ≡ Some row → CanStand cut.node.question.conj.columns row → parts.inside ≡ inside_of row → IsNodeOn cut.node parts.inside inside
    → IsCutAt search (record { node = inside; case = cut.case; number = cut.number; kill = cut.kill; rows = cut.rows; standing = cut.standing + 1 })
inside_fits search cut row parts inside h get can e k =
    let q = cut.node.question in
    let v = inside.question in
    let last : v.last ≡ q.last = ap (λ (x : Path). x.last) k.question in
    let side : AreStanding (side_of q.conj (inside_of row)) (take cut.standing cut.rows ++ row ∷ []) = one_more_stands (side_of q.conj (inside_of row)) (take cut.standing cut.rows) row (all_standing_side q.conj (inside_of row) (take cut.standing cut.rows) h.stand) (standing_inside q.conj row can) in
    let conj : v.conj ≡ side_of q.conj (inside_of row) = ap (λ (x : Path). x.conj) k.question ∙ ap (side_of q.conj) e in
    record {
      numbered = rows_within search cut.case.now cut.number q v cut.rows (grown_part q v parts.inside k.question) h.numbered;
      there = record { kill = h.there.kill; is = h.there.is; are = ap (option_and_then (λ (a : Assumed). rows_renaming (case_columns (judge_of search).params a) h.there.kill.0.rows)) last ∙ h.there.are };
      kill_there = record { whole = h.kill_there.whole; among = h.kill_there.among; is = h.kill_there.is; moved = λ a f. h.kill_there.moved a (sym last ∙ f) };
      stand = subst (AreStanding v.conj) (sym (get_next cut.rows cut.standing row get)) (subst (λ (c : Conj). AreStanding c (take cut.standing cut.rows ++ row ∷ [])) (sym conj) side);
    }

pub split_unfolds : (search : Search) (cut : CutAt) (row : Row) (parts : Parts) (more : List Task) (before after : List Plan) → IsCutAt search cut → slice_get cut.rows cut.standing ≡ Some row → AreNewSides cut.node.question.conj row parts → IsNew cut.node.question.conj (inside_of row)
    → IsSplit cut row parts more before after → Unfolds search (task.Cut cut) more before after
split_unfolds search cut row parts more before after h get new inward_new k =
    let can = new.can in
    let are = new.are in
    let q = cut.node.question in
    let case = cut.case.now in
    let n = q.conj.columns in
    let inner : CutAt = record { node = k.inside; case = cut.case; number = cut.number; kill = cut.kill; rows = cut.rows; standing = cut.standing + 1 } in
    let behind : List Task = task.Cut inner ∷ task.Branch cut.node.embedding row k.around ∷ [] in
    let inside_is : parts.inside ≡ inside_of row = ap (λ (x : Parts). x.inside) are.1 in
    let outside_are : parts.outside ≡ outside_of n row = ap (λ (x : Parts). x.outside) are.1 in
    let among = get_among cut.rows cut.standing row get in
    let own : IsKillRow search case cut.number q row = record { rows = cut.rows; are = h.numbered; among = among } in
    let its = row_its search cut row h get in
    let miss = parts_miss search case cut.number q row parts parts.outside can.over are refl own in
    let inward : LeadsTo search (task.Cut cut) (task.Cut inner) = record {
      at = λ u of at. outside_within search case cut.number cut.node k.inside u (within_part cut.node k.inside parts.inside k.inside_is.question k.inside_is.pair_path) at;
      on = λ u of at. inside_cut search case cut.number cut.standing cut.node.pair_path k.inside.pair_path q k.inside.question row parts u its new inward_new k.inside_is.question k.inside_is.pair_path at;
      fits = inside_fits search cut row parts k.inside h get can inside_is k.inside_is;
    } in
    let last_leads : LeadsTo search (task.Cut cut) (task.Branch cut.node.embedding row k.around) = record { at = λ u of at. tt; on = λ u of at. tt; fits = tt } in
    record {
      lead = subst (AllByRecursion (LeadsTo search (task.Cut cut))) (sym k.more_is) (all_join (LeadsTo search (task.Cut cut)) k.sides behind (besides_lead search cut row parts k.next parts.outside k.sides (cut_assumes search cut h) k.next_is miss its new (λ p i. i) k.are) (inward, (last_leads, tt)));
      makes = λ making last run.
          let run' : MakeAll search (k.sides ++ behind) [] last = subst (λ (us : List Plan). MakeAll search (k.sides ++ behind) us last) k.none (subst (λ (ts : List Task). MakeAll search ts after last) k.more_is run) in
          let r = besides_make search cut.node case k.next [] parts.outside [] last k.sides behind k.are (made_none search case cut.node.embedding q) run' in
          let inside : MakesOne (IsMadeIn search case k.inside.embedding k.inside.question) r.0 r.2.0 = r.2.1 in
          let closes : ClosesBranch cut.node.embedding row k.around.items r.2.0 r.2.2.0 = r.2.2.1 in
          let one : MakesOne (IsBranch cut.node.embedding row inside.plan r.0) k.around.items r.2.2.0 = closes r.0 inside.plan inside.is in
          let beside = subst (λ (xs : List Part). AreMadeOn search case cut.node.embedding q xs r.0) outside_are r.1 in
          record {
            plan = one.plan;
            kind = branch_made search case cut.node.embedding k.inside.embedding q k.inside.question row inside.plan r.0 one.plan (k.inside_is.question ∙ ap (question_on q) inside_is) (k.inside_is.embedding ∙ ap (on_side cut.node.embedding) inside_is) can are.0 beside inside.kind one.kind;
            is = r.2.2.2 ∙ one.is ∙ ap (λ (us : List Plan). us ++ one.plan ∷ []) k.around_is;
          };
      holds = λ finding all. tt;
    }

-- ---- a question without a point

not_none : (o : Option Plan) → is_some o ≡ true → ¬ (o ≡ None)
not_none o h e = let z : false ≡ true = sym (ap is_some e) ∙ h in absurd cc

-- there is a plan that shows it
pub outside_shown : (search : Search) (node : Node) (case : Bor Case) (number : ℕ) (o : Option Plan) (more : List Task) (plans : List Plan) → is_some o ≡ true → o ≡ None → Unfolds search (task.Outside node case number) more plans plans
outside_shown search node case number o more plans h e = absurd (not_none o h e)

pub outside_empty : (search : Search) (node : Node) (case : Bor Case) (number : ℕ) (o : Option Plan) (t : Plan) (more : List Task) (before after : List Plan) → IfSome o (IsRefuted node.embedding node.question) → o ≡ Some t → more ≡ [] → after ≡ before ++ t ∷ []
    → Unfolds search (task.Outside node case number) more before after
outside_empty search node case number o t more before after refuted is e f =
    let made : IfSome o (IsMadeIn search case.now node.embedding node.question) = refuted_in search case.now node.embedding node.question o refuted in
    closed_unfolds search (task.Outside node case number) more before after e (λ making. record { plan = t; kind = at_some o t (IsMadeIn search case.now node.embedding node.question) is made; is = f }) (λ finding. tt)

-- a plan for the question is one in its case
pub made_of_kills : (search : Search) (node : Node) (case : Bor Case) (number : ℕ) (before after : List Plan) → MakesOne (IsMade search node.embedding node.question) before after → Makes search (task.Kills node case number) before after
made_of_kills search node case number before after one = record { plan = one.plan; kind = record { plan = λ assumed. one.kind.plan; stops = one.kind.stops }; is = one.is }
