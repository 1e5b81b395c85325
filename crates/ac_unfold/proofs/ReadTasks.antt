-- The tasks of the step of a read or an output, and of its cases.
use Rattle.std.proofs.Common.{◌≡◌, inl, inr, ℕ, zero, suc, ◌+◌, true, false, List, [], ◌∷◌, ◌++◌, map, length, take, Some, Bor, refl, sym, ap, ◌∙◌, subst, arith, append_assoc, append-nil}
use Rattle.std.proofs.Math.Seq.{take-append-add}
use Rattle.std.specs.Prelude.{is_some, slice_get}
use Rattle.std.specs.List.{AllByRecursion}
use Rattle.ac_base.proofs.Options.{some-is}
use Rattle.ac_forms.specs.ListMembers.{IsAmong}
use Rattle.ac_syntax.specs.declared.tree.Order.TheVariants.{Keep}
use Rattle.ac_claims_paths.specs.BranchPaths.{onto}
use Rattle.ac_claims_paths.specs.PathSteps.{branches, seat_of}
use Rattle.ac_claims_paths.specs.WellFormedPaths.{AllFormed, HasModuli, IsFormed}
use Rattle.ac_claims_paths.specs.declared.path.Branch.{Branch}
use Rattle.ac_claims_paths.specs.declared.path.Path.{Path}
use Rattle.ac_claims_paths.specs.declared.path.Seat.{Seat}
use Rattle.ac_claims_paths.specs.declared.path.Side.{Side}
use Rattle.ac_claims.specs.declared.types.Plan.{Plan}
use Rattle.ac_flow.specs.declared.types.Case.{Case}
use Rattle.ac_flow.specs.declared.types.ReadFlow.{ReadFlow}
use Rattle.ac_flow.specs.declared.types.Remainder.{Remainder}
use Rattle.ac_widen_programs.specs.PairPathSteps.{at_rest, flow_on}
use Rattle.ac_unfold.specs.KillCuts.{IsAssumed, IsStep}
use Rattle.ac_unfold.specs.PlanResults.{judge_of, IsMadeIn}
use Rattle.ac_unfold.specs.BrokenPathResults.{IsAt, IsInCase, IsKindThere}
use Rattle.ac_unfold.specs.SearchPlanStops.{MayStep}
use Rattle.ac_unfold.specs.UnbrokenResults.{CaseStands, StandsIn, StandsLeft}
use Rattle.ac_unfold.specs.UnfoldStops.{Follows, FollowsCase}
use Rattle.ac_unfold.specs.UnfoldTasks.{AreCases, AreRests, HasStep, Needs, IsCaseTask, IsChild, IsRest, LeadsTo, MakeAll, Makes, MakesOne, MovesOn, Unfolds}
use Rattle.ac_unfold.specs.declared.ends.Search.{Search}
use Rattle.ac_unfold.specs.declared.kinds.Next.TheVariants as next
use Rattle.ac_unfold.specs.declared.node.Node.{Node}
use Rattle.ac_unfold.specs.declared.tasks.Task.{Task}
use Rattle.ac_unfold.specs.declared.tasks.Task.TheVariants as task
use Rattle.ac_unfold.proofs.Coming.{at_piece, in_case, is_past}
use Rattle.ac_unfold.proofs.CallTasks.{step_leads, step_makes}
use Rattle.ac_unfold.proofs.Passing.{outside_start}
use Rattle.ac_unfold.proofs.Places.{case_follows, on_from, rest_follows, whole_cut}
use Rattle.ac_unfold.proofs.Stepping.{case_made, serve_more, serve_none, ServeBranches}
use Rattle.ac_unfold.proofs.TaskRuns.{make_alone}
use Rattle.ac_unfold.proofs.Unbroken.{reads_stand}

-- ---- cases

record CaseTask (search : Search) (node : Node) (side : Side) (read : ReadFlow) (number : ℕ) (b : Branch) (t : Task) : Type 0 where
  child : Node
  case : Bor Case
  is : IsChild node b child
  assumed : IsAssumed search side read case.now child.question
  numbered : slice_get read.cases number ≡ Some case.now
  task_is : t ≡ task.Case child case

case_is : (search : Search) (node : Node) (side : Side) (read : ReadFlow) (number : ℕ) (b : Branch) (t : Task) → IsCaseTask search node side read number b t → CaseTask search node side read number b t
case_is search node side read number b (task.Case child case) h = record { child = child; case = case; is = h.0; assumed = h.1; numbered = h.2; task_is = refl }
case_is search node side read number b (task.Visit n) h = absurd h
case_is search node side read number b (task.Rest n) h = absurd h
case_is search node side read number b (task.Outside n case k) h = absurd h
case_is search node side read number b (task.Kills n case k) h = absurd h
case_is search node side read number b (task.Cut at) h = absurd h
case_is search node side read number b (task.Step order around) h = absurd h
case_is search node side read number b (task.Branch embedding row around) h = absurd h

pub cases_none : (search : Search) (node : Node) (side : Side) (read : ReadFlow) → AreCases search node side read 0 [] []
cases_none search node side read = tt

pub cases_more : (search : Search) (node : Node) (side : Side) (read : ReadFlow) (first number : ℕ) (bs : List Branch) (ts : List Task) (b : Branch) (t : Task) → AreCases search node side read first bs ts → number ≡ first + length ts → IsCaseTask search node side read number b t
    → AreCases search node side read first (bs ++ b ∷ []) (ts ++ t ∷ [])
cases_more search node side read first number [] [] b t h e k = let f : number ≡ first = omega (arith, e) in (subst (λ (n : ℕ). IsCaseTask search node side read n b t) f k, tt)
cases_more search node side read first number [] (u ∷ ts) b t h e k = absurd h
cases_more search node side read first number (c ∷ bs) [] b t h e k = absurd h
cases_more search node side read first number (c ∷ bs) (u ∷ ts) b t h e k = (h.0, cases_more search node side read (first + 1) number bs ts b t h.1 (omega (arith, e)) k)

-- ---- where they stand

case_leads : (search : Search) (node : Node) (side : Side) (read : ReadFlow) (number : ℕ) (xs ys : List Branch) (b : Branch) (t : Task) → IsKindThere search node.question (next.Read side)
    → IsAmong read (flow_on search.program_flows.now.left_flow.now search.program_flows.now.right_flow.now side).reads → read.position ≡ (seat_of node.question side).position → MayStep search node.question Keep → number ≡ length xs
    → Some (map (onto node.question) (xs ++ b ∷ ys)) ≡ branches (judge_of search) Keep node.question → CaseTask search node side read number b t → LeadsTo search (task.Visit node) t
case_leads search node side read number xs ys b t kind among position may count is k =
    let q = node.question in
    let first : xs ++ b ∷ [] ≡ take (length xs + 1) (xs ++ b ∷ ys) = sym (take-append-add xs (b ∷ ys) 1) in
    subst (LeadsTo search (task.Visit node)) (sym k.task_is)
    (record {
      at = λ u of at.
          subst (λ (x : List (Seat × Seat)). IsInCase search k.case.now x k.child.question u) (sym k.is.pair_path)
          (subst (λ (x : Path). IsInCase search k.case.now (node.pair_path ++ (b.left, b.right) ∷ []) x u) (sym k.is.question)
          (in_case search node side read k.case.now number xs ys b u of kind among position k.numbered count is (is_past search node.pair_path q u may.unclaimed.none at)));
      on = λ u of at.
          subst (λ (x : List (Seat × Seat)). FollowsCase search k.case.now x k.child.question u) (sym k.is.pair_path)
          (subst (λ (x : Path). FollowsCase search k.case.now (node.pair_path ++ (b.left, b.right) ∷ []) x u) (sym k.is.question)
          (case_follows search node.pair_path q side read k.case.now number xs (xs ++ b ∷ ys) b (length xs + 1) u of kind among position k.numbered count first is (on_from search node.pair_path q u may.unclaimed.none at)));
      fits = ap is_some k.assumed.is;
    })

cases_lead : (search : Search) (node : Node) (side : Side) (read : ReadFlow) (number : ℕ) (xs ys : List Branch) (ts : List Task) → IsKindThere search node.question (next.Read side)
    → IsAmong read (flow_on search.program_flows.now.left_flow.now search.program_flows.now.right_flow.now side).reads → read.position ≡ (seat_of node.question side).position → MayStep search node.question Keep → number ≡ length xs
    → Some (map (onto node.question) (xs ++ ys)) ≡ branches (judge_of search) Keep node.question → AreCases search node side read number ys ts → AllByRecursion (LeadsTo search (task.Visit node)) ts
cases_lead search node side read number xs [] [] kind among position may count is h = tt
cases_lead search node side read number xs [] (t ∷ ts) kind among position may count is h = absurd h
cases_lead search node side read number xs (b ∷ ys) [] kind among position may count is h = absurd h
cases_lead search node side read number xs (b ∷ ys) (t ∷ ts) kind among position may count is h = (
  case_leads search node side read number xs ys b t kind among position may count is (case_is search node side read number b t h.0),
  cases_lead search node side read (number + 1) (xs ++ b ∷ []) ys ts kind among position may (ap (λ (n : ℕ). n + 1) count ∙ sym (longer xs b)) (ap (λ (zs : List Branch). Some (map (onto node.question) zs)) (append_assoc xs (b ∷ []) ys) ∙ is) h.1,
)
  where
    longer : (zs : List Branch) (c : Branch) → length (zs ++ c ∷ []) ≡ length zs + 1
    longer [] c = refl
    longer (z ∷ zs) c = let k = longer zs c in omega (arith, k)

-- ---- what they make

cases_serve : (search : Search) (node : Node) (side : Side) (read : ReadFlow) (number : ℕ) (xs ys : List Branch) (plans last : List Plan) (ts rest : List Task) → IsAmong read (flow_on search.program_flows.now.left_flow.now search.program_flows.now.right_flow.now side).reads
    → AreCases search node side read number ys ts → ServeBranches search node.embedding node.question xs plans → MakeAll search (ts ++ rest) plans last → (all : List Plan) × ServeBranches search node.embedding node.question (xs ++ ys) all × MakeAll search rest all last
cases_serve search node side read number xs [] plans last [] rest among h s run = (plans, subst (λ (zs : List Branch). ServeBranches search node.embedding node.question zs plans) (sym (append-nil xs)) s, run)
cases_serve search node side read number xs [] plans last (t ∷ ts) rest among h s run = absurd h
cases_serve search node side read number xs (b ∷ ys) plans last [] rest among h s run = absurd h
cases_serve search node side read number xs (b ∷ ys) plans last (t ∷ ts) rest among h s run =
    let k = case_is search node side read number b t h.0 in
    let one : MakesOne (IsMadeIn search k.case.now k.child.embedding k.child.question) plans run.0 = subst (λ (x : Task). Makes search x plans run.0) k.task_is run.1 in
    let behind : MakeAll search (ts ++ rest) (plans ++ one.plan ∷ []) last = subst (λ (ps : List Plan). MakeAll search (ts ++ rest) ps last) one.is run.2 in
    let made = case_made search side read k.case.now k.child.embedding k.child.question one.plan among k.assumed one.kind in
    let more = serve_more search node.embedding node.question xs plans b k.child one.plan s k.is.question k.is.embedding made in
    let r = cases_serve search node side read (number + 1) (xs ++ b ∷ []) ys (plans ++ one.plan ∷ []) last ts rest among h.1 more behind in
    (r.0, subst (λ (zs : List Branch). ServeBranches search node.embedding node.question zs r.0) (append_assoc xs (b ∷ []) ys) r.1, r.2)

-- ---- what has to stand

cases_hold : (search : Search) (node : Node) (side : Side) (read : ReadFlow) (first : ℕ) (ys : List Branch) (ts : List Task) → AreCases search node side read first ys ts → AllByRecursion (Needs search) ts
    → (n : ℕ) (b : Branch) → slice_get ys n ≡ Some b → (case : Case) × (slice_get read.cases (first + n) ≡ Some case) × CaseStands search case (onto node.question b)
cases_hold search node side read first [] [] h all n b e = absurd cc
cases_hold search node side read first [] (t ∷ ts) h all n b e = absurd h
cases_hold search node side read first (c ∷ ys) [] h all n b e = absurd h
cases_hold search node side read first (c ∷ ys) (t ∷ ts) h all zero b e =
    let k = case_is search node side read first c t h.0 in
    let same : c ≡ b = some-is c b e in
    let stands : CaseStands search k.case.now k.child.question = subst (Needs search) k.task_is all.0 in
    let here : first + 0 ≡ first = omega arith in
    (k.case.now, ap (slice_get read.cases) here ∙ k.numbered, subst (CaseStands search k.case.now) (k.is.question ∙ ap (onto node.question) same) stands)
cases_hold search node side read first (c ∷ ys) (t ∷ ts) h all (suc n) b e =
    let r = cases_hold search node side read (first + 1) ys ts h.1 all.1 n b e in
    let here : first + suc n ≡ first + 1 + n = omega arith in
    (r.0, ap (slice_get read.cases) here ∙ r.1, r.2)

-- ---- the step of a read or an output

pub reads_unfold : (search : Search) (node : Node) (side : Side) (read : ReadFlow) (found : List Branch) (cases more : List Task) (before after : List Plan) → IsKindThere search node.question (next.Read side)
    → IsAmong read (flow_on search.program_flows.now.left_flow.now search.program_flows.now.right_flow.now side).reads → read.position ≡ (seat_of node.question side).position → MayStep search node.question Keep
    → Some (map (onto node.question) found) ≡ branches (judge_of search) Keep node.question → (HasModuli (judge_of search).left → HasModuli (judge_of search).right → IsFormed (judge_of search).params node.question → AllFormed (judge_of search).params (map (onto node.question) found))
    → AreCases search node side read 0 found cases → HasStep search Keep cases more before after → Unfolds search (task.Visit node) more before after
reads_unfold search node side read found cases more before after kind among position may is formed are h = record {
  lead = step_leads search (task.Visit node) Keep cases more before after h (cases_lead search node side read 0 [] found cases kind among position may refl is are);
  makes = λ making last run.
      let s = h.making making in
      let run' : MakeAll search (cases ++ task.Step Keep s.around ∷ []) [] last = subst (λ (ps : List Plan). MakeAll search (cases ++ task.Step Keep s.around ∷ []) ps last) s.none (subst (λ (ts : List Task). MakeAll search ts after last) s.made_is run) in
      let k = cases_serve search node side read 0 [] found [] last cases (task.Step Keep s.around ∷ []) among are (serve_none search node.embedding node.question) run' in
      let one : MakesOne (IsStep Keep k.0) s.around.items last = subst (λ (ps : List Plan). MakesOne (IsStep Keep k.0) s.around.items ps) (sym k.2.2) k.2.1 in
      step_makes search node Keep found k.0 before last s.around.items k.1 s.around_is may is formed one;
  holds = λ finding all.
      reads_stand search node.question side read found kind among position may.unclaimed.none is
      (λ n b e.
      let r = cases_hold search node side read 0 found cases are (subst (AllByRecursion (Needs search)) (h.finding finding) all) n b e in
      let z : n ≡ 0 + n = omega arith in
      (r.0, ap (slice_get read.cases) z ∙ r.1, r.2));
}

-- ---- what is left of a case

record RestTask (search : Search) (node : Node) (rest : Remainder) (t : Task) : Type 0 where
  left : Node
  question : at_rest (judge_of search).params node.question rest.conj ≡ Some left.question
  pair_path : left.pair_path ≡ node.pair_path
  task_is : t ≡ task.Rest left

rest_task : (search : Search) (node : Node) (rest : Remainder) (t : Task) → IsRest search node rest t → RestTask search node rest t
rest_task search node rest (task.Rest left) h = record { left = left; question = h.0; pair_path = h.1; task_is = refl }
rest_task search node rest (task.Visit n) h = absurd h
rest_task search node rest (task.Case n case) h = absurd h
rest_task search node rest (task.Outside n case k) h = absurd h
rest_task search node rest (task.Kills n case k) h = absurd h
rest_task search node rest (task.Cut at) h = absurd h
rest_task search node rest (task.Step order around) h = absurd h
rest_task search node rest (task.Branch embedding row around) h = absurd h

pub rests_none : (search : Search) (node : Node) → AreRests search node [] []
rests_none search node = tt

pub rests_more : (search : Search) (node left : Node) (rs more : List Remainder) (ts : List Task) (r : Remainder) → AreRests search node rs ts → more ≡ rs ++ r ∷ [] → at_rest (judge_of search).params node.question r.conj ≡ Some left.question → left.pair_path ≡ node.pair_path
    → AreRests search node more (ts ++ task.Rest left ∷ [])
rests_more search node left rs more ts r h m e f = subst (λ (xs : List Remainder). AreRests search node xs (ts ++ task.Rest left ∷ [])) (sym m) (by rs ts h)
  where
    by : (xs : List Remainder) (us : List Task) → AreRests search node xs us → AreRests search node (xs ++ r ∷ []) (us ++ task.Rest left ∷ [])
    by [] [] k = ((e, f), tt)
    by [] (u ∷ us) k = absurd k
    by (x ∷ xs) [] k = absurd k
    by (x ∷ xs) (u ∷ us) k = (k.0, by xs us k.1)

rests_lead : (search : Search) (node : Node) (case : Bor Case) (rs : List Remainder) (ts : List Task) → ((r : Remainder) → IsAmong r rs → IsAmong r case.now.pieces) → AreRests search node rs ts → AllByRecursion (LeadsTo search (task.Case node case)) ts
rests_lead search node case [] [] among h = tt
rests_lead search node case [] (t ∷ ts) among h = absurd h
rests_lead search node case (r ∷ rs) [] among h = absurd h
rests_lead search node case (r ∷ rs) (t ∷ ts) among h =
    let k = rest_task search node r t h.0 in
    let i = among r (inl refl) in
    let one : LeadsTo search (task.Case node case) (task.Rest k.left) = record {
      at = λ u of at. subst (λ (x : List (Seat × Seat)). IsAt search x k.left.question u) (sym k.pair_path) (at_piece search case.now node.pair_path node.question k.left.question r u of i k.question at);
      on = λ u of at. subst (λ (x : List (Seat × Seat)). Follows search x k.left.question u) (sym k.pair_path) (rest_follows search case.now node.pair_path node.question k.left.question r u of i k.question at);
      fits = tt;
    } in
    (subst (LeadsTo search (task.Case node case)) (sym k.task_is) one, rests_lead search node case rs ts (λ x j. among x (inr j)) h.1)

rests_hold : (search : Search) (node : Node) (rs : List Remainder) (ts : List Task) → AreRests search node rs ts → AllByRecursion (Needs search) ts → (r : Remainder) → IsAmong r rs → StandsLeft search node.question r
rests_hold search node [] [] h all r i = absurd i
rests_hold search node [] (t ∷ ts) h all r i = absurd h
rests_hold search node (x ∷ rs) [] h all r i = absurd h
rests_hold search node (x ∷ rs) (t ∷ ts) h all r (inl e) =
    let k = rest_task search node x t h.0 in
    let stands : StandsIn search k.left.question = subst (Needs search) k.task_is all.0 in
    subst (StandsLeft search node.question) (sym e) (record { question = k.left.question; is = k.question; stands = stands })
rests_hold search node (x ∷ rs) (t ∷ ts) h all r (inr i) = rests_hold search node rs ts h.1 all.1 r i

pub case_rests : (search : Search) (node : Node) (case : Bor Case) (more : List Task) → search.making ≡ false → AreRests search node case.now.pieces more → MovesOn search (task.Case node case) more
unfolding CaseStands
case_rests search node case more off h plans = record {
  lead = rests_lead search node case case.now.pieces more (λ r i. i) h;
  makes = λ making last run. let z : true ≡ false = sym making ∙ off in absurd cc;
  holds = λ finding all r i. rests_hold search node case.now.pieces more h all r i;
}

pub case_outside : (search : Search) (node : Node) (case : Bor Case) (more : List Task) → search.making ≡ true → is_some node.question.last ≡ true → more ≡ task.Outside node case 0 ∷ [] → MovesOn search (task.Case node case) more
case_outside search node case more on assumes e plans = subst (λ (ts : List Task). Unfolds search (task.Case node case) ts plans plans) (sym e) (record {
  lead = (
    record {
      at = λ u of at. outside_start search case.now node.pair_path node.question u at;
      on = λ u of at. whole_cut search case.now node.pair_path node.question u at;
      fits = assumes;
    },
    tt,
  );
  makes = λ making last run. make_alone search (task.Outside node case 0) plans last run;
  holds = λ finding all. let z : true ≡ false = sym on ∙ finding in absurd cc;
})

-- ---- a question that is opened

pub opened_leads : (search : Search) (node child : Node) (more : List Task) → more ≡ task.Visit child ∷ [] → child.question ≡ node.question → child.pair_path ≡ node.pair_path → AllByRecursion (LeadsTo search (task.Rest node)) more
opened_leads search node child more m e f = subst (AllByRecursion (LeadsTo search (task.Rest node))) (sym m) (
  record {
    at = λ u of at. subst (λ (x : List (Seat × Seat)). IsAt search x child.question u) (sym f) (subst (λ (x : Path). IsAt search node.pair_path x u) (sym e) at);
    on = λ u of at. subst (λ (x : List (Seat × Seat)). Follows search x child.question u) (sym f) (subst (λ (x : Path). Follows search node.pair_path x u) (sym e) at);
    fits = tt;
  },
  tt,
)

pub opened_holds : (search : Search) (node child : Node) (more : List Task) → more ≡ task.Visit child ∷ [] → child.question ≡ node.question → AllByRecursion (Needs search) more → StandsIn search node.question
opened_holds search node child more m e all = subst (StandsIn search) e (subst (AllByRecursion (Needs search)) m all).0

pub none_lead : (search : Search) (node : Node) (more : List Task) → more ≡ [] → AllByRecursion (LeadsTo search (task.Rest node)) more
none_lead search node more e = subst (AllByRecursion (LeadsTo search (task.Rest node))) (sym e) tt
