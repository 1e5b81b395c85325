-- The tasks of the step of two calls.
use Rattle.std.proofs.Common.{◌≡◌, inl, inr, Bool, true, false, List, [], ◌∷◌, ◌++◌, map, Some, refl, sym, ap, ◌∙◌, subst, append_assoc, append-nil}
use Rattle.std.specs.List.{AllByRecursion}
use Rattle.ac_forms.specs.ListMembers.{IsAmong}
use Rattle.ac_syntax.specs.declared.tree.Order.{Order}
use Rattle.ac_claims_paths.specs.BranchPaths.{onto}
use Rattle.ac_claims_paths.specs.PathSteps.{branches}
use Rattle.ac_claims_paths.specs.WellFormedPaths.{AllFormed, HasModuli, IsFormed}
use Rattle.ac_claims_paths.specs.declared.path.Branch.{Branch}
use Rattle.ac_claims_paths.specs.declared.path.Path.{Path}
use Rattle.ac_claims_paths.specs.declared.path.Seat.{Seat}
use Rattle.ac_claims.specs.declared.types.Plan.{Plan}
use Rattle.ac_unfold.specs.UnfoldQuestions.{AreTwoCalls}
use Rattle.ac_unfold.specs.KillCuts.{IsStep}
use Rattle.ac_unfold.specs.PlanResults.{judge_of, IsMade}
use Rattle.ac_unfold.specs.BrokenPathResults.{IsAt, IsKindThere}
use Rattle.ac_unfold.specs.SearchPlanStops.{MayStep}
use Rattle.ac_unfold.specs.UnbrokenResults.{StandsIn}
use Rattle.ac_unfold.specs.UnfoldStops.{Follows}
use Rattle.ac_unfold.specs.UnfoldTasks.{AreVisits, HasStep, Needs, IsChild, IsVisit, LeadsTo, MakeAll, Makes, MakesOne, Unfolds}
use Rattle.ac_unfold.specs.declared.ends.Search.{Search}
use Rattle.ac_unfold.specs.declared.kinds.Next.TheVariants as next
use Rattle.ac_unfold.specs.declared.node.Node.{Node}
use Rattle.ac_unfold.specs.declared.tasks.Task.{Task}
use Rattle.ac_unfold.specs.declared.tasks.Task.TheVariants as task
use Rattle.ac_unfold.proofs.Coming.{behind_call, in_middle, is_past}
use Rattle.ac_unfold.proofs.Places.{call_follows, on_from}
use Rattle.ac_unfold.proofs.Stepping.{serve_more, serve_none, step_made, ServeBranches}
use Rattle.ac_unfold.proofs.TaskRuns.{all_join}
use Rattle.ac_unfold.proofs.Unbroken.{calls_stand}

-- ---- visits

visit_is : (node : Node) (b : Branch) (t : Task) → IsVisit node b t → (child : Node) × IsChild node b child × (t ≡ task.Visit child)
visit_is node b (task.Visit child) h = (child, h, refl)
visit_is node b (task.Rest n) h = absurd h
visit_is node b (task.Case n case) h = absurd h
visit_is node b (task.Outside n case number) h = absurd h
visit_is node b (task.Kills n case number) h = absurd h
visit_is node b (task.Cut at) h = absurd h
visit_is node b (task.Step order around) h = absurd h
visit_is node b (task.Branch embedding row around) h = absurd h

pub visits_none : (node : Node) → AreVisits node [] []
visits_none node = tt

pub visits_more : (node child : Node) (bs : List Branch) (ts : List Task) (b : Branch) → AreVisits node bs ts → IsChild node b child → AreVisits node (bs ++ b ∷ []) (ts ++ task.Visit child ∷ [])
visits_more node child [] [] b h k = (k, tt)
visits_more node child [] (t ∷ ts) b h k = absurd h
visits_more node child (c ∷ bs) [] b h k = absurd h
visits_more node child (c ∷ bs) (t ∷ ts) b h k = (h.0, visits_more node child bs ts b h.1 k)

-- ---- where they stand

visit_leads : (search : Search) (node child : Node) (order : Order) (found : List Path) (b : Branch) → IsKindThere search node.question (next.Calls order) → MayStep search node.question order → branches (judge_of search) order node.question ≡ Some found → IsAmong (onto node.question b) found
    → IsChild node b child → LeadsTo search (task.Visit node) (task.Visit child)
visit_leads search node child order found b kind may is among k = record {
  at = λ u of at.
      subst (λ (x : List (Seat × Seat)). IsAt search x child.question u) (sym k.pair_path)
      (subst (λ (x : Path). IsAt search (node.pair_path ++ (b.left, b.right) ∷ []) x u) (sym k.question)
      (behind_call search node.pair_path node.question order found (onto node.question b) u of kind is among refl (is_past search node.pair_path node.question u may.unclaimed.none at)));
  on = λ u of at.
      subst (λ (x : List (Seat × Seat)). Follows search x child.question u) (sym k.pair_path)
      (subst (λ (x : Path). Follows search (node.pair_path ++ (b.left, b.right) ∷ []) x u) (sym k.question)
      (call_follows search node.pair_path node.question order found (onto node.question b) u of kind is among (on_from search node.pair_path node.question u may.unclaimed.none at)));
  fits = tt;
}

visits_lead : (search : Search) (node : Node) (order : Order) (xs ys : List Branch) (ts : List Task) → IsKindThere search node.question (next.Calls order) → MayStep search node.question order → Some (map (onto node.question) (xs ++ ys)) ≡ branches (judge_of search) order node.question
    → AreVisits node ys ts → AllByRecursion (LeadsTo search (task.Visit node)) ts
visits_lead search node order xs [] [] kind may is h = tt
visits_lead search node order xs [] (t ∷ ts) kind may is h = absurd h
visits_lead search node order xs (b ∷ ys) [] kind may is h = absurd h
visits_lead search node order xs (b ∷ ys) (t ∷ ts) kind may is h =
    let q = node.question in
    let v = visit_is node b t h.0 in (
      subst (LeadsTo search (task.Visit node)) (sym v.2) (visit_leads search node v.0 order (map (onto q) (xs ++ b ∷ ys)) b kind may (sym is) (in_middle q xs ys b) v.1),
      visits_lead search node order (xs ++ b ∷ []) ys ts kind may (ap (λ (zs : List Branch). Some (map (onto q) zs)) (append_assoc xs (b ∷ []) ys) ∙ is) h.1,
    )

-- a step that is closed stands nowhere
pub step_leads : (search : Search) (t : Task) (order : Order) (more made : List Task) (before after : List Plan) → HasStep search order more made before after → AllByRecursion (LeadsTo search t) more → AllByRecursion (LeadsTo search t) made
step_leads search t order more made before after h all = by search.making refl
  where
    by : (b : Bool) → search.making ≡ b → AllByRecursion (LeadsTo search t) made
    by true e =
        let s = h.making e in
        let last : LeadsTo search t (task.Step order s.around) = record { at = λ u of x. tt; on = λ u of x. tt; fits = tt } in
        subst (AllByRecursion (LeadsTo search t)) (sym s.made_is) (all_join (LeadsTo search t) more (task.Step order s.around ∷ []) all (last, tt))
    by false e = subst (AllByRecursion (LeadsTo search t)) (sym (h.finding e)) all

-- ---- what they make

visits_serve : (search : Search) (node : Node) (xs ys : List Branch) (plans last : List Plan) (ts rest : List Task) → AreVisits node ys ts → ServeBranches search node.embedding node.question xs plans → MakeAll search (ts ++ rest) plans last
    → (all : List Plan) × ServeBranches search node.embedding node.question (xs ++ ys) all × MakeAll search rest all last
visits_serve search node xs [] plans last [] rest h s run = (plans, subst (λ (zs : List Branch). ServeBranches search node.embedding node.question zs plans) (sym (append-nil xs)) s, run)
visits_serve search node xs [] plans last (t ∷ ts) rest h s run = absurd h
visits_serve search node xs (b ∷ ys) plans last [] rest h s run = absurd h
visits_serve search node xs (b ∷ ys) plans last (t ∷ ts) rest h s run =
    let v = visit_is node b t h.0 in
    let one : MakesOne (IsMade search v.0.embedding v.0.question) plans run.0 = subst (λ (x : Task). Makes search x plans run.0) v.2 run.1 in
    let behind : MakeAll search (ts ++ rest) (plans ++ one.plan ∷ []) last = subst (λ (ps : List Plan). MakeAll search (ts ++ rest) ps last) one.is run.2 in
    let more = serve_more search node.embedding node.question xs plans b v.0 one.plan s v.1.question v.1.embedding one.kind in
    let k = visits_serve search node (xs ++ b ∷ []) ys (plans ++ one.plan ∷ []) last ts rest h.1 more behind in
    (k.0, subst (λ (zs : List Branch). ServeBranches search node.embedding node.question zs k.0) (append_assoc xs (b ∷ []) ys) k.1, k.2)

-- the plan of the step
pub step_makes : (search : Search) (node : Node) (order : Order) (found : List Branch) (all before last : List Plan) (around : List Plan) → ServeBranches search node.embedding node.question found all → around ≡ before → MayStep search node.question order
    → Some (map (onto node.question) found) ≡ branches (judge_of search) order node.question → (HasModuli (judge_of search).left → HasModuli (judge_of search).right → IsFormed (judge_of search).params node.question → AllFormed (judge_of search).params (map (onto node.question) found))
    → MakesOne (IsStep order all) around last → MakesOne (IsMade search node.embedding node.question) before last
step_makes search node order found all before last around serve e may is formed one = record {
  plan = one.plan;
  kind = step_made search node.embedding node.question order found all (Some one.plan) serve one.kind is formed may;
  is = one.is ∙ ap (λ (ps : List Plan). ps ++ one.plan ∷ []) e;
}

-- ---- what has to stand

visits_hold : (search : Search) (node : Node) (ys : List Branch) (ts : List Task) → AreVisits node ys ts → AllByRecursion (Needs search) ts → (b : Branch) → IsAmong b ys → StandsIn search (onto node.question b)
visits_hold search node [] [] h all b i = absurd i
visits_hold search node [] (t ∷ ts) h all b i = absurd h
visits_hold search node (c ∷ ys) [] h all b i = absurd h
visits_hold search node (c ∷ ys) (t ∷ ts) h all b (inl e) =
    let v = visit_is node c t h.0 in
    let stands : StandsIn search v.0.question = subst (Needs search) v.2 all.0 in
    subst (StandsIn search) (v.1.question ∙ ap (onto node.question) (sym e)) stands
visits_hold search node (c ∷ ys) (t ∷ ts) h all b (inr i) = visits_hold search node ys ts h.1 all.1 b i

-- ---- the step of two calls

pub calls_unfold : (search : Search) (node : Node) (order : Order) (found : List Branch) (visits more : List Task) (before after : List Plan) → IsKindThere search node.question (next.Calls order) → AreTwoCalls (judge_of search) node.question → MayStep search node.question order
    → Some (map (onto node.question) found) ≡ branches (judge_of search) order node.question → (HasModuli (judge_of search).left → HasModuli (judge_of search).right → IsFormed (judge_of search).params node.question → AllFormed (judge_of search).params (map (onto node.question) found))
    → AreVisits node found visits → HasStep search order visits more before after → Unfolds search (task.Visit node) more before after
calls_unfold search node order found visits more before after kind two may is formed are h = record {
  lead = step_leads search (task.Visit node) order visits more before after h (visits_lead search node order [] found visits kind may is are);
  makes = λ making last run.
      let s = h.making making in
      let run' : MakeAll search (visits ++ task.Step order s.around ∷ []) [] last = subst (λ (ps : List Plan). MakeAll search (visits ++ task.Step order s.around ∷ []) ps last) s.none (subst (λ (ts : List Task). MakeAll search ts after last) s.made_is run) in
      let k = visits_serve search node [] found [] last visits (task.Step order s.around ∷ []) are (serve_none search node.embedding node.question) run' in
      let one : MakesOne (IsStep order k.0) s.around.items last = subst (λ (ps : List Plan). MakesOne (IsStep order k.0) s.around.items ps) (sym k.2.2) k.2.1 in
      step_makes search node order found k.0 before last s.around.items k.1 s.around_is may is formed one;
  holds = λ finding all. calls_stand search node.question order found kind two may.unclaimed.none is (visits_hold search node found visits are (subst (AllByRecursion (Needs search)) (h.finding finding) all));
}
