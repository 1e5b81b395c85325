-- Tasks on a stack, one after the other.
use Rattle.std.proofs.Common.{◌≡◌, true, List, [], ◌∷◌, ◌++◌, length, Option, Some, None, refl, sym, ap, ◌∙◌, subst, arith, append_assoc, append-nil, length-append}
use Rattle.std.proofs.lemmas.List.{reverse-append}
use Rattle.std.specs.Prelude.{IfSome, Vec, option_to_list, reverse}
use Rattle.std.specs.declared.alloc.Global.{Global}
use Rattle.std.specs.List.{AllByRecursion}
use Rattle.ac_forms.specs.declared.row.Row.{Row}
use Rattle.ac_claims.specs.declared.types.Plan.{Plan}
use Rattle.ac_claims_plans.specs.BranchSides.{BranchServesAnywhere}
use Rattle.ac_claims_plans.specs.PlanAcceptance.{BranchesTo}
use Rattle.ac_claims_plans.specs.declared.embedding.Embedding.{Embedding}
use Rattle.ac_unfold.specs.PlanGaps.{FindsElse}
use Rattle.ac_unfold.specs.PlanResults.{IsMade}
use Rattle.ac_widen_programs.specs.PairPaths.{Unfolding}
use Rattle.ac_unfold.specs.BrokenPathResults.{AddsBroken, IsOf}
use Rattle.ac_unfold.specs.UnfoldPaths.{BrokenPathsOf}
use Rattle.ac_unfold.specs.UnbrokenResults.{FindsNone, StandsIn}
use Rattle.ac_unfold.specs.UnfoldTasks.{Breaks, ClosesBranch, Continues, Goes, Needs, IsBranch, IsLast, IsReady, LeadsTo, MakeAll, Makes, MakesOne, Place}
use Rattle.ac_unfold.specs.declared.ends.Search.{Search}
use Rattle.ac_unfold.specs.declared.node.Node.{Node}
use Rattle.ac_unfold.specs.declared.tasks.Task.{Task}
use Rattle.ac_unfold.specs.declared.tasks.Task.TheVariants as task
use Rattle.ac_unfold.proofs.Coming.{broken_from, broken_kept, broken_none, broken_then}
use Rattle.ac_unfold.proofs.Unbroken.{none_after, none_before, not_making}

-- ---- lists

pub turned : (xs : List Task) (t : Task) → reverse (xs ++ t ∷ []) ≡ t ∷ reverse xs
turned xs t = reverse-append xs (t ∷ [])

pub taken : {A : Type 0} (xs ys : List A) (o : Option A) (x : A) → xs ≡ ys ++ option_to_list o → o ≡ Some x → xs ≡ ys ++ x ∷ []
taken xs ys o x e is = e ∙ ap (λ z. ys ++ option_to_list z) is

pub all_split : {A : Type 0} (P : A → Type 0) (xs ys : List A) → AllByRecursion P (xs ++ ys) → AllByRecursion P xs × AllByRecursion P ys
all_split P [] ys h = (tt, h)
all_split P (x ∷ xs) ys h = let k = all_split P xs ys h.1 in ((h.0, k.0), k.1)

pub all_join : {A : Type 0} (P : A → Type 0) (xs ys : List A) → AllByRecursion P xs → AllByRecursion P ys → AllByRecursion P (xs ++ ys)
all_join P [] ys h k = k
all_join P (x ∷ xs) ys h k = (h.0, all_join P xs ys h.1 k)

all_map : {A : Type 0} (P Q : A → Type 0) → ((x : A) → P x → Q x) → (xs : List A) → AllByRecursion P xs → AllByRecursion Q xs
all_map P Q f [] h = tt
all_map P Q f (x ∷ xs) h = (f x h.0, all_map P Q f xs h.1)

pub two_more : {A : Type 0} (xs ys zs : List A) (x y : A) → ys ≡ xs ++ x ∷ [] → zs ≡ ys ++ y ∷ [] → zs ≡ xs ++ x ∷ y ∷ []
two_more xs ys zs x y e f = f ∙ ap (λ us. us ++ y ∷ []) e ∙ append_assoc xs (x ∷ []) (y ∷ [])

-- the last item, and those before it
pub last_is : (xs ys : List Plan) (x y : Plan) → xs ++ x ∷ [] ≡ ys ++ y ∷ [] → (xs ≡ ys) × (x ≡ y)
last_is [] [] x y e = let k : x ≡ y = cc in (refl, k)
last_is [] (z ∷ ys) x y e = let l = ap length e in absurd (omega (arith, l, length-append ys (y ∷ [])))
last_is (z ∷ xs) [] x y e = let l = ap length e in absurd (omega (arith, l, length-append xs (x ∷ [])))
last_is (z ∷ xs) (w ∷ ys) x y e =
    let k : xs ++ x ∷ [] ≡ ys ++ y ∷ [] = cc in
    let r = last_is xs ys x y k in
    let m : xs ≡ ys = r.0 in
    let n : z ∷ xs ≡ w ∷ ys = cc in
    (n, r.1)

-- ---- the stack

-- the tasks that are put already, over those before
pub record Putting (all left before now : List Task) : Type 0 where
  pub done : List Task
  pub are : all ≡ left ++ done
  pub on : reverse now ≡ done ++ reverse before

pub putting_start : (all before : List Task) → Putting all all before before
putting_start all before = record { done = []; are = sym (append-nil all); on = refl }

pub putting_next : (all left next before now after : List Task) (t : Task) → Putting all left before now → left ≡ next ++ t ∷ [] → after ≡ now ++ t ∷ [] → Putting all next before after
putting_next all left next before now after t h e f = record {
  done = t ∷ h.done;
  are = h.are ∙ ap (λ (xs : List Task). xs ++ h.done) e ∙ append_assoc next (t ∷ []) h.done;
  on = ap reverse f ∙ turned now t ∙ ap (λ (xs : List Task). t ∷ xs) h.on;
}

pub putting_end : (all left before now : List Task) → Putting all left before now → left ≡ [] → reverse now ≡ all ++ reverse before
putting_end all left before now h e = h.on ∙ ap (λ (xs : List Task). xs ++ reverse before) (sym (h.are ∙ ap (λ (xs : List Task). xs ++ h.done) e))

-- ---- plans

pub make_split : (search : Search) (xs ys : List Task) (before after : List Plan) → MakeAll search (xs ++ ys) before after → (next : List Plan) × MakeAll search xs before next × MakeAll search ys next after
make_split search [] ys before after h = (before, refl, h)
make_split search (t ∷ xs) ys before after h = let k = make_split search xs ys h.0 after h.2 in (k.0, (h.0, h.1, k.1), k.2)

-- the plan of one task alone
pub make_alone : (search : Search) (t : Task) (before after : List Plan) → MakeAll search (t ∷ []) before after → Makes search t before after
make_alone search t before after h = subst (Makes search t before) (sym h.2) h.1

pub made_last : (Kind : Plan → Type 0) (plans rest : List Plan) (t : Plan) → MakesOne Kind [] plans → plans ≡ rest ++ t ∷ [] → Kind t
made_last Kind plans rest t h e = subst Kind (last_is [] rest h.plan t (sym h.is ∙ e)).1 h.kind

pub made_some : (Kind : Plan → Type 0) (plans : List Plan) → MakesOne Kind [] plans → ¬ (plans ≡ [])
made_some Kind plans h e = let l = ap length (sym h.is ∙ e) in absurd (omega (arith, l))

-- ---- what leads on

pub leads_itself : (search : Search) (t : Task) → IsReady search t → LeadsTo search t t
leads_itself search t fits = record { at = λ u of x. x; on = λ u of x. x; fits = fits }

leads_through : (search : Search) (a b c : Task) → LeadsTo search a b → LeadsTo search b c → LeadsTo search a c
leads_through search a b c h k = record { at = λ u of x. k.at u of (h.at u of x); on = λ u of x. k.on u of (h.on u of x); fits = k.fits }

pub place_leads : (search : Search) (a b : Task) → LeadsTo search a b → (u : Unfolding) → IsOf search u → Place search a u → Place search b u
place_leads search a b h u of at = (h.at u of at.0, h.on u of at.1)

-- ---- an unfolding under way

-- these tasks are left of the visit of a node, with these plans and paths
pub record UnderWay (search : Search) (root : Node) (stack : List Task) (plans : List Plan) (before now : BrokenPathsOf) : Type 0 where
  pub makes : search.making ≡ true → (last : List Plan) → MakeAll search stack plans last → MakesOne (IsMade search root.embedding root.question) [] last
  pub holds : FindsNone search before now → AllByRecursion (Needs search) stack → StandsIn search root.question
  pub lead : AllByRecursion (LeadsTo search (task.Visit root)) stack
  pub broken : AddsBroken search (Place search (task.Visit root)) before now

pub under_way : (search : Search) (root : Node) (plans : List Plan) (before now : BrokenPathsOf) → plans ≡ [] → now ≡ before → UnderWay search root (task.Visit root ∷ []) plans before now
under_way search root plans before now none e = record {
  makes = λ making last run.
      let one : MakesOne (IsMade search root.embedding root.question) plans last = make_alone search (task.Visit root) plans last run in
      subst (λ (ps : List Plan). MakesOne (IsMade search root.embedding root.question) ps last) none one;
  holds = λ none all. all.0;
  lead = (leads_itself search (task.Visit root) tt, tt);
  broken = broken_none search (Place search (task.Visit root)) before now e;
}

pub goes_under_way : (search : Search) (root : Node) (t : Task) (rest more : List Task) (plans made : List Plan) (before now new : BrokenPathsOf) → UnderWay search root (t ∷ rest) plans before now → Continues search t more plans made now new → UnderWay search root (more ++ rest) made before new
goes_under_way search root t rest more plans made before now new h g = record {
  makes = λ making last run. let k = make_split search more rest made last run in h.makes making last (k.0, g.makes making k.0 k.1, k.2);
  holds = λ none all.
      let k = all_split (Needs search) more rest all in
      let early = broken_kept search (Place search (task.Visit root)) before now h.broken in
      let late = broken_kept search (Place search t) now new g.broken in
      h.holds (none_before search before now new late none) (g.holds (none_after search before now new early none) k.0, k.1);
  lead = all_join (LeadsTo search (task.Visit root)) more rest (all_map (LeadsTo search t) (LeadsTo search (task.Visit root)) (λ x k. leads_through search (task.Visit root) t x h.lead.0 k) more g.lead) h.lead.1;
  broken = broken_then search (Place search (task.Visit root)) before now new h.broken (broken_from search (Place search (task.Visit root)) (Place search t) now new (place_leads search (task.Visit root) t h.lead.0) g.broken);
}

-- the next turn
pub under_way_next : (search : Search) (root : Node) (tasks next after : List Task) (t : Task) (o : Option Task) (goes : Option (Vec Task Global)) (more : Vec Task Global) (plans made : List Plan) (before now new : BrokenPathsOf)
    → UnderWay search root (reverse tasks) plans before now → tasks ≡ next ++ option_to_list o → o ≡ Some t → Goes search t plans made now new goes → goes ≡ Some more → reverse after ≡ more.items ++ reverse next → UnderWay search root (reverse after) made before new
under_way_next search root tasks next after t o goes more plans made before now new h e f g m put =
    let top : reverse tasks ≡ t ∷ reverse next = ap reverse (taken tasks next o t e f) ∙ turned next t in
    let on : Continues search t more.items plans made now new = subst (Goes search t plans made now new) m g in
    subst (λ (xs : List Task). UnderWay search root xs made before new) (sym put) (goes_under_way search root t (reverse next) more.items plans made before now new (subst (λ (xs : List Task). UnderWay search root xs plans before now) top h) on)

-- what is known of the task on top
pub top_leads : (search : Search) (root : Node) (tasks next : List Task) (t : Task) (o : Option Task) (plans : List Plan) (before now : BrokenPathsOf) → UnderWay search root (reverse tasks) plans before now → tasks ≡ next ++ option_to_list o → o ≡ Some t → LeadsTo search (task.Visit root) t
top_leads search root tasks next t o plans before now h e f =
    let top : reverse tasks ≡ t ∷ reverse next = ap reverse (taken tasks next o t e f) ∙ turned next t in
    (subst (AllByRecursion (LeadsTo search (task.Visit root))) top h.lead).0

-- where a path is broken
pub breaks_under_way : (search : Search) (root : Node) (t : Task) (before now new : BrokenPathsOf) → AddsBroken search (Place search (task.Visit root)) before now → LeadsTo search (task.Visit root) t → Breaks search t now new → AddsBroken search (Place search (task.Visit root)) before new
breaks_under_way search root t before now new h k b = broken_then search (Place search (task.Visit root)) before now new h (broken_from search (Place search (task.Visit root)) (Place search t) now new (place_leads search (task.Visit root) t k) b.broken)

-- ---- the plan that was made last

pub one_last : (search : Search) (plans rest : List Plan) (o : Option Plan) → search.making ≡ true → plans ≡ rest ++ option_to_list o → IfSome o (IsLast search plans)
one_last search plans rest (Some t) on e = record { making = on; rest = rest; is = e }
one_last search plans rest None on e = tt

-- ---- branches

pub branch_closed : (embedding : Embedding) (row : Row) (around before outside after : List Plan) (inside t : Plan) → before ≡ outside ++ inside ∷ [] → BranchServesAnywhere embedding row inside outside t → BranchesTo (inside ∷ outside) t.next → after ≡ around ++ t ∷ [] → ClosesBranch embedding row around before after
branch_closed embedding row around before outside after inside t e serves branches is = λ others last f.
    let same = last_is outside others inside last (sym e ∙ f) in
    let branch : IsBranch embedding row inside outside t = record { serves = serves; branches = branches } in
    let there : IsBranch embedding row last others t = subst (λ (x : Plan). IsBranch embedding row x others t) same.1 (subst (λ (xs : List Plan). IsBranch embedding row inside xs t) same.0 branch) in
    record { plan = t; kind = there; is = is }

-- there is none inside
pub branch_missing : (embedding : Embedding) (row : Row) (around before outside after : List Plan) (o : Option Plan) → length before ≡ 0 → o ≡ None → ClosesBranch embedding row around before after
branch_missing embedding row around before outside after o none e = λ others last f. let l = ap length f in absurd (omega (arith, none, l, length-append others (last ∷ [])))

-- ---- the end of an unfolding

-- no task is left
pub end_made : (search : Search) (root : Node) (tasks : List Task) (plans : List Plan) (o : Option Plan) (before now : BrokenPathsOf) → UnderWay search root (reverse tasks) plans before now → tasks ≡ [] → IfSome o (IsLast search plans) → IfSome o (IsMade search root.embedding root.question)
end_made search root tasks plans None before now h none last = tt
end_made search root tasks plans (Some t) before now h none last =
    let done : MakeAll search (reverse tasks) plans plans = subst (λ (ts : List Task). MakeAll search (reverse ts) plans plans) (sym none) refl in
    made_last (IsMade search root.embedding root.question) plans last.rest t (h.makes last.making plans done) last.is

pub end_missing : (search : Search) (root : Node) (tasks : List Task) (plans : List Plan) (o : Option Plan) (before now : BrokenPathsOf) → UnderWay search root (reverse tasks) plans before now → tasks ≡ [] → (search.making ≡ true → o ≡ None → plans ≡ []) → FindsElse search o before now
end_missing search root tasks plans o before now h none last making e =
    let done : MakeAll search (reverse tasks) plans plans = subst (λ (ts : List Task). MakeAll search (reverse ts) plans plans) (sym none) refl in
    absurd (made_some (IsMade search root.embedding root.question) plans (h.makes making plans done) (last making e))

pub end_stands : (search : Search) (root : Node) (tasks : List Task) (plans : List Plan) (before now : BrokenPathsOf) → UnderWay search root (reverse tasks) plans before now → tasks ≡ [] → FindsNone search before now → StandsIn search root.question
end_stands search root tasks plans before now h none found = h.holds found (subst (λ (ts : List Task). AllByRecursion (Needs search) (reverse ts)) (sym none) tt)

-- a path is broken
pub breaks_missing : (search : Search) (root : Node) (t : Task) (before now new : BrokenPathsOf) → AddsBroken search (Place search (task.Visit root)) before now → Breaks search t now new → (o : Option Plan) → FindsElse search o before new
breaks_missing search root t before now new h b o making none =
    let k = broken_kept search (Place search (task.Visit root)) before now h in
    let l = b.found in
    omega (arith, k, l)

pub breaks_stand : (search : Search) (root : Node) (t : Task) (before new now : BrokenPathsOf) → Breaks search t now new → FindsNone search before new → StandsIn search root.question
breaks_stand search root t before new now b none = absurd (not_making search before new b.making none)
