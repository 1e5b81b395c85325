-- What comes of a task, as what comes of the call that does it.
use Rattle.std.proofs.Common.{◌≡◌, true, false, List, [], ◌∷◌, ◌++◌, Option, Some, None, Bor, refl, sym, ◌∙◌, subst}
use Rattle.std.specs.Prelude.{Result, Ok, Err, IfErr, IfOk, IfSome, OnOk, Vec}
use Rattle.std.specs.declared.alloc.AllocError.{AllocError}
use Rattle.std.specs.declared.alloc.Global.{Global}
use Rattle.std.specs.List.{AllByRecursion}
use Rattle.ac_forms.specs.declared.conj.Conj.{Conj}
use Rattle.ac_claims.specs.declared.types.Plan.{Plan}
use Rattle.ac_flow.specs.declared.types.Case.{Case}
use Rattle.ac_widen_programs.specs.PairPaths.{Unfolding}
use Rattle.ac_unfold.specs.EndResults.{FullUnder, IsNeverFull}
use Rattle.ac_unfold.specs.PlanGaps.{FindsElse}
use Rattle.ac_unfold.specs.PlanResults.{IsMade}
use Rattle.ac_unfold.specs.BrokenPathResults.{AddsBroken}
use Rattle.ac_unfold.specs.UnfoldPaths.{BrokenPathsOf}
use Rattle.ac_unfold.specs.UnbrokenResults.{FindsNone}
use Rattle.ac_unfold.specs.UnfoldStops.{HandsBack}
use Rattle.ac_unfold.specs.UnfoldTasks.{onward_of, AreRests, Ends, Goes, Continues, Needs, IsStopFrom, LeadsTo, MakeAll, Makes, MakesOne, MovesOn, Place, Unfolds}
use Rattle.ac_unfold.specs.declared.ends.Search.{Search}
use Rattle.ac_unfold.specs.declared.node.Node.{Node}
use Rattle.ac_unfold.specs.declared.tasks.Task.{Task}
use Rattle.ac_unfold.specs.declared.tasks.Task.TheVariants as task
use Rattle.ac_unfold.specs.declared.types.UnfoldStop.{UnfoldStop}
use Rattle.ac_unfold.specs.declared.types.UnfoldStop.TheVariants.{Overflow, Spent, Paths, Memory}
use Rattle.ac_unfold.proofs.Coming.{broken_none}
use Rattle.ac_unfold.proofs.ReadTasks.{case_rests}
use Rattle.ac_unfold.proofs.Results.{at_some}
use Rattle.ac_unfold.proofs.Unbroken.{not_making}

-- ---- ends

ended_goes : (search : Search) (t : Task) (made : Result (Option Plan) UnfoldStop) (Kind : Plan → Type 0) (before after : List Plan) (old new : BrokenPathsOf) (goes : Option (Vec Task Global)) → Ends search made before after goes → ((ps qs : List Plan) → MakesOne Kind ps qs → Makes search t ps qs)
    → IfOk made (λ o. FindsElse search o old new) → IfOk made (λ o. IfSome o Kind) → OnOk made (FindsNone search old new → Needs search t) → OnOk made (AddsBroken search (Place search t) old new) → Goes search t before after old new goes
ended_goes search t (Ok (Some p)) Kind before after old new (Some more) ends makes missing kind holds broken = record {
  lead = subst (AllByRecursion (LeadsTo search t)) (sym ends.0) tt;
  makes = λ making last run. let e : last ≡ after = subst (λ (ts : List Task). MakeAll search ts after last) ends.0 run in makes before last (record { plan = p; kind = kind; is = e ∙ ends.1 });
  holds = λ none all. holds none;
  broken = broken;
}
ended_goes search t (Ok (Some p)) Kind before after old new None ends makes missing kind holds broken = absurd ends
ended_goes search t (Ok None) Kind before after old new (Some more) ends makes missing kind holds broken = record {
  lead = subst (AllByRecursion (LeadsTo search t)) (sym ends.0) tt;
  makes = λ making last run. let z : true ≡ false = sym making ∙ ends.1 in absurd cc;
  holds = λ none all. holds none;
  broken = broken;
}
ended_goes search t (Ok None) Kind before after old new None ends makes missing kind holds broken = record { making = ends; found = missing ends refl; broken = broken }
ended_goes search t (Err stop) Kind before after old new goes ends makes missing kind holds broken = absurd ends

pub all_ended : (search : Search) (t : Task) (res : Result (Option (Vec Task Global)) UnfoldStop) (made : Result (Option Plan) UnfoldStop) (Kind : Plan → Type 0) (before after : List Plan) (old new : BrokenPathsOf) → IfOk res (Ends search made before after) → ((ps qs : List Plan) → MakesOne Kind ps qs → Makes search t ps qs)
    → IfOk made (λ o. FindsElse search o old new) → IfOk made (λ o. IfSome o Kind) → OnOk made (FindsNone search old new → Needs search t) → OnOk made (AddsBroken search (Place search t) old new) → IfOk res (Goes search t before after old new)
all_ended search t (Ok goes) made Kind before after old new ends makes missing kind holds broken = ended_goes search t made Kind before after old new goes ends makes missing kind holds broken
all_ended search t (Err stop) made Kind before after old new ends makes missing kind holds broken = tt

-- it stops as the end does
pub ended_stops : (res : Result (Option (Vec Task Global)) UnfoldStop) (made : Result (Option Plan) UnfoldStop) (P : UnfoldStop → Type 0) → ((want : AllocError) → P (Memory want)) → IfErr res (IsStopFrom made) → IfErr made P → IfErr res P
ended_stops (Ok goes) made P memory is h = tt
ended_stops (Err (Overflow q)) made P memory is h = subst (λ (r : Result (Option Plan) UnfoldStop). IfErr r P) is h
ended_stops (Err (Spent q cost)) made P memory is h = subst (λ (r : Result (Option Plan) UnfoldStop). IfErr r P) is h
ended_stops (Err (Paths found)) made P memory is h = subst (λ (r : Result (Option Plan) UnfoldStop). IfErr r P) is h
ended_stops (Err (Memory want)) made P memory is h = memory want

-- ---- further tasks

pub unfolds_goes : (search : Search) (t : Task) (more : List Task) (before after : List Plan) (old new : BrokenPathsOf) → new ≡ old → Unfolds search t more before after → Continues search t more before after old new
unfolds_goes search t more before after old new e h = record { lead = h.lead; makes = h.makes; holds = λ none all. h.holds none.finding all; broken = broken_none search (Place search t) old new e }

pub onward_goes : (search : Search) (t : Task) (res : Result (Option (Vec Task Global)) UnfoldStop) (more : Result (Vec Task Global) UnfoldStop) (before after : List Plan) (old new : BrokenPathsOf) → res ≡ onward_of more → new ≡ old → IfOk more (λ m. Unfolds search t m.items before after) → IfOk res (Goes search t before after old new)
onward_goes search t res (Ok more) before after old new e f h = subst (λ (r : Result (Option (Vec Task Global)) UnfoldStop). IfOk r (Goes search t before after old new)) (sym e) (unfolds_goes search t more.items before after old new f h)
onward_goes search t res (Err stop) before after old new e f h = subst (λ (r : Result (Option (Vec Task Global)) UnfoldStop). IfOk r (Goes search t before after old new)) (sym e) tt

pub onward_stops : (res : Result (Option (Vec Task Global)) UnfoldStop) (more : Result (Vec Task Global) UnfoldStop) (P : UnfoldStop → Type 0) → res ≡ onward_of more → IfErr more P → IfErr res P
onward_stops res (Ok more) P e h = subst (λ (r : Result (Option (Vec Task Global)) UnfoldStop). IfErr r P) (sym e) tt
onward_stops res (Err stop) P e h = subst (λ (r : Result (Option (Vec Task Global)) UnfoldStop). IfErr r P) (sym e) h

-- no paths are counted there
pub never_full : (search : Search) (There : Unfolding → Type 0) (before : BrokenPathsOf) (stop : UnfoldStop) → IsNeverFull stop → FullUnder search There before stop
never_full search There before (Overflow q) h = tt
never_full search There before (Spent q cost) h = tt
never_full search There before (Paths found) h = absurd h
never_full search There before (Memory want) h = tt

pub onward_full : (search : Search) (There : Unfolding → Type 0) (before : BrokenPathsOf) (res : Result (Option (Vec Task Global)) UnfoldStop) (more : Result (Vec Task Global) UnfoldStop) → res ≡ onward_of more → IfErr more IsNeverFull → IfErr res (FullUnder search There before)
onward_full search There before res (Ok more) e h = subst (λ (r : Result (Option (Vec Task Global)) UnfoldStop). IfErr r (FullUnder search There before)) (sym e) tt
onward_full search There before res (Err stop) e h = subst (λ (r : Result (Option (Vec Task Global)) UnfoldStop). IfErr r (FullUnder search There before)) (sym e) (never_full search There before stop h)

-- nor where a question is handed back
pub handed_never : (c : Conj) (Why : Type 0) (stop : UnfoldStop) → HandsBack c Why stop → IsNeverFull stop
handed_never c Why (Overflow q) h = tt
handed_never c Why (Spent q cost) h = tt
handed_never c Why (Paths found) h = h
handed_never c Why (Memory want) h = tt

-- ---- an end, by its cases

pub ends_some : (search : Search) (made : Result (Option Plan) UnfoldStop) (o : Option Plan) (t : Plan) (before after : List Plan) (more : Vec Task Global) → made ≡ Ok o → o ≡ Some t → more.items ≡ [] → after ≡ before ++ t ∷ [] → Ends search made before after (Some more)
ends_some search made o t before after more e f none is =
    subst (λ (r : Result (Option Plan) UnfoldStop). Ends search r before after (Some more)) (sym e) (subst (λ (x : Option Plan). Ends search (Ok x) before after (Some more)) (sym f) (none, is))

pub ends_none : (search : Search) (made : Result (Option Plan) UnfoldStop) (o : Option Plan) (before after : List Plan) → made ≡ Ok o → o ≡ None → search.making ≡ true → Ends search made before after None
ends_none search made o before after e f on =
    subst (λ (r : Result (Option Plan) UnfoldStop). Ends search r before after None) (sym e) (subst (λ (x : Option Plan). Ends search (Ok x) before after None) (sym f) on)

pub ends_off : (search : Search) (made : Result (Option Plan) UnfoldStop) (o : Option Plan) (before after : List Plan) (more : Vec Task Global) → made ≡ Ok o → o ≡ None → more.items ≡ [] → search.making ≡ false → Ends search made before after (Some more)
ends_off search made o before after more e f none off =
    subst (λ (r : Result (Option Plan) UnfoldStop). Ends search r before after (Some more)) (sym e) (subst (λ (x : Option Plan). Ends search (Ok x) before after (Some more)) (sym f) (none, off))

pub stop_itself : (made : Result (Option Plan) UnfoldStop) (stop : UnfoldStop) → made ≡ Err stop → IsStopFrom made stop
stop_itself made (Overflow q) e = e
stop_itself made (Spent q cost) e = e
stop_itself made (Paths found) e = e
stop_itself made (Memory want) e = tt

-- ---- what is left of a case

pub all_rests : (search : Search) (node : Node) (case : Bor Case) (res : Result (Vec Task Global) UnfoldStop) → search.making ≡ false → IfOk res (λ made. AreRests search node case.now.pieces made.items) → IfOk res (λ more. MovesOn search (task.Case node case) more.items)
all_rests search node case (Ok more) off h = case_rests search node case more.items off h
all_rests search node case (Err stop) off h = tt

pub onward_moves : (search : Search) (t : Task) (res : Result (Option (Vec Task Global)) UnfoldStop) (more : Result (Vec Task Global) UnfoldStop) (plans : List Plan) (old new : BrokenPathsOf) → res ≡ onward_of more → new ≡ old → IfOk more (λ m. MovesOn search t m.items) → IfOk res (Goes search t plans plans old new)
onward_moves search t res (Ok more) plans old new e f h = onward_goes search t res (Ok more) plans plans old new e f (h plans)
onward_moves search t res (Err stop) plans old new e f h = onward_goes search t res (Err stop) plans plans old new e f tt

pub if_all : {A : Type 0} (made : Result A UnfoldStop) (P : Type 0) → OnOk made (P → Unit {0})
if_all (Ok x) P = λ p. tt
if_all (Err stop) P = tt

-- ---- a tabled claim that is hit

pub tabled_goes : (search : Search) (node : Node) (res : Result (Option (Vec Task Global)) UnfoldStop) (t : Plan) (o : Option Plan) (before after : List Plan) (old new : BrokenPathsOf) → o ≡ Some t → IfSome o (λ plan. search.making ≡ true) → IfSome o (IsMade search node.embedding node.question) → new ≡ old
    → IfOk res (Ends search (Ok (Some t)) before after) → IfOk res (Goes search (task.Visit node) before after old new)
tabled_goes search node res t o before after old new is making made e ends =
    let on : search.making ≡ true = at_some o t (λ plan. search.making ≡ true) is making in
    let kind : IsMade search node.embedding node.question t = at_some o t (IsMade search node.embedding node.question) is made in
    all_ended search (task.Visit node) res (Ok (Some t)) (IsMade search node.embedding node.question) before after old new ends (λ ps qs one. one) (λ making none. absurd cc) kind (λ none. absurd (not_making search old new on none)) (broken_none search (Place search (task.Visit node)) old new e)
