-- Where the plans of an unfolding stop.
use Rattle.std.proofs.Common.{◌≡◌, ℕ, Bool, true, false, cond, List, [], ◌∷◌, ◌++◌, map, Option, Some, None, refl, sym, ap, ◌∙◌, subst}
use Rattle.std.specs.Prelude.{is_some, option_and_then}
use Rattle.std.specs.List.{AllByRecursion}
use Rattle.ac_forms.specs.declared.row.Row.{Row}
use Rattle.ac_syntax.specs.declared.tree.Order.{Order}
use Rattle.ac_syntax.specs.declared.tree.Order.TheVariants.{Keep}
use Rattle.ac_syntax.specs.declared.tree.Position.{Position}
use Rattle.ac_syntax.specs.declared.tree.Position.TheVariants as position
use Rattle.ac_poly.specs.Model.{model_of}
use Rattle.ac_poly.specs.declared.types.Model.{Model}
use Rattle.ac_poly.specs.declared.types.NodeModel.{NodeModel}
use Rattle.ac_poly.specs.declared.types.NodeModel.TheVariants as node
use Rattle.ac_omega_steps.specs.declared.choose.Choice.{Choice}
use Rattle.ac_base.proofs.Options.{bind-some}
use Rattle.ac_claims_paths.specs.BranchPaths.{onto}
use Rattle.ac_claims_paths.specs.PathSteps.{Pairing, branches}
use Rattle.ac_claims_paths.specs.CopyKills.{case_width}
use Rattle.ac_claims_paths.specs.ModelPositions.{CallAt, call_at, call_of, cell_read, node_at, read_of}
use Rattle.ac_claims_paths.specs.declared.path.Assumed.{Assumed}
use Rattle.ac_claims_paths.specs.declared.path.Branch.{Branch}
use Rattle.ac_claims_paths.specs.declared.path.Path.{Path}
use Rattle.ac_claims_paths.specs.declared.places.CellForms.{CellForms}
use Rattle.ac_claims.specs.declared.types.Claim.{Claim}
use Rattle.ac_claims.specs.declared.types.Kill.{Kill}
use Rattle.ac_claims.specs.declared.types.Plan.{Plan}
use Rattle.ac_claims.specs.declared.types.PlanNext.{PlanNext}
use Rattle.ac_claims.specs.declared.types.PlanNext.TheVariants.{Killed}
use Rattle.ac_flow.specs.KillAcceptance.{behind}
use Rattle.ac_claims_plans.specs.PlanAcceptance.{BranchesTo}
use Rattle.ac_graph.specs.PairMoves.{pairing_of}
use Rattle.ac_widen_programs.specs.PairSetting.{may_swap, order_at}
use Rattle.ac_unfold_plans.specs.PlanStops.{positions_at, programs_of}
use Rattle.ac_unfold_plans.specs.ArgumentOrders.{order_of}
use Rattle.ac_unfold_plans.specs.TabledUse.{UseTabledEach, UsesTabledOn}
use Rattle.ac_unfold_plans.proofs.Heeding.{branches_use_tabled, further_rows_use_tabled, kills_use_tabled, steps_use_tabled}
use Rattle.ac_unfold_plans.specs.PairStops.{Stopped, MayGoOnFrom, StopEach, StopsOn}
use Rattle.ac_unfold_plans.proofs.Stopping.{branches_stop, kills_stop, steps_stop}
use Rattle.ac_widen_programs.specs.PairPaths.{Unfolding}
use Rattle.ac_widen_programs.specs.PairPathSteps.{AreNoReaders}
use Rattle.ac_widen_programs.proofs.Calling.{orders_are_taken}
use Rattle.ac_unfold.specs.OpenBranches.{IsBehind, HasBranchMore}
use Rattle.ac_unfold.specs.KillCuts.{IsKilled, IsStep}
use Rattle.ac_unfold.specs.PlanResults.{judge_of}
use Rattle.ac_unfold.specs.EndRows.{StopsBeside}
use Rattle.ac_unfold.specs.KillTraversal.{IsGrown}
use Rattle.ac_unfold.specs.SearchPlanStops.{EndsAnywhere, MayUseTabled, IsStoppedIn, IsUnclaimed, MayStep, StopsIn, TakesIn}
use Rattle.ac_unfold.specs.declared.course.Course.{Course}
use Rattle.ac_unfold.specs.declared.course.Open.{Open}
use Rattle.ac_unfold.specs.declared.ends.Search.{Search}
use Rattle.ac_unfold.specs.declared.node.Node.{Node}
use Rattle.ac_unfold.proofs.Growing.{grown_gone, grown_more, grown_pair, grown_same}

pub all_more : {A : Type 0} (P : A → Type 0) (xs : List A) (x : A) → AllByRecursion P xs → P x → AllByRecursion P (xs ++ x ∷ [])
all_more P [] x h k = (k, tt)
all_more P (y ∷ xs) x h k = (h.0, all_more P xs x h.1 k)

-- ---- one pair

pub anywhere_stops : (search : Search) (q : Path) (x : PlanNext) → EndsAnywhere x → StopsIn search q x
unfolding StopsIn
anywhere_stops search q x h making = ((λ g at. h.stops g (positions_at q) q.gone), (λ may_use_tabled p s formed follows. h.uses_tabled (judge_of search) search.tabled.now p))

pub all_anywhere_stop : (search : Search) (q : Path) (ts : List Plan) → (search.making ≡ true → AllByRecursion (λ (t : Plan). EndsAnywhere t.next) ts) → AllByRecursion (λ (t : Plan). StopsIn search q t.next) ts
unfolding StopsIn
all_anywhere_stop search q [] h = tt
all_anywhere_stop search q (t ∷ ts) h = ((λ making. anywhere_stops search q t.next (h making).0 making), all_anywhere_stop search q ts (λ making. (h making).1))

-- on the question with further rows and columns
pub there_stops : (search : Search) (q v : Path) (x : PlanNext) → IsGrown q v → StopsIn search v x → StopsIn search q x
unfolding StopsIn
there_stops search q v x w h making = (
  (λ g at. subst (λ (k : Position × Position). StopsOn g k q.gone x) (grown_pair q v w) (subst (λ (b : Bool). StopsOn g (positions_at v) b x) (grown_gone q v w) ((h making).0 g at))),
  (λ may_use_tabled. further_rows_use_tabled (judge_of search) search.tabled.now q w.more w.rows x (subst (λ (y : Path). UsesTabledOn (judge_of search) search.tabled.now y x) w.is ((h making).1 may_use_tabled))),
)

pub all_there_stop : (search : Search) (q v : Path) (ts : List Plan) → IsGrown q v → AllByRecursion (λ (t : Plan). StopsIn search v t.next) ts → AllByRecursion (λ (t : Plan). StopsIn search q t.next) ts
all_there_stop search q v [] w h = tt
all_there_stop search q v (t ∷ ts) w h = (there_stops search q v t.next w h.0, all_there_stop search q v ts w h.1)

-- ---- courses

pub beside_none : (search : Search) (node : Node) (course : Course) → course.node ≡ node → course.branches.items ≡ [] → StopsBeside search node.question course
beside_none search node course e none = record {
  within = grown_same node.question course.node.question (ap (λ (n : Node). n.question) e);
  outside = subst (λ (bs : List Open). AllByRecursion (λ (b : Open). AllByRecursion (λ (t : Plan). StopsIn search node.question t.next) b.outside.items) bs) (sym none) tt;
}

pub beside_more : (search : Search) (q : Path) (course next : Course) (row : Row) (outside : List Plan) → HasBranchMore course row outside next → IsGrown course.node.question next.node.question
    → AllByRecursion (λ (t : Plan). StopsIn search course.node.question t.next) outside → StopsBeside search q course → StopsBeside search q next
beside_more search q course next row outside o w all b =
    let here : AllByRecursion (λ (t : Plan). StopsIn search q t.next) o.last.outside.items = subst (λ (ts : List Plan). AllByRecursion (λ (t : Plan). StopsIn search q t.next) ts) (sym o.outside_are) (all_there_stop search q course.node.question outside b.within all) in
    record {
      within = grown_more q course.node.question next.node.question b.within w;
      outside = subst (λ (bs : List Open). AllByRecursion (λ (b : Open). AllByRecursion (λ (t : Plan). StopsIn search q t.next) b.outside.items) bs) (sym o.branches)
          (all_more (λ (b : Open). AllByRecursion (λ (t : Plan). StopsIn search q t.next) b.outside.items) course.branches.items o.last b.outside here);
    }

pub branches_in : (search : Search) (q : Path) (ts : List Plan) (x : PlanNext) → BranchesTo ts x → AllByRecursion (λ (t : Plan). StopsIn search q t.next) ts → StopsIn search q x
unfolding StopsIn
branches_in search q ts x b all making = ((λ g at. branches_stop g (positions_at q) q.gone ts x b (each g at ts all)), (λ may_use_tabled. branches_use_tabled (judge_of search) search.tabled.now q ts x b (use_tabled may_use_tabled ts all)))
  where
    each : (g : Stopped) → IsStoppedIn search g → (us : List Plan) → AllByRecursion (λ (t : Plan). StopsIn search q t.next) us → AllByRecursion (λ (t : Plan). StopsOn g (positions_at q) q.gone t.next) us
    each g at [] h = tt
    each g at (u ∷ us) h = ((h.0 making).0 g at, each g at us h.1)

    use_tabled : MayUseTabled search → (us : List Plan) → AllByRecursion (λ (t : Plan). StopsIn search q t.next) us → AllByRecursion (λ (t : Plan). UsesTabledOn (judge_of search) search.tabled.now q t.next) us
    use_tabled may_use_tabled [] h = tt
    use_tabled may_use_tabled (u ∷ us) h = ((h.0 making).1 may_use_tabled, use_tabled may_use_tabled us h.1)

-- a plan behind branches beside which plans stop
pub behind_stops : (search : Search) (q : Path) (bs : List Open) (end t : Plan) → AllByRecursion (λ (b : Open). AllByRecursion (λ (t : Plan). StopsIn search q t.next) b.outside.items) bs → IsBehind bs end t → StopsIn search q end.next → StopsIn search q t.next
behind_stops search q [] end t all h s = subst (λ (x : Plan). StopsIn search q x.next) h s
behind_stops search q (b ∷ bs) end t all h s = branches_in search q (h.0 ∷ b.outside.items) t.next h.2.branches (behind_stops search q bs end h.0 all.1 h.1 s, all.0)

-- ---- steps

pub may_go : (search : Search) (q : Path) (g : Stopped) → IsStoppedIn search g → IsUnclaimed search q → MayGoOnFrom g (positions_at q) q.gone
may_go search q g at none gone = by (g.recurrent (positions_at q)) refl
  where
    by : (b : Bool) → g.recurrent (positions_at q) ≡ b → b ≡ false
    by true e = let c = at.claimed (positions_at q) e in absurd (none.none gone c.0 c.1 (ap (λ (k : Position × Position). k.0) (sym c.2)) (ap (λ (k : Position × Position). k.1) (sym c.2)))
    by false e = refl

pub each_more : (g : Stopped) (bs : List Path) (ts : List Plan) (b : Path) (t : Plan) → StopEach g bs ts → StopsOn g (positions_at b) true t.next → StopEach g (bs ++ b ∷ []) (ts ++ t ∷ [])
each_more g [] [] b t h s = (s, tt)
each_more g [] (u ∷ ts) b t h s = absurd h
each_more g (c ∷ bs) [] b t h s = absurd h
each_more g (c ∷ bs) (u ∷ ts) b t h s = (h.0, each_more g bs ts b t h.1 s)

pub each_uses_tabled_more : (g : Pairing) (claims : List Claim) (bs : List Path) (ts : List Plan) (b : Path) (t : Plan) → UseTabledEach g claims bs ts → UsesTabledOn g claims b t.next → UseTabledEach g claims (bs ++ b ∷ []) (ts ++ t ∷ [])
each_uses_tabled_more g claims [] [] b t h s = (s, tt)
each_uses_tabled_more g claims [] (u ∷ ts) b t h s = absurd h
each_uses_tabled_more g claims (c ∷ bs) [] b t h s = absurd h
each_uses_tabled_more g claims (c ∷ bs) (u ∷ ts) b t h s = (h.0, each_uses_tabled_more g claims bs ts b t h.1 s)

-- plans that stop and use the tabled claims on their branches
pub record StopBranches (search : Search) (bs : List Path) (ts : List Plan) : Type 0 where
  pub stop : search.making ≡ true → (g : Stopped) → IsStoppedIn search g → StopEach g bs ts
  pub use_tabled : search.making ≡ true → MayUseTabled search → UseTabledEach (judge_of search) search.tabled.now bs ts

pub step_stops : (search : Search) (q : Path) (order : Order) (found : List Branch) (ts : List Plan) (t : Plan) → StopBranches search (map (onto q) found) ts → IsStep order ts t → Some (map (onto q) found) ≡ branches (judge_of search) order q → MayStep search q order
    → StopsIn search q t.next
unfolding StopsIn TakesIn
step_stops search q order found ts t each step is may making =
    let bs = map (onto q) found in (
      (λ g at.
          let there : branches (programs_of g.pair) order q ≡ Some bs = ap (λ (p : Pairing). branches p order q) at.programs ∙ sym is in
          subst (StopsOn g (positions_at q) q.gone) (sym step.next_is)
          (steps_stop g q order step.plans bs (may_go search q g at may.unclaimed) (may.takes g at bs there) there (subst (λ (us : List Plan). StopEach g bs us) (sym step.plans_are) (each.stop making g at)))),
      (λ may_use_tabled.
          subst (UsesTabledOn (judge_of search) search.tabled.now q) (sym step.next_is)
          (steps_use_tabled (judge_of search) may_use_tabled.settled.left may_use_tabled.settled.right search.tabled.now q order step.plans bs (may.unclaimed.passes making may_use_tabled.moduli) (sym is)
          (subst (λ (us : List Plan). UseTabledEach (judge_of search) search.tabled.now bs us) (sym step.plans_are) (each.use_tabled making may_use_tabled)))),
    )

-- ---- orders

pub calls_take : (search : Search) (q : Path) (order : Order) → cell_read (judge_of search).left q.left.position ≡ None → cell_read (judge_of search).right q.right.position ≡ None → order ≡ order_of search.order.now (positions_at q) → TakesIn search q order
unfolding TakesIn
calls_take search q order l r is g at bs b =
    let u : Unfolding = record { pair = g.pair; order = g.order; claim = record { left = q.left.position; right = q.right.position; rows = [] }; outputs = []; recurrent = g.recurrent; template = λ key. [] } in
    let none : AreNoReaders u q = record {
      left = subst (λ (p : Pairing). cell_read p.left q.left.position ≡ None) (sym at.programs) l;
      right = subst (λ (p : Pairing). cell_read p.right q.right.position ≡ None) (sym at.programs) r;
    } in
    sym (ap (order_at g.pair (positions_at q)) (at.orders (positions_at q) ∙ sym is) ∙ orders_are_taken u q order bs none b)

read_no_call : (s : ℕ) (n : NodeModel) (forms : CellForms) → read_of n ≡ Some forms → call_of s n ≡ None
read_no_call s (node.Number f) forms e = absurd cc
read_no_call s (node.Read array subs) forms e = refl
read_no_call s (node.Call symbol args) forms e = absurd cc

-- where a read or an output stands, there is no call
no_call : (m : Model) (P : Position) (o : Option CellForms) → o ≡ cell_read m P → is_some o ≡ true → call_at m P ≡ None
no_call m (position.Output o) x e there = refl
no_call m (position.Node s k) None e there = absurd cc
no_call m (position.Node s k) (Some forms) e there =
    let b = bind-some (node_at m s k) read_of forms (sym e) in
    ap (λ (o : Option NodeModel). option_and_then (call_of s) o) b.1 ∙ read_no_call s b.0 forms b.2
no_call m (position.InitialOutput o) x e there = refl
no_call m (position.InitialNode s k) x e there = refl

pub left_takes : (search : Search) (q : Path) (o : Option CellForms) → o ≡ cell_read (judge_of search).left q.left.position → is_some o ≡ true → TakesIn search q Keep
unfolding TakesIn
left_takes search q o e there g at bs b =
    let none : call_at (model_of g.pair.left g.pair.context) q.left.position ≡ None = subst (λ (p : Pairing). call_at p.left q.left.position ≡ None) (sym at.programs) (no_call (judge_of search).left q.left.position o e there) in
    sym (ap (λ (x : Option CallAt). cond (may_swap (pairing_of g.pair) x (call_at (model_of g.pair.right g.pair.context) q.right.position)) (g.order (positions_at q)) Keep) none)

swaps_none : (g : Pairing) (o : Option CallAt) → may_swap g o None ≡ false
swaps_none g None = refl
swaps_none g (Some c) = refl

pub right_takes : (search : Search) (q : Path) (o : Option CellForms) → o ≡ cell_read (judge_of search).right q.right.position → is_some o ≡ true → TakesIn search q Keep
unfolding TakesIn
right_takes search q o e there g at bs b =
    let none : call_at (model_of g.pair.right g.pair.context) q.right.position ≡ None = subst (λ (p : Pairing). call_at p.right q.right.position ≡ None) (sym at.programs) (no_call (judge_of search).right q.right.position o e there) in
    let left = call_at (model_of g.pair.left g.pair.context) q.left.position in
    sym (ap (λ (x : Option CallAt). cond (may_swap (pairing_of g.pair) left x) (g.order (positions_at q)) Keep) none ∙ ap (λ (x : Bool). cond x (g.order (positions_at q)) Keep) (swaps_none (pairing_of g.pair) left))

-- ---- kills

pub is_killed : (search : Search) (node : Node) (kill : Kill) (own : ℕ) (moved : List Choice) (t : Plan) → ((a : Assumed) → node.question.last ≡ Some a → own ≡ case_width (judge_of search).params a) → moved ≡ map (behind own node.embedding.next_column) kill.choices → t.steps ≡ []
    → t.next ≡ Killed (record { stmt = kill.stmt; piece = kill.piece; after = kill.after; before = kill.before; choices = moved }) → IsKilled search node kill t
is_killed search node kill own moved t own_is are steps next = record {
  ends = λ a last.
      (steps, next ∙ ap (λ (cs : List Choice). Killed (record { stmt = kill.stmt; piece = kill.piece; after = kill.after; before = kill.before; choices = cs })) (are ∙ ap (λ (n : ℕ). map (behind n node.embedding.next_column) kill.choices) (own_is a last)));
  stops = subst EndsAnywhere (sym next) (record {
    stops = kills_stop (record { stmt = kill.stmt; piece = kill.piece; after = kill.after; before = kill.before; choices = moved });
    uses_tabled = kills_use_tabled (record { stmt = kill.stmt; piece = kill.piece; after = kill.after; before = kill.before; choices = moved });
  });
}
