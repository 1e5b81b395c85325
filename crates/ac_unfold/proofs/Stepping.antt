-- Plans for the branches of a step, one after the other.
use Rattle.std.specs.Prelude.{IfSome}
use Rattle.std.proofs.Common.{◌≡◌, ℕ, ◌+◌, ◌-◌, List, [], ◌∷◌, ◌++◌, map, length, Option, Some, None, refl, sym, ap, ◌∙◌, subst, arith, length-append}
use Rattle.ac_syntax.specs.declared.tree.Order.{Order}
use Rattle.ac_claims_paths.specs.BranchPaths.{onto}
use Rattle.ac_claims_paths.specs.WellFormedPaths.{AllFormed, HasModuli, IsFormed}
use Rattle.ac_claims_paths.specs.PathSteps.{Pairing, branches}
use Rattle.ac_claims_paths.specs.declared.path.Branch.{Branch}
use Rattle.ac_claims_paths.specs.declared.path.Path.{Path}
use Rattle.ac_forms.specs.ListMembers.{IsAmong}
use Rattle.ac_claims_paths.specs.declared.path.Side.{Side}
use Rattle.ac_flow.specs.declared.types.Case.{Case}
use Rattle.ac_flow.specs.declared.types.ReadFlow.{ReadFlow}
use Rattle.ac_claims.specs.declared.types.Claim.{Claim}
use Rattle.ac_claims.specs.declared.types.Plan.{Plan}
use Rattle.ac_claims_plans.specs.Embeddings.{grown}
use Rattle.ac_claims_plans.specs.declared.embedding.Embedding.{Embedding}
use Rattle.ac_claims_plans.specs.QuestionPaths.{behind_branch, ArePlansFor, IsPlanFor}
use Rattle.ac_unfold_plans.specs.PlanStops.{positions_at}
use Rattle.ac_unfold_plans.specs.TabledUse.{UseTabledEach, UsesTabledOn}
use Rattle.ac_unfold_plans.specs.PairStops.{StopEach, StopsOn}
use Rattle.ac_widen_programs.specs.PairPathSteps.{flow_on}
use Rattle.ac_unfold.specs.KillCuts.{IsAssumed, IsStep}
use Rattle.ac_unfold.specs.PlanResults.{judge_of, IsGiven, IsMade, IsMadeIn, IsPlanIn}
use Rattle.ac_unfold.specs.SearchPlanStops.{MayStep, StopsIn}
use Rattle.ac_unfold.specs.declared.ends.Search.{Search}
use Rattle.ac_unfold.specs.declared.node.Node.{Node}
use Rattle.ac_unfold.proofs.Assuming.{case_there}
use Rattle.ac_unfold.proofs.Stops.{each_uses_tabled_more, each_more, step_stops, StopBranches}

plans_more : (g : Pairing) (cs : List Claim) (s : Embedding) (q : Path) (bs : List Path) (ts : List Plan) (b : Path) (t : Plan) → ArePlansFor g cs s q bs ts → IsPlanFor g cs (behind_branch s q b) b t → ArePlansFor g cs s q (bs ++ b ∷ []) (ts ++ t ∷ [])
plans_more g cs s q [] [] b t h p = (p, tt)
plans_more g cs s q [] (u ∷ ts) b t h p = absurd h
plans_more g cs s q (c ∷ bs) [] b t h p = absurd h
plans_more g cs s q (c ∷ bs) (u ∷ ts) b t h p = (h.0, plans_more g cs s q bs ts b t h.1 p)

formed_last : (n : ℕ) (bs : List Path) (b : Path) → AllFormed n (bs ++ b ∷ []) → AllFormed n bs × IsFormed n b
formed_last n [] b h = (tt, h.0)
formed_last n (c ∷ bs) b h = let k = formed_last n bs b h.1 in ((h.0, k.0), k.1)

onto_more : (q : Path) (bs : List Branch) (b : Branch) → map (onto q) (bs ++ b ∷ []) ≡ map (onto q) bs ++ onto q b ∷ []
onto_more q [] b = refl
onto_more q (c ∷ bs) b = ap (λ (xs : List Path). onto q c ∷ xs) (onto_more q bs b)

behind_onto : (s : Embedding) (q : Path) (b : Branch) → behind_branch s q (onto q b) ≡ grown s b.columns (length b.rows)
behind_onto s q b =
    let c : (q.conj.columns + b.columns) - q.conj.columns ≡ b.columns = omega arith in
    let r : length (q.conj.rows ++ b.rows) - length q.conj.rows ≡ length b.rows = omega (arith, length-append q.conj.rows b.rows) in
    ap (λ (n : ℕ). grown s n (length (q.conj.rows ++ b.rows) - length q.conj.rows)) c ∙ ap (λ (n : ℕ). grown s b.columns n) r

-- plans for the first branches, if these are formed, which stop from them
pub record ServeBranches (search : Search) (s : Embedding) (q : Path) (bs : List Branch) (ts : List Plan) : Type 0 where
  pub serve : (cs : List Claim) → IsGiven search cs → AllFormed (judge_of search).params (map (onto q) bs) → ArePlansFor (judge_of search) cs s q (map (onto q) bs) ts
  pub stop : StopBranches search (map (onto q) bs) ts

pub serve_none : (search : Search) (s : Embedding) (q : Path) → ServeBranches search s q [] []
serve_none search s q = record { serve = λ cs given formed. tt; stop = record { stop = λ making g at. tt; use_tabled = λ making may_use_tabled. tt } }

pub serve_more : (search : Search) (s : Embedding) (q : Path) (bs : List Branch) (ts : List Plan) (b : Branch) (child : Node) (t : Plan) → ServeBranches search s q bs ts → child.question ≡ onto q b → child.embedding ≡ grown s b.columns (length b.rows)
    → IsMade search child.embedding child.question t → ServeBranches search s q (bs ++ b ∷ []) (ts ++ t ∷ [])
unfolding IsPlanIn StopsIn
serve_more search s q bs ts b child t h e f made = record {
  serve = λ cs given formed.
      let g = judge_of search in
      let k = formed_last g.params (map (onto q) bs) (onto q b) (subst (AllFormed g.params) (onto_more q bs b) formed) in
      let p : IsPlanFor g cs child.embedding child.question t = made.plan cs given (subst (λ (x : Path). IsFormed g.params x) (sym e) k.1) in
      let p' : IsPlanFor g cs (behind_branch s q (onto q b)) (onto q b) t =
      subst (λ (z : Embedding). IsPlanFor g cs z (onto q b) t) (f ∙ sym (behind_onto s q b)) (subst (λ (x : Path). IsPlanFor g cs child.embedding x t) e p) in
      subst (λ (xs : List Path). ArePlansFor g cs s q xs (ts ++ t ∷ [])) (sym (onto_more q bs b)) (plans_more g cs s q (map (onto q) bs) ts (onto q b) t (h.serve cs given k.0) p');
  stop = record {
    stop = λ making g at.
        subst (λ (xs : List Path). StopEach g xs (ts ++ t ∷ [])) (sym (onto_more q bs b))
        (each_more g (map (onto q) bs) ts (onto q b) t (h.stop.stop making g at) (subst (λ (x : Path). StopsOn g (positions_at x) x.gone t.next) e ((made.stops making).0 g at)));
    use_tabled = λ making may_use_tabled.
        let g = judge_of search in
        let claims = search.tabled.now in
        subst (λ (xs : List Path). UseTabledEach g claims xs (ts ++ t ∷ [])) (sym (onto_more q bs b))
        (each_uses_tabled_more g claims (map (onto q) bs) ts (onto q b) t (h.stop.use_tabled making may_use_tabled) (subst (λ (x : Path). UsesTabledOn g claims x t.next) e ((made.stops making).1 may_use_tabled)));
  };
}

served_step : (search : Search) (s : Embedding) (q : Path) (order : Order) (found : List Branch) (ts : List Plan) (t : Plan) → ServeBranches search s q found ts → IsStep order ts t → Some (map (onto q) found) ≡ branches (judge_of search) order q
    → (HasModuli (judge_of search).left → HasModuli (judge_of search).right → IsFormed (judge_of search).params q → AllFormed (judge_of search).params (map (onto q) found)) → IsPlanIn search s q t
unfolding IsPlanIn
served_step search s q order found ts t serve step is formed cs given f =
    let g = judge_of search in
    step.follows g given.settled.left given.settled.right cs s q (map (onto q) found) f (sym is) (serve.serve cs given (formed given.settled.left given.settled.right f))

-- the plan of the step, where there is one and the step may be taken
pub step_made : (search : Search) (s : Embedding) (q : Path) (order : Order) (found : List Branch) (ts : List Plan) (o : Option Plan) → ServeBranches search s q found ts → IfSome o (IsStep order ts) → Some (map (onto q) found) ≡ branches (judge_of search) order q
    → (HasModuli (judge_of search).left → HasModuli (judge_of search).right → IsFormed (judge_of search).params q → AllFormed (judge_of search).params (map (onto q) found)) → IfSome o (λ t. MayStep search q order → IsMade search s q t)
step_made search s q order found ts None serve step is formed = tt
step_made search s q order found ts (Some t) serve step is formed = λ may. record { plan = served_step search s q order found ts t serve step is formed; stops = step_stops search q order found ts t serve.stop step is may }

-- a plan in the case of a flow, where the search is given
pub case_made : (search : Search) (side : Side) (flow : ReadFlow) (case : Case) (s : Embedding) (q : Path) (t : Plan) → IsAmong flow (flow_on search.program_flows.now.left_flow.now search.program_flows.now.right_flow.now side).reads → IsAssumed search side flow case q → IsMadeIn search case s q t → IsMade search s q t
unfolding IsPlanIn
case_made search side flow case s q t i a h = record { plan = λ cs given formed. h.plan (case_there search side flow case q given.settled i a) cs given formed; stops = h.stops }

pub map_itself : (xs : List Branch) → map (λ x. x) xs ≡ xs
map_itself [] = refl
map_itself (x ∷ xs) = ap (λ (ys : List Branch). x ∷ ys) (map_itself xs)
