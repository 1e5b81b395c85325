-- What the results of an unfolding come to, one by another.
use Rattle.std.proofs.Common.{◌≡◌, inl, inr, ℕ, zero, suc, ◌+◌, ◌<◌, true, false, List, [], ◌∷◌, ◌++◌, map, length, get_or, take, Option, Some, None, sym, ap, ◌∙◌, subst, arith}
use Rattle.std.proofs.lemmas.List.{take_more}
use Rattle.std.specs.Prelude.{Result, Ok, Err, IfOk, IfSome, slice_get}
use Rattle.ac_forms.specs.declared.row.Row.{Row}
use Rattle.ac_claims_paths.specs.WellFormedPaths.{AllFormed, IsFormed}
use Rattle.ac_claims_paths.specs.PathSteps.{Pairing, at_rows}
use Rattle.ac_forms.specs.ListMembers.{IsAmong}
use Rattle.ac_claims_paths.specs.declared.path.Path.{Path}
use Rattle.ac_claims.specs.declared.types.Claim.{Claim}
use Rattle.ac_claims.specs.declared.types.Plan.{Plan}
use Rattle.ac_claims.specs.declared.types.PlanNext.{PlanNext}
use Rattle.ac_flow.specs.declared.types.Case.{Case}
use Rattle.ac_claims_plans.specs.Embeddings.{advanced}
use Rattle.ac_claims_plans.specs.BranchSides.{outside_of, on_side, AreSides}
use Rattle.ac_claims_plans.specs.declared.branching.Part.{Part}
use Rattle.ac_claims_plans.specs.declared.branching.Parts.{Parts}
use Rattle.ac_claims_plans.specs.declared.embedding.Embedding.{Embedding}
use Rattle.ac_claims_plans.specs.QuestionPaths.{IsPlanFor}
use Rattle.ac_claims_plans.specs.QuestionPlans.{question_on, AreSidePlans}
use Rattle.ac_unfold_plans.specs.PlanEnds.{IsEnd}
use Rattle.ac_unfold.specs.OpenBranches.{HasBranchMore}
use Rattle.ac_unfold.specs.KillCuts.{AreMadeOn}
use Rattle.ac_unfold.specs.PlanResults.{judge_of, EndsWhere, IsCaseAt, IsEndFor, IsMade, IsMadeIn, IsPlanIn, IsRefuted}
use Rattle.ac_unfold.specs.EndRows.{AreKept, AreRefutedOn, IsEndedPlan, IsEndOf, KeepsMore}
use Rattle.ac_unfold.specs.SearchPlanStops.{EndsAnywhere, StopsIn}
use Rattle.ac_unfold.specs.RequiredRows.{CanStand}
use Rattle.ac_unfold.specs.declared.course.Course.{Course}
use Rattle.ac_unfold.specs.declared.ends.Search.{Search}
use Rattle.ac_unfold.specs.declared.node.Node.{Node}
use Rattle.ac_unfold.specs.declared.types.UnfoldStop.{UnfoldStop}
use Rattle.ac_unfold.proofs.Growing.{grown_part}
use Rattle.ac_unfold.proofs.Keeping.{branch_more, case_beside, keeps_start, refuted_end}
use Rattle.ac_unfold.proofs.Stops.{all_more, anywhere_stops, behind_stops, beside_none, there_stops}

-- ---- what stands in a list

pub next_item : {A : Type 0} (xs : List A) (i : ℕ) (x : A) → i < length xs → x ≡ get_or xs i x → take (i + 1) xs ≡ take i xs ++ x ∷ []
next_item xs i x l e = take_more xs i x l ∙ ap (λ y. take i xs ++ y ∷ []) (sym e)

pub at_some : {A : Type 0} (o : Option A) (x : A) (P : A → Type 0) → o ≡ Some x → IfSome o P → P x
at_some o x P e h = subst (λ y. IfSome y P) e h

pub in_get : {A : Type 0} (xs : List A) (i : ℕ) (x : A) → slice_get xs i ≡ Some x → IsAmong x xs
in_get [] i x e = absurd cc
in_get (y ∷ xs) zero x e = inl cc
in_get (y ∷ xs) (suc i) x e = inr (in_get xs i x e)

pub get_below : {A : Type 0} (xs : List A) (i : ℕ) (x : A) → slice_get xs i ≡ Some x → i < length xs
get_below [] i x e = absurd cc
get_below (y ∷ xs) zero x e = omega arith
get_below (y ∷ xs) (suc i) x e = let l = get_below xs i x e in omega (arith, l)

pub in_read : {A : Type 0} (xs : List A) (i : ℕ) (x : A) → i < length xs → x ≡ get_or xs i x → IsAmong x xs
in_read [] i x l e = absurd (omega (arith, l))
in_read (y ∷ xs) zero x l e = inl e
in_read (y ∷ xs) (suc i) x l e = inr (in_read xs i x (omega (arith, l)) e)

-- ---- plans of one kind that are plans of another

pub refuted_made : (search : Search) (s : Embedding) (q : Path) (o : Option Plan) → IfSome o (IsRefuted s q) → IfSome o (IsMade search s q)
unfolding IsPlanIn
refuted_made search s q (Some t) h = record { plan = λ cs given formed. h.plan (judge_of search) cs; stops = anywhere_stops search q t.next h.stops }
refuted_made search s q None h = tt

pub made_in : (search : Search) (case : Case) (s : Embedding) (q : Path) (o : Option Plan) → IfSome o (IsMade search s q) → IfSome o (IsMadeIn search case s q)
made_in search case s q (Some t) h = record { plan = λ assumed. h.plan; stops = h.stops }
made_in search case s q None h = tt

pub refuted_in : (search : Search) (case : Case) (s : Embedding) (q : Path) (o : Option Plan) → IfSome o (IsRefuted s q) → IfSome o (IsMadeIn search case s q)
refuted_in search case s q o h = made_in search case s q o (refuted_made search s q o h)

pub all_refuted_made : (res : Result (Option Plan) UnfoldStop) (search : Search) (s : Embedding) (q : Path) → IfOk res (λ o. IfSome o (IsRefuted s q)) → IfOk res (λ o. IfSome o (IsMade search s q))
all_refuted_made (Ok o) search s q h = refuted_made search s q o h
all_refuted_made (Err e) search s q h = tt

-- ---- rows that have to stand

pub kept_none : (search : Search) (node : Node) (course : Course) → course.node ≡ node → course.branches.items ≡ [] → AreKept search node course []
kept_none search node course e none = record { keeps = λ cs given formed. keeps_start search cs node course e none formed; beside = beside_none search node course e none }

pub kept_more : (search : Search) (node : Node) (course next : Course) (rows : List Row) (row : Row) → AreKept search node course rows → KeepsMore search course row next → AreKept search node next (rows ++ row ∷ [])
kept_more search node course next rows row h k = record { keeps = λ cs given formed. k.keeps cs node.embedding node.question rows given (h.keeps cs given formed); beside = k.beside node.question h.beside }

pub ended_made : (search : Search) (node : Node) (course : Course) (rows : List Row) (o : Option Plan) → AreKept search node course rows → IfSome o (IsEndOf search course) → IfSome o (IsMade search node.embedding node.question)
unfolding IsPlanIn
ended_made search node course rows (Some t) h e = record { plan = λ cs given formed. e.plan cs node.embedding node.question rows given (h.keeps cs given formed); stops = e.stops node.question h.beside }
ended_made search node course rows None h e = tt

end_is : (end : PlanNext) (o : Option Plan) (t : Plan) → IfSome o (IsEnd end) → o ≡ Some t → IsEnd end t
end_is end o t h e = subst (λ (x : Option Plan). IfSome x (IsEnd end)) e h

stood : (search : Search) (node : Node) (course : Course) (rows : List Row) (end : PlanNext) (o : Option Plan) (t : Plan) → AreKept search node course rows → EndsWhere search node.question rows end → IfSome o (IsEnd end) → IsEndedPlan course o t → IsPlanIn search node.embedding node.question t
unfolding EndsWhere IsPlanIn
stood search node course rows end o t k w i h cs given formed =
    let kept = k.keeps cs given formed in
    let v = kept.on_path in
    let same : v ≡ at_rows node.question v.conj = kept.covers.positions ∙ ap (λ (x : Path). at_rows x v.conj) kept.same in
    let there = w cs kept.placed v.conj h.last given (subst (IsFormed (judge_of search).params) same kept.formed) kept.standing (end_is end o h.last i h.is) in
    kept.leads h.last t (subst (λ (x : Path). IsPlanFor (judge_of search) cs kept.placed x h.last) (sym same) there) h.behind

pub stood_made : (res : Result (Option Plan) UnfoldStop) (search : Search) (node : Node) (course : Course) (rows : List Row) (end : PlanNext) (o : Option Plan) → AreKept search node course rows → IsEndFor search node.question rows end → IfSome o (IsEnd end)
    → IfOk res (λ made. IfSome made (λ t. IsEndedPlan course o t)) → IfOk res (λ made. IfSome made (IsMade search node.embedding node.question))
stood_made (Err e) search node course rows end o k w i h = tt
stood_made (Ok None) search node course rows end o k w i h = tt
stood_made (Ok (Some t)) search node course rows end o k w i h = record {
  plan = stood search node course rows end o t k w.ends i h;
  stops = behind_stops search node.question course.branches.items h.last t k.beside.outside h.behind (subst (StopsIn search node.question) (sym (end_is end o h.last i h.is).1) w.stops);
}

pub absurd_ended : (search : Search) (course : Course) (end made : Option Plan) → IfSome end (IsRefuted course.node.embedding course.node.question) → IfSome made (λ t. IsEndedPlan course end t) → IfSome made (IsEndOf search course)
absurd_ended search course end (Some t) r h = refuted_end search course end t h (λ last e. at_some end last (IsRefuted course.node.embedding course.node.question) e r)
absurd_ended search course end None r h = tt

pub branched : (search : Search) (course next : Course) (row : Row) (outside : List Plan) (parts : Parts) (sides : List Part) → AreSides course.node.question.conj.columns row (Some parts) → sides ≡ parts.outside → AreRefutedOn search course.node.embedding course.node.question sides outside
    → HasBranchMore course row outside next → next.node.question ≡ course.node.question → next.node.embedding ≡ advanced course.node.embedding parts.inside.path_columns parts.inside.path_rows → CanStand course.node.question.conj.columns row → KeepsMore search course row next
branched search course next row outside parts sides a e r o q p can =
    let n = course.node.question.conj.columns in
    let same : sides ≡ outside_of n row = e ∙ ap (λ (x : Parts). x.outside) a.1 in
    branch_more search course next row outside o q (p ∙ ap (λ (x : Parts). advanced course.node.embedding x.inside.path_columns x.inside.path_rows) a.1) can a.0
    (subst (λ (ps : List Part). AreRefutedOn search course.node.embedding course.node.question ps outside) same r)

-- ---- sides

pub sides_more : (g : Pairing) (cs : List Claim) (s : Embedding) (q : Path) (ps : List Part) (ts : List Plan) (p : Part) (t : Plan) → AreSidePlans g cs s q ps ts → IsPlanFor g cs (on_side s p) (question_on q p) t → AreSidePlans g cs s q (ps ++ p ∷ []) (ts ++ t ∷ [])
sides_more g cs s q [] [] p t h k = (k, tt)
sides_more g cs s q [] (u ∷ ts) p t h k = absurd h
sides_more g cs s q (r ∷ ps) [] p t h k = absurd h
sides_more g cs s q (r ∷ ps) (u ∷ ts) p t h k = (h.0, sides_more g cs s q ps ts p t h.1 k)

pub refuted_none : (search : Search) (s : Embedding) (q : Path) → AreRefutedOn search s q [] []
refuted_none search s q = record { sides = λ making g cs. tt; stop = λ making. tt }

pub refuted_more : (search : Search) (s : Embedding) (q : Path) (ps : List Part) (ts : List Plan) (p : Part) (beside : Node) (t : Plan) → AreRefutedOn search s q ps ts → beside.question ≡ question_on q p → beside.embedding ≡ on_side s p → IsRefuted beside.embedding beside.question t
    → AreRefutedOn search s q (ps ++ p ∷ []) (ts ++ t ∷ [])
refuted_more search s q ps ts p beside t h e f r = record {
  sides = λ making g cs. sides_more g cs s q ps ts p t (h.sides making g cs) (subst (λ (z : Embedding). IsPlanFor g cs z (question_on q p) t) f (subst (λ (x : Path). IsPlanFor g cs beside.embedding x t) e (r.plan g cs)));
  stop = λ making. all_more (λ (u : Plan). EndsAnywhere u.next) ts t (h.stop making) r.stops;
}

pub refuted_off : (search : Search) (s : Embedding) (q : Path) (ps : List Part) (ts : List Plan) → search.making ≡ false → AreRefutedOn search s q ps ts
refuted_off search s q ps ts e = record { sides = λ making. let z : true ≡ false = sym making ∙ e in absurd cc; stop = λ making. let z : true ≡ false = sym making ∙ e in absurd cc }

pub made_none : (search : Search) (case : Case) (s : Embedding) (q : Path) → AreMadeOn search case s q [] []
made_none search case s q = record { sides = λ cs given assumed formed. tt; stop = tt }

formed_last : (n : ℕ) (q : Path) (ps : List Part) (p : Part) → AllFormed n (map (question_on q) (ps ++ p ∷ [])) → AllFormed n (map (question_on q) ps) × IsFormed n (question_on q p)
formed_last n q [] p h = (tt, h.0)
formed_last n q (r ∷ ps) p h = let k = formed_last n q ps p h.1 in ((h.0, k.0), k.1)

pub made_more : (search : Search) (case : Case) (s : Embedding) (q : Path) (ps : List Part) (ts : List Plan) (p : Part) (beside : Node) (t : Plan) → AreMadeOn search case s q ps ts → beside.question ≡ question_on q p → beside.embedding ≡ on_side s p → IsMadeIn search case beside.embedding beside.question t
    → AreMadeOn search case s q (ps ++ p ∷ []) (ts ++ t ∷ [])
unfolding IsPlanIn
made_more search case s q ps ts p beside t h e f made = record {
  sides = λ cs given assumed formed.
      let g = judge_of search in
      let k = formed_last g.params q ps p formed in
      let there : IsCaseAt g beside.question case = subst (λ (x : Path). IsCaseAt g x case) (sym e) (case_beside g q (question_on q p).conj case assumed) in
      let plan : IsPlanFor g cs beside.embedding beside.question t = made.plan there cs given (subst (λ (x : Path). IsFormed g.params x) (sym e) k.1) in
      sides_more g cs s q ps ts p t (h.sides cs given assumed k.0) (subst (λ (z : Embedding). IsPlanFor g cs z (question_on q p) t) f (subst (λ (x : Path). IsPlanFor g cs beside.embedding x t) e plan));
  stop = all_more (λ (u : Plan). StopsIn search q u.next) ts t h.stop (there_stops search q beside.question t.next (grown_part q beside.question p e) made.stops);
}

-- ---- the rows of a kill
