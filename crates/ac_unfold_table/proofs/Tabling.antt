-- The pairs behind a start are gone through.
use Rattle.std.proofs.Common.{◌≡◌, ◌⊎◌, inl, inr, ℕ, suc, ◌+◌, ◌-◌, ◌*◌, ◌^◌, ◌<◌, ◌≤◌, Bool, true, false, List, [], ◌∷◌, ◌++◌, length, Option, Some, None, refl, sym, ap, ◌∙◌, subst, arith, append_assoc, append-nil, length-append}
use Rattle.std.proofs.lemmas.List.{length-map, length-reverse, map-append, reverse-append, reverse-reverse}
use Rattle.std.specs.Prelude.{Err, IfOk, Ok, Result, map, option_to_list, reverse}
use Rattle.ac_syntax.specs.declared.tree.Order.{Order}
use Rattle.ac_syntax.specs.declared.tree.Site.{Site}
use Rattle.ac_forms.specs.ListMembers.{IsAmong}
use Rattle.ac_claims_paths.specs.declared.path.Path.{Path}
use Rattle.ac_claims.specs.declared.types.Claim.{Claim}
use Rattle.ac_unfold_plans.specs.PlanStops.{positions_at, claim_positions}
use Rattle.ac_unfold.specs.declared.types.Planned.{Planned}
use Rattle.ac_unfold.specs.declared.types.ProgramFlows.{ProgramFlows}
use Rattle.ac_unfold.specs.declared.types.UnfoldStop.{UnfoldStop}
use Rattle.ac_unfold_table.specs.StepQuestions.{IsStepBehind, judge}
use Rattle.ac_unfold_table.specs.QuestionLists.{questions_of}
use Rattle.ac_unfold_table.specs.QuestionRelations.{HasNoRelation, IsRelationOf}
use Rattle.ac_unfold_table.specs.Tables.{Grows, TableOf}
use Rattle.ac_unfold_table.specs.StartTraversal.{IsMet, IsUnderWay, StandsBehind, tasks_behind, tasks_of, work_left}
use Rattle.ac_unfold_table.specs.TableCoverage.{AreCalls, Covers, Fails, HasClaim, IsCovered, IsHindered, IsReached, IsThorough, IsTried}
use Rattle.ac_unfold_table.specs.declared.unfolding.Task.{Task}
use Rattle.ac_unfold_table.specs.declared.unfolding.Task.TheVariants.{Question, Relation}
use Rattle.ac_unfold_table.proofs.Behind.{questions_are, questions_in}
use Rattle.ac_unfold_table.proofs.Lists.{among_either, among_last, among_left, among_right}

-- ---- the stack

pub taken : {A : Type 0} (xs ys : List A) (o : Option A) (x : A) → xs ≡ ys ++ option_to_list o → o ≡ Some x → xs ≡ ys ++ x ∷ []
taken xs ys o x e is = e ∙ ap (λ z. ys ++ option_to_list z) is

one_on : (front : List Path) (q : Path) → tasks_of (front ++ q ∷ []) ≡ Question q ∷ tasks_of front
one_on front q = ap reverse (map-append Question front (q ∷ [])) ∙ reverse-append (map Question front) (Question q ∷ [])

pub put_next : (left next : List Path) (now after all : List Task) (q : Path) → now ++ tasks_of left ≡ all → left ≡ next ++ q ∷ [] → after ≡ now ++ Question q ∷ [] → after ++ tasks_of next ≡ all
put_next left next now after all q h e f =
    ap (λ (xs : List Task). xs ++ tasks_of next) f ∙ append_assoc now (Question q ∷ []) (tasks_of next) ∙ sym (ap (λ (xs : List Task). now ++ xs) (ap tasks_of e ∙ one_on next q)) ∙ h

pub put_all : (left : List Path) (now all : List Task) → now ++ tasks_of left ≡ all → left ≡ [] → now ≡ all
put_all left now all h e = sym (append-nil now) ∙ sym (ap (λ (xs : List Path). now ++ tasks_of xs) e) ∙ h

-- ---- what stands on it

in_reverse : (t : Task) (xs : List Task) → IsAmong t xs → IsAmong t (reverse xs)
in_reverse t [] h = absurd h
in_reverse t (x ∷ xs) h = subst (IsAmong t) (sym (reverse-append (x ∷ []) xs)) (by h (λ k. in_reverse t xs k))
  where
    by : (t ≡ x) ⊎ IsAmong t xs → (IsAmong t xs → IsAmong t (reverse xs)) → IsAmong t (reverse xs ++ x ∷ [])
    by (inl e) next = among_right t (reverse xs) (x ∷ []) (inl e)
    by (inr k) next = among_left t (reverse xs) (x ∷ []) (next k)

in_map : (q : Path) (qs : List Path) → IsAmong q qs → IsAmong (Question q) (map Question qs)
in_map q [] h = absurd h
in_map q (x ∷ qs) (inl e) = inl (ap Question e)
in_map q (x ∷ qs) (inr h) = inr (in_map q qs h)

of_map : (t : Task) (qs : List Path) → IsAmong t (map Question qs) → (q : Path) × IsAmong q qs × (t ≡ Question q)
of_map t [] h = absurd h
of_map t (x ∷ qs) (inl e) = (x, inl refl, e)
of_map t (x ∷ qs) (inr h) = let r = of_map t qs h in (r.0, inr r.1, r.2)

in_tasks : (q : Path) (qs : List Path) → IsAmong q qs → IsAmong (Question q) (tasks_of qs)
in_tasks q qs h = in_reverse (Question q) (map Question qs) (in_map q qs h)

of_tasks : (t : Task) (qs : List Path) → IsAmong t (tasks_of qs) → (q : Path) × IsAmong q qs × (t ≡ Question q)
of_tasks t qs h = of_map t qs (subst (IsAmong t) (reverse-reverse (map Question qs)) (in_reverse t (reverse (map Question qs)) h))

same_question : (p q : Path) → Question p ≡ Question q → p ≡ q
same_question p q e = cc

same_relation : (r s : Claim) → Relation r ≡ Relation s → r ≡ s
same_relation r s e = cc

pub question_of : (q : Path) (qs : List Path) → IsAmong (Question q) (tasks_of qs) → IsAmong q qs
question_of q qs h =
    let r = of_tasks (Question q) qs h in
    subst (λ (x : Path). IsAmong x qs) (sym (same_question q r.0 r.2)) r.1

no_relation : (r : Claim) (qs : List Path) → IsAmong (Relation r) (tasks_of qs) → ⊥
no_relation r qs h =
    let x = of_tasks (Relation r) qs h in
    let e : Relation r ≡ Question x.0 = x.2 in
    absurd cc

-- ---- the work that is left

pub less_popped : (met : List Claim) (tasks next : List Task) (t : Task) → tasks ≡ next ++ t ∷ [] → work_left met next < work_left met tasks
less_popped met tasks next t e =
    let n : length tasks ≡ length next + 1 = ap length e ∙ length-append next (t ∷ []) in
    omega (arith, n)

pub less_met : (old new : List Claim) (tasks after : List Task) (r : Claim) (qs : List Path) (met questions : ℕ) → new ≡ old ++ r ∷ [] → after ≡ tasks ++ Relation r ∷ tasks_of qs → met ≡ length new → met < 2 ^ 64 → questions ≡ length qs → questions < 2 ^ 64 → work_left new after ≤ work_left old tasks
less_met old new tasks after r qs met questions e f m small q few =
    let n : length new ≡ length old + 1 = ap length e ∙ length-append old (r ∷ []) in
    let k : length (tasks_of qs) ≡ length qs = length-reverse (map Question qs) ∙ length-map qs Question in
    let l : length after ≡ length tasks + suc (length (tasks_of qs)) = ap length f ∙ length-append tasks (Relation r ∷ tasks_of qs) in
    omega (arith, n, k, l, m, small, q, few)

-- ---- where more is tabled

moved : (P : List (Site × Order) → List Claim → Type 0) (old new : TableOf) → Grows old new → P old.order old.claims → P new.order new.claims
moved P old new g h = subst (λ (o : List (Site × Order)). P o new.claims) (sym g.order) (subst (P old.order) (sym g.claims) h)

tabled_more : (old new : TableOf) → Grows old new → (m : Claim) → IsAmong m old.tabled → IsAmong m new.tabled
tabled_more old new g m h = subst (IsAmong m) (sym g.tabled.1) (among_left m old.tabled g.tabled.0 h)

covered_more : (old new : TableOf) (r : Claim) → Grows old new → IsCovered old.tabled r → IsCovered new.tabled r
covered_more old new r g h = (h.0, tabled_more old new g h.0 h.1, h.2)

-- a question that was tried stays so where more is met or tabled
tried_by : (s : ProgramFlows) (old new : TableOf) (before after : List Claim) (q : Path) → old.claims ≡ new.claims → ((m : Claim) → IsAmong m before → IsAmong m after) → ((m : Claim) → IsAmong m old.tabled → IsAmong m new.tabled) → IsTried s old before q → IsTried s new after q
tried_by s old new before after q e kept more (IsTried.claimed h) = IsTried.claimed (subst (λ (cs : List Claim). HasClaim cs (positions_at q)) e h)
tried_by s old new before after q e kept more (IsTried.unrelated h) = IsTried.unrelated h
tried_by s old new before after q e kept more (IsTried.covered c i h) = IsTried.covered c (known i) h
  where
    known : IsAmong c before ⊎ IsAmong c old.tabled → IsAmong c after ⊎ IsAmong c new.tabled
    known (inl j) = inl (kept c j)
    known (inr j) = inr (more c j)

stands_on : (s : ProgramFlows) (old new : TableOf) (start c : Claim) → Grows old new → StandsBehind s old start c → StandsBehind s new start c
stands_on s old new start c g h = moved (λ o cs. (c ≡ start) ⊎ (IsReached s o cs start c × ¬ (HasClaim cs (claim_positions c)))) old new g h

grown : (s : ProgramFlows) (old new : TableOf) (start : Claim) (met : List Claim) (tasks : List Task) → Grows old new → IsUnderWay s old start met tasks → IsUnderWay s new start met tasks
grown s old new start met tasks g h = record {
  reached = λ m i. moved (λ o cs. IsReached s o cs start m) old new g (h.reached m i);
  questions = λ q i. (let r = h.questions q i in (r.0, stands_on s old new start r.0 g r.1, subst (λ (o : List (Site × Order)). IsStepBehind s o r.0 q) (sym g.order) r.2));
  relations = λ r i. (let k = h.relations r i in (k.0, subst (λ (cs : List Claim). ¬ (HasClaim cs (claim_positions r))) (sym g.claims) k.1));
  tried = λ c at q behind. by_question q (h.tried c at q (subst (λ (o : List (Site × Order)). IsStepBehind s o c q) g.order behind));
  closed = λ m i. by_relation m (h.closed m i);
}
  where
    by_question : (q : Path) → IsAmong (Question q) tasks ⊎ IsTried s old met q → IsAmong (Question q) tasks ⊎ IsTried s new met q
    by_question q (inl i) = inl i
    by_question q (inr k) = inr (tried_by s old new met met q (sym g.claims) (λ m i. i) (tabled_more old new g) k)

    by_relation : (m : Claim) → IsAmong (Relation m) tasks ⊎ (Fails s old.order old.claims m ⊎ (AreCalls (judge s) m → IsCovered old.tabled m))
        → IsAmong (Relation m) tasks ⊎ (Fails s new.order new.claims m ⊎ (AreCalls (judge s) m → IsCovered new.tabled m))
    by_relation m (inl i) = inl i
    by_relation m (inr (inl f)) = inr (inl (moved (λ o cs. Fails s o cs m) old new g f))
    by_relation m (inr (inr k)) = inr (inr (λ calls. covered_more old new m g (k calls)))

-- ---- where a task is done

-- what is known of it then
abbrev pub Done : ProgramFlows → TableOf → List Claim → Task → Type 0
Done s table met (Question q) = IsTried s table met q
Done s table met (Relation r) = Fails s table.order table.claims r ⊎ (AreCalls (judge s) r → IsCovered table.tabled r)

fewer : (s : ProgramFlows) (t : TableOf) (start : Claim) (met : List Claim) (old new : List Task) → IsUnderWay s t start met old → ((z : Task) → IsAmong z new → IsAmong z old) → ((z : Task) → IsAmong z old → IsAmong z new ⊎ Done s t met z) → IsUnderWay s t start met new
fewer s t start met old new h back on = record {
  reached = h.reached;
  questions = λ q i. h.questions q (back (Question q) i);
  relations = λ r i. h.relations r (back (Relation r) i);
  tried = λ c at q behind. by_question q (h.tried c at q behind);
  closed = λ m i. by_relation m (h.closed m i);
}
  where
    by_question : (q : Path) → IsAmong (Question q) old ⊎ IsTried s t met q → IsAmong (Question q) new ⊎ IsTried s t met q
    by_question q (inl i) = on (Question q) i
    by_question q (inr k) = inr k

    by_relation : (m : Claim) → IsAmong (Relation m) old ⊎ Done s t met (Relation m) → IsAmong (Relation m) new ⊎ Done s t met (Relation m)
    by_relation m (inl i) = on (Relation m) i
    by_relation m (inr k) = inr k

done : (s : ProgramFlows) (t : TableOf) (start : Claim) (met : List Claim) (tasks : List Task) (x : Task) → IsUnderWay s t start met (tasks ++ x ∷ []) → Done s t met x → IsUnderWay s t start met tasks
done s t start met tasks x h k = fewer s t start met (tasks ++ x ∷ []) tasks h (λ z i. among_left z tasks (x ∷ []) i) (λ z i. by z (among_last z x tasks i))
  where
    by : (z : Task) → IsAmong z tasks ⊎ (z ≡ x) → IsAmong z tasks ⊎ Done s t met z
    by z (inl i) = inl i
    by z (inr e) = inr (subst (Done s t met) (sym e) k)

-- ---- a question

covers_self : (r : Claim) → Covers r r
covers_self r = record { pair = refl; meets = λ x h. h }

relation_pair : (params : ℕ) (q : Path) (r : Claim) → IsRelationOf params q r → claim_positions r ≡ positions_at q
relation_pair params q r is = λ i. (is.left_is i, is.right_is i)

-- a question was tried where its relation was
met_tried : (s : ProgramFlows) (table : TableOf) (met : List Claim) (q : Path) (r : Claim) → IsRelationOf (judge s).params q r → IsMet table met r → IsTried s table met q
met_tried s table met q r is (inl h) = IsTried.claimed (subst (HasClaim table.claims) (relation_pair (judge s).params q r is) h)
met_tried s table met q r is (inr h) =
    IsTried.covered h.0 h.1 (record { pair = h.2.pair ∙ relation_pair (judge s).params q r is; meets = λ p at. h.2.meets _ (is.each p at) })

-- a question on top is one step behind something
pub question_behind : (s : ProgramFlows) (t : TableOf) (start : Claim) (met : List Claim) (tasks : List Task) (task : Task) (q : Path) → task ≡ Question q → IsUnderWay s t start met (tasks ++ task ∷ []) → (c : Claim) × IsStepBehind s t.order c q
question_behind s t start met tasks task q e h =
    let k = h.questions q (among_right (Question q) tasks (task ∷ []) (inl (sym e))) in
    (k.0, k.2)

pub question_unrelated : (s : ProgramFlows) (t : TableOf) (start : Claim) (met : List Claim) (tasks : List Task) (q : Path) → HasNoRelation s.budget (judge s).params q → IsUnderWay s t start met (tasks ++ Question q ∷ []) → IsUnderWay s t start met tasks
question_unrelated s t start met tasks q none h = done s t start met tasks (Question q) h (IsTried.unrelated none)

pub question_met : (s : ProgramFlows) (t : TableOf) (start : Claim) (met : List Claim) (tasks : List Task) (q : Path) (r : Claim) → IsRelationOf (judge s).params q r → IsMet t met r → IsUnderWay s t start met (tasks ++ Question q ∷ []) → IsUnderWay s t start met tasks
question_met s t start met tasks q r is known h = done s t start met tasks (Question q) h (met_tried s t met q r is known)

-- the relation of a question on the stack is reached
reached_by : (s : ProgramFlows) (t : TableOf) (start c : Claim) (q : Path) (r : Claim) → StandsBehind s t start c → IsStepBehind s t.order c q → IsRelationOf (judge s).params q r → IsReached s t.order t.claims start r
reached_by s t start c q r (inl e) behind is = IsReached.first q r (subst (λ (x : Claim). IsStepBehind s t.order x q) e behind) is
reached_by s t start c q r (inr h) behind is = IsReached.next c q r h.0 h.1 behind is

-- one more relation is met, and what is to be done for it comes on top
met_more : (s : ProgramFlows) (t : TableOf) (start : Claim) (met : List Claim) (tasks : List Task) (r : Claim) → IsUnderWay s t start met tasks → IsReached s t.order t.claims start r → ¬ (HasClaim t.claims (claim_positions r)) → IsUnderWay s t start (met ++ r ∷ []) (tasks ++ tasks_behind s t r)
met_more s t start met tasks r h at free = record {
  reached = λ m i. by_reached m (among_last m r met i);
  questions = λ q i. by_question q (among_either (Question q) tasks (tasks_behind s t r) i);
  relations = λ x i. by_relation x (among_either (Relation x) tasks (tasks_behind s t r) i);
  tried = λ c on q behind. by_tried c q behind on;
  closed = λ m i. by_closed m (among_last m r met i);
}
  where
    by_reached : (m : Claim) → IsAmong m met ⊎ (m ≡ r) → IsReached s t.order t.claims start m
    by_reached m (inl i) = h.reached m i
    by_reached m (inr e) = subst (IsReached s t.order t.claims start) (sym e) at

    by_question : (q : Path) → IsAmong (Question q) tasks ⊎ IsAmong (Question q) (tasks_behind s t r) → (c : Claim) × StandsBehind s t start c × IsStepBehind s t.order c q
    by_question q (inl i) = h.questions q i
    by_question q (inr (inl e)) = absurd cc
    by_question q (inr (inr i)) = (r, inr (at, free), questions_are s t.order r q (question_of q (questions_of s t.order r) i))

    by_relation : (x : Claim) → IsAmong (Relation x) tasks ⊎ IsAmong (Relation x) (tasks_behind s t r) → IsAmong x (met ++ r ∷ []) × ¬ (HasClaim t.claims (claim_positions x))
    by_relation x (inl i) = (let k = h.relations x i in (among_left x met (r ∷ []) k.0, k.1))
    by_relation x (inr (inl e)) = (among_right x met (r ∷ []) (inl (same_relation x r e)), subst (λ (y : Claim). ¬ (HasClaim t.claims (claim_positions y))) (sym (same_relation x r e)) free)
    by_relation x (inr (inr i)) = absurd (no_relation x (questions_of s t.order r) i)

    still : (q : Path) → IsAmong (Question q) tasks ⊎ IsTried s t met q → IsAmong (Question q) (tasks ++ tasks_behind s t r) ⊎ IsTried s t (met ++ r ∷ []) q
    still q (inl i) = inl (among_left (Question q) tasks (tasks_behind s t r) i)
    still q (inr k) = inr (tried_by s t t met (met ++ r ∷ []) q refl (λ m i. among_left m met (r ∷ []) i) (λ m i. i) k)

    by_last : (c : Claim) (q : Path) → IsStepBehind s t.order c q → IsAmong c met ⊎ (c ≡ r) → IsAmong (Question q) (tasks ++ tasks_behind s t r) ⊎ IsTried s t (met ++ r ∷ []) q
    by_last c q behind (inl i) = still q (h.tried c (inr i) q behind)
    by_last c q behind (inr e) = inl (among_right (Question q) tasks (tasks_behind s t r) (inr (in_tasks q (questions_of s t.order r) (questions_in s t.order r q (subst (λ (x : Claim). IsStepBehind s t.order x q) e behind)))))

    by_tried : (c : Claim) (q : Path) → IsStepBehind s t.order c q → (c ≡ start) ⊎ IsAmong c (met ++ r ∷ []) → IsAmong (Question q) (tasks ++ tasks_behind s t r) ⊎ IsTried s t (met ++ r ∷ []) q
    by_tried c q behind (inl e) = still q (h.tried c (inl e) q behind)
    by_tried c q behind (inr i) = by_last c q behind (among_last c r met i)

    stays : (m : Claim) → IsAmong (Relation m) tasks ⊎ (Fails s t.order t.claims m ⊎ (AreCalls (judge s) m → IsCovered t.tabled m))
        → IsAmong (Relation m) (tasks ++ tasks_behind s t r) ⊎ (Fails s t.order t.claims m ⊎ (AreCalls (judge s) m → IsCovered t.tabled m))
    stays m (inl i) = inl (among_left (Relation m) tasks (tasks_behind s t r) i)
    stays m (inr k) = inr k

    by_closed : (m : Claim) → IsAmong m met ⊎ (m ≡ r) → IsAmong (Relation m) (tasks ++ tasks_behind s t r) ⊎ (Fails s t.order t.claims m ⊎ (AreCalls (judge s) m → IsCovered t.tabled m))
    by_closed m (inl i) = stays m (h.closed m i)
    by_closed m (inr e) = inl (among_right (Relation m) tasks (tasks_behind s t r) (inl (ap Relation e)))

-- the question below these tasks was tried, since its relation is met
pub question_related : (s : ProgramFlows) (t : TableOf) (start : Claim) (met new : List Claim) (tasks after : List Task) (q : Path) (r : Claim) → IsRelationOf (judge s).params q r → ¬ (HasClaim t.claims (claim_positions r)) → new ≡ met ++ r ∷ [] → after ≡ tasks ++ tasks_behind s t r
    → IsUnderWay s t start met (tasks ++ Question q ∷ []) → IsUnderWay s t start new after
question_related s t start met new tasks after q r is free e f h =
    subst (λ (ms : List Claim). IsUnderWay s t start ms after) (sym e)
    (subst (IsUnderWay s t start (met ++ r ∷ [])) (sym f) (fewer s t start (met ++ r ∷ []) ((tasks ++ Question q ∷ []) ++ tasks_behind s t r) (tasks ++ tasks_behind s t r) more back (λ z i. on z (among_either z (tasks ++ Question q ∷ []) (tasks_behind s t r) i))))
  where
    of : (c : Claim) × StandsBehind s t start c × IsStepBehind s t.order c q
    of = h.questions q (among_right (Question q) tasks (Question q ∷ []) (inl refl))

    more : IsUnderWay s t start (met ++ r ∷ []) ((tasks ++ Question q ∷ []) ++ tasks_behind s t r)
    more = met_more s t start met (tasks ++ Question q ∷ []) r h (reached_by s t start of.0 q r of.1 of.2 is) free

    back_by : (z : Task) → IsAmong z tasks ⊎ IsAmong z (tasks_behind s t r) → IsAmong z ((tasks ++ Question q ∷ []) ++ tasks_behind s t r)
    back_by z (inl i) = among_left z (tasks ++ Question q ∷ []) (tasks_behind s t r) (among_left z tasks (Question q ∷ []) i)
    back_by z (inr i) = among_right z (tasks ++ Question q ∷ []) (tasks_behind s t r) i

    back : (z : Task) → IsAmong z (tasks ++ tasks_behind s t r) → IsAmong z ((tasks ++ Question q ∷ []) ++ tasks_behind s t r)
    back z i = back_by z (among_either z tasks (tasks_behind s t r) i)

    tried : IsTried s t (met ++ r ∷ []) q
    tried = met_tried s t (met ++ r ∷ []) q r is (inr (r, inl (among_right r met (r ∷ []) (inl refl)), covers_self r))

    on_last : (z : Task) → IsAmong z tasks ⊎ (z ≡ Question q) → IsAmong z (tasks ++ tasks_behind s t r) ⊎ Done s t (met ++ r ∷ []) z
    on_last z (inl i) = inl (among_left z tasks (tasks_behind s t r) i)
    on_last z (inr k) = inr (subst (Done s t (met ++ r ∷ [])) (sym k) tried)

    on : (z : Task) → IsAmong z (tasks ++ Question q ∷ []) ⊎ IsAmong z (tasks_behind s t r) → IsAmong z (tasks ++ tasks_behind s t r) ⊎ Done s t (met ++ r ∷ []) z
    on z (inl i) = on_last z (among_last z (Question q) tasks i)
    on z (inr i) = inl (among_right z tasks (tasks_behind s t r) i)

-- ---- a relation

pub relation_free : (s : ProgramFlows) (t : TableOf) (start : Claim) (met : List Claim) (tasks : List Task) (r : Claim) → IsUnderWay s t start met (tasks ++ Relation r ∷ []) → ¬ (HasClaim t.claims (claim_positions r))
relation_free s t start met tasks r h = (h.relations r (among_right (Relation r) tasks (Relation r ∷ []) (inl refl))).1

-- a relation was unfolded, or nothing stands there to be tabled
pub relation_done : (s : ProgramFlows) (old new : TableOf) (start : Claim) (met : List Claim) (tasks : List Task) (r : Claim) (stands : Bool) → Grows old new → Fails s old.order old.claims r ⊎ ((stands ≡ true) × (AreCalls (judge s) r → IsCovered new.tabled r))
    → IsUnderWay s old start met (tasks ++ Relation r ∷ []) → (stands ≡ false → IsHindered s new.order new.claims start) × IsUnderWay s new start met tasks
relation_done s old new start met tasks r stands g d h = (falls d, done s new start met tasks (Relation r) (grown s old new start met (tasks ++ Relation r ∷ []) g h) (known d))
  where
    falls : Fails s old.order old.claims r ⊎ ((stands ≡ true) × (AreCalls (judge s) r → IsCovered new.tabled r)) → stands ≡ false → IsHindered s new.order new.claims start
    falls (inl f) e = moved (λ o cs. IsHindered s o cs start) old new g (record { relation = r; reached = h.reached r (h.relations r (among_right (Relation r) tasks (Relation r ∷ []) (inl refl))).0; fails = f })
    falls (inr k) e = (let x : true ≡ false = sym k.0 ∙ e in absurd cc)

    known : Fails s old.order old.claims r ⊎ ((stands ≡ true) × (AreCalls (judge s) r → IsCovered new.tabled r)) → Fails s new.order new.claims r ⊎ (AreCalls (judge s) r → IsCovered new.tabled r)
    known (inl f) = inl (moved (λ o cs. Fails s o cs r) old new g f)
    known (inr k) = inr k.1

-- ---- from the start to the end

pub begun : (s : ProgramFlows) (t : TableOf) (start : Claim) (tasks : List Task) → tasks ≡ tasks_of (questions_of s t.order start) → IsUnderWay s t start [] tasks
begun s t start tasks e = subst (IsUnderWay s t start []) (sym e) (record {
  reached = λ m i. absurd i;
  questions = λ q i. (start, inl refl, questions_are s t.order start q (question_of q (questions_of s t.order start) i));
  relations = λ r i. absurd (no_relation r (questions_of s t.order start) i);
  tried = λ c at q behind. by c q behind at;
  closed = λ m i. absurd i;
})
  where
    by : (c : Claim) (q : Path) → IsStepBehind s t.order c q → (c ≡ start) ⊎ IsAmong c [] → IsAmong (Question q) (tasks_of (questions_of s t.order start)) ⊎ IsTried s t [] q
    by c q behind (inl k) = inl (in_tasks q (questions_of s t.order start) (questions_in s t.order start q (subst (λ (x : Claim). IsStepBehind s t.order x q) k behind)))
    by c q behind (inr i) = absurd i

-- one of a list, or none of them
either_each : {A : Type 0} (F C : A → Type 0) (xs : List A) → ((x : A) → IsAmong x xs → F x ⊎ C x) → ((x : A) × IsAmong x xs × F x) ⊎ ((x : A) → IsAmong x xs → C x)
either_each F C [] h = inr (λ x i. absurd i)
either_each {A = A} F C (y ∷ xs) h = by (h y (inl refl)) (either_each F C xs (λ x i. h x (inr i)))
  where
    each : C y → ((x : A) → IsAmong x xs → C x) → (x : A) → (x ≡ y) ⊎ IsAmong x xs → C x
    each c k x (inl e) = subst C (sym e) c
    each c k x (inr i) = k x i

    by : F y ⊎ C y → ((x : A) × IsAmong x xs × F x) ⊎ ((x : A) → IsAmong x xs → C x) → ((x : A) × IsAmong x (y ∷ xs) × F x) ⊎ ((x : A) → IsAmong x (y ∷ xs) → C x)
    by (inl f) k = inl (y, inl refl, f)
    by (inr c) (inl k) = inl (k.0, inr k.1, k.2)
    by (inr c) (inr k) = inr (each c k)

pub gone_through : (s : ProgramFlows) (t : TableOf) (start : Claim) (met : List Claim) (tasks : List Task) → tasks ≡ [] → IsUnderWay s t start met tasks → IsThorough s t start ⊎ IsHindered s t.order t.claims start
gone_through s t start met tasks e under = by (either_each (Fails s t.order t.claims) (λ m. AreCalls (judge s) m → IsCovered t.tabled m) met (λ m i. closed m (h.closed m i)))
  where
    h : IsUnderWay s t start met []
    h = subst (IsUnderWay s t start met) e under

    closed : (m : Claim) → IsAmong (Relation m) [] ⊎ (Fails s t.order t.claims m ⊎ (AreCalls (judge s) m → IsCovered t.tabled m)) → Fails s t.order t.claims m ⊎ (AreCalls (judge s) m → IsCovered t.tabled m)
    closed m (inl i) = absurd i
    closed m (inr k) = k

    tried : (q : Path) → IsAmong (Question q) [] ⊎ IsTried s t met q → IsTried s t met q
    tried q (inl i) = absurd i
    tried q (inr k) = k

    by : ((m : Claim) × IsAmong m met × Fails s t.order t.claims m) ⊎ ((m : Claim) → IsAmong m met → AreCalls (judge s) m → IsCovered t.tabled m) → IsThorough s t start ⊎ IsHindered s t.order t.claims start
    by (inl k) = inr (record { relation = k.0; reached = h.reached k.0 k.1; fails = k.2 })
    by (inr k) = inl (record {
      met = met;
      reached = h.reached;
      behind_start = λ q behind. tried q (h.tried start (inl refl) q behind);
      behind_met = λ m i q behind. tried q (h.tried m (inr i) q behind);
      calls = k;
    })

-- ---- answers

pub proved_done : (F C A : Type 0) (b : Bool) → F ⊎ ((b ≡ true) × C) → F ⊎ ((b ≡ true) × (A → C))
proved_done F C A b (inl f) = inl f
proved_done F C A b (inr k) = inr (k.0, λ a. k.1)

-- what holds of each answer of one kind
pub if_each : {A E : Type 0} (r : Result A E) (P Q : A → Type 0) → ((b : A) → P b → Q b) → IfOk r P → IfOk r Q
if_each (Ok b) P Q h p = h b p
if_each (Err e) P Q h p = tt

pub if_all : (r : Result Planned UnfoldStop) (P : Type 0) → P → IfOk r (λ planned. P)
if_all (Ok planned) P p = p
if_all (Err stop) P p = tt
