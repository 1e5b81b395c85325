-- The steps of the walk that lowers a tree.
use Rattle.std.proofs.Common.{◌≡◌, ◌⊎◌, inl, inr, ℕ, suc, ◌+◌, ◌*◌, ◌<◌, ◌≤◌, List, [], ◌∷◌, ◌++◌, length, refl, rules, sym, ap, ◌∙◌, arith, Result, Ok, Err, sum_by, ℤ, subst, IfOk, append_assoc, append-nil, map, drop, get_or, add_assoc, add-zero, length-append, false}
use Rattle.std.specs.Prelude.{nat_lt}
use Rattle.std.proofs.lemmas.Bool.Decides.{nat_tests}
use Rattle.std.proofs.lemmas.List.{drop_more, drop_all}
use Rattle.std.specs.List.{flat_map}
use Rattle.ac_forms.specs.Affine.{Affine}
use Rattle.std.proofs.lemmas.List.Sums.{sum_by-cons}
use Rattle.std.specs.Result.{IsErrAnd}
use Rattle.ac_forms.specs.FormStops.{MadeIff}
use Rattle.ac_forms.specs.declared.stop.FormStop.{FormStop}
use Rattle.ac_forms.specs.declared.stop.FormStop.TheVariants as stops
use Rattle.ac_syntax.specs.LoopNests.{loop_count, loop_count_in}
use Rattle.ac_syntax.specs.ReadyPrograms.{ReadyAll}
use Rattle.ac_syntax.specs.declared.tree.Place.{Place}
use Rattle.ac_syntax.specs.declared.tree.IndexExpr.{IndexExpr}
use Rattle.ac_syntax.specs.declared.tree.Value.{Value}
use Rattle.ac_syntax.specs.declared.tree.Cond.{Cond}
use Rattle.ac_syntax.specs.declared.tree.Stmt.{Stmt, Row_of-Stmt, end_of-Stmt, more_of-Stmt, items-the_row-Stmt, the_lemmas}
use Rattle.ac_syntax.specs.declared.tree.Stmt.TheVariants.{For, If, Assign, For', If'}
use Rattle.ac_poly_quotients.specs.QuotientScopes.{with_quots, part_quots, lowered_in, with_counter, in_loop, where_holds, where_fails}
use Rattle.ac_poly_quotients.specs.ScopeRange.{CanHold, CanFail, CanEnter}
use Rattle.ac_poly_quotients.specs.declared.types.Scope.{Scope}
use Rattle.ac_poly_quotients.proofs.NotedColumns.{grown_all}
use Rattle.ac_poly.specs.Lower.{assigned, lower, lower_in, lower_all}
use Rattle.ac_poly.specs.LoweringRange.{CanAssign}
use Rattle.ac_poly.specs.LoweringFaults.{IsLowerable, IsLowerableIn, IsFirst, IsFirstIn, AreLowerable, IsFirstAll}
use Rattle.ac_poly.specs.LoweringSteps.{ways, pieces_by, Lowers, LowersAll, LowersWithin, SeeksAll}
use Rattle.ac_poly.specs.declared.types.StmtModel.{StmtModel}
use Rattle.ac_poly.specs.declared.types.LowerFault.{LowerFault}
use Rattle.ac_poly.specs.declared.types.LowerFault.TheVariants.{Wide}
use Rattle.ac_poly.proofs.Answering.{answers_map, err_map, err_is}
use Rattle.ac_poly.proofs.Lost.{Tells, lost_all, nothing_all, fine_as, first_as, length-loop, length-holds, length-fails}
use Rattle.ac_poly.proofs.Seeking.{loops_row, loops_for, loops_if}

lower_row : (m : _) (k : Row_of-Stmt m) (number : ℕ) (sc : Scope) → lower_in k number sc ≡ lower_all (items-the_row-Stmt m k) number sc
unfolding lower
lower_row m end_of-Stmt number sc = refl
lower_row m (more_of-Stmt {n = n} s rest) number sc = ap (λ r. lower s number sc ++ r) (lower_row n rest (number + loop_count s) sc)

lower_for_row : (iter : List ℕ) (start : IndexExpr) (cond : Cond) (step : ℤ) (n : _) (body : Row_of-Stmt _) (place : Place) (number : ℕ) (sc : Scope)
    → lower (For' iter start cond step n body place) number sc ≡ lower_all (items-the_row-Stmt _ body) (suc number) (in_loop sc number start cond step)
unfolding lower
lower_for_row iter start cond step n body place number sc = lower_row _ body (suc number) (in_loop sc number start cond step)

lower_for : (iter : List ℕ) (start : IndexExpr) (cond : Cond) (step : ℤ) (body : List Stmt) (place : Place) (number : ℕ) (sc : Scope)
    → lower (For iter start cond step body place) number sc ≡ lower_all body (suc number) (in_loop sc number start cond step)
lower_for iter start cond step body place number sc = search (rules, the_lemmas, lower_for_row)

lower_if_row : (cond : Cond) (n : _) (taken : Row_of-Stmt _) (m : _) (other : Row_of-Stmt _) (place : Place) (number : ℕ) (sc : Scope)
    → lower (If' cond n taken m other place) number sc ≡ lower_all (items-the_row-Stmt _ taken) number (where_holds sc cond) ++ lower_all (items-the_row-Stmt _ other) (number + sum_by loop_count (items-the_row-Stmt _ taken)) (where_fails sc cond)
unfolding lower
lower_if_row cond n taken m other place number sc =
    ap (λ r. r ++ lower_in other (number + loop_count_in taken) (where_fails sc cond)) (lower_row _ taken number (where_holds sc cond))
    ∙ ap (λ r. lower_all (items-the_row-Stmt _ taken) number (where_holds sc cond) ++ r) (lower_row _ other (number + loop_count_in taken) (where_fails sc cond) ∙ ap (λ k. lower_all (items-the_row-Stmt _ other) (number + k) (where_fails sc cond)) (loops_row _ taken))

lower_if : (cond : Cond) (taken other : List Stmt) (place : Place) (number : ℕ) (sc : Scope)
    → lower (If cond taken other place) number sc ≡ lower_all taken number (where_holds sc cond) ++ lower_all other (number + sum_by loop_count taken) (where_fails sc cond)
lower_if cond taken other place number sc = search (rules, the_lemmas, lower_if_row)

-- what is ready around the body of a loop is ready in its scope, and so is what is ready around a branch
loop_around : (sc : Scope) (number : ℕ) (start : IndexExpr) (cond : Cond) (step : ℤ) → ((in_loop sc number start cond step).params ≡ sc.params) × (length (in_loop sc number start cond step).iters ≡ length sc.iters + 1)
loop_around sc number start cond step =
    let a : Scope = with_quots sc start.quots in
    let b : Scope = with_counter a number (lowered_in a a.iters start) step in
    let g = grown_all sc start.quots in
    let h = grown_all b (flat_map part_quots cond.parts) in
    let n : length b.iters ≡ length a.iters + 1 = length-append a.iters _ in
    (h.params ∙ g.params, ap length h.iters ∙ n ∙ ap (λ (fs : List Affine). length fs + 1) g.iters)

pub ready_in_loop : (sc : Scope) (number : ℕ) (start : IndexExpr) (cond : Cond) (step : ℤ) (body : List Stmt) → ReadyAll sc.params (length sc.iters + 1) body
    → ReadyAll (in_loop sc number start cond step).params (length (in_loop sc number start cond step).iters) body
ready_in_loop sc number start cond step body h = let e = loop_around sc number start cond step in rw (e.0, e.1) h

pub ready_holds : (sc : Scope) (cond : Cond) (body : List Stmt) → ReadyAll sc.params (length sc.iters) body → ReadyAll (where_holds sc cond).params (length (where_holds sc cond).iters) body
ready_holds sc cond body h = let g = grown_all sc (flat_map part_quots cond.parts) in rw (g.params, g.iters) h

pub ready_fails : (sc : Scope) (cond : Cond) (body : List Stmt) → ReadyAll sc.params (length sc.iters) body → ReadyAll (where_fails sc cond).params (length (where_fails sc cond).iters) body
ready_fails sc cond body h = let g = grown_all sc (flat_map part_quots cond.parts) in rw (g.params, g.iters) h

fine_row : (m : _) (k : Row_of-Stmt m) (loop : ℕ) (sc : Scope) (ok : Type 0) → IsLowerableIn k loop sc ok ≡ AreLowerable (items-the_row-Stmt m k) loop sc ok
unfolding IsLowerable
fine_row m end_of-Stmt loop sc ok = refl
fine_row m (more_of-Stmt {n = n} s rest) loop sc ok = λ i. IsLowerable s loop sc ok × fine_row n rest (loop + loop_count s) sc ok i

first_row : (m : _) (k : Row_of-Stmt m) (loop : ℕ) (sc : Scope) (ok : Type 0) (f : LowerFault) → IsFirstIn k loop sc ok f ≡ IsFirstAll (items-the_row-Stmt m k) loop sc ok f
unfolding IsFirst
first_row m end_of-Stmt loop sc ok f = refl
first_row m (more_of-Stmt {n = n} s rest) loop sc ok f = λ i. IsFirst s loop sc ok f ⊎ (IsLowerable s loop sc ok × first_row n rest (loop + loop_count s) sc ok f i)

fine_for : (iter : List ℕ) (start : IndexExpr) (cond : Cond) (step : ℤ) (body : List Stmt) (place : Place) (loop : ℕ) (sc : Scope) (ok : Type 0)
    → IsLowerable (For iter start cond step body place) loop sc ok ≡ AreLowerable body (suc loop) (in_loop sc loop start cond step) (ok × CanEnter sc loop start cond step)
unfolding IsLowerable
fine_for iter start cond step body place loop sc ok = search (rules, the_lemmas, fine_row)

first_for : (iter : List ℕ) (start : IndexExpr) (cond : Cond) (step : ℤ) (body : List Stmt) (place : Place) (loop : ℕ) (sc : Scope) (ok : Type 0) (f : LowerFault)
    → IsFirst (For iter start cond step body place) loop sc ok f ≡ IsFirstAll body (suc loop) (in_loop sc loop start cond step) (ok × CanEnter sc loop start cond step) f
unfolding IsFirst
first_for iter start cond step body place loop sc ok f = search (rules, the_lemmas, first_row)

fine_if' : (cond : Cond) (n : _) (taken : Row_of-Stmt _) (m : _) (other : Row_of-Stmt _) (place : Place) (loop : ℕ) (sc : Scope) (ok : Type 0)
    → IsLowerable (If' cond n taken m other place) loop sc ok
    ≡ (AreLowerable (items-the_row-Stmt _ taken) loop (where_holds sc cond) (ok × CanHold sc cond) × AreLowerable (items-the_row-Stmt _ other) (loop + sum_by loop_count (items-the_row-Stmt _ taken)) (where_fails sc cond) (ok × CanFail sc cond))
unfolding IsLowerable
fine_if' cond n taken m other place loop sc ok =
    λ i. fine_row _ taken loop (where_holds sc cond) (ok × CanHold sc cond) i × fine_row _ other (loop + loops_row _ taken i) (where_fails sc cond) (ok × CanFail sc cond) i

fine_if : (cond : Cond) (taken other : List Stmt) (place : Place) (loop : ℕ) (sc : Scope) (ok : Type 0)
    → IsLowerable (If cond taken other place) loop sc ok
    ≡ (AreLowerable taken loop (where_holds sc cond) (ok × CanHold sc cond) × AreLowerable other (loop + sum_by loop_count taken) (where_fails sc cond) (ok × CanFail sc cond))
fine_if cond taken other place loop sc ok = search (rules, the_lemmas, fine_if')

first_if' : (cond : Cond) (n : _) (taken : Row_of-Stmt _) (m : _) (other : Row_of-Stmt _) (place : Place) (loop : ℕ) (sc : Scope) (ok : Type 0) (f : LowerFault)
    → IsFirst (If' cond n taken m other place) loop sc ok f
    ≡ (IsFirstAll (items-the_row-Stmt _ taken) loop (where_holds sc cond) (ok × CanHold sc cond) f
    ⊎ (AreLowerable (items-the_row-Stmt _ taken) loop (where_holds sc cond) (ok × CanHold sc cond) × IsFirstAll (items-the_row-Stmt _ other) (loop + sum_by loop_count (items-the_row-Stmt _ taken)) (where_fails sc cond) (ok × CanFail sc cond) f))
unfolding IsFirst
first_if' cond n taken m other place loop sc ok f =
    λ i. first_row _ taken loop (where_holds sc cond) (ok × CanHold sc cond) f i
    ⊎ (fine_row _ taken loop (where_holds sc cond) (ok × CanHold sc cond) i × first_row _ other (loop + loops_row _ taken i) (where_fails sc cond) (ok × CanFail sc cond) f i)

first_if : (cond : Cond) (taken other : List Stmt) (place : Place) (loop : ℕ) (sc : Scope) (ok : Type 0) (f : LowerFault)
    → IsFirst (If cond taken other place) loop sc ok f
    ≡ (IsFirstAll taken loop (where_holds sc cond) (ok × CanHold sc cond) f
    ⊎ (AreLowerable taken loop (where_holds sc cond) (ok × CanHold sc cond) × IsFirstAll other (loop + sum_by loop_count taken) (where_fails sc cond) (ok × CanFail sc cond) f))
first_if cond taken other place loop sc ok f = search (rules, the_lemmas, first_if')

all_fine_as : (ss : List Stmt) (loop : ℕ) (sc : Scope) (p q : Type 0) → (p → q) → AreLowerable ss loop sc p → AreLowerable ss loop sc q
all_fine_as [] loop sc p q f h = tt
all_fine_as (s ∷ ss) loop sc p q f h = (fine_as s loop sc p q f h.0, all_fine_as ss (loop + loop_count s) sc p q f h.1)

all_first_as : (ss : List Stmt) (loop : ℕ) (sc : Scope) (p q : Type 0) (f : LowerFault) → (p → q) → (q → p) → IsFirstAll ss loop sc p f → IsFirstAll ss loop sc q f
all_first_as [] loop sc p q f a b h = h
all_first_as (s ∷ ss) loop sc p q f a b (inl h) = inl (first_as s loop sc p q f a b h)
all_first_as (s ∷ ss) loop sc p q f a b (inr h) = inr (fine_as s loop sc p q a h.0, all_first_as ss (loop + loop_count s) sc p q f a b h.1)

-- the answer for a scope that was made
pub known : (r : Result ℕ LowerFault) (ss : List Stmt) (number : ℕ) (inner sc : Scope) (can : Type 0) (old new : List StmtModel)
    → can × (inner ≡ sc) → LowersAll r ss number inner (Unit {0}) old new → LowersAll r ss number sc can old new
known r ss number inner sc can old new m h =
    let g = subst (λ i. LowersAll r ss number i (Unit {0}) old new) m.1 h in
    answers_map r _ _ _ _ (λ n x. (x.0, all_fine_as ss number sc (Unit {0}) can (λ _. m.0) x.1, x.2)) (λ f x. all_first_as ss number sc (Unit {0}) can f (λ _. m.0) (λ _. tt) x) g

-- the answer for one that was not
pub unknown : (r : Result ℕ LowerFault) (ps xs : ℕ) (ss : List Stmt) (number : ℕ) (sc : Scope) (can : Type 0) (n : ℕ) (old : List StmtModel)
    → ReadyAll ps xs ss → (¬ can) ⊎ (16 < length sc.pieces) → n ≡ length sc.pieces → SeeksAll r ss number n → LowersAll r ss number sc can old old
unknown r ps xs ss number sc can n old ready l e h =
    let t = lost_all ps xs ss number sc can n ready l (inl e) in
    answers_map r _ _ _ _
    (λ next x. (x.0, subst (λ o. Tells o (AreLowerable ss number sc can) (IsFirstAll ss number sc can)) x.1 t, sym (ap (λ o. old ++ o) (nothing_all ss n number sc x.1) ∙ append-nil old)))
    (λ f x. subst (λ o. Tells o (AreLowerable ss number sc can) (IsFirstAll ss number sc can)) x t) h

-- the answer within a scope, made or not
pub within : (inner : Result Scope FormStop) (r : Result ℕ LowerFault) (ps xs : ℕ) (ss : List Stmt) (number pieces : ℕ) (sc : Scope) (can : Type 0) (old new : List StmtModel)
    → MadeIff inner can sc → ReadyAll ps xs ss → pieces ≡ length sc.pieces → LowersWithin inner r ss number pieces old new → LowersAll r ss number sc can old new
within (Ok made) r ps xs ss number pieces sc can old new m ready e h = known r ss number made sc can old new m h
within (Err stops.Wide) r ps xs ss number pieces sc can old new m ready e h =
    subst (λ o. LowersAll r ss number sc can old o) (sym h.1) (unknown r ps xs ss number sc can pieces old ready (inl m) e h.0)
within (Err (stops.Memory want)) r ps xs ss number pieces sc can old new m ready e h = subst (λ r. LowersAll r ss number sc can old new) (sym h) tt

-- what is ready in the scope is ready in the one that was made
pub ready_within : (inner : Result Scope FormStop) (sc : Scope) (can : Type 0) (ss : List Stmt)
    → MadeIff inner can sc → ReadyAll sc.params (length sc.iters) ss → IfOk inner (λ made. ReadyAll made.params (length made.iters) ss)
ready_within (Ok made) sc can ss m h = rw m.1 h
ready_within (Err stop) sc can ss m h = tt

pub few_within : (inner : Result Scope FormStop) (sc : Scope) (can : Type 0) → MadeIff inner can sc → length sc.pieces ≤ 16 → IfOk inner (λ made. length made.pieces ≤ 16)
few_within (Ok made) sc can m h = rw m.1 h
few_within (Err stop) sc can m h = tt

pub walk_for : (r : Result ℕ LowerFault) (s : Stmt) (iter : List ℕ) (start : IndexExpr) (cond : Cond) (step : ℤ) (body : List Stmt) (place : Place) (number : ℕ) (sc : Scope) (old new : List StmtModel)
    → s ≡ For iter start cond step body place → LowersAll r body (suc number) (in_loop sc number start cond step) (CanEnter sc number start cond step) old new → Lowers r s number sc (Unit {0}) old new
walk_for r s iter start cond step body place number sc old new is h =
    subst (λ s. Lowers r s number sc (Unit {0}) old new) (sym is)
    (answers_map r _ _ _ _
    (λ next x. (
      x.0 ∙ (let e = loops_for iter start cond step body place in omega arith),
      rw (fine_for iter start cond step body place number sc (Unit {0})) (all_fine_as body (suc number) (in_loop sc number start cond step) _ _ (λ a. (tt, a)) x.1),
      x.2 ∙ ap (λ o. old ++ o) (sym (lower_for iter start cond step body place number sc)),
    ))
    (λ f x. rw (first_for iter start cond step body place number sc (Unit {0}) f) (all_first_as body (suc number) (in_loop sc number start cond step) _ _ f (λ a. (tt, a)) (λ a. a.1) x)) h)

-- both sides were lowered
pub walk_if : (r : Result ℕ LowerFault) (s : Stmt) (cond : Cond) (taken other : List Stmt) (place : Place) (number next : ℕ) (sc : Scope) (old mid new : List StmtModel)
    → s ≡ If cond taken other place → LowersAll (Ok next) taken number (where_holds sc cond) (CanHold sc cond) old mid
    → LowersAll r other next (where_fails sc cond) (CanFail sc cond) mid new → Lowers r s number sc (Unit {0}) old new
walk_if r s cond taken other place number next sc old mid new is a h =
    let b = subst (λ n. LowersAll r other n (where_fails sc cond) (CanFail sc cond) mid new) a.0 h in
    let fine = all_fine_as taken number (where_holds sc cond) (CanHold sc cond) (Unit {0} × CanHold sc cond) (λ a. (tt, a)) a.1 in
    subst (λ s. Lowers r s number sc (Unit {0}) old new) (sym is)
    (answers_map r _ _ _ _
    (λ n x. (
      x.0 ∙ (let e = loops_if cond taken other place in omega arith),
      rw (fine_if cond taken other place number sc (Unit {0})) (fine, all_fine_as other (number + sum_by loop_count taken) (where_fails sc cond) _ _ (λ a. (tt, a)) x.1),
      x.2 ∙ ap (λ o. o ++ lower_all other (number + sum_by loop_count taken) (where_fails sc cond)) a.2
          ∙ append_assoc old (lower_all taken number (where_holds sc cond)) (lower_all other (number + sum_by loop_count taken) (where_fails sc cond)) ∙ ap (λ o. old ++ o) (sym (lower_if cond taken other place number sc)),
    ))
    (λ f x. rw (first_if cond taken other place number sc (Unit {0}) f) (inr (fine, all_first_as other (number + sum_by loop_count taken) (where_fails sc cond) _ _ f (λ a. (tt, a)) (λ a. a.1) x))) b)

-- the first side has the fault
pub walk_if_stops : (stop : LowerFault) (s : Stmt) (cond : Cond) (taken other : List Stmt) (place : Place) (number : ℕ) (sc : Scope) (old mid new : List StmtModel)
    → s ≡ If cond taken other place → LowersAll (Err stop) taken number (where_holds sc cond) (CanHold sc cond) old mid → Lowers (Err stop) s number sc (Unit {0}) old new
walk_if_stops stop s cond taken other place number sc old mid new is h =
    subst (λ s. Lowers (Err stop) s number sc (Unit {0}) old new) (sym is)
    (err_map stop _ _ _ _ (λ f x. rw (first_if cond taken other place number sc (Unit {0}) f) (inl (all_first_as taken number (where_holds sc cond) _ _ f (λ a. (tt, a)) (λ a. a.1) x))) h)

-- an assignment
pub walk_assign : (s : Stmt) (array : ℕ) (subs subs2 : List IndexExpr) (value : Value) (place : Place) (number : ℕ) (sc : Scope) (made : StmtModel) (old new : List StmtModel)
    → s ≡ Assign array subs value place → subs2 ≡ subs → length sc.pieces ≤ 16 → CanAssign sc subs2 value × (made ≡ assigned sc array subs2 value)
    → new ≡ old ++ made ∷ [] → Lowers (Ok number) s number sc (Unit {0}) old new
unfolding IsLowerable loop_count lower
walk_assign s array subs subs2 value place number sc made old new is b few m n =
    rw is (sym (omega arith), (few, tt, subst (λ x. CanAssign sc x value) b m.0), n ∙ ap (λ x. old ++ x ∷ []) (m.1 ∙ ap (λ u. assigned sc array u value) b))

pub walk_assign_wide : (s : Stmt) (array : ℕ) (subs subs2 : List IndexExpr) (value : Value) (place : Place) (number : ℕ) (sc : Scope) (old new : List StmtModel)
    → s ≡ Assign array subs value place → subs2 ≡ subs → length sc.pieces ≤ 16 → ¬ (CanAssign sc subs2 value) → Lowers (Err (Wide place)) s number sc (Unit {0}) old new
unfolding IsFirst
walk_assign_wide s array subs subs2 value place number sc old new is b few m = rw is (refl, few, λ h. m (subst (λ x. CanAssign sc x value) (sym b) h.1))

few_by : (m w : ℕ) → m ≤ 16 → pieces_by m w ≡ m * w
few_by m w h = let e : nat_lt 16 m ≡ false = grind (arith, nat_tests) in ap (λ b. Rattle.std.proofs.Common.cond b m (m * w)) e

-- the pieces of the other side, where those around are few
pub count_other : (sc : Scope) (cond : Cond) (n : ℕ) → n ≡ pieces_by (length sc.pieces) (ways cond.parts) → length sc.pieces ≤ 16 → n ≡ length (where_fails sc cond).pieces
count_other sc cond n e h = e ∙ few_by (length sc.pieces) (ways cond.parts) h ∙ sym (length-fails sc cond)

pub count_in_loop : (sc : Scope) (number : ℕ) (start : IndexExpr) (cond : Cond) (step : ℤ) → length sc.pieces ≡ length (in_loop sc number start cond step).pieces
count_in_loop sc number start cond step = sym (length-loop sc number start cond step)

pub count_taken : (sc : Scope) (cond : Cond) → length sc.pieces ≡ length (where_holds sc cond).pieces
count_taken sc cond = sym (length-holds sc cond)

pub walk_if_err : (r : Result ℕ LowerFault) (stop : LowerFault) (s : Stmt) (cond : Cond) (taken other : List Stmt) (place : Place) (number : ℕ) (sc : Scope) (old mid new : List StmtModel)
    → IsErrAnd r (λ e. e ≡ stop) → s ≡ If cond taken other place → LowersAll (Err stop) taken number (where_holds sc cond) (CanHold sc cond) old mid → Lowers r s number sc (Unit {0}) old new
walk_if_err r stop s cond taken other place number sc old mid new e is h = subst (λ r. Lowers r s number sc (Unit {0}) old new) (sym (err_is r stop e)) (walk_if_stops stop s cond taken other place number sc old mid new is h)

-- before the statement i of a list: what is done, and what is left
pub record Halfway (ss : List Stmt) (number : ℕ) (sc : Scope) (old : List StmtModel) (i next : ℕ) (now : List StmtModel) : Type 0 where
  pub count : next + sum_by loop_count (drop i ss) ≡ number + sum_by loop_count ss
  pub made : now ++ lower_all (drop i ss) next sc ≡ old ++ lower_all ss number sc
  pub fine : AreLowerable (drop i ss) next sc (Unit {0}) → AreLowerable ss number sc (Unit {0})
  pub first : (f : LowerFault) → IsFirstAll (drop i ss) next sc (Unit {0}) f → IsFirstAll ss number sc (Unit {0}) f

pub halfway_start : (ss : List Stmt) (number : ℕ) (sc : Scope) (old : List StmtModel) → Halfway ss number sc old 0 number old
halfway_start ss number sc old = record { count = refl; made = refl; fine = λ h. h; first = λ f h. h }

pub halfway_step : (ss : List Stmt) (number : ℕ) (sc : Scope) (old : List StmtModel) (i next : ℕ) (now : List StmtModel) (s : Stmt) (after : ℕ) (new : List StmtModel)
    → Halfway ss number sc old i next now → i < length ss → s ≡ get_or ss i s → Lowers (Ok after) s next sc (Unit {0}) now new → Halfway ss number sc old (i + 1) after new
halfway_step ss number sc old i next now s after new h l e x =
    let d : drop i ss ≡ s ∷ drop (i + 1) ss = rw e (drop_more ss i s l) in
    record {
      count = rw x.0 (add_assoc next (loop_count s) (sum_by loop_count (drop (i + 1) ss)) ∙ ap (λ n. next + n) (sym (sum_by-cons loop_count s (drop (i + 1) ss))) ∙ (rw d at h.count));
      made = rw (x.0, x.2) (append_assoc now (lower s next sc) (lower_all (drop (i + 1) ss) (next + loop_count s) sc) ∙ (rw d at h.made));
      fine = λ g. h.fine (rw d (x.1, rw x.0 at g));
      first = λ f g. h.first f (rw d (inr (x.1, rw x.0 at g)));
    }

pub halfway_end : (ss : List Stmt) (number : ℕ) (sc : Scope) (old : List StmtModel) (i next : ℕ) (now : List StmtModel) → Halfway ss number sc old i next now → length ss ≤ i → LowersAll (Ok next) ss number sc (Unit {0}) old now
halfway_end ss number sc old i next now h l =
    let d = drop_all i ss l in
    ((let c = rw d at h.count in sym (add-zero next) ∙ c), h.fine (rw d tt), (sym (append-nil now) ∙ (rw d at h.made)))

pub halfway_stops : (r : Result ℕ LowerFault) (stop : LowerFault) (ss : List Stmt) (number : ℕ) (sc : Scope) (old : List StmtModel) (i next : ℕ) (now : List StmtModel) (s : Stmt) (new : List StmtModel)
    → IsErrAnd r (λ e. e ≡ stop) → Halfway ss number sc old i next now → i < length ss → s ≡ get_or ss i s → Lowers (Err stop) s next sc (Unit {0}) now new → LowersAll r ss number sc (Unit {0}) old new
halfway_stops r stop ss number sc old i next now s new is h l e x =
    let d : drop i ss ≡ s ∷ drop (i + 1) ss = rw e (drop_more ss i s l) in
    subst (λ r. LowersAll r ss number sc (Unit {0}) old new) (sym (err_is r stop is))
    (err_map stop _ _ _ _ (λ f g. h.first f (rw d (inl g))) x)

pub ruleset list_steps = (halfway_start, halfway_step, halfway_end, halfway_stops)
