-- The loops of a pipeline are lowered: each has one piece, and its numbers stay in `i128`.
use Rattle.std.proofs.Common.{◌≡◌, sym, ap, ◌∙◌, subst, ℕ, suc, ◌+◌, ◌≤◌, List, [], ◌∷◌, ◌++◌, codes, length, map, ℤ, pos, negsuc, ◌+ℤ◌, ◌-ℤ◌, ◌*ℤ◌, rules, lit≤}
use Rattle.std.specs.List.{AllByRecursion, flat_map}
use Rattle.ac_syntax.specs.LoopNests.{loop_count}
use Rattle.ac_syntax.specs.Small.{IsSmallStmt}
use Rattle.ac_syntax.specs.declared.tree.Cond.{Cond}
use Rattle.ac_syntax.specs.declared.tree.IndexExpr.{IndexExpr}
use Rattle.ac_syntax.specs.declared.tree.Place.{Place}
use Rattle.ac_syntax.specs.declared.tree.Symbol.{Symbol}
use Rattle.ac_syntax.specs.declared.tree.Value.{Value, Row_of-Value, end_of-Value, more_of-Value, items-the_row-Value, the_lemmas as value_lemmas}
use Rattle.ac_syntax.specs.declared.tree.Value.TheVariants.{Access, Call, Call'}
use Rattle.ac_syntax.specs.declared.tree.Stmt.{Stmt, Row_of-Stmt, end_of-Stmt, more_of-Stmt, items-the_row-Stmt, the_lemmas}
use Rattle.ac_syntax.specs.declared.tree.Stmt.TheVariants.{For, For', Assign}
use Rattle.ac_poly.specs.LoweringFaults.{IsLowerable, IsLowerableIn, AreLowerable}
use Rattle.ac_poly_quotients.specs.OwnQuotients.{form_quots, own_quots}
use Rattle.ac_poly_quotients.specs.QuotientScopes.{outermost, with_quots, in_loop}
use Rattle.ac_poly_quotients.specs.ScopeRange.{CanNote, CanEnter}
use Rattle.ac_poly_quotients.specs.declared.types.Scope.{Scope}
use Rattle.ac_poly_quotients.proofs.OwnQuotients.{value_call, value_access}
use Rattle.ac_poly.specs.LoweringRange.{CanForm, CanFormValue, CanFormValues, CanModel, CanAssign}
use Rattle.ac_gen.specs.PipelineLoops.{form, nowhere, function_symbol, statement}
use Rattle.ac_gen.specs.Pipelines.{target, margin, loops, shifted_each}
use Rattle.ac_gen.specs.declared.draws.Stage.{Stage}
use Rattle.ac_gen.proofs.Numbers.{call_of, bound_of, assignment_of, loop_of, AreSmall, numbers_of, iterator_of, can_step, can_follow, can_begin, can_go_on}

-- ---- what is fine, at lists

fine_row : (m : _) (k : Row_of-Stmt m) (loop : ℕ) (sc : Scope) (fit : Type 0) → AreLowerable (items-the_row-Stmt m k) loop sc fit → IsLowerableIn k loop sc fit
unfolding IsLowerable
fine_row m end_of-Stmt loop sc fit h = tt
fine_row m (more_of-Stmt {n = n} s rest) loop sc fit h = (h.0, fine_row n rest (loop + loop_count s) sc fit h.1)

fine_for_row : (iter : List ℕ) (start : IndexExpr) (cond : Cond) (step : ℤ) (n : _) (body : Row_of-Stmt _) (place : Place) (loop : ℕ) (sc : Scope) (fit : Type 0)
    → AreLowerable (items-the_row-Stmt _ body) (suc loop) (in_loop sc loop start cond step) (fit × CanEnter sc loop start cond step) → IsLowerable (For' iter start cond step n body place) loop sc fit
unfolding IsLowerable
fine_for_row iter start cond step n body place loop sc fit h = fine_row _ body (suc loop) (in_loop sc loop start cond step) (fit × CanEnter sc loop start cond step) h

fine_for : (iter : List ℕ) (start : IndexExpr) (cond : Cond) (step : ℤ) (body : List Stmt) (place : Place) (loop : ℕ) (sc : Scope) (fit : Type 0)
    → AreLowerable body (suc loop) (in_loop sc loop start cond step) (fit × CanEnter sc loop start cond step) → IsLowerable (For iter start cond step body place) loop sc fit
fine_for iter start cond step body place loop sc fit h = search (rules, the_lemmas, fine_for_row, h)

fine_assign : (array : ℕ) (subs : List IndexExpr) (value : Value) (place : Place) (loop : ℕ) (sc : Scope) (fit : Type 0)
    → length sc.pieces ≤ 16 → fit → CanAssign sc subs value → IsLowerable (Assign array subs value place) loop sc fit
unfolding IsLowerable
fine_assign array subs value place loop sc fit few h can = (few, h, can)

can_values : (c : Scope) (m : _) (k : Row_of-Value m) → AllByRecursion (CanFormValue c) (items-the_row-Value m k) → CanFormValues c k
unfolding CanFormValue
can_values c m end_of-Value h = tt
can_values c m (more_of-Value {n = n} v rest) h = (h.0, can_values c n rest h.1)

can_call_row : (c : Scope) (s : Symbol) (n : _) (args : Row_of-Value _) (place : Place) → AllByRecursion (CanFormValue c) (items-the_row-Value _ args) → CanFormValue c (Call' s n args place)
unfolding CanFormValue
can_call_row c s n args place h = can_values c _ args h

can_call : (c : Scope) (s : Symbol) (args : List Value) (place : Place) → AllByRecursion (CanFormValue c) args → CanFormValue c (Call s args place)
can_call c s args place h = search (rules, value_lemmas, can_call_row, h)

can_access : (c : Scope) (array : ℕ) (subs : List IndexExpr) (place : Place) → AllByRecursion (CanForm c) subs → CanFormValue c (Access array subs place)
unfolding CanFormValue
can_access c array subs place h = h

-- ---- one loop

abbrev CanEnterLoop : ℕ → ℤ → ℤ → Type 0
CanEnterLoop loop start last = CanEnter (outermost 1) loop (form start (pos 0) []) (bound_of last) (pos 1)

can_enter : (loop : ℕ) (start last written read : ℤ) → AreSmall start last written read → CanEnterLoop loop start last
can_enter loop start last written read h =
    (tt, (tt, tt), (can_step start h.start_small, tt, ((((can_begin last start h.last_small h.start_small, tt), tt), tt), tt), ((((can_go_on last start h.last_small h.start_small, tt), tt), tt), tt)))

-- what is around the assignment
abbrev around : ℕ → ℤ → ℤ → Scope
around loop start last = in_loop (outermost 1) loop (form start (pos 0) []) (bound_of last) (pos 1)

no_quotients : (function source : ℕ) (written read : ℤ) → own_quots (form written (pos 0) (pos 1 ∷ []) ∷ []) (call_of function source read) ≡ []
no_quotients function source written read =
    let own : List IndexExpr = form written (pos 0) (pos 1 ∷ []) ∷ [] in
    let subs : List IndexExpr = form read (pos 0) (pos 1 ∷ []) ∷ [] in
    ap (λ qs. qs ++ flat_map form_quots own) (value_call (function_symbol function) (Access source subs nowhere ∷ []) nowhere ∙ ap (λ qs. qs ++ []) (value_access source subs nowhere))

can_assign : (loop function source : ℕ) (start last written read : ℤ) → AreSmall start last written read → CanAssign (around loop start last) (form written (pos 0) (pos 1 ∷ []) ∷ []) (call_of function source read)
can_assign loop function source start last written read h =
    let sc = around loop start last in
    let own : List IndexExpr = form written (pos 0) (pos 1 ∷ []) ∷ [] in
    let subs : List IndexExpr = form read (pos 0) (pos 1 ∷ []) ∷ [] in
    let access : CanFormValue sc (Access source subs nowhere) = can_access sc source subs nowhere (((can_follow read start h.read_small h.start_small, tt), tt), tt) in
    subst (λ qs. CanNote sc.iters qs × CanModel (with_quots sc qs) own (call_of function source read)) (sym (no_quotients function source written read))
    (tt, (tt, can_call sc (function_symbol function) (Access source subs nowhere ∷ []) nowhere (access, tt), (((can_follow written start h.written_small h.start_small, tt), tt), tt)))

fine_loop : (target function source : ℕ) (start last written read : ℤ) (loop : ℕ) → IsSmallStmt (loop_of target function source start last written read)
    → IsLowerable (loop_of target function source start last written read) loop (outermost 1) (Unit {0})
fine_loop target function source start last written read loop small =
    let h = numbers_of target function source start last written read small in
    let can = can_assign loop function source start last written read h in
    let assigned = fine_assign target (form written (pos 0) (pos 1 ∷ []) ∷ []) (call_of function source read) nowhere (suc loop) (around loop start last) (Unit {0} × CanEnterLoop loop start last) (lit≤ tt) (tt, can_enter loop start last written read h) can in
    fine_for (codes "i") (form start (pos 0) []) (bound_of last) (pos 1) (assignment_of target function source written read ∷ []) nowhere loop (outermost 1) (Unit {0}) (assigned, tt)

-- ---- all loops

pub fine_plain : (source next : ℕ) (ts : List Stage) (loop : ℕ) → AllByRecursion IsSmallStmt (map statement (loops source next ts)) → AreLowerable (map statement (loops source next ts)) loop (outermost 1) (Unit {0})
fine_plain source next [] loop h = tt
fine_plain source next (t ∷ ts) loop h =
    (fine_loop (target next ts) t.function source (pos 0) (pos (margin ts) -ℤ pos 1) (pos 0) (pos t.reach) loop h.0, fine_plain next (suc next) ts _ h.1)

pub fine_shifted : (source next : ℕ) (ts : List Stage) (loop : ℕ) → AllByRecursion IsSmallStmt (map statement (shifted_each ts (loops source next ts)))
    → AreLowerable (map statement (shifted_each ts (loops source next ts))) loop (outermost 1) (Unit {0})
fine_shifted source next [] loop h = tt
fine_shifted source next (t ∷ ts) loop h =
    (fine_loop (target next ts) t.function source (pos 0 +ℤ pos t.shift) ((pos (margin ts) -ℤ pos 1) -ℤ (pos t.shift *ℤ negsuc 0)) (pos 0 -ℤ (pos t.shift *ℤ pos 1)) (pos t.reach -ℤ (pos t.shift *ℤ pos 1)) loop h.0, fine_shifted next (suc next) ts _ h.1)
