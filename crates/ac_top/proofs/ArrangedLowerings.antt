-- Programs that are lowered are so with each chain as one call.
use Rattle.std.proofs.Common.{◌≡◌, ◌≤◌, inl, inr, ℕ, suc, ◌+◌, List, [], ◌∷◌, length, sum_by, ℤ, refl, sym, ap, subst, ◌∙◌, arith, rules}
use Rattle.std.proofs.lemmas.List.Sums.{sum_by-cons}
use Rattle.ac_syntax.specs.ReadyPrograms.{Ready, ReadyIn, ReadyAll, ReadyProgram}
use Rattle.ac_syntax.specs.LoopNests.{loop_count, loop_count_in}
use Rattle.ac_syntax.specs.Trace.{assignments, assignments_in}
use Rattle.ac_syntax.specs.declared.tree.Cond.{Cond}
use Rattle.ac_syntax.specs.declared.tree.IndexExpr.{IndexExpr}
use Rattle.ac_syntax.specs.declared.tree.Pair.{Pair}
use Rattle.ac_syntax.specs.declared.tree.Place.{Place}
use Rattle.ac_syntax.specs.declared.tree.Program.{Program}
use Rattle.ac_syntax.specs.declared.tree.Stmt.{Stmt, Row_of-Stmt, end_of-Stmt, more_of-Stmt, items-the_row-Stmt, the_lemmas as stmt_lemmas}
use Rattle.ac_syntax.specs.declared.tree.Stmt.TheVariants.{For, For', If, If', Assign}
use Rattle.ac_poly_quotients.specs.QuotientScopes.{in_loop, outermost, where_holds, where_fails}
use Rattle.ac_poly_quotients.specs.ScopeRange.{CanHold, CanFail, CanEnter}
use Rattle.ac_poly_quotients.specs.declared.types.Scope.{Scope}
use Rattle.ac_poly.specs.LoweringRange.{CanAssign}
use Rattle.ac_poly.specs.LoweringFaults.{IsLowerable, IsLowerableIn, AreLowerable, IsFirst, IsFirstIn, IsFirstAll, Names}
use Rattle.ac_poly.proofs.Seeking.{loops_row, loops_for, loops_if}
use Rattle.ac_poly.specs.declared.types.LowerFault.{LowerFault}
use Rattle.ac_poly.specs.declared.types.LowerFault.TheVariants.{Pieces, Wide, Memory}
use Rattle.ac_assoc_law.specs.ArrangedPairs.{arranged_stmt, arranged_body, arranged_all, arranged_pair}
use Rattle.ac_top.proofs.ArrangedAssignments.{assigned}
use Rattle.ac_top.proofs.OrderedScopes.{IsOrdered, ordered_outermost, ordered_holds, ordered_fails, ordered_loop}
use Rattle.ac_top.specs.ConsoleLines.{Complaint}
use Rattle.ac_top.specs.ProgramAnswers.{IsLowered, IsNotLowered}

-- ---- a program that is lowered has no fault of lowering

unnamed : (place : Place) (sc : Scope) (fit : Type 0) (f : LowerFault) → length sc.pieces ≤ 16 → fit → Names place sc fit f → ⊥
unnamed place sc fit (Pieces p) few h named = let many = named.1 in omega (arith, few, many)
unnamed place sc fit (Wide p) few h named = named.2 h
unnamed place sc fit (Memory e) few h named = named

mutual
  unfolding IsLowerable IsFirst

  no_first : (s : Stmt) (loop : ℕ) (sc : Scope) (ok : Type 0) (f : LowerFault) → IsLowerable s loop sc ok → IsFirst s loop sc ok f → ⊥
  no_first (For' iter start c step n body place) loop sc ok f h first = no_first_in body (suc loop) (in_loop sc loop start c step) (ok × CanEnter sc loop start c step) f h first
  no_first (If' c n taken m other place) loop sc ok f h (inl first) = no_first_in taken loop (where_holds sc c) (ok × CanHold sc c) f h.0 first
  no_first (If' c n taken m other place) loop sc ok f h (inr first) = no_first_in other (loop + loop_count_in taken) (where_fails sc c) (ok × CanFail sc c) f h.1 first.1
  no_first (Assign array subs value place) loop sc ok f h first = unnamed place sc (ok × CanAssign sc subs value) f h.0 (h.1, h.2) first

  no_first_in : {m : _} (b : Row_of-Stmt m) (loop : ℕ) (sc : Scope) (ok : Type 0) (f : LowerFault) → IsLowerableIn b loop sc ok → IsFirstIn b loop sc ok f → ⊥
  no_first_in end_of-Stmt loop sc ok f h first = first
  no_first_in (more_of-Stmt s rest) loop sc ok f h (inl first) = no_first s loop sc ok f h.0 first
  no_first_in (more_of-Stmt s rest) loop sc ok f h (inr first) = no_first_in rest (loop + loop_count s) sc ok f h.1 first.1

no_first_of : (ss : List Stmt) (loop : ℕ) (sc : Scope) (ok : Type 0) (f : LowerFault) → AreLowerable ss loop sc ok → IsFirstAll ss loop sc ok f → ⊥
no_first_of [] loop sc ok f h first = first
no_first_of (s ∷ ss) loop sc ok f h (inl first) = no_first s loop sc ok f h.0 first
no_first_of (s ∷ ss) loop sc ok f h (inr first) = no_first_of ss (loop + loop_count s) sc ok f h.1 first.1

pub not_refused : (program : Program) (said : Complaint) → IsLowered program → IsNotLowered program said → ⊥
not_refused program said h is = no_first_of program.body 0 (outermost (length program.params)) (Unit {0}) is.fault h is.is_first

-- ---- statements

stmt_row : (m : _) (k : Row_of-Stmt m) (loop : ℕ) (sc : Scope) (ok : Type 0) → AreLowerable (items-the_row-Stmt m k) loop sc ok → IsLowerableIn k loop sc ok
unfolding IsLowerable
stmt_row m end_of-Stmt loop sc ok h = tt
stmt_row m (more_of-Stmt {n = n} s rest) loop sc ok h = (h.0, stmt_row n rest (loop + loop_count s) sc ok h.1)

for_row : (iter : List ℕ) (start : IndexExpr) (c : Cond) (step : ℤ) (n : _) (body : Row_of-Stmt _) (place : Place) (loop : ℕ) (sc : Scope) (ok : Type 0)
    → AreLowerable (items-the_row-Stmt _ body) (suc loop) (in_loop sc loop start c step) (ok × CanEnter sc loop start c step) → IsLowerable (For' iter start c step n body place) loop sc ok
unfolding IsLowerable
for_row iter start c step n body place loop sc ok h = stmt_row _ body (suc loop) (in_loop sc loop start c step) (ok × CanEnter sc loop start c step) h

for_whole : (iter : List ℕ) (start : IndexExpr) (c : Cond) (step : ℤ) (body : List Stmt) (place : Place) (loop : ℕ) (sc : Scope) (ok : Type 0)
    → AreLowerable body (suc loop) (in_loop sc loop start c step) (ok × CanEnter sc loop start c step) → IsLowerable (For iter start c step body place) loop sc ok
for_whole iter start c step body place loop sc ok h = search (rules, stmt_lemmas, for_row, h)

if_row : (c : Cond) (n : _) (taken : Row_of-Stmt _) (m : _) (other : Row_of-Stmt _) (place : Place) (loop : ℕ) (sc : Scope) (ok : Type 0)
    → AreLowerable (items-the_row-Stmt _ taken) loop (where_holds sc c) (ok × CanHold sc c)
    → AreLowerable (items-the_row-Stmt _ other) (loop + sum_by loop_count (items-the_row-Stmt _ taken)) (where_fails sc c) (ok × CanFail sc c) → IsLowerable (If' c n taken m other place) loop sc ok
unfolding IsLowerable
if_row c n taken m other place loop sc ok t o = (
  stmt_row _ taken loop (where_holds sc c) (ok × CanHold sc c) t,
  subst (λ k. IsLowerableIn other (loop + k) (where_fails sc c) (ok × CanFail sc c)) (sym (loops_row _ taken)) (stmt_row _ other (loop + sum_by loop_count (items-the_row-Stmt _ taken)) (where_fails sc c) (ok × CanFail sc c) o),
)

if_whole : (c : Cond) (taken other : List Stmt) (place : Place) (loop : ℕ) (sc : Scope) (ok : Type 0)
    → AreLowerable taken loop (where_holds sc c) (ok × CanHold sc c) → AreLowerable other (loop + sum_by loop_count taken) (where_fails sc c) (ok × CanFail sc c) → IsLowerable (If c taken other place) loop sc ok
if_whole c taken other place loop sc ok t o = search (rules, stmt_lemmas, if_row, t, o)

module _ (names : List (List ℕ)) (choice : ℕ → ℕ → ℕ) where
  -- there are as many loops
  mutual
    unfolding loop_count arranged_stmt

    loops_stay : (first : ℕ) (s : Stmt) → loop_count (arranged_stmt names choice first s) ≡ loop_count s
    loops_stay first (For' iter start c step n body place) = loops_for iter start c step (arranged_body names choice first body) place ∙ ap suc (loops_stay_in first body)
    loops_stay first (If' c n taken m other place) =
        loops_if c (arranged_body names choice first taken) (arranged_body names choice (first + assignments_in taken) other) place
        ∙ (λ i. loops_stay_in first taken i + loops_stay_in (first + assignments_in taken) other i)
    loops_stay first (Assign array subs value place) = refl

    loops_stay_in : (first : ℕ) {m : _} (body : Row_of-Stmt m) → sum_by loop_count (arranged_body names choice first body) ≡ loop_count_in body
    loops_stay_in first end_of-Stmt = refl
    loops_stay_in first (more_of-Stmt s rest) =
        sum_by-cons loop_count (arranged_stmt names choice first s) (arranged_body names choice (first + assignments s) rest)
        ∙ (λ i. loops_stay first s i + loops_stay_in (first + assignments s) rest i)

  module _ (ps : ℕ) where
    mutual
      unfolding IsLowerable arranged_stmt Ready

      stmt_stays : (xs first : ℕ) (s : Stmt) (loop : ℕ) (sc : Scope) (ok : Type 0) → IsOrdered ps sc → Ready ps xs s → IsLowerable s loop sc ok → IsLowerable (arranged_stmt names choice first s) loop sc ok
      stmt_stays xs first (For' iter start c step n body place) loop sc ok ordered ready h =
          for_whole iter start c step (arranged_body names choice first body) place loop sc ok
          (body_stays (xs + 1) first body (suc loop) (in_loop sc loop start c step) (ok × CanEnter sc loop start c step) (ordered_loop ps xs (xs + 1) sc loop start c step ordered ready.0 ready.1) ready.4 h)
      stmt_stays xs first (If' c n taken m other place) loop sc ok ordered ready h =
          let yes_taken = body_stays xs first taken loop (where_holds sc c) (ok × CanHold sc c) (ordered_holds ps xs sc c ordered ready.0) ready.1 h.0 in
          let yes_other = body_stays xs (first + assignments_in taken) other (loop + loop_count_in taken) (where_fails sc c) (ok × CanFail sc c) (ordered_fails ps xs sc c ordered ready.0) ready.2 h.1 in
          if_whole c (arranged_body names choice first taken) (arranged_body names choice (first + assignments_in taken) other) place loop sc ok yes_taken
          (subst (λ k. AreLowerable (arranged_body names choice (first + assignments_in taken) other) (loop + k) (where_fails sc c) (ok × CanFail sc c)) (sym (loops_stay_in first taken)) yes_other)
      stmt_stays xs first (Assign array subs value place) loop sc ok ordered ready h = (h.0, h.1, assigned names (choice first) ps xs sc subs value ordered ready.0 ready.1 h.2)

      body_stays : (xs first : ℕ) {m : _} (body : Row_of-Stmt m) (loop : ℕ) (sc : Scope) (ok : Type 0) → IsOrdered ps sc → ReadyIn ps xs body → IsLowerableIn body loop sc ok → AreLowerable (arranged_body names choice first body) loop sc ok
      body_stays xs first end_of-Stmt loop sc ok ordered ready h = tt
      body_stays xs first (more_of-Stmt s rest) loop sc ok ordered ready h = (
        stmt_stays xs first s loop sc ok ordered ready.0 h.0,
        subst (λ k. AreLowerable (arranged_body names choice (first + assignments s) rest) (loop + k) sc ok) (sym (loops_stay first s))
            (body_stays xs (first + assignments s) rest (loop + loop_count s) sc ok ordered ready.1 h.1),
      )

    all_stay : (first : ℕ) (ss : List Stmt) (loop : ℕ) (sc : Scope) (ok : Type 0) → IsOrdered ps sc → ReadyAll ps 0 ss → AreLowerable ss loop sc ok → AreLowerable (arranged_all names choice first ss) loop sc ok
    all_stay first [] loop sc ok ordered ready h = tt
    all_stay first (s ∷ ss) loop sc ok ordered ready h = (
      stmt_stays 0 first s loop sc ok ordered ready.0 h.0,
      subst (λ k. AreLowerable (arranged_all names choice (first + assignments s) ss) (loop + k) sc ok) (sym (loops_stay first s))
          (all_stay (first + assignments s) ss (loop + loop_count s) sc ok ordered ready.1 h.1),
    )

pub left_lowered : (names : List (List ℕ)) (choice : ℕ → ℕ → ℕ) (pair : Pair) → ReadyProgram pair.left → IsLowered pair.left → IsLowered (arranged_pair names choice pair).left
left_lowered names choice pair ready h =
    let ps = length pair.left.params in
    all_stay names (λ stmt node. 0) ps 0 pair.left.body 0 (outermost ps) (Unit {0}) (ordered_outermost ps) ready.body h

pub right_lowered : (names : List (List ℕ)) (choice : ℕ → ℕ → ℕ) (pair : Pair) → ReadyProgram pair.right → IsLowered pair.right → IsLowered (arranged_pair names choice pair).right
right_lowered names choice pair ready h =
    let ps = length pair.right.params in
    all_stay names choice ps 0 pair.right.body 0 (outermost ps) (Unit {0}) (ordered_outermost ps) ready.body h
