-- The numbers of a loop whose statement has small numbers, and what they make when it is lowered.
use Rattle.std.proofs.Common.{ℕ, ◌^◌, ◌≤◌, List, [], ◌∷◌, codes, ℤ, pos, negsuc, ◌+ℤ◌, ◌*ℤ◌, unsigned_abs, arith, rules, lit≤}
use Rattle.std.specs.Int.{w128}
use Rattle.std.specs.List.{AllByRecursion}
use Rattle.std.proofs.lemmas.Int.{ints, fits_signed_from_abs}
use Rattle.ac_forms.specs.Affine.{Affine, combined, column_form, CanAddTimes}
use Rattle.ac_forms.specs.Fits.{Fits}
use Rattle.ac_syntax.specs.Small.{IsSmall, IsSmallForm, AreSmallForms, AreSmallParts, IsSmallStmt, AreSmallStmts, IsSmallValue, AreSmallValues}
use Rattle.ac_syntax.specs.declared.tree.Cond.{Cond}
use Rattle.ac_syntax.specs.declared.tree.IndexExpr.{IndexExpr}
use Rattle.ac_syntax.specs.declared.tree.Place.{Place}
use Rattle.ac_syntax.specs.declared.tree.Rel.TheVariants.{NonNegative}
use Rattle.ac_syntax.specs.declared.tree.Symbol.{Symbol}
use Rattle.ac_syntax.specs.declared.tree.Value.{Value, Row_of-Value, end_of-Value, more_of-Value, items-the_row-Value, the_lemmas as value_lemmas}
use Rattle.ac_syntax.specs.declared.tree.Value.TheVariants.{Access, Call, Call'}
use Rattle.ac_syntax.specs.declared.tree.Stmt.{Stmt, Row_of-Stmt, end_of-Stmt, more_of-Stmt, items-the_row-Stmt, the_lemmas}
use Rattle.ac_syntax.specs.declared.tree.Stmt.TheVariants.{For, For', Assign}
use Rattle.ac_gen.specs.PipelineLoops.{form, nowhere, function_symbol}

-- ---- the parts of a statement with small numbers

parts_row : (m : _) (k : Row_of-Stmt m) → AreSmallStmts k → AllByRecursion IsSmallStmt (items-the_row-Stmt m k)
unfolding IsSmallStmt
parts_row m end_of-Stmt h = tt
parts_row m (more_of-Stmt {n = n} s rest) h = (h.0, parts_row n rest h.1)

parts_for_row : (iter : List ℕ) (start : IndexExpr) (cond : Cond) (step : ℤ) (n : _) (body : Row_of-Stmt _) (place : Place)
    → IsSmallStmt (For' iter start cond step n body place) → IsSmallForm start × AreSmallParts cond.parts × AllByRecursion IsSmallStmt (items-the_row-Stmt _ body)
unfolding IsSmallStmt
parts_for_row iter start cond step n body place h = (h.0, h.1, parts_row _ body h.2)

parts_for : (iter : List ℕ) (start : IndexExpr) (cond : Cond) (step : ℤ) (body : List Stmt) (place : Place)
    → IsSmallStmt (For iter start cond step body place) → IsSmallForm start × AreSmallParts cond.parts × AllByRecursion IsSmallStmt body
parts_for iter start cond step body place h =
    let r : IsSmallForm start × AreSmallParts cond.parts × AllByRecursion IsSmallStmt body = search (rules, the_lemmas, parts_for_row iter start cond step _ _ place h) in r

parts_assign : (array : ℕ) (subs : List IndexExpr) (value : Value) (place : Place) → IsSmallStmt (Assign array subs value place) → AreSmallForms subs × IsSmallValue value
unfolding IsSmallStmt
parts_assign array subs value place h = h

parts_values : (m : _) (k : Row_of-Value m) → AreSmallValues k → AllByRecursion IsSmallValue (items-the_row-Value m k)
unfolding IsSmallValue
parts_values m end_of-Value h = tt
parts_values m (more_of-Value {n = n} v rest) h = (h.0, parts_values n rest h.1)

parts_call_row : (s : Symbol) (n : _) (args : Row_of-Value _) (place : Place) → IsSmallValue (Call' s n args place) → AllByRecursion IsSmallValue (items-the_row-Value _ args)
unfolding IsSmallValue
parts_call_row s n args place h = parts_values _ args h

parts_call : (s : Symbol) (args : List Value) (place : Place) → IsSmallValue (Call s args place) → AllByRecursion IsSmallValue args
parts_call s args place h = let r : AllByRecursion IsSmallValue args = search (rules, value_lemmas, parts_call_row s _ _ place h) in r

parts_access : (array : ℕ) (subs : List IndexExpr) (place : Place) → IsSmallValue (Access array subs place) → AreSmallForms subs
unfolding IsSmallValue
parts_access array subs place h = h

-- ---- a loop with four constants: where it starts, how far beyond N it goes, and how far ahead it writes and reads

abbrev pub call_of : ℕ → ℕ → ℤ → Value
call_of function source read = Call (function_symbol function) (Access source (form read (pos 0) (pos 1 ∷ []) ∷ []) nowhere ∷ []) nowhere

abbrev pub bound_of : ℤ → Cond
bound_of last = record { parts = record { form = form last (pos 1) (negsuc 0 ∷ []); rel = NonNegative } ∷ [] }

abbrev pub assignment_of : ℕ → ℕ → ℕ → ℤ → ℤ → Stmt
assignment_of target function source written read = Assign target (form written (pos 0) (pos 1 ∷ []) ∷ []) (call_of function source read) nowhere

abbrev pub loop_of : ℕ → ℕ → ℕ → ℤ → ℤ → ℤ → ℤ → Stmt
loop_of target function source start last written read =
    For (codes "i") (form start (pos 0) []) (bound_of last) (pos 1) (assignment_of target function source written read ∷ []) nowhere

pub record AreSmall (start last written read : ℤ) : Type 0 where
  pub start_small : IsSmall start
  pub last_small : IsSmall last
  pub written_small : IsSmall written
  pub read_small : IsSmall read

pub numbers_of : (target function source : ℕ) (start last written read : ℤ) → IsSmallStmt (loop_of target function source start last written read) → AreSmall start last written read
numbers_of target function source start last written read h =
    let whole = parts_for (codes "i") (form start (pos 0) []) (bound_of last) (pos 1) (assignment_of target function source written read ∷ []) nowhere h in
    let body = parts_assign target (form written (pos 0) (pos 1 ∷ []) ∷ []) (call_of function source read) nowhere whole.2.0 in
    let call = parts_call (function_symbol function) (Access source (form read (pos 0) (pos 1 ∷ []) ∷ []) nowhere ∷ []) nowhere body.1 in
    let access = parts_access source (form read (pos 0) (pos 1 ∷ []) ∷ []) nowhere call.0 in
    record { start_small = whole.0.constant; last_small = whole.1.0.form.constant; written_small = body.0.0.constant; read_small = access.0.constant }

-- ---- numbers of 128 bits

fits : (z : ℤ) → unsigned_abs z ≤ 2 ^ 40 → Fits z
fits z h = fits_signed_from_abs w128 z (omega arith)

zero_fits : Fits (pos 0)
zero_fits = fits (pos 0) (lit≤ tt)

one_fits : Fits (pos 1)
one_fits = fits (pos 1) (lit≤ tt)

minus_fits : Fits (negsuc 0)
minus_fits = fits (negsuc 0) (lit≤ tt)

-- the iterator: where the loop starts plus its counter
abbrev pub iterator_of : ℤ → Affine
iterator_of start = combined (pos 1) (record { konst = start; coefs = pos 0 ∷ [] }) (pos 1) (column_form 2 1)

-- its start plus its counter
pub can_step : (start : ℤ) → IsSmall start → CanAddTimes (record { konst = start; coefs = pos 0 ∷ [] }) (pos 1) (column_form 2 1)
can_step start h = ((zero_fits, (zero_fits, (one_fits, tt))), zero_fits, fits (start +ℤ pos 1 *ℤ pos 0) (omega (arith, ints, h)))

-- a number plus the iterator
pub can_follow : (k start : ℤ) → IsSmall k → IsSmall start → CanAddTimes (record { konst = k; coefs = pos 0 ∷ [] }) (pos 1) (iterator_of start)
can_follow k start h s =
    let x = pos 1 *ℤ start +ℤ pos 1 *ℤ pos 0 in
    ((zero_fits, (zero_fits, (one_fits, tt))), fits (pos 1 *ℤ x) (omega (arith, ints, s)), fits (k +ℤ pos 1 *ℤ x) (omega (arith, ints, h, s)))

-- N and a number less the start, and less the iterator
pub can_begin : (k start : ℤ) → IsSmall k → IsSmall start → CanAddTimes (record { konst = k; coefs = pos 1 ∷ [] }) (negsuc 0) (record { konst = start; coefs = pos 0 ∷ [] })
can_begin k start h s =
    ((zero_fits, (one_fits, tt)), fits (negsuc 0 *ℤ start) (omega (arith, ints, s)), fits (k +ℤ negsuc 0 *ℤ start) (omega (arith, ints, h, s)))

pub can_go_on : (k start : ℤ) → IsSmall k → IsSmall start → CanAddTimes (record { konst = k; coefs = pos 1 ∷ [] }) (negsuc 0) (iterator_of start)
can_go_on k start h s =
    let x = pos 1 *ℤ start +ℤ pos 1 *ℤ pos 0 in
    ((zero_fits, (one_fits, (minus_fits, tt))), fits (negsuc 0 *ℤ x) (omega (arith, ints, s)), fits (k +ℤ negsuc 0 *ℤ x) (omega (arith, ints, h, s)))
