-- What it means for statements and values to be plain, at lists.
use Rattle.std.proofs.Common.{ℕ, List, ℤ, rules}
use Rattle.std.specs.List.{AllByRecursion}
use Rattle.ac_syntax.specs.PlainPrograms.{IsPlainForm, IsPlainPart, IsPlainValue, ArePlainValues, IsPlainStmt, ArePlainStmts}
use Rattle.ac_syntax.specs.declared.tree.Place.{Place}
use Rattle.ac_syntax.specs.declared.tree.Cond.{Cond}
use Rattle.ac_syntax.specs.declared.tree.Symbol.{Symbol}
use Rattle.ac_syntax.specs.declared.tree.IndexExpr.{IndexExpr}
use Rattle.ac_syntax.specs.declared.tree.Value.{Value, Row_of-Value, end_of-Value, more_of-Value, items-the_row-Value, the_lemmas as value_lemmas}
use Rattle.ac_syntax.specs.declared.tree.Value.TheVariants.{Number, Access, Call, Call'}
use Rattle.ac_syntax.specs.declared.tree.Stmt.{Stmt, Row_of-Stmt, end_of-Stmt, more_of-Stmt, items-the_row-Stmt, the_lemmas}
use Rattle.ac_syntax.specs.declared.tree.Stmt.TheVariants.{For, For', If, If', Assign}

row : (m : _) (k : Row_of-Stmt m) → ArePlainStmts k → AllByRecursion IsPlainStmt (items-the_row-Stmt m k)
unfolding IsPlainStmt
row m end_of-Stmt h = tt
row m (more_of-Stmt {n = n} s rest) h = (h.0, row n rest h.1)

of_row : (m : _) (k : Row_of-Stmt m) → AllByRecursion IsPlainStmt (items-the_row-Stmt m k) → ArePlainStmts k
unfolding IsPlainStmt
of_row m end_of-Stmt h = tt
of_row m (more_of-Stmt {n = n} s rest) h = (h.0, of_row n rest h.1)

for_row : (iter : List ℕ) (start : IndexExpr) (cond : Cond) (step : ℤ) (n : _) (body : Row_of-Stmt _) (place : Place) → IsPlainStmt (For' iter start cond step n body place)
    → IsPlainForm start × AllByRecursion IsPlainPart cond.parts × AllByRecursion IsPlainStmt (items-the_row-Stmt _ body)
unfolding IsPlainStmt
for_row iter start cond step n body place h = (h.0, h.1, row _ body h.2)

-- a loop that is plain
pub plain_for : (iter : List ℕ) (start : IndexExpr) (cond : Cond) (step : ℤ) (body : List Stmt) (place : Place) → IsPlainStmt (For iter start cond step body place)
    → IsPlainForm start × AllByRecursion IsPlainPart cond.parts × AllByRecursion IsPlainStmt body
plain_for iter start cond step body place h =
    let r : IsPlainForm start × AllByRecursion IsPlainPart cond.parts × AllByRecursion IsPlainStmt body = search (rules, the_lemmas, for_row iter start cond step _ _ place h) in r

if_row : (c : Cond) (n : _) (taken : Row_of-Stmt _) (m : _) (other : Row_of-Stmt _) (place : Place) → IsPlainStmt (If' c n taken m other place)
    → AllByRecursion IsPlainPart c.parts × AllByRecursion IsPlainStmt (items-the_row-Stmt _ taken) × AllByRecursion IsPlainStmt (items-the_row-Stmt _ other)
unfolding IsPlainStmt
if_row c n taken m other place h = (h.0, row _ taken h.1, row _ other h.2)

-- a branch that is plain
pub plain_if : (c : Cond) (taken other : List Stmt) (place : Place) → IsPlainStmt (If c taken other place)
    → AllByRecursion IsPlainPart c.parts × AllByRecursion IsPlainStmt taken × AllByRecursion IsPlainStmt other
plain_if c taken other place h =
    let r : AllByRecursion IsPlainPart c.parts × AllByRecursion IsPlainStmt taken × AllByRecursion IsPlainStmt other = search (rules, the_lemmas, if_row c _ _ _ _ place h) in r

-- an assignment that is plain
pub plain_assign : (array : ℕ) (subs : List IndexExpr) (value : Value) (place : Place) → IsPlainStmt (Assign array subs value place) → AllByRecursion IsPlainForm subs × IsPlainValue value
unfolding IsPlainStmt
plain_assign array subs value place h = h

pub assign_plain : (array : ℕ) (subs : List IndexExpr) (value : Value) (place : Place) → AllByRecursion IsPlainForm subs → IsPlainValue value → IsPlainStmt (Assign array subs value place)
unfolding IsPlainStmt
assign_plain array subs value place h k = (h, k)

value_row : (m : _) (k : Row_of-Value m) → ArePlainValues k → AllByRecursion IsPlainValue (items-the_row-Value m k)
unfolding IsPlainValue
value_row m end_of-Value h = tt
value_row m (more_of-Value {n = n} v rest) h = (h.0, value_row n rest h.1)

call_row : (s : Symbol) (n : _) (args : Row_of-Value _) (place : Place) → IsPlainValue (Call' s n args place) → AllByRecursion IsPlainValue (items-the_row-Value _ args)
unfolding IsPlainValue
call_row s n args place h = value_row _ args h

-- the values of a call that is plain
pub plain_call : (s : Symbol) (args : List Value) (place : Place) → IsPlainValue (Call s args place) → AllByRecursion IsPlainValue args
plain_call s args place h = let r : AllByRecursion IsPlainValue args = search (rules, value_lemmas, call_row s _ _ place h) in r

of_value_row : (m : _) (k : Row_of-Value m) → AllByRecursion IsPlainValue (items-the_row-Value m k) → ArePlainValues k
unfolding IsPlainValue
of_value_row m end_of-Value h = tt
of_value_row m (more_of-Value {n = n} v rest) h = (h.0, of_value_row n rest h.1)

pub number_plain : (e : IndexExpr) → IsPlainForm e → IsPlainValue (Number e)
unfolding IsPlainValue
number_plain e h = h

pub access_plain : (array : ℕ) (subs : List IndexExpr) (place : Place) → AllByRecursion IsPlainForm subs → IsPlainValue (Access array subs place)
unfolding IsPlainValue
access_plain array subs place h = h

of_call_row : (s : Symbol) (n : _) (args : Row_of-Value _) (place : Place) → AllByRecursion IsPlainValue (items-the_row-Value _ args) → IsPlainValue (Call' s n args place)
unfolding IsPlainValue
of_call_row s n args place h = of_value_row _ args h

-- a call is plain where its arguments are
pub call_plain : (s : Symbol) (args : List Value) (place : Place) → AllByRecursion IsPlainValue args → IsPlainValue (Call s args place)
call_plain s args place h = search (rules, value_lemmas, of_call_row, h)

of_for_row : (iter : List ℕ) (start : IndexExpr) (cond : Cond) (step : ℤ) (n : _) (body : Row_of-Stmt _) (place : Place)
    → IsPlainForm start → AllByRecursion IsPlainPart cond.parts → AllByRecursion IsPlainStmt (items-the_row-Stmt _ body) → IsPlainStmt (For' iter start cond step n body place)
unfolding IsPlainStmt
of_for_row iter start cond step n body place h k r = (h, k, of_row _ body r)

-- a loop is plain where its parts are
pub for_plain : (iter : List ℕ) (start : IndexExpr) (cond : Cond) (step : ℤ) (body : List Stmt) (place : Place)
    → IsPlainForm start → AllByRecursion IsPlainPart cond.parts → AllByRecursion IsPlainStmt body → IsPlainStmt (For iter start cond step body place)
for_plain iter start cond step body place h k r = search (rules, the_lemmas, of_for_row, h, k, r)

of_if_row : (c : Cond) (n : _) (taken : Row_of-Stmt _) (m : _) (other : Row_of-Stmt _) (place : Place)
    → AllByRecursion IsPlainPart c.parts → AllByRecursion IsPlainStmt (items-the_row-Stmt _ taken) → AllByRecursion IsPlainStmt (items-the_row-Stmt _ other) → IsPlainStmt (If' c n taken m other place)
unfolding IsPlainStmt
of_if_row c n taken m other place h t o = (h, of_row _ taken t, of_row _ other o)

-- a branch is plain where its parts are
pub if_plain : (c : Cond) (taken other : List Stmt) (place : Place)
    → AllByRecursion IsPlainPart c.parts → AllByRecursion IsPlainStmt taken → AllByRecursion IsPlainStmt other → IsPlainStmt (If c taken other place)
if_plain c taken other place h t o = search (rules, the_lemmas, of_if_row, h, t, o)

-- what makes values and statements plain
pub ruleset plain_parts = (number_plain, access_plain, call_plain, assign_plain, for_plain, if_plain)
