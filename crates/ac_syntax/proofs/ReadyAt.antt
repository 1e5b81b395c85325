-- What it means for statements and values to be ready, at lists.
use Rattle.std.proofs.Common.{ℕ, ◌+◌, ◌<◌, List, length, ℤ, rules}
use Rattle.std.specs.List.{AllByRecursion}
use Rattle.ac_syntax.specs.Turns.{Bounded, IsSteady}
use Rattle.ac_syntax.specs.FittingForms.{FitsForm, FormsFit, FitTests}
use Rattle.ac_syntax.specs.ReadyPrograms.{FitsValue, FitValues, Ready, ReadyIn, ReadyAll}
use Rattle.ac_syntax.specs.declared.tree.Place.{Place}
use Rattle.ac_syntax.specs.declared.tree.Cond.{Cond}
use Rattle.ac_syntax.specs.declared.tree.Symbol.{Symbol}
use Rattle.ac_syntax.specs.declared.tree.IndexExpr.{IndexExpr}
use Rattle.ac_syntax.specs.declared.tree.Value.{Value, Row_of-Value, end_of-Value, more_of-Value, items-the_row-Value, the_lemmas as value_lemmas}
use Rattle.ac_syntax.specs.declared.tree.Value.TheVariants.{Number, Access, Call, Call'}
use Rattle.ac_syntax.specs.declared.tree.Stmt.{Stmt, Row_of-Stmt, end_of-Stmt, more_of-Stmt, items-the_row-Stmt, the_lemmas}
use Rattle.ac_syntax.specs.declared.tree.Stmt.TheVariants.{For, For', If, If', Assign}

row : (ps xs : ℕ) (m : _) (k : Row_of-Stmt m) → ReadyIn ps xs k → ReadyAll ps xs (items-the_row-Stmt m k)
unfolding Ready
row ps xs m end_of-Stmt h = tt
row ps xs m (more_of-Stmt {n = n} s rest) h = (h.0, row ps xs n rest h.1)

of_row : (ps xs : ℕ) (m : _) (k : Row_of-Stmt m) → ReadyAll ps xs (items-the_row-Stmt m k) → ReadyIn ps xs k
unfolding Ready
of_row ps xs m end_of-Stmt h = tt
of_row ps xs m (more_of-Stmt {n = n} s rest) h = (h.0, of_row ps xs n rest h.1)

for_row : (ps xs : ℕ) (iter : List ℕ) (start : IndexExpr) (cond : Cond) (step : ℤ) (n : _) (body : Row_of-Stmt _) (place : Place) → Ready ps xs (For' iter start cond step n body place)
    → FitsForm ps xs start × FitTests ps (xs + 1) cond.parts × AllByRecursion (IsSteady xs) cond.parts × Bounded xs step cond × ReadyAll ps (xs + 1) (items-the_row-Stmt _ body)
unfolding Ready
for_row ps xs iter start cond step n body place h = (h.0, h.1, h.2, h.3, row ps (xs + 1) _ body h.4)

-- a loop that is ready
pub ready_for : (ps xs : ℕ) (iter : List ℕ) (start : IndexExpr) (cond : Cond) (step : ℤ) (body : List Stmt) (place : Place) → Ready ps xs (For iter start cond step body place)
    → FitsForm ps xs start × FitTests ps (xs + 1) cond.parts × AllByRecursion (IsSteady xs) cond.parts × Bounded xs step cond × ReadyAll ps (xs + 1) body
ready_for ps xs iter start cond step body place h =
    let r : FitsForm ps xs start × FitTests ps (xs + 1) cond.parts × AllByRecursion (IsSteady xs) cond.parts × Bounded xs step cond × ReadyAll ps (xs + 1) body = search (rules, the_lemmas, for_row ps xs iter start cond step _ _ place h) in r

if_row : (ps xs : ℕ) (c : Cond) (n : _) (taken : Row_of-Stmt _) (m : _) (other : Row_of-Stmt _) (place : Place) → Ready ps xs (If' c n taken m other place)
    → FitTests ps xs c.parts × ReadyAll ps xs (items-the_row-Stmt _ taken) × ReadyAll ps xs (items-the_row-Stmt _ other) × (0 < length c.parts)
unfolding Ready
if_row ps xs c n taken m other place h = (h.0, row ps xs _ taken h.1, row ps xs _ other h.2, h.3)

-- a branch that is ready
pub ready_if : (ps xs : ℕ) (c : Cond) (taken other : List Stmt) (place : Place) → Ready ps xs (If c taken other place)
    → FitTests ps xs c.parts × ReadyAll ps xs taken × ReadyAll ps xs other × (0 < length c.parts)
ready_if ps xs c taken other place h =
    let r : FitTests ps xs c.parts × ReadyAll ps xs taken × ReadyAll ps xs other × (0 < length c.parts) = search (rules, the_lemmas, if_row ps xs c _ _ _ _ place h) in r

-- an assignment that is ready
pub ready_assign : (ps xs : ℕ) (array : ℕ) (subs : List IndexExpr) (value : Value) (place : Place) → Ready ps xs (Assign array subs value place) → FormsFit ps xs subs × FitsValue ps xs value
unfolding Ready
ready_assign ps xs array subs value place h = h

pub assign_ready : (ps xs : ℕ) (array : ℕ) (subs : List IndexExpr) (value : Value) (place : Place) → FormsFit ps xs subs → FitsValue ps xs value → Ready ps xs (Assign array subs value place)
unfolding Ready
assign_ready ps xs array subs value place h k = (h, k)

value_row : (ps xs : ℕ) (m : _) (k : Row_of-Value m) → FitValues ps xs k → AllByRecursion (FitsValue ps xs) (items-the_row-Value m k)
unfolding FitsValue
value_row ps xs m end_of-Value h = tt
value_row ps xs m (more_of-Value {n = n} v rest) h = (h.0, value_row ps xs n rest h.1)

call_row : (ps xs : ℕ) (s : Symbol) (n : _) (args : Row_of-Value _) (place : Place) → FitsValue ps xs (Call' s n args place) → AllByRecursion (FitsValue ps xs) (items-the_row-Value _ args)
unfolding FitsValue
call_row ps xs s n args place h = value_row ps xs _ args h

-- the values of a call that fits
pub call_fits : (ps xs : ℕ) (s : Symbol) (args : List Value) (place : Place) → FitsValue ps xs (Call s args place) → AllByRecursion (FitsValue ps xs) args
call_fits ps xs s args place h = let r : AllByRecursion (FitsValue ps xs) args = search (rules, value_lemmas, call_row ps xs s _ _ place h) in r

of_value_row : (ps xs : ℕ) (m : _) (k : Row_of-Value m) → AllByRecursion (FitsValue ps xs) (items-the_row-Value m k) → FitValues ps xs k
unfolding FitsValue
of_value_row ps xs m end_of-Value h = tt
of_value_row ps xs m (more_of-Value {n = n} v rest) h = (h.0, of_value_row ps xs n rest h.1)

pub number_fits : (ps xs : ℕ) (e : IndexExpr) → FitsForm ps xs e → FitsValue ps xs (Number e)
unfolding FitsValue
number_fits ps xs e h = h

pub access_fits : (ps xs : ℕ) (array : ℕ) (subs : List IndexExpr) (place : Place) → FormsFit ps xs subs → FitsValue ps xs (Access array subs place)
unfolding FitsValue
access_fits ps xs array subs place h = h

of_for_row : (ps xs : ℕ) (iter : List ℕ) (start : IndexExpr) (cond : Cond) (step : ℤ) (n : _) (body : Row_of-Stmt _) (place : Place)
    → FitsForm ps xs start → FitTests ps (xs + 1) cond.parts → AllByRecursion (IsSteady xs) cond.parts → Bounded xs step cond → ReadyAll ps (xs + 1) (items-the_row-Stmt _ body) → Ready ps xs (For' iter start cond step n body place)
unfolding Ready
of_for_row ps xs iter start cond step n body place h k t b r = (h, k, t, b, of_row ps (xs + 1) _ body r)

-- a loop is ready where its parts are
pub for_ready : (ps xs : ℕ) (iter : List ℕ) (start : IndexExpr) (cond : Cond) (step : ℤ) (body : List Stmt) (place : Place)
    → FitsForm ps xs start → FitTests ps (xs + 1) cond.parts → AllByRecursion (IsSteady xs) cond.parts → Bounded xs step cond → ReadyAll ps (xs + 1) body → Ready ps xs (For iter start cond step body place)
for_ready ps xs iter start cond step body place h k t b r = search (rules, the_lemmas, of_for_row, h, k, t, b, r)

of_if_row : (ps xs : ℕ) (c : Cond) (n : _) (taken : Row_of-Stmt _) (m : _) (other : Row_of-Stmt _) (place : Place)
    → FitTests ps xs c.parts → ReadyAll ps xs (items-the_row-Stmt _ taken) → ReadyAll ps xs (items-the_row-Stmt _ other) → 0 < length c.parts → Ready ps xs (If' c n taken m other place)
unfolding Ready
of_if_row ps xs c n taken m other place h t o l = (h, of_row ps xs _ taken t, of_row ps xs _ other o, l)

-- a branch is ready where its parts are
pub if_ready : (ps xs : ℕ) (c : Cond) (taken other : List Stmt) (place : Place)
    → FitTests ps xs c.parts → ReadyAll ps xs taken → ReadyAll ps xs other → 0 < length c.parts → Ready ps xs (If c taken other place)
if_ready ps xs c taken other place h t o l = search (rules, the_lemmas, of_if_row, h, t, o, l)

of_call_row : (ps xs : ℕ) (s : Symbol) (n : _) (args : Row_of-Value _) (place : Place) → AllByRecursion (FitsValue ps xs) (items-the_row-Value _ args) → FitsValue ps xs (Call' s n args place)
unfolding FitsValue
of_call_row ps xs s n args place h = of_value_row ps xs _ args h

-- a call fits where its arguments do
pub fits_call : (ps xs : ℕ) (s : Symbol) (args : List Value) (place : Place) → AllByRecursion (FitsValue ps xs) args → FitsValue ps xs (Call s args place)
fits_call ps xs s args place h = search (rules, value_lemmas, of_call_row, h)

-- what makes values and statements ready
pub ruleset ready_parts = (number_fits, access_fits, fits_call, assign_ready, for_ready, if_ready)
