-- Calls and statements are readable where their parts are, at lists.
use Rattle.std.proofs.Common.{◌≡◌, ◌≤◌, ℕ, ℤ, List, length, refl, sym, ap, subst, ◌∙◌, rules, Bool, true, false, not, ◌||◌, min, arith}
use Rattle.std.specs.List.{AllByRecursion, list_any}
use Rattle.ac_syntax.specs.ValueNodes.{size}
use Rattle.ac_syntax.specs.Text.{is_operator, is_decimal}
use Rattle.ac_syntax.specs.Text as text
use Rattle.ac_syntax.specs.declared.tree.Cond.{Cond}
use Rattle.ac_syntax.specs.declared.tree.IndexExpr.{IndexExpr}
use Rattle.ac_syntax.specs.declared.tree.Place.{Place}
use Rattle.ac_syntax.specs.declared.tree.Symbol.{Symbol}
use Rattle.ac_syntax.specs.declared.tree.Value.{Value, Row_of-Value, end_of-Value, more_of-Value, items-the_row-Value, the_lemmas}
use Rattle.ac_syntax.specs.declared.tree.Value.TheVariants.{Number, Access, Call, Call'}
use Rattle.ac_syntax.specs.declared.tree.Stmt.{Stmt, Row_of-Stmt, end_of-Stmt, more_of-Stmt, items-the_row-Stmt}
use Rattle.ac_syntax.specs.declared.tree.Stmt as of_stmt
use Rattle.ac_syntax.specs.declared.tree.Stmt.TheVariants as s
use Rattle.ac_parse_exprs.specs.declared.scope.Meaning.TheVariants.{Nothing}
use Rattle.ac_parse_exprs.specs.declared.scope.Entry.{Entry}
use Rattle.ac_parse_exprs.specs.declared.scope.Scope.{Scope}
use Rattle.ac_parse_rules.specs.Statements.{inside, in_test, in_start}
use Rattle.ac_parse_exprs.specs.Values.{placed}
use Rattle.ac_parse_roundtrip.specs.GrammarPrograms.{count}
use Rattle.ac_parse_roundtrip.specs.ColumnNames.{Stands, FitsScope, FitScope, PartsFitScope}
use Rattle.ac_parse_roundtrip.specs.ReadableStatements.{ArrayStands, is_number, some_other, FitsCall, IsReadable, AreReadable, FitsLoop, IsReadableStmt, AreReadableStmts}

-- ---- values

counted : (m : _) (args : Row_of-Value m) → length (items-the_row-Value m args) ≡ count args
counted m end_of-Value = refl
counted m (more_of-Value {n = n} v rest) = let e = counted n rest in omega (arith, e)

-- some value of a list is no number
abbrev pub any_other : List Value → Bool
any_other args = list_any (λ v. not (is_number v)) args

others_same : (m : _) (args : Row_of-Value m) → any_other (items-the_row-Value m args) ≡ some_other args
others_same m end_of-Value = refl
others_same m (more_of-Value {n = n} v rest) = ap (λ b. not (is_number v) || b) (others_same n rest)

pub other_placed : (place : Place) (v : Value) → is_number (placed place v) ≡ is_number v
other_placed place (Number e) = refl
other_placed place (Access array subs p) = refl
other_placed place (Call' symbol n args p) = refl

module _ (names : List Entry) (scope : Scope) (written : text.Scope) where
  -- a call of arguments
  pub record FitsArguments (symbol : Symbol) (args : List Value) : Type 0 where
    pub arity : symbol.arity ≡ min (length args) 255
    pub operator : is_operator symbol.name ≡ true → any_other args ≡ true
    pub function : is_operator symbol.name ≡ false → is_decimal symbol.name ≡ false → Stands names scope symbol.name Nothing
    pub each : AllByRecursion (IsReadable names scope written) args

  row_readable : (m : _) (args : Row_of-Value m) → AllByRecursion (IsReadable names scope written) (items-the_row-Value m args) → AreReadable names scope written args
  unfolding IsReadable
  row_readable m end_of-Value h = tt
  row_readable m (more_of-Value {n = n} v rest) h = (h.0, row_readable n rest h.1)

  fits_row : (symbol : Symbol) (m : _) (args : Row_of-Value m) → FitsArguments symbol (items-the_row-Value m args) → FitsCall names scope symbol (count args) (some_other args)
  fits_row symbol m args h = record {
    arity = subst (λ n. symbol.arity ≡ min n 255) (counted m args) h.arity;
    operator = λ o. sym (others_same m args) ∙ h.operator o;
    function = h.function;
  }

  call_row : (symbol : Symbol) (n : _) (args : Row_of-Value _) (place : Place) → FitsArguments symbol (items-the_row-Value _ args) → IsReadable names scope written (Call' symbol n args place)
  unfolding IsReadable
  call_row symbol n args place h = (fits_row symbol _ args h, row_readable _ args h.each)

  pub call_readable : (symbol : Symbol) (args : List Value) (place : Place) → FitsArguments symbol args → IsReadable names scope written (Call symbol args place)
  call_readable symbol args place h = search (rules, the_lemmas, call_row, h)

  pub call_other : (symbol : Symbol) (args : List Value) (place : Place) → is_number (Call symbol args place) ≡ false
  call_other symbol args place = search (rules, the_lemmas)

  pub number_readable : (e : IndexExpr) → FitsScope names scope written e → IsReadable names scope written (Number e)
  unfolding IsReadable
  number_readable e h = h

  pub access_readable : (array : ℕ) (subs : List IndexExpr) (place : Place) → ArrayStands names scope written array (length subs) → FitScope names scope written subs → IsReadable names scope written (Access array subs place)
  unfolding IsReadable
  access_readable array subs place h k = (h, k)

  placed_form_fits : (place : Place) (e : IndexExpr) → FitsScope names scope written e → FitsScope names scope written (record { konst = e.konst; params = e.params; iters = e.iters; quots = e.quots; place = place })
  placed_form_fits place e h = record {
    columns = h.columns;
    quotients = h.quotients;
    distinct = h.distinct;
    few = h.few;
  }

  pub placed_readable : (place : Place) (v : Value) → IsReadable names scope written v → IsReadable names scope written (placed place v)
  unfolding IsReadable
  placed_readable place (Number e) h = placed_form_fits place e h
  placed_readable place (Access array subs p) h = h
  placed_readable place (Call' symbol n args p) h = h

-- ---- statements

module _ (names : List Entry) where
  stmts_row : (scope : Scope) (written : text.Scope) (m : _) (body : Row_of-Stmt m) → AllByRecursion (IsReadableStmt names scope written) (items-the_row-Stmt m body) → AreReadableStmts names scope written body
  unfolding IsReadableStmt
  stmts_row scope written m end_of-Stmt h = tt
  stmts_row scope written m (more_of-Stmt {n = n} x rest) h = (h.0, stmts_row scope written n rest h.1)

  pub record IsReadableLoop (scope : Scope) (written : text.Scope) (iter : List ℕ) (start : IndexExpr) (cond : Cond) (step : ℤ) (body : List Stmt) : Type 0 where
    pub fits : FitsLoop names scope iter cond step
    pub begins : FitsScope names (in_start scope true iter) written start
    pub runs : PartsFitScope names (in_test scope iter) (text.inside written iter) cond.parts
    pub each : AllByRecursion (IsReadableStmt names (inside scope iter) (text.inside written iter)) body

  loop_row : (scope : Scope) (written : text.Scope) (iter : List ℕ) (start : IndexExpr) (cond : Cond) (step : ℤ) (n : _) (body : Row_of-Stmt _) (place : Place)
      → IsReadableLoop scope written iter start cond step (items-the_row-Stmt _ body) → IsReadableStmt names scope written (s.For' iter start cond step n body place)
  unfolding IsReadableStmt
  loop_row scope written iter start cond step n body place h = (h.fits, h.begins, h.runs, stmts_row (inside scope iter) (text.inside written iter) _ body h.each)

  pub loop_readable : (scope : Scope) (written : text.Scope) (iter : List ℕ) (start : IndexExpr) (cond : Cond) (step : ℤ) (body : List Stmt) (place : Place)
      → IsReadableLoop scope written iter start cond step body → IsReadableStmt names scope written (s.For iter start cond step body place)
  loop_readable scope written iter start cond step body place h = search (rules, of_stmt.the_lemmas, loop_row, h)

  pub record IsReadableBranch (scope : Scope) (written : text.Scope) (cond : Cond) (taken other : List Stmt) : Type 0 where
    pub decides : PartsFitScope names scope written cond.parts
    pub each : AllByRecursion (IsReadableStmt names scope written) taken
    pub each_other : AllByRecursion (IsReadableStmt names scope written) other

  branch_row : (scope : Scope) (written : text.Scope) (cond : Cond) (n : _) (taken : Row_of-Stmt _) (m : _) (other : Row_of-Stmt _) (place : Place)
      → IsReadableBranch scope written cond (items-the_row-Stmt _ taken) (items-the_row-Stmt _ other) → IsReadableStmt names scope written (s.If' cond n taken m other place)
  unfolding IsReadableStmt
  branch_row scope written cond n taken m other place h = (h.decides, stmts_row scope written _ taken h.each, stmts_row scope written _ other h.each_other)

  pub branch_readable : (scope : Scope) (written : text.Scope) (cond : Cond) (taken other : List Stmt) (place : Place) → IsReadableBranch scope written cond taken other → IsReadableStmt names scope written (s.If cond taken other place)
  branch_readable scope written cond taken other place h = search (rules, of_stmt.the_lemmas, branch_row, h)

  pub assign_readable : (scope : Scope) (written : text.Scope) (array : ℕ) (subs : List IndexExpr) (v : Value) (place : Place)
      → ArrayStands names scope written array (length subs) → FitScope names scope written subs → IsReadable names scope written v → size v ≤ 64 → IsReadableStmt names scope written (s.Assign array subs v place)
  unfolding IsReadableStmt
  assign_readable scope written array subs v place a b c d = (a, b, c, d)
