-- The statements of a program have words and names, where its numbers are small and its arrays are there.
use Rattle.std.specs.Prelude.{ℕ, ℤ, List, [], ◌∷◌, length}
use Rattle.std.specs.List.{AllByRecursion}
use Rattle.std.proofs.Common.{rules}
use Rattle.ac_syntax.specs.Small.{IsSmall, IsSmallStmt, AreSmallStmts}
use Rattle.ac_syntax.specs.declared.tree.Array.{Array}
use Rattle.ac_syntax.specs.declared.tree.Cond.{Cond}
use Rattle.ac_syntax.specs.declared.tree.IndexExpr.{IndexExpr}
use Rattle.ac_syntax.specs.declared.tree.Place.{Place}
use Rattle.ac_syntax.specs.declared.tree.Value.{Value}
use Rattle.ac_syntax.specs.declared.tree.Stmt.{Stmt, Row_of-Stmt, end_of-Stmt, more_of-Stmt, items-the_row-Stmt, the_lemmas}
use Rattle.ac_syntax.specs.declared.tree.Stmt.TheVariants as s
use Rattle.ac_parse_rules.specs.DeclaredNumbers.{ArraysOf, ArraysIn}
use Rattle.ac_parse_roundtrip.specs.ProgramWords.{HasStmtWords, HaveStmtWords}
use Rattle.ac_parse_roundtrip.specs.GrammarPrograms.{HasSome, HasStatementNames, HaveStatementNames}
use Rattle.ac_parse_roundtrip.proofs.NameTerminals.{IsNamed}
use Rattle.ac_parse_roundtrip.proofs.NamedValues.{small_fits, form_named, forms_named, parts_named, AreNamedArrays, array_named, IsNamedValue}

module _ (arrays : List Array) (named : AreNamedArrays arrays) where
  -- where its numbers are small and its arrays are there, a statement has words and names
  pub record IsNamedStmt (x : Stmt) : Type 0 where
    pub has : IsSmallStmt x → ArraysOf (length arrays) x → HasStmtWords arrays x × HasStatementNames arrays x

  record IsNamedLoop (iter : List ℕ) (cond : Cond) (by : ℤ) (body : List Stmt) : Type 0 where
    name : IsNamed iter
    some : HasSome cond.parts
    small : IsSmall by
    each : AllByRecursion IsNamedStmt body

  record IsNamedBranch (cond : Cond) (taken other : List Stmt) : Type 0 where
    some : HasSome cond.parts
    each : AllByRecursion IsNamedStmt taken
    each_other : AllByRecursion IsNamedStmt other

  row_named : (m : _) (body : Row_of-Stmt m) → AllByRecursion IsNamedStmt (items-the_row-Stmt m body) → AreSmallStmts body → ArraysIn (length arrays) body
      → HaveStmtWords arrays body × HaveStatementNames arrays body
  unfolding HasStmtWords HasStatementNames IsSmallStmt ArraysOf
  row_named m end_of-Stmt h small there = (tt, tt)
  row_named m (more_of-Stmt {n = n} x rest) h small there =
      let a = h.0.has small.0 there.0 in
      let r = row_named n rest h.1 small.1 there.1 in
      ((a.0, r.0), (a.1, r.1))

  loop_row : (iter : List ℕ) (start : IndexExpr) (cond : Cond) (by : ℤ) (n : _) (body : Row_of-Stmt _) (place : Place)
      → IsNamedLoop iter cond by (items-the_row-Stmt _ body) → IsNamedStmt (s.For' iter start cond by n body place)
  unfolding HasStmtWords HasStatementNames IsSmallStmt ArraysOf
  loop_row iter start cond by n body place h = record {
    has = λ small there.
        let f = form_named start small.0 in
        let c = parts_named cond.parts small.1 in
        let r = row_named _ body h.each small.2 there in
        ((h.name.word, f.0, c.0, small_fits by h.small, r.0), (h.name.name, f.1, record { some = h.some; literals = c.1 }, h.small, r.1));
  }

  loop_by_row : (iter : List ℕ) (start : IndexExpr) (cond : Cond) (by : ℤ) (body : List Stmt) (place : Place) → IsNamedLoop iter cond by body → IsNamedStmt (s.For iter start cond by body place)
  loop_by_row iter start cond by body place h = search (rules, the_lemmas, loop_row, h)

  pub loop_named : (iter : List ℕ) (start : IndexExpr) (cond : Cond) (by : ℤ) (body : List Stmt) (place : Place)
      → IsNamed iter → HasSome cond.parts → IsSmall by → AllByRecursion IsNamedStmt body → IsNamedStmt (s.For iter start cond by body place)
  loop_named iter start cond by body place is c b h = loop_by_row iter start cond by body place (record { name = is; some = c; small = b; each = h })

  branch_row : (cond : Cond) (n : _) (taken : Row_of-Stmt _) (m : _) (other : Row_of-Stmt _) (place : Place)
      → IsNamedBranch cond (items-the_row-Stmt _ taken) (items-the_row-Stmt _ other) → IsNamedStmt (s.If' cond n taken m other place)
  unfolding HasStmtWords HasStatementNames IsSmallStmt ArraysOf
  branch_row cond n taken m other place h = record {
    has = λ small there.
        let c = parts_named cond.parts small.0 in
        let r = row_named _ taken h.each small.1 there.0 in
        let o = row_named _ other h.each_other small.2 there.1 in
        ((c.0, r.0, o.0), (record { some = h.some; literals = c.1 }, r.1, o.1));
  }

  branch_by_row : (cond : Cond) (taken other : List Stmt) (place : Place) → IsNamedBranch cond taken other → IsNamedStmt (s.If cond taken other place)
  branch_by_row cond taken other place h = search (rules, the_lemmas, branch_row, h)

  pub branch_named : (cond : Cond) (taken other : List Stmt) (place : Place)
      → HasSome cond.parts → AllByRecursion IsNamedStmt taken → AllByRecursion IsNamedStmt other → IsNamedStmt (s.If cond taken other place)
  branch_named cond taken other place c h k = branch_by_row cond taken other place (record { some = c; each = h; each_other = k })

  pub assign_named : (array : ℕ) (subs : List IndexExpr) (value : Value) (place : Place) → IsNamedValue arrays named value → IsNamedStmt (s.Assign array subs value place)
  unfolding HasStmtWords HasStatementNames IsSmallStmt ArraysOf
  assign_named array subs value place h = record {
    has = λ small there.
        let r = forms_named subs small.0 in
        let x = h.has small.1 there.1 in
        ((there.0, r.0, x.0), (array_named arrays array named there.0, r.1, x.1));
  }

  pub stmts_named : (xs : List Stmt) → AllByRecursion IsNamedStmt xs → AllByRecursion IsSmallStmt xs → AllByRecursion (ArraysOf (length arrays)) xs
      → AllByRecursion (HasStmtWords arrays) xs × AllByRecursion (HasStatementNames arrays) xs
  stmts_named [] h small there = (tt, tt)
  stmts_named (x ∷ xs) h small there =
      let a = h.0.has small.0 there.0 in
      let r = stmts_named xs h.1 small.1 there.1 in
      ((a.0, r.0), (a.1, r.1))
