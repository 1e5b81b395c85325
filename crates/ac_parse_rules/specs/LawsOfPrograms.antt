-- That a program does what its text says: its statements in order and its context.
use Rattle.std.specs.Prelude.{◌≡◌, ◌↔◌, ℕ, List, [], ◌∷◌, map, true, Bool, Option, Some, None}
use Rattle.std.specs.List.{AllByRecursion}
use Rattle.ac_syntax.specs.Index.{Point, index_value, holds}
use Rattle.ac_syntax.specs.Algebra.{Cell, value_of}
use Rattle.ac_syntax.specs.Term.{Term, free}
use Rattle.ac_syntax.specs.declared.tree.Place.{Place}
use Rattle.ac_syntax.specs.declared.tree.IndexExpr.{IndexExpr}
use Rattle.ac_syntax.specs.declared.tree.Cond.{Cond}
use Rattle.ac_syntax.specs.declared.tree.Value.{Value}
use Rattle.ac_syntax.specs.declared.tree.Stmt.{Stmt}
use Rattle.ac_syntax.specs.declared.tree.Stmt.TheVariants as made
use Rattle.ac_syntax.specs.declared.tree.Program.{Program}
use Rattle.ac_parse_grammar.specs.declared.tree.Word.{Word}
use Rattle.ac_parse_grammar.specs.declared.tree.Operator.{Operator}
use Rattle.ac_parse_grammar.specs.declared.tree.Part.{Part}
use Rattle.ac_parse_grammar.specs.declared.tree.Step.{Step}
use Rattle.ac_parse_grammar.specs.declared.tree.Expr.{Expr}
use Rattle.ac_parse_grammar.specs.declared.tree.Statement.{Statement}
use Rattle.ac_parse_grammar.specs.declared.tree.Statement.TheVariants.{Loop, Branch, Assign}
use Rattle.ac_parse_grammar.specs.declared.tree.File.{File}
use Rattle.ac_parse_exprs.specs.declared.scope.Entry.{Entry}
use Rattle.ac_parse_exprs.specs.declared.scope.Scope.{Scope}
use Rattle.ac_parse_rules.specs.Declarations.{param_count, fixed_scope}
use Rattle.ac_parse_rules.specs.Statements.{inside, in_start, step_number}
use Rattle.ac_parse_rules.specs.Files.{context_parts, body_scope, names_of, file_broken, program_of}
use Rattle.ac_parse_exprs.specs.WrittenValues.{integer_of, expression_value}
use Rattle.ac_parse_exprs.specs.WrittenTerms.{target_cell, assigned_term}
use Rattle.ac_parse_exprs.specs.FormValues.{IsPointOf, IsTrueAt}

-- at each point of its scope an expression of the text has the value of an index expression of the program
abbrev pub IsIndexOf : List Entry → Scope → Expr → IndexExpr → Type 0
IsIndexOf names scope e x = (p : Point) → IsPointOf scope p → expression_value (integer_of names scope p) e ≡ Some (index_value p x)

-- a condition of the program holds just where each comparison of the text is true
abbrev pub IsConditionOf : List Entry → Scope → List Part → Cond → Type 0
IsConditionOf names scope parts cond = (p : Point) → IsPointOf scope p → (holds p cond ≡ true) ↔ AllByRecursion (IsTrueAt (integer_of names scope p)) parts

-- an assignment of the program changes the cell that the text says, and puts there what the text says
pub record AssignsAs (names : List Entry) (scope : Scope) (target : Word) (subs : List Expr) (operator : Option Operator) (e : Expr) (array : ℕ) (at : List IndexExpr) (value : Value) : Type 0 where
  pub cell : (p : Point) → IsPointOf scope p → target_cell names scope p target subs ≡ Some (record { array = array; at = map (index_value p) at })
  pub term : (p : Point) (state : Cell → Term) → IsPointOf scope p → assigned_term names scope p state target subs operator e ≡ Some (value_of free p state value)

-- the statements of the program are those of the text, one for one and in order: a loop with its name, start, condition and step, a
-- branch with its condition and both sides, an assignment with its target and its right side
mutual
  pub data IsStatementOf (names : List Entry) : Scope → Statement → Stmt → Type 0 where
    loop : {scope : Scope} {typed : Bool} {name : Word} {start : Expr} {cond : List Part} {step : Step} {body : List Statement} {place : Place} {first : IndexExpr} {test : Cond} {made_body : List Stmt}
        → IsIndexOf names (in_start scope typed name.name) start first → IsConditionOf names (inside scope name.name) cond test → AreStatementsOf names (inside scope name.name) body made_body
        → IsStatementOf names scope (Loop typed name start cond step body place) (made.For name.name first test (step_number step) made_body place)
    branch : {scope : Scope} {cond : List Part} {taken other : List Statement} {place : Place} {test : Cond} {made_taken made_other : List Stmt}
        → IsConditionOf names scope cond test → AreStatementsOf names scope taken made_taken → AreStatementsOf names scope other made_other
        → IsStatementOf names scope (Branch cond taken other place) (made.If test made_taken made_other place)
    assignment : {scope : Scope} {target : Word} {subs : List Expr} {operator : Option Operator} {e : Expr} {array : ℕ} {at : List IndexExpr} {value : Value}
        → AssignsAs names scope target subs operator e array at value
        → IsStatementOf names scope (Assign target subs operator e) (made.Assign array at value target.place)

  pub data AreStatementsOf (names : List Entry) : Scope → List Statement → List Stmt → Type 0 where
    no_statement : {scope : Scope} → AreStatementsOf names scope [] []
    one_more : {scope : Scope} {s : Statement} {ss : List Statement} {t : Stmt} {ts : List Stmt} → IsStatementOf names scope s t → AreStatementsOf names scope ss ts → AreStatementsOf names scope (s ∷ ss) (t ∷ ts)

-- the program of a file that breaks no rule does what the file says, in a context that is the file's
pub record DoesAs (file : File) (program : Program) : Type 0 where
  pub body : AreStatementsOf (names_of file) (body_scope (param_count file.params)) file.body program.body
  pub context : IsConditionOf (names_of file) (fixed_scope (param_count file.params)) (context_parts file.pragmas) program.context

abbrev pub ProgramsDoAsWritten : Type 0
ProgramsDoAsWritten = (file : File) → file_broken file ≡ None → DoesAs file (program_of file)
