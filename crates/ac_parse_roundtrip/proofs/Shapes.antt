-- The trees of statements have as many targets as there are assignments, and no loop goes without a type.
use Rattle.std.proofs.Common.{◌≡◌, ℕ, List, [], ◌∷◌, length, refl, ap, ◌∙◌, false, None}
use Rattle.std.specs.List.{list_any}
use Rattle.std.proofs.lemmas.List.{length-append}
use Rattle.ac_syntax.specs.declared.tree.Stmt.{Stmt, Row_of-Stmt, end_of-Stmt, more_of-Stmt}
use Rattle.ac_syntax.specs.declared.tree.Stmt.TheVariants.{For', If', Assign}
use Rattle.ac_syntax.specs.Text as text
use Rattle.ac_parse_grammar.specs.declared.tree.Statement.{Statement}
use Rattle.ac_parse_rules.specs.Declarations.{runs}
use Rattle.ac_parse_rules.specs.Statements.{targets, all_targets}
use Rattle.ac_parse_rules.proofs.Running.{runs-loop, runs-branch, runs-assign}
use Rattle.ac_parse_rules.proofs.Stepping.{targets-loop, targets-branch, targets-assign}
use Rattle.ac_parse_roundtrip.specs.CanonicalTrees.{Each, IsStatementTree, AreStatementTrees}
use Rattle.ac_parse_roundtrip.specs.CanonicalPrograms.{assignments, assignments_in, all_assignments}

module _ (name : List ℕ) where
  mutual
    unfolding IsStatementTree AreStatementTrees

    typed : (written : text.Scope) (s : Stmt) (tree : Statement) → IsStatementTree written s tree → runs name tree ≡ false
    typed written (For' iter start cond by n body place) tree t =
        ap (runs name) t.11 ∙ runs-loop name _ t.0 t.1 t.2 t.3 t.4 t.5 ∙ typed_in (text.inside written iter) body t.4 t.10
    typed written (If' cond n taken m other place) tree t =
        ap (runs name) t.7 ∙ runs-branch name t.0 t.1 t.2 t.3 ∙ rw (typed_in written taken t.1 t.5, typed_in written other t.2 t.6) refl
    typed written (Assign array subs v place) tree t = ap (runs name) t.6 ∙ runs-assign name t.0 t.1 None t.2

    typed_in : (written : text.Scope) {m : _} (row : Row_of-Stmt m) (trees : List Statement) → AreStatementTrees written row trees → list_any (runs name) trees ≡ false
    typed_in written end_of-Stmt trees t = rw t refl
    typed_in written (more_of-Stmt s rest) trees t =
        ap (list_any (runs name)) t.4 ∙ rw (typed written s t.0 t.2, typed_in written rest t.1 t.3) refl

  -- no loop of a body goes without a type
  pub all_typed : (written : text.Scope) (ss : List Stmt) (trees : List Statement) → Each (IsStatementTree written) ss trees → list_any (runs name) trees ≡ false
  all_typed written [] [] t = refl
  all_typed written [] (tree ∷ trees) t = absurd t
  all_typed written (s ∷ ss) [] t = absurd t
  all_typed written (s ∷ ss) (tree ∷ trees) t = rw (typed written s tree t.0, all_typed written ss trees t.1) refl

mutual
  unfolding IsStatementTree AreStatementTrees assignments assignments_in

  counted : (written : text.Scope) (s : Stmt) (tree : Statement) → IsStatementTree written s tree → length (targets tree) ≡ assignments s
  counted written (For' iter start cond by n body place) tree t =
      ap (λ x. length (targets x)) t.11 ∙ ap length (targets-loop _ t.0 t.1 t.2 t.3 t.4 t.5) ∙ counted_in (text.inside written iter) body t.4 t.10
  counted written (If' cond n taken m other place) tree t =
      ap (λ x. length (targets x)) t.7 ∙ ap length (targets-branch t.0 t.1 t.2 t.3) ∙ length-append (all_targets t.1) (all_targets t.2)
      ∙ rw (counted_in written taken t.1 t.5, counted_in written other t.2 t.6) refl
  counted written (Assign array subs v place) tree t = ap (λ x. length (targets x)) t.6 ∙ ap length (targets-assign t.0 t.1 None t.2)

  counted_in : (written : text.Scope) {m : _} (row : Row_of-Stmt m) (trees : List Statement) → AreStatementTrees written row trees → length (all_targets trees) ≡ assignments_in row
  counted_in written end_of-Stmt trees t = rw t refl
  counted_in written (more_of-Stmt s rest) trees t =
      ap (λ xs. length (all_targets xs)) t.4 ∙ length-append (targets t.0) (all_targets t.1) ∙ rw (counted written s t.0 t.2, counted_in written rest t.1 t.3) refl

-- a body has as many targets as assignments
pub all_counted : (written : text.Scope) (ss : List Stmt) (trees : List Statement) → Each (IsStatementTree written) ss trees → length (all_targets trees) ≡ all_assignments ss
all_counted written [] [] t = refl
all_counted written [] (tree ∷ trees) t = absurd t
all_counted written (s ∷ ss) [] t = absurd t
all_counted written (s ∷ ss) (tree ∷ trees) t = length-append (targets tree) (all_targets trees) ∙ rw (counted written s tree t.0, all_counted written ss trees t.1) refl
