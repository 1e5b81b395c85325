-- The numbers of an arranged pair are small where those of the old pair are.
use Rattle.std.proofs.Common.{ℕ, ◌+◌, List, [], ◌∷◌, ℤ, rules}
use Rattle.std.specs.List.{AllByRecursion}
use Rattle.ac_syntax.specs.Trace.{assignments, assignments_in}
use Rattle.ac_syntax.specs.Small.{IsSmallForm, AreSmallParts, IsSmallValue, AreSmallValues, IsSmallStmt, AreSmallStmts}
use Rattle.ac_syntax.specs.declared.tree.Cond.{Cond}
use Rattle.ac_syntax.specs.declared.tree.IndexExpr.{IndexExpr}
use Rattle.ac_syntax.specs.declared.tree.Place.{Place}
use Rattle.ac_syntax.specs.declared.tree.Symbol.{Symbol}
use Rattle.ac_syntax.specs.declared.tree.Value.{Value, Row_of-Value, end_of-Value, more_of-Value, items-the_row-Value, the_lemmas}
use Rattle.ac_syntax.specs.declared.tree.Value.TheVariants.{Call, Call'}
use Rattle.ac_syntax.specs.declared.tree.Stmt.{Stmt, Row_of-Stmt, end_of-Stmt, more_of-Stmt, items-the_row-Stmt, the_lemmas as stmt_lemmas}
use Rattle.ac_syntax.specs.declared.tree.Stmt.TheVariants.{For, For', If, If', Assign}
use Rattle.ac_assoc_law.specs.ArrangedPairs.{arranged, arranged_stmt, arranged_body, arranged_all}
use Rattle.ac_assoc_law.specs.LawsOfArrangements.{ArrangedPairsAreSmall}
use Rattle.ac_assoc_law.proofs.Staying.{Passes, value_stays}

of_row : (m : _) (k : Row_of-Value m) → AllByRecursion IsSmallValue (items-the_row-Value m k) → AreSmallValues k
unfolding IsSmallValue
of_row m end_of-Value h = tt
of_row m (more_of-Value {n = n} v rest) h = (h.0, of_row n rest h.1)

call_row : (s : Symbol) (n : _) (args : Row_of-Value _) (place : Place) → AllByRecursion IsSmallValue (items-the_row-Value _ args) → IsSmallValue (Call' s n args place)
unfolding IsSmallValue
call_row s n args place h = of_row _ args h

whole_call : (s : Symbol) (args : List Value) (place : Place) → AllByRecursion IsSmallValue args → IsSmallValue (Call s args place)
whole_call s args place h = search (rules, the_lemmas, call_row, h)

pass : Passes IsSmallValue (λ m k. AreSmallValues k)
unfolding IsSmallValue
pass = record { args = λ s n args place h. h; split = λ n v rest h. h; call = λ s args place h. whole_call s args place h }

body_row : (m : _) (k : Row_of-Stmt m) → AllByRecursion IsSmallStmt (items-the_row-Stmt m k) → AreSmallStmts k
unfolding IsSmallStmt
body_row m end_of-Stmt h = tt
body_row m (more_of-Stmt {n = n} s rest) h = (h.0, body_row n rest h.1)

for_row : (iter : List ℕ) (start : IndexExpr) (c : Cond) (step : ℤ) (n : _) (body : Row_of-Stmt _) (place : Place) → IsSmallForm start → AreSmallParts c.parts → AllByRecursion IsSmallStmt (items-the_row-Stmt _ body) → IsSmallStmt (For' iter start c step n body place)
unfolding IsSmallStmt
for_row iter start c step n body place i p h = (i, p, body_row _ body h)

for_whole : (iter : List ℕ) (start : IndexExpr) (c : Cond) (step : ℤ) (body : List Stmt) (place : Place) → IsSmallForm start → AreSmallParts c.parts → AllByRecursion IsSmallStmt body → IsSmallStmt (For iter start c step body place)
for_whole iter start c step body place i p h = search (rules, stmt_lemmas, for_row, i, p, h)

if_row : (c : Cond) (n : _) (taken : Row_of-Stmt _) (m : _) (other : Row_of-Stmt _) (place : Place) → AreSmallParts c.parts → AllByRecursion IsSmallStmt (items-the_row-Stmt _ taken) → AllByRecursion IsSmallStmt (items-the_row-Stmt _ other)
    → IsSmallStmt (If' c n taken m other place)
unfolding IsSmallStmt
if_row c n taken m other place p t o = (p, body_row _ taken t, body_row _ other o)

if_whole : (c : Cond) (taken other : List Stmt) (place : Place) → AreSmallParts c.parts → AllByRecursion IsSmallStmt taken → AllByRecursion IsSmallStmt other → IsSmallStmt (If c taken other place)
if_whole c taken other place p t o = search (rules, stmt_lemmas, if_row, p, t, o)

module _ (names : List (List ℕ)) (choice : ℕ → ℕ → ℕ) where
  mutual
    unfolding IsSmallStmt arranged_stmt

    stmt_stays : (first : ℕ) (s : Stmt) → IsSmallStmt s → IsSmallStmt (arranged_stmt names choice first s)
    stmt_stays first (For' iter start c step n body place) h = for_whole iter start c step (arranged_body names choice first body) place h.0 h.1 (body_stays first body h.2)
    stmt_stays first (If' c n taken m other place) h =
        if_whole c (arranged_body names choice first taken) (arranged_body names choice (first + assignments_in taken) other) place h.0 (body_stays first taken h.1) (body_stays (first + assignments_in taken) other h.2)
    stmt_stays first (Assign array subs value place) h = (h.0, value_stays IsSmallValue (λ m k. AreSmallValues k) pass names (choice first) 0 value h.1)

    body_stays : (first : ℕ) {m : _} (body : Row_of-Stmt m) → AreSmallStmts body → AllByRecursion IsSmallStmt (arranged_body names choice first body)
    body_stays first end_of-Stmt h = tt
    body_stays first (more_of-Stmt s rest) h = (stmt_stays first s h.0, body_stays (first + assignments s) rest h.1)

  all_stay : (first : ℕ) (ss : List Stmt) → AllByRecursion IsSmallStmt ss → AllByRecursion IsSmallStmt (arranged_all names choice first ss)
  all_stay first [] h = tt
  all_stay first (s ∷ ss) h = (stmt_stays first s h.0, all_stay (first + assignments s) ss h.1)

pub pairs_are_small : ArrangedPairsAreSmall
pairs_are_small names choice pair h = record {
  left = record { body = all_stay names (λ stmt node. 0) 0 pair.left.body h.left.body; context = h.left.context; extents = h.left.extents };
  right = record { body = all_stay names choice 0 pair.right.body h.right.body; context = h.right.context; extents = h.right.extents };
  context = h.context;
}
