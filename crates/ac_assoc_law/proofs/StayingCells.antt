-- The cells of an arranged pair have the dimensions of their arrays.
use Rattle.std.proofs.Common.{ℕ, ◌+◌, List, [], ◌∷◌, ℤ, rules}
use Rattle.std.specs.List.{AllByRecursion}
use Rattle.ac_syntax.specs.Trace.{assignments, assignments_in}
use Rattle.ac_syntax.specs.Dimensions.{ReadsCells, EachReadsCells, UsesCells, EachUsesCells}
use Rattle.ac_syntax.specs.declared.tree.Array.{Array}
use Rattle.ac_syntax.specs.declared.tree.Cond.{Cond}
use Rattle.ac_syntax.specs.declared.tree.IndexExpr.{IndexExpr}
use Rattle.ac_syntax.specs.declared.tree.Place.{Place}
use Rattle.ac_syntax.specs.declared.tree.Symbol.{Symbol}
use Rattle.ac_syntax.specs.declared.tree.Value.{Value, Row_of-Value, end_of-Value, more_of-Value, items-the_row-Value, the_lemmas}
use Rattle.ac_syntax.specs.declared.tree.Value.TheVariants.{Call, Call'}
use Rattle.ac_syntax.specs.declared.tree.Stmt.{Stmt, Row_of-Stmt, end_of-Stmt, more_of-Stmt, items-the_row-Stmt, the_lemmas as stmt_lemmas}
use Rattle.ac_syntax.specs.declared.tree.Stmt.TheVariants.{For, For', If, If', Assign}
use Rattle.ac_assoc_law.specs.ArrangedPairs.{arranged, arranged_stmt, arranged_body, arranged_all}
use Rattle.ac_assoc_law.specs.LawsOfArrangements.{ArrangedPairsHaveDimensions}
use Rattle.ac_assoc_law.proofs.Staying.{Passes, value_stays}

of_row : (arrays : List Array) (m : _) (k : Row_of-Value m) → AllByRecursion (ReadsCells arrays) (items-the_row-Value m k) → EachReadsCells arrays k
unfolding ReadsCells
of_row arrays m end_of-Value h = tt
of_row arrays m (more_of-Value {n = n} v rest) h = (h.0, of_row arrays n rest h.1)

call_row : (arrays : List Array) (s : Symbol) (n : _) (args : Row_of-Value _) (place : Place) → AllByRecursion (ReadsCells arrays) (items-the_row-Value _ args) → ReadsCells arrays (Call' s n args place)
unfolding ReadsCells
call_row arrays s n args place h = of_row arrays _ args h

whole_call : (arrays : List Array) (s : Symbol) (args : List Value) (place : Place) → AllByRecursion (ReadsCells arrays) args → ReadsCells arrays (Call s args place)
whole_call arrays s args place h = search (rules, the_lemmas, call_row, h)

pass : (arrays : List Array) → Passes (ReadsCells arrays) (λ m k. EachReadsCells arrays k)
unfolding ReadsCells
pass arrays = record { args = λ s n args place h. h; split = λ n v rest h. h; call = λ s args place h. whole_call arrays s args place h }

body_row : (arrays : List Array) (m : _) (k : Row_of-Stmt m) → AllByRecursion (UsesCells arrays) (items-the_row-Stmt m k) → EachUsesCells arrays k
unfolding UsesCells
body_row arrays m end_of-Stmt h = tt
body_row arrays m (more_of-Stmt {n = n} s rest) h = (h.0, body_row arrays n rest h.1)

for_row : (arrays : List Array) (iter : List ℕ) (start : IndexExpr) (c : Cond) (step : ℤ) (n : _) (body : Row_of-Stmt _) (place : Place) → AllByRecursion (UsesCells arrays) (items-the_row-Stmt _ body) → UsesCells arrays (For' iter start c step n body place)
unfolding UsesCells
for_row arrays iter start c step n body place h = body_row arrays _ body h

for_whole : (arrays : List Array) (iter : List ℕ) (start : IndexExpr) (c : Cond) (step : ℤ) (body : List Stmt) (place : Place) → AllByRecursion (UsesCells arrays) body → UsesCells arrays (For iter start c step body place)
for_whole arrays iter start c step body place h = search (rules, stmt_lemmas, for_row, h)

if_row : (arrays : List Array) (c : Cond) (n : _) (taken : Row_of-Stmt _) (m : _) (other : Row_of-Stmt _) (place : Place) → AllByRecursion (UsesCells arrays) (items-the_row-Stmt _ taken) → AllByRecursion (UsesCells arrays) (items-the_row-Stmt _ other)
    → UsesCells arrays (If' c n taken m other place)
unfolding UsesCells
if_row arrays c n taken m other place t o = (body_row arrays _ taken t, body_row arrays _ other o)

if_whole : (arrays : List Array) (c : Cond) (taken other : List Stmt) (place : Place) → AllByRecursion (UsesCells arrays) taken → AllByRecursion (UsesCells arrays) other → UsesCells arrays (If c taken other place)
if_whole arrays c taken other place t o = search (rules, stmt_lemmas, if_row, t, o)

module _ (arrays : List Array) (names : List (List ℕ)) (choice : ℕ → ℕ → ℕ) where
  mutual
    unfolding UsesCells arranged_stmt

    stmt_stays : (first : ℕ) (s : Stmt) → UsesCells arrays s → UsesCells arrays (arranged_stmt names choice first s)
    stmt_stays first (For' iter start c step n body place) h = for_whole arrays iter start c step (arranged_body names choice first body) place (body_stays first body h)
    stmt_stays first (If' c n taken m other place) h =
        if_whole arrays c (arranged_body names choice first taken) (arranged_body names choice (first + assignments_in taken) other) place (body_stays first taken h.0) (body_stays (first + assignments_in taken) other h.1)
    stmt_stays first (Assign array subs value place) h = (h.0, value_stays (ReadsCells arrays) (λ m k. EachReadsCells arrays k) (pass arrays) names (choice first) 0 value h.1)

    body_stays : (first : ℕ) {m : _} (body : Row_of-Stmt m) → EachUsesCells arrays body → AllByRecursion (UsesCells arrays) (arranged_body names choice first body)
    body_stays first end_of-Stmt h = tt
    body_stays first (more_of-Stmt s rest) h = (stmt_stays first s h.0, body_stays (first + assignments s) rest h.1)

  all_stay : (first : ℕ) (ss : List Stmt) → AllByRecursion (UsesCells arrays) ss → AllByRecursion (UsesCells arrays) (arranged_all names choice first ss)
  all_stay first [] h = tt
  all_stay first (s ∷ ss) h = (stmt_stays first s h.0, all_stay (first + assignments s) ss h.1)

pub pairs_have_dimensions : ArrangedPairsHaveDimensions
pairs_have_dimensions names choice pair left right = (all_stay pair.left.arrays names (λ stmt node. 0) 0 pair.left.body left, all_stay pair.right.arrays names choice 0 pair.right.body right)
