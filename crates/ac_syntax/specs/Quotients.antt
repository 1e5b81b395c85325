-- The quotients of an assignment: those of the starts and conditions of the loops around it, of the conditions of the branches
-- around it, of its value and of its subscripts, in the order of evaluation, equal ones once. A test of a divisor counts as the
-- quotient by it.
use Rattle.std.specs.Prelude.{ℕ, ◌+◌, ℤ, pos, List, [], ◌∷◌, ◌++◌, Bool, ◌&&◌, nat_lt, if◌then◌else◌}
use Rattle.std.specs.List.{list_all, list_any}
use Rattle.std.specs.Ordering.{int_eq}
use Rattle.std.specs.Cmp.Lexicographic.{pointwise}
use Rattle.ac_syntax.specs.Index.{is_zero}
use Rattle.ac_syntax.specs.Trace.{assignments, assignments_in}
use Rattle.ac_syntax.specs.declared.tree.Quot.{Quot}
use Rattle.ac_syntax.specs.declared.tree.IndexExpr.{IndexExpr}
use Rattle.ac_syntax.specs.declared.tree.Rel.{Rel}
use Rattle.ac_syntax.specs.declared.tree.Rel.TheVariants.{NonNegative, Zero, Divides}
use Rattle.ac_syntax.specs.declared.tree.Comparison.{Comparison}
use Rattle.ac_syntax.specs.declared.tree.Value.{Value, Row_of-Value, end_of-Value, more_of-Value}
use Rattle.ac_syntax.specs.declared.tree.Value.TheVariants.{Number, Access, Call'}
use Rattle.ac_syntax.specs.declared.tree.Stmt.{Stmt, Row_of-Stmt, end_of-Stmt, more_of-Stmt}
use Rattle.ac_syntax.specs.declared.tree.Stmt.TheVariants.{For', If', Assign}

-- equal coefficients of iterators, where a list that ends first stands for zeros: a quotient of an outer loop has fewer
abbrev pub same_iters : List ℤ → List ℤ → Bool
same_iters [] ys = list_all is_zero ys
same_iters (x ∷ xs) [] = is_zero x && same_iters xs []
same_iters (x ∷ xs) (y ∷ ys) = int_eq x y && same_iters xs ys

-- one form and one divisor, whatever the coefficients and places
abbrev pub same_quot : Quot → Quot → Bool
same_quot a b = int_eq a.konst b.konst && (pointwise int_eq a.params b.params && (same_iters a.iters b.iters && int_eq a.div b.div))

-- ---- quotients noted behind others

abbrev pub noted : List Quot → Quot → List Quot
noted seen q = if list_any (same_quot q) seen then seen else seen ++ q ∷ []

abbrev pub noted_quots : List Quot → List Quot → List Quot
noted_quots seen [] = seen
noted_quots seen (q ∷ qs) = noted_quots (noted seen q) qs

abbrev pub noted_form : List Quot → IndexExpr → List Quot
noted_form seen e = noted_quots seen e.quots

abbrev pub noted_subs : List Quot → List IndexExpr → List Quot
noted_subs seen [] = seen
noted_subs seen (e ∷ es) = noted_subs (noted_form seen e) es

-- the quotient of a form by the divisor that a comparison tests
abbrev pub part_quot : IndexExpr → ℤ → Quot
part_quot e m = record { coef = pos 1; konst = e.konst; params = e.params; iters = e.iters; div = m; place = e.place }

abbrev pub noted_rel : List Quot → IndexExpr → Rel → List Quot
noted_rel seen e NonNegative = seen
noted_rel seen e Zero = seen
noted_rel seen e (Divides m) = noted seen (part_quot e m)

abbrev pub noted_part : List Quot → Comparison → List Quot
noted_part seen c = noted_rel (noted_form seen c.form) c.form c.rel

abbrev pub noted_parts : List Quot → List Comparison → List Quot
noted_parts seen [] = seen
noted_parts seen (c ∷ cs) = noted_parts (noted_part seen c) cs

unfoldable mutual
  pub noted_value : List Quot → Value → List Quot
  noted_value seen (Number e) = noted_form seen e
  noted_value seen (Access array subs place) = noted_subs seen subs
  noted_value seen (Call' symbol n args place) = noted_values seen args

  pub noted_values : List Quot → {m : _} → Row_of-Value m → List Quot
  noted_values seen end_of-Value = seen
  noted_values seen (more_of-Value v rest) = noted_values (noted_value seen v) rest

-- those of values one after another
abbrev pub noted_all : List Quot → List Value → List Quot
noted_all seen [] = seen
noted_all seen (v ∷ vs) = noted_all (noted_value seen v) vs

-- ---- those of the assignment i, where assignments are numbered from `first`, behind those of what stands around

unfoldable mutual
  pub quotients : Stmt → ℕ → List Quot → ℕ → List Quot
  quotients (For' iter start cond step n body place) first seen i = quotients_in body first (noted_parts (noted_form seen start) cond.parts) i
  quotients (If' cond n taken m other place) first seen i =
      if nat_lt i (first + assignments_in taken) then quotients_in taken first (noted_parts seen cond.parts) i else quotients_in other (first + assignments_in taken) (noted_parts seen cond.parts) i
  quotients (Assign array subs value place) first seen i = noted_subs (noted_value seen value) subs

  pub quotients_in : {m : _} → Row_of-Stmt m → ℕ → List Quot → ℕ → List Quot
  quotients_in end_of-Stmt first seen i = []
  quotients_in (more_of-Stmt s rest) first seen i = if nat_lt i (first + assignments s) then quotients s first seen i else quotients_in rest (first + assignments s) seen i

abbrev pub quotients_all : List Stmt → ℕ → List Quot → ℕ → List Quot
quotients_all [] first seen i = []
quotients_all (s ∷ ss) first seen i = if nat_lt i (first + assignments s) then quotients s first seen i else quotients_all ss (first + assignments s) seen i

-- the quotients of the assignment i of a program's body
abbrev pub quotients_of : List Stmt → ℕ → List Quot
quotients_of body i = quotients_all body 0 [] i
