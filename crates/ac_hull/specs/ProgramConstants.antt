-- The numbers of two programs' texts: the constants and coefficients of their forms, their divisors, and the steps of their loops.
use Rattle.std.specs.Prelude.{ℤ, List, [], ◌∷◌, ◌++◌, map}
use Rattle.std.specs.List.{flat_map}
use Rattle.ac_syntax.specs.declared.tree.Comparison.{Comparison}
use Rattle.ac_syntax.specs.declared.tree.Cond.{Cond}
use Rattle.ac_syntax.specs.declared.tree.IndexExpr.{IndexExpr}
use Rattle.ac_syntax.specs.declared.tree.Pair.{Pair}
use Rattle.ac_syntax.specs.declared.tree.Program.{Program}
use Rattle.ac_syntax.specs.declared.tree.Quot.{Quot}
use Rattle.ac_syntax.specs.declared.tree.Rel.{Rel}
use Rattle.ac_syntax.specs.declared.tree.Rel.TheVariants.{NonNegative, Zero, Divides}
use Rattle.ac_syntax.specs.declared.tree.Stmt.{Stmt, Row_of-Stmt, end_of-Stmt, more_of-Stmt}
use Rattle.ac_syntax.specs.declared.tree.Stmt.TheVariants.{For', If', Assign}
use Rattle.ac_syntax.specs.declared.tree.Value.{Value, Row_of-Value, end_of-Value, more_of-Value}
use Rattle.ac_syntax.specs.declared.tree.Value.TheVariants.{Number, Access, Call'}
use Rattle.ac_hull.specs.declared.collected.Collected.{Collected}
use Rattle.ac_hull.specs.declared.collected.Collected.TheVariants.{Constant, Coefficient, Divisor, Step}

-- a constant, and the coefficients of parameters and iterators
abbrev pub numbers_of_sum : ℤ → List ℤ → List ℤ → List Collected
numbers_of_sum konst params iters = Constant konst ∷ (map Coefficient params ++ map Coefficient iters)

-- the quotient's divisor and the numbers of the form that it divides
abbrev pub numbers_of_division : Quot → List Collected
numbers_of_division q = Divisor q.div ∷ numbers_of_sum q.konst q.params q.iters

-- and what it is multiplied by
abbrev pub numbers_of_quotient : Quot → List Collected
numbers_of_quotient q = Coefficient q.coef ∷ numbers_of_division q

abbrev pub numbers_of_form : IndexExpr → List Collected
numbers_of_form e = numbers_of_sum e.konst e.params e.iters ++ flat_map numbers_of_quotient e.quots

abbrev pub numbers_of_forms : List IndexExpr → List Collected
numbers_of_forms es = flat_map numbers_of_form es

-- a divisor that is tested
abbrev pub numbers_of_relation : Rel → List Collected
numbers_of_relation NonNegative = []
numbers_of_relation Zero = []
numbers_of_relation (Divides m) = Divisor m ∷ []

-- a comparison counts as the form that is compared with 0
abbrev pub numbers_of_comparison : Comparison → List Collected
numbers_of_comparison c = numbers_of_form c.form ++ numbers_of_relation c.rel

abbrev pub numbers_of_condition : Cond → List Collected
numbers_of_condition c = flat_map numbers_of_comparison c.parts

-- a value's index expressions and subscripts
unfoldable mutual
  pub numbers_of_value : Value → List Collected
  numbers_of_value (Number e) = numbers_of_form e
  numbers_of_value (Access array subs place) = numbers_of_forms subs
  numbers_of_value (Call' symbol n args place) = numbers_of_arguments args

  pub numbers_of_arguments : {m : _} → Row_of-Value m → List Collected
  numbers_of_arguments end_of-Value = []
  numbers_of_arguments (more_of-Value v rest) = numbers_of_value v ++ numbers_of_arguments rest

-- a loop's start, step, condition and body; a branch's condition and both sides; an assignment's subscripts and value
unfoldable mutual
  pub numbers_of_statement : Stmt → List Collected
  numbers_of_statement (For' iter start cond step n body place) = numbers_of_form start ++ (Step step ∷ (numbers_of_condition cond ++ numbers_of_body body))
  numbers_of_statement (If' cond n taken m other place) = numbers_of_condition cond ++ (numbers_of_body taken ++ numbers_of_body other)
  numbers_of_statement (Assign array subs value place) = numbers_of_forms subs ++ numbers_of_value value

  pub numbers_of_body : {m : _} → Row_of-Stmt m → List Collected
  numbers_of_body end_of-Stmt = []
  numbers_of_body (more_of-Stmt s rest) = numbers_of_statement s ++ numbers_of_body rest

-- the extents of the arrays, and the body
abbrev pub numbers_of_program : Program → List Collected
numbers_of_program p = flat_map (λ array. numbers_of_forms array.extents) p.arrays ++ flat_map numbers_of_statement p.body

-- both programs and their context
abbrev pub numbers_of_pair : Pair → List Collected
numbers_of_pair pair = numbers_of_program pair.left ++ (numbers_of_program pair.right ++ numbers_of_condition pair.context)
