-- Which of several faults is the first, and that index expressions and conditions mean in the program what they mean as they are written.
use Rattle.std.specs.Prelude.{◌≡◌, ◌<◌, ◌≤◌, ◌⊎◌, ◌↔◌, ℕ, List, length, true, ℤ, ◌+ℤ◌, Option, Some, None}
use Rattle.std.specs.List.{Contains, AllByRecursion}
use Rattle.ac_base.specs.Dot.{dot}
use Rattle.ac_syntax.specs.Index.{Point, quots_value, index_value, rel_holds, holds}
use Rattle.ac_parse_grammar.specs.declared.tree.Expr.{Expr}
use Rattle.ac_parse_grammar.specs.declared.tree.Part.{Part}
use Rattle.ac_parse_exprs.specs.declared.fault.Broken.{Broken}
use Rattle.ac_parse_exprs.specs.declared.form.Affine.{Affine}
use Rattle.ac_parse_exprs.specs.declared.form.Collected.TheVariants.{Known}
use Rattle.ac_parse_exprs.specs.declared.scope.Meaning.{Meaning}
use Rattle.ac_parse_exprs.specs.declared.scope.Meaning.TheVariants.{Parameter, Iterator, Array, LoopName, OwnStart, Nothing}
use Rattle.ac_parse_exprs.specs.declared.scope.Entry.{Entry}
use Rattle.ac_parse_exprs.specs.declared.scope.Scope.{Scope}
use Rattle.ac_parse_exprs.specs.FaultOrder.{rank}
use Rattle.ac_parse_exprs.specs.IndexExpressions.{judged}
use Rattle.ac_parse_exprs.specs.Comparisons.{first_of, index, index_broken, part_rel, compared, condition, condition_broken}
use Rattle.ac_parse_exprs.specs.WrittenValues.{integer_of, expression_value, IsRelated}

-- the fault f is no later than g: it is at a lower place, or at the same place with a rank that is no higher
abbrev pub IsNoLater : Broken → Broken → Type 0
IsNoLater f g = (f.place.at < g.place.at) ⊎ ((f.place.at ≡ g.place.at) × (rank f.rule ≤ rank g.rule))

-- f is one of the faults, and no later than any of them
abbrev pub IsFirst : List (Option Broken) → Broken → Type 0
IsFirst faults f = Contains faults (Some f) × ((g : Broken) → Contains faults (Some g) → IsNoLater f g)

-- the first of several faults is the least of them
abbrev pub FirstIsLeast : Type 0
FirstIsLeast = (faults : List (Option Broken)) (f : Broken) → first_of faults ≡ Some f → IsFirst faults f

-- there is no first only where there is none
abbrev pub NoFirstIsNone : Type 0
NoFirstIsNone = (faults : List (Option Broken)) → first_of faults ≡ None → (f : Broken) → Contains faults (Some f) → ⊥

-- a declared parameter is one of the first n, and no declaration is an iterator
abbrev pub IsNumbered : ℕ → Meaning → Type 0
IsNumbered n (Parameter k) = k < n
IsNumbered n (Iterator k) = ⊥
IsNumbered n (Array number dimensions) = Unit {0}
IsNumbered n LoopName = Unit {0}
IsNumbered n OwnStart = Unit {0}
IsNumbered n Nothing = Unit {0}

abbrev pub AreNumbered : ℕ → List Entry → Type 0
AreNumbered n names = AllByRecursion (λ entry. IsNumbered n entry.meaning) names

-- a point has as many integers as a scope has parameters and iterators
abbrev pub IsPointOf : Scope → Point → Type 0
IsPointOf scope p = (length p.params ≡ scope.params) × (length p.iters ≡ length scope.iterators)

-- the value of a form at a point
abbrev pub form_value : Point → Affine → ℤ
form_value p f = f.constant +ℤ (dot f.params p.params +ℤ (dot f.iters p.iters +ℤ quots_value p f.quots))

-- where the rules collect a form, it has the value of the expression at every point
abbrev pub FormsHaveValues : Type 0
FormsHaveValues = (names : List Entry) (scope : Scope) (p : Point) → AreNumbered scope.params names → IsPointOf scope p
    → (e : Expr) (f : Affine) → (judged names scope e).form ≡ Known f → expression_value (integer_of names scope p) e ≡ Some (form_value p f)

-- an index expression that breaks no rule has in the program the value that it has as it is written
abbrev pub IndicesHaveValues : Type 0
IndicesHaveValues = (names : List Entry) (scope : Scope) (p : Point) → AreNumbered scope.params names → IsPointOf scope p
    → (e : Expr) → index_broken names scope e ≡ None → expression_value (integer_of names scope p) e ≡ Some (index_value p (index names scope e))

-- both sides of a comparison have values, and something is the case just where these stand in its relation
abbrev pub IsCompared : (List ℕ → Option ℤ) → Part → Type 0 → Type 0
IsCompared integer part Holds = (x : ℤ) × (y : ℤ) × (expression_value integer part.left ≡ Some x) × (expression_value integer part.right ≡ Some y) × (Holds ↔ IsRelated part.relation x y)

-- where the rules collect a form of a comparison, it compares with 0 as the sides compare
abbrev pub ComparisonsHold : Type 0
ComparisonsHold = (names : List Entry) (scope : Scope) (p : Point) → AreNumbered scope.params names → IsPointOf scope p
    → (part : Part) (f : Affine) → (compared names scope part).form ≡ Known f → IsCompared (integer_of names scope p) part (rel_holds (part_rel part) (form_value p f) ≡ true)

-- a comparison is true as it is written
abbrev pub IsTrueAt : (List ℕ → Option ℤ) → Part → Type 0
IsTrueAt integer part = (x : ℤ) × (y : ℤ) × (expression_value integer part.left ≡ Some x) × (expression_value integer part.right ≡ Some y) × IsRelated part.relation x y

-- a condition that breaks no rule holds in the program just where each of its comparisons is true as it is written
abbrev pub ConditionsHold : Type 0
ConditionsHold = (names : List Entry) (scope : Scope) (p : Point) → AreNumbered scope.params names → IsPointOf scope p
    → (parts : List Part) → condition_broken names scope parts ≡ None
    → (holds p (record { parts = condition names scope parts }) ≡ true) ↔ AllByRecursion (IsTrueAt (integer_of names scope p)) parts
