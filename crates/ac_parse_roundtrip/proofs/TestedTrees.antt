-- Which canonical trees test a divisor: those of tests of a divisor, and no others.
use Rattle.std.specs.Prelude.{List, [], ◌∷◌, map, length, slice_get, ℤ, pos, negsuc, Bool, true, false, ◌&&◌, ◌==◌, ◌-◌, if◌then◌else◌, Option, Some, None}
use Rattle.std.specs.Option.{option_map}
use Rattle.std.proofs.Common.{◌≡◌, ℕ, zero, suc, refl, sym, ◌∙◌, ap, subst}
use Rattle.ac_syntax.specs.declared.tree.Place.{Place}
use Rattle.ac_syntax.specs.declared.tree.Quot.{Quot}
use Rattle.ac_syntax.specs.declared.tree.IndexExpr.{IndexExpr}
use Rattle.ac_syntax.specs.declared.tree.Rel.TheVariants.{Divides}
use Rattle.ac_syntax.specs.Text.{Scope}
use Rattle.ac_parse_grammar.specs.declared.tree.Numeral.{Numeral}
use Rattle.ac_parse_grammar.specs.declared.tree.Operator.TheVariants.{Add, Multiply, Remainder}
use Rattle.ac_parse_grammar.specs.declared.tree.Relation.TheVariants.{Equal}
use Rattle.ac_parse_grammar.specs.declared.tree.Expr.{Expr}
use Rattle.ac_parse_grammar.specs.declared.tree.Expr.TheVariants as expr
use Rattle.ac_parse_grammar.specs.declared.tree.Part.{Part}
use Rattle.ac_parse_grammar.specs.Chains.{chain_of}
use Rattle.ac_parse_exprs.specs.Divisions.{Division, number_alone, is_by_remainder, chain_division, division_of, is_equality, is_nought, tested_division}
use Rattle.ac_parse_exprs.proofs.Dividing.{alone-number, division-number, division-negative, division-chain}
use Rattle.ac_parse_roundtrip.specs.CanonicalTrees.{IsNumberTree, IsIntegerTree, Factor, Summand, summands, IsProductTree, IsSumTree, IsQuotientTree, IsFormTree, IsTestedTree}

-- ---- a form is no division

integer_alone : (c : ℤ) (tree : Expr) → IsIntegerTree c tree → division_of tree ≡ None
integer_alone (pos n) tree t = ap division_of t.2 ∙ division-number t.0
integer_alone (negsuc n) tree t = ap division_of t.3 ∙ division-negative t.0 t.1

product_alone : (Rounds : Quot → Expr → Type 0) (c : ℤ) (f : Option Factor) (tree : Expr) → IsProductTree Rounds c f tree → division_of tree ≡ None
product_alone Rounds c None tree t = integer_alone c tree t
product_alone Rounds c (Some f) tree t = ap division_of t.4 ∙ division-chain (t.0 ∷ t.1 ∷ []) (Multiply ∷ [])

-- the last operator of a sum is a plus
no_remainder : (others : List Expr) (k : ℕ) → is_by_remainder (slice_get (map (λ (other : Expr). Add) others) k) ≡ false
no_remainder [] k = refl
no_remainder (y ∷ ys) zero = refl
no_remainder (y ∷ ys) (suc k) = no_remainder ys k

never : (a b : Bool) (x : Option Division) → b ≡ false → (if a && b then x else None) ≡ None
never true b x e = subst (λ t. (if t then x else None) ≡ None) (sym e) refl
never false b x e = refl

adds_alone : (operands others : List Expr) → chain_division operands (map (λ (other : Expr). Add) others) ≡ None
adds_alone operands others =
    let operators = map (λ (other : Expr). Add) others in
    never (length operands == suc (length operators)) (is_by_remainder (slice_get operators (length operators - 1))) _ (no_remainder others (length operators - 1))

chain_alone : (first : Expr) (others : List Expr) → division_of first ≡ None → division_of (chain_of (first ∷ others) (map (λ (other : Expr). Add) others)) ≡ None
chain_alone first [] e = e
chain_alone first (y ∷ ys) e = division-chain (first ∷ y ∷ ys) (map (λ (other : Expr). Add) (y ∷ ys)) ∙ adds_alone (first ∷ y ∷ ys) (y ∷ ys)

sum_alone : (Rounds : Quot → Expr → Type 0) (ss : List Summand) (tree : Expr) → IsSumTree Rounds ss tree → division_of tree ≡ None
sum_alone Rounds [] tree t = integer_alone (pos 0) tree t
sum_alone Rounds (s ∷ more) tree t = ap division_of t.4 ∙ chain_alone t.0 t.1 (product_alone Rounds s.number s.factor t.0 t.2)

pub form_alone : (scope : Scope) (e : IndexExpr) (tree : Expr) → IsFormTree scope e tree → division_of tree ≡ None
form_alone scope e tree t = sum_alone (IsQuotientTree scope) (summands scope e) tree t

either_none : (b : Bool) (x : Option Division) → x ≡ None → (if b then x else None) ≡ None
either_none true x e = e
either_none false x e = refl

-- so a form that is compared tests no divisor
pub form_untested : (part : Part) → division_of part.left ≡ None → tested_division part ≡ None
form_untested part e = either_none (is_equality part.relation && is_nought (number_alone part.right)) (division_of part.left) e

-- ---- the rest of a form behind a division

abbrev pub rest_of : Expr → Place → Numeral → Division
rest_of form place divisor = record { operands = expr.Group form place ∷ []; operators = []; divisor = divisor; parenthesis = None }

rest_alone : (form : Expr) (place : Place) (divisor : Numeral)
    → division_of (expr.Chain (expr.Group form place ∷ expr.Number divisor ∷ []) (Remainder ∷ [])) ≡ Some (rest_of form place divisor)
rest_alone form place divisor =
    division-chain (expr.Group form place ∷ expr.Number divisor ∷ []) (Remainder ∷ [])
    ∙ ap (λ c. option_map (λ n. record { operands = expr.Group form place ∷ []; operators = []; divisor = n; parenthesis = None }) c) (alone-number divisor)

zero_alone : (tree : Expr) → IsNumberTree 0 tree → is_nought (number_alone tree) ≡ true
zero_alone tree t = ap (λ e. is_nought (number_alone e)) t.2 ∙ (ap is_nought (alone-number t.0) ∙ ap (λ n. n == 0) t.1)

pub rest_tested : (scope : Scope) (m : ℤ) (e : IndexExpr) (part : Part) (t : IsTestedTree scope (Divides m) e part.left) → part.relation ≡ Equal → IsNumberTree 0 part.right
    → tested_division part ≡ Some (rest_of t.0 t.1 t.2)
rest_tested scope m e part t equal nought =
    let test : (is_equality part.relation && is_nought (number_alone part.right)) ≡ true
    = ap (λ r. is_equality r && is_nought (number_alone part.right)) equal ∙ zero_alone part.right nought in
    ap (λ b. if b then division_of part.left else None) test ∙ (ap division_of t.5 ∙ rest_alone t.0 t.1 t.2)
