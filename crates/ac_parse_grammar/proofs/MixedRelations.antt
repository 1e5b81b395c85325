-- What is read where a condition or an expression may stand, put together from parts.
use Rattle.std.specs.Prelude.{ℕ, zero, suc, List, [], ◌∷◌}
use Rattle.ac_syntax.specs.declared.tree.Place.{Place}
use Rattle.ac_parse_grammar.specs.declared.terminal.Terminal.TheVariants as t
use Rattle.ac_parse_grammar.specs.declared.tree.Relation.{Relation}
use Rattle.ac_parse_grammar.specs.declared.tree.Expr.{Expr}
use Rattle.ac_parse_grammar.specs.declared.tree.Expr.TheVariants.{Group}
use Rattle.ac_parse_grammar.specs.declared.tree.Part.{Part}
use Rattle.ac_parse_grammar.specs.declared.conditions.Mixed.{Mixed}
use Rattle.ac_parse_grammar.specs.declared.conditions.Mixed.TheVariants.{Condition, Expression}
use Rattle.ac_parse_grammar.specs.TokenWords.{place_of}
use Rattle.ac_parse_grammar.specs.ReaderCombinators.{is}
use Rattle.ac_parse_grammar.specs.Conditions.{and_of, join_parts}
use Rattle.ac_parse_grammar.specs.Found.{Rel}
use Rattle.ac_parse_grammar.proofs.Exact.{IsThen}
use Rattle.ac_parse_grammar.proofs.Parts.{IsNothing, IsPure, IsToken, IsEither, IsNot, IsHeld, IsMap}
use Rattle.ac_parse_grammar.proofs.Repeats.{IsLinked, IsRepeat}
use Rattle.ac_parse_grammar.proofs.Relations.{IsProduct, IsSum, IsExprOf, IsUnaryAt}
use Rattle.ac_parse_grammar.specs.Operators.{relation_of}
use Rattle.ac_parse_grammar.specs.Chains.{part_of}

abbrev pub comparison_of : Expr → Relation × Expr → Mixed
comparison_of left right = Condition (part_of left right.0 right.1 ∷ [])

abbrev pub IsCompared : Rel Expr → Expr → Rel Mixed
IsCompared U left = IsEither (IsMap (comparison_of left) (IsLinked relation_of (IsExprOf U))) (IsPure (Expression left))

abbrev pub IsBehind : Rel Expr → Place → Mixed → Rel Mixed
IsBehind U place (Expression inner) = IsThen (IsThen (IsThen (IsPure (Group inner place)) (IsProduct U)) (IsSum U)) (IsCompared U)
IsBehind U place (Condition parts) = IsPure (Condition parts)

abbrev pub IsParen : Rel Mixed → Rel Expr → Rel Mixed
IsParen M U = IsToken (is t.Open) (λ left. IsThen (IsHeld M t.Close) (IsBehind U (place_of left)))

abbrev pub IsMixedPartIn : Rel Mixed → Rel Expr → Rel Mixed
IsMixedPartIn O U = IsEither O (IsThen (IsNot (is t.Open) (IsExprOf U)) (IsCompared U))

-- the values that are conditions
abbrev pub IsConditionOf : Rel Mixed → Rel (List Part)
IsConditionOf R ts parts = R ts (Condition parts)

abbrev pub IsParts : Rel Mixed → List Part → Rel (List Part)
IsParts P first = IsRepeat and_of join_parts (IsConditionOf P) first

abbrev pub IsMore : Rel Mixed → Mixed → Rel Mixed
IsMore P (Condition first) = IsMap Condition (IsParts P first)
IsMore P (Expression e) = IsPure (Expression e)

abbrev pub IsMixedIn : Rel Mixed → Rel Mixed
IsMixedIn P = IsThen P (IsMore P)

-- what a parenthesis begins
unfoldable pub paren_at : ℕ → Rel Mixed
paren_at zero = IsNothing
paren_at (suc room) = IsParen (IsMixedIn (IsMixedPartIn (paren_at room) (IsUnaryAt room))) (IsUnaryAt (suc room))

abbrev pub IsMixedPartAt : ℕ → Rel Mixed
IsMixedPartAt room = IsMixedPartIn (paren_at room) (IsUnaryAt room)

abbrev pub IsMixedAt : ℕ → Rel Mixed
IsMixedAt room = IsMixedIn (IsMixedPartAt room)
