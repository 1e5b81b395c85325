-- What a chain is, by the number of its operands.
use Rattle.std.proofs.Common.{◌≡◌, List, [], ◌∷◌, ◌++◌, length, refl, sym, ap, arith, length-append}
use Rattle.ac_parse_grammar.specs.declared.tree.Operator.{Operator}
use Rattle.ac_parse_grammar.specs.declared.tree.Expr.{Expr}
use Rattle.ac_parse_grammar.specs.declared.tree.Expr.TheVariants.{Chain}
use Rattle.ac_parse_grammar.specs.Chains.{chain_of}

pub only_operand : (operands front : List Expr) (operators : List Operator) (last : Expr) → length operands ≡ 1 → operands ≡ front ++ last ∷ [] → last ≡ chain_of operands operators
only_operand operands [] operators last one cut = sym (ap (λ l. chain_of l operators) cut)
only_operand operands (first ∷ front) operators last one cut = absurd (omega (arith, ap length cut, length-append front (last ∷ [])))

pub more_operands : (operands : List Expr) (operators : List Operator) → ¬ (length operands ≡ 1) → Chain operands operators ≡ chain_of operands operators
more_operands [] operators more = refl
more_operands (first ∷ []) operators more = absurd (more (omega arith))
more_operands (first ∷ second ∷ rest) operators more = refl
