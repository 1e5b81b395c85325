-- The trees of values.
use Rattle.std.specs.Prelude.{List, [], ◌∷◌, ◌++◌, length, true, false, slice_get}
use Rattle.std.specs.List.{flat_map, AllByRecursion}
use Rattle.std.proofs.Common.{◌≡◌, ℕ, suc, ◌+◌, refl, sym, ◌∙◌, ap, subst, arith}
use Rattle.ac_syntax.specs.declared.tree.IndexExpr.{IndexExpr}
use Rattle.ac_syntax.specs.declared.tree.Value.{Value, Row_of-Value, end_of-Value, more_of-Value}
use Rattle.ac_syntax.specs.declared.tree.Value.TheVariants.{Number, Access, Call'}
use Rattle.ac_syntax.specs.Text.{Scope, array_name, is_operator, is_decimal}
use Rattle.ac_lex.specs.declared.tokens.TokenKind.TheVariants as kind
use Rattle.ac_parse_grammar.specs.declared.terminal.Terminal.TheVariants as t
use Rattle.ac_parse_grammar.specs.declared.tree.Word.{Word}
use Rattle.ac_parse_grammar.specs.declared.tree.Operator.{Operator}
use Rattle.ac_parse_grammar.specs.declared.tree.Operator.TheVariants.{Subtract}
use Rattle.ac_parse_grammar.specs.declared.tree.Expr.{Expr}
use Rattle.ac_parse_grammar.specs.declared.tree.Expr.TheVariants as expr
use Rattle.ac_parse_grammar.specs.Terminals.{terminal_by}
use Rattle.ac_parse_grammar.specs.TokenWords.{word_of}
use Rattle.ac_parse_grammar.specs.Grammar as g
use Rattle.ac_parse_grammar.specs.Grammar.{IsExpr, IsPrimary, Subscripts, Arguments}
use Rattle.ac_parse_roundtrip.specs.Items.{Item, token, space, mark, word, joined, in_parentheses, form, subscripts, call, value, values}
use Rattle.ac_parse_roundtrip.specs.CanonicalTrees.{Each, IsWordOf, IsFormTree, IsCallTree, negation, operation, decimal, function, IsValueTree, AreValueTrees, sign}
use Rattle.ac_parse_roundtrip.specs.GrammarPrograms as names
use Rattle.ac_parse_roundtrip.specs.GrammarPrograms.{IsName, NamesArray, HasLiterals, IsCallName, count, HasValueNames, HaveValueNames}
use Rattle.ac_parse_roundtrip.proofs.ItemSequences.{Reads, weaker, other_items}
use Rattle.ac_parse_roundtrip.proofs.TokenTerminals.{word_at, name_is}
use Rattle.ac_parse_roundtrip.proofs.Depths.{Deep, always, above_one, above_two, same_depth, deeper, both_deep}
use Rattle.ac_parse_roundtrip.proofs.FormTrees.{IsNamedScope, form_read}
use Rattle.ac_parse_roundtrip.proofs.ConditionTrees.{subscripts_read}
use Rattle.ac_parse_roundtrip.proofs.Calls.{IsGroupOf, group_read, IsNegativeOf, negative_read, IsOperationOf, operation_read, IsDecimalOf, decimal_read, comma_items, argument_items, arguments_read, IsFunctionOf, function_read, call_operation, call_function, call_nothing, function_decimal, function_word, sign_operator}

-- ---- forms and cells

abbrev FormReads : Scope → IndexExpr → ℕ → Type 0
FormReads scope e room = Reads (IsExpr room) (IsFormTree scope e) (form scope e)

pub form_deep : (scope : Scope) → IsNamedScope scope → (e : IndexExpr) → HasLiterals e → Deep (λ room. Reads (IsExpr room) (IsFormTree scope e) (form scope e))
form_deep scope named e has = above_two (FormReads scope e) (always (λ room. FormReads scope e (suc (suc room))) (λ room. form_read room scope named e has))

abbrev CellReads : Scope → List IndexExpr → ℕ → Type 0
CellReads scope subs room = Reads (Subscripts room) (Each (IsFormTree scope) subs) (subscripts scope subs)

pub subscripts_deep : (scope : Scope) → IsNamedScope scope → (subs : List IndexExpr) → AllByRecursion HasLiterals subs → Deep (CellReads scope subs)
subscripts_deep scope named subs has =
    above_one (CellReads scope subs) (above_two (λ room. CellReads scope subs (suc room))
    (always (λ room. CellReads scope subs (suc (suc (suc room)))) (λ room. subscripts_read room scope subs named has)))

abbrev IsCellOf : List ℕ → (List Expr → Type 0) → Expr → Type 0
IsCellOf name T tree = (word : Word) × (trees : List Expr) × IsWordOf name word × T trees × (tree ≡ expr.Access word trees)

cell_read : (room : ℕ) (T : List Expr → Type 0) (is : List Item) (name : List ℕ) → IsName name → Reads (Subscripts room) T is → Reads (IsPrimary room) (IsCellOf name T) (word name ∷ is)
cell_read room T is name named r = record {
  at = λ at.
      let n = word_at at name in
      let x = r.at (at + length name) in
      (expr.Access (word_of n) x.0, g.access (name_is at name named) x.1, (word_of n, x.0, refl, x.2, refl));
}

-- ---- calls

abbrev listed : {m : _} → Row_of-Value m → List Value
listed end_of-Value = []
listed (more_of-Value v rest) = v ∷ listed rest

abbrev ValueReads : Scope → Value → ℕ → Type 0
ValueReads scope v room = Reads (IsPrimary room) (IsValueTree scope v) (value scope v)

abbrev RowReads : Scope → {m : _} → Row_of-Value m → ℕ → Type 0
RowReads scope row room = AllByRecursion (λ v. ValueReads scope v room) (listed row)

flat_values : (scope : Scope) {m : _} (row : Row_of-Value m) → flat_map (λ (y : List Item). comma_items ++ y) (values scope row) ≡ flat_map (λ v. comma_items ++ value scope v) (listed row)
unfolding value values
flat_values scope end_of-Value = refl
flat_values scope (more_of-Value v rest) = ap (λ is. (comma_items ++ value scope v) ++ is) (flat_values scope rest)

joined_are : (scope : Scope) {m : _} (row : Row_of-Value m) → argument_items (value scope) (listed row) ≡ joined comma_items (values scope row)
unfolding value values
joined_are scope end_of-Value = refl
joined_are scope (more_of-Value v rest) = ap (λ is. value scope v ++ is) (sym (flat_values scope rest))

trees_are : (scope : Scope) {m : _} (row : Row_of-Value m) (trees : List Expr) → Each (IsValueTree scope) (listed row) trees → AreValueTrees scope row trees
unfolding AreValueTrees
trees_are scope end_of-Value [] each = refl
trees_are scope end_of-Value (y ∷ ys) each = absurd each
trees_are scope (more_of-Value v rest) [] each = absurd each
trees_are scope (more_of-Value v rest) (y ∷ ys) each = (y, ys, each.0, trees_are scope rest ys each.1, refl)

abbrev IsCallOf : Scope → List ℕ → {m : _} → Row_of-Value m → Expr → Type 0
IsCallOf scope name row tree = (trees : List Expr) × AreValueTrees scope row trees × IsCallTree name trees tree

abbrev CallReads : Scope → List ℕ → {m : _} → Row_of-Value m → ℕ → Type 0
CallReads scope name row room = Reads (IsPrimary room) (IsCallOf scope name row) (call name (values scope row))

module _ (scope : Scope) (name : List ℕ) where
  negative_tree : (v : Value) → name ≡ sign Subtract → (tree : Expr) → IsGroupOf (IsNegativeOf (IsValueTree scope v)) tree → IsCallOf scope name (more_of-Value v end_of-Value) tree
  unfolding AreValueTrees
  negative_tree v e tree x =
      let n = x.2 in (
        n.0 ∷ [],
        (n.0, [], n.2, refl, refl),
        subst (λ t. IsCallTree name (n.0 ∷ []) t) (sym (x.3 ∙ ap (λ inner. expr.Group inner x.1) n.3)) (negation n.1 x.1 e),
      )

  negative_items : (v : Value) → name ≡ sign Subtract → in_parentheses (mark name ∷ value scope v) ≡ call name (values scope (more_of-Value v end_of-Value))
  unfolding value values
  negative_items v e = sym (call_operation name (value scope v ∷ []) (ap is_operator e))

  negative_deep : (v : Value) → name ≡ sign Subtract → Deep (RowReads scope (more_of-Value v end_of-Value)) → Deep (CallReads scope name (more_of-Value v end_of-Value))
  negative_deep v e d =
      deeper (λ room. Reads (IsExpr room) (IsNegativeOf (IsValueTree scope v)) (mark name ∷ value scope v)) (CallReads scope name (more_of-Value v end_of-Value))
      (λ room r. other_items (negative_items v e) (weaker (λ ts a p. p) (negative_tree v e) (group_read room (IsNegativeOf (IsValueTree scope v)) (mark name ∷ value scope v) r)))
      (deeper (RowReads scope (more_of-Value v end_of-Value)) (λ room. Reads (IsExpr room) (IsNegativeOf (IsValueTree scope v)) (mark name ∷ value scope v))
      (λ room r. negative_read room (IsValueTree scope v) (value scope v) name e r.0) d)

  abbrev IsTwo : Value → Value → Operator → Expr → Type 0
  IsTwo v w operator = IsOperationOf (IsValueTree scope v) (IsValueTree scope w) operator

  operation_tree : (v w : Value) (operator : Operator) → name ≡ sign operator → (tree : Expr) → IsGroupOf (IsTwo v w operator) tree → IsCallOf scope name (more_of-Value v (more_of-Value w end_of-Value)) tree
  unfolding AreValueTrees
  operation_tree v w operator e tree x =
      let n = x.2 in (
        n.0 ∷ n.1 ∷ [],
        (n.0, n.1 ∷ [], n.2, (n.1, [], n.3, refl, refl), refl),
        subst (λ t. IsCallTree name (n.0 ∷ n.1 ∷ []) t) (sym (x.3 ∙ ap (λ inner. expr.Group inner x.1) n.4)) (operation operator x.1 e),
      )

  abbrev two_items : Value → Value → List ℕ → List Item
  two_items v w text = value scope v ++ space ∷ mark text ∷ space ∷ value scope w

  operation_items : (v w : Value) (operator : Operator) → name ≡ sign operator → in_parentheses (two_items v w (sign operator)) ≡ call name (values scope (more_of-Value v (more_of-Value w end_of-Value)))
  unfolding value values
  operation_items v w operator e =
      ap (λ text. in_parentheses (two_items v w text)) (sym e) ∙ sym (call_operation name (value scope v ∷ value scope w ∷ []) (ap is_operator e ∙ sign_operator operator))

  operation_deep : (v w : Value) (operator : Operator) → name ≡ sign operator → Deep (RowReads scope (more_of-Value v (more_of-Value w end_of-Value))) → Deep (CallReads scope name (more_of-Value v (more_of-Value w end_of-Value)))
  operation_deep v w operator e d =
      deeper (RowReads scope (more_of-Value v (more_of-Value w end_of-Value))) (CallReads scope name (more_of-Value v (more_of-Value w end_of-Value)))
      (λ room r. other_items (operation_items v w operator e) (weaker (λ ts a p. p) (operation_tree v w operator e)
      (group_read room (IsTwo v w operator) (two_items v w (sign operator))
      (operation_read room (IsValueTree scope v) (IsValueTree scope w) (value scope v) (value scope w) operator r.0 r.1.0)))) d

  decimal_tree : is_decimal name ≡ true → (tree : Expr) → IsDecimalOf name tree → IsCallOf scope name end_of-Value tree
  unfolding AreValueTrees
  decimal_tree is tree x = ([], refl, subst (λ t. IsCallTree name [] t) (sym x.2) (decimal x.0 is x.1))

  decimal_items : is_decimal name ≡ true → token kind.Decimal name ∷ [] ≡ call name (values scope end_of-Value)
  unfolding values
  decimal_items is = sym (call_nothing name ∙ function_decimal name [] is)

  decimal_deep : is_decimal name ≡ true → terminal_by kind.Decimal name ≡ t.Decimal → Deep (CallReads scope name end_of-Value)
  decimal_deep is at = always (CallReads scope name end_of-Value) (λ room. other_items (decimal_items is) (weaker (λ ts a p. p) (decimal_tree is) (decimal_read room name at)))

  function_tree : {m : _} (row : Row_of-Value m) → is_operator name ≡ false → is_decimal name ≡ false
      → (tree : Expr) → IsFunctionOf name (Each (IsValueTree scope) (listed row)) tree → IsCallOf scope name row tree
  function_tree row apart whole tree x =
      (x.1, trees_are scope row x.1 x.3, subst (λ t. IsCallTree name x.1 t) (sym x.4) (function x.0 apart whole x.2))

  function_items : {m : _} (row : Row_of-Value m) → is_operator name ≡ false → is_decimal name ≡ false
      → word name ∷ in_parentheses (argument_items (value scope) (listed row)) ≡ call name (values scope row)
  function_items row apart whole =
      ap (λ is. word name ∷ in_parentheses is) (joined_are scope row) ∙ sym (call_function name (values scope row) apart ∙ function_word name (values scope row) whole)

  function_deep : {m : _} (row : Row_of-Value m) → is_operator name ≡ false → is_decimal name ≡ false → IsName name → Deep (RowReads scope row) → Deep (CallReads scope name row)
  function_deep row apart whole named d =
      deeper (RowReads scope row) (CallReads scope name row)
      (λ room r. other_items (function_items row apart whole) (weaker (λ ts a p. p) (function_tree row apart whole)
      (function_read room (Each (IsValueTree scope) (listed row)) (argument_items (value scope) (listed row)) name named
      (arguments_read (IsValueTree scope) (value scope) room (listed row) r)))) d

  call_deep : {m : _} (row : Row_of-Value m) → IsCallName name (count row) → Deep (RowReads scope row) → Deep (CallReads scope name row)
  call_deep (more_of-Value v end_of-Value) (names.negation e n) d = negative_deep v e d
  call_deep end_of-Value (names.negation e n) d = absurd (omega arith)
  call_deep (more_of-Value v (more_of-Value w rest)) (names.negation e n) d = absurd (omega arith)
  call_deep (more_of-Value v (more_of-Value w end_of-Value)) (names.operation operator e n) d = operation_deep v w operator e d
  call_deep end_of-Value (names.operation operator e n) d = absurd (omega arith)
  call_deep (more_of-Value v end_of-Value) (names.operation operator e n) d = absurd (omega arith)
  call_deep (more_of-Value v (more_of-Value w (more_of-Value u rest))) (names.operation operator e n) d = absurd (omega arith)
  call_deep end_of-Value (names.decimal is at n) d = decimal_deep is at
  call_deep (more_of-Value v rest) (names.decimal is at n) d = absurd (omega arith)
  call_deep row (names.function apart whole named) d = function_deep row apart whole named d

-- ---- values

module _ (scope : Scope) (named : IsNamedScope scope) where
  mutual
    unfolding HasValueNames HaveValueNames IsValueTree AreValueTrees value values

    pub value_deep : (v : Value) → HasValueNames scope.arrays v → Deep (ValueReads scope v)
    value_deep (Number e) has =
        deeper (λ room. Reads (IsExpr room) (IsFormTree scope e) (form scope e)) (ValueReads scope (Number e))
        (λ room r. weaker (λ ts a p. p) (λ a x. x) (group_read room (IsFormTree scope e) (form scope e) r)) (form_deep scope named e has)
    value_deep (Access array subs place) has =
        let name = array_name (slice_get scope.arrays array) in
        same_depth (CellReads scope subs) (ValueReads scope (Access array subs place))
        (λ room r. weaker (λ ts a p. p) (λ a x. x) (cell_read room (Each (IsFormTree scope) subs) (subscripts scope subs) name has.0 r)) (subscripts_deep scope named subs has.1)
    value_deep (Call' symbol n args place) has =
        same_depth (CallReads scope symbol.name args) (ValueReads scope (Call' symbol n args place))
        (λ room r. weaker (λ ts a p. p) (λ a x. x) r) (call_deep scope symbol.name args has.0 (row_deep args has.1))

    row_deep : {m : _} (row : Row_of-Value m) → HaveValueNames scope.arrays row → Deep (RowReads scope row)
    row_deep end_of-Value has = always (RowReads scope end_of-Value) (λ room. tt)
    row_deep (more_of-Value v rest) has = both_deep (ValueReads scope v) (RowReads scope rest) (value_deep v has.0) (row_deep rest has.1)
