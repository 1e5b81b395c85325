-- The trees of calls from those of their arguments.
use Rattle.std.specs.Prelude.{List, [], ◌∷◌, ◌++◌, length, codes, Bool, true, false, Some, if◌then◌else◌}
use Rattle.std.specs.List.{flat_map, AllByRecursion}
use Rattle.std.proofs.Common.{◌≡◌, ℕ, suc, ◌+◌, refl, sym, ◌∙◌, ap, subst}
use Rattle.ac_syntax.specs.declared.tree.Place.{Place}
use Rattle.ac_syntax.specs.Text.{is_operator, is_decimal}
use Rattle.ac_lex.specs.Lexemes.{Lexeme}
use Rattle.ac_lex.specs.declared.tokens.TokenKind.TheVariants as kind
use Rattle.ac_parse_grammar.specs.declared.terminal.Terminal.TheVariants as t
use Rattle.ac_parse_grammar.specs.declared.tree.Word.{Word}
use Rattle.ac_parse_grammar.specs.declared.tree.Operator.{Operator}
use Rattle.ac_parse_grammar.specs.declared.tree.Operator.TheVariants.{Add, Subtract, Multiply, Divide, Remainder}
use Rattle.ac_parse_grammar.specs.declared.tree.Expr.{Expr}
use Rattle.ac_parse_grammar.specs.declared.tree.Expr.TheVariants as expr
use Rattle.ac_parse_grammar.specs.Terminals.{terminal, terminal_by}
use Rattle.ac_parse_grammar.specs.TokenWords.{place_of, word_of}
use Rattle.ac_parse_grammar.specs.Operators.{sign_of, star_of}
use Rattle.ac_parse_grammar.specs.Grammar as g
use Rattle.ac_parse_grammar.specs.Grammar.{IsExpr, IsPrimary, Arguments, ArgumentList}
use Rattle.ac_parse_roundtrip.specs.Items.{Item, token, lexeme, lexemes, space, mark, word, joined, in_parentheses, function, operation, call}
use Rattle.ac_parse_roundtrip.specs.CanonicalTrees.{Each, IsWordOf, sign}
use Rattle.ac_parse_roundtrip.specs.GrammarPrograms.{IsName}
use Rattle.ac_parse_roundtrip.proofs.ItemSequences.{after, lexemes-append, Reads}
use Rattle.ac_parse_roundtrip.proofs.TokenTerminals.{mark_at, word_at, open_is, close_is, comma_is, minus_is, plus_is, star_is, slash_is, percent_is, name_is, decimal_is}
use Rattle.ac_parse_roundtrip.proofs.PartSequences.{snoc, added_snoc, behind}
use Rattle.ac_parse_roundtrip.proofs.FormTrees.{of_primary}

-- ---- groups

abbrev pub IsGroupOf : (Expr → Type 0) → Expr → Type 0
IsGroupOf T tree = (inner : Expr) × (place : Place) × T inner × (tree ≡ expr.Group inner place)

pub group_read : (room : ℕ) (T : Expr → Type 0) (is : List Item) → Reads (IsExpr room) T is → Reads (IsPrimary (suc room)) (IsGroupOf T) (in_parentheses is)
group_read room T is r = record {
  at = λ at.
      let x = r.at (at + 1) in
      let close = after (at + 1) is in
      let left = mark_at at (codes "(") in
      let tree = expr.Group x.0 (place_of left) in (
        tree,
        subst (λ ts. IsPrimary (suc room) (left ∷ ts) tree) (sym (lexemes-append (at + 1) is (mark (codes ")") ∷ [])))
            (g.group (mark_at close (codes ")")) (open_is at) x.1 (close_is close)),
        (x.0, place_of left, x.2, refl),
      );
}

-- ---- operators

abbrev pub IsNegativeOf : (Expr → Type 0) → Expr → Type 0
IsNegativeOf T tree = (operand : Expr) × (place : Place) × T operand × (tree ≡ expr.Negative operand place)

minus_token : (at : ℕ) (name : List ℕ) → name ≡ sign Subtract → terminal (mark_at at name) ≡ t.Minus
minus_token at name e = ap (λ text. terminal (mark_at at text)) e ∙ minus_is at

pub negative_read : (room : ℕ) (T : Expr → Type 0) (is : List Item) (name : List ℕ) → name ≡ sign Subtract → Reads (IsPrimary room) T is
    → Reads (IsExpr (suc room)) (IsNegativeOf T) (mark name ∷ is)
negative_read room T is name e r = record {
  at = λ at.
      let minus = mark_at at name in
      let x = r.at (at + length name) in (
        expr.Negative x.0 (place_of minus),
        g.sum (g.one_term (g.product (g.one_factor (g.negative (minus_token at name e) (g.primary x.1))))),
        (x.0, place_of minus, x.2, refl),
      );
}

abbrev pub IsOperationOf : (Expr → Type 0) → (Expr → Type 0) → Operator → Expr → Type 0
IsOperationOf T U operator tree =
    (left : Expr) × (right : Expr) × T left × U right × (tree ≡ expr.Chain (left ∷ right ∷ []) (operator ∷ []))

module _ {room : ℕ} {ts us : List Lexeme} {a b : Expr} (at : ℕ) (left : IsPrimary room ts a) (right : IsPrimary room us b) where
  by_sign : (operator : Operator) (name : List ℕ) → sign_of (terminal (mark_at at name)) ≡ Some operator
      → IsExpr room (ts ++ mark_at at name ∷ us) (expr.Chain (a ∷ b ∷ []) (operator ∷ []))
  by_sign operator name e =
      g.sum (g.next_term (mark_at at name) (g.one_term (g.product (g.one_factor (g.primary left)))) e (g.product (g.one_factor (g.primary right))))

  by_star : (operator : Operator) (name : List ℕ) → star_of (terminal (mark_at at name)) ≡ Some operator
      → IsExpr room (ts ++ mark_at at name ∷ us) (expr.Chain (a ∷ b ∷ []) (operator ∷ []))
  by_star operator name e = g.sum (g.one_term (g.product (g.next_factor (mark_at at name) (g.one_factor (g.primary left)) e (g.primary right))))

  operated : (operator : Operator) → IsExpr room (ts ++ mark_at at (sign operator) ∷ us) (expr.Chain (a ∷ b ∷ []) (operator ∷ []))
  operated Add = by_sign Add (codes "+") (ap sign_of (plus_is at))
  operated Subtract = by_sign Subtract (codes "-") (ap sign_of (minus_is at))
  operated Multiply = by_star Multiply (codes "*") (ap star_of (star_is at))
  operated Divide = by_star Divide (codes "/") (ap star_of (slash_is at))
  operated Remainder = by_star Remainder (codes "%") (ap star_of (percent_is at))

pub operation_read : (room : ℕ) (T U : Expr → Type 0) (is js : List Item) (operator : Operator) → Reads (IsPrimary room) T is → Reads (IsPrimary room) U js
    → Reads (IsExpr room) (IsOperationOf T U operator) (is ++ space ∷ mark (sign operator) ∷ space ∷ js)
operation_read room T U is js operator r s = record {
  at = λ at.
      let x = r.at at in
      let place = after at is + 1 in
      let y = s.at (place + length (sign operator) + 1) in
      let tree = expr.Chain (x.0 ∷ y.0 ∷ []) (operator ∷ []) in (
        tree,
        subst (λ ts. IsExpr room ts tree) (sym (lexemes-append at is (space ∷ mark (sign operator) ∷ space ∷ js))) (operated place x.1 y.1 operator),
        (x.0, y.0, x.2, y.2, refl),
      );
}

-- ---- decimals and functions

abbrev pub IsDecimalOf : List ℕ → Expr → Type 0
IsDecimalOf name tree = (word : Word) × IsWordOf name word × (tree ≡ expr.Decimal word)

pub decimal_read : (room : ℕ) (name : List ℕ) → terminal_by kind.Decimal name ≡ t.Decimal → Reads (IsPrimary room) (IsDecimalOf name) (token kind.Decimal name ∷ [])
decimal_read room name h = record {
  at = λ at. let w = word_of (lexeme kind.Decimal at name) in (expr.Decimal w, g.decimal (decimal_is at name h), (w, refl, refl));
}

-- a comma and an expression
data IsComma (room : ℕ) : List Lexeme → Expr → Type 0 where
  comma_expr : (comma : Lexeme) {us : List Lexeme} {a : Expr} → terminal comma ≡ t.Comma → IsExpr room us a → IsComma room (comma ∷ us) a

abbrev pub comma_items : List Item
comma_items = mark (codes ",") ∷ space ∷ []

comma_read : (room : ℕ) (T : Expr → Type 0) (is : List Item) → Reads (IsPrimary room) T is → Reads (IsComma room) T (comma_items ++ is)
comma_read room T is r = record { at = λ at. let x = r.at (at + 1 + 1) in (x.0, comma_expr (mark_at at (codes ",")) (comma_is at) (of_primary x.1), x.2) }

comma_step : (room : ℕ) (ts us : List Lexeme) (args : List Expr) (a : Expr) → ArgumentList room ts args → IsComma room us a → ArgumentList room (ts ++ us) (snoc args a)
comma_step room ts _ args a r (comma_expr comma e x) = g.next_argument comma r e x

abbrev pub argument_items : {B : Type 0} → (B → List Item) → List B → List Item
argument_items f [] = []
argument_items f (b ∷ bs) = f b ++ flat_map (λ c. comma_items ++ f c) bs

module _ {B : Type 0} (T : B → Expr → Type 0) (f : B → List Item) where
  commas : (room : ℕ) (bs : List B) → AllByRecursion (λ b. Reads (IsPrimary room) (T b) (f b)) bs → AllByRecursion (λ b. Reads (IsComma room) (T b) (comma_items ++ f b)) bs
  commas room [] h = tt
  commas room (b ∷ bs) h = (comma_read room (T b) (f b) h.0, commas room bs h.1)

  pub arguments_read : (room : ℕ) (bs : List B) → AllByRecursion (λ b. Reads (IsPrimary room) (T b) (f b)) bs → Reads (Arguments room) (Each T bs) (argument_items f bs)
  arguments_read room [] h = record { at = λ at. ([], g.no_argument, tt) }
  arguments_read room (b ∷ bs) h = record {
    at = λ at.
        let first = h.0.at at in
        let rest = flat_map (λ c. comma_items ++ f c) bs in
        let ts = lexemes at (f b) in
        let others = behind (ArgumentList room) (IsComma room) snoc (comma_step room) T (λ c. comma_items ++ f c) bs (commas room bs h.1)
        ts (first.0 ∷ []) (g.one_argument (of_primary first.1)) (after at (f b)) in
        let args = first.0 ∷ others.0 in (
          args,
          subst (λ us. Arguments room us args) (sym (lexemes-append at (f b) rest))
              (g.some_arguments (subst (λ xs. ArgumentList room (ts ++ lexemes (after at (f b)) rest) xs) (added_snoc (first.0 ∷ []) others.0) others.1)),
          (first.2, others.2),
        );
  }

abbrev pub IsFunctionOf : List ℕ → (List Expr → Type 0) → Expr → Type 0
IsFunctionOf name T tree = (word : Word) × (args : List Expr) × IsWordOf name word × T args × (tree ≡ expr.Call word args)

pub function_read : (room : ℕ) (T : List Expr → Type 0) (is : List Item) (name : List ℕ) → IsName name → Reads (Arguments room) T is
    → Reads (IsPrimary (suc room)) (IsFunctionOf name T) (word name ∷ in_parentheses is)
function_read room T is name named r = record {
  at = λ at.
      let n = word_at at name in
      let open_at = at + length name in
      let x = r.at (open_at + 1) in
      let close = after (open_at + 1) is in
      let tree = expr.Call (word_of n) x.0 in (
        tree,
        subst (λ ts. IsPrimary (suc room) (n ∷ mark_at open_at (codes "(") ∷ ts) tree) (sym (lexemes-append (open_at + 1) is (mark (codes ")") ∷ [])))
            (g.call (mark_at close (codes ")")) (name_is at name named) (open_is open_at) x.1 (close_is close)),
        (word_of n, x.0, refl, x.2, refl),
      );
}

-- ---- which of them a call is

pub call_operation : (name : List ℕ) (args : List (List Item)) → is_operator name ≡ true → call name args ≡ operation name args
call_operation name args e = ap (λ b. if b then operation name args else function name args) e

pub call_function : (name : List ℕ) (args : List (List Item)) → is_operator name ≡ false → call name args ≡ function name args
call_function name args e = ap (λ b. if b then operation name args else function name args) e

pub sign_operator : (operator : Operator) → is_operator (sign operator) ≡ true
sign_operator Add = refl
sign_operator Subtract = refl
sign_operator Multiply = refl
sign_operator Divide = refl
sign_operator Remainder = refl

pub call_nothing : (name : List ℕ) → call name [] ≡ function name []
call_nothing name = by_test (is_operator name)
  where
    by_test : (b : Bool) → (if b then operation name [] else function name []) ≡ function name []
    by_test true = refl
    by_test false = refl

pub function_decimal : (name : List ℕ) (args : List (List Item)) → is_decimal name ≡ true → function name args ≡ token kind.Decimal name ∷ []
function_decimal name args e = ap (λ b. if b then token kind.Decimal name ∷ [] else word name ∷ in_parentheses (joined comma_items args)) e

pub function_word : (name : List ℕ) (args : List (List Item)) → is_decimal name ≡ false → function name args ≡ word name ∷ in_parentheses (joined comma_items args)
function_word name args e = ap (λ b. if b then token kind.Decimal name ∷ [] else word name ∷ in_parentheses (joined comma_items args)) e
