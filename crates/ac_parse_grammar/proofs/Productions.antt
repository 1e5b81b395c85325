-- Each production of expressions is exact.
use Rattle.std.specs.Prelude.{Bool, true, false, ◌||◌}
use Rattle.std.proofs.Common.{◌≡◌, ℕ, List, [], ◌∷◌, ◌++◌, refl, ◌∙◌, ap, append_assoc}
use Rattle.ac_lex.specs.Lexemes.{Lexeme}
use Rattle.ac_lex.specs.declared.tokens.TokenKind.TheVariants as token
use Rattle.ac_parse_grammar.specs.declared.terminal.Terminal.{Terminal}
use Rattle.ac_parse_grammar.specs.declared.terminal.Terminal.TheVariants as t
use Rattle.ac_parse_grammar.specs.declared.tree.Word.{Word}
use Rattle.ac_parse_grammar.specs.declared.tree.Operator.TheVariants.{Add, Multiply}
use Rattle.ac_parse_grammar.specs.declared.tree.Expr.{Expr}
use Rattle.ac_parse_grammar.specs.declared.tree.Expr.TheVariants as tree
use Rattle.ac_parse_grammar.specs.Terminals.{terminal, is_name}
use Rattle.ac_parse_grammar.specs.TokenWords.{place_of}
use Rattle.ac_parse_grammar.specs.Chains.{start, link, chain}
use Rattle.ac_parse_grammar.specs.ReaderCombinators.{Reader, ◌>>=◌, pure, peek, is, ending, repeat}
use Rattle.ac_parse_grammar.specs.Found.{Rel, Goes}
use Rattle.ac_parse_grammar.specs.Expressions.{comma_of, list_item, opens, factors, product, term_of, terms, sum, expr_of, list}
use Rattle.ac_parse_grammar.proofs.Exact.{Exact, Some_of, none, nowhere, IsThen, both, then_exact}
use Rattle.ac_parse_grammar.proofs.Many.{no_more}
use Rattle.ac_parse_grammar.proofs.Parts.{IsPure, nothing, pure_exact, pass, IsToken, token_heads, token_exact, choose, choose_exact, closing, IsHeld, Spelled, held_exact, map_exact, ended_exact, from_anywhere}
use Rattle.ac_parse_grammar.proofs.Repeats.{has, IsRepeat, repeat_exact, repeat_next}
use Rattle.ac_parse_grammar.proofs.Relations.{IsFactors, IsProduct, IsTermOf, IsTerms, IsSum, IsExprOf, IsList, IsCallEnd, IsCall, IsGroup, IsNegative}
use Rattle.ac_parse_grammar.specs.Operators.{sign_of, star_of}

-- ---- tokens of some terminals

abbrev mark : List ℕ → Lexeme
mark text = record { kind = token.Mark; at = 0; text = text }

pub a_number : Spelled t.Number
unfolding terminal
a_number = (record { kind = token.Number; at = 0; text = [] }, refl)

pub an_open : Spelled t.Open
unfolding terminal
an_open = (mark (40 ∷ []), refl)

pub a_close : Spelled t.Close
unfolding terminal
a_close = (mark (41 ∷ []), refl)

pub a_close_bracket : Spelled t.CloseBracket
unfolding terminal
a_close_bracket = (mark (93 ∷ []), refl)

pub an_open_bracket : Spelled t.OpenBracket
unfolding terminal
an_open_bracket = (mark (91 ∷ []), refl)

pub a_plus : Spelled t.Plus
unfolding terminal
a_plus = (mark (43 ∷ []), refl)

pub a_star : Spelled t.Star
unfolding terminal
a_star = (mark (42 ∷ []), refl)

pub a_comma : Spelled t.Comma
unfolding terminal
a_comma = (mark (44 ∷ []), refl)

-- ---- with which terminals things go on

abbrev pub on_unary : Goes Expr
on_unary e = opens

abbrev pub on_term : Terminal → Bool
on_term k = has (star_of k) || opens k

abbrev pub on_expr : Terminal → Bool
on_expr k = has (sign_of k) || on_term k

abbrev pub on_list : Terminal → Bool
on_list k = has (comma_of k) || on_expr k

star_apart : (k : Terminal) → has (star_of k) ≡ true → opens k ≡ false
star_apart t.Star e = refl
star_apart t.Slash e = refl
star_apart t.Percent e = refl
star_apart _ e = cc

sign_apart : (k : Terminal) → has (sign_of k) ≡ true → on_term k ≡ false
sign_apart t.Plus e = refl
sign_apart t.Minus e = refl
sign_apart _ e = cc

comma_apart : (k : Terminal) → has (comma_of k) ≡ true → on_expr k ≡ false
comma_apart t.Comma e = refl
comma_apart _ e = cc

-- the terminals with which an expression begins
abbrev pub begins : Terminal → Bool
begins t.Number = true
begins t.Decimal = true
begins t.Minus = true
begins t.Open = true
begins t.Floord = true
begins t.Ceild = true
begins k = is_name k

begins_not_close : (k : Terminal) → begins k ≡ true → is t.Close k ≡ false
unfolding is
begins_not_close t.Close e = cc
begins_not_close _ e = refl

abbrev pub Heads : {A : Type 0} → Rel A → Type 0
Heads {A = A} R = (ts left : List Lexeme) (a : A) → R ts a → begins (peek (ts ++ left)) ≡ true

pub then_heads : {A B : Type 0} {R : Rel A} {S : A → Rel B} → Heads R → Heads (IsThen R S)
then_heads h _ left b (both {ts} {us} {a} r t) = ap (λ l. begins (peek l)) (append_assoc ts us left) ∙ h ts (us ++ left) a r

-- ---- behind a unary

-- a unary as it may stand inside, and one construct deeper
pub record Inner (u : Reader Expr) (U V : Rel Expr) : Type 0 where
  pub exact : Exact u U V nowhere on_unary
  pub some : Some_of V
  pub here : Some_of U
  pub heads : Heads U

abbrev pub some_product : (V : Rel Expr) (first : Expr) → Some_of (IsProduct V first)
some_product V first = ([] ++ [], chain (start first), both no_more nothing)

abbrev pub some_term : (V : Rel Expr) → Some_of V → Some_of (IsTermOf V)
some_term V some = (some.0 ++ [], chain (start some.1), both some.2 (both no_more nothing))

abbrev pub some_sum : (V : Rel Expr) (first : Expr) → Some_of (IsSum V first)
some_sum V first = ([] ++ [], chain (start first), both no_more nothing)

abbrev pub some_expr : (V : Rel Expr) → Some_of V → Some_of (IsExprOf V)
some_expr V some = let term = some_term V some in (term.0 ++ [], chain (start term.1), both term.2 (both no_more nothing))

abbrev pub some_list : (V : Rel Expr) → Some_of V → Some_of (IsList (IsExprOf V))
some_list V some = let e = some_expr V some in (e.0 ++ [], e.1 ∷ [], both e.2 no_more)

-- the rest of a call
abbrev pub call_end : Reader Expr → Reader (List Expr)
call_end u = choose (is t.Close) (pass (λ _. pure [])) (list (expr_of u) >>= closing t.Close)

module _ (u : Reader Expr) (U V : Rel Expr) (inner : Inner u U V) where
  pub factors_next : (first : Expr) (ts left : List Lexeme) (e : Expr) → IsProduct U first ts e → on_term (peek left) ≡ false → opens (peek (ts ++ left)) ≡ false
  factors_next first _ left e (both {ts} {us} r nothing) end =
      ap (λ l. opens (peek l)) (append_assoc ts [] left) ∙
      repeat_next star_of link u U V on_unary (λ _. opens) inner.exact inner.some inner.here refl a_star.0 Multiply (ap star_of a_star.1) (λ x o b k. refl) (λ b. star_apart) ts left r end opens (λ k e. e) star_apart

  pub product_exact : (first : Expr) → Exact (product u first) (IsProduct U first) (IsProduct V first) opens (λ _. on_term)
  unfolding product factors
  product_exact first = map_exact (repeat star_of link u (start first)) (IsFactors U first) (IsFactors V first) chain opens (λ _. on_term) (λ _. on_term)
      (repeat_exact star_of link u U V on_unary (λ _. opens) inner.exact inner.some inner.here refl a_star.0 Multiply (ap star_of a_star.1) (λ x o b k. refl) (λ b. star_apart) (start first)) (λ a k. refl)

  pub term_exact : Exact (term_of u) (IsTermOf U) (IsTermOf V) nowhere (λ _. on_term)
  unfolding term_of
  term_exact = then_exact u (product u) U V (IsProduct U) (IsProduct V) nowhere on_unary (λ _. on_term) inner.exact product_exact (some_product V) (some_product U) factors_next

  pub terms_next : (first : Expr) (ts left : List Lexeme) (e : Expr) → IsSum U first ts e → on_expr (peek left) ≡ false → on_term (peek (ts ++ left)) ≡ false
  terms_next first _ left e (both {ts} {us} r nothing) end =
      ap (λ l. on_term (peek l)) (append_assoc ts [] left) ∙
      repeat_next sign_of link (term_of u) (IsTermOf U) (IsTermOf V) (λ _. on_term) (λ _. on_term) term_exact (some_term V inner.some) (some_term U inner.here) refl a_plus.0 Add (ap sign_of a_plus.1) (λ x o b k. refl) (λ b. sign_apart) ts left r end on_term (λ k e. e) sign_apart

  pub sum_exact : (first : Expr) → Exact (sum u first) (IsSum U first) (IsSum V first) on_term (λ _. on_expr)
  unfolding sum terms
  sum_exact first = map_exact (repeat sign_of link (term_of u) (start first)) (IsTerms U first) (IsTerms V first) chain on_term (λ _. on_expr) (λ _. on_expr)
      (repeat_exact sign_of link (term_of u) (IsTermOf U) (IsTermOf V) (λ _. on_term) (λ _. on_term) term_exact (some_term V inner.some) (some_term U inner.here) refl a_plus.0 Add (ap sign_of a_plus.1) (λ x o b k. refl) (λ b. sign_apart) (start first)) (λ a k. refl)

  pub expr_exact : Exact (expr_of u) (IsExprOf U) (IsExprOf V) nowhere (λ _. on_expr)
  unfolding expr_of
  expr_exact = then_exact (term_of u) (sum u) (IsTermOf U) (IsTermOf V) (IsSum U) (IsSum V) nowhere (λ _. on_term) (λ _. on_expr) term_exact sum_exact (some_sum V) (some_sum U) terms_next

  pub expr_heads : Heads (IsExprOf U)
  expr_heads = then_heads (then_heads inner.heads)

  list_exact : Exact (list (expr_of u)) (IsList (IsExprOf U)) (IsList (IsExprOf V)) nowhere (λ _. on_list)
  unfolding list
  list_exact = then_exact (expr_of u) (λ a. repeat comma_of list_item (expr_of u) (a ∷ [])) (IsExprOf U) (IsExprOf V)
      (λ a. IsRepeat comma_of list_item (IsExprOf U) (a ∷ [])) (λ a. IsRepeat comma_of list_item (IsExprOf V) (a ∷ [])) nowhere (λ _. on_expr) (λ _. on_list) expr_exact
      (λ a. repeat_exact comma_of list_item (expr_of u) (IsExprOf U) (IsExprOf V) (λ _. on_expr) (λ _. on_expr) expr_exact (some_expr V inner.some) (some_expr U inner.here) refl a_comma.0 tt (ap comma_of a_comma.1) (λ x o b k. refl) (λ b. comma_apart) (a ∷ []))
      (λ a. ([], a ∷ [], no_more)) (λ a. ([], a ∷ [], no_more))
      (λ a ts left b r end. repeat_next comma_of list_item (expr_of u) (IsExprOf U) (IsExprOf V) (λ _. on_expr) (λ _. on_expr) expr_exact (some_expr V inner.some) (some_expr U inner.here) refl a_comma.0 tt (ap comma_of a_comma.1) (λ x o b k. refl) (λ b. comma_apart) ts left r end on_expr (λ k e. e) comma_apart)

  -- ---- what stands behind the token that opens a construct

  pub subscript_exact : Exact (expr_of u >>= closing t.CloseBracket) (IsHeld (IsExprOf U) t.CloseBracket) (IsHeld (IsExprOf V) t.CloseBracket) nowhere none
  unfolding is
  subscript_exact = held_exact (expr_of u) (IsExprOf U) (IsExprOf V) nowhere (λ _. on_expr) t.CloseBracket a_close_bracket expr_exact refl (λ a. refl)

  pub group_exact : (open_at : Lexeme) → Exact ((expr_of u >>= closing t.Close) >>= (λ a. ending opens (tree.Group a (place_of open_at)))) (IsGroup U open_at) (IsGroup V open_at) nowhere on_unary
  unfolding is
  group_exact open_at = ended_exact (expr_of u >>= closing t.Close) (IsHeld (IsExprOf U) t.Close) (IsHeld (IsExprOf V) t.Close) (λ a. tree.Group a (place_of open_at)) nowhere none opens
      (held_exact (expr_of u) (IsExprOf U) (IsExprOf V) nowhere (λ _. on_expr) t.Close a_close expr_exact refl (λ a. refl)) (λ a k e. refl)

  pub negative_exact : (sign : Lexeme) → Exact (u >>= (λ a. pure (tree.Negative a (place_of sign)))) (IsNegative U sign) (IsNegative V sign) nowhere on_unary
  negative_exact sign = map_exact u U V (λ a. tree.Negative a (place_of sign)) nowhere on_unary on_unary inner.exact (λ a k. refl)

  call_end_exact : Exact (call_end u) (IsCallEnd U) (IsCallEnd V) nowhere none
  unfolding is
  call_end_exact = choose_exact (is t.Close) (pass (λ _. pure [])) (list (expr_of u) >>= closing t.Close)
      (IsToken (is t.Close) (λ _. IsPure [])) (IsToken (is t.Close) (λ _. IsPure [])) (IsHeld (IsList (IsExprOf U)) t.Close) (IsHeld (IsList (IsExprOf V)) t.Close) none
      (token_exact (is t.Close) (λ _. pure []) (λ _. IsPure []) (λ _. IsPure []) none refl (λ _. pure_exact [] none) (λ _. ([], [], nothing)) (λ _. ([], [], nothing)))
      (from_anywhere (held_exact (list (expr_of u)) (IsList (IsExprOf U)) (IsList (IsExprOf V)) nowhere (λ _. on_list) t.Close a_close list_exact refl (λ a. refl)))
      token_heads (λ ts left all r end. begins_not_close _ (then_heads (then_heads expr_heads) ts left all r))

  pub call_exact : (word : Word) (open_at : Lexeme) → Exact (call_end u >>= (λ args. ending opens (tree.Call word args))) (IsCall word U open_at) (IsCall word V open_at) nowhere on_unary
  call_exact word open_at = ended_exact (call_end u) (IsCallEnd U) (IsCallEnd V) (tree.Call word) nowhere none opens call_end_exact (λ a k e. refl)
