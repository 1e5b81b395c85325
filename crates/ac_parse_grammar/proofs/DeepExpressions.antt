-- Where more constructs may open, an expression is read in the same way, unless it stopped at the limit.
use Rattle.std.specs.Prelude.{Option}
use Rattle.std.proofs.Common.{ℕ, zero, suc, [], ◌∷◌, refl, inl, inr}
use Rattle.ac_lex.specs.Lexemes.{Lexeme}
use Rattle.ac_parse_grammar.specs.declared.terminal.Terminal.{Terminal}
use Rattle.ac_parse_grammar.specs.declared.terminal.Terminal.TheVariants as t
use Rattle.ac_parse_grammar.specs.declared.tree.Word.{Word}
use Rattle.ac_parse_grammar.specs.declared.tree.Expr.{Expr}
use Rattle.ac_parse_grammar.specs.Chains.{start, link}
use Rattle.ac_parse_grammar.specs.ReaderCombinators.{Reader, peek, front, rest, is, name}
use Rattle.ac_parse_grammar.specs.Expressions.{comma_of, add_item, list_item, factors, product, term_of, terms, sum, expr_of, list, arguments, subscripts, named, divided, division, quotient, group, primary_by, any_primary, primary, negated, unary_in, below, unary, expr}
use Rattle.ac_parse_grammar.proofs.Deeper.{Agree, Deeper, then_agree, then_deeper, same_deeper, choose_deeper, repeat_deeper, many_deeper, Below, at_limit, inside, within_deeper}
use Rattle.ac_parse_grammar.specs.Operators.{sign_of, star_of}

pub product_deeper : (u v : Reader Expr) → Deeper u v → (first : Expr) → Deeper (product u first) (product v first)
unfolding product factors
product_deeper u v d first = then_deeper _ _ _ _ (repeat_deeper star_of link u v d (start first)) (λ links. same_deeper _)

term_deeper : (u v : Reader Expr) → Deeper u v → Deeper (term_of u) (term_of v)
unfolding term_of
term_deeper u v d = then_deeper u v _ _ d (product_deeper u v d)

pub sum_deeper : (u v : Reader Expr) → Deeper u v → (first : Expr) → Deeper (sum u first) (sum v first)
unfolding sum terms
sum_deeper u v d first = then_deeper _ _ _ _ (repeat_deeper sign_of link (term_of u) (term_of v) (term_deeper u v d) (start first)) (λ links. same_deeper _)

pub expr_deeper : (u v : Reader Expr) → Deeper u v → Deeper (expr_of u) (expr_of v)
unfolding expr_of
expr_deeper u v d = then_deeper (term_of u) (term_of v) _ _ (term_deeper u v d) (sum_deeper u v d)

list_deeper : (p q : Reader Expr) → Deeper p q → Deeper (list p) (list q)
unfolding list
list_deeper p q d = then_deeper p q _ _ d (λ a. repeat_deeper comma_of list_item p q d (a ∷ []))

arguments_deeper : (u v : Reader Expr) → Deeper u v → Deeper (arguments u) (arguments v)
unfolding arguments
arguments_deeper u v d ts = choose_deeper (is t.Close (peek ts)) _ _ _ _ (inl refl) (list_deeper (expr_of u) (expr_of v) (expr_deeper u v d) ts)

divided_deeper : (word : Lexeme) (u v : Reader Expr) → Deeper u v → Deeper (divided word u) (divided word v)
unfolding divided
divided_deeper word u v d = then_deeper (expr_of u) (expr_of v) _ _ (expr_deeper u v d) (λ a. same_deeper _)

module _ (b c : Option (Reader Expr)) (d : Below Deeper b c) where
  pub subscripts_deeper : Deeper (subscripts b) (subscripts c)
  unfolding subscripts
  subscripts_deeper = many_deeper (is t.OpenBracket) add_item _ _ (within_deeper b c expr_of t.CloseBracket d expr_deeper) []

  named_deeper : (word : Word) → Deeper (named b word) (named c word)
  unfolding named
  named_deeper word ts = choose_deeper (is t.Open (peek ts)) _ _ _ _
      (then_agree _ _ _ _ (within_deeper b c arguments t.Close d arguments_deeper ts) (λ a. same_deeper _))
      (then_agree _ _ _ _ (subscripts_deeper ts) (λ a. same_deeper _))

  division_deeper : (word : Lexeme) → Deeper (division b word) (division c word)
  unfolding division
  division_deeper word ts = choose_deeper (is t.Open (peek ts)) _ _ _ _ (within_deeper b c (divided word) t.Close d (divided_deeper word) ts) (inl refl)

  quotient_deeper : Deeper (quotient b) (quotient c)
  unfolding quotient
  quotient_deeper ts = division_deeper (front ts) (rest ts)

  group_deeper : Deeper (group b) (group c)
  unfolding group
  group_deeper ts = then_agree _ _ _ _ (within_deeper b c expr_of t.Close d expr_deeper ts) (λ a. same_deeper _)

  any_primary_deeper : Deeper (any_primary b) (any_primary c)
  unfolding any_primary
  any_primary_deeper ts = by_head (peek ts)
    where
      by_head : (k : Terminal) → Agree (primary_by b k ts) (primary_by c k ts)
      by_head t.Number = inl refl
      by_head t.Decimal = inl refl
      by_head t.Floord = quotient_deeper ts
      by_head t.Ceild = quotient_deeper ts
      by_head t.Open = group_deeper ts
      by_head _ = then_agree (name ts) (name ts) _ _ (inl refl) named_deeper

  primary_deeper : Deeper (primary b) (primary c)
  unfolding primary
  primary_deeper = then_deeper _ _ _ _ any_primary_deeper (λ a. same_deeper _)

negated_deeper : (b c : Option (Reader Expr)) → Below Deeper b c → Deeper (negated b) (negated c)
unfolding negated
negated_deeper _ _ (at_limit c) ts = inr (ts, refl)
negated_deeper _ _ (inside u v d) ts = then_agree (u (rest ts)) (v (rest ts)) _ _ (d (rest ts)) (λ a. same_deeper _)

unary_in_deeper : (b c : Option (Reader Expr)) → Below Deeper b c → Deeper (unary_in b) (unary_in c)
unfolding unary_in
unary_in_deeper b c d ts = choose_deeper (is t.Minus (peek ts)) _ _ _ _ (negated_deeper b c d ts) (primary_deeper b c d ts)

pub below_deeper : (room : ℕ) → Below Deeper (below room) (below (suc room))
unfolding below
below_deeper zero = at_limit (below (suc zero))
below_deeper (suc room) = inside (unary_in (below room)) (unary_in (below (suc room))) (unary_in_deeper (below room) (below (suc room)) (below_deeper room))

pub unary_deeper : (room : ℕ) → Deeper (unary room) (unary (suc room))
unfolding unary
unary_deeper room = unary_in_deeper (below room) (below (suc room)) (below_deeper room)

pub expression_deeper : (room : ℕ) → Deeper (expr room) (expr (suc room))
expression_deeper room = expr_deeper (unary room) (unary (suc room)) (unary_deeper room)
