-- Unaries are exact, at each room for constructs inside.
use Rattle.std.specs.Prelude.{Bool, true, false, cond, not, ◌||◌, ◌⊎◌, Option, Some, None}
use Rattle.std.proofs.Common.{◌≡◌, ℕ, zero, suc, List, [], ◌∷◌, ◌++◌, refl, sym, ◌∙◌, ap, inl, inr, append_assoc}
use Rattle.ac_lex.specs.Lexemes.{Lexeme}
use Rattle.ac_parse_grammar.specs.declared.terminal.Terminal.{Terminal}
use Rattle.ac_parse_grammar.specs.declared.terminal.Terminal.TheVariants as t
use Rattle.ac_parse_grammar.specs.declared.tree.Word.{Word}
use Rattle.ac_parse_grammar.specs.declared.tree.Expr.{Expr}
use Rattle.ac_parse_grammar.specs.declared.tree.Expr.TheVariants as tree
use Rattle.ac_parse_grammar.specs.Terminals.{terminal, is_name, is_rounding}
use Rattle.ac_parse_grammar.specs.TokenWords.{place_of, word_of, numeral_of}
use Rattle.ac_parse_grammar.specs.ReaderCombinators.{Why, syntax, nesting, Got, found, stopped, Reader, and_then, ◌>>=◌, ◌>>◌, pure, refuse, peek, front, rest, is, expect, ending, name}
use Rattle.ac_parse_grammar.specs.Found.{Rel, Goes, awaits_parenthesis, opens_construct}
use Rattle.ac_parse_grammar.specs.Expressions.{add_item, opens, expr_of, list, arguments, within, subscripts, named, divided, division, quotient, group, primary_by, any_primary, primary, negated, unary_in, below, unary, expr}
use Rattle.ac_parse_grammar.proofs.Exact.{Exact, Some_of, none, nowhere, both, at_keyword, Begun}
use Rattle.ac_parse_grammar.proofs.Many.{no_more, one_more, many_exact}
use Rattle.ac_parse_grammar.proofs.Parts.{is_true, IsNothing, IsPure, nothing, ending_exact, refuse_exact, pass, IsToken, token, token_heads, token_exact, token_exact_by, token_live, limit_exact, choose, IsEither, one, other, choose_exact, closing, IsHeld, IsMap, some_held, some_map, ended_exact, same_exact, from_anywhere, pure_empty, marks_of}
use Rattle.ac_parse_grammar.proofs.Relations.{Opening, at_limit, around, IsExprOf, IsCallEnd, IsCall, IsSubscript, IsGroup, IsNegative, IsSubscripts, IsNamed, IsDivision, IsQuotient, IsPrimaryIn, IsUnaryIn, IsUnaryAt, IsExprAt, openings_at}
use Rattle.ac_parse_grammar.proofs.Productions.{Inner, on_unary, on_expr, begins, Heads, a_number, an_open, a_close, a_close_bracket, an_open_bracket, some_expr, expr_exact, subscript_exact, group_exact, negative_exact, call_end, call_exact}
use Rattle.ac_parse_grammar.proofs.Quotients.{division_reader, division_is, division_exact, some_division}

-- what a token that opens a construct begins, and with which unary inside
pub opening : Option (Reader Expr) → (Reader Expr → Lexeme → Reader Expr) → Reader Expr
opening None f = λ ts. stopped nesting ts
opening (Some u) f = pass (f u)

abbrev pub Each : (Reader Expr → Lexeme → Reader Expr) → (Rel Expr → Lexeme → Rel Expr) → Goes Expr → Type 1
Each f R g = (u : Reader Expr) (U V : Rel Expr) → Inner u U V → (t : Lexeme) → Exact (f u t) (R U t) (R V t) nowhere g

abbrev pub SomeEach : (Rel Expr → Lexeme → Rel Expr) → Type 1
SomeEach R = (V : Rel Expr) → Some_of V → (t : Lexeme) → Some_of (R V t)

-- what opens at some room, and with one construct more around
pub record Level (b : Option (Reader Expr)) (O W : Opening) : Type 1 where
  pub opens_exact : (test : Terminal → Bool) (f : Reader Expr → Lexeme → Reader Expr) (R : Rel Expr → Lexeme → Rel Expr) (g : Goes Expr) → test t.End ≡ false → ((k : Terminal) → test k ≡ true → opens_construct k ≡ true) → Each f R g → SomeEach R
      → Exact (opening b f) (O test R) (W test R) (λ k. not (test k)) g
  pub opens_heads : (test : Terminal → Bool) (R : Rel Expr → Lexeme → Rel Expr) (ts left : List Lexeme) (a : Expr) → O test R ts a → test (peek (ts ++ left)) ≡ true
  pub some : (test : Terminal → Bool) (R : Rel Expr → Lexeme → Rel Expr) (t : Lexeme) → test (terminal t) ≡ true → SomeEach R → Some_of (W test R)
  -- where nothing may open there is no quotient
  pub quotients : (b ≡ None) ⊎ ((word : Lexeme) → Some_of (IsQuotient O word))

an_open_is : is t.Open (terminal an_open.0) ≡ true
unfolding is
an_open_is = ap (is t.Open) an_open.1

limit_level : (V : Rel Expr) → Some_of V → Level None at_limit (around V)
unfolding opening
limit_level V some = record {
  opens_exact = λ test f R g last marks each some_each. limit_exact test (R V) g last marks (some_each V some);
  opens_heads = λ test R ts left a r. elim r [ ];
  some = λ test R t is some_each. (let s = some_each V some t in (t ∷ s.0, s.1, token is s.2));
  quotients = inl refl;
}

inner_level : (u : Reader Expr) (U V : Rel Expr) → Inner u U V → Level (Some u) (around U) (around V)
unfolding opening
inner_level u U V inner = record {
  opens_exact = λ test f R g last marks each some_each. token_exact test (f u) (R U) (R V) g last (each u U V inner) (some_each V inner.some) (some_each U inner.here);
  opens_heads = λ test R ts left a r. token_heads ts left a r;
  some = λ test R t is some_each. (let s = some_each V inner.some t in (t ∷ s.0, s.1, token is s.2));
  quotients = inr (λ word. (let s = some_division word U inner.here an_open.0 in (an_open.0 ∷ s.0, s.1, one (token an_open_is s.2))));
}

some_subscript : SomeEach IsSubscript
some_subscript V some o = some_held (IsExprOf V) t.CloseBracket a_close_bracket (some_expr V some)

some_group : SomeEach IsGroup
some_group V some o = some_map (IsHeld (IsExprOf V) t.Close) (λ inner. tree.Group inner (place_of o)) (some_held (IsExprOf V) t.Close a_close (some_expr V some))

some_negative : SomeEach IsNegative
some_negative V some sign = some_map V (λ operand. tree.Negative operand (place_of sign)) some

a_close_is : is t.Close (terminal a_close.0) ≡ true
unfolding is
a_close_is = ap (is t.Close) a_close.1

some_call : (word : Word) → SomeEach (IsCall word)
some_call word V some o = some_map (IsCallEnd V) (tree.Call word) (a_close.0 ∷ [], [], one (token a_close_is nothing))

an_open_bracket_is : is t.OpenBracket (terminal an_open_bracket.0) ≡ true
unfolding is
an_open_bracket_is = ap (is t.OpenBracket) an_open_bracket.1

end_of_bracket : is t.OpenBracket t.End ≡ false
unfolding is
end_of_bracket = refl

opens_not_open : (k : Terminal) → opens k ≡ false → is t.Open k ≡ false
unfolding is
opens_not_open t.Open e = cc
opens_not_open _ e = refl

bracket_not_open : (k : Terminal) → is t.OpenBracket k ≡ true → is t.Open k ≡ false
unfolding is
bracket_not_open t.OpenBracket e = refl
bracket_not_open _ e = cc

open_not_bracket : (k : Terminal) → opens k ≡ false → (is t.OpenBracket k || false) ≡ false
unfolding is
open_not_bracket t.OpenBracket e = cc
open_not_bracket _ e = refl

pub is_apart : (this that k : Terminal) → is this k ≡ true → is that this ≡ false → is that k ≡ false
is_apart this that k e off = ap (is that) (is_true this k e) ∙ off

pub record Apart (k : Terminal) : Type 0 where
  pub number : is t.Number k ≡ false
  pub decimal : is t.Decimal k ≡ false
  pub paren : is t.Open k ≡ false
  pub minus : is t.Minus k ≡ false
  pub begin : begins k ≡ true

pub name_apart : (k : Terminal) → is_name k ≡ true → Apart k
unfolding is
name_apart t.Name e = record { number = refl; decimal = refl; paren = refl; minus = refl; begin = refl }
name_apart t.Context e = record { number = refl; decimal = refl; paren = refl; minus = refl; begin = refl }
name_apart t.Commutative e = record { number = refl; decimal = refl; paren = refl; minus = refl; begin = refl }
name_apart t.Output e = record { number = refl; decimal = refl; paren = refl; minus = refl; begin = refl }
name_apart _ e = cc

pub rounding_apart : (k : Terminal) → is_rounding k ≡ true → Apart k
unfolding is
rounding_apart t.Floord e = record { number = refl; decimal = refl; paren = refl; minus = refl; begin = refl }
rounding_apart t.Ceild e = record { number = refl; decimal = refl; paren = refl; minus = refl; begin = refl }
rounding_apart _ e = cc

rounding_waits : (k : Terminal) → is_rounding k ≡ true → awaits_parenthesis k ≡ true
rounding_waits t.Floord e = refl
rounding_waits t.Ceild e = refl
rounding_waits _ e = cc

name_no_rounding : (k : Terminal) → is_name k ≡ true → is_rounding k ≡ false
name_no_rounding t.Name e = refl
name_no_rounding t.Context e = refl
name_no_rounding t.Commutative e = refl
name_no_rounding t.Output e = refl
name_no_rounding _ e = cc

-- ---- the readers, put together from parts

map_then : {A B C : Type 0} (r : Got A) (f : A → B) (h : B → Reader C) → and_then (and_then r (λ a. pure (f a))) h ≡ and_then r (λ a. h (f a))
map_then (found a ts) f h = refl
map_then (stopped w ts) f h = refl

call_end_is : (u : Reader Expr) (ts : List Lexeme) → and_then (arguments u ts) (closing t.Close) ≡ call_end u ts
unfolding arguments expect
call_end_is u ts = by_test (is t.Close (peek ts)) refl
  where
    by_test : (v : Bool) → is t.Close (peek ts) ≡ v → and_then (cond v (found [] ts) (list (expr_of u) ts)) (closing t.Close) ≡ cond v (found [] (rest ts)) (and_then (list (expr_of u) ts) (closing t.Close))
    by_test false at = refl
    by_test true at = ap (λ v. and_then (cond v (found (front ts) (rest ts)) (stopped syntax ts)) (λ _. pure [])) at

abbrev subscript_opening : Option (Reader Expr) → Reader Expr
subscript_opening b = opening b (λ u _. expr_of u >>= closing t.CloseBracket)

subscript_is : (b : Option (Reader Expr)) (ts : List Lexeme) → within b expr_of t.CloseBracket ts ≡ subscript_opening b ts
unfolding within opening
subscript_is None ts = refl
subscript_is (Some u) ts = refl

abbrev call_opening : Option (Reader Expr) → Word → Reader Expr
call_opening b word = opening b (λ u _. call_end u >>= (λ args. ending opens (tree.Call word args)))

call_is : (b : Option (Reader Expr)) (word : Word) (ts : List Lexeme) → and_then (and_then (within b arguments t.Close ts) (λ args. pure (tree.Call word args))) (ending opens) ≡ call_opening b word ts
unfolding within opening
call_is None word ts = refl
call_is (Some u) word ts =
    map_then (and_then (arguments u (rest ts)) (closing t.Close)) (tree.Call word) (ending opens) ∙ ap (λ r. and_then r (λ args. ending opens (tree.Call word args))) (call_end_is u (rest ts))

abbrev group_opening : Option (Reader Expr) → Reader Expr
group_opening b = opening b (λ u o. (expr_of u >>= closing t.Close) >>= (λ a. ending opens (tree.Group a (place_of o))))

group_is : (b : Option (Reader Expr)) (ts : List Lexeme) → and_then (group b ts) (ending opens) ≡ group_opening b ts
unfolding within opening group
group_is None ts = refl
group_is (Some u) ts = map_then (and_then (expr_of u (rest ts)) (closing t.Close)) (λ a. tree.Group a (place_of (front ts))) (ending opens)

abbrev division_opening : Option (Reader Expr) → Lexeme → Reader Expr
division_opening b word = opening b (λ u _. division_reader word u)

abbrev quotient_reader : Option (Reader Expr) → Lexeme → Reader Expr
quotient_reader b word = choose (is t.Open) (division_opening b word) refuse

quotient_is : (b : Option (Reader Expr)) (ts : List Lexeme) → and_then (quotient b ts) (ending opens) ≡ pass (quotient_reader b) ts
unfolding quotient division within opening
quotient_is None ts = by_test (is t.Open (peek (rest ts)))
  where
    by_test : (v : Bool) → and_then (cond {A = Got Expr} v (stopped nesting (rest ts)) (stopped syntax (rest ts))) (ending opens) ≡ cond v (stopped nesting (rest ts)) (stopped syntax (rest ts))
    by_test true = refl
    by_test false = refl
quotient_is (Some u) ts = by_test (is t.Open (peek (rest ts)))
  where
    by_test : (v : Bool) → and_then (cond v (and_then (divided (front ts) u (rest (rest ts))) (λ a. expect t.Close >> pure a)) (stopped syntax (rest ts))) (ending opens)
        ≡ cond v (division_reader (front ts) u (rest (rest ts))) (stopped syntax (rest ts))
    by_test true = division_is (front ts) u (rest (rest ts))
    by_test false = refl

abbrev negative_opening : Option (Reader Expr) → Reader Expr
negative_opening b = opening b (λ u sign. u >>= (λ a. pure (tree.Negative a (place_of sign))))

negative_is : (b : Option (Reader Expr)) (ts : List Lexeme) → negated b ts ≡ negative_opening b ts
unfolding negated opening
negative_is None ts = refl
negative_is (Some u) ts = refl

abbrev access_reader : Option (Reader Expr) → Word → Reader Expr
access_reader b word = subscripts b >>= (λ subs. ending opens (tree.Access word subs))

abbrev named_reader : Option (Reader Expr) → Word → Reader Expr
named_reader b word = choose (is t.Open) (call_opening b word) (access_reader b word)

named_is : (b : Option (Reader Expr)) (word : Word) (ts : List Lexeme) → and_then (named b word ts) (ending opens) ≡ named_reader b word ts
unfolding named
named_is b word ts = by_test (is t.Open (peek ts))
  where
    by_test : (v : Bool) → and_then (cond v (and_then (within b arguments t.Close ts) (λ args. pure (tree.Call word args))) (and_then (subscripts b ts) (λ subs. pure (tree.Access word subs)))) (ending opens)
        ≡ cond v (call_opening b word ts) (access_reader b word ts)
    by_test true = call_is b word ts
    by_test false = map_then (subscripts b ts) (tree.Access word) (ending opens)

abbrev name_reader : Option (Reader Expr) → Reader Expr
name_reader b = choose is_name (pass (λ n. named_reader b (word_of n))) refuse

name_is : (b : Option (Reader Expr)) (ts : List Lexeme) → and_then (and_then (name ts) (named b)) (ending opens) ≡ name_reader b ts
unfolding name
name_is b ts = by_test (is_name (peek ts))
  where
    by_test : (v : Bool) → and_then (and_then (cond v (found (word_of (front ts)) (rest ts)) (stopped syntax ts)) (named b)) (ending opens)
        ≡ cond v (named_reader b (word_of (front ts)) (rest ts)) (stopped syntax ts)
    by_test true = named_is b (word_of (front ts)) (rest ts)
    by_test false = refl

abbrev number_reader : Reader Expr
number_reader = pass (λ token. ending opens (tree.Number (numeral_of token)))

abbrev decimal_reader : Reader Expr
decimal_reader = pass (λ token. ending opens (tree.Decimal (word_of token)))

abbrev group_or_name : Option (Reader Expr) → Reader Expr
group_or_name b = choose (is t.Open) (group_opening b) (name_reader b)

abbrev quotient_or_group : Option (Reader Expr) → Reader Expr
quotient_or_group b = choose is_rounding (pass (quotient_reader b)) (group_or_name b)

abbrev primary_reader : Option (Reader Expr) → Reader Expr
primary_reader b = choose (is t.Number) number_reader (choose (is t.Decimal) decimal_reader (quotient_or_group b))

primary_is : (b : Option (Reader Expr)) (ts : List Lexeme) → primary b ts ≡ primary_reader b ts
unfolding primary any_primary is
primary_is b ts = by_head (peek ts)
  where
    by_head : (k : Terminal) → and_then (primary_by b k ts) (ending opens)
        ≡ cond (is t.Number k) (number_reader ts) (cond (is t.Decimal k) (decimal_reader ts) (cond (is_rounding k) (pass (quotient_reader b) ts) (cond (is t.Open k) (group_opening b ts) (name_reader b ts))))
    by_head t.Number = refl
    by_head t.Decimal = refl
    by_head t.Floord = quotient_is b ts
    by_head t.Ceild = quotient_is b ts
    by_head t.Open = group_is b ts
    by_head _ = name_is b ts

unary_is : (b : Option (Reader Expr)) (ts : List Lexeme) → unary_in b ts ≡ choose (is t.Minus) (negative_opening b) (primary_reader b) ts
unfolding unary_in
unary_is b ts = by_test (is t.Minus (peek ts))
  where
    by_test : (v : Bool) → cond v (negated b ts) (primary b ts) ≡ cond v (negative_opening b ts) (primary_reader b ts)
    by_test true = negative_is b ts
    by_test false = primary_is b ts

a_number_is : is t.Number (terminal a_number.0) ≡ true
unfolding is
a_number_is = ap (is t.Number) a_number.1

module _ (b : Option (Reader Expr)) (O W : Opening) (level : Level b O W) where
  -- ---- subscripts

  subscript_reader : Exact (within b expr_of t.CloseBracket) (O (is t.OpenBracket) IsSubscript) (W (is t.OpenBracket) IsSubscript) (λ k. not (is t.OpenBracket k)) none
  subscript_reader = same_exact (within b expr_of t.CloseBracket) (subscript_is b)
      (level.opens_exact (is t.OpenBracket) (λ u _. expr_of u >>= closing t.CloseBracket) IsSubscript none end_of_bracket (marks_of t.OpenBracket refl) (λ u U V inner _. subscript_exact u U V inner) some_subscript)

  pub subscripts_exact : Exact (subscripts b) (IsSubscripts O) (IsSubscripts W) nowhere (λ subs k. is t.OpenBracket k || false)
  unfolding subscripts
  subscripts_exact = many_exact (is t.OpenBracket) add_item (within b expr_of t.CloseBracket) (O (is t.OpenBracket) IsSubscript) (W (is t.OpenBracket) IsSubscript) none none
      subscript_reader (level.some (is t.OpenBracket) IsSubscript an_open_bracket.0 an_open_bracket_is some_subscript) end_of_bracket
      (level.opens_heads (is t.OpenBracket) IsSubscript) (λ x b k. refl) (λ b k e. refl) []

  subs_apart : (subs : List Expr) (ts left : List Lexeme) → IsSubscripts O ts subs → opens (peek left) ≡ false → is t.Open (peek (ts ++ left)) ≡ false
  subs_apart _ _ left no_more end = opens_not_open _ end
  subs_apart _ _ left (one_more {ts = ts} {us = us} i more) end =
      ap (λ l. is t.Open (peek l)) (append_assoc ts us left) ∙ bracket_not_open _ (level.opens_heads (is t.OpenBracket) IsSubscript ts (us ++ left) _ i)

  access_apart : (n : Lexeme) (ts left : List Lexeme) (a : Expr) → IsMap (tree.Access (word_of n)) (IsSubscripts O) ts a → opens (peek left) ≡ false → is t.Open (peek (ts ++ left)) ≡ false
  access_apart n _ left a (both {ts} {us} r p) end =
      ap (λ l. is t.Open (peek l)) (append_assoc ts us left ∙ ap (λ l. ts ++ (l ++ left)) (pure_empty us p)) ∙ subs_apart _ ts left r end

  named_exact : (n : Lexeme) → Exact (named_reader b (word_of n)) (IsNamed O n) (IsNamed W n) nowhere on_unary
  unfolding is
  named_exact n = choose_exact (is t.Open) (call_opening b (word_of n)) (access_reader b (word_of n))
      (O (is t.Open) (IsCall (word_of n))) (W (is t.Open) (IsCall (word_of n))) (IsMap (tree.Access (word_of n)) (IsSubscripts O)) (IsMap (tree.Access (word_of n)) (IsSubscripts W)) on_unary
      (level.opens_exact (is t.Open) (λ u _. call_end u >>= (λ args. ending opens (tree.Call (word_of n) args))) (IsCall (word_of n)) on_unary refl (marks_of t.Open refl) (λ u U V inner o. call_exact u U V inner (word_of n) o) (some_call (word_of n)))
      (from_anywhere (ended_exact (subscripts b) (IsSubscripts O) (IsSubscripts W) (tree.Access (word_of n)) nowhere (λ subs k. is t.OpenBracket k || false) opens subscripts_exact (λ a k e. open_not_bracket k e)))
      (level.opens_heads (is t.Open) (IsCall (word_of n))) (access_apart n)

  some_named : (n : Lexeme) → Some_of (IsNamed W n)
  some_named n = ([] ++ [], tree.Access (word_of n) [], other (both no_more nothing))

  named_here : (n : Lexeme) → Some_of (IsNamed O n)
  named_here n = ([] ++ [], tree.Access (word_of n) [], other (both no_more nothing))

  abbrev NameRel : Opening → Rel Expr
  NameRel O = IsEither (IsToken is_name (IsNamed O)) IsNothing

  name_exact : Exact (name_reader b) (NameRel O) (NameRel W) nowhere on_unary
  name_exact = choose_exact is_name (pass (λ n. named_reader b (word_of n))) refuse (IsToken is_name (IsNamed O)) (IsToken is_name (IsNamed W)) IsNothing IsNothing on_unary
      (token_exact is_name (λ n. named_reader b (word_of n)) (IsNamed O) (IsNamed W) on_unary refl named_exact some_named named_here)
      (refuse_exact IsNothing is_name on_unary) token_heads (λ ts left a r end. elim r [ ])

  name_heads : (ts left : List Lexeme) (a : Expr) → NameRel O ts a → Apart (peek (ts ++ left))
  name_heads ts left a (one r) = name_apart _ (token_heads ts left a r)
  name_heads ts left a (other r) = elim r [ ]

  abbrev GroupRel : Opening → Rel Expr
  GroupRel O = IsEither (O (is t.Open) IsGroup) (NameRel O)

  group_or_name_exact : Exact (group_or_name b) (GroupRel O) (GroupRel W) nowhere on_unary
  unfolding is
  group_or_name_exact = choose_exact (is t.Open) (group_opening b) (name_reader b) (O (is t.Open) IsGroup) (W (is t.Open) IsGroup) (NameRel O) (NameRel W) on_unary
      (level.opens_exact (is t.Open) (λ u o. (expr_of u >>= closing t.Close) >>= (λ a. ending opens (tree.Group a (place_of o)))) IsGroup on_unary refl (marks_of t.Open refl) (λ u U V inner o. group_exact u U V inner o) some_group)
      (from_anywhere name_exact) (level.opens_heads (is t.Open) IsGroup) (λ ts left a r end. (name_heads ts left a r).paren)

  group_heads : (that : Terminal) → is that t.Open ≡ false → ((k : Terminal) → Apart k → is that k ≡ false) → (ts left : List Lexeme) (a : Expr) → GroupRel O ts a → is that (peek (ts ++ left)) ≡ false
  group_heads that off names ts left a (one r) = is_apart t.Open that _ (level.opens_heads (is t.Open) IsGroup ts left a r) off
  group_heads that off names ts left a (other r) = names _ (name_heads ts left a r)

  group_no_rounding : (ts left : List Lexeme) (a : Expr) → GroupRel O ts a → is_rounding (peek (ts ++ left)) ≡ false
  group_no_rounding ts left a (one r) = ap is_rounding (is_true t.Open _ (level.opens_heads (is t.Open) IsGroup ts left a r))
  group_no_rounding ts left a (other (one r)) = name_no_rounding _ (token_heads ts left a r)
  group_no_rounding ts left a (other (other r)) = elim r [ ]

  -- ---- quotients

  division_at : (word : Lexeme) → Exact (division_opening b word) (O (is t.Open) (IsDivision word)) (W (is t.Open) (IsDivision word)) (λ k. not (is t.Open k)) on_unary
  unfolding is
  division_at word = level.opens_exact (is t.Open) (λ u _. division_reader word u) (IsDivision word) on_unary refl (marks_of t.Open refl) (λ u U V inner o. division_exact u U V inner word o) (some_division word)

  behind_word : (word : Lexeme) → Exact (quotient_reader b word) (IsQuotient O word) (IsQuotient W word) nowhere on_unary
  behind_word word = choose_exact (is t.Open) (division_opening b word) refuse (O (is t.Open) (IsDivision word)) (W (is t.Open) (IsDivision word)) IsNothing IsNothing on_unary
      (division_at word) (refuse_exact IsNothing (is t.Open) on_unary) (level.opens_heads (is t.Open) (IsDivision word)) (λ ts left a r end. elim r [ ])

  some_quotient : (word : Lexeme) → Some_of (IsQuotient W word)
  some_quotient word = let s = level.some (is t.Open) (IsDivision word) an_open.0 an_open_is (some_division word) in (s.0, s.1, one s.2)

  -- where nothing may open, reading stops behind the word
  stops_behind : b ≡ None → (word : Lexeme) (ts bad : List Lexeme) (w : Why) → quotient_reader b word ts ≡ stopped w bad → ts ≡ bad
  unfolding opening
  stops_behind none word ts bad w e = by_test (is t.Open (peek ts)) (sym (ap (λ b. quotient_reader b word ts) none) ∙ e)
    where
      by_test : (v : Bool) → cond {A = Got Expr} v (stopped nesting ts) (stopped syntax ts) ≡ stopped w bad → ts ≡ bad
      by_test true e = cc
      by_test false e = cc

  word_alive : (word : Lexeme) (ts bad : List Lexeme) (w : Why) → is_rounding (terminal word) ≡ true → quotient_reader b word ts ≡ stopped w bad → Begun (IsToken is_rounding (IsQuotient O)) w (word ∷ ts) bad
  word_alive word ts bad w is e = by_level level.quotients
    where
      by_level : (b ≡ None) ⊎ ((word : Lexeme) → Some_of (IsQuotient O word)) → Begun (IsToken is_rounding (IsQuotient O)) w (word ∷ ts) bad
      by_level (inr here) = token_live is_rounding (quotient_reader b) (IsQuotient O) (IsQuotient W) on_unary refl behind_word some_quotient here word ts bad w is e
      by_level (inl none) = record {
        pre = word ∷ [];
        cut = ap (λ l. word ∷ l) (stops_behind none word ts bad w e);
        live = at_keyword [] word (rounding_waits (terminal word) is) (inl refl);
        marks = ((behind_word word).alive ts bad w refl e).marks;
      }

  quotient_exact : Exact (pass (quotient_reader b)) (IsToken is_rounding (IsQuotient O)) (IsToken is_rounding (IsQuotient W)) (λ k. not (is_rounding k)) on_unary
  quotient_exact = token_exact_by is_rounding (quotient_reader b) (IsQuotient O) (IsQuotient W) on_unary refl behind_word some_quotient word_alive

  abbrev QuotientRel : Opening → Rel Expr
  QuotientRel O = IsEither (IsToken is_rounding (IsQuotient O)) (GroupRel O)

  quotient_or_group_exact : Exact (quotient_or_group b) (QuotientRel O) (QuotientRel W) nowhere on_unary
  quotient_or_group_exact = choose_exact is_rounding (pass (quotient_reader b)) (group_or_name b) (IsToken is_rounding (IsQuotient O)) (IsToken is_rounding (IsQuotient W)) (GroupRel O) (GroupRel W) on_unary
      quotient_exact (from_anywhere group_or_name_exact) token_heads (λ ts left a r end. group_no_rounding ts left a r)

  quotient_heads : (that : Terminal) → is that t.Open ≡ false → ((k : Terminal) → Apart k → is that k ≡ false) → (ts left : List Lexeme) (a : Expr) → QuotientRel O ts a → is that (peek (ts ++ left)) ≡ false
  quotient_heads that off words ts left a (one r) = words _ (rounding_apart _ (token_heads ts left a r))
  quotient_heads that off words ts left a (other r) = group_heads that off words ts left a r

  abbrev DecimalRel : Opening → Rel Expr
  DecimalRel O = IsEither (IsToken (is t.Decimal) (λ token. IsPure (tree.Decimal (word_of token)))) (QuotientRel O)

  decimal_exact : Exact (choose (is t.Decimal) decimal_reader (quotient_or_group b)) (DecimalRel O) (DecimalRel W) nowhere on_unary
  unfolding is
  decimal_exact = choose_exact (is t.Decimal) decimal_reader (quotient_or_group b)
      (IsToken (is t.Decimal) (λ token. IsPure (tree.Decimal (word_of token)))) (IsToken (is t.Decimal) (λ token. IsPure (tree.Decimal (word_of token)))) (QuotientRel O) (QuotientRel W) on_unary
      (token_exact (is t.Decimal) (λ token. ending opens (tree.Decimal (word_of token))) (λ token. IsPure (tree.Decimal (word_of token))) (λ token. IsPure (tree.Decimal (word_of token))) on_unary refl
      (λ token. ending_exact (tree.Decimal (word_of token)) nowhere opens) (λ token. ([], tree.Decimal (word_of token), nothing)) (λ token. ([], tree.Decimal (word_of token), nothing)))
      (from_anywhere quotient_or_group_exact) token_heads (λ ts left a r end. quotient_heads t.Decimal refl (λ k apart. apart.decimal) ts left a r)

  decimal_heads : (that : Terminal) → is that t.Decimal ≡ false → is that t.Open ≡ false → ((k : Terminal) → Apart k → is that k ≡ false)
      → (ts left : List Lexeme) (a : Expr) → DecimalRel O ts a → is that (peek (ts ++ left)) ≡ false
  decimal_heads that off paren names ts left a (one r) = is_apart t.Decimal that _ (token_heads ts left a r) off
  decimal_heads that off paren names ts left a (other r) = quotient_heads that paren names ts left a r

  primary_exact : Exact (primary_reader b) (IsPrimaryIn O) (IsPrimaryIn W) nowhere on_unary
  unfolding is
  primary_exact = choose_exact (is t.Number) number_reader (choose (is t.Decimal) decimal_reader (quotient_or_group b))
      (IsToken (is t.Number) (λ token. IsPure (tree.Number (numeral_of token)))) (IsToken (is t.Number) (λ token. IsPure (tree.Number (numeral_of token)))) (DecimalRel O) (DecimalRel W) on_unary
      (token_exact (is t.Number) (λ token. ending opens (tree.Number (numeral_of token))) (λ token. IsPure (tree.Number (numeral_of token))) (λ token. IsPure (tree.Number (numeral_of token))) on_unary refl
      (λ token. ending_exact (tree.Number (numeral_of token)) nowhere opens) (λ token. ([], tree.Number (numeral_of token), nothing)) (λ token. ([], tree.Number (numeral_of token), nothing)))
      (from_anywhere decimal_exact) token_heads (λ ts left a r end. decimal_heads t.Number refl refl (λ k apart. apart.number) ts left a r)

  primary_not_minus : (ts left : List Lexeme) (a : Expr) → IsPrimaryIn O ts a → is t.Minus (peek (ts ++ left)) ≡ false
  unfolding is
  primary_not_minus ts left a (one r) = is_apart t.Number t.Minus _ (token_heads ts left a r) refl
  primary_not_minus ts left a (other r) = decimal_heads t.Minus refl refl (λ k apart. apart.minus) ts left a r

  pub unary_exact : Exact (unary_in b) (IsUnaryIn O) (IsUnaryIn W) nowhere on_unary
  unfolding is
  unary_exact = same_exact (unary_in b) (unary_is b)
      (choose_exact (is t.Minus) (negative_opening b) (primary_reader b) (O (is t.Minus) IsNegative) (W (is t.Minus) IsNegative) (IsPrimaryIn O) (IsPrimaryIn W) on_unary
      (level.opens_exact (is t.Minus) (λ u sign. u >>= (λ a. pure (tree.Negative a (place_of sign)))) IsNegative on_unary refl (marks_of t.Minus refl) (λ u U V inner sign. negative_exact u U V inner sign) some_negative)
      (from_anywhere primary_exact) (level.opens_heads (is t.Minus) IsNegative) (λ ts left a r end. primary_not_minus ts left a r))

  begins_at : (this : Terminal) (ts left : List Lexeme) → is this (peek (ts ++ left)) ≡ true → begins this ≡ true → begins (peek (ts ++ left)) ≡ true
  begins_at this ts left at begin = ap begins (is_true this _ at) ∙ begin

  pub unary_heads : Heads (IsUnaryIn O)
  unary_heads ts left a (one r) = begins_at t.Minus ts left (level.opens_heads (is t.Minus) IsNegative ts left a r) refl
  unary_heads ts left a (other (one r)) = begins_at t.Number ts left (token_heads ts left a r) refl
  unary_heads ts left a (other (other (one r))) = begins_at t.Decimal ts left (token_heads ts left a r) refl
  unary_heads ts left a (other (other (other (one r)))) = (rounding_apart _ (token_heads ts left a r)).begin
  unary_heads ts left a (other (other (other (other (one r))))) = begins_at t.Open ts left (level.opens_heads (is t.Open) IsGroup ts left a r) refl
  unary_heads ts left a (other (other (other (other (other r))))) = (name_heads ts left a r).begin

-- ---- at each room

pub some_unary : (room : ℕ) → Some_of (IsUnaryAt room)
unfolding IsUnaryAt
some_unary zero = (a_number.0 ∷ [], tree.Number (numeral_of a_number.0), other (one (token a_number_is nothing)))
some_unary (suc room) = (a_number.0 ∷ [], tree.Number (numeral_of a_number.0), other (one (token a_number_is nothing)))

pub unaries : (room : ℕ) → Inner (unary room) (IsUnaryAt room) (IsUnaryAt (suc room))
unfolding IsUnaryAt unary below
unaries zero = let level = limit_level (IsUnaryAt zero) (some_unary zero) in record {
  exact = unary_exact None at_limit (around (IsUnaryAt zero)) level;
  some = some_unary (suc zero);
  here = some_unary zero;
  heads = unary_heads None at_limit (around (IsUnaryAt zero)) level;
}
unaries (suc room) = let level = inner_level (unary room) (IsUnaryAt room) (IsUnaryAt (suc room)) (unaries room) in record {
  exact = unary_exact (Some (unary room)) (around (IsUnaryAt room)) (around (IsUnaryAt (suc room))) level;
  some = some_unary (suc (suc room));
  here = some_unary (suc room);
  heads = unary_heads (Some (unary room)) (around (IsUnaryAt room)) (around (IsUnaryAt (suc room))) level;
}

pub levels : (room : ℕ) → Level (below room) (openings_at room) (openings_at (suc room))
unfolding below unary openings_at
levels zero = limit_level (IsUnaryAt zero) (some_unary zero)
levels (suc room) = inner_level (unary room) (IsUnaryAt room) (IsUnaryAt (suc room)) (unaries room)

-- expressions, read at a room, are those of the grammar at that room
pub expressions_exact : (room : ℕ) → Exact (expr room) (IsExprAt room) (IsExprAt (suc room)) nowhere (λ _. on_expr)
expressions_exact room = expr_exact (unary room) (IsUnaryAt room) (IsUnaryAt (suc room)) (unaries room)
