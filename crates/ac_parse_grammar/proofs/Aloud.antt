-- The grammar of expressions as it is read aloud has what its parts have.
use Rattle.std.specs.Prelude.{true, Option, Some}
use Rattle.std.proofs.Common.{◌≡◌, ℕ, zero, suc, List, [], ◌∷◌, ◌++◌, refl, sym, ap, subst, append_assoc}
use Rattle.std.proofs.lemmas.List.{append-nil}
use Rattle.ac_lex.specs.Lexemes.{Lexeme}
use Rattle.ac_parse_grammar.specs.declared.terminal.Terminal.{Terminal}
use Rattle.ac_parse_grammar.specs.declared.terminal.Terminal.TheVariants as t
use Rattle.ac_parse_grammar.specs.declared.tree.Operator.{Operator}
use Rattle.ac_parse_grammar.specs.declared.tree.Expr.{Expr}
use Rattle.ac_parse_grammar.specs.declared.tree.Expr.TheVariants as tree
use Rattle.ac_parse_grammar.specs.declared.links.Links.{Links}
use Rattle.ac_parse_grammar.specs.Terminals.{terminal, is_name, is_rounding}
use Rattle.ac_parse_grammar.specs.TokenWords.{place_of, word_of}
use Rattle.ac_parse_grammar.specs.Chains.{start, link, chain}
use Rattle.ac_parse_grammar.specs.ReaderCombinators.{is}
use Rattle.ac_parse_grammar.specs.Expressions.{comma_of, add_item}
use Rattle.ac_parse_grammar.specs.Grammar as g
use Rattle.ac_parse_grammar.specs.Grammar.{IsExpr, Terms, IsTerm, Factors, IsUnary, IsPrimary, Subscripts, Arguments, ArgumentList}
use Rattle.ac_parse_grammar.specs.Found.{Rel}
use Rattle.ac_parse_grammar.proofs.Exact.{IsThen, both}
use Rattle.ac_parse_grammar.proofs.Many.{IsMany, no_more, one_more}
use Rattle.ac_parse_grammar.proofs.Parts.{is_true, true_is, nothing, pure_empty, pure_is, token, one, other, closed, IsHeld, IsMap}
use Rattle.ac_parse_grammar.proofs.StatementPieces.{marked}
use Rattle.ac_parse_grammar.proofs.Repeats.{linked, IsRepeat}
use Rattle.ac_parse_grammar.proofs.Relations.{Opening, at_limit, around, IsProduct, IsTermOf, IsSum, IsExprOf, IsList, IsCallEnd, IsCall, IsSubscript, IsGroup, IsDivisor, IsDivision, IsQuotient, IsNegative, IsSubscripts, IsNamed, IsPrimaryIn, IsUnaryIn, IsUnaryAt, IsExprAt, openings_at}
use Rattle.ac_parse_grammar.specs.Operators.{sign_of, star_of}

-- ---- repetitions, at their first and at their last item

pub many_snoc : {X B : Type 0} {join : X → B → X} {Item : Rel B} {x y : X} {b : B} (ts us : List Lexeme) → IsMany join Item x ts y → Item us b → IsMany join Item x (ts ++ us) (join y b)
many_snoc {join = join} {Item = Item} {x = x} {b = b} _ us no_more i = subst (λ l. IsMany join Item x l (join x b)) (append-nil us) (one_more i no_more)
many_snoc {join = join} {Item = Item} {x = x} {y = y} {b = b} _ us (one_more {ts = vs} {us = ws} j more) i =
    subst (λ l. IsMany join Item x l (join y b)) (sym (append_assoc vs ws us)) (one_more j (many_snoc ws us more i))

-- what is read from its last item, given from the first
pub repeat_all : {X B O : Type 0} {what : Terminal → Option O} {join : X → O → B → X} {Item : Rel B} (T : Rel X)
    → ((ts us : List Lexeme) (t : Lexeme) (x : X) (o : O) (b : B) → T ts x → what (terminal t) ≡ Some o → Item us b → T (ts ++ t ∷ us) (join x o b))
    → {x y : X} (ts us : List Lexeme) → T ts x → IsRepeat what join Item x us y → T (ts ++ us) y
repeat_all T step {x = x} ts _ r no_more = subst (λ l. T l x) (sym (append-nil ts)) r
repeat_all T step {x = x} {y = y} ts _ r (one_more {us = vs} (linked {t = t} {ts = us} is i) more) =
    subst (λ l. T l y) (append_assoc ts (t ∷ us) vs) (repeat_all T step (ts ++ t ∷ us) vs (step ts us t x _ _ r is i) more)

-- a value made of what was read, in one list
pub map_of : {A B : Type 0} (R : Rel A) (f : A → B) (ts : List Lexeme) (a : A) → R ts a → IsMap f R ts (f a)
map_of R f ts a r = subst (λ l. IsMap f R l (f a)) (append-nil ts) (both r nothing)

pub of_map : {A B : Type 0} {R : Rel A} {f : A → B} (T : Rel B) → ((ts : List Lexeme) (a : A) → R ts a → T ts (f a)) → (ts : List Lexeme) (b : B) → IsMap f R ts b → T ts b
of_map {f = f} T to _ b (both {ts} {us} {a} r p) =
    subst (λ b. T (ts ++ us) b) (pure_is us p) (subst (λ l. T (ts ++ l) (f a)) (sym (pure_empty us p)) (subst (λ l. T l (f a)) (sym (append-nil ts)) (to ts a r)))

-- ---- chains, at one room

module _ (room : ℕ) (U : Rel Expr) (up : (ts : List Lexeme) (a : Expr) → U ts a → IsUnary room ts a) where
  product_to : (front : List Lexeme) (first : Expr) → Factors room front (start first) → (ts : List Lexeme) (a : Expr) → IsProduct U first ts a → IsTerm room (front ++ ts) a
  product_to front first r = of_map (λ ts a. IsTerm room (front ++ ts) a)
      (λ ts links m. g.product (repeat_all (Factors room) (λ ts us t x o b r is i. g.next_factor t r is (up us b i)) front ts r m))

  term_to : (ts : List Lexeme) (a : Expr) → IsTermOf U ts a → IsTerm room ts a
  term_to _ a (both {ts} {us} {a = first} i r) = product_to ts first (g.one_factor (up ts first i)) us a r

  sum_to : (front : List Lexeme) (first : Expr) → Terms room front (start first) → (ts : List Lexeme) (a : Expr) → IsSum U first ts a → IsExpr room (front ++ ts) a
  sum_to front first r = of_map (λ ts a. IsExpr room (front ++ ts) a)
      (λ ts links m. g.sum (repeat_all (Terms room) (λ ts us t x o b r is i. g.next_term t r is (term_to us b i)) front ts r m))

  pub expr_to : (ts : List Lexeme) (a : Expr) → IsExprOf U ts a → IsExpr room ts a
  expr_to _ a (both {ts} {us} {a = first} i r) = sum_to ts first (g.one_term (term_to ts first i)) us a r

  is_comma : (k : Terminal) (o : Unit {0}) → comma_of k ≡ Some o → k ≡ t.Comma
  is_comma t.Comma o e = refl
  is_comma _ o e = cc

  pub list_to : (ts : List Lexeme) (args : List Expr) → IsList (IsExprOf U) ts args → ArgumentList room ts args
  list_to _ args (both {ts} {us} {a = first} i r) =
      repeat_all (ArgumentList room) (λ ts us t x o b r is i. g.next_argument t r (is_comma _ o is) (expr_to us b i)) ts us (g.one_argument (expr_to ts first i)) r

module _ (room : ℕ) (U : Rel Expr) (down : (ts : List Lexeme) (a : Expr) → IsUnary room ts a → U ts a) where
  abbrev Chained : {O : Type 0} → (Terminal → Option O) → (Links → O → Expr → Links) → Rel Expr → Rel Links
  Chained what join Item = IsThen Item (λ first. IsRepeat what join Item (start first))

  factors_from : (ts : List Lexeme) (links : Links) → Factors room ts links → Chained star_of link U ts links
  factors_from _ _ (g.one_factor {ts = ts} {a = a} i) = subst (λ l. Chained star_of link U l (start a)) (append-nil ts) (both (down ts a i) no_more)
  factors_from _ _ (g.next_factor {ts = ts} {us = us} {links = links} {o = o} {a = a} t r at i) = more ts (factors_from ts links r)
    where
      more : (ts : List Lexeme) → Chained star_of link U ts links → Chained star_of link U (ts ++ t ∷ us) (link links o a)
      more _ (both {ts = vs} {us = ws} j m) = subst (λ l. Chained star_of link U l (link links o a)) (sym (append_assoc vs ws (t ∷ us))) (both j (many_snoc ws (t ∷ us) m (linked at (down us a i))))

  chained : {what : Terminal → Option Operator} {Item : Rel Expr} (ts : List Lexeme) (links : Links) → Chained what link Item ts links → IsThen Item (λ first. IsMap chain (IsRepeat what link Item (start first))) ts (chain links)
  chained {what} {Item} _ links (both {us = us} {a = first} i m) = both i (map_of (IsRepeat what link Item (start first)) chain us links m)

  term_from : (ts : List Lexeme) (a : Expr) → IsTerm room ts a → IsTermOf U ts a
  term_from ts _ (g.product {links = links} r) = chained ts links (factors_from ts links r)

  terms_from : (ts : List Lexeme) (links : Links) → Terms room ts links → Chained sign_of link (IsTermOf U) ts links
  terms_from _ _ (g.one_term {ts = ts} {a = a} i) = subst (λ l. Chained sign_of link (IsTermOf U) l (start a)) (append-nil ts) (both (term_from ts a i) no_more)
  terms_from _ _ (g.next_term {ts = ts} {us = us} {links = links} {o = o} {a = a} t r at i) = more ts (terms_from ts links r)
    where
      more : (ts : List Lexeme) → Chained sign_of link (IsTermOf U) ts links → Chained sign_of link (IsTermOf U) (ts ++ t ∷ us) (link links o a)
      more _ (both {ts = vs} {us = ws} j m) = subst (λ l. Chained sign_of link (IsTermOf U) l (link links o a)) (sym (append_assoc vs ws (t ∷ us))) (both j (many_snoc ws (t ∷ us) m (linked at (term_from us a i))))

  pub expr_from : (ts : List Lexeme) (a : Expr) → IsExpr room ts a → IsExprOf U ts a
  expr_from ts _ (g.sum {links = links} r) = chained ts links (terms_from ts links r)

  pub list_from : (ts : List Lexeme) (args : List Expr) → ArgumentList room ts args → IsList (IsExprOf U) ts args
  list_from _ _ (g.one_argument {ts = ts} {a = a} i) = subst (λ l. IsList (IsExprOf U) l (a ∷ [])) (append-nil ts) (both (expr_from ts a i) no_more)
  list_from _ _ (g.next_argument {ts = ts} {us = us} {args = args} {a = a} t r at i) = more ts (list_from ts args r)
    where
      more : (ts : List Lexeme) → IsList (IsExprOf U) ts args → IsList (IsExprOf U) (ts ++ t ∷ us) (args ++ a ∷ [])
      more _ (both {ts = vs} {us = ws} j m) = subst (λ l. IsList (IsExprOf U) l (args ++ a ∷ [])) (sym (append_assoc vs ws (t ∷ us))) (both j (many_snoc ws (t ∷ us) m (linked (ap comma_of at) (expr_from us a i))))

-- ---- unaries, from the parts

record Openings (room : ℕ) (O : Opening) : Type 1 where
  call_to : (n : Lexeme) → is_name (terminal n) ≡ true → (ts : List Lexeme) (a : Expr) → O (is t.Open) (IsCall (word_of n)) ts a → IsPrimary room (n ∷ ts) a
  subscript_to : (ss : List Lexeme) (subs : List Expr) → Subscripts room ss subs → (ts : List Lexeme) (a : Expr) → O (is t.OpenBracket) IsSubscript ts a
      → Subscripts room (ss ++ ts) (subs ++ a ∷ [])
  quotient_to : (word : Lexeme) → is_rounding (terminal word) ≡ true → (ts : List Lexeme) (a : Expr) → O (is t.Open) (IsDivision word) ts a → IsPrimary room (word ∷ ts) a
  group_to : (ts : List Lexeme) (a : Expr) → O (is t.Open) IsGroup ts a → IsPrimary room ts a
  negative_to : (ts : List Lexeme) (a : Expr) → O (is t.Minus) IsNegative ts a → IsUnary room ts a

limit_openings : Openings zero at_limit
limit_openings = record {
  call_to = λ n is ts a r. elim r [ ];
  subscript_to = λ ss subs m ts a r. elim r [ ];
  quotient_to = λ word is ts a r. elim r [ ];
  group_to = λ ts a r. elim r [ ];
  negative_to = λ ts a r. elim r [ ];
}

module _ (room : ℕ) (U : Rel Expr) (up : (ts : List Lexeme) (a : Expr) → U ts a → IsUnary room ts a) where
  call_end_to : (n left : Lexeme) → is_name (terminal n) ≡ true → is t.Open (terminal left) ≡ true → (ts : List Lexeme) (args : List Expr) → IsCallEnd U ts args
      → IsPrimary (suc room) (n ∷ left ∷ ts) (tree.Call (word_of n) args)
  call_end_to n left named at _ _ (one (token {t = right} close nothing)) = g.call {n = n} {left = left} right named (is_true _ _ at) g.no_argument (is_true _ _ close)
  call_end_to n left named at _ _ (other (both {ts = ts} {a = args} r (closed {t = right} close))) =
      g.call {n = n} {left = left} right named (is_true _ _ at) (g.some_arguments (list_to room U up ts args r)) close

  inner_call : (n : Lexeme) → is_name (terminal n) ≡ true → (ts : List Lexeme) (a : Expr) → around U (is t.Open) (IsCall (word_of n)) ts a → IsPrimary (suc room) (n ∷ ts) a
  inner_call n named _ a (token {t = left} {ts = ts} at r) = of_map (λ ts a. IsPrimary (suc room) (n ∷ left ∷ ts) a) (λ ts args e. call_end_to n left named at ts args e) ts a r

  inner_subscript : (ss : List Lexeme) (subs : List Expr) → Subscripts (suc room) ss subs → (ts : List Lexeme) (a : Expr) → around U (is t.OpenBracket) IsSubscript ts a
      → Subscripts (suc room) (ss ++ ts) (subs ++ a ∷ [])
  inner_subscript ss subs m _ a (token {t = left} at (both {ts = ts} r (closed {t = right} close))) = g.next_subscript left right m (is_true _ _ at) (expr_to room U up ts a r) close

  divisor_to : (word left : Lexeme) → is_rounding (terminal word) ≡ true → terminal left ≡ t.Open → (us : List Lexeme) (argument : Expr) → IsExpr room us argument → (ts : List Lexeme) (a : Expr) → IsDivisor word argument ts a
      → IsPrimary (suc room) (word ∷ left ∷ us ++ ts) a
  divisor_to word left rounds at us argument r _ _ (marked {t = comma} c (marked {t = divisor} n (marked {t = right} close nothing))) = g.quotient {word = word} {left = left} comma divisor right rounds at r c n close

  inner_quotient : (word : Lexeme) → is_rounding (terminal word) ≡ true → (ts : List Lexeme) (a : Expr) → around U (is t.Open) (IsDivision word) ts a → IsPrimary (suc room) (word ∷ ts) a
  inner_quotient word rounds _ a (token {t = left} at (both {ts = us} {us = ts} {a = argument} r d)) = divisor_to word left rounds (is_true _ _ at) us argument (expr_to room U up us argument r) ts a d

  held_group : (left : Lexeme) → is t.Open (terminal left) ≡ true → (ts : List Lexeme) (a : Expr) → IsHeld (IsExprOf U) t.Close ts a → IsPrimary (suc room) (left ∷ ts) (tree.Group a (place_of left))
  held_group left at _ a (both {ts = ts} r (closed {t = right} close)) = g.group {left = left} right (is_true _ _ at) (expr_to room U up ts a r) close

  inner_group : (ts : List Lexeme) (a : Expr) → around U (is t.Open) IsGroup ts a → IsPrimary (suc room) ts a
  inner_group _ a (token {t = left} {ts = ts} at r) = of_map (λ ts a. IsPrimary (suc room) (left ∷ ts) a) (λ ts inner h. held_group left at ts inner h) ts a r

  inner_negative : (ts : List Lexeme) (a : Expr) → around U (is t.Minus) IsNegative ts a → IsUnary (suc room) ts a
  inner_negative _ a (token {t = sign} {ts = ts} at r) = of_map (λ ts a. IsUnary (suc room) (sign ∷ ts) a) (λ ts operand u. g.negative {sign = sign} (is_true _ _ at) (up ts operand u)) ts a r

  inner_openings : Openings (suc room) (around U)
  inner_openings = record { call_to = inner_call; subscript_to = inner_subscript; quotient_to = inner_quotient; group_to = inner_group; negative_to = inner_negative }

module _ (room : ℕ) (O : Opening) (openings : Openings room O) where
  subscripts_to : (ss : List Lexeme) (subs : List Expr) → Subscripts room ss subs → (ts : List Lexeme) (all : List Expr) → IsMany add_item (O (is t.OpenBracket) IsSubscript) subs ts all
      → Subscripts room (ss ++ ts) all
  subscripts_to ss subs m _ all no_more = subst (λ l. Subscripts room l subs) (sym (append-nil ss)) m
  subscripts_to ss subs m _ all (one_more {b = b} {ts = ts} {us = us} i more) =
      subst (λ l. Subscripts room l all) (append_assoc ss ts us) (subscripts_to (ss ++ ts) (subs ++ b ∷ []) (openings.subscript_to ss subs m ts b i) us all more)

  named_to : (n : Lexeme) → is_name (terminal n) ≡ true → (ts : List Lexeme) (a : Expr) → IsNamed O n ts a → IsPrimary room (n ∷ ts) a
  named_to n named ts a (one r) = openings.call_to n named ts a r
  named_to n named ts a (other r) = of_map (λ ts a. IsPrimary room (n ∷ ts) a) (λ ts subs m. g.access {n = n} named (subscripts_to [] [] g.no_subscript ts subs m)) ts a r

  quotient_behind : (word : Lexeme) → is_rounding (terminal word) ≡ true → (ts : List Lexeme) (a : Expr) → IsQuotient O word ts a → IsPrimary room (word ∷ ts) a
  quotient_behind word rounds ts a (one r) = openings.quotient_to word rounds ts a r
  quotient_behind word rounds ts a (other r) = elim r [ ]

  primary_to : (ts : List Lexeme) (a : Expr) → IsPrimaryIn O ts a → IsPrimary room ts a
  primary_to _ _ (one (token {t = n} at nothing)) = g.number {n = n} (is_true _ _ at)
  primary_to _ _ (other (one (token {t = n} at nothing))) = g.decimal {n = n} (is_true _ _ at)
  primary_to _ a (other (other (one (token {t = word} {ts = ts} at r)))) = quotient_behind word at ts a r
  primary_to ts a (other (other (other (one r)))) = openings.group_to ts a r
  primary_to _ a (other (other (other (other (one (token {t = n} {ts = ts} at r)))))) = named_to n at ts a r
  primary_to ts a (other (other (other (other (other r))))) = elim r [ ]

  unary_to_in : (ts : List Lexeme) (a : Expr) → IsUnaryIn O ts a → IsUnary room ts a
  unary_to_in ts a (one r) = openings.negative_to ts a r
  unary_to_in ts a (other r) = g.primary (primary_to ts a r)

pub unary_to : (room : ℕ) (ts : List Lexeme) (a : Expr) → IsUnaryAt room ts a → IsUnary room ts a
unfolding IsUnaryAt
unary_to zero = unary_to_in zero at_limit limit_openings
unary_to (suc room) = unary_to_in (suc room) (around (IsUnaryAt room)) (inner_openings room (IsUnaryAt room) (unary_to room))

pub expr_aloud : (room : ℕ) (ts : List Lexeme) (a : Expr) → IsExprAt room ts a → IsExpr room ts a
expr_aloud room = expr_to room (IsUnaryAt room) (unary_to room)

-- ---- and back

module _ (room : ℕ) (U : Rel Expr) (down : (ts : List Lexeme) (a : Expr) → IsUnary room ts a → U ts a) where
  held_from : (ts : List Lexeme) (a : Expr) (right : Lexeme) (last : Terminal) → IsExpr room ts a → terminal right ≡ last → IsHeld (IsExprOf U) last (ts ++ right ∷ []) a
  held_from ts a right last r close = both (expr_from room U down ts a r) (closed close)

  subscripts_from : (ts : List Lexeme) (subs : List Expr) → Subscripts (suc room) ts subs → IsSubscripts (around U) ts subs
  subscripts_from _ _ g.no_subscript = no_more
  subscripts_from _ _ (g.next_subscript {ss = ss} {ts = ts} {subs = subs} {a = a} left right m at r close) =
      many_snoc ss (left ∷ ts ++ right ∷ []) (subscripts_from ss subs m) (token (true_is _ _ at) (held_from ts a right t.CloseBracket r close))

  arguments_from : (right : Lexeme) → terminal right ≡ t.Close → (ts : List Lexeme) (args : List Expr) → Arguments room ts args → IsCallEnd U (ts ++ right ∷ []) args
  arguments_from right close _ _ g.no_argument = one (token (true_is _ _ close) nothing)
  arguments_from right close _ _ (g.some_arguments {ts = ts} {args = args} r) = other (both (list_from room U down ts args r) (closed close))

  primary_from : (ts : List Lexeme) (a : Expr) → IsPrimary (suc room) ts a → IsPrimaryIn (around U) ts a
  primary_from _ _ (g.number at) = one (token (true_is _ _ at) nothing)
  primary_from _ _ (g.decimal at) = other (one (token (true_is _ _ at) nothing))
  primary_from _ _ (g.access {n = n} {ts = ts} {subs = subs} named m) =
      other (other (other (other (one (token named (other (map_of (IsSubscripts (around U)) (tree.Access (word_of n)) ts subs (subscripts_from ts subs m))))))))
  primary_from _ _ (g.call {n = n} {left = left} {ts = ts} {args = args} right named at r close) =
      other (other (other (other (one (token named (one (token (true_is _ _ at) (map_of (IsCallEnd U) (tree.Call (word_of n)) (ts ++ right ∷ []) args (arguments_from right close ts args r)))))))))
  primary_from _ _ (g.group {left = left} {ts = ts} {a = a} right at r close) =
      other (other (other (one (token (true_is _ _ at) (map_of (IsHeld (IsExprOf U) t.Close) (λ inner. tree.Group inner (place_of left)) (ts ++ right ∷ []) a (held_from ts a right t.Close r close))))))
  primary_from _ _ (g.quotient {ts = ts} {a = a} comma divisor right rounds at r c n close) =
      other (other (one (token rounds (one (token (true_is _ _ at) (both (expr_from room U down ts a r) (marked c (marked n (marked close nothing)))))))))

  unary_from_in : (ts : List Lexeme) (a : Expr) → IsUnary (suc room) ts a → IsUnaryIn (around U) ts a
  unary_from_in _ _ (g.negative {sign = sign} {ts = ts} {a = a} at r) = one (token (true_is _ _ at) (map_of U (λ operand. tree.Negative operand (place_of sign)) ts a (down ts a r)))
  unary_from_in ts a (g.primary r) = other (primary_from ts a r)

subscripts_at_limit : (ts : List Lexeme) (subs : List Expr) → Subscripts zero ts subs → IsSubscripts at_limit ts subs
subscripts_at_limit _ _ g.no_subscript = no_more

primary_at_limit : (ts : List Lexeme) (a : Expr) → IsPrimary zero ts a → IsPrimaryIn at_limit ts a
primary_at_limit _ _ (g.number at) = one (token (true_is _ _ at) nothing)
primary_at_limit _ _ (g.decimal at) = other (one (token (true_is _ _ at) nothing))
primary_at_limit _ _ (g.access {n = n} {ts = ts} {subs = subs} named m) =
    other (other (other (other (one (token named (other (map_of (IsSubscripts at_limit) (tree.Access (word_of n)) ts subs (subscripts_at_limit ts subs m))))))))

unary_at_limit : (ts : List Lexeme) (a : Expr) → IsUnary zero ts a → IsUnaryIn at_limit ts a
unary_at_limit ts a (g.primary r) = other (primary_at_limit ts a r)

pub unary_from : (room : ℕ) (ts : List Lexeme) (a : Expr) → IsUnary room ts a → IsUnaryAt room ts a
unfolding IsUnaryAt
unary_from zero = unary_at_limit
unary_from (suc room) = unary_from_in room (IsUnaryAt room) (unary_from room)

pub aloud_expr : (room : ℕ) (ts : List Lexeme) (a : Expr) → IsExpr room ts a → IsExprAt room ts a
aloud_expr room = expr_from room (IsUnaryAt room) (unary_from room)

pub subscripts_aloud : (room : ℕ) (ts : List Lexeme) (subs : List Expr) → IsSubscripts (openings_at room) ts subs → Subscripts room ts subs
unfolding openings_at
subscripts_aloud zero = subscripts_to zero at_limit limit_openings [] [] g.no_subscript
subscripts_aloud (suc room) = subscripts_to (suc room) (around (IsUnaryAt room)) (inner_openings room (IsUnaryAt room) (unary_to room)) [] [] g.no_subscript

pub aloud_subscripts : (room : ℕ) (ts : List Lexeme) (subs : List Expr) → Subscripts room ts subs → IsSubscripts (openings_at room) ts subs
unfolding openings_at
aloud_subscripts zero = subscripts_at_limit
aloud_subscripts (suc room) = subscripts_from room (IsUnaryAt room) (unary_from room)
