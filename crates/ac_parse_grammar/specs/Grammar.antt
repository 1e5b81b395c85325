-- The grammar of expressions and conditions, by cases on lists of tokens: one data type for each nonterminal and one for
-- each { }, with the tree that the tokens give. `room` is how many constructs may still open inside, of those that nest.
use Rattle.std.specs.Prelude.{◌≡◌, ℕ, suc, true, List, [], ◌∷◌, ◌++◌, Some}
use Rattle.ac_lex.specs.Lexemes.{Lexeme}
use Rattle.ac_parse_grammar.specs.declared.terminal.Terminal.TheVariants as t
use Rattle.ac_parse_grammar.specs.declared.tree.Operator.{Operator}
use Rattle.ac_parse_grammar.specs.declared.tree.Relation.{Relation}
use Rattle.ac_parse_grammar.specs.declared.tree.Expr.{Expr}
use Rattle.ac_parse_grammar.specs.declared.tree.Expr.TheVariants.{Number, Decimal, Access, Call, Negative, Group}
use Rattle.ac_parse_grammar.specs.declared.tree.Part.{Part}
use Rattle.ac_parse_grammar.specs.declared.links.Links.{Links}
use Rattle.ac_parse_grammar.specs.Terminals.{terminal, is_name, is_rounding}
use Rattle.ac_parse_grammar.specs.TokenWords.{place_of, word_of, numeral_of}
use Rattle.ac_parse_grammar.specs.Chains.{start, link, chain, quotient_of, part_of}
use Rattle.ac_parse_grammar.specs.Operators.{sign_of, star_of, relation_of}

mutual
  -- expr = term { ("+" | "-") term }
  pub data IsExpr : ℕ → List Lexeme → Expr → Type 0 where
    sum : {room : ℕ} {ts : List Lexeme} {links : Links} → Terms room ts links → IsExpr room ts (chain links)

  pub data Terms : ℕ → List Lexeme → Links → Type 0 where
    one_term : {room : ℕ} {ts : List Lexeme} {a : Expr} → IsTerm room ts a → Terms room ts (start a)
    next_term : {room : ℕ} {ts us : List Lexeme} {links : Links} {o : Operator} {a : Expr} (sign : Lexeme)
        → Terms room ts links → sign_of (terminal sign) ≡ Some o → IsTerm room us a → Terms room (ts ++ sign ∷ us) (link links o a)

  -- term = unary { ("*" | "/" | "%") unary }
  pub data IsTerm : ℕ → List Lexeme → Expr → Type 0 where
    product : {room : ℕ} {ts : List Lexeme} {links : Links} → Factors room ts links → IsTerm room ts (chain links)

  pub data Factors : ℕ → List Lexeme → Links → Type 0 where
    one_factor : {room : ℕ} {ts : List Lexeme} {a : Expr} → IsUnary room ts a → Factors room ts (start a)
    next_factor : {room : ℕ} {ts us : List Lexeme} {links : Links} {o : Operator} {a : Expr} (star : Lexeme)
        → Factors room ts links → star_of (terminal star) ≡ Some o → IsUnary room us a → Factors room (ts ++ star ∷ us) (link links o a)

  -- unary = "-" unary | primary
  pub data IsUnary : ℕ → List Lexeme → Expr → Type 0 where
    negative : {room : ℕ} {sign : Lexeme} {ts : List Lexeme} {a : Expr}
        → terminal sign ≡ t.Minus → IsUnary room ts a → IsUnary (suc room) (sign ∷ ts) (Negative a (place_of sign))
    primary : {room : ℕ} {ts : List Lexeme} {a : Expr} → IsPrimary room ts a → IsUnary room ts a

  -- primary = Number | Decimal | name subscripts | name "(" arguments ")" | ("floord" | "ceild") "(" expr "," Number ")" | "(" expr ")"
  pub data IsPrimary : ℕ → List Lexeme → Expr → Type 0 where
    number : {room : ℕ} {n : Lexeme} → terminal n ≡ t.Number → IsPrimary room (n ∷ []) (Number (numeral_of n))
    decimal : {room : ℕ} {n : Lexeme} → terminal n ≡ t.Decimal → IsPrimary room (n ∷ []) (Decimal (word_of n))
    access : {room : ℕ} {n : Lexeme} {ts : List Lexeme} {subs : List Expr}
        → is_name (terminal n) ≡ true → Subscripts room ts subs → IsPrimary room (n ∷ ts) (Access (word_of n) subs)
    call : {room : ℕ} {n left : Lexeme} {ts : List Lexeme} {args : List Expr} (right : Lexeme)
        → is_name (terminal n) ≡ true → terminal left ≡ t.Open → Arguments room ts args → terminal right ≡ t.Close
        → IsPrimary (suc room) (n ∷ left ∷ ts ++ right ∷ []) (Call (word_of n) args)
    quotient : {room : ℕ} {word left : Lexeme} {ts : List Lexeme} {a : Expr} (comma divisor right : Lexeme)
        → is_rounding (terminal word) ≡ true → terminal left ≡ t.Open → IsExpr room ts a → terminal comma ≡ t.Comma → terminal divisor ≡ t.Number → terminal right ≡ t.Close
        → IsPrimary (suc room) (word ∷ left ∷ ts ++ comma ∷ divisor ∷ right ∷ []) (quotient_of word a divisor)
    group : {room : ℕ} {left : Lexeme} {ts : List Lexeme} {a : Expr} (right : Lexeme)
        → terminal left ≡ t.Open → IsExpr room ts a → terminal right ≡ t.Close → IsPrimary (suc room) (left ∷ ts ++ right ∷ []) (Group a (place_of left))

  -- subscripts = { "[" expr "]" }
  pub data Subscripts : ℕ → List Lexeme → List Expr → Type 0 where
    no_subscript : {room : ℕ} → Subscripts room [] []
    next_subscript : {room : ℕ} {ss ts : List Lexeme} {subs : List Expr} {a : Expr} (left right : Lexeme)
        → Subscripts (suc room) ss subs → terminal left ≡ t.OpenBracket → IsExpr room ts a → terminal right ≡ t.CloseBracket
        → Subscripts (suc room) (ss ++ (left ∷ ts ++ right ∷ [])) (subs ++ a ∷ [])

  -- arguments = [ expr { "," expr } ]
  pub data Arguments : ℕ → List Lexeme → List Expr → Type 0 where
    no_argument : {room : ℕ} → Arguments room [] []
    some_arguments : {room : ℕ} {ts : List Lexeme} {args : List Expr} → ArgumentList room ts args → Arguments room ts args

  pub data ArgumentList : ℕ → List Lexeme → List Expr → Type 0 where
    one_argument : {room : ℕ} {ts : List Lexeme} {a : Expr} → IsExpr room ts a → ArgumentList room ts (a ∷ [])
    next_argument : {room : ℕ} {ts us : List Lexeme} {args : List Expr} {a : Expr} (comma : Lexeme)
        → ArgumentList room ts args → terminal comma ≡ t.Comma → IsExpr room us a → ArgumentList room (ts ++ comma ∷ us) (args ++ a ∷ [])

mutual
  -- cond = part { "&&" part }
  pub data IsCond : ℕ → List Lexeme → List Part → Type 0 where
    one_part : {room : ℕ} {ts : List Lexeme} {ps : List Part} → IsPart room ts ps → IsCond room ts ps
    next_part : {room : ℕ} {ts us : List Lexeme} {ps qs : List Part} (also : Lexeme)
        → IsCond room ts ps → terminal also ≡ t.And → IsPart room us qs → IsCond room (ts ++ also ∷ us) (ps ++ qs)

  -- part = expr relation expr | "(" cond ")"; the parts of a condition in parentheses are those of the condition
  pub data IsPart : ℕ → List Lexeme → List Part → Type 0 where
    comparison : {room : ℕ} {ts us : List Lexeme} {a b : Expr} {r : Relation} (sign : Lexeme)
        → IsExpr room ts a → relation_of (terminal sign) ≡ Some r → IsExpr room us b → IsPart room (ts ++ sign ∷ us) (part_of a r b ∷ [])
    nested : {room : ℕ} {left : Lexeme} {ts : List Lexeme} {ps : List Part} (right : Lexeme)
        → terminal left ≡ t.Open → IsCond room ts ps → terminal right ≡ t.Close → IsPart (suc room) (left ∷ ts ++ right ∷ []) ps
