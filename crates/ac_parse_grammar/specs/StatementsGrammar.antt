-- The grammar of statements, by cases on lists of tokens: one data type for each nonterminal, with the tree that the tokens
-- give. `room` is how many constructs may still open inside, of those that may nest.
use Rattle.std.specs.Prelude.{◌≡◌, ℕ, suc, Bool, true, false, List, [], ◌∷◌, ◌++◌, Option, Some, None}
use Rattle.ac_lex.specs.Lexemes.{Lexeme}
use Rattle.ac_parse_grammar.specs.declared.terminal.Terminal.{Terminal}
use Rattle.ac_parse_grammar.specs.declared.terminal.Terminal.TheVariants as t
use Rattle.ac_parse_grammar.specs.declared.statements.LoopHeader.{LoopHeader}
use Rattle.ac_parse_grammar.specs.declared.tree.Operator.{Operator}
use Rattle.ac_parse_grammar.specs.declared.tree.Operator.TheVariants as operator
use Rattle.ac_parse_grammar.specs.declared.tree.Expr.{Expr}
use Rattle.ac_parse_grammar.specs.declared.tree.Part.{Part}
use Rattle.ac_parse_grammar.specs.declared.tree.Step.{Step}
use Rattle.ac_parse_grammar.specs.declared.tree.Statement.{Statement}
use Rattle.ac_parse_grammar.specs.declared.tree.Statement.TheVariants.{Assign}
use Rattle.ac_parse_grammar.specs.Terminals.{terminal, is_name}
use Rattle.ac_parse_grammar.specs.TokenWords.{word_of, numeral_of}
use Rattle.ac_parse_grammar.specs.StatementsTrees.{unit_step, loop_of, branch_of}
use Rattle.ac_parse_grammar.specs.Grammar.{IsExpr, Subscripts, IsCond}

-- a token of this terminal, and a name
abbrev pub Is : Terminal → Lexeme → Type 0
Is k token = terminal token ≡ k

abbrev pub IsName : Lexeme → Type 0
IsName token = is_name (terminal token) ≡ true

-- the signs of steps, and whether they take away
abbrev pub unit_of : Terminal → Option Bool
unit_of t.PlusPlus = Some false
unit_of t.MinusMinus = Some true
unit_of _ = None

abbrev pub change_of : Terminal → Option Bool
change_of t.PlusBecomes = Some false
change_of t.MinusBecomes = Some true
change_of _ = None

abbrev pub down_of : Terminal → Option Bool
down_of t.Plus = Some false
down_of t.Minus = Some true
down_of _ = None

-- step = name ("++" | "--") | ("++" | "--") name | name ("+=" | "-=") Number | name "=" name ("+" | "-") Number
pub data IsStep : List Lexeme → Step → Type 0 where
  sign_behind : {n s : Lexeme} {down : Bool} → IsName n → unit_of (terminal s) ≡ Some down → IsStep (n ∷ s ∷ []) (unit_step (word_of n) down s)
  sign_before : {s n : Lexeme} {down : Bool} → unit_of (terminal s) ≡ Some down → IsName n → IsStep (s ∷ n ∷ []) (unit_step (word_of n) down s)
  changed : {n s m : Lexeme} {down : Bool} → IsName n → change_of (terminal s) ≡ Some down → Is t.Number m
      → IsStep (n ∷ s ∷ m ∷ []) (record { target = word_of n; source = None; down = down; by = numeral_of m })
  set : {n e j s m : Lexeme} {down : Bool} → IsName n → Is t.Becomes e → IsName j → down_of (terminal s) ≡ Some down → Is t.Number m
      → IsStep (n ∷ e ∷ j ∷ s ∷ m ∷ []) (record { target = word_of n; source = Some (word_of j); down = down; by = numeral_of m })

-- the marks of assignments, with the operator before the equals sign
abbrev pub assigns_of : Terminal → Option (Option Operator)
assigns_of t.Becomes = Some None
assigns_of t.PlusBecomes = Some (Some operator.Add)
assigns_of t.MinusBecomes = Some (Some operator.Subtract)
assigns_of t.StarBecomes = Some (Some operator.Multiply)
assigns_of t.SlashBecomes = Some (Some operator.Divide)
assigns_of t.PercentBecomes = Some (Some operator.Remainder)
assigns_of _ = None

-- assign ";" with assign = name { "[" expr "]" } ("=" | "+=" | "-=" | "*=" | "/=" | "%=") expr
pub data IsAssignment : ℕ → List Lexeme → Statement → Type 0 where
  assignment : {room : ℕ} {n : Lexeme} (m c : Lexeme) {ss es : List Lexeme} {subs : List Expr} {operator : Option Operator} {value : Expr}
      → IsName n → Subscripts room ss subs → assigns_of (terminal m) ≡ Some operator → IsExpr room es value → Is t.Semicolon c
      → IsAssignment room (n ∷ ss ++ (m ∷ es ++ c ∷ [])) (Assign (word_of n) subs operator value)

-- [ "int" | "long" ]
abbrev pub is_whole : Terminal → Bool
is_whole t.Int = true
is_whole t.Long = true
is_whole _ = false

pub data IsTyped : List Lexeme → Bool → Type 0 where
  untyped : IsTyped [] false
  typed : {w : Lexeme} → is_whole (terminal w) ≡ true → IsTyped (w ∷ []) true

-- [ "int" | "long" ] name "=" expr ";" cond ";" step
pub data IsHeader : ℕ → List Lexeme → LoopHeader → Type 0 where
  header : {room : ℕ} (n m c d : Lexeme) {ws es cs ss : List Lexeme} {typed : Bool} {start : Expr} {cond : List Part} {step : Step}
      → IsTyped ws typed → IsName n → Is t.Becomes m → IsExpr room es start → Is t.Semicolon c → IsCond room cs cond → Is t.Semicolon d → IsStep ss step
      → IsHeader room (ws ++ (n ∷ m ∷ es ++ (c ∷ cs ++ d ∷ ss))) (record { typed = typed; name = word_of n; start = start; cond = cond; step = step })

mutual
  -- stmt = ";" | "{" { stmt } "}" | loop | branch | assign ";", with whether it ends in a branch that an else may follow
  pub data IsStatement : ℕ → Bool → List Lexeme → List Statement → Type 0 where
    empty : {room : ℕ} {c : Lexeme} → Is t.Semicolon c → IsStatement room false (c ∷ []) []
    block : {room : ℕ} {o : Lexeme} (c : Lexeme) {ss : List Lexeme} {all : List Statement}
        → Is t.OpenBrace o → IsStatements room ss all → Is t.CloseBrace c → IsStatement (suc room) false (o ∷ ss ++ c ∷ []) all
    -- "for" "(" header ")" stmt
    loop : {room : ℕ} {dangling : Bool} {f o : Lexeme} (c : Lexeme) {hs ss : List Lexeme} {header : LoopHeader} {body : List Statement}
        → Is t.For f → Is t.Open o → IsHeader room hs header → Is t.Close c → IsStatement room dangling ss body
        → IsStatement (suc room) dangling (f ∷ o ∷ hs ++ c ∷ ss) (loop_of f header body ∷ [])
    -- "if" "(" cond ")" stmt
    branch : {room : ℕ} {dangling : Bool} {f o : Lexeme} (c : Lexeme) {cs ss : List Lexeme} {cond : List Part} {taken : List Statement}
        → Is t.If f → Is t.Open o → IsCond room cs cond → Is t.Close c → IsStatement room dangling ss taken
        → IsStatement (suc room) true (f ∷ o ∷ cs ++ c ∷ ss) (branch_of f cond taken [] ∷ [])
    -- "if" "(" cond ")" stmt "else" stmt, where the else belongs to no branch before it
    branch_with_else : {room : ℕ} {dangling : Bool} {f o : Lexeme} (c e : Lexeme) {cs ss us : List Lexeme} {cond : List Part} {taken other : List Statement}
        → Is t.If f → Is t.Open o → IsCond room cs cond → Is t.Close c → IsStatement room false ss taken → Is t.Else e → IsStatement room dangling us other
        → IsStatement (suc room) dangling (f ∷ o ∷ cs ++ (c ∷ ss ++ e ∷ us)) (branch_of f cond taken other ∷ [])
    assign : {room : ℕ} {ts : List Lexeme} {s : Statement} → IsAssignment room ts s → IsStatement room false ts (s ∷ [])

  -- { stmt }
  pub data IsStatements : ℕ → List Lexeme → List Statement → Type 0 where
    no_statement : {room : ℕ} → IsStatements room [] []
    a_statement : {room : ℕ} {dangling : Bool} {ts us : List Lexeme} {first more : List Statement}
        → IsStatement room dangling ts first → IsStatements room us more → IsStatements room (ts ++ us) (first ++ more)
