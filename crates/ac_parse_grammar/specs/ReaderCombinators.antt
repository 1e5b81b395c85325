-- Reading from the front of a list of tokens: what a reader is, and how readers are put together.
use Rattle.std.specs.Prelude.{◌≡◌, ℕ, zero, suc, Bool, List, [], ◌∷◌, length, Option, Some, None, Result, Ok, Err, if◌then◌else◌}
use denote.Enum.Bare.{sameb}
use Rattle.ac_lex.specs.Lexemes.{Lexeme}
use Rattle.ac_lex.specs.declared.tokens.TokenKind.TheVariants.{PragmaEnd}
use Rattle.ac_parse_grammar.specs.contracts.terminal.Terminal.{the_type}
use Rattle.ac_parse_grammar.specs.declared.terminal.Terminal.{Terminal}
use Rattle.ac_parse_grammar.specs.declared.terminal.Terminal.TheVariants.{End}
use Rattle.ac_parse_grammar.specs.declared.cursor.Stop.{Stop}
use Rattle.ac_parse_grammar.specs.declared.cursor.Stop.TheVariants.{Syntax, Nesting, Memory}
use Rattle.ac_parse_grammar.specs.declared.tree.Word.{Word}
use Rattle.ac_parse_grammar.specs.Terminals.{terminal, is_name}
use Rattle.ac_parse_grammar.specs.TokenWords.{word_of}

pub data Why : Type 0 where
  syntax : Why
  nesting : Why

-- what was read and the tokens behind it, or the tokens from the fault on
pub data Got (A : Type 0) : Type 0 where
  found : A → List Lexeme → Got A
  stopped : Why → List Lexeme → Got A

abbrev pub Reader : Type 0 → Type 0
Reader A = List Lexeme → Got A

abbrev pub and_then : {A B : Type 0} → Got A → (A → Reader B) → Got B
and_then (found a ts) f = f a ts
and_then (stopped why ts) f = stopped why ts

infixl 10 ◌>>=◌
abbrev pub ◌>>=◌ : {A B : Type 0} → Reader A → (A → Reader B) → Reader B
p >>= f = λ ts. and_then (p ts) f

infixl 10 ◌>>◌
abbrev pub ◌>>◌ : {A B : Type 0} → Reader A → Reader B → Reader B
p >> q = p >>= (λ _. q)

abbrev pub pure : {A : Type 0} → A → Reader A
pure a = λ ts. found a ts

abbrev pub refuse : {A : Type 0} → Reader A
refuse = λ ts. stopped syntax ts

-- the terminal that comes next
abbrev pub peek : List Lexeme → Terminal
peek [] = End
peek (t ∷ ts) = terminal t

-- the next token, and the tokens behind it
abbrev pub front : List Lexeme → Lexeme
front [] = record { kind = PragmaEnd; at = 0; text = [] }
front (t ∷ ts) = t

abbrev pub rest : List Lexeme → List Lexeme
rest [] = []
rest (t ∷ ts) = ts

abbrev pub take : Reader Lexeme
take = λ ts. found (front ts) (rest ts)

-- goes on by the terminal that comes next
abbrev pub by_terminal : {A : Type 0} → (Terminal → Reader A) → Reader A
by_terminal f = λ ts. f (peek ts) ts

-- whether a terminal is this one
unfoldable pub is : Terminal → Terminal → Bool
is this terminal = sameb the_type terminal this

unfoldable pub expect : Terminal → Reader Lexeme
expect this = λ ts. if is this (peek ts) then take ts else stopped syntax ts

-- a value behind which none of these terminals may stand
unfoldable pub ending : {A : Type 0} → (Terminal → Bool) → A → Reader A
ending goes a = λ ts. if goes (peek ts) then stopped syntax ts else found a ts

-- a name
unfoldable pub name : Reader Word
name = λ ts. if is_name (peek ts) then found (word_of (front ts)) (rest ts) else stopped syntax ts

-- what a terminal stands for at the front of the tokens, if it stands for something, and then passes it
abbrev pub operator_at : {O : Type 0} → Option O → Reader (Option O)
operator_at None = pure None
operator_at (Some o) = λ ts. found (Some o) (rest ts)

unfoldable pub operator : {O : Type 0} → (Terminal → Option O) → Reader (Option O)
operator what = λ ts. operator_at (what (peek ts)) ts

-- goes on where an operator was read
abbrev pub turn : {X B O : Type 0} → (X → O → B → X) → Reader B → (X → Reader X) → X → Option O → Reader X
turn join item more x None = pure x
turn join item more x (Some o) = item >>= (λ b. more (join x o b))

-- Items with an operator before each, joined to what stood before them. The number bounds the turns; the count of the
-- tokens is enough.
unfoldable pub repeat_from : {X B O : Type 0} → (Terminal → Option O) → (X → O → B → X) → Reader B → ℕ → X → Reader X
repeat_from what join item zero x = pure x
repeat_from what join item (suc n) x = operator what >>= turn join item (repeat_from what join item n) x

unfoldable pub repeat : {X B O : Type 0} → (Terminal → Option O) → (X → O → B → X) → Reader B → X → Reader X
repeat what join item x = λ ts. repeat_from what join item (length ts) x ts

-- items as long as one begins, joined in the same way
unfoldable pub many_from : {X B : Type 0} → (Terminal → Bool) → (X → B → X) → Reader B → ℕ → X → Reader X
many_from begins join item zero x = pure x
many_from begins join item (suc n) x = λ ts. if begins (peek ts) then (item >>= (λ b. many_from begins join item n (join x b))) ts else found x ts

unfoldable pub many : {X B : Type 0} → (Terminal → Bool) → (X → B → X) → Reader B → X → Reader X
many begins join item x = λ ts. many_from begins join item (length ts) x ts

-- ---- what a function that reads ensures, unless memory fails

abbrev pub Reads : {X A : Type 0} → (X → A) → Got A → Result X Stop → List Lexeme → Type 0
Reads view got (Ok x) new = got ≡ found (view x) new
Reads view got (Err Syntax) new = got ≡ stopped syntax new
Reads view got (Err Nesting) new = got ≡ stopped nesting new
Reads view got (Err (Memory fault)) new = Unit {0}
