-- The grammar of pragma lines, functions and files, by cases on lists of tokens, with the tree that the tokens give. `room` is
-- how many constructs may nest.
use Rattle.std.specs.Prelude.{◌≡◌, ℕ, suc, true, List, [], ◌∷◌, ◌++◌}
use Rattle.ac_lex.specs.Lexemes.{Lexeme}
use Rattle.ac_parse_grammar.specs.declared.terminal.Terminal.TheVariants as t
use Rattle.ac_parse_grammar.specs.declared.tree.Word.{Word}
use Rattle.ac_parse_grammar.specs.declared.tree.Part.{Part}
use Rattle.ac_parse_grammar.specs.declared.tree.Declared.{Declared}
use Rattle.ac_parse_grammar.specs.declared.tree.Statement.{Statement}
use Rattle.ac_parse_grammar.specs.declared.tree.Pragma.{Pragma}
use Rattle.ac_parse_grammar.specs.declared.tree.Pragma.TheVariants.{Context, Commutative, Output}
use Rattle.ac_parse_grammar.specs.declared.tree.File.{File}
use Rattle.ac_parse_grammar.specs.declared.file.Function.{Function}
use Rattle.ac_parse_grammar.specs.Terminals.{terminal}
use Rattle.ac_parse_grammar.specs.TokenWords.{word_of}
use Rattle.ac_parse_grammar.specs.PragmasReading.{is_symbol}
use Rattle.ac_parse_grammar.specs.StatementsTrees.{file_of}
use Rattle.ac_parse_grammar.specs.Grammar.{IsCond}
use Rattle.ac_parse_grammar.specs.StatementsGrammar.{Is, IsName, IsStatements}
use Rattle.ac_parse_grammar.specs.DeclarationsGrammar.{IsRun, IsParameters, IsDeclarations}

-- a name as a word, and a symbol: a name or an operator of two operands
pub data IsWord : List Lexeme → Word → Type 0 where
  a_name : {n : Lexeme} → IsName n → IsWord (n ∷ []) (word_of n)

pub data IsSymbol : List Lexeme → Word → Type 0 where
  a_symbol : {n : Lexeme} → is_symbol (terminal n) ≡ true → IsSymbol (n ∷ []) (word_of n)

-- pragma = PragmaStart ( "context" cond | "commutative" { symbol } | "output" { name } ) PragmaEnd
pub data IsPragma (room : ℕ) : List Lexeme → Pragma → Type 0 where
  context : {s w : Lexeme} (e : Lexeme) {ts : List Lexeme} {cond : List Part} → Is t.PragmaStart s → Is t.Context w → IsCond room ts cond → Is t.PragmaEnd e
      → IsPragma room (s ∷ w ∷ ts ++ e ∷ []) (Context cond)
  commutative : {s w : Lexeme} (e : Lexeme) {ts : List Lexeme} {symbols : List Word} → Is t.PragmaStart s → Is t.Commutative w → IsRun IsSymbol ts symbols → Is t.PragmaEnd e
      → IsPragma room (s ∷ w ∷ ts ++ e ∷ []) (Commutative symbols)
  output : {s w : Lexeme} (e : Lexeme) {ts : List Lexeme} {names : List Word} → Is t.PragmaStart s → Is t.Output w → IsRun IsWord ts names → Is t.PragmaEnd e
      → IsPragma room (s ∷ w ∷ ts ++ e ∷ []) (Output names)

-- function = "void" name "(" parameters ")" "{" { decl } { stmt } "}"
pub data IsFunction : ℕ → List Lexeme → Function → Type 0 where
  function : {room : ℕ} {v n o : Lexeme} (c b d : Lexeme) {ps ds ss : List Lexeme} {params locals : List Declared} {statements : List Statement}
      → Is t.Void v → IsName n → Is t.Open o → IsParameters room ps params → Is t.Close c
      → Is t.OpenBrace b → IsDeclarations room ds locals → IsStatements room ss statements → Is t.CloseBrace d
      → IsFunction (suc room) (v ∷ n ∷ o ∷ ps ++ (c ∷ b ∷ ds ++ (ss ++ d ∷ [])))
      (record { name = word_of n; params = params; body = record { locals = locals; statements = statements } })

-- file = { pragma } function { pragma }
pub data IsFile (room : ℕ) : List Lexeme → File → Type 0 where
  file : {bs fs ts : List Lexeme} {before behind : List Pragma} {function : Function}
      → IsRun (IsPragma room) bs before → IsFunction room fs function → IsRun (IsPragma room) ts behind → IsFile room (bs ++ (fs ++ ts)) (file_of before function behind)
