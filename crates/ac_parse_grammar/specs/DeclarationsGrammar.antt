-- The grammar of declarations, by cases on lists of tokens: one data type for each nonterminal, with the tree that the tokens
-- give. `room` is how many constructs may still open inside, of those that may nest.
use Rattle.std.specs.Prelude.{◌≡◌, ℕ, suc, Bool, true, false, List, [], ◌∷◌, ◌++◌, Option, Some, None}
use Rattle.ac_lex.specs.Lexemes.{Lexeme}
use Rattle.ac_parse_grammar.specs.declared.terminal.Terminal.{Terminal}
use Rattle.ac_parse_grammar.specs.declared.terminal.Terminal.TheVariants as t
use Rattle.ac_parse_grammar.specs.declared.tree.Expr.{Expr}
use Rattle.ac_parse_grammar.specs.declared.tree.Extent.{Extent}
use Rattle.ac_parse_grammar.specs.declared.tree.Declared.{Declared}
use Rattle.ac_parse_grammar.specs.Terminals.{terminal}
use Rattle.ac_parse_grammar.specs.TokenWords.{place_of, word_of}
use Rattle.ac_parse_grammar.specs.Grammar.{IsExpr}
use Rattle.ac_parse_grammar.specs.StatementsGrammar.{Is, IsName}

-- { item }
pub data IsRun {A : Type 0} (Item : List Lexeme → A → Type 0) : List Lexeme → List A → Type 0 where
  no_item : IsRun Item [] []
  an_item : {ts us : List Lexeme} {first : A} {more : List A} → Item ts first → IsRun Item us more → IsRun Item (ts ++ us) (first ∷ more)

-- "," item
pub data IsNext {A : Type 0} (Item : List Lexeme → A → Type 0) : List Lexeme → A → Type 0 where
  next_item : {comma : Lexeme} {ts : List Lexeme} {item : A} → Is t.Comma comma → Item ts item → IsNext Item (comma ∷ ts) item

-- item { "," item }
pub data IsList {A : Type 0} (Item : List Lexeme → A → Type 0) : List Lexeme → List A → Type 0 where
  items : {ts us : List Lexeme} {first : A} {more : List A} → Item ts first → IsRun (IsNext Item) us more → IsList Item (ts ++ us) (first ∷ more)

-- the words of types, and whether the numbers are whole
abbrev pub numbers_of : Terminal → Option Bool
numbers_of t.Int = Some true
numbers_of t.Long = Some true
numbers_of t.Float = Some false
numbers_of t.Double = Some false
numbers_of _ = None

-- type = [ "const" ] ( "int" | "long" | "float" | "double" )
pub data IsType : List Lexeme → Bool → Type 0 where
  plain : {w : Lexeme} {whole : Bool} → numbers_of (terminal w) ≡ Some whole → IsType (w ∷ []) whole
  constant : {c w : Lexeme} {whole : Bool} → Is t.Const c → numbers_of (terminal w) ≡ Some whole → IsType (c ∷ w ∷ []) whole

-- "[" expr "]"
pub data IsExtent : ℕ → List Lexeme → Extent → Type 0 where
  extent : {room : ℕ} {o : Lexeme} (c : Lexeme) {es : List Lexeme} {size : Expr} → Is t.OpenBracket o → IsExpr room es size → Is t.CloseBracket c
      → IsExtent (suc room) (o ∷ es ++ c ∷ []) (record { size = size; place = place_of o })

-- name { "[" expr "]" }
pub data IsDeclared (whole : Bool) (room : ℕ) : List Lexeme → Declared → Type 0 where
  declared : {n : Lexeme} {es : List Lexeme} {extents : List Extent} → IsName n → IsRun (IsExtent room) es extents
      → IsDeclared whole room (n ∷ es) (record { whole = whole; name = word_of n; extents = extents })

-- param = type name { "[" expr "]" }
pub data IsParameter (room : ℕ) : List Lexeme → Declared → Type 0 where
  parameter : {ws ts : List Lexeme} {whole : Bool} {one : Declared} → IsType ws whole → IsDeclared whole room ts one → IsParameter room (ws ++ ts) one

-- [ "void" | param { "," param } ]
pub data IsParameters (room : ℕ) : List Lexeme → List Declared → Type 0 where
  no_parameter : IsParameters room [] []
  void : {v : Lexeme} → Is t.Void v → IsParameters room (v ∷ []) []
  parameters : {ts : List Lexeme} {all : List Declared} → IsList (IsParameter room) ts all → IsParameters room ts all

-- decl = type item { "," item } ";"
pub data IsDeclaration (room : ℕ) : List Lexeme → List Declared → Type 0 where
  declaration : {ws ts : List Lexeme} {whole : Bool} {all : List Declared} (c : Lexeme) → IsType ws whole → IsList (IsDeclared whole room) ts all → Is t.Semicolon c
      → IsDeclaration room (ws ++ (ts ++ c ∷ [])) all

-- { decl }
pub data IsDeclarations (room : ℕ) : List Lexeme → List Declared → Type 0 where
  no_declaration : IsDeclarations room [] []
  a_declaration : {ts us : List Lexeme} {first more : List Declared} → IsDeclaration room ts first → IsDeclarations room us more → IsDeclarations room (ts ++ us) (first ++ more)
