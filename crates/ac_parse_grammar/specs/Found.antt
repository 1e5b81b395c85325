-- What a reader has found, and where it stops.
use Rattle.std.specs.Prelude.{◌≡◌, Bool, true, false, List, [], ◌∷◌, ◌++◌, ◌⊎◌}
use Rattle.ac_lex.specs.Lexemes.{Lexeme}
use Rattle.ac_parse_grammar.specs.declared.terminal.Terminal.{Terminal}
use Rattle.ac_parse_grammar.specs.declared.terminal.Terminal.TheVariants.{For, If, Floord, Ceild, Open, OpenBracket, OpenBrace, Minus}
use Rattle.ac_parse_grammar.specs.Terminals.{terminal}
use Rattle.ac_parse_grammar.specs.ReaderCombinators.{Why, nesting, Reader, stopped, peek, front}

-- which tokens are such a thing, with this value
abbrev pub Rel : Type 0 → Type 1
Rel A = List Lexeme → A → Type 0

-- with which terminals a thing of this value goes on
abbrev pub Goes : Type 0 → Type 0
Goes A = A → Terminal → Bool

-- what was read is of the relation, and what follows does not go on with it
pub record Read {A : Type 0} (R : Rel A) (goes : Goes A) (ts left : List Lexeme) (a : A) : Type 0 where
  pub used : List Lexeme
  pub cut : ts ≡ used ++ left
  pub is : R used a
  pub ends : goes a (peek left) ≡ false

-- some tokens that begin so are of the relation
abbrev pub CanGoOn : {A : Type 0} → Rel A → List Lexeme → Type 0
CanGoOn {A = A} R pre = (more : List Lexeme) × (a : A) × R (pre ++ more) a

-- Up to the fault the tokens begin something of the relation; with a token of the fault's terminal, whatever follows, the
-- reader stops there. At the limit of nesting the tokens go on with the token of the fault, too.
pub record Stops {A : Type 0} (p : Reader A) (R : Rel A) (why : Why) (ts bad : List Lexeme) : Type 0 where
  pub pre : List Lexeme
  pub cut : ts ≡ pre ++ bad
  pub viable : (pre ≡ []) ⊎ CanGoOn R pre
  pub only : (other : List Lexeme) → peek other ≡ peek bad → p (pre ++ other) ≡ stopped why other
  pub deeper : why ≡ nesting → CanGoOn R (pre ++ front bad ∷ [])

-- the marks that open a construct
abbrev pub opens_construct : Terminal → Bool
opens_construct Open = true
opens_construct OpenBracket = true
opens_construct OpenBrace = true
opens_construct Minus = true
opens_construct _ = false

-- the words behind which a parenthesis opens in each case
abbrev pub awaits_parenthesis : Terminal → Bool
awaits_parenthesis For = true
awaits_parenthesis If = true
awaits_parenthesis Floord = true
awaits_parenthesis Ceild = true
awaits_parenthesis _ = false

-- Tokens begin something of the relation, but for such a word at their end: where no construct more may open, its parenthesis
-- may not.
pub data Begins {A : Type 0} (R : Rel A) : List Lexeme → Type 0 where
  begins_whole : {pre : List Lexeme} → CanGoOn R pre → Begins R pre
  begins_to_keyword : (pre : List Lexeme) (k : Lexeme) → awaits_parenthesis (terminal k) ≡ true → CanGoOn R pre → Begins R (pre ++ k ∷ [])
