-- What is answered of tokens that begin with something of the grammar, and of those that do not.
use Rattle.std.specs.Prelude.{◌≡◌, ℕ, true, false, List, [], ◌∷◌, ◌++◌, Result, Ok, Err}
use Rattle.ac_lex.specs.Lexemes.{Lexeme}
use Rattle.ac_parse_grammar.specs.declared.cursor.Stop.{Stop}
use Rattle.ac_parse_grammar.specs.declared.cursor.Stop.TheVariants.{Syntax, Nesting, Memory}
use Rattle.ac_parse_grammar.specs.ReaderCombinators.{peek, front}
use Rattle.ac_parse_grammar.specs.Found.{Rel, Goes, Read, CanGoOn, Begins, opens_construct}

-- with room for however many constructs
abbrev pub AtAnyDepth : {A : Type 0} → (ℕ → Rel A) → Rel A
AtAnyDepth R ts a = (room : ℕ) × R room ts a

-- The tokens before this place begin something of V, and none that has a token of the same terminal at this place begins with
-- something of R.
pub record IsFirstFault {A : Type 0} (R V : Rel A) (goes : Goes A) (before bad : List Lexeme) : Type 0 where
  pub viable : CanGoOn V before
  pub dead : (other used left : List Lexeme) (a : A) → peek other ≡ peek bad → R used a → goes a (peek left) ≡ false → before ++ other ≡ used ++ left → ⊥

-- at any depth; what stands before the fault keeps within the room
pub record HasSyntaxFault {A : Type 0} (R : ℕ → Rel A) (goes : Goes A) (room : ℕ) (old bad : List Lexeme) : Type 0 where
  pub before : List Lexeme
  pub cut : old ≡ before ++ bad
  pub alive : Begins (R room) before
  pub first : IsFirstFault (AtAnyDepth R) (AtAnyDepth R) goes before bad

-- at this room, at a mark that opens a construct, while deeper ones go on with it
pub record HasNestingFault {A : Type 0} (R : ℕ → Rel A) (goes : Goes A) (room : ℕ) (old bad : List Lexeme) : Type 0 where
  pub before : List Lexeme
  pub cut : old ≡ before ++ bad
  pub alive : Begins (R room) before
  pub opens : opens_construct (peek bad) ≡ true
  pub first : IsFirstFault (R room) (AtAnyDepth R) goes before bad
  pub deeper : CanGoOn (AtAnyDepth R) (before ++ front bad ∷ [])

-- what reading at this room answers, and the tokens that are then left
abbrev pub IsAnswer : {A : Type 0} → (ℕ → Rel A) → Goes A → ℕ → List Lexeme → Result A Stop → List Lexeme → Type 0
IsAnswer R goes room old (Ok a) new = Read (R room) goes old new a
IsAnswer R goes room old (Err Syntax) new = HasSyntaxFault R goes room old new
IsAnswer R goes room old (Err Nesting) new = HasNestingFault R goes room old new
IsAnswer R goes room old (Err (Memory fault)) new = Unit {0}

-- Where the tokens begin with something of the relation that does not go on, that is answered, unless memory fails.
abbrev pub IsOnly : {A : Type 0} → A → List Lexeme → Result A Stop → List Lexeme → Type 0
IsOnly a left (Ok b) new = (b ≡ a) × (new ≡ left)
IsOnly a left (Err Syntax) new = ⊥
IsOnly a left (Err Nesting) new = ⊥
IsOnly a left (Err (Memory fault)) new = Unit {0}

abbrev pub FindsAll : {A : Type 0} → Rel A → Goes A → List Lexeme → Result A Stop → List Lexeme → Type 0
FindsAll {A = A} R goes old result new = (left : List Lexeme) (a : A) → Read R goes old left a → IsOnly a left result new
