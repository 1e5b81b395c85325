-- The names that a file declares, and the symbols of its pragma lines, where the tokens are spelled as their kinds say.
use Rattle.std.specs.Prelude.{Bool, List, [], ◌∷◌, ◌++◌}
use Rattle.std.specs.List.{AllByRecursion}
use Rattle.std.proofs.Common.{ℕ}
use Rattle.ac_lex.specs.Lexemes.{Lexeme}
use Rattle.ac_parse_grammar.specs.declared.tree.Word.{Word}
use Rattle.ac_parse_grammar.specs.declared.tree.Declared.{Declared}
use Rattle.ac_parse_grammar.specs.declared.tree.Pragma.{Pragma}
use Rattle.ac_parse_grammar.specs.declared.tree.Pragma.TheVariants.{Context, Commutative, Output}
use Rattle.ac_parse_grammar.specs.DeclarationsGrammar.{IsRun, no_item, an_item, IsNext, next_item, IsList, items, IsDeclared, declared, IsParameter, parameter, IsParameters, no_parameter, void, parameters, IsDeclaration, declaration, IsDeclarations, no_declaration, a_declaration}
use Rattle.ac_parse_grammar.specs.FileGrammar.{IsSymbol, a_symbol, IsPragma, context, commutative, output}
use Rattle.ac_parse_rules.specs.Files.{commutative_words}
use Rattle.ac_parse_exprs.proofs.Absent.{each_append}
use Rattle.ac_parse_roundtrip.specs.TokenSpelling.{AreSpelled}
use Rattle.ac_parse_roundtrip.proofs.NameTerminals.{IsNamed, is_named, IsNamedSymbol, symbol_named}
use Rattle.ac_parse_roundtrip.proofs.Expressions.{front_spelled, rest_spelled}

-- what holds of each item holds of those of a run and of a list
module _ {A : Type 0} (Item : List Lexeme → A → Type 0) (P : A → Type 0) (item_has : (ts : List Lexeme) (a : A) → Item ts a → AreSpelled ts → P a) where
  pub run_has : {ts : List Lexeme} {all : List A} → IsRun Item ts all → AreSpelled ts → AllByRecursion P all
  run_has no_item h = tt
  run_has (an_item {ts = ts} {us = us} {first = first} is are) h = (item_has ts first is (front_spelled ts us h), run_has are (rest_spelled ts us h))

module _ {A : Type 0} (Item : List Lexeme → A → Type 0) (P : A → Type 0) (item_has : (ts : List Lexeme) (a : A) → Item ts a → AreSpelled ts → P a) where
  next_has : (ts : List Lexeme) (a : A) → IsNext Item ts a → AreSpelled ts → P a
  next_has _ a (next_item {ts = ts} comma is) h = item_has ts a is h.1

  pub list_has : {ts : List Lexeme} {all : List A} → IsList Item ts all → AreSpelled ts → AllByRecursion P all
  list_has (items {ts = ts} {us = us} {first = first} is are) h =
      (item_has ts first is (front_spelled ts us h), run_has (IsNext Item) P next_has are (rest_spelled ts us h))

-- ---- declarations

abbrev pub IsNamedDeclaration : Declared → Type 0
IsNamedDeclaration d = IsNamed d.name.name

abbrev pub AreNamedDeclarations : List Declared → Type 0
AreNamedDeclarations = AllByRecursion IsNamedDeclaration

declared_named : (whole : Bool) (room : ℕ) (ts : List Lexeme) (d : Declared) → IsDeclared whole room ts d → AreSpelled ts → IsNamedDeclaration d
declared_named whole room _ _ (declared {n = n} is are) h = is_named n h.0 is

parameter_named : (room : ℕ) (ts : List Lexeme) (d : Declared) → IsParameter room ts d → AreSpelled ts → IsNamedDeclaration d
parameter_named room _ d (parameter {ws = ws} {ts = ts} {whole = whole} type is) h = declared_named whole room ts d is (rest_spelled ws ts h)

pub parameters_named : {room : ℕ} {ts : List Lexeme} {ds : List Declared} → IsParameters room ts ds → AreSpelled ts → AreNamedDeclarations ds
parameters_named no_parameter h = tt
parameters_named (void is) h = tt
parameters_named {room = room} (parameters are) h = list_has (IsParameter room) IsNamedDeclaration (parameter_named room) are h

declaration_named : {room : ℕ} {ts : List Lexeme} {ds : List Declared} → IsDeclaration room ts ds → AreSpelled ts → AreNamedDeclarations ds
declaration_named {room = room} (declaration {ws = ws} {ts = ts} {whole = whole} c type are semicolon) h =
    list_has (IsDeclared whole room) IsNamedDeclaration (declared_named whole room) are (front_spelled ts (c ∷ []) (rest_spelled ws (ts ++ c ∷ []) h))

pub declarations_named : {room : ℕ} {ts : List Lexeme} {ds : List Declared} → IsDeclarations room ts ds → AreSpelled ts → AreNamedDeclarations ds
declarations_named no_declaration h = tt
declarations_named (a_declaration {ts = ts} {us = us} {first = first} {more = others} is are) h =
    each_append IsNamedDeclaration first others (declaration_named is (front_spelled ts us h)) (declarations_named are (rest_spelled ts us h))

-- ---- pragma lines

abbrev pub AreSymbols : List Word → Type 0
AreSymbols = AllByRecursion (λ word. IsNamedSymbol word.name)

-- the symbols of a line are symbols
abbrev pub HasSymbols : Pragma → Type 0
HasSymbols (Context parts) = Unit {0}
HasSymbols (Commutative symbols) = AreSymbols symbols
HasSymbols (Output names) = Unit {0}

a_symbol_named : (ts : List Lexeme) (word : Word) → IsSymbol ts word → AreSpelled ts → IsNamedSymbol word.name
a_symbol_named _ _ (a_symbol {n = n} is) h = symbol_named n h.0 is

pub pragma_named : (room : ℕ) (ts : List Lexeme) (pragma : Pragma) → IsPragma room ts pragma → AreSpelled ts → HasSymbols pragma
pragma_named room _ _ (context e starts is of ends) h = tt
pragma_named room _ _ (commutative e {ts = ts} starts is are ends) h = run_has IsSymbol (λ word. IsNamedSymbol word.name) a_symbol_named are (front_spelled ts (e ∷ []) h.1.1)
pragma_named room _ _ (output e starts is are ends) h = tt

pub words_named : (pragmas : List Pragma) → AllByRecursion HasSymbols pragmas → AreSymbols (commutative_words pragmas)
words_named [] h = tt
words_named (Context parts ∷ pragmas) h = words_named pragmas h.1
words_named (Commutative words ∷ pragmas) h = each_append (λ (word : Word). IsNamedSymbol word.name) words (commutative_words pragmas) h.0 (words_named pragmas h.1)
words_named (Output words ∷ pragmas) h = words_named pragmas h.1
