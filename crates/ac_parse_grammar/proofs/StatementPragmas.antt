-- Pragma lines are exact.
use Rattle.std.specs.Prelude.{true, false, cond, not, ◌||◌}
use Rattle.std.proofs.Common.{◌≡◌, ℕ, suc, List, [], refl}
use Rattle.ac_lex.specs.Lexemes.{Lexeme}
use Rattle.ac_parse_grammar.specs.declared.terminal.Terminal.{Terminal}
use Rattle.ac_parse_grammar.specs.declared.terminal.Terminal.TheVariants as t
use Rattle.ac_parse_grammar.specs.declared.tree.Word.{Word}
use Rattle.ac_parse_grammar.specs.declared.tree.Pragma.{Pragma}
use Rattle.ac_parse_grammar.specs.declared.tree.Pragma.TheVariants.{Context, Commutative, Output}
use Rattle.ac_parse_grammar.specs.Terminals.{terminal, is_name}
use Rattle.ac_parse_grammar.specs.ReaderCombinators.{syntax, Got, found, stopped, Reader, and_then, ◌>>◌, pure, peek, front, rest, is, expect, name, many}
use Rattle.ac_parse_grammar.specs.Found.{Goes}
use Rattle.ac_parse_grammar.specs.Conditions.{condition_goes_on}
use Rattle.ac_parse_grammar.specs.Conditions as conditions
use Rattle.ac_parse_grammar.specs.DeclarationsReading.{one_more}
use Rattle.ac_parse_grammar.specs.DeclarationsGrammar.{IsRun}
use Rattle.ac_parse_grammar.specs.PragmasReading as reading
use Rattle.ac_parse_grammar.specs.PragmasReading.{is_symbol, symbol, symbols, names, pragma_by, pragma_inside}
use Rattle.ac_parse_grammar.specs.FileGrammar as g
use Rattle.ac_parse_grammar.specs.FileGrammar.{IsWord, a_name, IsSymbol, a_symbol, IsPragma}
use Rattle.ac_parse_grammar.proofs.Exact.{Exact, none, nowhere, both}
use Rattle.ac_parse_grammar.proofs.Parts.{is_true, true_is, nothing, token, one, other}
use Rattle.ac_parse_grammar.proofs.StatementGiven.{cond_piece}
use Rattle.ac_parse_grammar.proofs.StatementLexemes.{named_token, a_context, a_commutative, an_output, a_pragma_start, a_pragma_end}
use Rattle.ac_parse_grammar.proofs.StatementPieces.{Piece, way, at_any, value, passed, either, marked, expected, before, IsWorded, a_word, a_worded, named, renamed, repeated}
use Rattle.ac_parse_grammar.proofs.StatementProductions.{name_piece}
use Rattle.ac_parse_grammar.proofs.StatementDeclarations.{run_to, run_of}

-- ---- words of a line

to_name : (ts : List Lexeme) (a : Word) → IsWorded is_name ts a → IsWord ts a
to_name _ _ (a_word n) = a_name n

of_name : (ts : List Lexeme) (a : Word) → IsWord ts a → IsWorded is_name ts a
of_name _ _ (a_name n) = a_word n

to_symbol : (ts : List Lexeme) (a : Word) → IsWorded is_symbol ts a → IsSymbol ts a
to_symbol _ _ (a_word n) = a_symbol n

of_symbol : (ts : List Lexeme) (a : Word) → IsSymbol ts a → IsWorded is_symbol ts a
of_symbol _ _ (a_symbol n) = a_word n

name_symbol : (k : Terminal) → is_name k ≡ true → is_symbol k ≡ true
name_symbol t.Name e = refl
name_symbol t.Context e = refl
name_symbol t.Commutative e = refl
name_symbol t.Output e = refl
name_symbol _ e = cc

symbol_as : (ts : List Lexeme) → symbol ts ≡ (a_worded is_symbol refl (named_token.0, name_symbol (terminal named_token.0) named_token.1)).read ts
unfolding symbol
symbol_as ts = refl

abbrev word_piece : Piece Word nowhere none
word_piece = renamed IsWord IsWord name_piece to_name of_name to_name

abbrev symbol_piece : Piece Word nowhere none
symbol_piece = renamed IsSymbol IsSymbol (named symbol (a_worded is_symbol refl (named_token.0, name_symbol (terminal named_token.0) named_token.1)) symbol_as) to_symbol of_symbol to_symbol

names_as : (ts : List Lexeme) → names ts ≡ many is_name one_more name [] ts
unfolding names
names_as ts = refl

symbols_as : (ts : List Lexeme) → symbols ts ≡ many is_symbol one_more symbol [] ts
unfolding symbols
symbols_as ts = refl

abbrev names_piece : Piece (List Word) nowhere (λ all k. is_name k || none all k)
names_piece = renamed (IsRun IsWord) (IsRun IsWord) (named names (repeated is_name one_more (way (at_any (λ k. not (is_name k)) word_piece)) refl (λ k e. e) []) names_as) (run_to IsWord) (run_of IsWord) (run_to IsWord)

abbrev symbols_piece : Piece (List Word) nowhere (λ all k. is_symbol k || none all k)
symbols_piece = renamed (IsRun IsSymbol) (IsRun IsSymbol) (named symbols (repeated is_symbol one_more (way (at_any (λ k. not (is_symbol k)) symbol_piece)) refl (λ k e. e) []) symbols_as) (run_to IsSymbol) (run_of IsSymbol) (run_to IsSymbol)

-- ---- lines

context_real : is t.Context t.End ≡ false
unfolding is
context_real = refl

commutative_real : is t.Commutative t.End ≡ false
unfolding is
commutative_real = refl

output_real : is t.Output t.End ≡ false
unfolding is
output_real = refl

start_real : is t.PragmaStart t.End ≡ false
unfolding is
start_real = refl

end_real : is t.PragmaEnd t.End ≡ false
unfolding is
end_real = refl

context_is : is t.Context (terminal a_context.0) ≡ true
context_is = true_is t.Context (terminal a_context.0) a_context.1

commutative_is : is t.Commutative (terminal a_commutative.0) ≡ true
commutative_is = true_is t.Commutative (terminal a_commutative.0) a_commutative.1

start_is : is t.PragmaStart (terminal a_pragma_start.0) ≡ true
start_is = true_is t.PragmaStart (terminal a_pragma_start.0) a_pragma_start.1

output_no_commutative : (k : Terminal) → is t.Output k ≡ true → is t.Commutative k ≡ false
unfolding is
output_no_commutative t.Output e = refl
output_no_commutative _ e = cc

no_context : (k : Terminal) → (is t.Commutative k || is t.Output k) ≡ true → is t.Context k ≡ false
unfolding is
no_context t.Context e = cc
no_context _ e = refl

cond_ends : condition_goes_on t.PragmaEnd ≡ false
cond_ends = refl

-- the end of the line belongs to the way that was taken
abbrev context_piece : ℕ → Piece Pragma nowhere none
context_piece room = before (cond_piece room) t.PragmaEnd end_real a_pragma_end (λ _. cond_ends) (λ parts. value (Context parts))

abbrev commutative_piece : Piece Pragma nowhere none
commutative_piece = before symbols_piece t.PragmaEnd end_real a_pragma_end (λ _. refl) (λ all. value (Commutative all))

abbrev output_piece : Piece Pragma nowhere none
output_piece = before names_piece t.PragmaEnd end_real a_pragma_end (λ _. refl) (λ all. value (Output all))

abbrev by_output : Piece Pragma nowhere none
by_output = expected t.Output output_real an_output (λ _. output_piece)

abbrev by_commutative : Piece Pragma nowhere none
by_commutative = either (is t.Commutative) (way (passed (is t.Commutative) commutative_real (a_commutative.0, commutative_is) (λ _. commutative_piece))) by_output
    (λ k e. e) (λ ts left a r end. output_no_commutative _ (by_output.begun ts left a r))

abbrev by_context : ℕ → Piece Pragma nowhere none
by_context room = either (is t.Context) (way (passed (is t.Context) context_real (a_context.0, context_is) (λ _. context_piece room))) by_commutative
    (λ k e. e) (λ ts left a r end. no_context _ (by_commutative.begun ts left a r))

ending_line : Pragma → Reader Pragma
ending_line line = expect t.PragmaEnd >> pure line

made_then : {A : Type 0} (r : Got A) (f : A → Pragma) → and_then (and_then r (λ a. pure (f a))) ending_line ≡ and_then r (λ a. expect t.PragmaEnd >> pure (f a))
unfolding ending_line
made_then (found a ts) f = refl
made_then (stopped w ts) f = refl

inside_as : (room : ℕ) (ts : List Lexeme) → and_then (pragma_inside room ts) ending_line ≡ (by_context room).read ts
unfolding pragma_inside is expect
inside_as room ts = by_head (peek ts)
  where
    by_head : (k : Terminal) → and_then (pragma_by room k ts) ending_line
        ≡ cond (is t.Context k) (and_then (conditions.cond room (rest ts)) (λ parts. expect t.PragmaEnd >> pure (Context parts)))
        (cond (is t.Commutative k) (and_then (symbols (rest ts)) (λ all. expect t.PragmaEnd >> pure (Commutative all)))
        (and_then (cond (is t.Output k) (found (front ts) (rest ts)) (stopped syntax ts)) (λ _ us. and_then (names us) (λ all. expect t.PragmaEnd >> pure (Output all)))))
    by_head t.Context = made_then (conditions.cond room (rest ts)) Context
    by_head t.Commutative = made_then (symbols (rest ts)) Commutative
    by_head t.Output = made_then (names (rest ts)) Output
    by_head _ = refl

abbrev any_line_piece : ℕ → Piece Pragma (λ k. not (is t.PragmaStart k)) none
any_line_piece room = passed (is t.PragmaStart) start_real (a_pragma_start.0, start_is) (λ _. named (λ ts. and_then (pragma_inside room ts) ending_line) (by_context room) (inside_as room))

to_line : (room : ℕ) (ts : List Lexeme) (a : Pragma) → (any_line_piece room).rel ts a → IsPragma room ts a
to_line room _ _ (token {t = s} start (one (token {t = w} at (both c (marked {t = e} close nothing))))) = g.context e (is_true t.PragmaStart (terminal s) start) (is_true t.Context (terminal w) at) c close
to_line room _ _ (token {t = s} start (other (one (token {t = w} at (both c (marked {t = e} close nothing)))))) = g.commutative e (is_true t.PragmaStart (terminal s) start) (is_true t.Commutative (terminal w) at) c close
to_line room _ _ (token {t = s} start (other (other (marked {t = w} at (both c (marked {t = e} close nothing)))))) = g.output e (is_true t.PragmaStart (terminal s) start) at c close

wide_line : (room : ℕ) (ts : List Lexeme) (a : Pragma) → (any_line_piece room).wide ts a → IsPragma (suc room) ts a
wide_line room _ _ (token {t = s} start (one (token {t = w} at (both c (marked {t = e} close nothing))))) = g.context e (is_true t.PragmaStart (terminal s) start) (is_true t.Context (terminal w) at) c close
wide_line room _ _ (token {t = s} start (other (one (token {t = w} at (both c (marked {t = e} close nothing)))))) = g.commutative e (is_true t.PragmaStart (terminal s) start) (is_true t.Commutative (terminal w) at) c close
wide_line room _ _ (token {t = s} start (other (other (marked {t = w} at (both c (marked {t = e} close nothing)))))) = g.output e (is_true t.PragmaStart (terminal s) start) at c close

of_line : (room : ℕ) (ts : List Lexeme) (a : Pragma) → IsPragma room ts a → (any_line_piece room).rel ts a
of_line room _ _ (g.context {s = s} {w = w} e start at c close) = token (true_is t.PragmaStart (terminal s) start) (one (token (true_is t.Context (terminal w) at) (both c (marked close nothing))))
of_line room _ _ (g.commutative {s = s} {w = w} e start at c close) = token (true_is t.PragmaStart (terminal s) start) (other (one (token (true_is t.Commutative (terminal w) at) (both c (marked close nothing)))))
of_line room _ _ (g.output {s = s} {w = w} e start at c close) = token (true_is t.PragmaStart (terminal s) start) (other (other (marked at (both c (marked close nothing)))))

line_as : (room : ℕ) (ts : List Lexeme) → reading.pragma room ts ≡ (any_line_piece room).read ts
unfolding reading.pragma ending_line
line_as room ts = refl

abbrev line_piece : ℕ → Piece Pragma (λ k. not (is t.PragmaStart k)) none
line_piece room = renamed (IsPragma room) (IsPragma (suc room)) (named (reading.pragma room) (any_line_piece room) (line_as room)) (to_line room) (of_line room) (wide_line room)

lines_as : (room : ℕ) (ts : List Lexeme) → reading.pragmas room ts ≡ many (is t.PragmaStart) one_more (reading.pragma room) [] ts
unfolding reading.pragmas
lines_as room ts = refl

abbrev pub on_pragmas : Goes (List Pragma)
on_pragmas all k = is t.PragmaStart k || none all k

pub pragmas_exact : (room : ℕ) → Exact (reading.pragmas room) (IsRun (IsPragma room)) (IsRun (IsPragma (suc room))) nowhere on_pragmas
pragmas_exact room = (renamed (IsRun (IsPragma room)) (IsRun (IsPragma (suc room)))
    (named (reading.pragmas room) (repeated (is t.PragmaStart) one_more (way (line_piece room)) start_real (λ k e. e) []) (lines_as room)) (run_to (IsPragma room)) (run_of (IsPragma room)) (run_to (IsPragma (suc room)))).exact
