-- Functions and files are exact.
use Rattle.std.specs.Prelude.{Bool, true, false, cond, not, ◌||◌, nat_eq, nat_lt, nat_le, ◌&&◌}
use Rattle.std.specs.List.{list_all}
use Rattle.std.specs.Cmp.Lexicographic.{pointwise}
use Rattle.std.proofs.Common.{◌≡◌, ℕ, suc, List, [], ◌∷◌, ◌++◌, length, refl, sym, ◌∙◌, ap, subst, append_assoc}
use Rattle.std.proofs.lemmas.List.{append-nil}
use Rattle.ac_lex.specs.Lexemes.{Lexeme}
use Rattle.ac_lex.specs.declared.tokens.TokenKind.{TokenKind}
use Rattle.ac_lex.specs.declared.tokens.TokenKind.TheVariants as token
use Rattle.ac_parse_grammar.specs.declared.terminal.Terminal.{Terminal}
use Rattle.ac_parse_grammar.specs.declared.terminal.Terminal.TheVariants as t
use Rattle.ac_parse_grammar.specs.declared.tree.Word.{Word}
use Rattle.ac_parse_grammar.specs.declared.tree.Declared.{Declared}
use Rattle.ac_parse_grammar.specs.declared.tree.Statement.{Statement}
use Rattle.ac_parse_grammar.specs.declared.tree.Pragma.{Pragma}
use Rattle.ac_parse_grammar.specs.declared.tree.File.{File}
use Rattle.ac_parse_grammar.specs.declared.file.Function.{Function}
use Rattle.ac_parse_grammar.specs.declared.file.Body.{Body}
use Rattle.ac_parse_grammar.specs.Terminals.{terminal, terminal_by, if_spelling, look_up, marks, words}
use Rattle.ac_parse_grammar.specs.TokenWords.{word_of}
use Rattle.ac_parse_grammar.specs.ReaderCombinators.{syntax, Got, found, stopped, Reader, and_then, ◌>>=◌, ◌>>◌, pure, peek, take, is, expect, ending}
use Rattle.ac_parse_grammar.specs.Found.{Goes}
use Rattle.ac_parse_grammar.specs.Constructs.{opening}
use Rattle.ac_parse_grammar.specs.StatementsReading.{begins_statement, statement, statements}
use Rattle.ac_parse_grammar.specs.StatementsGrammar.{IsStatements, no_statement}
use Rattle.ac_parse_grammar.specs.DeclarationsReading as declarations
use Rattle.ac_parse_grammar.specs.DeclarationsReading.{begins_type}
use Rattle.ac_parse_grammar.specs.DeclarationsGrammar.{IsRun, no_item, IsParameters, no_parameter, IsDeclarations, no_declaration}
use Rattle.ac_parse_grammar.specs.PragmasReading.{pragmas}
use Rattle.ac_parse_grammar.specs.FileReading as reading
use Rattle.ac_parse_grammar.specs.FileReading.{file_of}
use Rattle.ac_parse_grammar.specs.FileGrammar as g
use Rattle.ac_parse_grammar.specs.FileGrammar.{IsPragma, IsFunction, IsFile}
use Rattle.ac_parse_grammar.proofs.Exact.{Exact, Some_of, none, nowhere, both}
use Rattle.ac_parse_grammar.proofs.Parts.{true_is, IsPure, nothing, ending_exact, same_exact}
use Rattle.ac_parse_grammar.proofs.StatementLexemes.{a_void, an_open, a_close, an_open_brace, a_close_brace, named_token}
use Rattle.ac_parse_grammar.proofs.StatementPieces.{Piece, behind, next, apart, image, mapped, marked, expected, a_word, named, renamed, made, opening_some}
use Rattle.ac_parse_grammar.proofs.StatementProductions.{name_piece}
use Rattle.ac_parse_grammar.proofs.StatementLevels.{statements_exact, braced_begun}
use Rattle.ac_parse_grammar.proofs.StatementInsides.{IsBraced, braced, braces, some_braced}
use Rattle.ac_parse_grammar.proofs.StatementLocals.{closed_parameters, IsClosedParameters, closed_parameters_of, parameters_exact, some_closed, declarations_exact, on_declarations}
use Rattle.ac_parse_grammar.proofs.StatementPragmas.{on_pragmas, pragmas_exact}

-- what is closed, and what is made of it
closed_then : {A B : Type 0} (k : Terminal) (r : Got A) (h : A → Reader B) → and_then (and_then r (λ a. expect k >> pure a)) h ≡ and_then r (λ a. expect k >> h a)
closed_then k (found a us) h = then_pure (expect k us) a h
  where
    then_pure : {L A B : Type 0} (r : Got L) (a : A) (h : A → Reader B) → and_then (and_then r (λ _. pure a)) h ≡ and_then r (λ _. h a)
    then_pure (found l us) a h = refl
    then_pure (stopped w us) a h = refl
closed_then k (stopped w us) h = refl

then_same : {A B : Type 0} (r : Got A) (f h : A → Reader B) → ((a : A) (ts : List Lexeme) → f a ts ≡ h a ts) → and_then r f ≡ and_then r h
then_same (found a ts) f h same = same a ts
then_same (stopped w ts) f h same = refl

-- ---- the body of a function

abbrev body_of : List Declared → List Statement → Body
body_of locals all = record { locals = locals; statements = all }

-- behind the opening brace
abbrev body_inside : ℕ → Reader Body
body_inside room = declarations.declarations room >>= (λ locals. statements room >>= (λ all. expect t.CloseBrace >> pure (body_of locals all)))

pub data IsBody (room : ℕ) : List Lexeme → Body → Type 0 where
  body : (d : Lexeme) {ds ss : List Lexeme} {locals : List Declared} {all : List Statement}
      → IsDeclarations room ds locals → IsStatements room ss all → terminal d ≡ t.CloseBrace → IsBody room (ds ++ (ss ++ d ∷ [])) (body_of locals all)

abbrev braces_piece : ℕ → Piece (List Statement) nowhere none
braces_piece room = record {
  read = braces (statement room);
  rel = IsBraced room;
  wide = IsBraced (suc room);
  exact = statements_exact room;
  some = some_braced (suc room);
  here = some_braced room;
  begins = λ k. begins_statement k || is t.CloseBrace k;
  begun = braced_begun room;
}

abbrev declarations_piece : ℕ → Piece (List Declared) nowhere on_declarations
declarations_piece room = made (declarations.declarations room) (IsDeclarations room) (IsDeclarations (suc room)) (declarations_exact room) ([], [], no_declaration) ([], [], no_declaration)

no_type : (k : Terminal) → (begins_statement k || is t.CloseBrace k) ≡ true → (begins_type k || false) ≡ false
unfolding is
no_type t.Const e = cc
no_type t.Int e = cc
no_type t.Long e = cc
no_type t.Float e = cc
no_type t.Double e = cc
no_type _ e = refl

abbrev any_body_piece : ℕ → Piece Body nowhere none
any_body_piece room = apart (declarations_piece room) (λ locals. mapped (body_of locals) none (braces_piece room) (λ a k. refl)) (λ a k e. no_type k e)

body_as : (room : ℕ) (ts : List Lexeme) → body_inside room ts ≡ (any_body_piece room).read ts
unfolding statements
body_as room ts = then_same (declarations.declarations room ts) _ _ (λ locals us. sym (closed_then t.CloseBrace (statements room us) (λ all. pure (body_of locals all))))

to_body : (room : ℕ) (ts : List Lexeme) (a : Body) → (any_body_piece room).rel ts a → IsBody room ts a
to_body room _ _ (both ds (image (braced d ss at))) = body d ds ss at

wide_body : (room : ℕ) (ts : List Lexeme) (a : Body) → (any_body_piece room).wide ts a → IsBody (suc room) ts a
wide_body room _ _ (both ds (image (braced d ss at))) = body d ds ss at

of_body : (room : ℕ) (ts : List Lexeme) (a : Body) → IsBody room ts a → (any_body_piece room).rel ts a
of_body room _ _ (body d ds ss at) = both ds (image (braced d ss at))

abbrev body_piece : ℕ → Piece Body nowhere none
body_piece room = renamed (IsBody room) (IsBody (suc room)) (named (body_inside room) (any_body_piece room) (body_as room)) (to_body room) (of_body room) (wide_body room)

-- ---- functions

open_real : is t.Open t.End ≡ false
unfolding is
open_real = refl

open_brace_real : is t.OpenBrace t.End ≡ false
unfolding is
open_brace_real = refl

void_real : is t.Void t.End ≡ false
unfolding is
void_real = refl

abbrev function_of : Word → List Declared → Body → Function
function_of word params inner = record { name = word; params = params; body = inner }

-- behind the opening parenthesis
abbrev function_inside : ℕ → Word → ℕ → Reader Function
function_inside room word inner = declarations.parameters inner >>= (λ params. expect t.Close >> (reading.body room >>= (λ body. pure (function_of word params body))))

pub data IsFunctionInside (room : ℕ) (word : Word) : List Lexeme → Function → Type 0 where
  function_rest : (c b d : Lexeme) {ps ds ss : List Lexeme} {params locals : List Declared} {all : List Statement}
      → IsParameters room ps params → terminal c ≡ t.Close → terminal b ≡ t.OpenBrace → IsDeclarations room ds locals → IsStatements room ss all → terminal d ≡ t.CloseBrace
      → IsFunctionInside room word (ps ++ (c ∷ b ∷ ds ++ (ss ++ d ∷ []))) (function_of word params (body_of locals all))

some_function_inside : (room : ℕ) (word : Word) → Some_of (IsFunctionInside room word)
some_function_inside room word = (
  a_close.0 ∷ an_open_brace.0 ∷ a_close_brace.0 ∷ [],
  function_of word [] (body_of [] []),
  function_rest a_close.0 an_open_brace.0 a_close_brace.0 no_parameter a_close.1 an_open_brace.1 no_declaration no_statement a_close_brace.1,
)

abbrev parameters_piece : ℕ → Piece (List Declared) nowhere none
parameters_piece room = made (closed_parameters room) (IsClosedParameters room) (IsClosedParameters (suc room)) (parameters_exact room) (some_closed (suc room)) (some_closed room)

braced_body_as : (room : ℕ) (ts : List Lexeme) → reading.body (suc room) ts ≡ (expected t.OpenBrace open_brace_real an_open_brace (λ _. body_piece room)).read ts
unfolding reading.body
braced_body_as room ts = opening_some t.OpenBrace room body_inside ts

abbrev inside_piece : ℕ → Word → Piece Function nowhere none
inside_piece room word = next (parameters_piece room) (λ params. mapped (function_of word params) none (named (reading.body (suc room)) (expected t.OpenBrace open_brace_real an_open_brace (λ _. body_piece room)) (braced_body_as room)) (λ a k. refl))

inside_as : (room : ℕ) (word : Word) (ts : List Lexeme) → function_inside (suc room) word room ts ≡ (inside_piece room word).read ts
inside_as room word ts = sym (closed_then t.Close (declarations.parameters room ts) (λ params. reading.body (suc room) >>= (λ body. pure (function_of word params body))))

to_inside : (room : ℕ) (word : Word) (ts : List Lexeme) (a : Function) → (inside_piece room word).rel ts a → IsFunctionInside room word ts a
to_inside room word _ _ (both (closed_parameters_of c {ts = ps} {all = params} p close) (image (marked {t = b} at (body d {ds = ds} {ss = ss} {locals = locals} {all = all} x y end)))) =
    subst (λ l. IsFunctionInside room word l (function_of word params (body_of locals all))) (sym (append_assoc ps (c ∷ []) (b ∷ ds ++ (ss ++ d ∷ [])))) (function_rest c b d p close at x y end)

wide_inside : (room : ℕ) (word : Word) (ts : List Lexeme) (a : Function) → (inside_piece room word).wide ts a → IsFunctionInside (suc room) word ts a
wide_inside room word _ _ (both (closed_parameters_of c {ts = ps} {all = params} p close) (image (marked {t = b} at (body d {ds = ds} {ss = ss} {locals = locals} {all = all} x y end)))) =
    subst (λ l. IsFunctionInside (suc room) word l (function_of word params (body_of locals all))) (sym (append_assoc ps (c ∷ []) (b ∷ ds ++ (ss ++ d ∷ [])))) (function_rest c b d p close at x y end)

of_inside : (room : ℕ) (word : Word) (ts : List Lexeme) (a : Function) → IsFunctionInside room word ts a → (inside_piece room word).rel ts a
of_inside room word _ _ (function_rest c b d {ps = ps} {ds = ds} {ss = ss} {params = params} {locals = locals} {all = all} p close at x y end) =
    subst (λ l. (inside_piece room word).rel l (function_of word params (body_of locals all))) (append_assoc ps (c ∷ []) (b ∷ ds ++ (ss ++ d ∷ [])))
    (both (closed_parameters_of c p close) (image (marked {t = b} at (body d x y end))))

inside_exact : (room : ℕ) (word : Word) → Exact (function_inside (suc room) word room) (IsFunctionInside room word) (IsFunctionInside (suc room) word) nowhere none
inside_exact room word = (renamed (IsFunctionInside room word) (IsFunctionInside (suc room) word) (named (function_inside (suc room) word room) (inside_piece room word) (inside_as room word))
    (to_inside room word) (of_inside room word) (wide_inside room word)).exact

abbrev function_inside_piece : ℕ → Word → Piece Function nowhere none
function_inside_piece room word = made (function_inside (suc room) word room) (IsFunctionInside room word) (IsFunctionInside (suc room) word) (inside_exact room word) (some_function_inside (suc room) word) (some_function_inside room word)

abbrev more_piece : ℕ → Piece Function nowhere none
more_piece room = expected t.Void void_real a_void (λ _. next name_piece (λ word. named (opening t.Open (suc room) >>= function_inside (suc room) word)
    (expected t.Open open_real an_open (λ _. function_inside_piece room word)) (opening_some t.Open room (function_inside (suc room) word))))

to_function : (room : ℕ) (ts : List Lexeme) (a : Function) → (more_piece room).rel ts a → IsFunction (suc room) ts a
to_function room _ _ (marked at (both (a_word n) (marked o (function_rest c b d p close brace x y end)))) = g.function c b d at n o p close brace x y end

wide_function : (room : ℕ) (ts : List Lexeme) (a : Function) → (more_piece room).wide ts a → IsFunction (suc (suc room)) ts a
wide_function room _ _ (marked at (both (a_word n) (marked o (function_rest c b d p close brace x y end)))) = g.function c b d at n o p close brace x y end

of_function : (room : ℕ) (ts : List Lexeme) (a : Function) → IsFunction (suc room) ts a → (more_piece room).rel ts a
of_function room _ _ (g.function c b d at n o p close brace x y end) = marked at (both (a_word n) (marked o (function_rest c b d p close brace x y end)))

more_as : (room : ℕ) (ts : List Lexeme) → reading.function (suc room) ts ≡ (more_piece room).read ts
unfolding reading.function
more_as room ts = refl

function_exact : (room : ℕ) → Exact (reading.function (suc room)) (IsFunction (suc room)) (IsFunction (suc (suc room))) nowhere none
function_exact room = (renamed (IsFunction (suc room)) (IsFunction (suc (suc room))) (named (reading.function (suc room)) (more_piece room) (more_as room)) (to_function room) (of_function room) (wide_function room)).exact

some_function : (room : ℕ) → Some_of (IsFunction (suc room))
some_function room = (
  a_void.0 ∷ named_token.0 ∷ an_open.0 ∷ a_close.0 ∷ an_open_brace.0 ∷ a_close_brace.0 ∷ [],
  function_of (word_of named_token.0) [] (body_of [] []),
  g.function a_close.0 an_open_brace.0 a_close_brace.0 a_void.1 named_token.1 an_open.1 no_parameter a_close.1 an_open_brace.1 no_declaration no_statement a_close_brace.1,
)

function_begun : (room : ℕ) (ts left : List Lexeme) (a : Function) → IsFunction room ts a → is t.Void (peek (ts ++ left)) ≡ true
function_begun _ _ left _ (g.function {v = v} c b d at n o p close brace x y end) = true_is t.Void (terminal v) at

-- a function, where a construct at least may open
abbrev function_piece : ℕ → Piece Function nowhere none
function_piece room = record {
  read = reading.function (suc room);
  rel = IsFunction (suc room);
  wide = IsFunction (suc (suc room));
  exact = function_exact room;
  some = some_function (suc room);
  here = some_function room;
  begins = is t.Void;
  begun = function_begun (suc room);
}

-- ---- the end

pick : (test : Terminal → Bool) (u : Bool) (a b : Terminal) → test a ≡ false → test b ≡ false → test (cond u a b) ≡ false
pick test true a b e f = e
pick test false a b e f = f

and_split : (a b : Bool) → (a && b) ≡ true → (a ≡ true) × (b ≡ true)
and_split true b e = (refl, e)
and_split false b e = cc

not_true : (b : Bool) → not b ≡ true → b ≡ false
not_true false e = refl
not_true true e = cc

off_table : (test : Terminal → Bool) (rows : List (List ℕ × Terminal)) (text : List ℕ) (otherwise : Terminal) → list_all (λ row. not (test row.1)) rows ≡ true → test otherwise ≡ false → test (look_up rows text otherwise) ≡ false
off_table test [] text otherwise all off = off
off_table test (row ∷ rows) text otherwise all off =
    let s = and_split (not (test row.1)) (list_all (λ row. not (test row.1)) rows) all in
    pick test (pointwise nat_eq text row.0) row.1 (look_up rows text otherwise) (not_true _ s.0) (off_table test rows text otherwise s.1 off)

-- no token is the end
pub not_end : (l : Lexeme) → is t.End (terminal l) ≡ false
unfolding terminal is
not_end l = by_kind l.kind
  where
    spelled : (k : Terminal) → is t.End k ≡ false → is t.End (if_spelling k l.text) ≡ false
    spelled k off = pick (is t.End) (nat_lt 0 (length l.text) && nat_le (length l.text) 64) k t.Other off refl

    by_kind : (kind : TokenKind) → is t.End (terminal_by kind l.text) ≡ false
    by_kind token.Mark = spelled _ (off_table (is t.End) marks l.text t.Other refl refl)
    by_kind token.Word = spelled _ (off_table (is t.End) words l.text t.Name refl refl)
    by_kind token.Number = refl
    by_kind token.Decimal = spelled t.Decimal refl
    by_kind token.PragmaStart = refl
    by_kind token.PragmaEnd = refl

-- the terminals that may not follow a file: all but the end
abbrev pub on_file : Goes File
on_file file k = not (is t.End k)

end_as : (a : File) (ts : List Lexeme) → and_then (expect t.End ts) (λ _. pure a) ≡ ending (on_file a) a ts
unfolding expect ending is
end_as a [] = refl
end_as a (l ∷ ts) =
    ap (λ v. and_then (cond v (take (l ∷ ts)) (stopped syntax (l ∷ ts))) (λ _. pure a)) (not_end l)
    ∙ sym (ap (λ v. cond (not v) (stopped syntax (l ∷ ts)) (found a (l ∷ ts))) (not_end l))

abbrev end_piece : (s : Terminal → Bool) → File → Piece File s on_file
end_piece s a = record {
  read = expect t.End >> pure a;
  rel = IsPure a;
  wide = IsPure a;
  exact = same_exact (expect t.End >> pure a) (end_as a) (ending_exact a s (on_file a));
  some = ([], a, nothing);
  here = ([], a, nothing);
  begins = λ k. true;
  begun = λ ts left b r. refl;
}

-- ---- files

abbrev pragmas_piece : ℕ → Piece (List Pragma) nowhere on_pragmas
pragmas_piece room = made (pragmas room) (IsRun (IsPragma room)) (IsRun (IsPragma (suc room))) (pragmas_exact room) ([], [], no_item) ([], [], no_item)

end_no_start : (k : Terminal) → not (is t.End k) ≡ false → (is t.PragmaStart k || false) ≡ false
unfolding is
end_no_start t.End e = refl
end_no_start _ e = cc

void_no_start : (k : Terminal) → is t.Void k ≡ true → (is t.PragmaStart k || false) ≡ false
unfolding is
void_no_start t.Void e = refl
void_no_start _ e = cc

end_follows : (a : File) (last : List Pragma) (ts left : List Lexeme) (b : File) → IsPure a ts b → on_file b (peek left) ≡ false → on_pragmas last (peek (ts ++ left)) ≡ false
end_follows a last _ left _ nothing end = end_no_start (peek left) end

abbrev file_piece : ℕ → Piece File nowhere on_file
file_piece room =
    apart (pragmas_piece (suc room)) (λ before.
    next (function_piece room) (λ function.
    behind (pragmas_piece (suc room)) (λ last. end_piece (on_pragmas last) (file_of before function last)) (λ last. end_follows (file_of before function last) last)))
    (λ before k e. void_no_start k e)

to_file : (room : ℕ) (ts : List Lexeme) (a : File) → (file_piece room).rel ts a → IsFile (suc room) ts a
to_file room _ _ (both {ts = bs} {a = before} b (both {ts = fs} {a = function} f (both {ts = ls} {a = last} l nothing))) =
    subst (λ l. IsFile (suc room) (bs ++ (fs ++ l)) (file_of before function last)) (sym (append-nil ls)) (g.file b f l)

wide_file : (room : ℕ) (ts : List Lexeme) (a : File) → (file_piece room).wide ts a → IsFile (suc (suc room)) ts a
wide_file room _ _ (both {ts = bs} {a = before} b (both {ts = fs} {a = function} f (both {ts = ls} {a = last} l nothing))) =
    subst (λ l. IsFile (suc (suc room)) (bs ++ (fs ++ l)) (file_of before function last)) (sym (append-nil ls)) (g.file b f l)

of_file : (room : ℕ) (ts : List Lexeme) (a : File) → IsFile (suc room) ts a → (file_piece room).rel ts a
of_file room _ _ (g.file {bs = bs} {fs = fs} {ts = ls} {before = before} {behind = last} {function = function} b f l) =
    subst (λ l. (file_piece room).rel (bs ++ (fs ++ l)) (file_of before function last)) (append-nil ls) (both b (both f (both l nothing)))

file_as : (room : ℕ) (ts : List Lexeme) → reading.file (suc room) ts ≡ (file_piece room).read ts
unfolding reading.file
file_as room ts = refl

pub file_exact : (room : ℕ) → Exact (reading.file (suc room)) (IsFile (suc room)) (IsFile (suc (suc room))) nowhere on_file
file_exact room = (renamed (IsFile (suc room)) (IsFile (suc (suc room))) (named (reading.file (suc room)) (file_piece room) (file_as room)) (to_file room) (of_file room) (wide_file room)).exact

pub some_file : (room : ℕ) → Some_of (IsFile (suc room))
some_file room = let s = (file_piece room).here in (s.0, s.1, to_file room s.0 s.1 s.2)
