-- Parameters and locals are exact.
use Rattle.std.specs.Prelude.{Bool, true, false, cond, not, ◌||◌}
use Rattle.std.proofs.Common.{◌≡◌, ℕ, suc, List, [], ◌∷◌, ◌++◌, refl, sym, ◌∙◌, ap, subst, append_assoc}
use Rattle.std.proofs.lemmas.List.{append-nil}
use Rattle.ac_lex.specs.Lexemes.{Lexeme}
use Rattle.ac_parse_grammar.specs.declared.terminal.Terminal.{Terminal}
use Rattle.ac_parse_grammar.specs.declared.terminal.Terminal.TheVariants as t
use Rattle.ac_parse_grammar.specs.declared.tree.Extent.{Extent}
use Rattle.ac_parse_grammar.specs.declared.tree.Declared.{Declared}
use Rattle.ac_parse_grammar.specs.Terminals.{terminal}
use Rattle.ac_parse_grammar.specs.TokenWords.{word_of}
use Rattle.ac_parse_grammar.specs.ReaderCombinators.{syntax, found, stopped, Reader, and_then, ◌>>=◌, ◌>>◌, pure, peek, front, rest, is, expect, many}
use Rattle.ac_parse_grammar.specs.Found.{Rel, Goes}
use Rattle.ac_parse_grammar.specs.DeclarationsReading as reading
use Rattle.ac_parse_grammar.specs.DeclarationsReading.{list, begins_type, extents, parameters_by}
use Rattle.ac_parse_grammar.specs.DeclarationsGrammar as g
use Rattle.ac_parse_grammar.specs.DeclarationsGrammar.{IsRun, no_item, IsList, items, IsType, IsExtent, IsDeclared, declared, IsParameter, parameter, IsParameters, IsDeclaration, declaration, IsDeclarations}
use Rattle.ac_parse_grammar.proofs.Exact.{Exact, Some_of, none, nowhere, both}
use Rattle.ac_parse_grammar.proofs.Parts.{is_true, true_is, nothing, token, one, other}
use Rattle.ac_parse_grammar.proofs.Many.{IsMany, no_more, one_more}
use Rattle.ac_parse_grammar.proofs.StatementLexemes.{a_close, a_semicolon, a_void, named_token}
use Rattle.ac_parse_grammar.proofs.StatementPieces.{Piece, way, at_any, next, value, passed, either, image, mapped, marked, expected, before, a_word, named, renamed, made, repeated}
use Rattle.ac_parse_grammar.proofs.StatementProductions.{name_piece}
use Rattle.ac_parse_grammar.proofs.StatementDeclarations.{run_to, run_of, on_bracket, on_list, list_exact, type_piece, one_extent_piece, bracket_real}

-- ---- extents and declared names

or_false : (b : Bool) → b ≡ (b || false)
or_false true = refl
or_false false = refl

extents_as : (room : ℕ) (ts : List Lexeme) → extents room ts ≡ many (is t.OpenBracket) reading.one_more (reading.extent room) [] ts
unfolding extents
extents_as room ts = refl

abbrev extents_piece : ℕ → Piece (List Extent) nowhere (λ all k. is t.OpenBracket k || none all k)
extents_piece room = renamed (IsRun (IsExtent room)) (IsRun (IsExtent (suc room)))
    (named (extents room) (repeated (is t.OpenBracket) reading.one_more (one_extent_piece room) bracket_real (λ k e. e) []) (extents_as room))
    (run_to (IsExtent room)) (run_of (IsExtent room)) (run_to (IsExtent (suc room)))

abbrev declared_as : Bool → Lexeme → List Extent → Declared
declared_as whole n extents = record { whole = whole; name = word_of n; extents = extents }

abbrev any_declared_piece : ℕ → Bool → Piece Declared nowhere on_bracket
any_declared_piece room whole = next name_piece (λ word. mapped (λ extents. record { whole = whole; name = word; extents = extents }) on_bracket (extents_piece room) (λ a k. or_false (is t.OpenBracket k)))

to_declared : (room : ℕ) (whole : Bool) (ts : List Lexeme) (a : Declared) → (any_declared_piece room whole).rel ts a → IsDeclared whole room ts a
to_declared room whole _ _ (both (a_word n) (image es)) = declared n es

wide_declared : (room : ℕ) (whole : Bool) (ts : List Lexeme) (a : Declared) → (any_declared_piece room whole).wide ts a → IsDeclared whole (suc room) ts a
wide_declared room whole _ _ (both (a_word n) (image es)) = declared n es

of_declared : (room : ℕ) (whole : Bool) (ts : List Lexeme) (a : Declared) → IsDeclared whole room ts a → (any_declared_piece room whole).rel ts a
of_declared room whole _ _ (declared n es) = both (a_word n) (image es)

declared_is : (room : ℕ) (whole : Bool) (ts : List Lexeme) → reading.declared room whole ts ≡ (any_declared_piece room whole).read ts
unfolding reading.declared
declared_is room whole ts = refl

pub declared_exact : (room : ℕ) (whole : Bool) → Exact (reading.declared room whole) (IsDeclared whole room) (IsDeclared whole (suc room)) nowhere on_bracket
declared_exact room whole = (renamed (IsDeclared whole room) (IsDeclared whole (suc room)) (named (reading.declared room whole) (any_declared_piece room whole) (declared_is room whole))
    (to_declared room whole) (of_declared room whole) (wide_declared room whole)).exact

some_declared : (room : ℕ) (whole : Bool) → Some_of (IsDeclared whole room)
some_declared room whole = (named_token.0 ∷ [], declared_as whole named_token.0 [], declared named_token.1 no_item)

abbrev declared_piece : ℕ → Bool → Piece Declared nowhere on_bracket
declared_piece room whole = made (reading.declared room whole) (IsDeclared whole room) (IsDeclared whole (suc room)) (declared_exact room whole) (some_declared (suc room) whole) (some_declared room whole)

-- ---- parameters

abbrev any_parameter_piece : ℕ → Piece Declared nowhere on_bracket
any_parameter_piece room = next type_piece (λ whole. declared_piece room whole)

to_parameter : (room : ℕ) (ts : List Lexeme) (a : Declared) → (any_parameter_piece room).rel ts a → IsParameter room ts a
to_parameter room _ a (both w d) = parameter w d

wide_parameter : (room : ℕ) (ts : List Lexeme) (a : Declared) → (any_parameter_piece room).wide ts a → IsParameter (suc room) ts a
wide_parameter room _ a (both w d) = parameter w d

of_parameter : (room : ℕ) (ts : List Lexeme) (a : Declared) → IsParameter room ts a → (any_parameter_piece room).rel ts a
of_parameter room _ a (parameter w d) = both w d

parameter_as : (room : ℕ) (ts : List Lexeme) → reading.parameter room ts ≡ (any_parameter_piece room).read ts
unfolding reading.parameter
parameter_as room ts = refl

abbrev parameter_piece : ℕ → Piece Declared nowhere on_bracket
parameter_piece room = renamed (IsParameter room) (IsParameter (suc room)) (named (reading.parameter room) (any_parameter_piece room) (parameter_as room)) (to_parameter room) (of_parameter room) (wide_parameter room)

parameter_begun : (room : ℕ) (ts left : List Lexeme) (a : Declared) → IsParameter room ts a → begins_type (peek (ts ++ left)) ≡ true
parameter_begun room ts left a r = (any_parameter_piece room).begun ts left a (of_parameter room ts a r)

list_begun : {A : Type 0} (Item : Rel A) (begins : Terminal → Bool) → ((ts left : List Lexeme) (a : A) → Item ts a → begins (peek (ts ++ left)) ≡ true)
    → (ts left : List Lexeme) (all : List A) → IsList Item ts all → begins (peek (ts ++ left)) ≡ true
list_begun Item begins begun _ left _ (items {ts = ts} {us = us} i rest) = ap (λ l. begins (peek l)) (append_assoc ts us left) ∙ begun ts (us ++ left) _ i

some_parameters : (room : ℕ) → Some_of (IsList (IsParameter room))
some_parameters room = let s = (parameter_piece room).some in let p = type_piece.some in let d = some_declared room p.1 in
    ((p.0 ++ d.0) ++ [], d.1 ∷ [], items (parameter p.2 d.2) no_item)

abbrev parameter_list_piece : ℕ → Piece (List Declared) nowhere on_list
parameter_list_piece room = record {
  read = list (reading.parameter room);
  rel = IsList (IsParameter room);
  wide = IsList (IsParameter (suc room));
  exact = list_exact (reading.parameter room) (IsParameter room) (IsParameter (suc room)) (parameter_piece room).exact (parameter_piece room).some (parameter_piece room).here;
  some = some_parameters (suc room);
  here = some_parameters room;
  begins = begins_type;
  begun = list_begun (IsParameter room) begins_type (parameter_begun room);
}

-- parameters and the closing parenthesis
abbrev pub closed_parameters : ℕ → Reader (List Declared)
closed_parameters room = reading.parameters room >>= (λ all. expect t.Close >> pure all)

pub data IsClosedParameters (room : ℕ) : List Lexeme → List Declared → Type 0 where
  closed_parameters_of : (c : Lexeme) {ts : List Lexeme} {all : List Declared} → IsParameters room ts all → terminal c ≡ t.Close → IsClosedParameters room (ts ++ c ∷ []) all

close_real : is t.Close t.End ≡ false
unfolding is
close_real = refl

void_real : is t.Void t.End ≡ false
unfolding is
void_real = refl

close_is : is t.Close (terminal a_close.0) ≡ true
close_is = true_is t.Close (terminal a_close.0) a_close.1

void_is : is t.Void (terminal a_void.0) ≡ true
void_is = true_is t.Void (terminal a_void.0) a_void.1

close_ends : {A : Type 0} (a : A) → on_list a t.Close ≡ false
unfolding is
close_ends a = refl

type_no_void : (k : Terminal) → begins_type k ≡ true → is t.Void k ≡ false
unfolding is
type_no_void t.Void e = cc
type_no_void _ e = refl

no_close : (k : Terminal) → (is t.Void k || begins_type k) ≡ true → is t.Close k ≡ false
unfolding is
no_close t.Close e = cc
no_close _ e = refl

abbrev listed_piece : ℕ → Piece (List Declared) nowhere none
listed_piece room = before (parameter_list_piece room) t.Close close_real a_close close_ends (λ all. value all)

abbrev by_void : ℕ → Piece (List Declared) nowhere none
by_void room = either (is t.Void) (way (passed (is t.Void) void_real (a_void.0, void_is) (λ _. expected t.Close close_real a_close (λ _. value [])))) (listed_piece room)
    (λ k e. e) (λ ts left a r end. type_no_void _ ((listed_piece room).begun ts left a r))

abbrev any_parameters_piece : ℕ → Piece (List Declared) nowhere none
any_parameters_piece room = either (is t.Close) (way (passed (is t.Close) close_real (a_close.0, close_is) (λ _. value []))) (by_void room)
    (λ k e. e) (λ ts left a r end. no_close _ ((by_void room).begun ts left a r))

closed_as : (room : ℕ) (ts : List Lexeme) → closed_parameters room ts ≡ (any_parameters_piece room).read ts
unfolding reading.parameters expect is
closed_as room ts = by_head (peek ts) refl
  where
    by_head : (k : Terminal) → peek ts ≡ k → and_then (parameters_by room k ts) (λ all. expect t.Close >> pure all)
        ≡ cond (is t.Close k) (found [] (rest ts)) (cond (is t.Void k) (and_then (expect t.Close (rest ts)) (λ _. pure [])) (and_then (list (reading.parameter room) ts) (λ all. expect t.Close >> pure all)))
    by_head t.Close at = ap (λ k. and_then (cond (is t.Close k) (found (front ts) (rest ts)) (stopped syntax ts)) (λ _. pure [])) at
    by_head t.Void at = refl
    by_head _ at = refl

to_closed : (room : ℕ) (ts : List Lexeme) (a : List Declared) → (any_parameters_piece room).rel ts a → IsClosedParameters room ts a
to_closed room _ _ (one (token {t = c} at nothing)) = closed_parameters_of c g.no_parameter (is_true t.Close (terminal c) at)
to_closed room _ _ (other (one (token {t = v} at (marked {t = c} close nothing)))) = closed_parameters_of c (g.void (is_true t.Void (terminal v) at)) close
to_closed room _ _ (other (other (both ps (marked {t = c} close nothing)))) = closed_parameters_of c (g.parameters ps) close

wide_closed : (room : ℕ) (ts : List Lexeme) (a : List Declared) → (any_parameters_piece room).wide ts a → IsClosedParameters (suc room) ts a
wide_closed room _ _ (one (token {t = c} at nothing)) = closed_parameters_of c g.no_parameter (is_true t.Close (terminal c) at)
wide_closed room _ _ (other (one (token {t = v} at (marked {t = c} close nothing)))) = closed_parameters_of c (g.void (is_true t.Void (terminal v) at)) close
wide_closed room _ _ (other (other (both ps (marked {t = c} close nothing)))) = closed_parameters_of c (g.parameters ps) close

of_closed : (room : ℕ) (ts : List Lexeme) (a : List Declared) → IsClosedParameters room ts a → (any_parameters_piece room).rel ts a
of_closed room _ _ (closed_parameters_of c g.no_parameter close) = one (token (true_is t.Close (terminal c) close) nothing)
of_closed room _ _ (closed_parameters_of c (g.void {v = v} at) close) = other (one (token (true_is t.Void (terminal v) at) (marked close nothing)))
of_closed room _ _ (closed_parameters_of c (g.parameters ps) close) = other (other (both ps (marked close nothing)))

pub parameters_exact : (room : ℕ) → Exact (closed_parameters room) (IsClosedParameters room) (IsClosedParameters (suc room)) nowhere none
parameters_exact room = (renamed (IsClosedParameters room) (IsClosedParameters (suc room)) (named (closed_parameters room) (any_parameters_piece room) (closed_as room)) (to_closed room) (of_closed room) (wide_closed room)).exact

pub some_closed : (room : ℕ) → Some_of (IsClosedParameters room)
some_closed room = (a_close.0 ∷ [], [], closed_parameters_of a_close.0 g.no_parameter a_close.1)

-- ---- locals

semicolon_real : is t.Semicolon t.End ≡ false
unfolding is
semicolon_real = refl

semicolon_ends : {A : Type 0} (a : A) → on_list a t.Semicolon ≡ false
unfolding is
semicolon_ends a = refl

some_declared_list : (room : ℕ) (whole : Bool) → Some_of (IsList (IsDeclared whole room))
some_declared_list room whole = let d = some_declared room whole in (d.0 ++ [], d.1 ∷ [], items d.2 no_item)

abbrev declared_list_piece : ℕ → Bool → Piece (List Declared) nowhere on_list
declared_list_piece room whole = made (list (reading.declared room whole)) (IsList (IsDeclared whole room)) (IsList (IsDeclared whole (suc room)))
    (list_exact (reading.declared room whole) (IsDeclared whole room) (IsDeclared whole (suc room)) (declared_exact room whole) (some_declared (suc room) whole) (some_declared room whole)) (some_declared_list (suc room) whole) (some_declared_list room whole)

abbrev any_declaration_piece : ℕ → Piece (List Declared) nowhere none
any_declaration_piece room = next type_piece (λ whole. before (declared_list_piece room whole) t.Semicolon semicolon_real a_semicolon semicolon_ends (λ all. value all))

to_declaration : (room : ℕ) (ts : List Lexeme) (a : List Declared) → (any_declaration_piece room).rel ts a → IsDeclaration room ts a
to_declaration room _ _ (both w (both ds (marked {t = c} at nothing))) = declaration c w ds at

wide_declaration : (room : ℕ) (ts : List Lexeme) (a : List Declared) → (any_declaration_piece room).wide ts a → IsDeclaration (suc room) ts a
wide_declaration room _ _ (both w (both ds (marked {t = c} at nothing))) = declaration c w ds at

of_declaration : (room : ℕ) (ts : List Lexeme) (a : List Declared) → IsDeclaration room ts a → (any_declaration_piece room).rel ts a
of_declaration room _ _ (declaration c w ds at) = both w (both ds (marked {t = c} at nothing))

declaration_as : (room : ℕ) (ts : List Lexeme) → reading.declaration room ts ≡ (any_declaration_piece room).read ts
unfolding reading.declaration
declaration_as room ts = refl

abbrev declaration_piece : ℕ → Piece (List Declared) nowhere none
declaration_piece room = renamed (IsDeclaration room) (IsDeclaration (suc room)) (named (reading.declaration room) (any_declaration_piece room) (declaration_as room)) (to_declaration room) (of_declaration room) (wide_declaration room)

to_many : (room : ℕ) {x y : List Declared} {ts : List Lexeme} → IsMany ◌++◌ (IsDeclaration room) x ts y → (more : List Declared) × (y ≡ x ++ more) × IsDeclarations room ts more
to_many room {x = x} no_more = ([], sym (append-nil x), g.no_declaration)
to_many room {x = x} (one_more {b = b} i more) = let r = to_many room more in (b ++ r.0, r.1 ∙ append_assoc x b r.0, g.a_declaration i r.2)

of_many : (room : ℕ) (x : List Declared) {ts : List Lexeme} {more : List Declared} → IsDeclarations room ts more → IsMany ◌++◌ (IsDeclaration room) x ts (x ++ more)
of_many room x g.no_declaration = subst (λ y. IsMany ◌++◌ (IsDeclaration room) x [] y) (sym (append-nil x)) no_more
of_many room x (g.a_declaration {ts = ts} {us = us} {first = first} {more = more} i rest) =
    subst (λ y. IsMany ◌++◌ (IsDeclaration room) x (ts ++ us) y) (append_assoc x first more) (one_more i (of_many room (x ++ first) rest))

to_declarations : (room : ℕ) (ts : List Lexeme) (all : List Declared) → IsMany ◌++◌ (IsDeclaration room) [] ts all → IsDeclarations room ts all
to_declarations room ts all m = let r = to_many room m in subst (λ l. IsDeclarations room ts l) (sym r.1) r.2

of_declarations : (room : ℕ) (ts : List Lexeme) (all : List Declared) → IsDeclarations room ts all → IsMany ◌++◌ (IsDeclaration room) [] ts all
of_declarations room ts all r = of_many room [] r

abbrev pub on_declarations : Goes (List Declared)
on_declarations all k = begins_type k || none all k

declarations_as : (room : ℕ) (ts : List Lexeme) → reading.declarations room ts ≡ many begins_type ◌++◌ (reading.declaration room) [] ts
unfolding reading.declarations
declarations_as room ts = refl

pub declarations_exact : (room : ℕ) → Exact (reading.declarations room) (IsDeclarations room) (IsDeclarations (suc room)) nowhere on_declarations
declarations_exact room = (renamed (IsDeclarations room) (IsDeclarations (suc room))
    (named (reading.declarations room) (repeated begins_type ◌++◌ (way (at_any (λ k. not (begins_type k)) (declaration_piece room))) refl (λ k e. e) []) (declarations_as room))
    (to_declarations room) (of_declarations room) (to_declarations (suc room))).exact
