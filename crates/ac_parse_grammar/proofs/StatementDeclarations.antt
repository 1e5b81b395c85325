-- The productions of declarations are exact.
use Rattle.std.specs.Prelude.{Bool, true, false, cond, not, Some, ◌||◌}
use Rattle.std.proofs.Common.{◌≡◌, ℕ, zero, suc, List, [], ◌∷◌, ◌++◌, refl, sym, ◌∙◌, ap, subst, append_assoc}
use Rattle.std.proofs.lemmas.List.{append-nil}
use Rattle.ac_lex.specs.Lexemes.{Lexeme}
use Rattle.ac_parse_grammar.specs.declared.terminal.Terminal.{Terminal}
use Rattle.ac_parse_grammar.specs.declared.terminal.Terminal.TheVariants as t
use Rattle.ac_parse_grammar.specs.declared.tree.Expr.{Expr}
use Rattle.ac_parse_grammar.specs.declared.tree.Extent.{Extent}
use Rattle.ac_parse_grammar.specs.Terminals.{terminal}
use Rattle.ac_parse_grammar.specs.TokenWords.{place_of}
use Rattle.ac_parse_grammar.specs.ReaderCombinators.{Reader, pure, peek, rest, is, repeat}
use Rattle.ac_parse_grammar.specs.Found.{Rel, Goes}
use Rattle.ac_parse_grammar.specs.Expressions.{comma_of, goes_on}
use Rattle.ac_parse_grammar.specs.Grammar.{IsExpr}
use Rattle.ac_parse_grammar.specs.DeclarationsReading as reading
use Rattle.ac_parse_grammar.specs.DeclarationsReading.{joined_by_comma, list, numbers, numbers_by, scalar, scalar_by, begins_type, extent, extents, parameters_by}
use Rattle.ac_parse_grammar.specs.DeclarationsGrammar as g
use Rattle.ac_parse_grammar.specs.DeclarationsGrammar.{IsRun, no_item, an_item, IsNext, next_item, IsList, items, numbers_of, IsType, plain, constant, IsExtent, IsDeclared, declared, IsParameter, parameter, IsParameters, IsDeclaration, declaration, IsDeclarations}
use Rattle.ac_parse_grammar.proofs.Exact.{Exact, Some_of, none, nowhere, IsThen, both}
use Rattle.ac_parse_grammar.proofs.Parts.{is_true, true_is, IsNothing, IsPure, nothing, token, limit_exact, one, other, equal_exact, marks_of}
use Rattle.ac_parse_grammar.proofs.Many.{IsMany, no_more, one_more}
use Rattle.ac_parse_grammar.proofs.Repeats.{has, linked, IsRepeat, repeat_exact, repeat_next}
use Rattle.ac_parse_grammar.proofs.ReadExpressions.{some_expr_at}
use Rattle.ac_parse_grammar.proofs.StatementGiven.{expr_piece}
use Rattle.ac_parse_grammar.proofs.StatementLexemes.{an_int, a_const, an_open_bracket, a_close_bracket, a_comma}
use Rattle.ac_parse_grammar.proofs.StatementPieces.{Piece, Way, way, behind, value, passed, either, IsMarked, marked, before, valued_at, a_value, by_value, named, renamed, at_test}

-- ---- repetitions as lists

to_run : {A : Type 0} (Item : Rel A) {x y : List A} {ts : List Lexeme} → IsMany reading.one_more Item x ts y → (more : List A) × (y ≡ x ++ more) × IsRun Item ts more
to_run Item {x = x} no_more = ([], sym (append-nil x), no_item)
to_run Item {x = x} (one_more {b = b} i more) = let r = to_run Item more in (b ∷ r.0, r.1 ∙ append_assoc x (b ∷ []) r.0, an_item i r.2)

of_run : {A : Type 0} (Item : Rel A) (x : List A) {ts : List Lexeme} {more : List A} → IsRun Item ts more → IsMany reading.one_more Item x ts (x ++ more)
of_run Item x no_item = subst (λ y. IsMany reading.one_more Item x [] y) (sym (append-nil x)) no_more
of_run Item x (an_item {ts = ts} {us = us} {first = first} {more = more} i rest) =
    subst (λ y. IsMany reading.one_more Item x (ts ++ us) y) (append_assoc x (first ∷ []) more) (one_more i (of_run Item (x ++ first ∷ []) rest))

-- { item } from the empty list
pub run_to : {A : Type 0} (Item : Rel A) (ts : List Lexeme) (all : List A) → IsMany reading.one_more Item [] ts all → IsRun Item ts all
run_to Item ts all m = let r = to_run Item m in subst (λ l. IsRun Item ts l) (sym r.1) r.2

pub run_of : {A : Type 0} (Item : Rel A) (ts : List Lexeme) (all : List A) → IsRun Item ts all → IsMany reading.one_more Item [] ts all
run_of Item ts all r = of_run Item [] r

is_comma : (k : Terminal) (o : Unit {0}) → comma_of k ≡ Some o → k ≡ t.Comma
is_comma t.Comma o e = refl
is_comma _ o e = cc

comma_is : (k : Terminal) → k ≡ t.Comma → comma_of k ≡ Some tt
comma_is k e = ap comma_of e

to_tail : {A : Type 0} (Item : Rel A) {x y : List A} {ts : List Lexeme} → IsRepeat comma_of joined_by_comma Item x ts y → (more : List A) × (y ≡ x ++ more) × IsRun (IsNext Item) ts more
to_tail Item {x = x} no_more = ([], sym (append-nil x), no_item)
to_tail Item {x = x} (one_more (linked {t = c} {o = o} {b = b} at i) more) =
    let r = to_tail Item more in (b ∷ r.0, r.1 ∙ append_assoc x (b ∷ []) r.0, an_item (next_item (is_comma (terminal c) o at) i) r.2)

of_tail : {A : Type 0} (Item : Rel A) (x : List A) {ts : List Lexeme} {more : List A} → IsRun (IsNext Item) ts more → IsRepeat comma_of joined_by_comma Item x ts (x ++ more)
of_tail Item x no_item = subst (λ y. IsRepeat comma_of joined_by_comma Item x [] y) (sym (append-nil x)) no_more
of_tail Item x (an_item {us = us} {more = more} (next_item {comma = c} {ts = ts} {item = b} at i) rest) =
    subst (λ y. IsRepeat comma_of joined_by_comma Item x (c ∷ ts ++ us) y) (append_assoc x (b ∷ []) more) (one_more (linked {o = tt} (comma_is (terminal c) at) i) (of_tail Item (x ++ b ∷ []) rest))

-- ---- lists of declared names

abbrev pub on_bracket : {A : Type 0} → Goes A
on_bracket a k = is t.OpenBracket k

abbrev pub on_list : {A : Type 0} → Goes A
on_list a k = has (comma_of k) || is t.OpenBracket k

comma_no_bracket : (k : Terminal) → has (comma_of k) ≡ true → is t.OpenBracket k ≡ false
unfolding is
comma_no_bracket t.Comma e = refl
comma_no_bracket _ e = cc

a_comma_is : comma_of (terminal a_comma.0) ≡ Some tt
a_comma_is = ap comma_of a_comma.1

module _ {A : Type 0} (item : Reader A) (Item V : Rel A) (exact : Exact item Item V nowhere on_bracket) (some : Some_of V) (here : Some_of Item) where
  list_then : Exact (list item) (IsThen Item (λ first. IsRepeat comma_of joined_by_comma Item (first ∷ []))) (IsThen V (λ first. IsRepeat comma_of joined_by_comma V (first ∷ []))) nowhere on_list
  unfolding list
  list_then = (behind (record { read = item; rel = Item; wide = V; exact = exact; some = some; here = here; begins = λ k. true; begun = λ ts left a r. refl })
      (λ first. record {
        read = repeat comma_of joined_by_comma item (first ∷ []);
        rel = IsRepeat comma_of joined_by_comma Item (first ∷ []);
        wide = IsRepeat comma_of joined_by_comma V (first ∷ []);
        exact = repeat_exact comma_of joined_by_comma item Item V on_bracket on_bracket exact some here refl a_comma.0 tt a_comma_is (λ x o b k. refl) (λ b. comma_no_bracket) (first ∷ []);
        some = ([], first ∷ [], no_more);
        here = ([], first ∷ [], no_more);
        begins = λ k. true;
        begun = λ ts left a r. refl;
      })
      (λ first ts left b r end. repeat_next comma_of joined_by_comma item Item V on_bracket on_bracket exact some here refl a_comma.0 tt a_comma_is (λ x o b k. refl) (λ b. comma_no_bracket) ts left r end
      (λ k. is t.OpenBracket k) (λ k e. e) comma_no_bracket)).exact

to_list : {A : Type 0} (Item : Rel A) (ts : List Lexeme) (all : List A) → IsThen Item (λ first. IsRepeat comma_of joined_by_comma Item (first ∷ [])) ts all → IsList Item ts all
to_list Item _ all (both {ts = ts} {us = us} {a = first} i rest) = let r = to_tail Item rest in subst (λ l. IsList Item (ts ++ us) l) (sym r.1) (items i r.2)

of_list : {A : Type 0} (Item : Rel A) (ts : List Lexeme) (all : List A) → IsList Item ts all → IsThen Item (λ first. IsRepeat comma_of joined_by_comma Item (first ∷ [])) ts all
of_list Item _ _ (items {first = first} i rest) = both i (of_tail Item (first ∷ []) rest)

pub list_exact : {A : Type 0} (item : Reader A) (Item V : Rel A) → Exact item Item V nowhere on_bracket → Some_of V → Some_of Item → Exact (list item) (IsList Item) (IsList V) nowhere on_list
list_exact item Item V exact some here = equal_exact (IsList Item) (IsList V) (to_list Item) (of_list Item) (to_list V) (list_then item Item V exact some here)

-- ---- types

pub int_is : numbers_of (terminal an_int.0) ≡ Some true
int_is = ap numbers_of an_int.1

const_is : is t.Const (terminal a_const.0) ≡ true
const_is = true_is t.Const (terminal a_const.0) a_const.1

const_real : is t.Const t.End ≡ false
unfolding is
const_real = refl

numbers_no_const : (k : Terminal) → has (numbers_of k) ≡ true → is t.Const k ≡ false
unfolding is
numbers_no_const t.Const e = cc
numbers_no_const _ e = refl

abbrev numbers_piece : Piece Bool nowhere none
numbers_piece = by_value numbers_of refl true an_int.0 int_is (λ whole _. value whole)

numbers_as : (ts : List Lexeme) → numbers ts ≡ numbers_piece.read ts
unfolding numbers
numbers_as ts = by_head (peek ts)
  where
    by_head : (k : Terminal) → numbers_by k ts ≡ valued_at (λ whole _. pure whole) (numbers_of k) ts
    by_head t.Int = refl
    by_head t.Long = refl
    by_head t.Float = refl
    by_head t.Double = refl
    by_head _ = refl

abbrev any_type_piece : Piece Bool nowhere none
any_type_piece = either (is t.Const) (way (passed (is t.Const) const_real (a_const.0, const_is) (λ _. named numbers numbers_piece numbers_as))) (named numbers numbers_piece numbers_as)
    (λ k e. e) (λ ts left a r end. numbers_no_const _ (numbers_piece.begun ts left a r))

type_as : (ts : List Lexeme) → scalar ts ≡ any_type_piece.read ts
unfolding scalar is
type_as ts = by_head (peek ts)
  where
    by_head : (k : Terminal) → scalar_by k ts ≡ cond (is t.Const k) (numbers (rest ts)) (numbers ts)
    by_head t.Const = refl
    by_head _ = refl

to_type : (ts : List Lexeme) (a : Bool) → any_type_piece.rel ts a → IsType ts a
to_type _ _ (one (token {t = c} at (a_value w nothing))) = constant (is_true t.Const (terminal c) at) w
to_type _ _ (other (a_value w nothing)) = plain w

of_type : (ts : List Lexeme) (a : Bool) → IsType ts a → any_type_piece.rel ts a
of_type _ _ (constant {c = c} at w) = one (token (true_is t.Const (terminal c) at) (a_value w nothing))
of_type _ _ (plain w) = other (a_value w nothing)

pub type_exact : Exact scalar IsType IsType nowhere none
type_exact = (renamed IsType IsType (named scalar any_type_piece type_as) to_type of_type to_type).exact

abbrev begins_a_type : Terminal → Bool
begins_a_type k = is t.Const k || has (numbers_of k)

type_begins : (k : Terminal) → begins_a_type k ≡ true → begins_type k ≡ true
unfolding is
type_begins t.Const e = refl
type_begins t.Int e = refl
type_begins t.Long e = refl
type_begins t.Float e = refl
type_begins t.Double e = refl
type_begins _ e = cc

numbers_begin : (k : Terminal) → has (numbers_of k) ≡ true → begins_type k ≡ true
numbers_begin t.Int e = refl
numbers_begin t.Long e = refl
numbers_begin t.Float e = refl
numbers_begin t.Double e = refl
numbers_begin _ e = cc

pub type_begun : (ts left : List Lexeme) (a : Bool) → IsType ts a → begins_type (peek (ts ++ left)) ≡ true
type_begun _ left a (plain {w = w} at) = numbers_begin (terminal w) (ap has at)
type_begun _ left a (constant at w) = ap begins_type at

abbrev pub type_piece : Piece Bool nowhere none
type_piece = record { read = scalar; rel = IsType; wide = IsType; exact = type_exact; some = (an_int.0 ∷ [], true, plain int_is); here = (an_int.0 ∷ [], true, plain int_is); begins = begins_type; begun = type_begun }

-- ---- extents

pub bracket_real : is t.OpenBracket t.End ≡ false
unfolding is
bracket_real = refl

close_bracket_real : is t.CloseBracket t.End ≡ false
unfolding is
close_bracket_real = refl

bracket_is : is t.OpenBracket (terminal an_open_bracket.0) ≡ true
bracket_is = true_is t.OpenBracket (terminal an_open_bracket.0) an_open_bracket.1

close_bracket_ends : goes_on t.CloseBracket ≡ false
close_bracket_ends = refl

abbrev extent_of : Expr → Lexeme → Extent
extent_of size bracket = record { size = size; place = place_of bracket }

abbrev extent_inside : ℕ → Lexeme → Piece Extent nowhere none
extent_inside room bracket = before (expr_piece room) t.CloseBracket close_bracket_real a_close_bracket (λ _. close_bracket_ends) (λ size. value (extent_of size bracket))

abbrev extent_piece : ℕ → Piece Extent (λ k. not (is t.OpenBracket k)) none
extent_piece room = passed (is t.OpenBracket) bracket_real (an_open_bracket.0, bracket_is) (extent_inside room)

to_extent : (room : ℕ) (ts : List Lexeme) (a : Extent) → (extent_piece room).rel ts a → IsExtent (suc room) ts a
to_extent room _ _ (token {t = o} at (both size (marked {t = c} close nothing))) = g.extent c (is_true t.OpenBracket (terminal o) at) size close

wide_extent : (room : ℕ) (ts : List Lexeme) (a : Extent) → (extent_piece room).wide ts a → IsExtent (suc (suc room)) ts a
wide_extent room _ _ (token {t = o} at (both size (marked {t = c} close nothing))) = g.extent c (is_true t.OpenBracket (terminal o) at) size close

of_extent : (room : ℕ) (ts : List Lexeme) (a : Extent) → IsExtent (suc room) ts a → (extent_piece room).rel ts a
of_extent room _ _ (g.extent {o = o} c at size close) = token (true_is t.OpenBracket (terminal o) at) (both size (marked {t = c} close nothing))

pub some_extent : (room : ℕ) → Some_of (IsExtent (suc room))
some_extent room = let e = some_expr_at room in (an_open_bracket.0 ∷ e.0 ++ a_close_bracket.0 ∷ [], extent_of e.1 an_open_bracket.0, g.extent a_close_bracket.0 an_open_bracket.1 e.2 a_close_bracket.1)

some_inside : (bracket : Lexeme) → Some_of (IsThen (IsExpr zero) (λ size. IsMarked t.CloseBracket (λ _. IsPure (extent_of size bracket))))
some_inside bracket = let e = some_expr_at zero in (e.0 ++ a_close_bracket.0 ∷ [], extent_of e.1 bracket, both e.2 (marked a_close_bracket.1 nothing))

no_extent : (ts : List Lexeme) (a : Extent) → IsExtent zero ts a → IsNothing ts a
no_extent ts a r = elim r [ ]

pub extent_exact : (room : ℕ) → Exact (extent room) (IsExtent room) (IsExtent (suc room)) (λ k. not (is t.OpenBracket k)) none
unfolding extent
extent_exact zero = equal_exact (IsExtent zero) (IsExtent (suc zero)) (λ ts a r. elim r [ ]) no_extent (to_extent zero)
    (limit_exact (is t.OpenBracket) (λ bracket. IsThen (IsExpr zero) (λ size. IsMarked t.CloseBracket (λ _. IsPure (extent_of size bracket)))) none bracket_real (marks_of t.OpenBracket refl) some_inside)
extent_exact (suc room) = (renamed (IsExtent (suc room)) (IsExtent (suc (suc room))) (extent_piece room) (to_extent room) (of_extent room) (wide_extent room)).exact

pub extent_begun : (room : ℕ) (ts left : List Lexeme) (a : Extent) → IsExtent room ts a → is t.OpenBracket (peek (ts ++ left)) ≡ true
extent_begun _ _ left _ (g.extent {o = o} c at size close) = true_is t.OpenBracket (terminal o) at

abbrev pub one_extent_piece : ℕ → Way Extent (λ k. not (is t.OpenBracket k)) none
one_extent_piece room = at_test (is t.OpenBracket) (extent room) (IsExtent room) (IsExtent (suc room)) (extent_exact room) (some_extent room) (extent_begun room)
