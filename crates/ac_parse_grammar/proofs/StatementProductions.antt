-- The productions of steps, assignments and loop headers are exact.
use Rattle.std.specs.Prelude.{Bool, true, false, cond, not, Option, Some, None, ◌||◌, ◌&&◌}
use Rattle.std.proofs.Common.{◌≡◌, ℕ, suc, List, [], ◌∷◌, ◌++◌, refl, sym, ap}
use Rattle.ac_lex.specs.Lexemes.{Lexeme}
use Rattle.ac_parse_grammar.specs.declared.terminal.Terminal.{Terminal}
use Rattle.ac_parse_grammar.specs.declared.terminal.Terminal.TheVariants as t
use Rattle.ac_parse_grammar.specs.declared.statements.LoopHeader.{LoopHeader}
use Rattle.ac_parse_grammar.specs.declared.tree.Word.{Word}
use Rattle.ac_parse_grammar.specs.declared.tree.Operator.{Operator}
use Rattle.ac_parse_grammar.specs.declared.tree.Step.{Step}
use Rattle.ac_parse_grammar.specs.declared.tree.Statement.{Statement}
use Rattle.ac_parse_grammar.specs.declared.tree.Statement.TheVariants.{Assign}
use Rattle.ac_parse_grammar.specs.Terminals.{terminal, is_name}
use Rattle.ac_parse_grammar.specs.TokenWords.{word_of, numeral_of}
use Rattle.ac_parse_grammar.specs.ReaderCombinators.{syntax, Got, found, stopped, and_then, pure, peek, front, rest, is, expect, name}
use Rattle.ac_parse_grammar.specs.Found.{Goes}
use Rattle.ac_parse_grammar.specs.StatementsReading.{unit_step, signed_step, moved, moved_by, step_behind, step_behind_by, step, step_by, becomes, becomes_by}
use Rattle.ac_parse_grammar.specs.StatementsReading as reading
use Rattle.ac_parse_grammar.specs.StatementsGrammar.{unit_of, change_of, down_of, assigns_of, is_whole, IsStep, sign_behind, sign_before, changed, set, IsAssignment, assignment, IsTyped, typed, untyped, IsHeader, header}
use Rattle.ac_parse_grammar.proofs.Exact.{Exact, Some_of, none, nowhere, both}
use Rattle.ac_parse_grammar.proofs.Parts.{is_true, IsPure, nothing, token, one, other}
use Rattle.ac_parse_grammar.proofs.Repeats.{has}
use Rattle.ac_parse_grammar.specs.Expressions.{goes_on}
use Rattle.ac_parse_grammar.specs.Conditions.{condition_goes_on}
use Rattle.ac_parse_grammar.proofs.ReadExpressions.{some_expr_at}
use Rattle.ac_parse_grammar.proofs.ReadConditions.{some_cond_at}
use Rattle.ac_parse_grammar.proofs.StatementGiven.{expr_piece, subscripts_piece, cond_piece}
use Rattle.ac_parse_grammar.proofs.StatementLexemes.{a_number, a_semicolon, an_int, becomes_mark, plus_becomes, a_plus, plus_plus, named_token}
use Rattle.ac_parse_grammar.proofs.StatementPieces.{Piece, way, at_any, next, apart, value, passed, value_before, either, either_or, image, mapped, marked, expected, before, a_word, a_worded, valued_at, a_value, by_value, named, renamed, made}

-- a mark is not the end
pub not_end : (k : Terminal) → is k t.End ≡ true → k ≡ t.End
not_end k e = sym (is_true k t.End e)

number_real : is t.Number t.End ≡ false
unfolding is
number_real = refl

becomes_real : is t.Becomes t.End ≡ false
unfolding is
becomes_real = refl

pub name_as : (ts : List Lexeme) → name ts ≡ (a_worded is_name refl named_token).read ts
unfolding name
name_as ts = refl

plus_is : down_of (terminal a_plus.0) ≡ Some false
plus_is = ap down_of a_plus.1

-- a name, which is passed
abbrev pub name_piece : Piece Word nowhere none
name_piece = named name (a_worded is_name refl named_token) name_as

-- ---- steps

abbrev pub step_of : Word → Option Word → Bool → Lexeme → Step
step_of target source down number = record { target = target; source = source; down = down; by = numeral_of number }

-- the number of a step
abbrev signed_piece : Word → Option Word → Bool → Piece Step nowhere none
signed_piece target source down = expected t.Number number_real a_number (λ number. value (step_of target source down number))

abbrev moved_piece : Word → Word → Piece Step nowhere none
moved_piece target source = by_value down_of refl false a_plus.0 plus_is (λ down _. signed_piece target (Some source) down)

moved_as : (target source : Word) (ts : List Lexeme) → moved target source ts ≡ (moved_piece target source).read ts
unfolding moved
moved_as target source ts = by_head (peek ts)
  where
    by_head : (k : Terminal) → moved_by target source k ts ≡ valued_at (λ down _. signed_step target (Some source) down) (down_of k) ts
    by_head t.Plus = refl
    by_head t.Minus = refl
    by_head _ = refl

change_is : change_of (terminal plus_becomes.0) ≡ Some false
change_is = ap change_of plus_becomes.1

unit_is : unit_of (terminal plus_plus.0) ≡ Some false
unit_is = ap unit_of plus_plus.1

has_unit_is : has (unit_of (terminal plus_plus.0)) ≡ true
has_unit_is = ap has unit_is

has_change_is : has (change_of (terminal plus_becomes.0)) ≡ true
has_change_is = ap has change_is

abbrev has_unit : Terminal → Bool
has_unit k = has (unit_of k)

abbrev has_change : Terminal → Bool
has_change k = has (change_of k)

becomes_no_change : (k : Terminal) → is t.Becomes k ≡ true → has_change k ≡ false
unfolding is
becomes_no_change t.Becomes e = refl
becomes_no_change _ e = cc

change_no_unit : (k : Terminal) → (has_change k || is t.Becomes k) ≡ true → has_unit k ≡ false
unfolding is
change_no_unit t.PlusPlus e = cc
change_no_unit t.MinusMinus e = cc
change_no_unit _ e = refl

abbrev set_piece : Word → Piece Step nowhere none
set_piece target = expected t.Becomes becomes_real becomes_mark (λ _. next name_piece (λ source. named (moved target source) (moved_piece target source) (moved_as target source)))

abbrev changed_piece : Word → Piece Step nowhere none
changed_piece target = by_value change_of refl false plus_becomes.0 change_is (λ down _. signed_piece target None down)

abbrev sign_behind_piece : Word → Piece Step nowhere none
sign_behind_piece target = by_value unit_of refl false plus_plus.0 unit_is (λ down sign. value (unit_step target down sign))

abbrev step_behind_piece : Word → Piece Step nowhere none
step_behind_piece target =
    either has_unit (way (at_any (λ k. not (has_unit k)) (sign_behind_piece target)))
    (either has_change (way (at_any (λ k. not (has_change k)) (changed_piece target))) (set_piece target) (λ k e. e)
    (λ ts left a r end. becomes_no_change _ ((set_piece target).begun ts left a r)))
    (λ k e. e)
    (λ ts left a r end. change_no_unit _ ((either has_change (way (at_any (λ k. not (has_change k)) (changed_piece target))) (set_piece target) (λ k e. e)
    (λ ts left a r end. becomes_no_change _ ((set_piece target).begun ts left a r))).begun ts left a r))

moved_same : (target : Word) (r : Got Word) → and_then r (moved target) ≡ and_then r (λ source. moved target source)
moved_same target (found a ts) = refl
moved_same target (stopped w ts) = refl

step_behind_as : (target : Word) (ts : List Lexeme) → step_behind target ts ≡ (step_behind_piece target).read ts
unfolding step_behind expect is
step_behind_as target ts = by_head (peek ts)
  where
    by_head : (k : Terminal) → step_behind_by target k ts
        ≡ cond (has_unit k) (valued_at (λ down sign. pure (unit_step target down sign)) (unit_of k) ts)
        (cond (has_change k) (valued_at (λ down _. signed_step target None down) (change_of k) ts)
        (and_then (cond (is t.Becomes k) (found (front ts) (rest ts)) (stopped syntax ts)) (λ _ us. and_then (name us) (λ source. moved target source))))
    by_head t.PlusPlus = refl
    by_head t.MinusMinus = refl
    by_head t.PlusBecomes = refl
    by_head t.MinusBecomes = refl
    by_head t.Becomes = refl
    by_head _ = refl

abbrev sign_before_piece : Piece Step nowhere none
sign_before_piece = by_value unit_of refl false plus_plus.0 unit_is (λ down sign. next name_piece (λ target. value (unit_step target down sign)))

name_no_unit : (k : Terminal) → is_name k ≡ true → has_unit k ≡ false
name_no_unit t.PlusPlus e = cc
name_no_unit t.MinusMinus e = cc
name_no_unit _ e = refl

abbrev named_step_piece : Piece Step nowhere none
named_step_piece = next name_piece (λ target. named (step_behind target) (step_behind_piece target) (step_behind_as target))

abbrev any_step_piece : Piece Step nowhere none
any_step_piece = either has_unit (way (at_any (λ k. not (has_unit k)) sign_before_piece)) named_step_piece (λ k e. e) (λ ts left a r end. name_no_unit _ (named_step_piece.begun ts left a r))

step_as : (ts : List Lexeme) → step ts ≡ any_step_piece.read ts
unfolding step
step_as ts = by_head (peek ts)
  where
    by_head : (k : Terminal) → step_by k ts
        ≡ cond (has_unit k) (valued_at (λ down sign us. and_then (name us) (λ target. pure (unit_step target down sign))) (unit_of k) ts) (and_then (name ts) (λ target. step_behind target))
    by_head t.PlusPlus = refl
    by_head t.MinusMinus = refl
    by_head _ = refl

to_step : (ts : List Lexeme) (a : Step) → any_step_piece.rel ts a → IsStep ts a
to_step _ _ (one (a_value at (both (a_word n) nothing))) = sign_before at n
to_step _ _ (other (both (a_word n) (one (a_value at nothing)))) = sign_behind n at
to_step _ _ (other (both (a_word n) (other (one (a_value at (marked m nothing)))))) = changed n at m
to_step _ _ (other (both (a_word n) (other (other (marked e (both (a_word j) (a_value at (marked m nothing)))))))) = set n e j at m

of_step : (ts : List Lexeme) (a : Step) → IsStep ts a → any_step_piece.rel ts a
of_step _ _ (sign_before at n) = one (a_value at (both (a_word n) nothing))
of_step _ _ (sign_behind n at) = other (both (a_word n) (one (a_value at nothing)))
of_step _ _ (changed n at m) = other (both (a_word n) (other (one (a_value at (marked m nothing)))))
of_step _ _ (set n e j at m) = other (both (a_word n) (other (other (marked e (both (a_word j) (a_value at (marked m nothing)))))))

pub step_exact : Exact step IsStep IsStep nowhere none
step_exact = (renamed IsStep IsStep (named step any_step_piece step_as) to_step of_step to_step).exact

pub some_step : Some_of IsStep
some_step = (named_token.0 ∷ plus_plus.0 ∷ [], unit_step (word_of named_token.0) false plus_plus.0, sign_behind named_token.1 unit_is)

abbrev pub step_piece : Piece Step nowhere none
step_piece = made step IsStep IsStep step_exact some_step some_step

-- ---- assignments

-- an assignment as the list of what it leaves
pub data IsAssigned (room : ℕ) : List Lexeme → List Statement → Type 0 where
  assigned : {ts : List Lexeme} {s : Statement} → IsAssignment room ts s → IsAssigned room ts (s ∷ [])

becomes_is : assigns_of (terminal becomes_mark.0) ≡ Some None
becomes_is = ap assigns_of becomes_mark.1

abbrev becomes_piece : Piece (Option Operator) nowhere none
becomes_piece = by_value assigns_of refl None becomes_mark.0 becomes_is (λ operator _. value operator)

becomes_as : (ts : List Lexeme) → becomes ts ≡ becomes_piece.read ts
unfolding becomes
becomes_as ts = by_head (peek ts)
  where
    by_head : (k : Terminal) → becomes_by k ts ≡ valued_at (λ operator _. pure operator) (assigns_of k) ts
    by_head t.Becomes = refl
    by_head t.PlusBecomes = refl
    by_head t.MinusBecomes = refl
    by_head t.StarBecomes = refl
    by_head t.SlashBecomes = refl
    by_head t.PercentBecomes = refl
    by_head _ = refl

assigns_no_bracket : (k : Terminal) → has (assigns_of k) ≡ true → is t.OpenBracket k ≡ false
unfolding is
assigns_no_bracket t.OpenBracket e = cc
assigns_no_bracket _ e = refl

semicolon_real : is t.Semicolon t.End ≡ false
unfolding is
semicolon_real = refl

semicolon_ends : goes_on t.Semicolon ≡ false
semicolon_ends = refl

abbrev assignment_piece : ℕ → Piece (List Statement) nowhere none
assignment_piece room =
    next name_piece (λ target.
    apart (subscripts_piece room) (λ subs.
    next (named becomes becomes_piece becomes_as) (λ operator.
    before (expr_piece room) t.Semicolon semicolon_real a_semicolon (λ _. semicolon_ends) (λ e.
    value (Assign target subs operator e ∷ []))))
    (λ subs k e. assigns_no_bracket k e))

to_assignment : (room : ℕ) (ts : List Lexeme) (a : List Statement) → (assignment_piece room).rel ts a → IsAssigned room ts a
to_assignment room _ _ (both (a_word n) (both subs (both (a_value {t = m} at nothing) (both value (marked {t = c} end nothing))))) = assigned (assignment m c n subs at value end)

wide_assignment : (room : ℕ) (ts : List Lexeme) (a : List Statement) → (assignment_piece room).wide ts a → IsAssigned (suc room) ts a
wide_assignment room _ _ (both (a_word n) (both subs (both (a_value {t = m} at nothing) (both value (marked {t = c} end nothing))))) = assigned (assignment m c n subs at value end)

of_assignment : (room : ℕ) (ts : List Lexeme) (a : List Statement) → IsAssigned room ts a → (assignment_piece room).rel ts a
of_assignment room _ _ (assigned (assignment m c n subs at value end)) = both (a_word n) (both subs (both (a_value {t = m} at nothing) (both value (marked {t = c} end nothing))))

assignment_as : (room : ℕ) (ts : List Lexeme) → reading.assignment room ts ≡ (assignment_piece room).read ts
unfolding reading.assignment
assignment_as room ts = refl

pub assignment_exact : (room : ℕ) → Exact (reading.assignment room) (IsAssigned room) (IsAssigned (suc room)) nowhere none
assignment_exact room = (renamed (IsAssigned room) (IsAssigned (suc room)) (named (reading.assignment room) (assignment_piece room) (assignment_as room)) (to_assignment room) (of_assignment room) (wide_assignment room)).exact

pub some_assignment : (room : ℕ) → Some_of (IsAssigned (suc room))
some_assignment room = let s = (assignment_piece room).some in (s.0, s.1, wide_assignment room s.0 s.1 s.2)

pub assignment_here : (room : ℕ) → Some_of (IsAssigned room)
assignment_here room = let s = (assignment_piece room).here in (s.0, s.1, to_assignment room s.0 s.1 s.2)

pub assignment_begun : (room : ℕ) (ts left : List Lexeme) (a : List Statement) → IsAssigned room ts a → is_name (peek (ts ++ left)) ≡ true
assignment_begun room _ left _ (assigned (assignment m c n subs at value end)) = n

-- ---- loop headers

abbrev on_typed : Goes Bool
on_typed whole k = not whole && is_whole k

int_is : is_whole (terminal an_int.0) ≡ true
int_is = ap is_whole an_int.1

untyped_ends : (ts left : List Lexeme) (a : Bool) → IsPure false ts a → on_typed a (peek left) ≡ false → is_whole (peek (ts ++ left)) ≡ false
untyped_ends _ left _ nothing end = end

abbrev any_typed_piece : Piece Bool nowhere on_typed
any_typed_piece = either_or is_whole (way (passed is_whole refl (an_int.0, int_is) (λ _. value_before on_typed true))) (value_before on_typed false) (λ k e. e) untyped_ends

typed_as : (ts : List Lexeme) → reading.typed ts ≡ any_typed_piece.read ts
unfolding reading.typed
typed_as ts = by_head (peek ts)
  where
    by_head : (k : Terminal) → reading.typed_by k ts ≡ cond (is_whole k) (found true (rest ts)) (found false ts)
    by_head t.Int = refl
    by_head t.Long = refl
    by_head _ = refl

to_typed : (ts : List Lexeme) (a : Bool) → any_typed_piece.rel ts a → IsTyped ts a
to_typed _ _ (one (token w nothing)) = typed w
to_typed _ _ (other nothing) = untyped

of_typed : (ts : List Lexeme) (a : Bool) → IsTyped ts a → any_typed_piece.rel ts a
of_typed _ _ (typed w) = one (token w nothing)
of_typed _ _ untyped = other nothing

abbrev typed_piece : Piece Bool nowhere on_typed
typed_piece = renamed IsTyped IsTyped (named reading.typed any_typed_piece typed_as) to_typed of_typed to_typed

name_no_type : (typed : Bool) (k : Terminal) → is_name k ≡ true → on_typed typed k ≡ false
name_no_type true k e = refl
name_no_type false t.Int e = cc
name_no_type false t.Long e = cc
name_no_type false _ e = refl

becomes_ends_name : condition_goes_on t.Semicolon ≡ false
becomes_ends_name = refl

abbrev any_header_piece : ℕ → Piece LoopHeader nowhere none
any_header_piece room =
    apart typed_piece (λ typed.
    before name_piece t.Becomes becomes_real becomes_mark (λ _. refl) (λ counter.
    before (expr_piece room) t.Semicolon semicolon_real a_semicolon (λ _. semicolon_ends) (λ start.
    before (cond_piece room) t.Semicolon semicolon_real a_semicolon (λ _. becomes_ends_name) (λ parts.
    mapped (λ step. record { typed = typed; name = counter; start = start; cond = parts; step = step }) none step_piece (λ a k. refl)))))
    (λ typed k e. name_no_type typed k e)

to_header : (room : ℕ) (ts : List Lexeme) (a : LoopHeader) → (any_header_piece room).rel ts a → IsHeader room ts a
to_header room _ _ (both w (both (a_word {t = n} is) (marked {t = m} e (both start (marked {t = c} f (both cond (marked {t = d} g (image step)))))))) = header n m c d w is e start f cond g step

wide_header : (room : ℕ) (ts : List Lexeme) (a : LoopHeader) → (any_header_piece room).wide ts a → IsHeader (suc room) ts a
wide_header room _ _ (both w (both (a_word {t = n} is) (marked {t = m} e (both start (marked {t = c} f (both cond (marked {t = d} g (image step)))))))) = header n m c d w is e start f cond g step

of_header : (room : ℕ) (ts : List Lexeme) (a : LoopHeader) → IsHeader room ts a → (any_header_piece room).rel ts a
of_header room _ _ (header n m c d w is e start f cond g step) = both w (both (a_word {t = n} is) (marked {t = m} e (both start (marked {t = c} f (both cond (marked {t = d} g (image step)))))))

header_as : (room : ℕ) (ts : List Lexeme) → reading.header room ts ≡ (any_header_piece room).read ts
unfolding reading.header
header_as room ts = refl

pub header_exact : (room : ℕ) → Exact (reading.header room) (IsHeader room) (IsHeader (suc room)) nowhere none
header_exact room = (renamed (IsHeader room) (IsHeader (suc room)) (named (reading.header room) (any_header_piece room) (header_as room)) (to_header room) (of_header room) (wide_header room)).exact

pub some_header : (room : ℕ) → Some_of (IsHeader room)
some_header room =
    let start = some_expr_at room in let parts = some_cond_at room in let last = some_step in (
      named_token.0 ∷ becomes_mark.0 ∷ start.0 ++ (a_semicolon.0 ∷ parts.0 ++ a_semicolon.0 ∷ last.0),
      record { typed = false; name = word_of named_token.0; start = start.1; cond = parts.1; step = last.1 },
      header named_token.0 becomes_mark.0 a_semicolon.0 a_semicolon.0 untyped named_token.1 becomes_mark.1 start.2 a_semicolon.1 parts.2 a_semicolon.1 last.2,
    )

abbrev pub header_piece : ℕ → Piece LoopHeader nowhere none
header_piece room = made (reading.header room) (IsHeader room) (IsHeader (suc room)) (header_exact room) (some_header (suc room)) (some_header room)
