-- Statements are exact at each room.
use Rattle.std.specs.Prelude.{Bool, true, false, cond, not, ◌||◌}
use Rattle.std.proofs.Common.{◌≡◌, ℕ, zero, suc, List, [], ◌∷◌, ◌++◌, refl, sym, ◌∙◌, ap, append_assoc}
use Rattle.ac_lex.specs.Lexemes.{Lexeme}
use Rattle.ac_parse_grammar.specs.declared.terminal.Terminal.{Terminal}
use Rattle.ac_parse_grammar.specs.declared.terminal.Terminal.TheVariants as t
use Rattle.ac_parse_grammar.specs.declared.tree.Statement.{Statement}
use Rattle.ac_parse_grammar.specs.Terminals.{terminal, is_name}
use Rattle.ac_parse_grammar.specs.ReaderCombinators.{Got, found, stopped, Reader, and_then, ◌>>=◌, pure, peek, rest, is}
use Rattle.ac_parse_grammar.specs.Found.{Rel, Goes, awaits_parenthesis}
use Rattle.ac_parse_grammar.specs.Constructs.{opening}
use Rattle.ac_parse_grammar.specs.StatementsReading.{assignment, begins_statement, block, statement_inside, statement}
use Rattle.ac_parse_grammar.specs.StatementsGrammar as g
use Rattle.ac_parse_grammar.proofs.Exact.{Exact, Some_of, none, nowhere}
use Rattle.ac_parse_grammar.proofs.Parts.{is_true, true_is, IsNothing, IsPure, nothing, pass, IsToken, token, IsEither, one, other, same_exact, token_exact_by, keyword_alive}
use Rattle.ac_parse_grammar.proofs.StatementLexemes.{an_open, an_open_brace, a_semicolon, a_for, an_if}
use Rattle.ac_parse_grammar.proofs.StatementPieces.{Piece, way, value_before, passed, either, IsImage, image, mapped, IsMarked, marked, expected, named, renamed, made, at_test, barred_exact, barred_stops, opening_none, opening_some, anywhere}
use Rattle.ac_parse_grammar.proofs.StatementProductions.{IsAssigned, assigned, assignment_exact, some_assignment, assignment_begun, assignment_here}
use Rattle.ac_parse_grammar.proofs.StatementFlags.{Ending, ending, closed_by, on_ending, loop_inside, branch_inside, flagged_by, flagged_in, flagged_inside, flagged}
use Rattle.ac_parse_grammar.proofs.StatementInsides.{IsEnding, is_ending, statement_begins, open_real, for_real, if_real, brace_real, semicolon_real, IsLoopInside, loop_rest, IsBranchInside, branch_rest, branch_else_rest, IsBraced, braced, some_loop_inside, some_branch_inside, some_braced, Level, braces, loop_inside_exact, branch_inside_exact, braced_exact}

IsBlock : ℕ → Rel Ending
IsBlock zero = IsNothing
IsBlock (suc room) = IsMarked t.OpenBrace (λ _. IsImage closed_by (IsBraced room))

IsLoop : ℕ → Rel Ending
IsLoop zero = IsToken (is t.For) (λ _. IsNothing)
IsLoop (suc room) = IsToken (is t.For) (λ keyword. IsMarked t.Open (λ _. IsLoopInside room keyword))

IsBranch : ℕ → Rel Ending
IsBranch zero = IsToken (is t.If) (λ _. IsNothing)
IsBranch (suc room) = IsToken (is t.If) (λ keyword. IsMarked t.Open (λ _. IsBranchInside room keyword))

-- how these constructs are read at a room
record Constructs (room : ℕ) : Type 0 where
  block : Exact (flagged_by room (statement_inside room) (flagged_inside room) t.OpenBrace) (IsBlock room) (IsBlock (suc room)) (λ k. not (is t.OpenBrace k)) on_ending
  loop : Exact (flagged_by room (statement_inside room) (flagged_inside room) t.For) (IsLoop room) (IsLoop (suc room)) (λ k. not (is t.For k)) on_ending
  branch : Exact (flagged_by room (statement_inside room) (flagged_inside room) t.If) (IsBranch room) (IsBranch (suc room)) (λ k. not (is t.If k)) on_ending

block_begins : (room : ℕ) (ts left : List Lexeme) (a : Ending) → IsBlock room ts a → is t.OpenBrace (peek (ts ++ left)) ≡ true
unfolding IsBlock
block_begins zero ts left a r = elim r [ ]
block_begins (suc room) _ left a (marked {t = o} at r) = true_is t.OpenBrace (terminal o) at

loop_begins : (room : ℕ) (ts left : List Lexeme) (a : Ending) → IsLoop room ts a → is t.For (peek (ts ++ left)) ≡ true
unfolding IsLoop
loop_begins zero _ left a (token at r) = at
loop_begins (suc room) _ left a (token at r) = at

branch_begins : (room : ℕ) (ts left : List Lexeme) (a : Ending) → IsBranch room ts a → is t.If (peek (ts ++ left)) ≡ true
unfolding IsBranch
branch_begins zero _ left a (token at r) = at
branch_begins (suc room) _ left a (token at r) = at

for_is : is t.For (terminal a_for.0) ≡ true
for_is = true_is t.For (terminal a_for.0) a_for.1

if_is : is t.If (terminal an_if.0) ≡ true
if_is = true_is t.If (terminal an_if.0) an_if.1

semicolon_is : is t.Semicolon (terminal a_semicolon.0) ≡ true
semicolon_is = true_is t.Semicolon (terminal a_semicolon.0) a_semicolon.1

some_block : (room : ℕ) → Some_of (IsBlock (suc room))
unfolding IsBlock
some_block room = let s = some_braced room in (an_open_brace.0 ∷ s.0, closed_by s.1, marked an_open_brace.1 (image s.2))

some_loop : (room : ℕ) → Some_of (IsLoop (suc room))
unfolding IsLoop
some_loop room = let s = some_loop_inside room a_for.0 in (a_for.0 ∷ an_open.0 ∷ s.0, s.1, token for_is (marked an_open.1 s.2))

some_branch : (room : ℕ) → Some_of (IsBranch (suc room))
unfolding IsBranch
some_branch room = let s = some_branch_inside room an_if.0 in (an_if.0 ∷ an_open.0 ∷ s.0, s.1, token if_is (marked an_open.1 s.2))

name_no_if : (k : Terminal) → is_name k ≡ true → is t.If k ≡ false
unfolding is
name_no_if t.If e = cc
name_no_if _ e = refl

no_for : (k : Terminal) → (is t.If k || is_name k) ≡ true → is t.For k ≡ false
unfolding is
no_for t.For e = cc
no_for _ e = refl

no_brace : (k : Terminal) → (is t.For k || (is t.If k || is_name k)) ≡ true → is t.OpenBrace k ≡ false
unfolding is
no_brace t.OpenBrace e = cc
no_brace _ e = refl

no_semicolon : (k : Terminal) → (is t.OpenBrace k || (is t.For k || (is t.If k || is_name k))) ≡ true → is t.Semicolon k ≡ false
unfolding is
no_semicolon t.Semicolon e = cc
no_semicolon _ e = refl

module _ (room : ℕ) (constructs : Constructs room) where
  abbrev assigned_piece : Piece (List Statement) nowhere none
  assigned_piece = record { read = assignment room; rel = IsAssigned room; wide = IsAssigned (suc room); exact = assignment_exact room; some = some_assignment room; here = assignment_here room; begins = is_name; begun = assignment_begun room }

  abbrev assign_piece : Piece Ending nowhere on_ending
  assign_piece = mapped closed_by on_ending assigned_piece (λ a k. refl)

  abbrev by_if : Piece Ending nowhere on_ending
  by_if = either (is t.If) (at_test (is t.If) (flagged_by room (statement_inside room) (flagged_inside room) t.If) (IsBranch room) (IsBranch (suc room)) constructs.branch (some_branch room) (branch_begins room))
      assign_piece (λ k e. e) (λ ts left a r end. name_no_if _ (assign_piece.begun ts left a r))

  abbrev by_for : Piece Ending nowhere on_ending
  by_for = either (is t.For) (at_test (is t.For) (flagged_by room (statement_inside room) (flagged_inside room) t.For) (IsLoop room) (IsLoop (suc room)) constructs.loop (some_loop room) (loop_begins room))
      by_if (λ k e. e) (λ ts left a r end. no_for _ (by_if.begun ts left a r))

  abbrev by_brace : Piece Ending nowhere on_ending
  by_brace = either (is t.OpenBrace) (at_test (is t.OpenBrace) (flagged_by room (statement_inside room) (flagged_inside room) t.OpenBrace) (IsBlock room) (IsBlock (suc room)) constructs.block (some_block room) (block_begins room))
      by_for (λ k e. e) (λ ts left a r end. no_brace _ (by_for.begun ts left a r))

  abbrev any_piece : Piece Ending nowhere on_ending
  any_piece = either (is t.Semicolon) (way (passed (is t.Semicolon) semicolon_real (a_semicolon.0, semicolon_is) (λ _. value_before on_ending (ending false []))))
      by_brace (λ k e. e) (λ ts left a r end. no_semicolon _ (by_brace.begun ts left a r))

  any_as : (ts : List Lexeme) → flagged room ts ≡ any_piece.read ts
  unfolding flagged flagged_in is
  any_as ts = by_head (peek ts)
    where
      by_head : (k : Terminal) → flagged_by room (statement_inside room) (flagged_inside room) k ts
          ≡ cond (is t.Semicolon k) (found (ending false []) (rest ts))
          (cond (is t.OpenBrace k) (flagged_by room (statement_inside room) (flagged_inside room) t.OpenBrace ts)
          (cond (is t.For k) (flagged_by room (statement_inside room) (flagged_inside room) t.For ts)
          (cond (is t.If k) (flagged_by room (statement_inside room) (flagged_inside room) t.If ts) (and_then (assignment room ts) (λ all. pure (closed_by all))))))
      by_head t.Semicolon = refl
      by_head t.OpenBrace = refl
      by_head t.For = refl
      by_head t.If = refl
      by_head _ = refl

abbrev IsAny : ℕ → Rel Ending
IsAny room = IsEither (IsToken (is t.Semicolon) (λ _. IsPure (ending false []))) (IsEither (IsBlock room) (IsEither (IsLoop room) (IsEither (IsBranch room) (IsImage closed_by (IsAssigned room)))))

to_any : (room : ℕ) (ts : List Lexeme) (a : Ending) → IsAny room ts a → IsEnding room ts a
unfolding IsBlock IsLoop IsBranch
to_any room _ _ (one (token {t = c} at nothing)) = is_ending (g.empty (is_true t.Semicolon (terminal c) at))
to_any room _ _ (other (other (other (other (image (assigned a)))))) = is_ending (g.assign a)
to_any zero ts a (other (one r)) = elim r [ ]
to_any zero _ a (other (other (one (token at r)))) = elim r [ ]
to_any zero _ a (other (other (other (one (token at r))))) = elim r [ ]
to_any (suc room) _ _ (other (one (marked at (image (braced c ss close))))) = is_ending (g.block c at ss close)
to_any (suc room) _ _ (other (other (one (token {t = f} at (marked o (loop_rest c h close body)))))) = is_ending (g.loop c (is_true t.For (terminal f) at) o h close body)
to_any (suc room) _ _ (other (other (other (one (token {t = f} at (marked o (branch_rest c h close taken))))))) = is_ending (g.branch c (is_true t.If (terminal f) at) o h close taken)
to_any (suc room) _ _ (other (other (other (one (token {t = f} at (marked o (branch_else_rest c e h close taken els also))))))) = is_ending (g.branch_with_else c e (is_true t.If (terminal f) at) o h close taken els also)

of_any : (room : ℕ) (ts : List Lexeme) (a : Ending) → IsEnding room ts a → IsAny room ts a
unfolding IsBlock IsLoop IsBranch
of_any room _ _ (is_ending (g.empty {c = c} at)) = one (token (true_is t.Semicolon (terminal c) at) nothing)
of_any room _ _ (is_ending (g.assign a)) = other (other (other (other (image (assigned a)))))
of_any _ _ _ (is_ending (g.block c at ss close)) = other (one (marked at (image (braced c ss close))))
of_any _ _ _ (is_ending (g.loop {f = f} c at o h close body)) = other (other (one (token (true_is t.For (terminal f) at) (marked o (loop_rest c h close body)))))
of_any _ _ _ (is_ending (g.branch {f = f} c at o h close taken)) = other (other (other (one (token (true_is t.If (terminal f) at) (marked o (branch_rest c h close taken))))))
of_any _ _ _ (is_ending (g.branch_with_else {f = f} c e at o h close taken els also)) = other (other (other (one (token (true_is t.If (terminal f) at) (marked o (branch_else_rest c e h close taken els also))))))

level_of : (room : ℕ) → Constructs room → Level room
level_of room constructs = (renamed (IsEnding room) (IsEnding (suc room)) (named (flagged room) (any_piece room constructs) (any_as room constructs)) (to_any room) (of_any room) (to_any (suc room))).exact

-- ---- at each room

then_then : {A B C : Type 0} (r : Got A) (f : A → Reader B) (h : B → Reader C) → and_then (and_then r f) h ≡ and_then r (λ a ts. and_then (f a ts) h)
then_then (found a ts) f h = refl
then_then (stopped w ts) f h = refl

for_waits : (k : Terminal) → is t.For k ≡ true → awaits_parenthesis k ≡ true
unfolding is
for_waits t.For e = refl
for_waits _ e = cc

if_waits : (k : Terminal) → is t.If k ≡ true → awaits_parenthesis k ≡ true
unfolding is
if_waits t.If e = refl
if_waits _ e = cc

-- a keyword and a parenthesis that may not open
barred_behind : {A : Type 0} (test : Terminal → Bool) (f : Lexeme → ℕ → Reader A) (V : Lexeme → Rel A) (g : Goes A) → test t.End ≡ false → ((k : Terminal) → test k ≡ true → awaits_parenthesis k ≡ true)
    → ((keyword : Lexeme) → Some_of (V keyword)) → Exact (pass (λ keyword. opening t.Open zero >>= f keyword)) (IsToken test (λ _. IsNothing)) (IsToken test (λ keyword. IsMarked t.Open (λ _. V keyword))) (λ k. not (test k)) g
barred_behind {A = A} test f V g last waits some = token_exact_by test (λ keyword. opening t.Open zero >>= f keyword) (λ _. IsNothing) (λ keyword. IsMarked t.Open (λ _. V keyword)) g last inside
    (λ keyword. (let s = some keyword in (an_open.0 ∷ s.0, s.1, marked an_open.1 s.2)))
    (λ keyword ts bad w is e. keyword_alive test waits keyword w ts bad is (barred_stops t.Open ts bad w (sym (opening_none t.Open (f keyword) ts) ∙ e)) ((inside keyword).alive ts bad w refl e).marks)
  where
    inside : (keyword : Lexeme) → Exact (opening t.Open zero >>= f keyword) IsNothing (IsMarked t.Open (λ _. V keyword)) nowhere g
    inside keyword = same_exact (opening t.Open zero >>= f keyword) (opening_none t.Open (f keyword)) (barred_exact t.Open (λ _. V keyword) g open_real refl (λ _. some keyword))

no_constructs : Constructs zero
unfolding IsBlock IsLoop IsBranch block
no_constructs = record {
  block = anywhere (λ k. not (is t.OpenBrace k)) (same_exact (flagged_by zero (statement_inside zero) (flagged_inside zero) t.OpenBrace)
      (λ ts. then_then (opening t.OpenBrace zero ts) (λ _. braces (statement_inside zero)) (λ all. pure (closed_by all)) ∙ opening_none t.OpenBrace (λ _. braces (statement_inside zero) >>= (λ all. pure (closed_by all))) ts)
      (barred_exact t.OpenBrace (λ _. IsImage closed_by (IsBraced zero)) on_ending brace_real refl (λ _. (let s = some_braced zero in (s.0, closed_by s.1, image s.2)))));
  loop = barred_behind (is t.For) (λ keyword. loop_inside (flagged_inside zero) keyword) (IsLoopInside zero) on_ending for_real for_waits (some_loop_inside zero);
  branch = barred_behind (is t.If) (λ keyword. branch_inside (flagged_inside zero) keyword) (IsBranchInside zero) on_ending if_real if_waits (some_branch_inside zero);
}

abbrev loop_inside_piece : (room : ℕ) → Level room → Lexeme → Piece Ending nowhere on_ending
loop_inside_piece room level keyword = made (loop_inside (flagged room) keyword room) (IsLoopInside room keyword) (IsLoopInside (suc room) keyword) (loop_inside_exact room level keyword) (some_loop_inside (suc room) keyword) (some_loop_inside room keyword)

abbrev branch_inside_piece : (room : ℕ) → Level room → Lexeme → Piece Ending nowhere on_ending
branch_inside_piece room level keyword = made (branch_inside (flagged room) keyword room) (IsBranchInside room keyword) (IsBranchInside (suc room) keyword) (branch_inside_exact room level keyword) (some_branch_inside (suc room) keyword) (some_branch_inside room keyword)

abbrev braces_piece : (room : ℕ) → Level room → Piece (List Statement) nowhere none
braces_piece room level = made (braces (statement room)) (IsBraced room) (IsBraced (suc room)) (braced_exact room level) (some_braced (suc room)) (some_braced room)

more_constructs : (room : ℕ) → Level room → Constructs (suc room)
unfolding IsBlock IsLoop IsBranch block statement_inside statement flagged_inside flagged
more_constructs room level = record {
  block = anywhere (λ k. not (is t.OpenBrace k)) (named (flagged_by (suc room) (statement_inside (suc room)) (flagged_inside (suc room)) t.OpenBrace)
      (expected t.OpenBrace brace_real an_open_brace (λ _. mapped closed_by on_ending (braces_piece room level) (λ a k. refl)))
      (λ ts. then_then (opening t.OpenBrace (suc room) ts) (λ _. braces (statement room)) (λ all. pure (closed_by all)) ∙ opening_some t.OpenBrace room (λ _. braces (statement room) >>= (λ all. pure (closed_by all))) ts)).exact;
  loop = (passed (is t.For) for_real (a_for.0, for_is) (λ keyword. named (opening t.Open (suc room) >>= loop_inside (flagged room) keyword)
      (expected t.Open open_real an_open (λ _. loop_inside_piece room level keyword)) (opening_some t.Open room (loop_inside (flagged room) keyword)))).exact;
  branch = (passed (is t.If) if_real (an_if.0, if_is) (λ keyword. named (opening t.Open (suc room) >>= branch_inside (flagged room) keyword)
      (expected t.Open open_real an_open (λ _. branch_inside_piece room level keyword)) (opening_some t.Open room (branch_inside (flagged room) keyword)))).exact;
}

level : (room : ℕ) → Level room
level zero = level_of zero no_constructs
level (suc room) = level_of (suc room) (more_constructs room (level room))

-- statements and their closing brace, read at a room, are those of the grammar at that room
pub statements_exact : (room : ℕ) → Exact (braces (statement room)) (IsBraced room) (IsBraced (suc room)) nowhere none
statements_exact room = braced_exact room (level room)

or_left : (a b : Bool) → a ≡ true → (a || b) ≡ true
or_left a b e = rw e refl

or_right : (a b : Bool) → b ≡ true → (a || b) ≡ true
or_right true b e = refl
or_right false b e = e

pub braced_begun : (room : ℕ) (ts left : List Lexeme) (all : List Statement) → IsBraced room ts all → (begins_statement (peek (ts ++ left)) || is t.CloseBrace (peek (ts ++ left))) ≡ true
braced_begun room _ left _ (braced c g.no_statement at) = or_right (begins_statement (terminal c)) _ (true_is t.CloseBrace (terminal c) at)
braced_begun room _ left _ (braced c (g.a_statement {dangling = dangling} {ts = ts} {us = us} {first = first} r rest) at) =
    or_left _ (is t.CloseBrace (peek (((ts ++ us) ++ c ∷ []) ++ left)))
    (ap (λ l. begins_statement (peek l)) (append_assoc (ts ++ us) (c ∷ []) left ∙ append_assoc ts us (c ∷ left)) ∙ statement_begins room dangling ts (us ++ c ∷ left) first r)
