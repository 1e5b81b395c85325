-- What stands inside loops, branches and blocks is exact, if statements are.
use Rattle.std.specs.Prelude.{Bool, true, false, cond, not, ◌||◌}
use Rattle.std.proofs.Common.{◌≡◌, ℕ, suc, List, [], ◌∷◌, ◌++◌, length, refl, sym, ◌∙◌, ap, subst, append_assoc}
use Rattle.std.proofs.lemmas.List.{append-nil}
use Rattle.ac_lex.specs.Lexemes.{Lexeme}
use Rattle.ac_parse_grammar.specs.declared.terminal.Terminal.{Terminal}
use Rattle.ac_parse_grammar.specs.declared.terminal.Terminal.TheVariants as t
use Rattle.ac_parse_grammar.specs.declared.statements.LoopHeader.{LoopHeader}
use Rattle.ac_parse_grammar.specs.declared.tree.Part.{Part}
use Rattle.ac_parse_grammar.specs.declared.tree.Statement.{Statement}
use Rattle.ac_parse_grammar.specs.Terminals.{terminal, is_name}
use Rattle.ac_parse_grammar.specs.ReaderCombinators.{Got, found, stopped, Reader, and_then, ◌>>=◌, ◌>>◌, pure, peek, rest, is, expect, many, many_from}
use Rattle.ac_parse_grammar.specs.Found.{Rel, Goes}
use Rattle.ac_parse_grammar.specs.StatementsReading.{header, loop_of, branch_of, begins_statement, statements_of, statement}
use Rattle.ac_parse_grammar.specs.Grammar.{IsCond}
use Rattle.ac_parse_grammar.specs.StatementsGrammar as g
use Rattle.ac_parse_grammar.specs.StatementsGrammar.{IsHeader, IsStatement, IsStatements}
use Rattle.ac_parse_grammar.proofs.Exact.{Exact, Some_of, none, nowhere, IsThen, both}
use Rattle.ac_parse_grammar.proofs.Parts.{is_true, true_is, IsPure, nothing, pass, token, one, other, same_exact, pure_exact}
use Rattle.ac_parse_grammar.proofs.Many.{IsMany, no_more, one_more, many_exact}
use Rattle.ac_parse_grammar.proofs.StatementLexemes.{a_close, a_close_brace, a_semicolon, an_else}
use Rattle.ac_parse_grammar.proofs.StatementPieces.{Piece, way, behind, value, value_before, passed, either_or, image, mapped, marked, before, named, renamed, anywhere, second_exact}
use Rattle.ac_parse_grammar.specs.Conditions.{condition_goes_on}
use Rattle.ac_parse_grammar.proofs.ReadConditions.{some_cond_at}
use Rattle.ac_parse_grammar.proofs.StatementGiven.{cond_piece}
use Rattle.ac_parse_grammar.proofs.StatementProductions.{header_piece, some_header, assigned, assignment_begun}
use Rattle.ac_parse_grammar.proofs.StatementFlags.{Ending, ending, left_of, on_ending, looped, branched, join_ending, loop_inside, otherwise_flagged, otherwise_flagged_by, branch_inside, flagged, out, flagged_out, many_out}

pub data IsEnding (room : ℕ) : List Lexeme → Ending → Type 0 where
  is_ending : {dangling : Bool} {ts : List Lexeme} {all : List Statement} → IsStatement room dangling ts all → IsEnding room ts (ending dangling all)

pub some_ending : (room : ℕ) → Some_of (IsEnding room)
some_ending room = (a_semicolon.0 ∷ [], ending false [], is_ending (g.empty a_semicolon.1))

-- ---- the terminals with which statements begin

pub semicolon_begins : (k : Terminal) → k ≡ t.Semicolon → begins_statement k ≡ true
semicolon_begins k e = ap begins_statement e

pub name_begins : (k : Terminal) → is_name k ≡ true → begins_statement k ≡ true
name_begins t.Name e = refl
name_begins t.Context e = refl
name_begins t.Commutative e = refl
name_begins t.Output e = refl
name_begins _ e = cc

pub statement_begins : (room : ℕ) (dangling : Bool) (ts left : List Lexeme) (all : List Statement) → IsStatement room dangling ts all → begins_statement (peek (ts ++ left)) ≡ true
statement_begins room _ _ left _ (g.empty at) = ap begins_statement at
statement_begins room _ _ left _ (g.block c at ss close) = ap begins_statement at
statement_begins room _ _ left _ (g.loop c at o h close body) = ap begins_statement at
statement_begins room _ _ left _ (g.branch c at o h close taken) = ap begins_statement at
statement_begins room _ _ left _ (g.branch_with_else c e at o h close taken els also) = ap begins_statement at
statement_begins room _ ts left _ (g.assign a) = name_begins _ (assignment_begun room ts left _ (assigned a))

pub ending_begins : (room : ℕ) (ts left : List Lexeme) (e : Ending) → IsEnding room ts e → begins_statement (peek (ts ++ left)) ≡ true
ending_begins room ts left _ (is_ending {dangling = dangling} {all = all} r) = statement_begins room dangling ts left all r

pub begins_no_else : (e : Ending) (k : Terminal) → begins_statement k ≡ true → on_ending e k ≡ false
unfolding is
begins_no_else (ending false all) k e = refl
begins_no_else (ending true all) t.Else e = cc
begins_no_else (ending true all) _ e = refl

pub close_brace_real : is t.CloseBrace t.End ≡ false
unfolding is
close_brace_real = refl

pub close_real : is t.Close t.End ≡ false
unfolding is
close_real = refl

pub open_real : is t.Open t.End ≡ false
unfolding is
open_real = refl

pub for_real : is t.For t.End ≡ false
unfolding is
for_real = refl

pub if_real : is t.If t.End ≡ false
unfolding is
if_real = refl

pub else_real : is t.Else t.End ≡ false
unfolding is
else_real = refl

pub brace_real : is t.OpenBrace t.End ≡ false
unfolding is
brace_real = refl

pub semicolon_real : is t.Semicolon t.End ≡ false
unfolding is
semicolon_real = refl

-- ---- what stands inside, where a statement is exact

-- the rest of a loop behind its opening parenthesis
pub data IsLoopInside (room : ℕ) (keyword : Lexeme) : List Lexeme → Ending → Type 0 where
  loop_rest : {dangling : Bool} (c : Lexeme) {hs ss : List Lexeme} {header : LoopHeader} {body : List Statement}
      → IsHeader room hs header → terminal c ≡ t.Close → IsStatement room dangling ss body → IsLoopInside room keyword (hs ++ c ∷ ss) (ending dangling (loop_of keyword header body ∷ []))

pub data IsBranchInside (room : ℕ) (keyword : Lexeme) : List Lexeme → Ending → Type 0 where
  branch_rest : {dangling : Bool} (c : Lexeme) {cs ss : List Lexeme} {parts : List Part} {taken : List Statement}
      → IsCond room cs parts → terminal c ≡ t.Close → IsStatement room dangling ss taken → IsBranchInside room keyword (cs ++ c ∷ ss) (ending true (branch_of keyword parts taken [] ∷ []))
  branch_else_rest : {dangling : Bool} (c e : Lexeme) {cs ss us : List Lexeme} {parts : List Part} {taken other : List Statement}
      → IsCond room cs parts → terminal c ≡ t.Close → IsStatement room false ss taken → terminal e ≡ t.Else → IsStatement room dangling us other
      → IsBranchInside room keyword (cs ++ (c ∷ ss ++ e ∷ us)) (ending dangling (branch_of keyword parts taken other ∷ []))

-- statements and their closing brace
pub data IsBraced (room : ℕ) : List Lexeme → List Statement → Type 0 where
  braced : (c : Lexeme) {ss : List Lexeme} {all : List Statement} → IsStatements room ss all → terminal c ≡ t.CloseBrace → IsBraced room (ss ++ c ∷ []) all

pub some_loop_inside : (room : ℕ) (keyword : Lexeme) → Some_of (IsLoopInside room keyword)
some_loop_inside room keyword = let h = some_header room in
    (h.0 ++ a_close.0 ∷ a_semicolon.0 ∷ [], ending false (loop_of keyword h.1 [] ∷ []), loop_rest a_close.0 h.2 a_close.1 (g.empty a_semicolon.1))

pub some_branch_inside : (room : ℕ) (keyword : Lexeme) → Some_of (IsBranchInside room keyword)
some_branch_inside room keyword = let c = some_cond_at room in
    (c.0 ++ a_close.0 ∷ a_semicolon.0 ∷ [], ending true (branch_of keyword c.1 [] [] ∷ []), branch_rest a_close.0 c.2 a_close.1 (g.empty {room = room} a_semicolon.1))

pub some_braced : (room : ℕ) → Some_of (IsBraced room)
some_braced room = (a_close_brace.0 ∷ [], [], braced a_close_brace.0 g.no_statement a_close_brace.1)

abbrev pub Level : ℕ → Type 0
Level room = Exact (flagged room) (IsEnding room) (IsEnding (suc room)) nowhere on_ending

abbrev pub ending_piece : (room : ℕ) → Level room → Piece Ending nowhere on_ending
ending_piece room level = record { read = flagged room; rel = IsEnding room; wide = IsEnding (suc room); exact = level; some = some_ending (suc room); here = some_ending room; begins = begins_statement; begun = ending_begins room }

pub looped_same : (keyword : Lexeme) (header : LoopHeader) (e : Ending) (k : Terminal) → on_ending (looped keyword header e) k ≡ on_ending e k
looped_same keyword header (ending dangling body) k = refl

pub branched_same : (keyword : Lexeme) (parts : List Part) (taken e : Ending) (k : Terminal) → on_ending (branched keyword parts taken e) k ≡ on_ending e k
branched_same keyword parts taken (ending dangling body) k = refl

pub else_is : is t.Else (terminal an_else.0) ≡ true
else_is = true_is t.Else (terminal an_else.0) an_else.1

pub no_else : (ts left : List Lexeme) (a : Ending) → IsPure (ending true []) ts a → on_ending a (peek left) ≡ false → is t.Else (peek (ts ++ left)) ≡ false
no_else _ left _ nothing end = end

pub close_ends : condition_goes_on t.Close ≡ false
close_ends = refl

abbrev pub on_many : Goes Ending
on_many e k = begins_statement k || on_ending e k

pub brace_ends : (e : Ending) → on_many e t.CloseBrace ≡ false
unfolding is
brace_ends (ending true all) = refl
brace_ends (ending false all) = refl

pub joined_same : (x e : Ending) (k : Terminal) → on_ending (join_ending x e) k ≡ on_ending e k
joined_same x (ending dangling all) k = refl

-- what a repetition of statements leaves
pub to_statements : (room : ℕ) {x y : Ending} {ts : List Lexeme} → IsMany join_ending (IsEnding room) x ts y → (more : List Statement) × (left_of y ≡ left_of x ++ more) × IsStatements room ts more
to_statements room {x = x} no_more = ([], sym (append-nil (left_of x)), g.no_statement)
to_statements room {x = x} (one_more (is_ending {all = all} r) more) =
    let rest = to_statements room more in (all ++ rest.0, rest.1 ∙ append_assoc (left_of x) all rest.0, g.a_statement r rest.2)

pub of_statements : (room : ℕ) (x : Ending) {ts : List Lexeme} {more : List Statement} → IsStatements room ts more → (y : Ending) × (left_of y ≡ left_of x ++ more) × IsMany join_ending (IsEnding room) x ts y
of_statements room x g.no_statement = (x, sym (append-nil (left_of x)), no_more)
of_statements room x (g.a_statement {dangling = dangling} {first = first} {more = more} r rest) =
    let m = of_statements room (join_ending x (ending dangling first)) rest in (m.0, m.1 ∙ append_assoc (left_of x) first more, one_more (is_ending r) m.2)

abbrev pub braces : Reader (List Statement) → Reader (List Statement)
braces plain = statements_of plain >>= (λ all. expect t.CloseBrace >> pure all)

pub out_then : {A : Type 0} (r : Got Ending) (f : List Statement → Reader A) → and_then (and_then r out) f ≡ and_then r (λ e. f (left_of e))
out_then (found e ts) f = refl
out_then (stopped w ts) f = refl

module _ (room : ℕ) (level : Level room) where
  abbrev loop_piece : Lexeme → Piece Ending nowhere on_ending
  loop_piece keyword = before (header_piece room) t.Close close_real a_close (λ _. refl) (λ header. mapped (looped keyword header) on_ending (ending_piece room level) (looped_same keyword header))

  to_loop : (keyword : Lexeme) (ts : List Lexeme) (a : Ending) → (loop_piece keyword).rel ts a → IsLoopInside room keyword ts a
  to_loop keyword _ _ (both h (marked {t = c} at (image (is_ending body)))) = loop_rest c h at body

  wide_loop : (keyword : Lexeme) (ts : List Lexeme) (a : Ending) → (loop_piece keyword).wide ts a → IsLoopInside (suc room) keyword ts a
  wide_loop keyword _ _ (both h (marked {t = c} at (image (is_ending body)))) = loop_rest c h at body

  of_loop : (keyword : Lexeme) (ts : List Lexeme) (a : Ending) → IsLoopInside room keyword ts a → (loop_piece keyword).rel ts a
  of_loop keyword _ _ (loop_rest c h at body) = both h (marked {t = c} at (image (is_ending body)))

  pub loop_inside_exact : (keyword : Lexeme) → Exact (loop_inside (flagged room) keyword room) (IsLoopInside room keyword) (IsLoopInside (suc room) keyword) nowhere on_ending
  loop_inside_exact keyword = (renamed (IsLoopInside room keyword) (IsLoopInside (suc room) keyword) (loop_piece keyword) (to_loop keyword) (of_loop keyword) (wide_loop keyword)).exact

  -- ---- branches

  abbrev else_piece : Piece Ending nowhere on_ending
  else_piece = either_or (is t.Else) (way (passed (is t.Else) else_real (an_else.0, else_is) (λ _. ending_piece room level))) (value_before on_ending (ending true [])) (λ k e. e) no_else

  otherwise_as : (ts : List Lexeme) → otherwise_flagged (flagged room) ts ≡ else_piece.read ts
  unfolding otherwise_flagged is
  otherwise_as ts = by_head (peek ts)
    where
      by_head : (k : Terminal) → otherwise_flagged_by (flagged room) k ts ≡ cond (is t.Else k) (flagged room (rest ts)) (found (ending true []) ts)
      by_head t.Else = refl
      by_head _ = refl

  -- behind a branch that an else may follow none comes
  no_else_exact : Exact (otherwise_flagged (flagged room)) (IsPure (ending true [])) (IsPure (ending true [])) (is t.Else) on_ending
  no_else_exact = same_exact (otherwise_flagged (flagged room)) otherwise_as
      (second_exact (is t.Else) (pass (λ _. flagged room)) (pure (ending true [])) (IsPure (ending true [])) (IsPure (ending true [])) on_ending (pure_exact (ending true []) on_ending) no_else)

  abbrev otherwise_rel : Ending → Rel Ending
  otherwise_rel (ending false all) = else_piece.rel
  otherwise_rel (ending true all) = IsPure (ending true [])

  abbrev otherwise_wide : Ending → Rel Ending
  otherwise_wide (ending false all) = else_piece.wide
  otherwise_wide (ending true all) = IsPure (ending true [])

  otherwise_exact : (taken : Ending) → Exact (otherwise_flagged (flagged room)) (otherwise_rel taken) (otherwise_wide taken) (on_ending taken) on_ending
  otherwise_exact (ending false all) = (named (otherwise_flagged (flagged room)) else_piece otherwise_as).exact
  otherwise_exact (ending true all) = no_else_exact

  some_otherwise : (taken : Ending) → Some_of (otherwise_wide taken)
  some_otherwise (ending false all) = ([], ending true [], other nothing)
  some_otherwise (ending true all) = ([], ending true [], nothing)

  otherwise_here : (taken : Ending) → Some_of (otherwise_rel taken)
  otherwise_here (ending false all) = ([], ending true [], other nothing)
  otherwise_here (ending true all) = ([], ending true [], nothing)

  abbrev otherwise_piece : (taken : Ending) → Piece Ending (on_ending taken) on_ending
  otherwise_piece taken = record {
    read = otherwise_flagged (flagged room);
    rel = otherwise_rel taken;
    wide = otherwise_wide taken;
    exact = otherwise_exact taken;
    some = some_otherwise taken;
    here = otherwise_here taken;
    begins = λ k. true;
    begun = λ ts left a r. refl;
  }

  abbrev branched_piece : Lexeme → List Part → (taken : Ending) → Piece Ending (on_ending taken) on_ending
  branched_piece keyword parts taken = mapped (branched keyword parts taken) on_ending (otherwise_piece taken) (branched_same keyword parts taken)

  branch_follows : (keyword : Lexeme) (parts : List Part) (taken : Ending) (ts left : List Lexeme) (b : Ending) → (branched_piece keyword parts taken).rel ts b → on_ending b (peek left) ≡ false
      → on_ending taken (peek (ts ++ left)) ≡ false
  branch_follows keyword parts (ending false all) ts left b r end = refl
  branch_follows keyword parts (ending true all) _ left _ (image nothing) end = end

  abbrev branch_piece : Lexeme → Piece Ending nowhere on_ending
  branch_piece keyword = before (cond_piece room) t.Close close_real a_close (λ _. close_ends) (λ parts. behind (ending_piece room level) (branched_piece keyword parts) (branch_follows keyword parts))

  to_rest : (keyword : Lexeme) (parts : List Part) (cs : List Lexeme) (c : Lexeme) → IsCond room cs parts → terminal c ≡ t.Close → (taken : Ending) (ss : List Lexeme) → IsEnding room ss taken
      → (us : List Lexeme) (b : Ending) → (branched_piece keyword parts taken).rel us b → IsBranchInside room keyword (cs ++ (c ∷ ss ++ us)) b
  to_rest keyword parts cs c h at _ ss (is_ending {dangling = true} {all = all} taken) _ _ (image nothing) = subst (λ l. IsBranchInside room keyword (cs ++ c ∷ l) (ending true (branch_of keyword parts all [] ∷ []))) (sym (append-nil ss)) (branch_rest c h at taken)
  to_rest keyword parts cs c h at _ ss (is_ending {dangling = false} {all = all} taken) _ _ (image (other nothing)) = subst (λ l. IsBranchInside room keyword (cs ++ c ∷ l) (ending true (branch_of keyword parts all [] ∷ []))) (sym (append-nil ss)) (branch_rest c h at taken)
  to_rest keyword parts cs c h at _ ss (is_ending {dangling = false} taken) _ _ (image (one (token {t = e} els (is_ending also)))) = branch_else_rest c e h at taken (is_true t.Else (terminal e) els) also

  to_branch : (keyword : Lexeme) (ts : List Lexeme) (a : Ending) → (branch_piece keyword).rel ts a → IsBranchInside room keyword ts a
  to_branch keyword _ a (both {ts = cs} {a = parts} h (marked {t = c} at (both {ts = ss} {us = us} {a = taken} r also))) = to_rest keyword parts cs c h at taken ss r us a also

  wide_rest : (keyword : Lexeme) (parts : List Part) (cs : List Lexeme) (c : Lexeme) → IsCond (suc room) cs parts → terminal c ≡ t.Close → (taken : Ending) (ss : List Lexeme) → IsEnding (suc room) ss taken
      → (us : List Lexeme) (b : Ending) → (branched_piece keyword parts taken).wide us b → IsBranchInside (suc room) keyword (cs ++ (c ∷ ss ++ us)) b
  wide_rest keyword parts cs c h at _ ss (is_ending {dangling = true} {all = all} taken) _ _ (image nothing) = subst (λ l. IsBranchInside (suc room) keyword (cs ++ c ∷ l) (ending true (branch_of keyword parts all [] ∷ []))) (sym (append-nil ss)) (branch_rest c h at taken)
  wide_rest keyword parts cs c h at _ ss (is_ending {dangling = false} {all = all} taken) _ _ (image (other nothing)) = subst (λ l. IsBranchInside (suc room) keyword (cs ++ c ∷ l) (ending true (branch_of keyword parts all [] ∷ []))) (sym (append-nil ss)) (branch_rest c h at taken)
  wide_rest keyword parts cs c h at _ ss (is_ending {dangling = false} taken) _ _ (image (one (token {t = e} els (is_ending also)))) = branch_else_rest c e h at taken (is_true t.Else (terminal e) els) also

  wide_branch : (keyword : Lexeme) (ts : List Lexeme) (a : Ending) → (branch_piece keyword).wide ts a → IsBranchInside (suc room) keyword ts a
  wide_branch keyword _ a (both {ts = cs} {a = parts} h (marked {t = c} at (both {ts = ss} {us = us} {a = taken} r also))) = wide_rest keyword parts cs c h at taken ss r us a also

  no_else_text : (keyword : Lexeme) (parts : List Part) (dangling : Bool) (taken : List Statement) → (branched_piece keyword parts (ending dangling taken)).rel [] (ending true (branch_of keyword parts taken [] ∷ []))
  no_else_text keyword parts true taken = image nothing
  no_else_text keyword parts false taken = image (other nothing)

  of_branch : (keyword : Lexeme) (ts : List Lexeme) (a : Ending) → IsBranchInside room keyword ts a → (branch_piece keyword).rel ts a
  of_branch keyword _ _ (branch_rest {dangling = dangling} c {cs = cs} {ss = ss} {parts = parts} {taken = taken} h at r) =
      both h (marked {t = c} at (subst (λ l. IsThen (IsEnding room) (λ taken. (branched_piece keyword parts taken).rel) l (ending true (branch_of keyword parts taken [] ∷ []))) (append-nil ss)
      (both (is_ending r) (no_else_text keyword parts dangling taken))))
  of_branch keyword _ _ (branch_else_rest c e h at taken els also) = both h (marked {t = c} at (both (is_ending {dangling = false} taken) (image (one (token {t = e} (true_is t.Else (terminal e) els) (is_ending also))))))

  pub branch_inside_exact : (keyword : Lexeme) → Exact (branch_inside (flagged room) keyword room) (IsBranchInside room keyword) (IsBranchInside (suc room) keyword) nowhere on_ending
  branch_inside_exact keyword = (renamed (IsBranchInside room keyword) (IsBranchInside (suc room) keyword) (branch_piece keyword) (to_branch keyword) (of_branch keyword) (wide_branch keyword)).exact

  -- ---- statements in braces

  abbrev many_piece : Piece Ending nowhere on_many
  many_piece = record {
    read = many begins_statement join_ending (flagged room) (ending false []);
    rel = IsMany join_ending (IsEnding room) (ending false []);
    wide = IsMany join_ending (IsEnding (suc room)) (ending false []);
    exact = many_exact begins_statement join_ending (flagged room) (IsEnding room) (IsEnding (suc room)) on_ending on_ending (anywhere (λ k. not (begins_statement k)) level) (some_ending (suc room)) refl
        (ending_begins room) joined_same begins_no_else (ending false []);
    some = ([], ending false [], no_more);
    here = ([], ending false [], no_more);
    begins = λ k. true;
    begun = λ ts left a r. refl;
  }

  abbrev braced_piece : Piece (List Statement) nowhere none
  braced_piece = before many_piece t.CloseBrace close_brace_real a_close_brace brace_ends (λ e. value (left_of e))

  to_braced : (ts : List Lexeme) (a : List Statement) → braced_piece.rel ts a → IsBraced room ts a
  to_braced _ _ (both {ts = ss} {a = e} m (marked {t = c} at nothing)) = let r = to_statements room m in subst (λ all. IsBraced room (ss ++ c ∷ []) all) (sym r.1) (braced c r.2 at)

  wide_braced : (ts : List Lexeme) (a : List Statement) → braced_piece.wide ts a → IsBraced (suc room) ts a
  wide_braced _ _ (both {ts = ss} {a = e} m (marked {t = c} at nothing)) = let r = to_statements (suc room) m in subst (λ all. IsBraced (suc room) (ss ++ c ∷ []) all) (sym r.1) (braced c r.2 at)

  of_braced : (ts : List Lexeme) (a : List Statement) → IsBraced room ts a → braced_piece.rel ts a
  of_braced _ _ (braced c {ss = ss} {all = all} r at) = let m = of_statements room (ending false []) r in both m.2 (marked {t = c} at (subst (λ z. IsPure (left_of m.0) [] z) m.1 nothing))

  braced_as : (ts : List Lexeme) → braces (statement room) ts ≡ braced_piece.read ts
  unfolding statements_of many
  braced_as ts =
      ap (λ r. and_then r (λ all. expect t.CloseBrace >> pure all)) (sym (many_out (statement room) (flagged room) (flagged_out room) (length ts) (ending false []) ts))
      ∙ out_then (many_from begins_statement join_ending (flagged room) (length ts) (ending false []) ts) (λ all. expect t.CloseBrace >> pure all)

  pub braced_exact : Exact (braces (statement room)) (IsBraced room) (IsBraced (suc room)) nowhere none
  braced_exact = (renamed (IsBraced room) (IsBraced (suc room)) (named (braces (statement room)) braced_piece braced_as) to_braced of_braced wide_braced).exact

-- ---- the constructs that open at a room
