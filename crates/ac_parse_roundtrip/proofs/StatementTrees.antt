-- The trees of statements.
use Rattle.std.specs.Prelude.{List, [], ◌∷◌, ◌++◌, length, codes, Bool, true, false, ℤ, pos, negsuc, None, slice_get}
use Rattle.std.specs.List.{flat_map, AllByRecursion}
use Rattle.std.proofs.Common.{◌≡◌, ℕ, suc, ◌+◌, refl, sym, ◌∙◌, ap, subst, arith}
use Rattle.std.proofs.lemmas.List.{append-nil}
use Rattle.ac_syntax.specs.declared.tree.Place.{Place}
use Rattle.ac_syntax.specs.declared.tree.IndexExpr.{IndexExpr}
use Rattle.ac_syntax.specs.declared.tree.Cond.{Cond}
use Rattle.ac_syntax.specs.declared.tree.Value.{Value}
use Rattle.ac_syntax.specs.declared.tree.Stmt.{Stmt, Row_of-Stmt, end_of-Stmt, more_of-Stmt}
use Rattle.ac_syntax.specs.declared.tree.Stmt.TheVariants.{For', If', Assign}
use Rattle.ac_syntax.specs.Small.{IsSmall}
use Rattle.ac_syntax.specs.Text.{Scope, inside, deeper, array_name}
use Rattle.ac_syntax.proofs.Pairwise.{every_append}
use Rattle.ac_lex.specs.Lexemes.{Lexeme}
use Rattle.ac_parse_grammar.specs.declared.tree.Word.{Word}
use Rattle.ac_parse_grammar.specs.declared.tree.Expr.{Expr}
use Rattle.ac_parse_grammar.specs.declared.tree.Part.{Part}
use Rattle.ac_parse_grammar.specs.declared.tree.Step.{Step}
use Rattle.ac_parse_grammar.specs.declared.tree.Statement.{Statement}
use Rattle.ac_parse_grammar.specs.declared.tree.Statement.TheVariants as statement
use Rattle.ac_parse_grammar.specs.TokenWords.{place_of, word_of, numeral_of}
use Rattle.ac_parse_grammar.specs.Grammar.{IsExpr, Subscripts, IsCond, IsPrimary}
use Rattle.ac_parse_grammar.specs.StatementsGrammar as g
use Rattle.ac_parse_grammar.specs.StatementsGrammar.{IsStep, IsStatement, IsStatements, IsAssignment, is_whole, change_of, assigns_of}
use Rattle.ac_parse_roundtrip.specs.Items.{Item, word, form, cond, subscripts, value, line, step, loop, branch, otherwise, stmt, body, other_branch}
use Rattle.ac_parse_roundtrip.specs.CanonicalTrees.{Each, IsWordOf, IsFormTree, IsConditionTree, IsValueTree, IsStepTree, IsStatementTree, AreStatementTrees}
use Rattle.ac_parse_roundtrip.specs.GrammarPrograms.{IsName, HasLiterals, HasComparisons, HasStatementNames, HaveStatementNames}
use Rattle.ac_parse_roundtrip.proofs.ItemSequences.{after, lexemes-append, Reads, weaker, other_items}
use Rattle.ac_parse_roundtrip.proofs.TokenTerminals.{mark_at, word_at, number_at, name_is, number_is, numeral_is, for_is, if_is, else_is, int_is, open_is, close_is, open_brace_is, close_brace_is, semicolon_is, becomes_is, plus_becomes_is, minus_becomes_is}
use Rattle.ac_parse_roundtrip.proofs.Depths.{Deep, always, above_one, above_two, same_depth, both_deep}
use Rattle.ac_parse_roundtrip.proofs.Depths as depths
use Rattle.ac_parse_roundtrip.proofs.FormTrees.{IsNamedScope, of_primary}
use Rattle.ac_parse_roundtrip.proofs.ConditionTrees.{cond_read}
use Rattle.ac_parse_roundtrip.proofs.ValueTrees.{form_deep, subscripts_deep, value_deep}
use Rattle.ac_parse_roundtrip.proofs.Lines.{close_line, line_alone, assign_items, becomes_place, value_place, assign_tokens, loop_items, open_place, int_place, iter_place, start_becomes, start_place, cond_place, step_place, close_place, loop_at, loop_below, loop_end, loop_whole, branch_items, test_open, test_place, test_close, branch_at, branch_below, branch_end, branch_whole, else_at, else_below, else_end, else_whole}

-- ---- steps

step_read : (iter : List ℕ) (by : ℤ) → IsName iter → IsSmall by → Reads IsStep (IsStepTree iter by) (word iter ∷ step by)
step_read iter (pos n) named small = record {
  at = λ at.
      let w = word_at at iter in
      let sign = at + length iter + 1 in
      let m = number_at (sign + 2 + 1) n in (
        record { target = word_of w; source = None; down = false; by = numeral_of m },
        g.changed (name_is at iter named) (ap change_of (plus_becomes_is sign)) (number_is (sign + 2 + 1) n),
        record { target = refl; source = refl; down = refl; number = numeral_is (sign + 2 + 1) n small },
      );
}
step_read iter (negsuc n) named small = record {
  at = λ at.
      let w = word_at at iter in
      let sign = at + length iter + 1 in
      let m = number_at (sign + 2 + 1) (suc n) in (
        record { target = word_of w; source = None; down = true; by = numeral_of m },
        g.changed (name_is at iter named) (ap change_of (minus_becomes_is sign)) (number_is (sign + 2 + 1) (suc n)),
        record { target = refl; source = refl; down = refl; number = numeral_is (sign + 2 + 1) (suc n) small },
      );
}

-- ---- one statement from the trees of its parts

-- a statement that leaves one tree
pub data IsOne (room : ℕ) : List Lexeme → Statement → Type 0 where
  one : {dangling : Bool} {ts : List Lexeme} {s : Statement} → IsStatement room dangling ts (s ∷ []) → IsOne room ts s

abbrev IsAssignOf : List ℕ → (List Expr → Type 0) → (Expr → Type 0) → Statement → Type 0
IsAssignOf name S V tree =
    (target : Word) × (trees : List Expr) × (right : Expr) × IsWordOf name target × S trees × V right × (tree ≡ statement.Assign target trees None right)

assign_read : (room : ℕ) (indent name : List ℕ) (S : List Expr → Type 0) (V : Expr → Type 0) (ss vs : List Item)
    → IsName name → Reads (Subscripts room) S ss → Reads (IsPrimary room) V vs → Reads (IsOne room) (IsAssignOf name S V) (line indent (assign_items name ss vs))
assign_read room indent name S V ss vs named s v = record {
  at = λ at.
      let a = at + length indent in
      let x = s.at (a + length name) in
      let y = v.at (value_place a name ss vs) in
      let n = word_at a name in
      let tree = statement.Assign (word_of n) x.0 None y.0 in (
        tree,
        subst (λ ts. IsOne room ts tree) (sym (line_alone at indent (assign_items name ss vs) ∙ assign_tokens a name ss vs))
            (one (g.assign (g.assignment (mark_at (becomes_place a name ss vs) (codes "=")) (mark_at (after (value_place a name ss vs) vs) (codes ";"))
            (name_is a name named) x.1 (ap assigns_of (becomes_is (becomes_place a name ss vs))) (of_primary y.1) (semicolon_is (after (value_place a name ss vs) vs))))),
        (word_of n, x.0, y.0, refl, x.2, y.2, refl),
      );
}

abbrev IsLoopOf : List ℕ → (Expr → Type 0) → (List Part → Type 0) → (Step → Type 0) → (List Statement → Type 0) → Statement → Type 0
IsLoopOf iter F C S B tree =
    (name : Word) × (from : Expr) × (parts : List Part) × (step : Step) × (trees : List Statement) × (keyword : Place)
    × IsWordOf iter name × F from × C parts × S step × B trees × (tree ≡ statement.Loop true name from parts step trees keyword)

loop_read : (room : ℕ) (indent iter : List ℕ) (F : Expr → Type 0) (C : List Part → Type 0) (S : Step → Type 0) (B : List Statement → Type 0)
    (fs cs ss bs : List Item) → IsName iter → Reads (IsExpr (suc room)) F fs → Reads (IsCond (suc room)) C cs → Reads IsStep S ss → Reads (IsStatements room) B bs
    → Reads (IsOne (suc (suc room))) (IsLoopOf iter F C S B) (line indent (loop_items iter fs cs ss) ++ bs ++ close_line indent)
loop_read room indent iter F C S B fs cs ss bs named f c s b = record {
  at = λ at.
      let a = loop_at at indent iter fs cs ss bs in
      let x = f.at (start_place a iter fs cs ss) in
      let y = c.at (cond_place a iter fs cs ss) in
      let z = s.at (step_place a iter fs cs ss) in
      let w = b.at (loop_below at indent iter fs cs ss bs) in
      let n = word_at (iter_place a iter fs cs ss) iter in
      let first = after (start_place a iter fs cs ss) fs in
      let second = after (cond_place a iter fs cs ss) cs in
      let close = close_place a iter fs cs ss in
      let end = loop_end at indent iter fs cs ss bs in
      let tree = statement.Loop true (word_of n) x.0 y.0 z.0 w.0 (place_of (word_at a (codes "for"))) in (
        tree,
        subst (λ ts. IsOne (suc (suc room)) ts tree) (sym (loop_whole at indent iter fs cs ss bs))
            (one (g.loop (mark_at close (codes ")")) (for_is a) (open_is (open_place a iter fs cs ss))
            (g.header n (mark_at (start_becomes a iter fs cs ss) (codes "=")) (mark_at first (codes ";")) (mark_at second (codes ";"))
            (g.typed (ap is_whole (int_is (int_place a iter fs cs ss)))) (name_is (iter_place a iter fs cs ss) iter named) (becomes_is (start_becomes a iter fs cs ss)) x.1
            (semicolon_is first) y.1 (semicolon_is second) z.1)
            (close_is close) (g.block (mark_at end (codes "}")) (open_brace_is (close + 1 + 1)) w.1 (close_brace_is end)))),
        (word_of n, x.0, y.0, z.0, w.0, place_of (word_at a (codes "for")), refl, x.2, y.2, z.2, w.2, refl),
      );
}

abbrev IsBranchOf : (List Part → Type 0) → (List Statement → Type 0) → (List Statement → Type 0) → Statement → Type 0
IsBranchOf C B E tree =
    (parts : List Part) × (first : List Statement) × (second : List Statement) × (keyword : Place) × C parts × B first × E second
    × (tree ≡ statement.Branch parts first second keyword)

branch_read : (room : ℕ) (indent : List ℕ) (C : List Part → Type 0) (B E : List Statement → Type 0) (cs bs : List Item) → E []
    → Reads (IsCond (suc room)) C cs → Reads (IsStatements room) B bs
    → Reads (IsOne (suc (suc room))) (IsBranchOf C B E) (line indent (branch_items cs) ++ bs ++ close_line indent)
branch_read room indent C B E cs bs nothing c b = record {
  at = λ at.
      let a = branch_at at indent cs bs in
      let x = c.at (test_place a cs) in
      let y = b.at (branch_below at indent cs bs) in
      let close = test_close a cs in
      let end = branch_end at indent cs bs in
      let keyword = place_of (word_at a (codes "if")) in
      let tree = statement.Branch x.0 y.0 [] keyword in (
        tree,
        subst (λ ts. IsOne (suc (suc room)) ts tree) (sym (branch_whole at indent cs bs))
            (one (g.branch (mark_at close (codes ")")) (if_is a) (open_is (test_open a cs)) x.1 (close_is close)
            (g.block (mark_at end (codes "}")) (open_brace_is (close + 1 + 1)) y.1 (close_brace_is end)))),
        (x.0, y.0, [], keyword, x.2, y.2, nothing, refl),
      );
}

else_read : (room : ℕ) (indent : List ℕ) (C : List Part → Type 0) (B E : List Statement → Type 0) (cs bs es : List Item)
    → Reads (IsCond (suc room)) C cs → Reads (IsStatements room) B bs → Reads (IsStatements room) E es
    → Reads (IsOne (suc (suc room))) (IsBranchOf C B E) (line indent (branch_items cs) ++ bs ++ (line indent otherwise ++ es) ++ close_line indent)
else_read room indent C B E cs bs es c b e = record {
  at = λ at.
      let a = branch_at at indent cs bs in
      let x = c.at (test_place a cs) in
      let y = b.at (branch_below at indent cs bs) in
      let z = e.at (else_below at indent cs bs) in
      let close = test_close a cs in
      let end = branch_end at indent cs bs in
      let other = else_at at indent cs bs in
      let last = else_end at indent cs bs es in
      let keyword = place_of (word_at a (codes "if")) in
      let tree = statement.Branch x.0 y.0 z.0 keyword in (
        tree,
        subst (λ ts. IsOne (suc (suc room)) ts tree) (sym (else_whole at indent cs bs es))
            (one (g.branch_with_else (mark_at close (codes ")")) (word_at other (codes "else")) (if_is a) (open_is (test_open a cs)) x.1 (close_is close)
            (g.block (mark_at end (codes "}")) (open_brace_is (close + 1 + 1)) y.1 (close_brace_is end)) (else_is other)
            (g.block (mark_at last (codes "}")) (open_brace_is (other + 4 + 1)) z.1 (close_brace_is last)))),
        (x.0, y.0, z.0, keyword, x.2, y.2, z.2, refl),
      );
}

-- ---- statements

abbrev pub StatementReads : Scope → List ℕ → Stmt → ℕ → Type 0
StatementReads scope indent s room = Reads (IsOne room) (IsStatementTree scope s) (stmt scope indent s)

abbrev BodyReads : Scope → List ℕ → {m : _} → Row_of-Stmt m → ℕ → Type 0
BodyReads scope indent row room = Reads (IsStatements room) (AreStatementTrees scope row) (body scope indent row)

-- inside a loop
inside_named : (scope : Scope) (iter : List ℕ) → IsNamedScope scope → IsName iter → IsNamedScope (inside scope iter)
inside_named scope iter named name = record { params = named.params; iters = every_append IsName scope.iters (iter ∷ []) named.iters (name, tt) }

abbrev CondReads : Scope → Cond → ℕ → Type 0
CondReads scope c room = Reads (IsCond (suc room)) (IsConditionTree scope c) (cond scope c)

pub higher : (P : ℕ → Type 0) → Deep P → Deep (λ room. P (suc room))
higher P d = record { depth = d.depth; holds = λ room enough. d.holds (suc room) (omega arith) }

cond_deep : (scope : Scope) (c : Cond) → IsNamedScope scope → HasComparisons c → Deep (CondReads scope c)
cond_deep scope c named has = above_two (CondReads scope c) (always (λ room. CondReads scope c (suc (suc room))) (λ room. cond_read room scope c named has))

inside_two : (P Q : ℕ → Type 0) → ((room : ℕ) → P room → Q (suc (suc room))) → Deep P → Deep Q
inside_two P Q f d = above_one Q (depths.deeper P (λ room. Q (suc room)) f d)

assign_deep : (scope : Scope) (indent : List ℕ) (array : ℕ) (subs : List IndexExpr) (v : Value) (place : Place) → IsNamedScope scope
    → HasStatementNames scope.arrays (Assign array subs v place) → Deep (StatementReads scope indent (Assign array subs v place))
unfolding HasStatementNames IsStatementTree stmt
assign_deep scope indent array subs v place named has =
    let name = array_name (slice_get scope.arrays array) in
    let S = Each (IsFormTree scope) subs in
    let V = IsValueTree scope v in
    same_depth (λ room. Reads (Subscripts room) S (subscripts scope subs) × Reads (IsPrimary room) V (value scope v)) (StatementReads scope indent (Assign array subs v place))
    (λ room r. weaker (λ ts a p. p) (λ a x. x) (assign_read room indent name S V (subscripts scope subs) (value scope v) has.0 r.0 r.1))
    (both_deep (λ room. Reads (Subscripts room) S (subscripts scope subs)) (λ room. Reads (IsPrimary room) V (value scope v))
    (subscripts_deep scope named subs has.1) (value_deep scope named v has.2))

abbrev LoopReads : Scope → List ℕ → List ℕ → IndexExpr → Cond → ℤ → {m : _} → Row_of-Stmt m → ℕ → Type 0
LoopReads scope indent iter start c by row room =
    Reads (IsOne room) (IsLoopOf iter (IsFormTree scope start) (IsConditionTree (inside scope iter) c) (IsStepTree iter by) (AreStatementTrees (inside scope iter) row))
    (line indent (loop scope iter start c by) ++ body (inside scope iter) (deeper indent) row ++ close_line indent)

loop_deep : (scope : Scope) (indent iter : List ℕ) (start : IndexExpr) (c : Cond) (by : ℤ) {m : _} (row : Row_of-Stmt m) → IsNamedScope scope
    → IsName iter → HasLiterals start → HasComparisons c → IsSmall by → Deep (BodyReads (inside scope iter) (deeper indent) row) → Deep (LoopReads scope indent iter start c by row)
loop_deep scope indent iter start c by row named name has_start has_cond small d =
    let within = inside scope iter in
    let F = IsFormTree scope start in
    let StartReads : ℕ → Type 0 = λ room. Reads (IsExpr (suc room)) F (form scope start) in
    let inner = inside_named scope iter named name in
    inside_two (λ room. StartReads room × (CondReads within c room × BodyReads within (deeper indent) row room)) (LoopReads scope indent iter start c by row)
    (λ room r. loop_read room indent iter F (IsConditionTree within c) (IsStepTree iter by) (AreStatementTrees within row)
    (form scope start) (cond within c) (word iter ∷ step by) (body within (deeper indent) row) name r.0 r.1.0 (step_read iter by name small) r.1.1)
    (both_deep StartReads (λ room. CondReads within c room × BodyReads within (deeper indent) row room)
    (higher (λ room. Reads (IsExpr room) F (form scope start)) (form_deep scope named start has_start))
    (both_deep (CondReads within c) (BodyReads within (deeper indent) row) (cond_deep within c inner has_cond) d))

abbrev BranchReads : Scope → List ℕ → Cond → {n : _} → Row_of-Stmt n → {m : _} → Row_of-Stmt m → ℕ → Type 0
BranchReads scope indent c taken other room =
    Reads (IsOne room) (IsBranchOf (IsConditionTree scope c) (AreStatementTrees scope taken) (AreStatementTrees scope other))
    (line indent (branch scope c) ++ body scope (deeper indent) taken ++ other_branch scope indent other ++ close_line indent)

branch_deep : (scope : Scope) (indent : List ℕ) (c : Cond) {n : _} (taken : Row_of-Stmt n) {m : _} (other : Row_of-Stmt m) → IsNamedScope scope
    → HasComparisons c → Deep (BodyReads scope (deeper indent) taken) → Deep (BodyReads scope (deeper indent) other) → Deep (BranchReads scope indent c taken other)
unfolding AreStatementTrees body other_branch
branch_deep scope indent c taken end_of-Stmt named has d e =
    let C = IsConditionTree scope c in
    let bs = body scope (deeper indent) taken in
    inside_two (λ room. CondReads scope c room × BodyReads scope (deeper indent) taken room) (BranchReads scope indent c taken end_of-Stmt)
    (λ room r. other_items (ap (λ is. is ++ close_line indent) (sym (append-nil (line indent (branch_items (cond scope c)) ++ bs))))
    (branch_read room indent C (AreStatementTrees scope taken) (AreStatementTrees scope end_of-Stmt) (cond scope c) bs refl r.0 r.1))
    (both_deep (CondReads scope c) (BodyReads scope (deeper indent) taken) (cond_deep scope c named has) d)
branch_deep scope indent c taken (more_of-Stmt s rest) named has d e =
    let C = IsConditionTree scope c in
    let other = more_of-Stmt s rest in
    inside_two (λ room. CondReads scope c room × (BodyReads scope (deeper indent) taken room × BodyReads scope (deeper indent) other room)) (BranchReads scope indent c taken other)
    (λ room r. else_read room indent C (AreStatementTrees scope taken) (AreStatementTrees scope other)
    (cond scope c) (body scope (deeper indent) taken) (body scope (deeper indent) other) r.0 r.1.0 r.1.1)
    (both_deep (CondReads scope c) (λ room. BodyReads scope (deeper indent) taken room × BodyReads scope (deeper indent) other room) (cond_deep scope c named has)
    (both_deep (BodyReads scope (deeper indent) taken) (BodyReads scope (deeper indent) other) d e))

no_body : (scope : Scope) (indent : List ℕ) (room : ℕ) → BodyReads scope indent end_of-Stmt room
unfolding AreStatementTrees body
no_body scope indent room = record { at = λ at. ([], g.no_statement, refl) }

more_statements : {room : ℕ} {ts us : List Lexeme} {s : Statement} {more : List Statement} → IsOne room ts s → IsStatements room us more → IsStatements room (ts ++ us) (s ∷ more)
more_statements (one x) y = g.a_statement x y

more_body : (scope : Scope) (indent : List ℕ) (s : Stmt) {m : _} (rest : Row_of-Stmt m) (room : ℕ) → StatementReads scope indent s room → BodyReads scope indent rest room
    → BodyReads scope indent (more_of-Stmt s rest) room
unfolding AreStatementTrees body
more_body scope indent s rest room r q = record {
  at = λ at.
      let x = r.at at in
      let y = q.at (after at (stmt scope indent s)) in (
        x.0 ∷ y.0,
        subst (λ ts. IsStatements room ts (x.0 ∷ y.0)) (sym (lexemes-append at (stmt scope indent s) (body scope indent rest))) (more_statements x.1 y.1),
        (x.0, y.0, x.2, y.2, refl),
      );
}

mutual
  unfolding HasStatementNames HaveStatementNames IsStatementTree stmt

  pub statement_deep : (scope : Scope) (indent : List ℕ) (s : Stmt) → IsNamedScope scope → HasStatementNames scope.arrays s → Deep (StatementReads scope indent s)
  statement_deep scope indent (For' iter start c by n row place) named has =
      same_depth (LoopReads scope indent iter start c by row) (StatementReads scope indent (For' iter start c by n row place)) (λ room r. weaker (λ ts a p. p) (λ a x. x) r)
      (loop_deep scope indent iter start c by row named has.0 has.1 has.2 has.3
      (body_deep (inside scope iter) (deeper indent) row (inside_named scope iter named has.0) has.4))
  statement_deep scope indent (If' c n taken m other place) named has =
      same_depth (BranchReads scope indent c taken other) (StatementReads scope indent (If' c n taken m other place)) (λ room r. weaker (λ ts a p. p) (λ a x. x) r)
      (branch_deep scope indent c taken other named has.0 (body_deep scope (deeper indent) taken named has.1) (body_deep scope (deeper indent) other named has.2))
  statement_deep scope indent (Assign array subs v place) named has = assign_deep scope indent array subs v place named has

  body_deep : (scope : Scope) (indent : List ℕ) {m : _} (row : Row_of-Stmt m) → IsNamedScope scope → HaveStatementNames scope.arrays row → Deep (BodyReads scope indent row)
  body_deep scope indent end_of-Stmt named has = always (BodyReads scope indent end_of-Stmt) (no_body scope indent)
  body_deep scope indent (more_of-Stmt s rest) named has =
      same_depth (λ room. StatementReads scope indent s room × BodyReads scope indent rest room) (BodyReads scope indent (more_of-Stmt s rest))
      (λ room r. more_body scope indent s rest room r.0 r.1)
      (both_deep (StatementReads scope indent s) (BodyReads scope indent rest) (statement_deep scope indent s named has.0) (body_deep scope indent rest named has.1))

-- those of a function
module _ (scope : Scope) (indent : List ℕ) where
  abbrev pub StatementsRead : List Stmt → ℕ → Type 0
  StatementsRead ss room = Reads (IsStatements room) (Each (IsStatementTree scope) ss) (flat_map (stmt scope indent) ss)

  more_read : (s : Stmt) (ss : List Stmt) (room : ℕ) → StatementReads scope indent s room → StatementsRead ss room → StatementsRead (s ∷ ss) room
  more_read s ss room r q = record {
    at = λ at.
        let x = r.at at in
        let y = q.at (after at (stmt scope indent s)) in (
          x.0 ∷ y.0,
          subst (λ ts. IsStatements room ts (x.0 ∷ y.0)) (sym (lexemes-append at (stmt scope indent s) (flat_map (stmt scope indent) ss))) (more_statements x.1 y.1),
          (x.2, y.2),
        );
  }

  pub statements_deep : (ss : List Stmt) → IsNamedScope scope → AllByRecursion (HasStatementNames scope.arrays) ss → Deep (StatementsRead ss)
  statements_deep [] named has = always (StatementsRead []) (λ room. record { at = λ at. ([], g.no_statement, tt) })
  statements_deep (s ∷ ss) named has =
      same_depth (λ room. StatementReads scope indent s room × StatementsRead ss room) (StatementsRead (s ∷ ss)) (λ room r. more_read s ss room r.0 r.1)
      (both_deep (StatementReads scope indent s) (StatementsRead ss) (statement_deep scope indent s named has.0) (statements_deep ss named has.1))
