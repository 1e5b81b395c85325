-- What holds of loops and branches of statements with it, and of assignments, holds of each statement that the grammar gives for
-- tokens that are spelled as their kinds say.
use Rattle.std.specs.Prelude.{Bool, List, [], ◌∷◌, ◌++◌, Option}
use Rattle.std.specs.List.{AllByRecursion}
use Rattle.std.proofs.Common.{ℕ}
use Rattle.ac_syntax.specs.declared.tree.Place.{Place}
use Rattle.ac_lex.specs.Lexemes.{Lexeme}
use Rattle.ac_parse_grammar.specs.declared.statements.LoopHeader.{LoopHeader}
use Rattle.ac_parse_grammar.specs.declared.tree.Word.{Word}
use Rattle.ac_parse_grammar.specs.declared.tree.Operator.{Operator}
use Rattle.ac_parse_grammar.specs.declared.tree.Expr.{Expr}
use Rattle.ac_parse_grammar.specs.declared.tree.Part.{Part}
use Rattle.ac_parse_grammar.specs.declared.tree.Step.{Step}
use Rattle.ac_parse_grammar.specs.declared.tree.Statement.{Statement}
use Rattle.ac_parse_grammar.specs.declared.tree.Statement.TheVariants as statement
use Rattle.ac_parse_grammar.specs.TokenWords.{place_of, word_of}
use Rattle.ac_parse_grammar.specs.Grammar.{IsExpr}
use Rattle.ac_parse_grammar.specs.StatementsGrammar.{IsAssignment, assignment, IsHeader, header, IsStatement, empty, block, loop, branch, branch_with_else, assign, IsStatements, no_statement, a_statement}
use Rattle.ac_parse_exprs.proofs.Absent.{each_append}
use Rattle.ac_parse_roundtrip.specs.TokenSpelling.{AreSpelled}
use Rattle.ac_parse_roundtrip.proofs.NameTerminals.{IsNamed, is_named}
use Rattle.ac_parse_roundtrip.proofs.Expressions.{front_spelled, rest_spelled, HasPart, cond_has_part}

module _ (E : Expr → Type 0) (P : Statement → Type 0)
    (value_has : (room : ℕ) (ts : List Lexeme) (e : Expr) → IsExpr room ts e → AreSpelled ts → E e)
    (loop_has : (typed : Bool) (name : Word) (start : Expr) (cond : List Part) (step : Step) (body : List Statement) (place : Place)
    → IsNamed name.name → HasPart cond → AllByRecursion P body → P (statement.Loop typed name start cond step body place))
    (branch_has : (cond : List Part) (taken other : List Statement) (place : Place) → HasPart cond → AllByRecursion P taken → AllByRecursion P other → P (statement.Branch cond taken other place))
    (assign_has : (target : Word) (subs : List Expr) (operator : Option Operator) (e : Expr) → E e → P (statement.Assign target subs operator e)) where
  assignment_has : {room : ℕ} {ts : List Lexeme} {s : Statement} → IsAssignment room ts s → AreSpelled ts → P s
  assignment_has (assignment {room = room} {n = n} m c {ss = ss} {es = es} {subs = subs} {operator = operator} {value = value} is are assigns of semicolon) h =
      assign_has (word_of n) subs operator value (value_has room es value of (front_spelled es (c ∷ []) (rest_spelled ss (m ∷ es ++ c ∷ []) h.1).1))

  record IsHead (head : LoopHeader) : Type 0 where
    name : IsNamed head.name.name
    cond : HasPart head.cond

  header_has : {room : ℕ} {ts : List Lexeme} {head : LoopHeader} → IsHeader room ts head → AreSpelled ts → IsHead head
  header_has (header n m c d {ws = ws} {es = es} {cs = cs} {ss = ss} has_type is becomes from semicolon of again step) h =
      record { name = is_named n (rest_spelled ws (n ∷ m ∷ es ++ (c ∷ cs ++ d ∷ ss)) h).0 is; cond = cond_has_part of }

  mutual
    pub statement_has : {room : ℕ} {dangling : Bool} {ts : List Lexeme} {ss : List Statement} → IsStatement room dangling ts ss → AreSpelled ts → AllByRecursion P ss
    statement_has (empty is) h = tt
    statement_has (block c {ss = ss} opens are closes) h = statements_have are (front_spelled ss (c ∷ []) h.1)
    statement_has (loop {f = f} c {hs = hs} {ss = ss} {header = head} {body = body} for opens of closes are) h =
        let is = header_has of (front_spelled hs (c ∷ ss) h.1.1) in
        (loop_has head.typed head.name head.start head.cond head.step body (place_of f) is.name is.cond (statement_has are (rest_spelled hs (c ∷ ss) h.1.1).1), tt)
    statement_has (branch {f = f} c {cs = cs} {ss = ss} {cond = cond} {taken = taken} if_is opens of closes are) h =
        (branch_has cond taken [] (place_of f) (cond_has_part of) (statement_has are (rest_spelled cs (c ∷ ss) h.1.1).1) tt, tt)
    statement_has (branch_with_else {f = f} c e {cs = cs} {ss = ss} {us = us} {cond = cond} {taken = taken} {other = other} if_is opens of closes are else_is more) h =
        let k = (rest_spelled cs (c ∷ ss ++ e ∷ us) h.1.1).1 in
        (branch_has cond taken other (place_of f) (cond_has_part of) (statement_has are (front_spelled ss (e ∷ us) k)) (statement_has more (rest_spelled ss (e ∷ us) k).1), tt)
    statement_has (assign is) h = (assignment_has is h, tt)

    pub statements_have : {room : ℕ} {ts : List Lexeme} {ss : List Statement} → IsStatements room ts ss → AreSpelled ts → AllByRecursion P ss
    statements_have no_statement h = tt
    statements_have (a_statement {ts = ts} {us = us} {first = first} {more = others} is are) h =
        each_append P first others (statement_has is (front_spelled ts us h)) (statements_have are (rest_spelled ts us h))
