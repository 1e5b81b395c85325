-- Each branch of a file of the grammar has a comparison in its condition.
use Rattle.std.proofs.Common.{◌≡◌, ◌<◌, ◌+◌, arith, ℕ, Bool, true, Option, List, [], ◌∷◌, map, length, refl, rules, ap, ◌∙◌, sym, subst}
use Rattle.std.specs.Prelude.{◌&&◌, nat_lt}
use Rattle.std.specs.List.{list_all}
use Rattle.std.proofs.lemmas.List.Folds.{list_all-append}
use Rattle.std.proofs.lemmas.List.{length-append}
use Rattle.std.proofs.lemmas.Bool.{lt-ltb}
use Rattle.ac_lex.specs.Lexemes.{Lexeme}
use Rattle.ac_syntax.specs.declared.tree.Place.{Place}
use Rattle.ac_parse_grammar.specs.declared.tree.Word.{Word}
use Rattle.ac_parse_grammar.specs.declared.tree.Step.{Step}
use Rattle.ac_parse_grammar.specs.declared.tree.Part.{Part}
use Rattle.ac_parse_grammar.specs.declared.tree.Operator.{Operator}
use Rattle.ac_parse_grammar.specs.declared.tree.Expr.{Expr}
use Rattle.ac_parse_grammar.specs.declared.tree.Statement.{Statement, the_lemmas}
use Rattle.ac_parse_grammar.specs.declared.tree.Statement.TheVariants.{Loop, Branch, Assign}
use Rattle.ac_parse_grammar.specs.declared.tree.File.{File}
use Rattle.ac_parse_grammar.specs.Grammar.{IsCond, one_part, next_part, IsPart, comparison, nested}
use Rattle.ac_parse_grammar.specs.StatementsGrammar.{assignment, IsStatement, empty, block, loop, branch, branch_with_else, assign, IsStatements, no_statement, a_statement}
use Rattle.ac_parse_grammar.specs.FileGrammar.{function, IsFile, file}
use Rattle.ac_parse_rules.specs.DeclaredNumbers.{has_conditions, HasConditions}

more : (m n : ℕ) → 0 < m → 0 < m + n
more m n h = omega arith

mutual
  cond_some : {room : ℕ} {ts : List Lexeme} {ps : List Part} → IsCond room ts ps → 0 < length ps
  cond_some (one_part p) = part_some p
  cond_some (next_part {ps = ps} {qs = qs} also c is p) = subst (λ n. 0 < n) (sym (length-append ps qs)) (more (length ps) (length qs) (cond_some c))

  part_some : {room : ℕ} {ts : List Lexeme} {ps : List Part} → IsPart room ts ps → 0 < length ps
  part_some (comparison sign a is b) = omega arith
  part_some (nested right o c e) = cond_some c

all_of : {A : Type 0} (f : A → Bool) (xs : List A) → list_all (λ b. b) (map f xs) ≡ list_all f xs
all_of f [] = refl
all_of f (x ∷ xs) = ap (λ b. f x && b) (all_of f xs)

conditions-loop : (typed : Bool) (word : Word) (start : Expr) (cond : List Part) (step : Step) (body : List Statement) (place : Place)
    → has_conditions (Loop typed word start cond step body place) ≡ list_all has_conditions body
unfolding has_conditions
conditions-loop typed word start cond step body place = search (rules, the_lemmas, all_of)

conditions-branch : (cond : List Part) (taken other : List Statement) (place : Place)
    → has_conditions (Branch cond taken other place) ≡ (nat_lt 0 (length cond) && (list_all has_conditions taken && list_all has_conditions other))
unfolding has_conditions
conditions-branch cond taken other place = search (rules, the_lemmas, all_of)

conditions-assign : (target : Word) (subs : List Expr) (operator : Option Operator) (value : Expr) → has_conditions (Assign target subs operator value) ≡ true
unfolding has_conditions
conditions-assign target subs operator value = search (rules, the_lemmas)

both : (a b : Bool) → a ≡ true → b ≡ true → (a && b) ≡ true
both a b p q = rw (p, q) refl

alone : (s : Statement) → has_conditions s ≡ true → list_all has_conditions (s ∷ []) ≡ true
alone s h = rw h refl

above : (n : ℕ) → 0 < n → nat_lt 0 n ≡ true
above n h = lt-ltb 0 n h

mutual
  statement_all : {room : ℕ} {dangling : Bool} {ts : List Lexeme} {ss : List Statement} → IsStatement room dangling ts ss → list_all has_conditions ss ≡ true
  statement_all (empty c) = refl
  statement_all (block c o ss d) = statements_all ss
  statement_all (loop c f o hs d s) = alone _ (conditions-loop _ _ _ _ _ _ _ ∙ statement_all s)
  statement_all (branch c f o cs d s) =
      alone _ (conditions-branch _ _ _ _ ∙ both _ _ (above _ (cond_some cs)) (both _ _ (statement_all s) refl))
  statement_all (branch_with_else c e f o cs d s is u) =
      alone _ (conditions-branch _ _ _ _ ∙ both _ _ (above _ (cond_some cs)) (both _ _ (statement_all s) (statement_all u)))
  statement_all (assign (assignment m c n subs is value d)) = alone _ (conditions-assign _ _ _ _)

  statements_all : {room : ℕ} {ts : List Lexeme} {ss : List Statement} → IsStatements room ts ss → list_all has_conditions ss ≡ true
  statements_all no_statement = refl
  statements_all (a_statement {first = first} {more = others} s ss) =
      list_all-append has_conditions first others ∙ both _ _ (statement_all s) (statements_all ss)

pub file_conditions : {room : ℕ} {ts : List Lexeme} {tree : File} → IsFile room ts tree → HasConditions tree
file_conditions (file before (function c b d v n o params e f locals statements g) behind) = statements_all statements
