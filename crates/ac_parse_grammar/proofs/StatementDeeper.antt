-- Where more constructs may open, a file is read in the same way, unless reading stopped at the limit.
use Rattle.std.specs.Prelude.{Bool, true, false, cond}
use Rattle.std.proofs.Common.{◌≡◌, ℕ, zero, suc, List, [], ◌∷◌, ◌++◌, refl, inl, inr, arith}
use Rattle.ac_parse_grammar.specs.declared.terminal.Terminal.{Terminal}
use Rattle.ac_parse_grammar.specs.declared.terminal.Terminal.TheVariants as t
use Rattle.ac_parse_grammar.specs.declared.tree.Statement.{Statement}
use Rattle.ac_parse_grammar.specs.ReaderCombinators.{nesting, syntax, found, stopped, Reader, and_then, ◌>>=◌, peek, rest, is, name, expect}
use Rattle.ac_parse_grammar.specs.Expressions.{below, comma_of}
use Rattle.ac_parse_grammar.specs.Constructs.{opening}
use Rattle.ac_parse_grammar.specs.StatementsReading.{header, typed, becomes, assignment, begins_statement, statements_of, block, repetition, otherwise, otherwise_by, branch, statement_by, statement_in, statement_inside, statement, statements}
use Rattle.ac_parse_grammar.specs.DeclarationsReading.{joined_by_comma, list, scalar, begins_type, one_more, extent, extents, declared, parameter, parameters_by, parameters, declaration, declarations}
use Rattle.ac_parse_grammar.specs.PragmasReading.{pragma_by, pragma_inside, pragma, pragmas}
use Rattle.ac_parse_grammar.specs.FileReading.{body, function, file}
use Rattle.ac_parse_grammar.proofs.Deeper.{Agree, Deeper, then_agree, then_deeper, same_deeper, repeat_deeper, many_deeper}
use Rattle.ac_parse_grammar.proofs.DeepExpressions.{expression_deeper, subscripts_deeper, below_deeper}
use Rattle.ac_parse_grammar.proofs.DeepConditions.{cond_deeper}

opened_deeper : {A : Type 0} (k : Terminal) (room : ℕ) (f g : ℕ → Reader A) → ((n : ℕ) → room ≡ suc n → Deeper (f n) (g (suc n))) → Deeper (opening k room >>= f) (opening k (suc room) >>= g)
unfolding opening
opened_deeper {A = A} k zero f g d ts = by_test (is k (peek ts))
  where
    by_test : (v : Bool) → Agree (and_then (cond v (stopped nesting ts) (stopped syntax ts)) f) (and_then (cond v (found zero (rest ts)) (stopped syntax ts)) g)
    by_test true = inr (ts, refl)
    by_test false = inl refl
opened_deeper {A = A} k (suc n) f g d ts = by_test (is k (peek ts))
  where
    by_test : (v : Bool) → Agree (and_then (cond v (found n (rest ts)) (stopped syntax ts)) f) (and_then (cond v (found (suc n) (rest ts)) (stopped syntax ts)) g)
    by_test true = d n refl (rest ts)
    by_test false = inl refl

-- ---- statements

assignment_deeper : (room : ℕ) → Deeper (assignment room) (assignment (suc room))
unfolding assignment
assignment_deeper room =
    then_deeper _ _ _ _ (same_deeper name) (λ target.
    then_deeper _ _ _ _ (subscripts_deeper (below room) (below (suc room)) (below_deeper room)) (λ subs.
    then_deeper _ _ _ _ (same_deeper becomes) (λ operator.
    then_deeper _ _ _ _ (expression_deeper room) (λ value. same_deeper _))))

header_deeper : (room : ℕ) → Deeper (header room) (header (suc room))
unfolding header
header_deeper room =
    then_deeper _ _ _ _ (same_deeper typed) (λ typed.
    then_deeper _ _ _ _ (same_deeper name) (λ counter.
    then_deeper _ _ _ _ (same_deeper (expect t.Becomes)) (λ _.
    then_deeper _ _ _ _ (expression_deeper room) (λ start.
    then_deeper _ _ _ _ (same_deeper (expect t.Semicolon)) (λ _.
    then_deeper _ _ _ _ (cond_deeper room) (λ parts. same_deeper _))))))

statements_of_deeper : (p q : Reader (List Statement)) → Deeper p q → Deeper (statements_of p) (statements_of q)
unfolding statements_of
statements_of_deeper p q d = many_deeper begins_statement ◌++◌ p q d []

module _ (room : ℕ) (p q : Reader (List Statement)) (d : (n : ℕ) → room ≡ suc n → Deeper p q) where
  block_deeper : Deeper (block room p) (block (suc room) q)
  unfolding block
  block_deeper = opened_deeper t.OpenBrace room _ _ (λ n e. then_deeper _ _ _ _ (statements_of_deeper p q (d n e)) (λ all. same_deeper _))

  repetition_deeper : Deeper (repetition room p) (repetition (suc room) q)
  unfolding repetition
  repetition_deeper ts =
      opened_deeper t.Open room _ _ (λ n e.
      then_deeper _ _ _ _ (header_deeper n) (λ header.
      then_deeper _ _ _ _ (same_deeper (expect t.Close)) (λ _.
      then_deeper _ _ _ _ (d n e) (λ body. same_deeper _)))) (rest ts)

  otherwise_deeper : (n : ℕ) → room ≡ suc n → Deeper (otherwise p) (otherwise q)
  unfolding otherwise
  otherwise_deeper n e ts = by_head (peek ts)
    where
      by_head : (k : Terminal) → Agree (otherwise_by p k ts) (otherwise_by q k ts)
      by_head t.Else = d n e (rest ts)
      by_head _ = inl refl

  branch_deeper : Deeper (branch room p) (branch (suc room) q)
  unfolding branch
  branch_deeper ts =
      opened_deeper t.Open room _ _ (λ n e.
      then_deeper _ _ _ _ (cond_deeper n) (λ parts.
      then_deeper _ _ _ _ (same_deeper (expect t.Close)) (λ _.
      then_deeper _ _ _ _ (d n e) (λ taken.
      then_deeper _ _ _ _ (otherwise_deeper n e) (λ other. same_deeper _))))) (rest ts)

  statement_in_deeper : Deeper (statement_in room p) (statement_in (suc room) q)
  unfolding statement_in
  statement_in_deeper ts = by_head (peek ts)
    where
      by_head : (k : Terminal) → Agree (statement_by room p k ts) (statement_by (suc room) q k ts)
      by_head t.Semicolon = inl refl
      by_head t.OpenBrace = block_deeper ts
      by_head t.For = repetition_deeper ts
      by_head t.If = branch_deeper ts
      by_head _ = assignment_deeper room ts

none_inside : (n : ℕ) → zero ≡ suc n → ⊥
none_inside n e = omega (arith, e)

statement_deeper : (room : ℕ) → Deeper (statement room) (statement (suc room))
unfolding statement statement_inside
statement_deeper zero = statement_in_deeper zero (statement_inside zero) (statement_inside (suc zero)) (λ n e. absurd (none_inside n e))
statement_deeper (suc room) = statement_in_deeper (suc room) (statement_inside (suc room)) (statement_inside (suc (suc room))) (λ n e. statement_deeper room)

statements_deeper : (room : ℕ) → Deeper (statements room) (statements (suc room))
unfolding statements
statements_deeper room = statements_of_deeper (statement room) (statement (suc room)) (statement_deeper room)

-- ---- declarations

extent_deeper : (room : ℕ) → Deeper (extent room) (extent (suc room))
unfolding extent
extent_deeper zero ts = inr (ts, refl)
extent_deeper (suc room) ts = then_deeper _ _ _ _ (expression_deeper room) (λ size. same_deeper _) (rest ts)

extents_deeper : (room : ℕ) → Deeper (extents room) (extents (suc room))
unfolding extents
extents_deeper room = many_deeper (is t.OpenBracket) one_more _ _ (extent_deeper room) []

declared_deeper : (room : ℕ) (whole : Bool) → Deeper (declared room whole) (declared (suc room) whole)
unfolding declared
declared_deeper room whole = then_deeper _ _ _ _ (same_deeper name) (λ word. then_deeper _ _ _ _ (extents_deeper room) (λ extents. same_deeper _))

list_deeper : {A : Type 0} (p q : Reader A) → Deeper p q → Deeper (list p) (list q)
unfolding list
list_deeper p q d = then_deeper p q _ _ d (λ first. repeat_deeper comma_of joined_by_comma p q d (first ∷ []))

parameter_deeper : (room : ℕ) → Deeper (parameter room) (parameter (suc room))
unfolding parameter
parameter_deeper room = then_deeper _ _ _ _ (same_deeper scalar) (declared_deeper room)

parameters_deeper : (room : ℕ) → Deeper (parameters room) (parameters (suc room))
unfolding parameters
parameters_deeper room ts = by_head (peek ts)
  where
    by_head : (k : Terminal) → Agree (parameters_by room k ts) (parameters_by (suc room) k ts)
    by_head t.Close = inl refl
    by_head t.Void = inl refl
    by_head _ = list_deeper (parameter room) (parameter (suc room)) (parameter_deeper room) ts

declaration_deeper : (room : ℕ) → Deeper (declaration room) (declaration (suc room))
unfolding declaration
declaration_deeper room =
    then_deeper _ _ _ _ (same_deeper scalar) (λ whole.
    then_deeper _ _ _ _ (list_deeper (declared room whole) (declared (suc room) whole) (declared_deeper room whole)) (λ all. same_deeper _))

declarations_deeper : (room : ℕ) → Deeper (declarations room) (declarations (suc room))
unfolding declarations
declarations_deeper room = many_deeper begins_type ◌++◌ _ _ (declaration_deeper room) []

-- ---- pragma lines, functions and files

inside_deeper : (room : ℕ) → Deeper (pragma_inside room) (pragma_inside (suc room))
unfolding pragma_inside
inside_deeper room ts = by_head (peek ts)
  where
    by_head : (k : Terminal) → Agree (pragma_by room k ts) (pragma_by (suc room) k ts)
    by_head t.Context = then_agree _ _ _ _ (cond_deeper room (rest ts)) (λ parts. same_deeper _)
    by_head t.Commutative = inl refl
    by_head t.Output = inl refl
    by_head _ = inl refl

pragma_deeper : (room : ℕ) → Deeper (pragma room) (pragma (suc room))
unfolding pragma
pragma_deeper room ts = then_deeper _ _ _ _ (inside_deeper room) (λ line. same_deeper _) (rest ts)

pragmas_deeper : (room : ℕ) → Deeper (pragmas room) (pragmas (suc room))
unfolding pragmas
pragmas_deeper room = many_deeper (is t.PragmaStart) one_more _ _ (pragma_deeper room) []

body_deeper : (room : ℕ) → Deeper (body room) (body (suc room))
unfolding body
body_deeper room = opened_deeper t.OpenBrace room _ _ (λ n e.
    then_deeper _ _ _ _ (declarations_deeper n) (λ locals.
    then_deeper _ _ _ _ (statements_deeper n) (λ all. same_deeper _)))

function_deeper : (room : ℕ) → Deeper (function room) (function (suc room))
unfolding function
function_deeper room =
    then_deeper _ _ _ _ (same_deeper (expect t.Void)) (λ _.
    then_deeper _ _ _ _ (same_deeper name) (λ word.
    opened_deeper t.Open room _ _ (λ n e.
    then_deeper _ _ _ _ (parameters_deeper n) (λ params.
    then_deeper _ _ _ _ (same_deeper (expect t.Close)) (λ _.
    then_deeper _ _ _ _ (body_deeper room) (λ body. same_deeper _))))))

pub file_deeper : (room : ℕ) → Deeper (file room) (file (suc room))
unfolding file
file_deeper room =
    then_deeper _ _ _ _ (pragmas_deeper room) (λ before.
    then_deeper _ _ _ _ (function_deeper room) (λ function.
    then_deeper _ _ _ _ (pragmas_deeper room) (λ behind. same_deeper _)))
