-- Reading statements, all a function on lists. A statement is read as the list of what it leaves: an empty one and a block
-- leave no node of their own.
use Rattle.std.specs.Prelude.{ℕ, zero, suc, Bool, true, false, List, [], ◌∷◌, ◌++◌, Option, Some, None}
use Rattle.ac_parse_grammar.specs.declared.terminal.Terminal.{Terminal}
use Rattle.ac_parse_grammar.specs.declared.terminal.Terminal.TheVariants as t
use Rattle.ac_parse_grammar.specs.declared.tree.Word.{Word}
use Rattle.ac_parse_grammar.specs.declared.tree.Operator.{Operator}
use Rattle.ac_parse_grammar.specs.declared.tree.Operator.TheVariants as operator
use Rattle.ac_parse_grammar.specs.declared.tree.Step.{Step}
use Rattle.ac_parse_grammar.specs.declared.statements.LoopHeader.{LoopHeader}
use Rattle.ac_parse_grammar.specs.declared.tree.Statement.{Statement}
use Rattle.ac_parse_grammar.specs.declared.tree.Statement.TheVariants.{Assign}
pub use Rattle.ac_parse_grammar.specs.StatementsTrees.{unit_step, loop_of, branch_of}
use Rattle.ac_parse_grammar.specs.ReaderCombinators.{Reader, ◌>>=◌, ◌>>◌, pure, refuse, take, by_terminal, expect, name, many}
use Rattle.ac_parse_grammar.specs.TokenWords.{numeral_of}
use Rattle.ac_parse_grammar.specs.Terminals.{is_name}
use Rattle.ac_parse_grammar.specs.Constructs.{opening}
use Rattle.ac_parse_grammar.specs.Expressions.{expr, below, subscripts}
use Rattle.ac_parse_grammar.specs.Conditions.{cond}

-- ---- steps

-- `down` where the sign takes away
abbrev pub signed_step : Word → Option Word → Bool → Reader Step
signed_step target source down = expect t.Number >>= (λ by. pure (record { target = target; source = source; down = down; by = numeral_of by }))

abbrev pub moved_by : Word → Word → Terminal → Reader Step
moved_by target source t.Plus = take >> signed_step target (Some source) false
moved_by target source t.Minus = take >> signed_step target (Some source) true
moved_by target source _ = refuse

unfoldable pub moved : Word → Word → Reader Step
moved target source = by_terminal (moved_by target source)

abbrev pub step_behind_by : Word → Terminal → Reader Step
step_behind_by target t.PlusPlus = take >>= (λ sign. pure (unit_step target false sign))
step_behind_by target t.MinusMinus = take >>= (λ sign. pure (unit_step target true sign))
step_behind_by target t.PlusBecomes = take >> signed_step target None false
step_behind_by target t.MinusBecomes = take >> signed_step target None true
step_behind_by target t.Becomes = take >> (name >>= moved target)
step_behind_by target _ = refuse

-- what stands behind the name of a step
unfoldable pub step_behind : Word → Reader Step
step_behind target = by_terminal (step_behind_by target)

abbrev pub step_by : Terminal → Reader Step
step_by t.PlusPlus = take >>= (λ sign. name >>= (λ target. pure (unit_step target false sign)))
step_by t.MinusMinus = take >>= (λ sign. name >>= (λ target. pure (unit_step target true sign)))
step_by _ = name >>= step_behind

unfoldable pub step : Reader Step
step = by_terminal step_by

-- ---- assignments

-- the operator of an assignment, if it has one
abbrev pub becomes_by : Terminal → Reader (Option Operator)
becomes_by t.Becomes = take >> pure None
becomes_by t.PlusBecomes = take >> pure (Some operator.Add)
becomes_by t.MinusBecomes = take >> pure (Some operator.Subtract)
becomes_by t.StarBecomes = take >> pure (Some operator.Multiply)
becomes_by t.SlashBecomes = take >> pure (Some operator.Divide)
becomes_by t.PercentBecomes = take >> pure (Some operator.Remainder)
becomes_by _ = refuse

unfoldable pub becomes : Reader (Option Operator)
becomes = by_terminal becomes_by

unfoldable pub assignment : ℕ → Reader (List Statement)
assignment room =
    name >>= (λ target.
    subscripts (below room) >>= (λ subs.
    becomes >>= (λ operator.
    expr room >>= (λ value.
    expect t.Semicolon >>
    pure (Assign target subs operator value ∷ [])))))

-- ---- loops and branches

abbrev pub typed_by : Terminal → Reader Bool
typed_by t.Int = take >> pure true
typed_by t.Long = take >> pure true
typed_by _ = pure false

unfoldable pub typed : Reader Bool
typed = by_terminal typed_by

unfoldable pub header : ℕ → Reader LoopHeader
header room =
    typed >>= (λ typed.
    name >>= (λ counter.
    expect t.Becomes >>
    (expr room >>= (λ start.
    expect t.Semicolon >>
    (cond room >>= (λ parts.
    expect t.Semicolon >>
    (step >>= (λ step.
    pure (record { typed = typed; name = counter; start = start; cond = parts; step = step })))))))))

-- the terminals with which a statement begins
abbrev pub begins_statement : Terminal → Bool
begins_statement t.Semicolon = true
begins_statement t.OpenBrace = true
begins_statement t.For = true
begins_statement t.If = true
begins_statement next = is_name next

-- { stmt }
unfoldable pub statements_of : Reader (List Statement) → Reader (List Statement)
statements_of statement = many begins_statement ◌++◌ statement []

-- In what follows `inner` reads a statement in which one construct less may open: the body of a loop or of a branch is a
-- construct, beside the braces that it may have.

unfoldable pub block : ℕ → Reader (List Statement) → Reader (List Statement)
block room inner = opening t.OpenBrace room >> (statements_of inner >>= (λ all. expect t.CloseBrace >> pure all))

unfoldable pub repetition : ℕ → Reader (List Statement) → Reader (List Statement)
repetition room inner =
    take >>= (λ keyword.
    opening t.Open room >>= (λ within.
    header within >>= (λ header.
    expect t.Close >>
    (inner >>= (λ body.
    pure (loop_of keyword header body ∷ []))))))

abbrev pub otherwise_by : Reader (List Statement) → Terminal → Reader (List Statement)
otherwise_by inner t.Else = take >> inner
otherwise_by inner _ = pure []

-- [ "else" stmt ]
unfoldable pub otherwise : Reader (List Statement) → Reader (List Statement)
otherwise inner = by_terminal (otherwise_by inner)

unfoldable pub branch : ℕ → Reader (List Statement) → Reader (List Statement)
branch room inner =
    take >>= (λ keyword.
    opening t.Open room >>= (λ within.
    cond within >>= (λ parts.
    expect t.Close >>
    (inner >>= (λ taken.
    otherwise inner >>= (λ other.
    pure (branch_of keyword parts taken other ∷ [])))))))

abbrev pub statement_by : ℕ → Reader (List Statement) → Terminal → Reader (List Statement)
statement_by room inner t.Semicolon = take >> pure []
statement_by room inner t.OpenBrace = block room inner
statement_by room inner t.For = repetition room inner
statement_by room inner t.If = branch room inner
statement_by room inner _ = assignment room

unfoldable pub statement_in : ℕ → Reader (List Statement) → Reader (List Statement)
statement_in room inner = by_terminal (statement_by room inner)

-- a statement inside a construct that opens here
unfoldable pub statement_inside : ℕ → Reader (List Statement)
statement_inside zero = refuse
statement_inside (suc room) = statement_in room (statement_inside room)

-- a statement in which so many constructs may open
unfoldable pub statement : ℕ → Reader (List Statement)
statement room = statement_in room (statement_inside room)

unfoldable pub statements : ℕ → Reader (List Statement)
statements room = statements_of (statement room)
