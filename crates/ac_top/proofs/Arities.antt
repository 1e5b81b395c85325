-- Each call of the programs of a pair has as many arguments as its symbol says.
use Rattle.std.proofs.Common.{◌≡◌, ℕ, ℤ, List, [], ◌∷◌, length, map, pos, codes, refl, sym, subst, ◌∙◌, rules}
use Rattle.std.specs.List.{AllByRecursion}
use Rattle.ac_syntax.specs.declared.tree.Cond.{Cond}
use Rattle.ac_syntax.specs.declared.tree.IndexExpr.{IndexExpr}
use Rattle.ac_syntax.specs.declared.tree.Pair.{Pair}
use Rattle.ac_syntax.specs.declared.tree.Place.{Place}
use Rattle.ac_syntax.specs.declared.tree.Program.{Program}
use Rattle.ac_syntax.specs.declared.tree.Rel.TheVariants.{NonNegative}
use Rattle.ac_syntax.specs.declared.tree.Symbol.{Symbol}
use Rattle.ac_syntax.specs.declared.tree.Value.{Value, Row_of-Value, end_of-Value, more_of-Value, items-the_row-Value, the_lemmas as value_lemmas}
use Rattle.ac_syntax.specs.declared.tree.Value.TheVariants.{Access, Call, Call'}
use Rattle.ac_syntax.specs.declared.tree.Stmt.{Stmt, Row_of-Stmt, end_of-Stmt, more_of-Stmt, items-the_row-Stmt, the_lemmas}
use Rattle.ac_syntax.specs.declared.tree.Stmt.TheVariants.{For, For', Assign}
use Rattle.ac_parse.specs.Program.{IsProgramOf}
use Rattle.ac_gen.specs.PipelineLoops.{nowhere, function_symbol, Loop, statement}
use Rattle.ac_gen.specs.Pipelines.{program}
use Rattle.ac_syntax.specs.ExecutedCalls.{HaveArities}
use Rattle.ac_parse.specs.Arities.{HasArities, EachHasArities, AssignsArities, EachAssignsArities, AllHaveArities}
use Rattle.ac_parse.proofs.Assigned.{files_have_arities}
use Rattle.ac_parse.proofs.Built.{count_row}
use Rattle.ac_parse.proofs.Executed.{executions_have_arities}
use Rattle.ac_gen.specs.GeneratedPair.{IsGeneratedPair}
use Rattle.ac_top.specs.ProgramAnswers.{ArePaired}

-- both programs of a pair
abbrev Have : Pair → Type 0
Have pair = HaveArities pair.left.body × HaveArities pair.right.body

-- ---- of texts

-- the program of a text
text_arities : (bytes : List ℕ) (p q : Program) → IsProgramOf bytes p → q ≡ p → HaveArities q.body
text_arities bytes p q is e = executions_have_arities q.body (subst (λ (r : Program). AllHaveArities r.body) (sym (e ∙ is.is)) (files_have_arities is.file is.rules))

-- the pair of two texts
pub read_arities : (first second : List ℕ) (pair : Pair) → ArePaired first second pair → Have pair
read_arities first second pair are = (text_arities first are.left pair.left are.is_left are.is_pair.left_is, text_arities second are.right pair.right are.is_right are.is_pair.right_is)

-- ---- of a seed

-- a call, by its arguments
values_row : (m : _) (k : Row_of-Value m) → AllByRecursion HasArities (items-the_row-Value m k) → EachHasArities k
unfolding HasArities
values_row m end_of-Value h = tt
values_row m (more_of-Value {n = n} v rest) h = (h.0, values_row n rest h.1)

call_row : (s : Symbol) (n : _) (args : Row_of-Value _) (place : Place) → length (items-the_row-Value _ args) ≡ s.arity → AllByRecursion HasArities (items-the_row-Value _ args) → HasArities (Call' s n args place)
unfolding HasArities
call_row s n args place e h = (count_row _ args ∙ e, values_row _ args h)

call_has : (s : Symbol) (args : List Value) (place : Place) → length args ≡ s.arity → AllByRecursion HasArities args → HasArities (Call s args place)
call_has s args place e h = search (rules, value_lemmas, call_row, e, h)

-- an access has no call
access_has : (array : ℕ) (subs : List IndexExpr) (place : Place) → HasArities (Access array subs place)
unfolding HasArities
access_has array subs place = tt

-- an assignment, by its value
assign_has : (array : ℕ) (subs : List IndexExpr) (value : Value) (place : Place) → HasArities value → AssignsArities (Assign array subs value place)
unfolding AssignsArities
assign_has array subs value place h = h

-- a loop, by its body
stmts_row : (m : _) (k : Row_of-Stmt m) → AllByRecursion AssignsArities (items-the_row-Stmt m k) → EachAssignsArities k
unfolding AssignsArities
stmts_row m end_of-Stmt h = tt
stmts_row m (more_of-Stmt {n = n} s rest) h = (h.0, stmts_row n rest h.1)

for_row : (iter : List ℕ) (start : IndexExpr) (cond : Cond) (step : ℤ) (n : _) (body : Row_of-Stmt _) (place : Place) → AllByRecursion AssignsArities (items-the_row-Stmt _ body) → AssignsArities (For' iter start cond step n body place)
unfolding AssignsArities
for_row iter start cond step n body place h = stmts_row _ body h

for_has : (iter : List ℕ) (start : IndexExpr) (cond : Cond) (step : ℤ) (body : List Stmt) (place : Place) → AllByRecursion AssignsArities body → AssignsArities (For iter start cond step body place)
for_has iter start cond step body place h = search (rules, the_lemmas, for_row, h)

-- the loop of a stage calls one function, with one argument
loop_has : (l : Loop) → AssignsArities (statement l)
loop_has l =
    let read = access_has l.source (l.read ∷ []) nowhere in
    let call = call_has (function_symbol l.function) (Access l.source (l.read ∷ []) nowhere ∷ []) nowhere refl (read, tt) in
    for_has (codes "i") l.start (record { parts = record { form = l.bound; rel = NonNegative } ∷ [] }) (pos 1)
    (Assign l.target (l.written ∷ []) (Call (function_symbol l.function) (Access l.source (l.read ∷ []) nowhere ∷ []) nowhere) nowhere ∷ []) nowhere
    (assign_has l.target (l.written ∷ []) _ nowhere call, tt)

loops_have : (ls : List Loop) → AllHaveArities (map statement ls)
loops_have [] = tt
loops_have (l ∷ ls) = (loop_has l, loops_have ls)

-- a program of such loops
program_arities : (ls : List Loop) (p : Program) → p ≡ program ls → HaveArities p.body
program_arities ls p e = executions_have_arities p.body (subst (λ (q : Program). AllHaveArities q.body) (sym e) (loops_have ls))

-- the pair of a seed
pub generated_arities : (seed stages : ℕ) (pair : Pair) → IsGeneratedPair seed stages pair → Have pair
generated_arities seed stages pair is = (program_arities _ pair.left is.programs.original, program_arities _ pair.right is.programs.transformed)
