-- The first faults, at lists.
use Rattle.std.proofs.Common.{◌≡◌, ℕ, suc, ◌+◌, List, [], ◌∷◌, ◌++◌, length, length-append, arith, ℤ, Bool, true, false, cond, Option, Some, None, refl, sym, ap, ◌∙◌, rules}
use Rattle.std.specs.Prelude.{not, ◌&&◌}
use Rattle.ac_syntax.specs.declared.tree.Place.{Place}
use Rattle.ac_syntax.specs.declared.tree.Symbol.{Symbol}
use Rattle.ac_syntax.specs.declared.tree.IndexExpr.{IndexExpr}
use Rattle.ac_syntax.specs.declared.tree.Value.{Value, Row_of-Value, end_of-Value, more_of-Value, items-the_row-Value, the_lemmas}
use Rattle.ac_syntax.specs.declared.tree.Value.TheVariants.{Number, Access, Call, Call'}
use Rattle.ac_syntax.specs.declared.tree.Cond.{Cond}
use Rattle.ac_syntax.specs.declared.tree.Stmt.{Stmt, Row_of-Stmt, end_of-Stmt, more_of-Stmt, items-the_row-Stmt, the_lemmas as stmt_lemmas}
use Rattle.ac_syntax.specs.declared.tree.Stmt.TheVariants.{For, For', If, If', Assign}
use Rattle.ac_syntax.specs.ValueNodes.{size}
use Rattle.ac_assoc_law.specs.OperandChains.{is_binary, operands, operands_in}
use Rattle.ac_assoc.specs.ProgramChains.{is_part, operand_nodes, operand_nodes_in}
use Rattle.ac_assoc_law.specs.ArrangedPairs.{is_misused}
use Rattle.ac_assoc.specs.ArrangementFaults.{or_first, misused, misused_in, is_long, long, long_in, first_of, first_in, first_all}
use Rattle.ac_assoc.specs.ValueSequences.{misused_among, long_among, nodes_brought}

misused_row : (names : List (List ℕ)) (m : _) (k : Row_of-Value m) → misused_in names k ≡ misused_among names (items-the_row-Value m k)
unfolding misused
misused_row names m end_of-Value = refl
misused_row names m (more_of-Value {n = n} v rest) = ap (or_first (misused names v)) (misused_row names n rest)

misused_call_row : (names : List (List ℕ)) (s : Symbol) (n : _) (args : Row_of-Value _) (place : Place) → misused names (Call' s n args place) ≡ cond (is_misused names s) (Some place) (misused_among names (items-the_row-Value _ args))
unfolding misused
misused_call_row names s n args place = ap (λ r. cond (is_misused names s) (Some place) r) (misused_row names _ args)

pub misused_call : (names : List (List ℕ)) (s : Symbol) (args : List Value) (place : Place) → misused names (Call s args place) ≡ cond (is_misused names s) (Some place) (misused_among names args)
misused_call names s args place = search (rules, the_lemmas, misused_call_row)

pub misused_number : (names : List (List ℕ)) (e : IndexExpr) → misused names (Number e) ≡ None
unfolding misused
misused_number names e = refl

pub misused_access : (names : List (List ℕ)) (array : ℕ) (subs : List IndexExpr) (place : Place) → misused names (Access array subs place) ≡ None
unfolding misused
misused_access names array subs place = refl

pub ruleset misused_steps = (misused_call, misused_number, misused_access)

-- as many nodes as operands
as_long : (b : Bool) (xs : List ℕ) (ys : List Value) (k : ℕ) (v : Value) → length xs ≡ length ys → length (cond b xs (k ∷ [])) ≡ length (cond b ys (v ∷ []))
as_long true xs ys k v h = h
as_long false xs ys k v h = refl

mutual
  unfolding operands operand_nodes

  node_count : (f : List ℕ) (k : ℕ) (v : Value) → length (operand_nodes f k v) ≡ length (operands f v)
  node_count f k (Number e) = refl
  node_count f k (Access array subs place) = refl
  node_count f k (Call' symbol n args place) = as_long (is_binary f symbol) _ _ k _ (node_counts f (suc k) args)

  node_counts : (f : List ℕ) (k : ℕ) {m : _} (args : Row_of-Value m) → length (operand_nodes_in f k args) ≡ length (operands_in f args)
  node_counts f k end_of-Value = refl
  node_counts f k (more_of-Value v rest) =
      let a : length (operand_nodes f k v) ≡ length (operands f v) = node_count f k v in
      let b : length (operand_nodes_in f (k + size v) rest) ≡ length (operands_in f rest) = node_counts f (k + size v) rest in
      omega (arith, length-append (operand_nodes f k v) (operand_nodes_in f (k + size v) rest), length-append (operands f v) (operands_in f rest))

nodes_row : (f : List ℕ) (m : _) (k : Row_of-Value m) (at : ℕ) → operand_nodes_in f at k ≡ nodes_brought f at (items-the_row-Value m k)
unfolding operand_nodes
nodes_row f m end_of-Value at = refl
nodes_row f m (more_of-Value {n = n} v rest) at = ap (λ r. operand_nodes f at v ++ r) (nodes_row f n rest (at + size v))

long_row : (names : List (List ℕ)) (parent : Symbol) (m : _) (k : Row_of-Value m) → long_in names parent k ≡ long_among names parent (items-the_row-Value m k)
unfolding long
long_row names parent m end_of-Value = refl
long_row names parent m (more_of-Value {n = n} v rest) = ap (or_first (long names (is_part parent v) v)) (long_row names parent n rest)

long_call_row : (names : List (List ℕ)) (part : Bool) (s : Symbol) (n : _) (args : Row_of-Value _) (place : Place)
    → long names part (Call' s n args place) ≡ cond (is_long names part s (length (nodes_brought s.name 0 (items-the_row-Value _ args)))) (Some place) (long_among names s (items-the_row-Value _ args))
unfolding long
long_call_row names part s n args place =
    λ i. cond (is_long names part s ((sym (node_counts s.name 0 args) ∙ ap length (nodes_row s.name _ args 0)) i)) (Some place) (long_row names s _ args i)

pub long_call : (names : List (List ℕ)) (part : Bool) (s : Symbol) (args : List Value) (place : Place)
    → long names part (Call s args place) ≡ cond (is_long names part s (length (nodes_brought s.name 0 args))) (Some place) (long_among names s args)
long_call names part s args place = search (rules, the_lemmas, long_call_row)

pub long_number : (names : List (List ℕ)) (part : Bool) (e : IndexExpr) → long names part (Number e) ≡ None
unfolding long
long_number names part e = refl

pub long_access : (names : List (List ℕ)) (part : Bool) (array : ℕ) (subs : List IndexExpr) (place : Place) → long names part (Access array subs place) ≡ None
unfolding long
long_access names part array subs place = refl

pub ruleset long_steps = (long_call, long_number, long_access)

-- no chain begins
pub none_long : (part swaps b : Bool) → (not part && swaps) ≡ false → ((not part && swaps) && b) ≡ false
none_long part swaps b h = ap (λ t. t && b) h

pub ruleset long_test = (none_long)

-- statements
first_row : (fault : Value → Option Place) (m : _) (k : Row_of-Stmt m) → first_in fault k ≡ first_all fault (items-the_row-Stmt m k)
unfolding first_of
first_row fault m end_of-Stmt = refl
first_row fault m (more_of-Stmt {n = n} s rest) = ap (or_first (first_of fault s)) (first_row fault n rest)

for_row : (fault : Value → Option Place) (iter : List ℕ) (start : IndexExpr) (cond : Cond) (step : ℤ) (n : _) (body : Row_of-Stmt _) (place : Place)
    → first_of fault (For' iter start cond step n body place) ≡ first_all fault (items-the_row-Stmt _ body)
unfolding first_of
for_row fault iter start cond step n body place = first_row fault _ body

pub first_for : (fault : Value → Option Place) (iter : List ℕ) (start : IndexExpr) (cond : Cond) (step : ℤ) (body : List Stmt) (place : Place) → first_of fault (For iter start cond step body place) ≡ first_all fault body
first_for fault iter start cond step body place = search (rules, stmt_lemmas, for_row)

if_row : (fault : Value → Option Place) (cond : Cond) (n : _) (taken : Row_of-Stmt _) (m : _) (other : Row_of-Stmt _) (place : Place)
    → first_of fault (If' cond n taken m other place) ≡ or_first (first_all fault (items-the_row-Stmt _ taken)) (first_all fault (items-the_row-Stmt _ other))
unfolding first_of
if_row fault cond n taken m other place = λ i. or_first (first_row fault _ taken i) (first_row fault _ other i)

pub first_if : (fault : Value → Option Place) (cond : Cond) (taken other : List Stmt) (place : Place) → first_of fault (If cond taken other place) ≡ or_first (first_all fault taken) (first_all fault other)
first_if fault cond taken other place = search (rules, stmt_lemmas, if_row)

pub first_assign : (fault : Value → Option Place) (array : ℕ) (subs : List IndexExpr) (value : Value) (place : Place) → first_of fault (Assign array subs value place) ≡ fault value
unfolding first_of
first_assign fault array subs value place = refl

pub ruleset first_steps = (first_for, first_if, first_assign)
