-- The chains, at lists.
use Rattle.std.proofs.Common.{◌≡◌, ℕ, suc, ◌+◌, ◌<◌, ◌≤◌, List, [], ◌∷◌, ◌++◌, length, drop, get_or, Bool, false, cond, refl, sym, ap, ◌∙◌, append_assoc, append-nil, rules, arith, sum_by, ℤ}
use Rattle.std.proofs.lemmas.List.{drop_more, drop_all}
use Rattle.ac_syntax.specs.ValueNodes.{size}
use Rattle.ac_syntax.specs.Trace.{assignments}
use Rattle.ac_syntax.specs.declared.tree.Place.{Place}
use Rattle.ac_syntax.specs.declared.tree.Symbol.{Symbol}
use Rattle.ac_syntax.specs.declared.tree.Cond.{Cond}
use Rattle.ac_syntax.specs.declared.tree.IndexExpr.{IndexExpr}
use Rattle.ac_syntax.specs.declared.tree.Value.{Value, Row_of-Value, end_of-Value, more_of-Value, items-the_row-Value, the_lemmas as value_lemmas}
use Rattle.ac_syntax.specs.declared.tree.Value.TheVariants.{Number, Access, Call, Call'}
use Rattle.ac_syntax.specs.declared.tree.Stmt.{Stmt, Row_of-Stmt, end_of-Stmt, more_of-Stmt, items-the_row-Stmt, the_lemmas}
use Rattle.ac_syntax.specs.declared.tree.Stmt.TheVariants.{For, For', If, If', Assign}
use Rattle.ac_syntax.proofs.Assignments.{row as count_row}
use Rattle.ac_assoc_law.specs.OperandChains.{is_binary}
use Rattle.ac_instance.specs.declared.halt.Side.{Side}
use Rattle.ac_assoc.specs.declared.types.Chain.{Chain}
use Rattle.ac_assoc.specs.ProgramChains.{operand_nodes, operand_nodes_in, is_part, own_chain, chains_of, chains_in, chains_of_stmt, chains_of_body, chains_of_all}
use Rattle.ac_assoc.specs.ValueSequences.{nodes_brought, chains_among}

more : {A : Type 0} (xs : List A) (i : ℕ) (x : A) → i < length xs → x ≡ get_or xs i x → drop i xs ≡ x ∷ drop (i + 1) xs
more xs i x l e = drop_more xs i x l ∙ ap (λ y. y ∷ drop (i + 1) xs) (sym e)

next_is : (k : ℕ) → suc k ≡ k + 1
next_is k = omega arith

-- the nodes of operands
nodes_row : (f : List ℕ) (m : _) (k : Row_of-Value m) (at : ℕ) → operand_nodes_in f at k ≡ nodes_brought f at (items-the_row-Value m k)
unfolding operand_nodes
nodes_row f m end_of-Value at = refl
nodes_row f m (more_of-Value {n = n} v rest) at = ap (λ r. operand_nodes f at v ++ r) (nodes_row f n rest (at + size v))

nodes_call_row : (f : List ℕ) (at : ℕ) (s : Symbol) (n : _) (args : Row_of-Value _) (place : Place) → operand_nodes f at (Call' s n args place) ≡ cond (is_binary f s) (nodes_brought f (at + 1) (items-the_row-Value _ args)) (at ∷ [])
unfolding operand_nodes
nodes_call_row f at s n args place = ap (λ r. cond (is_binary f s) r (at ∷ [])) (nodes_row f _ args (suc at) ∙ ap (λ i. nodes_brought f i (items-the_row-Value _ args)) (next_is at))

pub nodes_call : (f : List ℕ) (at : ℕ) (s : Symbol) (args : List Value) (place : Place) → operand_nodes f at (Call s args place) ≡ cond (is_binary f s) (nodes_brought f (at + 1) args) (at ∷ [])
nodes_call f at s args place = search (rules, value_lemmas, nodes_call_row)

pub nodes_number : (f : List ℕ) (at : ℕ) (e : IndexExpr) → operand_nodes f at (Number e) ≡ at ∷ []
unfolding operand_nodes
nodes_number f at e = refl

pub nodes_access : (f : List ℕ) (at : ℕ) (array : ℕ) (subs : List IndexExpr) (place : Place) → operand_nodes f at (Access array subs place) ≡ at ∷ []
unfolding operand_nodes
nodes_access f at array subs place = refl

pub ruleset node_steps = (nodes_call, nodes_number, nodes_access)

pub record NodesBrought (f : List ℕ) (first : ℕ) (vs : List Value) (old : List ℕ) (i : ℕ) (out : List ℕ) (at : ℕ) : Type 0 where
  pub value : old ++ nodes_brought f first vs ≡ out ++ nodes_brought f at (drop i vs)

pub nodes_step : (f : List ℕ) (first : ℕ) (vs : List Value) (old : List ℕ) (i : ℕ) (out new : List ℕ) (at next : ℕ) (v : Value) → NodesBrought f first vs old i out at → i < length vs → v ≡ get_or vs i v
    → new ≡ out ++ operand_nodes f at v → next ≡ at + size v → NodesBrought f first vs old (i + 1) new next
nodes_step f first vs old i out new at next v h l e n s =
    record { value = rw (n, s) (h.value ∙ rw (more vs i v l e) (sym (append_assoc out (operand_nodes f at v) (nodes_brought f (at + size v) (drop (i + 1) vs))))) }

pub nodes_end : (f : List ℕ) (first : ℕ) (vs : List Value) (old : List ℕ) (i : ℕ) (out : List ℕ) (at : ℕ) → NodesBrought f first vs old i out at → length vs ≤ i → out ≡ old ++ nodes_brought f first vs
nodes_end f first vs old i out at h l = sym ((h.value ∙ ap (λ r. out ++ nodes_brought f at r) (drop_all i vs l)) ∙ append-nil out)

-- the chains of values
module _ (names : List (List ℕ)) (side : Side) (stmt : ℕ) where
  chains_row : (parent : Symbol) (m : _) (k : Row_of-Value m) (at : ℕ) → chains_in names side stmt parent at k ≡ chains_among names side stmt parent at (items-the_row-Value m k)
  unfolding chains_of
  chains_row parent m end_of-Value at = refl
  chains_row parent m (more_of-Value {n = n} v rest) at = ap (λ r. chains_of names side stmt (is_part parent v) at v ++ r) (chains_row parent n rest (at + size v))

  chains_call_row : (part : Bool) (at : ℕ) (s : Symbol) (n : _) (args : Row_of-Value _) (place : Place)
      → chains_of names side stmt part at (Call' s n args place) ≡ own_chain names side stmt part at s (nodes_brought s.name (at + 1) (items-the_row-Value _ args)) ++ chains_among names side stmt s (at + 1) (items-the_row-Value _ args)
  unfolding chains_of
  chains_call_row part at s n args place =
      λ i. own_chain names side stmt part at s ((nodes_row s.name _ args (suc at) ∙ ap (λ k. nodes_brought s.name k (items-the_row-Value _ args)) (next_is at)) i)
      ++ (chains_row s _ args (suc at) ∙ ap (λ k. chains_among names side stmt s k (items-the_row-Value _ args)) (next_is at)) i

  pub chains_call : (part : Bool) (at : ℕ) (s : Symbol) (args : List Value) (place : Place)
      → chains_of names side stmt part at (Call s args place) ≡ own_chain names side stmt part at s (nodes_brought s.name (at + 1) args) ++ chains_among names side stmt s (at + 1) args
  chains_call part at s args place = search (rules, value_lemmas, chains_call_row)

  pub chains_number : (part : Bool) (at : ℕ) (e : IndexExpr) → chains_of names side stmt part at (Number e) ≡ []
  unfolding chains_of
  chains_number part at e = refl

  pub chains_access : (part : Bool) (at : ℕ) (array : ℕ) (subs : List IndexExpr) (place : Place) → chains_of names side stmt part at (Access array subs place) ≡ []
  unfolding chains_of
  chains_access part at array subs place = refl

pub ruleset chain_steps = (chains_number, chains_access)

pub record ChainsAdded (names : List (List ℕ)) (side : Side) (stmt : ℕ) (parent : Symbol) (first : ℕ) (vs : List Value) (old : List Chain) (i : ℕ) (out : List Chain) (at : ℕ) : Type 0 where
  pub value : old ++ chains_among names side stmt parent first vs ≡ out ++ chains_among names side stmt parent at (drop i vs)

pub chains_step : (names : List (List ℕ)) (side : Side) (stmt : ℕ) (parent : Symbol) (first : ℕ) (vs : List Value) (old : List Chain) (i : ℕ) (out new : List Chain) (at next : ℕ) (v : Value) (part : Bool)
    → ChainsAdded names side stmt parent first vs old i out at → i < length vs → v ≡ get_or vs i v → part ≡ is_part parent v
    → new ≡ out ++ chains_of names side stmt part at v → next ≡ at + size v → ChainsAdded names side stmt parent first vs old (i + 1) new next
chains_step names side stmt parent first vs old i out new at next v part h l e p n s =
    record { value = rw (n, s, p) (h.value ∙ rw (more vs i v l e) (sym (append_assoc out (chains_of names side stmt (is_part parent v) at v) (chains_among names side stmt parent (at + size v) (drop (i + 1) vs))))) }

pub chains_end : (names : List (List ℕ)) (side : Side) (stmt : ℕ) (parent : Symbol) (first : ℕ) (vs : List Value) (old : List Chain) (i : ℕ) (out : List Chain) (at : ℕ) → ChainsAdded names side stmt parent first vs old i out at → length vs ≤ i
    → out ≡ old ++ chains_among names side stmt parent first vs
chains_end names side stmt parent first vs old i out at h l = sym ((h.value ∙ ap (λ r. out ++ chains_among names side stmt parent at r) (drop_all i vs l)) ∙ append-nil out)

-- a call
pub call_chains : (names : List (List ℕ)) (side : Side) (stmt : ℕ) (part : Bool) (at first : ℕ) (v : Value) (s : Symbol) (args args2 : List Value) (place : Place) (old mid new : List Chain) → v ≡ Call s args place → args2 ≡ args → first ≡ at + 1
    → mid ≡ old ++ own_chain names side stmt part at s (nodes_brought s.name (at + 1) args2) → new ≡ mid ++ chains_among names side stmt s first args2 → new ≡ old ++ chains_of names side stmt part at v
call_chains names side stmt part at first v s args args2 place old mid new is a f m n =
    n ∙ (λ i. (m ∙ ap (λ xs. old ++ own_chain names side stmt part at s (nodes_brought s.name (at + 1) xs)) a) i ++ chains_among names side stmt s (f i) (a i))
    ∙ append_assoc old (own_chain names side stmt part at s (nodes_brought s.name (at + 1) args)) (chains_among names side stmt s (at + 1) args)
    ∙ ap (λ r. old ++ r) (sym (ap (chains_of names side stmt part at) is ∙ chains_call names side stmt part at s args place))

-- the chains of statements
module _ (names : List (List ℕ)) (side : Side) where
  stmts_row : (m : _) (k : Row_of-Stmt m) (first : ℕ) → chains_of_body names side first k ≡ chains_of_all names side first (items-the_row-Stmt m k)
  unfolding chains_of_stmt
  stmts_row m end_of-Stmt first = refl
  stmts_row m (more_of-Stmt {n = n} s rest) first = ap (λ r. chains_of_stmt names side first s ++ r) (stmts_row n rest (first + assignments s))

  for_row : (first : ℕ) (iter : List ℕ) (start : IndexExpr) (cond : Cond) (step : ℤ) (n : _) (body : Row_of-Stmt _) (place : Place)
      → chains_of_stmt names side first (For' iter start cond step n body place) ≡ chains_of_all names side first (items-the_row-Stmt _ body)
  unfolding chains_of_stmt
  for_row first iter start cond step n body place = stmts_row _ body first

  pub chains_for : (first : ℕ) (iter : List ℕ) (start : IndexExpr) (cond : Cond) (step : ℤ) (body : List Stmt) (place : Place)
      → chains_of_stmt names side first (For iter start cond step body place) ≡ chains_of_all names side first body
  chains_for first iter start cond step body place = search (rules, the_lemmas, for_row)

  if_row : (first : ℕ) (cond : Cond) (n : _) (taken : Row_of-Stmt _) (m : _) (other : Row_of-Stmt _) (place : Place)
      → chains_of_stmt names side first (If' cond n taken m other place) ≡ chains_of_all names side first (items-the_row-Stmt _ taken) ++ chains_of_all names side (first + sum_by assignments (items-the_row-Stmt _ taken)) (items-the_row-Stmt _ other)
  unfolding chains_of_stmt
  if_row first cond n taken m other place =
      λ i. stmts_row _ taken first i ++ (ap (λ k. chains_of_body names side (first + k) other) (count_row _ taken) ∙ stmts_row _ other (first + sum_by assignments (items-the_row-Stmt _ taken))) i

  pub chains_if : (first : ℕ) (cond : Cond) (taken other : List Stmt) (place : Place)
      → chains_of_stmt names side first (If cond taken other place) ≡ chains_of_all names side first taken ++ chains_of_all names side (first + sum_by assignments taken) other
  chains_if first cond taken other place = search (rules, the_lemmas, if_row)

  pub chains_assign : (first : ℕ) (array : ℕ) (subs : List IndexExpr) (value : Value) (place : Place) → chains_of_stmt names side first (Assign array subs value place) ≡ chains_of names side first false 0 value
  unfolding chains_of_stmt
  chains_assign first array subs value place = refl

pub ruleset stmt_chain_steps = (chains_for, chains_if, chains_assign)

pub record StmtChainsAdded (names : List (List ℕ)) (side : Side) (first : ℕ) (ss : List Stmt) (old : List Chain) (i : ℕ) (out : List Chain) (at : ℕ) : Type 0 where
  pub value : old ++ chains_of_all names side first ss ≡ out ++ chains_of_all names side at (drop i ss)

pub stmt_chains_step : (names : List (List ℕ)) (side : Side) (first : ℕ) (ss : List Stmt) (old : List Chain) (i : ℕ) (out new : List Chain) (at next : ℕ) (s : Stmt) → StmtChainsAdded names side first ss old i out at → i < length ss → s ≡ get_or ss i s
    → new ≡ out ++ chains_of_stmt names side at s → next ≡ at + assignments s → StmtChainsAdded names side first ss old (i + 1) new next
stmt_chains_step names side first ss old i out new at next s h l e n k =
    record { value = rw (n, k) (h.value ∙ rw (more ss i s l e) (sym (append_assoc out (chains_of_stmt names side at s) (chains_of_all names side (at + assignments s) (drop (i + 1) ss))))) }

pub stmt_chains_end : (names : List (List ℕ)) (side : Side) (first : ℕ) (ss : List Stmt) (old : List Chain) (i : ℕ) (out : List Chain) (at : ℕ) → StmtChainsAdded names side first ss old i out at → length ss ≤ i → out ≡ old ++ chains_of_all names side first ss
stmt_chains_end names side first ss old i out at h l = sym ((h.value ∙ ap (λ r. out ++ chains_of_all names side at r) (drop_all i ss l)) ∙ append-nil out)

pub if_chains : (names : List (List ℕ)) (side : Side) (first next count : ℕ) (s : Stmt) (cond : Cond) (taken taken2 taken3 other other2 : List Stmt) (place : Place) (old mid new : List Chain) → s ≡ If cond taken other place → taken2 ≡ taken → taken3 ≡ taken → other2 ≡ other
    → count ≡ sum_by assignments taken3 → next ≡ first + count → mid ≡ old ++ chains_of_all names side first taken2 → new ≡ mid ++ chains_of_all names side next other2 → new ≡ old ++ chains_of_stmt names side first s
if_chains names side first next count s cond taken taken2 taken3 other other2 place old mid new is a b o c k m n =
    n ∙ (λ i. (m ∙ ap (λ xs. old ++ chains_of_all names side first xs) a) i ++ chains_of_all names side ((k ∙ ap (λ j. first + j) (c ∙ ap (λ xs. sum_by assignments xs) b)) i) (o i))
    ∙ append_assoc old (chains_of_all names side first taken) (chains_of_all names side (first + sum_by assignments taken) other)
    ∙ ap (λ r. old ++ r) (sym (ap (chains_of_stmt names side first) is ∙ chains_if names side first cond taken other place))

-- where there is no chain
pub none_added : {A : Type 0} (old cs : List A) → cs ≡ [] → old ≡ old ++ cs
none_added old cs e = sym (append-nil old) ∙ ap (λ r. old ++ r) (sym e)
