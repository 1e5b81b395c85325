-- What the loops over values and statements keep, and the outlines of each kind.
use Rattle.std.proofs.Common.{◌≡◌, ℕ, ◌+◌, ◌<◌, ◌≤◌, ℤ, List, [], ◌∷◌, ◌++◌, length, map, drop, get_or, refl, sym, ap, ◌∙◌, append_assoc, append-nil, length-append, rules, arith}
use Rattle.std.specs.List.{flat_map}
use Rattle.std.proofs.lemmas.List.{drop_more, drop_all, length-map}
use Rattle.ac_syntax.specs.ValueNodes.{size, size_in}
use Rattle.ac_syntax.specs.declared.tree.Cond.{Cond}
use Rattle.ac_syntax.specs.declared.tree.IndexExpr.{IndexExpr}
use Rattle.ac_syntax.specs.declared.tree.Place.{Place}
use Rattle.ac_syntax.specs.declared.tree.Symbol.{Symbol}
use Rattle.ac_syntax.specs.declared.tree.Stmt.{Stmt, Row_of-Stmt, end_of-Stmt, more_of-Stmt, items-the_row-Stmt}
use Rattle.ac_syntax.specs.declared.tree.Stmt as stmt
use Rattle.ac_syntax.specs.declared.tree.Stmt.TheVariants.{For, If, Assign}
use Rattle.ac_syntax.specs.declared.tree.Value.{Value, Row_of-Value, end_of-Value, more_of-Value, items-the_row-Value, the_lemmas}
use Rattle.ac_syntax.specs.declared.tree.Value.TheVariants.{Number, Access, Call, Call'}
use Rattle.ac_poly.specs.ModelNodes.{roots}
use Rattle.ac_poly.specs.LoweringSteps.{roots_of}
use Rattle.ac_graph.specs.ProgramOutlines.{outlined, outlined_in, outlined_all, outlines, outlines_in}
use Rattle.ac_graph.specs.declared.outline.Outline.{Outline}
use Rattle.ac_graph.specs.declared.outline.Outline.TheVariants as outline
use Rattle.ac_poly.proofs.Failing.{more}
use Rattle.ac_poly.proofs.NodeSteps.{roots_row}

outlined_row : (m : _) (k : Row_of-Value m) (at : ℕ) → outlined_in k at ≡ outlined_all (items-the_row-Value m k) at
unfolding outlined
outlined_row m end_of-Value at = refl
outlined_row m (more_of-Value {n = n} v rest) at = ap (λ r. outlined v at ++ r) (outlined_row n rest (at + size v))

call_row : (s : Symbol) (n : _) (args : Row_of-Value _) (place : Place) (at : ℕ)
    → outlined (Call' s n args place) at ≡ outline.Call s (roots_of (items-the_row-Value _ args) (at + 1)) ∷ outlined_all (items-the_row-Value _ args) (at + 1)
unfolding outlined
call_row s n args place at = λ i. outline.Call s (roots_row _ args (at + 1) i) ∷ outlined_row _ args (at + 1) i

pub outlined_call : (s : Symbol) (args : List Value) (place : Place) (at : ℕ) → outlined (Call s args place) at ≡ outline.Call s (roots_of args (at + 1)) ∷ outlined_all args (at + 1)
outlined_call s args place at = search (rules, the_lemmas, call_row)

pub outlined_number : (e : IndexExpr) (at : ℕ) → outlined (Number e) at ≡ outline.Number ∷ []
unfolding outlined
outlined_number e at = refl

pub outlined_access : (array : ℕ) (subs : List IndexExpr) (place : Place) (at : ℕ) → outlined (Access array subs place) at ≡ outline.Read ∷ []
unfolding outlined
outlined_access array subs place at = refl

pub ruleset value_steps = (outlined_call, outlined_number, outlined_access)

-- as many as the value has nodes
mutual
  unfolding outlined size

  length_outlined : (v : Value) (at : ℕ) → length (outlined v at) ≡ size v
  length_outlined (Number e) at = refl
  length_outlined (Access array subs place) at = refl
  length_outlined (Call' symbol n args place) at = omega (arith, length_outlined_in args (at + 1))

  length_outlined_in : {m : _} (k : Row_of-Value m) (at : ℕ) → length (outlined_in k at) ≡ size_in k
  length_outlined_in end_of-Value at = refl
  length_outlined_in (more_of-Value v rest) at = omega (arith, length-append (outlined v at) (outlined_in rest (at + size v)), length_outlined v at, length_outlined_in rest (at + size v))

-- after i of the values
pub record OutlinesMade (vs : List Value) (old : List Outline) (i : ℕ) (made : List Outline) : Type 0 where
  pub value : old ++ outlined_all vs (length old) ≡ made ++ outlined_all (drop i vs) (length made)

pub node_start : (vs : List Value) (old : List Outline) → OutlinesMade vs old 0 old
node_start vs old = record { value = refl }

pub node_step : (vs : List Value) (old : List Outline) (i : ℕ) (made new : List Outline) (v : Value) → OutlinesMade vs old i made → i < length vs → v ≡ get_or vs i v
    → new ≡ made ++ outlined v (length made) → OutlinesMade vs old (i + 1) new
node_step vs old i made new v h l e m =
    let d = more vs i v l e in
    let s : length new ≡ length made + size v = ap length m ∙ length-append made (outlined v (length made)) ∙ ap (λ k. length made + k) (length_outlined v (length made)) in
    record {
      value =
          h.value ∙ ap (λ r. made ++ outlined_all r (length made)) d
          ∙ sym (append_assoc made (outlined v (length made)) (outlined_all (drop (i + 1) vs) (length made + size v)))
          ∙ (λ j. sym m j ++ outlined_all (drop (i + 1) vs) (sym s j));
    }

pub node_end : (vs : List Value) (old : List Outline) (i : ℕ) (made : List Outline) → OutlinesMade vs old i made → length vs ≤ i → made ≡ old ++ outlined_all vs (length old)
node_end vs old i made h l =
    let d = drop_all i vs l in
    sym ((h.value ∙ ap (λ r. made ++ outlined_all r (length made)) d) ∙ append-nil made)

pub ruleset node_steps = (node_start, node_step, node_end)

pub call_made : (v : Value) (s copy : Symbol) (args args2 args3 : List Value) (place : Place) (old mid new : List Outline) (numbers : List ℕ) (first : ℕ)
    → v ≡ Call s args place → first ≡ length old + 1 → args2 ≡ args → numbers ≡ roots_of args2 first → copy ≡ s → mid ≡ old ++ outline.Call copy numbers ∷ [] → args3 ≡ args
    → new ≡ mid ++ outlined_all args3 (length mid) → new ≡ old ++ outlined v (length old)
call_made v s copy args args2 args3 place old mid new numbers first is f a n k m b made =
    let l : length mid ≡ length old + 1 = ap length m ∙ length-append old (outline.Call copy numbers ∷ []) in
    let node : outline.Call copy numbers ≡ outline.Call s (roots_of args (length old + 1)) = (λ i. outline.Call (k i) ((n ∙ (λ j. roots_of (a j) (f j))) i)) in
    rw is (
    made ∙ (λ i. m i ++ outlined_all (b i) (l i)) ∙ append_assoc old (outline.Call copy numbers ∷ []) (outlined_all args (length old + 1))
    ∙ ap (λ x. old ++ x ∷ outlined_all args (length old + 1)) node ∙ ap (λ x. old ++ x) (sym (outlined_call s args place (length old)))
    )

-- statements
stmt_row : (m : _) (k : Row_of-Stmt m) → outlines_in k ≡ flat_map outlines (items-the_row-Stmt m k)
unfolding outlines
stmt_row m end_of-Stmt = refl
stmt_row m (more_of-Stmt {n = n} s rest) = ap (λ k. outlines s ++ k) (stmt_row n rest)

pub outlines_for : (iter : List ℕ) (start : IndexExpr) (cond : Cond) (step : ℤ) (body : List Stmt) (place : Place) → outlines (For iter start cond step body place) ≡ flat_map outlines body
unfolding outlines
outlines_for iter start cond step body place = search (rules, stmt.the_lemmas, stmt_row)

pub outlines_if : (cond : Cond) (taken other : List Stmt) (place : Place) → outlines (If cond taken other place) ≡ flat_map outlines taken ++ flat_map outlines other
unfolding outlines
outlines_if cond taken other place = search (rules, stmt.the_lemmas, stmt_row)

pub outlines_assign : (array : ℕ) (subs : List IndexExpr) (value : Value) (place : Place) → outlines (Assign array subs value place) ≡ outlined value 0 ∷ []
unfolding outlines
outlines_assign array subs value place = refl

pub ruleset statement_steps = (outlines_for, outlines_if, outlines_assign, append_assoc)

pub ruleset list_steps = (append_assoc, append-nil)
