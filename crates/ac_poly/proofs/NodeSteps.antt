-- What the loops over values keep, and the nodes of a call.
use Rattle.std.proofs.Common.{◌≡◌, ℕ, ◌+◌, ◌<◌, ◌≤◌, List, [], ◌∷◌, ◌++◌, length, map, drop, get_or, refl, sym, ap, ◌∙◌, append_assoc, append-nil, length-append, rules, subst}
use Rattle.std.specs.List.{AllByRecursion}
use Rattle.std.proofs.lemmas.List.{drop_all}
use Rattle.ac_syntax.specs.ValueNodes.{size}
use Rattle.ac_syntax.specs.declared.tree.Place.{Place}
use Rattle.ac_syntax.specs.declared.tree.Symbol.{Symbol}
use Rattle.ac_syntax.specs.declared.tree.IndexExpr.{IndexExpr}
use Rattle.ac_syntax.specs.declared.tree.Value.{Value, Row_of-Value, end_of-Value, more_of-Value, items-the_row-Value, the_lemmas}
use Rattle.ac_syntax.specs.declared.tree.Value.TheVariants.{Number, Access, Call, Call'}
use Rattle.ac_poly_quotients.specs.declared.types.Scope.{Scope}
use Rattle.ac_poly_quotients.proofs.Making.{more}
use Rattle.ac_poly.specs.Lower.{last_form}
use Rattle.ac_poly.specs.ModelNodes.{nodes, nodes_in, roots}
use Rattle.ac_poly.specs.LoweringRange.{CanForm, CanFormValue, CanFormValues}
use Rattle.ac_poly.specs.LoweringSteps.{nodes_of, roots_of}
use Rattle.ac_poly.specs.declared.types.NodeModel.{NodeModel}
use Rattle.ac_poly.specs.declared.types.NodeModel.TheVariants.{Number as Constant, Read, Call as Applied}
use Rattle.ac_poly.proofs.NodeForms.{length-nodes}

-- the numbers of values
pub record RootsMade (vs : List Value) (first i : ℕ) (made : List ℕ) (at : ℕ) : Type 0 where
  pub value : roots_of vs first ≡ made ++ roots_of (drop i vs) at

pub root_start : (vs : List Value) (first : ℕ) → RootsMade vs first 0 [] first
root_start vs first = record { value = refl }

pub root_step : (vs : List Value) (first i : ℕ) (made new : List ℕ) (at next : ℕ) (v : Value) → RootsMade vs first i made at → i < length vs → v ≡ get_or vs i v → new ≡ made ++ at ∷ [] → next ≡ at + size v → RootsMade vs first (i + 1) new next
root_step vs first i made new at next v h l e n s = record { value = rw (n, s) (h.value ∙ rw (more vs i v l e) (sym (append_assoc made (at ∷ []) (roots_of (drop (i + 1) vs) (at + size v))))) }

pub root_end : (vs : List Value) (first i : ℕ) (made : List ℕ) (at : ℕ) → RootsMade vs first i made at → length vs ≤ i → made ≡ roots_of vs first
root_end vs first i made at h l = sym ((h.value ∙ ap (λ r. made ++ roots_of r at) (drop_all i vs l)) ∙ append-nil made)

pub ruleset root_steps = (root_start, root_step, root_end)

-- a call at lists
pub roots_row : (m : _) (k : Row_of-Value m) (at : ℕ) → roots k at ≡ roots_of (items-the_row-Value m k) at
unfolding roots
roots_row m end_of-Value at = refl
roots_row m (more_of-Value {n = n} v rest) at = ap (λ r. at ∷ r) (roots_row n rest (at + size v))

nodes_row : (c : Scope) (m : _) (k : Row_of-Value m) (at : ℕ) → nodes_in (last_form c) k at ≡ nodes_of (last_form c) (items-the_row-Value m k) at
unfolding nodes
nodes_row c m end_of-Value at = refl
nodes_row c m (more_of-Value {n = n} v rest) at = ap (λ r. nodes (last_form c) v at ++ r) (nodes_row c n rest (at + size v))

can_row : (c : Scope) (m : _) (k : Row_of-Value m) → CanFormValues c k ≡ AllByRecursion (CanFormValue c) (items-the_row-Value m k)
unfolding CanFormValue
can_row c m end_of-Value = refl
can_row c m (more_of-Value {n = n} v rest) = λ i. CanFormValue c v × can_row c n rest i

call_row : (c : Scope) (s : Symbol) (n : _) (args : Row_of-Value _) (place : Place) (at : ℕ)
    → nodes (last_form c) (Call' s n args place) at ≡ Applied s (roots_of (items-the_row-Value _ args) (at + 1)) ∷ nodes_of (last_form c) (items-the_row-Value _ args) (at + 1)
unfolding nodes
call_row c s n args place at = λ i. Applied s (roots_row _ args (at + 1) i) ∷ nodes_row c _ args (at + 1) i

pub nodes_call : (c : Scope) (s : Symbol) (args : List Value) (place : Place) (at : ℕ) → nodes (last_form c) (Call s args place) at ≡ Applied s (roots_of args (at + 1)) ∷ nodes_of (last_form c) args (at + 1)
nodes_call c s args place at = search (rules, the_lemmas, call_row)

can_call_row : (c : Scope) (s : Symbol) (n : _) (args : Row_of-Value _) (place : Place) → CanFormValue c (Call' s n args place) ≡ AllByRecursion (CanFormValue c) (items-the_row-Value _ args)
unfolding CanFormValue
can_call_row c s n args place = can_row c _ args

pub can_call : (c : Scope) (s : Symbol) (args : List Value) (place : Place) → CanFormValue c (Call s args place) ≡ AllByRecursion (CanFormValue c) args
can_call c s args place = search (rules, the_lemmas, can_call_row)

pub nodes_number : (c : Scope) (e : IndexExpr) (at : ℕ) → nodes (last_form c) (Number e) at ≡ Constant (last_form c e) ∷ []
unfolding nodes
nodes_number c e at = refl

pub nodes_access : (c : Scope) (array : ℕ) (subs : List IndexExpr) (place : Place) (at : ℕ) → nodes (last_form c) (Access array subs place) at ≡ Read array (map (last_form c) subs) ∷ []
unfolding nodes
nodes_access c array subs place at = refl

pub can_number : (c : Scope) (e : IndexExpr) → CanFormValue c (Number e) ≡ CanForm c e
unfolding CanFormValue
can_number c e = refl

pub can_access : (c : Scope) (array : ℕ) (subs : List IndexExpr) (place : Place) → CanFormValue c (Access array subs place) ≡ AllByRecursion (CanForm c) subs
unfolding CanFormValue
can_access c array subs place = refl

pub ruleset value_steps = (nodes_call, can_call, nodes_number, nodes_access, can_number, can_access)

-- after i of the values
pub record NodesMade (c : Scope) (vs : List Value) (old : List NodeModel) (i : ℕ) (made : List NodeModel) : Type 0 where
  pub onward : AllByRecursion (CanFormValue c) vs → AllByRecursion (CanFormValue c) (drop i vs)
  pub back : AllByRecursion (CanFormValue c) (drop i vs) → AllByRecursion (CanFormValue c) vs
  pub value : old ++ nodes_of (last_form c) vs (length old) ≡ made ++ nodes_of (last_form c) (drop i vs) (length made)

pub node_start : (c : Scope) (vs : List Value) (old : List NodeModel) → NodesMade c vs old 0 old
node_start c vs old = record { onward = λ h. h; back = λ h. h; value = refl }

pub node_step : (c : Scope) (vs : List Value) (old : List NodeModel) (i : ℕ) (made new : List NodeModel) (v : Value) → NodesMade c vs old i made → i < length vs → v ≡ get_or vs i v
    → CanFormValue c v × (new ≡ made ++ nodes (last_form c) v (length made)) → NodesMade c vs old (i + 1) new
node_step c vs old i made new v h l e m =
    let d = more vs i v l e in
    let s : length new ≡ length made + size v = ap length m.1 ∙ length-append made (nodes (last_form c) v (length made)) ∙ ap (λ k. length made + k) (length-nodes (last_form c) v (length made)) in
    record {
      onward = λ g. (rw d at (h.onward g)).1;
      back = λ g. h.back (rw d (m.0, g));
      value =
          h.value ∙ ap (λ r. made ++ nodes_of (last_form c) r (length made)) d
          ∙ sym (append_assoc made (nodes (last_form c) v (length made)) (nodes_of (last_form c) (drop (i + 1) vs) (length made + size v)))
          ∙ (λ j. sym m.1 j ++ nodes_of (last_form c) (drop (i + 1) vs) (sym s j));
    }

pub node_fits : (c : Scope) (vs : List Value) (old : List NodeModel) (i : ℕ) (made : List NodeModel) (v : Value) → NodesMade c vs old i made → i < length vs → v ≡ get_or vs i v → AllByRecursion (CanFormValue c) vs → CanFormValue c v
node_fits c vs old i made v h l e g = (rw (more vs i v l e) at (h.onward g)).0

pub node_end : (c : Scope) (vs : List Value) (old : List NodeModel) (i : ℕ) (made : List NodeModel) → NodesMade c vs old i made → length vs ≤ i → AllByRecursion (CanFormValue c) vs × (made ≡ old ++ nodes_of (last_form c) vs (length old))
node_end c vs old i made h l =
    let d = drop_all i vs l in
    (h.back (rw d tt), sym ((h.value ∙ ap (λ r. made ++ nodes_of (last_form c) r (length made)) d) ∙ append-nil made))

pub ruleset node_steps = (node_start, node_step, node_fits, node_end)

pub call_made : (c : Scope) (v : Value) (s copy : Symbol) (args args2 args3 : List Value) (place : Place) (old mid new : List NodeModel) (numbers : List ℕ) (first : ℕ)
    → v ≡ Call s args place → first ≡ length old + 1 → args2 ≡ args → numbers ≡ roots_of args2 first → copy ≡ s → mid ≡ old ++ Applied copy numbers ∷ [] → args3 ≡ args
    → AllByRecursion (CanFormValue c) args3 × (new ≡ mid ++ nodes_of (last_form c) args3 (length mid)) → CanFormValue c v × (new ≡ old ++ nodes (last_form c) v (length old))
call_made c v s copy args args2 args3 place old mid new numbers first is f a n k m b made =
    let l : length mid ≡ length old + 1 = ap length m ∙ length-append old (Applied copy numbers ∷ []) in
    let node : Applied copy numbers ≡ Applied s (roots_of args (length old + 1)) = (λ i. Applied (k i) ((n ∙ (λ j. roots_of (a j) (f j))) i)) in
    rw is (
      rw (can_call c s args place) (subst (λ x. AllByRecursion (CanFormValue c) x) b made.0),
      made.1 ∙ (λ i. m i ++ nodes_of (last_form c) (b i) (l i)) ∙ append_assoc old (Applied copy numbers ∷ []) (nodes_of (last_form c) args (length old + 1))
          ∙ ap (λ x. old ++ x ∷ nodes_of (last_form c) args (length old + 1)) node ∙ ap (λ x. old ++ x) (sym (nodes_call c s args place (length old))),
    )
