-- The terms of values in a state, the ids that stand for them, and what happens while they are evaluated.
use Rattle.std.proofs.Common.{◌≡◌, ℕ, List, [], ◌∷◌, ◌++◌, map, Option, None, Some, MatchOption, Bool, true, false, Result, Ok, Err, OnOk, if◌then◌else◌, refl, rules, sym, ap, subst}
use Rattle.std.specs.List.{flat_map}
use Rattle.ac_syntax.specs.Index.{Point, index_value}
use Rattle.ac_syntax.specs.Algebra.{Cell, value_of, same_cell, store}
use Rattle.ac_syntax.specs.Term.{Leaf, Term, Num, Initial, terms, free}
use Rattle.ac_syntax.specs.declared.tree.IndexExpr.{IndexExpr}
use Rattle.ac_syntax.specs.declared.tree.Place.{Place}
use Rattle.ac_syntax.specs.declared.tree.Symbol.{Symbol}
use Rattle.ac_syntax.specs.declared.tree.Value.{Value, Row_of-Value, end_of-Value, more_of-Value, items-the_row-Value, the_lemmas as value_lemmas}
use Rattle.ac_syntax.specs.declared.tree.Value.TheVariants.{Number, Access, Call, Call'}
use Rattle.ac_terms.specs.declared.node.TermId.{TermId}
use Rattle.ac_terms.specs.Table.{Table, StandsFor, StandForAll, Keeps}
use Rattle.ac_instance.specs.declared.halt.Side.{Side}
use Rattle.ac_instance.specs.Events.{Event, event, index, in_value, in_values}
use Rattle.ac_instance.specs.KeptIds.{cell, id_at, Holds}
use Rattle.ac_instance.proofs.Ids.{turned}

pub term_number : (p : Point) (state : Cell → Term) (e : IndexExpr) → value_of free p state (Number e) ≡ Num (index_value p e)
unfolding value_of
term_number p state e = refl

pub term_access : (p : Point) (state : Cell → Term) (array : ℕ) (subs : List IndexExpr) (place : Place) → value_of free p state (Access array subs place) ≡ state (cell array (map (index_value p) subs))
unfolding value_of
term_access p state array subs place = refl

pub in_number : (side : Side) (p : Point) (e : IndexExpr) → in_value side p (Number e) ≡ event ∷ index side p e
unfolding in_value
in_number side p e = refl

pub in_access : (side : Side) (p : Point) (array : ℕ) (subs : List IndexExpr) (place : Place) → in_value side p (Access array subs place) ≡ event ∷ flat_map (index side p) subs
unfolding in_value
in_access side p array subs place = refl

row : (side : Side) (p : Point) (m : _) (k : Row_of-Value m) → in_values side p k ≡ flat_map (in_value side p) (items-the_row-Value m k)
unfolding in_value
row side p m end_of-Value = refl
row side p m (more_of-Value {n = n} v rest) = ap (λ xs. in_value side p v ++ xs) (row side p n rest)

call_row : (side : Side) (p : Point) (m : _) (k : Row_of-Value m) → event ∷ in_values side p k ≡ event ∷ flat_map (in_value side p) (items-the_row-Value m k)
call_row side p m k = ap (λ xs. event ∷ xs) (row side p m k)

pub in_call : (side : Side) (p : Point) (s : Symbol) (args : List Value) (place : Place) → in_value side p (Call s args place) ≡ event ∷ flat_map (in_value side p) args
unfolding in_value
in_call side p s args place = search (rules, value_lemmas, call_row)

-- one more argument
pub StandForAll-push : (table : Table) (ts : List Term) (t : Term) (ids : List TermId) (id : TermId)
    → StandForAll table (terms ts) ids → StandsFor table t id → StandForAll table (terms (ts ++ t ∷ [])) (ids ++ id ∷ [])
StandForAll-push table [] t ids id h k = (id, [], ap (λ l. l ++ id ∷ []) h, k, refl)
StandForAll-push table (x ∷ xs) t ids id h k = (h.0, h.1 ++ id ∷ [], ap (λ l. l ++ id ∷ []) h.2, h.3, StandForAll-push table xs t h.1 id h.4 k)

-- what is kept for cells goes on to stand for what they have
pub Holds-kept : (before now : Table) → Keeps before now → (ids : List (Cell × TermId)) (leaf : Cell → Leaf) (state : Cell → Term) → Holds before ids leaf state → Holds now ids leaf state
Holds-kept before now kept ids leaf state h c = by (id_at ids c) (h c)
  where
    by : (o : Option TermId) → MatchOption o (state c ≡ Initial (leaf c)) (λ id. StandsFor before (state c) id) → MatchOption o (state c ≡ Initial (leaf c)) (λ id. StandsFor now (state c) id)
    by None k = k
    by (Some id) k = kept (state c) id k

-- a node's event comes first
pub value_first : (side : Side) (p : Point) (v : Value) → (rest : List Event) × (in_value side p v ≡ event ∷ rest)
unfolding in_value
value_first side p (Number e) = (index side p e, refl)
value_first side p (Access array subs place) = (flat_map (index side p) subs, refl)
value_first side p (Call' symbol n args place) = (in_values side p args, refl)

pub on_ok : {A B : Type 0} (r : Result A B) (P Q : Type 0) → (P → Q) → OnOk r P → OnOk r Q
on_ok (Ok a) P Q f h = f h
on_ok (Err b) P Q f h = tt

-- at the start nothing is kept, and each cell has its leaf
pub Holds-start : (table : Table) (ids : List (Cell × TermId)) (leaf : Cell → Leaf) → ids ≡ [] → Holds table ids leaf (λ c. Initial (leaf c))
Holds-start table ids leaf none = subst (λ l. Holds table l leaf (λ c. Initial (leaf c))) (sym none) (λ c. refl)

pub Holds-after : (before now : Table) → Keeps before now → (ids changed : List (Cell × TermId)) (leaf : Cell → Leaf) (state : Cell → Term) (at : Cell) (t : Term) (id : TermId)
    → ((c : Cell) → id_at changed c ≡ (if same_cell at c then Some id else id_at ids c)) → StandsFor now t id → Holds before ids leaf state → Holds now changed leaf (store at t state)
Holds-after before now kept ids changed leaf state at t id set stands h c =
    subst (λ o. MatchOption o (store at t state c ≡ Initial (leaf c)) (λ i. StandsFor now (store at t state c) i)) (sym (set c))
    (subst (λ b. MatchOption (if b then Some id else id_at ids c) (store at t state c ≡ Initial (leaf c)) (λ i. StandsFor now (store at t state c) i)) (turned c at) (by (same_cell c at)))
  where
    by : (b : Bool) → MatchOption (if b then Some id else id_at ids c) ((if b then t else state c) ≡ Initial (leaf c)) (λ i. StandsFor now (if b then t else state c) i)
    by true = stands
    by false = Holds-kept before now kept ids leaf state h c
