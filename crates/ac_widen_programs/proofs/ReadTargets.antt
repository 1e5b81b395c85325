-- What reads, and where it goes.
use Rattle.std.proofs.Common.{◌≡◌, ◌⊎◌, inl, inr, ℕ, ℤ, List, Bool, false, cond, Option, Some, None, refl, sym, ap, ◌∙◌, subst}
use Rattle.ac_syntax.specs.Algebra.{Cell}
use Rattle.ac_syntax.specs.Source.{Writer, Stands, source}
use Rattle.ac_syntax.specs.Spot.{Spot, AtEnd, AtNode, AtStart, Reads, an_output, an_access, cell_at, resolved}
use Rattle.ac_syntax.specs.Trace.{Entry}
use Rattle.ac_syntax.specs.Where.{element}
use Rattle.ac_syntax.specs.declared.tree.IndexExpr.{IndexExpr}
use Rattle.ac_syntax.specs.declared.tree.Order.{Order}
use Rattle.ac_syntax.specs.declared.tree.Order.TheVariants.{Keep}
use Rattle.ac_syntax.specs.declared.tree.Pair.{Pair}
use Rattle.ac_syntax.specs.declared.tree.Place.{Place}
use Rattle.ac_syntax.specs.declared.tree.Position.{Position}
use Rattle.ac_syntax.specs.declared.tree.Position.TheVariants.{Output, Node, InitialOutput, InitialNode}
use Rattle.ac_syntax.specs.declared.tree.Symbol.{Symbol}
use Rattle.ac_syntax.specs.declared.tree.Value.{Value}
use Rattle.ac_syntax.specs.declared.tree.Value.TheVariants.{Number, Access, Call'}
use Rattle.ac_syntax.proofs.PlaceLaws.{entries_before_stand_earlier}
use Rattle.ac_syntax.proofs.Sources.{source_stands}
use Rattle.ac_poly.specs.Model.{model_of}
use Rattle.ac_poly.specs.declared.types.Model.{Model}
use Rattle.ac_claims_paths.specs.Executions.{Execution, At, Describes}
use Rattle.ac_claims_paths.specs.PathSteps.{Pairing}
use Rattle.ac_claims_paths.specs.Pairs.{Placed, IsReader, IsResolved, IsCallOf}
use Rattle.ac_claims_paths.specs.ModelPositions.{CallAt, call_at, initial_of}
use Rattle.ac_claims_paths.proofs.ReadSteps.{at_root}
use Rattle.ac_widen_programs.specs.PairSetting.{may_swap, order_at}
use Rattle.ac_graph.specs.PairMoves.{pairing_of}
use Rattle.ac_widen_programs.proofs.PositionModels.{call_there}

-- ---- what a read is

pub reads_end : (es : List Entry) (s : Spot) (c e : Cell) (before : List Entry) → Reads es s c before → s ≡ AtEnd e → (c ≡ e) × (before ≡ es)
reads_end es s c e before (an_output d) h = let i : d ≡ e = cc in (i, refl)
reads_end es s c e before (an_access w array subs place) h = absurd cc

pub record AccessAt (w : Writer) (v : Value) (c : Cell) (before : List Entry) : Type 0 where
  pub array : ℕ
  pub subs : List IndexExpr
  pub place : Place
  pub value_is : v ≡ Access array subs place
  pub cell_is : c ≡ cell_at w array subs
  pub before_is : before ≡ w.earlier

pub reads_node : (es : List Entry) (s : Spot) (c : Cell) (before : List Entry) → Reads es s c before → (w : Writer) (v : Value) → s ≡ AtNode w v → AccessAt w v c before
reads_node es s c before (an_output d) w v h = absurd cc
reads_node es s c before (an_access u array subs place) w v h =
    let i : u ≡ w = cc in
    let j : Access array subs place ≡ v = cc in
    record { array = array; subs = subs; place = place; value_is = sym j; cell_is = ap (λ (z : Writer). cell_at z array subs) i; before_is = ap (λ (z : Writer). z.earlier) i }

pub reads_start : (es : List Entry) (s : Spot) (c d : Cell) (before : List Entry) → Reads es s c before → s ≡ AtStart d → ⊥
reads_start es s c d before (an_output e) h = absurd cc
reads_start es s c d before (an_access w array subs place) h = absurd cc

-- ---- a placed position reads, or it doesn't

no_number : (es : List Entry) (s : Spot) (c : Cell) (before : List Entry) (w : Writer) (e : IndexExpr) → s ≡ AtNode w (Number e) → Reads es s c before → ⊥
no_number es s c before w e h r = let a = reads_node es s c before r w (Number e) h in let i : Number e ≡ Access a.array a.subs a.place = a.value_is in absurd cc

no_call : (es : List Entry) (s : Spot) (c : Cell) (before : List Entry) (w : Writer) (f : Symbol) (n : _) (args : _) (place : Place) → s ≡ AtNode w (Call' f n args place) → Reads es s c before → ⊥
no_call es s c before w f n args place h r = let a = reads_node es s c before r w (Call' f n args place) h in let i : Call' f n args place ≡ Access a.array a.subs a.place = a.value_is in absurd cc

value_kind : (x : Execution) (a : Placed x) (w : Writer) (v : Value) → a.spot ≡ AtNode w v → IsReader x a ⊎ ¬ (IsReader x a)
value_kind x a w (Number e) h = inr (λ r. no_number x.trace a.spot r.0 r.1 w e h r.2)
value_kind x a w (Access array subs place) h = inl (cell_at w array subs, w.earlier, subst (λ (s : Spot). Reads x.trace s (cell_at w array subs) w.earlier) (sym h) (an_access w array subs place))
value_kind x a w (Call' f n args place) h = inr (λ r. no_call x.trace a.spot r.0 r.1 w f n args place h r.2)

kind_at : (x : Execution) (a : Placed x) (P : Position) → At x P a.at a.spot → IsReader x a ⊎ ¬ (IsReader x a)
unfolding At
kind_at x a (Output o) h = inl (element o a.at, x.trace, subst (λ (s : Spot). Reads x.trace s (element o a.at) x.trace) (sym h.1) (an_output (element o a.at)))
kind_at x a (Node k j) (w, i, v, n, is) = value_kind x a w v is
kind_at x a (InitialOutput o) h = inr (λ r. reads_start x.trace a.spot r.0 (element o a.at) r.1 r.2 h.1)
kind_at x a (InitialNode k j) (w, i, array, subs, place, n, is) = inr (λ r. reads_start x.trace a.spot r.0 (cell_at w array subs) r.1 r.2 is)

pub reader_kind : (x : Execution) (a : Placed x) → IsReader x a ⊎ ¬ (IsReader x a)
reader_kind x a = kind_at x a a.position a.here

-- ---- where a read goes

initial_here : (x : Execution) (P : Position) (at : List ℤ) (s : Spot) (c : Cell) (before : List Entry) → Reads x.trace s c before → At x P at s → At x (initial_of P) at (AtStart c)
unfolding At
initial_here x (Output o) at s c before r h = (h.0, ap AtStart (reads_end x.trace s c (element o at) before r h.1).0)
initial_here x (Node k j) at s c before r (w, i, v, n, is) =
    let a = reads_node x.trace s c before r w v is in
    (w, i, a.array, a.subs, a.place, n ∙ ap (λ (z : Value). Some z) a.value_is, ap AtStart a.cell_is)
initial_here x (InitialOutput o) at s c before r h = absurd (reads_start x.trace s c (element o at) before r h.1)
initial_here x (InitialNode k j) at s c before r (w, i, array, subs, place, n, is) = absurd (reads_start x.trace s c (cell_at w array subs) before r is)

source_there : (x : Execution) (P : Position) (at : List ℤ) (s : Spot) (c : Cell) (before : List Entry) → Reads x.trace s c before → At x P at s → (w : Writer) → source c before ≡ Some w → Stands x.trace w
unfolding At
source_there x (Output o) at s c before r h w e = subst (λ (es : List Entry). Stands es w) (reads_end x.trace s c (element o at) before r h.1).1 (source_stands c before w e).0
source_there x (Node k j) at s c before r (u, i, v, n, is) w e =
    let a = reads_node x.trace s c before r u v is in
    ((entries_before_stand_earlier x.trace u w i.stands).0 (subst (λ (es : List Entry). Stands es w) a.before_is (source_stands c before w e).0)).0
source_there x (InitialOutput o) at s c before r h w e = absurd (reads_start x.trace s c (element o at) before r h.1)
source_there x (InitialNode k j) at s c before r (u, i, array, subs, place, n, is) w e = absurd (reads_start x.trace s c (cell_at u array subs) before r is)

pub record Resolved (x : Execution) (a : Placed x) (c : Cell) (o : Option Writer) : Type 0 where
  pub to : Placed x
  pub goes : IsResolved x a c o to
  pub spot : to.spot ≡ resolved c o

resolve_by : (x : Execution) (a : Placed x) (c : Cell) (before : List Entry) → Reads x.trace a.spot c before → (o : Option Writer) → source c before ≡ o → Resolved x a c o
resolve_by x a c before r None e =
    record { to = record { position = initial_of a.position; at = a.at; spot = AtStart c; here = initial_here x a.position a.at a.spot c before r a.here }; goes = record { position_is = refl; at_is = refl; spot_is = refl }; spot = refl }
resolve_by x a c before r (Some w) e =
    let s = source_there x a.position a.at a.spot c before r a.here w e in
    record { to = record { position = Node w.entry.stmt 0; at = x.coords w.entry; spot = AtNode w w.entry.value; here = at_root x w w.entry.stmt (x.coords w.entry) s refl refl }; goes = record { position_is = refl; at_is = refl; spot_is = refl }; spot = refl }

pub resolve : (x : Execution) (a : Placed x) (c : Cell) (before : List Entry) → Reads x.trace a.spot c before → Resolved x a c (source c before)
resolve x a c before r = resolve_by x a c before r (source c before) refl

-- ---- no read is a call, so it is no site

call_value : (v : Value) (node : ℕ) (f : Symbol) (ks : List ℕ) (array : ℕ) (subs : List IndexExpr) (place : Place) → v ≡ Access array subs place → IsCallOf v node f ks → ⊥
call_value (Number e) node f ks array subs place h i = i
call_value (Access a b c) node f ks array subs place h i = i
call_value (Call' g n args p) node f ks array subs place h i = absurd cc

no_call_at : (m : Model) (params : List ℤ) (x : Execution) → Describes m params x → (a : Placed x) (P : Position) → a.position ≡ P → IsReader x a → call_at m P ≡ None
no_call_at m params x d a P p r = by (call_at m P) refl
  where
    by : (o : Option CallAt) → call_at m P ≡ o → o ≡ None
    by None e = refl
    by (Some call) e =
        let c = (call_there m params x d a P call p e).0 in
        let s = reads_node x.trace a.spot r.0 r.1 r.2 c.writer c.value c.spot_is in
        absurd (call_value c.value c.node c.symbol c.arguments s.array s.subs s.place s.value_is c.is_call)

no_swap_right : (g : Pairing) (o : Option CallAt) → may_swap g o None ≡ false
no_swap_right g None = refl
no_swap_right g (Some c) = refl

pub left_reads : (pair : Pair) (params : List ℤ) (x : Execution) → Describes (model_of pair.left pair.context) params x → (key : Position × Position) (a : Placed x) → a.position ≡ key.0 → IsReader x a → (order : Order) → order_at pair key order ≡ Keep
left_reads pair params x d key a p r order =
    let e = no_call_at (model_of pair.left pair.context) params x d a key.0 p r in
    ap (λ (o : Option CallAt). cond (may_swap (pairing_of pair) o (call_at (model_of pair.right pair.context) key.1)) order Keep) e

pub right_reads : (pair : Pair) (params : List ℤ) (x : Execution) → Describes (model_of pair.right pair.context) params x → (key : Position × Position) (b : Placed x) → b.position ≡ key.1 → IsReader x b → (order : Order) → order_at pair key order ≡ Keep
right_reads pair params x d key b p r order =
    let e = no_call_at (model_of pair.right pair.context) params x d b key.1 p r in
    ap (λ (o : Option CallAt). cond (may_swap (pairing_of pair) (call_at (model_of pair.left pair.context) key.0) o) order Keep) e
    ∙ ap (λ (b : Bool). cond b order Keep) (no_swap_right (pairing_of pair) (call_at (model_of pair.left pair.context) key.0))
