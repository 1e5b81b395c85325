-- Every cycle of moves holds a pair that recurs.
use Rattle.std.proofs.Common.{◌≡◌, ◌↔◌, ◌⊎◌, inl, inr, ℕ, zero, suc, ◌+◌, ◌<◌, ◌≤◌, List, [], ◌∷◌, ◌++◌, length, map, refl, sym, ap, subst, ◌∙◌, arith, Option, Some, None, option_map, option_and_then}
use Rattle.std.specs.List.{slice_get}
use Rattle.std.proofs.lemmas.Option.{slice_get-map}
use Rattle.ac_forms.specs.Affine.{Affine}
use Rattle.ac_syntax.specs.LoopNests.{loop_count, loop_count_in}
use Rattle.ac_syntax.specs.ValueNodes.{size}
use Rattle.ac_syntax.specs.declared.tree.Cond.{Cond}
use Rattle.ac_syntax.specs.declared.tree.IndexExpr.{IndexExpr}
use Rattle.ac_syntax.specs.declared.tree.Position.{Position}
use Rattle.ac_syntax.specs.declared.tree.Position.TheVariants.{Output, Node, InitialOutput, InitialNode}
use Rattle.ac_syntax.specs.declared.tree.Program.{Program}
use Rattle.ac_syntax.specs.declared.tree.Stmt.{Stmt, Row_of-Stmt, end_of-Stmt, more_of-Stmt}
use Rattle.ac_syntax.specs.declared.tree.Stmt.TheVariants.{For', If', Assign}
use Rattle.ac_syntax.specs.declared.tree.Symbol.{Symbol}
use Rattle.ac_syntax.specs.declared.tree.Value.{Value, Row_of-Value, end_of-Value, more_of-Value}
use Rattle.ac_syntax.specs.declared.tree.Value.TheVariants.{Number, Access, Call'}
use Rattle.ac_poly.proofs.NodeForms.{length-nodes}
use Rattle.ac_poly.specs.Lower.{own_scope, last_form, lower, lower_in, lower_all}
use Rattle.ac_poly_quotients.specs.QuotientScopes.{outermost, in_loop, where_holds, where_fails}
use Rattle.ac_poly.specs.Model.{model_of}
use Rattle.ac_poly.specs.ModelNodes.{nodes, nodes_in, roots}
use Rattle.ac_poly_quotients.specs.declared.types.Scope.{Scope}
use Rattle.ac_poly.specs.declared.types.Model.{Model}
use Rattle.ac_poly.specs.declared.types.NodeModel.{NodeModel}
use Rattle.ac_poly.specs.declared.types.NodeModel.TheVariants as node
use Rattle.ac_poly.specs.declared.types.StmtModel.{StmtModel}
use Rattle.ac_flow.specs.declared.types.Flow.{Flow}
use Rattle.ac_forms.specs.ListMembers.{IsAmong}
use Rattle.ac_claims_paths.specs.ModelPositions.{CallAt, cell_read, call_at, call_of, node_at, initial_of}
use Rattle.ac_graph.specs.PairMoves.{Dependences, IsReader, IsEdge, target, ArgumentMove, Moves, HasReader, ReadingMove, IsRoot, IsRecurrent}
use Rattle.ac_graph.specs.Ways.{Leads, one, more}
use Rattle.ac_graph.proofs.Members.{in_split, in_at}
use Rattle.ac_graph.proofs.MoveSteps.{not_both}
use Rattle.ac_graph.proofs.RecurSteps.{leads_map}

-- ---- arguments stand below their calls

-- the second position is a node of the first one's assignment, and behind it
pub record Deeper (p q : Position) : Type 0 where
  pub stmt : ℕ
  pub from : ℕ
  pub to : ℕ
  pub from_is : p ≡ Node stmt from
  pub to_is : q ≡ Node stmt to
  pub less : from < to

pub record CallsDescend (m : Model) : Type 0 where
  pub falls : (p : Position) (call : CallAt) (i : ℕ) (q : Position) → call_at m p ≡ Some call → slice_get call.args i ≡ Some q → Deeper p q

roots_above : {m : _} (k : Row_of-Value m) (at a : ℕ) → IsAmong a (roots k at) → at ≤ a
unfolding roots
roots_above end_of-Value at a h = absurd h
roots_above (more_of-Value v rest) at a (inl e) = omega arith
roots_above (more_of-Value v rest) at a (inr h) = let r = roots_above rest (at + size v) a h in omega arith

get_parts : {A : Type 0} (x : A) (xs ys : List A) (k : ℕ) → slice_get (xs ++ ys) k ≡ Some x → (slice_get xs k ≡ Some x) ⊎ ((j : ℕ) × (k ≡ length xs + j) × (slice_get ys j ≡ Some x))
get_parts x [] ys k e = inr (k, omega arith, e)
get_parts x (z ∷ zs) ys zero e = inl e
get_parts x (z ∷ zs) ys (suc k) e = elim (get_parts x zs ys k e) [ inl a ↦ inl a | inr b ↦ inr (b.0, (let f = b.1 in omega arith), b.2) ]

mutual
  unfolding nodes

  calls_in : (form : IndexExpr → Affine) (v : Value) (at k : ℕ) (symbol : Symbol) (args : List ℕ) → slice_get (nodes form v at) k ≡ Some (node.Call symbol args) → (a : ℕ) → IsAmong a args → at + k < a
  calls_in form (Number e) at zero symbol args h a i = absurd cc
  calls_in form (Number e) at (suc k) symbol args h a i = absurd cc
  calls_in form (Access array subs place) at zero symbol args h a i = absurd cc
  calls_in form (Access array subs place) at (suc k) symbol args h a i = absurd cc
  calls_in form (Call' f n row place) at zero symbol args h a i =
      let r : args ≡ roots row (at + 1) = cc in
      let l = roots_above row (at + 1) a (subst (IsAmong a) r i) in omega arith
  calls_in form (Call' f n row place) at (suc k) symbol args h a i = let r = calls_among form row (at + 1) k symbol args h a i in omega arith

  calls_among : (form : IndexExpr → Affine) {m : _} (row : Row_of-Value m) (at k : ℕ) (symbol : Symbol) (args : List ℕ) → slice_get (nodes_in form row at) k ≡ Some (node.Call symbol args) → (a : ℕ) → IsAmong a args → at + k < a
  calls_among form end_of-Value at k symbol args h a i = absurd cc
  calls_among form (more_of-Value v rest) at k symbol args h a i =
      elim (get_parts (node.Call symbol args) (nodes form v at) (nodes_in form rest (at + size v)) k h) [
        | inl x ↦ calls_in form v at k symbol args x a i
        | inr x ↦ let r = calls_among form rest (at + size v) x.0 symbol args x.2 a i in let l = length-nodes form v at in let e = x.1 in omega arith
      ]

-- the nodes of an assignment are those of a value
record FromValue (stmt : StmtModel) : Type 0 where
  form : IndexExpr → Affine
  value : Value
  is : stmt.nodes ≡ nodes form value 0

mutual
  unfolding lower

  stmt_value : (s : Stmt) (loop : ℕ) (sc : Scope) (x : StmtModel) → IsAmong x (lower s loop sc) → FromValue x
  stmt_value (For' iter start cond step n body place) loop sc x h = stmts_value body (suc loop) (in_loop sc loop start cond step) x h
  stmt_value (If' cond n taken m other place) loop sc x h =
      elim (in_split x (lower_in taken loop (where_holds sc cond)) (lower_in other (loop + loop_count_in taken) (where_fails sc cond)) h) [
        | inl a ↦ stmts_value taken loop (where_holds sc cond) x a
        | inr a ↦ stmts_value other (loop + loop_count_in taken) (where_fails sc cond) x a
      ]
  stmt_value (Assign array subs value place) loop sc x (inl e) = record { form = last_form (own_scope sc subs value); value = value; is = ap (λ (y : StmtModel). y.nodes) e }
  stmt_value (Assign array subs value place) loop sc x (inr n) = absurd n

  stmts_value : {m : _} (k : Row_of-Stmt m) (loop : ℕ) (sc : Scope) (x : StmtModel) → IsAmong x (lower_in k loop sc) → FromValue x
  stmts_value end_of-Stmt loop sc x h = absurd h
  stmts_value (more_of-Stmt s rest) loop sc x h =
      elim (in_split x (lower s loop sc) (lower_in rest (loop + loop_count s) sc) h) [
        | inl a ↦ stmt_value s loop sc x a
        | inr a ↦ stmts_value rest (loop + loop_count s) sc x a
      ]

body_value : (ss : List Stmt) (loop : ℕ) (sc : Scope) (x : StmtModel) → IsAmong x (lower_all ss loop sc) → FromValue x
body_value [] loop sc x h = absurd h
body_value (s ∷ ss) loop sc x h =
    elim (in_split x (lower s loop sc) (lower_all ss (loop + loop_count s) sc) h) [ inl a ↦ stmt_value s loop sc x a | inr a ↦ body_value ss (loop + loop_count s) sc x a ]

node_by : (s : ℕ) (y : Option NodeModel) (call : CallAt) → option_and_then (call_of s) y ≡ Some call → (symbol : Symbol) × (args : List ℕ) × (y ≡ Some (node.Call symbol args)) × (call.args ≡ map (Node s) args)
node_by s None call e = absurd cc
node_by s (Some (node.Number f)) call e = absurd cc
node_by s (Some (node.Read array subs)) call e = absurd cc
node_by s (Some (node.Call symbol args)) call e = let is : call ≡ record { symbol = symbol; args = map (Node s) args } = cc in (symbol, args, refl, ap (λ (c : CallAt). c.args) is)

stmt_by : (k : ℕ) (x : Option StmtModel) (n : NodeModel) → option_and_then (λ (stmt : StmtModel). slice_get stmt.nodes k) x ≡ Some n → (stmt : StmtModel) × (x ≡ Some stmt) × (slice_get stmt.nodes k ≡ Some n)
stmt_by k None n e = absurd cc
stmt_by k (Some stmt) n e = (stmt, refl, e)

argument_by : (s : ℕ) (x : Option ℕ) (q : Position) → option_map (Node s) x ≡ Some q → (a : ℕ) × (x ≡ Some a) × (q ≡ Node s a)
argument_by s None q e = absurd cc
argument_by s (Some a) q e = (a, refl, cc)

descend_at : (p : Program) (context : Cond) (s k : ℕ) (call : CallAt) (i : ℕ) (q : Position) → call_at (model_of p context) (Node s k) ≡ Some call → slice_get call.args i ≡ Some q → Deeper (Node s k) q
descend_at p context s k call i q e a =
    let m = model_of p context in
    let n = node_by s (node_at m s k) call e in
    let t = stmt_by k (slice_get m.stmts s) (node.Call n.0 n.1) n.2 in
    let v = body_value p.body 0 (outermost (length p.params)) t.0 (in_at t.0 m.stmts s t.1) in
    let g : slice_get (nodes v.form v.value 0) k ≡ Some (node.Call n.0 n.1) = subst (λ (ns : List NodeModel). slice_get ns k ≡ Some (node.Call n.0 n.1)) v.is t.2 in
    let b : option_map (Node s) (slice_get n.1 i) ≡ Some q = sym (slice_get-map (Node s) n.1 i) ∙ ap (λ (ps : List Position). slice_get ps i) (sym n.3) ∙ a in
    let r = argument_by s (slice_get n.1 i) q b in
    let l = calls_in v.form v.value 0 k n.0 n.1 g r.0 (in_at r.0 n.1 i r.1) in
    record { stmt = s; from = k; to = r.0; from_is = refl; to_is = r.2; less = omega arith }

descend : (p : Program) (context : Cond) (at : Position) (call : CallAt) (i : ℕ) (q : Position) → call_at (model_of p context) at ≡ Some call → slice_get call.args i ≡ Some q → Deeper at q
descend p context (Output o) call i q e a = absurd cc
descend p context (Node s k) call i q e a = descend_at p context s k call i q e a
descend p context (InitialOutput o) call i q e a = absurd cc
descend p context (InitialNode s k) call i q e a = absurd cc

pub calls_descend : (p : Program) (context : Cond) → CallsDescend (model_of p context)
calls_descend p context = record { falls = descend p context }

-- ---- edges lead to roots and initial positions

pub record EdgesLead (edges : List (Position × Position)) : Type 0 where
  pub lead : (a b : Position) → IsAmong (a, b) edges → IsRoot b ⊎ (b ≡ initial_of a)

target_leads : (p : Position) (source : Option ℕ) → IsRoot (target p source) ⊎ (target p source ≡ initial_of p)
target_leads p None = inr refl
target_leads p (Some s) = inl refl

pub edges_lead : (f : Flow) (edges : List (Position × Position)) → ((p q : Position) → IsAmong (p, q) edges ↔ IsEdge f p q) → EdgesLead edges
edges_lead f edges h = record {
  lead = λ a b i. let e = (h a b).0 i in elim (target_leads e.read.position e.case.source) [
    | inl r ↦ inl (subst IsRoot (sym e.to_is) r)
    | inr r ↦ inr (e.to_is ∙ r ∙ ap initial_of (sym e.from_is))
  ];
}

-- ---- positions without moves

record IsStuck (m : Model) (p : Position) : Type 0 where
  reader : ¬ (IsReader m p)
  call : call_at m p ≡ None

no_cell : (m : Model) (a : Position) → cell_read m (initial_of a) ≡ None
no_cell m (Output o) = refl
no_cell m (Node s k) = refl
no_cell m (InitialOutput o) = refl
no_cell m (InitialNode s k) = refl

no_call_at : (m : Model) (a : Position) → call_at m (initial_of a) ≡ None
no_call_at m (Output o) = refl
no_call_at m (Node s k) = refl
no_call_at m (InitialOutput o) = refl
no_call_at m (InitialNode s k) = refl

stuck_initial : (m : Model) (a p : Position) → p ≡ initial_of a → IsStuck m p
stuck_initial m a p e = rw e (record { reader = λ r. let n : None ≡ Some r.0 = sym (no_cell m a) ∙ r.1 in absurd cc; call = no_call_at m a })

no_some : {A : Type 0} (x : Option A) (y : A) → x ≡ None → x ≡ Some y → ⊥
no_some x y e f = let n : None ≡ Some y = sym e ∙ f in absurd cc

stays_left : (d : Dependences) (p q : Position × Position) → IsStuck d.programs.left p.0 → Moves d p q → q.0 ≡ p.0
stays_left d p q s (inl a) = absurd (s.reader a.reader)
stays_left d p q s (inr (inl a)) = a.stays
stays_left d p q s (inr (inr a)) = absurd (no_some (call_at d.programs.left p.0) a.left s.call a.left_is)

stays_right : (d : Dependences) (p q : Position × Position) → IsStuck d.programs.right p.1 → Moves d p q → q.1 ≡ p.1
stays_right d p q s (inl a) = a.stays
stays_right d p q s (inr (inl a)) = absurd (s.reader a.reader)
stays_right d p q s (inr (inr a)) = absurd (no_some (call_at d.programs.right p.1) a.right s.call a.right_is)

leads_left : (d : Dependences) (p q : Position × Position) → IsStuck d.programs.left p.0 → Leads (Moves d) p q → q.0 ≡ p.0
leads_left d p q s (one p' q' e) = stays_left d p' q' s e
leads_left d p q s (more p' r q' w e) =
    let i = leads_left d p' r s w in
    stays_left d r q' (subst (λ (x : Position). IsStuck d.programs.left x) (sym i) s) e ∙ i

leads_right : (d : Dependences) (p q : Position × Position) → IsStuck d.programs.right p.1 → Leads (Moves d) p q → q.1 ≡ p.1
leads_right d p q s (one p' q' e) = stays_right d p' q' s e
leads_right d p q s (more p' r q' w e) =
    let i = leads_right d p' r s w in
    stays_right d r q' (subst (λ (x : Position). IsStuck d.programs.right x) (sym i) s) e ∙ i

-- ---- cycles without pairs that recur

-- a move to a pair that does not recur
pub record Away (d : Dependences) (p q : Position × Position) : Type 0 where
  pub moves : Moves d p q
  pub away : ¬ (IsRecurrent d q)

record ReadingAway (d : Dependences) (p q : Position × Position) : Type 0 where
  moves : Moves d p q
  away : ¬ (IsRecurrent d q)
  from : HasReader d p
  to : HasReader d q

away_moves : (d : Dependences) (p q : Position × Position) → Leads (Away d) p q → Leads (Moves d) p q
away_moves d p q w = leads_map (Away d) (Moves d) (λ a b x. x.moves) p q w

record LastStep {A : Type 0} (R : A → A → Type 0) (p s : A) : Type 0 where
  from : A
  before : (from ≡ p) ⊎ Leads R p from
  step : R from s

last_step : {A : Type 0} (R : A → A → Type 0) (p s : A) → Leads R p s → LastStep R p s
last_step R p s (one p' q' e) = record { from = p'; before = inl refl; step = e }
last_step R p s (more p' q' s' w e) = record { from = q'; before = inr w; step = e }

first_step : {A : Type 0} (R : A → A → Type 0) (p s : A) → Leads R p s → (q : A) × R p q
first_step R p s (one p' q' e) = (q', e)
first_step R p s (more p' q' s' w e) = first_step R p' q' w

leads_join : {A : Type 0} (R : A → A → Type 0) (p q s : A) → Leads R p q → Leads R q s → Leads R p s
leads_join R p q s v (one q' s' e) = more p q' s' v e
leads_join R p q s v (more q' t s' w e) = more p t s' (leads_join R p q' t v w) e

no_call_reads : (d : Dependences) (p q : Position × Position) → HasReader d p → ArgumentMove d p q → ⊥
no_call_reads d p q (inl r) a = not_both d.programs.left p.0 a.left a.left_is r
no_call_reads d p q (inr r) a = not_both d.programs.right p.1 a.right a.right_is r

-- the pairs of a cycle have a read or an output
all_reading : (d : Dependences) → EdgesLead d.left → EdgesLead d.right → (p : Position × Position) → Leads (ReadingAway d) p p → ⊥
all_reading d l r p w =
    let cycle : Leads (Moves d) p p = leads_map (ReadingAway d) (Moves d) (λ a b x. x.moves) p p w in
    let reading : Leads (ReadingMove d) p p = leads_map (ReadingAway d) (ReadingMove d) (λ a b x. record { moves = x.moves; from = x.from; to = x.to }) p p w in
    let z = last_step (ReadingAway d) p p w in
    let left_back : IsStuck d.programs.left p.0 → z.from.0 ≡ p.0 = λ s. elim z.before [ inl e ↦ ap (λ (x : Position × Position). x.0) e | inr v ↦ leads_left d p z.from s (leads_map (ReadingAway d) (Moves d) (λ a b x. x.moves) p z.from v) ] in
    let right_back : IsStuck d.programs.right p.1 → z.from.1 ≡ p.1 = λ s. elim z.before [ inl e ↦ ap (λ (x : Position × Position). x.1) e | inr v ↦ leads_right d p z.from s (leads_map (ReadingAway d) (Moves d) (λ a b x. x.moves) p z.from v) ] in
    elim z.step.moves [
      | inl a ↦ elim (l.lead z.from.0 p.0 a.edge) [
        | inl x ↦ z.step.away (record { cycle = cycle; root = inl x; reading = inr reading })
        | inr x ↦ let s = stuck_initial d.programs.left z.from.0 p.0 x in s.reader (subst (λ (y : Position). IsReader d.programs.left y) (left_back s) a.reader)
      ]
      | inr b ↦ elim b [
        | inl a ↦ elim (r.lead z.from.1 p.1 a.edge) [
          | inl x ↦ z.step.away (record { cycle = cycle; root = inr x; reading = inr reading })
          | inr x ↦ let s = stuck_initial d.programs.right z.from.1 p.1 x in s.reader (subst (λ (y : Position). IsReader d.programs.right y) (right_back s) a.reader)
        ]
        | inr a ↦ no_call_reads d z.from p z.step.from a
      ]
    ]

some_or_none : {A : Type 0} (x : Option A) → ((y : A) × (x ≡ Some y)) ⊎ ¬ ((y : A) × (x ≡ Some y))
some_or_none None = inr (λ h. let e = h.1 in absurd cc)
some_or_none (Some y) = inl (y, refl)

reader_or_not : (d : Dependences) (p : Position × Position) → HasReader d p ⊎ ¬ (HasReader d p)
reader_or_not d p =
    elim (some_or_none (cell_read d.programs.left p.0)) [
      | inl a ↦ inl (inl a)
      | inr a ↦ elim (some_or_none (cell_read d.programs.right p.1)) [ inl b ↦ inl (inr b) | inr b ↦ inr (λ h. elim h [ inl x ↦ a x | inr x ↦ b x ]) ]
    ]

-- a way leaves the pairs with a read or an output
record Leaves (d : Dependences) (p q : Position × Position) : Type 0 where
  from : Position × Position
  to : Position × Position
  reader : HasReader d from
  step : Away d from to
  plain : ¬ (HasReader d to)
  before : Leads (Away d) p to
  after : (to ≡ q) ⊎ Leads (Away d) to q

leaves_or_reads : (d : Dependences) (p q : Position × Position) → HasReader d p → Leads (Away d) p q → (Leads (ReadingAway d) p q × HasReader d q) ⊎ Leaves d p q
leaves_or_reads d p q r (one p' q' e) = elim (reader_or_not d q') [
  | inl t ↦ inl (one p' q' (record { moves = e.moves; away = e.away; from = r; to = t }), t)
  | inr t ↦ inr (record { from = p'; to = q'; reader = r; step = e; plain = t; before = one p' q' e; after = inl refl })
]
leaves_or_reads d p q r (more p' s q' w e) = elim (leaves_or_reads d p' s r w) [
  | inl x ↦ elim (reader_or_not d q') [
    | inl t ↦ inl (more p' s q' x.0 (record { moves = e.moves; away = e.away; from = x.1; to = t }), t)
    | inr t ↦ inr (record { from = s; to = q'; reader = x.1; step = e; plain = t; before = more p' s q' w e; after = inl refl })
  ]
  | inr x ↦ inr (record { from = x.from; to = x.to; reader = x.reader; step = x.step; plain = x.plain; before = x.before; after = inr (elim x.after [ inl i ↦ one x.to q' (subst (λ (y : Position × Position). Away d y q') (sym i) e) | inr v ↦ more x.to s q' v e ]) })
]

-- a pair without a read or an output that has a move is one of calls
plain_calls : (d : Dependences) (p q : Position × Position) → ¬ (HasReader d p) → Moves d p q → ArgumentMove d p q
plain_calls d p q n (inl a) = absurd (n (inl a.reader))
plain_calls d p q n (inr (inl a)) = absurd (n (inr a.reader))
plain_calls d p q n (inr (inr a)) = a

from_reader : (d : Dependences) → EdgesLead d.left → EdgesLead d.right → (p : Position × Position) → HasReader d p → Leads (Away d) p p → ⊥
from_reader d l r p h w = elim (leaves_or_reads d p p h w) [
  | inl x ↦ all_reading d l r p x.0
  | inr x ↦ elim x.after [
    | inl e ↦ x.plain (subst (HasReader d) (sym e) h)
    | inr v ↦
        let cycle : Leads (Moves d) x.to x.to = away_moves d x.to x.to (leads_join (Away d) x.to p x.to v x.before) in
        let next = first_step (Moves d) x.to x.to cycle in
        let call = plain_calls d x.to next.0 x.plain next.1 in
        elim x.step.moves [
          | inl a ↦ elim (l.lead x.from.0 x.to.0 a.edge) [
            | inl y ↦ x.step.away (record { cycle = cycle; root = inl y; reading = inl x.plain })
            | inr y ↦ let s = stuck_initial d.programs.left x.from.0 x.to.0 y in no_some (call_at d.programs.left x.to.0) call.left s.call call.left_is
          ]
          | inr b ↦ elim b [
            | inl a ↦ elim (r.lead x.from.1 x.to.1 a.edge) [
              | inl y ↦ x.step.away (record { cycle = cycle; root = inr y; reading = inl x.plain })
              | inr y ↦ let s = stuck_initial d.programs.right x.from.1 x.to.1 y in no_some (call_at d.programs.right x.to.1) call.right s.call call.right_is
            ]
            | inr a ↦ no_call_reads d x.from x.to x.reader a
          ]
        ]
  ]
]

deeper_then : (p q s : Position) → Deeper p q → Deeper q s → Deeper p s
deeper_then p q s a b =
    let e : Node a.stmt a.to ≡ Node b.stmt b.from = sym a.to_is ∙ b.from_is in
    let x : a.stmt ≡ b.stmt = cc in
    let y : a.to ≡ b.from = cc in
    let k = a.less in let l = b.less in
    record { stmt = a.stmt; from = a.from; to = b.to; from_is = a.from_is; to_is = b.to_is ∙ ap (λ n. Node n b.to) (sym x); less = omega arith }

not_deeper : (p : Position) → Deeper p p → ⊥
not_deeper p a = let e : Node a.stmt a.from ≡ Node a.stmt a.to = sym a.from_is ∙ a.to_is in let y : a.from ≡ a.to = cc in let k = a.less in absurd (omega arith)

-- a way comes to a pair with a read or an output
record Comes (d : Dependences) (p q : Position × Position) : Type 0 where
  at : Position × Position
  reader : HasReader d at
  before : Leads (Away d) p at
  after : (at ≡ q) ⊎ Leads (Away d) at q

comes_or_falls : (d : Dependences) → CallsDescend d.programs.left → (p q : Position × Position) → ¬ (HasReader d p) → Leads (Away d) p q → (Deeper p.0 q.0 × ¬ (HasReader d q)) ⊎ Comes d p q
comes_or_falls d c p q n (one p' q' e) =
    let a = plain_calls d p' q' n e.moves in
    elim (reader_or_not d q') [
      | inl t ↦ inr (record { at = q'; reader = t; before = one p' q' e; after = inl refl })
      | inr t ↦ inl (c.falls p'.0 a.left a.left_number q'.0 a.left_is a.left_argument, t)
    ]
comes_or_falls d c p q n (more p' s q' w e) = elim (comes_or_falls d c p' s n w) [
  | inl x ↦ let a = plain_calls d s q' x.1 e.moves in elim (reader_or_not d q') [
    | inl t ↦ inr (record { at = q'; reader = t; before = more p' s q' w e; after = inl refl })
    | inr t ↦ inl (deeper_then p'.0 s.0 q'.0 x.0 (c.falls s.0 a.left a.left_number q'.0 a.left_is a.left_argument), t)
  ]
  | inr x ↦ inr (record { at = x.at; reader = x.reader; before = x.before; after = inr (elim x.after [ inl i ↦ one x.at q' (subst (λ (y : Position × Position). Away d y q') (sym i) e) | inr v ↦ more x.at s q' v e ]) })
]

pub no_cycle : (d : Dependences) → CallsDescend d.programs.left → EdgesLead d.left → EdgesLead d.right → (p : Position × Position) → Leads (Away d) p p → ⊥
no_cycle d c l r p w = elim (reader_or_not d p) [
  | inl h ↦ from_reader d l r p h w
  | inr n ↦ elim (comes_or_falls d c p p n w) [
    | inl x ↦ not_deeper p.0 x.0
    | inr x ↦ elim x.after [
      | inl e ↦ n (subst (HasReader d) e x.reader)
      | inr v ↦ from_reader d l r x.at x.reader (leads_join (Away d) x.at p x.at v x.before)
    ]
  ]
]
