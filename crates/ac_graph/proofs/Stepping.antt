-- Pairs of positions step along the moves of a graph.
use Rattle.std.proofs.Common.{◌≡◌, ◌↔◌, inl, inr, ℕ, zero, suc, ◌+◌, ◌≤◌, ℤ, List, [], ◌∷◌, map, length, true, Option, Some, None, refl, sym, ap, ◌∙◌, subst, arith}
use Rattle.std.specs.Prelude.{slice_get}
use Rattle.ac_syntax.specs.Algebra.{Cell}
use Rattle.ac_syntax.specs.Index.{point, holds}
use Rattle.ac_syntax.specs.ReadyPrograms.{FitParts}
use Rattle.ac_syntax.specs.Source.{Writer, source}
use Rattle.ac_syntax.specs.declared.tree.Cond.{Cond}
use Rattle.ac_syntax.specs.declared.tree.Order.{Order}
use Rattle.ac_syntax.specs.declared.tree.Pair.{Pair}
use Rattle.ac_syntax.specs.declared.tree.Position.{Position}
use Rattle.ac_syntax.specs.declared.tree.Position.TheVariants.{Node}
use Rattle.ac_syntax.specs.declared.tree.Program.{Program}
use Rattle.ac_poly.specs.Model.{model_of}
use Rattle.ac_poly.specs.declared.types.Model.{Model}
use Rattle.ac_poly.proofs.Columns.{has_kinds}
use Rattle.ac_poly.proofs.Whole.{has_context}
use Rattle.ac_claims.specs.Soundness.{ArePaired}
use Rattle.ac_claims_paths.specs.Executions.{Execution, Describes, execution}
use Rattle.ac_forms.specs.ListMembers.{IsAmong}
use Rattle.ac_claims_paths.specs.Pairs.{Placed, IsAt, IsReader as Reads, IsResolved, ResolvesTo, StepsTo}
use Rattle.ac_claims_paths.proofs.Described.{models_describe}
use Rattle.ac_claims_paths.proofs.Heres.{reading}
use Rattle.ac_flow.specs.declared.types.Flow.{Flow}
use Rattle.ac_flow.proofs.Overs.{is_over}
use Rattle.ac_graph.specs.PairMoves.{IsReader, IsEdge, Reaches, start, move, AreReached, AreRanks, dependences, start_of, starts_of}
use Rattle.ac_graph.specs.GraphMeaning.{HasFlow, IsNamed, HaveFlows, HaveEdges, AreSources, HoldMet, IsCompared, comparison, LeftPlaced, RightPlaced, ValuationsAreCompared, HaveOutputs, StepsAreMoves, IsMet, start as met_start, step as met_step, MetAreReached, Avoids, none, more, ChainsRecur}
use Rattle.ac_graph.proofs.Named.{initial_named}
use Rattle.ac_graph.proofs.Resolving.{edge_there, edges_are_sources}
use Rattle.ac_graph.proofs.Standing.{reader_there, call_there, call_of_place}
use Rattle.ac_claims_paths.proofs.Stepping.{get_map}

-- ---- both programs

right_fits : (pair : Pair) → ArePaired pair → FitParts (length pair.right.params) 0 pair.context.parts
right_fits pair h = subst (λ n. FitParts n 0 pair.context.parts) (sym h.params) h.context

pub left_flow : (pair : Pair) (left right : Flow) → HaveFlows pair left right → HasFlow pair.left pair.context left
left_flow pair left right h = record { ready = h.paired.left; fit = h.paired.context; flows = h.left_are }

pub right_flow : (pair : Pair) (left right : Flow) → HaveFlows pair left right → HasFlow pair.right pair.context right
right_flow pair left right h = record { ready = h.paired.right; fit = right_fits pair h.paired; flows = h.right_are }

pub valuations_are_compared : ValuationsAreCompared
valuations_are_compared pair params h v = record {
  valuation = v;
  count = sym v.each;
  left = models_describe pair.left pair.context params h.left h.context v.each;
  right = models_describe pair.right pair.context params h.right (right_fits pair h) (v.each ∙ sym h.params);
  inputs = λ a e. sym (has_kinds pair.left pair.context a) ∙ e;
}

-- ---- one side

-- a read or output of an execution, and of its model
model_reads : (m : Model) (params : List ℤ) (x : Execution) → Describes m params x → (a : Placed x) → Reads x a → IsReader m a.position
model_reads m params x d a r = reader_there m params x d a.position a.at a.spot a.here r.0 r.1 r.2

reads_model : (m : Model) (params : List ℤ) (x : Execution) → Describes m params x → (a : Placed x) → IsReader m a.position → Reads x a
reads_model m params x d a r = let rd = reading m params x d a.position a.at r.0 a.spot r.1 a.here in (rd.read, rd.before, rd.reads)

-- it goes along an edge
follows : (p : Program) (context : Cond) (f : Flow) → HasFlow p context f → (params : List ℤ) → Describes (model_of p context) params (execution p (model_of p context) params) → holds (point params []) context ≡ true
    → (a b : Placed (execution p (model_of p context) params)) → IsNamed (model_of p context) a.position → ResolvesTo (execution p (model_of p context) params) a b → IsEdge f a.position b.position
follows p context f h params d c a b n r =
    let m = model_of p context in
    let over = is_over m (record { program = p; context = context; ready = h.ready; fit = h.fit; is = refl }) in
    edge_there m params (execution p m params) d ((has_context p context h.fit params (sym d.count)).1 c) over f h.flows a b n r

-- and to a position that needs no name
resolved_named : (m : Model) (x : Execution) (a b : Placed x) (c : Cell) (o : Option Writer) → IsResolved x a c o b → IsNamed m b.position
resolved_named m x a b c None h = subst (IsNamed m) (sym h.position_is) (initial_named m a.position)
resolved_named m x a b c (Some w) h = subst (IsNamed m) (sym h.position_is) tt

resolves_named : (m : Model) (x : Execution) (a b : Placed x) → ResolvesTo x a b → IsNamed m b.position
resolves_named m x a b ((c, before, r), h) = resolved_named m x a b c (source c before) h

stays_named : (m : Model) (x : Execution) (b b' : Placed x) → IsAt x b' b.position b.at b.spot → IsNamed m b.position → IsNamed m b'.position
stays_named m x b b' s n = subst (IsNamed m) (sym s.position_is) n

-- ---- steps

pub steps_are_moves : StepsAreMoves
steps_are_moves pair left right ls rs params h c order a a' b b' na nb (inl (k, r, s)) = inl (record {
  reader = model_reads (model_of pair.left pair.context) params (execution pair.left (model_of pair.left pair.context) params) c.left a r.0;
  edge = (h.left_are a.position a'.position).1 (follows pair.left pair.context left (left_flow pair left right h.flows) params c.left c.valuation.context a a' na r);
  stays = s.position_is;
})
steps_are_moves pair left right ls rs params h c order a a' b b' na nb (inr (inl (k, n, r, s))) = inr (inl (record {
  no_reader = λ t. n (reads_model (model_of pair.left pair.context) params (execution pair.left (model_of pair.left pair.context) params) c.left a t);
  reader = model_reads (model_of pair.right pair.context) params (execution pair.right (model_of pair.right pair.context) params) c.right b r.0;
  edge = (h.right_are b.position b'.position).1 (follows pair.right pair.context right (right_flow pair left right h.flows) params c.right c.valuation.context b b' nb r);
  stays = s.position_is;
}))
steps_are_moves pair left right ls rs params h c order a a' b b' na nb (inr (inr k)) =
    let x = execution pair.left (model_of pair.left pair.context) params in
    let y = execution pair.right (model_of pair.right pair.context) params in
    inr (inr (record {
      left = call_of_place x a k.left;
      right = call_of_place y b k.right;
      left_is = call_there (model_of pair.left pair.context) params x c.left a k.left;
      right_is = call_there (model_of pair.right pair.context) params y c.right b k.right;
      one_symbol = k.one;
      order = order;
      left_number = k.left_number;
      right_number = k.right_number;
      meet = k.meet;
      left_argument = get_map (Node k.left.stmt) k.left.arguments k.left_number k.left_argument.root k.left_argument.root_is ∙ ap Some (sym k.left_argument.position_is);
      right_argument = get_map (Node k.right.stmt) k.right.arguments k.right_number k.right_argument.root k.right_argument.root_is ∙ ap Some (sym k.right_argument.position_is);
    }))

-- both positions are named behind a step of such
AreNamed : (pair : Pair) (params : List ℤ) → LeftPlaced pair params → RightPlaced pair params → Type 0
AreNamed pair params a b = IsNamed (model_of pair.left pair.context) a.position × IsNamed (model_of pair.right pair.context) b.position

still_named : (pair : Pair) (params : List ℤ) (c : IsCompared pair params) (order : Order) (a a' : LeftPlaced pair params) (b b' : RightPlaced pair params) → AreNamed pair params a b → StepsTo (comparison pair params c) order a b a' b' → AreNamed pair params a' b'
unfolding AreNamed
still_named pair params c order a a' b b' n (inl (k, r, s)) =
    (resolves_named (model_of pair.left pair.context) (execution pair.left (model_of pair.left pair.context) params) a a' r, stays_named (model_of pair.right pair.context) (execution pair.right (model_of pair.right pair.context) params) b b' s n.1)
still_named pair params c order a a' b b' n (inr (inl (k, t, r, s))) =
    (stays_named (model_of pair.left pair.context) (execution pair.left (model_of pair.left pair.context) params) a a' s n.0, resolves_named (model_of pair.right pair.context) (execution pair.right (model_of pair.right pair.context) params) b b' r)
still_named pair params c order a a' b b' n (inr (inr k)) =
    (subst (IsNamed (model_of pair.left pair.context)) (sym k.left_argument.position_is) tt, subst (IsNamed (model_of pair.right pair.context)) (sym k.right_argument.position_is) tt)

-- ---- what is met

met_named : (pair : Pair) (params : List ℤ) (c : IsCompared pair params) (outputs : List ℕ) → HaveOutputs pair outputs → (a : LeftPlaced pair params) (b : RightPlaced pair params) → IsMet pair params c outputs a b → AreNamed pair params a b
unfolding AreNamed
met_named pair params c outputs o a b (met_start k a' b' i ea eb same) =
    (subst (IsNamed (model_of pair.left pair.context)) (sym ea) (o k i).0, subst (IsNamed (model_of pair.right pair.context)) (sym eb) (o k i).1)
met_named pair params c outputs o a b (met_step order a' a'' b' b'' m s) = still_named pair params c order a' a'' b' b'' (met_named pair params c outputs o a' b' m) s

in_starts : (outputs : List ℕ) (o : ℕ) → IsAmong o outputs → IsAmong (start_of o) (starts_of outputs)
in_starts [] o i = absurd i
in_starts (p ∷ outputs) o (inl e) = inl (ap start_of e)
in_starts (p ∷ outputs) o (inr i) = inr (in_starts outputs o i)

pub met_are_reached : MetAreReached
unfolding AreNamed
met_are_reached pair left right ls rs outputs params h o c a b (met_start k a' b' i ea eb same) =
    subst (Reaches (dependences pair ls rs) (starts_of outputs)) (λ z. (sym ea z, sym eb z)) (start (start_of k) (in_starts outputs k i))
met_are_reached pair left right ls rs outputs params h o c a b (met_step order a' a'' b' b'' m s) =
    let n = met_named pair params c outputs o a' b' m in
    move (a'.position, b'.position) (a''.position, b''.position) (met_are_reached pair left right ls rs outputs params h o c a' b' m) (steps_are_moves pair left right ls rs params h c order a' a'' b' b'' n.0 n.1 s)

-- ---- chains

-- where a chain that avoids the recurrence pairs has come to
record Fallen (pair : Pair) (params : List ℤ) (pairs : List (Position × Position)) (ranks : List ℕ) (rank n : ℕ) (a : LeftPlaced pair params) (b : RightPlaced pair params) : Type 0 where
  named : AreNamed pair params a b
  place : ℕ
  is : slice_get pairs place ≡ Some (a.position, b.position)
  own : ℕ
  own_is : slice_get ranks place ≡ Some own
  room : own + n ≤ rank

fallen : (pair : Pair) (left right : Flow) (ls rs : List (Position × Position)) (params : List ℤ) → HaveEdges pair left right ls rs → (pairs recurrent : List (Position × Position)) (ranks : List ℕ) → AreRanks (dependences pair ls rs) pairs recurrent ranks
    → (c : IsCompared pair params) (a : LeftPlaced pair params) (b : RightPlaced pair params) → AreNamed pair params a b → (place rank : ℕ) → slice_get pairs place ≡ Some (a.position, b.position) → slice_get ranks place ≡ Some rank
    → (n : ℕ) (a' : LeftPlaced pair params) (b' : RightPlaced pair params) → Avoids pair params c recurrent a b n a' b' → Fallen pair params pairs ranks rank n a' b'
unfolding AreNamed
fallen pair left right ls rs params h pairs recurrent ranks k c a b named place rank ip ir n a' b' none = record { named = named; place = place; is = ip; own = rank; own_is = ir; room = omega arith }
fallen pair left right ls rs params h pairs recurrent ranks k c a b named place rank ip ir n a' b' (more j order p p' q q' w s away) =
    let f = fallen pair left right ls rs params h pairs recurrent ranks k c a b named place rank ip ir j p q w in
    let moves = steps_are_moves pair left right ls rs params h c order p p' q q' f.named.0 f.named.1 s in
    elim (k.falls f.place f.own (p.position, q.position) (p'.position, q'.position) f.is f.own_is moves) [
      | inl i ↦ absurd (away i)
      | inr l ↦ record {
        named = still_named pair params c order p p' q q' f.named s;
        place = l.place;
        is = l.is;
        own = l.own;
        own_is = l.own_is;
        room = (let x = l.less in let y = f.room in omega (arith, x, y));
      }
    ]

pub chains_recur : ChainsRecur
chains_recur pair left right ls rs outputs h o pairs recurrent ranks k params c a a' b b' m place rank n ip ir w =
    let f = fallen pair left right ls rs params h pairs recurrent ranks k c a b (met_named pair params c outputs o a b m) place rank ip ir n a' b' w in
    let r = f.room in omega (arith, r)

-- ---- a graph of a pair

pub edges_sourced : (p : Program) (context : Cond) (f : Flow) (edges : List (Position × Position)) → HasFlow p context f → ((a b : Position) → IsAmong (a, b) edges ↔ IsEdge f a b) → AreSources p context edges
edges_sourced p context f edges h e from to = let s = edges_are_sources p context f h from to in ((λ i. s.0 ((e from to).0 i)), (λ i. (e from to).1 (s.1 i)))

pub holds_met : (pair : Pair) (left right : Flow) (ls rs : List (Position × Position)) (outputs : List ℕ) (pairs : List (Position × Position)) → HaveEdges pair left right ls rs → HaveOutputs pair outputs → AreReached (dependences pair ls rs) (starts_of outputs) pairs → HoldMet pair outputs pairs
holds_met pair left right ls rs outputs pairs h o r params c a b m = (r (a.position, b.position)).1 (met_are_reached pair left right ls rs outputs params h o c a b m)
