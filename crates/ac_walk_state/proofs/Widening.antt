-- The widening of an output.
use Rattle.std.proofs.Common.{◌≡◌, ◌↔◌, inl, inr, ℕ, List, [], ◌∷◌, ℤ, Bool, true, false, refl, sym, subst}
use Rattle.std.specs.List.{list_any}
use Rattle.ac_syntax.specs.declared.tree.Pair.{Pair}
use Rattle.ac_syntax.specs.declared.tree.Position.{Position}
use Rattle.ac_forms.specs.ListMembers.{IsAmong}
use Rattle.ac_graph.specs.PairMoves.{Dependences, Reaches, start, move, dependences, start_of, starts_of}
use Rattle.ac_claims.specs.ProofEnds.{same_pair}
use Rattle.ac_graph.proofs.MoveSteps.{pair_is, pair_not}
use Rattle.ac_graph.proofs.RecurSteps.{or_is}
use Rattle.ac_graph.proofs.Resolving.{edges_are_sources}
use Rattle.ac_graph.proofs.Stepping.{edges_sourced, left_flow, right_flow}
use Rattle.ac_hull.specs.Thresholds.{threshold_candidates, modulus_candidates}
use Rattle.ac_walk_state.specs.SearchSetting.{Widening, IsWideningOf}
use Rattle.ac_walk_state.specs.GraphWidenings.{GraphsWiden, WideningsAreOne, WideningsRecur}
use Rattle.ac_walk_state.proofs.Firsts.{first_is_one}
use Rattle.ac_walk_state.proofs.LastItems.{among_map}
use Rattle.ac_walk_state.proofs.Moving.{AreAmong, recurs_as, reaches_as}
use Rattle.ac_widen_programs.proofs.Lawful.{Positions}

-- ---- pairs in a list

pub same_key : (p q : Positions) → (same_pair p q ≡ true) ↔ (p ≡ q)
same_key p q = (pair_is p q, λ e. by (same_pair p q) refl e)
  where
    by : (b : Bool) → same_pair p q ≡ b → p ≡ q → b ≡ true
    by true t e = refl
    by false t e = absurd (pair_not p q t e)

pub any_is : (p : Positions) (list : List Positions) → (list_any (same_pair p) list ≡ true) ↔ IsAmong p list
any_is p [] = ((λ e. absurd cc), (λ h. absurd h))
any_is p (q ∷ list) =
    let o = or_is (same_pair p q) (list_any (same_pair p) list) in (
      (λ e. elim (o.0 e) [ inl x ↦ inl ((same_key p q).0 x) | inr x ↦ inr ((any_is p list).0 x) ]),
      (λ h. o.1 (elim h [ inl x ↦ inl ((same_key p q).1 x) | inr x ↦ inr ((any_is p list).1 x) ])),
    )

-- ---- one widening

same_truth : (a b : Bool) → (a ≡ true → b ≡ true) → (b ≡ true → a ≡ true) → a ≡ b
same_truth true b f g = sym (f refl)
same_truth false true f g = g refl
same_truth false false f g = refl

recurs_in : (pair : Pair) (output : ℕ) (w v : Widening) → IsWideningOf pair output w → IsWideningOf pair output v → (key : Positions) → w.recurrent key ≡ true → v.recurrent key ≡ true
recurs_in pair output w v h k key e =
    let lefts : AreAmong h.left_edges k.left_edges = λ p q i. (k.left_sources p q).1 ((h.left_sources p q).0 i) in
    let rights : AreAmong h.right_edges k.right_edges = λ p q i. (k.right_sources p q).1 ((h.right_sources p q).0 i) in
    let r = (h.recurrent_are key).0 e in
    (k.recurrent_are key).1 (
      reaches_as pair h.left_edges h.right_edges k.left_edges k.right_edges lefts rights (start_of output ∷ []) key r.0,
      recurs_as pair h.left_edges h.right_edges k.left_edges k.right_edges lefts rights key r.1,
    )

pub widenings_are_one : WideningsAreOne
widenings_are_one pair output w v h k = record {
  recurrent = λ key. same_truth (w.recurrent key) (v.recurrent key) (recurs_in pair output w v h k key) (recurs_in pair output v w k h key);
  thresholds = first_is_one 64 (λ x. IsAmong x (threshold_candidates pair)) w.thresholds v.thresholds h.thresholds_are k.thresholds_are;
  moduli = first_is_one 8 (λ m. IsAmong m (modulus_candidates pair)) w.moduli v.moduli h.moduli_are k.moduli_are;
}

-- ---- the widening by a graph

-- what moves reach from an output, they reach from all outputs
from_all : (d : Dependences) (output : ℕ) (outputs : List ℕ) → IsAmong output outputs → (key : Positions) → Reaches d (start_of output ∷ []) key → Reaches d (starts_of outputs) key
from_all d output outputs among key (start q (inl e)) = start q (subst (λ (p : Positions). IsAmong p (starts_of outputs)) (sym e) (among_map start_of outputs output among))
from_all d output outputs among key (start q (inr none)) = absurd none
from_all d output outputs among key (move q r w m) = move q r (from_all d output outputs among q w) m

pub graphs_widen : GraphsWiden
graphs_widen pair output left right graph pairs thresholds moduli among flows made from numbers = record {
  left_edges = graph.left_edges;
  right_edges = graph.right_edges;
  left_sources = edges_sourced pair.left pair.context left graph.left_edges (left_flow pair left right flows) made.left_are;
  right_sources = edges_sourced pair.right pair.context right graph.right_edges (right_flow pair left right flows) made.right_are;
  recurrent_are = λ key. (
    (λ e. let r = (from key).0 ((any_is key pairs).0 e) in (r.0, ((made.recurrent_are key).0 r.1).1)),
    (λ h. (any_is key pairs).1 ((from key).1 (h.0, (made.recurrent_are key).1 ((made.reachable_are key).1 (from_all (dependences pair graph.left_edges graph.right_edges) output pair.outputs among key h.0), h.1)))),
  );
  thresholds_are = numbers.thresholds_are;
  moduli_are = numbers.moduli_are;
}

-- ---- recurrence

pub widenings_recur : WideningsRecur
widenings_recur pair output left right w flows h = record {
  left = left;
  right = right;
  left_edges = h.left_edges;
  right_edges = h.right_edges;
  edges = record {
    flows = flows;
    left_are = λ p q. let s = edges_are_sources pair.left pair.context left (left_flow pair left right flows) p q in ((λ i. s.1 ((h.left_sources p q).0 i)), (λ e. (h.left_sources p q).1 (s.0 e)));
    right_are = λ p q. let s = edges_are_sources pair.right pair.context right (right_flow pair left right flows) p q in ((λ i. s.1 ((h.right_sources p q).0 i)), (λ e. (h.right_sources p q).1 (s.0 e)));
  };
  recur = λ key e. ((h.recurrent_are key).0 e).1;
}
