-- Moves along edges that are among others.
use Rattle.std.proofs.Common.{inl, inr, List}
use Rattle.ac_syntax.specs.declared.tree.Pair.{Pair}
use Rattle.ac_syntax.specs.declared.tree.Position.{Position}
use Rattle.ac_forms.specs.ListMembers.{IsAmong}
use Rattle.ac_graph.specs.PairMoves.{Moves, ReadingMove, IsRecurrent, Reaches, start, move, dependences}
use Rattle.ac_graph.proofs.RecurSteps.{leads_map}
use Rattle.ac_widen_programs.proofs.Lawful.{Positions}

-- each edge is one of the others
abbrev pub AreAmong : List Positions → List Positions → Type 0
AreAmong edges others = (p q : Position) → IsAmong (p, q) edges → IsAmong (p, q) others

module _ (pair : Pair) (ls rs ms ns : List Positions) (f : AreAmong ls ms) (g : AreAmong rs ns) where
  moves_as : (p q : Positions) → Moves (dependences pair ls rs) p q → Moves (dependences pair ms ns) p q
  moves_as p q (inl m) = inl (record { reader = m.reader; edge = f p.0 q.0 m.edge; stays = m.stays })
  moves_as p q (inr (inl m)) = inr (inl (record { no_reader = m.no_reader; reader = m.reader; edge = g p.1 q.1 m.edge; stays = m.stays }))
  moves_as p q (inr (inr m)) = inr (inr (record {
    left = m.left;
    right = m.right;
    left_is = m.left_is;
    right_is = m.right_is;
    one_symbol = m.one_symbol;
    order = m.order;
    left_number = m.left_number;
    right_number = m.right_number;
    meet = m.meet;
    left_argument = m.left_argument;
    right_argument = m.right_argument;
  }))

  reading_as : (p q : Positions) → ReadingMove (dependences pair ls rs) p q → ReadingMove (dependences pair ms ns) p q
  reading_as p q m = record { moves = moves_as p q m.moves; from = m.from; to = m.to }

  pub recurs_as : (p : Positions) → IsRecurrent (dependences pair ls rs) p → IsRecurrent (dependences pair ms ns) p
  recurs_as p h = record {
    cycle = leads_map (Moves (dependences pair ls rs)) (Moves (dependences pair ms ns)) moves_as p p h.cycle;
    root = h.root;
    reading = elim h.reading [ inl n ↦ inl n | inr l ↦ inr (leads_map (ReadingMove (dependences pair ls rs)) (ReadingMove (dependences pair ms ns)) reading_as p p l) ];
  }

  pub reaches_as : (starts : List Positions) (p : Positions) → Reaches (dependences pair ls rs) starts p → Reaches (dependences pair ms ns) starts p
  reaches_as starts p (start q i) = start q i
  reaches_as starts p (move q r w m) = move q r (reaches_as starts q w) (moves_as q r m)
