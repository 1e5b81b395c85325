-- The setting of a search on one output of a pair: at which pairs of positions it widens, and with which template rows.
use Rattle.std.specs.Prelude.{ℕ, ◌≡◌, ◌↔◌, List, [], ◌∷◌, ℤ, Bool, true}
use Rattle.ac_syntax.specs.declared.tree.Pair.{Pair}
use Rattle.ac_syntax.specs.declared.tree.Position.{Position}
use Rattle.ac_graph.specs.PairMoves.{IsRecurrent, Reaches, dependences, start_of}
use Rattle.ac_graph.specs.GraphMeaning.{AreSources}
use Rattle.ac_hull.specs.SmallestIntegers.{AreFirst}
use Rattle.ac_hull.specs.Templates.{template_rows}
use Rattle.ac_hull.specs.Thresholds.{threshold_candidates, modulus_candidates}
use Rattle.ac_widen_programs.specs.PairSetting.{point_width, setting}
use Rattle.ac_forms.specs.ListMembers.{IsAmong}
use Rattle.ac_widen.specs.Setting.{Setting}

-- which pairs are taken for recurrence pairs, and the numbers of the template rows
pub record Widening : Type 0 where
  pub recurrent : Position × Position → Bool
  pub thresholds : List ℤ
  pub moduli : List ℤ

-- a pair that moves reach from the output is taken for a recurrence pair exactly where it recurs along the sources of both programs; the
-- thresholds and moduli are those of the texts
pub record IsWideningOf (pair : Pair) (output : ℕ) (w : Widening) : Type 0 where
  pub left_edges : List (Position × Position)
  pub right_edges : List (Position × Position)
  pub left_sources : AreSources pair.left pair.context left_edges
  pub right_sources : AreSources pair.right pair.context right_edges
  pub recurrent_are : (positions : Position × Position) → (w.recurrent positions ≡ true) ↔ (Reaches (dependences pair left_edges right_edges) (start_of output ∷ []) positions × IsRecurrent (dependences pair left_edges right_edges) positions)
  pub thresholds_are : AreFirst 64 (λ x. IsAmong x (threshold_candidates pair)) w.thresholds
  pub moduli_are : AreFirst 8 (λ m. IsAmong m (modulus_candidates pair)) w.moduli

-- the setting of a search on an output that widens so
abbrev pub searched : Pair → ℕ → Widening → Setting (Position × Position)
searched pair output w = setting pair (output ∷ []) w.recurrent (λ positions. template_rows (point_width pair positions) w.thresholds w.moduli)
