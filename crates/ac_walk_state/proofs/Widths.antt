-- How many numbers a point has at a pair of positions.
use Rattle.std.proofs.Common.{◌≡◌, ℕ, ◌+◌, refl, ap, ◌∙◌}
use Rattle.ac_syntax.specs.declared.tree.Pair.{Pair}
use Rattle.ac_syntax.specs.declared.tree.Position.{Position}
use Rattle.ac_claims_paths.specs.PathSteps.{Pairing}
use Rattle.ac_graph.specs.PairMoves.{pairing_of}
use Rattle.ac_widen_programs.specs.PairSetting.{coordinate_count, point_width}

pub columns_are : (pair : Pair) (g : Pairing) (left right : Position) (behind all : ℕ) → pairing_of pair ≡ g → behind ≡ coordinate_count g.left left + coordinate_count g.right right → all ≡ g.left.params + behind → all ≡ point_width pair (left, right)
columns_are pair g left right behind all e b a =
    a ∙ ap (λ n. g.left.params + n) b ∙ rw (← e) refl
