-- Nodes of values one after another.
use Rattle.std.specs.Prelude.{ℕ, ◌-◌, Option, None, nat_lt, if◌then◌else◌, List, [], ◌∷◌}
use Rattle.ac_syntax.specs.declared.tree.Value.{Value}
use Rattle.ac_syntax.specs.ValueNodes.{size, node_of}

-- the same, at values one after another
abbrev pub node_among : List Value → ℕ → Option Value
node_among [] k = None
node_among (v ∷ vs) k = if nat_lt k (size v) then node_of v k else node_among vs (k - size v)
