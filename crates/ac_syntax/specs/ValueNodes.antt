-- The nodes of a value in preorder, the root 0; subscripts are no nodes.
use Rattle.std.specs.Prelude.{ℕ, zero, suc, ◌+◌, ◌-◌, Option, Some, None, nat_lt, if◌then◌else◌}
use Rattle.ac_syntax.specs.declared.tree.Value.{Value, Row_of-Value, end_of-Value, more_of-Value}
use Rattle.ac_syntax.specs.declared.tree.Value.TheVariants.{Number, Access, Call'}

-- how many nodes a value has
unfoldable mutual
  pub size : Value → ℕ
  size (Number e) = 1
  size (Access array subs place) = 1
  size (Call' symbol n args place) = size_in args + 1

  pub size_in : {m : _} → Row_of-Value m → ℕ
  size_in end_of-Value = 0
  size_in (more_of-Value v rest) = size v + size_in rest

-- the node with a number, or none where the value has no more nodes
unfoldable mutual
  pub node_of : Value → ℕ → Option Value
  node_of (Number e) zero = Some (Number e)
  node_of (Number e) (suc k) = None
  node_of (Access array subs place) zero = Some (Access array subs place)
  node_of (Access array subs place) (suc k) = None
  node_of (Call' symbol n args place) zero = Some (Call' symbol n args place)
  node_of (Call' symbol n args place) (suc k) = node_in args k

  pub node_in : {m : _} → Row_of-Value m → ℕ → Option Value
  node_in end_of-Value k = None
  node_in (more_of-Value v rest) k = if nat_lt k (size v) then node_of v k else node_in rest (k - size v)
