-- The nodes of a value, with the arguments of a call as a list.
use Rattle.std.specs.Prelude.{ℕ, suc, ◌+◌, ◌≡◌, ◌⊎◌, List, ◌∷◌, ◌++◌, Some, sum_by}
use Rattle.ac_syntax.specs.ValueNodes.{size, node_of}
use Rattle.ac_syntax.specs.declared.tree.IndexExpr.{IndexExpr}
use Rattle.ac_syntax.specs.declared.tree.Place.{Place}
use Rattle.ac_syntax.specs.declared.tree.Symbol.{Symbol}
use Rattle.ac_syntax.specs.declared.tree.Value.{Value}
use Rattle.ac_syntax.specs.declared.tree.Value.TheVariants.{Number, Access, Call}

abbrev pub IsNumber : Value → Type 0
IsNumber v = (e : IndexExpr) × (v ≡ Number e)

abbrev pub IsAccess : Value → Type 0
IsAccess v = (array : ℕ) × (subs : List IndexExpr) × (place : Place) × (v ≡ Access array subs place)

abbrev pub IsCall : Value → Type 0
IsCall v = (symbol : Symbol) × (args : List Value) × (place : Place) × (v ≡ Call symbol args place)

-- a value is a number, an access or a call
abbrev pub ValuesHaveThreeCases : Type 0
ValuesHaveThreeCases = (v : Value) → IsNumber v ⊎ (IsAccess v ⊎ IsCall v)

-- node 0 is the root
abbrev pub RootIsTheFirstNode : Type 0
RootIsTheFirstNode = (v : Value) → node_of v 0 ≡ Some v

-- an argument stands behind its call and the arguments before it
abbrev pub ArgumentsStandInOrder : Type 0
ArgumentsStandInOrder =
    (root : Value) (k : ℕ) (symbol : Symbol) (before : List Value) (v : Value) (behind : List Value) (place : Place)
    → node_of root k ≡ Some (Call symbol (before ++ v ∷ behind) place) → node_of root (k + suc (sum_by size before)) ≡ Some v
