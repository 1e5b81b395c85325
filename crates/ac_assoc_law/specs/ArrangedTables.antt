-- The table of an arranged pair.
use Rattle.std.specs.Prelude.{ℕ, ◌≡◌, List, Bool, ℤ, pos, ◌&&◌, nat_le, if◌then◌else◌}
use Rattle.std.specs.List.{Contains}
use Rattle.ac_syntax.specs.declared.tree.Symbol.{Symbol}
use Rattle.ac_assoc_law.specs.Rising.{rising}
use Rattle.ac_assoc_law.specs.OperandChains.{Tables, binary}
use Rattle.ac_assoc_law.specs.ArrangedPairs.{is_listed}

-- a listed symbol with two to six arguments
abbrev pub is_chain : List (List ℕ) → Symbol → Bool
is_chain names s = is_listed names s && (nat_le 2 s.arity && nat_le s.arity 6)

-- a listed symbol with two to six arguments has the value of the chain, all others that of the call
abbrev pub arranged_table : List (List ℕ) → Tables → Symbol → List ℤ → ℤ
arranged_table names t s xs = if is_chain names s then t.chains (binary s.name) (rising xs) else t.calls s xs

-- 0 but at finitely many lists
pub record IsFinite (table : Symbol → List ℤ → ℤ) : Type 0 where
  pub keys : List (Symbol × List ℤ)
  pub elsewhere : (s : Symbol) (xs : List ℤ) → ¬ (Contains keys (s, xs)) → table s xs ≡ pos 0
