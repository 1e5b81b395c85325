-- Tables, as callers see them.
use Rattle.std.specs.Prelude.{◌≡◌, ◌++◌, ◌∷◌, [], ℕ, List}
use Rattle.ac_syntax.specs.declared.tree.Order.{Order}
use Rattle.ac_syntax.specs.declared.tree.Site.{Site}
use Rattle.ac_claims.specs.declared.types.Claim.{Claim}
use Rattle.ac_claims.specs.declared.types.ClaimTree.{ClaimTree}

-- claims, numbered from the base on, the orders of calls under which they are asked, and the claims that are tabled behind them, each with its plans
pub record TableOf : Type 0 where
  pub base : ℕ
  pub claims : List Claim
  pub order : List (Site × Order)
  pub tabled : List Claim
  pub trees : List (List ClaimTree)

-- with nothing tabled
abbrev pub new_table : ℕ → List Claim → List (Site × Order) → TableOf
new_table base claims order = record { base = base; claims = claims; order = order; tabled = []; trees = [] }

-- the plans of all claims that are tabled, claim by claim
abbrev pub all_trees : List (List ClaimTree) → List ClaimTree
all_trees [] = []
all_trees (ts ∷ trees) = ts ++ all_trees trees

-- with one claim more and its plans
abbrev pub with_tabled : TableOf → Claim → List ClaimTree → TableOf
with_tabled t c ts = record { base = t.base; claims = t.claims; order = t.order; tabled = t.tabled ++ c ∷ []; trees = t.trees ++ ts ∷ [] }

-- the base, the claims and their orders stay, and what was tabled before stands first
pub record Grows (old new : TableOf) : Type 0 where
  pub base : new.base ≡ old.base
  pub claims : new.claims ≡ old.claims
  pub order : new.order ≡ old.order
  pub tabled : (more : List Claim) × (new.tabled ≡ old.tabled ++ more)
  pub trees : (more : List (List ClaimTree)) × (new.trees ≡ old.trees ++ more)
