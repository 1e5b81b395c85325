-- What a contract sees of a table of shared terms: its declared names, what each place has, and which term an id stands for.
use Rattle.std.specs.Prelude.{◌≡◌, ℕ, ℤ, List, [], ◌∷◌, slice_get, Some, if◌then◌else◌, nat_lt}
use Rattle.ac_syntax.specs.declared.tree.Symbol.{Symbol}
use Rattle.ac_syntax.specs.Outputs.{swaps_of}
use Rattle.ac_syntax.specs.Term.{Leaf, Term, Num, Initial, Apply, Terms, none, more}
use Rattle.ac_terms.specs.declared.node.TermId.{TermId}

-- what a place has: a number, the initial contents of a cell, or a symbol and the ids of its arguments
pub data Shape : Type 0 where
  number_of : ℤ → Shape
  initial_of : Leaf → Shape
  call_of : Symbol → List TermId → Shape

pub record Table : Type 0 where
  pub commutative : List (List ℕ)
  pub places : List Shape

-- two ids in order
abbrev pub in_order : List TermId → List TermId
in_order [] = []
in_order (a ∷ []) = a ∷ []
in_order (a ∷ b ∷ []) = if nat_lt b.index a.index then b ∷ a ∷ [] else a ∷ b ∷ []
in_order (a ∷ b ∷ c ∷ rest) = a ∷ b ∷ c ∷ rest

-- the ids of a call's arguments as they are kept
abbrev pub stored : List (List ℕ) → Symbol → List TermId → List TermId
stored names f ids = if swaps_of names f then in_order ids else ids

-- the id stands for the term
abbrev mutual
  pub StandsFor : Table → Term → TermId → Type 0
  StandsFor table (Num v) id = slice_get table.places id.index ≡ Some (number_of v)
  StandsFor table (Initial leaf) id = slice_get table.places id.index ≡ Some (initial_of leaf)
  StandsFor table (Apply f ts) id = (ids : List TermId) × StandForAll table ts ids × (slice_get table.places id.index ≡ Some (call_of f (stored table.commutative f ids)))

  pub StandForAll : Table → Terms → List TermId → Type 0
  StandForAll table none ids = ids ≡ []
  StandForAll table (more t ts) ids = (first : TermId) × (rest : List TermId) × (ids ≡ first ∷ rest) × StandsFor table t first × StandForAll table ts rest

-- each id stands for the terms that it stood for
abbrev pub Keeps : Table → Table → Type 0
Keeps before now = (t : Term) (id : TermId) → StandsFor before t id → StandsFor now t id
