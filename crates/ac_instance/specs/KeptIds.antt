-- What a run over shared terms keeps of a state: the ids of the cells that were assigned.
use Rattle.std.specs.Prelude.{◌≡◌, ℕ, ℤ, List, [], ◌∷◌, Option, None, Some, if◌then◌else◌, MatchOption}
use Rattle.ac_syntax.specs.Algebra.{Cell, same_cell}
use Rattle.ac_syntax.specs.Term.{Leaf, Term, Initial}
use Rattle.ac_syntax.specs.Sameness.{left_leaf, right_leaf}
use Rattle.ac_syntax.specs.Outputs.{input_at}
use Rattle.ac_syntax.specs.declared.tree.Array.{Array}
use Rattle.ac_terms.specs.Table.{Table, StandsFor}
use Rattle.ac_terms.specs.declared.node.TermId.{TermId}
use Rattle.ac_instance.specs.declared.cells.Target.{Target}
use Rattle.ac_instance.specs.declared.halt.Side.{Side}
use Rattle.ac_instance.specs.declared.halt.Side.TheVariants.{Left, Right}

abbrev pub cell : ℕ → List ℤ → Cell
cell array at = record { array = array; at = at }

abbrev pub cell_of : Target → Cell
cell_of t = cell t.array t.index.items

-- the id that is kept for a cell
abbrev pub id_at : List (Cell × TermId) → Cell → Option TermId
id_at [] c = None
id_at (e ∷ es) c = if same_cell c e.0 then Some e.1 else id_at es c

-- the leaf of a cell in the left or in the right program
abbrev pub leaf_in : Side → List Array → Cell → Leaf
leaf_in Left arrays c = left_leaf (input_at arrays) c
leaf_in Right arrays c = right_leaf (input_at arrays) c

-- each id that is kept stands for the term of its cell, and a cell without one has its own leaf
abbrev pub Holds : Table → List (Cell × TermId) → (Cell → Leaf) → (Cell → Term) → Type 0
Holds table ids leaf state = (c : Cell) → MatchOption (id_at ids c) (state c ≡ Initial (leaf c)) (λ id. StandsFor table (state c) id)
