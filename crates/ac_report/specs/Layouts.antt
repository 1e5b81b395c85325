-- What the texts say of a program: the names of its parameters and arrays, how many loops and quotients each assignment has, and what its nodes read.
use Rattle.std.specs.Prelude.{ℕ, ◌+◌, ◌-◌, ◌^◌, min, List, [], ◌∷◌, ◌++◌, length, map, sum_by, codes, decimal, Option, Some, None, slice_get, option_and_then}
use Rattle.std.specs.List.{flat_map, range_with_len}
use Rattle.ac_syntax.specs.Quotients.{quotients, quotients_of}
use Rattle.ac_syntax.specs.Text.{array_name}
use Rattle.ac_syntax.specs.Trace.{assignments}
use Rattle.ac_syntax.specs.declared.tree.Array.{Array}
use Rattle.ac_syntax.specs.declared.tree.Position.{Position}
use Rattle.ac_syntax.specs.declared.tree.Position.TheVariants.{Output, Node, InitialOutput, InitialNode}
use Rattle.ac_syntax.specs.declared.tree.Program.{Program}
use Rattle.ac_syntax.specs.declared.tree.Quot.{Quot}
use Rattle.ac_syntax.specs.declared.tree.Stmt.{Stmt, Row_of-Stmt, end_of-Stmt, more_of-Stmt}
use Rattle.ac_syntax.specs.declared.tree.Stmt.TheVariants.{For', If', Assign}
use Rattle.ac_syntax.specs.declared.tree.Value.{Value, Row_of-Value, end_of-Value, more_of-Value}
use Rattle.ac_syntax.specs.declared.tree.Value.TheVariants.{Number, Access, Call'}
use Rattle.ac_report.specs.declared.layout.Assignment.{Assignment}

-- the nodes of a value in preorder, the root first: the array that each reads, if it is a read
unfoldable mutual
  pub reads_of : Value → List (Option ℕ)
  reads_of (Number e) = None ∷ []
  reads_of (Access array subs place) = Some array ∷ []
  reads_of (Call' symbol n args place) = None ∷ reads_of_arguments args

  pub reads_of_arguments : {m : _} → Row_of-Value m → List (Option ℕ)
  reads_of_arguments end_of-Value = []
  reads_of_arguments (more_of-Value v rest) = reads_of v ++ reads_of_arguments rest

-- a sum that stands still at the last value of its type
abbrev pub still_sum : ℕ → ℕ → ℕ
still_sum m n = min (m + n) (2 ^ 64 - 1)

-- one loop more
abbrev pub one_more : ℕ → ℕ
one_more loops = still_sum loops 1

-- the assignments of a statement that is inside so many loops, in the order of the text
unfoldable mutual
  pub assignments_of : ℕ → Stmt → List Assignment
  assignments_of loops (For' iter start cond step n body place) = assignments_of_body (one_more loops) body
  assignments_of loops (If' cond n taken m other place) = assignments_of_body loops taken ++ assignments_of_body loops other
  assignments_of loops (Assign array subs value place) = record { loops = loops; reads = reads_of value } ∷ []

  pub assignments_of_body : ℕ → {m : _} → Row_of-Stmt m → List Assignment
  assignments_of_body loops end_of-Stmt = []
  assignments_of_body loops (more_of-Stmt s rest) = assignments_of loops s ++ assignments_of_body loops rest

-- how many quotients each assignment of a statement has, behind those of what stands around, in the order of the text
unfoldable pub counts_in : List Quot → Stmt → List ℕ
counts_in seen s = map (λ i. length (quotients s 0 seen i)) (range_with_len 0 (assignments s))

-- how many quotients each assignment of a program's body has
abbrev pub quotient_counts : List Stmt → List ℕ
quotient_counts body = map (λ i. length (quotients_of body i)) (range_with_len 0 (sum_by assignments body))

pub record Layout : Type 0 where
  pub params : List (List ℕ)
  pub arrays : List Array
  pub assignments : List Assignment
  pub quotients : List ℕ

abbrev pub layout_of : Program → Layout
layout_of p = record { params = p.params; arrays = p.arrays; assignments = flat_map (assignments_of 0) p.body; quotients = quotient_counts p.body }

abbrev pub loops_of : Option Assignment → ℕ
loops_of None = 0
loops_of (Some assignment) = assignment.loops

-- how many loops are around the assignment with a number
abbrev pub loops_around : Layout → ℕ → ℕ
loops_around l s = loops_of (slice_get l.assignments s)

abbrev pub count_of : Option ℕ → ℕ
count_of None = 0
count_of (Some count) = count

-- how many columns the assignment with a number has: one for each loop around it, then one for each of its quotients
abbrev pub columns_of : Layout → ℕ → ℕ
columns_of l s = still_sum (loops_around l s) (count_of (slice_get l.quotients s))

abbrev pub dimensions_of : Option Array → ℕ
dimensions_of None = 0
dimensions_of (Some array) = length array.extents

-- how many coordinates a position has: those of an element, or one for each column of the assignment
abbrev pub width : Layout → Position → ℕ
width l (Output o) = dimensions_of (slice_get l.arrays o)
width l (Node s k) = columns_of l s
width l (InitialOutput o) = dimensions_of (slice_get l.arrays o)
width l (InitialNode s k) = columns_of l s

abbrev pub name_read : List Array → Option (Option ℕ) → List ℕ
name_read arrays None = []
name_read arrays (Some None) = []
name_read arrays (Some (Some array)) = array_name (slice_get arrays array)

abbrev pub reads_in : Option Assignment → List (Option ℕ)
reads_in None = []
reads_in (Some assignment) = assignment.reads

-- the name of the array that a node reads
abbrev pub read_name : Layout → ℕ → ℕ → List ℕ
read_name l s k = name_read l.arrays (slice_get (reads_in (slice_get l.assignments s)) k)

-- so many columns with one letter: its numbers from 0
abbrev pub numbered : ℕ → ℕ → List (List ℕ)
numbered letter count = map (λ k. letter ∷ decimal k) (range_with_len 0 count)
