-- The declared names: what each means, which rules its declaration breaks, and the parameters and arrays of the program.
use Rattle.std.specs.Prelude.{ℕ, ◌+◌, ◌==◌, nat_eq, nat_lt, Bool, true, false, not, ◌&&◌, ◌||◌, if◌then◌else◌, List, [], ◌∷◌, ◌++◌, map, filter, length, take, slice_get, count_by, Option, None, option_and_then}
use Rattle.std.specs.List.{list_any}
use Rattle.std.specs.Cmp.Lexicographic.{pointwise}
use Rattle.ac_syntax.specs.declared.tree.Kind.{Kind}
use Rattle.ac_syntax.specs.declared.tree.Array.{Array}
use Rattle.ac_syntax.specs.declared.tree.Slot.{Slot}
use Rattle.ac_syntax.specs.declared.tree.Slot.TheVariants as slot
use Rattle.ac_syntax.specs.declared.tree.Place.{Place}
use Rattle.ac_parse_grammar.specs.declared.tree.Extent.{Extent}
use Rattle.ac_parse_grammar.specs.declared.tree.Declared.{Declared}
use Rattle.ac_parse_grammar.specs.declared.tree.Statement.{Statement}
use Rattle.ac_parse_grammar.specs.declared.tree.Statement.TheOpen.{Statement-F}
use Rattle.ac_parse_grammar.specs.declared.tree.Statement.TheFolds.{fold-Statement}
use Rattle.ac_parse_exprs.specs.declared.fault.Which.TheVariants as which
use Rattle.ac_parse_exprs.specs.declared.fault.Rule.TheVariants.{Duplicate, Limit}
use Rattle.ac_parse_exprs.specs.declared.fault.Broken.{Broken}
use Rattle.ac_parse_exprs.specs.declared.scope.Meaning.{Meaning}
use Rattle.ac_parse_exprs.specs.declared.scope.Meaning.TheVariants as means
use Rattle.ac_parse_exprs.specs.declared.scope.Entry.{Entry}
use Rattle.ac_parse_exprs.specs.declared.scope.Scope.{Scope}
use Rattle.ac_parse_exprs.specs.FaultOrder.{earlier, broken, broken_where}
use Rattle.ac_parse_exprs.specs.Meanings.{declared_meaning}
use Rattle.ac_parse_exprs.specs.Comparisons.{first_of, index, index_broken}

-- some loop without a type runs the name
abbrev pub runs_step : List ℕ → Statement-F Bool → Bool
runs_step name (Statement-F.Loop typed word start cond step body place) = (not typed && pointwise nat_eq word.name name) || list_any (λ b. b) body
runs_step name (Statement-F.Branch cond taken other place) = list_any (λ b. b) taken || list_any (λ b. b) other
runs_step name (Statement-F.Assign target subs operator value) = false

unfoldable pub runs : List ℕ → Statement → Bool
runs name = fold-Statement Bool (runs_step name)

-- an integer parameter, if it is a parameter
abbrev pub is_whole : Declared → Bool
is_whole d = d.whole && (length d.extents == 0)

-- a local that is no scalar, since some loop without a type runs it
abbrev pub is_loop_name : List Statement → Declared → Bool
is_loop_name body d = is_whole d && list_any (runs d.name.name) body

abbrev pub entry : Declared → Meaning → Entry
entry d m = record { name = d.name.name; meaning = m }

abbrev pub count : Bool → ℕ
count b = if b then 1 else 0

-- a parameter, behind p integers and a arrays and scalars
abbrev pub param_meaning : Declared → ℕ → ℕ → Meaning
param_meaning d p a = if is_whole d then means.Parameter p else means.Array a (length d.extents)

-- parameters and arrays are numbered in the order of the parameter list
abbrev pub param_entries : List Declared → ℕ → ℕ → List Entry
param_entries [] p a = []
param_entries (d ∷ ds) p a = entry d (param_meaning d p a) ∷ param_entries ds (p + count (is_whole d)) (a + count (not (is_whole d)))

-- a local, behind a arrays and scalars
abbrev pub local_meaning : List Statement → Declared → ℕ → Meaning
local_meaning body d a = if is_loop_name body d then means.LoopName else means.Array a (length d.extents)

-- local arrays and scalars go on with the numbers
abbrev pub local_entries : List Statement → List Declared → ℕ → List Entry
local_entries body [] a = []
local_entries body (d ∷ ds) a = entry d (local_meaning body d a) ∷ local_entries body ds (a + count (not (is_loop_name body d)))

-- how many integers and how many arrays and scalars a parameter list has
abbrev pub param_count : List Declared → ℕ
param_count ds = count_by is_whole ds

abbrev pub input_count : List Declared → ℕ
input_count ds = count_by (λ d. not (is_whole d)) ds

abbrev pub entries : List Declared → List Declared → List Statement → List Entry
entries params locals body = param_entries params 0 0 ++ local_entries body locals (input_count params)

-- where only parameters may stand: in extents and contexts
abbrev pub fixed_scope : ℕ → Scope
fixed_scope params = record { params = params; iterators = []; starting = None; fixed = true; tested = false }

abbrev pub is_declared : List Entry → List ℕ → Bool
is_declared names name = list_any (λ e. pointwise nat_eq e.name name) names

-- one parameter or one array too many
abbrev pub count_broken : Meaning → Place → Option Broken
count_broken (means.Parameter k) place = broken_where (nat_lt 3 k) (Limit which.Parameters) place
count_broken (means.Iterator k) place = None
count_broken (means.Array k dimensions) place = broken_where (nat_lt 31 k) (Limit which.Arrays) place
count_broken means.LoopName place = None
count_broken means.OwnStart place = None
count_broken means.Nothing place = None

-- one dimension too many
abbrev pub dimensions_broken : List Extent → Option Broken
dimensions_broken extents = option_and_then (λ extent. broken (Limit which.Dimensions) extent.place) (slice_get extents 4)

abbrev pub extents_broken : List Entry → Scope → List Extent → Option Broken
extents_broken visible scope extents = first_of (map (λ extent. index_broken visible scope extent.size) extents)

-- the declaration with the number k, behind the ones before it
abbrev pub name_broken : List Entry → ℕ → Declared → Option Broken
name_broken names k d = earlier (broken_where (is_declared (take k names) d.name.name) Duplicate d.name.place)
    (count_broken (declared_meaning names d.name.name) d.name.place)

abbrev pub declared_broken : List Entry → Scope → ℕ → Declared → Option Broken
declared_broken names scope k d = earlier (name_broken names k d) (earlier (dimensions_broken d.extents) (extents_broken (take k names) scope d.extents))

abbrev pub each_declared_broken : List Entry → Scope → ℕ → List Declared → List (Option Broken)
each_declared_broken names scope k [] = []
each_declared_broken names scope k (d ∷ ds) = declared_broken names scope k d ∷ each_declared_broken names scope (k + 1) ds

-- an array or a scalar; its extents see what was declared before it
abbrev pub array_of : List Entry → Scope → Kind → ℕ → Declared → Array
array_of names scope kind k d = record { name = d.name.name; extents = map (λ extent. index (take k names) scope extent.size) d.extents; kind = kind }

-- of the declarations from the number k on those that are arrays or scalars
abbrev pub arrays_from : List Entry → Scope → Kind → (Declared → Bool) → ℕ → List Declared → List Array
arrays_from names scope kind skipped k [] = []
arrays_from names scope kind skipped k (d ∷ ds) =
    if skipped d then arrays_from names scope kind skipped (k + 1) ds
    else array_of names scope kind k d ∷ arrays_from names scope kind skipped (k + 1) ds

abbrev pub slot_of : Declared → ℕ → ℕ → Slot
slot_of d p a = if is_whole d then slot.Param p else slot.Array a

abbrev pub slots_from : List Declared → ℕ → ℕ → List Slot
slots_from [] p a = []
slots_from (d ∷ ds) p a = slot_of d p a ∷ slots_from ds (p + count (is_whole d)) (a + count (not (is_whole d)))

abbrev pub param_names : List Declared → List (List ℕ)
param_names ds = map (λ d. d.name.name) (filter is_whole ds)
