-- The names of a file are numbered as its scopes want them.
use Rattle.std.proofs.Common.{ℕ, zero, suc, ◌+◌, ◌≤◌, Bool, true, false, List, [], ◌∷◌, length, take, arith}
use Rattle.std.specs.Prelude.{not, cond, if◌then◌else◌}
use Rattle.std.proofs.lemmas.List.Sums.{sum_by-cons}
use Rattle.ac_parse_grammar.specs.declared.tree.Declared.{Declared}
use Rattle.ac_parse_grammar.specs.declared.tree.Statement.{Statement}
use Rattle.ac_parse_grammar.specs.declared.tree.File.{File}
use Rattle.ac_parse_exprs.specs.declared.scope.Meaning.TheVariants as means
use Rattle.ac_parse_exprs.specs.declared.scope.Entry.{Entry}
use Rattle.ac_parse_rules.specs.Declarations.{is_whole, is_loop_name, count, entry, param_entries, local_entries, input_count, param_count}
use Rattle.ac_parse_rules.specs.Files.{names_of}
use Rattle.ac_parse_rules.specs.LawsOfNames.{FilesAreNumbered}
use Rattle.ac_parse_exprs.specs.FormValues.{IsNumbered, AreNumbered}
use Rattle.ac_parse_exprs.proofs.Absent.{each_append}

count_step : (d : Declared) (ds : List Declared) (p n : ℕ) → p + param_count (d ∷ ds) ≤ n → p + (count (is_whole d) + param_count ds) ≤ n
count_step d ds p n h = omega (arith, h, sum_by-cons (λ (d : Declared). cond (is_whole d) 1 0) d ds)

params_numbered : (n : ℕ) (ds : List Declared) (p a : ℕ) → p + param_count ds ≤ n → AreNumbered n (param_entries ds p a)
params_numbered n [] p a h = tt
params_numbered n (d ∷ ds) p a h = by (is_whole d) (λ p a. params_numbered n ds p a) (count_step d ds p n h)
  where
    by : (b : Bool) → ((p a : ℕ) → p + param_count ds ≤ n → AreNumbered n (param_entries ds p a)) → p + (count b + param_count ds) ≤ n
        → AreNumbered n (entry d (if b then means.Parameter p else means.Array a (length d.extents)) ∷ param_entries ds (p + count b) (a + count (not b)))
    by true again h = (omega (arith, h), again (p + 1) (a + 0) (omega (arith, h)))
    by false again h = (tt, again (p + 0) (a + 1) (omega (arith, h)))

locals_numbered : (n : ℕ) (body : List Statement) (ds : List Declared) (a : ℕ) → AreNumbered n (local_entries body ds a)
locals_numbered n body [] a = tt
locals_numbered n body (d ∷ ds) a = by (is_loop_name body d) (λ a. locals_numbered n body ds a)
  where
    by : (b : Bool) → ((a : ℕ) → AreNumbered n (local_entries body ds a)) → AreNumbered n (entry d (if b then means.LoopName else means.Array a (length d.extents)) ∷ local_entries body ds (a + count (not b)))
    by true again = (tt, again (a + 0))
    by false again = (tt, again (a + 1))

file_numbered : (file : File) → AreNumbered (param_count file.params) (names_of file)
file_numbered file = each_append (λ (e : Entry). IsNumbered (param_count file.params) e.meaning) (param_entries file.params 0 0) (local_entries file.body file.locals (input_count file.params))
    (params_numbered (param_count file.params) file.params 0 0 (omega arith)) (locals_numbered (param_count file.params) file.body file.locals (input_count file.params))

first_numbered : (n k : ℕ) (names : List Entry) → AreNumbered n names → AreNumbered n (take k names)
first_numbered n zero names h = tt
first_numbered n (suc k) [] h = tt
first_numbered n (suc k) (e ∷ es) h = (h.0, first_numbered n k es h.1)

pub files_are_numbered : FilesAreNumbered
files_are_numbered file = (file_numbered file, (λ k. first_numbered (param_count file.params) k (names_of file) (file_numbered file)))
