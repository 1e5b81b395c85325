-- A name that means an array means one of the program's, with so many dimensions.
use Rattle.std.proofs.Common.{◌≡◌, ℕ, Bool, true, false, List, map, length, Option, Some, None, refl, sym, ◌∙◌}
use Rattle.std.specs.Prelude.{slice_get, ◌==◌}
use Rattle.std.proofs.lemmas.List.{length-map}
use borrow.Author.Tests.{eqb-true}
use Rattle.ac_syntax.specs.Dimensions.{IsCellOf}
use Rattle.ac_syntax.specs.declared.tree.Array.{Array}
use Rattle.ac_syntax.specs.declared.tree.Program.{Program}
use Rattle.ac_parse_grammar.specs.declared.tree.Expr.{Expr}
use Rattle.ac_parse_grammar.specs.declared.tree.File.{File}
use Rattle.ac_parse_exprs.specs.declared.scope.Entry.{Entry}
use Rattle.ac_parse_exprs.specs.declared.scope.Meaning.{Meaning}
use Rattle.ac_parse_exprs.specs.declared.scope.Meaning.TheVariants as means
use Rattle.ac_parse_exprs.specs.declared.scope.Scope.{Scope}
use Rattle.ac_parse_exprs.specs.Comparisons.{index}
use Rattle.ac_parse_rules.specs.Files.{arrays_under, names_of, program_of}
use Rattle.ac_parse_rules.specs.LawsOfNames.{IsNamed}
use Rattle.ac_parse_exprs.specs.Meanings.{declared_meaning, iterator_number, is_starting, meaning_behind, meaning, misused_unless}
use Rattle.ac_parse_rules.proofs.DeclaredOnce.{names_mean_their_own}

-- the array with the number has so many extents
abbrev pub MeansIn : List Array → Meaning → Type 0
MeansIn arrays (means.Parameter k) = Unit {0}
MeansIn arrays (means.Iterator k) = Unit {0}
MeansIn arrays (means.Array k dimensions) = (own : Array) × (slice_get arrays k ≡ Some own) × (length own.extents ≡ dimensions)
MeansIn arrays means.LoopName = Unit {0}
MeansIn arrays means.OwnStart = Unit {0}
MeansIn arrays means.Nothing = Unit {0}

abbrev pub NamesIn : List Array → List Entry → Type 0
NamesIn arrays names = (name : List ℕ) → MeansIn arrays (declared_meaning names name)

pub meaning-in : (arrays : List Array) (names : List Entry) (scope : Scope) (name : List ℕ) → NamesIn arrays names → MeansIn arrays (meaning names scope name)
meaning-in arrays names scope name h = by (iterator_number scope.iterators name) (is_starting scope.starting name)
  where
    by : (k : Option ℕ) (own : Bool) → MeansIn arrays (meaning_behind k own (declared_meaning names name))
    by (Some k) own = tt
    by None true = tt
    by None false = h name

-- the names of a file
own-in : (program : Program) (name : List ℕ) (m : Meaning) → IsNamed program name m → MeansIn program.arrays m
own-in program name (means.Parameter k) h = tt
own-in program name (means.Iterator k) h = tt
own-in program name (means.Array k dimensions) h = (h.0, h.1, h.3)
own-in program name means.LoopName h = tt
own-in program name means.OwnStart h = tt
own-in program name means.Nothing h = tt

pub names-in : (file : File) → NamesIn (arrays_under (names_of file) file) (names_of file)
names-in file name = own-in (program_of file) name (declared_meaning (names_of file) name) (names_mean_their_own file name)

-- as many subscripts
held : (b : Bool) → misused_unless b ≡ None → b ≡ true
held true e = refl
held false e = absurd cc

pub cell-of : (arrays : List Array) (names : List Entry) (scope : Scope) (k dimensions : ℕ) (subs : List Expr) → MeansIn arrays (means.Array k dimensions) → misused_unless (length subs == dimensions) ≡ None → IsCellOf arrays k (map (index names scope) subs)
cell-of arrays names scope k dimensions subs (own, at, long) h =
    (own, at, length-map subs (index names scope) ∙ eqb-true (length subs) dimensions (held (length subs == dimensions) h) ∙ sym long)
