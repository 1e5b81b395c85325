-- Names that stand in a canonical text for what they stand for in a file.
use Rattle.std.specs.Prelude.{◌≡◌, ℕ, List, length, Some, slice_get}
use Rattle.ac_syntax.specs.Text.{array_name}
use Rattle.ac_syntax.specs.Text as text
use Rattle.ac_parse_exprs.specs.declared.scope.Meaning.TheVariants.{Parameter, Iterator, Array, Nothing}
use Rattle.ac_parse_exprs.specs.declared.scope.Entry.{Entry}
use Rattle.ac_parse_exprs.specs.declared.scope.Scope.{Scope}
use Rattle.ac_parse_roundtrip.specs.ColumnNames.{Stands}

-- each name that stands for something at a place of a file stands for the same at a place of a canonical text, and is what the text
-- writes for it
pub record Carries (names : List Entry) (scope : Scope) (text_names : List Entry) (text_scope : Scope) (written : text.Scope) : Type 0 where
  pub params : text_scope.params ≡ scope.params
  pub fixed : text_scope.fixed ≡ scope.fixed
  pub tested : text_scope.tested ≡ scope.tested
  pub iterators : length text_scope.iterators ≡ length scope.iterators
  pub param_names : length written.params ≡ scope.params
  pub iterator_names : length written.iters ≡ length scope.iterators
  pub parameter : (k : ℕ) (name : List ℕ) → Stands names scope name (Parameter k) → (slice_get written.params k ≡ Some name) × Stands text_names text_scope name (Parameter k)
  pub iterator : (k : ℕ) (name : List ℕ) → Stands names scope name (Iterator k) → (slice_get written.iters k ≡ Some name) × Stands text_names text_scope name (Iterator k)
  pub array : (k dimensions : ℕ) (name : List ℕ) → Stands names scope name (Array k dimensions) → (array_name (slice_get written.arrays k) ≡ name) × Stands text_names text_scope name (Array k dimensions)
  pub nothing : (name : List ℕ) → Stands names scope name Nothing → Stands text_names text_scope name Nothing
