-- What the last columns of an assignment on a way through loops and branches mean, as facts about all ways.
use Rattle.std.specs.Prelude.{◌≡◌, ◌↔◌, ◌+◌, ℤ, List, [], ◌++◌, length, map, true}
use Rattle.std.specs.List.{AllByRecursion, list_any}
use Rattle.ac_forms.specs.Affine.{value_at}
use Rattle.ac_forms.specs.PieceMembership.{IsInSome}
use Rattle.ac_forms.specs.Renaming.{renamed}
use Rattle.ac_forms.specs.Rows.{Meets}
use Rattle.ac_syntax.specs.Index.{point, index_value, quot_value}
use Rattle.ac_syntax.specs.declared.tree.IndexExpr.{IndexExpr}
use Rattle.ac_syntax.specs.declared.tree.Quot.{Quot}
use Rattle.ac_poly_quotients.specs.FilledColumns.{quots_of}
use Rattle.ac_poly_quotients.specs.LastColumns.{final_columns, finals, placed_pieces}
use Rattle.ac_poly_quotients.specs.LoopPaths.{Step, depth_of, scope_at, noted_path, point_at, Reaches, FitsPath}
use Rattle.ac_poly_quotients.specs.QuotientRows.{quotients_at}
use Rattle.ac_poly_quotients.specs.QuotientScopes.{outermost, is_named, lowered_in}
use Rattle.ac_poly_quotients.specs.declared.types.Rounded.{Rounded}
use Rattle.ac_poly_quotients.specs.declared.types.Scope.{Scope}

-- the scope of an assignment at the end of a way
abbrev pub last_scope : List ℤ → List Step → List Quot → Scope
last_scope ps ss qs = scope_at (outermost (length ps)) ss qs

-- the quotients of its model, over the parameters, the counters and the quotients before
abbrev pub model_quotients : List ℤ → List Step → List Quot → List Rounded
model_quotients ps ss qs = finals (final_columns (length ps) (depth_of ss) (last_scope ps ss qs).columns) (last_scope ps ss qs).columns

-- coordinates lie in some piece of the model if and only if they are counters by which the end is reached, with the values of
-- the quotients behind
abbrev pub PathsArePoints : Type 0
PathsArePoints =
    (ps : List ℤ) (ss : List Step) (qs : List Quot) (at : List ℤ) → FitsPath (length ps) 0 ss qs → length at ≡ depth_of ss + length (quots_of (last_scope ps ss qs).columns)
    → IsInSome Meets (placed_pieces (length ps) (depth_of ss) (last_scope ps ss qs).columns (last_scope ps ss qs).pieces) (ps ++ at)
    ↔ ((zs : List ℤ) × (length zs ≡ depth_of ss) × Reaches (point ps []) ss zs × (zs ++ quotients_at (model_quotients ps ss qs) (ps ++ zs) ≡ at))

-- the values of the model's quotients are those of the text's, noted on the way
abbrev pub PathsHaveQuotients : Type 0
PathsHaveQuotients =
    (ps : List ℤ) (ss : List Step) (qs : List Quot) (zs : List ℤ) → FitsPath (length ps) 0 ss qs → length zs ≡ depth_of ss
    → quotients_at (model_quotients ps ss qs) (ps ++ zs) ≡ map (quot_value (point_at (point ps []) ss zs)) (noted_path [] ss qs)

-- an expression whose quotients have columns has its value
abbrev pub PathsHaveForms : Type 0
PathsHaveForms =
    (ps : List ℤ) (ss : List Step) (qs : List Quot) (e : IndexExpr) (zs : List ℤ) → FitsPath (length ps) 0 ss qs → length zs ≡ depth_of ss → length e.params ≡ length ps
    → AllByRecursion (λ q. list_any (is_named q) (last_scope ps ss qs).quots ≡ true) e.quots
    → value_at (renamed (final_columns (length ps) (depth_of ss) (last_scope ps ss qs).columns) (lowered_in (last_scope ps ss qs) (last_scope ps ss qs).iters e)) (ps ++ (zs ++ quotients_at (model_quotients ps ss qs) (ps ++ zs)))
    ≡ index_value (point_at (point ps []) ss zs) e
