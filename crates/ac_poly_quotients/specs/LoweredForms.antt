-- Index expressions as forms over the parameters and the columns behind them: each iterator is replaced by its form, and each
-- quotient by its column.
use Rattle.std.specs.Prelude.{ℕ, ◌+◌, List, [], ◌∷◌, map, ℤ, pos}
use Rattle.ac_forms.specs.Affine.{Affine, combined, column_form}
use Rattle.ac_syntax.specs.declared.tree.IndexExpr.{IndexExpr}
use Rattle.ac_syntax.specs.declared.tree.Quot.{Quot}

-- a form plus each coefficient times the form of its iterator, the outermost first
abbrev pub replaced : Affine → List ℤ → List Affine → Affine
replaced f [] gs = f
replaced f (c ∷ cs) [] = f
replaced f (c ∷ cs) (g ∷ gs) = replaced (combined (pos 1) f c g) cs gs

-- a constant, coefficients of parameters, and coefficients of iterators with these forms
abbrev pub among : List Affine → ℤ → List ℤ → List ℤ → Affine
among its konst params iters = replaced (record { konst = konst; coefs = params }) iters its

-- an index expression among iterators with these forms, its quotients aside
abbrev pub lowered : List Affine → IndexExpr → Affine
lowered its e = among its e.konst e.params e.iters

-- what a quotient divides
abbrev pub argument_form : List Affine → Quot → Affine
argument_form its q = among its q.konst q.params q.iters

-- an index expression whose quotients stand in these columns
abbrev pub lowered_with : List Affine → IndexExpr → List ℤ → List ℕ → Affine
lowered_with its e coefs columns = replaced (lowered its e) coefs (map (λ k. column_form (k + 1) k) columns)

-- the iterator of a loop: its start plus its step times its counter, which is the column after the first n
abbrev pub stepping : Affine → ℤ → ℕ → Affine
stepping start step n = combined (pos 1) start step (column_form (n + 1) n)
