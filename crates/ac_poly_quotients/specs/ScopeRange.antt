-- Where each number that a scope makes stays in `i128`: the products and sums by which iterators and quotients are replaced, the
-- outermost first and column by column, and the changes of sign by which a comparison is turned.
use Rattle.std.specs.Prelude.{ℕ, ◌+◌, ◌++◌, List, [], ◌∷◌, map, ℤ, pos, negsuc, neg_ℤ, ◌+ℤ◌}
use Rattle.std.specs.List.{AllByRecursion, flat_map}
use Rattle.ac_forms.specs.Affine.{Affine, combined, column_form, CanAddTimes}
use Rattle.ac_forms.specs.Fits.{Fits}
use Rattle.ac_forms.specs.Negation.{NegationFits}
use Rattle.ac_forms.specs.declared.row.Row.TheVariants.{Eq, Ge}
use Rattle.ac_syntax.specs.declared.tree.Comparison.{Comparison}
use Rattle.ac_syntax.specs.declared.tree.Cond.{Cond}
use Rattle.ac_syntax.specs.declared.tree.IndexExpr.{IndexExpr}
use Rattle.ac_syntax.specs.declared.tree.Quot.{Quot}
use Rattle.ac_syntax.specs.declared.tree.Rel.{Rel}
use Rattle.ac_syntax.specs.declared.tree.Rel.TheVariants.{NonNegative, Zero, Divides}
use Rattle.ac_syntax.specs.Quotients.{part_quot}
use Rattle.ac_poly_quotients.specs.LoweredForms.{lowered}
use Rattle.ac_poly_quotients.specs.QuotientRows.{rest_form}
use Rattle.ac_poly_quotients.specs.QuotientScopes.{column_count, with_quots, column_for, coef_of, lowered_in, part_quots, with_counter}
use Rattle.ac_poly_quotients.specs.declared.types.Scope.{Scope}

-- a form plus each coefficient times the form of its iterator
abbrev pub CanReplace : Affine → List ℤ → List Affine → Type 0
CanReplace f [] gs = Unit {0}
CanReplace f (c ∷ cs) [] = Unit {0}
CanReplace f (c ∷ cs) (g ∷ gs) = CanAddTimes f c g × CanReplace (combined (pos 1) f c g) cs gs

abbrev pub CanSum : List Affine → ℤ → List ℤ → List ℤ → Type 0
CanSum its konst params iters = CanReplace (record { konst = konst; coefs = params }) iters its

-- what quotients divide
abbrev pub CanDivide : List Affine → Quot → Type 0
CanDivide its q = CanSum its q.konst q.params q.iters

abbrev pub CanNote : List Affine → List Quot → Type 0
CanNote its = AllByRecursion (CanDivide its)

-- an index expression whose quotients have columns
abbrev pub CanLower : Scope → List Affine → IndexExpr → Type 0
CanLower sc its e =
    CanSum its e.konst e.params e.iters
    × CanReplace (lowered its e) (map coef_of e.quots) (map (λ k. column_form (k + 1) k) (map (column_for sc) e.quots))

-- the row of a comparison beside its form
abbrev pub CanTest : Scope → IndexExpr → Rel → Affine → Type 0
CanTest sc e NonNegative f = Unit {0}
CanTest sc e Zero f = Unit {0}
CanTest sc e (Divides m) f = CanAddTimes f (neg_ℤ m) (column_form (column_for sc (part_quot e m) + 1) (column_for sc (part_quot e m)))

-- and the rows of its negation
abbrev pub CanDeny : Scope → IndexExpr → Rel → Affine → Type 0
CanDeny sc e NonNegative f = NegationFits (Ge f)
CanDeny sc e Zero f = NegationFits (Eq f)
CanDeny sc e (Divides m) f = Fits ((rest_form (column_for sc (part_quot e m)) (record { form = f; div = m })).konst +ℤ negsuc 0)

-- the row of a comparison
abbrev pub CanRow : Scope → List Affine → Comparison → Type 0
CanRow sc its c = CanLower sc its c.form × CanTest sc c.form c.rel (lowered_in sc its c.form)

-- and its negation
abbrev pub CanWay : Scope → List Affine → Comparison → Type 0
CanWay sc its c = CanRow sc its c × CanDeny sc c.form c.rel (lowered_in sc its c.form)

-- where a condition holds
abbrev pub CanHold : Scope → Cond → Type 0
CanHold sc cond =
    let c = with_quots sc (flat_map part_quots cond.parts) in
    CanNote sc.iters (flat_map part_quots cond.parts) × AllByRecursion (CanRow c c.iters) cond.parts

-- where it fails
abbrev pub CanFail : Scope → Cond → Type 0
CanFail sc cond =
    let c = with_quots sc (flat_map part_quots cond.parts) in
    CanNote sc.iters (flat_map part_quots cond.parts) × AllByRecursion (CanWay c c.iters) cond.parts

-- its iterator, and its condition in turn 0 and in the turn of the counter
abbrev pub CanTurn : Scope → ℕ → Affine → Cond → ℤ → Type 0
CanTurn a number s cond step =
    let b = with_counter a number s step in
    let c = with_quots b (flat_map part_quots cond.parts) in
    CanAddTimes s step (column_form (column_count a + 1) (column_count a))
    × CanNote b.iters (flat_map part_quots cond.parts)
    × AllByRecursion (CanRow c (a.iters ++ s ∷ [])) cond.parts
    × AllByRecursion (CanRow c c.iters) cond.parts

-- a loop: its start, and then that
abbrev pub CanEnter : Scope → ℕ → IndexExpr → Cond → ℤ → Type 0
CanEnter sc number start cond step =
    let a = with_quots sc start.quots in
    CanNote sc.iters start.quots × CanLower a a.iters start × CanTurn a number (lowered_in a a.iters start) cond step
