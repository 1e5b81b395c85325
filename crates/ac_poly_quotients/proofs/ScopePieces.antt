-- The pieces of a scope inside a loop or a branch: no point is in two of them, and no row has a modulus.
use Rattle.std.proofs.Common.{◌⊎◌, inl, inr, ℕ, ℤ, List, [], ◌∷◌, ◌++◌, map, sym, subst, arith}
use Rattle.std.specs.List.{AllByRecursion, flat_map}
use Rattle.std.proofs.lemmas.Int.{ints}
use Rattle.ac_forms.specs.Affine.{Affine}
use Rattle.ac_forms.specs.PieceMembership.{IsInSome, IsInOneAtMost}
use Rattle.ac_forms.specs.Rows.{Holds, Meets, HasModulus, HaveModuli}
use Rattle.ac_forms.specs.declared.row.Row.{Row}
use Rattle.ac_forms.specs.declared.row.Row.TheVariants.{Eq, Ge}
use Rattle.ac_forms.specs.Negation.{above, below}
use Rattle.ac_forms.proofs.InPieces.{none-or, none-of}
use Rattle.ac_syntax.specs.declared.tree.Comparison.{Comparison}
use Rattle.ac_syntax.specs.declared.tree.Cond.{Cond}
use Rattle.ac_syntax.specs.declared.tree.IndexExpr.{IndexExpr}
use Rattle.ac_syntax.specs.declared.tree.Quot.{Quot}
use Rattle.ac_syntax.specs.declared.tree.Rel.{Rel}
use Rattle.ac_syntax.specs.declared.tree.Rel.TheVariants.{NonNegative, Zero, Divides}
use Rattle.ac_poly_quotients.specs.ComparisonWays.{IsApart, way_of_bound, way_of_zero, with_each, failing_by}
use Rattle.ac_poly_quotients.specs.QuotientScopes.{with_quots, lowered_in, part_quots, rel_way, part_way, rows_of, with_counter, in_loop, where_holds, where_fails}
use Rattle.ac_poly_quotients.specs.declared.types.Scope.{Scope}
use Rattle.ac_poly_quotients.specs.declared.types.Way.{Way}
use Rattle.ac_poly_quotients.proofs.ComparisonWays.{multiple_apart, pieces_once}
use Rattle.ac_poly_quotients.proofs.HeldRows.{meets_append, below_holds, above_holds}
use Rattle.ac_poly_quotients.proofs.NarrowRows.{all_append}
use Rattle.ac_poly_quotients.proofs.NotedColumns.{grown_all}

-- ---- no point in two pieces

bound_apart : (f : Affine) → IsApart (way_of_bound f)
bound_apart f = record { once = λ p. ((λ _. tt), tt); never = never }
  where
    never : (p : List ℤ) → Holds (Ge (below f)) p ⊎ ⊥ → ¬ Holds (Ge f) p
    never p (inl i) h = let b = (below_holds f p).0 i in omega (arith, ints, b, h)
    never p (inr i) h = absurd i

zero_apart : (f : Affine) → IsApart (way_of_zero f)
zero_apart f = record { once = λ p. ((λ m. (apart p m, tt)), ((λ _. tt), tt)); never = never }
  where
    apart : (p : List ℤ) → Holds (Ge (above f)) p → ¬ Holds (Ge (below f)) p
    apart p m n = let a = (above_holds f p).0 m in let b = (below_holds f p).0 n in omega (arith, ints, a, b)

    never : (p : List ℤ) → Holds (Ge (above f)) p ⊎ (Holds (Ge (below f)) p ⊎ ⊥) → ¬ Holds (Eq f) p
    never p (inl i) h = let a = (above_holds f p).0 i in omega (arith, ints, a, h)
    never p (inr (inl i)) h = let b = (below_holds f p).0 i in omega (arith, ints, b, h)
    never p (inr (inr i)) h = absurd i

rel_apart : (sc : Scope) (e : IndexExpr) (r : Rel) (f : Affine) → IsApart (rel_way sc e r f)
rel_apart sc e NonNegative f = bound_apart f
rel_apart sc e Zero f = zero_apart f
rel_apart sc e (Divides m) f = multiple_apart _ m f

ways_apart : (sc : Scope) (its : List Affine) (cs : List Comparison) → AllByRecursion IsApart (map (part_way sc its) cs)
ways_apart sc its [] = tt
ways_apart sc its (c ∷ cs) = (rel_apart sc c.form c.rel (lowered_in sc its c.form), ways_apart sc its cs)

-- rows behind each piece
front : (rows : List Row) (qs : List (List Row)) (p : List ℤ) → IsInSome Meets (map (λ q. q ++ rows) qs) p → IsInSome Meets qs p
front rows [] p s = s
front rows (q ∷ qs) p (inl m) = inl ((meets_append q rows p).0 m).0
front rows (q ∷ qs) p (inr s) = inr (front rows qs p s)

front-once : (rows : List Row) (qs : List (List Row)) (p : List ℤ) → IsInOneAtMost Meets qs p → IsInOneAtMost Meets (map (λ q. q ++ rows) qs) p
front-once rows [] p a = tt
front-once rows (q ∷ qs) p a =
    ((λ m. none-of Meets (map (λ q. q ++ rows) qs) p (λ s. none-or Meets qs p (a.0 ((meets_append q rows p).0 m).0) (front rows qs p s))), front-once rows qs p a.1)

-- further quotients leave the pieces
quots-once : (sc : Scope) (qs : List Quot) (p : List ℤ) → IsInOneAtMost Meets sc.pieces p → IsInOneAtMost Meets (with_quots sc qs).pieces p
quots-once sc qs p a = subst (λ (x : List (List Row)). IsInOneAtMost Meets x p) (sym (grown_all sc qs).pieces) a

pub loop_once : (sc : Scope) (number : ℕ) (start : IndexExpr) (cond : Cond) (step : ℤ) (p : List ℤ) → IsInOneAtMost Meets sc.pieces p → IsInOneAtMost Meets (in_loop sc number start cond step).pieces p
loop_once sc number start cond step p a = front-once _ (with_quots sc start.quots).pieces p (quots-once sc start.quots p a)

pub holds_once : (sc : Scope) (cond : Cond) (p : List ℤ) → IsInOneAtMost Meets sc.pieces p → IsInOneAtMost Meets (where_holds sc cond).pieces p
holds_once sc cond p a = let qs = flat_map part_quots cond.parts in front-once _ (with_quots sc qs).pieces p (quots-once sc qs p a)

pub fails_once : (sc : Scope) (cond : Cond) (p : List ℤ) → IsInOneAtMost Meets sc.pieces p → IsInOneAtMost Meets (where_fails sc cond).pieces p
fails_once sc cond p a =
    let qs = flat_map part_quots cond.parts in
    let c = with_quots sc qs in
    pieces_once (map (part_way c c.iters) cond.parts) c.pieces p (ways_apart c c.iters cond.parts) (quots-once sc qs p a)

-- ---- no row has a modulus

pub append-moduli : (q rows : List Row) → HaveModuli q → HaveModuli rows → HaveModuli (q ++ rows)
append-moduli [] rows h i = i
append-moduli (r ∷ q) rows h i = (h.0, append-moduli q rows h.1 i)

record HasModuli (w : Way) : Type 0 where
  pub row : HasModulus w.row
  pub negations : HaveModuli w.negations

rel_moduli : (sc : Scope) (e : IndexExpr) (r : Rel) (f : Affine) → HasModuli (rel_way sc e r f)
rel_moduli sc e NonNegative f = record { row = tt; negations = (tt, tt) }
rel_moduli sc e Zero f = record { row = tt; negations = (tt, (tt, tt)) }
rel_moduli sc e (Divides m) f = record { row = tt; negations = (tt, tt) }

ways_moduli : (sc : Scope) (its : List Affine) (cs : List Comparison) → AllByRecursion HasModuli (map (part_way sc its) cs)
ways_moduli sc its [] = tt
ways_moduli sc its (c ∷ cs) = (rel_moduli sc c.form c.rel (lowered_in sc its c.form), ways_moduli sc its cs)

rows_moduli : (sc : Scope) (its : List Affine) (cs : List Comparison) → HaveModuli (rows_of sc its cs)
rows_moduli sc its [] = tt
rows_moduli sc its (c ∷ cs) = ((rel_moduli sc c.form c.rel (lowered_in sc its c.form)).row, rows_moduli sc its cs)

with-moduli : (qs : List (List Row)) (rows : List Row) → AllByRecursion HaveModuli qs → HaveModuli rows → AllByRecursion HaveModuli (map (λ q. q ++ rows) qs)
with-moduli [] rows h i = tt
with-moduli (q ∷ qs) rows h i = (append-moduli q rows h.0 i, with-moduli qs rows h.1 i)

each-moduli : (q rs : List Row) → HaveModuli q → HaveModuli rs → AllByRecursion HaveModuli (with_each q rs)
each-moduli q [] h i = tt
each-moduli q (r ∷ rs) h i = (append-moduli q (r ∷ []) h (i.0, tt), each-moduli q rs h i.1)

failing-moduli : (ws : List Way) (q : List Row) → AllByRecursion HasModuli ws → HaveModuli q → AllByRecursion HaveModuli (failing_by ws q)
failing-moduli [] q w h = tt
failing-moduli (x ∷ ws) q w h =
    all_append HaveModuli (with_each q x.negations) (failing_by ws (q ++ x.row ∷ [])) (each-moduli q x.negations h w.0.negations) (failing-moduli ws (q ++ x.row ∷ []) w.1 (append-moduli q (x.row ∷ []) h (w.0.row, tt)))

fails-moduli : (ws : List Way) (qs : List (List Row)) → AllByRecursion HasModuli ws → AllByRecursion HaveModuli qs → AllByRecursion HaveModuli (flat_map (failing_by ws) qs)
fails-moduli ws [] w h = tt
fails-moduli ws (q ∷ qs) w h = all_append HaveModuli (failing_by ws q) (flat_map (failing_by ws) qs) (failing-moduli ws q w h.0) (fails-moduli ws qs w h.1)

quots-moduli : (sc : Scope) (qs : List Quot) → AllByRecursion HaveModuli sc.pieces → AllByRecursion HaveModuli (with_quots sc qs).pieces
quots-moduli sc qs h = subst (λ (x : List (List Row)). AllByRecursion HaveModuli x) (sym (grown_all sc qs).pieces) h

pub loop_moduli : (sc : Scope) (number : ℕ) (start : IndexExpr) (cond : Cond) (step : ℤ) → AllByRecursion HaveModuli sc.pieces → AllByRecursion HaveModuli (in_loop sc number start cond step).pieces
loop_moduli sc number start cond step h =
    let a = with_quots sc start.quots in
    let s = lowered_in a a.iters start in
    let c = with_quots (with_counter a number s step) (flat_map part_quots cond.parts) in
    with-moduli a.pieces _ (quots-moduli sc start.quots h) (tt, append-moduli (rows_of c (a.iters ++ s ∷ []) cond.parts) (rows_of c c.iters cond.parts) (rows_moduli c (a.iters ++ s ∷ []) cond.parts) (rows_moduli c c.iters cond.parts))

pub holds_moduli : (sc : Scope) (cond : Cond) → AllByRecursion HaveModuli sc.pieces → AllByRecursion HaveModuli (where_holds sc cond).pieces
holds_moduli sc cond h =
    let qs = flat_map part_quots cond.parts in
    let c = with_quots sc qs in
    with-moduli c.pieces _ (quots-moduli sc qs h) (rows_moduli c c.iters cond.parts)

pub fails_moduli : (sc : Scope) (cond : Cond) → AllByRecursion HaveModuli sc.pieces → AllByRecursion HaveModuli (where_fails sc cond).pieces
fails_moduli sc cond h =
    let qs = flat_map part_quots cond.parts in
    let c = with_quots sc qs in
    fails-moduli (map (part_way c c.iters) cond.parts) c.pieces (ways_moduli c c.iters cond.parts) (quots-moduli sc qs h)
