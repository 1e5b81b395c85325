-- The quotients that have columns are those that are noted, in their order.
use Rattle.std.proofs.Common.{◌≡◌, ℤ, List, [], ◌∷◌, ◌++◌, map, Bool, true, false, ◌&&◌, refl, ap, ◌∙◌}
use Rattle.std.specs.Prelude.{if◌then◌else◌}
use Rattle.std.specs.List.{list_any, flat_map}
use Rattle.std.specs.Ordering.{int_eq}
use Rattle.std.specs.Cmp.Lexicographic.{pointwise}
use Rattle.std.proofs.lemmas.Bool.Decides.{Decides-int_eq}
use Rattle.std.proofs.lemmas.List.{map-append}
use Rattle.ac_syntax.specs.Quotients.{same_iters, same_quot, noted, noted_quots, noted_form, noted_part, noted_parts}
use Rattle.ac_syntax.specs.declared.tree.Comparison.{Comparison}
use Rattle.ac_syntax.specs.declared.tree.IndexExpr.{IndexExpr}
use Rattle.ac_syntax.specs.declared.tree.Quot.{Quot}
use Rattle.ac_syntax.specs.declared.tree.Rel.{Rel}
use Rattle.ac_syntax.specs.declared.tree.Rel.TheVariants.{NonNegative, Zero, Divides}
use Rattle.ac_poly_quotients.specs.QuotientScopes.{is_named, with_new, with_quot, with_quots, rel_quots, part_quots}
use Rattle.ac_poly_quotients.specs.declared.types.QuotColumn.{QuotColumn}
use Rattle.ac_poly_quotients.specs.declared.types.Scope.{Scope}

-- ---- each quotient is the same as itself

joined : (a b : Bool) → a ≡ true → b ≡ true → (a && b) ≡ true
joined true b h g = g
joined false b h g = absurd (let k : false ≡ true = h in cc)

equal_itself : (x : ℤ) → int_eq x x ≡ true
equal_itself x = (Decides-int_eq x x).1 refl

params_itself : (xs : List ℤ) → pointwise int_eq xs xs ≡ true
params_itself [] = refl
params_itself (x ∷ xs) = joined (int_eq x x) (pointwise int_eq xs xs) (equal_itself x) (params_itself xs)

iters_itself : (xs : List ℤ) → same_iters xs xs ≡ true
iters_itself [] = refl
iters_itself (x ∷ xs) = joined (int_eq x x) (same_iters xs xs) (equal_itself x) (iters_itself xs)

pub same_itself : (q : Quot) → same_quot q q ≡ true
same_itself q =
    joined (int_eq q.konst q.konst) _ (equal_itself q.konst)
    (joined (pointwise int_eq q.params q.params) _ (params_itself q.params) (joined (same_iters q.iters q.iters) _ (iters_itself q.iters) (equal_itself q.div)))

-- ---- what has columns is what is noted

abbrev pub quot_of : QuotColumn → Quot
quot_of n = n.quot

any_named : (q : Quot) (ns : List QuotColumn) → list_any (is_named q) ns ≡ list_any (same_quot q) (map quot_of ns)
any_named q [] = refl
any_named q (n ∷ ns) = rw (any_named q ns) refl

one_noted : (q : Quot) (sc : Scope) (b : Bool) → map quot_of (if b then sc else with_new sc q).quots ≡ (if b then map quot_of sc.quots else map quot_of sc.quots ++ q ∷ [])
one_noted q sc true = refl
one_noted q sc false = map-append quot_of sc.quots (record { quot = q; column = _ } ∷ [])

quot_noted : (sc : Scope) (q : Quot) → map quot_of (with_quot sc q).quots ≡ noted (map quot_of sc.quots) q
quot_noted sc q =
    one_noted q sc (list_any (is_named q) sc.quots) ∙ ap (λ (b : Bool). if b then map quot_of sc.quots else map quot_of sc.quots ++ q ∷ []) (any_named q sc.quots)

pub quots_noted : (sc : Scope) (qs : List Quot) → map quot_of (with_quots sc qs).quots ≡ noted_quots (map quot_of sc.quots) qs
quots_noted sc [] = refl
quots_noted sc (q ∷ qs) = quots_noted (with_quot sc q) qs ∙ ap (λ (seen : List Quot). noted_quots seen qs) (quot_noted sc q)

pub noted_further : (seen xs ys : List Quot) → noted_quots seen (xs ++ ys) ≡ noted_quots (noted_quots seen xs) ys
noted_further seen [] ys = refl
noted_further seen (x ∷ xs) ys = noted_further (noted seen x) xs ys

part_noted : (seen : List Quot) (e : IndexExpr) (r : Rel) → noted_quots (noted_form seen e) (rel_quots r e) ≡ noted_part seen (record { form = e; rel = r })
part_noted seen e NonNegative = refl
part_noted seen e Zero = refl
part_noted seen e (Divides m) = refl

pub parts_noted : (seen : List Quot) (cs : List Comparison) → noted_quots seen (flat_map part_quots cs) ≡ noted_parts seen cs
parts_noted seen [] = refl
parts_noted seen (c ∷ cs) =
    noted_further seen (part_quots c) (flat_map part_quots cs)
    ∙ ap (λ (s : List Quot). noted_quots s (flat_map part_quots cs)) (noted_further seen c.form.quots (rel_quots c.rel c.form) ∙ part_noted seen c.form c.rel)
    ∙ parts_noted (noted_part seen c) cs
