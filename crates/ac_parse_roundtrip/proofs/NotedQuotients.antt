-- Quotients are noted alike whatever their places.
use Rattle.std.proofs.Common.{◌≡◌, ◌||◌, Bool, true, false, cond, pos, List, [], ◌∷◌, ◌++◌, map, refl, sym, ap, ◌∙◌}
use Rattle.std.specs.List.{list_any}
use Rattle.std.proofs.lemmas.List.{map-append}
use Rattle.ac_syntax.specs.Quotients.{same_quot, noted, noted_quots, noted_form, noted_subs, noted_rel, noted_part, noted_parts, noted_value, noted_values, noted_all}
use Rattle.ac_syntax.specs.declared.tree.Quot.{Quot}
use Rattle.ac_syntax.specs.declared.tree.IndexExpr.{IndexExpr}
use Rattle.ac_syntax.specs.declared.tree.Rel.{Rel}
use Rattle.ac_syntax.specs.declared.tree.Rel.TheVariants.{NonNegative, Zero, Divides}
use Rattle.ac_syntax.specs.declared.tree.Comparison.{Comparison}
use Rattle.ac_syntax.specs.declared.tree.Value.{Value, Row_of-Value, end_of-Value, more_of-Value}
use Rattle.ac_syntax.specs.declared.tree.Value.TheVariants.{Number, Access, Call'}
use Rattle.ac_syntax.proofs.Noted.{noted_call}
use Rattle.ac_parse_roundtrip.specs.PlaceErasure.{nowhere, quot_without_place, form_without_place, forms_without_places, comparison_without_place, parts_without_places, value_without_places, values_without_places}

abbrev pub without_places : List Quot → List Quot
without_places qs = map quot_without_place qs

any_alike : (q : Quot) (seen : List Quot) → list_any (same_quot (quot_without_place q)) (without_places seen) ≡ list_any (same_quot q) seen
any_alike q [] = refl
any_alike q (p ∷ seen) = ap (λ b. same_quot q p || b) (any_alike q seen)

alike : (q : Quot) (seen : List Quot) (b c : Bool) → c ≡ b → cond c (without_places seen) (without_places seen ++ quot_without_place q ∷ []) ≡ without_places (cond b seen (seen ++ q ∷ []))
alike q seen true true e = refl
alike q seen true false e = absurd cc
alike q seen false true e = absurd cc
alike q seen false false e = sym (map-append quot_without_place seen (q ∷ []))

noted_alike : (seen : List Quot) (q : Quot) → noted (without_places seen) (quot_without_place q) ≡ without_places (noted seen q)
noted_alike seen q = alike q seen (list_any (same_quot q) seen) (list_any (same_quot (quot_without_place q)) (without_places seen)) (any_alike q seen)

quots_alike : (seen qs : List Quot) → noted_quots (without_places seen) (without_places qs) ≡ without_places (noted_quots seen qs)
quots_alike seen [] = refl
quots_alike seen (q ∷ qs) = ap (λ more. noted_quots more (without_places qs)) (noted_alike seen q) ∙ quots_alike (noted seen q) qs

form_alike : (seen : List Quot) (e : IndexExpr) → noted_form (without_places seen) (form_without_place e) ≡ without_places (noted_form seen e)
form_alike seen e = quots_alike seen e.quots

subs_alike : (seen : List Quot) (es : List IndexExpr) → noted_subs (without_places seen) (forms_without_places es) ≡ without_places (noted_subs seen es)
subs_alike seen [] = refl
subs_alike seen (e ∷ es) = ap (λ more. noted_subs more (forms_without_places es)) (form_alike seen e) ∙ subs_alike (noted_form seen e) es

rel_alike : (seen : List Quot) (e : IndexExpr) (r : Rel) → noted_rel (without_places seen) (form_without_place e) r ≡ without_places (noted_rel seen e r)
rel_alike seen e NonNegative = refl
rel_alike seen e Zero = refl
rel_alike seen e (Divides m) = noted_alike seen (record { coef = pos 1; konst = e.konst; params = e.params; iters = e.iters; div = m; place = e.place })

part_alike : (seen : List Quot) (c : Comparison) → noted_part (without_places seen) (comparison_without_place c) ≡ without_places (noted_part seen c)
part_alike seen c = ap (λ more. noted_rel more (form_without_place c.form) c.rel) (form_alike seen c.form) ∙ rel_alike (noted_form seen c.form) c.form c.rel

parts_alike : (seen : List Quot) (cs : List Comparison) → noted_parts (without_places seen) (parts_without_places cs) ≡ without_places (noted_parts seen cs)
parts_alike seen [] = refl
parts_alike seen (c ∷ cs) = ap (λ more. noted_parts more (parts_without_places cs)) (part_alike seen c) ∙ parts_alike (noted_part seen c) cs

mutual
  unfolding noted_value noted_values value_without_places values_without_places

  value_alike : (seen : List Quot) (v : Value) → noted_value (without_places seen) (value_without_places v) ≡ without_places (noted_value seen v)
  value_alike seen (Number e) = form_alike seen e
  value_alike seen (Access array subs place) = subs_alike seen subs
  value_alike seen (Call' s n args place) = noted_call (without_places seen) s (values_without_places args) nowhere ∙ values_alike seen args

  values_alike : (seen : List Quot) {m : _} (row : Row_of-Value m) → noted_all (without_places seen) (values_without_places row) ≡ without_places (noted_values seen row)
  values_alike seen end_of-Value = refl
  values_alike seen (more_of-Value v rest) = ap (λ more. noted_all more (values_without_places rest)) (value_alike seen v) ∙ values_alike (noted_value seen v) rest

-- ---- what is alike but for places

pub same_form : (s t : List Quot) (e f : IndexExpr) → without_places s ≡ without_places t → form_without_place e ≡ form_without_place f → without_places (noted_form s e) ≡ without_places (noted_form t f)
same_form s t e f h k = sym (form_alike s e) ∙ ap (λ x. noted_form x (form_without_place e)) h ∙ ap (noted_form (without_places t)) k ∙ form_alike t f

pub same_parts : (s t : List Quot) (cs ds : List Comparison) → without_places s ≡ without_places t → parts_without_places cs ≡ parts_without_places ds → without_places (noted_parts s cs) ≡ without_places (noted_parts t ds)
same_parts s t cs ds h k = sym (parts_alike s cs) ∙ ap (λ x. noted_parts x (parts_without_places cs)) h ∙ ap (noted_parts (without_places t)) k ∙ parts_alike t ds

pub same_subs : (s t : List Quot) (es fs : List IndexExpr) → without_places s ≡ without_places t → forms_without_places es ≡ forms_without_places fs → without_places (noted_subs s es) ≡ without_places (noted_subs t fs)
same_subs s t es fs h k = sym (subs_alike s es) ∙ ap (λ x. noted_subs x (forms_without_places es)) h ∙ ap (noted_subs (without_places t)) k ∙ subs_alike t fs

pub same_value : (s t : List Quot) (v w : Value) → without_places s ≡ without_places t → value_without_places v ≡ value_without_places w → without_places (noted_value s v) ≡ without_places (noted_value t w)
same_value s t v w h k = sym (value_alike s v) ∙ ap (λ x. noted_value x (value_without_places v)) h ∙ ap (noted_value (without_places t)) k ∙ value_alike t w
