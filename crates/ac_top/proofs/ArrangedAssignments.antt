-- The value of an assignment with its chains arranged: it has the same index expressions and quotients, and its numbers fit in `i128` too.
use Rattle.std.proofs.Common.{◌≡◌, ℕ, List, [], ◌∷◌, ◌++◌, length, true, rules}
use Rattle.std.specs.List.{AllByRecursion, list_any, flat_map}
use Rattle.ac_syntax.specs.FittingForms.{FitsQuot, FormsFit}
use Rattle.ac_syntax.specs.ReadyPrograms.{FitsValue, FitValues}
use Rattle.ac_syntax.specs.declared.tree.IndexExpr.{IndexExpr}
use Rattle.ac_syntax.specs.declared.tree.Place.{Place}
use Rattle.ac_syntax.specs.declared.tree.Quot.{Quot}
use Rattle.ac_syntax.specs.declared.tree.Symbol.{Symbol}
use Rattle.ac_syntax.specs.declared.tree.Value.{Value, Row_of-Value, end_of-Value, more_of-Value, items-the_row-Value, the_lemmas}
use Rattle.ac_syntax.specs.declared.tree.Value.TheVariants.{Number, Access, Call, Call'}
use Rattle.ac_syntax.proofs.ReadyAt.{fits_call}
use Rattle.ac_poly_quotients.specs.OwnQuotients.{form_quots, value_quots, values_quots, own_quots}
use Rattle.ac_poly_quotients.specs.QuotientScopes.{is_named}
use Rattle.ac_poly_quotients.specs.ScopeRange.{CanDivide}
use Rattle.ac_poly_quotients.specs.declared.types.Scope.{Scope}
use Rattle.ac_poly_quotients.proofs.NarrowRows.{all_append}
use Rattle.ac_poly_quotients.proofs.NotedColumns.{AreNamed, all_named}
use Rattle.ac_poly.specs.Lower.{own_scope}
use Rattle.ac_poly.specs.LoweringRange.{CanForm, CanFormValue, CanFormValues, CanAssign}
use Rattle.ac_assoc_law.specs.ArrangedPairs.{arranged}
use Rattle.ac_assoc_law.proofs.Staying.{Passes, value_stays}
use Rattle.ac_top.proofs.OrderedScopes.{IsOrdered}
use Rattle.ac_top.proofs.OtherOrders.{tell_others, forms_fit}

-- ---- values

value_row : (c : Scope) (m : _) (k : Row_of-Value m) → AllByRecursion (CanFormValue c) (items-the_row-Value m k) → CanFormValues c k
unfolding CanFormValue
value_row c m end_of-Value h = tt
value_row c m (more_of-Value {n = n} v rest) h = (h.0, value_row c n rest h.1)

call_row : (c : Scope) (s : Symbol) (n : _) (args : Row_of-Value _) (place : Place) → AllByRecursion (CanFormValue c) (items-the_row-Value _ args) → CanFormValue c (Call' s n args place)
unfolding CanFormValue
call_row c s n args place h = value_row c _ args h

whole_call : (c : Scope) (s : Symbol) (args : List Value) (place : Place) → AllByRecursion (CanFormValue c) args → CanFormValue c (Call s args place)
whole_call c s args place h = search (rules, the_lemmas, call_row, h)

pass : (c : Scope) → Passes (CanFormValue c) (λ m k. CanFormValues c k)
unfolding CanFormValue
pass c = record { args = λ s n args place h. h; split = λ n v rest h. h; call = λ s args place h. whole_call c s args place h }

fits_pass : (ps xs : ℕ) → Passes (FitsValue ps xs) (λ m k. FitValues ps xs k)
unfolding FitsValue
fits_pass ps xs = record { args = λ s n args place h. h; split = λ n v rest h. h; call = λ s args place h. fits_call ps xs s args place h }

-- ---- quotients

-- something holds of each quotient of a value
abbrev pub HoldsOfQuots : (Quot → Type 0) → Value → Type 0
HoldsOfQuots P v = AllByRecursion P (value_quots v)

split_all : {A : Type 0} (P : A → Type 0) (xs ys : List A) → AllByRecursion P (xs ++ ys) → AllByRecursion P xs × AllByRecursion P ys
split_all P [] ys h = (tt, h)
split_all P (x ∷ xs) ys h = let r = split_all P xs ys h.1 in ((h.0, r.0), r.1)

quots_row : (P : Quot → Type 0) (m : _) (k : Row_of-Value m) → AllByRecursion (HoldsOfQuots P) (items-the_row-Value m k) → AllByRecursion P (values_quots k)
unfolding value_quots
quots_row P m end_of-Value h = tt
quots_row P m (more_of-Value {n = n} v rest) h = all_append P (value_quots v) (values_quots rest) h.0 (quots_row P n rest h.1)

quots_call : (P : Quot → Type 0) (s : Symbol) (n : _) (args : Row_of-Value _) (place : Place) → AllByRecursion (HoldsOfQuots P) (items-the_row-Value _ args) → HoldsOfQuots P (Call' s n args place)
unfolding value_quots
quots_call P s n args place h = quots_row P _ args h

quots_whole : (P : Quot → Type 0) (s : Symbol) (args : List Value) (place : Place) → AllByRecursion (HoldsOfQuots P) args → HoldsOfQuots P (Call s args place)
quots_whole P s args place h = search (rules, the_lemmas, quots_call, h)

quots_pass : (P : Quot → Type 0) → Passes (HoldsOfQuots P) (λ m k. AllByRecursion P (values_quots k))
unfolding value_quots
quots_pass P = record { args = λ s n args place h. h; split = λ n v rest h. split_all P (value_quots v) (values_quots rest) h; call = λ s args place h. quots_whole P s args place h }

-- those of forms that fit
forms_quots : (ps xs : ℕ) (es : List IndexExpr) → FormsFit ps xs es → AllByRecursion (FitsQuot ps xs) (flat_map form_quots es)
forms_quots ps xs [] h = tt
forms_quots ps xs (e ∷ es) h = all_append (FitsQuot ps xs) e.quots (flat_map form_quots es) h.0.quots (forms_quots ps xs es h.1)

mutual
  unfolding FitsValue value_quots

  fitting_quots : (ps xs : ℕ) (v : Value) → FitsValue ps xs v → AllByRecursion (FitsQuot ps xs) (value_quots v)
  fitting_quots ps xs (Number e) h = h.quots
  fitting_quots ps xs (Access array subs place) h = forms_quots ps xs subs h
  fitting_quots ps xs (Call' symbol n args place) h = fitting_row ps xs args h

  fitting_row : (ps xs : ℕ) {m : _} (vs : Row_of-Value m) → FitValues ps xs vs → AllByRecursion (FitsQuot ps xs) (values_quots vs)
  fitting_row ps xs end_of-Value h = tt
  fitting_row ps xs (more_of-Value v rest) h = all_append (FitsQuot ps xs) (value_quots v) (values_quots rest) (fitting_quots ps xs v h.0) (fitting_row ps xs rest h.1)

-- ---- forms in the scope with the same quotients in another order

module _ (ps xs : ℕ) (c d : Scope) (N : Quot → Type 0) (fit : (e : IndexExpr) → length e.params ≡ ps → AllByRecursion N e.quots → CanForm c e → CanForm d e) where
  each_form : (es : List IndexExpr) → FormsFit ps xs es → AllByRecursion N (flat_map form_quots es) → AllByRecursion (CanForm c) es → AllByRecursion (CanForm d) es
  each_form [] f n h = tt
  each_form (e ∷ es) f n h = let s = split_all N e.quots (flat_map form_quots es) n in (fit e f.0.params s.0 h.0, each_form es f.1 s.1 h.1)

  mutual
    unfolding FitsValue value_quots CanFormValue

    each_value : (v : Value) → FitsValue ps xs v → AllByRecursion N (value_quots v) → CanFormValue c v → CanFormValue d v
    each_value (Number e) f n h = fit e f.params n h
    each_value (Access array subs place) f n h = each_form subs f n h
    each_value (Call' symbol m args place) f n h = each_row args f n h

    each_row : {m : _} (vs : Row_of-Value m) → FitValues ps xs vs → AllByRecursion N (values_quots vs) → CanFormValues c vs → CanFormValues d vs
    each_row end_of-Value f n h = tt
    each_row (more_of-Value v rest) f n h = let s = split_all N (value_quots v) (values_quots rest) n in (each_value v f.0 s.0 h.0, each_row rest f.1 s.1 h.1)

-- ---- the assignment

paired : {A : Type 0} (P Q : A → Type 0) (xs : List A) → AllByRecursion P xs → AllByRecursion Q xs → AllByRecursion (λ x. P x × Q x) xs
paired P Q [] h g = tt
paired P Q (x ∷ xs) h g = ((h.0, g.0), paired P Q xs h.1 g.1)

module _ (names : List (List ℕ)) (choice : ℕ → ℕ) (ps xs : ℕ) (sc : Scope) (subs : List IndexExpr) (value : Value) where
  abbrev new : Value
  new = arranged names choice 0 value

  own_stay : (P : Quot → Type 0) → AllByRecursion P (own_quots subs value) → AllByRecursion P (own_quots subs new)
  own_stay P h =
      let s = split_all P (value_quots value) (flat_map form_quots subs) h in
      all_append P (value_quots new) (flat_map form_quots subs) (value_stays (HoldsOfQuots P) (λ m k. AllByRecursion P (values_quots k)) (quots_pass P) names choice 0 value s.0) s.1

  pub assigned : IsOrdered ps sc → FormsFit ps xs subs → FitsValue ps xs value → CanAssign sc subs value → CanAssign sc subs new
  assigned ordered fit_subs fits h =
      let c = own_scope sc subs value in
      let d = own_scope sc subs new in
      let qs = own_quots subs value in
      let rs = own_quots subs new in
      let fq = all_append (FitsQuot ps xs) (value_quots value) (flat_map form_quots subs) (fitting_quots ps xs value fits) (forms_quots ps xs subs fit_subs) in
      let fr = own_stay (FitsQuot ps xs) fq in
      let named : AreNamed c rs = own_stay (λ q. list_any (is_named q) c.quots ≡ true) (all_named sc qs) in
      let N : Quot → Type 0 = λ q. (list_any (is_named q) c.quots ≡ true) × (list_any (is_named q) d.quots ≡ true) in
      let both : AllByRecursion N rs = paired (λ q. list_any (is_named q) c.quots ≡ true) (λ q. list_any (is_named q) d.quots ≡ true) rs named (all_named sc rs) in
      let s = split_all N (value_quots new) (flat_map form_quots subs) both in
      let form = forms_fit ps xs sc ordered qs rs fq fr named in
      let new_fits = value_stays (FitsValue ps xs) (λ m k. FitValues ps xs k) (fits_pass ps xs) names choice 0 value fits in
      let old = value_stays (CanFormValue c) (λ m k. CanFormValues c k) (pass c) names choice 0 value h.1.1 in (
        own_stay (CanDivide sc.iters) h.0,
        (tell_others ps xs sc ordered qs rs fq fr named h.1.0, each_value ps xs c d N form new new_fits s.0 old, each_form ps xs c d N form subs fit_subs s.1 h.1.2),
      )
