-- The quotients of an assignment itself: they are noted as ac_syntax notes them, and gathered in order.
use Rattle.std.proofs.Common.{◌≡◌, ℕ, ◌+◌, ◌<◌, ◌≤◌, List, [], ◌∷◌, ◌++◌, length, drop, get_or, refl, sym, ap, ◌∙◌, append_assoc, append-nil, rules}
use Rattle.std.proofs.lemmas.List.{drop_all}
use Rattle.std.specs.List.{flat_map}
use Rattle.ac_syntax.specs.Quotients.{noted_quots, noted_form, noted_subs, noted_value, noted_values}
use Rattle.ac_syntax.specs.declared.tree.IndexExpr.{IndexExpr}
use Rattle.ac_syntax.specs.declared.tree.Quot.{Quot}
use Rattle.ac_syntax.specs.declared.tree.Place.{Place}
use Rattle.ac_syntax.specs.declared.tree.Symbol.{Symbol}
use Rattle.ac_syntax.specs.declared.tree.Value.{Value, Row_of-Value, end_of-Value, more_of-Value, items-the_row-Value, the_lemmas}
use Rattle.ac_syntax.specs.declared.tree.Value.TheVariants.{Number, Access, Call, Call'}
use Rattle.ac_poly_quotients.specs.OwnQuotients.{form_quots, value_quots, values_quots, own_quots}
use Rattle.ac_poly_quotients.proofs.Making.{more}
use Rattle.ac_poly_quotients.proofs.NotedQuotients.{noted_further}

subs_noted : (seen : List Quot) (es : List IndexExpr) → noted_quots seen (flat_map form_quots es) ≡ noted_subs seen es
subs_noted seen [] = refl
subs_noted seen (e ∷ es) = noted_further seen (form_quots e) (flat_map form_quots es) ∙ subs_noted (noted_form seen e) es

mutual
  unfolding noted_value value_quots

  value_noted : (seen : List Quot) (v : Value) → noted_quots seen (value_quots v) ≡ noted_value seen v
  value_noted seen (Number e) = refl
  value_noted seen (Access array subs place) = subs_noted seen subs
  value_noted seen (Call' symbol n args place) = values_noted seen args

  values_noted : (seen : List Quot) {m : _} (vs : Row_of-Value m) → noted_quots seen (values_quots vs) ≡ noted_values seen vs
  values_noted seen end_of-Value = refl
  values_noted seen (more_of-Value v rest) =
      noted_further seen (value_quots v) (values_quots rest) ∙ ap (λ (s : List Quot). noted_quots s (values_quots rest)) (value_noted seen v) ∙ values_noted (noted_value seen v) rest

pub own_noted : (seen : List Quot) (subs : List IndexExpr) (value : Value) → noted_quots seen (own_quots subs value) ≡ noted_subs (noted_value seen value) subs
own_noted seen subs value =
    noted_further seen (value_quots value) (flat_map form_quots subs) ∙ ap (λ (s : List Quot). noted_quots s (flat_map form_quots subs)) (value_noted seen value) ∙ subs_noted (noted_value seen value) subs

-- ---- those of a value, over lists of values

row : (m : _) (k : Row_of-Value m) → values_quots k ≡ flat_map value_quots (items-the_row-Value m k)
unfolding value_quots
row m end_of-Value = refl
row m (more_of-Value {n = n} v rest) = ap (λ qs. value_quots v ++ qs) (row n rest)

call_row : (s : Symbol) (n : _) (args : Row_of-Value _) (place : Place) → value_quots (Call' s n args place) ≡ flat_map value_quots (items-the_row-Value _ args)
unfolding value_quots
call_row s n args place = row _ args

pub value_call : (s : Symbol) (args : List Value) (place : Place) → value_quots (Call s args place) ≡ flat_map value_quots args
value_call s args place = search (rules, the_lemmas, call_row)

pub value_number : (e : IndexExpr) → value_quots (Number e) ≡ e.quots
unfolding value_quots
value_number e = refl

pub value_access : (array : ℕ) (subs : List IndexExpr) (place : Place) → value_quots (Access array subs place) ≡ flat_map form_quots subs
unfolding value_quots
value_access array subs place = refl

pub ruleset value_cases = (value_call, value_number, value_access)

-- ---- behind others

pub record Pushed {A : Type 0} (f : A → List Quot) (xs : List A) (old : List Quot) (i : ℕ) (made : List Quot) : Type 0 where
  pub value : old ++ flat_map f xs ≡ made ++ flat_map f (drop i xs)

pushed_step : {A : Type 0} (f : A → List Quot) (xs : List A) (old : List Quot) (i : ℕ) (made new : List Quot) (x : A) → Pushed f xs old i made → i < length xs → x ≡ get_or xs i x → new ≡ made ++ f x → Pushed f xs old (i + 1) new
pushed_step f xs old i made new x h l e n = record { value = rw n (h.value ∙ rw (more xs i x l e) (sym (append_assoc made (f x) (flat_map f (drop (i + 1) xs))))) }

pushed_end : {A : Type 0} (f : A → List Quot) (xs : List A) (old : List Quot) (i : ℕ) (made : List Quot) → Pushed f xs old i made → length xs ≤ i → made ≡ old ++ flat_map f xs
pushed_end f xs old i made h l = sym ((h.value ∙ ap (λ r. made ++ flat_map f r) (drop_all i xs l)) ∙ append-nil made)

pub forms_start : (xs : List IndexExpr) (old : List Quot) → Pushed form_quots xs old 0 old
forms_start xs old = record { value = refl }

pub forms_step : (xs : List IndexExpr) (old : List Quot) (i : ℕ) (made new : List Quot) (x : IndexExpr) → Pushed form_quots xs old i made → i < length xs → x ≡ get_or xs i x → new ≡ made ++ x.quots → Pushed form_quots xs old (i + 1) new
forms_step xs old i made new x h l e n = pushed_step form_quots xs old i made new x h l e n

pub forms_end : (xs : List IndexExpr) (old : List Quot) (i : ℕ) (made : List Quot) → Pushed form_quots xs old i made → length xs ≤ i → made ≡ old ++ flat_map form_quots xs
forms_end xs old i made h l = pushed_end form_quots xs old i made h l

pub ruleset form_steps = (forms_start, forms_step, forms_end)

pub values_start : (xs : List Value) (old : List Quot) → Pushed value_quots xs old 0 old
values_start xs old = record { value = refl }

pub values_step : (xs : List Value) (old : List Quot) (i : ℕ) (made new : List Quot) (x : Value) → Pushed value_quots xs old i made → i < length xs → x ≡ get_or xs i x → new ≡ made ++ value_quots x → Pushed value_quots xs old (i + 1) new
values_step xs old i made new x h l e n = pushed_step value_quots xs old i made new x h l e n

pub values_end : (xs : List Value) (old : List Quot) (i : ℕ) (made : List Quot) → Pushed value_quots xs old i made → length xs ≤ i → made ≡ old ++ flat_map value_quots xs
values_end xs old i made h l = pushed_end value_quots xs old i made h l

pub ruleset values_steps = (values_start, values_step, values_end)
