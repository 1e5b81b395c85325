-- What the loops that make forms and rows keep.
use Rattle.std.proofs.Common.{◌≡◌, ℕ, ◌+◌, ◌<◌, ◌≤◌, List, [], ◌∷◌, ◌++◌, length, map, drop, get_or, refl, sym, ◌∙◌, append_assoc, append-nil, ℤ}
use Rattle.std.proofs.lemmas.List.{drop_all}
use Rattle.std.specs.List.{AllByRecursion}
use Rattle.ac_forms.specs.Affine.{Affine}
use Rattle.ac_forms.specs.declared.row.Row.{Row}
use Rattle.ac_syntax.specs.declared.tree.IndexExpr.{IndexExpr}
use Rattle.ac_syntax.specs.declared.tree.Comparison.{Comparison}
use Rattle.ac_poly_quotients.specs.LoweredForms.{replaced}
use Rattle.ac_poly_quotients.specs.declared.types.Scope.{Scope}
use Rattle.ac_poly_quotients.proofs.Making.{Made, more, made_start, made_step, made_fits, made_end}
use Rattle.ac_poly.specs.IndexForms.{lowered, row_by, rows_of}
use Rattle.ac_poly.specs.Lower.{last_form}
use Rattle.ac_poly.specs.LoweringRange.{CanForm}

-- forms
abbrev pub FormsMade : Scope → List IndexExpr → ℕ → List Affine → Type 0
FormsMade c xs i made = Made (CanForm c) (last_form c) xs i made

pub forms_start : (c : Scope) (xs : List IndexExpr) → FormsMade c xs 0 []
forms_start c xs = made_start (CanForm c) (last_form c) xs

pub forms_step : (c : Scope) (xs : List IndexExpr) (i : ℕ) (made new : List Affine) (x : IndexExpr) (y : Affine) → FormsMade c xs i made → i < length xs → x ≡ get_or xs i x
    → CanForm c x × (y ≡ last_form c x) → new ≡ made ++ y ∷ [] → FormsMade c xs (i + 1) new
forms_step c xs i made new x y h l e m n = made_step (CanForm c) (last_form c) xs i made new x y h l e m.0 m.1 n

pub forms_fits : (c : Scope) (xs : List IndexExpr) (i : ℕ) (made : List Affine) (x : IndexExpr) → FormsMade c xs i made → i < length xs → x ≡ get_or xs i x → AllByRecursion (CanForm c) xs → CanForm c x
forms_fits c xs i made x h l e g = made_fits (CanForm c) (last_form c) xs i made x h l e g

pub forms_end : (c : Scope) (xs : List IndexExpr) (i : ℕ) (made : List Affine) → FormsMade c xs i made → length xs ≤ i → AllByRecursion (CanForm c) xs × (made ≡ map (last_form c) xs)
forms_end c xs i made h l = made_end (CanForm c) (last_form c) xs i made h l

pub ruleset form_steps = (forms_start, forms_step, forms_fits, forms_end)

-- an index expression over the parameters alone
unchanged : (f : Affine) (cs : List ℤ) → f ≡ replaced f cs []
unchanged f [] = refl
unchanged f (c ∷ cs) = refl

pub alone : (e : IndexExpr) (f : Affine) (konst : ℤ) (params : List ℤ) → f ≡ record { konst = konst; coefs = params } → konst ≡ e.konst → params ≡ e.params → f ≡ lowered [] e
alone e f konst params m k p = rw (m, k, p) (unchanged (record { konst = e.konst; coefs = e.params }) e.iters)

pub record ContextMade (cs : List Comparison) (i : ℕ) (made : List Row) : Type 0 where
  pub value : rows_of [] cs ≡ made ++ rows_of [] (drop i cs)

pub context_start : (cs : List Comparison) → ContextMade cs 0 []
context_start cs = record { value = refl }

pub context_step : (cs : List Comparison) (i : ℕ) (made new : List Row) (c : Comparison) (f : Affine) → ContextMade cs i made → i < length cs → c ≡ get_or cs i c → f ≡ lowered [] c.form → new ≡ made ++ row_by c.rel f ∷ []
    → ContextMade cs (i + 1) new
context_step cs i made new c f h l e m n = record {
  value = rw (n, m) (h.value ∙ rw (more cs i c l e) (sym (append_assoc made (row_by c.rel (lowered [] c.form) ∷ []) (rows_of [] (drop (i + 1) cs)))));
}

pub context_end : (cs : List Comparison) (i : ℕ) (made : List Row) → ContextMade cs i made → length cs ≤ i → made ≡ rows_of [] cs
context_end cs i made h l = sym ((rw (drop_all i cs l) at h.value) ∙ append-nil made)

pub ruleset context_steps = (context_start, context_step, context_end)
