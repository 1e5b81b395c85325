-- Moduli of rows that are renaming.
use Rattle.std.proofs.Common.{◌≡◌, ℕ, List, [], ◌∷◌, map, Bool, true, false, cond, Option, Some, None, refl, ap, sym, subst}
use Rattle.std.specs.Prelude.{Result, Ok, Err, IfOk, option_and_then, option_map}
use Rattle.std.specs.declared.alloc.AllocError.{AllocError}
use Rattle.ac_forms.specs.Affine.{Affine}
use Rattle.ac_forms.specs.Rows.{form_of, HasModulus, HaveModuli, IsWellMade}
use Rattle.ac_forms.specs.declared.conj.Conj.{Conj}
use Rattle.ac_forms.specs.declared.row.Row.{Row}
use Rattle.ac_forms.specs.declared.row.Row.TheVariants.{Eq, Div, Ge}
use Rattle.ac_forms.proofs.Passes.{moduli_of}
use Rattle.ac_base.proofs.Options.{bind-some, map-some}
use Rattle.ac_forms.specs.Renaming.{with_form, renamed, renamed_row, renaming, row_renaming, rows_renaming, sums_fit, CanRename, CanRenameAll}
use Rattle.ac_forms.proofs.Distinct.{sums_fit-is}
use Rattle.ac_claims_paths.specs.OptionalRows.{HaveIf}

pub conj_moduli : (c : Conj) → IsWellMade c → HaveModuli c.rows
conj_moduli c w = moduli_of c.columns c.rows w

row_modulus : (r : Row) (f : Affine) → HasModulus r → HasModulus (with_form r f)
row_modulus (Eq g) f h = tt
row_modulus (Div m g) f h = h
row_modulus (Ge g) f h = tt

pub rows_moduli : (ks : List ℕ) (rs ss : List Row) → HaveModuli rs → rows_renaming ks rs ≡ Some ss → HaveModuli ss
rows_moduli ks [] ss h e = let i : [] ≡ ss = cc in subst HaveModuli i tt
rows_moduli ks (r ∷ rs) ss h e =
    let b = bind-some (row_renaming ks r) (λ s. option_map (λ ss. s ∷ ss) (rows_renaming ks rs)) ss e in
    let c = map-some (rows_renaming ks rs) (λ ss. b.0 ∷ ss) ss b.2 in
    let d = map-some (renaming ks (form_of r)) (with_form r) b.0 b.1 in
    subst HaveModuli (sym c.2) (subst HasModulus (sym d.2) (row_modulus r d.0 h.0), rows_moduli ks rs c.0 h.1 c.1)

pub moved_moduli : (ks : List ℕ) (rs : List Row) (made : Option (List Row)) → HaveModuli rs → made ≡ rows_renaming ks rs → HaveIf made
moved_moduli ks rs None h e = tt
moved_moduli ks rs (Some ss) h e = rows_moduli ks rs ss h (sym e)

pub ruleset moduli_steps = (conj_moduli, moved_moduli)

-- rows that are made among other columns
pub rows_made : (ks : List ℕ) (rs : List Row) → CanRenameAll ks rs → Some (map (renamed_row ks) rs) ≡ rows_renaming ks rs
rows_made ks [] h = refl
rows_made ks (r ∷ rs) h =
    let e : sums_fit ks (form_of r).coefs ≡ true = (sums_fit-is ks (form_of r).coefs).1 h.0 in
    rw (e, ← rows_made ks rs h.1) refl

row_none : (ks : List ℕ) (r : Row) (rs : List Row) → (CanRename ks (form_of r) → ¬ CanRenameAll ks rs) → ((¬ CanRenameAll ks rs) → None ≡ rows_renaming ks rs) → None ≡ rows_renaming ks (r ∷ rs)
row_none ks r rs h next = by (sums_fit ks (form_of r).coefs) refl
  where
    by : (b : Bool) → sums_fit ks (form_of r).coefs ≡ b → None ≡ option_and_then (λ s. option_map (λ ss. s ∷ ss) (rows_renaming ks rs)) (option_map (with_form r) (cond b (Some (renamed ks (form_of r))) None))
    by true e = ap (λ o. option_map (λ ss. with_form r (renamed ks (form_of r)) ∷ ss) o) (next (h ((sums_fit-is ks (form_of r).coefs).0 e)))
    by false e = refl

pub rows_none : (ks : List ℕ) (rs : List Row) → ¬ CanRenameAll ks rs → None ≡ rows_renaming ks rs
rows_none ks [] h = absurd (h tt)
rows_none ks (r ∷ rs) h = row_none ks r rs (λ a b. h (a, b)) (rows_none ks rs)

pub ruleset rename_steps = (rows_made, rows_none)

-- a form
pub form_made : (ks : List ℕ) (f : Affine) → CanRename ks f → Some (renamed ks f) ≡ renaming ks f
form_made ks f h = let e : sums_fit ks f.coefs ≡ true = (sums_fit-is ks f.coefs).1 h in rw e refl

pub form_none : (ks : List ℕ) (f : Affine) → ¬ CanRename ks f → None ≡ renaming ks f
form_none ks f h = by (sums_fit ks f.coefs) refl
  where
    by : (b : Bool) → sums_fit ks f.coefs ≡ b → None ≡ cond b (Some (renamed ks f)) None
    by true e = absurd (h ((sums_fit-is ks f.coefs).0 e))
    by false e = refl

pub ruleset form_steps = (form_made, form_none)

pub moduli_result : (ks : List ℕ) (rs : List Row) (r : Result (Option (List Row)) AllocError) → HaveModuli rs → IfOk r (λ made. made ≡ rows_renaming ks rs) → IfOk r (λ made. HaveIf made)
moduli_result ks rs (Ok made) h e = moved_moduli ks rs made h e
moduli_result ks rs (Err a) h e = tt
