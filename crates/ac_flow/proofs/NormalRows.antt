-- What choices leave of a copy is in normal form, so that each of its rows has one in `i128`.
use Rattle.std.proofs.Common.{◌≡◌, inl, inr, ℕ, ◌+◌, ◌-◌, nat_le, ◌&&◌, Bool, true, false, cond, List, [], ◌∷◌, Option, Some, refl, sym, ap, subst}
use Rattle.std.specs.Prelude.{slice_get, option_and_then}
use Rattle.std.specs.List.{dedup}
use Rattle.ac_forms.specs.NormalForm.{absurd_rows, left_rows, has_absurd, in_order, alike, has_clash, joined, normal_form, normal_conj, RowsFit}
use Rattle.ac_forms.specs.NormalRows.{NormalFits}
use Rattle.ac_forms.specs.RangeTests.{rows_fit}
use Rattle.ac_forms.specs.ListMembers.{IsAmong}
use Rattle.ac_forms.specs.Traces.{IsLeftOf}
use Rattle.ac_forms.specs.declared.conj.Conj.{Conj}
use Rattle.ac_forms.specs.declared.row.Row.{Row}
use Rattle.ac_forms.proofs.Again.{kept-fits}
use Rattle.ac_forms.proofs.Joining.{both_of}
use Rattle.ac_forms.proofs.Traces.{left_trace, order_trace, joined_trace}
use Rattle.ac_forms.proofs.Twins.{rows_fit-is}
use Rattle.ac_omega_steps.specs.ChoiceFits.{choice_fits, raw, after_choice}
use Rattle.ac_omega_steps.specs.Choices.{column_of, is_legal, left_by}
use Rattle.ac_omega_steps.specs.declared.choose.Choice.{Choice}
use Rattle.ac_base.proofs.Options.{bind-some, if-some, some-is}
use Rattle.ac_poly.specs.declared.types.StmtModel.{StmtModel}
use Rattle.ac_claims_paths.specs.InstanceCoordinates.{width}
use Rattle.ac_claims_paths.specs.PathSteps.{Pairing, model_of}
use Rattle.ac_claims_paths.specs.CopyKills.{case_width, with_own_columns, normal_of, copy_rows, copy_of, by_column, taken_legally, chosen, all_chosen}
use Rattle.ac_claims_paths.specs.declared.path.Assumed.{Assumed}

-- ---- the rows of a normal form

left_fits : (r : Row) (xs : List Row) → RowsFit xs → IsLeftOf r xs → NormalFits r
left_fits r [] f h = absurd h
left_fits r (x ∷ xs) f (inl e) = kept-fits x r f.0 e
left_fits r (x ∷ xs) f (inr h) = left_fits r xs f.1 h

absurd_fits : (r : Row) → IsAmong r absurd_rows → NormalFits r
absurd_fits r (inl e) = subst (λ (s : Row). NormalFits s) (sym e) tt
absurd_fits r (inr h) = absurd h

normal_fits : (xs : List Row) (r : Row) → RowsFit xs → IsAmong r (normal_form xs) → NormalFits r
normal_fits xs r f h = by (has_absurd xs) h
  where
    second : (b : Bool) → IsAmong r (cond b absurd_rows (dedup alike (in_order (left_rows xs)))) → NormalFits r
    second true k = absurd_fits r k
    second false k = left_fits r xs f (left_trace r xs (order_trace r (left_rows xs) (joined_trace r (in_order (left_rows xs)) k)))

    by : (b : Bool) → IsAmong r (cond b absurd_rows (joined (in_order (left_rows xs)))) → NormalFits r
    by true k = absurd_fits r k
    by false k = second (has_clash (in_order (left_rows xs))) k

-- ---- what choices leave

-- the normal form of rows that have one in `i128`
pub record IsNormal (c : Conj) : Type 0 where
  pub from : List Row
  pub is : c.rows ≡ normal_form from
  pub fits : rows_fit from ≡ true

chosen_normal : (columns n : ℕ) (x : Choice) (c d : Conj) → chosen columns n x c ≡ Some d → IsNormal d
unfolding after_choice
chosen_normal columns n x c d e =
    let y = by_column (n + (column_of x - columns)) x in
    let t = if-some (nat_le columns (column_of x)) (taken_legally y c) d e in
    let l = if-some (is_legal y c) (after_choice y c) d t.1 in
    let a = if-some (choice_fits y c.rows && rows_fit (left_by y c.rows)) (Some (normal_conj (raw y c))) d l.1 in
    let b = both_of (choice_fits y c.rows) (rows_fit (left_by y c.rows)) a.0 in
    let s : normal_conj (raw y c) ≡ d = some-is (normal_conj (raw y c)) d a.1 in
    record { from = left_by y c.rows; is = ap (λ (q : Conj). q.rows) (sym s); fits = b.1 }

all_normal : (columns n : ℕ) (xs : List Choice) (c d : Conj) → IsNormal c → all_chosen columns n xs c ≡ Some d → IsNormal d
all_normal columns n [] c d h e = subst (λ (q : Conj). IsNormal q) (some-is c d e) h
all_normal columns n (x ∷ xs) c d h e =
    let s = bind-some (chosen columns n x c) (λ (q : Conj). all_chosen columns n xs q) d e in
    all_normal columns n xs s.0 d (chosen_normal columns n x c s.0 s.1) s.2

copy_normal : (g : Pairing) (a : Assumed) (u piece : ℕ) (after : Option ℕ) (before : ℕ) (c : Conj) → copy_of g a u piece after before ≡ Some c → IsNormal c
copy_normal g a u piece after before c e =
    let n = case_width g.params a in
    let own = with_own_columns g.params a in
    let s = bind-some (slice_get (model_of g a.side).stmts u) (λ (stmt : StmtModel). option_and_then (normal_of (n + width stmt)) (copy_rows g own n u piece after before stmt)) c e in
    let r = bind-some (copy_rows g own n u piece after before s.0) (normal_of (n + width s.0)) c s.2 in
    let f = if-some (rows_fit r.0) (Some (normal_conj (record { columns = n + width s.0; rows = r.0 }))) c r.2 in
    let q : normal_conj (record { columns = n + width s.0; rows = r.0 }) ≡ c = some-is (normal_conj (record { columns = n + width s.0; rows = r.0 })) c f.1 in
    record { from = r.0; is = ap (λ (y : Conj). y.rows) (sym q); fits = f.0 }

each_fits : (rs : List Row) → ((r : Row) → IsAmong r rs → NormalFits r) → RowsFit rs
each_fits [] f = tt
each_fits (r ∷ rs) f = (f r (inl refl), each_fits rs (λ s i. f s (inr i)))

-- the rows that choices leave of a copy have normal forms in `i128`
pub left_rows_fit : (g : Pairing) (a : Assumed) (u piece : ℕ) (after : Option ℕ) (before columns n : ℕ) (xs : List Choice) (copy left : Conj) → copy_of g a u piece after before ≡ Some copy → all_chosen columns n xs copy ≡ Some left → RowsFit left.rows
left_rows_fit g a u piece after before columns n xs copy left e h =
    let w = all_normal columns n xs copy left (copy_normal g a u piece after before copy e) h in
    let f = (rows_fit-is w.from).0 w.fits in
    subst RowsFit (sym w.is) (each_fits (normal_form w.from) (λ r i. normal_fits w.from r f i))
