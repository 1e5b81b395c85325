-- A column as m times another plus r.
use Rattle.std.proofs.Common.{◌≡◌, ◌↔◌, ℕ, ◌<◌, ℤ, pos, ◌+ℤ◌, ◌*ℤ◌, List, [], ◌∷◌, map, length, set, get_or, arith, subst, sym}
use Rattle.std.specs.Int.{int_div_euclid}
use Rattle.std.proofs.lemmas.Int.{ints}
use Rattle.std.proofs.lemmas.List.{set-get_or}
use Rattle.ac_base.proofs.Columns.{dot-spread}
use Rattle.ac_base.proofs.Residues.{split_mod, class_of}
use Rattle.ac_forms.specs.Affine.{Affine, value_at}
use Rattle.ac_forms.specs.Rows.{Holds, Meets}
use Rattle.ac_forms.specs.declared.row.Row.{Row}
use Rattle.ac_forms.specs.declared.row.Row.TheVariants.{Eq, Div, Ge}
use Rattle.ac_omega_steps.specs.Choices.{substitute_residue, substitute_residue_row}

value-substitute_residue : (f : Affine) (p : List ℤ) (z : ℕ) (m r w : ℤ) → z < length p → value_at (substitute_residue z m r f) (set p z w) ≡ value_at f (set p z (m *ℤ w +ℤ r))
value-substitute_residue f p z m r w h = let e = dot-spread f.coefs p z m r w h in omega (arith, ints, e)

substitute_residue-holds : (x : Row) (p : List ℤ) (z : ℕ) (m r w : ℤ) → z < length p → Holds (substitute_residue_row z m r x) (set p z w) ↔ Holds x (set p z (m *ℤ w +ℤ r))
substitute_residue-holds (Ge f) p z m r w h = rw (value-substitute_residue f p z m r w h) ((λ t. t), (λ t. t))
substitute_residue-holds (Eq f) p z m r w h = rw (value-substitute_residue f p z m r w h) ((λ t. t), (λ t. t))
substitute_residue-holds (Div n f) p z m r w h = rw (value-substitute_residue f p z m r w h) ((λ t. t), (λ t. t))

pub substitute_residue-meet : (rows : List Row) (p : List ℤ) (z : ℕ) (m r w : ℤ) → z < length p → Meets (map (substitute_residue_row z m r) rows) (set p z w) ↔ Meets rows (set p z (m *ℤ w +ℤ r))
substitute_residue-meet [] p z m r w h = ((λ t. t), (λ t. t))
substitute_residue-meet (x ∷ rows) p z m r w h =
    let a = substitute_residue-holds x p z m r w h in
    let b = substitute_residue-meet rows p z m r w h in
    ((λ t. (a.0 t.0, b.0 t.1)), (λ t. (a.1 t.0, b.1 t.1)))

pub substitute_residue-lifts : (rows : List Row) (q : List ℤ) (z : ℕ) (m r : ℤ) → z < length q → Meets (map (substitute_residue_row z m r) rows) q → Meets rows (set q z (m *ℤ get_or q z (pos 0) +ℤ r))
substitute_residue-lifts rows q z m r l h =
    (substitute_residue-meet rows q z m r (get_or q z (pos 0)) l).0 (subst (λ (x : List ℤ). Meets (map (substitute_residue_row z m r) rows) x) (sym (set-get_or q z (pos 0))) h)

-- a number of the column lies in one class, and what that class leaves has a point
pub residue-covers : (rows : List Row) (p : List ℤ) (z m : ℕ) (v : ℤ) → z < length p → 0 < m → Meets rows (set p z v) → (r : ℕ) × (r < m) × (w : ℤ) × Meets (map (substitute_residue_row z (pos m) (pos r)) rows) (set p z w)
residue-covers rows p z m v l h t =
    let c = class_of v m h in
    let e = rw c.2 at (split_mod v m h) in
    (c.0, c.1, int_div_euclid v (pos m), (substitute_residue-meet rows p z (pos m) (pos c.0) (int_div_euclid v (pos m)) l).1 (subst (λ (x : ℤ). Meets rows (set p z x)) e t))
