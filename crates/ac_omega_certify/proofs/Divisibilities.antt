-- Multiples, sums and quotients of divisibilities that stand.
use Rattle.std.proofs.Common.{◌≡◌, ℕ, zero, suc, ◌≤◌, ℤ, pos, neg_ℤ, ◌+ℤ◌, ◌*ℤ◌, ◌≤ℤ◌, List, [], ◌∷◌, length, map, get_or, Option, Some, None, true, unsigned_abs, refl, sym, ap, ◌∙◌}
use Rattle.std.specs.Prelude.{◌≢◌}
use Rattle.std.specs.Int.{◌∣◌}
use Rattle.std.proofs.lemmas.Nat.Gcd.{dvd-zero}
use Rattle.ac_base.specs.Multiple.{IsMultiple}
use Rattle.ac_base.proofs.Columns.{get_or-mix}
use Rattle.ac_base.proofs.Divisors.{true-divides}
use Rattle.ac_forms.specs.Affine.{Affine, combined, scaled, FormFits}
use Rattle.ac_forms.specs.Fits.{Fits, AllFit}
use Rattle.ac_forms.specs.declared.conj.Conj.{Conj}
use Rattle.ac_forms.specs.declared.row.Row.TheVariants.{Eq, Div}
use Rattle.ac_cert.specs.declared.types.Step.TheVariants.{DivScale, DivAdd, DivMod, DivEq}
use Rattle.ac_cert.specs.Rules.{divides_form}
use Rattle.ac_cert.proofs.Equations.{div_scale-row, div_add-row, div_mod-row, div_eq-row}
use Rattle.ac_omega_certify.specs.declared.path.TreePath.{TreePath}
use Rattle.ac_omega_certify.specs.TreePathRows.{place_of, coef_of, Renames, Blends, StandsAt, Reaches, Leads, Grows, CanScale, LeavesMultiple}
use Rattle.ac_omega_certify.proofs.Renaming.{fits-zero, times_zero, none_mixed, renames-combined, renames-blends, blends-can}
use Rattle.ac_omega_certify.proofs.Quotients.{each-true}
use Rattle.ac_omega_certify.proofs.Paths.{row_leads}

pub get_or-scaled : (k : ℤ) (cs : List ℤ) (j : ℕ) → get_or (map (λ c. k *ℤ c) cs) j (pos 0) ≡ k *ℤ get_or cs j (pos 0)
get_or-scaled k [] zero = sym (times_zero k)
get_or-scaled k [] (suc j) = sym (times_zero k)
get_or-scaled k (c ∷ cs) zero = refl
get_or-scaled k (c ∷ cs) (suc j) = get_or-scaled k cs j

all_scaled : (k : ℤ) (cs : List ℤ) → ((j : ℕ) → Fits (k *ℤ get_or cs j (pos 0))) → AllFit (map (λ c. k *ℤ c) cs)
all_scaled k [] h = tt
all_scaled k (c ∷ cs) h = (h 0, all_scaled k cs (λ j. h (suc j)))

pub renames-scaled : (names : List ℕ) (k : ℤ) (f f' : Affine) → Renames names f f' → Renames names (scaled k f) (scaled k f')
renames-scaled names k f f' x = record {
  konst = ap (λ z. k *ℤ z) x.konst;
  coefs = λ j. get_or-scaled k f'.coefs j ∙ ap (λ z. k *ℤ z) (x.coefs j) ∙ by (place_of j names);
}
  where
    by : (o : Option ℕ) → k *ℤ coef_of o f ≡ coef_of o (scaled k f)
    by None = times_zero k
    by (Some i) = sym (get_or-scaled k f.coefs i)

renamed-scales : (names : List ℕ) (k : ℤ) (f f' : Affine) → Renames names f f' → CanScale k f → FormFits (scaled k f')
renamed-scales names k f f' x h = (all_scaled k f'.coefs (λ j. rw (x.coefs j) (by (place_of j names))), rw x.konst h.konst)
  where
    by : (o : Option ℕ) → Fits (k *ℤ coef_of o f)
    by None = rw (times_zero k) fits-zero
    by (Some i) = h.coefs i

pub scale_leads : (t u : TreePath) (start path : Conj) (names : List ℕ) (x i : ℕ) (k m : ℤ) (f : Affine) → Grows t u (DivScale x k) i
    → Reaches t start path → StandsAt names path x (Div m f) → k ≢ pos 0 → Fits (pos (unsigned_abs k)) → Fits (m *ℤ pos (unsigned_abs k)) → CanScale k f → Leads u start path names i (Div (m *ℤ pos (unsigned_abs k)) (scaled k f))
scale_leads t u start path names x i k m f w h a n p q v =
    row_leads t u (DivScale x k) start path names i (Div (m *ℤ pos (unsigned_abs k)) (scaled k f)) (scaled k a.form) w h
    (div_scale-row path x k m a.form a.at n p q (renamed-scales names k f a.form a.renames v))
    (renames-scaled names k f a.form a.renames)

pub div_add_leads : (t u : TreePath) (start path : Conj) (names : List ℕ) (x y i : ℕ) (k l m : ℤ) (f g : Affine) → Grows t u (DivAdd x k y l) i
    → Reaches t start path → StandsAt names path x (Div m f) → StandsAt names path y (Div m g) → Blends k f l g → Leads u start path names i (Div m (combined k f l g))
div_add_leads t u start path names x y i k l m f g w h a b v =
    row_leads t u (DivAdd x k y l) start path names i (Div m (combined k f l g)) (combined k a.form l b.form) w h
    (div_add-row path x y k l m a.form b.form a.at b.at (blends-can k a.form l b.form (renames-blends names k f l g a.form b.form a.renames b.renames v)))
    (renames-combined names k f l g a.form b.form a.renames b.renames)

pub div_eq_leads : (t u : TreePath) (start path : Conj) (names : List ℕ) (x i : ℕ) (n : ℤ) (f : Affine) → Grows t u (DivEq x n) i
    → Reaches t start path → StandsAt names path x (Eq f) → pos 1 ≤ℤ n → Leads u start path names i (Div n f)
div_eq_leads t u start path names x i n f w h a l =
    row_leads t u (DivEq x n) start path names i (Div n f) a.form w h (div_eq-row path x n a.form a.at l) a.renames

-- what is left of the form is a multiple
left-divides : (names : List ℕ) (d : ℤ) (e : Affine) (g : ℤ) (f e' f' : Affine) → Renames names e e' → Renames names f f' → LeavesMultiple d e g f → divides_form d (combined (pos 1) e' (neg_ℤ g) f') ≡ true
left-divides names d e g f e' f' x y h =
    rw (true-divides (unsigned_abs d) (combined (pos 1) e' (neg_ℤ g) f').konst konst)
    (each-true d (combined (pos 1) e' (neg_ℤ g) f').coefs (λ j. rw (get_or-mix (pos 1) e'.coefs (neg_ℤ g) f'.coefs j, x.coefs j, y.coefs j) (by (place_of j names))))
  where
    konst : unsigned_abs d ∣ unsigned_abs (pos 1 *ℤ e'.konst +ℤ neg_ℤ g *ℤ f'.konst)
    konst = rw (x.konst, y.konst) h.konst

    by : (o : Option ℕ) → unsigned_abs d ∣ unsigned_abs (pos 1 *ℤ coef_of o e +ℤ neg_ℤ g *ℤ coef_of o f)
    by None = rw (none_mixed (pos 1) (neg_ℤ g)) (dvd-zero (unsigned_abs d))
    by (Some i) = h.coefs i

pub div_mod_leads : (t u : TreePath) (start path : Conj) (names : List ℕ) (x i : ℕ) (g n m : ℤ) (e f form : Affine) → Grows t u (DivMod x g n form) i
    → Reaches t start path → StandsAt names path x (Div m e) → Renames names f form → length form.coefs ≤ path.columns
    → pos 1 ≤ℤ g → pos 1 ≤ℤ n → Fits (g *ℤ n) → IsMultiple (g *ℤ n) m → Blends (pos 1) e (neg_ℤ g) f → LeavesMultiple (g *ℤ n) e g f → Leads u start path names i (Div n f)
div_mod_leads t u start path names x i g n m e f form w h a y l p q s d v k =
    row_leads t u (DivMod x g n form) start path names i (Div n f) form w h
    (div_mod-row path x g n m a.form form a.at p q l s (true-divides (unsigned_abs (g *ℤ n)) m d) (blends-can (pos 1) a.form (neg_ℤ g) form (renames-blends names (pos 1) e (neg_ℤ g) f a.form form a.renames y v)) (left-divides names (g *ℤ n) e g f a.form form a.renames y k))
    y
