-- Further rows on a path: those that stood stand still, at their places.
use Rattle.std.proofs.Common.{◌≡◌, ℕ, zero, suc, ℤ, List, [], ◌∷◌, ◌++◌, length, Some, slice_get, refl, sym, ap, ◌∙◌, arith, append_assoc, length-append}
use Rattle.ac_forms.specs.Affine.{Affine}
use Rattle.ac_forms.specs.Rows.{form_of}
use Rattle.ac_forms.specs.declared.conj.Conj.{Conj}
use Rattle.ac_forms.specs.declared.row.Row.{Row}
use Rattle.ac_cert.specs.declared.types.Step.{Step}
use Rattle.ac_cert.specs.declared.types.Step.TheVariants.{Add}
use Rattle.ac_cert.specs.AcceptedTrees.{after_steps}
use Rattle.ac_cert.specs.Rules.{after_step, with_row}
use Rattle.ac_base.proofs.Options.{bind-some, some-is}
use Rattle.ac_omega_certify.specs.declared.path.TreePath.{TreePath}
use Rattle.ac_forms.specs.Renaming.{with_form}
use Rattle.ac_omega_certify.specs.TreePathRows.{Renames, Blends, StandsAt, Stand, CanAdd, sum_of, IsOnto, Reaches, Leads, Grows}
use Rattle.ac_omega_certify.proofs.Terms.{summed, two_terms, two_renamed}

pub steps-further : (steps : List Step) (s : Step) (c d e : Conj) → after_steps steps c ≡ Some d → after_step s d ≡ Some e → after_steps (steps ++ s ∷ []) c ≡ Some e
steps-further [] s c d e h k = rw (some-is c d h) (rw k refl)
steps-further (t ∷ steps) s c d e h k =
    let u = bind-some (after_step t c) (after_steps steps) d h in
    rw u.1 (steps-further steps s u.0 d e u.2 k)

pub get-appended : {X : Type 0} (xs ys : List X) (i : ℕ) (x : X) → slice_get xs i ≡ Some x → slice_get (xs ++ ys) i ≡ Some x
get-appended [] ys i x e = absurd cc
get-appended (y ∷ xs) ys zero x e = e
get-appended (y ∷ xs) ys (suc i) x e = get-appended xs ys i x e

pub get-last : {X : Type 0} (xs : List X) (x : X) → slice_get (xs ++ x ∷ []) (length xs) ≡ Some x
get-last [] x = refl
get-last (y ∷ xs) x = get-last xs x

pub stands-on : (names : List ℕ) (c d : Conj) (i : ℕ) (r : Row) → IsOnto c d → StandsAt names c i r → StandsAt names d i r
stands-on names c d i r o h = record { form = h.form; at = rw o.rows (get-appended c.rows o.more i (with_form r h.form) h.at); renames = h.renames }

pub stand-on : (names : List ℕ) (c d : Conj) (rs : List Row) (is : List ℕ) → IsOnto c d → Stand names c rs is → Stand names d rs is
stand-on names c d [] [] o h = h
stand-on names c d [] (i ∷ is) o h = h
stand-on names c d (r ∷ rs) [] o h = h
stand-on names c d (r ∷ rs) (i ∷ is) o h = (stands-on names c d i r o h.0, stand-on names c d rs is o h.1)

pub onto-self : (c : Conj) → IsOnto c c
onto-self c = record { more = []; rows = sym (nil c.rows); columns = omega arith }
  where
    nil : (xs : List Row) → xs ++ [] ≡ xs
    nil [] = refl
    nil (x ∷ xs) = ap (λ (ys : List Row). x ∷ ys) (nil xs)

pub onto-row : (c : Conj) (r : Row) → IsOnto c (with_row c r)
onto-row c r = record { more = r ∷ []; rows = refl; columns = omega arith }

pub onto-again : (b c d : Conj) → IsOnto b c → IsOnto c d → IsOnto b d
onto-again b c d x y = record {
  more = x.more ++ y.more;
  rows = y.rows ∙ ap (λ (r : List Row). r ++ y.more) x.rows ∙ append_assoc b.rows x.more y.more;
  columns = omega (arith, x.columns, y.columns);
}

-- the tree path with one further step, which adds a row: it stands at the end
pub row_leads : (t u : TreePath) (s : Step) (start path : Conj) (names : List ℕ) (i : ℕ) (r : Row) (f : Affine) → Grows t u s i → Reaches t start path → after_step s path ≡ Some (with_row path (with_form r f)) → Renames names (form_of r) f → Leads u start path names i r
row_leads t u s start path names i r f g h k n = record {
  further = with_row path (with_form r f);
  reaches = record {
    steps = rw g.steps (steps-further t.steps s start path (with_row path (with_form r f)) h.steps k);
    columns = h.columns ∙ sym g.columns;
    rows = omega (arith, length-append path.rows (with_form r f ∷ []), h.rows, g.rows);
  };
  onto = onto-row path (with_form r f);
  stands = record { form = f; at = rw (g.place, ← h.rows) (get-last path.rows (with_form r f)); renames = n };
}

-- first one way, then another
pub leads_again : (u : TreePath) (start b c : Conj) (names : List ℕ) (i : ℕ) (r : Row) → IsOnto b c → Leads u start c names i r → Leads u start b names i r
leads_again u start b c names i r o h = record { further = h.further; reaches = h.reaches; onto = onto-again b c h.further o h.onto; stands = h.stands }

pub two_leads : (t u : TreePath) (start path : Conj) (names : List ℕ) (x y i : ℕ) (k l : ℤ) (r s : Row) (ts : List (ℕ × ℤ)) → ts ≡ (x, k) ∷ (y, l) ∷ [] → Grows t u (Add ts) i
    → Reaches t start path → StandsAt names path x r → StandsAt names path y s → CanAdd k r → CanAdd l s → Blends k (form_of r) l (form_of s) → Leads u start path names i (sum_of k r l s)
two_leads t u start path names x y i k l r s ts is g h a b q w v =
    row_leads t u (Add ts) start path names i (sum_of k r l s) (summed k a.form l b.form) g h (rw is (two_terms names path x y k l r s a b q w v)) (two_renamed names path x y k l r s a b)
