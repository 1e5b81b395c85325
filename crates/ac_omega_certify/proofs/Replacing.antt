-- The sum of a multiple of a divisibility and a multiple of an equality.
use Rattle.std.proofs.Common.{◌≡◌, ℕ, zero, suc, ℤ, pos, negsuc, ◌+ℤ◌, ◌*ℤ◌, ◌≤ℤ◌, List, unsigned_abs, refl, sym, ap, ◌∙◌, arith}
use Rattle.std.specs.Prelude.{◌≢◌}
use Rattle.std.proofs.lemmas.Int.{ints}
use Rattle.ac_base.proofs.Columns.{get_or-mix}
use Rattle.ac_base.proofs.Products.{mul_comm_ℤ}
use Rattle.ac_forms.specs.Affine.{Affine, coef, combined, scaled, MixFits}
use Rattle.ac_forms.specs.Fits.{Fits}
use Rattle.ac_forms.specs.declared.conj.Conj.{Conj}
use Rattle.ac_forms.specs.declared.row.Row.TheVariants.{Eq, Div}
use Rattle.ac_omega_certify.specs.declared.path.TreePath.{TreePath}
use Rattle.ac_omega_certify.specs.TreePathRows.{Alike, Blends, CanScale, StandsAt, Reaches, Leads}
use Rattle.ac_omega_certify.proofs.Terms.{once}
use Rattle.ac_omega_certify.proofs.Renaming.{renames-alike}
use Rattle.ac_omega_certify.proofs.Paths.{stands-on, onto-again}
use Rattle.ac_omega_certify.proofs.Divisibilities.{get_or-scaled}

size_is : (s : ℤ) → pos 1 ≤ℤ s → pos (unsigned_abs s) ≡ s
size_is (pos n) h = refl
size_is (negsuc n) h = absurd (omega (arith, ints))

not_zero : (s : ℤ) → pos 1 ≤ℤ s → s ≢ pos 0
not_zero s h = λ e. absurd (omega (arith, ints, e, h))

times_size : (s m : ℤ) → pos 1 ≤ℤ s → m *ℤ pos (unsigned_abs s) ≡ s *ℤ m
times_size s m h = rw (size_is s h) (mul_comm_ℤ m s)

blends_scales : (s : ℤ) (f : Affine) (k : ℤ) (g : Affine) → Blends s f k g → CanScale s f
blends_scales s f k g b = record { konst = b.konst.0; coefs = λ j. (b.coefs j).0 }

again_fits : (s x k y z : ℤ) → z ≡ s *ℤ x → MixFits s x k y → MixFits (pos 1) z k y
again_fits s x k y z e h = rw (once z, e) h

scaled_blends : (s : ℤ) (f : Affine) (k : ℤ) (g : Affine) → Blends s f k g → Blends (pos 1) (scaled s f) k g
scaled_blends s f k g b = record {
  konst = again_fits s f.konst k g.konst (s *ℤ f.konst) refl b.konst;
  coefs = λ j. again_fits s (coef j f) k (coef j g) (coef j (scaled s f)) (get_or-scaled s f.coefs j) (b.coefs j);
}

scaled_alike : (s : ℤ) (f : Affine) (k : ℤ) (g : Affine) → Alike (combined (pos 1) (scaled s f) k g) (combined s f k g)
scaled_alike s f k g = record {
  konst = sym (ap (λ z. z +ℤ k *ℤ g.konst) (once (s *ℤ f.konst)));
  coefs = λ j.
      get_or-mix s f.coefs k g.coefs j
      ∙ sym (get_or-mix (pos 1) (scaled s f).coefs k g.coefs j ∙ ap (λ z. z +ℤ k *ℤ coef j g) (once (coef j (scaled s f)) ∙ get_or-scaled s f.coefs j));
}

-- the three steps, one after the other
pub replaced_leads : (t u v w : TreePath) (start path : Conj) (names : List ℕ) (x y i j l : ℕ) (s k m n : ℤ) (f g : Affine) → n ≡ s *ℤ m → Fits s → Fits n
    → ((start path : Conj) (names : List ℕ) (m : ℤ) (f : Affine) → Reaches t start path → StandsAt names path x (Div m f) → s ≢ pos 0 → Fits (pos (unsigned_abs s)) → Fits (m *ℤ pos (unsigned_abs s)) → CanScale s f → Leads u start path names i (Div (m *ℤ pos (unsigned_abs s)) (scaled s f)))
    → ((start path : Conj) (names : List ℕ) (f : Affine) → Reaches u start path → StandsAt names path y (Eq f) → pos 1 ≤ℤ n → Leads v start path names j (Div n f))
    → ((start path : Conj) (names : List ℕ) (m : ℤ) (f g : Affine) → Reaches v start path → StandsAt names path i (Div m f) → StandsAt names path j (Div m g) → Blends (pos 1) f k g → Leads w start path names l (Div m (combined (pos 1) f k g)))
    → Reaches t start path → StandsAt names path x (Div m f) → StandsAt names path y (Eq g) → pos 1 ≤ℤ s → pos 1 ≤ℤ n → Blends s f k g → Leads w start path names l (Div (s *ℤ m) (combined s f k g))
replaced_leads t u v w start path names x y i j l s k m n f g e fs fn one two three h a b ls ln q =
    let p = one start path names m f h a (not_zero s ls) (rw (size_is s ls) fs) (rw (times_size s m ls, ← e) fn) (blends_scales s f k g q) in
    let r = two start p.further names g p.reaches (stands-on names path p.further y (Eq g) p.onto b) ln in
    let here : StandsAt names p.further i (Div n (scaled s f)) = rw (e, ← (times_size s m ls)) p.stands in
    let z = three start r.further names n (scaled s f) g r.reaches (stands-on names p.further r.further i (Div n (scaled s f)) r.onto here) r.stands (scaled_blends s f k g q) in
    record {
      further = z.further;
      reaches = z.reaches;
      onto = onto-again path p.further z.further p.onto (onto-again p.further r.further z.further r.onto z.onto);
      stands = rw (← e) (record { form = z.stands.form; at = z.stands.at; renames = renames-alike names (combined (pos 1) (scaled s f) k g) (combined s f k g) z.stands.form z.stands.renames (scaled_alike s f k g) });
    }

pub product_positive : (a b : ℤ) → pos 1 ≤ℤ a → pos 1 ≤ℤ b → pos 1 ≤ℤ (a *ℤ b)
product_positive (pos zero) b h k = absurd (omega (arith, ints))
product_positive (pos (suc a)) (pos zero) h k = absurd (omega (arith, ints))
product_positive (pos (suc a)) (pos (suc b)) h k = omega (arith, ints)
product_positive (pos a) (negsuc b) h k = absurd (omega (arith, ints))
product_positive (negsuc a) b h k = absurd (omega (arith, ints))
