-- Each of the nine rules, and both branches, keeps each point.
use Rattle.std.proofs.Common.{◌≡◌, ℕ, zero, suc, ◌<◌, ◌≤◌, ℤ, pos, negsuc, ◌+ℤ◌, ◌-ℤ◌, ◌*ℤ◌, neg_ℤ, ◌≤ℤ◌, List, [], ◌∷◌, length, append-nil, Option, Some, None, Bool, true, false, ◌&&◌, cond, nat_le, nat_eq, int_le, slice_get, refl, sym, ap, ◌∙◌, subst, arith}
use Rattle.std.specs.Prelude.{option_and_then, option_map, unsigned_abs}
use Rattle.std.specs.Int.{int_div_euclid}
use Rattle.std.specs.Ordering.{int_eq}
use Rattle.std.proofs.lemmas.Bool.Decides.{Decides-int_eq}
use borrow.Author.Tests.{leb-true}
use Rattle.std.proofs.lemmas.Int.{ints}
use Rattle.std.proofs.lemmas.List.{length-map}
use Rattle.ac_base.specs.Dot.{dot, floored}
use Rattle.ac_base.specs.Gcd.{DividesEach}
use Rattle.ac_base.specs.Multiple.{IsMultiple, divides}
use Rattle.ac_base.proofs.Divisors.{divides-true}
use Rattle.ac_base.proofs.Floor.{positive_is, floor_exact, cut_both, dot-floored}
use Rattle.ac_base.proofs.Ring.{ring_steps, same_diff, by_diff_3, by_diff_4}
use Rattle.ac_base.proofs.Multiples.{multiple_from, multiple_add}
use Rattle.ac_base.proofs.Products.{mul-add_ℤ, mul_assoc_ℤ, nonneg-mul_ℤ, neg-mul_ℤ, le_of_mul-le_ℤ}
use Rattle.ac_forms.specs.Affine.{Affine, value_at, scaled}
use Rattle.ac_forms.specs.Fits.{fits}
use Rattle.ac_forms.specs.Rows.{Holds, Meets, IsRowOver, AreRowsOver, IsWellMade}
use Rattle.ac_forms.specs.RangeTests.{form_fits}
use Rattle.ac_forms.specs.declared.conj.Conj.{Conj}
use Rattle.ac_forms.specs.declared.row.Row.{Row}
use Rattle.ac_forms.specs.declared.row.Row.TheVariants.{Eq, Div, Ge}
use Rattle.ac_forms.proofs.Values.{value_at-scaled}
use Rattle.ac_omega_steps.specs.Combination.{combination}
use Rattle.ac_base.proofs.Truths.{and-true, le-true}
use Rattle.ac_omega_steps.proofs.Keeping.{Meets-push, made-push, row-holds, row-made, combination-within, combination-value}
use Rattle.ac_base.proofs.Options.{bind-some, map-some, if-some, unless-some, some-is}
use Rattle.ac_cert.specs.AbsurdLaw.{no_terms}
use Rattle.ac_cert.specs.PointExtension.{Keeps}
use Rattle.ac_cert.specs.Rules.{multiple_of, with_row, term_form, sum_from, is_equality, are_equalities, zero_form, sum_row, divides_each, quotient_form, cut_row, greater_modulus, div_scale_row, div_add_row, div_mod_stands, divides_form, reduced_row, div_mod_row, div_eq_row, all_zero, is_zero, eq_cut_row}
use Rattle.ac_cert.proofs.Stands.{product_positive}

-- a further row that holds wherever the rows do
pub keeps-push : (c : Conj) (r : Row) → IsWellMade c → IsRowOver c.columns r → ((p : List ℤ) → Meets c.rows p → Holds r p) → Keeps c (with_row c r)
keeps-push c r w l h = record {
  made = made-push c.columns c.rows r w l;
  goes_on = λ p at. (p, ([], sym (append-nil p)), record { long = at.long; meets = Meets-push c.rows r p at.meets (h p at.meets) });
}

-- a row that is given, and holds wherever the rows do
abbrev pub Follows : Conj → Option Row → Type 0
Follows c o = (r : Row) → o ≡ Some r → IsRowOver c.columns r × ((p : List ℤ) → Meets c.rows p → Holds r p)

pub follows-keeps : (c d : Conj) (o : Option Row) → IsWellMade c → Follows c o → option_map (with_row c) o ≡ Some d → Keeps c d
follows-keeps c d o w f e =
    let s = map-some o (with_row c) d e in
    let r = f s.0 s.1 in
    rw s.2 (keeps-push c s.0 w r.0 r.1)

-- sums
record Summed (n : ℕ) (rows : List Row) (s g : Affine) (equal : Bool) : Type 0 where
  within : length s.coefs ≤ n → length g.coefs ≤ n
  at_least : (p : List ℤ) → Meets rows p → pos 0 ≤ℤ value_at s p → pos 0 ≤ℤ value_at g p
  zero_at : equal ≡ true → (p : List ℤ) → Meets rows p → value_at s p ≡ pos 0 → value_at g p ≡ pos 0

-- a term's form is a row's, and its multiple is not negative, and 0 for an equality
record Term (n : ℕ) (rows : List Row) (l : ℤ) (f : Affine) (equal : Bool) : Type 0 where
  within : length f.coefs ≤ n
  at_least : (p : List ℤ) → Meets rows p → pos 0 ≤ℤ (l *ℤ value_at f p)
  zero_at : equal ≡ true → (p : List ℤ) → Meets rows p → (l *ℤ value_at f p) ≡ pos 0

times-zero : (l v : ℤ) → v ≡ pos 0 → l *ℤ v ≡ pos 0
times-zero l v e = rw e (omega (arith, ints))

term-is : (n : ℕ) (rows : List Row) (i : ℕ) (l : ℤ) (f : Affine) (o : Option Row) → AreRowsOver n rows → slice_get rows i ≡ o → term_form l o ≡ Some f → Term n rows l f (is_equality o)
term-is n rows i l f None w e h = absurd cc
term-is n rows i l f (Some (Div m g)) w e h = absurd cc
term-is n rows i l f (Some (Eq g)) w e h =
    let is = some-is g f h in
    rw (← is) (record {
      within = (row-made n rows i (Eq g) w e).0;
      at_least = λ p m. let z = times-zero l (value_at g p) (row-holds rows i p (Eq g) m e) in omega (arith, ints, z);
      zero_at = λ t p m. times-zero l (value_at g p) (row-holds rows i p (Eq g) m e);
    })
term-is n rows i l f (Some (Ge g)) w e h =
    let t = if-some (int_le (pos 0) l) (Some g) f h in
    let is = some-is g f t.1 in
    rw (← is) (record {
      within = (row-made n rows i (Ge g) w e).0;
      at_least = λ p m. nonneg-mul_ℤ l (value_at g p) (le-true (pos 0) l t.0) (row-holds rows i p (Ge g) m e);
      zero_at = λ t. absurd cc;
    })

sum-is : (n : ℕ) (rows : List Row) (s : Affine) (ts : List (ℕ × ℤ)) (g : Affine) → AreRowsOver n rows → sum_from s ts rows ≡ Some g → Summed n rows s g (are_equalities ts rows)
sum-is n rows s [] g w e =
    let is = some-is s g e in
    rw (← is) (record { within = λ h. h; at_least = λ p m h. h; zero_at = λ t p m h. h })
sum-is n rows s (t ∷ ts) g w e =
    let a = bind-some (term_form t.1 (slice_get rows t.0)) (λ f. option_and_then (λ s. sum_from s ts rows) (combination (pos 1) s t.1 f)) g e in
    let b = bind-some (combination (pos 1) s t.1 a.0) (λ s. sum_from s ts rows) g a.2 in
    let term = term-is n rows t.0 t.1 a.0 (slice_get rows t.0) w refl a.1 in
    let rest = sum-is n rows b.0 ts g w b.2 in
    record {
      within = λ h. rest.within (combination-within (pos 1) s t.1 a.0 b.0 n b.1 h term.within);
      at_least = λ p m h. rest.at_least p m (let v = combination-value (pos 1) s t.1 a.0 b.0 p b.1 in let u = term.at_least p m in omega (arith, ints, v, u, h));
      zero_at = λ q p m h. let both = and-true (is_equality (slice_get rows t.0)) (are_equalities ts rows) q in
          rest.zero_at both.1 p m (let v = combination-value (pos 1) s t.1 a.0 b.0 p b.1 in let u = term.zero_at both.0 p m in omega (arith, ints, v, u, h));
    }

sum-kind : (c : Conj) (g : Affine) (equal : Bool) (r : Row) → Summed c.columns c.rows zero_form g equal → r ≡ cond equal (Eq g) (Ge g) → IsRowOver c.columns r × ((p : List ℤ) → Meets c.rows p → Holds r p)
sum-kind c g true r s e = rw e ((s.within (omega arith), tt), (λ p m. s.zero_at refl p m refl))
sum-kind c g false r s e = rw e ((s.within (omega arith), tt), (λ p m. s.at_least p m (omega (arith, ints))))

pub sum-follows : (c : Conj) (ts : List (ℕ × ℤ)) → IsWellMade c → Follows c (sum_row ts c.rows)
unfolding sum_row
sum-follows c ts w r e =
    let a = unless-some (nat_eq (length ts) 0) (option_map (λ f. cond (are_equalities ts c.rows) (Eq f) (Ge f)) (sum_from zero_form ts c.rows)) r e in
    let b = map-some (sum_from zero_form ts c.rows) (λ f. cond (are_equalities ts c.rows) (Eq f) (Ge f)) r a.1 in
    sum-kind c b.0 (are_equalities ts c.rows) r (sum-is c.columns c.rows zero_form ts b.0 w b.1) b.2

-- cuts
each-divides : (g : ℤ) (cs : List ℤ) → divides_each g cs ≡ true → DividesEach (unsigned_abs g) cs
each-divides g [] e = tt
each-divides g (c ∷ cs) e =
    let b = and-true (divides (unsigned_abs g) c) (divides_each g cs) e in
    (divides-true (unsigned_abs g) c b.0, each-divides g cs b.1)

pub cut-follows : (c : Conj) (i : ℕ) (g : ℤ) (o : Option Row) → IsWellMade c → slice_get c.rows i ≡ o → Follows c (cut_row g o)
cut-follows c i g None w h r e = absurd cc
cut-follows c i g (Some (Eq f)) w h r e = absurd cc
cut-follows c i g (Some (Div m f)) w h r e = absurd cc
cut-follows c i g (Some (Ge f)) w h r e =
    let a = if-some (int_le (pos 1) g && divides_each g f.coefs) (Some (Ge (quotient_form g f))) r e in
    let b = and-true (int_le (pos 1) g) (divides_each g f.coefs) a.0 in
    let is = some-is (Ge (quotient_form g f)) r a.1 in
    let row = row-made c.columns c.rows i (Ge f) w h in
    rw (← is) ((omega (arith, row.0, length-map f.coefs (λ (x : ℤ). int_div_euclid x g)), tt), (λ p m. (cut_both g f.coefs p f.konst (le-true (pos 1) g b.0) (each-divides g f.coefs b.1)).0 (row-holds c.rows i p (Ge f) m h)))

-- divisibilities
-- a multiple is the modulus times its quotient
pub exact_quotient : (m z : ℤ) → pos 1 ≤ℤ m → IsMultiple m z → z ≡ m *ℤ int_div_euclid z m
exact_quotient m z a h = let k = positive_is m a in rw k.2 (floor_exact z k.0 k.1 (rw k.2 at h))

pub multiple-is : (k : ℤ) (f g : Affine) → multiple_of k f ≡ Some g → g ≡ scaled k f
unfolding multiple_of
multiple-is k f g e = sym (some-is (scaled k f) g (if-some (form_fits (scaled k f)) (Some (scaled k f)) g e).1)

pub modulus-is : (m k n : ℤ) → greater_modulus m k ≡ Some n → n ≡ m *ℤ pos (unsigned_abs k)
unfolding greater_modulus
modulus-is m k n e = sym (some-is (m *ℤ pos (unsigned_abs k)) n (if-some (fits (pos (unsigned_abs k)) && fits (m *ℤ pos (unsigned_abs k))) (Some (m *ℤ pos (unsigned_abs k))) n e).1)

by_factor : (k m q : ℤ) → k *ℤ (m *ℤ q) ≡ (m *ℤ k) *ℤ q
by_factor = by_diff_3 (λ k m q. k *ℤ (m *ℤ q) ≡ (m *ℤ k) *ℤ q) (λ a a' b b' c c'. simp ring_steps (same_diff _ _ _ _ (omega arith)))

by_opposite : (k m q : ℤ) → neg_ℤ k *ℤ (m *ℤ q) ≡ (m *ℤ k) *ℤ neg_ℤ q
by_opposite = by_diff_3 (λ k m q. neg_ℤ k *ℤ (m *ℤ q) ≡ (m *ℤ k) *ℤ neg_ℤ q) (λ a a' b b' c c'. simp ring_steps (same_diff _ _ _ _ (omega arith)))

scaled-multiple : (m k v q : ℤ) → v ≡ m *ℤ q → IsMultiple (m *ℤ pos (unsigned_abs k)) (k *ℤ v)
scaled-multiple m (pos n) v q e = multiple_from (m *ℤ pos n) (pos n *ℤ v) q (rw e (by_factor (pos n) m q))
scaled-multiple m (negsuc n) v q e = multiple_from (m *ℤ pos (suc n)) (negsuc n *ℤ v) (neg_ℤ q) (rw e (by_opposite (pos (suc n)) m q))

size-positive : (k : ℤ) → int_eq k (pos 0) ≡ false → 0 < unsigned_abs k
size-positive (pos zero) e = absurd cc
size-positive (pos (suc n)) e = omega arith
size-positive (negsuc n) e = omega arith

pub scale-follows : (c : Conj) (i : ℕ) (k : ℤ) (o : Option Row) → IsWellMade c → slice_get c.rows i ≡ o → Follows c (div_scale_row k o)
scale-follows c i k None w h r e = absurd cc
scale-follows c i k (Some (Eq f)) w h r e = absurd cc
scale-follows c i k (Some (Ge f)) w h r e = absurd cc
scale-follows c i k (Some (Div m f)) w h r e =
    let a = unless-some (int_eq k (pos 0)) (option_and_then (λ n. option_map (λ g. Div n g) (multiple_of k f)) (greater_modulus m k)) r e in
    let b = bind-some (greater_modulus m k) (λ n. option_map (λ g. Div n g) (multiple_of k f)) r a.1 in
    let d = map-some (multiple_of k f) (λ g. Div b.0 g) r b.2 in
    let row = row-made c.columns c.rows i (Div m f) w h in
    let n = modulus-is m k b.0 b.1 in
    let g = multiple-is k f d.0 d.1 in
    let at : (p : List ℤ) → Meets c.rows p → IsMultiple (m *ℤ pos (unsigned_abs k)) (value_at (scaled k f) p) =
    λ p t. subst (λ (v : ℤ). IsMultiple (m *ℤ pos (unsigned_abs k)) v) (sym (value_at-scaled k f p)) (scaled-multiple m k (value_at f p) (int_div_euclid (value_at f p) m) (exact_quotient m (value_at f p) row.1 (row-holds c.rows i p (Div m f) t h))) in
    let is : r ≡ Div (m *ℤ pos (unsigned_abs k)) (scaled k f) = d.2 ∙ ap (λ (x : ℤ). Div x d.0) n ∙ ap (λ (x : Affine). Div (m *ℤ pos (unsigned_abs k)) x) g in
    rw is ((omega (arith, row.0, length-map f.coefs (λ (x : ℤ). k *ℤ x)), product_positive m (pos (unsigned_abs k)) row.1 (omega (arith, ints, size-positive k a.0))), at)

pub add-follows : (c : Conj) (i : ℕ) (k : ℤ) (j : ℕ) (l : ℤ) (o s : Option Row) → IsWellMade c → slice_get c.rows i ≡ o → slice_get c.rows j ≡ s → Follows c (div_add_row k o l s)
add-follows c i k j l None s w h g r e = absurd cc
add-follows c i k j l (Some (Eq f)) s w h g r e = absurd cc
add-follows c i k j l (Some (Ge f)) s w h g r e = absurd cc
add-follows c i k j l (Some (Div m f)) None w h g r e = absurd cc
add-follows c i k j l (Some (Div m f)) (Some (Eq t)) w h g r e = absurd cc
add-follows c i k j l (Some (Div m f)) (Some (Ge t)) w h g r e = absurd cc
add-follows c i k j l (Some (Div m f)) (Some (Div n t)) w h g r e =
    let a = if-some (int_eq m n) (option_map (λ x. Div m x) (combination k f l t)) r e in
    let b = map-some (combination k f l t) (λ x. Div m x) r a.1 in
    let same = (Decides-int_eq m n).0 a.0 in
    let one = row-made c.columns c.rows i (Div m f) w h in
    let two = row-made c.columns c.rows j (Div n t) w g in
    rw b.2 ((combination-within k f l t b.0 c.columns b.1 one.0 two.0, one.1), (λ p met. subst (λ (v : ℤ). IsMultiple m v) (sym (combination-value k f l t b.0 p b.1)) (multiple_add m k (value_at f p) l (value_at t p) (row-holds c.rows i p (Div m f) met h) (subst (λ (x : ℤ). IsMultiple x (value_at t p)) (sym same) (row-holds c.rows j p (Div n t) met g)))))

pub eq-follows : (c : Conj) (i : ℕ) (n : ℤ) (o : Option Row) → IsWellMade c → slice_get c.rows i ≡ o → Follows c (div_eq_row n o)
eq-follows c i n None w h r e = absurd cc
eq-follows c i n (Some (Ge f)) w h r e = absurd cc
eq-follows c i n (Some (Div m f)) w h r e = absurd cc
eq-follows c i n (Some (Eq f)) w h r e =
    let a = if-some (int_le (pos 1) n) (Some (Div n f)) r e in
    let is = some-is (Div n f) r a.1 in
    let row = row-made c.columns c.rows i (Eq f) w h in
    rw (← is) ((row.0, le-true (pos 1) n a.0), (λ p m. multiple_from n (value_at f p) (pos 0) (let z = row-holds c.rows i p (Eq f) m h in omega (arith, ints, z))))

-- the difference of multiples, divided
cancel_factor : (g : ℕ) (a b : ℤ) → 0 < g → pos g *ℤ a ≡ pos g *ℤ b → a ≡ b
cancel_factor g a b s e =
    let l = le_of_mul-le_ℤ g a b s (omega (arith, ints, e)) in
    let m = le_of_mul-le_ℤ g b a s (omega (arith, ints, e)) in
    omega (arith, ints, l, m)

difference : (g n a b : ℤ) → (g *ℤ n) *ℤ a -ℤ (g *ℤ n) *ℤ b ≡ g *ℤ (n *ℤ (a -ℤ b))
difference = by_diff_4 (λ g n a b. (g *ℤ n) *ℤ a -ℤ (g *ℤ n) *ℤ b ≡ g *ℤ (n *ℤ (a -ℤ b))) (λ a a' b b' c c' d d'. simp ring_steps (same_diff _ _ _ _ (omega arith)))

reduced : (g : ℕ) (n v f a b d : ℤ) → 0 < g → v ≡ (pos g *ℤ n) *ℤ a → d ≡ (pos g *ℤ n) *ℤ b → d ≡ pos 1 *ℤ v +ℤ neg_ℤ (pos g) *ℤ f → f ≡ n *ℤ (a -ℤ b)
reduced g n v f a b d s e h is =
    cancel_factor g f (n *ℤ (a -ℤ b)) s (let t = difference (pos g) n a b in let u = neg-mul_ℤ (pos g) f in omega (arith, ints, e, h, is, t, u))

form-multiple : (k : ℕ) (f : Affine) (p : List ℤ) → 0 < k → divides_form (pos k) f ≡ true → (q : ℤ) × (value_at f p ≡ pos k *ℤ q)
form-multiple k f p s e =
    let b = and-true (divides (unsigned_abs (pos k)) f.konst) (divides_each (pos k) f.coefs) e in
    let x = dot-floored k f.coefs p s (each-divides (pos k) f.coefs b.1) in
    let y = floor_exact f.konst k s (divides-true k f.konst b.0) in
    (dot (floored (pos k) f.coefs) p +ℤ int_div_euclid f.konst (pos k), let z = mul-add_ℤ (pos k) (dot (floored (pos k) f.coefs) p) (int_div_euclid f.konst (pos k)) in omega (arith, ints, x, y, z))

record Stands (columns : ℕ) (g n m : ℤ) (f : Affine) : Type 0 where
  g_positive : pos 1 ≤ℤ g
  n_positive : pos 1 ≤ℤ n
  within : length f.coefs ≤ columns
  modulus : IsMultiple (g *ℤ n) m

stands-are : (columns : ℕ) (g n m : ℤ) (f : Affine) → div_mod_stands columns g n m f ≡ true → Stands columns g n m f
unfolding div_mod_stands
stands-are columns g n m f e =
    let a = and-true (int_le (pos 1) g) (int_le (pos 1) n && (nat_le (length f.coefs) columns && (fits (g *ℤ n) && divides (unsigned_abs (g *ℤ n)) m))) e in
    let b = and-true (int_le (pos 1) n) (nat_le (length f.coefs) columns && (fits (g *ℤ n) && divides (unsigned_abs (g *ℤ n)) m)) a.1 in
    let c = and-true (nat_le (length f.coefs) columns) (fits (g *ℤ n) && divides (unsigned_abs (g *ℤ n)) m) b.1 in
    let d = and-true (fits (g *ℤ n)) (divides (unsigned_abs (g *ℤ n)) m) c.1 in
    record { g_positive = le-true (pos 1) g a.0; n_positive = le-true (pos 1) n b.0; within = leb-true _ _ c.0; modulus = divides-true (unsigned_abs (g *ℤ n)) m d.1 }

mod-divides : (g n m : ℤ) (e f d : Affine) (p : List ℤ) → pos 1 ≤ℤ g → pos 1 ≤ℤ n → pos 1 ≤ℤ m → IsMultiple (g *ℤ n) m → combination (pos 1) e (neg_ℤ g) f ≡ Some d → divides_form (g *ℤ n) d ≡ true → IsMultiple m (value_at e p) → IsMultiple n (value_at f p)
mod-divides g n m e f d p a b c h made div at =
    let k = positive_is (g *ℤ n) (product_positive g n a b) in
    let i = positive_is g a in
    let x = exact_quotient m (value_at e p) c at in
    let y = exact_quotient (g *ℤ n) m (product_positive g n a b) h in
    let q = int_div_euclid (value_at e p) m in
    let t = int_div_euclid m (g *ℤ n) in
    let z : value_at e p ≡ (g *ℤ n) *ℤ (t *ℤ q) = x ∙ ap (λ (w : ℤ). w *ℤ q) y ∙ mul_assoc_ℤ (g *ℤ n) t q in
    let s = form-multiple k.0 d p k.1 (subst (λ (w : ℤ). divides_form w d ≡ true) k.2 div) in
    let u : value_at d p ≡ (g *ℤ n) *ℤ s.0 = s.1 ∙ ap (λ (w : ℤ). w *ℤ s.0) (sym k.2) in
    let v = combination-value (pos 1) e (neg_ℤ g) f d p made in
    multiple_from n (value_at f p) (t *ℤ q -ℤ s.0)
    (reduced i.0 n (value_at e p) (value_at f p) (t *ℤ q) s.0 (value_at d p) i.1
    (z ∙ ap (λ (w : ℤ). (w *ℤ n) *ℤ (t *ℤ q)) i.2) (u ∙ ap (λ (w : ℤ). (w *ℤ n) *ℤ s.0) i.2) (v ∙ ap (λ (w : ℤ). pos 1 *ℤ value_at e p +ℤ neg_ℤ w *ℤ value_at f p) i.2))

pub mod-follows : (c : Conj) (i : ℕ) (g n : ℤ) (f : Affine) (o : Option Row) → IsWellMade c → slice_get c.rows i ≡ o → Follows c (div_mod_row c.columns g n f o)
mod-follows c i g n f None w h r e = absurd cc
mod-follows c i g n f (Some (Eq t)) w h r e = absurd cc
mod-follows c i g n f (Some (Ge t)) w h r e = absurd cc
mod-follows c i g n f (Some (Div m t)) w h r e =
    let a = if-some (div_mod_stands c.columns g n m f) (reduced_row g n f (combination (pos 1) t (neg_ℤ g) f)) r e in
    let b = bind-some (combination (pos 1) t (neg_ℤ g) f) (λ d. cond (divides_form (g *ℤ n) d) (Some (Div n f)) None) r a.1 in
    let d = if-some (divides_form (g *ℤ n) b.0) (Some (Div n f)) r b.2 in
    let is = some-is (Div n f) r d.1 in
    let s = stands-are c.columns g n m f a.0 in
    let row = row-made c.columns c.rows i (Div m t) w h in
    rw (← is) ((s.within, s.n_positive), (λ p met. mod-divides g n m t f b.0 p s.g_positive s.n_positive row.1 s.modulus b.1 d.0 (row-holds c.rows i p (Div m t) met h)))

-- opposite rows
pub zero-value : (f : Affine) (p : List ℤ) → is_zero f ≡ true → value_at f p ≡ pos 0
zero-value f p e =
    let b = and-true (all_zero f.coefs) (int_eq f.konst (pos 0)) e in
    let d = no_terms f.coefs p b.0 in
    let k : f.konst ≡ pos 0 = (Decides-int_eq f.konst (pos 0)).0 b.1 in
    omega (arith, ints, d, k)

pub eq_cut-follows : (c : Conj) (i j : ℕ) (o s : Option Row) → IsWellMade c → slice_get c.rows i ≡ o → slice_get c.rows j ≡ s → Follows c (eq_cut_row o s)
eq_cut-follows c i j None s w h g r e = absurd cc
eq_cut-follows c i j (Some (Eq f)) s w h g r e = absurd cc
eq_cut-follows c i j (Some (Div m f)) s w h g r e = absurd cc
eq_cut-follows c i j (Some (Ge f)) None w h g r e = absurd cc
eq_cut-follows c i j (Some (Ge f)) (Some (Eq t)) w h g r e = absurd cc
eq_cut-follows c i j (Some (Ge f)) (Some (Div m t)) w h g r e = absurd cc
eq_cut-follows c i j (Some (Ge f)) (Some (Ge t)) w h g r e =
    let a = bind-some (combination (pos 1) f (pos 1) t) (λ s. cond (is_zero s) (Some (Eq f)) None) r e in
    let b = if-some (is_zero a.0) (Some (Eq f)) r a.2 in
    let is = some-is (Eq f) r b.1 in
    let row = row-made c.columns c.rows i (Ge f) w h in
    rw (← is) (
      row,
      (λ p met.
          let v = combination-value (pos 1) f (pos 1) t a.0 p a.1 in
          let z = zero-value a.0 p b.0 in
          let x = row-holds c.rows i p (Ge f) met h in
          let y = row-holds c.rows j p (Ge t) met g in
          omega (arith, ints, v, z, x, y)),
    )
