-- A step, and a branch on rows, makes what its rule says.
use Rattle.std.proofs.Common.{◌≡◌, ◌↔◌, ℕ, zero, suc, ◌<◌, ◌≤◌, ◌&&◌, ℤ, pos, negsuc, neg_ℤ, ◌+ℤ◌, ◌-ℤ◌, ◌*ℤ◌, ◌≤ℤ◌, List, length, true, false, cond, Option, Some, None, int_le, nat_le, nat_eq, slice_get, refl, sym, ap, ◌∙◌, subst, arith}
use Rattle.std.specs.Prelude.{◌≢◌, option_and_then, option_map, unsigned_abs}
use Rattle.std.specs.Ordering.{int_eq}
use Rattle.std.proofs.lemmas.Bool.{false≢true, leb-true}
use Rattle.std.proofs.lemmas.Bool.Decides.{Decides-int_eq}
use Rattle.ac_base.specs.Multiple.{divides}
use Rattle.ac_base.proofs.Options.{bind-some, map-some, if-some, unless-some, some-is}
use Rattle.ac_base.proofs.Truths.{and-true, le-true, true-le, true-nat_le}
use Rattle.ac_forms.specs.Affine.{Affine, CanCombine, FormFits, combined, mix_numbers, scaled, shifted}
use Rattle.ac_forms.specs.Fits.{Fits, all_fit, fits}
use Rattle.ac_forms.specs.Negation.{below, opposite, with_column}
use Rattle.ac_forms.specs.RangeTests.{can_combine, form_fits}
use Rattle.ac_forms.specs.declared.conj.Conj.{Conj}
use Rattle.ac_forms.specs.declared.row.Row.{Row}
use Rattle.ac_forms.specs.declared.row.Row.TheVariants.{Eq, Div, Ge}
use Rattle.ac_forms.proofs.Twins.{all_fit-is, and-is, fits-is, form_fits-is}
use Rattle.ac_omega_steps.specs.Combination.{combination}
use Rattle.ac_omega_steps.proofs.Fitting.{true_fits}
use Rattle.ac_cert.specs.Rules.{after_step, are_equalities, both_sides, cut_row, div_add_row, div_eq_row, div_mod_row, div_mod_stands, div_scale_row, divides_each, divides_form, eq_cut_row, floor_of, greater_modulus, has_class, is_partition, is_zero, less_column, multiple_of, quotient, quotient_form, reduced_row, rest_of, side_rows, sum_from, sum_row, with_column_row, with_row, zero_form}
use Rattle.ac_cert.specs.declared.types.Step.{Step}
use Rattle.ac_cert.specs.declared.types.Step.TheVariants.{Add, Cut, DivScale, DivAdd, DivMod, DivEq, Quot, Floor, EqCut}
use Rattle.ac_cert.proofs.Equations.{add-row, cut-row, div_scale-row, div_add-row, div_mod-row, div_eq-row, quot-row, floor-rows, eq_cut-row, split-rows}
use Rattle.ac_cert.proofs.StepRules.{less_column-is}
use Rattle.ac_claims_valid.specs.StepRules.{Adds, add, cut, div_scale, div_add, div_mod, div_eq, quot, floor, eq_cut, CanSplit, IsPartition}

-- ---- numbers that stay in `i128`

modulus_parts : (m k n : ℤ) → greater_modulus m k ≡ Some n → Fits (pos (unsigned_abs k)) × Fits (m *ℤ pos (unsigned_abs k)) × (n ≡ m *ℤ pos (unsigned_abs k))
unfolding greater_modulus
modulus_parts m k n e =
    let a = if-some (fits (pos (unsigned_abs k)) && fits (m *ℤ pos (unsigned_abs k))) (Some (m *ℤ pos (unsigned_abs k))) n e in
    let b = and-true (fits (pos (unsigned_abs k))) (fits (m *ℤ pos (unsigned_abs k))) a.0 in
    (true_fits (pos (unsigned_abs k)) b.0, true_fits (m *ℤ pos (unsigned_abs k)) b.1, sym (some-is (m *ℤ pos (unsigned_abs k)) n a.1))

multiple_parts : (k : ℤ) (f g : Affine) → multiple_of k f ≡ Some g → FormFits (scaled k f) × (g ≡ scaled k f)
unfolding multiple_of
multiple_parts k f g e =
    let a = if-some (form_fits (scaled k f)) (Some (scaled k f)) g e in
    ((form_fits-is (scaled k f)).0 a.0, sym (some-is (scaled k f) g a.1))

combination_parts : (k : ℤ) (f : Affine) (l : ℤ) (g h : Affine) → combination k f l g ≡ Some h → CanCombine k f l g × (h ≡ combined k f l g)
unfolding combination
combination_parts k f l g h e =
    let mixed = mix_numbers k f.coefs l g.coefs in
    let x = k *ℤ f.konst in
    let y = l *ℤ g.konst in
    let a = if-some (can_combine k f l g) (Some (combined k f l g)) h e in
    let b = and-true (all_fit mixed) (fits x && (fits y && fits (x +ℤ y))) a.0 in
    let c = and-true (fits x) (fits y && fits (x +ℤ y)) b.1 in
    let d = and-true (fits y) (fits (x +ℤ y)) c.1 in
    (((all_fit-is mixed).0 b.0, (true_fits x c.0, true_fits y d.0, true_fits (x +ℤ y) d.1)), sym (some-is (combined k f l g) h a.1))

rest_parts : (k : ℤ) (f g : Affine) → rest_of k f ≡ Some g → FormFits (opposite f) × Fits ((opposite f).konst +ℤ k) × (g ≡ shifted (opposite f) k)
unfolding rest_of
rest_parts k f g e =
    let a = if-some (form_fits (opposite f) && fits ((opposite f).konst +ℤ k)) (Some (shifted (opposite f) k)) g e in
    let b = and-true (form_fits (opposite f)) (fits ((opposite f).konst +ℤ k)) a.0 in
    ((form_fits-is (opposite f)).0 b.0, true_fits ((opposite f).konst +ℤ k) b.1, sym (some-is (shifted (opposite f) k) g a.1))

stands_parts : (columns : ℕ) (g n m : ℤ) (f : Affine) → div_mod_stands columns g n m f ≡ true → (pos 1 ≤ℤ g) × (pos 1 ≤ℤ n) × (length f.coefs ≤ columns) × Fits (g *ℤ n) × (divides (unsigned_abs (g *ℤ n)) m ≡ true)
unfolding div_mod_stands
stands_parts columns g n m f e =
    let within = nat_le (length f.coefs) columns in
    let exact = divides (unsigned_abs (g *ℤ n)) m in
    let a = and-true (int_le (pos 1) g) (int_le (pos 1) n && (within && (fits (g *ℤ n) && exact))) e in
    let b = and-true (int_le (pos 1) n) (within && (fits (g *ℤ n) && exact)) a.1 in
    let c = and-true within (fits (g *ℤ n) && exact) b.1 in
    let d = and-true (fits (g *ℤ n)) exact c.1 in
    (le-true (pos 1) g a.0, le-true (pos 1) n b.0, leb-true (length f.coefs) columns c.0, true_fits (g *ℤ n) d.0, d.1)

not_zero : (k : ℤ) → int_eq k (pos 0) ≡ false → k ≢ pos 0
not_zero k e = λ is. false≢true (sym e ∙ (Decides-int_eq k (pos 0)).1 is)

some_terms : (n : ℕ) → nat_eq n 0 ≡ false → 0 < n
some_terms zero e = absurd (false≢true (sym e))
some_terms (suc n) e = omega arith

-- ---- what a step that stands adds

into_add : (c : Conj) (terms : List (ℕ × ℤ)) (r : Row) → sum_row terms c.rows ≡ Some r → Adds c (Add terms) (with_row c r)
unfolding sum_row
into_add c terms r e =
    let a = unless-some (nat_eq (length terms) 0) (option_map (λ f. cond (are_equalities terms c.rows) (Eq f) (Ge f)) (sum_from zero_form terms c.rows)) r e in
    let b = map-some (sum_from zero_form terms c.rows) (λ f. cond (are_equalities terms c.rows) (Eq f) (Ge f)) r a.1 in
    subst (λ (x : Row). Adds c (Add terms) (with_row c x)) (sym b.2) (add terms b.0 (some_terms (length terms) a.0) b.1)

into_cut : (c : Conj) (i : ℕ) (g : ℤ) (o : Option Row) (r : Row) → slice_get c.rows i ≡ o → cut_row g o ≡ Some r → Adds c (Cut i g) (with_row c r)
into_cut c i g None r h e = absurd cc
into_cut c i g (Some (Eq f)) r h e = absurd cc
into_cut c i g (Some (Div m f)) r h e = absurd cc
into_cut c i g (Some (Ge f)) r h e =
    let a = if-some (int_le (pos 1) g && divides_each g f.coefs) (Some (Ge (quotient_form g f))) r e in
    let b = and-true (int_le (pos 1) g) (divides_each g f.coefs) a.0 in
    subst (λ (x : Row). Adds c (Cut i g) (with_row c x)) (some-is (Ge (quotient_form g f)) r a.1) (cut i g f h (le-true (pos 1) g b.0) b.1)

into_scale : (c : Conj) (i : ℕ) (k : ℤ) (o : Option Row) (r : Row) → slice_get c.rows i ≡ o → div_scale_row k o ≡ Some r → Adds c (DivScale i k) (with_row c r)
into_scale c i k None r h e = absurd cc
into_scale c i k (Some (Eq f)) r h e = absurd cc
into_scale c i k (Some (Ge f)) r h e = absurd cc
into_scale c i k (Some (Div m f)) r h e =
    let a = unless-some (int_eq k (pos 0)) (option_and_then (λ n. option_map (λ g. Div n g) (multiple_of k f)) (greater_modulus m k)) r e in
    let b = bind-some (greater_modulus m k) (λ n. option_map (λ g. Div n g) (multiple_of k f)) r a.1 in
    let d = map-some (multiple_of k f) (λ g. Div b.0 g) r b.2 in
    let n = modulus_parts m k b.0 b.1 in
    let g = multiple_parts k f d.0 d.1 in
    let is : r ≡ Div (m *ℤ pos (unsigned_abs k)) (scaled k f) = d.2 ∙ ap (λ (x : ℤ). Div x d.0) n.2 ∙ ap (λ (x : Affine). Div (m *ℤ pos (unsigned_abs k)) x) g.1 in
    subst (λ (x : Row). Adds c (DivScale i k) (with_row c x)) (sym is) (div_scale i k m f h (not_zero k a.0) n.0 n.1 g.0)

into_div_add : (c : Conj) (i : ℕ) (k : ℤ) (j : ℕ) (l : ℤ) (o s : Option Row) (r : Row) → slice_get c.rows i ≡ o → slice_get c.rows j ≡ s → div_add_row k o l s ≡ Some r → Adds c (DivAdd i k j l) (with_row c r)
into_div_add c i k j l None s r h g e = absurd cc
into_div_add c i k j l (Some (Eq f)) s r h g e = absurd cc
into_div_add c i k j l (Some (Ge f)) s r h g e = absurd cc
into_div_add c i k j l (Some (Div m f)) None r h g e = absurd cc
into_div_add c i k j l (Some (Div m f)) (Some (Eq t)) r h g e = absurd cc
into_div_add c i k j l (Some (Div m f)) (Some (Ge t)) r h g e = absurd cc
into_div_add c i k j l (Some (Div m f)) (Some (Div n t)) r h g e =
    let a = if-some (int_eq m n) (option_map (λ x. Div m x) (combination k f l t)) r e in
    let b = map-some (combination k f l t) (λ x. Div m x) r a.1 in
    let same : m ≡ n = (Decides-int_eq m n).0 a.0 in
    let p = combination_parts k f l t b.0 b.1 in
    let is : r ≡ Div m (combined k f l t) = b.2 ∙ ap (λ (x : Affine). Div m x) p.1 in
    let at : slice_get c.rows j ≡ Some (Div m t) = g ∙ ap (λ (x : ℤ). Some (Div x t)) (sym same) in
    subst (λ (x : Row). Adds c (DivAdd i k j l) (with_row c x)) (sym is) (div_add i j k l m f t h at p.0)

into_div_mod : (c : Conj) (i : ℕ) (g n : ℤ) (f : Affine) (o : Option Row) (r : Row) → slice_get c.rows i ≡ o → div_mod_row c.columns g n f o ≡ Some r → Adds c (DivMod i g n f) (with_row c r)
into_div_mod c i g n f None r h e = absurd cc
into_div_mod c i g n f (Some (Eq t)) r h e = absurd cc
into_div_mod c i g n f (Some (Ge t)) r h e = absurd cc
into_div_mod c i g n f (Some (Div m t)) r h e =
    let a = if-some (div_mod_stands c.columns g n m f) (reduced_row g n f (combination (pos 1) t (neg_ℤ g) f)) r e in
    let b = bind-some (combination (pos 1) t (neg_ℤ g) f) (λ d. cond (divides_form (g *ℤ n) d) (Some (Div n f)) None) r a.1 in
    let d = if-some (divides_form (g *ℤ n) b.0) (Some (Div n f)) r b.2 in
    let s = stands_parts c.columns g n m f a.0 in
    let p = combination_parts (pos 1) t (neg_ℤ g) f b.0 b.1 in
    let exact : divides_form (g *ℤ n) (combined (pos 1) t (neg_ℤ g) f) ≡ true = subst (λ (x : Affine). divides_form (g *ℤ n) x ≡ true) p.1 d.0 in
    subst (λ (x : Row). Adds c (DivMod i g n f) (with_row c x)) (some-is (Div n f) r d.1) (div_mod i g n m t f h s.0 s.1 s.2 s.3 s.4 p.0 exact)

into_div_eq : (c : Conj) (i : ℕ) (n : ℤ) (o : Option Row) (r : Row) → slice_get c.rows i ≡ o → div_eq_row n o ≡ Some r → Adds c (DivEq i n) (with_row c r)
into_div_eq c i n None r h e = absurd cc
into_div_eq c i n (Some (Ge f)) r h e = absurd cc
into_div_eq c i n (Some (Div m f)) r h e = absurd cc
into_div_eq c i n (Some (Eq f)) r h e =
    let a = if-some (int_le (pos 1) n) (Some (Div n f)) r e in
    subst (λ (x : Row). Adds c (DivEq i n) (with_row c x)) (some-is (Div n f) r a.1) (div_eq i n f h (le-true (pos 1) n a.0))

into_quot : (c d : Conj) (i : ℕ) (o : Option Row) → slice_get c.rows i ≡ o → quotient c o ≡ Some d → Adds c (Quot i) d
into_quot c d i None h e = absurd cc
into_quot c d i (Some (Eq f)) h e = absurd cc
into_quot c d i (Some (Ge f)) h e = absurd cc
into_quot c d i (Some (Div m f)) h e =
    let t = map-some (less_column c.columns m f) (λ g. with_column_row c (Eq g)) d e in
    let l = less_column-is c.columns m f t.0 t.1 in
    let is : d ≡ with_column_row c (Eq (with_column c.columns (neg_ℤ m) f)) = t.2 ∙ ap (λ (g : Affine). with_column_row c (Eq g)) l.2 in
    subst (Adds c (Quot i)) (sym is) (quot i m f h l.0 l.1)

into_floor : (c d : Conj) (m : ℤ) (f : Affine) → floor_of c m f ≡ Some d → Adds c (Floor m f) d
unfolding floor_of
into_floor c d m f e =
    let a = bind-some (less_column c.columns m f) (λ low. option_map (λ high. with_row (with_column_row c (Ge low)) (Ge (with_column c.columns m high))) (rest_of (m -ℤ pos 1) f)) d e in
    let b = less_column-is c.columns m f a.0 a.1 in
    let s = map-some (rest_of (m -ℤ pos 1) f) (λ high. with_row (with_column_row c (Ge a.0)) (Ge (with_column c.columns m high))) d a.2 in
    let t = rest_parts (m -ℤ pos 1) f s.0 s.1 in
    let is : d ≡ with_row (with_column_row c (Ge (with_column c.columns (neg_ℤ m) f))) (Ge (with_column c.columns m (shifted (opposite f) (m -ℤ pos 1)))) =
    s.2 ∙ (λ i. with_row (with_column_row c (Ge (b.2 i))) (Ge (with_column c.columns m (t.2 i)))) in
    subst (Adds c (Floor m f)) (sym is) (floor m f b.0 b.1 t.0 t.1)

into_eq_cut : (c : Conj) (i j : ℕ) (o s : Option Row) (r : Row) → slice_get c.rows i ≡ o → slice_get c.rows j ≡ s → eq_cut_row o s ≡ Some r → Adds c (EqCut i j) (with_row c r)
into_eq_cut c i j None s r h g e = absurd cc
into_eq_cut c i j (Some (Eq f)) s r h g e = absurd cc
into_eq_cut c i j (Some (Div m f)) s r h g e = absurd cc
into_eq_cut c i j (Some (Ge f)) None r h g e = absurd cc
into_eq_cut c i j (Some (Ge f)) (Some (Eq t)) r h g e = absurd cc
into_eq_cut c i j (Some (Ge f)) (Some (Div m t)) r h g e = absurd cc
into_eq_cut c i j (Some (Ge f)) (Some (Ge t)) r h g e =
    let a = bind-some (combination (pos 1) f (pos 1) t) (λ s. cond (is_zero s) (Some (Eq f)) None) r e in
    let b = if-some (is_zero a.0) (Some (Eq f)) r a.2 in
    let p = combination_parts (pos 1) f (pos 1) t a.0 a.1 in
    let none : is_zero (combined (pos 1) f (pos 1) t) ≡ true = subst (λ (x : Affine). is_zero x ≡ true) p.1 b.0 in
    subst (λ (x : Row). Adds c (EqCut i j) (with_row c x)) (some-is (Eq f) r b.1) (eq_cut i j f t h g p.0 none)

into : (s : Step) (c d : Conj) → after_step s c ≡ Some d → Adds c s d
unfolding after_step
into (Add terms) c d e = let t = map-some (sum_row terms c.rows) (with_row c) d e in subst (Adds c (Add terms)) (sym t.2) (into_add c terms t.0 t.1)
into (Cut i g) c d e = let t = map-some (cut_row g (slice_get c.rows i)) (with_row c) d e in subst (Adds c (Cut i g)) (sym t.2) (into_cut c i g (slice_get c.rows i) t.0 refl t.1)
into (DivScale i k) c d e = let t = map-some (div_scale_row k (slice_get c.rows i)) (with_row c) d e in subst (Adds c (DivScale i k)) (sym t.2) (into_scale c i k (slice_get c.rows i) t.0 refl t.1)
into (DivAdd i k j l) c d e =
    let t = map-some (div_add_row k (slice_get c.rows i) l (slice_get c.rows j)) (with_row c) d e in
    subst (Adds c (DivAdd i k j l)) (sym t.2) (into_div_add c i k j l (slice_get c.rows i) (slice_get c.rows j) t.0 refl refl t.1)
into (DivMod i g n f) c d e =
    let t = map-some (div_mod_row c.columns g n f (slice_get c.rows i)) (with_row c) d e in
    subst (Adds c (DivMod i g n f)) (sym t.2) (into_div_mod c i g n f (slice_get c.rows i) t.0 refl t.1)
into (DivEq i n) c d e = let t = map-some (div_eq_row n (slice_get c.rows i)) (with_row c) d e in subst (Adds c (DivEq i n)) (sym t.2) (into_div_eq c i n (slice_get c.rows i) t.0 refl t.1)
into (Quot i) c d e = into_quot c d i (slice_get c.rows i) refl e
into (Floor m f) c d e = into_floor c d m f e
into (EqCut i j) c d e =
    let t = map-some (eq_cut_row (slice_get c.rows i) (slice_get c.rows j)) (with_row c) d e in
    subst (Adds c (EqCut i j)) (sym t.2) (into_eq_cut c i j (slice_get c.rows i) (slice_get c.rows j) t.0 refl refl t.1)

back : (s : Step) (c d : Conj) → Adds c s d → after_step s c ≡ Some d
back s c d (add terms f l e) = add-row c terms f l e
back s c d (cut i g f at a e) = cut-row c i g f at a e
back s c d (div_scale i k m f at n a b h) = div_scale-row c i k m f at n a b h
back s c d (div_add i j k l m e f at also h) = div_add-row c i j k l m e f at also h
back s c d (div_mod i g n m e f at a b l h t x y) = div_mod-row c i g n m e f at a b l h t x y
back s c d (div_eq i n f at a) = div_eq-row c i n f at a
back s c d (quot i m f at a l) = quot-row c i m f at a l
back s c d (floor m f a l h g) = floor-rows c m f a l h g
back s c d (eq_cut i j e f at also h z) = eq_cut-row c i j e f at also h z

pub step_law : (s : Step) (c d : Conj) → (after_step s c ≡ Some d) ↔ Adds c s d
step_law s c d = (into s c d, back s c d)

-- ---- branches on rows

pub sides_law : (f : Affine) (c : Conj) (sides : Conj × Conj) → both_sides f c ≡ Some sides → CanSplit f c × (sides ≡ (with_row c (Ge f), with_row c (Ge (below f))))
unfolding side_rows
sides_law f c sides e =
    let o = map-some (side_rows f c.columns) (λ (s : Row × Row). (with_row c s.0, with_row c s.1)) sides e in
    let a = if-some (nat_le (length f.coefs) c.columns) (option_map (λ (g : Affine). (Ge f, Ge g)) (rest_of (negsuc 0) f)) o.0 o.1 in
    let b = map-some (rest_of (negsuc 0) f) (λ (g : Affine). (Ge f, Ge g)) o.0 a.1 in
    let t = rest_parts (negsuc 0) f b.0 b.1 in
    let rows : o.0 ≡ (Ge f, Ge (below f)) = b.2 ∙ (λ i. (Ge f, Ge (t.2 i))) in
    (record { columns = leb-true (length f.coefs) c.columns a.0; opposite_fits = t.0; below_fits = t.1 }, o.2 ∙ (λ i. (with_row c (rows i).0, with_row c (rows i).1)))

pub law_sides : (f : Affine) (c : Conj) → CanSplit f c → both_sides f c ≡ Some (with_row c (Ge f), with_row c (Ge (below f)))
law_sides f c h = split-rows c f h.columns h.opposite_fits h.below_fits

pub partition_law : (m : ℤ) (f : Affine) (c : Conj) (count : ℕ) → (is_partition m f c.columns count ≡ true) ↔ IsPartition m f c count
unfolding is_partition has_class
partition_law m f c count =
    let last = f.konst -ℤ (m -ℤ pos 1) in
    let within = nat_le (length f.coefs) c.columns in
    let x = and-is {P = length f.coefs ≤ c.columns} {Q = Fits last} within (fits last) (leb-true (length f.coefs) c.columns, true-nat_le (length f.coefs) c.columns) (fits-is last) in
    let y = and-is {P = pos 1 ≤ℤ m} {Q = (length f.coefs ≤ c.columns) × Fits last} (int_le (pos 1) m) (within && fits last) (le-true (pos 1) m, true-le (pos 1) m) x in
    let z = and-is {P = m ≡ pos count} {Q = (pos 1 ≤ℤ m) × ((length f.coefs ≤ c.columns) × Fits last)} (int_eq m (pos count)) (int_le (pos 1) m && (within && fits last)) (Decides-int_eq m (pos count)) y in (
      (λ e. let t = z.0 e in record { children = t.0; positive = t.1.0; columns = t.1.1.0; last = t.1.1.1 }),
      (λ t. z.1 (t.children, (t.positive, (t.columns, t.last)))),
    )
