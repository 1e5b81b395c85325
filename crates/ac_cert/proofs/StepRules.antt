-- Each step, and both branches, keeps each point.
use Rattle.std.proofs.Common.{◌≡◌, ℕ, ◌+◌, ◌≤◌, ℤ, pos, negsuc, ◌+ℤ◌, ◌-ℤ◌, ◌*ℤ◌, neg_ℤ, ◌≤ℤ◌, List, [], ◌∷◌, ◌++◌, length, Option, Some, None, true, ◌&&◌, nat_le, int_le, slice_get, ◌⊎◌, inl, inr, refl, sym, ap, ◌∙◌, subst, arith}
use Rattle.std.specs.Prelude.{option_map, ◌<ℤ◌}
use Rattle.std.specs.Int.{int_div_euclid}
use borrow.Author.Tests.{leb-true}
use Rattle.std.proofs.lemmas.Int.{ints, by_lt_z}
use Rattle.std.proofs.lemmas.List.{length-append, length-map}
use Rattle.ac_base.proofs.Floor.{floor_low, floor_high}
use Rattle.ac_base.proofs.Multiples.{multiple_from}
use Rattle.ac_base.proofs.Products.{neg-mul_ℤ}
use Rattle.ac_forms.specs.Affine.{Affine, value_at, shifted}
use Rattle.ac_forms.specs.Fits.{fits}
use Rattle.ac_forms.specs.Negation.{opposite, with_column}
use Rattle.ac_forms.specs.Rows.{Holds, IsRowOver, IsWellMade}
use Rattle.ac_forms.specs.RangeTests.{form_fits}
use Rattle.ac_forms.specs.declared.conj.Conj.{Conj}
use Rattle.ac_forms.specs.declared.row.Row.{Row}
use Rattle.ac_forms.specs.declared.row.Row.TheVariants.{Eq, Div, Ge}
use Rattle.ac_forms.proofs.Negations.{length-with_column, value-with_column}
use Rattle.ac_forms.proofs.Values.{value_at-scaled}
use Rattle.ac_omega_steps.specs.IntegerPoints.{IsPoint}
use Rattle.ac_base.proofs.Truths.{and-true, le-true}
use Rattle.ac_omega_steps.proofs.Keeping.{Meets-append, Meets-push, made-push, made-more, row-holds, row-made}
use Rattle.ac_base.proofs.Options.{bind-some, map-some, if-some, some-is}
use Rattle.ac_cert.specs.PointExtension.{Extends, Keeps}
use Rattle.std.specs.Prelude.{Result, Ok, Err, IfOk}
use Rattle.ac_forms.specs.FormStops.{GivenOf}
use Rattle.ac_cert.specs.CheckStops.{Refuses}
use Rattle.ac_cert.specs.declared.types.EndStop.{EndStop}
use Rattle.ac_cert.specs.declared.types.Rule.TheVariants as rule
use Rattle.ac_cert.specs.declared.types.Step.{Step}
use Rattle.ac_cert.specs.declared.types.Step.TheVariants.{Add, Cut, DivScale, DivAdd, DivMod, DivEq, Quot, Floor, EqCut}
use Rattle.ac_cert.specs.Rules.{rest_of, with_row, less_column, with_column_row, quotient, floor_of, after_step, rule_of, side_rows, both_sides, has_class, class, class_of}
use Rattle.ac_cert.proofs.RowRules.{follows-keeps, sum-follows, cut-follows, scale-follows, add-follows, mod-follows, eq-follows, eq_cut-follows, exact_quotient}

-- a further column and a row
pub less_column-is : (n : ℕ) (m : ℤ) (f g : Affine) → less_column n m f ≡ Some g → (pos 1 ≤ℤ m) × (length f.coefs ≤ n) × (g ≡ with_column n (neg_ℤ m) f)
unfolding less_column
less_column-is n m f g e =
    let a = if-some (int_le (pos 1) m && nat_le (length f.coefs) n) (Some (with_column n (neg_ℤ m) f)) g e in
    let b = and-true (int_le (pos 1) m) (nat_le (length f.coefs) n) a.0 in
    (le-true (pos 1) m b.0, leb-true _ _ b.1, sym (some-is (with_column n (neg_ℤ m) f) g a.1))

column-keeps : (c : Conj) (r : Row) (x : List ℤ → ℤ) → IsWellMade c → IsRowOver (c.columns + 1) r → ((p : List ℤ) → IsPoint c p → Holds r (p ++ x p ∷ [])) → Keeps c (with_column_row c r)
column-keeps c r x w l h = record {
  made = made-push (c.columns + 1) c.rows r (made-more c.columns c.rows w) l;
  goes_on = λ p at. (
    p ++ x p ∷ [],
    (x p ∷ [], refl),
    record {
      long = omega (arith, length-append p (x p ∷ []), at.long);
      meets = Meets-push c.rows r (p ++ x p ∷ []) (Meets-append c.rows c.columns p (x p ∷ []) (omega (arith, at.long)) w at.meets) (h p at);
    },
  );
}

pub quotient-keeps : (c d : Conj) (i : ℕ) (o : Option Row) → IsWellMade c → slice_get c.rows i ≡ o → quotient c o ≡ Some d → Keeps c d
quotient-keeps c d i None w h e = absurd cc
quotient-keeps c d i (Some (Eq f)) w h e = absurd cc
quotient-keeps c d i (Some (Ge f)) w h e = absurd cc
quotient-keeps c d i (Some (Div m f)) w h e =
    let t = map-some (less_column c.columns m f) (λ g. with_column_row c (Eq g)) d e in
    let l = less_column-is c.columns m f t.0 t.1 in
    let is : d ≡ with_column_row c (Eq (with_column c.columns (neg_ℤ m) f)) = t.2 ∙ ap (λ (g : Affine). with_column_row c (Eq g)) l.2 in
    let r : Row = Eq (with_column c.columns (neg_ℤ m) f) in
    let row = row-made c.columns c.rows i (Div m f) w h in
    rw is (column-keeps c r (λ p. int_div_euclid (value_at f p) m) w (omega (arith, length-with_column c.columns (neg_ℤ m) f row.0), tt)
    (λ p at.
    let v = value-with_column c.columns (neg_ℤ m) f p (int_div_euclid (value_at f p) m) row.0 at.long in
    let q = exact_quotient m (value_at f p) row.1 (row-holds c.rows i p (Div m f) at.meets h) in
    let n = neg-mul_ℤ m (int_div_euclid (value_at f p) m) in
    omega (arith, ints, v, q, n)))

-- a number less a form
pub rest-is : (k : ℤ) (f g : Affine) → rest_of k f ≡ Some g → g ≡ shifted (opposite f) k
unfolding rest_of
rest-is k f g e = sym (some-is (shifted (opposite f) k) g (if-some (form_fits (opposite f) && fits ((opposite f).konst +ℤ k)) (Some (shifted (opposite f) k)) g e).1)

pub rest-value : (k : ℤ) (f g : Affine) (p : List ℤ) → rest_of k f ≡ Some g → value_at g p ≡ k -ℤ value_at f p
rest-value k f g p e =
    let v = ap (λ (x : Affine). value_at x p) (rest-is k f g e) in
    let s = value_at-scaled (negsuc 0) f p in
    omega (arith, ints, v, s)

pub rest_within : (k : ℤ) (f g : Affine) → rest_of k f ≡ Some g → length g.coefs ≡ length f.coefs
rest_within k f g e = ap (λ (x : Affine). length x.coefs) (rest-is k f g e) ∙ length-map f.coefs (λ (x : ℤ). negsuc 0 *ℤ x)

abbrev with_floor : Conj → ℤ → Affine → Affine → Conj
with_floor c m f g = with_row (with_column_row c (Ge (with_column c.columns (neg_ℤ m) f))) (Ge (with_column c.columns m g))

floor-point : (c : Conj) (m : ℤ) (f g : Affine) (p : List ℤ) → pos 1 ≤ℤ m → length f.coefs ≤ c.columns → rest_of (m -ℤ pos 1) f ≡ Some g → IsWellMade c → IsPoint c p → (q : List ℤ) × Extends p q × IsPoint (with_floor c m f g) q
floor-point c m f g p a l e w at =
    let x = int_div_euclid (value_at f p) m in
    let low = floor_low (value_at f p) m a in
    let high = floor_high (value_at f p) m a in
    let n = neg-mul_ℤ m x in
    let one = value-with_column c.columns (neg_ℤ m) f p x l at.long in
    let two = value-with_column c.columns m g p x (omega (arith, l, rest_within (m -ℤ pos 1) f g e)) at.long in
    let v = rest-value (m -ℤ pos 1) f g p e in
    let old = Meets-append c.rows c.columns p (x ∷ []) (omega (arith, at.long)) w at.meets in (
      p ++ x ∷ [],
      (x ∷ [], refl),
      record {
        long = omega (arith, length-append p (x ∷ []), at.long);
        meets = Meets-push (c.rows ++ Ge (with_column c.columns (neg_ℤ m) f) ∷ []) (Ge (with_column c.columns m g)) (p ++ x ∷ []) (Meets-push c.rows (Ge (with_column c.columns (neg_ℤ m) f)) (p ++ x ∷ []) old (omega (arith, ints, one, n, low))) (omega (arith, ints, two, v, high));
      },
    )

pub floor-keeps : (c d : Conj) (m : ℤ) (f : Affine) → IsWellMade c → floor_of c m f ≡ Some d → Keeps c d
unfolding floor_of
floor-keeps c d m f w e =
    let a = bind-some (less_column c.columns m f) (λ low. option_map (λ high. with_row (with_column_row c (Ge low)) (Ge (with_column c.columns m high))) (rest_of (m -ℤ pos 1) f)) d e in
    let b = less_column-is c.columns m f a.0 a.1 in
    let s = map-some (rest_of (m -ℤ pos 1) f) (λ high. with_row (with_column_row c (Ge a.0)) (Ge (with_column c.columns m high))) d a.2 in
    let is : d ≡ with_floor c m f s.0 = s.2 ∙ ap (λ (g : Affine). with_row (with_column_row c (Ge g)) (Ge (with_column c.columns m s.0))) b.2 in
    let l : length f.coefs ≤ c.columns = b.1 in
    let low : Row = Ge (with_column c.columns (neg_ℤ m) f) in
    let high : Row = Ge (with_column c.columns m s.0) in
    rw is (record {
      made = made-push (c.columns + 1) (c.rows ++ low ∷ []) high (made-push (c.columns + 1) c.rows low (made-more c.columns c.rows w) (omega (arith, length-with_column c.columns (neg_ℤ m) f l), tt)) (omega (arith, length-with_column c.columns m s.0 (omega (arith, l, rest_within (m -ℤ pos 1) f s.0 s.1))), tt);
      goes_on = λ p at. floor-point c m f s.0 p b.0 l s.1 w at;
    })

pub step-keeps : (s : Step) (c d : Conj) → after_step s c ≡ Some d → IsWellMade c → Keeps c d
unfolding after_step
step-keeps (Add ts) c d e w = follows-keeps c d _ w (sum-follows c ts w) e
step-keeps (Cut i g) c d e w = follows-keeps c d _ w (cut-follows c i g (slice_get c.rows i) w refl) e
step-keeps (DivScale i k) c d e w = follows-keeps c d _ w (scale-follows c i k (slice_get c.rows i) w refl) e
step-keeps (DivAdd i k j l) c d e w = follows-keeps c d _ w (add-follows c i k j l (slice_get c.rows i) (slice_get c.rows j) w refl refl) e
step-keeps (DivMod i g n f) c d e w = follows-keeps c d _ w (mod-follows c i g n f (slice_get c.rows i) w refl) e
step-keeps (DivEq i n) c d e w = follows-keeps c d _ w (eq-follows c i n (slice_get c.rows i) w refl) e
step-keeps (Quot i) c d e w = quotient-keeps c d i (slice_get c.rows i) w refl e
step-keeps (Floor m f) c d e w = floor-keeps c d m f w e
step-keeps (EqCut i j) c d e w = follows-keeps c d _ w (eq_cut-follows c i j (slice_get c.rows i) (slice_get c.rows j) w refl refl) e

-- both sides of a split
pub sides-keep : (f : Affine) (c a b : Conj) → both_sides f c ≡ Some (a, b) → IsWellMade c → IsWellMade a × IsWellMade b × ((p : List ℤ) → IsPoint c p → IsPoint a p ⊎ IsPoint b p)
unfolding side_rows
sides-keep f c a b e w =
    let o = map-some (side_rows f c.columns) (λ s. (with_row c s.0, with_row c s.1)) (a, b) e in
    let s = if-some (nat_le (length f.coefs) c.columns) (option_map (λ g. (Ge f, Ge g)) (rest_of (negsuc 0) f)) o.0 o.1 in
    let l : length f.coefs ≤ c.columns = leb-true _ _ s.0 in
    let t = map-some (rest_of (negsuc 0) f) (λ g. (Ge f, Ge g)) o.0 s.1 in
    let ea : a ≡ with_row c (Ge f) = ap (λ (x : Conj × Conj). x.0) o.2 ∙ ap (λ (x : Row × Row). with_row c x.0) t.2 in
    let eb : b ≡ with_row c (Ge t.0) = ap (λ (x : Conj × Conj). x.1) o.2 ∙ ap (λ (x : Row × Row). with_row c x.1) t.2 in
    rw (ea, eb) (
      made-push c.columns c.rows (Ge f) w (l, tt),
      made-push c.columns c.rows (Ge t.0) w (omega (arith, l, rest_within (negsuc 0) f t.0 t.1), tt),
      λ p at. by_lt_z (value_at f p) (pos 0)
          (λ less. inr (record { long = at.long; meets = Meets-push c.rows (Ge t.0) p at.meets (let v = rest-value (negsuc 0) f t.0 p t.1 in omega (arith, ints, v, less)) }))
          (λ most. inl (record { long = at.long; meets = Meets-push c.rows (Ge f) p at.meets most })),
    )

pub sides-made : (f : Affine) (c : Conj) (s : Row × Row) → side_rows f c.columns ≡ Some s → IsWellMade c → IsWellMade (with_row c s.0) × IsWellMade (with_row c s.1)
sides-made f c s e w =
    let k = sides-keep f c (with_row c s.0) (with_row c s.1) (ap (λ (x : Option (Row × Row)). option_map (λ (y : Row × Row). (with_row c y.0, with_row c y.1)) x) e) w in
    (k.0, k.1)

-- the classes of a residue branch
pub class-made : (m : ℤ) (f : Affine) (r : ℤ) (c : Conj) → has_class m f r c.columns ≡ true → IsWellMade c → IsWellMade (class m f r c)
unfolding has_class
class-made m f r c e w =
    let a = and-true (int_le (pos 1) m) (nat_le (length f.coefs) c.columns && fits (f.konst -ℤ r)) e in
    let b = and-true (nat_le (length f.coefs) c.columns) (fits (f.konst -ℤ r)) a.1 in
    made-push c.columns c.rows (Div m (shifted f (neg_ℤ r))) w (leb-true _ _ b.0, le-true (pos 1) m a.0)

pub class-fits : (m : ℤ) (f : Affine) (r : ℤ) (columns : ℕ) → has_class m f r columns ≡ true → fits (f.konst -ℤ r) ≡ true
unfolding has_class
class-fits m f r columns e =
    let a = and-true (int_le (pos 1) m) (nat_le (length f.coefs) columns && fits (f.konst -ℤ r)) e in
    (and-true (nat_le (length f.coefs) columns) (fits (f.konst -ℤ r)) a.1).1

pub class-over : (m : ℤ) (f : Affine) (r : ℤ) (c : Conj) → pos 1 ≤ℤ m → nat_le (length f.coefs) c.columns ≡ true → IsWellMade c → IsWellMade (class m f r c)
class-over m f r c a l w = made-push c.columns c.rows (Div m (shifted f (neg_ℤ r))) w (leb-true _ _ l, a)

-- a point is in the class of its value's remainder
pub class-point : (m : ℤ) (f : Affine) (c : Conj) (p : List ℤ) → pos 1 ≤ℤ m → IsPoint c p → IsPoint (class m f (value_at f p -ℤ m *ℤ int_div_euclid (value_at f p) m) c) p
class-point m f c p a at =
    let r = value_at f p -ℤ m *ℤ int_div_euclid (value_at f p) m in
    record {
      long = at.long;
      meets = Meets-push c.rows (Div m (shifted f (neg_ℤ r))) p at.meets (multiple_from m (value_at (shifted f (neg_ℤ r)) p) (int_div_euclid (value_at f p) m) (omega (arith, ints)));
    }

-- the remainder of a point's value is the number of its class
pub class-some : (m : ℤ) (f : Affine) (c : Conj) → pos 1 ≤ℤ m → (p : List ℤ) → IsPoint c p → (s : ℤ) × (pos 0 ≤ℤ s) × (s <ℤ m) × IsPoint (class m f s c) p
class-some m f c a p at =
    let low = floor_low (value_at f p) m a in
    let high = floor_high (value_at f p) m a in
    (value_at f p -ℤ m *ℤ int_div_euclid (value_at f p) m, omega (arith, ints, low), omega (arith, ints, high), class-point m f c p a at)

-- the same of the answers of calls
pub apply-keeps : (s : Step) (c : Conj) (r : Result Conj EndStop) → GivenOf r (Refuses (rule_of s)) (after_step s c) → IsWellMade c → IfOk r (λ d. Keeps c d)
apply-keeps s c (Ok d) h w = step-keeps s c d h w
apply-keeps s c (Err e) h w = tt

pub split-made : (f : Affine) (c : Conj) (r : Result (Conj × Conj) EndStop) → GivenOf r (Refuses rule.Split) (both_sides f c) → IsWellMade c → IfOk r (λ both. IsWellMade both.0 × IsWellMade both.1)
split-made f c (Ok d) h w = let k = sides-keep f c d.0 d.1 h w in (k.0, k.1)
split-made f c (Err e) h w = tt

pub split-keeps : (f : Affine) (c : Conj) (r : Result (Conj × Conj) EndStop) → GivenOf r (Refuses rule.Split) (both_sides f c) → IsWellMade c → IfOk r (λ both. (p : List ℤ) → IsPoint c p → IsPoint both.0 p ⊎ IsPoint both.1 p)
split-keeps f c (Ok d) h w = (sides-keep f c d.0 d.1 h w).2
split-keeps f c (Err e) h w = tt

pub residue-made : (m : ℤ) (f : Affine) (i : ℤ) (c : Conj) (r : Result Conj EndStop) → GivenOf r (Refuses rule.Residue) (class_of m f i c) → IsWellMade c → IfOk r (λ d. IsWellMade d)
residue-made m f i c (Ok d) h w =
    let a = if-some (has_class m f i c.columns) (Some (class m f i c)) d h in
    subst (λ (x : Conj). IsWellMade x) (some-is (class m f i c) d a.1) (class-made m f i c a.0 w)
residue-made m f i c (Err e) h w = tt
