-- The classes of a residue branch, one by one.
use Rattle.std.proofs.Common.{◌≡◌, ℕ, suc, ◌+◌, ◌-◌, ◌<◌, ◌&&◌, ℤ, pos, negsuc, ◌≤ℤ◌, ◌-ℤ◌, int_le, nat_le, length, List, [], ◌∷◌, ◌++◌, Bool, true, false, refl, sym, ap, ◌∙◌, subst, arith}
use Rattle.std.specs.Prelude.{◌<ℤ◌, unsigned_abs, ◌+ℤ◌, Some, None, cond}
use Rattle.std.proofs.lemmas.Bool.Decides.{Decides-int_eq}
use Rattle.std.proofs.lemmas.Float.{T_from_true}
use Rattle.std.proofs.lemmas.Int.{ints}
use Rattle.std.specs.Int.Signed.{lt_z}
use Rattle.ac_forms.specs.Affine.{Affine}
use Rattle.ac_forms.specs.Fits.{fits}
use Rattle.ac_cert.proofs.Checks.{class-stands}
use Rattle.ac_base.proofs.Truths.{and-true, le-true}
use Rattle.ac_cert.specs.Rules.{class, class_row, has_class, is_partition}
use Rattle.ac_cert.specs.declared.types.Rule.TheVariants as rule
use Rattle.ac_claims_paths.specs.PathSteps.{Pairing, at_rows}
use Rattle.ac_claims_paths.specs.declared.path.Path.{Path}
use Rattle.ac_claims.specs.StackEntries.{AreClasses, classes_of}
use Rattle.ac_claims.specs.Machine.{Due, PlanAt, Onto, Refused, onto_if, classes, take_at}
use Rattle.ac_claims.specs.declared.entry.Classes.{Classes}
use Rattle.ac_claims.specs.declared.item.Item.TheVariants as item
use Rattle.ac_claims.specs.declared.types.Claim.{Claim}

-- a branch that stands
pub class_parts : (m : ℤ) (f : Affine) (r : ℤ) (columns : ℕ) → has_class m f r columns ≡ true → (pos 1 ≤ℤ m) × (nat_le (length f.coefs) columns ≡ true)
unfolding has_class
class_parts m f r columns e =
    let a = and-true (int_le (pos 1) m) (nat_le (length f.coefs) columns && fits (f.konst -ℤ r)) e in
    let b = and-true (nat_le (length f.coefs) columns) (fits (f.konst -ℤ r)) a.1 in
    (le-true (pos 1) m a.0, b.0)

pub class_below : (m : ℤ) (f : Affine) (columns : ℕ) → (pos 1 ≤ℤ m → ⊥) → has_class m f (m -ℤ pos 1) columns ≡ false
class_below m f columns n = by (has_class m f (m -ℤ pos 1) columns) refl
  where
    by : (b : Bool) → has_class m f (m -ℤ pos 1) columns ≡ b → b ≡ false
    by true e = absurd (n (class_parts m f (m -ℤ pos 1) columns e).0)
    by false e = refl

-- all classes are to come
pub are_classes : (columns : ℕ) (c : Classes) → has_class c.modulus c.form (c.modulus -ℤ pos 1) columns ≡ true → c.next ≡ pos 0 → AreClasses columns c
are_classes columns c e n = let l = (class_parts c.modulus c.form (c.modulus -ℤ pos 1) columns e).0 in record {
  last = e;
  low = subst (λ z. pos 0 ≤ℤ z) (sym n) (omega (arith, ints));
  high = subst (λ z. z <ℤ c.modulus) (sym n) (omega (arith, ints, l));
}

less_none : (n : ℕ) → n - 0 ≡ n
less_none n = omega arith

pub residue_taken : (g : Pairing) (cs : List Claim) (h : Path) (c : Classes) (k : ℕ) (due : List Due) → has_class c.modulus c.form (c.modulus -ℤ pos 1) h.conj.columns ≡ true → c.next ≡ pos 0
    → take_at g cs (item.Residue c.modulus c.form) k h due ≡ Onto (classes_of h c ++ due)
residue_taken g cs h c k due e z =
    let start : classes c.modulus c.form 0 (unsigned_abs c.modulus) h ≡ classes_of h c =
    (λ i. classes c.modulus c.form 0 (sym (less_none (unsigned_abs c.modulus)) i) h) ∙ (λ i. classes c.modulus c.form (unsigned_abs (sym z i)) (unsigned_abs c.modulus - unsigned_abs (sym z i)) h) in
    ap (λ b. onto_if b k rule.Residue (classes c.modulus c.form 0 (unsigned_abs c.modulus) h ++ due)) e
    ∙ ap (λ z. Onto (z ++ due)) start

pub residue_refused : (g : Pairing) (cs : List Claim) (m : ℤ) (f : Affine) (k : ℕ) (h : Path) (due : List Due) → has_class m f (m -ℤ pos 1) h.conj.columns ≡ false → take_at g cs (item.Residue m f) k h due ≡ Refused k rule.Residue
residue_refused g cs m f k h due e = ap (λ b. onto_if b k rule.Residue (classes m f 0 (unsigned_abs m) h ++ due)) e

-- the first of the classes stands
as_partition : (k : ℕ) (f : Affine) (columns : ℕ) → has_class (pos k) f (pos k -ℤ pos 1) columns ≡ true → is_partition (pos k) f columns k ≡ true
unfolding is_partition
as_partition k f columns e = rw ((Decides-int_eq (pos k) (pos k)).1 refl, e) refl

pub first_stands : (columns : ℕ) (c : Classes) → AreClasses columns c → fits c.form.konst ≡ true → has_class c.modulus c.form c.next columns ≡ true
first_stands columns c a f = by c.modulus c.next a.last a.low a.high
  where
    by : (m n : ℤ) → has_class m c.form (m -ℤ pos 1) columns ≡ true → pos 0 ≤ℤ n → n <ℤ m → has_class m c.form n columns ≡ true
    by (pos k) (pos i) e l h = class-stands (pos k) c.form i columns k f (as_partition k c.form columns e) (omega (arith, ints, h))
    by (pos k) (negsuc i) e l h = absurd (omega (arith, ints, l))
    by (negsuc k) n e l h = absurd (omega (arith, ints, l, h))

-- the first of them, and those behind it
pub classes_split : (h : Path) (columns : ℕ) (c : Classes) → AreClasses columns c → classes_of h c ≡ PlanAt (at_rows h (class c.modulus c.form c.next h.conj)) ∷ classes c.modulus c.form (unsigned_abs c.next + 1) (unsigned_abs c.modulus - (unsigned_abs c.next + 1)) h
classes_split h columns c a = by c.modulus c.next a.low a.high
  where
    by : (m n : ℤ) → pos 0 ≤ℤ n → n <ℤ m → classes m c.form (unsigned_abs n) (unsigned_abs m - unsigned_abs n) h ≡ PlanAt (at_rows h (class m c.form n h.conj)) ∷ classes m c.form (unsigned_abs n + 1) (unsigned_abs m - (unsigned_abs n + 1)) h
    by (pos k) (pos i) l lt' =
        let lt : i < k = omega (arith, ints, lt') in
        let e : k - i ≡ suc (k - (i + 1)) = omega (arith, lt) in
        ap (λ n. classes (pos k) c.form i n h) e
    by (pos k) (negsuc i) l lt' = absurd (omega (arith, ints, l))
    by (negsuc k) n l lt' = absurd (omega (arith, ints, l, lt'))

-- no class is behind the last one
none_behind : (h : Path) (columns : ℕ) (c : Classes) → AreClasses columns c → c.next +ℤ pos 1 ≡ c.modulus → classes c.modulus c.form (unsigned_abs c.next + 1) (unsigned_abs c.modulus - (unsigned_abs c.next + 1)) h ≡ []
none_behind h columns c a e = by c.modulus c.next a.low e
  where
    by : (m n : ℤ) → pos 0 ≤ℤ n → n +ℤ pos 1 ≡ m → classes m c.form (unsigned_abs n + 1) (unsigned_abs m - (unsigned_abs n + 1)) h ≡ []
    by (pos k) (pos i) l e = let z : k - (i + 1) ≡ 0 = omega (arith, ints, e) in ap (λ n. classes (pos k) c.form (i + 1) n h) z
    by (negsuc k) (pos i) l e = absurd (omega (arith, ints, e))
    by m (negsuc i) l e = absurd (omega (arith, ints, l))

-- those behind another one
next_up : (z : ℤ) → pos 0 ≤ℤ z → unsigned_abs z + 1 ≡ unsigned_abs (z +ℤ pos 1)
next_up (pos i) l = refl
next_up (negsuc i) l = absurd (omega (arith, ints, l))

some_behind : (h : Path) (columns : ℕ) (c d : Classes) (next : ℤ) → AreClasses columns c → next ≡ c.next +ℤ pos 1 → d ≡ record c { next = next } → classes c.modulus c.form (unsigned_abs c.next + 1) (unsigned_abs c.modulus - (unsigned_abs c.next + 1)) h ≡ classes_of h d
some_behind h columns c d next a n e =
    let u : unsigned_abs c.next + 1 ≡ unsigned_abs next = next_up c.next a.low ∙ ap unsigned_abs (sym n) in
    (λ i. classes c.modulus c.form (u i) (unsigned_abs c.modulus - u i) h) ∙ ap (classes_of h) (sym e)

pub last_taken : (h : Path) (columns : ℕ) (c : Classes) (path : Path) (due : List Due) → AreClasses columns c → c.next +ℤ pos 1 ≡ c.modulus → path ≡ at_rows h (class c.modulus c.form c.next h.conj) → PlanAt path ∷ due ≡ classes_of h c ++ due
last_taken h columns c path due a e p = ap (λ q. PlanAt q ∷ due) p ∙ sym (ap (λ z. z ++ due) (classes_split h columns c a ∙ ap (λ z. PlanAt (at_rows h (class c.modulus c.form c.next h.conj)) ∷ z) (none_behind h columns c a e)))

pub first_taken : (h : Path) (columns : ℕ) (c d : Classes) (next : ℤ) (due : List Due) → AreClasses columns c → next ≡ c.next +ℤ pos 1 → d ≡ record c { next = next }
    → PlanAt (at_rows h (class c.modulus c.form c.next h.conj)) ∷ (classes_of h d ++ due) ≡ classes_of h c ++ due
first_taken h columns c d next due a n e =
    sym (ap (λ z. z ++ due) (classes_split h columns c a ∙ ap (λ z. PlanAt (at_rows h (class c.modulus c.form c.next h.conj)) ∷ z) (some_behind h columns c d next a n e)))

pub behind_classes : (columns : ℕ) (c d : Classes) (next : ℤ) → AreClasses columns c → (c.next +ℤ pos 1 ≡ c.modulus → ⊥) → next ≡ c.next +ℤ pos 1 → d ≡ record c { next = next } → AreClasses columns d
behind_classes columns c d next a o n e = subst (AreClasses columns) (sym e) (record {
  last = a.last;
  low = (let l = a.low in subst (λ z. pos 0 ≤ℤ z) (sym n) (omega (arith, ints, l)));
  high = (let h = a.high in subst (λ z. z <ℤ c.modulus) (sym n) (omega (arith, ints, h, o)));
})

pub class_low : (m : ℤ) (f : Affine) (columns : ℕ) → m <ℤ pos 1 → false ≡ has_class m f (m -ℤ pos 1) columns
class_low m f columns l = sym (class_below m f columns (λ k. omega (arith, ints, l, k)))

pub class_low_at : (m n : ℤ) (f : Affine) (columns : ℕ) → n ≡ m → lt_z n (pos 1) ≡ true → false ≡ has_class m f (m -ℤ pos 1) columns
class_low_at m n f columns i e = let l : n <ℤ pos 1 = record { lt = T_from_true (lt_z n (pos 1)) e } in class_low m f columns (subst (λ z. z <ℤ pos 1) i l)

-- the row of the first of the classes is never refused
pub never_refused : (columns : ℕ) (c : Classes) → AreClasses columns c → fits c.form.konst ≡ true → cond (has_class c.modulus c.form c.next columns) (Some (class_row c.modulus c.form c.next)) None ≡ None → ⊥
never_refused columns c a f e =
    let i : Some (class_row c.modulus c.form c.next) ≡ None = ap (λ b. cond b (Some (class_row c.modulus c.form c.next)) None) (sym (first_stands columns c a f)) ∙ e in
    cc
