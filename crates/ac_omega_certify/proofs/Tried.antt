-- What the choices for a column are, and what the rows allow of each.
use Rattle.std.proofs.Common.{◌≡◌, ℕ, zero, suc, ◌+◌, ◌*◌, ◌/◌, ◌<◌, ◌≤◌, ℤ, pos, negsuc, ◌≤ℤ◌, Bool, true, false, cond, not, ◌&&◌, ◌||◌, nat_eq, List, [], ◌∷◌, ◌++◌, length, map, set, Option, Some, None, slice_get, eq-eqb, refl, sym, ap, subst, ◌∙◌, arith, append_assoc}
use Rattle.std.specs.Prelude.{unsigned_abs, option_map}
use Rattle.std.proofs.lemmas.Bool.{lt-ltb, ne_eqb}
use Rattle.std.proofs.lemmas.Int.{ints}
use Rattle.std.proofs.lemmas.List.{length-set}
use Rattle.std.proofs.Math.Nat.{div-mul_cancel}
use Rattle.ac_base.specs.Gcd.{gcd}
use Rattle.ac_base.proofs.Divisors.{IsGcd-gcd}
use Rattle.ac_forms.specs.Affine.{Affine, coef}
use Rattle.ac_forms.specs.Fits.{fits}
use Rattle.ac_forms.specs.Rows.{HaveModuli, IsRowOver, AreRowsOver, IsWellMade}
use Rattle.ac_forms.specs.declared.conj.Conj.{Conj}
use Rattle.ac_forms.specs.declared.row.Row.{Row}
use Rattle.ac_forms.specs.declared.row.Row.TheVariants.{Eq, Div, Ge}
use Rattle.ac_forms.proofs.Passes.{moduli_of}
use Rattle.ac_omega_steps.specs.declared.choose.Choice.{Choice}
use Rattle.ac_omega_steps.specs.declared.choose.Choice.TheVariants as choice
use Rattle.ac_omega_steps.specs.Bounds.{is_low, is_none, lows, highs, only_bounds, is_one_sided, last_splinter}
use Rattle.ac_forms.specs.RowColumns.{has_column}
use Rattle.ac_omega_steps.specs.Choices.{column_of, are_absurd, is_equality_of, allows, substitute_residue_row, left_by}
use Rattle.ac_omega_steps.proofs.LeftMade.{raw_made}
use Rattle.ac_omega_steps.proofs.Fitting.{true_fits}
use Rattle.ac_base.proofs.Truths.{true-le}
use Rattle.ac_omega_certify.specs.ChoiceBranches.{count_of, counts_from, IsTry, AreAlternatives, residue_choices, splinter_choices, leaf_choices, AreResidues, AreAll}
use Rattle.ac_omega_certify.specs.Refutations.{AreChoicesOf}
use Rattle.ac_omega_certify.specs.SplinterCounts.{SufficesAt, Suffice}
use Rattle.ac_omega_certify.specs.Alternatives.{Alternatives, first_equality, has_divisibility, lcm, common_modulus, residues_from, residues, splinters_from, count_to, last_splinter_fits, need_of, splinters_by, splinters, alternatives_by, alternatives_for, all_of}
use Rattle.ac_omega_certify.specs.declared.strategy.Strategy.{Strategy}
use Rattle.ac_omega_certify.proofs.Enough.{strategy-suffices, suffices-long}

-- ---- which choices these are

one-of : (h : Choice) (hs : List Choice) → all_of (Some h ∷ []) ≡ Some hs → hs ≡ h ∷ []
one-of h hs e = cc

pub residues-are : (n z : ℕ) (m : ℤ) (r : ℕ) → all_of (residues_from n z m r) ≡ Some (residue_choices n z m r)
residues-are zero z m r = refl
residues-are (suc n) z m r = ap (option_map (λ (rest : List Choice). choice.Residue z m (pos r) ∷ rest)) (residues-are n z m (suc r))

map-both : (o : Option (List Choice)) (h : Choice) (xs : List Choice) → option_map (λ (rest : List Choice). h ∷ rest) (option_map (λ (ys : List Choice). xs ++ ys) o) ≡ option_map (λ (ys : List Choice). (h ∷ xs) ++ ys) o
map-both None h xs = refl
map-both (Some ys) h xs = refl

map-none : (o : Option (List Choice)) → o ≡ option_map (λ (ys : List Choice). [] ++ ys) o
map-none None = refl
map-none (Some ys) = refl

splinters-are : (n z i k : ℕ) (rest : Alternatives) → all_of (splinters_from n z i k ++ rest) ≡ option_map (λ (ys : List Choice). splinter_choices n z i k ++ ys) (all_of rest)
splinters-are zero z i k rest = map-none (all_of rest)
splinters-are (suc n) z i k rest =
    ap (option_map (λ (ys : List Choice). choice.Splinter z i (pos k) ∷ ys)) (splinters-are n z i (suc k) rest) ∙ map-both (all_of rest) (choice.Splinter z i (pos k)) (splinter_choices n z i (suc k))

mapped-some : (xs : List Choice) (o : Option (List Choice)) (hs : List Choice) → option_map (λ (ys : List Choice). xs ++ ys) o ≡ Some hs → (rest : List Choice) × (o ≡ Some rest) × (hs ≡ xs ++ rest)
mapped-some xs None hs e = absurd cc
mapped-some xs (Some rest) hs e = (rest, refl, cc)

fits-parts : (t : Bool) (n z i : ℕ) (rest : Alternatives) (hs : List Choice) → all_of (cond t (splinters_from n z i 0) (None ∷ []) ++ rest) ≡ Some hs → (ys : List Choice) × (all_of rest ≡ Some ys) × (hs ≡ splinter_choices n z i 0 ++ ys)
fits-parts true n z i rest hs e = mapped-some (splinter_choices n z i 0) (all_of rest) hs (sym (splinters-are n z i 0 rest) ∙ e)
fits-parts false n z i rest hs e = absurd cc

-- how many splinters a strategy has of each row
abbrev count_by : Option ℤ → ℤ → ℕ
count_by None b = 0
count_by (Some a) b = count_to (last_splinter a b)

abbrev row_count : Strategy → ℕ → List Row → Row → ℕ
row_count s z rows (Ge f) = cond (is_low z f) (count_by (need_of s z rows f) (coef z f)) 0
row_count s z rows (Eq f) = 0
row_count s z rows (Div m f) = 0

-- these are they, and they suffice
record AreLeaves (s : Strategy) (z i : ℕ) (rows rs : List Row) (hs : List Choice) : Type 0 where
  pub is : hs ≡ leaf_choices z i (map (row_count s z rows) rs)
  pub suffice : Suffice z rows rs (map (row_count s z rows) rs)

leaves-are : (s : Strategy) (z i : ℕ) (rows rs : List Row) (hs : List Choice) → is_none (highs z rows) ≡ false → all_of (splinters s z rows i rs) ≡ Some hs → AreLeaves s z i rows rs hs
leaves-are s z i rows [] hs some e = record { is = cc; suffice = tt }
leaves-are s z i rows (Eq f ∷ rs) hs some e = let g = leaves-are s z (suc i) rows rs hs some e in record { is = g.is; suffice = (refl, g.suffice) }
leaves-are s z i rows (Div m f ∷ rs) hs some e = let g = leaves-are s z (suc i) rows rs hs some e in record { is = g.is; suffice = (refl, g.suffice) }
leaves-are s z i rows (Ge f ∷ rs) hs some e = by (is_low z f) (need_of s z rows f) refl refl e (λ hs e. leaves-are s z (suc i) rows rs hs some e)
  where
    counts : List ℕ
    counts = map (row_count s z rows) rs

    by : (t : Bool) (o : Option ℤ) → is_low z f ≡ t → need_of s z rows f ≡ o → all_of (cond t (splinters_by o z i (coef z f)) [] ++ splinters s z rows (suc i) rs) ≡ Some hs
        → ((hs : List Choice) → all_of (splinters s z rows (suc i) rs) ≡ Some hs → AreLeaves s z (suc i) rows rs hs) → AreLeaves s z i rows (Ge f ∷ rs) hs
    by true (Some a) l o e go =
        let n = count_to (last_splinter a (coef z f)) in
        let p = fits-parts (last_splinter_fits a (coef z f)) n z i (splinters s z rows (suc i) rs) hs e in
        let g = go p.0 p.1 in
        record {
          is = rw (l, o) (p.2 ∙ ap (λ (ys : List Choice). splinter_choices n z i 0 ++ ys) g.is);
          suffice = rw (l, o) ((λ _. strategy-suffices s z rows f a some l o, λ no. absurd cc), g.suffice);
        }
    by true None l o e go = absurd cc
    by false o l _ e go = let g = go hs e in record { is = rw l g.is; suffice = rw l ((λ yes. absurd cc, λ _. refl), g.suffice) }

-- ---- how many of them are splinters of a row

same-place : (i : ℕ) → nat_eq i i ≡ true
same-place i = eq-eqb i i refl

other-place : (i j : ℕ) → i < j → nat_eq i j ≡ false
other-place i j h = ne_eqb i j (λ e. omega (arith, e))

other-above : (i j : ℕ) → i < j → nat_eq j i ≡ false
other-above i j h = ne_eqb j i (λ e. omega (arith, e))

pub count-append : (i : ℕ) (xs ys : List Choice) → count_of i (xs ++ ys) ≡ count_of i xs + count_of i ys
count-append i [] ys = omega arith
count-append i (choice.Drop z ∷ xs) ys = count-append i xs ys
count-append i (choice.Equal z j ∷ xs) ys = count-append i xs ys
count-append i (choice.Residue z m r ∷ xs) ys = count-append i xs ys
count-append i (choice.Shadow z ∷ xs) ys = count-append i xs ys
count-append i (choice.Splinter z j k ∷ xs) ys =
    let rest = count-append i xs ys in
    elim (nat_eq j i) as (λ t. cond t (count_of i (xs ++ ys) + 1) (count_of i (xs ++ ys)) ≡ cond t (count_of i xs + 1) (count_of i xs) + count_of i ys) [ true ↦ omega (arith, rest) | false ↦ rest ]

count-same : (n z i k : ℕ) → count_of i (splinter_choices n z i k) ≡ n
count-same zero z i k = refl
count-same (suc n) z i k = rw (same-place i) (omega (arith, count-same n z i (suc k)))

count-other : (n z i j k : ℕ) → i < j → count_of j (splinter_choices n z i k) ≡ 0
count-other zero z i j k h = refl
count-other (suc n) z i j k h = rw (other-place i j h) (count-other n z i j (suc k) h)

count-above : (n z i j k : ℕ) → i < j → count_of i (splinter_choices n z j k) ≡ 0
count-above zero z i j k h = refl
count-above (suc n) z i j k h = rw (other-above i j h) (count-above n z i j (suc k) h)

count-later : (z i j : ℕ) (ns : List ℕ) → i < j → count_of i (leaf_choices z j ns) ≡ 0
count-later z i j [] h = refl
count-later z i j (n ∷ ns) h = count-append i (splinter_choices n z j 0) (leaf_choices z (suc j) ns) ∙ omega (arith, count-above n z i j 0 h, count-later z i (suc j) ns (omega arith))

-- behind choices that are no splinters of the row or of a later one
counts-are : (z i : ℕ) (xs : List Choice) (ns : List ℕ) → ((j : ℕ) → i ≤ j → count_of j xs ≡ 0) → counts_from i (length ns) (xs ++ leaf_choices z i ns) ≡ ns
counts-are z i xs [] none = refl
counts-are z i xs (n ∷ ns) none =
    let here : count_of i (xs ++ (splinter_choices n z i 0 ++ leaf_choices z (suc i) ns)) ≡ n =
    count-append i xs (splinter_choices n z i 0 ++ leaf_choices z (suc i) ns) ∙
    omega (arith, none i (omega arith), count-append i (splinter_choices n z i 0) (leaf_choices z (suc i) ns), count-same n z i 0, count-later z i (suc i) ns (omega arith)) in
    let none' : (j : ℕ) → suc i ≤ j → count_of j (xs ++ splinter_choices n z i 0) ≡ 0 = λ j h. count-append j xs (splinter_choices n z i 0) ∙ omega (arith, none j (omega arith), count-other n z i j 0 (omega arith)) in
    let rest = counts-are z (suc i) (xs ++ splinter_choices n z i 0) ns none' in
    let rest' : counts_from (suc i) (length ns) (xs ++ (splinter_choices n z i 0 ++ leaf_choices z (suc i) ns)) ≡ ns = ap (counts_from (suc i) (length ns)) (sym (append_assoc xs (splinter_choices n z i 0) (leaf_choices z (suc i) ns))) ∙ rest in
    ap (λ (k : ℕ). k ∷ counts_from (suc i) (length ns) (xs ++ (splinter_choices n z i 0 ++ leaf_choices z (suc i) ns))) here ∙ ap (λ (ks : List ℕ). n ∷ ks) rest'

shadow-counts : (z : ℕ) (rs : List Row) (ns : List ℕ) → length ns ≡ length rs → counts_from 0 (length rs) (choice.Shadow z ∷ leaf_choices z 0 ns) ≡ ns
shadow-counts z rs ns e = subst (λ (n : ℕ). counts_from 0 n (choice.Shadow z ∷ leaf_choices z 0 ns) ≡ ns) e (counts-are z 0 (choice.Shadow z ∷ []) ns (λ j h. refl))

-- ---- what the rows allow

pub both-true : (a b : Bool) → a ≡ true → b ≡ true → (a && b) ≡ true
both-true true b e f = f
both-true false b e f = e

pub not-true : (a : Bool) → a ≡ false → not a ≡ true
not-true a e = rw e refl

pub or-none : (a b : Bool) → (a || b) ≡ false → (a ≡ false) × (b ≡ false)
or-none true b e = absurd cc
or-none false b e = (refl, e)

left-made : (h : Choice) (c : Conj) → IsWellMade c → are_absurd c.rows ≡ false → column_of h < c.columns → allows h c.rows ≡ true → AreRowsOver c.columns (left_by h c.rows)
left-made h c made not_absurd within allowed = raw_made h c (both-true _ _ (not-true (are_absurd c.rows) not_absurd) (both-true _ _ (lt-ltb (column_of h) c.columns within) allowed)) made

set-within : (n z : ℕ) (cs : List ℤ) (v : ℤ) → length cs ≤ n → length (set cs z v) ≤ n
set-within n z cs v h = omega (arith, length-set cs z v)

substitute_residue-made : (n z : ℕ) (m q : ℤ) (r : Row) → IsRowOver n r → IsRowOver n (substitute_residue_row z m q r)
substitute_residue-made n z m q (Ge f) h = (set-within n z f.coefs _ h.0, tt)
substitute_residue-made n z m q (Eq f) h = (set-within n z f.coefs _ h.0, tt)
substitute_residue-made n z m q (Div k f) h = (set-within n z f.coefs _ h.0, h.1)

residue-made : (n z : ℕ) (m q : ℤ) (rs : List Row) → AreRowsOver n rs → AreRowsOver n (map (substitute_residue_row z m q) rs)
residue-made n z m q [] h = tt
residue-made n z m q (r ∷ rs) h = (substitute_residue-made n z m q r h.0, residue-made n z m q rs h.1)

-- the place that is found has an equality with the column
pub equality-found : (z i j : ℕ) (rows : List Row) → first_equality z i rows ≡ Some j → (k : ℕ) × (j ≡ i + k) × (is_equality_of z (slice_get rows k) ≡ true)
equality-found z i j [] e = absurd cc
equality-found z i j (Eq f ∷ rs) e = by z i j (Eq f) rs (has_column z (Eq f)) refl (equality-found z (suc i) j rs) e
  where
    by : (z i j : ℕ) (r : Row) (rs : List Row) (t : Bool) → is_equality_of z (Some r) ≡ t → (first_equality z (suc i) rs ≡ Some j → (k : ℕ) × (j ≡ suc i + k) × (is_equality_of z (slice_get rs k) ≡ true))
        → cond t (Some i) (first_equality z (suc i) rs) ≡ Some j → (k : ℕ) × (j ≡ i + k) × (is_equality_of z (slice_get (r ∷ rs) k) ≡ true)
    by z i j r rs true is rest e = let s : i ≡ j = cc in (zero, omega arith, is)
    by z i j r rs false is rest e = let k = rest e in (suc k.0, omega (arith, k.1), k.2)
equality-found z i j (Div m f ∷ rs) e = let k = equality-found z (suc i) j rs e in (suc k.0, omega (arith, k.1), k.2)
equality-found z i j (Ge f ∷ rs) e = let k = equality-found z (suc i) j rs e in (suc k.0, omega (arith, k.1), k.2)

-- without equalities and divisibilities of the column only bounds have it
bounds-only : (z i : ℕ) (rows : List Row) → first_equality z i rows ≡ None → has_divisibility z rows ≡ false → only_bounds z rows ≡ true
bounds-only z i [] e d = refl
bounds-only z i (Eq f ∷ rs) e d = by (has_column z (Eq f)) refl e (λ rest. bounds-only z (suc i) rs rest d)
  where
    by : (t : Bool) → has_column z (Eq f) ≡ t → cond t (Some i) (first_equality z (suc i) rs) ≡ None → (first_equality z (suc i) rs ≡ None → only_bounds z rs ≡ true) → (not t && only_bounds z rs) ≡ true
    by true is e go = absurd cc
    by false is e go = go e
bounds-only z i (Div m f ∷ rs) e d =
    let n = or-none (has_column z (Div m f)) (has_divisibility z rs) d in
    both-true (not (has_column z (Div m f))) (only_bounds z rs) (not-true (has_column z (Div m f)) n.0) (bounds-only z (suc i) rs e n.1)
bounds-only z i (Ge f ∷ rs) e d = bounds-only z (suc i) rs e d

-- ---- the common modulus is at least 1

lcm-some : (a b : ℕ) → 0 < a → 0 < b → 0 < lcm a b
unfolding lcm
lcm-some a b h g =
    let whole : (a / gcd a b) * gcd a b ≡ a = div-mul_cancel (gcd a b) (IsGcd-gcd a b).0 in
    by (a / gcd a b) b whole h g
  where
    by : (q b : ℕ) → q * gcd a b ≡ a → 0 < a → 0 < b → 0 < q * b
    by zero b e h g = absurd (omega arith)
    by (suc q) zero e h g = absurd (omega arith)
    by (suc q) (suc b) e h g = omega arith

size-some : (n : ℤ) → pos 1 ≤ℤ n → 0 < unsigned_abs n
size-some (pos n) h = omega (arith, ints)
size-some (negsuc n) h = omega (arith, ints)

common-some : (z m : ℕ) (rs : List Row) → 0 < m → HaveModuli rs → 0 < common_modulus z m rs
common-some z m [] p h = p
common-some z m (Eq f ∷ rs) p h = common-some z m rs p h.1
common-some z m (Ge f ∷ rs) p h = common-some z m rs p h.1
common-some z m (Div n f ∷ rs) p h =
    elim (has_column z (Div n f)) as (λ t. 0 < common_modulus z (cond t (lcm m (unsigned_abs n)) m) rs) [
      | true ↦ common-some z (lcm m (unsigned_abs n)) rs (lcm-some m (unsigned_abs n) p (size-some n h.0)) h.1
      | false ↦ common-some z m rs p h.1
    ]

-- ---- all choices

-- they are all for a column, and each is allowed
pub record Fan (c : Conj) (counts : List ℕ) (hs : List Choice) : Type 0 where
  pub all : AreAll c.columns c.rows counts hs
  pub tries : AreAlternatives c.columns c.rows counts hs

residue-tries : (c : Conj) (counts : List ℕ) (z m n r : ℕ) → IsWellMade c → z < c.columns → r + n ≡ m → AreAlternatives c.columns c.rows counts (residue_choices n z (pos m) r)
residue-tries c counts z m zero r made within e = tt
residue-tries c counts z m (suc n) r made within e = (
  record { made = residue-made c.columns z (pos m) (pos r) c.rows made; allowed = (within, omega (arith, ints), omega (arith, ints), omega (arith, ints, e)) },
  residue-tries c counts z m n (suc r) made within (omega arith),
)

splinter-tries : (c : Conj) (counts : List ℕ) (z i n k : ℕ) (f : Affine) → IsWellMade c → are_absurd c.rows ≡ false → z < c.columns → slice_get c.rows i ≡ Some (Ge f) → is_low z f ≡ true → pos (k + n) ≤ℤ coef z f
    → AreAlternatives c.columns c.rows counts (splinter_choices n z i k)
splinter-tries c counts z i zero k f made possible within at low e = tt
splinter-tries c counts z i (suc n) k f made possible within at low e = (
  record {
    made = left-made (choice.Splinter z i (pos k)) c made possible within (both-true _ _ (rw at low) (true-le (pos 0) (pos k) (omega (arith, ints))));
    allowed = record { form = f; at = at; low = low; from = omega (arith, ints); to = first-of (coef z f) e };
  },
  splinter-tries c counts z i n (suc k) f made possible within at low (subst (λ (j : ℕ). pos j ≤ℤ coef z f) (later k n) e),
)
  where
    later : (k n : ℕ) → k + suc n ≡ suc k + n
    later k n = omega arith

    first-of : (b : ℤ) → pos (k + suc n) ≤ℤ b → pos k ≤ℤ b
    first-of b h = omega (arith, ints, h)

tries-both : (n : ℕ) (rows : List Row) (counts : List ℕ) (xs ys : List Choice) → AreAlternatives n rows counts xs → AreAlternatives n rows counts ys → AreAlternatives n rows counts (xs ++ ys)
tries-both n rows counts [] ys a b = b
tries-both n rows counts (h ∷ xs) ys a b = (a.0, tries-both n rows counts xs ys a.1 b)

leaf-tries : (c : Conj) (counts : List ℕ) (z i : ℕ) (rs : List Row) (ns : List ℕ) → IsWellMade c → are_absurd c.rows ≡ false → z < c.columns → ((k : ℕ) → slice_get c.rows (i + k) ≡ slice_get rs k) → Suffice z c.rows rs ns
    → AreAlternatives c.columns c.rows counts (leaf_choices z i ns)
leaf-tries c counts z i [] [] made possible within h s = tt
leaf-tries c counts z i [] (n ∷ ns) made possible within h s = absurd s
leaf-tries c counts z i (r ∷ rs) [] made possible within h s = absurd s
leaf-tries c counts z i (r ∷ rs) (n ∷ ns) made possible within h s =
    tries-both c.columns c.rows counts (splinter_choices n z i 0) _
    (here r (subst (λ (k : ℕ). slice_get c.rows k ≡ Some r) (same i) (h 0)) s.0)
    (leaf-tries c counts z (suc i) rs ns made possible within (λ k. subst (λ (j : ℕ). slice_get c.rows j ≡ slice_get rs k) (later i k) (h (suc k))) s.1)
  where
    same : (i : ℕ) → i + 0 ≡ i
    same i = omega arith

    later : (i k : ℕ) → i + suc k ≡ suc i + k
    later i k = omega arith

    whole : (k : ℕ) → k ≡ 0 + k
    whole k = omega arith

    none : n ≡ 0 → AreAlternatives c.columns c.rows counts (splinter_choices n z i 0)
    none e = subst (λ (k : ℕ). AreAlternatives c.columns c.rows counts (splinter_choices k z i 0)) (sym e) tt

    here : (r : Row) → slice_get c.rows i ≡ Some r → SufficesAt z c.rows r n → AreAlternatives c.columns c.rows counts (splinter_choices n z i 0)
    here (Eq f) at s = none s
    here (Div m f) at s = none s
    here (Ge f) at s = by (is_low z f) refl
      where
        by : (t : Bool) → is_low z f ≡ t → AreAlternatives c.columns c.rows counts (splinter_choices n z i 0)
        by true low = splinter-tries c counts z i n 0 f made possible within at low (let w = s.0 low in subst (λ (k : ℕ). pos k ≤ℤ coef z f) (whole n) w.within)
        by false low = none (s.1 low)

if-fits : (t : Bool) (xs : Alternatives) (hs : List Choice) → all_of (cond t xs (None ∷ [])) ≡ Some hs → (t ≡ true) × (all_of xs ≡ Some hs)
if-fits true xs hs e = (refl, e)
if-fits false xs hs e = absurd cc

residues-fan : (c : Conj) (counts : List ℕ) (hs : List Choice) (z m : ℕ) → IsWellMade c → z < c.columns → 0 < m → all_of (residues z m) ≡ Some hs → Fan c counts hs
residues-fan c counts hs z zero made within some e = absurd (omega arith)
residues-fan c counts hs z (suc m) made within some e =
    let f = if-fits (fits (pos (suc m))) (residues_from (suc m) z (pos (suc m)) 0) hs e in
    let is : hs ≡ residue_choices (suc m) z (pos (suc m)) 0 = some-is hs (residue_choices (suc m) z (pos (suc m)) 0) (sym f.1 ∙ residues-are (suc m) z (pos (suc m)) 0) in
    let all : AreResidues c.columns z (pos (suc m)) (residue_choices (suc m) z (pos (suc m)) 0) = record { size = suc m; within = within; is = refl; some = omega arith; fits = true_fits (pos (suc m)) f.0; all = refl } in
    subst (Fan c counts) (sym is) (record { all = all; tries = residue-tries c counts z (suc m) (suc m) 0 made within (omega arith) })
  where
    some-is : (xs ys : List Choice) → Some xs ≡ Some ys → xs ≡ ys
    some-is xs ys e = cc

shadow-fan : (s : Strategy) (c : Conj) (counts : List ℕ) (hs : List Choice) (z : ℕ) → IsWellMade c → are_absurd c.rows ≡ false → z < c.columns → only_bounds z c.rows ≡ true → is_one_sided z c.rows ≡ false → counts ≡ counts_from 0 (length c.rows) hs
    → all_of (Some (choice.Shadow z) ∷ splinters s z c.rows 0 c.rows) ≡ Some hs → Fan c counts hs
shadow-fan s c counts hs z made possible within only one are e =
    let ns = map (row_count s z c.rows) c.rows in
    let m = mapped-some (choice.Shadow z ∷ []) (all_of (splinters s z c.rows 0 c.rows)) hs e in
    let leaves = leaves-are s z 0 c.rows c.rows m.0 (or-none (is_none (lows z c.rows)) (is_none (highs z c.rows)) one).1 m.1 in
    let is : hs ≡ choice.Shadow z ∷ leaf_choices z 0 ns = m.2 ∙ ap (λ (ys : List Choice). choice.Shadow z ∷ ys) leaves.is in
    let counted : counts ≡ ns = are ∙ ap (counts_from 0 (length c.rows)) is ∙ shadow-counts z c.rows ns (suffices-long z c.rows c.rows ns leaves.suffice) in
    let suffice : Suffice z c.rows c.rows counts = subst (Suffice z c.rows c.rows) (sym counted) leaves.suffice in
    let all : AreAll c.columns c.rows counts (choice.Shadow z ∷ leaf_choices z 0 ns) = (ap (leaf_choices z 0) (sym counted), suffice) in
    let first : IsTry c.columns c.rows counts (choice.Shadow z) = record { made = left-made (choice.Shadow z) c made possible within only; allowed = (only, suffice) } in
    subst (Fan c counts) (sym is) (record { all = all; tries = (first, leaf-tries c counts z 0 c.rows ns made possible within (λ k. ap (slice_get c.rows) (same k)) leaves.suffice) })
  where
    same : (k : ℕ) → 0 + k ≡ k
    same k = omega arith

pub choices_fan : (c : Conj) (counts : List ℕ) (hs : List Choice) → IsWellMade c → AreChoicesOf c hs → counts ≡ counts_from 0 (length c.rows) hs → Fan c counts hs
unfolding alternatives_for
choices_fan c counts hs made h are = by (first_equality h.column 0 c.rows) (has_divisibility h.column c.rows) refl refl h.all
  where
    z : ℕ
    z = h.column

    by : (o : Option ℕ) (d : Bool) → first_equality h.column 0 c.rows ≡ o → has_divisibility h.column c.rows ≡ d → all_of (alternatives_by h.strategy o h.column c.rows) ≡ Some hs → Fan c counts hs
    by (Some i) d e f all =
        let k = equality-found h.column 0 i c.rows e in
        let at : is_equality_of h.column (slice_get c.rows i) ≡ true = subst (λ (j : ℕ). is_equality_of h.column (slice_get c.rows j) ≡ true) (same i k.0 k.1) k.2 in
        subst (Fan c counts) (sym (one-of (choice.Equal h.column i) hs all)) (record { all = refl; tries = (record { made = left-made (choice.Equal h.column i) c made h.possible h.present at; allowed = at }, tt) })
      where
        same : (i k : ℕ) → i ≡ 0 + k → k ≡ i
        same i k e = omega arith
    by None true e f all = residues-fan c counts hs h.column (common_modulus h.column 1 c.rows) made h.present (common-some h.column 1 c.rows (omega arith) (moduli_of c.columns c.rows made)) (rw f at all)
    by None false e f all = bounds (is_one_sided h.column c.rows) refl (rw f at all)
      where
        bounds : (t : Bool) → is_one_sided h.column c.rows ≡ t
            → all_of (cond t (Some (choice.Drop h.column) ∷ []) (Some (choice.Shadow h.column) ∷ splinters h.strategy h.column c.rows 0 c.rows)) ≡ Some hs
            → Fan c counts hs
        bounds true one all =
            subst (Fan c counts) (sym (one-of (choice.Drop h.column) hs all))
            (record { all = refl; tries = (record { made = left-made (choice.Drop h.column) c made h.possible h.present (both-true _ _ (bounds-only h.column 0 c.rows e f) one); allowed = tt }, tt) })
        bounds false one all = shadow-fan h.strategy c counts hs h.column made h.possible h.present (bounds-only h.column 0 c.rows e f) one are all
