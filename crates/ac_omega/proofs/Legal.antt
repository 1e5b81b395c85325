-- Each choice that is listed is legal.
use Rattle.std.proofs.Common.{◌≡◌, inl, inr, add-zero, zero-add, ℕ, zero, suc, ◌+◌, ◌<◌, ℤ, pos, Bool, true, false, cond, not, ◌&&◌, ◌||◌, List, [], ◌∷◌, ◌++◌, slice_get, Option, Some, None, arith, refl, sym, ap, subst}
use Rattle.std.specs.Prelude.{unsigned_abs, option_map, Result, Ok, Err, IfOk}
use Rattle.ac_forms.specs.declared.stop.FormStop.{FormStop}
use Rattle.ac_forms.specs.declared.stop.FormStop.TheVariants.{Wide, Memory}
use Rattle.ac_forms.specs.FormStops.{GivenOf, IfWide}
use Rattle.std.specs.Int.{◌∣◌}
use Rattle.std.proofs.lemmas.Int.{ints}
use Rattle.std.proofs.lemmas.Bool.{lt-ltb}
use Rattle.std.proofs.lemmas.Nat.Gcd.{dvd_refl, dvd_trans}
use Rattle.ac_base.specs.Multiple.{divides}
use Rattle.ac_base.proofs.Divisors.{true-divides}
use Rattle.ac_forms.specs.Affine.{coef}
use Rattle.ac_forms.specs.Fits.{fits}
use Rattle.ac_forms.specs.Rows.{HasModulus, HaveModuli, IsWellMade}
use Rattle.ac_forms.proofs.Passes.{moduli_of}
use Rattle.ac_forms.specs.declared.conj.Conj.{Conj}
use Rattle.ac_forms.specs.declared.row.Row.{Row}
use Rattle.ac_forms.specs.declared.row.Row.TheVariants.{Eq, Div, Ge}
use Rattle.ac_omega_steps.specs.declared.choose.Choice.{Choice}
use Rattle.ac_omega_steps.specs.declared.choose.Choice.TheVariants as choice
use Rattle.ac_omega_steps.specs.Bounds.{is_low, only_bounds, is_one_sided}
use Rattle.ac_forms.specs.RowColumns.{has_column}
use Rattle.ac_omega_steps.specs.Choices.{column_of, are_absurd, is_equality_of, is_lower_row, is_common_multiple, allows, is_legal}
use Rattle.ac_base.proofs.Truths.{true-le}
use Rattle.ac_forms.specs.ListMembers.{IsAmong}
use Rattle.ac_omega_certify.specs.Alternatives.{Alternatives, first_equality, has_divisibility, lcm, common_modulus, residues_from, residues, splinters_from, count_to, last_splinter, last_splinter_fits, need_of, splinters_by, splinters_of, splinters, by_bounds, alternatives_by, alternatives_for, all_of}
use Rattle.ac_omega.specs.Walk.{IsTried}
use Rattle.ac_omega.proofs.CommonMultiples.{IsLcm-lcm, lcm-positive}
use Rattle.ac_omega.proofs.Moduli.{common-cons, row-grows, size_positive}
use Rattle.ac_omega_certify.specs.declared.strategy.Strategy.{Strategy}
use Rattle.ac_omega_certify.proofs.Tried.{equality-found, both-true, not-true, or-none}

-- the choice takes the column, and the rows allow it
pub record Allowed (z : ℕ) (rows : List Row) (h : Choice) : Type 0 where
  pub column : column_of h ≡ z
  pub allowed : allows h rows ≡ true

unfoldable pub AreAllowed : ℕ → List Row → Alternatives → Type 0
AreAllowed z rows [] = Unit {0}
AreAllowed z rows (None ∷ hs) = AreAllowed z rows hs
AreAllowed z rows (Some h ∷ hs) = Allowed z rows h × AreAllowed z rows hs

more_of : (h : Choice) (o : Option (List Choice)) (hs : List Choice) → option_map (λ rest. h ∷ rest) o ≡ Some hs → (rest : List Choice) × (o ≡ Some rest) × (hs ≡ h ∷ rest)
more_of h None hs e = absurd cc
more_of h (Some rest) hs e = (rest, refl, cc)

pub among-allowed : (z : ℕ) (rows : List Row) (tries : Alternatives) (hs : List Choice) (h : Choice) → AreAllowed z rows tries → all_of tries ≡ Some hs → IsAmong h hs → Allowed z rows h
unfolding AreAllowed
among-allowed z rows [] [] h a e i = absurd i
among-allowed z rows [] (x ∷ hs) h a e i = absurd cc
among-allowed z rows (None ∷ tries) hs h a e i = absurd cc
among-allowed z rows (Some x ∷ tries) hs h a e i =
    let m = more_of x (all_of tries) hs e in
    elim (subst (IsAmong h) m.2 i) [ inl is ↦ subst (Allowed z rows) (sym is) a.0 | inr later ↦ among-allowed z rows tries m.0 h a.1 m.1 later ]

allowed-both : (z : ℕ) (rows : List Row) (xs ys : Alternatives) → AreAllowed z rows xs → AreAllowed z rows ys → AreAllowed z rows (xs ++ ys)
unfolding AreAllowed
allowed-both z rows [] ys a b = b
allowed-both z rows (None ∷ xs) ys a b = allowed-both z rows xs ys a b
allowed-both z rows (Some h ∷ xs) ys a b = (a.0, allowed-both z rows xs ys a.1 b)

-- without equalities and divisibilities of the column only bounds have it
pub only-bounds : (z i : ℕ) (rows : List Row) → first_equality z i rows ≡ None → has_divisibility z rows ≡ false → only_bounds z rows ≡ true
only-bounds z i [] e d = refl
only-bounds z i (Eq f ∷ rs) e d = by (has_column z (Eq f)) refl e (λ rest. only-bounds z (suc i) rs rest d)
  where
    by : (t : Bool) → has_column z (Eq f) ≡ t → cond t (Some i) (first_equality z (suc i) rs) ≡ None → (first_equality z (suc i) rs ≡ None → only_bounds z rs ≡ true) → (not t && only_bounds z rs) ≡ true
    by true is e go = absurd cc
    by false is e go = go e
only-bounds z i (Div m f ∷ rs) e d =
    let n = or-none (has_column z (Div m f)) (has_divisibility z rs) d in
    both-true (not (has_column z (Div m f))) (only_bounds z rs) (not-true (has_column z (Div m f)) n.0) (only-bounds z (suc i) rs e n.1)
only-bounds z i (Ge f ∷ rs) e d = only-bounds z (suc i) rs e d

-- the number is a multiple of all moduli, and of the one that it begins with
row-divides : (z m : ℕ) (r : Row) → 0 < m → HasModulus r → m ∣ common_modulus z m (r ∷ [])
row-divides z m (Eq f) p h = dvd_refl m
row-divides z m (Div n f) p h = elim (has_column z (Div n f)) as (λ t. m ∣ cond t (lcm m (unsigned_abs n)) m) [ true ↦ (IsLcm-lcm m (unsigned_abs n) p).0 | false ↦ dvd_refl m ]
row-divides z m (Ge f) p h = dvd_refl m

first-divides : (z m : ℕ) (rs : List Row) → 0 < m → HaveModuli rs → m ∣ common_modulus z m rs
first-divides z m [] p h = dvd_refl m
first-divides z m (r ∷ rs) p h =
    rw (common-cons z m r rs) (dvd_trans m (row-divides z m r p h.0) (first-divides z (common_modulus z m (r ∷ [])) rs (row-grows z m r p h.0).0 h.1))

pub all-divide : (z m k : ℕ) (rs : List Row) → 0 < m → HaveModuli rs → common_modulus z m rs ∣ k → is_common_multiple z (pos k) rs ≡ true
all-divide z m k [] p h d = refl
all-divide z m k (Eq f ∷ rs) p h d = all-divide z m k rs p h.1 d
all-divide z m k (Ge f ∷ rs) p h d = all-divide z m k rs p h.1 d
all-divide z m k (Div n f ∷ rs) p h d =
    let q = lcm-positive m (unsigned_abs n) p (size_positive n h.0) in
    elim (has_column z (Div n f)) as (λ t. common_modulus z (cond t (lcm m (unsigned_abs n)) m) rs ∣ k → cond t (divides (unsigned_abs n) (pos k) && is_common_multiple z (pos k) rs) (is_common_multiple z (pos k) rs) ≡ true) [
      | true ↦ λ e. both-true _ _
          (true-divides (unsigned_abs n) (pos k) (dvd_trans (unsigned_abs n) (dvd_trans (unsigned_abs n) (IsLcm-lcm m (unsigned_abs n) p).1 (first-divides z (lcm m (unsigned_abs n)) rs q h.1)) e))
          (all-divide z (lcm m (unsigned_abs n)) k rs q h.1 e)
      | false ↦ λ e. all-divide z m k rs p h.1 e
    ] d

residues-allowed : (z m n r : ℕ) (rows : List Row) → r + n ≡ m → is_common_multiple z (pos m) rows ≡ true → AreAllowed z rows (residues_from n z (pos m) r)
unfolding AreAllowed
residues-allowed z m zero r rows e h = tt
residues-allowed z m (suc n) r rows e h = (
  record {
    column = refl;
    allowed = both-true _ _ (true-le (pos 1) (pos m) (omega (arith, ints))) (both-true _ _ h (both-true _ _ (true-le (pos 0) (pos r) (omega (arith, ints))) (lt-ltb r m (omega arith))));
  },
  residues-allowed z m n (suc r) rows (omega arith) h,
)

pub all-residues : (z : ℕ) (rows : List Row) → HaveModuli rows → AreAllowed z rows (residues z (common_modulus z 1 rows))
unfolding AreAllowed
all-residues z rows h = by (common_modulus z 1 rows) (all-divide z 1 (common_modulus z 1 rows) rows (omega arith) h (dvd_refl _))
  where
    by : (m : ℕ) → is_common_multiple z (pos m) rows ≡ true → AreAllowed z rows (residues z m)
    by m d = elim (fits (pos m)) as (λ t. AreAllowed z rows (cond t (residues_from m z (pos m) 0) (None ∷ []))) [ true ↦ residues-allowed z m m 0 rows (omega arith) d | false ↦ tt ]

row-splinters : (z i n k : ℕ) (rows : List Row) → is_lower_row z (slice_get rows i) ≡ true → AreAllowed z rows (splinters_from n z i k)
unfolding AreAllowed
row-splinters z i zero k rows h = tt
row-splinters z i (suc n) k rows h = (record { column = refl; allowed = both-true _ _ h (true-le (pos 0) (pos k) (omega (arith, ints))) }, row-splinters z i n (suc k) rows h)

splinters-by : (z i : ℕ) (b : ℤ) (need : Option ℤ) (rows : List Row) → is_lower_row z (slice_get rows i) ≡ true → AreAllowed z rows (splinters_by need z i b)
unfolding AreAllowed
splinters-by z i b None rows h = tt
splinters-by z i b (Some a) rows h = elim (last_splinter_fits a b) as (λ t. AreAllowed z rows (cond t (splinters_from (count_to (last_splinter a b)) z i 0) (None ∷ []))) [ true ↦ row-splinters z i (count_to (last_splinter a b)) 0 rows h | false ↦ tt ]

splinters-at : (strategy : Strategy) (z i : ℕ) (rows : List Row) (r : Row) → slice_get rows i ≡ Some r → AreAllowed z rows (splinters_of strategy z rows i r)
unfolding AreAllowed
splinters-at strategy z i rows (Eq f) e = tt
splinters-at strategy z i rows (Div m f) e = tt
splinters-at strategy z i rows (Ge f) e = by (is_low z f) refl
  where
    by : (t : Bool) → is_low z f ≡ t → AreAllowed z rows (cond t (splinters_by (need_of strategy z rows f) z i (coef z f)) [])
    by true is = splinters-by z i (coef z f) (need_of strategy z rows f) rows (rw e is)
    by false is = tt

all-splinters : (strategy : Strategy) (z i : ℕ) (rows rs : List Row) → ((k : ℕ) → slice_get rows (i + k) ≡ slice_get rs k) → AreAllowed z rows (splinters strategy z rows i rs)
unfolding AreAllowed
all-splinters strategy z i rows [] h = tt
all-splinters strategy z i rows (r ∷ rs) h =
    allowed-both z rows (splinters_of strategy z rows i r) (splinters strategy z rows (suc i) rs) (splinters-at strategy z i rows r (subst (λ (k : ℕ). slice_get rows k ≡ Some r) (add-zero i) (h 0)))
    (all-splinters strategy z (suc i) rows rs (λ k. subst (λ (j : ℕ). slice_get rows j ≡ slice_get rs k) (later i k) (h (suc k))))
  where
    later : (i k : ℕ) → i + suc k ≡ suc i + k
    later i k = omega arith

pub all-bounds : (strategy : Strategy) (z : ℕ) (rows : List Row) → only_bounds z rows ≡ true → AreAllowed z rows (by_bounds strategy z rows)
unfolding AreAllowed
all-bounds strategy z rows o = by (is_one_sided z rows) refl
  where
    by : (t : Bool) → is_one_sided z rows ≡ t → AreAllowed z rows (cond t (Some (choice.Drop z) ∷ []) (Some (choice.Shadow z) ∷ splinters strategy z rows 0 rows))
    by true is = (record { column = refl; allowed = both-true _ _ o is }, tt)
    by false is = (record { column = refl; allowed = o }, all-splinters strategy z 0 rows rows (λ k. ap (slice_get rows) (zero-add k)))

pub all-allowed : (strategy : Strategy) (z : ℕ) (rows : List Row) → HaveModuli rows → AreAllowed z rows (alternatives_for strategy z rows)
unfolding AreAllowed alternatives_for
all-allowed strategy z rows h = by (first_equality z 0 rows) (has_divisibility z rows) refl refl
  where
    by : (o : Option ℕ) (d : Bool) → first_equality z 0 rows ≡ o → has_divisibility z rows ≡ d → AreAllowed z rows (alternatives_by strategy o z rows)
    by (Some i) d e is = let k = equality-found z 0 i rows e in (record { column = refl; allowed = subst (λ (j : ℕ). is_equality_of z (slice_get rows j) ≡ true) (same i k.0 k.1) k.2 }, tt)
      where
        same : (i k : ℕ) → i ≡ 0 + k → k ≡ i
        same i k e = omega arith
    by None true e is = rw is (all-residues z rows h)
    by None false e is = rw is (all-bounds strategy z rows (only-bounds z 0 rows e is))

-- each of the choices that are listed is legal
pub listed-legal : (strategy : Strategy) (z : ℕ) (c : Conj) (hs : List Choice) (h : Choice) → IsWellMade c → z < c.columns → are_absurd c.rows ≡ false → all_of (alternatives_for strategy z c.rows) ≡ Some hs → IsAmong h hs → is_legal h c ≡ true
listed-legal strategy z c hs h made within absurd_not e i =
    let a = among-allowed z c.rows (alternatives_for strategy z c.rows) hs h (all-allowed strategy z c.rows (moduli_of c.columns c.rows made)) e i in
    both-true _ _ (not-true (are_absurd c.rows) absurd_not) (both-true _ _ (rw a.column (lt-ltb z c.columns within)) a.allowed)

pub made-legal : (strategy : Strategy) (z : ℕ) (c : Conj) (res : Result (List Choice) FormStop) → IsWellMade c → z < c.columns → are_absurd c.rows ≡ false → GivenOf res IfWide (all_of (alternatives_for strategy z c.rows)) → IfOk res (λ hs. (h : Choice) → IsAmong h hs → is_legal h c ≡ true)
made-legal strategy z c (Ok hs) made within absurd_not e = λ h i. listed-legal strategy z c hs h made within absurd_not e i
made-legal strategy z c (Err Wide) made within absurd_not e = tt
made-legal strategy z c (Err (Memory want)) made within absurd_not e = tt

-- each of the choices that are tried is legal
tried-allowed : (z : ℕ) (rows : List Row) (hs : Alternatives) (h : Choice) → AreAllowed z rows hs → IsTried h hs → Allowed z rows h
unfolding AreAllowed
tried-allowed z rows [] h a i = absurd i
tried-allowed z rows (None ∷ hs) h a (inl e) = absurd cc
tried-allowed z rows (None ∷ hs) h a (inr i) = tried-allowed z rows hs h a i
tried-allowed z rows (Some x ∷ hs) h a (inl e) = let s : x ≡ h = cc in subst (Allowed z rows) s a.0
tried-allowed z rows (Some x ∷ hs) h a (inr i) = tried-allowed z rows hs h a.1 i

pub tried-legal : (strategy : Strategy) (z : ℕ) (c : Conj) (h : Choice) → IsWellMade c → z < c.columns → are_absurd c.rows ≡ false → IsTried h (alternatives_for strategy z c.rows) → is_legal h c ≡ true
tried-legal strategy z c h made within absurd_not i =
    let a = tried-allowed z c.rows (alternatives_for strategy z c.rows) h (all-allowed strategy z c.rows (moduli_of c.columns c.rows made)) i in
    both-true _ _ (not-true (are_absurd c.rows) absurd_not) (both-true _ _ (rw a.column (lt-ltb z c.columns within)) a.allowed)
