-- An integer for a column exists exactly where one of its choices leaves rows that have a point.
use Rattle.std.proofs.Common.{◌≡◌, ◌↔◌, ◌⊎◌, inl, inr, ℕ, zero, suc, ◌+◌, ◌<◌, ℤ, pos, negsuc, ◌≤ℤ◌, Bool, true, false, cond, ◌||◌, List, [], ◌∷◌, ◌++◌, length, set, slice_get, Option, Some, None, arith, refl, ap, sym, subst}
use Rattle.std.specs.Prelude.{option_map, Result, Ok, Err, IfOk}
use Rattle.std.proofs.lemmas.Int.{ints}
use Rattle.ac_forms.specs.Affine.{Affine, coef}
use Rattle.ac_forms.specs.Fits.{fits}
use Rattle.ac_forms.specs.Rows.{HaveModuli, Meets, IsWellMade}
use Rattle.ac_forms.proofs.Passes.{moduli_of}
use Rattle.ac_forms.specs.declared.conj.Conj.{Conj}
use Rattle.ac_forms.specs.declared.row.Row.{Row}
use Rattle.ac_forms.specs.declared.row.Row.TheVariants.{Ge}
use Rattle.ac_forms.specs.declared.stop.FormStop.{FormStop}
use Rattle.ac_forms.specs.declared.stop.FormStop.TheVariants.{Wide, Memory}
use Rattle.ac_omega_steps.specs.declared.choose.Choice.{Choice}
use Rattle.ac_omega_steps.specs.declared.choose.Choice.TheVariants as choice
use Rattle.ac_omega_steps.specs.Bounds.{is_low, low_bound, lows, highs, is_none, only_bounds, is_one_sided, last_splinter}
use Rattle.ac_omega_steps.specs.Choices.{is_equality_of, left_by}
use Rattle.ac_omega_steps.specs.ChoiceFits.{sizes_fit}
use Rattle.ac_omega_steps.proofs.Covering.{covers-equal, covers-residue, covers-drop}
use Rattle.ac_omega_exact.specs.Exact.{Needs, Suffices, IsOnNeeded}
use Rattle.ac_omega_exact.specs.ExactnessTests.{economical, full, pairs_fit}
use Rattle.ac_omega_exact.proofs.Covering.{covers-needed}
use Rattle.ac_omega_exact.proofs.Implying.{economical-suffices, full-suffices}
use Rattle.ac_omega_steps.proofs.Lifting.{lifts-somewhere}
use Rattle.ac_forms.specs.FormStops.{GivenOf, IfWide}
use Rattle.ac_forms.specs.ListMembers.{IsAmong}
use Rattle.ac_omega_certify.specs.Alternatives.{Alternatives, first_equality, has_divisibility, common_modulus, residues_from, residues, splinters_from, count_to, last_splinter_fits, splinters_by, splinters_of, splinters, by_bounds, alternatives_by, alternatives_for, all_of}
use Rattle.ac_omega.proofs.Moduli.{common-grows}
use Rattle.ac_omega.proofs.Legal.{Allowed, all-allowed, among-allowed, only-bounds}
use Rattle.ac_omega_certify.proofs.Tried.{equality-found}
use Rattle.ac_omega_certify.specs.declared.strategy.Strategy.{Strategy}
use Rattle.ac_omega_certify.specs.declared.strategy.Strategy.TheVariants.{Full, Economical}

-- the choice is one of these, up to the first that is none
IsTried : Choice → Alternatives → Type 0
IsTried h [] = ⊥
IsTried h (None ∷ hs) = Unit {0}
IsTried h (Some x ∷ hs) = (x ≡ h) ⊎ IsTried h hs

tried-among : (h : Choice) (tries : Alternatives) (hs : List Choice) → IsTried h tries → all_of tries ≡ Some hs → IsAmong h hs
unfolding IsTried
tried-among h [] hs t e = absurd t
tried-among h (None ∷ tries) hs t e = absurd cc
tried-among h (Some x ∷ tries) hs t e = by h x (all_of tries) hs t e (λ rest u f. tried-among h tries rest u f)
  where
    by : (h x : Choice) (o : Option (List Choice)) (hs : List Choice) → (x ≡ h) ⊎ IsTried h tries → option_map (λ rest. x ∷ rest) o ≡ Some hs → ((rest : List Choice) → IsTried h tries → o ≡ Some rest → IsAmong h rest) → IsAmong h hs
    by h x None hs t e go = absurd cc
    by h x (Some rest) hs t e go =
        let is : x ∷ rest ≡ hs = cc in
        subst (IsAmong h) is (elim t [ inl same ↦ inl (sym same) | inr later ↦ inr (go rest later refl) ])

tried-first : (h : Choice) (xs ys : Alternatives) → IsTried h xs → IsTried h (xs ++ ys)
unfolding IsTried
tried-first h [] ys t = absurd t
tried-first h (None ∷ xs) ys t = tt
tried-first h (Some x ∷ xs) ys t = elim t [ inl same ↦ inl same | inr later ↦ inr (tried-first h xs ys later) ]

tried-second : (h : Choice) (xs ys : Alternatives) → IsTried h ys → IsTried h (xs ++ ys)
unfolding IsTried
tried-second h [] ys t = t
tried-second h (None ∷ xs) ys t = tt
tried-second h (Some x ∷ xs) ys t = inr (tried-second h xs ys t)

residue-from : (z : ℕ) (m : ℤ) (n d r : ℕ) → d < n → IsTried (choice.Residue z m (pos (r + d))) (residues_from n z m r)
unfolding IsTried
residue-from z m zero d r h = absurd (omega arith)
residue-from z m (suc n) zero r h = inl (ap (λ k. choice.Residue z m (pos k)) (same r))
  where
    same : (r : ℕ) → r ≡ r + zero
    same r = omega arith
residue-from z m (suc n) (suc d) r h = inr (subst (λ (k : ℕ). IsTried (choice.Residue z m (pos k)) (residues_from n z m (suc r))) (later r d) (residue-from z m n d (suc r) (omega arith)))
  where
    later : (r d : ℕ) → suc r + d ≡ r + suc d
    later r d = omega arith

residue-tried : (z m r : ℕ) → r < m → IsTried (choice.Residue z (pos m) (pos r)) (residues z m)
unfolding IsTried
residue-tried z m r h =
    elim (fits (pos m)) as (λ t. IsTried (choice.Residue z (pos m) (pos r)) (cond t (residues_from m z (pos m) 0) (None ∷ []))) [
      | true ↦ subst (λ (k : ℕ). IsTried (choice.Residue z (pos m) (pos k)) (residues_from m z (pos m) 0)) (same r) (residue-from z (pos m) m r 0 h)
      | false ↦ tt
    ]
  where
    same : (r : ℕ) → 0 + r ≡ r
    same r = omega arith

splinter-from : (z i n d k : ℕ) → d < n → IsTried (choice.Splinter z i (pos (k + d))) (splinters_from n z i k)
unfolding IsTried
splinter-from z i zero d k h = absurd (omega arith)
splinter-from z i (suc n) zero k h = inl (ap (λ j. choice.Splinter z i (pos j)) (same k))
  where
    same : (r : ℕ) → r ≡ r + zero
    same r = omega arith
splinter-from z i (suc n) (suc d) k h = inr (subst (λ (j : ℕ). IsTried (choice.Splinter z i (pos j)) (splinters_from n z i (suc k))) (later k d) (splinter-from z i n d (suc k) (omega arith)))
  where
    later : (r d : ℕ) → suc r + d ≡ r + suc d
    later r d = omega arith

below_count : (k : ℕ) (last : ℤ) → pos k ≤ℤ last → k < count_to last
below_count k (pos n) h = omega (arith, ints)
below_count k (negsuc n) h = absurd (omega (arith, ints))

splinter-by : (z i k : ℕ) (a b : ℤ) → pos k ≤ℤ last_splinter a b → IsTried (choice.Splinter z i (pos k)) (splinters_by (Some a) z i b)
unfolding IsTried
splinter-by z i k a b h =
    elim (last_splinter_fits a b) as (λ t. IsTried (choice.Splinter z i (pos k)) (cond t (splinters_from (count_to (last_splinter a b)) z i 0) (None ∷ []))) [
      | true ↦ subst (λ (j : ℕ). IsTried (choice.Splinter z i (pos j)) (splinters_from (count_to (last_splinter a b)) z i 0)) (same k) (splinter-from z i (count_to (last_splinter a b)) k 0 (below_count k _ h))
      | false ↦ tt
    ]
  where
    same : (r : ℕ) → 0 + r ≡ r
    same r = omega arith

-- up to which size the splinters of a lower row go, where its numbers fit
abbrev needs : Strategy → ℕ → List Row → Needs
needs Full z rows = full z rows
needs Economical z rows = economical z rows

splinter-where : (t : Bool) (z i k : ℕ) (a b : ℤ) → pos k ≤ℤ last_splinter a b → IsTried (choice.Splinter z i (pos k)) (splinters_by (cond t (Some a) None) z i b)
unfolding IsTried
splinter-where true z i k a b h = splinter-by z i k a b h
splinter-where false z i k a b h = tt

splinter-here : (strategy : Strategy) (z i k : ℕ) (rows : List Row) (f : Affine) → is_low z f ≡ true → pos k ≤ℤ last_splinter (needs strategy z rows f) (coef z f) → IsTried (choice.Splinter z i (pos k)) (splinters_of strategy z rows i (Ge f))
splinter-here Full z i k rows f e h = rw e (splinter-where (sizes_fit (highs z rows)) z i k (full z rows f) (coef z f) h)
splinter-here Economical z i k rows f e h = rw e (splinter-where (pairs_fit (low_bound z f) (highs z rows)) z i k (economical z rows f) (coef z f) h)

splinter-tried : (strategy : Strategy) (z i k j : ℕ) (rows : List Row) (f : Affine) (rs : List Row) → slice_get rs j ≡ Some (Ge f) → is_low z f ≡ true → pos k ≤ℤ last_splinter (needs strategy z rows f) (coef z f)
    → IsTried (choice.Splinter z (i + j) (pos k)) (splinters strategy z rows i rs)
splinter-tried strategy z i k j rows f [] e low h = absurd cc
splinter-tried strategy z i k zero rows f (r ∷ rs) e low h =
    let is : r ≡ Ge f = cc in
    tried-first _ (splinters_of strategy z rows i r) (splinters strategy z rows (suc i) rs)
    (rw is (subst (λ (n : ℕ). IsTried (choice.Splinter z n (pos k)) (splinters_of strategy z rows i (Ge f))) (same i) (splinter-here strategy z i k rows f low h)))
  where
    same : (r : ℕ) → r ≡ r + zero
    same r = omega arith
splinter-tried strategy z i k (suc j) rows f (r ∷ rs) e low h =
    tried-second _ (splinters_of strategy z rows i r) (splinters strategy z rows (suc i) rs)
    (subst (λ (n : ℕ). IsTried (choice.Splinter z n (pos k)) (splinters strategy z rows (suc i) rs)) (later i j) (splinter-tried strategy z (suc i) k j rows f rs e low h))
  where
    later : (r d : ℕ) → suc r + d ≡ r + suc d
    later r d = omega arith

-- one of the choices leaves rows that have a point with the other numbers
pub HasPoint : ℕ → List Row → List ℤ → Alternatives → Type 0
HasPoint z rows p tries = (h : Choice) × IsTried h tries × (w : ℤ) × Meets (left_by h rows) (set p z w)

or-false : (a b : Bool) → (a || b) ≡ false → b ≡ false
or-false true b e = absurd cc
or-false false b e = e

needs-suffice : (strategy : Strategy) (z : ℕ) (rows : List Row) → is_one_sided z rows ≡ false → Suffices (needs strategy z rows) z rows
needs-suffice Full z rows e = full-suffices z rows (or-false (is_none (lows z rows)) (is_none (highs z rows)) e)
needs-suffice Economical z rows e = economical-suffices z rows

bounds-cover : (strategy : Strategy) (z : ℕ) (rows : List Row) (p : List ℤ) (v : ℤ) → z < length p → only_bounds z rows ≡ true → Meets rows (set p z v) → HasPoint z rows p (by_bounds strategy z rows)
unfolding HasPoint IsTried
bounds-cover strategy z rows p v l o m = by (is_one_sided z rows) refl
  where
    by : (t : Bool) → is_one_sided z rows ≡ t → HasPoint z rows p (cond t (Some (choice.Drop z) ∷ []) (Some (choice.Shadow z) ∷ splinters strategy z rows 0 rows))
    by true e = (choice.Drop z, inl refl, v, covers-drop z rows (set p z v) m)
    by false e =
        elim (covers-needed (needs strategy z rows) z rows p v l o (needs-suffice strategy z rows e) m) [
          | inl s ↦ (choice.Shadow z, inl refl, v, s)
          | inr s ↦ (choice.Splinter z s.place (pos s.worth), inr (on s), v, s.meets)
        ]
      where
        on : (s : IsOnNeeded (needs strategy z rows) z rows (set p z v)) → IsTried (choice.Splinter z s.place (pos s.worth)) (splinters strategy z rows 0 rows)
        on s = subst (λ (n : ℕ). IsTried (choice.Splinter z n (pos s.worth)) (splinters strategy z rows 0 rows)) (same s.place) (splinter-tried strategy z 0 s.worth s.place rows s.form rows s.at s.low s.within)
          where
            same : (r : ℕ) → 0 + r ≡ r
            same r = omega arith

residues-cover : (z : ℕ) (rows : List Row) (p : List ℤ) (v : ℤ) → z < length p → HaveModuli rows → Meets rows (set p z v) → HasPoint z rows p (residues z (common_modulus z 1 rows))
unfolding HasPoint
residues-cover z rows p v l h m =
    let one = common-grows z 1 rows (omega arith) h in
    let c = covers-residue z (common_modulus z 1 rows) rows p v l (omega (arith, one)) m in
    (choice.Residue z (pos (common_modulus z 1 rows)) (pos c.0), residue-tried z (common_modulus z 1 rows) c.0 c.1, c.2, c.3)

-- where there is an integer, one of the choices has a point
tries-cover : (strategy : Strategy) (z : ℕ) (rows : List Row) (p : List ℤ) (v : ℤ) → z < length p → HaveModuli rows → Meets rows (set p z v) → HasPoint z rows p (alternatives_for strategy z rows)
unfolding HasPoint IsTried alternatives_for
tries-cover strategy z rows p v l h m = by (first_equality z 0 rows) (has_divisibility z rows) refl refl
  where
    by : (o : Option ℕ) (d : Bool) → first_equality z 0 rows ≡ o → has_divisibility z rows ≡ d → HasPoint z rows p (alternatives_by strategy o z rows)
    by (Some i) d e is =
        let k = equality-found z 0 i rows e in
        (choice.Equal z i, inl refl, v, covers-equal z i rows p v l (subst (λ (j : ℕ). is_equality_of z (slice_get rows j) ≡ true) (same i k.0 k.1) k.2) m)
      where
        same : (i k : ℕ) → i ≡ 0 + k → k ≡ i
        same i k e = omega arith
    by None true e is = rw is (residues-cover z rows p v l h m)
    by None false e is = rw is (bounds-cover strategy z rows p v l (only-bounds z 0 rows e is) m)

pub listed-complete : (strategy : Strategy) (z : ℕ) (c : Conj) (hs : List Choice) → IsWellMade c → z < c.columns → all_of (alternatives_for strategy z c.rows) ≡ Some hs → (p : List ℤ) → length p ≡ c.columns
    → ((v : ℤ) × Meets c.rows (set p z v)) ↔ ((h : Choice) × IsAmong h hs × (w : ℤ) × Meets (left_by h c.rows) (set p z w))
unfolding HasPoint
listed-complete strategy z c hs made within e p l =
    let moduli = moduli_of c.columns c.rows made in (
      (λ m. let f = tries-cover strategy z c.rows p m.0 (omega (arith, l)) moduli m.1 in (f.0, tried-among f.0 (alternatives_for strategy z c.rows) hs f.1 e, f.2, f.3)),
      (λ f. back f.0 f.2 (among-allowed z c.rows (alternatives_for strategy z c.rows) hs f.0 (all-allowed strategy z c.rows moduli) e f.1) f.3),
    )
  where
    back : (h : Choice) (w : ℤ) → Allowed z c.rows h → Meets (left_by h c.rows) (set p z w) → (v : ℤ) × Meets c.rows (set p z v)
    back h w a m =
        subst (λ (x : ℕ). (v : ℤ) × Meets c.rows (set p x v)) a.column
        (lifts-somewhere h c.rows p w a.allowed (rw a.column (omega (arith, l))) (subst (λ (x : ℕ). Meets (left_by h c.rows) (set p x w)) (sym a.column) m))

pub made-complete : (strategy : Strategy) (z : ℕ) (c : Conj) (res : Result (List Choice) FormStop) → IsWellMade c → z < c.columns → GivenOf res IfWide (all_of (alternatives_for strategy z c.rows))
    → IfOk res (λ hs. (p : List ℤ) → length p ≡ c.columns → ((v : ℤ) × Meets c.rows (set p z v)) ↔ ((h : Choice) × IsAmong h hs × (w : ℤ) × Meets (left_by h c.rows) (set p z w)))
made-complete strategy z c (Ok hs) made within e = λ p l. listed-complete strategy z c hs made within e p l
made-complete strategy z c (Err Wide) made within e = tt
made-complete strategy z c (Err (Memory want)) made within e = tt
