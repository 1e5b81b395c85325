-- How many pairs are formed for a column among rows of differences over m columns: at most m^2.
use Rattle.std.proofs.Common.{◌≡◌, inl, inr, ℕ, suc, ◌+◌, ◌*◌, ◌≤◌, cond, Bool, true, false, not, ◌&&◌, ◌||◌, int_eq, ℤ, pos, negsuc, ◌-ℤ◌, List, [], ◌∷◌, length, Option, Some, None, arith, refl, ap, sym, ◌∙◌, mul-le-mul_left}
use Rattle.std.specs.Int.Signed.{lt_z}
use Rattle.std.proofs.lemmas.Int.{ints}
use Rattle.ac_forms.specs.Affine.{Affine, coef}
use Rattle.ac_forms.specs.declared.row.Row.{Row}
use Rattle.ac_forms.specs.declared.row.Row.TheVariants.{Eq, Div, Ge}
use Rattle.ac_omega_steps.specs.declared.column.Bound.{Bound}
use Rattle.ac_omega_steps.specs.Bounds.{is_low, is_high, low_bound, high_bound, lows, highs, is_none}
use Rattle.ac_omega.specs.DifferenceRows.{one_in}
use Rattle.ac_omega.specs.Projection.{is_among}
use Rattle.ac_omega.specs.ColumnChoice.{is_unit, are_units, are_unit_pairs, precedes, key, passes, by_rule}
use Rattle.ac_omega.specs.ConjunctionCosts.{pairs_at, pairs_of, by_no_pair, pairs_unless, pairs_formed}
use Rattle.ac_omega.specs.declared.ranking.Rule.TheVariants as rule
use Rattle.ac_omega.proofs.DifferenceForms.{plus-is, minus-is, unit-at}
use Rattle.ac_omega.proofs.DifferenceRows.{IsOver, IsRow, Each}
use Rattle.ac_omega.proofs.DifferenceNormals.{both-true}
use Rattle.ac_omega.proofs.DifferenceCounts.{AreSame, AreApart}
use Rattle.ac_omega.proofs.DifferenceLabels.{Label, Has, SomeOf, label, ends, pairs, pigeonhole, length-pairs, length-somes, some-pair, place, both-gone, plus-gone, minus-gone, each-plain}
use Rattle.ac_omega.proofs.DifferenceChoices.{leave, leave-within}
use Rattle.ac_omega.proofs.DifferenceShadows.{IsBound, EachBound, each-low, low-one, high-one}
use Rattle.ac_omega.proofs.DifferenceNexts.{leave-less}
use Rattle.ac_omega.proofs.Empties.{AllFail, none-fail}
use Rattle.ac_omega.proofs.Pairs.{pairs-below}

-- the inequalities whose form passes a test
picked : (Affine → Bool) → List Row → List Row
picked test [] = []
picked test (Eq f ∷ rs) = picked test rs
picked test (Div m f ∷ rs) = picked test rs
picked test (Ge f ∷ rs) = cond (test f) (Ge f ∷ picked test rs) (picked test rs)

each-picked : (P : Row → Type 0) (test : Affine → Bool) (rs : List Row) → Each P rs → Each P (picked test rs)
unfolding picked
each-picked P test [] h = tt
each-picked P test (Eq f ∷ rs) h = each-picked P test rs h.1
each-picked P test (Div m f ∷ rs) h = each-picked P test rs h.1
each-picked P test (Ge f ∷ rs) h = by (test f) (each-picked P test rs h.1)
  where
    by : (t : Bool) → Each P (picked test rs) → Each P (cond t (Ge f ∷ picked test rs) (picked test rs))
    by true g = (h.0, g)
    by false g = g

apart-picked : (test : Affine → Bool) (rs : List Row) → AreApart rs → AreApart (picked test rs)
unfolding picked
apart-picked test [] a = tt
apart-picked test (Eq f ∷ rs) a = apart-picked test rs a.1
apart-picked test (Div m f ∷ rs) a = apart-picked test rs a.1
apart-picked test (Ge f ∷ rs) a = by (test f) (apart-picked test rs a.1)
  where
    by : (t : Bool) → AreApart (picked test rs) → AreApart (cond t (Ge f ∷ picked test rs) (picked test rs))
    by true g = (each-picked (λ s. AreSame (Ge f) s → ⊥) test rs a.0, g)
    by false g = g

-- the labels are enough for the forms that pass
abbrev AreLabelled : List Label → List ℕ → ℕ → (Affine → Bool) → Type 0
AreLabelled ls vars b test = (f : Affine) → IsOver vars b f → test f ≡ true → SomeOf (Has (Ge f)) ls

each-labelled : (ls : List Label) (vars : List ℕ) (b : ℕ) (test : Affine → Bool) (rs : List Row) → AreLabelled ls vars b test → Each (IsRow vars b) rs → Each (λ r. SomeOf (Has r) ls) (picked test rs)
unfolding picked
each-labelled ls vars b test [] law h = tt
each-labelled ls vars b test (Eq f ∷ rs) law h = each-labelled ls vars b test rs law h.1
each-labelled ls vars b test (Div m f ∷ rs) law h = absurd h.0
each-labelled ls vars b test (Ge f ∷ rs) law h = by (test f) refl (each-labelled ls vars b test rs law h.1)
  where
    by : (t : Bool) → test f ≡ t → Each (λ r. SomeOf (Has r) ls) (picked test rs) → Each (λ r. SomeOf (Has r) ls) (cond t (Ge f ∷ picked test rs) (picked test rs))
    by true e g = (law f h.0.0 e, g)
    by false e g = g

few-picked : (ls : List Label) (vars : List ℕ) (b : ℕ) (test : Affine → Bool) (rs : List Row) → AreLabelled ls vars b test → Each (IsRow vars b) rs → AreApart rs → length (picked test rs) ≤ length ls
few-picked ls vars b test rs law h a =
    pigeonhole (picked test rs) ls (each-plain vars b (picked test rs) (each-picked (IsRow vars b) test rs h)) (apart-picked test rs a) (each-labelled ls vars b test rs law h)

-- the other end of a difference that has the column
other-end : (z : ℕ) (vars : List ℕ) (b : ℕ) (f : Affine) (o : Option ℕ) → IsOver vars b f → ((x : ℕ) → o ≡ Some x → coef x f ≡ pos 0 → ⊥) → (o ≡ Some z → ⊥) → SomeOf (λ e. e ≡ o) (ends (leave z vars))
other-end z vars b f o h gone other = elim (place (leave z vars) o) [
  | inl p ↦ p
  | inr q ↦ absurd (elim (leave-within z q.0 vars q.2) [ inl s ↦ other (q.1 ∙ ap (λ (y : ℕ). Some y) s) | inr a ↦ gone q.0 q.1 (h.within q.0 a) ])
]

one-not : (c : ℤ) → c ≡ pos 1 → c ≡ pos 0 → ⊥
one-not c e f = omega (arith, ints)

less-not : (c : ℤ) → c ≡ negsuc 0 → c ≡ pos 0 → ⊥
less-not c e f = omega (arith, ints)

low-label : (z : ℕ) (vars : List ℕ) (b : ℕ) (f : Affine) → IsOver vars b f → is_low z f ≡ true → SomeOf (Has (Ge f)) (pairs 2 (Some z ∷ []) (ends (leave z vars)))
unfolding label
low-label z vars b f h l =
    let d = h.difference in
    let one : coef z f ≡ pos 1 = low-one (coef z f) (unit-at (λ j. coef j f) d z) l in
    let p : d.plus ≡ Some z = plus-is (λ j. coef j f) z d one in
    let apart : d.plus ≡ d.minus → ⊥ = λ e. one-not (coef z f) one (both-gone (λ j. coef j f) d e z) in
    let q = other-end z vars b f d.minus h (λ x e g. apart (minus-gone (λ j. coef j f) d x e g)) (λ e. apart (p ∙ sym e)) in
    some-pair (Ge f) 2 (Some z) d.minus (Some z ∷ []) (ends (leave z vars)) (inl refl) q (record { kind = refl; is = λ j. d.is j ∙ ap (λ (o : Option ℕ). one_in o j -ℤ one_in d.minus j) p })

high-label : (z : ℕ) (vars : List ℕ) (b : ℕ) (f : Affine) → IsOver vars b f → is_high z f ≡ true → SomeOf (Has (Ge f)) (pairs 2 (ends (leave z vars)) (Some z ∷ []))
unfolding label
high-label z vars b f h l =
    let d = h.difference in
    let less : coef z f ≡ negsuc 0 = high-one (coef z f) (unit-at (λ j. coef j f) d z) l in
    let m : d.minus ≡ Some z = minus-is (λ j. coef j f) z d less in
    let apart : d.plus ≡ d.minus → ⊥ = λ e. less-not (coef z f) less (both-gone (λ j. coef j f) d e z) in
    let q = other-end z vars b f d.plus h (λ x e g. apart (plus-gone (λ j. coef j f) d x e g)) (λ e. apart (e ∙ sym m)) in
    some-pair (Ge f) 2 d.plus (Some z) (ends (leave z vars)) (Some z ∷ []) q (inl refl) (record { kind = refl; is = λ j. d.is j ∙ ap (λ (o : Option ℕ). one_in d.plus j -ℤ one_in o j) m })

-- the bounds of a column, as rows
length-lows : (z : ℕ) (rs : List Row) → length (lows z rs) ≡ length (picked (λ f. is_low z f) rs)
unfolding picked
length-lows z [] = refl
length-lows z (Eq f ∷ rs) = length-lows z rs
length-lows z (Div m f ∷ rs) = length-lows z rs
length-lows z (Ge f ∷ rs) = by (is_low z f) (length-lows z rs)
  where
    by : (t : Bool) → length (lows z rs) ≡ length (picked (λ g. is_low z g) rs) → length (cond t (low_bound z f ∷ lows z rs) (lows z rs)) ≡ length (cond t (Ge f ∷ picked (λ g. is_low z g) rs) (picked (λ g. is_low z g) rs))
    by true e = ap suc e
    by false e = e

length-highs : (z : ℕ) (rs : List Row) → length (highs z rs) ≡ length (picked (λ f. is_high z f) rs)
unfolding picked
length-highs z [] = refl
length-highs z (Eq f ∷ rs) = length-highs z rs
length-highs z (Div m f ∷ rs) = length-highs z rs
length-highs z (Ge f ∷ rs) = by (is_high z f) (length-highs z rs)
  where
    by : (t : Bool) → length (highs z rs) ≡ length (picked (λ g. is_high z g) rs) → length (cond t (high_bound z f ∷ highs z rs) (highs z rs)) ≡ length (cond t (Ge f ∷ picked (λ g. is_high z g) rs) (picked (λ g. is_high z g) rs))
    by true e = ap suc e
    by false e = e

-- how many there are
count-ends : (z : ℕ) (vars : List ℕ) → is_among z vars ≡ true → length (ends (leave z vars)) ≤ length vars
unfolding ends
count-ends z vars i =
    let s : length (ends (leave z vars)) ≡ suc (length (leave z vars)) = ap suc (length-somes (leave z vars)) in
    omega (arith, s, leave-less z vars i)

lows-few : (vars : List ℕ) (b z : ℕ) (rs : List Row) → is_among z vars ≡ true → Each (IsRow vars b) rs → AreApart rs → length (lows z rs) ≤ length vars
lows-few vars b z rs i h a =
    let n = few-picked (pairs 2 (Some z ∷ []) (ends (leave z vars))) vars b (λ g. is_low z g) rs (λ f o l. low-label z vars b f o l) h a in
    let m : length (pairs 2 (Some z ∷ []) (ends (leave z vars))) ≡ 1 * length (ends (leave z vars)) = length-pairs 2 (Some z ∷ []) (ends (leave z vars)) in
    omega (arith, n, length-lows z rs, m, count-ends z vars i)

highs-few : (vars : List ℕ) (b z : ℕ) (rs : List Row) → is_among z vars ≡ true → Each (IsRow vars b) rs → AreApart rs → length (highs z rs) ≤ length vars
highs-few vars b z rs i h a =
    let n = few-picked (pairs 2 (ends (leave z vars)) (Some z ∷ [])) vars b (λ g. is_high z g) rs (λ f o l. high-label z vars b f o l) h a in
    let m : length (pairs 2 (ends (leave z vars)) (Some z ∷ [])) ≡ length (ends (leave z vars)) * 1 = length-pairs 2 (ends (leave z vars)) (Some z ∷ []) in
    omega (arith, n, length-highs z rs, m, count-ends z vars i)

-- none where no row has the column
not-low : (c : ℤ) → c ≡ pos 0 → lt_z (pos 0) c ≡ false
not-low c e = rw e refl

no-lows : (vars : List ℕ) (b z : ℕ) (rs : List Row) → is_among z vars ≡ false → Each (IsRow vars b) rs → lows z rs ≡ []
no-lows vars b z [] i h = refl
no-lows vars b z (Eq f ∷ rs) i h = no-lows vars b z rs i h.1
no-lows vars b z (Div m f ∷ rs) i h = absurd h.0
no-lows vars b z (Ge f ∷ rs) i h = by (is_low z f) (not-low (coef z f) (h.0.0.within z i)) (no-lows vars b z rs i h.1)
  where
    by : (t : Bool) → t ≡ false → lows z rs ≡ [] → cond t (low_bound z f ∷ lows z rs) (lows z rs) ≡ []
    by true e g = absurd cc
    by false e g = g

products : (a c v : ℕ) → a ≤ v → c ≤ v → a * c ≤ v * v
products a c v h g = omega (arith, mul-le-mul_left a g, mul-le-mul_left v h)

none-times : (ls : List Bound) (c n : ℕ) → ls ≡ [] → length ls * c ≤ n
none-times [] c n e = omega arith
none-times (l ∷ ls) c n e = absurd cc

pairs-few : (vars : List ℕ) (b z : ℕ) (rs : List Row) → Each (IsRow vars b) rs → AreApart rs → pairs_at rs z ≤ length vars * length vars
pairs-few vars b z rs h a = by (is_among z vars) refl
  where
    by : (t : Bool) → is_among z vars ≡ t → length (lows z rs) * length (highs z rs) ≤ length vars * length vars
    by true i = products (length (lows z rs)) (length (highs z rs)) (length vars) (lows-few vars b z rs i h a) (highs-few vars b z rs i h a)
    by false i = none-times (lows z rs) (length (highs z rs)) (length vars * length vars) (no-lows vars b z rs i h)

-- each pair has a size 1, so a column that rows bound from both sides passes
unit-one : (x : ℤ) → x ≡ pos 1 → int_eq x (pos 1) ≡ true
unit-one x e = rw e refl

units-all : (vars : List ℕ) (b z : ℕ) (c : ℤ) (ds : List Bound) → EachBound (IsBound vars b z c) ds → are_units ds ≡ true
units-all vars b z c [] h = refl
units-all vars b z c (d ∷ ds) h = both-true (is_unit d) (are_units ds) (unit-one d.size h.0.size) (units-all vars b z c ds h.1)

one-sided : (ls hs : List Bound) (u : Bool) → true ≡ u → (not (is_none ls || is_none hs) && u) ≡ false → length ls * length hs ≡ 0
one-sided [] hs u t e = omega arith
one-sided (l ∷ ls) [] u t e = omega arith
one-sided (l ∷ ls) (h ∷ hs) u t e = absurd cc

failing-none : (vars : List ℕ) (b z : ℕ) (rs : List Row) → Each (IsRow vars b) rs → passes rule.UnitPairs rs z ≡ false → length (lows z rs) * length (highs z rs) ≡ 0
failing-none vars b z rs h e =
    one-sided (lows z rs) (highs z rs) (are_unit_pairs (lows z rs) (highs z rs)) (pairs-below (lows z rs) (highs z rs) (units-all vars b z (pos 1) (lows z rs) (each-low vars b z rs h))) e

none-and-none : (m n : ℕ) → m ≡ 0 → n ≡ 0 → m + n ≡ 0
none-and-none m n e f = omega arith

all-failing-none : (vars : List ℕ) (b : ℕ) (rs : List Row) (zs : List ℕ) → Each (IsRow vars b) rs → AllFail (passes rule.UnitPairs rs) zs → pairs_of rs zs ≡ 0
unfolding AllFail
all-failing-none vars b rs [] h a = refl
all-failing-none vars b rs (z ∷ zs) h a = none-and-none (length (lows z rs) * length (highs z rs)) (pairs_of rs zs) (failing-none vars b z rs h a.0) (all-failing-none vars b rs zs h a.1)

least : (n : ℕ) → 0 ≤ n
least n = omega arith

least-of : (m n : ℕ) → m ≡ 0 → m ≤ n
least-of m n e = omega arith

pub formed-few : (vars cols : List ℕ) (b : ℕ) (rs : List Row) → Each (IsRow vars b) rs → AreApart rs → pairs_formed cols rs ≤ length vars * length vars
formed-few vars cols b rs h a = by (by_no_pair cols rs) (by_rule rule.UnitPairs cols rs) refl
  where
    by : (o p : Option ℕ) → by_rule rule.UnitPairs cols rs ≡ p → pairs_unless o p cols rs ≤ length vars * length vars
    by (Some y) p e = least (length vars * length vars)
    by None (Some z) e = pairs-few vars b z rs h a
    by None None e = least-of (pairs_of rs cols) (length vars * length vars) (all-failing-none vars b rs cols h (none-fail (precedes (key rule.UnitPairs rs)) (passes rule.UnitPairs rs) cols e))
