-- The rows of a normal form stand where what is left of rows does, or an absurd row stands.
use Rattle.std.proofs.Common.{◌≡◌, ◌==◌, ◌⊎◌, inl, inr, ℕ, suc, ◌^◌, ◌<◌, ◌≤◌, ℤ, pos, negsuc, ◌≤ℤ◌, List, [], ◌∷◌, length, map, Bool, true, false, cond, int_eq, int_le, unsigned_abs, refl, sym, ap, subst, arith}
use Rattle.std.specs.Prelude.{not, ◌≢◌}
use Rattle.std.proofs.lemmas.Int.{ints}
use Rattle.ac_base.specs.Gcd.{content}
use Rattle.ac_base.specs.Multiple.{divides}
use Rattle.ac_forms.specs.Affine.{Affine, coef, scaled}
use Rattle.ac_forms.specs.NormalForm.{clash, same_coefs, normal_form}
use Rattle.ac_forms.specs.NormalRows.{divided, leads_negative, signed, normal_row}
use Rattle.ac_forms.specs.ListMembers.{IsAmong}
use Rattle.ac_forms.specs.Traces.{IsLeftOf, HasAbsurd, HasClash}
use Rattle.ac_forms.specs.declared.conj.Conj.{Conj}
use Rattle.ac_forms.specs.declared.row.Row.{Row}
use Rattle.ac_forms.specs.declared.row.Row.TheVariants.{Eq, Div, Ge}
use Rattle.ac_forms.specs.declared.normal.NormalRow.{NormalRow}
use Rattle.ac_forms.specs.declared.normal.NormalRow.TheVariants.{Kept, Dropped, Absurd}
use Rattle.ac_forms.proofs.Joining.{lists_same, both_of}
use Rattle.ac_forms.proofs.Traces.{form_trace}
use Rattle.ac_omega_certify.specs.Descents.{Carries, ShowsAbsurd, IsFormUpTo2To122, IsRowUpTo2To122, AreRowsUpTo2To122}
use Rattle.ac_omega_certify.specs.RowRemainders.{LeftsStand, CarriesLefts, HasLeft, IsLeftAt, HaveLeft, AreLeftAt, HaveClashAt, HaveNoClash}
use Rattle.ac_omega_certify.specs.TreePathRows.{StandsAt, Stand, LeftStands, Reaches, Shows, Clash, Blends}
use Rattle.ac_omega_certify.specs.declared.left.Left.{Left}
use Rattle.ac_omega_certify.specs.declared.path.TreePath.{TreePath}
use Rattle.ac_omega_certify.proofs.Divisibilities.{get_or-scaled}
use Rattle.ac_omega_certify.proofs.LeftRows.{stand_reaches}
use Rattle.ac_omega_certify.proofs.NormalDivisibilities.{div_kept}
use Rattle.ac_omega_certify.proofs.Quotients.{coef-divided}
use Rattle.ac_omega_certify.proofs.SmallNumbers.{floor_small, turned_small, difference_fits}

-- one of the normal forms
abbrev Among : NormalRow → List NormalRow → Type 0
Among r [] = ⊥
Among r (y ∷ ys) = (y ≡ r) ⊎ Among r ys

left-among : (r : NormalRow) (ls : List Left) → HasLeft r ls → Among r (map (λ l. l.row) ls)
left-among r [] h = h
left-among r (l ∷ ls) (inl e) = inl e
left-among r (l ∷ ls) (inr h) = inr (left-among r ls h)

among-left : (r : NormalRow) (ls : List Left) → Among r (map (λ l. l.row) ls) → HasLeft r ls
among-left r [] h = h
among-left r (l ∷ ls) (inl e) = inl e
among-left r (l ∷ ls) (inr h) = inr (among-left r ls h)

at-left : (i : ℕ) (r : NormalRow) (ls : List Left) → IsLeftAt i r ls → HasLeft r ls
at-left i r [] h = h
at-left i r (l ∷ ls) (inl e) = inl e.1
at-left i r (l ∷ ls) (inr h) = inr (at-left i r ls h)

absurd-among : (rs : List Row) → HasAbsurd rs → Among Absurd (map normal_row rs)
absurd-among [] h = h
absurd-among (x ∷ rs) (inl e) = inl e
absurd-among (x ∷ rs) (inr h) = inr (absurd-among rs h)

kept-among : (r : Row) (rs : List Row) → IsLeftOf r rs → Among (Kept r) (map normal_row rs)
kept-among r [] h = h
kept-among r (x ∷ rs) (inl e) = inl e
kept-among r (x ∷ rs) (inr h) = inr (kept-among r rs h)

-- these are what is left of the rows
abbrev pub AreLeftOf : List Left → List Row → Type 0
AreLeftOf ls rs = map (λ (l : Left). l.row) ls ≡ map normal_row rs

from-rows : (r : NormalRow) (ls : List Left) (rs : List Row) → AreLeftOf ls rs → Among r (map normal_row rs) → HasLeft r ls
from-rows r ls rs e h = among-left r ls (subst (λ (xs : List NormalRow). Among r xs) (sym e) h)

to-rows : (r : NormalRow) (ls : List Left) (rs : List Row) → AreLeftOf ls rs → HasLeft r ls → Among r (map normal_row rs)
to-rows r ls rs e h = subst (λ (xs : List NormalRow). Among r xs) e (left-among r ls h)

-- only equalities clash
clash_of : (r s : Row) (ls : List Left) → HaveNoClash ls → HasLeft (Kept r) ls → HasLeft (Kept s) ls → clash r s ≡ true → ⊥
clash_of (Eq f) (Eq g) ls n h k e = n f h g k e
clash_of (Eq f) (Div m g) ls n h k e = cc
clash_of (Eq f) (Ge g) ls n h k e = cc
clash_of (Div m f) s ls n h k e = cc
clash_of (Ge f) s ls n h k e = cc

-- where no row is absurd and none clash, the rows of the normal form are among what is left
one_left : (rs : List Row) (ls : List Left) → AreLeftOf ls rs → ¬ HasLeft Absurd ls → HaveNoClash ls → (r : Row) → IsAmong r (normal_form rs) → HasLeft (Kept r) ls
one_left rs ls e a n r h = by (form_trace rs r h)
  where
    by : HasAbsurd rs ⊎ HasClash rs ⊎ IsLeftOf r rs → HasLeft (Kept r) ls
    by (inl x) = absurd (a (from-rows Absurd ls rs e (absurd-among rs x)))
    by (inr (inl c)) = absurd (clash_of c.0 c.1 ls n (from-rows (Kept c.0) ls rs e (kept-among c.0 rs c.2)) (from-rows (Kept c.1) ls rs e (kept-among c.1 rs c.3)) c.4)
    by (inr (inr l)) = from-rows (Kept r) ls rs e (kept-among r rs l)

all_left : (xs : List Row) (ls : List Left) → ((r : Row) → IsAmong r xs → HasLeft (Kept r) ls) → HaveLeft xs ls
all_left [] ls h = tt
all_left (x ∷ xs) ls h = (h x (inl refl), all_left xs ls (λ r o. h r (inr o)))

pub normal_left : (rs normal : List Row) (ls : List Left) → normal ≡ normal_form rs → AreLeftOf ls rs → ¬ HasLeft Absurd ls → HaveNoClash ls → HaveLeft normal ls
normal_left rs normal ls is e a n = rw is (all_left (normal_form rs) ls (one_left rs ls e a n))

-- ---- what stands
lefts_at : (names : List ℕ) (c : Conj) (ls : List Left) (i : ℕ) (r : NormalRow) → LeftsStand names c ls → IsLeftAt i r ls → LeftStands names c i r
lefts_at names c [] i r s h = absurd h
lefts_at names c (l ∷ ls) i r s (inl e) = rw (← e.0, ← e.1) s.0
lefts_at names c (l ∷ ls) i r s (inr h) = lefts_at names c ls i r s.1 h

pub absurd_settles : (u : TreePath) (start : Conj) (names : List ℕ) (rs : List Row) (is : List ℕ) (ls : List Left) (i : ℕ) → IsLeftAt i Absurd ls → CarriesLefts u start names rs is ls → ShowsAbsurd u start i
absurd_settles u start names rs is ls i h c = record { path = c.path; steps = c.steps; row = lefts_at names c.path ls i Absurd c.lefts h }

all_stand : (names : List ℕ) (c : Conj) (ls : List Left) (xs : List Row) (ps : List ℕ) → LeftsStand names c ls → AreLeftAt ps xs ls → Stand names c xs ps
all_stand names c ls [] [] s a = tt
all_stand names c ls [] (p ∷ ps) s a = absurd a
all_stand names c ls (x ∷ xs) [] s a = absurd a
all_stand names c ls (x ∷ xs) (p ∷ ps) s a = (lefts_at names c ls p (Kept x) s a.0, all_stand names c ls xs ps s a.1)

pub rows_settle : (u : TreePath) (start : Conj) (names : List ℕ) (rs : List Row) (is : List ℕ) (ls : List Left) (xs : List Row) (ps : List ℕ) → AreLeftAt ps xs ls → CarriesLefts u start names rs is ls → Carries u start names xs ps
rows_settle u start names rs is ls xs ps a c = record {
  path = c.path;
  steps = c.steps;
  stand = record { columns = c.stand.columns; rows = c.stand.rows; one = c.stand.one; names = c.stand.names; stand = all_stand names c.path ls xs ps c.lefts a };
}

-- ---- numbers of equalities that are left
signed_moderate : (d : ℕ) (f : Affine) → 0 < d → IsFormUpTo2To122 f → IsFormUpTo2To122 (signed (divided (pos d) f))
signed_moderate d f h m = by (leads_negative (divided (pos d) f).coefs)
  where
    above : pos 1 ≤ℤ pos d
    above = omega (arith, ints)

    konst : unsigned_abs (divided (pos d) f).konst ≤ 2 ^ 122
    konst = omega (arith, floor_small f.konst d h, m.konst)

    coefs : (j : ℕ) → unsigned_abs (coef j (divided (pos d) f)) ≤ 2 ^ 122
    coefs j = rw (coef-divided (pos d) f j above) (omega (arith, floor_small (coef j f) d h, m.coefs j))

    by : (b : Bool) → IsFormUpTo2To122 (cond b (scaled (negsuc 0) (divided (pos d) f)) (divided (pos d) f))
    by true = record { konst = omega (arith, turned_small (divided (pos d) f).konst, konst); coefs = λ j. rw (get_or-scaled (negsuc 0) (divided (pos d) f).coefs j) (omega (arith, turned_small (coef j (divided (pos d) f)), coefs j)) }
    by false = record { konst = konst; coefs = coefs }

eq_cases : (e f : Affine) (c z d : Bool) → cond c (cond z Dropped Absurd) (cond d (Kept (Eq (signed (divided (pos (content e.coefs)) e)))) Absurd) ≡ Kept (Eq f) → (c ≡ false) × (f ≡ signed (divided (pos (content e.coefs)) e))
eq_cases e f true true d is = absurd cc
eq_cases e f true false d is = absurd cc
eq_cases e f false z true is = (refl, cc)
eq_cases e f false z false is = absurd cc

no_content : (n : ℕ) → (n == 0) ≡ false → n ≡ 0 → ⊥
no_content n e z = grind arith

kept_moderate : (x : Row) (f : Affine) → IsRowUpTo2To122 x → normal_row x ≡ Kept (Eq f) → IsFormUpTo2To122 f
kept_moderate (Eq e) f up_to_2_to_122 is = by up_to_2_to_122 (eq_cases e f (content e.coefs == 0) (int_eq e.konst (pos 0)) (divides (content e.coefs) e.konst) is)
  where
    by : (content e.coefs ≡ 0) ⊎ IsFormUpTo2To122 e → ((content e.coefs == 0) ≡ false) × (f ≡ signed (divided (pos (content e.coefs)) e)) → IsFormUpTo2To122 f
    by (inl z) c = absurd (no_content (content e.coefs) c.0 z)
    by (inr m) c = rw c.1 (signed_moderate (content e.coefs) e (some (content e.coefs) c.0) m)
      where
        some : (n : ℕ) → (n == 0) ≡ false → 0 < n
        some n e = grind arith
kept_moderate (Div m e) f up_to_2_to_122 is = absurd (other (div_kept m e (Eq f) is).1)
  where
    other : {n : ℤ} {g : Affine} → Eq f ≡ Div n g → ⊥
    other q = cc
kept_moderate (Ge e) f up_to_2_to_122 is = absurd (by (content e.coefs == 0) (int_le (pos 0) e.konst) is)
  where
    by : (c z : Bool) → cond c (cond z Dropped Absurd) (Kept (Ge (divided (pos (content e.coefs)) e))) ≡ Kept (Eq f) → ⊥
    by true true q = cc
    by true false q = cc
    by false z q = cc

calm_kept : (rs : List Row) (f : Affine) → AreRowsUpTo2To122 rs → Among (Kept (Eq f)) (map normal_row rs) → IsFormUpTo2To122 f
calm_kept [] f up_to_2_to_122 h = absurd h
calm_kept (x ∷ rs) f up_to_2_to_122 (inl e) = kept_moderate x f up_to_2_to_122.0 e
calm_kept (x ∷ rs) f up_to_2_to_122 (inr h) = calm_kept rs f up_to_2_to_122.1 h

-- ---- two that clash
coefs_same : (f g : Affine) → same_coefs f g ≡ true → (j : ℕ) → coef j f ≡ coef j g
coefs_same f g e j = ap (λ (cs : List ℤ). coef j (record { konst = pos 0; coefs = cs })) (lists_same f.coefs g.coefs e)

konst_other : (x y : ℤ) → not (int_eq x y) ≡ true → x ≢ y
konst_other x y e = λ s. grind (arith, ints)

clashing : (f g : Affine) → clash (Eq f) (Eq g) ≡ true → Clash f g
clashing f g e =
    let b = both_of (same_coefs f g) (not (int_eq f.konst g.konst)) e in
    record { konst = konst_other f.konst g.konst b.1; coefs = coefs_same f g b.0 }

clash_blends : (f g : Affine) → IsFormUpTo2To122 f → IsFormUpTo2To122 g → Blends (pos 1) f (negsuc 0) g
clash_blends f g m n = record {
  konst = difference_fits f.konst g.konst (omega (arith, m.konst)) (omega (arith, n.konst));
  coefs = λ j. difference_fits (coef j f) (coef j g) (omega (arith, m.coefs j)) (omega (arith, n.coefs j));
}

-- the call that shows that two equalities clash
abbrev pub ShowsClash : TreePath → TreePath → ℕ → ℕ → ℕ → Type 0
ShowsClash u v x y i = (start path : Conj) (names : List ℕ) (f g : Affine) → Reaches u start path → StandsAt names path x (Eq f) → StandsAt names path y (Eq g) → Clash f g → Blends (pos 1) f (negsuc 0) g → Shows v start path names i Absurd

pub clash_settles : (u v : TreePath) (start : Conj) (names : List ℕ) (rs : List Row) (is : List ℕ) (ls : List Left) (x y i : ℕ) → AreRowsUpTo2To122 rs → AreLeftOf ls rs → HaveClashAt x y ls → ShowsClash u v x y i → CarriesLefts u start names rs is ls → ShowsAbsurd v start i
clash_settles u v start names rs is ls x y i up_to_2_to_122 e h shows c =
    let f = h.0 in
    let g = h.2.0 in
    let mf = calm_kept rs f up_to_2_to_122 (to-rows (Kept (Eq f)) ls rs e (at-left x (Kept (Eq f)) ls h.1)) in
    let mg = calm_kept rs g up_to_2_to_122 (to-rows (Kept (Eq g)) ls rs e (at-left y (Kept (Eq g)) ls h.2.1)) in
    let s = shows start c.path names f g (stand_reaches u start c.path names rs is c.steps c.stand) (lefts_at names c.path ls x (Kept (Eq f)) c.lefts h.1) (lefts_at names c.path ls y (Kept (Eq g)) c.lefts h.2.1) (clashing f g h.2.2) (clash_blends f g mf mg) in
    record { path = s.further; steps = s.reaches.steps; row = s.stands }

-- as many places as rows
pub left_places : (ps : List ℕ) (rs : List Row) (ls : List Left) → AreLeftAt ps rs ls → length ps ≡ length rs
left_places [] [] ls h = refl
left_places [] (r ∷ rs) ls h = absurd h
left_places (p ∷ ps) [] ls h = absurd h
left_places (p ∷ ps) (r ∷ rs) ls h = ap (λ (n : ℕ). suc n) (left_places ps rs ls h.1)
