-- Searches among what is left of rows.
use Rattle.std.proofs.Common.{◌≡◌, ◌⊎◌, inl, inr, ℕ, zero, suc, ◌+◌, ◌<◌, ◌≤◌, List, [], ◌∷◌, ◌++◌, length, drop, take, get_or, Bool, true, false, refl, sym, ap, ◌∙◌, subst, arith}
use Rattle.std.proofs.lemmas.List.{drop_more, drop_all, take_more, take_all}
use Rattle.ac_forms.specs.Affine.{Affine}
use Rattle.ac_forms.specs.NormalForm.{is_absurd, clash}
use Rattle.ac_forms.specs.declared.row.Row.{Row}
use Rattle.ac_forms.specs.declared.row.Row.TheVariants.{Eq, Div, Ge}
use Rattle.ac_forms.specs.declared.normal.NormalRow.{NormalRow}
use Rattle.ac_forms.specs.declared.normal.NormalRow.TheVariants.{Kept, Dropped, Absurd}
use Rattle.ac_omega_certify.specs.RowRemainders.{HasLeft, IsLeftAt, HaveLeft, AreLeftAt, ClashesAt, ClashesWithNone, HaveClashAt, HaveNoClash, ClashOf, clashes}
use Rattle.ac_omega_certify.specs.declared.left.Left.{Left}

-- it is not among the first i
pub record Passed (r : NormalRow) (ls : List Left) (i : ℕ) : Type 0 where
  pub room : i ≤ length ls
  pub onward : HasLeft r ls → HasLeft r (drop i ls)

pub passed_start : (r : NormalRow) (ls : List Left) → Passed r ls 0
passed_start r ls = record { room = omega arith; onward = λ h. h }

next : (ls : List Left) (i : ℕ) (l : Left) → i < length ls → l ≡ get_or ls i l → drop i ls ≡ l ∷ drop (i + 1) ls
next ls i l less e = rw e (drop_more ls i l less)

other_left : (r : NormalRow) (ls : List Left) (i : ℕ) (l : Left) → i < length ls → l ≡ get_or ls i l → (l.row ≡ r → ⊥) → HasLeft r (drop i ls) → HasLeft r (drop (i + 1) ls)
other_left r ls i l less e n h = by (rw (next ls i l less e) at h)
  where
    by : (l.row ≡ r) ⊎ HasLeft r (drop (i + 1) ls) → HasLeft r (drop (i + 1) ls)
    by (inl q) = absurd (n q)
    by (inr q) = q

pub passed_more : (r : NormalRow) (ls : List Left) (i : ℕ) (l : Left) → Passed r ls i → i < length ls → l ≡ get_or ls i l → (l.row ≡ r → ⊥) → Passed r ls (i + 1)
passed_more r ls i l p less e n = record { room = omega arith; onward = λ h. other_left r ls i l less e n (p.onward h) }

pub passed_end : (r : NormalRow) (ls : List Left) (i : ℕ) → Passed r ls i → length ls ≤ i → HasLeft r ls → ⊥
passed_end r ls i p l h = rw (drop_all i ls l) at (p.onward h)

pub left_at : (r : NormalRow) (ls : List Left) (i : ℕ) (l : Left) → i < length ls → l ≡ get_or ls i l → l.row ≡ r → IsLeftAt l.place r ls
left_at r [] i l less e is = absurd (omega arith)
left_at r (x ∷ ls) zero l less e is = inl (ap (λ (y : Left). y.place) (sym e), ap (λ (y : Left). y.row) (sym e) ∙ is)
left_at r (x ∷ ls) (suc i) l less e is = inr (left_at r ls i l (omega arith) e is)

-- ---- absurd rows
not_absurd : (r : NormalRow) → is_absurd r ≡ false → r ≡ Absurd → ⊥
not_absurd r e f = absurd_false (rw f at e)
  where
    absurd_false : true ≡ false → ⊥
    absurd_false z = cc

absurd_cause : (r : NormalRow) → is_absurd r ≡ true → r ≡ Absurd
absurd_cause (Kept s) e = absurd cc
absurd_cause Dropped e = absurd cc
absurd_cause Absurd e = refl

pub absurd_more : (ls : List Left) (i : ℕ) (l : Left) → Passed Absurd ls i → i < length ls → l ≡ get_or ls i l → is_absurd l.row ≡ false → Passed Absurd ls (i + 1)
absurd_more ls i l p less e n = passed_more Absurd ls i l p less e (not_absurd l.row n)

pub absurd_found : (ls : List Left) (i : ℕ) (l : Left) → i < length ls → l ≡ get_or ls i l → is_absurd l.row ≡ true → IsLeftAt l.place Absurd ls
absurd_found ls i l less e n = left_at Absurd ls i l less e (absurd_cause l.row n)

-- ---- rows in turn
places-last : (ps : List ℕ) (p : ℕ) (rs : List Row) (r : Row) (ls : List Left) → AreLeftAt ps rs ls → IsLeftAt p (Kept r) ls → AreLeftAt (ps ++ p ∷ []) (rs ++ r ∷ []) ls
places-last [] p [] r ls a h = (h, tt)
places-last [] p (x ∷ rs) r ls a h = absurd a
places-last (q ∷ ps) p [] r ls a h = absurd a
places-last (q ∷ ps) p (x ∷ rs) r ls a h = (a.0, places-last ps p rs r ls a.1 h)

pub places_more : (ps new : List ℕ) (p : ℕ) (rs : List Row) (i : ℕ) (r : Row) (ls : List Left) → AreLeftAt ps (take i rs) ls → i < length rs → r ≡ get_or rs i r → IsLeftAt p (Kept r) ls → new ≡ ps ++ p ∷ [] → AreLeftAt new (take (i + 1) rs) ls
places_more ps new p rs i r ls a less e h is = rw (is, taken) (places-last ps p (take i rs) r ls a h)
  where
    taken : take (i + 1) rs ≡ take i rs ++ r ∷ []
    taken = rw (← e) at (take_more rs i r less)

pub places_end : (ps : List ℕ) (rs : List Row) (i : ℕ) (ls : List Left) → AreLeftAt ps (take i rs) ls → length rs ≤ i → AreLeftAt ps rs ls
places_end ps rs i ls a l = rw (take_all i rs l) at a

pub have_left_at : (rs : List Row) (i : ℕ) (r : Row) (ls : List Left) → HaveLeft rs ls → i < length rs → r ≡ get_or rs i r → HasLeft (Kept r) ls
have_left_at [] i r ls h l e = absurd (omega arith)
have_left_at (x ∷ rs) zero r ls h l e = subst (λ (y : Row). HasLeft (Kept y) ls) (sym e) h.0
have_left_at (x ∷ rs) (suc i) r ls h l e = have_left_at rs i r ls h.1 (omega arith) e

-- ---- one that clashes with an equality
pub record ClashPassed (f : Affine) (ls : List Left) (i : ℕ) : Type 0 where
  pub room : i ≤ length ls
  pub onward : (g : Affine) → clash (Eq f) (Eq g) ≡ true → HasLeft (Kept (Eq g)) ls → HasLeft (Kept (Eq g)) (drop i ls)

pub clash_start : (f : Affine) (ls : List Left) → ClashPassed f ls 0
clash_start f ls = record { room = omega arith; onward = λ g c h. h }

clash_row : (f : Affine) (r : NormalRow) → clashes f r ≡ true → (g : Affine) × (r ≡ Kept (Eq g)) × (clash (Eq f) (Eq g) ≡ true)
clash_row f (Kept (Eq g)) e = (g, refl, e)
clash_row f (Kept (Div m g)) e = absurd cc
clash_row f (Kept (Ge g)) e = absurd cc
clash_row f Dropped e = absurd cc
clash_row f Absurd e = absurd cc

apart : (f g : Affine) (r : NormalRow) → clashes f r ≡ false → clash (Eq f) (Eq g) ≡ true → r ≡ Kept (Eq g) → ⊥
apart f g r e c is = both (clash (Eq f) (Eq g)) c (rw is at e)
  where
    both : (b : Bool) → b ≡ true → b ≡ false → ⊥
    both b p q = cc

pub clash_more : (f : Affine) (ls : List Left) (i : ℕ) (l : Left) → ClashPassed f ls i → i < length ls → l ≡ get_or ls i l → clashes f l.row ≡ false → ClashPassed f ls (i + 1)
clash_more f ls i l p less e n = record {
  room = omega arith;
  onward = λ g c h. other_left (Kept (Eq g)) ls i l less e (apart f g l.row n c) (p.onward g c h);
}

pub clash_end : (f : Affine) (ls : List Left) (i : ℕ) → ClashPassed f ls i → length ls ≤ i → ClashesWithNone f ls
clash_end f ls i p l = λ g h c. rw (drop_all i ls l) at (p.onward g c h)

pub clash_found : (f : Affine) (ls : List Left) (i : ℕ) (l : Left) → i < length ls → l ≡ get_or ls i l → clashes f l.row ≡ true → ClashesAt f l.place ls
clash_found f ls i l less e n = let r = clash_row f l.row n in (r.0, left_at (Kept (Eq r.0)) ls i l less e r.1, r.2)

-- ---- two that clash
pub record PairPassed (ls : List Left) (i : ℕ) : Type 0 where
  pub room : i ≤ length ls
  pub onward : (f g : Affine) → clash (Eq f) (Eq g) ≡ true → HasLeft (Kept (Eq g)) ls → HasLeft (Kept (Eq f)) ls → HasLeft (Kept (Eq f)) (drop i ls)

pub pair_start : (ls : List Left) → PairPassed ls 0
pair_start ls = record { room = omega arith; onward = λ f g c k h. h }

pub pair_more : (ls : List Left) (i : ℕ) (l : Left) → PairPassed ls i → i < length ls → l ≡ get_or ls i l → ((f : Affine) → l.row ≡ Kept (Eq f) → ClashesWithNone f ls) → PairPassed ls (i + 1)
pair_more ls i l p less e n = record {
  room = omega arith;
  onward = λ f g c k h. other_left (Kept (Eq f)) ls i l less e (λ is. n f is g k c) (p.onward f g c k h);
}

pub pair_end : (ls : List Left) (i : ℕ) → PairPassed ls i → length ls ≤ i → HaveNoClash ls
pair_end ls i p l = λ f h g k c. rw (drop_all i ls l) at (p.onward f g c k h)

pub pair_found : (ls : List Left) (i x y : ℕ) (l : Left) → i < length ls → l ≡ get_or ls i l → ClashOf l x y ls → HaveClashAt x y ls
pair_found ls i x y l less e c = (c.1.0, subst (λ (n : ℕ). IsLeftAt n (Kept (Eq c.1.0)) ls) (sym c.0) (left_at (Kept (Eq c.1.0)) ls i l less e c.1.1), c.1.2)

pub ruleset search_steps = (passed_start, passed_more, passed_end, left_at, absurd_more, absurd_found, places_more, places_end, have_left_at, clash_start, clash_more, clash_end, clash_found, pair_start, pair_more, pair_end, pair_found)
