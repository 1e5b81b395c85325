-- Where a part is accepted, each point of the path is in it.
use Rattle.std.proofs.Common.{◌≡◌, ℕ, ◌+◌, ◌-◌, ◌≤◌, ℤ, List, [], ◌∷◌, ◌++◌, append_assoc, length, take, drop, nat_le, ◌⊎◌, inl, inr, Bool, true, false, ◌&&◌, ◌||◌, cond, Option, Some, None, refl, sym, ap, ◌∙◌, subst, arith}
use Rattle.std.specs.Prelude.{nat_eq}
use Rattle.std.specs.List.{list_any, list_all}
use Rattle.std.specs.Ordering.{int_eq}
use Rattle.std.proofs.lemmas.Int.{ints}
use Rattle.std.proofs.lemmas.List.{length-append, length-take-le, length-drop, take-append-drop}
use Rattle.ac_forms.specs.FormOrder.{row_eq, form_eq}
use Rattle.ac_forms.specs.Rows.{Holds, Meets}
use Rattle.ac_forms.specs.Affine.{Affine}
use Rattle.ac_forms.specs.declared.conj.Conj.{Conj}
use Rattle.ac_forms.specs.declared.row.Row.{Row}
use Rattle.ac_forms.specs.declared.row.Row.TheVariants.{Eq, Div, Ge}
use Rattle.ac_forms.proofs.Joining.{lists_same, both_of, either_of}
use Rattle.ac_forms.proofs.Standings.{among-holds}
use Rattle.ac_omega_steps.specs.IntegerPoints.{IsPoint}
use Rattle.ac_cert.specs.declared.types.Rule.{Rule}
use Rattle.ac_cert.specs.declared.types.Rule.TheVariants as rule
use Rattle.ac_sets.specs.DifferenceEnds.{conj_of, stands, is_standing, part_refusal, ExtendsSome, IsInPart}
use Rattle.ac_forms.specs.Renaming.{renamed_row}
use Rattle.ac_forms.specs.Standing.{is_among}
use Rattle.ac_sets.specs.SetIntersections.{quotients_from}
use Rattle.ac_sets.specs.MoveLaws.{moved-holds}
use Rattle.ac_sets.specs.declared.parts.Part.{Part}
use Rattle.ac_sets.specs.declared.parts.Parts.{Parts}
use Rattle.ac_forms.specs.Negation.{HasExtension}

same-int : (x y : ℤ) → int_eq x y ≡ true → x ≡ y
same-int x y e = grind (arith, ints, e)

same-form : (f g : Affine) → form_eq f g ≡ true → f ≡ g
same-form f g e =
    let b = both_of _ _ e in
    let cs = lists_same f.coefs g.coefs b.0 in
    let k = same-int f.konst g.konst b.1 in
    λ i. record { konst = k i; coefs = cs i }

-- rows that are equal by the test are one row
pub same-row : (r s : Row) → row_eq r s ≡ true → r ≡ s
same-row (Eq f) (Eq g) e = ap Eq (same-form f g e)
same-row (Eq f) (Div m g) e = absurd cc
same-row (Eq f) (Ge g) e = absurd cc
same-row (Div m f) (Eq g) e = absurd cc
same-row (Div m f) (Div n g) e =
    let b = both_of (int_eq m n) (form_eq f g) e in
    ap (λ (z : ℤ). Div z f) (same-int m n b.0) ∙ ap (Div n) (same-form f g b.1)
same-row (Div m f) (Ge g) e = absurd cc
same-row (Ge f) (Eq g) e = absurd cc
same-row (Ge f) (Div m g) e = absurd cc
same-row (Ge f) (Ge g) e = ap Ge (same-form f g e)

-- what stands on the path holds at its points
standing-meets : (n at columns : ℕ) (rows rs : List Row) (front gap back : List ℤ) → length front ≡ n → length (front ++ gap) ≡ at → length back ≡ columns - n → list_all (λ r. is_among (renamed_row (quotients_from n at columns) r) rows) rs ≡ true → Meets rows ((front ++ gap) ++ back) → Meets rs (front ++ back)
standing-meets n at columns rows [] front gap back l m k e h = tt
standing-meets n at columns rows (r ∷ rs) front gap back l m k e h =
    let b = both_of _ _ e in (
      (moved-holds n at columns r front gap back l m k).0 (among-holds (renamed_row (quotients_from n at columns) r) rows ((front ++ gap) ++ back) b.0 h),
      standing-meets n at columns rows rs front gap back l m k b.1 h,
    )

-- the numbers of the visible columns, of columns between, and of the last columns
record Cut (n by : ℕ) (p : List ℤ) : Type 0 where
  front : List ℤ
  gap : List ℤ
  back : List ℤ
  whole : (front ++ gap) ++ back ≡ p
  taken : front ≡ take n p
  first : length front ≡ n
  between : length gap ≡ by
  last : n + by + length back ≡ length p

cut : (n by : ℕ) (p : List ℤ) → n + by ≤ length p → Cut n by p
cut n by p room =
    let rest = drop n p in
    let left : length rest ≡ length p - n = length-drop n p in
    let first : length (take n p) ≡ n = length-take-le n p (omega (arith, room)) in
    let between : length (take by rest) ≡ by = length-take-le by rest (omega (arith, left, room)) in
    record {
      front = take n p;
      gap = take by rest;
      back = drop by rest;
      whole = append_assoc (take n p) (take by rest) (drop by rest) ∙ ap (λ (xs : List ℤ). take n p ++ xs) (take-append-drop by rest) ∙ take-append-drop n p;
      taken = refl;
      first = first;
      between = between;
      last = omega (arith, length-drop by rest, left, room);
    }

cut-extends : (n : ℕ) (path c : Conj) (p : List ℤ) → n ≤ c.columns → c.columns ≤ path.columns → list_all (λ r. is_among (renamed_row (quotients_from n (path.columns - (c.columns - n)) c.columns) r) path.rows) c.rows ≡ true → IsPoint path p → Cut n (path.columns - c.columns) p → HasExtension c (take n p)
cut-extends n path c p low high e at x =
    let met = subst (Meets path.rows) (sym x.whole) at.meets in
    let seam : length (x.front ++ x.gap) ≡ path.columns - (c.columns - n) = omega (arith, length-append x.front x.gap, x.first, x.between, low, high) in
    let rest : length x.back ≡ c.columns - n = omega (arith, x.last, at.long, low, high) in
    let meets = standing-meets n (path.columns - (c.columns - n)) c.columns path.rows c.rows x.front x.gap x.back x.first seam rest e met in
    let long : length (x.front ++ x.back) ≡ c.columns = omega (arith, length-append x.front x.back, x.first, x.last, at.long, low, high) in
    subst (λ (q : List ℤ). HasExtension c q) x.taken (x.back, long, meets)

standing-in : (n : ℕ) (path : Conj) (p : List ℤ) (o : Option Conj) → is_standing n path o ≡ true → IsPoint path p → ExtendsSome (take n p) o
standing-in n path p None e at = absurd cc
standing-in n path p (Some c) e at =
    let b = both_of (nat_le n c.columns) _ e in
    let d = both_of (nat_le c.columns path.columns) _ b.1 in
    let low : n ≤ c.columns = grind (arith, b.0) in
    let high : c.columns ≤ path.columns = grind (arith, d.0) in
    cut-extends n path c p low high d.1 at (cut n (path.columns - c.columns) p (omega (arith, low, high, at.long)))

accepted : (b : Bool) → cond b None (Some rule.Hit) ≡ None → b ≡ true
accepted true e = refl
accepted false e = absurd cc

pub part_sound : (parts : Parts) (e : Part) (path : Conj) (p : List ℤ) → part_refusal parts e path ≡ None → IsPoint path p → IsInPart parts e p
part_sound parts e path p r at = standing-in parts.inside.columns path p (conj_of parts e) (accepted (is_standing parts.inside.columns path (conj_of parts e)) r) at
