-- An equality whose coefficients have no common divisor has a normal form.
use Rattle.std.proofs.Common.{◌≡◌, ◌==◌, ℕ, zero, suc, ◌+◌, ◌<◌, ◌≤◌, ◌++◌, length, add-one, if◌then◌else◌, ℤ, pos, List, [], ◌∷◌, Bool, true, false, cond, refl, ap, ◌∙◌, arith, unsigned_abs}
use Rattle.std.specs.Ordering.{int_eq}
use Rattle.std.proofs.lemmas.Bool.{eqb-true, eqb-false}
use Rattle.std.proofs.lemmas.List.{length-map}
use Rattle.ac_base.specs.Dot.{floored}
use Rattle.ac_base.proofs.Divisors.{gcd_all_divides}
use Rattle.ac_widen.specs.Combinations.{Each}
use Rattle.ac_hull.specs.Equalities.{unit, coefs_of, least_coefs, equality_of, equalities_below, is_free}
use Rattle.ac_hull.specs.EliminationRange.{CanEquality, CanEqualities}
use Rattle.ac_hull.specs.declared.line.Line.{Line}
use Rattle.ac_hull.proofs.Clearing.{length_unit, length_cleared}
use Rattle.ac_hull.proofs.Reading.{floored_least}
use Rattle.ac_base.proofs.Divisors.{true-divides}
use Rattle.std.proofs.Math.Nat.{one-dvd}
use Rattle.ac_base.specs.Gcd.{content}
use Rattle.ac_base.specs.Multiple.{divides}
use Rattle.ac_forms.specs.Affine.{Affine}
use Rattle.ac_forms.specs.NormalRows.{normal_eq}
use Rattle.ac_forms.specs.declared.row.Row.TheVariants.{Eq}
use Rattle.ac_forms.specs.declared.normal.NormalRow.TheVariants.{Kept, Dropped, Absurd}
use Rattle.ac_hull.specs.Equalities.{normal_equality}
use Rattle.ac_base.proofs.Bits.{again_128}
use Rattle.ac_hull.proofs.Sums.{plus_none}

two_tests : {A : Type 0} (x y z : A) (a b : Bool) → a ≡ false → b ≡ true → cond a x (cond b y z) ≡ y
two_tests x y z true b e f = absurd cc
two_tests x y z false true e f = refl
two_tests x y z false false e f = absurd cc

not_zero : (n : ℕ) → n ≡ 1 → (n == 0) ≡ false
not_zero n e = rw e refl

one_divides : (n : ℕ) (z : ℤ) → n ≡ 1 → divides n z ≡ true
one_divides n z e = rw e (true-divides 1 z (one-dvd (unsigned_abs z)))

pub normal_is : (f : Affine) → content f.coefs ≡ 1 → normal_eq f ≡ Kept (Eq (normal_equality f))
normal_is f e =
    two_tests (cond (int_eq f.konst (pos 0)) Dropped Absurd) (Kept (Eq (normal_equality f))) Absurd (content f.coefs == 0) (divides (content f.coefs) f.konst)
    (not_zero (content f.coefs) e) (one_divides (content f.coefs) f.konst e)

pub ruleset through_steps = (normal_is, again_128, plus_none)

-- the lengths and contents that an equality needs
pub unit_within : (columns z : ℕ) (ls : List Line) → z < columns → Each (λ l. length l.coords ≡ columns) ls → Each (λ l. length (unit columns z) ≤ length l.coords) ls
unit_within columns z [] h a = tt
unit_within columns z (l ∷ ls) h a = (omega (arith, a.0, length_unit columns z h), unit_within columns z ls h a.1)

pub least_one : (xs : List ℤ) → 0 < content xs → content (floored (pos (content xs)) xs) ≡ 1
least_one xs h = floored_least (content (floored (pos (content xs)) xs)) xs h (gcd_all_divides 0 (floored (pos (content xs)) xs)).1

pub least_within : (columns z : ℕ) (ls : List Line) (f : List ℤ) → z < columns → length f ≡ columns → length (least_coefs columns ls z) ≤ length f
least_within columns z ls f h e =
    let a : length (least_coefs columns ls z) ≡ length (coefs_of columns ls z) = length-map (coefs_of columns ls z) _ in
    omega (arith, a, length_cleared ls (unit columns z), length_unit columns z h, e)

pub ruleset equality_steps = (unit_within, least_one, least_within)

pub record EqualHalfway (columns : ℕ) (ls : List Line) (f : List ℤ) (made : List Affine) (z : ℕ) : Type 0 where
  pub room : z ≤ columns
  pub can : CanEqualities columns ls f z
  pub value : made ≡ equalities_below columns ls f z

pub equal_start : (columns : ℕ) (ls : List Line) (f : List ℤ) → EqualHalfway columns ls f [] 0
equal_start columns ls f = record { room = omega arith; can = tt; value = refl }

pub equal_step : (columns : ℕ) (ls : List Line) (f : List ℤ) (made new : List Affine) (z : ℕ) → EqualHalfway columns ls f made z → z < columns → (is_free ls z ≡ true → CanEquality columns ls f z)
    → new ≡ (if is_free ls z then made ++ normal_equality (equality_of columns ls f z) ∷ [] else made) → EqualHalfway columns ls f new (z + 1)
equal_step columns ls f made new z h l can is =
    rw add-one (record { room = omega arith; can = (h.can, can); value = is ∙ ap (λ t. if is_free ls z then t ++ normal_equality (equality_of columns ls f z) ∷ [] else t) h.value })

can_last : (columns : ℕ) (ls : List Line) (f : List ℤ) (n z : ℕ) (b : Bool) → (n == z) ≡ b → z < suc n → (is_free ls n ≡ true → CanEquality columns ls f n) → (z < n → CanEquality columns ls f z) → is_free ls z ≡ true → CanEquality columns ls f z
can_last columns ls f n z true g l c rest e = let i : n ≡ z = eqb-true n z g in (rw i at c) e
can_last columns ls f n z false g l c rest e = rest (omega (arith, eqb-false n z g))

can_below : (columns : ℕ) (ls : List Line) (f : List ℤ) (n z : ℕ) → z < n → CanEqualities columns ls f n → is_free ls z ≡ true → CanEquality columns ls f z
can_below columns ls f zero z l c e = absurd (omega arith)
can_below columns ls f (suc n) z l c e = can_last columns ls f n z (n == z) refl l c.1 (λ m. can_below columns ls f n z m c.0 e) e

pub equal_fails : (columns : ℕ) (ls : List Line) (f : List ℤ) (z : ℕ) → z < columns → ¬ (is_free ls z ≡ true → CanEquality columns ls f z) → ¬ (CanEqualities columns ls f columns)
equal_fails columns ls f z l n c = n (can_below columns ls f columns z l c)

pub equal_end : (columns : ℕ) (ls : List Line) (f : List ℤ) (made : List Affine) (z : ℕ) → EqualHalfway columns ls f made z → columns ≤ z → CanEqualities columns ls f columns × (made ≡ equalities_below columns ls f columns)
equal_end columns ls f made z h l = let e : z ≡ columns = omega (arith, h.room) in (rw e at h.can, rw e at h.value)

pub ruleset equalities_steps = (equal_start, equal_step, equal_fails, equal_end)
