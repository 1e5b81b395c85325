-- Forms that are 0 at a point, one after the other; and the equalities of a hull are such forms.
use Rattle.std.proofs.Common.{◌≡◌, ◌↔◌, ◌==◌, ℕ, zero, suc, ◌+◌, ◌<◌, ◌≤◌, ℤ, pos, List, [], ◌∷◌, length, drop, get_or, Bool, true, false, refl, ap, ◌∙◌, arith}
use Rattle.std.specs.Prelude.{Result, Ok, Err, MatchResult, IsTrue}
use Rattle.ac_forms.specs.declared.stop.Wide.{Wide}
use Rattle.std.specs.Ordering.{int_eq}
use Rattle.std.proofs.lemmas.List.{drop_more, drop_all, length-map}
use Rattle.std.proofs.lemmas.Bool.{eqb-true, eqb-false}
use Rattle.ac_base.specs.Dot.{floored}
use Rattle.ac_base.specs.Gcd.{content}
use Rattle.ac_forms.specs.Affine.{Affine, value_at, CanEvaluate}
use Rattle.ac_forms.specs.NormalRows.{trim, trim_onto, signed, divided, leads_negative}
use Rattle.ac_forms.proofs.NormalLaws.{eq_row_keeps}
use Rattle.ac_widen.specs.Combinations.{Each, InHull}
use Rattle.ac_hull.specs.FractionFreeElimination.{Eliminates}
use Rattle.ac_hull.specs.Equalities.{unit, coefs_of, least_coefs, equality_of, normal_equality, equalities_below, is_free}
use Rattle.ac_hull.proofs.FreeColumns.{IsFree}
use Rattle.ac_hull.specs.Hulls.{Vanish, CanVanish, differences, equalities_of}
use Rattle.ac_hull.specs.HullInternals.Keeping.{IsHull}
use Rattle.ac_hull.specs.declared.line.Line.{Line}
use Rattle.ac_hull.proofs.Clearing.{length_cleared, length_unit}
use Rattle.ac_hull.proofs.Facts.{each_snoc, each_front, each_last}
use Rattle.ac_hull.proofs.Frees.{true_free, free_true}
use Rattle.ac_hull.proofs.Hulls.{eliminates_some}
use Rattle.ac_hull.proofs.NormalEqualities.{normal_is, least_one}
use Rattle.ac_hull.proofs.Reading.{hull_is_equalities}

-- before form i: those before it are 0
pub record VanishHalfway (fs : List Affine) (q : List ℤ) (i : ℕ) : Type 0 where
  pub room : i ≤ length fs
  pub onward : CanVanish fs q → CanVanish (drop i fs) q
  pub back : CanVanish (drop i fs) q → CanVanish fs q
  pub vanish : Vanish fs q → Vanish (drop i fs) q
  pub vanished : Vanish (drop i fs) q → Vanish fs q

pub vanish_start : (fs : List Affine) (q : List ℤ) → VanishHalfway fs q 0
vanish_start fs q = record { room = omega arith; onward = λ f. f; back = λ f. f; vanish = λ f. f; vanished = λ f. f }

pub vanish_step : (fs : List Affine) (q : List ℤ) (i : ℕ) (f : Affine) → VanishHalfway fs q i → i < length fs → f ≡ get_or fs i f → CanEvaluate f q → value_at f q ≡ pos 0 → VanishHalfway fs q (i + 1)
vanish_step fs q i f h m e can z =
    let d : drop i fs ≡ f ∷ drop (i + 1) fs = rw e (drop_more fs i f m) in
    record {
      room = omega arith;
      onward = λ c. (rw d at (h.onward c)).1 z;
      back = λ c. h.back (rw d (can, λ _. c));
      vanish = λ v. (rw d at (h.vanish v)).1;
      vanished = λ v. h.vanished (rw d (z, v));
    }

pub vanish_can : (fs : List Affine) (q : List ℤ) (i : ℕ) (f : Affine) → VanishHalfway fs q i → i < length fs → f ≡ get_or fs i f → ¬ (CanEvaluate f q) → ¬ (CanVanish fs q)
vanish_can fs q i f h m e n c = let d : drop i fs ≡ f ∷ drop (i + 1) fs = rw e (drop_more fs i f m) in n (rw d at (h.onward c)).0

pub vanish_fails : (fs : List Affine) (q : List ℤ) (i : ℕ) (f : Affine) → VanishHalfway fs q i → i < length fs → f ≡ get_or fs i f → CanEvaluate f q → ¬ (value_at f q ≡ pos 0) → CanVanish fs q × (¬ (Vanish fs q))
vanish_fails fs q i f h m e can n =
    let d : drop i fs ≡ f ∷ drop (i + 1) fs = rw e (drop_more fs i f m) in
    (h.back (rw d (can, λ z. absurd (n z))), λ v. n (rw d at (h.vanish v)).0)

pub vanish_end : (fs : List Affine) (q : List ℤ) (i : ℕ) → VanishHalfway fs q i → length fs ≤ i → CanVanish fs q × Vanish fs q
vanish_end fs q i h m = (h.back (rw (drop_all i fs m) tt), h.vanished (rw (drop_all i fs m) tt))

pub over_at : (n : ℕ) (fs : List Affine) (i : ℕ) (f : Affine) → Each (λ g. length g.coefs ≤ n) fs → i < length fs → f ≡ get_or fs i f → length f.coefs ≤ n
over_at n [] i f h m e = absurd (omega arith)
over_at n (x ∷ fs) zero f h m e = rw e h.0
over_at n (x ∷ fs) (suc i) f h m e = over_at n fs i f h.1 (omega arith) e

pub ruleset vanish_steps = (vanish_start, vanish_step, vanish_can, vanish_fails, vanish_end, over_at)

-- no normal form keeps more coefficients than there were
trim_onto_length : (c : ℤ) (ds : List ℤ) (n : ℕ) (b : Bool) → int_eq c (pos 0) ≡ b → length ds ≤ n → length (trim_onto c ds) ≤ suc n
trim_onto_length c [] n true e h = rw e (omega arith)
trim_onto_length c [] n false e h = rw e (omega arith)
trim_onto_length c (d ∷ ds) n b e h = omega arith

trim_length : (cs : List ℤ) → length (trim cs) ≤ length cs
trim_length [] = omega arith
trim_length (c ∷ cs) = trim_onto_length c (trim cs) (length cs) (int_eq c (pos 0)) refl (trim_length cs)

signed_length : (f : Affine) (n : ℕ) (b : Bool) → leads_negative f.coefs ≡ b → length f.coefs ≤ n → length (signed f).coefs ≤ n
signed_length f n true e h = rw e (rw (length-map f.coefs _) h)
signed_length f n false e h = rw e h

normal_length : (f : Affine) → length (normal_equality f).coefs ≤ length f.coefs
normal_length f =
    let g = divided (pos (content f.coefs)) f in
    let a = trim_length (floored (pos (content f.coefs)) f.coefs) in
    let b : length (floored (pos (content f.coefs)) f.coefs) ≡ length f.coefs = length-map f.coefs _ in
    signed_length g (length f.coefs) (leads_negative g.coefs) refl (omega (arith, a, b))

-- an equality's normal form is 0 where it is
normal_zero : (f : Affine) (q : List ℤ) → content f.coefs ≡ 1 → (value_at (normal_equality f) q ≡ pos 0) ↔ (value_at f q ≡ pos 0)
normal_zero f q one = let k = eq_row_keeps f q in rw (normal_is f one) at k

module _ (columns : ℕ) (f : List ℤ) (ps : List (List ℤ)) (ls : List Line) (e : Eliminates columns (differences f ps) ls) where
  one : (z : ℕ) → z < columns → is_free ls z ≡ true → content (least_coefs columns ls z) ≡ 1
  one z h free = least_one (coefs_of columns ls z) (eliminates_some columns (differences f ps) ls e z h free)

  least_length : (z : ℕ) → z < columns → length (least_coefs columns ls z) ≤ columns
  least_length z h =
      let a : length (least_coefs columns ls z) ≡ length (coefs_of columns ls z) = length-map (coefs_of columns ls z) _ in
      omega (arith, a, length_cleared ls (unit columns z), length_unit columns z h)

  over_step : (z : ℕ) (b : Bool) → is_free ls z ≡ b → z < columns → Each (λ g. length g.coefs ≤ columns) (equalities_below columns ls f z) → Each (λ g. length g.coefs ≤ columns) (equalities_below columns ls f (suc z))
  over_step z true t h a = rw t (each_snoc (λ g. length g.coefs ≤ columns) (equalities_below columns ls f z) (normal_equality (equality_of columns ls f z)) a (omega (arith, normal_length (equality_of columns ls f z), least_length z h)))
  over_step z false t h a = rw t a

  over_below : (n : ℕ) → n ≤ columns → Each (λ g. length g.coefs ≤ columns) (equalities_below columns ls f n)
  over_below zero h = tt
  over_below (suc n) h = over_step n (is_free ls n) refl (omega arith) (over_below n (omega arith))

  abbrev AllBelow : List ℤ → ℕ → Type 0
  AllBelow q n = (z : ℕ) → z < n → IsFree ls z → value_at (equality_of columns ls f z) q ≡ pos 0

  vanish_at : (q : List ℤ) (n : ℕ) (b : Bool) → is_free ls n ≡ b → n < columns → Vanish (equalities_below columns ls f n) q ↔ AllBelow q n → Vanish (equalities_below columns ls f (suc n)) q ↔ AllBelow q (suc n)
  vanish_at q n true t h r =
      let zero_ = normal_zero (equality_of columns ls f n) q (one n h t) in
      rw t (
        (λ v z l free. by_last z l (each_last (λ g. value_at g q ≡ pos 0) (equalities_below columns ls f n) (normal_equality (equality_of columns ls f n)) v) (each_front (λ g. value_at g q ≡ pos 0) (equalities_below columns ls f n) (normal_equality (equality_of columns ls f n) ∷ []) v) free (n == z) refl),
        (λ a. each_snoc (λ g. value_at g q ≡ pos 0) (equalities_below columns ls f n) (normal_equality (equality_of columns ls f n)) (r.1 (λ z l free. a z (omega arith) free)) (zero_.1 (a n (omega arith) (true_free ls n t)))),
      )
    where
      by_last : (z : ℕ) → z < suc n → value_at (normal_equality (equality_of columns ls f n)) q ≡ pos 0 → Vanish (equalities_below columns ls f n) q → IsFree ls z → (b : Bool) → (n == z) ≡ b → value_at (equality_of columns ls f z) q ≡ pos 0
      by_last z l last front free true g = let i : n ≡ z = eqb-true n z g in rw i at ((normal_zero (equality_of columns ls f n) q (one n h t)).0 last)
      by_last z l last front free false g = r.0 front z (omega (arith, eqb-false n z g)) free
  vanish_at q n false t h r =
      rw t ((λ v z l free. not_last z l v free (n == z) refl), (λ a. r.1 (λ z l free. a z (omega arith) free)))
    where
      not_last : (z : ℕ) → z < suc n → Vanish (equalities_below columns ls f n) q → IsFree ls z → (b : Bool) → (n == z) ≡ b → value_at (equality_of columns ls f z) q ≡ pos 0
      not_last z l v free true g = let i : n ≡ z = eqb-true n z g in let y : is_free ls n ≡ true = rw i (free_true ls z free) in absurd cc
      not_last z l v free false g = r.0 v z (omega (arith, eqb-false n z g)) free

  vanish_below : (q : List ℤ) (n : ℕ) → n ≤ columns → Vanish (equalities_below columns ls f n) q ↔ AllBelow q n
  vanish_below q zero h = ((λ _ z l free. absurd (omega arith)), (λ _. tt))
  vanish_below q (suc n) h = vanish_at q n (is_free ls n) refl (omega arith) (vanish_below q n (omega arith))

-- the equalities of a hull stand over its columns
pub hull_over : (columns n : ℕ) (ms : List (List ℤ)) (ls : List Line) (es : List Affine) → IsHull columns ms ls es → n ≡ columns → Each (λ g. length g.coefs ≤ n) es
hull_over columns n [] ls es h e = rw h.1 tt
hull_over columns n (f ∷ ps) ls es h e = rw (e, h.4) (over_below columns f ps ls h.3 columns (omega arith))

-- and their points are exactly the hull
pub hull_vanish : (columns : ℕ) (ms : List (List ℤ)) (ls : List Line) (es : List Affine) (q : List ℤ) → IsHull columns ms ls es → ¬ (ms ≡ []) → length q ≡ columns → InHull ms q ↔ Vanish es q
hull_vanish columns [] ls es q h n l = absurd (n refl)
hull_vanish columns (f ∷ ps) ls es q h n l =
    let a = hull_is_equalities columns f ps ls h.3 h.0 h.1 q l in
    let b = vanish_below columns f ps ls h.3 q columns (omega arith) in
    rw h.4 ((λ x. b.1 (a.0 x)), (λ v. a.1 (b.0 v)))

pub hull_equalities : (columns : ℕ) (ms : List (List ℤ)) (ls : List Line) (es : List Affine) → IsHull columns ms ls es → es ≡ equalities_of columns ms
hull_equalities columns [] ls es h = h.1
hull_equalities columns (f ∷ ps) ls es h = h.4 ∙ ap (λ t. equalities_below columns t f columns) h.2

pub contains_made : (r : Result Bool Wide) (es : List Affine) (q : List ℤ) (ms : List (List ℤ)) → MatchResult r (λ is. CanVanish es q × (IsTrue is ↔ Vanish es q)) (λ _. ¬ (CanVanish es q)) → InHull ms q ↔ Vanish es q
    → MatchResult r (λ is. CanVanish es q × (IsTrue is ↔ InHull ms q)) (λ _. ¬ (CanVanish es q))
contains_made (Ok b) es q ms h e = (h.0, ((λ t. e.1 (h.1.0 t)), (λ i. h.1.1 (e.0 i))))
contains_made (Err w) es q ms h e = h
