-- From all questions to the order, and from a point to two instances.
use Rattle.std.proofs.Common.{◌≡◌, ℕ, zero, suc, ◌+◌, ◌-◌, ◌<◌, ◌≤◌, List, [], ◌∷◌, ◌++◌, length, take, drop, refl, sym, ap, ◌∙◌, subst, ℤ, Some, arith}
use Rattle.std.specs.Prelude.{slice_get}
use Rattle.std.proofs.lemmas.List.{length-drop, length-take-le, take-append-drop, take-append-le, drop-drop}
use Rattle.ac_forms.specs.Affine.{Affine}
use Rattle.ac_forms.specs.PieceMembership.{IsInSome}
use Rattle.ac_forms.specs.Rows.{Meets}
use Rattle.ac_poly.specs.Coordinates.{width}
use Rattle.ac_poly.specs.declared.types.Model.{Model}
use Rattle.ac_poly.specs.declared.types.StmtModel.{StmtModel}
use Rattle.ac_legal_law.specs.BrokenOrders.{BreaksAt, NoQuestionHasAPoint}
use Rattle.ac_legal_law.specs.OrderQuestions.{order_questions}
use Rattle.ac_legal_law.proofs.Kept.{questions_are_broken_orders, kept_where_no_question_has_a_point}
use Rattle.ac_legal.specs.declared.types.Legal.{Legal}
use Rattle.ac_legal.specs.declared.types.Legal.TheVariants.{Kept, Broken}
use Rattle.ac_legal.specs.ScheduleAnswers.{AreOf, NoneBetween, NoDecidedPointBetween, NoDecidedQuestionHasAPoint, IsPointBetween, IsPointOfTwo, IfKept, IfBroken, IsCutOf, KeepsForAll, BreaksForAll}

below : (m : Model) (k : ℕ) (stmts : List StmtModel) (s : StmtModel) → slice_get stmts k ≡ Some s → k < length stmts
below m k [] s h = absurd cc
below m zero (x ∷ stmts) s h = omega arith
below m (suc k) (x ∷ stmts) s h = let r = below m k stmts s h in omega (arith, r)

pub kept_of : (m : Model) (times : List (List Affine)) → ((i j : ℕ) → i < length m.stmts → j < length m.stmts → NoneBetween m times i j) → KeepsForAll m times
kept_of m times h p context ready fit is =
    (kept_where_no_question_has_a_point p context times ready fit).0
    (subst (λ (k : Model). NoQuestionHasAPoint k times) is
    (λ i j s u q a b l. h i j (below m i m.stmts s a) (below m j m.stmts u b) s u (record { first = a; second = b }) q l))

pub decided_of : (budget : ℕ) (m : Model) (times : List (List Affine)) → ((i j : ℕ) → i < length m.stmts → j < length m.stmts → NoDecidedPointBetween budget m times i j) → NoDecidedQuestionHasAPoint budget m times
decided_of budget m times h i j s u are = h i j (below m i m.stmts s are.first) (below m j m.stmts u are.second) s u are

pub broken_of : (m : Model) (times : List (List Affine)) (at : List ℤ) (i : ℕ) (xs : List ℤ) (j : ℕ) (ys : List ℤ) → IsPointOfTwo m times at i xs j ys → BreaksForAll m times at i xs j ys
broken_of m times at i xs j ys h p context ready fit is =
    let k = subst (λ (n : Model). IsPointOfTwo n times at i xs j ys) is h in
    let r = (questions_are_broken_orders p context times ready fit at k.coords k.others i j k.first k.second k.at_long k.are.first k.are.second k.first_long k.second_long).0 k.meets in
    subst (λ (z : List ℤ × List ℤ). BreaksAt p context times at i z.0 j z.1) (λ t. (k.first_is t, k.second_is t)) r.breaks

pub if_broken : (l : Legal) (P Q : List ℤ → ℕ → List ℤ → ℕ → List ℤ → Type 0) → ((at : List ℤ) (i : ℕ) (xs : List ℤ) (j : ℕ) (ys : List ℤ) → P at i xs j ys → Q at i xs j ys) → IfBroken l P → IfBroken l Q
if_broken Kept P Q f h = tt
if_broken (Broken at first second) P Q f h = f at.items first.0 first.1.items second.0 second.1.items h

pub if_kept : (l : Legal) (P Q : Type 0) → (P → Q) → IfKept l P → IfKept l Q
if_kept Kept P Q f h = f h
if_kept (Broken at first second) P Q f h = tt

pub kept_is : (l : Legal) (P : Type 0) → l ≡ Kept → IfKept l P → P
kept_is l P e h = subst (λ (x : Legal). IfKept x P) e h

pub point_of_two : (m : Model) (times : List (List Affine)) (i j : ℕ) (s u : StmtModel) (behind wide : ℕ) (p at xs ys : List ℤ) (a b : ℕ) → AreOf m i s j u → wide ≡ width s → behind ≡ m.params + wide → IsPointBetween m times i s j u p
    → IsCutOf p m.params behind i s j u at a xs b ys → IsPointOfTwo m times at a xs b ys
point_of_two m times i j s u behind wide p at xs ys a b are w e h c =
    let lp : length p ≡ m.params + (width s + width u) = h.long in
    let rest : List ℤ = drop m.params p in
    let lr : length rest ≡ length p - m.params = length-drop m.params p in
    let lb : length (drop behind p) ≡ length p - behind = length-drop behind p in
    let lc : length (take wide rest) ≡ wide = length-take-le wide rest (omega arith) in
    let tail : drop wide rest ≡ drop behind p = drop-drop wide m.params p ∙ ap (λ (n : ℕ). drop n p) (sym e) in
    let whole : at ++ (take wide rest ++ drop behind p) ≡ p = (λ t. c.0 t ++ (take wide rest ++ sym tail t)) ∙ ap (λ (q : List ℤ). take m.params p ++ q) (take-append-drop wide rest) ∙ take-append-drop m.params p in
    let counters : take (length s.loops) rest ≡ take (length s.loops) (take wide rest) =
    ap (λ (q : List ℤ). take (length s.loops) q) (sym (take-append-drop wide rest)) ∙ take-append-le (length s.loops) (take wide rest) (drop wide rest) (omega arith) in
    record {
      first = s;
      second = u;
      are = record { first = subst (λ (k : ℕ). slice_get m.stmts k ≡ Some s) (sym c.3) are.first; second = subst (λ (k : ℕ). slice_get m.stmts k ≡ Some u) (sym c.4) are.second };
      coords = take wide rest;
      others = drop behind p;
      at_long = ap length c.0 ∙ length-take-le m.params p (omega arith);
      first_long = lc ∙ w;
      second_long = omega arith;
      first_is = sym counters ∙ sym c.1;
      second_is = sym c.2;
      meets = subst (λ (z : ℕ × ℕ × List ℤ). IsInSome Meets (order_questions m times z.0 s z.1 u) z.2) (λ t. (sym c.3 t, sym c.4 t, sym whole t)) h.meets;
    }

-- a point has the counters of both
pub point_long : (m : Model) (times : List (List Affine)) (i j : ℕ) (s u : StmtModel) (behind wide : ℕ) (p : List ℤ) → wide ≡ width s → behind ≡ m.params + wide → IsPointBetween m times i s j u p
    → (m.params + length s.loops ≤ length p) × (behind + length u.loops ≤ length p)
point_long m times i j s u behind wide p w e h = let l : length p ≡ m.params + (width s + width u) = h.long in (omega arith, omega arith)
