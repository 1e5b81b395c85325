-- A schedule keeps the order if and only if no question has a point.
use Rattle.std.proofs.Common.{◌≡◌, ℕ, ◌+◌, List, ◌++◌, length, take, drop, refl, sym, ap, ◌∙◌, subst, ℤ, arith, length-append}
use Rattle.std.specs.declared.cmp.Ordering.{Ordering}
use Rattle.std.specs.declared.cmp.Ordering.TheVariants.{Less, Equal, Greater}
use Rattle.std.proofs.lemmas.List.{take-append-drop, length-take-le, length-drop}
use Rattle.ac_forms.specs.PieceMembership.{IsInSome}
use Rattle.ac_forms.specs.Rows.{Meets}
use Rattle.ac_syntax.specs.Source.{Writer}
use Rattle.ac_syntax.proofs.LastWriters.{stands_contains}
use Rattle.ac_poly.specs.Coordinates.{width, coordinates}
use Rattle.ac_poly.specs.Model.{model_of}
use Rattle.ac_poly.proofs.Models.{has_models}
use Rattle.ac_legal_law.specs.BrokenOrders.{QuestionsAreBrokenOrders, KeptWhereNoQuestionHasAPoint, NoQuestionHasAPoint}
use Rattle.ac_legal_law.specs.OrderQuestions.{order_questions}
use Rattle.ac_legal_law.specs.Schedules.{time_of, ScheduleKeepsOrder}
use Rattle.ac_legal_law.specs.EntryTimes.{time_cmp}
use Rattle.ac_legal_law.proofs.Broken.{broken, breaks_between}

pub questions_are_broken_orders : QuestionsAreBrokenOrders
questions_are_broken_orders p context times ready fit params xs ys i j s u each at bt lx ly = broken p context times ready fit params each xs ys i j s u at bt lx ly

is_less : (o : Ordering) → ((o ≡ Less → ⊥) → ⊥) → o ≡ Less
is_less Less n = refl
is_less Equal n = absurd (n (λ e. absurd cc))
is_less Greater n = absurd (n (λ e. absurd cc))

-- a point is its first numbers, the next and the last
parts : (q : List ℤ) (n a b : ℕ) → length q ≡ n + (a + b)
    → (front : List ℤ) × (middle : List ℤ) × (back : List ℤ) × (q ≡ front ++ (middle ++ back)) × (length front ≡ n) × (length middle ≡ a) × (length back ≡ b)
parts q n a b l =
    let rest = drop n q in
    let r : length rest ≡ a + b = (let k = length-drop n q in omega (arith, k)) in
    let e1 : length (take n q) ≡ n = length-take-le n q (omega arith) in
    let e2 : length (take a rest) ≡ a = length-take-le a rest (omega arith) in
    let e3 : length (drop a rest) ≡ b = (let k = length-drop a rest in omega (arith, k)) in
    (take n q, take a rest, drop a rest, sym (ap (λ (t : List ℤ). take n q ++ t) (take-append-drop a rest) ∙ take-append-drop n q), e1, e2, e3)

pub kept_where_no_question_has_a_point : KeptWhereNoQuestionHasAPoint
kept_where_no_question_has_a_point p context times ready fit = (to, from)
  where
    to : NoQuestionHasAPoint (model_of p context) times → ScheduleKeepsOrder times p context
    to none params v w u c =
        let coords = λ (x : Writer). coordinates (model_of p context) params x.entry in
        is_less (time_cmp (time_of times params w.entry) (time_of times params u.entry)) (λ late.
        let a = has_models p context ready params w.entry v.each (stands_contains c.first) in
        let b = has_models p context ready params u.entry v.each (stands_contains c.second) in
        let long : length (params ++ ((coords w) ++ (coords u))) ≡ length p.params + (width a.0 + width b.0) =
        length-append params ((coords w) ++ (coords u)) ∙ (λ i. v.each i + (length-append (coords w) (coords u) ∙ (λ k. a.2 k + b.2 k)) i) in
        none w.entry.stmt u.entry.stmt a.0 b.0 (params ++ ((coords w) ++ (coords u))) a.1 b.1 long
        ((broken p context times ready fit params v.each (coords w) (coords u) w.entry.stmt u.entry.stmt a.0 b.0 a.1 b.1 a.2 b.2).1
        (breaks_between p context times ready fit params v.each w u a.0 b.0 w.entry.stmt u.entry.stmt (coords w) (coords u) v (record { conflict = c; late = late }) a.1 b.1 refl refl refl refl)))

    from : ScheduleKeepsOrder times p context → NoQuestionHasAPoint (model_of p context) times
    from kept i j s u q at bt l m =
        let d = parts q (length p.params) (width s) (width u) l in
        let r = (broken p context times ready fit d.0 d.4 d.1 d.2 i j s u at bt d.5 d.6).0 (subst (λ (z : List ℤ). IsInSome Meets (order_questions (model_of p context) times i s j u) z) d.3 m) in
        let x = r.breaks in
        x.broken.late (kept d.0 x.valuation x.first x.second x.broken.conflict)
