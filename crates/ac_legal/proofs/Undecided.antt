-- Beside a stop: the questions of two assignments that are decided have no point.
use Rattle.std.proofs.Common.{◌≡◌, ◌⊎◌, inl, inr, ℕ, ◌+◌, List, [], ◌∷◌, ◌++◌, map, refl, sym, ap, ◌∙◌, subst, Some, None, append_assoc, append-nil}
use Rattle.ac_forms.specs.Affine.{Affine}
use Rattle.ac_forms.specs.ListMembers.{IsAmong}
use Rattle.ac_forms.specs.declared.row.Row.{Row}
use Rattle.ac_poly.specs.Coordinates.{width, levels_before}
use Rattle.ac_poly.specs.declared.types.Model.{Model}
use Rattle.ac_poly.specs.declared.types.StmtModel.{StmtModel}
use Rattle.ac_legal_law.specs.OrderQuestions.{first_columns, second_columns, joined, order_questions}
use Rattle.ac_legal.specs.QuestionChoices.{Part, IsPart, HasNoPointIfDecided, HaveNoPointsIfDecided}
use Rattle.ac_legal.specs.WideQuestions.{AreWideTimes, HaveWideCells}
use Rattle.ac_legal.specs.ScheduleAnswers.{AreOf, AreParts, CanBeFormed, NoneBetween, NoDecidedPointBetween, questions_width, first_pieces, second_pieces, cells_of, first_times, second_times, lates_of}
use Rattle.ac_legal.proofs.Parting.{order_choices, all_joined, in_choice, same_model}

-- ---- a question that is joined of two parts is one of each

in_either : {A : Type 0} (x : A) (xs ys : List A) → IsAmong x (xs ++ ys) → IsAmong x xs ⊎ IsAmong x ys
in_either x [] ys h = inr h
in_either x (y ∷ xs) ys h = elim h [ inl e ↦ inl (inl e) | inr k ↦ elim (in_either x xs ys k) [ inl m ↦ inl (inr m) | inr m ↦ inr m ] ]

of_front : (a : List Row) (bs : List (List Row)) (r : List Row) → IsAmong r (map (λ (b : List Row). a ++ b) bs) → (b : List Row) × IsAmong b bs × (r ≡ a ++ b)
of_front a [] r h = absurd h
of_front a (b ∷ bs) r h = elim h [ inl e ↦ (b, inl refl, e) | inr k ↦ (let w = of_front a bs r k in (w.0, inr w.1, w.2)) ]

of_joined : (r : List Row) (xs bs : List (List Row)) → IsAmong r (joined xs bs) → (a : List Row) × (b : List Row) × IsAmong a xs × IsAmong b bs × (r ≡ a ++ b)
of_joined r [] bs h = absurd h
of_joined r (x ∷ xs) bs h = elim (in_either r (map (λ (b : List Row). x ++ b) bs) (joined xs bs) h) [
  | inl k ↦ (let w = of_front x bs r k in (x, w.0, inl refl, w.1, w.2))
  | inr k ↦ (let w = of_joined r xs bs k in (w.0, w.1, inr w.2, w.3, w.4))
]

-- ---- from the parts to the questions

-- what a search finds from some rows on is so of each question that goes on from them
decided_from : (budget n : ℕ) (front : List Row) (cs : List (List (List Row))) → HaveNoPointsIfDecided budget n front (map (λ (c : List (List Row)). Some c) cs) → (rows : List Row) → IsAmong rows (all_joined cs) → HasNoPointIfDecided budget n (front ++ rows)
decided_from budget n front [] h rows m =
    let none : rows ≡ [] = elim m [ inl e ↦ e | inr z ↦ absurd z ] in
    let same : front ++ rows ≡ front = ap (λ (t : List Row). front ++ t) none ∙ append-nil front in
    subst (HasNoPointIfDecided budget n) (sym same) h
decided_from budget n front (c ∷ cs) h rows m =
    let w = of_joined rows c (all_joined cs) m in
    let one : HasNoPointIfDecided budget n ((front ++ w.0) ++ w.1) = decided_from budget n (front ++ w.0) cs (h w.0 w.2) w.1 w.3 in
    let same : (front ++ w.0) ++ w.1 ≡ front ++ rows = append_assoc front w.0 w.1 ∙ ap (λ (t : List Row). front ++ t) (sym w.4) in
    subst (HasNoPointIfDecided budget n) same one

joined_last : (cs : List (List Row)) → joined cs ([] ∷ []) ≡ cs
joined_last [] = refl
joined_last (c ∷ cs) = λ t. append-nil c t ∷ joined_last cs t

questions_joined : (m : Model) (times : List (List Affine)) (i j : ℕ) (s u : StmtModel) → order_questions m times i s j u ≡ joined (m.context ∷ []) (all_joined (order_choices m times i s j u))
questions_joined m times i j s u =
    ap (λ (t : List (List Row)). joined (m.context ∷ []) (joined (first_pieces m s) (joined (second_pieces m s u) (joined (levels_before m.params i s j u) (joined (cells_of m s u) t))))) (sym (joined_last (lates_of m times i s j u)))

formed : (wide : Type 0) (o : Part) (c : List (List Row)) → ¬ wide → IsPart wide o c → o ≡ Some c
formed wide None c n h = absurd (n h)
formed wide (Some made) c n h = ap (λ (x : List (List Row)). Some x) h

all_formed : (m : Model) (times : List (List Affine)) (i j : ℕ) (s u : StmtModel) (parts : List Part) → AreParts m times i s j u parts → CanBeFormed m times i s j u → parts ≡ map (λ (c : List (List Row)). Some c) (order_choices m times i s j u)
all_formed m times i j s u parts are can =
    let cells : are.cells ≡ Some (cells_of m s u) = formed (HaveWideCells (first_columns m.params s) (second_columns m.params s u) s u) are.cells (cells_of m s u) can.cells are.cells_are in
    let lates : are.lates ≡ Some (lates_of m times i s j u) = formed (AreWideTimes (first_times m times i s) (second_times m times s j u)) are.lates (lates_of m times i s j u) can.lates are.lates_are in
    are.list ∙ (λ t. Some (first_pieces m s) ∷ Some (second_pieces m s u) ∷ Some (levels_before m.params i s j u) ∷ cells t ∷ lates t ∷ [])

decided_for : (budget : ℕ) (m : Model) (times : List (List Affine)) (i j : ℕ) (s u : StmtModel) (parts : List Part) (n : ℕ) → n ≡ m.params + (width s + width u) → AreParts m times i s j u parts → HaveNoPointsIfDecided budget n m.context parts
    → CanBeFormed m times i s j u → (rows : List Row) → IsAmong rows (order_questions m times i s j u) → HasNoPointIfDecided budget (questions_width m s u) rows
decided_for budget m times i j s u parts n is are h can rows among =
    let choices = order_choices m times i s j u in
    let w = of_joined rows (m.context ∷ []) (all_joined choices) (subst (λ (t : List (List Row)). IsAmong rows t) (questions_joined m times i j s u) among) in
    let front : w.0 ≡ m.context = elim w.2 [ inl e ↦ e | inr z ↦ absurd z ] in
    let same : m.context ++ w.1 ≡ rows = ap (λ (t : List Row). t ++ w.1) (sym front) ∙ sym w.4 in
    let one : HasNoPointIfDecided budget n (m.context ++ w.1) = decided_from budget n m.context choices (subst (HaveNoPointsIfDecided budget n m.context) (all_formed m times i j s u parts are can) h) w.1 w.3 in
    subst (λ (z : ℕ × List Row). HasNoPointIfDecided budget z.0 z.1) (λ t. (is t, same t)) one

-- ---- two assignments

pub decided_between : (budget : ℕ) (m : Model) (times : List (List Affine)) (i j : ℕ) (s u : StmtModel) (parts : List Part) (n : ℕ) → AreOf m i s j u → n ≡ m.params + (width s + width u) → AreParts m times i s j u parts
    → HaveNoPointsIfDecided budget n m.context parts → NoDecidedPointBetween budget m times i j
decided_between budget m times i j s u parts n of is are h t v o =
    let a : s ≡ t = same_model m i s t of.first o.first in
    let b : u ≡ v = same_model m j u v of.second o.second in
    subst (λ (z : StmtModel × StmtModel). CanBeFormed m times i z.0 j z.1 → (rows : List Row) → IsAmong rows (order_questions m times i z.0 j z.1) → HasNoPointIfDecided budget (questions_width m z.0 z.1) rows) (λ k. (a k, b k))
    (decided_for budget m times i j s u parts n is are h)

pub decided_if_kept : (budget : ℕ) (m : Model) (times : List (List Affine)) (i j : ℕ) → NoneBetween m times i j → NoDecidedPointBetween budget m times i j
decided_if_kept budget m times i j h s u are can rows among = inl (λ p l meets. h s u are p l (in_choice (order_questions m times i s j u) rows p among meets))
