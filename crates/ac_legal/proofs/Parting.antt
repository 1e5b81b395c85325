-- The parts of the questions of two assignments: their columns, and what a search through them tells.
use Rattle.std.proofs.Common.{append_assoc, ap, ◌≡◌, ◌↔◌, inl, inr, ℕ, zero, suc, ◌+◌, ◌≤◌, List, [], ◌∷◌, ◌++◌, map, length, refl, sym, ◌∙◌, subst, ℤ, pos, negsuc, Option, Some, None, Bool, true, false, cond, ◌&&◌, ◌==◌, arith, Result, Ok, Err, IfOk, IfErr, IfSome, IfNone}
use Rattle.std.specs.Prelude.{slice_get, nat_lt}
use Rattle.std.specs.List.{AllByRecursion, flat_map, range_with_len}
use Rattle.ac_base.specs.Dot.{mix}
use Rattle.ac_forms.specs.Affine.{Affine, combined, shifted}
use Rattle.ac_forms.specs.ListMembers.{IsAmong}
use Rattle.ac_forms.specs.PieceMembership.{IsInSome}
use Rattle.ac_forms.specs.Renaming.{renamed, renamed_row, AreColumns}
use Rattle.ac_forms.specs.Rows.{Meets, AreRowsOver, HaveModuli, IsRowOver, form_of}
use Rattle.ac_forms.specs.declared.row.Row.{Row}
use Rattle.ac_forms.specs.declared.row.Row.TheVariants.{Ge, Eq}
use Rattle.ac_forms.proofs.Renamings.{form-within, rows-over}
use Rattle.ac_poly.specs.LevelRows.{equalities}
use Rattle.ac_poly.specs.Coordinates.{width, levels_before}
use Rattle.ac_poly.specs.declared.types.Model.{Model}
use Rattle.ac_poly.specs.declared.types.StmtModel.{StmtModel}
use Rattle.ac_poly.proofs.LevelRows.{levels_have_columns}
use Rattle.ac_poly.proofs.Rows.{meets_append}
use Rattle.ac_legal_law.specs.OrderQuestions.{CellForms, written, reads, same_cells, clashes, late, joined, first_columns, second_columns, first_counters, second_counters, order_questions}
use Rattle.ac_legal_law.specs.Schedules.{forms_of}
use Rattle.ac_legal_law.proofs.Choices.{in_joined}
use Rattle.ac_legal.specs.declared.types.LegalStop.{LegalStop}
use Rattle.ac_legal.specs.declared.types.LegalStop.TheVariants.{Overflow, Spent, Memory}
use Rattle.ac_legal.specs.QuestionChoices.{Part, IsPart, IsPartOver, ArePartsOver, HasNoPointFrom, IsPointFrom, StopsFrom, UnlessMemory, over}
use Rattle.ac_legal.specs.WideQuestions.{AreWideTimes, HaveWideCells}
use Rattle.ac_legal.specs.ScheduleAnswers.{AreOf, AreParts, first_pieces, second_pieces, cells_of, first_times, second_times, lates_of, NoneBetween, IsPointBetween, StopsBetween, question_stops, cells_leave, times_leave}
use Rattle.ac_flow.specs.Readers.{IsOver}
use Rattle.ac_legal.proofs.Trying.{both_over}

-- ---- the parts

-- the choices for each part, behind the context
abbrev pub order_choices : Model → List (List Affine) → ℕ → StmtModel → ℕ → StmtModel → List (List (List Row))
order_choices m times i s j u = first_pieces m s ∷ second_pieces m s u ∷ levels_before m.params i s j u ∷ cells_of m s u ∷ lates_of m times i s j u ∷ []

-- one choice for each
abbrev pub all_joined : List (List (List Row)) → List (List Row)
all_joined [] = [] ∷ []
all_joined (c ∷ cs) = joined c (all_joined cs)

-- the part has these choices, if it could be formed
abbrev pub IsMade : Part → List (List Row) → Type 0
IsMade None choices = Unit {0}
IsMade (Some made) choices = made ≡ choices

abbrev pub AreMade : List Part → List (List (List Row)) → Type 0
AreMade [] [] = Unit {0}
AreMade [] (c ∷ cs) = ⊥
AreMade (o ∷ os) [] = ⊥
AreMade (o ∷ os) (c ∷ cs) = IsMade o c × AreMade os cs

one_made : (wide : Type 0) (o : Part) (c : List (List Row)) → IsPart wide o c → IsMade o c
one_made wide None c h = tt
one_made wide (Some made) c h = h

pub made_of : (m : Model) (times : List (List Affine)) (i j : ℕ) (s u : StmtModel) (parts : List Part) → AreParts m times i s j u parts → AreMade parts (order_choices m times i s j u)
made_of m times i j s u parts h =
    subst (λ (os : List Part). AreMade os (order_choices m times i s j u)) (sym h.list)
    (refl, (refl, (refl, (one_made (HaveWideCells (first_columns m.params s) (second_columns m.params s u) s u) h.cells (cells_of m s u) h.cells_are, (one_made (AreWideTimes (first_times m times i s) (second_times m times s j u)) h.lates (lates_of m times i s j u) h.lates_are, tt)))))

-- ---- columns

columns_below : (n first count : ℕ) → first + count ≤ n → AreColumns n (range_with_len first count)
columns_below n first zero l = tt
columns_below n first (suc count) l = ((omega arith), columns_below n (first + 1) count (omega arith))

columns_both : (n : ℕ) (ks ls : List ℕ) → AreColumns n ks → AreColumns n ls → AreColumns n (ks ++ ls)
columns_both n [] ls h k = k
columns_both n (x ∷ ks) ls h k = (h.0, columns_both n ks ls h.1 k)

row_wider : (k n : ℕ) (r : Row) → k ≤ n → IsRowOver k r → IsRowOver n r
row_wider k n r l h = ((let w : length (form_of r).coefs ≤ k = h.0 in omega arith), h.1)

rows_wider : (k n : ℕ) (rs : List Row) → k ≤ n → AreRowsOver k rs → AreRowsOver n rs
rows_wider k n [] l h = tt
rows_wider k n (r ∷ rs) l h = (row_wider k n r l h.0, rows_wider k n rs l h.1)

moduli : (k : ℕ) (rs : List Row) → AreRowsOver k rs → HaveModuli rs
moduli k [] h = tt
moduli k (r ∷ rs) h = (h.0.1, moduli k rs h.1)

pieces_over : (k n : ℕ) (ks : List ℕ) (qs : List (List Row)) → AreColumns n ks → AllByRecursion (AreRowsOver k) qs → AllByRecursion (AreRowsOver n) (map (map (renamed_row ks)) qs)
pieces_over k n ks [] c h = tt
pieces_over k n ks (q ∷ qs) c h = (rows-over ks q n c (moduli k q h.0), pieces_over k n ks qs c h.1)

mix_length : (k : ℤ) (a : List ℤ) (l : ℤ) (b : List ℤ) (n : ℕ) → length a ≤ n → length b ≤ n → length (mix k a l b) ≤ n
mix_length k [] l [] n v w = omega arith
mix_length k [] l (y ∷ ys) zero v w = absurd (omega arith)
mix_length k [] l (y ∷ ys) (suc n) v w = let r = mix_length k [] l ys n (omega arith) (omega arith) in omega (arith, r)
mix_length k (x ∷ xs) l [] zero v w = absurd (omega arith)
mix_length k (x ∷ xs) l [] (suc n) v w = let r = mix_length k xs l [] n (omega arith) (omega arith) in omega (arith, r)
mix_length k (x ∷ xs) l (y ∷ ys) zero v w = absurd (omega arith)
mix_length k (x ∷ xs) l (y ∷ ys) (suc n) v w = let r = mix_length k xs l ys n (omega arith) (omega arith) in omega (arith, r)

difference_within : (n : ℕ) (ks ls : List ℕ) (f g : Affine) → AreColumns n ks → AreColumns n ls → length (combined (pos 1) (renamed ks f) (negsuc 0) (renamed ls g)).coefs ≤ n
difference_within n ks ls f g c d = mix_length (pos 1) (renamed ks f).coefs (negsuc 0) (renamed ls g).coefs n (form-within ks f n c) (form-within ls g n d)

equalities_over : (n : ℕ) (ks ls : List ℕ) (fs gs : List Affine) → AreColumns n ks → AreColumns n ls → AreRowsOver n (equalities (map (renamed ks) fs) (map (renamed ls) gs))
equalities_over n ks ls [] gs c d = tt
equalities_over n ks ls (f ∷ fs) [] c d = tt
equalities_over n ks ls (f ∷ fs) (g ∷ gs) c d = ((difference_within n ks ls f g c d, tt), equalities_over n ks ls fs gs c d)

by_test : (n : ℕ) (b : Bool) (rs : List Row) → AreRowsOver n rs → AllByRecursion (AreRowsOver n) (cond b (rs ∷ []) [])
by_test n true rs h = (h, tt)
by_test n false rs h = tt

same_over : (n : ℕ) (ks ls : List ℕ) (a b : CellForms) → AreColumns n ks → AreColumns n ls → AllByRecursion (AreRowsOver n) (same_cells ks ls a b)
same_over n ks ls a b c d = by_test n ((a.array == b.array) && (length a.subs == length b.subs)) (equalities (map (renamed ks) a.subs) (map (renamed ls) b.subs)) (equalities_over n ks ls a.subs b.subs c d)

every_append : {A : Type 0} (P : A → Type 0) (xs ys : List A) → AllByRecursion P xs → AllByRecursion P ys → AllByRecursion P (xs ++ ys)
every_append P [] ys h k = k
every_append P (x ∷ xs) ys h k = (h.0, every_append P xs ys h.1 k)

flat_over : (n : ℕ) (f : CellForms → List (List Row)) → ((a : CellForms) → AllByRecursion (AreRowsOver n) (f a)) → (xs : List CellForms) → AllByRecursion (AreRowsOver n) (flat_map f xs)
flat_over n f h [] = tt
flat_over n f h (x ∷ xs) = every_append (AreRowsOver n) (f x) (flat_map f xs) (h x) (flat_over n f h xs)

clashes_over : (n : ℕ) (ks ls : List ℕ) (s u : StmtModel) → AreColumns n ks → AreColumns n ls → AllByRecursion (AreRowsOver n) (clashes ks ls s u)
clashes_over n ks ls s u c d =
    every_append (AreRowsOver n) (flat_map (same_cells ks ls (written s)) (written u ∷ reads u.nodes)) (flat_map (λ (a : CellForms). same_cells ks ls a (written u)) (reads s.nodes))
    (flat_over n (same_cells ks ls (written s)) (λ b. same_over n ks ls (written s) b c d) (written u ∷ reads u.nodes))
    (flat_over n (λ (a : CellForms). same_cells ks ls a (written u)) (λ a. same_over n ks ls a (written u) c d) (reads s.nodes))

late_over : (n : ℕ) (ks ls : List ℕ) (fs gs : List Affine) (done : List Row) → AreColumns n ks → AreColumns n ls → AreRowsOver n done → AllByRecursion (AreRowsOver n) (late (map (renamed ks) fs) (map (renamed ls) gs) done)
late_over n ks ls [] [] done c d h = (h, tt)
late_over n ks ls [] (g ∷ gs) done c d h = tt
late_over n ks ls (f ∷ fs) [] done c d h = (h, tt)
late_over n ks ls (f ∷ fs) (g ∷ gs) done c d h =
    let w = difference_within n ks ls f g c d in (
      both_over n done (Ge (shifted (combined (pos 1) (renamed ks f) (negsuc 0) (renamed ls g)) (negsuc 0)) ∷ []) h ((w, tt), tt),
      late_over n ks ls fs gs (done ++ Eq (combined (pos 1) (renamed ks f) (negsuc 0) (renamed ls g)) ∷ []) c d
          (both_over n done (Eq (combined (pos 1) (renamed ks f) (negsuc 0) (renamed ls g)) ∷ []) h ((w, tt), tt)),
    )

abbrev AllOver : ℕ → List (List (List Row)) → Type 0
AllOver n = AllByRecursion (AllByRecursion (AreRowsOver n))

choices_over : (m : Model) (times : List (List Affine)) (i j : ℕ) (s u : StmtModel) → IsOver m → AreOf m i s j u → AllOver (m.params + (width s + width u)) (order_choices m times i s j u)
choices_over m times i j s u o a =
    let n = m.params + (width s + width u) in
    let base : AreColumns n (range_with_len 0 m.params) = columns_below n 0 m.params (omega arith) in
    let c : AreColumns n (first_columns m.params s) = columns_both n (range_with_len 0 m.params) (range_with_len m.params (width s)) base (columns_below n m.params (width s) (omega arith)) in
    let d : AreColumns n (second_columns m.params s u) = columns_both n (range_with_len 0 m.params) (range_with_len (m.params + width s) (width u)) base (columns_below n (m.params + width s) (width u) (omega arith)) in
    let ct : AreColumns n (first_counters m.params s) = columns_both n (range_with_len 0 m.params) (range_with_len m.params (length s.loops)) base (columns_below n m.params (length s.loops) (omega arith)) in
    let dt : AreColumns n (second_counters m.params s u) = columns_both n (range_with_len 0 m.params) (range_with_len (m.params + width s) (length u.loops)) base (columns_below n (m.params + width s) (length u.loops) (omega arith)) in (
      pieces_over (m.params + width s) n (first_columns m.params s) s.pieces c (o.pieces i s a.first),
      (
        pieces_over (m.params + width u) n (second_columns m.params s u) u.pieces d (o.pieces j u a.second),
        (
          levels_have_columns m.params (m.params + width s) n s.loops u.loops (nat_lt i j) (omega arith) (omega arith),
          (
            clashes_over n (first_columns m.params s) (second_columns m.params s u) s u c d,
            (
              late_over n (first_counters m.params s) (second_counters m.params s u) (forms_of times i) (forms_of times j) [] ct dt tt,
              tt,
            ),
          ),
        ),
      ),
    )

one_over : (n : ℕ) (o : Part) (c : List (List Row)) → IsMade o c → AllByRecursion (AreRowsOver n) c → IsPartOver n o
one_over n None c h k = tt
one_over n (Some made) c h k = subst (AllByRecursion (AreRowsOver n)) (sym h) k

parts_over : (n : ℕ) (os : List Part) (cs : List (List (List Row))) → AreMade os cs → AllOver n cs → ArePartsOver n os
parts_over n [] [] h k = tt
parts_over n [] (c ∷ cs) h k = absurd h
parts_over n (o ∷ os) [] h k = absurd h
parts_over n (o ∷ os) (c ∷ cs) h k = (one_over n o c h.0 k.0, parts_over n os cs h.1 k.1)

pub asked_over : (m : Model) (times : List (List Affine)) (i j : ℕ) (s u : StmtModel) (parts : List Part) (n : ℕ) → n ≡ m.params + (width s + width u) → IsOver m → AreOf m i s j u → AreMade parts (order_choices m times i s j u)
    → AreRowsOver n m.context × ArePartsOver n parts
asked_over m times i j s u parts n e o a h =
    subst (λ (k : ℕ). AreRowsOver k m.context × ArePartsOver k parts) (sym e)
    (rows_wider m.params (m.params + (width s + width u)) m.context (omega arith) o.context, parts_over (m.params + (width s + width u)) parts (order_choices m times i s j u) h (choices_over m times i j s u o a))

pub no_forms : (times : List (List Affine)) (k : ℕ) → slice_get times k ≡ None → forms_of times k ≡ []
no_forms [] k h = refl
no_forms (fs ∷ times) zero h = absurd cc
no_forms (fs ∷ times) (suc k) h = no_forms times k h

pub parts_listed : (m : Model) (times : List (List Affine)) (i j : ℕ) (s u : StmtModel) (k1 k2 k3 k4 : List ℕ) (q1 q2 : List (List Row)) (own other levels : List (List Row)) (cells lates : Part) (parts : List Part)
    → k1 ≡ first_columns m.params s → q1 ≡ s.pieces → k2 ≡ second_columns m.params s u → q2 ≡ u.pieces → k3 ≡ first_columns m.params s → k4 ≡ second_columns m.params s u
    → own ≡ map (map (renamed_row k1)) q1 → other ≡ map (map (renamed_row k2)) q2 → levels ≡ levels_before m.params i s j u
    → IsPart (HaveWideCells k3 k4 s u) cells (clashes k3 k4 s u) → IsPart (AreWideTimes (first_times m times i s) (second_times m times s j u)) lates (lates_of m times i s j u)
    → parts ≡ Some own ∷ Some other ∷ Some levels ∷ cells ∷ lates ∷ []
    → AreParts m times i s j u parts
parts_listed m times i j s u k1 k2 k3 k4 q1 q2 own other levels cells lates parts a1 b1 a2 b2 a3 a4 x y z v w e =
    let x' : own ≡ first_pieces m s = x ∙ (λ t. map (map (renamed_row (a1 t))) (b1 t)) in
    let y' : other ≡ second_pieces m s u = y ∙ (λ t. map (map (renamed_row (a2 t))) (b2 t)) in
    record {
      cells = cells;
      lates = lates;
      list = e ∙ (λ t. Some (x' t) ∷ Some (y' t) ∷ Some (z t) ∷ cells ∷ lates ∷ []);
      cells_are = subst (λ (q : List ℕ × List ℕ). IsPart (HaveWideCells q.0 q.1 s u) cells (clashes q.0 q.1 s u)) (λ t. (a3 t, a4 t)) v;
      lates_are = w;
    }

-- the times of two assignments in lists of columns, which are those of the counters
pub lates_listed : (m : Model) (times : List (List Affine)) (i j : ℕ) (s u : StmtModel) (k l : List ℕ) (fs gs : List Affine) (part : Part) → k ≡ first_counters m.params s → fs ≡ forms_of times i → l ≡ second_counters m.params s u → gs ≡ forms_of times j
    → IsPart (AreWideTimes (map (renamed k) fs) (map (renamed l) gs)) part (late (map (renamed k) fs) (map (renamed l) gs) []) → IsPart (AreWideTimes (first_times m times i s) (second_times m times s j u)) part (lates_of m times i s j u)
lates_listed m times i j s u k l fs gs part a f b g h =
    subst (λ (q : List ℕ × List ℕ × List Affine × List Affine). IsPart (AreWideTimes (map (renamed q.0) q.2) (map (renamed q.1) q.3)) part (late (map (renamed q.0) q.2) (map (renamed q.1) q.3) [])) (λ t. (a t, b t, f t, g t)) h

pub if_ok : {T E : Type 0} (r : Result T E) (P Q : T → Type 0) → ((x : T) → P x → Q x) → IfOk r P → IfOk r Q
if_ok (Ok x) P Q f h = f x h
if_ok (Err e) P Q f h = tt

pub if_err : {T E : Type 0} (r : Result T E) (P Q : E → Type 0) → ((x : E) → P x → Q x) → IfErr r P → IfErr r Q
if_err (Ok x) P Q f h = tt
if_err (Err e) P Q f h = f e h

pub if_some : {A : Type 0} (o : Option A) (P Q : A → Type 0) → ((x : A) → P x → Q x) → IfSome o P → IfSome o Q
if_some None P Q f h = tt
if_some (Some x) P Q f h = f x h

pub if_none : {A : Type 0} (o : Option A) (P Q : Type 0) → (P → Q) → IfNone o P → IfNone o Q
if_none None P Q f h = f h
if_none (Some x) P Q f h = tt

-- ---- what a search tells

pub in_choice : (c : List (List Row)) (q : List Row) (p : List ℤ) → IsAmong q c → Meets q p → IsInSome Meets c p
in_choice [] q p a m = absurd a
in_choice (x ∷ c) q p a m = elim a [ inl e ↦ inl (subst (λ (r : List Row). Meets r p) e m) | inr b ↦ inr (in_choice c q p b m) ]

choice_of : (c : List (List Row)) (p : List ℤ) → IsInSome Meets c p → (q : List Row) × IsAmong q c × Meets q p
choice_of [] p s = absurd s
choice_of (x ∷ c) p s = elim s [ inl m ↦ (x, inl refl, m) | inr t ↦ (let r = choice_of c p t in (r.0, inr r.1, r.2)) ]

none_there : (n : ℕ) (front : List Row) (os : List Part) (cs : List (List (List Row))) → AreMade os cs → HasNoPointFrom n front os → (p : List ℤ) → length p ≡ n → Meets front p → IsInSome Meets (all_joined cs) p → ⊥
none_there n front [] [] a h p l m s = h p l m
none_there n front [] (c ∷ cs) a h p l m s = absurd a
none_there n front (o ∷ os) [] a h p l m s = absurd a
none_there n front (None ∷ os) (c ∷ cs) a h p l m s = absurd h
none_there n front (Some made ∷ os) (c ∷ cs) a h p l m s =
    let parts = (in_joined c (all_joined cs) p).0 s in
    let q = choice_of c p parts.0 in
    none_there n (front ++ q.0) os cs a.1 (h q.0 (subst (λ (t : List (List Row)). IsAmong q.0 t) (sym a.0) q.1)) p l ((meets_append front q.0 p).1 (m, q.2)) parts.1

point_there : (n : ℕ) (front : List Row) (os : List Part) (cs : List (List (List Row))) → AreMade os cs → (p : List ℤ) → IsPointFrom n front os p → (length p ≡ n) × Meets front p × IsInSome Meets (all_joined cs) p
point_there n front [] [] a p h = (h.0, h.1, inl tt)
point_there n front [] (c ∷ cs) a p h = absurd a
point_there n front (o ∷ os) [] a p h = absurd a
point_there n front (None ∷ os) (c ∷ cs) a p h = absurd h
point_there n front (Some made ∷ os) (c ∷ cs) a p h =
    let r = point_there n (front ++ h.0) os cs a.1 p h.2 in
    let m = (meets_append front h.0 p).0 r.1 in
    (r.0, m.0, (in_joined c (all_joined cs) p).1 (in_choice c h.0 p (subst (λ (t : List (List Row)). IsAmong h.0 t) a.0 h.1) m.1, r.2))

-- the questions are the context with one choice for each part
pub questions_are : (m : Model) (times : List (List Affine)) (i j : ℕ) (s u : StmtModel) (p : List ℤ) → IsInSome Meets (order_questions m times i s j u) p ↔ (Meets m.context p × IsInSome Meets (all_joined (order_choices m times i s j u)) p)
questions_are m times i j s u p =
    let ks = first_columns m.params s in
    let ls = second_columns m.params s u in
    let P = map (map (renamed_row ks)) s.pieces in
    let Q = map (map (renamed_row ls)) u.pieces in
    let L = levels_before m.params i s j u in
    let C = clashes ks ls s u in
    let T = lates_of m times i s j u in
    let a1 = in_joined (m.context ∷ []) (joined P (joined Q (joined L (joined C T)))) p in
    let a2 = in_joined P (joined Q (joined L (joined C T))) p in
    let a3 = in_joined Q (joined L (joined C T)) p in
    let a4 = in_joined L (joined C T) p in
    let a5 = in_joined C T p in
    let b2 = in_joined P (joined Q (joined L (joined C (joined T ([] ∷ []))))) p in
    let b3 = in_joined Q (joined L (joined C (joined T ([] ∷ [])))) p in
    let b4 = in_joined L (joined C (joined T ([] ∷ []))) p in
    let b5 = in_joined C (joined T ([] ∷ [])) p in
    let b6 = in_joined T ([] ∷ []) p in (
      (λ h.
          let x1 = a1.0 h in let x2 = a2.0 x1.1 in let x3 = a3.0 x2.1 in let x4 = a4.0 x3.1 in let x5 = a5.0 x4.1 in
          (elim x1.0 [ inl m ↦ m | inr z ↦ absurd z ], b2.1 (x2.0, b3.1 (x3.0, b4.1 (x4.0, b5.1 (x5.0, b6.1 (x5.1, inl tt))))))),
      (λ h.
          let x2 = b2.0 h.1 in let x3 = b3.0 x2.1 in let x4 = b4.0 x3.1 in let x5 = b5.0 x4.1 in let x6 = b6.0 x5.1 in
          a1.1 (inl h.0, a2.1 (x2.0, a3.1 (x3.0, a4.1 (x4.0, a5.1 (x5.0, x6.0)))))),
    )

pub same_model : (m : Model) (k : ℕ) (s t : StmtModel) → slice_get m.stmts k ≡ Some s → slice_get m.stmts k ≡ Some t → s ≡ t
same_model m k s t a b = let e : Some s ≡ Some t = sym a ∙ b in cc

pub none_between : (m : Model) (times : List (List Affine)) (i j : ℕ) (s u : StmtModel) (parts : List Part) (n : ℕ) → AreOf m i s j u → n ≡ m.params + (width s + width u) → AreMade parts (order_choices m times i s j u)
    → HasNoPointFrom n m.context parts → NoneBetween m times i j
none_between m times i j s u parts n of e are none t v o p l meets =
    let a = same_model m i t s o.first of.first in
    let b = same_model m j v u o.second of.second in
    let q = (questions_are m times i j s u p).0 (subst (λ (z : StmtModel × StmtModel). IsInSome Meets (order_questions m times i z.0 j z.1) p) (λ k. (a k, b k)) meets) in
    none_there n m.context parts (order_choices m times i s j u) are none p (l ∙ (λ k. m.params + (width (a k) + width (b k))) ∙ sym e) q.0 q.1

pub point_between : (m : Model) (times : List (List Affine)) (i j : ℕ) (s u : StmtModel) (parts : List Part) (n : ℕ) (p : List ℤ) → n ≡ m.params + (width s + width u) → AreMade parts (order_choices m times i s j u)
    → IsPointFrom n m.context parts p → IsPointBetween m times i s j u p
point_between m times i j s u parts n p e are h =
    let r = point_there n m.context parts (order_choices m times i s j u) are p h in
    record { long = r.0 ∙ e; meets = (questions_are m times i j s u p).1 (r.1, r.2) }

-- ---- what stops

among_left : {A : Type 0} (x : A) (xs ys : List A) → IsAmong x xs → IsAmong x (xs ++ ys)
among_left x [] ys h = absurd h
among_left x (y ∷ xs) ys h = elim h [ inl e ↦ inl e | inr k ↦ inr (among_left x xs ys k) ]

among_right : {A : Type 0} (x : A) (xs ys : List A) → IsAmong x ys → IsAmong x (xs ++ ys)
among_right x [] ys h = h
among_right x (y ∷ xs) ys h = inr (among_right x xs ys h)

among_front : (a b : List Row) (bs : List (List Row)) → IsAmong b bs → IsAmong (a ++ b) (map (λ (c : List Row). a ++ c) bs)
among_front a b [] h = absurd h
among_front a b (c ∷ bs) h = elim h [ inl e ↦ inl (ap (λ (t : List Row). a ++ t) e) | inr k ↦ inr (among_front a b bs k) ]

among_joined : (a b : List Row) (xs bs : List (List Row)) → IsAmong a xs → IsAmong b bs → IsAmong (a ++ b) (joined xs bs)
among_joined a b [] bs h k = absurd h
among_joined a b (x ∷ xs) bs h k = elim h [
  | inl e ↦ among_left (a ++ b) (map (λ (c : List Row). x ++ c) bs) (joined xs bs) (subst (λ (t : List Row). IsAmong (t ++ b) (map (λ (c : List Row). x ++ c) bs)) (sym e) (among_front x b bs k))
  | inr m ↦ among_right (a ++ b) (map (λ (c : List Row). x ++ c) bs) (joined xs bs) (among_joined a b xs bs m k)
]

-- a stop other than want of memory
abbrev IsRefusal : LegalStop → Type 0
IsRefusal (Overflow q) = Unit {0}
IsRefusal (Spent q k) = Unit {0}
IsRefusal (Memory e) = ⊥

peel : (e : LegalStop) (P : Type 0) → IsRefusal e → UnlessMemory e P → P
peel (Overflow q) P r h = h
peel (Spent q k) P r h = h
peel (Memory w) P r h = absurd r

module _ (budget : ℕ) (m : Model) (times : List (List Affine)) (i j : ℕ) (s u : StmtModel) (e : LegalStop) (refusal : IsRefusal e) where
  -- behind a piece of each, a level, and the equalities of two cells
  behind_cells : (lates : Part) → IsPart (AreWideTimes (first_times m times i s) (second_times m times s j u)) lates (lates_of m times i s j u) → (a b c d : List Row)
      → IsAmong a (first_pieces m s) → IsAmong b (second_pieces m s u) → IsAmong c (levels_before m.params i s j u) → IsAmong d (cells_of m s u)
      → StopsFrom budget (m.params + (width s + width u)) ((((m.context ++ a) ++ b) ++ c) ++ d) (lates ∷ []) e → StopsBetween budget m times i s j u e
  behind_cells None wide a b c d x y z v h =
      let rows : (((m.context ++ a) ++ b) ++ c) ++ d ≡ m.context ++ (a ++ (b ++ (c ++ d))) = append_assoc ((m.context ++ a) ++ b) c d ∙ append_assoc (m.context ++ a) b (c ++ d) ∙ append_assoc m.context a (b ++ (c ++ d)) in
      let is : e ≡ Overflow (over (m.params + (width s + width u)) ((((m.context ++ a) ++ b) ++ c) ++ d)) = peel e _ refusal h in
      subst (StopsBetween budget m times i s j u) (sym (is ∙ ap (λ (t : List Row). Overflow (over (m.params + (width s + width u)) t)) rows))
      (times_leave (m.context ++ (a ++ (b ++ (c ++ d))))
      (among_joined m.context (a ++ (b ++ (c ++ d))) (m.context ∷ []) (joined (first_pieces m s) (joined (second_pieces m s u) (joined (levels_before m.params i s j u) (cells_of m s u)))) (inl refl)
      (among_joined a (b ++ (c ++ d)) (first_pieces m s) (joined (second_pieces m s u) (joined (levels_before m.params i s j u) (cells_of m s u))) x
      (among_joined b (c ++ d) (second_pieces m s u) (joined (levels_before m.params i s j u) (cells_of m s u)) y
      (among_joined c d (levels_before m.params i s j u) (cells_of m s u) z v))))
      wide)
  behind_cells (Some made) are a b c d x y z v h =
      let k = peel e ((choice : List Row) × IsAmong choice made × StopsFrom budget (m.params + (width s + width u)) (((((m.context ++ a) ++ b) ++ c) ++ d) ++ choice) [] e) refusal h in
      let f = k.0 in
      let w : IsAmong f (lates_of m times i s j u) = subst (λ (t : List (List Row)). IsAmong f t) are k.1 in
      let rows : ((((m.context ++ a) ++ b) ++ c) ++ d) ++ f ≡ m.context ++ (a ++ (b ++ (c ++ (d ++ f)))) =
      append_assoc (((m.context ++ a) ++ b) ++ c) d f ∙ append_assoc ((m.context ++ a) ++ b) c (d ++ f) ∙ append_assoc (m.context ++ a) b (c ++ (d ++ f)) ∙ append_assoc m.context a (b ++ (c ++ (d ++ f))) in
      question_stops e (m.context ++ (a ++ (b ++ (c ++ (d ++ f)))))
      (among_joined m.context (a ++ (b ++ (c ++ (d ++ f)))) (m.context ∷ []) (joined (first_pieces m s) (joined (second_pieces m s u) (joined (levels_before m.params i s j u) (joined (cells_of m s u) (lates_of m times i s j u))))) (inl refl)
      (among_joined a (b ++ (c ++ (d ++ f))) (first_pieces m s) (joined (second_pieces m s u) (joined (levels_before m.params i s j u) (joined (cells_of m s u) (lates_of m times i s j u)))) x
      (among_joined b (c ++ (d ++ f)) (second_pieces m s u) (joined (levels_before m.params i s j u) (joined (cells_of m s u) (lates_of m times i s j u))) y
      (among_joined c (d ++ f) (levels_before m.params i s j u) (joined (cells_of m s u) (lates_of m times i s j u)) z
      (among_joined d f (cells_of m s u) (lates_of m times i s j u) v w)))))
      (subst (λ (t : List Row). StopsFrom budget (m.params + (width s + width u)) t [] e) rows k.2)

  -- behind a piece of each and a level
  behind_levels : (cells lates : Part) → IsPart (HaveWideCells (first_columns m.params s) (second_columns m.params s u) s u) cells (cells_of m s u) → IsPart (AreWideTimes (first_times m times i s) (second_times m times s j u)) lates (lates_of m times i s j u)
      → (a b c : List Row) → IsAmong a (first_pieces m s) → IsAmong b (second_pieces m s u) → IsAmong c (levels_before m.params i s j u)
      → StopsFrom budget (m.params + (width s + width u)) (((m.context ++ a) ++ b) ++ c) (cells ∷ lates ∷ []) e → StopsBetween budget m times i s j u e
  behind_levels None lates wide are a b c x y z h =
      let rows : ((m.context ++ a) ++ b) ++ c ≡ m.context ++ (a ++ (b ++ c)) = append_assoc (m.context ++ a) b c ∙ append_assoc m.context a (b ++ c) in
      let is : e ≡ Overflow (over (m.params + (width s + width u)) (((m.context ++ a) ++ b) ++ c)) = peel e _ refusal h in
      subst (StopsBetween budget m times i s j u) (sym (is ∙ ap (λ (t : List Row). Overflow (over (m.params + (width s + width u)) t)) rows))
      (cells_leave (m.context ++ (a ++ (b ++ c)))
      (among_joined m.context (a ++ (b ++ c)) (m.context ∷ []) (joined (first_pieces m s) (joined (second_pieces m s u) (levels_before m.params i s j u))) (inl refl)
      (among_joined a (b ++ c) (first_pieces m s) (joined (second_pieces m s u) (levels_before m.params i s j u)) x
      (among_joined b c (second_pieces m s u) (levels_before m.params i s j u) y z)))
      wide)
  behind_levels (Some made) lates is are a b c x y z h =
      let k = peel e ((choice : List Row) × IsAmong choice made × StopsFrom budget (m.params + (width s + width u)) ((((m.context ++ a) ++ b) ++ c) ++ choice) (lates ∷ []) e) refusal h in
      behind_cells lates are a b c k.0 x y z (subst (λ (t : List (List Row)). IsAmong k.0 t) is k.1) k.2

  stops_of : (parts : List Part) → AreParts m times i s j u parts → StopsFrom budget (m.params + (width s + width u)) m.context parts e → StopsBetween budget m times i s j u e
  stops_of parts are h =
      let n = m.params + (width s + width u) in
      let h' : StopsFrom budget n m.context (Some (first_pieces m s) ∷ Some (second_pieces m s u) ∷ Some (levels_before m.params i s j u) ∷ are.cells ∷ are.lates ∷ []) e = subst (λ (os : List Part). StopsFrom budget n m.context os e) are.list h in
      let p = peel e ((choice : List Row) × IsAmong choice (first_pieces m s) × StopsFrom budget n (m.context ++ choice) (Some (second_pieces m s u) ∷ Some (levels_before m.params i s j u) ∷ are.cells ∷ are.lates ∷ []) e) refusal h' in
      let q = peel e ((choice : List Row) × IsAmong choice (second_pieces m s u) × StopsFrom budget n ((m.context ++ p.0) ++ choice) (Some (levels_before m.params i s j u) ∷ are.cells ∷ are.lates ∷ []) e) refusal p.2 in
      let r = peel e ((choice : List Row) × IsAmong choice (levels_before m.params i s j u) × StopsFrom budget n (((m.context ++ p.0) ++ q.0) ++ choice) (are.cells ∷ are.lates ∷ []) e) refusal q.2 in
      behind_levels are.cells are.lates are.cells_are are.lates_are p.0 q.0 r.0 p.1 q.1 r.1 r.2

pub stops_between : (budget : ℕ) (m : Model) (times : List (List Affine)) (i j : ℕ) (s u : StmtModel) (parts : List Part) (n : ℕ) (e : LegalStop) → n ≡ m.params + (width s + width u) → AreParts m times i s j u parts
    → StopsFrom budget n m.context parts e → UnlessMemory e (StopsBetween budget m times i s j u e)
stops_between budget m times i j s u parts n e is are h = by e refl
  where
    by : (f : LegalStop) → f ≡ e → UnlessMemory f (StopsBetween budget m times i s j u f)
    by (Overflow q) k = stops_of budget m times i j s u (Overflow q) tt parts are (subst (λ (x : ℕ × LegalStop). StopsFrom budget x.0 m.context parts x.1) (λ t. (is t, sym k t)) h)
    by (Spent q c) k = stops_of budget m times i j s u (Spent q c) tt parts are (subst (λ (x : ℕ × LegalStop). StopsFrom budget x.0 m.context parts x.1) (λ t. (is t, sym k t)) h)
    by (Memory w) k = tt
