-- The steps of a search through the choices for a part.
use Rattle.std.proofs.Common.{Bool, true, false, refl, ◌≤◌, MatchOption, ◌≡◌, inl, inr, ℕ, zero, suc, ◌+◌, ◌<◌, List, [], ◌∷◌, ◌++◌, length, drop, take, get_or, sym, ap, ◌∙◌, subst, ℤ, Option, Some, None, IfSome, IfNone, arith}
use Rattle.std.specs.List.{AllByRecursion}
use Rattle.std.specs.Prelude.{nat_lt}
use Rattle.std.proofs.lemmas.Bool.Decides.{nat_tests}
use Rattle.std.proofs.lemmas.List.{drop_more, drop_all, take_all}
use Rattle.ac_forms.specs.ListMembers.{IsAmong}
use Rattle.ac_forms.specs.Rows.{AreRowsOver}
use Rattle.ac_forms.specs.declared.row.Row.{Row}
use Rattle.ac_legal.specs.declared.types.LegalStop.{LegalStop}
use Rattle.ac_legal.specs.declared.types.LegalStop.TheVariants.{Overflow, Spent, Memory}
use Rattle.ac_legal.specs.QuestionChoices.{Part, IsPartOver, ArePartsOver, HasNoPointFrom, HasNoPointIfDecided, HaveNoPointsIfDecided, IsPointFrom, StopsOn, StopsFrom, UnlessMemory, want_of, first_stop}

pub at_depth : (parts : List Part) (depth : ℕ) (o p : Part) → depth < length parts → o ≡ get_or parts depth o → o ≡ p → drop depth parts ≡ p ∷ drop (depth + 1) parts
at_depth parts depth o p l a b = drop_more parts depth o l ∙ ap (λ (x : Part). x ∷ drop (depth + 1) parts) (sym a ∙ b)

pub among_at : {A : Type 0} (xs : List A) (i : ℕ) (x : A) → i < length xs → x ≡ get_or xs i x → IsAmong x xs
among_at [] i x l e = absurd (omega arith)
among_at (y ∷ xs) zero x l e = inl e
among_at (y ∷ xs) (suc i) x l e = inr (among_at xs i x (omega arith) e)

all_at : {A : Type 0} (P : A → Type 0) (xs : List A) (i : ℕ) (x : A) → i < length xs → x ≡ get_or xs i x → AllByRecursion P xs → P x
all_at P [] i x l e h = absurd (omega arith)
all_at P (y ∷ xs) zero x l e h = subst P (sym e) h.0
all_at P (y ∷ xs) (suc i) x l e h = all_at P xs i x (omega arith) e h.1

pub both_over : (n : ℕ) (xs ys : List Row) → AreRowsOver n xs → AreRowsOver n ys → AreRowsOver n (xs ++ ys)
both_over n [] ys h k = k
both_over n (x ∷ xs) ys h k = (h.0, both_over n xs ys h.1 k)

pub rows_over : (n depth index : ℕ) (front rows item : List Row) (parts : List Part) (o : Part) (choices : List (List Row))
    → depth < length parts → o ≡ get_or parts depth o → o ≡ Some choices → index < length choices → item ≡ get_or choices index item → rows ≡ front ++ item
    → AreRowsOver n front → ArePartsOver n parts → AreRowsOver n rows
rows_over n depth index front rows item parts o choices l a b k e r h g =
    let one : IsPartOver n (Some choices) = subst (IsPartOver n) b (all_at (IsPartOver n) parts depth o l a g) in
    subst (AreRowsOver n) (sym r) (both_over n front item h (all_at (AreRowsOver n) choices index item k e one))

pub point_step : (n depth index : ℕ) (front rows item : List Row) (parts : List Part) (o : Part) (choices : List (List Row)) (p : List ℤ)
    → depth < length parts → o ≡ get_or parts depth o → o ≡ Some choices → index < length choices → item ≡ get_or choices index item → rows ≡ front ++ item
    → IsPointFrom n rows (drop (depth + 1) parts) p → IsPointFrom n front (drop depth parts) p
point_step n depth index front rows item parts o choices p l a b k e r h =
    subst (λ (ps : List Part). IsPointFrom n front ps p) (sym (at_depth parts depth o (Some choices) l a b))
    (item, among_at choices index item k e, subst (λ (q : List Row). IsPointFrom n q (drop (depth + 1) parts) p) r h)

pub stop_of : (e : LegalStop) (P : Type 0) → P → UnlessMemory e P
stop_of (Overflow q) P h = h
stop_of (Spent q k) P h = h
stop_of (Memory w) P h = tt

pub unless_map : (e : LegalStop) (P Q : Type 0) → (P → Q) → UnlessMemory e P → UnlessMemory e Q
unless_map (Overflow q) P Q f h = f h
unless_map (Spent q k) P Q f h = f h
unless_map (Memory w) P Q f h = tt

pub stop_step : (budget n depth index : ℕ) (front rows item : List Row) (parts : List Part) (o : Part) (choices : List (List Row)) (e : LegalStop)
    → depth < length parts → o ≡ get_or parts depth o → o ≡ Some choices → index < length choices → item ≡ get_or choices index item → rows ≡ front ++ item
    → StopsFrom budget n rows (drop (depth + 1) parts) e → StopsFrom budget n front (drop depth parts) e
stop_step budget n depth index front rows item parts o choices e l a b k i r h =
    subst (λ (ps : List Part). StopsFrom budget n front ps e) (sym (at_depth parts depth o (Some choices) l a b))
    (stop_of e ((choice : List Row) × IsAmong choice choices × StopsFrom budget n (front ++ choice) (drop (depth + 1) parts) e)
    (item, among_at choices index item k i, subst (λ (q : List Row). StopsFrom budget n q (drop (depth + 1) parts) e) r h))

-- one more choice of which a fact is known
taken : {A : Type 0} (P : A → Type 0) (xs : List A) (i : ℕ) (x : A) → i < length xs → x ≡ get_or xs i x → ((y : A) → IsAmong y (take i xs) → P y) → P x → (y : A) → IsAmong y (take (suc i) xs) → P y
taken P [] i x l e h k y m = absurd (omega arith)
taken {A} P (z ∷ xs) zero x l e h k y m = elim m [ inl q ↦ subst P (e ∙ sym q) k | inr q ↦ absurd q ]
taken {A} P (z ∷ xs) (suc i) x l e h k y m = elim m [ inl q ↦ h y (inl q) | inr q ↦ taken P xs i x (omega arith) e (λ w v. h w (inr v)) k y q ]

pub some_of : {A : Type 0} (o : Option A) (x : A) (P : A → Type 0) → o ≡ Some x → IfSome o P → P x
some_of o x P e h = subst (λ q. IfSome q P) e h

pub none_of : {A : Type 0} (o : Option A) (P : Type 0) → o ≡ None → IfNone o P → P
none_of o P e h = subst (λ q. IfNone q P) e h

pub choice_step : (P : List Row → Type 0) (index : ℕ) (front rows item : List Row) (choices : List (List Row))
    → index < length choices → item ≡ get_or choices index item → rows ≡ front ++ item
    → ((choice : List Row) → IsAmong choice (take index choices) → P (front ++ choice)) → P rows
    → (choice : List Row) → IsAmong choice (take (index + 1) choices) → P (front ++ choice)
choice_step P index front rows item choices l e r h k =
    let next : suc index ≡ index + 1 = omega arith in
    subst (λ (j : ℕ). (choice : List Row) → IsAmong choice (take j choices) → P (front ++ choice)) next
    (taken (λ (choice : List Row). P (front ++ choice)) choices index item l e h (subst P r k))

-- ---- the stop that is held

pub held_on : (held : Option LegalStop) (P Q : Type 0) (R : LegalStop → Type 0) → (P → Q) → MatchOption held P R → MatchOption held Q R
held_on None P Q R f h = f h
held_on (Some e) P Q R f h = h

pub held_stop : (held first : Option LegalStop) (e : LegalStop) (P Q : Type 0) (R : LegalStop → Type 0) → first ≡ first_stop held e → R e → MatchOption held P R → MatchOption first Q R
held_stop held first e P Q R is k h = subst (λ (o : Option LegalStop). MatchOption o Q R) (sym is) (by held h)
  where
    by : (o : Option LegalStop) → MatchOption o P R → MatchOption (first_stop o e) Q R
    by None m = k
    by (Some f) m = m

pub held_some : (held : Option LegalStop) (e : LegalStop) (P : Type 0) (R : LegalStop → Type 0) → held ≡ Some e → MatchOption held P R → R e
held_some held e P R is h = subst (λ (o : Option LegalStop). MatchOption o P R) is h

pub held_none : (held : Option LegalStop) (P : Type 0) (R : LegalStop → Type 0) → held ≡ None → MatchOption held P R → P
held_none held P R is h = subst (λ (o : Option LegalStop). MatchOption o P R) is h

pub stop_choice : (budget n index : ℕ) (front rows item : List Row) (rest : List Part) (choices : List (List Row)) (e : LegalStop)
    → index < length choices → item ≡ get_or choices index item → rows ≡ front ++ item → StopsFrom budget n rows rest e
    → (choice : List Row) × IsAmong choice choices × StopsFrom budget n (front ++ choice) rest e
stop_choice budget n index front rows item rest choices e k i r h = (item, among_at choices index item k i, subst (λ (q : List Row). StopsFrom budget n q rest e) r h)

pub stop_end : (budget n depth : ℕ) (front : List Row) (parts : List Part) (o : Part) (choices : List (List Row)) (e : LegalStop)
    → depth < length parts → o ≡ get_or parts depth o → o ≡ Some choices → (choice : List Row) × IsAmong choice choices × StopsFrom budget n (front ++ choice) (drop (depth + 1) parts) e
    → StopsFrom budget n front (drop depth parts) e
stop_end budget n depth front parts o choices e l a b h =
    subst (λ (ps : List Part). StopsFrom budget n front ps e) (sym (at_depth parts depth o (Some choices) l a b))
    (stop_of e ((choice : List Row) × IsAmong choice choices × StopsFrom budget n (front ++ choice) (drop (depth + 1) parts) e) h)

pub none_end : (n depth index : ℕ) (front : List Row) (parts : List Part) (o : Part) (choices : List (List Row))
    → depth < length parts → o ≡ get_or parts depth o → o ≡ Some choices → length choices ≤ index
    → ((choice : List Row) → IsAmong choice (take index choices) → HasNoPointFrom n (front ++ choice) (drop (depth + 1) parts)) → HasNoPointFrom n front (drop depth parts)
none_end n depth index front parts o choices l a b k h =
    subst (HasNoPointFrom n front) (sym (at_depth parts depth o (Some choices) l a b))
    (λ choice m. h choice (subst (λ (xs : List (List Row)). IsAmong choice xs) (sym (take_all index choices k)) m))

-- ---- what is decided beside a stop

-- a stop that is not want of memory
pub not_memory : (e : LegalStop) (P : Type 0) → want_of e ≡ None → UnlessMemory e P → P
not_memory (Overflow q) P is h = h
not_memory (Spent q k) P is h = h
not_memory (Memory w) P is h = absurd cc

-- the question at which a search stops is left undecided
pub undecided : (budget n : ℕ) (rows : List Row) (e : LegalStop) → StopsOn budget n rows e → UnlessMemory e (HasNoPointIfDecided budget n rows)
undecided budget n rows (Overflow q) h = inr (h.1, inl h.2)
undecided budget n rows (Spent q k) h = inr (h.1, inr (h.2.0, h.2.1))
undecided budget n rows (Memory w) h = tt

pub decided_last : (budget n depth : ℕ) (front : List Row) (parts : List Part) (e : LegalStop) → depth ≡ length parts → StopsOn budget n front e → UnlessMemory e (HaveNoPointsIfDecided budget n front (drop depth parts))
decided_last budget n depth front parts e is h =
    let none : drop depth parts ≡ [] = drop_all depth parts (omega (arith, is)) in
    subst (λ (ps : List Part). UnlessMemory e (HaveNoPointsIfDecided budget n front ps)) (sym none) (undecided budget n front e h)

pub decided_if_none : (budget n : ℕ) (front : List Row) (parts : List Part) → HasNoPointFrom n front parts → HaveNoPointsIfDecided budget n front parts
decided_if_none budget n front [] h = inl h
decided_if_none budget n front (None ∷ parts) h = tt
decided_if_none budget n front (Some choices ∷ parts) h = λ choice m. decided_if_none budget n (front ++ choice) parts (h choice m)

pub decided_unformed : (budget n depth : ℕ) (front : List Row) (parts : List Part) (o : Part) → depth < length parts → o ≡ get_or parts depth o → o ≡ None → HaveNoPointsIfDecided budget n front (drop depth parts)
decided_unformed budget n depth front parts o l a b = subst (HaveNoPointsIfDecided budget n front) (sym (at_depth parts depth o None l a b)) tt

pub decided_end : (budget n depth index : ℕ) (front : List Row) (parts : List Part) (o : Part) (choices : List (List Row)) (e : LegalStop)
    → depth < length parts → o ≡ get_or parts depth o → o ≡ Some choices → length choices ≤ index
    → ((choice : List Row) → IsAmong choice (take index choices) → HaveNoPointsIfDecided budget n (front ++ choice) (drop (depth + 1) parts)) → UnlessMemory e (HaveNoPointsIfDecided budget n front (drop depth parts))
decided_end budget n depth index front parts o choices e l a b k h =
    stop_of e (HaveNoPointsIfDecided budget n front (drop depth parts))
    (subst (HaveNoPointsIfDecided budget n front) (sym (at_depth parts depth o (Some choices) l a b))
    (λ choice m. h choice (subst (λ (xs : List (List Row)). IsAmong choice xs) (sym (take_all index choices k)) m)))

-- ---- one more assignment

lt_true : (m n : ℕ) → nat_lt m n ≡ true → m < n
lt_true m n h = grind (arith, nat_tests)

lt_false : (m n : ℕ) → nat_lt m n ≡ false → n ≤ m
lt_false m n h = grind (arith, nat_tests)

pub one_more : (n : ℕ) (P : ℕ → Type 0) → ((k : ℕ) → k < n → P k) → P n → (k : ℕ) → k < n + 1 → P k
one_more n P h p k l = by (nat_lt k n) refl
  where
    by : (b : Bool) → nat_lt k n ≡ b → P k
    by true e = h k (lt_true k n e)
    by false e = subst P (let low : n ≤ k = lt_false k n e in let same : n ≡ k = omega (arith, low, l) in same) p
