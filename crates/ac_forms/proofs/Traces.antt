-- Each row of a normal form is the normal form of one of the rows, or there is a cause of absurdity.
use Rattle.std.proofs.Common.{◌≡◌, ◌⊎◌, inl, inr, List, [], ◌∷◌, Bool, true, false, cond, ◌||◌, refl, sym, ap, ◌∙◌}
use Rattle.std.specs.List.{dedup, dedup_from}
use Rattle.std.specs.Ordering.{is_gt}
use Rattle.ac_forms.specs.NormalForm.{absurd_rows, left_onto, left_rows, is_absurd, has_absurd, insert_row, in_order, alike, clash, clash_after, has_clash, joined, normal_form}
use Rattle.ac_forms.specs.NormalRows.{normal_row}
use Rattle.ac_forms.specs.FormOrder.{row_cmp}
use Rattle.ac_forms.specs.ListMembers.{IsAmong}
use Rattle.ac_forms.specs.Traces.{IsLeftOf, HasAbsurd, HasClash}
use Rattle.ac_forms.specs.declared.row.Row.{Row}
use Rattle.ac_forms.specs.declared.normal.NormalRow.{NormalRow}
use Rattle.ac_forms.specs.declared.normal.NormalRow.TheVariants.{Kept, Dropped, Absurd}
use Rattle.ac_forms.proofs.Joining.{either_of}

onto_trace : (l : NormalRow) (r x : Row) (ls xs : List Row) → normal_row x ≡ l → (IsAmong r ls → IsLeftOf r xs) → IsAmong r (left_onto l ls) → IsLeftOf r (x ∷ xs)
onto_trace (Kept s) r x ls xs e h (inl q) = inl (e ∙ ap (λ (t : Row). Kept t) (sym q))
onto_trace (Kept s) r x ls xs e h (inr q) = inr (h q)
onto_trace Dropped r x ls xs e h q = inr (h q)
onto_trace Absurd r x ls xs e h q = inr (h q)

pub left_trace : (r : Row) (xs : List Row) → IsAmong r (left_rows xs) → IsLeftOf r xs
left_trace r [] h = h
left_trace r (x ∷ xs) h = onto_trace (normal_row x) r x (left_rows xs) xs refl (left_trace r xs) h

insert_trace : (r s : Row) (xs : List Row) → IsAmong r (insert_row s xs) → IsAmong r (s ∷ xs)
insert_trace r s [] h = h
insert_trace r s (x ∷ xs) h = by (insert_trace r s xs) (is_gt (row_cmp s x)) h
  where
    by : (IsAmong r (insert_row s xs) → IsAmong r (s ∷ xs)) → (g : Bool) → IsAmong r (cond g (x ∷ insert_row s xs) (s ∷ x ∷ xs)) → IsAmong r (s ∷ x ∷ xs)
    by m true (inl q) = inr (inl q)
    by m true (inr q) = elim (m q) [ inl t ↦ inl t | inr t ↦ inr (inr t) ]
    by m false q = q

pub order_trace : (r : Row) (xs : List Row) → IsAmong r (in_order xs) → IsAmong r xs
order_trace r [] h = h
order_trace r (x ∷ xs) h = elim (insert_trace r x (in_order xs) h) [ inl t ↦ inl t | inr t ↦ inr (order_trace r xs t) ]

dedup_trace : (r k : Row) (xs : List Row) → IsAmong r (dedup_from alike k xs) → IsAmong r (k ∷ xs)
dedup_trace r k [] h = h
dedup_trace r k (x ∷ xs) h = by (dedup_trace r k xs) (dedup_trace r x xs) (alike x k) h
  where
    by : (IsAmong r (dedup_from alike k xs) → IsAmong r (k ∷ xs)) → (IsAmong r (dedup_from alike x xs) → IsAmong r (x ∷ xs)) → (b : Bool)
        → IsAmong r (cond b (dedup_from alike k xs) (k ∷ dedup_from alike x xs)) → IsAmong r (k ∷ x ∷ xs)
    by m n true q = elim (m q) [ inl t ↦ inl t | inr t ↦ inr (inr t) ]
    by m n false (inl q) = inl q
    by m n false (inr q) = inr (n q)

pub joined_trace : (r : Row) (xs : List Row) → IsAmong r (dedup alike xs) → IsAmong r xs
joined_trace r [] h = h
joined_trace r (x ∷ xs) h = dedup_trace r x xs h

absurd_cause : (l : NormalRow) → is_absurd l ≡ true → l ≡ Absurd
absurd_cause (Kept s) e = absurd cc
absurd_cause Dropped e = absurd cc
absurd_cause Absurd e = refl

pub absurd_trace : (xs : List Row) → has_absurd xs ≡ true → HasAbsurd xs
absurd_trace [] e = absurd cc
absurd_trace (x ∷ xs) e =
    elim (either_of (is_absurd (normal_row x)) (has_absurd xs) e) [ inl t ↦ inl (absurd_cause (normal_row x) t) | inr t ↦ inr (absurd_trace xs t) ]

-- two of the rows that clash
abbrev pub SomeClash : List Row → Type 0
SomeClash xs = (r : Row) × (s : Row) × IsAmong r xs × IsAmong s xs × (clash r s ≡ true)

clash_trace : (k : Row) (xs : List Row) → clash_after k xs ≡ true → SomeClash (k ∷ xs)
clash_trace k [] e = absurd cc
clash_trace k (x ∷ xs) e =
    elim (either_of (clash k x) (clash_after x xs) e) [
      | inl t ↦ (k, x, inl refl, inr (inl refl), t)
      | inr t ↦ let c = clash_trace x xs t in (c.0, c.1, inr c.2, inr c.3, c.4)
    ]

clash_of : (xs ys : List Row) → ((r : Row) → IsAmong r ys → IsLeftOf r xs) → has_clash ys ≡ true → HasClash xs
clash_of xs [] h e = absurd cc
clash_of xs (y ∷ ys) h e = let c = clash_trace y ys e in (c.0, c.1, h c.0 c.2, h c.1 c.3, c.4)

-- where a row of the normal form comes from
pub form_trace : (xs : List Row) (r : Row) → IsAmong r (normal_form xs) → HasAbsurd xs ⊎ HasClash xs ⊎ IsLeftOf r xs
form_trace xs r h = by (has_absurd xs) refl h
  where
    from_order : (s : Row) → IsAmong s (in_order (left_rows xs)) → IsLeftOf s xs
    from_order s q = left_trace s xs (order_trace s (left_rows xs) q)

    inner : (c : Bool) → has_clash (in_order (left_rows xs)) ≡ c → IsAmong r (joined (in_order (left_rows xs))) → HasAbsurd xs ⊎ HasClash xs ⊎ IsLeftOf r xs
    inner true e q = inr (inl (clash_of xs (in_order (left_rows xs)) from_order e))
    inner false e q = inr (inr (from_order r (joined_trace r (in_order (left_rows xs)) (rw e at q))))

    by : (b : Bool) → has_absurd xs ≡ b → IsAmong r (cond b absurd_rows (joined (in_order (left_rows xs)))) → HasAbsurd xs ⊎ HasClash xs ⊎ IsLeftOf r xs
    by true e q = inl (absurd_trace xs e)
    by false e q = inner (has_clash (in_order (left_rows xs))) refl q
