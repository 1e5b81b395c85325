-- Quotients whose columns are numbered otherwise are added within `i128` too, each to the same sum.
use Rattle.std.proofs.Common.{◌≡◌, ◌⊎◌, inl, inr, ℕ, ◌+◌, ◌<◌, ◌≤◌, ℤ, pos, ◌+ℤ◌, List, [], ◌∷◌, map, sym, ◌∙◌, subst, arith}
use Rattle.std.specs.List.{AllByRecursion}
use Rattle.std.proofs.lemmas.Bool.{cases_eq, cases_lt}
use Rattle.std.proofs.lemmas.Int.{ints}
use Rattle.ac_forms.specs.Affine.{Affine, coef, column_form}
use Rattle.ac_forms.specs.Fits.{Fits}
use Rattle.ac_syntax.specs.declared.tree.Quot.{Quot}
use Rattle.ac_poly_quotients.specs.QuotientScopes.{coef_of}
use Rattle.ac_poly_quotients.specs.ScopeRange.{CanReplace}
use Rattle.ac_top.proofs.ColumnSums.{share, share_here, share_apart, plus_column, coef_of_sum, konst_of_sum, CanAdd, can_add, can_add_times}

-- a column before n that stays, or one behind that stays behind
abbrev pub Stays : ℕ → ℕ → ℕ → Type 0
Stays n k l = ((k < n) × (k ≡ l)) ⊎ ((n ≤ k) × (n ≤ l))

share_same : (k l i j : ℕ) (c : ℤ) → (k ≡ i → l ≡ j) → (l ≡ j → k ≡ i) → share k c i ≡ share l c j
share_same k l i j c f g = by (cases_eq k i)
  where
    by : (k ≡ i) ⊎ (k ≡ i → ⊥) → share k c i ≡ share l c j
    by (inl e) = subst (λ x. share k c x ≡ c) e (share_here k c) ∙ sym (subst (λ x. share l c x ≡ c) (f e) (share_here l c))
    by (inr other) = share_apart k c i other ∙ sym (share_apart l c j (λ e. other (g e)))

-- among quotients N, each with a column before and after
module _ (n : ℕ) (N : Quot → Type 0) (before after : Quot → ℕ) (stays : (q : Quot) → N q → Stays n (before q) (after q))
    (together : (q r : Quot) → N q → N r → (before q ≡ before r → after q ≡ after r) × (after q ≡ after r → before q ≡ before r))
  where
    -- two sums that have the same before column n, and at the columns of each quotient; what the second has behind fits
    pub record Moves (f g : Affine) : Type 0 where
      pub around : (i : ℕ) → i < n → coef i f ≡ coef i g
      pub own : (q : Quot) → N q → coef (before q) f ≡ coef (after q) g
      pub fits : (i : ℕ) → n ≤ i → Fits (coef i g)
      pub konst : f.konst ≡ g.konst

    fits_before : (f g : Affine) (k l : ℕ) → Moves f g → Stays n k l → ((i : ℕ) → i < k → Fits (coef i f)) → (i : ℕ) → i < l → Fits (coef i g)
    fits_before f g k l m (inl s) h i less = subst Fits (m.around i (omega (arith, less, s.0, s.1))) (h i (omega (arith, less, s.1)))
    fits_before f g k l m (inr s) h i less = by (cases_lt i n)
      where
        by : (i < n) ⊎ (n ≤ i) → Fits (coef i g)
        by (inl a) = subst Fits (m.around i a) (h i (omega (arith, a, s.0)))
        by (inr b) = m.fits i b

    can_move : (f g : Affine) (c : ℤ) (q : Quot) → Moves f g → N q → CanAdd f c (before q) → CanAdd g c (after q)
    can_move f g c q m k h = record {
      before = fits_before f g (before q) (after q) m (stays q k) h.before;
      coefficient = h.coefficient;
      sum = subst (λ z. Fits (z +ℤ c)) (m.own q k) h.sum;
      konst = subst Fits m.konst h.konst;
    }

    around_moved : (f g : Affine) (c : ℤ) (k l : ℕ) → Moves f g → Stays n k l → (i : ℕ) → i < n → coef i f +ℤ share k c i ≡ coef i g +ℤ share l c i
    around_moved f g c k l m (inl s) i less = λ t. m.around i less t +ℤ share (s.1 t) c i
    around_moved f g c k l m (inr s) i less =
        let a = share_apart k c i (λ e. omega (arith, e, less, s.0)) in
        let b = share_apart l c i (λ e. omega (arith, e, less, s.1)) in
        λ t. m.around i less t +ℤ (a ∙ sym b) t

    fits_moved : (g : Affine) (c : ℤ) (l : ℕ) → Fits (coef l g +ℤ c) → (i : ℕ) → Fits (coef i g) → Fits (coef i g +ℤ share l c i)
    fits_moved g c l s i h = by (cases_eq l i)
      where
        by : (l ≡ i) ⊎ (l ≡ i → ⊥) → Fits (coef i g +ℤ share l c i)
        by (inl e) = subst (λ x. Fits (coef x g +ℤ share l c x)) e (subst (λ z. Fits (coef l g +ℤ z)) (sym (share_here l c)) s)
        by (inr other) = let none = share_apart l c i other in subst (λ z. Fits (coef i g +ℤ z)) (sym none) (let e : coef i g +ℤ pos 0 ≡ coef i g = omega (arith, ints) in subst Fits (sym e) h)

    moved : (f g : Affine) (c : ℤ) (q : Quot) → Moves f g → N q → CanAdd g c (after q) → Moves (plus_column f c (before q)) (plus_column g c (after q))
    moved f g c q m k h = record {
      around = λ i less. coef_of_sum f c (before q) i ∙ around_moved f g c (before q) (after q) m (stays q k) i less ∙ sym (coef_of_sum g c (after q) i);
      own = λ r e.
          let t = together q r k e in
          coef_of_sum f c (before q) (before r)
          ∙ (λ i. m.own r e i +ℤ share_same (before q) (after q) (before r) (after r) c t.0 t.1 i)
          ∙ sym (coef_of_sum g c (after q) (after r));
      fits = λ i more. subst Fits (sym (coef_of_sum g c (after q) i)) (fits_moved g c (after q) h.sum i (m.fits i more));
      konst = konst_of_sum f c (before q) ∙ m.konst ∙ sym (konst_of_sum g c (after q));
    }

    -- one after another
    pub all_move : (qs : List Quot) (f g : Affine) → AllByRecursion N qs → Moves f g → CanReplace f (map coef_of qs) (map (λ k. column_form (k + 1) k) (map before qs))
        → CanReplace g (map coef_of qs) (map (λ k. column_form (k + 1) k) (map after qs))
    all_move [] f g k m h = tt
    all_move (q ∷ qs) f g k m h =
        let can = can_move f g q.coef q m k.0 (can_add f q.coef (before q) h.0) in (
          can_add_times g q.coef (after q) can,
          all_move qs (plus_column f q.coef (before q)) (plus_column g q.coef (after q)) k.1 (moved f g q.coef q m k.0 can) h.1,
        )
