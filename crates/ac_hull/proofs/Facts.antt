-- The rows of an elimination: echelon form, what they span, and a further row behind them.
use Rattle.std.proofs.Common.{◌≡◌, inl, inr, ℕ, suc, ◌<◌, ◌≤◌, ℤ, pos, ◌+ℤ◌, ◌*ℤ◌, neg_ℤ, List, [], ◌∷◌, ◌++◌, length, map, replicate, refl, ap, sym, ◌∙◌, arith, length-append}
use Rattle.std.proofs.lemmas.Int.{ints}
use Rattle.std.proofs.lemmas.List.{length-map, length-replicate, map-append}
use Rattle.ac_base.specs.Dot.{dot}
use Rattle.ac_base.specs.Gcd.{content}
use Rattle.ac_base.proofs.Dot.{dot-nil}
use Rattle.ac_widen.specs.Combinations.{blend, Each}
use Rattle.ac_widen.proofs.Combining.{no_divisor, dot-mix_point, each_map}
use Rattle.ac_hull.specs.FractionFreeElimination.{entry, column_of, pivot_of, reduced_by, reduced_all, lowered, fresh, next_line, next_content, IsZero, Eliminates, none, more}
use Rattle.ac_hull.specs.declared.line.Line.{Line}
use Rattle.ac_hull.proofs.Entries.{entry_blend, lead_or}
use Rattle.ac_hull.proofs.Lines.{length_mix, content_positive, Spans, spans_all, spans_lowered, spans_grow, spans_fresh, zero_stays, zero_at_pivot, zero_lowered, Own, own_fresh, own_reduced, own_lowered}

-- the shape of a row behind n differences
pub record LineOver (columns : ℕ) (ds : List (List ℤ)) (l : Line) : Type 0 where
  pub coords : length l.coords ≡ columns
  pub weights : length l.weights ≤ length ds
  pub spans : Spans ds l
  pub pivot : ¬ (pivot_of l ≡ pos 0)

-- rows further on have a 0 where a row has its pivot
abbrev pub Echelon : List Line → Type 0
Echelon [] = Unit {0}
Echelon (l ∷ ls) = Each (λ k. entry (column_of l) k.coords ≡ pos 0) ls × Echelon ls

pub record Facts (columns : ℕ) (ds : List (List ℤ)) (ls : List Line) : Type 0 where
  pub over : Each (LineOver columns ds) ls
  pub echelon : Echelon ls
  pub count : length ls ≡ length ds

pub each_snoc : {A : Type 0} (P : A → Type 0) (xs : List A) (x : A) → Each P xs → P x → Each P (xs ++ x ∷ [])
each_snoc P [] x h p = (p, tt)
each_snoc P (y ∷ xs) x h p = (h.0, each_snoc P xs x h.1 p)

pub each_front : {A : Type 0} (P : A → Type 0) (xs ys : List A) → Each P (xs ++ ys) → Each P xs
each_front P [] ys h = tt
each_front P (x ∷ xs) ys h = (h.0, each_front P xs ys h.1)

pub each_last : {A : Type 0} (P : A → Type 0) (xs : List A) (x : A) → Each P (xs ++ x ∷ []) → P x
each_last P [] x h = h.0
each_last P (y ∷ xs) x h = each_last P xs x h.1

-- the row before it is divided
module _ (columns : ℕ) (ds : List (List ℤ)) (d : List ℤ) (is : length d ≡ columns) where
  abbrev Row_ : Line → Type 0
  Row_ l = (length l.coords ≡ columns) × (length l.weights ≡ suc (length ds)) × Spans (ds ++ d ∷ []) l × Own (length ds) l

  row_fresh : Row_ (fresh (length ds) d)
  row_fresh =
      (is, length-append (replicate (length ds) (pos 0)) (pos 1 ∷ []) ∙ (rw (length-replicate (length ds) (pos 0)) (omega arith)), spans_fresh ds d, own_fresh (length ds) d)

  row_reduced : (o l : Line) → LineOver columns ds o → Row_ l → Row_ (reduced_by o l)
  row_reduced o l h r = (
    length_mix (pivot_of o) l.coords (neg_ℤ (entry (column_of o) l.coords)) o.coords columns r.0 (omega (arith, h.coords)),
    length_mix (pivot_of o) l.weights (neg_ℤ (entry (column_of o) l.coords)) o.weights (suc (length ds)) r.1 (omega (arith, h.weights)),
    spans_all (ds ++ d ∷ []) (o ∷ []) l (spans_grow ds d o h.weights h.spans, tt) r.2,
    own_reduced (length ds) o l h.weights h.pivot r.3,
  )

  row_all : (os : List Line) (l : Line) → Each (LineOver columns ds) os → Row_ l → Row_ (reduced_all os l)
  row_all [] l h r = r
  row_all (o ∷ os) l h r = row_all os (reduced_by o l) h.1 (row_reduced o l h.0 r)

  zeros_all : (os : List Line) (l : Line) → Echelon os → Each (λ o. entry (column_of o) (reduced_all os l).coords ≡ pos 0) os
  zeros_all [] l e = tt
  zeros_all (o ∷ os) l e = (zero_stays (column_of o) os (reduced_by o l) e.0 (zero_at_pivot o l), zeros_all os (reduced_by o l) e.1)

  entry_behind : (a b : List ℤ) (n : ℕ) → ¬ (entry n b ≡ pos 0) → (m : ℕ) × ¬ (entry m (a ++ b) ≡ pos 0)
  entry_behind [] b n h = (n, h)
  entry_behind (x ∷ a) b n h = let r = entry_behind a b n h in (suc r.0, r.1)

  some_content : (l : Line) → Row_ l → 0 < content (l.coords ++ l.weights)
  some_content l r = let e = entry_behind l.coords l.weights (length ds) r.3 in content_positive e.0 (l.coords ++ l.weights) e.1

  row_lowered : (l : Line) → Row_ l → Row_ (lowered l)
  row_lowered l r =
      let c = some_content l r in
      (length-map l.coords _ ∙ r.0, length-map l.weights _ ∙ r.1, spans_lowered (ds ++ d ∷ []) l c r.2, own_lowered (length ds) l c r.3)

  -- it has a divisor
  pub next_positive : (ls : List Line) → Facts columns ds ls → 0 < next_content ls d
  next_positive ls f = some_content (reduced_all ls (fresh (length ls) d)) (row_all ls (fresh (length ls) d) f.over (rw f.count row_fresh))

  -- what a further row is
  pub record Next (ls : List Line) : Type 0 where
    pub coords : length (next_line ls d).coords ≡ columns
    pub weights : length (next_line ls d).weights ≡ suc (length ds)
    pub spans : Spans (ds ++ d ∷ []) (next_line ls d)
    pub own : Own (length ds) (next_line ls d)
    pub zeros : Each (λ o. entry (column_of o) (next_line ls d).coords ≡ pos 0) ls

  pub next_is : (ls : List Line) → Facts columns ds ls → Next ls
  next_is ls f =
      let r = row_all ls (fresh (length ls) d) f.over (rw f.count row_fresh) in
      let t = row_lowered (reduced_all ls (fresh (length ls) d)) r in
      let c = some_content (reduced_all ls (fresh (length ls) d)) r in
      record {
        coords = t.0;
        weights = t.1;
        spans = t.2;
        own = t.3;
        zeros = each_map (λ o. entry (column_of o) (reduced_all ls (fresh (length ls) d)).coords ≡ pos 0) (λ o. entry (column_of o) (next_line ls d).coords ≡ pos 0) ls
            (λ o e. zero_lowered (column_of o) (reduced_all ls (fresh (length ls) d)) c e) (zeros_all ls (fresh (length ls) d) f.echelon);
      }

echelon_snoc : (ls : List Line) (x : Line) → Echelon ls → Each (λ o. entry (column_of o) x.coords ≡ pos 0) ls → Echelon (ls ++ x ∷ [])
echelon_snoc [] x e z = (tt, tt)
echelon_snoc (l ∷ ls) x e z = (each_snoc (λ k. entry (column_of l) k.coords ≡ pos 0) ls x e.0 z.0, echelon_snoc ls x e.1 z.1)

pub pivot_nonzero : (l : Line) → ¬ (IsZero l.coords) → ¬ (pivot_of l ≡ pos 0)
pivot_nonzero l n = elim (lead_or l.coords) [ inl z ↦ absurd (n z) | inr p ↦ p.1 ]

facts_more : (columns : ℕ) (ds : List (List ℤ)) (ls : List Line) (d : List ℤ) → length d ≡ columns → ¬ (IsZero (next_line ls d).coords) → Facts columns ds ls → Facts columns (ds ++ d ∷ []) (ls ++ next_line ls d ∷ [])
facts_more columns ds ls d is n f =
    let x = next_is columns ds d is ls f in
    let grown : length (ds ++ d ∷ []) ≡ suc (length ds) = length-append ds (d ∷ []) ∙ (omega arith) in
    record {
      over = each_snoc (LineOver columns (ds ++ d ∷ [])) ls (next_line ls d)
          (each_map (LineOver columns ds) (LineOver columns (ds ++ d ∷ [])) ls
          (λ l h. record { coords = h.coords; weights = omega (arith, h.weights, grown); spans = spans_grow ds d l h.weights h.spans; pivot = h.pivot }) f.over)
          (record { coords = x.coords; weights = omega (arith, x.weights, grown); spans = x.spans; pivot = pivot_nonzero (next_line ls d) n });
      echelon = echelon_snoc ls (next_line ls d) f.echelon x.zeros;
      count = length-append ls (next_line ls d ∷ []) ∙ (omega (arith, f.count, grown));
    }

pub facts_of : {columns : ℕ} {ds : List (List ℤ)} {ls : List Line} → Eliminates columns ds ls → Facts columns ds ls
facts_of none = record { over = tt; echelon = tt; count = refl }
facts_of {columns} (more ds ls d e is n) = facts_more columns ds ls d is n (facts_of e)

-- a form that is 0 on the rows is 0 on the differences
dot_blend : (v ws : List ℤ) (ds : List (List ℤ)) → dot v (blend ws ds) ≡ dot ws (map (dot v) ds)
dot_blend v [] ds = dot-nil v
dot_blend v (w ∷ ws) [] = dot-nil v
dot_blend v (w ∷ ws) (d ∷ ds) = dot-mix_point v w d (pos 1) (blend ws ds) ∙ (rw (dot_blend v ws ds) (omega (arith, ints)))

dot_entries : (v xs ys : List ℤ) → ((z : ℕ) → entry z xs ≡ entry z ys) → dot v xs ≡ dot v ys
dot_entries [] xs ys h = refl
dot_entries (c ∷ v) [] [] h = refl
dot_entries (c ∷ v) [] (y ∷ ys) h = let e : pos 0 ≡ y = h 0 in let r = dot_entries v [] ys (λ z. h (suc z)) in (sym (dot-nil v) ∙ r ∙ (rw (← e) (omega (arith, ints))))
dot_entries (c ∷ v) (x ∷ xs) [] h = let e : x ≡ pos 0 = h 0 in let r = dot_entries v xs [] (λ z. h (suc z)) in (rw (e, r, dot-nil v) (omega (arith, ints)))
dot_entries (c ∷ v) (x ∷ xs) (y ∷ ys) h = let e : x ≡ y = h 0 in rw (e, dot_entries v xs ys (λ z. h (suc z))) refl

pub dot_spans : (v : List ℤ) (ds : List (List ℤ)) (l : Line) → Spans ds l → dot v l.coords ≡ dot l.weights (map (dot v) ds)
dot_spans v ds l h = dot_entries v l.coords (blend l.weights ds) (λ z. h z ∙ sym (entry_blend z l.weights ds)) ∙ dot_blend v l.weights ds

-- sums over zeros, and over zeros and one number
pub dot_each_zero : (w xs : List ℤ) → Each (λ x. x ≡ pos 0) xs → dot w xs ≡ pos 0
dot_each_zero [] xs h = refl
dot_each_zero (c ∷ w) [] h = refl
dot_each_zero (c ∷ w) (x ∷ xs) h = rw (h.0, dot_each_zero w xs h.1) (omega (arith, ints))

pub dot_last : (w xs : List ℤ) (y : ℤ) → dot w (xs ++ y ∷ []) ≡ dot w xs +ℤ entry (length xs) w *ℤ y
dot_last [] xs y = omega (arith, ints)
dot_last (c ∷ w) [] y = rw (dot-nil w) (omega (arith, ints))
dot_last (c ∷ w) (x ∷ xs) y = rw (dot_last w xs y) (omega (arith, ints))

abbrev pub Kills : List ℤ → List Line → Type 0
Kills v ls = Each (λ l. dot v l.coords ≡ pos 0) ls

abbrev pub KillsEach : List ℤ → List (List ℤ) → Type 0
KillsEach v ds = Each (λ d. dot v d ≡ pos 0) ds

pub zeros_map : (v : List ℤ) (ds : List (List ℤ)) → KillsEach v ds → Each (λ x. x ≡ pos 0) (map (dot v) ds)
zeros_map v [] h = tt
zeros_map v (d ∷ ds) h = (h.0, zeros_map v ds h.1)

pub kills_differences : {columns : ℕ} {ds : List (List ℤ)} {ls : List Line} → (v : List ℤ) → Eliminates columns ds ls → Kills v ls → KillsEach v ds
kills_differences v none k = tt
kills_differences {columns} v (more ds ls d e is n) k =
    let front = kills_differences v e (each_front (λ l. dot v l.coords ≡ pos 0) ls (next_line ls d ∷ []) k) in
    let x = next_is columns ds d is ls (facts_of e) in
    let a : dot v (next_line ls d).coords ≡ pos 0 = each_last (λ l. dot v l.coords ≡ pos 0) ls (next_line ls d) k in
    let b = dot_spans v (ds ++ d ∷ []) (next_line ls d) x.spans in
    let c : dot (next_line ls d).weights (map (dot v) (ds ++ d ∷ [])) ≡ dot (next_line ls d).weights (map (dot v) ds) +ℤ entry (length (map (dot v) ds)) (next_line ls d).weights *ℤ dot v d =
    ap (dot (next_line ls d).weights) (map-append (dot v) ds (d ∷ [])) ∙ dot_last (next_line ls d).weights (map (dot v) ds) (dot v d) in
    let z = dot_each_zero (next_line ls d).weights (map (dot v) ds) (zeros_map v ds front) in
    let own : ¬ (entry (length (map (dot v) ds)) (next_line ls d).weights ≡ pos 0) = rw (length-map ds (dot v)) x.own in
    each_snoc (λ d. dot v d ≡ pos 0) ds d front (no_divisor _ (dot v d) own (omega (arith, ints, a, b, c, z)))
