-- What the loops that give columns their last places keep.
use Rattle.std.proofs.Common.{◌≡◌, ℕ, suc, ◌+◌, ◌<◌, ◌≤◌, subst, List, [], ◌∷◌, ◌++◌, length, drop, get_or, refl, sym, ap, ◌∙◌, arith, append_assoc, append-nil}
use Rattle.std.proofs.lemmas.List.{drop_all}
use Rattle.std.specs.List.{range_with_len}
use Rattle.ac_forms.specs.Renaming.{AreDistinct}
use Rattle.ac_forms.specs.declared.row.Row.{Row}
use Rattle.ac_forms.specs.declared.row.Row.TheVariants.{Ge}
use Rattle.ac_poly_quotients.specs.LastColumns.{last_columns, final_columns, places, moved_quotient, finals}
use Rattle.ac_poly_quotients.specs.LastRange.{CanTellOne, CanTell}
use Rattle.ac_poly_quotients.specs.FilledColumns.{counters}
use Rattle.ac_poly_quotients.specs.QuotientRows.{rest_form, spare_form, quotient_rows}
use Rattle.ac_poly_quotients.specs.declared.types.Column.{Column}
use Rattle.ac_poly_quotients.specs.declared.types.Column.TheVariants.{Counter, Quotient}
use Rattle.ac_poly_quotients.specs.declared.types.Rounded.{Rounded}
use Rattle.ac_poly_quotients.specs.declared.types.Scope.{Scope}
use Rattle.ac_poly_quotients.proofs.LastColumns.{range-joined, final-distinct}
use Rattle.ac_poly_quotients.proofs.Making.{more}

-- ---- the columns of the parameters

pub first_more : (k : ℕ) (made new : List ℕ) → made ≡ range_with_len 0 k → new ≡ made ++ k ∷ [] → new ≡ range_with_len 0 (k + 1)
first_more k made new m n = n ∙ ap (λ ks. ks ++ k ∷ []) m ∙ range-joined 0 k 1 k (let e : 0 + k ≡ k = omega arith in e)

pub ruleset first_steps = first_more

-- ---- the last columns

pub record Lasting (params depth : ℕ) (ss : List Column) (i counter quotient : ℕ) (made : List ℕ) : Type 0 where
  pub value : final_columns params depth ss ≡ made ++ last_columns counter quotient (drop i ss)

pub last_start : (params depth quotient : ℕ) (ss : List Column) (made : List ℕ) → made ≡ range_with_len 0 params → quotient ≡ params + depth → Lasting params depth ss 0 params quotient made
last_start params depth quotient ss made m q = record { value = rw (m, q) refl }

pub last_counter : (params depth : ℕ) (ss : List Column) (i counter quotient : ℕ) (made new : List ℕ) (next : ℕ) (s : Column) → Lasting params depth ss i counter quotient made → i < length ss → s ≡ get_or ss i s → s ≡ Counter
    → new ≡ made ++ counter ∷ [] → next ≡ counter + 1 → Lasting params depth ss (i + 1) next quotient new
last_counter params depth ss i counter quotient made new next s h l e c n m = record {
  value = rw (n, m) (h.value ∙ rw (more ss i s l e ∙ ap (λ x. x ∷ drop (i + 1) ss) c) (sym (append_assoc made (counter ∷ []) (last_columns (counter + 1) quotient (drop (i + 1) ss)))));
}

pub last_quotient : (params depth : ℕ) (ss : List Column) (i counter quotient : ℕ) (made new : List ℕ) (next : ℕ) (s : Column) (r : Rounded) → Lasting params depth ss i counter quotient made → i < length ss → s ≡ get_or ss i s → s ≡ Quotient r
    → new ≡ made ++ quotient ∷ [] → next ≡ quotient + 1 → Lasting params depth ss (i + 1) counter next new
last_quotient params depth ss i counter quotient made new next s r h l e c n m = record {
  value = rw (n, m) (h.value ∙ rw (more ss i s l e ∙ ap (λ x. x ∷ drop (i + 1) ss) c) (sym (append_assoc made (quotient ∷ []) (last_columns counter (quotient + 1) (drop (i + 1) ss)))));
}

pub last_end : (params depth : ℕ) (ss : List Column) (i counter quotient : ℕ) (made : List ℕ) → Lasting params depth ss i counter quotient made → length ss ≤ i → made ≡ final_columns params depth ss
last_end params depth ss i counter quotient made h l = sym ((h.value ∙ ap (λ r. made ++ last_columns counter quotient r) (drop_all i ss l)) ∙ append-nil made)

pub ruleset last_steps = (last_start, last_counter, last_quotient, last_end)

-- ---- the quotients among them

pub record Moving (ks : List ℕ) (ss : List Column) (i : ℕ) (made : List Rounded) : Type 0 where
  pub value : finals ks ss ≡ made ++ finals ks (drop i ss)

pub final_start : (ks : List ℕ) (ss : List Column) → Moving ks ss 0 []
final_start ks ss = record { value = refl }

pub final_counter : (ks : List ℕ) (ss : List Column) (i : ℕ) (made : List Rounded) (s : Column) → Moving ks ss i made → i < length ss → s ≡ get_or ss i s → s ≡ Counter → Moving ks ss (i + 1) made
final_counter ks ss i made s h l e c =
    let d : drop i ss ≡ Counter ∷ drop (i + 1) ss = more ss i s l e ∙ ap (λ x. x ∷ drop (i + 1) ss) c in
    record { value = rw d at h.value }

pub final_quotient : (ks : List ℕ) (ss : List Column) (i : ℕ) (made new : List Rounded) (s : Column) (r m : Rounded) → Moving ks ss i made → i < length ss → s ≡ get_or ss i s → s ≡ Quotient r
    → m ≡ moved_quotient ks r → new ≡ made ++ m ∷ [] → Moving ks ss (i + 1) new
final_quotient ks ss i made new s r m h l e c k n =
    let d : drop i ss ≡ Quotient r ∷ drop (i + 1) ss = more ss i s l e ∙ ap (λ x. x ∷ drop (i + 1) ss) c in
    record { value = rw (n, k) (h.value ∙ rw d (sym (append_assoc made (moved_quotient ks r ∷ []) (finals ks (drop (i + 1) ss))))) }

pub final_end : (ks : List ℕ) (ss : List Column) (i : ℕ) (made : List Rounded) → Moving ks ss i made → length ss ≤ i → made ≡ finals ks ss
final_end ks ss i made h l = let d = drop_all i ss l in sym ((rw d at h.value) ∙ append-nil made)

pub ruleset final_steps = (final_start, final_counter, final_quotient, final_end)

-- ---- how many are counters

pub record Counted (ss : List Column) (i count : ℕ) : Type 0 where
  pub value : counters ss ≡ count + counters (drop i ss)

pub count_start : (ss : List Column) → Counted ss 0 0
count_start ss = record { value = let e : counters ss ≡ 0 + counters ss = omega arith in e }

pub count_counter : (ss : List Column) (i count next : ℕ) (s : Column) → Counted ss i count → i < length ss → s ≡ get_or ss i s → s ≡ Counter → next ≡ count + 1 → Counted ss (i + 1) next
count_counter ss i count next s h l e c n =
    let d : drop i ss ≡ Counter ∷ drop (i + 1) ss = more ss i s l e ∙ ap (λ x. x ∷ drop (i + 1) ss) c in
    let v : counters ss ≡ count + suc (counters (drop (i + 1) ss)) = rw d at h.value in
    record { value = omega arith }

pub count_quotient : (ss : List Column) (i count : ℕ) (s : Column) (r : Rounded) → Counted ss i count → i < length ss → s ≡ get_or ss i s → s ≡ Quotient r → Counted ss (i + 1) count
count_quotient ss i count s r h l e c =
    let d : drop i ss ≡ Quotient r ∷ drop (i + 1) ss = more ss i s l e ∙ ap (λ x. x ∷ drop (i + 1) ss) c in
    record { value = rw d at h.value }

pub count_end : (ss : List Column) (i count : ℕ) → Counted ss i count → length ss ≤ i → count ≡ counters ss
count_end ss i count h l = let d = drop_all i ss l in let v : counters ss ≡ count + 0 = rw d at h.value in omega arith

pub ruleset count_steps = (count_start, count_counter, count_quotient, count_end)

pub places_distinct : (sc : Scope) (ks : List ℕ) → ks ≡ places sc → AreDistinct ks
places_distinct sc ks e = subst AreDistinct (sym e) (final-distinct sc.params (counters sc.columns) sc.columns (omega arith))

-- ---- their rows

pub record Telling (first : ℕ) (qs : List Rounded) (i k : ℕ) (made : List Row) : Type 0 where
  pub onward : CanTell first qs → CanTell k (drop i qs)
  pub back : CanTell k (drop i qs) → CanTell first qs
  pub value : quotient_rows first qs ≡ made ++ quotient_rows k (drop i qs)

pub tell_start : (first : ℕ) (qs : List Rounded) → Telling first qs 0 first []
tell_start first qs = record { onward = λ h. h; back = λ h. h; value = refl }

pub tell_fits : (first : ℕ) (qs : List Rounded) (i k : ℕ) (made : List Row) (q : Rounded) → Telling first qs i k made → i < length qs → q ≡ get_or qs i q → CanTell first qs → CanTellOne k q
tell_fits first qs i k made q h l e g = (rw (more qs i q l e) at (h.onward g)).0

pub tell_step : (first : ℕ) (qs : List Rounded) (i k next : ℕ) (made new : List Row) (q : Rounded) → Telling first qs i k made → i < length qs → q ≡ get_or qs i q
    → CanTellOne k q × (new ≡ made ++ Ge (rest_form k q) ∷ (Ge (spare_form k q) ∷ [])) → next ≡ k + 1 → Telling first qs (i + 1) next new
tell_step first qs i k next made new q h l e m z =
    let d = more qs i q l e in
    let rest : List Row = quotient_rows (k + 1) (drop (i + 1) qs) in
    let v : new ++ rest ≡ made ++ (Ge (rest_form k q) ∷ (Ge (spare_form k q) ∷ rest)) = ap (λ r. r ++ rest) m.1 ∙ append_assoc made (Ge (rest_form k q) ∷ (Ge (spare_form k q) ∷ [])) rest in
    let u : quotient_rows first qs ≡ made ++ quotient_rows k (q ∷ drop (i + 1) qs) = h.value ∙ ap (λ r. made ++ quotient_rows k r) d in
    record {
      onward = λ g. rw z ((rw d at (h.onward g)).1);
      back = λ g. h.back (rw d (m.0, rw z at g));
      value = u ∙ sym v ∙ ap (λ j. new ++ quotient_rows j (drop (i + 1) qs)) (sym z);
    }

pub tell_end : (first : ℕ) (qs : List Rounded) (i k : ℕ) (made : List Row) → Telling first qs i k made → length qs ≤ i → CanTell first qs × (made ≡ quotient_rows first qs)
tell_end first qs i k made h l = let d = drop_all i qs l in (h.back (rw d tt), sym ((rw d at h.value) ∙ append-nil made))

pub ruleset tell_steps = (tell_start, tell_fits, tell_step, tell_end)
