-- Points with their columns filled: they only grow, and keep what was there.
use Rattle.std.proofs.Common.{◌⊎◌, inl, inr, ◌≡◌, ◌↔◌, ℕ, zero, suc, ◌+◌, ◌≤◌, ℤ, pos, List, [], ◌∷◌, ◌++◌, length, get_or, refl, sym, ap, ◌∙◌, arith, length-append, append_assoc, append-nil, Some}
use Rattle.std.specs.Prelude.{slice_get}
use Rattle.std.proofs.Math.Seq.{get_or-append_seam}
use Rattle.ac_forms.specs.Affine.{Affine, value_at}
use Rattle.ac_forms.specs.PieceMembership.{IsInSome}
use Rattle.ac_forms.specs.Renaming.{picked}
use Rattle.ac_forms.specs.Rows.{Meets}
use Rattle.ac_forms.specs.declared.row.Row.{Row}
use Rattle.ac_forms.proofs.Values.{value_at-append}
use Rattle.ac_poly_quotients.proofs.NarrowRows.{NarrowRows, NarrowPieces, somewhere-narrow}
use Rattle.ac_poly_quotients.specs.QuotientRows.{rounded_at}
use Rattle.ac_poly_quotients.specs.FilledColumns.{counters, quots_of, filled, filling, counter_columns, ColumnsAreMade, AreKnown}
use Rattle.ac_poly_quotients.specs.declared.types.Rounded.{Rounded}
use Rattle.ac_poly_quotients.specs.declared.types.Column.{Column}
use Rattle.ac_poly_quotients.specs.declared.types.Column.TheVariants.{Counter, Quotient}
use Rattle.ac_poly_quotients.proofs.QuotientRows.{rounded-append}

-- one column more, and further columns
pub filled-append : (ss more : List Column) (p zs ws : List ℤ) → length zs ≡ counters ss → filled (ss ++ more) p (zs ++ ws) ≡ filled more (filled ss p zs) ws
filled-append [] more p [] ws e = refl
filled-append [] more p (z ∷ zs) ws e = absurd (omega arith)
filled-append (Counter ∷ ss) more p [] ws e = absurd (omega arith)
filled-append (Counter ∷ ss) more p (z ∷ zs) ws e = filled-append ss more (p ++ z ∷ []) zs ws (omega arith)
filled-append (Quotient r ∷ ss) more p zs ws e = filled-append ss more (p ++ rounded_at r p ∷ []) zs ws e

pub filled_counter : (ss : List Column) (p zs : List ℤ) (z : ℤ) → length zs ≡ counters ss → filled (ss ++ Counter ∷ []) p (zs ++ z ∷ []) ≡ filled ss p zs ++ z ∷ []
filled_counter ss p zs z e = filled-append ss (Counter ∷ []) p zs (z ∷ []) e

pub filled_quotient : (ss : List Column) (r : Rounded) (p zs : List ℤ) → length zs ≡ counters ss → filled (ss ++ Quotient r ∷ []) p zs ≡ filled ss p zs ++ rounded_at r (filled ss p zs) ∷ []
filled_quotient ss r p zs e = ap (filled (ss ++ Quotient r ∷ []) p) (sym (append-nil zs)) ∙ filled-append ss (Quotient r ∷ []) p zs [] e

pub counters-append : (ss more : List Column) → counters (ss ++ more) ≡ counters ss + counters more
counters-append [] more = omega arith
counters-append (Counter ∷ ss) more = omega (arith, counters-append ss more)
counters-append (Quotient r ∷ ss) more = counters-append ss more

pub quots-append : (ss more : List Column) → quots_of (ss ++ more) ≡ quots_of ss ++ quots_of more
quots-append [] more = refl
quots-append (Counter ∷ ss) more = quots-append ss more
quots-append (Quotient r ∷ ss) more = ap (λ (qs : List Rounded). r ∷ qs) (quots-append ss more)

-- so many counters, and the rest quotients
pub columns_counted : (ss : List Column) → length ss ≡ counters ss + length (quots_of ss)
columns_counted [] = refl
columns_counted (Counter ∷ ss) = omega (arith, columns_counted ss)
columns_counted (Quotient r ∷ ss) = omega (arith, columns_counted ss)

-- filling only appends
pub filled_is : (ss : List Column) (p zs : List ℤ) → filled ss p zs ≡ p ++ filling ss p zs
filled_is [] p zs = sym (append-nil p)
filled_is (Counter ∷ ss) p [] = filled_is ss (p ++ pos 0 ∷ []) [] ∙ append_assoc p (pos 0 ∷ []) (filling ss (p ++ pos 0 ∷ []) [])
filled_is (Counter ∷ ss) p (z ∷ zs) = filled_is ss (p ++ z ∷ []) zs ∙ append_assoc p (z ∷ []) (filling ss (p ++ z ∷ []) zs)
filled_is (Quotient r ∷ ss) p zs = filled_is ss (p ++ rounded_at r p ∷ []) zs ∙ append_assoc p (rounded_at r p ∷ []) (filling ss (p ++ rounded_at r p ∷ []) zs)

pub length-filling : (ss : List Column) (p zs : List ℤ) → length (filling ss p zs) ≡ length ss
length-filling [] p zs = refl
length-filling (Counter ∷ ss) p [] = ap suc (length-filling ss (p ++ pos 0 ∷ []) [])
length-filling (Counter ∷ ss) p (z ∷ zs) = ap suc (length-filling ss (p ++ z ∷ []) zs)
length-filling (Quotient r ∷ ss) p zs = ap suc (length-filling ss (p ++ rounded_at r p ∷ []) zs)

pub length-filled : (ss : List Column) (p zs : List ℤ) → length (filled ss p zs) ≡ length p + length ss
length-filled ss p zs = ap length (filled_is ss p zs) ∙ length-append p (filling ss p zs) ∙ ap (λ n. length p + n) (length-filling ss p zs)

-- what is over the columns that were there doesn't see the columns
pub steady_value : (f : Affine) (ss : List Column) (p zs : List ℤ) → length f.coefs ≤ length p → value_at f (filled ss p zs) ≡ value_at f p
steady_value f ss p zs h = ap (value_at f) (filled_is ss p zs) ∙ value_at-append f p (filling ss p zs) h

pub steady_rounded : (r : Rounded) (ss : List Column) (p zs : List ℤ) → length r.form.coefs ≤ length p → rounded_at r (filled ss p zs) ≡ rounded_at r p
steady_rounded r ss p zs h = ap (rounded_at r) (filled_is ss p zs) ∙ rounded-append r p (filling ss p zs) h

pub steady_pieces : (qs : List (List Row)) (ss : List Column) (p zs : List ℤ) → NarrowPieces (length p) qs → IsInSome Meets qs (filled ss p zs) ≡ IsInSome Meets qs p
steady_pieces qs ss p zs h = ap (IsInSome Meets qs) (filled_is ss p zs) ∙ somewhere-narrow qs p (filling ss p zs) h

-- the column behind p
pub there : (ss : List Column) (p zs : List ℤ) (z : ℤ) (k : ℕ) → length p ≡ k → get_or (filled ss (p ++ z ∷ []) zs) k (pos 0) ≡ z
there ss p zs z k e =
    let whole : filled ss (p ++ z ∷ []) zs ≡ p ++ z ∷ filling ss (p ++ z ∷ []) zs = filled_is ss (p ++ z ∷ []) zs ∙ append_assoc p (z ∷ []) (filling ss (p ++ z ∷ []) zs) in
    (λ i. get_or (whole i) (sym e i) (pos 0)) ∙ get_or-append_seam p z (filling ss (p ++ z ∷ []) zs) (pos 0)

one_longer : (p : List ℤ) (z : ℤ) (k : ℕ) → length p ≡ k → length (p ++ z ∷ []) ≡ k + 1
one_longer p z k e = length-append p (z ∷ []) ∙ ap (λ n. n + 1) e

-- the counters of a filled point are those it was filled with
pub counters_are : (ss : List Column) (k : ℕ) (p zs : List ℤ) → length p ≡ k → length zs ≡ counters ss → picked (counter_columns k ss) (filled ss p zs) ≡ zs
counters_are [] k p [] e l = refl
counters_are [] k p (z ∷ zs) e l = absurd (omega arith)
counters_are (Counter ∷ ss) k p [] e l = absurd (omega arith)
counters_are (Counter ∷ ss) k p (z ∷ zs) e l =
    let first = there ss p zs z k e in
    let rest = counters_are ss (k + 1) (p ++ z ∷ []) zs (one_longer p z k e) (omega arith) in
    λ i. first i ∷ rest i
counters_are (Quotient r ∷ ss) k p zs e l = counters_are ss (k + 1) (p ++ rounded_at r p ∷ []) zs (one_longer p (rounded_at r p) k e) l

-- a filled point has the values of its quotients
pub filled_known : (ss : List Column) (k : ℕ) (p zs : List ℤ) → length p ≡ k → ColumnsAreMade k ss → AreKnown k ss (filled ss p zs)
filled_known [] k p zs e h = tt
filled_known (Counter ∷ ss) k p [] e h = filled_known ss (k + 1) (p ++ pos 0 ∷ []) [] (one_longer p (pos 0) k e) h
filled_known (Counter ∷ ss) k p (z ∷ zs) e h = filled_known ss (k + 1) (p ++ z ∷ []) zs (one_longer p z k e) h
filled_known (Quotient r ∷ ss) k p zs e h =
    let same : rounded_at r (filled ss (p ++ rounded_at r p ∷ []) zs) ≡ rounded_at r p = steady_rounded r (Quotient r ∷ ss) p zs (omega (arith, h.0, e)) in
    (there ss p zs (rounded_at r p) k e ∙ sym same, filled_known ss (k + 1) (p ++ rounded_at r p ∷ []) zs (one_longer p (rounded_at r p) k e) h.2)

-- the value at one column
pub known_at : (ss : List Column) (k i : ℕ) (r : Rounded) (p : List ℤ) → AreKnown k ss p → slice_get ss i ≡ Some (Quotient r) → get_or p (k + i) (pos 0) ≡ rounded_at r p
known_at [] k i r p h e = absurd cc
known_at (Counter ∷ ss) k zero r p h e = absurd cc
known_at (Quotient q ∷ ss) k zero r p h e =
    let same : q ≡ r = cc in
    let n : k + 0 ≡ k = omega arith in
    rw n (h.0 ∙ ap (λ (x : Rounded). rounded_at x p) same)
known_at (Counter ∷ ss) k (suc i) r p h e = let n : k + suc i ≡ (k + 1) + i = omega arith in rw n (known_at ss (k + 1) i r p h e)
known_at (Quotient q ∷ ss) k (suc i) r p h e = let n : k + suc i ≡ (k + 1) + i = omega arith in rw n (known_at ss (k + 1) i r p h.1 e)

-- columns behind columns
pub made-append : (ss more : List Column) (k : ℕ) → ColumnsAreMade k ss → ColumnsAreMade (k + length ss) more → ColumnsAreMade k (ss ++ more)
made-append [] more k h g = let n : k + 0 ≡ k = omega arith in rw n at g
made-append (Counter ∷ ss) more k h g = let n : k + suc (length ss) ≡ (k + 1) + length ss = omega arith in made-append ss more (k + 1) h (rw n at g)
made-append (Quotient r ∷ ss) more k h g = let n : k + suc (length ss) ≡ (k + 1) + length ss = omega arith in (h.0, h.1, made-append ss more (k + 1) h.2 (rw n at g))

-- without quotients the counters stand behind the point
pub filled_plain : (ss : List Column) (p zs : List ℤ) → quots_of ss ≡ [] → length zs ≡ counters ss → filled ss p zs ≡ p ++ zs
filled_plain [] p [] n l = sym (append-nil p)
filled_plain [] p (z ∷ zs) n l = absurd (omega arith)
filled_plain (Counter ∷ ss) p [] n l = absurd (omega arith)
filled_plain (Counter ∷ ss) p (z ∷ zs) n l = filled_plain ss (p ++ z ∷ []) zs n (omega arith) ∙ append_assoc p (z ∷ []) zs
filled_plain (Quotient r ∷ ss) p zs n l = absurd (let e : suc (length (quots_of ss)) ≡ 0 = ap length n in omega arith)

-- as laws say it
pub filled_grows : (ss : List Column) (p zs : List ℤ) → (more : List ℤ) × (filled ss p zs ≡ p ++ more) × (length more ≡ length ss)
filled_grows ss p zs = (filling ss p zs, filled_is ss p zs, length-filling ss p zs)

pub pieces_steady : (qs : List (List Row)) (ss : List Column) (p zs : List ℤ) → NarrowPieces (length p) qs → IsInSome Meets qs (filled ss p zs) ↔ IsInSome Meets qs p
pieces_steady qs ss p zs h = rw (steady_pieces qs ss p zs h) ((λ x. x), (λ x. x))

pub rows_steady : (rows : List Row) (ss : List Column) (p zs : List ℤ) → NarrowRows (length p) rows → Meets rows (filled ss p zs) ↔ Meets rows p
rows_steady rows ss p zs h = let a = pieces_steady (rows ∷ []) ss p zs (h, tt) in ((λ m. only (a.0 (inl m))), (λ m. only (a.1 (inl m))))
  where
    only : {A : Type 0} → A ⊎ ⊥ → A
    only (inl x) = x
    only (inr x) = absurd x
