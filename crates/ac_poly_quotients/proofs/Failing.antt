-- What the loops over the ways in which a condition fails keep.
use Rattle.std.proofs.Common.{◌≡◌, ℕ, ◌+◌, ◌<◌, ◌≤◌, List, [], ◌∷◌, ◌++◌, length, drop, get_or, refl, sym, ap, ◌∙◌, append_assoc, append-nil}
use Rattle.std.specs.List.{flat_map}
use Rattle.std.proofs.lemmas.List.{drop_more, drop_all}
use Rattle.ac_forms.specs.declared.row.Row.{Row}
use Rattle.ac_poly_quotients.specs.ComparisonWays.{with_each, failing_by}
use Rattle.ac_poly_quotients.specs.declared.types.Way.{Way}

pub more : {A : Type 0} (xs : List A) (i : ℕ) (x : A) → i < length xs → x ≡ get_or xs i x → drop i xs ≡ x ∷ drop (i + 1) xs
more xs i x l e = drop_more xs i x l ∙ ap (λ y. y ∷ drop (i + 1) xs) (sym e)

-- a piece with each of some rows
pub record EachMade (piece rows : List Row) (old : List (List Row)) (i : ℕ) (made : List (List Row)) : Type 0 where
  pub value : old ++ with_each piece rows ≡ made ++ with_each piece (drop i rows)

pub each_start : (piece rows : List Row) (old : List (List Row)) → EachMade piece rows old 0 old
each_start piece rows old = record { value = refl }

pub each_step : (piece rows : List Row) (old : List (List Row)) (i : ℕ) (made new : List (List Row)) (r : Row) → EachMade piece rows old i made → i < length rows → r ≡ get_or rows i r → new ≡ made ++ (piece ++ r ∷ []) ∷ []
    → EachMade piece rows old (i + 1) new
each_step piece rows old i made new r h l e n = record {
  value = rw n (h.value ∙ rw (more rows i r l e) (sym (append_assoc made ((piece ++ r ∷ []) ∷ []) (with_each piece (drop (i + 1) rows)))));
}

pub each_end : (piece rows : List Row) (old : List (List Row)) (i : ℕ) (made : List (List Row)) → EachMade piece rows old i made → length rows ≤ i → made ≡ old ++ with_each piece rows
each_end piece rows old i made h l = sym ((h.value ∙ ap (λ r. made ++ with_each piece r) (drop_all i rows l)) ∙ append-nil made)

pub ruleset each_steps = (each_start, each_step, each_end)

-- the parts of a piece in which a condition fails
pub record FailingMade (ws : List Way) (piece : List Row) (old : List (List Row)) (i : ℕ) (made : List (List Row)) (done : List Row) : Type 0 where
  pub value : old ++ failing_by ws piece ≡ made ++ failing_by (drop i ws) done

pub failing_start : (ws : List Way) (piece : List Row) (old : List (List Row)) → FailingMade ws piece old 0 old piece
failing_start ws piece old = record { value = refl }

pub failing_step : (ws : List Way) (piece : List Row) (old : List (List Row)) (i : ℕ) (made new : List (List Row)) (done next : List Row) (w : Way) → FailingMade ws piece old i made done → i < length ws → w ≡ get_or ws i w
    → new ≡ made ++ with_each done w.negations → next ≡ done ++ w.row ∷ [] → FailingMade ws piece old (i + 1) new next
failing_step ws piece old i made new done next w h l e n d = record {
  value = rw (n, d) (h.value ∙ rw (more ws i w l e) (sym (append_assoc made (with_each done w.negations) (failing_by (drop (i + 1) ws) (done ++ w.row ∷ [])))));
}

pub failing_end : (ws : List Way) (piece : List Row) (old : List (List Row)) (i : ℕ) (made : List (List Row)) (done : List Row) → FailingMade ws piece old i made done → length ws ≤ i → made ≡ old ++ failing_by ws piece
failing_end ws piece old i made done h l = sym ((h.value ∙ ap (λ r. made ++ failing_by r done) (drop_all i ws l)) ∙ append-nil made)

pub ruleset failing_steps = (failing_start, failing_step, failing_end)

-- the parts of all pieces
pub record FlatMade (ws : List Way) (qs : List (List Row)) (i : ℕ) (made : List (List Row)) : Type 0 where
  pub value : flat_map (failing_by ws) qs ≡ made ++ flat_map (failing_by ws) (drop i qs)

pub flat_start : (ws : List Way) (qs : List (List Row)) → FlatMade ws qs 0 []
flat_start ws qs = record { value = refl }

pub flat_step : (ws : List Way) (qs : List (List Row)) (i : ℕ) (made new : List (List Row)) (q : List Row) → FlatMade ws qs i made → i < length qs → q ≡ get_or qs i q → new ≡ made ++ failing_by ws q → FlatMade ws qs (i + 1) new
flat_step ws qs i made new q h l e n = record { value = rw n (h.value ∙ rw (more qs i q l e) (sym (append_assoc made (failing_by ws q) (flat_map (failing_by ws) (drop (i + 1) qs))))) }

pub flat_end : (ws : List Way) (qs : List (List Row)) (i : ℕ) (made : List (List Row)) → FlatMade ws qs i made → length qs ≤ i → made ≡ flat_map (failing_by ws) qs
flat_end ws qs i made h l = sym ((h.value ∙ ap (λ r. made ++ flat_map (failing_by ws) r) (drop_all i qs l)) ∙ append-nil made)

pub ruleset flat_steps = (flat_start, flat_step, flat_end)
