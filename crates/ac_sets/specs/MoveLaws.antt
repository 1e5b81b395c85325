-- Rows whose quotients stand further on hold where the rows do, the numbers between left out.
use Rattle.std.proofs.Common.{◌≡◌, ◌↔◌, ℕ, zero, suc, ◌+◌, ◌-◌, ◌≤◌, ◌<◌, ℤ, pos, List, [], ◌∷◌, ◌++◌, append_assoc, append-nil, length, map, get_or, refl, sym, ap, ◌∙◌, subst, arith, length-append}
use Rattle.std.specs.List.{range_with_len}
use Rattle.std.proofs.lemmas.List.{map-append}
use Rattle.ac_forms.specs.Renaming.{renamed_row, picked}
use Rattle.ac_forms.specs.Rows.{Holds, Meets}
use Rattle.ac_forms.specs.declared.row.Row.{Row}
use Rattle.ac_forms.proofs.Renamings.{holds-renamed, meets-renamed}
use Rattle.ac_sets.specs.SetIntersections.{quotients_from}

-- the numbers of a block of columns
at-seam : (xs zs : List ℤ) (y : ℤ) (k : ℕ) → length xs ≡ k → get_or (xs ++ y ∷ zs) k (pos 0) ≡ y
at-seam [] zs y zero e = refl
at-seam [] zs y (suc k) e = absurd (omega (arith, e))
at-seam (x ∷ xs) zs y zero e = absurd (omega (arith, e))
at-seam (x ∷ xs) zs y (suc k) e = at-seam xs zs y k (omega (arith, e))

two : {A : Type 0} {x y : A} {xs ys : List A} → x ≡ y → xs ≡ ys → x ∷ xs ≡ y ∷ ys
two p q = λ i. p i ∷ q i

block : (xs ys zs : List ℤ) (k w : ℕ) → length xs ≡ k → length ys ≡ w → picked (range_with_len k w) (xs ++ (ys ++ zs)) ≡ ys
block xs [] zs k zero e f = refl
block xs [] zs k (suc w) e f = absurd (omega (arith, f))
block xs (y ∷ ys) zs k zero e f = absurd (omega (arith, f))
block xs (y ∷ ys) zs k (suc w) e f =
    let long : length (xs ++ y ∷ []) ≡ k + 1 = omega (arith, length-append xs (y ∷ []), e) in
    let rest = block (xs ++ y ∷ []) ys zs (k + 1) w long (omega (arith, f)) in
    two (at-seam xs (ys ++ zs) y k e) (ap (picked (range_with_len (k + 1) w)) (sym (append_assoc xs (y ∷ []) (ys ++ zs))) ∙ rest)

pub quotients-picked : (n at columns : ℕ) (front gap back : List ℤ) → length front ≡ n → length (front ++ gap) ≡ at → length back ≡ columns - n → picked (quotients_from n at columns) ((front ++ gap) ++ back) ≡ front ++ back
quotients-picked n at columns front gap back l m r =
    let first = ap (picked (range_with_len 0 n)) (append_assoc front gap back) ∙ block [] front (gap ++ back) 0 n refl l in
    let second = ap (λ (xs : List ℤ). picked (range_with_len at (columns - n)) ((front ++ gap) ++ xs)) (sym (append-nil back)) ∙ block (front ++ gap) back [] at (columns - n) m r in
    map-append (λ k. get_or ((front ++ gap) ++ back) k (pos 0)) (range_with_len 0 n) (range_with_len at (columns - n)) ∙ (λ i. first i ++ second i)

pub moved-holds : (n at columns : ℕ) (r : Row) (front gap back : List ℤ) → length front ≡ n → length (front ++ gap) ≡ at → length back ≡ columns - n → Holds (renamed_row (quotients_from n at columns) r) ((front ++ gap) ++ back) ↔ Holds r (front ++ back)
moved-holds n at columns r front gap back l m e =
    subst (λ (q : List ℤ). Holds (renamed_row (quotients_from n at columns) r) ((front ++ gap) ++ back) ↔ Holds r q) (quotients-picked n at columns front gap back l m e)
    (holds-renamed (quotients_from n at columns) r ((front ++ gap) ++ back))

pub moved-meets : (n at columns : ℕ) (rs : List Row) (front gap back : List ℤ) → length front ≡ n → length (front ++ gap) ≡ at → length back ≡ columns - n → Meets (map (renamed_row (quotients_from n at columns)) rs) ((front ++ gap) ++ back) ↔ Meets rs (front ++ back)
moved-meets n at columns rs front gap back l m e =
    subst (λ (q : List ℤ). Meets (map (renamed_row (quotients_from n at columns)) rs) ((front ++ gap) ++ back) ↔ Meets rs q) (quotients-picked n at columns front gap back l m e)
    (meets-renamed (quotients_from n at columns) rs ((front ++ gap) ++ back))
