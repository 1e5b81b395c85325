-- The numbers of a point in a block of its columns.
use Rattle.std.proofs.Common.{◌≡◌, ℕ, ◌+◌, List, [], ◌∷◌, ◌++◌, length, get_or, refl, sym, ◌∙◌, arith, ℤ, pos, length-append, append_assoc, append-nil}
use Rattle.std.specs.List.{range_with_len}
use Rattle.std.proofs.Math.Seq.{get_or-append_seam}
use Rattle.ac_forms.specs.Renaming.{picked}

block : (front middle back : List ℤ) → picked (range_with_len (length front) (length middle)) (front ++ (middle ++ back)) ≡ middle
block front [] back = refl
block front (x ∷ middle) back =
    let more : List ℤ = front ++ x ∷ [] in
    let long : length more ≡ length front + 1 = length-append front (x ∷ []) in
    let whole : more ++ (middle ++ back) ≡ front ++ (x ∷ (middle ++ back)) = append_assoc front (x ∷ []) (middle ++ back) in
    let same : picked (range_with_len (length front + 1) (length middle)) (front ++ (x ∷ (middle ++ back))) ≡ picked (range_with_len (length more) (length middle)) (more ++ (middle ++ back))
    = λ i. picked (range_with_len (sym long i) (length middle)) (sym whole i) in
    let rest = same ∙ block more middle back in
    let first : get_or (front ++ x ∷ (middle ++ back)) (length front) (pos 0) ≡ x = get_or-append_seam front x (middle ++ back) (pos 0) in
    λ i. first i ∷ rest i

pub numbers_behind : (front middle back : List ℤ) (from count : ℕ) → length front ≡ from → length middle ≡ count → picked (range_with_len from count) (front ++ (middle ++ back)) ≡ middle
numbers_behind front middle back from count e l = (λ i. picked (range_with_len (sym e i) (sym l i)) (front ++ (middle ++ back))) ∙ block front middle back

pub numbers_last : (front middle back : List ℤ) (from count : ℕ) → length front + length middle ≡ from → length back ≡ count → picked (range_with_len from count) (front ++ (middle ++ back)) ≡ back
numbers_last front middle back from count e l =
    let h : length (front ++ middle) ≡ from = omega (arith, e, length-append front middle) in
    (λ i. picked (range_with_len from count) (sym (append_assoc front middle back) i))
    ∙ (λ i. picked (range_with_len from count) ((front ++ middle) ++ sym (append-nil back) i))
    ∙ numbers_behind (front ++ middle) back [] from count h l
