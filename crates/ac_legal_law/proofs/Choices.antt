-- Points in one of several lists of rows, each made of parts; and the numbers of a point in the columns of a question.
use Rattle.std.proofs.Common.{◌≡◌, ◌↔◌, inl, inr, ℕ, ◌+◌, ◌≤◌, List, [], ◌∷◌, ◌++◌, map, length, get_or, refl, sym, ap, ◌∙◌, subst, ℤ, pos, ◌≤ℤ◌, length-append, append_assoc, append-nil}
use Rattle.std.specs.List.{flat_map, range_with_len}
use Rattle.ac_base.specs.Multiple.{IsMultiple}
use Rattle.ac_forms.specs.Affine.{Affine}
use Rattle.ac_forms.specs.ListMembers.{IsAmong}
use Rattle.ac_forms.specs.PieceMembership.{IsInSome}
use Rattle.ac_forms.specs.Renaming.{renamed, renamed_row, picked}
use Rattle.ac_forms.specs.Rows.{Holds, Meets, AreRowsOver, form_of}
use Rattle.ac_forms.specs.declared.row.Row.{Row}
use Rattle.ac_forms.specs.declared.row.Row.TheVariants.{Eq, Div, Ge}
use Rattle.ac_forms.proofs.InPieces.{some-append}
use Rattle.ac_forms.proofs.Renamings.{value-renamed, meets-renamed}
use Rattle.ac_forms.proofs.Values.{value_at-append}
use Rattle.ac_poly.specs.ModelMeaning.{values_at}
use Rattle.ac_poly.specs.declared.types.StmtModel.{StmtModel}
use Rattle.ac_poly.specs.Coordinates.{width}
use Rattle.ac_poly.proofs.Blocks.{numbers_behind, numbers_last}
use Rattle.ac_poly.proofs.Rows.{meets_append}
use Rattle.ac_poly_quotients.proofs.CounterOrder.{counters_are_read}
use Rattle.ac_legal_law.specs.OrderQuestions.{joined, first_columns, second_columns, first_counters, second_counters}

with_front : (a : List Row) (bs : List (List Row)) (p : List ℤ) → IsInSome Meets (map (λ b. a ++ b) bs) p ↔ (Meets a p × IsInSome Meets bs p)
with_front a [] p = ((λ h. absurd h), (λ h. absurd h.1))
with_front a (b ∷ bs) p =
    let one = meets_append a b p in
    let more = with_front a bs p in (
      (λ h. elim h [ inl m ↦ (let k = one.0 m in (k.0, inl k.1)) | inr s ↦ (let k = more.0 s in (k.0, inr k.1)) ]),
      (λ h. elim h.1 [ inl m ↦ inl (one.1 (h.0, m)) | inr s ↦ inr (more.1 (h.0, s)) ]),
    )

-- in one that is joined of two
pub in_joined : (as' bs : List (List Row)) (p : List ℤ) → IsInSome Meets (joined as' bs) p ↔ (IsInSome Meets as' p × IsInSome Meets bs p)
in_joined [] bs p = ((λ h. absurd h), (λ h. absurd h.0))
in_joined (a ∷ rest) bs p =
    let split = some-append Meets (map (λ (b : List Row). a ++ b) bs) (joined rest bs) p in
    let here = with_front a bs p in
    let more = in_joined rest bs p in (
      (λ h. elim (split.0 h) [ inl s ↦ (let k = here.0 s in (inl k.0, k.1)) | inr s ↦ (let k = more.0 s in (inr k.0, k.1)) ]),
      (λ h. split.1 (elim h.0 [ inl m ↦ inl (here.1 (m, h.1)) | inr s ↦ inr (more.1 (s, h.1)) ])),
    )

-- in one of the pieces among other columns
pub in_renamed : (ks : List ℕ) (qs : List (List Row)) (p : List ℤ) → IsInSome Meets (map (map (renamed_row ks)) qs) p ↔ IsInSome Meets qs (picked ks p)
in_renamed ks [] p = ((λ h. h), (λ h. h))
in_renamed ks (q ∷ qs) p =
    let one = meets-renamed ks q p in
    let more = in_renamed ks qs p in (
      (λ h. elim h [ inl m ↦ inl (one.0 m) | inr s ↦ inr (more.0 s) ]),
      (λ h. elim h [ inl m ↦ inl (one.1 m) | inr s ↦ inr (more.1 s) ]),
    )

-- in one of what is made for the items of a list
pub in_some_of : {A : Type 0} (f : A → List (List Row)) (xs : List A) (p : List ℤ) → IsInSome Meets (flat_map f xs) p ↔ ((x : A) × IsAmong x xs × IsInSome Meets (f x) p)
in_some_of f [] p = ((λ h. absurd h), (λ h. absurd h.1))
in_some_of {A} f (x ∷ xs) p =
    let split = some-append Meets (f x) (flat_map f xs) p in
    let more = in_some_of f xs p in (
      (λ h. elim (split.0 h) [ inl s ↦ (x, inl refl, s) | inr s ↦ (let k = more.0 s in (k.0, inr k.1, k.2)) ]),
      (λ h. split.1 (elim h.1 [ inl e ↦ inl (subst (λ (y : A). IsInSome Meets (f y) p) e h.2) | inr a ↦ inr (more.1 (h.0, a, h.2)) ])),
    )

-- values of forms among other columns
pub values-renamed : (ks : List ℕ) (fs : List Affine) (p : List ℤ) → values_at p (map (renamed ks) fs) ≡ values_at (picked ks p) fs
values-renamed ks [] p = refl
values-renamed ks (f ∷ fs) p = λ i. value-renamed ks f p i ∷ values-renamed ks fs p i

-- rows over the first columns alone
front_holds : (r : Row) (p q : List ℤ) → length (form_of r).coefs ≤ length p → Holds r (p ++ q) ↔ Holds r p
front_holds (Eq f) p q l = let v = value_at-append f p q l in ((λ h. sym v ∙ h), (λ h. v ∙ h))
front_holds (Div m f) p q l = let v = value_at-append f p q l in ((λ h. subst (λ (x : ℤ). IsMultiple m x) v h), (λ h. subst (λ (x : ℤ). IsMultiple m x) (sym v) h))
front_holds (Ge f) p q l = let v = value_at-append f p q l in ((λ h. subst (λ (x : ℤ). pos 0 ≤ℤ x) v h), (λ h. subst (λ (x : ℤ). pos 0 ≤ℤ x) (sym v) h))

pub front_meets : (rs : List Row) (p q : List ℤ) → AreRowsOver (length p) rs → Meets rs (p ++ q) ↔ Meets rs p
front_meets [] p q h = ((λ m. m), (λ m. m))
front_meets (r ∷ rs) p q h =
    let one = front_holds r p q h.0.0 in
    let more = front_meets rs p q h.1 in
    ((λ m. (one.0 m.0, more.0 m.1)), (λ m. (one.1 m.0, more.1 m.1)))

-- the numbers in the columns of the first and of the second
picked_append : (ks ls : List ℕ) (p : List ℤ) → picked (ks ++ ls) p ≡ picked ks p ++ picked ls p
picked_append [] ls p = refl
picked_append (k ∷ ks) ls p = ap (λ (xs : List ℤ). get_or p k (pos 0) ∷ xs) (picked_append ks ls p)

pub picked_first : (params xs ys : List ℤ) (n : ℕ) (s : StmtModel) → length params ≡ n → length xs ≡ width s → picked (first_columns n s) (params ++ (xs ++ ys)) ≡ params ++ xs
picked_first params xs ys n s e l =
    picked_append (range_with_len 0 n) (range_with_len n (width s)) (params ++ (xs ++ ys))
    ∙ (λ i. numbers_behind [] params (xs ++ ys) 0 n refl e i ++ numbers_behind params xs ys n (width s) e l i)

pub picked_second : (params xs ys : List ℤ) (n : ℕ) (s u : StmtModel) → length params ≡ n → length xs ≡ width s → length ys ≡ width u → picked (second_columns n s u) (params ++ (xs ++ ys)) ≡ params ++ ys
picked_second params xs ys n s u e l k =
    picked_append (range_with_len 0 n) (range_with_len (n + width s) (width u)) (params ++ (xs ++ ys))
    ∙ (λ i. numbers_behind [] params (xs ++ ys) 0 n refl e i ++ numbers_last params xs ys (n + width s) (width u) (λ j. e j + l j) k i)

-- the counters alone, which have quotients behind them
pub picked_first_counters : (params zs qs back : List ℤ) (n : ℕ) (s : StmtModel) → length params ≡ n → length zs ≡ length s.loops → picked (first_counters n s) (params ++ ((zs ++ qs) ++ back)) ≡ params ++ zs
picked_first_counters params zs qs back n s e l =
    picked_append (range_with_len 0 n) (range_with_len n (length s.loops)) (params ++ ((zs ++ qs) ++ back))
    ∙ (λ i. numbers_behind [] params ((zs ++ qs) ++ back) 0 n refl e i ++ counters_are_read params zs qs back n (length s.loops) e l i)

pub picked_second_counters : (params xs zs qs : List ℤ) (n : ℕ) (s u : StmtModel) → length params ≡ n → length xs ≡ width s → length zs ≡ length u.loops → picked (second_counters n s u) (params ++ (xs ++ (zs ++ qs))) ≡ params ++ zs
picked_second_counters params xs zs qs n s u e l k =
    let whole : params ++ (xs ++ (zs ++ qs)) ≡ (params ++ xs) ++ ((zs ++ qs) ++ []) = sym (append_assoc params xs (zs ++ qs)) ∙ ap (λ (t : List ℤ). (params ++ xs) ++ t) (sym (append-nil (zs ++ qs))) in
    let before : length (params ++ xs) ≡ n + width s = length-append params xs ∙ (λ j. e j + l j) in
    picked_append (range_with_len 0 n) (range_with_len (n + width s) (length u.loops)) (params ++ (xs ++ (zs ++ qs)))
    ∙ (λ i. numbers_behind [] params (xs ++ (zs ++ qs)) 0 n refl e i ++ (ap (picked (range_with_len (n + width s) (length u.loops))) whole ∙ counters_are_read (params ++ xs) zs qs [] (n + width s) (length u.loops) before k) i)
