-- What the loops over noted rows keep.
use Rattle.std.proofs.Common.{◌≡◌, ℕ, zero, suc, ◌+◌, ◌<◌, ◌≤◌, ◌||◌, List, [], ◌∷◌, ◌++◌, length, take, drop, get_or, Bool, true, false, Option, Some, None, refl, sym, ap, ◌∙◌, subst, arith, min}
use Rattle.std.specs.List.{AllByRecursion}
use Rattle.std.proofs.lemmas.List.{drop_more, take_more, take_all, length-take}
use Rattle.ac_forms.specs.FormOrder.{row_eq}
use Rattle.ac_forms.specs.NormalRows.{normal_row, NormalFits}
use Rattle.ac_forms.specs.Standing.{is_among, normal_of, kept_onto, kept_rows, is_left_among, stands}
use Rattle.ac_forms.specs.declared.normal.NormalRow.{NormalRow}
use Rattle.ac_forms.specs.declared.normal.NormalRow.TheVariants.{Kept, Dropped, Absurd}
use Rattle.ac_forms.specs.declared.row.Row.{Row}
use Rattle.ac_forms.proofs.Standings.{row_same, normal_made, normal_none}
use Rattle.ac_claims_paths.specs.RowNotes.{IsNoted, rows_of}
use Rattle.ac_claims_paths.specs.declared.noted.Noted.{Noted}

-- ---- lists whose elements meet a property

pub all_at : {X : Type 0} (P : X → Type 0) (xs : List X) (i : ℕ) (x : X) → i < length xs → x ≡ get_or xs i x → AllByRecursion P xs → P x
all_at P [] i x l e a = absurd (omega (arith, l))
all_at P (y ∷ ys) zero x l e a = subst P (sym e) a.0
all_at P (y ∷ ys) (suc i) x l e a = all_at P ys i x (omega (arith, l)) e a.1

pub all_push : {X : Type 0} (P : X → Type 0) (xs : List X) (x : X) → AllByRecursion P xs → P x → AllByRecursion P (xs ++ x ∷ [])
all_push P [] x a b = (b, tt)
all_push P (y ∷ xs) x a b = (a.0, all_push P xs x a.1 b)

pub all_take : {X : Type 0} (P : X → Type 0) (n : ℕ) (xs : List X) → AllByRecursion P xs → AllByRecursion P (take n xs)
all_take P zero xs a = tt
all_take P (suc n) [] a = tt
all_take P (suc n) (x ∷ xs) a = (a.0, all_take P n xs a.1)

pub rows_push : (ns : List Noted) (n : Noted) → rows_of (ns ++ n ∷ []) ≡ rows_of ns ++ n.row ∷ []
rows_push [] n = refl
rows_push (m ∷ ns) n = ap (λ rs. m.row ∷ rs) (rows_push ns n)

pub length_rows : (ns : List Noted) → length (rows_of ns) ≡ length ns
length_rows [] = refl
length_rows (n ∷ ns) = ap suc (length_rows ns)

-- ---- a row among those that are noted

kept_head : (ns : List Noted) (i : ℕ) (x : Noted) → i < length ns → x ≡ get_or ns i x → AllByRecursion IsNoted ns → kept_rows (rows_of (drop i ns)) ≡ kept_onto x.normal (kept_rows (rows_of (drop (i + 1) ns)))
kept_head ns i x l e a =
    let d : drop i ns ≡ x ∷ drop (i + 1) ns = rw e (drop_more ns i x l) in
    let n : x.normal ≡ normal_of x.row = all_at IsNoted ns i x l e a in
    ap (λ xs. kept_rows (rows_of xs)) d ∙ ap (λ o. kept_onto o (kept_rows (rows_of (drop (i + 1) ns)))) (sym n)

pub among_true : (r s : Row) (ns : List Noted) (i : ℕ) (x : Noted) → i < length ns → x ≡ get_or ns i x → AllByRecursion IsNoted ns → x.normal ≡ Some (Kept s) → row_eq s r ≡ true → is_among r (kept_rows (rows_of (drop i ns))) ≡ true
among_true r s ns i x l e a n k =
    ap (is_among r) (kept_head ns i x l e a ∙ ap (λ o. kept_onto o (kept_rows (rows_of (drop (i + 1) ns)))) n) ∙ ap (λ b. b || is_among r (kept_rows (rows_of (drop (i + 1) ns)))) k

pub among_false : (r s : Row) (ns : List Noted) (i : ℕ) (x : Noted) → i < length ns → x ≡ get_or ns i x → AllByRecursion IsNoted ns → x.normal ≡ Some (Kept s) → row_eq s r ≡ false → is_among r (kept_rows (rows_of (drop i ns))) ≡ is_among r (kept_rows (rows_of (drop (i + 1) ns)))
among_false r s ns i x l e a n k =
    ap (is_among r) (kept_head ns i x l e a ∙ ap (λ o. kept_onto o (kept_rows (rows_of (drop (i + 1) ns)))) n) ∙ ap (λ b. b || is_among r (kept_rows (rows_of (drop (i + 1) ns)))) k

by_normal : (ns : List Noted) (r : Row) (o : Option NormalRow) → o ≡ normal_of r → is_left_among o (kept_rows (rows_of ns)) ≡ stands (rows_of ns) r
by_normal ns r o e = ap (λ p. is_left_among p (kept_rows (rows_of ns))) e

pub stands_kept : (ns : List Noted) (r n : Row) (b : Bool) → NormalFits r × (Kept n ≡ normal_row r) → b ≡ is_among n (kept_rows (rows_of ns)) → b ≡ stands (rows_of ns) r
stands_kept ns r n b h e = e ∙ by_normal ns r (Some (Kept n)) (normal_made r (Kept n) h)

pub stands_dropped : (ns : List Noted) (r : Row) → NormalFits r × (Dropped ≡ normal_row r) → true ≡ stands (rows_of ns) r
stands_dropped ns r h = by_normal ns r (Some Dropped) (normal_made r Dropped h)

pub stands_absurd : (ns : List Noted) (r : Row) → NormalFits r × (Absurd ≡ normal_row r) → false ≡ stands (rows_of ns) r
stands_absurd ns r h = by_normal ns r (Some Absurd) (normal_made r Absurd h)

pub stands_wide : (ns : List Noted) (r : Row) → ¬ NormalFits r → false ≡ stands (rows_of ns) r
stands_wide ns r h = by_normal ns r None (sym (normal_none r h))

pub ruleset stands_steps = (stands_kept, stands_dropped, stands_absurd, stands_wide)

-- ---- rows that agree

pub record Agree (ns : List Noted) (rows : List Row) (i : ℕ) : Type 0 where
  pub same : rows_of (take i ns) ≡ take i rows
  pub within : i ≤ length rows

pub agree_start : (ns : List Noted) (rows : List Row) → Agree ns rows 0
agree_start ns rows = record { same = refl; within = omega (arith) }

pub agree_step : (ns : List Noted) (rows : List Row) (i : ℕ) (x : Noted) (y : Row) → Agree ns rows i → i < length ns → x ≡ get_or ns i x → i < length rows → y ≡ get_or rows i y → row_eq x.row y ≡ true → Agree ns rows (i + 1)
agree_step ns rows i x y h l e m f k =
    let t : take (i + 1) ns ≡ take i ns ++ x ∷ [] = take_more ns i x l ∙ ap (λ z. take i ns ++ z ∷ []) (sym e) in
    let u : take (i + 1) rows ≡ take i rows ++ y ∷ [] = take_more rows i y m ∙ ap (λ z. take i rows ++ z ∷ []) (sym f) in
    record { same = ap rows_of t ∙ rows_push (take i ns) x ∙ ap (λ rs. rs ++ x.row ∷ []) h.same ∙ ap (λ z. take i rows ++ z ∷ []) (row_same x.row y k) ∙ sym u; within = omega (arith, m) }

-- ---- rows that are noted one after another

pub record NotedSoFar (ns : List Noted) (rows : List Row) (i : ℕ) : Type 0 where
  pub first : rows_of ns ≡ take i rows
  pub noted : AllByRecursion IsNoted ns
  pub within : i ≤ length rows

min_within : (m n : ℕ) → min m n ≤ n
min_within m n = omega (arith)

pub noted_start : (ns : List Noted) (rows : List Row) → rows_of ns ≡ take (length ns) rows → AllByRecursion IsNoted ns → NotedSoFar ns rows (length ns)
noted_start ns rows e a = record { first = e; noted = a; within = subst (λ n. n ≤ length rows) (sym (sym (length_rows ns) ∙ ap length e ∙ length-take (length ns) rows)) (min_within (length ns) (length rows)) }

pub noted_step : (ns more : List Noted) (rows : List Row) (i : ℕ) (x : Noted) (y : Row) → NotedSoFar ns rows i → i < length rows → y ≡ get_or rows i y → x.row ≡ y → IsNoted x → more ≡ ns ++ x ∷ [] → NotedSoFar more rows (i + 1)
noted_step ns more rows i x y h m f e n is =
    let u : take (i + 1) rows ≡ take i rows ++ y ∷ [] = take_more rows i y m ∙ ap (λ z. take i rows ++ z ∷ []) (sym f) in
    record { first = ap rows_of is ∙ rows_push ns x ∙ ap (λ rs. rs ++ x.row ∷ []) h.first ∙ ap (λ z. take i rows ++ z ∷ []) e ∙ sym u; noted = subst (AllByRecursion IsNoted) (sym is) (all_push IsNoted ns x h.noted n); within = omega (arith, m) }

pub noted_end : (ns : List Noted) (rows : List Row) (i : ℕ) → NotedSoFar ns rows i → length rows ≤ i → rows_of ns ≡ rows
noted_end ns rows i h l = h.first ∙ take_all i rows l

pub ruleset note_steps = (noted_start, noted_end)
