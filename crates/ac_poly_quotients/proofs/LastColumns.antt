-- The last columns of columns: what stands in them, that none stands twice, and that without quotients nothing moves.
use Rattle.std.proofs.Common.{◌≡◌, ◌↔◌, ℕ, zero, suc, ◌+◌, ◌<◌, ◌≤◌, ℤ, pos, ◌+ℤ◌, List, [], ◌∷◌, ◌++◌, length, replicate, get_or, refl, sym, ap, ◌∙◌, subst, arith, length-append, append_assoc, append-nil}
use Rattle.std.specs.Int.{int_div_euclid}
use Rattle.std.specs.List.{range_with_len}
use Rattle.std.proofs.lemmas.Int.{ints}
use Rattle.std.proofs.lemmas.List.{map-append}
use Rattle.std.proofs.lemmas.List.FromFn.{length-range_with_len}
use Rattle.std.proofs.Math.Seq.{get_or-append_seam}
use Rattle.ac_forms.specs.Affine.{Affine, value_at}
use Rattle.ac_forms.specs.Renaming.{add_at, renamed_coefs, renamed, renamed_row, picked, AreColumns, IsApartFrom, AreDistinct}
use Rattle.ac_forms.specs.Rows.{Meets, form_of}
use Rattle.ac_forms.specs.declared.row.Row.{Row}
use Rattle.ac_forms.specs.declared.row.Row.TheVariants.{Eq, Div, Ge}
use Rattle.ac_forms.proofs.Renamings.{value-renamed, form-within}
use Rattle.ac_poly_quotients.proofs.Blocks.{numbers_behind, numbers_last}
use Rattle.ac_poly_quotients.specs.QuotientRows.{rounded_at, quotient_rows, AreMade, HaveDivisors, AreValues}
use Rattle.ac_poly_quotients.specs.FilledColumns.{counters, quots_of, filled, ColumnsAreMade, AreKnown}
use Rattle.ac_poly_quotients.specs.LastColumns.{last_columns, final_columns, weave, moved_quotient, finals}
use Rattle.ac_poly_quotients.specs.declared.types.Column.{Column}
use Rattle.ac_poly_quotients.specs.declared.types.Column.TheVariants.{Counter, Quotient}
use Rattle.ac_poly_quotients.proofs.QuotientRows.{rows_are_values, rounded-append}
use Rattle.ac_poly_quotients.proofs.FilledColumns.{filled_known}

-- ---- what stands in the last columns

picked_columns : (ss : List Column) (i j : ℕ) (zs qs p : List ℤ) → length zs ≡ counters ss → length qs ≡ length (quots_of ss)
    → picked (range_with_len i (length zs)) p ≡ zs → picked (range_with_len j (length qs)) p ≡ qs → picked (last_columns i j ss) p ≡ weave ss zs qs
picked_columns [] i j zs qs p l m a b = refl
picked_columns (Counter ∷ ss) i j [] qs p l m a b = absurd (omega arith)
picked_columns (Counter ∷ ss) i j (z ∷ zs) qs p l m a b =
    let first : get_or p i (pos 0) ≡ z = cc in
    let more : picked (range_with_len (i + 1) (length zs)) p ≡ zs = cc in
    let rest = picked_columns ss (i + 1) j zs qs p (omega arith) m more b in
    λ t. first t ∷ rest t
picked_columns (Quotient r ∷ ss) i j zs [] p l m a b = absurd (omega arith)
picked_columns (Quotient r ∷ ss) i j zs (q ∷ qs) p l m a b =
    let first : get_or p j (pos 0) ≡ q = cc in
    let more : picked (range_with_len (j + 1) (length qs)) p ≡ qs = cc in
    let rest = picked_columns ss i (j + 1) zs qs p l (omega arith) a more in
    λ t. first t ∷ rest t

-- parameters, counters, quotients, read in the order in which the columns came
pub picked_is : (params depth : ℕ) (ss : List Column) (ps zs qs : List ℤ) → length ps ≡ params → length zs ≡ depth → length zs ≡ counters ss → length qs ≡ length (quots_of ss)
    → picked (final_columns params depth ss) (ps ++ (zs ++ qs)) ≡ ps ++ weave ss zs qs
picked_is params depth ss ps zs qs e d l m =
    let p : List ℤ = ps ++ (zs ++ qs) in
    let first : picked (range_with_len 0 params) p ≡ ps = numbers_behind [] ps (zs ++ qs) 0 params refl e in
    let a : picked (range_with_len params (length zs)) p ≡ zs = numbers_behind ps zs qs params (length zs) e refl in
    let b : picked (range_with_len (params + depth) (length qs)) p ≡ qs = numbers_last ps zs qs (params + depth) (length qs) (omega (arith, e, d)) refl in
    let rest = picked_columns ss params (params + depth) zs qs p l m a b in
    map-append (λ (k : ℕ). get_or p k (pos 0)) (range_with_len 0 params) (last_columns params (params + depth) ss) ∙ (λ t. first t ++ rest t)

-- ---- the rows of the quotients tell the values of the columns

one_longer : (p : List ℤ) (z : ℤ) (k : ℕ) → length p ≡ k → length (p ++ z ∷ []) ≡ k + 1
one_longer p z k e = length-append p (z ∷ []) ∙ ap (λ n. n + 1) e

at_seam : (p : List ℤ) (z : ℤ) (more : List ℤ) (k : ℕ) → length p ≡ k → get_or (p ++ z ∷ more) k (pos 0) ≡ z
at_seam p z more k e = subst (λ (n : ℕ). get_or (p ++ z ∷ more) n (pos 0) ≡ z) e (get_or-append_seam p z more (pos 0))

-- a woven point that has the values of its quotients is a filled one
known_woven : (ss : List Column) (k : ℕ) (p zs qs : List ℤ) → length p ≡ k → length zs ≡ counters ss → length qs ≡ length (quots_of ss) → ColumnsAreMade k ss
    → AreKnown k ss (p ++ weave ss zs qs) → p ++ weave ss zs qs ≡ filled ss p zs
known_woven [] k p zs qs e l m h g = append-nil p
known_woven (Counter ∷ ss) k p [] qs e l m h g = absurd (omega arith)
known_woven (Counter ∷ ss) k p (z ∷ zs) qs e l m h g =
    let whole = append_assoc p (z ∷ []) (weave ss zs qs) in
    sym whole ∙ known_woven ss (k + 1) (p ++ z ∷ []) zs qs (one_longer p z k e) (omega arith) m h (subst (AreKnown (k + 1) ss) (sym whole) g)
known_woven (Quotient r ∷ ss) k p zs [] e l m h g = absurd (omega arith)
known_woven (Quotient r ∷ ss) k p zs (q ∷ qs) e l m h g =
    let whole = append_assoc p (q ∷ []) (weave ss zs qs) in
    let narrow : length r.form.coefs ≤ length p = omega (arith, h.0, e) in
    let value : q ≡ rounded_at r p = sym (at_seam p q (weave ss zs qs) k e) ∙ g.0 ∙ rounded-append r p (q ∷ weave ss zs qs) narrow in
    sym whole
    ∙ known_woven ss (k + 1) (p ++ q ∷ []) zs qs (one_longer p q k e) l (omega arith) h.2 (subst (AreKnown (k + 1) ss) (sym whole) g.1)
    ∙ ap (λ (y : ℤ). filled ss (p ++ y ∷ []) zs) value

pub known_is : (ss : List Column) (k : ℕ) (p zs qs : List ℤ) → length p ≡ k → length zs ≡ counters ss → length qs ≡ length (quots_of ss) → ColumnsAreMade k ss
    → AreKnown k ss (p ++ weave ss zs qs) ↔ (p ++ weave ss zs qs ≡ filled ss p zs)
known_is ss k p zs qs e l m h = (known_woven ss k p zs qs e l m h, (λ i. subst (AreKnown k ss) (sym i) (filled_known ss k p zs e h)))

-- the moved quotients, at a point among other columns, are those of the columns
moved_known : (ks : List ℕ) (p w : List ℤ) → w ≡ picked ks p → (ss : List Column) (k j : ℕ) (front zs qs : List ℤ) → length front ≡ k → length zs ≡ counters ss → length qs ≡ length (quots_of ss)
    → w ≡ front ++ weave ss zs qs → picked (range_with_len j (length qs)) p ≡ qs → AreValues j (finals ks ss) p ↔ AreKnown k ss w
moved_known ks p w i [] k j front zs qs e l m f n = ((λ x. x), (λ x. x))
moved_known ks p w i (Counter ∷ ss) k j front [] qs e l m f n = absurd (omega arith)
moved_known ks p w i (Counter ∷ ss) k j front (z ∷ zs) qs e l m f n =
    moved_known ks p w i ss (k + 1) j (front ++ z ∷ []) zs qs (one_longer front z k e) (omega arith) m (f ∙ sym (append_assoc front (z ∷ []) (weave ss zs qs))) n
moved_known ks p w i (Quotient r ∷ ss) k j front zs [] e l m f n = absurd (omega arith)
moved_known ks p w i (Quotient r ∷ ss) k j front zs (q ∷ qs) e l m f n =
    let a : get_or p j (pos 0) ≡ q = cc in
    let more : picked (range_with_len (j + 1) (length qs)) p ≡ qs = cc in
    let b : get_or w k (pos 0) ≡ q = ap (λ (x : List ℤ). get_or x k (pos 0)) f ∙ at_seam front q (weave ss zs qs) k e in
    let v : rounded_at (moved_quotient ks r) p ≡ rounded_at r w = ap (λ (z : ℤ). int_div_euclid z r.div) (value-renamed ks r.form p ∙ ap (value_at r.form) (sym i)) in
    let again = moved_known ks p w i ss (k + 1) (j + 1) (front ++ q ∷ []) zs qs (one_longer front q k e) l (omega arith) (f ∙ sym (append_assoc front (q ∷ []) (weave ss zs qs))) more in
    ((λ h. (b ∙ sym a ∙ h.0 ∙ v, again.0 h.1)), (λ h. (a ∙ sym b ∙ h.0 ∙ sym v, again.1 h.1)))

finals_divide : (ks : List ℕ) (ss : List Column) (k : ℕ) → ColumnsAreMade k ss → HaveDivisors (finals ks ss)
finals_divide ks [] k h = tt
finals_divide ks (Counter ∷ ss) k h = finals_divide ks ss (k + 1) h
finals_divide ks (Quotient r ∷ ss) k h = (h.1, finals_divide ks ss (k + 1) h.2)

-- the rows of the quotients hold exactly where the point, read in the order in which the columns came, is the filled one
pub rows_are_filled : (params depth : ℕ) (ss : List Column) (ps zs qs : List ℤ) → length ps ≡ params → length zs ≡ depth → length zs ≡ counters ss → length qs ≡ length (quots_of ss) → ColumnsAreMade params ss
    → Meets (quotient_rows (params + depth) (finals (final_columns params depth ss) ss)) (ps ++ (zs ++ qs)) ↔ (ps ++ weave ss zs qs ≡ filled ss ps zs)
rows_are_filled params depth ss ps zs qs e d l m h =
    let ks = final_columns params depth ss in
    let p : List ℤ = ps ++ (zs ++ qs) in
    let n : picked (range_with_len (params + depth) (length qs)) p ≡ qs = numbers_last ps zs qs (params + depth) (length qs) (omega (arith, e, d)) refl in
    let a = rows_are_values (params + depth) (finals ks ss) p (finals_divide ks ss params h) in
    let b = moved_known ks p (ps ++ weave ss zs qs) (sym (picked_is params depth ss ps zs qs e d l m)) ss params (params + depth) ps zs qs e l m refl n in
    let c = known_is ss params ps zs qs e l m h in
    ((λ r. c.0 (b.0 (a.0 r))), (λ i. a.1 (b.1 (c.1 i))))

-- ---- the moved quotients are over the columns before them

no_coefs : (ks : List ℕ) → renamed_coefs ks [] ≡ []
no_coefs [] = refl
no_coefs (k ∷ ks) = refl

renamed-front : (ks ls : List ℕ) (cs : List ℤ) → length cs ≤ length ks → renamed_coefs (ks ++ ls) cs ≡ renamed_coefs ks cs
renamed-front [] ls [] h = no_coefs ls
renamed-front [] ls (c ∷ cs) h = absurd (omega arith)
renamed-front (k ∷ ks) ls [] h = refl
renamed-front (k ∷ ks) ls (c ∷ cs) h = ap (add_at k c) (renamed-front ks ls cs (omega arith))

columns-append : (n : ℕ) (ks ls : List ℕ) → AreColumns n ks → AreColumns n ls → AreColumns n (ks ++ ls)
columns-append n [] ls h g = g
columns-append n (k ∷ ks) ls h g = (h.0, columns-append n ks ls h.1 g)

columns-wider : (n m : ℕ) (ks : List ℕ) → n ≤ m → AreColumns n ks → AreColumns m ks
columns-wider n m [] l h = tt
columns-wider n m (k ∷ ks) l h = (omega (arith, h.0), columns-wider n m ks l h.1)

columns-range : (n a count : ℕ) → a + count ≤ n → AreColumns n (range_with_len a count)
columns-range n a zero h = tt
columns-range n a (suc count) h = (omega arith, columns-range n (a + 1) count (omega arith))

columns-last : (n : ℕ) (ss : List Column) (i j : ℕ) → i + counters ss ≤ n → j + length (quots_of ss) ≤ n → AreColumns n (last_columns i j ss)
columns-last n [] i j h g = tt
columns-last n (Counter ∷ ss) i j h g = (omega arith, columns-last n ss (i + 1) j (omega arith) g)
columns-last n (Quotient r ∷ ss) i j h g = (omega arith, columns-last n ss i (j + 1) h (omega arith))

-- the last columns are the parameters, the counters and the quotients
pub final-columns : (params depth n : ℕ) (ss : List Column) → counters ss ≤ depth → params + (depth + length (quots_of ss)) ≤ n → AreColumns n (final_columns params depth ss)
final-columns params depth n ss h g =
    columns-append n (range_with_len 0 params) (last_columns params (params + depth) ss) (columns-range n 0 params (omega arith)) (columns-last n ss params (params + depth) (omega arith) (omega arith))

made_behind : (ks : List ℕ) (ss : List Column) (front : List ℕ) (k i j : ℕ) → ks ≡ front ++ last_columns i j ss → length front ≡ k → AreColumns j front → i + counters ss ≤ j → ColumnsAreMade k ss → AreMade j (finals ks ss)
made_behind ks [] front k i j e l c b h = tt
made_behind ks (Counter ∷ ss) front k i j e l c b h =
    let rest = last_columns (i + 1) j ss in
    made_behind ks ss (front ++ i ∷ []) (k + 1) (i + 1) j (e ∙ sym (append_assoc front (i ∷ []) rest)) (length-append front (i ∷ []) ∙ ap (λ n. n + 1) l)
    (columns-append j front (i ∷ []) c (omega arith, tt)) (omega arith) h
made_behind ks (Quotient r ∷ ss) front k i j e l c b h =
    let rest = last_columns i (j + 1) ss in
    let same : renamed_coefs ks r.form.coefs ≡ renamed_coefs front r.form.coefs =
    ap (λ (x : List ℕ). renamed_coefs x r.form.coefs) e ∙ renamed-front front (j ∷ rest) r.form.coefs (omega (arith, h.0, l)) in (
      subst (λ (cs : List ℤ). length cs ≤ j) (sym same) (form-within front r.form j c),
      h.1,
      made_behind ks ss (front ++ j ∷ []) (k + 1) i (j + 1) (e ∙ sym (append_assoc front (j ∷ []) rest)) (length-append front (j ∷ []) ∙ ap (λ n. n + 1) l)
          (columns-append (j + 1) front (j ∷ []) (columns-wider j (j + 1) front (omega arith) c) (omega arith, tt)) (omega arith) h.2,
    )

pub finals_made : (params depth : ℕ) (ss : List Column) → counters ss ≤ depth → ColumnsAreMade params ss → AreMade (params + depth) (finals (final_columns params depth ss) ss)
finals_made params depth ss b h =
    made_behind (final_columns params depth ss) ss (range_with_len 0 params) params params (params + depth) refl (length-range_with_len 0 params) (columns-range (params + depth) 0 params (omega arith)) (omega arith) h

-- ---- no column stands twice

apart-append : (k : ℕ) (ks ls : List ℕ) → IsApartFrom k ks → IsApartFrom k ls → IsApartFrom k (ks ++ ls)
apart-append k [] ls h g = g
apart-append k (x ∷ ks) ls h g = (h.0, apart-append k ks ls h.1 g)

apart-range : (k a n : ℕ) → k < a → IsApartFrom k (range_with_len a n)
apart-range k a zero h = tt
apart-range k a (suc n) h = ((λ e. omega arith), apart-range k (a + 1) n (omega arith))

apart-before : (k : ℕ) (ss : List Column) (i j : ℕ) → k < i → k < j → IsApartFrom k (last_columns i j ss)
apart-before k [] i j h g = tt
apart-before k (Counter ∷ ss) i j h g = ((λ e. omega arith), apart-before k ss (i + 1) j (omega arith) g)
apart-before k (Quotient r ∷ ss) i j h g = ((λ e. omega arith), apart-before k ss i (j + 1) h (omega arith))

apart-between : (k : ℕ) (ss : List Column) (i j : ℕ) → i + counters ss ≤ k → k < j → IsApartFrom k (last_columns i j ss)
apart-between k [] i j h g = tt
apart-between k (Counter ∷ ss) i j h g = ((λ e. omega arith), apart-between k ss (i + 1) j (omega arith) g)
apart-between k (Quotient r ∷ ss) i j h g = ((λ e. omega arith), apart-between k ss i (j + 1) h (omega arith))

distinct-last : (ss : List Column) (i j : ℕ) → i + counters ss ≤ j → AreDistinct (last_columns i j ss)
distinct-last [] i j h = tt
distinct-last (Counter ∷ ss) i j h = (apart-before i ss (i + 1) j (omega arith) (omega arith), distinct-last ss (i + 1) j (omega arith))
distinct-last (Quotient r ∷ ss) i j h = (apart-between j ss i (j + 1) (omega arith) (omega arith), distinct-last ss i (j + 1) (omega arith))

distinct-behind : (a n : ℕ) (ls : List ℕ) → ((k : ℕ) → k < a + n → IsApartFrom k ls) → AreDistinct ls → AreDistinct (range_with_len a n ++ ls)
distinct-behind a zero ls h d = d
distinct-behind a (suc n) ls h d = (apart-append a (range_with_len (a + 1) n) ls (apart-range a (a + 1) n (omega arith)) (h a (omega arith)), distinct-behind (a + 1) n ls (λ k l. h k (omega arith)) d)

pub final-distinct : (params depth : ℕ) (ss : List Column) → counters ss ≤ depth → AreDistinct (final_columns params depth ss)
final-distinct params depth ss h =
    distinct-behind 0 params (last_columns params (params + depth) ss) (λ k l. apart-before k ss params (params + depth) (omega arith) (omega arith)) (distinct-last ss params (params + depth) (omega arith))

-- ---- without quotients nothing moves

plain-last : (ss : List Column) (i j : ℕ) → quots_of ss ≡ [] → last_columns i j ss ≡ range_with_len i (length ss)
plain-last [] i j e = refl
plain-last (Counter ∷ ss) i j e = ap (λ (ks : List ℕ). i ∷ ks) (plain-last ss (i + 1) j e)
plain-last (Quotient r ∷ ss) i j e = absurd (let l : suc (length (quots_of ss)) ≡ 0 = ap length e in omega arith)

pub range-joined : (a m n b : ℕ) → a + m ≡ b → range_with_len a m ++ range_with_len b n ≡ range_with_len a (m + n)
range-joined a zero n b e = let s : b ≡ a = omega arith in let z : 0 + n ≡ n = omega arith in rw (s, z) refl
range-joined a (suc m) n b e = let s : suc m + n ≡ suc (m + n) = omega arith in rw s (ap (λ (ks : List ℕ). a ∷ ks) (range-joined (a + 1) m n b (omega arith)))

pub final-plain : (params depth : ℕ) (ss : List Column) → quots_of ss ≡ [] → final_columns params depth ss ≡ range_with_len 0 (params + length ss)
final-plain params depth ss e =
    ap (λ (ks : List ℕ). range_with_len 0 params ++ ks) (plain-last ss params (params + depth) e) ∙ range-joined 0 params (length ss) params (omega arith)

zeros-then : (k : ℕ) (c : ℤ) → add_at k c [] ≡ replicate k (pos 0) ++ c ∷ []
zeros-then zero c = refl
zeros-then (suc k) c = ap (λ (ys : List ℤ). pos 0 ∷ ys) (zeros-then k c)

alone : (c : ℤ) → pos 0 +ℤ c ≡ c
alone c = omega (arith, ints)

onto-zero : (k : ℕ) (c : ℤ) (xs : List ℤ) → add_at k c (replicate (suc k) (pos 0) ++ xs) ≡ replicate k (pos 0) ++ c ∷ xs
onto-zero zero c xs = ap (λ (z : ℤ). z ∷ xs) (alone c)
onto-zero (suc k) c xs = ap (λ (ys : List ℤ). pos 0 ∷ ys) (onto-zero k c xs)

renamed-on : (k n : ℕ) (c : ℤ) (cs : List ℤ) → suc (length cs) ≤ n → renamed_coefs (range_with_len k n) (c ∷ cs) ≡ replicate k (pos 0) ++ c ∷ cs
renamed-on k zero c cs h = absurd (omega arith)
renamed-on k (suc n) c [] h = ap (add_at k c) (no_coefs (range_with_len (k + 1) n)) ∙ zeros-then k c
renamed-on k (suc n) c (d ∷ ds) h =
    let next : k + 1 ≡ suc k = omega arith in
    ap (add_at k c) (renamed-on (k + 1) n d ds (omega arith) ∙ ap (λ (m : ℕ). replicate m (pos 0) ++ d ∷ ds) next) ∙ onto-zero k c (d ∷ ds)

renamed-all : (n : ℕ) (cs : List ℤ) → length cs ≤ n → renamed_coefs (range_with_len 0 n) cs ≡ cs
renamed-all n [] h = no_coefs (range_with_len 0 n)
renamed-all n (c ∷ cs) h = renamed-on 0 n c cs h

pub renamed-same : (n : ℕ) (f : Affine) → length f.coefs ≤ n → renamed (range_with_len 0 n) f ≡ f
renamed-same n f h = ap (λ (cs : List ℤ). record { konst = f.konst; coefs = cs }) (renamed-all n f.coefs h)

pub row-same : (n : ℕ) (r : Row) → length (form_of r).coefs ≤ n → renamed_row (range_with_len 0 n) r ≡ r
row-same n (Eq f) h = ap Eq (renamed-same n f h)
row-same n (Div m f) h = ap (Div m) (renamed-same n f h)
row-same n (Ge f) h = ap Ge (renamed-same n f h)
