-- All ends of the tree of a difference are accepted: their rows stand on the path.
use Rattle.std.proofs.Common.{◌≡◌, ◌⊎◌, inl, inr, ℕ, zero, suc, ◌+◌, ◌-◌, ◌<◌, ◌≤◌, nat_le, ℤ, pos, negsuc, neg_ℤ, ◌+ℤ◌, ◌-ℤ◌, ◌*ℤ◌, ◌≤ℤ◌, List, [], ◌∷◌, ◌++◌, append_assoc, append-nil, length, map, take, drop, replicate, slice_get, Option, Some, None, Bool, true, false, ◌&&◌, ◌||◌, cond, refl, sym, ap, ◌∙◌, subst, arith}
use Rattle.std.specs.Prelude.{if◌then◌else◌}
use Rattle.std.specs.List.{list_all, range_with_len}
use Rattle.std.proofs.lemmas.Int.{ints}
use Rattle.std.proofs.lemmas.List.{length-append, length-map, length-replicate, replicate-append-replicate}
use Rattle.std.proofs.lemmas.List.Folds.{list_all-append}
use Rattle.std.proofs.Math.Seq.{take-append_seam, drop-append_seam}
use Rattle.ac_forms.specs.Affine.{Affine, shifted}
use Rattle.ac_forms.specs.Negation.{opposite, above, below, with_column, piece, negation}
use Rattle.ac_forms.specs.FormOrder.{row_eq}
use Rattle.ac_forms.specs.Renaming.{add_at, renamed_coefs, renamed, renamed_row}
use Rattle.ac_forms.specs.Rows.{form_of, IsRowOver, AreRowsOver, IsWellMade}
use Rattle.ac_forms.specs.Ties.{row_equiv}
use Rattle.ac_forms.specs.declared.conj.Conj.{Conj}
use Rattle.ac_forms.specs.declared.row.Row.{Row}
use Rattle.ac_forms.specs.declared.row.Row.TheVariants.{Eq, Div, Ge}
use Rattle.ac_forms.proofs.Joining.{both_of, either_of}
use Rattle.ac_cert.specs.Rules.{with_row, with_column_row}
use Rattle.ac_cert.specs.declared.types.Rule.{Rule}
use Rattle.ac_omega_steps.proofs.Keeping.{made-push}
use Rattle.ac_base.proofs.Truths.{true-nat_le}
use Rattle.ac_sets.specs.SetDifferences.{further, outside}
use Rattle.ac_sets.specs.DifferenceEnds.{stands, is_standing, conj_of, part_refusal}
use Rattle.ac_forms.specs.Standing.{is_among}
use Rattle.ac_sets.specs.SetIntersections.{quotients_from}
use Rattle.ac_cert.specs.RowBranches.{with_floor, behind}
use Rattle.ac_sets.specs.DifferencePaths.{piece_count, SidesStand, EndsStand}
use Rattle.ac_sets.specs.declared.parts.Part.{Part}
use Rattle.ac_sets.specs.declared.parts.Part.TheVariants.{Piece, Inside}
use Rattle.ac_sets.specs.declared.parts.Parts.{Parts}

-- ---- rows among rows

or-true : (a b : Bool) → b ≡ true → (a || b) ≡ true
or-true true b e = refl
or-true false b e = e

and-both : (a b : Bool) → a ≡ true → b ≡ true → (a && b) ≡ true
and-both a b e f = rw (e, f) refl

among-last : (rows : List Row) (r : Row) → is_among r (rows ++ r ∷ []) ≡ true
among-last [] r = rw (row_equiv.refl r) refl
among-last (s ∷ rows) r = or-true (row_eq s r) (is_among r (rows ++ r ∷ [])) (among-last rows r)

among-more : (rows : List Row) (s r : Row) → is_among r rows ≡ true → is_among r (rows ++ s ∷ []) ≡ true
among-more [] s r e = absurd cc
among-more (x ∷ rows) s r e = elim (either_of (row_eq x r) (is_among r rows) e) [
  | inl a ↦ rw a refl
  | inr b ↦ or-true (row_eq x r) (is_among r (rows ++ s ∷ [])) (among-more rows s r b)
]

-- the second path has the rows of the first and no fewer columns
record Grows (c d : Conj) : Type 0 where
  wide : c.columns ≤ d.columns
  rows : (r : Row) → is_among r c.rows ≡ true → is_among r d.rows ≡ true

grows-row : (c : Conj) (s : Row) → Grows c (with_row c s)
grows-row c s = record { wide = omega arith; rows = λ r e. among-more c.rows s r e }

grows-column : (c : Conj) (s : Row) → Grows c (with_column_row c s)
grows-column c s = record { wide = omega arith; rows = λ r e. among-more c.rows s r e }

grows-on : (c d e : Conj) → Grows c d → Grows d e → Grows c e
grows-on c d e g h = record { wide = omega (arith, g.wide, h.wide); rows = λ r x. h.rows r (g.rows r x) }

grows-floor : (c : Conj) (m : ℤ) (f : Affine) → Grows c (with_floor c m f)
grows-floor c m f = grows-on c (with_column_row c _) (with_floor c m f) (grows-column c _) (grows-row (with_column_row c _) _)

grows-behind : (c : Conj) (r : Row) → Grows c (behind c r)
grows-behind c (Ge f) = grows-row c (Ge f)
grows-behind c (Eq f) =
    let one = with_row c (Ge f) in
    let two = with_row one (Ge (opposite f)) in
    grows-on c one (behind c (Eq f)) (grows-row c (Ge f)) (grows-on one two (behind c (Eq f)) (grows-row one (Ge (opposite f))) (grows-row two (Eq f)))
grows-behind c (Div m f) =
    let zero = with_floor c m f in
    let high = Ge (with_column c.columns m (opposite f)) in
    let same = Eq (with_column c.columns (neg_ℤ m) f) in
    let whole = Div m (with_column c.columns (neg_ℤ m) f) in
    let one = with_row zero high in
    let two = with_row one same in
    let three = with_row two whole in
    grows-on c zero (behind c (Div m f)) (grows-floor c m f)
    (grows-on zero one (behind c (Div m f)) (grows-row zero high) (grows-on one two (behind c (Div m f)) (grows-row one same) (grows-on two three (behind c (Div m f)) (grows-row two whole) (grows-row three (Div m f)))))

behind-last : (c : Conj) (r : Row) → is_among r (behind c r).rows ≡ true
behind-last c (Ge f) = among-last c.rows (Ge f)
behind-last c (Eq f) = among-last (with_row (with_row c (Ge f)) (Ge (opposite f))).rows (Eq f)
behind-last c (Div m f) = among-last (with_row (with_row (with_row (with_floor c m f) (Ge (with_column c.columns m (opposite f)))) (Eq (with_column c.columns (neg_ℤ m) f))) (Div m (with_column c.columns (neg_ℤ m) f))).rows (Div m f)

-- all of the rows are among those of the path
abbrev pub AllAmong : List Row → List Row → Type 0
AllAmong rows [] = Unit {0}
AllAmong rows (r ∷ rs) = (is_among r rows ≡ true) × AllAmong rows rs

all-grow : (c d : Conj) (rs : List Row) → Grows c d → AllAmong c.rows rs → AllAmong d.rows rs
all-grow c d [] g h = tt
all-grow c d (r ∷ rs) g h = (g.rows r h.0, all-grow c d rs g h.1)

all-push : (rows rs : List Row) (r : Row) → AllAmong rows rs → is_among r rows ≡ true → AllAmong rows (rs ++ r ∷ [])
all-push rows [] r h e = (e, tt)
all-push rows (s ∷ rs) r h e = (h.0, all-push rows rs r h.1 e)

all-mine : (front rs : List Row) → AllAmong (front ++ rs) rs
all-mine front [] = tt
all-mine front (r ∷ rs) =
    let e = append_assoc front (r ∷ []) rs in
    (subst (λ (xs : List Row). is_among r xs ≡ true) e (among-front (front ++ r ∷ []) rs r (among-last front r)), subst (λ (xs : List Row). AllAmong xs rs) e (all-mine (front ++ r ∷ []) rs))
  where
    among-front : (rows more : List Row) (r : Row) → is_among r rows ≡ true → is_among r (rows ++ more) ≡ true
    among-front [] more r e = absurd cc
    among-front (x ∷ rows) more r e = elim (either_of (row_eq x r) (is_among r rows) e) [
      | inl a ↦ rw a refl
      | inr b ↦ or-true (row_eq x r) (is_among r (rows ++ more)) (among-front rows more r b)
    ]

-- ---- moved rows

-- behind so many zeros, where there is a number
put : ℕ → List ℤ → List ℤ
put j [] = []
put j (c ∷ cs) = replicate j (pos 0) ++ c ∷ cs

put-zero : (cs : List ℤ) → put 0 cs ≡ cs
unfolding put
put-zero [] = refl
put-zero (c ∷ cs) = refl

alone : (c : ℤ) → pos 0 +ℤ c ≡ c
alone c = omega (arith, ints)

front : (j : ℕ) (c : ℤ) (cs : List ℤ) → add_at j c (replicate (suc j) (pos 0) ++ cs) ≡ replicate j (pos 0) ++ c ∷ cs
front zero c cs = ap (λ x. x ∷ cs) (alone c)
front (suc j) c cs = ap (λ xs. pos 0 ∷ xs) (front j c cs)

front-empty : (j : ℕ) (c : ℤ) → add_at j c [] ≡ replicate j (pos 0) ++ c ∷ []
front-empty zero c = refl
front-empty (suc j) c = ap (λ xs. pos 0 ∷ xs) (front-empty j c)

front-put : (j k : ℕ) (c : ℤ) (cs : List ℤ) → k ≡ suc j → add_at j c (put k cs) ≡ replicate j (pos 0) ++ c ∷ cs
unfolding put
front-put j k c [] e = front-empty j c
front-put j k c (d ∷ ds) e = ap (λ m. add_at j c (replicate m (pos 0) ++ d ∷ ds)) e ∙ front j c (d ∷ ds)

empty : (ks : List ℕ) → renamed_coefs ks [] ≡ []
empty [] = refl
empty (k ∷ ks) = refl

-- rows of the visible columns do not move
still-block : (j n : ℕ) (more : List ℕ) (cs : List ℤ) → length cs ≤ n → renamed_coefs (range_with_len j n ++ more) cs ≡ put j cs
unfolding put
still-block j n more [] l = empty (range_with_len j n ++ more)
still-block j zero more (c ∷ cs) l = absurd (omega (arith, l))
still-block j (suc n) more (c ∷ cs) l = ap (add_at j c) (still-block (j + 1) n more cs (omega (arith, l))) ∙ front-put j (j + 1) c cs (omega arith)

still-form : (n : ℕ) (more : List ℕ) (f : Affine) → length f.coefs ≤ n → renamed (range_with_len 0 n ++ more) f ≡ f
still-form n more f l = let e = still-block 0 n more f.coefs l ∙ put-zero f.coefs in λ i. record { konst = f.konst; coefs = e i }

still-row : (n : ℕ) (more : List ℕ) (r : Row) → IsRowOver n r → renamed_row (range_with_len 0 n ++ more) r ≡ r
still-row n more (Eq f) w = ap Eq (still-form n more f w.0)
still-row n more (Div m f) w = ap (Div m) (still-form n more f w.0)
still-row n more (Ge f) w = ap Ge (still-form n more f w.0)

still-all : (n : ℕ) (more : List ℕ) (rows rs : List Row) → AreRowsOver n rs → AllAmong rows rs → list_all (λ r. is_among (renamed_row (range_with_len 0 n ++ more) r) rows) rs ≡ true
still-all n more rows [] w h = refl
still-all n more rows (r ∷ rs) w h =
    let here : is_among (renamed_row (range_with_len 0 n ++ more) r) rows ≡ true = ap (λ (r : Row). is_among r rows) (still-row n more r w.0) ∙ h.0 in
    and-both _ _ here (still-all n more rows rs w.1 h.1)

-- a form with a further column moves with it
last-block : (j n w : ℕ) (ds : List ℤ) (k : ℤ) → length ds ≡ n → j + n ≤ w → renamed_coefs (range_with_len j n ++ w ∷ []) (ds ++ k ∷ []) ≡ replicate j (pos 0) ++ (ds ++ (replicate (w - (j + n)) (pos 0) ++ k ∷ []))
last-block j zero w [] k e l =
    front-empty w k ∙ ap (λ (m : ℕ). replicate m (pos 0) ++ k ∷ []) count ∙ ap (λ (zs : List ℤ). zs ++ k ∷ []) (sym (replicate-append-replicate j (w - (j + 0)) (pos 0))) ∙ append_assoc (replicate j (pos 0)) (replicate (w - (j + 0)) (pos 0)) (k ∷ [])
  where
    count : w ≡ j + (w - (j + 0))
    count = omega (arith, l)
last-block j zero w (d ∷ ds) k e l = absurd (omega (arith, e))
last-block j (suc n) w [] k e l = absurd (omega (arith, e))
last-block j (suc n) w (d ∷ ds) k e l =
    let rest = last-block (j + 1) n w ds k (omega (arith, e)) (omega (arith, l)) in
    let tail : ℕ → List ℤ = λ m. ds ++ (replicate m (pos 0) ++ k ∷ []) in
    let next : j + 1 ≡ suc j = omega arith in
    let count : w - (j + 1 + n) ≡ w - (j + suc n) = omega arith in
    ap (add_at j d) rest ∙ ap (λ (m : ℕ). add_at j d (replicate m (pos 0) ++ tail (w - (j + 1 + n)))) next ∙ front j d (tail (w - (j + 1 + n))) ∙ ap (λ (m : ℕ). replicate j (pos 0) ++ d ∷ tail m) count

moved-column : (n w : ℕ) (k : ℤ) (g : Affine) → length g.coefs ≤ n → n ≤ w → renamed (range_with_len 0 n ++ w ∷ []) (with_column n k g) ≡ with_column w k g
moved-column n w k g l s =
    let zeros = replicate (n - length g.coefs) (pos 0) in
    let a : length (g.coefs ++ zeros) ≡ n = omega (arith, length-append g.coefs zeros, length-replicate {A = ℤ} (n - length g.coefs) (pos 0), l) in
    let whole = last-block 0 n w (g.coefs ++ zeros) k a (omega (arith, s)) in
    let more : (g.coefs ++ zeros) ++ replicate (w - n) (pos 0) ≡ g.coefs ++ replicate (w - length g.coefs) (pos 0) =
    append_assoc g.coefs zeros (replicate (w - n) (pos 0)) ∙ ap (λ (zs : List ℤ). g.coefs ++ zs) (replicate-append-replicate (n - length g.coefs) (w - n) (pos 0)) ∙ ap (λ (j : ℕ). g.coefs ++ replicate j (pos 0)) (omega (arith, l, s)) in
    let count : w - (0 + n) ≡ w - n = omega arith in
    let e = whole ∙ ap (λ (j : ℕ). (g.coefs ++ zeros) ++ (replicate j (pos 0) ++ k ∷ [])) count ∙ sym (append_assoc (g.coefs ++ zeros) (replicate (w - n) (pos 0)) (k ∷ [])) ∙ ap (λ (xs : List ℤ). xs ++ k ∷ []) more in
    λ i. record { konst = g.konst; coefs = e i }

-- ---- pieces that stand

-- the rows so far are over the first columns and on the path
pub record On (n : ℕ) (here path : Conj) : Type 0 where
  pub columns : here.columns ≡ n
  pub wide : n ≤ path.columns
  pub over : AreRowsOver n here.rows
  pub rows : AllAmong path.rows here.rows

on-behind : (n : ℕ) (here path : Conj) (r : Row) → IsRowOver n r → On n here path → On n (with_row here r) (behind path r)
on-behind n here path r w h =
    let g = grows-behind path r in
    record {
      columns = h.columns;
      wide = omega (arith, h.wide, g.wide);
      over = made-push n here.rows r h.over w;
      rows = all-push (behind path r).rows here.rows r (all-grow path (behind path r) here.rows g h.rows) (behind-last path r);
    }

side : (n : ℕ) (here path end d : Conj) → On n here path → Grows path end → n ≤ d.columns → d.columns ≤ end.columns
    → list_all (λ r. is_among (renamed_row (quotients_from n (end.columns - (d.columns - n)) d.columns) r) end.rows) d.rows ≡ true → stands n end (further here d) ≡ true
side n here path end d on g low high all =
    let more = range_with_len (end.columns - (d.columns - n)) (d.columns - n) in
    let test = λ (r : Row). is_among (renamed_row (range_with_len 0 n ++ more) r) end.rows in
    let mine = still-all n more end.rows here.rows on.over (all-grow path end here.rows g on.rows) in
    let both : list_all test (here.rows ++ d.rows) ≡ true = list_all-append test here.rows d.rows ∙ and-both (list_all test here.rows) (list_all test d.rows) mine all in
    rw (true-nat_le n d.columns low, true-nat_le d.columns end.columns high) both

flat-side : (n : ℕ) (here path end : Conj) (g : Affine) → On n here path → Grows path end → length g.coefs ≤ n → is_among (Ge g) end.rows ≡ true → stands n end (further here (piece here.columns (Ge g ∷ []))) ≡ true
flat-side n here path end g on grow short e =
    let more = range_with_len (end.columns - (here.columns - n)) (here.columns - n) in
    let here_is : is_among (renamed_row (range_with_len 0 n ++ more) (Ge g)) end.rows ≡ true = ap (λ (r : Row). is_among r end.rows) (still-row n more (Ge g) (short, tt)) ∙ e in
    side n here path end (piece here.columns (Ge g ∷ [])) on grow (omega (arith, on.columns)) (omega (arith, on.columns, on.wide, grow.wide)) (and-both (is_among (renamed_row (range_with_len 0 n ++ more) (Ge g)) end.rows) true here_is refl)

minus-length : (cs : List ℤ) (n : ℕ) → length cs ≤ n → length (map (λ c. negsuc 0 *ℤ c) cs) ≤ n
minus-length cs n h = omega (arith, h, length-map cs (λ (c : ℤ). negsuc 0 *ℤ c))

-- the end beside a divisibility
abbrev between : Conj → ℤ → Affine → Conj
between c m f = with_row (with_floor c m f) (Ge (with_column c.columns (neg_ℤ m) (above f)))

abbrev div_piece : ℕ → ℤ → Affine → Conj
div_piece n m f = piece (n + 1) (Ge (with_column n (neg_ℤ m) (above f)) ∷ Ge (with_column n m (shifted (opposite f) (m -ℤ pos 1))) ∷ [])

div-side : (n : ℕ) (here path : Conj) (m : ℤ) (f : Affine) → On n here path → length f.coefs ≤ n → stands n (between path m f) (further here (div_piece n m f)) ≡ true
div-side n here path m f on short =
    let end = between path m f in
    let one : n + 1 - n ≡ 1 = omega arith in
    let wide : path.columns + 1 - (n + 1 - n) ≡ path.columns = omega arith in
    let ks : quotients_from n (path.columns + 1 - (n + 1 - n)) (n + 1) ≡ range_with_len 0 n ++ path.columns ∷ [] = λ i. range_with_len 0 n ++ range_with_len (wide i) (one i) in
    let low = with_column path.columns (neg_ℤ m) (above f) in
    let high = with_column path.columns m (shifted (opposite f) (m -ℤ pos 1)) in
    let grow = grows-on path (with_floor path m f) end (grows-floor path m f) (grows-row (with_floor path m f) (Ge low)) in
    let first = ap (λ (xs : List ℕ). Ge (renamed xs (with_column n (neg_ℤ m) (above f)))) ks ∙ ap Ge (moved-column n path.columns (neg_ℤ m) (above f) short on.wide) in
    let second = ap (λ (xs : List ℕ). Ge (renamed xs (with_column n m (shifted (opposite f) (m -ℤ pos 1))))) ks ∙ ap Ge (moved-column n path.columns m (shifted (opposite f) (m -ℤ pos 1)) (minus-length f.coefs n short) on.wide) in
    let a = ap (λ (r : Row). is_among r end.rows) first ∙ among-last (with_floor path m f).rows (Ge low) in
    let b = ap (λ (r : Row). is_among r end.rows) second ∙ among-more (with_floor path m f).rows (Ge low) (Ge high) (among-last (with_column_row path (Ge (with_column path.columns (neg_ℤ m) f))).rows (Ge high)) in
    side n here path end (div_piece n m f) on grow (omega arith) (omega (arith, on.wide)) (and-both _ _ a (and-both _ true b refl))

-- ---- all ends

piece-accepted : (parts : Parts) (k : ℕ) (end d : Conj) → slice_get parts.pieces k ≡ Some d → stands parts.inside.columns end d ≡ true → part_refusal parts (Piece k) end ≡ None
piece-accepted parts k end d e s = rw (e, s) refl

next-suc : (ds : List Conj) (k : ℕ) (d : Conj) (rest : List Conj) → drop k ds ≡ d ∷ rest → (slice_get ds k ≡ Some d) × (drop (suc k) ds ≡ rest)
next-suc [] zero d rest e = absurd cc
next-suc [] (suc k) d rest e = absurd cc
next-suc (x ∷ ds) zero d rest e = (cc, cc)
next-suc (x ∷ ds) (suc k) d rest e = next-suc ds k d rest e

next-piece : (ds : List Conj) (k : ℕ) (d : Conj) (rest : List Conj) → drop k ds ≡ d ∷ rest → (slice_get ds k ≡ Some d) × (drop (k + 1) ds ≡ rest)
next-piece ds k d rest e =
    let next = next-suc ds k d rest e in
    let one : suc k ≡ k + 1 = omega arith in
    (next.0, subst (λ (j : ℕ). drop j ds ≡ rest) one next.1)

-- what is known on the way: the pieces from piece k on, and the rows of what is taken away
pub record Onward (parts : Parts) (rs : List Row) (here path : Conj) (k : ℕ) (done : List Row) : Type 0 where
  pub on : On parts.inside.columns here path
  pub over : AreRowsOver parts.inside.columns rs
  pub pieces : drop k parts.pieces ≡ outside here rs
  pub whole : parts.inside.rows ≡ done ++ rs
  pub seen : AllAmong path.rows done

onward-behind : (parts : Parts) (r : Row) (rs : List Row) (here path : Conj) (k j : ℕ) (done : List Row) → Onward parts (r ∷ rs) here path k done → drop j parts.pieces ≡ outside (with_row here r) rs → Onward parts rs (with_row here r) (behind path r) j (done ++ r ∷ [])
onward-behind parts r rs here path k j done h pieces =
    let g = grows-behind path r in
    record {
      on = on-behind parts.inside.columns here path r h.over.0 h.on;
      over = h.over.1;
      pieces = pieces;
      whole = h.whole ∙ sym (append_assoc done (r ∷ []) rs);
      seen = all-push (behind path r).rows done r (all-grow path (behind path r) done g h.seen) (behind-last path r);
    }

inside-stands : (parts : Parts) (path : Conj) (done : List Row) → IsWellMade parts.inside → parts.inside.columns ≤ path.columns → parts.inside.rows ≡ done ++ [] → AllAmong path.rows done → part_refusal parts Inside path ≡ None
inside-stands parts path done made wide whole seen =
    let n = parts.inside.columns in
    let all = subst (λ (rs : List Row). AllAmong path.rows rs) (sym (whole ∙ append-nil done)) seen in
    rw (true-nat_le n n (omega arith), true-nat_le n path.columns wide, still-all n (range_with_len (path.columns - (n - n)) (n - n)) path.rows parts.inside.rows made all) refl

pub ends-stand : (parts : Parts) (rs : List Row) (here path : Conj) (k : ℕ) (done : List Row) → IsWellMade parts.inside → Onward parts rs here path k done → EndsStand (part_refusal parts) rs path k
ends-stand parts [] here path k done made h = inside-stands parts path done made h.on.wide h.whole h.seen
ends-stand parts (Ge f ∷ rs) here path k done made h =
    let n = parts.inside.columns in
    let at = next-piece parts.pieces k (further here (piece here.columns (Ge (below f) ∷ []))) (outside (with_row here (Ge f)) rs) h.pieces in
    let end = with_row path (Ge (below f)) in
    let stand = flat-side n here path end (below f) h.on (grows-row path (Ge (below f))) (minus-length f.coefs n h.over.0.0) (among-last path.rows (Ge (below f))) in
    (piece-accepted parts k end _ at.0 stand, ends-stand parts rs (with_row here (Ge f)) (behind path (Ge f)) (k + 1) (done ++ Ge f ∷ []) made (onward-behind parts (Ge f) rs here path k (k + 1) done h at.1))
ends-stand parts (Eq f ∷ rs) here path k done made h =
    let n = parts.inside.columns in
    let up = further here (piece here.columns (Ge (above f) ∷ [])) in
    let down = further here (piece here.columns (Ge (below f) ∷ [])) in
    let at = next-piece parts.pieces k up (down ∷ outside (with_row here (Eq f)) rs) h.pieces in
    let to = next-piece parts.pieces (k + 1) down (outside (with_row here (Eq f)) rs) at.1 in
    let two : k + 1 + 1 ≡ k + 2 = omega arith in
    let first = with_row path (Ge f) in
    let high = with_row first (Ge (above f)) in
    let low = with_row path (Ge (below f)) in
    let grow = grows-on path first high (grows-row path (Ge f)) (grows-row first (Ge (above f))) in
    let a = flat-side n here path high (above f) h.on grow h.over.0.0 (among-last first.rows (Ge (above f))) in
    let b = flat-side n here path low (below f) h.on (grows-row path (Ge (below f))) (minus-length f.coefs n h.over.0.0) (among-last path.rows (Ge (below f))) in
    let rest = subst (λ (j : ℕ). drop j parts.pieces ≡ outside (with_row here (Eq f)) rs) two to.1 in
    ((piece-accepted parts k high up at.0 a, piece-accepted parts (k + 1) low down to.0 b), ends-stand parts rs (with_row here (Eq f)) (behind path (Eq f)) (k + 2) (done ++ Eq f ∷ []) made (onward-behind parts (Eq f) rs here path k (k + 2) done h rest))
ends-stand parts (Div m f ∷ rs) here path k done made h =
    let n = parts.inside.columns in
    let at = next-piece parts.pieces k (further here (div_piece here.columns m f)) (outside (with_row here (Div m f)) rs) h.pieces in
    let stand = subst (λ (j : ℕ). stands n (between path m f) (further here (div_piece j m f)) ≡ true) (sym h.on.columns) (div-side n here path m f h.on h.over.0.0) in
    (piece-accepted parts k (between path m f) _ at.0 stand, ends-stand parts rs (with_row here (Div m f)) (behind path (Div m f)) (k + 1) (done ++ Div m f ∷ []) made (onward-behind parts (Div m f) rs here path k (k + 1) done h at.1))

-- from the conjunction on, with no row taken away yet
pub start-stands : (a b : Conj) (pieces : List Conj) → a.columns ≡ b.columns → IsWellMade a → IsWellMade b → pieces ≡ outside a b.rows → EndsStand (part_refusal (record { pieces = pieces; inside = b })) b.rows a 0
start-stands a b pieces e w v made =
    let parts : Parts = record { pieces = pieces; inside = b } in
    ends-stand parts b.rows a a 0 [] v (record {
      on = record { columns = e; wide = omega (arith, e); over = subst (λ (n : ℕ). AreRowsOver n a.rows) e w; rows = all-mine [] a.rows };
      over = v;
      pieces = made;
      whole = refl;
      seen = tt;
    })
