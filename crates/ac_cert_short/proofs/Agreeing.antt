-- Steps on a path on which the rows that they use stand at other places.
use Rattle.std.proofs.Common.{◌≡◌, ℕ, zero, suc, ◌+◌, ◌<◌, ◌≤◌, ◌⊎◌, inl, inr, ℤ, pos, ◌-ℤ◌, List, [], ◌∷◌, ◌++◌, length, length-append, append_assoc, append-nil, get_or, Option, Some, None, Bool, cond, nat_eq, true, false, slice_get, refl, sym, ap, ◌∙◌, subst, arith}
use Rattle.std.specs.Prelude.{option_map, option_and_then, ◌&&◌}
use Rattle.std.proofs.lemmas.List.{get_or_past}
use Rattle.std.proofs.lemmas.Bool.{eq-eqb, eqb-true}
use Rattle.std.proofs.lemmas.Option.{slice_get-get_or, slice_get_past}
use Rattle.std.proofs.Math.ListN.{get_or-append}
use Rattle.std.proofs.Math.Seq.{get_or-append_seam}
use Rattle.ac_forms.specs.Affine.{Affine}
use Rattle.ac_forms.specs.Negation.{with_column}
use Rattle.ac_forms.specs.declared.conj.Conj.{Conj}
use Rattle.ac_forms.specs.declared.row.Row.{Row}
use Rattle.ac_forms.specs.declared.row.Row.TheVariants.{Eq, Div, Ge}
use Rattle.ac_cert.specs.declared.types.Step.{Step}
use Rattle.ac_cert.specs.declared.types.Step.TheVariants.{Add, Cut, DivScale, DivAdd, DivMod, DivEq, Quot, Floor, EqCut}
use Rattle.ac_omega_steps.specs.Combination.{combination}
use Rattle.ac_cert.specs.Rules.{after_step, with_row, with_column_row, sum_row, sum_from, zero_form, are_equalities, is_equality, term_form, cut_row, div_scale_row, div_add_row, div_mod_row, div_eq_row, eq_cut_row, quotient, floor_of, less_column, rest_of}
use Rattle.ac_base.proofs.Options.{map-some, bind-some}
use Rattle.ac_cert_short.specs.CertificateNodes.{once, term_uses, step_uses, rows_of}
use Rattle.ac_cert_short.specs.DraftRelations.{AgreeOn, further, place, moved, moved_terms}

-- ---- places

pub tri : (i k : ℕ) → (i < k) ⊎ (i ≡ k) ⊎ (k < i)
tri zero zero = inr (inl refl)
tri zero (suc k) = inl (omega arith)
tri (suc i) zero = inr (inr (omega arith))
tri (suc i) (suc k) = elim (tri i k) [
  | inl h ↦ inl (omega (arith, h))
  | inr (inl h) ↦ inr (inl (ap suc h))
  | inr (inr h) ↦ inr (inr (omega (arith, h)))
]

pub length-further : (n k : ℕ) → length (further n k) ≡ k
length-further n zero = refl
length-further n (suc k) = ap suc (length-further (n + 1) k)

pub place-before : (ps qs : List ℕ) (i : ℕ) → i < length ps → place (ps ++ qs) i ≡ place ps i
place-before ps qs i l = get_or-append ps qs i i l

pub place-next : (ps : List ℕ) (n k : ℕ) → 0 < k → place (ps ++ further n k) (length ps) ≡ n
place-next ps n zero l = absurd (omega (arith, l))
place-next ps n (suc k) l = get_or-append_seam ps n (further (n + 1) k) (length ps)

pub place-past : (ps : List ℕ) (i : ℕ) → length ps ≤ i → place ps i ≡ i
place-past ps i l = get_or_past ps i i l

pub once-self : (i : ℕ) → once i i ≡ 1
once-self i = rw (eq-eqb i i refl) refl

pub once-same : (i j : ℕ) → 0 < once i j → i ≡ j
once-same i j l = by (nat_eq i j) refl l
  where
    by : (b : Bool) → nat_eq i j ≡ b → 0 < cond {A = ℕ} b 1 0 → i ≡ j
    by true e h = eqb-true i j e
    by false e h = absurd (omega (arith, h))

-- ---- rows of a longer path

get-appended : {X : Type 0} (xs ys : List X) (i : ℕ) (x : X) → slice_get xs i ≡ Some x → slice_get (xs ++ ys) i ≡ Some x
get-appended [] ys i x e = absurd cc
get-appended (y ∷ xs) ys zero x e = e
get-appended (y ∷ xs) ys (suc i) x e = get-appended xs ys i x e

get-last : {X : Type 0} (xs : List X) (x : X) → slice_get (xs ++ x ∷ []) (length xs) ≡ Some x
get-last [] x = refl
get-last (y ∷ xs) x = get-last xs x

pub agree-less : (ps : List ℕ) (u v : ℕ → ℕ) (c d : Conj) → ((i : ℕ) → 0 < v i → 0 < u i) → AgreeOn ps u c d → AgreeOn ps v c d
agree-less ps u v c d less x = record { columns = x.columns; long = x.long; short = x.short; rows = λ i h. x.rows i (less i h) }

-- a further row on both paths
pub agree-row : (ps : List ℕ) (u : ℕ → ℕ) (c d e f : Conj) (r : Row) → AgreeOn ps u c d → f.columns ≡ e.columns → e.rows ≡ c.rows ++ r ∷ [] → f.rows ≡ d.rows ++ r ∷ [] → AgreeOn (ps ++ length d.rows ∷ []) u e f
agree-row ps u c d e f r x columns er fr =
    let p = length-append ps (length d.rows ∷ []) in
    let el : length e.rows ≡ length c.rows + 1 = ap length er ∙ length-append c.rows (r ∷ []) in
    let fl : length f.rows ≡ length d.rows + 1 = ap length fr ∙ length-append d.rows (r ∷ []) in
    record {
      columns = columns;
      long = let z = x.long in omega (arith, z, p, el);
      short = let z = x.short in omega (arith, z, p, fl);
      rows = λ i h. elim (tri i (length ps)) [
        | inl l ↦
            let in_c : slice_get c.rows i ≡ Some (get_or c.rows i r) = slice_get-get_or c.rows i r (rw x.long l) in
            let in_d : slice_get d.rows (place ps i) ≡ Some (get_or c.rows i r) = x.rows i h ∙ in_c in
            ap (λ k. slice_get f.rows k) (place-before ps (length d.rows ∷ []) i l)
            ∙ ap (λ rs. slice_get rs (place ps i)) fr
            ∙ get-appended d.rows (r ∷ []) (place ps i) (get_or c.rows i r) in_d
            ∙ sym (ap (λ rs. slice_get rs i) er ∙ get-appended c.rows (r ∷ []) i (get_or c.rows i r) in_c)
        | inr (inl same) ↦
            let at_end : place (ps ++ length d.rows ∷ []) i ≡ length d.rows = ap (λ k. place (ps ++ length d.rows ∷ []) k) same ∙ get_or-append_seam ps (length d.rows) [] (length ps) in
            ap (λ k. slice_get f.rows k) at_end ∙ ap (λ rs. slice_get rs (length d.rows)) fr ∙ get-last d.rows r
            ∙ sym (ap (λ rs. slice_get rs i) er ∙ ap (λ k. slice_get (c.rows ++ r ∷ []) k) (same ∙ sym x.long) ∙ get-last c.rows r)
        | inr (inr past) ↦
            let s = x.short in
            let g = x.long in
            ap (λ k. slice_get f.rows k) (place-past (ps ++ length d.rows ∷ []) i (omega (arith, p, past)))
            ∙ slice_get_past f.rows i (omega (arith, fl, s, past)) ∙ sym (slice_get_past e.rows i (omega (arith, el, g, past)))
      ];
    }

-- further rows on both paths
pub agree-more : (more : List Row) (ps : List ℕ) (n : ℕ) (u : ℕ → ℕ) (c d e f : Conj) → AgreeOn ps u c d → length d.rows ≡ n → f.columns ≡ e.columns → e.rows ≡ c.rows ++ more → f.rows ≡ d.rows ++ more → AgreeOn (ps ++ further n (length more)) u e f
agree-more [] ps n u c d e f x long columns er fr =
    let same : e.rows ≡ c.rows = er ∙ append-nil c.rows in
    let too : f.rows ≡ d.rows = fr ∙ append-nil d.rows in
    rw (append-nil ps) (record {
      columns = columns;
      long = ap length same ∙ x.long;
      short = let s = x.short in let l = ap length too in omega (arith, s, l);
      rows = λ i h. ap (λ rs. slice_get rs (place ps i)) too ∙ x.rows i h ∙ ap (λ rs. slice_get rs i) (sym same);
    })
agree-more (r ∷ more) ps n u c d e f x long columns er fr =
    let first : Conj = record { columns = e.columns; rows = c.rows ++ r ∷ [] } in
    let second : Conj = record { columns = e.columns; rows = d.rows ++ r ∷ [] } in
    let y : AgreeOn (ps ++ n ∷ []) u first second = subst (λ k. AgreeOn (ps ++ k ∷ []) u first second) long (agree-row ps u c d first second r x refl refl refl) in
    let l : length second.rows ≡ n + 1 = length-append d.rows (r ∷ []) ∙ ap (λ k. k + 1) long in
    let z = agree-more more (ps ++ n ∷ []) (n + 1) u first second e f y l columns (er ∙ sym (append_assoc c.rows (r ∷ []) more)) (fr ∙ sym (append_assoc d.rows (r ∷ []) more)) in
    subst (λ qs. AgreeOn qs u e f) (append_assoc ps (n ∷ []) (further (n + 1) (length more))) z

-- a row on the first path that nothing uses
pub agree-gap : (ps : List ℕ) (k : ℕ) (u : ℕ → ℕ) (c d : Conj) (r : Row) → AgreeOn ps u c d → u (length ps) ≡ 0 → AgreeOn (ps ++ k ∷ []) u (with_row c r) d
agree-gap ps k u c d r x idle =
    let p = length-append ps (k ∷ []) in
    let el = length-append c.rows (r ∷ []) in
    record {
      columns = x.columns;
      long = let z = x.long in omega (arith, z, p, el);
      short = let z = x.short in omega (arith, z, p);
      rows = λ i h. elim (tri i (length ps)) [
        | inl l ↦
            let in_c : slice_get c.rows i ≡ Some (get_or c.rows i r) = slice_get-get_or c.rows i r (rw x.long l) in
            ap (λ j. slice_get d.rows j) (place-before ps (k ∷ []) i l) ∙ x.rows i h ∙ in_c
            ∙ sym (get-appended c.rows (r ∷ []) i (get_or c.rows i r) in_c)
        | inr (inl same) ↦
            let never : u i ≡ 0 = ap u same ∙ idle in
            absurd (omega (arith, never, h))
        | inr (inr past) ↦
            let s = x.short in
            let g = x.long in
            ap (λ j. slice_get d.rows j) (place-past (ps ++ k ∷ []) i (omega (arith, p, past)))
            ∙ slice_get_past d.rows i (omega (arith, s, past)) ∙ sym (slice_get_past (c.rows ++ r ∷ []) i (omega (arith, el, g, past)))
      ];
    }

-- ---- steps

-- a step at the new places leads to a path with the same further rows
pub record MovedOn (ps : List ℕ) (s : Step) (c d e : Conj) : Type 0 where
  pub path : Conj
  pub is : after_step (moved ps s) d ≡ Some path
  pub columns : path.columns ≡ e.columns
  pub more : List Row
  pub count : length more ≡ rows_of s
  pub rows : e.rows ≡ c.rows ++ more
  pub path_rows : path.rows ≡ d.rows ++ more

record OneOn (c d e : Conj) (o : Option Row) : Type 0 where
  path : Conj
  is : option_map (with_row d) o ≡ Some path
  columns : path.columns ≡ e.columns
  row : Row
  rows : e.rows ≡ c.rows ++ row ∷ []
  path_rows : path.rows ≡ d.rows ++ row ∷ []

one-on : (c d e : Conj) (o p : Option Row) → d.columns ≡ c.columns → p ≡ o → option_map (with_row c) o ≡ Some e → OneOn c d e p
one-on c d e o p columns same is =
    let m = map-some o (with_row c) e is in
    record {
      path = with_row d m.0;
      is = ap (λ x. option_map (with_row d) x) (same ∙ m.1);
      columns = columns ∙ ap (λ (x : Conj). x.columns) (sym m.2);
      row = m.0;
      rows = ap (λ (x : Conj). x.rows) m.2;
      path_rows = refl;
    }

bind-same : {A B : Type 0} (o : Option A) (f g : A → Option B) → ((x : A) → f x ≡ g x) → option_and_then f o ≡ option_and_then g o
bind-same None f g h = refl
bind-same (Some x) f g h = h x

head-used : (t : ℕ × ℤ) (ts : List (ℕ × ℤ)) → 0 < term_uses t.0 (t ∷ ts)
head-used t ts = let e = once-self t.0 in omega (arith, e)

tail-agrees : (ps : List ℕ) (t : ℕ × ℤ) (ts : List (ℕ × ℤ)) (c d : Conj) → AgreeOn ps (λ i. term_uses i (t ∷ ts)) c d → AgreeOn ps (λ i. term_uses i ts) c d
tail-agrees ps t ts c d x = agree-less ps (λ i. term_uses i (t ∷ ts)) (λ i. term_uses i ts) c d (λ i h. omega (arith, h)) x

sum-same : (ps : List ℕ) (ts : List (ℕ × ℤ)) (c d : Conj) (s : Affine) → AgreeOn ps (λ i. term_uses i ts) c d → sum_from s (moved_terms ps ts) d.rows ≡ sum_from s ts c.rows
sum-same ps [] c d s x = refl
sum-same ps (t ∷ ts) c d s x =
    ap (λ o. option_and_then (λ f. option_and_then (λ s. sum_from s (moved_terms ps ts) d.rows) (combination (pos 1) s t.1 f)) (term_form t.1 o)) (x.rows t.0 (head-used t ts))
    ∙ bind-same (term_form t.1 (slice_get c.rows t.0)) _ _ (λ f. bind-same (combination (pos 1) s t.1 f) _ _ (λ u. sum-same ps ts c d u (tail-agrees ps t ts c d x)))

equalities-same : (ps : List ℕ) (ts : List (ℕ × ℤ)) (c d : Conj) → AgreeOn ps (λ i. term_uses i ts) c d → are_equalities (moved_terms ps ts) d.rows ≡ are_equalities ts c.rows
equalities-same ps [] c d x = refl
equalities-same ps (t ∷ ts) c d x =
    ap (λ o. is_equality o && are_equalities (moved_terms ps ts) d.rows) (x.rows t.0 (head-used t ts))
    ∙ ap (λ b. is_equality (slice_get c.rows t.0) && b) (equalities-same ps ts c d (tail-agrees ps t ts c d x))

count-same : (ps : List ℕ) (ts : List (ℕ × ℤ)) → length (moved_terms ps ts) ≡ length ts
count-same ps [] = refl
count-same ps (t ∷ ts) = ap suc (count-same ps ts)

row-same : (ps : List ℕ) (ts : List (ℕ × ℤ)) (c d : Conj) → AgreeOn ps (λ i. term_uses i ts) c d → sum_row (moved_terms ps ts) d.rows ≡ sum_row ts c.rows
unfolding sum_row
row-same ps ts c d x = rw (count-same ps ts, sum-same ps ts c d zero_form x, equalities-same ps ts c d x) refl

quotient-made : (d : Conj) (n : ℕ) (m : ℤ) (f g : Affine) → d.columns ≡ n → less_column n m f ≡ Some g → quotient d (Some (Div m f)) ≡ Some (with_column_row d (Eq g))
quotient-made d n m f g columns e = rw (columns, e) refl

quotient-on : (c d e : Conj) (o : Option Row) → d.columns ≡ c.columns → quotient c o ≡ Some e → (path : Conj) × (quotient d o ≡ Some path) × (path.columns ≡ e.columns) × (row : Row) × (e.rows ≡ c.rows ++ row ∷ []) × (path.rows ≡ d.rows ++ row ∷ [])
quotient-on c d e None columns is = absurd cc
quotient-on c d e (Some (Eq f)) columns is = absurd cc
quotient-on c d e (Some (Ge f)) columns is = absurd cc
quotient-on c d e (Some (Div m f)) columns is =
    let b = map-some (less_column c.columns m f) (λ g. with_column_row c (Eq g)) e is in
    (with_column_row d (Eq b.0), quotient-made d c.columns m f b.0 columns b.1, ap (λ n. n + 1) columns ∙ ap (λ (x : Conj). x.columns) (sym b.2), Eq b.0, ap (λ (x : Conj). x.rows) b.2, refl)

used-one : (ps : List ℕ) (j : ℕ) (c d : Conj) → AgreeOn ps (λ i. once i j) c d → slice_get d.rows (place ps j) ≡ slice_get c.rows j
used-one ps j c d x = x.rows j (let e = once-self j in omega (arith, e))

used-two : (ps : List ℕ) (j k : ℕ) (c d : Conj) → AgreeOn ps (λ i. once i j + once i k) c d → (slice_get d.rows (place ps j) ≡ slice_get c.rows j) × (slice_get d.rows (place ps k) ≡ slice_get c.rows k)
used-two ps j k c d x = (x.rows j (let e = once-self j in omega (arith, e)), x.rows k (let e = once-self k in omega (arith, e)))

floor-made : (d : Conj) (n : ℕ) (m : ℤ) (f low high : Affine) → d.columns ≡ n → less_column n m f ≡ Some low → rest_of (m -ℤ pos 1) f ≡ Some high → floor_of d m f ≡ Some (with_row (with_column_row d (Ge low)) (Ge (with_column d.columns m high)))
unfolding floor_of
floor-made d n m f low high columns e h = rw (columns, e, h) refl

single : (ps : List ℕ) (s : Step) (c d e : Conj) (o p : Option Row) → rows_of s ≡ 1 → d.columns ≡ c.columns → p ≡ o → option_map (with_row c) o ≡ Some e → after_step (moved ps s) d ≡ option_map (with_row d) p → MovedOn ps s c d e
single ps s c d e o p one columns same is made =
    let b = one-on c d e o p columns same is in
    record { path = b.path; is = made ∙ b.is; columns = b.columns; more = b.row ∷ []; count = sym one; rows = b.rows; path_rows = b.path_rows }

pub moved-on : (ps : List ℕ) (s : Step) (c d e : Conj) → AgreeOn ps (λ i. step_uses i s) c d → after_step s c ≡ Some e → MovedOn ps s c d e
unfolding after_step floor_of
moved-on ps (Add ts) c d e x is = single ps (Add ts) c d e (sum_row ts c.rows) (sum_row (moved_terms ps ts) d.rows) refl x.columns (row-same ps ts c d x) is refl
moved-on ps (Cut j g) c d e x is = single ps (Cut j g) c d e _ _ refl x.columns (ap (λ o. cut_row g o) (used-one ps j c d x)) is refl
moved-on ps (DivScale j k) c d e x is = single ps (DivScale j k) c d e _ _ refl x.columns (ap (λ o. div_scale_row k o) (used-one ps j c d x)) is refl
moved-on ps (DivAdd j k h l) c d e x is =
    let u = used-two ps j h c d x in
    single ps (DivAdd j k h l) c d e _ _ refl x.columns (ap (λ o. div_add_row k o l (slice_get d.rows (place ps h))) u.0 ∙ ap (λ o. div_add_row k (slice_get c.rows j) l o) u.1) is refl
moved-on ps (DivMod j g n f) c d e x is =
    single ps (DivMod j g n f) c d e _ _ refl x.columns (ap (λ m. div_mod_row m g n f (slice_get d.rows (place ps j))) x.columns ∙ ap (λ o. div_mod_row c.columns g n f o) (used-one ps j c d x)) is refl
moved-on ps (DivEq j n) c d e x is = single ps (DivEq j n) c d e _ _ refl x.columns (ap (λ o. div_eq_row n o) (used-one ps j c d x)) is refl
moved-on ps (Quot j) c d e x is =
    let q = quotient-on c d e (slice_get c.rows j) x.columns is in
    record { path = q.0; is = ap (λ o. quotient d o) (used-one ps j c d x) ∙ q.1; columns = q.2; more = q.3 ∷ []; count = refl; rows = q.4; path_rows = q.5 }
moved-on ps (Floor m f) c d e x is =
    let a = bind-some (less_column c.columns m f) (λ low. option_map (λ high. with_row (with_column_row c (Ge low)) (Ge (with_column c.columns m high))) (rest_of (m -ℤ pos 1) f)) e is in
    let b = map-some (rest_of (m -ℤ pos 1) f) (λ high. with_row (with_column_row c (Ge a.0)) (Ge (with_column c.columns m high))) e a.2 in
    let path : Conj = with_row (with_column_row d (Ge a.0)) (Ge (with_column d.columns m b.0)) in
    record {
      path = path;
      is = floor-made d c.columns m f a.0 b.0 x.columns a.1 b.1;
      columns = ap (λ n. n + 1) x.columns ∙ ap (λ (y : Conj). y.columns) (sym b.2);
      more = Ge a.0 ∷ Ge (with_column c.columns m b.0) ∷ [];
      count = refl;
      rows = ap (λ (y : Conj). y.rows) b.2 ∙ append_assoc c.rows (Ge a.0 ∷ []) (Ge (with_column c.columns m b.0) ∷ []);
      path_rows = append_assoc d.rows (Ge a.0 ∷ []) (Ge (with_column d.columns m b.0) ∷ []) ∙ ap (λ n. d.rows ++ Ge a.0 ∷ Ge (with_column n m b.0) ∷ []) x.columns;
    }
moved-on ps (EqCut j h) c d e x is =
    let u = used-two ps j h c d x in
    single ps (EqCut j h) c d e _ _ refl x.columns (ap (λ o. eq_cut_row o (slice_get d.rows (place ps h))) u.0 ∙ ap (λ o. eq_cut_row (slice_get c.rows j) o) u.1) is refl
