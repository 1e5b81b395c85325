-- Plans that serve the sides of a branch on a row make one that serves the question.
use Rattle.std.proofs.Common.{◌≡◌, ℕ, zero, suc, ◌+◌, ◌-◌, ◌<◌, ◌≤◌, ℤ, pos, negsuc, neg_ℤ, ◌+ℤ◌, ◌-ℤ◌, ◌*ℤ◌, ◌≤ℤ◌, Bool, true, false, cond, unsigned_abs, List, [], ◌∷◌, ◌++◌, length, map, refl, sym, ap, ◌∙◌, subst, arith}
use Rattle.std.specs.Prelude.{◌<ℤ◌, Option, Some, option_to_list}
use Rattle.std.specs.List.{range_with_len}
use Rattle.std.specs.Ordering.{int_eq}
use Rattle.std.proofs.lemmas.Int.{ints}
use Rattle.std.proofs.lemmas.List.{length-map}
use Rattle.std.proofs.lemmas.List.FromFn.{length-map-range_with_len}
use Rattle.ac_base.proofs.Floor.{positive_is}
use Rattle.ac_forms.specs.Affine.{Affine, shifted, FormFits}
use Rattle.ac_forms.specs.Fits.{Fits}
use Rattle.ac_forms.specs.Negation.{opposite, above, below, with_column, NegationFits}
use Rattle.ac_forms.specs.Rows.{IsWellMade}
use Rattle.ac_forms.specs.declared.conj.Conj.{Conj}
use Rattle.ac_forms.specs.declared.row.Row.TheVariants.{Eq, Div, Ge}
use Rattle.ac_forms.proofs.Negations.{length-with_column}
use Rattle.ac_cert.specs.RowBranches.{with_floor, behind, under, over_zero, with_rest}
use Rattle.ac_cert.specs.Rules.{with_row, class, class_row, has_class, is_partition}
use Rattle.ac_omega_steps.proofs.Fitting.{fits_true}
use Rattle.ac_omega_steps.proofs.Keeping.{made-push, made-more}
use Rattle.ac_cert.proofs.StepRules.{class-over}
use Rattle.ac_base.proofs.Truths.{true-le, true-nat_le}
use Rattle.ac_claims_paths.specs.PathSteps.{Pairing, at_rows}
use Rattle.ac_claims_paths.specs.declared.path.Path.{Path}
use Rattle.ac_claims.specs.declared.types.Claim.{Claim}
use Rattle.ac_claims.specs.declared.types.Plan.{Plan}
use Rattle.ac_claims_plans.specs.Embeddings.{moved_form}
use Rattle.ac_claims_plans.specs.PlanAcceptance.{AcceptsPlan, Serves}
use Rattle.ac_claims_plans.specs.BranchSides.{side_of, on_side, one_row, rest_side, has_few, ClassesFit, AcceptsClasses, ServeEach, BranchServes}
use Rattle.ac_claims_plans.specs.QuestionEmbedding.{StandsOn}
use Rattle.ac_claims_plans.specs.declared.branching.Part.{Part}
use Rattle.ac_claims_plans.specs.declared.embedding.Embedding.{Embedding}
use Rattle.ac_claims_plans.proofs.Beside.{Moved, moved-there, view-under, view-over, view-row, view-behind_eq, view-behind_div, view-rest}
use Rattle.ac_claims_plans.proofs.Named.{place_of, Renames}
use Rattle.ac_claims_plans.proofs.Renamings.{renames-scaled, renames-shifted, renames-fits}

-- ---- rows that are over the columns

long : (f : Affine) → length (opposite f).coefs ≡ length f.coefs
long f = length-map f.coefs (λ c. negsuc 0 *ℤ c)

made-under : (d : Conj) (g : Affine) → IsWellMade d → length g.coefs ≤ d.columns → IsWellMade (under d g)
made-under d g w l = made-push d.columns d.rows (Ge (below g)) w (omega (arith, long g, l), tt)

made-over : (d : Conj) (g : Affine) → IsWellMade d → length g.coefs ≤ d.columns → IsWellMade (over_zero d g)
made-over d g w l = made-push d.columns (d.rows ++ Ge g ∷ []) (Ge (above g)) (made-push d.columns d.rows (Ge g) w (l, tt)) (l, tt)

made-floor : (d : Conj) (m : ℤ) (g : Affine) → IsWellMade d → length g.coefs ≤ d.columns → IsWellMade (with_floor d m g)
made-floor d m g w l =
    let low = Ge (with_column d.columns (neg_ℤ m) g) in
    made-push (d.columns + 1) (d.rows ++ low ∷ []) (Ge (with_column d.columns m (shifted (opposite g) (m -ℤ pos 1))))
    (made-push (d.columns + 1) d.rows low (made-more d.columns d.rows w) (omega (arith, length-with_column d.columns (neg_ℤ m) g l), tt))
    (omega (arith, length-with_column d.columns m (shifted (opposite g) (m -ℤ pos 1)) (omega (arith, long g, l))), tt)

made-rest : (d : Conj) (m : ℤ) (g : Affine) → IsWellMade d → length g.coefs ≤ d.columns → IsWellMade (with_rest d m g)
made-rest d m g w l = made-push (d.columns + 1) (with_floor d m g).rows (Ge (with_column d.columns (neg_ℤ m) (above g))) (made-floor d m g w l) (omega (arith, length-with_column d.columns (neg_ℤ m) (above g) l), tt)

made-behind_eq : (d : Conj) (g : Affine) → IsWellMade d → length g.coefs ≤ d.columns → IsWellMade (behind d (Eq g))
made-behind_eq d g w l =
    made-push d.columns ((d.rows ++ Ge g ∷ []) ++ Ge (opposite g) ∷ []) (Eq g)
    (made-push d.columns (d.rows ++ Ge g ∷ []) (Ge (opposite g)) (made-push d.columns d.rows (Ge g) w (l, tt)) (omega (arith, long g, l), tt)) (l, tt)

made-behind_div : (d : Conj) (m : ℤ) (g : Affine) → IsWellMade d → pos 1 ≤ℤ m → length g.coefs ≤ d.columns → IsWellMade (behind d (Div m g))
made-behind_div d m g w p l =
    let low = with_column d.columns (neg_ℤ m) g in
    let wide : length low.coefs ≤ d.columns + 1 = omega (arith, length-with_column d.columns (neg_ℤ m) g l) in
    let a = with_floor d m g in
    let b = with_row a (Ge (with_column d.columns m (opposite g))) in
    let e = with_row b (Eq low) in
    let h = with_row e (Div m low) in
    made-push (d.columns + 1) h.rows (Div m g)
    (made-push (d.columns + 1) e.rows (Div m low)
    (made-push (d.columns + 1) b.rows (Eq low)
    (made-push (d.columns + 1) a.rows (Ge (with_column d.columns m (opposite g))) (made-floor d m g w l) (omega (arith, length-with_column d.columns m (opposite g) (omega (arith, long g, l))), tt))
    (wide, tt)) (wide, p)) (omega (arith, l), p)

-- ---- the negation's numbers on the path

opposite-fits : (s : Embedding) (d : Conj) (f g : Affine) → Moved s d f g → FormFits (opposite f) → FormFits (opposite g)
opposite-fits s d f g m h = renames-fits (λ j. place_of j s.columns) (opposite f) (opposite g) (renames-scaled (λ j. place_of j s.columns) (negsuc 0) f g m.renames) h

opposite-konst : (s : Embedding) (d : Conj) (f g : Affine) (k : ℤ) → Moved s d f g → Fits ((opposite f).konst +ℤ k) → Fits ((opposite g).konst +ℤ k)
opposite-konst s d f g k m h = subst (λ z. Fits (negsuc 0 *ℤ z +ℤ k)) (sym m.renames.konst) h

konst-fits : (s : Embedding) (d : Conj) (f g : Affine) (k : ℤ) → Moved s d f g → Fits (f.konst +ℤ k) → Fits (g.konst +ℤ k)
konst-fits s d f g k m h = subst (λ z. Fits (z +ℤ k)) (sym m.renames.konst) h

-- ---- plans, one for each side

last-serves : (g : Pairing) (cs : List Claim) (h : Path) (s : Embedding) (c : Conj) (p : Part) (ts ys : List Plan) (t : Plan) → ServeEach g cs h s c (p ∷ []) ts → ts ≡ ys ++ t ∷ [] → Serves g cs h (on_side s p) (side_of c p) t
last-serves g cs h s c p [] ys t e is = absurd e
last-serves g cs h s c p (x ∷ []) [] t e is = let same : x ≡ t = cc in subst (λ z. Serves g cs h (on_side s p) (side_of c p) z) same e.0
last-serves g cs h s c p (x ∷ []) (y ∷ []) t e is = absurd cc
last-serves g cs h s c p (x ∷ []) (y ∷ z ∷ ys) t e is = absurd cc
last-serves g cs h s c p (x ∷ y ∷ ts) ys t e is = absurd e.1

both-serve : (g : Pairing) (cs : List Claim) (h : Path) (s : Embedding) (c : Conj) (p q : Part) (ts ys zs : List Plan) (a b : Plan) → ServeEach g cs h s c (p ∷ q ∷ []) ts → ts ≡ ys ++ b ∷ [] → ys ≡ zs ++ a ∷ [] → Serves g cs h (on_side s p) (side_of c p) a × Serves g cs h (on_side s q) (side_of c q) b
both-serve g cs h s c p q [] ys zs a b e is are = absurd e
both-serve g cs h s c p q (x ∷ ts) [] [] a b e is are = absurd cc
both-serve g cs h s c p q (x ∷ ts) [] (z ∷ zs) a b e is are = absurd cc
both-serve g cs h s c p q (x ∷ ts) (y ∷ ys) zs a b e is are =
    let same : x ≡ y = cc in
    let rest : ts ≡ ys ++ b ∷ [] = cc in
    let first = alone ys zs (longer ts ys e.1 rest) are in
    (subst (λ z. Serves g cs h (on_side s p) (side_of c p) z) (same ∙ first) e.0, last-serves g cs h s c q ts ys b e.1 rest)
  where
    longer : (ts ys : List Plan) → ServeEach g cs h s c (q ∷ []) ts → ts ≡ ys ++ b ∷ [] → ys ≡ []
    longer [] ys e is = absurd e
    longer (x ∷ []) [] e is = refl
    longer (x ∷ []) (y ∷ []) e is = absurd cc
    longer (x ∷ []) (y ∷ z ∷ ys) e is = absurd cc
    longer (x ∷ y ∷ ts) ys e is = absurd e.1

    alone : (ys zs : List Plan) → ys ≡ [] → y ∷ ys ≡ zs ++ a ∷ [] → y ≡ a
    alone [] [] n e = cc
    alone [] (z ∷ []) n e = absurd cc
    alone [] (z ∷ w ∷ zs) n e = absurd cc
    alone (x ∷ ys) zs n e = absurd cc

serve-long : (g : Pairing) (cs : List Claim) (h : Path) (s : Embedding) (c : Conj) (ps : List Part) (ts : List Plan) → ServeEach g cs h s c ps ts → length ts ≡ length ps
serve-long g cs h s c [] [] e = refl
serve-long g cs h s c [] (t ∷ ts) e = absurd e
serve-long g cs h s c (p ∷ ps) [] e = absurd e
serve-long g cs h s c (p ∷ ps) (t ∷ ts) e = ap (λ (n : ℕ). suc n) (serve-long g cs h s c ps ts e.1)

-- ---- a branch on each kind of row

pub for_ge : (s : Embedding) (f g : Affine) (inside below t : Plan) (outside ys : List Plan) → g ≡ moved_form s f → outside ≡ ys ++ below ∷ []
    → ((p : Pairing) (cs : List Claim) (h : Path) → length g.coefs ≤ h.conj.columns → NegationFits (Ge g) → AcceptsPlan p cs below (at_rows h (under h.conj g)) → AcceptsPlan p cs inside (at_rows h (behind h.conj (Ge g))) → AcceptsPlan p cs t h) → BranchServes s (Ge f) inside outside t
for_ge s f g inside below t outside ys e is at p cs h c w over can on out d v wd =
    let m = subst (λ (x : Affine). Moved s d f x) (sym e) (moved-there s c d f v over.0) in
    let beneath = last-serves p cs h s c (one_row (Ge (below_of f)) 0 0 1) outside ys below out is in
    at p cs (at_rows h d) m.within (opposite-fits s d f g m can.0, opposite-konst s d f g (negsuc 0) m can.1)
    (beneath (under d g) (view-under s c d f g w v m) (made-under d g wd m.within))
    (on (behind d (Ge g)) (view-row s c d (Ge f) g w v m.short m.renames) (made-push d.columns d.rows (Ge g) wd (m.within, tt)))
  where
    below_of : Affine → Affine
    below_of f = shifted (opposite f) (negsuc 0)

pub for_eq : (s : Embedding) (f g : Affine) (inside high low t : Plan) (outside ys zs : List Plan) → g ≡ moved_form s f → outside ≡ ys ++ low ∷ [] → ys ≡ zs ++ high ∷ []
    → ((p : Pairing) (cs : List Claim) (h : Path) → length h.conj.rows ≡ s.next_row → length g.coefs ≤ h.conj.columns → NegationFits (Eq g) → AcceptsPlan p cs high (at_rows h (over_zero h.conj g)) → AcceptsPlan p cs low (at_rows h (under h.conj g)) → AcceptsPlan p cs inside (at_rows h (behind h.conj (Eq g))) → AcceptsPlan p cs t h) → BranchServes s (Eq f) inside outside t
for_eq s f g inside high low t outside ys zs e is are at p cs h c w over can on out d v wd =
    let m = subst (λ (x : Affine). Moved s d f x) (sym e) (moved-there s c d f v over.0) in
    let both = both-serve p cs h s c (one_row (Ge (above f)) 1 0 2) (one_row (Ge (below f)) 0 0 1) outside ys zs high low out is are in
    at p cs (at_rows h d) v.path_rows m.within (konst-fits s d f g (negsuc 0) m can.0, opposite-fits s d f g m can.1, opposite-konst s d f g (negsuc 0) m can.2)
    (both.0 (over_zero d g) (view-over s c d f g w v m) (made-over d g wd m.within))
    (both.1 (under d g) (view-under s c d f g w v m) (made-under d g wd m.within))
    (on (behind d (Eq g)) (view-behind_eq s c d f g w v m) (made-behind_eq d g wd m.within))

pub for_div : (s : Embedding) (m : ℤ) (f g : Affine) (inside other t : Plan) (outside ys : List Plan) → has_few m ≡ false → g ≡ moved_form s f → outside ≡ ys ++ other ∷ []
    → ((p : Pairing) (cs : List Claim) (h : Path) → h.conj.columns ≡ s.next_column → length h.conj.rows ≡ s.next_row → length g.coefs ≤ s.next_column → pos 1 ≤ℤ m → NegationFits (Div m g) → AcceptsPlan p cs other (at_rows h (with_rest h.conj m g)) → AcceptsPlan p cs inside (at_rows h (behind h.conj (Div m g))) → AcceptsPlan p cs t h) → BranchServes s (Div m f) inside outside t
for_div s m f g inside other t outside ys many e is at p cs h c w over can on out d v wd =
    let n = subst (λ (x : Affine). Moved s d f x) (sym e) (moved-there s c d f v over.0) in
    let fit = can.1 many in
    let on2 : Serves p cs h (on_side s (one_row (Div m f) 5 1 6)) (side_of c (one_row (Div m f) 5 1 6)) inside = subst (λ (b : Bool). Serves p cs h (on_side s (cond b (one_row (Div m f) 0 0 1) (one_row (Div m f) 5 1 6))) (side_of c (cond b (one_row (Div m f) 0 0 1) (one_row (Div m f) 5 1 6))) inside) many on in
    let out2 : ServeEach p cs h s c (rest_side c.columns m f ∷ []) outside = subst (λ (b : Bool). ServeEach p cs h s c (cond b (map (λ r. one_row (class_row m f (pos r)) 0 0 1) (range_with_len 1 (unsigned_abs m - 1))) (rest_side c.columns m f ∷ [])) outside) many out in
    let rest = last-serves p cs h s c (rest_side c.columns m f) outside ys other out2 is in
    at p cs (at_rows h d) v.path_columns v.path_rows (omega (arith, n.within, v.path_columns)) over.1 (konst-fits s d f g (negsuc 0) n fit.0, opposite-fits s d f g n fit.1, opposite-konst s d f g (m -ℤ pos 1) n fit.2)
    (rest (with_rest d m g) (view-rest s c d m f g w v n) (made-rest d m g wd n.within))
    (on2 (behind d (Div m g)) (view-behind_div s c d m f g w v n) (made-behind_div d m g wd over.1 n.within))

-- ---- the residue classes

class-made : (m : ℤ) (g : Affine) (r : ℕ) (d : Conj) → pos 1 ≤ℤ m → length g.coefs ≤ d.columns → IsWellMade d → IsWellMade (class m g (pos r) d)
class-made m g r d p l w = class-over m g (pos r) d p (true-nat_le (length g.coefs) d.columns l) w

classes-serve : (p : Pairing) (cs : List Claim) (h : Path) (s : Embedding) (c d : Conj) (m : ℤ) (f g : Affine) (i n : ℕ) (ts : List Plan) → IsWellMade c → StandsOn s c d → IsWellMade d → pos 1 ≤ℤ m → Moved s d f g
    → ServeEach p cs h s c (map (λ r. one_row (class_row m f (pos r)) 0 0 1) (range_with_len i n)) ts → AcceptsClasses p cs ts m g i (at_rows h d)
classes-serve p cs h s c d m f g i zero [] w v wd one a e = tt
classes-serve p cs h s c d m f g i zero (t ∷ ts) w v wd one a e = absurd e
classes-serve p cs h s c d m f g i (suc n) [] w v wd one a e = absurd e
classes-serve p cs h s c d m f g i (suc n) (t ∷ ts) w v wd one a e = (
  e.0 (class m g (pos i) d) (view-row s c d (class_row m f (pos i)) (shifted g (neg_ℤ (pos i))) w v a.short (renames-shifted (λ j. place_of j s.columns) (neg_ℤ (pos i)) f g a.renames)) (class-made m g i d one a.within wd),
  classes-serve p cs h s c d m f g (i + 1) n ts w v wd one a e.1,
)

first-class : (s : Embedding) (f g : Affine) → Renames (λ j. place_of j s.columns) f g → Renames (λ j. place_of j s.columns) f (shifted g (neg_ℤ (pos 0)))
first-class s f g r = record { konst = none g.konst ∙ r.konst; coefs = r.coefs }
  where
    none : (k : ℤ) → k +ℤ neg_ℤ (pos 0) ≡ k
    none k = omega (arith, ints)

last-fits : (s : Embedding) (d : Conj) (m : ℤ) (f g : Affine) → pos 1 ≤ℤ m → FormFits f → ClassesFit m f → Moved s d f g → Fits (g.konst -ℤ (m -ℤ pos 1))
last-fits s d m f g p fit all a = let k = positive_is m p in subst (λ z. Fits (z -ℤ (m -ℤ pos 1))) (sym a.renames.konst) (by k.0 k.1 k.2)
  where
    last : (k : ℕ) → m ≡ pos (suc (suc k)) → m -ℤ pos 1 ≡ pos (suc k)
    last k e = omega (arith, ints, e)

    first : m ≡ pos 1 → f.konst -ℤ (m -ℤ pos 1) ≡ f.konst
    first e = omega (arith, ints, e)

    below : (k : ℕ) → m ≡ pos (suc (suc k)) → pos (suc k) <ℤ m
    below k e = omega (arith, ints, e)

    by : (k : ℕ) → 0 < k → m ≡ pos k → Fits (f.konst -ℤ (m -ℤ pos 1))
    by zero l e = absurd (omega (arith, l))
    by (suc zero) l e = subst Fits (sym (first e)) fit.1
    by (suc (suc k)) l e = subst (λ z. Fits (f.konst -ℤ z)) (sym (last k e)) (all (suc k) (omega arith) (below k e))

partition-is : (m : ℤ) (g : Affine) (columns n : ℕ) → pos 1 ≤ℤ m → n ≡ unsigned_abs m - 1 → length g.coefs ≤ columns → Fits (g.konst -ℤ (m -ℤ pos 1)) → is_partition m g columns (suc n) ≡ true
unfolding is_partition has_class
partition-is m g columns n p e l fit =
    let k = positive_is m p in
    rw (count k.0 k.1 k.2, true-le (pos 1) m p, true-nat_le (length g.coefs) columns l) (fits_true (g.konst -ℤ (m -ℤ pos 1)) fit)
  where
    same : (k : ℕ) → 0 < k → m ≡ pos k → suc n ≡ k
    same k l h = let a : unsigned_abs m ≡ k = ap unsigned_abs h in omega (arith, l, a, e)

    equal : (x y : ℤ) → x ≡ y → int_eq x y ≡ true
    equal x y h = grind (arith, ints)

    count : (k : ℕ) → 0 < k → m ≡ pos k → int_eq m (pos (suc n)) ≡ true
    count k l h = equal m (pos (suc n)) (h ∙ ap (λ (z : ℕ). pos z) (sym (same k l h)))

pub for_classes : (s : Embedding) (m : ℤ) (f g : Affine) (inside t : Plan) (outside : List Plan) → has_few m ≡ true → g ≡ moved_form s f → FormFits f
    → ((p : Pairing) (cs : List Claim) (h : Path) → is_partition m g h.conj.columns (suc (length outside)) ≡ true → AcceptsClasses p cs (inside ∷ outside) m g 0 h → AcceptsPlan p cs t h) → BranchServes s (Div m f) inside outside t
for_classes s m f g inside t outside few e fit at p cs h c w over can on out d v wd =
    let n = subst (λ (x : Affine). Moved s d f x) (sym e) (moved-there s c d f v over.0) in
    let on2 : Serves p cs h (on_side s (one_row (Div m f) 0 0 1)) (side_of c (one_row (Div m f) 0 0 1)) inside = subst (λ (b : Bool). Serves p cs h (on_side s (cond b (one_row (Div m f) 0 0 1) (one_row (Div m f) 5 1 6))) (side_of c (cond b (one_row (Div m f) 0 0 1) (one_row (Div m f) 5 1 6))) inside) few on in
    let out2 : ServeEach p cs h s c (map (λ r. one_row (class_row m f (pos r)) 0 0 1) (range_with_len 1 (unsigned_abs m - 1))) outside = subst (λ (b : Bool). ServeEach p cs h s c (cond b (map (λ r. one_row (class_row m f (pos r)) 0 0 1) (range_with_len 1 (unsigned_abs m - 1))) (rest_side c.columns m f ∷ [])) outside) few out in
    let count : length outside ≡ unsigned_abs m - 1 = serve-long p cs h s c (map (λ r. one_row (class_row m f (pos r)) 0 0 1) (range_with_len 1 (unsigned_abs m - 1))) outside out2 ∙ length-map-range_with_len (λ r. one_row (class_row m f (pos r)) 0 0 1) 1 (unsigned_abs m - 1) in
    at p cs (at_rows h d) (partition-is m g d.columns (length outside) over.1 count n.within (last-fits s d m f g over.1 fit (can.0 few) n)) (
      on2 (class m g (pos 0) d) (view-row s c d (Div m f) (shifted g (neg_ℤ (pos 0))) w v n.short (first-class s f g n.renames)) (class-made m g 0 d over.1 n.within wd),
      classes-serve p cs h s c d m f g 1 (unsigned_abs m - 1) outside w v wd over.1 n out2,
    )

-- an item taken from the end of a list
pub popped : {X : Type 0} (xs ys : List X) (o : Option X) (x : X) → xs ≡ ys ++ option_to_list o → o ≡ Some x → xs ≡ ys ++ x ∷ []
popped xs ys o x e is = e ∙ ap (λ z. ys ++ option_to_list z) is
