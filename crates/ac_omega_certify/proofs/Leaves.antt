-- Trees over a range of numbers are accepted where their leaves are.
use Rattle.std.proofs.Common.{◌≡◌, ℕ, zero, suc, ◌-◌, ◌≤◌, ℤ, pos, negsuc, neg_ℤ, ◌+ℤ◌, ◌-ℤ◌, ◌*ℤ◌, ◌≤ℤ◌, List, [], ◌∷◌, ◌++◌, length, get_or, Some, true, slice_get, refl, sym, ap, ◌∙◌, subst, arith, append_assoc}
use Rattle.std.proofs.lemmas.Int.{ints}
use Rattle.std.proofs.lemmas.List.{append-nil}
use Rattle.ac_base.proofs.Columns.{get_or-mix}
use Rattle.ac_forms.specs.Affine.{Affine, coef, combined, MixFits, CanCombine, FormFits}
use Rattle.ac_forms.specs.Fits.{Fits, AllFit}
use Rattle.ac_forms.specs.Negation.{opposite, below}
use Rattle.ac_forms.specs.declared.conj.Conj.{Conj}
use Rattle.ac_forms.specs.declared.row.Row.{Row}
use Rattle.ac_forms.specs.declared.row.Row.TheVariants.{Eq, Ge}
use Rattle.ac_cert.specs.declared.ends.Absurd.{Absurd}
use Rattle.ac_cert.specs.declared.types.Step.{Step}
use Rattle.ac_cert.specs.declared.types.Step.TheVariants.{EqCut}
use Rattle.ac_cert.specs.declared.types.Tree.{Tree}
use Rattle.ac_cert.specs.AcceptedTrees.{Accepts, absurd_refusals, after_steps}
use Rattle.ac_cert.specs.CertificateFaults.{Refusal}
use Rattle.ac_cert.specs.Rules.{with_row, after_step, both_sides, is_zero}
use Rattle.ac_cert.specs.StepRows.{IsAt}
use Rattle.ac_cert.proofs.Equations.{split-rows, eq_cut-row}
use Rattle.ac_omega_certify.specs.Leaves.{less, under, HasRoom, GoesOn, AcceptsFrom}
use Rattle.ac_omega_certify.specs.TreePathRows.{Alike}
use Rattle.ac_omega_certify.proofs.Terms.{once}
use Rattle.ac_omega_certify.proofs.Renaming.{fits-zero, blends-can}
use Rattle.ac_omega_certify.proofs.Quotients.{zeros}
use Rattle.ac_forms.proofs.Trims.{test_zero}
use Rattle.ac_omega_certify.proofs.Divisibilities.{get_or-scaled}

-- ---- a form and its opposite

pub alike-self : (f : Affine) → Alike f f
alike-self f = record { konst = refl; coefs = λ j. refl }

column-fits : (cs : List ℤ) (j : ℕ) → AllFit cs → Fits (get_or cs j (pos 0))
column-fits [] zero h = fits-zero
column-fits [] (suc j) h = fits-zero
column-fits (c ∷ cs) zero h = h.0
column-fits (c ∷ cs) (suc j) h = column-fits cs j h.1

no-sum : (x : ℤ) → pos 1 *ℤ x +ℤ pos 1 *ℤ (negsuc 0 *ℤ x) ≡ pos 0
no-sum x = omega (arith, ints)

cancels : (x y z : ℤ) → y ≡ x → z ≡ negsuc 0 *ℤ x → pos 1 *ℤ y +ℤ pos 1 *ℤ z ≡ pos 0
cancels x y z a b = rw (a, b) (no-sum x)

cancelled-fits : (x y z : ℤ) → y ≡ x → z ≡ negsuc 0 *ℤ x → Fits x → Fits (negsuc 0 *ℤ x) → MixFits (pos 1) y (pos 1) z
cancelled-fits x y z a b h k = rw (cancels x y z a b, a, b, once x, once (negsuc 0 *ℤ x)) (h, k, fits-zero)

turned-coef : (f h : Affine) → Alike (opposite f) h → (j : ℕ) → coef j h ≡ negsuc 0 *ℤ coef j f
turned-coef f h b j = b.coefs j ∙ get_or-scaled (negsuc 0) f.coefs j

-- forms that say what a form and its opposite say
pub can_cancel : (f g h : Affine) → Alike f g → Alike (opposite f) h → FormFits f → FormFits (opposite f) → CanCombine (pos 1) g (pos 1) h
can_cancel f g h a b x y = blends-can (pos 1) g (pos 1) h (record {
  konst = cancelled-fits f.konst g.konst h.konst a.konst b.konst x.1 y.1;
  coefs = λ j. cancelled-fits (coef j f) (coef j g) (coef j h) (a.coefs j) (turned-coef f h b j) (column-fits f.coefs j x.0) (subst Fits (get_or-scaled (negsuc 0) f.coefs j) (column-fits (opposite f).coefs j y.0));
})

pub cancelled : (f g h : Affine) → Alike f g → Alike (opposite f) h → is_zero (combined (pos 1) g (pos 1) h) ≡ true
cancelled f g h a b =
    rw (zeros (combined (pos 1) g (pos 1) h).coefs (λ j. get_or-mix (pos 1) g.coefs (pos 1) h.coefs j ∙ cancels (coef j f) (coef j g) (coef j h) (a.coefs j) (turned-coef f h b j)))
    (test_zero _ (cancels f.konst g.konst h.konst a.konst b.konst))

abbrev form_with : List ℤ → ℤ → Affine
form_with cs k = record { konst = k; coefs = cs }

same-form : (k l : ℤ) (cs : List ℤ) → k ≡ l → form_with cs k ≡ form_with cs l
same-form k l cs e = ap (form_with cs) e

-- less than 1: the opposite
under-one : (f : Affine) → under f 1 ≡ opposite f
under-one f =
    let o = opposite f in
    let e : o.konst +ℤ (pos 1 -ℤ pos 1) ≡ o.konst = omega (arith, ints) in
    same-form (o.konst +ℤ (pos 1 -ℤ pos 1)) o.konst o.coefs e

-- ---- numbers between two numbers of `i128`

pub fits-between : (a b z : ℤ) → Fits a → Fits b → a ≤ℤ z → z ≤ℤ b → Fits z
fits-between (pos a) b (pos z) f g l m = up b g m
  where
    up : (b : ℤ) → Fits b → pos z ≤ℤ b → Fits (pos z)
    up (pos b) g m = record { sfits = omega (arith, ints, g.sfits, m) }
    up (negsuc b) g m = absurd (omega (arith, ints, m))
fits-between (pos a) b (negsuc z) f g l m = absurd (omega (arith, ints, l))
fits-between (negsuc a) b (negsuc z) f g l m = record { sfits = omega (arith, ints, f.sfits, l) }
fits-between (negsuc a) b (pos z) f g l m = up b g m
  where
    up : (b : ℤ) → Fits b → pos z ≤ℤ b → Fits (pos z)
    up (pos b) g m = record { sfits = omega (arith, ints, g.sfits, m) }
    up (negsuc b) g m = absurd (omega (arith, ints, m))

pub room-low : (f : Affine) (n m : ℕ) → HasRoom f n → m ≤ n → Fits (f.konst -ℤ pos m)
room-low f n m h l = fits-between (f.konst -ℤ pos n) f.konst (f.konst -ℤ pos m) h.low h.form.1 (omega (arith, ints, l)) (omega (arith, ints))

pub room-high : (f : Affine) (n m : ℕ) → HasRoom f n → m ≤ n → Fits ((opposite f).konst +ℤ pos m)
room-high f n m h l =
    let o : ℤ = (opposite f).konst in
    fits-between o (o +ℤ pos n) (o +ℤ pos m) h.turned.1 h.high (omega (arith, ints)) (omega (arith, ints, l))

pub room-less : (f : Affine) (n m : ℕ) → HasRoom f n → m ≤ n → HasRoom f m
room-less f n m h l = record { form = h.form; turned = h.turned; low = room-low f n m h l; high = room-high f n m h l }

turned-less : (k : ℤ) (n : ℕ) → negsuc 0 *ℤ (k +ℤ neg_ℤ (pos n)) ≡ negsuc 0 *ℤ k +ℤ pos n
turned-less k n = omega (arith, ints)

-- the form less m has room for the rest
pub room-rest : (f : Affine) (n m : ℕ) → HasRoom f n → m ≤ n → HasRoom (less f m) (n - m)
room-rest f n m h l =
    let low : Fits (f.konst +ℤ neg_ℤ (pos m)) = subst Fits (minus f.konst m) (room-low f n m h l) in
    let high : Fits (negsuc 0 *ℤ (f.konst +ℤ neg_ℤ (pos m))) = rw (turned-less f.konst m) (room-high f n m h l) in
    record { form = (h.form.0, low); turned = (h.turned.0, high); low = subst Fits (far f.konst) h.low; high = subst Fits (near f.konst) h.high }
  where
    minus : (k : ℤ) (m : ℕ) → k -ℤ pos m ≡ k +ℤ neg_ℤ (pos m)
    minus k m = omega (arith, ints)

    far : (k : ℤ) → k -ℤ pos n ≡ (k +ℤ neg_ℤ (pos m)) -ℤ pos (n - m)
    far k = omega (arith, ints, l)

    near : (k : ℤ) → negsuc 0 *ℤ k +ℤ pos n ≡ negsuc 0 *ℤ (k +ℤ neg_ℤ (pos m)) +ℤ pos (n - m)
    near k = omega (arith, ints, l)

-- ---- places

pub at-last : (rows : List Row) (r : Row) (n : ℕ) → length rows ≡ n → slice_get (rows ++ r ∷ []) n ≡ Some r
at-last [] r zero e = refl
at-last [] r (suc n) e = absurd (omega (arith, e))
at-last (s ∷ rows) r zero e = absurd (omega (arith, e))
at-last (s ∷ rows) r (suc n) e = at-last rows r n (omega (arith, e))

pub at-before : (rows : List Row) (r s : Row) (i : ℕ) → slice_get rows i ≡ Some s → slice_get (rows ++ r ∷ []) i ≡ Some s
at-before [] r s i e = absurd cc
at-before (x ∷ rows) r s zero e = e
at-before (x ∷ rows) r s (suc i) e = at-before rows r s i e

-- ---- one number

one-step : (s : Step) (c d : Conj) → after_step s c ≡ Some d → after_steps (s ∷ []) c ≡ Some d
one-step s c d e = rw e refl

-- what the makers of trees say
abbrev pub Splits : Affine → Tree Absurd → Tree Absurd → Tree Absurd → Type 0
Splits e l r t = (refusal : Refusal Absurd) (c a b : Conj) → both_sides e c ≡ Some (a, b) → Accepts l refusal a → Accepts r refusal b → Accepts t refusal c

abbrev pub StepsTo : List Step → Tree Absurd → Tree Absurd → Type 0
StepsTo steps onward t = (refusal : Refusal Absurd) (c d : Conj) → after_steps steps c ≡ Some d → Accepts onward refusal d → Accepts t refusal c

pub is-zero : (c : Conj) (f g h : Affine) (low high : ℕ) → HasRoom f 1 → IsAt c low (Ge g) → Alike f g → IsAt c high (Ge h) → Alike (under f 1) h → after_steps (EqCut low high ∷ []) c ≡ Some (with_row c (Eq g))
is-zero c f g h low high room a p b q =
    let turned : Alike (opposite f) h = subst (λ (o : Affine). Alike o h) (under-one f) q in
    one-step (EqCut low high) c (with_row c (Eq g)) (eq_cut-row c low high g h a b (can_cancel f g h p turned room.form room.turned) (cancelled f g h p turned))

-- ---- two halves

-- less than a number: at most -1 less than it
below-less : (f : Affine) (n : ℕ) → below (less f n) ≡ under f n
below-less f n =
    let o = opposite f in
    let e : negsuc 0 *ℤ (f.konst +ℤ neg_ℤ (pos n)) +ℤ negsuc 0 ≡ o.konst +ℤ (pos n -ℤ pos 1) = omega (arith, ints) in
    same-form (negsuc 0 *ℤ (f.konst +ℤ neg_ℤ (pos n)) +ℤ negsuc 0) (o.konst +ℤ (pos n -ℤ pos 1)) o.coefs e

pub both-halves : (c : Conj) (f : Affine) (n : ℕ) → 1 ≤ n → length f.coefs ≤ c.columns → HasRoom f n → both_sides (less f n) c ≡ Some (with_row c (Ge (less f n)), with_row c (Ge (under f n)))
both-halves c f n one short h =
    let high : Fits (negsuc 0 *ℤ (f.konst +ℤ neg_ℤ (pos n))) = rw (turned-less f.konst n) h.high in
    let room : Fits ((opposite f).konst +ℤ pos (n - 1)) = room-high f n (n - 1) h (omega arith) in
    let last : Fits ((opposite (less f n)).konst +ℤ negsuc 0) = subst Fits (omega (arith, ints, one)) room in
    split-rows c (less f n) short (h.turned.0, high) last ∙ ap (λ (g : Affine). Some (with_row c (Ge (less f n)), with_row c (Ge g))) (below-less f n)

-- ---- the leaves

abbrev rows_over : ℕ → List Row → Conj
rows_over n rows = record { columns = n; rows = rows }

further : (n : ℕ) (c d : Conj) (r : Row) → GoesOn n (with_row c r) d → GoesOn (suc n) c d
further n c d r g = record {
  more = r ∷ g.more;
  long = ap (λ (k : ℕ). suc k) g.long;
  is = g.is ∙ ap (rows_over c.columns) (append_assoc c.rows (r ∷ []) g.more);
}

-- what the leaves stand on stands behind a further row
pub accepts-further : (ts : List (Tree Absurd)) (f : Affine) (n : ℕ) (c : Conj) (r : Row) → AcceptsFrom ts f (suc n) c → AcceptsFrom ts f n (with_row c r)
accepts-further [] f n c r h = tt
accepts-further (t ∷ ts) f n c r h = ((λ d g. h.0 d (further n c d r g)), accepts-further ts (less f 1) n c r h.1)

less-less : (f : Affine) (n : ℕ) → less (less f 1) n ≡ less f (suc n)
less-less f n = same-form ((f.konst +ℤ neg_ℤ (pos 1)) +ℤ neg_ℤ (pos n)) (f.konst +ℤ neg_ℤ (pos (suc n))) f.coefs (omega (arith, ints))

less-none : (f : Affine) → less f 0 ≡ f
less-none f = same-form (f.konst +ℤ neg_ℤ (pos 0)) f.konst f.coefs (omega (arith, ints))

pub accepts-front : (xs ys : List (Tree Absurd)) (f : Affine) (n : ℕ) (c : Conj) → AcceptsFrom (xs ++ ys) f n c → AcceptsFrom xs f n c
accepts-front [] ys f n c h = tt
accepts-front (x ∷ xs) ys f n c h = (h.0, accepts-front xs ys (less f 1) n c h.1)

pub accepts-back : (xs ys : List (Tree Absurd)) (f : Affine) (n : ℕ) (c : Conj) → AcceptsFrom (xs ++ ys) f n c → AcceptsFrom ys (less f (length xs)) n c
accepts-back [] ys f n c h = subst (λ (g : Affine). AcceptsFrom ys g n c) (sym (less-none f)) h
accepts-back (x ∷ xs) ys f n c h = subst (λ (g : Affine). AcceptsFrom ys g n c) (less-less f (length xs)) (accepts-back xs ys (less f 1) n c h.1)

-- the leaf that is left
pub accepts-one : (t : Tree Absurd) (f : Affine) (c : Conj) → AcceptsFrom (t ∷ []) f 0 c → (g : Affine) → Alike f g → Accepts t absurd_refusals (with_row c (Eq g))
accepts-one t f c h = h.0 c (record { more = []; long = refl; is = ap (rows_over c.columns) (sym (append-nil c.rows)) })

-- ---- the parts of a range

-- the last number of the form less m
pub under-less : (f : Affine) (n m : ℕ) → m ≤ n → under f n ≡ under (less f m) (n - m)
under-less f n m l = same-form (negsuc 0 *ℤ f.konst +ℤ (pos n -ℤ pos 1)) (negsuc 0 *ℤ (f.konst +ℤ neg_ℤ (pos m)) +ℤ (pos (n - m) -ℤ pos 1)) (opposite f).coefs (omega (arith, ints, l))

pub ruleset leaves_room = (room-low, room-less, room-rest)
