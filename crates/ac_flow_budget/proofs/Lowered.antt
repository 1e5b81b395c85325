-- Index expressions of differences among iterators that are a column plus a number, or a number.
use Rattle.std.proofs.Common.{◌≡◌, ℕ, zero, suc, ◌+◌, ◌*◌, ◌≤◌, ◌^◌, lit≤, ℤ, pos, ◌+ℤ◌, ◌-ℤ◌, ◌*ℤ◌, List, [], ◌∷◌, get_or, Option, Some, None, arith, refl, ap, sym, ◌∙◌, subst, mul-le-mul_left}
use Rattle.std.specs.Prelude.{unsigned_abs}
use Rattle.std.proofs.lemmas.Int.{ints, unsigned_abs-mul}
use Rattle.ac_forms.specs.Affine.{Affine, coef, combined, column_form}
use Rattle.ac_syntax.specs.declared.tree.IndexExpr.{IndexExpr}
use Rattle.ac_base.proofs.Products.{add-mul_ℤ}
use Rattle.ac_omega_steps.proofs.OneColumn.{coef-combined}
use Rattle.ac_poly_quotients.specs.LoweredForms.{replaced, lowered, stepping}
use Rattle.ac_omega.specs.DifferenceRows.{one_in, IsDifference, IsDifferenceWithin}
use Rattle.ac_omega.proofs.DifferenceForms.{weight, weight-two}
use Rattle.ac_omega.proofs.DifferenceNormals.{nothing-at}
use Rattle.ac_flow_budget.specs.Models.{IsShifted, AreShifted}
use Rattle.ac_flow_budget.specs.DifferencePrograms.{Variable, Parameter, Iterator, Zero, parameter_in, iterator_in, IsDifferenceExpr, IsVariableExpr, IsConstantExpr}
use Rattle.ac_flow_budget.proofs.Renamed.{first-first, first-later, later-first, later-later}
use Rattle.ac_flow_budget.proofs.Shifted.{column-coef}

-- ---- a form plus each coefficient times the form of its iterator

abbrev gathered : List Affine → (ℕ → ℤ) → ℕ → ℤ
gathered [] c j = pos 0
gathered (g ∷ gs) c j = c 0 *ℤ coef j g +ℤ gathered gs (λ i. c (suc i)) j

none-times : (c x y : ℤ) → c ≡ pos 0 → y ≡ pos 0 → c *ℤ x +ℤ y ≡ pos 0
none-times c x y e f = rw (e, f) (omega (arith, ints))

gathered-none : (gs : List Affine) (c : ℕ → ℤ) (j : ℕ) → ((i : ℕ) → c i ≡ pos 0) → gathered gs c j ≡ pos 0
gathered-none [] c j h = refl
gathered-none (g ∷ gs) c j h = none-times (c 0) (coef j g) _ (h 0) (gathered-none gs (λ i. c (suc i)) j (λ i. h (suc i)))

gathered-same : (gs : List Affine) (c a : ℕ → ℤ) (j : ℕ) → ((i : ℕ) → c i ≡ a i) → gathered gs c j ≡ gathered gs a j
gathered-same [] c a j h = refl
gathered-same (g ∷ gs) c a j h =
    ap (λ (x : ℤ). x *ℤ coef j g +ℤ gathered gs (λ i. c (suc i)) j) (h 0) ∙ ap (λ (x : ℤ). a 0 *ℤ coef j g +ℤ x) (gathered-same gs (λ i. c (suc i)) (λ i. a (suc i)) j (λ i. h (suc i)))

plus-more : (x f c g y : ℤ) → x ≡ pos 1 *ℤ f +ℤ c *ℤ g → x +ℤ y ≡ f +ℤ (c *ℤ g +ℤ y)
plus-more x f c g y e = omega (arith, ints, e)

plus-none : (x y : ℤ) → y ≡ pos 0 → x ≡ x +ℤ y
plus-none x y e = omega (arith, ints)

replaced-at : (f : Affine) (cs : List ℤ) (gs : List Affine) (j : ℕ) → coef j (replaced f cs gs) ≡ coef j f +ℤ gathered gs (λ i. get_or cs i (pos 0)) j
replaced-at f [] gs j = plus-none (coef j f) _ (gathered-none gs (λ i. get_or [] i (pos 0)) j (λ i. nothing-at i))
replaced-at f (c ∷ cs) [] j = plus-none (coef j f) (pos 0) refl
replaced-at f (c ∷ cs) (g ∷ gs) j = replaced-at (combined (pos 1) f c g) cs gs j ∙ plus-more (coef j (combined (pos 1) f c g)) (coef j f) c (coef j g) _ (coef-combined j (pos 1) f c g)

-- its number
product-within : (c x : ℤ) (b : ℕ) → unsigned_abs x ≤ b → unsigned_abs (c *ℤ x) ≤ unsigned_abs c * b
product-within c x b h = omega (arith, unsigned_abs-mul c x, mul-le-mul_left (unsigned_abs c) h)

sum-within : (x y : ℤ) (a b : ℕ) → unsigned_abs x ≤ a → unsigned_abs y ≤ b → unsigned_abs (pos 1 *ℤ x +ℤ y) ≤ a + b
sum-within x y a b h g = omega (arith, ints)

add-times : (a c v b : ℕ) → a + c * b + v * b ≡ a + (c + v) * b
add-times a c v b = omega arith

replaced-small : (b a : ℕ) (f : Affine) (cs : List ℤ) (gs : List Affine) → AreShifted b gs → unsigned_abs f.konst ≤ a → unsigned_abs (replaced f cs gs).konst ≤ a + weight cs * b
replaced-small b a f [] gs h l = omega arith
replaced-small b a f (c ∷ cs) [] h l = omega arith
replaced-small b a f (c ∷ cs) (g ∷ gs) h l =
    let s = sum-within f.konst (c *ℤ g.konst) a (unsigned_abs c * b) l (product-within c g.konst b h.0.small) in
    let r = replaced-small b (a + unsigned_abs c * b) (combined (pos 1) f c g) cs gs h.1 s in
    omega (arith, r, add-times a (unsigned_abs c) (weight cs) b)

-- ---- where a variable goes

iterator-goes : (b : ℕ) (gs : List Affine) → AreShifted b gs → ℕ → Option ℕ
iterator-goes b [] h k = None
iterator-goes b (g ∷ gs) h zero = h.0.column
iterator-goes b (g ∷ gs) h (suc k) = iterator-goes b gs h.1 k

goes : (b : ℕ) (gs : List Affine) → AreShifted b gs → Variable → Option ℕ
goes b gs h (Parameter k) = Some k
goes b gs h (Iterator k) = iterator-goes b gs h k
goes b gs h Zero = None

once-plus : (c x y o : ℤ) → c ≡ pos 1 → y ≡ pos 0 → x ≡ o → c *ℤ x +ℤ y ≡ o
once-plus c x y o e f g = rw (e, f, g) (omega (arith, ints))

none-plus : (c x y o : ℤ) → c ≡ pos 0 → y ≡ o → c *ℤ x +ℤ y ≡ o
none-plus c x y o e g = rw (e, g) (omega (arith, ints))

iterator-at : (b : ℕ) (gs : List Affine) (h : AreShifted b gs) (k j : ℕ) → gathered gs (one_in (Some k)) j ≡ one_in (iterator-goes b gs h k) j
unfolding iterator-goes
iterator-at b [] h k j = refl
iterator-at b (g ∷ gs) h zero j =
    once-plus (one_in (Some 0) 0) (coef j g) (gathered gs (λ i. one_in (Some 0) (suc i)) j) (one_in h.0.column j) first-first (gathered-none gs (λ i. one_in (Some 0) (suc i)) j (λ i. first-later i)) (h.0.is j)
iterator-at b (g ∷ gs) h (suc k) j =
    none-plus (one_in (Some (suc k)) 0) (coef j g) (gathered gs (λ i. one_in (Some (suc k)) (suc i)) j) (one_in (iterator-goes b gs h.1 k) j) (later-first k)
    (gathered-same gs (λ i. one_in (Some (suc k)) (suc i)) (one_in (Some k)) j (λ i. later-later k i) ∙ iterator-at b gs h.1 k j)

right-none : (x : ℤ) → x +ℤ pos 0 ≡ x
right-none x = omega (arith, ints)

left-none : (x : ℤ) → pos 0 +ℤ x ≡ x
left-none x = omega (arith, ints)

variable-at : (b : ℕ) (gs : List Affine) (h : AreShifted b gs) (v : Variable) (j : ℕ) → parameter_in v j +ℤ gathered gs (iterator_in v) j ≡ one_in (goes b gs h v) j
unfolding goes
variable-at b gs h (Parameter k) j = ap (λ (x : ℤ). one_in (Some k) j +ℤ x) (gathered-none gs (λ i. pos 0) j (λ i. refl)) ∙ right-none (one_in (Some k) j)
variable-at b gs h (Iterator k) j = left-none _ ∙ iterator-at b gs h k j
variable-at b gs h Zero j = ap (λ (x : ℤ). pos 0 +ℤ x) (gathered-none gs (λ i. pos 0) j (λ i. refl))

less-times : (c a b x y z w : ℤ) → c ≡ a -ℤ b → y ≡ z -ℤ w → c *ℤ x +ℤ y ≡ (a *ℤ x +ℤ z) -ℤ (b *ℤ x +ℤ w)
less-times c a b x y z w e f =
    let s : a ≡ c +ℤ b = omega (arith, ints) in
    let m : a *ℤ x ≡ c *ℤ x +ℤ b *ℤ x = ap (λ (k : ℤ). k *ℤ x) s ∙ add-mul_ℤ c b x in
    omega (arith, ints, m, f)

gathered-less : (gs : List Affine) (c a b : ℕ → ℤ) (j : ℕ) → ((i : ℕ) → c i ≡ a i -ℤ b i) → gathered gs c j ≡ gathered gs a j -ℤ gathered gs b j
gathered-less [] c a b j h = refl
gathered-less (g ∷ gs) c a b j h = less-times (c 0) (a 0) (b 0) (coef j g) _ _ _ (h 0) (gathered-less gs (λ i. c (suc i)) (λ i. a (suc i)) (λ i. b (suc i)) j (λ i. h (suc i)))

-- ---- index expressions

iterator-of : Variable → Option ℕ
iterator-of (Parameter k) = None
iterator-of (Iterator k) = Some k
iterator-of Zero = None

iterator-is : (v : Variable) (j : ℕ) → iterator_in v j ≡ one_in (iterator-of v) j
unfolding iterator-of
iterator-is (Parameter k) j = refl
iterator-is (Iterator k) j = refl
iterator-is Zero j = refl

less-none : (x y : ℤ) → x ≡ y → x ≡ y -ℤ pos 0
less-none x y e = omega (arith, ints)

less-at : (x y z a b : ℤ) → x ≡ y -ℤ z → y ≡ a → z ≡ b → x ≡ a -ℤ b
less-at x y z a b e f g = omega (arith, ints)

of-variable : (cs : List ℤ) (v : Variable) → ((j : ℕ) → get_or cs j (pos 0) ≡ iterator_in v j) → IsDifference (λ j. get_or cs j (pos 0))
of-variable cs v h = record { plus = iterator-of v; minus = None; is = λ j. less-none _ _ (h j ∙ iterator-is v j) }

of-two : (cs : List ℤ) (v w : Variable) → ((j : ℕ) → get_or cs j (pos 0) ≡ iterator_in v j -ℤ iterator_in w j) → IsDifference (λ j. get_or cs j (pos 0))
of-two cs v w h = record { plus = iterator-of v; minus = iterator-of w; is = λ j. less-at _ _ _ _ _ (h j) (iterator-is v j) (iterator-is w j) }

twice : (w n : ℕ) → w ≤ 2 → w * n ≤ n + n
twice zero n l = omega arith
twice (suc zero) n l = omega arith
twice (suc (suc zero)) n l = omega arith
twice (suc (suc (suc w))) n l = absurd (omega arith)

few-within : (w n k : ℕ) (x : ℤ) → w ≤ 2 → unsigned_abs x ≤ n + w * n → n + (n + n) ≤ k → unsigned_abs x ≤ k
few-within w n k x l m h = let t = twice w n l in omega (arith, t)

abbrev form_of : IndexExpr → Affine
form_of e = record { konst = e.konst; coefs = e.params }

pub variable-lowered : (gs : List Affine) (e : IndexExpr) → AreShifted (2 ^ 31) gs → IsVariableExpr e → IsShifted (2 ^ 33) (lowered gs e)
variable-lowered gs e h v = record {
  column = goes (2 ^ 31) gs h v.variable;
  is = λ j. replaced-at (form_of e) e.iters gs j ∙ ap (λ (x : ℤ). x +ℤ gathered gs (λ i. get_or e.iters i (pos 0)) j) (v.params j)
      ∙ ap (λ (x : ℤ). parameter_in v.variable j +ℤ x) (gathered-same gs (λ i. get_or e.iters i (pos 0)) (iterator_in v.variable) j v.iters) ∙ variable-at (2 ^ 31) gs h v.variable j;
  small = few-within (weight e.iters) (2 ^ 31) (2 ^ 33) (lowered gs e).konst (weight-two e.iters (of-variable e.iters v.variable v.iters)) (replaced-small (2 ^ 31) (2 ^ 31) (form_of e) e.iters gs h v.small) (lit≤ tt);
}

both-less : (x y a b c d : ℤ) → x ≡ a -ℤ b → y ≡ c -ℤ d → x +ℤ y ≡ (a +ℤ c) -ℤ (b +ℤ d)
both-less x y a b c d e f = omega (arith, ints)

pub difference-lowered : (gs : List Affine) (e : IndexExpr) → AreShifted (2 ^ 31) gs → IsDifferenceExpr e → IsDifferenceWithin (2 ^ 32 + 2 ^ 31) (lowered gs e)
difference-lowered gs e h d = (
  record {
    plus = goes (2 ^ 31) gs h d.plus;
    minus = goes (2 ^ 31) gs h d.minus;
    is = λ j. replaced-at (form_of e) e.iters gs j
        ∙ less-at _ _ _ _ _ (both-less _ _ (parameter_in d.plus j) (parameter_in d.minus j) (gathered gs (iterator_in d.plus) j) (gathered gs (iterator_in d.minus) j) (d.params j) (gathered-less gs (λ i. get_or e.iters i (pos 0)) (iterator_in d.plus) (iterator_in d.minus) j d.iters)) (variable-at (2 ^ 31) gs h d.plus j) (variable-at (2 ^ 31) gs h d.minus j);
  },
  few-within (weight e.iters) (2 ^ 31) (2 ^ 32 + 2 ^ 31) (lowered gs e).konst (weight-two e.iters (of-two e.iters d.plus d.minus d.iters)) (replaced-small (2 ^ 31) (2 ^ 31) (form_of e) e.iters gs h d.small) (lit≤ tt),
)

no-size : (c : ℤ) → c ≡ pos 0 → unsigned_abs c ≡ 0
no-size c e = rw e refl

no-weight : (cs : List ℤ) → ((j : ℕ) → get_or cs j (pos 0) ≡ pos 0) → weight cs ≡ 0
no-weight [] h = refl
no-weight (c ∷ cs) h = let a = no-size c (h 0) in let b = no-weight cs (λ j. h (suc j)) in omega (arith, a, b)

no-more : (w n : ℕ) (x : ℤ) → w ≡ 0 → unsigned_abs x ≤ n + w * n → unsigned_abs x ≤ n
no-more w n x e l = let l1 : unsigned_abs x ≤ n + 0 * n = rw e at l in omega (arith, l1)

sum-none : (x y : ℤ) → x ≡ pos 0 → y ≡ pos 0 → x +ℤ y ≡ pos 0
sum-none x y e f = omega (arith, ints)

constant-at : (gs : List Affine) (e : IndexExpr) (j : ℕ) → IsConstantExpr e → coef j (lowered gs e) ≡ pos 0
constant-at gs e j k = replaced-at (form_of e) e.iters gs j ∙ sum-none _ _ (k.params j) (gathered-none gs (λ i. get_or e.iters i (pos 0)) j k.iters)

constant-small : (gs : List Affine) (e : IndexExpr) → AreShifted (2 ^ 31) gs → IsConstantExpr e → unsigned_abs (lowered gs e).konst ≤ 2 ^ 31
constant-small gs e h k = no-more (weight e.iters) (2 ^ 31) (lowered gs e).konst (no-weight e.iters k.iters) (replaced-small (2 ^ 31) (2 ^ 31) (form_of e) e.iters gs h k.small)

pub constant-lowered : (gs : List Affine) (e : IndexExpr) → AreShifted (2 ^ 31) gs → IsConstantExpr e → IsShifted (2 ^ 31) (lowered gs e)
constant-lowered gs e h k = record { column = None; is = λ j. constant-at gs e j k; small = constant-small gs e h k }

-- the iterator of a loop in steps of 1
step-at : (x y z s : ℤ) → x ≡ pos 1 *ℤ y +ℤ pos 1 *ℤ z → y ≡ pos 0 → z ≡ s → x ≡ s
step-at x y z s e f g = omega (arith, ints)

step-small : (x : ℤ) (b : ℕ) → unsigned_abs x ≤ b → unsigned_abs (pos 1 *ℤ x +ℤ pos 1 *ℤ pos 0) ≤ b
step-small x b l = omega (arith, ints)

stepped : (gs : List Affine) (e : IndexExpr) (n : ℕ) → AreShifted (2 ^ 31) gs → IsConstantExpr e → IsShifted (2 ^ 31) (stepping (lowered gs e) (pos 1) n)
stepped gs e n h k = record {
  column = Some n;
  is = λ j. step-at (coef j (stepping (lowered gs e) (pos 1) n)) (coef j (lowered gs e)) (coef j (column_form (n + 1) n)) (one_in (Some n) j) (coef-combined j (pos 1) (lowered gs e) (pos 1) (column_form (n + 1) n)) (constant-at gs e j k) (column-coef (n + 1) n j);
  small = step-small (lowered gs e).konst (2 ^ 31) (constant-small gs e h k);
}

pub iterator-stepped : (gs : List Affine) (e : IndexExpr) (step : ℤ) (n : ℕ) → AreShifted (2 ^ 31) gs → IsConstantExpr e → step ≡ pos 1 → IsShifted (2 ^ 31) (stepping (lowered gs e) step n)
iterator-stepped gs e step n h k s = subst (λ (x : ℤ). IsShifted (2 ^ 31) (stepping (lowered gs e) x n)) (sym s) (stepped gs e n h k)
