-- Forms at combinations of points: what all the points meet, their combination meets.
use Rattle.std.proofs.Common.{◌≡◌, inl, inr, zero, suc, ℤ, pos, negsuc, ◌+ℤ◌, ◌*ℤ◌, List, [], ◌∷◌, length, refl, ap, sym, ◌∙◌, arith}
use Rattle.std.proofs.lemmas.Int.{ints}
use Rattle.ac_base.specs.Dot.{dot, mix}
use Rattle.ac_base.proofs.Dot.{dot-mix, dot-nil}
use Rattle.ac_base.proofs.Residues.{zero_factor}
use Rattle.ac_base.proofs.Ring.{ring_steps, same_diff, by_diff_4}
use Rattle.ac_base.proofs.Products.{mul_comm_ℤ, mul-add_ℤ, add-mul_ℤ, neg-mul_ℤ}
use Rattle.ac_forms.specs.Affine.{Affine, value_at}
use Rattle.ac_forms.specs.Rows.{Holds, Meets}
use Rattle.ac_forms.specs.declared.row.Row.{Row}
use Rattle.ac_forms.specs.declared.row.Row.TheVariants.{Eq}
use Rattle.ac_forms.specs.ListMembers.{IsAmong}
use Rattle.ac_widen.specs.Combinations.{blend, total, times, IsCombination, Each}
use Rattle.ac_widen.specs.Obligations.{BrokenBy}
use Rattle.ac_widen.specs.Claims.{IsClaimRow}
use Rattle.ac_widen.proofs.Tests.{holds_or}

pub dot_comm : (a b : List ℤ) → dot a b ≡ dot b a
dot_comm [] [] = refl
dot_comm [] (y ∷ ys) = refl
dot_comm (x ∷ xs) [] = refl
dot_comm (x ∷ xs) (y ∷ ys) = rw (dot_comm xs ys, mul_comm_ℤ x y) refl

-- the dot product is linear in the point
pub dot-mix_point : (cs : List ℤ) (k : ℤ) (p : List ℤ) (l : ℤ) (q : List ℤ) → dot cs (mix k p l q) ≡ k *ℤ dot cs p +ℤ l *ℤ dot cs q
dot-mix_point cs k p l q = rw (dot_comm cs (mix k p l q), dot_comm cs p, dot_comm cs q) (dot-mix k p l q cs)

pub dot-times : (cs : List ℤ) (m : ℤ) (q : List ℤ) → dot cs (times m q) ≡ m *ℤ dot cs q
dot-times [] m q = omega (arith, ints)
dot-times (c ∷ cs) m [] = omega (arith, ints)
dot-times (c ∷ cs) m (x ∷ q) = rw (dot-times cs m q) (head c m x (dot cs q))
  where
    head : (c m x d : ℤ) → c *ℤ (m *ℤ x) +ℤ m *ℤ d ≡ m *ℤ (c *ℤ x +ℤ d)
    head = by_diff_4 (λ c m x d. c *ℤ (m *ℤ x) +ℤ m *ℤ d ≡ m *ℤ (c *ℤ x +ℤ d)) (λ a a' b b' c c' d d'. simp ring_steps (same_diff _ _ _ _ (omega arith)))

-- the values of a form at the points, each times its weight
blended : (f : Affine) (ws : List ℤ) (ps : List (List ℤ)) → length ws ≡ length ps → Each (λ p. value_at f p ≡ pos 0) ps → dot f.coefs (blend ws ps) +ℤ total ws *ℤ f.konst ≡ pos 0
blended f [] [] l h = rw (dot-nil f.coefs) (omega (arith, ints))
blended f [] (p ∷ ps) l h = absurd (omega arith)
blended f (w ∷ ws) [] l h = absurd (omega arith)
blended f (w ∷ ws) (p ∷ ps) l h =
    rw (dot-mix_point f.coefs w p (pos 1) (blend ws ps), add-mul_ℤ w (total ws) f.konst)
    (let e = blended f ws ps (omega arith) h.1 in
    let g : w *ℤ (dot f.coefs p +ℤ f.konst) ≡ w *ℤ pos 0 = ap (λ v. w *ℤ v) h.0 in
    let d = mul-add_ℤ w (dot f.coefs p) f.konst in
    omega (arith, ints, e, g, d))

pub no_divisor : (m x : ℤ) → ¬ (m ≡ pos 0) → m *ℤ x ≡ pos 0 → x ≡ pos 0
no_divisor (pos zero) x n e = absurd (n refl)
no_divisor (pos (suc k)) x n e = zero_factor (suc k) x (omega arith) e
no_divisor (negsuc k) x n e = zero_factor (suc k) x (omega arith) (omega (arith, ints, neg-mul_ℤ (pos (suc k)) x, e))

-- an equality that holds at the points holds at their combination
pub equality_combined : (f : Affine) (q : List ℤ) (m : ℤ) (ws : List ℤ) (ps : List (List ℤ)) → IsCombination q m ws ps → Each (λ p. value_at f p ≡ pos 0) ps → value_at f q ≡ pos 0
equality_combined f q m ws ps c h =
    let a = blended f ws ps c.lengths h in
    let b : dot f.coefs (blend ws ps) ≡ m *ℤ dot f.coefs q = ap (dot f.coefs) (sym c.point) ∙ dot-times f.coefs m q in
    let d : total ws *ℤ f.konst ≡ m *ℤ f.konst = ap (λ t. t *ℤ f.konst) c.sum in
    no_divisor m (value_at f q) c.nonzero (omega (arith, ints, a, b, d, mul-add_ℤ m (dot f.coefs q) f.konst))

pub first_of_some : (q : List ℤ) (m : ℤ) (ws : List ℤ) → ¬ (IsCombination q m ws [])
first_of_some q m [] c = c.nonzero (sym c.sum)
first_of_some q m (w ∷ ws) c = absurd (omega (arith, c.lengths))

pub each_map : {A : Type 0} (P Q : A → Type 0) (xs : List A) → ((x : A) → P x → Q x) → Each P xs → Each Q xs
each_map P Q [] f h = tt
each_map P Q (x ∷ xs) f h = (f x h.0, each_map P Q xs f h.1)

pub each_among : {A : Type 0} (P : A → Type 0) (x : A) (xs : List A) → Each P xs → IsAmong x xs → P x
each_among P x [] h a = absurd a
each_among P x (y ∷ ys) h (inl e) = rw e h.0
each_among P x (y ∷ ys) h (inr a) = each_among P x ys h.1 a

-- a row of a claim that all members meet holds at what the hull rule adds
row_combined : (template : List Row) (r : Row) (q : List ℤ) (m : ℤ) (ws : List ℤ) (ps bs : List (List ℤ)) → IsCombination q m ws ps → BrokenBy template bs q
    → IsClaimRow template r → Each (Holds r) ps → Each (Holds r) bs → Holds r q
row_combined template r q m ws ps bs c b (inl e) h g =
    let hs : Each (Holds (Eq e.0)) ps = rw e.1 at h in
    rw e.1 (equality_combined e.0 q m ws ps c hs)
row_combined template r q m ws ps bs c b (inr (inl a)) h g =
    elim (holds_or r q) [
      | inl y ↦ y
      | inr n ↦ absurd ((b r a n).2 (each_among (Holds r) (b r a n).0 bs g (b r a n).1))
    ]
row_combined template r q m ws [] bs c b (inr (inr none)) h g = absurd (first_of_some q m ws c)
row_combined template r q m ws (p ∷ ps) bs c b (inr (inr none)) h g = absurd (none p h.0)

-- a claim that all members meet is met by what the hull rule adds
pub meets_combined : (template rows : List Row) (q : List ℤ) (m : ℤ) (ws : List ℤ) (ps bs : List (List ℤ)) → IsCombination q m ws ps → BrokenBy template bs q
    → Each (IsClaimRow template) rows → Each (Meets rows) ps → Each (Meets rows) bs → Meets rows q
meets_combined template [] q m ws ps bs c b k h g = tt
meets_combined template (r ∷ rs) q m ws ps bs c b k h g = (
  row_combined template r q m ws ps bs c b k.0 (each_map (Meets (r ∷ rs)) (Holds r) ps (λ p t. t.0) h) (each_map (Meets (r ∷ rs)) (Holds r) bs (λ p t. t.0) g),
  meets_combined template rs q m ws ps bs c b k.1 (each_map (Meets (r ∷ rs)) (Meets rs) ps (λ p t. t.1) h) (each_map (Meets (r ∷ rs)) (Meets rs) bs (λ p t. t.1) g),
)
