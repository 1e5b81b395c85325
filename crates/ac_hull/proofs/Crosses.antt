-- Two lists crossed, column by column.
use Rattle.std.proofs.Common.{◌≡◌, ℕ, ◌+◌, ◌<◌, ◌≤◌, max, ℤ, pos, ◌+ℤ◌, ◌-ℤ◌, ◌*ℤ◌, neg_ℤ, List, [], ◌∷◌, ◌++◌, length, drop, get_or, arith, ◌∙◌, sym, ap, refl, to_z, of_z, append_assoc, add-zero, append-nil}
use Rattle.std.proofs.lemmas.List.{length-drop, get_or-drop, drop-drop, drop_all}
use Rattle.std.proofs.lemmas.Int.{ints}
use Rattle.ac_base.specs.Dot.{mix}
use Rattle.ac_base.proofs.Products.{neg-mul_ℤ}
use Rattle.ac_forms.specs.Fits.{Fits}
use Rattle.ac_hull.specs.EliminationRange.{CrossFits, AllCross}
use Rattle.std.specs.Int.{w128}
use Rattle.ac_base.proofs.Bits.{again_128}

-- where there is a column: the two numbers there, and the rest
pub record Heads (p : ℤ) (a : List ℤ) (r : ℤ) (b : List ℤ) (x y : ℤ) (ra rb : List ℤ) : Type 0 where
  pub is : mix p a (neg_ℤ r) b ≡ (p *ℤ x -ℤ r *ℤ y) ∷ mix p ra (neg_ℤ r) rb
  pub onward : AllCross p a r b → CrossFits p x r y × AllCross p ra r rb
  pub back : CrossFits p x r y → AllCross p ra r rb → AllCross p a r b

two : (p x r y : ℤ) → p *ℤ x +ℤ neg_ℤ r *ℤ y ≡ p *ℤ x -ℤ r *ℤ y
two p x r y = omega (arith, ints, neg-mul_ℤ r y)

right : (p x r : ℤ) → p *ℤ x ≡ p *ℤ x -ℤ r *ℤ pos 0
right p x r = omega (arith, ints)

left : (p r y : ℤ) → neg_ℤ r *ℤ y ≡ p *ℤ pos 0 -ℤ r *ℤ y
left p r y = omega (arith, ints, neg-mul_ℤ r y)

cross_head : (p : ℤ) (a : List ℤ) (r : ℤ) (b : List ℤ) → 0 < max (length a) (length b) → Heads p a r b (get_or a 0 (pos 0)) (get_or b 0 (pos 0)) (drop 1 a) (drop 1 b)
cross_head p [] r [] h = absurd (omega arith)
cross_head p [] r (y ∷ ys) h = record { is = ap (λ z. z ∷ mix p [] (neg_ℤ r) ys) (left p r y); onward = λ f. f; back = λ f g. (f, g) }
cross_head p (x ∷ xs) r [] h = record { is = ap (λ z. z ∷ mix p xs (neg_ℤ r) []) (right p x r); onward = λ f. f; back = λ f g. (f, g) }
cross_head p (x ∷ xs) r (y ∷ ys) h = record { is = ap (λ z. z ∷ mix p xs (neg_ℤ r) ys) (two p x r y); onward = λ f. f; back = λ f g. (f, g) }

pub cross_at : (p : ℤ) (a : List ℤ) (r : ℤ) (b : List ℤ) (i : ℕ) → i < max (length a) (length b)
    → Heads p (drop i a) r (drop i b) (get_or a i (pos 0)) (get_or b i (pos 0)) (drop (i + 1) a) (drop (i + 1) b)
cross_at p a r b i h =
    simp (get_or-drop, drop-drop, add-zero) at (cross_head p (drop i a) r (drop i b) (omega (arith, length-drop i a, length-drop i b)))

-- before column i: what is done, and what is left to do and to test
pub record CrossHalfway (p : ℤ) (a : List ℤ) (r : ℤ) (b : List ℤ) (done : List ℤ) (i : ℕ) : Type 0 where
  pub room : i ≤ max (length a) (length b)
  pub onward : AllCross p a r b → AllCross p (drop i a) r (drop i b)
  pub back : AllCross p (drop i a) r (drop i b) → AllCross p a r b
  pub value : mix p a (neg_ℤ r) b ≡ done ++ mix p (drop i a) (neg_ℤ r) (drop i b)

pub cross_start : (p : ℤ) (a : List ℤ) (r : ℤ) (b : List ℤ) → CrossHalfway p a r b [] 0
cross_start p a r b = record { room = omega arith; onward = λ f. f; back = λ f. f; value = refl }

pub cross_step : (p : ℤ) (a : List ℤ) (r : ℤ) (b : List ℤ) (done : List ℤ) (i : ℕ) → CrossHalfway p a r b done i → i < max (length a) (length b)
    → CrossFits p (get_or a i (pos 0)) r (get_or b i (pos 0))
    → CrossHalfway p a r b (done ++ (p *ℤ get_or a i (pos 0) -ℤ r *ℤ get_or b i (pos 0)) ∷ []) (i + 1)
cross_step p a r b done i h m f =
    let t = cross_at p a r b i m in
    record {
      room = omega arith;
      onward = λ all. (t.onward (h.onward all)).1;
      back = λ rest. h.back (t.back f rest);
      value = h.value ∙ ap (λ z. done ++ z) t.is ∙ sym (append_assoc done _ _);
    }

pub cross_fits : (p : ℤ) (a : List ℤ) (r : ℤ) (b : List ℤ) (done : List ℤ) (i : ℕ) → CrossHalfway p a r b done i → i < max (length a) (length b)
    → AllCross p a r b → CrossFits p (get_or a i (pos 0)) r (get_or b i (pos 0))
cross_fits p a r b done i h m all = ((cross_at p a r b i m).onward (h.onward all)).0

pub cross_end : (p : ℤ) (a : List ℤ) (r : ℤ) (b : List ℤ) (done : List ℤ) (i : ℕ) → CrossHalfway p a r b done i → max (length a) (length b) ≤ i
    → AllCross p a r b × (mix p a (neg_ℤ r) b ≡ done)
cross_end p a r b done i h m =
    let e = rw (drop_all i a (omega arith), drop_all i b (omega arith)) at h.value in
    (h.back (rw (drop_all i a (omega arith), drop_all i b (omega arith)) tt), e ∙ append-nil done)

-- the step with each number as the code hands it on, by its bits
abbrev again : ℤ → ℤ
again z = to_z w128 (of_z w128 z)

pub cross_made : (p : ℤ) (a : List ℤ) (r : ℤ) (b : List ℤ) (done : List ℤ) (i : ℕ) (x y z : ℤ) (new : List ℤ)
    → CrossHalfway (again p) a (again r) b done i → i < max (length a) (length b) → Fits p → Fits r → Fits x → Fits y → x ≡ get_or a i (pos 0) → y ≡ get_or b i (pos 0)
    → CrossFits (again p) (again x) (again r) (again y) × (z ≡ again p *ℤ again x -ℤ again r *ℤ again y)
    → new ≡ done ++ again z ∷ []
    → CrossHalfway (again p) a (again r) b new (i + 1)
cross_made p a r b done i x y z new h m fp fr fx fy ex ey made e =
    let t = rw (again_128 x fx, again_128 y fy, ex, ey) at made in
    let fz : Fits z = rw t.1 t.0.2 in
    rw (e, again_128 z fz, t.1) (cross_step (again p) a (again r) b done i h m t.0)

pub ruleset cross_steps = (again_128, cross_start, cross_step, cross_fits, cross_end)
