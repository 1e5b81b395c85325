-- A combination of two lists, column by column.
use Rattle.std.proofs.Common.{lit<, ◌≡◌, ℕ, ◌+◌, ◌<◌, ◌≤◌, max, ℤ, pos, ◌+ℤ◌, ◌*ℤ◌, List, [], ◌∷◌, ◌++◌, length, drop, get_or, arith, ◌∙◌, sym, ap, refl, to_z, of_z, append_assoc, add-zero, append-nil}
use Rattle.std.proofs.lemmas.List.{length-drop, get_or-drop, drop-drop, drop_all}
use Rattle.std.proofs.lemmas.Int.{ints}
use Rattle.ac_base.specs.Dot.{mix}
use Rattle.ac_forms.specs.Fits.{Fits, AllFit}
use Rattle.ac_forms.specs.Affine.{mix_numbers, MixFits}
use Rattle.std.specs.Int.{w128}
use Rattle.ac_base.proofs.Bits.{again_128}

Fits_0 : Fits (pos 0)
Fits_0 = record { sfits = lit< tt }

-- where a form has a column: the two coefficients there, and the rest
pub record Heads (k : ℤ) (a : List ℤ) (l : ℤ) (b : List ℤ) (x y : ℤ) (ra rb : List ℤ) : Type 0 where
  pub is : mix k a l b ≡ (k *ℤ x +ℤ l *ℤ y) ∷ mix k ra l rb
  pub onward : AllFit (mix_numbers k a l b) → MixFits k x l y × AllFit (mix_numbers k ra l rb)
  pub back : MixFits k x l y → AllFit (mix_numbers k ra l rb) → AllFit (mix_numbers k a l b)

zero_right : (x k l : ℤ) → k *ℤ x ≡ k *ℤ x +ℤ l *ℤ pos 0
zero_right x k l = omega (arith, ints)

zero_left : (y k l : ℤ) → l *ℤ y ≡ k *ℤ pos 0 +ℤ l *ℤ y
zero_left y k l = omega (arith, ints)

zero_fits : (k : ℤ) → Fits (k *ℤ pos 0)
zero_fits k = let e : k *ℤ pos 0 ≡ pos 0 = omega (arith, ints) in rw e Fits_0

mix_head : (k : ℤ) (a : List ℤ) (l : ℤ) (b : List ℤ) → 0 < max (length a) (length b) → Heads k a l b (get_or a 0 (pos 0)) (get_or b 0 (pos 0)) (drop 1 a) (drop 1 b)
mix_head k [] l [] h = absurd (omega arith)
mix_head k [] l (y ∷ ys) h = record {
  is = ap (λ z. z ∷ mix k [] l ys) (zero_left y k l);
  onward = λ f. ((zero_fits k, f.0, rw (← (zero_left y k l)) f.0), f.1);
  back = λ f g. (f.1, g);
}
mix_head k (x ∷ xs) l [] h = record {
  is = ap (λ z. z ∷ mix k xs l []) (zero_right x k l);
  onward = λ f. ((f.0, zero_fits l, rw (← (zero_right x k l)) f.0), f.1);
  back = λ f g. (f.0, g);
}
mix_head k (x ∷ xs) l (y ∷ ys) h = record { is = refl; onward = λ f. ((f.0, f.1.0, f.1.1.0), f.1.1.1); back = λ f g. (f.0, (f.1, (f.2, g))) }

pub mix_at : (k : ℤ) (a : List ℤ) (l : ℤ) (b : List ℤ) (i : ℕ) → i < max (length a) (length b)
    → Heads k (drop i a) l (drop i b) (get_or a i (pos 0)) (get_or b i (pos 0)) (drop (i + 1) a) (drop (i + 1) b)
mix_at k a l b i h =
    simp (get_or-drop, drop-drop, add-zero) at (mix_head k (drop i a) l (drop i b) (omega (arith, length-drop i a, length-drop i b)))

-- before column i: what is done, and what is left to do and to test
pub record MixHalfway (k : ℤ) (a : List ℤ) (l : ℤ) (b : List ℤ) (done : List ℤ) (i : ℕ) : Type 0 where
  pub room : i ≤ max (length a) (length b)
  pub onward : AllFit (mix_numbers k a l b) → AllFit (mix_numbers k (drop i a) l (drop i b))
  pub back : AllFit (mix_numbers k (drop i a) l (drop i b)) → AllFit (mix_numbers k a l b)
  pub value : mix k a l b ≡ done ++ mix k (drop i a) l (drop i b)

pub mix_start : (k : ℤ) (a : List ℤ) (l : ℤ) (b : List ℤ) → MixHalfway k a l b [] 0
mix_start k a l b = record { room = omega arith; onward = λ f. f; back = λ f. f; value = refl }

pub mix_step : (k : ℤ) (a : List ℤ) (l : ℤ) (b : List ℤ) (done : List ℤ) (i : ℕ) → MixHalfway k a l b done i → i < max (length a) (length b)
    → MixFits k (get_or a i (pos 0)) l (get_or b i (pos 0))
    → MixHalfway k a l b (done ++ (k *ℤ get_or a i (pos 0) +ℤ l *ℤ get_or b i (pos 0)) ∷ []) (i + 1)
mix_step k a l b done i h m f =
    let t = mix_at k a l b i m in
    record {
      room = omega arith;
      onward = λ all. (t.onward (h.onward all)).1;
      back = λ rest. h.back (t.back f rest);
      value = h.value ∙ ap (λ r. done ++ r) t.is ∙ sym (append_assoc done _ _);
    }

pub mix_fits : (k : ℤ) (a : List ℤ) (l : ℤ) (b : List ℤ) (done : List ℤ) (i : ℕ) → MixHalfway k a l b done i → i < max (length a) (length b)
    → AllFit (mix_numbers k a l b) → MixFits k (get_or a i (pos 0)) l (get_or b i (pos 0))
mix_fits k a l b done i h m all = ((mix_at k a l b i m).onward (h.onward all)).0

pub mix_end : (k : ℤ) (a : List ℤ) (l : ℤ) (b : List ℤ) (done : List ℤ) (i : ℕ) → MixHalfway k a l b done i → max (length a) (length b) ≤ i
    → AllFit (mix_numbers k a l b) × (mix k a l b ≡ done)
mix_end k a l b done i h m =
    let e = rw (drop_all i a (omega arith), drop_all i b (omega arith)) at h.value in
    (h.back (rw (drop_all i a (omega arith), drop_all i b (omega arith)) tt), e ∙ append-nil done)

-- the step with each number as the code hands it on, by its bits
abbrev again : ℤ → ℤ
again z = to_z w128 (of_z w128 z)

pub mix_made : (k : ℤ) (a : List ℤ) (l : ℤ) (b : List ℤ) (done : List ℤ) (i : ℕ) (x y z : ℤ) (new : List ℤ)
    → MixHalfway (again k) a (again l) b done i → i < max (length a) (length b) → Fits k → Fits l → Fits x → Fits y → x ≡ get_or a i (pos 0) → y ≡ get_or b i (pos 0)
    → MixFits (again k) (again x) (again l) (again y) × (z ≡ again k *ℤ again x +ℤ again l *ℤ again y)
    → new ≡ done ++ again z ∷ []
    → MixHalfway (again k) a (again l) b new (i + 1)
mix_made k a l b done i x y z new h m fk fl fx fy ex ey made e =
    let t = rw (again_128 x fx, again_128 y fy, ex, ey) at made in
    let fz : Fits z = rw t.1 t.0.2 in
    rw (e, again_128 z fz, t.1) (mix_step (again k) a (again l) b done i h m t.0)

pub ruleset mix_steps = (again_128, mix_start, mix_step, mix_fits, mix_end)
