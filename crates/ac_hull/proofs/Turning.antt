-- The numbers that are read off a row, one by one.
use Rattle.std.proofs.Common.{◌≡◌, add-one, ℕ, zero, suc, ◌+◌, ◌<◌, ◌≤◌, ℤ, pos, negsuc, ◌-ℤ◌, neg_ℤ, ◌<ℤ◌, ◌≤ℤ◌, List, [], ◌∷◌, ◌++◌, length, map, take, drop, get_or, refl, ap, sym, ◌∙◌, arith, to_z, of_z}
use Rattle.std.proofs.lemmas.Int.{ints}
use Rattle.std.proofs.lemmas.List.{drop_more, drop_all}
use Rattle.std.specs.Int.{w128}
use Rattle.ac_base.proofs.Bits.{again_128}
use Rattle.std.specs.Prelude.{Result, Ok, Err, IsErrAnd}
use Rattle.ac_forms.specs.Fits.{Fits, AllFit}
use Rattle.ac_forms.specs.FormStops.{MadeWhere}
use Rattle.ac_forms.specs.declared.stop.FormStop.{FormStop}
use Rattle.ac_forms.specs.declared.stop.FormStop.TheVariants.{Wide}
use Rattle.ac_forms.proofs.Signs.{AllFit-append}
use Rattle.ac_widen.specs.Combinations.{total}
use Rattle.ac_hull.specs.Hulls.{turned}
use Rattle.ac_hull.specs.EliminationRange.{differences_from}

pub turned_low : (t w : ℤ) → t <ℤ pos 0 → turned t w ≡ w
turned_low (pos t) w h = absurd (omega (arith, ints))
turned_low (negsuc t) w h = refl

pub turned_high : (t w : ℤ) → pos 0 ≤ℤ t → turned t w ≡ neg_ℤ w
turned_high (pos t) w h = refl
turned_high (negsuc t) w h = absurd (omega (arith, ints))

pub ruleset turn_steps = (turned_low, turned_high, again_128)

take_more_map : (f : ℤ → ℤ) (xs : List ℤ) (i : ℕ) → i < length xs → map f (take (i + 1) xs) ≡ map f (take i xs) ++ f (get_or xs i (pos 0)) ∷ []
take_more_map f xs i h = rw add-one (by_index xs i h)
  where
    by_index : (xs : List ℤ) (i : ℕ) → i < length xs → map f (take (suc i) xs) ≡ map f (take i xs) ++ f (get_or xs i (pos 0)) ∷ []
    by_index [] i h = absurd (omega arith)
    by_index (x ∷ xs) zero h = refl
    by_index (x ∷ xs) (suc i) h = ap (λ t. f x ∷ t) (by_index xs i (omega arith))

pub record TurnHalfway (t : ℤ) (xs made : List ℤ) (i : ℕ) : Type 0 where
  pub fits : AllFit (map (turned t) (take i xs))
  pub value : made ≡ map (turned t) (take i xs)

pub turn_start : (t : ℤ) (xs : List ℤ) → TurnHalfway t xs [] 0
turn_start t xs = record { fits = tt; value = refl }

pub turn_step : (t : ℤ) (xs made new : List ℤ) (i : ℕ) → TurnHalfway t xs made i → i < length xs → Fits (turned t (get_or xs i (pos 0))) → new ≡ made ++ turned t (get_or xs i (pos 0)) ∷ [] → TurnHalfway t xs new (i + 1)
turn_step t xs made new i h l f e =
    let m = take_more_map (turned t) xs i l in
    record {
      fits = rw m ((AllFit-append (map (turned t) (take i xs)) (turned t (get_or xs i (pos 0)) ∷ [])).1 (h.fits, (f, tt)));
      value = e ∙ ap (λ z. z ++ turned t (get_or xs i (pos 0)) ∷ []) h.value ∙ sym m;
    }

fit_at : (f : ℤ → ℤ) (xs : List ℤ) (n i : ℕ) → i < n → n ≤ length xs → AllFit (map f (take n xs)) → Fits (f (get_or xs i (pos 0)))
fit_at f xs zero i h l a = absurd (omega arith)
fit_at f [] (suc n) i h l a = absurd (omega arith)
fit_at f (x ∷ xs) (suc n) zero h l a = a.0
fit_at f (x ∷ xs) (suc n) (suc i) h l a = fit_at f xs n i (omega arith) (omega arith) a.1

pub turn_fails : (t : ℤ) (xs : List ℤ) (n i : ℕ) → i < n → n ≤ length xs → ¬ (Fits (turned t (get_or xs i (pos 0)))) → ¬ (AllFit (map (turned t) (take n xs)))
turn_fails t xs n i h l f a = f (fit_at (turned t) xs n i h l a)

-- a number that does not fit, handed on
pub wide_made : {T : Type 0} (r : Result T FormStop) (P : Type 0) (Q : T → Type 0) → IsErrAnd r (λ e. e ≡ Wide) → ¬ P → MadeWhere r P Q
wide_made (Ok x) P Q h n = absurd h
wide_made (Err e) P Q h n = rw h n

pub ruleset turn_all_steps = (turn_start, turn_fails, again_128)

-- a number as the code hands it on, by its bits
abbrev again : ℤ → ℤ
again z = to_z w128 (of_z w128 z)

pub turn_made : (t : ℤ) (xs made new : List ℤ) (i : ℕ) (y : ℤ) → TurnHalfway (again t) xs made i → i < length xs → Fits (get_or xs i (pos 0))
    → Fits (turned (again t) (again (get_or xs i (pos 0)))) × (y ≡ turned (again t) (again (get_or xs i (pos 0)))) → new ≡ made ++ again y ∷ [] → TurnHalfway (again t) xs new (i + 1)
turn_made t xs made new i y h l fx m e =
    let a = rw (again_128 _ fx) at m in
    let fy : Fits y = rw a.1 a.0 in
    turn_step (again t) xs made new i h l a.0 (rw (e, again_128 y fy, a.1) refl)

pub record LessHalfway (m : ℤ) (xs : List ℤ) (left : ℤ) (i : ℕ) : Type 0 where
  pub room : i ≤ length xs
  pub onward : AllFit (differences_from m xs) → AllFit (differences_from left (drop i xs))
  pub back : AllFit (differences_from left (drop i xs)) → AllFit (differences_from m xs)
  pub value : m -ℤ total xs ≡ left -ℤ total (drop i xs)

pub less_start : (m : ℤ) (xs : List ℤ) → LessHalfway m xs m 0
less_start m xs = record { room = omega arith; onward = λ f. f; back = λ f. f; value = refl }

pub less_step : (m : ℤ) (xs : List ℤ) (left : ℤ) (i : ℕ) → LessHalfway m xs left i → i < length xs → Fits (left -ℤ get_or xs i (pos 0)) → LessHalfway m xs (left -ℤ get_or xs i (pos 0)) (i + 1)
less_step m xs left i h l f =
    let d = drop_more xs i (pos 0) l in
    record {
      room = omega arith;
      onward = λ a. (rw d at (h.onward a)).1;
      back = λ a. h.back (rw d (f, a));
      value = let e = rw d at h.value in omega (arith, ints, e);
    }

pub less_fails : (m : ℤ) (xs : List ℤ) (left : ℤ) (i : ℕ) → LessHalfway m xs left i → i < length xs → ¬ (Fits (left -ℤ get_or xs i (pos 0))) → ¬ (AllFit (differences_from m xs))
less_fails m xs left i h l f a = f (rw (drop_more xs i (pos 0) l) at (h.onward a)).0

pub less_end : (m : ℤ) (xs : List ℤ) (left : ℤ) (i : ℕ) → LessHalfway m xs left i → length xs ≤ i → AllFit (differences_from m xs) × (left ≡ m -ℤ total xs)
less_end m xs left i h l = (h.back (rw (drop_all i xs l) tt), let e = rw (drop_all i xs l) at h.value in omega (arith, ints, e))

pub ruleset less_steps = (less_start, less_fails, less_end, again_128)

pub less_made : (m : ℤ) (xs : List ℤ) (left next : ℤ) (i : ℕ) → LessHalfway m xs left i → i < length xs → Fits (get_or xs i (pos 0))
    → Fits (left -ℤ again (get_or xs i (pos 0))) × (next ≡ left -ℤ again (get_or xs i (pos 0))) → LessHalfway m xs (again next) (i + 1)
less_made m xs left next i h l fx a =
    let b = rw (again_128 _ fx) at a in
    let fn : Fits next = rw b.1 b.0 in
    rw (again_128 next fn, b.1) (less_step m xs left i h l b.0)
