-- Sites by their numbers: the orders of a list of sites are lists of orders.
use Rattle.std.proofs.Common.{◌≡◌, ◌↔◌, inl, inr, ℕ, zero, suc, ◌+◌, ◌<◌, ◌≤◌, List, [], ◌∷◌, ◌++◌, length, map, zip, drop, get_or, Some, refl, ap, sym, ◌∙◌, arith, append_assoc, append-nil}
use Rattle.std.specs.Prelude.{slice_get}
use Rattle.std.proofs.lemmas.List.{drop_more, drop_all}
use Rattle.ac_syntax.specs.declared.tree.Order.{Order}
use Rattle.ac_syntax.specs.declared.tree.Site.{Site}
use Rattle.ac_match.specs.declared.look.Choice.{Choice}
use Rattle.ac_match.specs.declared.orders.Refuted.{Refuted}
use Rattle.ac_match.specs.MatchInternals.Numbers.{IsPlace, AreNumbered, AllNumbered}
use Rattle.ac_match.specs.MatchInternals.Search.{SomeExtended, NoneExtended, Extends as ExtendsByNumber}
use Rattle.ac_match.specs.SiteOrders.{IsOrderOf, HasOrder, Extends, ExtendsRefuted}

-- before place i: the site stands at none of the places before it
pub record PlaceHalfway (sites : List Site) (s : Site) (i : ℕ) : Type 0 where
  pub room : i ≤ length sites
  pub onward : (n : ℕ) → IsPlace (drop i sites) s n → IsPlace sites s (i + n)

pub place_start : (sites : List Site) (s : Site) → PlaceHalfway sites s 0
place_start sites s = record { room = omega arith; onward = λ n h. let t : 0 + n ≡ n = omega arith in rw t h }

pub place_step : (sites : List Site) (s : Site) (i : ℕ) (x : Site) → PlaceHalfway sites s i → i < length sites → ¬ (get_or sites i x ≡ s) → PlaceHalfway sites s (i + 1)
place_step sites s i x h l n =
    let d : drop i sites ≡ get_or sites i x ∷ drop (i + 1) sites = drop_more sites i x l in
    record {
      room = omega arith;
      onward = λ k p. let w : IsPlace (drop i sites) s (suc k) = rw d (n, p) in let t : i + suc k ≡ (i + 1) + k = omega arith in rw t at (h.onward (suc k) w);
    }

pub place_found : (sites : List Site) (s : Site) (i : ℕ) (x : Site) → PlaceHalfway sites s i → i < length sites → get_or sites i x ≡ s → IsPlace sites s i
place_found sites s i x h l is =
    let d : drop i sites ≡ get_or sites i x ∷ drop (i + 1) sites = drop_more sites i x l in
    let w : IsPlace (drop i sites) s 0 = rw d is in
    let t : i + 0 ≡ i = omega arith in
    rw t at (h.onward 0 w)

pub place_end : (sites : List Site) (s : Site) (i : ℕ) → PlaceHalfway sites s i → length sites ≤ i → IsPlace sites s i
place_end sites s i h l =
    let w : IsPlace (drop i sites) s 0 = rw (drop_all i sites l) tt in
    let t : i + 0 ≡ i = omega arith in
    rw t at (h.onward 0 w)

pub ruleset place_steps = (place_start, place_step, place_found, place_end)

-- before choice i: those before it are numbered
pub record NumberedHalfway (sites : List Site) (partial : List (Site × Order)) (choices : List Choice) (i : ℕ) : Type 0 where
  pub room : i ≤ length partial
  pub onward : (rest : List Choice) → AreNumbered sites (drop i partial) rest → AreNumbered sites partial (choices ++ rest)

pub numbered_start : (sites : List Site) (partial : List (Site × Order)) → NumberedHalfway sites partial [] 0
numbered_start sites partial = record { room = omega arith; onward = λ rest h. h }

pub numbered_step : (sites : List Site) (partial : List (Site × Order)) (choices new : List Choice) (i : ℕ) (c : Site × Order) (n : Choice) → NumberedHalfway sites partial choices i → i < length partial → c ≡ get_or partial i c
    → IsPlace sites c.0 n.site → n.order ≡ c.1 → new ≡ choices ++ n ∷ [] → NumberedHalfway sites partial new (i + 1)
numbered_step sites partial choices new i c n h l e p o is =
    let d : drop i partial ≡ c ∷ drop (i + 1) partial = rw e (drop_more partial i c l) in
    record {
      room = omega arith;
      onward = λ rest a.
          let w : AreNumbered sites (drop i partial) (n ∷ rest) = rw d (p, o, a) in
          let t : new ++ rest ≡ choices ++ n ∷ rest = ap (λ v. v ++ rest) is ∙ append_assoc choices (n ∷ []) rest in
          rw t (h.onward (n ∷ rest) w);
    }

pub numbered_end : (sites : List Site) (partial : List (Site × Order)) (choices : List Choice) (i : ℕ) → NumberedHalfway sites partial choices i → length partial ≤ i → AreNumbered sites partial choices
numbered_end sites partial choices i h l = rw (append-nil choices) at (h.onward [] (rw (drop_all i partial l) tt))

pub ruleset numbered_steps = (numbered_start, numbered_step, numbered_end)

-- before site i: those before it stand with their orders
pub record ZippedHalfway (sites : List Site) (orders : List Order) (chosen : List (Site × Order)) (i : ℕ) : Type 0 where
  pub room : i ≤ length sites
  pub value : zip sites orders ≡ chosen ++ zip (drop i sites) (drop i orders)

pub zipped_start : (sites : List Site) (orders : List Order) → ZippedHalfway sites orders [] 0
zipped_start sites orders = record { room = omega arith; value = refl }

pub zipped_step : (sites : List Site) (orders : List Order) (chosen new : List (Site × Order)) (i : ℕ) (s : Site) (o : Order) → ZippedHalfway sites orders chosen i → i < length sites → i < length orders
    → s ≡ get_or sites i s → o ≡ get_or orders i o → new ≡ chosen ++ (s, o) ∷ [] → ZippedHalfway sites orders new (i + 1)
zipped_step sites orders chosen new i s o h l m e f is =
    let d : drop i sites ≡ s ∷ drop (i + 1) sites = rw e (drop_more sites i s l) in
    let g : drop i orders ≡ o ∷ drop (i + 1) orders = rw f (drop_more orders i o m) in
    record {
      room = omega arith;
      value = h.value ∙ ap (λ v. chosen ++ zip v (drop i orders)) d ∙ ap (λ v. chosen ++ zip (s ∷ drop (i + 1) sites) v) g ∙ sym (append_assoc chosen ((s, o) ∷ []) (zip (drop (i + 1) sites) (drop (i + 1) orders))) ∙ ap (λ v. v ++ zip (drop (i + 1) sites) (drop (i + 1) orders)) (sym is);
    }

pub zipped_end : (sites : List Site) (orders : List Order) (chosen : List (Site × Order)) (i : ℕ) → ZippedHalfway sites orders chosen i → length sites ≤ i → chosen ≡ zip sites orders
zipped_end sites orders chosen i h l =
    let e : zip (drop i sites) (drop i orders) ≡ [] = ap (λ v. zip v (drop i orders)) (drop_all i sites l) in
    sym (h.value ∙ ap (λ v. chosen ++ v) e ∙ append-nil chosen)

pub ruleset zipped_steps = (zipped_start, zipped_step, zipped_end)

-- a list that lost its last item again
pub popped : {A : Type 0} (xs ys : List A) (x y : A) → xs ++ x ∷ [] ≡ ys ++ y ∷ [] → ys ≡ xs
popped [] [] x y e = refl
popped [] (z ∷ []) x y e = absurd (omega (arith, ap length e))
popped [] (z ∷ w ∷ ys) x y e = absurd (omega (arith, ap length e))
popped (z ∷ []) [] x y e = absurd (omega (arith, ap length e))
popped (z ∷ w ∷ xs) [] x y e = absurd (omega (arith, ap length e))
popped (z ∷ xs) (w ∷ ys) x y e = let a : z ≡ w = cc in let b : xs ++ x ∷ [] ≡ ys ++ y ∷ [] = cc in rw (a, popped xs ys x y b) refl

-- an order of the sites has a site's order at the site's place
has_at : (sites : List Site) (os : List Order) (s : Site) (n : ℕ) (o : Order) → length os ≡ length sites → IsPlace sites s n → HasOrder (zip sites os) s o ↔ (slice_get os n ≡ Some o)
has_at [] [] s n o l p = ((λ h. absurd h), (λ e. absurd cc))
has_at [] (q ∷ os) s n o l p = absurd (omega (arith, l))
has_at (x ∷ sites) [] s n o l p = absurd (omega (arith, l))
has_at (x ∷ sites) (q ∷ os) s zero o l p = (
  (λ h. elim h [ inl e ↦ ap (λ (v : Order). Some v) e.1 | inr e ↦ absurd (e.0 p) ]),
  (λ e. inl (p, (let g : Some q ≡ Some o = e in cc))),
)
has_at (x ∷ sites) (q ∷ os) s (suc n) o l p =
    let r = has_at sites os s n o (omega (arith, l)) p.1 in (
      (λ h. elim h [ inl e ↦ absurd (p.0 e.0) | inr e ↦ r.0 e.1 ]),
      (λ e. inr (p.0, r.1 e)),
    )

extends_at : (sites : List Site) (os : List Order) (cs : List (Site × Order)) (ns : List Choice) → length os ≡ length sites → AreNumbered sites cs ns → Extends (zip sites os) cs ↔ ExtendsByNumber os ns
extends_at sites os [] [] l h = ((λ _. tt), (λ _. tt))
extends_at sites os [] (n ∷ ns) l h = absurd h
extends_at sites os (c ∷ cs) [] l h = absurd h
extends_at sites os (c ∷ cs) (n ∷ ns) l h =
    let a = has_at sites os c.0 n.site c.1 l h.0 in
    let r = extends_at sites os cs ns l h.2 in (
      (λ x. (rw h.1 (a.0 x.0), r.0 x.1)),
      (λ x. (a.1 (rw h.1 at x.0), r.1 x.1)),
    )

-- an order extends a refuted one exactly where it does by the numbers
pub refuted_at : (sites : List Site) (os : List Order) (rs : List Refuted) (ns : List (List Choice)) → length os ≡ length sites → AllNumbered sites rs ns → ExtendsRefuted (zip sites os) rs ↔ SomeExtended os ns
refuted_at sites os [] [] l h = ((λ x. x), (λ x. x))
refuted_at sites os [] (n ∷ ns) l h = absurd h
refuted_at sites os (r ∷ rs) [] l h = absurd h
refuted_at sites os (r ∷ rs) (n ∷ ns) l h =
    let a = extends_at sites os r.partial n l h.0 in
    let b = refuted_at sites os rs ns l h.1 in (
      (λ x. elim x [ inl e ↦ inl (a.0 e) | inr e ↦ inr (b.0 e) ]),
      (λ x. elim x [ inl e ↦ inl (a.1 e) | inr e ↦ inr (b.1 e) ]),
    )

pub none_some : (os : List Order) (ns : List (List Choice)) → NoneExtended os ns → ¬ (SomeExtended os ns)
none_some os [] h s = s
none_some os (n ∷ ns) h (inl e) = h.0 e
none_some os (n ∷ ns) h (inr e) = none_some os ns h.1 e

-- lists of orders and orders of the sites are the same
pub zip_order : (sites : List Site) (os : List Order) → length os ≡ length sites → IsOrderOf sites (zip sites os)
zip_order [] [] l = refl
zip_order [] (o ∷ os) l = absurd (omega (arith, l))
zip_order (s ∷ sites) [] l = absurd (omega (arith, l))
zip_order (s ∷ sites) (o ∷ os) l = ap (λ t. s ∷ t) (zip_order sites os (omega (arith, l)))

order_zip : (chosen : List (Site × Order)) → zip (map (λ c. c.0) chosen) (map (λ c. c.1) chosen) ≡ chosen
order_zip [] = refl
order_zip (c ∷ cs) = ap (λ t. c ∷ t) (order_zip cs)

orders_length : (chosen : List (Site × Order)) → length (map (λ c. c.1) chosen) ≡ length (map (λ c. c.0) chosen)
orders_length [] = refl
orders_length (c ∷ cs) = omega (arith, orders_length cs)

-- where each list of orders extends one by the numbers, each order of the sites extends a refuted one
pub all_refuted : (sites : List Site) (rs : List Refuted) (ns : List (List Choice)) → AllNumbered sites rs ns → ((os : List Order) → length os ≡ length sites → SomeExtended os ns)
    → (chosen : List (Site × Order)) → IsOrderOf sites chosen → ExtendsRefuted chosen rs
all_refuted sites rs ns h all chosen is =
    let os = map (λ (c : Site × Order). c.1) chosen in
    let l : length os ≡ length sites = orders_length chosen ∙ ap length is in
    let z : zip sites os ≡ chosen = rw (← is) (order_zip chosen) in
    rw z at ((refuted_at sites os rs ns l h).1 (all os l))

-- and one that extends none by the numbers extends none
pub none_refuted : (sites : List Site) (rs : List Refuted) (ns : List (List Choice)) (os : List Order) → AllNumbered sites rs ns → length os ≡ length sites → NoneExtended os ns → ¬ (ExtendsRefuted (zip sites os) rs)
none_refuted sites rs ns os h l none x = none_some os ns none ((refuted_at sites os rs ns l h).0 x)

pub all_snoc : (sites : List Site) (rs : List Refuted) (ns : List (List Choice)) (r : Refuted) (n : List Choice) → AllNumbered sites rs ns → AreNumbered sites r.partial n → AllNumbered sites (rs ++ r ∷ []) (ns ++ n ∷ [])
all_snoc sites [] [] r n h a = (a, tt)
all_snoc sites [] (m ∷ ns) r n h a = absurd h
all_snoc sites (s ∷ rs) [] r n h a = absurd h
all_snoc sites (s ∷ rs) (m ∷ ns) r n h a = (h.0, all_snoc sites rs ns r n h.1 a)
