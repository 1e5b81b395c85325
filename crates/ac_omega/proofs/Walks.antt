-- The laws of a walk.
use Rattle.std.proofs.Common.{◌≡◌, ℕ, zero, suc, ◌+◌, ◌<◌, ◌≤◌, ◌⊎◌, inl, inr, ℤ, List, [], ◌∷◌, ◌++◌, Option, Some, None, nat_lt, Bool, true, false, cond, arith, refl, sym, ap, ◌∙◌, subst}
use borrow.Author.Tests.{ltb-false}
use Rattle.ac_omega.specs.Walk.{Walked, Empty, Found, Spent, Wide, Node, Done, Absurd, Open, Method, lifted, behind, entered, tries, looked, walk, HasRows, IsTried}
use Rattle.ac_omega.proofs.WalkLaws.{IsWhole, Covers, Lifts}

-- the cost stays between these
abbrev pub Between : {S : Type 0} → ℕ → ℕ → Walked S → Type 0
Between k b (Empty j s) = (k ≤ j) × (j ≤ b)
Between k b (Found p) = Unit {0}
Between k b (Spent j) = Unit {0}
Between k b Wide = Unit {0}

Between-lifted : (S : Type 0) (k b : ℕ) (o : Option (List ℤ)) → Between {S = S} k b (lifted o)
Between-lifted S k b None = tt
Between-lifted S k b (Some p) = tt

Between-behind : {S : Type 0} (k b : ℕ) (w : Walked S) (lift : List ℤ → Option (List ℤ)) (rest : ℕ → S → Walked S) → Between k b w → ((j : ℕ) (s : S) → k ≤ j → j ≤ b → Between k b (rest j s)) → Between k b (behind w lift rest)
Between-behind k b (Empty j s) lift rest h r = r j s h.0 h.1
Between-behind k b (Found p) lift rest h r = Between-lifted _ k b (lift p)
Between-behind k b (Spent j) lift rest h r = tt
Between-behind k b Wide lift rest h r = tt

Between-entered : {C S : Type 0} (k b : ℕ) (o : Option C) (go : C → Walked S) → ((d : C) → Between k b (go d)) → Between k b (entered o go)
Between-entered k b None go h = tt
Between-entered k b (Some d) go h = h d

Between-less : {S : Type 0} (j k b : ℕ) (w : Walked S) → j ≤ k → Between k b w → Between j b w
Between-less j k b (Empty n s) l h = (omega arith, h.1)
Between-less j k b (Found p) l h = tt
Between-less j k b (Spent n) l h = tt
Between-less j k b Wide l h = tt

pub Between-tries : {C H S : Type 0} (m : Method C H S) (go : C → ℕ → S → Walked S) (c : C) (hs : List (Option H)) (k : ℕ) (s : S) (b : ℕ) → k ≤ b → ((d : C) (j : ℕ) (t : S) → j ≤ b → Between j b (go d j t)) → Between k b (tries m go c hs k s)
Between-tries m go c [] k s b l g = (omega arith, l)
Between-tries m go c (None ∷ hs) k s b l g = tt
Between-tries m go c (Some h ∷ hs) k s b l g =
    Between-behind k b _ (m.lift c h) (tries m go c hs) (Between-entered k b (m.step c h) (λ d. go d k (m.mark h s)) (λ d. g d k (m.mark h s) l))
    (λ j t e f. Between-less k j b _ e (Between-tries m go c hs j t b f g))

Between-looked : {C H S : Type 0} (m : Method C H S) (go : C → ℕ → S → Walked S) (c : C) (k : ℕ) (s : S) (b : ℕ) (l : Node H) → k ≤ b → ((d : C) (j : ℕ) (t : S) → j ≤ b → Between j b (go d j t)) → Between k b (looked m go c k s l)
Between-looked m go c k s b (Done p) l g = tt
Between-looked m go c k s b Absurd l g = (omega arith, l)
Between-looked m go c k s b (Open hs) l g = Between-tries m go c hs k s b l g

-- within the budget, what stands behind the test
Between-if : {S : Type 0} (k j b : ℕ) (t : Bool) (w : Walked S) → nat_lt b j ≡ t → (j ≤ b → Between k b w) → Between k b (cond t (Spent j) w)
Between-if k j b true w e h = tt
Between-if k j b false w e h = h (ltb-false b j e)

-- the running cost does not fall, and stays within the budget
pub Between-walk : {C H S : Type 0} (m : Method C H S) (n b : ℕ) (c : C) (k : ℕ) (s : S) → Between k b (walk m n b c k s)
unfolding walk
Between-walk m zero b c k s = tt
Between-walk m (suc n) b c k s =
    Between-if k (k + m.size c) b (nat_lt b (k + m.size c)) _ refl (λ l. Between-less k (k + m.size c) b _ (omega arith)
    (Between-looked m (λ d j t. walk m n b d j t) c (k + m.size c) (m.note c s) b (m.look c) l (λ d j t _. Between-walk m n b d j t)))

-- two walks that agree from a cost on
behind-same : {S : Type 0} (v w : Walked S) (lift : List ℤ → Option (List ℤ)) (r q : ℕ → S → Walked S) (k b : ℕ) → v ≡ w → Between k b v → ((j : ℕ) (s : S) → k ≤ j → j ≤ b → r j s ≡ q j s) → behind v lift r ≡ behind w lift q
behind-same (Empty j s) w lift r q k b e h f = rw (← e) (f j s h.0 h.1)
behind-same (Found p) w lift r q k b e h f = rw (← e) refl
behind-same (Spent j) w lift r q k b e h f = rw (← e) refl
behind-same Wide w lift r q k b e h f = rw (← e) refl

entered-same : {C S : Type 0} (o : Option C) (f g : C → Walked S) → ((d : C) → f d ≡ g d) → entered o f ≡ entered o g
entered-same None f g h = refl
entered-same (Some d) f g h = h d

tries-same : {C H S : Type 0} (m : Method C H S) (f g : C → ℕ → S → Walked S) (c : C) (hs : List (Option H)) (k : ℕ) (s : S) (b : ℕ) → k ≤ b → ((d : C) (j : ℕ) (t : S) → j ≤ b → Between j b (f d j t)) → ((d : C) (j : ℕ) (t : S) → k ≤ j → j ≤ b → f d j t ≡ g d j t) → tries m f c hs k s ≡ tries m g c hs k s
tries-same m f g c [] k s b l w e = refl
tries-same m f g c (None ∷ hs) k s b l w e = refl
tries-same m f g c (Some h ∷ hs) k s b l w e =
    behind-same _ _ (m.lift c h) (tries m f c hs) (tries m g c hs) k b (entered-same (m.step c h) (λ d. f d k (m.mark h s)) (λ d. g d k (m.mark h s)) (λ d. e d k (m.mark h s) (omega arith) l))
    (Between-entered k b (m.step c h) (λ d. f d k (m.mark h s)) (λ d. w d k (m.mark h s) l))
    (λ j t x y. tries-same m f g c hs j t b y w (λ d i a u v. e d i a (omega arith) v))

looked-same : {C H S : Type 0} (m : Method C H S) (f g : C → ℕ → S → Walked S) (c : C) (k : ℕ) (s : S) (b : ℕ) (l : Node H) → k ≤ b → ((d : C) (j : ℕ) (t : S) → j ≤ b → Between j b (f d j t)) → ((hs : List (Option H)) → l ≡ Open hs → (d : C) (j : ℕ) (t : S) → k ≤ j → j ≤ b → f d j t ≡ g d j t) → looked m f c k s l ≡ looked m g c k s l
looked-same m f g c k s b (Done p) l w e = refl
looked-same m f g c k s b Absurd l w e = refl
looked-same m f g c k s b (Open hs) l w e = tries-same m f g c hs k s b l w (e hs refl)

if-same : {S : Type 0} (j b : ℕ) (t : Bool) (v w : Walked S) → nat_lt b j ≡ t → (j ≤ b → v ≡ w) → cond t (Spent j) v ≡ cond t (Spent j) w
if-same j b true v w e h = refl
if-same j b false v w e h = h (ltb-false b j e)

pub open-rows : {H : Type 0} (l : Node H) (hs : List (Option H)) (n : ℕ) → l ≡ Open hs → HasRows l n → 1 ≤ n
open-rows (Done p) hs n e h = absurd cc
open-rows Absurd hs n e h = absurd cc
open-rows (Open xs) hs n e h = h

-- any two bounds on the path that exceed what is left of the budget give one walk
pub walk-enough : {C H S : Type 0} (m : Method C H S) → ((c : C) → HasRows (m.look c) (m.size c)) → (n o b : ℕ) (c : C) (k : ℕ) (s : S) → k ≤ b → b < n + k → b < o + k → walk m n b c k s ≡ walk m o b c k s
unfolding walk
walk-enough m rows zero o b c k s l x y = absurd (omega arith)
walk-enough m rows (suc n) zero b c k s l x y = absurd (omega arith)
walk-enough m rows (suc n) (suc o) b c k s l x y =
    if-same (k + m.size c) b (nat_lt b (k + m.size c)) _ _ refl (λ v.
    looked-same m (λ d j t. walk m n b d j t) (λ d j t. walk m o b d j t) c (k + m.size c) (m.note c s) b (m.look c) v (λ d j t _. Between-walk m n b d j t)
    (λ hs e d j t u w. let r = open-rows (m.look c) hs (m.size c) e (rows c) in walk-enough m rows n o b d j t w (omega arith) (omega arith)))

-- No point, where the walk finds none.
behind-gone : {S : Type 0} (w : Walked S) (lift : List ℤ → Option (List ℤ)) (rest : ℕ → S → Walked S) (j : ℕ) (u : S) → behind w lift rest ≡ Empty j u → (i : ℕ) × (v : S) × (w ≡ Empty i v) × (rest i v ≡ Empty j u)
behind-gone (Empty i v) lift rest j u e = (i, v, refl, e)
behind-gone {S = S} (Found p) lift rest j u e = lift-not-gone (lift p) e
  where
    lift-not-gone : (o : Option (List ℤ)) → lifted o ≡ Empty j u → (i : ℕ) × (v : S) × (Found p ≡ Empty i v) × (rest i v ≡ Empty j u)
    lift-not-gone None e = absurd cc
    lift-not-gone (Some q) e = absurd cc
behind-gone (Spent i) lift rest j u e = absurd cc
behind-gone Wide lift rest j u e = absurd cc

entered-gone : {C S : Type 0} (o : Option C) (go : C → Walked S) (j : ℕ) (u : S) → entered o go ≡ Empty j u → (d : C) × (o ≡ Some d) × (go d ≡ Empty j u)
entered-gone None go j u e = absurd cc
entered-gone (Some d) go j u e = (d, refl, e)

tries-gone : {C H S : Type 0} (m : Method C H S) (go : C → ℕ → S → Walked S) (c : C) (hs : List (Option H)) (k : ℕ) (s : S) (j : ℕ) (u : S) → tries m go c hs k s ≡ Empty j u → (h : H) → IsTried h hs → (d : C) × (x : ℕ) × (a : S) × (y : ℕ) × (b : S) × (m.step c h ≡ Some d) × (go d x a ≡ Empty y b)
tries-gone m go c [] k s j u e h a = absurd a
tries-gone m go c (None ∷ hs) k s j u e h a = absurd cc
tries-gone m go c (Some g ∷ hs) k s j u e h (inl same) =
    let b = behind-gone _ (m.lift c g) (tries m go c hs) j u e in
    let t = entered-gone (m.step c g) (λ d. go d k (m.mark g s)) b.0 b.1 b.2 in
    let s' : g ≡ h = cc in
    (t.0, k, m.mark g s, b.0, b.1, rw (← s') t.1, t.2)
tries-gone m go c (Some g ∷ hs) k s j u e h (inr a) =
    let b = behind-gone _ (m.lift c g) (tries m go c hs) j u e in
    tries-gone m go c hs b.0 b.1 j u b.3 h a

tries-whole : {C H S : Type 0} (m : Method C H S) (go : C → ℕ → S → Walked S) (c : C) (hs : List (Option H)) (k : ℕ) (s : S) (j : ℕ) (u : S) → tries m go c hs k s ≡ Empty j u → IsWhole hs
tries-whole m go c [] k s j u e = tt
tries-whole m go c (None ∷ hs) k s j u e = absurd cc
tries-whole m go c (Some g ∷ hs) k s j u e =
    let b = behind-gone _ (m.lift c g) (tries m go c hs) j u e in
    tries-whole m go c hs b.0 b.1 j u b.3

if-gone : {S : Type 0} (t : Bool) (i : ℕ) (w : Walked S) (j : ℕ) (u : S) → cond t (Spent i) w ≡ Empty j u → w ≡ Empty j u
if-gone true i w j u e = absurd cc
if-gone false i w j u e = e

if-found : {S : Type 0} (t : Bool) (i : ℕ) (w : Walked S) (p : List ℤ) → cond t (Spent i) w ≡ Found p → w ≡ Found p
if-found true i w p e = absurd cc
if-found false i w p e = e

looked-gone : {C H S : Type 0} (m : Method C H S) (Good : C → Type 0) (At : C → List ℤ → Type 0) → Covers m Good At → (go : C → ℕ → S → Walked S) (c : C) (k : ℕ) (s : S) (j : ℕ) (u : S) (l : Node H) (p : List ℤ) → m.look c ≡ l → looked m go c k s l ≡ Empty j u → Good c → At c p
    → ((d : C) (x : ℕ) (a : S) (y : ℕ) (b : S) (q : List ℤ) → go d x a ≡ Empty y b → Good d → At d q → ⊥) → ⊥
looked-gone m Good At exact go c k s j u (Done q) p is e g at none = cc
looked-gone m Good At exact go c k s j u Absurd p is e g at none = exact.absurd_row c p g is at
looked-gone m Good At exact go c k s j u (Open hs) p is e g at none =
    let r = exact.choice c hs p g is (tries-whole m go c hs k s j u e) at in
    let t = tries-gone m go c hs k s j u e r.0 r.1 in
    let q = r.2 t.0 t.5 in
    none t.0 t.1 t.2 t.3 t.4 q.0 t.6 (exact.good c hs r.0 t.0 g is r.1 t.5) q.1

-- a walk that finds no point: there is none
pub walk-gone : {C H S : Type 0} (m : Method C H S) (Good : C → Type 0) (At : C → List ℤ → Type 0) → Covers m Good At → (n b : ℕ) (c : C) (k : ℕ) (s : S) (j : ℕ) (u : S) (p : List ℤ) → walk m n b c k s ≡ Empty j u → Good c → At c p → ⊥
unfolding walk
walk-gone m Good At exact zero b c k s j u p e g at = cc
walk-gone m Good At exact (suc n) b c k s j u p e g at =
    looked-gone m Good At exact (λ d i t. walk m n b d i t) c (k + m.size c) (m.note c s) j u (m.look c) p refl (if-gone (nat_lt b (k + m.size c)) (k + m.size c) _ j u e) g at
    (λ d x a y v q f h r. walk-gone m Good At exact n b d x a y v q f h r)

-- The point, where it finds one.
behind-found : {S : Type 0} (w : Walked S) (lift : List ℤ → Option (List ℤ)) (rest : ℕ → S → Walked S) (p : List ℤ) → behind w lift rest ≡ Found p → ((q : List ℤ) × (w ≡ Found q) × (lift q ≡ Some p)) ⊎ ((i : ℕ) × (s : S) × (rest i s ≡ Found p))
behind-found (Empty i s) lift rest p e = inr (i, s, e)
behind-found {S = S} (Found q) lift rest p e = inl (q, refl, lift-found (lift q) e)
  where
    lift-found : (o : Option (List ℤ)) → lifted {S = S} o ≡ Found p → o ≡ Some p
    lift-found None e = absurd cc
    lift-found (Some r) e = cc
behind-found (Spent i) lift rest p e = absurd cc
behind-found Wide lift rest p e = absurd cc

entered-found : {C S : Type 0} (o : Option C) (go : C → Walked S) (p : List ℤ) → entered o go ≡ Found p → (d : C) × (o ≡ Some d) × (go d ≡ Found p)
entered-found None go p e = absurd cc
entered-found (Some d) go p e = (d, refl, e)

tries-found : {C H S : Type 0} (m : Method C H S) (go : C → ℕ → S → Walked S) (c : C) (hs : List (Option H)) (k : ℕ) (s : S) (p : List ℤ) → tries m go c hs k s ≡ Found p → (h : H) × (d : C) × (x : ℕ) × (a : S) × (q : List ℤ) × (m.step c h ≡ Some d) × (go d x a ≡ Found q) × (m.lift c h q ≡ Some p) × IsTried h hs
tries-found m go c [] k s p e = absurd cc
tries-found m go c (None ∷ hs) k s p e = absurd cc
tries-found m go c (Some g ∷ hs) k s p e = elim (behind-found _ (m.lift c g) (tries m go c hs) p e) [
  | inl b ↦ let t = entered-found (m.step c g) (λ d. go d k (m.mark g s)) b.0 b.1 in (g, t.0, k, m.mark g s, b.0, t.1, t.2, b.2, inl refl)
  | inr b ↦ let t = tries-found m go c hs b.0 b.1 p b.2 in (t.0, t.1, t.2, t.3, t.4, t.5, t.6, t.7, inr t.8)
]

looked-found : {C H S : Type 0} (m : Method C H S) (Good : C → Type 0) (At : C → List ℤ → Type 0) → Lifts m Good At → (go : C → ℕ → S → Walked S) (c : C) (k : ℕ) (s : S) (l : Node H) (p : List ℤ) → m.look c ≡ l → looked m go c k s l ≡ Found p → Good c
    → ((d : C) (x : ℕ) (a : S) (q : List ℤ) → go d x a ≡ Found q → Good d → At d q) → At c p
looked-found m Good At exact go c k s (Done q) p is e g some = let r : q ≡ p = cc in exact.done c p g (is ∙ ap (λ x. Done x) r)
looked-found m Good At exact go c k s Absurd p is e g some = absurd cc
looked-found m Good At exact go c k s (Open hs) p is e g some =
    let t = tries-found m go c hs k s p e in
    exact.back c hs t.0 t.1 t.4 p g is t.8 t.5 (some t.1 t.2 t.3 t.4 t.6 (exact.good c hs t.0 t.1 g is t.8 t.5)) t.7

-- a point that a walk finds is one of the conjunction
pub walk-found : {C H S : Type 0} (m : Method C H S) (Good : C → Type 0) (At : C → List ℤ → Type 0) → Lifts m Good At → (n b : ℕ) (c : C) (k : ℕ) (s : S) (p : List ℤ) → walk m n b c k s ≡ Found p → Good c → At c p
unfolding walk
walk-found m Good At exact zero b c k s p e g = absurd cc
walk-found m Good At exact (suc n) b c k s p e g =
    looked-found m Good At exact (λ d i t. walk m n b d i t) c (k + m.size c) (m.note c s) (m.look c) p refl (if-found (nat_lt b (k + m.size c)) (k + m.size c) _ p e) g
    (λ d x a q f h. walk-found m Good At exact n b d x a q f h)

-- The choices in two parts: the second goes on at the first one's cost and state.
abbrev pub then : {S : Type 0} → Walked S → (ℕ → S → Walked S) → Walked S
then (Empty k s) go = go k s
then (Found p) go = Found p
then (Spent k) go = Spent k
then Wide go = Wide

then-behind : {S : Type 0} (w : Walked S) (lift : List ℤ → Option (List ℤ)) (rest : ℕ → S → Walked S) (go : ℕ → S → Walked S) → then (behind w lift rest) go ≡ behind w lift (λ j s. then (rest j s) go)
then-behind (Empty k s) lift rest go = refl
then-behind (Found p) lift rest go = by (lift p)
  where
    by : (o : Option (List ℤ)) → then (lifted o) go ≡ lifted o
    by None = refl
    by (Some q) = refl
then-behind (Spent k) lift rest go = refl
then-behind Wide lift rest go = refl

behind-each : {S : Type 0} (w : Walked S) (lift : List ℤ → Option (List ℤ)) (r q : ℕ → S → Walked S) → ((j : ℕ) (s : S) → r j s ≡ q j s) → behind w lift r ≡ behind w lift q
behind-each (Empty k s) lift r q h = h k s
behind-each (Found p) lift r q h = refl
behind-each (Spent k) lift r q h = refl
behind-each Wide lift r q h = refl

pub tries-append : {C H S : Type 0} (m : Method C H S) (go : C → ℕ → S → Walked S) (c : C) (hs gs : List (Option H)) (k : ℕ) (s : S) → tries m go c (hs ++ gs) k s ≡ then (tries m go c hs k s) (λ j t. tries m go c gs j t)
tries-append m go c [] gs k s = refl
tries-append m go c (None ∷ hs) gs k s = refl
tries-append m go c (Some h ∷ hs) gs k s =
    behind-each _ (m.lift c h) (tries m go c (hs ++ gs)) (λ j t. then (tries m go c hs j t) (λ i a. tries m go c gs i a)) (λ j t. tries-append m go c hs gs j t)
    ∙ sym (then-behind _ (m.lift c h) (tries m go c hs) (λ i a. tries m go c gs i a))

-- the cost of a walk that finds no point
pub gone-between : {C H S : Type 0} (m : Method C H S) (n b : ℕ) (c : C) (k : ℕ) (s : S) (j : ℕ) (t : S) → walk m n b c k s ≡ Empty j t → (k ≤ j) × (j ≤ b)
gone-between {S = S} m n b c k s j t e =
    let P : Walked S → Type 0 = λ w. Between k b w in
    subst P e (Between-walk m n b c k s)
