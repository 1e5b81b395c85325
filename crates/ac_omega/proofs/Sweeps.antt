-- The pieces of a whole walk are exactly the projection.
use Rattle.std.proofs.Common.{◌≡◌, ℕ, zero, suc, ◌+◌, ◌⊎◌, inl, inr, ℤ, List, [], ◌∷◌, ◌++◌, Option, Some, None, nat_lt, Bool, true, false, cond, refl, ap, ◌∙◌}
use Rattle.ac_forms.specs.PieceMembership.{IsInSome}
use Rattle.ac_forms.proofs.InPieces.{some-append}
use Rattle.ac_omega.specs.Walk.{Node, Done, Absurd, Open, Method, IsTried}
use Rattle.ac_omega.proofs.WalkLaws.{IsWhole}
use Rattle.ac_omega.specs.Sweep.{Projected, Pieces, Spent, Wide, joined, onward, into, sweeps, swept, sweep}
use Rattle.ac_omega.proofs.WalkLaws.{Projects}

-- what the last conjunction of a path has
abbrev pub AtEnd : {C H : Type 0} → (C → List ℤ → Type 0) → List H × C → List ℤ → Type 0
AtEnd At x p = At x.1 p

pub onward-parts : {C H : Type 0} (w : Projected C H) (rest : ℕ → Projected C H) (zs : List (List H × C)) (j : ℕ) → onward w rest ≡ Pieces zs j → (xs : List (List H × C)) × (i : ℕ) × (ys : List (List H × C)) × (w ≡ Pieces xs i) × (rest i ≡ Pieces ys j) × (zs ≡ xs ++ ys)
onward-parts {C = C} {H = H} (Pieces xs i) rest zs j e = by (rest i) refl e
  where
    by : (r : Projected C H) → rest i ≡ r → joined xs r ≡ Pieces zs j → (us : List (List H × C)) × (l : ℕ) × (ys : List (List H × C)) × (Pieces xs i ≡ Pieces us l) × (rest l ≡ Pieces ys j) × (zs ≡ us ++ ys)
    by (Pieces ys l) f e = let a : l ≡ j = cc in (xs, i, ys, refl, f ∙ ap (λ n. Pieces ys n) a, cc)
    by (Spent l) f e = absurd cc
    by Wide f e = absurd cc
onward-parts (Spent i) rest zs j e = absurd cc
onward-parts Wide rest zs j e = absurd cc

pub into-parts : {C H : Type 0} (o : Option C) (go : C → Projected C H) (zs : List (List H × C)) (j : ℕ) → into o go ≡ Pieces zs j → (d : C) × (o ≡ Some d) × (go d ≡ Pieces zs j)
into-parts None go zs j e = absurd cc
into-parts (Some d) go zs j e = (d, refl, e)

-- what a part of the walk makes of a conjunction is exact
abbrev pub Exact : {C H : Type 0} → (C → Type 0) → (C → List ℤ → Type 0) → (C → List ℤ → Type 0) → (List H → C → ℕ → Projected C H) → Type 0
Exact {C} {H} Good At Has go = (path : List H) (d : C) (k j : ℕ) (zs : List (List H × C)) (p : List ℤ) → go path d k ≡ Pieces zs j → Good d → (Has d p → IsInSome (AtEnd At) zs p) × (IsInSome (AtEnd At) zs p → Has d p)

sweeps-to : {C H S : Type 0} (m : Method C H S) (Good : C → Type 0) (At Has : C → List ℤ → Type 0) (go : List H → C → ℕ → Projected C H) (path : List H) (c : C) (hs : List (Option H)) (k j : ℕ) (zs : List (List H × C)) (p : List ℤ) → Exact Good At Has go → sweeps m go path c hs k ≡ Pieces zs j
    → ((h : H) (d : C) → IsTried h hs → m.step c h ≡ Some d → Good d) → (h : H) → IsTried h hs → ((d : C) → m.step c h ≡ Some d → Has d p) → IsInSome (AtEnd At) zs p
sweeps-to m Good At Has go path c [] k j zs p ex e good h a has = absurd a
sweeps-to m Good At Has go path c (None ∷ hs) k j zs p ex e good h a has = absurd cc
sweeps-to m Good At Has go path c (Some g ∷ hs) k j zs p ex e good h (inl same) has =
    let b = onward-parts (into (m.step c g) (λ d. go (path ++ g ∷ []) d k)) (sweeps m go path c hs) zs j e in
    let t = into-parts (m.step c g) (λ d. go (path ++ g ∷ []) d k) b.0 b.1 b.3 in
    let s : g ≡ h = cc in
    let st : m.step c h ≡ Some t.0 = rw (← s) t.1 in
    rw b.5 ((some-append (AtEnd At) b.0 b.2 p).1 (inl ((ex (path ++ g ∷ []) t.0 k b.1 b.0 p t.2 (good g t.0 (inl refl) t.1)).0 (has t.0 st))))
sweeps-to m Good At Has go path c (Some g ∷ hs) k j zs p ex e good h (inr a) has =
    let b = onward-parts (into (m.step c g) (λ d. go (path ++ g ∷ []) d k)) (sweeps m go path c hs) zs j e in
    rw b.5 ((some-append (AtEnd At) b.0 b.2 p).1 (inr (sweeps-to m Good At Has go path c hs b.1 j b.2 p ex b.4 (λ x d i s. good x d (inr i) s) h a has)))

sweeps-from : {C H S : Type 0} (m : Method C H S) (Good : C → Type 0) (At Has : C → List ℤ → Type 0) (go : List H → C → ℕ → Projected C H) (path : List H) (c : C) (hs : List (Option H)) (k j : ℕ) (zs : List (List H × C)) (p : List ℤ) → Exact Good At Has go → sweeps m go path c hs k ≡ Pieces zs j
    → ((h : H) (d : C) → IsTried h hs → m.step c h ≡ Some d → Good d) → IsInSome (AtEnd At) zs p → (h : H) × (d : C) × IsTried h hs × (m.step c h ≡ Some d) × Has d p
sweeps-from m Good At Has go path c [] k j zs p ex e good i = let f : [] ≡ zs = cc in absurd (rw (← f) at i)
sweeps-from m Good At Has go path c (None ∷ hs) k j zs p ex e good i = absurd cc
sweeps-from m Good At Has go path c (Some g ∷ hs) k j zs p ex e good i =
    let b = onward-parts (into (m.step c g) (λ d. go (path ++ g ∷ []) d k)) (sweeps m go path c hs) zs j e in
    let t = into-parts (m.step c g) (λ d. go (path ++ g ∷ []) d k) b.0 b.1 b.3 in
    elim ((some-append (AtEnd At) b.0 b.2 p).0 (rw b.5 at i)) [
      | inl x ↦ (g, t.0, inl refl, t.1, (ex (path ++ g ∷ []) t.0 k b.1 b.0 p t.2 (good g t.0 (inl refl) t.1)).1 x)
      | inr y ↦ let r = sweeps-from m Good At Has go path c hs b.1 j b.2 p ex b.4 (λ x d i s. good x d (inr i) s) y in (r.0, r.1, inr r.2, r.3, r.4)
    ]

sweeps-whole : {C H S : Type 0} (m : Method C H S) (go : List H → C → ℕ → Projected C H) (path : List H) (c : C) (hs : List (Option H)) (k j : ℕ) (zs : List (List H × C)) → sweeps m go path c hs k ≡ Pieces zs j → IsWhole hs
sweeps-whole m go path c [] k j zs e = tt
sweeps-whole m go path c (None ∷ hs) k j zs e = absurd cc
sweeps-whole m go path c (Some g ∷ hs) k j zs e =
    let b = onward-parts (into (m.step c g) (λ d. go (path ++ g ∷ []) d k)) (sweeps m go path c hs) zs j e in
    sweeps-whole m go path c hs b.1 j b.2 b.4

swept-exact : {C H S : Type 0} (m : Method C H S) (Good : C → Type 0) (At Has : C → List ℤ → Type 0) → Projects m Good At Has → (go : List H → C → ℕ → Projected C H) (path : List H) (c : C) (k j : ℕ) (l : Node H) (zs : List (List H × C)) (p : List ℤ) → Exact Good At Has go → m.look c ≡ l → swept m go path c k l ≡ Pieces zs j → Good c
    → (Has c p → IsInSome (AtEnd At) zs p) × (IsInSome (AtEnd At) zs p → Has c p)
swept-exact m Good At Has law go path c k j (Done q) zs p ex is e g =
    let f : (path, c) ∷ [] ≡ zs = cc in
    let d = law.done c q p g is in
    rw (← f) ((λ h. inl (d.0 h)), (λ i. elim i [ inl a ↦ d.1 a | inr b ↦ absurd b ]))
swept-exact m Good At Has law go path c k j Absurd zs p ex is e g =
    let f : [] ≡ zs = cc in
    rw (← f) ((λ h. law.absurd_row c p g is h), (λ i. absurd i))
swept-exact m Good At Has law go path c k j (Open hs) zs p ex is e g = (
  (λ h. let s = law.choice c hs p g is (sweeps-whole m go path c hs k j zs e) h in sweeps-to m Good At Has go path c hs k j zs p ex e (λ x d i st. law.good c hs x d g is i st) s.0 s.1 s.2),
  (λ i. let r = sweeps-from m Good At Has go path c hs k j zs p ex e (λ x d i st. law.good c hs x d g is i st) i in law.back c hs r.0 r.1 p g is r.2 r.3 r.4),
)

pub if-pieces : {C H : Type 0} (t : Bool) (i : ℕ) (w : Projected C H) (zs : List (List H × C)) (j : ℕ) → cond t (Spent i) w ≡ Pieces zs j → w ≡ Pieces zs j
if-pieces true i w zs j e = absurd cc
if-pieces false i w zs j e = e

pub sweep-exact : {C H S : Type 0} (m : Method C H S) (Good : C → Type 0) (At Has : C → List ℤ → Type 0) → Projects m Good At Has → (n b : ℕ) → Exact {C = C} {H = H} Good At Has (λ path c k. sweep m n b path c k)
unfolding sweep
sweep-exact m Good At Has law zero b path c k j zs p e g = absurd cc
sweep-exact m Good At Has law (suc n) b path c k j zs p e g =
    swept-exact m Good At Has law (λ q d i. sweep m n b q d i) path c (k + m.size c) j (m.look c) zs p (λ q d x y us r f h. sweep-exact m Good At Has law n b q d x y us r f h) refl (if-pieces (nat_lt b (k + m.size c)) (k + m.size c) _ zs j e) g

-- All pieces of a whole walk are done.
unfoldable pub AllDone : {C H S : Type 0} → Method C H S → List (List H × C) → Type 0
AllDone m [] = Unit {0}
AllDone m (x ∷ xs) = ((q : List ℤ) × (m.look x.1 ≡ Done q)) × AllDone m xs

done-both : {C H S : Type 0} (m : Method C H S) (xs ys : List (List H × C)) → AllDone m xs → AllDone m ys → AllDone m (xs ++ ys)
unfolding AllDone
done-both m [] ys a b = b
done-both m (x ∷ xs) ys a b = (a.0, done-both m xs ys a.1 b)

sweeps-done : {C H S : Type 0} (m : Method C H S) (go : List H → C → ℕ → Projected C H) (path : List H) (c : C) (hs : List (Option H)) (k j : ℕ) (zs : List (List H × C)) → ((q : List H) (d : C) (x y : ℕ) (us : List (List H × C)) → go q d x ≡ Pieces us y → AllDone m us)
    → sweeps m go path c hs k ≡ Pieces zs j → AllDone m zs
unfolding AllDone
sweeps-done m go path c [] k j zs g e = let f : [] ≡ zs = cc in rw (← f) tt
sweeps-done m go path c (None ∷ hs) k j zs g e = absurd cc
sweeps-done m go path c (Some h ∷ hs) k j zs g e =
    let b = onward-parts (into (m.step c h) (λ d. go (path ++ h ∷ []) d k)) (sweeps m go path c hs) zs j e in
    let t = into-parts (m.step c h) (λ d. go (path ++ h ∷ []) d k) b.0 b.1 b.3 in
    rw b.5 (done-both m b.0 b.2 (g (path ++ h ∷ []) t.0 k b.1 b.0 t.2) (sweeps-done m go path c hs b.1 j b.2 g b.4))

swept-done : {C H S : Type 0} (m : Method C H S) (go : List H → C → ℕ → Projected C H) (path : List H) (c : C) (k j : ℕ) (l : Node H) (zs : List (List H × C)) → ((q : List H) (d : C) (x y : ℕ) (us : List (List H × C)) → go q d x ≡ Pieces us y → AllDone m us)
    → m.look c ≡ l → swept m go path c k l ≡ Pieces zs j → AllDone m zs
unfolding AllDone
swept-done m go path c k j (Done q) zs g is e = let f : (path, c) ∷ [] ≡ zs = cc in rw (← f) ((q, is), tt)
swept-done m go path c k j Absurd zs g is e = let f : [] ≡ zs = cc in rw (← f) tt
swept-done m go path c k j (Open hs) zs g is e = sweeps-done m go path c hs k j zs g e

pub sweep-done : {C H S : Type 0} (m : Method C H S) (n b : ℕ) (path : List H) (c : C) (k j : ℕ) (zs : List (List H × C)) → sweep m n b path c k ≡ Pieces zs j → AllDone m zs
unfolding sweep
sweep-done m zero b path c k j zs e = absurd cc
sweep-done m (suc n) b path c k j zs e =
    swept-done m (λ q d i. sweep m n b q d i) path c (k + m.size c) j (m.look c) zs (λ q d x y us f. sweep-done m n b q d x y us f) refl (if-pieces (nat_lt b (k + m.size c)) (k + m.size c) _ zs j e)
