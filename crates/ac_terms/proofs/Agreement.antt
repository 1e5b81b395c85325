-- Ids are equal exactly where the terms that they stand for agree.
use Rattle.std.proofs.Common.{◌≡◌, ℕ, ℤ, Bool, true, false, nat_lt, List, [], ◌∷◌, IsTrue, Some, refl, sym, ap, subst, ◌∙◌, ◌⊎◌, inl, inr, ⊎_elim, ◌↔◌, if◌then◌else◌, arith}
use Rattle.std.proofs.lemmas.Bool.{ltb-true, ltb-false}
use Rattle.ac_syntax.specs.Outputs.{swaps_of}
use Rattle.ac_syntax.specs.declared.tree.Symbol.{Symbol}
use Rattle.ac_terms.specs.declared.node.TermId.{TermId}
use Rattle.ac_syntax.specs.Term.{Leaf, Term, Num, Initial, Apply, Terms, none, more, Agree, same, reverse, through, under, swap, AgreeAll, nothing, both}
use Rattle.ac_terms.specs.Table.{Table, number_of, initial_of, call_of, in_order, stored, StandsFor, StandForAll}
use Rattle.ac_terms.specs.TableNodes.{AreApart}

same_id : (a b : TermId) → a.index ≡ b.index → a ≡ b
same_id a b e = ap (λ n. record { index = n }) e

-- the terms of one place are at one id
mutual
  pub one_id : (table : Table) → AreApart table.places → (t : Term) (a b : TermId) → StandsFor table t a → StandsFor table t b → a ≡ b
  one_id table apart (Num v) a b h k = same_id a b (apart.one a.index b.index _ h k)
  one_id table apart (Initial l) a b h k = same_id a b (apart.one a.index b.index _ h k)
  one_id table apart (Apply f ts) a b h k =
      let e : h.0 ≡ k.0 = one_list table apart ts h.0 k.0 h.1 k.1 in
      same_id a b (apart.one a.index b.index _ h.2 (k.2 ∙ ap (λ ids. Some (call_of f (stored table.commutative f ids))) (sym e)))

  one_list : (table : Table) → AreApart table.places → (ts : Terms) (is js : List TermId) → StandForAll table ts is → StandForAll table ts js → is ≡ js
  one_list table apart none is js h k = h ∙ sym k
  one_list table apart (more t ts) is js h k =
      h.2 ∙ (λ j. one_id table apart t h.0 k.0 h.3 k.3 j ∷ one_list table apart ts h.1 k.1 h.4 k.4 j) ∙ sym k.2

abbrev two : Term → Term → Terms
two t u = more t (more u none)

-- two ids in order do not know which came first
order_turned : (a b : TermId) → in_order (a ∷ b ∷ []) ≡ in_order (b ∷ a ∷ [])
order_turned a b = by (nat_lt b.index a.index) (nat_lt a.index b.index) refl refl
  where
    by : (p q : Bool) → nat_lt b.index a.index ≡ p → nat_lt a.index b.index ≡ q → in_order (a ∷ b ∷ []) ≡ in_order (b ∷ a ∷ [])
    by true true h k = absurd (omega (arith, ltb-true b.index a.index h, ltb-true a.index b.index k))
    by true false h k = rw h (rw k refl)
    by false true h k = rw h (rw k refl)
    by false false h k = rw h (rw k (let e : a ≡ b = same_id a b (omega (arith, ltb-false b.index a.index h, ltb-false a.index b.index k)) in cc))

-- the same ids, or two that stand the other way round
abbrev Turned : List TermId → List TermId → Type 0
Turned is js = (a : TermId) × (b : TermId) × (is ≡ a ∷ b ∷ []) × (js ≡ b ∷ a ∷ [])

order_is : (is : List TermId) → (in_order is ≡ is) ⊎ Turned is (in_order is)
order_is [] = inl refl
order_is (a ∷ []) = inl refl
order_is (a ∷ b ∷ c ∷ rest) = inl refl
order_is (a ∷ b ∷ []) = by (nat_lt b.index a.index) refl
  where
    by : (p : Bool) → nat_lt b.index a.index ≡ p → (in_order (a ∷ b ∷ []) ≡ a ∷ b ∷ []) ⊎ Turned (a ∷ b ∷ []) (in_order (a ∷ b ∷ []))
    by true h = inr (a, b, refl, rw h refl)
    by false h = inl (rw h refl)

order_cases : (is js : List TermId) → in_order is ≡ in_order js → (is ≡ js) ⊎ Turned is js
order_cases is js e = by (order_is is) (order_is js)
  where
    by : (in_order is ≡ is) ⊎ Turned is (in_order is) → (in_order js ≡ js) ⊎ Turned js (in_order js) → (is ≡ js) ⊎ Turned is js
    by (inl p) (inl q) = inl (sym p ∙ e ∙ q)
    by (inl p) (inr q) = inr (q.1, q.0, sym p ∙ e ∙ q.3, q.2)
    by (inr p) (inl q) = inr (p.0, p.1, p.2, sym q ∙ sym e ∙ p.3)
    by (inr p) (inr q) =
        let r : p.1 ∷ p.0 ∷ [] ≡ q.1 ∷ q.0 ∷ [] = sym p.3 ∙ e ∙ q.3 in
        let s : p.0 ∷ p.1 ∷ [] ≡ q.0 ∷ q.1 ∷ [] = cc in
        inl (p.2 ∙ s ∙ sym q.2)

stored_cases : (names : List (List ℕ)) (f : Symbol) (is js : List TermId) → stored names f is ≡ stored names f js → (is ≡ js) ⊎ (IsTrue (swaps_of names f) × Turned is js)
stored_cases names f is js = by (swaps_of names f) refl
  where
    by : (b : Bool) → swaps_of names f ≡ b → (if b then in_order is else is) ≡ (if b then in_order js else js) → (is ≡ js) ⊎ (IsTrue (swaps_of names f) × Turned is js)
    by true d e = ⊎_elim inl (λ t. inr (d, t)) (order_cases is js e)
    by false d e = inl e

-- two terms, and the ids that they stand at
two_of : (table : Table) (us : Terms) (b a : TermId) → StandForAll table us (b ∷ a ∷ []) → (u : Term) × (w : Term) × (us ≡ two u w) × StandsFor table u b × StandsFor table w a
two_of table none b a h = absurd (cc)
two_of table (more u none) b a h = absurd (let e = h.4 in let k = h.2 in cc)
two_of table (more u (more w none)) b a h =
    let first : h.0 ≡ b = (let k = h.2 in cc) in
    let second : h.4.0 ≡ a = (let k = h.2 in let l = h.4.2 in cc) in
    (u, w, refl, subst (StandsFor table u) first h.3, subst (StandsFor table w) second h.4.3)
two_of table (more u (more w (more x xs))) b a h = absurd (let k = h.2 in let l = h.4.2 in let m = h.4.4.2 in cc)

both_ids : (table : Table) (t u : Term) (a b : TermId) → StandsFor table t a → StandsFor table u b → StandForAll table (two t u) (a ∷ b ∷ [])
both_ids table t u a b h k = (a, b ∷ [], refl, h, (b, [], refl, k, refl))

-- a call of a symbol that may be swapped stands where the swapped call does
turned_stands : (table : Table) (f : Symbol) (t u : Term) (id : TermId) → IsTrue (swaps_of table.commutative f) → StandsFor table (Apply f (two t u)) id → StandsFor table (Apply f (two u t)) id
turned_stands table f t u id d h =
    let a = h.1.0 in
    let b = h.1.4.0 in
    let ids : h.0 ≡ a ∷ b ∷ [] = (let k = h.1.2 in let l = h.1.4.2 in let m = h.1.4.4 in cc) in
    let test : swaps_of table.commutative f ≡ true = d in
    let one : stored table.commutative f (a ∷ b ∷ []) ≡ stored table.commutative f (b ∷ a ∷ []) = rw test (order_turned a b) in
    (b ∷ a ∷ [], both_ids table u t b a h.1.4.3 h.1.3, h.2 ∙ ap (λ is. Some (call_of f (stored table.commutative f is))) ids ∙ ap (λ is. Some (call_of f is)) one)

-- terms that agree stand at the same ids
mutual
  agreed : (may : Symbol → Bool) (table : Table) → may ≡ swaps_of table.commutative → (t u : Term) → Agree may t u → (id : TermId) → StandsFor table t id ↔ StandsFor table u id
  agreed may table is t u (same w) id = (λ h. h, λ h. h)
  agreed may table is t u (reverse v w p) id = let q = agreed may table is v w p id in (q.1, q.0)
  agreed may table is t u (through v w x p q) id = let r = agreed may table is v w p id in let s = agreed may table is w x q id in (λ h. s.0 (r.0 h), λ h. r.1 (s.1 h))
  agreed may table is t u (swap f v w d) id =
      let e : IsTrue (swaps_of table.commutative f) = subst (λ (m : Symbol → Bool). IsTrue (m f)) is d in (turned_stands table f v w id e, turned_stands table f w v id e)
  agreed may table is t u (under f ts us ps) id =
      (λ h. (h.0, (agreed_all may table is ts us ps h.0).0 h.1, h.2), λ h. (h.0, (agreed_all may table is ts us ps h.0).1 h.1, h.2))

  agreed_all : (may : Symbol → Bool) (table : Table) → may ≡ swaps_of table.commutative → (ts us : Terms) → AgreeAll may ts us → (ids : List TermId) → StandForAll table ts ids ↔ StandForAll table us ids
  agreed_all may table is ts us nothing ids = (λ h. h, λ h. h)
  agreed_all may table is ts us (both v w vs ws p ps) ids = (
    λ h. (h.0, h.1, h.2, (agreed may table is v w p h.0).0 h.3, (agreed_all may table is vs ws ps h.1).0 h.4),
    λ h. (h.0, h.1, h.2, (agreed may table is v w p h.0).1 h.3, (agreed_all may table is vs ws ps h.1).1 h.4),
  )

-- two terms agree by the declarations of a table
abbrev Agreeing : Table → Term → Term → Type 0
Agreeing table = Agree (swaps_of table.commutative)

-- what holds of the arguments: they agree with all that stand at the same ids
abbrev AgreeWithAll : Table → Terms → Type 0
AgreeWithAll table ts = (us : Terms) (ids : List TermId) → StandForAll table ts ids → StandForAll table us ids → AgreeAll (swaps_of table.commutative) ts us

swapped_calls : (table : Table) (f : Symbol) (ts us : Terms) (a b : TermId) → IsTrue (swaps_of table.commutative f) → AgreeWithAll table ts
    → StandForAll table ts (a ∷ b ∷ []) → StandForAll table us (b ∷ a ∷ []) → Agreeing table (Apply f ts) (Apply f us)
swapped_calls table f ts us a b d each h k =
    let p = two_of table us b a k in
    let q : Agreeing table (Apply f ts) (Apply f (two p.1 p.0)) = under f ts (two p.1 p.0) (each (two p.1 p.0) (a ∷ b ∷ []) h (both_ids table p.1 p.0 a b p.4 p.3)) in
    subst (λ x. Agreeing table (Apply f ts) (Apply f x)) (sym p.2) (through _ _ _ q (swap f p.1 p.0 d))

calls_agree : (table : Table) (f g : Symbol) (ts us : Terms) (id : TermId) → AgreeWithAll table ts
    → StandsFor table (Apply f ts) id → StandsFor table (Apply g us) id → Agreeing table (Apply f ts) (Apply g us)
calls_agree table f g ts us id each h k =
    let names = table.commutative in
    let e : call_of f (stored names f h.0) ≡ call_of g (stored names g k.0) = (let x = h.2 in let y = k.2 in cc) in
    let symbol : f ≡ g = cc in
    let ids : stored names f h.0 ≡ stored names f k.0 = (let i : stored names f h.0 ≡ stored names g k.0 = cc in i ∙ ap (λ x. stored names x k.0) (sym symbol)) in
    let found : Agreeing table (Apply f ts) (Apply f us) = ⊎_elim
    (λ one. under f ts us (each us h.0 h.1 (subst (StandForAll table us) (sym one) k.1)))
    (λ other. let t = other.1 in
    swapped_calls table f ts us t.0 t.1 other.0 each (subst (StandForAll table ts) t.2 h.1) (subst (StandForAll table us) t.3 k.1))
    (stored_cases names f h.0 k.0 ids) in
    subst (λ x. Agreeing table (Apply f ts) (Apply x us)) symbol found

number_agrees : (table : Table) (v : ℤ) (u : Term) (id : TermId) → StandsFor table (Num v) id → StandsFor table u id → Agreeing table (Num v) u
number_agrees table v (Num w) id h k =
    let e : number_of v ≡ number_of w = cc in
    let e2 : v ≡ w = cc in
    subst (λ x. Agreeing table (Num v) (Num x)) e2 (same (Num v))
number_agrees table v (Initial m) id h k = absurd (cc)
number_agrees table v (Apply g us) id h k = absurd (let y = k.2 in cc)

initial_agrees : (table : Table) (l : Leaf) (u : Term) (id : TermId) → StandsFor table (Initial l) id → StandsFor table u id → Agreeing table (Initial l) u
initial_agrees table l (Num w) id h k = absurd (cc)
initial_agrees table l (Initial m) id h k =
    let e : initial_of l ≡ initial_of m = cc in
    let e2 : l ≡ m = cc in
    subst (λ x. Agreeing table (Initial l) (Initial x)) e2 (same (Initial l))
initial_agrees table l (Apply g us) id h k = absurd (let y = k.2 in cc)

call_agrees : (table : Table) (f : Symbol) (ts : Terms) (u : Term) (id : TermId) → AgreeWithAll table ts → StandsFor table (Apply f ts) id → StandsFor table u id → Agreeing table (Apply f ts) u
call_agrees table f ts (Num w) id each h k = absurd (let x = h.2 in cc)
call_agrees table f ts (Initial m) id each h k = absurd (let x = h.2 in cc)
call_agrees table f ts (Apply g us) id each h k = calls_agree table f g ts us id each h k

-- terms that stand at one id agree
mutual
  pub agree_at_one : (table : Table) (t u : Term) (id : TermId) → StandsFor table t id → StandsFor table u id → Agreeing table t u
  agree_at_one table (Num v) u id h k = number_agrees table v u id h k
  agree_at_one table (Initial l) u id h k = initial_agrees table l u id h k
  agree_at_one table (Apply f ts) u id h k = call_agrees table f ts u id (agree_at_ones table ts) h k

  agree_at_ones : (table : Table) (ts us : Terms) (ids : List TermId) → StandForAll table ts ids → StandForAll table us ids → AgreeAll (swaps_of table.commutative) ts us
  agree_at_ones table none none ids h k = nothing
  agree_at_ones table none (more u us) ids h k = absurd (let y = k.2 in cc)
  agree_at_ones table (more t ts) none ids h k = absurd (let x = h.2 in cc)
  agree_at_ones table (more t ts) (more u us) ids h k =
      let first : k.0 ≡ h.0 = (let x = h.2 in let y = k.2 in cc) in
      let rest : k.1 ≡ h.1 = (let x = h.2 in let y = k.2 in cc) in
      both t u ts us (agree_at_one table t u h.0 h.3 (subst (StandsFor table u) first k.3)) (agree_at_ones table ts us h.1 h.4 (subst (StandForAll table us) rest k.4))

-- ids are equal exactly where the terms agree
pub ids_decide : (table : Table) → AreApart table.places → (t u : Term) (a b : TermId) → StandsFor table t a → StandsFor table u b → (a ≡ b) ↔ Agree (swaps_of table.commutative) t u
ids_decide table apart t u a b h k = (
  λ e. agree_at_one table t u a h (subst (StandsFor table u) (sym e) k),
  λ p. one_id table apart u a b ((agreed (swaps_of table.commutative) table refl t u p a).0 h) k,
)
