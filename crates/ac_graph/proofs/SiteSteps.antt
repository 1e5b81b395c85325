-- Sites among pairs, and the pairs that all begins with.
use Rattle.std.proofs.Common.{◌≡◌, ◌↔◌, ◌⊎◌, inl, inr, ℕ, zero, suc, ◌+◌, ◌<◌, ◌≤◌, List, [], ◌∷◌, ◌++◌, length, take, get_or, refl, sym, ap, subst, ◌∙◌, Some, Bool, true, false, ◌&&◌}
use Rattle.std.specs.Prelude.{nat_eq}
use Rattle.std.specs.Cmp.Lexicographic.{pointwise}
use Rattle.std.specs.List.{slice_get}
use Rattle.std.proofs.lemmas.Bool.{eq-eqb}
use Rattle.std.proofs.lemmas.Bool.Decides.{Decides-eqb}
use Rattle.std.proofs.lemmas.List.{take_all, map_more}
use Rattle.std.proofs.lemmas.Slice.Eq.{slice_eq-Decides}
use Rattle.ac_syntax.specs.declared.tree.Position.{Position}
use Rattle.ac_syntax.specs.declared.tree.Site.{Site}
use Rattle.ac_syntax.specs.declared.tree.Symbol.{Symbol}
use Rattle.ac_claims_paths.specs.PathSteps.{Pairing, same_symbol}
use Rattle.ac_forms.specs.ListMembers.{IsAmong}
use Rattle.ac_claims_paths.specs.ModelPositions.{CallAt, call_at}
use Rattle.ac_graph.specs.PairMoves.{Dependences, IsSite, AreSites, AreDistinct, Reaches, start, move, start_of, starts_of}
use Rattle.ac_graph.specs.Reachability.{Extends}
use Rattle.ac_graph.proofs.Members.{in_left, in_right, in_last, in_more, in_grown}

same_some : {A : Type 0} (x y : A) → Some x ≡ Some y → x ≡ y
same_some x y e = cc

true_both : (a b : Bool) → a ≡ true → b ≡ true → (a && b) ≡ true
true_both a b e f = rw (e, f) refl

pub symbol_self : (f : Symbol) → same_symbol f f ≡ true
symbol_self f = true_both (nat_eq f.arity f.arity) (pointwise nat_eq f.name f.name) (eq-eqb f.arity f.arity refl) ((slice_eq-Decides Decides-eqb f.name f.name _ refl).1 refl)

pub site_swaps : (g : Pairing) (swaps : Symbol → Bool) (p : Position × Position) (left right : CallAt) (r : Bool) → ((s : Symbol) → g.swaps s ≡ swaps s) → call_at g.left p.0 ≡ Some left → call_at g.right p.1 ≡ Some right → left.symbol ≡ right.symbol → r ≡ swaps left.symbol
    → (r ≡ true) ↔ IsSite g p
site_swaps g swaps p left right r same a b o i = (
  (λ e. record { left = left; right = right; left_is = a; right_is = b; one_symbol = o; swaps = same left.symbol ∙ sym i ∙ e }),
  (λ s. let x = same_some s.left left (sym s.left_is ∙ a) in i ∙ sym (same left.symbol) ∙ ap (λ (c : CallAt). g.swaps c.symbol) (sym x) ∙ s.swaps),
)

pub no_site : (g : Pairing) (p : Position × Position) (left right : CallAt) (r : Bool) → call_at g.left p.0 ≡ Some left → call_at g.right p.1 ≡ Some right → r ≡ same_symbol left.symbol right.symbol → r ≡ false → (r ≡ true) ↔ IsSite g p
no_site g p left right r a b i f = (
  (λ e. let c : false ≡ true = sym f ∙ e in absurd cc),
  (λ s. let x = same_some s.left left (sym s.left_is ∙ a) in let y = same_some s.right right (sym s.right_is ∙ b) in
      let o : left.symbol ≡ right.symbol = ap (λ (c : CallAt). c.symbol) (sym x) ∙ s.one_symbol ∙ ap (λ (c : CallAt). c.symbol) y in
      i ∙ subst (λ (f : Symbol). same_symbol left.symbol f ≡ true) o (symbol_self left.symbol)),
)

pub sites_pushed : (old new : List Site) (p : Position × Position) (P : Type 0) → new ≡ old ++ record { left = p.0; right = p.1 } ∷ [] → P → (s : Site) → IsAmong s new ↔ (IsAmong s old ⊎ (((s.left, s.right) ≡ p) × P))
sites_pushed old new p P e h s = (
  (λ i. elim (in_last s (record { left = p.0; right = p.1 }) old (subst (IsAmong s) e i)) [ inl a ↦ inl a | inr b ↦ inr ((λ n. ((b n).left, (b n).right)), h) ]),
  (λ i. subst (IsAmong s) (sym e) (elim i [ inl a ↦ in_left s old (record { left = p.0; right = p.1 } ∷ []) a | inr b ↦ let x = b.0 in in_right s old (record { left = p.0; right = p.1 } ∷ []) (inl (λ n. record { left = (x n).0; right = (x n).1 })) ])),
)

pub sites_step : (g : Pairing) (pairs : List (Position × Position)) (i : ℕ) (d : Position × Position) (old new : List Site) → ((s : Site) → IsAmong s old ↔ (IsAmong (s.left, s.right) (take i pairs) × IsSite g (s.left, s.right))) → i < length pairs
    → ((s : Site) → IsAmong s new ↔ (IsAmong s old ⊎ (((s.left, s.right) ≡ get_or pairs i d) × IsSite g (get_or pairs i d)))) → (s : Site) → IsAmong s new ↔ (IsAmong (s.left, s.right) (take (i + 1) pairs) × IsSite g (s.left, s.right))
sites_step g pairs i d old new h l f s = (
  (λ n. elim ((f s).0 n) [
    | inl a ↦ let m = (h s).0 a in (in_grown (s.left, s.right) d pairs i l (inl m.0), m.1)
    | inr b ↦ (in_grown (s.left, s.right) d pairs i l (inr b.0), subst (λ (p : Position × Position). IsSite g p) (sym b.0) b.1)
  ]),
  (λ n. (f s).1 (elim (in_more (s.left, s.right) d pairs i l n.0) [ inl a ↦ inl ((h s).1 (a, n.1)) | inr b ↦ inr (b, subst (λ (p : Position × Position). IsSite g p) b n.1) ])),
)

pub sites_start : (g : Pairing) (pairs : List (Position × Position)) (made : List Site) → made ≡ [] → (s : Site) → IsAmong s made ↔ (IsAmong (s.left, s.right) (take 0 pairs) × IsSite g (s.left, s.right))
sites_start g pairs made e s = ((λ i. absurd (subst (IsAmong s) e i)), (λ i. absurd i.0))

pub sites_end : (g : Pairing) (pairs : List (Position × Position)) (i : ℕ) (made : List Site) → ((s : Site) → IsAmong s made ↔ (IsAmong (s.left, s.right) (take i pairs) × IsSite g (s.left, s.right))) → length pairs ≤ i → AreSites g pairs made
sites_end g pairs i made h l = subst (λ (ps : List (Position × Position)). AreSites g ps made) (take_all i pairs l) h

-- the pairs that all begins with
pub record AreStarts (outputs : List ℕ) (made : List (Position × Position)) : Type 0 where
  pub distinct : AreDistinct made
  pub are : (p : Position × Position) → IsAmong p made ↔ IsAmong p (starts_of outputs)

pub starts_start : (outputs : List ℕ) (made : List (Position × Position)) → made ≡ [] → AreStarts (take 0 outputs) made
starts_start outputs made e = subst (λ (m : List (Position × Position)). AreStarts (take 0 outputs) m) (sym e) (record { distinct = λ i j p a b. absurd cc; are = λ p. ((λ h. absurd h), (λ h. absurd h)) })

pub starts_step : (outputs : List ℕ) (i : ℕ) (old new : List (Position × Position)) → AreStarts (take i outputs) old → i < length outputs → Extends old (start_of (get_or outputs i 0) ∷ []) new → AreStarts (take (i + 1) outputs) new
starts_step outputs i old new h l x =
    let e : starts_of (take (i + 1) outputs) ≡ starts_of (take i outputs) ++ start_of (get_or outputs i 0) ∷ [] = map_more start_of outputs i 0 l in
    record {
      distinct = x.distinct h.distinct;
      are = λ p. (
        (λ n. subst (IsAmong p) (sym e) (elim (x.has p n) [ inl a ↦ in_left p (starts_of (take i outputs)) (start_of (get_or outputs i 0) ∷ []) ((h.are p).0 a) | inr b ↦ in_right p (starts_of (take i outputs)) (start_of (get_or outputs i 0) ∷ []) b ])),
        (λ n. elim (in_last p (start_of (get_or outputs i 0)) (starts_of (take i outputs)) (subst (IsAmong p) e n)) [
          | inl a ↦ subst (IsAmong p) (sym x.is) (in_left p old x.more ((h.are p).1 a))
          | inr b ↦ x.keeps p (inl b)
        ]),
      );
    }

pub starts_end : (outputs : List ℕ) (i : ℕ) (made : List (Position × Position)) → AreStarts (take i outputs) made → length outputs ≤ i → AreStarts outputs made
starts_end outputs i made h l = subst (λ (os : List ℕ). AreStarts os made) (take_all i outputs l) h

-- what moves reach depends on which pairs all begins with, and not on their order
pub reaches_as : (d : Dependences) (starts others : List (Position × Position)) → ((p : Position × Position) → IsAmong p starts → IsAmong p others) → (p : Position × Position) → Reaches d starts p → Reaches d others p
reaches_as d starts others f p (start q i) = start q (f q i)
reaches_as d starts others f p (move q r w m) = move q r (reaches_as d starts others f q w) m

one_distinct : (p : Position × Position) → AreDistinct (p ∷ [])
one_distinct p zero zero q a b = refl
one_distinct p zero (suc j) q a b = absurd cc
one_distinct p (suc i) j q a b = absurd cc

pub distinct_one : (starts : List (Position × Position)) (p : Position × Position) → starts ≡ p ∷ [] → AreDistinct starts
distinct_one starts p e = subst AreDistinct (sym e) (one_distinct p)

pub first_of : (starts more pairs : List (Position × Position)) (p : Position × Position) → starts ≡ p ∷ [] → pairs ≡ starts ++ more → slice_get pairs 0 ≡ Some p
first_of starts more pairs p e f = rw (f, e) refl
