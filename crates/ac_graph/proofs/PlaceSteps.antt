-- How lists of pairs grow: places of pairs, and edges of cases.
use Rattle.std.proofs.Common.{◌≡◌, ◌↔◌, inl, inr, ℕ, ◌+◌, ◌<◌, ◌≤◌, List, [], ◌∷◌, ◌++◌, length, take, get_or, refl, sym, ap, subst, ◌∙◌, arith, Some, false, append_assoc, append-nil}
use Rattle.std.specs.List.{slice_get}
use Rattle.std.proofs.lemmas.List.{take_all}
use Rattle.std.proofs.lemmas.Option.{slice_get_within, slice_get-get_or}
use borrow.Author.Count.{below_more}
use Rattle.ac_syntax.specs.declared.tree.Position.{Position}
use Rattle.ac_flow.specs.declared.types.Case.{Case}
use Rattle.ac_flow.specs.declared.types.Flow.{Flow}
use Rattle.ac_flow.specs.declared.types.ReadFlow.{ReadFlow}
use Rattle.ac_forms.specs.ListMembers.{IsAmong}
use Rattle.ac_graph.specs.PairMoves.{IsEdge, target, AreDistinct}
use Rattle.ac_claims.specs.ProofEnds.{same_pair}
use Rattle.ac_graph.specs.Reachability.{IsMore, IsEdgeOf, IsEdgeOfOne, IsEdgeAmong, Extends, ArePlaces}
use Rattle.ac_graph.proofs.Members.{in_left, in_right, in_last, in_at, at_in, in_more, in_grown, get_left, get_last, get_split}
use Rattle.ac_graph.proofs.MoveSteps.{pair_not, more_known, more_push, more_then, more_same}

pub place_next : (pairs : List (Position × Position)) (p : Position × Position) (i : ℕ) (d : Position × Position) → ((k : ℕ) → k < i → ¬ (slice_get pairs k ≡ Some p)) → i < length pairs → same_pair (get_or pairs i d) p ≡ false
    → (k : ℕ) → k < i + 1 → ¬ (slice_get pairs k ≡ Some p)
place_next pairs p i d h l f =
    below_more (λ k. ¬ (slice_get pairs k ≡ Some p)) i h
    (λ e. let g = slice_get-get_or pairs i d l in let s : get_or pairs i d ≡ p = cc in pair_not (get_or pairs i d) p f s)

pub place_none : (pairs : List (Position × Position)) (p : Position × Position) (i : ℕ) → ((k : ℕ) → k < i → ¬ (slice_get pairs k ≡ Some p)) → length pairs ≤ i → ¬ (IsAmong p pairs)
place_none pairs p i h l m = let k = at_in p pairs m in let b = slice_get_within pairs k.0 p k.1 in h k.0 (omega arith) k.1

pub new_known : (pairs seen : List (Position × Position)) (p : Position × Position) (k : ℕ) → seen ≡ pairs → slice_get seen k ≡ Some p → IsMore (λ q. q ≡ p) pairs pairs
new_known pairs seen p k s e = more_known (λ q. q ≡ p) pairs (λ q h. subst (λ (x : Position × Position). IsAmong x pairs) (sym h) (subst (IsAmong p) s (in_at p seen k e)))

pub new_pushed : (pairs new : List (Position × Position)) (p : Position × Position) → new ≡ pairs ++ p ∷ [] → IsMore (λ q. q ≡ p) pairs new
new_pushed pairs new p e = more_push (λ q. q ≡ p) pairs new p e (λ q. ((λ h. h), (λ h. h)))

pub edge_pushed : (p : Position) (case : Case) (old new : List (Position × Position)) → ¬ (case.pieces ≡ []) → IsMore (λ q. q ≡ (p, target p case.source)) old new → IsMore (IsEdgeOfOne p case) old new
edge_pushed p case old new n h = more_same (λ q. q ≡ (p, target p case.source)) (IsEdgeOfOne p case) old new h (λ q. ((λ e. e.1), (λ e. (n, e))))

pub case_step : (p : Position) (cases : List Case) (i : ℕ) (x : Case) (old mid new : List (Position × Position)) → IsMore (IsEdgeOf p (take i cases)) old mid → i < length cases → x ≡ get_or cases i x → IsMore (IsEdgeOfOne p x) mid new
    → IsMore (IsEdgeOf p (take (i + 1) cases)) old new
case_step p cases i x old mid new f l is g =
    more_then (IsEdgeOf p (take i cases)) (IsEdgeOfOne p x) (IsEdgeOf p (take (i + 1) cases)) old mid new f g
    (λ q. (
      (λ h. elim (in_more h.0 x cases i l h.1) [ inl a ↦ inl (h.0, a, h.2, h.3) | inr b ↦ inr (subst (λ (y : Case). IsEdgeOfOne p y q) (b ∙ sym is) (h.2, h.3)) ]),
      (λ h. elim h [ inl a ↦ (a.0, in_grown a.0 x cases i l (inl a.1), a.2, a.3) | inr b ↦ (x, in_grown x x cases i l (inr is), b.0, b.1) ]),
    ))

pub case_end : (p : Position) (cases : List Case) (i : ℕ) (old new : List (Position × Position)) → IsMore (IsEdgeOf p (take i cases)) old new → length cases ≤ i → IsMore (IsEdgeOf p cases) old new
case_end p cases i old new f l = subst (λ (cs : List Case). IsMore (IsEdgeOf p cs) old new) (take_all i cases l) f

pub read_step : (reads : List ReadFlow) (i : ℕ) (x : ReadFlow) (old mid new : List (Position × Position)) → IsMore (IsEdgeAmong (take i reads)) old mid → i < length reads → x ≡ get_or reads i x → IsMore (IsEdgeOf x.position x.cases) mid new
    → IsMore (IsEdgeAmong (take (i + 1) reads)) old new
read_step reads i x old mid new f l is g =
    more_then (IsEdgeAmong (take i reads)) (IsEdgeOf x.position x.cases) (IsEdgeAmong (take (i + 1) reads)) old mid new f g
    (λ q. (
      (λ h. elim (in_more h.0 x reads i l h.1) [ inl a ↦ inl (h.0, a, h.2) | inr b ↦ inr (subst (λ (y : ReadFlow). IsEdgeOf y.position y.cases q) (b ∙ sym is) h.2) ]),
      (λ h. elim h [ inl a ↦ (a.0, in_grown a.0 x reads i l (inl a.1), a.2) | inr b ↦ (x, in_grown x x reads i l (inr is), b) ]),
    ))

pub edges_made : (f : Flow) (i : ℕ) (reads : List ReadFlow) (made : List (Position × Position)) → reads ≡ f.reads → IsMore (IsEdgeAmong (take i reads)) [] made → length reads ≤ i → (p q : Position) → IsAmong (p, q) made ↔ IsEdge f p q
edges_made f i reads made s h l p q =
    let m : IsMore (IsEdgeAmong f.reads) [] made = subst (λ (rs : List ReadFlow). IsMore (IsEdgeAmong rs) [] made) (take_all i reads l ∙ s) h in (
      (λ n. elim ((m (p, q)).0 n) [ inl a ↦ absurd a | inr b ↦ record { read = b.0; among = b.1; case = b.2.0; case_among = b.2.1; left = b.2.2; from_is = ap (λ (r : Position × Position). r.0) b.2.3; to_is = ap (λ (r : Position × Position). r.1) b.2.3 } ]),
      (λ e. let x = e.from_is in let y = e.to_is in (m (p, q)).1 (inr (e.read, e.among, (e.case, e.case_among, e.left, (λ j. (x j, y j)))))),
    )

-- places
pub extends_known : (old : List (Position × Position)) (p : Position × Position) → IsAmong p old → Extends old (p ∷ []) old
extends_known old p i = record {
  more = [];
  is = sym (append-nil old);
  has = λ q h. inl h;
  keeps = λ q h. elim h [ inl e ↦ subst (λ (x : Position × Position). IsAmong x old) (sym e) i | inr n ↦ absurd n ];
  distinct = λ d. d;
}

distinct_push : (old : List (Position × Position)) (p : Position × Position) → ¬ (IsAmong p old) → AreDistinct old → AreDistinct (old ++ p ∷ [])
distinct_push old p n d i j q a b =
    elim (get_split q p old i a) [
      | inl x ↦ elim (get_split q p old j b) [ inl y ↦ d i j q x y | inr y ↦ absurd (n (subst (λ (z : Position × Position). IsAmong z old) y.1 (in_at q old i x))) ]
      | inr x ↦ elim (get_split q p old j b) [ inl y ↦ absurd (n (subst (λ (z : Position × Position). IsAmong z old) x.1 (in_at q old j y))) | inr y ↦ x.0 ∙ sym y.0 ]
    ]

pub extends_new : (old new : List (Position × Position)) (p : Position × Position) → new ≡ old ++ p ∷ [] → ¬ (IsAmong p old) → Extends old (p ∷ []) new
extends_new old new p e n = record {
  more = p ∷ [];
  is = e;
  has = λ q h. elim (in_last q p old (subst (IsAmong q) e h)) [ inl a ↦ inl a | inr b ↦ inr (inl b) ];
  keeps = λ q h. subst (IsAmong q) (sym e) (in_right q old (p ∷ []) h);
  distinct = λ d. subst AreDistinct (sym e) (distinct_push old p n d);
}

pub placed_last : (old new : List (Position × Position)) (p : Position × Position) (k : ℕ) → new ≡ old ++ p ∷ [] → k ≡ length old → slice_get new k ≡ Some p
placed_last old new p k e l = rw (e, l) (get_last p old)

pub places_step : (old more : List (Position × Position)) (i : ℕ) (d : Position × Position) (mid new : List (Position × Position)) (made grown : List ℕ) (found : ℕ)
    → Extends old (take i more) mid × ArePlaces (λ q. IsAmong q (take i more)) mid made → i < length more → Extends mid (get_or more i d ∷ []) new → slice_get new found ≡ Some (get_or more i d) → grown ≡ made ++ found ∷ []
    → Extends old (take (i + 1) more) new × ArePlaces (λ q. IsAmong q (take (i + 1) more)) new grown
places_step old more i d mid new made grown found h l b a g =
    let x = get_or more i d in
    let up : (k : ℕ) (q : Position × Position) → slice_get mid k ≡ Some q → slice_get new k ≡ Some q = λ k q e. subst (λ (xs : List (Position × Position)). slice_get xs k ≡ Some q) (sym b.is) (get_left q mid b.more k e) in (
      record {
        more = h.0.more ++ b.more;
        is = b.is ∙ ap (λ t. t ++ b.more) h.0.is ∙ append_assoc old h.0.more b.more;
        has = λ q n. elim (b.has q n) [ inl m ↦ elim (h.0.has q m) [ inl o ↦ inl o | inr t ↦ inr (in_grown q d more i l (inl t)) ] | inr m ↦ inr (in_grown q d more i l (inr (elim m [ inl e ↦ e | inr z ↦ absurd z ]))) ];
        keeps = λ q n. elim (in_more q d more i l n) [ inl t ↦ subst (IsAmong q) (sym b.is) (in_left q mid b.more (h.0.keeps q t)) | inr e ↦ b.keeps q (inl e) ];
        distinct = λ o. b.distinct (h.0.distinct o);
      },
      record {
        sound = λ j n. elim (in_last j found made (subst (IsAmong j) g n)) [
          | inl m ↦ let s = h.1.sound j m in (s.0, in_grown s.0 d more i l (inl s.1), up j s.0 s.2)
          | inr e ↦ (x, in_grown x d more i l (inr refl), subst (λ (k : ℕ). slice_get new k ≡ Some x) (sym e) a)
        ];
        whole = λ q n. elim (in_more q d more i l n) [
          | inl t ↦ let s = h.1.whole q t in (s.0, subst (IsAmong s.0) (sym g) (in_left s.0 made (found ∷ []) s.1), up s.0 q s.2)
          | inr e ↦ (found, subst (IsAmong found) (sym g) (in_right found made (found ∷ []) (inl refl)), a ∙ ap Some (sym e))
        ];
      },
    )

pub places_end : (more : List (Position × Position)) (i : ℕ) (pairs : List (Position × Position)) (made : List ℕ) → ArePlaces (λ q. IsAmong q (take i more)) pairs made → length more ≤ i → ArePlaces (λ q. IsAmong q more) pairs made
places_end more i pairs made h l = subst (λ (ms : List (Position × Position)). ArePlaces (λ q. IsAmong q ms) pairs made) (take_all i more l) h
