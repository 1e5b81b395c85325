-- How the pairs that moves reach are found.
use Rattle.std.proofs.Common.{◌≡◌, ◌↔◌, inl, inr, ℕ, ◌+◌, ◌<◌, ◌≤◌, List, [], ◌∷◌, ◌++◌, length, get_or, refl, sym, ap, subst, ◌∙◌, arith, Some, append_assoc, append-nil, length-append}
use Rattle.std.specs.List.{slice_get}
use Rattle.std.proofs.lemmas.Option.{slice_get_within, slice_get-get_or, slice_get_read}
use Rattle.ac_syntax.specs.declared.tree.Position.{Position}
use Rattle.ac_forms.specs.ListMembers.{IsAmong}
use Rattle.ac_graph.specs.PairMoves.{Dependences, Moves, Reaches, start, move, AreDistinct}
use Rattle.ac_graph.specs.Reachability.{IsMore, Extends, ArePlaces, IsReaching, AreAllReached}
use Rattle.ac_graph.proofs.Members.{in_left, in_at, at_in, get_left, get_before, get_split}

none_got : (next : List (List ℕ)) (i : ℕ) (nodes : List ℕ) → next ≡ [] → slice_get next i ≡ Some nodes → ⊥
none_got next i nodes e f = let g : slice_get [] i ≡ Some nodes = subst (λ (ns : List (List ℕ)). slice_get ns i ≡ Some nodes) e f in absurd cc

pub reaching_start : (d : Dependences) (starts : List (Position × Position)) (next : List (List ℕ)) → AreDistinct starts → next ≡ [] → IsReaching d starts starts next 0
reaching_start d starts next dis e = record {
  more = [];
  is = sym (append-nil starts);
  distinct = dis;
  sound = λ p i. start p i;
  each = ap length e;
  within = omega arith;
  follows = λ i nodes p f g. absurd (none_got next i nodes e f);
}

places_grow : (P : Position × Position → Type 0) (old more new : List (Position × Position)) (places : List ℕ) → new ≡ old ++ more → ArePlaces P old places → ArePlaces P new places
places_grow P old more new places e h =
    let up : (j : ℕ) (q : Position × Position) → slice_get old j ≡ Some q → slice_get new j ≡ Some q = λ j q g. subst (λ (xs : List (Position × Position)). slice_get xs j ≡ Some q) (sym e) (get_left q old more j g) in
    record {
      sound = λ j i. let s = h.sound j i in (s.0, s.1, up j s.0 s.2);
      whole = λ q m. let s = h.whole q m in (s.0, s.1, up s.0 q s.2);
    }

places_as : (P Q : Position × Position → Type 0) (pairs : List (Position × Position)) (places : List ℕ) → ((q : Position × Position) → P q ↔ Q q) → ArePlaces P pairs places → ArePlaces Q pairs places
places_as P Q pairs places f h = record {
  sound = λ j i. let s = h.sound j i in (s.0, (f s.0).0 s.1, s.2);
  whole = λ q m. h.whole q ((f q).1 m);
}

one_item : {A : Type 0} (x y : A) (xs : List A) (k : ℕ) → slice_get xs k ≡ Some x → slice_get xs k ≡ Some y → x ≡ y
one_item x y xs k e f = cc

moves_of : (d : Dependences) (p : Position × Position) (more : List (Position × Position)) → IsMore (Moves d p) [] more → (q : Position × Position) → IsAmong q more ↔ Moves d p q
moves_of d p more h q = ((λ i. elim ((h q).0 i) [ inl n ↦ absurd n | inr m ↦ m ]), (λ m. (h q).1 (inr m)))

pub reaching_next : (d : Dependences) (starts pairs new : List (Position × Position)) (next grown : List (List ℕ)) (at : ℕ) (p : Position × Position) (more seen : List (Position × Position)) (nodes : List ℕ)
    → IsReaching d starts pairs next at → slice_get pairs at ≡ Some p → IsMore (Moves d p) [] more → seen ≡ more → Extends pairs seen new → ArePlaces (λ q. IsAmong q seen) new nodes → grown ≡ next ++ nodes ∷ [] → IsReaching d starts new grown (at + 1)
reaching_next d starts pairs new next grown at p more seen nodes h a m s x l g =
    let inside : at < length pairs = slice_get_within pairs at p a in
    let moved : (q : Position × Position) → IsAmong q seen ↔ Moves d p q = λ q. ((λ i. (moves_of d p more m q).0 (subst (IsAmong q) s i)), (λ n. subst (IsAmong q) (sym s) ((moves_of d p more m q).1 n))) in
    let down : (i : ℕ) (q : Position × Position) → i < length pairs → slice_get new i ≡ Some q → slice_get pairs i ≡ Some q = λ i q b f. get_before q pairs x.more i b (subst (λ (xs : List (Position × Position)). slice_get xs i ≡ Some q) x.is f) in
    record {
      more = h.more ++ x.more;
      is = x.is ∙ ap (λ t. t ++ x.more) h.is ∙ append_assoc starts h.more x.more;
      distinct = x.distinct h.distinct;
      sound = λ q i. elim (x.has q i) [ inl o ↦ h.sound q o | inr n ↦ move p q (h.sound p (in_at p pairs at a)) ((moved q).0 n) ];
      each = ap length g ∙ length-append next (nodes ∷ []) ∙ ap (λ n. n + 1) h.each;
      within = omega (arith, ap length x.is ∙ length-append pairs x.more);
      follows = λ i ns q b f. elim (get_split ns nodes next i (subst (λ (zs : List (List ℕ)). slice_get zs i ≡ Some ns) g b)) [
        | inl e ↦ let w : i < length pairs = (let v = slice_get_within next i ns e in let u = h.each in let t = h.within in omega arith) in
            places_grow (Moves d q) pairs x.more new ns x.is (h.follows i ns q e (down i q w f))
        | inr e ↦ let i_is : i ≡ at = e.0 ∙ h.each in
            let w : i < length pairs = omega arith in
            let same : p ≡ q = one_item p q pairs i (subst (λ (k : ℕ). slice_get pairs k ≡ Some p) (sym i_is) a) (down i q w f) in
            subst (λ (r : Position × Position). ArePlaces (Moves d r) new ns) same (subst (λ (zs : List ℕ). ArePlaces (Moves d p) new zs) (sym e.1) (places_as (λ r. IsAmong r seen) (Moves d p) new nodes moved l))
      ];
    }

reached_in : (d : Dependences) (starts pairs : List (Position × Position)) (next : List (List ℕ)) (at : ℕ) → IsReaching d starts pairs next at → length pairs ≤ at → (p : Position × Position) → Reaches d starts p → IsAmong p pairs
reached_in d starts pairs next at h l p (start q i) = subst (IsAmong q) (sym h.is) (in_left q starts h.more i)
reached_in d starts pairs next at h l p (move r q w m) =
    let i = at_in r pairs (reached_in d starts pairs next at h l r w) in
    let b : i.0 < length next = (let v = slice_get_within pairs i.0 r i.1 in let u = h.each in omega arith) in
    let n = (h.follows i.0 (get_or next i.0 []) r (slice_get-get_or next i.0 [] b) i.1).whole q m in
    in_at q pairs n.0 n.2

pub reaching_end : (d : Dependences) (starts pairs : List (Position × Position)) (next : List (List ℕ)) (at : ℕ) (seen : List (Position × Position)) → IsReaching d starts pairs next at → seen ≡ pairs → length seen ≤ at → AreAllReached d starts pairs next
reaching_end d starts pairs next at seen h s l =
    let e : length pairs ≤ at = (let f = ap length s in omega arith) in
    record {
      more = h.more;
      is = h.is;
      distinct = h.distinct;
      reached = λ p. (h.sound p, reached_in d starts pairs next at h e p);
      each = (let u = h.each in let t = h.within in omega arith);
      follows = h.follows;
    }

pub pair_at : (pairs seen : List (Position × Position)) (at : ℕ) (p : Position × Position) → seen ≡ pairs → at < length seen → p ≡ get_or seen at p → slice_get pairs at ≡ Some p
pair_at pairs seen at p s l e = subst (λ (xs : List (Position × Position)). slice_get xs at ≡ Some p) s (slice_get_read seen (length seen) at p refl l e)
