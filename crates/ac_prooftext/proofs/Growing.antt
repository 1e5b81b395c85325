-- One more line.
use Rattle.std.proofs.Common.{◌≡◌, ◌<◌, ◌≤◌, ◌+◌, ◌-◌, ◌^◌, ℕ, suc, min, max, Bool, true, false, List, [], ◌∷◌, ◌++◌, map, length, Option, None, Some, refl, sym, ap, subst, ◌∙◌, arith, length-append, append_assoc}
use Rattle.std.specs.Prelude.{option_and_then}
use Rattle.std.specs.List.{AllByRecursion}
use Rattle.std.proofs.lemmas.List.{map-append}
use Rattle.ac_claims.specs.declared.item.Item.{Item}
use Rattle.ac_prooftext_lines.specs.Spellable.{IsSpellable}
use Rattle.ac_prooftext_lines.specs.Spelling.{spelled}
use Rattle.ac_prooftext.specs.LineOrder.{Place, next, next_all, start, opens}
use Rattle.ac_prooftext.specs.ProofTexts.{format_line, lines_in, Begin, deepest, deepest_from, capped}
use Rattle.ac_prooftext.specs.LinePrefixes.{IsBroken, format, item, IsWithin}

pub all_more : (xs : List Item) (x : Item) → AllByRecursion IsSpellable xs → IsSpellable x → AllByRecursion IsSpellable (xs ++ x ∷ [])
all_more [] x h k = (k, tt)
all_more (y ∷ ys) x h k = (h.0, all_more ys x h.1 k)

next_more : (p q r : Place) (xs : List Item) (x : Item) → next_all p xs ≡ Some q → next q x ≡ Some r → next_all p (xs ++ x ∷ []) ≡ Some r
next_more p q r [] x e f = ap (λ (o : Place). option_and_then (λ s. Some s) (next o x)) (let t : p ≡ q = cc in t) ∙ ap (option_and_then (λ s. Some s)) f
next_more p q r (y ∷ ys) x e f = by (next p y) e (λ s h. next_more s q r ys x h f)
  where
    by : (o : Option Place) → option_and_then (λ s. next_all s ys) o ≡ Some q → ((s : Place) → next_all s ys ≡ Some q → next_all s (ys ++ x ∷ []) ≡ Some r) → option_and_then (λ s. next_all s (ys ++ x ∷ [])) o ≡ Some r
    by None h rest = absurd cc
    by (Some s) h rest = rest s h

assoc_max : (a b c : ℕ) → max a (max b c) ≡ max (max a b) c
assoc_max a b c = omega arith

deeper : (p q : Place) (xs : List Item) (x : Item) → next_all p xs ≡ Some q → deepest_from (Some p) (xs ++ x ∷ []) ≡ max (deepest_from (Some p) xs) (length q.open_counts + opens x)
deeper p q [] x e = ap (λ (o : Place). max (length o.open_counts + opens x) 0) (let t : p ≡ q = cc in t) ∙ none (length q.open_counts + opens x)
  where
    none : (n : ℕ) → max n 0 ≡ max 0 n
    none n = omega arith
deeper p q (y ∷ ys) x e = by (next p y) e (λ s h. deeper s q ys x h)
  where
    by : (o : Option Place) → option_and_then (λ s. next_all s ys) o ≡ Some q → ((s : Place) → next_all s ys ≡ Some q → deepest_from (Some s) (ys ++ x ∷ []) ≡ max (deepest_from (Some s) ys) (length q.open_counts + opens x))
        → max (length p.open_counts + opens y) (deepest_from o (ys ++ x ∷ [])) ≡ max (max (length p.open_counts + opens y) (deepest_from o ys)) (length q.open_counts + opens x)
    by None h rest = absurd cc
    by (Some s) h rest = ap (λ n. max (length p.open_counts + opens y) n) (rest s h) ∙ assoc_max (length p.open_counts + opens y) (deepest_from (Some s) ys) (length q.open_counts + opens x)

pub lines_more : (shapes : Bool) (xs : List Item) (x : Item) → lines_in shapes xs ++ spelled x ∷ [] ≡ lines_in shapes (xs ++ x ∷ [])
lines_more shapes xs x = ap (λ l. format_line shapes ∷ l) (sym (map-append spelled xs (x ∷ [])))

capped_max : (a b : ℕ) → max (capped a) (capped b) ≡ capped (max a b)
capped_max a b = omega arith

capped_more : (a : ℕ) → capped (capped a + 1) ≡ capped (a + 1)
capped_more a = omega arith

pub opened : (ls : List (List ℕ)) (line : List ℕ) (shapes : Bool) → ls ≡ [] → line ≡ format_line shapes → IsWithin (ls ++ line ∷ []) (start shapes) 1 0
opened ls line shapes none e = record {
  shapes = shapes;
  items = [];
  begin = (tt, refl);
  lines_are = ap (λ l. l ++ line ∷ []) none ∙ ap (λ l. l ∷ []) e;
  count_is = refl;
  depth_is = refl;
}

pub not_opened : (ls : List (List ℕ)) (line : List ℕ) → ls ≡ [] → ((shapes : Bool) → ¬ (line ≡ format_line shapes)) → IsBroken (ls ++ line ∷ []) 0 0
not_opened ls line none other = subst (λ l. IsBroken (l ++ line ∷ []) 0 0) (sym none) (format line [] other)

pub grown : (ls : List (List ℕ)) (p q : Place) (count depth : ℕ) (line : List ℕ) (x : Item) → IsWithin ls p count depth → IsSpellable x → line ≡ spelled x → next p x ≡ Some q
    → IsWithin (ls ++ line ∷ []) q (capped (count + 1)) (max depth (capped (length p.open_counts + opens x)))
grown ls p q count depth line x h can e n = record {
  shapes = h.shapes;
  items = h.items ++ x ∷ [];
  begin = (all_more h.items x h.begin.0 can, next_more (start h.shapes) p q h.items x h.begin.1 n);
  lines_are = ap (λ l. l ++ line ∷ []) h.lines_are ∙ ap (λ l. lines_in h.shapes h.items ++ l ∷ []) e ∙ lines_more h.shapes h.items x;
  count_is = ap (λ c. capped (c + 1)) h.count_is ∙ (capped_more (length h.items + 1) ∙ ap (λ c. capped (c + 1)) (sym (length-append h.items (x ∷ []))));
  depth_is = ap (λ d. max d (capped (length p.open_counts + opens x))) h.depth_is ∙ (capped_max (deepest h.shapes h.items) (length p.open_counts + opens x) ∙ ap capped (sym (deeper (start h.shapes) p h.items x h.begin.1)));
}

pub broken : (ls : List (List ℕ)) (p : Place) (count depth : ℕ) (line : List ℕ) → IsWithin ls p count depth → ((x : Item) (q : Place) → IsSpellable x → next p x ≡ Some q → ¬ (line ≡ spelled x)) → IsBroken (ls ++ line ∷ []) count depth
broken ls p count depth line h none =
    let whole = item h.shapes h.items p line [] h.begin none in
    subst (λ l. IsBroken (l ++ line ∷ []) count depth) (sym h.lines_are)
    (subst (λ c. IsBroken (lines_in h.shapes h.items ++ line ∷ []) c depth) (sym h.count_is) (subst (λ d. IsBroken (lines_in h.shapes h.items ++ line ∷ []) (capped (length h.items + 1)) d) (sym h.depth_is) whole))

pub still_broken : {ls : List (List ℕ)} {count depth : ℕ} (line : List ℕ) → IsBroken ls count depth → IsBroken (ls ++ line ∷ []) count depth
still_broken line (format first more none) = format first (more ++ line ∷ []) none
still_broken line (item shapes xs p bad more begin none) =
    subst (λ l. IsBroken l (capped (length xs + 1)) (capped (deepest shapes xs))) (sym (append_assoc (lines_in shapes xs) (bad ∷ more) (line ∷ []))) (item shapes xs p bad (more ++ line ∷ []) begin none)
