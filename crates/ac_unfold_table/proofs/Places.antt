-- The new places of columns, one after the other.
use Rattle.std.proofs.Common.{◌≡◌, ℕ, zero, suc, ◌+◌, ◌-◌, ◌<◌, ◌≤◌, List, [], ◌∷◌, ◌++◌, length, drop, get_or, cond, true, false, Bool, Option, Some, None, refl, sym, ap, ◌∙◌, subst, arith, append_assoc, append-nil}
use Rattle.std.specs.Prelude.{Vec, nat_eq, option_map, unwrap_or}
use Rattle.std.specs.declared.alloc.Global.{Global}
use Rattle.std.specs.List.{range_with_len}
use Rattle.std.proofs.lemmas.Bool.{eqb-true}
use Rattle.ac_unfold_table.specs.QuestionRelations.{next_place, place_of, places_from, places_of}

-- ---- the place of one column

-- it is that in what is behind so many
pub record IsBehind (own : List ℕ) (column at : ℕ) : Type 0 where
  pub same : place_of own column ≡ option_map (λ k. at + k) (place_of (drop at own) column)

same_option : (o : Option ℕ) → o ≡ option_map (λ k. 0 + k) o
same_option None = refl
same_option (Some k) = ap Some (omega arith)

pub behind_none : (own : List ℕ) (column : ℕ) → IsBehind own column 0
behind_none own column = record { same = same_option (place_of own column) }

drop_get : (own : List ℕ) (at : ℕ) → at < length own → drop at own ≡ get_or own at 0 ∷ drop (at + 1) own
drop_get [] at l = absurd (omega (arith, l))
drop_get (k ∷ own) zero l = refl
drop_get (k ∷ own) (suc at) l = drop_get own at (omega (arith, l)) ∙ ap (λ n. get_or own at 0 ∷ drop n (k ∷ own)) (let e : suc (at + 1) ≡ suc at + 1 = omega arith in e)

shifted : (at : ℕ) (o : Option ℕ) → option_map (λ k. at + k) (option_map suc o) ≡ option_map (λ k. at + 1 + k) o
shifted at None = refl
shifted at (Some k) = ap Some (omega arith)

pub no_eq : (k c : ℕ) → ¬ (k ≡ c) → nat_eq k c ≡ false
no_eq k c h = by (nat_eq k c) refl
  where
    by : (b : Bool) → nat_eq k c ≡ b → b ≡ false
    by true e = absurd (h (eqb-true k c e))
    by false e = refl

pub is_eq : (k c : ℕ) → k ≡ c → nat_eq k c ≡ true
is_eq k c e = subst (λ z. nat_eq k z ≡ true) e (grind arith)

pub behind_more : (own : List ℕ) (column at : ℕ) → IsBehind own column at → at < length own → ¬ (get_or own at 0 ≡ column) → IsBehind own column (at + 1)
behind_more own column at h l n = record {
  same = h.same ∙ ap (λ xs. option_map (λ k. at + k) (place_of xs column)) (drop_get own at l) ∙ ap (λ b. option_map (λ k. at + k) (cond b (Some 0) (option_map suc (place_of (drop (at + 1) own) column)))) (no_eq (get_or own at 0) column n) ∙ shifted at (place_of (drop (at + 1) own) column);
}

pub behind_found : (own : List ℕ) (column at : ℕ) → IsBehind own column at → at < length own → get_or own at 0 ≡ column → Some at ≡ place_of own column
behind_found own column at h l e =
    let found : place_of own column ≡ option_map (λ k. at + k) (Some 0) =
    h.same ∙ ap (λ xs. option_map (λ k. at + k) (place_of xs column)) (drop_get own at l) ∙ ap (λ b. option_map (λ k. at + k) (cond b (Some 0) (option_map suc (place_of (drop (at + 1) own) column)))) (is_eq (get_or own at 0) column e) in
    sym (found ∙ ap Some (omega arith))

drop_past : (own : List ℕ) (at : ℕ) → length own ≤ at → drop at own ≡ []
drop_past [] zero l = refl
drop_past [] (suc at) l = refl
drop_past (k ∷ own) zero l = absurd (omega (arith, l))
drop_past (k ∷ own) (suc at) l = drop_past own at (omega (arith, l))

pub behind_end : (own : List ℕ) (column at : ℕ) → IsBehind own column at → length own ≤ at → None ≡ place_of own column
behind_end own column at h l = sym (h.same ∙ ap (λ xs. option_map (λ k. at + k) (place_of xs column)) (drop_past own at l))

-- ---- the places of all

-- those of the first columns are there, and those of the others are to come
pub record ArePlaced (own : List ℕ) (columns column further : ℕ) (places : List ℕ) : Type 0 where
  pub all : places ++ places_from own further (range_with_len column (columns - column)) ≡ places_of own columns

pub placed_none : (own : List ℕ) (columns : ℕ) → ArePlaced own columns 0 (length own) []
placed_none own columns = record { all = ap (λ n. places_from own (length own) (range_with_len 0 n)) (let e : columns - 0 ≡ columns = omega arith in e) }

range_next : (column columns : ℕ) → column < columns → range_with_len column (columns - column) ≡ column ∷ range_with_len (column + 1) (columns - (column + 1))
range_next column columns l = ap (range_with_len column) (let e : columns - column ≡ suc (columns - (column + 1)) = omega (arith, l) in e)

pub placed_at : (own : List ℕ) (columns column further at : ℕ) (places new : List ℕ) → ArePlaced own columns column further places → column < columns → Some at ≡ place_of own column → new ≡ places ++ at ∷ [] → ArePlaced own columns (column + 1) further new
placed_at own columns column further at places new h l e n =
    let rest = range_with_len (column + 1) (columns - (column + 1)) in
    let step : places ++ (at ∷ places_from own further rest) ≡ places_of own columns =
    subst (λ (o : Option ℕ). places ++ (unwrap_or o further ∷ places_from own (next_place o further) rest) ≡ places_of own columns) (sym e) (subst (λ (cs : List ℕ). places ++ places_from own further cs ≡ places_of own columns) (range_next column columns l) h.all) in
    record { all = ap (λ xs. xs ++ places_from own further rest) n ∙ append_assoc places (at ∷ []) (places_from own further rest) ∙ step }

pub placed_further : (own : List ℕ) (columns column further next : ℕ) (places new : List ℕ) → ArePlaced own columns column further places → column < columns → None ≡ place_of own column → new ≡ places ++ further ∷ [] → next ≡ further + 1 → ArePlaced own columns (column + 1) next new
placed_further own columns column further next places new h l e n m =
    let rest = range_with_len (column + 1) (columns - (column + 1)) in
    let step : places ++ (further ∷ places_from own (further + 1) rest) ≡ places_of own columns =
    subst (λ (o : Option ℕ). places ++ (unwrap_or o further ∷ places_from own (next_place o further) rest) ≡ places_of own columns) (sym e) (subst (λ (cs : List ℕ). places ++ places_from own further cs ≡ places_of own columns) (range_next column columns l) h.all) in
    let all : new ++ places_from own (further + 1) rest ≡ places_of own columns = ap (λ xs. xs ++ places_from own (further + 1) rest) n ∙ append_assoc places (further ∷ []) (places_from own (further + 1) rest) ∙ step in
    record { all = subst (λ k. new ++ places_from own k rest ≡ places_of own columns) (sym m) all }

pub placed_same : (own : List ℕ) (columns column further next : ℕ) (places : List ℕ) → next ≡ further → ArePlaced own columns column further places → ArePlaced own columns column next places
placed_same own columns column further next places e h = subst (λ k. ArePlaced own columns column k places) (sym e) h

pub items_of : (v w : Vec ℕ Global) → v ≡ w → v.items ≡ w.items
items_of v w e = ap (λ (x : Vec ℕ Global). x.items) e

pub placed_all : (own : List ℕ) (columns column further : ℕ) (places : List ℕ) → ArePlaced own columns column further places → columns ≤ column → places ≡ places_of own columns
placed_all own columns column further places h l =
    let none : columns - column ≡ 0 = omega (arith, l) in
    sym (append-nil places) ∙ subst (λ n. places ++ places_from own further (range_with_len column n) ≡ places_of own columns) none h.all

pub ruleset behind_steps = (behind_none, behind_more, behind_found, behind_end)

pub ruleset placed_steps = (placed_none, placed_at, placed_further, placed_all)
