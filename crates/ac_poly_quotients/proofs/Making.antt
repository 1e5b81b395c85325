-- What the loops that make rows, ways and columns keep.
use Rattle.std.proofs.Common.{◌≡◌, ℕ, ◌+◌, ◌<◌, ◌≤◌, List, [], ◌∷◌, ◌++◌, length, map, drop, get_or, refl, sym, ap, ◌∙◌, append_assoc, append-nil}
use Rattle.std.proofs.lemmas.List.{drop_more, drop_all}
use Rattle.std.specs.List.{AllByRecursion, flat_map}
use Rattle.ac_forms.specs.Affine.{Affine}
use Rattle.ac_forms.specs.declared.row.Row.{Row}
use Rattle.ac_syntax.specs.declared.tree.Comparison.{Comparison}
use Rattle.ac_syntax.specs.declared.tree.Quot.{Quot}
use Rattle.ac_poly_quotients.specs.ComparisonWays.{row_of}
use Rattle.ac_poly_quotients.specs.QuotientScopes.{part_way, part_quots, with_quot, with_quots}
use Rattle.ac_poly_quotients.specs.ScopeRange.{CanDivide, CanNote, CanRow, CanWay}
use Rattle.ac_poly_quotients.specs.declared.types.Scope.{Scope}
use Rattle.ac_poly_quotients.specs.declared.types.Way.{Way}
use Rattle.ac_poly_quotients.proofs.NotedColumns.{grown_one}

-- after i of the things: what is made, and what is left
pub record Made {A B : Type 0} (P : A → Type 0) (f : A → B) (xs : List A) (i : ℕ) (made : List B) : Type 0 where
  pub onward : AllByRecursion P xs → AllByRecursion P (drop i xs)
  pub back : AllByRecursion P (drop i xs) → AllByRecursion P xs
  pub value : map f xs ≡ made ++ map f (drop i xs)

pub made_start : {A B : Type 0} (P : A → Type 0) (f : A → B) (xs : List A) → Made P f xs 0 []
made_start P f xs = record { onward = λ h. h; back = λ h. h; value = refl }

pub more : {A : Type 0} (xs : List A) (i : ℕ) (x : A) → i < length xs → x ≡ get_or xs i x → drop i xs ≡ x ∷ drop (i + 1) xs
more xs i x l e = drop_more xs i x l ∙ ap (λ y. y ∷ drop (i + 1) xs) (sym e)

pub made_step : {A B : Type 0} (P : A → Type 0) (f : A → B) (xs : List A) (i : ℕ) (made new : List B) (x : A) (y : B) → Made P f xs i made → i < length xs → x ≡ get_or xs i x → P x → y ≡ f x → new ≡ made ++ y ∷ [] → Made P f xs (i + 1) new
made_step P f xs i made new x y h l e p m n =
    let d = more xs i x l e in
    record {
      onward = λ g. (rw d at (h.onward g)).1;
      back = λ g. h.back (rw d (p, g));
      value = rw (n, m) (h.value ∙ rw d (sym (append_assoc made (f x ∷ []) (map f (drop (i + 1) xs)))));
    }

pub made_fits : {A B : Type 0} (P : A → Type 0) (f : A → B) (xs : List A) (i : ℕ) (made : List B) (x : A) → Made P f xs i made → i < length xs → x ≡ get_or xs i x → AllByRecursion P xs → P x
made_fits P f xs i made x h l e g = (rw (more xs i x l e) at (h.onward g)).0

pub made_end : {A B : Type 0} (P : A → Type 0) (f : A → B) (xs : List A) (i : ℕ) (made : List B) → Made P f xs i made → length xs ≤ i → AllByRecursion P xs × (made ≡ map f xs)
made_end P f xs i made h l = let d = drop_all i xs l in (h.back (rw d tt), sym ((rw d at h.value) ∙ append-nil made))

-- rows
abbrev pub RowsMade : Scope → List Affine → List Comparison → ℕ → List Row → Type 0
RowsMade sc its xs i made = Made (CanRow sc its) (λ c. row_of (part_way sc its c)) xs i made

pub rows_start : (sc : Scope) (its : List Affine) (xs : List Comparison) → RowsMade sc its xs 0 []
rows_start sc its xs = made_start (CanRow sc its) (λ c. row_of (part_way sc its c)) xs

pub rows_step : (sc : Scope) (its : List Affine) (xs : List Comparison) (i : ℕ) (made new : List Row) (x : Comparison) (y : Row) → RowsMade sc its xs i made → i < length xs → x ≡ get_or xs i x
    → CanRow sc its x × (y ≡ row_of (part_way sc its x)) → new ≡ made ++ y ∷ [] → RowsMade sc its xs (i + 1) new
rows_step sc its xs i made new x y h l e m n = made_step (CanRow sc its) (λ c. row_of (part_way sc its c)) xs i made new x y h l e m.0 m.1 n

pub rows_fits : (sc : Scope) (its : List Affine) (xs : List Comparison) (i : ℕ) (made : List Row) (x : Comparison) → RowsMade sc its xs i made → i < length xs → x ≡ get_or xs i x → AllByRecursion (CanRow sc its) xs → CanRow sc its x
rows_fits sc its xs i made x h l e g = made_fits (CanRow sc its) (λ c. row_of (part_way sc its c)) xs i made x h l e g

pub rows_end : (sc : Scope) (its : List Affine) (xs : List Comparison) (i : ℕ) (made : List Row) → RowsMade sc its xs i made → length xs ≤ i → AllByRecursion (CanRow sc its) xs × (made ≡ map (λ c. row_of (part_way sc its c)) xs)
rows_end sc its xs i made h l = made_end (CanRow sc its) (λ c. row_of (part_way sc its c)) xs i made h l

pub ruleset row_steps = (rows_start, rows_step, rows_fits, rows_end)

-- comparisons that may fail
abbrev pub WaysMade : Scope → List Affine → List Comparison → ℕ → List Way → Type 0
WaysMade sc its xs i made = Made (CanWay sc its) (part_way sc its) xs i made

pub ways_start : (sc : Scope) (its : List Affine) (xs : List Comparison) → WaysMade sc its xs 0 []
ways_start sc its xs = made_start (CanWay sc its) (part_way sc its) xs

pub ways_step : (sc : Scope) (its : List Affine) (xs : List Comparison) (i : ℕ) (made new : List Way) (x : Comparison) (y : Way) → WaysMade sc its xs i made → i < length xs → x ≡ get_or xs i x
    → CanWay sc its x × (y ≡ part_way sc its x) → new ≡ made ++ y ∷ [] → WaysMade sc its xs (i + 1) new
ways_step sc its xs i made new x y h l e m n = made_step (CanWay sc its) (part_way sc its) xs i made new x y h l e m.0 m.1 n

pub ways_fits : (sc : Scope) (its : List Affine) (xs : List Comparison) (i : ℕ) (made : List Way) (x : Comparison) → WaysMade sc its xs i made → i < length xs → x ≡ get_or xs i x → AllByRecursion (CanWay sc its) xs → CanWay sc its x
ways_fits sc its xs i made x h l e g = made_fits (CanWay sc its) (part_way sc its) xs i made x h l e g

pub ways_end : (sc : Scope) (its : List Affine) (xs : List Comparison) (i : ℕ) (made : List Way) → WaysMade sc its xs i made → length xs ≤ i → AllByRecursion (CanWay sc its) xs × (made ≡ map (part_way sc its) xs)
ways_end sc its xs i made h l = made_end (CanWay sc its) (part_way sc its) xs i made h l

pub ruleset way_steps = (ways_start, ways_step, ways_fits, ways_end)

-- columns for quotients: after i of them the rest has to be added to what is there, among the same iterators
pub record NotedSome (old : Scope) (qs : List Quot) (i : ℕ) (now : Scope) : Type 0 where
  pub iters : now.iters ≡ old.iters
  pub onward : CanNote old.iters qs → CanNote old.iters (drop i qs)
  pub back : CanNote old.iters (drop i qs) → CanNote old.iters qs
  pub value : with_quots old qs ≡ with_quots now (drop i qs)

pub noted_start : (old : Scope) (qs : List Quot) → NotedSome old qs 0 old
noted_start old qs = record { iters = refl; onward = λ h. h; back = λ h. h; value = refl }

pub noted_step : (old : Scope) (qs : List Quot) (i : ℕ) (now new : Scope) (q : Quot) → NotedSome old qs i now → i < length qs → q ≡ get_or qs i q → CanDivide now.iters q × (new ≡ with_quot now q) → NotedSome old qs (i + 1) new
noted_step old qs i now new q h l e m =
    let d = more qs i q l e in
    let c : CanDivide old.iters q = rw h.iters at m.0 in
    record {
      iters = ap (λ (x : Scope). x.iters) m.1 ∙ grown_one now q ∙ h.iters;
      onward = λ g. (rw d at (h.onward g)).1;
      back = λ g. h.back (rw d (c, g));
      value = rw m.1 (h.value ∙ ap (with_quots now) d);
    }

pub noted_fits : (old : Scope) (qs : List Quot) (i : ℕ) (now : Scope) (q : Quot) → NotedSome old qs i now → i < length qs → q ≡ get_or qs i q → CanNote old.iters qs → CanDivide now.iters q
noted_fits old qs i now q h l e g = rw h.iters (rw (more qs i q l e) at (h.onward g)).0

pub noted_end : (old : Scope) (qs : List Quot) (i : ℕ) (now : Scope) → NotedSome old qs i now → length qs ≤ i → CanNote old.iters qs × (now ≡ with_quots old qs)
noted_end old qs i now h l = let d = drop_all i qs l in (h.back (rw d tt), sym (rw d at h.value))

pub ruleset noted_steps = (noted_start, noted_step, noted_fits, noted_end)

-- the quotients of a condition
pub record Gathered (cs : List Comparison) (i : ℕ) (made : List Quot) : Type 0 where
  pub value : flat_map part_quots cs ≡ made ++ flat_map part_quots (drop i cs)

pub gathered_start : (cs : List Comparison) → Gathered cs 0 []
gathered_start cs = record { value = refl }

pub gathered_step : (cs : List Comparison) (i : ℕ) (made new : List Quot) (c : Comparison) → Gathered cs i made → i < length cs → c ≡ get_or cs i c → new ≡ made ++ part_quots c → Gathered cs (i + 1) new
gathered_step cs i made new c h l e n = record { value = rw n (h.value ∙ rw (more cs i c l e) (sym (append_assoc made (part_quots c) (flat_map part_quots (drop (i + 1) cs))))) }

pub gathered_end : (cs : List Comparison) (i : ℕ) (made : List Quot) → Gathered cs i made → length cs ≤ i → made ≡ flat_map part_quots cs
gathered_end cs i made h l = sym ((h.value ∙ ap (λ r. made ++ flat_map part_quots r) (drop_all i cs l)) ∙ append-nil made)

pub ruleset gathered_steps = (gathered_start, gathered_step, gathered_end)
