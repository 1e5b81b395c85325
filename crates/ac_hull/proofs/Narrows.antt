-- Rows narrowed by a point, row by row.
use Rattle.std.proofs.Common.{◌≡◌, ◌↔◌, ℕ, ◌+◌, ◌<◌, ◌≤◌, ℤ, List, [], ◌∷◌, ◌++◌, length, drop, get_or, Bool, true, false, cond, if◌then◌else◌, refl, ap, sym, ◌∙◌, arith, append_assoc, append-nil, IsTrue}
use Rattle.std.proofs.lemmas.List.{drop_more, drop_all}
use Rattle.ac_forms.specs.Affine.{CanEvaluate}
use Rattle.ac_forms.specs.Rows.{Holds, form_of}
use Rattle.ac_forms.specs.declared.row.Row.{Row}
use Rattle.ac_forms.proofs.RowTests.{rows_at}
use Rattle.ac_widen.specs.Narrowing.{is_met, narrowed}
use Rattle.ac_widen.proofs.Narrowings.{is_met-is}
use Rattle.ac_hull.specs.Hulls.{CanNarrow}

pub met_is : (p : List ℤ) (r : Row) (b : Bool) → IsTrue b ↔ Holds r p → b ≡ is_met p r
met_is p r b h = same b (is_met p r) (λ t. (is_met-is p r).1 (h.0 t)) (λ t. h.1 ((is_met-is p r).0 t))
  where
    same : (a b : Bool) → (a ≡ true → b ≡ true) → (b ≡ true → a ≡ true) → a ≡ b
    same true b f g = sym (f refl)
    same false true f g = g refl
    same false false f g = refl

pub ruleset met_steps = met_is

pub record NarrowHalfway (rows : List Row) (p : List ℤ) (kept : List Row) (i : ℕ) : Type 0 where
  pub room : i ≤ length rows
  pub onward : CanNarrow rows p → CanNarrow (drop i rows) p
  pub back : CanNarrow (drop i rows) p → CanNarrow rows p
  pub value : narrowed rows p ≡ kept ++ narrowed (drop i rows) p

pub narrow_start : (rows : List Row) (p : List ℤ) → NarrowHalfway rows p [] 0
narrow_start rows p = record { room = omega arith; onward = λ c. c; back = λ c. c; value = refl }

join_one : (b : Bool) (kept rest : List Row) (r : Row) → kept ++ cond b (r ∷ rest) rest ≡ (if b then kept ++ r ∷ [] else kept) ++ rest
join_one true kept rest r = sym (append_assoc kept (r ∷ []) rest)
join_one false kept rest r = refl

pub narrow_step : (rows : List Row) (p : List ℤ) (kept new : List Row) (i : ℕ) (r : Row) → NarrowHalfway rows p kept i → i < length rows → r ≡ get_or rows i r → CanEvaluate (form_of r) p
    → new ≡ (if is_met p r then kept ++ r ∷ [] else kept) → NarrowHalfway rows p new (i + 1)
narrow_step rows p kept new i r h l e can is =
    let d : drop i rows ≡ r ∷ drop (i + 1) rows = rw e (drop_more rows i r l) in
    record {
      room = omega arith;
      onward = λ c. (rw d at (h.onward c)).1;
      back = λ c. h.back (rw d (can, c));
      value = h.value ∙ ap (λ t. kept ++ narrowed t p) d ∙ join_one (is_met p r) kept (narrowed (drop (i + 1) rows) p) r ∙ ap (λ t. t ++ narrowed (drop (i + 1) rows) p) (sym is);
    }

pub narrow_fails : (rows : List Row) (p : List ℤ) (kept : List Row) (i : ℕ) (r : Row) → NarrowHalfway rows p kept i → i < length rows → r ≡ get_or rows i r → ¬ (CanEvaluate (form_of r) p) → ¬ (CanNarrow rows p)
narrow_fails rows p kept i r h l e n c = let d : drop i rows ≡ r ∷ drop (i + 1) rows = rw e (drop_more rows i r l) in n (rw d at (h.onward c)).0

pub narrow_end : (rows : List Row) (p : List ℤ) (kept : List Row) (i : ℕ) → NarrowHalfway rows p kept i → length rows ≤ i → CanNarrow rows p × (kept ≡ narrowed rows p)
narrow_end rows p kept i h l = (h.back (rw (drop_all i rows l) tt), sym ((rw (drop_all i rows l) at h.value) ∙ append-nil kept))

pub ruleset narrow_steps = (narrow_start, narrow_step, narrow_fails, narrow_end, rows_at)

pub kept_met : (p : List ℤ) (r : Row) (b : Bool) (kept new : List Row) → CanEvaluate (form_of r) p × (IsTrue b ↔ Holds r p) → b ≡ true → new ≡ kept ++ r ∷ [] → CanEvaluate (form_of r) p × (new ≡ (if is_met p r then kept ++ r ∷ [] else kept))
kept_met p r b kept new h e is =
    let m : is_met p r ≡ true = sym (met_is p r b h.1) ∙ e in
    (h.0, rw m is)
