-- What the loop over the levels keeps.
use Rattle.std.proofs.Common.{◌≡◌, ℕ, suc, ◌+◌, ◌-◌, ◌<◌, ◌≤◌, List, [], ◌∷◌, ◌++◌, Bool, true, false, cond, sym, ap, ◌∙◌, arith, append_assoc, append-nil, negsuc, pos}
use Rattle.ac_forms.specs.Affine.{Affine}
use Rattle.ac_forms.specs.declared.row.Row.{Row}
use Rattle.ac_forms.specs.declared.row.Row.TheVariants.{Ge, Eq}
use Rattle.ac_syntax.specs.LoopNests.{common}
use Rattle.ac_poly.specs.LevelRows.{difference, levels, levels_from}

-- after k levels: those that are made, and those that follow
pub record Levelled (i j : ℕ) (ls ms : List ℕ) (text : Bool) (made : List (List Row)) (done : List Row) (k : ℕ) : Type 0 where
  pub all : levels i j ls ms text ≡ made ++ levels_from (common ls ms - k) (i + k) (j + k) text done

pub levelled_start : (i j : ℕ) (ls ms : List ℕ) (text : Bool) → Levelled i j ls ms text [] [] 0
levelled_start i j ls ms text = record { all = λ t. levels_from (whole (common ls ms) t) (here i t) (here j t) text [] }
  where
    whole : (c : ℕ) → c ≡ c - 0
    whole c = omega arith

    here : (n : ℕ) → n ≡ n + 0
    here n = omega arith

left_over : (c k : ℕ) → k < c → c - k ≡ suc (c - (k + 1))
left_over c k h = omega arith

next_column : (n k : ℕ) → n + k + 1 ≡ n + (k + 1)
next_column n k = omega arith

pub levelled_step : (i j : ℕ) (ls ms : List ℕ) (text : Bool) (made new : List (List Row)) (done next : List Row) (k : ℕ) (rising equal : Affine)
    → Levelled i j ls ms text made done k → k < common ls ms → rising ≡ difference (i + k) (j + k) (negsuc 0) → equal ≡ difference (i + k) (j + k) (pos 0)
    → new ≡ made ++ (done ++ Ge rising ∷ []) ∷ [] → next ≡ done ++ Eq equal ∷ [] → Levelled i j ls ms text new next (k + 1)
levelled_step i j ls ms text made new done next k rising equal h l r e a b = record {
  all =
      h.all
      ∙ ap (λ c. made ++ levels_from c (i + k) (j + k) text done) (left_over (common ls ms) k l)
      ∙ sym (append_assoc made ((done ++ Ge (difference (i + k) (j + k) (negsuc 0)) ∷ []) ∷ []) (levels_from (common ls ms - (k + 1)) (i + k + 1) (j + k + 1) text (done ++ Eq (difference (i + k) (j + k) (pos 0)) ∷ [])))
      ∙ (λ t. (made ++ (done ++ Ge (sym r t) ∷ []) ∷ []) ++ levels_from (common ls ms - (k + 1)) (next_column i k t) (next_column j k t) text (done ++ Eq (sym e t) ∷ []))
      ∙ (λ t. sym a t ++ levels_from (common ls ms - (k + 1)) (i + (k + 1)) (j + (k + 1)) text (sym b t));
}

none_left : (c k : ℕ) → c ≤ k → c - k ≡ 0
none_left c k h = omega arith

pub levelled_end : (i j : ℕ) (ls ms : List ℕ) (text : Bool) (made : List (List Row)) (done : List Row) (k : ℕ) → Levelled i j ls ms text made done k → common ls ms ≤ k
    → levels i j ls ms text ≡ made ++ cond text (done ∷ []) []
levelled_end i j ls ms text made done k h l = h.all ∙ ap (λ c. made ++ levels_from c (i + k) (j + k) text done) (none_left (common ls ms) k l)

pub levelled_with : (i j : ℕ) (ls ms : List ℕ) (made : List (List Row)) (done : List Row) (k : ℕ) → Levelled i j ls ms true made done k → common ls ms ≤ k
    → made ++ done ∷ [] ≡ levels i j ls ms true
levelled_with i j ls ms made done k h l = sym (levelled_end i j ls ms true made done k h l)

pub levelled_without : (i j : ℕ) (ls ms : List ℕ) (made : List (List Row)) (done : List Row) (k : ℕ) → Levelled i j ls ms false made done k → common ls ms ≤ k
    → made ≡ levels i j ls ms false
levelled_without i j ls ms made done k h l = sym (append-nil made) ∙ sym (levelled_end i j ls ms false made done k h l)

pub ruleset level_steps = (levelled_start, levelled_step, levelled_with, levelled_without)
