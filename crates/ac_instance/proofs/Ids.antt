-- The ids that are kept for cells.
use Rattle.std.proofs.Common.{◌≡◌, Bool, true, false, List, [], ◌∷◌, Option, None, Some, map, refl, sym, ap, subst, ◌∙◌, nat_eq, int_eq, if◌then◌else◌, true≢false}
use Rattle.std.specs.Bool.{Decides}
use Rattle.std.specs.Map.{lookup}
use Rattle.std.specs.Cmp.Lexicographic.{pointwise}
use Rattle.std.proofs.lemmas.Bool.Decides.{Decides-eqb, Decides-int_eq, Decides-and, same_from_decides}
use Rattle.std.proofs.lemmas.Slice.Eq.{slice_eq-Decides}
use Rattle.indexmap.specs.IndexMap.{insert_entry}
use Rattle.ac_syntax.specs.Algebra.{Cell, same_cell}
use Rattle.ac_syntax.proofs.Cells.{same_cell_is, same_cell_refl}
use Rattle.ac_terms.specs.declared.node.TermId.{TermId}
use Rattle.ac_instance.specs.declared.cells.Target.{Target}
use Rattle.ac_instance.specs.KeptIds.{cell_of, id_at}
use Rattle.ac_instance.specs.contracts.cells.TargetPartialEq.TheImpl as derived

abbrev pub cell_eq : Target → Target → Bool
cell_eq = derived.ghosts.eq

abbrev pub seen : Target × TermId → Cell × TermId
seen e = (cell_of e.0, e.1)

same_cell-Decides : (c d : Cell) → Decides (same_cell c d) (c ≡ d)
same_cell-Decides c d = (same_cell_is c d, λ e. subst (λ x. same_cell c x ≡ true) e (same_cell_refl c))

pub turned : (p q : Cell) → same_cell p q ≡ same_cell q p
turned p q = let d = same_cell-Decides q p in same_from_decides (same_cell p q) (same_cell q p) (same_cell-Decides p q) (λ h. sym (d.0 h), λ e. d.1 (sym e))

pub lookup_seen : (es : List (Target × TermId)) (k : Target) → lookup (cell_eq k) es ≡ id_at (map seen es) (cell_of k)
lookup_seen [] k = refl
lookup_seen (e ∷ es) k = ap (λ o. if same_cell (cell_of k) (cell_of e.0) then Some e.1 else o) (lookup_seen es k)

pub id_at-inserted : (es : List (Target × TermId)) (k : Target) (v : TermId) (p : Cell) → id_at (map seen (insert_entry cell_eq es k v)) p ≡ (if same_cell (cell_of k) p then Some v else id_at (map seen es) p)
id_at-inserted [] k v p = ap (λ b. if b then Some v else None) (turned p (cell_of k))
id_at-inserted (e ∷ es) k v p = by (same_cell (cell_of k) (cell_of e.0)) refl (id_at-inserted es k v p)
  where
    rest : Option TermId
    rest = id_at (map seen es) p

    apart : (a b : Bool) → same_cell p (cell_of e.0) ≡ a → same_cell (cell_of k) p ≡ b → same_cell (cell_of k) (cell_of e.0) ≡ false
        → (if a then Some e.1 else (if b then Some v else rest)) ≡ (if b then Some v else (if a then Some e.1 else rest))
    apart true true h g f = absurd (true≢false (sym ((same_cell-Decides (cell_of k) (cell_of e.0)).1 ((same_cell-Decides (cell_of k) p).0 g ∙ (same_cell-Decides p (cell_of e.0)).0 h)) ∙ f))
    apart true false h g f = refl
    apart false true h g f = refl
    apart false false h g f = refl

    one : (a : Bool) → (if a then Some v else rest) ≡ (if a then Some v else (if a then Some e.1 else rest))
    one true = refl
    one false = refl

    by : (c : Bool) → same_cell (cell_of k) (cell_of e.0) ≡ c → id_at (map seen (insert_entry cell_eq es k v)) p ≡ (if same_cell (cell_of k) p then Some v else rest)
        → id_at (map seen (if c then (e.0, v) ∷ es else e ∷ insert_entry cell_eq es k v)) p ≡ (if same_cell (cell_of k) p then Some v else id_at (map seen (e ∷ es)) p)
    by true h ih =
        let same : same_cell (cell_of k) p ≡ same_cell p (cell_of e.0) = turned (cell_of k) p ∙ ap (same_cell p) ((same_cell-Decides (cell_of k) (cell_of e.0)).0 h) in
        rw same (one (same_cell p (cell_of e.0)))
    by false h ih =
        ap (λ o. if same_cell p (cell_of e.0) then Some e.1 else o) ih ∙ apart (same_cell p (cell_of e.0)) (same_cell (cell_of k) p) refl refl h
