-- Claims that stand hold all widened obligations, and no obligation is a mismatch.
use Rattle.std.proofs.Common.{◌≡◌, ◌⊎◌, inl, inr, ℤ, List, Bool, true, false, refl}
use Rattle.ac_syntax.specs.declared.tree.Order.{Order}
use Rattle.ac_forms.specs.Rows.{Meets}
use Rattle.ac_forms.specs.declared.row.Row.{Row}
use Rattle.ac_widen.specs.Combinations.{IsCombination, Each}
use Rattle.ac_widen.specs.Setting.{Setting, IsLawful}
use Rattle.ac_widen.specs.Obligations.{Obligation, Obligations, BrokenBy, HasMismatch, output, step, hull, none, more}
use Rattle.ac_widen.specs.Claims.{IsClaimRow, IsFine, IsStart, Leads, once, then, Stand}
use Rattle.ac_widen.proofs.Combining.{meets_combined}

-- where an obligation comes from: it is at a recurrence pair, an output pair, or on the way from a start
abbrev Comes : {K : Type 0} → (s : Setting K) → (K → Order) → (K → List Row) → K → List ℤ → Type 0
Comes {K} s order claim k p = (s.recurrent k ≡ true) ⊎ ((s.recurrent k ≡ false) × (s.Output k p ⊎ ((i : K) × (o : List ℤ) × IsStart s claim i o × Leads s order i o k p)))

record Known {K : Type 0} (s : Setting K) (order : K → Order) (claim : K → List Row) (k : K) (p : List ℤ) : Type 0 where
  instance_ : s.Instance k p
  fine : IsFine s claim k p
  comes : Comes s order claim k p

two_cases : (b : Bool) → (b ≡ true) ⊎ (b ≡ false)
two_cases true = inl refl
two_cases false = inr refl

module _ {K : Type 0} (s : Setting K) (laws : IsLawful s) (order : K → Order) (claim : K → List Row) (stand : Stand s order claim) where
  from_output : (k : K) (p : List ℤ) → s.Output k p → Known s order claim k p
  from_output k p o =
      record {
        instance_ = laws.output_instance k p o;
        fine = stand.outputs k p o;
        comes = elim (two_cases (s.recurrent k)) [ inl t ↦ inl t | inr f ↦ inr (f, inl o) ];
      }

  on_the_way : (i : K) (o : List ℤ) (j : K) (q : List ℤ) → IsStart s claim i o → Leads s order i o j q → s.Instance j q → Known s order claim j q
  on_the_way i o j q start leads inst =
      record {
        instance_ = inst;
        fine = stand.starts i o j q start leads;
        comes = elim (two_cases (s.recurrent j)) [ inl t ↦ inl t | inr f ↦ inr (f, inr (i, o, start, leads)) ];
      }

  onward : (k : K) (p : List ℤ) (j : K) (q : List ℤ) → Known s order claim k p → s.Step (order k) k p j q → Comes s order claim k p → Known s order claim j q
  onward k p j q h d (inl t) = on_the_way k p j q (inr (t, h.instance_, h.fine.0 t)) (once j q d) (laws.step_instance (order k) k p j q d)
  onward k p j q h d (inr (f, inl o)) = on_the_way k p j q (inl o) (once j q d) (laws.step_instance (order k) k p j q d)
  onward k p j q h d (inr (f, inr (i, o, start, leads))) = on_the_way i o j q start (then k p j q leads f d) (laws.step_instance (order k) k p j q d)

  widened : (k : K) (q : List ℤ) (m : ℤ) (ws : List ℤ) (ps bs : List (List ℤ)) → s.recurrent k ≡ true → s.Instance k q → Each (Meets (claim k)) ps → Each (Meets (claim k)) bs
      → IsCombination q m ws ps → BrokenBy (s.template k) bs q → Known s order claim k q
  widened k q m ws ps bs t inst h g c b =
      record {
        instance_ = inst;
        fine = ((λ _. meets_combined (s.template k) (claim k) q m ws ps bs c b (stand.rows k t) h g), laws.moves k q t);
        comes = inl t;
      }

  mutual
    known : {k : K} {p : List ℤ} → Obligation s order k p → Known s order claim k p
    known (output k p o) = from_output k p o
    known (step k p j q m d) = onward k p j q (known m) d (known m).comes
    known (hull k q m ws ps bs t inst h g c b) = widened k q m ws ps bs t inst (known_each h t) (known_each g t) c b

    known_each : {k : K} {ps : List (List ℤ)} → Obligations s order k ps → s.recurrent k ≡ true → Each (Meets (claim k)) ps
    known_each (none k) t = tt
    known_each (more k p ps m ms) t = ((known m).fine.0 t, known_each ms t)

  -- each member at a recurrence pair meets the claim there
  pub members_meet : (k : K) (p : List ℤ) → Obligation s order k p → s.recurrent k ≡ true → Meets (claim k) p
  members_meet k p m t = (known m).fine.0 t

  -- there is no mismatch
  pub stands_no_mismatch : ¬ (HasMismatch s order)
  stands_no_mismatch h = (known h.2).fine.1 h.3

-- where each start leads to fine pairs alone, the claims stand
pub stand_from_trees : {K : Type 0} (s : Setting K) → IsLawful s → (order : K → Order) (claim : K → List Row)
    → ((k : K) → s.recurrent k ≡ true → Each (IsClaimRow (s.template k)) (claim k))
    → ((k : K) (p : List ℤ) → s.Output k p → (j : K) (q : List ℤ) → Leads s order k p j q → IsFine s claim j q)
    → ((k : K) (p : List ℤ) → s.recurrent k ≡ true → s.Instance k p → Meets (claim k) p → (j : K) (q : List ℤ) → Leads s order k p j q → IsFine s claim j q)
    → Stand s order claim
stand_from_trees s laws order claim rows outputs claims =
    record {
      rows = rows;
      outputs = λ k p o. let m = laws.output_moves k p o in ((λ t. not_both (s.recurrent k) t m.0), m.1);
      starts = λ k p j q start l. elim start [ inl o ↦ outputs k p o j q l | inr c ↦ claims k p c.0 c.1 c.2 j q l ];
    }
  where
    not_both : {P : Type 0} (b : Bool) → b ≡ true → b ≡ false → P
    not_both b e f = absurd cc
