-- The question stands where its side stands.
use Rattle.std.proofs.Common.{◌≡◌, ℕ, zero, suc, ◌+◌, List, [], ◌∷◌, ◌++◌, append-nil, length, length-append, map, sym, ap, ◌∙◌, subst, arith}
use Rattle.std.specs.List.{range_with_len}
use Rattle.std.proofs.lemmas.List.{length-map}
use Rattle.ac_forms.specs.Renaming.{AreColumns, AreDistinct}
use Rattle.ac_forms.specs.declared.conj.Conj.{Conj}
use Rattle.ac_forms.specs.declared.row.Row.{Row}
use Rattle.ac_claims_paths.specs.PathSteps.{Pairing}
use Rattle.ac_claims_paths.specs.declared.path.Path.{Path}
use Rattle.ac_claims.specs.declared.types.Claim.{Claim}
use Rattle.ac_claims.specs.declared.types.Plan.{Plan}
use Rattle.ac_claims_plans.specs.Embeddings.{advanced}
use Rattle.ac_claims_plans.specs.PlanAcceptance.{Serves}
use Rattle.ac_claims_plans.specs.QuestionEmbedding.{Stand, StandsOn}
use Rattle.ac_claims_plans.specs.declared.embedding.Embedding.{Embedding}
use Rattle.ac_claims_plans.proofs.Views.{stand-long}
use Rattle.ac_claims_plans.specs.BranchSides.{on_side, side_of}
use Rattle.ac_claims_plans.specs.declared.branching.Part.{Part}

pub stand-first : (xs : List ℕ) (d : Conj) (rs qs : List Row) (is js : List ℕ) → length rs ≡ length is → Stand xs d (rs ++ qs) (is ++ js) → Stand xs d rs is
stand-first xs d [] qs [] js l h = tt
stand-first xs d [] qs (i ∷ is) js l h = absurd (omega (arith, l))
stand-first xs d (r ∷ rs) qs [] js l h = absurd (omega (arith, l))
stand-first xs d (r ∷ rs) qs (i ∷ is) js l h = (h.0, stand-first xs d rs qs is js (omega (arith, l)) h.1)

no-columns : (n count : ℕ) (xs : List ℕ) → count ≡ 0 → xs ++ range_with_len n count ≡ xs
no-columns n zero xs e = append-nil xs
no-columns n (suc count) xs e = absurd (omega (arith, e))

stands-first : (s : Embedding) (p : Part) (c d : Conj) → p.question_columns ≡ 0 → length p.rows ≡ length p.places → StandsOn (on_side s p) (side_of c p) d → StandsOn (advanced s p.path_columns p.path_rows) c d
stands-first s p c d none places v =
    let js = map (λ k. s.next_row + k) p.places in
    let all = stand-long (s.columns ++ range_with_len s.next_column p.question_columns) d (c.rows ++ p.rows) (s.rows ++ js) v.rows in
    let long : length c.rows ≡ length s.rows = omega (arith, all, length-append c.rows p.rows, length-append s.rows js, length-map p.places (λ k. s.next_row + k), places) in
    let same = no-columns s.next_column p.question_columns s.columns none in
    record {
      columns = ap length (sym same) ∙ v.columns ∙ same-columns c.columns p.question_columns none;
      among = subst (λ xs. AreColumns (s.next_column + p.path_columns) xs) same v.among;
      distinct = subst AreDistinct same v.distinct;
      rows = subst (λ xs. Stand xs d c.rows s.rows) same (stand-first (s.columns ++ range_with_len s.next_column p.question_columns) d c.rows p.rows s.rows js long v.rows);
      path_columns = v.path_columns;
      path_rows = v.path_rows;
    }
  where
    same-columns : (n k : ℕ) → k ≡ 0 → n + k ≡ n
    same-columns n k e = omega (arith, e)

pub question-stays : (s : Embedding) (p : Part) → p.question_columns ≡ 0 → length p.rows ≡ length p.places → (g : Pairing) (cs : List Claim) (h : Path) (c : Conj) (t : Plan) → Serves g cs h (advanced s p.path_columns p.path_rows) c t → Serves g cs h (on_side s p) (side_of c p) t
question-stays s p none places g cs h c t a d v w = a d (stands-first s p c d none places v) w
