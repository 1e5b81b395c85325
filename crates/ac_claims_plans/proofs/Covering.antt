-- A path that follows a question follows each one that covers it.
use Rattle.std.proofs.Common.{◌≡◌, ℕ, zero, suc, ◌+◌, ◌-◌, ℤ, pos, unsigned_abs, Bool, true, false, cond, append-nil, List, [], ◌∷◌, ◌++◌, map, length, length-append, refl, sym, ap, ◌∙◌, subst, arith}
use Rattle.std.specs.List.{range_with_len}
use Rattle.std.proofs.lemmas.List.{length-map}
use Rattle.ac_forms.specs.Affine.{Affine}
use Rattle.ac_forms.specs.Renaming.{AreColumns, AreDistinct}
use Rattle.ac_forms.specs.Rows.{IsRowOver}
use Rattle.ac_forms.specs.declared.conj.Conj.{Conj}
use Rattle.ac_forms.specs.declared.row.Row.{Row}
use Rattle.ac_forms.specs.declared.row.Row.TheVariants.{Eq, Div, Ge}
use Rattle.ac_cert.specs.Rules.{class_row}
use Rattle.ac_claims_paths.specs.PathColumns.{base}
use Rattle.ac_claims_paths.specs.PathSteps.{Pairing, at_rows}
use Rattle.ac_claims_paths.specs.declared.path.Path.{Path}
use Rattle.ac_claims.specs.declared.types.Claim.{Claim}
use Rattle.ac_claims.specs.declared.types.Plan.{Plan}
use Rattle.ac_claims_plans.specs.Embeddings.{with_places}
use Rattle.ac_claims_plans.specs.BranchSides.{side_of, on_side, one_row, rest_side, has_few, outside_of, BranchServes}
use Rattle.ac_claims_plans.specs.QuestionEmbedding.{Stand}
use Rattle.ac_claims_plans.specs.declared.branching.Part.{Part}
use Rattle.ac_claims_plans.specs.declared.embedding.Embedding.{Embedding}
use Rattle.ac_claims_plans.proofs.Grown.{stand-both}
use Rattle.ac_claims_plans.proofs.Staying.{stand-first}
use Rattle.ac_claims_plans.proofs.Views.{stand-long}
use Rattle.ac_claims_plans.specs.QuestionCover.{Covers, PlansServeCovered, QuestionsCoverThemselves, HasPlaces, SidesAreCovered, QuestionsMayStay, CoveredBranchesGivePlans}
use Rattle.ac_claims_plans.specs.QuestionPaths.{ArePlaced, SeatOn, AssumedOn, AreRising, Follows}
use Rattle.ac_claims_plans.specs.QuestionPlans.{question_on, AreSidePlans}
use Rattle.ac_claims_plans.proofs.Serving.{branches_give_plans}

-- ---- paths

covered-follows : (params : ℕ) (s : Embedding) (q : Path) (z : Embedding) (c : Conj) (h : Path) → Covers s q z (at_rows q c) → Follows params z (at_rows q c) h → Follows params s q h
covered-follows params s q z c h k f = record {
  stands = record {
    columns = ap length (sym k.columns) ∙ f.stands.columns ∙ k.question_columns;
    among = subst (λ (n : ℕ). AreColumns n s.columns) k.path_columns (subst (λ (xs : List ℕ). AreColumns z.next_column xs) k.columns f.stands.among);
    distinct = subst AreDistinct k.columns f.stands.distinct;
    rows = k.rows s.columns h.conj (subst (λ (xs : List ℕ). Stand xs h.conj c.rows z.rows) k.columns f.stands.rows);
    path_columns = f.stands.path_columns ∙ k.path_columns;
    path_rows = f.stands.path_rows ∙ k.path_rows;
  };
  rising = subst AreRising k.columns f.rising;
  parameters = subst (λ (xs : List ℕ). ArePlaced xs (base params) (base params)) k.columns f.parameters;
  left = subst (λ (xs : List ℕ). SeatOn xs q.left h.left) k.columns f.left;
  right = subst (λ (xs : List ℕ). SeatOn xs q.right h.right) k.columns f.right;
  gone = f.gone;
  last = subst (λ (xs : List ℕ). AssumedOn xs q.last h.last) k.columns f.last;
}

pub follows-covering : (params : ℕ) (s : Embedding) (q : Path) (z : Embedding) (v h : Path) → Covers s q z v → Follows params z v h → Follows params s q h
follows-covering params s q z v h k f = covered-follows params s q z v.conj h (subst (λ (x : Path). Covers s q z x) k.positions k) (subst (λ (x : Path). Follows params z x h) k.positions f)

pub serve_covered : PlansServeCovered
serve_covered g cs s q z v t k plan h f = plan h (follows-covering g.params s q z v h k f)

pub cover_themselves : QuestionsCoverThemselves
cover_themselves s q = record { positions = refl; question_columns = refl; columns = refl; path_columns = refl; path_rows = refl; rows = λ columns d rows. rows }

-- ---- sides

stand-last : (xs : List ℕ) (d : Conj) (rs qs : List Row) (is js : List ℕ) → length rs ≡ length is → Stand xs d (rs ++ qs) (is ++ js) → Stand xs d qs js
stand-last xs d [] qs [] js l h = h
stand-last xs d [] qs (i ∷ is) js l h = absurd (omega (arith, l))
stand-last xs d (r ∷ rs) qs [] js l h = absurd (omega (arith, l))
stand-last xs d (r ∷ rs) qs (i ∷ is) js l h = stand-last xs d rs qs is js (omega (arith, l)) h.1

-- the rows of the question and those of the side
stand-parts : (xs : List ℕ) (d : Conj) (rs : List Row) (is : List ℕ) (next : ℕ) (p : Part) → HasPlaces p → Stand xs d (rs ++ p.rows) (is ++ map (λ k. next + k) p.places) → Stand xs d rs is × Stand xs d p.rows (map (λ k. next + k) p.places)
stand-parts xs d rs is next p has h =
    let js = map (λ k. next + k) p.places in
    let all = stand-long xs d (rs ++ p.rows) (is ++ js) h in
    let long : length rs ≡ length is = omega (arith, all, length-append rs p.rows, length-append is js, length-map p.places (λ k. next + k), has) in
    (stand-first xs d rs p.rows is js long h, stand-last xs d rs p.rows is js long h)

side-positions : (q v : Path) (p : Part) → v ≡ at_rows q v.conj → question_on v p ≡ at_rows (question_on q p) (question_on v p).conj
side-positions q v p e = ap (λ (x : Path). at_rows x (side_of v.conj p)) e

pub sides_covered : SidesAreCovered
sides_covered s q z v p has k = record {
  positions = side-positions q v p k.positions;
  question_columns = ap (λ n. n + p.question_columns) k.question_columns;
  columns = ap (λ (xs : List ℕ). xs ++ range_with_len z.next_column p.question_columns) k.columns ∙ ap (λ (n : ℕ). s.columns ++ range_with_len n p.question_columns) k.path_columns;
  path_columns = ap (λ n. n + p.path_columns) k.path_columns;
  path_rows = ap (λ n. n + p.path_rows) k.path_rows;
  rows = λ xs d h.
      let both = stand-parts xs d v.conj.rows z.rows z.next_row p has h in
      stand-both xs d q.conj.rows p.rows s.rows (map (λ k. s.next_row + k) p.places) (k.rows xs d both.0) (subst (λ (n : ℕ). Stand xs d p.rows (map (λ k. n + k) p.places)) k.path_rows both.1);
}

no-columns : (n count : ℕ) (xs : List ℕ) → count ≡ 0 → xs ++ range_with_len n count ≡ xs
no-columns n count xs e = rw e (append-nil xs)

none-more : (n k : ℕ) → k ≡ 0 → n + k ≡ n
none-more n k e = omega (arith, e)

stay-positions : (q v : Path) (p : Part) → v ≡ at_rows q v.conj → question_on v p ≡ at_rows q (question_on v p).conj
stay-positions q v p e = ap (λ (x : Path). at_rows x (side_of v.conj p)) e

pub may_stay : QuestionsMayStay
may_stay s q z v p has none k = record {
  positions = stay-positions q v p k.positions;
  question_columns = none-more v.conj.columns p.question_columns none ∙ k.question_columns;
  columns = no-columns z.next_column p.question_columns z.columns none ∙ k.columns;
  path_columns = ap (λ n. n + p.path_columns) k.path_columns;
  path_rows = ap (λ n. n + p.path_rows) k.path_rows;
  rows = λ xs d h. k.rows xs d (stand-parts xs d v.conj.rows z.rows z.next_row p has h).0;
}

-- ---- branches

abbrev AllHavePlaces : List Part → Type 0
AllHavePlaces [] = Unit {0}
AllHavePlaces (p ∷ ps) = HasPlaces p × AllHavePlaces ps

classes-have : (m : ℤ) (f : Affine) (i n : ℕ) → AllHavePlaces (map (λ r. one_row (class_row m f (pos r)) 0 0 1) (range_with_len i n))
classes-have m f i zero = tt
classes-have m f i (suc n) = (refl, classes-have m f (i + 1) n)

outside-have : (n : ℕ) (r : Row) → AllHavePlaces (outside_of n r)
outside-have n (Eq f) = (refl, (refl, tt))
outside-have n (Div m f) = by (has_few m)
  where
    by : (b : Bool) → AllHavePlaces (cond b (map (λ r. one_row (class_row m f (pos r)) 0 0 1) (range_with_len 1 (unsigned_abs m - 1))) (rest_side n m f ∷ []))
    by true = classes-have m f 1 (unsigned_abs m - 1)
    by false = (refl, tt)
outside-have n (Ge f) = (refl, tt)

each-has : (g : Pairing) (cs : List Claim) (s : Embedding) (q : Path) (z : Embedding) (v : Path) (ps : List Part) (ts : List Plan) → Covers s q z v → AllHavePlaces ps → AreSidePlans g cs s q ps ts → AreSidePlans g cs z v ps ts
each-has g cs s q z v [] [] k has each = tt
each-has g cs s q z v [] (t ∷ ts) k has each = absurd each
each-has g cs s q z v (p ∷ ps) [] k has each = absurd each
each-has g cs s q z v (p ∷ ps) (t ∷ ts) k has each =
    (serve_covered g cs (on_side s p) (question_on q p) (on_side z p) (question_on v p) t (sides_covered s q z v p has.0 k) each.0, each-has g cs s q z v ps ts k has.1 each.1)

pub covered_give_plans : CoveredBranchesGivePlans
covered_give_plans g cs s q z v r inside outside t k made over can branch within beside =
    let same : q.conj.columns ≡ v.conj.columns = sym k.question_columns in
    let there = each-has g cs s q z v (outside_of q.conj.columns r) outside k (outside-have q.conj.columns r) beside in
    let placed : z ≡ with_places s z.rows = λ i. record { columns = k.columns i; rows = z.rows; next_column = k.path_columns i; next_row = k.path_rows i } in
    let serves : BranchServes z r inside outside t = subst (λ (x : Embedding). BranchServes x r inside outside t) (sym placed) (branch z.rows) in
    branches_give_plans g cs z v r inside outside t made (subst (λ (n : ℕ). IsRowOver n r) same over) can serves within (subst (λ (n : ℕ). AreSidePlans g cs z v (outside_of n r) outside) same there)
