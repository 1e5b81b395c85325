-- From a question to each path that it follows.
use Rattle.std.proofs.Common.{◌≡◌, inl, inr, ℕ, ◌+◌, ◌≤◌, ◌<◌, zero, suc, List, [], ◌∷◌, ◌++◌, Bool, true, false, ◌&&◌, length, length-append, Option, Some, None, slice_get, refl, sym, ap, ◌∙◌, subst, arith}
use Rattle.std.proofs.lemmas.List.{append-nil}
use Rattle.std.specs.Prelude.{option_map}
use Rattle.std.specs.List.{AllByRecursion}
use Rattle.ac_forms.specs.ListMembers.{IsAmong}
use Rattle.ac_forms.specs.Renaming.{row_renaming, rows_renaming, with_form, renaming, AreColumns}
use Rattle.ac_forms.specs.Rows.{form_of, AreRowsOver, IsWellMade}
use Rattle.ac_forms.specs.Standing.{all_stand, stands}
use Rattle.ac_forms.specs.Affine.{Affine}
use Rattle.ac_forms.specs.declared.conj.Conj.{Conj}
use Rattle.ac_forms.specs.declared.row.Row.{Row}
use Rattle.ac_forms.specs.declared.row.Row.TheVariants.{Eq, Div, Ge}
use Rattle.ac_forms.proofs.Joining.{both_of}
use Rattle.ac_cert.specs.Apart.{IsOnto}
use Rattle.ac_cert.specs.declared.ends.Absurd.{Absurd}
use Rattle.ac_cert.specs.declared.types.Next as tree
use Rattle.ac_base.proofs.Options.{bind-some, map-some, some-is}
use Rattle.ac_claims_paths.specs.PathColumns.{base, columns_of}
use Rattle.ac_claims_paths.specs.WellFormedPaths.{AllFormed, IsFormed}
use Rattle.ac_claims_paths.specs.PathSteps.{Pairing, at_rows, extended}
use Rattle.ac_claims_paths.specs.PathRows.{made_and_stand}
use Rattle.ac_claims_paths.specs.declared.path.Path.{Path}
use Rattle.ac_claims_paths.proofs.Forming.{branches_formed}
use Rattle.ac_claims_paths.proofs.Moving.{moved-within}
use Rattle.ac_claims.specs.ProofEnds.{is_hit, same_position}
use Rattle.ac_claims.specs.declared.types.Claim.{Claim}
use Rattle.ac_claims.specs.declared.types.Plan.{Plan}
use Rattle.ac_claims.specs.declared.types.PlanNext as plan
use Rattle.ac_claims.specs.declared.types.PlanNext.{items_hidden-the_row-Plan-0}
use Rattle.ac_claims.specs.declared.types.PlanNext.TheBlock.{hidden-the_row-Plan-0}
use Rattle.ac_claims.specs.declared.types.PlanNext.TheVariants as end
use Rattle.ac_claims_plans.specs.Embeddings.{advanced}
use Rattle.ac_claims_plans.specs.PlanAcceptance.{AreMovedKids, BranchesTo, IsMovedNext, ends, residue, split}
use Rattle.ac_claims_plans.specs.QuestionEmbedding.{Stand, StandsOn}
use Rattle.ac_claims_plans.specs.declared.embedding.Embedding.{Embedding}
use Rattle.ac_claims_plans.proofs.Grown.{columns-both, columns-wider, stand-more}
use Rattle.ac_claims_plans.proofs.Selves.{range-columns}
use Rattle.ac_claims_plans.specs.QuestionBranches.{FollowEach}
use Rattle.ac_claims_plans.specs.QuestionPaths.{behind_branch, ArePlaced, Follows}
use Rattle.ac_claims_plans.specs.QuestionStarts.{own_places}
use Rattle.ac_claims_plans.proofs.Along.{placed-both}
use Rattle.ac_claims_plans.proofs.Starting.{follow_themselves}
use Rattle.ac_claims_plans.proofs.Stepping.{branches-on}
use Rattle.ac_unfold_plans.specs.PlanEnds.{IsClaimAt}
use Rattle.ac_unfold_plans.specs.RowsAlongPaths.{RowsStandAlong}
use Rattle.ac_unfold_plans.proofs.Carrying.{on-path, standing_along}
use Rattle.ac_unfold_plans.proofs.Ending.{claims_hit}
use Rattle.ac_unfold_plans.specs.TabledUse.{CasesUseTabled, ClassesUseTabled, UseTabledEach, UsesTabled, UsesTabledOn, HitsNone, PassesNone}
use Rattle.ac_unfold_plans.specs.TabledUseRules.{BranchesUseTabled, CertificatesUseTabled, FurtherRowsUseTabled, HitsUseTabled, InitialCellsUseTabled, KillsUseTabled, NumbersUseTabled, StartsUseTabled, StepsUseTabled}

-- ---- claims that are hit

-- the columns of both positions of a formed path
columns_there : (params : ℕ) (p : Path) → IsFormed params p → AreColumns p.conj.columns (base params ++ (columns_of p.left ++ columns_of p.right))
columns_there params p i =
    let n = p.conj.columns in
    columns-both n (base params) (columns_of p.left ++ columns_of p.right) (range-columns 0 params n (omega (arith, i.base_in)))
    (columns-both n (columns_of p.left) (columns_of p.right) (range-columns p.left.first p.left.width n i.left_in) (range-columns p.right.first p.right.width n i.right_in))

form-with : (r : Row) (f : Affine) → form_of (with_form r f) ≡ f
form-with (Eq e) f = refl
form-with (Div m e) f = refl
form-with (Ge e) f = refl

-- no row that is made over columns is longer than they allow
abbrev AreShort : ℕ → List Row → Type 0
AreShort n = AllByRecursion (λ (r : Row). length (form_of r).coefs ≤ n)

short : (n : ℕ) (ks : List ℕ) (rs ss : List Row) → AreColumns n ks → rows_renaming ks rs ≡ Some ss → AreShort n ss
short n ks [] ss a e = subst (AreShort n) (some-is [] ss e) tt
short n ks (r ∷ rs) ss a e =
    let b = bind-some (row_renaming ks r) (λ s. option_map (λ ss. s ∷ ss) (rows_renaming ks rs)) ss e in
    let c = map-some (rows_renaming ks rs) (λ ss. b.0 ∷ ss) ss b.2 in
    let d = map-some (renaming ks (form_of r)) (with_form r) b.0 b.1 in
    let one : length (form_of b.0).coefs ≤ n = subst (λ (x : Row). length (form_of x).coefs ≤ n) (sym d.2) (subst (λ (f : Affine). length f.coefs ≤ n) (sym (form-with r d.0)) (moved-within ks (form_of r) d.0 n a d.1)) in
    subst (AreShort n) (sym c.2) (one, short n ks rs c.0 a c.1)

all-along : (params : ℕ) (s : Embedding) (p : Path) (rows : List Row) → IsWellMade p.conj → AreShort p.conj.columns rows → all_stand p.conj.rows rows ≡ true → RowsStandAlong params s p rows
all-along params s p [] made l h = tt
all-along params s p (r ∷ rows) made l h =
    let b = both_of (stands p.conj.rows r) (all_stand p.conj.rows rows) h in
    (standing_along params s p r made l.0 b.0, all-along params s p rows made l.1 b.1)

made-some : (rows : List Row) (o : Option (List Row)) → made_and_stand rows o ≡ true → (wanted : List Row) × (o ≡ Some wanted) × (all_stand rows wanted ≡ true)
made-some rows None h = absurd cc
made-some rows (Some wanted) h = (wanted, refl, h)

-- a claim that is hit on a path is hit on each path that follows it
hit-along : (g : Pairing) (s : Embedding) (p q : Path) (c : Claim) → IsFormed g.params p → Follows g.params s p q → is_hit g p (Some c) ≡ true → is_hit g q (Some c) ≡ true
hit-along g s p q c i f h =
    let ks = base g.params ++ (columns_of p.left ++ columns_of p.right) in
    let a = both_of p.gone (same_position p.left.position c.left && (same_position p.right.position c.right && made_and_stand p.conj.rows (rows_renaming ks c.rows))) h in
    let l = both_of (same_position p.left.position c.left) (same_position p.right.position c.right && made_and_stand p.conj.rows (rows_renaming ks c.rows)) a.1 in
    let r = both_of (same_position p.right.position c.right) (made_and_stand p.conj.rows (rows_renaming ks c.rows)) l.1 in
    let m = made-some p.conj.rows (rows_renaming ks c.rows) r.1 in
    let at : IsClaimAt g.params p c m.0 = record { gone = a.0; left = l.0; right = r.0; rows = m.1 } in
    claims_hit g s p q c m.0 at f
    (on-path g.params s p q m.0 f (all-along g.params s p m.0 i.made (short p.conj.columns ks c.rows m.0 (columns_there g.params p i) m.1) m.2))

get-column : (n : ℕ) (xs : List ℕ) (k l : ℕ) → AreColumns n xs → slice_get xs k ≡ Some l → l < n
get-column n [] k l a e = absurd cc
get-column n (x ∷ xs) zero l a e = subst (λ (y : ℕ). y < n) (some-is x l e) a.0
get-column n (x ∷ xs) (suc k) l a e = get-column n xs k l a.1 e

placed-columns : (n : ℕ) (xs ks ls : List ℕ) → AreColumns n xs → ArePlaced xs ks ls → AreColumns n ls
placed-columns n xs [] [] a h = tt
placed-columns n xs [] (l ∷ ls) a h = absurd h
placed-columns n xs (k ∷ ks) [] a h = absurd h
placed-columns n xs (k ∷ ks) (l ∷ ls) a h = (get-column n xs k l a h.0, placed-columns n xs ks ls a h.1)

-- the columns of both positions of a path that follows another
columns-along : (params : ℕ) (s : Embedding) (p q : Path) → Follows params s p q → AreColumns q.conj.columns (base params ++ (columns_of q.left ++ columns_of q.right))
columns-along params s p q f =
    let on = placed-both s.columns (base params) (base params) (columns_of p.left ++ columns_of p.right) (columns_of q.left ++ columns_of q.right) f.parameters
    (placed-both s.columns (columns_of p.left) (columns_of q.left) (columns_of p.right) (columns_of q.right) f.left.coordinates f.right.coordinates) in
    subst (λ (n : ℕ). AreColumns n (base params ++ (columns_of q.left ++ columns_of q.right))) (sym f.stands.path_columns)
    (placed-columns s.next_column s.columns (base params ++ (columns_of p.left ++ columns_of p.right)) (base params ++ (columns_of q.left ++ columns_of q.right)) f.stands.among on)

none-along : (g : Pairing) (s : Embedding) (p q : Path) (claims : List Claim) → IsFormed g.params p → Follows g.params s p q → HitsNone g claims q → HitsNone g claims p
none-along g s p q [] i f h = tt
none-along g s p q (c ∷ claims) i f h = (by (is_hit g p (Some c)) refl, none-along g s p q claims i f h.1)
  where
    by : (b : Bool) → is_hit g p (Some c) ≡ b → is_hit g p (Some c) ≡ false
    by true e = let k : true ≡ false = sym (hit-along g s p q c i f e) ∙ h.0 in absurd cc
    by false e = e

-- a question that passes none passes none on the paths that it follows
passes-along : (g : Pairing) (s : Embedding) (p q : Path) (claims : List Claim) → IsFormed g.params p → Follows g.params s p q → PassesNone g claims q → HitsNone g claims p
passes-along g s p q claims i f h = none-along g s p q claims i f (h (columns-along g.params s p q f))

-- ---- branches on rows

classes_use_tabled : (g : Pairing) (claims : List Claim) {w : _} (kids : plan.Row_of-Plan w) (h : Path) → ((t : Plan) → IsAmong t (plan.items-the_row-Plan w kids) → UsesTabled g claims t.next h) → ClassesUseTabled g claims kids h
classes_use_tabled g claims plan.end_of-Plan h s = tt
classes_use_tabled g claims (plan.more_of-Plan ss t rest) h s = (s _ (inl refl), classes_use_tabled g claims rest h (λ u n. s u (inr n)))

down_uses_tabled : (g : Pairing) (claims : List Claim) (h : Path) (ts : List Plan) (x : plan.PlanNext) → BranchesTo ts x → ((t : Plan) → IsAmong t ts → UsesTabled g claims t.next h) → UsesTabled g claims x h
down_uses_tabled g claims h ts x (ends t n) s = s t n
down_uses_tabled g claims h ts x (split f low high a b) s = (down_uses_tabled g claims h ts low.value.next a s, down_uses_tabled g claims h ts high.value.next b s)
down_uses_tabled g claims h ts x (residue m f kids a) s =
    classes_use_tabled g claims (hidden-the_row-Plan-0 kids) h (λ t n. down_uses_tabled g claims h ts t.next (a t (subst (IsAmong t) (items_hidden-the_row-Plan-0 kids) n)) s)

all_among : (P : Plan → Type 0) (ts : List Plan) → AllByRecursion P ts → (t : Plan) → IsAmong t ts → P t
all_among P [] h t n = absurd n
all_among P (u ∷ ts) h t (inl e) = subst P (sym e) h.0
all_among P (u ∷ ts) h t (inr n) = all_among P ts h.1 t n

pub branches_use_tabled : BranchesUseTabled
branches_use_tabled g claims q ts x b all = λ p s i f. down_uses_tabled g claims p ts x b (λ t n. all_among (λ (t : Plan). UsesTabledOn g claims q t.next) ts all t n p s i f)

-- a path that goes on still follows
stands-on : (s : Embedding) (c d : Conj) (more : ℕ) (rows : List Row) → IsWellMade c → StandsOn s c d → StandsOn (advanced s more (length rows)) c (extended d more rows)
stands-on s c d more rows made v =
    let e = extended d more rows in
    let onto : IsOnto d e = record { more = rows; rows = refl; columns = omega arith } in
    record {
      columns = v.columns;
      among = columns-wider s.next_column (s.next_column + more) s.columns (omega arith) v.among;
      distinct = v.distinct;
      rows = subst (λ (xs : List ℕ). Stand xs e c.rows s.rows) (append-nil s.columns) (stand-more s.columns [] d e c.rows s.rows onto (subst (λ (k : ℕ). AreRowsOver k c.rows) (sym v.columns) made) v.rows);
      path_columns = ap (λ (n : ℕ). n + more) v.path_columns;
      path_rows = length-append d.rows rows ∙ ap (λ (n : ℕ). n + length rows) v.path_rows;
    }

follows-on : (params : ℕ) (s : Embedding) (p q : Path) (more : ℕ) (rows : List Row) → IsWellMade p.conj → Follows params s p q → Follows params (advanced s more (length rows)) p (at_rows q (extended q.conj more rows))
follows-on params s p q more rows made f = record {
  stands = stands-on s p.conj q.conj more rows made f.stands;
  rising = f.rising;
  parameters = f.parameters;
  left = record { position = f.left.position; width = f.left.width; coordinates = f.left.coordinates };
  right = record { position = f.right.position; width = f.right.width; coordinates = f.right.coordinates };
  gone = f.gone;
  last = f.last;
}

pub further_rows_use_tabled : FurtherRowsUseTabled
further_rows_use_tabled g claims q more rows x h = λ p s i f. h p (advanced s more (length rows)) i (follows-on g.params s p q more rows i.made f)

-- ---- certificates

mutual
  next_uses_tabled : (s : Embedding) (x : tree.Next Absurd) (y : plan.PlanNext) → IsMovedNext s x y → (g : Pairing) (claims : List Claim) (h : Path) → UsesTabled g claims y h
  next_uses_tabled s (tree.End e) (end.Absurd i) m g claims h = tt
  next_uses_tabled s (tree.Split' e p ss l q ts r) (plan.Split' u b xs v t ys z) m g claims h = (next_uses_tabled s l v m.2 g claims h, next_uses_tabled s r z m.4 g claims h)
  next_uses_tabled s (tree.Residue' n e shape all) (plan.Residue' o u form each) m g claims h = kids_use_tabled s all each m.2 g claims h
  next_uses_tabled s (tree.Split' e p ss l q ts r) (plan.Residue' o u form each) m g claims h = absurd m
  next_uses_tabled s (tree.Split' e p ss l q ts r) (plan.Go' order u each) m g claims h = absurd m
  next_uses_tabled s (tree.Split' e p ss l q ts r) (end.Absurd i) m g claims h = absurd m
  next_uses_tabled s (tree.Split' e p ss l q ts r) (end.Killed kill) m g claims h = absurd m
  next_uses_tabled s (tree.Split' e p ss l q ts r) (end.Hit claim) m g claims h = absurd m
  next_uses_tabled s (tree.Split' e p ss l q ts r) end.SameNumber m g claims h = absurd m
  next_uses_tabled s (tree.Split' e p ss l q ts r) end.SameInitial m g claims h = absurd m
  next_uses_tabled s (tree.Residue' n e shape all) (plan.Split' u b xs v t ys z) m g claims h = absurd m
  next_uses_tabled s (tree.Residue' n e shape all) (plan.Go' order u each) m g claims h = absurd m
  next_uses_tabled s (tree.Residue' n e shape all) (end.Absurd i) m g claims h = absurd m
  next_uses_tabled s (tree.Residue' n e shape all) (end.Killed kill) m g claims h = absurd m
  next_uses_tabled s (tree.Residue' n e shape all) (end.Hit claim) m g claims h = absurd m
  next_uses_tabled s (tree.Residue' n e shape all) end.SameNumber m g claims h = absurd m
  next_uses_tabled s (tree.Residue' n e shape all) end.SameInitial m g claims h = absurd m
  next_uses_tabled s (tree.End e) (plan.Split' u b xs v t ys z) m g claims h = absurd m
  next_uses_tabled s (tree.End e) (plan.Residue' o u form each) m g claims h = absurd m
  next_uses_tabled s (tree.End e) (plan.Go' order u each) m g claims h = absurd m
  next_uses_tabled s (tree.End e) (end.Killed kill) m g claims h = absurd m
  next_uses_tabled s (tree.End e) (end.Hit claim) m g claims h = absurd m
  next_uses_tabled s (tree.End e) end.SameNumber m g claims h = absurd m
  next_uses_tabled s (tree.End e) end.SameInitial m g claims h = absurd m

  kids_use_tabled : (s : Embedding) {w : _} (all : tree.Row_of-Tree Absurd w) {v : _} (each : plan.Row_of-Plan v) → AreMovedKids s all each → (g : Pairing) (claims : List Claim) (h : Path) → ClassesUseTabled g claims each h
  kids_use_tabled s tree.end_of-Tree plan.end_of-Plan m g claims h = tt
  kids_use_tabled s (tree.more_of-Tree ss l rest) (plan.more_of-Plan xs v more) m g claims h = (next_uses_tabled s l v m.1 g claims h, kids_use_tabled s rest more m.2 g claims h)
  kids_use_tabled s tree.end_of-Tree (plan.more_of-Plan xs v more) m g claims h = absurd m
  kids_use_tabled s (tree.more_of-Tree ss l rest) plan.end_of-Plan m g claims h = absurd m

pub certificates_use_tabled : CertificatesUseTabled
certificates_use_tabled s certificate t m g claims h = next_uses_tabled s certificate.next t.next m.1 g claims h

-- ---- steps

cases_use_tabled : (g : Pairing) (claims : List Claim) (s : Embedding) (p : Path) {w : _} (kids : plan.Row_of-Plan w) (bs hs : List Path) → FollowEach g.params s p hs bs → AllFormed g.params hs → UseTabledEach g claims bs (plan.items-the_row-Plan w kids) → CasesUseTabled g claims kids hs
cases_use_tabled g claims s p plan.end_of-Plan bs hs f i each = tt
cases_use_tabled g claims s p (plan.more_of-Plan ss t rest) bs [] f i each = tt
cases_use_tabled g claims s p (plan.more_of-Plan ss t rest) [] (h ∷ hs) f i each = absurd f
cases_use_tabled g claims s p (plan.more_of-Plan ss t rest) (b ∷ bs) (h ∷ hs) f i each = (each.0 h (behind_branch s p h) i.0 f.0, cases_use_tabled g claims s p rest bs hs f.1 i.1 each.1)

pub steps_use_tabled : StepsUseTabled
steps_use_tabled g left right claims q order cases bs passes is each = λ p s i f. (
  passes-along g s p q claims i f passes,
  (λ hs e.
      let on = branches-on g order s p q i.made f hs e in
      let same : on.paths ≡ bs = some-is on.paths bs (sym on.is ∙ is) in
      cases_use_tabled g claims s p (hidden-the_row-Plan-0 cases) bs hs (subst (FollowEach g.params s p hs) same on.each) (branches_formed g order p hs left right i e)
      (subst (λ (ts : List Plan). UseTabledEach g claims bs ts) (sym (items_hidden-the_row-Plan-0 cases)) each)),
)

-- ---- ends

pub kills_use_tabled : KillsUseTabled
kills_use_tabled kill g claims h = tt

pub hits_use_tabled : HitsUseTabled
hits_use_tabled n g claims h = tt

pub numbers_use_tabled : NumbersUseTabled
numbers_use_tabled g claims q passes = λ p s i f. passes-along g s p q claims i f passes

pub initial_cells_use_tabled : InitialCellsUseTabled
initial_cells_use_tabled g claims q passes = λ p s i f. passes-along g s p q claims i f passes

-- ---- starts

pub starts_use_tabled : StartsUseTabled
starts_use_tabled g claims q x i h = h q (own_places q) i (follow_themselves g.params q i)
