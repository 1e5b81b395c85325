-- What comes of hits on tabled claims.
use Rattle.std.proofs.Common.{◌≡◌, inl, inr, ℕ, ◌+◌, ◌<◌, ◌≤◌, ◌&&◌, Bool, true, false, zero, suc, List, [], ◌∷◌, ◌++◌, length, take, get_or, Option, Some, None, refl, sym, ap, ◌∙◌, subst}
use Rattle.std.proofs.lemmas.List.{take_more, take_all}
use Rattle.std.specs.Prelude.{Result, Ok, Err, IfErr, IfOk, IfSome, slice_get}
use Rattle.std.specs.List.{AllByRecursion}
use Rattle.ac_forms.specs.ListMembers.{IsAmong}
use Rattle.ac_forms.specs.Renaming.{rows_renaming, AreColumns}
use Rattle.ac_forms.specs.Rows.{AreRowsOver, HaveModuli, IsRowOver, IsWellMade}
use Rattle.ac_forms.specs.Standing.{all_stand, stands}
use Rattle.ac_forms.specs.declared.conj.Conj.{Conj}
use Rattle.ac_forms.specs.declared.row.Row.{Row}
use Rattle.ac_forms.proofs.Distinct.{rows_renaming-over}
use Rattle.ac_base.proofs.Options.{some-is}
use Rattle.ac_claims_paths.specs.PathRows.{made_and_stand}
use Rattle.ac_claims_paths.specs.declared.path.Path.{Path}
use Rattle.ac_claims.specs.ProofEnds.{is_hit, same_position}
use Rattle.ac_claims.specs.declared.types.Claim.{Claim}
use Rattle.ac_claims.specs.declared.types.Plan.{Plan}
use Rattle.ac_claims.specs.declared.types.PlanNext.{PlanNext}
use Rattle.ac_unfold_plans.specs.PlanEnds.{IsEnd}
use Rattle.ac_unfold_plans.specs.TabledUse.{HaveClaimModuli, HitsNone, PassesNone}
use Rattle.ac_unfold.specs.KillCuts.{columns_there}
use Rattle.ac_unfold.specs.RecoverableStops.{IsStop}
use Rattle.ac_unfold.specs.TabledHits.{IsMissed}
use Rattle.ac_unfold.specs.PlanResults.{judge_of, AreStanding, EndsWhere, IsEndFor, IsMade, IsPlanIn}
use Rattle.ac_unfold.specs.SearchPlanStops.{StopsIn}
use Rattle.ac_unfold.specs.UnfoldStops.{HandsBack}
use Rattle.ac_unfold.specs.declared.ends.Search.{Search}
use Rattle.ac_unfold.specs.declared.node.Node.{Node}
use Rattle.ac_unfold.specs.declared.types.UnfoldStop.{UnfoldStop}
use Rattle.ac_unfold.specs.declared.types.UnfoldStop.TheVariants.{Overflow, Spent, Paths, Memory}
use Rattle.ac_unfold.proofs.Stops.{all_more}

-- what an answer is, where the search goes on with it
pub freely_all : {A : Type 0} (P : A → Type 0) (r : Result (Option A) UnfoldStop) (free : Option (Option A)) (inner : Option A) → free ≡ Some inner → IfSome free (λ seen. r ≡ Ok seen) → IfOk r (λ o. IfSome o P) → IfSome inner P
freely_all P r free inner e h k =
    let is : r ≡ Ok inner = subst (λ o. IfSome o (λ seen. r ≡ Ok seen)) e h in
    subst (λ o. IfOk o (λ p. IfSome p P)) is k

pub freely_one : {A : Type 0} (P : A → Type 0) (r : Result A UnfoldStop) (free : Option A) (x : A) → free ≡ Some x → IfSome free (λ seen. r ≡ Ok seen) → IfOk r P → P x
freely_one P r free x e h k =
    let is : r ≡ Ok x = subst (λ o. IfSome o (λ seen. r ≡ Ok seen)) e h in
    subst (λ o. IfOk o P) is k

-- what is so anyway, is so of what is found
pub anyway : {A E : Type 0} (P : Type 0) (r : Result (Option A) E) → P → IfOk r (λ o. IfSome o (λ x. P))
anyway P (Ok (Some x)) p = p
anyway P (Ok None) p = tt
anyway P (Err e) p = tt

pub none_anyway : {A E : Type 0} (P M : Type 0) (r : Result (Option A) E) → IfOk r (λ o. o ≡ None → P) → IfOk r (λ o. o ≡ None → M → P)
none_anyway P M (Ok o) h = λ none m. h none
none_anyway P M (Err e) h = tt

-- ---- rows that stand

and_false : (a b : Bool) → b ≡ false → (a && b) ≡ false
and_false true b e = e
and_false false b e = refl

-- a row that does not stand is one of them
pub all_fail : (c : Conj) (rows : List Row) (r : Row) → IsAmong r rows → (IsWellMade c → IsRowOver c.columns r → stands c.rows r ≡ false) → IsWellMade c → AreRowsOver c.columns rows → all_stand c.rows rows ≡ false
all_fail c [] r i h made over = absurd i
all_fail c (w ∷ rows) r (inl e) h made over =
    let no : stands c.rows w ≡ false = subst (λ (x : Row). IsRowOver c.columns x → stands c.rows x ≡ false) e (h made) over.0 in
    rw no refl
all_fail c (w ∷ rows) r (inr i) h made over = and_false (stands c.rows w) (all_stand c.rows rows) (all_fail c rows r i h made over.1)

-- the end where the rows stand among those of the question
pub standing_made : (search : Search) (node : Node) (rows : List Row) (end : PlanNext) (t : Plan) → IsEndFor search node.question rows end → AreStanding node.question.conj rows → IsEnd end t → IsMade search node.embedding node.question t
unfolding EndsWhere IsPlanIn
standing_made search node rows end t w standing is = record {
  plan = λ cs given formed. w.ends cs node.embedding node.question.conj t given formed standing is;
  stops = subst (StopsIn search node.question) (sym is.1) w.stops;
}

-- ---- claims that are not hit

-- their rows do not stand
pub rows_fail : (search : Search) (q : Path) (claim : Claim) → made_and_stand q.conj.rows (rows_renaming (columns_there search q) claim.rows) ≡ false → is_hit (judge_of search) q (Some claim) ≡ false
rows_fail search q claim h =
    let stand = made_and_stand q.conj.rows (rows_renaming (columns_there search q) claim.rows) in
    let right = same_position q.right.position claim.right in
    let left = same_position q.left.position claim.left in
    and_false q.gone (left && (right && stand)) (and_false left (right && stand) (and_false right stand h))

-- the claim is not of the pair
pub apart_fail : (search : Search) (q : Path) (claim : Claim) → (same_position q.left.position claim.left && same_position q.right.position claim.right) ≡ false → is_hit (judge_of search) q (Some claim) ≡ false
apart_fail search q claim e = and_false q.gone _ (by (same_position q.left.position claim.left) (same_position q.right.position claim.right) (made_and_stand q.conj.rows (rows_renaming (columns_there search q) claim.rows)) e)
  where
    by : (a b c : Bool) → (a && b) ≡ false → (a && (b && c)) ≡ false
    by true true c e = absurd cc
    by true false c e = refl
    by false b c e = refl

-- no step was taken
pub start_fails : (search : Search) (q : Path) (claims : List Claim) → q.gone ≡ false → HitsNone (judge_of search) claims q
start_fails search q [] e = tt
start_fails search q (c ∷ claims) e = (rw e refl, start_fails search q claims e)

-- rows that are not made are handed back
hands_none : (c : Conj) (o : Option (List Row)) (stop : UnfoldStop) → IsStop stop → HandsBack c (o ≡ None) stop → o ≡ None
hands_none c o (Overflow q) i h = h.1
hands_none c o (Spent q cost) i h = absurd h
hands_none c o (Paths found) i h = absurd h
hands_none c o (Memory want) i h = absurd i

given_none : {A : Type 0} (c : Conj) (o : Option (List Row)) (r : Result A UnfoldStop) → ((stop : UnfoldStop) × IsStop stop × (r ≡ Err stop)) → IfErr r (HandsBack c (o ≡ None)) → o ≡ None
given_none c o r g h = hands_none c o g.0 g.1 (subst (λ x. IfErr x (HandsBack c (o ≡ None))) g.2 h)

one_of : (claims : List Claim) (number : ℕ) (a b : Claim) → slice_get claims number ≡ Some a → slice_get claims number ≡ Some b → a ≡ b
one_of claims number a b e f = some-is a b (sym e ∙ f)

-- rows of the claim are not made
pub missed_unmade : {A : Type 0} (search : Search) (q : Path) (number : ℕ) (claim : Claim) (r : Result A UnfoldStop) → slice_get search.tabled.now number ≡ Some claim → ((stop : UnfoldStop) × IsStop stop × (r ≡ Err stop)) → IfErr r (HandsBack q.conj (rows_renaming (columns_there search q) claim.rows ≡ None)) → IsMissed search q number
missed_unmade search q number claim r there g h = λ other is moduli columns.
    let none = given_none q.conj (rows_renaming (columns_there search q) claim.rows) r g h in
    subst (λ (x : Claim). is_hit (judge_of search) q (Some x) ≡ false) (one_of search.tabled.now number claim other there is) (rows_fail search q claim (ap (made_and_stand q.conj.rows) none))

-- or do not stand
pub missed_rows : (search : Search) (q : Path) (number : ℕ) (claim : Claim) (rows : List Row) → slice_get search.tabled.now number ≡ Some claim → Some rows ≡ rows_renaming (columns_there search q) claim.rows
    → (AreRowsOver q.conj.columns rows → all_stand q.conj.rows rows ≡ false) → IsMissed search q number
missed_rows search q number claim rows there e h = λ other is moduli columns.
    let same = one_of search.tabled.now number claim other there is in
    let over : AreRowsOver q.conj.columns rows = rows_renaming-over (columns_there search q) q.conj.columns claim.rows rows columns (subst (λ (x : Claim). HaveModuli x.rows) (sym same) moduli) (sym e) in
    subst (λ (x : Claim). is_hit (judge_of search) q (Some x) ≡ false) same (rows_fail search q claim (ap (made_and_stand q.conj.rows) (sym e) ∙ h over))

pub missed_by : {E : Type 0} (search : Search) (q : Path) (number : ℕ) (claim : Claim) (rows : List Row) (r : Result (Option Plan) E) → slice_get search.tabled.now number ≡ Some claim → Some rows ≡ rows_renaming (columns_there search q) claim.rows
    → IfOk r (λ made. made ≡ None → IsWellMade q.conj → AreRowsOver q.conj.columns rows → all_stand q.conj.rows rows ≡ false) → IfOk r (λ made. made ≡ None → IsWellMade q.conj → IsMissed search q number)
missed_by search q number claim rows (Ok made) there e h = λ none well. missed_rows search q number claim rows there e (h none well)
missed_by search q number claim rows (Err x) there e h = tt

-- ---- all tabled claims

moduli_at : (claims : List Claim) (i : ℕ) (c : Claim) → HaveClaimModuli claims → slice_get claims i ≡ Some c → HaveModuli c.rows
moduli_at [] i c h e = absurd cc
moduli_at (d ∷ claims) zero c h e = subst (λ (x : Claim). HaveModuli x.rows) (some-is d c e) h.0
moduli_at (d ∷ claims) (suc i) c h e = moduli_at claims i c h.1 e

-- none of the first ones is hit
abbrev pub FirstMissed : Search → Path → ℕ → Type 0
FirstMissed search q number = HaveClaimModuli search.tabled.now → AreColumns q.conj.columns (columns_there search q) → HitsNone (judge_of search) (take number search.tabled.now) q

pub first_missed : (search : Search) (q : Path) (number : ℕ) (c : Claim) → number < length search.tabled.now → c ≡ get_or search.tabled.now number c → FirstMissed search q number
    → (HaveModuli c.rows → AreColumns q.conj.columns (columns_there search q) → is_hit (judge_of search) q (Some c) ≡ false) → slice_get search.tabled.now number ≡ Some c → FirstMissed search q (number + 1)
first_missed search q number c l e h one there moduli columns =
    let Hit = λ (x : Claim). is_hit (judge_of search) q (Some x) ≡ false in
    subst (AllByRecursion Hit) (sym (take_more search.tabled.now number c l ∙ ap (λ (x : Claim). take number search.tabled.now ++ x ∷ []) (sym e)))
    (all_more Hit (take number search.tabled.now) c (h moduli columns) (one (moduli_at search.tabled.now number c moduli there) columns))

pub all_missed : (search : Search) (q : Path) (number : ℕ) → length search.tabled.now ≤ number → FirstMissed search q number → HaveClaimModuli search.tabled.now → PassesNone (judge_of search) search.tabled.now q
all_missed search q number l h moduli columns = subst (λ (xs : List Claim). HitsNone (judge_of search) xs q) (take_all number search.tabled.now l) (h moduli columns)
