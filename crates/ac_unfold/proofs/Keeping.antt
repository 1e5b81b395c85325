-- Courses on which rows have to stand: at the start, behind one branch more, and at the end.
use Rattle.std.proofs.Common.{◌≡◌, ℕ, ◌≤◌, true, List, [], ◌∷◌, ◌++◌, map, length, Option, Some, refl, sym, ap, ◌∙◌, subst}
use Rattle.ac_forms.specs.Rows.{form_of}
use Rattle.ac_forms.specs.Standing.{stands}
use Rattle.ac_forms.specs.declared.conj.Conj.{Conj}
use Rattle.ac_forms.specs.declared.row.Row.{Row}
use Rattle.ac_claims_paths.specs.WellFormedPaths.{AllFormed, IsFormed}
use Rattle.ac_claims_paths.specs.PathSteps.{Pairing, at_rows}
use Rattle.ac_claims_paths.specs.declared.path.Path.{Path}
use Rattle.ac_claims.specs.declared.types.Claim.{Claim}
use Rattle.ac_claims.specs.declared.types.Plan.{Plan}
use Rattle.ac_claims_plans.specs.Embeddings.{advanced}
use Rattle.ac_flow.specs.declared.types.Case.{Case}
use Rattle.ac_claims_plans.specs.BranchSides.{inside_of, outside_of, on_side, side_of, BranchServesAnywhere, CanBranch}
use Rattle.ac_claims_plans.specs.declared.embedding.Embedding.{Embedding}
use Rattle.ac_claims_plans.specs.QuestionCover.{Covers}
use Rattle.ac_claims_plans.specs.QuestionPaths.{IsPlanFor}
use Rattle.ac_claims_plans.specs.QuestionPlans.{question_on, AreSidePlans}
use Rattle.ac_claims_plans.proofs.Covering.{cover_themselves, covered_give_plans, may_stay, serve_covered}
use Rattle.ac_claims_plans.proofs.Serving.{branches_give_plans}
use Rattle.ac_claims_plans.proofs.Sides.{sides_formed}
use Rattle.ac_unfold.specs.OpenBranches.{IsBehind, HasBranchMore}
use Rattle.ac_unfold.specs.PlanResults.{judge_of, AreStanding, IsCaseAt, IsRefuted, IsStanding}
use Rattle.ac_unfold.specs.KillCuts.{AreMadeOn, CutsMore}
use Rattle.ac_unfold.specs.EndRows.{AreRefutedOn, Cuts, IsEndedPlan, IsEndOf, Keeps, KeepsMore, Leads}
use Rattle.ac_unfold.specs.RequiredRows.{CanStand}
use Rattle.ac_unfold.specs.declared.course.Course.{Course}
use Rattle.ac_unfold.specs.declared.course.Open.{Open}
use Rattle.ac_unfold.specs.declared.ends.Search.{Search}
use Rattle.ac_unfold.specs.declared.node.Node.{Node}
use Rattle.ac_forms.proofs.Standings.{stands-more}
use Rattle.ac_unfold.proofs.Behind.{behind_last}
use Rattle.ac_unfold.proofs.Growing.{grown_part, grown_same}
use Rattle.ac_unfold.proofs.Sides.{all_standing_side, inside_is, one_more_stands, standing_inside}
use Rattle.ac_unfold.proofs.Stops.{all_anywhere_stop, anywhere_stops, behind_stops, beside_more}

-- ---- at the start

leads_start : (g : Pairing) (cs : List Claim) (s : Embedding) (q : Path) (course : Course) (z : Embedding) (v : Path) → course.branches.items ≡ [] → z ≡ s → v ≡ q → Leads g cs s q course z v
leads_start g cs s q course z v none e f end t p b =
    let same : end ≡ t = subst (λ (bs : List Open). IsBehind bs end t) none b in
    subst (λ (x : Plan). IsPlanFor g cs s q x) same (subst (λ (y : Embedding). IsPlanFor g cs y q end) e (subst (λ (y : Path). IsPlanFor g cs z y end) f p))

pub keeps_start : (search : Search) (cs : List Claim) (node : Node) (course : Course) → course.node ≡ node → course.branches.items ≡ [] → IsFormed (judge_of search).params node.question → Keeps search cs node.embedding node.question course []
keeps_start search cs node course e none formed = record {
  placed = node.embedding;
  on_path = node.question;
  leads = leads_start (judge_of search) cs node.embedding node.question course node.embedding node.question none refl refl;
  same = ap (λ (n : Node). n.question) e;
  covers = subst (λ (n : Node). Covers n.embedding n.question node.embedding node.question) (sym e) (cover_themselves node.embedding node.question);
  more = λ r h. subst (λ (n : Node). stands n.question.conj.rows r ≡ true) e h;
  formed = formed;
  standing = tt;
}

pub cuts_start : (search : Search) (cs : List Claim) (node : Node) (course : Course) → course.node ≡ node → course.branches.items ≡ [] → IsFormed (judge_of search).params node.question → Cuts search cs node.embedding node.question course []
cuts_start search cs node course e none formed = record {
  leads = leads_start (judge_of search) cs node.embedding node.question course course.node.embedding course.node.question none (ap (λ (n : Node). n.embedding) e) (ap (λ (n : Node). n.question) e);
  positions = subst (λ (n : Node). n.question ≡ at_rows node.question n.question.conj) (sym e) refl;
  formed = subst (λ (n : Node). IsFormed (judge_of search).params n.question) (sym e) formed;
  standing = tt;
}

-- ---- behind one branch more

serves_last : (course next : Course) (row : Row) (outside : List Plan) (o : HasBranchMore course row outside next) (end u : Plan) → BranchServesAnywhere o.last.embedding o.last.row end o.last.outside.items u → BranchServesAnywhere course.node.embedding row end outside u
serves_last course next row outside o end u h =
    subst (λ (z : Embedding). BranchServesAnywhere z row end outside u) o.embedding (subst (λ (r : Row). BranchServesAnywhere o.last.embedding r end outside u) o.row_is (subst (λ (ts : List Plan). BranchServesAnywhere o.last.embedding o.last.row end ts u) o.outside_are h))

leads_opened : (g : Pairing) (cs : List Claim) (s : Embedding) (q : Path) (course next : Course) (row : Row) (outside : List Plan) (z : Embedding) (v : Path) (y : Embedding) (w : Path) → HasBranchMore course row outside next → Leads g cs s q course z v
    → ((end u : Plan) → BranchServesAnywhere course.node.embedding row end outside u → IsPlanFor g cs y w end → IsPlanFor g cs z v u) → Leads g cs s q next y w
leads_opened g cs s q course next row outside z v y w o leads branch end t p b =
    let k = behind_last course.branches.items o.last end t (subst (λ (bs : List Open). IsBehind bs end t) o.branches b) in
    leads k.plan t (branch end k.plan (serves_last course next row outside o end k.plan k.serves) p) k.behind

pub keeps_more : (search : Search) (cs : List Claim) (s : Embedding) (q : Path) (course next : Course) (row : Row) (outside : List Plan) (rows : List Row) → Keeps search cs s q course rows → HasBranchMore course row outside next → next.node.question ≡ course.node.question
    → next.node.embedding ≡ advanced course.node.embedding (inside_of row).path_columns (inside_of row).path_rows → CanStand course.node.question.conj.columns row → CanBranch row
    → AreSidePlans (judge_of search) cs course.node.embedding course.node.question (outside_of course.node.question.conj.columns row) outside → Keeps search cs s q next (rows ++ row ∷ [])
keeps_more search cs s q course next row outside rows k o same placed can branch sides =
    let g = judge_of search in
    let v = k.on_path in
    let z = k.placed in
    let i = inside_is row in
    let w = question_on v (inside_of row) in
    let can' : CanStand v.conj.columns row = subst (λ (n : ℕ). CanStand n row) (sym k.covers.question_columns) can in
    let covers : Covers (advanced course.node.embedding (inside_of row).path_columns (inside_of row).path_rows) course.node.question (on_side z (inside_of row)) w = may_stay course.node.embedding course.node.question z v (inside_of row) i.places i.columns k.covers in
    record {
      placed = on_side z (inside_of row);
      on_path = w;
      leads = leads_opened g cs s q course next row outside z v (on_side z (inside_of row)) w o k.leads
          (λ end u h p. covered_give_plans g cs course.node.embedding course.node.question z v row end outside u k.covers k.formed.made can.over branch h p sides);
      same = same ∙ k.same;
      covers = subst (λ (x : Embedding). Covers x next.node.question (on_side z (inside_of row)) w) (sym placed)
          (subst (λ (x : Path). Covers (advanced course.node.embedding (inside_of row).path_columns (inside_of row).path_rows) x (on_side z (inside_of row)) w) (sym same) covers);
      more = λ r h. goes_on r (k.more r (subst (λ (x : Path). stands x.conj.rows r ≡ true) same h));
      formed = (sides_formed g.params v row k.formed can'.over).0;
      standing = one_more_stands w.conj rows row (all_standing_side v.conj (inside_of row) rows k.standing) (standing_inside v.conj row can');
    }
  where
    goes_on : (r : Row) → stands k.on_path.conj.rows r ≡ true → stands (side_of k.on_path.conj (inside_of row)).rows r ≡ true
    goes_on r h = stands-more k.on_path.conj.rows (inside_of row).rows r h

-- a row that stands already
pub keeps_standing : (search : Search) (cs : List Claim) (s : Embedding) (q : Path) (course : Course) (row : Row) (rows : List Row) → Keeps search cs s q course rows → IsStanding course.node.question.conj row → Keeps search cs s q course (rows ++ row ∷ [])
keeps_standing search cs s q course row rows k h = record {
  placed = k.placed;
  on_path = k.on_path;
  leads = k.leads;
  same = k.same;
  covers = k.covers;
  more = k.more;
  formed = k.formed;
  standing = one_more_stands k.on_path.conj rows row k.standing (subst (λ (n : ℕ). length (form_of row).coefs ≤ n) (sym k.covers.question_columns) h.0, k.more row h.1);
}

pub cuts_more : (search : Search) (cs : List Claim) (s : Embedding) (q : Path) (course next : Course) (row : Row) (outside : List Plan) (rows : List Row) → Cuts search cs s q course rows → HasBranchMore course row outside next
    → next.node.question ≡ question_on course.node.question (inside_of row) → next.node.embedding ≡ on_side course.node.embedding (inside_of row) → CanStand course.node.question.conj.columns row → CanBranch row
    → (AllFormed (judge_of search).params (map (question_on course.node.question) (outside_of course.node.question.conj.columns row)) → AreSidePlans (judge_of search) cs course.node.embedding course.node.question (outside_of course.node.question.conj.columns row) outside) → Cuts search cs s q next (rows ++ row ∷ [])
cuts_more search cs s q course next row outside rows k o same placed can branch sides =
    let g = judge_of search in
    let v = course.node.question in
    let w = question_on v (inside_of row) in
    let formed = sides_formed g.params v row k.formed can.over in
    let leads : Leads g cs s q next (on_side course.node.embedding (inside_of row)) w = leads_opened g cs s q course next row outside course.node.embedding v (on_side course.node.embedding (inside_of row)) w o k.leads
    (λ end u h p. branches_give_plans g cs course.node.embedding v row end outside u k.formed.made can.over branch (h course.node.embedding.rows) p (sides formed.1)) in
    record {
      leads = subst (λ (z : Embedding). Leads g cs s q next z next.node.question) (sym placed) (subst (λ (x : Path). Leads g cs s q next (on_side course.node.embedding (inside_of row)) x) (sym same) leads);
      positions = subst (λ (x : Path). x ≡ at_rows q x.conj) (sym same) (ap (λ (x : Path). question_on x (inside_of row)) k.positions);
      formed = subst (λ (x : Path). IsFormed g.params x) (sym same) formed.0;
      standing = subst (λ (x : Path). AreStanding x.conj (rows ++ row ∷ [])) (sym same) (one_more_stands w.conj rows row (all_standing_side v.conj (inside_of row) rows k.standing) (standing_inside v.conj row can));
    }

-- ---- at the end

-- the question of the node has no point
pub refuted_end : (search : Search) (course : Course) (o : Option Plan) (t : Plan) → IsEndedPlan course o t → ((end : Plan) → o ≡ Some end → IsRefuted course.node.embedding course.node.question end) → IsEndOf search course t
refuted_end search course o t e none = record {
  plan = λ cs s q rows given k. k.leads e.last t (serve_covered (judge_of search) cs course.node.embedding course.node.question k.placed k.on_path e.last k.covers ((none e.last e.is).plan (judge_of search) cs)) e.behind;
  stops = λ q b. behind_stops search q course.branches.items e.last t b.outside e.behind (anywhere_stops search q e.last.next (none e.last e.is).stops);
}

-- ---- what the functions promise

pub stays_more : (search : Search) (course : Course) (row : Row) → IsStanding course.node.question.conj row → KeepsMore search course row course
stays_more search course row h = record { keeps = λ cs s q rows given k. keeps_standing search cs s q course row rows k h; beside = λ q b. b }

pub branch_more : (search : Search) (course next : Course) (row : Row) (outside : List Plan) → HasBranchMore course row outside next → next.node.question ≡ course.node.question → next.node.embedding ≡ advanced course.node.embedding (inside_of row).path_columns (inside_of row).path_rows
    → CanStand course.node.question.conj.columns row → CanBranch row → AreRefutedOn search course.node.embedding course.node.question (outside_of course.node.question.conj.columns row) outside → KeepsMore search course row next
branch_more search course next row outside o same placed can branch sides = record {
  keeps = λ cs s q rows given k. keeps_more search cs s q course next row outside rows k o same placed can branch (sides.sides given.making (judge_of search) cs);
  beside = λ q b. beside_more search q course next row outside o (grown_same course.node.question next.node.question same) (all_anywhere_stop search course.node.question outside sides.stop) b;
}

-- the case is still what is assumed
case_goes : (g : Pairing) (q v : Path) (case : Case) → v ≡ at_rows q v.conj → IsCaseAt g q case → IsCaseAt g v case
case_goes g q v case e h = record {
  assumed = h.assumed;
  is = ap (λ (x : Path). x.last) e ∙ h.is;
  model = h.model;
  reader = h.reader;
  flow = h.flow;
  flow_is = h.flow_is;
  among = h.among;
  stands_for = h.stands_for;
}

pub case_beside : (g : Pairing) (q : Path) (c : Conj) (case : Case) → IsCaseAt g q case → IsCaseAt g (at_rows q c) case
case_beside g q c case h = case_goes g q (at_rows q c) case refl h

pub cut_goes : (search : Search) (case : Case) (course next : Course) (row : Row) (outside : List Plan) → HasBranchMore course row outside next → next.node.question ≡ question_on course.node.question (inside_of row) → next.node.embedding ≡ on_side course.node.embedding (inside_of row)
    → CanStand course.node.question.conj.columns row → CanBranch row → AreMadeOn search case course.node.embedding course.node.question (outside_of course.node.question.conj.columns row) outside → CutsMore search case course row next
cut_goes search case course next row outside o same placed can branch sides = record {
  cuts = λ cs s q rows given assumed k. cuts_more search cs s q course next row outside rows k o same placed can branch (λ formed. sides.sides cs given (case_goes (judge_of search) q course.node.question case k.positions assumed) formed);
  beside = λ q b. beside_more search q course next row outside o (grown_part course.node.question next.node.question (inside_of row) same) sides.stop b;
}
