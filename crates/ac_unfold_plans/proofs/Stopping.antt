-- From a pair of positions to each path of it.
use Rattle.std.proofs.Common.{◌≡◌, inl, inr, ℕ, ◌+◌, ℤ, List, [], ◌∷◌, Bool, true, refl, sym, ap, ◌∙◌, subst}
use Rattle.std.specs.List.{AllByRecursion}
use Rattle.ac_forms.specs.Affine.{Affine}
use Rattle.ac_forms.specs.ListMembers.{IsAmong}
use Rattle.ac_syntax.specs.declared.tree.Position.{Position}
use Rattle.ac_cert.specs.declared.ends.Absurd.{Absurd}
use Rattle.ac_cert.specs.declared.types.Next as tree
use Rattle.ac_claims_paths.specs.PathSteps.{at_rows}
use Rattle.ac_claims_paths.specs.declared.path.Path.{Path}
use Rattle.ac_claims.specs.declared.types.Plan.{Plan}
use Rattle.ac_claims.specs.declared.types.PlanNext as plan
use Rattle.ac_claims.specs.declared.types.PlanNext.{items_hidden-the_row-Plan-0}
use Rattle.ac_claims.specs.declared.types.PlanNext.TheBlock.{hidden-the_row-Plan-0}
use Rattle.ac_claims.specs.declared.types.PlanNext.TheVariants as end
use Rattle.ac_claims_plans.specs.PlanAcceptance.{AreMovedKids, BranchesTo, IsMovedNext, ends, residue, split}
use Rattle.ac_claims_plans.specs.declared.embedding.Embedding.{Embedding}
use Rattle.ac_widen_programs.specs.PairSetting.{order_at}
use Rattle.ac_unfold_plans.specs.PlanStops.{positions_at, programs_of, CasesStop, ClassesStop, Stops}
use Rattle.ac_unfold_plans.proofs.Branches.{branches_gone}
use Rattle.ac_unfold_plans.proofs.Alike.{AreAlike, branches_alike}
use Rattle.ac_unfold_plans.specs.PlanStopRules.{BranchesStop, CertificatesStop, HitsStop, InitialCellsStop, KillsStop, NumbersStop, PlansStop, StepsStop}
use Rattle.ac_unfold_plans.specs.PairStops.{Stopped, StopEach, StopsOn}

-- ---- branches on rows

classes_stop : (g : Stopped) (key : Position × Position) (gone : Bool) {w : _} (kids : plan.Row_of-Plan w) (m : ℤ) (f : Affine) (i : ℕ) (h : Path) → positions_at h ≡ key → h.gone ≡ gone → ((t : Plan) → IsAmong t (plan.items-the_row-Plan w kids) → StopsOn g key gone t.next)
    → ClassesStop g.pair g.order g.recurrent g.part kids m f i h
classes_stop g key gone plan.end_of-Plan m f i h e d s = tt
classes_stop g key gone (plan.more_of-Plan ss t rest) m f i h e d s = ((λ c q. s _ (inl refl) (at_rows h c) e d), classes_stop g key gone rest m f (i + 1) h e d (λ u n. s u (inr n)))

down_stops : (g : Stopped) (key : Position × Position) (gone : Bool) (ts : List Plan) (x : plan.PlanNext) → BranchesTo ts x → ((t : Plan) → IsAmong t ts → StopsOn g key gone t.next) → StopsOn g key gone x
down_stops g key gone ts x (ends t n) s = s t n
down_stops g key gone ts x (split f low high a b) s = λ h e d c c' q.
    ((λ y i. down_stops g key gone ts low.value.next a s (at_rows h y) e d), (λ y i. down_stops g key gone ts high.value.next b s (at_rows h y) e d))
down_stops g key gone ts x (residue m f kids a) s = λ h e d.
    classes_stop g key gone (hidden-the_row-Plan-0 kids) m f 0 h e d (λ t n. down_stops g key gone ts t.next (a t (subst (IsAmong t) (items_hidden-the_row-Plan-0 kids) n)) s)

all_among : (P : Plan → Type 0) (ts : List Plan) → AllByRecursion P ts → (t : Plan) → IsAmong t ts → P t
all_among P [] h t n = absurd n
all_among P (u ∷ ts) h t (inl e) = subst P (sym e) h.0
all_among P (u ∷ ts) h t (inr n) = all_among P ts h.1 t n

pub branches_stop : BranchesStop
branches_stop g key gone ts x b all = down_stops g key gone ts x b (all_among (λ (t : Plan). StopsOn g key gone t.next) ts all)

pub plans_stop : PlansStop
plans_stop g key t s = λ h e d c q. s (at_rows h c) e d

-- ---- certificates

mutual
  next_stops : (s : Embedding) (x : tree.Next Absurd) (y : plan.PlanNext) → IsMovedNext s x y → (g : Stopped) (h : Path) → Stops g.pair g.order g.recurrent g.part y h
  next_stops s (tree.End e) (end.Absurd i) m g h = tt
  next_stops s (tree.Split' e p ss l q ts r) (plan.Split' u b xs v t ys z) m g h = λ c c' i. ((λ d j. next_stops s l v m.2 g (at_rows h d)), (λ d j. next_stops s r z m.4 g (at_rows h d)))
  next_stops s (tree.Residue' n e shape all) (plan.Residue' o u form each) m g h = kids_stop s all each m.2 g o u 0 h
  next_stops s (tree.Split' e p ss l q ts r) (plan.Residue' o u form each) m g h = absurd m
  next_stops s (tree.Split' e p ss l q ts r) (plan.Go' order u each) m g h = absurd m
  next_stops s (tree.Split' e p ss l q ts r) (end.Absurd i) m g h = absurd m
  next_stops s (tree.Split' e p ss l q ts r) (end.Killed kill) m g h = absurd m
  next_stops s (tree.Split' e p ss l q ts r) (end.Hit claim) m g h = absurd m
  next_stops s (tree.Split' e p ss l q ts r) end.SameNumber m g h = absurd m
  next_stops s (tree.Split' e p ss l q ts r) end.SameInitial m g h = absurd m
  next_stops s (tree.Residue' n e shape all) (plan.Split' u b xs v t ys z) m g h = absurd m
  next_stops s (tree.Residue' n e shape all) (plan.Go' order u each) m g h = absurd m
  next_stops s (tree.Residue' n e shape all) (end.Absurd i) m g h = absurd m
  next_stops s (tree.Residue' n e shape all) (end.Killed kill) m g h = absurd m
  next_stops s (tree.Residue' n e shape all) (end.Hit claim) m g h = absurd m
  next_stops s (tree.Residue' n e shape all) end.SameNumber m g h = absurd m
  next_stops s (tree.Residue' n e shape all) end.SameInitial m g h = absurd m
  next_stops s (tree.End e) (plan.Split' u b xs v t ys z) m g h = absurd m
  next_stops s (tree.End e) (plan.Residue' o u form each) m g h = absurd m
  next_stops s (tree.End e) (plan.Go' order u each) m g h = absurd m
  next_stops s (tree.End e) (end.Killed kill) m g h = absurd m
  next_stops s (tree.End e) (end.Hit claim) m g h = absurd m
  next_stops s (tree.End e) end.SameNumber m g h = absurd m
  next_stops s (tree.End e) end.SameInitial m g h = absurd m

  kids_stop : (s : Embedding) {w : _} (all : tree.Row_of-Tree Absurd w) {v : _} (each : plan.Row_of-Plan v) → AreMovedKids s all each → (g : Stopped) (n : ℤ) (f : Affine) (i : ℕ) (h : Path) → ClassesStop g.pair g.order g.recurrent g.part each n f i h
  kids_stop s tree.end_of-Tree plan.end_of-Plan m g n f i h = tt
  kids_stop s (tree.more_of-Tree ss l rest) (plan.more_of-Plan xs v more) m g n f i h = ((λ d j. next_stops s l v m.1 g (at_rows h d)), kids_stop s rest more m.2 g n f (i + 1) h)
  kids_stop s tree.end_of-Tree (plan.more_of-Plan xs v more) m g n f i h = absurd m
  kids_stop s (tree.more_of-Tree ss l rest) plan.end_of-Plan m g n f i h = absurd m

pub certificates_stop : CertificatesStop
certificates_stop s certificate t m g key gone = λ h e d. next_stops s certificate.next t.next m.1 g h

-- ---- steps

cases_stop : (g : Stopped) {w : _} (kids : plan.Row_of-Plan w) (bs hs : List Path) → AreAlike hs bs → ((k : Path) → IsAmong k hs → k.gone ≡ true) → StopEach g bs (plan.items-the_row-Plan w kids) → CasesStop g.pair g.order g.recurrent g.part kids hs
cases_stop g plan.end_of-Plan bs hs a gone s = tt
cases_stop g (plan.more_of-Plan ss t rest) bs [] a gone s = tt
cases_stop g (plan.more_of-Plan ss t rest) [] (h ∷ hs) a gone s = absurd a
cases_stop g (plan.more_of-Plan ss t rest) (b ∷ bs) (h ∷ hs) a gone s = ((λ c q. s.0 (at_rows h c) a.0 (gone h (inl refl))), cases_stop g rest bs hs a.1 (λ k n. gone k (inr n)) s.1)

pub steps_stop : StepsStop
steps_stop g q order cases bs may taken is each = λ h e d. (
  (λ gone. ap g.recurrent e ∙ may (sym d ∙ gone)),
  taken ∙ ap (λ (k : Position × Position). order_at g.pair k (g.order k)) (sym e),
  (λ hs b.
      cases_stop g (hidden-the_row-Plan-0 cases) bs hs (branches_alike (programs_of g.pair) order h q hs bs e b is) (branches_gone (programs_of g.pair) order h hs b)
      (subst (λ (ts : List Plan). StopEach g bs ts) (sym (items_hidden-the_row-Plan-0 cases)) each)),
)

-- ---- ends

pub kills_stop : KillsStop
kills_stop kill g key gone = λ h e d. tt

pub hits_stop : HitsStop
hits_stop g key gone n within = λ h e d. within

pub numbers_stop : NumbersStop
numbers_stop g key gone may = λ h e d there. ap g.recurrent e ∙ may (sym d ∙ there)

pub initial_cells_stop : InitialCellsStop
initial_cells_stop g key gone may = λ h e d there. ap g.recurrent e ∙ may (sym d ∙ there)
