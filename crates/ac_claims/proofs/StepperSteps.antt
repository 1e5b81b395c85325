-- What a check of a proof comes to, line by line.
use Rattle.std.proofs.Common.{◌≡◌, ℕ, List, length, Bool, true, false, Option, Some, None, Result, Ok, Err, refl, sym, ap, ◌∙◌, subst}
use Rattle.std.proofs.lemmas.List.{length-replicate}
use Rattle.std.specs.Prelude.{pos, replicate}
use Rattle.std.specs.declared.alloc.AllocError.{AllocError}
use Rattle.ac_forms.specs.Rows.{AreRowsOver}
use Rattle.ac_syntax.specs.ReadyPrograms.{ReadyProgram, FitParts}
use Rattle.ac_syntax.specs.declared.tree.Cond.{Cond}
use Rattle.ac_syntax.specs.declared.tree.Pair.{Pair}
use Rattle.ac_syntax.specs.declared.tree.Program.{Program}
use Rattle.ac_poly.specs.Model.{model_of}
use Rattle.ac_poly.specs.declared.types.Model.{Model}
use Rattle.ac_poly.proofs.Columns.{has_columns}
use Rattle.ac_cert.specs.declared.types.Rule.{Rule}
use Rattle.ac_claims_paths.specs.WellFormedPaths.{HasModuli}
use Rattle.ac_claims_paths.specs.PathSteps.{Pairing}
use Rattle.ac_claims_paths.specs.declared.path.Programs.{Programs}
use Rattle.ac_claims_paths.proofs.Described.{models_describe}
use Rattle.ac_claims.specs.CheckKnowledge.{known_of, refusal_unless, Comes}
use Rattle.ac_claims.specs.Dues.{Answers}
use Rattle.ac_claims.specs.Machine.{Due, Taken, take_item}
use Rattle.ac_claims.specs.ProofMachine.{Known, Came, yes_if, come_within, come}
use Rattle.ac_claims.specs.ReadyModels.{AreReady}
use Rattle.ac_claims.specs.Soundness.{ArePaired, AreModels}
use Rattle.ac_claims.specs.Steppers.{come_by}
use Rattle.ac_claims.specs.CheckState.{came_by}
use Rattle.ac_claims.specs.declared.entry.Refusal.{Refusal}
use Rattle.ac_claims.specs.declared.front.Front.{Front}
use Rattle.ac_claims.specs.declared.item.Item.{Item}
use Rattle.ac_claims.proofs.ProofFolding.{IsOfPlan, come-within}

-- a line that is a test
pub comes_unless : (b : Bool) (k : ℕ) (r : Rule) (s : Known) (o : Option Refusal) → o ≡ refusal_unless b k r → Comes (yes_if b k r s) (Ok o) s
comes_unless b k r s o e = subst (λ (z : Option Refusal). Comes (yes_if b k r s) (Ok z) s) (sym e) (by b)
  where
    by : (b : Bool) → Comes (yes_if b k r s) (Ok (refusal_unless b k r)) s
    by true = refl
    by false = refl

-- a line of the plan under way
comes_within : (g : Pairing) (t : Taken) (f : Front) (due new : List Due) (r : Result (Option Refusal) AllocError) → Answers t new r → Comes (come_within t (known_of g f due)) r (known_of g f new)
comes_within g t f due new (Ok None) h = ap (λ z. come_within z (known_of g f due)) h
comes_within g t f due new (Ok (Some x)) h = ap (λ z. come_within z (known_of g f due)) h.0
comes_within g t f due new (Err e) h = tt

pub comes_plan : (g : Pairing) (outputs : List ℕ) (x : Item) (k : ℕ) (f : Front) (due new : List Due) (r : Result (Option Refusal) AllocError) → IsOfPlan x → Answers (take_item g f.claims x k due) new r → Comes (come g outputs x k (known_of g f due)) r (known_of g f new)
comes_plan g outputs x k f due new r u h = subst (λ (z : Came). Comes z r (known_of g f new)) (sym (come-within g outputs x u k (known_of g f due))) (comes_within g (take_item g f.claims x k due) f due new r h)

pub ruleset come_steps = (comes_unless)

-- the first refusal is kept
pub refused_kept : (g : Pairing) (f : Front) (due : List Due) (o : Option Refusal) (go : Known → Came) (x : Refusal) → o ≡ Some x → came_by g f due o ≡ come_by (came_by g f due o) go
refused_kept g f due o go x e = subst (λ (z : Option Refusal). came_by g f due z ≡ come_by (came_by g f due z) go) (sym e) refl

pub refusal_noted : (g : Pairing) (f f' : Front) (due due' : List Due) (o o' : Option Refusal) (go : Known → Came) → o ≡ None → Comes (go (known_of g f due)) (Ok o') (known_of g f' due') → came_by g f' due' o' ≡ come_by (came_by g f due o) go
refusal_noted g f f' due due' o o' go e h = by o' h ∙ sym (ap (λ (z : Option Refusal). come_by (came_by g f due z) go) e)
  where
    by : (o' : Option Refusal) → Comes (go (known_of g f due)) (Ok o') (known_of g f' due') → came_by g f' due' o' ≡ go (known_of g f due)
    by None h = sym h
    by (Some x) h = sym h

pub ruleset note_steps = (refused_kept, refusal_noted)

-- the models of a pair are ready for a check
model_moduli : (p : Program) (context : Cond) → ReadyProgram p → FitParts (length p.params) 0 context.parts → HasModuli (model_of p context)
model_moduli p context r f =
    let d = models_describe p context (replicate (length p.params) (pos 0)) r f (length-replicate (length p.params) (pos 0)) in
    record { pieces = d.pieces_moduli; levels = d.levels_moduli }

pub models_ready : (pair : Pair) (programs : Programs) → ArePaired pair → AreModels pair programs.left.now programs.right.now → AreReady programs
models_ready pair programs t a = record {
  left = subst HasModuli (sym a.left_is) (model_moduli pair.left pair.context t.left t.context);
  right = subst HasModuli (sym a.right_is) (model_moduli pair.right pair.context t.right (subst (λ n. FitParts n 0 pair.context.parts) (sym t.params) t.context));
  context = subst (λ (m : Model). AreRowsOver m.params m.context) (sym a.left_is) (has_columns pair.left pair.context t.left t.context).context;
}
