-- The loops over the nodes of an assignment and over the forms of two times.
use Rattle.std.proofs.Common.{inl, inr, subst, zero, suc, Result, Ok, Err, IsErrAnd, IfErr, ◌≡◌, ℕ, ◌+◌, ◌<◌, ◌≤◌, List, [], ◌∷◌, ◌++◌, length, drop, take, get_or, refl, sym, ap, ◌∙◌, append_assoc, append-nil, arith, Bool, true, false, cond, ◌-◌}
use Rattle.std.specs.Prelude.{nat_le, min}
use Rattle.std.proofs.lemmas.Bool.Decides.{nat_tests}
use Rattle.std.specs.List.{flat_map}
use Rattle.std.proofs.lemmas.List.{take_more, take_all, drop_all, length-drop}
use Rattle.ac_forms.specs.Affine.{Affine}
use Rattle.ac_forms.specs.FormStops.{IfWide}
use Rattle.ac_forms.specs.ListMembers.{IsAmong}
use Rattle.ac_forms.specs.declared.stop.FormStop.{FormStop}
use Rattle.ac_forms.specs.declared.stop.FormStop.TheVariants.{Wide, Memory}
use Rattle.ac_forms.specs.declared.row.Row.{Row}
use Rattle.ac_poly.specs.declared.types.NodeModel.{NodeModel}
use Rattle.ac_poly.specs.declared.types.NodeModel.TheVariants.{Number, Read, Call}
use Rattle.ac_legal_law.specs.OrderQuestions.{CellForms, reads, late}
use Rattle.ac_legal.specs.WideQuestions.{IsWideWith, AreWideWith, IsWideDifference, AreWideTimes}

reads-append : (xs ys : List NodeModel) → reads (xs ++ ys) ≡ reads xs ++ reads ys
reads-append [] ys = refl
reads-append (Number f ∷ xs) ys = reads-append xs ys
reads-append (Read array subs ∷ xs) ys = ap (λ (r : List CellForms). record { array = array; subs = subs } ∷ r) (reads-append xs ys)
reads-append (Call s args ∷ xs) ys = reads-append xs ys

flat-append : (f : CellForms → List (List Row)) (xs ys : List CellForms) → flat_map f (xs ++ ys) ≡ flat_map f xs ++ flat_map f ys
flat-append f [] ys = refl
flat-append f (x ∷ xs) ys = ap (λ (r : List (List Row)). f x ++ r) (flat-append f xs ys) ∙ sym (append_assoc (f x) (flat_map f xs) (flat_map f ys))

-- what is added after i nodes
pub record Added (f : CellForms → List (List Row)) (nodes : List NodeModel) (old : List (List Row)) (i : ℕ) (out : List (List Row)) : Type 0 where
  pub value : out ≡ old ++ flat_map f (reads (take i nodes))

pub added_start : (f : CellForms → List (List Row)) (nodes : List NodeModel) (old : List (List Row)) → Added f nodes old 0 old
added_start f nodes old = record { value = sym (append-nil old) }

pub added_step : (f : CellForms → List (List Row)) (nodes : List NodeModel) (old : List (List Row)) (i : ℕ) (out new : List (List Row)) (n : NodeModel)
    → Added f nodes old i out → i < length nodes → n ≡ get_or nodes i n → new ≡ out ++ flat_map f (reads (n ∷ [])) → Added f nodes old (i + 1) new
added_step f nodes old i out new n h l e g = record {
  value =
      g
      ∙ ap (λ (t : List (List Row)). t ++ flat_map f (reads (n ∷ []))) h.value
      ∙ append_assoc old (flat_map f (reads (take i nodes))) (flat_map f (reads (n ∷ [])))
      ∙ ap (λ (t : List (List Row)). old ++ t) (sym (flat-append f (reads (take i nodes)) (reads (n ∷ []))))
      ∙ ap (λ (t : List CellForms). old ++ flat_map f t) (sym (reads-append (take i nodes) (n ∷ [])))
      ∙ ap (λ (t : List NodeModel). old ++ flat_map f (reads t)) (ap (λ (m : NodeModel). take i nodes ++ m ∷ []) e ∙ sym (take_more nodes i n l));
}

pub added_end : (f : CellForms → List (List Row)) (nodes : List NodeModel) (old : List (List Row)) (i : ℕ) (out : List (List Row)) → Added f nodes old i out → length nodes ≤ i → out ≡ old ++ flat_map f (reads nodes)
added_end f nodes old i out h l = h.value ∙ ap (λ (t : List NodeModel). old ++ flat_map f (reads t)) (take_all i nodes l)

pub ruleset reading_steps = (added_start, added_step, added_end)

-- ---- cells and times that cannot be formed

pub wide_on : (stop : FormStop) (P Q : Type 0) → (P → Q) → IfWide stop P → IfWide stop Q
wide_on Wide P Q f h = f h
wide_on (Memory e) P Q f h = tt

read_first : (x : NodeModel) (xs : List NodeModel) (b : CellForms) → IsAmong b (reads (x ∷ [])) → IsAmong b (reads (x ∷ xs))
read_first (Number f) xs b h = absurd h
read_first (Read array subs) xs b h = elim h [ inl e ↦ inl e | inr k ↦ absurd k ]
read_first (Call s args) xs b h = absurd h

read_later : (x : NodeModel) (xs : List NodeModel) (b : CellForms) → IsAmong b (reads xs) → IsAmong b (reads (x ∷ xs))
read_later (Number f) xs b h = h
read_later (Read array subs) xs b h = inr h
read_later (Call s args) xs b h = h

-- what a node reads, the nodes read
pub read_there : (nodes : List NodeModel) (i : ℕ) (n : NodeModel) (b : CellForms) → i < length nodes → n ≡ get_or nodes i n → IsAmong b (reads (n ∷ [])) → IsAmong b (reads nodes)
read_there [] i n b l e h = absurd (omega arith)
read_there (x ∷ nodes) zero n b l e h = read_first x nodes b (subst (λ (y : NodeModel). IsAmong b (reads (y ∷ []))) e h)
read_there (x ∷ nodes) (suc i) n b l e h = read_later x nodes b (read_there nodes i n b (omega arith) e h)

pub wide_with : (ks ls : List ℕ) (a : CellForms) (nodes : List NodeModel) (i : ℕ) (n : NodeModel) (stop : FormStop) → i < length nodes → n ≡ get_or nodes i n → IfWide stop (IsWideWith ks ls a (reads (n ∷ []))) → IfWide stop (IsWideWith ks ls a (reads nodes))
wide_with ks ls a nodes i n stop l e h = wide_on stop (IsWideWith ks ls a (reads (n ∷ []))) (IsWideWith ks ls a (reads nodes)) (λ k. (k.0, read_there nodes i n k.0 l e k.1, k.2)) h

pub wide_by : (ks ls : List ℕ) (b : CellForms) (nodes : List NodeModel) (i : ℕ) (n : NodeModel) (stop : FormStop) → i < length nodes → n ≡ get_or nodes i n → IfWide stop (AreWideWith ks ls (reads (n ∷ [])) b) → IfWide stop (AreWideWith ks ls (reads nodes) b)
wide_by ks ls b nodes i n stop l e h = wide_on stop (AreWideWith ks ls (reads (n ∷ [])) b) (AreWideWith ks ls (reads nodes) b) (λ k. (k.0, read_there nodes i n k.0 l e k.1, k.2)) h

pub wide_time : (fs gs : List Affine) (k : ℕ) (f g : Affine) → k < length fs → k < length gs → f ≡ get_or fs k f → g ≡ get_or gs k g → IsWideDifference f g → AreWideTimes fs gs
wide_time [] gs k f g l m d e h = absurd (omega arith)
wide_time (x ∷ fs) [] k f g l m d e h = absurd (omega arith)
wide_time (x ∷ fs) (y ∷ gs) zero f g l m d e h = inl (subst (λ (q : Affine × Affine). IsWideDifference q.0 q.1) (λ t. (d t, e t)) h)
wide_time (x ∷ fs) (y ∷ gs) (suc k) f g l m d e h = inr (wide_time fs gs k f g (omega arith) (omega arith) d e h)

pub through_err : {T : Type 0} (r : Result T FormStop) (e : FormStop) (P : Type 0) → IsErrAnd r (λ h. h ≡ e) → IfWide e P → IfErr r (λ h. IfWide h P)
through_err (Ok x) e P h k = tt
through_err (Err f) e P h k = subst (λ (x : FormStop). IfWide x P) (sym h) k

-- ---- two times

late-done : (fs : List Affine) (done : List Row) → late fs [] done ≡ done ∷ []
late-done [] done = refl
late-done (f ∷ fs) done = refl

late-none : (gs : List Affine) (done : List Row) → 0 < length gs → late [] gs done ≡ []
late-none [] done l = absurd (omega arith)
late-none (g ∷ gs) done l = refl

le_true : (m n : ℕ) → nat_le m n ≡ true → m ≤ n
le_true m n h = grind (arith, nat_tests)

le_false : (m n : ℕ) → nat_le m n ≡ false → n < m
le_false m n h = grind (arith, nat_tests)

pub late_end : (fs gs : List Affine) (made : List (List Row)) (done : List Row) (k : ℕ) → min (length fs) (length gs) ≤ k → k ≤ min (length fs) (length gs)
    → late fs gs [] ≡ made ++ late (drop k fs) (drop k gs) done → (b : Bool) → nat_le (length gs) (length fs) ≡ b → late fs gs [] ≡ cond b (made ++ done ∷ []) made
late_end fs gs made done k l m h true e =
    let w : length gs ≤ length fs = le_true (length gs) (length fs) e in
    h ∙ ap (λ (t : List Affine). made ++ late (drop k fs) t done) (drop_all k gs (omega arith)) ∙ ap (λ (t : List (List Row)). made ++ t) (late-done (drop k fs) done)
late_end fs gs made done k l m h false e =
    let w : length fs < length gs = le_false (length gs) (length fs) e in
    let long : length (drop k gs) ≡ length gs - k = length-drop k gs in
    h ∙ ap (λ (t : List Affine). made ++ late t (drop k gs) done) (drop_all k fs (omega arith)) ∙ ap (λ (t : List (List Row)). made ++ t) (late-none (drop k gs) done (omega arith)) ∙ append-nil made
