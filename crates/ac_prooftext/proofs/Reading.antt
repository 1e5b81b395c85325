-- The lines of a spelled proof are read to a proof with these lines.
use Rattle.std.proofs.Common.{◌≡◌, ⊎_elim, ℕ, suc, ◌+◌, ◌-◌, ◌<◌, List, [], ◌∷◌, ◌++◌, map, length, Option, Some, None, refl, sym, ap, ◌∙◌, subst, arith, append_assoc, append-nil, length-append}
use Rattle.std.specs.Prelude.{unsigned_abs}
use Rattle.std.specs.List.{flat_map, AllByRecursion}
use Rattle.std.specs.declared.alloc.Global.{Global}
use Rattle.ac_forms.specs.Affine.{Affine}
use Rattle.ac_forms.specs.declared.row.Row.{Row}
use Rattle.ac_syntax.specs.declared.tree.Position.{Position}
use Rattle.ac_omega_steps.specs.declared.choose.Choice.{Choice}
use Rattle.ac_cert.specs.declared.types.Step.{Step}
use Rattle.ac_claims.specs.CheckFeed.{of_choice}
use Rattle.ac_claims.specs.Machine.{step_items, choice_items, next_items, row_items, IsSpelled, AreSpelled}
use Rattle.ac_claims.specs.PlanFaults.{count_of}
use Rattle.ac_claims.specs.ProofMachine.{items_of, head_items, row_lines, claims_lines, output_lines, tree_lines, lines_of, with_last, AreSpelledTrees}
use Rattle.ac_claims.specs.declared.item.Item.{Item}
use Rattle.ac_claims.specs.declared.item.Item.TheVariants as item
use Rattle.ac_claims.specs.declared.types.Claim.{Claim}
use Rattle.ac_claims.specs.declared.types.ClaimTree.{ClaimTree}
use Rattle.ac_claims.specs.declared.types.Heads.{Heads}
use Rattle.ac_claims.specs.declared.types.Kill.{Kill}
use Rattle.ac_claims.specs.declared.types.Plan.{Plan}
use Rattle.ac_claims.specs.declared.types.PlanNext.{PlanNext, Split', Residue', Go', Row_of-Plan, end_of-Plan, more_of-Plan}
use Rattle.ac_claims.specs.declared.types.PlanNext.TheVariants.{Absurd, Killed, Hit, SameNumber, SameInitial}
use Rattle.ac_claims.specs.declared.types.Proof.{Proof}
use Rattle.ac_claims.proofs.ProofFolding.{last_is}
use Rattle.ac_prooftext.specs.ProofAssembly.{IsSpelledPlan, Fills, Opened, inner, with_child, IsWhole, Closes, EndsWith, Branches, kill_lines, with_choice, Copied, Chosen, name_of, with_point, with_heads, with_claims, with_outputs, with_name, with_plan, TakenInPlan, AreTaken, unread, HasParts, SameProof}
use Rattle.ac_prooftext.specs.declared.proof_reader.ProofReader.{ProofReader}
use Rattle.ac_prooftext.specs.declared.proof_reader.TreeName.{TreeName}

-- steps and what stands behind them, in front of others
before : (ss : List Step) (x : PlanNext) → ((rest : List Item) → next_items x rest ≡ next_items x [] ++ rest) → (rest : List Item) → step_items ss (next_items x rest) ≡ step_items ss (next_items x []) ++ rest
before [] x h rest = h rest
before (s ∷ ss) x h rest = ap (λ z. item.Step s ∷ z) (before ss x h rest)

choices_before : (xs : List Choice) (rest : List Item) → choice_items xs rest ≡ choice_items xs [] ++ rest
choices_before [] rest = refl
choices_before (x ∷ xs) rest = ap (λ z. item.Choice x ∷ z) (choices_before xs rest)

mutual
  next_before : (x : PlanNext) (rest : List Item) → next_items x rest ≡ next_items x [] ++ rest
  next_before (Split' f p s l q t r) rest =
      let last = step_items t (next_items r []) in
      ap (λ z. item.Split f ∷ z) (
      ap (λ z. step_items s (next_items l z)) (before t r (next_before r) rest)
      ∙ before s l (next_before l) (last ++ rest)
      ∙ sym (append_assoc (step_items s (next_items l [])) last rest)
      ∙ ap (λ z. z ++ rest) (sym (before s l (next_before l) last)))
  next_before (Residue' m f shape all) rest = ap (λ z. item.Residue m f ∷ z) (row_before all rest)
  next_before (Go' order shape all) rest = ap (λ z. item.Go order (count_of all) ∷ z) (row_before all rest)
  next_before (Absurd i) rest = refl
  next_before (Killed kill) rest = ap (λ z. item.Killed kill.stmt kill.piece kill.after kill.before (length kill.choices) ∷ z) (choices_before kill.choices rest)
  next_before (Hit c) rest = refl
  next_before SameNumber rest = refl
  next_before SameInitial rest = refl

  row_before : {m : _} (all : Row_of-Plan m) (rest : List Item) → row_items all rest ≡ row_items all [] ++ rest
  row_before end_of-Plan rest = refl
  row_before (more_of-Plan s t more) rest =
      ap (λ z. step_items s (next_items t z)) (row_before more rest)
      ∙ before s t (next_before t) (row_items more [] ++ rest)
      ∙ sym (append_assoc (step_items s (next_items t [])) (row_items more []) rest)
      ∙ ap (λ z. z ++ rest) (sym (before s t (next_before t) (row_items more [])))

-- a line of a plan, and then one that other lines were read behind
same_on : (b m n : ProofReader) (o : Option Plan) → m ≡ with_plan b m.plan None → n ≡ with_plan m n.plan o → n ≡ with_plan b n.plan o
same_on b m n o e f = f ∙ ap (λ z. with_plan z n.plan o) e

-- a plan whose lines were read, with these steps and these lines behind them
record PlanTaken (ss : List Step) (xs rest : List Item) (b e : ProofReader) : Type 0 where
  pub plan : Plan
  pub steps_are : plan.steps ≡ ss
  pub items_are : next_items plan.next [] ≡ xs
  pub spelled : IsSpelledPlan plan
  pub behind : ProofReader
  pub whole : Option Plan
  pub closes : Closes (inner b.plan.branches) plan (inner behind.plan.branches) whole
  pub no_steps : behind.plan.steps ≡ []
  pub same : behind ≡ with_plan b behind.plan whole
  pub onward : AreTaken rest behind e

ending : (xs rest : List Item) (b m e : ProofReader) (o : Option Plan) → EndsWith xs b.plan m.plan o → m ≡ with_plan b m.plan o → AreTaken rest m e → PlanTaken b.plan.steps xs rest b e
ending xs rest b m e o h same on = record {
  plan = record { steps = b.plan.steps; next = h.next };
  steps_are = refl;
  items_are = h.items;
  spelled = h.spelled;
  behind = m;
  whole = o;
  closes = h.ends.0;
  no_steps = h.ends.1;
  same = same;
  onward = on;
}

moved : (ss ss' : List Step) (xs xs' rest : List Item) (b m e : ProofReader) → ss' ≡ ss → xs' ≡ xs → m.plan.branches ≡ b.plan.branches → m ≡ with_plan b m.plan None → PlanTaken ss' xs' rest m e → PlanTaken ss xs rest b e
moved ss ss' xs xs' rest b m e es ex eb same p = record {
  plan = p.plan;
  steps_are = p.steps_are ∙ es;
  items_are = p.items_are ∙ ex;
  spelled = p.spelled;
  behind = p.behind;
  whole = p.whole;
  closes = subst (λ z. Closes (inner z) p.plan (inner p.behind.plan.branches) p.whole) eb p.closes;
  no_steps = p.no_steps;
  same = same_on b m p.behind p.whole same p.same;
  onward = p.onward;
}

record StepsTaken (ss : List Step) (rest : List Item) (b e : ProofReader) : Type 0 where
  pub behind : ProofReader
  pub branches : behind.plan.branches ≡ b.plan.branches
  pub steps : behind.plan.steps ≡ b.plan.steps ++ ss
  pub same : behind ≡ with_plan b behind.plan None
  pub onward : AreTaken rest behind e

steps_taken : (ss : List Step) (rest : List Item) (b e : ProofReader) → AreTaken (step_items ss rest) b e → StepsTaken ss rest b e
steps_taken [] rest b e h = record { behind = b; branches = refl; steps = sym (append-nil b.plan.steps); same = refl; onward = h }
steps_taken (s ∷ ss) rest b e h =
    let m = h.0 in
    let t : TakenInPlan (item.Step s) b m = h.1.0 in
    let r = steps_taken ss rest m e h.1.1 in
    record {
      behind = r.behind;
      branches = r.branches ∙ t.takes.1;
      steps = r.steps ∙ ap (λ z. z ++ ss) t.takes.2 ∙ append_assoc b.plan.steps (s ∷ []) ss;
      same = same_on b m r.behind None (t.same ∙ ap (λ z. with_plan b m.plan z) t.takes.0) r.same;
      onward = r.onward;
    }

after_steps : (ss : List Step) (xs rest more : List Item) (b e : ProofReader) → b.plan.steps ≡ [] → (r : StepsTaken ss more b e) → PlanTaken r.behind.plan.steps xs rest r.behind e → PlanTaken ss xs rest b e
after_steps ss xs rest more b e none r p = moved ss r.behind.plan.steps xs xs rest b r.behind e (r.steps ∙ ap (λ z. z ++ ss) none) refl r.branches r.same p

-- a child, behind which others are to come, and the last one
closes_more : (o : Opened) (os new : List Opened) (t : Plan) (w : Option Plan) → 1 < o.left → Closes (o ∷ os) t new w → (w ≡ None) × (new ≡ with_child o t ∷ os)
closes_more o os new t w more h = ⊎_elim (λ a. (a.1, a.2)) (λ z. absurd (let l = z.0 in omega (arith, more, l))) (h (omega (arith, more)))

closes_last : (o : Opened) (os new : List Opened) (t : Plan) (w : Option Plan) → o.left ≡ 1 → Closes (o ∷ os) t new w → (u : Plan) × (IsWhole o t u × Closes os u new w)
closes_last o os new t w last h = ⊎_elim (λ a. absurd (let l = a.0 in omega (arith, last, l))) (λ z. z.1) (h (omega (arith, last)))

closes_all : (new : List Opened) (t : Plan) (w : Option Plan) → Closes [] t new w → (new ≡ []) × (w ≡ Some t)
closes_all new t None h = absurd h
closes_all new t (Some u) h = (h.0, ap (λ (z : Plan). Some z) h.1)

abbrev AreSpelledPlans : List Plan → Type 0
AreSpelledPlans = AllByRecursion IsSpelledPlan

one_more : (ts : List Plan) (t : Plan) → AreSpelledPlans ts → IsSpelledPlan t → AreSpelledPlans (ts ++ t ∷ [])
one_more [] t h k = (k, tt)
one_more (x ∷ ts) t h k = (h.0, one_more ts t h.1 k)

flat_more : (ts : List Plan) (t : Plan) (rest : List Item) → flat_map items_of (ts ++ t ∷ []) ++ rest ≡ flat_map items_of ts ++ (items_of t ++ rest)
flat_more [] t rest = ap (λ z. z ++ rest) (append-nil (items_of t))
flat_more (x ∷ ts) t rest =
    append_assoc (items_of x) (flat_map items_of (ts ++ t ∷ [])) rest ∙ ap (λ z. items_of x ++ z) (flat_more ts t rest) ∙ sym (append_assoc (items_of x) (flat_map items_of ts) (items_of t ++ rest))

-- the items of a plan that was read are those of the lines
items_as : (t : Plan) (s : List Step) (x : PlanNext) → t.steps ≡ s → next_items t.next [] ≡ next_items x [] → items_of t ≡ step_items s (next_items x [])
items_as t s x es ex = λ i. step_items (es i) (ex i)

abbrev opened_at : List Step → Item → ℕ → List Plan → Opened
opened_at ss x n ts = record { steps = ss; line = x; left = n; children = ts }

-- the children of a branch were read to the last
record RowTaken (ss : List Step) (line : Item) (kids : List Plan) (xs rest : List Item) (os : List Opened) (b e : ProofReader) : Type 0 where
  pub plan : Plan
  pub steps_are : plan.steps ≡ ss
  pub items_are : next_items plan.next [] ≡ line ∷ (flat_map items_of kids ++ xs)
  pub spelled : IsSpelledPlan plan
  pub behind : ProofReader
  pub whole : Option Plan
  pub closes : Closes os plan (inner behind.plan.branches) whole
  pub no_steps : behind.plan.steps ≡ []
  pub same : behind ≡ with_plan b behind.plan whole
  pub onward : AreTaken rest behind e

-- what reads so many further children
abbrev Onward : List Step → Item → ℕ → List Item → List Item → List Item → List Opened → ProofReader → Type 0
Onward ss line n rows xs rest os e =
    (kids : List Plan) (m : ProofReader) → inner m.plan.branches ≡ opened_at ss line n kids ∷ os → m.plan.steps ≡ [] → 0 < n → AreSpelledPlans kids → Fills line (length kids + n) → AreTaken rows m e → RowTaken ss line kids xs rest os m e

child_taken : {w : _} (more : Row_of-Plan w) (s : List Step) (t : PlanNext) (ss : List Step) (line : Item) (kids : List Plan) (rest : List Item) (os : List Opened) (b e : ProofReader)
    → inner b.plan.branches ≡ opened_at ss line (suc (count_of more)) kids ∷ os → AreSpelledPlans kids → Fills line (length kids + suc (count_of more)) → PlanTaken s (next_items t []) (row_items more rest) b e
    → Onward ss line (count_of more) (row_items more rest) (row_items more []) rest os e → RowTaken ss line kids (step_items s (next_items t (row_items more []))) rest os b e
child_taken end_of-Plan s t ss line kids rest os b e is sp fills p go =
    let o = opened_at ss line 1 kids in
    let k = closes_last o os (inner p.behind.plan.branches) p.plan p.whole refl (subst (λ z. Closes z p.plan (inner p.behind.plan.branches) p.whole) is p.closes) in
    let count : length kids + 1 ≡ length (kids ++ p.plan ∷ []) = sym (length-append kids (p.plan ∷ [])) in
    let own : items_of p.plan ≡ step_items s (next_items t []) = items_as p.plan s t p.steps_are p.items_are in
    record {
      plan = k.0;
      steps_are = k.1.0.0;
      items_are = k.1.0.1.items ∙ ap (λ z. line ∷ z) (sym (append-nil (flat_map items_of (kids ++ p.plan ∷ []))) ∙ flat_more kids p.plan [] ∙ ap (λ z. flat_map items_of kids ++ z) (append-nil (items_of p.plan) ∙ own));
      spelled = k.1.0.1.spelled (one_more kids p.plan sp p.spelled) (subst (Fills line) count fills);
      behind = p.behind;
      whole = p.whole;
      closes = k.1.1;
      no_steps = p.no_steps;
      same = p.same;
      onward = p.onward;
    }
child_taken (more_of-Plan u v all) s t ss line kids rest os b e is sp fills p go =
    let n = count_of all in
    let xs = row_items (more_of-Plan u v all) [] in
    let o = opened_at ss line (suc (suc n)) kids in
    let k = closes_more o os (inner p.behind.plan.branches) p.plan p.whole (omega arith) (subst (λ z. Closes z p.plan (inner p.behind.plan.branches) p.whole) is p.closes) in
    let less : suc (suc n) - 1 ≡ suc n = omega arith in
    let count : length kids + suc (suc n) ≡ length (kids ++ p.plan ∷ []) + suc n = let l = length-append kids (p.plan ∷ []) in omega (arith, l) in
    let own : items_of p.plan ≡ step_items s (next_items t []) = items_as p.plan s t p.steps_are p.items_are in
    let r = go (kids ++ p.plan ∷ []) p.behind (k.1 ∙ ap (λ z. opened_at ss line z (kids ++ p.plan ∷ []) ∷ os) less) p.no_steps (omega arith) (one_more kids p.plan sp p.spelled) (subst (Fills line) count fills) p.onward in
    record {
      plan = r.plan;
      steps_are = r.steps_are;
      items_are = r.items_are ∙ ap (λ z. line ∷ z) (flat_more kids p.plan xs ∙ ap (λ z. flat_map items_of kids ++ z) (ap (λ z. z ++ xs) own ∙ sym (before s t (next_before t) xs)));
      spelled = r.spelled;
      behind = r.behind;
      whole = r.whole;
      closes = r.closes;
      no_steps = r.no_steps;
      same = same_on b p.behind r.behind r.whole (p.same ∙ ap (λ z. with_plan b p.behind.plan z) k.0) r.same;
      onward = r.onward;
    }

-- a branch was read
branched : {w : _} (all : Row_of-Plan w) (x : Item) (rest : List Item) (b m e : ProofReader) (o : Option Plan) → Branches x (count_of all) b.plan m.plan o → m ≡ with_plan b m.plan o → Fills x (count_of all) → AreTaken (row_items all rest) m e
    → Onward b.plan.steps x (count_of all) (row_items all rest) (row_items all []) rest (inner b.plan.branches) e → PlanTaken b.plan.steps (x ∷ row_items all []) rest b e
branched end_of-Plan x rest b m e o h same fills on go = ending (x ∷ []) rest b m e o h same on
branched (more_of-Plan s t all) x rest b m e o h same fills on go =
    let more : suc (count_of all) ≡ 0 + suc (count_of all) = omega arith in
    let r = go [] m h.1 h.2 (omega arith) tt (subst (Fills x) more fills) on in
    record {
      plan = r.plan;
      steps_are = r.steps_are;
      items_are = r.items_are;
      spelled = r.spelled;
      behind = r.behind;
      whole = r.whole;
      closes = r.closes;
      no_steps = r.no_steps;
      same = same_on b m r.behind r.whole (same ∙ ap (λ z. with_plan b m.plan z) h.0) r.same;
      onward = r.onward;
    }

split_of : (f : Affine) (a c : Plan) (x y : List Item) → items_of a ≡ x → items_of c ≡ y → item.Split f ∷ flat_map items_of (a ∷ c ∷ []) ≡ item.Split f ∷ (x ++ y)
split_of f a c x y ea ec = ap (λ z. item.Split f ∷ z) (ap (λ z. items_of a ++ z) (append-nil (items_of c)) ∙ (λ i. ea i ++ ec i))

-- the two children of a split were read
split_taken : (f : Affine) (s t : List Step) (l r : PlanNext) (rest : List Item) (b m e : ProofReader) (o : Option Plan) → Branches (item.Split f) 2 b.plan m.plan o → m ≡ with_plan b m.plan o
    → (p : PlanTaken s (next_items l []) (step_items t (next_items r rest)) m e) → PlanTaken t (next_items r []) rest p.behind e → PlanTaken b.plan.steps (item.Split f ∷ step_items s (next_items l (step_items t (next_items r [])))) rest b e
split_taken f s t l r rest b m e o h same p q =
    let os = inner b.plan.branches in
    let k = closes_more (opened_at b.plan.steps (item.Split f) 2 []) os (inner p.behind.plan.branches) p.plan p.whole (omega arith) (subst (λ z. Closes z p.plan (inner p.behind.plan.branches) p.whole) h.1 p.closes) in
    let n = closes_last (opened_at b.plan.steps (item.Split f) 1 (p.plan ∷ [])) os (inner q.behind.plan.branches) q.plan q.whole refl (subst (λ z. Closes z q.plan (inner q.behind.plan.branches) q.whole) k.1 q.closes) in
    let last = step_items t (next_items r []) in
    record {
      plan = n.0;
      steps_are = n.1.0.0;
      items_are = n.1.0.1.items ∙ split_of f p.plan q.plan (step_items s (next_items l [])) last (items_as p.plan s l p.steps_are p.items_are) (items_as q.plan t r q.steps_are q.items_are) ∙ ap (λ z. item.Split f ∷ z) (sym (before s l (next_before l) last));
      spelled = n.1.0.1.spelled (p.spelled, (q.spelled, tt)) tt;
      behind = q.behind;
      whole = q.whole;
      closes = n.1.1;
      no_steps = q.no_steps;
      same = same_on b m q.behind q.whole (same ∙ ap (λ z. with_plan b m.plan z) h.0) (same_on m p.behind q.behind q.whole (p.same ∙ ap (λ z. with_plan m p.behind.plan z) k.0) q.same);
      onward = q.onward;
    }

-- the choices of a copy were read
abbrev with_choices : Kill → List Choice → Kill
with_choices k cs = record { stmt = k.stmt; piece = k.piece; after = k.after; before = k.before; choices = k.choices ++ cs }

choices_flat : (cs : List Choice) → flat_map of_choice cs ≡ choice_items cs []
choices_flat [] = refl
choices_flat (c ∷ cs) = ap (λ z. item.Choice c ∷ z) (choices_flat cs)

choices_taken : (cs : List Choice) (k : Kill) (rest : List Item) (b e : ProofReader) → 0 < length cs → b.plan.kill ≡ Some (k, length cs) → AreTaken (choice_items cs rest) b e → PlanTaken b.plan.steps (kill_lines (with_choices k cs)) rest b e
choices_taken [] k rest b e some is h = absurd (omega (arith, some))
choices_taken (c ∷ []) k rest b e some is h =
    let m = h.0 in
    let t : TakenInPlan (item.Choice c) b m = h.1.0 in
    let taken : Copied (with_choice k c) (1 - 1) b.plan m.plan t.whole = subst (λ z. Chosen c z b.plan m.plan t.whole) is t.takes in
    ending (kill_lines (with_choice k c)) rest b m e t.whole taken t.same h.1.1
choices_taken (c ∷ d ∷ cs) k rest b e some is h =
    let m = h.0 in
    let t : TakenInPlan (item.Choice c) b m = h.1.0 in
    let n = length cs in
    let less : suc (suc n) - 1 ≡ suc n = omega arith in
    let taken : Copied (with_choice k c) (suc (suc n) - 1) b.plan m.plan t.whole = subst (λ z. Chosen c z b.plan m.plan t.whole) is t.takes in
    let on : Copied (with_choice k c) (suc n) b.plan m.plan t.whole = subst (λ z. Copied (with_choice k c) z b.plan m.plan t.whole) less taken in
    moved b.plan.steps m.plan.steps (kill_lines (with_choices k (c ∷ d ∷ cs))) (kill_lines (with_choices (with_choice k c) (d ∷ cs))) rest b m e on.2
    (ap (λ z. kill_lines (record { stmt = k.stmt; piece = k.piece; after = k.after; before = k.before; choices = z })) (append_assoc k.choices (c ∷ []) (d ∷ cs))) on.1
    (t.same ∙ ap (λ z. with_plan b m.plan z) on.0)
    (choices_taken (d ∷ cs) (with_choice k c) rest m e (omega arith) on.3 h.1.1)

kill_taken : (cs : List Choice) (k : Kill) (rest : List Item) (b m e : ProofReader) (o : Option Plan) → k.choices ≡ [] → Copied k (length cs) b.plan m.plan o → m ≡ with_plan b m.plan o → AreTaken (choice_items cs rest) m e
    → PlanTaken b.plan.steps (item.Killed k.stmt k.piece k.after k.before (length cs) ∷ choice_items cs []) rest b e
kill_taken [] k rest b m e o none h same on =
    ending (item.Killed k.stmt k.piece k.after k.before 0 ∷ []) rest b m e o (subst (λ z. EndsWith z b.plan m.plan o) (ap (λ z. kill_lines (record { stmt = k.stmt; piece = k.piece; after = k.after; before = k.before; choices = z })) none) h) same on
kill_taken (c ∷ cs) k rest b m e o none h same on =
    let all = c ∷ cs in
    let lines : kill_lines (with_choices k all) ≡ item.Killed k.stmt k.piece k.after k.before (length all) ∷ choice_items all [] =
    ap (λ z. kill_lines (record { stmt = k.stmt; piece = k.piece; after = k.after; before = k.before; choices = z ++ all })) none ∙ ap (λ z. item.Killed k.stmt k.piece k.after k.before (length all) ∷ z) (choices_flat all) in
    moved b.plan.steps m.plan.steps (item.Killed k.stmt k.piece k.after k.before (length all) ∷ choice_items all []) (kill_lines (with_choices k all)) rest b m e h.2 lines h.1 (same ∙ ap (λ z. with_plan b m.plan z) h.0)
    (choices_taken all k rest m e (omega arith) h.3 on)

mutual
  next_taken : (x : PlanNext) (rest : List Item) (b e : ProofReader) → IsSpelled x → AreTaken (next_items x rest) b e → PlanTaken b.plan.steps (next_items x []) rest b e
  next_taken (Split' f p s l q t r) rest b e sp h =
      let m = h.0 in
      let k : TakenInPlan (item.Split f) b m = h.1.0 in
      let behind_first = step_items t (next_items r rest) in
      let ss = steps_taken s (next_items l behind_first) m e h.1.1 in
      let first = after_steps s (next_items l []) behind_first (next_items l behind_first) m e k.takes.2 ss (next_taken l behind_first ss.behind e sp.0 ss.onward) in
      let ts = steps_taken t (next_items r rest) first.behind e first.onward in
      let second = after_steps t (next_items r []) rest (next_items r rest) first.behind e first.no_steps ts (next_taken r rest ts.behind e sp.1 ts.onward) in
      split_taken f s t l r rest b m e k.whole k.takes k.same first second
  next_taken (Residue' n f shape all) rest b e sp h =
      let m = h.0 in
      let k : TakenInPlan (item.Residue n f) b m = h.1.0 in
      let taken : Branches (item.Residue n f) (count_of all) b.plan m.plan k.whole = subst (λ z. Branches (item.Residue n f) (unsigned_abs z) b.plan m.plan k.whole) sp.0 k.takes in
      branched all (item.Residue n f) rest b m e k.whole taken k.same sp.0 h.1.1 (row_taken all b.plan.steps (item.Residue n f) rest (inner b.plan.branches) e sp.1)
  next_taken (Go' order shape all) rest b e sp h =
      let m = h.0 in
      let k : TakenInPlan (item.Go order (count_of all)) b m = h.1.0 in
      branched all (item.Go order (count_of all)) rest b m e k.whole k.takes k.same tt h.1.1 (row_taken all b.plan.steps (item.Go order (count_of all)) rest (inner b.plan.branches) e sp)
  next_taken (Absurd i) rest b e sp h = let k : TakenInPlan (item.Absurd i) b h.0 = h.1.0 in ending (item.Absurd i ∷ []) rest b h.0 e k.whole k.takes k.same h.1.1
  next_taken (Killed kill) rest b e sp h =
      let k : TakenInPlan (item.Killed kill.stmt kill.piece kill.after kill.before (length kill.choices)) b h.0 = h.1.0 in
      kill_taken kill.choices (record { stmt = kill.stmt; piece = kill.piece; after = kill.after; before = kill.before; choices = [] }) rest b h.0 e k.whole refl k.takes k.same h.1.1
  next_taken (Hit c) rest b e sp h = let k : TakenInPlan (item.Hit c) b h.0 = h.1.0 in ending (item.Hit c ∷ []) rest b h.0 e k.whole k.takes k.same h.1.1
  next_taken SameNumber rest b e sp h = let k : TakenInPlan item.Number b h.0 = h.1.0 in ending (item.Number ∷ []) rest b h.0 e k.whole k.takes k.same h.1.1
  next_taken SameInitial rest b e sp h = let k : TakenInPlan item.Initial b h.0 = h.1.0 in ending (item.Initial ∷ []) rest b h.0 e k.whole k.takes k.same h.1.1

  row_taken : {w : _} (all : Row_of-Plan w) (ss : List Step) (line : Item) (rest : List Item) (os : List Opened) (e : ProofReader) → AreSpelled all → Onward ss line (count_of all) (row_items all rest) (row_items all []) rest os e
  row_taken end_of-Plan ss line rest os e sp kids m is none some kids_spelled fills h = absurd (omega (arith, some))
  row_taken (more_of-Plan s t more) ss line rest os e sp kids m is none some kids_spelled fills h =
      let behind_child = row_items more rest in
      let ts = steps_taken s (next_items t behind_child) m e h in
      let child = after_steps s (next_items t []) behind_child (next_items t behind_child) m e none ts (next_taken t behind_child ts.behind e sp.0 ts.onward) in
      child_taken more s t ss line kids rest os m e is kids_spelled fills child (row_taken more ss line rest os e sp.1)

abbrev plan_lines : ClaimTree → List Item
plan_lines t = items_of t.tree

-- the plans, and the end
record TreesTaken (ts : List ClaimTree) (b e : ProofReader) : Type 0 where
  pub trees : List ClaimTree
  pub lines_are : (rest : List Item) → tree_lines trees rest ≡ tree_lines ts rest
  pub names : map name_of trees ≡ map name_of ts
  pub plans : map plan_lines trees ≡ map plan_lines ts
  pub spelled : AreSpelledTrees trees
  pub trees_are : e.trees ≡ b.trees ++ trees
  pub point : e.point ≡ b.point
  pub heads : e.heads ≡ b.heads
  pub claims : e.claims ≡ b.claims
  pub outputs : e.outputs ≡ b.outputs

abbrev tree_by : TreeName → Plan → ClaimTree
tree_by n t = record { claim = n.claim; left_piece = n.left_piece; right_piece = n.right_piece; tree = t }

trees_taken : (ts : List ClaimTree) (b e : ProofReader) → AreSpelledTrees ts → inner b.plan.branches ≡ [] → b.plan.steps ≡ [] → AreTaken (tree_lines ts (item.End ∷ [])) b e → TreesTaken ts b e
trees_taken [] b e sp none no_steps h =
    let q : e ≡ b = h.1.1 ∙ h.1.0 in
    record {
      trees = [];
      lines_are = λ rest. refl;
      names = refl;
      plans = refl;
      spelled = tt;
      trees_are = ap (λ (z : ProofReader). z.trees) q ∙ sym (append-nil b.trees);
      point = ap (λ (z : ProofReader). z.point) q;
      heads = ap (λ (z : ProofReader). z.heads) q;
      claims = ap (λ (z : ProofReader). z.claims) q;
      outputs = ap (λ (z : ProofReader). z.outputs) q;
    }
trees_taken (t ∷ ts) b e sp none no_steps h =
    let name : TreeName = record { claim = t.claim; left_piece = t.left_piece; right_piece = t.right_piece } in
    let m = h.0 in
    let named : m ≡ with_name b name = h.1.0 in
    let rest = tree_lines ts (item.End ∷ []) in
    let s = t.tree.steps in
    let x = t.tree.next in
    let on : AreTaken (step_items s (next_items x rest)) m e = subst (λ z. AreTaken z m e) (sym (before s x (next_before x) rest)) h.1.1 in
    let ss = steps_taken s (next_items x rest) m e on in
    let p = after_steps s (next_items x []) rest (next_items x rest) m e (ap (λ (z : ProofReader). z.plan.steps) named ∙ no_steps) ss (next_taken x rest ss.behind e sp.0 ss.onward) in
    let open_none : inner m.plan.branches ≡ [] = ap (λ (z : ProofReader). inner z.plan.branches) named ∙ none in
    let all = closes_all (inner p.behind.plan.branches) p.plan p.whole (subst (λ z. Closes z p.plan (inner p.behind.plan.branches) p.whole) open_none p.closes) in
    let same : p.behind ≡ with_plan (with_name b name) p.behind.plan (Some p.plan) = p.same ∙ (λ i. with_plan (named i) p.behind.plan (all.1 i)) in
    let r = trees_taken ts p.behind e sp.1 all.0 p.no_steps p.onward in
    record {
      trees = tree_by name p.plan ∷ r.trees;
      lines_are = λ more. (λ i. item.Tree t.claim t.left_piece t.right_piece ∷ (items_as p.plan s x p.steps_are p.items_are i ++ r.lines_are more i));
      names = ap (λ z. name ∷ z) r.names;
      plans = (λ i. items_as p.plan s x p.steps_are p.items_are i ∷ r.plans i);
      spelled = (p.spelled, r.spelled);
      trees_are = r.trees_are ∙ ap (λ (z : ProofReader). z.trees ++ r.trees) same ∙ append_assoc b.trees (tree_by name p.plan ∷ []) r.trees;
      point = r.point ∙ ap (λ (z : ProofReader). z.point) same;
      heads = r.heads ∙ ap (λ (z : ProofReader). z.heads) same;
      claims = r.claims ∙ ap (λ (z : ProofReader). z.claims) same;
      outputs = r.outputs ∙ ap (λ (z : ProofReader). z.outputs) same;
    }

-- lines that led to this reader, behind which others were read
abbrev Led : List Item → ProofReader → ProofReader → Type 0
Led rest b e = (m : ProofReader) × ((m ≡ b) × AreTaken rest m e)

outputs_taken : (os : List (ℕ × ℕ)) (rest : List Item) (b e : ProofReader) → AreTaken (output_lines os rest) b e → Led rest (with_outputs b (b.outputs ++ os)) e
outputs_taken [] rest b e h = (b, (ap (with_outputs b) (sym (append-nil b.outputs)), h))
outputs_taken (o ∷ os) rest b e h =
    let m = h.0 in
    let is : m ≡ with_outputs b (b.outputs ++ o ∷ []) = h.1.0 in
    let r = outputs_taken os rest m e h.1.1 in
    (r.0, (r.1.0 ∙ ap (λ (z : ProofReader). with_outputs z (z.outputs ++ os)) is ∙ ap (with_outputs b) (append_assoc b.outputs (o ∷ []) os), r.1.1))

abbrev claim_by : Position → Position → List Row → Claim
claim_by P Q rs = record { left = P; right = Q; rows = rs }

rows_taken : (rs : List Row) (rest : List Item) (cs : List Claim) (P Q : Position) (done : List Row) (b e : ProofReader) → b.claims ≡ cs ++ claim_by P Q done ∷ [] → AreTaken (row_lines rs rest) b e → Led rest (with_claims b (cs ++ claim_by P Q (done ++ rs) ∷ [])) e
rows_taken [] rest cs P Q done b e is h = (b, (ap (with_claims b) (is ∙ ap (λ z. cs ++ claim_by P Q z ∷ []) (sym (append-nil done))), h))
rows_taken (r ∷ rs) rest cs P Q done b e is h =
    let m = h.0 in
    let taken : m ≡ with_claims b (with_last b.claims r) = h.1.0 in
    let last : with_last b.claims r ≡ cs ++ claim_by P Q (done ++ r ∷ []) ∷ [] = ap (λ z. with_last z r) is ∙ last_is cs (claim_by P Q done) r in
    let t = rows_taken rs rest cs P Q (done ++ r ∷ []) m e (ap (λ (z : ProofReader). z.claims) taken ∙ last) h.1.1 in (
      t.0,
      (t.1.0 ∙ ap (λ (z : ProofReader). with_claims z (cs ++ claim_by P Q ((done ++ r ∷ []) ++ rs) ∷ [])) taken ∙ ap (λ z. with_claims b (cs ++ claim_by P Q z ∷ [])) (append_assoc done (r ∷ []) rs), t.1.1),
    )

claims_taken : (cs : List Claim) (rest : List Item) (b e : ProofReader) → AreTaken (claims_lines cs rest) b e → Led rest (with_claims b (b.claims ++ cs)) e
claims_taken [] rest b e h = (b, (ap (with_claims b) (sym (append-nil b.claims)), h))
claims_taken (c ∷ cs) rest b e h =
    let m = h.0 in
    let taken : m ≡ with_claims b (b.claims ++ claim_by c.left c.right [] ∷ []) = h.1.0 in
    let t = rows_taken c.rows (claims_lines cs rest) b.claims c.left c.right [] m e (ap (λ (z : ProofReader). z.claims) taken) h.1.1 in
    let here : t.0 ≡ with_claims b (b.claims ++ c ∷ []) = t.1.0 ∙ ap (λ (z : ProofReader). with_claims z (b.claims ++ c ∷ [])) taken in
    let r = claims_taken cs rest t.0 e t.1.1 in
    (r.0, (r.1.0 ∙ ap (λ (z : ProofReader). with_claims z (z.claims ++ cs)) here ∙ ap (with_claims b) (append_assoc b.claims (c ∷ []) cs), r.1.1))

heads_taken : (o : Option Heads) (rest : List Item) (b e : ProofReader) → b.heads ≡ None → b.left ≡ [] → AreTaken (head_items o rest) b e → Led rest (with_heads b [] o) e
heads_taken None rest b e none no_left h = (b, ((λ i. with_heads b (no_left i) (none i)), h))
heads_taken (Some o) rest b e none no_left h =
    let m = h.0 in
    let left : m ≡ with_heads b o.left b.heads = h.1.0 in
    let k = h.1.1 in
    let right : k.0 ≡ with_heads m [] (Some (record { left = m.left; right = o.right })) = k.1.0 in
    (k.0, (right ∙ ap (λ (z : ProofReader). with_heads z [] (Some (record { left = z.left; right = o.right }))) left, k.1.1))

-- a proof that was read of the lines of a spelled one is the same
pub whole_read : (a : Global) (p q : Proof) (e : ProofReader) → AreSpelledTrees p.trees.items → AreTaken (lines_of p) (unread a) e → HasParts e q → SameProof p q
whole_read a p q e sp h parts =
    let trees = tree_lines p.trees.items (item.End ∷ []) in
    let outputs = output_lines p.outputs trees in
    let claims = claims_lines p.claims outputs in
    let b = unread a in
    let m = h.0 in
    let point : m ≡ with_point b p.point = h.1.0 in
    let hs = heads_taken p.heads (item.Claims (length p.claims) ∷ claims) m e (ap (λ (z : ProofReader). z.heads) point) (ap (λ (z : ProofReader). z.left) point) h.1.1 in
    let count = hs.1.1 in
    let counted : count.0 ≡ with_heads (with_point b p.point) [] p.heads = count.1.0 ∙ (hs.1.0 ∙ ap (λ z. with_heads z [] p.heads) point) in
    let cs = claims_taken p.claims outputs count.0 e count.1.1 in
    let claimed : cs.0 ≡ with_claims (with_heads (with_point b p.point) [] p.heads) p.claims = cs.1.0 ∙ ap (λ (z : ProofReader). with_claims z (z.claims ++ p.claims)) counted in
    let os = outputs_taken p.outputs trees cs.0 e cs.1.1 in
    let named : os.0 ≡ with_outputs (with_claims (with_heads (with_point b p.point) [] p.heads) p.claims) p.outputs = os.1.0 ∙ ap (λ (z : ProofReader). with_outputs z (z.outputs ++ p.outputs)) claimed in
    let ts = trees_taken p.trees.items os.0 e sp (ap (λ (z : ProofReader). inner z.plan.branches) named) (ap (λ (z : ProofReader). z.plan.steps) named) os.1.1 in
    let q_trees : q.trees.items ≡ ts.trees = parts.trees ∙ (ts.trees_are ∙ ap (λ (z : ProofReader). z.trees ++ ts.trees) named) in
    let q_point : q.point ≡ p.point = parts.point ∙ (ts.point ∙ ap (λ (z : ProofReader). z.point) named) in
    let q_heads : q.heads ≡ p.heads = parts.heads ∙ (ts.heads ∙ ap (λ (z : ProofReader). z.heads) named) in
    let q_claims : q.claims ≡ p.claims = parts.claims ∙ (ts.claims ∙ ap (λ (z : ProofReader). z.claims) named) in
    let q_outputs : q.outputs ≡ p.outputs = parts.outputs ∙ (ts.outputs ∙ ap (λ (z : ProofReader). z.outputs) named) in
    record {
      lines = (λ i. item.Point (q_point i) ∷ head_items (q_heads i) (item.Claims (length (q_claims i)) ∷ claims_lines (q_claims i) (output_lines (q_outputs i) ((ap (λ z. tree_lines z (item.End ∷ [])) q_trees ∙ ts.lines_are (item.End ∷ [])) i))));
      point = q_point;
      heads = q_heads;
      claims = q_claims;
      outputs = q_outputs;
      trees = ap (map name_of) q_trees ∙ ts.names;
      plans = ap (map plan_lines) q_trees ∙ ts.plans;
      branches = subst AreSpelledTrees (sym q_trees) ts.spelled;
    }
