-- The items of a complete proof are the lines of a proof. The file is long since its one induction runs over every kind of place in a proof.
use Rattle.std.proofs.Common.{◌≡◌, ℕ, zero, suc, ◌+◌, ◌-◌, ◌<◌, ◌≤◌, ◌^◌, ℤ, pos, negsuc, List, [], ◌∷◌, ◌++◌, length, Bool, true, false, cond, Option, Some, None, refl, sym, ap, ◌∙◌, subst, arith, append_assoc, append-nil, length-append}
use Rattle.std.specs.Prelude.{Vec, Box, nat_le, is_some}
use Rattle.std.specs.List.{flat_map, AllByRecursion}
use Rattle.std.specs.declared.alloc.Global.{Global}
use Rattle.std.proofs.lemmas.Int.{ints}
use denote.RawPtr.{null_ptr}
use Rattle.ac_forms.specs.Affine.{Affine}
use Rattle.ac_forms.specs.Rows.{HaveModuli}
use Rattle.ac_forms.specs.declared.row.Row.{Row}
use Rattle.ac_forms.specs.declared.row.Row.TheVariants.{Ge, Eq, Div}
use Rattle.ac_omega_steps.specs.declared.choose.Choice.{Choice}
use Rattle.ac_cert.specs.declared.types.Step.{Step}
use Rattle.ac_claims.specs.CheckFeed.{of_choice, of_row}
use Rattle.ac_claims.specs.Machine.{next_items, IsSpelled, AreSpelled}
use Rattle.ac_claims.specs.PlanFaults.{count_of}
use Rattle.ac_claims.specs.ProofMachine.{items_of, head_items, row_lines, claims_lines, output_lines, tree_lines, lines_of, AreSpelledTrees}
use Rattle.ac_claims.specs.Soundness.{ClaimsHaveModuli}
use Rattle.ac_claims.specs.declared.item.Item.{Item}
use Rattle.ac_claims.specs.declared.item.Item.TheVariants as item
use Rattle.ac_claims.specs.declared.types.Claim.{Claim}
use Rattle.ac_claims.specs.declared.types.ClaimTree.{ClaimTree}
use Rattle.ac_claims.specs.declared.types.Heads.{Heads}
use Rattle.ac_claims.specs.declared.types.Kill.{Kill}
use Rattle.ac_claims.specs.declared.types.Plan.{Plan}
use Rattle.ac_claims.specs.declared.types.PlanNext.{PlanNext, Split, Residue, Go, Row_of-Plan, end_of-Plan, more_of-Plan, items-the_row-Plan, items_hidden-the_row-Plan-0}
use Rattle.ac_claims.specs.declared.types.PlanNext.TheBlock.{hidden-the_row-Plan-0}
use Rattle.ac_claims.specs.declared.types.PlanNext.TheVariants.{Absurd, Killed, Hit, SameNumber, SameInitial}
use Rattle.ac_claims.specs.declared.types.Proof.{Proof}
use Rattle.ac_claims.proofs.FeedSteps.{at_split, at_residue, at_go, at_kill}
use Rattle.ac_prooftext_lines.specs.Spellable.{IsSpellable, IsSpellableRow}
use Rattle.ac_prooftext.specs.CompleteProofs.{AreRising}
use Rattle.ac_prooftext.specs.LineOrder.{Place, next, next_all, closed, opened, choices_left, claims_left, rows_left, is_above, start, done}
use Rattle.ac_prooftext.specs.declared.stages.Stage.{Stage}
use Rattle.ac_prooftext.specs.declared.stages.Stage.TheVariants as stage

abbrev AllSpellable : List Item → Type 0
AllSpellable = AllByRecursion IsSpellable

abbrev at_plan : List ℕ → Place
at_plan ns = record { stage = stage.Plan; open_counts = ns }

abbrev at_choice : ℕ → List ℕ → Place
at_choice n ns = record { stage = stage.Choice n; open_counts = ns }

abbrev outside : Stage → Place
outside s = record { stage = s; open_counts = [] }

-- what holds of all of a list holds of its last part
all_right : (xs ys : List Item) → AllSpellable (xs ++ ys) → AllSpellable ys
all_right [] ys h = h
all_right (x ∷ xs) ys h = all_right xs ys h.1

-- plans in a list, and in boxes
abbrev list_of : Global → (xs : List Plan) → length xs < 2 ^ 63 → Vec Plan Global
list_of a xs small = record { ptr = null_ptr; len = length xs; cap = length xs; alloc = a; items = xs; ok = (refl, omega arith); small = small }

abbrev box_of : Global → Plan → Box Plan Global
box_of a x = record { ptr = null_ptr; alloc = a; value = x }

abbrev IsSpelledPlan : Plan → Type 0
IsSpelledPlan t = IsSpelled t.next

pub spelled_row : {w : _} (all : Row_of-Plan w) → AllByRecursion IsSpelledPlan (items-the_row-Plan w all) → AreSpelled all
spelled_row end_of-Plan h = tt
spelled_row (more_of-Plan s t more) h = (h.0, spelled_row more h.1)

pub row_length : {w : _} (all : Row_of-Plan w) → count_of all ≡ length (items-the_row-Plan w all)
row_length end_of-Plan = refl
row_length (more_of-Plan s t more) = ap (λ (x : ℕ). suc x) (row_length more)

-- a plan at the front of items
record PlanRead (p : Place) (ns : List ℕ) (xs : List Item) : Type 0 where
  pub plan : Plan
  pub rest : List Item
  pub spelled : IsSpelledPlan plan
  pub items_are : xs ≡ items_of plan ++ rest
  pub onward : next_all (closed ns) rest ≡ Some p
  pub fewer : length rest < length xs

-- so many plans
record PlansRead (p : Place) (n : ℕ) (ns : List ℕ) (xs : List Item) : Type 0 where
  pub plans : List Plan
  pub rest : List Item
  pub counted : length plans ≡ n
  pub spelled : AllByRecursion IsSpelledPlan plans
  pub items_are : xs ≡ flat_map items_of plans ++ rest
  pub onward : next_all (closed ns) rest ≡ Some p
  pub fewer : length plans + length rest ≤ length xs

record ChoicesRead (p : Place) (n : ℕ) (ns : List ℕ) (xs : List Item) : Type 0 where
  pub choices : List Choice
  pub rest : List Item
  pub counted : length choices ≡ n
  pub items_are : xs ≡ flat_map of_choice choices ++ rest
  pub onward : next_all (closed ns) rest ≡ Some p
  pub fewer : length rest ≤ length xs

closed_one : (ns : List ℕ) → closed (1 ∷ ns) ≡ closed ns
closed_one ns = refl

closed_more : (m : ℕ) (ns : List ℕ) → closed (suc (suc m) ∷ ns) ≡ at_plan (suc m ∷ ns)
closed_more m ns = by (nat_le (suc (suc m)) 1) (suc (suc m) - 1) (grind arith) (omega arith)
  where
    by : (b : Bool) (k : ℕ) → b ≡ false → k ≡ suc m → cond b (closed ns) (at_plan (k ∷ ns)) ≡ at_plan (suc m ∷ ns)
    by true k e q = absurd cc
    by false k e q = ap (λ (j : ℕ). at_plan (j ∷ ns)) q

choices_one : (ns : List ℕ) → choices_left (1 - 1) ns ≡ closed ns
choices_one ns = refl

choices_more : (m : ℕ) (ns : List ℕ) → choices_left (suc (suc m) - 1) ns ≡ at_choice (suc m) ns
choices_more m ns = let e : suc (suc m) - 1 ≡ suc m = omega arith in ap (λ (j : ℕ). choices_left j ns) e

module _ (a : Global) (p : Place) (finished : p.stage ≡ stage.Done) where
  not_within : (s : Stage) (ns : List ℕ) → ¬ (s ≡ stage.Done) → ¬ (Some (record { stage = s; open_counts = ns }) ≡ Some p)
  not_within s ns other e = let q : record { stage = s; open_counts = ns } ≡ p = cc in other (ap (λ (x : Place). x.stage) q ∙ finished)

  read_choices : (n : ℕ) (xs : List Item) (ns : List ℕ) → next_all (at_choice (suc n) ns) xs ≡ Some p → ChoicesRead p (suc n) ns xs
  read_choices n [] ns e = absurd (not_within (stage.Choice (suc n)) ns (λ q. absurd cc) e)
  read_choices zero (item.Choice c ∷ xs) ns e = record { choices = c ∷ []; rest = xs; counted = refl; items_are = refl; onward = subst (λ (q : Place). next_all q xs ≡ Some p) (choices_one ns) e; fewer = omega arith }
  read_choices (suc n) (item.Choice c ∷ xs) ns e =
      let r = read_choices n xs ns (subst (λ (q : Place). next_all q xs ≡ Some p) (choices_more n ns) e) in
      record { choices = c ∷ r.choices; rest = r.rest; counted = ap (λ (k : ℕ). suc k) r.counted; items_are = ap (λ l. item.Choice c ∷ l) r.items_are; onward = r.onward; fewer = let f = r.fewer in omega (arith, f) }
  read_choices n (item.Point _ ∷ xs) ns e = absurd cc
  read_choices n (item.Left _ ∷ xs) ns e = absurd cc
  read_choices n (item.Right _ ∷ xs) ns e = absurd cc
  read_choices n (item.Claims _ ∷ xs) ns e = absurd cc
  read_choices n (item.Claim _ _ _ ∷ xs) ns e = absurd cc
  read_choices n (item.Row _ ∷ xs) ns e = absurd cc
  read_choices n (item.Output _ _ ∷ xs) ns e = absurd cc
  read_choices n (item.Tree _ _ _ ∷ xs) ns e = absurd cc
  read_choices n (item.Step _ ∷ xs) ns e = absurd cc
  read_choices n (item.Split _ ∷ xs) ns e = absurd cc
  read_choices n (item.Residue _ _ ∷ xs) ns e = absurd cc
  read_choices n (item.Go _ _ ∷ xs) ns e = absurd cc
  read_choices n (item.Absurd _ ∷ xs) ns e = absurd cc
  read_choices n (item.Hit _ ∷ xs) ns e = absurd cc
  read_choices n (item.Number ∷ xs) ns e = absurd cc
  read_choices n (item.Initial ∷ xs) ns e = absurd cc
  read_choices n (item.Killed _ _ _ _ _ ∷ xs) ns e = absurd cc
  read_choices n (item.End ∷ xs) ns e = absurd cc

  module _ (most : ℕ) (small : most < 2 ^ 63) where
    -- what reads a plan at the front of items that are no more than so many
    abbrev Reads : ℕ → Type 0
    Reads fuel = (xs : List Item) (ns : List ℕ) → length xs ≤ fuel → length xs ≤ most → AllSpellable xs → next_all (at_plan ns) xs ≡ Some p → PlanRead p ns xs

    read_plans : (fuel : ℕ) → Reads fuel → (n : ℕ) (xs : List Item) (ns : List ℕ) → length xs ≤ fuel → length xs ≤ most → AllSpellable xs → next_all (at_plan (suc n ∷ ns)) xs ≡ Some p → PlansRead p (suc n) ns xs
    read_plans fuel on zero xs ns l m sp e =
        let r = on xs (1 ∷ ns) l m sp e in
        record {
          plans = r.plan ∷ [];
          rest = r.rest;
          counted = refl;
          spelled = (r.spelled, tt);
          items_are = r.items_are ∙ ap (λ z. z ++ r.rest) (sym (append-nil (items_of r.plan)));
          onward = subst (λ (q : Place). next_all q r.rest ≡ Some p) (closed_one ns) r.onward;
          fewer = let f = r.fewer in omega (arith, f);
        }
    read_plans fuel on (suc n) xs ns l m sp e =
        let r = on xs (suc (suc n) ∷ ns) l m sp e in
        let rest_spellable : AllSpellable r.rest = all_right (items_of r.plan) r.rest (subst AllSpellable r.items_are sp) in
        let t = read_plans fuel on n r.rest ns (let f = r.fewer in omega (arith, f, l)) (let f = r.fewer in omega (arith, f, m)) rest_spellable (subst (λ (q : Place). next_all q r.rest ≡ Some p) (closed_more n ns) r.onward) in
        record {
          plans = r.plan ∷ t.plans;
          rest = t.rest;
          counted = ap (λ (k : ℕ). suc k) t.counted;
          spelled = (r.spelled, t.spelled);
          items_are = r.items_are ∙ ap (λ z. items_of r.plan ++ z) t.items_are ∙ sym (append_assoc (items_of r.plan) (flat_map items_of t.plans) t.rest);
          onward = t.onward;
          fewer = let f = r.fewer in let k = t.fewer in omega (arith, f, k);
        }

    -- an end of a plan
    ended : (x : PlanNext) (y : Item) (xs : List Item) (ns : List ℕ) → IsSpelled x → next_items x [] ≡ y ∷ [] → next_all (closed ns) xs ≡ Some p → PlanRead p ns (y ∷ xs)
    ended x y xs ns sp is e = record { plan = record { steps = []; next = x }; rest = xs; spelled = sp; items_are = ap (λ z. z ++ xs) (sym is); onward = e; fewer = omega arith }

    two : (f : Affine) (xs : List Item) (ns : List ℕ) (ps : List Plan) (rest : List Item) → length ps ≡ 2 → AllByRecursion IsSpelledPlan ps → xs ≡ flat_map items_of ps ++ rest → next_all (closed ns) rest ≡ Some p → length rest < length (item.Split f ∷ xs) → PlanRead p ns (item.Split f ∷ xs)
    two f xs ns [] rest n sp is e l = absurd (omega (arith, n))
    two f xs ns (x ∷ []) rest n sp is e l = absurd (omega (arith, n))
    two f xs ns (x ∷ y ∷ []) rest n sp is e l =
        let whole : flat_map items_of (x ∷ y ∷ []) ≡ items_of x ++ items_of y = ap (λ z. items_of x ++ z) (append-nil (items_of y)) in
        record {
          plan = record { steps = []; next = Split f (box_of a x) (box_of a y) };
          rest = rest;
          spelled = (sp.0, sp.1.0);
          items_are = ap (λ z. item.Split f ∷ z) (is ∙ ap (λ z. z ++ rest) whole) ∙ ap (λ z. z ++ rest) (sym (at_split (Split f (box_of a x) (box_of a y)) f (box_of a x) (box_of a y) refl));
          onward = e;
          fewer = l;
        }
    two f xs ns (x ∷ y ∷ z ∷ ps) rest n sp is e l = absurd (omega (arith, n))

    branched : (xs : List Item) (ns : List ℕ) (y : Item) (x : PlanNext) (ps : List Plan) (rest : List Item) → IsSpelled x → next_items x [] ≡ (y ∷ []) ++ flat_map items_of ps → xs ≡ flat_map items_of ps ++ rest → next_all (closed ns) rest ≡ Some p → length rest < length (y ∷ xs) → PlanRead p ns (y ∷ xs)
    branched xs ns y x ps rest sp shape is e l = record {
      plan = record { steps = []; next = x };
      rest = rest;
      spelled = sp;
      items_are = ap (λ z. y ∷ z) is ∙ ap (λ z. z ++ rest) (sym shape);
      onward = e;
      fewer = l;
    }

    -- the children of a branch are as many as it says
    kids_counted : (v : Vec Plan Global) → count_of (hidden-the_row-Plan-0 v) ≡ length v.items
    kids_counted v = row_length (hidden-the_row-Plan-0 v) ∙ ap (λ (z : List Plan). length z) (items_hidden-the_row-Plan-0 v)

    kids_spelled : (v : Vec Plan Global) → AllByRecursion IsSpelledPlan v.items → AreSpelled (hidden-the_row-Plan-0 v)
    kids_spelled v h = spelled_row (hidden-the_row-Plan-0 v) (subst (AllByRecursion IsSpelledPlan) (sym (items_hidden-the_row-Plan-0 v)) h)

    read_plan : (fuel : ℕ) → Reads fuel
    read_plan fuel [] ns l m sp e = absurd (not_within stage.Plan ns (λ q. absurd cc) e)
    read_plan zero (x ∷ xs) ns l m sp e = absurd (omega (arith, l))
    read_plan (suc fuel) (item.Step s ∷ xs) ns l m sp e =
        let r = read_plan fuel xs ns (omega (arith, l)) (omega (arith, m)) sp.1 e in
        record { plan = record { steps = s ∷ r.plan.steps; next = r.plan.next }; rest = r.rest; spelled = r.spelled; items_are = ap (λ z. item.Step s ∷ z) r.items_are; onward = r.onward; fewer = let f = r.fewer in omega (arith, f) }
    read_plan (suc fuel) (item.Split f ∷ xs) ns l m sp e =
        let r = read_plans fuel (read_plan fuel) 1 xs ns (omega (arith, l)) (omega (arith, m)) sp.1 e in
        two f xs ns r.plans r.rest r.counted r.spelled r.items_are r.onward (let k = r.fewer in omega (arith, k))
    read_plan (suc fuel) (item.Residue (pos zero) f ∷ xs) ns l m sp e = absurd (let k = sp.0.0.1 in omega (arith, ints, k))
    read_plan (suc fuel) (item.Residue (negsuc n) f ∷ xs) ns l m sp e = absurd (let k = sp.0.0.1 in omega (arith, ints, k))
    read_plan (suc fuel) (item.Residue (pos (suc n)) f ∷ xs) ns l m sp e =
        let r = read_plans fuel (read_plan fuel) n xs ns (omega (arith, l)) (omega (arith, m)) sp.1 e in
        let v = list_of a r.plans (let k = r.fewer in omega (arith, k, m, small)) in
        branched xs ns (item.Residue (pos (suc n)) f) (Residue (pos (suc n)) f v) r.plans r.rest (ap (λ (k : ℕ). pos k) (sym (kids_counted v ∙ r.counted)), kids_spelled v r.spelled) (at_residue (Residue (pos (suc n)) f v) (pos (suc n)) f v refl) r.items_are r.onward (let k = r.fewer in omega (arith, k))
    read_plan (suc fuel) (item.Go o zero ∷ xs) ns l m sp e =
        let v = list_of a [] (omega (arith, small)) in
        branched xs ns (item.Go o zero) (Go o v) [] xs (kids_spelled v tt) (at_go (Go o v) o v refl) refl e (omega arith)
    read_plan (suc fuel) (item.Go o (suc n) ∷ xs) ns l m sp e =
        let r = read_plans fuel (read_plan fuel) n xs ns (omega (arith, l)) (omega (arith, m)) sp.1 e in
        let v = list_of a r.plans (let k = r.fewer in omega (arith, k, m, small)) in
        branched xs ns (item.Go o (suc n)) (Go o v) r.plans r.rest (kids_spelled v r.spelled) (at_go (Go o v) o v refl ∙ ap (λ (k : ℕ). item.Go o k ∷ flat_map items_of r.plans) r.counted) r.items_are r.onward (let k = r.fewer in omega (arith, k))
    read_plan (suc fuel) (item.Absurd i ∷ xs) ns l m sp e = ended (Absurd i) (item.Absurd i) xs ns tt refl e
    read_plan (suc fuel) (item.Hit c ∷ xs) ns l m sp e = ended (Hit c) (item.Hit c) xs ns tt refl e
    read_plan (suc fuel) (item.Number ∷ xs) ns l m sp e = ended SameNumber item.Number xs ns tt refl e
    read_plan (suc fuel) (item.Initial ∷ xs) ns l m sp e = ended SameInitial item.Initial xs ns tt refl e
    read_plan (suc fuel) (item.Killed s d t b zero ∷ xs) ns l m sp e =
        ended (Killed (record { stmt = s; piece = d; after = t; before = b; choices = [] })) (item.Killed s d t b zero) xs ns tt refl e
    read_plan (suc fuel) (item.Killed s d t b (suc n) ∷ xs) ns l m sp e =
        let r = read_choices n xs ns e in
        let kill : Kill = record { stmt = s; piece = d; after = t; before = b; choices = r.choices } in
        record {
          plan = record { steps = []; next = Killed kill };
          rest = r.rest;
          spelled = tt;
          items_are = ap (λ z. item.Killed s d t b (suc n) ∷ z) r.items_are ∙ ap (λ (k : ℕ). item.Killed s d t b k ∷ (flat_map of_choice r.choices ++ r.rest)) (sym r.counted) ∙ ap (λ z. z ++ r.rest) (sym (at_kill (Killed kill) kill refl));
          onward = r.onward;
          fewer = let f = r.fewer in omega (arith, f);
        }
    read_plan (suc fuel) (item.Point _ ∷ xs) ns l m sp e = absurd cc
    read_plan (suc fuel) (item.Left _ ∷ xs) ns l m sp e = absurd cc
    read_plan (suc fuel) (item.Right _ ∷ xs) ns l m sp e = absurd cc
    read_plan (suc fuel) (item.Claims _ ∷ xs) ns l m sp e = absurd cc
    read_plan (suc fuel) (item.Claim _ _ _ ∷ xs) ns l m sp e = absurd cc
    read_plan (suc fuel) (item.Row _ ∷ xs) ns l m sp e = absurd cc
    read_plan (suc fuel) (item.Output _ _ ∷ xs) ns l m sp e = absurd cc
    read_plan (suc fuel) (item.Tree _ _ _ ∷ xs) ns l m sp e = absurd cc
    read_plan (suc fuel) (item.Choice _ ∷ xs) ns l m sp e = absurd cc
    read_plan (suc fuel) (item.End ∷ xs) ns l m sp e = absurd cc

    -- nothing stands behind the last line
    last : (xs : List Item) → next_all (outside stage.Done) xs ≡ Some p → xs ≡ []
    last [] e = refl
    last (item.Point _ ∷ xs) e = absurd cc
    last (item.Left _ ∷ xs) e = absurd cc
    last (item.Right _ ∷ xs) e = absurd cc
    last (item.Claims _ ∷ xs) e = absurd cc
    last (item.Claim _ _ _ ∷ xs) e = absurd cc
    last (item.Row _ ∷ xs) e = absurd cc
    last (item.Output _ _ ∷ xs) e = absurd cc
    last (item.Tree _ _ _ ∷ xs) e = absurd cc
    last (item.Step _ ∷ xs) e = absurd cc
    last (item.Split _ ∷ xs) e = absurd cc
    last (item.Residue _ _ ∷ xs) e = absurd cc
    last (item.Go _ _ ∷ xs) e = absurd cc
    last (item.Absurd _ ∷ xs) e = absurd cc
    last (item.Hit _ ∷ xs) e = absurd cc
    last (item.Number ∷ xs) e = absurd cc
    last (item.Initial ∷ xs) e = absurd cc
    last (item.Killed _ _ _ _ _ ∷ xs) e = absurd cc
    last (item.Choice _ ∷ xs) e = absurd cc
    last (item.End ∷ xs) e = absurd cc

    record TreesRead (xs : List Item) : Type 0 where
      pub trees : List ClaimTree
      pub spelled : AreSpelledTrees trees
      pub items_are : xs ≡ tree_lines trees (item.End ∷ [])
      pub few : length trees ≤ length xs

    one_tree : (c i j : ℕ) (xs : List Item) (r : PlanRead p [] xs) → TreesRead r.rest → TreesRead (item.Tree c i j ∷ xs)
    one_tree c i j xs r t = record {
      trees = record { claim = c; left_piece = i; right_piece = j; tree = r.plan } ∷ t.trees;
      spelled = (r.spelled, t.spelled);
      items_are = ap (λ z. item.Tree c i j ∷ z) (r.items_are ∙ ap (λ z. items_of r.plan ++ z) t.items_are);
      few = let f = t.few in let k = r.fewer in omega (arith, f, k);
    }

    ended_trees : (xs : List Item) → next_all (outside stage.Done) xs ≡ Some p → TreesRead (item.End ∷ xs)
    ended_trees xs e = record { trees = []; spelled = tt; items_are = ap (λ z. item.End ∷ z) (last xs e); few = omega arith }

    read_trees : (fuel : ℕ) (xs : List Item) → length xs ≤ fuel → length xs ≤ most → AllSpellable xs → next_all (outside stage.Tree) xs ≡ Some p → TreesRead xs
    read_trees fuel [] l m sp e = absurd (not_within stage.Tree [] (λ q. absurd cc) e)
    read_trees zero (x ∷ xs) l m sp e = absurd (omega (arith, l))
    read_trees (suc fuel) (item.End ∷ xs) l m sp e = ended_trees xs e
    read_trees (suc fuel) (item.Tree c i j ∷ xs) l m sp e =
        let r = read_plan fuel xs [] (omega (arith, l)) (omega (arith, m)) sp.1 e in
        let rest_spellable : AllSpellable r.rest = all_right (items_of r.plan) r.rest (subst AllSpellable r.items_are sp.1) in
        one_tree c i j xs r (read_trees fuel r.rest (let f = r.fewer in omega (arith, f, l)) (let f = r.fewer in omega (arith, f, m)) rest_spellable r.onward)
    read_trees (suc fuel) (item.Point _ ∷ xs) l m sp e = absurd cc
    read_trees (suc fuel) (item.Left _ ∷ xs) l m sp e = absurd cc
    read_trees (suc fuel) (item.Right _ ∷ xs) l m sp e = absurd cc
    read_trees (suc fuel) (item.Claims _ ∷ xs) l m sp e = absurd cc
    read_trees (suc fuel) (item.Claim _ _ _ ∷ xs) l m sp e = absurd cc
    read_trees (suc fuel) (item.Row _ ∷ xs) l m sp e = absurd cc
    read_trees (suc fuel) (item.Output _ _ ∷ xs) l m sp e = absurd cc
    read_trees (suc fuel) (item.Step _ ∷ xs) l m sp e = absurd cc
    read_trees (suc fuel) (item.Split _ ∷ xs) l m sp e = absurd cc
    read_trees (suc fuel) (item.Residue _ _ ∷ xs) l m sp e = absurd cc
    read_trees (suc fuel) (item.Go _ _ ∷ xs) l m sp e = absurd cc
    read_trees (suc fuel) (item.Absurd _ ∷ xs) l m sp e = absurd cc
    read_trees (suc fuel) (item.Hit _ ∷ xs) l m sp e = absurd cc
    read_trees (suc fuel) (item.Number ∷ xs) l m sp e = absurd cc
    read_trees (suc fuel) (item.Initial ∷ xs) l m sp e = absurd cc
    read_trees (suc fuel) (item.Killed _ _ _ _ _ ∷ xs) l m sp e = absurd cc
    read_trees (suc fuel) (item.Choice _ ∷ xs) l m sp e = absurd cc

    record OutputsRead (before : Option ℕ) (xs : List Item) : Type 0 where
      pub outputs : List (ℕ × ℕ)
      pub rising : AreRising before outputs
      pub trees : List ClaimTree
      pub spelled : AreSpelledTrees trees
      pub items_are : xs ≡ output_lines outputs (tree_lines trees (item.End ∷ []))
      pub few : length trees ≤ length xs

    without_outputs : (before : Option ℕ) (xs : List Item) → TreesRead xs → OutputsRead before xs
    without_outputs before xs t = record { outputs = []; rising = tt; trees = t.trees; spelled = t.spelled; items_are = t.items_are; few = t.few }

    risen : (b : Bool) (q : Stage) (xs : List Item) (G : Type 0) → (b ≡ true → next_all (outside q) xs ≡ Some p → G)
        → Rattle.std.specs.Prelude.option_and_then (λ r. next_all r xs) (Rattle.std.specs.Prelude.option_map (λ t. outside t) (cond b (Some q) None)) ≡ Some p → G
    risen true q xs G go e = go refl e
    risen false q xs G go e = absurd cc

    read_outputs : (before : Option ℕ) (xs : List Item) → length xs ≤ most → AllSpellable xs → next_all (outside (stage.Output before)) xs ≡ Some p → OutputsRead before xs
    read_outputs before [] m sp e = absurd (not_within (stage.Output before) [] (λ q. absurd cc) e)
    read_outputs before (item.End ∷ xs) m sp e = without_outputs before (item.End ∷ xs) (ended_trees xs e)
    read_outputs before (item.Tree c i j ∷ xs) m sp e = without_outputs before (item.Tree c i j ∷ xs) (read_trees (length (item.Tree c i j ∷ xs)) (item.Tree c i j ∷ xs) (omega arith) m sp e)
    read_outputs before (item.Output o c ∷ xs) m sp e =
        risen (is_above before o) (stage.Output (Some o)) xs (OutputsRead before (item.Output o c ∷ xs))
        (λ above d. let r = read_outputs (Some o) xs (omega (arith, m)) sp.1 d in
        record { outputs = (o, c) ∷ r.outputs; rising = (above, r.rising); trees = r.trees; spelled = r.spelled; items_are = ap (λ z. item.Output o c ∷ z) r.items_are; few = let f = r.few in omega (arith, f) })
        e
    read_outputs before (item.Point _ ∷ xs) m sp e = absurd cc
    read_outputs before (item.Left _ ∷ xs) m sp e = absurd cc
    read_outputs before (item.Right _ ∷ xs) m sp e = absurd cc
    read_outputs before (item.Claims _ ∷ xs) m sp e = absurd cc
    read_outputs before (item.Claim _ _ _ ∷ xs) m sp e = absurd cc
    read_outputs before (item.Row _ ∷ xs) m sp e = absurd cc
    read_outputs before (item.Step _ ∷ xs) m sp e = absurd cc
    read_outputs before (item.Split _ ∷ xs) m sp e = absurd cc
    read_outputs before (item.Residue _ _ ∷ xs) m sp e = absurd cc
    read_outputs before (item.Go _ _ ∷ xs) m sp e = absurd cc
    read_outputs before (item.Absurd _ ∷ xs) m sp e = absurd cc
    read_outputs before (item.Hit _ ∷ xs) m sp e = absurd cc
    read_outputs before (item.Number ∷ xs) m sp e = absurd cc
    read_outputs before (item.Initial ∷ xs) m sp e = absurd cc
    read_outputs before (item.Killed _ _ _ _ _ ∷ xs) m sp e = absurd cc
    read_outputs before (item.Choice _ ∷ xs) m sp e = absurd cc

    record ClaimsRead (n : ℕ) (xs : List Item) : Type 0 where
      pub claims : List Claim
      pub counted : length claims ≡ n
      pub moduli : AllByRecursion (λ (c : Claim). HaveModuli c.rows) claims
      pub behind : List Item
      pub others : OutputsRead None behind
      pub items_are : xs ≡ claims_lines claims behind
      pub fewer : length behind ≤ length xs

    modulus_of : (r : Row) → IsSpellableRow r → (rs : List Row) → HaveModuli rs → HaveModuli (r ∷ rs)
    modulus_of (Ge f) h rs k = (tt, k)
    modulus_of (Eq f) h rs k = (tt, k)
    modulus_of (Div m f) h rs k = (h.0.1, k)

    record RowsRead (n k : ℕ) (xs : List Item) : Type 0 where
      pub rows : List Row
      pub counted : length rows ≡ k
      pub moduli : HaveModuli rows
      pub behind : List Item
      pub claims : ClaimsRead n behind
      pub items_are : xs ≡ row_lines rows behind
      pub fewer : length behind ≤ length xs

    -- rows, where what stands behind them is read
    read_rows : (n : ℕ) → ((xs : List Item) → length xs ≤ most → AllSpellable xs → next_all (outside (claims_left n)) xs ≡ Some p → ClaimsRead n xs)
        → (k : ℕ) (xs : List Item) → length xs ≤ most → AllSpellable xs → next_all (outside (rows_left n k)) xs ≡ Some p → RowsRead n k xs
    read_rows n on zero xs m sp e = record { rows = []; counted = refl; moduli = tt; behind = xs; claims = on xs m sp e; items_are = refl; fewer = omega arith }
    read_rows n on (suc k) [] m sp e = absurd (not_within (stage.Row n (suc k)) [] (λ q. absurd cc) e)
    read_rows n on (suc k) (item.Row r ∷ xs) m sp e =
        let less : suc k - 1 ≡ k = omega arith in
        let t = read_rows n on k xs (omega (arith, m)) sp.1 (subst (λ (j : ℕ). next_all (outside (rows_left n j)) xs ≡ Some p) less e) in
        record { rows = r ∷ t.rows; counted = ap (λ (j : ℕ). suc j) t.counted; moduli = modulus_of r sp.0 t.rows t.moduli; behind = t.behind; claims = t.claims; items_are = ap (λ z. item.Row r ∷ z) t.items_are; fewer = let f = t.fewer in omega (arith, f) }
    read_rows n on (suc k) (item.Point _ ∷ xs) m sp e = absurd cc
    read_rows n on (suc k) (item.Left _ ∷ xs) m sp e = absurd cc
    read_rows n on (suc k) (item.Right _ ∷ xs) m sp e = absurd cc
    read_rows n on (suc k) (item.Claims _ ∷ xs) m sp e = absurd cc
    read_rows n on (suc k) (item.Claim _ _ _ ∷ xs) m sp e = absurd cc
    read_rows n on (suc k) (item.Output _ _ ∷ xs) m sp e = absurd cc
    read_rows n on (suc k) (item.Tree _ _ _ ∷ xs) m sp e = absurd cc
    read_rows n on (suc k) (item.Step _ ∷ xs) m sp e = absurd cc
    read_rows n on (suc k) (item.Split _ ∷ xs) m sp e = absurd cc
    read_rows n on (suc k) (item.Residue _ _ ∷ xs) m sp e = absurd cc
    read_rows n on (suc k) (item.Go _ _ ∷ xs) m sp e = absurd cc
    read_rows n on (suc k) (item.Absurd _ ∷ xs) m sp e = absurd cc
    read_rows n on (suc k) (item.Hit _ ∷ xs) m sp e = absurd cc
    read_rows n on (suc k) (item.Number ∷ xs) m sp e = absurd cc
    read_rows n on (suc k) (item.Initial ∷ xs) m sp e = absurd cc
    read_rows n on (suc k) (item.Killed _ _ _ _ _ ∷ xs) m sp e = absurd cc
    read_rows n on (suc k) (item.Choice _ ∷ xs) m sp e = absurd cc
    read_rows n on (suc k) (item.End ∷ xs) m sp e = absurd cc

    read_claims : (n : ℕ) (xs : List Item) → length xs ≤ most → AllSpellable xs → next_all (outside (claims_left n)) xs ≡ Some p → ClaimsRead n xs
    read_claims zero xs m sp e = record { claims = []; counted = refl; moduli = tt; behind = xs; others = read_outputs None xs m sp e; items_are = refl; fewer = omega arith }
    read_claims (suc n) [] m sp e = absurd (not_within (stage.Claim (suc n)) [] (λ q. absurd cc) e)
    read_claims (suc n) (item.Claim P Q k ∷ xs) m sp e =
        let less : suc n - 1 ≡ n = omega arith in
        let t = read_rows n (read_claims n) k xs (omega (arith, m)) sp.1 (subst (λ (j : ℕ). next_all (outside (rows_left j k)) xs ≡ Some p) less e) in
        record {
          claims = record { left = P; right = Q; rows = t.rows } ∷ t.claims.claims;
          counted = ap (λ (j : ℕ). suc j) t.claims.counted;
          moduli = (t.moduli, t.claims.moduli);
          behind = t.claims.behind;
          others = t.claims.others;
          items_are = (λ i. item.Claim P Q (sym t.counted i) ∷ t.items_are i) ∙ ap (λ z. item.Claim P Q (length t.rows) ∷ row_lines t.rows z) t.claims.items_are;
          fewer = let f = t.fewer in let k = t.claims.fewer in omega (arith, f, k);
        }
    read_claims (suc n) (item.Point _ ∷ xs) m sp e = absurd cc
    read_claims (suc n) (item.Left _ ∷ xs) m sp e = absurd cc
    read_claims (suc n) (item.Right _ ∷ xs) m sp e = absurd cc
    read_claims (suc n) (item.Claims _ ∷ xs) m sp e = absurd cc
    read_claims (suc n) (item.Row _ ∷ xs) m sp e = absurd cc
    read_claims (suc n) (item.Output _ _ ∷ xs) m sp e = absurd cc
    read_claims (suc n) (item.Tree _ _ _ ∷ xs) m sp e = absurd cc
    read_claims (suc n) (item.Step _ ∷ xs) m sp e = absurd cc
    read_claims (suc n) (item.Split _ ∷ xs) m sp e = absurd cc
    read_claims (suc n) (item.Residue _ _ ∷ xs) m sp e = absurd cc
    read_claims (suc n) (item.Go _ _ ∷ xs) m sp e = absurd cc
    read_claims (suc n) (item.Absurd _ ∷ xs) m sp e = absurd cc
    read_claims (suc n) (item.Hit _ ∷ xs) m sp e = absurd cc
    read_claims (suc n) (item.Number ∷ xs) m sp e = absurd cc
    read_claims (suc n) (item.Initial ∷ xs) m sp e = absurd cc
    read_claims (suc n) (item.Killed _ _ _ _ _ ∷ xs) m sp e = absurd cc
    read_claims (suc n) (item.Choice _ ∷ xs) m sp e = absurd cc
    read_claims (suc n) (item.End ∷ xs) m sp e = absurd cc

    -- a proof with these lines
    pub record ProofRead (shapes : Bool) (xs : List Item) : Type 0 where
      pub proof : Proof
      pub lines_are : lines_of proof ≡ xs
      pub shapes_are : is_some proof.heads ≡ shapes
      pub spelled : AreSpelledTrees proof.trees.items
      pub moduli : ClaimsHaveModuli proof
      pub rising : AreRising None proof.outputs

    abbrev trees_of : (ts : List ClaimTree) → length ts < 2 ^ 63 → Vec ClaimTree Global
    trees_of ts few = record { ptr = null_ptr; len = length ts; cap = length ts; alloc = a; items = ts; ok = (refl, omega arith); small = few }

    with_head : (shapes : Bool) (v : List ℤ) (heads : Option Heads) (n : ℕ) (xs : List Item) → is_some heads ≡ shapes → length xs ≤ most → ClaimsRead n xs → ProofRead shapes (item.Point v ∷ head_items heads (item.Claims n ∷ xs))
    with_head shapes v heads n xs is m c =
        let few : length c.others.trees < 2 ^ 63 = let f = c.others.few in let k = c.fewer in omega (arith, f, k, m, small) in
        let behind : xs ≡ claims_lines c.claims (output_lines c.others.outputs (tree_lines c.others.trees (item.End ∷ []))) = c.items_are ∙ ap (claims_lines c.claims) c.others.items_are in
        record {
          proof = record { point = v; heads = heads; claims = c.claims; outputs = c.others.outputs; trees = trees_of c.others.trees few };
          lines_are = (λ i. item.Point v ∷ head_items heads (item.Claims (c.counted i) ∷ sym behind i));
          shapes_are = is;
          spelled = c.others.spelled;
          moduli = c.moduli;
          rising = c.others.rising;
        }

    from_claims : (shapes : Bool) (v : List ℤ) (heads : Option Heads) (xs : List Item) → is_some heads ≡ shapes → length xs ≤ most → AllSpellable xs → next_all (outside stage.Claims) xs ≡ Some p → ProofRead shapes (item.Point v ∷ head_items heads xs)
    from_claims shapes v heads [] is m sp e = absurd (not_within stage.Claims [] (λ q. absurd cc) e)
    from_claims shapes v heads (item.Claims n ∷ xs) is m sp e = with_head shapes v heads n xs is (omega (arith, m)) (read_claims n xs (omega (arith, m)) sp.1 e)
    from_claims shapes v heads (item.Point _ ∷ xs) is m sp e = absurd cc
    from_claims shapes v heads (item.Left _ ∷ xs) is m sp e = absurd cc
    from_claims shapes v heads (item.Right _ ∷ xs) is m sp e = absurd cc
    from_claims shapes v heads (item.Claim _ _ _ ∷ xs) is m sp e = absurd cc
    from_claims shapes v heads (item.Row _ ∷ xs) is m sp e = absurd cc
    from_claims shapes v heads (item.Output _ _ ∷ xs) is m sp e = absurd cc
    from_claims shapes v heads (item.Tree _ _ _ ∷ xs) is m sp e = absurd cc
    from_claims shapes v heads (item.Step _ ∷ xs) is m sp e = absurd cc
    from_claims shapes v heads (item.Split _ ∷ xs) is m sp e = absurd cc
    from_claims shapes v heads (item.Residue _ _ ∷ xs) is m sp e = absurd cc
    from_claims shapes v heads (item.Go _ _ ∷ xs) is m sp e = absurd cc
    from_claims shapes v heads (item.Absurd _ ∷ xs) is m sp e = absurd cc
    from_claims shapes v heads (item.Hit _ ∷ xs) is m sp e = absurd cc
    from_claims shapes v heads (item.Number ∷ xs) is m sp e = absurd cc
    from_claims shapes v heads (item.Initial ∷ xs) is m sp e = absurd cc
    from_claims shapes v heads (item.Killed _ _ _ _ _ ∷ xs) is m sp e = absurd cc
    from_claims shapes v heads (item.Choice _ ∷ xs) is m sp e = absurd cc
    from_claims shapes v heads (item.End ∷ xs) is m sp e = absurd cc

    from_right : (v : List ℤ) (left : List (ℕ × ℕ)) (xs : List Item) → length xs ≤ most → AllSpellable xs → next_all (outside stage.Right) xs ≡ Some p → ProofRead true (item.Point v ∷ item.Left left ∷ xs)
    from_right v left [] m sp e = absurd (not_within stage.Right [] (λ q. absurd cc) e)
    from_right v left (item.Right right ∷ xs) m sp e = from_claims true v (Some (record { left = left; right = right })) xs refl (omega (arith, m)) sp.1 e
    from_right v left (item.Point _ ∷ xs) m sp e = absurd cc
    from_right v left (item.Left _ ∷ xs) m sp e = absurd cc
    from_right v left (item.Claims _ ∷ xs) m sp e = absurd cc
    from_right v left (item.Claim _ _ _ ∷ xs) m sp e = absurd cc
    from_right v left (item.Row _ ∷ xs) m sp e = absurd cc
    from_right v left (item.Output _ _ ∷ xs) m sp e = absurd cc
    from_right v left (item.Tree _ _ _ ∷ xs) m sp e = absurd cc
    from_right v left (item.Step _ ∷ xs) m sp e = absurd cc
    from_right v left (item.Split _ ∷ xs) m sp e = absurd cc
    from_right v left (item.Residue _ _ ∷ xs) m sp e = absurd cc
    from_right v left (item.Go _ _ ∷ xs) m sp e = absurd cc
    from_right v left (item.Absurd _ ∷ xs) m sp e = absurd cc
    from_right v left (item.Hit _ ∷ xs) m sp e = absurd cc
    from_right v left (item.Number ∷ xs) m sp e = absurd cc
    from_right v left (item.Initial ∷ xs) m sp e = absurd cc
    from_right v left (item.Killed _ _ _ _ _ ∷ xs) m sp e = absurd cc
    from_right v left (item.Choice _ ∷ xs) m sp e = absurd cc
    from_right v left (item.End ∷ xs) m sp e = absurd cc

    from_left : (v : List ℤ) (xs : List Item) → length xs ≤ most → AllSpellable xs → next_all (outside stage.Left) xs ≡ Some p → ProofRead true (item.Point v ∷ xs)
    from_left v [] m sp e = absurd (not_within stage.Left [] (λ q. absurd cc) e)
    from_left v (item.Left left ∷ xs) m sp e = from_right v left xs (omega (arith, m)) sp.1 e
    from_left v (item.Point _ ∷ xs) m sp e = absurd cc
    from_left v (item.Right _ ∷ xs) m sp e = absurd cc
    from_left v (item.Claims _ ∷ xs) m sp e = absurd cc
    from_left v (item.Claim _ _ _ ∷ xs) m sp e = absurd cc
    from_left v (item.Row _ ∷ xs) m sp e = absurd cc
    from_left v (item.Output _ _ ∷ xs) m sp e = absurd cc
    from_left v (item.Tree _ _ _ ∷ xs) m sp e = absurd cc
    from_left v (item.Step _ ∷ xs) m sp e = absurd cc
    from_left v (item.Split _ ∷ xs) m sp e = absurd cc
    from_left v (item.Residue _ _ ∷ xs) m sp e = absurd cc
    from_left v (item.Go _ _ ∷ xs) m sp e = absurd cc
    from_left v (item.Absurd _ ∷ xs) m sp e = absurd cc
    from_left v (item.Hit _ ∷ xs) m sp e = absurd cc
    from_left v (item.Number ∷ xs) m sp e = absurd cc
    from_left v (item.Initial ∷ xs) m sp e = absurd cc
    from_left v (item.Killed _ _ _ _ _ ∷ xs) m sp e = absurd cc
    from_left v (item.Choice _ ∷ xs) m sp e = absurd cc
    from_left v (item.End ∷ xs) m sp e = absurd cc

    pub read_proof : (shapes : Bool) (xs : List Item) → length xs ≤ most → AllSpellable xs → next_all (start shapes) xs ≡ Some p → ProofRead shapes xs
    read_proof shapes [] m sp e = absurd (not_within (stage.Point shapes) [] (λ q. absurd cc) e)
    read_proof true (item.Point v ∷ xs) m sp e = from_left v xs (omega (arith, m)) sp.1 e
    read_proof false (item.Point v ∷ xs) m sp e = from_claims false v None xs refl (omega (arith, m)) sp.1 e
    read_proof shapes (item.Left _ ∷ xs) m sp e = absurd cc
    read_proof shapes (item.Right _ ∷ xs) m sp e = absurd cc
    read_proof shapes (item.Claims _ ∷ xs) m sp e = absurd cc
    read_proof shapes (item.Claim _ _ _ ∷ xs) m sp e = absurd cc
    read_proof shapes (item.Row _ ∷ xs) m sp e = absurd cc
    read_proof shapes (item.Output _ _ ∷ xs) m sp e = absurd cc
    read_proof shapes (item.Tree _ _ _ ∷ xs) m sp e = absurd cc
    read_proof shapes (item.Step _ ∷ xs) m sp e = absurd cc
    read_proof shapes (item.Split _ ∷ xs) m sp e = absurd cc
    read_proof shapes (item.Residue _ _ ∷ xs) m sp e = absurd cc
    read_proof shapes (item.Go _ _ ∷ xs) m sp e = absurd cc
    read_proof shapes (item.Absurd _ ∷ xs) m sp e = absurd cc
    read_proof shapes (item.Hit _ ∷ xs) m sp e = absurd cc
    read_proof shapes (item.Number ∷ xs) m sp e = absurd cc
    read_proof shapes (item.Initial ∷ xs) m sp e = absurd cc
    read_proof shapes (item.Killed _ _ _ _ _ ∷ xs) m sp e = absurd cc
    read_proof shapes (item.Choice _ ∷ xs) m sp e = absurd cc
    read_proof shapes (item.End ∷ xs) m sp e = absurd cc
