-- The nodes of a plan, one after the other.
use Rattle.std.proofs.Common.{◌≡◌, ℕ, ℤ, ◌<◌, suc, List, [], ◌∷◌, ◌++◌, map, length, Bor, Option, Some, refl, sym, ap, ◌∙◌, arith, append_assoc, append-nil}
use Rattle.std.specs.Prelude.{Box, Vec, option_to_list}
use Rattle.std.specs.List.{flat_map}
use Rattle.std.specs.declared.alloc.Global.{Global}
use Rattle.std.proofs.lemmas.List.{map-append, reverse-append}
use Rattle.std.proofs.lemmas.List.Concat.{flat_map-append}
use Rattle.ac_forms.specs.Affine.{Affine}
use Rattle.ac_syntax.specs.declared.tree.Order.{Order}
use Rattle.ac_cert.specs.declared.types.Step.{Step}
use Rattle.ac_claims.specs.CheckFeed.{of_step}
use Rattle.ac_claims.specs.Machine.{step_items, next_items, row_items}
use Rattle.ac_claims.specs.PlanFaults.{count_of}
use Rattle.ac_claims.specs.PlanNodes.{nodes_behind, nodes_of_row, nodes_of, nodes_on, own_items, node_items}
use Rattle.ac_claims.specs.ProofMachine.{items_of}
use Rattle.ac_claims.specs.declared.item.Item.{Item}
use Rattle.ac_claims.specs.declared.item.Item.TheVariants as item
use Rattle.ac_claims.specs.declared.types.Plan.{Plan}
use Rattle.ac_claims.specs.declared.types.PlanNext.{PlanNext, Split, Residue, Go, Split', Residue', Go', Row_of-Plan, end_of-Plan, more_of-Plan, items-the_row-Plan, items_hidden-the_row-Plan-0}
use Rattle.ac_claims.specs.declared.types.PlanNext.TheBlock.{hidden-the_row-Plan-0}
use Rattle.ac_claims.specs.declared.types.PlanNext.TheVariants.{Absurd, Killed, Hit, SameNumber, SameInitial}
use Rattle.ac_claims.proofs.FeedSteps.{steps_flat, choices_flat, behind, next_before}

-- the plans that references lead to
abbrev pub led : List (Bor Plan) → List Plan
led nodes = map (λ (node : Bor Plan). node.now) nodes

-- ---- the plans of a branch

pub row_nodes : {w : _} (all : Row_of-Plan w) → nodes_of_row all ≡ flat_map nodes_of (items-the_row-Plan w all)
row_nodes end_of-Plan = refl
row_nodes (more_of-Plan s t more) = ap (λ (ts : List Plan). (record { steps = s; next = t } ∷ nodes_behind t) ++ ts) (row_nodes more)

pub split_behind : (x : PlanNext) (f : Affine) (left right : Box Plan Global) → x ≡ Split f left right → nodes_behind x ≡ nodes_of left.value ++ nodes_of right.value
split_behind x f left right is = ap nodes_behind is

pub residue_behind : (x : PlanNext) (m : ℤ) (f : Affine) (kids : Vec Plan Global) → x ≡ Residue m f kids → nodes_behind x ≡ flat_map nodes_of kids.items
residue_behind x m f kids is = ap nodes_behind is ∙ row_nodes (hidden-the_row-Plan-0 kids) ∙ ap (flat_map nodes_of) (items_hidden-the_row-Plan-0 kids)

pub go_behind : (x : PlanNext) (order : Order) (cases : Vec Plan Global) → x ≡ Go order cases → nodes_behind x ≡ flat_map nodes_of cases.items
go_behind x order cases is = ap nodes_behind is ∙ row_nodes (hidden-the_row-Plan-0 cases) ∙ ap (flat_map nodes_of) (items_hidden-the_row-Plan-0 cases)

-- ---- the stack

pub stacked : (xs ys : List (Bor Plan)) (r : Bor Plan) → ys ≡ xs ++ r ∷ [] → nodes_on (led ys) ≡ nodes_of r.now ++ nodes_on (led xs)
stacked xs ys r e =
    ap (λ (zs : List (Bor Plan)). nodes_on (led zs)) e
    ∙ ap nodes_on (map-append (λ (node : Bor Plan). node.now) xs (r ∷ []))
    ∙ ap (flat_map nodes_of) (reverse-append (led xs) (r.now ∷ []))

-- the last of the plans that are still to be put is put
pub put_next : (plans rest before : List Plan) (start now after : List (Bor Plan)) (r : Bor Plan) → flat_map nodes_of plans ++ nodes_on (led start) ≡ flat_map nodes_of rest ++ nodes_on (led now) → rest ≡ before ++ r.now ∷ [] → after ≡ now ++ r ∷ []
    → flat_map nodes_of plans ++ nodes_on (led start) ≡ flat_map nodes_of before ++ nodes_on (led after)
put_next plans rest before start now after r h e f =
    h
    ∙ ap (λ (ts : List Plan). flat_map nodes_of ts ++ nodes_on (led now)) e
    ∙ ap (λ (ts : List Plan). ts ++ nodes_on (led now)) (flat_map-append nodes_of before (r.now ∷ []))
    ∙ append_assoc (flat_map nodes_of before) (flat_map nodes_of (r.now ∷ [])) (nodes_on (led now))
    ∙ ap (λ (ts : List Plan). flat_map nodes_of before ++ (ts ++ nodes_on (led now))) (append-nil (nodes_of r.now))
    ∙ ap (λ (ts : List Plan). flat_map nodes_of before ++ ts) (sym (stacked now after r f))

pub put_end : (plans rest : List Plan) (start now : List (Bor Plan)) → flat_map nodes_of plans ++ nodes_on (led start) ≡ flat_map nodes_of rest ++ nodes_on (led now) → length rest ≡ 0 → nodes_on (led now) ≡ flat_map nodes_of plans ++ nodes_on (led start)
put_end plans [] start now h e = sym h
put_end plans (t ∷ rest) start now h e = absurd (omega (arith, e))

-- both plans of a branch by a sign
pub put_both : (x : PlanNext) (f : Affine) (left right : Box Plan Global) (old mid new : List (Bor Plan)) (a b : Bor Plan) → x ≡ Split f left right → b.now ≡ right.value → a.now ≡ left.value → mid ≡ old ++ b ∷ [] → new ≡ mid ++ a ∷ [] → nodes_on (led new) ≡ nodes_behind x ++ nodes_on (led old)
put_both x f left right old mid new a b is eb ea f1 f2 =
    stacked mid new a f2
    ∙ ap (λ (ts : List Plan). nodes_of a.now ++ ts) (stacked old mid b f1)
    ∙ sym (append_assoc (nodes_of a.now) (nodes_of b.now) (nodes_on (led old)))
    ∙ ap (λ (ts : List Plan). ts ++ nodes_on (led old)) ((λ i. nodes_of (ea i) ++ nodes_of (eb i)) ∙ sym (split_behind x f left right is))

-- those of a branch with a list
pub put_list : (x : PlanNext) (plans kids : List Plan) (old new : List (Bor Plan)) → nodes_behind x ≡ flat_map nodes_of kids → plans ≡ kids → nodes_on (led new) ≡ flat_map nodes_of plans ++ nodes_on (led old) → nodes_on (led new) ≡ nodes_behind x ++ nodes_on (led old)
put_list x plans kids old new is e h = h ∙ ap (λ (ts : List Plan). ts ++ nodes_on (led old)) (ap (flat_map nodes_of) e ∙ sym is)

-- ---- node after node

taken : {A : Type 0} (xs ys : List A) (o : Option A) (x : A) → xs ≡ ys ++ option_to_list o → o ≡ Some x → xs ≡ ys ++ x ∷ []
taken xs ys o x e is = e ∙ ap (λ z. ys ++ option_to_list z) is

pub node_start : (r : Bor Plan) (all none left : List (Bor Plan)) → all ≡ [] → none ≡ [] → left ≡ none ++ r ∷ [] → led all ++ nodes_on (led left) ≡ nodes_of r.now
node_start r all none left e f h =
    ap (λ (rs : List (Bor Plan)). led rs ++ nodes_on (led left)) e
    ∙ ap (λ (rs : List (Bor Plan)). nodes_on (led rs)) (h ∙ ap (λ (rs : List (Bor Plan)). rs ++ r ∷ []) f)
    ∙ append-nil (nodes_of r.now)

pub node_next : (t : Plan) (all longer left popped more : List (Bor Plan)) (o : Option (Bor Plan)) (r : Bor Plan) → led all ++ nodes_on (led left) ≡ nodes_of t → left ≡ popped ++ option_to_list o → o ≡ Some r → longer ≡ all ++ r ∷ [] → nodes_on (led more) ≡ nodes_behind r.now.next ++ nodes_on (led popped)
    → led longer ++ nodes_on (led more) ≡ nodes_of t
node_next t all longer left popped more o r h e is f g =
    (λ i. led (f i) ++ g i)
    ∙ ap (λ (ts : List Plan). ts ++ (nodes_behind r.now.next ++ nodes_on (led popped))) (map-append (λ (node : Bor Plan). node.now) all (r ∷ []))
    ∙ append_assoc (led all) (r.now ∷ []) (nodes_behind r.now.next ++ nodes_on (led popped))
    ∙ ap (λ (ts : List Plan). led all ++ ts) (sym (stacked popped left r (taken left popped o r e is)))
    ∙ h

pub node_less : (left popped more : List (Bor Plan)) (o : Option (Bor Plan)) (r : Bor Plan) → left ≡ popped ++ option_to_list o → o ≡ Some r → nodes_on (led more) ≡ nodes_behind r.now.next ++ nodes_on (led popped) → length (nodes_on (led more)) < length (nodes_on (led left))
node_less left popped more o r e is g =
    let a : length (nodes_on (led more)) ≡ length (nodes_behind r.now.next ++ nodes_on (led popped)) = ap length g in
    let b : length (nodes_on (led left)) ≡ suc (length (nodes_behind r.now.next ++ nodes_on (led popped))) = ap length (stacked popped left r (taken left popped o r e is)) in
    omega (arith, a, b)

pub node_end : (t : Plan) (all left : List (Bor Plan)) → led all ++ nodes_on (led left) ≡ nodes_of t → left ≡ [] → led all ≡ nodes_of t
node_end t all left h e = sym (append-nil (led all)) ∙ sym (ap (λ (rs : List (Bor Plan)). led all ++ nodes_on (led rs)) e) ∙ h

-- ---- the lines of a plan, node by node

node_flat : (ss : List Step) (x : PlanNext) → next_items x [] ≡ own_items x ++ flat_map node_items (nodes_behind x) → step_items ss (next_items x []) ≡ flat_map node_items (record { steps = ss; next = x } ∷ nodes_behind x)
node_flat ss x h =
    steps_flat ss (next_items x [])
    ∙ ap (λ (xs : List Item). flat_map of_step ss ++ xs) h
    ∙ sym (append_assoc (flat_map of_step ss) (own_items x) (flat_map node_items (nodes_behind x)))

mutual
  next_flat : (x : PlanNext) → next_items x [] ≡ own_items x ++ flat_map node_items (nodes_behind x)
  next_flat (Split' f p s l q t r) =
      ap (λ (xs : List Item). item.Split f ∷ xs) (
      behind s l (next_before l) (step_items t (next_items r []))
      ∙ (λ i. node_flat s l (next_flat l) i ++ node_flat t r (next_flat r) i)
      ∙ sym (flat_map-append node_items (record { steps = s; next = l } ∷ nodes_behind l) (record { steps = t; next = r } ∷ nodes_behind r)))
  next_flat (Residue' m f shape all) = ap (λ (xs : List Item). item.Residue m f ∷ xs) (row_flat_by_node all)
  next_flat (Go' order shape all) = ap (λ (xs : List Item). item.Go order (count_of all) ∷ xs) (row_flat_by_node all)
  next_flat (Absurd i) = refl
  next_flat (Killed kill) = ap (λ (xs : List Item). item.Killed kill.stmt kill.piece kill.after kill.before (length kill.choices) ∷ xs) (choices_flat kill.choices [])
  next_flat (Hit c) = refl
  next_flat SameNumber = refl
  next_flat SameInitial = refl

  row_flat_by_node : {m : _} (all : Row_of-Plan m) → row_items all [] ≡ flat_map node_items (nodes_of_row all)
  row_flat_by_node end_of-Plan = refl
  row_flat_by_node (more_of-Plan s t more) =
      behind s t (next_before t) (row_items more [])
      ∙ (λ i. node_flat s t (next_flat t) i ++ row_flat_by_node more i)
      ∙ sym (flat_map-append node_items (record { steps = s; next = t } ∷ nodes_behind t) (nodes_of_row more))

flat_led : (nodes : List (Bor Plan)) → flat_map node_items (led nodes) ≡ flat_map (λ (node : Bor Plan). node_items node.now) nodes
flat_led [] = refl
flat_led (r ∷ nodes) = ap (λ (xs : List Item). node_items r.now ++ xs) (flat_led nodes)

-- the lines of a plan are those of its nodes
lines_of_nodes : (t : Plan) (nodes : List (Bor Plan)) → led nodes ≡ nodes_of t → items_of t ≡ flat_map (λ (node : Bor Plan). node_items node.now) nodes
lines_of_nodes t nodes e = node_flat t.steps t.next (next_flat t.next) ∙ sym (ap (flat_map node_items) e) ∙ flat_led nodes

pub lines_of_listed : (t : Plan) (nodes listed : List (Bor Plan)) → listed ≡ nodes → led nodes ≡ nodes_of t → items_of t ≡ flat_map (λ (node : Bor Plan). node_items node.now) listed
lines_of_listed t nodes listed is e = lines_of_nodes t listed (ap led is ∙ e)

-- ---- the line of a step of the pair

row_count : {w : _} (all : Row_of-Plan w) → count_of all ≡ length (items-the_row-Plan w all)
row_count end_of-Plan = refl
row_count (more_of-Plan s t more) = ap (λ (x : ℕ). suc x) (row_count more)

pub own_go : (x : PlanNext) (order : Order) (cases : Vec Plan Global) (n : ℕ) → x ≡ Go order cases → n ≡ length cases.items → own_items x ≡ item.Go order n ∷ []
own_go x order cases n is e = ap own_items is ∙ ap (λ (k : ℕ). item.Go order k ∷ []) (row_count (hidden-the_row-Plan-0 cases) ∙ ap length (items_hidden-the_row-Plan-0 cases) ∙ sym e)
