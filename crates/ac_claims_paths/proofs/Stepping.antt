-- The branches of a path are exactly the steps of its pairs.
use Rattle.std.proofs.Common.{◌≡◌, ℕ, zero, suc, ◌+◌, ◌&&◌, ◌⊎◌, inl, inr, ℤ, List, [], ◌∷◌, ◌++◌, map, length, Option, Some, None, refl, sym, ap, ◌∙◌, subst, arith, append-nil}
use Rattle.std.specs.Prelude.{slice_get}
use Rattle.ac_syntax.specs.Algebra.{Cell}
use Rattle.ac_syntax.specs.Index.{Point}
use Rattle.ac_syntax.specs.ValueNodes.{node_of}
use Rattle.ac_syntax.specs.Source.{Writer, source}
use Rattle.ac_syntax.specs.Spot.{Spot, AtNode, AtStart, Reads}
use Rattle.ac_syntax.specs.declared.tree.Order.{Order}
use Rattle.ac_syntax.specs.declared.tree.Order.TheVariants.{Keep, Swap}
use Rattle.ac_syntax.specs.declared.tree.Position.{Position}
use Rattle.ac_syntax.specs.declared.tree.Position.TheVariants.{Output, Node, InitialOutput, InitialNode}
use Rattle.ac_syntax.specs.declared.tree.Symbol.{Symbol}
use Rattle.ac_syntax.specs.declared.tree.Value.{Value}
use Rattle.ac_syntax.specs.declared.tree.Value.TheVariants.{Number, Access, Call'}
use Rattle.ac_forms.specs.Renaming.{picked}
use Rattle.ac_forms.specs.declared.conj.Conj.{Conj}
use Rattle.ac_forms.proofs.Joining.{both_of}
use Rattle.ac_poly.specs.ModelMeaning.{Shows}
use Rattle.ac_poly.specs.ModelNodes.{roots}
use Rattle.ac_poly.specs.declared.types.Model.{Model}
use Rattle.ac_poly.specs.declared.types.NodeModel.{NodeModel}
use Rattle.ac_poly.specs.declared.types.NodeModel.TheVariants.{Number as Constant, Read, Call as Applied}
use Rattle.ac_base.proofs.Options.{bind-some, map-some, some-is, if-some}
use Rattle.ac_claims_paths.specs.PathColumns.{columns_of}
use Rattle.ac_claims_paths.specs.InstanceCoordinates.{width}
use Rattle.ac_claims_paths.specs.Executions.{Execution, InstanceAt, At, Describes}
use Rattle.ac_claims_paths.specs.CopyKills.{assignment_of, assignment_at}
use Rattle.ac_claims_paths.specs.PathSteps.{Pairing, model_of, seat_of, gone_to, root, extended, case_rows, cases_from, read_branches, initial_path, argument_path, kept, swapped, same_symbol, call_branches, branches, branches_by, branches_of_calls, by_keep}
use Rattle.ac_forms.specs.ListMembers.{IsAmong}
use Rattle.ac_claims_paths.specs.Pairs.{Placed, IsAt, IsReader, IsResolved, ResolvesTo, IsCallOf, CallPlace, ArgumentPlace, ArgumentsMeet, CallStep, StepsTo, StandsOn, StandsBehind}
use Rattle.ac_claims_paths.specs.StepLaws.{compared, BranchesAreSteps}
use Rattle.ac_claims_paths.specs.ModelPositions.{CallAt, cell_read, call_at, call_of, node_at, initial_of}
use Rattle.ac_claims_paths.specs.declared.path.Assumed.{Assumed}
use Rattle.ac_claims_paths.specs.declared.path.Path.{Path}
use Rattle.ac_claims_paths.specs.declared.path.Seat.{Seat}
use Rattle.ac_claims_paths.specs.declared.path.Side.{Side}
use Rattle.ac_claims_paths.specs.declared.path.Side.TheVariants.{Left, Right}
use Rattle.ac_claims_paths.specs.declared.places.CellForms.{CellForms}
use Rattle.ac_claims_paths.proofs.OnPaths.{Compared, execution_of, describes_of, AtSeat, LastAt, SeatIn, InPath, at_more, pick_more, seat_columns}
use Rattle.ac_claims_paths.proofs.Heres.{node_model, reading, same_read}
use Rattle.ac_claims_paths.proofs.ReadSteps.{at_root}
use Rattle.ac_claims_paths.proofs.InBranches.{all_among, in_either, case_of}
use Rattle.ac_claims_paths.proofs.CallSteps.{symbol_is}
use Rattle.ac_claims_paths.proofs.ReaderSteps.{at_once, no_call_reads, not_reader, left_forward, right_forward}

-- the arguments of two calls
pub get_map : {A B : Type 0} (f : A → B) (xs : List A) (k : ℕ) (x : A) → slice_get xs k ≡ Some x → slice_get (map f xs) k ≡ Some (f x)
get_map f [] k x e = absurd cc
get_map f (y ∷ xs) zero x e = let i : y ≡ x = cc in ap (λ z. Some (f z)) i
get_map f (y ∷ xs) (suc k) x e = get_map f xs k x e

pub of_map : {A B : Type 0} (f : A → B) (xs : List A) (k : ℕ) (y : B) → slice_get (map f xs) k ≡ Some y → (x : A) × (slice_get xs k ≡ Some x) × (y ≡ f x)
of_map f [] k y e = absurd cc
of_map f (x ∷ xs) zero y e = let i : f x ≡ y = cc in (x, refl, sym i)
of_map f (x ∷ xs) (suc k) y e = of_map f xs k y e

kept_in : (h : Path) (Ps Qs : List Position) (hs : List Path) → kept h Ps Qs ≡ Some hs → (k : ℕ) (P Q : Position) → slice_get Ps k ≡ Some P → slice_get Qs k ≡ Some Q → IsAmong (argument_path h P Q) hs
kept_in h [] Qs hs e k P Q a b = absurd cc
kept_in h (P' ∷ Ps) [] hs e k P Q a b = absurd cc
kept_in h (P' ∷ Ps) (Q' ∷ Qs) hs e zero P Q a b =
    let r = map-some (kept h Ps Qs) (λ rest. argument_path h P' Q' ∷ rest) hs e in
    let i : P' ≡ P = cc in
    let j : Q' ≡ Q = cc in
    subst (IsAmong (argument_path h P Q)) (sym r.2) (inl (λ z. argument_path h (sym i z) (sym j z)))
kept_in h (P' ∷ Ps) (Q' ∷ Qs) hs e (suc k) P Q a b =
    let r = map-some (kept h Ps Qs) (λ rest. argument_path h P' Q' ∷ rest) hs e in
    subst (IsAmong (argument_path h P Q)) (sym r.2) (inr (kept_in h Ps Qs r.0 r.1 k P Q a b))

-- a branch of two lists of arguments
record ArgumentOf (h : Path) (Ps Qs : List Position) (z : Path) : Type 0 where
  pub left_number : ℕ
  pub right_number : ℕ
  pub left : Position
  pub right : Position
  pub left_is : slice_get Ps left_number ≡ Some left
  pub right_is : slice_get Qs right_number ≡ Some right
  pub is : z ≡ argument_path h left right

kept_of : (h : Path) (Ps Qs : List Position) (hs : List Path) → kept h Ps Qs ≡ Some hs → (z : Path) → IsAmong z hs → (r : ArgumentOf h Ps Qs z) × (r.left_number ≡ r.right_number)
kept_of h [] [] hs e z n = let i : [] ≡ hs = cc in absurd (subst (IsAmong z) (sym i) n)
kept_of h [] (Q ∷ Qs) hs e z n = absurd cc
kept_of h (P ∷ Ps) [] hs e z n = absurd cc
kept_of h (P ∷ Ps) (Q ∷ Qs) hs e z n =
    let r = map-some (kept h Ps Qs) (λ rest. argument_path h P Q ∷ rest) hs e in
    by r.0 (subst (IsAmong z) r.2 n) (λ m. kept_of h Ps Qs r.0 r.1 z m)
  where
    by : (rest : List Path) → IsAmong z (argument_path h P Q ∷ rest) → (IsAmong z rest → (r : ArgumentOf h Ps Qs z) × (r.left_number ≡ r.right_number)) → (r : ArgumentOf h (P ∷ Ps) (Q ∷ Qs) z) × (r.left_number ≡ r.right_number)
    by rest (inl i) next = (record { left_number = 0; right_number = 0; left = P; right = Q; left_is = refl; right_is = refl; is = i }, refl)
    by rest (inr m) next =
        let f = next m in
        (record { left_number = suc f.0.left_number; right_number = suc f.0.right_number; left = f.0.left; right = f.0.right; left_is = f.0.left_is; right_is = f.0.right_is; is = f.0.is }, ap suc f.1)

swapped_in : (h : Path) (Ps Qs : List Position) (hs : List Path) → swapped h Ps Qs ≡ Some hs → (k l : ℕ) (P Q : Position) → k + l ≡ 1 → slice_get Ps k ≡ Some P → slice_get Qs l ≡ Some Q → IsAmong (argument_path h P Q) hs
swapped_in h (P ∷ P' ∷ []) (Q ∷ Q' ∷ []) hs e zero (suc zero) A B n a b =
    let is : argument_path h P Q' ∷ argument_path h P' Q ∷ [] ≡ hs = cc in
    let i : P ≡ A = cc in
    let j : Q' ≡ B = cc in
    subst (IsAmong (argument_path h A B)) is (inl (λ z. argument_path h (sym i z) (sym j z)))
swapped_in h (P ∷ P' ∷ []) (Q ∷ Q' ∷ []) hs e (suc zero) zero A B n a b =
    let is : argument_path h P Q' ∷ argument_path h P' Q ∷ [] ≡ hs = cc in
    let i : P' ≡ A = cc in
    let j : Q ≡ B = cc in
    subst (IsAmong (argument_path h A B)) is (inr (inl (λ z. argument_path h (sym i z) (sym j z))))
swapped_in h (P ∷ P' ∷ []) (Q ∷ Q' ∷ []) hs e zero zero A B n a b = absurd (omega (arith, n))
swapped_in h (P ∷ P' ∷ []) (Q ∷ Q' ∷ []) hs e zero (suc (suc l)) A B n a b = absurd (omega (arith, n))
swapped_in h (P ∷ P' ∷ []) (Q ∷ Q' ∷ []) hs e (suc zero) (suc l) A B n a b = absurd (omega (arith, n))
swapped_in h (P ∷ P' ∷ []) (Q ∷ Q' ∷ []) hs e (suc (suc k)) l A B n a b = absurd (omega (arith, n))
swapped_in h [] Qs hs e k l A B n a b = absurd cc
swapped_in h (P ∷ []) Qs hs e k l A B n a b = absurd cc
swapped_in h (P ∷ P' ∷ P'' ∷ Ps) Qs hs e k l A B n a b = absurd cc
swapped_in h (P ∷ P' ∷ []) [] hs e k l A B n a b = absurd cc
swapped_in h (P ∷ P' ∷ []) (Q ∷ []) hs e k l A B n a b = absurd cc
swapped_in h (P ∷ P' ∷ []) (Q ∷ Q' ∷ Q'' ∷ Qs) hs e k l A B n a b = absurd cc

swapped_of : (h : Path) (Ps Qs : List Position) (hs : List Path) → swapped h Ps Qs ≡ Some hs → (z : Path) → IsAmong z hs → (r : ArgumentOf h Ps Qs z) × (r.left_number + r.right_number ≡ 1)
swapped_of h (P ∷ P' ∷ []) (Q ∷ Q' ∷ []) hs e z n =
    let is : hs ≡ argument_path h P Q' ∷ argument_path h P' Q ∷ [] = cc in
    by (subst (IsAmong z) is n)
  where
    by : IsAmong z (argument_path h P Q' ∷ argument_path h P' Q ∷ []) → (r : ArgumentOf h (P ∷ P' ∷ []) (Q ∷ Q' ∷ []) z) × (r.left_number + r.right_number ≡ 1)
    by (inl i) = (record { left_number = 0; right_number = 1; left = P; right = Q'; left_is = refl; right_is = refl; is = i }, refl)
    by (inr (inl i)) = (record { left_number = 1; right_number = 0; left = P'; right = Q; left_is = refl; right_is = refl; is = i }, refl)
    by (inr (inr i)) = absurd i
swapped_of h [] Qs hs e z n = absurd cc
swapped_of h (P ∷ []) Qs hs e z n = absurd cc
swapped_of h (P ∷ P' ∷ P'' ∷ Ps) Qs hs e z n = absurd cc
swapped_of h (P ∷ P' ∷ []) [] hs e z n = absurd cc
swapped_of h (P ∷ P' ∷ []) (Q ∷ []) hs e z n = absurd cc
swapped_of h (P ∷ P' ∷ []) (Q ∷ Q' ∷ Q'' ∷ Qs) hs e z n = absurd cc

-- what the model says of a call
call_value : (p : List ℤ) (point : Point) (v : Value) (node : ℕ) (f : Symbol) (ks : List ℕ) (n : NodeModel) → IsCallOf v node f ks → Shows p point v node (Some n) → n ≡ Applied f ks
call_value p point (Number e) node f ks n h sh = absurd h
call_value p point (Access array subs place) node f ks n h sh = absurd h
call_value p point (Call' g m args place) node f ks n h sh = some-is n (Applied g (roots args (node + 1))) sh ∙ (λ i. Applied (sym h.0 i) (sym h.1 i))

call_is : (m : Model) (params : List ℤ) (x : Execution) → Describes m params x → (stmt node : ℕ) (at : List ℤ) (s : Spot) (call : CallAt) → call_at m (Node stmt node) ≡ Some call → At x (Node stmt node) at s → (w : Writer) (v : Value) (f : Symbol) (ks : List ℕ)
    → s ≡ AtNode w v → IsCallOf v node f ks → record { symbol = f; args = map (Node stmt) ks } ≡ call
unfolding At
call_is m params x d stmt node at s call e (w', i, v', n', is) w v f ks q h =
    let same : AtNode w' v' ≡ AtNode w v = sym is ∙ q in
    let value : v' ≡ v = cc in
    let b = bind-some (node_at m stmt node) (call_of stmt) call e in
    let sh = node_model m params x d stmt node at w' v' b.0 i n' b.1 in
    let o = call_value (params ++ at) w'.entry.point v' node f ks b.0 (subst (λ (z : Value). IsCallOf z node f ks) (sym value) h) sh in
    some-is _ call (ap (call_of stmt) (sym o) ∙ b.2)

-- a call of the model is a call of the program
abbrev pub CallIs : (x : Execution) → Placed x → CallAt → Type 0
CallIs x a call = (c : CallPlace x a) × (record { symbol = c.symbol; args = map (Node c.stmt) c.arguments } ≡ call)

pub call_place : (m : Model) (params : List ℤ) (x : Execution) → Describes m params x → (a : Placed x) (P : Position) (at : List ℤ) (call : CallAt) → a.position ≡ P → call_at m P ≡ Some call → At x P at a.spot → CallIs x a call
unfolding At
call_place m params x d a (Output o) at call p e h = absurd cc
call_place m params x d a (Node k j) at call p e (w, i, v, n, is) = by v n is
  where
    b : (node : NodeModel) × (node_at m k j ≡ Some node) × (call_of k node ≡ Some call)
    b = bind-some (node_at m k j) (call_of k) call e

    by : (v : Value) → node_of w.entry.value j ≡ Some v → a.spot ≡ AtNode w v → CallIs x a call
    by (Number form) n is =
        let sh = node_model m params x d k j at w (Number form) b.0 i n b.1 in
        let o : b.0 ≡ Constant sh.0 = some-is b.0 (Constant sh.0) sh.1 in
        let q : None ≡ Some call = ap (call_of k) (sym o) ∙ b.2 in
        absurd cc
    by (Access array subs place) n is =
        let sh = node_model m params x d k j at w (Access array subs place) b.0 i n b.1 in
        let o : b.0 ≡ Read array sh.0 = some-is b.0 (Read array sh.0) sh.1 in
        let q : None ≡ Some call = ap (call_of k) (sym o) ∙ b.2 in
        absurd cc
    by (Call' f count args place) n is =
        let sh : Some b.0 ≡ Some (Applied f (roots args (j + 1))) = node_model m params x d k j at w (Call' f count args place) b.0 i n b.1 in
        let o : b.0 ≡ Applied f (roots args (j + 1)) = some-is b.0 (Applied f (roots args (j + 1))) sh in
        (record { stmt = k; node = j; writer = w; value = Call' f count args place; symbol = f; arguments = roots args (j + 1); position_is = p; spot_is = is; is_call = (refl, refl) }, some-is _ call (ap (call_of k) (sym o) ∙ b.2))
call_place m params x d a (InitialOutput o) at call p e h = absurd cc
call_place m params x d a (InitialNode k j) at call p e h = absurd cc

-- the call of a placed position, in the model
call_model : (m : Model) (params : List ℤ) (x : Execution) → Describes m params x → (a : Placed x) (c : CallPlace x a) (P : Position) (at : List ℤ) (call : CallAt) → a.position ≡ P → call_at m P ≡ Some call → At x P at a.spot
    → record { symbol = c.symbol; args = map (Node c.stmt) c.arguments } ≡ call
call_model m params x d a c P at call p e h =
    let q : P ≡ Node c.stmt c.node = sym p ∙ c.position_is in
    call_is m params x d c.stmt c.node at a.spot call (subst (λ (z : Position). call_at m z ≡ Some call) q e) (subst (λ (z : Position). At x z at a.spot) q h) c.writer c.value c.symbol c.arguments c.spot_is c.is_call

-- the pair of two arguments stands at its branch
arguments_stand : (g : Compared) (h : Path) (hs : List Path) (p : List ℤ) (a a' : Placed g.left) (b b' : Placed g.right) (P Q : Position) → StandsOn g h p a b → IsAmong (argument_path h P Q) hs
    → a'.position ≡ P → a'.at ≡ a.at → b'.position ≡ Q → b'.at ≡ b.at → StandsBehind g hs p a' b'
arguments_stand g h hs p a a' b b' P Q st n pa ka pb kb =
    let k = argument_path h P Q in
    let at_left : a'.at ≡ picked (columns_of h.left) p = ka ∙ st.left.at_is in
    let at_right : b'.at ≡ picked (columns_of h.right) p = kb ∙ st.right.at_is in
    let l : AtSeat g.left k.left p a'.spot = subst (λ z. At g.left P z a'.spot) at_left (subst (λ z. At g.left z a'.at a'.spot) pa a'.here) in
    let r : AtSeat g.right k.right p b'.spot = subst (λ z. At g.right Q z b'.spot) at_right (subst (λ z. At g.right z b'.at b'.spot) pb b'.here) in
    let stands : StandsOn g k p a' b' = record {
      on = record { point = st.on.point; starts = st.on.starts; left = l; right = r; last = tt };
      left = record { position_is = pa; at_is = at_left; spot_is = refl };
      right = record { position_is = pb; at_is = at_right; spot_is = refl };
    } in
    (k, n, [], subst (λ q. StandsOn g k q a' b') (sym (append-nil p)) stands)

calls_forward : (g : Compared) (order : Order) (h : Path) (call call' : CallAt) (hs : List Path) → call_at g.pairing.left h.left.position ≡ Some call → call_at g.pairing.right h.right.position ≡ Some call' → call_branches g.pairing order h call call' ≡ Some hs
    → (p : List ℤ) (a a' : Placed g.left) (b b' : Placed g.right) → StandsOn g h p a b → CallStep g order a b a' b' → StandsBehind g hs p a' b'
calls_forward g Keep h call call' hs ec ed e p a a' b b' st c =
    let k = if-some (same_symbol call.symbol call'.symbol) (kept h call.args call'.args) hs e in
    let x = call_model g.pairing.left g.params g.left g.describes_left a c.left h.left.position (picked (columns_of h.left) p) call st.left.position_is ec st.on.left in
    let y = call_model g.pairing.right g.params g.right g.describes_right b c.right h.right.position (picked (columns_of h.right) p) call' st.right.position_is ed st.on.right in
    let P = Node c.left.stmt c.left_argument.root in
    let Q = Node c.right.stmt c.right_argument.root in
    let ia : slice_get call.args c.left_number ≡ Some P = ap (λ (z : CallAt). slice_get z.args c.left_number) (sym x) ∙ get_map (Node c.left.stmt) c.left.arguments c.left_number c.left_argument.root c.left_argument.root_is in
    let ib : slice_get call'.args c.left_number ≡ Some Q =
    ap (slice_get call'.args) c.meet ∙ ap (λ (z : CallAt). slice_get z.args c.right_number) (sym y) ∙ get_map (Node c.right.stmt) c.right.arguments c.right_number c.right_argument.root c.right_argument.root_is in
    arguments_stand g h hs p a a' b b' P Q st (kept_in h call.args call'.args hs k.1 c.left_number P Q ia ib) c.left_argument.position_is c.left_argument.at_is c.right_argument.position_is c.right_argument.at_is
calls_forward g Swap h call call' hs ec ed e p a a' b b' st c =
    let k = if-some (same_symbol call.symbol call'.symbol && g.pairing.swaps call.symbol) (swapped h call.args call'.args) hs e in
    let x = call_model g.pairing.left g.params g.left g.describes_left a c.left h.left.position (picked (columns_of h.left) p) call st.left.position_is ec st.on.left in
    let y = call_model g.pairing.right g.params g.right g.describes_right b c.right h.right.position (picked (columns_of h.right) p) call' st.right.position_is ed st.on.right in
    let P = Node c.left.stmt c.left_argument.root in
    let Q = Node c.right.stmt c.right_argument.root in
    let ia : slice_get call.args c.left_number ≡ Some P = ap (λ (z : CallAt). slice_get z.args c.left_number) (sym x) ∙ get_map (Node c.left.stmt) c.left.arguments c.left_number c.left_argument.root c.left_argument.root_is in
    let ib : slice_get call'.args c.right_number ≡ Some Q = ap (λ (z : CallAt). slice_get z.args c.right_number) (sym y) ∙ get_map (Node c.right.stmt) c.right.arguments c.right_number c.right_argument.root c.right_argument.root_is in
    arguments_stand g h hs p a a' b b' P Q st (swapped_in h call.args call'.args hs k.1 c.left_number c.right_number P Q c.meet.1 ia ib) c.left_argument.position_is c.left_argument.at_is c.right_argument.position_is c.right_argument.at_is

-- the argument of a call that a branch goes to
argument_place : (x : Execution) (a a' : Placed x) (call : CallAt) (c : CallIs x a call) (k : ℕ) (P : Position) → slice_get call.args k ≡ Some P → a'.position ≡ P → a'.at ≡ a.at → ArgumentPlace x a c.0 k a'
argument_place x a a' call c k P e p at =
    let m = of_map (Node c.0.stmt) c.0.arguments k P (ap (λ (z : CallAt). slice_get z.args k) c.1 ∙ e) in
    record { root = m.0; root_is = m.1; position_is = p ∙ m.2; at_is = at }

calls_back : (g : Compared) (order : Order) (h : Path) (call call' : CallAt) (hs : List Path) → InPath g h → call_at g.pairing.left h.left.position ≡ Some call → call_at g.pairing.right h.right.position ≡ Some call' → call_branches g.pairing order h call call' ≡ Some hs
    → (p more : List ℤ) (a a' : Placed g.left) (b b' : Placed g.right) → StandsOn g h p a b → (z : Path) → IsAmong z hs → StandsOn g z (p ++ more) a' b' → CallStep g order a b a' b'
calls_back g order h call call' hs i ec ed e p more a a' b b' st z n sz = by order e
  where
    x : CallIs g.left a call
    x = call_place g.pairing.left g.params g.left g.describes_left a h.left.position (picked (columns_of h.left) p) call st.left.position_is ec st.on.left

    y : CallIs g.right b call'
    y = call_place g.pairing.right g.params g.right g.describes_right b h.right.position (picked (columns_of h.right) p) call' st.right.position_is ed st.on.right

    made : (order : Order) (r : ArgumentOf h call.args call'.args z) → call.symbol ≡ call'.symbol → ArgumentsMeet g.pairing.swaps order call.symbol r.left_number r.right_number → CallStep g order a b a' b'
    made order r f meet =
        let sk : StandsOn g (argument_path h r.left r.right) (p ++ more) a' b' = subst (λ (w : Path). StandsOn g w (p ++ more) a' b') r.is sz in
        let n = h.conj.columns in
        let la : a'.at ≡ a.at = sk.left.at_is ∙ pick_more (columns_of h.left) p more n st.on.point.long (seat_columns h.left n i.left_in) ∙ sym st.left.at_is in
        let lb : b'.at ≡ b.at = sk.right.at_is ∙ pick_more (columns_of h.right) p more n st.on.point.long (seat_columns h.right n i.right_in) ∙ sym st.right.at_is in
        let fx : x.0.symbol ≡ call.symbol = ap (λ (w : CallAt). w.symbol) x.1 in
        let fy : y.0.symbol ≡ call'.symbol = ap (λ (w : CallAt). w.symbol) y.1 in
        record {
          left = x.0;
          right = y.0;
          one = fx ∙ f ∙ sym fy;
          left_number = r.left_number;
          right_number = r.right_number;
          meet = subst (λ w. ArgumentsMeet g.pairing.swaps order w r.left_number r.right_number) (sym fx) meet;
          left_argument = argument_place g.left a a' call x r.left_number r.left r.left_is sk.left.position_is la;
          right_argument = argument_place g.right b b' call' y r.right_number r.right r.right_is sk.right.position_is lb;
        }

    by : (order : Order) → call_branches g.pairing order h call call' ≡ Some hs → CallStep g order a b a' b'
    by Keep e =
        let k = if-some (same_symbol call.symbol call'.symbol) (kept h call.args call'.args) hs e in
        let r = kept_of h call.args call'.args hs k.1 z n in
        made Keep r.0 (symbol_is call.symbol call'.symbol k.0) r.1
    by Swap e =
        let k = if-some (same_symbol call.symbol call'.symbol && g.pairing.swaps call.symbol) (swapped h call.args call'.args) hs e in
        let t = both_of (same_symbol call.symbol call'.symbol) (g.pairing.swaps call.symbol) k.0 in
        let r = swapped_of h call.args call'.args hs k.1 z n in
        made Swap r.0 (symbol_is call.symbol call'.symbol t.0) (t.1, r.1)

-- what a branch of a read assumes
SeatFor : Seat → Seat → Option Seat → Type 0
SeatFor reader seat None = (seat.position ≡ initial_of reader.position) × (columns_of seat ≡ columns_of reader)
SeatFor reader seat (Some s) = (u : ℕ) × (seat.position ≡ Node u 0) × (s ≡ seat)

record BranchOf (h : Path) (side : Side) (k : Path) : Type 0 where
  pub conj : Conj
  pub seat : Seat
  pub source : Option Seat
  pub is : k ≡ gone_to h side conj seat (Some (record { side = side; reader = seat_of h side; source = source }))
  pub for : SeatFor (seat_of h side) seat source

branch_of : (g : Pairing) (h : Path) (side : Side) (cell : CellForms) (hs : List Path) → read_branches g.params (model_of g side) h side cell ≡ Some hs → (k : Path) → IsAmong k hs → BranchOf h side k
unfolding SeatFor
branch_of g h side cell hs br k n =
    let m = model_of g side in
    let os = cases_from g.params m h side cell 0 m.stmts in
    by (in_either (Some k) os (Some (initial_path h side) ∷ []) (all_among k (os ++ Some (initial_path h side) ∷ []) hs br n))
  where
    by : IsAmong (Some k) (cases_from g.params (model_of g side) h side cell 0 (model_of g side).stmts) ⊎ IsAmong (Some k) (Some (initial_path h side) ∷ []) → BranchOf h side k
    by (inl c) =
        let co = case_of g h side cell 0 (model_of g side).stmts (Some k) c in
        let source = root h.conj.columns (0 + co.j) co.stmt in
        let reader = seat_of h side in
        let r = map-some (case_rows g.params reader cell source co.stmt co.piece co.level)
        (λ rows. gone_to h side (extended h.conj (width co.stmt) rows) source (Some (record { side = side; reader = reader; source = Some source }))) k (sym co.case) in
        record { conj = extended h.conj (width co.stmt) r.0; seat = source; source = Some source; is = r.2; for = (0 + co.j, refl, refl) }
    by (inr (inl q)) =
        let reader = seat_of h side in
        record { conj = h.conj; seat = record { position = initial_of reader.position; first = reader.first; width = reader.width }; source = None; is = some-is k (initial_path h side) q; for = (refl, refl) }
    by (inr (inr q)) = absurd q

resolve_back : (g : Compared) (side : Side) (reader : Seat) (cell : CellForms) (p more : List ℤ) (n : ℕ) → length p ≡ n → SeatIn reader n → (a a' : Placed (execution_of g side)) → IsAt (execution_of g side) a reader.position (picked (columns_of reader) p) a.spot
    → AtSeat (execution_of g side) reader p a.spot → cell_read (model_of g.pairing side) reader.position ≡ Some cell → (seat : Seat) → IsAt (execution_of g side) a' seat.position (picked (columns_of seat) (p ++ more)) a'.spot → AtSeat (execution_of g side) seat (p ++ more) a'.spot
    → (src : Option Seat) → LastAt g (Some (record { side = side; reader = reader; source = src })) (p ++ more) → SeatFor reader seat src → ResolvesTo (execution_of g side) a a'
unfolding SeatFor
resolve_back g side reader cell p more n lp ri a a' ia ha e seat ib hb None (r, none) f =
    let x = execution_of g side in
    let m = model_of g.pairing side in
    let d = describes_of g side in
    let q = p ++ more in
    let at = picked (columns_of reader) q in
    let ha' = at_more x reader p more a.spot n lp ri ha in
    let eq : r.spot ≡ a.spot = at_once m g.params x d reader.position at r.spot a.spot r.here ha' in
    let reads : Reads x.trace a.spot r.cell r.before = subst (λ s. Reads x.trace s r.cell r.before) eq r.reads in
    let rd = reading m g.params x d reader.position at cell r.spot e r.here in
    let rc : r.cell ≡ rd.read = same_read x.trace r.spot rd.read rd.before r.cell r.before rd.reads r.reads in
    let hb' : At x (initial_of reader.position) at a'.spot = subst (λ P. At x P at a'.spot) f.0 (subst (λ ks. At x seat.position (picked ks q) a'.spot) f.1 hb) in
    let spot : a'.spot ≡ AtStart r.cell = at_once m g.params x d (initial_of reader.position) at a'.spot (AtStart rd.read) hb' rd.initial ∙ ap AtStart (sym rc) in
    let pm = pick_more (columns_of reader) p more n lp (seat_columns reader n ri) in (
      (r.cell, r.before, reads),
      subst (λ o. IsResolved x a r.cell o a') (sym none) (record {
        position_is = ib.position_is ∙ f.0 ∙ ap initial_of (sym ia.position_is);
        at_is = ib.at_is ∙ ap (λ ks. picked ks q) f.1 ∙ pm ∙ sym ia.at_is;
        spot_is = spot;
      }),
    )
resolve_back g side reader cell p more n lp ri a a' ia ha e seat ib hb (Some s) (r, (w, src, iw)) (u, pos, same) =
    let x = execution_of g side in
    let m = model_of g.pairing side in
    let d = describes_of g side in
    let q = p ++ more in
    let at = picked (columns_of reader) q in
    let ha' = at_more x reader p more a.spot n lp ri ha in
    let eq : r.spot ≡ a.spot = at_once m g.params x d reader.position at r.spot a.spot r.here ha' in
    let reads : Reads x.trace a.spot r.cell r.before = subst (λ s. Reads x.trace s r.cell r.before) eq r.reads in
    let iw' : InstanceAt x (assignment_at seat) (picked (columns_of seat) q) w = subst (λ (z : Seat). InstanceAt x (assignment_at z) (picked (columns_of z) q) w) same iw in
    let number : w.entry.stmt ≡ u = iw'.stmt ∙ ap assignment_of pos in
    let hb' : At x (Node u 0) (picked (columns_of seat) q) a'.spot = subst (λ P. At x P (picked (columns_of seat) q) a'.spot) pos hb in
    let root_here = at_root x w u (picked (columns_of seat) q) iw'.stands number iw'.coords in (
      (r.cell, r.before, reads),
      subst (λ o. IsResolved x a r.cell o a') (sym src) (record {
        position_is = ib.position_is ∙ pos ∙ ap (λ z. Node z 0) (sym number);
        at_is = ib.at_is ∙ sym iw'.coords;
        spot_is = at_once m g.params x d (Node u 0) (picked (columns_of seat) q) a'.spot (AtNode w w.entry.value) hb' root_here;
      }),
    )

-- a position that stays
stayed : (g : Compared) (side : Side) (seat : Seat) (p more : List ℤ) (n : ℕ) → length p ≡ n → SeatIn seat n → (b b' : Placed (execution_of g side)) → IsAt (execution_of g side) b seat.position (picked (columns_of seat) p) b.spot → AtSeat (execution_of g side) seat p b.spot
    → IsAt (execution_of g side) b' seat.position (picked (columns_of seat) (p ++ more)) b'.spot → AtSeat (execution_of g side) seat (p ++ more) b'.spot → IsAt (execution_of g side) b' b.position b.at b.spot
stayed g side seat p more n lp si b b' i h i' h' = record {
  position_is = i'.position_is ∙ sym i.position_is;
  at_is = i'.at_is ∙ pick_more (columns_of seat) p more n lp (seat_columns seat n si) ∙ sym i.at_is;
  spot_is = at_once (model_of g.pairing side) g.params (execution_of g side) (describes_of g side) seat.position (picked (columns_of seat) (p ++ more)) b'.spot b.spot h' (at_more (execution_of g side) seat p more b.spot n lp si h);
}

left_back : (g : Compared) (h : Path) (cell : CellForms) (hs : List Path) → InPath g h → cell_read g.pairing.left h.left.position ≡ Some cell → read_branches g.pairing.params g.pairing.left h Left cell ≡ Some hs
    → (p more : List ℤ) (a a' : Placed g.left) (b b' : Placed g.right) → StandsOn g h p a b → (z : Path) → IsAmong z hs → StandsOn g z (p ++ more) a' b' → ResolvesTo g.left a a' × IsAt g.right b' b.position b.at b.spot
left_back g h cell hs i e br p more a a' b b' st z n sz =
    let k = branch_of g.pairing h Left cell hs br z n in
    let last : Option Assumed = Some (record { side = Left; reader = h.left; source = k.source }) in
    let sk : StandsOn g (gone_to h Left k.conj k.seat last) (p ++ more) a' b' = subst (λ (w : Path). StandsOn g w (p ++ more) a' b') k.is sz in
    let c = h.conj.columns in (
      resolve_back g Left h.left cell p more c st.on.point.long i.left_in a a' st.left st.on.left e k.seat sk.left sk.on.left k.source sk.on.last k.for,
      stayed g Right h.right p more c st.on.point.long i.right_in b b' st.right st.on.right sk.right sk.on.right,
    )

right_back : (g : Compared) (h : Path) (cell : CellForms) (hs : List Path) → InPath g h → cell_read g.pairing.right h.right.position ≡ Some cell → read_branches g.pairing.params g.pairing.right h Right cell ≡ Some hs
    → (p more : List ℤ) (a a' : Placed g.left) (b b' : Placed g.right) → StandsOn g h p a b → (z : Path) → IsAmong z hs → StandsOn g z (p ++ more) a' b' → ResolvesTo g.right b b' × IsAt g.left a' a.position a.at a.spot
right_back g h cell hs i e br p more a a' b b' st z n sz =
    let k = branch_of g.pairing h Right cell hs br z n in
    let last : Option Assumed = Some (record { side = Right; reader = h.right; source = k.source }) in
    let sk : StandsOn g (gone_to h Right k.conj k.seat last) (p ++ more) a' b' = subst (λ (w : Path). StandsOn g w (p ++ more) a' b') k.is sz in
    let c = h.conj.columns in (
      resolve_back g Right h.right cell p more c st.on.point.long i.right_in b b' st.right st.on.right e k.seat sk.right sk.on.right k.source sk.on.last k.for,
      stayed g Left h.left p more c st.on.point.long i.left_in a a' st.left st.on.left sk.left sk.on.left,
    )

keep : (order : Order) (o : Option (List Path)) (hs : List Path) → by_keep order o ≡ Some hs → (order ≡ Keep) × (o ≡ Some hs)
keep Keep o hs e = (refl, e)
keep Swap o hs e = absurd cc

-- a read or an output of the model is one of the program
is_reader : (g : Compared) (side : Side) (seat : Seat) (cell : CellForms) (p : List ℤ) (a : Placed (execution_of g side)) → cell_read (model_of g.pairing side) seat.position ≡ Some cell → AtSeat (execution_of g side) seat p a.spot → IsReader (execution_of g side) a
is_reader g side seat cell p a e h = let rd = reading (model_of g.pairing side) g.params (execution_of g side) (describes_of g side) seat.position (picked (columns_of seat) p) cell a.spot e h in (rd.read, rd.before, rd.reads)

no_reader : (g : Compared) (side : Side) (seat : Seat) (p : List ℤ) (a : Placed (execution_of g side)) → cell_read (model_of g.pairing side) seat.position ≡ None → AtSeat (execution_of g side) seat p a.spot → ¬ IsReader (execution_of g side) a
no_reader g side seat p a e h (c, before, r) = not_reader (model_of g.pairing side) g.params (execution_of g side) (describes_of g side) seat.position (picked (columns_of seat) p) a.spot e h c before r

-- each step of a pair on the path leads to a branch
pub steps_are_branches : (g : Compared) (order : Order) (h : Path) (hs : List Path) → InPath g h → branches g.pairing order h ≡ Some hs → (p : List ℤ) (a a' : Placed g.left) (b b' : Placed g.right) → StandsOn g h p a b → StepsTo g order a b a' b' → StandsBehind g hs p a' b'
steps_are_branches g order h hs i e p a a' b b' st step = by (cell_read g.pairing.left h.left.position) (cell_read g.pairing.right h.right.position) refl refl e step
  where
    calls : (o o' : Option CallAt) → call_at g.pairing.left h.left.position ≡ o → call_at g.pairing.right h.right.position ≡ o' → branches_of_calls g.pairing order h o o' ≡ Some hs → CallStep g order a b a' b' → StandsBehind g hs p a' b'
    calls None o' q q' e c = absurd cc
    calls (Some x) None q q' e c = absurd cc
    calls (Some x) (Some y) q q' e c = calls_forward g order h x y hs q q' e p a a' b b' st c

    by : (o o' : Option CellForms) → cell_read g.pairing.left h.left.position ≡ o → cell_read g.pairing.right h.right.position ≡ o' → branches_by g.pairing order h o o' ≡ Some hs → StepsTo g order a b a' b' → StandsBehind g hs p a' b'
    by (Some cell) o' q q' e (inl (k, res, same)) = left_forward g h cell hs i q (keep order (read_branches g.pairing.params g.pairing.left h Left cell) hs e).1 p a a' b b' st res same
    by (Some cell) o' q q' e (inr (inl (k, apart, res, same))) = absurd (apart (is_reader g Left h.left cell p a q st.on.left))
    by (Some cell) o' q q' e (inr (inr c)) = let r = is_reader g Left h.left cell p a q st.on.left in absurd (no_call_reads g.left.trace a.spot r.0 r.1 r.2 c.left.writer c.left.value c.left.node c.left.symbol c.left.arguments c.left.spot_is c.left.is_call)
    by None (Some cell) q q' e (inl (k, res, same)) = absurd (no_reader g Left h.left p a q st.on.left res.0)
    by None (Some cell) q q' e (inr (inl (k, apart, res, same))) = right_forward g h cell hs i q' (keep order (read_branches g.pairing.params g.pairing.right h Right cell) hs e).1 p a a' b b' st res same
    by None (Some cell) q q' e (inr (inr c)) = let r = is_reader g Right h.right cell p b q' st.on.right in absurd (no_call_reads g.right.trace b.spot r.0 r.1 r.2 c.right.writer c.right.value c.right.node c.right.symbol c.right.arguments c.right.spot_is c.right.is_call)
    by None None q q' e (inl (k, res, same)) = absurd (no_reader g Left h.left p a q st.on.left res.0)
    by None None q q' e (inr (inl (k, apart, res, same))) = absurd (no_reader g Right h.right p b q' st.on.right res.0)
    by None None q q' e (inr (inr c)) = calls (call_at g.pairing.left h.left.position) (call_at g.pairing.right h.right.position) refl refl e c

-- each pair on a branch is behind a step
pub branches_are_steps : (g : Compared) (order : Order) (h : Path) (hs : List Path) → InPath g h → branches g.pairing order h ≡ Some hs → (p more : List ℤ) (a a' : Placed g.left) (b b' : Placed g.right) → StandsOn g h p a b → (z : Path) → IsAmong z hs → StandsOn g z (p ++ more) a' b' → StepsTo g order a b a' b'
branches_are_steps g order h hs i e p more a a' b b' st z n sz = by (cell_read g.pairing.left h.left.position) (cell_read g.pairing.right h.right.position) refl refl e
  where
    calls : (o o' : Option CallAt) → call_at g.pairing.left h.left.position ≡ o → call_at g.pairing.right h.right.position ≡ o' → branches_of_calls g.pairing order h o o' ≡ Some hs → CallStep g order a b a' b'
    calls None o' q q' e = absurd cc
    calls (Some x) None q q' e = absurd cc
    calls (Some x) (Some y) q q' e = calls_back g order h x y hs i q q' e p more a a' b b' st z n sz

    by : (o o' : Option CellForms) → cell_read g.pairing.left h.left.position ≡ o → cell_read g.pairing.right h.right.position ≡ o' → branches_by g.pairing order h o o' ≡ Some hs → StepsTo g order a b a' b'
    by (Some cell) o' q q' e =
        let k = keep order (read_branches g.pairing.params g.pairing.left h Left cell) hs e in
        let r = left_back g h cell hs i q k.1 p more a a' b b' st z n sz in
        inl (k.0, r.0, r.1)
    by None (Some cell) q q' e =
        let k = keep order (read_branches g.pairing.params g.pairing.right h Right cell) hs e in
        let r = right_back g h cell hs i q' k.1 p more a a' b b' st z n sz in
        inr (inl (k.0, no_reader g Left h.left p a q st.on.left, r.0, r.1))
    by None None q q' e = inr (inr (calls (call_at g.pairing.left h.left.position) (call_at g.pairing.right h.right.position) refl refl e))

pub branches_and_steps : BranchesAreSteps
branches_and_steps p q m n params swaps input count left right inputs order h hs i e at a a' b b' st =
    let g = compared p q m n params swaps input count left right inputs in
    (steps_are_branches g order h hs i e at a a' b b' st, λ k. branches_are_steps g order h hs i e at k.2 a a' b b' st k.0 k.1 k.3)
