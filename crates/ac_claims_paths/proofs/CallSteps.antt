-- A step of two calls: the pairs of arguments behind it stand at branches.
use Rattle.std.proofs.Common.{◌≡◌, ℕ, suc, ◌+◌, ◌&&◌, inl, inr, ℤ, List, [], ◌∷◌, ◌++◌, map, true, Option, Some, None, refl, sym, ap, ◌∙◌, subst, arith, rules, sum_by, append_assoc, append-nil}
use Rattle.std.specs.Prelude.{nat_eq}
use Rattle.std.specs.Cmp.Lexicographic.{pointwise}
use Rattle.std.proofs.lemmas.List.Sums.{sum_by-cons, sum_by-append}
use Rattle.std.proofs.lemmas.Bool.Decides.{Decides-eqb}
use Rattle.std.proofs.lemmas.Slice.Eq.{slice_eq-Decides}
use Rattle.ac_syntax.specs.ValueNodes.{node_of, size}
use Rattle.ac_syntax.specs.Index.{Point}
use Rattle.ac_syntax.specs.Source.{Writer}
use Rattle.ac_syntax.specs.Spot.{Spot, AtNode}
use Rattle.ac_syntax.specs.declared.tree.Order.{Order}
use Rattle.ac_syntax.specs.declared.tree.Order.TheVariants.{Keep, Swap}
use Rattle.ac_syntax.specs.declared.tree.Place.{Place}
use Rattle.ac_syntax.specs.declared.tree.Position.{Position}
use Rattle.ac_syntax.specs.declared.tree.Position.TheVariants.{Output, Node, InitialOutput, InitialNode}
use Rattle.ac_syntax.specs.declared.tree.Symbol.{Symbol}
use Rattle.ac_syntax.specs.declared.tree.Value.{Value, Row_of-Value, end_of-Value, more_of-Value, items-the_row-Value, the_lemmas}
use Rattle.ac_syntax.specs.declared.tree.Value.TheVariants.{Call, Call'}
use Rattle.ac_syntax.proofs.NodeLemmas.{argument_node}
use Rattle.ac_syntax.proofs.ValueCases.{value_cases}
use Rattle.ac_poly.specs.ModelMeaning.{Shows}
use Rattle.ac_poly.specs.ModelNodes.{roots}
use Rattle.ac_poly.specs.LoweringSteps.{roots_of}
use Rattle.ac_poly.specs.declared.types.Model.{Model}
use Rattle.ac_poly.specs.declared.types.NodeModel.{NodeModel}
use Rattle.ac_poly.specs.declared.types.NodeModel.TheVariants.{Number as Constant, Read, Call as Applied}
use Rattle.ac_base.proofs.Options.{bind-some, some-is, if-some, map-some}
use Rattle.ac_forms.proofs.Joining.{both_of}
use Rattle.ac_forms.specs.Renaming.{picked}
use Rattle.ac_claims_paths.specs.PathColumns.{columns_of}
use Rattle.ac_claims_paths.specs.Executions.{Execution, InstanceAt, At, Describes}
use Rattle.ac_claims_paths.specs.WellFormedPaths.{IsFormed}
use Rattle.ac_claims_paths.specs.PathSteps.{Pairing, argument_path, kept, swapped, same_symbol, call_branches}
use Rattle.ac_claims_paths.specs.ModelPositions.{CallAt, call_of, call_at, node_at}
use Rattle.ac_claims_paths.specs.declared.path.Path.{Path}
use Rattle.ac_claims_paths.proofs.OnPaths.{Compared, InPath, OnPath}
use Rattle.ac_claims_paths.proofs.Heres.{node_model}
use Rattle.ac_forms.specs.ListMembers.{IsAmong}
use Rattle.ac_claims_paths.proofs.ReadSteps.{Behind}
use Rattle.ac_poly.proofs.NodeSteps.{roots_row}

-- positions of arguments, each at its value
abbrev pub Each : Execution → List ℤ → Writer → List Position → List Value → Type 0
Each x at w [] [] = Unit {0}
Each x at w [] (v ∷ vs) = ⊥
Each x at w (P ∷ Ps) [] = ⊥
Each x at w (P ∷ Ps) (v ∷ vs) = At x P at (AtNode w v) × Each x at w Ps vs

pub record CallHere (x : Execution) (call : CallAt) (at : List ℤ) (s : Spot) : Type 0 where
  pub writer : Writer
  pub args : List Value
  pub place : Place
  pub is : s ≡ AtNode writer (Call call.symbol args place)
  pub each : Each x at writer call.args args

shows_row : (p : List ℤ) (point : Point) (s : Symbol) (n : _) (args : Row_of-Value _) (place : Place) (number : ℕ) (o : Option NodeModel) → Shows p point (Call' s n args place) number o ≡ (o ≡ Some (Applied s (roots_of (items-the_row-Value _ args) (number + 1))))
shows_row p point s n args place number o = λ i. o ≡ Some (Applied s (roots_row _ args (number + 1) i))

shows_call : (p : List ℤ) (point : Point) (s : Symbol) (args : List Value) (place : Place) (number : ℕ) (o : Option NodeModel) → Shows p point (Call s args place) number o ≡ (o ≡ Some (Applied s (roots_of args (number + 1))))
shows_call p point s args place number o = search (rules, the_lemmas, shows_row)

-- the arguments behind those that stand before
each_at : (x : Execution) (stmt k : ℕ) (at : List ℤ) (w : Writer) → InstanceAt x stmt at w → (f : Symbol) (p : Place) (before args : List Value) → node_of w.entry.value k ≡ Some (Call f (before ++ args) p)
    → Each x at w (map (Node stmt) (roots_of args (k + suc (sum_by size before)))) args
unfolding At
each_at x stmt k at w i f p before [] n = tt
each_at x stmt k at w i f p before (v ∷ args) n =
    let a : node_of w.entry.value (k + suc (sum_by size before)) ≡ Some v = argument_node w.entry.value k f before v args p n in
    let m : before ++ (v ∷ args) ≡ (before ++ v ∷ []) ++ args = sym (append_assoc before (v ∷ []) args) in
    let rest = each_at x stmt k at w i f p (before ++ v ∷ []) args (n ∙ ap (λ xs. Some (Call f xs p)) m) in
    let e : k + suc (sum_by size (before ++ v ∷ [])) ≡ (k + suc (sum_by size before)) + size v = (let a = sum_by-append size before (v ∷ []) in let b = sum_by-cons size v [] in omega (arith, a, b)) in
    ((w, i, v, a, refl), subst (λ j. Each x at w (map (Node stmt) (roots_of args j)) args) e rest)

pub call_here : (m : Model) (params : List ℤ) (x : Execution) → Describes m params x → (P : Position) (at : List ℤ) (call : CallAt) (s : Spot) → call_at m P ≡ Some call → At x P at s → CallHere x call at s
unfolding At
call_here m params x d (Output o) at call s e h = absurd cc
call_here m params x d (Node k j) at call s e (w, i, v, n, is) =
    let b = bind-some (node_at m k j) (call_of k) call e in
    subst (λ (y : Spot). CallHere x call at y) (sym is)
    (value_cases (λ v. node_of w.entry.value j ≡ Some v → Shows (params ++ at) w.entry.point v j (Some b.0) → CallHere x call at (AtNode w v))
    (λ form n sh. let o : b.0 ≡ Constant sh.0 = some-is b.0 (Constant sh.0) sh.1 in let q : None ≡ Some call = ap (call_of k) (sym o) ∙ b.2 in absurd cc)
    (λ array subs place n sh. let o : b.0 ≡ Read array sh.0 = some-is b.0 (Read array sh.0) sh.1 in let q : None ≡ Some call = ap (call_of k) (sym o) ∙ b.2 in absurd cc)
    (λ f xs place n sh.
    let t : Some b.0 ≡ Some (Applied f (roots_of xs (j + 1))) = subst (λ (T : Type 0). T) (shows_call (params ++ at) w.entry.point f xs place j (Some b.0)) sh in
    let o : b.0 ≡ Applied f (roots_of xs (j + 1)) = some-is b.0 (Applied f (roots_of xs (j + 1))) t in
    let q : record { symbol = f; args = map (Node k) (roots_of xs (j + 1)) } ≡ call = some-is _ call (ap (call_of k) (sym o) ∙ b.2) in
    subst (λ (c : CallAt). CallHere x c at (AtNode w (Call f xs place))) q
    (record { writer = w; args = xs; place = place; is = refl; each = each_at x k j at w i f place [] xs n }))
    v n (node_model m params x d k j at w v b.0 i n b.1))
call_here m params x d (InitialOutput o) at call s e h = absurd cc
call_here m params x d (InitialNode k j) at call s e h = absurd cc

pub symbol_is : (f k : Symbol) → same_symbol f k ≡ true → f ≡ k
symbol_is f k h =
    let b = both_of (nat_eq f.arity k.arity) (pointwise nat_eq f.name k.name) h in
    let a : f.arity ≡ k.arity = (Decides-eqb f.arity k.arity).0 b.0 in
    let n : f.name ≡ k.name = (slice_eq-Decides Decides-eqb f.name k.name _ refl).0 b.1 in
    λ i. record { name = n i; arity = a i }

argument_behind : (g : Compared) (h : Path) (hs : List Path) (p : List ℤ) (s t s' t' : Spot) (P Q : Position) → OnPath g h p s t → At g.left P (picked (columns_of h.left) p) s' → At g.right Q (picked (columns_of h.right) p) t' → IsAmong (argument_path h P Q) hs → Behind g hs p s' t'
argument_behind g h hs p s t s' t' P Q a l r n = record {
  path = argument_path h P Q;
  among = n;
  gone = refl;
  more = [];
  on = subst (λ q. OnPath g (argument_path h P Q) q s' t') (sym (append-nil p)) (record { point = a.point; starts = a.starts; left = l; right = r; last = tt });
}

-- argument k beside argument k, each at a branch
abbrev pub EachBehind : Compared → List Path → List ℤ → Writer → Writer → List Value → List Value → Type 0
EachBehind g hs p w u [] [] = Unit {0}
EachBehind g hs p w u [] (v ∷ us) = ⊥
EachBehind g hs p w u (v ∷ vs) [] = ⊥
EachBehind g hs p w u (v ∷ vs) (v' ∷ us) = Behind g hs p (AtNode w v) (AtNode u v') × EachBehind g hs p w u vs us

-- the first argument beside the second one, and the second beside the first
abbrev pub BothBehind : Compared → List Path → List ℤ → Writer → Writer → List Value → List Value → Type 0
BothBehind g hs p w u (v ∷ v' ∷ []) (z ∷ z' ∷ []) = Behind g hs p (AtNode w v) (AtNode u z') × Behind g hs p (AtNode w v') (AtNode u z)
BothBehind g hs p w u vs us = ⊥

kept_behind : (g : Compared) (h : Path) (p : List ℤ) (s t : Spot) → OnPath g h p s t → (all : List Path) (Ps Qs : List Position) (hs : List Path) → kept h Ps Qs ≡ Some hs → ((k : Path) → IsAmong k hs → IsAmong k all)
    → (w u : Writer) (vs us : List Value) → Each g.left (picked (columns_of h.left) p) w Ps vs → Each g.right (picked (columns_of h.right) p) u Qs us → EachBehind g all p w u vs us
kept_behind g h p s t a all [] [] hs e n w u [] [] x y = tt
kept_behind g h p s t a all [] [] hs e n w u [] (v ∷ us) x y = absurd y
kept_behind g h p s t a all [] [] hs e n w u (v ∷ vs) us x y = absurd x
kept_behind g h p s t a all [] (Q ∷ Qs) hs e n w u vs us x y = absurd cc
kept_behind g h p s t a all (P ∷ Ps) [] hs e n w u vs us x y = absurd cc
kept_behind g h p s t a all (P ∷ Ps) (Q ∷ Qs) hs e n w u [] us x y = absurd x
kept_behind g h p s t a all (P ∷ Ps) (Q ∷ Qs) hs e n w u (v ∷ vs) [] x y = absurd y
kept_behind g h p s t a all (P ∷ Ps) (Q ∷ Qs) hs e n w u (v ∷ vs) (v' ∷ us) x y =
    let b = map-some (kept h Ps Qs) (λ rest. argument_path h P Q ∷ rest) hs e in (
      argument_behind g h all p s t (AtNode w v) (AtNode u v') P Q a x.0 y.0 (n (argument_path h P Q) (subst (IsAmong (argument_path h P Q)) (sym b.2) (inl refl))),
      kept_behind g h p s t a all Ps Qs b.0 b.1 (λ k i. n k (subst (IsAmong k) (sym b.2) (inr i))) w u vs us x.1 y.1,
    )

swapped_behind : (g : Compared) (h : Path) (p : List ℤ) (s t : Spot) → OnPath g h p s t → (Ps Qs : List Position) (hs : List Path) → swapped h Ps Qs ≡ Some hs
    → (w u : Writer) (vs us : List Value) → Each g.left (picked (columns_of h.left) p) w Ps vs → Each g.right (picked (columns_of h.right) p) u Qs us → BothBehind g hs p w u vs us
swapped_behind g h p s t a (P ∷ P' ∷ []) (Q ∷ Q' ∷ []) hs e w u (v ∷ v' ∷ []) (z ∷ z' ∷ []) x y =
    let is : hs ≡ argument_path h P Q' ∷ argument_path h P' Q ∷ [] = cc in (
      argument_behind g h hs p s t (AtNode w v) (AtNode u z') P Q' a x.0 y.1.0 (subst (IsAmong (argument_path h P Q')) (sym is) (inl refl)),
      argument_behind g h hs p s t (AtNode w v') (AtNode u z) P' Q a x.1.0 y.0 (subst (IsAmong (argument_path h P' Q)) (sym is) (inr (inl refl))),
    )
swapped_behind g h p s t a (P ∷ P' ∷ []) (Q ∷ Q' ∷ []) hs e w u [] us x y = absurd x
swapped_behind g h p s t a (P ∷ P' ∷ []) (Q ∷ Q' ∷ []) hs e w u (v ∷ []) us x y = absurd x.1
swapped_behind g h p s t a (P ∷ P' ∷ []) (Q ∷ Q' ∷ []) hs e w u (v ∷ v' ∷ v'' ∷ vs) us x y = absurd x.1.1
swapped_behind g h p s t a (P ∷ P' ∷ []) (Q ∷ Q' ∷ []) hs e w u (v ∷ v' ∷ []) [] x y = absurd y
swapped_behind g h p s t a (P ∷ P' ∷ []) (Q ∷ Q' ∷ []) hs e w u (v ∷ v' ∷ []) (z ∷ []) x y = absurd y.1
swapped_behind g h p s t a (P ∷ P' ∷ []) (Q ∷ Q' ∷ []) hs e w u (v ∷ v' ∷ []) (z ∷ z' ∷ z'' ∷ zs) x y = absurd y.1.1
swapped_behind g h p s t a [] Qs hs e w u vs us x y = absurd cc
swapped_behind g h p s t a (P ∷ []) Qs hs e w u vs us x y = absurd cc
swapped_behind g h p s t a (P ∷ P' ∷ P'' ∷ Ps) Qs hs e w u vs us x y = absurd cc
swapped_behind g h p s t a (P ∷ P' ∷ []) [] hs e w u vs us x y = absurd cc
swapped_behind g h p s t a (P ∷ P' ∷ []) (Q ∷ []) hs e w u vs us x y = absurd cc
swapped_behind g h p s t a (P ∷ P' ∷ []) (Q ∷ Q' ∷ Q'' ∷ Qs) hs e w u vs us x y = absurd cc

-- which arguments meet, in an order
abbrev pub ArgumentsBehind : Order → Compared → List Path → List ℤ → Symbol → Writer → Writer → List Value → List Value → Type 0
ArgumentsBehind Keep g hs p f w u vs us = EachBehind g hs p w u vs us
ArgumentsBehind Swap g hs p f w u vs us = (g.pairing.swaps f ≡ true) × BothBehind g hs p w u vs us

-- two calls of one symbol, whose arguments stand at branches
pub record CallsBehind (order : Order) (g : Compared) (hs : List Path) (p : List ℤ) (s t : Spot) : Type 0 where
  pub symbol : Symbol
  pub left : Writer
  pub right : Writer
  pub left_args : List Value
  pub right_args : List Value
  pub left_place : Place
  pub right_place : Place
  pub left_is : s ≡ AtNode left (Call symbol left_args left_place)
  pub right_is : t ≡ AtNode right (Call symbol right_args right_place)
  pub behind : ArgumentsBehind order g hs p symbol left right left_args right_args

pub calls_step : (g : Compared) (order : Order) (h : Path) (c d : CallAt) (hs : List Path) → call_at g.pairing.left h.left.position ≡ Some c → call_at g.pairing.right h.right.position ≡ Some d → call_branches g.pairing order h c d ≡ Some hs
    → (p : List ℤ) (s t : Spot) → OnPath g h p s t → CallsBehind order g hs p s t
calls_step g Keep h c d hs ec ed e p s t a =
    let x = call_here g.pairing.left g.params g.left g.describes_left h.left.position (picked (columns_of h.left) p) c s ec a.left in
    let y = call_here g.pairing.right g.params g.right g.describes_right h.right.position (picked (columns_of h.right) p) d t ed a.right in
    let k = if-some (same_symbol c.symbol d.symbol) (kept h c.args d.args) hs e in
    let f : c.symbol ≡ d.symbol = symbol_is c.symbol d.symbol k.0 in
    record {
      symbol = c.symbol;
      left = x.writer;
      right = y.writer;
      left_args = x.args;
      right_args = y.args;
      left_place = x.place;
      right_place = y.place;
      left_is = x.is;
      right_is = y.is ∙ ap (λ (z : Symbol). AtNode y.writer (Call z y.args y.place)) (sym f);
      behind = kept_behind g h p s t a hs c.args d.args hs k.1 (λ z i. i) x.writer y.writer x.args y.args x.each y.each;
    }
calls_step g Swap h c d hs ec ed e p s t a =
    let x = call_here g.pairing.left g.params g.left g.describes_left h.left.position (picked (columns_of h.left) p) c s ec a.left in
    let y = call_here g.pairing.right g.params g.right g.describes_right h.right.position (picked (columns_of h.right) p) d t ed a.right in
    let k = if-some (same_symbol c.symbol d.symbol && g.pairing.swaps c.symbol) (swapped h c.args d.args) hs e in
    let b = both_of (same_symbol c.symbol d.symbol) (g.pairing.swaps c.symbol) k.0 in
    let f : c.symbol ≡ d.symbol = symbol_is c.symbol d.symbol b.0 in
    record {
      symbol = c.symbol;
      left = x.writer;
      right = y.writer;
      left_args = x.args;
      right_args = y.args;
      left_place = x.place;
      right_place = y.place;
      left_is = x.is;
      right_is = y.is ∙ ap (λ (z : Symbol). AtNode y.writer (Call z y.args y.place)) (sym f);
      behind = (b.1, swapped_behind g h p s t a c.args d.args hs k.1 x.writer y.writer x.args y.args x.each y.each);
    }

-- and each branch is a path whose columns are there
argument_in : (params : ℕ) (h : Path) (P Q : Position) → IsFormed params h → IsFormed params (argument_path h P Q)
argument_in params h P Q i = record { made = i.made; base_in = i.base_in; left_in = i.left_in; right_in = i.right_in; last_in = tt }

kept_in : (params : ℕ) (h : Path) → IsFormed params h → (Ps Qs : List Position) (hs : List Path) → kept h Ps Qs ≡ Some hs → (k : Path) → IsAmong k hs → IsFormed params k
kept_in params h i [] [] hs e k n = let j : [] ≡ hs = cc in absurd (subst (IsAmong k) (sym j) n)
kept_in params h i [] (Q ∷ Qs) hs e k n = absurd cc
kept_in params h i (P ∷ Ps) [] hs e k n = absurd cc
kept_in params h i (P ∷ Ps) (Q ∷ Qs) hs e k n =
    let b = map-some (kept h Ps Qs) (λ rest. argument_path h P Q ∷ rest) hs e in
    elim (subst (IsAmong k) b.2 n) as (λ x. IsFormed params k) [ inl j ↦ subst (λ (y : Path). IsFormed params y) (sym j) (argument_in params h P Q i) | inr j ↦ kept_in params h i Ps Qs b.0 b.1 k j ]

swapped_in : (params : ℕ) (h : Path) → IsFormed params h → (Ps Qs : List Position) (hs : List Path) → swapped h Ps Qs ≡ Some hs → (k : Path) → IsAmong k hs → IsFormed params k
swapped_in params h i (P ∷ P' ∷ []) (Q ∷ Q' ∷ []) hs e k n =
    let is : hs ≡ argument_path h P Q' ∷ argument_path h P' Q ∷ [] = cc in
    by (subst (IsAmong k) is n)
  where
    by : IsAmong k (argument_path h P Q' ∷ argument_path h P' Q ∷ []) → IsFormed params k
    by (inl j) = subst (λ (y : Path). IsFormed params y) (sym j) (argument_in params h P Q' i)
    by (inr (inl j)) = subst (λ (y : Path). IsFormed params y) (sym j) (argument_in params h P' Q i)
    by (inr (inr j)) = absurd j
swapped_in params h i [] Qs hs e k n = absurd cc
swapped_in params h i (P ∷ []) Qs hs e k n = absurd cc
swapped_in params h i (P ∷ P' ∷ P'' ∷ Ps) Qs hs e k n = absurd cc
swapped_in params h i (P ∷ P' ∷ []) [] hs e k n = absurd cc
swapped_in params h i (P ∷ P' ∷ []) (Q ∷ []) hs e k n = absurd cc
swapped_in params h i (P ∷ P' ∷ []) (Q ∷ Q' ∷ Q'' ∷ Qs) hs e k n = absurd cc

pub calls_formed : (g : Pairing) (order : Order) (h : Path) (c d : CallAt) (hs : List Path) → IsFormed g.params h → call_branches g order h c d ≡ Some hs → (k : Path) → IsAmong k hs → IsFormed g.params k
calls_formed g Keep h c d hs i e = kept_in g.params h i c.args d.args hs (if-some (same_symbol c.symbol d.symbol) (kept h c.args d.args) hs e).1
calls_formed g Swap h c d hs i e = swapped_in g.params h i c.args d.args hs (if-some (same_symbol c.symbol d.symbol && g.swaps c.symbol) (swapped h c.args d.args) hs e).1

pub calls_in : (g : Compared) (order : Order) (h : Path) (c d : CallAt) (hs : List Path) → InPath g h → call_branches g.pairing order h c d ≡ Some hs → (k : Path) → IsAmong k hs → InPath g k
calls_in g = calls_formed g.pairing
