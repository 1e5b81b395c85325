-- The arguments of two calls, at the branches that their order has.
use Rattle.std.proofs.Common.{◌≡◌, inl, inr, ℕ, zero, suc, ◌+◌, ◌&&◌, ℤ, List, [], ◌∷◌, length, Some, refl, sym, ap, ◌∙◌, subst, arith}
use Rattle.std.specs.Prelude.{slice_get}
use Rattle.ac_forms.proofs.Joining.{both_of}
use Rattle.ac_syntax.specs.ValueNodes.{node_of}
use Rattle.ac_syntax.specs.Source.{Writer, Stands}
use Rattle.ac_syntax.specs.Spot.{AtNode}
use Rattle.ac_syntax.specs.declared.tree.Order.{Order}
use Rattle.ac_syntax.specs.declared.tree.Order.TheVariants.{Keep, Swap}
use Rattle.ac_syntax.specs.declared.tree.Place.{Place}
use Rattle.ac_syntax.specs.declared.tree.Position.{Position}
use Rattle.ac_syntax.specs.declared.tree.Position.TheVariants.{Output, Node, InitialOutput, InitialNode}
use Rattle.ac_syntax.specs.declared.tree.Value.{Value}
use Rattle.ac_syntax.specs.declared.tree.Value.TheVariants.{Call}
use Rattle.ac_poly.specs.declared.types.Model.{Model}
use Rattle.ac_base.proofs.Options.{map-some, if-some}
use Rattle.ac_claims_paths.specs.Executions.{Execution, At, Describes}
use Rattle.ac_claims_paths.specs.PathSteps.{Pairing, argument_path, kept, swapped, same_symbol, call_branches}
use Rattle.ac_claims_paths.specs.Pairs.{Placed, ArgumentsMeet}
use Rattle.ac_forms.specs.ListMembers.{IsAmong}
use Rattle.ac_claims_paths.specs.ModelPositions.{CallAt, call_at}
use Rattle.ac_claims_paths.specs.declared.path.Path.{Path}
use Rattle.ac_claims_paths.proofs.CallSteps.{Each, call_here, symbol_is}

-- ---- which arguments meet at a branch

-- two arguments with these numbers
pub record Argument (q : Path) (Ps Qs : List Position) (Meet : ℕ → ℕ → Type 0) (b : Path) : Type 0 where
  pub left : Position
  pub right : Position
  pub is : b ≡ argument_path q left right
  pub left_number : ℕ
  pub right_number : ℕ
  pub meet : Meet left_number right_number
  pub left_there : slice_get Ps left_number ≡ Some left
  pub right_there : slice_get Qs right_number ≡ Some right

kept_argument : (q : Path) (Ps Qs : List Position) (hs : List Path) → kept q Ps Qs ≡ Some hs → (b : Path) → IsAmong b hs → Argument q Ps Qs (λ k l. k ≡ l) b
kept_argument q [] [] hs e b n = let j : [] ≡ hs = cc in absurd (subst (IsAmong b) (sym j) n)
kept_argument q [] (Q ∷ Qs) hs e b n = absurd cc
kept_argument q (P ∷ Ps) [] hs e b n = absurd cc
kept_argument q (P ∷ Ps) (Q ∷ Qs) hs e b n =
    let r = map-some (kept q Ps Qs) (λ rest. argument_path q P Q ∷ rest) hs e in
    by r.0 (kept_argument q Ps Qs r.0 r.1 b) (subst (IsAmong b) r.2 n)
  where
    by : (rest : List Path) → (IsAmong b rest → Argument q Ps Qs (λ k l. k ≡ l) b) → IsAmong b (argument_path q P Q ∷ rest) → Argument q (P ∷ Ps) (Q ∷ Qs) (λ k l. k ≡ l) b
    by rest next (inl i) = record { left = P; right = Q; is = i; left_number = 0; right_number = 0; meet = refl; left_there = refl; right_there = refl }
    by rest next (inr i) =
        let z = next i in
        record { left = z.left; right = z.right; is = z.is; left_number = suc z.left_number; right_number = suc z.right_number; meet = ap suc z.meet; left_there = z.left_there; right_there = z.right_there }

swapped_argument : (q : Path) (Ps Qs : List Position) (hs : List Path) → swapped q Ps Qs ≡ Some hs → (b : Path) → IsAmong b hs → Argument q Ps Qs (λ k l. k + l ≡ 1) b
swapped_argument q (P ∷ P' ∷ []) (Q ∷ Q' ∷ []) hs e b n = by (subst (IsAmong b) (sym is) n)
  where
    is : argument_path q P Q' ∷ argument_path q P' Q ∷ [] ≡ hs
    is = cc

    by : IsAmong b (argument_path q P Q' ∷ argument_path q P' Q ∷ []) → Argument q (P ∷ P' ∷ []) (Q ∷ Q' ∷ []) (λ k l. k + l ≡ 1) b
    by (inl i) = record { left = P; right = Q'; is = i; left_number = 0; right_number = 1; meet = omega arith; left_there = refl; right_there = refl }
    by (inr (inl i)) = record { left = P'; right = Q; is = i; left_number = 1; right_number = 0; meet = omega arith; left_there = refl; right_there = refl }
    by (inr (inr i)) = absurd i
swapped_argument q [] Qs hs e b n = absurd cc
swapped_argument q (P ∷ []) Qs hs e b n = absurd cc
swapped_argument q (P ∷ P' ∷ P'' ∷ Ps) Qs hs e b n = absurd cc
swapped_argument q (P ∷ P' ∷ []) [] hs e b n = absurd cc
swapped_argument q (P ∷ P' ∷ []) (Q ∷ []) hs e b n = absurd cc
swapped_argument q (P ∷ P' ∷ []) (Q ∷ Q' ∷ Q'' ∷ Qs) hs e b n = absurd cc

-- the branch of two calls of one symbol
pub record CallBranch (g : Pairing) (order : Order) (q : Path) (c d : CallAt) (b : Path) : Type 0 where
  pub one : c.symbol ≡ d.symbol
  pub argument : Argument q c.args d.args (ArgumentsMeet g.swaps order c.symbol) b

pub call_branch : (g : Pairing) (order : Order) (q : Path) (c d : CallAt) (bs : List Path) → call_branches g order q c d ≡ Some bs → (b : Path) → IsAmong b bs → CallBranch g order q c d b
call_branch g Keep q c d bs e b n =
    let k = if-some (same_symbol c.symbol d.symbol) (kept q c.args d.args) bs e in
    record { one = symbol_is c.symbol d.symbol k.0; argument = kept_argument q c.args d.args bs k.1 b n }
call_branch g Swap q c d bs e b n =
    let k = if-some (same_symbol c.symbol d.symbol && g.swaps c.symbol) (swapped q c.args d.args) bs e in
    let t = both_of (same_symbol c.symbol d.symbol) (g.swaps c.symbol) k.0 in
    let a = swapped_argument q c.args d.args bs k.1 b n in
    record {
      one = symbol_is c.symbol d.symbol t.0;
      argument = record { left = a.left; right = a.right; is = a.is; left_number = a.left_number; right_number = a.right_number; meet = (t.1, a.meet); left_there = a.left_there; right_there = a.right_there };
    }

-- ---- where an argument stands

at_argument : (x : Execution) (at : List ℤ) (w : Writer) (Ps : List Position) (vs : List Value) → Each x at w Ps vs → (k : ℕ) (P : Position) → slice_get Ps k ≡ Some P → (v : Value) × At x P at (AtNode w v)
at_argument x at w [] vs h k P e = absurd cc
at_argument x at w (Q ∷ Ps) [] h k P e = absurd h
at_argument x at w (Q ∷ Ps) (v ∷ vs) h zero P e = let i : Q ≡ P = cc in (v, subst (λ (R : Position). At x R at (AtNode w v)) i h.0)
at_argument x at w (Q ∷ Ps) (v ∷ vs) h (suc k) P e = at_argument x at w Ps vs h.1 k P e

pub argument_placed : (m : Model) (params : List ℤ) (x : Execution) → Describes m params x → (a : Placed x) (P : Position) (at : List ℤ) → a.position ≡ P → a.at ≡ at → (c : CallAt) → call_at m P ≡ Some c → (k : ℕ) (Q : Position) → slice_get c.args k ≡ Some Q
    → (b : Placed x) × (b.position ≡ Q) × (b.at ≡ at)
argument_placed m params x d a P at p e c is k Q there =
    let here = subst (λ (y : List ℤ). At x P y a.spot) e (subst (λ (R : Position). At x R a.at a.spot) p a.here) in
    let h = call_here m params x d P at c a.spot is here in
    let v = at_argument x at h.writer c.args h.args h.each k Q there in
    (record { position = Q; at = at; spot = AtNode h.writer v.0; here = v.1 }, refl, refl)

-- ---- how many arguments a call has

as_many : (x : Execution) (at : List ℤ) (w : Writer) (Ps : List Position) (vs : List Value) → Each x at w Ps vs → length Ps ≡ length vs
as_many x at w [] [] h = refl
as_many x at w [] (v ∷ vs) h = absurd h
as_many x at w (P ∷ Ps) [] h = absurd h
as_many x at w (P ∷ Ps) (v ∷ vs) h = ap suc (as_many x at w Ps vs h.1)

-- a call of an assignment that is executed
pub record CallValue (x : Execution) (c : CallAt) : Type 0 where
  pub writer : Writer
  pub stands : Stands x.trace writer
  pub node : ℕ
  pub args : List Value
  pub place : Place
  pub is : node_of writer.entry.value node ≡ Some (Call c.symbol args place)
  pub count : length c.args ≡ length args

call_value_at : (m : Model) (params : List ℤ) (x : Execution) → Describes m params x → (a : Placed x) (P : Position) → At x P a.at a.spot → (c : CallAt) → call_at m P ≡ Some c → CallValue x c
unfolding At
call_value_at m params x d a (Output o) h c e = absurd cc
call_value_at m params x d a (Node s k) (w, i, v, n, is) c e =
    let h = call_here m params x d (Node s k) a.at c a.spot e (w, i, v, n, is) in
    let same : AtNode w v ≡ AtNode h.writer (Call c.symbol h.args h.place) = sym is ∙ h.is in
    let value : v ≡ Call c.symbol h.args h.place = cc in
    record { writer = w; stands = i.stands; node = k; args = h.args; place = h.place; is = n ∙ ap Some value; count = as_many x a.at h.writer c.args h.args h.each }
call_value_at m params x d a (InitialOutput o) h c e = absurd cc
call_value_at m params x d a (InitialNode s k) h c e = absurd cc

pub call_value : (m : Model) (params : List ℤ) (x : Execution) → Describes m params x → (a : Placed x) (P : Position) → a.position ≡ P → (c : CallAt) → call_at m P ≡ Some c → CallValue x c
call_value m params x d a P p c e = call_value_at m params x d a P (subst (λ (R : Position). At x R a.at a.spot) p a.here) c e
