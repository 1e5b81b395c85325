-- The derived `==` of nodes says whether the contracts see the same.
use Rattle.std.proofs.Common.{◌≡◌, ℕ, ℤ, List, Bool, true, false, ◌&&◌, refl, sym, ap, ◌∙◌, nat_eq, int_eq}
use Rattle.std.specs.Bool.{Decides}
use Rattle.std.specs.Cmp.Lexicographic.{pointwise}
use Rattle.std.proofs.lemmas.Bool.Decides.{Decides-eqb, Decides-int_eq}
use Rattle.std.proofs.lemmas.Slice.Eq.{slice_eq-Decides, bytes_eq-Decides}
use Rattle.ac_syntax.specs.declared.tree.Symbol.{Symbol}
use Rattle.ac_syntax.specs.Term as term
use Rattle.ac_terms.specs.declared.node.Leaf.{Leaf}
use Rattle.ac_terms.specs.declared.node.Leaf.TheVariants.{Input, LeftLocal, RightLocal}
use Rattle.ac_terms.specs.declared.node.TermId.{TermId}
use Rattle.ac_terms.specs.declared.node.Node.{Node}
use Rattle.ac_terms.specs.declared.node.Node.TheVariants.{Number, Initial, Call}
use Rattle.ac_terms.specs.Table.{number_of, initial_of, call_of}
use Rattle.ac_terms.specs.TableNodes.{shape, leaf_at}
use Rattle.ac_terms.specs.contracts.node.NodePartialEq.TheImpl as derived
use Rattle.ac_terms.specs.contracts.node.LeafPartialEq.TheImpl as leaf
use Rattle.ac_terms.specs.contracts.node.TermIdPartialEq.TheImpl as id

abbrev pub node_eq : Node → Node → Bool
node_eq = derived.ghosts.eq

-- one test decides what another does, if they say the same
by : {P Q : Type 0} (b : Bool) → Decides b P → (P → Q) → (Q → P) → Decides b Q
by b d to from = (λ h. to (d.0 h), λ q. d.1 (from q))

and : {P Q R : Type 0} (a b : Bool) → Decides a P → Decides b Q → (P → Q → R) → (R → P) → (R → Q) → Decides (a && b) R
and true b d e make first second = (λ h. make (d.0 refl) (e.0 h), λ r. e.1 (second r))
and false b d e make first second = (λ h. cc, λ r. d.1 (first r))

pub ids-Decides : (a b : TermId) → Decides (id.ghosts.eq a b) (a ≡ b)
ids-Decides a b = by (nat_eq a.index b.index) (Decides-eqb a.index b.index) (λ e. ap (λ n. record { index = n }) e) (λ e. ap (λ (i : TermId). i.index) e)

leaves : (l m : Leaf) → Decides (leaf.ghosts.eq l m) (l ≡ m)
leaves (Input a) (Input b) = by (nat_eq a b) (Decides-eqb a b) (ap Input) (λ e. cc)
leaves (LeftLocal a) (LeftLocal b) = by (nat_eq a b) (Decides-eqb a b) (ap LeftLocal) (λ e. cc)
leaves (RightLocal a) (RightLocal b) = by (nat_eq a b) (Decides-eqb a b) (ap RightLocal) (λ e. cc)
leaves (Input a) (LeftLocal b) = (λ h. cc, λ e. cc)
leaves (Input a) (RightLocal b) = (λ h. cc, λ e. cc)
leaves (LeftLocal a) (Input b) = (λ h. cc, λ e. cc)
leaves (LeftLocal a) (RightLocal b) = (λ h. cc, λ e. cc)
leaves (RightLocal a) (Input b) = (λ h. cc, λ e. cc)
leaves (RightLocal a) (LeftLocal b) = (λ h. cc, λ e. cc)

-- a leaf at an index vector tells both
abbrev array_of : term.Leaf → ℕ
array_of (term.Input c) = c.array
array_of (term.LeftLocal c) = c.array
array_of (term.RightLocal c) = c.array

abbrev index_in : term.Leaf → List ℤ
index_in (term.Input c) = c.at
index_in (term.LeftLocal c) = c.at
index_in (term.RightLocal c) = c.at

leaf_of : (l m : Leaf) (v w : List ℤ) → leaf_at l v ≡ leaf_at m w → l ≡ m
leaf_of (Input a) (Input b) v w e = ap (λ x. Input (array_of x)) e
leaf_of (LeftLocal a) (LeftLocal b) v w e = ap (λ x. LeftLocal (array_of x)) e
leaf_of (RightLocal a) (RightLocal b) v w e = ap (λ x. RightLocal (array_of x)) e
leaf_of (Input a) (LeftLocal b) v w e = cc
leaf_of (Input a) (RightLocal b) v w e = cc
leaf_of (LeftLocal a) (Input b) v w e = cc
leaf_of (LeftLocal a) (RightLocal b) v w e = cc
leaf_of (RightLocal a) (Input b) v w e = cc
leaf_of (RightLocal a) (LeftLocal b) v w e = cc

at_is : (l : Leaf) (v : List ℤ) → index_in (leaf_at l v) ≡ v
at_is (Input a) v = refl
at_is (LeftLocal a) v = refl
at_is (RightLocal a) v = refl

index_of : (l m : Leaf) (v w : List ℤ) → leaf_at l v ≡ leaf_at m w → v ≡ w
index_of l m v w e = sym (at_is l v) ∙ ap index_in e ∙ at_is m w

initial_is : (l m : Leaf) (v w : List ℤ) → initial_of (leaf_at l v) ≡ initial_of (leaf_at m w) → leaf_at l v ≡ leaf_at m w
initial_is l m v w e = cc

abbrev symbol : List ℕ → ℕ → Symbol
symbol name arity = record { name = name; arity = arity }

call_is : (f g : List ℕ) (n k : ℕ) (is js : List TermId) → call_of (symbol f n) is ≡ call_of (symbol g k) js → symbol f n ≡ symbol g k
call_is f g n k is js e = cc

name_of : (f g : List ℕ) (n k : ℕ) (is js : List TermId) → call_of (symbol f n) is ≡ call_of (symbol g k) js → f ≡ g
name_of f g n k is js e = ap (λ (s : Symbol). s.name) (call_is f g n k is js e)

arity_of : (f g : List ℕ) (n k : ℕ) (is js : List TermId) → call_of (symbol f n) is ≡ call_of (symbol g k) js → n ≡ k
arity_of f g n k is js e = ap (λ (s : Symbol). s.arity) (call_is f g n k is js e)

args_of : (f g : List ℕ) (n k : ℕ) (is js : List TermId) → call_of (symbol f n) is ≡ call_of (symbol g k) js → is ≡ js
args_of f g n k is js e = cc

rest_of : (f g : List ℕ) (n k : ℕ) (is js : List TermId) → call_of (symbol f n) is ≡ call_of (symbol g k) js → (n ≡ k) × (is ≡ js)
rest_of f g n k is js e = (arity_of f g n k is js e, args_of f g n k is js e)

rest_is : (n k : ℕ) (is js : List TermId) → Decides (nat_eq n k && pointwise id.ghosts.eq is js) ((n ≡ k) × (is ≡ js))
rest_is n k is js = and (nat_eq n k) (pointwise id.ghosts.eq is js) (Decides-eqb n k) (slice_eq-Decides ids-Decides is js _ refl) (λ p q. (p, q)) (λ r. r.0) (λ r. r.1)

pub node_eq-Decides : (a b : Node) → Decides (node_eq a b) (shape a ≡ shape b)
node_eq-Decides (Number v) (Number w) = by (int_eq v w) (Decides-int_eq v w) (ap number_of) (λ e. cc)
node_eq-Decides (Initial l v) (Initial m w) =
    and (leaf.ghosts.eq l m) (pointwise int_eq v.items w.items) (leaves l m) (slice_eq-Decides Decides-int_eq v.items w.items _ refl)
    (λ p q j. initial_of (leaf_at (p j) (q j))) (λ e. leaf_of l m v.items w.items (initial_is l m v.items w.items e)) (λ e. index_of l m v.items w.items (initial_is l m v.items w.items e))
node_eq-Decides (Call f n v) (Call g k w) =
    and (pointwise nat_eq f.items g.items) (nat_eq n k && pointwise id.ghosts.eq v.items w.items) (bytes_eq-Decides f.items g.items)
    (rest_is n k v.items w.items)
    (λ p q j. call_of (record { name = p j; arity = q.0 j }) (q.1 j)) (name_of f.items g.items n k v.items w.items) (rest_of f.items g.items n k v.items w.items)
node_eq-Decides (Number v) (Initial m w) = (λ h. cc, λ e. cc)
node_eq-Decides (Number v) (Call g k w) = (λ h. cc, λ e. cc)
node_eq-Decides (Initial l v) (Number w) = (λ h. cc, λ e. cc)
node_eq-Decides (Initial l v) (Call g k w) = (λ h. cc, λ e. cc)
node_eq-Decides (Call f n v) (Number w) = (λ h. cc, λ e. cc)
node_eq-Decides (Call f n v) (Initial m w) = (λ h. cc, λ e. cc)
