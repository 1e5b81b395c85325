-- The derived `==` of sites says whether they are equal.
use Rattle.std.proofs.Common.{◌≡◌, ℕ, Bool, true, false, ◌&&◌, refl, ap, nat_eq}
use Rattle.std.specs.Bool.{Decides}
use Rattle.std.proofs.lemmas.Bool.Decides.{Decides-eqb}
use Rattle.ac_syntax.specs.declared.tree.Position.{Position}
use Rattle.ac_syntax.specs.declared.tree.Position.TheVariants.{Output, Node, InitialOutput, InitialNode}
use Rattle.ac_syntax.specs.declared.tree.Site.{Site}
use Rattle.ac_syntax.specs.contracts.tree.PositionPartialEq.TheImpl as position
use Rattle.ac_syntax.specs.contracts.tree.SitePartialEq.TheImpl as site

pub by : {P Q : Type 0} (b : Bool) → Decides b P → (P → Q) → (Q → P) → Decides b Q
by b d to from = (λ h. to (d.0 h), λ q. d.1 (from q))

pub and : {P Q R : Type 0} (a b : Bool) → Decides a P → Decides b Q → (P → Q → R) → (R → P) → (R → Q) → Decides (a && b) R
and true b d e make first second = (λ h. make (d.0 refl) (e.0 h), λ r. e.1 (second r))
and false b d e make first second = (λ h. cc, λ r. d.1 (first r))

abbrev stmt_of : Position → ℕ
stmt_of (Output o) = o
stmt_of (Node s n) = s
stmt_of (InitialOutput o) = o
stmt_of (InitialNode s n) = s

abbrev node_of : Position → ℕ
node_of (Output o) = o
node_of (Node s n) = n
node_of (InitialOutput o) = o
node_of (InitialNode s n) = n

two : (f : ℕ → ℕ → Position) (a b c d : ℕ) → a ≡ c → b ≡ d → f a b ≡ f c d
two f a b c d e g = rw (e, g) refl

pub positions : (p q : Position) → Decides (position.ghosts.eq p q) (p ≡ q)
positions (Output a) (Output b) = by (nat_eq a b) (Decides-eqb a b) (ap Output) (ap stmt_of)
positions (InitialOutput a) (InitialOutput b) = by (nat_eq a b) (Decides-eqb a b) (ap InitialOutput) (ap stmt_of)
positions (Node a b) (Node c d) = and (nat_eq a c) (nat_eq b d) (Decides-eqb a c) (Decides-eqb b d) (λ e g. two Node a b c d e g) (ap stmt_of) (ap node_of)
positions (InitialNode a b) (InitialNode c d) = and (nat_eq a c) (nat_eq b d) (Decides-eqb a c) (Decides-eqb b d) (λ e g. two InitialNode a b c d e g) (ap stmt_of) (ap node_of)
positions (Output a) (Node c d) = (λ h. cc, λ e. cc)
positions (Output a) (InitialOutput b) = (λ h. cc, λ e. cc)
positions (Output a) (InitialNode c d) = (λ h. cc, λ e. cc)
positions (Node a b) (Output c) = (λ h. cc, λ e. cc)
positions (Node a b) (InitialOutput c) = (λ h. cc, λ e. cc)
positions (Node a b) (InitialNode c d) = (λ h. cc, λ e. cc)
positions (InitialOutput a) (Output b) = (λ h. cc, λ e. cc)
positions (InitialOutput a) (Node c d) = (λ h. cc, λ e. cc)
positions (InitialOutput a) (InitialNode c d) = (λ h. cc, λ e. cc)
positions (InitialNode a b) (Output c) = (λ h. cc, λ e. cc)
positions (InitialNode a b) (InitialOutput c) = (λ h. cc, λ e. cc)
positions (InitialNode a b) (Node c d) = (λ h. cc, λ e. cc)

pub sites : (a b : Site) → Decides (site.ghosts.eq a b) (a ≡ b)
sites a b =
    and (position.ghosts.eq a.left b.left) (position.ghosts.eq a.right b.right) (positions a.left b.left) (positions a.right b.right)
    (λ e g. rw (e, g) refl) (ap (λ (s : Site). s.left)) (ap (λ (s : Site). s.right))
