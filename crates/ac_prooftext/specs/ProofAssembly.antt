-- A proof that is read: what each line adds to it.
use Rattle.std.specs.Prelude.{◌≡◌, ◌≤◌, ◌<◌, ◌⊎◌, ◌-◌, ℕ, zero, suc, ◌+◌, pos, List, [], ◌∷◌, ◌++◌, map, reverse, length, Option, None, Some, unsigned_abs, ℤ}
use Rattle.std.specs.Global.{Global}
use Rattle.std.specs.List.{flat_map, AllByRecursion}
use Rattle.ac_omega_steps.specs.declared.choose.Choice.{Choice}
use Rattle.ac_cert.specs.declared.types.Step.{Step}
use Rattle.ac_claims.specs.CheckFeed.{of_choice}
use Rattle.ac_claims.specs.Machine.{next_items, IsSpelled}
use Rattle.ac_claims.specs.ProofMachine.{items_of, lines_of, with_last, AreSpelledTrees}
use Rattle.ac_claims.specs.declared.item.Item.{Item}
use Rattle.ac_claims.specs.declared.item.Item.TheVariants as item
use Rattle.ac_claims.specs.declared.types.Claim.{Claim}
use Rattle.ac_claims.specs.declared.types.ClaimTree.{ClaimTree}
use Rattle.ac_claims.specs.declared.types.Heads.{Heads}
use Rattle.ac_claims.specs.declared.types.Kill.{Kill}
use Rattle.ac_claims.specs.declared.types.Plan.{Plan}
use Rattle.ac_claims.specs.declared.types.PlanNext.{PlanNext}
use Rattle.ac_claims.specs.declared.types.Proof.{Proof}
use Rattle.ac_prooftext.specs.ProofTexts.{IsTextFault, capped}
use Rattle.ac_prooftext.specs.LinePrefixes.{IsBroken, IsWithin}
use Rattle.ac_prooftext.specs.LineOrder.{Place}
use Rattle.ac_prooftext.specs.declared.lines.LineReader.{LineReader}
use Rattle.ac_prooftext.specs.declared.lines.Reading.{Reading}
use Rattle.ac_prooftext.specs.declared.lines.Reading.TheVariants.{Unopened, Within, Faulty}
use Rattle.ac_prooftext.specs.declared.forks.Fork.{Fork}
use Rattle.ac_prooftext.specs.declared.forks.Fork.TheVariants as fork
use Rattle.ac_prooftext.specs.declared.forks.Joined.{Joined}
use Rattle.ac_prooftext.specs.declared.forks.Joined.TheVariants as joined
use Rattle.ac_prooftext.specs.declared.forks.OpenBranch.{OpenBranch}
use Rattle.ac_prooftext.specs.declared.plan_reader.PlanReader.{PlanReader}
use Rattle.ac_prooftext.specs.declared.proof_reader.ProofReader.{ProofReader}
use Rattle.ac_prooftext.specs.declared.proof_reader.TreeName.{TreeName}
use Rattle.ac_prooftext.specs.declared.types.TextFault.{TextFault}
use Rattle.ac_prooftext.specs.declared.types.TextFault.TheVariants.{Line, Memory}

abbrev pub IsSpelledPlan : Plan → Type 0
IsSpelledPlan t = IsSpelled t.next

-- a line says that its branch has so many children
abbrev pub Fills : Item → ℕ → Type 0
Fills (item.Residue m f) n = m ≡ pos n
Fills _ n = Unit {0}

-- the branch of a line with these children
pub record IsNext (x : Item) (children : List Plan) (next : PlanNext) : Type 0 where
  pub items : next_items next [] ≡ x ∷ flat_map items_of children
  pub spelled : AllByRecursion IsSpelledPlan children → Fills x (length children) → IsSpelled next

-- an open branch: the steps before it, its line, how many of its children are to come, and those that are there
pub record Opened : Type 0 where
  pub steps : List Step
  pub line : Item
  pub left : ℕ
  pub children : List Plan

abbrev pub opened_by : List Step → Fork → Opened
opened_by ss (fork.First f) = record { steps = ss; line = item.Split f; left = 2; children = [] }
opened_by ss (fork.Second f t) = record { steps = ss; line = item.Split f; left = 1; children = t ∷ [] }
opened_by ss (fork.Residue m f n ts) = record { steps = ss; line = item.Residue m f; left = n; children = ts }
opened_by ss (fork.Go o n ts) = record { steps = ss; line = item.Go o (n + length ts); left = n; children = ts }

abbrev pub opened_of : OpenBranch → Opened
opened_of b = opened_by b.steps b.fork

-- the open branches, the innermost first
abbrev pub inner : List OpenBranch → List Opened
inner bs = map opened_of (reverse bs)

abbrev pub with_child : Opened → Plan → Opened
with_child o t = record { steps = o.steps; line = o.line; left = o.left - 1; children = o.children ++ t ∷ [] }

-- a plan with this last child
abbrev pub IsWhole : Opened → Plan → Plan → Type 0
IsWhole o t w = (w.steps ≡ o.steps) × IsNext o.line (o.children ++ t ∷ []) w.next

-- what a branch of which children are to come is with one more of them
abbrev pub IsJoined : Opened → Plan → Joined → Type 0
IsJoined o t (joined.Open b) = 0 < o.left → (1 < o.left) × (opened_of b ≡ with_child o t)
IsJoined o t (joined.Whole w) = 0 < o.left → (o.left ≤ 1) × IsWhole o t w

-- a plan is complete: it is a child of the innermost branch, which may be complete with it, and so on. The whole plan is
-- given where no branch stays open
abbrev pub Closes : List Opened → Plan → List Opened → Option Plan → Type 0
Closes [] t new (Some w) = (new ≡ []) × (w ≡ t)
Closes [] t new None = ⊥
Closes (b ∷ bs) t new o = 0 < b.left → ((1 < b.left) × (o ≡ None) × (new ≡ with_child b t ∷ bs)) ⊎ ((b.left ≤ 1) × ((w : Plan) × (IsWhole b t w × Closes bs w new o)))

abbrev pub Ends : Plan → PlanReader → PlanReader → Option Plan → Type 0
Ends t old new o = Closes (inner old.branches) t (inner new.branches) o × (new.steps ≡ [])

-- the plan under way ends with these lines
pub record EndsWith (xs : List Item) (old new : PlanReader) (o : Option Plan) : Type 0 where
  pub next : PlanNext
  pub items : next_items next [] ≡ xs
  pub spelled : IsSpelled next
  pub ends : Ends (record { steps = old.steps; next = next }) old new o

-- a branch with so many children
abbrev pub Branches : Item → ℕ → PlanReader → PlanReader → Option Plan → Type 0
Branches x zero old new o = EndsWith (x ∷ []) old new o
Branches x (suc n) old new o = (o ≡ None) × (inner new.branches ≡ record { steps = old.steps; line = x; left = suc n; children = [] } ∷ inner old.branches) × (new.steps ≡ [])

-- the lines of a copy
abbrev pub kill_lines : Kill → List Item
kill_lines k = item.Killed k.stmt k.piece k.after k.before (length k.choices) ∷ flat_map of_choice k.choices

-- a copy with so many choices to come
abbrev pub Copied : Kill → ℕ → PlanReader → PlanReader → Option Plan → Type 0
Copied k zero old new o = EndsWith (kill_lines k) old new o
Copied k (suc n) old new o = (o ≡ None) × (new.branches ≡ old.branches) × (new.steps ≡ old.steps) × (new.kill ≡ Some (k, suc n))

abbrev pub with_choice : Kill → Choice → Kill
with_choice k c = record { stmt = k.stmt; piece = k.piece; after = k.after; before = k.before; choices = k.choices ++ c ∷ [] }

abbrev pub Chosen : Choice → Option (Kill × ℕ) → PlanReader → PlanReader → Option Plan → Type 0
Chosen c None old new o = Unit {0}
Chosen c (Some k) old new o = Copied (with_choice k.0 c) (k.1 - 1) old new o

-- a line of a plan; the plan is given where it is complete
abbrev pub TakesItem : Item → PlanReader → PlanReader → Option Plan → Type 0
TakesItem (item.Step s) old new o = (o ≡ None) × (new.branches ≡ old.branches) × (new.steps ≡ old.steps ++ s ∷ [])
TakesItem (item.Split f) old new o = Branches (item.Split f) 2 old new o
TakesItem (item.Residue m f) old new o = Branches (item.Residue m f) (unsigned_abs m) old new o
TakesItem (item.Go order n) old new o = Branches (item.Go order n) n old new o
TakesItem (item.Absurd i) old new o = EndsWith (item.Absurd i ∷ []) old new o
TakesItem (item.Hit c) old new o = EndsWith (item.Hit c ∷ []) old new o
TakesItem item.Number old new o = EndsWith (item.Number ∷ []) old new o
TakesItem item.Initial old new o = EndsWith (item.Initial ∷ []) old new o
TakesItem (item.Killed s d l m n) old new o = Copied (record { stmt = s; piece = d; after = l; before = m; choices = [] }) n old new o
TakesItem (item.Choice c) old new o = Chosen c old.kill old new o
TakesItem _ old new o = Unit {0}

-- the claim and the pieces of a plan
abbrev pub name_of : ClaimTree → TreeName
name_of t = record { claim = t.claim; left_piece = t.left_piece; right_piece = t.right_piece }

-- a further plan, where there is one
abbrev pub with_trees : List ClaimTree → TreeName → Option Plan → List ClaimTree
with_trees ts n None = ts
with_trees ts n (Some t) = ts ++ record { claim = n.claim; left_piece = n.left_piece; right_piece = n.right_piece; tree = t } ∷ []

-- a proof of which other lines were read
abbrev pub with_point : ProofReader → List ℤ → ProofReader
with_point b v = record { point = v; left = b.left; heads = b.heads; claims = b.claims; outputs = b.outputs; trees = b.trees; name = b.name; plan = b.plan; alloc = b.alloc }

abbrev pub with_heads : ProofReader → List (ℕ × ℕ) → Option Heads → ProofReader
with_heads b left heads = record { point = b.point; left = left; heads = heads; claims = b.claims; outputs = b.outputs; trees = b.trees; name = b.name; plan = b.plan; alloc = b.alloc }

abbrev pub with_claims : ProofReader → List Claim → ProofReader
with_claims b claims = record { point = b.point; left = b.left; heads = b.heads; claims = claims; outputs = b.outputs; trees = b.trees; name = b.name; plan = b.plan; alloc = b.alloc }

abbrev pub with_outputs : ProofReader → List (ℕ × ℕ) → ProofReader
with_outputs b outputs = record { point = b.point; left = b.left; heads = b.heads; claims = b.claims; outputs = outputs; trees = b.trees; name = b.name; plan = b.plan; alloc = b.alloc }

abbrev pub with_name : ProofReader → TreeName → ProofReader
with_name b name = record { point = b.point; left = b.left; heads = b.heads; claims = b.claims; outputs = b.outputs; trees = b.trees; name = name; plan = b.plan; alloc = b.alloc }

abbrev pub with_plan : ProofReader → PlanReader → Option Plan → ProofReader
with_plan b plan o = record { point = b.point; left = b.left; heads = b.heads; claims = b.claims; outputs = b.outputs; trees = with_trees b.trees b.name o; name = b.name; plan = plan; alloc = b.alloc }

pub record TakenInPlan (x : Item) (old new : ProofReader) : Type 0 where
  pub whole : Option Plan
  pub takes : TakesItem x old.plan new.plan whole
  pub same : new ≡ with_plan old new.plan whole

-- a line
abbrev pub Taken : Item → ProofReader → ProofReader → Type 0
Taken (item.Point v) old new = new ≡ with_point old v
Taken (item.Left v) old new = new ≡ with_heads old v old.heads
Taken (item.Right v) old new = new ≡ with_heads old [] (Some (record { left = old.left; right = v }))
Taken (item.Claims n) old new = new ≡ old
Taken (item.Claim P Q n) old new = new ≡ with_claims old (old.claims ++ record { left = P; right = Q; rows = [] } ∷ [])
Taken (item.Row r) old new = new ≡ with_claims old (with_last old.claims r)
Taken (item.Output o c) old new = new ≡ with_outputs old (old.outputs ++ (o, c) ∷ [])
Taken (item.Tree c a b) old new = new ≡ with_name old (record { claim = c; left_piece = a; right_piece = b })
Taken item.End old new = new ≡ old
Taken x old new = TakenInPlan x old new

-- lines, one after the other
abbrev pub AreTaken : List Item → ProofReader → ProofReader → Type 0
AreTaken [] old new = new ≡ old
AreTaken (x ∷ xs) old new = (mid : ProofReader) × (Taken x old mid × AreTaken xs mid new)

-- before the first line
abbrev pub unread : Global → ProofReader
unread a = record { point = []; left = []; heads = None; claims = []; outputs = []; trees = []; name = record { claim = 0; left_piece = 0; right_piece = 0 }; plan = record { alloc = a; branches = []; steps = []; kill = None }; alloc = a }

-- the parts of a proof that was read
pub record HasParts (b : ProofReader) (p : Proof) : Type 0 where
  pub point : p.point ≡ b.point
  pub heads : p.heads ≡ b.heads
  pub claims : p.claims ≡ b.claims
  pub outputs : p.outputs ≡ b.outputs
  pub trees : p.trees.items ≡ b.trees

-- two proofs with the same parts, whose plans have the same lines; the branches of the second are spelled
pub record SameProof (p q : Proof) : Type 0 where
  pub lines : lines_of q ≡ lines_of p
  pub point : q.point ≡ p.point
  pub heads : q.heads ≡ p.heads
  pub claims : q.claims ≡ p.claims
  pub outputs : q.outputs ≡ p.outputs
  pub trees : map name_of q.trees.items ≡ map name_of p.trees.items
  pub plans : map (λ (t : ClaimTree). items_of t.tree) q.trees.items ≡ map (λ (t : ClaimTree). items_of t.tree) p.trees.items
  pub branches : AreSpelledTrees q.trees.items

-- the items of the lines so far were taken
pub record IsRead (a : Global) (lines : List (List ℕ)) (p : Place) (count depth : ℕ) (b : ProofReader) : Type 0 where
  pub within : IsWithin lines p count depth
  pub taken : AreTaken within.items (unread a) b

abbrev pub IsReadingBy : Global → List (List ℕ) → Reading → Place → ℕ → ℕ → ProofReader → Type 0
IsReadingBy a lines Unopened p count depth b = ((lines ≡ []) × (count ≡ 0) × (depth ≡ 0)) × (b ≡ unread a)
IsReadingBy a lines Within p count depth b = IsRead a lines p count depth b
IsReadingBy a lines Faulty p count depth b = IsBroken lines count depth

abbrev pub IsReading : Global → List (List ℕ) → LineReader → ProofReader → Type 0
IsReading a lines r b = IsReadingBy a lines r.reading r.outline r.lines r.deepest b

-- the first line at which a text isn't a spelling, as it is counted. Want of memory tells nothing
abbrev pub IsReadFault : List ℕ → TextFault → Type 0
IsReadFault text (Line k) = (line : ℕ) × (depth : ℕ) × (IsTextFault text line depth × (k ≡ capped line))
IsReadFault text (Memory e) = Unit {0}
