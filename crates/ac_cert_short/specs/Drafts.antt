-- Drafts as nodes, and when nodes are accepted, with any row at a gap.
use Rattle.std.specs.Prelude.{◌≡◌, ℕ, suc, ◌+◌, ℤ, pos, true, List, [], ◌∷◌, Some, None}
use Rattle.ac_forms.specs.Affine.{Affine}
use Rattle.ac_forms.specs.declared.conj.Conj.{Conj}
use Rattle.ac_forms.specs.declared.row.Row.{Row}
use Rattle.ac_cert.specs.AbsurdEnd.{absurd_refusal}
use Rattle.ac_cert.specs.Rules.{after_step, both_sides, class, is_partition, with_row}
use Rattle.ac_cert_short.specs.CertificateNodes.{Nodes, step_uses, uses}
use Rattle.ac_cert_short.specs.CertificateNodes.Nodes.{absurdity, split, residue, none, child, step, gap}
use Rattle.ac_cert_short.specs.declared.draft.Mark.{Mark}
use Rattle.ac_cert_short.specs.declared.draft.Mark.TheVariants.{Kept, Gap}
use Rattle.ac_cert_short.specs.declared.draft.Draft.{Draft}
use Rattle.ac_cert_short.specs.declared.draft.Behind.{Behind, End, Split', Residue', Row_of-Draft, end_of-Draft, more_of-Draft}

abbrev pub marked : Mark → Nodes → Nodes
marked (Kept s) p = step s p
marked Gap p = gap p

-- marks from the last to the first, before what comes behind them
abbrev pub back_along : List Mark → Nodes → Nodes
back_along [] p = p
back_along (m ∷ ms) p = back_along ms (marked m p)

-- children from the last to the first, before those in hand
abbrev mutual
  pub draft_behind : Behind → Nodes
  draft_behind (End e) = absurdity e.row
  draft_behind (Split' f _ s l _ t r) = split f (back_along s.items (draft_behind l)) (back_along t.items (draft_behind r))
  draft_behind (Residue' m f shape all) = residue m f (draft_kids all none)

  pub draft_kids : {w : _} → Row_of-Draft w → Nodes → Nodes
  draft_kids end_of-Draft ks = ks
  draft_kids (more_of-Draft s t rest) ks = draft_kids rest (child (back_along s.items (draft_behind t)) ks)

abbrev pub draft_nodes : Draft → Nodes
draft_nodes d = back_along d.marks.items (draft_behind d.behind)

-- the same of a list
abbrev pub back_kids : List Draft → Nodes → Nodes
back_kids [] ks = ks
back_kids (d ∷ ds) ks = back_kids ds (child (draft_nodes d) ks)

-- how often the steps among marks use the row at place i
abbrev pub mark_use : ℕ → Mark → ℕ
mark_use i (Kept s) = step_uses i s
mark_use i Gap = 0

abbrev pub mark_uses : ℕ → List Mark → ℕ
mark_uses i [] = 0
mark_uses i (m ∷ ms) = mark_use i m + mark_uses i ms

-- how often children use it
abbrev pub kids_uses : ℕ → List Draft → ℕ
kids_uses i [] = 0
kids_uses i (d ∷ ds) = uses i (draft_nodes d) + kids_uses i ds

abbrev pub kid_count : Nodes → ℕ
kid_count (child p ks) = suc (kid_count ks)
kid_count _ = 0

-- how many nodes there are, without gaps
abbrev pub node_size : Nodes → ℕ
node_size (absurdity j) = 1
node_size (split f p q) = 1 + node_size p + node_size q
node_size (residue m f ks) = 1 + node_size ks
node_size none = 0
node_size (child p ks) = node_size p + node_size ks
node_size (step s p) = suc (node_size p)
node_size (gap p) = node_size p

abbrev mutual
  -- no node is refused, with some row at each gap
  pub Stands : Nodes → Conj → Type 0
  Stands (absurdity j) c = absurd_refusal j c ≡ None
  Stands (split f p q) c = (a : Conj) × (b : Conj) × (both_sides f c ≡ Some (a, b)) × Stands p a × Stands q b
  Stands (residue m f ks) c = (is_partition m f c.columns (kid_count ks) ≡ true) × KidsStand ks m f 0 c
  Stands none c = Unit {0}
  Stands (child p ks) c = Unit {0}
  Stands (step s p) c = (d : Conj) × (after_step s c ≡ Some d) × Stands p d
  Stands (gap p) c = (r : Row) × Stands p (with_row c r)

  -- each child stands at its class, from class i on
  pub KidsStand : Nodes → ℤ → Affine → ℕ → Conj → Type 0
  KidsStand (child p ks) m f i c = Stands p (class m f (pos i) c) × KidsStand ks m f (i + 1) c
  KidsStand none m f i c = Unit {0}
  KidsStand (absurdity j) m f i c = Unit {0}
  KidsStand (split g p q) m f i c = Unit {0}
  KidsStand (residue n g ks) m f i c = Unit {0}
  KidsStand (step s p) m f i c = Unit {0}
  KidsStand (gap p) m f i c = Unit {0}
