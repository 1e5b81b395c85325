use Rattle.std.proofs.Common.{◌≡◌, inl, inr, length}
use Rattle.ac_forms.specs.Affine.{Affine}
use Rattle.ac_forms.specs.declared.row.Row.TheVariants.{Eq}
use Rattle.ac_omega_certify.proofs.ByEquality.{equality-at, equality-within, other-equality, modest-divides, modest-replaces, by-equality-calm, leads-carries}
use Rattle.ac_omega_certify.proofs.path.TreePath.show_equality.Goals as goal

pub show_replacing-requires-clause-column : goal.show_replacing-requires-clause-column
show_replacing-requires-clause-column c =
    let e = equality-at c.args.stage.now.rows.now c.args.i c.index-rows-i.result c.in-Eq.form (equality-within c.args.z c.args.stage.now.rows.now c.args.i c.requires.equality) c.index-rows-i.is c.in-Eq.is in
    modest-divides c.args.z c.args.stage.now.rows.now c.args.i c.in-Eq.form c.requires.within_2_to_120 e c.requires.equality

pub show_replacing-requires-clause-fits : goal.show_replacing-requires-clause-fits
show_replacing-requires-clause-fits c =
    let e = equality-at c.args.stage.now.rows.now c.args.i c.index-rows-i.result c.in-Eq.form (equality-within c.args.z c.args.stage.now.rows.now c.args.i c.requires.equality) c.index-rows-i.is c.in-Eq.is in
    modest-replaces (length c.args.stage.now.names.now) c.args.z c.args.stage.now.rows.now c.args.i c.in-Eq.form c.requires.within_2_to_120 c.requires.made e c.requires.equality

pub unreachable-requires : goal.unreachable-requires
unreachable-requires c = other-equality c.args.z c.args.stage.now.rows.now c.args.i c.index-rows-i.result (equality-within c.args.z c.args.stage.now.rows.now c.args.i c.requires.equality) c.index-rows-i.is other c.requires.equality
  where
    other : (g : Affine) → c.index-rows-i.result ≡ Eq g → ⊥
    other g e = elim c.in-Div.is [ inl d ↦ (let x = d.2 in cc) | inr d ↦ (let x = d.1 in cc) ]

pub returns-clause-rows : goal.returns-clause-rows
returns-clause-rows c =
    let e = equality-at c.args.stage.now.rows.now c.args.i c.index-rows-i.result c.in-Eq.form (equality-within c.args.z c.args.stage.now.rows.now c.args.i c.requires.equality) c.index-rows-i.is c.in-Eq.is in
    rw e c.in_ok-left-in-Eq.ensures.rows

pub returns-clause-up_to_2_to_122 : goal.returns-clause-up_to_2_to_122
returns-clause-up_to_2_to_122 c =
    let e = equality-at c.args.stage.now.rows.now c.args.i c.index-rows-i.result c.in-Eq.form (equality-within c.args.z c.args.stage.now.rows.now c.args.i c.requires.equality) c.index-rows-i.is c.in-Eq.is in
    rw c.in_ok-left-in-Eq.ensures.rows (by-equality-calm c.args.z c.args.stage.now.rows.now c.args.i c.in-Eq.form c.requires.within_2_to_120 e c.requires.equality)

pub returns-clause-carries : goal.returns-clause-carries
returns-clause-carries c = λ start h.
    let e = equality-at c.args.stage.now.rows.now c.args.i c.index-rows-i.result c.in-Eq.form (equality-within c.args.z c.args.stage.now.rows.now c.args.i c.requires.equality) c.index-rows-i.is c.in-Eq.is in
    leads-carries c.args.self.now c.show_replacing.new.self start c.args.stage.now.names.now c.args.stage.now.rows.now c.args.stage.now.places.now c.in_ok-left-in-Eq.left.rows.items c.in_ok-left-in-Eq.left.places.items c.in_ok-left-in-Eq.ensures.base
    (λ path a n s. c.in_ok-left-in-Eq.ensures.leads start path a n s e) h
