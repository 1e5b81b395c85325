use Rattle.std.proofs.Common.{◌≡◌, ◌+◌, length, subst}
use Rattle.std.specs.Prelude.{IfErr}
use Rattle.ac_forms.specs.declared.conj.Conj.{Conj}
use Rattle.ac_flow.specs.CutStops.{AreCutCases, CutStops, IfFull}
use Rattle.ac_flow.specs.Cuts.{NoneMeet}
use Rattle.ac_sets.specs.Unions.{ArePieces}
use Rattle.ac_flow.proofs.CutSteps.{case_made}
use Rattle.ac_flow.proofs.cutting.cut_piece.Goals as goal

pub cut_case-requires-clause-case : goal.cut_case-requires-clause-case
cut_case-requires-clause-case c = case_made c.args.m.now c.args.case.now.own.now.columns c.args.case.now.own.now.rows c.args.piece.now c.in_ok-conj.conj c.requires.context c.requires.piece c.requires.rows c.in_ok-conj.ensures

pub returns-clause-stops : goal.returns-clause-stops
returns-clause-stops c = λ ks a. subst (λ (x : Conj). IfErr c.cut_case.result (CutStops c.args.budget x ks)) c.in_ok-conj.ensures (c.cut_case.ensures.stops ks a)

pub returns-clause-full : goal.returns-clause-full
returns-clause-full c = subst (λ (x : Conj). IfErr c.cut_case.result (λ e. IfFull e ((length c.cut_case.new.pieces ≡ c.args.room + 1) × NoneMeet x.columns c.cut_case.new.pieces × ArePieces x.columns c.cut_case.new.pieces))) c.in_ok-conj.ensures c.cut_case.ensures.full

pub returns-clause-filled : goal.returns-clause-filled
returns-clause-filled c = λ ks a. subst (λ (x : Conj). IfErr c.cut_case.result (λ e. IfFull e (AreCutCases x ks c.cut_case.new.pieces))) c.in_ok-conj.ensures (c.cut_case.ensures.filled ks a)
