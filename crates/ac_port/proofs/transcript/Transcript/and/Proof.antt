-- A value of no bytes, whose list of reads is longer by one. Nothing is read through either reference.
use Rattle.std.proofs.Common.{[], ◌∷◌, ◌++◌, refl}
use Rattle.std.proofs.raw_atomic.Walks.{proved}
use mir.Syntax.{named}
use mir.Val.{Val, vptr, vstruct, vnil}
use types.Kit.{‵, raw, ◌⊛◌, ◌$◌, ◌∵◌, !, qed, move, keep, split, suffices, done}
use types.Part.{agg}
use types.Run.{enter, returns, no_more}
use types.ByLocal.{alloc_all, pass_all, free_all, look_at, sets}
use denote.Exit.{yes}
use denote.RattleType.{owns}
use denote.Ref.{shr_vals, shr_Tells}
use denote.Shadow.{pure_i}
use denote.Signature.{plain, types_at, named_lft}
use denote.Triple.Entry.{alive}
use denote.Triple.Walked.{Stays, stay_none_ref, Goes-none_ref, walk_of, says, ends_at}
use Rattle.ac_port.specs.NotedReads.{read_of}
use Rattle.ac_port.specs.contracts.transcript.FileRead as Noted
use Rattle.ac_port.specs.contracts.transcript.Transcript.{the_row as R}
use Rattle.ac_port.specs.contracts.transcript.Transcript.and as f
use Rattle.ac_port.proofs.transcript.Transcript.and.Statement.{statement}
use Rattle.ac_port.proofs.transcript.Transcript.and.Code as code

abbrev stayed : Stays f.ended.signature.params f.ended.kept
stayed = (stay_none_ref (0 ∷ []) tt (plain (λ _. R)) yes, (stay_none_ref (1 ∷ []) tt (plain (λ κs. Noted.the_row (named_lft 3 2 tt κs))) yes, tt))

pub and_spec : {M : Type 1} → statement M
and_spec 𝓤 𝓛 𝓜 𝓡 wired =
    let c = f.clauses 𝓛 𝓜.mem 𝓡.returns in let W = walk_of 𝓛 f.ended stayed c in
    proved 𝓛 f.ended stayed c 𝓜 𝓡 (Goes-none_ref 𝓛 3 (0 ∷ []) tt (plain (λ _. R)) yes, (Goes-none_ref 𝓛 3 (1 ∷ []) tt (plain (λ κs. Noted.the_row (named_lft 3 2 tt κs))) yes, tt))
    f.Key.name code.function (code.unfolded 𝓤 𝓛.H 𝓜 𝓡 wired)
    (λ κs. (shr_vals, (shr_vals, tt)))
    (λ κs. (shr_Tells (named 0) κs.0 R, (shr_Tells (named 1) κs.1.0 (Noted.the_row (named_lft 3 2 tt κs)), tt)))
    (λ κs qs bounds a _ are.
    let u : Val = vptr a.0.ref_ptr.0 a.0.ref_ptr.1 in
    let v : Val = vptr a.1.0.ref_ptr.0 a.1.0.ref_ptr.1 in
    let y : W.Ghost = ((κs, qs, bounds, a, (u ∷ [], (v ∷ [], tt))), tt) in
    let longer : R.Denot = record { reads = a.0.now.reads ++ read_of a.1.0.now ∷ [] } in
    qed 𝓛 ((raw (alive 𝓛 f.signature κs qs) ⊛ ‵ (owns (types_at f.signature.params κs) a (u ∷ [], (v ∷ [], tt)))) ∷ raw ((c κs a).requires tt) ∷ []) ∵ keep ! (0 ∷ []) $ split ! $
    enter ! _ _ _ _ _ $ alloc_all ! (λ l. pass_all ! refl ((tt, tt), ((tt, tt), tt)) $
    sets ! (agg ! (no_more !)) refl (tt, tt) $
    returns ! (look_at ! 0 refl) $ free_all ! refl $
    suffices ! _ (ends_at 𝓛 f.ended stayed c y (vstruct vnil) longer (tt, (tt, tt)) (tt, (tt, tt))) $ says ! refl $
    pure_i ! (R.own_val longer (vstruct vnil ∷ [])) ((λ vss. (tt, tt)), tt) ((tt, (refl, tt)), tt) $
    move ! (1 ∷ 2 ∷ 0 ∷ []) $ done !))
