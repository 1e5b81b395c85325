use Rattle.std.proofs.Common.{sym, refl, map}
use Rattle.ac_flow.specs.FlowCases.{seen, conj_of_remainder}
use Rattle.ac_flow.specs.CaseStops.{plain}
use Rattle.ac_flow.proofs.CaseSteps.{source_rows, source_is, source_stops, source_kept, filled_map}
use Rattle.ac_flow.proofs.casing.source_case.Goals as goal

pub case_of-requires-clause-rows : goal.case_of-requires-clause-rows
case_of-requires-clause-rows c = source_rows c.args.m.now (seen c.args.reader.now) c.args.numbers.now c.in-Some.own c.reading-alone.result c.in_ok-own.field-0 c.in-Some.own.rows c.requires.read c.reading-alone.ensures c.in_ok-own.ensures c.in-Some.is refl

pub returns-in-Ok-clause-case : goal.returns-in-Ok-clause-case
returns-in-Ok-clause-case c =
    source_is c.args.m.now (seen c.args.reader.now) c.args.numbers.now c.in-Some.own c.reading-alone.result c.in_ok-own.field-0 c.in-Some-stmt_of.stmt.now c.in_ok-column_after.field-0 c.root-source.result c.in-Some.own.rows c.in-Ok.parts.left c.in-Ok.parts.kills _ c.reading-alone.ensures c.in_ok-own.ensures c.in-Some.is
    (sym c.in-Some-stmt_of.ensures) c.in_ok-column_after.ensures c.root-source.ensures refl c.in-Ok.ensures.case refl

pub returns-clause-stops : goal.returns-clause-stops
returns-clause-stops c =
    source_stops c.args.budget c.args.m.now (seen c.args.reader.now) c.args.numbers.now c.in-Some.own c.reading-alone.result c.in_ok-own.field-0 c.in-Some-stmt_of.stmt.now c.in_ok-column_after.field-0 c.root-source.result c.in-Some.own.rows (plain c.in-Err.stop) c.reading-alone.ensures c.in_ok-own.ensures c.in-Some.is
    (sym c.in-Some-stmt_of.ensures) c.in_ok-column_after.ensures c.root-source.ensures refl c.in-Err.ensures.stops

pub returns-in-Ok-clause-kept : goal.returns-in-Ok-clause-kept
returns-in-Ok-clause-kept c =
    source_kept c.args.budget c.args.m.now (seen c.args.reader.now) c.args.numbers.now c.in-Some.own c.reading-alone.result c.in_ok-own.field-0 c.in-Some-stmt_of.stmt.now c.in_ok-column_after.field-0 c.root-source.result c.in-Some.own.rows (map conj_of_remainder c.in-Ok.parts.left) c.reading-alone.ensures c.in_ok-own.ensures c.in-Some.is
    (sym c.in-Some-stmt_of.ensures) c.in_ok-column_after.ensures c.root-source.ensures refl c.in-Ok.ensures.kept

pub returns-clause-full : goal.returns-clause-full
returns-clause-full c =
    filled_map c.in-Err.stop _ _ (λ kept k. (
      k.0,
      k.1,
      source_kept c.args.budget c.args.m.now (seen c.args.reader.now) c.args.numbers.now c.in-Some.own c.reading-alone.result c.in_ok-own.field-0 c.in-Some-stmt_of.stmt.now c.in_ok-column_after.field-0 c.root-source.result c.in-Some.own.rows kept c.reading-alone.ensures c.in_ok-own.ensures c.in-Some.is
          (sym c.in-Some-stmt_of.ensures) c.in_ok-column_after.ensures c.root-source.ensures refl k.2,
    )) c.in-Err.ensures.full
