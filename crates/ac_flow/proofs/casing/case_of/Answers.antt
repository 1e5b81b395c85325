use Rattle.std.proofs.Common.{sym, ◌∙◌, map}
use Rattle.ac_flow.specs.FlowCases.{seen, conj_of_remainder}
use Rattle.ac_flow.specs.CaseStops.{plain}
use Rattle.ac_flow.proofs.CaseSteps.{context_over, pieces_over, kills_over, wide_enough, wide_as, writings_as, same_length, case_is, cut_stop_case, kept_case, filled_case}
use Rattle.ac_flow.proofs.casing.case_of.Goals as goal

pub cut_pieces-requires-clause-context : goal.cut_pieces-requires-clause-context
cut_pieces-requires-clause-context c = context_over c.args.m.now (seen c.args.reader.now) c.args.own.now.columns c.requires.read (wide_enough c.args.m.now (seen c.args.reader.now) c.args.source c.args.own.now.columns c.requires.wide)

pub cut_pieces-requires-clause-pieces : goal.cut_pieces-requires-clause-pieces
cut_pieces-requires-clause-pieces c = pieces_over c.args.m.now (seen c.args.reader.now) c.args.own.now.columns c.requires.read (wide_enough c.args.m.now (seen c.args.reader.now) c.args.source c.args.own.now.columns c.requires.wide)

pub cut_pieces-requires-clause-over : goal.cut_pieces-requires-clause-over
cut_pieces-requires-clause-over c =
    kills_over c.args.budget c.args.m.now c.reading-assumed.result c.as_slice.result.now c.in-Ok.found c.as_slice-2.result.now c.args.own.now.columns c.in-Ok.ensures.found c.as_slice-2.ensures
    (wide_as c.args.m.now (seen c.args.reader.now) c.args.source c.args.own.now.columns c.reading-assumed.result c.reading-assumed.ensures c.requires.wide)

pub returns-in-Err-cut_pieces-clause-stops : goal.returns-in-Err-cut_pieces-clause-stops
returns-in-Err-cut_pieces-clause-stops c =
    cut_stop_case c.args.budget c.args.m.now (seen c.args.reader.now) c.args.source c.args.own.now.columns c.args.own.now.rows c.reading-assumed.result c.in_ok-copies.copies c.as_slice.result.now c.in-Ok.found c.as_slice-2.result.now (plain c.in-Err-cut_pieces.stop) c.reading-assumed.ensures
    (writings_as c.args.m.now (seen c.args.reader.now) c.args.source c.reading-assumed.result c.in_ok-copies.copies c.reading-assumed.ensures c.in_ok-copies.ensures) c.as_slice.ensures c.in-Ok.ensures.found c.as_slice-2.ensures c.in-Err-cut_pieces.ensures.stops

pub kills_of-requires : goal.kills_of-requires
kills_of-requires c = same_length c.args.budget c.args.m.now c.reading-assumed.result c.as_slice.result.now c.as_slice-3.result.now c.in-Ok.found c.as_slice-4.result.now c.in-Ok.ensures.found (c.as_slice-3.ensures ∙ sym c.as_slice.ensures) c.as_slice-4.ensures

pub returns-clause-case : goal.returns-clause-case
returns-clause-case c =
    case_is c.args.budget c.args.m.now (seen c.args.reader.now) c.args.source c.args.own.now.columns c.args.own.now.rows c.reading-assumed.result c.in_ok-copies.copies c.as_slice.result.now c.as_slice-3.result.now c.in-Ok.found c.as_slice-2.result.now c.as_slice-4.result.now c.in-Ok-cut_pieces.left
    c.in_ok-kills.kills c.reading-assumed.ensures c.requires.wide
    (writings_as c.args.m.now (seen c.args.reader.now) c.args.source c.reading-assumed.result c.in_ok-copies.copies c.reading-assumed.ensures c.in_ok-copies.ensures) c.as_slice.ensures c.as_slice-3.ensures c.in-Ok.ensures.found c.as_slice-2.ensures c.as_slice-4.ensures
    c.in-Ok-cut_pieces.ensures.parts c.in_ok-kills.ensures

pub returns-in-Err-cut_pieces-clause-full : goal.returns-in-Err-cut_pieces-clause-full
returns-in-Err-cut_pieces-clause-full c =
    filled_case c.args.budget c.args.m.now (seen c.args.reader.now) c.args.source c.args.own.now.columns c.args.own.now.rows c.reading-assumed.result c.in_ok-copies.copies c.as_slice.result.now c.in-Ok.found c.as_slice-2.result.now c.args.room c.in-Err-cut_pieces.stop c.reading-assumed.ensures
    (writings_as c.args.m.now (seen c.args.reader.now) c.args.source c.reading-assumed.result c.in_ok-copies.copies c.reading-assumed.ensures c.in_ok-copies.ensures) c.as_slice.ensures c.in-Ok.ensures.found c.as_slice-2.ensures c.in-Err-cut_pieces.ensures.full c.in-Err-cut_pieces.ensures.filled

pub returns-clause-kept : goal.returns-clause-kept
returns-clause-kept c =
    kept_case c.args.budget c.args.m.now (seen c.args.reader.now) c.args.source c.args.own.now.columns c.args.own.now.rows c.reading-assumed.result c.in_ok-copies.copies c.as_slice.result.now c.in-Ok.found c.as_slice-2.result.now (map conj_of_remainder c.in-Ok-cut_pieces.left) c.reading-assumed.ensures
    (writings_as c.args.m.now (seen c.args.reader.now) c.args.source c.reading-assumed.result c.in_ok-copies.copies c.reading-assumed.ensures c.in_ok-copies.ensures) c.as_slice.ensures c.in-Ok.ensures.found c.as_slice-2.ensures c.in-Ok-cut_pieces.ensures.groups
