use Rattle.std.proofs.Common.{map, refl}
use Rattle.std.proofs.lemmas.Result.{err_from_is_err_and}
use Rattle.fs_lang.specs.Meaning.{program_of}
use Rattle.reports.proofs.StageLaws.{are_places, are_told_places}
use Rattle.reports.proofs.SourceLaws.{uncompiled_for, unplanned_for, unmodelled_for, modelled_for}
use Rattle.reports.proofs.modelling.model_source.Goals as goal

pub returns-in_err-catalog-clause-refused : goal.returns-in_err-catalog-clause-refused
returns-in_err-catalog-clause-refused c =
    let p = err_from_is_err_and c.from_residual.result c.from_residual.ensures.1 in
    rw (p.1, p.2) (uncompiled_for c.args.source c.args.known.now c.args.text.now c.args.name.now c.args.limits c.in_err-catalog.field-0.0 c.in_err-catalog.ensures.refused)

pub returns-in_err-graph-clause-refused : goal.returns-in_err-graph-clause-refused
returns-in_err-graph-clause-refused c =
    let p = err_from_is_err_and c.from_residual-in_err-graph.result c.from_residual-in_err-graph.ensures.1 in
    rw (p.1, p.2)
    (unplanned_for c.args.source c.args.known.now c.args.text.now c.args.name.now c.args.limits c.in_ok-catalog.catalog c.in_ok-catalog.ensures.catalog c.in_err-graph.field-0.0 c.in_err-graph.ensures.refused)

pub programs_in-requires-clause-places : goal.programs_in-requires-clause-places
programs_in-requires-clause-places c = are_places c.in_ok-catalog.catalog c.in_ok-graph.graph c.in_ok-graph.graph.plain refl c.in_ok-graph.ensures.graph

pub programs_in-requires-clause-told : goal.programs_in-requires-clause-told
programs_in-requires-clause-told c =
    are_told_places c.args.text.now c.args.name.now c.args.limits c.args.known.now c.args.source c.in_ok-catalog.catalog c.in_ok-graph.graph c.in_ok-catalog.ensures.catalog c.in_ok-graph.ensures.graph

pub returns-in_err-programs-clause-refused : goal.returns-in_err-programs-clause-refused
returns-in_err-programs-clause-refused c =
    let p = err_from_is_err_and c.from_residual-in_err-programs.result c.from_residual-in_err-programs.ensures.1 in
    rw (p.1, p.2)
    (unmodelled_for c.args.source c.args.known.now c.args.text.now c.args.name.now c.args.limits c.in_ok-catalog.catalog c.in_ok-catalog.ensures.catalog c.in_ok-graph.graph c.in_ok-graph.ensures.graph
    c.in_ok-graph.ensures.count c.count.ensures.ordered c.in_err-programs.field-0.0 c.in_err-programs.ensures)

pub returns-clause-modelled : goal.returns-clause-modelled
returns-clause-modelled c =
    modelled_for c.args.source c.args.known.now c.args.text.now c.args.name.now c.args.limits c.in_ok-catalog.catalog c.in_ok-catalog.ensures.catalog c.in_ok-graph.graph c.in_ok-graph.ensures.graph
    c.in_ok-graph.ensures.count c.count.ensures.ordered (map program_of c.in_ok-programs.programs) c.in_ok-programs.ensures
