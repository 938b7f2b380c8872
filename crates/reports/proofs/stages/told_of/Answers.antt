use Rattle.std.proofs.Common.{map, refl, sym, subst}
use Rattle.fs_lang.specs.Meaning.{program_of}
use Rattle.allowed_order.specs.AllowedOrder.{AreToldApart}
use Rattle.reports.proofs.StageLaws.{are_places}
use Rattle.reports.proofs.SourceLaws.{in_order}
use Rattle.reports.proofs.stages.told_of.Goals as goal

pub program_lines-requires : goal.program_lines-requires
program_lines-requires c = are_places c.args.made.now.catalog c.args.made.now.graph c.args.made.now.graph.plain refl c.requires.modelled.planned.graph

pub judged-requires : goal.judged-requires
judged-requires c = let m = c.args.made.now in in_order c.args.inputs.now c.args.known.now m.source m.catalog m.graph (map program_of m.programs) c.requires.modelled

pub replayed-requires-clause-order : goal.replayed-requires-clause-order
replayed-requires-clause-order c = let m = c.args.made.now in in_order c.args.inputs.now c.args.known.now m.source m.catalog m.graph (map program_of m.programs) c.requires.modelled

pub repaired-requires : goal.repaired-requires
repaired-requires c = let m = c.args.made.now in in_order c.args.inputs.now c.args.known.now m.source m.catalog m.graph (map program_of m.programs) c.requires.modelled

pub ensured-requires : goal.ensured-requires
ensured-requires c = let m = c.args.made.now in in_order c.args.inputs.now c.args.known.now m.source m.catalog m.graph (map program_of m.programs) c.requires.modelled

pub explained-requires-clause-order : goal.explained-requires-clause-order
explained-requires-clause-order c = let m = c.args.made.now in in_order c.args.inputs.now c.args.known.now m.source m.catalog m.graph (map program_of m.programs) c.requires.modelled

pub replayed-requires-clause-apart : goal.replayed-requires-clause-apart
replayed-requires-clause-apart c =
    let m = c.args.made.now in
    subst (AreToldApart m.catalog) (sym c.requires.modelled.planned.graph.places)
    (c.resources_are_told_apart.ensures c.args.inputs.now c.args.known.now m.source m.catalog c.requires.modelled.planned.compiled)

pub explained-requires-clause-compiled : goal.explained-requires-clause-compiled
explained-requires-clause-compiled c = c.requires.modelled.planned.compiled
