use Rattle.std.proofs.Common.{refl}
use Rattle.reports.proofs.StageLaws.{uncompiled_answer, compiled_answer}
use Rattle.reports.proofs.compiling.catalog_for.Goals as goal

pub returns-clause-compiled : goal.returns-clause-compiled
returns-clause-compiled c =
    compiled_answer c.args.inputs.now c.args.known.now c.args.source.now c.input-text.result.now c.node_name-node.result.now c.args.inputs.now.limits
    c.input-text.ensures c.requires.source c.node_name-node.ensures refl c.requires.known c.catalog_under.result c.catalog_under.ensures.catalog

pub returns-clause-refused : goal.returns-clause-refused
returns-clause-refused c =
    uncompiled_answer c.args.inputs.now c.args.known.now c.args.source.now c.input-text.result.now c.node_name-node.result.now c.args.inputs.now.limits
    c.input-text.ensures c.requires.source c.node_name-node.ensures refl c.requires.known c.catalog_under.result c.catalog_under.ensures.refused
