use Rattle.catalog_semantics.specs.States.{references_of}
use Rattle.catalog_semantics.specs.Frames.{StandOnce, AreSound}
use Rattle.catalog_laws.specs.Containers.{AreHeld, HoldClasses}
use Rattle.pp_compile.proofs.PromiseLaws.{one_answer, promised, is_settled}
use Rattle.pp_compile.proofs.compiling.compile_with.Goals as goal

pub returns-clause-one : goal.returns-clause-one
returns-clause-one c = one_answer c.one_reading.ensures.manifests c.args.text.now c.args.facts.now c.args.node.now c.args.levels.now c.args.limits

pub returns-clause-read : goal.returns-clause-read
returns-clause-read c v r has refused = c.one_reading.ensures.refusals c.args.text.now has.manifest r has.parsed refused

pub returns-clause-sound : goal.returns-clause-sound
returns-clause-sound c =
    promised c.args.text.now c.args.facts.now c.args.node.now c.args.levels.now c.args.limits (λ x. AreSound x.resources)
    (λ x has. c.catalogs_are_sound.ensures has.manifest c.args.facts.now c.args.node.now c.args.levels.now c.args.limits x) c.compiled.result c.compiled.ensures.catalog

pub returns-clause-once : goal.returns-clause-once
returns-clause-once c =
    promised c.args.text.now c.args.facts.now c.args.node.now c.args.levels.now c.args.limits (λ x. StandOnce (references_of x.resources))
    (λ x has. c.references_stand_once.ensures has.manifest c.args.facts.now c.args.node.now c.args.levels.now c.args.limits x) c.compiled.result c.compiled.ensures.catalog

pub returns-clause-held : goal.returns-clause-held
returns-clause-held c =
    promised c.args.text.now c.args.facts.now c.args.node.now c.args.levels.now c.args.limits (λ x. AreHeld x.resources)
    (λ x has. c.holders_are_containers.ensures.holders has.manifest c.args.facts.now c.args.node.now c.args.levels.now c.args.limits x) c.compiled.result c.compiled.ensures.catalog

pub returns-clause-contained : goal.returns-clause-contained
returns-clause-contained c =
    promised c.args.text.now c.args.facts.now c.args.node.now c.args.levels.now c.args.limits (λ x. HoldClasses x.resources x.holdings)
    (λ x has. c.holders_are_containers.ensures.holdings has.manifest c.args.facts.now c.args.node.now c.args.levels.now c.args.limits x) c.compiled.result c.compiled.ensures.catalog

pub returns-clause-settled : goal.returns-clause-settled
returns-clause-settled c =
    promised c.args.text.now c.args.facts.now c.args.node.now c.args.levels.now c.args.limits _
    (is_settled c.rounds_end.ensures.settled c.rounds_end.ensures.enough c.args.text.now c.args.facts.now c.args.node.now c.args.levels.now c.args.limits)
    c.compiled.result c.compiled.ensures.catalog
