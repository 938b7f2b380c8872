use Rattle.std.proofs.Common.{ap, ap₂, ◌∙◌}
use Rattle.fs_lang.specs.Meaning.{program_of}
use Rattle.effect_sets.specs.Footprints.{joined, sure_after, footprint_after}
use Rattle.effect_sets.specs.Members.{members}
use Rattle.effect_sets.proofs.SetLaws.{no_members, parents_are}
use Rattle.effect_sets.proofs.footprints.footprint_of.Goals as goal

pub invariant_of-result : goal.invariant_of-result
invariant_of-result c q =
    parents_are (c.walk.new.found.writes.keys) (c.walk.new.found.folders.keys) (members c.new-parents.result) (members c.add_parents.new.into) (members c.add_parents-2.new.into) q
    (no_members c.new-parents.result c.new-parents.ensures.empty) c.in_ok-add_parents.ensures c.in_ok-add_parents-2.ensures

pub returns-clause-sets : goal.returns-clause-sets
returns-clause-sets c =
    c.in_ok-walk.ensures.footprint
    ∙ ap₂ (λ f s. joined f (footprint_after (program_of c.args.program.now) s)) c.nothing-found.ensures (no_members c.new-sure.result c.new-sure.ensures.empty)

pub returns-clause-sure : goal.returns-clause-sure
returns-clause-sure c = c.in_ok-walk.ensures.sure ∙ ap (sure_after (program_of c.args.program.now)) (no_members c.new-sure.result c.new-sure.ensures.empty)
