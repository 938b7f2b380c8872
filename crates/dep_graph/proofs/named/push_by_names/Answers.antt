use Rattle.std.proofs.Common.{◌<◌, ℕ, sym, subst, ◌∙◌}
use Rattle.std.specs.List.{All}
use Rattle.catalog_semantics.specs.States.{declared_bound}
use Rattle.dep_graph.proofs.NamedLaws.{targets_bounded}
use Rattle.dep_graph.proofs.named.push_by_names.Goals as goal

pub push_all_kept-requires-clause-targets : goal.push_all_kept-requires-clause-targets
push_all_kept-requires-clause-targets c =
    let small = λ (p : ℕ). p < declared_bound in
    subst (All small) (sym (c.as_slice.ensures ∙ c.in_ok-targets.ensures)) (targets_bounded small c.args.catalog.now c.args.plain.now c.in-Some.r.now c.requires.plain)
