use Rattle.std.proofs.Common.{length, sym, ap, subst, ◌∙◌, ◌<◌}
use Rattle.std.proofs.lemmas.List.{length-map}
use Rattle.std.specs.List.{AllByRecursion}
use Rattle.graph_semantics.specs.Graphs.{reference_at}
use Rattle.reports.specs.Questions.{names_in}
use Rattle.reports.proofs.verdicts.names_of.Goals as goal

pub names_in-requires : goal.names_in-requires
names_in-requires c = subst (AllByRecursion (λ k. k < length c.args.made.now.catalog.resources)) (sym c.as_slice-plain.ensures) c.requires.places

pub returns-clause-names : goal.returns-clause-names
returns-clause-names c = c.in_ok-names.ensures ∙ ap (names_in c.args.made.now.catalog) c.as_slice-plain.ensures

pub returns-clause-count : goal.returns-clause-count
returns-clause-count c =
    ap length c.in_ok-names.ensures ∙ length-map c.as_slice-plain.result.now (reference_at c.args.made.now.catalog) ∙ ap length c.as_slice-plain.ensures ∙ sym c.requires.many
