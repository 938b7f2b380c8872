use Rattle.std.proofs.Common.{length, sym, ap, subst, ◌∙◌, ◌<◌}
use Rattle.std.proofs.lemmas.List.{length-map}
use Rattle.std.specs.List.{AllByRecursion}
use Rattle.reports.specs.Questions.{quoted_at, quoted_names_in}
use Rattle.reports.proofs.repairs.quoted_names_of.Goals as goal

pub quoted_names_in-requires : goal.quoted_names_in-requires
quoted_names_in-requires c = subst (AllByRecursion (λ k. k < length c.args.made.now.catalog.resources)) (sym c.as_slice-plain.ensures) c.requires.places

pub returns-clause-names : goal.returns-clause-names
returns-clause-names c = c.in_ok-names.ensures ∙ ap (quoted_names_in c.args.made.now.source c.args.made.now.catalog) c.as_slice-plain.ensures

pub returns-clause-count : goal.returns-clause-count
returns-clause-count c =
    let made = c.args.made.now in
    ap length c.in_ok-names.ensures ∙ length-map c.as_slice-plain.result.now (quoted_at made.source made.catalog) ∙ ap length c.as_slice-plain.ensures ∙ sym c.requires.many
