use Rattle.std.proofs.Common.{◌≡◌, OnOk, ap, ◌∙◌, subst}
use Rattle.compiled_relations.specs.Links.{kept_behind, related_pairs, link_pairs, with_relations}
use Rattle.compiled_relations.proofs.LinkLaws.{kept_same}
use Rattle.compiled_relations.proofs.links.add_links.Goals as goal

pub returns : goal.returns
returns c =
    let kept : c.as_slice-2.result.now ≡ kept_behind (related_pairs c.args.catalog.now) (link_pairs c.args.catalog.now) =
    c.as_slice-2.ensures
    ∙ (c.in_ok-kept.ensures
    ∙ (ap (kept_behind c.in_ok-related.related) (c.as_slice.ensures ∙ c.in_ok-pairs.ensures)
    ∙ kept_same c.in_ok-related.related (related_pairs c.args.catalog.now) (link_pairs c.args.catalog.now) c.in_ok-related.ensures)) in
    subst (λ pairs. OnOk c.add_relations.result (c.add_relations.new.catalog ≡ with_relations c.args.catalog.now pairs)) kept c.add_relations.ensures
