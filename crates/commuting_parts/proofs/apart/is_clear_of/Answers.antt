use Rattle.std.proofs.Common.{sym, ap, ◌∙◌}
use Rattle.std.proofs.lemmas.Bool.{and_parts}
use Rattle.fs_semantics.specs.FileTree.{parent, is_among}
use Rattle.effect_sets.specs.Members.{members}
use Rattle.effect_sets.proofs.ClearLaws.{clear_of_children}
use Rattle.commuting_parts.proofs.apart.is_clear_of.Goals as goal

pub returns : goal.returns
returns c h =
    let all = and_parts c.both.result c.both-2.result (sym c.both-3.ensures ∙ h) in
    let first = and_parts c.is_disjoint-kept.result c.writes_are_clear-writes.result (sym c.both.ensures ∙ all.0) in
    let second = and_parts c.stand_where_made-made.result c.is_disjoint-children.result (sym c.both-2.ensures ∙ all.1) in
    record {
      kept = λ q w. c.is_disjoint-kept.ensures.0 first.0 q (ap (is_among q) c.writes.ensures ∙ w);
      writes = c.writes_are_clear-writes.ensures first.1;
      folders_made = λ q m r. c.stand_where_made-made.ensures second.0 q (ap (is_among q) c.folders.ensures ∙ m) (ap (is_among q) c.reads.ensures ∙ r);
      children = λ q m.
          let law = clear_of_children (members c.parents.result.now) (members c.children.result.now) c.args.f.now.writes c.args.f.now.folders c.parents.ensures in
          ap (is_among (parent q)) (sym c.children.ensures) ∙ law.0 (c.is_disjoint-children.ensures.0 second.1) q m;
    }
