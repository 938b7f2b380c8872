use Rattle.std.proofs.Common.{sym, ap, subst, ◌∙◌}
use Rattle.node_label.specs.Labels.{IsNodeLine}
use Rattle.node_label.specs.Spelled.{line_of}
use Rattle.node_label.proofs.LabelLaws.{line_is}
use Rattle.node_label.proofs.labels.node_line.Goals as goal

pub returns-clause-line : goal.returns-clause-line
returns-clause-line c = record {
  manifest = c.in_ok-manifest.manifest;
  parsed = c.in_ok-manifest.ensures.parsed;
  is = λ levels facts site h.
      subst (IsNodeLine site) (sym (c.in_ok-line.ensures ∙ ap (line_of c.args.node.now) c.as_slice.ensures)) (line_is c.in_ok-manifest.manifest levels facts c.args.node.now site h);
}
