use Rattle.std.proofs.Common.{◌∷◌, [], ◌++◌, ap, ◌∙◌}
use Rattle.ensured_entry.proofs.probing.with_probe.Goals as goal

pub returns : goal.returns
returns c = record {
  last = c.in_ok-probe.probe;
  are = c.in_ok-push.ensures.ok ∙ ap (λ es. es ++ c.in_ok-probe.probe ∷ []) c.in_ok-all.ensures;
  probe = c.in_ok-probe.ensures;
}
