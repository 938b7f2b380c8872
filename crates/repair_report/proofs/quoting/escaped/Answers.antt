use Rattle.std.proofs.Common.{sym, ap, ◌∙◌, map-id}
use Rattle.std.specs.Prelude.{encode_utf8_all}
use Rattle.std.specs.List.{flat_map}
use Rattle.std.proofs.lemmas.Iterator.{YieldsList-from_chars}
use Rattle.std.proofs.lemmas.Iterator.Consumers.{YieldsList-end}
use Rattle.repair_report.specs.Lines.{escaped_char}
use Rattle.repair_report.proofs.QuoteLaws.{pushed}
use Rattle.repair_report.proofs.quoting.escaped.Goals as goal

pub loop-c-preserved : goal.loop-c-preserved
loop-c-preserved c = pushed _ _ c.loop-c.yielded c.in-Some.c c.loop-c.invariant c.in_ok-push_escaped.ensures

pub returns : goal.returns
returns c =
    let end = YieldsList-end (YieldsList-from_chars c.args.title.now c.utf8.title cc) c.loop-c.yielded _ c.loop-c.yielded_by _ _ c.in-None.is c.next.ensures.steps in
    c.loop-c.invariant ∙ ap (λ text. encode_utf8_all (flat_map escaped_char text)) (sym (map-id c.loop-c.yielded) ∙ end.0)
