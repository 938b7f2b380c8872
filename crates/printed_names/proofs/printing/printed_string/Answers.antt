use Rattle.std.proofs.Common.{sym, ap, ◌++◌, ◌∙◌, map-id}
use Rattle.std.specs.Prelude.{encode_utf8_all, encode_utf8}
use Rattle.std.proofs.lemmas.Str.{encodes-chars}
use Rattle.std.proofs.lemmas.Iterator.{YieldsList-from_chars}
use Rattle.std.proofs.lemmas.Iterator.Consumers.{YieldsList-end}
use Rattle.printed_names.specs.Printed.{printed}
use Rattle.printed_names.proofs.Lines.{printed_more}
use Rattle.printed_names.proofs.printing.printed_string.Goals as goal

pub loop-c-preserved : goal.loop-c-preserved
loop-c-preserved c = c.in_ok-push_char.ensures ∙ (ap (λ text. text ++ printed (encode_utf8 c.in-Some.c)) c.loop-c.invariant ∙ sym (printed_more c.loop-c.yielded c.in-Some.c))

pub returns : goal.returns
returns c =
    let end = YieldsList-end (YieldsList-from_chars c.args.name.now c.utf8.name cc) c.loop-c.yielded _ c.loop-c.yielded_by _ _ c.in-None.is c.next.ensures.steps in
    c.loop-c.invariant ∙ ap printed (ap encode_utf8_all (sym (map-id c.loop-c.yielded) ∙ end.0) ∙ encodes-chars c.args.name.now c.utf8.name)
