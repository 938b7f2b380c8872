use Rattle.pp_print.proofs.ReadBack.{Apart}
use Rattle.pp_print.proofs.RoundTrip.{read_back}
use Rattle.pp_print.proofs.laws.canonical_text_is_read.Goals as goal

pub returns : goal.returns
returns c =
    let law = c.set_apart_tokens_stand.ensures in
    let apart : Apart = record { spelled = law.spelled; quote = law.quote; brace = law.brace; hole = law.hole; close = law.close } in
    λ m h. read_back apart c.tokens_are_utf8.ensures m h
