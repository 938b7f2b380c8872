use Rattle.std.proofs.Common.{◌≡◌, true, sym, subst}
use Rattle.fs_semantics.specs.FileTree.{IsSegment}
use Rattle.fs_lang.proofs.Bytes.{utf8_bytes}
use Rattle.fs_lang.proofs.NameLaws.{segment_proper}
use Rattle.fs_lang.proofs.names.segment.Goals as goal

pub returns-clause-proper : goal.returns-clause-proper
returns-clause-proper c =
    let is : c.is_name.result ≡ true = cc in
    subst IsSegment (sym c.in_ok-segment_of.ensures) (segment_proper c.args.name.now (c.is_name.ensures.0 is) (utf8_bytes c.args.name.now c.utf8.name))
