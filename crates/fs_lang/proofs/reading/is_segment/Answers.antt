use Rattle.std.proofs.Common.{subst, sym}
use Rattle.std.specs.Prelude.{◌↔◌, IsTrue}
use Rattle.fs_semantics.specs.FileTree.{IsSegment}
use Rattle.fs_lang.proofs.Bytes.{utf8_bytes}
use Rattle.fs_lang.proofs.PathLaws.{segment_exactly}
use Rattle.fs_lang.proofs.reading.is_segment.Goals as goal

pub returns : goal.returns
returns c = subst (λ b. IsTrue b ↔ IsSegment c.args.text.now) (sym c.is_whole.ensures) (segment_exactly c.args.text.now (utf8_bytes c.args.text.now c.utf8.text))
