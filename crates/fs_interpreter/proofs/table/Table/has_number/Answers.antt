use Rattle.std.proofs.Common.{ap, ◌∙◌, arith}
use Rattle.std.specs.Str.{bytes_eq}
use Rattle.fs_interpreter.proofs.TableLaws.{content_seen, no_content_seen}
use Rattle.fs_interpreter.proofs.table.Table.has_number.Goals as goal

pub returns-then-n-len : goal.returns-then-n-len
returns-then-n-len c =
    content_seen c.self.inside c.args.self.now c.args.n c.index.result.now c.as_str.result.now c.args.c.now c.eq.result c.self.view_is (omega arith) c.index.ensures
    (c.eq.ensures ∙ ap (bytes_eq c.as_str.result.now) c.as_str-then-n-len.ensures) c.as_str.ensures

pub returns-else-n-len : goal.returns-else-n-len
returns-else-n-len c = ((λ h. cc), (λ h. absurd (no_content_seen c.self.inside c.args.self.now c.args.n c.args.c.now c.self.view_is (omega arith) h)))
