use Rattle.std.proofs.Common.{sym, ap, subst, ◌∙◌}
use Rattle.fs_interpreter.specs.Places.{HasContent, with_content}
use Rattle.fs_replay.proofs.cover.cover_content.Goals as goal

pub returns-clause-there : goal.returns-clause-there
returns-clause-there c = subst (λ t. HasContent t c.args.c.now) (sym (c.in_ok-add_content.ensures.ok ∙ ap (with_content c.args.table.now) c.in_ok-copy.ensures)) (c.additions.ensures.content c.args.table.now c.args.c.now)
