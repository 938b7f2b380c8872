use Rattle.std.proofs.Common.{sym, ap, subst, ◌∙◌}
use Rattle.fs_semantics.specs.FileTree.{parent}
use Rattle.fs_interpreter.specs.Places.{HasPath, Keeps, with_path}
use Rattle.fs_replay.proofs.CoverLaws.{keeps_more}
use Rattle.fs_replay.proofs.cover.cover_path.Goals as goal

pub add_path-requires-clause-above : goal.add_path-requires-clause-above
add_path-requires-clause-above c = subst (λ q. HasPath c.cover_above.new.table (parent q)) (sym c.in_ok-copy.ensures) c.in_ok-cover_above.ensures.there

pub returns-clause-there : goal.returns-clause-there
returns-clause-there c =
    subst (λ t. HasPath t c.args.p.now) (sym (c.in_ok-add_path.ensures.ok ∙ ap (with_path c.cover_above.new.table) c.in_ok-copy.ensures)) (c.additions.ensures.path c.cover_above.new.table c.args.p.now)

pub returns-clause-keeps : goal.returns-clause-keeps
returns-clause-keeps c =
    keeps_more c.args.table.now c.cover_above.new.table c.add_path.new.self c.cover_above.ensures.keeps
    (subst (Keeps c.cover_above.new.table) (sym c.in_ok-add_path.ensures.ok) (c.additions.ensures.paths c.cover_above.new.table c.in_ok-copy.field-0))
