use Rattle.std.proofs.Common.{sym, ap, ◌∙◌}
use Rattle.fs_interpreter.specs.Places.{has}
use Rattle.fs_interpreter.proofs.HasLaws.{has_at, has_already, has_snoc}
use Rattle.fs_interpreter.proofs.written.push_new.Goals as goal

pub returns-then-last-i : goal.returns-then-last-i
returns-then-last-i c = λ j. has_already c.args.once.now.items c.args.i j
    (ap (has c.args.i) (sym c.deref.ensures.value) ∙ ap (λ n. has n c.deref.result.now) (sym c.if-last-i.true) ∙ has_at c.deref.result.now _ c.in-Some.last.now (sym c.in-Some.ensures.value))

pub returns : goal.returns
returns c = λ j. ap (has j) c.in_ok-push.ensures.items ∙ has_snoc c.args.once.now.items c.args.i j
