use Rattle.std.proofs.Common.{◌+◌, ◌++◌, drop, ap, sym, ◌∙◌}
use Rattle.compiled_relations.specs.Links.{kept_behind}
use Rattle.compiled_relations.proofs.LinkLaws.{next_skipped, next_kept}
use Rattle.compiled_relations.proofs.links.kept_behind.Goals as goal

pub loop-pair-preserved-then-stands_between : goal.loop-pair-preserved-then-stands_between
loop-pair-preserved-then-stands_between c =
    next_skipped c.loop-pair.kept c.loop-pair.seen c.args.pairs.now (kept_behind c.args.before c.args.pairs.now) c.loop-pair.pair-index (0, 0) c.loop-pair-test.true c.loop-pair.invariant
    (sym c.stands_between.ensures ∙ c.if-stands_between.true)

pub loop-pair-preserved : goal.loop-pair-preserved
loop-pair-preserved c =
    ap (λ xs. xs ++ kept_behind c.insert.new.self (drop (c.loop-pair.pair-index + 1) c.args.pairs.now)) c.in_ok-push.ensures.ok
    ∙ next_kept c.loop-pair.kept c.loop-pair.seen c.args.pairs.now (kept_behind c.args.before c.args.pairs.now) c.loop-pair.pair-index (0, 0) c.loop-pair-test.true c.loop-pair.invariant c.insert.new.self
    (sym c.stands_between.ensures ∙ c.if-stands_between.false) c.in_ok-insert.ensures
