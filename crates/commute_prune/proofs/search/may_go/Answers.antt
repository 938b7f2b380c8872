use Rattle.std.proofs.Common.{ap, ◌∙◌, nat_eq}
use Rattle.commute_prune.specs.Steps.{lets}
use Rattle.commute_prune.proofs.SearchLaws.{told}
use Rattle.commute_prune.proofs.search.may_go.Goals as goal

pub returns-clause-may : goal.returns-clause-may
returns-clause-may c = λ kept below marked h.
    ap (λ n. nat_eq c.stop-at.result n) c.count.ensures.count
    ∙ told (lets c.args.end c.args.order.now c.args.clear.now) c.args.order.now.count kept c.args.stays.now marked c.args.k c.args.seen.now c.stop-at.result h
    c.requires.k c.stop-at.ensures.few c.stop-at.ensures.passed c.stop-at.ensures.stops below
