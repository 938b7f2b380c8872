use Rattle.std.specs.Map.Iter.{deref}
use Rattle.std.proofs.lemmas.Map.Iter.{rest_more}
use Rattle.effect_sets.specs.Members.{members}
use Rattle.commuting_parts.proofs.SetLaws.{one_stands}
use Rattle.commuting_parts.proofs.apart.stand_where_made.Goals as goal

pub loop-p-preserved : goal.loop-p-preserved
loop-p-preserved c more =
    let next = rest_more deref c.loop-p.p-iterator c.next.new.self c.next.result c.in-Some.p c.in-Some.is c.next.ensures.steps in
    c.loop-p.invariant (one_stands c.loop-p.p-iterator c.next.new.self c.in-Some.p.now (members c.args.reads.now) (members c.args.folders.now) next
    (c.stands_if_read.ensures c.if-not-stands_if_read.false) more)
