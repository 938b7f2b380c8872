use Rattle.std.proofs.Common.{[], take, drop, arith}
use Rattle.std.proofs.Math.ListN.{length-set}
use Rattle.std.proofs.lemmas.List.{drop_all}
use Rattle.unit_propagation.proofs.Extending.{continues_on}
use Rattle.unit_propagation.proofs.Visiting.{all_visited}
use Rattle.unit_propagation.proofs.propagate.Propagator.propagate_literal.Goals as goal

pub scan-preserved : goal.scan-preserved
scan-preserved c =
    let i = c.scan.invariant in
    let e = c.in_ok-step.ensures in
    let within = c.remains.ensures.more c.scan-test.true in
    let next = e.next in
    let long = e.long in
    record {
      order = e.order;
      long = omega arith;
      goes = continues_on _ _ _ _ _ _ i.goes e.goes;
      scanning = e.scanning;
    }

pub finish-requires : goal.finish-requires
finish-requires c =
    let before = c.requires.scanning.1.sound.long in
    let now = c.scan.invariant.scanning.1.sound.long in
    let vars = c.scan.invariant.goes.extends.vars in
    let below = c.requires.below in
    let set_length = length-set c.args.self.now.watches c.args.falsified [] in
    omega arith

pub returns-clause-ends : goal.returns-clause-ends
returns-clause-ends c =
    let s = c.scan.scan in
    let before = c.requires.scanning.1.sound.long in
    let now = c.scan.invariant.scanning.1.sound.long in
    let vars = c.scan.invariant.goes.extends.vars in
    let below = c.requires.below in
    let set_length = length-set c.args.self.now.watches c.args.falsified [] in
    all_visited c.scan.self.store c.scan.self.trail c.scan.self.watches c.finish.new.watches (take s.kept s.list.items) (drop s.next s.list.items) c.args.falsified s.conflict c.finish.result c.scan.invariant.scanning
    (drop_all s.next s.list.items (c.remains.ensures.none c.scan-test.false)) (omega arith) c.finish.ensures.watches c.finish.ensures.conflict
