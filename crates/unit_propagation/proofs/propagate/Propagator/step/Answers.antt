use Rattle.std.proofs.Common.{◌+◌, take, drop}
use Rattle.unit_propagation.proofs.Visiting.{copied_on}
use Rattle.unit_propagation.proofs.propagate.Propagator.step.Goals as goal

pub returns-in-Some-clause-scanning : goal.returns-in-Some-clause-scanning
returns-in-Some-clause-scanning c =
    let s = c.args.scan.now in
    copied_on c.args.self.now.store c.args.self.now.trail c.args.self.now.watches (take s.kept s.list.items) (drop (s.next + 1) s.list.items) c.args.falsified c.next_watcher-watcher.result _ _ (drop s.next s.list.items) c.in-Some._found s.conflict _
    c.requires.scanning c.next_watcher-watcher.ensures c.in-Some.is c.keep.ensures.front c.keep.ensures.rest c.keep.ensures.conflict
