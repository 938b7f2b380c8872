use Rattle.std.proofs.Common.{◌+◌, take, drop, sym, ◌∙◌}
use Rattle.unit_propagation.proofs.Visiting.{kept_on, gone_on, false_on, met_on}
use Rattle.unit_propagation.proofs.propagate.Propagator.step_on.Goals as goal

pub returns-then-holds-clause-scanning : goal.returns-then-holds-clause-scanning
returns-then-holds-clause-scanning c =
    let s = c.args.scan.now in
    met_on c.args.self.now.store c.args.self.now.trail c.args.self.now.watches (take s.kept s.list.items) (drop (s.next + 1) s.list.items) c.args.falsified c.args.watcher _ _ _
    c.requires.scanning c.requires.scanning.1.rests.0.stands (sym c.holds-holds.ensures ∙ c.if-holds.true) c.keep.ensures.front c.keep.ensures.rest (c.keep.ensures.conflict ∙ c.requires.none)

pub returns-in-Gone-clause-scanning : goal.returns-in-Gone-clause-scanning
returns-in-Gone-clause-scanning c =
    let s = c.args.scan.now in
    gone_on c.visit.new.self.store c.visit.new.self.trail c.visit.new.self.watches (take s.kept s.list.items) (drop (s.next + 1) s.list.items) c.args.falsified c.args.watcher c.in_ok-visit.field-0 _
    (c.in_ok-visit.ensures.visits _ _ c.requires.scanning) c.in-Gone.is c.requires.none

pub returns-in-Kept-clause-scanning : goal.returns-in-Kept-clause-scanning
returns-in-Kept-clause-scanning c =
    let s = c.args.scan.now in
    kept_on c.visit.new.self.store c.visit.new.self.trail c.visit.new.self.watches (take s.kept s.list.items) (drop (s.next + 1) s.list.items) c.args.falsified c.args.watcher c.in_ok-visit.field-0 c.in-Kept.blocker _ _ _
    (c.in_ok-visit.ensures.visits _ _ c.requires.scanning) c.in-Kept.is c.keep-in-Kept.ensures.front c.keep-in-Kept.ensures.rest (c.keep-in-Kept.ensures.conflict ∙ c.requires.none)

pub returns-in-False-clause-scanning : goal.returns-in-False-clause-scanning
returns-in-False-clause-scanning c =
    let s = c.args.scan.now in
    false_on c.visit.new.self.store c.visit.new.self.trail c.visit.new.self.watches (take s.kept s.list.items) (drop (s.next + 1) s.list.items) c.args.falsified c.args.watcher c.in_ok-visit.field-0 _ _
    (c.in_ok-visit.ensures.visits _ _ c.requires.scanning) c.in-False.is c.keep-in-False.ensures.front c.keep-in-False.ensures.rest
