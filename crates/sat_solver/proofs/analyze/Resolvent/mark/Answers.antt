use Rattle.std.proofs.Common.{Bool, List, sym, ap, ◌∙◌, arith}
use Rattle.unit_propagation.specs.Literals.{opposite}
use Rattle.sat_solver.specs.Resolving.{is_seen}
use Rattle.unit_propagation.proofs.Scans.{has_first}
use Rattle.sat_solver.proofs.Counts.{ahead_place, seen_more, few_marked, marked_late, marked_early}
use Rattle.sat_solver.proofs.Covering.{covers_more}
use Rattle.sat_solver.proofs.analyze.Resolvent.mark.Goals as goal

pub place-place-requires-clause-is_false : goal.place-place-requires-clause-is_false
place-place-requires-clause-is_false c = has_first c.args.graph.now.trail.now.literals c.args.limit (opposite c.args.literal) c.requires.is_false

pub returns-then-place-graph-clause-counted : goal.returns-then-place-graph-clause-counted
returns-then-place-graph-clause-counted c =
    let t = c.args.graph.now.trail.now in
    let p = c.place-place.result in
    let lt = ahead_place t.literals c.args.limit p (opposite c.args.literal) c.requires.graph.apart c.requires.is_false c.place-place.ensures.within c.place-place.ensures.there in
    marked_early t.literals t.vars c.args.graph.now.boundary c.args.limit c.args.self.now.seen.items c.args.self.now.pending c.args.literal p c.requires.graph.apart c.requires.counted c.requires.below (sym (c.is_marked-seen.ensures ∙ ap (λ (x : List Bool). is_seen x c.args.literal) c.deref.ensures.value) ∙ c.if-seen.false) lt c.place-place.ensures.within c.place-place.ensures.there c.requires.fits c.if-place-graph.true

pub returns-then-place-graph-clause-seen : goal.returns-then-place-graph-clause-seen
returns-then-place-graph-clause-seen c x h =
    let t = c.args.graph.now.trail.now in
    let long = c.requires.counted.long in
    let below = c.requires.below in
    seen_more t.literals c.args.self.now.seen.items c.args.literal x c.requires.graph.apart (omega arith) (has_first t.literals c.args.limit (opposite c.args.literal) c.requires.is_false) h

pub overflow_add-self : goal.overflow_add-self
overflow_add-self c =
    let t = c.args.graph.now.trail.now in
    let few = few_marked t.literals t.vars c.args.graph.now.boundary c.args.limit c.args.self.now.seen.items c.args.self.now.pending c.requires.counted in
    let short = c.requires.graph.short in
    let fits = c.requires.fits in
    omega arith

pub returns-clause-counted : goal.returns-clause-counted
returns-clause-counted c =
    let t = c.args.graph.now.trail.now in
    let p = c.place-place.result in
    let lt = ahead_place t.literals c.args.limit p (opposite c.args.literal) c.requires.graph.apart c.requires.is_false c.place-place.ensures.within c.place-place.ensures.there in
    marked_late t.literals t.vars c.args.graph.now.boundary c.args.limit c.args.self.now.seen.items c.args.self.now.pending c.args.literal p c.requires.graph.apart c.requires.counted c.requires.below (sym (c.is_marked-seen.ensures ∙ ap (λ (x : List Bool). is_seen x c.args.literal) c.deref.ensures.value) ∙ c.if-seen.false) lt c.place-place.ensures.within c.place-place.ensures.there c.requires.fits c.if-place-graph.false

pub returns-clause-seen : goal.returns-clause-seen
returns-clause-seen c x h =
    let t = c.args.graph.now.trail.now in
    let long = c.requires.counted.long in
    let below = c.requires.below in
    seen_more t.literals c.args.self.now.seen.items c.args.literal x c.requires.graph.apart (omega arith) (has_first t.literals c.args.limit (opposite c.args.literal) c.requires.is_false) h

pub returns-then-place-graph-clause-covered : goal.returns-then-place-graph-clause-covered
returns-then-place-graph-clause-covered c = covers_more c.args.graph.now.trail.now.literals c.args.self.now.seen.items c.args.self.now.marked.items _ c.args.literal c.in_ok-push.ensures.items (has_first c.args.graph.now.trail.now.literals c.args.limit (opposite c.args.literal) c.requires.is_false)

pub returns-clause-covered : goal.returns-clause-covered
returns-clause-covered c = covers_more c.args.graph.now.trail.now.literals c.args.self.now.seen.items c.args.self.now.marked.items _ c.args.literal c.in_ok-push.ensures.items (has_first c.args.graph.now.trail.now.literals c.args.limit (opposite c.args.literal) c.requires.is_false)
