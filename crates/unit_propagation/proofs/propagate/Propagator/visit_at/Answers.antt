use Rattle.std.proofs.Common.{◌≡◌, None, ℕ, ◌-◌, ◌<◌, ◌≤◌, true, List, [], ◌∷◌, ◌++◌, length, get_or, rules, refl, sym, ap, ◌∙◌, subst, arith}
use Rattle.std.proofs.Math.ListN.{set}
use Rattle.unit_propagation.specs.Literals.{opposite, has}
use Rattle.unit_propagation.specs.declared.watches.Watcher.{Watcher}
use Rattle.unit_propagation.specs.Trails.{Way}
use Rattle.unit_propagation.specs.Watching.{clause, Scanning, Continues}
use Rattle.unit_propagation.proofs.Visiting.{after_met, after_moved, after_forced, side_stands, place_stands}
use Rattle.unit_propagation.proofs.Extending.{continues_forced, continues_moved}
use Rattle.unit_propagation.proofs.propagate.Propagator.visit_at.Goals as goal

pub holds-holds-requires : goal.holds-holds-requires
holds-holds-requires c =
    let f = c.args.self.now.store in
    let n = c.args.watcher.clause in
    c.requires.sound.within n _ c.requires.entry.there (side_stands (clause f n) c.clause-lits.result.now c.args.side c.clause-lits.ensures c.requires.entry.two c.requires.near)

pub returns-then-holds-clause-visits : goal.returns-then-holds-clause-visits
returns-then-holds-clause-visits c front rest h =
    let f = c.args.self.now.store in
    let n = c.args.watcher.clause in
    let lits = c.clause-lits.result.now in
    after_met f c.args.self.now.trail c.args.self.now.watches front rest c.args.falsified c.args.watcher (get_or lits (1 - c.args.side) 0) h
    (side_stands (clause f n) lits c.args.side c.clause-lits.ensures c.requires.entry.two c.requires.near)
    (sym c.holds-holds.ensures ∙ c.if-holds.true)

pub force-requires-clause-below : goal.force-requires-clause-below
force-requires-clause-below c =
    let f = c.args.self.now.store in
    let n = c.args.watcher.clause in
    c.requires.sound.within n _ c.requires.entry.there (side_stands (clause f n) c.clause-lits.result.now c.args.side c.clause-lits.ensures c.requires.entry.two c.requires.near)

pub bounds-lits-k : goal.bounds-lits-k
bounds-lits-k c = (c.in-Some.ensures.some c.in-Some.k refl).1

pub shift-requires-clause-below : goal.shift-requires-clause-below
shift-requires-clause-below c =
    let f = c.args.self.now.store in
    let n = c.args.watcher.clause in
    let k = c.in-Some.k in
    let lits = c.clause-lits.result.now in
    let free = c.in-Some.ensures.some k refl in
    let lt = c.requires.sound.within n (get_or lits k 0) c.requires.entry.there (place_stands (clause f n) lits k c.clause-lits.ensures free.1) in
    let long = c.requires.sound.long in
    omega arith

pub returns-in_ok-force-in-None-clause-visits : goal.returns-in_ok-force-in-None-clause-visits
returns-in_ok-force-in-None-clause-visits c front rest h =
    let f = c.args.self.now.store in
    let t = c.args.self.now.trail in
    let n = c.args.watcher.clause in
    let lits = c.clause-lits.result.now in
    let e = c.clause-lits.ensures in
    after_forced f t c.args.self.now.watches front rest c.args.falsified c.args.watcher c.args.side c.requires.near c.requires.here (get_or lits (1 - c.args.side) 0) c.force.new.trail c.in_ok-force-in-None.field-0
    c.requires.entry
    (ap (λ (x : List ℕ). get_or x (1 - c.args.side) 0) e)
    (side_stands (clause f n) lits c.args.side e c.requires.entry.two c.requires.near)
    (sym c.holds-holds.ensures ∙ c.if-holds.false)
    (subst (λ (x : List ℕ). (k : ℕ) → 2 ≤ k → k < length x → has t.literals (opposite (get_or x k 0)) ≡ true) e (c.in-None.ensures.none refl))
    c.in_ok-force-in-None.ensures h

pub returns-in_ok-shift-in-Some-clause-visits : goal.returns-in_ok-shift-in-Some-clause-visits
returns-in_ok-shift-in-Some-clause-visits c front rest h =
    let f = c.args.self.now.store in
    let t = c.args.self.now.trail in
    let w = c.args.self.now.watches in
    let n = c.args.watcher.clause in
    let k = c.in-Some.k in
    let lits = c.clause-lits.result.now in
    let e = c.clause-lits.ensures in
    let free = c.in-Some.ensures.some k refl in
    let same : get_or lits k 0 ≡ get_or (clause f n) k 0 = ap (λ (x : List ℕ). get_or x k 0) e in
    let b = get_or lits (1 - c.args.side) 0 in
    let u : Watcher = record { clause = n; blocker = b } in
    let lt = c.requires.sound.within n (get_or lits k 0) c.requires.entry.there (place_stands (clause f n) lits k e free.1) in
    let long = c.requires.sound.long in
    subst (λ (x : Way). Scanning c.shift.new.self.store x c.shift.new.self.watches front rest c.args.falsified None) (sym c.in_ok-shift-in-Some.ensures.trail)
    (after_moved f t w front rest c.args.falsified c.args.watcher c.args.side c.requires.near c.requires.here k b c.shift.new.self.store c.shift.new.self.watches
    c.requires.entry
    (side_stands (clause f n) lits c.args.side e c.requires.entry.two c.requires.near)
    free.0
    (subst (λ (x : List ℕ). k < length x) e free.1)
    (ap (λ (x : ℕ). has t.literals (opposite x)) (sym same) ∙ free.2)
    (omega arith)
    c.in_ok-shift-in-Some.ensures.store
    (c.in_ok-shift-in-Some.ensures.watches ∙ ap (λ (x : ℕ). set w x (get_or w x [] ++ u ∷ [])) same)
    h)

pub offset_bounds-lits-k : goal.offset_bounds-lits-k
offset_bounds-lits-k c = let h : c.in-Some.k < length c.clause-lits.result.now = (c.in-Some.ensures.some c.in-Some.k refl).1 in search rules

pub returns-in_ok-force-in-None-clause-goes : goal.returns-in_ok-force-in-None-clause-goes
returns-in_ok-force-in-None-clause-goes c = continues_forced c.args.self.now.store c.args.self.now.trail c.force.new.trail _ _ c.in_ok-force-in-None.field-0 c.in_ok-force-in-None.ensures

pub returns-in_ok-shift-in-Some-clause-goes : goal.returns-in_ok-shift-in-Some-clause-goes
returns-in_ok-shift-in-Some-clause-goes c =
    let f = c.args.self.now.store in
    let n = c.args.watcher.clause in
    let k = c.in-Some.k in
    let two = c.requires.entry.two in
    let near = c.requires.near in
    let inside : k < length (clause f n) = subst (λ (x : List ℕ). k < length x) c.clause-lits.ensures (c.in-Some.ensures.some k refl).1 in
    subst (λ (x : Way). Continues f c.args.self.now.trail c.shift.new.self.store x) (sym c.in_ok-shift-in-Some.ensures.trail) (continues_moved f c.shift.new.self.store c.args.self.now.trail n c.args.side k c.requires.entry.there (omega arith) inside c.in_ok-shift-in-Some.ensures.store)
