use Rattle.std.proofs.Common.{◌≡◌, ℕ, ◌*◌, ◌/◌, ◌<◌, true, false, List, [], ◌∷◌, ◌++◌, length, sym, subst, arith}
use Rattle.std.proofs.Math.ListN.{set}
use Rattle.unit_propagation.specs.Literals.{opposite, has}
use Rattle.unit_propagation.specs.Trails.{Way, IsKept}
use Rattle.unit_propagation.proofs.Marks.{kept_more}
use Rattle.unit_propagation.proofs.trail.Trail.set.Goals as goal

pub invariant_of-self-2 : goal.invariant_of-self-2
invariant_of-self-2 c =
    let s = c.self.inside in
    let w = c.args.literal in
    let r = c.args.number in
    let P = λ (y : Way). (w < 2 * y.vars) × (has y.literals w ≡ false) × (has y.literals (opposite w) ≡ false) in
    let h : (w < 2 * length s.places.items) × (has s.literals.items w ≡ false) × (has s.literals.items (opposite w) ≡ false) = subst P (sym c.self.view_is) (c.requires.below, c.requires.free, c.requires.open) in
    let k = kept_more s.holds.items s.places.items s.literals.items s.reasons.items s.starts.items s.done w r c.self.invariant h.0 h.1 h.2 (let few = c.in_ok-place.ensures.few in let same = c.in_ok-place.ensures.place in omega arith) in
    subst (λ (x : ℕ). IsKept (set s.holds.items w true) (set s.places.items (w / 2) x) c.push_both.new.literals.items c.push_both.new.reasons.items s.starts.items s.done) (sym c.in_ok-place.ensures.place)
    (subst (λ (x : List ℕ). IsKept (set s.holds.items w true) (set s.places.items (w / 2) (length s.literals.items)) x c.push_both.new.reasons.items s.starts.items s.done) (sym c.in_ok-place.ensures.literals)
    (subst (λ (x : List ℕ). IsKept (set s.holds.items w true) (set s.places.items (w / 2) (length s.literals.items)) (s.literals.items ++ w ∷ []) x s.starts.items s.done) (sym c.in_ok-place.ensures.reasons) k))
