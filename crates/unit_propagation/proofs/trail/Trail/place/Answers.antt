use Rattle.std.proofs.Common.{◌≡◌, ℕ, ◌/◌, ◌<◌, true, List, length, get_or, sym, ap, ◌∙◌, subst}
use Rattle.unit_propagation.specs.Literals.{opposite, has}
use Rattle.unit_propagation.specs.Trails.{Way}
use Rattle.unit_propagation.proofs.Marks.{place_is}
use Rattle.unit_propagation.proofs.trail.Trail.place.Goals as goal

pub returns-clause-within : goal.returns-clause-within
returns-clause-within c =
    let s = c.self.inside in
    let w = c.args.literal in
    let h = subst (λ (y : Way). has y.literals (opposite w) ≡ true) (sym c.self.view_is) c.requires.is_false in
    let r = place_is s.holds.items s.places.items s.literals.items s.reasons.items s.starts.items s.done w c.self.invariant h in
    let e : c.place_of.result ≡ get_or s.places.items (w / 2) 0 = c.place_of.ensures ∙ ap (λ (x : List ℕ). get_or x (w / 2) 0) c.deref.ensures.value in
    subst (λ (y : Way). c.place_of.result < length y.literals) c.self.view_is (subst (λ (i : ℕ). i < length s.literals.items) (sym e) r.0)

pub returns-clause-there : goal.returns-clause-there
returns-clause-there c =
    let s = c.self.inside in
    let w = c.args.literal in
    let h = subst (λ (y : Way). has y.literals (opposite w) ≡ true) (sym c.self.view_is) c.requires.is_false in
    let r = place_is s.holds.items s.places.items s.literals.items s.reasons.items s.starts.items s.done w c.self.invariant h in
    let e : c.place_of.result ≡ get_or s.places.items (w / 2) 0 = c.place_of.ensures ∙ ap (λ (x : List ℕ). get_or x (w / 2) 0) c.deref.ensures.value in
    subst (λ (y : Way). get_or y.literals c.place_of.result 0 ≡ opposite w) c.self.view_is (subst (λ (i : ℕ). get_or s.literals.items i 0 ≡ opposite w) (sym e) r.1)
