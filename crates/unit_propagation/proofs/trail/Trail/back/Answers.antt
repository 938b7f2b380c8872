use Rattle.std.proofs.Common.{◌≡◌, ℕ, ◌<◌, false, not, ◌&&◌, List, length, take, drop, get_or, sym, ap, ◌∙◌, subst}
use Rattle.unit_propagation.specs.Literals.{has}
use Rattle.unit_propagation.specs.Trails.{Way, IsKept}
use Rattle.unit_propagation.proofs.Unmarks.{kept_back}
use Rattle.unit_propagation.proofs.trail.Trail.back.Goals as goal

pub invariant_of-self : goal.invariant_of-self
invariant_of-self c =
    let s = c.self.inside in
    let k = c.args.level in
    let b = get_or s.starts.items k 0 in
    let in_k : k < length s.starts.items = subst (λ (y : Way). k < length y.starts) (sym c.self.view_is) c.requires in
    let e : c.place_of-start.result ≡ b = c.place_of-start.ensures ∙ ap (λ (x : List ℕ). get_or x k 0) c.deref.ensures.value in
    let gone : c.behind.result.now ≡ drop b s.literals.items = c.behind.ensures ∙ ap (λ (x : List ℕ). drop c.place_of-start.result x) c.deref-2.ensures.value ∙ ap (λ (n : ℕ). drop n s.literals.items) e in
    let marks : (w : ℕ) → get_or c.unmark.new.holds.items w false ≡ (get_or s.holds.items w false && not (has (drop b s.literals.items) w)) =
    λ w. c.unmark.ensures.marks w ∙ ap (λ (x : List ℕ). get_or s.holds.items w false && not (has x w)) gone in
    let h = kept_back s.holds.items c.unmark.new.holds.items s.places.items s.literals.items s.reasons.items s.starts.items s.done k c.self.invariant in_k c.unmark.ensures.long marks in
    let literals : c.truncate.new.self.items ≡ take b s.literals.items = c.truncate.ensures.items ∙ ap (λ (n : ℕ). take n s.literals.items) e in
    let reasons : c.truncate-2.new.self.items ≡ take b s.reasons.items = c.truncate-2.ensures.items ∙ ap (λ (n : ℕ). take n s.reasons.items) e in
    let starts : c.truncate-3.new.self.items ≡ take k s.starts.items = c.truncate-3.ensures.items in
    subst (λ (x : ℕ). IsKept c.unmark.new.holds.items s.places.items c.truncate.new.self.items c.truncate-2.new.self.items c.truncate-3.new.self.items x) (sym e)
    (subst (λ (x : List ℕ). IsKept c.unmark.new.holds.items s.places.items x c.truncate-2.new.self.items c.truncate-3.new.self.items b) (sym literals)
    (subst (λ (x : List ℕ). IsKept c.unmark.new.holds.items s.places.items (take b s.literals.items) x c.truncate-3.new.self.items b) (sym reasons)
    (subst (λ (x : List ℕ). IsKept c.unmark.new.holds.items s.places.items (take b s.literals.items) (take b s.reasons.items) x b) (sym starts) h)))
