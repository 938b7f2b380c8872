use Rattle.std.proofs.Common.{◌≡◌, inl, inr, ℕ, ◌/◌, ◌<◌, true, false, true≢false, List, [], ◌∷◌, ◌++◌, length, get_or, sym, ap, ◌∙◌, arith}
use Rattle.std.proofs.Math.ListN.{set}
use Rattle.std.proofs.lemmas.List.{length-append}
use Rattle.std.proofs.lemmas.Bool.{cases_Bool}
use Rattle.unit_propagation.specs.Literals.{opposite, has}
use Rattle.sat_solver.specs.Resolving.{is_seen}
use Rattle.unit_propagation.proofs.Marks.{has_at, get_front}
use Rattle.sat_solver.proofs.Covering.{and_left, and_right}
use Rattle.sat_solver.proofs.Moving.{moved_none, given, given_off, take_cases}
use Rattle.sat_solver.proofs.analyze.Resolvent.collect.Goals as goal

pub gather-init : goal.gather-init
gather-init c =
    let t = c.args.trail.now.literals in
    let seen = c.args.self.now.seen.items in
    let w = c.args.first in
    let e = c.in_ok-give.ensures in
    let held : has t (opposite w) ≡ true = and_left (has t (opposite w)) (is_seen seen w) c.requires.first in
    let on : is_seen seen w ≡ true = and_right (has t (opposite w)) (is_seen seen w) c.requires.first in
    let more = c.give.new.into.items in
    let next = c.give.new.self.seen.items in
    let a : is_seen seen w ≡ true → (more ≡ [] ++ w ∷ []) × (next ≡ set seen (w / 2) false) = λ q. ((e.moved q).0 ∙ ap (λ (l : List ℕ). l ++ w ∷ []) c.requires.empty, (e.moved q).1) in
    let b : is_seen seen w ≡ false → (more ≡ []) × (next ≡ seen) = λ q. ((e.not_there q).0 ∙ c.requires.empty, (e.not_there q).1) in
    let one = ap length (a on).0 in
    record {
      moved = given t seen seen [] w c.requires.apart (moved_none t seen) held (c.requires.below w held) next more a b;
      done = λ x h. absurd (true≢false (sym h));
      same = e.marked;
      resolutions = e.resolutions;
      head = ap (λ (l : List ℕ). get_or l 0 0) (a on).0;
      some = omega (arith, one);
    }

pub gather-preserved : goal.gather-preserved
gather-preserved c =
    let t = c.args.trail.now.literals in
    let seen = c.args.self.now.seen.items in
    let marked = c.args.self.now.marked.items in
    let i = c.gather.i in
    let inv = c.gather.invariant in
    let now = c.gather.self.seen.items in
    let list = c.gather.into.items in
    let w = c.literal_at-literal.result in
    let e = c.in_ok-give-2.ensures in
    let here : c.gather.self.marked.items ≡ marked = ap (λ (z : _). z.items) inv.same in
    let kept : length c.give.new.self.marked.items ≡ length marked = ap (λ (z : _). length z.items) c.in_ok-give.ensures.marked in
    let in_i : i < length marked = omega (arith, kept) in
    let ew : w ≡ get_or marked i 0 = c.literal_at-literal.ensures ∙ ap (λ (x : List ℕ). get_or x i 0) (c.deref.ensures.value ∙ here) in
    let held : has t (opposite w) ≡ true = c.requires.covers.proper w (ap (has marked) ew ∙ has_at marked i in_i) in
    let long = inv.moved.long in
    let below = c.requires.below w held in
    let more = c.give-in-gather.new.into.items in
    let next = c.give-in-gather.new.self.seen.items in
    let grown : 0 < length more = elim (cases_Bool (is_seen now w)) [
      | inl q ↦ (let z = ap length (e.moved q).0 in omega (arith, z, length-append list (w ∷ [])))
      | inr q ↦ (let z = ap length (e.not_there q).0 in let s = inv.some in omega (arith, z))
    ] in
    record {
      moved = given t seen now list w c.requires.apart inv.moved held (omega arith) next more e.moved e.not_there;
      done = λ x h. given_off t seen now list w c.requires.apart inv.moved held (omega arith) next more e.moved e.not_there x
          (elim (take_cases marked i x in_i h) [ inl q ↦ inl (q ∙ sym ew) | inr q ↦ inr (inv.done x q) ]);
      same = e.marked ∙ inv.same;
      some = grown;
      resolutions = e.resolutions ∙ inv.resolutions;
      head = elim (cases_Bool (is_seen now w)) [
        | inl q ↦ ap (λ (l : List ℕ). get_or l 0 0) (e.moved q).0 ∙ get_front list w 0 inv.some ∙ inv.head
        | inr q ↦ ap (λ (l : List ℕ). get_or l 0 0) (e.not_there q).0 ∙ inv.head
      ];
    }
