-- Laws of marks that are taken away.
use Rattle.std.proofs.Common.{◌≡◌, ℕ, ◌+◌, ◌*◌, ◌/◌, ◌<◌, Bool, true, false, not, ◌||◌, ◌&&◌, List, length, take, drop, get_or, refl, sym, ap, ◌∙◌, subst, arith}
use Rattle.std.specs.Prelude.{◌==◌}
use Rattle.std.proofs.lemmas.List.{get_or-take, get_or-drop, length-take, length-drop, take-append-drop}
use Rattle.std.proofs.lemmas.List.Folds.{list_any-append}
use Rattle.unit_propagation.specs.Literals.{has}
use Rattle.unit_propagation.specs.Trails.{IsKept}
use Rattle.unit_propagation.proofs.Marks.{standing, apart}

module _ (holds new : List Bool) (places literals reasons starts : List ℕ) (done level : ℕ) (k : IsKept holds places literals reasons starts done) (in_level : level < length starts)
    (long : length new ≡ length holds) (marks : (w : ℕ) → get_or new w false ≡ (get_or holds w false && not (has (drop (get_or starts level 0) literals) w))) where
  -- where the level begins
  abbrev b : ℕ
  b = get_or starts level 0

  -- a level begins ahead of the end of the trail
  below : b < length literals
  below = (k.rising level in_level).0

  -- a literal holds where it stands in the front of the trail or behind it
  split : (w : ℕ) → has literals w ≡ (has (take b literals) w || has (drop b literals) w)
  split w = ap (λ t. has t w) (sym (take-append-drop b literals)) ∙ list_any-append (λ x. w == x) (take b literals) (drop b literals)

  -- what stands in front doesn't stand behind
  not_both : (w : ℕ) → has (take b literals) w ≡ true → has (drop b literals) w ≡ true → ⊥
  not_both w p q =
      let s = standing (take b literals) w p in
      let r = standing (drop b literals) w q in
      let ls = s.within in
      let lr = r.within in
      let lt = length-take b literals in
      let ld = length-drop b literals in
      let front : s.place < b = omega (arith, lt) in
      let es : get_or literals s.place 0 ≡ w = sym (get_or-take b literals s.place 0 front) ∙ s.is in
      let er : get_or literals (b + r.place) 0 ≡ w = sym (get_or-drop b literals r.place 0) ∙ r.is in
      let same : s.place ≡ b + r.place = apart holds places literals reasons starts done k s.place (b + r.place) (let z = below in omega (arith, lt)) (omega (arith, ld)) (ap (λ x. x / 2) (es ∙ sym er)) in
      omega arith

  -- after going back just the literals of the front are marked
  marks_back : (w : ℕ) → get_or new w false ≡ has (take b literals) w
  marks_back w = marks w ∙ ap (λ v. v && not (has (drop b literals) w)) (k.marks w ∙ split w) ∙ by (has (take b literals) w) (has (drop b literals) w) (not_both w)
    where
      by : (x y : Bool) → (x ≡ true → y ≡ true → ⊥) → ((x || y) && not y) ≡ x
      by true true n = absurd (n refl refl)
      by true false n = refl
      by false true n = refl
      by false false n = refl

  -- after going back to where a level began, marks and places are those of the literals that still hold
  pub kept_back : IsKept new places (take b literals) (take b reasons) (take level starts) b
  kept_back =
      let lt = length-take b literals in
      let lr = length-take b reasons in
      let ls = length-take level starts in
      let z = below in
      let q1 = k.long_holds in
      let q2 = k.long_reasons in
      let q3 = k.short in
      record {
        small = k.small;
        long_holds = long ∙ q1;
        long_reasons = omega (arith, lt, lr, q2, z);
        short = omega (arith, lt, q3);
        within = λ p h. subst (λ x. x < 2 * length places) (sym (get_or-take b literals p 0 (omega (arith, lt)))) (k.within p (omega (arith, lt)));
        marks = marks_back;
        placed = λ p h. ap (λ x. get_or places (x / 2) 0) (get_or-take b literals p 0 (omega (arith, lt))) ∙ k.placed p (omega (arith, lt));
        rising = λ j h.
            let lj : j < level = omega (arith, ls) in
            let e = get_or-take level starts j 0 lj in
            let up = (k.rising level in_level).1 j lj in (
              omega (arith, lt, e, up, z),
              λ i l. let ei = get_or-take level starts i 0 (omega arith) in let u = (k.rising j (omega arith)).1 i l in omega (arith, e, ei, u),
            );
        reached = omega (arith, lt, z);
      }
