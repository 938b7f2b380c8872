-- What resolving a literal away that became false ahead of the last level does to the resolvent.
use Rattle.std.proofs.Common.{◌≡◌, ◌⊎◌, inl, inr, ℕ, ◌+◌, ◌/◌, ◌<◌, Bool, true, false, true≢false, not, ◌||◌, ◌&&◌, List, [], ◌∷◌, ◌++◌, length, take, get_or, None, Some, sym, ap, ◌∙◌, subst, arith}
use Rattle.std.specs.Prelude.{◌==◌}
use Rattle.std.proofs.Math.ListN.{set}
use Rattle.std.proofs.lemmas.List.{get_or-set_other}
use Rattle.std.proofs.lemmas.Bool.{eq-eqb, and_from, or_cases}
use Rattle.unit_propagation.specs.Literals.{opposite, has}
use Rattle.unit_propagation.specs.Trails.{Way}
use Rattle.unit_propagation.specs.Watching.{clause}
use Rattle.unit_propagation.specs.Trails.{IsApart}
use Rattle.sat_solver.specs.Resolving.{is_seen, in_clause, Reaches, IsLeft, IsGiven}
use Rattle.sat_solver.specs.declared.analyze.Resolution.{Resolution}
use Rattle.unit_propagation.proofs.Marks.{has_at, opposite_twice, half_opposite}
use Rattle.sat_solver.proofs.Passing.{reaches_more, resolved_is}
use Rattle.sat_solver.proofs.Covering.{and_left, and_right, still_seen}
use Rattle.sat_solver.proofs.Arranges.{has_less}

-- what joining the clause that gave a literal marks, where the literal's place is told
pub joined_at : (literals : List ℕ) (seen taken new : List Bool) (lits d : List ℕ) (w v : ℕ) → w ≡ v → taken ≡ set seen (w / 2) false → lits ≡ d
    → ((x : ℕ) → has literals (opposite x) ≡ true → is_seen new x ≡ (is_seen taken x || (has lits x && not (x == w))))
    → (x : ℕ) → has literals (opposite x) ≡ true → is_seen new x ≡ (is_seen (set seen (v / 2) false) x || (has d x && not (x == v)))
joined_at literals seen taken new lits d w v ew et el h x q =
    h x q
    ∙ ap (λ (s : List Bool). is_seen s x || (has lits x && not (x == w))) (et ∙ ap (λ y. set seen (y / 2) false) ew)
    ∙ ap (λ e. is_seen (set seen (v / 2) false) x || (has e x && not (x == w))) el
    ∙ ap (λ y. is_seen (set seen (v / 2) false) x || (has d x && not (x == y))) ew

-- where a literal is taken out and the clause that gave its opposite is joined, the resolutions lead one further
pub leads_on : (f : List (List ℕ)) (t : Way) (b p w n : ℕ) (seen taken new : List Bool) (lits : List ℕ) (c : ℕ → Bool) (resolutions more : List Resolution) → IsApart t.literals → p < length t.literals → IsGiven f t b → w ≡ get_or t.literals p 0
    → get_or t.reasons p None ≡ Some n → is_seen seen (get_or t.literals p 0) ≡ true → length seen ≡ t.vars → taken ≡ set seen (w / 2) false → lits ≡ clause f n
    → ((x : ℕ) → has t.literals (opposite x) ≡ true → is_seen new x ≡ (is_seen taken x || (has lits x && not (x == w)))) → more ≡ resolutions ++ record { number = n + 1; pivot = opposite w } ∷ []
    → Reaches f c resolutions (in_clause t.literals seen) → Reaches f c more (in_clause t.literals new)
leads_on f t b p w n seen taken new lits c resolutions more apart within given ew er on long et el joined em h =
    let g = given.gives p n within er in
    let v = get_or t.literals p 0 in
    let d = clause f n in
    let small = given.literals p within in
    let resolution : Resolution = record { number = n + 1; pivot = opposite v } in
    let held : has t.literals (opposite (opposite v)) ≡ true = ap (has t.literals) (opposite_twice v) ∙ has_at t.literals p within in
    let marked : is_seen seen (opposite v) ≡ true = ap (λ (i : ℕ). get_or seen i false) (half_opposite v) ∙ on in
    let pivot_in : in_clause t.literals seen (opposite v) ≡ true = and_from (has t.literals (opposite (opposite v))) (is_seen seen (opposite v)) held marked in
    let stands : has d (opposite (opposite v)) ≡ true = ap (has d) (opposite_twice v) ∙ g.stands in
    subst (λ (hs : List Resolution). Reaches f c hs (in_clause t.literals new)) (sym (em ∙ ap (λ (y : ℕ). resolutions ++ (record { number = n + 1; pivot = opposite y }) ∷ []) ew))
    (reaches_more f c (in_clause t.literals seen) (in_clause t.literals new) resolutions resolution n h (omega arith) g.there pivot_in stands
    (resolved_is t.literals seen new p d apart within (omega arith) g.others (joined_at t.literals seen taken new lits d w v ew et el joined)))

-- the literal of the last level stays, and the others stay false ahead of it
module _ (literals : List ℕ) (b p q : ℕ) (seen new : List Bool) (d : List ℕ) (apart : IsApart literals) (early : q < b) (in_literals : q < length literals) (left : IsLeft literals b p seen)
    (others : (x : ℕ) → has d x ≡ true → (x ≡ get_or literals q 0) ⊎ (has (take q literals) (opposite x) ≡ true))
    (joined : (x : ℕ) → has literals (opposite x) ≡ true → is_seen new x ≡ (is_seen (set seen (get_or literals q 0 / 2) false) x || (has d x && not (x == get_or literals q 0)))) where
  -- the literal on the trail whose opposite is resolved away
  abbrev w : ℕ
  w = get_or literals q 0

  -- the literal of the unique implication point
  abbrev last : ℕ
  last = opposite (get_or literals p 0)

  -- the two are of different variables
  differ : last / 2 ≡ w / 2 → ⊥
  differ e = let z = apart p q left.within in_literals (sym (half_opposite (get_or literals p 0)) ∙ e) in let late = left.late in omega arith

  -- the literal of the unique implication point is false
  held : has literals (opposite last) ≡ true
  held = and_left (has literals (opposite last)) (is_seen seen last) left.stands

  -- it is still marked
  on : is_seen new last ≡ true
  on = joined last held ∙ ap (λ v. v || (has d last && not (last == w))) (get_or-set_other seen (w / 2) (last / 2) false false differ ∙ and_right (has literals (opposite last)) (is_seen seen last) left.stands)

  -- a literal that was tested to be another isn't that one
  not_itself : (x : ℕ) → not (x == w) ≡ true → x ≡ w → ⊥
  not_itself x h e = true≢false (sym h ∙ ap not (eq-eqb x w e))

  -- all other marked literals are false ahead of the last level
  ahead : (x : ℕ) → has literals (opposite x) ≡ true → is_seen new x ≡ true → (x ≡ last) ⊎ (has (take b literals) (opposite x) ≡ true)
  ahead x false_now now = elim (or_cases (is_seen (set seen (w / 2) false) x) (has d x && not (x == w)) (sym (joined x false_now) ∙ now)) [
    | inl e ↦ left.others x (and_from (has literals (opposite x)) (is_seen seen x) false_now (still_seen seen (w / 2) (x / 2) e))
    | inr e ↦ elim (others x (and_left (has d x) (not (x == w)) e)) [
      | inl s ↦ absurd (not_itself x (and_right (has d x) (not (x == w)) e) s)
      | inr s ↦ inr (has_less literals q b (opposite x) (omega arith) s)
    ]
  ]

  -- the resolvent keeps its unique implication point
  pub left_less : IsLeft literals b p new
  left_less = record {
    late = left.late;
    within = left.within;
    stands = and_from (has literals (opposite last)) (is_seen new last) held on;
    others = λ x h. ahead x (and_left (has literals (opposite x)) (is_seen new x) h) (and_right (has literals (opposite x)) (is_seen new x) h);
  }
