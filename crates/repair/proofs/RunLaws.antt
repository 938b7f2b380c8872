-- Runs, and what stands ahead of what in them.
use Rattle.std.proofs.Common.{◌≡◌, ◌≢◌, ⊎_elim, ℕ, ◌<◌, ◌≤◌, List, [], ◌∷◌, ◌++◌, length, get_or, sym, ap, ◌∙◌, subst, arith}
use Rattle.std.specs.List.{AllByRecursion}
use Rattle.std.proofs.lemmas.Bool.{cases_lt, cases_eq}
use Rattle.fs_semantics.specs.Programs.{Program}
use Rattle.fs_semantics.specs.Orders.{times, NoneAhead, IsLinearExtension, IsDeterministic}
use Rattle.fs_semantics.proofs.Counts.{times_itself, all_from}
use Rattle.orders.specs.Exchanges.{place}
use Rattle.orders.proofs.Walks.{at_place, place_kept, place_here, place_on}

-- ---- what comes before fewer allows more runs
module _ (before other : ℕ → ℕ → Type 0) (sub : (a b : ℕ) → before a b → other a b) where
  -- where none of a run must come before a resource, none must by fewer pairs
  none_behind : (b : ℕ) (run : List ℕ) → AllByRecursion (λ a. other a b → ⊥) run → AllByRecursion (λ a. before a b → ⊥) run
  none_behind b [] h = tt
  none_behind b (a ∷ run) h = (λ c. h.0 (sub a b c), none_behind b run h.1)

  -- a run that is kept by more pairs is kept by fewer
  none_ahead : (run : List ℕ) → NoneAhead other run → NoneAhead before run
  none_ahead [] h = tt
  none_ahead (b ∷ run) h = (none_behind b run h.0, none_ahead run h.1)

  -- and so it is allowed
  pub allowed_by_fewer : (n : ℕ) (run : List ℕ) → IsLinearExtension n other run → IsLinearExtension n before run
  allowed_by_fewer n run l = record { below = l.below; once = l.once; kept = none_ahead run l.kept }

  -- a graph that is deterministic by fewer pairs is so by more
  pub deterministic_by_more : (es : List Program) → IsDeterministic es before → IsDeterministic es other
  deterministic_by_more es det t is o p a b = det t is o p (allowed_by_fewer (length es) o a) (allowed_by_fewer (length es) p b)

-- of two numbers the one that comes before the other stands ahead of it
pub ahead_of : (before : ℕ → ℕ → Type 0) (n : ℕ) (run : List ℕ) → IsLinearExtension n before run → (a b : ℕ) → a < n → b < n → a ≢ b → before a b → place a run < place b run
ahead_of before n run l a b left right differ h =
    let x : 1 ≤ times a run = omega (arith, l.once a left) in
    let y : 1 ≤ times b run = omega (arith, l.once b right) in
    ⊎_elim (λ less. less) (λ more.
    ⊎_elim (λ less. absurd (place_kept before run a b l.kept x less h)) (λ no.
    let e : place a run ≡ place b run = omega arith in
    absurd (differ (sym (at_place a run x) ∙ ap (λ p. get_or run p 0) e ∙ at_place b run y)))
    (cases_lt (place b run) (place a run)))
    (cases_lt (place a run) (place b run))

-- in a run in which each stands once, what stands in the rest isn't the first
apart_from_head : (x a : ℕ) (run : List ℕ) → times x (x ∷ run) ≤ 1 → 0 < times a run → a ≢ x
apart_from_head x a run once h e =
    let m : 0 < times x run = subst (λ (v : ℕ). 0 < times v run) e h in
    omega (arith, times_itself x run)

-- and where all do, the run has none ahead of one that comes before it
pub none_ahead_by_places : (before : ℕ → ℕ → Type 0) (run : List ℕ) → ((k : ℕ) → times k run ≤ 1)
    → ((a b : ℕ) → before a b → place a run < place b run) → NoneAhead before run
none_ahead_by_places before run once h = behind run once (λ a b x y c. h a b c) where
  behind : (o : List ℕ) → ((k : ℕ) → times k o ≤ 1) → ((a b : ℕ) → 0 < times a o → 0 < times b o → before a b → place a o < place b o) → NoneAhead before o
  behind [] single f = tt
  behind (x ∷ o) single f =
      let later : (k : ℕ) → 0 < times k o → 0 < times k (x ∷ o) = λ k m. omega (arith, m) in (
        all_from (λ a. before a x → ⊥) o (λ a m c. let g = f a x (later a m) (omega (arith, times_itself x o)) c in let z = place_here x o in omega arith),
        behind o (λ k. omega (arith, single k)) (λ a b m w c.
            let g = f a b (later a m) (later b w) c in
            let i = place_on a x o (apart_from_head x a o (single x) m) in
            let j = place_on b x o (apart_from_head x b o (single x) w) in
            omega arith),
      )

-- neighbours, of which the second doesn't stand further ahead
pub neighbours_ahead : (front : List ℕ) (x y : ℕ) (back : List ℕ) → x ≢ y → times y front ≡ 0 → place x (front ++ x ∷ y ∷ back) < place y (front ++ x ∷ y ∷ back)
neighbours_ahead [] x y back ne none =
    let e = place_here x (y ∷ back) in
    let f = place_on y x (y ∷ back) (λ g. ne (sym g)) in
    omega arith
neighbours_ahead (z ∷ front) x y back ne none =
    let apart : y ≢ z = λ e. let m = subst (λ (v : ℕ). times v (z ∷ front) ≡ 0) e none in omega (arith, times_itself z front) in
    let f = place_on y z (front ++ x ∷ y ∷ back) apart in
    ⊎_elim
    (λ e. let g : place x (z ∷ (front ++ x ∷ y ∷ back)) ≡ 0 = subst (λ (v : ℕ). place x (v ∷ (front ++ x ∷ y ∷ back)) ≡ 0) e (place_here x (front ++ x ∷ y ∷ back)) in omega arith)
    (λ d. let g = place_on x z (front ++ x ∷ y ∷ back) d in let more = neighbours_ahead front x y back ne (omega (arith, none)) in omega arith)
    (cases_eq x z)
