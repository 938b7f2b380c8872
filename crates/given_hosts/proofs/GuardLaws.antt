-- What the guard does, and where it stands in an allowed order.
use Rattle.std.proofs.Common.{◌≡◌, ◌≢◌, ℕ, zero, suc, Bool, true, false, cond, ◌&&◌, ◌||◌, nat_lt, ◌==◌, ◌⊎◌, ltb-true, lt-ltb, eq-eqb, ne_eqb, ap₂, ◌+◌, ◌<◌, List, [], ◌∷◌, ◌++◌, length, get_or, Some, None, refl, sym, ap, subst, ◌∙◌, arith, inl, inr}
use Rattle.std.proofs.lemmas.Bool.{cases_eq, and_parts, and_from}
use Rattle.std.specs.List.{AllByRecursion}
use Rattle.fs_semantics.specs.FileTree.{Path, IsSegment, Tree, is_dir}
use Rattle.fs_semantics.specs.Programs.{Program, Id, Mkdir, and_then, run, run_all}
use Rattle.fs_semantics.specs.Changes.{IsProper}
use Rattle.fs_semantics.specs.Orders.{Told, times, NoneAhead, IsLinearExtension, outcome}
use Rattle.fs_semantics.proofs.Counts.{times_append, times_itself, times_other, times_found, all_at, all_from, none_ahead_behind}
use Rattle.fs_semantics.proofs.Commuting.{none_above}
use Rattle.given_hosts.specs.Given.{Stand}
use Rattle.given_hosts.specs.Guard.{need, need_all, guard, guarded, guard_before, GoesFirst}

-- ---- the guard by itself

-- nothing is both true and false
off : (b : Bool) → b ≡ false → b ≡ true → ⊥
off true h k = cc
off false h k = cc

-- whether they stand can be told
pub stand_told : (given : List Path) (t : Tree) → Stand given t ⊎ (Stand given t → ⊥)
stand_told [] t = inl tt
stand_told (p ∷ given) t = elim (is_dir t p) as (λ b. is_dir t p ≡ b → Stand (p ∷ given) t ⊎ (Stand (p ∷ given) t → ⊥)) [
  | true ↦ λ e. elim (stand_told given t) [ inl h ↦ inl (e, h) | inr n ↦ inr (λ h. n h.1) ]
  | false ↦ λ e. inr (λ h. off (is_dir t p) e h.0)
] refl

-- a folder that stands is found, and nothing changes
found : (p : Path) (t : Tree) → is_dir t p ≡ true → run (need p) t ≡ Some t
found p t h =
    ap (λ b. and_then (cond b (Some t) None) (λ u. and_then (cond (is_dir u p) (Some u) (run (Mkdir p) u)) (λ v. Some v))) h
    ∙ ap (λ b. and_then (cond b (Some t) (run (Mkdir p) t)) (λ v. Some v)) h

-- where it doesn't stand the need for it ends in Error
lacks : (p : Path) (t : Tree) → is_dir t p ≡ false → run (need p) t ≡ None
lacks p t h = ap (λ b. and_then (cond b (Some t) None) (λ u. and_then (cond (is_dir u p) (Some u) (run (Mkdir p) u)) (λ v. Some v))) h

-- the guard changes nothing where the given folders stand
pub guard_stands : (given : List Path) (t : Tree) → Stand given t → run (guard given) t ≡ Some t
guard_stands [] t h = refl
guard_stands (p ∷ given) t h = ap (λ r. and_then r (run_all (need_all given))) (found p t h.0) ∙ guard_stands given t h.1

-- and ends in Error where one doesn't
pub guard_fails : (given : List Path) (t : Tree) → (Stand given t → ⊥) → run (guard given) t ≡ None
guard_fails [] t n = absurd (n tt)
guard_fails (p ∷ given) t n = elim (is_dir t p) as (λ b. is_dir t p ≡ b → run_all (need_all (p ∷ given)) t ≡ None) [
  | true ↦ λ e. ap (λ r. and_then r (run_all (need_all given))) (found p t e) ∙ guard_fails given t (λ h. n (e, h))
  | false ↦ λ e. ap (λ r. and_then r (run_all (need_all given))) (lacks p t e)
] refl

-- ---- behind the programs

-- the programs ahead stand where they stood
ahead : (xs ys : List Program) (i : ℕ) → i < length xs → get_or (xs ++ ys) i Id ≡ get_or xs i Id
ahead [] ys i h = absurd (omega (arith, h))
ahead (x ∷ xs) ys zero h = refl
ahead (x ∷ xs) ys (suc i) h = ahead xs ys i (omega (arith, h))

-- what is put last stands at the end
pub last_one : (xs : List Program) (y : Program) → get_or (xs ++ y ∷ []) (length xs) Id ≡ y
last_one [] y = refl
last_one (x ∷ xs) y = last_one xs y

-- an order of the programs ends as without what stands behind them
pub outcome_ahead : (es more : List Program) (o : List ℕ) (t : Tree) → AllByRecursion (λ k. k < length es) o → outcome (es ++ more) o t ≡ outcome es o t
outcome_ahead es more [] t h = refl
outcome_ahead es more (k ∷ o) t h =
    ap (λ e. and_then (run e t) (outcome (es ++ more) o)) (ahead es more k h.0)
    ∙ ap (and_then (run (get_or es k Id) t)) (λ n u. outcome_ahead es more o u h.1 n)

-- an order with the guard in front runs the guard, and then the rest
pub outcome_guarded : (given : List Path) (es : List Program) (o : List ℕ) (t : Tree)
    → outcome (guarded given es) (length es ∷ o) t ≡ and_then (run (guard given) t) (outcome (guarded given es) o)
outcome_guarded given es o t = ap (λ e. and_then (run e t) (outcome (guarded given es) o)) (last_one es (guard given))

-- where the given folders stand, an order behind the guard ends as it does without it
pub ends_where_stand : (given : List Path) (es : List Program) (o : List ℕ) (t : Tree) → AllByRecursion (λ k. k < length es) o
    → Stand given t → outcome (guarded given es) (length es ∷ o) t ≡ outcome es o t
ends_where_stand given es o t below h =
    outcome_guarded given es o t ∙ ap (λ r. and_then r (outcome (guarded given es) o)) (guard_stands given t h) ∙ outcome_ahead es (guard given ∷ []) o t below

-- and elsewhere it ends in Error
pub fails_elsewhere : (given : List Path) (es : List Program) (o : List ℕ) (t : Tree)
    → (Stand given t → ⊥) → outcome (guarded given es) (length es ∷ o) t ≡ None
fails_elsewhere given es o t h = outcome_guarded given es o t ∙ ap (λ r. and_then r (outcome (guarded given es) o)) (guard_fails given t h)

-- proper programs are so with the guard of proper paths
pub proper_with : (given : List Path) (es : List Program) → AllByRecursion (AllByRecursion IsSegment) given → AllByRecursion IsProper es → AllByRecursion IsProper (guarded given es)
proper_with given [] k h = (proper_guard given k, tt)
  where
    proper_guard : (given : List Path) → AllByRecursion (AllByRecursion IsSegment) given → IsProper (guard given)
    proper_guard [] k = tt
    proper_guard (p ∷ given) k = (((tt, tt), ((tt, k.0), tt)), proper_guard given k.1)
proper_with given (e ∷ es) k h = (h.0, proper_with given es k h.1)

-- ---- its place

module _ (n : ℕ) (before after : ℕ → ℕ → Bool) (first : GoesFirst n before after) where
  -- programs of which none must come before another with the guard needn't without it
  less_ahead : (k : ℕ) (o : List ℕ) → k < n → AllByRecursion (λ j. j < n) o → AllByRecursion (λ a. Told after a k → ⊥) o → AllByRecursion (λ a. Told before a k → ⊥) o
  less_ahead k [] low below h = tt
  less_ahead k (j ∷ o) low below h = ((λ b. h.0 ((first.others j k below.0 low).1 b)), less_ahead k o low below.1 h.1)

  -- and those that needn't without it needn't with it
  more_ahead : (k : ℕ) (o : List ℕ) → k < n → AllByRecursion (λ j. j < n) o → AllByRecursion (λ a. Told before a k → ⊥) o → AllByRecursion (λ a. Told after a k → ⊥) o
  more_ahead k [] low below h = tt
  more_ahead k (j ∷ o) low below h = ((λ b. h.0 ((first.others j k below.0 low).0 b)), more_ahead k o low below.1 h.1)

  -- an order that is kept with the guard is kept without it
  kept_before : (o : List ℕ) → AllByRecursion (λ j. j < n) o → NoneAhead (Told after) o → NoneAhead (Told before) o
  kept_before [] below h = tt
  kept_before (k ∷ o) below h = (less_ahead k o below.0 below.1 h.0, kept_before o below.1 h.1)

  -- and one that is kept without it is kept with it
  kept_after : (o : List ℕ) → AllByRecursion (λ j. j < n) o → NoneAhead (Told before) o → NoneAhead (Told after) o
  kept_after [] below h = tt
  kept_after (k ∷ o) below h = (more_ahead k o below.0 below.1 h.0, kept_after o below.1 h.1)

  -- no program comes before the guard
  none_behind : (o : List ℕ) → AllByRecursion (λ j. j < n) o → AllByRecursion (λ a. Told after a n → ⊥) o
  none_behind [] below = tt
  none_behind (k ∷ o) below = let low : k < n = below.0 in ((λ b. first.never_behind k (omega arith) b), none_behind o below.1)

  -- numbers below a bound are below one more
  below_more : (o : List ℕ) → AllByRecursion (λ j. j < n) o → AllByRecursion (λ j. j < n + 1) o
  below_more [] h = tt
  below_more (k ∷ o) h = let low : k < n = h.0 in (omega arith, below_more o h.1)

  -- with the guard in front of an allowed order
  pub in_front : (o : List ℕ) → IsLinearExtension n (Told before) o → IsLinearExtension (n + 1) (Told after) (n ∷ o)
  in_front o l = record {
    below = (omega arith, below_more o l.below);
    once = λ k h. elim (cases_eq k n) [
      | inl same ↦ omega (arith, ap (λ j. times j (n ∷ o)) same, times_itself n o, none_above n n o l.below (omega arith))
      | inr differ ↦ omega (arith, times_other k n o differ, l.once k (omega (arith, h, differ)))
    ];
    kept = (none_behind o l.below, kept_after o l.below l.kept);
  }

  -- nothing stands ahead of the guard
  off_front : (front back : List ℕ) → IsLinearExtension (n + 1) (Told after) (front ++ n ∷ back) → front ≡ []
  off_front [] back l = refl
  off_front (k ∷ front) back l =
      let ahead = none_ahead_behind (Told after) (k ∷ front) n back l.kept in
      let counted : times n (k ∷ front ++ n ∷ back) ≡ 1 = l.once n (omega arith) in
      let once : times n (k ∷ front) ≡ 0 = omega (arith, counted, times_append n (k ∷ front) (n ∷ back), times_itself n back) in
      let differ : k ≢ n = (λ same. let more : times n (k ∷ front) ≡ 1 + times n front = ap (λ j. times j (k ∷ front)) (sym same) ∙ times_itself k front ∙ ap (λ j. 1 + times j front) same in omega (arith, more, once)) in
      absurd (ahead.0 (first.first k (omega (arith, l.below.0, differ))))

  -- an allowed order behind the guard
  pub behind_it : (back : List ℕ) → IsLinearExtension (n + 1) (Told after) (n ∷ back) → IsLinearExtension n (Told before) back
  behind_it back l =
      let none : times n back ≡ 0 = omega (arith, l.once n (omega arith), times_itself n back) in
      let low : (k : ℕ) → 0 < times k back → k < n = λ k h.
      let under : k < n + 1 = all_at (λ j. j < n + 1) back k l.below.1 h in
      let differ : k ≢ n = (λ same. let same_times : times k back ≡ times n back = ap (λ j. times j back) same in omega (arith, h, none, same_times)) in
      omega (arith, under, differ) in
      let below = all_from (λ j. j < n) back low in
      record {
        below = below;
        once = λ k h. let differ : k ≢ n = (λ same. omega (arith, h, same)) in omega (arith, l.once k (omega (arith, h)), times_other k n back differ);
        kept = kept_before back below l.kept.1;
      }

  -- an allowed order with the guard is the guard and then an allowed one
  pub guard_first : (o : List ℕ) → IsLinearExtension (n + 1) (Told after) o → (p : List ℕ) × (o ≡ n ∷ p) × IsLinearExtension n (Told before) p
  guard_first o l =
      let split = times_found n o (omega (arith, l.once n (omega arith))) in
      let empty = off_front split.0 split.1 (subst (IsLinearExtension (n + 1) (Told after)) split.2 l) in
      let is : o ≡ n ∷ split.1 = split.2 ∙ ap (λ f. f ++ n ∷ split.1) empty in
      (split.1, is, behind_it split.1 (subst (IsLinearExtension (n + 1) (Told after)) is l))

-- ---- the order with the guard in front

-- the order that is made with the guard has it first
pub goes_first : (n : ℕ) (before : ℕ → ℕ → Bool) → GoesFirst n before (guard_before n before)
goes_first n before = record {
  first = λ b h. and_from (nat_lt b n) ((n == n) || before n b) (lt-ltb b n h) (ap (λ v. v || before n b) (eq-eqb n n refl));
  never_behind = λ a h k. off (nat_lt n n) (below_itself n) (and_parts (nat_lt n n) ((a == n) || before a n) k).0;
  others = λ a b x y.
      let differ : (a == n) ≡ false = ne_eqb a n (λ e. let low : a < n = x in omega (arith, low, e)) in
      let same : guard_before n before a b ≡ before a b = ap₂ (λ u v. u && (v || before a b)) (lt-ltb b n y) differ in
      ((λ h. sym same ∙ h), (λ h. same ∙ h));
}
  where
    below_itself : (n : ℕ) → nat_lt n n ≡ false
    below_itself n = elim (nat_lt n n) as (λ b. nat_lt n n ≡ b → b ≡ false) [
      | true ↦ λ e. absurd (let low = ltb-true n n e in omega (arith, low))
      | false ↦ λ e. refl
    ] refl
