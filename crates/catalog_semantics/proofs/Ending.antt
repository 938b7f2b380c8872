-- The rounds end, and no larger bound finds more.
use Rattle.std.proofs.Common.{◌≡◌, ℕ, zero, suc, ◌+◌, ◌<◌, ◌≤◌, Bool, true, false, cond, not, ◌&&◌, ◌||◌, List, [], ◌∷◌, ◌++◌, length, ◌⊎◌}
use Rattle.std.proofs.Common.{inl, inr, ⊎_elim, Option, Some, None, Result, Ok, Err, refl, sym, ap, subst, ◌∙◌, length-append, arith}
use Rattle.std.proofs.lemmas.List.{length-map}
use Rattle.std.proofs.lemmas.Bool.{eqb-true, eqb-false, ne_eqb, ltb-true, or_parts, or_cases}
use Rattle.std.proofs.lemmas.Map.Keys.{IsDistinct-head, IsDistinct-tail, IsDistinct-cons}
use Rattle.std.proofs.lemmas.Map.Steps.{length-le_from_distinct_below}
use Rattle.std.proofs.Math.Dec.{eqb}
use Rattle.std.specs.Prelude.{nat_lt}
use Rattle.std.specs.List.{AllByRecursion, IsDistinct, list_any}
use Rattle.rh_base.specs.declared.fault.Refusal.{Refusal}
use Rattle.host_limits.specs.declared.limits.Limits.{Limits}
use Rattle.host_limits.specs.declared.limits.Limits.TheVariants as chosen
use Rattle.host_limits.specs.Limits.{declared_limit}
use Rattle.pp_syntax.specs.declared.tree.Item.{Item}
use Rattle.pp_value.specs.declared.value.Value.{Value}
use Rattle.pp_eval.specs.Evaluating.{◌>>=◌}
use Rattle.pp_eval.specs.Scoping.{defined_scope}
use Rattle.catalog_semantics.specs.declared.catalog.Resource.{Resource}
use Rattle.catalog_semantics.specs.Sites.{Definition, Site, definition_of}
use Rattle.catalog_semantics.specs.States.{State, Effect, is_new, has_room, within_size, as_added, added, declared_bound}
use Rattle.catalog_semantics.specs.Effects.{effect_of}
use Rattle.catalog_semantics.specs.Catalogs.{main_code, main_ended, first_state, made_real, realized, has_run, is_defined_sort, is_due}
use Rattle.catalog_semantics.specs.Catalogs.{next_due, counted_as_run, type_runs, resource_runs, run_and_go_on, rounds, state_after, round_limit}
use Rattle.catalog_semantics.specs.Catalogs.{IsSettled}
use Rattle.pp_eval.specs.Extending.{Begins}
use Rattle.catalog_semantics.specs.Frames.{Each, Extends, Fits, IsContainerAt}
use Rattle.catalog_semantics.proofs.Keeping.{Keeps, IsFrame, step_each, then_each, bound_each, body_keeps, statement_keeps}
use Rattle.pp_eval.specs.Growing.{begins_same}
use Rattle.catalog_semantics.proofs.Extending.{extending}
use Rattle.catalog_semantics.proofs.Settled.{realized_again}
use Rattle.catalog_semantics.proofs.Whole.{IsMainFrame, IsWholeFrame, Same, ends_same, mapped, main_keeps, type_keeps, due_contains}
use Rattle.catalog_semantics.proofs.DistinctNames.{both_each}

-- ---- how many resources are declared

-- no more than the bound, whatever the limits are
pub under_bound : (l : Limits) → declared_limit l ≤ declared_bound
under_bound chosen.Usual = omega arith
under_bound chosen.Host = omega arith

-- where the one is within the limits, so is the other
abbrev FitStill : Limits → State → State → Type 0
FitStill limits s t = Fits limits s → Fits limits t

-- what follows a test that refuses is so, where it is so if the test holds
if_true : {A B : Type 0} (Q : B → Type 0) (b : Bool) (e : Refusal) (x : A) (f : A → Result B Refusal) → (b ≡ true → Each Q (f x))
    → Each Q (cond b (Ok x) (Err e) >>= f)
if_true Q true e x f h = h refl
if_true Q false e x f h = tt

-- a resource that is added keeps within the limits
adds_fit : (limits : Limits) (r : Resource) → Keeps (FitStill limits) (added r)
adds_fit limits r s =
    step_each (FitStill limits s) (is_new r s) _ (λ new. if_true (FitStill limits s) (nat_lt (length s.resources) (declared_limit s.limits)) _ s _ (λ room.
    step_each (FitStill limits s) (within_size r.at (s.resources ++ as_added s r ∷ [])) _ (λ fits h. (h.0, one_more room h))))
  where
    one_more : nat_lt (length s.resources) (declared_limit s.limits) ≡ true → Fits limits s → length (s.resources ++ as_added s r ∷ []) ≤ declared_limit limits
    one_more room h =
        let below = ltb-true (length s.resources) (declared_limit s.limits) room in
        let same : declared_limit s.limits ≡ declared_limit limits = ap declared_limit h.0 in
        omega (arith, length-append s.resources (as_added s r ∷ []))

-- each single change does
fitting_frame : (limits : Limits) → IsFrame (FitStill limits)
fitting_frame limits = record {
  same = λ s h. h;
  joined = λ s t u h k x. k (h x);
  binds = λ at name x s. bound_each (FitStill limits s) at name x s (λ h. h);
  adds = λ r sound s holder. adds_fit limits r s;
  bodies = λ place scope s t u at h k x. k (h x);
  holds = λ name outer class s is at h. h;
  ties = λ ties s h. h;
  collects = λ c s h. h;
  wants = λ more s h. h;
}

-- the same references are as many resources
same_length : (s t : State) → Same s t → length t.resources ≡ length s.resources
same_length s t h = sym (length-map t.resources (λ (r : Resource). r.id)) ∙ ap length h.0 ∙ length-map s.resources (λ (r : Resource). r.id)

-- the main code keeps within the limits
main_fits : (limits : Limits) → IsMainFrame (FitStill limits)
main_fits limits = record {
  frame = fitting_frame limits;
  gives = λ kind attributes s fit h. h;
  enters = λ s h. h;
  fills =
      λ s. mapped (Same s) (FitStill limits s) (main_ended s)
      (λ t e h. (e.2 ∙ h.0, subst (λ n. n ≤ declared_limit limits) (sym (same_length s t e)) h.1))
      (ends_same s);
}

-- so do the rounds
pub whole_fits : (limits : Limits) → IsWholeFrame (FitStill limits)
whole_fits limits = record {
  main = main_fits limits;
  realizes = λ s h. (h.0, subst (λ n. n ≤ declared_limit limits) (sym (length-map s.resources (made_real s))) h.1);
  marks = λ place s h. h;
}

-- ---- what has run before the rounds

-- what has run is the same
abbrev RanStays : State → State → Type 0
RanStays s t = t.ran ≡ s.ran

-- the main code runs no body of a defined resource
main_runs_none : IsMainFrame RanStays
main_runs_none = record {
  frame = record {
    same = λ s. refl;
    joined = λ s t u h k. k ∙ h;
    binds = λ at name x s. bound_each (RanStays s) at name x s refl;
    adds = λ r sound s holder. step_each (RanStays s) (is_new r s) _
        (λ new. step_each (RanStays s) (has_room r s) _
        (λ room. step_each (RanStays s) (within_size r.at (s.resources ++ as_added s r ∷ [])) _ (λ fits. refl)));
    bodies =
        λ place scope s t u at h k. k ∙ h;
    holds = λ name outer class s is at. refl;
    ties = λ ties s. refl;
    collects = λ c s. refl;
    wants = λ more s. refl;
  };
  gives = λ kind attributes s fit. refl;
  enters = λ s. refl;
  fills = λ s. mapped (Same s) (RanStays s) (main_ended s) (λ t e. e.1) (ends_same s);
}

-- ---- what is due

-- what is due hasn't run
not_run : (a b c : Bool) → (a && b && not c) ≡ true → c ≡ false
not_run true true false h = refl
not_run true true true h = sym h
not_run true false c h = cc
not_run false b c h = cc

-- a place before the end, of which the body hasn't run
abbrev IsNext : State → ℕ → ℕ × Resource → Type 0
IsNext s end x = (x.0 < end) × (has_run s x.0 ≡ false)

-- so it is of what is due here or further on
due_case : (b : Bool) (s : State) (n end : ℕ) (r : Resource) (x : ℕ × Resource) (later : Option (ℕ × Resource)) → n < end
    → (b ≡ true → has_run s n ≡ false) → (later ≡ Some x → IsNext s end x) → cond b (Some (n, r)) later ≡ Some x → IsNext s end x
due_case true s n end r x later h k l is =
    let e : ◌≡◌ {A = ℕ × Resource} (n, r) x = cc in subst (λ (y : ℕ × Resource). IsNext s end y) e (h, k refl)
due_case false s n end r x later h k l is = l is

-- what is due next stands before the end, and hasn't run
next_is : (s : State) (n end : ℕ) (resources : List Resource) (x : ℕ × Resource) → n + length resources ≡ end
    → next_due s n resources ≡ Some x → IsNext s end x
next_is s n end [] x h is = absurd (cc)
next_is s n end (r ∷ resources) x h is =
    due_case (is_due s n r) s n end r x (next_due s (n + 1) resources) (omega arith)
    (not_run (is_defined_sort r.sort) (not r.is_virtual) (has_run s n)) (next_is s (n + 1) end resources x (omega arith)) is

-- ---- one run

-- the place counts as run, and nothing is taken away
abbrev Runs : ℕ → State → State → Type 0
Runs place s t = (t.ran ≡ s.ran ++ place ∷ []) × Begins s.resources t.resources

-- the body of a resource that runs makes its place count as run
runs_one : (site : Site) (place : ℕ) (r : Resource) (d : Option Definition) (s : State) → IsContainerAt place s.resources → Each (Runs place s) (type_runs site place r d s)
runs_one site place r None s at = (refl, begins_same s.resources)
runs_one site place r (Some d) s at =
    mapped (Extends (counted_as_run place s)) (Runs place s) (type_runs site place r (Some d) s) (λ t e. (e.ran, e.resources))
    (body_keeps Extends extending (effect_of site) (statement_keeps Extends extending site) d place r defined_scope (counted_as_run place s) at)

-- ---- how often

-- no place has run twice, and each is one of a resource
pub record RunsOnce (s : State) : Type 0 where
  pub distinct : IsDistinct eqb s.ran
  pub below : (q : ℕ) → list_any (eqb q) s.ran ≡ true → q < length s.resources

-- two numbers differ in both directions
other : (x y : ℕ) → eqb y x ≡ false → eqb x y ≡ false
other x y h = ne_eqb x y (λ e. eqb-false y x h (sym e))

-- a number that differs from some and from one more differs from all
all_more : (x y : ℕ) (xs : List ℕ) → AllByRecursion (λ z. eqb x z ≡ false) xs → eqb x y ≡ false
    → AllByRecursion (λ z. eqb x z ≡ false) (xs ++ y ∷ [])
all_more x y [] h k = (k, tt)
all_more x y (z ∷ xs) h k = (h.0, all_more x y xs h.1 k)

-- distinct numbers with a new one are distinct
distinct_more : (xs : List ℕ) (y : ℕ) → IsDistinct eqb xs → list_any (eqb y) xs ≡ false → IsDistinct eqb (xs ++ y ∷ [])
distinct_more [] y h k = IsDistinct-cons eqb y [] tt h
distinct_more (x ∷ xs) y h k = let both = or_parts (eqb y x) (list_any (eqb y) xs) k in
    IsDistinct-cons eqb x (xs ++ y ∷ []) (all_more x y xs (IsDistinct-head eqb x xs h) (other x y both.0))
    (distinct_more xs y (IsDistinct-tail eqb x xs h) both.1)

-- what is among numbers with one more is among them, or is that
in_more : (q y : ℕ) (xs : List ℕ) → list_any (eqb q) (xs ++ y ∷ []) ≡ true → (list_any (eqb q) xs ≡ true) ⊎ (q ≡ y)
in_more q y [] h = ⊎_elim (λ a. inr (eqb-true q y a)) (λ b. inl b) (or_cases (eqb q y) false h)
in_more q y (x ∷ xs) h =
    ⊎_elim (λ a. inl (ap (λ w. w || list_any (eqb q) xs) a))
    (λ b. ⊎_elim (λ c. inl (either_true (eqb q x) c)) (λ c. inr c) (in_more q y xs b))
    (or_cases (eqb q x) (list_any (eqb q) (xs ++ y ∷ [])) h)
  where
    either_true : (a : Bool) {b : Bool} → b ≡ true → (a || b) ≡ true
    either_true true h = refl
    either_true false h = h

-- where nothing is taken away there are no fewer resources
longer : (s t : State) → Begins s.resources t.resources → length s.resources ≤ length t.resources
longer s t h = omega (arith, ap length h.1, length-append s.resources h.0)

-- a run keeps it that places are distinct and below
once_more : (place : ℕ) (s t : State) → place < length s.resources → has_run s place ≡ false → Runs place s t → RunsOnce s → RunsOnce t
once_more place s t below new runs h = record {
  distinct = subst (IsDistinct eqb) (sym runs.0) (distinct_more s.ran place h.distinct new);
  below = λ q is. let grows = longer s t runs.1 in
      ⊎_elim (λ old. let lower = h.below q old in omega arith) (λ e. omega arith)
      (in_more q place s.ran (subst (λ (w : List ℕ). list_any (eqb q) w ≡ true) runs.0 is));
}

-- no more bodies have run than resources may be declared
at_most : (limits : Limits) (s : State) → RunsOnce s → Fits limits s → length s.ran ≤ declared_limit limits
at_most limits s h fits =
    let few = length-le_from_distinct_below s.ran (length s.resources) h.distinct h.below in
    let room = fits.1 in
    omega arith

-- making resources real runs nothing
real_once : (s : State) → RunsOnce s → RunsOnce (realized s)
real_once s h =
    record { distinct = h.distinct; below = λ q is. subst (λ n. q < n) (sym (length-map s.resources (made_real s))) (h.below q is) }

-- ---- the rounds

-- where what follows the run is the same, so is the whole
run_same : (site : Site) (f g : Effect) (s : State) (x : ℕ × Resource) (Q : State → Type 0) → Each Q (resource_runs site x s)
    → ((t : State) → Q t → f t ≡ g t) → run_and_go_on site f (Some x) s ≡ run_and_go_on site g (Some x) s
run_same site f g s x Q h same = behind (resource_runs site x s) h
  where
    behind : (r : Result State Refusal) → Each Q r → (r >>= f) ≡ (r >>= g)
    behind (Ok t) h = same t h
    behind (Err e) h = refl

-- rounds that go on alike from what is due are the same
next_same : (site : Site) (f g : Effect) (s : State) (found : Option (ℕ × Resource))
    → ((x : ℕ × Resource) → found ≡ Some x → run_and_go_on site f (Some x) s ≡ run_and_go_on site g (Some x) s)
    → run_and_go_on site f found s ≡ run_and_go_on site g found s
next_same site f g s None h = refl
next_same site f g s (Some x) h = h x refl

-- what a run of the resource at a place gives
abbrev After : Limits → ℕ → State → State → Type 0
After limits place s t = Runs place s t × FitStill limits s t

-- the body of a resource that is due runs, and keeps within the limits
run_gives : (limits : Limits) (site : Site) (x : ℕ × Resource) (s : State) → IsContainerAt x.0 s.resources → Each (After limits x.0 s) (resource_runs site x s)
run_gives limits site x s at =
    both_each (Runs x.0 s) (FitStill limits s) (resource_runs site x s) (runs_one site x.0 x.1 (definition_of x.1.id.kind site.defined_types) s at)
    (type_keeps (FitStill limits) (whole_fits limits) site x.0 x.1 (definition_of x.1.id.kind site.defined_types) s at)

-- with enough rounds it doesn't matter how many there may be
pub rounds_same : (limits : Limits) (site : Site) (n m : ℕ) (s : State) → RunsOnce s → Fits limits s → round_limit limits ≤ length s.ran + n
    → round_limit limits ≤ length s.ran + m → rounds n site s ≡ rounds m site s
rounds_same limits site zero m s once fits h k = let few = at_most limits s once fits in absurd (omega arith)
rounds_same limits site (suc n) zero s once fits h k = let few = at_most limits s once fits in absurd (omega arith)
rounds_same limits site (suc n) (suc m) s once fits h k =
    next_same site (rounds n site) (rounds m site) (realized s) (next_due (realized s) 0 (realized s).resources) (λ x is.
    let real = real_once s once in
    let room : Fits limits (realized s) = (whole_fits limits).realizes s fits in
    let next = next_is (realized s) 0 (length (realized s).resources) (realized s).resources x (omega arith) is in
    run_same site (rounds n site) (rounds m site) (realized s) x (After limits x.0 (realized s)) (run_gives limits site x (realized s) (due_contains (realized s) x is)) (λ t after.
    let more : length t.ran ≡ length s.ran + 1 = ap length after.0.0 ∙ length-append s.ran (x.0 ∷ []) in
    rounds_same limits site n m t (once_more x.0 (realized s) t next.0 next.1 after.0 real) (after.1 room) (omega arith) (omega arith)))

-- ---- the whole

-- no numbers are distinct
none_distinct : IsDistinct eqb []
unfolding IsDistinct
none_distinct = tt

-- where nothing has run, nothing has twice
none_run : (s : State) → s.ran ≡ [] → RunsOnce s
none_run s h =
    record {
      distinct = subst (IsDistinct eqb) (sym h) none_distinct;
      below = λ q is. absurd (nowhere q (subst (λ (w : List ℕ). list_any (eqb q) w ≡ true) h is));
    }
  where
    nowhere : (q : ℕ) → list_any (eqb q) [] ≡ true → ⊥
    nowhere q h = cc

-- From the end of the main code on, as many rounds as may be declared and one more are enough.
pub enough_rounds : (site : Site) (items : List Item) (facts : Value) (limits : Limits) (n : ℕ) → round_limit limits ≤ n
    → state_after n site items facts limits ≡ state_after (round_limit limits) site items facts limits
enough_rounds site items facts limits n h =
    behind (main_code site items (first_state facts limits)) (main_keeps RanStays main_runs_none site items (first_state facts limits))
    (main_keeps (FitStill limits) (main_fits limits) site items (first_state facts limits))
  where
    behind : (r : Result State Refusal) → Each (RanStays (first_state facts limits)) r → Each (FitStill limits (first_state facts limits)) r
        → (r >>= rounds n site) ≡ (r >>= rounds (round_limit limits) site)
    behind (Ok s) a b =
        let none : length s.ran ≡ 0 = ap length a in
        rounds_same limits site n (round_limit limits) s (none_run s a) (b (refl, omega arith)) (omega arith) (omega arith)
    behind (Err e) a b = refl

-- ---- what the rounds reach

-- this is due next
abbrev FoundAt : State → Option (ℕ × Resource) → Type 0
FoundAt s found = next_due s 0 s.resources ≡ found

-- a round after which nothing is due, or what follows settles, settles
step_settles : (site : Site) (go_on : Effect) (s : State) (found : Option (ℕ × Resource)) → FoundAt s found → realized s ≡ s
    → ((x : ℕ × Resource) → found ≡ Some x → Each IsSettled (run_and_go_on site go_on (Some x) s))
    → Each IsSettled (run_and_go_on site go_on found s)
step_settles site go_on s None e real h = record { real = real; none_due = e }
step_settles site go_on s (Some x) e real h = h x refl

-- with enough rounds all is settled
settles : (limits : Limits) (site : Site) (n : ℕ) (s : State) → RunsOnce s → Fits limits s → round_limit limits ≤ length s.ran + n → Each IsSettled (rounds n site s)
settles limits site zero s once fits h = let few = at_most limits s once fits in absurd (omega arith)
settles limits site (suc n) s once fits h =
    step_settles site (rounds n site) (realized s) (next_due (realized s) 0 (realized s).resources) refl (realized_again s) (λ x is.
    let real = real_once s once in
    let room : Fits limits (realized s) = (whole_fits limits).realizes s fits in
    let next = next_is (realized s) 0 (length (realized s).resources) (realized s).resources x (omega arith) is in
    then_each (After limits x.0 (realized s)) IsSettled (resource_runs site x (realized s)) (rounds n site) (run_gives limits site x (realized s) (due_contains (realized s) x is))
    (λ t after.
    let more : length t.ran ≡ length s.ran + 1 = ap length after.0.0 ∙ length-append s.ran (x.0 ∷ []) in
    settles limits site n t (once_more x.0 (realized s) t next.0 next.1 after.0 real) (after.1 room) (omega arith)))

-- After all rounds another one changes nothing.
pub all_settle : (site : Site) (items : List Item) (facts : Value) (limits : Limits) (t : State)
    → state_after (round_limit limits) site items facts limits ≡ Ok t → IsSettled t
all_settle site items facts limits t h =
    subst (Each IsSettled) h (behind (main_code site items (first_state facts limits))
    (main_keeps RanStays main_runs_none site items (first_state facts limits))
    (main_keeps (FitStill limits) (main_fits limits) site items (first_state facts limits)))
  where
    behind : (r : Result State Refusal) → Each (RanStays (first_state facts limits)) r → Each (FitStill limits (first_state facts limits)) r
        → Each IsSettled (r >>= rounds (round_limit limits) site)
    behind (Ok s) a b =
        let none : length s.ran ≡ 0 = ap length a in settles limits site (round_limit limits) s (none_run s a) (b (refl, omega arith)) (omega arith)
    behind (Err e) a b = tt
