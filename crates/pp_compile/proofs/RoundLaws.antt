-- One round, and what is real after it.
use Rattle.std.proofs.Common.{◌≡◌, ℕ, zero, suc, ◌+◌, ◌-◌, ◌<◌, ◌≤◌, Bool, true, false, cond, List, [], ◌∷◌, ◌++◌, map, length, take, drop, add-one, Option, Some, None, Result, Ok, Err, refl, sym, ap, ◌∙◌, arith}
use Rattle.std.specs.Prelude.{slice_get}
use Rattle.std.proofs.lemmas.List.{drop_all}
use Rattle.std.proofs.Math.Nat.{suc-sub-suc, sub-zero}
use Rattle.rh_base.specs.declared.fault.Refusal.{Refusal}
use Rattle.host_limits.specs.declared.limits.Limits.{Limits}
use Rattle.pp_eval.specs.Evaluating.{◌>>=◌}
use Rattle.pp_syntax.specs.declared.tree.Item.{Item}
use Rattle.pp_value.specs.declared.value.Value.{Value}
use Rattle.catalog_semantics.specs.declared.catalog.Resource.{Resource}
use Rattle.catalog_semantics.specs.declared.state.State.{State}
use Rattle.catalog_semantics.specs.Sites.{Site}
use Rattle.catalog_semantics.specs.Catalogs.{is_called_for, made_real, realized, is_due, next_due, resource_runs, run_and_go_on, rounds, first_state, state_after, all_there, few_enough, catalog_in}
use Rattle.catalog.specs.Adding.{changed_at, made_real as real}
use Rattle.pp_compile.specs.Rounds.{realized_at, realized_below, run_if_due, one_round, run_all, may_stand, catalog_after}

-- ---- one resource

-- changes that are the same of the resource at a place are the same
changed_as : (i : ℕ) (f g : Resource → Resource) (resources : List Resource) (r : Resource) → slice_get resources i ≡ Some r → f r ≡ g r → changed_at i f resources ≡ changed_at i g resources
changed_as i f g [] r h e = refl
changed_as zero f g (q ∷ resources) r h e = let same : q ≡ r = cc in ap (λ (x : Resource). x ∷ resources) (ap f same ∙ (e ∙ ap g (sym same)))
changed_as (suc i) f g (q ∷ resources) r h e = ap (λ (more : List Resource). q ∷ more) (changed_as i f g resources r h e)

-- one that leaves it changes nothing
changed_not : (i : ℕ) (f : Resource → Resource) (resources : List Resource) (r : Resource) → slice_get resources i ≡ Some r → f r ≡ r → changed_at i f resources ≡ resources
changed_not i f [] r h e = refl
changed_not zero f (q ∷ resources) r h e = let same : q ≡ r = cc in ap (λ (x : Resource). x ∷ resources) (ap f same ∙ (e ∙ sym same))
changed_not (suc i) f (q ∷ resources) r h e = ap (λ (more : List Resource). q ∷ more) (changed_not i f resources r h e)

module _ (s : State) (i : ℕ) (r : Resource) (here : slice_get s.resources i ≡ Some r) where
  -- the state with other resources
  abbrev with_all : List Resource → State
  with_all resources = record s { resources = resources }

  -- making a resource real that is called for is what the round does to it
  pub is_realized : is_called_for s r ≡ true → with_all (changed_at i real s.resources) ≡ realized_at i s
  is_realized h = ap with_all (changed_as i real (made_real s) s.resources r here (sym (ap (λ (b : Bool). cond b (real r) r) h)))

  -- one that isn't called for stays
  pub not_called : is_called_for s r ≡ false → s ≡ realized_at i s
  not_called h = ap with_all (sym (changed_not i (made_real s) s.resources r here (ap (λ (b : Bool). cond b (real r) r) h)))

  -- one that isn't virtual stays, whether it is called for or not
  real_by : (b : Bool) → r.is_virtual ≡ false → cond b (real r) r ≡ r
  real_by true h = ap (λ (v : Bool). record r { is_virtual = v }) (sym h)
  real_by false h = refl

  -- so the round does nothing to it
  pub not_virtual : r.is_virtual ≡ false → s ≡ realized_at i s
  not_virtual h = ap with_all (sym (changed_not i (made_real s) s.resources r here (real_by (is_called_for s r) h)))

-- ---- all of them

-- changing the next behind those that are changed changes one more
changed_next : (f : Resource → Resource) (n : ℕ) (resources : List Resource) → n < length resources → changed_at n f (map f (take n resources) ++ drop n resources) ≡ map f (take (suc n) resources) ++ drop (suc n) resources
changed_next f n [] h = absurd (omega arith)
changed_next f zero (r ∷ resources) h = refl
changed_next f (suc n) (r ∷ resources) h = ap (λ (more : List Resource). f r ∷ more) (changed_next f n resources (omega arith))

-- one more place is one more that is real
pub one_more : (n : ℕ) (s : State) → n < length s.resources → realized_at n (realized_below n s) ≡ realized_below (n + 1) s
one_more n s h =
    ap (λ (resources : List Resource). record s { resources = resources })
    (changed_next (made_real s) n s.resources h ∙ ap (λ m. map (made_real s) (take m s.resources) ++ drop m s.resources) (sym (add-one n)))

-- as many as there are, and more, are all
all_taken : (f : Resource → Resource) (n : ℕ) (resources : List Resource) → length resources ≤ n → map f (take n resources) ++ drop n resources ≡ map f resources
all_taken f zero [] h = refl
all_taken f (suc n) [] h = refl
all_taken f zero (r ∷ resources) h = absurd (omega arith)
all_taken f (suc n) (r ∷ resources) h = ap (λ (more : List Resource). f r ∷ more) (all_taken f n resources (omega arith))

-- once all places are done, all that is called for is real
pub all_real : (n : ℕ) (s : State) → length s.resources ≤ n → realized_below n s ≡ realized s
all_real n s h = ap (λ (resources : List Resource). record s { resources = resources }) (all_taken (made_real s) n s.resources h)

-- changes make no resource more or less
same_count : (f : Resource → Resource) (n : ℕ) (resources : List Resource) → length (map f (take n resources) ++ drop n resources) ≡ length resources
same_count f zero resources = refl
same_count f (suc n) [] = refl
same_count f (suc n) (r ∷ resources) = ap suc (same_count f n resources)

-- so there are as many as before
pub still_as_many : (n : ℕ) (s : State) → length (realized_below n s).resources ≡ length s.resources
still_as_many n s = same_count (made_real s) n s.resources

-- ---- what is due

-- the rest begins with the resource at the place
rest_at : (all : List Resource) (i : ℕ) (r : Resource) → slice_get all i ≡ Some r → drop i all ≡ r ∷ drop (suc i) all
rest_at [] i r h = cc
rest_at (q ∷ all) zero r h = let same : q ≡ r = cc in ap (λ (x : Resource). x ∷ all) same
rest_at (q ∷ all) (suc i) r h = rest_at all i r h

-- the same with the next place as the code counts it
rest_from : (all : List Resource) (i : ℕ) (r : Resource) → slice_get all i ≡ Some r → drop i all ≡ r ∷ drop (i + 1) all
rest_from all i r h = rest_at all i r h ∙ ap (λ n. r ∷ drop n all) (sym (add-one i))

module _ (s : State) (i : ℕ) (r : Resource) (here : slice_get s.resources i ≡ Some r) where
  -- what is due next is this one, or the next further on
  next_here : next_due s i (drop i s.resources) ≡ cond (is_due s i r) (Some (i, r)) (next_due s (i + 1) (drop (i + 1) s.resources))
  next_here = ap (next_due s i) (rest_from s.resources i r here)

  -- where this one is due, it is next
  pub due_here : is_due s i r ≡ true → next_due s i (drop i s.resources) ≡ Some (i, r)
  due_here h = next_here ∙ ap (λ (b : Bool). cond b (Some (i, r)) (next_due s (i + 1) (drop (i + 1) s.resources))) h

  -- where it isn't, the next is further on
  pub not_here : is_due s i r ≡ false → next_due s i (drop i s.resources) ≡ next_due s (i + 1) (drop (i + 1) s.resources)
  not_here h = next_here ∙ ap (λ (b : Bool). cond b (Some (i, r)) (next_due s (i + 1) (drop (i + 1) s.resources))) h

-- behind the last nothing is due
pub none_due : (s : State) (i : ℕ) → length s.resources ≤ i → next_due s i (drop i s.resources) ≡ None
none_due s i h = ap (next_due s i) (drop_all i s.resources h)

-- ---- rounds

-- something ran, and this is the state
abbrev as_run : State → Result (Bool × State) Refusal
as_run t = Ok (true, t)

module _ (site : Site) (s : State) where
  -- rounds go on behind what is due, if anything is
  round_by : (n : ℕ) (found : Option (ℕ × Resource)) → run_and_go_on site (rounds n site) found (realized s) ≡ (run_if_due site found (realized s) >>= λ x. cond x.0 (rounds n site x.1) (Ok x.1))
  round_by n None = refl
  round_by n (Some x) = by (resource_runs site x (realized s))
    where
      by : (r : Result State Refusal) → (r >>= rounds n site) ≡ ((r >>= as_run) >>= λ x. cond x.0 (rounds n site x.1) (Ok x.1))
      by (Ok t) = refl
      by (Err e) = refl

  -- one round more is one round and the others, if something ran
  next_round : (n : ℕ) → rounds (suc n) site s ≡ (one_round site s >>= λ x. cond x.0 (rounds n site x.1) (Ok x.1))
  next_round n = round_by n (next_due (realized s) 0 (realized s).resources)

  -- the same counted downwards
  counted : (n : ℕ) → 0 < n → rounds n site s ≡ (one_round site s >>= λ x. cond x.0 (rounds (n - 1) site x.1) (Ok x.1))
  counted zero h = absurd (omega arith)
  counted (suc n) h = next_round n ∙ ap (λ m. one_round site s >>= λ x. cond x.0 (rounds m site x.1) (Ok x.1)) (sym (suc-sub-suc n 0 ∙ sub-zero n))

  -- where something ran, one round less is left
  pub goes_on : (n : ℕ) (t : State) → 0 < n → one_round site s ≡ Ok (true, t) → rounds n site s ≡ rounds (n - 1) site t
  goes_on n t h k = counted n h ∙ ap (λ (r : Result (Bool × State) Refusal). r >>= λ x. cond x.0 (rounds (n - 1) site x.1) (Ok x.1)) k

  -- where nothing did, the rounds are over
  pub is_over : (n : ℕ) (t : State) → 0 < n → one_round site s ≡ Ok (false, t) → rounds n site s ≡ Ok t
  is_over n t h k = counted n h ∙ ap (λ (r : Result (Bool × State) Refusal). r >>= λ x. cond x.0 (rounds (n - 1) site x.1) (Ok x.1)) k

  -- where it is refused, all are
  pub is_refused : (n : ℕ) (e : Refusal) → 0 < n → one_round site s ≡ Err e → rounds n site s ≡ Err e
  is_refused n e h k = counted n h ∙ ap (λ (r : Result (Bool × State) Refusal). r >>= λ x. cond x.0 (rounds (n - 1) site x.1) (Ok x.1)) k

  -- what one round gives
  pub runs_due : (x : ℕ × Resource) (t : State) → next_due (realized s) 0 (realized s).resources ≡ Some x → resource_runs site x (realized s) ≡ Ok t → one_round site s ≡ Ok (true, t)
  runs_due x t h k = ap (λ found. run_if_due site found (realized s)) h ∙ ap (λ (r : Result State Refusal). r >>= as_run) k

  -- a refusal of what is due is one of the round
  pub refuses_due : (x : ℕ × Resource) (e : Refusal) → next_due (realized s) 0 (realized s).resources ≡ Some x → resource_runs site x (realized s) ≡ Err e → one_round site s ≡ Err e
  refuses_due x e h k = ap (λ found. run_if_due site found (realized s)) h ∙ ap (λ (r : Result State Refusal). r >>= as_run) k

  -- where nothing is due, the round only makes real
  pub nothing_due : next_due (realized s) 0 (realized s).resources ≡ None → one_round site s ≡ Ok (false, realized s)
  nothing_due h = ap (λ found. run_if_due site found (realized s)) h

-- ---- the whole

-- what is asked after the rounds is asked in turn
asked : (t : State) (r : Result State Refusal) (f : Result State Refusal) → (r >>= λ _. f >>= λ u. Ok (catalog_in u)) ≡ ((r >>= λ _. f) >>= λ u. Ok (catalog_in u))
asked t (Ok w) f = refl
asked t (Err e) f = refl

-- so it is behind the rounds
behind_rounds : (r : Result State Refusal) → (r >>= λ t. all_there t.pending t >>= λ _. few_enough t >>= λ u. Ok (catalog_in u)) ≡ (r >>= λ t. may_stand t >>= λ u. Ok (catalog_in u))
behind_rounds (Ok t) = asked t (all_there t.pending t) (few_enough t)
behind_rounds (Err e) = refl

-- the catalog is that after as many rounds
pub catalog_is : (n : ℕ) (site : Site) (items : List Item) (facts : Value) (limits : Limits)
    → (state_after n site items facts limits >>= λ t. all_there t.pending t >>= λ _. few_enough t >>= λ u. Ok (catalog_in u)) ≡ catalog_after n site items facts limits
catalog_is n site items facts limits = behind_rounds (run_all n site items (first_state facts limits))
