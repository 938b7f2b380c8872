-- What has been looked at needn't be looked at again.
use Rattle.std.proofs.Common.{◌≡◌, ℕ, zero, suc, ◌<◌, ◌≤◌, Bool, true, false, cond, ◌||◌, List, [], ◌∷◌, ◌++◌, map, length, take, drop, Option, Some, None, Result, Ok, Err, refl, sym, ap, subst, ◌∙◌, arith}
use Rattle.std.specs.Prelude.{slice_get}
use Rattle.std.specs.List.{list_any}
use Rattle.rh_base.specs.declared.fault.Refusal.{Refusal}
use Rattle.pp_value.specs.Values.{same_ref}
use Rattle.pp_eval.specs.Scoping.{defined_scope}
use Rattle.pp_eval.specs.Extending.{Begins}
use Rattle.pp_eval.specs.Growing.{begins_same}
use Rattle.catalog_semantics.specs.declared.catalog.Resource.{Resource}
use Rattle.catalog_semantics.specs.declared.state.Collector.{Collector}
use Rattle.catalog_semantics.specs.declared.state.Pending.{Pending}
use Rattle.catalog_semantics.specs.declared.state.State.{State}
use Rattle.catalog_semantics.specs.Sites.{Definition, Site, definition_of}
use Rattle.catalog_semantics.specs.Effects.{effect_of}
use Rattle.catalog_semantics.specs.Collecting.{matches}
use Rattle.catalog_semantics.specs.Catalogs.{is_called_for, made_real, realized, next_due, counted_as_run, type_runs, resource_runs}
use Rattle.catalog_semantics.specs.Frames.{Each, Extends, IsContainerAt}
use Rattle.catalog_semantics.proofs.Keeping.{body_keeps, statement_keeps}
use Rattle.catalog_semantics.proofs.Extending.{extending}
use Rattle.catalog_semantics.proofs.Whole.{due_contains}
use Rattle.pp_compile.specs.declared.looking.Looked.{Looked}
use Rattle.pp_compile.specs.Rounds.{realized_below}
use Rattle.pp_compile.specs.Looking.{called_by, IsLookedAt, AreLooked}
use Rattle.pp_declaration_state.proofs.MarkLaws.{or_assoc}

-- ---- some, and the others

-- one of a list passes where one of its front or of its back does
in_two : {X : Type 0} (f : X → Bool) (n : ℕ) (xs : List X) → list_any f xs ≡ (list_any f (take n xs) || list_any f (drop n xs))
in_two f zero xs = refl
in_two f (suc n) [] = refl
in_two f (suc n) (x ∷ xs) = ap (λ b. f x || b) (in_two f n xs) ∙ or_assoc (f x) (list_any f (take n xs)) (list_any f (drop n xs))

-- where the fronts pass nothing, the backs tell
neither : (a b c d : Bool) → (a || b) ≡ false → ((a || c) || (b || d)) ≡ (c || d)
neither false false c d h = refl
neither true b c d h = cc
neither false true c d h = cc

-- a virtual resource that was looked at is called for by what came later alone
pub others_call : (looked : Looked) (s : State) (r : Resource) → IsLookedAt looked s r → r.is_virtual ≡ true → is_called_for s r ≡ called_by (drop looked.collectors s.collectors) (drop looked.pending s.pending) r
others_call looked s r at h =
    (λ i. in_two (λ (c : Collector). matches c r) looked.collectors s.collectors i || in_two (λ (p : Pending). same_ref p.target r.id) looked.pending s.pending i)
    ∙ neither (list_any (λ c. matches c r) (take looked.collectors s.collectors)) (list_any (λ p. same_ref p.target r.id) (take looked.pending s.pending))
    (list_any (λ c. matches c r) (drop looked.collectors s.collectors)) (list_any (λ p. same_ref p.target r.id) (drop looked.pending s.pending)) (at h)

-- ---- the one at a place

-- behind those that are real already the others stand as they were
got_behind : (f : Resource → Resource) (n : ℕ) (resources : List Resource) → slice_get (map f (take n resources) ++ drop n resources) n ≡ slice_get resources n
got_behind f zero resources = refl
got_behind f (suc n) [] = refl
got_behind f (suc n) (r ∷ resources) = got_behind f n resources

-- a resource that was looked at is so when those before it are real
pub still_looked_at : (looked : Looked) (n : ℕ) (s : State) → AreLooked looked s → n < looked.resources → (r : Resource) → slice_get (realized_below n s).resources n ≡ Some r → IsLookedAt looked (realized_below n s) r
still_looked_at looked n s are low r here = are.resources n r low (sym (got_behind (made_real s) n s.resources) ∙ here)

-- ---- nothing, and all

-- where nothing is looked at, all that was is
pub none_are : (s : State) → AreLooked (record { collectors = 0; pending = 0; resources = 0 }) s
none_are s = record { collectors = omega arith; pending = omega arith; below = omega arith; resources = λ i r low here. absurd (omega arith) }

-- as many of a list as it has are all
all_of : {X : Type 0} (xs : List X) → take (length xs) xs ≡ xs
all_of [] = refl
all_of (x ∷ xs) = ap (λ (more : List _). x ∷ more) (all_of xs)

-- an image at a place is that of something
mapped_at : (f : Resource → Resource) (resources : List Resource) (i : ℕ) (r : Resource) → slice_get (map f resources) i ≡ Some r → (q : Resource) × (f q ≡ r)
mapped_at f [] i r h = cc
mapped_at f (q ∷ resources) zero r h = (q, same (f q) r h)
  where
    same : (x y : Resource) → ◌≡◌ {A = Option Resource} (Some x) (Some y) → x ≡ y
    same x y h = cc
mapped_at f (q ∷ resources) (suc i) r h = mapped_at f resources i r h

-- what stays virtual isn't called for
not_called : (s : State) (q : Resource) (b : Bool) → is_called_for s q ≡ b → (cond b (record q { is_virtual = false }) q).is_virtual ≡ true → is_called_for s (cond b (record q { is_virtual = false }) q) ≡ false
not_called s q true e h = cc
not_called s q false e h = e

-- so it is of what was made real where it is called for
called_now : (s : State) (q r : Resource) → made_real s q ≡ r → r.is_virtual ≡ true → is_called_for s r ≡ false
called_now s q r is h = subst (λ (x : Resource). x.is_virtual ≡ true → is_called_for s x ≡ false) is (not_called s q (is_called_for s q) refl) h

-- once all that is called for is real, all has been looked at
pub all_are : (s : State) → AreLooked (record { collectors = length s.collectors; pending = length s.pending; resources = length (realized s).resources }) (realized s)
all_are s = record {
  collectors = omega arith;
  pending = omega arith;
  below = omega arith;
  resources = λ i r low here h. let from = mapped_at (made_real s) s.resources i r here in
      (λ k. called_by (all_of s.collectors k) (all_of s.pending k) r) ∙ called_now s from.0 r from.1 h;
}

-- ---- more of all

-- a front of a front is one of the whole
take_front : {X : Type 0} (n : ℕ) (xs more : List X) → n ≤ length xs → take n (xs ++ more) ≡ take n xs
take_front zero xs more h = refl
take_front (suc n) [] more h = absurd (omega arith)
take_front (suc n) (x ∷ xs) more h = ap (λ (ys : List _). x ∷ ys) (take_front n xs more (omega arith))

-- what stands in front stands in the whole
got_front : (xs more : List Resource) (i : ℕ) → i < length xs → slice_get (xs ++ more) i ≡ slice_get xs i
got_front [] more i h = absurd (omega arith)
got_front (x ∷ xs) more zero h = refl
got_front (x ∷ xs) more (suc i) h = got_front xs more i (omega arith)

-- a front is no longer than the whole
length_front : {X : Type 0} (n : ℕ) (xs more : List X) → n ≤ length xs → n ≤ length (xs ++ more)
length_front zero xs more h = omega arith
length_front (suc n) [] more h = absurd (omega arith)
length_front (suc n) (x ∷ xs) more h = let low = length_front n xs more (omega arith) in omega arith

-- what is no more than a front is no more than what begins with it
begun_length : {X : Type 0} (n : ℕ) (xs ys : List X) → Begins xs ys → n ≤ length xs → n ≤ length ys
begun_length n xs ys begins h = subst (λ (zs : List _). n ≤ length zs) (sym begins.1) (length_front n xs begins.0 h)

-- a front stays when more goes behind
begun_take : {X : Type 0} (n : ℕ) (xs ys : List X) → Begins xs ys → n ≤ length xs → take n ys ≡ take n xs
begun_take n xs ys begins h = ap (take n) begins.1 ∙ take_front n xs begins.0 h

-- resources, collectors and realizations go behind those that stand
abbrev pub Grows : State → State → Type 0
Grows s t = Begins s.resources t.resources × (Begins s.collectors t.collectors × Begins s.pending t.pending)

-- what was looked at is so when more goes behind
pub still_are : (looked : Looked) (s t : State) → Grows s t → AreLooked looked s → AreLooked looked t
still_are looked s t grows are = record {
  collectors = begun_length looked.collectors s.collectors t.collectors grows.1.0 are.collectors;
  pending = begun_length looked.pending s.pending t.pending grows.1.1 are.pending;
  below = begun_length looked.resources s.resources t.resources grows.0 are.below;
  resources = λ i r low here h. let bound = are.below in
      (λ k. called_by (begun_take looked.collectors s.collectors t.collectors grows.1.0 are.collectors k) (begun_take looked.pending s.pending t.pending grows.1.1 are.pending k) r)
      ∙ are.resources i r low (sym (got_front s.resources grows.0.0 i (omega arith)) ∙ (ap (λ (rs : List Resource). slice_get rs i) (sym grows.0.1) ∙ here)) h;
}

-- ---- a run

-- a body that only adds makes these grow
grown : (place : ℕ) (s : State) (x : Result State Refusal) → Each (Extends (counted_as_run place s)) x → (t : State) → x ≡ Ok t → Grows s t
grown place s (Ok u) h t e = subst (Grows s) (same u t e) (h.resources, (h.collectors, h.pending))
  where
    same : (u t : State) → ◌≡◌ {A = Result State Refusal} (Ok u) (Ok t) → u ≡ t
    same u t e = cc
grown place s (Err e) h t k = cc

-- so does the body of a defined resource that runs
runs_grow : (site : Site) (place : ℕ) (r : Resource) (d : Option Definition) (s t : State) → IsContainerAt place s.resources → type_runs site place r d s ≡ Ok t → Grows s t
runs_grow site place r None s t at h = subst (Grows s) (same (counted_as_run place s) t h) (begins_same s.resources, (begins_same s.collectors, begins_same s.pending))
  where
    same : (u t : State) → ◌≡◌ {A = Result State Refusal} (Ok u) (Ok t) → u ≡ t
    same u t e = cc
runs_grow site place r (Some d) s t at h =
    grown place s (type_runs site place r (Some d) s) (body_keeps Extends extending (effect_of site) (statement_keeps Extends extending site) d place r defined_scope (counted_as_run place s) at) t h

-- so does one that is due
pub due_grows : (site : Site) (s : State) (x : ℕ × Resource) (t : State) → next_due s 0 s.resources ≡ Some x → resource_runs site x s ≡ Ok t → Grows s t
due_grows site s x t due h = runs_grow site x.0 x.1 (definition_of x.1.id.kind site.defined_types) s t (due_contains s x due) h

-- after a round in which something runs
pub looked_on : (site : Site) (s r t : State) (looked : Looked) (x : ℕ × Resource) → r ≡ realized s → looked ≡ record { collectors = length r.collectors; pending = length r.pending; resources = length r.resources }
    → next_due r 0 r.resources ≡ Some x → resource_runs site x r ≡ Ok t → AreLooked looked t
looked_on site s r t looked x is all due runs =
    still_are looked r t (due_grows site r x t due runs)
    (subst (λ (l : Looked). AreLooked l r) (sym all)
    (subst (λ (u : State). AreLooked (record { collectors = length u.collectors; pending = length u.pending; resources = length u.resources }) u) (sym is) (all_are s)))
