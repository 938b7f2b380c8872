-- How bodies begin, and what stays meanwhile.
use Rattle.std.proofs.Common.{◌≡◌, ◌⊎◌, inl, inr, ℕ, ◌+◌, Bool, true, false, cond, ◌||◌, List, [], ◌∷◌, ◌++◌, length, refl, sym, ap, ◌∙◌}
use Rattle.std.specs.Prelude.{nat_lt, is_some, codes, Option, Some, Result, Ok, Err}
use Rattle.rh_base.specs.declared.fault.Refusal.{Refusal}
use Rattle.host_limits.specs.Limits.{declared_limit}
use Rattle.pp_syntax.specs.declared.tree.Stmt.{Stmt}
use Rattle.pp_value.specs.declared.value.Ref.{Ref}
use Rattle.pp_value.specs.Values.{same_ref}
use Rattle.pp_value.specs.Shown.{shown_ref}
use Rattle.pp_eval.specs.Evaluating.{◌>>=◌, refusal}
use Rattle.pp_eval.specs.Scoping.{class_scope}
use Rattle.catalog_semantics.specs.declared.catalog.Resource.{Resource}
use Rattle.catalog_semantics.specs.declared.state.State.{State}
use Rattle.catalog_semantics.specs.Sites.{Definition}
use Rattle.catalog_semantics.specs.States.{Effect, references_of, stands_in, is_declared, place_from, place_of, is_new, has_room, within_size, added, with_resource, as_added, attributes_limit, size_of_resources}
use Rattle.catalog_semantics.specs.Declaring.{body_begins, body_runs, class_runs}
use Rattle.pp_declared_bodies.specs.Beginning.{may_begin, class_added, class_begins, body_ends, class_goes}

-- ---- a place, or none

-- a place is there, here or further on, where one of the two is
place_head : (n : ℕ) (t : Bool) (o : Option ℕ) (b : Bool) → is_some o ≡ b → is_some (cond t (Some n) o) ≡ cond t true b
place_head n true o b h = refl
place_head n false o b h = h

-- a choice of true and a test is a disjunction
or_is : (t b : Bool) → cond t true b ≡ (t || b)
or_is true b = refl
or_is false b = refl

-- a reference has a place exactly where it stands
stands_at : (n : ℕ) (ref : Ref) (refs : List Ref) → is_some (place_from n ref refs) ≡ stands_in ref refs
stands_at n ref [] = refl
stands_at n ref (q ∷ refs) = place_head n (same_ref q ref) (place_from (n + 1) ref refs) (stands_in ref refs) (stands_at (n + 1) ref refs) ∙ or_is (same_ref q ref) (stands_in ref refs)

-- what is declared has a place
pub declared_at : (ref : Ref) (s : State) → is_some (place_of ref s.resources) ≡ is_declared ref s
declared_at ref s = stands_at 0 ref (references_of s.resources)

-- ---- adding a class

-- where one may run, or the class stands already, it is added as a resource is
by_new : (r : Resource) (s : State) (b : Bool) → is_declared r.id s ≡ b → (may : Bool) → (may ≡ true) ⊎ (b ≡ true) → class_added may r s ≡ added r s
by_new r s true h may k =
    ap (λ t. cond t (Err (refusal 24 r.at (shown_ref r.id))) (Ok s) >>= λ _. may_begin r.at may s >>= λ _. added r s) h
    ∙ sym (ap (λ t. cond t (Err (refusal 24 r.at (shown_ref r.id))) (Ok s) >>= λ _. has_room r s >>= λ _. within_size r.at (s.resources ++ as_added s r ∷ []) >>= λ _. Ok (with_resource s (as_added s r))) h)
by_new r s false h true k =
    ap (λ t. cond t (Err (refusal 24 r.at (shown_ref r.id))) (Ok s) >>= λ _. may_begin r.at true s >>= λ _. added r s) h
by_new r s false h false (inl e) = cc
by_new r s false h false (inr e) = cc

-- where there is room a class is added as a resource is
pub is_added : (r : Resource) (s : State) → class_added true r s ≡ added r s
is_added r s = by_new r s (is_declared r.id s) refl true (inl refl)

-- a class that stands already is refused as such, whether there is room or not
pub not_new : (may : Bool) (r : Resource) (s : State) → is_some (place_of r.id s.resources) ≡ true → class_added may r s ≡ added r s
not_new may r s h = by_new r s (is_declared r.id s) refl may (inr (sym (declared_at r.id s) ∙ h))

-- a new one without room is refused with code 32
pub may_not : (r : Resource) (s : State) → is_some (place_of r.id s.resources) ≡ false → class_added false r s ≡ Err (refusal 32 r.at (codes "declared"))
may_not r s h = ap (λ t. cond t (Err (refusal 24 r.at (shown_ref r.id))) (Ok s) >>= λ _. may_begin r.at false s >>= λ _. added r s) (sym (declared_at r.id s) ∙ h)

-- ---- what stays

-- equal results have equal states
same_state : (s t : State) → ◌≡◌ {A = Result State Refusal} (Ok s) (Ok t) → s ≡ t
same_state s t h = cc

module _ (r : Resource) (s t : State) where
  -- what is added within the size is the state with the resource
  sized : (b : Bool) → (cond b (Err (refusal 32 r.at (codes "attributes"))) (Ok (s.resources ++ as_added s r ∷ [])) >>= λ _. Ok (with_resource s (as_added s r))) ≡ Ok t → with_resource s (as_added s r) ≡ t
  sized true h = cc
  sized false h = same_state (with_resource s (as_added s r)) t h

  -- so it is where there is room for one more
  roomy : (b : Bool) → (cond b (Ok s) (Err (refusal 32 r.at (codes "declared"))) >>= λ _. within_size r.at (s.resources ++ as_added s r ∷ []) >>= λ _. Ok (with_resource s (as_added s r))) ≡ Ok t → with_resource s (as_added s r) ≡ t
  roomy true h = sized (nat_lt attributes_limit (size_of_resources (s.resources ++ as_added s r ∷ []))) h
  roomy false h = cc

  -- and where the reference is new
  newly : (b : Bool) → (cond b (Err (refusal 24 r.at (shown_ref r.id))) (Ok s) >>= λ _. has_room r s >>= λ _. within_size r.at (s.resources ++ as_added s r ∷ []) >>= λ _. Ok (with_resource s (as_added s r))) ≡ Ok t → (b ≡ false) × (with_resource s (as_added s r) ≡ t)
  newly true h = cc
  newly false h = (refl, roomy (nat_lt (length s.resources) (declared_limit s.limits)) h)

  -- a resource that is added is new, and the state is the one with it
  added_is : added r s ≡ Ok t → (is_declared r.id s ≡ false) × (with_resource s (as_added s r) ≡ t)
  added_is h = newly (is_declared r.id s) h

  -- a class that is added where one may run is added
  may_run : (b : Bool) → (may_begin r.at b s >>= λ _. added r s) ≡ Ok t → added r s ≡ Ok t
  may_run true h = h
  may_run false h = cc

  -- so it is where the reference is new
  class_newly : (may b : Bool) → (cond b (Err (refusal 24 r.at (shown_ref r.id))) (Ok s) >>= λ _. may_begin r.at may s >>= λ _. added r s) ≡ Ok t → added r s ≡ Ok t
  class_newly may true h = cc
  class_newly may false h = may_run may h

  -- adding a class changes nothing that runs
  pub running_stays : (may : Bool) → class_added may r s ≡ Ok t → t.running ≡ s.running
  running_stays may h = sym (ap (λ (u : State). u.running) (added_is (class_newly may (is_declared r.id s) h)).1)

-- a class that is added begins as a body does
pub begins_added : (may : Bool) (d : Definition) (r : Resource) (s t : State) → class_added may r s ≡ Ok t
    → class_begins may d r s ≡ body_begins d (length s.resources) r (class_scope t.scopes.0 d.name d.parent) t
begins_added may d r s t h = ap (λ (x : Result State Refusal). x >>= λ u. body_begins d (length s.resources) r (class_scope u.scopes.0 d.name d.parent) u) h

-- ---- the whole of a class

-- a class that is added begins, and then runs to its end
class_by : (run : Stmt → Effect) (d : Definition) (r : Resource) (s : State) (x : Result State Refusal) → ((t : State) → x ≡ Ok t → t.running ≡ s.running)
    → (x >>= λ t. body_runs run d (length s.resources) r (class_scope t.scopes.0 d.name d.parent) t)
    ≡ ((x >>= λ t. body_begins d (length s.resources) r (class_scope t.scopes.0 d.name d.parent) t) >>= body_ends run d s.running)
class_by run d r s (Ok t) h =
    ap (λ (before : Option ℕ). body_begins d (length s.resources) r (class_scope t.scopes.0 d.name d.parent) t >>= body_ends run d before) (h t refl)
class_by run d r s (Err e) h = refl

-- what is asked before a class runs is asked before it is added
joined_up : (run : Stmt → Effect) (d : Definition) (r : Resource) (s : State) (k : Result State Refusal)
    → (k >>= λ _. added r s >>= λ t. body_runs run d (length s.resources) r (class_scope t.scopes.0 d.name d.parent) t)
    ≡ ((k >>= λ _. added r s) >>= λ t. body_runs run d (length s.resources) r (class_scope t.scopes.0 d.name d.parent) t)
joined_up run d r s (Ok w) = refl
joined_up run d r s (Err e) = refl

-- a class runs as it begins and runs to its end
pub class_is : (run : Stmt → Effect) (d : Definition) (r : Resource) (s : State) → class_runs (Some run) d r s ≡ class_goes run d r s
class_is run d r s = joined_up run d r s (is_new r s) ∙ class_by run d r s (class_added true r s) (λ t h. running_stays r s t true h)
