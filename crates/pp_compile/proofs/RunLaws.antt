-- The body of a defined resource, from its beginning to its end.
use Rattle.std.proofs.Common.{◌≡◌, ℕ, ◌-◌, List, [], ◌∷◌, ◌++◌, map, length, Option, Result, Ok, Err, refl, sym, ap, subst, ◌∙◌, arith, length-append}
use Rattle.std.specs.Prelude.{slice_get, option_and_then}
use Rattle.rh_base.specs.declared.fault.Refusal.{Refusal}
use Rattle.pp_syntax.specs.declared.tree.Stmt.{Stmt}
use Rattle.pp_eval.specs.declared.scope.Scope.{Scope}
use Rattle.pp_eval.specs.Evaluating.{◌>>=◌}
use Rattle.pp_eval.specs.Growing.{inner_stays}
use Rattle.pp_eval.specs.Scoping.{entered, left, defined_scope, current_scope, IsInner, IsInnerSort}
use Rattle.catalog_semantics.specs.declared.catalog.Resource.{Resource}
use Rattle.catalog_semantics.specs.declared.state.State.{State}
use Rattle.catalog_semantics.specs.Sites.{Definition, Site}
use Rattle.catalog_semantics.specs.States.{Effect, in_turn}
use Rattle.catalog_semantics.specs.Declaring.{all_known, opened, begun, ended, body_begins, body_runs}
use Rattle.catalog_semantics.specs.Effects.{effect_of}
use Rattle.catalog_semantics.specs.Frames.{Each, Extends}
use Rattle.catalog_semantics.proofs.Keeping.{all_keep, statement_keeps}
use Rattle.catalog_semantics.proofs.Extending.{extending, openings_only_add}
use Rattle.pp_declared_bodies.specs.Beginning.{body_ends}
use Rattle.pp_declarations.proofs.BodyLaws.{same_state, got_last}

-- ---- the whole

module _ (run : Stmt → Effect) (d : Definition) (place : ℕ) (r : Resource) (scope : Scope) (s : State) where
  -- a body begins, and then runs to its end
  goes_by : (x : Result State Refusal) → body_begins d place r scope s ≡ x → body_runs run d place r scope s ≡ (x >>= body_ends run d s.running)
  goes_by x h = ap (λ (y : Result State Refusal). y >>= body_ends run d s.running) h

  -- one that doesn't begin is refused so
  pub not_begun : (e : Refusal) → body_begins d place r scope s ≡ Err e → body_runs run d place r scope s ≡ Err e
  not_begun e h = goes_by (Err e) h

  -- a statement that is refused refuses the body
  pub body_refused : (t : State) (e : Refusal) → body_begins d place r scope s ≡ Ok t → in_turn (map run d.body) t ≡ Err e → body_runs run d place r scope s ≡ Err e
  body_refused t e h k = goes_by (Ok t) h ∙ ap (λ (x : Result State Refusal). x >>= λ u. Ok (ended (record t { running = s.running }) u)) k

  -- a body that runs to its end leaves what ran before running, in its scope
  pub body_ended : (t u : State) → body_begins d place r scope s ≡ Ok t → in_turn (map run d.body) t ≡ Ok u → body_runs run d place r scope s ≡ Ok (record u { running = s.running; scopes = left u.scopes })
  body_ended t u h k = goes_by (Ok t) h ∙ ap (λ (x : Result State Refusal). x >>= λ w. Ok (ended (record t { running = s.running }) w)) k

-- ---- its scope

-- the scope that is entered is the current one, and is one of a class or a defined resource
inner_last : (open_ones : List ℕ) (place : ℕ) (scopes : List Scope) (scope : Scope) → place ≡ length scopes → IsInnerSort scope.sort
    → IsInner (option_and_then (slice_get (scopes ++ scope ∷ [])) (slice_get (open_ones ++ place ∷ []) (length (open_ones ++ place ∷ []) - 1)))
inner_last open_ones place scopes scope is h =
    subst (λ n. IsInner (option_and_then (slice_get (scopes ++ scope ∷ [])) (slice_get (open_ones ++ place ∷ []) n))) (sym last)
    (subst (λ (o : Option ℕ). IsInner (option_and_then (slice_get (scopes ++ scope ∷ [])) o)) (sym (got_last open_ones place))
    (subst (λ n. IsInner (slice_get (scopes ++ scope ∷ []) n)) (sym is) (subst IsInner (sym (got_last scopes scope)) h)))
  where
    last : length (open_ones ++ place ∷ []) - 1 ≡ length open_ones
    last = let more = length-append open_ones (place ∷ []) in omega arith

-- so it is of the body that is opened
by_opened : (d : Definition) (place : ℕ) (s t : State) (k o : Result State Refusal) → ((u : State) → o ≡ Ok u → IsInner (current_scope u.scopes)) → (k >>= λ _. o >>= λ u. Ok (begun place u)) ≡ Ok t → IsInner (current_scope t.scopes)
by_opened d place s t (Ok w) (Ok u) f h = subst (λ (v : State). IsInner (current_scope v.scopes)) (same_state (begun place u) t h) (f u refl)
by_opened d place s t (Ok w) (Err e) f h = cc
by_opened d place s t (Err e) o f h = cc

-- the body of a defined resource begins in its scope
pub inner_begun : (d : Definition) (place : ℕ) (r : Resource) (s t : State) → body_begins d place r defined_scope s ≡ Ok t → IsInner (current_scope t.scopes)
inner_begun d place r s t h =
    by_opened d place s t (all_known r.at d.parameters r.attrs s) (opened d r defined_scope s)
    (λ u is. inner_stays (entered s.scopes defined_scope) u.scopes (openings_only_add d r defined_scope s u is).scopes (inner_last s.scopes.1 (length s.scopes.0) s.scopes.0 defined_scope refl tt)) h

-- the statements of a body end in such a scope where they began in one
pub inner_still : (site : Site) (body : List Stmt) (s t : State) → in_turn (map (effect_of site) body) s ≡ Ok t → IsInner (current_scope s.scopes) → IsInner (current_scope t.scopes)
inner_still site body s t h k =
    inner_stays s.scopes t.scopes (subst (Each (Extends s)) h (all_keep Extends extending (effect_of site) body (statement_keeps Extends extending site) s)).scopes k
