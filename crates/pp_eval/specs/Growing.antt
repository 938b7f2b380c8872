-- What only adds to scopes, as laws that the crates above cite.
use Rattle.std.proofs.Common.{◌≡◌, ℕ, zero, suc, ◌-◌, Bool, true, false, cond, List, [], ◌∷◌, ◌++◌, length, take, Option, Some, None, refl, sym, ap, subst, ◌∙◌, append_assoc, length-append, arith}
use Rattle.std.specs.Prelude.{slice_get, option_and_then, IsSome}
use Rattle.std.proofs.lemmas.List.{append-nil, take_at}
use Rattle.pp_value.specs.declared.value.Value.{Value}
use Rattle.pp_value.specs.Values.{Pair, value_at}
use Rattle.std.specs.Str.{bytes_eq}
use Rattle.pp_eval.specs.declared.scope.Scope.{Scope}
use Rattle.pp_eval.specs.declared.scope.Sort.{Sort}
use Rattle.pp_eval.specs.Scoping.{Scoped, bindings_at, with_bindings_at, with_binding, bindings_now, place_now, entered, left, current_place, current_scope, IsInner, IsInnerSort, class_of, is_class_of}
use Rattle.pp_eval.specs.Extending.{Begins, ScopesGrow, Extends}

pub begins_same : {A : Type 0} (xs : List A) → Begins xs xs
begins_same xs = ([], sym (append-nil xs))

pub begins_joined : {A : Type 0} (xs ys zs : List A) → Begins xs ys → Begins ys zs → Begins xs zs
begins_joined xs ys zs h k = (h.0 ++ k.0, k.1 ∙ (ap (λ w. w ++ k.0) h.1 ∙ append_assoc xs h.0 k.0))

pub begins_more : {A : Type 0} (xs more : List A) → Begins xs (xs ++ more)
begins_more xs more = (more, refl)

grow_same : (scopes : List Scope) → ScopesGrow scopes scopes
grow_same [] = tt
grow_same (s ∷ scopes) = ((refl, refl, begins_same s.bindings), grow_same scopes)

grow_joined : (a b c : List Scope) → ScopesGrow a b → ScopesGrow b c → ScopesGrow a c
grow_joined [] b c h k = tt
grow_joined (x ∷ a) [] c h k = absurd h
grow_joined (x ∷ a) (y ∷ b) [] h k = absurd k
grow_joined (x ∷ a) (y ∷ b) (z ∷ c) h k =
    ((k.0.0 ∙ h.0.0, k.0.1 ∙ h.0.1, begins_joined x.bindings y.bindings z.bindings h.0.2 k.0.2), grow_joined a b c h.1 k.1)

grow_bound : (place : ℕ) (more : List Pair) (scopes : List Scope)
    → ScopesGrow scopes (with_bindings_at place (bindings_at place scopes ++ more) scopes)
grow_bound place more [] = tt
grow_bound zero more (s ∷ scopes) = ((refl, refl, begins_more s.bindings more), grow_same scopes)
grow_bound (suc place) more (s ∷ scopes) = ((refl, refl, begins_same s.bindings), grow_bound place more scopes)

grow_more : (scopes more : List Scope) → ScopesGrow scopes (scopes ++ more)
grow_more [] more = tt
grow_more (s ∷ scopes) more = ((refl, refl, begins_same s.bindings), grow_more scopes more)

front_is : (xs : List ℕ) (x : ℕ) → take (length (xs ++ x ∷ []) - 1) (xs ++ x ∷ []) ≡ xs
front_is xs x = take_at xs (x ∷ []) (length (xs ++ x ∷ []) - 1) (omega (arith, length-append xs (x ∷ [])))

pub same_extends : (s : Scoped) → Extends s s
same_extends s = record { open_ones = refl; scopes = grow_same s.0 }

pub extends_joined : (s t u : Scoped) → Extends s t → Extends t u → Extends s u
extends_joined s t u h k = record { open_ones = k.open_ones ∙ h.open_ones; scopes = grow_joined s.0 t.0 u.0 h.scopes k.scopes }

pub bound_extends : (s : Scoped) (name : List ℕ) (x : Value) → Extends s (with_binding name x s)
bound_extends s name x = record { open_ones = refl; scopes = grow_bound (place_now s.1) ((name, x) ∷ []) s.0 }

pub body_extends : (s t : Scoped) (scope : Scope) → Extends (entered s scope) t → Extends s (left t)
body_extends s t scope h = record {
  open_ones = ap (λ (o : List ℕ). take (length o - 1) o) h.open_ones ∙ front_is s.1 (length s.0);
  scopes = grow_joined s.0 (s.0 ++ scope ∷ []) t.0 (grow_more s.0 (scope ∷ [])) h.scopes;
}

-- ---- what stays

value_before : (name : List ℕ) (x : Value) (old more : List Pair) → value_at name old ≡ Some x → value_at name (old ++ more) ≡ Some x
value_before name x [] more h = cc
value_before name x (p ∷ old) more h = by_test (bytes_eq p.0 name) (value_before name x old more) h
  where
    by_test : (t : Bool) → (value_at name old ≡ Some x → value_at name (old ++ more) ≡ Some x)
        → cond t (Some p.1) (value_at name old) ≡ Some x → cond t (Some p.1) (value_at name (old ++ more)) ≡ Some x
    by_test true f k = k
    by_test false f k = f k

bound_at : (place : ℕ) (name : List ℕ) (x : Value) (old new : List Scope) → ScopesGrow old new
    → value_at name (bindings_at place old) ≡ Some x → value_at name (bindings_at place new) ≡ Some x
bound_at place name x [] new h k = cc
bound_at place name x (a ∷ old) [] h k = absurd h
bound_at zero name x (a ∷ old) (b ∷ new) h k = ap (value_at name) h.0.2.1 ∙ value_before name x a.bindings h.0.2.0 k
bound_at (suc place) name x (a ∷ old) (b ∷ new) h k = bound_at place name x old new h.1 k

pub bound_stays : (s t : Scoped) (name : List ℕ) (x : Value) → Extends s t → value_at name (bindings_now s) ≡ Some x
    → value_at name (bindings_now t) ≡ Some x
bound_stays s t name x h k =
    ap (λ (o : List ℕ). value_at name (bindings_at (place_now o) t.0)) h.open_ones ∙ bound_at (place_now s.1) name x s.0 t.0 h.scopes k

inner_at : (place : ℕ) (old new : List Scope) → ScopesGrow old new → IsInner (slice_get old place) → IsInner (slice_get new place)
inner_at place [] new h k = absurd k
inner_at place (a ∷ old) [] h k = absurd h
inner_at zero (a ∷ old) (b ∷ new) h k = subst IsInnerSort (sym h.0.0) k
inner_at (suc place) (a ∷ old) (b ∷ new) h k = inner_at place old new h.1 k

inner_opt : (place : Option ℕ) (old new : List Scope) → ScopesGrow old new
    → IsInner (option_and_then (slice_get old) place) → IsInner (option_and_then (slice_get new) place)
inner_opt None old new h k = absurd k
inner_opt (Some place) old new h k = inner_at place old new h k

pub inner_stays : (s t : Scoped) → Extends s t → IsInner (current_scope s) → IsInner (current_scope t)
inner_stays s t h k =
    subst (λ (o : List ℕ). IsInner (option_and_then (slice_get t.0) (current_place o))) (sym h.open_ones)
    (inner_opt (current_place s.1) s.0 t.0 h.scopes k)

some_by : (t : Bool) (a b : Scope) (o r : Option Scope) → (IsSome o → IsSome r) → IsSome (cond t (Some a) o) → IsSome (cond t (Some b) r)
some_by true a b o r f h = refl
some_by false a b o r f h = f h

class_found : (name : List ℕ) (old new : List Scope) → ScopesGrow old new → IsSome (class_of old name) → IsSome (class_of new name)
class_found name [] new h k = cc
class_found name (a ∷ old) [] h k = absurd h
class_found name (a ∷ old) (b ∷ new) h k =
    subst (λ (s : Sort). IsSome (cond (is_class_of name s) (Some b) (class_of new name))) (sym h.0.0)
    (some_by (is_class_of name a.sort) a b (class_of old name) (class_of new name) (class_found name old new h.1) k)

pub class_stays : (s t : Scoped) (name : List ℕ) → Extends s t → IsSome (class_of s.0 name) → IsSome (class_of t.0 name)
class_stays s t name h k = class_found name s.0 t.0 h.scopes k
