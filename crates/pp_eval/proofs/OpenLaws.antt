-- What all scopes are stays so.
use Rattle.std.proofs.Common.{◌≡◌, ◌⊎◌, inl, inr, ℕ, zero, suc, ◌+◌, ◌-◌, ◌<◌, ◌≤◌, List, [], ◌∷◌, ◌++◌, length, Option, Some, Result, Ok, Err, refl, sym, ap, subst, ◌∙◌, length-append, arith}
use Rattle.std.specs.Prelude.{slice_get, unwrap_or}
use Rattle.std.specs.List.{AllByRecursion}
use Rattle.pp_value.specs.declared.value.Value.{Value}
use Rattle.pp_value.specs.Values.{Pair}
use Rattle.pp_eval.specs.declared.scope.Scope.{Scope}
use Rattle.pp_eval.specs.declared.scopes.BindFault.{BindFault}
use Rattle.pp_eval.specs.declared.scopes.BindFault.TheVariants as fault
use Rattle.pp_eval.specs.Inheriting.{ParentsStandBefore}
use Rattle.pp_eval.specs.Scoping.{AreScopes, HasTop, BeginsWithTop, BindsAt, bindings_at, with_bindings_at}
use Rattle.pp_eval.proofs.Inheritance.{last_or_not}

-- each place is below this number
abbrev Below : ℕ → List ℕ → Type 0
Below n places = AllByRecursion (λ place. place < n) places

-- a place among those below a number, or 0, is below it
below_get : (n : ℕ) (places : List ℕ) (i : ℕ) → 0 < n → Below n places → unwrap_or (slice_get places i) 0 < n
below_get n [] i some h = some
below_get n (x ∷ places) zero some h = h.0
below_get n (x ∷ places) (suc i) some h = below_get n places i some h.1

-- ---- entering

-- what is below a number is below a greater one
below_later : (n m : ℕ) (places : List ℕ) → n ≤ m → Below n places → Below m places
below_later n m [] h all = tt
below_later n m (x ∷ places) h all = let low = all.0 in (omega arith, below_later n m places h all.1)

-- two lists of such places make one
below_append : (n : ℕ) (xs ys : List ℕ) → Below n xs → Below n ys → Below n (xs ++ ys)
below_append n [] ys h k = k
below_append n (x ∷ xs) ys h k = (h.0, below_append n xs ys h.1 k)

-- with more scopes the first is still the top
top_append : (scopes more : List Scope) → HasTop scopes → HasTop (scopes ++ more)
top_append [] more h = absurd h
top_append (s ∷ scopes) more h = h

-- with more open ones the first is still the top's
begins_append : (opened more : List ℕ) → BeginsWithTop opened → BeginsWithTop (opened ++ more)
begins_append [] more h = absurd h
begins_append (p ∷ opened) more h = h

-- the place, if there is one, is below this number
abbrev pub PlaceBelow : ℕ → Option ℕ → Type 0
PlaceBelow n o = (place : ℕ) → o ≡ Some place → place < n

-- with one more scope whose parent stands before, all do
parents_append : (scopes : List Scope) (s : Scope) → ParentsStandBefore scopes → PlaceBelow (length scopes) s.parent → ParentsStandBefore (scopes ++ s ∷ [])
parents_append scopes s before low place parent c here is = either (last_or_not scopes s place c here)
  where
    either : (slice_get scopes place ≡ Some c) ⊎ ((place ≡ length scopes) × (s ≡ c)) → parent < place
    either (inl e) = before place parent c e is
    either (inr e) = let below = low parent (ap (λ (x : Scope). x.parent) e.1 ∙ is) in let at = e.0 in omega arith

-- entering a scope keeps what all scopes are
pub entered_are : (scopes : List Scope) (opened : List ℕ) (s : Scope) → AreScopes scopes opened → PlaceBelow (length scopes) s.parent → AreScopes (scopes ++ s ∷ []) (opened ++ length scopes ∷ [])
entered_are scopes opened s h low =
    let more : length (scopes ++ s ∷ []) ≡ length scopes + 1 = length-append scopes (s ∷ []) in
    record {
      top = top_append scopes (s ∷ []) h.top;
      begins = begins_append opened (length scopes ∷ []) h.begins;
      below = below_append (length (scopes ++ s ∷ [])) opened (length scopes ∷ []) (below_later (length scopes) (length (scopes ++ s ∷ [])) opened (omega arith) h.below) (omega arith, tt);
      parents = parents_append scopes s h.parents low;
    }

-- ---- binding

-- bindings make no scope more or less
as_many : (place : ℕ) (b : List Pair) (scopes : List Scope) → length (with_bindings_at place b scopes) ≡ length scopes
as_many place b [] = refl
as_many zero b (s ∷ scopes) = refl
as_many (suc place) b (s ∷ scopes) = ap suc (as_many place b scopes)

-- bindings leave the top first
top_kept : (place : ℕ) (b : List Pair) (scopes : List Scope) → HasTop scopes → HasTop (with_bindings_at place b scopes)
top_kept place b [] h = h
top_kept zero b (s ∷ scopes) h = h
top_kept (suc place) b (s ∷ scopes) h = h

-- bindings leave each scope its parent
parent_kept : (place : ℕ) (b : List Pair) (scopes : List Scope) (i : ℕ) (s : Scope) → slice_get (with_bindings_at place b scopes) i ≡ Some s → (t : Scope) × ((slice_get scopes i ≡ Some t) × (t.parent ≡ s.parent))
parent_kept place b [] i s h = cc
parent_kept zero b (t ∷ scopes) zero s h = (t, (refl, parent_of (record { sort = t.sort; parent = t.parent; bindings = b }) s h))
  where
    parent_of : (x y : Scope) → ◌≡◌ {A = Option Scope} (Some x) (Some y) → x.parent ≡ y.parent
    parent_of x y e = let same : x ≡ y = cc in ap (λ (z : Scope). z.parent) same
parent_kept zero b (t ∷ scopes) (suc i) s h = (s, (h, refl))
parent_kept (suc place) b (t ∷ scopes) zero s h = (s, (h, refl))
parent_kept (suc place) b (t ∷ scopes) (suc i) s h = parent_kept place b scopes i s h

-- bindings keep what all scopes are
with_bindings_are : (place : ℕ) (b : List Pair) (scopes : List Scope) (opened : List ℕ) → AreScopes scopes opened → AreScopes (with_bindings_at place b scopes) opened
with_bindings_are place b scopes opened h = record {
  top = top_kept place b scopes h.top;
  begins = h.begins;
  below = subst (λ n. Below n opened) (sym (as_many place b scopes)) h.below;
  parents = λ i parent s here is. let t = parent_kept place b scopes i s here in h.parents i parent t.0 t.1.0 (t.1.1 ∙ is);
}

-- so does binding a name
pub bound_are : (place : ℕ) (old : List Scope) (name : List ℕ) (x : Value) (new : List Scope) (r : Result (Unit {0}) BindFault) (opened : List ℕ) → BindsAt place old name x new r → AreScopes old opened → AreScopes new opened
bound_are place old name x new (Ok done) opened h are =
    subst (λ (s : List Scope). AreScopes s opened) (sym h.1) (with_bindings_are place (bindings_at place old ++ (name, x) ∷ []) old opened are)
bound_are place old name x new (Err fault.Again) opened h are = subst (λ (s : List Scope). AreScopes s opened) (sym h.1) are
bound_are place old name x new (Err (fault.Memory m)) opened h are = subst (λ (s : List Scope). AreScopes s opened) (sym h.1) are
