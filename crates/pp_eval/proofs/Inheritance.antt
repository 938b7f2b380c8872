-- Looking through inherited classes ends, since parents stand before.
use Rattle.std.proofs.Common.{◌≡◌, ◌⊎◌, inl, inr, ℕ, zero, suc, ◌+◌, ◌<◌, Bool, true, false, cond, List, [], ◌∷◌, ◌++◌, length, Option, Some, None, refl, ap, sym, ◌∙◌, arith}
use Rattle.std.specs.Prelude.{slice_get, option_and_then}
use Rattle.pp_value.specs.Values.{value_at}
use Rattle.pp_eval.specs.declared.scope.Scope.{Scope}
use Rattle.pp_eval.specs.Scoping.{Scoped, or_else, in_class, is_class_of, class_place, class_scope, entered}
use Rattle.pp_eval.specs.Inheriting.{ParentsStandBefore}

-- where there is no scope, nothing is found
nowhere : (n : ℕ) (scopes : List Scope) (name : List ℕ) → in_class n scopes name None ≡ None
nowhere zero scopes name = refl
nowhere (suc n) scopes name = refl

-- with both counts of turns the same is found
abbrev Same : ℕ → ℕ → List Scope → List ℕ → Option Scope → Type 0
Same n m scopes name o = in_class n scopes name o ≡ in_class m scopes name o

-- with enough turns the same is found from a parent on, where it is so at places before
from_parent : (n m : ℕ) (scopes : List Scope) (name : List ℕ) (place : ℕ) (s : Scope) (o : Option ℕ) → s.parent ≡ o → slice_get scopes place ≡ Some s → ParentsStandBefore scopes → place < suc n → place < suc m
    → ((p : ℕ) → p < n → p < m → Same n m scopes name (slice_get scopes p)) → Same n m scopes name (option_and_then (slice_get scopes) o)
from_parent n m scopes name place s None is e before h k rest = nowhere n scopes name ∙ sym (nowhere m scopes name)
from_parent n m scopes name place s (Some parent) is e before h k rest = let low = before place parent s e is in rest parent (omega arith) (omega arith)

-- and so from a scope on
enough_at : (n m : ℕ) (scopes : List Scope) (name : List ℕ) (place : ℕ) (o : Option Scope) → slice_get scopes place ≡ o → ParentsStandBefore scopes → place < suc n → place < suc m
    → ((p : ℕ) → p < n → p < m → Same n m scopes name (slice_get scopes p)) → Same (suc n) (suc m) scopes name o
enough_at n m scopes name place None e before h k rest = refl
enough_at n m scopes name place (Some s) e before h k rest = ap (or_else (value_at name s.bindings)) (from_parent n m scopes name place s s.parent refl e before h k rest)

-- with more turns than the place of a scope, the same is found however many they are
pub enough : (n m : ℕ) (scopes : List Scope) (name : List ℕ) (place : ℕ) → ParentsStandBefore scopes → place < n → place < m → in_class n scopes name (slice_get scopes place) ≡ in_class m scopes name (slice_get scopes place)
enough zero m scopes name place before h k = absurd (omega arith)
enough (suc n) zero scopes name place before h k = absurd (omega arith)
enough (suc n) (suc m) scopes name place before h k = enough_at n m scopes name place (slice_get scopes place) refl before h k (λ p low also. enough n m scopes name p before low also)

-- what stands in scopes with one more is one of them, or that one
pub last_or_not : (scopes : List Scope) (x : Scope) (place : ℕ) (s : Scope) → slice_get (scopes ++ x ∷ []) place ≡ Some s → (slice_get scopes place ≡ Some s) ⊎ ((place ≡ length scopes) × (x ≡ s))
last_or_not [] x zero s h = let same : x ≡ s = cc in inr (refl, same)
last_or_not [] x (suc place) s h = cc
last_or_not (p ∷ scopes) x zero s h = inl h
last_or_not (p ∷ scopes) x (suc place) s h = further (last_or_not scopes x place s h)
  where
    further : (slice_get scopes place ≡ Some s) ⊎ ((place ≡ length scopes) × (x ≡ s)) → (slice_get scopes place ≡ Some s) ⊎ ((suc place ≡ suc (length scopes)) × (x ≡ s))
    further (inl e) = inl e
    further (inr e) = inr (ap suc e.0, e.1)

-- the place of a class is within the scopes, where it is so among the others
place_head : (n : ℕ) (scopes : List Scope) (name : List ℕ) (place : ℕ) (t : Bool) → (class_place (n + 1) scopes name ≡ Some place → place < (n + 1) + length scopes) → cond t (Some n) (class_place (n + 1) scopes name) ≡ Some place → place < n + suc (length scopes)
place_head n scopes name place true rest h = let same : n ≡ place = cc in omega arith
place_head n scopes name place false rest h = let low = rest h in omega arith

-- the place of a class is within the scopes
place_within : (n : ℕ) (scopes : List Scope) (name : List ℕ) (place : ℕ) → class_place n scopes name ≡ Some place → place < n + length scopes
place_within n [] name place h = cc
place_within n (c ∷ scopes) name place h = place_head n scopes name place (is_class_of name c.sort) (place_within (n + 1) scopes name place) h

-- so is that of a parent
pub parent_within : (scopes : List Scope) (o : Option (List ℕ)) (parent : ℕ) → option_and_then (class_place 0 scopes) o ≡ Some parent → parent < length scopes
parent_within scopes None parent h = cc
parent_within scopes (Some name) parent h = let low = place_within 0 scopes name parent h in omega arith

-- with a class entered, parents still stand before
pub stays_before : (s : Scoped) (name : List ℕ) (parent : Option (List ℕ)) → ParentsStandBefore s.0 → ParentsStandBefore (entered s (class_scope s.0 name parent)).0
stays_before s name parent before place p c here is = either (last_or_not s.0 (class_scope s.0 name parent) place c here)
  where
    either : (slice_get s.0 place ≡ Some c) ⊎ ((place ≡ length s.0) × (class_scope s.0 name parent ≡ c)) → p < place
    either (inl e) = before place p c e is
    either (inr e) = let low = parent_within s.0 parent p (ap (λ (x : Scope). x.parent) e.1 ∙ is) in let at = e.0 in omega arith
