-- Which of two values counts, and where a reference stands.
use Rattle.std.proofs.Common.{◌≡◌, ℕ, zero, suc, ◌<◌, Bool, true, false, cond, ◌&&◌, ◌||◌, List, [], ◌∷◌, ◌++◌}
use Rattle.std.proofs.Common.{Option, Some, refl, sym, subst, append_assoc, slice_get, take, ⊎_elim, arith, filter}
use Rattle.std.proofs.lemmas.Bool.{cases_lt, or_right, or_left}
use Rattle.std.proofs.lemmas.List.{append-nil}
use Rattle.std.proofs.lemmas.Slice.Eq.{bytes_eq-Decides}
use Rattle.std.specs.Str.{bytes_eq}
use Rattle.pp_value.specs.declared.value.Ref.{Ref}
use Rattle.pp_value.specs.declared.value.Value.{Value}
use Rattle.pp_value.specs.Values.{Pair, value_at, same_ref}
use Rattle.catalog_semantics.specs.declared.catalog.Resource.{Resource}
use Rattle.catalog_semantics.specs.States.{Default, stands_in, defaults_of, lacks, is_class, with_defaults}
use Rattle.catalog_semantics.specs.Frames.{AreNewBehind, StandOnce}

-- what is found first or further on is found, where it is found further on
if_first : (b : Bool) (a c d : Option Value) (x : Value) → (c ≡ Some x → d ≡ Some x) → cond b a c ≡ Some x → cond b a d ≡ Some x
if_first true a c d x h e = e
if_first false a c d x h e = h e

-- what a name has it keeps when pairs go behind
stays_first : (name : List ℕ) (x : Value) (pairs more : List Pair) → value_at name pairs ≡ Some x → value_at name (pairs ++ more) ≡ Some x
stays_first name x [] more h = cc
stays_first name x (p ∷ pairs) more h =
    if_first (bytes_eq p.0 name) (Some p.1) (value_at name pairs) (value_at name (pairs ++ more)) x (stays_first name x pairs more) h

-- a resource's own attribute counts before a default
pub attribute_wins : (defaults : List Default) (r : Resource) (name : List ℕ) (x : Value) → value_at name r.attrs ≡ Some x
    → value_at name (with_defaults defaults r).attrs ≡ Some x
attribute_wins defaults r name x h = either (is_class r)
  where
    more : List Pair
    more = filter (lacks r.attrs) (defaults_of r.id.kind defaults)

    either : (b : Bool) → value_at name (cond b r
        (record r {
          attrs = (r.attrs ++ filter (lacks r.attrs) (defaults_of r.id.kind defaults));
        })).attrs ≡ Some x
    either true = h
    either false = stays_first name x r.attrs _ h

-- ---- places

-- a reference is told to be the same as itself
same_self : (r : Ref) → same_ref r r ≡ true
same_self r = both (bytes_eq r.kind r.kind) (bytes_eq r.title r.title) (text_self r.kind) (text_self r.title)
  where
    both : (a b : Bool) → a ≡ true → b ≡ true → (a && b) ≡ true
    both true b h k = k
    both false b h k = h

    text_self : (xs : List ℕ) → bytes_eq xs xs ≡ true
    text_self xs = (bytes_eq-Decides xs xs).1 refl

-- references that are equal as found are equal
is_same : (q r : Ref) → ◌≡◌ {A = Option Ref} (Some q) (Some r) → q ≡ r
is_same q r h = cc

-- what stands before a place stands among those before it
stands_at : (refs : List Ref) (i j : ℕ) (r : Ref) → i < j → slice_get refs i ≡ Some r → stands_in r (take j refs) ≡ true
stands_at refs i zero r h is = absurd (omega arith)
stands_at [] i (suc j) r h is = cc
stands_at (q ∷ refs) zero (suc j) r h is =
    or_left (same_ref q r) _ (subst (λ (w : Ref). same_ref q w ≡ true) (is_same q r is) (same_self q))
stands_at (q ∷ refs) (suc i) (suc j) r h is = or_right (same_ref q r) _ (stands_at refs i j r (omega arith) is)

-- where references stand once, none stands among those before it
new_there : (before refs : List Ref) (j : ℕ) (r : Ref) → AreNewBehind before refs → slice_get refs j ≡ Some r
    → stands_in r (before ++ take j refs) ≡ false
new_there before [] j r h is = cc
new_there before (q ∷ refs) zero r h is =
    subst (λ (w : List Ref). stands_in r w ≡ false) (sym (append-nil before))
    (subst (λ (w : Ref). stands_in w before ≡ false) (is_same q r is) h.0)
new_there before (q ∷ refs) (suc j) r h is =
    subst (λ (w : List Ref). stands_in r w ≡ false) (append_assoc before (q ∷ []) (take j refs))
    (new_there (before ++ q ∷ []) refs j r h.1 is)

-- so none stands at an earlier place too
not_before : (refs : List Ref) (i j : ℕ) (r : Ref) → StandOnce refs → slice_get refs i ≡ Some r → slice_get refs j ≡ Some r → i < j → ⊥
not_before refs i j r h a b less = let yes_there = stands_at refs i j r less a in let not_there = new_there [] refs j r h b in cc

-- where references stand once, each has one place
pub one_place : (refs : List Ref) (i j : ℕ) (r : Ref) → StandOnce refs → slice_get refs i ≡ Some r → slice_get refs j ≡ Some r → i ≡ j
one_place refs i j r h a b =
    ⊎_elim (λ less. absurd (not_before refs i j r h a b less))
    (λ more. ⊎_elim (λ less. absurd (not_before refs j i r h b a less)) (λ other. omega arith) (cases_lt j i)) (cases_lt i j)
