-- Defaults that take hold, in one resource after the other.
use Rattle.std.proofs.Common.{◌≡◌, ℕ, zero, suc, ◌+◌, ◌<◌, Bool, true, false, cond, List, [], ◌∷◌, ◌++◌, take, drop, length, Some, refl, ap, sym, ◌∙◌, append_assoc, append-nil, add-one, arith}
use Rattle.std.specs.Prelude.{nat_lt, codes, filter, slice_get, Result, Ok, Err}
use Rattle.rh_base.specs.declared.fault.Fault.{Fault}
use Rattle.rh_base.specs.declared.fault.Fault.TheVariants as faults
use Rattle.rh_base.specs.declared.fault.Refusal.{Refusal}
use Rattle.pp_value.specs.Values.{Pair}
use Rattle.pp_eval.specs.Evaluating.{◌>>=◌, refusal, Refuses}
use Rattle.catalog_semantics.specs.declared.catalog.Resource.{Resource}
use Rattle.catalog_semantics.specs.declared.state.Default.{Default}
use Rattle.catalog_semantics.specs.States.{with_defaults, is_class, lacks, defaults_of, within_size, attributes_limit, size_of_resources}
use Rattle.catalog_semantics.specs.Catalogs.{filled_behind, Catalog}
use Rattle.catalog.specs.Adding.{changed_at, place_in_text, with_attributes, filled_at, with_resources}
use Rattle.catalog.proofs.SizeLaws.{changed_same, count_stays, place_is}
use Rattle.pp_declaration_state.specs.Filling.{filled_one}

-- a class has no defaults
pub class_stays : (defaults : List Default) (r : Resource) → is_class r ≡ true → with_attributes [] r ≡ with_defaults defaults r
class_stays defaults r h =
    ap (λ (attrs : List Pair). record r { attrs = attrs }) (append-nil r.attrs)
    ∙ sym (ap (λ t. cond t r (record r { attrs = r.attrs ++ filter (lacks r.attrs) (defaults_of r.id.kind defaults) })) h)

-- any other resource has those of its type that it lacks
pub others_are_filled : (defaults : List Default) (r : Resource) → is_class r ≡ false → with_attributes (defaults_of r.id.kind defaults) r ≡ with_defaults defaults r
others_are_filled defaults r h = sym (ap (λ t. cond t r (record r { attrs = r.attrs ++ filter (lacks r.attrs) (defaults_of r.id.kind defaults) })) h)

-- filling in what a resource is given is giving it its defaults
pub filled_as : (defaults : List Default) (place : ℕ) (pairs : List Pair) (resources : List Resource) (r : Resource) → slice_get resources place ≡ Some r → with_attributes pairs r ≡ with_defaults defaults r
    → filled_at place pairs resources ≡ filled_one defaults place resources
filled_as defaults place pairs resources r h e = ap (within_size (place_in_text place resources)) (changed_same place (with_attributes pairs) (with_defaults defaults) resources r h e)

-- ---- what the catalog answers

-- a catalog with other resources is just that
new_is : (c new : Catalog) (resources : List Resource) → ◌≡◌ {A = Result Catalog Refusal} (Ok (record c { resources = resources })) (Ok new) → record c { resources = resources } ≡ new
new_is c new resources h = cc

-- the resources of the new catalog are those that were found
pub found_in : (c new : Catalog) (found : Result (List Resource) Refusal) → with_resources c found ≡ Ok new → found ≡ Ok new.resources
found_in c new (Ok resources) h = ap (λ (x : Catalog). Ok x.resources) (new_is c new resources h)
found_in c new (Err e) h = cc

-- the rest of the catalog is as before
pub kept_in : (c new : Catalog) (found : Result (List Resource) Refusal) → with_resources c found ≡ Ok new → new ≡ record c { resources = new.resources }
kept_in c new (Ok resources) h = let same = new_is c new resources h in sym same ∙ ap (λ (x : Catalog). record c { resources = x.resources }) same
kept_in c new (Err e) h = cc

-- a refusal of the catalog is one of its resources
pub refused_in : (c : Catalog) (x : Refusal) (found : Result (List Resource) Refusal) → with_resources c found ≡ Err x → found ≡ Err x
refused_in c x (Ok resources) h = cc
refused_in c x (Err e) h = let same : e ≡ x = cc in ap (λ (y : Refusal). Err y) same

-- ---- one more is filled

-- one resource more has its defaults, where there is room
step : (d : List Default) (front : List Resource) (i : ℕ) (all : List Resource) (r : Resource) → slice_get all i ≡ Some r
    → filled_behind d (front ++ take i all) (drop i all)
    ≡ (within_size r.at (front ++ changed_at i (with_defaults d) all) >>= λ _. filled_behind d (front ++ take (suc i) (changed_at i (with_defaults d) all)) (drop (suc i) (changed_at i (with_defaults d) all)))
step d front i [] r h = cc
step d front zero (q ∷ all) r h =
    let same : q ≡ r = cc in
    ap (λ p. filled_behind d p (q ∷ all)) (append-nil front)
    ∙ ap (λ at. within_size at (front ++ with_defaults d q ∷ all) >>= λ _. filled_behind d (front ++ with_defaults d q ∷ []) all) (ap (λ (x : Resource). x.at) same)
step d front (suc i) (q ∷ all) r h =
    ap (λ p. filled_behind d p (drop i all)) (sym (append_assoc front (q ∷ []) (take i all)))
    ∙ (step d (front ++ q ∷ []) i all r h
    ∙ (λ k. within_size r.at (append_assoc front (q ∷ []) (changed_at i (with_defaults d) all) k)
    >>= λ _. filled_behind d (append_assoc front (q ∷ []) (take (suc i) (changed_at i (with_defaults d) all)) k) (drop (suc i) (changed_at i (with_defaults d) all))))

-- equal results have equal lists
same_list : (x y : List Resource) → ◌≡◌ {A = Result (List Resource) Refusal} (Ok x) (Ok y) → x ≡ y
same_list x y h = cc

-- what is within the size is the list itself
within : (t : Bool) (at : ℕ) (all new : List Resource) → ◌≡◌ {A = Result (List Resource) Refusal} (cond t (Err (refusal 32 at (codes "attributes"))) (Ok all)) (Ok new) → all ≡ new
within true at all new h = cc
within false at all new h = same_list all new h

-- where one has its defaults, those behind it are left
pub next_filled : (d : List Default) (i : ℕ) (all new : List Resource) (r : Resource) → slice_get all i ≡ Some r → filled_one d i all ≡ Ok new
    → filled_behind d (take i all) (drop i all) ≡ filled_behind d (take (i + 1) new) (drop (i + 1) new)
next_filled d i all new r h k =
    let at = place_is i all r h in
    let same : changed_at i (with_defaults d) all ≡ new = within (nat_lt attributes_limit (size_of_resources (changed_at i (with_defaults d) all))) (place_in_text i all) (changed_at i (with_defaults d) all) new k in
    step d [] i all r h
    ∙ (ap (λ v. v >>= λ _. filled_behind d (take (suc i) (changed_at i (with_defaults d) all)) (drop (suc i) (changed_at i (with_defaults d) all))) (ap (λ n. within_size n (changed_at i (with_defaults d) all)) (sym at) ∙ k)
    ∙ (ap (λ xs. filled_behind d (take (suc i) xs) (drop (suc i) xs)) same ∙ ap (λ n. filled_behind d (take n new) (drop n new)) (sym (add-one i))))

-- where there is no room for one, all are refused
pub refused_filled : (d : List Default) (i : ℕ) (all : List Resource) (r : Resource) (x : Refusal) → slice_get all i ≡ Some r → filled_one d i all ≡ Err x → filled_behind d (take i all) (drop i all) ≡ Err x
refused_filled d i all r x h k =
    let at = place_is i all r h in
    step d [] i all r h
    ∙ ap (λ v. v >>= λ _. filled_behind d (take (suc i) (changed_at i (with_defaults d) all)) (drop (suc i) (changed_at i (with_defaults d) all))) (ap (λ n. within_size n (changed_at i (with_defaults d) all)) (sym at) ∙ k)

-- defaults make no resource more or less
pub count_filled : (d : List Default) (i : ℕ) (all new : List Resource) → filled_one d i all ≡ Ok new → length new ≡ length all
count_filled d i all new k =
    ap length (sym (within (nat_lt attributes_limit (size_of_resources (changed_at i (with_defaults d) all))) (place_in_text i all) (changed_at i (with_defaults d) all) new k)) ∙ count_stays i (with_defaults d) all

-- a place within the list has a resource
has_item : (i : ℕ) (all : List Resource) → i < length all → (r : Resource) × (slice_get all i ≡ Some r)
has_item i [] h = absurd (below_none i h)
  where
    below_none : (n : ℕ) → n < 0 → ⊥
    below_none n e = omega arith
has_item zero (q ∷ all) h = (q, refl)
has_item (suc i) (q ∷ all) h = has_item i all (omega arith)

-- from each place on the same is left as from the first
pub next_at : (d : List Default) (i : ℕ) (all new first : List Resource) → i < length all → filled_one d i all ≡ Ok new → filled_behind d (take i all) (drop i all) ≡ filled_behind d [] first
    → filled_behind d (take (i + 1) new) (drop (i + 1) new) ≡ filled_behind d [] first
next_at d i all new first h k e = let x = has_item i all h in sym (next_filled d i all new x.0 x.1 k) ∙ e

-- a refusal at a place is that of all
pub refuses_at : (d : List Default) (i : ℕ) (all first : List Resource) (e : Fault) → i < length all → filled_behind d (take i all) (drop i all) ≡ filled_behind d [] first → Refuses (filled_one d i all) e
    → Refuses (filled_behind d [] first) e
refuses_at d i all first (faults.Refused r) h same k = let x = has_item i all h in sym same ∙ refused_filled d i all x.0 r x.1 k
refuses_at d i all first (faults.Memory m) h same k = tt
