-- References and their places.
use Rattle.std.proofs.Common.{◌≡◌, ℕ, suc, ◌+◌, ◌<◌, ◌≤◌, Bool, true, false, ◌||◌, ◌&&◌, cond, List, [], ◌∷◌, ◌++◌, length, Option, Some, None, is_some, IfSome, refl, ap, sym, ◌∙◌, arith}
use Rattle.std.specs.Map.{lookup}
use Rattle.indexmap.specs.IndexMap.{insert_entry}
use Rattle.pp_value.specs.declared.value.Ref.{Ref}
use Rattle.std.specs.Cmp.Lexicographic.{nat_list_eq_equiv}
use Rattle.pp_value.specs.contracts.value.RefPartialEq.TheImpl.{eq-value}
use Rattle.pp_value.specs.Values.{same_ref}
use Rattle.catalog_semantics.specs.declared.catalog.Resource.{Resource}
use Rattle.catalog_semantics.specs.States.{place_from, stands_in, references_of, declared_bound}
use Rattle.catalog.specs.Places.{place_among, placed}

module _ (eq : Ref → Ref → Bool) (turned : (a b : Ref) → eq a b ≡ same_ref b a) where
  -- what the map of references finds is the place of the reference
  pub found : (key : Ref) (entries : List (Ref × ℕ)) → lookup (eq key) entries ≡ place_among key entries
  found key [] = refl
  found key (e ∷ entries) = λ i. cond (turned key e.0 i) (Some e.1) (found key entries i)

  -- a new reference goes last in the map, where it does so among the others
  added_head : (key : Ref) (place : ℕ) (e : Ref × ℕ) (entries : List (Ref × ℕ)) → (place_among key entries ≡ None → insert_entry eq entries key place ≡ entries ++ (key, place) ∷ [])
      → (t : Bool) → cond t (Some e.1) (place_among key entries) ≡ None
      → cond t ((e.0, place) ∷ entries) (e ∷ insert_entry eq entries key place) ≡ e ∷ (entries ++ (key, place) ∷ [])
  added_head key place e entries rest true h = cc
  added_head key place e entries rest false h = ap (λ more. e ∷ more) (rest h)

  -- a new reference goes last in the map
  pub added : (entries : List (Ref × ℕ)) (key : Ref) (place : ℕ) → place_among key entries ≡ None → insert_entry eq entries key place ≡ entries ++ (key, place) ∷ []
  added [] key place h = refl
  added (e ∷ entries) key place h =
      ap (λ t. cond t ((e.0, place) ∷ entries) (e ∷ insert_entry eq entries key place)) (turned key e.0)
      ∙ added_head key place e entries (added entries key place) (same_ref e.0 key) h

-- ---- the places are those of the references

-- the place that is kept of a reference is where it stands
pub place_is : (n : ℕ) (ref : Ref) (refs : List Ref) → place_among ref (placed n refs) ≡ place_from n ref refs
place_is n ref [] = refl
place_is n ref (q ∷ refs) = ap (cond (same_ref q ref) (Some n)) (place_is (n + 1) ref refs)

-- one more reference has the place behind all others
pub placed_last : (n : ℕ) (ref : Ref) (refs : List Ref) → placed n (refs ++ ref ∷ []) ≡ placed n refs ++ (ref, n + length refs) ∷ []
placed_last n ref [] = let zero_more : n ≡ n + 0 = omega arith in ap (λ (m : ℕ). (ref, m) ∷ []) zero_more
placed_last n ref (q ∷ refs) =
    let place : (n + 1) + length refs ≡ n + suc (length refs) = omega arith in
    ap (λ more. (q, n) ∷ more) (placed_last (n + 1) ref refs ∙ ap (λ m. placed (n + 1) refs ++ (ref, m) ∷ []) place)

-- where there is no place here and none further on, it stands nowhere
none_or : (t : Bool) (n : ℕ) (o : Option ℕ) (r : Bool) → (o ≡ None → r ≡ false) → cond t (Some n) o ≡ None → (t || r) ≡ false
none_or true n o r f h = cc
none_or false n o r f h = f h

-- a reference without a place doesn't stand among these
pub stands_not : (n : ℕ) (ref : Ref) (refs : List Ref) → place_from n ref refs ≡ None → stands_in ref refs ≡ false
stands_not n ref [] h = refl
stands_not n ref (q ∷ refs) h = none_or (same_ref q ref) n (place_from (n + 1) ref refs) (stands_in ref refs) (stands_not (n + 1) ref refs) h

-- where there is a place here or further on, it stands
some_head : (t : Bool) (n k : ℕ) (o : Option ℕ) (r : Bool) → (o ≡ Some k → r ≡ true) → cond t (Some n) o ≡ Some k → (t || r) ≡ true
some_head true n k o r f h = refl
some_head false n k o r f h = f h

-- a reference with a place stands there
pub stands : (n k : ℕ) (ref : Ref) (refs : List Ref) → place_from n ref refs ≡ Some k → stands_in ref refs ≡ true
stands n k ref [] h = cc
stands n k ref (q ∷ refs) h = some_head (same_ref q ref) n k (place_from (n + 1) ref refs) (stands_in ref refs) (stands (n + 1) k ref refs) h

-- ---- the test of keys

-- references are compared alike in both directions
pub key_turned : (a b : Ref) → eq-value.it a b ≡ same_ref b a
key_turned a b = λ i. nat_list_eq_equiv.symm a.kind b.kind i && nat_list_eq_equiv.symm a.title b.title i

-- ---- a place is below the limit

-- the place, here or further on, is below the count
below_head : (t : Bool) (n m : ℕ) (o r : Option ℕ) → n < m → ((o : Option ℕ) → o ≡ r → IfSome o (λ k. k < m)) → o ≡ cond t (Some n) r → IfSome o (λ k. k < m)
below_head true n m (Some k) r here f e = let same : k ≡ n = cc in omega arith
below_head true n m None r here f e = tt
below_head false n m o r here f e = f o e

-- the place of a reference is below the count of all
below_from : (n m : ℕ) (ref : Ref) (refs : List Ref) → n + length refs ≤ m → (o : Option ℕ) → o ≡ place_from n ref refs → IfSome o (λ k. k < m)
below_from n m ref [] h (Some k) e = cc
below_from n m ref [] h None e = tt
below_from n m ref (q ∷ refs) h o e = below_head (same_ref q ref) n m o (place_from (n + 1) ref refs) (omega arith) (below_from (n + 1) m ref refs (omega arith)) e

-- there are as many references as resources
pub count_is : (resources : List Resource) → length (references_of resources) ≡ length resources
count_is [] = refl
count_is (r ∷ resources) = ap suc (count_is resources)

-- the place of a reference is below the greatest number of resources
pub place_below : (ref : Ref) (resources : List Resource) → length resources ≤ declared_bound → (o : Option ℕ) → o ≡ place_from 0 ref (references_of resources) → IfSome o (λ k. k < declared_bound)
place_below ref resources h o e = let same = count_is resources in below_from 0 declared_bound ref (references_of resources) (omega arith) o e

-- what is found stands among them
pub stands_is : (ref : Ref) (refs : List Ref) (o : Option ℕ) → o ≡ place_from 0 ref refs → is_some o ≡ stands_in ref refs
stands_is ref refs None h = sym (stands_not 0 ref refs (sym h))
stands_is ref refs (Some k) h = sym (stands 0 k ref refs (sym h))
