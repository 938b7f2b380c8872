-- Where keys stand.
use Rattle.std.proofs.Common.{◌≡◌, ℕ, zero, suc, ◌+◌, ◌<◌, Bool, true, false, cond, List, [], ◌∷◌, ◌++◌, map, length, get_or, Option, Some, None, option_map, refl, ap, sym, ◌∙◌, String, Global, string_bytes, bytes_eq, arith}
use Rattle.std.specs.Prelude.{slice_get, slice_set}
use Rattle.std.specs.Map.{lookup}
use Rattle.std.specs.String.{string_eq}
use Rattle.std.proofs.lemmas.Slice.Eq.{bytes_eq-Decides}
use Rattle.indexmap.specs.IndexMap.{insert_entry}
use Rattle.pp_value.specs.Keys.{value_at, with_pair, with_item_at, places_of, place_among}

-- ---- the index

-- a key and its place, as the code keeps them
abbrev Entry : Type 0
Entry = String Global × ℕ

-- the same as the definitions speak of it
abbrev pub place_of : Entry → List ℕ × ℕ
place_of e = (string_bytes e.0, e.1)

-- tests that follow from one another are equal
pub one_bool : (a b : Bool) → (a ≡ true → b ≡ true) → (b ≡ true → a ≡ true) → a ≡ b
one_bool true b f g = sym (f refl)
one_bool false true f g = g refl
one_bool false false f g = refl

-- texts are compared alike in both directions
pub bytes_turned : (a b : List ℕ) → bytes_eq a b ≡ bytes_eq b a
bytes_turned a b = one_bool _ _ (λ h. (bytes_eq-Decides b a).1 (sym ((bytes_eq-Decides a b).0 h))) (λ h. (bytes_eq-Decides a b).1 (sym ((bytes_eq-Decides b a).0 h)))

-- what the map of places finds is the place of the key
pub found : (key : List ℕ) (entries : List Entry) → lookup (λ k. bytes_eq key (string_bytes k)) entries ≡ place_among key (map (λ e. (string_bytes e.0, e.1)) entries)
found key [] = refl
found key (e ∷ entries) = λ i. cond (bytes_turned key (string_bytes e.0) i) (Some e.1) (found key entries i)

-- a new key goes last in the map of places, where it does so among the others
added_head : (key : String Global) (place : ℕ) (e : Entry) (entries : List Entry) → (place_among (string_bytes key) (map place_of entries) ≡ None → map place_of (insert_entry string_eq entries key place) ≡ map place_of entries ++ (string_bytes key, place) ∷ [])
    → (t : Bool) → cond t (Some e.1) (place_among (string_bytes key) (map place_of entries)) ≡ None
    → map place_of (cond t ((e.0, place) ∷ entries) (e ∷ insert_entry string_eq entries key place)) ≡ place_of e ∷ (map place_of entries ++ (string_bytes key, place) ∷ [])
added_head key place e entries rest true h = cc
added_head key place e entries rest false h = ap (λ more. place_of e ∷ more) (rest h)

-- a new key goes last in the map of places
pub added : (entries : List Entry) (key : String Global) (place : ℕ) → place_among (string_bytes key) (map place_of entries) ≡ None → map place_of (insert_entry string_eq entries key place) ≡ map place_of entries ++ (string_bytes key, place) ∷ []
added [] key place h = refl
added (e ∷ entries) key place h =
    ap (λ t. map place_of (cond t ((e.0, place) ∷ entries) (e ∷ insert_entry string_eq entries key place))) (bytes_turned (string_bytes key) (string_bytes e.0))
    ∙ added_head key place e entries (added entries key place) (bytes_eq (string_bytes e.0) (string_bytes key)) h

-- ---- the place that is found is that of the key's pair

-- places that are equal as found are equal
pub some_here : (n place : ℕ) → ◌≡◌ {A = Option ℕ} (Some n) (Some place) → n ≡ place
some_here n place h = cc

module _ {X : Type 0} where
  -- a key stands at a place, which is counted from n on
  pub record StandsAt (n : ℕ) (key : List ℕ) (pairs : List (List ℕ × X)) (place : ℕ) : Type 0 where
    pub index : ℕ
    pub counted : place ≡ n + index
    pub below : index < length pairs
    pub item : option_map (λ (p : List ℕ × X). p.1) (slice_get pairs index) ≡ value_at key pairs
    pub put : (x : X) → with_item_at index x pairs ≡ with_pair key x pairs

  -- a key that has a place stands there, where it does so among the others
  stands_head : (n : ℕ) (key : List ℕ) (p : List ℕ × X) (pairs : List (List ℕ × X)) (place : ℕ)
      → (place_among key (places_of (n + 1) pairs) ≡ Some place → StandsAt (n + 1) key pairs place)
      → (t : Bool) → bytes_eq p.0 key ≡ t → cond t (Some n) (place_among key (places_of (n + 1) pairs)) ≡ Some place → StandsAt n key (p ∷ pairs) place
  stands_head n key p pairs place rest true e h =
      let same = some_here n place h in
      record {
        index = 0;
        counted = omega arith;
        below = omega arith;
        item = sym (ap (λ t. cond t (Some p.1) (value_at key pairs)) e);
        put = λ x. sym (ap (λ t. cond t ((p.0, x) ∷ pairs) (p ∷ with_pair key x pairs)) e);
      }
  stands_head n key p pairs place rest false e h =
      let s = rest h in
      let counted = s.counted in
      let below = s.below in
      record {
        index = suc s.index;
        counted = omega arith;
        below = omega arith;
        item = s.item ∙ sym (ap (λ t. cond t (Some p.1) (value_at key pairs)) e);
        put = λ x. ap (λ more. p ∷ more) (s.put x) ∙ sym (ap (λ t. cond t ((p.0, x) ∷ pairs) (p ∷ with_pair key x pairs)) e);
      }

  -- a key that has a place stands there
  pub stands_at : (n : ℕ) (key : List ℕ) (pairs : List (List ℕ × X)) (place : ℕ) → place_among key (places_of n pairs) ≡ Some place → StandsAt n key pairs place
  stands_at n key [] place h = cc
  stands_at n key (p ∷ pairs) place h = stands_head n key p pairs place (stands_at (n + 1) key pairs place) (bytes_eq p.0 key) refl h

  -- a key that is missing at the first pair and has no place among the others has no item
  none_head : (t : Bool) (n : ℕ) (x : X) (o : Option ℕ) (r : Option X) → (o ≡ None → r ≡ None) → cond t (Some n) o ≡ None → cond t (Some x) r ≡ None
  none_head true n x o r f h = cc
  none_head false n x o r f h = f h

  -- a key without a place has no item
  pub no_item : (n : ℕ) (key : List ℕ) (pairs : List (List ℕ × X)) → place_among key (places_of n pairs) ≡ None → value_at key pairs ≡ None
  no_item n key [] h = refl
  no_item n key (p ∷ pairs) h = none_head (bytes_eq p.0 key) n p.1 (place_among key (places_of (n + 1) pairs)) (value_at key pairs) (no_item (n + 1) key pairs) h

  -- ---- writing

  -- a new key goes last, where it does so among the others
  new_head : (t : Bool) (key : List ℕ) (x : X) (p : List ℕ × X) (pairs : List (List ℕ × X)) → (value_at key pairs ≡ None → with_pair key x pairs ≡ pairs ++ (key, x) ∷ [])
      → cond t (Some p.1) (value_at key pairs) ≡ None → cond t ((p.0, x) ∷ pairs) (p ∷ with_pair key x pairs) ≡ p ∷ (pairs ++ (key, x) ∷ [])
  new_head true key x p pairs rest h = cc
  new_head false key x p pairs rest h = ap (λ more. p ∷ more) (rest h)

  -- a new key goes last
  pub new_last : (key : List ℕ) (x : X) (pairs : List (List ℕ × X)) → value_at key pairs ≡ None → with_pair key x pairs ≡ pairs ++ (key, x) ∷ []
  new_last key x [] h = refl
  new_last key x (p ∷ pairs) h = new_head (bytes_eq p.0 key) key x p pairs (new_last key x pairs) h

  -- the place of a pair that goes last is the number of those before it
  pub places_append : (n : ℕ) (key : List ℕ) (x : X) (pairs : List (List ℕ × X)) → places_of n (pairs ++ (key, x) ∷ []) ≡ places_of n pairs ++ (key, n + length pairs) ∷ []
  places_append n key x [] = let zero_more : n ≡ n + 0 = omega arith in ap (λ (m : ℕ). (key, m) ∷ []) zero_more
  places_append n key x (p ∷ pairs) =
      let place : (n + 1) + length pairs ≡ n + suc (length pairs) = omega arith in
      ap (λ more. (p.0, n) ∷ more) (places_append (n + 1) key x pairs ∙ ap (λ m. places_of (n + 1) pairs ++ (key, m) ∷ []) place)

  -- another item at a place changes no place
  pub places_written : (n place : ℕ) (x : X) (pairs : List (List ℕ × X)) → places_of n (with_item_at place x pairs) ≡ places_of n pairs
  places_written n place x [] = refl
  places_written n zero x (p ∷ pairs) = refl
  places_written n (suc place) x (p ∷ pairs) = ap (λ more. (p.0, n) ∷ more) (places_written (n + 1) place x pairs)

  -- writing a pair with its key and another item at a place is putting the item there
  pub set_is : (pairs : List (List ℕ × X)) (place : ℕ) (d q : List ℕ × X) (x : X) → q ≡ get_or pairs place d → place < length pairs → slice_set pairs place (q.0, x) ≡ with_item_at place x pairs
  set_is [] place d q x h within = refl
  set_is (p ∷ pairs) zero d q x h within = ap (λ (r : List ℕ × X). (r.0, x) ∷ pairs) h
  set_is (p ∷ pairs) (suc place) d q x h within = ap (λ more. p ∷ more) (set_is pairs place d q x h (omega arith))

  -- ---- what is found, and what is written, where the places are those of the pairs

  -- the item of a key is that at its place
  pub item_found : (key : List ℕ) (pairs : List (List ℕ × X)) (places : List (List ℕ × ℕ)) (place : ℕ) → places ≡ places_of 0 pairs → place_among key places ≡ Some place
      → option_map (λ (p : List ℕ × X). p.1) (slice_get pairs place) ≡ value_at key pairs
  item_found key pairs places place same h =
      let s = stands_at 0 key pairs place (ap (place_among key) (sym same) ∙ h) in
      let counted = s.counted in
      let here : place ≡ s.index = omega arith in
      ap (λ i. option_map (λ (p : List ℕ × X). p.1) (slice_get pairs i)) here ∙ s.item

  -- a key without a place has no item
  pub none_found : (key : List ℕ) (pairs : List (List ℕ × X)) (places : List (List ℕ × ℕ)) → places ≡ places_of 0 pairs → place_among key places ≡ None → value_at key pairs ≡ None
  none_found key pairs places same h = no_item 0 key pairs (ap (place_among key) (sym same) ∙ h)

  -- the place of a key is within the pairs
  pub is_below : (key : List ℕ) (pairs : List (List ℕ × X)) (places : List (List ℕ × ℕ)) (place : ℕ) → places ≡ places_of 0 pairs → place_among key places ≡ Some place → place < length pairs
  is_below key pairs places place same h =
      let s = stands_at 0 key pairs place (ap (place_among key) (sym same) ∙ h) in
      let counted = s.counted in
      let below = s.below in
      omega arith

  -- an item at the place of a key is that key's item
  pub put_there : (key : List ℕ) (x : X) (pairs : List (List ℕ × X)) (places : List (List ℕ × ℕ)) (place : ℕ) → places ≡ places_of 0 pairs → place_among key places ≡ Some place
      → with_item_at place x pairs ≡ with_pair key x pairs
  put_there key x pairs places place same h =
      let s = stands_at 0 key pairs place (ap (place_among key) (sym same) ∙ h) in
      let counted = s.counted in
      let here : place ≡ s.index = omega arith in
      ap (λ i. with_item_at i x pairs) here ∙ s.put x

  -- a new key's place is behind all others
  pub put_last : (key : List ℕ) (x : X) (pairs : List (List ℕ × X)) (places : List (List ℕ × ℕ)) → places ≡ places_of 0 pairs → place_among key places ≡ None
      → places ++ (key, length pairs) ∷ [] ≡ places_of 0 (pairs ++ (key, x) ∷ [])
  put_last key x pairs places same h =
      let zero_more : length pairs ≡ 0 + length pairs = omega arith in
      ap (λ (ps : List (List ℕ × ℕ)). ps ++ (key, length pairs) ∷ []) same ∙ (ap (λ n. places_of 0 pairs ++ (key, n) ∷ []) zero_more ∙ sym (places_append 0 key x pairs))
