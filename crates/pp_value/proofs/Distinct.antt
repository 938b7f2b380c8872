-- Pairs with distinct keys stay so.
use Rattle.std.proofs.Common.{◌≡◌, ℕ, suc, ◌+◌, ◌≤◌, Bool, true, false, cond, List, [], ◌∷◌, ◌++◌, length, drop, Option, Some, None, refl, ap, sym, ◌∙◌, subst, append_assoc, append-nil, arith}
use Rattle.std.specs.List.{AllByRecursion}
use Rattle.std.specs.Option.{option_or}
use Rattle.std.proofs.lemmas.List.{drop_all}
use Rattle.std.specs.Str.{bytes_eq}
use Rattle.std.proofs.lemmas.Slice.Eq.{bytes_eq-Decides}
use Rattle.pp_value.specs.Keys.{value_at, with_pair, with_pairs, HasDistinctKeys}
use Rattle.pp_value.proofs.PlaceLaws.{new_last}

-- ---- tests of keys

-- what holds in both cases of a test holds
pub by_test : (t : Bool) (P : Type 0) → (t ≡ true → P) → (t ≡ false → P) → P
by_test true P yes_ no_ = yes_ refl
by_test false P yes_ no_ = no_ refl

-- keys that are told to be equal are
pub same_key : (a b : List ℕ) → bytes_eq a b ≡ true → a ≡ b
same_key a b h = (bytes_eq-Decides a b).0 h

-- a key is told to be equal to itself
pub key_itself : (a : List ℕ) → bytes_eq a a ≡ true
key_itself a = (bytes_eq-Decides a a).1 refl

-- keys that are told to differ do so the other way round
pub other_way : (a b : List ℕ) → bytes_eq a b ≡ false → bytes_eq b a ≡ false
other_way a b h = by_test (bytes_eq b a) (bytes_eq b a ≡ false) (λ e. let clash : true ≡ false = sym (key_itself a) ∙ (ap (bytes_eq a) (sym (same_key b a e)) ∙ h) in cc) (λ e. e)

module _ {X : Type 0} where
  -- the item of the first key is that of the first pair
  pub at_first : (key : List ℕ) (p : List ℕ × X) (pairs : List (List ℕ × X)) → bytes_eq p.0 key ≡ true → value_at key (p ∷ pairs) ≡ Some p.1
  at_first key p pairs h = ap (λ t. cond t (Some p.1) (value_at key pairs)) h

  -- the item of another key is that among the others
  pub at_later : (key : List ℕ) (p : List ℕ × X) (pairs : List (List ℕ × X)) → bytes_eq p.0 key ≡ false → value_at key (p ∷ pairs) ≡ value_at key pairs
  at_later key p pairs h = ap (λ t. cond t (Some p.1) (value_at key pairs)) h

  -- an item isn't both there and missing
  some_none : (x : X) (o : Option X) → o ≡ Some x → o ≡ None → ⊥
  some_none x o h k = let clash : ◌≡◌ {A = Option X} (Some x) None = sym h ∙ k in cc

  -- ---- one more pair

  -- a key without an item has none when another takes one
  none_with : (key other : List ℕ) (x : X) (pairs : List (List ℕ × X)) → bytes_eq key other ≡ false → value_at other pairs ≡ None → value_at other (with_pair key x pairs) ≡ None
  none_with key other x [] differ h = at_later other (key, x) [] differ
  none_with key other x (p ∷ pairs) differ h =
      by_test (bytes_eq p.0 other) (value_at other (with_pair key x (p ∷ pairs)) ≡ None)
      (λ e. absurd (some_none p.1 _ (at_first other p pairs e) h))
      (λ e.
      let rest : value_at other pairs ≡ None = sym (at_later other p pairs e) ∙ h in
      by_test (bytes_eq p.0 key) (value_at other (with_pair key x (p ∷ pairs)) ≡ None)
      (λ here. ap (λ t. value_at other (cond t ((p.0, x) ∷ pairs) (p ∷ with_pair key x pairs))) here ∙ (at_later other (p.0, x) pairs e ∙ rest))
      (λ there. ap (λ t. value_at other (cond t ((p.0, x) ∷ pairs) (p ∷ with_pair key x pairs))) there ∙ (at_later other p (with_pair key x pairs) e ∙ none_with key other x pairs differ rest)))

  -- distinct keys stay so when one takes an item
  pub distinct_with : (key : List ℕ) (x : X) (pairs : List (List ℕ × X)) → HasDistinctKeys pairs → HasDistinctKeys (with_pair key x pairs)
  distinct_with key x [] h = (refl, tt)
  distinct_with key x (p ∷ pairs) h =
      by_test (bytes_eq p.0 key) (HasDistinctKeys (with_pair key x (p ∷ pairs)))
      (λ here. subst HasDistinctKeys (sym (ap (λ t. cond t ((p.0, x) ∷ pairs) (p ∷ with_pair key x pairs)) here)) h)
      (λ there. subst HasDistinctKeys (sym (ap (λ t. cond t ((p.0, x) ∷ pairs) (p ∷ with_pair key x pairs)) there))
      (none_with key p.0 x pairs (other_way p.0 key there) h.0, distinct_with key x pairs h.1))

  -- and when several do, one after the other
  pub distinct_pairs : (pairs more : List (List ℕ × X)) → HasDistinctKeys pairs → HasDistinctKeys (with_pairs pairs more)
  distinct_pairs pairs [] h = h
  distinct_pairs pairs (p ∷ more) h = distinct_pairs (with_pair p.0 p.1 pairs) more (distinct_with p.0 p.1 pairs h)

  -- ---- pairs made again of themselves

  -- a key that stands among others isn't missing
  stands_last : (xs ys : List (List ℕ × X)) (q : List ℕ × X) → value_at q.0 (xs ++ q ∷ ys) ≡ None → ⊥
  stands_last [] ys q h = some_none q.1 _ (at_first q.0 q ys (key_itself q.0)) h
  stands_last (p ∷ xs) ys q h =
      by_test (bytes_eq p.0 q.0) ⊥ (λ e. some_none p.1 _ (at_first q.0 p (xs ++ q ∷ ys) e) h) (λ e. stands_last xs ys q (sym (at_later q.0 p (xs ++ q ∷ ys) e) ∙ h))

  -- of distinct keys none stands before itself
  pub front_free : (xs ys : List (List ℕ × X)) (q : List ℕ × X) → HasDistinctKeys (xs ++ q ∷ ys) → value_at q.0 xs ≡ None
  front_free [] ys q h = refl
  front_free (p ∷ xs) ys q h =
      by_test (bytes_eq p.0 q.0) (value_at q.0 (p ∷ xs) ≡ None)
      (λ e. absurd (stands_last xs ys q (ap (λ k. value_at k (xs ++ q ∷ ys)) (sym (same_key p.0 q.0 e)) ∙ h.0)))
      (λ e. at_later q.0 p xs e ∙ front_free xs ys q h.1)

  -- pairs with distinct keys go behind others as they are
  again : (front pairs : List (List ℕ × X)) → HasDistinctKeys (front ++ pairs) → with_pairs front pairs ≡ front ++ pairs
  again front [] h = sym (append-nil front)
  again front (p ∷ pairs) h =
      let apart : front ++ p ∷ pairs ≡ (front ++ p ∷ []) ++ pairs = sym (append_assoc front (p ∷ []) pairs) in
      ap (λ f. with_pairs f pairs) (new_last p.0 p.1 front (front_free front pairs p h))
      ∙ (again (front ++ p ∷ []) pairs (subst HasDistinctKeys apart h) ∙ sym apart)

  -- pairs with distinct keys, put one after the other, are the same pairs
  pub made_again : (pairs : List (List ℕ × X)) → HasDistinctKeys pairs → with_pairs [] pairs ≡ pairs
  made_again pairs h = again [] pairs h

  -- a copy that has taken all
  pub all_copied : (copies pairs : List (List ℕ × X)) (i : ℕ) → length pairs ≤ i → with_pairs copies (drop i pairs) ≡ with_pairs [] pairs → HasDistinctKeys pairs → copies ≡ pairs
  all_copied copies pairs i past inv d = ap (with_pairs copies) (sym (drop_all i pairs past)) ∙ (inv ∙ made_again pairs d)

  -- ---- the pairs without the first of a key

  -- the pairs without the first of this key
  abbrev without : List ℕ → List (List ℕ × X) → List (List ℕ × X)
  without key [] = []
  without key (p ∷ pairs) = cond (bytes_eq p.0 key) pairs (p ∷ without key pairs)

  -- the key has an item among these
  abbrev pub IsIn : List (List ℕ × X) → List ℕ → Type 0
  IsIn pairs key = value_at key pairs ≡ None → ⊥

  -- one pair less is left where the key is the first or stands further on
  shorter_head : (key : List ℕ) (p : List ℕ × X) (pairs : List (List ℕ × X)) → (IsIn pairs key → length (without key pairs) + 1 ≡ length pairs)
      → (t : Bool) → (cond t (Some p.1) (value_at key pairs) ≡ None → ⊥) → length (cond t pairs (p ∷ without key pairs)) + 1 ≡ suc (length pairs)
  shorter_head key p pairs rest true h = omega arith
  shorter_head key p pairs rest false h = let more = rest h in omega arith

  -- without a key that stands there one pair less is left
  shorter : (key : List ℕ) (pairs : List (List ℕ × X)) → IsIn pairs key → length (without key pairs) + 1 ≡ length pairs
  shorter key [] h = absurd (h refl)
  shorter key (p ∷ pairs) h = shorter_head key p pairs (shorter key pairs) (bytes_eq p.0 key) h

  -- another key has the value that it had
  kept : (key other : List ℕ) (pairs : List (List ℕ × X)) → (key ≡ other → ⊥) → value_at other (without key pairs) ≡ value_at other pairs
  kept key other [] differ = refl
  kept key other (p ∷ pairs) differ =
      by_test (bytes_eq p.0 key) (value_at other (without key (p ∷ pairs)) ≡ value_at other (p ∷ pairs))
      (λ here.
      let gone : without key (p ∷ pairs) ≡ pairs = ap (λ t. cond t pairs (p ∷ without key pairs)) here in
      let not_other : bytes_eq p.0 other ≡ false = by_test (bytes_eq p.0 other) (bytes_eq p.0 other ≡ false) (λ e. absurd (differ (sym (same_key p.0 key here) ∙ same_key p.0 other e))) (λ e. e) in
      ap (value_at other) gone ∙ sym (at_later other p pairs not_other))
      (λ there.
      let stays : without key (p ∷ pairs) ≡ p ∷ without key pairs = ap (λ t. cond t pairs (p ∷ without key pairs)) there in
      ap (value_at other) stays ∙ ap (cond (bytes_eq p.0 other) (Some p.1)) (kept key other pairs differ))

  -- ---- counting

  -- each key of the second pairs has an item among the first
  abbrev pub AllIn : List (List ℕ × X) → List (List ℕ × X) → Type 0
  AllIn ys xs = AllByRecursion (λ p. IsIn ys p.0) xs

  -- no value of this key: its pairs have other keys
  others : (key : List ℕ) (xs ys : List (List ℕ × X)) → value_at key xs ≡ None → AllIn ys xs → AllIn (without key ys) xs
  others key [] ys h all = tt
  others key (p ∷ xs) ys h all =
      let later : bytes_eq p.0 key ≡ false = by_test (bytes_eq p.0 key) (bytes_eq p.0 key ≡ false) (λ e. let clash : ◌≡◌ {A = Option X} (Some p.1) None = sym (at_first key p xs e) ∙ h in cc) (λ e. e) in
      let differ : key ≡ p.0 → ⊥ = λ e. let clash : true ≡ false = sym (key_itself p.0) ∙ ((λ i. bytes_eq p.0 (sym e i)) ∙ later) in cc in
      ((λ none. all.0 (sym (kept key p.0 ys differ) ∙ none)), others key xs ys (sym (at_later key p xs later) ∙ h) all.1)

  -- distinct keys that all stand among others are no more than these
  no_more : (xs ys : List (List ℕ × X)) → HasDistinctKeys xs → AllIn ys xs → length xs ≤ length ys
  no_more [] ys distinct all = omega arith
  no_more (p ∷ xs) ys distinct all =
      let rest = no_more xs (without p.0 ys) distinct.1 (others p.0 xs ys distinct.0 all.1) in
      let fewer = shorter p.0 ys all.0 in
      omega arith

  -- where they are as many, each of the others stands among them
  pub each_back : (xs ys : List (List ℕ × X)) (key : List ℕ) → HasDistinctKeys xs → AllIn ys xs → length xs ≡ length ys → IsIn ys key → IsIn xs key
  each_back xs ys key distinct all many here none =
      let rest = no_more xs (without key ys) distinct (others key xs ys none all) in
      let fewer = shorter key ys here in
      absurd (omega arith)

  -- ---- the later of two wins

  -- a key that takes an item has it, and any other what it had
  with_value : (key other : List ℕ) (x : X) (pairs : List (List ℕ × X)) → value_at other (with_pair key x pairs) ≡ cond (bytes_eq key other) (Some x) (value_at other pairs)
  with_value key other x [] = refl
  with_value key other x (p ∷ pairs) =
      by_test (bytes_eq p.0 key) (value_at other (with_pair key x (p ∷ pairs)) ≡ cond (bytes_eq key other) (Some x) (value_at other (p ∷ pairs)))
      (λ here.
      let same = same_key p.0 key here in
      ap (λ t. value_at other (cond t ((p.0, x) ∷ pairs) (p ∷ with_pair key x pairs))) here
      ∙ (ap (λ k. cond (bytes_eq k other) (Some x) (value_at other pairs)) same
      ∙ by_test (bytes_eq key other) (cond (bytes_eq key other) (Some x) (value_at other pairs) ≡ cond (bytes_eq key other) (Some x) (value_at other (p ∷ pairs)))
      (λ e. ap (λ t. cond t (Some x) (value_at other pairs)) e ∙ sym (ap (λ t. cond t (Some x) (value_at other (p ∷ pairs))) e))
      (λ e. ap (cond (bytes_eq key other) (Some x)) (sym (at_later other p pairs (ap (λ k. bytes_eq k other) same ∙ e))))))
      (λ there.
      ap (λ t. value_at other (cond t ((p.0, x) ∷ pairs) (p ∷ with_pair key x pairs))) there
      ∙ (ap (cond (bytes_eq p.0 other) (Some p.1)) (with_value key other x pairs)
      ∙ by_test (bytes_eq p.0 other) (cond (bytes_eq p.0 other) (Some p.1) (cond (bytes_eq key other) (Some x) (value_at other pairs)) ≡ cond (bytes_eq key other) (Some x) (value_at other (p ∷ pairs)))
      (λ e.
      let differ : bytes_eq key other ≡ false = by_test (bytes_eq key other) (bytes_eq key other ≡ false) (λ k. let clash : true ≡ false = sym (key_itself key) ∙ (ap (λ q. bytes_eq q key) (same_key key other k ∙ sym (same_key p.0 other e)) ∙ there) in cc) (λ k. k) in
      ap (λ t. cond t (Some p.1) (cond (bytes_eq key other) (Some x) (value_at other pairs))) e ∙ (sym (at_first other p pairs e) ∙ sym (ap (λ t. cond t (Some x) (value_at other (p ∷ pairs))) differ)))
      (λ e. ap (λ t. cond t (Some p.1) (cond (bytes_eq key other) (Some x) (value_at other pairs))) e ∙ ap (cond (bytes_eq key other) (Some x)) (sym (at_later other p pairs e)))))

  -- of two maps put together each key has the item of the second, or else of the first
  pub later_wins : (left right : List (List ℕ × X)) → HasDistinctKeys right → (key : List ℕ) → value_at key (with_pairs left right) ≡ option_or (value_at key right) (value_at key left)
  later_wins left [] h key = refl
  later_wins left (p ∷ right) h key =
      later_wins (with_pair p.0 p.1 left) right h.1 key
      ∙ by_test (bytes_eq p.0 key) (option_or (value_at key right) (value_at key (with_pair p.0 p.1 left)) ≡ option_or (value_at key (p ∷ right)) (value_at key left))
      (λ e.
      let none : value_at key right ≡ None = ap (λ k. value_at k right) (sym (same_key p.0 key e)) ∙ h.0 in
      ap (λ o. option_or o (value_at key (with_pair p.0 p.1 left))) none
      ∙ (with_value p.0 key p.1 left ∙ (ap (λ t. cond t (Some p.1) (value_at key left)) e ∙ ap (λ o. option_or o (value_at key left)) (sym (at_first key p right e)))))
      (λ e.
      ap (option_or (value_at key right)) (with_value p.0 key p.1 left ∙ ap (λ t. cond t (Some p.1) (value_at key left)) e)
      ∙ ap (λ o. option_or o (value_at key left)) (sym (at_later key p right e)))
