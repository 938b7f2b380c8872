-- References that differ, and their places.
use Rattle.std.proofs.Common.{◌≡◌, ◌≢◌, ◌↔◌, ℕ, zero, suc, ◌+◌, Bool, true, false, true≢false, cond, ◌||◌, ◌&&◌, not, nat_lt, List, [], ◌∷◌, ◌++◌, length, slice_get, Option, Some, None, option_map, refl, sym, ap, ap₂, subst, ◌∙◌, arith}
use Rattle.std.specs.List.{list_any, AllByRecursion, position, position_or_len}
use Rattle.std.proofs.lemmas.Bool.{ltb-true, ltb-false, lt-ltb, le-ltb, or_parts, and_parts, not-true}
use Rattle.std.specs.Cmp.Lexicographic.{bytes_decides}
use Rattle.pp_value.specs.declared.value.Ref.{Ref}
use Rattle.pp_value.specs.Values.{same_ref}
use Rattle.compiled_text.specs.Compiled.{AreDistinct}
use Rattle.compiled_text.specs.Reading.{place_of, stands_in, are_new}
use Rattle.rh_base.proofs.Options.{map_some}
use Rattle.std.proofs.lemmas.Option.{none-some, same_Some}

-- ---- equal references

-- references are told to be the same exactly where they are
pub same_where : (r q : Ref) → (same_ref r q ≡ true → r ≡ q) × (r ≡ q → same_ref r q ≡ true)
same_where r q = (
  (λ h. let two = and_parts _ _ h in
      let kinds : r.kind ≡ q.kind = (bytes_decides r.kind q.kind).0 two.0 in
      let titles : r.title ≡ q.title = (bytes_decides r.title q.title).0 two.1 in
      λ i. record { kind = kinds i; title = titles i }),
  (λ e. ap (same_ref r) (sym e) ∙ ap₂ (λ a b. a && b) ((bytes_decides r.kind r.kind).1 refl) ((bytes_decides r.title r.title).1 refl)),
)

-- and to differ where they do
pub differs : (r q : Ref) → r ≢ q → same_ref r q ≡ false
differs r q n = at (same_ref r q) refl
  where
    at : (t : Bool) → same_ref r q ≡ t → t ≡ false
    at true e = absurd (n ((same_where r q).0 e))
    at false e = refl

-- ---- places

-- the place of the reference is where it stands
abbrev StandsThere : Ref → List Ref → Type 0
StandsThere r refs = (place : ℕ) → place_of r refs ≡ Some place → slice_get refs place ≡ Some r

-- so it is with one more in front
one_more_stands : (r q : Ref) (refs : List Ref) → StandsThere r refs → StandsThere r (q ∷ refs)
one_more_stands r q refs again place h = at (same_ref r q) refl h
  where
    at : (t : Bool) → same_ref r q ≡ t → cond t (Some 0) (option_map suc (place_of r refs)) ≡ Some place → slice_get (q ∷ refs) place ≡ Some r
    at true e k =
        let zero_is : 0 ≡ place = same_Some 0 place k in
        subst (λ p. slice_get (q ∷ refs) p ≡ Some r) zero_is (ap (λ p. Some p) (sym ((same_where r q).0 e)))
    at false e k =
        let found = map_some suc (place_of r refs) place k in
        subst (λ p. slice_get (q ∷ refs) p ≡ Some r) found.2 (again found.0 found.1)

-- the place of a reference is where it stands
pub place_stands : (r : Ref) (refs : List Ref) → StandsThere r refs
place_stands r [] place h = absurd (none-some place h)
place_stands r (q ∷ refs) place h = one_more_stands r q refs (place_stands r refs) place h

-- what stands among references that differ from another one isn't that one
pub other_at : (q : Ref) (refs : List Ref) (place : ℕ) (r : Ref) → AllByRecursion (λ p. q ≢ p) refs → slice_get refs place ≡ Some r → q ≢ r
other_at q [] place r h e = absurd (none-some r e)
other_at q (p ∷ refs) zero r h e = λ k. h.0 (k ∙ sym (same_Some p r e))
other_at q (p ∷ refs) (suc place) r h e = other_at q refs place r h.1 e

-- where a reference stands among references that differ is its place
pub stands_place : (r : Ref) (refs : List Ref) (place : ℕ) → AreDistinct refs → slice_get refs place ≡ Some r → place_of r refs ≡ Some place
stands_place r [] place d h = absurd (none-some r h)
stands_place r (q ∷ refs) zero d h = ap (λ t. cond t (Some 0) (option_map suc (place_of r refs))) ((same_where r q).1 (sym (same_Some q r h)))
stands_place r (q ∷ refs) (suc place) d h =
    ap (λ t. cond t (Some 0) (option_map suc (place_of r refs))) (differs r q (λ e. other_at q refs place r d.0 h (sym e)))
    ∙ ap (option_map suc) (stands_place r refs place d.1 h)

-- where references differ, the place of one is where it stands
pub places : (r : Ref) (refs : List Ref) (place : ℕ) → AreDistinct refs → (place_of r refs ≡ Some place) ↔ (slice_get refs place ≡ Some r)
places r refs place d = (place_stands r refs place, stands_place r refs place d)

-- ---- the place as a set tells it

module _ (eq : Ref → Ref → Bool) (same : (a b : Ref) → eq a b ≡ same_ref a b) where
  -- what a search gives is one further on, unless the first passes
  place_head : (t : Bool) (n : ℕ) (l : ℕ) (o : Option ℕ) → cond (nat_lt n l) (Some n) None ≡ o
      → cond (nat_lt (cond (not t) (1 + n) 0) (suc l)) (Some (cond (not t) (1 + n) 0)) None ≡ cond t (Some 0) (option_map suc o)
  place_head true n l o h = ap (λ t. cond t (Some 0) None) (lt-ltb 0 (suc l) (omega arith))
  place_head false n l o h = at (nat_lt n l) refl
    where
      next : 1 + n ≡ suc n
      next = omega arith

      at : (t : Bool) → nat_lt n l ≡ t → cond (nat_lt (1 + n) (suc l)) (Some (1 + n)) None ≡ option_map suc o
      at true e =
          ap (λ t. cond t (Some (1 + n)) None) (lt-ltb (1 + n) (suc l) (let below = ltb-true n l e in omega arith))
          ∙ ap (λ k. Some k) next ∙ ap (option_map suc) (sym (ap (λ t. cond t (Some n) None) e) ∙ h)
      at false e =
          ap (λ t. cond t (Some (1 + n)) None) (le-ltb (1 + n) (suc l) (let above = ltb-false n l e in omega arith))
          ∙ ap (option_map suc) (sym (ap (λ t. cond t (Some n) None) e) ∙ h)

  -- what the library finds is the place of the reference
  pub position_is : (r : Ref) (refs : List Ref) → position (eq r) refs ≡ place_of r refs
  position_is r [] = refl
  position_is r (q ∷ refs) =
      place_head (eq r q) (position_or_len (eq r) refs) (length refs) (place_of r refs) (position_is r refs)
      ∙ ap (λ t. cond t (Some 0) (option_map suc (place_of r refs))) (same r q)

  -- what the library tells is whether it is one of them
  pub any_is : (r : Ref) (refs : List Ref) → list_any (eq r) refs ≡ stands_in r refs
  any_is r [] = refl
  any_is r (q ∷ refs) = ap₂ (λ a b. a || b) (same r q) (any_is r refs)

-- ---- references that are new

-- one of a list and one more passes if one of the list does, or that
or_last : (f : Ref → Bool) (refs : List Ref) (q : Ref) → list_any f (refs ++ q ∷ []) ≡ (list_any f refs || f q)
or_last f [] q = none (f q)
  where
    none : (a : Bool) → (a || false) ≡ a
    none true = refl
    none false = refl
or_last f (r ∷ refs) q = ap (λ t. f r || t) (or_last f refs q) ∙ sym (assoc (f r) (list_any f refs) (f q))
  where
    assoc : (a b c : Bool) → ((a || b) || c) ≡ (a || (b || c))
    assoc true b c = refl
    assoc false b c = refl

-- none of the references has been seen
abbrev AreOthers : List Ref → List Ref → Type 0
AreOthers seen refs = AllByRecursion (λ r. stands_in r seen ≡ false) refs

-- none of the references is among those seen or the next one
fewer_seen : (seen : List Ref) (q : Ref) (refs : List Ref) → AreOthers (seen ++ q ∷ []) refs → AreOthers seen refs × AllByRecursion (λ r. q ≢ r) refs
fewer_seen seen q [] h = (tt, tt)
fewer_seen seen q (r ∷ refs) h =
    let two = or_parts (stands_in r seen) (same_ref r q) (sym (or_last (same_ref r) seen q) ∙ h.0) in
    let rest = fewer_seen seen q refs h.1 in
    ((two.0, rest.0), ((λ e. true≢false (sym ((same_where r q).1 (sym e)) ∙ two.1)), rest.1))

-- none has, with one more that differs from all
more_seen : (seen : List Ref) (q : Ref) (refs : List Ref) → AreOthers seen refs → AllByRecursion (λ r. q ≢ r) refs → AreOthers (seen ++ q ∷ []) refs
more_seen seen q [] h d = tt
more_seen seen q (r ∷ refs) h d = (
  or_last (same_ref r) seen q ∙ ap₂ (λ a b. a || b) h.0 (differs r q (λ e. d.0 (sym e))),
  more_seen seen q refs h.1 d.1,
)

-- references that are told to be new haven't been seen, and differ
new_others : (seen refs : List Ref) → are_new seen refs ≡ true → AreOthers seen refs × AreDistinct refs
new_others seen [] h = (tt, tt)
new_others seen (r ∷ refs) h =
    let two = and_parts (not (stands_in r seen)) (are_new (seen ++ r ∷ []) refs) h in
    let rest = new_others (seen ++ r ∷ []) refs two.1 in
    let fewer = fewer_seen seen r refs rest.0 in
    ((not-true (stands_in r seen) two.0, fewer.0), (fewer.1, rest.1))

-- and those that haven't and differ are told to be new
others_new : (seen refs : List Ref) → AreOthers seen refs → AreDistinct refs → are_new seen refs ≡ true
others_new seen [] h d = refl
others_new seen (r ∷ refs) h d = ap₂ (λ a b. not a && b) h.0 (others_new (seen ++ r ∷ []) refs (more_seen seen r refs h.1 d.0) d.1)

-- at first none has been seen
none_seen : (refs : List Ref) → AreOthers [] refs
none_seen [] = tt
none_seen (r ∷ refs) = (refl, none_seen refs)

-- references are told to be new exactly where they differ
pub new_where : (refs : List Ref) → (are_new [] refs ≡ true → AreDistinct refs) × (AreDistinct refs → are_new [] refs ≡ true)
new_where refs = ((λ h. (new_others [] refs h).1), (λ d. others_new [] refs (none_seen refs) d))
