-- Places in order, and what stands there.
use Rattle.std.proofs.Common.{◌≡◌, ℕ, zero, suc, ◌+◌, ◌<◌, Bool, true, false, cond, ◌||◌, List, [], ◌∷◌, ◌++◌, drop, Option, Some, None, refl, ap, ap₂, sym, ◌∙◌, add-one, append_assoc, append-nil, map, Bor, arith}
use Rattle.std.specs.Prelude.{slice_get}
use Rattle.std.specs.declared.cmp.Ordering.TheVariants.{Less, Equal, Greater}
use Rattle.std.specs.Cmp.{nat_cmp_is}
use Rattle.std.specs.Ordering.{nat_cmp, match_ordering}
use Rattle.std.specs.BTreeSet.{insert_key}
use Rattle.std.specs.List.{AllByRecursion, filter}
use Rattle.compiled_text.specs.declared.catalog.CompiledResource.{CompiledResource}
use Rattle.compiled_text.specs.Compiled.{counts_as}
use Rattle.compiled_attributes.specs.Fragments.{is_for, is_gathered_by, gathered}
use Rattle.compiled_attributes.specs.Places.{places_where, places_in, HoldsFragments, with_places, if_there, at_places}

-- ---- numbers in order

-- a greater number compares as greater
above : (p n : ℕ) → n < p → nat_cmp p n ≡ Greater
above p n h = sym (nat_cmp_is p n Greater h)

-- a lesser one as less
below : (n p : ℕ) → n < p → nat_cmp n p ≡ Less
below n p h = sym (nat_cmp_is n p Less h)

-- and a number as equal to itself
level : (n : ℕ) → nat_cmp n n ≡ Equal
level n = sym (nat_cmp_is n n Equal refl)

-- each place is above this one
abbrev AreAbove : ℕ → List ℕ → Type 0
AreAbove n ps = AllByRecursion (λ p. n < p) ps

-- what is above the first goes behind it
behind : (n : ℕ) (ps qs : List ℕ) → AreAbove n qs → with_places (n ∷ ps) qs ≡ n ∷ with_places ps qs
behind n ps [] h = refl
behind n ps (q ∷ qs) h =
    ap (λ o. with_places (match_ordering o (q ∷ n ∷ ps) (n ∷ ps) (n ∷ insert_key nat_cmp ps q)) qs) (above q n h.0) ∙ behind n (insert_key nat_cmp ps q) qs h.1

-- what is below all goes first
put_first : (n : ℕ) (ps : List ℕ) → AreAbove n ps → insert_key nat_cmp ps n ≡ n ∷ ps
put_first n [] h = refl
put_first n (p ∷ ps) h = ap (λ o. match_ordering o (n ∷ p ∷ ps) (p ∷ ps) (p ∷ insert_key nat_cmp ps n)) (below n p h.0)

-- with one more that is above, or without, all are above
at_above : (n m : ℕ) (ps : List ℕ) (t : Bool) → n < m → AreAbove n ps → AreAbove n (cond t (m ∷ ps) ps)
at_above n m ps true h later = (h, later)
at_above n m ps false h later = later

-- a place of either is put once ahead of those of both
next_both : (n : ℕ) (ps qs both : List ℕ) (a b : Bool) → AreAbove n ps → AreAbove n qs → with_places ps qs ≡ both
    → with_places (cond a (n ∷ ps) ps) (cond b (n ∷ qs) qs) ≡ cond (a || b) (n ∷ both) both
next_both n ps qs both true true h k later =
    ap (λ o. with_places (match_ordering o (n ∷ n ∷ ps) (n ∷ ps) (n ∷ insert_key nat_cmp ps n)) qs) (level n) ∙ (behind n ps qs k ∙ ap (λ l. n ∷ l) later)
next_both n ps qs both true false h k later = behind n ps qs k ∙ ap (λ l. n ∷ l) later
next_both n ps qs both false true h k later = ap (λ l. with_places l qs) (put_first n ps h) ∙ (behind n ps qs k ∙ ap (λ l. n ∷ l) later)
next_both n ps qs both false false h k later = later

module _ {X : Type 0} where
  -- ---- places

  -- the places of what passes, counted from further on, are above
  are_above : (test : X → Bool) (n m : ℕ) (rs : List X) → n < m → AreAbove n (places_where test m rs)
  are_above test n m [] h = tt
  are_above test n m (r ∷ rs) h = at_above n m (places_where test (m + 1) rs) (test r) h (are_above test n (m + 1) rs (omega arith))

  -- the places of what passes one of two tests are those of the one, and then those of the other
  both_places : (f g : X → Bool) (n : ℕ) (rs : List X) → with_places (places_where f n rs) (places_where g n rs) ≡ places_where (λ r. f r || g r) n rs
  both_places f g n [] = refl
  both_places f g n (r ∷ rs) =
      next_both n (places_where f (n + 1) rs) (places_where g (n + 1) rs) (places_where (λ q. f q || g q) (n + 1) rs) (f r) (g r)
      (are_above f n (n + 1) rs (omega arith)) (are_above g n (n + 1) rs (omega arith)) (both_places f g (n + 1) rs)

  -- where nothing passes there are no places
  nowhere : (n : ℕ) (rs : List X) → places_where (λ r. false) n rs ≡ []
  nowhere n [] = refl
  nowhere n (r ∷ rs) = nowhere (n + 1) rs

  -- places in order, put one after the other, are the same
  put_alone : (f : X → Bool) (n : ℕ) (rs : List X) → with_places [] (places_where f n rs) ≡ places_where f n rs
  put_alone f n rs = ap (λ l. with_places l (places_where f n rs)) (sym (nowhere n rs)) ∙ both_places (λ r. false) f n rs

  -- those of two tests, put together, are the places of what passes either
  put_both : (f g : X → Bool) (n : ℕ) (rs : List X) → with_places (with_places [] (places_where f n rs)) (places_where g n rs) ≡ places_where (λ r. f r || g r) n rs
  put_both f g n rs = ap (λ l. with_places l (places_where g n rs)) (put_alone f n rs) ∙ both_places f g n rs

  -- ---- what stands at a place

  -- the first that is left stands at this place
  pub stands : (all : List X) (n : ℕ) (r : X) (rs : List X) → drop n all ≡ r ∷ rs → slice_get all n ≡ Some r
  stands [] zero r rs h = cc
  stands [] (suc n) r rs h = cc
  stands (x ∷ all) zero r rs h = let same : x ≡ r = cc in ap (λ y. Some y) same
  stands (x ∷ all) (suc n) r rs h = stands all n r rs h

  -- and the others are left behind it
  pub behind_it : (all : List X) (n : ℕ) (r : X) (rs : List X) → drop n all ≡ r ∷ rs → drop (suc n) all ≡ rs
  behind_it [] zero r rs h = cc
  behind_it [] (suc n) r rs h = cc
  behind_it (x ∷ all) zero r rs h = cc
  behind_it (x ∷ all) (suc n) r rs h = behind_it all n r rs h

  -- at one more place stands one more
  next_read : (t : Bool) (all : List X) (n : ℕ) (r : X) (ps : List ℕ) (found : List X) → slice_get all n ≡ Some r → at_places all ps ≡ found
      → at_places all (cond t (n ∷ ps) ps) ≡ cond t (r ∷ found) found
  next_read true all n r ps found here later = ap₂ if_there here later
  next_read false all n r ps found here later = later

  -- at the places of what passes a test stands what passes it
  read_back : (test : X → Bool) (all : List X) (n : ℕ) (rs : List X) → drop n all ≡ rs → at_places all (places_where test n rs) ≡ filter test rs
  read_back test all n [] h = refl
  read_back test all n (r ∷ rs) h =
      next_read (test r) all n r (places_where test (n + 1) rs) (filter test rs) (stands all n r rs h)
      (read_back test all (n + 1) rs (ap (λ m. drop m all) (add-one n) ∙ behind_it all n r rs h))

  -- one that is there, with others behind it, is ahead of them
  there : (o : Option X) (rs : List X) → if_there o [] ++ rs ≡ if_there o rs
  there None rs = refl
  there (Some r) rs = refl

  -- one more place is read
  pub next_place : (all found new whole : List X) (p : ℕ) (old rest : List ℕ) → old ≡ p ∷ rest → found ++ at_places all old ≡ whole → new ≡ found ++ if_there (slice_get all p) []
      → new ++ at_places all rest ≡ whole
  next_place all found new whole p old rest next so_far is =
      ap (λ l. l ++ at_places all rest) is
      ∙ (append_assoc found (if_there (slice_get all p) []) (at_places all rest)
      ∙ (ap (λ l. found ++ l) (there (slice_get all p) (at_places all rest)) ∙ (ap (λ l. found ++ at_places all l) (sym next) ∙ so_far)))

-- nothing is added, where there is none
pub none_there : {X : Type 0} (found : List (Bor X)) (o : Option X) → o ≡ None → map (λ x. x.now) found ≡ map (λ x. x.now) found ++ if_there o []
none_there found o none = sym (append-nil (map (λ x. x.now) found)) ∙ ap (λ p. map (λ x. x.now) found ++ if_there p []) (sym none)

-- the fragments that a file gathers stand at the places of its path and of its title
pub gathered_there : (resources : List CompiledResource) (table : List (List ℕ × List ℕ)) (file : CompiledResource) → HoldsFragments resources table
    → at_places resources (with_places (with_places [] (places_in table (counts_as file).title)) (places_in table file.id.title)) ≡ gathered resources file
gathered_there resources table file h =
    ap₂ (λ ps qs. at_places resources (with_places (with_places [] ps) qs)) (h (counts_as file).title) (h file.id.title)
    ∙ (ap (at_places resources) (put_both (is_for (counts_as file).title) (is_for file.id.title) 0 resources) ∙ read_back (is_gathered_by file) resources 0 resources refl)
