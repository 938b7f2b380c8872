-- A chain of parents has more members than there are classes exactly where it meets a class twice.
use Rattle.std.proofs.Common.{◌≡◌, ◌↔◌, ℕ, zero, suc, ◌+◌, ◌≤◌, Bool, true, false, ◌||◌, cond, List, [], ◌∷◌, map, length, Option, Some, None, refl, ap, sym, ◌∙◌, subst, arith}
use Rattle.std.specs.Prelude.{option_and_then}
use Rattle.std.specs.List.{list_any, IsDistinct, AllByRecursion}
use Rattle.std.specs.Str.{bytes_eq}
use Rattle.std.specs.Cmp.Lexicographic.{nat_list_eq_equiv}
use Rattle.std.proofs.lemmas.Bool.{ltb-true, ltb-false}
use Rattle.std.proofs.lemmas.List.{length-map}
use Rattle.std.proofs.lemmas.Map.Made.{length-le_from_is_member}
use Rattle.std.proofs.lemmas.Slice.Eq.{bytes_eq-Decides}
use Rattle.catalog_semantics.specs.Sites.{Definition, definition_of, line_of, inherits_itself, MeetsTwice}

module _ (classes : List Definition) where
  -- it is found by its own name
  abbrev pub IsOwn : Definition → Type 0
  IsOwn d = definition_of d.name classes ≡ Some d

  -- so of a class, if there is one
  abbrev pub IfOwn : Option Definition → Type 0
  IfOwn None = Unit {0}
  IfOwn (Some d) = IsOwn d

  -- the parent of a class, if it is a class
  abbrev pub next : Definition → Option Definition
  next d = option_and_then (λ parent. definition_of parent classes) d.parent

-- what is found at the first or among the others has the name, where it does so among the others
own_head : (name : List ℕ) (d e : Definition) (found : Option Definition) → (found ≡ Some e → e.name ≡ name) → (t : Bool) → bytes_eq d.name name ≡ t → cond t (Some d) found ≡ Some e → e.name ≡ name
own_head name d e found f true is h = let same : d ≡ e = cc in ap (λ (c : Definition). c.name) (sym same) ∙ (bytes_eq-Decides d.name name).0 is
own_head name d e found f false is h = f h

-- a class that is found by a name has it
pub has_name : (name : List ℕ) (classes : List Definition) (e : Definition) → definition_of name classes ≡ Some e → e.name ≡ name
has_name name [] e h = cc
has_name name (d ∷ classes) e h = own_head name d e (definition_of name classes) (has_name name classes e) (bytes_eq d.name name) refl h

module _ (classes : List Definition) where
  -- a class that is found is found by its own name
  pub found_own : (name : List ℕ) (o : Option Definition) → definition_of name classes ≡ o → IfOwn classes o
  found_own name None h = tt
  found_own name (Some e) h = ap (λ k. definition_of k classes) (has_name name classes e h) ∙ h

  -- so is a parent
  next_by : (o : Option (List ℕ)) → IfOwn classes (option_and_then (λ parent. definition_of parent classes) o)
  next_by None = tt
  next_by (Some name) = found_own name (definition_of name classes) refl

  -- and the parent of a class
  next_own : (d : Definition) → IfOwn classes (next classes d)
  next_own d = next_by d.parent

  -- so are all of a chain
  all_own : (n : ℕ) (o : Option Definition) → IfOwn classes o → AllByRecursion (IsOwn classes) (line_of n classes o)
  all_own zero o h = tt
  all_own (suc n) None h = tt
  all_own (suc n) (Some d) h = (h, all_own n (next classes d) (next_own d))

  -- ---- more members than classes

  -- the name of a class that is found is among the names
  is_there : (q : List ℕ) (ds : List Definition) (e : Definition) → definition_of q ds ≡ Some e → list_any (bytes_eq q) (map (λ d. d.name) ds) ≡ true
  is_there q [] e h = cc
  is_there q (d ∷ ds) e h = by_test (bytes_eq d.name q) (bytes_eq q d.name) refl refl (is_there q ds e) h
    where
      by_test : (t w : Bool) → bytes_eq d.name q ≡ t → bytes_eq q d.name ≡ w → (definition_of q ds ≡ Some e → list_any (bytes_eq q) (map (λ c. c.name) ds) ≡ true)
          → cond t (Some d) (definition_of q ds) ≡ Some e → (w || list_any (bytes_eq q) (map (λ c. c.name) ds)) ≡ true
      by_test t true a b f k = refl
      by_test true false a b f k = let clash : true ≡ false = sym ((bytes_eq-Decides q d.name).1 (sym ((bytes_eq-Decides d.name q).0 a))) ∙ b in cc
      by_test false false a b f k = f k

  -- a name in such a chain is that of a class
  member_there : (q : List ℕ) (xs : List Definition) → AllByRecursion (IsOwn classes) xs → list_any (bytes_eq q) (map (λ d. d.name) xs) ≡ true → list_any (bytes_eq q) (map (λ d. d.name) classes) ≡ true
  member_there q [] h k = cc
  member_there q (e ∷ xs) h k = by_test (bytes_eq q e.name) refl (member_there q xs h.1) k
    where
      by_test : (t : Bool) → bytes_eq q e.name ≡ t → (list_any (bytes_eq q) (map (λ d. d.name) xs) ≡ true → list_any (bytes_eq q) (map (λ d. d.name) classes) ≡ true)
          → (t || list_any (bytes_eq q) (map (λ d. d.name) xs)) ≡ true → list_any (bytes_eq q) (map (λ d. d.name) classes) ≡ true
      by_test true a f k = subst (λ w. list_any (bytes_eq w) (map (λ d. d.name) classes) ≡ true) (sym ((bytes_eq-Decides q e.name).0 a)) (is_there e.name classes e h.0)
      by_test false a f k = f k

  -- a chain of distinct names has no more members than there are classes
  no_more : (xs : List Definition) → AllByRecursion (IsOwn classes) xs → IsDistinct bytes_eq (map (λ d. d.name) xs) → length xs ≤ length classes
  no_more xs own distinct =
      let many = length-le_from_is_member nat_list_eq_equiv (map (λ d. d.name) xs) (map (λ d. d.name) classes) distinct (λ q h. member_there q xs own h) in
      let left = length-map xs (λ (d : Definition). d.name) in
      let right = length-map classes (λ (d : Definition). d.name) in
      omega arith

  -- a chain with more members than classes meets one twice
  twice : (d : Definition) → IsOwn classes d → inherits_itself classes d ≡ true → MeetsTwice classes d
  twice d own h =
      let line = line_of (length classes + 1) classes (Some d) in
      let more = ltb-true (length classes) (length line) h in
      (length classes + 1, λ distinct. let few = no_more line (all_own (length classes + 1) (Some d) own) distinct in absurd (omega arith))

  -- ---- a chain that ends

  -- the chain ends within so many members
  abbrev pub Ends : ℕ → Option Definition → Type 0
  Ends k None = Unit {0}
  Ends zero (Some d) = ⊥
  Ends (suc k) (Some d) = Ends k (next classes d)

  -- how many members the chain has, up to so many
  abbrev pub rank : ℕ → Option Definition → ℕ
  rank k o = length (line_of k classes o)

  -- a chain with no more members than this ends within it
  pub ends_by : (k : ℕ) (o : Option Definition) → length (line_of (suc k) classes o) ≤ k → Ends k o
  ends_by k None h = tt
  ends_by zero (Some d) h = absurd (omega arith)
  ends_by (suc k) (Some d) h = ends_by k (next classes d) (omega arith)

  -- a chain that ends within so many ends within one more
  pub longer : (k : ℕ) (o : Option Definition) → Ends k o → Ends (suc k) o
  longer k None h = tt
  longer zero (Some d) h = absurd h
  longer (suc k) (Some d) h = longer k (next classes d) h

  -- the chain of no class has no members
  no_line : (k : ℕ) → line_of k classes None ≡ []
  no_line zero = refl
  no_line (suc k) = refl

  -- a chain that ends has no more members however many are asked for
  stable : (k : ℕ) (o : Option Definition) → Ends k o → line_of (suc k) classes o ≡ line_of k classes o
  stable k None h = sym (no_line k)
  stable zero (Some d) h = absurd h
  stable (suc k) (Some d) h = ap (λ ds. d ∷ ds) (stable k (next classes d) h)

  -- the chain of a parent has one member less
  pub falls : (k : ℕ) (d : Definition) → Ends k (Some d) → rank k (Some d) ≡ suc (rank k (next classes d))
  falls zero d h = absurd h
  falls (suc k) d h = ap (λ (ds : List Definition). suc (length ds)) (sym (stable k (next classes d) h))

  -- the chain of a parent ends, too
  pub goes_on : (k : ℕ) (d : Definition) → Ends k (Some d) → Ends k (next classes d)
  goes_on zero d h = absurd h
  goes_on (suc k) d h = longer k (next classes d) h

  -- no member of a chain that ends has a longer chain than its first
  all_low : (k n bound : ℕ) (o : Option Definition) → Ends k o → rank k o ≤ bound → AllByRecursion (λ e. rank k (Some e) ≤ bound) (line_of n classes o)
  all_low k zero bound o h low = tt
  all_low k (suc n) bound None h low = tt
  all_low k (suc n) bound (Some d) h low = let fall = falls k d h in (low, all_low k n bound (next classes d) (goes_on k d h) (omega arith))

  -- a class with a shorter chain than another has another name
  one_apart : (k : ℕ) (d e : Definition) → Ends k (Some d) → IsOwn classes d → IsOwn classes e → rank k (Some e) ≤ rank k (next classes d) → (t : Bool) → bytes_eq d.name e.name ≡ t → t ≡ false
  one_apart k d e h own other low false is = refl
  one_apart k d e h own other low true is =
      let name = (bytes_eq-Decides d.name e.name).0 is in
      let same : Some d ≡ Some e = sym own ∙ (ap (λ w. definition_of w classes) name ∙ other) in
      let level : rank k (Some d) ≡ rank k (Some e) = ap (rank k) same in
      let fall = falls k d h in
      absurd (omega arith)

  -- so have all of a chain with shorter ones
  all_apart : (k : ℕ) (d : Definition) (xs : List Definition) → Ends k (Some d) → IsOwn classes d → AllByRecursion (IsOwn classes) xs → AllByRecursion (λ e. rank k (Some e) ≤ rank k (next classes d)) xs
      → AllByRecursion (λ y. bytes_eq d.name y ≡ false) (map (λ c. c.name) xs)
  all_apart k d [] h own others low = tt
  all_apart k d (e ∷ xs) h own others low = (is_apart (one_apart k d e h own others.0 low.0), all_apart k d xs h own others.1 low.1)
    where
      is_apart : ((t : Bool) → bytes_eq d.name e.name ≡ t → t ≡ false) → bytes_eq d.name e.name ≡ false
      is_apart f = f (bytes_eq d.name e.name) refl

  -- a chain that ends has distinct names
  distinct : (k n : ℕ) (o : Option Definition) → Ends k o → IfOwn classes o → IsDistinct bytes_eq (map (λ d. d.name) (line_of n classes o))
  unfolding IsDistinct
  distinct k zero o h own = tt
  distinct k (suc n) None h own = tt
  distinct k (suc n) (Some d) h own =
      let below = goes_on k d h in (
        all_apart k d (line_of n classes (next classes d)) h own (all_own n (next classes d) (next_own d)) (all_low k n (rank k (next classes d)) (next classes d) below (omega arith)),
        distinct k n (next classes d) below (next_own d),
      )

  -- a chain that meets a class twice has more members than there are classes
  back : (d : Definition) → IsOwn classes d → MeetsTwice classes d → (t : Bool) → inherits_itself classes d ≡ t → t ≡ true
  back d own h true is = refl
  back d own h false is =
      let line = line_of (length classes + 1) classes (Some d) in
      let few = ltb-false (length classes) (length line) is in
      let more : length classes + 1 ≡ suc (length classes) = omega arith in
      let ends = ends_by (length classes) (Some d) (subst (λ n. length (line_of n classes (Some d)) ≤ length classes) more few) in
      absurd (h.1 (distinct (length classes) h.0 (Some d) ends own))

  -- a class is told to inherit itself exactly where its chain meets a class twice
  pub circle_is : (d : Definition) → definition_of d.name classes ≡ Some d → (inherits_itself classes d ≡ true) ↔ MeetsTwice classes d
  circle_is d own = (twice d own, λ h. back d own h (inherits_itself classes d) refl)
