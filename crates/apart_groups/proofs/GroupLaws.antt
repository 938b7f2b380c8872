-- Groups of which no pair that touches has one program in each.
use Rattle.std.proofs.Common.{◌≡◌, inl, inr, ℕ, zero, suc, ◌+◌, ◌<◌, ◌≤◌, Bool, true, false, List, [], ◌∷◌, ◌++◌, length, get_or, refl, sym, ap, subst, ◌∙◌, ◌==◌, cond, ◌⊎◌, eqb-true, arith}
use Rattle.std.specs.Bool.{OnTrue}
use Rattle.std.specs.List.{Contains, AllByRecursion}
use Rattle.std.proofs.lemmas.Bool.{cases_order}
use Rattle.fs_semantics.specs.FileTree.{Path}
use Rattle.fs_semantics.specs.Programs.{Program, Id}
use Rattle.fs_semantics.specs.Changes.{CommuteFrom}
use Rattle.fs_semantics.specs.Orders.{Told, IsLinearExtension}
use Rattle.fs_semantics.proofs.Counts.{all_front, all_back, all_append}
use Rattle.sure_folders.specs.Folders.{nowhere, IsTreeWith}
use Rattle.sure_folders.specs.Before.{IsSureBeforeEither}
use Rattle.commute_prune.specs.Doubtful.{AreApartWhereSure, AreTouching}
use Rattle.settled_groups.specs.Groups.{in_turn, CommuteWhereSure, CommutesWithGroup, GroupsCommute}
use Rattle.apart_groups.specs.Groups.{AreGroups, MeetIn, other_pairs, group_of, AreNumbered, IsWithin}
use Rattle.fs_lang.proofs.NameLaws.{all_weaker}
use Rattle.std.proofs.lemmas.List.{append-nil}

-- what holds of all members holds of each
of_member : (P : (ℕ × ℕ) → Type 0) (xs : List (ℕ × ℕ)) (x : ℕ × ℕ) → Contains xs x → AllByRecursion P xs → P x
of_member P [] x h all = absurd (omega (arith, h.1))
of_member P (y ∷ xs) x (zero, h, at) all = subst P at all.0
of_member P (y ∷ xs) x (suc i, h, at) all = of_member P xs x (i, omega (arith, h), at) all.1

-- what holds of all, twice over, holds of all together
both_of : (P Q : ℕ → Type 0) (xs : List ℕ) → AllByRecursion P xs → AllByRecursion Q xs → AllByRecursion (λ k. P k × Q k) xs
both_of P Q [] all too = tt
both_of P Q (x ∷ xs) all too = ((all.0, too.0), both_of P Q xs all.1 too.1)

-- the groups are numbered from n on
abbrev NumberedFrom : List ℕ → ℕ → List (List ℕ) → Type 0
NumberedFrom numbers n groups = (i : ℕ) → i < length groups → AllByRecursion (λ k. group_of numbers k ≡ n + i) (get_or groups i [])

-- the programs of the first group have its number
of_head : (numbers : List ℕ) (n : ℕ) (group : List ℕ) (groups : List (List ℕ)) → NumberedFrom numbers n (group ∷ groups) → AllByRecursion (λ k. group_of numbers k ≡ n) group
of_head numbers n group groups h = all_weaker (λ k. group_of numbers k ≡ n + 0) (λ k. group_of numbers k ≡ n) group (λ k e. omega (arith, e)) (h 0 (omega arith))

-- and the others are numbered from the next one on
of_tail : (numbers : List ℕ) (n : ℕ) (group : List ℕ) (groups : List (List ℕ)) → NumberedFrom numbers n (group ∷ groups) → NumberedFrom numbers (suc n) groups
of_tail numbers n group groups h i low = all_weaker (λ k. group_of numbers k ≡ n + suc i) (λ k. group_of numbers k ≡ suc n + i) (get_or groups i []) (λ k e. omega (arith, e)) (h (suc i) (omega (arith, low)))

-- the programs of all groups have at least the first number
later : (numbers : List ℕ) (n : ℕ) (groups : List (List ℕ)) → NumberedFrom numbers n groups → AllByRecursion (λ k. n ≤ group_of numbers k) (in_turn groups)
later numbers n [] h = tt
later numbers n (group ∷ groups) h =
    all_append (λ k. n ≤ group_of numbers k) group (in_turn groups)
    (all_weaker (λ k. group_of numbers k ≡ n) (λ k. n ≤ group_of numbers k) group (λ k e. omega (arith, e)) (of_head numbers n group groups h))
    (all_weaker (λ k. suc n ≤ group_of numbers k) (λ k. n ≤ group_of numbers k) (in_turn groups) (λ k e. omega (arith, e)) (later numbers (suc n) groups (of_tail numbers n group groups h)))

-- programs that are apart commute where the folders stand that are sure before them
abbrev pub ApartCommute : List Program → (ℕ → ℕ → Bool) → Type 0
ApartCommute es before = (a b : ℕ) → AreApartWhereSure es before a b → CommuteFrom (IsTreeWith (IsSureBeforeEither nowhere es (Told before) a b)) (get_or es a Id) (get_or es b Id)

module _ (es : List Program) (before : ℕ → ℕ → Bool) (pairs : List (ℕ × ℕ)) (meet : MeetIn es before pairs)
    (numbers : List ℕ) (within : AllByRecursion (IsWithin numbers) pairs) where
  -- what is sure before one of two is so the other way round
  turned : (a b : ℕ) (p : Path) → IsSureBeforeEither nowhere es (Told before) b a p → IsSureBeforeEither nowhere es (Told before) a b p
  turned a b p (inl h) = inr h
  turned a b p (inr h) = inl h

  -- those of different groups commute
  of_two : (a b : ℕ) → a < b → b < length es → (group_of numbers a ≡ group_of numbers b → ⊥) → CommuteWhereSure es (Told before) a b
  of_two a b less high other = elim (meet a b less high) [
    | inl there ↦ absurd (other (of_member (IsWithin numbers) pairs (a, b) there within))
    | inr h ↦ h
  ]

  -- programs of groups of which the one has a lesser number commute
  commute : (a b : ℕ) → a < length es → b < length es → group_of numbers a < group_of numbers b → CommuteWhereSure es (Told before) a b
  commute a b low high less = elim (cases_order a b) [
    | inl same ↦ absurd (omega (arith, less, ap (group_of numbers) same))
    | inr other ↦ elim other [
      | inl first ↦ of_two a b first high (λ e. omega (arith, less, e))
      | inr second ↦ λ t tree. sym (of_two b a second low (λ e. omega (arith, less, e)) t (record { is_tree = tree.is_tree; stand = λ p h. tree.stand p (turned a b p h) }))
    ]
  ]

  -- each program of a group commutes with one of a later group
  with_later : (n b : ℕ) (group : List ℕ) → b < length es → n < group_of numbers b → AllByRecursion (λ k. k < length es) group → AllByRecursion (λ k. group_of numbers k ≡ n) group → CommutesWithGroup es (Told before) group b
  with_later n b [] high less low is = tt
  with_later n b (a ∷ group) high less low is = (commute a b low.0 high (omega (arith, less, is.0)), with_later n b group high less low.1 is.1)

  -- groups that are numbered in turn commute
  groups_commute : (n : ℕ) (groups : List (List ℕ)) → AllByRecursion (λ k. k < length es) (in_turn groups) → NumberedFrom numbers n groups → GroupsCommute es (Told before) groups
  groups_commute n [] low h = tt
  groups_commute n (group ∷ groups) low h =
      let P : ℕ → Type 0 = λ k. k < length es in
      let rest = all_back P group (in_turn groups) low in
      let tail = of_tail numbers n group groups h in (
        all_weaker (λ k. (k < length es) × (suc n ≤ group_of numbers k)) (CommutesWithGroup es (Told before) group) (in_turn groups)
            (λ b both. with_later n b group both.0 (omega (arith, both.1)) (all_front P group (in_turn groups) low) (of_head numbers n group groups h))
            (both_of P (λ k. suc n ≤ group_of numbers k) (in_turn groups) rest (later numbers (suc n) groups tail)),
        groups_commute (suc n) groups rest tail,
      )

  -- groups that have their numbers are numbered from zero on
  from_zero : (groups : List (List ℕ)) → AreNumbered numbers groups → NumberedFrom numbers 0 groups
  from_zero groups h i low = all_weaker (λ k. group_of numbers k ≡ i) (λ k. group_of numbers k ≡ 0 + i) (get_or groups i []) (λ k e. omega (arith, e)) (h i low)

  -- groups in an allowed order, each with its number, are groups that commute
  pub are_groups : (groups : List (List ℕ)) → IsLinearExtension (length es) (Told before) (in_turn groups) → AreNumbered numbers groups → AreGroups es before groups
  are_groups groups allowed numbered = record { allowed = allowed; commute = groups_commute 0 groups allowed.below (from_zero groups numbered) }

-- an allowed order is one group
pub one_group : (es : List Program) (before : ℕ → ℕ → Bool) (order : List ℕ) → IsLinearExtension (length es) (Told before) order → AreGroups es before (order ∷ [])
one_group es before order allowed = record { allowed = subst (IsLinearExtension (length es) (Told before)) (sym (append-nil order)) allowed; commute = (tt, tt) }

-- ---- pairs that meet

-- the pairs that aren't apart are all that needn't commute
pub touching_meet : (es : List Program) (before : ℕ → ℕ → Bool) → ApartCommute es before → (pairs : List (ℕ × ℕ)) → AreTouching es before pairs → MeetIn es before pairs
touching_meet es before apart pairs touching a b less high = elim (touching.all a b less high) [
  | inl there ↦ inl there
  | inr h ↦ inr (apart a b h)
]

-- the first of a list is one of it
first_of : (x : ℕ × ℕ) (xs : List (ℕ × ℕ)) → Contains (x ∷ xs) x
first_of x xs = (0, omega arith, refl)

-- and one of the rest is one of it
behind_one : (y : ℕ × ℕ) (xs : List (ℕ × ℕ)) (x : ℕ × ℕ) → Contains xs x → Contains (y ∷ xs) x
behind_one y xs x h = (suc h.0, omega (arith, h.1), h.2)

-- a pair that isn't left out stays
kept_pair : (second : ℕ) (pairs : List (ℕ × ℕ)) (a b : ℕ) → Contains pairs (a, b) → (b ≡ second) ⊎ Contains (other_pairs second pairs) (a, b)
kept_pair second [] a b h = absurd (omega (arith, h.1))
kept_pair second (pair ∷ pairs) a b (zero, low, at) = elim (pair.1 == second) as (λ t. (pair.1 == second) ≡ t → (b ≡ second) ⊎ Contains (cond t [] (pair ∷ []) ++ other_pairs second pairs) (a, b)) [
  | true ↦ λ e. inl (sym (ap (λ (q : ℕ × ℕ). q.1) at) ∙ eqb-true pair.1 second e)
  | false ↦ λ e. inr (subst (Contains (pair ∷ other_pairs second pairs)) at (first_of pair (other_pairs second pairs)))
] refl
kept_pair second (pair ∷ pairs) a b (suc i, low, at) = elim (kept_pair second pairs a b (i, omega (arith, low), at)) [
  | inl e ↦ inl e
  | inr there ↦ inr (elim (pair.1 == second) as (λ t. Contains (cond t [] (pair ∷ []) ++ other_pairs second pairs) (a, b)) [
    | true ↦ there
    | false ↦ behind_one pair (other_pairs second pairs) (a, b) there
  ])
]

-- pairs with a program that commutes with each of lesser number needn't stand in the list
pub others_meet : (es : List Program) (before : ℕ → ℕ → Bool) (last : ℕ) → ((k : ℕ) → k < last → CommuteWhereSure es (Told before) k last) → (pairs : List (ℕ × ℕ)) → MeetIn es before pairs → MeetIn es before (other_pairs last pairs)
others_meet es before last commutes pairs meet a b less high = elim (meet a b less high) [
  | inl there ↦ elim (kept_pair last pairs a b there) [
    | inl same ↦ inr (subst (CommuteWhereSure es (Told before) a) (sym same) (commutes a (subst (λ n. a < n) same less)))
    | inr kept ↦ inl kept
  ]
  | inr h ↦ inr h
]

-- what follows where a test holds
pub on_true : {P Q : Type 0} (b : Bool) → (P → Q) → OnTrue b P → OnTrue b Q
on_true true f h = f h
on_true false f h = tt
