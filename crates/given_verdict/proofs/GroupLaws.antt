-- Behind the guard the given folders stand, where no program removes one; so the guard commutes with each program.
use Rattle.std.proofs.Common.{◌≡◌, ◌⊎◌, inl, inr, ℕ, ◌<◌, Bool, true, false, ◌&&◌, ◌||◌, List, [], ◌∷◌, ◌++◌, length, get_or, Some, None, refl, sym, ap, subst, ◌∙◌, arith}
use Rattle.std.proofs.lemmas.Bool.{or_cases}
use Rattle.std.specs.Prelude.{IsTrue, Option, IfSome}
use Rattle.std.specs.List.{AllByRecursion}
use Rattle.fs_semantics.specs.FileTree.{Path, Tree, is_dir, is_among, parent, path_eq}
use Rattle.fs_semantics.specs.Programs.{Program, Id, Outcome, and_then, run}
use Rattle.fs_semantics.specs.Orders.{Told}
use Rattle.fs_semantics.proofs.Commuting.{all_at}
use Rattle.fs_semantics.proofs.Trees.{path_eq_refl}
use Rattle.given_hosts.specs.Given.{Stand}
use Rattle.given_hosts.specs.Guard.{need, need_all, guard, guarded, GoesFirst, KeepsGiven}
use Rattle.given_hosts.proofs.GuardLaws.{guard_stands, last_one}
use Rattle.given_hosts.proofs.GraphLaws.{longer}
use Rattle.sure_folders.specs.Folders.{Paths, nowhere, folders_after, folders_after_steps, sure_folders, MayRemove, MayRemoveInSteps}
use Rattle.sure_folders.specs.Before.{IsNeverRemoved, IsSureBefore}
use Rattle.settled_groups.specs.Groups.{CommuteWhereSure}
use Rattle.given_verdict.specs.Keeping.{Spares}

-- ---- the guard makes sure of the given folders

-- whether it is the folder, whether it lies right above it, and whether it stood
table : (a b s : Bool) → (a ≡ true) ⊎ (s ≡ true) → (((a || (b || false)) || (((a || (b || false)) || s) && true)) && (a || (b || (((a || (b || false)) || s) && true)))) ≡ true
table true b s h = refl
table false true s h = refl
table false false true h = refl
table false false false (inl h) = h
table false false false (inr h) = h

-- behind the check of a folder it stands for sure, and so does what stood before
need_sure : (q p : Path) (stood : Paths) → (path_eq p q ≡ true) ⊎ (stood p ≡ true) → folders_after (need q) stood p ≡ true
need_sure q p stood h = table (path_eq p q) (path_eq p (parent q)) (stood p) h

-- behind the checks of all given folders each of them stands for sure, and so does what stood before
all_sure : (given : List Path) (p : Path) (stood : Paths) → (is_among p given ≡ true) ⊎ (stood p ≡ true) → folders_after_steps (need_all given) stood p ≡ true
all_sure [] p stood (inl h) = cc
all_sure [] p stood (inr h) = h
all_sure (q ∷ given) p stood (inr h) = all_sure given p (folders_after (need q) stood) (inr (need_sure q p stood (inr h)))
all_sure (q ∷ given) p stood (inl h) = elim (or_cases (path_eq p q) (is_among p given) h) [
  | inl here ↦ all_sure given p (folders_after (need q) stood) (inr (need_sure q p stood (inl here)))
  | inr there ↦ all_sure given p (folders_after (need q) stood) (inl there)
]

-- ---- and removes nothing

-- the check of a folder removes nothing
need_spares : (q p : Path) → MayRemove (need q) p → ⊥
need_spares q p (inl (inl m)) = m
need_spares q p (inl (inr m)) = m
need_spares q p (inr (inl (inl m))) = m
need_spares q p (inr (inl (inr m))) = m
need_spares q p (inr (inr m)) = m

-- and the checks of all given folders remove nothing
all_spare : (given : List Path) (p : Path) → MayRemoveInSteps (need_all given) p → ⊥
all_spare [] p m = m
all_spare (q ∷ given) p (inl m) = need_spares q p m
all_spare (q ∷ given) p (inr m) = all_spare given p m

-- the guard leaves the given folders standing
guard_keeps : (given : List Path) → KeepsGiven given (guard given)
guard_keeps given t u stand done = let same : t ≡ u = some_same (sym (guard_stands given t stand) ∙ done) in subst (Stand given) same stand
  where
    some_same : {a b : Tree} → ◌≡◌ {A = Outcome} (Some a) (Some b) → a ≡ b
    some_same h = cc

-- ---- where the folders stand that are sure

-- what holds of all programs of two lists holds of all of the one behind the other
all_append : (P : Program → Type 0) (xs ys : List Program) → AllByRecursion P xs → AllByRecursion P ys → AllByRecursion P (xs ++ ys)
all_append P [] ys all more = more
all_append P (x ∷ xs) ys all more = (all.0, all_append P xs ys all.1 more)

-- where each program spares the given folders, none may remove one of them
each_spares : (given : List Path) (p : Path) → is_among p given ≡ true → (es : List Program) → AllByRecursion (Spares given) es → AllByRecursion (λ e. MayRemove e p → ⊥) es
each_spares given p among [] all = tt
each_spares given p among (e ∷ es) all = (all.0 p among, each_spares given p among es all.1)

-- where each given path is that of a folder, the given folders stand
all_stand : (given : List Path) (t : Tree) → ((p : Path) → is_among p given ≡ true → IsTrue (is_dir t p)) → Stand given t
all_stand [] t h = tt
all_stand (p ∷ given) t h = (h p (here (path_eq p p) (is_among p given) (path_eq_refl p)), all_stand given t (λ q among. h q (there (path_eq q p) (is_among q given) among)))
  where
    here : (a b : Bool) → a ≡ true → (a || b) ≡ true
    here true b e = refl
    here false b e = cc

    there : (a b : Bool) → b ≡ true → (a || b) ≡ true
    there true b e = refl
    there false b e = e

module _ (given : List Path) (es : List Program) (before after : ℕ → ℕ → Bool) (first : GoesFirst (length es) before after) (spares : AllByRecursion (Spares given) es) where
  -- no program may remove a given folder, nor may the guard
  never_removed : (p : Path) → is_among p given ≡ true → IsNeverRemoved (guarded given es) p
  never_removed p among = all_append (λ e. MayRemove e p → ⊥) es (guard given ∷ []) (each_spares given p among es spares) ((λ m. all_spare given p m), tt)

  -- the given folders are sure before each program
  sure_behind : (k : ℕ) → k < length es → (p : Path) → is_among p given ≡ true → IsSureBefore nowhere (guarded given es) (Told after) k p
  sure_behind k low p among = record {
    stands = inr (record {
      maker = length es;
      is_program = omega (arith, longer given es);
      other = λ e. omega (arith, e, low);
      comes = first.first k low;
      sure = subst (λ e. IsTrue (sure_folders e p)) (sym (last_one es (guard given))) (all_sure given p nowhere (inl among));
    });
    stays = never_removed p among;
  }

  -- where the folders stand that are sure before it, each program commutes with the guard
  pub guard_commutes : AllByRecursion (KeepsGiven given) es → (k : ℕ) → k < length es → CommuteWhereSure (guarded given es) (Told after) k (length es)
  guard_commutes keeps k low t tree =
      let one = get_or (guarded given es) k Id in
      let last = last_one es (guard given) in
      let stand : Stand given t = all_stand given t (λ p among. tree.stand p (inl (sure_behind k low p among))) in
      let kept : KeepsGiven given one = all_at (KeepsGiven given) (guarded given es) (all_append (KeepsGiven given) es (guard given ∷ []) keeps (guard_keeps given, tt)) (λ u v h e. subst (Stand given) (some_same e) h) k in
      subst (λ g. and_then (run one t) (run g) ≡ and_then (run g t) (run one)) (sym last)
      (behind (run one t) (λ u done. guard_stands given u (kept t u stand done)) ∙ sym (ap (λ r. and_then r (run one)) (guard_stands given t stand)))
    where
      some_same : {a b : Tree} → ◌≡◌ {A = Outcome} (Some a) (Some b) → a ≡ b
      some_same h = cc

      behind : (r : Outcome) → ((u : Tree) → r ≡ Some u → run (guard given) u ≡ Some u) → and_then r (run (guard given)) ≡ r
      behind None h = refl
      behind (Some u) h = h u refl

-- what holds of whatever is found, of two
pub both_of_some : {A : Type 0} (P Q R : A → Type 0) → ((a : A) → P a → Q a → R a) → (found : Option A) → IfSome found P → IfSome found Q → IfSome found R
both_of_some P Q R to None p q = tt
both_of_some P Q R to (Some a) p q = to a p q
