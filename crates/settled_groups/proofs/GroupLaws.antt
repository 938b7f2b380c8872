-- A group that is settled stays so while programs run that commute with it.
use Rattle.std.proofs.Common.{◌≡◌, inl, inr, ℕ, ◌<◌, List, [], ◌∷◌, ◌++◌, length, get_or, Some, None, refl, sym, ap, subst, ◌∙◌, arith, append_assoc}
use Rattle.std.specs.List.{AllByRecursion}
use Rattle.fs_semantics.specs.FileTree.{Path, Tree, IsTree}
use Rattle.fs_semantics.specs.Programs.{Program, Id, and_then, run}
use Rattle.fs_semantics.specs.Changes.{IsProper}
use Rattle.fs_semantics.specs.Orders.{times, IsLinearExtension, outcome, IsDeterministic, IsIdempotent}
use Rattle.fs_semantics.proofs.Counts.{all_from, times_found, times_append}
use Rattle.fs_semantics.proofs.Permuted.{and_then_assoc, then_alike}
use Rattle.fs_semantics.proofs.Commuting.{all_at, outcome-append, each_keeps_tree, outcome_keeps_tree}
use Rattle.fs_semantics.proofs.ConstructLaws.{split_then}
use Rattle.sure_folders.specs.Folders.{nowhere, MayRemove, Stand}
use Rattle.sure_folders.specs.Before.{IsSureBeforeEither, IsNeverRemoved}
use Rattle.sure_folders.proofs.Left.{folder_kept}
use Rattle.sure_folders.proofs.Turns.{outcome_keeps_folder, sure_folders_stand}
use Rattle.settled_groups.specs.Groups.{in_turn, GroupSettles, CommutesWithGroup, GroupsCommute}

module _ (es : List Program) (before : ℕ → ℕ → Type 0) (proper : AllByRecursion IsProper es) where
  -- a folder that is sure before one of two programs is removed by none
  never_removed : (a b : ℕ) (p : Path) → IsSureBeforeEither nowhere es before a b p → IsNeverRemoved es p
  never_removed a b p (inl s) = s.stays
  never_removed a b p (inr s) = s.stays

  -- a tree in which the folders stand that are sure before the program or before one of the group
  abbrev Sure : ℕ → List ℕ → Tree → Type 0
  Sure y group t = IsTree t × AllByRecursion (λ a. Stand (IsSureBeforeEither nowhere es before a y) t) group

  -- the folders that are sure before one of two stand still after a program
  stand_after : (i : ℕ) (a y : ℕ) (t u : Tree) → Stand (IsSureBeforeEither nowhere es before a y) t → run (get_or es i Id) t ≡ Some u → Stand (IsSureBeforeEither nowhere es before a y) u
  stand_after i a y t u stand h p sure =
      folder_kept (get_or es i Id) p t u (all_at (λ e. MayRemove e p → ⊥) es (never_removed a y p sure) (λ none. none) i) (stand p sure) h

  -- and so do those of a whole group
  all_stand_after : (i : ℕ) (y : ℕ) (group : List ℕ) (t u : Tree) → AllByRecursion (λ a. Stand (IsSureBeforeEither nowhere es before a y) t) group → run (get_or es i Id) t ≡ Some u
      → AllByRecursion (λ a. Stand (IsSureBeforeEither nowhere es before a y) u) group
  all_stand_after i y [] t u all h = tt
  all_stand_after i y (a ∷ group) t u all h = (stand_after i a y t u all.0 h, all_stand_after i y group t u all.1 h)

  -- the whole group commutes with the program
  with_group : (y : ℕ) (group : List ℕ) → CommutesWithGroup es before group y → (t : Tree) → Sure y group t
      → and_then (outcome es group t) (run (get_or es y Id)) ≡ and_then (run (get_or es y Id) t) (outcome es group)
  with_group y [] commute t sure = sym (then_same (run (get_or es y Id) t))
    where
      then_same : (r : _) → and_then r (outcome es []) ≡ r
      then_same None = refl
      then_same (Some u) = refl
  with_group y (a ∷ group) commute t sure =
      let first = run (get_or es a Id) t in
      let rest = outcome es group in
      let other = run (get_or es y Id) in
      and_then_assoc first rest other
      ∙ then_alike first (λ u. and_then (rest u) other) (λ u. and_then (other u) rest) (λ u is.
      with_group y group commute.1 u (each_keeps_tree es proper a t u sure.0 is, all_stand_after a y group t u sure.1.1 is))
      ∙ sym (and_then_assoc first other rest)
      ∙ ap (λ r. and_then r rest) (commute.0 t (record { is_tree = sure.0; stand = sure.1.0 }))
      ∙ and_then_assoc (other t) (run (get_or es a Id)) rest

  -- what it leaves as it is, it leaves so behind the program
  still : (y : ℕ) (group : List ℕ) → CommutesWithGroup es before group y → (t u : Tree) → Sure y group t → outcome es group t ≡ Some t → run (get_or es y Id) t ≡ Some u → outcome es group u ≡ Some u
  still y group commute t u sure settled h =
      sym (ap (λ r. and_then r (outcome es group)) h)
      ∙ sym (with_group y group commute t sure)
      ∙ ap (λ r. and_then r (run (get_or es y Id))) settled
      ∙ h

  -- ---- along an allowed order

  -- when y has its turn, the folders stand that are sure before it or before one that ran
  sure_at_turn : (front back : List ℕ) (y a : ℕ) → IsLinearExtension (length es) before (front ++ y ∷ back) → 0 < times a front → (t u : Tree) → IsTree t → outcome es front t ≡ Some u
      → Stand (IsSureBeforeEither nowhere es before a y) u
  sure_at_turn front back y a allowed there t u tree h p (inr sure) = sure_folders_stand nowhere es before t (record { is_tree = tree; stand = λ q none. cc }) front back y allowed u h p sure
  sure_at_turn front back y a allowed there t u tree h p (inl sure) =
      let split = times_found a front there in
      let whole : front ++ y ∷ back ≡ split.0 ++ a ∷ (split.1 ++ y ∷ back) = ap (λ o. o ++ y ∷ back) split.2 ∙ append_assoc split.0 (a ∷ split.1) (y ∷ back) in
      let parts = split_then (outcome es split.0 t) (outcome es (a ∷ split.1)) u (sym (outcome-append es split.0 (a ∷ split.1) t) ∙ ap (λ o. outcome es o t) (sym split.2) ∙ h) in
      let stood = sure_folders_stand nowhere es before t (record { is_tree = tree; stand = λ q none. cc }) split.0 (split.1 ++ y ∷ back) a (subst (IsLinearExtension (length es) before) whole allowed) parts.0 parts.1 p sure in
      outcome_keeps_folder es p sure.stays (a ∷ split.1) parts.0 u stood parts.2

  module _ (t : Tree) (tree : IsTree t) where
    -- a tree that a group leaves as it is becomes, by programs that commute with it, one that it leaves as it is, too
    stays : (group front order : List ℕ) → IsLinearExtension (length es) before (front ++ order) → ((a : ℕ) → 0 < times a group → 0 < times a front) → AllByRecursion (CommutesWithGroup es before group) order
        → (v u : Tree) → outcome es front t ≡ Some v → outcome es group v ≡ Some v → outcome es order v ≡ Some u → outcome es group u ≡ Some u
    stays group front [] allowed ran commute v u at settled h = let same : v ≡ u = cc in subst (λ w. outcome es group w ≡ Some w) same settled
    stays group front (y ∷ order) allowed ran commute v u at settled h =
        let first = split_then (run (get_or es y Id) v) (outcome es order) u h in
        let sure : Sure y group v = (outcome_keeps_tree es proper front t v tree at, all_from (λ a. Stand (IsSureBeforeEither nowhere es before a y) v) group (λ a m. sure_at_turn front order y a allowed (ran a m) t v tree at)) in
        let next : outcome es (front ++ y ∷ []) t ≡ Some first.0 = outcome-append es front (y ∷ []) t ∙ ap (λ r. and_then r (outcome es (y ∷ []))) at ∙ ap (λ r. and_then r (outcome es [])) first.1 in
        stays group (front ++ y ∷ []) order (subst (IsLinearExtension (length es) before) (sym (append_assoc front (y ∷ []) order)) allowed)
        (λ a m. omega (arith, ran a m, times_append a front (y ∷ []))) commute.1 first.0 u next (still y group commute.0 v first.0 sure settled first.1) first.2

    -- each group is settled in the end
    all_settled : (groups : List (List ℕ)) (front : List ℕ) → IsLinearExtension (length es) before (front ++ in_turn groups) → AllByRecursion (GroupSettles es) groups → GroupsCommute es before groups
        → (v u : Tree) → outcome es front t ≡ Some v → outcome es (in_turn groups) v ≡ Some u → AllByRecursion (λ group. outcome es group u ≡ Some u) groups
    all_settled [] front allowed settle commute v u at h = tt
    all_settled (group ∷ groups) front allowed settle commute v u at h =
        let rest = in_turn groups in
        let parts = split_then (outcome es group v) (outcome es rest) u (sym (outcome-append es group rest v) ∙ h) in
        let next : outcome es (front ++ group) t ≡ Some parts.0 = outcome-append es front group t ∙ ap (λ r. and_then r (outcome es group)) at ∙ parts.1 in
        let still_allowed = subst (IsLinearExtension (length es) before) (sym (append_assoc front group rest)) allowed in
        let settled = settle.0 v parts.0 (outcome_keeps_tree es proper front t v tree at) parts.1 in (
          stays group (front ++ group) rest still_allowed (λ a m. omega (arith, m, times_append a front group)) commute.0 parts.0 u next settled parts.2,
          all_settled groups (front ++ group) still_allowed settle.1 commute.1 parts.0 u next parts.2,
        )

  -- where each group leaves a tree as it is, all in turn do
  unchanged : (groups : List (List ℕ)) (u : Tree) → AllByRecursion (λ group. outcome es group u ≡ Some u) groups → outcome es (in_turn groups) u ≡ Some u
  unchanged [] u all = refl
  unchanged (group ∷ groups) u all = outcome-append es group (in_turn groups) u ∙ ap (λ r. and_then r (outcome es (in_turn groups))) all.0 ∙ unchanged groups u all.1

  -- where all orders end alike and groups that settle and commute are an allowed order, no second run changes anything
  pub second_run : IsDeterministic es before → (groups : List (List ℕ)) → IsLinearExtension (length es) before (in_turn groups) → AllByRecursion (GroupSettles es) groups → GroupsCommute es before groups → IsIdempotent es before
  second_run sure groups allowed settle commute t tree o p a b u done =
      let whole = in_turn groups in
      let ends = sure t tree whole o allowed a ∙ done in
      sure u (outcome_keeps_tree es proper o t u tree done) p whole b allowed
      ∙ unchanged groups u (all_settled t tree groups [] allowed settle commute t u refl ends)
