-- When runs that are made of parts commute.
use Rattle.std.proofs.Common.{◌≡◌, Bool, true, false, cond, Some, None, refl, sym, ap, ◌∙◌}
use Rattle.fs_semantics.specs.FileTree.{Tree}
use Rattle.fs_semantics.specs.Programs.{Test, Program, Id, Err, If, and_then, holds, run}
use Rattle.fs_semantics.specs.Changes.{CommuteFrom}
use Rattle.fs_semantics.proofs.Permuted.{and_then_assoc, then_alike}
use Rattle.fs_semantics.proofs.ConstructLaws.{split_then}
use Rattle.commuting_parts.specs.Runs.{Run, thens, SameFrom, SwapFrom, LeadsTo, LeavesTest}

-- runs that lead from one kind of tree to a second, and on to a third, lead from the first kind to the third
pub leads_on : (P Q R : Tree → Type 0) (f g : Run) → LeadsTo P Q f → LeadsTo Q R g → LeadsTo P R (thens f g)
leads_on P Q R f g first second t v good ends =
    let half = split_then (f t) g v ends in
    second half.0 v (first t half.0 good half.1) half.2

-- what commutes, commutes in other words
pub reworded : (P : Tree → Type 0) (f g h k : Run) → SameFrom P f h → SameFrom P g k → LeadsTo P P h → LeadsTo P P k → SwapFrom P h k → SwapFrom P f g
reworded P f g h k left right keep keep_too swap t good =
    ap (λ r. and_then r g) (left t good) ∙ then_alike (h t) g k (λ u is. right u (keep t u good is)) ∙ swap t good
    ∙ sym (ap (λ r. and_then r f) (right t good) ∙ then_alike (k t) f h (λ u is. left u (keep_too t u good is)))

-- ---- two runs that each begin with a part of their own

-- the first parts go ahead of the others, where the second one's first part commutes with the rest of the first
pub to_front : (P Q : Tree → Type 0) (d m e n : Run) → LeadsTo P Q d → SwapFrom Q m e → (t : Tree) → P t
    → thens (thens d m) (thens e n) t ≡ thens (thens d e) (thens m n) t
to_front P Q d m e n leads swap t good =
    and_then_assoc (d t) m (thens e n)
    ∙ then_alike (d t) (λ u. and_then (m u) (thens e n)) (λ u. and_then (e u) (thens m n)) (λ u is.
    sym (and_then_assoc (m u) e n) ∙ ap (λ r. and_then r n) (swap u (leads t u good is)) ∙ and_then_assoc (e u) m n)
    ∙ sym (and_then_assoc (d t) e (thens m n))

-- Two first parts commute, each with the rest of the other where its own first part has run, and the rests where both have.
pub behind_first : (P Q R S : Tree → Type 0) (d m e n : Run) → LeadsTo P Q d → LeadsTo P R e → LeadsTo Q S e
    → SwapFrom P d e → SwapFrom Q m e → SwapFrom R n d → SwapFrom S m n → SwapFrom P (thens d m) (thens e n)
behind_first P Q R S d m e n leads leads_too leads_on_ firsts left right rests t good =
    to_front P Q d m e n leads left t good
    ∙ then_alike (thens d e t) (thens m n) (thens n m) (λ v is. rests v (leads_on P Q S d e leads leads_on_ t v good is))
    ∙ ap (λ r. and_then r (thens n m)) (firsts t good)
    ∙ sym (to_front P R e n d m leads_too right t good)

-- ---- two runs that share their last part

-- runs that each have a part of their own, and share the rest, commute where the three parts commute and keep such trees
pub ahead_of_shared : (P : Tree → Type 0) (m n k : Run) → LeadsTo P P m → LeadsTo P P n → LeadsTo P P k
    → SwapFrom P m n → SwapFrom P m k → SwapFrom P n k → SwapFrom P (thens m k) (thens n k)
ahead_of_shared P m n k keep_left keep_right keep own left right =
    reworded P (thens m k) (thens n k) (thens k m) (thens k n) left right
    (leads_on P P P k m keep keep_left) (leads_on P P P k n keep keep_right)
    (behind_first P P P P k m k n keep keep keep (λ t good. refl) left right own)

-- ---- choices

-- a choice commutes with a program that leaves its test, where both its branches do
pub choice_commutes : (P : Tree → Type 0) (c : Test) (a b f : Program) → LeavesTest P c (run f) → CommuteFrom P a f → CommuteFrom P b f → CommuteFrom P (If c a b) f
choice_commutes P c a b f left first second t good =
    by (holds c t) ∙ sym (then_alike (run f t) (run (If c a b)) (λ u. cond (holds c t) (run a u) (run b u)) (λ u is. ap (λ x. cond x (run a u) (run b u)) (left t u good is)))
  where
    by : (x : Bool) → and_then (cond x (run a t) (run b t)) (run f) ≡ and_then (run f t) (λ u. cond x (run a u) (run b u))
    by true = first t good
    by false = second t good

-- whether it ends in Error where a condition holds tells the condition
told : (x y : Bool) (t u : Tree) → cond x None (Some u) ≡ cond y None (Some u) → x ≡ y
told true true t u h = refl
told true false t u h = cc
told false true t u h = cc
told false false t u h = refl

-- what commutes with a failure where the test holds leaves the test
pub leaves_asked : (P : Tree → Type 0) (c : Test) (f : Program) → CommuteFrom P (If c Err Id) f → LeavesTest P c (run f)
leaves_asked P c f commute t u good ends =
    told (holds c u) (holds c t) t u (sym (sym (by (holds c t)) ∙ commute t good ∙ ap (λ r. and_then r (run (If c Err Id))) ends))
  where
    by : (x : Bool) → and_then (cond x None (Some t)) (run f) ≡ cond x None (Some u)
    by true = refl
    by false = ends
