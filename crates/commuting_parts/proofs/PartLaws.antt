-- Lists of steps, part by part.
use Rattle.std.proofs.Common.{◌≡◌, ℕ, suc, ◌+◌, Bool, true, false, cond, List, [], ◌∷◌, ◌++◌, take, drop, Some, None, refl, sym, ap, subst, subst₂, ◌∙◌, append-nil, append_assoc}
use Rattle.std.proofs.lemmas.List.{take-append-drop}
use Rattle.std.specs.List.{AllByRecursion}
use Rattle.std.specs.BTreeSet.{BTreeSet}
use Rattle.fs_semantics.specs.FileTree.{Path, Tree}
use Rattle.fs_semantics.specs.Programs as model
use Rattle.fs_semantics.specs.Programs.{and_then, run, run_all}
use Rattle.fs_semantics.specs.Changes.{IsProper, AreProperSteps}
use Rattle.fs_semantics.proofs.Permuted.{and_then_assoc, then_alike}
use Rattle.fs_semantics.proofs.ConstructLaws.{split_then}
use Rattle.fs_lang.specs.declared.program.Program.{Program}
use Rattle.fs_lang.specs.Meaning.{program_of, programs_in}
use Rattle.commuting_parts.specs.Runs.{Run, thens, SameFrom, SwapFrom, LeadsTo}
use Rattle.effect_sets.specs.Footprints.{Footprint, nowhere, footprint}
use Rattle.effect_sets.specs.Members.{members}
use Rattle.commuting_parts.specs.Prints.{TreeWith, CommuteWith, IsClearIn, AreApartIn}
use Rattle.commuting_parts.specs.Parts.{runs, part, chosen_by, unmarked, IsApartFrom, AreParts}
use Rattle.commuting_parts.proofs.CommuteLaws.{leads_on, reworded, ahead_of_shared}
use Rattle.commuting_parts.proofs.PrintLaws.{Within, front_within, apart_within}

-- one list behind another runs as the first, and then the second
pub runs_append : (es fs : List Program) (t : Tree) → runs (es ++ fs) t ≡ thens (runs es) (runs fs) t
runs_append [] fs t = refl
runs_append (e ∷ es) fs t =
    then_alike (run (program_of e) t) (runs (es ++ fs)) (thens (runs es) (runs fs)) (λ u is. runs_append es fs u)
    ∙ sym (and_then_assoc (run (program_of e) t) (runs es) (runs fs))

-- the step keeps such trees, and commutes with each front of the list from them
pub record MovesAhead (P : Tree → Type 0) (ks : List Program) (e : Program) : Type 0 where
  pub keeps : LeadsTo P P (run (program_of e))
  pub swaps : (front back : List Program) → ks ≡ front ++ back → SwapFrom P (run (program_of e)) (runs front)

-- an empty list behind steps changes nothing
pub then_some : (es : List Program) (t : Tree) → and_then (runs es t) (runs []) ≡ runs es t
then_some es t = by (runs es t)
  where
    by : (r : _) → and_then r (runs []) ≡ r
    by None = refl
    by (Some u) = refl

-- a list of one step runs as the step
pub then_one : (e : Program) (u : Tree) → runs (e ∷ []) u ≡ run (program_of e) u
then_one e u = by (run (program_of e) u)
  where
    by : (r : _) → and_then r (runs []) ≡ r
    by None = refl
    by (Some v) = refl

module _ (P : Tree → Type 0) (marks : ℕ → Bool) (ks : List Program) where
  -- the own steps of a list go ahead of the shared ones before them
  abbrev GoAhead : ℕ → List Program → Type 0
  GoAhead i es = (front : List Program) → ks ≡ front ++ chosen_by marks i es → AllByRecursion (MovesAhead P ks) (unmarked marks i es)
      → SameFrom P (thens (runs front) (runs es)) (thens (runs (unmarked marks i es)) (runs ks))

  -- where they do so in what follows a step, they do so in the list with that step
  one_more : (b : Bool) (i : ℕ) (e : Program) (es : List Program) → GoAhead (suc i) es → (front : List Program)
      → ks ≡ front ++ cond b (e ∷ chosen_by marks (suc i) es) (chosen_by marks (suc i) es)
      → AllByRecursion (MovesAhead P ks) (cond b (unmarked marks (suc i) es) (e ∷ unmarked marks (suc i) es))
      → SameFrom P (thens (runs front) (runs (e ∷ es))) (thens (runs (cond b (unmarked marks (suc i) es) (e ∷ unmarked marks (suc i) es))) (runs ks))
  one_more true i e es ahead front is all t good =
      sym (and_then_assoc (runs front t) (run (program_of e)) (runs es))
      ∙ ap (λ r. and_then r (runs es)) (then_alike (runs front t) (run (program_of e)) (runs (e ∷ [])) (λ u k. sym (then_one e u)) ∙ sym (runs_append front (e ∷ []) t))
      ∙ ahead (front ++ e ∷ []) (is ∙ sym (append_assoc front (e ∷ []) (chosen_by marks (suc i) es))) all t good
  one_more false i e es ahead front is all t good =
      sym (and_then_assoc (runs front t) (run (program_of e)) (runs es))
      ∙ ap (λ r. and_then r (runs es)) (sym (all.0.swaps front (chosen_by marks (suc i) es) is t good))
      ∙ and_then_assoc (run (program_of e) t) (runs front) (runs es)
      ∙ then_alike (run (program_of e) t) (thens (runs front) (runs es)) (thens (runs (unmarked marks (suc i) es)) (runs ks)) (λ u k.
      ahead front is all.1 u (all.0.keeps t u good k))
      ∙ sym (and_then_assoc (run (program_of e) t) (runs (unmarked marks (suc i) es)) (runs ks))

  -- they do so in each list
  pub own_ahead : (i : ℕ) (es : List Program) → GoAhead i es
  own_ahead i [] front is all t good = then_some front t ∙ ap (λ fs. runs fs t) (sym (append-nil front) ∙ sym is)
  own_ahead i (e ∷ es) front is all t good = one_more (marks i) i e es (own_ahead (suc i) es) front is all t good

-- steps that keep such trees and commute with a run do so as a whole
pub steps_keep : (P : Tree → Type 0) (es : List Program) → AllByRecursion (λ e. LeadsTo P P (run (program_of e))) es → LeadsTo P P (runs es)
steps_keep P [] all t u good ends = let same : t ≡ u = cc in subst P same good
steps_keep P (e ∷ es) all t u good ends =
    let half = split_then (run (program_of e) t) (runs es) u ends in
    steps_keep P es all.1 half.0 u (all.0 t half.0 good half.1) half.2

-- steps that keep such trees, and each commute with a run, commute with it as a whole
pub steps_swap : (P : Tree → Type 0) (f : Run) (es : List Program) → AllByRecursion (λ e. LeadsTo P P (run (program_of e)) × SwapFrom P (run (program_of e)) f) es → SwapFrom P (runs es) f
steps_swap P f [] all t good = sym (by (f t))
  where
    by : (r : _) → and_then r (runs []) ≡ r
    by None = refl
    by (Some u) = refl
steps_swap P f (e ∷ es) all t good =
    and_then_assoc (run (program_of e) t) (runs es) f
    ∙ then_alike (run (program_of e) t) (thens (runs es) f) (thens f (runs es)) (λ u is. steps_swap P f es all.1 u (all.0.0 t u good is))
    ∙ sym (and_then_assoc (run (program_of e) t) f (runs es))
    ∙ ap (λ r. and_then r (runs es)) (all.0.1 t good)
    ∙ and_then_assoc (f t) (run (program_of e)) (runs es)

-- ---- two lists

-- the first steps of a proper list are proper
pub proper_front : (front back : List Program) → AreProperSteps (programs_in (front ++ back)) → AreProperSteps (programs_in front)
proper_front [] back h = tt
proper_front (e ∷ front) back h = (h.0, proper_front front back h.1)

module _ (commute : (folders : BTreeSet Path) (e f : model.Program) → IsProper e → IsProper f → AreApartIn (members folders) (footprint e) (footprint f) → CommuteWith folders e f)
    (keeps : (folders : BTreeSet Path) (e : model.Program) (g : Footprint) → IsProper e → IsClearIn (members folders) (footprint e) g → LeadsTo (TreeWith folders) (TreeWith folders) (run e))
    (folders : BTreeSet Path) where
  -- a step that is apart from the shared steps moves ahead of them
  moves_ahead : (ks : List Program) → IsProper (part ks) → (e : Program) → IsApartFrom folders (footprint (part ks)) (program_of e) → MovesAhead (TreeWith folders) ks e
  moves_ahead ks proper e a = record {
    keeps = keeps folders (program_of e) (footprint (part ks)) a.0 a.1.left;
    swaps = λ front back is.
        let whole = subst (λ xs. AreProperSteps (programs_in xs)) is proper in
        let within : Within (footprint (part front)) (footprint (part ks)) = subst (λ xs. Within (footprint (part front)) (footprint (part xs))) (sym is) (front_within front back nowhere) in
        commute folders (program_of e) (part front) a.0 (proper_front front back whole)
        (apart_within (members folders) (footprint (program_of e)) (footprint (part front)) (footprint (part ks)) within a.1);
  }

  -- so does each of the steps that are
  all_ahead : (ks : List Program) → IsProper (part ks) → (es : List Program) → AllByRecursion (λ e. IsApartFrom folders (footprint (part ks)) (program_of e)) es
      → AllByRecursion (MovesAhead (TreeWith folders) ks) es
  all_ahead ks proper [] all = tt
  all_ahead ks proper (e ∷ es) all = (moves_ahead ks proper e all.0, all_ahead ks proper es all.1)

  -- a list is its own steps and then the shared ones
  pub apart_parts : (marks : ℕ → Bool) (es : List Program) → IsProper (part (chosen_by marks 0 es))
      → AllByRecursion (λ e. IsApartFrom folders (footprint (part (chosen_by marks 0 es))) (program_of e)) (unmarked marks 0 es)
      → SameFrom (TreeWith folders) (runs es) (thens (runs (unmarked marks 0 es)) (runs (chosen_by marks 0 es)))
  apart_parts marks es proper all =
      own_ahead (TreeWith folders) marks (chosen_by marks 0 es) 0 es [] refl (all_ahead (chosen_by marks 0 es) proper (unmarked marks 0 es) all)

  -- lists commute where their own steps are apart, and apart from those that they share
  pub parts_swap : (marks others : ℕ → Bool) (es fs : List Program) → AreParts folders (unmarked marks 0 es) (chosen_by marks 0 es) (unmarked others 0 fs) (chosen_by others 0 fs)
      → SwapFrom (TreeWith folders) (runs es) (runs fs)
  parts_swap marks others es fs a =
      let P = TreeWith folders in
      let m = runs (unmarked marks 0 es) in
      let n = runs (unmarked others 0 fs) in
      let k = runs (chosen_by marks 0 es) in
      let same : k ≡ runs (chosen_by others 0 fs) = ap (λ (x : model.Programs). run_all x) a.same in
      let own = part (unmarked marks 0 es) in
      let other = part (unmarked others 0 fs) in
      let shared = part (chosen_by marks 0 es) in
      let keep_own : LeadsTo P P m = keeps folders own (footprint shared) a.left.0 a.left.1.left in
      let keep_other : LeadsTo P P n = keeps folders other (footprint shared) a.right.0 a.right.1.left in
      let keep : LeadsTo P P k = keeps folders shared (footprint own) a.proper a.left.1.right in
      let first : SameFrom P (runs es) (thens m k) = apart_parts marks es a.proper a.each_left in
      let second : SameFrom P (runs fs) (thens n k) = subst (λ r. SameFrom P (runs fs) (thens n r)) (sym same)
      (apart_parts others fs (subst (λ (x : model.Programs). IsProper (model.Steps x)) a.same a.proper)
      (subst (λ (x : model.Programs). AllByRecursion (λ e. IsApartFrom folders (footprint (model.Steps x)) (program_of e)) (unmarked others 0 fs)) a.same a.each_right)) in
      reworded P (runs es) (runs fs) (thens m k) (thens n k) first second
      (leads_on P P P m k keep_own keep) (leads_on P P P n k keep_other keep)
      (ahead_of_shared P m n k keep_own keep_other keep
      (commute folders own other a.owns.0 a.right.0 a.owns.1)
      (commute folders own shared a.left.0 a.proper a.left.1)
      (commute folders other shared a.right.0 a.proper a.right.1))

-- ---- a list and its first steps

-- a list runs as two programs of which one runs as its front, and the other as its back
pub whole_is : (es front back : List Program) (e f : Program) → front ++ back ≡ es → ((t : Tree) → run (program_of e) t ≡ runs front t) → ((t : Tree) → run (program_of f) t ≡ runs back t)
    → (t : Tree) → runs es t ≡ thens (run (program_of e)) (run (program_of f)) t
whole_is es front back e f is first second t =
    ap (λ xs. runs xs t) (sym is) ∙ runs_append front back t ∙ ap (λ r. and_then r (runs back)) (sym (first t))
    ∙ then_alike (run (program_of e) t) (runs back) (run (program_of f)) (λ u k. sym (second u))

-- the first items of a list, and then the others, are the list
pub split_at : (es : List Program) (n : ℕ) → take n es ++ drop n es ≡ es
split_at es n = take-append-drop n es

-- ---- the same of equal lists

-- steps that are apart from a footprint are apart from it in other words
pub each_apart : (folders : BTreeSet Path) (es fs : List Program) (g h : Footprint) → g ≡ h → es ≡ fs
    → AllByRecursion (λ e. IsApartFrom folders g (program_of e)) es → AllByRecursion (λ e. IsApartFrom folders h (program_of e)) fs
each_apart folders es fs g h same list all = subst₂ (λ x xs. AllByRecursion (λ e. IsApartFrom folders x (program_of e)) xs) same list all

-- parts are parts in other words
pub parts_as : (folders : BTreeSet Path) (a b c d e f g h : List Program) → a ≡ e → b ≡ f → c ≡ g → d ≡ h → AreParts folders a b c d → AreParts folders e f g h
parts_as folders a b c d e f g h first second third fourth are =
    subst₂ (λ x y. AreParts folders e f x y) third fourth (subst₂ (λ x y. AreParts folders x y c d) first second are)
