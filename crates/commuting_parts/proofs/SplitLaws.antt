-- Lists of steps in two halves, of which the second has sweeps of shared folders.
use Rattle.std.proofs.Common.{◌≡◌, ℕ, suc, ◌+◌, ◌<◌, Bool, true, false, cond, List, [], ◌∷◌, ◌++◌, length, drop, get_or, sym, ap, subst, subst₂, ◌∙◌, append-nil, append_assoc, arith}
use Rattle.std.proofs.lemmas.List.{drop_more}
use Rattle.std.specs.List.{AllByRecursion}
use Rattle.std.specs.BTreeSet.{BTreeSet}
use Rattle.fs_semantics.specs.FileTree.{Path, Tree}
use Rattle.fs_semantics.specs.Programs as model
use Rattle.fs_semantics.specs.Programs.{and_then, run, run_all}
use Rattle.fs_semantics.specs.Changes.{IsProper, AreProperSteps}
use Rattle.fs_semantics.proofs.Permuted.{and_then_assoc, then_alike}
use Rattle.fs_lang.specs.declared.program.Program.{Program}
use Rattle.fs_lang.specs.Meaning.{program_of, programs_in}
use Rattle.effect_sets.specs.Footprints.{Footprint, no_footprint, footprint}
use Rattle.effect_sets.specs.Members.{members}
use Rattle.commuting_parts.specs.declared.parts.Parts.{Parts}
use Rattle.commuting_parts.specs.declared.splitting.Split.{Split}
use Rattle.commuting_parts.specs.Runs.{Run, thens, SameFrom, SwapFrom, LeadsTo}
use Rattle.commuting_parts.specs.Prints.{TreeWith, CommuteWith, IsClearIn, AreApartIn}
use Rattle.commuting_parts.specs.Parts.{runs, part, chosen_by, unmarked, IsApartFrom}
use Rattle.commuting_parts.specs.Splits.{ArePartsOf, WhereMarked, AreAhead, AreOrderedParts, IsSplit, AreApartFrom, IsOrdered, AreOwnApart, AreSplitsApart}
use Rattle.commuting_parts.proofs.CommuteLaws.{leads_on, reworded, to_front}
use Rattle.commuting_parts.proofs.PartLaws.{runs_append, then_one, then_some, proper_front, apart_parts, steps_keep, steps_swap}
use Rattle.commuting_parts.proofs.SweepLaws.{Absorbs, all_swept}

-- what commutes with each of two runs commutes with both
pub both_swap : (P : Tree → Type 0) (m n f : Run) → LeadsTo P P m → SwapFrom P m f → SwapFrom P n f → SwapFrom P (thens m n) f
both_swap P m n f keep first second t good =
    and_then_assoc (m t) n f ∙ then_alike (m t) (thens n f) (thens f n) (λ u is. second u (keep t u good is)) ∙ sym (and_then_assoc (m t) f n)
    ∙ ap (λ r. and_then r n) (first t good) ∙ and_then_assoc (f t) m n

-- two runs, and the shared steps and sweeps behind each: the first sweeps don't matter
swept_half : (P : Tree → Type 0) (m n k c : Run) → LeadsTo P P m → SwapFrom P n k → Absorbs c (thens n (thens k c)) → (t : Tree) → P t
    → thens (thens m (thens k c)) (thens n (thens k c)) t ≡ thens (thens m n) (thens k (thens k c)) t
swept_half P m n k c keep swap absorbs t good =
    and_then_assoc (m t) (thens k c) (thens n (thens k c))
    ∙ then_alike (m t) (thens (thens k c) (thens n (thens k c))) (thens n (thens k (thens k c))) (λ u is.
    and_then_assoc (k u) c (thens n (thens k c))
    ∙ then_alike (k u) (thens c (thens n (thens k c))) (thens n (thens k c)) (λ v l. absorbs v)
    ∙ sym (and_then_assoc (k u) n (thens k c))
    ∙ ap (λ r. and_then r (thens k c)) (sym (swap u (keep t u good is)))
    ∙ and_then_assoc (n u) k (thens k c))
    ∙ sym (and_then_assoc (m t) n (thens k (thens k c)))

-- runs that each have an own part, and share the rest and the sweeps at its end, commute where those may be swept ahead too
swept_swap : (P : Tree → Type 0) (m n k c : Run) → LeadsTo P P m → LeadsTo P P n → SwapFrom P m n → SwapFrom P m k → SwapFrom P n k
    → Absorbs c (thens m (thens k c)) → Absorbs c (thens n (thens k c)) → SwapFrom P (thens m (thens k c)) (thens n (thens k c))
swept_swap P m n k c keep keep_too own left right first second t good =
    swept_half P m n k c keep right second t good ∙ ap (λ r. and_then r (thens k (thens k c))) (own t good)
    ∙ sym (swept_half P n m k c keep_too left first t good)

module _ (commute : (folders : BTreeSet Path) (e f : model.Program) → IsProper e → IsProper f → AreApartIn (members folders) (footprint e) (footprint f) → CommuteWith folders e f)
    (keeps : (folders : BTreeSet Path) (e : model.Program) (g : Footprint) → IsProper e → IsClearIn (members folders) (footprint e) g → LeadsTo (TreeWith folders) (TreeWith folders) (run e))
    (folders : BTreeSet Path) where
  -- a file tree in which the folders stand
  abbrev P : Tree → Type 0
  P = TreeWith folders

  -- each step of a list keeps such trees, and commutes with the steps from which it is apart
  each_swaps : (ks : List Program) → IsProper (part ks) → (es : List Program) → AreApartFrom folders (footprint (part ks)) es
      → AllByRecursion (λ e. LeadsTo P P (run (program_of e)) × SwapFrom P (run (program_of e)) (runs ks)) es
  each_swaps ks proper [] all = tt
  each_swaps ks proper (e ∷ es) all = (
    (keeps folders (program_of e) (footprint (part ks)) all.0.0 all.0.1.left, commute folders (program_of e) (part ks) all.0.0 proper all.0.1),
    each_swaps ks proper es all.1,
  )

  -- each step that is apart from a footprint keeps such trees
  each_keeps : (g : Footprint) (es : List Program) → AreApartFrom folders g es → AllByRecursion (λ e. LeadsTo P P (run (program_of e))) es
  each_keeps g [] all = tt
  each_keeps g (e ∷ es) all = (keeps folders (program_of e) g all.0.0 all.0.1.left, each_keeps g es all.1)

  -- the first half of a list is its own steps, and then the shared ones
  half_is : (es : List Program) (p : Parts) → ArePartsOf es p → IsProper (part p.shared) → AreApartFrom folders (footprint (part p.shared)) p.own
      → SameFrom P (runs es) (thens (runs p.own) (runs p.shared))
  half_is es p (marks, own, shared) proper all =
      let whole : SameFrom P (runs es) (thens (runs (unmarked marks 0 es)) (runs (chosen_by marks 0 es))) =
      apart_parts commute keeps folders marks es (subst (λ xs. IsProper (part xs)) shared proper)
      (subst₂ (λ xs ys. AreApartFrom folders (footprint (part xs)) ys) shared own all) in
      subst₂ (λ xs ys. SameFrom P (runs es) (thens (runs xs) (runs ys))) (sym own) (sym shared) whole

  -- the own steps of a list go ahead of the shared ones before them
  abbrev GoAhead : (ℕ → Bool) → ℕ → List Program → Type 0
  GoAhead marks i es = (front : List Program) → AreAhead folders marks i front es → AreProperSteps (programs_in (front ++ chosen_by marks i es))
      → SameFrom P (thens (runs front) (runs es)) (thens (runs (unmarked marks i es)) (runs (front ++ chosen_by marks i es)))

  -- where they do so in what follows a step, they do so in the list with that step
  next_ahead : (b : Bool) (marks : ℕ → Bool) (i : ℕ) (e : Program) (es : List Program) → GoAhead marks (suc i) es → (front : List Program)
      → WhereMarked b (AreAhead folders marks (suc i) (front ++ e ∷ []) es) (IsApartFrom folders (footprint (part front)) (program_of e) × AreAhead folders marks (suc i) front es)
      → AreProperSteps (programs_in (front ++ cond b (e ∷ chosen_by marks (suc i) es) (chosen_by marks (suc i) es)))
      → SameFrom P (thens (runs front) (runs (e ∷ es))) (thens (runs (cond b (unmarked marks (suc i) es) (e ∷ unmarked marks (suc i) es))) (runs (front ++ cond b (e ∷ chosen_by marks (suc i) es) (chosen_by marks (suc i) es))))
  next_ahead true marks i e es ahead front are proper t good =
      let longer : (front ++ e ∷ []) ++ chosen_by marks (suc i) es ≡ front ++ e ∷ chosen_by marks (suc i) es = append_assoc front (e ∷ []) (chosen_by marks (suc i) es) in
      sym (and_then_assoc (runs front t) (run (program_of e)) (runs es))
      ∙ ap (λ r. and_then r (runs es)) (then_alike (runs front t) (run (program_of e)) (runs (e ∷ [])) (λ u k. sym (then_one e u)) ∙ sym (runs_append front (e ∷ []) t))
      ∙ ahead (front ++ e ∷ []) are (subst (λ xs. AreProperSteps (programs_in xs)) (sym longer) proper) t good
      ∙ ap (λ xs. thens (runs (unmarked marks (suc i) es)) (runs xs) t) longer
  next_ahead false marks i e es ahead front are proper t good =
      let swap = commute folders (program_of e) (part front) are.0.0 (proper_front front (chosen_by marks (suc i) es) proper) are.0.1 t good in
      sym (and_then_assoc (runs front t) (run (program_of e)) (runs es))
      ∙ ap (λ r. and_then r (runs es)) (sym swap)
      ∙ and_then_assoc (run (program_of e) t) (runs front) (runs es)
      ∙ then_alike (run (program_of e) t) (thens (runs front) (runs es)) (thens (runs (unmarked marks (suc i) es)) (runs (front ++ chosen_by marks (suc i) es))) (λ u k.
      ahead front are.1 proper u (keeps folders (program_of e) (footprint (part front)) are.0.0 are.0.1.left t u good k))
      ∙ sym (and_then_assoc (run (program_of e) t) (runs (unmarked marks (suc i) es)) (runs (front ++ chosen_by marks (suc i) es)))

  -- they do so in each list
  go_ahead : (marks : ℕ → Bool) (i : ℕ) (es : List Program) → GoAhead marks i es
  go_ahead marks i [] front are proper t good = then_some front t ∙ ap (λ fs. runs fs t) (sym (append-nil front))
  go_ahead marks i (e ∷ es) front are proper t good = next_ahead (marks i) marks i e es (go_ahead marks (suc i) es) front are proper t good

  -- the other half of a list is its own steps, and then the shared ones
  behind_is : (es : List Program) (p : Parts) → AreOrderedParts folders es p → IsProper (part p.shared) → SameFrom P (runs es) (thens (runs p.own) (runs p.shared))
  behind_is es p (marks, own, shared, ahead) proper =
      subst₂ (λ xs ys. SameFrom P (runs es) (thens (runs xs) (runs ys))) (sym own) (sym shared)
      (go_ahead marks 0 es [] ahead (subst (λ xs. AreProperSteps (programs_in xs)) shared proper))

  -- the own steps of both halves
  abbrev own_steps : Split → List Program
  own_steps s = s.first.own ++ s.behind.own

  -- the shared steps of a list, and then its sweeps
  abbrev common : Split → Run
  common s = thens (runs s.first.shared) (runs s.behind.shared)

  -- the own steps keep such trees
  own_keeps : (s : Split) → IsOrdered folders s → LeadsTo P P (runs (own_steps s))
  own_keeps s o =
      let first = steps_keep P s.first.own (each_keeps (footprint (part s.first.shared)) s.first.own o.first) in
      let behind = steps_keep P s.behind.own (each_keeps (footprint (part s.first.shared)) s.behind.own o.behind) in
      subst (LeadsTo P P) (λ i t. sym (runs_append s.first.own s.behind.own t) i) (leads_on P P P (runs s.first.own) (runs s.behind.own) first behind)

  -- the own steps, the shared ones, and the sweeps
  in_order : (es : List Program) (s : Split) → IsSplit folders es s → IsOrdered folders s → SameFrom P (runs es) (thens (runs (own_steps s)) (common s))
  in_order es s is o t good =
      let m = runs s.first.own in
      let k = runs s.first.shared in
      let n = runs s.behind.own in
      let c = runs s.behind.shared in
      let keep : LeadsTo P P m = steps_keep P s.first.own (each_keeps (footprint (part s.first.shared)) s.first.own o.first) in
      let keep_shared : LeadsTo P P k = keeps folders (part s.first.shared) no_footprint o.proper o.keeps in
      let swap : SwapFrom P n k = steps_swap P k s.behind.own (each_swaps s.first.shared o.proper s.behind.own o.behind) in
      ap (λ es. runs es t) (sym is.whole) ∙ runs_append is.front is.back t
      ∙ ap (λ r. and_then r (runs is.back)) (half_is is.front s.first is.first o.proper o.first t good)
      ∙ then_alike (thens m k t) (runs is.back) (thens n c) (λ u l. behind_is is.back s.behind is.behind o.proper_sweeps u (leads_on P P P m k keep keep_shared t u good l))
      ∙ to_front P P m k n c keep (λ u good. sym (swap u good)) t good
      ∙ ap (λ r. and_then r (common s)) (sym (runs_append s.first.own s.behind.own t))

  -- the own steps commute with the shared steps of the first half
  own_swaps : (s : Split) → IsOrdered folders s → SwapFrom P (runs (own_steps s)) (runs s.first.shared)
  own_swaps s o =
      let k = runs s.first.shared in
      let keep = steps_keep P s.first.own (each_keeps (footprint (part s.first.shared)) s.first.own o.first) in
      let first = steps_swap P k s.first.own (each_swaps s.first.shared o.proper s.first.own o.first) in
      let behind = steps_swap P k s.behind.own (each_swaps s.first.shared o.proper s.behind.own o.behind) in
      subst (λ r. SwapFrom P r k) (λ i t. sym (runs_append s.first.own s.behind.own t) i) (both_swap P (runs s.first.own) (runs s.behind.own) k keep first behind)

  -- the own steps, and then what is common, begin as well with the sweeps
  own_absorbs : (s : Split) → IsOrdered folders s → Absorbs (runs s.behind.shared) (thens (runs (own_steps s)) (common s))
  own_absorbs s o =
      subst (Absorbs (runs s.behind.shared)) (λ i t. same t i) (all_swept (own_steps s ++ s.first.shared) s.behind.shared o.swept)
    where
      same : (t : Tree) → thens (runs (own_steps s ++ s.first.shared)) (runs s.behind.shared) t ≡ thens (runs (own_steps s)) (common s) t
      same t = ap (λ r. and_then r (runs s.behind.shared)) (runs_append (own_steps s) s.first.shared t) ∙ and_then_assoc (runs (own_steps s) t) (runs s.first.shared) (runs s.behind.shared)

  -- what is own to the one list commutes with what is own to the other
  owns_swap : (l r : Split) → IsOrdered folders l → IsOrdered folders r → AreOwnApart folders l r → SwapFrom P (runs (own_steps l)) (runs (own_steps r))
  owns_swap l r o p a =
      let m = runs l.first.own in
      let n = runs l.behind.own in
      let d = runs r.first.own in
      let e = runs r.behind.own in
      let keep : LeadsTo P P m = keeps folders (part l.first.own) (footprint (part r.first.own)) a.first_first.0 a.first_first.1.left in
      let keep_too : LeadsTo P P d = keeps folders (part r.first.own) (footprint (part l.first.own)) a.proper.0 a.first_first.1.right in
      let with_first : SwapFrom P (thens m n) d = both_swap P m n d keep
      (commute folders (part l.first.own) (part r.first.own) a.first_first.0 a.proper.0 a.first_first.1)
      (commute folders (part l.behind.own) (part r.first.own) a.behind_first.0 a.proper.0 a.behind_first.1) in
      let with_behind : SwapFrom P (thens m n) e = both_swap P m n e keep
      (commute folders (part l.first.own) (part r.behind.own) a.first_behind.0 a.proper.1 a.first_behind.1)
      (commute folders (part l.behind.own) (part r.behind.own) a.behind_behind.0 a.proper.1 a.behind_behind.1) in
      let all : SwapFrom P (thens d e) (thens m n) = both_swap P d e (thens m n) keep_too (λ t good. sym (with_first t good)) (λ t good. sym (with_behind t good)) in
      subst₂ (SwapFrom P) (λ i t. sym (runs_append l.first.own l.behind.own t) i) (λ i t. sym (runs_append r.first.own r.behind.own t) i) (λ t good. sym (all t good))

  -- lists whose halves are apart commute
  pub splits_swap : (es fs : List Program) (l r : Split) → IsSplit folders es l → IsSplit folders fs r → AreSplitsApart folders l r → SwapFrom P (runs es) (runs fs)
  splits_swap es fs l r is is_too a =
      let m = runs (own_steps l) in
      let n = runs (own_steps r) in
      let k = runs l.first.shared in
      let c = runs l.behind.shared in
      let shared : runs r.first.shared ≡ k = ap (λ (x : model.Programs). run_all x) (sym a.same_shared) in
      let sweeps : runs r.behind.shared ≡ c = ap (λ (x : model.Programs). run_all x) (sym a.same_sweeps) in
      let second : SameFrom P (runs fs) (thens n (thens k c)) = subst₂ (λ x y. SameFrom P (runs fs) (thens n (thens x y))) shared sweeps (in_order fs r is_too a.right) in
      let absorbs : Absorbs c (thens n (thens k c)) = subst₂ (λ x y. Absorbs y (thens n (thens x y))) shared sweeps (own_absorbs r a.right) in
      let right : SwapFrom P n k = subst (SwapFrom P n) shared (own_swaps r a.right) in
      let whole : SwapFrom P (thens m (thens k c)) (thens n (thens k c)) =
      swept_swap P m n k c (own_keeps l a.left) (own_keeps r a.right) (owns_swap l r a.left a.right a.owns) (own_swaps l a.left) right (own_absorbs l a.left) absorbs in
      let common_keeps : LeadsTo P P (thens k c) = leads_on P P P k c
      (keeps folders (part l.first.shared) no_footprint a.left.proper a.left.keeps) (keeps folders (part l.behind.shared) no_footprint a.left.proper_sweeps a.left.keeps_too) in
      reworded P (runs es) (runs fs) (thens m (thens k c)) (thens n (thens k c)) (in_order es l is a.left) second
      (leads_on P P P m (thens k c) (own_keeps l a.left) common_keeps) (leads_on P P P n (thens k c) (own_keeps r a.right) common_keeps) whole

-- where what follows is in order behind the next step, so it is from that step on
pub one_ahead : (folders : BTreeSet Path) (marks : ℕ → Bool) (i : ℕ) (es : List Program) (e : Program) (front new : List Program) → i < length es → e ≡ get_or es i e
    → WhereMarked (marks i) (new ≡ front ++ e ∷ []) ((new ≡ front) × IsApartFrom folders (footprint (part front)) (program_of e))
    → AreAhead folders marks (i + 1) new (drop (i + 1) es) → AreAhead folders marks i front (drop i es)
one_ahead folders marks i es e front new h is here more =
    let one : i + 1 ≡ suc i = omega arith in
    subst (AreAhead folders marks i front) (sym (drop_more es i e h ∙ ap (λ x. x ∷ drop (i + 1) es) (sym is)))
    (by (marks i) here (subst (λ n. AreAhead folders marks n new (drop (i + 1) es)) one more))
  where
    by : (b : Bool) → WhereMarked b (new ≡ front ++ e ∷ []) ((new ≡ front) × IsApartFrom folders (footprint (part front)) (program_of e))
        → AreAhead folders marks (suc i) new (drop (i + 1) es)
        → WhereMarked b (AreAhead folders marks (suc i) (front ++ e ∷ []) (drop (i + 1) es)) (IsApartFrom folders (footprint (part front)) (program_of e) × AreAhead folders marks (suc i) front (drop (i + 1) es))
    by true here more = subst (λ xs. AreAhead folders marks (suc i) xs (drop (i + 1) es)) here more
    by false here more = (here.1, subst (λ xs. AreAhead folders marks (suc i) xs (drop (i + 1) es)) here.0 more)
