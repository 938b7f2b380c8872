-- What removals leave, and what smaller trees show.
use Rattle.std.proofs.Common.{◌≡◌, ◌≢◌, ◌⊎◌, inl, inr, ℕ, Bool, true, not, List, [], ◌∷◌, ◌++◌, map, Some, None, refl, sym, ap, subst, ◌==◌, length, IfOk, Result, Ok, Err, ◌∙◌, arith, eqb-true}
use Rattle.std.specs.Prelude.{◌↔◌, IsTrue}
use Rattle.std.specs.List.{AllByRecursion}
use Rattle.std.specs.FinMap as finite
use Rattle.fs_semantics.specs.FileTree.{Path, Tree, IsTree}
use Rattle.fs_semantics.specs.Programs as model
use Rattle.fs_semantics.specs.Programs.{Rm, Steps, Outcome, and_then, run, run_all}
use Rattle.fs_semantics.specs.Orders.{Told, IsSecondRunCounterexample, outcome}
use Rattle.fs_semantics.proofs.Words.{removed_word, not_word}
use Rattle.fs_lang.specs.declared.program.Program.{Program}
use Rattle.fs_lang.specs.declared.tree.Outcome as ending
use Rattle.fs_lang.specs.declared.tree.Outcome.TheVariants as ends
use Rattle.fs_lang.specs.Outcomes.{outcome_of}
use Rattle.fs_lang.specs.Meaning.{program_of, programs_in}
use Rattle.tree_differences.specs.declared.placing.Difference as code
use Rattle.tree_differences.specs.Differences.{Difference, AreDifferences}
use Rattle.tree_differences.specs.Listed.{difference_of}
use Rattle.smaller_witness.specs.Smaller.{IsWithin, OnlyRemoves, ChangesAgain}

-- a removal only removes
pub only_rm : (p : Path) → OnlyRemoves (Rm p)
only_rm p t u h q x there =
    let gone = ((removed_word p t u).0 h).leaves in
    sym (gone.elsewhere q (λ e. let none = sym there ∙ ap (finite.get u) e ∙ gone.here in cc)) ∙ there

-- an outcome is Error or a tree
ended : (o : Outcome) → (o ≡ None) ⊎ ((u : Tree) × (o ≡ Some u))
ended None = inl refl
ended (Some u) = inr (u, refl)

-- steps that only remove do so together
pub only_steps : (es : List Program) → AllByRecursion (λ e. OnlyRemoves (program_of e)) es → OnlyRemoves (Steps (programs_in es))
only_steps [] h t u k q x there = let same : t ≡ u = cc in ap (λ v. finite.get v q) same ∙ there
only_steps (e ∷ es) h t u k q x there = elim (ended (run (program_of e) t)) [
  | inl fails ↦ let gone = sym (ap (λ o. and_then o (run_all (programs_in es))) fails) ∙ k in cc
  | inr v ↦ h.0 t v.0 v.1 q x (only_steps es h.1 v.0 u (sym (ap (λ o. and_then o (run_all (programs_in es))) v.1) ∙ k) q x there)
]

-- and so they do with one more
pub one_more : (es : List Program) (e : Program) → AllByRecursion (λ e. OnlyRemoves (program_of e)) es → OnlyRemoves (program_of e) → AllByRecursion (λ e. OnlyRemoves (program_of e)) (es ++ e ∷ [])
one_more [] e h k = (k, tt)
one_more (d ∷ es) e h k = (h.0, one_more es e h.1 k)

-- what is within something within a tree is within the tree
pub within_within : (t u v : Tree) → IsWithin v u → IsWithin u t → IsWithin v t
within_within t u v h k p x there = k p x (h p x there)

-- a tree is within itself
pub within_itself : (t : Tree) → IsWithin t t
within_itself t p x there = there

-- where the smaller tree shows the change as well, it is a counterexample as well
pub still_changes : (es : List model.Program) (before : ℕ → ℕ → Bool) (t u : Tree) (order : List ℕ) → IsTree u → (ChangesAgain es order t → ChangesAgain es order u)
    → IsSecondRunCounterexample es (Told before) t order → IsSecondRunCounterexample es (Told before) u order
still_changes es before t u order is f c = let k = f (c.after, c.ends, c.changes) in record { is_tree = is; allowed = c.allowed; after = k.0; ends = k.1; changes = k.2 }

-- ---- whether outcomes are apart

-- where no differences are meant there are none
no_items : (xs : List code.Difference) → map difference_of xs ≡ [] → xs ≡ []
no_items [] h = refl
no_items (x ∷ xs) h = cc

-- the list is told to be empty exactly where it is
some_items : (xs : List code.Difference) (b : Bool) → b ≡ (length xs == 0) → (b ≡ true → xs ≡ []) × (xs ≡ [] → b ≡ true)
some_items [] b h = ((λ k. refl), (λ k. h))
some_items (x ∷ xs) b h = ((λ k. let none = eqb-true (length (x ∷ xs)) 0 (sym h ∙ k) in absurd (omega (arith, none))), (λ k. cc))

-- trees are told to differ exactly where they do
pub apart_word : (t u : Tree) (xs ys : List code.Difference) (b : Bool) → AreDifferences t u (map difference_of xs) → ((ds : List Difference) → AreDifferences t u ds → (ds ≡ []) ↔ (t ≡ u)) → ys ≡ xs → b ≡ (length ys == 0)
    → IsTrue (not b) ↔ (t ≢ u)
apart_word t u xs ys b all none same is =
    let word = none (map difference_of xs) all in
    let items = some_items xs b (is ∙ ap (λ zs. length zs == 0) same) in (
      (λ h e. (not_word b).0 h (items.1 (no_items xs (word.1 e)))),
      (λ differ. (not_word b).1 (λ k. differ (word.0 (ap (map difference_of) (items.0 k))))),
    )

-- and so are outcomes that are trees
pub some_apart : (t u : Tree) (b : Bool) → IsTrue b ↔ (t ≢ u) → IsTrue b ↔ (◌≡◌ {A = Outcome} (Some t) (Some u) → ⊥)
some_apart t u b h = ((λ k e. h.0 k cc), (λ differ. h.1 (λ e. differ (ap (λ v. Some v) e))))

-- what follows from a property of an Ok result holds of it
pub ok_map : {X E : Type 0} {P Q : X → Type 0} (r : Result X E) → ((x : X) → P x → Q x) → IfOk r P → IfOk r Q
ok_map (Ok x) f h = f x h
ok_map (Err e) f h = tt

-- outcomes of the code that are trees are told to differ exactly where they do
pub ended_apart : (x y : ending.Outcome) (t u : Tree) (b : Bool) → x ≡ ends.Ended t → y ≡ ends.Ended u → IsTrue b ↔ (t ≢ u) → IsTrue b ↔ (outcome_of x ≢ outcome_of y)
ended_apart x y t u b e d h =
    subst (λ z. IsTrue b ↔ (outcome_of z ≡ outcome_of y → ⊥)) (sym e) (subst (λ z. IsTrue b ↔ (◌≡◌ {A = Outcome} (Some t) (outcome_of z) → ⊥)) (sym d) (some_apart t u b h))

-- an outcome of the code that is a tree stands for that tree
pub told_ended : (x : ending.Outcome) (o : Outcome) (t : Tree) → x ≡ ends.Ended t → outcome_of x ≡ o → o ≡ Some t
told_ended x o t e h = sym h ∙ ap outcome_of e

-- and one that is Error stands for Error
pub told_error : (x : ending.Outcome) (o : Outcome) → x ≡ ends.Error → outcome_of x ≡ o → o ≡ None
told_error x o e h = sym h ∙ ap outcome_of e

-- what is told of two outcomes is told of their equals
pub same_apart : (a d x y : Outcome) (b : Bool) → a ≡ x → d ≡ y → IsTrue b ↔ (a ≢ d) → IsTrue b ↔ (x ≢ y)
same_apart a d x y b e f h = subst (λ z. IsTrue b ↔ (x ≡ z → ⊥)) f (subst (λ z. IsTrue b ↔ (z ≡ d → ⊥)) e h)

-- where the second run ends in Error, it changes what the first left
pub fails_again : (es : List model.Program) (order : List ℕ) (t after : Tree) → outcome es order t ≡ Some after → outcome es order after ≡ None → ChangesAgain es order t
fails_again es order t after h none = (after, h, (λ e. let clash = sym none ∙ e in cc))

-- where it ends in a tree, it is told to change something exactly where it does
pub again_word : (es : List model.Program) (order : List ℕ) (t after last : Tree) (b : Bool) → outcome es order t ≡ Some after → outcome es order after ≡ Some last → IsTrue b ↔ (last ≢ after) → IsTrue b ↔ ChangesAgain es order t
again_word es order t after last b h k word = (
  (λ on. (after, h, (λ e. let same : ◌≡◌ {A = Outcome} (Some last) (Some after) = sym k ∙ e in word.0 on cc))),
  (λ again.
      let one : ◌≡◌ {A = Outcome} (Some after) (Some again.0) = sym h ∙ again.1 in
      let same : after ≡ again.0 = cc in
      word.1 (λ e. again.2 (ap (outcome es order) (sym same) ∙ k ∙ ap (λ v. Some v) (e ∙ same)))),
)
