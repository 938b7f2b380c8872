-- Sequences, step by step.
use Rattle.std.proofs.Common.{◌≡◌, inl, inr, List, [], ◌∷◌, ◌++◌, Some, None, refl, sym, ap, subst, ◌∙◌}
use Rattle.fs_semantics.specs.FileTree.{Path, Tree}
use Rattle.fs_semantics.specs.Entries.{IsFileAt}
use Rattle.fs_semantics.specs.Programs.{Program, Outcome, Id, Creat, If, IsFile, and_then, run, run_all}
use Rattle.model_semantics.specs.Words.{steps, sequence, dirs, mark}
use Rattle.model_laws.proofs.LeftLaws.{Laws, Chosen}
use Rattle.fs_semantics.proofs.ConstructLaws.{split_then}

-- nothing behind an outcome leaves it
then_nothing : (r : Outcome) → r ≡ and_then r (λ t. Some t)
then_nothing None = refl
then_nothing (Some t) = refl

-- a sequence runs as its steps do
pub runs_steps : (es : List Program) (t : Tree) → run (sequence es) t ≡ run_all (steps es) t
runs_steps [] t = refl
runs_steps (e ∷ []) t = then_nothing (run e t)
runs_steps (e ∷ f ∷ es) t = refl

-- of three steps of a run the last two may be taken together
then_both : (r : Outcome) (f g : Tree → Outcome) → and_then r (λ t. and_then (f t) g) ≡ and_then (and_then r f) g
then_both None f g = refl
then_both (Some t) f g = refl

-- steps of two lists joined run as the ones and then the others do
pub runs_both : (es fs : List Program) (t : Tree) → run_all (steps (es ++ fs)) t ≡ and_then (run_all (steps es) t) (run_all (steps fs))
runs_both [] fs t = refl
runs_both (e ∷ es) fs t = ap (and_then (run e t)) (λ i u. runs_both es fs u i) ∙ then_both (run e t) (run_all (steps es)) (run_all (steps fs))

-- one step alone runs as its program
last_of : (e : Program) (u v : Tree) → run_all (steps (e ∷ [])) u ≡ Some v → run e u ≡ Some v
last_of e u v h = then_nothing (run e u) ∙ h

-- making a mark leaves a file there
pub mark_leaves : Laws → (m : Path) (t v : Tree) → run (sequence (mark m)) t ≡ Some v → IsFileAt v m
mark_leaves laws m t v h =
    let last = If (IsFile m) Id (Creat m []) in
    let both = split_then (run_all (steps (dirs m)) t) (run_all (steps (last ∷ []))) v (sym (runs_both (dirs m) (last ∷ []) t) ∙ (sym (runs_steps (mark m) t) ∙ h)) in
    at both.0 ((laws.choice (IsFile m) Id (Creat m []) both.0 v).0 (last_of last both.0 v both.2))
  where
    at : (u : Tree) → Chosen (IsFile m) Id (Creat m []) u v → IsFileAt v m
    at u (inl (is, e)) = subst (λ w. IsFileAt w m) ((laws.id u v).0 e) ((laws.file m u).0 is)
    at u (inr (is, e)) = ([], ((laws.creat m [] u v).0 e).leaves.here)
