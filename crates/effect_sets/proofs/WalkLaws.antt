-- Steps of a walk through a program.
use Rattle.std.proofs.Common.{◌≡◌, ℕ, ◌+◌, ◌<◌, Bool, true, false, not, ◌&&◌, ◌||◌, Some, None, List, length, drop, get_or, refl, sym, ap, ◌∙◌}
use Rattle.std.proofs.lemmas.List.{drop_more}
use Rattle.fs_semantics.specs.FileTree.{Path, path_eq}
use Rattle.fs_semantics.specs.Programs.{Test, Program, Programs, If, next}
use Rattle.fs_semantics.proofs.Trees.{path_eq_same}
use Rattle.fs_lang.specs.declared.program.Program.{Program as CodeProgram}
use Rattle.fs_lang.specs.Meaning.{program_of, programs_in}
use Rattle.effect_sets.specs.Footprints.{Paths, Footprint, no_footprint, joined, ensured, in_case, sure_after, sure_after_steps, footprint_after, steps_footprint}
use Rattle.effect_sets.proofs.FoundLaws.{joined_none, joined_assoc}

-- nothing was found besides
pub same_found : (f : Footprint) → f ≡ joined f no_footprint
same_found f = sym (joined_none f)

-- a side of a disjunction that implies the other adds nothing
same_or : (b x : Bool) → (b ≡ true → x ≡ true) → (b || x) ≡ x
same_or true x h = sym (h refl)
same_or false x h = refl

-- a conjunction of a truth value with itself is that value
twice : (b : Bool) → (b && b) ≡ b
twice true = refl
twice false = refl

-- what differs from all of a set isn't taken out of it
others : (b x : Bool) → (b ≡ true → not x ≡ true) → (x && not b) ≡ x
others true true h = h refl
others true false h = refl
others false true h = refl
others false false h = refl

-- the paths that are sure to be folders stay the same
pub keeps_ensured : (a : Test) (e f : Program) (s : Paths) (p : Path) → ensured a e f ≡ Some p → s p ≡ true → sure_after (If a e f) s ≡ s
keeps_ensured a e f s p h k =
    ap (λ o. in_case o (λ p q. path_eq q p || s q) (λ q. sure_after e s q && sure_after f s q)) h
    ∙ (λ i q. same_or (path_eq q p) (s q) (λ x. ap s (path_eq_same q p x) ∙ k) i)

-- a choice whose branches keep what is sure to be a folder keeps it
pub keeps_branches : (a : Test) (e f : Program) (s : Paths) → ensured a e f ≡ None → sure_after e s ≡ s → sure_after f s ≡ s → sure_after (If a e f) s ≡ s
keeps_branches a e f s h k l =
    ap (λ o. in_case o (λ p q. path_eq q p || s q) (λ q. sure_after e s q && sure_after f s q)) h
    ∙ (λ i q. (k i q) && (l i q)) ∙ (λ i q. twice (s q) i)

-- to remove a path that isn't sure to be a folder keeps what is
pub keeps_others : (s : Paths) (p : Path) → not (s p) ≡ true → (λ q. s q && not (path_eq q p)) ≡ s
keeps_others s p h = λ i q. others (path_eq q p) (s q) (λ x. ap (λ r. not (s r)) (path_eq_same q p x) ∙ h) i

-- the programs from a place on are the one there and those behind it
pub program_next : (es : List CodeProgram) (i : ℕ) (e : CodeProgram) → i < length es → e ≡ get_or es i e → programs_in (drop i es) ≡ next (program_of e) (programs_in (drop (i + 1) es))
program_next es i e h is = ap programs_in (drop_more es i e h) ∙ ap (λ x. next (program_of x) (programs_in (drop (i + 1) es))) (sym is)

-- a step more was walked
pub one_step : (f g : Footprint) (e : Program) (rest all : Programs) (s t : Paths) → g ≡ joined f (footprint_after e s) → t ≡ sure_after e s → all ≡ next e rest
    → joined g (steps_footprint rest t) ≡ joined f (steps_footprint all s)
one_step f g e rest all s t is sure whole =
    ap (λ x. joined g (steps_footprint rest x)) sure
    ∙ ap (λ x. joined x (steps_footprint rest (sure_after e s))) is
    ∙ joined_assoc f (footprint_after e s) (steps_footprint rest (sure_after e s))
    ∙ ap (λ x. joined f (steps_footprint x s)) (sym whole)

-- what is sure after one program and the others is what is sure after all
pub one_sure : (e : Program) (rest all : Programs) (s t : Paths) → t ≡ sure_after e s → all ≡ next e rest → sure_after_steps rest t ≡ sure_after_steps all s
one_sure e rest all s t sure whole = ap (sure_after_steps rest) sure ∙ ap (λ x. sure_after_steps x s) (sym whole)

-- what both branches keep is what is sure in both
pub kept_by_both : (s a b : Paths) → a ≡ s → b ≡ s → s ≡ (λ q. a q && b q)
kept_by_both s a b h k = (λ i q. sym (twice (s q)) i) ∙ (λ i q. (sym h i q) && (sym k i q))
