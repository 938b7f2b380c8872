-- Lists of steps, one by one.
use Rattle.std.proofs.Common.{◌≡◌, ℕ, zero, suc, ◌-◌, ◌<◌, ◌==◌, append_assoc, List, [], ◌∷◌, ◌++◌, length, map, refl, sym, ap, ◌∙◌, arith}
use Rattle.std.specs.Prelude.{filter}
use Rattle.fs_semantics.specs.FileTree.{Path}
use Rattle.fs_semantics.specs.Programs as language
use Rattle.fs_lang.specs.declared.program.Program.{Program}
use Rattle.fs_lang.specs.declared.program.Program.TheVariants as program
use Rattle.fs_lang.specs.Meaning.{program_of, programs_in, program_of_steps}
use Rattle.model_semantics.specs.Words.{steps, sequence, sweep, from_depth}

-- the meanings of a list with one more are those and that of the one
pub one_more : (es : List Program) (e : Program) → map program_of (es ++ e ∷ []) ≡ map program_of es ++ program_of e ∷ []
one_more [] e = refl
one_more (x ∷ es) e = ap (λ l. program_of x ∷ l) (one_more es e)

-- the steps of a list are its programs as steps
pub steps_are : (es : List Program) → programs_in es ≡ steps (map program_of es)
steps_are [] = refl
steps_are (e ∷ es) = ap (language.next (program_of e)) (steps_are es)

-- steps of two programs or more are their sequence
pub two_or_more : (es : List Program) → 1 < length es → program_of (program.Steps es) ≡ sequence (map program_of es)
two_or_more [] h = absurd (omega (arith, h))
two_or_more (e ∷ []) h = absurd (omega (arith, h))
two_or_more (e ∷ f ∷ es) h = program_of_steps (e ∷ f ∷ es) ∙ ap language.Steps (steps_are (e ∷ f ∷ es))

-- the images of two lists joined are those of the one and then those of the other
map_both : {X Y : Type 0} (f : X → Y) (xs ys : List X) → map f (xs ++ ys) ≡ map f xs ++ map f ys
map_both f [] ys = refl
map_both f (x ∷ xs) ys = ap (λ l. f x ∷ l) (map_both f xs ys)

-- the sweeps of one depth, and then those of the depths below it
pub next_depth : (n : ℕ) (ps : List Path) (old new whole : List language.Program) → 0 < n → new ≡ old ++ map sweep (filter (λ p. length p == n) ps)
    → old ++ map sweep (from_depth n ps) ≡ whole → new ++ map sweep (from_depth (n - 1) ps) ≡ whole
next_depth zero ps old new whole h added before = absurd (omega (arith, h))
next_depth (suc n) ps old new whole h added before =
    let less : suc n - 1 ≡ n = omega arith in
    ap (λ k. new ++ map sweep (from_depth k ps)) less
    ∙ ap (λ l. l ++ map sweep (from_depth n ps)) added
    ∙ append_assoc old (map sweep (filter (λ p. length p == suc n) ps)) (map sweep (from_depth n ps))
    ∙ ap (λ l. old ++ l) (sym (map_both sweep (filter (λ p. length p == suc n) ps) (from_depth n ps)))
    ∙ before
