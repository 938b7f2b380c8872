use Rattle.std.proofs.Common.{◌≡◌, ◌++◌, ◌==◌, drop, map, length}
use Rattle.std.specs.Prelude.{filter}
use Rattle.fs_lang.specs.Meaning.{program_of}
use Rattle.model_semantics.specs.Words.{sweep}
use Rattle.model_words.proofs.steps.push_sweeps_at.Given as goal

abbrev pub invariant-loop-p : goal.invariant-loop-p
invariant-loop-p l =
    map program_of l.steps ++ map sweep (filter (λ p. length p == l.depth) (drop l.p-index l.paths))
    ≡ map program_of l.initial.steps ++ map sweep (filter (λ p. length p == l.depth) l.paths)
