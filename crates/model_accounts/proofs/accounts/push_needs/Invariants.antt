use Rattle.std.proofs.Common.{◌≡◌, ◌++◌, drop, map}
use Rattle.fs_lang.specs.Meaning.{program_of}
use Rattle.model_semantics.specs.Words.{need}
use Rattle.model_accounts.proofs.accounts.push_needs.Given as goal

-- the steps so far, with those that are still to be added
abbrev pub invariant-loop-m : goal.invariant-loop-m
invariant-loop-m l = map program_of l.steps ++ map need (drop l.m-index l.marks) ≡ map program_of l.initial.steps ++ map need l.marks
