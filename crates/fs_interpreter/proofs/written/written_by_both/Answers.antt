use Rattle.std.proofs.Common.{ℕ, ◌<◌, ◌++◌, List, length, sym, ap, ◌∙◌}
use Rattle.std.proofs.lemmas.List.Sorted.{IsPermutation-sym}
use Rattle.fs_lang.specs.Meaning.{program_of}
use Rattle.fs_interpreter.specs.Places.{has}
use Rattle.fs_interpreter.specs.Steps.{written}
use Rattle.fs_interpreter.proofs.StepLaws.{both_below, in_first, in_second}
use Rattle.fs_interpreter.proofs.HasLaws.{has_moved, has_all, all_has, if_ok}
use Rattle.fs_interpreter.proofs.written.written_by_both.Goals as goal

pub returns-clause-first : goal.returns-clause-first
returns-clause-first c =
    let e = written c.args.table.now.paths (program_of c.args.e.now) in
    let f = written c.args.table.now.paths (program_of c.args.f.now) in
    let all = c.in_ok-add_written-2.ensures ∙ ap (λ (is : List ℕ). is ++ f) (c.in_ok-add_written.ensures ∙ ap (λ (is : List ℕ). is ++ e) c.new-places.ensures.items) in
    if_ok _ _ c.without_repeats.result (λ once is j h. is j ∙ ap (has j) c.deref.ensures.value ∙ has_moved _ _ j c.sort_unstable.ensures.permutation (ap (has j) all ∙ in_first j e f h)) c.without_repeats.ensures

pub returns-clause-second : goal.returns-clause-second
returns-clause-second c =
    let e = written c.args.table.now.paths (program_of c.args.e.now) in
    let f = written c.args.table.now.paths (program_of c.args.f.now) in
    let all = c.in_ok-add_written-2.ensures ∙ ap (λ (is : List ℕ). is ++ f) (c.in_ok-add_written.ensures ∙ ap (λ (is : List ℕ). is ++ e) c.new-places.ensures.items) in
    if_ok _ _ c.without_repeats.result (λ once is j h. is j ∙ ap (has j) c.deref.ensures.value ∙ has_moved _ _ j c.sort_unstable.ensures.permutation (ap (has j) all ∙ in_second j e f h)) c.without_repeats.ensures

pub returns-clause-below : goal.returns-clause-below
returns-clause-below c =
    let e = written c.args.table.now.paths (program_of c.args.e.now) in
    let f = written c.args.table.now.paths (program_of c.args.f.now) in
    let all = c.in_ok-add_written-2.ensures ∙ ap (λ (is : List ℕ). is ++ f) (c.in_ok-add_written.ensures ∙ ap (λ (is : List ℕ). is ++ e) c.new-places.ensures.items) in
    if_ok _ _ c.without_repeats.result
    (λ once is. all_has (λ i. i < length c.args.table.now.paths) once.items (λ j k.
    has_all (λ i. i < length c.args.table.now.paths) (e ++ f) j (both_below c.args.table.now.paths (program_of c.args.e.now) (program_of c.args.f.now))
    (ap (has j) (sym all) ∙ has_moved _ _ j (IsPermutation-sym _ _ c.sort_unstable.ensures.permutation) (sym (is j ∙ ap (has j) c.deref.ensures.value) ∙ k))))
    c.without_repeats.ensures
