use Rattle.std.proofs.Common.{◌≡◌, ℕ, Option, None, Some, sym, ◌∙◌}
use Rattle.fs_interpreter.proofs.SearchLaws.{place_there, place_nowhere, content_there, content_found}
use Rattle.fs_interpreter.proofs.laws.searches.Goals as goal

pub returns-clause-path : goal.returns-clause-path
returns-clause-path c = place_there

pub returns-clause-no_path : goal.returns-clause-no_path
returns-clause-no_path c = place_nowhere

pub returns-clause-content : goal.returns-clause-content
returns-clause-content c = content_there

pub returns-clause-no_content : goal.returns-clause-no_content
returns-clause-no_content c = λ contents d none i there.
    let found = content_found contents d i there in
    let clash : ◌≡◌ {A = Option ℕ} None (Some found.0) = sym none ∙ found.1 in
    cc
