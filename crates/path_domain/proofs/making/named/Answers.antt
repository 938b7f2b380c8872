use Rattle.std.proofs.Common.{map, sym, ◌∙◌}
use Rattle.fs_lang.specs.Meaning.{program_of}
use Rattle.path_domain.proofs.DomainLaws.{named_exactly, paths_in}
use Rattle.path_domain.proofs.making.named.Goals as goal

pub returns : goal.returns
returns c q =
    let es = map program_of c.args.programs.now in
    let f = c.in_ok-found.found in
    let same = named_exactly es f.paths.keys (paths_in es f c.in_ok-found.ensures) q in
    ((λ h. same.0 (sym (c.in_ok-set.ensures q) ∙ h)), (λ h. c.in_ok-set.ensures q ∙ same.1 h))
