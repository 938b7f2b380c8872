use Rattle.std.proofs.Common.{◌++◌, ℕ, List, ap, ◌∙◌}
use Rattle.pp_print.proofs.RoundTrip.{appended}
use Rattle.pp_print.proofs.manifest.print.Goals as goal

pub returns-clause-reads : goal.returns-clause-reads
returns-clause-reads c =
    appended c.args.into.now.items c.extend_from_slice.new.self.items c.args.manifest.now
    (c.in_ok-extend_from_slice.ensures.items ∙ ap (λ (t : List ℕ). c.args.into.now.items ++ t) (c.deref.ensures.value ∙ c.in_ok-text.ensures)) (c.canonical_text_is_read.ensures c.args.manifest.now c.requires)
