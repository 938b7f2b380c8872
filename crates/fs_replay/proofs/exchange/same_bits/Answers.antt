use Rattle.std.proofs.Common.{sym, ◌∙◌}
use Rattle.std.specs.Cmp.{booleans_Decides}
use Rattle.std.proofs.lemmas.Slice.Eq.{slice_eq-Decides}
use Rattle.fs_replay.proofs.exchange.same_bits.Goals as goal

pub returns : goal.returns
returns c = λ h. sym c.as_slice.ensures ∙ (slice_eq-Decides booleans_Decides c.as_slice.result.now c.as_slice-2.result.now c.eq.result c.eq.ensures).0 h ∙ c.as_slice-2.ensures
