use Rattle.fs_semantics.specs.Orders.{Told}
use Rattle.wanted_entry.proofs.EntryLaws.{wanted_decided, ensures_exactly}
use Rattle.wanted_entry.proofs.ProbeLaws.{without_over}
use Rattle.wanted_entry.proofs.laws.wanted_entries.Goals as goal

pub returns : goal.returns
returns c = record {
  decided = wanted_decided;
  exactly = λ es before. ensures_exactly es (Told before);
  over = λ es w d dom before. without_over c.shadows.ensures.exist c.shadows.ensures.run es w d dom (Told before);
}
