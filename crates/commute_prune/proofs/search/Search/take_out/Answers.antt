use Rattle.std.proofs.Common.{refl}
use Rattle.commute_prune.proofs.SearchLaws.{search_without}
use Rattle.commute_prune.proofs.search.Search.take_out.Goals as goal

pub returns : goal.returns
returns c = λ order rows kept h. search_without order rows kept c.args.k c.args.self.now _ c.requires refl refl refl h
