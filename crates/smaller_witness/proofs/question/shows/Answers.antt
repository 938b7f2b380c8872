use Rattle.std.proofs.Common.{map, IsTrue, IfOk, sym, subst}
use Rattle.std.specs.Prelude.{◌↔◌}
use Rattle.fs_lang.specs.Meaning.{program_of}
use Rattle.smaller_witness.specs.Smaller.{Shows}
use Rattle.smaller_witness.proofs.question.shows.Goals as goal

pub returns-in-Apart : goal.returns-in-Apart
returns-in-Apart c = subst (λ q. IfOk c.shows_apart.result (λ b. IsTrue b ↔ Shows (map program_of c.args.programs.now) q c.args.tree.now)) (sym c.in-Apart.is) c.shows_apart.ensures

pub returns-in-Again : goal.returns-in-Again
returns-in-Again c = subst (λ q. IfOk c.shows_again.result (λ b. IsTrue b ↔ Shows (map program_of c.args.programs.now) q c.args.tree.now)) (sym c.in-Again.is) c.shows_again.ensures
