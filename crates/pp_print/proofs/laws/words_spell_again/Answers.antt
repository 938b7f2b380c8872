-- That the words of manifests, expressions and types spell them again.
use Rattle.std.proofs.Common.{◌++◌, ℕ, List}
use Rattle.pp_syntax.specs.Tokens.{Lexeme}
use Rattle.pp_syntax.specs.Spelling.{Spells}
use Rattle.pp_print.proofs.Phrases.{AllStand, both_stand}
use Rattle.pp_print.proofs.Standing.{spelled_stand}
use Rattle.pp_print.proofs.Inners.{expression_reads}
use Rattle.pp_print.proofs.TypeLaws.{type_reads}
use Rattle.pp_print.proofs.ItemLaws.{manifest_reads}
use Rattle.pp_print.proofs.laws.words_spell_again.Goals as goal

-- tokens in the middle of a text's tokens stand as their kinds say
part_stands : (text : List ℕ) (before ts behind : List Lexeme) → Spells text (before ++ (ts ++ behind)) → AllStand ts
part_stands text before ts behind h = (both_stand ts behind (both_stand before (ts ++ behind) (spelled_stand text (before ++ (ts ++ behind)) h)).1).0

pub returns : goal.returns
returns c = record {
  manifests = λ m text ts us h d w. manifest_reads m ts d (spelled_stand text ts h) us w;
  expressions = λ x text before ts behind us h d w. expression_reads x ts d (part_stands text before ts behind h) us w;
  types = λ t text before ts behind us h d w. type_reads t ts d (part_stands text before ts behind h) us w;
}
