use Rattle.std.proofs.Common.{◌+◌, length, drop}
use Rattle.pp_syntax.specs.Lexing.{lexemes_of}
use Rattle.pp_readers.specs.declared.misread.Misread.TheVariants.{Form}
use Rattle.pp_parser.specs.ItemReading.{items_at}
use Rattle.pp_parser.proofs.TreeLaws.{lexed_fit, tree_found, same_tree, no_tree, turns_are, fails_as, refused_never, refuses_syntax}
use Rattle.pp_parser.proofs.parsing.parse.Goals as goal

pub returns-in-Ok-clause-spelled : goal.returns-in-Ok-clause-spelled
returns-in-Ok-clause-spelled c =
    let ts = lexemes_of c.args.tokens.now in
    tree_found ts (drop c.in-Ok.field-0-1 ts) (length c.args.tokens.now + 1) c.in-Ok.found c.in-Ok.ensures

pub returns-in-Ok-clause-only : goal.returns-in-Ok-clause-only
returns-in-Ok-clause-only c m tree all shallow =
    let ts = lexemes_of c.args.tokens.now in
    same_tree ts (drop c.in-Ok.field-0-1 ts) (length c.args.tokens.now + 1) c.in-Ok.found m (turns_are c.args.tokens.now) (lexed_fit ts c.requires.lexed) c.in-Ok.ensures tree

pub returns-in-Err-Form-clause-only : goal.returns-in-Err-Form-clause-only
returns-in-Err-Form-clause-only c m tree all shallow =
    let ts = lexemes_of c.args.tokens.now in
    refused_never c.syntax.result (λ r. ⊥)
    (no_tree ts (length c.args.tokens.now + 1) m (turns_are c.args.tokens.now) (lexed_fit ts c.requires.lexed)
    (fails_as c.in-Err-Form.field-0 (Form c.in-Err-Form.index) (items_at (length c.args.tokens.now + 1) ts) c.in-Err-Form.field-0-is c.in-Err-Form.ensures) tree)

pub returns-in-Err-Form-clause-refused : goal.returns-in-Err-Form-clause-refused
returns-in-Err-Form-clause-refused c =
    let ts = lexemes_of c.args.tokens.now in
    refuses_syntax ts (length c.args.tokens.now + 1) c.syntax.result (turns_are c.args.tokens.now) c.requires.lexed c.in_ok-check.ensures.all_in c.in_ok-check.ensures.shallow
    (fails_as c.in-Err-Form.field-0 (Form c.in-Err-Form.index) (items_at (length c.args.tokens.now + 1) ts) c.in-Err-Form.field-0-is c.in-Err-Form.ensures) c.syntax.ensures
