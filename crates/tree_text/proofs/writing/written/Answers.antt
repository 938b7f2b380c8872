use Rattle.tree_text.proofs.StoredLaws.{written_text, written_read}
use Rattle.tree_text.proofs.writing.written.Goals as goal

pub returns-clause-text : goal.returns-clause-text
returns-clause-text c = written_text c.in_ok-members_of.field-0 c.args.tree.now c.in_ok-to_vec.field-0.items c.in_ok-members_of.ensures c.in_ok-to_vec.ensures.text

pub returns-clause-read : goal.returns-clause-read
returns-clause-read c = written_read c.in_ok-members_of.field-0 c.args.tree.now c.in_ok-to_vec.field-0.items c.in_ok-members_of.ensures c.in_ok-to_vec.ensures.reads_back
