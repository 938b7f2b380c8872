use Rattle.order_text.proofs.WriteLaws.{written_text, written_again}
use Rattle.order_text.proofs.writing.written.Goals as goal

pub returns-clause-text : goal.returns-clause-text
returns-clause-text c = written_text c.in_ok-items_of.field-0 c.args.texts.now c.in_ok-to_vec.field-0.items c.in_ok-items_of.ensures c.in_ok-to_vec.ensures.text

pub returns-clause-again : goal.returns-clause-again
returns-clause-again c =
    written_again c.in_ok-items_of.field-0 c.args.texts.now c.in_ok-to_vec.field-0.items c.in_ok-items_of.ensures c.in_ok-to_vec.ensures.utf8 c.in_ok-to_vec.ensures.reads_back
