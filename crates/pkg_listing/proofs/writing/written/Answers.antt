use Rattle.pkg_listing.proofs.StoredLaws.{written_text, written_read}
use Rattle.pkg_listing.proofs.writing.written.Goals as goal

pub returns-clause-text : goal.returns-clause-text
returns-clause-text c = written_text c.args.listing.now c.in_ok-json.json c.in_ok-to_vec.field-0.items c.in_ok-json.ensures c.in_ok-to_vec.ensures.text

pub returns-clause-read : goal.returns-clause-read
returns-clause-read c = written_read c.args.listing.now c.in_ok-json.json c.in_ok-to_vec.field-0.items c.in_ok-json.ensures c.in_ok-to_vec.ensures.reads_back
