use Rattle.pkg_listing.proofs.ReadLaws.{on_ok}
use Rattle.pkg_listing.proofs.TextLaws.{text_again}
use Rattle.pkg_listing.proofs.writing.listing_to_json.Goals as goal

pub returns-clause-again : goal.returns-clause-again
returns-clause-again c =
    on_ok c.append.result _ (text_again c.path_texts.ensures.again c.args.listing.now c.in_ok-text.text.items c.packages.ensures.fit c.in_ok-text.ensures.text c.in_ok-text.ensures.utf8 c.in_ok-text.ensures.read)
