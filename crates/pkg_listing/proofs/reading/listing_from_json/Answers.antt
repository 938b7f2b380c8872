use Rattle.std.proofs.Common.{◌≡◌, None, subst}
use Rattle.serde_json.specs.View.{view}
use Rattle.rh_base.specs.Reading.{Fails}
use Rattle.pkg_listing.specs.Reading.{listing_of}
use Rattle.pkg_listing.proofs.FormLaws.{listing_read, refused_with}
use Rattle.pkg_listing.proofs.TextLaws.{all_proper}
use Rattle.pkg_listing.proofs.reading.listing_from_json.Goals as goal

pub returns-in-Ok-listing_of-clause-found : goal.returns-in-Ok-listing_of-clause-found
returns-in-Ok-listing_of-clause-found c =
    listing_read c.args.bytes.now (view c.in-Ok.json) c.in-Ok-listing_of.listing c.in-Ok.ensures.ok.0 c.in-Ok.ensures.ok.1 c.in-Ok-listing_of.ensures (all_proper c.in-Ok-listing_of.listing c.packages.ensures.fit)

pub returns-in-Ok-listing_of-clause-only : goal.returns-in-Ok-listing_of-clause-only
returns-in-Ok-listing_of-clause-only c ps h =
    c.listing_texts.ensures c.args.bytes.now c.in-Ok-listing_of.listing ps
    (listing_read c.args.bytes.now (view c.in-Ok.json) c.in-Ok-listing_of.listing c.in-Ok.ensures.ok.0 c.in-Ok.ensures.ok.1 c.in-Ok-listing_of.ensures (all_proper c.in-Ok-listing_of.listing c.packages.ensures.fit)) h

pub returns-in-Err-Form-clause-refused : goal.returns-in-Err-Form-clause-refused
returns-in-Err-Form-clause-refused c =
    let none : listing_of (view c.in-Ok.json) ≡ None = subst (λ m. Fails m (listing_of (view c.in-Ok.json))) c.in-Err-Form.field-0-is c.in-Err-Form.ensures in
    refused_with c.args.bytes.now (view c.in-Ok.json) c.refused-in-Err-Form.result c.in-Ok.ensures.ok.1 none c.refused-in-Err-Form.ensures
