-- What the program may say of a listing that is to have its newest form.
use Rattle.std.specs.Prelude.{◌≡◌, List, ◌++◌, ℕ, codes}
use Rattle.rh_base.specs.declared.fault.Refusal.{Refusal}
use Rattle.rh_base.specs.Refused.{IsRefusal}
use Rattle.pkg_listing.specs.Packages.{Packages}
use Rattle.pkg_listing.specs.Form.{IsListingText}
use Rattle.pkg_listing.specs.ListingText.{listing_text}

-- The text is a listing, and the report is the same listing in version 2, on a line.
pub record IsMigrated (text report : List ℕ) : Type 0 where
  pub packages : Packages
  pub given : IsListingText text packages
  pub written : report ≡ listing_text packages ++ codes "\n"
  -- what is written is read back as the same listing
  pub again : IsListingText (listing_text packages) packages

-- the text is no listing
abbrev pub BreaksListingRule : List ℕ → Refusal → Type 0
BreaksListingRule text r = IsRefusal 61 0 (codes "packages") r × ((packages : Packages) → IsListingText text packages → ⊥)
