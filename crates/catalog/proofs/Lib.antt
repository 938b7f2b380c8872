pub mod RefLaws
pub mod RowLaws
pub mod Filling
pub mod SizeLaws
pub mod Listing
