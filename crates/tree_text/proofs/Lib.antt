pub mod MemberLaws
pub mod WriteLaws
pub mod ReadLaws
pub mod TextLaws
pub mod StoredLaws
pub mod PrintLaws
