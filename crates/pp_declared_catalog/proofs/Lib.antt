pub mod ResultLaws
pub mod WishLaws
