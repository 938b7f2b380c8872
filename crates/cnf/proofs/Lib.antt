pub mod ClauseLaws
pub mod StoreLaws
pub mod Definitions
pub mod Gates
pub mod Wires
pub mod TextLaws
