pub mod Wires
pub mod Numbers
pub mod Inputs
pub mod Bitwise
pub mod Fitting
pub mod Alike
pub mod Trees
