pub mod FirstExtensions
