pub mod SureLaws
