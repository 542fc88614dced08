pub mod FieldLaws
pub mod Gathering
pub mod LineLaws
pub mod Numbers
pub mod Printing
pub mod ResultLaws
pub mod Texts
