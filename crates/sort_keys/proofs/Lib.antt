pub mod FieldsRead
pub mod Firsts
