mod Firsts
pub mod Places
