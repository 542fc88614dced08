pub mod Readdress
