mod Packs
mod Words
