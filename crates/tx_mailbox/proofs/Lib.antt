mod Pendings
mod Leaving
