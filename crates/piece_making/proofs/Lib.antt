mod Characters
mod Counted
