mod Compared
mod Counted
mod Marked
