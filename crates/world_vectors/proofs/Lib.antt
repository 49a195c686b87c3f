mod NextCase
mod Parted
mod Targets
mod Kept
