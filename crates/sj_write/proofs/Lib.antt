mod Steps
mod Put
mod TreeFields
